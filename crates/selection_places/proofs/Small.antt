-- How large a selected function is, and how many of its registers are open.
use Rattle.std.proofs.Common.{◌≡◌, ℕ, zero, suc, ◌+◌, ◌*◌, ◌<◌, ◌≤◌, ◌⊎◌, inl, inr, Bool, true, false, List, [], ◌∷◌, map, length, refl, sym, ap, ◌∙◌, subst, arith, le_refl}
use Rattle.std.specs.Prelude.{◌≢◌, Contains, slice_index_or}
use Rattle.std.proofs.lemmas.Bool.{true≢false}
use Rattle.bs_words.specs.declared.types.Comp.{Comp}
use Rattle.bs_words.specs.declared.types.Comp.TheVariants as comp
use Rattle.bs_words.specs.declared.types.Loc.TheVariants as loc
use Rattle.bs_words.specs.declared.types.Ret.{Ret}
use Rattle.bs_words.specs.declared.types.Ret.TheVariants as ret
use Rattle.cmm_tree.specs.Tree.{FunctionTree, Expression, Integer, Pointer, Symbol, Name, Nothing, Float, Let, Assign, Operator, Load, Store, Alloc, App, Extcall, Checkbound, Raise, Seq, If, Switch, Catch, Exit, Try, Expressions, NoMore, More, Bindings, NoBinding, Bind, Cases, NoCase, Choose, Handlers, NoHandler, Handle}
use Rattle.cmm_types.specs.Types.{Scoped, type_of, body_type, result_of}
use Rattle.mach_ir.specs.Placed.{colour_numbers}
use Rattle.mach_ir.specs.Sizes.{Size, HasSize, OpenAtMost}
use Rattle.mach_ir.specs.Walks.{IsRegister}
use Rattle.mach_ir.specs.declared.reg.Reg.{Reg}
use Rattle.colouring_rules.proofs.Open.{machine_open, slot_open, machine_slot}
use Rattle.selection_rules.specs.Select.{NamedRegister, scopes, selected, first_after_colours, seat, seats, result_seat, params_from, colour_regs, regs_of, width, is_based}
use Rattle.selection_laws.specs.Fits.{Fits, RowFits, BindingsFit, CasesFit, HandlersFit, FunctionFits}
use Rattle.selection_places.proofs.Sets.{Role, Plain, New, Seated, IsColour, Block, is_seated, left, right as in_right, One, it, Listed}
use Rattle.selection_places.proofs.Owned.{dropped, kept_of, Own_drop, Own, BaseOwn, RowOwn, BoundOwn, SeqOwn, CasesOwn, HandlersOwn, LabelsOwn, Either}
use Rattle.selection_places.proofs.Placed.{selected_stands}
use Rattle.selection_places.proofs.Weights.{instrs_weigh, operands_weigh, selected_weight}
use Rattle.selection_places.proofs.Whole.{Whole, whole_block, opens_of, params_of, moved_at, env_of, HasRole, has, has_role, selected_origin}
use Rattle.selection_rules.proofs.Rows.{few_regs}
use Rattle.selection_rules.proofs.Exits.{params_length}

-- ---- sizes

abbrev pub size_of : FunctionTree → Size
size_of f =
    let most = 8 * width f.body + 3 * length f.params + 5 in
    record { instrs = most; operands = most; registers = (selected f).labels; labels = (selected f).labels }

below : {Q : Role → Reg → Type 0} {lo hi k : ℕ} {r : Reg} → Block Q lo hi k → HasRole Q r → r.number < hi
below {r = r} b (has t x) = b.to t r x

-- Selected code is as large as its tree is wide.
pub selected_small : (f : FunctionTree) → HasSize (selected f) (size_of f)
selected_small f =
    let most = selected_weight f in
    let instrs = instrs_weigh (selected f).code in
    let operands = operands_weigh (selected f).code in
    record {
      instrs = omega (arith, most, instrs);
      operands = omega (arith, most, operands);
      numbers = λ r x. below (whole_block f) (has_role f r x);
      origins = λ r x. subst (λ n. n < (selected f).labels) (sym (selected_origin f r x)) (below (whole_block f) (has_role f r x));
      labels = le_refl (selected f).labels;
    }

-- No register of selected code is in a slot.
pub selected_no_slot : (f : FunctionTree) (r : Reg) → IsRegister (selected f) r → (k : ℕ) → r.loc ≢ loc.Slot k
selected_no_slot f r x k e = by (selected_stands f r x)
  where
    by : (r.loc ≡ loc.Unset) ⊎ IsColour r.loc → ⊥
    by (inl u) = slot_open e u
    by (inr c) = machine_slot c.is e

-- ---- seats have places, since the convention has enough

place_fixed : (ns : List ℕ) (i : ℕ) → i < length ns → slice_index_or (map loc.Machine ns) i loc.Unset ≢ loc.Unset
place_fixed [] i less e = omega (arith, less)
place_fixed (n ∷ ns) zero less e = machine_open refl e
place_fixed (n ∷ ns) (suc i) less e = place_fixed ns i (omega (arith, less)) e

seat_fixed : (i n : ℕ) (c : Comp) → i < 16 → (seat i n c).loc ≢ loc.Unset
seat_fixed i n c less = place_fixed (10 ∷ 11 ∷ 12 ∷ 13 ∷ 14 ∷ 15 ∷ 16 ∷ 17 ∷ 18 ∷ 19 ∷ 20 ∷ 21 ∷ 22 ∷ 23 ∷ 24 ∷ 25 ∷ []) i less

seats_fixed : (i n : ℕ) (rs : List Reg) → i + length rs ≤ 16 → (r : Reg) → Listed Seated (seats i n rs) Seated r → r.loc ≢ loc.Unset
seats_fixed i n [] few r x e = x
seats_fixed i n (q ∷ rs) few r (left (it a b)) e = seat_fixed i n q.comp (omega (arith, few)) (sym (ap (λ (z : Reg). z.loc) b) ∙ e)
seats_fixed i n (q ∷ rs) few r (in_right x) e = seats_fixed (suc i) (suc n) rs (omega (arith, few)) r x e

result_fixed : (n : ℕ) (result : Ret) (r : Reg) → Listed Seated (result_seat n result) Seated r → r.loc ≢ loc.Unset
result_fixed n ret.Unit r x e = x
result_fixed n (ret.Comp c) r (left (it a b)) e = seat_fixed 0 n c (omega arith) (sym (ap (λ (z : Reg). z.loc) b) ∙ e)
result_fixed n (ret.Comp c) r (in_right x) e = x

colours_fixed : (n : ℕ) (cs : List ℕ) (r : Reg) → Listed Seated (colour_regs n cs) Seated r → r.loc ≢ loc.Unset
colours_fixed n [] r x e = x
colours_fixed n (c ∷ cs) r (left (it a b)) e = machine_open (ap (λ (z : Reg). z.loc) b) e
colours_fixed n (c ∷ cs) r (in_right x) e = colours_fixed (suc n) cs r x e

not_one : {u : Role} {q r : Reg} → is_seated u ≡ false → One u q Seated r → ⊥
not_one e (it a b) = true≢false (ap is_seated a ∙ e)

not_listed : (r : Reg) (u : Role) (rs : List Reg) → is_seated u ≡ false → Listed u rs Seated r → ⊥
not_listed r u [] e x = x
not_listed r u (q ∷ rs) e (left x) = not_one e x
not_listed r u (q ∷ rs) e (in_right x) = not_listed r u rs e x

not_dropped : (r : Reg) (env : List NamedRegister) (b : ℕ) (e : Expression) → Own_drop env b e Seated r → ⊥
not_dropped r env b e x = not_listed r Plain (dropped (type_of (scopes env) e) b) refl x

not_label : (r : Reg) (b : ℕ) (hs : Handlers) → LabelsOwn b hs Seated r → ⊥
not_label r b NoHandler x = x
not_label r b (Handle at label params body rest) (left x) = not_listed r Plain (params_from (suc b) params) refl x
not_label r b (Handle at label params body rest) (in_right x) = not_label r (suc b + length params) rest x

chosen : (A B : Role → Reg → Type 0) (q : Bool) (r : Reg) → (A Seated r → ⊥) → (B Seated r → ⊥) → Either q A B Seated r → ⊥
chosen A B true r f g x = f x
chosen A B false r f g x = g x

mutual
  fixed : (env : List NamedRegister) (names : List Scoped) (b : ℕ) (e : Expression) → Fits names e → (r : Reg) → Own env b e Seated r → r.loc ≢ loc.Unset
  fixed env names b (Integer at w) fits r x u = not_dropped r env b (Integer at w) x
  fixed env names b (Pointer at w) fits r x u = not_dropped r env b (Pointer at w) x
  fixed env names b (Symbol at name) fits r x u = not_dropped r env b (Symbol at name) x
  fixed env names b (Name at n) fits r x u = not_dropped r env b (Name at n) x
  fixed env names b (Nothing at) fits r x u = x
  fixed env names b (Float at word_at operands) fits r x u = x
  fixed env names b (Let at bindings body) fits r (left x) u = not_dropped r env b (Let at bindings body) x
  fixed env names b (Let at bindings body) fits r (in_right (left x)) u = fixed_bound env names _ bindings fits.0 r x u
  fixed env names b (Let at bindings body) fits r (in_right (in_right x)) u = fixed _ _ _ body fits.1 r x u
  fixed env names b (Assign at name_at name e) fits r (left x) u = not_one refl x
  fixed env names b (Assign at name_at name e) fits r (in_right x) u = fixed env names _ e fits r x u
  fixed env names b (Operator at op e g) fits r (left x) u = not_dropped r env b (Operator at op e g) x
  fixed env names b (Operator at op e g) fits r (in_right (left x)) u = not_one refl x
  fixed env names b (Operator at op e g) fits r (in_right (in_right (left x))) u = not_one refl x
  fixed env names b (Operator at op e g) fits r (in_right (in_right (in_right (left x)))) u = fixed env names _ e fits.0 r x u
  fixed env names b (Operator at op e g) fits r (in_right (in_right (in_right (in_right x)))) u = fixed env names _ g fits.1 r x u
  fixed env names b (App at callee arguments result result_at) fits r (left x) u = not_dropped r env b (App at callee arguments result result_at) x
  fixed env names b (App at callee arguments result result_at) fits r (in_right (left x)) u = not_one refl x
  fixed env names b (App at callee arguments result result_at) fits r (in_right (in_right (left x))) u = not_listed r Plain
      (regs_of env (suc (suc b)) arguments) refl x
  fixed env names b (App at callee arguments result result_at) fits r (in_right (in_right (in_right (left x)))) u = seats_fixed 0 _
      (regs_of env (suc (suc b)) arguments) (let few = few_regs env (suc (suc b)) arguments fits.0 in omega (arith, few)) r x u
  fixed env names b (App at callee arguments result result_at) fits r (in_right (in_right (in_right (in_right (left x))))) u = result_fixed _ result r x u
  fixed env names b (App at callee arguments result result_at) fits r (in_right (in_right (in_right (in_right (in_right (left x)))))) u =
      fixed env names _ callee (fits.1).0 r x u
  fixed env names b (App at callee arguments result result_at) fits r (in_right (in_right (in_right (in_right (in_right (in_right x)))))) u =
      fixed_row env names _ arguments (fits.1).1 r x u
  fixed env names b (Extcall at frame name arguments result result_at) fits r (left x) u = not_dropped r env b
      (Extcall at frame name arguments result result_at) x
  fixed env names b (Extcall at frame name arguments result result_at) fits r (in_right (left x)) u = not_listed r Plain (regs_of env (suc b) arguments) refl x
  fixed env names b (Extcall at frame name arguments result result_at) fits r (in_right (in_right (left x))) u = seats_fixed 0 _
      (regs_of env (suc b) arguments) (let few = few_regs env (suc b) arguments fits.0 in omega (arith, few)) r x u
  fixed env names b (Extcall at frame name arguments result result_at) fits r (in_right (in_right (in_right (left x)))) u = result_fixed _ result r x u
  fixed env names b (Extcall at frame name arguments result result_at) fits r (in_right (in_right (in_right (in_right x)))) u =
      fixed_row env names _ arguments (fits.1).1 r x u
  fixed env names b (Seq at elements) fits r (left x) u = not_dropped r env b (Seq at elements) x
  fixed env names b (Seq at elements) fits r (in_right x) u = fixed_seq env names _ elements fits r x u
  fixed env names b (If at condition e g) fits r (left x) u = not_dropped r env b (If at condition e g) x
  fixed env names b (If at condition e g) fits r (in_right (left x)) u = not_one refl x
  fixed env names b (If at condition e g) fits r (in_right (in_right (left x))) u = fixed env names _ condition fits.0 r x u
  fixed env names b (If at condition e g) fits r (in_right (in_right (in_right (left x)))) u = fixed env names _ e (fits.1).0 r x u
  fixed env names b (If at condition e g) fits r (in_right (in_right (in_right (in_right x)))) u = fixed env names _ g (fits.1).1 r x u
  fixed env names b (Catch at body handlers) fits r (left x) u = not_dropped r env b (Catch at body handlers) x
  fixed env names b (Catch at body handlers) fits r (in_right (left x)) u = not_label r _ handlers x
  fixed env names b (Catch at body handlers) fits r (in_right (in_right (left x))) u = fixed env names _ body fits.0 r x u
  fixed env names b (Catch at body handlers) fits r (in_right (in_right (in_right x))) u = fixed_handlers env names _ _ handlers fits.1 r x u
  fixed env names b (Exit at label_at label arguments) fits r (left x) u = not_listed r Plain (regs_of env (suc b) arguments) refl x
  fixed env names b (Exit at label_at label arguments) fits r (in_right x) u = fixed_row env names _ arguments fits r x u
  fixed env names b (Load at chunk address) fits r (left x) u = not_dropped r env b (Load at chunk address) x
  fixed env names b (Load at chunk address) fits r (in_right (left x)) u = not_one refl x
  fixed env names b (Load at chunk address) fits r (in_right (in_right x)) u = fixed_base env names _ address fits r
      (λ x u. fixed env names _ address fits r x u) x u
  fixed env names b (Store at chunk address e) fits r (left x) u = not_one refl x
  fixed env names b (Store at chunk address e) fits r (in_right (left x)) u = not_one refl x
  fixed env names b (Store at chunk address e) fits r (in_right (in_right (left x))) u = fixed_base env names _ address fits.0 r
      (λ x u. fixed env names _ address fits.0 r x u) x u
  fixed env names b (Store at chunk address e) fits r (in_right (in_right (in_right x))) u = fixed env names _ e fits.1 r x u
  fixed env names b (Checkbound at e g) fits r (left x) u = not_one refl x
  fixed env names b (Checkbound at e g) fits r (in_right (left x)) u = not_one refl x
  fixed env names b (Checkbound at e g) fits r (in_right (in_right (left x))) u = fixed env names _ e fits.0 r x u
  fixed env names b (Checkbound at e g) fits r (in_right (in_right (in_right x))) u = fixed env names _ g fits.1 r x u
  fixed env names b (Raise at e) fits r (left x) u = not_one refl x
  fixed env names b (Raise at e) fits r (in_right (left (it c q))) u = seat_fixed 0 (suc (suc b)) comp.Val (omega arith) (sym (ap (λ (z : Reg). z.loc) q) ∙ u)
  fixed env names b (Raise at e) fits r (in_right (in_right x)) u = fixed env names _ e fits r x u
  fixed env names b (Switch at size_at size selector cases) fits r (left x) u = not_dropped r env b (Switch at size_at size selector cases) x
  fixed env names b (Switch at size_at size selector cases) fits r (in_right (left x)) u = not_one refl x
  fixed env names b (Switch at size_at size selector cases) fits r (in_right (in_right (left x))) u = fixed env names _ selector (fits.1).0 r x u
  fixed env names b (Switch at size_at size selector cases) fits r (in_right (in_right (in_right x))) u = fixed_cases env names _ cases (fits.1).1 r x u
  fixed env names b (Try at body name_at name handler) fits r (left x) u = not_dropped r env b (Try at body name_at name handler) x
  fixed env names b (Try at body name_at name handler) fits r (in_right (left x)) u = not_one refl x
  fixed env names b (Try at body name_at name handler) fits r (in_right (in_right (left (it c q)))) u = seat_fixed 0 (suc (suc (suc (suc b)))) comp.Val
      (omega arith) (sym (ap (λ (z : Reg). z.loc) q) ∙ u)
  fixed env names b (Try at body name_at name handler) fits r (in_right (in_right (in_right (left x)))) u = fixed env names _ body fits.0 r x u
  fixed env names b (Try at body name_at name handler) fits r (in_right (in_right (in_right (in_right x)))) u = fixed _ _ _ handler fits.1 r x u
  fixed env names b (Alloc at header_at header operands) fits r (left x) u = not_dropped r env b (Alloc at header_at header operands) x
  fixed env names b (Alloc at header_at header operands) fits r (in_right (left x)) u = not_one refl x
  fixed env names b (Alloc at header_at header operands) fits r (in_right (in_right (left x))) u = not_one refl x
  fixed env names b (Alloc at header_at header operands) fits r (in_right (in_right (in_right (left x)))) u = not_listed r Plain
      (regs_of env (suc (suc (suc b))) operands) refl x
  fixed env names b (Alloc at header_at header operands) fits r (in_right (in_right (in_right (in_right x)))) u = fixed_row env names _ operands
      (fits.1).1 r x u

  fixed_base : (env : List NamedRegister) (names : List Scoped) (b : ℕ) (e : Expression) → Fits names e → (r : Reg) → (Own env b e Seated r → r.loc ≢ loc.Unset) →
      BaseOwn env b e (Own env b e) Seated r → r.loc ≢ loc.Unset
  fixed_base env names b (Operator at op base (Integer at' w)) fits r whole x u =
      chosen (Own env b base) (Own env b (Operator at op base (Integer at' w))) (is_based op w) r (λ z. fixed env names b base fits.0 r z u) (λ z. whole z u) x
  fixed_base env names b e fits r whole x u = whole x u

  fixed_row : (env : List NamedRegister) (names : List Scoped) (b : ℕ) (es : Expressions) → RowFits names es → (r : Reg) → RowOwn env b es Seated r → r.loc ≢ loc.Unset
  fixed_row env names b NoMore fits r x u = x
  fixed_row env names b (More e rest) fits r (left x) u = fixed env names _ e fits.0 r x u
  fixed_row env names b (More e rest) fits r (in_right x) u = fixed_row env names _ rest fits.1 r x u

  fixed_bound : (env : List NamedRegister) (names : List Scoped) (b : ℕ) (bs : Bindings) → BindingsFit names bs → (r : Reg) → BoundOwn env b bs Seated r →
      r.loc ≢ loc.Unset
  fixed_bound env names b NoBinding fits r x u = x
  fixed_bound env names b (Bind at name declared e rest) fits r (left x) u = not_one refl x
  fixed_bound env names b (Bind at name declared e rest) fits r (in_right (left x)) u = fixed env names _ e fits.0 r x u
  fixed_bound env names b (Bind at name declared e rest) fits r (in_right (in_right x)) u = fixed_bound _ _ _ rest fits.1 r x u

  fixed_seq : (env : List NamedRegister) (names : List Scoped) (b : ℕ) (es : Expressions) → RowFits names es → (r : Reg) → SeqOwn env b es Seated r → r.loc ≢ loc.Unset
  fixed_seq env names b NoMore fits r x u = x
  fixed_seq env names b (More e rest) fits r (left x) u = not_listed r Plain (kept_of env b e) refl x
  fixed_seq env names b (More e rest) fits r (in_right (left x)) u = fixed env names _ e fits.0 r x u
  fixed_seq env names b (More e rest) fits r (in_right (in_right x)) u = fixed_seq env names _ rest fits.1 r x u

  fixed_cases : (env : List NamedRegister) (names : List Scoped) (b : ℕ) (cs : Cases) → CasesFit names cs → (r : Reg) → CasesOwn env b cs Seated r → r.loc ≢ loc.Unset
  fixed_cases env names b NoCase fits r x u = x
  fixed_cases env names b (Choose indexes body rest) fits r (left x) u = fixed env names _ body fits.0 r x u
  fixed_cases env names b (Choose indexes body rest) fits r (in_right x) u = fixed_cases env names _ rest fits.1 r x u

  fixed_handlers : (env : List NamedRegister) (names : List Scoped) (l b : ℕ) (hs : Handlers) → HandlersFit names hs → (r : Reg) → HandlersOwn env l b hs Seated r →
      r.loc ≢ loc.Unset
  fixed_handlers env names l b NoHandler fits r x u = x
  fixed_handlers env names l b (Handle at label params body rest) fits r (left x) u = fixed _ _ _ body fits.0 r x u
  fixed_handlers env names l b (Handle at label params body rest) fits r (in_right x) u = fixed_handlers env names _ _ rest fits.1 r x u

whole_fixed : (f : FunctionTree) → FunctionFits f → (r : Reg) → Whole f Seated r → r.loc ≢ loc.Unset
whole_fixed f fits r (left x) u = colours_fixed 0 colour_numbers r x u
whole_fixed f fits r (in_right (left x)) u = seats_fixed 0 first_after_colours (params_of f)
    (let same = params_length (moved_at f) f.params in let few = fits.params in omega (arith, same, few)) r x u
whole_fixed f fits r (in_right (in_right (left x))) u = not_listed r Plain (params_of f) refl x
whole_fixed f fits r (in_right (in_right (in_right (left x)))) u = not_one refl x
whole_fixed f fits r (in_right (in_right (in_right (in_right (left x))))) u = result_fixed _ (result_of (body_type f)) r x u
whole_fixed f fits r (in_right (in_right (in_right (in_right (in_right x))))) u = fixed (env_of f) _ _ f.body fits.body r x u

-- So many registers of selected code are open.
pub selected_open : (f : FunctionTree) → FunctionFits f → OpenAtMost (selected f) (opens_of f)
selected_open f fits = record { numbers = (whole_block f).numbers; few = (whole_block f).few; all = λ r x u. by r u (has_role f r x) }
  where
    by : (r : Reg) → r.loc ≡ loc.Unset → HasRole (Whole f) r → Contains (whole_block f).numbers r.number
    by r u (has Plain x) = (whole_block f).each Plain r x refl
    by r u (has New x) = (whole_block f).each New r x refl
    by r u (has Seated x) = absurd (whole_fixed f fits r x u)
