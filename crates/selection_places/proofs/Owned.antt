-- The registers that the code of an expression has of its own.
use Rattle.std.proofs.Common.{◌≡◌, ℕ, suc, ◌+◌, inl, inr, Bool, true, false, List, [], ◌∷◌, length, map, zero, refl, sym, ap, ◌∙◌, arith, le_refl}
use Rattle.std.specs.Prelude.{slice_index_or, Contains}
use Rattle.std.proofs.lemmas.Bool.{true≢false}
use Rattle.std.proofs.lemmas.List.Elements.{Contains-append_left}
use Rattle.bs_words.specs.Fits.{type_of_comp}
use Rattle.bs_words.specs.declared.types.Comp.{Comp}
use Rattle.bs_words.specs.declared.types.Comp.TheVariants as comp
use Rattle.bs_words.specs.declared.types.Loc.TheVariants as loc
use Rattle.bs_words.specs.declared.types.Ret.{Ret}
use Rattle.bs_words.specs.declared.types.Ret.TheVariants as ret
use Rattle.bs_words.specs.declared.types.Ty.{Ty}
use Rattle.bs_words.specs.declared.types.Ty.TheVariants as ty
use Rattle.cmm_tree.specs.Tree.{Parameter, Expression, Integer, Pointer, Symbol, Name, Nothing, Float, Let, Assign, Operator, Load, Store, Alloc, App, Extcall, Checkbound, Raise, Seq, If, Switch, Catch, Exit, Try, Expressions, NoMore, More, Bindings, NoBinding, Bind, Cases, NoCase, Choose, Handlers, NoHandler, Handle}
use Rattle.cmm_types.specs.Types.{type_of}
use Rattle.cmm_types.proofs.Containing.{contains_head, contains_tail}
use Rattle.mach_ir.specs.Placed.{colour_numbers}
use Rattle.mach_ir.specs.Seats.{argument_locations}
use Rattle.mach_ir.specs.declared.reg.Reg.{Reg}
use Rattle.selection_rules.specs.Select.{NamedRegister, scopes, fresh_register, seat, seats, result_seat, params_from, with_params, width, width_row, width_bound, width_labels, width_handlers, width_cases, count_cases, bound_name, env_after, regs_of, raised_name, is_based, base_of}
use Rattle.cmm_tree.specs.Measures.{count_of}
use Rattle.selection_places.proofs.Sets.{Role, Plain, New, Seated, PlaceOf, is_seated, Both, One, it, Listed, Block, block_in, block_few, block_from, block_then, block_one, no_block}
use Rattle.selection_rules.proofs.Rows.{regs_length}
use Rattle.selection_rules.proofs.Once.{row_sum, row_width}

-- where a node of no value has a part with one, the register for that
abbrev pub dropped : Ty → ℕ → List Reg
dropped ty.NoValue b = fresh_register b ty.Addr ∷ []
dropped _ b = []

-- and the register of a value, where there is one
abbrev pub kept : Ty → ℕ → List Reg
kept ty.NoValue b = []
kept type b = fresh_register b type ∷ []

-- an exit leaves none
abbrev pub kept_of : List NamedRegister → ℕ → Expression → List Reg
kept_of env b (Exit at label_at label arguments) = []
kept_of env b e = kept (type_of (scopes env) e) b

abbrev pub Own_drop : List NamedRegister → ℕ → Expression → Role → Reg → Type 0
Own_drop env b e t r = Listed Plain (dropped (type_of (scopes env) e) b) t r

abbrev pub drops : List NamedRegister → ℕ → Expression → ℕ
drops env b e = length (dropped (type_of (scopes env) e) b)

abbrev pub Either : Bool → (Role → Reg → Type 0) → (Role → Reg → Type 0) → Role → Reg → Type 0
Either true A B t r = A t r
Either false A B t r = B t r

abbrev pub LabelsOwn : ℕ → Handlers → Role → Reg → Type 0
LabelsOwn b NoHandler t r = ⊥
LabelsOwn b (Handle at label params body rest) t r =
    Both (Listed Plain (params_from (suc b) params)) (LabelsOwn (suc b + length params) rest) t r

abbrev mutual
  pub Own : List NamedRegister → ℕ → Expression → Role → Reg → Type 0
  Own env b (Integer at w) t r = Own_drop env b (Integer at w) t r
  Own env b (Pointer at w) t r = Own_drop env b (Pointer at w) t r
  Own env b (Symbol at name) t r = Own_drop env b (Symbol at name) t r
  Own env b (Name at x) t r = Own_drop env b (Name at x) t r
  Own env b (Nothing at) t r = ⊥
  Own env b (Float at word_at operands) t r = ⊥
  Own env b (Let at bindings body) t r =
      Both (Own_drop env b (Let at bindings body))
      (Both (BoundOwn env (suc b) bindings) (Own (env_after env (suc b) bindings) (suc b + width_bound bindings) body)) t r
  Own env b (Assign at name_at name e) t r =
      Both (One Plain (fresh_register (suc b) (type_of (scopes env) e))) (Own env (suc (suc b)) e) t r
  Own env b (Operator at op e g) t r =
      Both (Own_drop env b (Operator at op e g))
      (Both (One Plain (fresh_register (suc b) (type_of (scopes env) e)))
      (Both (One Plain (fresh_register (suc (suc b)) (type_of (scopes env) g)))
      (Both (Own env (suc (suc (suc b))) e) (Own env (suc (suc (suc b)) + width e) g)))) t r
  Own env b (App at callee arguments result result_at) t r =
      Both (Own_drop env b (App at callee arguments result result_at))
      (Both (One Plain (fresh_register (suc b) (type_of (scopes env) callee)))
      (Both (Listed Plain (regs_of env (suc (suc b)) arguments))
      (Both (Listed Seated (seats 0 (suc (suc b) + count_of arguments) (regs_of env (suc (suc b)) arguments)))
      (Both (Listed Seated (result_seat (suc (suc b) + count_of arguments + count_of arguments) result))
      (Both (Own env (suc (suc (suc b) + count_of arguments + count_of arguments)) callee)
      (RowOwn env (suc (suc (suc b) + count_of arguments + count_of arguments) + width callee) arguments)))))) t r
  Own env b (Extcall at frame name arguments result result_at) t r =
      Both (Own_drop env b (Extcall at frame name arguments result result_at))
      (Both (Listed Plain (regs_of env (suc b) arguments))
      (Both (Listed Seated (seats 0 (suc b + count_of arguments) (regs_of env (suc b) arguments)))
      (Both (Listed Seated (result_seat (suc b + count_of arguments + count_of arguments) result))
      (RowOwn env (suc (suc b + count_of arguments + count_of arguments)) arguments)))) t r
  Own env b (Seq at elements) t r = Both (Own_drop env b (Seq at elements)) (SeqOwn env (suc b) elements) t r
  Own env b (If at condition e g) t r =
      Both (Own_drop env b (If at condition e g))
      (Both (One Plain (fresh_register (suc b) (type_of (scopes env) condition)))
      (Both (Own env (suc (suc (suc (suc b)))) condition)
      (Both (Own env (suc (suc (suc (suc b))) + width condition) e)
      (Own env (suc (suc (suc (suc b))) + width condition + width e) g)))) t r
  Own env b (Catch at body handlers) t r =
      Both (Own_drop env b (Catch at body handlers))
      (Both (LabelsOwn (suc (suc b)) handlers)
      (Both (Own env (suc (suc b) + width_labels handlers) body)
      (HandlersOwn env (suc (suc b)) (suc (suc b) + width_labels handlers + width body) handlers))) t r
  Own env b (Exit at label_at label arguments) t r =
      Both (Listed Plain (regs_of env (suc b) arguments)) (RowOwn env (suc b + count_of arguments) arguments) t r
  Own env b (Load at chunk address) t r =
      Both (Own_drop env b (Load at chunk address))
      (Both (One Plain (fresh_register (suc b) (type_of (scopes env) (base_of address))))
      (BaseOwn env (suc (suc b)) address (Own env (suc (suc b)) address))) t r
  Own env b (Store at chunk address e) t r =
      Both (One Plain (fresh_register (suc b) (type_of (scopes env) (base_of address))))
      (Both (One Plain (fresh_register (suc (suc b)) (type_of (scopes env) e)))
      (Both (BaseOwn env (suc (suc (suc b))) address (Own env (suc (suc (suc b))) address))
      (Own env (suc (suc (suc b)) + width address) e))) t r
  Own env b (Checkbound at e g) t r =
      Both (One Plain (fresh_register (suc b) (type_of (scopes env) e)))
      (Both (One Plain (fresh_register (suc (suc b)) (type_of (scopes env) g)))
      (Both (Own env (suc (suc (suc b))) e) (Own env (suc (suc (suc b)) + width e) g))) t r
  Own env b (Raise at e) t r =
      Both (One Plain (fresh_register (suc b) (type_of (scopes env) e)))
      (Both (One Seated (seat 0 (suc (suc b)) comp.Val)) (Own env (suc (suc (suc b))) e)) t r
  Own env b (Switch at size_at size selector cases) t r =
      Both (Own_drop env b (Switch at size_at size selector cases))
      (Both (One Plain (fresh_register (suc b) (type_of (scopes env) selector)))
      (Both (Own env (suc (suc (suc b)) + count_cases cases) selector)
      (CasesOwn env (suc (suc (suc b)) + count_cases cases + width selector) cases))) t r
  Own env b (Try at body name_at name handler) t r =
      Both (Own_drop env b (Try at body name_at name handler))
      (Both (One Plain (fresh_register (suc (suc (suc b))) ty.Val))
      (Both (One Seated (seat 0 (suc (suc (suc (suc b)))) comp.Val))
      (Both (Own env (suc (suc (suc (suc (suc b))))) body)
      (Own (raised_name name (suc (suc (suc b))) ∷ env) (suc (suc (suc (suc (suc b)))) + width body) handler)))) t r
  Own env b (Alloc at header_at header operands) t r =
      Both (Own_drop env b (Alloc at header_at header operands))
      (Both (One New (fresh_register (suc b) ty.Val))
      (Both (One Plain (fresh_register (suc (suc b)) ty.Int))
      (Both (Listed Plain (regs_of env (suc (suc (suc b))) operands))
      (RowOwn env (suc (suc (suc b)) + count_of operands) operands)))) t r

  pub BaseOwn : List NamedRegister → ℕ → Expression → (Role → Reg → Type 0) → Role → Reg → Type 0
  BaseOwn env b (Operator at op base (Integer at' w)) whole t r = Either (is_based op w) (Own env b base) whole t r
  BaseOwn env b e whole t r = whole t r

  pub RowOwn : List NamedRegister → ℕ → Expressions → Role → Reg → Type 0
  RowOwn env b NoMore t r = ⊥
  RowOwn env b (More e rest) t r = Both (Own env b e) (RowOwn env (b + width e) rest) t r

  pub BoundOwn : List NamedRegister → ℕ → Bindings → Role → Reg → Type 0
  BoundOwn env b NoBinding t r = ⊥
  BoundOwn env b (Bind at name declared e rest) t r =
      Both (One Plain (bound_name env b name declared e).reg)
      (Both (Own env (suc b) e) (BoundOwn (bound_name env b name declared e ∷ env) (suc (b + width e)) rest)) t r

  pub SeqOwn : List NamedRegister → ℕ → Expressions → Role → Reg → Type 0
  SeqOwn env b NoMore t r = ⊥
  SeqOwn env b (More e rest) t r =
      Both (Listed Plain (kept_of env b e)) (Both (Own env (suc b) e) (SeqOwn env (suc (b + width e)) rest)) t r

  pub CasesOwn : List NamedRegister → ℕ → Cases → Role → Reg → Type 0
  CasesOwn env b NoCase t r = ⊥
  CasesOwn env b (Choose indexes body rest) t r = Both (Own env b body) (CasesOwn env (b + width body) rest) t r

  pub HandlersOwn : List NamedRegister → ℕ → ℕ → Handlers → Role → Reg → Type 0
  HandlersOwn env l b NoHandler t r = ⊥
  HandlersOwn env l b (Handle at label params body rest) t r =
      Both (Own (with_params params (params_from (suc l) params) env) b body)
      (HandlersOwn env (suc l + length params) (b + width body) rest) t r

-- ---- how many of them are open

abbrev pub count_params : Handlers → ℕ
count_params NoHandler = 0
count_params (Handle at label params body rest) = length params + count_params rest

abbrev pub either : Bool → ℕ → ℕ → ℕ
either true j k = j
either false j k = k

abbrev mutual
  pub opens : List NamedRegister → ℕ → Expression → ℕ
  opens env b (Integer at w) = drops env b (Integer at w)
  opens env b (Pointer at w) = drops env b (Pointer at w)
  opens env b (Symbol at name) = drops env b (Symbol at name)
  opens env b (Name at x) = drops env b (Name at x)
  opens env b (Nothing at) = 0
  opens env b (Float at word_at operands) = 0
  opens env b (Let at bindings body) =
      drops env b (Let at bindings body)
      + (bound_opens env (suc b) bindings + opens (env_after env (suc b) bindings) (suc b + width_bound bindings) body)
  opens env b (Assign at name_at name e) = 1 + opens env (suc (suc b)) e
  opens env b (Operator at op e g) =
      drops env b (Operator at op e g)
      + (1 + (1 + (opens env (suc (suc (suc b))) e + opens env (suc (suc (suc b)) + width e) g)))
  opens env b (App at callee arguments result result_at) =
      drops env b (App at callee arguments result result_at)
      + (1 + (count_of arguments + (0 + (0 + (opens env (suc (suc (suc b) + count_of arguments + count_of arguments)) callee
      + row_opens env (suc (suc (suc b) + count_of arguments + count_of arguments) + width callee) arguments)))))
  opens env b (Extcall at frame name arguments result result_at) =
      drops env b (Extcall at frame name arguments result result_at)
      + (count_of arguments + (0 + (0 + row_opens env (suc (suc b + count_of arguments + count_of arguments)) arguments)))
  opens env b (Seq at elements) = drops env b (Seq at elements) + seq_opens env (suc b) elements
  opens env b (If at condition e g) =
      drops env b (If at condition e g)
      + (1 + (opens env (suc (suc (suc (suc b)))) condition
      + (opens env (suc (suc (suc (suc b))) + width condition) e
      + opens env (suc (suc (suc (suc b))) + width condition + width e) g)))
  opens env b (Catch at body handlers) =
      drops env b (Catch at body handlers)
      + (count_params handlers
      + (opens env (suc (suc b) + width_labels handlers) body
      + handlers_opens env (suc (suc b)) (suc (suc b) + width_labels handlers + width body) handlers))
  opens env b (Exit at label_at label arguments) = count_of arguments + row_opens env (suc b + count_of arguments) arguments
  opens env b (Load at chunk address) =
      drops env b (Load at chunk address) + (1 + base_opens env (suc (suc b)) address (opens env (suc (suc b)) address))
  opens env b (Store at chunk address e) =
      1 + (1 + (base_opens env (suc (suc (suc b))) address (opens env (suc (suc (suc b))) address)
      + opens env (suc (suc (suc b)) + width address) e))
  opens env b (Checkbound at e g) = 1 + (1 + (opens env (suc (suc (suc b))) e + opens env (suc (suc (suc b)) + width e) g))
  opens env b (Raise at e) = 1 + (0 + opens env (suc (suc (suc b))) e)
  opens env b (Switch at size_at size selector cases) =
      drops env b (Switch at size_at size selector cases)
      + (1 + (opens env (suc (suc (suc b)) + count_cases cases) selector
      + cases_opens env (suc (suc (suc b)) + count_cases cases + width selector) cases))
  opens env b (Try at body name_at name handler) =
      drops env b (Try at body name_at name handler)
      + (1 + (0 + (opens env (suc (suc (suc (suc (suc b))))) body
      + opens (raised_name name (suc (suc (suc b))) ∷ env) (suc (suc (suc (suc (suc b)))) + width body) handler)))
  opens env b (Alloc at header_at header operands) =
      drops env b (Alloc at header_at header operands)
      + (1 + (1 + (count_of operands + row_opens env (suc (suc (suc b)) + count_of operands) operands)))

  pub base_opens : List NamedRegister → ℕ → Expression → ℕ → ℕ
  base_opens env b (Operator at op base (Integer at' w)) whole = either (is_based op w) (opens env b base) whole
  base_opens env b e whole = whole

  pub row_opens : List NamedRegister → ℕ → Expressions → ℕ
  row_opens env b NoMore = 0
  row_opens env b (More e rest) = opens env b e + row_opens env (b + width e) rest

  pub bound_opens : List NamedRegister → ℕ → Bindings → ℕ
  bound_opens env b NoBinding = 0
  bound_opens env b (Bind at name declared e rest) =
      1 + (opens env (suc b) e + bound_opens (bound_name env b name declared e ∷ env) (suc (b + width e)) rest)

  pub seq_opens : List NamedRegister → ℕ → Expressions → ℕ
  seq_opens env b NoMore = 0
  seq_opens env b (More e rest) =
      length (kept_of env b e) + (opens env (suc b) e + seq_opens env (suc (b + width e)) rest)

  pub cases_opens : List NamedRegister → ℕ → Cases → ℕ
  cases_opens env b NoCase = 0
  cases_opens env b (Choose indexes body rest) = opens env b body + cases_opens env (b + width body) rest

  pub handlers_opens : List NamedRegister → ℕ → ℕ → Handlers → ℕ
  handlers_opens env l b NoHandler = 0
  handlers_opens env l b (Handle at label params body rest) =
      opens (with_params params (params_from (suc l) params) env) b body
      + handlers_opens env (suc l + length params) (b + width body) rest

-- ---- a number identifies one of them

pub fresh_block : (n : ℕ) (type : Ty) → Block (One Plain (fresh_register n type)) n (suc n) 1
fresh_block n type = block_one Plain (fresh_register n type) refl refl

dropped_block : (type : Ty) (b : ℕ) → Block (Listed Plain (dropped type b)) b (suc b) (length (dropped type b))
dropped_block ty.NoValue b = block_then (fresh_block b ty.Addr) (no_block (suc b)) (omega arith) (le_refl (suc b))
dropped_block type b = block_in (no_block b) (omega arith)

kept_block : (type : Ty) (b : ℕ) → Block (Listed Plain (kept type b)) b (suc b) (length (kept type b))
kept_block ty.NoValue b = block_in (no_block b) (omega arith)
kept_block type b = block_then (fresh_block b type) (no_block (suc b)) (omega arith) (le_refl (suc b))

kept_of_block : (env : List NamedRegister) (b : ℕ) (e : Expression) → Block (Listed Plain (kept_of env b e)) b (suc b) (length (kept_of env b e))
kept_of_block env b (Exit at label_at label arguments) = block_in (no_block b) (omega arith)
kept_of_block env b e = kept_block (type_of (scopes env) e) b

drop_block : (env : List NamedRegister) (b : ℕ) (e : Expression) → Block (Own_drop env b e) b (suc b) (drops env b e)
drop_block env b e = dropped_block (type_of (scopes env) e) b

pub params_block : (b : ℕ) (params : List Parameter) → Block (Listed Plain (params_from b params)) b (b + length params) (length params)
params_block b [] = block_in (no_block b) (omega arith)
params_block b (p ∷ params) =
    block_few (block_in (block_then (fresh_block b (type_of_comp p.comp)) (params_block (suc b) params) (omega arith) (omega arith)) (omega arith))
    (omega arith)

regs_block : (env : List NamedRegister) (b : ℕ) (es : Expressions) → Block (Listed Plain (regs_of env b es)) b (b + count_of es) (count_of es)
regs_block env b NoMore = block_in (no_block b) (omega arith)
regs_block env b (More e rest) =
    block_few (block_in (block_then (fresh_block b (type_of (scopes env) e)) (regs_block env (suc b) rest) (omega arith) (omega arith)) (omega arith))
    (omega arith)

-- the places of arguments are colours
place_in : (ns : List ℕ) → ((n : ℕ) → Contains ns n → Contains colour_numbers n) → (i : ℕ) → PlaceOf Seated (slice_index_or (map loc.Machine ns) i loc.Unset)
place_in [] inside i = inl refl
place_in (n ∷ ns) inside zero = inr (record { colour = n; among = inside n (contains_head n ns); is = refl })
place_in (n ∷ ns) inside (suc i) = place_in ns (λ m c. inside m (contains_tail n ns m c)) i

place_of_seat : (i : ℕ) → PlaceOf Seated (slice_index_or argument_locations i loc.Unset)
place_of_seat i =
    place_in (10 ∷ 11 ∷ 12 ∷ 13 ∷ 14 ∷ 15 ∷ 16 ∷ 17 ∷ 18 ∷ 19 ∷ 20 ∷ 21 ∷ 22 ∷ 23 ∷ 24 ∷ 25 ∷ [])
    (λ n c. Contains-append_left (10 ∷ 11 ∷ 12 ∷ 13 ∷ 14 ∷ 15 ∷ 16 ∷ 17 ∷ 18 ∷ 19 ∷ 20 ∷ 21 ∷ 22 ∷ 23 ∷ 24 ∷ 25 ∷ []) (28 ∷ 29 ∷ 30 ∷ 31 ∷ 8 ∷ []) n c) i

pub block_seated : (q : Reg) → q.origin ≡ q.number → PlaceOf Seated q.loc → Block (One Seated q) q.number (suc q.number) 0
block_seated q o p =
    let whole = block_one Seated q o p in
    record {
      from = whole.from;
      to = whole.to;
      tells = whole.tells;
      origin = whole.origin;
      place = whole.place;
      numbers = [];
      few = omega arith;
      each = λ t r i e. absurd (none t r i e);
    }
  where
    none : (t : Role) (r : Reg) → One Seated q t r → is_seated t ≡ false → ⊥
    none t r (it a b) e = true≢false (sym (ap is_seated a) ∙ e)

pub seat_block : (i n : ℕ) (c : Comp) → Block (One Seated (seat i n c)) n (suc n) 0
seat_block i n c = block_seated (seat i n c) refl (place_of_seat i)

pub seats_block : (i n : ℕ) (rs : List Reg) → Block (Listed Seated (seats i n rs)) n (n + length rs) 0
seats_block i n [] = block_in (no_block n) (omega arith)
seats_block i n (r ∷ rs) = block_in (block_then (seat_block i n r.comp) (seats_block (suc i) (suc n) rs) (omega arith) (omega arith)) (omega arith)

pub result_block : (n : ℕ) (result : Ret) → Block (Listed Seated (result_seat n result)) n (suc n) 0
result_block n ret.Unit = block_in (no_block n) (omega arith)
result_block n (ret.Comp c) = block_then (seat_block 0 n c) (no_block (suc n)) (omega arith) (le_refl (suc n))

row_seats_block : (env : List NamedRegister) (n b : ℕ) (es : Expressions) → Block (Listed Seated (seats 0 n (regs_of env b es))) n (n + count_of es) 0
row_seats_block env n b es = let same = regs_length env b es in block_in (seats_block 0 n (regs_of env b es)) (omega (arith, same))

labels_block : (b : ℕ) (hs : Handlers) → Block (LabelsOwn b hs) b (b + width_labels hs) (count_params hs)
labels_block b NoHandler = block_in (no_block b) (omega arith)
labels_block b (Handle at label params body rest) =
    block_in (block_from (block_then (params_block (suc b) params) (labels_block (suc b + length params) rest) (omega arith) (omega arith)) (omega arith))
    (omega arith)

either_block : {A B : Role → Reg → Type 0} {lo hi j k : ℕ} (q : Bool) → Block A lo hi j → Block B lo hi k → Block (Either q A B) lo hi (either q j k)
either_block true a b = a
either_block false a b = b

mutual
  pub own_block : (env : List NamedRegister) (b : ℕ) (e : Expression) → Block (Own env b e) b (b + width e) (opens env b e)
  own_block env b (Integer at w) = block_in (drop_block env b (Integer at w)) (omega arith)
  own_block env b (Pointer at w) = block_in (drop_block env b (Pointer at w)) (omega arith)
  own_block env b (Symbol at name) = block_in (drop_block env b (Symbol at name)) (omega arith)
  own_block env b (Name at x) = block_in (drop_block env b (Name at x)) (omega arith)
  own_block env b (Nothing at) = block_in (no_block b) (omega arith)
  own_block env b (Float at word_at operands) = block_in (no_block b) (omega arith)
  own_block env b (Let at bindings body) =
      block_in
      (block_then (drop_block env b (Let at bindings body))
      (block_then (bound_block env (suc b) bindings) (own_block (env_after env (suc b) bindings) (suc b + width_bound bindings) body) (omega arith)
      (omega arith))
      (omega arith) (omega arith))
      (omega arith)
  own_block env b (Assign at name_at name e) =
      block_in (block_from (block_then (fresh_block (suc b) (type_of (scopes env) e)) (own_block env (suc (suc b)) e) (omega arith) (omega arith))
      (omega arith)) (omega arith)
  own_block env b (Operator at op e g) =
      block_in
      (block_then (drop_block env b (Operator at op e g))
      (block_then (fresh_block (suc b) (type_of (scopes env) e))
      (block_then (fresh_block (suc (suc b)) (type_of (scopes env) g))
      (block_then (own_block env (suc (suc (suc b))) e) (own_block env (suc (suc (suc b)) + width e) g) (omega arith) (omega arith))
      (omega arith) (omega arith))
      (omega arith) (omega arith))
      (omega arith) (omega arith))
      (omega arith)
  own_block env b (App at callee arguments result result_at) =
      let sum = row_width arguments in
      block_in
      (block_then (drop_block env b (App at callee arguments result result_at))
      (block_then (fresh_block (suc b) (type_of (scopes env) callee))
      (block_then (regs_block env (suc (suc b)) arguments)
      (block_then (row_seats_block env (suc (suc b) + count_of arguments) (suc (suc b)) arguments)
      (block_then (result_block (suc (suc b) + count_of arguments + count_of arguments) result)
      (block_then (own_block env (suc (suc (suc b) + count_of arguments + count_of arguments)) callee)
      (row_block env (suc (suc (suc b) + count_of arguments + count_of arguments) + width callee) arguments)
      (omega arith) (omega arith))
      (omega arith) (omega arith))
      (omega arith) (omega arith))
      (omega arith) (omega arith))
      (omega arith) (omega arith))
      (omega arith) (omega arith))
      (omega (arith, sum))
  own_block env b (Extcall at frame name arguments result result_at) =
      let sum = row_width arguments in
      block_in
      (block_then (drop_block env b (Extcall at frame name arguments result result_at))
      (block_then (regs_block env (suc b) arguments)
      (block_then (row_seats_block env (suc b + count_of arguments) (suc b) arguments)
      (block_then (result_block (suc b + count_of arguments + count_of arguments) result)
      (row_block env (suc (suc b + count_of arguments + count_of arguments)) arguments)
      (omega arith) (omega arith))
      (omega arith) (omega arith))
      (omega arith) (omega arith))
      (omega arith) (omega arith))
      (omega (arith, sum))
  own_block env b (Seq at elements) =
      block_in (block_then (drop_block env b (Seq at elements)) (seq_block env (suc b) elements) (omega arith) (omega arith)) (omega arith)
  own_block env b (If at condition e g) =
      block_in
      (block_then (drop_block env b (If at condition e g))
      (block_then (block_in (fresh_block (suc b) (type_of (scopes env) condition)) (omega arith))
      (block_then (own_block env (suc (suc (suc (suc b)))) condition)
      (block_then (own_block env (suc (suc (suc (suc b))) + width condition) e)
      (own_block env (suc (suc (suc (suc b))) + width condition + width e) g)
      (omega arith) (omega arith))
      (omega arith) (omega arith))
      (omega arith) (omega arith))
      (omega arith) (omega arith))
      (omega arith)
  own_block env b (Catch at body handlers) =
      block_in
      (block_then (block_in (drop_block env b (Catch at body handlers)) (omega arith))
      (block_then (labels_block (suc (suc b)) handlers)
      (block_then (own_block env (suc (suc b) + width_labels handlers) body)
      (handlers_block env (suc (suc b)) (suc (suc b) + width_labels handlers + width body) handlers)
      (omega arith) (omega arith))
      (omega arith) (omega arith))
      (omega arith) (omega arith))
      (omega arith)
  own_block env b (Exit at label_at label arguments) =
      let sum = row_width arguments in
      block_in
      (block_from (block_then (regs_block env (suc b) arguments) (row_block env (suc b + count_of arguments) arguments) (omega arith) (omega arith))
      (omega arith))
      (omega (arith, sum))
  own_block env b (Load at chunk address) =
      block_in
      (block_then (drop_block env b (Load at chunk address))
      (block_then (fresh_block (suc b) (type_of (scopes env) (base_of address)))
      (base_block env (suc (suc b)) address (own_block env (suc (suc b)) address))
      (omega arith) (omega arith))
      (omega arith) (omega arith))
      (omega arith)
  own_block env b (Store at chunk address e) =
      block_in
      (block_from
      (block_then (fresh_block (suc b) (type_of (scopes env) (base_of address)))
      (block_then (fresh_block (suc (suc b)) (type_of (scopes env) e))
      (block_then (base_block env (suc (suc (suc b))) address (own_block env (suc (suc (suc b))) address)) (own_block env (suc (suc (suc b)) + width address) e)
      (omega arith) (omega arith))
      (omega arith) (omega arith))
      (omega arith) (omega arith))
      (omega arith))
      (omega arith)
  own_block env b (Checkbound at e g) =
      block_in
      (block_from
      (block_then (fresh_block (suc b) (type_of (scopes env) e))
      (block_then (fresh_block (suc (suc b)) (type_of (scopes env) g))
      (block_then (own_block env (suc (suc (suc b))) e) (own_block env (suc (suc (suc b)) + width e) g) (omega arith) (omega arith))
      (omega arith) (omega arith))
      (omega arith) (omega arith))
      (omega arith))
      (omega arith)
  own_block env b (Raise at e) =
      block_in
      (block_from
      (block_then (fresh_block (suc b) (type_of (scopes env) e))
      (block_then (seat_block 0 (suc (suc b)) comp.Val) (own_block env (suc (suc (suc b))) e) (omega arith) (omega arith))
      (omega arith) (omega arith))
      (omega arith))
      (omega arith)
  own_block env b (Switch at size_at size selector cases) =
      block_in
      (block_then (drop_block env b (Switch at size_at size selector cases))
      (block_then (block_in (fresh_block (suc b) (type_of (scopes env) selector)) (omega arith))
      (block_then (own_block env (suc (suc (suc b)) + count_cases cases) selector)
      (cases_block env (suc (suc (suc b)) + count_cases cases + width selector) cases)
      (omega arith) (omega arith))
      (omega arith) (omega arith))
      (omega arith) (omega arith))
      (omega arith)
  own_block env b (Try at body name_at name handler) =
      block_in
      (block_then (block_in (drop_block env b (Try at body name_at name handler)) (omega arith))
      (block_then (fresh_block (suc (suc (suc b))) ty.Val)
      (block_then (seat_block 0 (suc (suc (suc (suc b)))) comp.Val)
      (block_then (own_block env (suc (suc (suc (suc (suc b))))) body)
      (own_block (raised_name name (suc (suc (suc b))) ∷ env) (suc (suc (suc (suc (suc b)))) + width body) handler)
      (omega arith) (omega arith))
      (omega arith) (omega arith))
      (omega arith) (omega arith))
      (omega arith) (omega arith))
      (omega arith)
  own_block env b (Alloc at header_at header operands) =
      let sum = row_width operands in
      block_in
      (block_then (drop_block env b (Alloc at header_at header operands))
      (block_then (block_one New (fresh_register (suc b) ty.Val) refl refl)
      (block_then (fresh_block (suc (suc b)) ty.Int)
      (block_then (regs_block env (suc (suc (suc b))) operands)
      (row_block env (suc (suc (suc b)) + count_of operands) operands)
      (omega arith) (omega arith))
      (omega arith) (omega arith))
      (omega arith) (omega arith))
      (omega arith) (omega arith))
      (omega (arith, sum))

  base_block : (env : List NamedRegister) (b : ℕ) (e : Expression) → Block (Own env b e) b (b + width e) (opens env b e) →
      Block (BaseOwn env b e (Own env b e)) b (b + width e) (base_opens env b e (opens env b e))
  base_block env b (Operator at op base (Integer at' w)) whole = either_block (is_based op w) (block_in (own_block env b base) (omega arith)) whole
  base_block env b e whole = whole

  row_block : (env : List NamedRegister) (b : ℕ) (es : Expressions) → Block (RowOwn env b es) b (b + row_sum es) (row_opens env b es)
  row_block env b NoMore = block_in (no_block b) (omega arith)
  row_block env b (More e rest) = block_in (block_then (own_block env b e) (row_block env (b + width e) rest) (omega arith) (omega arith)) (omega arith)

  bound_block : (env : List NamedRegister) (b : ℕ) (bs : Bindings) → Block (BoundOwn env b bs) b (b + width_bound bs) (bound_opens env b bs)
  bound_block env b NoBinding = block_in (no_block b) (omega arith)
  bound_block env b (Bind at name declared e rest) =
      block_in
      (block_then (block_one Plain (bound_name env b name declared e).reg refl refl)
      (block_then (block_in (own_block env (suc b) e) (omega arith)) (bound_block (bound_name env b name declared e ∷ env) (suc (b + width e)) rest)
      (omega arith) (omega arith))
      (omega arith) (omega arith))
      (omega arith)

  seq_block : (env : List NamedRegister) (b : ℕ) (es : Expressions) → Block (SeqOwn env b es) b (b + width_row es) (seq_opens env b es)
  seq_block env b NoMore = block_in (no_block b) (omega arith)
  seq_block env b (More e rest) =
      block_in
      (block_then (kept_of_block env b e)
      (block_then (block_in (own_block env (suc b) e) (omega arith)) (seq_block env (suc (b + width e)) rest) (omega arith) (omega arith))
      (omega arith) (omega arith))
      (omega arith)

  cases_block : (env : List NamedRegister) (b : ℕ) (cs : Cases) → Block (CasesOwn env b cs) b (b + width_cases cs) (cases_opens env b cs)
  cases_block env b NoCase = block_in (no_block b) (omega arith)
  cases_block env b (Choose indexes body rest) = block_in (block_then (own_block env b body) (cases_block env (b + width body) rest) (omega arith)
      (omega arith)) (omega arith)

  handlers_block : (env : List NamedRegister) (l b : ℕ) (hs : Handlers) → Block (HandlersOwn env l b hs) b (b + width_handlers hs) (handlers_opens env l b hs)
  handlers_block env l b NoHandler = block_in (no_block b) (omega arith)
  handlers_block env l b (Handle at label params body rest) =
      block_in
      (block_then (own_block (with_params params (params_from (suc l) params) env) b body)
      (handlers_block env (suc l + length params) (b + width body) rest) (omega arith) (omega arith))
      (omega arith)
