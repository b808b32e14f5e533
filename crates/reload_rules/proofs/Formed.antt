-- A well-formed function is so with its reloads and spills.
use Rattle.std.proofs.Common.{◌≡◌, ◌≢◌, ℕ, zero, suc, ◌<◌, ◌≤◌, Bool, true, false, cond, ⊎_elim, List, [], ◌∷◌, length, refl, sym, ap, ◌∙◌, subst, arith}
use Rattle.std.specs.List.{All, AllPairs, Contains}
use Rattle.std.specs.Prelude.{slice_index_or}
use Rattle.std.proofs.lemmas.List.Elements.{Contains-get_or, All-contains}
use Rattle.std.proofs.lemmas.Bool.{both_ways}
use Rattle.mach_ir.specs.Acts.{On, At}
use Rattle.mach_ir.specs.Forms as form
use Rattle.mach_ir.specs.Formed.{comps, MarkHasForm, IsFormedInstruction, formed_op, formed_mark, AreDistinct, TargetsLabel, LabelsStand, tries_left, leaves, is_exit, IsNested, CasesAgree, WellFormed}
use Rattle.mach_ir.specs.Meaning.{after_label, from_handler, tries_at}
use Rattle.mach_ir.specs.Placed.{WellPlaced}
use Rattle.mach_ir.specs.Walks.{OneOf, other, may_raise, StandsAsInstr, is_in_code}
use Rattle.mach_ir.specs.declared.op.CopyKind.{CopyKind}
use Rattle.mach_ir.specs.declared.op.Leaving.TheVariants as leaving
use Rattle.mach_ir.specs.declared.op.Op.TheVariants as op
use Rattle.mach_ir.specs.declared.reg.Reg.{Reg}
use Rattle.mach_ir.specs.declared.mach.Mark.TheVariants as mark
use Rattle.mach_ir.specs.declared.mach.MachOp.TheVariants as mach
use Rattle.mach_ir.specs.declared.mach.Instr.{Instr}
use Rattle.mach_ir.specs.declared.mach.Mach.{Mach}
use Rattle.mach_laws.proofs.Places.{label_expand, handler_expand, tries_expand, results_in, contains_of}
use Rattle.spill_rules.specs.Spilled.{copy_instruction}
use Rattle.spill_rules.proofs.Formed.{one_distinct}
use Rattle.spill_rules.proofs.Text.{copy_formed, copy_no_mark}
use Rattle.bs_words.proofs.Lists.{first_in, later_in}
use Rattle.reload_rules.specs.Reloaded.{reads_registers, writes_registers, is_renewed, fresh_stand_in, next_reload_number, renewed}
use Rattle.reload_rules.proofs.Files.{Apart, apart_more, apart_of}
use Rattle.reload_rules.proofs.Live.{IsNumbering, reloaded_by}
use Rattle.reload_rules.proofs.Numbers.{WasIn, was_own, was_fresh, after_true, after_rises, past_rises, for_from, was_in}
use Rattle.reload_rules.proofs.Parts.{first_result, main_for, IsCopy, is_copy, IsMain, main_where, main_op, next_tries, main_tries, same_labels, place_there, next_place, next_handler, main_there, each_in, part_in}
use Rattle.reload_rules.proofs.Registers.{number_is}
use Rattle.reload_rules.proofs.Text.{laid_instr, keeps_marks}
use Rattle.mach_laws.proofs.Among.{none_distinct}

-- ---- fresh registers have the components, and no number twice

pub same_comps : (b : Bool) (n : ℕ) (rs : List Reg) → comps (renewed b n rs) ≡ comps rs
same_comps b n [] = refl
same_comps b n (r ∷ rs) =
    ap (λ c. c ∷ comps (renewed b (next_reload_number b n r) rs)) (by (is_renewed b r))
    ∙ ap (λ cs. r.comp ∷ cs) (same_comps b (next_reload_number b n r) rs)
  where
    by : (t : Bool) → (cond t (fresh_stand_in n r) r).comp ≡ r.comp
    by true = refl
    by false = refl

pairs_more : (x : Reg) (xs : List Reg) → ((y : Reg) → Contains xs y → x.number ≢ y.number) → AreDistinct xs → AreDistinct (x ∷ xs)
pairs_more x xs h t = by
  where
    by : (i j : ℕ) (d : Reg) → i < j → j < length (x ∷ xs) →
        (slice_index_or (x ∷ xs) i d).number ≢ (slice_index_or (x ∷ xs) j d).number
    by i zero d lt within = absurd (omega (arith, lt))
    by zero (suc j) d lt within = h (slice_index_or xs j d) (Contains-get_or xs j d (omega (arith, within)))
    by (suc i) (suc j) d lt within = t i j d (omega (arith, lt)) (omega (arith, within))

pub renewed_distinct : (b : Bool) (n : ℕ) (rs : List Reg) → Apart rs → ((r : Reg) → Contains rs r → r.number < n) →
    AreDistinct (renewed b n rs)
renewed_distinct b n [] apart low = none_distinct
renewed_distinct b n (r ∷ rs) (apart_more once apart) low =
    pairs_more (cond (is_renewed b r) (fresh_stand_in n r) r) (renewed b (next_reload_number b n r) rs)
    (λ y c. of (is_renewed b r) refl y (was_in b (next_reload_number b n r) rs y c))
    (renewed_distinct b (next_reload_number b n r) rs apart
    (λ k c. let lt = low k (later r k c) in let le = after_rises b n r in omega (arith, lt, le)))
  where
    later : (r k : Reg) → Contains rs k → Contains (r ∷ rs) k
    later r k c = later_in r k rs c

    of : (t : Bool) → is_renewed b r ≡ t → (y : Reg) → WasIn b (next_reload_number b n r) rs y → (cond t (fresh_stand_in n r) r).number ≢ y.number
    of true t y (was_own c u) e = let lt = low y (later r y c) in omega (arith, lt, e)
    of true t y (was_fresh x w h g) e =
        let le = for_from b h in
        let after = after_true b n r t in
        let number : x ≡ y.number = ap (λ (r : Reg). r.number) g in omega (arith, le, after, number, e)
    of false t y (was_own c u) e = once y c e
    of false t y (was_fresh x w h g) e =
        let le = for_from b h in
        let up = after_rises b n r in
        let lt = low r (first_in r rs) in
        let number : x ≡ y.number = ap (λ (r : Reg). r.number) g in omega (arith, le, up, lt, number, e)

module _ (m : Mach) (s : ℕ → ℕ) (free top : ℕ) (formed : WellFormed m) (placed : WellPlaced m) (is : IsNumbering m s free top) where
  abbrev q : Mach
  q = reloaded_by s m

  abbrev f : ℕ → Instr → List Instr
  f = laid_instr s

  abbrev Copy : Instr → Type 0
  Copy = IsCopy m s free top formed placed is

  abbrev Main : Instr → List Instr → Type 0
  Main = IsMain m s free top formed placed is

  abbrev over : Instr → List Instr → Instr
  over i next = main_for m s free top formed placed is i next

  main_of : {j : Instr} {ys : List Instr} → (Copy j → ⊥) → StandsAsInstr j ys q.code → Main j ys
  main_of none z = main_where m s free top formed placed is none z

  op_of : {j : Instr} {ys : List Instr} (w : Main j ys) → (w.instr).op ≡ j.op
  op_of w = main_op m s free top formed placed is w

  tries_of : {j : Instr} {ys : List Instr} (w : Main j ys) → tries_at (j ∷ ys) ≡ tries_at (w.instr ∷ w.next)
  tries_of w = main_tries m s free top formed placed is w

  -- ---- no copy is a mark, leads to a label, raises or leaves

  no_label : (l : ℕ) (j : Instr) → TargetsLabel j.op l → Copy j → ⊥
  no_label l j o (is_copy kind from to e) = by (subst (λ (j : Instr). TargetsLabel j.op l) (sym e) o)
    where
      by : OneOf (At l) (On ∷ []) → ⊥
      by (other o) = elim o [ ]

  no_mark : (i : Instr) (k : _) → i.op ≡ mach.Mark k → Copy i → ⊥
  no_mark i k e (is_copy kind from to h) = copy_no_mark kind from to k (ap (λ (i : Instr). i.op) h ∙ e)

  no_raise : (i : Instr) → may_raise i.op ≡ true → Copy i → ⊥
  no_raise i r (is_copy kind from to h) = both_ways false refl (ap (λ (i : Instr). may_raise i.op) h ∙ r)

  no_leaving : (i : Instr) → leaves i.op ≡ true → Copy i → ⊥
  no_leaving i r (is_copy kind from to h) = both_ways false refl (ap (λ (i : Instr). leaves i.op) h ∙ r)

  op_return : (kind : CopyKind) (from to : Reg) → (copy_instruction kind from to).op ≡ mach.Op (op.Leaving leaving.Return) → ⊥
  op_return kind from to e = cc

  no_return : (i : Instr) → i.op ≡ mach.Op (op.Leaving leaving.Return) → Copy i → ⊥
  no_return i e (is_copy kind from to h) = op_return kind from to (ap (λ (i : Instr). i.op) h ∙ e)

  -- ---- labels and tries

  leads : {j : Instr} {ys : List Instr} {l : ℕ} (w : Main j ys) → TargetsLabel j.op l → TargetsLabel (w.instr).op l
  leads {l = l} w o = subst (λ g. TargetsLabel g l) (sym (op_of w)) o

  labels_stand : LabelsStand q
  labels_stand =
      record {
        named = λ i next z l o.
            let w = main_of (no_label l i o) z in
            place_there m s free top formed placed is ((formed.labels).named w.instr w.next w.stands l (leads w o));
        forward = λ i next z l o e.
            let w = main_of (no_label l i o) z in
            next_place m s free top formed placed is w
            ((formed.labels).forward w.instr w.next w.stands l (leads w o) (ap is_exit (op_of w) ∙ e));
        handlers = λ i next z l end e.
            let w = main_of (no_mark i (mark.Leave l end) e) z in
            next_handler m s free top formed placed is w
            ((formed.labels).handlers w.instr w.next w.stands l end (op_of w ∙ e));
      }

  nested : IsNested q
  nested =
      record {
        at_entry = tries_expand f (keeps_marks s) m.code ∙ (formed.nested).at_entry;
        at_label = λ i next z l o.
            let w = main_of (no_label l i o) z in
            ap tries_at (label_expand f (keeps_marks s) l m.code) ∙ tries_expand f (keeps_marks s) (after_label l m.code)
            ∙ (formed.nested).at_label w.instr w.next w.stands l (leads w o)
            ∙ ap (λ g. tries_left g (tries_at (w.instr ∷ w.next))) (op_of w) ∙ ap (tries_left i.op) (sym (tries_of w));
        at_try = λ i next z l e.
            let w = main_of (no_mark i (mark.Try l) e) z in
            next_tries m s free top formed placed is w ∙ (formed.nested).at_try w.instr w.next w.stands l (op_of w ∙ e)
            ∙ ap (λ ts. l ∷ ts) (sym (tries_of w));
        at_handler = λ i next z r l tries e.
            let w = main_of (λ c. no_raise i r c) z in
            ap tries_at (handler_expand f (keeps_marks s) l m.code) ∙ tries_expand f (keeps_marks s) (from_handler l m.code)
            ∙ (formed.nested).at_handler w.instr w.next w.stands (ap may_raise (op_of w) ∙ r) l tries (sym (tries_of w) ∙ e);
        at_own_handler = λ i next z l e.
            let w = main_of (no_mark i (mark.Try l) e) z in
            ap tries_at (handler_expand f (keeps_marks s) l m.code) ∙ tries_expand f (keeps_marks s) (from_handler l m.code)
            ∙ (formed.nested).at_own_handler w.instr w.next w.stands l (op_of w ∙ e) ∙ sym (tries_of w);
        at_exit = λ i next z l n e.
            let w = main_of (no_mark i (mark.Exit l n) e) z in
            subst (λ ts. n ≤ length ts) (sym (tries_of w)) ((formed.nested).at_exit w.instr w.next w.stands l n (op_of w ∙ e));
        at_end = λ i next z e.
            let w = main_of (λ c. no_leaving i e c) z in
            tries_of w ∙ (formed.nested).at_end w.instr w.next w.stands (ap leaves (op_of w) ∙ e);
      }

  -- ---- what is in the code

  main_at : (j : Instr) → Contains q.code j → (Copy j → ⊥) → (ys : List Instr) × Main j ys
  main_at j c none = let z = part_in m s free top formed placed is j c in (z.0, ⊎_elim (λ k. absurd (none k)) (λ w. w) z.1)

  cases : CasesAgree q
  cases =
      record {
        agree = λ i j c d labels indexes l end e h k.
            let w = (main_at i c (no_mark i (mark.Switch labels) e)).1 in
            let v = (main_at j d (no_mark j (mark.Case indexes l end) h)).1 in
            (formed.cases).agree w.instr v.instr (contains_of w.stands) (contains_of v.stands) labels indexes l end (op_of w ∙ e)
            (op_of v ∙ h) k;
        none = λ j d indexes l end e h.
            let v = (main_at j d (no_mark j (mark.Case indexes l end) e)).1 in
            (formed.cases).none v.instr (contains_of v.stands) indexes l end (op_of v ∙ e)
            (λ i c labels o k. let g = main_there m s free top formed placed is i c in h g.0 g.1 labels (g.2 ∙ o) k);
      }

  -- ---- each instruction

  main_formed : (i : Instr) (next : List Instr) → IsFormedInstruction i → IsFormedInstruction (over i next)
  main_formed i next (formed_op {f = g} {args = args} {results = results} h) =
      formed_op
      (subst (λ cs. form.HasForm g cs (comps (over i next).results)) (sym (same_comps (reads_registers i.op) (s (length next)) args))
      (subst (λ cs. form.HasForm g (comps args) cs)
      (sym (same_comps (writes_registers i.op) (first_result m s free top formed placed is i next) results)) h))
  main_formed i next (formed_mark {f = g} {args = args} {results = results} h) =
      formed_mark
      (subst (λ cs. MarkHasForm g cs (comps (over i next).results)) (sym (same_comps (reads_registers i.op) (s (length next)) args))
      (subst (λ cs. MarkHasForm g (comps args) cs)
      (sym (same_comps (writes_registers i.op) (first_result m s free top formed placed is i next) results)) h))

  main_distinct : (i : Instr) (next : List Instr) → StandsAsInstr i next m.code → AreDistinct (over i next).results
  main_distinct i next t =
      renewed_distinct (writes_registers i.op) (first_result m s free top formed placed is i next) i.results
      (apart_of i.results (All-contains (λ (i : Instr). AreDistinct i.results) m.code i formed.distinct (contains_of t)))
      (λ r c.
      let lt = is.above r (is_in_code (results_in t c)) in
      let from = is.from i next t in
      let rises = past_rises (reads_registers i.op) (s (length next)) i.args in omega (arith, lt, from, rises))

  -- A well-formed function is so with its reloads and spills.
  pub reloaded_formed : WellFormed (reloaded_by s m)
  reloaded_formed =
      record {
        numbers = number_is m s free top formed placed is;
        params = formed.params;
        params_distinct = formed.params_distinct;
        instrs = each_in m s free top formed placed is IsFormedInstruction copy_formed
            (λ i next t. main_formed i next (All-contains IsFormedInstruction m.code i formed.instrs (contains_of t)));
        distinct = each_in m s free top formed placed is (λ (i : Instr). AreDistinct i.results) (λ kind from to. one_distinct to) main_distinct;
        returns = λ i c e.
            let w = (main_at i c (no_return i e)).1 in
            ap (λ (i : Instr). comps i.args) (sym w.same)
            ∙ same_comps (reads_registers (w.instr).op) (s (length w.next)) (w.instr).args
            ∙ formed.returns w.instr (contains_of w.stands) (op_of w ∙ e);
        labels_once = subst (λ ls. AllPairs (λ k l. k ≢ l) ls) (sym (same_labels m s free top formed placed is m.code)) formed.labels_once;
        labels_below = subst (λ ls. All (λ l. l < m.labels) ls) (sym (same_labels m s free top formed placed is m.code)) formed.labels_below;
        labels = labels_stand;
        nested = nested;
        cases = cases;
      }
