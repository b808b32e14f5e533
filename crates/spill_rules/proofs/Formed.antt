-- A well-formed function is so with its spills and reloads.
use Rattle.std.proofs.Common.{◌≡◌, ◌≢◌, ℕ, ◌<◌, ◌≤◌, Bool, true, false, cond, ◌⊎◌, inl, inr, ⊎_elim, List, [], ◌∷◌, ◌++◌, length, refl, sym, ap, ◌∙◌, subst, arith, append_assoc}
use Rattle.std.specs.List.{All, AllPairs, Contains}
use Rattle.std.specs.Prelude.{slice_index_or}
use Rattle.std.proofs.lemmas.List.Elements.{Contains-get_or, All-contains, Contains-append_right}
use Rattle.std.proofs.lemmas.Bool.{both_ways}
use Rattle.mach_ir.specs.Acts.{On, At}
use Rattle.mach_ir.specs.Formed.{IsFormedInstruction, AreDistinct, labels_in, LabelOccursIn, place_here, place_below, HasHandler, handler_here, handler_below, TargetsLabel, LabelsStand, tries_left, leaves, IsNested, CasesAgree, WellFormed}
use Rattle.mach_ir.specs.Meaning.{after_label, from_handler, tries_at, tries_past}
use Rattle.mach_ir.specs.Placed.{WellPlaced}
use Rattle.mach_ir.specs.Walks.{OneOf, other, may_raise, StandsAsInstr, here, below, IsRegister}
use Rattle.mach_ir.specs.declared.op.CopyKind.{CopyKind}
use Rattle.mach_ir.specs.declared.op.CopyKind.TheVariants as copy
use Rattle.mach_ir.specs.declared.op.Leaving.TheVariants as leaving
use Rattle.mach_ir.specs.declared.op.Op.TheVariants as op
use Rattle.mach_ir.specs.declared.reg.Reg.{Reg}
use Rattle.mach_ir.specs.declared.mach.Mark.TheVariants as mark
use Rattle.mach_ir.specs.declared.mach.MachOp.TheVariants as mach
use Rattle.mach_ir.specs.declared.mach.Instr.{Instr}
use Rattle.mach_ir.specs.declared.mach.Mach.{Mach}
use Rattle.mach_laws.specs.Expand.{expand}
use Rattle.mach_laws.proofs.Places.{label_expand, handler_expand, tries_expand, contains_of, stands_in, place_behind, handler_behind}
use Rattle.mach_laws.proofs.InPlace.{same_head}
use Rattle.bs_words.proofs.Lists.{none_in, first_in, in_cons}
use Rattle.spill_rules.specs.Spilled.{SpillPlan, in_slot, copy_instruction, reload, spill, reloads_of, spills_of, operand_registers, written_results, spilled_instr, spilled, IsSpillPlan}
use Rattle.spill_rules.proofs.Registers.{Which, own, slotted, was_register, slots_apart}
use Rattle.spill_rules.proofs.Text.{keeps_marks, copy_formed, copy_no_mark}
use Rattle.spill_rules.proofs.Whole.{named_in}

module _ (plan : SpillPlan) where
  abbrev f : ℕ → Instr → List Instr
  f = spilled_instr plan

  -- ---- labels and tries

  cond_labels : (b : Bool) (xs ys zs : List Instr) → labels_in (xs ++ zs) ≡ labels_in zs → labels_in (ys ++ zs) ≡ labels_in zs →
      labels_in (cond b xs ys ++ zs) ≡ labels_in zs
  cond_labels true xs ys zs e h = e
  cond_labels false xs ys zs e h = h

  labels_reloads : (k : ℕ) (rs : List Reg) (zs : List Instr) → labels_in (reloads_of plan k rs ++ zs) ≡ labels_in zs
  labels_reloads k [] zs = refl
  labels_reloads k (r ∷ rs) zs =
      cond_labels (plan.reloads k r.number) (reload plan r ∷ reloads_of plan k rs) (reloads_of plan k rs) zs (labels_reloads k rs zs)
      (labels_reloads k rs zs)

  labels_spills : (k : ℕ) (rs : List Reg) (zs : List Instr) → labels_in (spills_of plan k rs ++ zs) ≡ labels_in zs
  labels_spills k [] zs = refl
  labels_spills k (r ∷ rs) zs =
      cond_labels (plan.spills k r.number) (spill plan r ∷ spills_of plan k rs) (spills_of plan k rs) zs (labels_spills k rs zs)
      (labels_spills k rs zs)

  cond_tries : (b : Bool) (xs ys zs : List Instr) → tries_at (xs ++ zs) ≡ tries_at zs → tries_at (ys ++ zs) ≡ tries_at zs →
      tries_at (cond b xs ys ++ zs) ≡ tries_at zs
  cond_tries true xs ys zs e h = e
  cond_tries false xs ys zs e h = h

  tries_spills : (k : ℕ) (rs : List Reg) (zs : List Instr) → tries_at (spills_of plan k rs ++ zs) ≡ tries_at zs
  tries_spills k [] zs = refl
  tries_spills k (r ∷ rs) zs =
      cond_tries (plan.spills k r.number) (spill plan r ∷ spills_of plan k rs) (spills_of plan k rs) zs (tries_spills k rs zs)
      (tries_spills k rs zs)

  -- the code of an instruction before other code
  laid_out : (k : ℕ) (i : Instr) (zs : List Instr) →
      f k i ++ zs ≡ reloads_of plan k (operand_registers i) ++ (i ∷ (spills_of plan k (written_results i) ++ zs))
  laid_out k i zs = append_assoc (reloads_of plan k (operand_registers i)) (i ∷ spills_of plan k (written_results i)) zs

  same_labels : (code : List Instr) → labels_in (expand f code) ≡ labels_in code
  same_labels [] = refl
  same_labels (i ∷ is) =
      ap labels_in (laid_out (length is) i (expand f is))
      ∙ labels_reloads (length is) (operand_registers i) (i ∷ (spills_of plan (length is) (written_results i) ++ expand f is))
      ∙ same_head i (spills_of plan (length is) (written_results i) ++ expand f is) is
      (labels_spills (length is) (written_results i) (expand f is) ∙ same_labels is)

  -- ---- places and handlers

  place_there : {l : ℕ} {code : List Instr} → LabelOccursIn l code → LabelOccursIn l (expand f code)
  place_there {l} (place_here {i = i} {is = is} e) =
      subst (LabelOccursIn l) (sym (laid_out (length is) i (expand f is)))
      (place_behind (reloads_of plan (length is) (operand_registers i)) (i ∷ (spills_of plan (length is) (written_results i) ++ expand f is)) (place_here e))
  place_there {l} (place_below {i = i} {is = is} h) = place_behind (f (length is) i) (expand f is) (place_there h)

  handler_there : {l : ℕ} {code : List Instr} → HasHandler l code → HasHandler l (expand f code)
  handler_there {l} (handler_here {i = i} {is = is} e) =
      subst (HasHandler l) (sym (laid_out (length is) i (expand f is)))
      (handler_behind (reloads_of plan (length is) (operand_registers i)) (i ∷ (spills_of plan (length is) (written_results i) ++ expand f is))
      (handler_here e))
  handler_there {l} (handler_below {i = i} {is = is} h) = handler_behind (f (length is) i) (expand f is) (handler_there h)

  -- ---- what is where

  pub data IsCopy (j : Instr) : Type 0 where
    is_reload : (k : ℕ) (r : Reg) → plan.reloads k r.number ≡ true → j ≡ reload plan r → IsCopy j
    is_spill : (r : Reg) → j ≡ spill plan r → IsCopy j

  copies_what : {j : Instr} → IsCopy j → (kind : CopyKind) × (from : Reg) × (to : Reg) × (j ≡ copy_instruction kind from to)
  copies_what (is_reload k r t e) = (copy.Reload, in_slot plan r, r, e)
  copies_what (is_spill r e) = (copy.Spill, r, in_slot plan r, e)

  -- an instruction of the first, with the code after it
  pub record IsMain (j : Instr) (ys code : List Instr) : Type 0 where
    pub next : List Instr
    pub stands : StandsAsInstr j next code
    pub same : spills_of plan (length next) (written_results j) ++ expand f next ≡ ys

  main_reloads : (k : ℕ) (rs : List Reg) (j : Instr) (ys zs : List Instr) → StandsAsInstr j ys (reloads_of plan k rs ++ zs) → IsCopy j ⊎ StandsAsInstr j ys zs
  main_reloads k [] j ys zs s = inr s
  main_reloads k (r ∷ rs) j ys zs s = by (plan.reloads k r.number) refl (λ z. main_reloads k rs j ys zs z) s
    where
      one : {xs : List Instr} {x : Instr} → plan.reloads k r.number ≡ true → x ≡ reload plan r → (StandsAsInstr j ys xs → IsCopy j ⊎ StandsAsInstr j ys zs) → StandsAsInstr j ys (x ∷ xs) → IsCopy j ⊎ StandsAsInstr j ys zs
      one t e ih here = inl (is_reload k r t e)
      one t e ih (below z) = ih z

      by : (b : Bool) → plan.reloads k r.number ≡ b → (StandsAsInstr j ys (reloads_of plan k rs ++ zs) → IsCopy j ⊎ StandsAsInstr j ys zs) →
          StandsAsInstr j ys (cond b (reload plan r ∷ reloads_of plan k rs) (reloads_of plan k rs) ++ zs) → IsCopy j ⊎ StandsAsInstr j ys zs
      by true t ih s = one t refl ih s
      by false t ih s = ih s

  main_spills : (k : ℕ) (rs : List Reg) (j : Instr) (ys zs : List Instr) → StandsAsInstr j ys (spills_of plan k rs ++ zs) → IsCopy j ⊎ StandsAsInstr j ys zs
  main_spills k [] j ys zs s = inr s
  main_spills k (r ∷ rs) j ys zs s = by (plan.spills k r.number) (λ z. main_spills k rs j ys zs z) s
    where
      one : {xs : List Instr} {x : Instr} → x ≡ spill plan r → (StandsAsInstr j ys xs → IsCopy j ⊎ StandsAsInstr j ys zs) → StandsAsInstr j ys (x ∷ xs) → IsCopy j ⊎ StandsAsInstr j ys zs
      one e ih here = inl (is_spill r e)
      one e ih (below z) = ih z

      by : (b : Bool) → (StandsAsInstr j ys (spills_of plan k rs ++ zs) → IsCopy j ⊎ StandsAsInstr j ys zs) →
          StandsAsInstr j ys (cond b (spill plan r ∷ spills_of plan k rs) (spills_of plan k rs) ++ zs) → IsCopy j ⊎ StandsAsInstr j ys zs
      by true ih s = one refl ih s
      by false ih s = ih s

  further_on : {j : Instr} {ys code : List Instr} (i : Instr) → IsCopy j ⊎ IsMain j ys code → IsCopy j ⊎ IsMain j ys (i ∷ code)
  further_on i (inl c) = inl c
  further_on i (inr w) = inr (record { next = w.next; stands = below w.stands; same = w.same })

  pub was_main : (code : List Instr) (j : Instr) (ys : List Instr) → StandsAsInstr j ys (expand f code) → IsCopy j ⊎ IsMain j ys code
  was_main [] j ys s = elim s [ ]
  was_main (i ∷ is) j ys s =
      ⊎_elim inl (λ z. of_main z (λ h. was_main is j ys h))
      (main_reloads (length is) (operand_registers i) j ys (i ∷ (spills_of plan (length is) (written_results i) ++ expand f is))
      (subst (StandsAsInstr j ys) (laid_out (length is) i (expand f is)) s))
    where
      at_head : {x : Instr} {zs : List Instr} → i ≡ x → spills_of plan (length is) (written_results i) ++ expand f is ≡ zs →
          StandsAsInstr j ys (x ∷ zs) → (StandsAsInstr j ys zs → IsCopy j ⊎ IsMain j ys (i ∷ is)) → IsCopy j ⊎ IsMain j ys (i ∷ is)
      at_head e h here ih = inr (subst (λ j. IsMain j ys (i ∷ is)) e (record { next = is; stands = here; same = h }))
      at_head e h (below z) ih = ih z

      of_main : StandsAsInstr j ys (i ∷ (spills_of plan (length is) (written_results i) ++ expand f is)) →
          (StandsAsInstr j ys (expand f is) → IsCopy j ⊎ IsMain j ys is) → IsCopy j ⊎ IsMain j ys (i ∷ is)
      of_main z ih =
          at_head refl refl z
          (λ h. ⊎_elim inl (λ g. further_on i (ih g)) (main_spills (length is) (written_results i) j ys (expand f is) h))

  -- a main has the tries that it had
  main_tries : {j : Instr} {ys code : List Instr} (w : IsMain j ys code) → tries_at (j ∷ ys) ≡ tries_at (j ∷ w.next)
  main_tries {j} w = ap (tries_past j.op) (after_tries w)
    where
      after_tries : {j : Instr} {ys code : List Instr} (w : IsMain j ys code) → tries_at ys ≡ tries_at w.next
      after_tries {j} w =
          sym (ap tries_at w.same) ∙ tries_spills (length w.next) (written_results j) (expand f w.next)
          ∙ tries_expand f (keeps_marks plan) w.next

  next_tries : {j : Instr} {ys code : List Instr} (w : IsMain j ys code) → tries_at ys ≡ tries_at w.next
  next_tries {j} w =
      sym (ap tries_at w.same) ∙ tries_spills (length w.next) (written_results j) (expand f w.next)
      ∙ tries_expand f (keeps_marks plan) w.next

  -- what is no copy
  main_of : {j : Instr} {ys code : List Instr} → (IsCopy j → ⊥) → IsCopy j ⊎ IsMain j ys code → IsMain j ys code
  main_of not_copy (inl c) = absurd (not_copy c)
  main_of not_copy (inr w) = w

  no_label : (l : ℕ) (j : Instr) → TargetsLabel j.op l → IsCopy j → ⊥
  no_label l j o c = by (subst (λ (j : Instr). TargetsLabel j.op l) (copies_what c).3 o)
    where
      by : OneOf (At l) (On ∷ []) → ⊥
      by (other o) = elim o [ ]

pub one_distinct : (r : Reg) → AreDistinct (r ∷ [])
one_distinct r = λ i j d lt within. absurd (none i j lt within)
  where
    none : (i j : ℕ) → i < j → j < length (r ∷ []) → ⊥
    none i j x y = omega (arith, x, y)

module _ (m : Mach) (plan : SpillPlan) (formed : WellFormed m) (placed : WellPlaced m) (is : IsSpillPlan m plan) where
  abbrev q : Mach
  q = spilled plan m

  abbrev g : ℕ → Instr → List Instr
  g = spilled_instr plan

  labels_stand : LabelsStand q
  labels_stand =
      record {
        named = λ i next s l o.
            let w = main_of plan (no_label plan l i o) (was_main plan m.code i next s) in
            place_there plan ((formed.labels).named i w.next w.stands l o);
        forward = λ i next s l o e.
            let w = main_of plan (no_label plan l i o) (was_main plan m.code i next s) in
            subst (LabelOccursIn l) w.same
            (place_behind (spills_of plan (length w.next) (written_results i)) (expand g w.next)
            (place_there plan ((formed.labels).forward i w.next w.stands l o e)));
        handlers = λ i next s l end e.
            let w = main_of plan (λ c. not_leave l end i e c) (was_main plan m.code i next s) in
            subst (HasHandler l) w.same
            (handler_behind (spills_of plan (length w.next) (written_results i)) (expand g w.next)
            (handler_there plan ((formed.labels).handlers i w.next w.stands l end e)));
      }
    where
      not_leave : (l end : ℕ) (i : Instr) → i.op ≡ mach.Mark (mark.Leave l end) → IsCopy plan i → ⊥
      not_leave l end i e c =
          let k = copies_what plan c in copy_no_mark k.0 k.1 k.2 (mark.Leave l end) (sym (ap (λ (i : Instr). i.op) k.3) ∙ e)

  nested : IsNested q
  nested =
      record {
        at_entry = tries_expand g (keeps_marks plan) m.code ∙ (formed.nested).at_entry;
        at_label = λ i next s l o.
            let w = main_of plan (no_label plan l i o) (was_main plan m.code i next s) in
            ap tries_at (label_expand g (keeps_marks plan) l m.code) ∙ tries_expand g (keeps_marks plan) (after_label l m.code)
            ∙ (formed.nested).at_label i w.next w.stands l o ∙ ap (tries_left i.op) (sym (main_tries plan w));
        at_try = λ i next s l e.
            let w = main_of plan (no_mark i (mark.Try l) e) (was_main plan m.code i next s) in
            next_tries plan w ∙ (formed.nested).at_try i w.next w.stands l e ∙ ap (λ ts. l ∷ ts) (sym (main_tries plan w));
        at_handler = λ i next s r l tries e.
            let w = main_of plan (λ c. no_raise i r c) (was_main plan m.code i next s) in
            ap tries_at (handler_expand g (keeps_marks plan) l m.code) ∙ tries_expand g (keeps_marks plan) (from_handler l m.code)
            ∙ (formed.nested).at_handler i w.next w.stands r l tries (sym (main_tries plan w) ∙ e);
        at_own_handler = λ i next s l e.
            let w = main_of plan (no_mark i (mark.Try l) e) (was_main plan m.code i next s) in
            ap tries_at (handler_expand g (keeps_marks plan) l m.code) ∙ tries_expand g (keeps_marks plan) (from_handler l m.code)
            ∙ (formed.nested).at_own_handler i w.next w.stands l e ∙ sym (main_tries plan w);
        at_exit = λ i next s l n e.
            let w = main_of plan (no_mark i (mark.Exit l n) e) (was_main plan m.code i next s) in
            subst (λ ts. n ≤ length ts) (sym (main_tries plan w)) ((formed.nested).at_exit i w.next w.stands l n e);
        at_end = λ i next s e.
            let w = main_of plan (λ c. no_leaving i e c) (was_main plan m.code i next s) in
            main_tries plan w ∙ (formed.nested).at_end i w.next w.stands e;
      }
    where
      no_mark : (i : Instr) (k : _) → i.op ≡ mach.Mark k → IsCopy plan i → ⊥
      no_mark i k e c =
          let h = copies_what plan c in copy_no_mark h.0 h.1 h.2 k (sym (ap (λ (i : Instr). i.op) h.3) ∙ e)

      no_raise : (i : Instr) → may_raise i.op ≡ true → IsCopy plan i → ⊥
      no_raise i r c = both_ways false refl (ap (λ (i : Instr). may_raise i.op) (sym (copies_what plan c).3) ∙ r)

      no_leaving : (i : Instr) → leaves i.op ≡ true → IsCopy plan i → ⊥
      no_leaving i r c = both_ways false refl (ap (λ (i : Instr). leaves i.op) (sym (copies_what plan c).3) ∙ r)

  -- ---- what is in the code

  main_in : (code : List Instr) (i : Instr) → Contains code i → Contains (expand g code) i
  main_in [] i c = absurd (none_in i c)
  main_in (j ∷ is) i c =
      ⊎_elim
      (λ e.
      subst (Contains (expand g (j ∷ is))) e
      (subst (λ xs. Contains xs j) (sym (laid_out plan (length is) j (expand g is)))
      (Contains-append_right (reloads_of plan (length is) (operand_registers j)) (j ∷ (spills_of plan (length is) (written_results j) ++ expand g is)) j
      (first_in j (spills_of plan (length is) (written_results j) ++ expand g is)))))
      (λ d. Contains-append_right (g (length is) j) (expand g is) i (main_in is i d)) (in_cons j i is c)

  mark_in : (k : _) (j : Instr) → Contains q.code j → j.op ≡ mach.Mark k → Contains m.code j
  mark_in k j c e = named_in m plan formed placed is (λ h. h ≡ mach.Mark k) (λ kind from to h. copy_no_mark kind from to k h) m.code j c e

  cases : CasesAgree q
  cases =
      record {
        agree = λ i j c d labels indexes l end e h k.
            (formed.cases).agree i j (mark_in (mark.Switch labels) i c e) (mark_in (mark.Case indexes l end) j d h) labels indexes l end e h k;
        none = λ j d indexes l end e h.
            (formed.cases).none j (mark_in (mark.Case indexes l end) j d e) indexes l end e
            (λ i c labels o k. h i (main_in m.code i c) labels o k);
      }

  -- ---- each instruction

  each_in : (P : Instr → Type 0) → ((kind : CopyKind) (from to : Reg) → P (copy_instruction kind from to)) →
      ((i : Instr) → Contains m.code i → P i) → All P q.code
  each_in P copies_so mains = λ k d lt.
      let j = slice_index_or q.code k d in
      let s = stands_in q.code j (Contains-get_or q.code k d lt) in
      ⊎_elim (λ c. let k = copies_what plan c in subst P (sym k.3) (copies_so k.0 k.1 k.2)) (λ w. mains j (contains_of w.stands)) (was_main plan m.code j s.0 s.1)

  pub number_is : (r k : Reg) → IsRegister q r → IsRegister q k → r.number ≡ k.number → r ≡ k
  number_is r k i j e =
      let w = was_register m plan formed placed is r i in
      let v = was_register m plan formed placed is k j in
      by w.register v.register w.among v.among w.which v.which
    where
      by : (w v : Reg) → IsRegister m w → IsRegister m v → Which m plan formed placed is w r → Which m plan formed placed is v k → r ≡ k
      by w v a b (own x) (own y) =
          sym x ∙ formed.numbers w v a b (ap (λ (r : Reg). r.number) x ∙ e ∙ sym (ap (λ (r : Reg). r.number) y)) ∙ y
      by w v a b (own x) (slotted y) =
          absurd (is.fresh w a v.number (ap (λ (r : Reg). r.number) y ∙ sym e ∙ sym (ap (λ (r : Reg). r.number) x)))
      by w v a b (slotted x) (own y) =
          absurd (is.fresh v b w.number (ap (λ (r : Reg). r.number) x ∙ e ∙ sym (ap (λ (r : Reg). r.number) y)))
      by w v a b (slotted x) (slotted y) =
          sym x
          ∙ ap (in_slot plan)
          (formed.numbers w v a b
          (slots_apart m plan formed placed is w.number v.number
          (ap (λ (r : Reg). r.number) x ∙ e ∙ sym (ap (λ (r : Reg). r.number) y))))
          ∙ y

  -- A well-formed function is so with its spills and reloads.
  pub spilled_formed : WellFormed (spilled plan m)
  spilled_formed =
      record {
        numbers = number_is;
        params = formed.params;
        params_distinct = formed.params_distinct;
        instrs = each_in IsFormedInstruction copy_formed (λ i c. All-contains IsFormedInstruction m.code i formed.instrs c);
        distinct = each_in (λ (i : Instr). AreDistinct i.results) (λ kind from to. one_distinct to)
            (λ i c. All-contains (λ (i : Instr). AreDistinct i.results) m.code i formed.distinct c);
        returns = λ i c e.
            formed.returns i
            (named_in m plan formed placed is (λ h. h ≡ mach.Op (op.Leaving leaving.Return)) (λ kind from to h. no_return kind from to h)
            m.code i c e) e;
        labels_once = subst (λ ls. AllPairs (λ k l. k ≢ l) ls) (sym (same_labels plan m.code)) formed.labels_once;
        labels_below = subst (λ ls. All (λ l. l < m.labels) ls) (sym (same_labels plan m.code)) formed.labels_below;
        labels = labels_stand;
        nested = nested;
        cases = cases;
      }
    where
      no_return : (kind : CopyKind) (from to : Reg) → (copy_instruction kind from to).op ≡ mach.Op (op.Leaving leaving.Return) → ⊥
      no_return kind from to e = cc
