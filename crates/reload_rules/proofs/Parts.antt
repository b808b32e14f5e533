-- What is in a function with its reloads and spills: copies, and the instructions that it had, over fresh registers.
use Rattle.std.proofs.Common.{◌≡◌, ℕ, suc, Bool, true, false, cond, ◌⊎◌, inl, inr, ⊎_elim, List, [], ◌∷◌, ◌++◌, length, refl, sym, ap, ◌∙◌, subst, append_assoc}
use Rattle.std.specs.List.{All, Contains}
use Rattle.std.specs.Prelude.{slice_index_or}
use Rattle.std.proofs.lemmas.List.Elements.{Contains-get_or, Contains-append_right}
use Rattle.mach_ir.specs.Formed.{labels_of_mark, labels_in, LabelOccursIn, place_here, place_below, HasHandler, handler_here, handler_below, WellFormed}
use Rattle.mach_ir.specs.Meaning.{tries_at, tries_past}
use Rattle.mach_ir.specs.Placed.{WellPlaced}
use Rattle.mach_ir.specs.Walks.{StandsAsInstr, here, below}
use Rattle.mach_ir.specs.declared.op.CopyKind.{CopyKind}
use Rattle.mach_ir.specs.declared.op.CopyKind.TheVariants as copy
use Rattle.mach_ir.specs.declared.reg.Reg.{Reg}
use Rattle.mach_ir.specs.declared.mach.MachOp.{MachOp}
use Rattle.mach_ir.specs.declared.mach.MachOp.TheVariants as mach
use Rattle.mach_ir.specs.declared.mach.Instr.{Instr}
use Rattle.mach_ir.specs.declared.mach.Mach.{Mach}
use Rattle.mach_laws.specs.Expand.{expand}
use Rattle.mach_laws.proofs.Places.{ending_next, tries_expand, ending_of, stands_in, place_behind, handler_behind}
use Rattle.spill_rules.specs.Spilled.{copy_instruction}
use Rattle.bs_words.proofs.Lists.{none_in, first_in, in_cons}
use Rattle.reload_rules.specs.Reloaded.{reads_registers, writes_registers, is_renewed, fresh_stand_in, next_reload_number, reloads, spills}
use Rattle.reload_rules.proofs.Live.{IsNumbering, reloaded_by, operands_at, results_at, main_of, ForOperand, ForResult, Storing, Laid, LastOperands, LastResults, fewer_operands, fewer_results, all_operands, all_results, laid_results, laid_of}
use Rattle.reload_rules.proofs.Numbers.{for_this, after_true, after_false}
use Rattle.reload_rules.proofs.Text.{before_reloads, before_spills, laid_instr, keeps_marks}

module _ (m : Mach) (s : ℕ → ℕ) (free top : ℕ) (formed : WellFormed m) (placed : WellPlaced m) (is : IsNumbering m s free top) where
  abbrev q : Mach
  q = reloaded_by s m

  abbrev f : ℕ → Instr → List Instr
  f = laid_instr s

  abbrev pub first_operand : List Instr → ℕ
  first_operand next = operands_at m s free top formed placed is next

  abbrev pub first_result : Instr → List Instr → ℕ
  first_result i next = results_at m s free top formed placed is i next

  abbrev pub main_for : Instr → List Instr → Instr
  main_for i next = main_of m s free top formed placed is i next

  abbrev Operand : Instr → List Instr → ℕ → Reg → Type 0
  Operand = ForOperand m s free top formed placed is

  abbrev Result : Instr → List Instr → ℕ → Reg → Type 0
  Result = ForResult m s free top formed placed is

  abbrev pub reloads_for : Instr → List Instr → List Instr
  reloads_for i next = reloads (reads_registers i.op) (first_operand next) i.args

  abbrev pub spills_for : Instr → List Instr → List Instr
  spills_for i next = spills (writes_registers i.op) (first_result i next) i.results

  -- the code of an instruction before other code
  pub laid_out : (i : Instr) (next zs : List Instr) →
      f (length next) i ++ zs ≡ reloads_for i next ++ (main_for i next ∷ (spills_for i next ++ zs))
  laid_out i next zs = append_assoc (reloads_for i next) (main_for i next ∷ spills_for i next) zs

  -- ---- what is where

  pub data Part (j : Instr) (ys : List Instr) : Type 0 where
    part_reload : (i : Instr) (next : List Instr) (n : ℕ) (r : Reg) → StandsAsInstr i next m.code → Operand i next n r →
        copy_instruction copy.Reload r (fresh_stand_in n r) ≡ j → Part j ys
    part_main : (i : Instr) (next : List Instr) → StandsAsInstr i next m.code → main_for i next ≡ j → spills_for i next ++ expand f next ≡ ys →
        Part j ys
    part_spill : (i : Instr) (next : List Instr) (n : ℕ) (r : Reg) (rs : List Reg) → StandsAsInstr i next m.code → Result i next n r →
        copy_instruction copy.Spill (fresh_stand_in n r) r ≡ j → Laid m s free top formed placed is (Storing i next (suc n) rs) ys → Part j ys

  part_reloads : (i : Instr) (next : List Instr) → StandsAsInstr i next m.code → (n : ℕ) (rs : List Reg) →
      LastOperands m s free top formed placed is i next n rs → (j : Instr) (ys zs : List Instr) →
      StandsAsInstr j ys (reloads (reads_registers i.op) n rs ++ zs) → Part j ys ⊎ StandsAsInstr j ys zs
  part_reloads i next t n [] known j ys zs z = inr z
  part_reloads i next t n (r ∷ rs) known j ys zs z =
      by (is_renewed (reads_registers i.op) r) refl
      (λ k e h. part_reloads i next t k rs (fewer_operands m s free top formed placed is i next n k r rs known e) j ys zs h) z
    where
      of : {x : Instr} {xs : List Instr} → Operand i next n r → copy_instruction copy.Reload r (fresh_stand_in n r) ≡ x →
          (StandsAsInstr j ys xs → Part j ys ⊎ StandsAsInstr j ys zs) → StandsAsInstr j ys (x ∷ xs) → Part j ys ⊎ StandsAsInstr j ys zs
      of g e ih here = inl (part_reload i next n r t g e)
      of g e ih (below h) = ih h

      by : (b : Bool) → is_renewed (reads_registers i.op) r ≡ b →
          ((k : ℕ) → next_reload_number (reads_registers i.op) n r ≡ k → StandsAsInstr j ys (reloads (reads_registers i.op) k rs ++ zs) →
          Part j ys ⊎ StandsAsInstr j ys zs) →
          StandsAsInstr j ys
          (cond b (copy_instruction copy.Reload r (fresh_stand_in n r) ∷ reloads (reads_registers i.op) (suc n) rs) (reloads (reads_registers i.op) n rs) ++ zs) →
          Part j ys ⊎ StandsAsInstr j ys zs
      by true e ih h = of (known.0 n r (for_this e)) refl (ih (suc n) (after_true (reads_registers i.op) n r e)) h
      by false e ih h = ih n (after_false (reads_registers i.op) n r e) h

  part_spills : (i : Instr) (next : List Instr) → StandsAsInstr i next m.code → (n : ℕ) (rs : List Reg) →
      LastResults m s free top formed placed is i next n rs → (j : Instr) (ys : List Instr) →
      StandsAsInstr j ys (spills (writes_registers i.op) n rs ++ expand f next) → Part j ys ⊎ StandsAsInstr j ys (expand f next)
  part_spills i next t n [] known j ys z = inr z
  part_spills i next t n (r ∷ rs) known j ys z =
      by (is_renewed (writes_registers i.op) r) refl
      (λ k e h. part_spills i next t k rs (fewer_results m s free top formed placed is i next n k r rs known e) j ys h) z
    where
      laid : is_renewed (writes_registers i.op) r ≡ true →
          Laid m s free top formed placed is (Storing i next (suc n) rs) (spills (writes_registers i.op) (suc n) rs ++ expand f next)
      laid e =
          laid_results m s free top formed placed is i next (suc n) rs (expand f next) (ending_of t)
          (fewer_results m s free top formed placed is i next n (suc n) r rs known (after_true (writes_registers i.op) n r e))
          (laid_of m s free top formed placed is next (ending_next (ending_of t)))

      of : {x : Instr} {xs : List Instr} → Result i next n r → copy_instruction copy.Spill (fresh_stand_in n r) r ≡ x →
          Laid m s free top formed placed is (Storing i next (suc n) rs) xs →
          (StandsAsInstr j ys xs → Part j ys ⊎ StandsAsInstr j ys (expand f next)) → StandsAsInstr j ys (x ∷ xs) → Part j ys ⊎ StandsAsInstr j ys (expand f next)
      of g e l ih here = inl (part_spill i next n r rs t g e l)
      of g e l ih (below h) = ih h

      by : (b : Bool) → is_renewed (writes_registers i.op) r ≡ b →
          ((k : ℕ) → next_reload_number (writes_registers i.op) n r ≡ k → StandsAsInstr j ys (spills (writes_registers i.op) k rs ++ expand f next) →
          Part j ys ⊎ StandsAsInstr j ys (expand f next)) →
          StandsAsInstr j ys
          (cond b (copy_instruction copy.Spill (fresh_stand_in n r) r ∷ spills (writes_registers i.op) (suc n) rs) (spills (writes_registers i.op) n rs)
          ++ expand f next) →
          Part j ys ⊎ StandsAsInstr j ys (expand f next)
      by true e ih h = of (known n r (for_this e)) refl (laid e) (ih (suc n) (after_true (writes_registers i.op) n r e)) h
      by false e ih h = ih n (after_false (writes_registers i.op) n r e) h

  parts_of : (code : List Instr) → ((i : Instr) (next : List Instr) → StandsAsInstr i next code → StandsAsInstr i next m.code) → (j : Instr) (ys : List Instr) →
      StandsAsInstr j ys (expand f code) → Part j ys
  parts_of [] known j ys z = elim z [ ]
  parts_of (i ∷ next) known j ys z =
      ⊎_elim (λ p. p) (λ h. of_main h (λ g. parts_of next (λ k rest t. known k rest (below t)) j ys g))
      (part_reloads i next (known i next here) (first_operand next) i.args (all_operands m s free top formed placed is i next) j ys
      (main_for i next ∷ (spills_for i next ++ expand f next)) (subst (StandsAsInstr j ys) (laid_out i next (expand f next)) z))
    where
      at_head : {x : Instr} {xs : List Instr} → main_for i next ≡ x → spills_for i next ++ expand f next ≡ xs →
          (StandsAsInstr j ys xs → Part j ys) → StandsAsInstr j ys (x ∷ xs) → Part j ys
      at_head e h ih here = part_main i next (known i next here) e h
      at_head e h ih (below g) = ih g

      of_main : StandsAsInstr j ys (main_for i next ∷ (spills_for i next ++ expand f next)) → (StandsAsInstr j ys (expand f next) → Part j ys) → Part j ys
      of_main h ih =
          at_head refl refl
          (λ g.
          ⊎_elim (λ p. p) ih
          (part_spills i next (known i next here) (first_result i next) i.results (all_results m s free top formed placed is i next) j ys g))
          h

  pub part_at : (j : Instr) (ys : List Instr) → StandsAsInstr j ys q.code → Part j ys
  part_at j ys z = parts_of m.code (λ i next t. t) j ys z

  -- ---- copies, and mains

  pub data IsCopy (j : Instr) : Type 0 where
    is_copy : (kind : CopyKind) (from to : Reg) → copy_instruction kind from to ≡ j → IsCopy j

  -- an instruction of the first
  pub record IsMain (j : Instr) (ys : List Instr) : Type 0 where
    pub instr : Instr
    pub next : List Instr
    pub stands : StandsAsInstr instr next m.code
    pub same : main_for instr next ≡ j
    pub same_next : spills_for instr next ++ expand f next ≡ ys

  pub copy_or_main : (j : Instr) (ys : List Instr) → StandsAsInstr j ys q.code → IsCopy j ⊎ IsMain j ys
  copy_or_main j ys z = by (part_at j ys z)
    where
      by : Part j ys → IsCopy j ⊎ IsMain j ys
      by (part_reload i next n r t g e) = inl (is_copy copy.Reload r (fresh_stand_in n r) e)
      by (part_main i next t e h) = inr (record { instr = i; next = next; stands = t; same = e; same_next = h })
      by (part_spill i next n r rs t g e l) = inl (is_copy copy.Spill (fresh_stand_in n r) r e)

  pub main_where : {j : Instr} {ys : List Instr} → (IsCopy j → ⊥) → StandsAsInstr j ys q.code → IsMain j ys
  main_where {j} {ys} none z = ⊎_elim (λ c. absurd (none c)) (λ w. w) (copy_or_main j ys z)

  pub main_op : {j : Instr} {ys : List Instr} (w : IsMain j ys) → (w.instr).op ≡ j.op
  main_op w = ap (λ (i : Instr). i.op) w.same

  tries_spills : (i : Instr) (next zs : List Instr) → tries_at (spills_for i next ++ zs) ≡ tries_at zs
  tries_spills i next zs =
      before_spills (λ xs. tries_at xs ≡ tries_at zs) zs refl (λ kind from to xs h. h) (writes_registers i.op) (first_result i next) i.results

  pub next_tries : {j : Instr} {ys : List Instr} (w : IsMain j ys) → tries_at ys ≡ tries_at w.next
  next_tries w =
      sym (ap tries_at w.same_next) ∙ tries_spills w.instr w.next (expand f w.next) ∙ tries_expand f (keeps_marks s) w.next

  pub main_tries : {j : Instr} {ys : List Instr} (w : IsMain j ys) → tries_at (j ∷ ys) ≡ tries_at (w.instr ∷ w.next)
  main_tries {j} {ys} w = ap (λ g. tries_past g (tries_at ys)) (sym (main_op w)) ∙ ap (tries_past (w.instr).op) (next_tries w)

  -- ---- labels

  same_head : (g : MachOp) (a b c d : List Reg) (xs ys : List Instr) → labels_in xs ≡ labels_in ys →
      labels_in (record { op = g; args = a; results = b } ∷ xs) ≡ labels_in (record { op = g; args = c; results = d } ∷ ys)
  same_head (mach.Op g) a b c d xs ys e = e
  same_head (mach.Mark g) a b c d xs ys e = ap (λ ls. labels_of_mark g ++ ls) e

  pub same_labels : (code : List Instr) → labels_in (expand f code) ≡ labels_in code
  same_labels [] = refl
  same_labels (i ∷ is) =
      ap labels_in (laid_out i is (expand f is))
      ∙ before_reloads (λ xs. labels_in xs ≡ labels_in rest) rest refl (λ kind from to xs h. h) (reads_registers i.op) (first_operand is) i.args
      ∙ same_head i.op (main_for i is).args (main_for i is).results i.args i.results (spills_for i is ++ expand f is) is
      (before_spills (λ xs. labels_in xs ≡ labels_in (expand f is)) (expand f is) refl (λ kind from to xs h. h) (writes_registers i.op)
      (first_result i is) i.results
      ∙ same_labels is)
    where
      rest : List Instr
      rest = main_for i is ∷ (spills_for i is ++ expand f is)

  pub place_there : {l : ℕ} {code : List Instr} → LabelOccursIn l code → LabelOccursIn l (expand f code)
  place_there {l} (place_here {i = i} {is = is} e) =
      subst (LabelOccursIn l) (sym (laid_out i is (expand f is)))
      (place_behind (reloads_for i is) (main_for i is ∷ (spills_for i is ++ expand f is)) (place_here e))
  place_there {l} (place_below {i = i} {is = is} h) = place_behind (f (length is) i) (expand f is) (place_there h)

  handler_there : {l : ℕ} {code : List Instr} → HasHandler l code → HasHandler l (expand f code)
  handler_there {l} (handler_here {i = i} {is = is} e) =
      subst (HasHandler l) (sym (laid_out i is (expand f is)))
      (handler_behind (reloads_for i is) (main_for i is ∷ (spills_for i is ++ expand f is)) (handler_here e))
  handler_there {l} (handler_below {i = i} {is = is} h) = handler_behind (f (length is) i) (expand f is) (handler_there h)

  pub next_place : {l : ℕ} {j : Instr} {ys : List Instr} (w : IsMain j ys) → LabelOccursIn l w.next → LabelOccursIn l ys
  next_place {l} w h =
      subst (LabelOccursIn l) w.same_next (place_behind (spills_for w.instr w.next) (expand f w.next) (place_there h))

  pub next_handler : {l : ℕ} {j : Instr} {ys : List Instr} (w : IsMain j ys) → HasHandler l w.next → HasHandler l ys
  next_handler {l} w h =
      subst (HasHandler l) w.same_next (handler_behind (spills_for w.instr w.next) (expand f w.next) (handler_there h))

  -- ---- what is in the code

  pub part_in : (j : Instr) → Contains q.code j → (ys : List Instr) × (IsCopy j ⊎ IsMain j ys)
  part_in j c = let z = stands_in q.code j c in (z.0, copy_or_main j z.0 z.1)

  -- an instruction of the first is in the second, over fresh registers
  main_in : (code : List Instr) (i : Instr) → Contains code i → (j : Instr) × Contains (expand f code) j × (j.op ≡ i.op)
  main_in [] i c = absurd (none_in i c)
  main_in (k ∷ is) i c =
      ⊎_elim
      (λ e. (
        main_for k is,
        subst (λ xs. Contains xs (main_for k is)) (sym (laid_out k is (expand f is)))
            (Contains-append_right (reloads_for k is) (main_for k is ∷ (spills_for k is ++ expand f is)) (main_for k is)
            (first_in (main_for k is) (spills_for k is ++ expand f is))),
        ap (λ (i : Instr). i.op) e,
      ))
      (λ d. let h = main_in is i d in (h.0, Contains-append_right (f (length is) k) (expand f is) h.0 h.1, h.2)) (in_cons k i is c)

  pub main_there : (i : Instr) → Contains m.code i → (j : Instr) × Contains q.code j × (j.op ≡ i.op)
  main_there i c = main_in m.code i c

  pub each_in : (P : Instr → Type 0) → ((kind : CopyKind) (from to : Reg) → P (copy_instruction kind from to)) →
      ((i : Instr) (next : List Instr) → StandsAsInstr i next m.code → P (main_for i next)) → All P q.code
  each_in P copies_so mains = λ k d lt.
      let j = slice_index_or q.code k d in
      let z = part_in j (Contains-get_or q.code k d lt) in
      ⊎_elim (λ c. of_copy j c) (λ w. subst P w.same (mains w.instr w.next w.stands)) z.1
    where
      of_copy : (j : Instr) → IsCopy j → P j
      of_copy j (is_copy kind from to e) = subst P e (copies_so kind from to)
