-- What spilling carries: it adds a copy for each operand and result at the most.
use Rattle.std.proofs.Common.{◌≡◌, ℕ, suc, ◌+◌, ◌*◌, ◌≤◌, Bool, true, false, cond, ◌⊎◌, inl, inr, ⊎_elim, List, [], ◌∷◌, ◌++◌, length, refl, sym, ap, ◌∙◌, subst, arith, append_assoc}
use Rattle.std.specs.List.{All, Contains}
use Rattle.std.specs.Prelude.{slice_index_or}
use Rattle.std.proofs.lemmas.List.Elements.{Contains-get_or, All-contains}
use Rattle.std.proofs.Math.Nat.{le_of_eq, zero-add}
use Rattle.pass_rules.specs.Known.{same_spot}
use Rattle.pass_rules.specs.Carried.{OffsetFits, EndsInReturn, at_return, further, IsCarried}
use Rattle.pass_rules.specs.Measures.{copy_words, instr_words, code_words, one_if_true, code_points, exit_count, operands_with, other_operands}
use Rattle.mach_ir.specs.Formed.{is_exit, IsFormedInstruction, WellFormed}
use Rattle.mach_ir.specs.Meaning.{passes_frame, tries_at, tries_past}
use Rattle.mach_ir.specs.Sizes.{operand_count}
use Rattle.mach_ir.specs.Walks.{StandsAsInstr, here, below}
use Rattle.mach_ir.specs.declared.op.CopyKind.{CopyKind}
use Rattle.mach_ir.specs.declared.op.CopyKind.TheVariants as copy
use Rattle.mach_ir.specs.declared.op.Leaving.TheVariants as leaving
use Rattle.mach_ir.specs.declared.op.Op.TheVariants as op
use Rattle.mach_ir.specs.declared.reg.Reg.{Reg}
use Rattle.mach_ir.specs.declared.mach.MachOp.TheVariants as mach
use Rattle.mach_ir.specs.declared.mach.Instr.{Instr}
use Rattle.mach_ir.specs.declared.mach.Mach.{Mach}
use Rattle.mach_laws.specs.Expand.{expand}
use Rattle.mach_laws.proofs.Places.{tries_expand, contains_of, stands_in}
use Rattle.mach_laws.proofs.Instructions.{return_results}
use Rattle.pass_rules.proofs.Words.{at_most_copy}
use Rattle.pass_rules.proofs.Carried.{ends_second}
use Rattle.colouring_rules.proofs.Open.{slot_open}
use Rattle.colouring_rules.specs.Places.{ColoursLow}
use Rattle.sink_rules.specs.Known.{IsSpilled, IsNeededSlot, IsChosenKept, SpillPlan, in_slot, copy_instruction, reload, spill, reloads_of, spills_of, operand_registers, written_results, spilled_instr, spilled}
use Rattle.sink_rules.proofs.Known.{IsCopy, is_reload, is_spill, IsMain, was_main, keeps_marks}

-- ---- copies alone

data AreCopies : List Instr → Type 0 where
  no_copy : AreCopies []
  a_copy : (kind : CopyKind) (from to : Reg) {xs : List Instr} → AreCopies xs → AreCopies (copy_instruction kind from to ∷ xs)

copy_most : (kind : CopyKind) (from to : Reg) → instr_words (copy_instruction kind from to) ≤ 6
copy_most kind from to = at_most_copy (same_spot (from ∷ []) (to ∷ []))

one_copy : (a b c n : ℕ) → a ≤ 6 → b ≤ 6 * n + c → a + b ≤ 6 * suc n + c
one_copy a b c n x y = omega (arith, x, y)

no_copies : (c : ℕ) → c ≤ 6 * 0 + c
no_copies c = omega arith

words_copies : {xs : List Instr} → AreCopies xs → (zs : List Instr) → code_words (xs ++ zs) ≤ 6 * length xs + code_words zs
words_copies no_copy zs = no_copies (code_words zs)
words_copies (a_copy kind from to {xs = xs} h) zs =
    one_copy (instr_words (copy_instruction kind from to)) (code_words (xs ++ zs)) (code_words zs) (length xs) (copy_most kind from to)
    (words_copies h zs)

points_copies : {xs : List Instr} → AreCopies xs → (zs : List Instr) → code_points (xs ++ zs) ≡ code_points zs
points_copies no_copy zs = refl
points_copies (a_copy kind from to {xs = xs} h) zs = zero-add (code_points (xs ++ zs)) ∙ points_copies h zs

operands_copies : {xs : List Instr} → AreCopies xs → (zs : List Instr) → other_operands (xs ++ zs) ≡ other_operands zs
operands_copies no_copy zs = refl
operands_copies (a_copy kind from to {xs = xs} h) zs = zero-add (other_operands (xs ++ zs)) ∙ operands_copies h zs

exits_copies : {xs : List Instr} → AreCopies xs → (zs : List Instr) → exit_count (xs ++ zs) ≡ exit_count zs
exits_copies no_copy zs = refl
exits_copies (a_copy kind from to h) zs = exits_copies h zs

tries_copies : {xs : List Instr} → AreCopies xs → (zs : List Instr) → tries_at (xs ++ zs) ≡ tries_at zs
tries_copies no_copy zs = refl
tries_copies (a_copy kind from to h) zs = tries_copies h zs

stands_head : {i j : Instr} {next zs : List Instr} → StandsAsInstr i next (j ∷ zs) → ((i ≡ j) × (next ≡ zs)) ⊎ StandsAsInstr i next zs
stands_head here = inl (refl, refl)
stands_head (below s) = inr s

-- A copy has the tries round it that come after.
stands_copies : {xs : List Instr} → AreCopies xs → (i : Instr) (next zs : List Instr) → StandsAsInstr i next (xs ++ zs) →
    (tries_at (i ∷ next) ≡ tries_at zs) ⊎ StandsAsInstr i next zs
stands_copies no_copy i next zs s = inr s
stands_copies (a_copy kind from to {xs = xs} h) i next zs s =
    ⊎_elim
    (λ e.
    inl
    (ap (λ (i : Instr). tries_at (i ∷ next)) e.0 ∙ ap (λ ys. tries_at (copy_instruction kind from to ∷ ys)) e.1 ∙ tries_copies h zs))
    (λ d. stands_copies h i next zs d) (stands_head s)

-- ---- a return has no results

module _ (plan : SpillPlan) where
  abbrev f : ℕ → Instr → List Instr
  f = spilled_instr plan

  reloads_copies : (k : ℕ) (rs : List Reg) → AreCopies (reloads_of plan k rs)
  reloads_copies k [] = no_copy
  reloads_copies k (r ∷ rs) = by (plan.reloads k r.number) (reloads_copies k rs)
    where
      by : (b : Bool) → AreCopies (reloads_of plan k rs) → AreCopies (cond b (reload plan r ∷ reloads_of plan k rs) (reloads_of plan k rs))
      by true h = a_copy copy.Reload (in_slot plan r) r h
      by false h = h

  spills_copies : (k : ℕ) (rs : List Reg) → AreCopies (spills_of plan k rs)
  spills_copies k [] = no_copy
  spills_copies k (r ∷ rs) = by (plan.spills k r.number) (spills_copies k rs)
    where
      by : (b : Bool) → AreCopies (spills_of plan k rs) → AreCopies (cond b (spill plan r ∷ spills_of plan k rs) (spills_of plan k rs))
      by true h = a_copy copy.Spill r (in_slot plan r) h
      by false h = h

  abbrev before : ℕ → Instr → List Instr
  before k i = reloads_of plan k (operand_registers i)

  abbrev after : ℕ → Instr → List Instr
  after k i = spills_of plan k (written_results i)

  are_before : (k : ℕ) (i : Instr) → AreCopies (before k i)
  are_before k i = reloads_copies k (operand_registers i)

  are_after : (k : ℕ) (i : Instr) → AreCopies (after k i)
  are_after k i = spills_copies k (written_results i)

  -- the code of an instruction before other code
  laid_out : (k : ℕ) (i : Instr) (zs : List Instr) → f k i ++ zs ≡ before k i ++ (i ∷ (after k i ++ zs))
  laid_out k i zs = append_assoc (before k i) (i ∷ after k i) zs

  -- ---- words, points and exits

  sum_up : (whole reloads own rest spills others code count args results : ℕ) → whole ≤ 6 * reloads + (own + rest) →
      rest ≤ 6 * spills + others → reloads ≤ args → spills ≤ results → others ≤ code + 6 * count →
      whole ≤ (own + code) + 6 * (args + results + count)
  sum_up whole reloads own rest spills others code count args results a b c d e = omega (arith, a, b, c, d, e)

  words : ((i : Instr) (k : ℕ) → length (before k i) ≤ length i.args) → ((i : Instr) (k : ℕ) → length (after k i) ≤ length i.results) →
      (code : List Instr) → code_words (expand f code) ≤ code_words code + 6 * operand_count code
  words few_before few_after [] = omega arith
  words few_before few_after (i ∷ is) =
      subst (λ xs. code_words xs ≤ code_words (i ∷ is) + 6 * operand_count (i ∷ is)) (sym (laid_out (length is) i (expand f is)))
      (sum_up (code_words (before (length is) i ++ (i ∷ (after (length is) i ++ expand f is)))) (length (before (length is) i)) (instr_words i)
      (code_words (after (length is) i ++ expand f is)) (length (after (length is) i)) (code_words (expand f is)) (code_words is)
      (operand_count is) (length i.args) (length i.results)
      (words_copies (are_before (length is) i) (i ∷ (after (length is) i ++ expand f is)))
      (words_copies (are_after (length is) i) (expand f is)) (few_before i (length is)) (few_after i (length is))
      (words few_before few_after is))

  same_points : (code : List Instr) → code_points (expand f code) ≡ code_points code
  same_points [] = refl
  same_points (i ∷ is) =
      ap code_points (laid_out (length is) i (expand f is))
      ∙ points_copies (are_before (length is) i) (i ∷ (after (length is) i ++ expand f is))
      ∙ ap (λ n. one_if_true (passes_frame i.op) + n) (points_copies (are_after (length is) i) (expand f is) ∙ same_points is)

  same_operands : (code : List Instr) → other_operands (expand f code) ≡ other_operands code
  same_operands [] = refl
  same_operands (i ∷ is) =
      ap other_operands (laid_out (length is) i (expand f is))
      ∙ operands_copies (are_before (length is) i) (i ∷ (after (length is) i ++ expand f is))
      ∙ ap (λ n. operands_with i.op i.args i.results + n) (operands_copies (are_after (length is) i) (expand f is) ∙ same_operands is)

  same_exits : (code : List Instr) → exit_count (expand f code) ≡ exit_count code
  same_exits [] = refl
  same_exits (i ∷ is) =
      ap exit_count (laid_out (length is) i (expand f is))
      ∙ exits_copies (are_before (length is) i) (i ∷ (after (length is) i ++ expand f is))
      ∙ ap (λ n. cond (is_exit i.op) (suc n) n) (exits_copies (are_after (length is) i) (expand f is) ∙ same_exits is)

  -- ---- tries

  module _ (most : ℕ) where
    abbrev AtMost : List Instr → Type 0
    AtMost code = (i : Instr) (next : List Instr) → StandsAsInstr i next code → length (tries_at (i ∷ next)) ≤ most

    fits : (xs ys : List Instr) → tries_at xs ≡ tries_at ys → length (tries_at ys) ≤ most → length (tries_at xs) ≤ most
    fits xs ys e le = subst (λ ts. length ts ≤ most) (sym e) le

    rest_fits : (code : List Instr) → AtMost code → length (tries_at code) ≤ most
    rest_fits [] h = omega arith
    rest_fits (i ∷ is) h = h i is here

    still_at_most : (code : List Instr) → AtMost code → AtMost (expand f code)
    still_at_most [] h j ys s = elim s [ ]
    still_at_most (i ∷ is) h j ys s =
        ⊎_elim (λ e. fits (j ∷ ys) (i ∷ own) e own_fits) (λ d. at_own d (λ z. still_at_most is (λ x next t. h x next (below t)) j ys z))
        (stands_copies (are_before (length is) i) j ys (i ∷ own) (subst (StandsAsInstr j ys) (laid_out (length is) i (expand f is)) s))
      where
        own : List Instr
        own = after (length is) i ++ expand f is

        own_fits : length (tries_at (i ∷ own)) ≤ most
        own_fits =
            fits (i ∷ own) (i ∷ is)
            (ap (tries_past i.op) (tries_copies (are_after (length is) i) (expand f is) ∙ tries_expand f (keeps_marks plan) is)) (h i is here)

        after_fits : length (tries_at (expand f is)) ≤ most
        after_fits = fits (expand f is) is (tries_expand f (keeps_marks plan) is) (rest_fits is (λ x next t. h x next (below t)))

        at_own : StandsAsInstr j ys (i ∷ own) → (StandsAsInstr j ys (expand f is) → length (tries_at (j ∷ ys)) ≤ most) → length (tries_at (j ∷ ys)) ≤ most
        at_own d ih =
            ⊎_elim
            (λ e. fits (j ∷ ys) (i ∷ own) (ap (λ (x : Instr). tries_at (x ∷ ys)) e.0 ∙ ap (λ zs. tries_at (i ∷ zs)) e.1) own_fits)
            (λ t.
            ⊎_elim (λ e. fits (j ∷ ys) (expand f is) e after_fits) ih
            (stands_copies (are_after (length is) i) j ys (expand f is) t))
            (stands_head d)

  -- ---- offsets

  abbrev Fits : Instr → Type 0
  Fits i = OffsetFits i.op

  fit_one : (code : List Instr) → All Fits code → (j : Instr) (ys : List Instr) → IsCopy plan j ⊎ IsMain plan j ys code → Fits j
  fit_one code h j ys (inl (is_reload k r t e)) = subst Fits (sym e) tt
  fit_one code h j ys (inl (is_spill r e)) = subst Fits (sym e) tt
  fit_one code h j ys (inr w) = All-contains Fits code j h (contains_of w.stands)

  offsets : (code : List Instr) → All Fits code → All Fits (expand f code)
  offsets code h k d lt =
      let j : Instr = slice_index_or (expand f code) k d in
      let s = stands_in (expand f code) j (Contains-get_or (expand f code) k d lt) in
      fit_one code h j s.0 (was_main plan code j s.0 s.1)

  -- ---- the end

  last : (args results : List Reg) → results ≡ [] →
      EndsInReturn (record { op = mach.Op (op.Leaving leaving.Return); args = args; results = results } ∷ (spills_of plan 0 results ++ []))
  last args [] e = at_return
  last args (r ∷ rs) e = absurd (some r rs e)
    where
      some : (r : Reg) (rs : List Reg) → r ∷ rs ≡ [] → ⊥
      some r rs e = cc

  still_ends : {code : List Instr} → ((i : Instr) (next : List Instr) → StandsAsInstr i next code → IsFormedInstruction i) → EndsInReturn code →
      EndsInReturn (expand f code)
  still_ends formed (at_return {args = args} {results = results}) =
      let i : Instr = record { op = mach.Op (op.Leaving leaving.Return); args = args; results = results } in
      subst EndsInReturn (sym (laid_out 0 i []))
      (ends_second (before 0 i) _ (last args results (return_results (formed i [] here) refl)))
  still_ends formed (further {i = i} {is = is} e) = ends_second (f (length is) i) _ (still_ends (λ j next s. formed j next (below s)) e)

-- ---- numbers of colours

still_low : (m q : Mach) {plan : SpillPlan} → q.colours ≡ m.colours → IsChosenKept m q plan → ColoursLow m → ColoursLow q
still_low m q same kept low r k c i u =
    ⊎_elim (λ was. low r k (subst (λ rs. Contains rs r) same c) was u) (λ slot. absurd (at_slot slot)) (kept.slots k i)
  where
    at_slot : IsNeededSlot m k → ⊥
    at_slot slot = slot_open slot.stands u

planned_carried : (m : Mach) (plan : SpillPlan) → WellFormed m → IsChosenKept m (spilled plan m) plan →
    IsCarried (copy_words * operand_count m.code) m (spilled plan m)
planned_carried m plan formed kept =
    record {
      words = words plan kept.reloads kept.spills m.code;
      points = le_of_eq (same_points plan m.code);
      operands = le_of_eq (same_operands plan m.code);
      exits = le_of_eq (same_exits plan m.code);
      tries = λ most h. still_at_most plan most m.code h;
      offsets = offsets plan m.code;
      ends = still_ends plan (λ i next s. All-contains IsFormedInstruction m.code i formed.instrs (contains_of s));
      colours_low = still_low m (spilled plan m) refl kept;
    }

-- Spilling adds copies alone, at most one for each operand and result, and gives no open register a number.
pub spill_carried : (m q : Mach) → WellFormed m → (s : IsSpilled m q) → IsChosenKept m q s.plan → IsCarried (copy_words * operand_count m.code) m q
spill_carried m q formed s kept =
    subst (λ q. IsCarried (copy_words * operand_count m.code) m q) (sym s.is)
    (planned_carried m s.plan formed (subst (λ q. IsChosenKept m q s.plan) s.is kept))
