-- The function with its cuts is one, and a straight run of it has few allocations.
use Rattle.std.proofs.Common.{◌≡◌, ℕ, zero, suc, ◌+◌, ◌≤◌, Bool, true, false, cond, List, [], ◌∷◌, ◌++◌, refl, sym, ap, ◌∙◌, subst, arith}
use Rattle.std.specs.Prelude.{nat_eq}
use Rattle.std.proofs.lemmas.Bool.{true≢false}
use Rattle.mach_ir.specs.Formed.{WellFormed}
use Rattle.mach_ir.specs.Placed.{is_straight, AreStraight, IsStraightRun}
use Rattle.mach_ir.specs.declared.op.Op.TheVariants as op
use Rattle.mach_ir.specs.declared.mach.MachOp.{MachOp}
use Rattle.mach_ir.specs.declared.mach.MachOp.TheVariants as mach
use Rattle.mach_ir.specs.declared.mach.Instr.{Instr}
use Rattle.mach_ir.specs.declared.mach.Mach.{Mach}
use Rattle.comballoc_rules.specs.Neighbours.{is_allocation}
use Rattle.mach_laws.proofs.Places.{head_of, tail_of}
use Rattle.cut_rules.specs.Cut.{cut_mark, IsCutCode, no_code, unmarked, marked, IsWithCuts, most_allocations, allocation_count, cut_code, label_past_cuts, replaced_code, with_cuts}
use Rattle.cut_rules.specs.Kept.{IsCutKept}
use Rattle.cut_rules.proofs.Doing.{does, no_addr}
use Rattle.cut_rules.proofs.Walked.{register_back}

straight_allocation : (f : MachOp) → is_allocation f ≡ true → is_straight f ≡ true
straight_allocation (mach.Op (op.Access f)) e = refl
straight_allocation (mach.Op (op.Pure f)) e = refl
straight_allocation (mach.Op (op.Calling f)) e = absurd (true≢false (sym e))
straight_allocation (mach.Op (op.Leaving f)) e = absurd (true≢false (sym e))
straight_allocation (mach.Mark f) e = absurd (true≢false (sym e))

is_cut : (m : Mach) (count l : ℕ) (code : List Instr) → m.labels ≤ l → IsCutCode m code (cut_code count l code)
is_cut m count l [] low = no_code
is_cut m count l (i ∷ is) low =
    by (is_allocation i.op) refl (nat_eq (suc count) most_allocations) (λ k j lo. is_cut m k j is lo)
  where
    by : (a : Bool) → is_allocation i.op ≡ a → (b : Bool) → ((k j : ℕ) → m.labels ≤ j → IsCutCode m is (cut_code k j is)) →
        IsCutCode m (i ∷ is)
        (cond a (cond b (i ∷ cut_mark l ∷ cut_code 0 (suc l) is) (i ∷ cut_code (suc count) l is)) (i ∷ cut_code (cond (is_straight i.op) count 0) l is))
    by true e true ih = marked (straight_allocation i.op e) low (ih 0 (suc l) (omega (arith, low)))
    by true e false ih = unmarked (ih (suc count) l low)
    by false e b ih = unmarked (ih (cond (is_straight i.op) count 0) l low)

-- A function with cuts is kept.
pub cut_kept : (m q : Mach) → WellFormed m → IsWithCuts m q → IsCutKept m q
cut_kept m q formed is = subst (IsCutKept m) (sym is.is) kept
  where
    kept : IsCutKept m (replaced_code m is.code is.labels)
    kept =
        record {
          does = does m formed is.code is.labels is.cut;
          addrs = no_addr m formed is.code is.labels is.cut;
          registers = register_back m formed is.code is.labels is.cut;
        }

-- These are cuts.
pub has_cuts : (m : Mach) → IsWithCuts m (with_cuts m)
has_cuts m =
    record {
      code = cut_code 0 m.labels m.code;
      labels = label_past_cuts 0 m.labels m.code;
      is = refl;
      cut = is_cut m 0 m.labels m.code (omega arith);
    }

-- ---- few allocations in a run

-- at most so many allocations come from here on in the straight run, and at most the most of all in each run after
pub data Few : ℕ → List Instr → Type 0 where
  no_more : {n : ℕ} → Few n []
  allocates : {n : ℕ} {i : Instr} {is : List Instr} → is_allocation i.op ≡ true → Few n is → Few (suc n) (i ∷ is)
  goes_on : {n : ℕ} {i : Instr} {is : List Instr} → is_allocation i.op ≡ false → is_straight i.op ≡ true → Few n is → Few n (i ∷ is)
  run_ends : {n : ℕ} {i : Instr} {is : List Instr} → is_allocation i.op ≡ false → is_straight i.op ≡ false → Few most_allocations is → Few n (i ∷ is)

few : (count n l : ℕ) (code : List Instr) → suc (count + n) ≡ most_allocations → Few (suc n) (cut_code count l code)
few count n l [] e = no_more
few count n l (i ∷ is) e =
    by (is_allocation i.op) refl (nat_eq (suc count) most_allocations) refl (is_straight i.op) refl (λ k j o g. few k j o is g)
  where
    by : (a : Bool) → is_allocation i.op ≡ a → (b : Bool) → nat_eq (suc count) most_allocations ≡ b → (s : Bool) → is_straight i.op ≡ s →
        ((k j o : ℕ) → suc (k + j) ≡ most_allocations → Few (suc j) (cut_code k o is)) →
        Few (suc n) (cond a (cond b (i ∷ cut_mark l ∷ cut_code 0 (suc l) is) (i ∷ cut_code (suc count) l is)) (i ∷ cut_code (cond s count 0) l is))
    by true a true b s t ih = allocates a (run_ends refl refl (ih 0 11 (suc l) refl))
    by true a false b s t ih = allocates a (smaller n e b (λ k g. ih (suc count) k l g))
      where
        smaller : (n : ℕ) → suc (count + n) ≡ 12 → nat_eq (suc count) 12 ≡ false → ((k : ℕ) → suc (suc count + k) ≡ 12 → Few (suc k) (cut_code (suc count) l is)) →
            Few n (cut_code (suc count) l is)
        smaller zero e b h = absurd (no count e b)
          where
            no : (count : ℕ) → suc (count + 0) ≡ 12 → nat_eq (suc count) 12 ≡ false → ⊥
            no count e b =
                let same : suc count ≡ 12 = omega (arith, e) in true≢false (ap (λ k. nat_eq k 12) (sym same) ∙ b)
        smaller (suc k) e b h = h k (omega (arith, e))
    by false a b g true t ih = goes_on a t (ih count n l e)
    by false a b g false t ih = run_ends a t (ih 0 11 l refl)

few_in_code : (m : Mach) → Few most_allocations (with_cuts m).code
few_in_code m = few 0 11 m.labels m.code refl

few_later : {n : ℕ} (before rest : List Instr) → n ≤ 12 → Few n (before ++ rest) → (k : ℕ) × (k ≤ 12) × Few k rest
few_later {n} [] rest le f = (n, le, f)
few_later (i ∷ before) rest le (allocates {n = n} a f) = few_later {n = n} before rest (omega (arith, le)) f
few_later (i ∷ before) rest le (goes_on a s f) = few_later before rest le f
few_later (i ∷ before) rest le (run_ends a s f) = few_later {n = 12} before rest (omega arith) f

few_first : {n : ℕ} (run after : List Instr) → AreStraight run → Few n (run ++ after) → allocation_count run ≤ n
few_first [] after straight f = omega arith
few_first (i ∷ run) after straight (allocates {n = n} a f) =
    let le = few_first run after (tail_of i run straight) f in
    let up : suc (allocation_count run) ≤ suc n = omega (arith, le) in
    subst (λ b. cond b (suc (allocation_count run)) (allocation_count run) ≤ suc n) (sym a) up
few_first {n} (i ∷ run) after straight (goes_on a s f) =
    subst (λ b. cond b (suc (allocation_count run)) (allocation_count run) ≤ n) (sym a) (few_first run after (tail_of i run straight) f)
few_first (i ∷ run) after straight (run_ends a s f) = absurd (true≢false (sym (head_of i run straight) ∙ s))

pub few_in_runs : (m : Mach) (run : List Instr) → IsStraightRun (with_cuts m) run → allocation_count run ≤ most_allocations
few_in_runs m run is =
    let h = few_later {n = 12} is.before (run ++ is.after) (omega arith) (subst (Few most_allocations) is.within (few_in_code m)) in
    let le = few_first run is.after is.straight h.2 in
    let most = h.1 in
    omega (arith, le, most)
