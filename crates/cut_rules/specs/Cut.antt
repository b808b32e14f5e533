-- Mach functions whose straight runs are cut by labels to which nothing leads.
use Rattle.std.specs.Prelude.{◌≡◌, ℕ, suc, ◌≤◌, true, cond, nat_eq, List, [], ◌∷◌}
use Rattle.comballoc_rules.specs.Neighbours.{is_allocation}
use Rattle.mach_ir.specs.Placed.{is_straight}
use Rattle.mach_ir.specs.declared.mach.Mark.TheVariants as mark
use Rattle.mach_ir.specs.declared.mach.MachOp.TheVariants as mach
use Rattle.mach_ir.specs.declared.mach.Instr.{Instr}
use Rattle.mach_ir.specs.declared.mach.Mach.{Mach}

-- a mark that is a label alone
abbrev pub cut_mark : ℕ → Instr
cut_mark l = record { op = mach.Mark (mark.End l); args = []; results = [] }

-- Right after some instructions of straight runs stands such a mark, with a label that is free in the
-- function.
pub data IsCutCode (m : Mach) : List Instr → List Instr → Type 0 where
  no_code : IsCutCode m [] []
  unmarked : {i : Instr} {next ys : List Instr} → IsCutCode m next ys →
      IsCutCode m (i ∷ next) (i ∷ ys)
  marked : {i : Instr} {l : ℕ} {next ys : List Instr} → is_straight i.op ≡ true → m.labels ≤ l →
      IsCutCode m next ys → IsCutCode m (i ∷ next) (i ∷ cut_mark l ∷ ys)

abbrev pub replaced_code : Mach → List Instr → ℕ → Mach
replaced_code m code labels = record m { code = code; labels = labels }

-- The second function is the first with cuts.
pub record IsWithCuts (m q : Mach) : Type 0 where
  pub code : List Instr
  pub labels : ℕ
  pub is : q ≡ replaced_code m code labels
  pub cut : IsCutCode m m.code code

-- ---- after every twelfth allocation

abbrev pub most_allocations : ℕ
most_allocations = 12

abbrev pub allocation_count : List Instr → ℕ
allocation_count [] = 0
allocation_count (i ∷ is) =
    cond (is_allocation i.op) (suc (allocation_count is)) (allocation_count is)

-- The code with its cuts, where so many allocations of the run are before it, and labels from this
-- one on are free.
abbrev pub cut_code : ℕ → ℕ → List Instr → List Instr
cut_code count l [] = []
cut_code count l (i ∷ is) =
    cond (is_allocation i.op)
    (cond (nat_eq (suc count) most_allocations)
    (i ∷ cut_mark l ∷ cut_code 0 (suc l) is)
    (i ∷ cut_code (suc count) l is))
    (i ∷ cut_code (cond (is_straight i.op) count 0) l is)

-- the first label that is free after these cuts
abbrev pub label_past_cuts : ℕ → ℕ → List Instr → ℕ
label_past_cuts count l [] = l
label_past_cuts count l (i ∷ is) =
    cond (is_allocation i.op)
    (cond (nat_eq (suc count) most_allocations)
    (label_past_cuts 0 (suc l) is)
    (label_past_cuts (suc count) l is))
    (label_past_cuts (cond (is_straight i.op) count 0) l is)

abbrev pub with_cuts : Mach → Mach
with_cuts m =
    replaced_code m (cut_code 0 m.labels m.code) (label_past_cuts 0 m.labels m.code)
