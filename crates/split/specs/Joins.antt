-- Labels of writes: those that are joined have one.
use Rattle.std.specs.Prelude.{◌≡◌, ℕ, ◌<◌, ◌≤◌, Bool, true, cond, nat_eq, List, ◌∷◌, Some, map, min, max, length, drop, slice_get, slice_index, Contains}
use Rattle.bs_bits.specs.Set.{has}
use Rattle.dataflow.specs.Rows.{set_in_row}
use Rattle.mach_ir.specs.Walks.{AmongRegisters}
use Rattle.mach_ir.specs.declared.reg.Reg.{Reg}
use Rattle.mach_ir.specs.declared.mach.Instr.{Instr}
use Rattle.mach_ir.specs.declared.mach.Mach.{Mach}
use Rattle.split_rules.specs.Writes.{Chained}
use Rattle.split.specs.Writes.{listed_writes, writes_of_number, code_after}
use Rattle.split_rules.specs.declared.writes.Write.{Write}
use Rattle.split.specs.declared.writes.Writes.{Writes}

-- one label in the place of another
abbrev pub replaced_label : ℕ → ℕ → ℕ → ℕ
replaced_label from to label = cond (nat_eq label from) to label

-- the lesser of two labels in the place of the greater
abbrev pub joined_labels : List ℕ → ℕ → ℕ → List ℕ
joined_labels labels one other = map (replaced_label (max one other) (min one other)) labels

-- one of these writes, which comes to a place
pub record IsComingWrite (writes_of_number : List ℕ) (rows : List (List Bool)) (p w : ℕ) : Type 0 where
  pub member : Contains writes_of_number w
  pub comes : has (set_in_row rows p) w ≡ true

-- how a write has come to its label
pub data Relabelled (old new : List ℕ) (writes_of_number : List ℕ) (rows : List (List Bool)) (p w : ℕ) :
    Type 0 where
  as_it_was : slice_index new w ≡ slice_index old w → Relabelled old new writes_of_number rows p w
  as_another : (u v : ℕ) → IsComingWrite writes_of_number rows p u → IsComingWrite writes_of_number rows p v →
      slice_index old w ≡ slice_index old u → slice_index new w ≡ slice_index old v →
      Relabelled old new writes_of_number rows p w

-- Those of these writes that come to a place have one label. Labels only fall, others have come to new ones only by
-- them, and what had one label still has.
pub record Joins (old new : List ℕ) (writes_of_number : List ℕ) (rows : List (List Bool)) (p : ℕ) :
    Type 0 where
  pub len : length new ≡ length old
  pub less : (w : ℕ) → w < length old → slice_index new w ≤ slice_index old w
  pub same : (w v : ℕ) → w < length old → v < length old → slice_index old w ≡ slice_index old v →
      slice_index new w ≡ slice_index new v
  pub together : (w v : ℕ) → IsComingWrite writes_of_number rows p w → IsComingWrite writes_of_number rows p v →
      slice_index new w ≡ slice_index new v
  pub from : (w : ℕ) → w < length old → Relabelled old new writes_of_number rows p w

-- two writes of one register that are joined
pub record AreJoinedWrites (m : Mach) (t : Writes) (w v : ℕ) : Type 0 where
  pub one : Write
  pub other : Write
  pub is_one : slice_get (listed_writes t) w ≡ Some one
  pub is_other : slice_get (listed_writes t) v ≡ Some other
  pub number : one.number ≡ other.number
  pub chained : Chained m one.number (code_after m one.left) (code_after m other.left)

-- each write is joined with the one that its label names
pub record AreSound (m : Mach) (t : Writes) (labels : List ℕ) : Type 0 where
  pub len : length labels ≡ length (listed_writes t)
  pub linked : (w : ℕ) → w < length labels → AreJoinedWrites m t w (slice_index labels w)

-- the writes of a register that come to a place have one label
pub record HaveOne (t : Writes) (rows : List (List Bool)) (labels : List ℕ) (p n : ℕ) :
    Type 0 where
  pub one : (w v : ℕ) → IsComingWrite (writes_of_number t n) rows p w → IsComingWrite (writes_of_number t n) rows p v →
      slice_index labels w ≡ slice_index labels v

-- Writes that are joined have one label, and no label is above its write's index: so it is the least
-- index of its web.
pub record AreWebs (m : Mach) (t : Writes) (rows : List (List Bool)) (labels : List ℕ) :
    Type 0 where
  pub sound : AreSound m t labels
  pub least : (w : ℕ) → w < length labels → slice_index labels w ≤ w
  pub one : (p : ℕ) (i : Instr) (next : List Instr) (n : ℕ) → drop p m.code ≡ i ∷ next →
      AmongRegisters n i.args → HaveOne t rows labels p n

-- the indexes of the writes of each number are below this one
pub record AreIndexes (t : Writes) (count : ℕ) : Type 0 where
  pub below : (n w : ℕ) → Contains (writes_of_number t n) w → w < count

-- The writes of each of these operands that come to the place have one label, labels only fall, what had one still has,
-- and where writes that come to a place are joined, others have only come to labels of such.
pub record JoinsReads (old new : List ℕ) (t : Writes) (rows : List (List Bool)) (p : ℕ)
    (args : List Reg) : Type 0 where
  pub len : length new ≡ length old
  pub less : (w : ℕ) → w < length old → slice_index new w ≤ slice_index old w
  pub same : (w v : ℕ) → w < length old → v < length old → slice_index old w ≡ slice_index old v →
      slice_index new w ≡ slice_index new v
  pub one : (n : ℕ) → AmongRegisters n args → HaveOne t rows new p n
  pub sound : (m : Mach) → AreSound m t old →
      ((n w v : ℕ) → AmongRegisters n args → IsComingWrite (writes_of_number t n) rows p w →
      IsComingWrite (writes_of_number t n) rows p v → AreJoinedWrites m t w v) →
      AreSound m t new
