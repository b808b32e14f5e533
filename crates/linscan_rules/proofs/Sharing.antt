-- Registers that the graph joins have intervals that overlap.
use Rattle.std.proofs.Common.{◌≡◌, ℕ, suc, List, [], ◌∷◌, drop, refl, arith}
use Rattle.mach_ir.specs.Walks.{Live, read, on, aside, StandsAsInstr, here, below, Meets, at_write, at_params, Joined, one_way, other_way}
use Rattle.mach_ir.specs.declared.mach.Instr.{Instr}
use Rattle.mach_ir.specs.declared.mach.Mach.{Mach}
use Rattle.linscan_rules.specs.Ranges.{IsAtPlace, at_entry, writes, before, after, IsInterval, Overlap}

-- the number of a place
pub record IsPlace (i : Instr) (next code : List Instr) : Type 0 where
  pub place : ℕ
  pub is : drop place code ≡ i ∷ next

place_of : {i : Instr} {next code : List Instr} → StandsAsInstr i next code → IsPlace i next code
place_of here = record { place = 0; is = refl }
place_of (below s) = let p = place_of s in record { place = suc p.place; is = p.is }

-- both are at one place
pub record Share (m : Mach) (n k : ℕ) : Type 0 where
  pub place : ℕ
  pub first : IsAtPlace m n place
  pub second : IsAtPlace m k place

no_code : (m : Mach) (k : ℕ) (code : List Instr) → Live m k code → code ≡ [] → ⊥
no_code m k _ (read {i = i} {next = next} a) e = not_nil i next e
  where
    not_nil : (i : Instr) (is : List Instr) → i ∷ is ≡ [] → ⊥
    not_nil i is e = cc
no_code m k _ (on {i = i} {next = next} w g v) e = not_nil i next e
  where
    not_nil : (i : Instr) (is : List Instr) → i ∷ is ≡ [] → ⊥
    not_nil i is e = cc
no_code m k _ (aside {i = i} {next = next} r v) e = not_nil i next e
  where
    not_nil : (i : Instr) (is : List Instr) → i ∷ is ≡ [] → ⊥
    not_nil i is e = cc

at_first : (m : Mach) (k : ℕ) → Live m k m.code → IsAtPlace m k 0
at_first m k v = by m.code refl v
  where
    by : (code : List Instr) → m.code ≡ code → Live m k code → IsAtPlace m k 0
    by [] e v = absurd (no_code m k [] v refl)
    by (i ∷ is) e v = before 0 i is e v

meeting : (m : Mach) (n k : ℕ) → Meets m n k → Share m n k
meeting m n k (at_write i next s w v no_move) =
    let p = place_of s in record { place = p.place; first = writes p.place i next p.is w; second = after p.place i next p.is v }
meeting m n k (at_params a v) = record { place = 0; first = at_entry a; second = at_first m k v }

pub joined_share : (m : Mach) (n k : ℕ) → Joined m n k → Share m n k
joined_share m n k (one_way other s) = meeting m n k s
joined_share m n k (other_way other s) = let p = meeting m k n s in record { place = p.place; first = p.second; second = p.first }

pub joined_overlap : (m : Mach) (n k from to other_from other_to : ℕ) → Joined m n k → IsInterval m n from to → IsInterval m k other_from other_to →
    Overlap from to other_from other_to
joined_overlap m n k from to other_from other_to j one two =
    let s = joined_share m n k j in
    let a = one.least s.place s.first in
    let b = one.most s.place s.first in
    let c = two.least s.place s.second in
    let d = two.most s.place s.second in
    (omega (arith, a, d), omega (arith, c, b))

-- a register has one interval
pub interval_once : (m : Mach) (n from to other_from other_to : ℕ) → IsInterval m n from to → IsInterval m n other_from other_to →
    (from ≡ other_from) × (to ≡ other_to)
interval_once m n from to other_from other_to one two =
    let a = one.least other_from two.first in
    let b = two.least from one.first in
    let c = one.most other_to two.last in
    let d = two.most to one.last in
    (omega (arith, a, b), omega (arith, c, d))
