-- The table of the intervals of a function is one, and its graph may be scanned with it.
use Rattle.std.proofs.Common.{◌≡◌, ℕ, suc, ◌<◌, ◌⊎◌, inl, inr, ⊎_elim, List, [], ◌∷◌, map, drop, refl, sym, ◌∙◌, subst, arith}
use Rattle.std.specs.List.{Contains}
use Rattle.bs_words.proofs.Lists.{none_in, in_cons, mapped}
use Rattle.bs_words.specs.Contents.{contents}
use Rattle.bs_words.specs.declared.types.Loc.{Loc}
use Rattle.bs_words.specs.declared.types.Loc.TheVariants as loc
use Rattle.colouring.proofs.Found.{in_graph}
use Rattle.colouring.proofs.Ordered.{one_by_members}
use Rattle.mach_ir.specs.Graph.{JoinedIn, IsGraph}
use Rattle.mach_ir.specs.Meaning.{killed}
use Rattle.mach_ir.specs.Placed.{HasColourRegisters, colour_numbers}
use Rattle.mach_ir.specs.Walks.{InCode, in_args, in_results, further, IsRegister, is_param, is_colour, is_in_code, Joined}
use Rattle.mach_ir.specs.declared.graph.Graph.{Graph}
use Rattle.mach_ir.specs.declared.mach.Instr.{Instr}
use Rattle.mach_ir.specs.declared.mach.Mach.{Mach}
use Rattle.mach_ir.specs.declared.reg.Reg.{Reg}
use Rattle.linscan_rules.specs.Contract.{Overlaps}
use Rattle.linscan_rules.specs.Ranges.{IsAtPlace, at_entry, reads, writes, IsInterval}
use Rattle.linscan_rules.specs.Table.{IntervalIn, IsIntervalsOf, IsScannable}
use Rattle.linscan_rules.specs.declared.interval.Interval.{Interval}
use Rattle.linscan_rules.specs.declared.interval.Intervals.{Intervals}
use Rattle.linscan_rules.proofs.Calls.{among_left, among_it}
use Rattle.linscan_rules.proofs.Rows.{in_of}
use Rattle.linscan_rules.proofs.Sharing.{joined_share, joined_overlap, interval_once}

-- ---- one table

abbrev pub ComesBefore : Interval → Interval → Type 0
ComesBefore x y = x.register < y.register

strict : (x y : Interval) → ComesBefore x y → ComesBefore y x → ⊥
strict x y a b = absurd (omega (arith, a, b))

-- what one table of a function says, each says
said_by_other : (m : Mach) (s t : Intervals) → IsIntervalsOf m s → IsIntervalsOf m t → (z : Interval) → Contains (contents s.list) z → Contains (contents t.list) z
said_by_other m s t one two z c =
    let own : IsInterval m z.register z.from z.to = one.exact z.register z.from z.to c in
    let other = two.all z.register z.from own.first in
    let same = interval_once m z.register z.from z.to other.0 other.1 own (two.exact z.register other.0 other.1 other.2) in
    subst (λ k. IntervalIn t z.register z.from k) (sym same.1) (subst (λ k. IntervalIn t z.register k other.1) (sym same.0) other.2)

pub table_once : (m : Mach) (s t : Intervals) → IsIntervalsOf m s → IsIntervalsOf m t → contents s.list ≡ contents t.list
table_once m s t one two =
    one_by_members ComesBefore strict (contents s.list) (contents t.list) one.order two.order (said_by_other m s t one two) (said_by_other m t s two one)

-- ---- where a register is

-- an instruction of this code that reads it or has it for a result
record Occurs (r : Reg) (code : List Instr) : Type 0 where
  place : ℕ
  instr : Instr
  next : List Instr
  is : drop place code ≡ instr ∷ next
  among : Contains instr.args r ⊎ Contains instr.results r

occurs : {r : Reg} {code : List Instr} → InCode r code → Occurs r code
occurs (in_args {i = i} {is = is} c) = record { place = 0; instr = i; next = is; is = refl; among = inl c }
occurs (in_results {i = i} {is = is} c) = record { place = 0; instr = i; next = is; is = refl; among = inr c }
occurs (further c) = let o = occurs c in record { place = suc o.place; instr = o.instr; next = o.next; is = o.is; among = o.among }

occurs_at : (m : Mach) (r : Reg) (o : Occurs r m.code) → IsAtPlace m r.number o.place
occurs_at m r o =
    ⊎_elim (λ c. reads o.place o.instr o.next o.is (among_it r o.instr.args (in_of r o.instr.args c)))
    (λ c. writes o.place o.instr o.next o.is (among_left r.number o.instr.results (killed m o.instr) (among_it r o.instr.results (in_of r o.instr.results c)))) o.among

-- the register of a colour is fixed
machine_of : (cs : List ℕ) (l : Loc) → Contains (map loc.Machine cs) l → (c : ℕ) × (l ≡ loc.Machine c)
machine_of [] l i = absurd (none_in l i)
machine_of (c ∷ cs) l i = ⊎_elim (λ e. (c, sym e)) (λ d. machine_of cs l d) (in_cons (loc.Machine c) l (map loc.Machine cs) i)

colour_fixed : (m : Mach) → HasColourRegisters m → (r : Reg) → Contains m.colours r → r.loc ≡ loc.Unset → ⊥
colour_fixed m has r c u =
    let w = machine_of colour_numbers r.loc (subst (λ ls. Contains ls r.loc) has.each (mapped (λ (r : Reg). r.loc) m.colours r c)) in
    no w.0 (sym u ∙ w.1)
  where
    no : (n : ℕ) → loc.Unset ≡ loc.Machine n → ⊥
    no n e = cc

-- ---- the graph

module _ (m : Mach) (g : Graph) (t : Intervals) (has : HasColourRegisters m) (is : IsGraph m g) (its : IsIntervalsOf m t) where
  open_one : (r : Reg) → IsRegister m r → r.loc ≡ loc.Unset → (from : ℕ) × (to : ℕ) × IntervalIn t r.number from to
  open_one r (is_param c) u = its.all r.number 0 (at_entry (among_it r m.params (in_of r m.params c)))
  open_one r (is_colour c) u = absurd (colour_fixed m has r c u)
  open_one r (is_in_code c) u = let o = occurs c in its.all r.number o.place (occurs_at m r o)

  of_edge : (n k : ℕ) → JoinedIn g n k → Joined m n k
  of_edge n k j =
      let r = (j.node).reg in
      let one : IsRegister m r = (is.registers r).0 (in_graph g.nodes j.node j.among) in
      subst (λ n. Joined m n k) j.number ((is.edges r one k).0 (record { node = j.node; among = j.among; number = refl; joins = j.joins }))

  joined_have : (n k : ℕ) → Joined m n k → Overlaps (IntervalIn t) n k
  joined_have n k j =
      let s = joined_share m n k j in
      let a = its.all n s.place s.first in
      let b = its.all k s.place s.second in
      record {
        from = a.0;
        to = a.1;
        other_from = b.0;
        other_to = b.1;
        one = a.2;
        two = b.2;
        overlap = joined_overlap m n k a.0 a.1 b.0 b.1 j (its.exact n a.0 a.1 a.2) (its.exact k b.0 b.1 b.2);
      }

  pub scannable : IsScannable g t
  scannable =
      record {
        order = its.order;
        ranges = λ n from to c. let i = its.exact n from to c in i.most from i.first;
        open_ones = λ r i u. open_one r ((is.registers r).0 i) u;
        overlap = λ n k j. joined_have n k (of_edge n k j);
      }
