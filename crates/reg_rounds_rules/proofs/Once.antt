-- Allocation makes one function of each: a function has one graph, for that a choice takes places that are one, and by these
-- reloading makes one function and one answer.
use Rattle.std.proofs.Common.{◌≡◌, ⊎_elim, ℕ, ◌<◌, ◌≤◌, Bool, true, false, List, refl, sym, subst, arith}
use Rattle.std.specs.List.{Contains}
use Rattle.bs_words.specs.Contents.{contents}
use Rattle.std.proofs.lemmas.Bool.{cases_lt, true≢false}
use mathlib.Core.Path.{fun_ext}
use Rattle.choices.specs.declared.choices.Alloc.{Alloc}
use Rattle.choices.specs.declared.choices.Alloc.TheVariants.{Colour, Linear}
use Rattle.colouring.proofs.Ordered.{one_colouring}
use Rattle.linscan_rules.specs.Scan.{OpenInterval}
use Rattle.linscan_rules.specs.Table.{IsOpenInterval, IsScannedBy}
use Rattle.linscan_rules.specs.declared.interval.Interval.{Interval}
use Rattle.linscan_rules.specs.declared.interval.Intervals.{Intervals}
use Rattle.linscan_rules.proofs.Graphs.{scan_once}
use Rattle.linscan_rules.proofs.Tables.{table_once}
use Rattle.mach_ir.specs.Graph.{coloured_location}
use Rattle.mach_ir.specs.Placed.{Colouring}
use Rattle.mach_ir.specs.declared.graph.Colours.{Colours}
use Rattle.mach_ir.specs.declared.graph.Graph.{Graph}
use Rattle.mach_ir.specs.declared.mach.Mach.{Mach}
use Rattle.reload_rules.specs.Reloaded.{IsFree, IsReloadedBy}
use Rattle.reload_rules.proofs.Together.{one_reloaded}
use Rattle.reg_rounds_rules.specs.Rounds.{Chooses, IsLinearScan, IsRound, RoundsAsked, none_yet, one_more, EndsRounds, asks_no_more, gives_up, IsRegisterAllocated}
use Rattle.reg_rounds_rules.proofs.Graphs.{graph_once}

-- What a table leads to depends on what it holds alone.
open_by : (g : Graph) (s t : Intervals) → contents s.list ≡ contents t.list → (x : OpenInterval) → IsOpenInterval g s x → IsOpenInterval g t x
open_by g s t same x o = record {
  reg = o.reg;
  among = o.among;
  is_open = o.is_open;
  number = o.number;
  origin = o.origin;
  interval = subst (λ (list : List Interval). Contains list (record { register = x.number; from = x.from; to = x.to })) same o.interval;
}

scanned_by : (g : Graph) (s t : Intervals) (c : Colours) → contents s.list ≡ contents t.list → IsScannedBy g s c → IsScannedBy g t c
scanned_by g s t c same by = record {
  rows = by.rows;
  ordered =
      record {
        exact =
            λ x. (
              λ among. open_by g s t same x (((by.ordered).exact x).0 among),
              λ o. ((by.ordered).exact x).1 (open_by g t s (sym same) x o),
            );
        sorted = (by.ordered).sorted;
      };
  places = by.places;
}

one_scan : (m : Mach) (g : Graph) (c d : Colours) → IsLinearScan m g c → IsLinearScan m g d → (n : ℕ) → coloured_location c n ≡ coloured_location d n
one_scan m g c d one two =
    let same : contents (two.intervals).list ≡ contents (one.intervals).list = table_once m two.intervals one.intervals two.of_function one.of_function in
    scan_once g one.intervals c d one.scanned (scanned_by g two.intervals one.intervals d same two.scanned)

-- What is chosen for a graph is one.
chosen_once : (alloc : Alloc) (fresh : ℕ) (m : Mach) (g : Graph) (c d : Colours) → Chooses alloc fresh m g c → Chooses alloc fresh m g d → coloured_location c ≡ coloured_location d
chosen_once Colour fresh m g c d by_c by_d = fun_ext (one_colouring fresh g c d by_c.1 by_d.1)
chosen_once Linear fresh m g c d by_c by_d = fun_ext (one_scan m g c d by_c by_d)

module _ {alloc : Alloc} {fresh : ℕ} where
  same_place : {m q k : Mach} {a b : Bool} (r : IsRound alloc fresh m q a) (s : IsRound alloc fresh m k b) → coloured_location r.colours ≡ coloured_location s.colours
  same_place {m} r s =
      let chosen : Chooses alloc fresh m r.graph s.colours = subst (λ (g : Graph). Chooses alloc fresh m g s.colours) (sym (graph_once r.of_function s.of_function)) s.chosen in
      chosen_once alloc fresh m r.graph r.colours s.colours r.chosen chosen

  both_once : {m q k : Mach} {a b : Bool} (r : IsRound alloc fresh m q a) (s : IsRound alloc fresh m k b) → (q ≡ k) × (a ≡ b)
  both_once {m} {q} {k} {a} {b} r s =
      one_reloaded m q k (coloured_location r.colours) a b r.reloaded (subst (λ (place : Colouring). IsReloadedBy m place k b) (sym (same_place r s)) s.reloaded)

  -- So many rounds lead to one function.
  asked_once : {first m k : Mach} {rounds : ℕ} → RoundsAsked alloc fresh first rounds m → RoundsAsked alloc fresh first rounds k → m ≡ k
  asked_once none_yet none_yet = refl
  asked_once {k = k} (one_more a r) (one_more b s) = (both_once r (subst (λ (p : Mach). IsRound alloc fresh p k true) (sym (asked_once a b)) s)).0

  -- Where a round asks for no other, none follows it.
  asked_before : {first m : Mach} (n : ℕ) {more : ℕ} → n < more → RoundsAsked alloc fresh first more m → (p : Mach) × (q : Mach) × RoundsAsked alloc fresh first n p × IsRound alloc fresh p q true
  asked_before n less none_yet = absurd (omega (arith, less))
  asked_before {first} n less (one_more {rounds = rounds} {m = p} {q = q} a r) =
      ⊎_elim (λ (lt : n < rounds). asked_before n lt a)
      (λ (ge : rounds ≤ n). let e : rounds ≡ n = omega (arith, less, ge) in (p, q, subst (λ k. RoundsAsked alloc fresh first k p) e a, r))
      (cases_lt n rounds)

  no_later : {first q m : Mach} (n : ℕ) {more : ℕ} {p : Mach} → RoundsAsked alloc fresh first n p → IsRound alloc fresh p q false → n < more → RoundsAsked alloc fresh first more m → ⊥
  no_later {q = q} n {p = p} a r less b =
      let x = asked_before n less b in
      true≢false (both_once (subst (λ (k : Mach). IsRound alloc fresh k x.1 true) (asked_once x.2 a) x.3) r).1

  ends_once : {first q k : Mach} {n m : ℕ} {a b : Bool} → EndsRounds alloc fresh first q n a → EndsRounds alloc fresh first k m b → q ≡ k
  ends_once {k = k} (asks_no_more {rounds = n} few a r) (asks_no_more {rounds = m} less b s) =
      ⊎_elim (λ (lt : n < m). absurd (no_later n a r lt b))
      (λ (ge : m ≤ n). ⊎_elim (λ (gt : m < n). absurd (no_later m b s gt a))
      (λ (le : n ≤ m). let e : n ≡ m = omega (arith, ge, le) in same n m e a r b s)
      (cases_lt m n))
      (cases_lt n m)
    where
      same : {first p q o k : Mach} (n m : ℕ) → n ≡ m → RoundsAsked alloc fresh first n p → IsRound alloc fresh p q false → RoundsAsked alloc fresh first m o → IsRound alloc fresh o k false → q ≡ k
      same {first} {o = o} {k = k} n m e a r b s =
          (both_once r (subst (λ (p : Mach). IsRound alloc fresh p k false) (sym (asked_once a (subst (λ j. RoundsAsked alloc fresh first j o) (sym e) b))) s)).0
  ends_once (asks_no_more {rounds = n} few a r) (gives_up b) = absurd (no_later n a r few b)
  ends_once (gives_up a) (asks_no_more {rounds = m} few b s) = absurd (no_later m b s few a)
  ends_once (gives_up a) (gives_up b) = refl

one_free : {m : Mach} {a b : ℕ} → IsFree m a → IsFree m b → a ≡ b
one_free {m} {a} {b} f g = let x = f.least b g.above in let y = g.least a f.above in omega (arith, x, y)

-- Allocation makes one function of each.
pub allocated_once : {alloc : Alloc} {m q k : Mach} → IsRegisterAllocated alloc m q → IsRegisterAllocated alloc m k → q ≡ k
allocated_once {alloc} {m} {q} {k} a b =
    let x = a.allocated in
    let y = b.allocated in
    ends_once x.ends (subst (λ fresh. EndsRounds alloc fresh m k b.rounds b.rest) (sym (one_free x.free y.free)) y.ends)
