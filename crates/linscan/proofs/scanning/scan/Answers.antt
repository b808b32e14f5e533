use Rattle.std.proofs.Common.{◌≡◌, ◌<◌, ℕ, List, length, refl, sym, subst, ◌∙◌}
use Rattle.std.specs.List.{Contains, list_any}
use Rattle.bs_words.specs.declared.types.Loc.{Loc}
use Rattle.mach_ir.specs.Placed.{colour_numbers}
use Rattle.colouring.specs.Chosen.{has_colour}
use Rattle.colouring.specs.Tables.{places_by}
use Rattle.linscan_rules.specs.Table.{IsScanOrder, closed_by}
use Rattle.linscan_rules.proofs.Graphs.{scanned_safe, scanned_full}
use Rattle.linscan.specs.Held.{is_closed_in, IsGiverBelow}
use Rattle.linscan.specs.Order.{row_of, open_rows, AreNodesOf}
use Rattle.linscan.specs.declared.choice.Choice.{Choice}
use Rattle.linscan.specs.declared.order.OpenNode.{OpenNode}
use Rattle.linscan.proofs.Folding.{shut_by, goes_begun, register_below, giver_below, goes_on, goes_all}
use Rattle.linscan.proofs.scanning.scan.Goals as goal

pub loop-next-init : goal.loop-next-init
loop-next-init c =
    let g = c.args.graph.now in
    let t = c.args.intervals.now in
    let order = subst (λ (l : List OpenNode). IsScanOrder g t (open_rows l)) (sym c.deref-next-items.ensures.value) c.in_ok-order.ensures.order in
    goes_begun g t c.deref-next-items.result.now c.requires.scannable order (length c.in_ok-fixed.fixed.items) c.in_ok-places.places.items
    c.in_ok-fixed.fixed.items c.new-active.result refl c.in_ok-fixed.ensures.places (c.in_ok-places.ensures ∙ c.as_slice.ensures.value)
    c.new-active.ensures

pub settle-requires-clause-number : goal.settle-requires-clause-number
settle-requires-clause-number c =
    let g = c.args.graph.now in
    let t = c.args.intervals.now in
    let order = subst (λ (l : List OpenNode). IsScanOrder g t (open_rows l)) (sym c.deref-next-items.ensures.value) c.in_ok-order.ensures.order in
    register_below g t c.deref-next-items.result.now c.requires.scannable order (length c.in_ok-fixed.fixed.items) c.loop-next.next-index
    c.loop-next.allotted.places.items c.loop-next.allotted.active c.next-item.result c.loop-next.invariant c.loop-next-test.true
    c.next-item.is c.in_ok-fixed.ensures.has

pub settle-requires-clause-giver : goal.settle-requires-clause-giver
settle-requires-clause-giver c =
    let g = c.args.graph.now in
    let t = c.args.intervals.now in
    let items = c.deref-next-items.result.now in
    let i = c.loop-next.next-index in
    let o = c.next-item.result in
    let order = subst (λ (l : List OpenNode). IsScanOrder g t (open_rows l)) (sym c.deref-next-items.ensures.value) c.in_ok-order.ensures.order in
    let nodes = subst (λ (l : List OpenNode). AreNodesOf g l) (sym c.deref-next-items.ensures.value) c.in_ok-order.ensures.nodes in
    let among : Contains items o = (i, c.loop-next-test.true, sym c.next-item.is) in
    let shut : (n : ℕ) → Contains colour_numbers n → is_closed_in c.by-closed.result n ≡ closed_by g (row_of o.register) n =
    shut_by g c.in_ok-fixed.fixed.items o c.by-closed.result c.as_slice-neighbours.result.now c.requires.colourable.order
    c.in_ok-fixed.ensures.places (nodes o among) c.as_slice-neighbours.ensures
    (subst (λ (l : List Loc). (n : ℕ) → n < 32 →
    is_closed_in c.by-closed.result n ≡ list_any (λ m. has_colour n (places_by l m)) c.as_slice-neighbours.result.now)
    c.as_slice-in-loop-next.ensures.value c.by-closed.ensures) in
    subst (λ (z : Choice). IsGiverBelow (length c.loop-next.allotted.places.items) z) (sym c.choose-choice.ensures)
    (giver_below g t items c.requires.scannable order (length c.in_ok-fixed.fixed.items) i c.loop-next.allotted.places.items
    c.loop-next.allotted.active o c.loop-next.invariant c.loop-next-test.true c.next-item.is c.by-closed.result shut
    c.in_ok-fixed.ensures.has)

pub loop-next-preserved : goal.loop-next-preserved
loop-next-preserved c =
    let g = c.args.graph.now in
    let t = c.args.intervals.now in
    let items = c.deref-next-items.result.now in
    let i = c.loop-next.next-index in
    let o = c.next-item.result in
    let order = subst (λ (l : List OpenNode). IsScanOrder g t (open_rows l)) (sym c.deref-next-items.ensures.value) c.in_ok-order.ensures.order in
    let nodes = subst (λ (l : List OpenNode). AreNodesOf g l) (sym c.deref-next-items.ensures.value) c.in_ok-order.ensures.nodes in
    let among : Contains items o = (i, c.loop-next-test.true, sym c.next-item.is) in
    let shut : (n : ℕ) → Contains colour_numbers n → is_closed_in c.by-closed.result n ≡ closed_by g (row_of o.register) n =
    shut_by g c.in_ok-fixed.fixed.items o c.by-closed.result c.as_slice-neighbours.result.now c.requires.colourable.order
    c.in_ok-fixed.ensures.places (nodes o among) c.as_slice-neighbours.ensures
    (subst (λ (l : List Loc). (n : ℕ) → n < 32 →
    is_closed_in c.by-closed.result n ≡ list_any (λ m. has_colour n (places_by l m)) c.as_slice-neighbours.result.now)
    c.as_slice-in-loop-next.ensures.value c.by-closed.ensures) in
    goes_on g t items c.requires.scannable order (length c.in_ok-fixed.fixed.items) i c.loop-next.allotted.places.items
    c.loop-next.allotted.active o c.loop-next.invariant c.loop-next-test.true c.next-item.is c.by-closed.result shut c.choose-choice.result
    c.settle.new.self.places.items c.settle.new.self.active c.choose-choice.ensures c.settle.ensures.len c.settle.ensures.places
    c.settle.ensures.active

pub returns-clause-safe : goal.returns-clause-safe
returns-clause-safe c =
    let g = c.args.graph.now in
    let t = c.args.intervals.now in
    let order = subst (λ (l : List OpenNode). IsScanOrder g t (open_rows l)) (sym c.deref-next-items.ensures.value) c.in_ok-order.ensures.order in
    scanned_safe g t (record { places = c.from_vec.result }) c.requires.colourable c.requires.scannable
    (goes_all g t c.deref-next-items.result.now c.requires.scannable order (length c.in_ok-fixed.fixed.items) c.loop-next.next-index
    c.loop-next.allotted.places.items c.loop-next.allotted.active (record { places = c.from_vec.result }) c.loop-next.invariant
    c.loop-next-test.false c.from_vec.ensures)

pub returns-clause-full : goal.returns-clause-full
returns-clause-full c =
    let g = c.args.graph.now in
    let t = c.args.intervals.now in
    let order = subst (λ (l : List OpenNode). IsScanOrder g t (open_rows l)) (sym c.deref-next-items.ensures.value) c.in_ok-order.ensures.order in
    scanned_full g t (record { places = c.from_vec.result }) c.requires.colourable c.requires.scannable
    (goes_all g t c.deref-next-items.result.now c.requires.scannable order (length c.in_ok-fixed.fixed.items) c.loop-next.next-index
    c.loop-next.allotted.places.items c.loop-next.allotted.active (record { places = c.from_vec.result }) c.loop-next.invariant
    c.loop-next-test.false c.from_vec.ensures)

pub returns-clause-value : goal.returns-clause-value
returns-clause-value c =
    let g = c.args.graph.now in
    let t = c.args.intervals.now in
    let order = subst (λ (l : List OpenNode). IsScanOrder g t (open_rows l)) (sym c.deref-next-items.ensures.value) c.in_ok-order.ensures.order in
    goes_all g t c.deref-next-items.result.now c.requires.scannable order (length c.in_ok-fixed.fixed.items) c.loop-next.next-index
    c.loop-next.allotted.places.items c.loop-next.allotted.active (record { places = c.from_vec.result }) c.loop-next.invariant
    c.loop-next-test.false c.from_vec.ensures
