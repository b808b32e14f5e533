use Rattle.std.proofs.lemmas.Bool.{cases_lt}
use Rattle.std.proofs.Common.{◌≢◌, ◌⊎◌, inl, inr, ℕ, ◌+◌, ◌-◌, ◌/◌, ◌<◌, ◌≤◌, List, get_or, length, map, arith, ap, ◌∙◌, sym, subst}
use Rattle.image_form.specs.Tables.{desc}
use Rattle.image_form.specs.declared.image.DescRow.{DescRow}
use Rattle.rv_machine.specs.Frames.{descriptor_at}
use Rattle.rv_machine.specs.Memory.{code_start}
use Rattle.alloc_service.proofs.Sorted.{Rising, afters, above_more, below_more, hit, miss}
use Rattle.alloc_service.proofs.stack.descriptor_of.Goals as goal

pub returns-then-there-address : goal.returns-then-there-address
returns-then-there-address c =
    let rows = c.as_slice-rows.result.now in
    let rising = subst Rising (sym c.as_slice-rows.ensures) c.requires.descs.rising in
    let middle = c.loop-low.low + (c.loop-low.high - c.loop-low.low) / 2 in
    sym (ap (λ (rs : List DescRow). descriptor_at (map desc rs) c.args.address) (sym c.as_slice-rows.ensures)
    ∙ hit rows middle c.index-rows-middle.result c.args.address rising (omega (arith, c.loop-low.invariant.within)) c.index-rows-middle.is
    (omega (arith, c.from-there.ensures, c.if-there-address.true)))

pub loop-low-preserved-then-there-address-2 : goal.loop-low-preserved-then-there-address-2
loop-low-preserved-then-there-address-2 c =
    let inv = c.loop-low.invariant in
    let rows = c.as_slice-rows.result.now in
    let rising = subst Rising (sym c.as_slice-rows.ensures) c.requires.descs.rising in
    let middle = c.loop-low.low + (c.loop-low.high - c.loop-low.low) / 2 in
    record {
      order = omega arith;
      within = inv.within;
      below = below_more rows c.args.address c.loop-low.low middle c.index-rows-middle.result rising (omega (arith, inv.within)) c.index-rows-middle.is
          (omega (arith, c.from-there.ensures, c.if-there-address-2.true));
      above = inv.above;
    }

pub loop-low-preserved : goal.loop-low-preserved
loop-low-preserved c =
    let inv = c.loop-low.invariant in
    let rows = c.as_slice-rows.result.now in
    let rising = subst Rising (sym c.as_slice-rows.ensures) c.requires.descs.rising in
    let middle = c.loop-low.low + (c.loop-low.high - c.loop-low.low) / 2 in
    let over : c.args.address < code_start + c.index-rows-middle.result.after = omega (arith, c.from-there.ensures, c.if-there-address-2.false, c.if-there-address.false) in
    record {
      order = omega arith;
      within = omega (arith, inv.within);
      below = inv.below;
      above = above_more rows c.args.address c.loop-low.high middle c.index-rows-middle.result rising (omega (arith, inv.within)) c.index-rows-middle.is over;
    }

none_there :
    (rows : List DescRow) (address low high : ℕ) → high ≤ low → ((k : ℕ) → k < low → code_start + get_or (afters rows) k 0 < address) →
    ((k : ℕ) → high ≤ k → k < length rows → address < code_start + get_or (afters rows) k 0) → (k : ℕ) → k < length rows → code_start + get_or (afters rows) k 0 ≢ address
none_there rows address low high h below above k l e = by_side (cases_lt k low)
  where
    by_side : (k < low) ⊎ (low ≤ k) → ⊥
    by_side (inl s) = omega (arith, below k s)
    by_side (inr s) = omega (arith, above k (omega arith) l)

pub returns : goal.returns
returns c =
    let inv = c.loop-low.invariant in
    let rows = c.as_slice-rows.result.now in
    sym (ap (λ (rs : List DescRow). descriptor_at (map desc rs) c.args.address) (sym c.as_slice-rows.ensures)
    ∙ miss rows c.args.address (none_there rows c.args.address c.loop-low.low c.loop-low.high c.loop-low-test.false inv.below inv.above))
