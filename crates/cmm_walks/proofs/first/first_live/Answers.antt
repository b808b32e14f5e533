use Rattle.std.proofs.Common.{◌≡◌, ℕ, suc, subst, sym, arith}
use Rattle.walk_tables.specs.Table.{AreNodes}
use Rattle.cmm_walks.proofs.Firsts.{no_address_told, are_nodes}
use Rattle.cmm_walks.proofs.first.first_live.Goals as goal

pub returns-then-not-some_address : goal.returns-then-not-some_address
returns-then-not-some_address c = no_address_told c.args.nodes.now c.args.entry c.some_address.result c.some_address.ensures c.if-not-some_address.true

pub nodes_by_slot-requires : goal.nodes_by_slot-requires
nodes_by_slot-requires c = are_nodes (suc c.greatest_slot.result) c.args.nodes.now c.requires c.greatest_slot.ensures

pub first-requires-clause-search : goal.first-requires-clause-search
first-requires-clause-search c = record {
  nodes =
      let P : ℕ → Type 0 = λ n. AreNodes n c.args.nodes.now in
      let bound : c.len-bound.result ≡ suc c.greatest_slot.result = omega (arith, c.len-bound.ensures, c.in_ok-mentions.mentions.ok.0, c.in_ok-mentions.ensures.len) in
      subst P (sym bound) (are_nodes (suc c.greatest_slot.result) c.args.nodes.now c.requires c.greatest_slot.ensures);
  before = c.in_ok-before.ensures;
  mentions = c.in_ok-mentions.ensures.named;
}
