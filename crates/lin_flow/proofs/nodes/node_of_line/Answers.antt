use Rattle.std.proofs.Common.{◌∙◌, ap, arith}
use Rattle.lin_laws.specs.Numbers.{val_numbers}
use Rattle.lin_flow.proofs.Visiting.{all_within, node_made}
use Rattle.lin_flow.proofs.nodes.node_of_line.Goals as goal

pub enter_all-requires : goal.enter_all-requires
enter_all-requires c =
    all_within c.args.labels.now c.args.place _ _ _ c.deref.result.now c.deref.ensures.value c.in_ok-places.ensures c.requires.labels
    c.requires.next

pub enter_handler-requires : goal.enter_handler-requires
enter_handler-requires c = λ l.
    let a = c.requires.labels l in let b = c.in_ok-next.ensures.grown.len in omega (arith, a, b)

pub returns : goal.returns
returns c =
    node_made c.args.labels.now c.args.search.now c.enter_all.new.self c.enter_handler.new.search c.args.line.now c.args.place
    c.args.tries.now c.as_slice.result.now c.deref.result.now c.in_ok-next.next.items c.in_ok-aside.aside.items c.may_raise-raises.result _
    (c.as_slice.ensures ∙ c.in_ok-after.ensures) (c.deref.ensures.value ∙ c.in_ok-places.ensures) c.in_ok-next.ensures.grown
    c.in_ok-next.ensures.numbers c.may_raise-raises.ensures c.in_ok-aside.ensures c.from_vec.ensures c.from_vec-2.ensures
    (c.in_ok-reads.ensures ∙ ap val_numbers c.as_slice-2.ensures) c.in_ok-writes.ensures
