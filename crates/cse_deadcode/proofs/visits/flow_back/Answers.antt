use Rattle.std.proofs.Common.{ap, ◌∙◌, List, ℕ, Bool, not, ◌||◌, ◌&&◌}
use Rattle.std.specs.Prelude.{◌==◌}
use Rattle.std.specs.List.{list_any}
use Rattle.bs_bits.specs.Set.{has}
use Rattle.bs_words.specs.Contents.{contents}
use Rattle.dataflow.specs.Rows.{set_in_row}
use Rattle.cse_deadcode.proofs.Loops.{has_none, back_all}
use Rattle.cse_deadcode.proofs.visits.flow_back.Goals as goal

pub returns-clause-members : goal.returns-clause-members
returns-clause-members c = λ r.
    back_all c.args.computes c.is_user-is_user.result (contents c.args.place.now.next) (contents c.args.place.now.aside)
    (contents c.args.place.now.reads) (contents c.args.place.now.writes) c.args.rows.now r (has c.clear.new.self r)
    (has c.add_rows.new.set r) (has c.take_out.new.set r) (has c.add_rows-2.new.set r) (has c.put_in_if.new.set r)
    (ap (λ (s : List Bool). has s r) c.clear.ensures ∙ has_none _ r)
    (c.add_rows.ensures.members r
    ∙ ap (λ (ns : List ℕ). has c.clear.new.self r || list_any (λ q. has (set_in_row c.args.rows.now q) r) ns) c.as_slice.ensures)
    (c.take_out.ensures.members r
    ∙ ap (λ (ns : List ℕ). has c.add_rows.new.set r && not (list_any (λ k. k == r) ns)) c.as_slice-2.ensures)
    (c.add_rows-2.ensures.members r
    ∙ ap (λ (ns : List ℕ). has c.take_out.new.set r || list_any (λ q. has (set_in_row c.args.rows.now q) r) ns) c.as_slice-3.ensures)
    (c.put_in_if.ensures.members r
    ∙ ap (λ (ns : List ℕ). has c.add_rows-2.new.set r || (c.is_user-is_user.result && list_any (λ k. k == r) ns))
    c.as_slice-4.ensures)
    c.is_user-is_user.ensures
