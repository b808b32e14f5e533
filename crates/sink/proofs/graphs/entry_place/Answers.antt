use Rattle.std.proofs.Common.{◌≡◌, ◌∙◌, [], ℕ, List, sym, ap, subst}
use Rattle.mach_laws.specs.Graph.{numbers_of_registers}
use Rattle.sink.specs.Graphs.{AreLiving}
use Rattle.sink.proofs.graphs.entry_place.Goals as goal

pub returns : goal.returns
returns c =
    let rows = c.args.live.now.before.rows.items in
    let params : c.deref.result.now ≡ numbers_of_registers c.args.mach.now.params = c.deref.ensures.value ∙ c.in_ok-params.ensures ∙ ap numbers_of_registers c.as_slice.ensures in
    record {
      next = c.from_vec.ensures ∙ c.in_ok-first.ensures;
      aside = c.new.ensures;
      reads = subst (AreLiving rows 0 (numbers_of_registers c.args.mach.now.params)) (sym c.from_vec-2.ensures)
          (subst (λ (ns : List ℕ). AreLiving rows 0 ns c.in_ok-unwritten.unwritten.items) params c.in_ok-unwritten.ensures);
      writes = subst (AreLiving rows 0 []) (sym c.from_vec-3.ensures) c.in_ok-all.ensures;
    }
