use Rattle.std.proofs.Common.{◌+◌, ℕ, ◌∙◌, sym, ap, Some, rules}
use Rattle.std.specs.Str.{bytes_eq}
use Rattle.image_form.specs.Tables.{Sym}
use Rattle.image_form.specs.Tables as tables
use Rattle.rv_machine.specs.Loading.{address_of}
use Rattle.rv_machine.proofs.Found.{same_name, other_name, found_here, found_later}
use Rattle.rv_machine.proofs.loading.address_of.Goals as goal

pub returns-then-same : goal.returns-then-same
returns-then-same c =
    ap (λ (n : ℕ). Some (0x10000000 + n)) c.from.ensures
    ∙ sym (ap address_of (c.loop-row.invariant ∙ found_here (λ (s : Sym). bytes_eq s.name c.args.name.now) tables.sym c.as_slice-row-items.result.now c.loop-row.row-index c.row-item.result c.loop-row-test.true c.row-item.is
    (same_name c.row-item.result.name c.args.name.now (c.if-same.ensures.0 (search rules)))))

pub loop-row-preserved : goal.loop-row-preserved
loop-row-preserved c =
    c.loop-row.invariant ∙ found_later (λ (s : Sym). bytes_eq s.name c.args.name.now) tables.sym c.as_slice-row-items.result.now c.loop-row.row-index c.row-item.result c.loop-row-test.true c.row-item.is
    (other_name c.row-item.result.name c.args.name.now (λ e. absurd (let h = c.if-same.ensures.1 e in search rules)))
