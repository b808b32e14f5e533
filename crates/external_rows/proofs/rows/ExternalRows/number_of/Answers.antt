use Rattle.std.proofs.Common.{ap, sym, unwrap_or, ◌∙◌}
use Rattle.std.proofs.lemmas.List.{length-map}
use Rattle.rv_layout_rules.specs.Externals.{external_number}
use Rattle.mach_ir.specs.Acts.{external_row}
use Rattle.external_rows.proofs.Lookups.{number_found, row_parts}
use Rattle.external_rows.specs.Entries.{external_key}
use Rattle.external_rows.proofs.rows.ExternalRows.number_of.Goals as goal

pub returns : goal.returns
returns c =
    let e = external_row c.args.call.now in
    let key = c.as_slice-2.ensures.value ∙ (c.in_ok-key.ensures ∙ ap external_key (row_parts _ _ _ _ c.args.call.now.result c.as_bytes.ensures c.as_slice.ensures)) in
    let it = number_found e c.as_slice-2.result.now c.self.inside.rows.entries c.len.result key c.self.invariant (c.len.ensures.len ∙ sym (length-map c.self.inside.rows.entries (λ p. p.0))) in
    c.unwrap_or.ensures ∙ (ap (λ found. unwrap_or found c.len.result) c.get_index_of-number.ensures.index ∙ (it ∙ ap (λ rows. external_number rows e) c.self.view_is))
