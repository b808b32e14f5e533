use Rattle.std.proofs.Common.{ap, sym, ◌∙◌}
use Rattle.external_rows.specs.Entries.{external_key, row_noted}
use Rattle.external_rows.proofs.Lookups.{row, row_parts, added, known}
use Rattle.external_rows.proofs.rows.ExternalRows.note.Goals as goal
use Rattle.external_rows.proofs.rows.ExternalRows.note.Goals.{in-Some-1, in-None-1}

pub invariant_of-self-in_ok-insert : goal.invariant_of-self-in_ok-insert
invariant_of-self-in_ok-insert c =
    let e = row c.args.name.now c.args.params.items c.args.answer in
    let key = c.in_ok-key.ensures ∙ ap external_key (row_parts _ _ _ _ c.args.answer c.as_bytes.ensures c.as_slice.ensures.value) in
    let is = row_parts _ _ _ _ c.args.answer (c.from_vec.ensures ∙ (c.in_ok-from_slice.ensures.items ∙ c.as_bytes-then-not-contains_key.ensures)) c.from_vec-then-not-contains_key.ensures in
    let none = sym c.contains_key.ensures ∙ c.if-not-contains_key.true in
    let it = added c.self.inside.rows c.in_ok-key.key _ e c.as_slice-2.result.now c.insert.new.self.entries is key c.as_slice-2.ensures.value c.self.invariant none c.in_ok-insert.ensures.entries in
    it.keyed

pub invariant_of-self-in_ok-insert-2 : goal.invariant_of-self-in_ok-insert-2
invariant_of-self-in_ok-insert-2 c =
    let e = row c.args.name.now c.args.params.items c.args.answer in
    let key = c.in_ok-key.ensures ∙ ap external_key (row_parts _ _ _ _ c.args.answer c.as_bytes.ensures c.as_slice.ensures.value) in
    let is = row_parts _ _ _ _ c.args.answer (c.from_vec.ensures ∙ (c.in_ok-from_slice.ensures.items ∙ c.as_bytes-then-not-contains_key.ensures)) c.from_vec-then-not-contains_key.ensures in
    let none = sym c.contains_key.ensures ∙ c.if-not-contains_key.true in
    let it = added c.self.inside.rows c.in_ok-key.key _ e c.as_slice-2.result.now c.insert.new.self.entries is key c.as_slice-2.ensures.value c.self.invariant none c.in_ok-insert.ensures.entries in
    it.keyed

pub returns-in_ok-insert : goal.returns-in_ok-insert
returns-in_ok-insert c =
    let e = row c.args.name.now c.args.params.items c.args.answer in
    let key = c.in_ok-key.ensures ∙ ap external_key (row_parts _ _ _ _ c.args.answer c.as_bytes.ensures c.as_slice.ensures.value) in
    let is = row_parts _ _ _ _ c.args.answer (c.from_vec.ensures ∙ (c.in_ok-from_slice.ensures.items ∙ c.as_bytes-then-not-contains_key.ensures)) c.from_vec-then-not-contains_key.ensures in
    let none = sym c.contains_key.ensures ∙ c.if-not-contains_key.true in
    let it = added c.self.inside.rows c.in_ok-key.key _ e c.as_slice-2.result.now c.insert.new.self.entries is key c.as_slice-2.ensures.value c.self.invariant none c.in_ok-insert.ensures.entries in
    let last = it.view ∙ ap (λ rows. row_noted rows e) c.self.view_is in
    elim c.match-branch-4.branch [ in-Some-1 w ↦ w.self-is ∙ last | in-None-1 w ↦ w.self-is ∙ last ]

pub returns-else-not-contains_key : goal.returns-else-not-contains_key
returns-else-not-contains_key c =
    let e = row c.args.name.now c.args.params.items c.args.answer in
    let key = c.as_slice-2.ensures.value ∙ (c.in_ok-key.ensures ∙ ap external_key (row_parts _ _ _ _ c.args.answer c.as_bytes.ensures c.as_slice.ensures.value)) in
    let it = known e c.as_slice-2.result.now c.self.inside.rows.entries key c.self.invariant (sym c.contains_key.ensures ∙ c.if-not-contains_key.false) in
    sym c.self.view_is ∙ (it ∙ ap (λ rows. row_noted rows e) c.self.view_is)
