use Rattle.std.proofs.Common.{ap, ◌∙◌, subst}
use Rattle.linearise_rules.specs.Lowered.{limit_above, spots, lowered_code}
use Rattle.linearise.specs.Numbers.{IsTable, number_of_slot}
use Rattle.linearise.proofs.Numbering.{made_is}
use Rattle.linearise.proofs.lowering.lower.Goals as goal

pub returns : goal.returns
returns c =
    let numbers = c.in_ok-numbers.numbers.items in
    let m = c.args.mach.now in
    made_is m numbers (subst (λ slots. IsTable slots numbers) (c.as_slice-2.ensures.value ∙ c.in_ok-slots.ensures) c.in_ok-numbers.ensures)
    c.in_ok-name.name c.in_ok-params.params c.entry-slots.result c.in_ok-code.code
    c.in_ok-name.ensures
    (c.in_ok-params.ensures ∙ ap (λ ns. spots (number_of_slot ns) c.as_slice-4.result.now) c.as_slice-3.ensures.value ∙ ap (spots (number_of_slot numbers)) c.as_slice-4.ensures)
    (c.entry-slots.ensures ∙ ap (λ ns. number_of_slot ns c.limit-limit.result) c.as_slice-7.ensures.value
    ∙ ap (number_of_slot numbers) (c.limit-limit.ensures ∙ ap limit_above (c.as_slice.ensures.value ∙ c.in_ok-slots.ensures)))
    (c.in_ok-code.ensures ∙ ap (λ ns. lowered_code (number_of_slot ns) c.as_slice-6.result.now) c.as_slice-5.ensures.value ∙ ap (lowered_code (number_of_slot numbers)) c.as_slice-6.ensures)
