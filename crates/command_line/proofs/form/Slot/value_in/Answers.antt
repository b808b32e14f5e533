use Rattle.std.proofs.Common.{◌≡◌, ◌++◌, ℕ, List, codes, MatchOption, true, false, nat_eq, ap, sym, subst, rules}
use Rattle.std.specs.List.{starts_with}
use Rattle.command_line.specs.declared.form.Slot.{Slot}
use Rattle.command_line.specs.declared.form.Slot.TheVariants.{Functions}
use Rattle.command_line.specs.Words.{fills_slot, prefix_of}
use Rattle.command_line.proofs.Gives.{stripped}
use Rattle.command_line.proofs.form.Slot.value_in.Goals as goal

pub returns-in-Functions : goal.returns-in-Functions
returns-in-Functions c =
    let text = c.args.word.now in
    let given = c.strip_prefix-in-Functions.result in
    let P : Slot → Type 0 = λ slot.
    MatchOption given (fills_slot slot text ≡ false) (λ value. (fills_slot slot text ≡ true) × (text ≡ prefix_of slot ++ value.now)) in
    let name : codes "--functions=" ≡ c.as_slice-in-Functions.result.now = search rules in
    subst P (sym c.in-Functions.is)
    (stripped Functions text c.as_slice-in-Functions.result.now given (ap (λ (t : List ℕ). starts_with nat_eq text t) name) name c.strip_prefix-in-Functions.ensures.cases)
