use Rattle.std.proofs.Common.{◌∙◌, Bool, List, length, take, sym, ap, subst}
use Rattle.std.specs.List.{list_any}
use Rattle.mach_ir.specs.declared.mach.Instr.{Instr}
use Rattle.hoist.specs.Constants.{makes_wide}
use Rattle.hoist.specs.Loops.{IsFirstCall, IsCalmWide, AreFlags}
use Rattle.hoist.specs.Moves.{none_moves, StaysAt}
use Rattle.mach_ir.specs.NumberTables.{table_entry}
use Rattle.hoist.proofs.Flags.{chosen_none, chosen_quiet, chosen_once}
use Rattle.hoist.proofs.choosing.chosen.Goals as goal

pub returns-then-not-has_wide : goal.returns-then-not-has_wide
returns-then-not-has_wide c =
    let m = c.args.mach.now in
    let same = c.as_slice-code.ensures in
    let calls = c.first_call-calls.result in
    let known = subst (λ (code : List Instr). IsFirstCall code calls) same c.first_call-calls.ensures in
    let none =
    sym (ap (λ (code : List Instr). list_any makes_wide (take calls code)) same) ∙ sym c.has_wide.ensures ∙ c.if-not-has_wide.true in
    chosen_none m c.requires.formed c.requires.origins calls known c.new.result.items c.new.ensures.items none

pub returns-then-none_moves : goal.returns-then-none_moves
returns-then-none_moves c =
    let m = c.args.mach.now in
    let same = c.as_slice-code.ensures in
    let calls = c.first_call-calls.result in
    let flags = c.in_ok-flags.flags.items in
    let known = subst (λ (code : List Instr). IsFirstCall code calls) same c.first_call-calls.ensures in
    let are = subst (λ (code : List Instr). AreFlags (IsCalmWide code calls) calls flags) same c.in_ok-flags.ensures in
    let none = sym (ap none_moves c.as_slice.ensures.value) ∙ sym c.none_moves.ensures ∙ c.if-none_moves.true in
    chosen_quiet m c.requires.formed c.requires.origins calls known flags are none

pub returns : goal.returns
returns c =
    let m = c.args.mach.now in
    let same = c.as_slice-code.ensures in
    let calls = c.first_call-calls.result in
    let flags = c.in_ok-flags.flags.items in
    let kept = c.in_ok-kept.kept.items in
    let writes = table_entry c.in_ok-writes.writes in
    let known = subst (λ (code : List Instr). IsFirstCall code calls) same c.first_call-calls.ensures in
    let are = subst (λ (code : List Instr). AreFlags (IsCalmWide code calls) calls flags) same c.in_ok-flags.ensures in
    let given = subst (λ (fs : List Bool). AreFlags (StaysAt fs c.as_slice-code.result.now writes) (length fs) kept) c.as_slice-2.ensures.value c.in_ok-kept.ensures in
    let stay = subst (λ (code : List Instr). AreFlags (StaysAt flags code writes) (length flags) kept) same given in
    chosen_once m c.requires.formed c.requires.origins calls known flags kept writes c.in_ok-writes.ensures are stay
