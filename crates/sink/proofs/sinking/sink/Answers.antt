use Rattle.std.proofs.Common.{◌≡◌, ◌∙◌, List, length, vec_len, sym, ap, arith}
use Rattle.std.proofs.lemmas.Bool.{eqb-true}
use Rattle.sink.specs.Moves.{sunk_code}
use Rattle.sink.specs.declared.chosen.Move.{Move}
use Rattle.sink.proofs.Planning.{sunk_by, unsunk, none_of}
use Rattle.sink.proofs.sinking.sink.Goals as goal

pub returns-then-is_empty : goal.returns-then-is_empty
returns-then-is_empty c =
    let moves = c.in_ok-moves.moves in
    let none : vec_len moves ≡ 0 = eqb-true (vec_len moves) 0 (sym c.is_empty.ensures ∙ c.if-is_empty.true) in
    let count : vec_len moves ≡ length moves.items = omega (arith, moves.ok.0) in
    unsunk c.args.mach c.requires.formed moves.items c.in_ok-moves.ensures (none_of moves.items (sym count ∙ none))

pub returns : goal.returns
returns c =
    sunk_by c.args.mach c.requires.formed c.in_ok-moves.moves.items c.in_ok-moves.ensures c.in_ok-code.code
    (c.in_ok-code.ensures ∙ ap (λ (xs : List Move). sunk_code xs c.args.mach.code c.args.mach.code) c.deref.ensures.value)
