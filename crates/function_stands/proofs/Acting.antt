-- The part of a line that has an instruction, as every call has, takes a word at least.
use Rattle.std.proofs.Common.{ℕ, suc, ◌+◌, ◌≤◌, List, length, Option, arith}
use Rattle.cmm_meaning.specs.Setting.{Setting}
use Rattle.rv_emit_rules.specs.Emitted.{part_of_line}
use Rattle.rv_emit_rules.specs.Entry.{FrameLayout}
use Rattle.rv_emit_rules.proofs.Acts.{ActsAt, part_acts}
use Rattle.rv_layout_rules.specs.Words.{NameAddresses}
use Rattle.lin_ir.specs.declared.descr.Descr.{Descr}
use Rattle.lin_ir.specs.declared.lin.Lin.{Lin}
use Rattle.lin_ir.specs.declared.lin.Line.{Line}
use Rattle.line_calls.specs.Known.{LineStands}
use Rattle.lin_machine.specs.Relation.{Laid}
use Rattle.lin_machine.specs.View.{Fixed}
use Rattle.function_stands.proofs.Splitting.{least}

pub some_word : (s : Fixed) (laid : Laid) (n : NameAddresses) (m : Lin) (c : Setting) (live : List Line → Type 0) (tries : List ℕ) (f : FrameLayout) (d : Option Descr)
    (i : Line) (next : List Line) → LineStands s laid n m c live tries f d i next → ActsAt i.op i.args i.results →
    laid.part (suc (length next)) + 1 ≤ laid.part (length next)
some_word s laid n m c live tries f d i next stands acts =
    let some = part_acts (length tries) f d i.op i.args i.results acts in
    let enough = least s.image.code n (laid.part (suc (length next))) (part_of_line (length tries) f d i) stands.part.forms stands.part.has in
    let past = stands.part.past in
    omega (arith, some, enough, past)
