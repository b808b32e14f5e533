use Rattle.std.proofs.Common.{◌≡◌, drop, map}
use Rattle.bs_words.specs.Contents.{contents}
use Rattle.image_form.specs.Tables.{func}
use Rattle.rv_machine.specs.Loading.{func_named}
use Rattle.rv_machine.proofs.loading.func_named.Given as goal

abbrev pub invariant-loop-row : goal.invariant-loop-row
invariant-loop-row l =
    func_named l.name (map func (contents l.image.funcs)) ≡ func_named l.name (map func (drop l.row-index l.row-items))
