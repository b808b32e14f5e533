use Rattle.std.proofs.Common.{◌≡◌, drop, map}
use Rattle.bs_words.specs.Contents.{contents}
use Rattle.image_form.specs.Tables.{sym}
use Rattle.rv_machine.specs.Loading.{sym_named}
use Rattle.rv_machine.proofs.loading.address_of.Given as goal

abbrev pub invariant-loop-row : goal.invariant-loop-row
invariant-loop-row l =
    sym_named l.name (map sym (contents l.image.syms)) ≡ sym_named l.name (map sym (drop l.row-index l.row-items))
