-- What a list of the code holds, as a list.
use Rattle.std.specs.Prelude.{List}
use Rattle.bs_words.specs.declared.list.List as declared

-- the items, first to last
abbrev pub contents : {T : Type 0} → declared.List T → List T
contents l = l.items.items
