-- The moves that take each register from others or to them.
use Rattle.std.specs.Prelude.{ℕ, ◌<◌, List, [], Option, Some, None, map, slice_index_or}
use Rattle.interfere.specs.declared.moves.Move.{Move}
use Rattle.interfere.specs.declared.partners.Partners.{Partners}

-- those of a number
abbrev pub partners_in : List Partners → ℕ → List ℕ
partners_in table n = slice_index_or (map (λ (x : Partners). x.numbers.items) table) n []

-- both numbers of a move are below this one
pub data AreSmall (bound : ℕ) : Option Move → Type 0 where
  no_move : AreSmall bound None
  both : {x : Move} → x.from < bound → x.to < bound → AreSmall bound (Some x)
