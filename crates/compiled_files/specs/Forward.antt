-- How the words of a function lie, and how many it takes up to the next unit.
use Rattle.std.specs.Prelude.{ℕ, zero, suc, ◌+◌, ◌-◌, ◌*◌, ◌≤◌, cond, nat_le, List, [], ◌∷◌, length}
use Rattle.rv_emit_rules.specs.Units.{owed_before}
use Rattle.lin_ir.specs.Formed.{GoesDown}
use Rattle.lin_ir.specs.Meaning.{State}
use Rattle.lin_ir.specs.declared.lin.Lin.{Lin}
use Rattle.lin_ir.specs.declared.lin.Line.{Line}
use Rattle.lin_machine.specs.Relation.{Laid}
use Rattle.linking.specs.Pace.{Words}

-- Control comes back to a place only by an exit. The parts of the lines lie one after the other,
-- from the entry on, and the whole is no longer than the code of all functions.
pub record LiesForward (m : Lin) (laid : Laid) (entry words : ℕ) : Type 0 where
  pub down : GoesDown m
  -- the fewer lines are left, the later is the place
  pub rises : (fewer more : ℕ) → fewer ≤ more → laid.part more ≤ laid.part fewer
  pub begins : entry ≤ laid.part (length m.code)
  pub ends : laid.part 0 ≤ entry + words

-- A step that is no exit leads to a place of less rank: of less order, or, after a label, with
-- fewer lines left.
abbrev pub line_rank : Lin → (order : ℕ → ℕ) → ℕ → ℕ
line_rank m order k = suc (length m.code) * order k + k

-- the words of those of the last lines whose rank is at most so much
abbrev pub words_upto : Laid → (line_rank : ℕ → ℕ) → (most lines : ℕ) → ℕ
words_upto laid line_rank most zero = 0
words_upto laid line_rank most (suc k) =
    cond (nat_le (line_rank (suc k)) most) (laid.part k - laid.part (suc k)) 0
    + words_upto laid line_rank most k

-- the words of the part of the first line
abbrev pub first_part : Laid → List Line → ℕ
first_part laid [] = 0
first_part laid (i ∷ next) = laid.part (length next) - laid.part (suc (length next))

-- A step takes the words of its line's part; before the first step there are those of the entry. Up
-- to the next unit there are at most those of all lines of no greater rank. A branch answers for
-- the unit of an exit that has no words.
abbrev pub laid_words : (ℕ → Lin) → (ℕ → Laid) → (entry : ℕ → ℕ) → (orders : ℕ → ℕ → ℕ) →
    Words State
laid_words lins laid entry orders = record {
  cost = λ f u. first_part (laid f) u.rest;
  entry = λ f. (laid f).part (length (lins f).code) - entry f;
  ahead = λ f u. words_upto (laid f) (line_rank (lins f) (orders f))
      (line_rank (lins f) (orders f) (length u.rest)) (length (lins f).code);
  owed = λ f u. owed_before u.rest;
}
