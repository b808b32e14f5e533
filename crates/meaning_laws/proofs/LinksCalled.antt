-- The calls of a linked run go on from its first world to its last one, and what is left was the function's own.
use Rattle.std.proofs.Common.{ℕ, ◌+◌, ◌≤◌, List, [], sym, ◌∙◌, arith}
use Rattle.std.proofs.lemmas.List.{append-nil}
use Rattle.cmm_meaning.specs.State.{Doing, World}
use Rattle.cmm_meaning.specs.Evaluation.{Evaluation, Surroundings}
use Rattle.meaning_laws.specs.Links.{Came, spent_by, OnItsOwn, CallsBetween, no_more, next, Linked}
use Rattle.meaning_laws.specs.Units.{IsPrefixOf, Later}
use Rattle.meaning_laws.proofs.Units.{Later-trans}

own_later : {w v : World} → OnItsOwn w v → Later w v
own_later {w} {v} o =
    let calls : IsPrefixOf w.made v.made = record { further = []; is = o.made ∙ sym (append-nil w.made) } in
    record { onward = record { calls = calls; stack = o.stack; memory = o.memory }; units = o.units }

pub called_later : {s : Surroundings} {bound : ℕ} {w v : World} {calls : List Came} → CallsBetween s bound w calls v → Later w v
called_later (no_more o) = own_later o
called_later (next o fewer fit did later rest) = Later-trans (own_later o) (Later-trans later (called_later rest))

called_units : {s : Surroundings} {bound : ℕ} {w v : World} {calls : List Came} → CallsBetween s bound w calls v → v.left + spent_by calls ≤ w.left
called_units (no_more o) = omega (arith, o.units)
called_units (next o fewer fit did later rest) = let more = called_units rest in omega (arith, o.units, later.units, more)

-- What is left was the function's own.
pub own_left : {s : Surroundings} {bound : ℕ} {alone : List Doing → ℕ → Evaluation} {w : World} {whole : Evaluation}
    (l : Linked s bound alone w whole) → l.last.left ≤ l.own
own_left l = let spent = called_units l.called in omega (arith, l.units, spent)
