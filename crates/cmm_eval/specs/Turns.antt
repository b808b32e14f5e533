-- How many turns a machine still takes.
--
-- They end by this measure: five for each unit that is left, one for each frame, and what is due for what
-- is now. So no turn is answered as want of memory.
use Rattle.std.specs.Prelude.{ℕ, ◌+◌, ◌*◌, ◌≤◌, length}
use Rattle.eval_frames.specs.declared.frame.Now.{Now}
use Rattle.eval_frames.specs.declared.frame.Now.TheVariants as now
use Rattle.cmm_eval.specs.declared.machine.Machine.{Machine}

-- the turns for what is now: where a part has ended, at most two frames are added, and a part begins
abbrev pub due : Now → ℕ
due (now.Begins expr tail) = 1
due (now.Gives value) = 3
due (now.Exits label values) = 3
due (now.Raises value) = 3
due (now.Stops why) = 0

-- the turns for the rest: one for each frame, and five for each unit, since a node that begins takes one and adds at most three
-- frames, two where it has ended
abbrev pub turns : Machine → ℕ
turns m = 5 * m.world.left + length m.frames.items

-- at most so many turns more are to come than the machine had before, without what was due then
abbrev pub TurnsFall : ℕ → Machine → Machine → Now → Type 0
TurnsFall more old new next = turns new + due next ≤ turns old + more
