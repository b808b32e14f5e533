-- The schedules that the program has by name.
use Rattle.std.specs.Prelude.{ℕ, ◌%◌, ◌==◌, true, false, []}
use Rattle.bs_words.specs.Word.{add_word}
use Rattle.rv_machine.specs.Placement.{drawn_plan}
use Rattle.rv_machine.specs.Run.{Schedule}
use Rattle.mover_plans.specs.Words.{seed_word}

-- No asks and no plans.
-- Without a valid plan the blocks are packed.
abbrev pub never : Schedule
never = record { asks = λ k. false; plan = λ s blocks. [] }

-- an ask before each instruction, and no plans
abbrev pub every : Schedule
every = record { asks = λ k. true; plan = λ s blocks. [] }

-- Drawn by a seed: an ask before the instructions whose word, of the same number, is a multiple of 64;
-- and at each service the plan that is drawn by its word of the next seed.
abbrev pub seeded : ℕ → Schedule
seeded seed = record {
  asks = λ k. seed_word seed k % 64 == 0;
  plan = λ s blocks. drawn_plan (seed_word (add_word seed 1) s) blocks;
}
