-- Functions with an instruction that writes more registers than there are colours, all of which are
-- read soon.
use Rattle.std.specs.Prelude.{◌≡◌, ℕ, ◌<◌, Bool, true, List, ◌∷◌, length, Contains}
use Rattle.bs_words.specs.declared.types.Loc.TheVariants as loc
use Rattle.choices.specs.declared.choices.Alloc.{Alloc}
use Rattle.mach_ir.specs.Acts.{On}
use Rattle.mach_ir.specs.Formed.{WellFormed}
use Rattle.mach_ir.specs.Placed.{WellPlaced, is_straight, colour_numbers}
use Rattle.mach_ir.specs.Walks.{AmongRegisters, OneOf, targets, StandsAsInstr}
use Rattle.mach_ir.specs.declared.reg.Reg.{Reg}
use Rattle.mach_ir.specs.declared.mach.Instr.{Instr}
use Rattle.mach_ir.specs.declared.mach.Mach.{Mach}
use Rattle.reg_rounds_rules.specs.Rounds.{IsRound}
use Rattle.reload_rules.specs.Reloaded.{writes_registers, IsFree}

-- The straight code that comes next reads the register before it writes it. This can be read off
-- the text.
pub data IsReadSoon (n : ℕ) : List Instr → Type 0 where
  read_now : {i : Instr} {next : List Instr} → AmongRegisters n i.args → IsReadSoon n (i ∷ next)
  read_later : {i : Instr} {next : List Instr} → is_straight i.op ≡ true →
      (AmongRegisters n i.results → ⊥) → IsReadSoon n next → IsReadSoon n (i ∷ next)

-- The instruction, with this code next, is no copy and goes on; its results are open, each is read
-- soon, and they are more than there are colours.
pub record IsWideAt (i : Instr) (next : List Instr) : Type 0 where
  pub writes : writes_registers i.op ≡ true
  pub goes : OneOf On (targets i.op)
  pub open_ones : (r : Reg) → Contains i.results r → r.loc ≡ loc.Unset
  pub soon : (r : Reg) → Contains i.results r → IsReadSoon r.number next
  pub many : length colour_numbers < length i.results

pub record HasWideInstr (m : Mach) : Type 0 where
  pub instr : Instr
  pub next : List Instr
  pub stands : StandsAsInstr instr next m.code
  pub wide : IsWideAt instr next

-- ---- that there are rounds

-- Some round is one of this function: its registers have a graph, the choice takes places for that,
-- and by these reloading makes something.
pub record HasRound (alloc : Alloc) (fresh : ℕ) (m : Mach) : Type 0 where
  pub result : Mach
  pub asks : Bool
  pub is : IsRound alloc fresh m result asks

-- Each function has a free number, and a round by each.
pub record AllHaveRounds (alloc : Alloc) : Type 0 where
  pub free : (m : Mach) → (fresh : ℕ) × IsFree m fresh
  pub round : (fresh : ℕ) (m : Mach) → WellFormed m → WellPlaced m → HasRound alloc fresh m
