-- What linearisation gives: a tight Linear function that keeps the Mach function with poison.
use Rattle.std.specs.Prelude.{◌≡◌, ◌⊎◌, ℕ, ◌+◌, ◌*◌, ◌<◌, ◌≤◌, List, length, All, Contains}
use Rattle.bs_words.specs.declared.types.Comp.{Comp}
use Rattle.bs_words.specs.declared.types.Loc.{Loc}
use Rattle.bs_words.specs.declared.types.Loc.TheVariants as loc
use Rattle.mach_ir.specs.Formed as mach_formed
use Rattle.mach_ir.specs.Sizes.{Size, HasSize}
use Rattle.mach_ir.specs.Walks.{InCode}
use Rattle.mach_ir.specs.Walks as mach_walks
use Rattle.mach_ir.specs.declared.reg.Reg.{Reg}
use Rattle.mach_ir.specs.declared.mach.Mach.{Mach}
use Rattle.lin_ir.specs.Descriptors.{IsDescriptorEntry, AreExact, NamesLives, NoAddrLive}
use Rattle.lin_ir.specs.Formed.{IsHome, IsTight, spare, labels_in}
use Rattle.lin_ir.specs.Keeps.{LinearKeeps}
use Rattle.lin_ir.specs.Meaning.{NamedAt}
use Rattle.lin_ir.specs.Walks.{StandsAsLine, LiveAt}
use Rattle.lin_ir.specs.declared.descr.Descr.{Descr}
use Rattle.lin_ir.specs.declared.lin.Line.{Line}
use Rattle.lin_ir.specs.declared.lin.Lin.{Lin}
use Rattle.linearise_rules.specs.Keeps.{KeepsReached}
use Rattle.linearise_rules.specs.Lowered.{lowered}
use Rattle.linearise_rules.specs.Sizes.{tries_ended}
use Rattle.lin_tidy.specs.Known.{IsRegular, IsTidy, IsTidied}

-- ---- slots

-- a parameter, an operand or a result of the function is in the slot
abbrev pub IsSlotOf : Mach → ℕ → Type 0
IsSlotOf p k = (r : Reg) × (Contains p.params r ⊎ InCode r p.code) × (r.loc ≡ loc.Slot k)

-- Slots are numbered from 0 on, one for each slot number that occurs in the function.
pub record OneForEach (p : Mach) (slots : ℕ) : Type 0 where
  pub number : ℕ → ℕ
  pub below : (k : ℕ) → IsSlotOf p k → number k < slots
  pub apart : (k n : ℕ) → IsSlotOf p k → IsSlotOf p n → number k ≡ number n → k ≡ n
  pub onto : (n : ℕ) → n < slots → (k : ℕ) × IsSlotOf p k × (number k ≡ n)

-- ---- descriptors

-- The descriptor names colours and slots of the function, and no more than there are of them: each
-- of the twenty-one colours, and each slot.
pub record NamesHomes (m : Lin) (d : Descr) : Type 0 where
  pub few : length d.entries ≤ 21 + m.slots
  pub homes : (entry : ℕ) → Contains d.entries entry →
      (traps : ℕ) × (l : Loc) × IsHome m l × IsDescriptorEntry traps l entry

-- ---- whole

pub record IsLinearOf (p : Mach) (r : Lin) : Type 0 where
  -- it is the lowered function, made tidy: one function
  pub made : IsTidied (lowered p) r
  -- It is called so and gives the same type. Where nothing is lost at frame points it does what the
  -- Mach function does. It names no symbol and no external call that the Mach function does not.
  pub reached : KeepsReached p r
  -- Where no address is live after a frame point of the Mach function: with names that are exact it
  -- does the same while all else is poison, so it never reads poison where the Mach function is not
  -- stuck; and no location of it is live as addr after a frame point.
  pub keeps : mach_walks.NoAddrLive p → (named : NamedAt) → NamesLives r named → LinearKeeps p r named
  pub no_addr : mach_walks.NoAddrLive p → NoAddrLive r
  -- Each line but labels and entries of handlers is reached by some walk, each move of a location
  -- to itself is for its type, and no jump leads to where control comes without it.
  pub tidy : IsTidy r
  pub tight : IsTight r
  -- It is well formed and seated; control comes back to a place only by an exit; t0 does not occur;
  -- every walk reaches a place with the same pushed traps.
  pub regular : IsRegular r
  pub slots : OneForEach p r.slots
  -- The labels of the Mach function are in it, and at most one more for each instruction: where
  -- loops are turned round there are others.
  pub labels : (l : ℕ) → Contains (mach_formed.labels_in p.code) l → Contains (labels_in r.code) l
  pub labels_few : length (labels_in r.code) ≤
      length (mach_formed.labels_in p.code) + length p.code
  -- t0 is live nowhere after a frame point, and no descriptor names it
  pub spare_dead : (i : Line) (next : List Line) (t : Comp) → StandsAsLine i next r.code →
      LiveAt r spare t i next → ⊥
  pub named : (ds : List Descr) → AreExact r ds → All (NamesHomes r) ds
  -- at most five lines for each instruction, and one for each try that an exit ends
  pub lines : length r.code ≤ 5 * length p.code + tries_ended p.code
  pub slots_few : (s : Size) → HasSize p s → r.slots ≤ s.registers
