-- What is reported of functions, and of a file.
use Rattle.std.specs.Prelude.{ℕ, List, Option, Some, None, Contains}
use Rattle.bs_fault.specs.declared.fault.Fault.{Fault}
use Rattle.bs_fault.specs.declared.fault.Fault.TheVariants.{AddrLive}
use Rattle.bs_fault.specs.declared.fault.FrontError.{FrontError}
use Rattle.bs_fault.specs.declared.fault.FrontError.TheVariants as error
use Rattle.cmm_tree.specs.Tree.{FunctionTree, FileTree}
use Rattle.walk_tables.specs.AddrLive.{IsLiveIn, IsToldLive, Before}
use Rattle.cmm_walks.specs.declared.limits.Limits.{Limits}

-- an address that is live in the function, and no other comes before it
pub record IsFirstIn (f : FunctionTree) (l : Limits) : Type 0 where
  pub live : IsLiveIn f l.bound l.point l.used
  pub least : (b p u : ℕ) → IsLiveIn f b p u → Before l.bound l.point l.used b p u

-- it, or that there is none
abbrev pub ToldIn : FunctionTree → Option Limits → Type 0
ToldIn f None = (b p u : ℕ) → IsLiveIn f b p u → ⊥
ToldIn f (Some l) = IsFirstIn f l

-- the same among functions
pub record IsFirstAmong (fs : List FunctionTree) (l : Limits) : Type 0 where
  pub f : FunctionTree
  pub among : Contains fs f
  pub live : IsLiveIn f l.bound l.point l.used
  pub least : (g : FunctionTree)
      → Contains fs g
      → (b p u : ℕ)
      → IsLiveIn g b p u
      → Before l.bound l.point l.used b p u

abbrev pub ToldAmong : List FunctionTree → Option Limits → Type 0
ToldAmong fs None = (g : FunctionTree) → Contains fs g → (b p u : ℕ) → IsLiveIn g b p u → ⊥
ToldAmong fs (Some l) = IsFirstAmong fs l

abbrev pub IsLiveReported : FileTree → Fault → Type 0
IsLiveReported file (AddrLive bound point used) = IsToldLive file bound point used
IsLiveReported file _ = ⊥

-- the address that is reported of the file, or want of memory
abbrev pub IsRefusal : FileTree → FrontError → Type 0
IsRefusal file (error.Fault fault) = IsLiveReported file fault
IsRefusal file error.OutOfMemory = Unit {0}
