-- What is kept of a Mach function by Linear code in which some lines may be reached by no walk. The
-- passes over Linear that drop such lines go on from here.
use Rattle.std.specs.Prelude.{◌≡◌, ◌↔◌, ℕ, true, List, ◌∷◌, length, Contains}
use Rattle.bs_words.specs.External.{External}
use Rattle.bs_words.specs.declared.types.Comp.TheVariants as comp
use Rattle.bs_words.specs.declared.types.Loc.{Loc}
use Rattle.mach_ir.specs.Keeps.{NamesSymbol, NamesExternal}
use Rattle.mach_ir.specs.Keeps as kept
use Rattle.mach_ir.specs.Walks as walks
use Rattle.mach_ir.specs.declared.mach.Mach.{Mach}
use Rattle.lin_ir.specs.Meaning.{NamedAt, passes_frame}
use Rattle.lin_ir.specs.Walks.{Reached, LiveAcross}
use Rattle.lin_ir.specs.Keeps.{IsNamedIn}
use Rattle.lin_ir.specs.declared.lin.Line.{Line}
use Rattle.lin_ir.specs.declared.lin.Lin.{Lin}
use Rattle.linearise_rules.specs.Kept.{LoweringSimulation}

-- Each frame point that some walk reaches names exactly what is live after it as val.
pub record NamesReached (m : Lin) (named : NamedAt) : Type 0 where
  pub exact : (i : Line) (next : List Line) (tries : List ℕ) → Reached m (i ∷ next) tries →
      passes_frame i.op ≡ true → (l : Loc) →
      Contains (named (length next)) l ↔ LiveAcross m l comp.Val i next tries

-- Every walk reaches a place with the same pushed traps.
pub record OneTraps (m : Lin) : Type 0 where
  pub one : (code : List Line) (tries others : List ℕ) → Reached m code tries →
      Reached m code others → tries ≡ others

-- No location is live as addr after a frame point that some walk reaches.
pub record NoAddrReached (m : Lin) : Type 0 where
  pub none : (i : Line) (next : List Line) (tries : List ℕ) → Reached m (i ∷ next) tries →
      passes_frame i.op ≡ true → (l : Loc) → LiveAcross m l comp.Addr i next tries → ⊥

-- Linear code does what a Mach function does where nothing is lost at frame points. With names that
-- are exact, and where no addr is live after a frame point, nothing is lost that is read.
pub record KeepsReached (p : Mach) (q : Lin) : Type 0 where
  pub name : q.name ≡ p.name
  pub result : q.result ≡ p.result
  pub does : LoweringSimulation p q
  pub symbols : (name : List ℕ) → IsNamedIn (NamesSymbol name) q →
      kept.IsNamedIn (NamesSymbol name) p
  pub externals : (row : External) → IsNamedIn (NamesExternal row) q →
      kept.IsNamedIn (NamesExternal row) p
  pub addrs : walks.NoAddrLive p → NoAddrReached q
