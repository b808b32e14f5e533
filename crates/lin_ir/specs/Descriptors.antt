-- Frames of a Linear function, and descriptors that are exact.
--
-- That names are exact is asked only where walks come: lines that no walk reaches are for a later pass to
-- leave out.
use Rattle.std.specs.Prelude.{◌≡◌, ◌≢◌, ◌↔◌, ℕ, ◌+◌, ◌*◌, ◌/◌, ◌%◌, ◌<◌, ◌≤◌, suc, Bool, true, false, cond, ◌||◌, List, [], ◌∷◌, length, All, AllPairs, Contains}
use Rattle.bs_words.specs.declared.types.Comp.TheVariants as comp
use Rattle.bs_words.specs.declared.types.Loc.{Loc}
use Rattle.bs_words.specs.declared.types.Loc.TheVariants as loc
use Rattle.lin_ir.specs.Meaning.{NamedAt, passes_frame}
use Rattle.lin_ir.specs.Walks.{StandsAsLine, Traps, LiveAt}
use Rattle.lin_ir.specs.declared.descr.Descr.{Descr}
use Rattle.lin_ir.specs.declared.lin.Line.{Line}
use Rattle.lin_ir.specs.declared.lin.Lin.{Lin}

-- ---- frames

abbrev pub has_frame_point : List Line → Bool
has_frame_point [] = false
has_frame_point (i ∷ is) = passes_frame i.op || has_frame_point is

-- how many lines are frame points that are no tail calls
abbrev pub frame_point_count : List Line → ℕ
frame_point_count [] = 0
frame_point_count (i ∷ is) = cond (passes_frame i.op) (suc (frame_point_count is)) (frame_point_count is)

-- The least multiple of 16 that holds 8 bytes for each slot, and 8 bytes for the return address
-- where there is a frame point that is no tail call.
abbrev pub frame_bytes : Lin → ℕ
frame_bytes m = (8 * m.slots + cond (has_frame_point m.code) 8 0 + 15) / 16 * 16

-- How a descriptor names a location where so many traps are pushed: slot k lies 8 bytes for each
-- lower slot, and 16 for each trap, from sp.
pub data IsDescriptorEntry (traps : ℕ) : Loc → ℕ → Type 0 where
  of_register : {r : ℕ} → IsDescriptorEntry traps (loc.Machine r) (2 * r + 1)
  of_slot : {k : ℕ} → IsDescriptorEntry traps (loc.Slot k) (8 * k + 16 * traps)

-- registers, whose entries are odd, come before slots, and each part rises
pub data ComesBefore (a b : ℕ) : Type 0 where
  register_first : a % 2 ≡ 1 → b % 2 ≡ 0 → ComesBefore a b
  rising : a % 2 ≡ b % 2 → a < b → ComesBefore a b

-- what descriptors can say: the bytes of frame and traps at each place, and the number of lines
pub record FitsDescriptors (m : Lin) : Type 0 where
  pub lines : length m.code < 4294967296
  pub frame : (code : List Line) (tries : List ℕ) → Traps m code tries →
      frame_bytes m + 16 * length tries ≤ 1048576

-- ---- exact descriptors

-- a location is live there as val, and the entry names it
pub record NamesLive (m : Lin) (i : Line) (next : List Line) (traps number : ℕ) : Type 0 where
  pub location : Loc
  pub live : LiveAt m location comp.Val i next
  pub entry : IsDescriptorEntry traps location number

-- the descriptor of a frame point, where these traps are pushed
pub record IsDescr (m : Lin) (i : Line) (next : List Line) (tries : List ℕ) (d : Descr) :
    Type 0 where
  pub after : d.after + suc (length next) ≡ length m.code
  pub size : d.size ≡ frame_bytes m + 16 * length tries
  -- exactly what is live as val, each once, in order
  pub exact : (entry : ℕ) → Contains d.entries entry ↔ NamesLive m i next (length tries) entry
  pub order : AllPairs ComesBefore d.entries

-- the line that a descriptor is of
pub record Describes (m : Lin) (d : Descr) : Type 0 where
  pub line : Line
  pub next : List Line
  pub tries : List ℕ
  pub stands : StandsAsLine line next m.code
  pub point : passes_frame line.op ≡ true
  pub traps : Traps m (line ∷ next) tries
  pub is : IsDescr m line next tries d

-- Each frame point that is no tail call has one descriptor, in the order of the lines, and there
-- are no others.
pub record AreExact (m : Lin) (ds : List Descr) : Type 0 where
  pub each : (i : Line) (next : List Line) (tries : List ℕ) → StandsAsLine i next m.code →
      passes_frame i.op ≡ true →
      Traps m (i ∷ next) tries → (d : Descr) × Contains ds d × IsDescr m i next tries d
  pub others : All (Describes m) ds
  pub order : AllPairs (λ (d e : Descr). d.after < e.after) ds

-- no location is live as addr after a frame point
pub record NoAddrLive (m : Lin) : Type 0 where
  pub none : (i : Line) (next : List Line) → StandsAsLine i next m.code → passes_frame i.op ≡ true →
      (l : Loc) → LiveAt m l comp.Addr i next → ⊥

-- Each frame point names exactly the locations that are live after it as val, each once.
pub record NamesLives (m : Lin) (named : NamedAt) : Type 0 where
  pub exact : (i : Line) (next : List Line) → StandsAsLine i next m.code → passes_frame i.op ≡ true →
      (l : Loc) → Contains (named (length next)) l ↔ LiveAt m l comp.Val i next
  pub once : (i : Line) (next : List Line) → StandsAsLine i next m.code → passes_frame i.op ≡ true →
      AllPairs (λ k l. k ≢ l) (named (length next))
