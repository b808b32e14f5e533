-- Positions to which walks come, and what is live there.
use Rattle.std.specs.Prelude.{◌≡◌, ℕ, ◌+◌, List, ◌∷◌, length, drop}
use Rattle.bs_words.specs.Contents.{contents}
use Rattle.bs_words.specs.declared.types.Comp.TheVariants as comp
use Rattle.bs_words.specs.declared.types.Loc.{Loc}
use Rattle.dataflow.specs.Live.{IsLiveness}
use Rattle.dataflow.specs.declared.flow.Place as place
use Rattle.lin_ir.specs.Walks.{Reached, LiveAfter}
use Rattle.lin_ir.specs.declared.lin.Line.{Line}
use Rattle.lin_ir.specs.declared.lin.Lin.{Lin}
use Rattle.lin_laws.specs.Graph.{AreNumbered, AreReached}
use Rattle.lin_flow.specs.Nodes.{IsSearchReady}
use Rattle.lin_flow.specs.Search.{all_positions, AreGrouped}
use Rattle.lin_flow.specs.declared.live.LiveWalks.{LiveWalks}
use Rattle.lin_flow.specs.declared.search.Search.{Search}

-- the positions are exactly those that walks come to, and each was visited
pub record IsWalked (m : Lin) (s : Search) (nodes : List place.Place) : Type 0 where
  pub numbered : AreNumbered m
  pub grouped : AreGrouped s
  pub ready : IsSearchReady m s nodes
  pub all : length nodes ≡ length (all_positions s)
  pub reached : AreReached m (all_positions s)

-- the same, with what is live before each position
pub record AreLive (m : Lin) (w : LiveWalks) : Type 0 where
  pub walked : IsWalked m w.search (contents w.flow.places)
  pub count : w.reached ≡ length (all_positions w.search)
  pub bound : w.flow.bound ≡ m.slots + 32
  pub live : IsLiveness w.flow w.live.rows.items

-- some walk comes to the place
pub record IsReachedAt (m : Lin) (p : ℕ) : Type 0 where
  pub tries : List ℕ
  pub reached : Reached m (drop p m.code) tries

-- some walk comes to the line at the place, and goes on to a read of the location as val, with no
-- write of it between
pub record IsReadAfter (m : Lin) (p : ℕ) (l : Loc) : Type 0 where
  pub line : Line
  pub next : List Line
  pub at : drop p m.code ≡ line ∷ next
  pub tries : List ℕ
  pub reached : Reached m (line ∷ next) tries
  pub live : LiveAfter m l comp.Val line next tries
