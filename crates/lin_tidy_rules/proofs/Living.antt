-- What is live is at a colour or a slot.
use Rattle.std.proofs.Common.{List, ◌∷◌, ℕ, All}
use Rattle.bs_words.specs.declared.types.Comp.{Comp}
use Rattle.bs_words.specs.declared.types.Loc.{Loc}
use Rattle.lin_ir.specs.Formed.{IsHome}
use Rattle.lin_ir.specs.Walks as walks
use Rattle.lin_ir.specs.Walks.{StandsAsLine, LiveAt, LiveAcross, across_step, across_raise}
use Rattle.lin_ir.specs.declared.lin.Line.{Line}
use Rattle.lin_ir.specs.declared.lin.Lin.{Lin}
use Rattle.lin_ir.specs.declared.lin.Spot.{Spot}
use Rattle.linearise_rules.proofs.Homes.{in_of}
use Rattle.linearise_rules.proofs.Marks.{all_in}
use Rattle.linearise_rules.proofs.Walked.{Tail, tail_target, tail_label, stands_tail, IsRead, live_read}
use Rattle.lin_tidy_rules.specs.Regular.{AtHomes}

module _ (m : Lin) (homes : All (λ (i : Line). AtHomes m i.args × AtHomes m i.results) m.code) where
  read_home : {l : Loc} {t : Comp} → IsRead m l t → IsHome m l
  read_home {l} {t} y =
      let h = all_in (λ (i : Line). AtHomes m i.args × AtHomes m i.results) homes y.inside in
      all_in (λ (s : Spot). IsHome m s.loc) h.0 (in_of (record { loc = l; comp = t }) y.line.args y.reads)

  across_home : {l : Loc} {t : Comp} {i : Line} {next : List Line} {tries : List ℕ} → Tail (i ∷ next) m.code → LiveAcross m l t i next tries → IsHome m l
  across_home w (across_step free (walks.goes t o) v) = read_home (live_read m v (tail_target m w t))
  across_home w (across_raise (walks.raises {h = h} e) v) = read_home (live_read m v (tail_label h m.code))

  -- what is live after a frame point is a colour or a slot
  pub live_home : {l : Loc} {t : Comp} {i : Line} {next : List Line} → StandsAsLine i next m.code → LiveAt m l t i next → IsHome m l
  live_home s v = across_home (stands_tail s) v.across
