-- The tidy function: each of its frame points is reached, it is tight, and it keeps what it was made from.
use Rattle.std.proofs.Common.{◌≡◌, ℕ, true, List, ◌∷◌, sym, subst}
use Rattle.mach_ir.specs.Walks as mach_walks
use Rattle.mach_ir.specs.declared.mach.Mach.{Mach}
use Rattle.lin_ir.specs.Descriptors.{NamesLives, NoAddrLive}
use Rattle.lin_ir.specs.Formed.{IsTight}
use Rattle.lin_ir.specs.Keeps.{LinearKeeps}
use Rattle.lin_ir.specs.Meaning.{NamedAt, passes_frame}
use Rattle.lin_ir.specs.Walks as walks
use Rattle.lin_ir.specs.Walks.{StandsAsLine, Reached, Live, by_walk, after_step}
use Rattle.lin_ir.specs.declared.lin.Line.{Line}
use Rattle.lin_ir.specs.declared.lin.Lin.{Lin}
use Rattle.linearise_rules.specs.Keeps.{KeepsReached}
use Rattle.linearise_rules.proofs.Homes.{contains_of}
use Rattle.linearise_rules.proofs.Lowering.{no_addr_live}
use Rattle.linearise_rules.proofs.Walked.{tail_in, stands_tail}
use Rattle.lin_tidy_rules.specs.Redirecting.{Tidies}
use Rattle.lin_tidy_rules.specs.Regular.{IsRegular, IsTidy}
use Rattle.lin_tidy_rules.specs.Tidied.{IsTidied}
use Rattle.lin_tidy_rules.proofs.Keeping.{keeps_tidied, keeps_named}
use Rattle.lin_tidy_rules.proofs.Leaving.{self_goes, frame_landing}
use Rattle.lin_tidy_rules.proofs.Following.{tidied_tidies}
use Rattle.lin_tidy_rules.proofs.Sizes.{KeepsShape, tidied_shape}
use Rattle.lin_tidy_rules.proofs.Tidied.{tidied_regular}

module _ (m : Lin) (regular : IsRegular m) (tidy : IsTidy m) where
  -- each frame point is reached
  pub points_reached : (i : Line) (next : List Line) → StandsAsLine i next m.code → passes_frame i.op ≡ true → (tries : List ℕ) × Reached m (i ∷ next) tries
  points_reached i next s e = tidy.reached i next s (frame_landing i.op e)

  -- A tidy function is tight.
  pub tidy_tight : IsTight m
  tidy_tight =
      record {
        tight = λ i next s from to z.
            let y = tidy.read i next s from to z in
            let g = self_goes z in
            record {
              changes = regular.changes i (contains_of (tail_in (stands_tail s))) from to z;
              type = y.type;
              tries = y.tries;
              traps = by_walk y.reached;
              read = after_step (walks.goes _ g.on) (subst (Live m to.loc y.type next) (sym (g.tries y.tries)) y.live);
            };
      }

-- What has been made tidy keeps the Mach function with exact names, and so never reads poison where that is not stuck.
pub tidied_keeps : {p : Mach} {m r : Lin} → KeepsReached p m → IsRegular m → Tidies m r → IsTidy r → mach_walks.NoAddrLive p → (named : NamedAt) →
    NamesLives r named → LinearKeeps p r named
tidied_keeps {p} {m} {r} keeps regular tidies tidy safe named exact =
    let left = tidied_regular tidies regular in
    keeps_named p r (keeps_tidied keeps regular tidies) left.well left.traps (points_reached r left tidy) safe named exact

-- no location is live as addr after any of its frame points, where that is so of the Mach function
pub tidied_no_addr : {p : Mach} {m r : Lin} → KeepsReached p m → IsRegular m → Tidies m r → IsTidy r → mach_walks.NoAddrLive p → NoAddrLive r
tidied_no_addr {p} {m} {r} keeps regular tidies tidy safe =
    no_addr_live r (points_reached r (tidied_regular tidies regular) tidy) ((keeps_tidied keeps regular tidies).addrs safe)

-- what holds of a function that was made tidy
pub record Whole (p : Mach) (m r : Lin) : Type 0 where
  -- with exact names it does what the Mach function does, and so never reads poison where that is not stuck
  pub keeps : (named : NamedAt) → NamesLives r named → LinearKeeps p r named
  pub tight : IsTight r
  pub no_addr : NoAddrLive r
  -- it is well formed, goes down and is seated, and each place is reached with the same traps
  pub regular : IsRegular r
  pub shape : KeepsShape m r

pub tidied_whole : {p : Mach} {m r : Lin} → KeepsReached p m → IsRegular m → IsTidied m r → mach_walks.NoAddrLive p → Whole p m r
tidied_whole {p} {m} {r} keeps regular t safe =
    let tidies : Tidies m r = tidied_tidies regular t in
    record {
      keeps = λ named exact. tidied_keeps keeps regular tidies t.tidy safe named exact;
      tight = tidy_tight r (tidied_regular tidies regular) t.tidy;
      no_addr = tidied_no_addr keeps regular tidies t.tidy safe;
      regular = tidied_regular tidies regular;
      shape = tidied_shape t regular;
    }
