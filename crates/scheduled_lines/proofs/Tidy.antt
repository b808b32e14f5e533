-- Lines in another order are as tidy as they were.
use Rattle.std.proofs.Common.{◌≡◌, ◌≢◌, ℕ, true, inl, List, [], ◌∷◌, ◌++◌, refl, sym, ◌∙◌, subst}
use Rattle.std.proofs.lemmas.Bool.{true≢false}
use Rattle.bs_words.proofs.Lists.{first_in}
use Rattle.bs_words.specs.declared.types.Loc.{Loc}
use Rattle.bs_words.specs.declared.types.Loc.TheVariants as loc
use Rattle.lin_ir.specs.Formed.{IsHome, is_colour, is_slot, IsSelfMove, is_self_move, bare_flow}
use Rattle.lin_ir.specs.Meaning.{after_label}
use Rattle.lin_ir.specs.Walks.{StandsAsLine, here, below, Reached, Live, Writes}
use Rattle.lin_ir.specs.declared.lin.Flow.TheVariants as flow
use Rattle.lin_ir.specs.declared.lin.Line.{Line}
use Rattle.lin_ir.specs.declared.lin.Lin.{Lin}
use Rattle.lin_ir.specs.declared.lin.Spot.{Spot}
use Rattle.linearise_rules.proofs.Homes.{is_first, in_of, contains_of}
use Rattle.linearise_rules.proofs.Marks.{all_in}
use Rattle.linearise_rules.proofs.Walked.{Tail, tail_all, tail_more, tail_in, tail_label, tail_next, stands_tail, reached_tail}
use Rattle.lin_tidy_rules.specs.Leaving.{LabelsBetween, none_between, label_between, with_code}
use Rattle.lin_tidy_rules.specs.Regular.{AtHomes, IsRegular, IsReadBehind, IsTidy}
use Rattle.lin_tidy_rules.proofs.Ends.{same_tail, tail_then}
use Rattle.lin_tidy_rules.proofs.LeavingDown.{between_tail}
use Rattle.schedule_rules.specs.Straight.{is_plain}
use Rattle.schedule_rules.specs.Orders.{are_plain, Ordered}
use Rattle.schedule_rules.proofs.Behind.{live_behind}
use Rattle.schedule_rules.proofs.Reorder.{and_right, reorders_plain}
use Rattle.schedule_rules.proofs.Walked.{through}
use Rattle.scheduled_lines.proofs.Forms.{was_in}
use Rattle.scheduled_lines.proofs.InStep.{InStep, both_plain, same_line, in_step, rest_in_step, label_in_step, same_length, reached_there}
use Rattle.scheduled_lines.proofs.Runs.{stays, InRun, in_run, stands_left}
use Rattle.scheduled_lines.proofs.Walks.{line_reached, one_traps, plain_landing}

-- ---- moves from a location to itself

self_plain : {i : Line} {from to : Spot} → IsSelfMove i from to → is_plain i.op ≡ true
self_plain (is_self_move e) = refl

self_writes : {i : Line} {from to : Spot} → IsSelfMove i from to → Writes i to.loc
self_writes (is_self_move {to = to} e) = inl (to.comp, first_in to [])

self_home : {m : Lin} {i : Line} {from to : Spot} → IsSelfMove i from to → AtHomes m i.results → IsHome m to.loc
self_home {m} (is_self_move e) homes = all_in (λ (s : Spot). IsHome m s.loc) homes (is_first {xs = []})

home_set : {m : Lin} {l : Loc} → IsHome m l → l ≢ loc.Unset
home_set (is_colour {n = n} c) = no
  where
    no : loc.Machine n ≡ loc.Unset → ⊥
    no e = cc
home_set (is_slot {k = k} lt) = no
  where
    no : loc.Slot k ≡ loc.Unset → ⊥
    no e = cc

-- ---- places

stands_within : {i : Line} {next ys zs : List Line} → Tail ys zs → StandsAsLine i next ys → StandsAsLine i next zs
stands_within tail_all s = s
stands_within (tail_more t) s = below (stands_within t s)

-- a line of a run, with what follows it there
run_left : {i : Line} {later ys : List Line} → StandsAsLine i later ys → are_plain ys ≡ true → are_plain (i ∷ later) ≡ true
run_left here p = p
run_left (below {j = j} {is = is} s) p = run_left s (and_right (is_plain j.op) (are_plain is) p)

-- where the one begins with labels, the other begins with the same
record Between (was to : List Line) : Type 0 where
  end : List Line
  together : InStep end to
  labels : LabelsBetween was end

between_was : {next to : List Line} → LabelsBetween next to → {was : List Line} → InStep was next → Between was to
between_was none_between {was} s = record { end = was; together = s; labels = none_between }
between_was (label_between p) (both_plain x y s) = absurd (true≢false (sym y))
between_was (label_between p) (same_line s) = let b = between_was p s in record { end = b.end; together = b.together; labels = label_between b.labels }

module _ (m : Lin) (code : List Line) (order : Ordered m.code code) (regular : IsRegular m) (tidy : IsTidy m) where
  abbrev R : Lin
  R = with_code m code

  -- ---- what a move is for

  module _ {i : Line} {next : List Line} {from to : Spot} (stands : StandsAsLine i next code) (move : IsSelfMove i from to) (run : InRun i next m.code) where
    abbrev Later : List Line
    Later = run.among.later

    -- walks come to a line of a run with the traps with which they come to the end of it
    same_tries : (tries others : List ℕ) → Reached m run.old_rest tries → Reached R (i ∷ next) others → others ≡ tries
    same_tries tries others x y =
        let ends : Reached R run.new_rest others =
        through R (i ∷ Later) run.new_rest others (run_left run.among.stands (reorders_plain run.old_run run.new_run run.order run.plain))
        (subst (λ k. Reached R (i ∷ k) others) run.among.follows y) in
        (one_traps m R (in_step order) regular.traps).one run.new_rest others tries ends
        (reached_there m R (in_step order) (rest_in_step run.rest) (reached_tail R ends) x)

    read_by : (others : List Line) → StandsAsLine i others run.old_run →
        ((t : _) (tries : List ℕ) → Live m to.loc t (others ++ run.old_rest) tries → Live R to.loc t (Later ++ run.new_rest) tries) → IsReadBehind R i next to
    read_by others s live =
        let old = tidy.read i (others ++ run.old_rest) (stands_within run.old (stands_left run.old_rest s)) from to move in
        let new = line_reached m R (in_step order) tidy i next stands (plain_landing i.op (self_plain move)) in
        let same = same_tries old.tries new.0 (through m (i ∷ others) run.old_rest old.tries (run_left s run.plain) old.reached) new.1 in
        record {
          tries = old.tries;
          reached = subst (Reached R (i ∷ next)) same new.1;
          type = old.type;
          live = subst (λ k. Live R to.loc old.type k old.tries) (sym run.among.follows) (live old.type old.tries old.live);
        }

    read_behind : IsHome m to.loc → IsReadBehind R i next to
    read_behind home =
        let b = live_behind m R order to.loc (home_set home) run.old_run run.new_run run.old_rest run.new_rest run.plain run.order run.rest i Later run.among.stands
        (self_writes move) in
        read_by b.0 b.1 b.2

  read : (i : Line) (next : List Line) → StandsAsLine i next code → (from to : Spot) → IsSelfMove i from to → IsReadBehind R i next to
  read i next s from to z =
      let run = in_run order s (self_plain z) in
      let c = in_of i m.code (was_in m code order i (contains_of (tail_in (stands_tail s)))) in
      let h = all_in (λ (i : Line). AtHomes m i.args × AtHomes m i.results) regular.homes c in
      read_behind s z run (self_home {m = m} z h.1)

  -- ---- jumps

  jumps : (l : ℕ) (next : List Line) → StandsAsLine (bare_flow (flow.Jump l)) next code → LabelsBetween next (after_label l code) → ⊥
  jumps l next s between =
      let y = stays order s refl in
      let b = between_was between (in_step y.order) in
      let there = label_in_step l (in_step order) in
      let within : Tail b.end m.code = tail_then (between_tail b.labels) (tail_next (stands_tail y.stands)) in
      tidy.jumps l y.was y.stands
      (subst (LabelsBetween y.was) (same_tail within (tail_label l m.code) (same_length b.together ∙ sym (same_length there))) b.labels)

  pub tidy_kept : IsTidy R
  tidy_kept = record { reached = line_reached m R (in_step order) tidy; read = read; jumps = jumps }
