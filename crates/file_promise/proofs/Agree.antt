-- Two correct images of one file do the same: both do what the text means, which does the same with both.
use Rattle.std.proofs.Common.{◌≡◌, ℕ, List, sym, subst}
use Rattle.bs_words.specs.Observed.{Made}
use Rattle.cmm_meaning.specs.Layout.{Layout}
use Rattle.cmm_meaning.specs.Run.{Outcome, IsProper, Run}
use Rattle.correctness.specs.Correct.{EndsAlike, IsGiven, Forwards}
use Rattle.layout_laws.specs.Shown.{AreCallsAlike, AreOutcomesAlike, return_alike, raise_alike, ask_alike, both_more, both_improper, AreRunsAlike}
use Rattle.rv_machine.specs.Run.{Seen}
use Rattle.rv_machine.specs.Services.{End}
use Rattle.file_promise.specs.Agree.{AreEndsAlike, both_run, both_returned, both_raised, both_ask, ComeToTheSame, AgreeOn}

module _ (one two : Layout) where
  ends_of : {e k : End} (d b : End) → d ≡ e → b ≡ k → AreEndsAlike one two e k → AreEndsAlike one two d b
  ends_of d b p q alike = subst (λ (x : End). AreEndsAlike one two x b) (sym p) (subst (AreEndsAlike one two _) (sym q) alike)

  ends_alike : {outcome other : Outcome} (e k : End) → AreOutcomesAlike one two outcome other → IsProper outcome → EndsAlike outcome e → EndsAlike other k →
      AreEndsAlike one two e k
  ends_alike e k (return_alike same) proper a b = ends_of e k a b (both_returned same)
  ends_alike e k (raise_alike same) proper a b = ends_of e k a b (both_raised same)
  ends_alike e k (ask_alike same) proper a b = ends_of e k a b (both_ask same)
  ends_alike e k both_more proper a b = ends_of e k a b both_run
  ends_alike e k both_improper proper a b = absurd proper

  calls_alike : {xs ys : List Made} (us vs : List Made) → us ≡ xs → vs ≡ ys → AreCallsAlike one two xs ys → AreCallsAlike one two us vs
  calls_alike {xs} us vs p q alike =
      subst (λ (zs : List Made). AreCallsAlike one two zs vs) (sym p) (subst (λ (zs : List Made). AreCallsAlike one two xs zs) (sym q) alike)

  pub agree : (run other_run : ℕ → Run) (machine other : ℕ → Seen) (stack heap words other_words : ℕ) →
      ((n : ℕ) → AreRunsAlike one two (run n) (other_run n)) → Forwards run machine stack heap words →
      Forwards other_run other stack heap other_words → AgreeOn one two run other_run machine other stack heap
  agree run other_run machine other stack heap words other_words alike here there = record { does = does }
    where
      does : (n : ℕ) → IsGiven (run n) stack heap → IsGiven (other_run n) stack heap → ComeToTheSame one two (run n) (other_run n) machine other
      does n given other_given =
          let a = here.does n given in
          let b = there.does n other_given in
          record {
            steps = a.0;
            other_steps = b.0;
            as_text = a.2;
            other_as_text = b.2;
            calls = calls_alike (machine a.0).calls (other b.0).calls (a.2).calls (b.2).calls (alike n).calls;
            end = ends_alike (machine a.0).end (other b.0).end (alike n).outcome given.proper (a.2).end (b.2).end;
          }
