-- What is left, round by round.
use Rattle.std.proofs.Common.{◌≡◌, ℕ, zero, suc, ◌+◌, ◌-◌, ◌<◌, ◌≤◌, Bool, true, false, cond, List, [], ◌∷◌, length, drop, refl, sym, ap, ◌∙◌, subst, arith}
use Rattle.std.specs.List.{All}
use Rattle.std.specs.Prelude.{slice_index_or}
use Rattle.lin_ir.specs.Walks.{StandsAsLine, here, below, Reached}
use Rattle.lin_ir.specs.declared.lin.Line.{Line}
use Rattle.lin_ir.specs.declared.lin.Lin.{Lin}
use Rattle.lin_laws.specs.Graph.{HaveNumbers, AreNumbered}
use Rattle.lin_flow.specs.Sizes.{IsCountable}
use Rattle.linearise_rules.proofs.Lines.{all_of}
use Rattle.linearise_rules.proofs.Marks.{all_in}
use Rattle.lin_tidy_rules.specs.Leaving.{IsUseless, without_lines, with_code, LeavesOut, LeavesOften, not_once, once_more}
use Rattle.lin_tidy_rules.specs.Redirecting.{redirect, final_label, last_exit, redirected_all}
use Rattle.lin_tidy_rules.specs.Turning.{turned_all}
use Rattle.lin_tidy_rules.specs.Regular.{IsReadBehind, IsTidy}
use Rattle.lin_tidy_rules.specs.Tidied.{IsTidied, IsUseful}
use Rattle.lin_tidy_rules.proofs.Leaving.{in_code}
use Rattle.lin_unused.specs.Flags.{TellsUse, AreUseFlags, AllReached, AreRead, NoMoveGoes, is_flagged_unused, unflagged_lines}
use Rattle.lin_unused.proofs.Flagged.{kept_without}
use Rattle.lin_unused.proofs.Useful.{all_map}
use Rattle.lin_tidy.specs.Sizes.{HasTidyRoom}
use Rattle.lin_tidy.proofs.Loops.{turned_numbered}
use Rattle.lin_tidy.proofs.Sizes.{turned_countable}
use Rattle.lin_tidy.proofs.Left.{line_left, read_left, was}

-- ---- where a line is

record Standing (i : Line) (next code : List Line) : Type 0 where
  at : ℕ
  is : drop at code ≡ i ∷ next
  len : at + suc (length next) ≡ length code

standing : {i : Line} {next code : List Line} → StandsAsLine i next code → Standing i next code
standing here = record { at = 0; is = refl; len = omega arith }
standing (below s) = let y = standing s in let len = y.len in record { at = suc y.at; is = y.is; len = omega (arith, len) }

module _ (m : Lin) (flags : List Bool) (h : AreUseFlags m flags) where
  flag_at : {i : Line} {next : List Line} (y : Standing i next m.code) → is_flagged_unused flags (length next) ≡ slice_index_or flags y.at false
  flag_at {i} {next} y =
      let same : length flags - suc (length next) ≡ y.at = by (length flags) (length m.code) (length next) y.at h.len y.len in
      ap (λ k. slice_index_or flags k false) same
    where
      by : (a c n at : ℕ) → a ≡ c → at + suc n ≡ c → a - suc n ≡ at
      by a c n at e u = omega (arith, e, u)

  tells_at : {i : Line} {next : List Line} (y : Standing i next m.code) → TellsUse m y.at (slice_index_or flags y.at false)
  tells_at y = let len = y.len in h.each y.at (omega (arith, len))

  pub goes_useless : (i : Line) (next : List Line) → StandsAsLine i next m.code → is_flagged_unused flags (length next) ≡ true → IsUseless m i next
  goes_useless i next s e =
      let y = standing s in (tells_at y).yes (sym (flag_at y) ∙ e) i next y.is

  pub leaves_flagged : (r : Lin) → r ≡ with_code m (without_lines (is_flagged_unused flags) m.code) → LeavesOut m r
  leaves_flagged r is = record { goes = is_flagged_unused flags; is = is; each = goes_useless }

  useful_at : All (λ b. b ≡ false) flags → (i : Line) (next : List Line) → StandsAsLine i next m.code → IsUseful m i next
  useful_at none i next s =
      let y = standing s in
      let len = y.len in
      let both = h.len in
      (tells_at y).no (none y.at false (omega (arith, len, both))) i next y.is

  -- no line goes: the function is tidy
  pub tidy_now : All (λ b. b ≡ false) flags → IsTidy m
  tidy_now none =
      record {
        reached = λ i next s e. (useful_at none i next s).reached e;
        read = λ i next s from to z. (useful_at none i next s).read from to z;
        jumps = λ l next s q. (useful_at none _ next s).jumps l refl q;
      }

  pub left_numbered : AreNumbered m → AreNumbered (with_code m (without_lines (is_flagged_unused flags) m.code))
  left_numbered numbered =
      let Args : Line → Type 0 = λ i. HaveNumbers m.slots i.args in
      let Results : Line → Type 0 = λ i. HaveNumbers m.slots i.results in
      record {
        args = all_of Args (without_lines (is_flagged_unused flags) m.code) (λ j z. all_in Args numbered.args (in_code m (is_flagged_unused flags) goes_useless j m.code z));
        results = all_of Results (without_lines (is_flagged_unused flags) m.code)
            (λ j z. all_in Results numbered.results (in_code m (is_flagged_unused flags) goes_useless j m.code z));
      }

  -- walks come to what is left
  pub left_reached : AllReached (with_code m (without_lines (is_flagged_unused flags) m.code))
  left_reached =
      record {
        each = λ j js s low.
            let y = was (is_flagged_unused flags) m.code s in
            let x = standing y.stands in
            let r = ((tells_at x).no (sym (flag_at x) ∙ y.stays) j y.next x.is).reached low in (
              r.0,
              subst (λ xs. Reached (with_code m (without_lines (is_flagged_unused flags) m.code)) (j ∷ xs) r.0) y.same
                  (line_left m (is_flagged_unused flags) goes_useless y.stays r.1),
            );
      }

  -- moves of a location to itself are read as before
  pub left_read : NoMoveGoes flags m.code → AreRead (with_code m (without_lines (is_flagged_unused flags) m.code))
  left_read none =
      record {
        each = λ j js s from to z.
            let y = was (is_flagged_unused flags) m.code s in
            let x = standing y.stands in
            let r = ((tells_at x).no (sym (flag_at x) ∙ y.stays) j y.next x.is).read from to z in
            subst (λ xs. IsReadBehind (with_code m (without_lines (is_flagged_unused flags) m.code)) j xs to) y.same
            (read_left m (is_flagged_unused flags) goes_useless
            (λ i next s e. let k = standing s in none.each k.at i next k.is (sym (flag_at k) ∙ e)) y.stays z r);
      }

-- ---- fewer lines

without_fewer : (g : ℕ → Bool) (code : List Line) → length (without_lines g code) ≤ length code
without_fewer g [] = omega arith
without_fewer g (i ∷ next) = by (g (length next)) (without_fewer g next)
  where
    by : (b : Bool) → length (without_lines g next) ≤ length next → length (cond b (without_lines g next) (i ∷ without_lines g next)) ≤ suc (length next)
    by true le = omega (arith, le)
    by false le = omega (arith, le)

kept_fewer : (flags : List Bool) (code : List Line) → length flags ≡ length code → (All (λ b. b ≡ false) flags → ⊥) → length (unflagged_lines flags code) < length code
kept_fewer [] code len some = absurd (some (λ k d lt. absurd (omega (arith, lt))))
kept_fewer (b ∷ flags) [] len some = absurd (omega (arith, len))
kept_fewer (true ∷ flags) (i ∷ next) len some =
    let same : length flags ≡ length next = omega (arith, len) in
    let e = ap length (kept_without flags next same) in
    let le = without_fewer (is_flagged_unused flags) next in
    omega (arith, e, le)
kept_fewer (false ∷ flags) (i ∷ next) len some =
    let lt = kept_fewer flags next (omega (arith, len)) (λ none. some (more none)) in omega (arith, lt)
  where
    more : All (λ b. b ≡ false) flags → All (λ b. b ≡ false) (false ∷ flags)
    more none zero d lt = refl
    more none (suc k) d lt = none k d (omega (arith, lt))

pub fewer_left : (m r : Lin) (flags : List Bool) → length flags ≡ length m.code → (All (λ b. b ≡ false) flags → ⊥) →
    r ≡ with_code m (without_lines (is_flagged_unused flags) m.code) → length r.code < length m.code
fewer_left m r flags len some is =
    let e = ap length (kept_without flags m.code len) in
    let f = ap (λ (r : Lin). length r.code) is in
    let lt = kept_fewer flags m.code len some in
    omega (arith, e, f, lt)

-- ---- the rounds

-- what was done to a function so far
pub record Round (m now : Lin) (flags : List Bool) : Type 0 where
  pub leaves : LeavesOften (turned_all (redirected_all m)) now
  pub numbered : AreNumbered now
  pub countable : IsCountable now
  pub told : AreUseFlags now flags

pub redirected_numbered : (m r : Lin) → r ≡ redirected_all m → AreNumbered m → AreNumbered r
redirected_numbered m r is numbered =
    let Args : Line → Type 0 = λ i. HaveNumbers m.slots i.args in
    let Results : Line → Type 0 = λ i. HaveNumbers m.slots i.results in
    subst AreNumbered (sym is)
    (record {
      args = all_map (redirect (final_label m) (last_exit m)) Args m.code (λ i z. all_in Args numbered.args z);
      results = all_map (redirect (final_label m) (last_exit m)) Results m.code (λ i z. all_in Results numbered.results z);
    })

pub first_numbered : (m turned now : Lin) → turned ≡ redirected_all m → now ≡ turned_all turned → AreNumbered m → AreNumbered now
first_numbered m turned now redirects turns numbered =
    subst AreNumbered (sym turns) (turned_numbered turned (redirected_numbered m turned redirects numbered))

pub first_round : (m turned now : Lin) (flags : List Bool) → turned ≡ redirected_all m → now ≡ turned_all turned → AreNumbered m →
    HasTidyRoom m → AreUseFlags now flags → Round m now flags
first_round m turned now flags redirects turns numbered room f =
    record {
      leaves = subst (LeavesOften (turned_all (redirected_all m))) (sym (turns ∙ ap turned_all redirects)) not_once;
      numbered = first_numbered m turned now redirects turns numbered;
      countable = turned_countable m turned now redirects turns room;
      told = f;
    }

pub next_numbered : (m now r : Lin) (flags : List Bool) → Round m now flags → r ≡ with_code now (without_lines (is_flagged_unused flags) now.code) → AreNumbered r
next_numbered m now r flags h is = subst AreNumbered (sym is) (left_numbered now flags h.told h.numbered)

pub next_countable : (m now r : Lin) (flags : List Bool) → Round m now flags → r ≡ with_code now (without_lines (is_flagged_unused flags) now.code) → IsCountable r
next_countable m now r flags h is =
    let fewer = without_fewer (is_flagged_unused flags) now.code in
    let lines = h.countable.lines in
    subst IsCountable (sym is) (record { lines = omega (arith, fewer, lines); slots = h.countable.slots })

pub next_reached : (m now r : Lin) (flags : List Bool) → Round m now flags → r ≡ with_code now (without_lines (is_flagged_unused flags) now.code) → AllReached r
next_reached m now r flags h is = subst AllReached (sym is) (left_reached now flags h.told)

pub next_read : (m now r : Lin) (flags : List Bool) → Round m now flags → r ≡ with_code now (without_lines (is_flagged_unused flags) now.code) →
    NoMoveGoes flags now.code → AreRead r
next_read m now r flags h is none = subst AreRead (sym is) (left_read now flags h.told none)

pub no_move_by : (code xs : List Line) (slice flags : List Bool) → xs ≡ code → slice ≡ flags → NoMoveGoes slice xs → NoMoveGoes flags code
no_move_by code xs slice flags e f h = subst (NoMoveGoes flags) e (subst (λ s. NoMoveGoes s xs) f h)

pub next_round : (m now r : Lin) (flags others : List Bool) → Round m now flags → r ≡ with_code now (without_lines (is_flagged_unused flags) now.code) →
    AreUseFlags r others → Round m r others
next_round m now r flags others h is f =
    record {
      leaves = once_more h.leaves (leaves_flagged now flags h.told r is);
      numbered = next_numbered m now r flags h is;
      countable = next_countable m now r flags h is;
      told = f;
    }

pub last_round : (m now : Lin) (flags : List Bool) → Round m now flags → All (λ b. b ≡ false) flags → IsTidied m now
last_round m now flags h none = record { leaves = h.leaves; tidy = tidy_now now flags h.told none }

pub left_by : (m r : Lin) (slice flags : List Bool) → slice ≡ flags → r ≡ with_code m (without_lines (is_flagged_unused slice) m.code) →
    r ≡ with_code m (without_lines (is_flagged_unused flags) m.code)
left_by m r slice flags same is = is ∙ ap (λ xs. with_code m (without_lines (is_flagged_unused xs) m.code)) same
