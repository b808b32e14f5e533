-- Whichever lines without use go first, what is left is one function.
use Rattle.std.proofs.Common.{◌≡◌, ℕ, ◌<◌, Bool, true, false, cond, nat_eq, List, [], ◌∷◌, length, refl, sym, ap, ◌∙◌, subst, arith}
use Rattle.std.proofs.lemmas.Bool.{eq-eqb, eqb-true}
use Rattle.lin_ir.specs.Formed.{bare_flow}
use Rattle.lin_ir.specs.Walks as walks
use Rattle.lin_ir.specs.Walks.{StandsAsLine, here, below, Reached, by_step}
use Rattle.lin_ir.specs.declared.lin.Flow.TheVariants as flow
use Rattle.lin_ir.specs.declared.lin.Line.{Line}
use Rattle.lin_ir.specs.declared.lin.Lin.{Lin}
use Rattle.linearise_rules.proofs.Walked.{Tail, tail_all, tail_next, tail_stands, stands_tail}
use Rattle.lin_tidy_rules.specs.Leaving.{is_landing, LabelsBetween, none_between, label_between, IsUseless, unreached, unread, skipped, without_lines, with_code, LeavesOut, LeavesOften, not_once, once_more}
use Rattle.lin_tidy_rules.specs.Regular.{IsTidy}
use Rattle.lin_tidy_rules.specs.Tidied.{IsTidied}
use Rattle.lin_tidy_rules.proofs.Leaving.{rest, self_goes, useless_landing, Comes, there, comes_tail, comes_line, label_without, live_before, source_line}
use Rattle.lin_tidy_rules.proofs.Shape.{one_place, landing_stays}

-- ---- a line that has no use still has none when others are left out

module _ (m : Lin) (goes : ℕ → Bool) (each : (i : Line) (next : List Line) → StandsAsLine i next m.code → goes (length next) ≡ true → IsUseless m i next) where
  abbrev R : Lin
  R = rest m goes each

  abbrev L : List Line → List Line
  L = without_lines goes

  module _ {i : Line} {next : List Line} (stands : StandsAsLine i next m.code) (stays : goes (length next) ≡ false) where
    came : {tries : List ℕ} → Reached R (i ∷ L next) tries → Comes m (i ∷ next) tries
    came {tries} r =
        let y = source_line m goes each r in
        subst (λ xs. Comes m (i ∷ xs) tries) (one_place m goes each (comes_tail y.reached) (stands_tail stands) y.stays stays y.same) y.reached

  labels_left : {a b : List Line} → Tail a m.code → LabelsBetween a b → LabelsBetween (L a) (L b)
  labels_left w none_between = none_between
  labels_left w (label_between {l = l} {next = next} {to = to} p) =
      subst (λ b. LabelsBetween (cond b (L next) (bare_flow (flow.Label l) ∷ L next)) (L to))
      (sym (landing_stays m goes each (bare_flow (flow.Label l)) next (tail_stands w) refl)) (label_between (labels_left (tail_next w) p))

  pub useless_left : {i : Line} {next : List Line} → StandsAsLine i next m.code → goes (length next) ≡ false → IsUseless m i next → IsUseless R i (L next)
  useless_left s stays (unreached n out) = unreached n (λ tries r. out tries (comes_line (came s stays r) n))
  useless_left {i} {next} s stays (unread {to = to} z dead) =
      let low : is_landing i.op ≡ false = useless_landing {m = m} {next = next} (unread z dead) in
      let g = self_goes z in
      unread z
      (λ tries r t v.
      let x : Reached m (i ∷ next) tries = comes_line (came s stays r) low in
      dead tries x t
      (live_before m goes each v next refl (there (subst (Reached m next) (g.tries tries) (by_step x (walks.goes _ g.on))))))
  useless_left {i} {next} s stays (skipped {l = l} same past) =
      skipped same
      (subst (LabelsBetween (L next)) (sym (label_without m goes each l m.code tail_all)) (labels_left (tail_next (stands_tail s)) past))

-- ---- lines of what is left

abbrev both : (ℕ → Bool) → (ℕ → Bool) → ℕ → Bool
both a b n = cond (a n) true (b n)

both_swap : (a b : ℕ → Bool) → both a b ≡ both b a
both_swap a b = λ i n. by (a n) (b n) i
  where
    by : (x y : Bool) → cond x true y ≡ cond y true x
    by true true = refl
    by true false = refl
    by false true = refl
    by false false = refl

-- of the lines that the first leaves, those that go by the second
abbrev shifted : (ℕ → Bool) → (ℕ → Bool) → List Line → ℕ → Bool
shifted a b [] n = false
shifted a b (i ∷ next) n =
    cond (a (length next)) (shifted a b next n) (cond (nat_eq n (length (without_lines a next))) (b (length next)) (shifted a b next n))

-- a line that is left
record Was (a : ℕ → Bool) (j : Line) (js code : List Line) : Type 0 where
  next : List Line
  stands : StandsAsLine j next code
  stays : a (length next) ≡ false
  same : without_lines a next ≡ js

module _ (a b : ℕ → Bool) where
  left : {i j : Line} {ks js : List Line} (next : List Line) → without_lines a next ≡ ks → a (length next) ≡ false → StandsAsLine j js (i ∷ ks) →
      (StandsAsLine j js ks → Was a j js (i ∷ next)) → Was a j js (i ∷ next)
  left next e stays here ih = record { next = next; stands = here; stays = stays; same = e }
  left next e stays (below s) ih = ih s

  was : {j : Line} {js : List Line} (code : List Line) → StandsAsLine j js (without_lines a code) → Was a j js code
  was [] s = elim s [ ]
  was {j} {js} (i ∷ next) s = by (a (length next)) refl s (was next)
    where
      lower : Was a j js next → Was a j js (i ∷ next)
      lower y = record { next = y.next; stands = below y.stands; stays = y.stays; same = y.same }

      by : (c : Bool) → a (length next) ≡ c → StandsAsLine j js (cond c (without_lines a next) (i ∷ without_lines a next)) → (StandsAsLine j js (without_lines a next) → Was a j js next) →
          Was a j js (i ∷ next)
      by true e s ih = lower (ih s)
      by false e s ih = left next refl e s (λ s. lower (ih s))

  longer : {i : Line} {next code : List Line} → StandsAsLine i next code → a (length next) ≡ false → length (without_lines a next) < length (without_lines a code)
  longer {i} {next} here stays = let e = ap (λ c. length (cond c (without_lines a next) (i ∷ without_lines a next))) stays in omega (arith, e)
  longer {i} {next} (below {j = j} {is = is} s) stays = by (a (length is)) (longer s stays)
    where
      by : (c : Bool) → length (without_lines a next) < length (without_lines a is) → length (without_lines a next) < length (cond c (without_lines a is) (j ∷ without_lines a is))
      by true lt = lt
      by false lt = omega (arith, lt)

  not_equal : (n k : ℕ) → n < k → nat_eq n k ≡ false
  not_equal n k lt = by (nat_eq n k) refl
    where
      by : (c : Bool) → nat_eq n k ≡ c → nat_eq n k ≡ false
      by false e = e
      by true e = let same : n ≡ k = eqb-true n k e in absurd (omega (arith, same, lt))

  -- a line that is left goes by its own number
  goes_on : {i : Line} {next code : List Line} → StandsAsLine i next code → a (length next) ≡ false → shifted a b code (length (without_lines a next)) ≡ b (length next)
  goes_on {next = next} here stays =
      let n : ℕ = length (without_lines a next) in
      ap (λ c. cond c (shifted a b next n) (cond (nat_eq n n) (b (length next)) (shifted a b next n))) stays
      ∙ ap (λ c. cond c (b (length next)) (shifted a b next n)) (eq-eqb n n refl)
  goes_on {next = next} (below {is = is} s) stays =
      by (a (length is)) ∙ goes_on s stays
    where
      n : ℕ
      n = length (without_lines a next)

      by : (c : Bool) → cond c (shifted a b is n) (cond (nat_eq n (length (without_lines a is))) (b (length is)) (shifted a b is n)) ≡ shifted a b is n
      by true = refl
      by false = ap (λ c. cond c (b (length is)) (shifted a b is n)) (not_equal n (length (without_lines a is)) (longer s stays))

  -- what goes by either, in turn
  in_turn : {zs : List Line} (code : List Line) → Tail code zs → without_lines (shifted a b zs) (without_lines a code) ≡ without_lines (both a b) code
  in_turn [] w = refl
  in_turn {zs} (i ∷ next) w = by (a (length next)) refl (in_turn next (tail_next w))
    where
      s : ℕ → Bool
      s = shifted a b zs

      by : (c : Bool) → a (length next) ≡ c → without_lines s (without_lines a next) ≡ without_lines (both a b) next →
          without_lines s (cond c (without_lines a next) (i ∷ without_lines a next)) ≡
          cond (cond c true (b (length next))) (without_lines (both a b) next) (i ∷ without_lines (both a b) next)
      by true e ih = ih
      by false e ih =
          ap (λ c. cond c (without_lines s (without_lines a next)) (i ∷ without_lines s (without_lines a next))) (goes_on (tail_stands w) e)
          ∙ ap (λ xs. cond (b (length next)) xs (i ∷ xs)) ih

-- ---- two ways meet

-- what goes by either from the second
meets : {m q : Lin} (h : LeavesOut m q) {r : Lin} (k : LeavesOut m r) → LeavesOut q (with_code m (without_lines (both h.goes k.goes) m.code))
meets {m} h k =
    subst (λ q. LeavesOut q (with_code m (without_lines (both h.goes k.goes) m.code))) (sym h.is)
    (record {
      goes = shifted h.goes k.goes m.code;
      is = ap (with_code m) (sym (in_turn h.goes k.goes m.code tail_all));
      each = λ j js s e.
          let y = was h.goes k.goes m.code s in
          let goes : k.goes (length y.next) ≡ true =
          sym (goes_on h.goes k.goes y.stands y.stays) ∙ ap (λ xs. shifted h.goes k.goes m.code (length xs)) y.same ∙ e in
          subst (IsUseless (with_code m (without_lines h.goes m.code)) j) y.same
          (useless_left m h.goes h.each y.stands y.stays (k.each j y.next y.stands goes));
    })

record Meet (Q R : Lin → Type 0) : Type 0 where
  at : Lin
  one : Q at
  other : R at

strip : {m q r : Lin} → LeavesOften m q → LeavesOut m r → Meet (LeavesOut q) (LeavesOften r)
strip not_once k = record { at = _; one = k; other = not_once }
strip {m} (once_more {q = p} {r = q} way h) k =
    let y = strip way k in
    let s : Lin = with_code p (without_lines (both h.goes y.one.goes) p.code) in
    record {
      at = s;
      one = meets h y.one;
      other = once_more y.other
          (subst (LeavesOut y.at) (ap (λ g. with_code p (without_lines g p.code)) (both_swap y.one.goes h.goes)) (meets y.one h));
    }

both_often : {m q r : Lin} → LeavesOften m q → LeavesOften m r → Meet (LeavesOften q) (LeavesOften r)
both_often way not_once = record { at = _; one = not_once; other = way }
both_often way (once_more other k) =
    let y = both_often way other in
    let z = strip y.other k in
    record { at = z.at; one = once_more y.one z.one; other = z.other }

-- ---- where no line is without use

not_useless : {m : Lin} → IsTidy m → (i : Line) (next : List Line) → StandsAsLine i next m.code → IsUseless m i next → ⊥
not_useless tidy i next s (unreached n out) = let y = tidy.reached i next s n in out y.0 y.1
not_useless tidy i next s (unread {from = from} {to = to} z dead) =
    let y = tidy.read i next s from to z in dead y.tries y.reached y.type y.live
not_useless {m} tidy i next s (skipped {l = l} same past) = tidy.jumps l next (subst (λ i. StandsAsLine i next m.code) same s) past

all_stay : (goes : ℕ → Bool) {zs : List Line} → ((i : Line) (next : List Line) → StandsAsLine i next zs → goes (length next) ≡ true → ⊥) → (code : List Line) →
    Tail code zs → without_lines goes code ≡ code
all_stay goes none [] w = refl
all_stay goes none (i ∷ next) w = by (goes (length next)) refl (all_stay goes none next (tail_next w))
  where
    by : (b : Bool) → goes (length next) ≡ b → without_lines goes next ≡ next → cond b (without_lines goes next) (i ∷ without_lines goes next) ≡ i ∷ next
    by true e ih = absurd (none i next (tail_stands w) e)
    by false e ih = ap (λ xs. i ∷ xs) ih

none_goes : {m r : Lin} → IsTidy m → LeavesOut m r → r ≡ m
none_goes {m} tidy h =
    h.is
    ∙ ap (with_code m) (all_stay h.goes (λ i next s e. not_useless tidy i next s (h.each i next s e)) m.code tail_all)

none_often : {m r : Lin} → IsTidy m → LeavesOften m r → r ≡ m
none_often tidy not_once = refl
none_often tidy (once_more way h) = let same = none_often tidy way in none_goes (subst IsTidy (sym same) tidy) h ∙ same

pub left_once : {m q r : Lin} → LeavesOften m q → LeavesOften m r → IsTidy q → IsTidy r → q ≡ r
left_once way other one two = let y = both_often way other in sym (none_often one y.one) ∙ none_often two y.other

-- A function is made tidy in one way.
pub tidied_once : {m q r : Lin} → IsTidied m q → IsTidied m r → q ≡ r
tidied_once h k = left_once h.leaves k.leaves h.tidy k.tidy
