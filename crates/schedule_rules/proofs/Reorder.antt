-- Lines of a run in any order that respects dependence do what they did.
use Rattle.std.proofs.Common.{◌≡◌, ℕ, zero, suc, ◌≤◌, Bool, true, false, cond, not, nat_lt, ◌&&◌, List, [], ◌∷◌, ◌++◌, length, map, Option, Some, None, refl, sym, ap, ◌∙◌, subst, arith, append-nil, length-append}
use Rattle.std.proofs.lemmas.Bool.{true≢false}
use Rattle.std.proofs.lemmas.Option.{none-some, same_Some}
use Rattle.std.proofs.lemmas.List.{map-append}
use Rattle.cmm_meaning.specs.Setting.{Setting}
use Rattle.lin_ir.specs.declared.lin.Line.{Line}
use Rattle.schedule_rules.specs.Straight.{is_plain, Ranked, ranked}
use Rattle.schedule_rules.specs.Orders.{Both, does_line, then_does, do_all, depends_on_none, are_plain, Reorders, nothing, takes, rest_ends, rest_line, Ordered, ordered, Pick, MayComeNext, rank_line, higher, if_free, best, take_next, taken_in_order, scheduled_run, scheduled_from, scheduled}
use Rattle.schedule_rules.proofs.Diamond.{diamond}

-- ---- tests

pub and_left : (a b : Bool) → (a && b) ≡ true → a ≡ true
and_left true b e = refl
and_left false b e = absurd (true≢false (sym e))

pub and_right : (a b : Bool) → (a && b) ≡ true → b ≡ true
and_right true b e = e
and_right false b e = absurd (true≢false (sym e))

and_both : (a b : Bool) → a ≡ true → b ≡ true → (a && b) ≡ true
and_both true b e f = f
and_both false b e f = absurd (true≢false (sym e))

pub not_true : (a : Bool) → not a ≡ true → a ≡ false
not_true true e = absurd (true≢false (sym e))
not_true false e = refl

pub plain_left : (xs ys : List Line) → are_plain (xs ++ ys) ≡ true → are_plain xs ≡ true
plain_left [] ys e = refl
plain_left (x ∷ xs) ys e = and_both (is_plain x.op) (are_plain xs) (and_left _ _ e) (plain_left xs ys (and_right _ _ e))

pub plain_right : (xs ys : List Line) → are_plain (xs ++ ys) ≡ true → are_plain ys ≡ true
plain_right [] ys e = e
plain_right (x ∷ xs) ys e = plain_right xs ys (and_right _ _ e)

pub plain_both : (xs ys : List Line) → are_plain xs ≡ true → are_plain ys ≡ true → are_plain (xs ++ ys) ≡ true
plain_both [] ys e f = f
plain_both (x ∷ xs) ys e f = and_both (is_plain x.op) (are_plain (xs ++ ys)) (and_left _ _ e) (plain_both xs ys (and_right _ _ e) f)

-- ---- one line is taken out

pub record DidFirst (c : Setting) (i : Line) (is : List Line) (s u : Both) : Type 0 where
  pub next : Both
  pub first : does_line c i s ≡ Some next
  pub rest : do_all c is next ≡ Some u

pub did_first : (c : Setting) (i : Line) (is : List Line) (s u : Both) → do_all c (i ∷ is) s ≡ Some u → DidFirst c i is s u
did_first c i is s u e = by (does_line c i s) refl e
  where
    by : (o : Option Both) → does_line c i s ≡ o → then_does (do_all c is) o ≡ Some u → DidFirst c i is s u
    by None q e = absurd (none-some u e)
    by (Some t) q e = record { next = t; first = q; rest = e }

pub pull : (c : Setting) (before : List Line) (i : Line) (after : List Line) (s u : Both) → are_plain before ≡ true → is_plain i.op ≡ true →
    depends_on_none i before ≡ true → do_all c (before ++ i ∷ after) s ≡ Some u → DidFirst c i (before ++ after) s u
pull c [] i after s u p q free e = did_first c i after s u e
pull c (b ∷ bs) i after s u p q free e =
    let one = did_first c b (bs ++ i ∷ after) s u e in
    let ih = pull c bs i after one.next u (and_right _ _ p) q (and_right _ _ free) one.rest in
    let x = diamond c b i s one.next ih.next (and_left _ _ p) q (not_true _ (and_left _ _ free)) one.first ih.first in
    record { next = x.between; first = x.first; rest = ap (then_does (do_all c (bs ++ after))) x.second ∙ ih.rest }

-- Whatever the order that respects dependence: where the old run is nowhere stuck, the new one is not, and ends in the same.
pub reordered : (c : Setting) (xs ys : List Line) (s u : Both) → Reorders xs ys → are_plain xs ≡ true → do_all c xs s ≡ Some u → do_all c ys s ≡ Some u
reordered c _ _ s u nothing p e = e
reordered c _ _ s u (takes before i after {others = others} free r) p e =
    let q = plain_right before (i ∷ after) p in
    let x = pull c before i after s u (plain_left before (i ∷ after) p) (and_left _ _ q) free e in
    let rest : are_plain (before ++ after) ≡ true = plain_both before after (plain_left before (i ∷ after) p) (and_right _ _ q) in
    ap (then_does (do_all c others)) x.first ∙ reordered c (before ++ after) others x.next u r rest x.rest

-- ---- the same lines

pub reorders_length : (xs ys : List Line) → Reorders xs ys → length ys ≡ length xs
reorders_length _ _ nothing = refl
reorders_length _ _ (takes before i after {others = others} free r) =
    let ih = reorders_length (before ++ after) others r in
    let a = length-append before after in
    let b = length-append before (i ∷ after) in
    omega (arith, ih, a, b)

pub reorders_plain : (xs ys : List Line) → Reorders xs ys → are_plain xs ≡ true → are_plain ys ≡ true
reorders_plain _ _ nothing p = p
reorders_plain _ _ (takes before i after {others = others} free r) p =
    let q = plain_right before (i ∷ after) p in
    and_both (is_plain i.op) (are_plain others) (and_left _ _ q)
    (reorders_plain (before ++ after) others r (plain_both before after (plain_left before (i ∷ after) p) (and_right _ _ q)))

-- ---- the algorithm's order respects dependence

abbrev lines : List Ranked → List Line
lines rs = map rank_line rs

pub append_one : (xs : List Ranked) (x : Ranked) (ys : List Ranked) → (xs ++ x ∷ []) ++ ys ≡ xs ++ x ∷ ys
append_one [] x ys = refl
append_one (z ∷ xs) x ys = ap (λ l. z ∷ l) (append_one xs x ys)

pub picked : (before rs : List Ranked) (p : Pick) → best before rs ≡ Some p → MayComeNext (before ++ rs) p
picked before [] p e = absurd (none-some p e)
picked before (r ∷ rs) p e =
    by (depends_on_none r.line (lines before)) refl (best (before ++ r ∷ []) rs) e
    (λ q u. subst (λ l. MayComeNext l q) (append_one before r rs) (picked (before ++ r ∷ []) rs q u)) refl
  where
    here : Pick
    here = record { before = before; taken = r; after = rs }

    by : (b : Bool) → depends_on_none r.line (lines before) ≡ b → (o : Option Pick) → if_free b here o ≡ Some p →
        ((q : Pick) → best (before ++ r ∷ []) rs ≡ Some q → MayComeNext (before ++ r ∷ rs) q) → best (before ++ r ∷ []) rs ≡ o → MayComeNext (before ++ r ∷ rs) p
    by true t None e ih o = subst (MayComeNext (before ++ r ∷ rs)) (same_Some here p e) (record { whole = refl; free = t })
    by true t (Some q) e ih o = choose (nat_lt r.height q.taken.height) (same_Some (higher here (Some q)) p e)
      where
        choose : (b : Bool) → cond b q here ≡ p → MayComeNext (before ++ r ∷ rs) p
        choose true w = subst (MayComeNext (before ++ r ∷ rs)) w (ih q o)
        choose false w = subst (MayComeNext (before ++ r ∷ rs)) w (record { whole = refl; free = t })
    by false t o e ih w = ih p (w ∙ e)

-- the first of what is left depends on none of it
one_is_best : (r : Ranked) (rs : List Ranked) → best [] (r ∷ rs) ≡ None → ⊥
one_is_best r rs e = absurd (none-some _ (sym e))

taken_reorders : (n : ℕ) (rs : List Ranked) → length rs ≤ n → Reorders (lines rs) (taken_in_order n rs)
taken_reorders zero [] le = nothing
taken_reorders zero (r ∷ rs) le = absurd (omega (arith, le))
taken_reorders (suc n) [] le = nothing
taken_reorders (suc n) (r ∷ rs) le = by (best [] (r ∷ rs)) refl (λ xs w. taken_reorders n xs w)
  where
    by : (o : Option Pick) → best [] (r ∷ rs) ≡ o → ((xs : List Ranked) → length xs ≤ n → Reorders (lines xs) (taken_in_order n xs)) →
        Reorders (lines (r ∷ rs)) (take_next (taken_in_order n) o)
    by None e ih = absurd (one_is_best r rs e)
    by (Some p) e ih =
        let k = picked [] (r ∷ rs) p e in
        let cut : lines p.before ++ p.taken.line ∷ lines p.after ≡ lines (r ∷ rs) =
        sym (map-append rank_line p.before (p.taken ∷ p.after)) ∙ ap lines k.whole in
        let la = length-append p.before (p.taken ∷ p.after) in
        let lb = length-append p.before p.after in
        let lw : length (p.before ++ p.taken ∷ p.after) ≡ suc (length rs) = ap length k.whole in
        let small : length (p.before ++ p.after) ≤ n = omega (arith, le, la, lb, lw) in
        subst (λ l. Reorders l (p.taken.line ∷ taken_in_order n (p.before ++ p.after))) cut
        (takes (lines p.before) p.taken.line (lines p.after) k.free
        (subst (λ l. Reorders l (taken_in_order n (p.before ++ p.after))) (map-append rank_line p.before p.after) (ih (p.before ++ p.after) small)))

ranked_lines : (is : List Line) → lines (ranked is) ≡ is
ranked_lines [] = refl
ranked_lines (i ∷ is) = ap (λ l. i ∷ l) (ranked_lines is)

ranked_length : (is : List Line) → length (ranked is) ≡ length is
ranked_length [] = refl
ranked_length (i ∷ is) = ap suc (ranked_length is)

pub scheduled_reorders : (is : List Line) → Reorders is (scheduled_run is)
scheduled_reorders is =
    let le = ranked_length is in
    subst (λ l. Reorders l (scheduled_run is)) (ranked_lines is) (taken_reorders (length is) (ranked is) (omega (arith, le)))

-- ---- whole codes

line_append : (xs : List Line) (x : Line) (ys : List Line) → (xs ++ x ∷ []) ++ ys ≡ xs ++ x ∷ ys
line_append [] x ys = refl
line_append (z ∷ xs) x ys = ap (λ l. z ∷ l) (line_append xs x ys)

-- a line that stays, before code in order
line_then : (run : List Line) (i : Line) {is js : List Line} → are_plain run ≡ true → is_plain i.op ≡ false → Ordered is js → Ordered (run ++ i ∷ is) (scheduled_run run ++ i ∷ js)
line_then run i p q (ordered xs ys is js r s t) = ordered run (scheduled_run run) (i ∷ xs ++ is) (i ∷ ys ++ js) p (scheduled_reorders run) (rest_line i xs ys q r s t)

from_ordered : (run is : List Line) → are_plain run ≡ true → Ordered (run ++ is) (scheduled_from run is)
from_ordered run [] p = subst (Ordered (run ++ [])) (append-nil (scheduled_run run)) (ordered run (scheduled_run run) [] [] p (scheduled_reorders run) rest_ends)
from_ordered run (i ∷ is) p = by (is_plain i.op) refl
    (λ q. subst (λ l. Ordered l (scheduled_from (run ++ i ∷ []) is)) (line_append run i is) (from_ordered (run ++ i ∷ []) is q)) (from_ordered [] is refl)
  where
    by : (b : Bool) → is_plain i.op ≡ b → (are_plain (run ++ i ∷ []) ≡ true → Ordered (run ++ i ∷ is) (scheduled_from (run ++ i ∷ []) is)) →
        Ordered is (scheduled_from [] is) →
        Ordered (run ++ i ∷ is) (cond b (scheduled_from (run ++ i ∷ []) is) (scheduled_run run ++ i ∷ scheduled_from [] is))
    by true q more rest = more (plain_both run (i ∷ []) p (and_both (is_plain i.op) true q refl))
    by false q more rest = line_then run i p q rest

pub scheduled_ordered : (code : List Line) → Ordered code (scheduled code)
scheduled_ordered code = from_ordered [] code refl
