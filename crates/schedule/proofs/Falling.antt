-- A line of a run is higher than what depends on it.
use Rattle.std.proofs.Common.{◌≡◌, ℕ, ◌<◌, ◌≤◌, ⊎_elim, Bool, true, false, cond, max, List, [], ◌∷◌, ◌++◌, sym, ap, subst, arith}
use Rattle.std.specs.List.{Contains}
use Rattle.std.proofs.lemmas.List.Elements.{Contains-append_left, Contains-append_right, Contains-append_cases}
use Rattle.bs_words.specs.declared.operators.IntOp.{IntOp}
use Rattle.bs_words.specs.declared.operators.IntOp.TheVariants as operator
use Rattle.bs_words.proofs.Lists.{none_in, first_in, later_in, in_cons}
use Rattle.mach_ir.specs.declared.op.CopyKind.TheVariants as copy
use Rattle.mach_ir.specs.declared.op.Pure.{Pure}
use Rattle.mach_ir.specs.declared.op.Pure.TheVariants as pure
use Rattle.mach_ir.specs.declared.op.Access.TheVariants as access
use Rattle.mach_ir.specs.declared.op.Op.TheVariants as op
use Rattle.lin_ir.specs.declared.lin.LinOp.{LinOp}
use Rattle.lin_ir.specs.declared.lin.LinOp.TheVariants as lin
use Rattle.lin_ir.specs.declared.lin.Line.{Line}
use Rattle.schedule_rules.specs.Straight.{depends, weight_of_operator, weight_of_pure, weight_of_line, Ranked, highest_after, ranked}

-- ---- each line weighs something

operator_weighs : (f : IntOp) → 1 ≤ weight_of_operator f
operator_weighs operator.Mul = omega arith
operator_weighs operator.Mulh = omega arith
operator_weighs operator.Div = omega arith
operator_weighs operator.Mod = omega arith
operator_weighs _ = omega arith

pure_weighs : (f : Pure) → 1 ≤ weight_of_pure f
pure_weighs (pure.Copy copy.Reload) = omega arith
pure_weighs (pure.Operator f r) = operator_weighs f
pure_weighs _ = omega arith

weighs : (o : LinOp) → 1 ≤ weight_of_line o
weighs (lin.Op (op.Pure f)) = pure_weighs f
weighs (lin.Op (op.Access (access.Load k offset))) = omega arith
weighs _ = omega arith

-- ---- those that depend on a line are lower

as_high : (i : Line) (rs : List Ranked) (q : Ranked) → Contains rs q → depends q.line i ≡ true → q.height ≤ highest_after i rs
as_high i [] q c d = absurd (none_in q c)
as_high i (r ∷ rs) q c d =
    ⊎_elim (λ e. here (depends r.line i) (subst (λ (k : Ranked). depends k.line i ≡ true) (sym e) d) (ap (λ (k : Ranked). k.height) e))
    (λ later. let le = as_high i rs q later d in more (cond (depends r.line i) r.height 0) le) (in_cons r q rs c)
  where
    here : (b : Bool) → b ≡ true → r.height ≡ q.height → q.height ≤ max (cond b r.height 0) (highest_after i rs)
    here true t e = omega (arith, e)
    here false t e = absurd (cc)

    more : (n : ℕ) → q.height ≤ highest_after i rs → q.height ≤ max n (highest_after i rs)
    more n le = omega (arith, le)

-- of two the later is lower, where it depends on the earlier
abbrev pub Fall : List Ranked → Type 0
Fall [] = Unit {0}
Fall (r ∷ rs) = ((q : Ranked) → Contains rs q → depends q.line r.line ≡ true → q.height < r.height) × Fall rs

pub ranked_fall : (is : List Line) → Fall (ranked is)
ranked_fall [] = tt
ranked_fall (i ∷ is) = (λ q c d. let le = as_high i (ranked is) q c d in let w = weighs i.op in omega (arith, le, w), ranked_fall is)

-- ---- of some of them too

pub left_of_it : (before : List Ranked) (r : Ranked) (after : List Ranked) → Fall (before ++ r ∷ after) →
    (b : Ranked) → Contains before b → depends r.line b.line ≡ true → r.height < b.height
left_of_it [] r after f b c d = absurd (none_in b c)
left_of_it (x ∷ xs) r after f b c d =
    ⊎_elim (λ e. subst (λ (k : Ranked). r.height < k.height) e
    (f.0 r (Contains-append_right xs (r ∷ after) r (first_in r after)) (subst (λ (k : Ranked). depends r.line k.line ≡ true) (sym e) d)))
    (λ later. left_of_it xs r after f.1 b later d) (in_cons x b xs c)

pub without_it : (before : List Ranked) (r : Ranked) (after : List Ranked) → Fall (before ++ r ∷ after) → Fall (before ++ after)
without_it [] r after f = f.1
without_it (x ∷ xs) r after f = (λ q c d. f.0 q (wider q c) d, without_it xs r after f.1)
  where
    wider : (q : Ranked) → Contains (xs ++ after) q → Contains (xs ++ r ∷ after) q
    wider q c =
        ⊎_elim (λ d. Contains-append_left xs (r ∷ after) q d) (λ d. Contains-append_right xs (r ∷ after) q (later_in r q after d))
        (Contains-append_cases xs after q c)
