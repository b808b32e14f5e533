-- Runs of numbers, and places of labels.
use Rattle.std.proofs.Common.{◌≡◌, ℕ, zero, suc, ◌+◌, Bool, true, false, cond, List, ◌∷◌, ◌++◌, [], map, refl, sym, ap, ◌∙◌, subst, arith, append_assoc}
use Rattle.std.proofs.lemmas.List.{append-nil}
use Rattle.mach_ir.specs.Acts.{At}
use Rattle.lin_ir.specs.Meaning.{after_label, has_label}
use Rattle.lin_ir.specs.Walks.{targets}
use Rattle.lin_ir.specs.declared.lin.Flow.{Flow}
use Rattle.lin_ir.specs.declared.lin.Flow.TheVariants as flow
use Rattle.lin_ir.specs.declared.lin.LinOp.TheVariants as lin
use Rattle.lin_ir.specs.declared.lin.Line.{Line}
use Rattle.lin_ir.specs.declared.lin.Lin.{Lin}
use Rattle.lin_laws.specs.Graph.{line_index}
use Rattle.lin_laws.specs.Numbers.{consecutive_from}
use Rattle.lin_flow.specs.Labels.{line_of_label}
use Rattle.mach_ir.specs.Labels.{place_to}
use Rattle.lin_flow.specs.declared.labels.LineLabels.{LineLabels}

pub run_none : (a : ℕ) → consecutive_from a 0 ≡ []
unfolding consecutive_from
run_none a = refl

run_suc : (a n : ℕ) → consecutive_from a (suc n) ≡ consecutive_from a n ++ (a + n) ∷ []
unfolding consecutive_from
run_suc a zero = let e : a ≡ a + 0 = omega arith in ap (λ k. k ∷ []) e
run_suc a (suc n) =
    let e : suc a + n ≡ a + suc n = omega arith in
    ap (λ xs. a ∷ xs) (run_suc (suc a) n ∙ ap (λ k. consecutive_from (suc a) n ++ k ∷ []) e)

run_more : (a n : ℕ) → consecutive_from a (n + 1) ≡ consecutive_from a n ++ (a + n) ∷ []
run_more a n = let e : n + 1 ≡ suc n = omega arith in ap (consecutive_from a) e ∙ run_suc a n

pub run_begun : (xs : List ℕ) (a : ℕ) → xs ≡ xs ++ consecutive_from a 0
run_begun xs a = sym (ap (λ ys. xs ++ ys) (run_none a) ∙ append-nil xs)

pub run_pushed : (old items new : List ℕ) (a k : ℕ) → items ≡ old ++ consecutive_from a k → new ≡ items ++ (a + k) ∷ [] →
    new ≡ old ++ consecutive_from a (k + 1)
run_pushed old items new a k e f =
    f ∙ ap (λ xs. xs ++ (a + k) ∷ []) e ∙ append_assoc old (consecutive_from a k) ((a + k) ∷ []) ∙ ap (λ xs. old ++ xs) (sym (run_more a k))

-- the first label, of those of a line and of the lines after it
pub label_more : (m : Lin) (l p : ℕ) (i : Line) (next : List Line) → line_index m next ≡ p →
    line_index m (after_label l (i ∷ next)) ≡ cond (has_label l i.op) p (line_index m (after_label l next))
label_more m l p i next e = by (has_label l i.op)
  where
    by : (b : Bool) → line_index m (cond b next (after_label l next)) ≡ cond b p (line_index m (after_label l next))
    by true = e
    by false = refl

-- the places of labels
pub switch_done : (labels : LineLabels) (p : ℕ) (places ls slice : List ℕ) (f : Flow) → f ≡ flow.Switch ls → slice ≡ ls →
    ((p : ℕ) → places ≡ map (place_to (line_of_label labels) p) (map At slice)) → places ≡ map (place_to (line_of_label labels) p) (targets (lin.Flow f))
switch_done labels p places ls slice f e s h =
    subst (λ (g : Flow). places ≡ map (place_to (line_of_label labels) p) (targets (lin.Flow g))) (sym e)
    (subst (λ xs. places ≡ map (place_to (line_of_label labels) p) (map At xs)) s (h p))
