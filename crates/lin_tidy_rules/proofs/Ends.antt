-- Ends of a function's code, and the labels in them.
use Rattle.std.proofs.Common.{◌≡◌, ◌≢◌, ℕ, ◌≤◌, Bool, true, false, cond, nat_eq, ◌⊎◌, ⊎_elim, List, [], ◌∷◌, ◌++◌, length, refl, sym, ap, ◌∙◌, subst, arith}
use Rattle.std.proofs.lemmas.Bool.{true≢false, eq-eqb, eqb-true}
use Rattle.std.specs.List.{AllPairs}
use Rattle.lin_ir.specs.Formed.{label_of, labels_in, bare_flow}
use Rattle.lin_ir.specs.Meaning.{has_label, after_label}
use Rattle.lin_ir.specs.declared.lin.Flow.TheVariants as flow
use Rattle.lin_ir.specs.declared.lin.LinOp.{LinOp}
use Rattle.lin_ir.specs.declared.lin.LinOp.TheVariants as lin
use Rattle.lin_ir.specs.declared.lin.Line.{Line}
use Rattle.linearise_rules.proofs.Homes.{IsIn, is_first, is_later}
use Rattle.linearise_rules.proofs.Marks.{all_in, Differ}
use Rattle.linearise_rules.proofs.Walked.{Tail, tail_all, tail_more, later_label}
use Rattle.bs_words.proofs.Lists.{pairs_here, pairs_later}
use Rattle.lin_tidy_rules.proofs.Shape.{compare}

-- ---- ends of a list

pub tail_then : {a b zs : List Line} → Tail a b → Tail b zs → Tail a zs
tail_then s tail_all = s
tail_then s (tail_more t) = tail_more (tail_then s t)

pub tail_length : {a b : List Line} → Tail a b → length a ≤ length b
tail_length tail_all = omega arith
tail_length (tail_more t) = let le = tail_length t in omega (arith, le)

pub whole_tail : {a b : List Line} → Tail a b → length b ≤ length a → a ≡ b
whole_tail tail_all le = refl
whole_tail (tail_more t) le = let more = tail_length t in absurd (omega (arith, le, more))

-- ends of one length are the same
pub same_tail : {a b zs : List Line} → Tail a zs → Tail b zs → length a ≡ length b → a ≡ b
same_tail {a} {b} s t e = ⊎_elim (λ u. whole_tail u (omega (arith, e))) (λ u. sym (whole_tail u (omega (arith, e)))) (compare s t)

pub label_is : (l : ℕ) (f : LinOp) → has_label l f ≡ true → label_of f ≡ l ∷ []
label_is l (lin.Op f) e = absurd (true≢false (sym e))
label_is l (lin.Flow (flow.Label k)) e = ap (λ k. k ∷ []) (eqb-true k l e)
label_is l (lin.Flow (flow.Jump k)) e = absurd (true≢false (sym e))
label_is l (lin.Flow (flow.Exit k)) e = absurd (true≢false (sym e))
label_is l (lin.Flow (flow.Branch t k)) e = absurd (true≢false (sym e))
label_is l (lin.Flow (flow.Switch ls)) e = absurd (true≢false (sym e))
label_is l (lin.Flow (flow.PushTrap k)) e = absurd (true≢false (sym e))
label_is l (lin.Flow flow.PopTrap) e = absurd (true≢false (sym e))
label_is l (lin.Flow flow.EnterTrap) e = absurd (true≢false (sym e))

pub pairs_past : (ks ls : List ℕ) → AllPairs Differ (ks ++ ls) → AllPairs Differ ls
pairs_past [] ls h = h
pairs_past (k ∷ ks) ls h = pairs_past ks ls (pairs_later Differ k (ks ++ ls) h)

-- where labels occur once, what is after one is what is after it from any place before it on
pub later_after : (l : ℕ) {ys zs : List Line} → Tail ys zs → AllPairs Differ (labels_in zs) → IsIn l (labels_in ys) → after_label l zs ≡ after_label l ys
later_after l tail_all once z = refl
later_after l {ys} (tail_more {j = j} {zs = zs} t) once z = by (has_label l j.op) refl (later_after l t (pairs_past (label_of j.op) (labels_in zs) once) z)
  where
    out : has_label l j.op ≡ true → ⊥
    out e =
        let h : AllPairs Differ (l ∷ labels_in zs) = subst (λ ks. AllPairs Differ (ks ++ labels_in zs)) (label_is l j.op e) once in
        all_in (Differ l) (pairs_here Differ l (labels_in zs) h) (later_label t z) refl

    by : (b : Bool) → has_label l j.op ≡ b → after_label l zs ≡ after_label l ys → cond b zs (after_label l zs) ≡ after_label l ys
    by true e u = absurd (out e)
    by false e u = u

-- right after a label that occurs once is what is after it
pub at_label : (l : ℕ) {js zs : List Line} → Tail (bare_flow (flow.Label l) ∷ js) zs → AllPairs Differ (labels_in zs) → after_label l zs ≡ js
at_label l {js} w once = later_after l w once is_first ∙ ap (λ b. cond b js (after_label l js)) (eq-eqb l l refl)

one_in : (l k : ℕ) → IsIn l (k ∷ []) → nat_eq k l ≡ true
one_in l k is_first = eq-eqb l l refl
one_in l k (is_later z) = elim z [ ]

pub has_own_label : (l : ℕ) (f : LinOp) → IsIn l (label_of f) → has_label l f ≡ true
has_own_label l (lin.Op f) z = elim z [ ]
has_own_label l (lin.Flow (flow.Label k)) z = one_in l k z
has_own_label l (lin.Flow (flow.Jump k)) z = elim z [ ]
has_own_label l (lin.Flow (flow.Exit k)) z = elim z [ ]
has_own_label l (lin.Flow (flow.Branch t k)) z = elim z [ ]
has_own_label l (lin.Flow (flow.Switch ls)) z = elim z [ ]
has_own_label l (lin.Flow (flow.PushTrap k)) z = elim z [ ]
has_own_label l (lin.Flow flow.PopTrap) z = elim z [ ]
has_own_label l (lin.Flow flow.EnterTrap) z = elim z [ ]

-- ---- joined lists

pub tail_past : {ys : List Line} (xs : List Line) → Tail ys (xs ++ ys)
tail_past [] = tail_all
tail_past (x ∷ xs) = tail_more (tail_past xs)
