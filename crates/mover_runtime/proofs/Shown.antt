-- What the arguments of a call show, one after the other.
use Rattle.std.proofs.Common.{◌≡◌, ℕ, suc, ◌+◌, ◌<◌, ◌≤◌, List, [], ◌∷◌, ◌++◌, length, drop, take, get_or, ap, arith, ◌∙◌, sym, append-nil, append_assoc}
use Rattle.std.specs.Prelude.{codes}
use Rattle.std.proofs.Math.ListN.{set}
use Rattle.std.proofs.Math.Seq.{drop-cons, take-suc-set}
use Rattle.std.proofs.lemmas.List.{drop_all}
use Rattle.bs_words.specs.declared.types.Comp.{Comp}
use Rattle.bs_words.specs.declared.types.Comp.TheVariants.{Int}
use Rattle.bs_words.specs.declared.values.Obs.{Obs}
use Rattle.bs_words.specs.declared.values.Obs.TheVariants.{Word}
use Rattle.rv_machine.specs.Hart.{Hart, register}
use Rattle.rv_machine.specs.Observation.{observed_word}
use Rattle.rv_machine.specs.Services.{arguments_from}
use Rattle.rv_machine.specs.Text.{obs_text, shown_text}

-- ---- what is seen, kept in places

pub one_observed : (comps items : List Comp) (k word : ℕ) (obs : Obs) (shown : List Obs) (h : Hart) → items ≡ comps → k < length items → k < length shown
    → word ≡ register h (10 + k) → obs ≡ observed_word h (get_or items k Int) word
    → take k shown ++ arguments_from (10 + k) (drop k comps) h ≡ take (k + 1) (set shown k obs) ++ arguments_from (10 + (k + 1)) (drop (k + 1) comps) h
one_observed comps items k word obs shown h e i j w o =
    let n : suc k ≡ k + 1 = omega arith in
    let m : suc (10 + k) ≡ 10 + (k + 1) = omega arith in
    ap (λ (cs : List Comp). take k shown ++ arguments_from (10 + k) (drop k cs) h) (sym e)
    ∙ ap (λ (cs : List Comp). take k shown ++ arguments_from (10 + k) cs h) (drop-cons items k Int i)
    ∙ ap (λ (x : Obs). take k shown ++ x ∷ arguments_from (suc (10 + k)) (drop (suc k) items) h) (sym (o ∙ ap (observed_word h (get_or items k Int)) w))
    ∙ sym (append_assoc (take k shown) (obs ∷ []) (arguments_from (suc (10 + k)) (drop (suc k) items) h))
    ∙ ap (λ (xs : List Obs). xs ++ arguments_from (suc (10 + k)) (drop (suc k) items) h) (sym (take-suc-set shown k obs j))
    ∙ ap (λ (cs : List Comp). take (suc k) (set shown k obs) ++ arguments_from (suc (10 + k)) (drop (suc k) cs) h) e
    ∙ ap (λ (i : ℕ). take (suc k) (set shown k obs) ++ arguments_from i (drop (suc k) comps) h) m
    ∙ ap (λ (i : ℕ). take i (set shown k obs) ++ arguments_from (10 + (k + 1)) (drop i comps) h) n

pub all_observed : (comps : List Comp) (k : ℕ) (shown : List Obs) (h : Hart) → length comps ≤ k → k ≤ length comps
    → arguments_from 10 comps h ≡ take k shown ++ arguments_from (10 + k) (drop k comps) h → take (length comps) shown ≡ arguments_from 10 comps h
all_observed comps k shown h l m e =
    let same : length comps ≡ k = omega arith in
    ap (λ (i : ℕ). take i shown) same
    ∙ sym (e ∙ ap (λ (cs : List Comp). take k shown ++ arguments_from (10 + k) cs h) (drop_all k comps l) ∙ append-nil (take k shown))

-- ---- observations, one after the other

pub seen_next : (all : List Obs) (k : ℕ) → k < length all
    → shown_text (drop k all) ≡ (codes " " ++ obs_text (get_or all k (Word 0))) ++ shown_text (drop (k + 1) all)
seen_next all k i =
    let n : suc k ≡ k + 1 = omega arith in
    ap shown_text (drop-cons all k (Word 0) i)
    ∙ ap (λ (j : ℕ). (codes " " ++ obs_text (get_or all k (Word 0))) ++ shown_text (drop j all)) n

pub seen_all : (all : List Obs) (k : ℕ) (done : List ℕ) → length all ≤ k → done ++ shown_text (drop k all) ≡ done
seen_all all k done l = ap (λ (os : List Obs). done ++ shown_text os) (drop_all k all l) ∙ append-nil done
