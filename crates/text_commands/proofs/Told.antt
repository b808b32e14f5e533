-- Lines, one by one.
use Rattle.std.proofs.Common.{◌≡◌, ℕ, suc, ◌+◌, ◌<◌, List, ◌∷◌, ◌++◌, length, drop, get_or, map, codes, sym, ap, ◌∙◌, arith, append_assoc}
use Rattle.std.proofs.Math.Seq.{drop-cons}
use Rattle.bs_words.specs.declared.values.Obs.{Obs}
use Rattle.bs_words.specs.declared.values.Call.{Call}
use Rattle.eval_frames.specs.Views.{call_view}
use Rattle.rv_machine.specs.Text.{obs_text, shown_text, made_text, calls_text}
use Rattle.text_commands.proofs.Rows.{map_rest}

pub shown-more : (old new middle : List ℕ) (shown : List Obs) (k : ℕ) (o : Obs) (whole : List ℕ)
    → k < length shown → o ≡ get_or shown k o
    → whole ≡ old ++ shown_text (drop k shown)
    → middle ≡ old ++ codes " "
    → new ≡ middle ++ obs_text o
    → whole ≡ new ++ shown_text (drop (k + 1) shown)
shown-more old new middle shown k o whole h is so space then =
    let next : suc k ≡ k + 1 = omega arith in
    let here : drop k shown ≡ o ∷ drop (k + 1) shown = drop-cons shown k o h ∙ ap (λ (y : Obs). y ∷ drop (suc k) shown) (sym is) ∙ ap (λ n. o ∷ drop n shown) next in
    let rest = shown_text (drop (k + 1) shown) in
    so ∙ ap (λ l. old ++ shown_text l) here
    ∙ ap (λ l. old ++ l) (append_assoc (codes " ") (obs_text o) rest)
    ∙ sym (append_assoc old (codes " ") (obs_text o ++ rest))
    ∙ sym (append_assoc (old ++ codes " ") (obs_text o) rest)
    ∙ ap (λ l. (l ++ obs_text o) ++ rest) (sym space)
    ∙ ap (λ l. l ++ rest) (sym then)

parts : (o a b c r : List ℕ) → o ++ (((a ++ b) ++ c) ++ r) ≡ (((o ++ a) ++ b) ++ c) ++ r
parts o a b c r = simp append_assoc

pub calls-more : (old a b new : List ℕ) (calls : List Call) (k : ℕ) (c : Call) (whole : List ℕ)
    → k < length calls → c ≡ get_or calls k c
    → whole ≡ old ++ calls_text (map call_view (drop k calls))
    → a ≡ old ++ codes "call "
    → b ≡ a ++ made_text (call_view c)
    → new ≡ b ++ codes "\n"
    → whole ≡ new ++ calls_text (map call_view (drop (k + 1) calls))
calls-more old a b new calls k c whole h is so first second third =
    let rest = calls_text (map call_view (drop (k + 1) calls)) in
    let made = made_text (call_view c) in
    so ∙ ap (λ l. old ++ calls_text l) (map_rest call_view calls k c h is)
    ∙ parts old (codes "call ") made (codes "\n") rest
    ∙ ap (λ l. ((l ++ made) ++ codes "\n") ++ rest) (sym first)
    ∙ ap (λ l. (l ++ codes "\n") ++ rest) (sym second)
    ∙ ap (λ l. l ++ rest) (sym third)
