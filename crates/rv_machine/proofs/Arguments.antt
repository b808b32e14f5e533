-- The words of arguments, as they are put one by one into the argument registers.
use Rattle.std.proofs.Common.{◌≡◌, ◌≢◌, ℕ, zero, suc, ◌+◌, ◌-◌, ◌<◌, ◌≤◌, List, [], ◌∷◌, ◌++◌, length, take, drop, get_or, Option, Some, None, option_map, refl, ap, arith, ◌∙◌, sym, append_assoc, append-nil}
use Rattle.std.proofs.Math.ListN.{replicate, set}
use Rattle.std.proofs.Math.Seq.{drop-cons, take-suc-set}
use Rattle.std.proofs.lemmas.List.{drop-set-lt, drop_all}
use Rattle.bs_words.specs.declared.types.Comp.{Comp}
use Rattle.image_form.specs.Tables.{Tables}
use Rattle.rv_machine.specs.Start.{padded}
use Rattle.rv_machine.specs.Loading.{words_of_args, before_words, suited}
use Rattle.rv_machine.specs.declared.setup.Arg.{Arg}

before_none : (word : Option ℕ) → before_words word None ≡ None
before_none None = refl
before_none (Some w) = refl

pub words_of_other_length : (image : Tables) (comps : List Comp) (args : List Arg) → length args ≢ length comps → words_of_args image comps args ≡ None
words_of_other_length image [] [] h = absurd (h refl)
words_of_other_length image [] (arg ∷ args) h = refl
words_of_other_length image (comp ∷ comps) [] h = refl
words_of_other_length image (comp ∷ comps) (arg ∷ args) h =
    let rest : words_of_args image comps args ≡ None = words_of_other_length image comps args (λ e. h (ap suc e)) in
    ap (before_words (suited image comp arg)) rest ∙ before_none (suited image comp arg)

-- ---- one word more

at : {X : Type 0} (xs : List X) (i : ℕ) (x : X) → i < length xs → x ≡ get_or xs i x → drop i xs ≡ x ∷ drop (suc i) xs
at xs i x h e = drop-cons xs i x h ∙ ap (λ y. y ∷ drop (suc i) xs) (sym e)

moved : (found : List ℕ) (w : ℕ) (rest : Option (List ℕ))
    → option_map (λ (ws : List ℕ). found ++ ws) (before_words (Some w) rest) ≡ option_map (λ (ws : List ℕ). (found ++ w ∷ []) ++ ws) rest
moved found w None = refl
moved found w (Some r) = ap Some (sym (append_assoc found (w ∷ []) r))

pub next_word : (image : Tables) (comps : List Comp) (args : List Arg) (words : List ℕ) (k w : ℕ) (comp : Comp) (arg : Arg)
    → k < length args → k < length comps → k < length words → comp ≡ get_or comps k comp → arg ≡ get_or args k arg
    → suited image comp arg ≡ Some w
    → option_map (λ (ws : List ℕ). take k words ++ ws) (words_of_args image (drop k comps) (drop k args))
    ≡ option_map (λ (ws : List ℕ). take (k + 1) (set words k w) ++ ws) (words_of_args image (drop (k + 1) comps) (drop (k + 1) args))
next_word image comps args words k w comp arg ha hc hw ec ea s =
    let n : suc k ≡ k + 1 = omega arith in
    ap (λ (cs : List Comp). option_map (λ (ws : List ℕ). take k words ++ ws) (words_of_args image cs (drop k args))) (at comps k comp hc ec)
    ∙ ap (λ (as' : List Arg). option_map (λ (ws : List ℕ). take k words ++ ws) (words_of_args image (comp ∷ drop (suc k) comps) as')) (at args k arg ha ea)
    ∙ ap (λ (o : Option ℕ). option_map (λ (ws : List ℕ). take k words ++ ws) (before_words o (words_of_args image (drop (suc k) comps) (drop (suc k) args)))) s
    ∙ moved (take k words) w (words_of_args image (drop (suc k) comps) (drop (suc k) args))
    ∙ ap (λ (t : List ℕ). option_map (λ (ws : List ℕ). t ++ ws) (words_of_args image (drop (suc k) comps) (drop (suc k) args))) (sym (take-suc-set words k w hw))
    ∙ ap (λ (m : ℕ). option_map (λ (ws : List ℕ). take m (set words k w) ++ ws) (words_of_args image (drop m comps) (drop m args))) n

-- the places after the words found are free
tail_of : (x y : ℕ) (xs ys : List ℕ) → x ∷ xs ≡ y ∷ ys → xs ≡ ys
tail_of x y xs ys e = cc

pub still_free : (words : List ℕ) (k w : ℕ) → k < length words → k < 16 → drop k words ≡ replicate (16 - k) 0
    → drop (k + 1) (set words k w) ≡ replicate (16 - (k + 1)) 0
still_free words k w hw h e =
    let n : k + 1 ≡ suc k = omega arith in
    let m : 16 - k ≡ suc (16 - (k + 1)) = omega arith in
    let behind : k < k + 1 = omega arith in
    let cut : get_or words k 0 ∷ drop (suc k) words ≡ 0 ∷ replicate (16 - (k + 1)) 0 =
    sym (drop-cons words k 0 hw) ∙ e ∙ ap (λ (c : ℕ). replicate c 0) m in
    drop-set-lt (k + 1) words k w behind ∙ ap (λ (i : ℕ). drop i words) n ∙ tail_of _ _ _ _ cut

-- ---- all words

pub padded_all : (count n : ℕ) (words : List ℕ) → length words ≡ count → n ≤ count → drop n words ≡ replicate (count - n) 0 → padded count (take n words) ≡ words
padded_all zero n [] l h e = refl
padded_all zero n (w ∷ words) l h e = absurd (omega arith)
padded_all (suc count) n [] l h e = absurd (omega arith)
padded_all (suc count) zero (w ∷ words) l h e =
    let z : suc count - 0 ≡ suc count = omega arith in
    let all : w ∷ words ≡ 0 ∷ replicate count 0 = e ∙ ap (λ (c : ℕ). replicate c 0) z in
    let rest : words ≡ replicate count 0 = tail_of _ _ _ _ all in
    let first : 0 ≡ w = cc in
    let less : count ≡ count - 0 = omega arith in
    let more : padded count [] ≡ words = padded_all count zero words (omega arith) (omega arith) (rest ∙ ap (λ (c : ℕ). replicate c 0) less) in
    ap (λ (v : ℕ). v ∷ padded count []) first ∙ ap (λ (ws : List ℕ). w ∷ ws) more
padded_all (suc count) (suc n) (w ∷ words) l h e =
    let m : suc count - suc n ≡ count - n = omega arith in
    ap (λ (ws : List ℕ). w ∷ ws) (padded_all count n words (omega arith) (omega arith) (e ∙ ap (λ (c : ℕ). replicate c 0) m))

pub all_words : (image : Tables) (comps : List Comp) (args : List Arg) (words : List ℕ) (k : ℕ)
    → length args ≤ k → length comps ≤ k → k ≤ 16 → length words ≡ 16 → drop k words ≡ replicate (16 - k) 0
    → words_of_args image comps args ≡ option_map (λ (ws : List ℕ). take k words ++ ws) (words_of_args image (drop k comps) (drop k args))
    → Some words ≡ option_map (padded 16) (words_of_args image comps args)
all_words image comps args words k ha hc h l free rest =
    sym (ap (option_map (padded 16))
    (rest ∙ ap (λ (cs : List Comp). option_map (λ (ws : List ℕ). take k words ++ ws) (words_of_args image cs (drop k args))) (drop_all k comps hc)
    ∙ ap (λ (as' : List Arg). option_map (λ (ws : List ℕ). take k words ++ ws) (words_of_args image [] as')) (drop_all k args ha))
    ∙ ap Some (ap (padded 16) (append-nil (take k words)) ∙ padded_all 16 k words l h free))
