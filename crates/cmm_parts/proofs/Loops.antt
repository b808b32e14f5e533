-- Steps of loops over tokens.
use Rattle.std.proofs.Common.{◌≡◌, ℕ, ◌≤◌, ◌<◌, suc, Bool, false, List, [], ◌∷◌, ◌++◌, length, map, sym, ap, subst, ◌∙◌, arith}
use Rattle.std.proofs.lemmas.List.{map-append, length-map}
use Rattle.cmm_lex.specs.Token.{TokenTree, token_view}
use Rattle.cmm_lex.specs.declared.token.Token as declared
use Rattle.cmm_grammar.specs.Rule.{Rule, Sort, Value}
use Rattle.cmm_grammar.specs.Reading.{Read, reading, reads, forms_below}
use Rattle.cmm_parts.specs.Results.{trees}
use Rattle.cmm_parts.proofs.Lengths.{Takes, shorter}
use Rattle.cmm_parts.proofs.Lists.{Going, going-on}

-- what was read leaves fewer tokens
pub read-shorter : {s : Sort} (r : Rule s) → Takes r → (d : ℕ) (source : List ℕ) (first : declared.Token) (more behind : List declared.Token) (a : Value s)
    → reads r d (trees source (first ∷ more)) ≡ Read a (trees source behind)
    → length behind ≤ length more
read-shorter {s} r takes d source first more behind a e =
    let l = shorter s r takes d (token_view source first) (trees source more) a (trees source behind) e in
    omega (arith, l, length-map more (token_view source), length-map behind (token_view source))

pub loop-shorter : {s : Sort} (r : Rule s) → Takes r → (d : ℕ) (source : List ℕ) (tokens : List declared.Token) (first : declared.Token) (more behind : List declared.Token) (a : Value s)
    → tokens ≡ first ∷ more
    → reads r d (trees source tokens) ≡ Read a (trees source behind)
    → length behind < length tokens
loop-shorter {s} r takes d source tokens first more behind a e h =
    let P : List declared.Token → Type 0 = λ v. reads r d (trees source v) ≡ Read a (trees source behind) in
    let l = read-shorter r takes d source first more behind a (subst P e h) in
    let n : length tokens ≡ suc (length more) = ap length e in
    omega (arith, l, n)

pub loop-on : {X : Type 0} {s : Sort} (view : X → Value s) (r : Rule s) → Takes r → (d : ℕ) (stop : TokenTree → Bool) (source : List ℕ) (whole : List TokenTree)
    (xs new : List X) (x : X) (tokens : List declared.Token) (first : declared.Token) (more behind : List declared.Token)
    → Going stop (reading r d (forms_below d)) whole (map view xs) (trees source tokens)
    → tokens ≡ first ∷ more
    → stop (token_view source first) ≡ false
    → reads r d (trees source tokens) ≡ Read (view x) (trees source behind)
    → new ≡ xs ++ x ∷ []
    → Going stop (reading r d (forms_below d)) whole (map view new) (trees source behind)
loop-on {X} {s} view r takes d stop source whole xs new x tokens first more behind g e f h p =
    let P : List declared.Token → Type 0 = λ v. Going stop (reading r d (forms_below d)) whole (map view xs) (trees source v) in
    let Q : List declared.Token → Type 0 = λ v. reads r d (trees source v) ≡ Read (view x) (trees source behind) in
    let h2 = subst Q e h in
    let l = shorter s r takes d (token_view source first) (trees source more) (view x) (trees source behind) h2 in
    let n = going-on stop (reading r d (forms_below d)) whole (map view xs) (token_view source first) (trees source more) (subst P e g) f (view x) (trees source behind) h2 l in
    let R : List (Value s) → Type 0 = λ v. Going stop (reading r d (forms_below d)) whole v (trees source behind) in
    subst R (sym (ap (map view) p ∙ map-append view xs (x ∷ []))) n
