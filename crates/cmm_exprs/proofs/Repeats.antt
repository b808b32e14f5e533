-- Steps of loops over tokens whose parts say whether another follows.
use Rattle.std.proofs.Common.{◌≡◌, ℕ, ◌<◌, Bool, true, false, List, [], ◌∷◌, ◌++◌, length, map, ap, ◌∙◌, suc, arith}
use Rattle.std.proofs.lemmas.List.{length-map}
use Rattle.cmm_lex.specs.Token.{TokenTree, token_view}
use Rattle.cmm_lex.specs.declared.token.Token as declared
use Rattle.cmm_grammar.specs.Rule.{Rule, Sort, Value}
use Rattle.cmm_grammar.specs.Reading.{Read, some_of, reading, reads, forms_below}
use Rattle.cmm_parts.specs.Results.{trees}
use Rattle.cmm_exprs.specs.Results.{marked_parts}
use Rattle.cmm_parts.proofs.Lengths.{Takes}
use Rattle.cmm_exprs.proofs.Repeating.{Repeating}
use Rattle.cmm_exprs.proofs.Steps.{shortened, repeating_push, repeating_done}

-- what was read leaves fewer tokens
pub repeat-shorter : {s : Sort} (r : Rule s) → Takes r → (d : ℕ) (source : List ℕ) (tokens behind : List declared.Token) (a : Value s)
    → reads r d (trees source tokens) ≡ Read a (trees source behind)
    → length behind < length tokens
repeat-shorter {s} r takes d source tokens behind a e =
    let l = shortened s r takes d (trees source tokens) a (trees source behind) e in
    omega (arith, l, length-map tokens (token_view source), length-map behind (token_view source))

-- a part that another follows
pub repeat-on : {X : Type 0} {s : Sort} (part : Bool → X → Value s) (more : Value s → Bool) (r : Rule s) → Takes r → (d : ℕ) (source : List ℕ) (whole : List TokenTree)
    (old new : List X) (x : X) (goes_on : Bool) (tokens behind : List declared.Token)
    → Repeating more (reading r d (forms_below d)) whole (map (part true) old) (trees source tokens)
    → reads r d (trees source tokens) ≡ Read (part goes_on x) (trees source behind)
    → goes_on ≡ true
    → more (part true x) ≡ true
    → new ≡ old ++ x ∷ []
    → Repeating more (reading r d (forms_below d)) whole (map (part true) new) (trees source behind)
repeat-on {X} {s} part more r takes d source whole old new x goes_on tokens behind g e h m p =
    let read : reads r d (trees source tokens) ≡ Read (part true x) (trees source behind) = e ∙ ap (λ (b : Bool). Read (part b x) (trees source behind)) h in
    let l = shortened s r takes d (trees source tokens) (part true x) (trees source behind) read in
    repeating_push more (reading r d (forms_below d)) whole (part true) old new x (trees source tokens) (trees source behind) g read m p l

-- the last part
pub repeat-end : {X : Type 0} {s : Sort} (part : Bool → X → Value s) (more : Value s → Bool) (r : Rule s) (d : ℕ) (source : List ℕ) (whole : List TokenTree)
    (old new : List X) (x : X) (goes_on : Bool) (tokens behind : List declared.Token)
    → Repeating more (reading r d (forms_below d)) whole (map (part true) old) (trees source tokens)
    → reads r d (trees source tokens) ≡ Read (part goes_on x) (trees source behind)
    → goes_on ≡ false
    → more (part false x) ≡ false
    → new ≡ old ++ x ∷ []
    → some_of more (reading r d (forms_below d)) (suc (length whole)) whole ≡ Read (marked_parts part new) (trees source behind)
repeat-end part more r d source whole old new x goes_on tokens behind g e h m p =
    let read : reads r d (trees source tokens) ≡ Read (part false x) (trees source behind) = e ∙ ap (λ (b : Bool). Read (part b x) (trees source behind)) h in
    repeating_done more (reading r d (forms_below d)) whole part old new x (trees source tokens) (trees source behind) g read m p
