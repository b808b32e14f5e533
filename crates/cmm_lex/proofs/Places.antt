-- How far a text is cut.
use Rattle.std.proofs.Common.{◌≡◌, ℕ, ◌+◌, ◌-◌, ◌≤◌, ◌<◌, Bool, true, false, cond, ◌⊎◌, List, [], ◌∷◌, ◌++◌, length, take, drop, map, Option, Some, None, refl, sym, ap, subst, ◌∙◌, inl, inr, arith, length-append, append_assoc, append-nil}
use Rattle.std.specs.Option.{option_or}
use Rattle.std.proofs.Math.Seq.{drop-append_seam, take-append_seam}
use Rattle.bs_fault.specs.declared.fault.Fault.{Fault}
use Rattle.bs_fault.specs.declared.fault.Fault.TheVariants.{BadToken, IntRange}
use Rattle.cmm_lex.specs.declared.token.Token as declared
use Rattle.cmm_lex.specs.declared.token.TokenKind.{TokenKind}
use Rattle.cmm_lex.specs.declared.token.TokenKind.TheVariants as kind
use Rattle.cmm_lex.specs.Enclosed.{BeginsWith, AComment, opening}
use Rattle.cmm_lex.specs.Lexing.{IsGap, separator, comment, in_braces, IsFault, no_token, bad_escape, unclosed, Splits, gap, token, ended, first_range, is_out_of_range, end_of}
use Rattle.cmm_lex.specs.Scanning.{GapTo, TokenTo, range_of}
use Rattle.cmm_lex.specs.Token.{TokenTree, token_view}
use Rattle.cmm_lex.specs.Tokens.{IsToken, Longest}
use Rattle.cmm_lex.specs.Automaton.{accepts}
use Rattle.cmm_lex.specs.Strings.{IsString}
use Rattle.cmm_lex.specs.declared.state.Shape.{Shape}
use Rattle.cmm_lex.specs.declared.state.State.TheVariants.{Start}
use Rattle.cmm_lex.proofs.Spelled.{Accepted, accepted-token}
use Rattle.cmm_lex.proofs.Fronts.{bad-within}

-- the rest of a text, and the bytes before it
pub record Place (text : List ℕ) (at : ℕ) (rest : List ℕ) : Type 0 where
  pub front : List ℕ
  pub whole : text ≡ front ++ rest
  pub len : length front ≡ at

pub place-start : (text : List ℕ) → Place text 0 text
place-start text = record { front = []; whole = refl; len = refl }

pub place-on : (text : List ℕ) (at n : ℕ) (rest more behind : List ℕ)
    → Place text at rest
    → rest ≡ more ++ behind
    → length more ≡ n
    → Place text (at + n) behind
place-on text at n rest more behind p cut size =
    let len = p.len in
    record {
      front = p.front ++ more;
      whole = p.whole ∙ ap (λ (v : List ℕ). p.front ++ v) cut ∙ sym (append_assoc p.front more behind);
      len = omega (arith, length-append p.front more, len, size);
    }

pub place-room : (text : List ℕ) (at : ℕ) (rest : List ℕ) → Place text at rest → at + length rest ≡ length text
place-room text at rest p =
    let size : length text ≡ length (p.front ++ rest) = ap length p.whole in
    let len = p.len in
    omega (arith, size, length-append p.front rest)

-- the length of what is before the rest
pub cut-length : (bytes more behind : List ℕ) → bytes ≡ more ++ behind → length more ≡ length bytes - length behind
cut-length bytes more behind cut =
    let size : length bytes ≡ length (more ++ behind) = ap length cut in
    omega (arith, size, length-append more behind)

pub cut-shorter : (bytes more behind : List ℕ) → bytes ≡ more ++ behind → length behind ≤ length bytes
cut-shorter bytes more behind cut =
    let size : length bytes ≡ length (more ++ behind) = ap length cut in
    omega (arith, size, length-append more behind)

-- the slice of a text from a place on
pub slice-is : (text : List ℕ) (at n : ℕ) (rest more behind : List ℕ)
    → Place text at rest
    → rest ≡ more ++ behind
    → length more ≡ n
    → take (at + n - at) (drop at text) ≡ more
slice-is text at n rest more behind p cut size =
    let len = p.len in
    let dropped : drop at text ≡ rest =
    ap (drop at) p.whole ∙ ap (λ (m : ℕ). drop m (p.front ++ rest)) (sym p.len) ∙ drop-append_seam p.front rest
    in
    let count : at + n - at ≡ length more = omega (arith, size) in
    ap (λ (m : ℕ). take m (drop at text)) count
    ∙ ap (take (length more)) (dropped ∙ cut)
    ∙ take-append_seam more behind

-- ---- steps of a split

pub gap-on : (at n : ℕ) (rest behind : List ℕ) (ts : List TokenTree) (f : Option Fault)
    → (h : GapTo rest behind)
    → length h.text ≡ n
    → Splits (at + n) behind ts f
    → Splits at rest ts f
gap-on at n rest behind ts f h size s =
    subst (λ (v : List ℕ). Splits at v ts f) (sym h.whole)
    (gap at h.text behind ts f h.is_gap (subst (λ (m : ℕ). Splits (at + m) behind ts f) (sym size) s))

pub token-on : (at n : ℕ) (rest behind text : List ℕ) (k : TokenKind) (ts : List TokenTree) (f : Option Fault)
    → (h : TokenTo rest k behind)
    → length h.text ≡ n
    → text ≡ h.text
    → Splits (at + n) behind ts f
    → Splits at rest (record { at = at; kind = k; text = text } ∷ ts) f
token-on at n rest behind text k ts f h size same s =
    subst (λ (v : List ℕ). Splits at rest (record { at = at; kind = k; text = v } ∷ ts) f) (sym same)
    (subst (λ (v : List ℕ). Splits at v (record { at = at; kind = k; text = h.text } ∷ ts) f) (sym h.whole)
    (token at k h.text behind ts f h.is_token
    (subst (λ (v : List ℕ). Longest (length h.text) v) h.whole h.longest)
    (subst (λ (v : List ℕ). BeginsWith v (opening AComment) → ⊥) h.whole h.no_comment)
    (subst (λ (m : ℕ). Splits (at + m) behind ts f) (sym size) s)))

pub push-view : (source : List ℕ) (tokens more : List declared.Token) (t : declared.Token) (ts : List TokenTree)
    → more ≡ tokens ++ t ∷ []
    → map (token_view source) more ++ ts ≡ map (token_view source) tokens ++ (token_view source t ∷ ts)
push-view source tokens more t ts e = ap (λ (v : List declared.Token). map (token_view source) v ++ ts) e ∙ go tokens
  where
    go : (xs : List declared.Token) → map (token_view source) (xs ++ t ∷ []) ++ ts ≡ map (token_view source) xs ++ (token_view source t ∷ ts)
    go [] = refl
    go (x ∷ xs) = ap (λ (v : List TokenTree). token_view source x ∷ v) (go xs)

pub range-push : (ts : List TokenTree) (t : TokenTree) → first_range (ts ++ t ∷ []) ≡ option_or (first_range ts) (range_of t.at t.kind t.text)
range-push [] t = refl
range-push (u ∷ us) t = at_test (is_out_of_range u.kind u.text) (range-push us t)
  where
    at_test : (b : Bool)
        → first_range (us ++ t ∷ []) ≡ option_or (first_range us) (range_of t.at t.kind t.text)
        → cond b (Some (IntRange u.at)) (first_range (us ++ t ∷ [])) ≡ option_or (cond b (Some (IntRange u.at)) (first_range us)) (range_of t.at t.kind t.text)
    at_test true e = refl
    at_test false e = e

-- ---- gaps and tokens have bytes; faults are in the text

pub gap-some : (text : List ℕ) → IsGap text → 1 ≤ length text
gap-some text (separator b is) = omega arith
gap-some text (comment inside ends) = omega arith
gap-some text (in_braces inside ends) = omega arith

start-none : (s : Shape) → accepts Start ≡ Some s → ⊥
unfolding accepts
start-none s e = cc

pub token-some : (k : TokenKind) (text : List ℕ) → IsToken k text → 1 ≤ length text
token-some k [] is = absurd (no_empty (accepted-token k [] tt is))
  where
    no_empty : ((k ≡ kind.String) × IsString []) ⊎ Accepted k [] → ⊥
    no_empty (inl s) = let e = s.1.1 in cc
    no_empty (inr a) = start-none a.shape a.accepted
token-some k (b ∷ bs) is = omega arith

place-of : (p q : ℕ) → BadToken p ≡ BadToken q → p ≡ q
place-of p q e = cc

bad-place : (offset at : ℕ) (bytes : List ℕ) (f : Fault) → IsFault at bytes f → f ≡ BadToken (at + offset) → offset < length bytes
bad-place offset at bytes f (no_token _ b bs x y z) e =
    let place = place-of at (at + offset) e in
    omega arith
bad-place offset at bytes f (bad_escape _ n inside rest ends bad) e =
    let place = place-of (at + 1 + n) (at + offset) e in
    let within = bad-within n inside bad in
    omega (arith, length-append inside rest)
bad-place offset at bytes f (unclosed _ e' bs x) e = cc

pub bad-token-within : (offset : ℕ) (bytes : List ℕ) → ((at : ℕ) → IsFault at bytes (BadToken (at + offset))) → offset < length bytes
bad-token-within offset bytes h = bad-place offset 0 bytes (BadToken (0 + offset)) (h 0) refl

-- ---- the lexer's loop

pub range-on : (source : List ℕ) (tokens more : List declared.Token) (t : declared.Token) (spelled : List ℕ) (range fault : Option Fault)
    → more ≡ tokens ++ t ∷ []
    → (token_view source t).text ≡ spelled
    → range ≡ first_range (map (token_view source) tokens)
    → fault ≡ range_of t.at t.kind spelled
    → option_or range fault ≡ first_range (map (token_view source) more)
range-on source tokens more t spelled range fault e same so_far last =
    let all : map (token_view source) more ≡ map (token_view source) tokens ++ (token_view source t ∷ []) =
    sym (append-nil (map (token_view source) more)) ∙ push-view source tokens more t [] e
    in
    let pushed = range-push (map (token_view source) tokens) (token_view source t) in
    ap (λ (v : Option Fault). option_or v fault) so_far
    ∙ ap (λ (v : Option Fault). option_or (first_range (map (token_view source) tokens)) v) (last ∙ ap (range_of t.at t.kind) (sym same))
    ∙ sym pushed
    ∙ ap first_range (sym all)

pub end-on : (source : List ℕ) (list items : List declared.Token) (f : Option Fault)
    → list ≡ items
    → Splits 0 source (map (token_view source) items ++ []) f
    → Splits 0 source (map (token_view source) list) f
end-on source list items f e s =
    subst (λ (v : List declared.Token). Splits 0 source (map (token_view source) v) f) (sym e)
    (subst (λ (v : List TokenTree). Splits 0 source v f) (append-nil (map (token_view source) items)) s)

pub ended-on : (at : ℕ) (rest : List ℕ) → length rest ≡ 0 → Splits at rest [] None
ended-on at [] e = ended at
ended-on at (b ∷ bs) e = absurd (omega arith)

abbrev pub Ends : List ℕ → List declared.Token → Type 0
Ends source ts = map (λ (t : declared.Token). t.end) ts ≡ map end_of (map (token_view source) ts)

ends-behind : (source : List ℕ) (ts : List declared.Token) (t : declared.Token)
    → Ends source ts
    → t.end ≡ end_of (token_view source t)
    → Ends source (ts ++ t ∷ [])
ends-behind source [] t h e = ap (λ (n : ℕ). n ∷ []) e
ends-behind source (x ∷ xs) t h e =
    let head : x.end ≡ end_of (token_view source x) = cc in
    let tail : Ends source xs = cc in
    let later = ends-behind source xs t tail e in
    ap (λ (n : ℕ). n ∷ map (λ (t : declared.Token). t.end) (xs ++ t ∷ [])) head
    ∙ ap (λ (v : List ℕ). end_of (token_view source x) ∷ v) later

pub ends-push : (source : List ℕ) (tokens more : List declared.Token) (t : declared.Token)
    → more ≡ tokens ++ t ∷ []
    → Ends source tokens
    → t.end ≡ end_of (token_view source t)
    → Ends source more
ends-push source tokens more t e h last = subst (Ends source) (sym e) (ends-behind source tokens t h last)
