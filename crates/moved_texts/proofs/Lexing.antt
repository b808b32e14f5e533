-- A text that is cut into tokens is cut so further on, and before a line feed or a space and what follows that.
use Rattle.std.proofs.Common.{◌≡◌, inl, inr, ℕ, suc, ◌+◌, ◌≤◌, List, [], ◌∷◌, ◌++◌, length, Option, Some, None, refl, sym, ap, subst, ◌∙◌, arith, length-append, append_assoc}
use Rattle.bs_fault.specs.declared.fault.Fault.{Fault}
use Rattle.cmm_lex.specs.declared.state.Shape.{Shape}
use Rattle.cmm_lex.specs.declared.state.NamePart.TheVariants as name
use Rattle.cmm_lex.specs.declared.state.NumberPart.TheVariants as number
use Rattle.cmm_lex.specs.declared.state.OperatorPart.TheVariants as sign
use Rattle.cmm_lex.specs.declared.state.State.{State}
use Rattle.cmm_lex.specs.declared.state.State.TheVariants.{Start, Name, Number, Operator, Done, Dead}
use Rattle.cmm_lex.specs.declared.token.TokenKind.{TokenKind}
use Rattle.cmm_lex.specs.Automaton.{run, state_after_byte, after_start, after_name, after_number, after_operator, after_decimal, accepts}
use Rattle.cmm_lex.specs.Enclosed.{BeginsWith, AComment, opening, EndsString, quote, pair, byte}
use Rattle.cmm_lex.specs.Lexing.{Splits, ended, gap, token, stopped}
use Rattle.cmm_lex.specs.Token.{TokenTree}
use Rattle.cmm_lex.specs.Tokens.{IsToken, Longest}
use Rattle.cmm_lex.proofs.Closings.{inside-ends}
use Rattle.cmm_lex.proofs.Languages.{AreBytes}
use Rattle.cmm_lex.proofs.Scans.{AreBytes-front, run-dead}
use Rattle.cmm_lex.proofs.Spelled.{accepted-token}
use Rattle.moved_texts.specs.Moved.{moved_tokens}

-- ---- further on

pub splits_move : (d at : ℕ) (bytes : List ℕ) (ts : List TokenTree) (f : Option Fault) → Splits at bytes ts f → f ≡ None → Splits (at + d) bytes (moved_tokens d ts) None
splits_move d _ _ _ _ (ended at) e = ended (at + d)
splits_move d _ _ _ _ (gap at text rest ts f is s) e =
    let later = splits_move d (at + length text) rest ts f s e in
    let place : at + length text + d ≡ at + d + length text = omega arith in
    gap (at + d) text rest (moved_tokens d ts) None is (subst (λ p. Splits p rest (moved_tokens d ts) None) place later)
splits_move d _ _ _ _ (token at k text rest ts f is longest plain s) e =
    let later = splits_move d (at + length text) rest ts f s e in
    let place : at + length text + d ≡ at + d + length text = omega arith in
    token (at + d) k text rest (moved_tokens d ts) None is longest plain (subst (λ p. Splits p rest (moved_tokens d ts) None) place later)
splits_move d _ _ _ _ (stopped at bytes f is) e = absurd (let z : Some f ≡ None = e in cc)

-- ---- a line feed and a space end each token but a string

line_ends : (s : State) → state_after_byte s 10 ≡ Dead
unfolding state_after_byte after_start after_name after_number after_operator after_decimal
line_ends Start = refl
line_ends (Name name.Body) = refl
line_ends (Name name.Slash) = refl
line_ends (Name name.Digits) = refl
line_ends (Number number.Zero) = refl
line_ends (Number number.Decimal) = refl
line_ends (Number number.HexadecimalBase) = refl
line_ends (Number number.Hexadecimal) = refl
line_ends (Number number.OctalBase) = refl
line_ends (Number number.Octal) = refl
line_ends (Number number.BinaryBase) = refl
line_ends (Number number.Binary) = refl
line_ends (Number number.Fraction) = refl
line_ends (Number number.Exponent) = refl
line_ends (Number number.ExponentSign) = refl
line_ends (Number number.ExponentDigits) = refl
line_ends (Operator sign.Plus) = refl
line_ends (Operator sign.Minus) = refl
line_ends (Operator sign.Product) = refl
line_ends (Operator sign.Less) = refl
line_ends (Operator sign.Greater) = refl
line_ends (Operator sign.Shift) = refl
line_ends (Operator sign.Equal) = refl
line_ends (Operator sign.Comparison) = refl
line_ends (Done k) = refl
line_ends Dead = refl

space_ends : (s : State) → state_after_byte s 32 ≡ Dead
unfolding state_after_byte after_start after_name after_number after_operator after_decimal
space_ends Start = refl
space_ends (Name name.Body) = refl
space_ends (Name name.Slash) = refl
space_ends (Name name.Digits) = refl
space_ends (Number number.Zero) = refl
space_ends (Number number.Decimal) = refl
space_ends (Number number.HexadecimalBase) = refl
space_ends (Number number.Hexadecimal) = refl
space_ends (Number number.OctalBase) = refl
space_ends (Number number.Octal) = refl
space_ends (Number number.BinaryBase) = refl
space_ends (Number number.Binary) = refl
space_ends (Number number.Fraction) = refl
space_ends (Number number.Exponent) = refl
space_ends (Number number.ExponentSign) = refl
space_ends (Number number.ExponentDigits) = refl
space_ends (Operator sign.Plus) = refl
space_ends (Operator sign.Minus) = refl
space_ends (Operator sign.Product) = refl
space_ends (Operator sign.Less) = refl
space_ends (Operator sign.Greater) = refl
space_ends (Operator sign.Shift) = refl
space_ends (Operator sign.Equal) = refl
space_ends (Operator sign.Comparison) = refl
space_ends (Done k) = refl
space_ends Dead = refl

-- ---- of two strings at one place none is longer

ends_once : (xs ys r q : List ℕ) → EndsString xs → EndsString ys → xs ++ r ≡ ys ++ q → length ys ≤ length xs
ends_once _ _ r q quote quote e = omega arith
ends_once _ _ r q quote (pair b ys h) e = absurd (let z : ◌≡◌ {A = ℕ} 34 92 = cc in omega (arith, z))
ends_once _ _ r q quote (byte b ys n m h) e = absurd (let z : b ≡ 34 = cc in n z)
ends_once _ _ r q (pair a xs g) quote e = absurd (let z : ◌≡◌ {A = ℕ} 92 34 = cc in omega (arith, z))
ends_once _ _ r q (pair a xs g) (pair b ys h) e =
    let tail : xs ++ r ≡ ys ++ q = cc in
    let shorter = ends_once xs ys r q g h tail in omega (arith, shorter)
ends_once _ _ r q (pair a xs g) (byte b ys n m h) e = absurd (let z : b ≡ 92 = cc in m z)
ends_once _ _ r q (byte a xs n m g) quote e = absurd (let z : a ≡ 34 = cc in n z)
ends_once _ _ r q (byte a xs n m g) (pair b ys h) e = absurd (let z : a ≡ 92 = cc in m z)
ends_once _ _ r q (byte a xs n m g) (byte b ys n' m' h) e =
    let tail : xs ++ r ≡ ys ++ q = cc in
    let shorter = ends_once xs ys r q g h tail in omega (arith, shorter)

-- ---- fronts of lists

front_of : (zs more xs ys : List ℕ) → zs ++ more ≡ xs ++ ys → length xs ≤ length zs → (rest : List ℕ) × (zs ≡ xs ++ rest)
front_of zs more [] ys e h = (zs, refl)
front_of [] more (x ∷ xs) ys e h = absurd (omega (arith, h))
front_of (z ∷ zs) more (x ∷ xs) ys e h =
    let same : z ≡ x = cc in
    let tail : zs ++ more ≡ xs ++ ys = cc in
    let later = front_of zs more xs ys tail (omega (arith, h)) in
    (later.0, λ i. same i ∷ later.1 i)

quote_dead : (xs : List ℕ) (k : Shape) → accepts (run Start (34 ∷ xs)) ≡ Some k → ⊥
unfolding state_after_byte accepts after_start
quote_dead xs k a = let none : accepts (run Dead xs) ≡ None = run-dead xs in absurd (let z : None ≡ Some k = sym none ∙ a in cc)

no_token_empty : (k : Shape) → accepts (run Start []) ≡ Some k → ⊥
unfolding accepts
no_token_empty k a = absurd (let z : None ≡ Some k = a in cc)

begins_quote : (text tail xs ys inside : List ℕ) (shape : Shape) → accepts (run Start text) ≡ Some shape → text ++ tail ≡ xs ++ ys → xs ≡ 34 ∷ inside → ⊥
begins_quote [] tail xs ys inside shape a e q = no_token_empty shape a
begins_quote (t ∷ text) tail xs ys inside shape a e q =
    let both : t ∷ (text ++ tail) ≡ 34 ∷ (inside ++ ys) = e ∙ ap (λ (v : List ℕ). v ++ ys) q in
    let same : t ≡ 34 = cc in
    quote_dead text shape (subst (λ (v : ℕ). accepts (run Start (v ∷ text)) ≡ Some shape) same a)

AreBytes-back : (xs ys : List ℕ) → AreBytes (xs ++ ys) → AreBytes ys
AreBytes-back [] ys h = h
AreBytes-back (x ∷ xs) ys h = AreBytes-back xs ys h.1

-- ---- before a byte that ends each token but a string, and begins no comment

module _ (end : ℕ) (ends : (s : State) → state_after_byte s end ≡ Dead) (no_open : end ≡ 40 → ⊥) (no_star : end ≡ 42 → ⊥) where
  none_longer : (s : State) (text more xs ys : List ℕ) (k : Shape) → text ++ end ∷ more ≡ xs ++ ys → accepts (run s xs) ≡ Some k → length xs ≤ length text
  none_longer s text more [] ys k e a = omega arith
  none_longer s [] more (x ∷ xs) ys k e a =
      let same : ◌≡◌ {A = ℕ} end x = cc in
      let dead : state_after_byte s x ≡ Dead = ap (state_after_byte s) (sym same) ∙ ends s in
      let none : accepts (run (state_after_byte s x) xs) ≡ None = ap (λ (t : State). accepts (run t xs)) dead ∙ run-dead xs in
      cc
  none_longer s (t ∷ text) more (x ∷ xs) ys k e a =
      let same : x ≡ t = cc in
      let tail : text ++ end ∷ more ≡ xs ++ ys = cc in
      let there : accepts (run (state_after_byte s t) xs) ≡ Some k = subst (λ (v : ℕ). accepts (run (state_after_byte s v) xs) ≡ Some k) same a in
      let shorter = none_longer (state_after_byte s t) text more xs ys k tail there in
      omega (arith, shorter)

  -- a token that is the longest stays so
  still_longest : (k : TokenKind) (text rest more : List ℕ) → AreBytes ((text ++ rest) ++ end ∷ more) → IsToken k text → Longest (length text) (text ++ rest) →
      Longest (length text) ((text ++ rest) ++ end ∷ more)
  still_longest k text rest more are is longest k' xs ys is' whole =
      elim (accepted-token k' xs (AreBytes-front xs ys (subst AreBytes whole are)) is') [
        | inr a ↦
            let shorter = none_longer Start (text ++ rest) more xs ys a.shape whole a.accepted in
            let front = front_of (text ++ rest) (end ∷ more) xs ys whole shorter in
            longest k' xs front.0 is' front.1
        | inl s ↦
            elim (accepted-token k text (AreBytes-front text rest (AreBytes-front (text ++ rest) (end ∷ more) are)) is) [
              | inl t ↦
                  let assoc = append_assoc text rest (end ∷ more) in
                  let both : 34 ∷ (t.1.0 ++ (rest ++ end ∷ more)) ≡ 34 ∷ (s.1.0 ++ ys) =
                  sym (ap (λ (v : List ℕ). v ++ (rest ++ end ∷ more)) t.1.1) ∙ sym assoc ∙ whole ∙ ap (λ (v : List ℕ). v ++ ys) s.1.1 in
                  let inner : t.1.0 ++ (rest ++ end ∷ more) ≡ s.1.0 ++ ys = cc in
                  let shorter = ends_once t.1.0 s.1.0 (rest ++ end ∷ more) ys (inside-ends t.1.0 t.1.2) (inside-ends s.1.0 s.1.2) inner in
                  let own : length text ≡ suc (length t.1.0) = ap length t.1.1 in
                  let other : length xs ≡ suc (length s.1.0) = ap length s.1.1 in
                  omega (arith, shorter, own, other)
              | inr a ↦ absurd (begins_quote text (rest ++ end ∷ more) xs ys s.1.0 a.shape a.accepted (sym (append_assoc text rest (end ∷ more)) ∙ whole) s.1.1)
            ]
      ]

  -- a comment does not begin where it did not
  no_comment : (zs more : List ℕ) → (BeginsWith zs (opening AComment) → ⊥) → BeginsWith (zs ++ end ∷ more) (opening AComment) → ⊥
  no_comment [] more none (rest, e) = let z : ◌≡◌ {A = ℕ} end 40 = cc in no_open z
  no_comment (a ∷ []) more none (rest, e) = let z : ◌≡◌ {A = ℕ} end 42 = cc in no_star z
  no_comment (a ∷ b ∷ zs) more none (rest, e) =
      let one : a ≡ 40 = cc in
      let two : b ≡ 42 = cc in
      none (zs, λ i. one i ∷ two i ∷ zs)

  -- A text is cut as it is alone where this byte follows it.
  splits_before : (at : ℕ) (xs more : List ℕ) (ts us : List TokenTree) (f g : Option Fault) → Splits at xs ts f → f ≡ None → AreBytes (xs ++ end ∷ more) →
      Splits (at + length xs) (end ∷ more) us g → Splits at (xs ++ end ∷ more) (ts ++ us) g
  splits_before _ _ more _ us _ g (ended at) e are s = let same : at + 0 ≡ at = omega arith in subst (λ p. Splits p (end ∷ more) us g) same s
  splits_before _ _ more _ us _ g (gap at text rest ts f is h) e are s =
      let assoc = append_assoc text rest (end ∷ more) in
      let place : at + length (text ++ rest) ≡ at + length text + length rest = omega (arith, length-append text rest) in
      let later = splits_before (at + length text) rest more ts us f g h e (AreBytes-back text (rest ++ end ∷ more) (subst AreBytes assoc are))
      (subst (λ p. Splits p (end ∷ more) us g) place s) in
      subst (λ v. Splits at v (ts ++ us) g) (sym assoc) (gap at text (rest ++ end ∷ more) (ts ++ us) g is later)
  splits_before _ _ more _ us _ g (token at k text rest ts f is longest plain h) e are s =
      let assoc = append_assoc text rest (end ∷ more) in
      let place : at + length (text ++ rest) ≡ at + length text + length rest = omega (arith, length-append text rest) in
      let later = splits_before (at + length text) rest more ts us f g h e (AreBytes-back text (rest ++ end ∷ more) (subst AreBytes assoc are))
      (subst (λ p. Splits p (end ∷ more) us g) place s) in
      let long = subst (Longest (length text)) assoc (still_longest k text rest more are is longest) in
      let clear = subst (λ v. BeginsWith v (opening AComment) → ⊥) assoc (no_comment (text ++ rest) more plain) in
      subst (λ v. Splits at v (record { at = at; kind = k; text = text } ∷ (ts ++ us)) g) (sym assoc)
      (token at k text (rest ++ end ∷ more) (ts ++ us) g is long clear later)
  splits_before _ _ more _ us _ g (stopped at bytes fault is) e are s = absurd (let z : Some fault ≡ None = e in cc)

-- A text is cut as it is alone where a line feed follows it.
pub splits_line : (at : ℕ) (xs more : List ℕ) (ts us : List TokenTree) (f g : Option Fault) → Splits at xs ts f → f ≡ None → AreBytes (xs ++ 10 ∷ more) →
    Splits (at + length xs) (10 ∷ more) us g → Splits at (xs ++ 10 ∷ more) (ts ++ us) g
splits_line = splits_before 10 line_ends (λ e. omega (arith, e)) (λ e. omega (arith, e))

-- So it is where a space does.
pub splits_space : (at : ℕ) (xs more : List ℕ) (ts us : List TokenTree) (f g : Option Fault) → Splits at xs ts f → f ≡ None → AreBytes (xs ++ 32 ∷ more) →
    Splits (at + length xs) (32 ∷ more) us g → Splits at (xs ++ 32 ∷ more) (ts ++ us) g
splits_space = splits_before 32 space_ends (λ e. omega (arith, e)) (λ e. omega (arith, e))
