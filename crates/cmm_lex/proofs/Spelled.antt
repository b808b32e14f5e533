-- The kind of a token, by its shape and its spelling.
use Rattle.std.proofs.Common.{◌≡◌, ℕ, suc, zero, Bool, true, false, cond, List, [], ◌∷◌, Option, Some, None, unwrap_or, Contains, bytes_eq, lit<, ◌⊎◌, inl, inr, refl, sym, ap, subst, ◌∙◌, arith}
use Rattle.std.proofs.lemmas.Slice.Eq.{bytes_eq-Decides}
use Rattle.bs_words.specs.declared.operators.CmpOp.TheVariants as cmp
use Rattle.bs_words.specs.declared.operators.IntOp.{IntOp}
use Rattle.bs_words.specs.declared.operators.IntOp.TheVariants as op
use Rattle.cmm_lex.specs.declared.state.Shape.{Shape}
use Rattle.cmm_lex.specs.declared.state.Shape.TheVariants as shape
use Rattle.cmm_lex.specs.declared.state.State.TheVariants.{Start}
use Rattle.cmm_lex.specs.declared.token.TokenKind.{TokenKind}
use Rattle.cmm_lex.specs.declared.token.TokenKind.TheVariants as kind
use Rattle.cmm_lex.specs.declared.token.Keyword.{Keyword}
use Rattle.cmm_lex.specs.declared.token.Keyword.TheVariants as word
use Rattle.cmm_lex.specs.declared.token.Sign.{Sign}
use Rattle.cmm_lex.specs.declared.token.Sign.TheVariants as sign
use Rattle.cmm_lex.specs.Automaton.{run, state_after_byte, accepts, after_start, after_name, after_operator, accepts_name, accepts_operator}
use Rattle.cmm_lex.specs.Form.{Matches, spelled, one_of}
use Rattle.cmm_lex.specs.Scanning.{find_spelled, keyword_table, sign_table, kind_of}
use Rattle.cmm_lex.specs.Strings.{IsString}
use Rattle.cmm_lex.specs.Tokens.{keyword_text, sign_text, operators, float_operators, IsToken, is_name, is_keyword, is_integer, is_pointer, is_float, is_string, is_operator, is_float_operator, is_sign}
use Rattle.cmm_lex.proofs.Lengths.{found-cond}
use Rattle.cmm_lex.proofs.Languages.{AreBytes, spellings, accepts-shape, shape-accepts}

-- ---- tables

-- a fact of each item
abbrev Each : {A : Type 0} → (A → Type 0) → List A → Type 0
Each P [] = Unit {0}
Each P (x ∷ xs) = P x × Each P xs

each-at : {A : Type 0} (P : A → Type 0) (xs : List A) → Each P xs → (x : A) → Contains xs x → P x
each-at P [] all x (i, h, e) = absurd (omega arith)
each-at P (y ∷ ys) all x (zero, h, e) = subst P e all.0
each-at P (y ∷ ys) all x (suc i, h, e) = each-at P ys all.1 x (i, omega arith, e)

-- what the table finds is an entry
find-from : (P : TokenKind → List ℕ → Type 0) (table : List (List ℕ × TokenKind)) (text : List ℕ) (k : TokenKind)
    → Each (λ (e : List ℕ × TokenKind). P e.1 e.0) table
    → find_spelled table text ≡ Some k
    → P k text
find-from P [] text k all e = cc
find-from P (entry ∷ entries) text k all e =
    at_test (λ found. find-from P entries text k all.1 found) (bytes_eq entry.0 text) refl
    (sym (found-cond (bytes_eq entry.0 text) entry entries text) ∙ e)
  where
    at_test : (find_spelled entries text ≡ Some k → P k text)
        → (t : Bool)
        → bytes_eq entry.0 text ≡ t
        → cond t (Some entry.1) (find_spelled entries text) ≡ Some k
        → P k text
    at_test later true same found =
        let is_text : entry.0 ≡ text = (bytes_eq-Decides entry.0 text).0 same in
        let is_kind : entry.1 ≡ k = cc in
        subst (λ (v : TokenKind). P v text) is_kind (subst (P entry.1) is_text all.0)
    at_test later false other found = later found

record IsKeywordOf (k : TokenKind) (text : List ℕ) : Type 0 where
  keyword : Keyword
  is_kind : k ≡ kind.Keyword keyword
  is_text : text ≡ keyword_text keyword

-- the keywords of the table are keywords
keywords-are : Each (λ (e : List ℕ × TokenKind). IsKeywordOf e.1 e.0) keyword_table
keywords-are = (
  record { keyword = word.Function; is_kind = refl; is_text = refl },
  (
    record { keyword = word.Int; is_kind = refl; is_text = refl },
    (
      record { keyword = word.Val; is_kind = refl; is_text = refl },
      (
        record { keyword = word.Addr; is_kind = refl; is_text = refl },
        (
          record { keyword = word.Float; is_kind = refl; is_text = refl },
          (
            record { keyword = word.Unit; is_kind = refl; is_text = refl },
            (
              record { keyword = word.Let; is_kind = refl; is_text = refl },
              (
                record { keyword = word.Letmut; is_kind = refl; is_text = refl },
                (
                  record { keyword = word.Assign; is_kind = refl; is_text = refl },
                  (
                    record { keyword = word.App; is_kind = refl; is_text = refl },
                    (
                      record { keyword = word.Extcall; is_kind = refl; is_text = refl },
                      (
                        record { keyword = word.Alloc; is_kind = refl; is_text = refl },
                        (
                          record { keyword = word.Load; is_kind = refl; is_text = refl },
                          (
                            record { keyword = word.Store; is_kind = refl; is_text = refl },
                            (
                              record { keyword = word.Checkbound; is_kind = refl; is_text = refl },
                              (
                                record { keyword = word.Intaref; is_kind = refl; is_text = refl },
                                (
                                  record { keyword = word.Addraref; is_kind = refl; is_text = refl },
                                  (
                                    record { keyword = word.Intaset; is_kind = refl; is_text = refl },
                                    (
                                      record { keyword = word.Addraset; is_kind = refl; is_text = refl },
                                      (
                                        record { keyword = word.Mod; is_kind = refl; is_text = refl },
                                        (
                                          record { keyword = word.Mulh; is_kind = refl; is_text = refl },
                                          (
                                            record { keyword = word.And; is_kind = refl; is_text = refl },
                                            (
                                              record { keyword = word.Or; is_kind = refl; is_text = refl },
                                              (
                                                record { keyword = word.Xor; is_kind = refl; is_text = refl },
                                                (
                                                  record { keyword = word.Raise; is_kind = refl; is_text = refl },
                                                  (
                                                    record { keyword = word.Reraise; is_kind = refl; is_text = refl },
                                                    (
                                                      record { keyword = word.RaiseNotrace; is_kind = refl; is_text = refl },
                                                      (
                                                        record { keyword = word.Seq; is_kind = refl; is_text = refl },
                                                        (
                                                          record { keyword = word.If; is_kind = refl; is_text = refl },
                                                          (
                                                            record { keyword = word.Switch; is_kind = refl; is_text = refl },
                                                            (
                                                              record { keyword = word.Case; is_kind = refl; is_text = refl },
                                                              (
                                                                record { keyword = word.While; is_kind = refl; is_text = refl },
                                                                (
                                                                  record { keyword = word.Catch; is_kind = refl; is_text = refl },
                                                                  (
                                                                    record { keyword = word.With; is_kind = refl; is_text = refl },
                                                                    (
                                                                      record { keyword = word.Exit; is_kind = refl; is_text = refl },
                                                                      (
                                                                        record { keyword = word.Try; is_kind = refl; is_text = refl },
                                                                        (
                                                                          record { keyword = word.Absf; is_kind = refl; is_text = refl },
                                                                          (
                                                                            record { keyword = word.Floatofint; is_kind = refl; is_text = refl },
                                                                            (
                                                                              record { keyword = word.Intoffloat; is_kind = refl; is_text = refl },
                                                                              (
                                                                                record { keyword = word.Floataref; is_kind = refl; is_text = refl },
                                                                                (
                                                                                  record { keyword = word.Floataset; is_kind = refl; is_text = refl },
                                                                                  (
                                                                                    record { keyword = word.Unsigned; is_kind = refl; is_text = refl },
                                                                                    (
                                                                                      record { keyword = word.Signed; is_kind = refl; is_text = refl },
                                                                                      (
                                                                                        record { keyword = word.Byte; is_kind = refl; is_text = refl },
                                                                                        (
                                                                                          record { keyword = word.Half; is_kind = refl; is_text = refl },
                                                                                          (
                                                                                            record { keyword = word.Int32; is_kind = refl; is_text = refl },
                                                                                            (
                                                                                              record { keyword = word.Float32; is_kind = refl; is_text = refl },
                                                                                              (
                                                                                                record { keyword = word.Float64; is_kind = refl; is_text = refl },
                                                                                                (
                                                                                                  record { keyword = word.Data; is_kind = refl; is_text = refl },
                                                                                                  (
                                                                                                    record { keyword = word.Skip; is_kind = refl; is_text = refl },
                                                                                                    (
                                                                                                      record { keyword = word.Align; is_kind = refl; is_text = refl },
                                                                                                      (
                                                                                                        record { keyword = word.String; is_kind = refl; is_text = refl },
                                                                                                        (
                                                                                                          record { keyword = word.Global; is_kind = refl; is_text = refl },
                                                                                                          tt,
                                                                                                        ),
                                                                                                      ),
                                                                                                    ),
                                                                                                  ),
                                                                                                ),
                                                                                              ),
                                                                                            ),
                                                                                          ),
                                                                                        ),
                                                                                      ),
                                                                                    ),
                                                                                  ),
                                                                                ),
                                                                              ),
                                                                            ),
                                                                          ),
                                                                        ),
                                                                      ),
                                                                    ),
                                                                  ),
                                                                ),
                                                              ),
                                                            ),
                                                          ),
                                                        ),
                                                      ),
                                                    ),
                                                  ),
                                                ),
                                              ),
                                            ),
                                          ),
                                        ),
                                      ),
                                    ),
                                  ),
                                ),
                              ),
                            ),
                          ),
                        ),
                      ),
                    ),
                  ),
                ),
              ),
            ),
          ),
        ),
      ),
    ),
  ),
)

signs-are : Each (λ (e : List ℕ × TokenKind). IsToken e.1 e.0) sign_table
signs-are = (
  is_sign sign.Open _ refl,
  (
    is_sign sign.Close _ refl,
    (
      is_sign sign.OpenBracket _ refl,
      (
        is_sign sign.CloseBracket _ refl,
        (
          is_sign sign.Colon _ refl,
          (
            is_operator op.Add _ (0, lit< tt, refl),
            (
              is_operator op.Sub _ (1, lit< tt, refl),
              (
                is_operator op.Mul _ (2, lit< tt, refl),
                (
                  is_operator op.Div _ (3, lit< tt, refl),
                  (
                    is_operator op.Shl _ (4, lit< tt, refl),
                    (
                      is_operator op.Shr _ (5, lit< tt, refl),
                      (
                        is_operator op.Sar _ (6, lit< tt, refl),
                        (
                          is_operator (op.Cmp cmp.Eq) _ (7, lit< tt, refl),
                          (
                            is_operator (op.Cmp cmp.Ne) _ (8, lit< tt, refl),
                            (
                              is_operator (op.Cmp cmp.Lt) _ (9, lit< tt, refl),
                              (
                                is_operator (op.Cmp cmp.Le) _ (10, lit< tt, refl),
                                (
                                  is_operator (op.Cmp cmp.Gt) _ (11, lit< tt, refl),
                                  (
                                    is_operator (op.Cmp cmp.Ge) _ (12, lit< tt, refl),
                                    (
                                      is_operator op.AddV _ (13, lit< tt, refl),
                                      (
                                        is_operator op.AddA _ (14, lit< tt, refl),
                                        (
                                          is_operator (op.CmpU cmp.Eq) _ (15, lit< tt, refl),
                                          (
                                            is_operator (op.CmpU cmp.Ne) _ (16, lit< tt, refl),
                                            (
                                              is_operator (op.CmpU cmp.Lt) _ (17, lit< tt, refl),
                                              (
                                                is_operator (op.CmpU cmp.Le) _ (18, lit< tt, refl),
                                                (
                                                  is_operator (op.CmpU cmp.Gt) _ (19, lit< tt, refl),
                                                  (
                                                    is_operator (op.CmpU cmp.Ge) _ (20, lit< tt, refl),
                                                    (
                                                      is_float_operator _ (0, lit< tt, refl),
                                                      (
                                                        is_float_operator _ (1, lit< tt, refl),
                                                        (
                                                          is_float_operator _ (2, lit< tt, refl),
                                                          (
                                                            is_float_operator _ (3, lit< tt, refl),
                                                            (
                                                              is_float_operator _ (4, lit< tt, refl),
                                                              (
                                                                is_float_operator _ (5, lit< tt, refl),
                                                                (
                                                                  is_float_operator _ (6, lit< tt, refl),
                                                                  (
                                                                    is_float_operator _ (7, lit< tt, refl),
                                                                    (
                                                                      is_float_operator _ (8, lit< tt, refl),
                                                                      (
                                                                        is_float_operator _ (9, lit< tt, refl),
                                                                        tt,
                                                                      ),
                                                                    ),
                                                                  ),
                                                                ),
                                                              ),
                                                            ),
                                                          ),
                                                        ),
                                                      ),
                                                    ),
                                                  ),
                                                ),
                                              ),
                                            ),
                                          ),
                                        ),
                                      ),
                                    ),
                                  ),
                                ),
                              ),
                            ),
                          ),
                        ),
                      ),
                    ),
                  ),
                ),
              ),
            ),
          ),
        ),
      ),
    ),
  ),
)

keyword-found : (k : Keyword) → find_spelled keyword_table (keyword_text k) ≡ Some (kind.Keyword k)
keyword-found word.Function = refl
keyword-found _ = refl

keyword-accepted : (k : Keyword) → accepts (run Start (keyword_text k)) ≡ Some shape.Word
unfolding accepts state_after_byte after_start after_name accepts_name
keyword-accepted word.Function = refl
keyword-accepted _ = refl

sign-found : (s : Sign) → find_spelled sign_table (sign_text s) ≡ Some (kind.Sign s)
sign-found sign.Open = refl
sign-found _ = refl

sign-accepted : (s : Sign) → accepts (run Start (sign_text s)) ≡ Some shape.Signs
unfolding accepts state_after_byte after_start
sign-accepted sign.Open = refl
sign-accepted _ = refl

-- an operator is accepted and found
abbrev IsSpelled : TokenKind → List ℕ → Type 0
unfolding accepts state_after_byte after_start after_operator accepts_operator
IsSpelled k text = (accepts (run Start text) ≡ Some shape.Signs) × (find_spelled sign_table text ≡ Some k)

operators-are : Each (λ (e : IntOp × List ℕ). IsSpelled (kind.Operator e.0) e.1) operators
unfolding IsSpelled
operators-are = (
  (refl, refl),
  (
    (refl, refl),
    (
      (refl, refl),
      (
        (refl, refl),
        (
          (refl, refl),
          (
            (refl, refl),
            (
              (refl, refl),
              (
                (refl, refl),
                (
                  (refl, refl),
                  (
                    (refl, refl),
                    (
                      (refl, refl),
                      (
                        (refl, refl),
                        (
                          (refl, refl),
                          (
                            (refl, refl),
                            (
                              (refl, refl),
                              (
                                (refl, refl),
                                (
                                  (refl, refl),
                                  (
                                    (refl, refl),
                                    (
                                      (refl, refl),
                                      (
                                        (refl, refl),
                                        (
                                          (refl, refl),
                                          tt,
                                        ),
                                      ),
                                    ),
                                  ),
                                ),
                              ),
                            ),
                          ),
                        ),
                      ),
                    ),
                  ),
                ),
              ),
            ),
          ),
        ),
      ),
    ),
  ),
)

float_operators-are : Each (λ (text : List ℕ). IsSpelled kind.FloatOperator text) float_operators
unfolding IsSpelled
float_operators-are = (
  (refl, refl),
  (
    (refl, refl),
    (
      (refl, refl),
      (
        (refl, refl),
        (
          (refl, refl),
          (
            (refl, refl),
            (
              (refl, refl),
              (
                (refl, refl),
                (
                  (refl, refl),
                  (
                    (refl, refl),
                    tt,
                  ),
                ),
              ),
            ),
          ),
        ),
      ),
    ),
  ),
)

-- ---- forms of spelled words

spelled-is : (w text : List ℕ) → Matches (spelled w) text → w ≡ text
unfolding Matches
spelled-is [] text m = sym m
spelled-is (b ∷ bs) text m =
    let first : m.0 ≡ (m.3).0 ∷ [] = (m.3).3 in
    let low = (m.3).1 in
    let high = (m.3).2 in
    let same : b ≡ (m.3).0 = omega (arith, low, high) in
    let rest : bs ≡ m.1 = spelled-is bs m.1 m.4 in
    let whole = m.2 in
    cc

one_of-found : (table : List (List ℕ × TokenKind)) (text : List ℕ)
    → Matches (one_of (spellings table)) text
    → (k : TokenKind) × (find_spelled table text ≡ Some k)
unfolding Matches
one_of-found [] text m = absurd m
one_of-found (entry ∷ entries) text (inl m) =
    let same = (bytes_eq-Decides entry.0 text).1 (spelled-is entry.0 text m) in
    (entry.1, rw same refl)
one_of-found (entry ∷ entries) text (inr m) =
    subst (λ (o : Option TokenKind). (k : TokenKind) × (o ≡ Some k)) (sym (found-cond (bytes_eq entry.0 text) entry entries text))
    (at_test (one_of-found entries text m) (bytes_eq entry.0 text))
  where
    at_test : ((k : TokenKind) × (find_spelled entries text ≡ Some k))
        → (t : Bool)
        → (k : TokenKind) × (cond t (Some entry.1) (find_spelled entries text) ≡ Some k)
    at_test later true = (entry.1, refl)
    at_test later false = later

-- ---- tokens and shapes

-- a token of this kind that is no string, as the automaton sees it
pub record Accepted (k : TokenKind) (text : List ℕ) : Type 0 where
  pub shape : Shape
  pub accepted : accepts (run Start text) ≡ Some shape
  pub found : kind_of shape text ≡ Some k

no_keyword : (text : List ℕ) → ((k : Keyword) → text ≡ keyword_text k → ⊥) → find_spelled keyword_table text ≡ None
no_keyword text none = at_found (find_spelled keyword_table text) refl
  where
    at_found : (o : Option TokenKind) → find_spelled keyword_table text ≡ o → o ≡ None
    at_found None e = refl
    at_found (Some k) e = let h = find-from IsKeywordOf keyword_table text k keywords-are e in absurd (none h.keyword h.is_text)

pub accepted-token : (k : TokenKind) (text : List ℕ) → AreBytes text → IsToken k text → ((k ≡ kind.String) × IsString text) ⊎ Accepted k text
unfolding kind_of IsSpelled
accepted-token k text are (is_name _ m none) =
    inr (record {
      shape = shape.Word;
      accepted = accepts-shape shape.Word text are m;
      found = ap (λ (o : Option TokenKind). Some (unwrap_or o kind.Name)) (no_keyword text none);
    })
accepted-token k text are (is_keyword w _ e) =
    inr (subst (Accepted (kind.Keyword w)) (sym e) (record {
      shape = shape.Word;
      accepted = keyword-accepted w;
      found = ap (λ (o : Option TokenKind). Some (unwrap_or o kind.Name)) (keyword-found w);
    }))
accepted-token k text are (is_integer _ m) =
    inr (record { shape = shape.Integer; accepted = accepts-shape shape.Integer text are m; found = refl })
accepted-token k text are (is_pointer _ m) =
    inr (record { shape = shape.Pointer; accepted = accepts-shape shape.Pointer text are m; found = refl })
accepted-token k text are (is_float _ m) =
    inr (record { shape = shape.Float; accepted = accepts-shape shape.Float text are m; found = refl })
accepted-token k text are (is_string _ m) = inl (refl, m)
accepted-token k text are (is_operator o _ c) =
    let h = each-at (λ (e : IntOp × List ℕ). IsSpelled (kind.Operator e.0) e.1) operators operators-are (o, text) c in
    inr (record { shape = shape.Signs; accepted = h.0; found = h.1 })
accepted-token k text are (is_float_operator _ c) =
    let h = each-at (λ (t : List ℕ). IsSpelled kind.FloatOperator t) float_operators float_operators-are text c in
    inr (record { shape = shape.Signs; accepted = h.0; found = h.1 })
accepted-token k text are (is_sign s _ e) =
    inr (subst (Accepted (kind.Sign s)) (sym e) (record { shape = shape.Signs; accepted = sign-accepted s; found = sign-found s }))

-- what is accepted is a token of the kind that is found
pub token-found : (s : Shape) (text : List ℕ) (k : TokenKind)
    → AreBytes text
    → accepts (run Start text) ≡ Some s
    → kind_of s text ≡ Some k
    → IsToken k text
unfolding kind_of
token-found shape.Word text k are e found = at_found (find_spelled keyword_table text) refl
  where
    at_found : (o : Option TokenKind) → find_spelled keyword_table text ≡ o → IsToken k text
    at_found None none =
        let said = ap (λ (o : Option TokenKind). Some (unwrap_or o kind.Name)) none in
        let is_kind : kind.Name ≡ k = cc in
        subst (λ (v : TokenKind). IsToken v text) is_kind
        (is_name text (shape-accepts shape.Word text are e) (λ w same. let there = ap (find_spelled keyword_table) same ∙ keyword-found w in cc))
    at_found (Some j) some =
        let said = ap (λ (o : Option TokenKind). Some (unwrap_or o kind.Name)) some in
        let h = find-from IsKeywordOf keyword_table text j keywords-are some in
        let j_is = h.is_kind in
        let is_kind : kind.Keyword h.keyword ≡ k = cc in
        subst (λ (v : TokenKind). IsToken v text) is_kind (is_keyword h.keyword text h.is_text)
token-found shape.Integer text k are e found =
    let is_kind : kind.Integer ≡ k = cc in
    subst (λ (v : TokenKind). IsToken v text) is_kind (is_integer text (shape-accepts shape.Integer text are e))
token-found shape.Pointer text k are e found =
    let is_kind : kind.Pointer ≡ k = cc in
    subst (λ (v : TokenKind). IsToken v text) is_kind (is_pointer text (shape-accepts shape.Pointer text are e))
token-found shape.Float text k are e found =
    let is_kind : kind.Float ≡ k = cc in
    subst (λ (v : TokenKind). IsToken v text) is_kind (is_float text (shape-accepts shape.Float text are e))
token-found shape.Signs text k are e found = find-from IsToken sign_table text k signs-are found

-- and each shape that is accepted has a kind
pub kind-some : (s : Shape) (text : List ℕ) → AreBytes text → accepts (run Start text) ≡ Some s → kind_of s text ≡ None → ⊥
unfolding kind_of
kind-some shape.Word text are e none = cc
kind-some shape.Integer text are e none = cc
kind-some shape.Pointer text are e none = cc
kind-some shape.Float text are e none = cc
kind-some shape.Signs text are e none =
    let h = one_of-found sign_table text (shape-accepts shape.Signs text are e) in
    let there = h.1 in
    cc
