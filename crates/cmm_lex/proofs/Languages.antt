-- The automaton accepts the tokens: what is after the bytes that lead to a state is what the state
-- goes on to.
use Rattle.std.proofs.Common.{◌≡◌, ℕ, ◌<◌, suc, zero, Bool, true, false, cond, ◌&&◌, eqb, List, [], ◌∷◌, Option, Some, None, codes, Contains, lit<, ◌⊎◌, inl, inr, refl, sym, ap, subst, ◌∙◌, eqb-true, arith}
use Rattle.std.proofs.lemmas.Bool.{false≢true, and_parts, cases_eq}
use Rattle.cmm_lex.specs.Form.{Form, Nothing, Empty, Between, Then, Either, Many, Matches, one_of}
use Rattle.cmm_lex.specs.Tokens.{name, integer_form, pointer, float}
use Rattle.cmm_lex.specs.Scanning.{sign_table}
use Rattle.cmm_lex.specs.declared.state.Shape.{Shape}
use Rattle.cmm_lex.specs.declared.state.Shape.TheVariants as shape
use Rattle.cmm_lex.specs.declared.state.NamePart.{NamePart}
use Rattle.cmm_lex.specs.declared.state.NamePart.TheVariants.{Body, Slash, Digits}
use Rattle.cmm_lex.specs.declared.state.NumberPart.{NumberPart}
use Rattle.cmm_lex.specs.declared.state.NumberPart.TheVariants.{Zero, Decimal, HexadecimalBase, Hexadecimal, OctalBase, Octal, BinaryBase, Binary, Fraction, Exponent, ExponentSign, ExponentDigits}
use Rattle.cmm_lex.specs.declared.state.OperatorPart.{OperatorPart}
use Rattle.cmm_lex.specs.declared.state.OperatorPart.TheVariants.{Plus, Minus, Product, Less, Greater, Shift, Equal, Comparison}
use Rattle.cmm_lex.specs.declared.state.State.{State}
use Rattle.cmm_lex.specs.declared.state.State.TheVariants.{Start, Name, Number, Operator, Done, Dead}
use Rattle.cmm_lex.specs.Automaton.{run, state_after_byte, accepts, after_start, after_name, after_number, after_decimal, after_operator, accepts_name, accepts_number, accepts_operator}
use Rattle.cmm_lex.proofs.Behind.{behind, has_empty, behind-from, behind-to, empty-from, empty-to}

abbrev pub same_shape : Shape → Shape → Bool
same_shape shape.Word shape.Word = true
same_shape shape.Integer shape.Integer = true
same_shape shape.Pointer shape.Pointer = true
same_shape shape.Float shape.Float = true
same_shape shape.Signs shape.Signs = true
same_shape _ _ = false

pub same_shape-is : (j k : Shape) → same_shape j k ≡ true → j ≡ k
same_shape-is shape.Word shape.Word e = refl
same_shape-is shape.Integer shape.Integer e = refl
same_shape-is shape.Pointer shape.Pointer e = refl
same_shape-is shape.Float shape.Float e = refl
same_shape-is shape.Signs shape.Signs e = refl
same_shape-is _ _ e = absurd (false≢true e)

pub same_shape-self : (k : Shape) → same_shape k k ≡ true
same_shape-self shape.Word = refl
same_shape-self shape.Integer = refl
same_shape-self shape.Pointer = refl
same_shape-self shape.Float = refl
same_shape-self shape.Signs = refl

-- the spellings of a table
abbrev pub spellings : {A : Type 0} → List (List ℕ × A) → List (List ℕ)
spellings [] = []
spellings (entry ∷ entries) = entry.0 ∷ spellings entries

-- how the tokens of a shape are spelled
abbrev pub form_of : Shape → Form
form_of shape.Word = name
form_of shape.Integer = integer_form
form_of shape.Pointer = pointer
form_of shape.Float = float
form_of shape.Signs = one_of (spellings sign_table)

-- bytes that lead to a state
abbrev path_name : NamePart → List ℕ
path_name Body = codes "z"
path_name Slash = codes "z/"
path_name Digits = codes "z/0"

abbrev path_number : NumberPart → List ℕ
path_number Zero = codes "0"
path_number Decimal = codes "9"
path_number HexadecimalBase = codes "0x"
path_number Hexadecimal = codes "0x0"
path_number OctalBase = codes "0o"
path_number Octal = codes "0o0"
path_number BinaryBase = codes "0b"
path_number Binary = codes "0b0"
path_number Fraction = codes "9."
path_number Exponent = codes "9e"
path_number ExponentSign = codes "9e+"
path_number ExponentDigits = codes "9e9"

abbrev path_operator : OperatorPart → List ℕ
path_operator Plus = codes "+"
path_operator Minus = codes "-"
path_operator Product = codes "*"
path_operator Less = codes "<"
path_operator Greater = codes ">"
path_operator Shift = codes ">>"
path_operator Equal = codes "="
path_operator Comparison = codes "<="

abbrev behind_all : List ℕ → Form → Form
behind_all [] f = f
behind_all (b ∷ bs) f = behind_all bs (behind b f)

-- what a token of a kind goes on to from a state
abbrev language : State → Shape → Form
language Start k = form_of k
language (Name part) k = behind_all (path_name part) (form_of k)
language (Number part) k = behind_all (path_number part) (form_of k)
language (Operator part) k = behind_all (path_operator part) (form_of k)
language (Done j) k = cond (same_shape j k) Empty Nothing
language Dead k = Nothing

abbrev same_form : Form → Form → Bool
same_form Nothing Nothing = true
same_form Empty Empty = true
same_form (Between l h) (Between m i) = eqb l m && eqb h i
same_form (Then a b) (Then c d) = same_form a c && same_form b d
same_form (Either a b) (Either c d) = same_form a c && same_form b d
same_form (Many a) (Many c) = same_form a c
same_form _ _ = false

same_form-is : (f g : Form) → same_form f g ≡ true → f ≡ g
same_form-is Nothing Nothing e = refl
same_form-is Empty Empty e = refl
same_form-is (Between l h) (Between m i) e =
    let p = and_parts (eqb l m) (eqb h i) e in
    let x = eqb-true l m p.0 in
    let y = eqb-true h i p.1 in
    cc
same_form-is (Then a b) (Then c d) e =
    let p = and_parts (same_form a c) (same_form b d) e in
    let x = same_form-is a c p.0 in
    let y = same_form-is b d p.1 in
    cc
same_form-is (Either a b) (Either c d) e =
    let p = and_parts (same_form a c) (same_form b d) e in
    let x = same_form-is a c p.0 in
    let y = same_form-is b d p.1 in
    cc
same_form-is (Many a) (Many c) e = let x = same_form-is a c e in cc
same_form-is _ _ e = absurd (false≢true e)

-- from this state and by this byte the automaton goes where the forms of this kind go
abbrev goes_for : State → ℕ → Shape → Bool
unfolding state_after_byte after_start after_name after_number after_decimal after_operator
goes_for s b k = same_form (behind b (language s k)) (language (state_after_byte s b) k)

abbrev for_each : List Shape → (Shape → Bool) → Bool
for_each [] p = true
for_each (k ∷ ks) p = p k && for_each ks p

Contains-cons : (j : Shape) (ks : List Shape) (k : Shape) → Contains (j ∷ ks) k → (j ≡ k) ⊎ Contains ks k
Contains-cons j ks k (zero, h, e) = inl e
Contains-cons j ks k (suc i, h, e) = inr (i, omega arith, e)

for_each-at : (ks : List Shape) (p : Shape → Bool) → for_each ks p ≡ true → (k : Shape) → Contains ks k → p k ≡ true
for_each-at [] p e k h = absurd (omega (arith, h.1))
for_each-at (j ∷ ks) p e k h =
    let both = and_parts (p j) (for_each ks p) e in
    elim (Contains-cons j ks k h) [
      | inl same ↦ subst (λ (v : Shape). p v ≡ true) same both.0
      | inr later ↦ for_each-at ks p both.1 k later
    ]

abbrev kinds : List Shape
kinds = shape.Word ∷ shape.Integer ∷ shape.Pointer ∷ shape.Float ∷ shape.Signs ∷ []

kinds-all : (k : Shape) → Contains kinds k
kinds-all shape.Word = (0, lit< tt, refl)
kinds-all shape.Integer = (1, lit< tt, refl)
kinds-all shape.Pointer = (2, lit< tt, refl)
kinds-all shape.Float = (3, lit< tt, refl)
kinds-all shape.Signs = (4, lit< tt, refl)

abbrev for_each_kind : (Shape → Bool) → Bool
for_each_kind p = for_each kinds p

for_each_kind-at : (p : Shape → Bool) → for_each_kind p ≡ true → (k : Shape) → p k ≡ true
for_each_kind-at p e k = for_each-at kinds p e k (kinds-all k)

abbrev pub all_below : ℕ → (ℕ → Bool) → Bool
all_below zero p = true
all_below (suc n) p = p n && all_below n p

pub all_below-at : (n : ℕ) (p : ℕ → Bool) → all_below n p ≡ true → (b : ℕ) → b < n → p b ≡ true
all_below-at zero p e b h = absurd (omega arith)
all_below-at (suc n) p e b h =
    let both = and_parts (p n) (all_below n p) e in
    elim (cases_eq b n) [
      | inl same ↦ subst (λ (v : ℕ). p v ≡ true) (sym same) both.0
      | inr other ↦ all_below-at n p both.1 b (omega arith)
    ]

abbrev goes : State → ℕ → Bool
goes s b = for_each_kind (goes_for s b)

abbrev goes_all : State → Bool
goes_all s = all_below 256 (goes s)

goes-name : (part : NamePart) → goes_all (Name part) ≡ true
unfolding goes_for
goes-name Body = refl
goes-name Slash = refl
goes-name Digits = refl

goes-number : (part : NumberPart) → goes_all (Number part) ≡ true
unfolding goes_for
goes-number Zero = refl
goes-number _ = refl

goes-operator : (part : OperatorPart) → goes_all (Operator part) ≡ true
unfolding goes_for
goes-operator Plus = refl
goes-operator _ = refl

goes-done : (k : Shape) → goes_all (Done k) ≡ true
unfolding goes_for
goes-done shape.Word = refl
goes-done _ = refl

goes-start : goes_all Start ≡ true
unfolding goes_for
goes-start = refl

goes-dead : goes_all Dead ≡ true
unfolding goes_for
goes-dead = refl

goes-is : (s : State) → goes_all s ≡ true
goes-is Start = goes-start
goes-is (Name part) = goes-name part
goes-is (Number part) = goes-number part
goes-is (Operator part) = goes-operator part
goes-is (Done k) = goes-done k
goes-is Dead = goes-dead

language-after : (s : State) (b : ℕ) (k : Shape) → b < 256 → behind b (language s k) ≡ language (state_after_byte s b) k
unfolding goes_for
language-after s b k h =
    same_form-is _ _ (for_each_kind-at (goes_for s b) (all_below-at 256 (goes s) (goes-is s) b h) k)

-- a state accepts a kind where the empty list is of the forms of this kind
abbrev says : Option Shape → Shape → Bool
says None k = false
says (Some j) k = same_shape j k

abbrev agree : Bool → Bool → Bool
agree true t = t
agree false true = false
agree false false = true

agree-is : (s t : Bool) → agree s t ≡ true → s ≡ t
agree-is true t e = sym e
agree-is false true e = e
agree-is false false e = refl

abbrev ends_for : State → Shape → Bool
unfolding accepts accepts_name accepts_number accepts_operator
ends_for s k = agree (has_empty (language s k)) (says (accepts s) k)

abbrev ends : State → Bool
ends s = for_each_kind (ends_for s)

ends-name : (part : NamePart) → ends (Name part) ≡ true
unfolding ends_for
ends-name Body = refl
ends-name _ = refl

ends-number : (part : NumberPart) → ends (Number part) ≡ true
unfolding ends_for
ends-number Zero = refl
ends-number _ = refl

ends-operator : (part : OperatorPart) → ends (Operator part) ≡ true
unfolding ends_for
ends-operator Plus = refl
ends-operator _ = refl

ends-done : (k : Shape) → ends (Done k) ≡ true
unfolding ends_for
ends-done shape.Word = refl
ends-done _ = refl

ends-start : ends Start ≡ true
unfolding ends_for
ends-start = refl

ends-dead : ends Dead ≡ true
unfolding ends_for
ends-dead = refl

ends-is : (s : State) → ends s ≡ true
ends-is Start = ends-start
ends-is (Name part) = ends-name part
ends-is (Number part) = ends-number part
ends-is (Operator part) = ends-operator part
ends-is (Done k) = ends-done k
ends-is Dead = ends-dead

has_empty-language : (s : State) (k : Shape) → has_empty (language s k) ≡ says (accepts s) k
unfolding ends_for
has_empty-language s k = agree-is _ _ (for_each_kind-at (ends_for s) (ends-is s) k)

says-to : (o : Option Shape) (k : Shape) → says o k ≡ true → o ≡ Some k
says-to None k e = absurd (false≢true e)
says-to (Some j) k e = ap Some (same_shape-is j k e)

says-from : (o : Option Shape) (k : Shape) → o ≡ Some k → says o k ≡ true
says-from o k e = subst (λ (v : Option Shape). says v k ≡ true) (sym e) (same_shape-self k)

-- numbers that are bytes
abbrev pub AreBytes : List ℕ → Type 0
AreBytes [] = Unit {0}
AreBytes (b ∷ bs) = (b < 256) × AreBytes bs

accepts-language : (s : State) (k : Shape) (xs : List ℕ) → AreBytes xs → Matches (language s k) xs → accepts (run s xs) ≡ Some k
accepts-language s k [] bytes m = says-to (accepts s) k (sym (has_empty-language s k) ∙ empty-from (language s k) m)
accepts-language s k (b ∷ xs) bytes m =
    let rest = subst (λ (f : Form). Matches f xs) (language-after s b k bytes.0) (behind-from b (language s k) xs m) in
    accepts-language (state_after_byte s b) k xs bytes.1 rest

language-accepts : (s : State) (k : Shape) (xs : List ℕ) → AreBytes xs → accepts (run s xs) ≡ Some k → Matches (language s k) xs
language-accepts s k [] bytes e = empty-to (language s k) (has_empty-language s k ∙ says-from (accepts s) k e)
language-accepts s k (b ∷ xs) bytes e =
    let rest = language-accepts (state_after_byte s b) k xs bytes.1 e in
    behind-to b (language s k) xs (subst (λ (f : Form). Matches f xs) (sym (language-after s b k bytes.0)) rest)

-- what has a shape's form is accepted as it
pub accepts-shape : (k : Shape) (xs : List ℕ) → AreBytes xs → Matches (form_of k) xs → accepts (run Start xs) ≡ Some k
accepts-shape k xs bytes m = accepts-language Start k xs bytes m

-- and what is accepted has the form
pub shape-accepts : (k : Shape) (xs : List ℕ) → AreBytes xs → accepts (run Start xs) ≡ Some k → Matches (form_of k) xs
shape-accepts k xs bytes e = language-accepts Start k xs bytes e
