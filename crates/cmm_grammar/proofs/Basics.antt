-- What is used of outcomes, of tokens and of spelling.
use Rattle.std.proofs.Common.{◌≡◌, ℕ, ◌≤◌, zero, suc, Bool, true, false, cond, List, length, Option, Some, None, refl, ap, arith, length-append}
use Rattle.cmm_lex.specs.Token.{TokenTree}
use Rattle.cmm_lex.specs.declared.token.TokenKind.{TokenKind}
use Rattle.cmm_lex.specs.declared.token.TokenKind.TheVariants as kind
use Rattle.cmm_lex.specs.declared.token.Sign.TheVariants as sign
use Rattle.cmm_tree.specs.Tree.{Expression}
use Rattle.cmm_grammar.specs.Words.{is_open, is_open_kind, is_open_bracket, is_open_bracket_kind, leaf_of}
use Rattle.cmm_grammar.specs.Rule.{Sort, Value, Rule}
use Rattle.cmm_grammar.specs.Spelling.{Spells, nothing, token, both, leaf, brackets, parenthesis, inside, inside_first, not_inside, labelled, not_labelled, ended, one_more, present, absent, last, another}
use Rattle.cmm_grammar.specs.Reading.{ReadOutcome, Read, Stops, Why, Reader, bind, given}
use Rattle.cmm_grammar.proofs.Fine.{Solid}

pub read_inj : {A : Type 0} (a b : A) (xs ys : List TokenTree) → Read a xs ≡ Read b ys → (a ≡ b) × (xs ≡ ys)
read_inj a b xs ys e = (cc, cc)

pub not_both : {A : Type 0} {G : Type 0} (a : A) (xs : List TokenTree) (why : Why) (left : ℕ) → Stops why left ≡ Read a xs → G
not_both a xs why left e = cc

pub stops_inj : {A : Type 0} (v w : Why) (m n : ℕ) → ◌≡◌ {A = ReadOutcome A} (Stops v m) (Stops w n) → (v ≡ w) × (m ≡ n)
stops_inj v w m n e = (cc, cc)

-- the first part read this, and the second what is left of that
pub record BothRead {A B : Type 0} (o : ReadOutcome A) (next : A → Reader B) (b : B) (rest : List TokenTree) : Type 0 where
  pub a : A
  pub middle : List TokenTree
  pub first : o ≡ Read a middle
  pub second : next a middle ≡ Read b rest

pub bind_read : {A B : Type 0} (o : ReadOutcome A) (next : A → Reader B) (b : B) (rest : List TokenTree) → bind o next ≡ Read b rest → BothRead o next b rest
bind_read (Read a middle) next b rest e = record { a = a; middle = middle; first = refl; second = e }
bind_read (Stops why left) next b rest e = cc

-- either the first part stops, or the second does
pub data OneStops {A B : Type 0} (o : ReadOutcome A) (next : A → Reader B) (why : Why) (left : ℕ) : Type 0 where
  at_first : o ≡ Stops why left → OneStops o next why left
  at_second : (a : A) (middle : List TokenTree) → o ≡ Read a middle → next a middle ≡ Stops why left → OneStops o next why left

pub bind_stops : {A B : Type 0} (o : ReadOutcome A) (next : A → Reader B) (why : Why) (left : ℕ) → bind o next ≡ Stops why left → OneStops o next why left
bind_stops (Read a middle) next why left e = at_second a middle refl e
bind_stops (Stops v n) next why left e =
    let same : (v ≡ why) × (n ≡ left) = (cc, cc) in
    let x = same.0 in
    let y = same.1 in
    at_first cc

pub bind_on : {A B : Type 0} (o : ReadOutcome A) (next : A → Reader B) (a : A) (middle : List TokenTree) → o ≡ Read a middle → bind o next ≡ next a middle
bind_on o next a middle e = ap (λ v. bind v next) e

pub bind_out : {A B : Type 0} (o : ReadOutcome A) (next : A → Reader B) (why : Why) (left : ℕ) → o ≡ Stops why left → bind o next ≡ Stops why left
bind_out o next why left e = ap (λ v. bind v next) e

pub bind_bind : {A B C : Type 0} (o : ReadOutcome A) (f : A → B) (next : B → Reader C)
    → bind (bind o (λ a rest. Read (f a) rest)) next ≡ bind o (λ a. next (f a))
bind_bind (Read a rest) f next = refl
bind_bind (Stops why left) f next = refl

pub given_read : {A : Type 0} (o : Option A) (a : A) (ts rest : List TokenTree) → given o ts ≡ Read a rest → (o ≡ Some a) × (ts ≡ rest)
given_read None a ts rest e = cc
given_read (Some b) a ts rest e = (cc, cc)

pub cond_on : {A : Type 0} (b : Bool) (x y : A) → b ≡ true → cond b x y ≡ x
cond_on b x y e = ap (λ v. cond v x y) e

pub cond_off : {A : Type 0} (b : Bool) (x y : A) → b ≡ false → cond b x y ≡ y
cond_off b x y e = ap (λ v. cond v x y) e

-- a token of an expression of one token, and an opening bracket, open no parenthesis
leaf_kind : (a : ℕ) (k : TokenKind) (x : List ℕ) (e : Expression) → leaf_of (record { at = a; kind = k; text = x }) ≡ Some e
    → (is_open_kind k ≡ false) × (is_open_bracket_kind k ≡ false)
leaf_kind a (kind.Sign s) x e h = cc
leaf_kind a kind.Name x e h = (refl, refl)
leaf_kind a _ x e h = (refl, refl)

pub leaf_closed : (t : TokenTree) (e : Expression) → leaf_of t ≡ Some e → (is_open t ≡ false) × (is_open_bracket t ≡ false)
leaf_closed t e h = leaf_kind t.at t.kind t.text e h

bracket_kind : (k : TokenKind) → is_open_bracket_kind k ≡ true → is_open_kind k ≡ false
bracket_kind (kind.Sign sign.Open) h = cc
bracket_kind (kind.Sign _) h = refl
bracket_kind _ h = refl

pub bracket_closed : (t : TokenTree) → is_open_bracket t ≡ true → is_open t ≡ false
bracket_closed t h = bracket_kind t.kind h

-- parentheses may always nest deeper
pub rises : (s : Sort) (d : ℕ) (r : Rule s) (a : Value s) (xs : List TokenTree) → Spells s d r a xs → Spells s (suc d) r a xs
rises _ _ _ _ _ (nothing s d a) = nothing s (suc d) a
rises _ _ _ _ _ (token s d f t a e) = token s (suc d) f t a e
rises _ _ _ _ _ (both s t d r k a b ys zs h g) = both s t (suc d) r k a b ys zs (rises s d r a ys h) (rises t d (k a) b zs g)
rises _ _ _ _ _ (leaf d t e h) = leaf (suc d) t e h
rises _ _ _ _ _ (brackets d o c h g) = brackets (suc d) o c h g
rises _ _ _ _ _ (parenthesis d o e ys h g) = parenthesis (suc d) o e ys h (rises _ d _ e ys g)
rises _ _ _ _ _ (inside s d r o a ys h g) = inside s (suc d) r o a ys h (rises s d _ a ys g)
rises _ _ _ _ _ (inside_first s t d r k other o a b ys zs h g i) =
    inside_first s t (suc d) r k other o a b ys zs h (rises s d _ a ys g) (rises t (suc d) _ b zs i)
rises _ _ _ _ _ (not_inside s t d r k other u b ys h g) = not_inside s t (suc d) r k other u b ys h (rises t d _ b _ g)
rises _ _ _ _ _ (labelled s t d r k other o n a b ys zs h i g j) =
    labelled s t (suc d) r k other o n a b ys zs h i (rises s d _ a ys g) (rises t (suc d) _ b zs j)
rises _ _ _ _ _ (not_labelled s t d r k other e b ys zs h g i) =
    not_labelled s t (suc d) r k other e b ys zs h (rises _ d _ e ys g) (rises t d _ b zs i)
rises _ _ _ _ _ (ended s t d stop r k u b ys h g) = ended s t (suc d) stop r k u b ys h (rises t d _ b _ g)
rises _ _ _ _ _ (one_more s t d stop r k u a b ys zs h g i) =
    one_more s t (suc d) stop r k u a b ys zs h (rises s d r a _ g) (rises t d _ b zs i)
rises _ _ _ _ _ (present s t d f k u a b ys h g) = present s t (suc d) f k u a b ys h (rises t d _ b ys g)
rises _ _ _ _ _ (absent s t d f k u b ys h g) = absent s t (suc d) f k u b ys h (rises t d _ b _ g)
rises _ _ _ _ _ (last s d more r a ys h g) = last s (suc d) more r a ys h (rises s d r a ys g)
rises _ _ _ _ _ (another s d more r a as' ys zs h g i) =
    another s (suc d) more r a as' ys zs h (rises s d r a ys g) (rises _ d _ as' zs i)

-- so many levels more
abbrev pub higher : ℕ → ℕ → ℕ
higher zero d = d
higher (suc k) d = suc (higher k d)

pub rises_by : (k : ℕ) (s : Sort) (d : ℕ) (r : Rule s) (a : Value s) (xs : List TokenTree) → Spells s d r a xs → Spells s (higher k d) r a xs
rises_by zero s d r a xs h = h
rises_by (suc k) s d r a xs h = rises s (higher k d) r a xs (rises_by k s d r a xs h)

-- what a solid rule spells is not empty
pub solid_some : (s : Sort) (d : ℕ) (r : Rule s) (a : Value s) (xs : List TokenTree) → Spells s d r a xs → Solid r → 1 ≤ length xs
solid_some _ _ _ _ _ (nothing s d a) h = absurd h
solid_some _ _ _ _ _ (token s d f t a e) h = omega arith
solid_some _ _ _ _ _ (both s t d r k a b ys zs g i) h = let n = solid_some s d r a ys g h in omega (arith, n, length-append ys zs)
solid_some _ _ _ _ _ (last s d more r a ys g i) h = solid_some s d r a ys i h
solid_some _ _ _ _ _ (another s d more r a as' ys zs g i j) h = let n = solid_some s d r a ys i h in omega (arith, n, length-append ys zs)
solid_some _ _ _ _ _ (not_labelled s t d r k other e b ys zs g i j) h = let n = solid_some _ d _ e ys i tt in omega (arith, n, length-append ys zs)
solid_some _ _ _ _ _ (leaf d t e g) h = omega arith
solid_some _ _ _ _ _ (brackets d o c g i) h = omega arith
solid_some _ _ _ _ _ (parenthesis d o e ys g i) h = omega arith
solid_some _ _ _ _ _ (inside s d r o a ys g i) h = omega arith
solid_some _ _ _ _ _ (inside_first s t d r k other o a b ys zs g i j) h = omega arith
solid_some _ _ _ _ _ (not_inside s t d r k other u b ys g i) h = omega arith
solid_some _ _ _ _ _ (labelled s t d r k other o n a b ys zs g i j l) h = omega arith
solid_some _ _ _ _ _ (ended s t d stop r k u b ys g i) h = omega arith
solid_some _ _ _ _ _ (one_more s t d stop r k u a b ys zs g i j) h = omega arith
solid_some _ _ _ _ _ (present s t d f k u a b ys g i) h = omega arith
solid_some _ _ _ _ _ (absent s t d f k u b ys g i) h = omega arith
