-- The first definitions of symbols: a look-up among them finds what a look-up among all finds, and those
-- that are left out are defined before.
use Rattle.std.proofs.Common.{◌≡◌, ℕ, Bool, true, false, cond, List, [], ◌∷◌, ◌++◌, append_assoc, Option, Some, None, is_some, bytes_eq, refl, ap, sym, ◌∙◌, subst, arith}
use Rattle.std.specs.Option.{option_or}
use Rattle.std.proofs.lemmas.List.{append-nil}
use Rattle.std.proofs.lemmas.List.Folds.{find-append}
use Rattle.std.proofs.lemmas.Slice.Eq.{bytes_eq-Decides}
use Rattle.bs_fault.specs.declared.fault.Fault.{Fault}
use Rattle.bs_fault.specs.declared.fault.Fault.TheVariants as fault
use Rattle.cmm_tree.specs.Symbols.{DefinedSymbol, definition_of}
use Rattle.cmm_types.specs.Gathered.{with_symbol, with_symbols, symbol_faults}
use Rattle.cmm_types.proofs.Among.{Among, first, second, one_if-from, one_if-among}

pub definition_of-append : (a b : List DefinedSymbol) (name : List ℕ) → definition_of (a ++ b) name ≡ option_or (definition_of a name) (definition_of b name)
definition_of-append a b name = find-append (λ (s : DefinedSymbol). bytes_eq s.name name) a b

-- the same look-ups
pub Agree : List DefinedSymbol → List DefinedSymbol → Type 0
Agree a b = (name : List ℕ) → definition_of a name ≡ definition_of b name

pub agree-from : (a b : List DefinedSymbol) → ((name : List ℕ) → definition_of a name ≡ definition_of b name) → Agree a b
unfolding Agree
agree-from a b f = f

pub agree-at : (a b : List DefinedSymbol) → Agree a b → (name : List ℕ) → definition_of a name ≡ definition_of b name
unfolding Agree
agree-at a b f = f

known_already : (o : Option DefinedSymbol) (b : Bool) (s : DefinedSymbol) → (b ≡ true → is_some o ≡ true) → o ≡ option_or o (cond b (Some s) None)
known_already (Some x) b s k = refl
known_already None true s k = absurd (never (k refl))
  where
    never : false ≡ true → ⊥
    never e = cc
known_already None false s k = refl

-- a further symbol, added if it is new, is found as if it were added in any case
with_symbol-agrees : (known before : List DefinedSymbol) (s : DefinedSymbol) → Agree known before → Agree (with_symbol known s) (before ++ s ∷ [])
with_symbol-agrees known before s same =
    agree-from _ _ (λ name.
    each name (is_some (definition_of known s.name)) refl ∙ sym (definition_of-append before (s ∷ []) name))
  where
    found : (name : List ℕ) → bytes_eq s.name name ≡ true → s.name ≡ name
    found name e = grind (arith, bytes_eq-Decides)

    each : (name : List ℕ) (b : Bool) → is_some (definition_of known s.name) ≡ b → definition_of (cond b known (known ++ s ∷ [])) name ≡ option_or (definition_of before name) (definition_of (s ∷ []) name)
    each name true e =
        agree-at known before same name
        ∙ known_already (definition_of before name) (bytes_eq s.name name) s
        (λ t. ap is_some (sym (agree-at known before same name)) ∙ ap (λ (n : List ℕ). is_some (definition_of known n)) (sym (found name t)) ∙ e)
    each name false e =
        definition_of-append known (s ∷ []) name
        ∙ ap (λ (o : Option DefinedSymbol). option_or o (definition_of (s ∷ []) name)) (agree-at known before same name)

pub with_symbols-agrees : (known before rest : List DefinedSymbol) → Agree known before → Agree (with_symbols known rest) (before ++ rest)
with_symbols-agrees known before [] same = agree-from _ _ (λ name. agree-at known before same name ∙ ap (λ (l : List DefinedSymbol). definition_of l name) (sym (append-nil before)))
with_symbols-agrees known before (s ∷ rest) same =
    let P : List DefinedSymbol → Type 0 = λ l. Agree (with_symbols (with_symbol known s) rest) l in
    subst P (append_assoc before (s ∷ []) rest) (with_symbols-agrees (with_symbol known s) (before ++ s ∷ []) rest (with_symbol-agrees known before s same))

-- ---- those that are defined twice

some-is : {A : Type 0} (o : Option A) (x : A) → o ≡ Some x → is_some o ≡ true
some-is o x e = ap is_some e

pub twice_below : (known before rest early behind : List DefinedSymbol) (s e : DefinedSymbol) → Agree known before → rest ≡ early ++ s ∷ behind → definition_of (before ++ early) s.name ≡ Some e → Among (fault.DuplicateSymbol s.at) (symbol_faults known rest)
twice_below known before [] [] behind s e same is d = cc
twice_below known before [] (x ∷ early) behind s e same is d = cc
twice_below known before (y ∷ rest) [] behind s e same is d =
    let alike : y ≡ s = cc in
    let none : before ++ [] ≡ before = append-nil before in
    let there : is_some (definition_of known y.name) ≡ true =
    ap (λ (n : DefinedSymbol). is_some (definition_of known n.name)) alike
    ∙ ap is_some (agree-at known before same s.name)
    ∙ ap (λ (l : List DefinedSymbol). is_some (definition_of l s.name)) (sym none)
    ∙ some-is _ e d
    in
    let P : DefinedSymbol → Type 0 = λ n. Among (fault.DuplicateSymbol n.at) (symbol_faults known (y ∷ rest)) in
    subst P alike (first (one_if-among _ _ there))
twice_below known before (y ∷ rest) (x ∷ early) behind s e same is d =
    let alike : x ≡ y = cc in
    let after : rest ≡ early ++ s ∷ behind = cc in
    let joined : (before ++ y ∷ []) ++ early ≡ before ++ x ∷ early = append_assoc before (y ∷ []) early ∙ ap (λ (z : DefinedSymbol). before ++ z ∷ early) (sym alike) in
    second (twice_below (with_symbol known y) (before ++ y ∷ []) rest early behind s e (with_symbol-agrees known before y same) after (ap (λ (l : List DefinedSymbol). definition_of l s.name) joined ∙ d))

-- a symbol among these that is defined before it
pub record Twice (before rest : List DefinedSymbol) (told : Fault) : Type 0 where
  pub early : List DefinedSymbol
  pub behind : List DefinedSymbol
  pub symbol : DefinedSymbol
  pub earlier : DefinedSymbol
  pub split : rest ≡ early ++ symbol ∷ behind
  pub found : definition_of (before ++ early) symbol.name ≡ Some earlier
  pub is : told ≡ fault.DuplicateSymbol symbol.at

pub record Found (o : Option DefinedSymbol) : Type 0 where
  pub symbol : DefinedSymbol
  pub is : o ≡ Some symbol

found-from : (o : Option DefinedSymbol) → is_some o ≡ true → Found o
found-from None e = cc
found-from (Some s) e = record { symbol = s; is = refl }

pub twice-from : (known before rest : List DefinedSymbol) (told : Fault) → Agree known before → Among told (symbol_faults known rest) → Twice before rest told
twice-from known before [] told same m = elim m [ ]
twice-from known before (s ∷ rest) told same (first m) =
    let both = one_if-from (is_some (definition_of known s.name)) (fault.DuplicateSymbol s.at) told m in
    let f = found-from (definition_of known s.name) both.0 in
    record {
      early = [];
      behind = rest;
      symbol = s;
      earlier = f.symbol;
      split = refl;
      found = ap (λ (l : List DefinedSymbol). definition_of l s.name) (append-nil before) ∙ sym (agree-at known before same s.name) ∙ f.is;
      is = both.1;
    }
twice-from known before (s ∷ rest) told same (second m) =
    let t = twice-from (with_symbol known s) (before ++ s ∷ []) rest told (with_symbol-agrees known before s same) m in
    record {
      early = s ∷ t.early;
      behind = t.behind;
      symbol = t.symbol;
      earlier = t.earlier;
      split = ap (λ (l : List DefinedSymbol). s ∷ l) t.split;
      found = ap (λ (l : List DefinedSymbol). definition_of l t.symbol.name) (sym (append_assoc before (s ∷ []) t.early)) ∙ t.found;
      is = t.is;
    }

-- where none is defined twice the first definitions are all
pub with_symbols-all : (known rest : List DefinedSymbol) → ((told : Fault) → ¬ Among told (symbol_faults known rest)) → with_symbols known rest ≡ known ++ rest
with_symbols-all known [] none = sym (append-nil known)
with_symbols-all known (s ∷ rest) none =
    each (is_some (definition_of known s.name)) refl (with_symbols-all (with_symbol known s) rest (λ told m. none told (second m)))
  where
    each : (b : Bool) → is_some (definition_of known s.name) ≡ b → with_symbols (with_symbol known s) rest ≡ with_symbol known s ++ rest → with_symbols (with_symbol known s) rest ≡ known ++ (s ∷ rest)
    each true e h = absurd (none (fault.DuplicateSymbol s.at) (first (one_if-among _ _ e)))
    each false e h = h ∙ ap (λ (b : Bool). cond b known (known ++ s ∷ []) ++ rest) e ∙ append_assoc known (s ∷ []) rest
