-- Reads and writes of locations, in either order.
use Rattle.std.proofs.Common.{◌≡◌, ℕ, Bool, true, false, cond, ◌&&◌, ◌||◌, List, [], ◌∷◌, Some, None, refl, sym, ap, ◌∙◌, subst}
use Rattle.std.proofs.lemmas.Bool.{true≢false, eqb-true}
use Rattle.bs_words.specs.Fits.{fits, type_of_comp}
use Rattle.bs_words.specs.declared.types.Loc.{Loc}
use Rattle.bs_words.specs.declared.types.Loc.TheVariants as loc
use Rattle.bs_words.specs.declared.values.Value.{Value}
use Rattle.lin_ir.specs.Meaning.{Locations, same_loc, assign_spot, put_if, put_all, values, with_held}
use Rattle.lin_ir.specs.declared.lin.Spot.{Spot}
use Rattle.schedule_rules.specs.Straight.{is_among_spots, meet}

-- ---- locations

pub same_loc_is : (a b : Loc) → same_loc a b ≡ true → a ≡ b
same_loc_is (loc.Machine a) (loc.Machine b) e = ap loc.Machine (eqb-true a b e)
same_loc_is (loc.Slot a) (loc.Slot b) e = ap loc.Slot (eqb-true a b e)
same_loc_is (loc.Machine a) (loc.Slot b) e = absurd (true≢false (sym e))
same_loc_is (loc.Machine a) loc.Unset e = absurd (true≢false (sym e))
same_loc_is (loc.Slot a) (loc.Machine b) e = absurd (true≢false (sym e))
same_loc_is (loc.Slot a) loc.Unset e = absurd (true≢false (sym e))
same_loc_is loc.Unset b e = absurd (true≢false (sym e))

pub same_loc_sym : (a b : Loc) → same_loc a b ≡ true → same_loc b a ≡ true
same_loc_sym a b e = let q = same_loc_is a b e in subst (λ x. same_loc x a ≡ true) q (subst (λ x. same_loc a x ≡ true) (sym q) e)

or_left : (a b : Bool) → (a || b) ≡ false → a ≡ false
or_left true b e = e
or_left false b e = refl

or_right : (a b : Bool) → (a || b) ≡ false → b ≡ false
or_right true b e = absurd (true≢false e)
or_right false b e = e

pub or_parts : (a b : Bool) → (a || b) ≡ false → (a ≡ false) × (b ≡ false)
or_parts a b e = (or_left a b e, or_right a b e)

or_false : (a b : Bool) → a ≡ false → b ≡ false → (a || b) ≡ false
or_false true b e f = e
or_false false b e f = f

-- two lists of spots that do not meet have no location in common
pub apart : (ss ts : List Spot) → meet ss ts ≡ false → (l : Loc) → is_among_spots l ss ≡ true → is_among_spots l ts ≡ false
apart [] ts e l w = absurd (true≢false (sym w))
apart (s ∷ ss) ts e l w = by (same_loc s.loc l) refl w (or_parts (is_among_spots s.loc ts) (meet ss ts) e) (λ h u. apart ss ts h l u)
  where
    by : (b : Bool) → same_loc s.loc l ≡ b → (b || is_among_spots l ss) ≡ true → (is_among_spots s.loc ts ≡ false) × (meet ss ts ≡ false) →
        (meet ss ts ≡ false → is_among_spots l ss ≡ true → is_among_spots l ts ≡ false) → is_among_spots l ts ≡ false
    by true q u p ih = subst (λ k. is_among_spots k ts ≡ false) (same_loc_is s.loc l q) p.0
    by false q u p ih = ih p.1 u

-- the same the other way round
not_same : (a b : Loc) (x : Bool) → same_loc a b ≡ x → same_loc b a ≡ false → x ≡ false
not_same a b true q r = absurd (true≢false (sym (same_loc_sym a b q) ∙ r))
not_same a b false q r = refl

pub not_at : (t : Spot) (ts ss : List Spot) → meet ss (t ∷ ts) ≡ false → is_among_spots t.loc ss ≡ false
not_at t ts [] e = refl
not_at t ts (s ∷ ss) e =
    let p = or_parts (is_among_spots s.loc (t ∷ ts)) (meet ss (t ∷ ts)) e in
    or_false (same_loc s.loc t.loc) (is_among_spots t.loc ss) (not_same s.loc t.loc (same_loc s.loc t.loc) refl (or_left (same_loc t.loc s.loc) (is_among_spots s.loc ts) p.0)) (not_at t ts ss p.1)

pub meet_rest : (t : Spot) (ts ss : List Spot) → meet ss (t ∷ ts) ≡ false → meet ss ts ≡ false
meet_rest t ts [] e = refl
meet_rest t ts (s ∷ ss) e =
    let p = or_parts (is_among_spots s.loc (t ∷ ts)) (meet ss (t ∷ ts)) e in
    or_false (is_among_spots s.loc ts) (meet ss ts) (or_right (same_loc t.loc s.loc) (is_among_spots s.loc ts) p.0) (meet_rest t ts ss p.1)

pub meet_turned : (ss ts : List Spot) → meet ss ts ≡ false → meet ts ss ≡ false
meet_turned ss [] e = refl
meet_turned ss (t ∷ ts) e = or_false (is_among_spots t.loc ss) (meet ts ss) (not_at t ts ss e) (meet_turned ss ts (meet_rest t ts ss e))

-- ---- writes

abbrev pub puts : List Spot → List Value → Locations → Locations
puts [] vs f = f
puts (s ∷ ss) [] f = f
puts (s ∷ ss) (v ∷ vs) f = assign_spot s v (puts ss vs f)

abbrev pub all_fit : ℕ → List Spot → List Value → Bool
all_fit end [] [] = true
all_fit end [] (v ∷ vs) = false
all_fit end (s ∷ ss) [] = false
all_fit end (s ∷ ss) (v ∷ vs) = fits end (type_of_comp s.comp) v && all_fit end ss vs

-- whether values are written does not depend on what there was
pub put_all_is : (end : ℕ) (ss : List Spot) (vs : List Value) (f : Locations) → put_all end ss vs f ≡ cond (all_fit end ss vs) (Some (puts ss vs f)) None
put_all_is end [] [] f = refl
put_all_is end [] (v ∷ vs) f = refl
put_all_is end (s ∷ ss) [] f = refl
put_all_is end (s ∷ ss) (v ∷ vs) f =
    ap (λ o. put_if (fits end (type_of_comp s.comp) v) s v o) (put_all_is end ss vs f) ∙ by (fits end (type_of_comp s.comp) v) (all_fit end ss vs)
  where
    by : (b d : Bool) → put_if b s v (cond d (Some (puts ss vs f)) None) ≡ cond (b && d) (Some (assign_spot s v (puts ss vs f))) None
    by true true = refl
    by true false = refl
    by false true = refl
    by false false = refl

-- what is written at no spot stays
pub puts_other : (ss : List Spot) (vs : List Value) (f : Locations) (l : Loc) → is_among_spots l ss ≡ false → puts ss vs f l ≡ f l
puts_other [] vs f l e = refl
puts_other (s ∷ ss) [] f l e = refl
puts_other (s ∷ ss) (v ∷ vs) f l e =
    ap (λ b. cond b (Some v) (puts ss vs f l)) (or_left _ _ e) ∙ puts_other ss vs f l (or_right _ _ e)

-- what comes to a location depends on what there was at it alone
pub puts_at : (ss : List Spot) (vs : List Value) (f g : Locations) (l : Loc) → f l ≡ g l → puts ss vs f l ≡ puts ss vs g l
puts_at [] vs f g l e = e
puts_at (s ∷ ss) [] f g l e = e
puts_at (s ∷ ss) (v ∷ vs) f g l e = ap (λ o. cond (same_loc s.loc l) (Some v) o) (puts_at ss vs f g l e)

-- writes at different locations, in either order
pub puts_swap : (ss ts : List Spot) (vs ws : List Value) (f : Locations) → meet ss ts ≡ false → puts ts ws (puts ss vs f) ≡ puts ss vs (puts ts ws f)
puts_swap ss ts vs ws f e = λ i l. at l (is_among_spots l ss) refl i
  where
    at : (l : Loc) (b : Bool) → is_among_spots l ss ≡ b → puts ts ws (puts ss vs f) l ≡ puts ss vs (puts ts ws f) l
    at l true q =
        let free = apart ss ts e l q in
        puts_other ts ws (puts ss vs f) l free ∙ puts_at ss vs f (puts ts ws f) l (sym (puts_other ts ws f l free))
    at l false q =
        puts_at ts ws (puts ss vs f) f l (puts_other ss vs f l q) ∙ sym (puts_other ss vs (puts ts ws f) l q)

-- ---- reads

-- reads at locations that are not written
pub values_other : (end : ℕ) (ss : List Spot) (vs : List Value) (ts : List Spot) (f : Locations) → meet ss ts ≡ false → values end (puts ss vs f) ts ≡ values end f ts
values_other end ss vs [] f e = refl
values_other end ss vs (t ∷ ts) f e =
    ap (λ z. with_held end t.comp z (values end (puts ss vs f) ts)) (puts_other ss vs f t.loc (not_at t ts ss e))
    ∙ ap (with_held end t.comp (f t.loc)) (values_other end ss vs ts f (meet_rest t ts ss e))
