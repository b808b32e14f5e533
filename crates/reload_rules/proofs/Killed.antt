-- An instruction over its fresh registers destroys what it did: slots and open places are no colours.
use Rattle.std.proofs.Common.{◌≡◌, ℕ, Bool, true, false, cond, not, ◌&&◌, List, [], ◌∷◌, refl, sym, ap, ◌∙◌}
use Rattle.std.specs.Prelude.{◌||◌}
use Rattle.std.proofs.lemmas.Bool.{false≢true}
use Rattle.bs_words.specs.declared.types.Loc.{Loc}
use Rattle.bs_words.specs.declared.types.Loc.TheVariants as loc
use Rattle.mach_ir.specs.Meaning.{Destroyed, Nothing, Temporaries, Everything, is_destroyed, same_colour, is_at_one_of, killed_among, killed_by}
use Rattle.mach_ir.specs.declared.reg.Reg.{Reg}
use Rattle.reload_rules.specs.Reloaded.{is_in_slot, is_renewed, fresh_stand_in, next_reload_number, renewed}

open_apart : (l : Loc) → same_colour l loc.Unset ≡ false
open_apart (loc.Machine n) = refl
open_apart (loc.Slot n) = refl
open_apart loc.Unset = refl

slot_apart : (l o : Loc) → is_in_slot o ≡ true → same_colour l o ≡ false
slot_apart l (loc.Machine n) e = absurd (false≢true e)
slot_apart l loc.Unset e = absurd (false≢true e)
slot_apart (loc.Machine n) (loc.Slot k) e = refl
slot_apart (loc.Slot n) (loc.Slot k) e = refl
slot_apart loc.Unset (loc.Slot k) e = refl

pub renewed_slot : (b : Bool) (r : Reg) → is_renewed b r ≡ true → is_in_slot r.loc ≡ true
renewed_slot true r e = e
renewed_slot false r e = absurd (false≢true e)

same_at : (l : Loc) (b : Bool) (n : ℕ) (rs : List Reg) → is_at_one_of l (renewed b n rs) ≡ is_at_one_of l rs
same_at l b n [] = refl
same_at l b n (r ∷ rs) =
    ap (λ t. t || is_at_one_of l (renewed b (next_reload_number b n r) rs)) (by (is_renewed b r) refl)
    ∙ ap (λ t. same_colour l r.loc || t) (same_at l b (next_reload_number b n r) rs)
  where
    by : (t : Bool) → is_renewed b r ≡ t → same_colour l (cond t (fresh_stand_in n r) r).loc ≡ same_colour l r.loc
    by true t = open_apart l ∙ sym (slot_apart l r.loc (renewed_slot b r t))
    by false t = refl

same_among : (cs : List Reg) (d : Destroyed) (xs ys : List Reg) → ((l : Loc) → is_at_one_of l xs ≡ is_at_one_of l ys) →
    killed_among cs d xs ≡ killed_among cs d ys
same_among [] d xs ys h = refl
same_among (x ∷ cs) d xs ys h =
    ap (λ b. cond (is_destroyed d x.loc && not b) (x ∷ killed_among cs d xs) (killed_among cs d xs)) (h x.loc)
    ∙ ap (λ ks. cond (is_destroyed d x.loc && not (is_at_one_of x.loc ys)) (x ∷ ks) ks) (same_among cs d xs ys h)

pub same_killed : (cs : List Reg) (d : Destroyed) (b : Bool) (n : ℕ) (rs : List Reg) →
    killed_by cs d (renewed b n rs) ≡ killed_by cs d rs
same_killed cs Nothing b n rs = refl
same_killed cs Temporaries b n rs = same_among cs Temporaries (renewed b n rs) rs (λ l. same_at l b n rs)
same_killed cs Everything b n rs = same_among cs Everything (renewed b n rs) rs (λ l. same_at l b n rs)
