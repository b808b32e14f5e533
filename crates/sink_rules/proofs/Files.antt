-- What registers hold: values of their own components, and something wherever they surely were written.
use Rattle.std.proofs.Common.{◌≡◌, ◌≢◌, ℕ, Bool, true, false, cond, not, ◌&&◌, ◌⊎◌, inl, inr, ⊎_elim, List, [], ◌∷◌, Option, Some, None, refl, sym, ap, ◌∙◌}
use Rattle.std.proofs.Math.Path.{fun_ext}
use Rattle.std.proofs.lemmas.Bool.{cases_Bool, eq-eqb, eqb-true, both_ways}
use Rattle.std.specs.List.{Contains}
use Rattle.std.specs.Prelude.{nat_eq}
use Rattle.bs_words.specs.declared.types.Comp.{Comp}
use Rattle.bs_words.specs.declared.types.Comp.TheVariants as comp
use Rattle.bs_words.specs.declared.types.Loc.TheVariants as loc
use Rattle.bs_words.proofs.Lists.{none_in, in_cons}
use Rattle.mach_ir.specs.Formed.{WellFormed}
use Rattle.mach_ir.specs.Meaning.{Held, File, assign_register, is_addr, past_frame, unless_addr, Destroyed, Nothing, Temporaries, Everything, destroyed_by, is_destroyed, is_at_one_of, killed_among, killed_by, killed}
use Rattle.mach_ir.specs.Walks.{AmongRegisters, IsRegister, is_colour}
use Rattle.mach_ir.specs.declared.reg.Reg.{Reg}
use Rattle.mach_ir.specs.declared.mach.Instr.{Instr}
use Rattle.mach_ir.specs.declared.mach.Mach.{Mach}
use Rattle.liveness.proofs.Bounds.{killed_is_colour}
use Rattle.colouring_rules.proofs.Files.{put_here}
use Rattle.mach_laws.proofs.Among.{number_among}
use Rattle.mach_laws.proofs.Files.{put_other}

-- ---- a register that is put back

-- a file in which a register is written with what it holds is that file
pub put_back : (r : Reg) (h : Held) (a : File) → a r.number ≡ Some h → h.comp ≡ r.comp → assign_register r h.value a ≡ a
put_back r h a e c = fun_ext (λ n. by n (cases_Bool (nat_eq r.number n)))
  where
    as_put : a r.number ≡ Some (record { comp = r.comp; value = h.value })
    as_put = e ∙ ap (λ t. Some (record { comp = t; value = h.value })) c

    by : (n : ℕ) → (nat_eq r.number n ≡ true) ⊎ (nat_eq r.number n ≡ false) → assign_register r h.value a n ≡ a n
    by n (inl t) = let s = eqb-true r.number n t in put_here r h.value a n s ∙ sym as_put ∙ ap a s
    by n (inr t) = put_other r h.value a n (λ s. both_ways (nat_eq r.number n) t (eq-eqb r.number n s))

-- ---- what is destroyed has a place

open_stays : (d : Destroyed) → is_destroyed d loc.Unset ≡ false
open_stays Nothing = refl
open_stays Temporaries = refl
open_stays Everything = refl

fixed_among : (cs : List Reg) (d : Destroyed) (rs : List Reg) (r : Reg) → Contains (killed_among cs d rs) r → r.loc ≡ loc.Unset → ⊥
fixed_among [] d rs r c e = none_in r c
fixed_among (x ∷ cs) d rs r c e =
    by (is_destroyed d x.loc) refl (not (is_at_one_of x.loc rs)) (λ h. fixed_among cs d rs r h e) c
  where
    by : (b : Bool) → is_destroyed d x.loc ≡ b → (t : Bool) → (Contains (killed_among cs d rs) r → ⊥) →
        Contains (cond (b && t) (x ∷ killed_among cs d rs) (killed_among cs d rs)) r → ⊥
    by true s true old c =
        ⊎_elim
        (λ g. both_ways (is_destroyed d x.loc) (ap (λ (r : Reg). is_destroyed d r.loc) g ∙ ap (is_destroyed d) e ∙ open_stays d) s)
        old (in_cons x r (killed_among cs d rs) c)
    by true s false old c = old c
    by false s t old c = old c

fixed_by : (cs : List Reg) (d : Destroyed) (rs : List Reg) (r : Reg) → Contains (killed_by cs d rs) r → r.loc ≡ loc.Unset → ⊥
fixed_by cs Nothing rs r c e = none_in r c
fixed_by cs Temporaries rs r c e = fixed_among cs Temporaries rs r c e
fixed_by cs Everything rs r c e = fixed_among cs Everything rs r c e

-- an open register is not destroyed
pub open_kept : (m : Mach) → WellFormed m → (i : Instr) (r : Reg) → IsRegister m r → r.loc ≡ loc.Unset → AmongRegisters r.number (killed m i) → ⊥
open_kept m formed i r one e a =
    let k = number_among (killed m i) a in
    let same : k.0 ≡ r = formed.numbers k.0 r (is_colour (killed_is_colour m i k.0 k.1)) one k.2 in
    fixed_by m.colours (destroyed_by i.op) i.results k.0 k.1 (ap (λ (r : Reg). r.loc) same ∙ e)

-- ---- what a frame point loses

addr_is : (t : Comp) → is_addr t ≡ true → t ≡ comp.Addr
addr_is comp.Addr e = refl
addr_is comp.Int e = absurd (both_ways false refl e)
addr_is comp.Val e = absurd (both_ways false refl e)
addr_is comp.Float e = absurd (both_ways false refl e)

-- what holds nothing then, and is no addr, held nothing
pub lost_nothing : (t : Bool) (a : File) (r : Reg) → ((h : Held) → a r.number ≡ Some h → h.comp ≡ r.comp) → r.comp ≢ comp.Addr →
    past_frame t a r.number ≡ None → a r.number ≡ None
lost_nothing false a r known apart e = e
lost_nothing true a r known apart e = by (a r.number) refl e
  where
    some_none : {h : Held} → Some h ≡ None → ⊥
    some_none e = cc

    kept : (b : Bool) (h : Held) → is_addr h.comp ≡ b → h.comp ≡ r.comp → cond b None (Some h) ≡ None → Some h ≡ None
    kept true h s c e = absurd (apart (sym c ∙ addr_is h.comp s))
    kept false h s c e = e

    by : (o : Option Held) → a r.number ≡ o → unless_addr o ≡ None → o ≡ None
    by None s e = refl
    by (Some h) s e = kept (is_addr h.comp) h refl (known h s) e
