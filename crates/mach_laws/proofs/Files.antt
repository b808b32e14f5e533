-- Values put into a file, one by one.
use Rattle.std.proofs.Common.{◌≡◌, ℕ, true, List, [], ◌∷◌, Option, Some, None, Bool, false, refl, subst, cond, ap}
use Rattle.std.proofs.lemmas.Option.{none-some, same_Some}
use Rattle.std.proofs.lemmas.Bool.{eqb-true, eq-eqb}
use Rattle.std.specs.Prelude.{nat_eq}
use Rattle.bs_words.specs.Fits.{fits, type_of_comp}
use Rattle.bs_words.specs.declared.values.Value.{Value}
use Rattle.mach_ir.specs.Meaning.{File, assign_register, put_if, put_all}
use Rattle.mach_ir.specs.declared.reg.Reg.{Reg}

pub data PutAll (end : ℕ) (a : File) : List Reg → List Value → File → Type 0 where
  nil : PutAll end a [] [] a
  cons : {r : Reg} {v : Value} {rs : List Reg} {vs : List Value} {d : File} → fits end (type_of_comp r.comp) v ≡ true →
      PutAll end a rs vs d → PutAll end a (r ∷ rs) (v ∷ vs) (assign_register r v d)

pub data PutView (end : ℕ) (rs : List Reg) (vs : List Value) (a : File) : Option File → Type 0 where
  is_stuck : PutView end rs vs a None
  is_put : {d : File} → PutAll end a rs vs d → PutView end rs vs a (Some d)

pub view_if : {end : ℕ} {rs : List Reg} {vs : List Value} {a : File} {o : Option File} (r : Reg) (v : Value) (b : Bool) →
    fits end (type_of_comp r.comp) v ≡ b → PutView end rs vs a o → PutView end (r ∷ rs) (v ∷ vs) a (put_if b r v o)
view_if r v false e x = is_stuck
view_if r v true e is_stuck = is_stuck
view_if r v true e (is_put p) = is_put (cons e p)

pub put_view : (end : ℕ) (rs : List Reg) (vs : List Value) (a : File) → PutView end rs vs a (put_all end rs vs a)
put_view end [] [] a = is_put nil
put_view end [] (v ∷ vs) a = is_stuck
put_view end (r ∷ rs) [] a = is_stuck
put_view end (r ∷ rs) (v ∷ vs) a = view_if r v (fits end (type_of_comp r.comp) v) refl (put_view end rs vs a)

pub of_view : {end : ℕ} {rs : List Reg} {vs : List Value} {a d : File} (o : Option File) → PutView end rs vs a o → o ≡ Some d → PutAll end a rs vs d
of_view o is_stuck e = absurd (none-some _ e)
of_view {end} {rs} {vs} {a} o (is_put p) e = subst (λ x. PutAll end a rs vs x) (same_Some _ _ e) p

pub put_of : (end : ℕ) (rs : List Reg) (vs : List Value) (a d : File) → put_all end rs vs a ≡ Some d → PutAll end a rs vs d
put_of end rs vs a d e = of_view (put_all end rs vs a) (put_view end rs vs a) e

pub put_other : (r : Reg) (v : Value) (f : File) (n : ℕ) → (r.number ≡ n → ⊥) → assign_register r v f n ≡ f n
put_other r v f n h = test (nat_eq r.number n) refl
  where
    test : (b : Bool) → nat_eq r.number n ≡ b → cond b (Some (record { comp = r.comp; value = v })) (f n) ≡ f n
    test true e = absurd (h (eqb-true r.number n e))
    test false e = refl

pub put_same : (r : Reg) (v : Value) (f : File) → assign_register r v f r.number ≡ Some (record { comp = r.comp; value = v })
put_same r v f = ap (λ b. cond b (Some (record { comp = r.comp; value = v })) (f r.number)) (eq-eqb r.number r.number refl)
