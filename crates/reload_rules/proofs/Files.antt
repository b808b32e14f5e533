-- What fresh registers hold where they are read and written in place of others.
use Rattle.std.proofs.Common.{◌≡◌, ℕ, suc, ◌<◌, Bool, true, false, cond, ⊎_elim, List, [], ◌∷◌, Option, Some, None, refl, sym, ap, ◌∙◌, subst, arith}
use Rattle.std.specs.List.{Contains}
use Rattle.std.proofs.lemmas.Bool.{both_ways}
use Rattle.std.proofs.lemmas.Option.{none-some, same_Some}
use Rattle.bs_words.specs.Fits.{fits, type_of_comp}
use Rattle.bs_words.specs.declared.values.Value.{Value}
use Rattle.bs_words.proofs.Lists.{none_in, first_in, later_in, in_cons}
use Rattle.mach_ir.specs.Formed.{AreDistinct}
use Rattle.mach_ir.specs.Meaning.{File, assign_register, put_if, put_all, with_held, values}
use Rattle.mach_ir.specs.Walks.{AmongRegisters, first, later}
use Rattle.mach_ir.specs.declared.reg.Reg.{Reg}
use Rattle.colouring_rules.proofs.Files.{put_here}
use Rattle.mach_laws.proofs.Files.{put_other}
use Rattle.reload_rules.specs.Reloaded.{is_renewed, fresh_stand_in, next_reload_number, renewed}
use Rattle.reload_rules.proofs.Numbers.{IsFor, for_this, for_other, after_true, after_rises, for_from, for_in}

-- ---- reads

pub values_renewed : (a e : File) (b : Bool) (n : ℕ) (rs : List Reg) →
    ((r : Reg) → Contains rs r → is_renewed b r ≡ false → a r.number ≡ e r.number) →
    ((x : ℕ) (w : Reg) → IsFor b n rs x w → a w.number ≡ e x) → values a rs ≡ values e (renewed b n rs)
values_renewed a e b n [] own made = refl
values_renewed a e b n (r ∷ rs) own made =
    ap (λ o. with_held o (values a rs)) (by (is_renewed b r) refl)
    ∙ ap (with_held (e (cond (is_renewed b r) (fresh_stand_in n r) r).number))
    (values_renewed a e b (next_reload_number b n r) rs (λ k c t. own k (later_in r k rs c) t) (λ x w h. made x w (for_other h)))
  where
    by : (t : Bool) → is_renewed b r ≡ t → a r.number ≡ e (cond t (fresh_stand_in n r) r).number
    by true t = made n r (for_this t)
    by false t = own r (first_in r rs) t

-- ---- writes

-- no number twice
pub data Apart : List Reg → Type 0 where
  apart_none : Apart []
  apart_more : {r : Reg} {rs : List Reg} → ((k : Reg) → Contains rs k → r.number ≡ k.number → ⊥) → Apart rs → Apart (r ∷ rs)

pub apart_of : (rs : List Reg) → AreDistinct rs → Apart rs
apart_of [] h = apart_none
apart_of (r ∷ rs) h =
    apart_more
    (λ k c e.
    h 0 (suc c.0) k (omega arith) (let lt = c.1 in omega (arith, lt)) (e ∙ ap (λ (k : Reg). k.number) (sym c.2)))
    (apart_of rs (λ i j d lt within. h (suc i) (suc j) d (omega (arith, lt)) (omega (arith, within))))

-- what stands for a register
data Stood (b : Bool) (n : ℕ) (r x : Reg) : Type 0 where
  as_fresh : is_renewed b r ≡ true → fresh_stand_in n r ≡ x → Stood b n r x
  as_itself : is_renewed b r ≡ false → r ≡ x → Stood b n r x

stood : (b : Bool) (n : ℕ) (r : Reg) → Stood b n r (cond (is_renewed b r) (fresh_stand_in n r) r)
stood b n r = by (is_renewed b r) refl
  where
    by : (t : Bool) → is_renewed b r ≡ t → Stood b n r (cond t (fresh_stand_in n r) r)
    by true t = as_fresh t refl
    by false t = as_itself t refl

module _ (end : ℕ) where
  pub record PutsRenewed (b : Bool) (n : ℕ) (rs : List Reg) (vs : List Value) (f g d : File) : Type 0 where
    pub file : File
    pub puts : put_all end (renewed b n rs) vs g ≡ Some file
    pub own : (r : Reg) → Contains rs r → is_renewed b r ≡ false → d r.number ≡ file r.number
    pub made : (x : ℕ) (w : Reg) → IsFor b n rs x w → d w.number ≡ file x
    pub others : (y : ℕ) → (AmongRegisters y rs → ⊥) → d y ≡ f y
    pub others_new : (y : ℕ) → (AmongRegisters y (renewed b n rs) → ⊥) → file y ≡ g y

  pub put_renewed : (b : Bool) (n : ℕ) (rs : List Reg) (vs : List Value) (f g d : File) → Apart rs →
      ((r : Reg) → Contains rs r → r.number < n) → put_all end rs vs f ≡ Some d → PutsRenewed b n rs vs f g d
  put_renewed b n [] [] f g d apart low e =
      record {
        file = g;
        puts = refl;
        own = λ r c t. absurd (none_in r c);
        made = λ x w h. elim h [ ];
        others = λ y h. ap (λ (x : File). x y) (sym (same_Some _ _ e));
        others_new = λ y h. refl;
      }
  put_renewed b n [] (v ∷ vs) f g d apart low e = absurd (none-some _ e)
  put_renewed b n (r ∷ rs) [] f g d apart low e = absurd (none-some _ e)
  put_renewed b n (r ∷ rs) (v ∷ vs) f g d (apart_more once apart) low e =
      by (fits end (type_of_comp r.comp) v) (put_all end rs vs f) refl refl e
      (λ c h.
      put_renewed b (next_reload_number b n r) rs vs f g c apart
      (λ k z. let lt = low k (later_in r k rs z) in let le = after_rises b n r in omega (arith, lt, le)) h)
    where
      one : (c : File) → PutsRenewed b (next_reload_number b n r) rs vs f g c → assign_register r v c ≡ d → fits end (type_of_comp r.comp) v ≡ true →
          (x : Reg) → cond (is_renewed b r) (fresh_stand_in n r) r ≡ x → Stood b n r x → PutsRenewed b n (r ∷ rs) (v ∷ vs) f g d
      one c p e t x is stood =
          record {
            file = assign_register x v p.file;
            puts = ap (λ (x : Reg). put_all end (x ∷ renewed b (next_reload_number b n r) rs) (v ∷ vs) g) is
                ∙ ap (λ t. put_if (fits end (type_of_comp t) v) x v (put_all end (renewed b (next_reload_number b n r) rs) vs g)) comp
                ∙ ap (λ t. put_if t x v (put_all end (renewed b (next_reload_number b n r) rs) vs g)) t ∙ ap (put_if true x v) p.puts;
            own = λ k z s. ap (λ (x : File). x k.number) (sym e) ∙ ⊎_elim (λ h. own_here k s h) (λ z. own_there k z s) (in_cons r k rs z);
            made = λ y w h. ap (λ (x : File). x w.number) (sym e) ∙ made_at y w h;
            others = λ y h. ap (λ (x : File). x y) (sym e) ∙ put_other r v c y (λ s. h (first s)) ∙ p.others y (λ a. h (later a));
            others_new = λ y h.
                let free = subst (λ (x : Reg). AmongRegisters y (x ∷ renewed b (next_reload_number b n r) rs) → ⊥) is h in
                put_other x v p.file y (λ s. free (first s)) ∙ p.others_new y (λ a. free (later a));
          }
        where
          comp_of : Stood b n r x → x.comp ≡ r.comp
          comp_of (as_fresh s h) = ap (λ (x : Reg). x.comp) (sym h)
          comp_of (as_itself s h) = ap (λ (x : Reg). x.comp) (sym h)

          comp : x.comp ≡ r.comp
          comp = comp_of stood

          written : (k y : ℕ) → r.number ≡ k → x.number ≡ y → assign_register r v c k ≡ assign_register x v p.file y
          written k y a h =
              put_here r v c k a ∙ ap (λ t. Some (record { comp = t; value = v })) (sym comp) ∙ sym (put_here x v p.file y h)

          own_here : (k : Reg) → is_renewed b k ≡ false → r ≡ k → assign_register r v c k.number ≡ assign_register x v p.file k.number
          own_here k s h = of stood
            where
              of : Stood b n r x → assign_register r v c k.number ≡ assign_register x v p.file k.number
              of (as_fresh t g) = absurd (both_ways (is_renewed b r) (subst (λ k. is_renewed b k ≡ false) (sym h) s) t)
              of (as_itself t g) =
                  written k.number k.number (ap (λ (x : Reg). x.number) h) (ap (λ (x : Reg). x.number) (sym g ∙ h))

          -- the register that is written is none of the others
          not_own : (k : Reg) → Contains rs k → x.number ≡ k.number → ⊥
          not_own k z h = of stood
            where
              of : Stood b n r x → ⊥
              of (as_fresh t g) =
                  let lt = low k (later_in r k rs z) in
                  let number : n ≡ x.number = ap (λ (x : Reg). x.number) g in omega (arith, lt, number, h)
              of (as_itself t g) = once k z (ap (λ (x : Reg). x.number) g ∙ h)

          own_there : (k : Reg) → Contains rs k → is_renewed b k ≡ false → assign_register r v c k.number ≡ assign_register x v p.file k.number
          own_there k z s =
              put_other r v c k.number (once k z) ∙ p.own k z s ∙ sym (put_other x v p.file k.number (not_own k z))

          not_made : (y : ℕ) (w : Reg) → IsFor b (next_reload_number b n r) rs y w → x.number ≡ y → ⊥
          not_made y w h s = of stood
            where
              of : Stood b n r x → ⊥
              of (as_fresh t g) =
                  let le = for_from b h in
                  let after = after_true b n r t in
                  let number : n ≡ x.number = ap (λ (x : Reg). x.number) g in omega (arith, le, after, number, s)
              of (as_itself t g) =
                  let le = for_from b h in
                  let up = after_rises b n r in
                  let lt = low r (first_in r rs) in
                  let number : r.number ≡ x.number = ap (λ (x : Reg). x.number) g in omega (arith, le, up, lt, number, s)

          made_at : (y : ℕ) (w : Reg) → IsFor b n (r ∷ rs) y w → assign_register r v c w.number ≡ assign_register x v p.file y
          made_at y w (for_this t) = of stood
            where
              of : Stood b n r x → assign_register r v c r.number ≡ assign_register x v p.file n
              of (as_fresh t g) = written r.number n refl (sym (ap (λ (x : Reg). x.number) g))
              of (as_itself s g) = absurd (both_ways (is_renewed b r) s t)
          made_at y w (for_other h) =
              put_other r v c w.number (once w (for_in b h)) ∙ p.made y w h ∙ sym (put_other x v p.file y (not_made y w h))

      by : (t : Bool) (o : Option File) → fits end (type_of_comp r.comp) v ≡ t → put_all end rs vs f ≡ o →
          put_if t r v o ≡ Some d →
          ((c : File) → put_all end rs vs f ≡ Some c → PutsRenewed b (next_reload_number b n r) rs vs f g c) →
          PutsRenewed b n (r ∷ rs) (v ∷ vs) f g d
      by false o t e h again = absurd (none-some _ h)
      by true None t e h again = absurd (none-some _ h)
      by true (Some c) t e h again =
          one c (again c e) (same_Some _ _ h) t (cond (is_renewed b r) (fresh_stand_in n r) r) refl (stood b n r)
