-- Arguments come one after the other from a0 on.
use Rattle.std.proofs.Common.{◌≡◌, ℕ, zero, suc, ◌+◌, ◌<◌, Bool, true, false, cond, List, [], ◌∷◌, ◌++◌, length, map, Option, Some, None, slice_get, refl, ap, arith, ◌∙◌, sym, subst}
use Rattle.bs_words.specs.Fits.{fits, type_of_comp}
use Rattle.bs_words.specs.declared.types.Comp.{Comp}
use Rattle.bs_words.specs.declared.types.Loc.{Loc}
use Rattle.bs_words.specs.declared.types.Loc.TheVariants as loc
use Rattle.bs_words.specs.declared.values.Value.{Value}
use Rattle.lin_ir.specs.Formed.{places_of}
use Rattle.lin_ir.specs.Meaning.{Locations, as_type, assign_spot, put_all, put_if, same_loc, values, with_held}
use Rattle.lin_ir.specs.declared.lin.Spot.{Spot}
use Rattle.mach_ir.specs.Seats.{AreSeated, InOrder, argument_locations, in_order, result_locations}
use Rattle.lin_machine.proofs.Following.{same_loc-true}
use Rattle.lin_machine.proofs.Turning.{IsBegun}

-- registers one after the other
abbrev pub Rising : ℕ → List ℕ → Type 0
Rising j [] = Unit {0}
Rising j (r ∷ rs) = (r ≡ j) × Rising (suc j) rs

abbrev pub argument_registers : List ℕ
argument_registers = 10 ∷ 11 ∷ 12 ∷ 13 ∷ 14 ∷ 15 ∷ 16 ∷ 17 ∷ 18 ∷ 19 ∷ 20 ∷ 21 ∷ 22 ∷ 23 ∷ 24 ∷ 25 ∷ []

pub arguments_rise : Rising 10 argument_registers
arguments_rise = (refl, (refl, (refl, (refl, (refl, (refl, (refl, (refl, (refl, (refl, (refl, (refl, (refl, (refl, (refl, (refl, tt))))))))))))))))

-- ---- what is read

-- a value that was read, and the others
pub record WasRead (end : ℕ) (t : Comp) (o : Option Value) (vs : Option (List Value)) (xs : List Value) : Type 0 where
  pub value : Value
  pub others : List Value
  pub held : o ≡ Some value
  pub fit : fits end (type_of_comp t) value ≡ true
  pub rest : vs ≡ Some others
  pub are : xs ≡ value ∷ others

pub was_read : (end : ℕ) (t : Comp) (o : Option Value) (vs : Option (List Value)) (xs : List Value) → with_held end t o vs ≡ Some xs → WasRead end t o vs xs
was_read end t None vs xs e = absurd (cc)
was_read end t (Some x) vs xs e = by_test (fits end (type_of_comp t) x) refl vs e
  where
    by_test : (b : Bool) → fits end (type_of_comp t) x ≡ b → (vs : Option (List Value)) → as_type b x vs ≡ Some xs → WasRead end t (Some x) vs xs
    by_test false f vs e = absurd (cc)
    by_test true f None e = absurd (cc)
    by_test true f (Some ys) e = record { value = x; others = ys; held = refl; fit = f; rest = refl; are = (let h : x ∷ ys ≡ xs = cc in sym h) }

pub same_place : (p : Loc) (r : ℕ) (ls ms : List Loc) → p ∷ ls ≡ loc.Machine r ∷ ms → (p ≡ loc.Machine r) × (ls ≡ ms)
same_place p r ls ms e = (cc, cc)

-- an operand, by its number
pub record IsOperand (end : ℕ) (file : Locations) (ps : List Spot) (j k : ℕ) (x : Value) : Type 0 where
  pub spot : Spot
  pub there : slice_get ps k ≡ Some spot
  pub fit : fits end (type_of_comp spot.comp) x ≡ true
  pub held : file (loc.Machine (j + k)) ≡ Some x

read_from :
    (end : ℕ) (file : Locations) (ps : List Spot) (xs : List Value) (j : ℕ) (rs : List ℕ) (more : List Loc) → places_of ps ++ more ≡ map loc.Machine rs →
    Rising j rs → values end file ps ≡ Some xs →
    (k : ℕ) (x : Value) → slice_get xs k ≡ Some x → (k < length rs) × IsOperand end file ps j k x
read_from end file [] xs j rs more e up h k x g = absurd (let none : [] ≡ xs = cc in let n : slice_get xs k ≡ None = subst
    (λ ys. slice_get ys k ≡ None) none refl in cc)
read_from end file (p ∷ ps) xs j [] more e up h k x g = absurd (cc)
read_from end file (p ∷ ps) xs j (r ∷ rs) more e up h zero x g =
    let w = was_read end p.comp (file p.loc) (values end file ps) xs h in
    let same : w.value ≡ x = (let f = w.are in let i : slice_get (w.value ∷ w.others) 0 ≡ Some x = subst (λ ys. slice_get ys 0 ≡ Some x) f g in cc) in
    let at = same_place p.loc r (places_of ps ++ more) (map loc.Machine rs) e in
    let there : r ≡ j + 0 = (let i = up.0 in omega (arith, i)) in (
      omega arith,
      record {
        spot = p;
        there = refl;
        fit = subst (λ z. fits end (type_of_comp p.comp) z ≡ true) same w.fit;
        held = subst (λ q. file (loc.Machine q) ≡ Some x) there (ap file (sym at.0) ∙ w.held ∙ ap Some same);
      },
    )
read_from end file (p ∷ ps) xs j (r ∷ rs) more e up h (suc k) x g =
    let w = was_read end p.comp (file p.loc) (values end file ps) xs h in
    let at = same_place p.loc r (places_of ps ++ more) (map loc.Machine rs) e in
    let f = w.are in
    let later = read_from end file ps w.others (suc j) rs more at.1 up.1 w.rest k x (subst (λ ys. slice_get ys (suc k) ≡ Some x) f g) in
    let l = later.0 in
    let o = later.1 in
    let there : suc j + k ≡ j + suc k = omega arith in
    (omega (arith, l), record { spot = o.spot; there = o.there; fit = o.fit; held = subst (λ q. file (loc.Machine q) ≡ Some x) there o.held })

-- the arguments of a call are from a0 on
pub arguments_read :
    (end : ℕ) (file : Locations) (ps : List Spot) (xs : List Value) → AreSeated (InOrder argument_locations) (places_of ps) → values end file ps ≡ Some xs →
    (k : ℕ) (x : Value) → slice_get xs k ≡ Some x → (k < 16) × IsOperand end file ps 10 k x
arguments_read end file ps xs (in_order more e) h k x g = read_from end file ps xs 10 argument_registers more e arguments_rise h k x g

-- ---- what parameters take

pub record WasPut (end : ℕ) (p : Spot) (x : Value) (o : Option Locations) (f : Locations) : Type 0 where
  pub before : Locations
  pub was : o ≡ Some before
  pub fit : fits end (type_of_comp p.comp) x ≡ true
  pub is : f ≡ assign_spot p x before

pub was_put : (end : ℕ) (p : Spot) (x : Value) (o : Option Locations) (f : Locations) → put_if (fits end (type_of_comp p.comp) x) p x o ≡ Some f →
    WasPut end p x o f
was_put end p x o f e = by_test (fits end (type_of_comp p.comp) x) refl o e
  where
    by_test : (b : Bool) → fits end (type_of_comp p.comp) x ≡ b → (o : Option Locations) → put_if b p x o ≡ Some f → WasPut end p x o f
    by_test false h o e = absurd (cc)
    by_test true h None e = absurd (cc)
    by_test true h (Some g) e = record { before = g; was = refl; fit = h; is = (let i : assign_spot p x g ≡ f = cc in sym i) }

put_from :
    (end : ℕ) (ps : List Spot) (xs : List Value) (j : ℕ) (rs : List ℕ) (more : List Loc) (f : Locations) → places_of ps ++ more ≡ map loc.Machine rs →
    Rising j rs → put_all end ps xs (λ l. None) ≡ Some f → (l : Loc) (x : Value) → f l ≡ Some x →
    (k : ℕ) × (l ≡ loc.Machine (j + k)) × (slice_get xs k ≡ Some x)
put_from end [] [] j rs more f e up h l x g = absurd (let none : (λ l. None) ≡ f = cc in let n : f l ≡ None = subst (λ z. z l ≡ None) none refl in cc)
put_from end [] (y ∷ ys) j rs more f e up h l x g = absurd (cc)
put_from end (p ∷ ps) [] j rs more f e up h l x g = absurd (cc)
put_from end (p ∷ ps) (y ∷ ys) j [] more f e up h l x g = absurd (cc)
put_from end (p ∷ ps) (y ∷ ys) j (r ∷ rs) more f e up h l x g =
    let w = was_put end p y (put_all end ps ys (λ l. None)) f h in
    let at = same_place p.loc r (places_of ps ++ more) (map loc.Machine rs) e in
    by_test (same_loc p.loc l) refl (subst (λ z. z l ≡ Some x) w.is g)
    (λ i. let k = put_from end ps ys (suc j) rs more w.before at.1 up.1 w.was l x i in (
      suc k.0,
      (let s : suc j + k.0 ≡ j + suc k.0 = omega arith in k.1 ∙ ap loc.Machine s),
      k.2,
    ))
    (at.0 ∙ ap loc.Machine up.0)
  where
    by_test : (b : Bool) → same_loc p.loc l ≡ b → {o : Option Value} → cond b (Some y) o ≡ Some x →
        (o ≡ Some x → (k : ℕ) × (l ≡ loc.Machine (j + k)) × (slice_get (y ∷ ys) k ≡ Some x)) → p.loc ≡ loc.Machine j →
        (k : ℕ) × (l ≡ loc.Machine (j + k)) × (slice_get (y ∷ ys) k ≡ Some x)
    by_test true s i later at = (zero, (let z : j ≡ j + 0 = omega arith in same_loc-true p.loc l s ∙ at ∙ ap loc.Machine z), i)
    by_test false s i later at = later i

-- what a function may hold that has taken its arguments
pub parameters_put :
    (end : ℕ) (ps : List Spot) (xs : List Value) (f : Locations) → AreSeated (InOrder argument_locations) (places_of ps) →
    put_all end ps xs (λ l. None) ≡ Some f → IsBegun xs f
parameters_put end ps xs f (in_order more e) h = record {
  register = λ r x g.
      let k = put_from end ps xs 10 argument_registers more f e arguments_rise h (loc.Machine r) x g in
      (k.0, (let s : loc.Machine r ≡ loc.Machine (10 + k.0) = k.1 in cc), k.2);
  slot = λ q x g. let k = put_from end ps xs 10 argument_registers more f e arguments_rise h (loc.Slot q) x g in absurd (let s : loc.Slot q ≡ loc.Machine
      (10 + k.0) = k.1 in cc);
}

-- ---- one place

-- the one operand or result that there may be is in a0
pub first_seated : (p : Spot) (ps : List Spot) → AreSeated (InOrder result_locations) (places_of (p ∷ ps)) → (p.loc ≡ loc.Machine 10) × (ps ≡ [])
first_seated p ps (in_order more e) = let at = same_place p.loc 10 (places_of ps ++ more) [] e in (at.0, none ps at.1)
  where
    none : (ps : List Spot) → places_of ps ++ more ≡ [] → ps ≡ []
    none [] e = refl
    none (q ∷ qs) e = absurd (cc)
