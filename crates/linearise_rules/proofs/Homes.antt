-- Writes and reads of registers, and of the places where they are.
use Rattle.std.proofs.Common.{◌≡◌, ℕ, Bool, true, false, cond, not, ◌&&◌, ◌||◌, ◌⊎◌, inl, inr, ⊎_elim, List, [], ◌∷◌, ◌++◌, Option, Some, None, nat_eq, refl, sym, ap, ◌∙◌, subst, map}
use Rattle.std.proofs.lemmas.Bool.{true≢false, eq-eqb, eqb-true, and_parts}
use Rattle.std.specs.List.{Contains}
use Rattle.std.proofs.lemmas.Option.{none-some, same_Some}
use Rattle.bs_words.specs.Fits.{fits, type_of_comp}
use Rattle.bs_words.specs.declared.types.Comp.{Comp}
use Rattle.bs_words.specs.declared.types.Comp.TheVariants as comp
use Rattle.bs_words.specs.declared.types.Loc.{Loc}
use Rattle.bs_words.specs.declared.types.Loc.TheVariants as loc
use Rattle.bs_words.specs.declared.values.Value.{Value}
use Rattle.bs_words.specs.declared.values.Value.TheVariants as value
use Rattle.bs_words.proofs.Lists.{none_in, first_in, later_in, in_cons}
use Rattle.mach_ir.specs.Meaning.{File, Held, assign_register, clear_registers, values, with_held, is_addr, unless_addr, Destroyed, Nothing, Temporaries, Everything, is_destroyed, is_at_one_of, same_colour, killed_by, killed_among}
use Rattle.mach_ir.specs.Placed.{HasColourOrSlot, in_colour, in_slot}
use Rattle.mach_ir.specs.Walks.{AmongRegisters, first, later, IsRegister}
use Rattle.mach_ir.specs.declared.reg.Reg.{Reg}
use Rattle.mach_ir.specs.declared.mach.Mach.{Mach}
use Rattle.lin_ir.specs.Meaning as lin
use Rattle.lin_ir.specs.Meaning.{Locations, same_loc, as_type, unless_pointer, holds_val, are_vals, is_named_location}
use Rattle.lin_ir.specs.declared.lin.Spot.{Spot}
use Rattle.mach_laws.proofs.Among.{among_number}
use Rattle.mach_laws.proofs.Files.{PutAll, nil, cons, put_other, put_same}
use Rattle.lin_laws.proofs.Forms.{same_loc_is}
use Rattle.linearise_rules.specs.Lowered.{home, spot_of_register, spots}

-- ---- members

pub data IsIn {A : Type 0} (x : A) : List A → Type 0 where
  is_first : {xs : List A} → IsIn x (x ∷ xs)
  is_later : {y : A} {xs : List A} → IsIn x xs → IsIn x (y ∷ xs)

pub in_of : {A : Type 0} (x : A) (xs : List A) → Contains xs x → IsIn x xs
in_of x [] c = absurd (none_in x c)
in_of x (y ∷ xs) c = ⊎_elim (λ e. subst (λ y. IsIn x (y ∷ xs)) (sym e) is_first) (λ d. is_later (in_of x xs d)) (in_cons y x xs c)

pub contains_of : {A : Type 0} {x : A} {xs : List A} → IsIn x xs → Contains xs x
contains_of {x = x} (is_first {xs = xs}) = first_in x xs
contains_of {x = x} (is_later {y = y} {xs = xs} i) = later_in y x xs (contains_of i)

pub split_in : {A : Type 0} {x : A} (xs ys : List A) → IsIn x (xs ++ ys) → IsIn x xs ⊎ IsIn x ys
split_in [] ys z = inr z
split_in (x ∷ xs) ys is_first = inl is_first
split_in (x ∷ xs) ys (is_later z) = ⊎_elim (λ u. inl (is_later u)) inr (split_in xs ys z)

pub in_left : {A : Type 0} {x : A} {xs : List A} (ys : List A) → IsIn x xs → IsIn x (xs ++ ys)
in_left ys is_first = is_first
in_left ys (is_later z) = is_later (in_left ys z)

pub in_right : {A : Type 0} {x : A} (xs : List A) {ys : List A} → IsIn x ys → IsIn x (xs ++ ys)
in_right [] z = z
in_right (x ∷ xs) z = is_later (in_right xs z)

pub in_among : {r : Reg} {rs : List Reg} → IsIn r rs → AmongRegisters r.number rs
in_among is_first = first refl
in_among (is_later i) = later (in_among i)

pub record HasNumber (n : ℕ) (rs : List Reg) : Type 0 where
  pub reg : Reg
  pub inside : IsIn reg rs
  pub same : reg.number ≡ n

pub number_in : {n : ℕ} {rs : List Reg} → AmongRegisters n rs → HasNumber n rs
number_in (first {r = r} e) = record { reg = r; inside = is_first; same = e }
number_in (later a) = let h = number_in a in record { reg = h.reg; inside = is_later h.inside; same = h.same }

-- ---- locations

pub is_one_of : (l : Loc) (ls : List Loc) → is_named_location l ls ≡ true → IsIn l ls
is_one_of l [] e = absurd (true≢false (sym e))
is_one_of l (k ∷ ls) e = by (same_loc k l) refl e (λ q. is_one_of l ls q)
  where
    by : (t : Bool) → same_loc k l ≡ t → t || is_named_location l ls ≡ true → (is_named_location l ls ≡ true → IsIn l ls) → IsIn l (k ∷ ls)
    by true s e go = subst (λ k. IsIn l (k ∷ ls)) (sym (same_loc_is k l s)) is_first
    by false s e go = is_later (go e)

-- ---- puts of registers

-- a register and the value that it gets
pub data Pair (r : Reg) (v : Value) : List Reg → List Value → Type 0 where
  pair_first : {rs : List Reg} {vs : List Value} → Pair r v (r ∷ rs) (v ∷ vs)
  pair_later : {q : Reg} {w : Value} {rs : List Reg} {vs : List Value} → Pair r v rs vs → Pair r v (q ∷ rs) (w ∷ vs)

pub pair_in : {r : Reg} {v : Value} {rs : List Reg} {vs : List Value} → Pair r v rs vs → IsIn r rs
pair_in pair_first = is_first
pair_in (pair_later p) = is_later (pair_in p)

-- each number once
pub data Once : List Reg → Type 0 where
  once_none : Once []
  once_more : {r : Reg} {rs : List Reg} → (AmongRegisters r.number rs → ⊥) → Once rs → Once (r ∷ rs)

pub values_none : (vs : List Value) → None ≡ Some vs → ⊥
values_none vs e = cc

pub pair_held : {end : ℕ} {a : File} {rs : List Reg} {vs : List Value} {d : File} → PutAll end a rs vs d → Once rs → (r : Reg) (v : Value) → Pair r v rs vs →
    d r.number ≡ Some (record { comp = r.comp; value = v })
pair_held nil o r v z = elim z [ ]
pair_held (cons {d = d} e p) o r v pair_first = put_same r v d
pair_held (cons {r = q} {v = w} {d = d} e p) (once_more free o) r v (pair_later z) =
    put_other q w d r.number (λ s. free (among_number (sym s) (in_among (pair_in z)))) ∙ pair_held p o r v z

tail_none : (v w u : Value) (vs : List Value) → v ∷ (u ∷ vs) ≡ w ∷ [] → ⊥
tail_none v w u vs e = cc

head_same : (v w : Value) (vs ws : List Value) → v ∷ vs ≡ w ∷ ws → v ≡ w
head_same v w vs ws e = cc

-- one value for one register
pub single : {end : ℕ} {a : File} {rs : List Reg} {vs : List Value} {d : File} (w : Value) → PutAll end a rs vs d → vs ≡ w ∷ [] → (r : Reg) (v : Value) → Pair r v rs vs →
    (n : ℕ) → nat_eq r.number n ≡ false → (v ≡ w) × (d n ≡ a n)
single w nil e r v z n ne = elim z [ ]
single {a = a} w (cons {r = q} {v = u} f nil) e r v pair_first n ne =
    (head_same v w [] [] e, put_other r v a n (λ s. true≢false (sym (eq-eqb r.number n s) ∙ ne)))
single w (cons {r = q} {v = u} f nil) e r v (pair_later z) n ne = elim z [ ]
single w (cons {r = q} {v = u} f (cons {v = t} {vs = vs} g p)) e r v z n ne = absurd (tail_none u w t vs e)

pub clear_keeps : (ks : List Reg) (a : File) (n : ℕ) (x : Held) → clear_registers ks a n ≡ Some x → (a n ≡ Some x) × (AmongRegisters n ks → ⊥)
clear_keeps [] a n x e = (e, λ z. elim z [ ])
clear_keeps (k ∷ ks) a n x e = by (nat_eq k.number n) refl e (λ q. clear_keeps ks a n x q)
  where
    by : (t : Bool) → nat_eq k.number n ≡ t → cond t None (clear_registers ks a n) ≡ Some x →
        (clear_registers ks a n ≡ Some x → (a n ≡ Some x) × (AmongRegisters n ks → ⊥)) → (a n ≡ Some x) × (AmongRegisters n (k ∷ ks) → ⊥)
    by true t e old = absurd (none-some x e)
    by false t e old = let y = old e in (y.0, λ z. no y.1 z)
      where
        no : (AmongRegisters n ks → ⊥) → AmongRegisters n (k ∷ ks) → ⊥
        no free (first q) = true≢false (sym (eq-eqb k.number n q) ∙ t)
        no free (later z) = free z

-- what is no addr survives a frame point
pub keeps_value : (end : ℕ) (t : Bool) (k : Comp) (v : Value) → is_addr k ≡ false → fits end (type_of_comp k) v ≡ true → (k ≡ comp.Val → t ≡ true) →
    cond t (Some v) (unless_pointer (Some v)) ≡ Some v
keeps_value end true k v e f h = refl
keeps_value end false comp.Val v e f h = absurd (true≢false (sym (h refl)))
keeps_value end false comp.Addr v e f h = absurd (true≢false e)
keeps_value end false comp.Float v e f h = absurd (true≢false (sym f))
keeps_value end false comp.Int (value.Word w) e f h = refl
keeps_value end false comp.Int (value.Function w) e f h = refl
keeps_value end false comp.Int (value.Block s o) e f h = absurd (true≢false (sym f))

pub past_some : (o : Option Held) (x : Held) → unless_addr o ≡ Some x → (o ≡ Some x) × (is_addr x.comp ≡ false)
past_some None x e = absurd (none-some x e)
past_some (Some h) x e = by (is_addr h.comp) refl e
  where
    by : (t : Bool) → is_addr h.comp ≡ t → cond t None (Some h) ≡ Some x → (Some h ≡ Some x) × (is_addr x.comp ≡ false)
    by true t e = absurd (none-some x e)
    by false t e = (e, ap (λ (z : Held). is_addr z.comp) (sym (same_Some h x e)) ∙ t)

pub all_vals : (end : ℕ) (ls : List Loc) (b : Locations) → ((l : Loc) → IsIn l ls → holds_val end (b l) ≡ true) → are_vals end ls b ≡ true
all_vals end [] b h = refl
all_vals end (l ∷ ls) b h = ap (λ t. t && are_vals end ls b) (h l is_first) ∙ all_vals end ls b (λ k z. h k (is_later z))

pub named_of : (l : Loc) (ls : List Loc) → IsIn l ls → same_loc l l ≡ true → is_named_location l ls ≡ true
named_of l (k ∷ ls) is_first e = ap (λ t. t || is_named_location l ls) e
named_of l (k ∷ ls) (is_later i) e = or_right (same_loc k l) (is_named_location l ls) (named_of l ls i e)
  where
    or_right : (t b : Bool) → b ≡ true → t || b ≡ true
    or_right true b e = refl
    or_right false b e = e
named_of l [] i e = elim i [ ]

-- ---- destroyed registers

pub machine_of : (d : Destroyed) (l : Loc) → is_destroyed d l ≡ true → (n : ℕ) × (l ≡ loc.Machine n)
machine_of Nothing l e = absurd (true≢false (sym e))
machine_of Temporaries (loc.Machine n) e = (n, refl)
machine_of Temporaries (loc.Slot n) e = absurd (true≢false (sym e))
machine_of Temporaries loc.Unset e = absurd (true≢false (sym e))
machine_of Everything (loc.Machine n) e = (n, refl)
machine_of Everything (loc.Slot n) e = absurd (true≢false (sym e))
machine_of Everything loc.Unset e = absurd (true≢false (sym e))

colour_same : (a b : Loc) → same_colour a b ≡ true → a ≡ b
colour_same (loc.Machine a) (loc.Machine b) e = ap loc.Machine (eqb-true a b e)
colour_same (loc.Slot a) b e = absurd (true≢false (sym e))
colour_same (loc.Machine a) (loc.Slot b) e = absurd (true≢false (sym e))
colour_same loc.Unset b e = absurd (true≢false (sym e))
colour_same (loc.Machine a) loc.Unset e = absurd (true≢false (sym e))

pub record AtOne (l : Loc) (rs : List Reg) : Type 0 where
  pub reg : Reg
  pub inside : IsIn reg rs
  pub same : l ≡ reg.loc

pub one_at : (l : Loc) (rs : List Reg) → is_at_one_of l rs ≡ true → AtOne l rs
one_at l [] e = absurd (true≢false (sym e))
one_at l (r ∷ rs) e = by (same_colour l r.loc) refl e (λ q. one_at l rs q)
  where
    by : (t : Bool) → same_colour l r.loc ≡ t → t || is_at_one_of l rs ≡ true → (is_at_one_of l rs ≡ true → AtOne l rs) → AtOne l (r ∷ rs)
    by true t e old = record { reg = r; inside = is_first; same = colour_same l r.loc t }
    by false t e old = let y = old e in record { reg = y.reg; inside = is_later y.inside; same = y.same }

among_cond : (n : ℕ) (t : Bool) (r : Reg) (rs : List Reg) → AmongRegisters n rs → AmongRegisters n (cond t (r ∷ rs) rs)
among_cond n true r rs z = later z
among_cond n false r rs z = z

killed_in : (k : Reg) (rs : List Reg) (d : Destroyed) (results : List Reg) → IsIn k rs → is_destroyed d k.loc ≡ true → is_at_one_of k.loc results ≡ false →
    AmongRegisters k.number (killed_among rs d results)
killed_in k (r ∷ rs) d results is_first e f =
    subst (λ t. AmongRegisters k.number (cond (t && not (is_at_one_of k.loc results)) (k ∷ killed_among rs d results) (killed_among rs d results))) (sym e)
    (subst (λ t. AmongRegisters k.number (cond (not t) (k ∷ killed_among rs d results) (killed_among rs d results))) (sym f) (first refl))
killed_in k (r ∷ rs) d results (is_later z) e f =
    among_cond k.number (is_destroyed d r.loc && not (is_at_one_of r.loc results)) r (killed_among rs d results) (killed_in k rs d results z e f)
killed_in k [] d results z e f = elim z [ ]

pub killed_has : (k : Reg) (rs : List Reg) (d : Destroyed) (results : List Reg) → IsIn k rs → is_destroyed d k.loc ≡ true → is_at_one_of k.loc results ≡ false →
    AmongRegisters k.number (killed_by rs d results)
killed_has k rs Nothing results z e f = absurd (true≢false (sym e))
killed_has k rs Temporaries results z e f = killed_in k rs Temporaries results z e f
killed_has k rs Everything results z e f = killed_in k rs Everything results z e f

pub record Killed (n : ℕ) (rs : List Reg) (d : Destroyed) : Type 0 where
  pub reg : Reg
  pub number : reg.number ≡ n
  pub inside : IsIn reg rs
  pub destroyed : is_destroyed d reg.loc ≡ true

among_killed : (n : ℕ) (rs : List Reg) (d : Destroyed) (results : List Reg) → AmongRegisters n (killed_among rs d results) → Killed n rs d
among_killed n [] d results z = elim z [ ]
among_killed n (r ∷ rs) d results z =
    by (is_destroyed d r.loc && not (is_at_one_of r.loc results)) refl z
    (λ y. let k = among_killed n rs d results y in record { reg = k.reg; number = k.number; inside = is_later k.inside; destroyed = k.destroyed })
  where
    by : (b : Bool) → is_destroyed d r.loc && not (is_at_one_of r.loc results) ≡ b → AmongRegisters n (cond b (r ∷ killed_among rs d results) (killed_among rs d results)) →
        (AmongRegisters n (killed_among rs d results) → Killed n (r ∷ rs) d) → Killed n (r ∷ rs) d
    by true e (first x) h = record { reg = r; number = x; inside = is_first; destroyed = (and_parts _ _ e).0 }
    by true e (later y) h = h y
    by false e y h = h y

pub killed_of : (n : ℕ) (rs : List Reg) (d : Destroyed) (results : List Reg) → AmongRegisters n (killed_by rs d results) → Killed n rs d
killed_of n rs Nothing results z = elim z [ ]
killed_of n rs Temporaries results z = among_killed n rs Temporaries results z
killed_of n rs Everything results z = among_killed n rs Everything results z

-- ---- at their homes

module _ (number : ℕ → ℕ) where
  -- a place that is a home
  pub home_is_place : (r : Reg) → HasColourOrSlot r → same_loc (home number r.loc) (home number r.loc) ≡ true
  home_is_place r (in_colour n c e) = subst (λ l. same_loc (home number l) (home number l) ≡ true) (sym e) (eq-eqb n n refl)
  home_is_place r (in_slot e) = subst (λ l. same_loc (home number l) (home number l) ≡ true) (sym e) (eq-eqb (number r.origin) (number r.origin) refl)

  pub record SpotOf (s : Spot) (rs : List Reg) : Type 0 where
    pub reg : Reg
    pub inside : IsIn reg rs
    pub same : spot_of_register number reg ≡ s

  pub spot_of : (s : Spot) (rs : List Reg) → IsIn s (spots number rs) → SpotOf s rs
  spot_of s [] z = elim z [ ]
  spot_of s (r ∷ rs) is_first = record { reg = r; inside = is_first; same = refl }
  spot_of s (r ∷ rs) (is_later z) = let y = spot_of s rs z in record { reg = y.reg; inside = is_later y.inside; same = y.same }

  pub in_spots : {r : Reg} {rs : List Reg} → IsIn r rs → IsIn (spot_of_register number r) (spots number rs)
  in_spots is_first = is_first
  in_spots (is_later i) = is_later (in_spots i)

  module _ (p : Mach) (end : ℕ) where
    -- what a register holds fits its component
    abbrev pub Typed : File → Type 0
    Typed a = (r : Reg) → IsRegister p r → (x : Held) → a r.number ≡ Some x → (x.comp ≡ r.comp) × (fits end (type_of_comp r.comp) x.value ≡ true)

    -- the same writes at places
    pub record Puts (rs : List Reg) (vs : List Value) (a d : File) (b : Locations) : Type 0 where
      pub file : Locations
      pub puts : lin.put_all end (spots number rs) vs b ≡ Some file
      pub at : (q : Reg) → IsRegister p q → (x : Held) → d q.number ≡ Some x →
          ((r : Reg) (v : Value) → Pair r v rs vs → nat_eq r.number q.number ≡ false → home number r.loc ≡ home number q.loc → v ≡ x.value) →
          ((AmongRegisters q.number rs → ⊥) → ((r : Reg) → IsIn r rs → home number r.loc ≡ home number q.loc → ⊥) → a q.number ≡ Some x → b (home number q.loc) ≡ Some x.value) →
          file (home number q.loc) ≡ Some x.value

    module _ (numbers : (r q : Reg) → IsRegister p r → IsRegister p q → r.number ≡ q.number → r ≡ q) (placed : (r : Reg) → IsRegister p r → HasColourOrSlot r) where
      pub puts_at : {a : File} {rs : List Reg} {vs : List Value} {d : File} (b : Locations) → PutAll end a rs vs d → ((r : Reg) → IsIn r rs → IsRegister p r) → Puts rs vs a d b
      puts_at b nil regs = record { file = b; puts = refl; at = λ n i x e h base. base (λ z. elim z [ ]) (λ r z. elim z [ ]) e }
      puts_at {a} b (cons {r = r} {v = v} {rs = rs} {vs = vs} {d = d} fit ps) regs = by (puts_at b ps (λ k z. regs k (is_later z)))
        where
          by : Puts rs vs a d b → Puts (r ∷ rs) (v ∷ vs) a (assign_register r v d) b
          by y =
              record {
                file = lin.assign_spot (spot_of_register number r) v y.file;
                puts = ap (λ o. lin.put_if (fits end (type_of_comp r.comp) v) (spot_of_register number r) v o) y.puts
                    ∙ ap (λ t. lin.put_if t (spot_of_register number r) v (Some y.file)) fit;
                at = λ q i x e h base. two q i x h base (nat_eq r.number q.number) (same_loc (home number r.loc) (home number q.loc)) refl refl e;
              }
            where
              two : (q : Reg) → IsRegister p q → (x : Held) →
                  ((k : Reg) (w : Value) → Pair k w (r ∷ rs) (v ∷ vs) → nat_eq k.number q.number ≡ false → home number k.loc ≡ home number q.loc → w ≡ x.value) →
                  ((AmongRegisters q.number (r ∷ rs) → ⊥) → ((k : Reg) → IsIn k (r ∷ rs) → home number k.loc ≡ home number q.loc → ⊥) → a q.number ≡ Some x → b (home number q.loc) ≡ Some x.value) →
                  (s t : Bool) → nat_eq r.number q.number ≡ s → same_loc (home number r.loc) (home number q.loc) ≡ t →
                  cond s (Some (record { comp = r.comp; value = v })) (d q.number) ≡ Some x → cond t (Some v) (y.file (home number q.loc)) ≡ Some x.value
              two q i x h base true true s t e = ap (λ (z : Held). Some z.value) (same_Some (record { comp = r.comp; value = v }) x e)
              two q i x h base true false s t e =
                  absurd (true≢false (sym (subst (λ (k : Reg). same_loc (home number r.loc) (home number k.loc) ≡ true) (numbers r q (regs r is_first) i (eqb-true r.number q.number s))
                  (home_is_place r (placed r (regs r is_first)))) ∙ t))
              two q i x h base false true s t e = ap Some (h r v pair_first s (same_loc_is (home number r.loc) (home number q.loc) t))
              two q i x h base false false s t e =
                  y.at q i x e (λ k w z u same. h k w (pair_later z) u same)
                  (λ free none. base (λ z. not_here free z) (λ k z same. not_there none k z same))
                where
                  not_here : (AmongRegisters q.number rs → ⊥) → AmongRegisters q.number (r ∷ rs) → ⊥
                  not_here free (first same) = true≢false (sym (eq-eqb r.number q.number same) ∙ s)
                  not_here free (later z) = free z

                  same_true : home number r.loc ≡ home number q.loc → same_loc (home number r.loc) (home number q.loc) ≡ true
                  same_true same = subst (λ l. same_loc l (home number q.loc) ≡ true) (sym same) (home_is_place q (placed q i))

                  not_there : ((k : Reg) → IsIn k rs → home number k.loc ≡ home number q.loc → ⊥) → (k : Reg) → IsIn k (r ∷ rs) → home number k.loc ≡ home number q.loc → ⊥
                  not_there none k is_first same = true≢false (sym (same_true same) ∙ t)
                  not_there none k (is_later z) same = none k z same

      pub typed_put : {a : File} {rs : List Reg} {vs : List Value} {d : File} → PutAll end a rs vs d → ((r : Reg) → IsIn r rs → IsRegister p r) → Typed a → Typed d
      typed_put nil regs t q i x e = t q i x e
      typed_put (cons {r = r} {v = v} {d = d} fit ps) regs t q i x e = by (nat_eq r.number q.number) refl e (λ u. typed_put ps (λ k z. regs k (is_later z)) t q i x u)
        where
          by : (s : Bool) → nat_eq r.number q.number ≡ s → cond s (Some (record { comp = r.comp; value = v })) (d q.number) ≡ Some x →
              (d q.number ≡ Some x → (x.comp ≡ q.comp) × (fits end (type_of_comp q.comp) x.value ≡ true)) → (x.comp ≡ q.comp) × (fits end (type_of_comp q.comp) x.value ≡ true)
          by false s e old = old e
          by true s e old =
              let same = same_Some (record { comp = r.comp; value = v }) x e in
              let k : r.comp ≡ q.comp = ap (λ (z : Reg). z.comp) (numbers r q (regs r is_first) i (eqb-true r.number q.number s)) in (
                ap (λ (z : Held). z.comp) (sym same) ∙ k,
                ap (λ (z : Held). fits end (type_of_comp q.comp) z.value) (sym same) ∙ ap (λ k. fits end (type_of_comp k) v) (sym k) ∙ fit,
              )

    pub reads_all : (a : File) (b : Locations) (rs : List Reg) (vs : List Value) → values a rs ≡ Some vs →
        ((r : Reg) → IsIn r rs → (x : Held) → a r.number ≡ Some x → (b (home number r.loc) ≡ Some x.value) × (fits end (type_of_comp r.comp) x.value ≡ true)) →
        lin.values end b (spots number rs) ≡ Some vs
    reads_all a b [] vs e h = e
    reads_all a b (r ∷ rs) vs e h = by (a r.number) (values a rs) refl refl e (λ ws q. reads_all a b rs ws q (λ n z x u. h n (is_later z) x u))
      where
        by : (o : Option Held) (ws : Option (List Value)) → a r.number ≡ o → values a rs ≡ ws → with_held o ws ≡ Some vs →
            ((ws : List Value) → values a rs ≡ Some ws → lin.values end b (spots number rs) ≡ Some ws) →
            lin.with_held end r.comp (b (home number r.loc)) (lin.values end b (spots number rs)) ≡ Some vs
        by None ws s t e old = absurd (values_none vs e)
        by (Some x) None s t e old = absurd (values_none vs e)
        by (Some x) (Some ws) s t e old =
            let g = h r is_first x s in
            ap (λ o. lin.with_held end r.comp o (lin.values end b (spots number rs))) g.0
            ∙ ap (λ t. as_type t x.value (lin.values end b (spots number rs))) g.1
            ∙ ap (λ o. as_type true x.value o) (old ws t) ∙ e

pub in_map : {A B : Type 0} (f : A → B) {x : A} {xs : List A} → IsIn x xs → IsIn (f x) (map f xs)
in_map f is_first = is_first
in_map f (is_later i) = is_later (in_map f i)

pub not_unset : (r : Reg) → HasColourOrSlot r → r.loc ≡ loc.Unset → ⊥
not_unset r (in_colour n c e) u = out n (sym e ∙ u)
  where
    out : (n : ℕ) → loc.Machine n ≡ loc.Unset → ⊥
    out n e = cc
not_unset r (in_slot e) u = out r.origin (sym e ∙ u)
  where
    out : (n : ℕ) → loc.Slot n ≡ loc.Unset → ⊥
    out n e = cc

pub record FromMap {A B : Type 0} (f : A → B) (y : B) (xs : List A) : Type 0 where
  pub from : A
  pub inside : IsIn from xs
  pub same : f from ≡ y

pub of_map : {A B : Type 0} (f : A → B) (y : B) (xs : List A) → IsIn y (map f xs) → FromMap f y xs
of_map f y [] i = elim i [ ]
of_map f y (x ∷ xs) is_first = record { from = x; inside = is_first; same = refl }
of_map f y (x ∷ xs) (is_later i) = let h = of_map f y xs i in record { from = h.from; inside = is_later h.inside; same = h.same }
