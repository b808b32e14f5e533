-- Files of values by number: what is read, written and cleared, in one and in two of them.
use Rattle.std.proofs.Common.{◌≡◌, ℕ, Bool, true, false, cond, List, [], ◌∷◌, map, Option, Some, None, refl, sym, ap, ◌∙◌, subst}
use Rattle.std.proofs.lemmas.Bool.{eq-eqb, eqb-true, both_ways}
use Rattle.std.specs.Prelude.{nat_eq}
use Rattle.std.proofs.lemmas.Option.{none-some, same_Some}
use Rattle.bs_words.specs.Fits.{fits, type_of_comp}
use Rattle.bs_words.specs.declared.values.Value.{Value}
use Rattle.mach_ir.specs.Meaning.{Held, File, assign_register, put_if, put_all, clear_registers, with_held, values, past_frame, unless_addr}
use Rattle.mach_ir.specs.Walks.{AmongRegisters, first, later}
use Rattle.mach_ir.specs.declared.reg.Reg.{Reg}
use Rattle.mach_laws.proofs.Files.{put_other}

-- ---- what is read

pub values_same : (a b : File) (rs : List Reg) → ((n : ℕ) → AmongRegisters n rs → a n ≡ b n) → values a rs ≡ values b rs
values_same a b [] h = refl
values_same a b (r ∷ rs) h =
    ap (λ o. with_held o (values a rs)) (h r.number (first refl))
    ∙ ap (with_held (b r.number)) (values_same a b rs (λ n z. h n (later z)))

pub past_same : (t : Bool) (a b : File) (n x : ℕ) → a n ≡ b x → past_frame t a n ≡ past_frame t b x
past_same false a b n x e = e
past_same true a b n x e = ap unless_addr e

-- ---- what is cleared, and what is not

abbrev IsNone : Option Held → Type 0
IsNone o = o ≡ None

pub cleared : (ks : List Reg) (f : File) (n : ℕ) → AmongRegisters n ks → IsNone (clear_registers ks f n)
cleared (k ∷ ks) f n (first e) = ap (λ b. cond b None (clear_registers ks f n)) (eq-eqb k.number n e)
cleared (k ∷ ks) f n (later a) = by (nat_eq k.number n) (cleared ks f n a)
  where
    by : (b : Bool) → IsNone (clear_registers ks f n) → IsNone (cond b None (clear_registers ks f n))
    by true e = refl
    by false e = e
cleared [] f n a = elim a [ ]

pub not_cleared : (ks : List Reg) (f : File) (n : ℕ) → (AmongRegisters n ks → ⊥) → clear_registers ks f n ≡ f n
not_cleared [] f n h = refl
not_cleared (k ∷ ks) f n h = by (nat_eq k.number n) refl (not_cleared ks f n (λ a. h (later a)))
  where
    by : (b : Bool) → nat_eq k.number n ≡ b → clear_registers ks f n ≡ f n → cond b None (clear_registers ks f n) ≡ f n
    by true s e = absurd (h (first (eqb-true k.number n s)))
    by false s e = e

-- ---- what is written

pub put_here : (r : Reg) (v : Value) (f : File) (n : ℕ) → r.number ≡ n → assign_register r v f n ≡ Some (record { comp = r.comp; value = v })
put_here r v f n e = ap (λ b. cond b (Some (record { comp = r.comp; value = v })) (f n)) (eq-eqb r.number n e)

-- the registers by other numbers
abbrev pub renumbered : (ℕ → ℕ) → List Reg → List Reg
renumbered f' rs = map (λ (r : Reg). record r { number = f' r.number }) rs

-- The same writes by other numbers, which tell those registers apart.
pub record PutsToo (f' back : ℕ → ℕ) (end : ℕ) (rs : List Reg) (vs : List Value) (f g d : File) : Type 0 where
  pub file : File
  pub puts : put_all end (renumbered f' rs) vs g ≡ Some file
  pub same : (n : ℕ) → AmongRegisters n rs → d n ≡ file (f' n)
  pub others : (n : ℕ) → (AmongRegisters n rs → ⊥) → d n ≡ f n
  pub others_new : (x : ℕ) → (AmongRegisters x (renumbered f' rs) → ⊥) → file x ≡ g x

pub put_twice : (f' back : ℕ → ℕ) (end : ℕ) (rs : List Reg) (vs : List Value) (f g d : File) →
    ((n : ℕ) → AmongRegisters n rs → back (f' n) ≡ n) → put_all end rs vs f ≡ Some d → PutsToo f' back end rs vs f g d
put_twice f' back end [] [] f g d known e =
    record {
      file = g;
      puts = refl;
      same = λ n a. elim a [ ];
      others = λ n h. ap (λ (x : File). x n) (sym (same_Some _ _ e));
      others_new = λ x h. refl;
    }
put_twice f' back end [] (v ∷ vs) f g d known e = absurd (none-some _ e)
put_twice f' back end (r ∷ rs) [] f g d known e = absurd (none-some _ e)
put_twice f' back end (r ∷ rs) (v ∷ vs) f g d known e =
    by (fits end (type_of_comp r.comp) v) (put_all end rs vs f) refl refl e
    (λ c h. put_twice f' back end rs vs f g c (λ n a. known n (later a)) h)
  where
    as_new : Reg
    as_new = record r { number = f' r.number }

    one : (c : File) → PutsToo f' back end rs vs f g c → assign_register r v c ≡ d → fits end (type_of_comp r.comp) v ≡ true →
        PutsToo f' back end (r ∷ rs) (v ∷ vs) f g d
    one c p e t =
        record {
          file = assign_register as_new v p.file;
          puts = ap (λ b. put_if b as_new v (put_all end (renumbered f' rs) vs g)) t ∙ ap (put_if true as_new v) p.puts;
          same = λ n a. ap (λ (x : File). x n) (sym e) ∙ at_one n a (nat_eq r.number n) refl;
          others = λ n h. ap (λ (x : File). x n) (sym e) ∙ put_other r v c n (λ s. h (first s)) ∙ p.others n (λ a. h (later a));
          others_new = λ x h. put_other as_new v p.file x (λ s. h (first s)) ∙ p.others_new x (λ a. h (later a));
        }
      where
        rest_of : (n : ℕ) → nat_eq r.number n ≡ false → AmongRegisters n (r ∷ rs) → AmongRegisters n rs
        rest_of n s (first k) = absurd (both_ways (nat_eq r.number n) s (eq-eqb r.number n k))
        rest_of n s (later a) = a

        -- two of them have one new number only if they have one old
        apart : (n : ℕ) → AmongRegisters n (r ∷ rs) → nat_eq r.number n ≡ false → f' r.number ≡ f' n → ⊥
        apart n a s h =
            both_ways (nat_eq r.number n) s (eq-eqb r.number n (sym (known r.number (first refl)) ∙ ap back h ∙ known n a))

        at_one : (n : ℕ) → AmongRegisters n (r ∷ rs) → (b : Bool) → nat_eq r.number n ≡ b →
            cond b (Some (record { comp = r.comp; value = v })) (c n) ≡ assign_register as_new v p.file (f' n)
        at_one n a true s = sym (put_here as_new v p.file (f' n) (ap f' (eqb-true r.number n s)))
        at_one n a false s = p.same n (rest_of n s a) ∙ sym (put_other as_new v p.file (f' n) (apart n a s))

    by : (t : Bool) (o : Option File) → fits end (type_of_comp r.comp) v ≡ t → put_all end rs vs f ≡ o →
        put_if t r v o ≡ Some d → ((c : File) → put_all end rs vs f ≡ Some c → PutsToo f' back end rs vs f g c) →
        PutsToo f' back end (r ∷ rs) (v ∷ vs) f g d
    by false o t e h again = absurd (none-some _ h)
    by true None t e h again = absurd (none-some _ h)
    by true (Some c) t e h again = one c (again c e) (same_Some _ _ h) t

-- the same writes into two files
pub record PutsBoth (end : ℕ) (rs : List Reg) (vs : List Value) (f g d : File) : Type 0 where
  pub file : File
  pub puts : put_all end rs vs g ≡ Some file
  pub same : (n : ℕ) → AmongRegisters n rs → d n ≡ file n
  pub others : (n : ℕ) → (AmongRegisters n rs → ⊥) → d n ≡ f n
  pub others_new : (n : ℕ) → (AmongRegisters n rs → ⊥) → file n ≡ g n

same_numbers : (rs : List Reg) → renumbered (λ n. n) rs ≡ rs
same_numbers [] = refl
same_numbers (r ∷ rs) = ap (λ qs. r ∷ qs) (same_numbers rs)

pub put_both : (end : ℕ) (rs : List Reg) (vs : List Value) (f g d : File) → put_all end rs vs f ≡ Some d → PutsBoth end rs vs f g d
put_both end rs vs f g d e =
    let p = put_twice (λ n. n) (λ n. n) end rs vs f g d (λ n z. refl) e in
    record {
      file = p.file;
      puts = ap (λ qs. put_all end qs vs g) (sym (same_numbers rs)) ∙ p.puts;
      same = p.same;
      others = p.others;
      others_new = λ n h. p.others_new n (λ z. h (subst (AmongRegisters n) (same_numbers rs) z));
    }
