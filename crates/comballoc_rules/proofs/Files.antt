-- Registers that are written where one file has all that another has, and blocks whose starts are in registers.
use Rattle.std.proofs.Common.{◌≡◌, ℕ, suc, ◌+◌, Bool, true, false, cond, List, [], ◌∷◌, ◌++◌, length, Option, Some, None, refl, sym, ap, ◌∙◌, subst, arith, append_assoc}
use Rattle.std.specs.Prelude.{nat_eq}
use Rattle.std.proofs.lemmas.Bool.{true≢false, eq-eqb, eqb-true}
use Rattle.std.proofs.lemmas.List.{length-append, append-nil}
use Rattle.std.proofs.lemmas.Option.{none-some}
use Rattle.bs_words.specs.Fits.{fits, type_of_comp}
use Rattle.bs_words.specs.declared.types.Comp.{Comp}
use Rattle.bs_words.specs.declared.types.Comp.TheVariants as comp
use Rattle.bs_words.specs.declared.values.Value.{Value}
use Rattle.bs_words.specs.declared.values.Value.TheVariants as value
use Rattle.mach_laws.proofs.Among.{among_number}
use Rattle.mach_laws.proofs.Files.{PutAll, nil, cons, put_other, put_same}
use Rattle.comballoc_rules.specs.Kept.{holds_block}
use Rattle.mach_ir.specs.Acts.{Around, On, Goes, new_blocks, with_block, fresh_block}
use Rattle.mach_ir.specs.Keeps.{ahead}
use Rattle.mach_ir.specs.Meaning.{Held, File, assign_register, put_if, put_all, clear_registers, values, with_held, past_frame, unless_addr, is_addr}
use Rattle.mach_ir.specs.Walks.{AmongRegisters, first, later}
use Rattle.mach_ir.specs.declared.blocks.NewBlock.{NewBlock}
use Rattle.mach_ir.specs.declared.reg.Reg.{Reg}

-- ---- writes, one by one

pub put_is : {end : ℕ} {a : File} {rs : List Reg} {vs : List Value} {d : File} → PutAll end a rs vs d → put_all end rs vs a ≡ Some d
put_is nil = refl
put_is {end} {a = a} (cons {r = r} {v = v} {rs = rs} {vs = vs} {d = d} e p) = ap (λ o. put_if (fits end (type_of_comp r.comp) v) r v o) (put_is p) ∙ ap (λ b. put_if b r v (Some d)) e

-- ---- where one file has all that another has

-- what the first has, the second has
abbrev pub Has : Option Held → Option Held → Type 0
Has x y = (v : Held) → x ≡ Some v → y ≡ Some v

has_cond : (b : Bool) (z x y : Option Held) → (b ≡ false → Has x y) → Has (cond b z x) (cond b z y)
has_cond true z x y h v e = e
has_cond false z x y h v e = h refl v e

pub not_among : {n : ℕ} {rs : List Reg} (r : Reg) → nat_eq r.number n ≡ false → (AmongRegisters n rs → ⊥) → AmongRegisters n (r ∷ rs) → ⊥
not_among {n} r e free (first s) = true≢false (sym (eq-eqb r.number n s) ∙ e)
not_among r e free (later i) = free i

pub clear_has : (ks : List Reg) (a b : File) (n : ℕ) → ((AmongRegisters n ks → ⊥) → Has (a n) (b n)) → Has (clear_registers ks a n) (clear_registers ks b n)
clear_has [] a b n h = h (λ i. elim i [ ])
clear_has (k ∷ ks) a b n h = has_cond (nat_eq k.number n) None (clear_registers ks a n) (clear_registers ks b n) (λ e. clear_has ks a b n (λ free. h (not_among k e free)))

pub record Puts (end : ℕ) (rs : List Reg) (vs : List Value) (a d b : File) : Type 0 where
  pub file : File
  pub puts : PutAll end b rs vs file
  pub has : (n : ℕ) → ((AmongRegisters n rs → ⊥) → Has (a n) (b n)) → Has (d n) (file n)
  pub free : (n : ℕ) → (AmongRegisters n rs → ⊥) → file n ≡ b n

pub puts_has : {end : ℕ} {a : File} {rs : List Reg} {vs : List Value} {d : File} (b : File) → PutAll end a rs vs d → Puts end rs vs a d b
puts_has b nil = record { file = b; puts = nil; has = λ n h. h (λ i. elim i [ ]); free = λ n f. refl }
puts_has b (cons {r = r} {v = v} {d = d} e p) =
    let y = puts_has b p in
    record {
      file = assign_register r v y.file;
      puts = cons e y.puts;
      has = λ n h. has_cond (nat_eq r.number n) (Some (record { comp = r.comp; value = v })) (d n) (y.file n) (λ q. y.has n (λ free. h (not_among r q free)));
      free = λ n f. put_other r v y.file n (λ s. f (first s)) ∙ y.free n (λ i. f (later i));
    }

pub puts_append : {end : ℕ} {a b d : File} {rs qs : List Reg} {vs ws : List Value} → PutAll end a qs ws b → PutAll end b rs vs d → PutAll end a (rs ++ qs) (vs ++ ws) d
puts_append p nil = p
puts_append p (cons e q) = cons e (puts_append p q)

pub frame_has : (pf : Bool) (a b : File) (n : ℕ) → Has (a n) (b n) → Has (past_frame pf a n) (past_frame pf b n)
frame_has false a b n h = h
frame_has true a b n h = by (a n) refl
  where
    by_addr : (x : Held) → a n ≡ Some x → (t : Bool) → is_addr x.comp ≡ t → Has (cond t None (Some x)) (unless_addr (b n))
    by_addr x e true t v g = absurd (none-some _ g)
    by_addr x e false t v g = ap unless_addr (h x e) ∙ ap (λ z. cond z None (Some x)) t ∙ g

    by : (o : Option Held) → a n ≡ o → Has (unless_addr o) (unless_addr (b n))
    by None e v g = absurd (none-some _ g)
    by (Some x) e v g = by_addr x e (is_addr x.comp) refl v g

-- ---- starts of blocks

-- the starts of the blocks from this serial on, one for each of these registers
abbrev pub starts : ℕ → List Reg → List Value
starts s [] = []
starts s (r ∷ rs) = value.Block s 0 ∷ starts (suc s) rs

-- they are in the registers
pub data Holds (b : File) : ℕ → List Reg → Type 0 where
  holds_none : {s : ℕ} → Holds b s []
  holds_one : {s : ℕ} {r : Reg} {rs : List Reg} → b r.number ≡ Some (record { comp = r.comp; value = value.Block s 0 }) →
      Holds b (suc s) rs → Holds b s (r ∷ rs)

pub starts_append : (s : ℕ) (xs ys : List Reg) → starts s (xs ++ ys) ≡ starts s xs ++ starts (s + length xs) ys
starts_append s [] ys = ap (λ k. starts k ys) (omega arith)
starts_append s (x ∷ xs) ys =
    ap (λ vs. value.Block s 0 ∷ vs)
    (starts_append (suc s) xs ys ∙ ap (λ k. starts (suc s) xs ++ starts k ys) (omega arith))

pub holds_after : {b : File} (s : ℕ) (xs : List Reg) {ys : List Reg} → Holds b s (xs ++ ys) → Holds b (s + length xs) ys
holds_after {b} s [] {ys} h = subst (λ k. Holds b k ys) (omega arith) h
holds_after {b} s (x ∷ xs) {ys} (holds_one e h) = subst (λ k. Holds b k ys) (omega arith) (holds_after (suc s) xs h)

pub holds_before : {b : File} (s : ℕ) (xs ys : List Reg) → Holds b s (xs ++ ys) → Holds b s xs
holds_before s [] ys h = holds_none
holds_before s (x ∷ xs) ys (holds_one e h) = holds_one e (holds_before (suc s) xs ys h)

pub holds_same : {b d : File} {s : ℕ} {rs : List Reg} → ((n : ℕ) → AmongRegisters n rs → d n ≡ b n) → Holds b s rs → Holds d s rs
holds_same g holds_none = holds_none
holds_same g (holds_one {r = r} e h) = holds_one (g r.number (first refl) ∙ e) (holds_same (λ n i. g n (later i)) h)

-- each of these takes the start of a block
pub data Homes : List Reg → Type 0 where
  no_homes : Homes []
  a_home : {r : Reg} {rs : List Reg} → holds_block r.comp ≡ true → Homes rs → Homes (r ∷ rs)

home_fits : (end s : ℕ) (t : Comp) → holds_block t ≡ true → fits end (type_of_comp t) (value.Block s 0) ≡ true
home_fits end s comp.Int e = absurd (true≢false (sym e))
home_fits end s comp.Val e = refl
home_fits end s comp.Addr e = refl
home_fits end s comp.Float e = absurd (true≢false (sym e))

-- no number occurs twice
pub data Distinct : List Reg → Type 0 where
  no_regs : Distinct []
  one_more : {r : Reg} {rs : List Reg} → (AmongRegisters r.number rs → ⊥) → Distinct rs → Distinct (r ∷ rs)

pub record Written (end s : ℕ) (rs : List Reg) (b : File) : Type 0 where
  pub file : File
  pub puts : PutAll end b rs (starts s rs) file
  pub holds : Holds file s rs
  pub free : (n : ℕ) → (AmongRegisters n rs → ⊥) → file n ≡ b n

pub write_starts : (end s : ℕ) {rs : List Reg} (b : File) → Homes rs → Distinct rs → Written end s rs b
write_starts end s b no_homes d = record { file = b; puts = nil; holds = holds_none; free = λ n f. refl }
write_starts end s b (a_home {r = r} {rs = rs} e h) (one_more free d) =
    let y = write_starts end (suc s) b h d in
    record {
      file = assign_register r (value.Block s 0) y.file;
      puts = cons (home_fits end s r.comp e) y.puts;
      holds = holds_one (put_same r (value.Block s 0) y.file)
          (holds_same (λ n i. put_other r (value.Block s 0) y.file n (λ z. free (among_number (sym z) i))) y.holds);
      free = λ n f. put_other r (value.Block s 0) y.file n (λ z. f (first z)) ∙ y.free n (λ i. f (later i));
    }

-- what the first writes at last, the second has
pub held_has : {end : ℕ} {b : File} {a : File} {s : ℕ} {d : File} {rs : List Reg} → Holds b s rs → PutAll end a rs (starts s rs) d →
    (n : ℕ) → ((AmongRegisters n rs → ⊥) → Has (a n) (b n)) → Has (d n) (b n)
held_has holds_none nil n h = h (λ i. elim i [ ])
held_has {b = b} {a = a} {s = s} (holds_one {r = r} {rs = rs} e hs) (cons {d = d} q p) n h =
    by (nat_eq r.number n) refl (λ free. held_has hs p n free)
  where
    by : (t : Bool) → nat_eq r.number n ≡ t → (((AmongRegisters n rs → ⊥) → Has (a n) (b n)) → Has (d n) (b n)) →
        Has (cond t (Some (record { comp = r.comp; value = value.Block s 0 })) (d n)) (b n)
    by true t ih v g = ap b (sym (eqb-true r.number n t)) ∙ e ∙ g
    by false t ih v g = ih (λ free. h (not_among r t free)) v g

pub frame_loses : (pf : Bool) (a : File) (n : ℕ) → Has (past_frame pf a n) (a n)
frame_loses false a n v e = e
frame_loses true a n v e = by (a n) e
  where
    by_addr : (x : Held) (t : Bool) → cond t None (Some x) ≡ Some v → Some x ≡ Some v
    by_addr x true g = absurd (none-some _ g)
    by_addr x false g = g

    by : (o : Option Held) → unless_addr o ≡ Some v → o ≡ Some v
    by None g = g
    by (Some x) g = by_addr x (is_addr x.comp) g

pub values_has : (a b : File) (rs : List Reg) → ((n : ℕ) → AmongRegisters n rs → Has (a n) (b n)) → (vs : List Value) →
    values a rs ≡ Some vs → values b rs ≡ Some vs
values_has a b [] h vs e = e
values_has a b (r ∷ rs) h vs e = by (a r.number) (values a rs) refl refl (λ ws w. values_has a b rs (λ n i. h n (later i)) ws w) e
  where
    no_values : (ws : List Value) → None ≡ Some ws → ⊥
    no_values ws e = cc

    by : (o : Option Held) (m : Option (List Value)) → a r.number ≡ o → values a rs ≡ m →
        ((ws : List Value) → values a rs ≡ Some ws → values b rs ≡ Some ws) → with_held o m ≡ Some vs →
        with_held (b r.number) (values b rs) ≡ Some vs
    by None m x y ih e = absurd (no_values vs e)
    by (Some v) None x y ih e = absurd (no_values vs e)
    by (Some v) (Some ws) x y ih e =
        ap (λ o. with_held o (values b rs)) (h r.number (first refl) v x) ∙ ap (with_held (Some v)) (ih ws y) ∙ e

-- ---- what an allocation makes

pub length_ahead : (bs : List NewBlock) (a : Around) → length (ahead bs a).memory.blocks ≡ length a.memory.blocks + length bs
length_ahead [] a = omega arith
length_ahead (b ∷ bs) a =
    let e = length_ahead bs (with_block b a) in
    let g = length-append a.memory.blocks (fresh_block b ∷ []) in
    omega (arith, e, g)

pub allocated : (bs : List NewBlock) (rs : List Reg) (so_far : List Value) (a : Around) → length rs ≡ length bs →
    new_blocks bs so_far a ≡ Goes (so_far ++ starts (length a.memory.blocks) rs) On (ahead bs a)
allocated [] [] so_far a e = ap (λ vs. Goes vs On a) (sym (append-nil so_far))
allocated [] (r ∷ rs) so_far a e = absurd (omega (arith, e))
allocated (b ∷ bs) [] so_far a e = absurd (omega (arith, e))
allocated (b ∷ bs) (r ∷ rs) so_far a e =
    allocated bs rs (so_far ++ value.Block (length a.memory.blocks) 0 ∷ []) (with_block b a) (omega (arith, e))
    ∙ ap (λ vs. Goes vs On (ahead bs (with_block b a)))
    (ap (λ k. (so_far ++ value.Block (length a.memory.blocks) 0 ∷ []) ++ starts k rs) (length_ahead (b ∷ []) a ∙ one (length a.memory.blocks))
    ∙ append_assoc so_far (value.Block (length a.memory.blocks) 0 ∷ []) (starts (suc (length a.memory.blocks)) rs))
  where
    one : (k : ℕ) → k + 1 ≡ suc k
    one k = omega arith
