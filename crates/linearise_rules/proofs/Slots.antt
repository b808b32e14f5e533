-- The numbers that slots get: one for each slot that occurs, from 0 on.
use Rattle.std.proofs.Common.{◌≡◌, ℕ, zero, suc, ◌<◌, ◌≤◌, Bool, true, false, cond, ◌||◌, ◌⊎◌, inl, inr, ⊎_elim, List, [], ◌∷◌, max, nat_eq, refl, sym, ap, ◌∙◌, subst, arith}
use Rattle.std.proofs.lemmas.Bool.{true≢false, eq-eqb, eqb-true, or_right}
use Rattle.std.proofs.lemmas.Bool.Decides.{leb_tells}
use Rattle.bs_words.specs.declared.types.Loc.{Loc}
use Rattle.bs_words.specs.declared.types.Loc.TheVariants as loc
use Rattle.bs_words.proofs.Lists.{none_in, first_in, later_in, in_cons}
use Rattle.std.specs.List.{Contains}
use Rattle.mach_ir.specs.Walks.{InCode, in_args, in_results, further, IsRegister, is_param, is_in_code}
use Rattle.mach_ir.specs.declared.reg.Reg.{Reg}
use Rattle.mach_ir.specs.declared.mach.Instr.{Instr}
use Rattle.mach_ir.specs.declared.mach.Mach.{Mach}
use Rattle.linearise_rules.specs.Lowered.{with_slot_of, slots_of_regs, slots_of_code, slots_of_function, is_among_numbers, count_below, limit_above, slot_number, slot_count}

-- ---- counting

module _ (ns : List ℕ) where
  count_step : (k : ℕ) → count_below ns k ≤ count_below ns (suc k)
  count_step k = by (is_among_numbers k ns)
    where
      by : (t : Bool) → count_below ns k ≤ cond t (suc (count_below ns k)) (count_below ns k)
      by true = omega arith
      by false = omega arith

  pub count_rises : (k n : ℕ) → k ≤ n → count_below ns k ≤ count_below ns n
  count_rises k zero le = let e : k ≡ 0 = omega (arith, le) in subst (λ k. count_below ns k ≤ 0) (sym e) (omega arith)
  count_rises k (suc n) le = ⊎_elim (λ e. subst (λ k. count_below ns k ≤ count_below ns (suc n)) (sym e) (omega arith)) (λ lt. two (count_rises k n lt)) (split k n le)
    where
      split : (k n : ℕ) → k ≤ suc n → (k ≡ suc n) ⊎ (k ≤ n)
      split k n le = ⊎_elim (λ a. inr a.1) (λ a. let u = a.1 in inl (omega (arith, u, le))) (leb_tells k n)

      two : count_below ns k ≤ count_below ns n → count_below ns k ≤ count_below ns (suc n)
      two a = let b = count_step n in omega (arith, a, b)

  pub count_next : (k : ℕ) → is_among_numbers k ns ≡ true → count_below ns (suc k) ≡ suc (count_below ns k)
  count_next k e = ap (λ t. cond t (suc (count_below ns k)) (count_below ns k)) e

  -- a number that occurs comes before those above it
  pub count_strict : (k n : ℕ) → is_among_numbers k ns ≡ true → k < n → count_below ns k < count_below ns n
  count_strict k n e lt =
      let a = count_rises (suc k) n lt in let b = count_next k e in omega (arith, a, b)

  pub count_injective : (k n : ℕ) → is_among_numbers k ns ≡ true → is_among_numbers n ns ≡ true → count_below ns k ≡ count_below ns n → k ≡ n
  count_injective k n e f same = by (order k n)
    where
      order : (k n : ℕ) → (k < n) ⊎ ((n < k) ⊎ (k ≡ n))
      order k n = ⊎_elim (λ a. inl a.1) (λ a. ⊎_elim (λ b. inr (inl b.1)) (λ b. let u = a.1 in let v = b.1 in inr (inr (omega (arith, u, v)))) (leb_tells (suc n) k)) (leb_tells (suc k) n)

      by : (k < n) ⊎ ((n < k) ⊎ (k ≡ n)) → k ≡ n
      by o = ⊎_elim (λ lt. let a = count_strict k n e lt in absurd (omega (arith, a, same)))
          (λ o. ⊎_elim (λ lt. let a = count_strict n k f lt in absurd (omega (arith, a, same))) (λ e. e) o) o

  -- each number below the count is that of one which occurs
  pub count_onto : (n m : ℕ) → m < count_below ns n → (k : ℕ) × (is_among_numbers k ns ≡ true) × (count_below ns k ≡ m)
  count_onto zero m lt = absurd (omega (arith, lt))
  count_onto (suc n) m lt = by (is_among_numbers n ns) refl lt (λ le. count_onto n m le)
    where
      last : (a m : ℕ) → m < suc a → (m < a) ⊎ (a ≡ m)
      last a m lt = ⊎_elim (λ b. inl b.1) (λ b. let u = b.1 in inr (omega (arith, u, lt))) (leb_tells (suc m) a)

      by : (t : Bool) → is_among_numbers n ns ≡ t → m < cond t (suc (count_below ns n)) (count_below ns n) → (m < count_below ns n → (k : ℕ) × (is_among_numbers k ns ≡ true) × (count_below ns k ≡ m)) →
          (k : ℕ) × (is_among_numbers k ns ≡ true) × (count_below ns k ≡ m)
      by false e lt go = go lt
      by true e lt go = ⊎_elim (λ lt. go lt) (λ same. (n, e, same)) (last (count_below ns n) m lt)

  pub count_least : (k : ℕ) → count_below ns k ≤ k
  count_least zero = omega arith
  count_least (suc k) = by (is_among_numbers k ns) (count_least k)
    where
      by : (t : Bool) → count_below ns k ≤ k → cond t (suc (count_below ns k)) (count_below ns k) ≤ suc k
      by true le = omega (arith, le)
      by false le = omega (arith, le)

pub above_first : (n l : ℕ) → n < max (suc n) l
above_first n l = omega arith

pub above_later : (k n l : ℕ) → k < l → k < max (suc n) l
above_later k n l lt = omega (arith, lt)

pub among_below : (k : ℕ) (ns : List ℕ) → is_among_numbers k ns ≡ true → k < limit_above ns
among_below k [] e = absurd (true≢false (sym e))
among_below k (n ∷ ns) e = by (nat_eq n k) refl e (λ q. among_below k ns q)
  where
    by : (t : Bool) → nat_eq n k ≡ t → t || is_among_numbers k ns ≡ true → (is_among_numbers k ns ≡ true → k < limit_above ns) → k < max (suc n) (limit_above ns)
    by true s e go = subst (λ m. m < max (suc n) (limit_above ns)) (eqb-true n k s) (above_first n (limit_above ns))
    by false s e go = above_later k n (limit_above ns) (go e)

limit_low : (n l m : ℕ) → n < m → l ≤ m → max (suc n) l ≤ m
limit_low n l m lt le = omega (arith, lt, le)

limit_few : (ns : List ℕ) (m : ℕ) → ((k : ℕ) → is_among_numbers k ns ≡ true → k < m) → limit_above ns ≤ m
limit_few [] m h = omega arith
limit_few (n ∷ ns) m h =
    limit_low n (limit_above ns) m (h n (ap (λ t. t || is_among_numbers n ns) (eq-eqb n n refl))) (limit_few ns m (λ k e. h k (by k (nat_eq n k) e)))
  where
    by : (k : ℕ) (t : Bool) → is_among_numbers k ns ≡ true → t || is_among_numbers k ns ≡ true
    by k true e = refl
    by k false e = e

-- ---- which slots occur

slot_first : (k : ℕ) (l : Loc) (ks : List ℕ) → l ≡ loc.Slot k → is_among_numbers k (with_slot_of l ks) ≡ true
slot_first k l ks e = subst (λ l. is_among_numbers k (with_slot_of l ks) ≡ true) (sym e) (ap (λ t. t || is_among_numbers k ks) (eq-eqb k k refl))

slot_later : (k : ℕ) (l : Loc) (ks : List ℕ) → is_among_numbers k ks ≡ true → is_among_numbers k (with_slot_of l ks) ≡ true
slot_later k (loc.Slot n) ks e = or_right (nat_eq n k) (is_among_numbers k ks) e
slot_later k (loc.Machine n) ks e = e
slot_later k loc.Unset ks e = e

pub regs_pass : (k : ℕ) (rs : List Reg) (ks : List ℕ) → is_among_numbers k ks ≡ true → is_among_numbers k (slots_of_regs rs ks) ≡ true
regs_pass k [] ks e = e
regs_pass k (r ∷ rs) ks e = slot_later k r.loc (slots_of_regs rs ks) (regs_pass k rs ks e)

pub regs_have : (k : ℕ) (rs : List Reg) (ks : List ℕ) (r : Reg) → Contains rs r → r.loc ≡ loc.Slot k → is_among_numbers k (slots_of_regs rs ks) ≡ true
regs_have k [] ks r c e = absurd (none_in r c)
regs_have k (q ∷ rs) ks r c e =
    ⊎_elim (λ same. slot_first k q.loc (slots_of_regs rs ks) (ap (λ (x : Reg). x.loc) same ∙ e))
    (λ d. slot_later k q.loc (slots_of_regs rs ks) (regs_have k rs ks r d e)) (in_cons q r rs c)

code_has : (k : ℕ) (r : Reg) (code : List Instr) → InCode r code → r.loc ≡ loc.Slot k → is_among_numbers k (slots_of_code code) ≡ true
code_has k r (i ∷ is) (in_args c) e = regs_have k i.args (slots_of_regs i.results (slots_of_code is)) r c e
code_has k r (i ∷ is) (in_results c) e = regs_pass k i.args (slots_of_regs i.results (slots_of_code is)) (regs_have k i.results (slots_of_code is) r c e)
code_has k r (i ∷ is) (further c) e = regs_pass k i.args (slots_of_regs i.results (slots_of_code is)) (regs_pass k i.results (slots_of_code is) (code_has k r is c e))
code_has k r [] c e = elim c [ ]

-- a register of these is in the slot
record FromSlot (k : ℕ) (rs : List Reg) : Type 0 where
  reg : Reg
  among : Contains rs reg
  stands : reg.loc ≡ loc.Slot k

slot_split : (k : ℕ) (l : Loc) (ks : List ℕ) → is_among_numbers k (with_slot_of l ks) ≡ true → (l ≡ loc.Slot k) ⊎ (is_among_numbers k ks ≡ true)
slot_split k (loc.Slot n) ks e = by (nat_eq n k) refl e
  where
    by : (t : Bool) → nat_eq n k ≡ t → t || is_among_numbers k ks ≡ true → (loc.Slot n ≡ loc.Slot k) ⊎ (is_among_numbers k ks ≡ true)
    by true s e = inl (ap loc.Slot (eqb-true n k s))
    by false s e = inr e
slot_split k (loc.Machine n) ks e = inr e
slot_split k loc.Unset ks e = inr e

regs_split : (k : ℕ) (rs : List Reg) (ks : List ℕ) → is_among_numbers k (slots_of_regs rs ks) ≡ true → FromSlot k rs ⊎ (is_among_numbers k ks ≡ true)
regs_split k [] ks e = inr e
regs_split k (r ∷ rs) ks e =
    ⊎_elim (λ s. inl (record { reg = r; among = first_in r rs; stands = s }))
    (λ u. ⊎_elim (λ y. inl (record { reg = y.reg; among = later_in r y.reg rs y.among; stands = y.stands })) inr (regs_split k rs ks u))
    (slot_split k r.loc (slots_of_regs rs ks) e)

code_split : (k : ℕ) (code : List Instr) → is_among_numbers k (slots_of_code code) ≡ true → (r : Reg) × InCode r code × (r.loc ≡ loc.Slot k)
code_split k [] e = absurd (true≢false (sym e))
code_split k (i ∷ is) e =
    ⊎_elim (λ y. (y.reg, in_args y.among, y.stands))
    (λ u. ⊎_elim (λ y. (y.reg, in_results y.among, y.stands)) (λ w. let y = code_split k is w in (y.0, further y.1, y.2)) (regs_split k i.results (slots_of_code is) u))
    (regs_split k i.args (slots_of_regs i.results (slots_of_code is)) e)

module _ (m : Mach) where
  -- a slot that occurs is that of a parameter, an operand or a result
  pub slot_stands : (k : ℕ) → is_among_numbers k (slots_of_function m) ≡ true → (r : Reg) × (Contains m.params r ⊎ InCode r m.code) × (r.loc ≡ loc.Slot k)
  slot_stands k e =
      ⊎_elim (λ y. (y.reg, inl y.among, y.stands)) (λ u. let y = code_split k m.code u in (y.0, inr y.1, y.2))
      (regs_split k m.params (slots_of_code m.code) e)

  -- there are no more slots than the number above them all
  pub count_within : slot_count m ≤ limit_above (slots_of_function m)
  count_within = count_least (slots_of_function m) (limit_above (slots_of_function m))

  -- where each register's slot is below a number, so are all
  pub slots_low : (n : ℕ) → ((k : ℕ) (r : Reg) → IsRegister m r → r.loc ≡ loc.Slot k → k < n) → limit_above (slots_of_function m) ≤ n
  slots_low n h =
      limit_few (slots_of_function m) n (λ k e. ⊎_elim (λ y. h k y.reg (is_param y.among) y.stands) (λ u. let y = code_split k m.code u in h k y.0 (is_in_code y.1) y.2) (regs_split k m.params (slots_of_code m.code) e))

  pub slot_occurs_in_code : (k : ℕ) (r : Reg) → InCode r m.code → r.loc ≡ loc.Slot k → is_among_numbers k (slots_of_function m) ≡ true
  slot_occurs_in_code k r c e = regs_pass k m.params (slots_of_code m.code) (code_has k r m.code c e)

  pub slot_occurs_in_params : (k : ℕ) (r : Reg) → Contains m.params r → r.loc ≡ loc.Slot k → is_among_numbers k (slots_of_function m) ≡ true
  slot_occurs_in_params k r c e = regs_have k m.params (slots_of_code m.code) r c e

  -- slots that occur get numbers of their own, below the count
  pub numbers_apart : (k n : ℕ) → is_among_numbers k (slots_of_function m) ≡ true → is_among_numbers n (slots_of_function m) ≡ true → slot_number m k ≡ slot_number m n → k ≡ n
  numbers_apart k n e f same = count_injective (slots_of_function m) k n e f same

  pub numbers_below : (k : ℕ) → is_among_numbers k (slots_of_function m) ≡ true → slot_number m k < slot_count m
  numbers_below k e = count_strict (slots_of_function m) k (limit_above (slots_of_function m)) e (among_below k (slots_of_function m) e)

  -- and each number below the count is that of one
  pub numbers_onto : (n : ℕ) → n < slot_count m → (k : ℕ) × (is_among_numbers k (slots_of_function m) ≡ true) × (slot_number m k ≡ n)
  numbers_onto n lt = count_onto (slots_of_function m) (limit_above (slots_of_function m)) n lt
