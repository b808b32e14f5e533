-- What the set of mixed reads holds.
use Rattle.std.proofs.Common.{◌≡◌, ℕ, zero, suc, ◌+◌, ◌<◌, Bool, true, false, cond, ◌&&◌, ◌⊎◌, inl, inr, ⊎_elim, List, [], ◌∷◌, length, drop, replicate, refl, sym, ap, ◌∙◌, subst, arith}
use Rattle.std.proofs.lemmas.Bool.{cases_Bool, lt-ltb, and_parts, and_from}
use Rattle.std.specs.Prelude.{nat_lt, slice_set}
use Rattle.bs_bits.specs.Set.{has}
use Rattle.dataflow.specs.Rows.{set_in_row}
use Rattle.mach_ir.specs.Walks.{AmongRegisters, first, later}
use Rattle.mach_ir.specs.declared.reg.Reg.{Reg}
use Rattle.mach_ir.specs.declared.mach.Instr.{Instr}
use Rattle.sink.specs.Mixed.{is_mixed, noted_reads, noted_code}
use Rattle.sink.proofs.Seeing.{length_set, at_set, off_set, same_or}
use Rattle.bs_words.proofs.Truths.{not_both}

module _ (fresh stale : List Bool) where
  abbrev one : Reg → List Bool → List Bool
  one r t = cond (nat_lt r.number (length t) && is_mixed fresh stale r.number) (slice_set t r.number true) t

  length_one : (r : Reg) (t : List Bool) → length (one r t) ≡ length t
  length_one r t = by (nat_lt r.number (length t) && is_mixed fresh stale r.number)
    where
      by : (b : Bool) → length (cond b (slice_set t r.number true) t) ≡ length t
      by true = length_set t r.number true
      by false = refl

  length_reads : (rs : List Reg) (t : List Bool) → length (noted_reads fresh stale rs t) ≡ length t
  length_reads [] t = refl
  length_reads (r ∷ rs) t = length_reads rs (one r t) ∙ length_one r t

  -- a member was one, or is noted
  of_one : (r : Reg) (t : List Bool) (n : ℕ) → has (one r t) n ≡ true → (has t n ≡ true) ⊎ ((r.number ≡ n) × (is_mixed fresh stale n ≡ true))
  of_one r t n h = by (cases_Bool (nat_lt r.number (length t) && is_mixed fresh stale r.number)) (same_or n r.number)
    where
      test : Bool
      test = nat_lt r.number (length t) && is_mixed fresh stale r.number

      by : (test ≡ true) ⊎ (test ≡ false) → (n ≡ r.number) ⊎ (n ≡ r.number → ⊥) →
          (has t n ≡ true) ⊎ ((r.number ≡ n) × (is_mixed fresh stale n ≡ true))
      by (inr e) s = inl (ap (λ b. has (cond b (slice_set t r.number true) t) n) (sym e) ∙ h)
      by (inl e) (inr apart) =
          inl (sym (off_set t r.number n true false apart) ∙ ap (λ b. has (cond b (slice_set t r.number true) t) n) (sym e) ∙ h)
      by (inl e) (inl same) =
          inr
          (sym same, ap (is_mixed fresh stale) same ∙ (and_parts (nat_lt r.number (length t)) (is_mixed fresh stale r.number) e).1)

  kept_one : (r : Reg) (t : List Bool) (n : ℕ) → n < length t → has t n ≡ true → has (one r t) n ≡ true
  kept_one r t n lt h = by (nat_lt r.number (length t) && is_mixed fresh stale r.number) (same_or n r.number)
    where
      by : (b : Bool) → (n ≡ r.number) ⊎ (n ≡ r.number → ⊥) → has (cond b (slice_set t r.number true) t) n ≡ true
      by false s = h
      by true (inl same) =
          ap (has (slice_set t r.number true)) same ∙ at_set t r.number true false (subst (λ k. k < length t) same lt)
      by true (inr apart) = off_set t r.number n true false apart ∙ h

  in_one : (r : Reg) (t : List Bool) → r.number < length t → is_mixed fresh stale r.number ≡ true → has (one r t) r.number ≡ true
  in_one r t lt h =
      ap (λ b. has (cond b (slice_set t r.number true) t) r.number)
      (and_from (nat_lt r.number (length t)) (is_mixed fresh stale r.number) (lt-ltb r.number (length t) lt) h)
      ∙ at_set t r.number true false lt

  of_reads : (rs : List Reg) (t : List Bool) (n : ℕ) → has (noted_reads fresh stale rs t) n ≡ true →
      (has t n ≡ true) ⊎ (AmongRegisters n rs × (is_mixed fresh stale n ≡ true))
  of_reads [] t n h = inl h
  of_reads (r ∷ rs) t n h =
      ⊎_elim (λ k. ⊎_elim (λ old. inl old) (λ x. inr (first x.0, x.1)) (of_one r t n k)) (λ x. inr (later x.0, x.1)) (of_reads rs (one r t) n h)

  small_one : (r : Reg) (t : List Bool) (n : ℕ) → n < length t → n < length (one r t)
  small_one r t n lt = subst (λ l. n < l) (sym (length_one r t)) lt

  kept_reads : (rs : List Reg) (t : List Bool) (n : ℕ) → n < length t → has t n ≡ true → has (noted_reads fresh stale rs t) n ≡ true
  kept_reads [] t n lt h = h
  kept_reads (r ∷ rs) t n lt h = kept_reads rs (one r t) n (small_one r t n lt) (kept_one r t n lt h)

  in_reads : {n : ℕ} {rs : List Reg} → AmongRegisters n rs → (t : List Bool) → n < length t → is_mixed fresh stale n ≡ true →
      has (noted_reads fresh stale rs t) n ≡ true
  in_reads {n} (first {r = r} {rs = rs} e) t lt h =
      kept_reads rs (one r t) n (small_one r t n lt)
      (subst (λ n. has (one r t) n ≡ true) e
      (in_one r t (subst (λ k. k < length t) (sym e) lt) (subst (λ k. is_mixed fresh stale k ≡ true) (sym e) h)))
  in_reads {n} (later {r = r} {rs = rs} a) t lt h = in_reads a (one r t) (small_one r t n lt) h

module _ (fresh stale : List (List Bool)) where
  -- the number is read at a place where it is in both rows
  pub record IsMixedIn (b : ℕ) (code : List Instr) (n : ℕ) : Type 0 where
    pub index : ℕ
    pub instr : Instr
    pub next : List Instr
    pub is : drop index code ≡ instr ∷ next
    pub reads : AmongRegisters n instr.args
    pub fresh_there : has (set_in_row fresh (b + index)) n ≡ true
    pub stale_there : has (set_in_row stale (b + index)) n ≡ true

  further : (b k : ℕ) → suc b + k ≡ b + suc k
  further b k = omega arith

  none_more : (b : ℕ) → b + 0 ≡ b
  none_more b = omega arith

  of_code : (code : List Instr) (b : ℕ) (t : List Bool) (n : ℕ) → has (noted_code fresh stale b code t) n ≡ true →
      (has t n ≡ true) ⊎ IsMixedIn b code n
  of_code [] b t n h = inl h
  of_code (i ∷ is) b t n h =
      ⊎_elim (λ k. ⊎_elim (λ old. inl old) (λ x. inr (here x.0 x.1)) (of_reads (set_in_row fresh b) (set_in_row stale b) i.args t n k)) (λ x. inr (there x))
      (of_code is (suc b) (noted_reads (set_in_row fresh b) (set_in_row stale b) i.args t) n h)
    where
      here : AmongRegisters n i.args → is_mixed (set_in_row fresh b) (set_in_row stale b) n ≡ true → IsMixedIn b (i ∷ is) n
      here a h =
          let x = and_parts (has (set_in_row fresh b) n) (has (set_in_row stale b) n) h in
          record {
            index = 0;
            instr = i;
            next = is;
            is = refl;
            reads = a;
            fresh_there = ap (λ p. has (set_in_row fresh p) n) (none_more b) ∙ x.0;
            stale_there = ap (λ p. has (set_in_row stale p) n) (none_more b) ∙ x.1;
          }

      there : IsMixedIn (suc b) is n → IsMixedIn b (i ∷ is) n
      there x =
          record {
            index = suc x.index;
            instr = x.instr;
            next = x.next;
            is = x.is;
            reads = x.reads;
            fresh_there = ap (λ p. has (set_in_row fresh p) n) (sym (further b x.index)) ∙ x.fresh_there;
            stale_there = ap (λ p. has (set_in_row stale p) n) (sym (further b x.index)) ∙ x.stale_there;
          }

  small_reads : (b : ℕ) (rs : List Reg) (t : List Bool) (n : ℕ) → n < length t → n < length (noted_reads (set_in_row fresh b) (set_in_row stale b) rs t)
  small_reads b rs t n lt = subst (λ l. n < l) (sym (length_reads (set_in_row fresh b) (set_in_row stale b) rs t)) lt

  kept_code : (code : List Instr) (b : ℕ) (t : List Bool) (n : ℕ) → n < length t → has t n ≡ true → has (noted_code fresh stale b code t) n ≡ true
  kept_code [] b t n lt h = h
  kept_code (i ∷ is) b t n lt h =
      kept_code is (suc b) (noted_reads (set_in_row fresh b) (set_in_row stale b) i.args t) n (small_reads b i.args t n lt)
      (kept_reads (set_in_row fresh b) (set_in_row stale b) i.args t n lt h)

  in_code : (code : List Instr) (b : ℕ) (t : List Bool) (n : ℕ) → n < length t → IsMixedIn b code n → has (noted_code fresh stale b code t) n ≡ true
  in_code code b t n lt x = by code b t lt x.index x.is x.fresh_there x.stale_there
    where
      i : Instr
      i = x.instr

      bad : [] ≡ x.instr ∷ x.next → ⊥
      bad e = cc

      head : (j : Instr) (js : List Instr) → j ∷ js ≡ x.instr ∷ x.next → x.instr ≡ j
      head j js e = cc

      by : (code : List Instr) (b : ℕ) (t : List Bool) → n < length t → (k : ℕ) → drop k code ≡ x.instr ∷ x.next →
          has (set_in_row fresh (b + k)) n ≡ true → has (set_in_row stale (b + k)) n ≡ true → has (noted_code fresh stale b code t) n ≡ true
      by [] b t lt zero e f s = absurd (bad e)
      by [] b t lt (suc k) e f s = absurd (bad e)
      by (j ∷ js) b t lt zero e f s =
          kept_code js (suc b) (noted_reads (set_in_row fresh b) (set_in_row stale b) j.args t) n (small_reads b j.args t n lt)
          (in_reads (set_in_row fresh b) (set_in_row stale b) (subst (λ (i : Instr). AmongRegisters n i.args) (head j js e) x.reads) t lt
          (and_from (has (set_in_row fresh b) n) (has (set_in_row stale b) n) (ap (λ p. has (set_in_row fresh p) n) (sym (none_more b)) ∙ f)
          (ap (λ p. has (set_in_row stale p) n) (sym (none_more b)) ∙ s)))
      by (j ∷ js) b t lt (suc k) e f s =
          by js (suc b) (noted_reads (set_in_row fresh b) (set_in_row stale b) j.args t) (small_reads b j.args t n lt) k e
          (ap (λ p. has (set_in_row fresh p) n) (further b k) ∙ f) (ap (λ p. has (set_in_row stale p) n) (further b k) ∙ s)

  empty : (size n : ℕ) → has (replicate size false) n ≡ true → ⊥
  empty zero n h = not_both false h refl
  empty (suc size) zero h = not_both false h refl
  empty (suc size) (suc n) h = empty size n h

  length_empty : (size : ℕ) → length (replicate {A = Bool} size false) ≡ size
  length_empty zero = refl
  length_empty (suc size) = ap suc (length_empty size)

  pub is_mixed_in : (code : List Instr) (size n : ℕ) → has (noted_code fresh stale 0 code (replicate size false)) n ≡ true → IsMixedIn 0 code n
  is_mixed_in code size n h = ⊎_elim (λ e. absurd (empty size n e)) (λ x. x) (of_code code 0 (replicate size false) n h)

  pub mixed_is_in : (code : List Instr) (size n : ℕ) → n < size → IsMixedIn 0 code n → has (noted_code fresh stale 0 code (replicate size false)) n ≡ true
  mixed_is_in code size n lt x = in_code code 0 (replicate size false) n (subst (λ l. n < l) (sym (length_empty size)) lt) x
