-- What the table of registers shows.
use Rattle.std.proofs.Common.{◌≡◌, ℕ, zero, suc, ◌<◌, Bool, true, false, cond, ◌⊎◌, inl, inr, ⊎_elim, List, [], ◌∷◌, ◌++◌, Some, None, length, replicate, refl, sym, ap, ◌∙◌, subst}
use Rattle.std.proofs.lemmas.List.Elements.{Contains-append_left, Contains-append_right, Contains-append_cases}
use Rattle.std.proofs.lemmas.Bool.{cases_Bool, lt-ltb, ltb-true}
use Rattle.std.specs.List.{Contains}
use Rattle.std.specs.Prelude.{Option, nat_lt, slice_index_or, slice_set}
use Rattle.mach_ir.specs.Walks.{AmongRegisters, first, later, Live, read, on, aside, InCode, in_args, further}
use Rattle.mach_ir.specs.declared.reg.Reg.{Reg}
use Rattle.mach_ir.specs.declared.mach.Instr.{Instr}
use Rattle.mach_ir.specs.declared.mach.Mach.{Mach}
use Rattle.mach_laws.specs.Expand.{Ending, all, more}
use Rattle.mach_laws.proofs.Walking.{ending_leads, ending_raises}
use Rattle.bs_words.proofs.Lists.{none_in, first_in, later_in, in_cons}
use Rattle.sink.specs.Registers.{registers_entered, entered_code}
use Rattle.sink.proofs.Seeing.{length_set, at_set, off_set, same_or}

abbrev at : List (Option Reg) → ℕ → Option Reg
at t n = slice_index_or t n None

abbrev one : Reg → List (Option Reg) → List (Option Reg)
one r t = cond (nat_lt r.number (length t)) (slice_set t r.number (Some r)) t

length_one : (r : Reg) (t : List (Option Reg)) → length (one r t) ≡ length t
length_one r t = by (nat_lt r.number (length t))
  where
    by : (b : Bool) → length (cond b (slice_set t r.number (Some r)) t) ≡ length t
    by true = length_set t r.number (Some r)
    by false = refl

pub length_entered : (rs : List Reg) (t : List (Option Reg)) → length (registers_entered rs t) ≡ length t
length_entered [] t = refl
length_entered (r ∷ rs) t = length_entered rs (one r t) ∙ length_one r t

-- a register is at its own number, or nothing changed
one_at : (r : Reg) (t : List (Option Reg)) (n : ℕ) → (at (one r t) n ≡ at t n) ⊎ ((n ≡ r.number) × (at (one r t) n ≡ Some r))
one_at r t n =
    ⊎_elim (λ e. set e (same_or n r.number)) (λ e. inl (ap (λ b. at (cond b (slice_set t r.number (Some r)) t) n) e))
    (cases_Bool (nat_lt r.number (length t)))
  where
    in_set : (e : nat_lt r.number (length t) ≡ true) → at (one r t) n ≡ at (slice_set t r.number (Some r)) n
    in_set e = ap (λ b. at (cond b (slice_set t r.number (Some r)) t) n) e

    set : nat_lt r.number (length t) ≡ true → (n ≡ r.number) ⊎ (n ≡ r.number → ⊥) →
        (at (one r t) n ≡ at t n) ⊎ ((n ≡ r.number) × (at (one r t) n ≡ Some r))
    set e (inr apart) = inl (in_set e ∙ off_set t r.number n (Some r) None apart)
    set e (inl same) =
        let lt : r.number < length t = ltb-true r.number (length t) e in
        inr (same, in_set e ∙ ap (at (slice_set t r.number (Some r))) same ∙ at_set t r.number (Some r) None lt)

one_here : (r : Reg) (t : List (Option Reg)) → r.number < length t → at (one r t) r.number ≡ Some r
one_here r t lt =
    ap (λ b. at (cond b (slice_set t r.number (Some r)) t) r.number) (lt-ltb r.number (length t) lt) ∙ at_set t r.number (Some r) None lt

module _ (Q : Reg → Type 0) (unique : (r q : Reg) → Q r → Q q → r.number ≡ q.number → r ≡ q) where
  abbrev IsSound : List (Option Reg) → Type 0
  IsSound t = (n : ℕ) (r : Reg) → at t n ≡ Some r → Q r × (r.number ≡ n)

  some_same : (r q : Reg) → Some r ≡ Some q → r ≡ q
  some_same r q e = cc

  sound_one : (r : Reg) (t : List (Option Reg)) → Q r → IsSound t → IsSound (one r t)
  sound_one r t known sound = λ n q e.
      ⊎_elim (λ same. sound n q (sym same ∙ e))
      (λ x. let s = some_same r q (sym x.1 ∙ e) in (subst Q s known, ap (λ (r : Reg). r.number) (sym s) ∙ sym x.0)) (one_at r t n)

  sound_all : (rs : List Reg) (t : List (Option Reg)) → ((r : Reg) → Contains rs r → Q r) → IsSound t → IsSound (registers_entered rs t)
  sound_all [] t known sound = sound
  sound_all (r ∷ rs) t known sound =
      sound_all rs (one r t) (λ q c. known q (later_in r q rs c)) (sound_one r t (known r (first_in r rs)) sound)

  -- what is at its number stays
  stays : (rs : List Reg) (t : List (Option Reg)) (r : Reg) → ((r : Reg) → Contains rs r → Q r) → Q r → at t r.number ≡ Some r →
      at (registers_entered rs t) r.number ≡ Some r
  stays [] t r known mine e = e
  stays (x ∷ rs) t r known mine e =
      stays rs (one x t) r (λ q c. known q (later_in x q rs c)) mine
      (⊎_elim (λ same. same ∙ e) (λ y. y.1 ∙ ap Some (sym (unique r x mine (known x (first_in x rs)) y.0))) (one_at x t r.number))

  stands : (rs : List Reg) (t : List (Option Reg)) (r : Reg) → ((r : Reg) → Contains rs r → Q r) → Contains rs r → r.number < length t →
      at (registers_entered rs t) r.number ≡ Some r
  stands [] t r known c lt = absurd (none_in r c)
  stands (x ∷ rs) t r known c lt =
      ⊎_elim
      (λ e.
      subst (λ r. at (registers_entered rs (one x t)) r.number ≡ Some r) e
      (stays rs (one x t) x (λ q c. known q (later_in x q rs c)) (known x (first_in x rs))
      (one_here x t (subst (λ (r : Reg). r.number < length t) (sym e) lt))))
      (λ d. stands rs (one x t) r (λ q c. known q (later_in x q rs c)) d (subst (λ l. r.number < l) (sym (length_one x t)) lt))
      (in_cons x r rs c)

-- ---- what code reads

abbrev reads : List Instr → List Reg
reads [] = []
reads (i ∷ is) = i.args ++ reads is

entered_both : (xs ys : List Reg) (t : List (Option Reg)) → registers_entered (xs ++ ys) t ≡ registers_entered ys (registers_entered xs t)
entered_both [] ys t = refl
entered_both (x ∷ xs) ys t = entered_both xs ys (one x t)

entered_reads : (code : List Instr) (t : List (Option Reg)) → entered_code code t ≡ registers_entered (reads code) t
entered_reads [] t = refl
entered_reads (i ∷ is) t = entered_reads is (registers_entered i.args t) ∙ sym (entered_both i.args (reads is) t)

reads_in : (code : List Instr) (r : Reg) → Contains (reads code) r → InCode r code
reads_in [] r c = absurd (none_in r c)
reads_in (i ∷ is) r c = ⊎_elim (λ a. in_args a) (λ d. further (reads_in is r d)) (Contains-append_cases i.args (reads is) r c)

in_reads : {i : Instr} {next code : List Instr} (r : Reg) → Ending (i ∷ next) code → Contains i.args r → Contains (reads code) r
in_reads {i} {next} r all c = Contains-append_left i.args (reads next) r c
in_reads r (more {i = j} {code = code} e) c = Contains-append_right j.args (reads code) r (in_reads r e c)

one_of : (n : ℕ) (rs : List Reg) → AmongRegisters n rs → (r : Reg) × Contains rs r × (r.number ≡ n)
one_of n (r ∷ rs) (first e) = (r, first_in r rs, e)
one_of n (r ∷ rs) (later a) = let x = one_of n rs a in (x.0, later_in r x.0 rs x.1, x.2)
one_of n [] a = elim a [ ]

module _ (m : Mach) where
  -- what is live is read
  is_read : {n : ℕ} {rest : List Instr} → Live m n rest → Ending rest m.code → (r : Reg) × Contains (reads m.code) r × (r.number ≡ n)
  is_read {n} (read {i = i} {next = next} a) e = let x = one_of n i.args a in (x.0, in_reads x.0 e x.1, x.2)
  is_read (on w l v) e = is_read v (ending_leads l e)
  is_read (aside r v) e = is_read v (ending_raises r)

  module _ (unique : (r q : Reg) → InCode r m.code → InCode q m.code → r.number ≡ q.number → r ≡ q) (size : ℕ) where
    empty_at : (size n : ℕ) (r : Reg) → at (replicate size None) n ≡ Some r → ⊥
    empty_at zero n r e = cc
    empty_at (suc size) zero r e = cc
    empty_at (suc size) (suc n) r e = empty_at size n r e

    pub is_entered : (n : ℕ) (r : Reg) → slice_index_or (entered_code m.code (replicate size None)) n None ≡ Some r → InCode r m.code × (r.number ≡ n)
    is_entered n r e =
        sound_all (λ r. InCode r m.code) unique (reads m.code) (replicate size None) (reads_in m.code) (λ n r e. absurd (empty_at size n r e)) n r
        (ap (λ t. at t n) (sym (entered_reads m.code (replicate size None))) ∙ e)

    length_empty : (size : ℕ) → length (replicate {A = Option Reg} size None) ≡ size
    length_empty zero = refl
    length_empty (suc size) = ap suc (length_empty size)

    pub length_table : length (entered_code m.code (replicate size None)) ≡ size
    length_table =
        ap length (entered_reads m.code (replicate size None)) ∙ length_entered (reads m.code) (replicate size None) ∙ length_empty size

    pub is_live_entered : {n : ℕ} {rest : List Instr} → Live m n rest → Ending rest m.code → n < size →
        (r : Reg) × (InCode r m.code) × (r.number ≡ n) × (slice_index_or (entered_code m.code (replicate size None)) n None ≡ Some r)
    is_live_entered {n} v e lt =
        let x = is_read v e in
        let small : (x.0).number < length (replicate {A = Option Reg} size None) =
        subst (λ n. n < length (replicate {A = Option Reg} size None)) (sym x.2) (subst (λ l. n < l) (sym (length_empty size)) lt) in (
          x.0,
          reads_in m.code x.0 x.1,
          x.2,
          ap (λ t. at t n) (entered_reads m.code (replicate size None))
              ∙ ap (at (registers_entered (reads m.code) (replicate size None))) (sym x.2)
              ∙ stands (λ r. InCode r m.code) unique (reads m.code) (replicate size None) x.0 (reads_in m.code) x.1 small,
        )
