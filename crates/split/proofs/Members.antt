-- What the table of writes has.
use Rattle.std.proofs.Common.{◌≡◌, ◌≢◌, ℕ, zero, suc, ◌<◌, ◌≤◌, Bool, true, false, cond, ◌⊎◌, inl, inr, ⊎_elim, List, [], ◌∷◌, ◌++◌, Option, Some, None, length, refl, sym, ap, ◌∙◌, subst, arith}
use Rattle.std.proofs.lemmas.Option.{none-some}
use Rattle.std.proofs.lemmas.List.Elements.{Contains-append_left, Contains-append_right, Contains-append_cases}
use Rattle.std.proofs.lemmas.Bool.{eq-eqb, eqb-true}
use Rattle.std.specs.List.{Contains}
use Rattle.std.specs.Prelude.{slice_get}
use Rattle.bs_bits.specs.Set.{has}
use Rattle.bs_words.specs.declared.types.Loc.TheVariants as loc
use Rattle.bs_words.proofs.Lists.{none_in, first_in, later_in, in_cons}
use Rattle.mach_ir.specs.Formed.{WellFormed}
use Rattle.mach_ir.specs.Meaning.{killed}
use Rattle.mach_ir.specs.Walks.{AmongRegisters, IsRegister, is_param, is_colour, is_in_code, InCode, in_results, further, StandsAsInstr, here, below}
use Rattle.mach_ir.specs.declared.reg.Reg.{Reg}
use Rattle.mach_ir.specs.declared.mach.Instr.{Instr}
use Rattle.mach_ir.specs.declared.mach.Mach.{Mach}
use Rattle.liveness.proofs.Bounds.{killed_is_colour}
use Rattle.split_rules.specs.Order.{write_of, open_writes, code_writes, writes_of}
use Rattle.mach_laws.proofs.Among.{number_among}
use Rattle.split.specs.Writes.{has_left, is_at, find_at, AreRising, rises, is_first_write}
use Rattle.split.specs.Names.{find_coming}
use Rattle.split_rules.specs.declared.writes.Write.{Write}
use Rattle.mach_ir.specs.Places.{is_unset_location}
use Rattle.mach_laws.proofs.Places.{is_unset}
use Rattle.bs_words.proofs.Truths.{not_both}

-- ---- lists

pub some_is : {A : Type 0} (x y : A) → Some x ≡ Some y → x ≡ y
some_is x y e = cc

pub got_in : {A : Type 0} (xs : List A) (w : ℕ) (x : A) → slice_get xs w ≡ Some x → Contains xs x
got_in [] w x e = absurd (none-some x e)
got_in (y ∷ ys) zero x e = subst (Contains (y ∷ ys)) (some_is y x e) (first_in y ys)
got_in (y ∷ ys) (suc w) x e = later_in y x ys (got_in ys w x e)

pub in_got : {A : Type 0} (xs : List A) (x : A) → Contains xs x → (w : ℕ) × (slice_get xs w ≡ Some x)
in_got [] x c = absurd (none_in x c)
in_got (y ∷ ys) x c =
    ⊎_elim (λ e. (0, ap Some e)) (λ d. let w = in_got ys x d in (suc w.0, w.1)) (in_cons y x ys c)

-- ---- which writes there are

pub in_open : (k : ℕ) (rs : List Reg) (r : Reg) → Contains rs r → r.loc ≡ loc.Unset → Contains (open_writes k rs) (write_of k r)
in_open k [] r c e = absurd (none_in r c)
in_open k (q ∷ rs) r c e =
    ⊎_elim
    (λ s.
    subst (λ b. Contains (cond b (write_of k q ∷ open_writes k rs) (open_writes k rs)) (write_of k r))
    (sym (ap (λ (x : Reg). is_unset_location x.loc) s ∙ ap is_unset_location e))
    (subst (λ (x : Reg). Contains (write_of k q ∷ open_writes k rs) (write_of k x)) s
    (first_in (write_of k q) (open_writes k rs))))
    (λ d. either (is_unset_location q.loc) (in_open k rs r d e)) (in_cons q r rs c)
  where
    either : (b : Bool) → Contains (open_writes k rs) (write_of k r) →
        Contains (cond b (write_of k q ∷ open_writes k rs) (open_writes k rs)) (write_of k r)
    either true c = later_in (write_of k q) (write_of k r) (open_writes k rs) c
    either false c = c

-- what an open write was
pub record WasOpen (k : ℕ) (rs : List Reg) (x : Write) : Type 0 where
  pub register : Reg
  pub among : Contains rs register
  pub unset : register.loc ≡ loc.Unset
  pub same : write_of k register ≡ x

pub open_was : (k : ℕ) (rs : List Reg) (x : Write) → Contains (open_writes k rs) x → WasOpen k rs x
open_was k [] x c = absurd (none_in x c)
open_was k (q ∷ rs) x c = by (is_unset_location q.loc) refl c (λ d. open_was k rs x d)
  where
    further_on : WasOpen k rs x → WasOpen k (q ∷ rs) x
    further_on w =
        record { register = w.register; among = later_in q w.register rs w.among; unset = w.unset; same = w.same }

    by : (b : Bool) → is_unset_location q.loc ≡ b → Contains (cond b (write_of k q ∷ open_writes k rs) (open_writes k rs)) x →
        (Contains (open_writes k rs) x → WasOpen k rs x) → WasOpen k (q ∷ rs) x
    by true e c ih =
        ⊎_elim (λ s. record { register = q; among = first_in q rs; unset = is_unset q.loc e; same = s })
        (λ d. further_on (ih d)) (in_cons (write_of k q) x (open_writes k rs) c)
    by false e c ih = further_on (ih c)

pub in_writes : (code : List Instr) (i : Instr) (next : List Instr) (r : Reg) → StandsAsInstr i next code → Contains i.results r →
    r.loc ≡ loc.Unset → Contains (code_writes code) (write_of (length next) r)
in_writes [] i next r s c e = elim s [ ]
in_writes (j ∷ is) i next r s c e = by s (λ z. in_writes is i next r z c e)
  where
    by : {xs : List Instr} {k : Instr} → StandsAsInstr i next (k ∷ xs) → (StandsAsInstr i next xs → Contains (code_writes xs) (write_of (length next) r)) →
        Contains (code_writes (k ∷ xs)) (write_of (length next) r)
    by here ih =
        Contains-append_left (open_writes (length next) i.results) (code_writes next) (write_of (length next) r)
        (in_open (length next) i.results r c e)
    by {xs} {k} (below s) ih =
        Contains-append_right (open_writes (length xs) k.results) (code_writes xs) (write_of (length next) r) (ih s)

pub record WasInCode (code : List Instr) (x : Write) : Type 0 where
  pub register : Reg
  pub among : InCode register code
  pub unset : register.loc ≡ loc.Unset
  pub number : register.number ≡ x.number

pub writes_was : (code : List Instr) (x : Write) → Contains (code_writes code) x → WasInCode code x
writes_was [] x c = absurd (none_in x c)
writes_was (i ∷ is) x c =
    ⊎_elim
    (λ h.
    let w = open_was (length is) i.results x h in
    record { register = w.register; among = in_results w.among; unset = w.unset; number = ap (λ (x : Write). x.number) w.same })
    (λ h.
    let w = writes_was is x h in
    record { register = w.register; among = further w.among; unset = w.unset; number = w.number })
    (Contains-append_cases (open_writes (length is) i.results) (code_writes is) x c)

-- a write is one of an open register of the function
pub record IsOpenWrite (m : Mach) (x : Write) : Type 0 where
  pub register : Reg
  pub among : IsRegister m register
  pub unset : register.loc ≡ loc.Unset
  pub number : register.number ≡ x.number

pub open_write : (m : Mach) (x : Write) → Contains (writes_of m) x → IsOpenWrite m x
open_write m x c =
    ⊎_elim
    (λ h.
    let w = open_was (length m.code) m.params x h in
    record { register = w.register; among = is_param w.among; unset = w.unset; number = ap (λ (x : Write). x.number) w.same })
    (λ h.
    let w = writes_was m.code x h in
    record { register = w.register; among = is_in_code w.among; unset = w.unset; number = w.number })
    (Contains-append_cases (open_writes (length m.code) m.params) (code_writes m.code) x c)

module _ (m : Mach) (formed : WellFormed m) (colour_fixed : (r : Reg) → Contains m.colours r → r.loc ≢ loc.Unset) where
  -- what is open is not destroyed
  pub open_not_killed : (x : Write) (i : Instr) → IsOpenWrite m x → AmongRegisters x.number (killed m i) → ⊥
  open_not_killed x i o a =
      let k = number_among (killed m i) a in
      let c = killed_is_colour m i k.0 k.1 in
      let same = formed.numbers o.register k.0 o.among (is_colour c) (o.number ∙ sym k.2) in
      colour_fixed k.0 c (ap (λ (r : Reg). r.loc) (sym same) ∙ o.unset)

  pub fixed_no_write : (r : Reg) (x : Write) → IsRegister m r → r.loc ≢ loc.Unset → IsOpenWrite m x → x.number ≡ r.number → ⊥
  fixed_no_write r x i h o e =
      h (ap (λ (r : Reg). r.loc) (formed.numbers r o.register i o.among (sym (o.number ∙ e))) ∙ o.unset)

-- ---- the first

pub first_low : (u : ℕ) (us : List ℕ) (w : ℕ) → AreRising (u ∷ us) → Contains (u ∷ us) w → u ≤ w
first_low u us w (rises low r) c = ⊎_elim (λ e. omega (arith, e)) (λ d. let lt = low w d in omega (arith, lt)) (in_cons u w us c)

pub first_least : (ws : List ℕ) (l w : ℕ) → AreRising ws → is_first_write ws l ≡ true → Contains ws w → l ≤ w
first_least [] l w r e c = absurd (none_in w c)
first_least (u ∷ us) l w r e c =
    let low = first_low u us w r c in let same : u ≡ l = eqb-true u l e in omega (arith, low, same)

pub one_first : (ws : List ℕ) (l k : ℕ) → is_first_write ws l ≡ true → is_first_write ws k ≡ true → l ≡ k
one_first [] l k e h = absurd (not_both false e refl)
one_first (u ∷ us) l k e h = sym (eqb-true u l e) ∙ eqb-true u k h

-- ---- the entry's writes are first

-- what is got is in one part or the other
got_part : {A : Type 0} (xs ys : List A) (w : ℕ) (x : A) → slice_get (xs ++ ys) w ≡ Some x →
    ((w < length xs) × Contains xs x) ⊎ ((length xs ≤ w) × Contains ys x)
got_part [] ys w x e = inr (omega arith, got_in ys w x e)
got_part (z ∷ zs) ys zero x e = inl (omega arith, got_in (z ∷ zs) zero x e)
got_part (z ∷ zs) ys (suc w) x e =
    ⊎_elim (λ h. inl (let lt = h.0 in omega (arith, lt), later_in z x zs h.1)) (λ h. inr (let le = h.0 in omega (arith, le), h.1))
    (got_part zs ys w x e)

open_left : (k : ℕ) (rs : List Reg) (x : Write) → Contains (open_writes k rs) x → x.left ≡ k
open_left k rs x c = let w = open_was k rs x c in ap (λ (x : Write). x.left) (sym w.same)

code_left : (code : List Instr) (x : Write) → Contains (code_writes code) x → x.left < length code
code_left [] x c = absurd (none_in x c)
code_left (i ∷ is) x c =
    ⊎_elim (λ h. let e = open_left (length is) i.results x h in omega (arith, e))
    (λ h. let lt = code_left is x h in omega (arith, lt)) (Contains-append_cases (open_writes (length is) i.results) (code_writes is) x c)

pub at_entry : (m : Mach) (w : ℕ) (x : Write) → slice_get (writes_of m) w ≡ Some x → x.left ≡ length m.code →
    w < length (open_writes (length m.code) m.params)
at_entry m w x e left =
    ⊎_elim (λ h. h.0) (λ h. let lt = code_left m.code x h.1 in absurd (omega (arith, lt, left)))
    (got_part (open_writes (length m.code) m.params) (code_writes m.code) w x e)

pub entry_at : (m : Mach) (w : ℕ) (x : Write) → slice_get (writes_of m) w ≡ Some x →
    w < length (open_writes (length m.code) m.params) → x.left ≡ length m.code
entry_at m w x e lt =
    ⊎_elim (λ h. open_left (length m.code) m.params x h.1) (λ h. let le = h.0 in absurd (omega (arith, le, lt)))
    (got_part (open_writes (length m.code) m.params) (code_writes m.code) w x e)

pub left_within : (m : Mach) (w : ℕ) (x : Write) → slice_get (writes_of m) w ≡ Some x → x.left ≤ length m.code
left_within m w x e =
    ⊎_elim (λ h. let s = open_left (length m.code) m.params x h.1 in omega (arith, s))
    (λ h. let lt = code_left m.code x h.1 in omega (arith, lt))
    (got_part (open_writes (length m.code) m.params) (code_writes m.code) w x e)

-- ---- looking for one

pub record FoundAt (writes : List Write) (k : ℕ) (ws : List ℕ) (w : ℕ) : Type 0 where
  pub among : Contains ws w
  pub write : Write
  pub is : slice_get writes w ≡ Some write
  pub left : write.left ≡ k

left_is : (writes : List Write) (w k : ℕ) → is_at writes w k ≡ true → (x : Write) × (slice_get writes w ≡ Some x) × (x.left ≡ k)
left_is writes w k e = by (slice_get writes w) refl e
  where
    by : (o : Option Write) → slice_get writes w ≡ o → has_left o k ≡ true → (x : Write) × (slice_get writes w ≡ Some x) × (x.left ≡ k)
    by None e h = absurd (not_both false h refl)
    by (Some x) e h = (x, e, eqb-true x.left k h)

pub found_at : (writes : List Write) (k : ℕ) (ws : List ℕ) (w : ℕ) → find_at writes k ws ≡ Some w → FoundAt writes k ws w
found_at writes k [] w e = absurd (none-some w e)
found_at writes k (v ∷ ws) w e = by (is_at writes v k) refl e (λ h. found_at writes k ws w h)
  where
    by : (b : Bool) → is_at writes v k ≡ b → cond b (Some v) (find_at writes k ws) ≡ Some w →
        (find_at writes k ws ≡ Some w → FoundAt writes k ws w) → FoundAt writes k (v ∷ ws) w
    by true t e ih =
        let same : v ≡ w = some_is v w e in
        let x = left_is writes v k t in
        record {
          among = subst (Contains (v ∷ ws)) same (first_in v ws);
          write = x.0;
          is = subst (λ w. slice_get writes w ≡ Some x.0) same x.1;
          left = x.2;
        }
    by false t e ih =
        let f = ih e in
        record { among = later_in v w ws f.among; write = f.write; is = f.is; left = f.left }

pub finds_at : (writes : List Write) (k : ℕ) (ws : List ℕ) (w : ℕ) (x : Write) → Contains ws w → slice_get writes w ≡ Some x → x.left ≡ k →
    (v : ℕ) × (find_at writes k ws ≡ Some v)
finds_at writes k [] w x c e h = absurd (none_in w c)
finds_at writes k (v ∷ ws) w x c e h = by (is_at writes v k) refl (λ d. finds_at writes k ws w x d e h)
  where
    here_is : v ≡ w → is_at writes v k ≡ true
    here_is s = ap (λ w. has_left (slice_get writes w) k) s ∙ ap (λ o. has_left o k) e ∙ eq-eqb x.left k h

    by : (b : Bool) → is_at writes v k ≡ b → (Contains ws w → (u : ℕ) × (find_at writes k ws ≡ Some u)) →
        (u : ℕ) × (cond b (Some v) (find_at writes k ws) ≡ Some u)
    by true t ih = (v, refl)
    by false t ih = ih (⊎_elim (λ s. absurd (not_both (is_at writes v k) (here_is s) t)) (λ d. d) (in_cons v w ws c))

-- the first that is found is not after any other
pub finds_first : (writes : List Write) (k : ℕ) (ws : List ℕ) (w : ℕ) (x : Write) → AreRising ws → Contains ws w →
    slice_get writes w ≡ Some x → x.left ≡ k → (v : ℕ) × (find_at writes k ws ≡ Some v) × (v ≤ w)
finds_first writes k [] w x rising c e h = absurd (none_in w c)
finds_first writes k (v ∷ ws) w x (rises low r) c e h =
    by (is_at writes v k) refl (λ d. finds_first writes k ws w x r d e h)
  where
    here_is : v ≡ w → is_at writes v k ≡ true
    here_is s = ap (λ w. has_left (slice_get writes w) k) s ∙ ap (λ o. has_left o k) e ∙ eq-eqb x.left k h

    by : (b : Bool) → is_at writes v k ≡ b → (Contains ws w → (u : ℕ) × (find_at writes k ws ≡ Some u) × (u ≤ w)) →
        (u : ℕ) × (cond b (Some v) (find_at writes k ws) ≡ Some u) × (u ≤ w)
    by true t ih = (v, refl, first_low v ws w (rises low r) c)
    by false t ih = ih (⊎_elim (λ s. absurd (not_both (is_at writes v k) (here_is s) t)) (λ d. d) (in_cons v w ws c))

pub record FoundComing (set : List Bool) (ws : List ℕ) (w : ℕ) : Type 0 where
  pub among : Contains ws w
  pub comes : has set w ≡ true

pub found_coming : (set : List Bool) (ws : List ℕ) (w : ℕ) → find_coming set ws ≡ Some w → FoundComing set ws w
found_coming set [] w e = absurd (none-some w e)
found_coming set (v ∷ ws) w e = by (has set v) refl e (λ h. found_coming set ws w h)
  where
    by : (b : Bool) → has set v ≡ b → cond b (Some v) (find_coming set ws) ≡ Some w →
        (find_coming set ws ≡ Some w → FoundComing set ws w) → FoundComing set (v ∷ ws) w
    by true t e ih =
        let same : v ≡ w = some_is v w e in
        record { among = subst (Contains (v ∷ ws)) same (first_in v ws); comes = ap (has set) (sym same) ∙ t }
    by false t e ih = let f = ih e in record { among = later_in v w ws f.among; comes = f.comes }

pub finds_coming : (set : List Bool) (ws : List ℕ) (w : ℕ) → Contains ws w → has set w ≡ true → (v : ℕ) × (find_coming set ws ≡ Some v)
finds_coming set [] w c h = absurd (none_in w c)
finds_coming set (v ∷ ws) w c h = by (has set v) refl (λ d. finds_coming set ws w d h)
  where
    by : (b : Bool) → has set v ≡ b → (Contains ws w → (u : ℕ) × (find_coming set ws ≡ Some u)) →
        (u : ℕ) × (cond b (Some v) (find_coming set ws) ≡ Some u)
    by true t ih = (v, refl)
    by false t ih = ih (⊎_elim (λ s. absurd (not_both (has set v) (ap (has set) s ∙ h) t)) (λ d. d) (in_cons v w ws c))
