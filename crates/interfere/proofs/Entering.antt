-- Registers that come to their numbers in a table.
use Rattle.std.proofs.Common.{◌≡◌, ◌≢◌, ℕ, ◌+◌, ◌<◌, ◌≤◌, ◌⊎◌, inl, inr, ⊎_elim, List, [], ◌∷◌, ◌++◌, Some, None}
use Rattle.std.proofs.Common.{length, take, set, get_or, refl, sym, ap, ◌∙◌, subst}
use Rattle.std.specs.List.{All, Contains}
use Rattle.std.specs.Prelude.{Option}
use Rattle.std.proofs.lemmas.Bool.{cases_eq}
use Rattle.std.proofs.lemmas.List.{length-set, get_or-set_same, get_or-set_other, take_more, take_all}
use Rattle.std.proofs.lemmas.List.Elements.{Contains-get_or, Contains-append_left, Contains-append_right, Contains-append_cases}
use Rattle.mach_ir.specs.Walks.{InCode, in_args, in_results, further, IsRegister, is_param, is_colour, is_in_code}
use Rattle.mach_ir.specs.declared.reg.Reg.{Reg}
use Rattle.mach_ir.specs.declared.mach.Instr.{Instr}
use Rattle.mach_ir.specs.declared.mach.Mach.{Mach}
use Rattle.bs_words.proofs.Lists.{none_in, first_in, in_cons}
use Rattle.interfere.specs.Registers.{IsRegisterAt, HasOne, Enters, AreNumberedRegisters}

abbrev pub Table : Type 0
Table = List (Option Reg)

-- ---- bounds

pub regs_small : (bound len : ℕ) (regs lent : List Reg) → lent ≡ regs → ((r : Reg) → Contains regs r → r.number < bound) → len ≡ bound →
    All (λ (r : Reg). r.number < len) lent
regs_small bound len regs lent same below e =
    subst (λ k. All (λ (r : Reg). r.number < k) lent) (sym e)
    (subst (λ rs. All (λ (r : Reg). r.number < bound) rs) (sym same) (λ k d lt. below (get_or regs k d) (Contains-get_or regs k d lt)))

-- the element at a place that was read is among the list
pub read_in : (code : List Instr) (k : ℕ) (i : Instr) → k < length code → i ≡ get_or code k i → Contains code i
read_in code k i lt read = (k, lt, sym read)

-- ---- one after the other

pub enters_none : (t : Table) (P : Reg → Type 0) → ((r : Reg) → P r → ⊥) → Enters t t P
enters_none t P none =
    record {
      len = refl;
      kept = λ n h. h;
      sound = λ n r h. inl h;
      whole = λ r p. absurd (none r p);
    }

pub enters_then : (x y z : Table) (P Q R : Reg → Type 0) → Enters x y P → Enters y z Q → ((r : Reg) → R r → P r ⊎ Q r) →
    ((r : Reg) → P r → R r) → ((r : Reg) → Q r → R r) → Enters x z R
enters_then x y z P Q R one two split left right =
    record {
      len = two.len ∙ one.len;
      kept = λ n h. two.kept n (one.kept n h);
      sound = λ n r h.
          ⊎_elim (λ o. ⊎_elim (λ f. inl f) (λ p. inr (p.0, left r p.1)) (one.sound n r o)) (λ q. inr (q.0, right r q.1)) (two.sound n r h);
      whole = λ r h. ⊎_elim (λ p. two.kept r.number (one.whole r p)) (λ q. two.whole r q) (split r h);
    }

enter_one : (t : Table) (r : Reg) → r.number < length t → Enters t (set t r.number (Some r)) (Contains (r ∷ []))
enter_one t r lt =
    record {
      len = length-set t r.number (Some r);
      kept = λ n h. ⊎_elim (λ (e : n ≡ r.number). record { register = r; there = subst (λ k. IsRegisterAt made k r) (sym e) same })
          (λ (ne : n ≢ r.number). record { register = h.register; there = get_or-set_other t r.number n (Some r) None ne ∙ h.there }) (cases_eq n r.number);
      sound = λ n q h.
          ⊎_elim (λ (e : n ≡ r.number).
          let f : Some r ≡ Some q = sym same ∙ sym (ap (λ k. get_or made k None) e) ∙ h in
          let g : r ≡ q = cc in
          inr (sym (ap (λ (r : Reg). r.number) g) ∙ sym e, subst (Contains (r ∷ [])) g (first_in r [])))
          (λ (ne : n ≢ r.number). inl (sym (get_or-set_other t r.number n (Some r) None ne) ∙ h)) (cases_eq n r.number);
      whole = λ q c.
          ⊎_elim (λ e. subst (λ (q : Reg). HasOne made q.number) e (record { register = r; there = same }))
          (λ z. absurd (none_in q z)) (in_cons r q [] c);
    }
  where
    made : Table
    made = set t r.number (Some r)

    same : IsRegisterAt made r.number r
    same = get_or-set_same t r.number (Some r) None lt

pub enter_more : (regs : List Reg) (k : ℕ) (d : Reg) (old now : Table) → k < length regs → (get_or regs k d).number < length old →
    Enters old now (Contains (take k regs)) → Enters old (set now (get_or regs k d).number (Some (get_or regs k d))) (Contains (take (k + 1) regs))
enter_more regs k d old now lt small before =
    let r : Reg = get_or regs k d in
    let len = before.len in
    enters_then old now (set now r.number (Some r)) (Contains (take k regs)) (Contains (r ∷ [])) (Contains (take (k + 1) regs)) before
    (enter_one now r (subst (λ n. r.number < n) (sym len) small))
    (λ q c. Contains-append_cases (take k regs) (r ∷ []) q (subst (λ rs. Contains rs q) (take_more regs k d lt) c))
    (λ q c. subst (λ rs. Contains rs q) (sym (take_more regs k d lt)) (Contains-append_left (take k regs) (r ∷ []) q c))
    (λ q c. subst (λ rs. Contains rs q) (sym (take_more regs k d lt)) (Contains-append_right (take k regs) (r ∷ []) q c))

-- ---- code

code_split : (xs ys : List Instr) (r : Reg) → InCode r (xs ++ ys) → InCode r xs ⊎ InCode r ys
code_split [] ys r c = inr c
code_split (x ∷ xs) ys r (in_args c) = inl (in_args c)
code_split (x ∷ xs) ys r (in_results c) = inl (in_results c)
code_split (x ∷ xs) ys r (further c) = ⊎_elim (λ d. inl (further d)) (λ d. inr d) (code_split xs ys r c)

code_left : (xs ys : List Instr) (r : Reg) → InCode r xs → InCode r (xs ++ ys)
code_left [] ys r c = elim c [ ]
code_left (x ∷ xs) ys r (in_args c) = in_args c
code_left (x ∷ xs) ys r (in_results c) = in_results c
code_left (x ∷ xs) ys r (further c) = further (code_left xs ys r c)

code_right : (xs ys : List Instr) (r : Reg) → InCode r ys → InCode r (xs ++ ys)
code_right [] ys r c = c
code_right (x ∷ xs) ys r c = further (code_right xs ys r c)

none_begun : (code : List Instr) (r : Reg) → InCode r (take 0 code) → ⊥
none_begun [] r c = elim c [ ]
none_begun (i ∷ is) r c = elim c [ ]

pub code_begun : (code : List Instr) (t : Table) → Enters t t (λ r. InCode r (take 0 code))
code_begun code t = enters_none t (λ r. InCode r (take 0 code)) (none_begun code)

-- one instruction more
pub code_more : (code : List Instr) (k : ℕ) (i : Instr) (args results : List Reg) (old now mid new : Table) → k < length code →
    i ≡ get_or code k i → args ≡ i.args → results ≡ i.results → Enters old now (λ r. InCode r (take k code)) →
    Enters now mid (Contains args) → Enters mid new (Contains results) → Enters old new (λ r. InCode r (take (k + 1) code))
code_more code k i args results old now mid new lt read a s before one two =
    enters_then old now new (λ r. InCode r (take k code)) (λ r. InCode r (i ∷ [])) (λ r. InCode r (take (k + 1) code)) before
    (enters_then now mid new (Contains args) (Contains results) (λ r. InCode r (i ∷ [])) one two (λ r c. by r c)
    (λ r c. in_args (subst (λ rs. Contains rs r) a c)) (λ r c. in_results (subst (λ rs. Contains rs r) s c)))
    (λ r c. code_split (take k code) (i ∷ []) r (subst (InCode r) taken c))
    (λ r c. subst (InCode r) (sym taken) (code_left (take k code) (i ∷ []) r c))
    (λ r c. subst (InCode r) (sym taken) (code_right (take k code) (i ∷ []) r c))
  where
    taken : take (k + 1) code ≡ take k code ++ i ∷ []
    taken = take_more code k i lt ∙ ap (λ x. take k code ++ x ∷ []) (sym read)

    by : (r : Reg) → InCode r (i ∷ []) → Contains args r ⊎ Contains results r
    by r (in_args c) = inl (subst (λ rs. Contains rs r) (sym a) c)
    by r (in_results c) = inr (subst (λ rs. Contains rs r) (sym s) c)
    by r (further c) = elim c [ ]

pub code_all : (code : List Instr) (k : ℕ) (old new : Table) → length code ≤ k → Enters old new (λ r. InCode r (take k code)) →
    Enters old new (λ r. InCode r code)
code_all code k old new le h = subst (λ xs. Enters old new (λ r. InCode r xs)) (take_all k code le) h

-- ---- the whole function

pub registers_made : (m : Mach) (size : ℕ) (empty one two three : Table) (params colours : List Reg) (code : List Instr) →
    params ≡ m.params → colours ≡ m.colours → code ≡ m.code → length empty ≡ size → ((n : ℕ) → get_or empty n None ≡ None) →
    Enters empty one (Contains params) → Enters one two (Contains colours) → Enters two three (λ r. InCode r code) → AreNumberedRegisters m size three
registers_made m size empty one two three params colours code p q s len none first second third =
    record {
      len = all.len ∙ len;
      sound = λ n r h. ⊎_elim (λ o. let f : get_or empty n None ≡ None = none n in absurd (cc)) (λ d. d) (all.sound n r h);
      whole = λ r h. all.whole r h;
    }
  where
    of_code : Enters two three (λ r. InCode r m.code)
    of_code = subst (λ xs. Enters two three (λ r. InCode r xs)) s third

    of_colours : Enters one two (Contains m.colours)
    of_colours = subst (λ rs. Enters one two (Contains rs)) q second

    of_params : Enters empty one (Contains m.params)
    of_params = subst (λ rs. Enters empty one (Contains rs)) p first

    Later : Reg → Type 0
    Later r = Contains m.colours r ⊎ InCode r m.code

    later : Enters one three (λ r. Contains m.colours r ⊎ InCode r m.code)
    later =
        enters_then one two three (Contains m.colours) (λ r. InCode r m.code) (λ r. Contains m.colours r ⊎ InCode r m.code) of_colours of_code
        (λ r h. h) (λ r h. inl h) (λ r h. inr h)

    split : (r : Reg) → IsRegister m r → Contains m.params r ⊎ (Contains m.colours r ⊎ InCode r m.code)
    split r (is_param c) = inl c
    split r (is_colour c) = inr (inl c)
    split r (is_in_code c) = inr (inr c)

    all : Enters empty three (IsRegister m)
    all =
        enters_then empty one three (Contains m.params) (λ r. Contains m.colours r ⊎ InCode r m.code) (IsRegister m) of_params later split
        (λ r c. is_param c) (λ r h. ⊎_elim (λ c. is_colour c) (λ c. is_in_code c) h)
