-- A set of numbers that says what is live makes exact entries.
use Rattle.std.proofs.Common.{◌≡◌, ◌↔◌, ℕ, zero, suc, ◌+◌, ◌-◌, ◌*◌, ◌%◌, ◌<◌, ◌≤◌, Bool, true, false, cond, ⊎_elim, List, [], ◌∷◌, length, drop, refl, sym, ap, ◌∙◌, subst, arith}
use Rattle.std.proofs.lemmas.Bool.{lt-ltb, le-ltb, cases_lt}
use Rattle.std.proofs.lemmas.List.{length-drop}
use Rattle.std.proofs.lemmas.List.Elements.{All-head, All-drop, All-contains, Contains-get_or}
use Rattle.std.specs.List.{All, AllPairs, Contains}
use Rattle.std.specs.Prelude.{slice_index_or}
use Rattle.bs_words.specs.declared.types.Comp.{Comp}
use Rattle.bs_words.specs.declared.types.Comp.TheVariants as comp
use Rattle.bs_words.specs.declared.types.Loc.{Loc}
use Rattle.bs_words.specs.declared.types.Loc.TheVariants as loc
use Rattle.bs_words.proofs.Lists.{none_in, first_in, later_in, in_cons}
use Rattle.bs_bits.specs.Set.{has}
use Rattle.lin_ir.specs.Descriptors.{frame_bytes, IsDescriptorEntry, of_register, of_slot, ComesBefore, register_first, rising, NamesLive, IsDescr}
use Rattle.lin_ir.specs.Walks.{goes, raises, Live, read, on, aside, LiveAcross, across_step, across_raise, LiveAt}
use Rattle.lin_ir.specs.declared.descr.Descr.{Descr}
use Rattle.lin_ir.specs.declared.lin.Spot.{Spot}
use Rattle.lin_ir.specs.declared.lin.Line.{Line}
use Rattle.lin_ir.specs.declared.lin.Lin.{Lin}
use Rattle.lin_laws.proofs.Numbers.{loc_of_number}
use Rattle.lin_laws.proofs.Places.{Ends, drop_is, target_ends, ends_label}
use Rattle.lin_laws.specs.Graph.{location_of_number, HasNumber, HaveNumbers, AreNumbered}
use Rattle.lin_laws.specs.Numbers.{number_of_location, entry_of, trap_entries_from}

-- ---- entries of a set

low : (t n : ℕ) → n < 32 → entry_of t n ≡ 2 * n + 1
low t n h = ap (λ b. cond b (2 * n + 1) (8 * (n - 32) + 16 * t)) (lt-ltb n 32 h)

high : (t n : ℕ) → 32 ≤ n → entry_of t n ≡ 8 * (n - 32) + 16 * t
high t n h = ap (λ b. cond b (2 * n + 1) (8 * (n - 32) + 16 * t)) (le-ltb n 32 h)

pub entry_is : (t a : ℕ) (set : List Bool) (e : ℕ) → Contains (trap_entries_from t a set) e →
    (n : ℕ) × (has set n ≡ true) × (entry_of t (a + n) ≡ e)
entry_is t a [] e c = absurd (none_in e c)
entry_is t a (true ∷ set) e c =
    ⊎_elim (λ f. let z : a + 0 ≡ a = omega arith in (0, refl, ap (entry_of t) z ∙ f))
    (λ d. let r = entry_is t (suc a) set e d in let z : a + suc r.0 ≡ suc a + r.0 = omega arith in (suc r.0, r.1, ap (entry_of t) z ∙ r.2))
    (in_cons (entry_of t a) e (trap_entries_from t (suc a) set) c)
entry_is t a (false ∷ set) e c =
    let r = entry_is t (suc a) set e c in let z : a + suc r.0 ≡ suc a + r.0 = omega arith in (suc r.0, r.1, ap (entry_of t) z ∙ r.2)

pub entry_all : (t a : ℕ) (set : List Bool) (n : ℕ) → has set n ≡ true → Contains (trap_entries_from t a set) (entry_of t (a + n))
entry_all t a [] n h = absurd (cc)
entry_all t a (true ∷ set) zero h =
    let z : a ≡ a + 0 = omega arith in
    subst (λ k. Contains (entry_of t a ∷ trap_entries_from t (suc a) set) (entry_of t k)) z (first_in (entry_of t a) (trap_entries_from t (suc a) set))
entry_all t a (false ∷ set) zero h = absurd (cc)
entry_all t a (true ∷ set) (suc n) h =
    let z : suc a + n ≡ a + suc n = omega arith in
    subst (λ k. Contains (entry_of t a ∷ trap_entries_from t (suc a) set) (entry_of t k)) z
    (later_in (entry_of t a) (entry_of t (suc a + n)) (trap_entries_from t (suc a) set) (entry_all t (suc a) set n h))
entry_all t a (false ∷ set) (suc n) h =
    let z : suc a + n ≡ a + suc n = omega arith in
    subst (λ k. Contains (trap_entries_from t (suc a) set) (entry_of t k)) z (entry_all t (suc a) set n h)

odd : (n : ℕ) → (2 * n + 1) % 2 ≡ 1
odd n = omega arith

even : (k t : ℕ) → (8 * k + 16 * t) % 2 ≡ 0
even k t = omega arith

both_low : (t a b : ℕ) → a < b → b < 32 → ComesBefore (entry_of t a) (entry_of t b)
both_low t a b lt h =
    let x : a < 32 = omega (arith, lt, h) in
    subst (λ e. ComesBefore e (entry_of t b)) (sym (low t a x))
    (subst (λ e. ComesBefore (2 * a + 1) e) (sym (low t b h)) (rising (odd a ∙ sym (odd b)) (omega (arith, lt))))

low_high : (t a b : ℕ) → a < 32 → 32 ≤ b → ComesBefore (entry_of t a) (entry_of t b)
low_high t a b x h =
    subst (λ e. ComesBefore e (entry_of t b)) (sym (low t a x))
    (subst (λ e. ComesBefore (2 * a + 1) e) (sym (high t b h)) (register_first (odd a) (even (b - 32) t)))

both_high : (t a b : ℕ) → a < b → 32 ≤ a → ComesBefore (entry_of t a) (entry_of t b)
both_high t a b lt x =
    let h : 32 ≤ b = omega (arith, lt, x) in
    subst (λ e. ComesBefore e (entry_of t b)) (sym (high t a x))
    (subst (λ e. ComesBefore (8 * (a - 32) + 16 * t) e) (sym (high t b h))
    (rising (even (a - 32) t ∙ sym (even (b - 32) t)) (omega (arith, lt, x))))

comes : (t a b : ℕ) → a < b → ComesBefore (entry_of t a) (entry_of t b)
comes t a b lt =
    ⊎_elim (λ h. both_low t a b lt h) (λ h. ⊎_elim (λ x. low_high t a b x h) (λ x. both_high t a b lt x) (cases_lt a 32)) (cases_lt b 32)

pairs_cons : {A : Type 0} (R : A → A → Type 0) (x : A) (xs : List A) → ((y : A) → Contains xs y → R x y) → AllPairs R xs →
    AllPairs R (x ∷ xs)
pairs_cons {A} R x xs first rest = λ i j d. by d i j
  where
    by : (d : A) (i j : ℕ) → i < j → j < length (x ∷ xs) → R (slice_index_or (x ∷ xs) i d) (slice_index_or (x ∷ xs) j d)
    by d zero zero lt le = absurd (omega (arith, lt))
    by d zero (suc j) lt le = first (slice_index_or xs j d) (Contains-get_or xs j d (omega (arith, le)))
    by d (suc i) zero lt le = absurd (omega (arith, lt))
    by d (suc i) (suc j) lt le = rest i j d (omega (arith, lt)) (omega (arith, le))

pub entries_order : (t a : ℕ) (set : List Bool) → AllPairs ComesBefore (trap_entries_from t a set)
entries_order t a [] = λ i j d lt le. absurd (omega (arith, le))
entries_order t a (true ∷ set) =
    pairs_cons ComesBefore (entry_of t a) (trap_entries_from t (suc a) set)
    (λ e c.
    let r = entry_is t (suc a) set e c in
    subst (λ y. ComesBefore (entry_of t a) y) r.2 (comes t a (suc a + r.0) (omega arith)))
    (entries_order t (suc a) set)
entries_order t a (false ∷ set) = entries_order t (suc a) set

-- ---- what is live has a number

module _ (m : Lin) (numbered : AreNumbered m) where
  read_numbered : (i : Line) (next : List Line) (l : Loc) (t : Comp) → Ends m.code (i ∷ next) →
      Contains i.args (record { loc = l; comp = t }) → HasNumber m.slots l
  read_numbered i next l t e c =
      let P : Line → Type 0 = λ i. HaveNumbers m.slots i.args in
      let rest = subst (All P) e.is (All-drop P e.at m.code numbered.args) in
      All-contains (λ (s : Spot). HasNumber m.slots s.loc) i.args (record { loc = l; comp = t }) (All-head P i next rest) c

  live_numbered : {l : Loc} {t : Comp} {rest : List Line} {tries : List ℕ} → Live m l t rest tries → Ends m.code rest → HasNumber m.slots l
  live_numbered {l} {t} (read {i = i} {next = next} a) e = read_numbered i next l t e a
  live_numbered (on w (goes t o) live) e = live_numbered live (target_ends m t e)
  live_numbered (aside (raises {h = h} b) live) e = live_numbered live (ends_label h m.code)

  across_numbered : {l : Loc} {t : Comp} {i : Line} {next : List Line} {tries : List ℕ} → LiveAcross m l t i next tries →
      Ends m.code (i ∷ next) → HasNumber m.slots l
  across_numbered (across_step w (goes t o) live) e = live_numbered live (target_ends m t e)
  across_numbered (across_raise (raises {h = h} b) live) e = live_numbered live (ends_label h m.code)

  -- ---- descriptors

  module _ (i : Line) (next : List Line) (p : ℕ) (at : drop p m.code ≡ i ∷ next) (t : ℕ) (set : List Bool)
      (live : (n : ℕ) → (has set n ≡ true) ↔ LiveAt m (location_of_number n) comp.Val i next) where
    entry_at : (n : ℕ) → IsDescriptorEntry t (location_of_number n) (entry_of t n)
    entry_at n =
        ⊎_elim
        (λ h.
        subst (λ l. IsDescriptorEntry t l (entry_of t n)) (sym (ap (λ b. cond b (loc.Machine n) (loc.Slot (n - 32))) (lt-ltb n 32 h)))
        (subst (λ e. IsDescriptorEntry t (loc.Machine n) e) (sym (low t n h)) of_register))
        (λ h.
        subst (λ l. IsDescriptorEntry t l (entry_of t n)) (sym (ap (λ b. cond b (loc.Machine n) (loc.Slot (n - 32))) (le-ltb n 32 h)))
        (subst (λ e. IsDescriptorEntry t (loc.Slot (n - 32)) e) (sym (high t n h)) of_slot)) (cases_lt n 32)

    entry_of_loc : (l : Loc) (e : ℕ) → HasNumber m.slots l → IsDescriptorEntry t l e → entry_of t (number_of_location l) ≡ e
    entry_of_loc loc.Unset e h k = elim h [ ]
    entry_of_loc (loc.Machine r) e h (of_register) = low t r h
    entry_of_loc (loc.Slot k) e h (of_slot) = let z : k + 32 - 32 ≡ k = omega arith in high t (k + 32) (omega arith) ∙ ap (λ j. 8 * j + 16 * t) z

    ends : Ends m.code (i ∷ next)
    ends = let d = drop_is p m.code i next at in let lt = d.0 in record { at = p; within = omega (arith, lt); is = at }

    names : (e : ℕ) → Contains (trap_entries_from t 0 set) e → NamesLive m i next t e
    names e c =
        let r = entry_is t 0 set e c in
        let z : 0 + r.0 ≡ r.0 = omega arith in
        record {
          location = location_of_number r.0;
          live = (live r.0).0 r.1;
          entry = subst (λ k. IsDescriptorEntry t (location_of_number r.0) k) (ap (entry_of t) (sym z) ∙ r.2) (entry_at r.0);
        }

    named : (e : ℕ) → NamesLive m i next t e → Contains (trap_entries_from t 0 set) e
    named e h =
        let number = across_numbered h.live.across ends in
        let n : ℕ = number_of_location h.location in
        let same = loc_of_number m.slots h.location number in
        let z : 0 + n ≡ n = omega arith in
        let is = (live n).1 (subst (λ l. LiveAt m l comp.Val i next) (sym same) h.live) in
        subst (Contains (trap_entries_from t 0 set)) (ap (entry_of t) z ∙ entry_of_loc h.location e number h.entry) (entry_all t 0 set n is)

    -- a descriptor whose entries are those of the set
    pub is_descr : (tries : List ℕ) (d : Descr) → t ≡ length tries → d.after ≡ p → d.size ≡ frame_bytes m + 16 * t →
        d.entries ≡ trap_entries_from t 0 set → IsDescr m i next tries d
    is_descr tries d traps after size entries =
        let b = drop_is p m.code i next at in
        let lt = b.0 in
        let len : suc (length next) ≡ length m.code - p = ap length (sym at) ∙ length-drop p m.code in
        record {
          after = omega (arith, after, lt, len);
          size = size ∙ ap (λ k. frame_bytes m + 16 * k) traps;
          exact = λ e. (
            λ c. subst (λ k. NamesLive m i next k e) traps (names e (subst (λ xs. Contains xs e) entries c)),
            λ h. subst (λ xs. Contains xs e) (sym entries) (named e (subst (λ k. NamesLive m i next k e) (sym traps) h)),
          );
          order = subst (AllPairs ComesBefore) (sym entries) (entries_order t 0 set);
        }
