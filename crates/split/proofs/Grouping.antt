-- Writes in the groups of their numbers, one after the other.
use Rattle.std.proofs.Common.{◌≡◌, ◌≢◌, ℕ, zero, suc, ◌+◌, ◌<◌, ◌≤◌, Bool, true, false, cond, ◌⊎◌, inl, inr, ⊎_elim, List, [], ◌∷◌, ◌++◌, Some, None, length, map, take, set, get_or, refl, sym, ap, ◌∙◌, subst, arith}
use Rattle.std.specs.List.{All, Contains}
use Rattle.std.specs.Prelude.{slice_get, slice_index_or}
use Rattle.std.proofs.lemmas.List.Elements.{Contains-get_or, Contains-append_left, Contains-append_right, Contains-append_cases}
use Rattle.mach_ir.specs.Sizes.{operand_count, HasRoom, IsCountable, number_limit}
use Rattle.mach_ir.specs.Walks.{IsRegister}
use Rattle.mach_ir.specs.declared.reg.Reg.{Reg}
use Rattle.mach_ir.specs.declared.mach.Instr.{Instr}
use Rattle.mach_ir.specs.declared.mach.Mach.{Mach}
use Rattle.std.proofs.lemmas.Bool.{cases_eq}
use Rattle.std.proofs.lemmas.List.{length-set, length-map, map-set, get_or-map, get_or-set_same, get_or-set_other, take_more, take_all, length-append}
use Rattle.std.proofs.lemmas.Option.{slice_get_within}
use Rattle.liveness.proofs.Counting.{countable_of}
use Rattle.split_rules.specs.Order.{write_of, open_writes, code_writes, writes_of}
use Rattle.split_rules.specs.Split.{split_size}
use Rattle.bs_words.proofs.Lists.{none_in, first_in, later_in, in_cons, pushed_kept, pushed_here, pushed_cases}
use Rattle.split.specs.Writes.{members_in, HasOnlyNewMember, AreRising, ends, rises, IsGrouped}
use Rattle.split.specs.declared.writes.WriteGroup as group
use Rattle.split_rules.specs.declared.writes.Write.{Write}
use Rattle.split.proofs.Members.{open_write}
use Rattle.mach_ir.specs.Places.{is_unset_location}

members_same : (gs : List group.WriteGroup) (k : ℕ) (g : group.WriteGroup) → k < length gs → members_in (set gs k g) k ≡ g.members.items
members_same gs k g within =
    let f : group.WriteGroup → List ℕ = λ x. x.members.items in
    let w : k < length (map f gs) = omega (arith, length-map gs f, within) in
    ap (λ (l : List (List ℕ)). get_or l k []) (map-set f gs k g) ∙ get_or-set_same (map f gs) k (f g) [] w

members_other : (gs : List group.WriteGroup) (k j : ℕ) (g : group.WriteGroup) → j ≢ k → members_in (set gs k g) j ≡ members_in gs j
members_other gs k j g ne =
    let f : group.WriteGroup → List ℕ = λ x. x.members.items in
    ap (λ (l : List (List ℕ)). get_or l j []) (map-set f gs k g) ∙ get_or-set_other (map f gs) k j (f g) [] ne

members_read : (gs : List group.WriteGroup) (k : ℕ) (g : group.WriteGroup) → k < length gs → g ≡ get_or gs k g → members_in gs k ≡ g.members.items
members_read gs k g within read =
    let f : group.WriteGroup → List ℕ = λ x. x.members.items in
    get_or-map f gs k g [] within ∙ ap f (sym read)

pub has_member : (old new : List group.WriteGroup) (k member : ℕ) (g g' : group.WriteGroup) → k < length old → g ≡ get_or old k g →
    g'.members.items ≡ g.members.items ++ member ∷ [] → new ≡ set old k g' → HasOnlyNewMember old new k member
has_member old new k member g g' within read more is =
    record {
      len = ap length is ∙ length-set old k g';
      here = ap (λ (l : List group.WriteGroup). members_in l k) is
          ∙ (members_same old k g' within ∙ (more ∙ ap (λ (l : List ℕ). l ++ member ∷ []) (sym (members_read old k g within read))));
      others = λ j ne. ap (λ (l : List group.WriteGroup). members_in l j) is ∙ members_other old k j g' ne;
    }

-- ---- one write more

rising_more : (ws : List ℕ) (w : ℕ) → AreRising ws → ((v : ℕ) → Contains ws v → v < w) → AreRising (ws ++ w ∷ [])
rising_more [] w r above = rises (λ v c. absurd (none_in v c)) ends
rising_more (u ∷ ws) w (rises low r) above =
    rises
    (λ v c.
    ⊎_elim (low v) (λ d. ⊎_elim (λ e. subst (λ v. u < v) e (above u (first_in u ws))) (λ z. absurd (none_in v z)) (in_cons w v [] d))
    (Contains-append_cases ws (w ∷ []) v c))
    (rising_more ws w r (λ v c. above v (later_in u v ws c)))

module _ (writes : List Write) (free : ℕ) (old new : List group.WriteGroup) (x : Write) (w : ℕ) (end : w ≡ length writes)
    (has : HasOnlyNewMember old new x.number w) where
  in_group : (n v : ℕ) → Contains (members_in new n) v → Contains (members_in old n) v ⊎ ((n ≡ x.number) × (w ≡ v))
  in_group n v c =
      ⊎_elim
      (λ (e : n ≡ x.number).
      let d : Contains (members_in old x.number ++ w ∷ []) v =
      subst (λ xs. Contains xs v) has.here (subst (λ n. Contains (members_in new n) v) e c) in
      ⊎_elim (λ h. inl (subst (λ n. Contains (members_in old n) v) (sym e) h))
      (λ h. ⊎_elim (λ s. inr (e, s)) (λ z. absurd (none_in v z)) (in_cons w v [] h)) (Contains-append_cases (members_in old x.number) (w ∷ []) v d))
      (λ (ne : n ≢ x.number). inl (subst (λ xs. Contains xs v) (has.others n ne) c)) (cases_eq n x.number)

  kept_in : (n v : ℕ) → Contains (members_in old n) v → Contains (members_in new n) v
  kept_in n v c =
      ⊎_elim
      (λ (e : n ≡ x.number).
      subst (λ n. Contains (members_in new n) v) (sym e)
      (subst (λ xs. Contains xs v) (sym has.here)
      (Contains-append_left (members_in old x.number) (w ∷ []) v (subst (λ n. Contains (members_in old n) v) e c))))
      (λ (ne : n ≢ x.number). subst (λ xs. Contains xs v) (sym (has.others n ne)) c) (cases_eq n x.number)

  -- the members of a number rise, and the last index is above all
  rising_in : IsGrouped writes free old → (n : ℕ) → AreRising (members_in new n)
  rising_in g n =
      ⊎_elim
      (λ (e : n ≡ x.number).
      subst (λ n. AreRising (members_in new n)) (sym e)
      (subst AreRising (sym has.here)
      (rising_more (members_in old x.number) w (g.rising x.number)
      (λ v c.
      let y = g.sound x.number v c in
      let lt : v < length writes = slice_get_within writes v y.0 y.1 in omega (arith, lt, end)))))
      (λ (ne : n ≢ x.number). subst AreRising (sym (has.others n ne)) (g.rising n)) (cases_eq n x.number)

  pub grouped_pushed : IsGrouped writes free old → IsGrouped (writes ++ x ∷ []) free new
  grouped_pushed g =
      record {
        len = has.len ∙ g.len;
        sound = λ n v c.
            ⊎_elim (λ h. let y = g.sound n v h in (y.0, pushed_kept writes x y.0 v y.1, y.2))
            (λ h. (
              x,
              subst (λ v. slice_get (writes ++ x ∷ []) v ≡ Some x) (sym end ∙ h.1) (pushed_here writes x),
              sym h.0,
            )) (in_group n v c);
        whole = λ v y e.
            ⊎_elim (λ h. kept_in y.number v (g.whole v y h))
            (λ h.
            subst (λ n. Contains (members_in new n) v) (ap (λ (x : Write). x.number) h.1)
            (subst (λ v. Contains (members_in new x.number) v) (end ∙ sym h.0)
            (subst (λ xs. Contains xs w) (sym has.here)
            (Contains-append_right (members_in old x.number) (w ∷ []) w (first_in w []))))) (pushed_cases writes x y v e);
        rising = rising_in g;
      }

pub grouped_more : (writes : List Write) (free k w : ℕ) (old new : List group.WriteGroup) (d : Write) → k < length writes → w ≡ k →
    HasOnlyNewMember old new (get_or writes k d).number w → IsGrouped (take k writes) free old → IsGrouped (take (k + 1) writes) free new
grouped_more writes free k w old new d lt e has g =
    subst (λ xs. IsGrouped xs free new) (sym (take_more writes k d lt))
    (grouped_pushed (take k writes) free old new (get_or writes k d) w (e ∙ sym (taken writes k lt)) has g)
  where
    taken : (xs : List Write) (k : ℕ) → k < length xs → length (take k xs) ≡ k
    taken [] k lt = absurd (omega (arith, lt))
    taken (x ∷ xs) zero lt = refl
    taken (x ∷ xs) (suc k) lt = ap suc (taken xs k (omega (arith, lt)))

pub grouped_none : (writes : List Write) (free : ℕ) (groups : List group.WriteGroup) → IsGrouped [] free groups → IsGrouped (take 0 writes) free groups
grouped_none [] free groups g = g
grouped_none (x ∷ xs) free groups g = g

pub grouped_all : (writes : List Write) (free k : ℕ) (groups : List group.WriteGroup) → length writes ≤ k → IsGrouped (take k writes) free groups →
    IsGrouped writes free groups
grouped_all writes free k groups le g = subst (λ xs. IsGrouped xs free groups) (take_all k writes le) g

-- ---- no write yet

empty_more : (groups : List group.WriteGroup) (g : group.WriteGroup) → g.members.items ≡ [] → ((n : ℕ) → members_in groups n ≡ []) → (n : ℕ) →
    members_in (groups ++ g ∷ []) n ≡ []
empty_more [] g e none zero = e
empty_more [] g e none (suc n) = refl
empty_more (x ∷ xs) g e none zero = none 0
empty_more (x ∷ xs) g e none (suc n) = empty_more xs g e (λ k. none (suc k)) n

pub none_more : (old new : List group.WriteGroup) (g : group.WriteGroup) → new ≡ old ++ g ∷ [] → g.members.items ≡ [] →
    ((n : ℕ) → members_in old n ≡ []) → (n : ℕ) → members_in new n ≡ []
none_more old new g made e none n = ap (λ xs. members_in xs n) made ∙ empty_more old g e none n

pub none_grouped : (free k : ℕ) (groups : List group.WriteGroup) → length groups ≡ k → k ≡ free → ((n : ℕ) → members_in groups n ≡ []) →
    IsGrouped [] free groups
none_grouped free k groups len e none =
    record {
      len = len ∙ e;
      sound = λ n w c. absurd (none_in w (subst (λ xs. Contains xs w) (none n) c));
      whole = λ w x h. absurd (nothing x h);
      rising = λ n. subst AreRising (sym (none n)) ends;
    }
  where
    nothing : (x : Write) → None ≡ Some x → ⊥
    nothing x e = cc

pub none_len : (old new : List group.WriteGroup) (g : group.WriteGroup) (k : ℕ) → new ≡ old ++ g ∷ [] → length old ≡ k → length new ≡ k + 1
none_len old new g k made e =
    let long : length new ≡ length old + 1 = ap length made ∙ length-append old (g ∷ []) in omega (arith, long, e)

-- ---- numbers of writes

pub numbers_small : (m : Mach) (free : ℕ) (writes : List Write) → ((r : Reg) → IsRegister m r → r.number < free) → writes ≡ writes_of m →
    All (λ (x : Write). x.number < free) writes
numbers_small m free writes small e = λ k d lt.
    let x = slice_index_or writes k d in
    let o = open_write m x (subst (λ xs. Contains xs x) e (Contains-get_or writes k d lt)) in
    subst (λ n. n < free) o.number (small o.register o.among)

-- ---- how many writes there are

few_open : (k : ℕ) (rs : List Reg) → length (open_writes k rs) ≤ length rs
few_open k [] = omega arith
few_open k (r ∷ rs) = by (is_unset_location r.loc) (few_open k rs)
  where
    by : (b : Bool) → length (open_writes k rs) ≤ length rs →
        length (cond b (write_of k r ∷ open_writes k rs) (open_writes k rs)) ≤ length (r ∷ rs)
    by true le = omega (arith, le)
    by false le = omega (arith, le)

few_code : (code : List Instr) → length (code_writes code) ≤ operand_count code
few_code [] = omega arith
few_code (i ∷ is) =
    let a = few_open (length is) i.results in
    let b = few_code is in
    let c = length-append (open_writes (length is) i.results) (code_writes is) in
    omega (arith, a, b, c)

-- at most one for each operand and each parameter
pub few_writes : (m : Mach) → length (writes_of m) ≤ length m.params + operand_count m.code
few_writes m =
    let a = few_open (length m.code) m.params in
    let b = few_code m.code in
    let c = length-append (open_writes (length m.code) m.params) (code_writes m.code) in
    omega (arith, a, b, c)

-- so there is a number for each, from the first free one on
pub writes_fit : (m : Mach) (free : ℕ) → ((b : ℕ) → ((r : Reg) → IsRegister m r → r.number < b) → free ≤ b) →
    HasRoom (split_size (length m.params)) m → free + length (writes_of m) < number_limit
writes_fit m free least room =
    by free room.size.registers room.size.operands (length m.params) (length (writes_of m)) (operand_count m.code) number_limit
    (least room.size.registers room.within.numbers) (few_writes m) room.within.operands room.small.registers
  where
    by : (f r o p w c b : ℕ) → f ≤ r → w ≤ p + c → c ≤ o → r + (o + p) < b → f + w < b
    by f r o p w c b low few ops small = omega (arith, low, few, ops, small)

pub countable : (m : Mach) → HasRoom (split_size (length m.params)) m → IsCountable m
countable m room = countable_of (split_size (length m.params)) m (λ s. omega arith) (λ s. omega arith) (λ s. omega arith) (λ s. omega arith) room
