-- The relation stays where scratch registers change, and a location is written.
use Rattle.std.proofs.Common.{◌≡◌, ◌≢◌, ℕ, ◌+◌, ◌-◌, ◌%◌, ◌<◌, ◌≤◌, ◌⊎◌, inl, inr, Bool, true, false, List, length, map, Option, Some, None, slice_index, refl, ap, arith, ◌∙◌, sym, subst, ⊎_elim}
use Rattle.bs_words.specs.declared.types.Loc.{Loc}
use Rattle.bs_words.specs.declared.types.Loc.TheVariants as loc
use Rattle.bs_words.specs.declared.values.Value.{Value}
use Rattle.mach_ir.specs.Acts.{Around}
use Rattle.rv_machine.specs.Hart.{Placed}
use Rattle.rv_machine.specs.Memory.{memory_word}
use Rattle.rv_machine.specs.Placement.{are_apart}
use Rattle.rv_machine.specs.Space.{IsHeap}
use Rattle.rv_machine.specs.Sound.{AreRegisters, HasRegions, extents}
use Rattle.moving_laws.specs.Stands.{AmongNumbers}
use Rattle.moving_laws.specs.Waiting.{traps_at}
use Rattle.moving_laws.specs.Young.{Rises}
use Rattle.lin_laws.proofs.Forms.{same_machine}
use Rattle.lin_machine.specs.Files.{HoldsLess, IsPut}
use Rattle.lin_machine.specs.Relation.{AreCarried, Below, HeapStands, IsLocationRegister, Laid, OwnRegisters, RegistersHold, ReturnStands, SlotsHold, StandsFor, TrapsStand, Waits, Within, blocks_by_serial}
use Rattle.lin_machine.specs.Straight.{IsPast}
use Rattle.lin_machine.specs.View.{Fixed, View}

-- ---- registers

-- t1 or t2
abbrev pub IsScratch : ℕ → Type 0
IsScratch q = (q ≡ 6) ⊎ (q ≡ 7)

-- scratch registers alone
abbrev pub AreScratch : List ℕ → Type 0
AreScratch rs = (q : ℕ) → AmongNumbers q rs → IsScratch q

-- a register of the machine's own, or ra, is no scratch register
abbrev pub IsKept : ℕ → Type 0
IsKept q = (q ≢ 6) × (q ≢ 7)

pub kept_scratch : (rs : List ℕ) (q : ℕ) → AreScratch rs → IsKept q → AmongNumbers q rs → ⊥
kept_scratch rs q all kept i = ⊎_elim (λ e. kept.0 e) (λ e. kept.1 e) (all q i)

pub own_past : (registers registers' : List ℕ) (young : List Placed) (taken : ℕ) → AreRegisters registers' →
    slice_index registers' 26 ≡ slice_index registers 26 → slice_index registers' 27 ≡ slice_index registers 27 →
    OwnRegisters registers young taken → OwnRegisters registers' young taken
own_past registers registers' young taken are e26 e27 o = record {
  are = are;
  from_even = ap (λ x. (x + taken) % 8) e26 ∙ o.from_even;
  from_low = let h = o.from_low in omega (arith, h, e26);
  rises = subst (λ x. Rises (x + taken) young) (sym e26) o.rises;
  domain = e27 ∙ o.domain;
}

return_past : (saves : Bool) (v w : View) (c : Below) → (memory_word w.memory (c.top - 8) ≡ memory_word v.memory (c.top - 8)) →
    slice_index w.registers 1 ≡ slice_index v.registers 1 →
    ReturnStands saves v c → ReturnStands saves w c
return_past true v w c m r h = m ∙ h
return_past false v w c m r h = r ∙ h

-- ---- a view after some instructions that change registers which hold nothing that is kept

-- a register that is none of the machine's own
pub record IsFree (q : ℕ) : Type 0 where
  pub some : 3 ≤ q
  pub no_trap : q ≢ 9
  pub no_young : q ≢ 26
  pub no_domain : q ≢ 27

module _ (s : Fixed) (laid : Laid) (v w : View) (young : List Placed) (taken : ℕ) (held held' : Loc → Option Value) (a : Around) (c : Below)
    (n : ℕ) (rs : List ℕ) (past : IsPast n rs v.memory v w) (free : (q : ℕ) → AmongNumbers q rs → IsFree q) (less : HoldsLess held' held)
    (off : a.raised ≡ None → (q : ℕ) (x : Value) → AmongNumbers q rs → held' (loc.Machine q) ≡ Some x → ⊥) (carries : (a.raised ≡ None) ⊎ (AmongNumbers 10 rs → ⊥))
    (within : Within s laid v young taken held a c) where
  own_reg : (q : ℕ) → (q < 3) ⊎ ((q ≡ 9) ⊎ ((q ≡ 26) ⊎ (q ≡ 27))) → slice_index w.registers q ≡ slice_index v.registers q
  own_reg q (inl l) = past.others q (λ i. let f = (free q i).some in omega (arith, l, f))
  own_reg q (inr (inl e)) = past.others q (λ i. (free q i).no_trap e)
  own_reg q (inr (inr (inl e))) = past.others q (λ i. (free q i).no_young e)
  own_reg q (inr (inr (inr e))) = past.others q (λ i. (free q i).no_domain e)

  same_sp : slice_index w.registers 2 ≡ slice_index v.registers 2
  same_sp = own_reg 2 (inl (omega arith))

  pub placed_same : blocks_by_serial w young ≡ blocks_by_serial v young
  placed_same = ap (λ bs. blocks_by_serial (record v { blocks = bs }) young) past.blocks

  carried_by : (o : Option Value) → a.raised ≡ o → AreCarried s (blocks_by_serial v young) v.registers held o → AreCarried s (blocks_by_serial v young) w.registers held' o
  carried_by None e hold = λ q x h.
      let p = hold q x (less.each (loc.Machine q) x h) in
      (p.0, subst (λ z. StandsFor s (blocks_by_serial v young) z x) (sym (past.others q (λ i. off e q x i h))) p.1)
  carried_by (Some x) e hold =
      let same : slice_index w.registers 10 ≡ slice_index v.registers 10 = past.others 10 (λ i. ⊎_elim (λ none. let f = e in cc) (λ n. n i) carries) in
      subst (λ z. StandsFor s (blocks_by_serial v young) z x) (sym same) hold

  pub within_changed : Within s laid w young taken held' a c
  within_changed = record {
    own = own_past v.registers w.registers young taken past.are (own_reg 26 (inr (inr (inl refl)))) (own_reg 27 (inr (inr (inr refl)))) within.own;
    usable = record {
      regions = subst (λ m. HasRegions (extents s.image s.heap s.base) m) (sym past.memory) within.usable.regions;
      heap = subst (λ bs. IsHeap s.heap bs) (sym past.blocks) within.usable.heap;
      apart = ap are_apart past.blocks ∙ within.usable.apart;
    };
    frame = let f = within.frame in let e = same_sp in omega (arith, f, e);
    low = let f = within.low in let e = same_sp in omega (arith, f, e);
    carried = subst (λ p. AreCarried s p w.registers held' a.raised) (sym placed_same) (carried_by a.raised refl within.carried);
    slots = subst (λ p. SlotsHold s laid p w.memory (slice_index w.registers 2) (length a.tries) held') (sym placed_same)
        (subst (λ m. SlotsHold s laid (blocks_by_serial v young) m (slice_index w.registers 2) (length a.tries) held') (sym past.memory)
        (subst (λ p. SlotsHold s laid (blocks_by_serial v young) v.memory p (length a.tries) held') (sym same_sp)
        (λ k x h. within.slots k x (less.each (loc.Slot k) x h))));
    back = return_past laid.saves v w c (ap (λ m. memory_word m (c.top - 8)) past.memory) (own_reg 1 (inl (omega arith))) within.back;
    waits = subst (λ p. Waits s p w.memory c) (sym placed_same) (subst (λ m. Waits s (blocks_by_serial v young) m c) (sym past.memory) within.waits);
    traps = subst (λ m. TrapsStand s m (slice_index w.registers 9) (traps_at (slice_index w.registers 2) (map laid.handler a.tries)) c) (sym past.memory)
        (subst (λ t. TrapsStand s v.memory t (traps_at (slice_index w.registers 2) (map laid.handler a.tries)) c) (sym (own_reg 9 (inr (inl refl))))
        (subst (λ p. TrapsStand s v.memory (slice_index v.registers 9) (traps_at p (map laid.handler a.tries)) c) (sym same_sp) within.traps));
    heap = subst (λ p. HeapStands s p w.memory a) (sym placed_same) (subst (λ m. HeapStands s (blocks_by_serial v young) m a) (sym past.memory) within.heap);
  }

-- scratch registers alone
pub scratch_free : (q : ℕ) → IsScratch q → IsFree q
scratch_free q (inl e) = record {
  some = omega (arith, e);
  no_trap = λ f. omega (arith, e, f);
  no_young = λ f. omega (arith, e, f);
  no_domain = λ f. omega (arith, e, f);
}
scratch_free q (inr e) = record {
  some = omega (arith, e);
  no_trap = λ f. omega (arith, e, f);
  no_young = λ f. omega (arith, e, f);
  no_domain = λ f. omega (arith, e, f);
}

pub location_free : (q : ℕ) → IsLocationRegister q → IsFree q
location_free q is = record { some = is.some; no_trap = is.no_trap; no_young = is.no_young; no_domain = is.no_domain }

-- a0 may be a location
pub a0_location : IsLocationRegister 10
a0_location = record {
  some = omega arith;
  below = omega arith;
  no_trap = λ t. omega (arith, t);
  no_young = λ t. omega (arith, t);
  no_domain = λ t. omega (arith, t);
  no_scratch = (λ t. omega (arith, t), λ t. omega (arith, t));
}

module _ (s : Fixed) (laid : Laid) (v w : View) (young : List Placed) (taken : ℕ) (held : Loc → Option Value) (a : Around) (c : Below)
    (n : ℕ) (rs : List ℕ) (past : IsPast n rs v.memory v w) (scratch : AreScratch rs) (within : Within s laid v young taken held a c) where
  not_held : a.raised ≡ None → (q : ℕ) (x : Value) → AmongNumbers q rs → held (loc.Machine q) ≡ Some x → ⊥
  not_held none q x i h =
      let is : IsLocationRegister q = ((subst (λ o. AreCarried s (blocks_by_serial v young) v.registers held o) none within.carried) q x h).0 in
      ⊎_elim (λ e. is.no_scratch.0 e) (λ e. is.no_scratch.1 e) (scratch q i)

  pub within_past : Within s laid w young taken held a c
  within_past =
      within_changed s laid v w young taken held held a c n rs past (λ q i. scratch_free q (scratch q i)) (record { each = λ k x h. h }) not_held
      (inr (λ i. ⊎_elim (λ e. omega (arith, e)) (λ e. omega (arith, e)) (scratch 10 i))) within

-- ---- with less in the file

less_carried : (s : Fixed) (placed : List Placed) (registers : List ℕ) (file file' : Loc → Option Value) (o : Option Value) → HoldsLess file' file →
    AreCarried s placed registers file o → AreCarried s placed registers file' o
less_carried s placed registers file file' None less hold = λ r v h. hold r v (less.each (loc.Machine r) v h)
less_carried s placed registers file file' (Some x) less hold = hold

pub within_less : (s : Fixed) (laid : Laid) (v : View) (young : List Placed) (taken : ℕ) (file file' : Loc → Option Value) (a : Around) (c : Below) →
    HoldsLess file' file → Within s laid v young taken file a c → Within s laid v young taken file' a c
within_less s laid v young taken file file' a c less w = record {
  own = w.own;
  usable = w.usable;
  frame = w.frame;
  low = w.low;
  carried = less_carried s (blocks_by_serial v young) v.registers file file' a.raised less w.carried;
  slots = λ k x h. w.slots k x (less.each (loc.Slot k) x h);
  back = w.back;
  waits = w.waits;
  traps = w.traps;
  heap = w.heap;
}

-- ---- with one more register in it

module _ (s : Fixed) (laid : Laid) (v : View) (young : List Placed) (taken : ℕ) (held held' : Loc → Option Value) (a : Around) (c : Below)
    (r : ℕ) (x : Value) (is : IsLocationRegister r) (none : a.raised ≡ None) (stands : StandsFor s (blocks_by_serial v young) (slice_index v.registers r) x)
    (put : IsPut (loc.Machine r) x held held') (within : Within s laid v young taken held a c) where
  old_registers : RegistersHold s (blocks_by_serial v young) v.registers held
  old_registers = subst (λ o. AreCarried s (blocks_by_serial v young) v.registers held o) none within.carried

  new_registers : RegistersHold s (blocks_by_serial v young) v.registers held'
  new_registers q y h =
      ⊎_elim
      (λ p.
      let e : q ≡ r = same_machine q r p.0 in
      subst (λ z. IsLocationRegister z × StandsFor s (blocks_by_serial v young) (slice_index v.registers z) y) (sym e)
      (is, subst (λ z. StandsFor s (blocks_by_serial v young) (slice_index v.registers r) z) (sym p.1) stands))
      (λ p. old_registers q y p.1)
      (put.each (loc.Machine q) y h)

  not_slot : (k : ℕ) → loc.Slot k ≡ loc.Machine r → ⊥
  not_slot k e = absurd (cc)

  pub within_put : Within s laid v young taken held' a c
  within_put = record {
    own = within.own;
    usable = within.usable;
    frame = within.frame;
    low = within.low;
    carried = subst (λ o. AreCarried s (blocks_by_serial v young) v.registers held' o) (sym none) new_registers;
    slots = λ k y h. within.slots k y (⊎_elim (λ p. absurd (not_slot k p.0)) (λ p. p.1) (put.each (loc.Slot k) y h));
    back = within.back;
    waits = within.waits;
    traps = within.traps;
    heap = within.heap;
  }
