-- The part of a line that fetches operands, works on registers and keeps one result.
use Rattle.std.proofs.Common.{◌≡◌, ℕ, ◌+◌, ◌⊎◌, inl, inr, Bool, true, false, cond, List, Some, None, slice_index, refl, ap, arith, ◌∙◌, sym, subst, ⊎_elim}
use Rattle.bs_words.specs.declared.types.Loc.{Loc}
use Rattle.bs_words.specs.declared.types.Loc.TheVariants as loc
use Rattle.bs_words.specs.declared.values.Value.{Value}
use Rattle.mach_ir.specs.Acts.{Around}
use Rattle.rv_machine.specs.Hart.{Placed}
use Rattle.lin_ir.specs.Meaning.{Locations, assign_spot, same_loc}
use Rattle.lin_ir.specs.declared.lin.Spot.{Spot}
use Rattle.moving_laws.specs.Stands.{AmongNumbers}
use Rattle.lin_machine.specs.Files.{HoldsLess, IsPut}
use Rattle.lin_machine.specs.Relation.{AreCarried, Below, IsLocationRegister, Laid, StandsFor, Within, blocks_by_serial}
use Rattle.lin_machine.specs.Straight.{Changes, LeadsFurther}
use Rattle.lin_machine.specs.View.{Fixed, View}
use Rattle.lin_machine.proofs.Following.{put_is, same_loc-machine, same_loc-true}
use Rattle.lin_machine.proofs.Parts.{Fetches, Keeps, changes_come, comes_then}
use Rattle.lin_machine.proofs.Standing.{IsFree, IsScratch, location_free, placed_same, scratch_free, within_changed, within_past}

-- ---- where a result is made

-- a file in which nothing is left at a register
abbrev pub dropped : ℕ → Locations → Locations
dropped r f = λ l. cond (same_loc (loc.Machine r) l) None (f l)

dropped_some : (r : ℕ) (f : Locations) (l : Loc) (x : Value) → dropped r f l ≡ Some x → (same_loc (loc.Machine r) l ≡ false) × (f l ≡ Some x)
dropped_some r f l x h = by_test (same_loc (loc.Machine r) l) refl h
  where
    by_test : (t : Bool) → same_loc (loc.Machine r) l ≡ t → cond t None (f l) ≡ Some x → (same_loc (loc.Machine r) l ≡ false) × (f l ≡ Some x)
    by_test true e h = absurd (cc)
    by_test false e h = (e, h)

-- A result is made in this register: what is held meanwhile is the rest of what was held.
pub record IsTarget (held rest : Locations) (r : ℕ) : Type 0 where
  pub less : HoldsLess rest held
  pub free : IsFree r
  pub off : (x : Value) → rest (loc.Machine r) ≡ Some x → ⊥

pub target_register : (held : Locations) (r : ℕ) → IsLocationRegister r → IsTarget held (dropped r held) r
target_register held r is = record {
  less = record { each = λ l x h. (dropped_some r held l x h).1 };
  free = location_free r is;
  off = λ x h. let e = (dropped_some r held (loc.Machine r) x h).0 in let t = same_loc-machine r in cc;
}

-- and is written there
pub target_put : (spot : Spot) (r : ℕ) (x : Value) (held : Locations) → spot.loc ≡ loc.Machine r → IsPut (loc.Machine r) x (dropped r held) (assign_spot spot x held)
target_put spot r x held e =
    let p = put_is spot x held (subst (λ l. same_loc l l ≡ true) (sym e) (same_loc-machine r)) in
    record {
      each = λ l y h. ⊎_elim
          (λ q. inl (q.0 ∙ e, q.1))
          (λ q. inr ((λ f. q.0 (f ∙ sym e)), kept l y q.1 (λ f. q.0 (f ∙ sym e))))
          (p.each l y h);
    }
  where
    kept : (l : Loc) (y : Value) → held l ≡ Some y → (l ≡ loc.Machine r → ⊥) → dropped r held l ≡ Some y
    kept l y h n = by_test (same_loc (loc.Machine r) l) refl
      where
        by_test : (t : Bool) → same_loc (loc.Machine r) l ≡ t → cond t None (held l) ≡ Some y
        by_test true f = absurd (n (same_loc-true (loc.Machine r) l f))
        by_test false f = h

-- a result for a slot is made in t1
module _ (s : Fixed) (laid : Laid) (v : View) (young : List Placed) (held : Locations) (a : Around) (c : Below) (none : a.raised ≡ None)
    (within : Within s laid v young 0 held a c) where
  pub scratch_off : (q : ℕ) (x : Value) → IsScratch q → held (loc.Machine q) ≡ Some x → ⊥
  scratch_off q x scratch h =
      let is : IsLocationRegister q = ((subst (λ o. AreCarried s (blocks_by_serial v young) v.registers held o) none within.carried) q x h).0 in
      ⊎_elim (λ e. is.no_scratch.0 e) (λ e. is.no_scratch.1 e) scratch

  pub target_slot : (q : ℕ) → IsScratch q → IsTarget held held q
  target_slot q scratch = record { less = record { each = λ l x h. h }; free = scratch_free q scratch; off = λ x h. scratch_off q x scratch h }

-- ---- the parts

module _ (s : Fixed) (laid : Laid) (young : List Placed) (a : Around) (c : Below) (none : a.raised ≡ None) (held rest held' : Locations) where
  -- work in registers that leaves a value in one
  module _ (place n t : ℕ) (rs : List ℕ) (z : Value) (target : IsTarget held rest t) (only : (q : ℕ) → AmongNumbers q rs → (q ≡ t) ⊎ IsScratch q) (m : ℕ)
      (keeps : Keeps s laid young a c rest held' (place + n) m t z) where
    pub worked : (v : View) → v.place ≡ place → Within s laid v young 0 held a c →
        Changes s v n rs v.memory (λ w. StandsFor s (blocks_by_serial v young) (slice_index w.registers t) z) →
        LeadsFurther s v (n + m) (λ w. Within s laid w young 0 held' a c)
    worked v p within work =
        comes_then s v n m (λ w. Within s laid w young 0 rest a c × StandsFor s (blocks_by_serial w young) (slice_index w.registers t) z)
        (λ w. Within s laid w young 0 held' a c)
        (changes_come s v n rs v.memory _ _ (λ w past stands.
        let free : (q : ℕ) → AmongNumbers q rs → IsFree q = λ q i. ⊎_elim (λ e. subst IsFree (sym e) target.free) (λ e. scratch_free q e) (only q i) in
        let off : a.raised ≡ None → (q : ℕ) (x : Value) → AmongNumbers q rs → rest (loc.Machine q) ≡ Some x → ⊥ = λ e q x i h.
        ⊎_elim (λ f. target.off x (subst (λ k. rest (loc.Machine k) ≡ Some x) f h))
        (λ f. scratch_off s laid v young held a c none within q x f (target.less.each (loc.Machine q) x h)) (only q i) in (
          within_changed s laid v w young 0 held rest a c n rs past free target.less off (inl none) within,
          subst (λ b. StandsFor s b (slice_index w.registers t) z)
              (sym (placed_same s laid v w young 0 held rest a c n rs past free target.less off (inl none) within)) stands,
        ))
        work)
        (λ w q both. keeps.by w (omega (arith, q, p)) both.0 both.1)

  -- one operand
  module _ (place n1 n m ra t : ℕ) (scratch rs : List ℕ) (x z : Value) (first : Fetches s laid young a c held place n1 scratch ra x)
      (target : IsTarget held rest t) (only : (q : ℕ) → AmongNumbers q rs → (q ≡ t) ⊎ IsScratch q) (keeps : Keeps s laid young a c rest held' (place + n1 + n) m t z)
      (work : (v : View) → v.place ≡ place + n1 → Within s laid v young 0 held a c → StandsFor s (blocks_by_serial v young) (slice_index v.registers ra) x →
      Changes s v n rs v.memory (λ w. StandsFor s (blocks_by_serial v young) (slice_index w.registers t) z)) where
    pub unary : (v : View) → v.place ≡ place → Within s laid v young 0 held a c → LeadsFurther s v (n1 + (n + m)) (λ w. Within s laid w young 0 held' a c)
    unary v p within =
        comes_then s v n1 (n + m) (λ w. Within s laid w young 0 held a c × StandsFor s (blocks_by_serial w young) (slice_index w.registers ra) x)
        (λ w. Within s laid w young 0 held' a c)
        (changes_come s v n1 scratch v.memory _ _ (λ w past stands. (
          within_past s laid v w young 0 held a c n1 scratch past first.are within,
          (let same : blocks_by_serial w young ≡ blocks_by_serial v young = ap (λ bs. blocks_by_serial (record v { blocks = bs }) young) past.blocks in subst (λ b. StandsFor s b
              (slice_index w.registers ra) x) (sym same) stands),
        ))
        (first.by v p within))
        (λ w q both. worked (place + n1) n t rs z target only m keeps w (omega (arith, q, p)) both.0 (work w (omega (arith, q, p)) both.0 both.1))

  -- two operands
  module _ (place n1 n2 n m ra rb t : ℕ) (scratch1 scratch2 rs : List ℕ) (x y z : Value) (first : Fetches s laid young a c held place n1 scratch1 ra x)
      (second : Fetches s laid young a c held (place + n1) n2 scratch2 rb y) (apart : AmongNumbers ra scratch2 → ⊥)
      (target : IsTarget held rest t) (only : (q : ℕ) → AmongNumbers q rs → (q ≡ t) ⊎ IsScratch q)
      (keeps : Keeps s laid young a c rest held' (place + n1 + n2 + n) m t z)
      (work : (v : View) → v.place ≡ place + n1 + n2 → Within s laid v young 0 held a c → StandsFor s (blocks_by_serial v young) (slice_index v.registers ra) x →
      StandsFor s (blocks_by_serial v young) (slice_index v.registers rb) y →
      Changes s v n rs v.memory (λ w. StandsFor s (blocks_by_serial v young) (slice_index w.registers t) z)) where
    pub binary : (v : View) → v.place ≡ place → Within s laid v young 0 held a c → LeadsFurther s v (n1 + (n2 + (n + m))) (λ w. Within s laid w young 0 held' a c)
    binary v p within =
        comes_then s v n1 (n2 + (n + m)) (λ w. Within s laid w young 0 held a c × StandsFor s (blocks_by_serial w young) (slice_index w.registers ra) x)
        (λ w. Within s laid w young 0 held' a c)
        (changes_come s v n1 scratch1 v.memory _ _ (λ w past stands. (
          within_past s laid v w young 0 held a c n1 scratch1 past first.are within,
          (let same : blocks_by_serial w young ≡ blocks_by_serial v young = ap (λ bs. blocks_by_serial (record v { blocks = bs }) young) past.blocks in subst (λ b. StandsFor s b
              (slice_index w.registers ra) x) (sym same) stands),
        ))
        (first.by v p within))
        (λ w q both.
        comes_then s w n2 (n + m)
        (λ u. Within s laid u young 0 held a c × StandsFor s (blocks_by_serial u young) (slice_index u.registers ra) x × StandsFor s (blocks_by_serial u young)
        (slice_index u.registers rb) y)
        (λ u. Within s laid u young 0 held' a c)
        (changes_come s w n2 scratch2 w.memory _ _ (λ u past stands.
        let same : blocks_by_serial u young ≡ blocks_by_serial w young = ap (λ bs. blocks_by_serial (record w { blocks = bs }) young) past.blocks in
        let kept : slice_index u.registers ra ≡ slice_index w.registers ra = past.others ra apart in (
          within_past s laid w u young 0 held a c n2 scratch2 past second.are both.0,
          subst (λ b. StandsFor s b (slice_index u.registers ra) x) (sym same) (subst (λ k. StandsFor s (blocks_by_serial w young) k x) (sym kept) both.1),
          subst (λ b. StandsFor s b (slice_index u.registers rb) y) (sym same) stands,
        ))
        (second.by w (omega (arith, q, p)) both.0))
        (λ u r all. worked (place + n1 + n2) n t rs z target only m keeps u (omega (arith, r, q, p)) all.0 (work u (omega (arith, r, q, p)) all.0 all.1 all.2)))
