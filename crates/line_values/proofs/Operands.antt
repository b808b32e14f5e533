-- Operands are fetched from their locations, and results are kept there.
use Rattle.std.proofs.Common.{◌≡◌, ◌≢◌, ℕ, suc, ◌+◌, ◌-◌, ◌*◌, ◌%◌, ◌^◌, ◌<◌, ◌≤◌, ◌⊎◌, inl, inr, Bool, true, false, cond, nat_lt, List, [], ◌∷◌, ◌++◌, length, Some, None, refl, arith, ◌∙◌, sym, subst, ⊎_elim}
use Rattle.std.proofs.lemmas.Bool.{ltb-true}
use Rattle.bs_words.specs.declared.types.Loc.{Loc}
use Rattle.bs_words.specs.declared.types.Loc.TheVariants as loc
use Rattle.bs_words.specs.declared.values.Value.{Value}
use Rattle.rv_emit_rules.specs.Instructions.{load_piece, store_piece}
use Rattle.rv_emit_rules.specs.Constants.{above_12}
use Rattle.rv_emit_rules.specs.Slots.{far_stack, fetch_pieces, keep_pieces, register_of, stack_store, target}
use Rattle.rv_layout_rules.specs.Words.{NameAddresses}
use Rattle.lin_ir.specs.Formed.{IsLocation}
use Rattle.lin_ir.specs.Meaning.{Locations, assign_spot, same_loc}
use Rattle.lin_ir.specs.declared.lin.Lin.{Lin}
use Rattle.lin_ir.specs.declared.lin.Spot.{Spot}
use Rattle.mach_ir.specs.Acts.{Around}
use Rattle.moving_laws.specs.Stands.{AmongNumbers}
use Rattle.rv_isa.specs.Registers.{register_number, register_at}
use Rattle.rv_isa.specs.declared.instr.AluOp.TheVariants.{Add}
use Rattle.rv_isa.specs.declared.instr.Instr.TheVariants.{Load, Lui, Op, Store}
use Rattle.rv_isa.specs.declared.instr.LoadWidth.TheVariants.{Ld}
use Rattle.rv_isa.specs.declared.instr.StoreWidth.TheVariants.{Sd}
use Rattle.rv_isa.specs.declared.register.Register.{Register}
use Rattle.rv_isa.specs.declared.register.Register.TheVariants.{Sp, T1, T2}
use Rattle.rv_machine.specs.Hart.{Placed}
use Rattle.lin_machine.specs.Files.{IsPut}
use Rattle.lin_machine.specs.Relation.{Below, Laid, Within}
use Rattle.lin_machine.specs.Relation as relation
use Rattle.lin_machine.specs.View.{Fixed, View, HasCode}
use Rattle.lin_machine.proofs.Following.{put_is, same_loc-slot}
use Rattle.lin_machine.proofs.Operating.{IsTarget, dropped, target_put, target_register, target_slot}
use Rattle.lin_machine.proofs.Parts.{Fetches, Keeps, fetch_far, fetch_near, fetch_register, keep_far, keep_near, keep_register}
use Rattle.lin_machine.proofs.Standing.{IsScratch}
use Rattle.line_stands.specs.Parts.{PartStands}
use Rattle.line_stands.proofs.Parts.{last, leads, none_left}
use Rattle.line_values.proofs.Places.{no_unset, slot_of, usual_of}

-- a frame's room for its slots
room_by : (b : Bool) (x z : ℕ) → x + cond b 8 0 ≤ z → x ≤ z
room_by true x z h = omega (arith, h)
room_by false x z h = omega (arith, h)

module _ (s : Fixed) (n : NameAddresses) (laid : Laid) (m : Lin) (slots : m.slots ≡ laid.slots) (v : View) (young : List Placed) (held : Locations) (a : Around)
    (c : Below) (none : a.raised ≡ None) (within : Within s laid v young 0 held a c) where
  -- frames are small
  pub offset_small : (k : ℕ) → k < m.slots → 8 * k + 16 * length a.tries < 2 ^ 30
  offset_small k l =
      let room = room_by laid.saves (8 * laid.slots) laid.frame laid.room in
      let f = within.frame in
      let lo = within.low in
      let base = s.stack.low in
      let top = within.waits.high in
      let e = slots in
      omega (arith, l, room, f, lo, base, top, e)

  -- ---- operands

  -- From a place on so many words bring what the location holds into the register, and the scratch
  -- register alone may change.
  pub record Fetched (l : Loc) (at k q : ℕ) (reg : Register) : Type 0 where
    pub list : List ℕ
    pub only : (p : ℕ) → AmongNumbers p list → p ≡ q
    pub r : ℕ
    pub is : register_number reg ≡ suc r
    pub apart : (suc r ≡ q) ⊎ relation.IsLocationRegister (suc r)
    pub gets : (x : Value) → held l ≡ Some x → Fetches s laid young a c held at k list (suc r) x

  module _ (scratch : Register) (q : ℕ) (q_is : register_number scratch ≡ suc q) (scratch_is : IsScratch (suc q)) (at k : ℕ) where
    fetched_register : (r : ℕ) → IsLocation m (loc.Machine r) → PartStands s n at (at + k) [] → Fetched (loc.Machine r) at k (suc q) (register_at r)
    fetched_register r is part =
        let u = usual_of m r is in
        let some = u.location.some in
        let e : r ≡ suc (r - 1) = omega (arith, some) in
        let zero : k ≡ 0 = none_left s n at k part in
        record {
          list = [];
          only = λ p i. absurd i;
          r = r - 1;
          is = u.number_is ∙ e;
          apart = inr (subst relation.IsLocationRegister e u.location);
          gets = λ x h. subst (λ z. Fetches s laid young a c held at k [] z x) e
              (subst (λ z. Fetches s laid young a c held at z [] r x) (sym zero) (fetch_register s laid young a c held at r x none h));
        }

    fetched_slot : (j : ℕ) → j < m.slots → PartStands s n at (at + k) (fetch_pieces (length a.tries) scratch (loc.Slot j)) →
        Fetched (loc.Slot j) at k (suc q) scratch
    fetched_slot j l part = by_test (nat_lt (8 * j + 16 * length a.tries) 2048) refl part
      where
        made : ((x : Value) → held (loc.Slot j) ≡ Some x → Fetches s laid young a c held at k (suc q ∷ []) (suc q) x) →
            Fetched (loc.Slot j) at k (suc q) scratch
        made gets = record {
          list = suc q ∷ [];
          only = λ p i. ⊎_elim (λ e. e) (λ f. absurd f) i;
          r = q;
          is = q_is;
          apart = inl refl;
          gets = gets;
        }

        by_test : (t : Bool) → nat_lt (8 * j + 16 * length a.tries) 2048 ≡ t →
            PartStands s n at (at + k) (cond t (load_piece Ld scratch Sp (8 * j + 16 * length a.tries) ∷ [])
            (far_stack scratch (8 * j + 16 * length a.tries) ++ load_piece Ld scratch scratch (8 * j + 16 * length a.tries) ∷ [])) →
            Fetched (loc.Slot j) at k (suc q) scratch
        by_test true t part =
            let off : ℕ = 8 * j + 16 * length a.tries in
            let g = last s n at k (Load Ld (register_number scratch) 2 (off % 4096)) part in
            let code : HasCode s at (Load Ld (suc q) 2 ((8 * j + 16 * length a.tries) % 4096) ∷ []) = subst (λ z. HasCode s at
            (Load Ld z 2 ((8 * j + 16 * length a.tries) % 4096) ∷ [])) q_is (g.0, tt) in
            made (λ x h. subst (λ z. Fetches s laid young a c held at z (suc q ∷ []) (suc q) x) (sym g.1)
            (fetch_near s laid young a c held at j q x scratch_is h (ltb-true off 2048 t) code))
        by_test false t part =
            let off : ℕ = 8 * j + 16 * length a.tries in
            let g1 = leads s n at k (Lui (register_number scratch) (above_12 off % 1048576)) _ part in
            let g2 = leads s n (at + 1) g1.others (Op Add (register_number scratch) (register_number scratch) 2) _ g1.rest in
            let g3 = last s n (at + 1 + 1) g2.others (Load Ld (register_number scratch) (register_number scratch) (off % 4096)) g2.rest in
            let code : HasCode s at (Lui (suc q) (above_12 (8 * j + 16 * length a.tries) % 2 ^ 20) ∷ Op Add (suc q) (suc q) 2 ∷ Load Ld (suc q) (suc q)
            ((8 * j + 16 * length a.tries) % 4096) ∷ []) =
            subst (λ z. HasCode s at (Lui z (above_12 (8 * j + 16 * length a.tries) % 2 ^ 20) ∷ Op Add z z 2 ∷ Load Ld z z
            ((8 * j + 16 * length a.tries) % 4096) ∷ [])) q_is (g1.code, (g2.code, (g3.0, tt))) in
            let e1 = g1.sum in
            let e2 = g2.sum in
            let e3 = g3.1 in
            let three : k ≡ 3 = omega (arith, e1, e2, e3) in
            made (λ x h. subst (λ z. Fetches s laid young a c held at z (suc q ∷ []) (suc q) x) (sym three)
            (fetch_far s laid young a c held at j q x scratch_is h (offset_small j l) code))

    -- from wherever it is
    pub fetches : (l : Loc) → IsLocation m l → PartStands s n at (at + k) (fetch_pieces (length a.tries) scratch l) →
        Fetched l at k (suc q) (register_of scratch l)
    fetches (loc.Machine r) is part = fetched_register r is part
    fetches (loc.Slot j) is part = fetched_slot j (slot_of m j is) part
    fetches loc.Unset is part = absurd (no_unset m is)

  -- ---- results

  -- Where a result is made, and how it is kept in its location.
  pub record Targeted (l : Loc) : Type 0 where
    pub t : ℕ
    pub is : register_number (target l) ≡ suc t
    pub fits : suc t < 32
    pub no_sp : suc t ≢ 2
    pub which : (suc t ≡ 6) ⊎ relation.IsLocationRegister (suc t)
    pub rest : Locations
    pub makes : IsTarget held rest (suc t)
    pub keeps : (spot : Spot) → spot.loc ≡ l → (z : Value) (at k : ℕ) → PartStands s n at (at + k) (keep_pieces (length a.tries) l) →
        Keeps s laid young a c rest (assign_spot spot z held) at k (suc t) z

  targeted_register : (r : ℕ) → IsLocation m (loc.Machine r) → Targeted (loc.Machine r)
  targeted_register r is =
      let u = usual_of m r is in
      let some = u.location.some in
      let below = u.location.below in
      let e : r ≡ suc (r - 1) = omega (arith, some) in
      record {
        t = r - 1;
        is = u.number_is ∙ e;
        fits = omega (arith, e, below);
        no_sp = λ f. omega (arith, e, f, some);
        which = inr (subst relation.IsLocationRegister e u.location);
        rest = dropped r held;
        makes = subst (IsTarget held (dropped r held)) e (target_register held r u.location);
        keeps = λ spot f z at k part.
            subst (λ y. Keeps s laid young a c (dropped r held) (assign_spot spot z held) at k y z) e
            (subst (λ y. Keeps s laid young a c (dropped r held) (assign_spot spot z held) at y r z) (sym (none_left s n at k part))
            (keep_register s laid young a c (dropped r held) (assign_spot spot z held) at r z none u.location (target_put spot r z held f)));
      }

  -- a register is kept in a slot
  module _ (from : Register) (q : ℕ) (q_is : register_number from ≡ suc q) (other : suc q ≢ 7) (j : ℕ) (l : j < m.slots) (spot : Spot) (f : spot.loc ≡ loc.Slot j)
      (z : Value) (at k : ℕ) where
    inside : j < laid.slots
    inside = let e = slots in omega (arith, e, l)

    is_put : IsPut (loc.Slot j) z held (assign_spot spot z held)
    is_put = subst (λ q. IsPut q z held (assign_spot spot z held)) f (put_is spot z held (subst (λ q. same_loc q q ≡ true) (sym f) (same_loc-slot j)))

    spilled_by : (t : Bool) → nat_lt (8 * j + 16 * length a.tries) 2048 ≡ t →
        PartStands s n at (at + k) (cond t (store_piece Sd from Sp (8 * j + 16 * length a.tries) ∷ [])
        (far_stack T2 (8 * j + 16 * length a.tries) ++ store_piece Sd from T2 (8 * j + 16 * length a.tries) ∷ [])) →
        Keeps s laid young a c held (assign_spot spot z held) at k (suc q) z
    spilled_by true t part =
        let off : ℕ = 8 * j + 16 * length a.tries in
        let g = last s n at k (Store Sd 2 (register_number from) (off % 4096)) part in
        let code : HasCode s at (Store Sd 2 (suc q) ((8 * j + 16 * length a.tries) % 4096) ∷ []) =
        subst (λ y. HasCode s at (Store Sd 2 y ((8 * j + 16 * length a.tries) % 4096) ∷ [])) q_is (g.0, tt) in
        subst (λ y. Keeps s laid young a c held (assign_spot spot z held) at y (suc q) z) (sym g.1)
        (keep_near s laid young a c held (assign_spot spot z held) at j q z other inside is_put (ltb-true off 2048 t) code)
    spilled_by false t part =
        let off : ℕ = 8 * j + 16 * length a.tries in
        let g1 = leads s n at k (Lui 7 (above_12 off % 1048576)) _ part in
        let g2 = leads s n (at + 1) g1.others (Op Add 7 7 2) _ g1.rest in
        let g3 = last s n (at + 1 + 1) g2.others (Store Sd 7 (register_number from) (off % 4096)) g2.rest in
        let code : HasCode s at (Lui 7 (above_12 (8 * j + 16 * length a.tries) % 2 ^ 20) ∷ Op Add 7 7 2 ∷ Store Sd 7 (suc q)
        ((8 * j + 16 * length a.tries) % 4096) ∷ []) =
        subst (λ y. HasCode s at (Lui 7 (above_12 (8 * j + 16 * length a.tries) % 2 ^ 20) ∷ Op Add 7 7 2 ∷ Store Sd 7 y
        ((8 * j + 16 * length a.tries) % 4096) ∷ [])) q_is (g1.code, (g2.code, (g3.0, tt))) in
        let e1 = g1.sum in
        let e2 = g2.sum in
        let e3 = g3.1 in
        let three : k ≡ 3 = omega (arith, e1, e2, e3) in
        subst (λ y. Keeps s laid young a c held (assign_spot spot z held) at y (suc q) z) (sym three)
        (keep_far s laid young a c held (assign_spot spot z held) at j q z other inside is_put (offset_small j l) code)

    pub spilled : PartStands s n at (at + k) (stack_store T2 from (8 * j + 16 * length a.tries)) →
        Keeps s laid young a c held (assign_spot spot z held) at k (suc q) z
    spilled part = spilled_by (nat_lt (8 * j + 16 * length a.tries) 2048) refl part

  targeted_slot : (j : ℕ) → j < m.slots → Targeted (loc.Slot j)
  targeted_slot j l = record {
    t = 5;
    is = refl;
    fits = omega arith;
    no_sp = λ f. omega (arith, f);
    which = inl refl;
    rest = held;
    makes = target_slot s laid v young held a c none within 6 (inl refl);
    keeps = λ spot f z at k part. spilled T1 5 refl (λ e. omega (arith, e)) j l spot f z at k part;
  }

  pub targeted : (l : Loc) → IsLocation m l → Targeted l
  targeted (loc.Machine r) is = targeted_register r is
  targeted (loc.Slot j) is = targeted_slot j (slot_of m j is)
  targeted loc.Unset is = absurd (no_unset m is)
