-- The part of each line that copies or computes names the slots that the line reads and writes.
use Rattle.std.proofs.Common.{◌≡◌, ℕ, Bool, true, false, cond, List, [], ◌∷◌, refl, sym, subst, Option, arith, ◌++◌, ◌||◌, ◌∙◌, ap}
use Rattle.std.specs.List.{All}
use Rattle.std.proofs.lemmas.List.Elements.{All-contains, All-nil, All-cons, All-head, All-tail}
use Rattle.bs_words.specs.declared.types.Comp.{Comp}
use Rattle.bs_words.specs.declared.types.Loc.{Loc}
use Rattle.mach_ir.specs.Placed.{colour_numbers}
use Rattle.mach_ir.specs.declared.op.Op.TheVariants as op
use Rattle.mach_ir.specs.declared.op.Pure.TheVariants as pure
use Rattle.mach_ir.specs.declared.op.Right.TheVariants as right
use Rattle.lin_ir.specs.Formed.{IsFormedLine, formed_op, is_colour, is_slot, IsLocation, is_home, is_spare, is_self_move, Locates, comps, places_of}
use Rattle.lin_ir.specs.Meaning.{same_loc}
use Rattle.lin_ir.specs.declared.descr.Descr.{Descr}
use Rattle.lin_ir.specs.declared.lin.LinOp.{LinOp}
use Rattle.lin_ir.specs.declared.lin.LinOp.TheVariants as lin
use Rattle.lin_ir.specs.declared.lin.Lin.{Lin}
use Rattle.lin_ir.specs.declared.lin.Spot.{Spot}
use Rattle.rv_pieces.specs.declared.piece.Piece.{Piece}
use Rattle.rv_isa.specs.Registers.{register_at}
use Rattle.rv_emit_rules.specs.Emitted.{part_of_line}
use Rattle.rv_emit_rules.specs.Entry.{FrameLayout}
use Rattle.rv_emit_rules.specs.Slots.{first_location, second, copy_pieces}
use Rattle.std.specs.Prelude.{◌*◌, ◌<◌, ◌≤◌, ◌/◌}
use Rattle.std.proofs.Common.{cond, ◌+◌}
use Rattle.std.proofs.lemmas.Bool.{or_parts}
use Rattle.std.proofs.Math.Bool.{or-false}
use Rattle.mach_ir.specs.declared.op.Pure.{Pure}
use Rattle.mach_ir.specs.Seats.{AreSeated, InOrder, AfterFirst, in_order, after_first}
use Rattle.lin_laws.proofs.Forms.{same_loc_is}
use Rattle.mach_ir.proofs.Forms.{symbol_inv, copy_inv, register_inv}
use Rattle.laid_parts.specs.Laid.{lies_at, lie_at, is_aside, NamesSlots, CarriesSlots, moves_nothing, names}
use Rattle.laid_parts.specs.Stack.{at_first}
use Rattle.laid_parts.proofs.Words.{Part, in_part, same, is_sp}
use Rattle.laid_parts.proofs.Clean.{at_first_clean}
use Rattle.laid_parts.proofs.SlotParts.{IsWithinFrame, in_register, in_frame, copied-slot, operator_register-slots, operator_constant-slots, constant_line-slots, symbol_line-slots}
use Rattle.laid_parts.proofs.Each.{is_numbered, constant_inv, with_inv, no_move, no_self_copy}

-- ---- slots that lines name, by how many operands they have

pub lie_none : (t c : ℕ) (ss : List Spot) → comps ss ≡ [] → lie_at t c (places_of ss) ≡ false
lie_none t c [] e = refl
lie_none t c (s ∷ ss) e = absurd (cc)

pub lie_one : (t c : ℕ) (ss : List Spot) (u : Comp) → comps ss ≡ u ∷ [] → lie_at t c (places_of ss) ≡ lies_at t c (first_location ss)
lie_one t c [] u e = absurd (cc)
lie_one t c (s ∷ []) u e = or-false (lies_at t c s.loc)
lie_one t c (s ∷ r ∷ ss) u e = absurd (cc)

pub lie_two : (t c : ℕ) (ss : List Spot) (u v : Comp) → comps ss ≡ u ∷ v ∷ [] →
    lie_at t c (places_of ss) ≡ (lies_at t c (first_location ss) || lies_at t c (second ss))
lie_two t c [] u v e = absurd (cc)
lie_two t c (s ∷ []) u v e = absurd (cc)
lie_two t c (s ∷ r ∷ []) u v e = ap (λ (z : Bool). lies_at t c s.loc || z) (or-false (lies_at t c r.loc))
lie_two t c (s ∷ r ∷ q ∷ ss) u v e = absurd (cc)

lie_prefix : (t c : ℕ) (ls more : List Loc) → lie_at t c (ls ++ more) ≡ false → lie_at t c ls ≡ false
lie_prefix t c [] more e = refl
lie_prefix t c (k ∷ ks) more e =
    let p = or_parts (lies_at t c k) (lie_at t c (ks ++ more)) e in
    ap (λ (z : Bool). z || lie_at t c ks) p.0 ∙ lie_prefix t c ks more p.1

-- at the places of a convention, which are registers
pub lie_seated : (t c : ℕ) (places ls : List Loc) → AreSeated (InOrder places) ls → lie_at t c places ≡ false → lie_at t c ls ≡ false
lie_seated t c places ls (in_order more e) h = lie_prefix t c ls more (ap (λ (z : List Loc). lie_at t c z) e ∙ h)

pub lie_after : (t c : ℕ) (places : List Loc) (ss : List Spot) → AreSeated (AfterFirst places) (places_of ss) → lie_at t c places ≡ false →
    lie_at t c (places_of ss) ≡ lies_at t c (first_location ss)
lie_after t c places [] s h = elim s [ ]
lie_after t c places (x ∷ ss) (after_first more e) h =
    let k : lie_at t c (places_of ss) ≡ false = lie_prefix t c (places_of ss) more (ap (λ (z : List Loc). lie_at t c z) e ∙ h) in
    ap (λ (z : Bool). lies_at t c x.loc || z) k ∙ or-false (lies_at t c x.loc)

-- ---- locations

abbrev none_sp : List ℕ → Bool
none_sp [] = true
none_sp (r ∷ rs) = cond (is_sp (register_at r)) false (none_sp rs)

apart_of : (rs : List ℕ) → none_sp rs ≡ true → All (λ r. is_sp (register_at r) ≡ false) rs
apart_of [] e = All-nil (λ r. is_sp (register_at r) ≡ false)
apart_of (r ∷ rs) e = by (is_sp (register_at r)) refl e (λ h. apart_of rs h)
  where
    by : (b : Bool) → is_sp (register_at r) ≡ b → cond b false (none_sp rs) ≡ true →
        (none_sp rs ≡ true → All (λ r. is_sp (register_at r) ≡ false) rs) → All (λ r. is_sp (register_at r) ≡ false) (r ∷ rs)
    by true h e rest = absurd (cc)
    by false h e rest = All-cons (λ r. is_sp (register_at r) ≡ false) r rs h (rest e)

pub within : (m : Lin) (t : ℕ) → 8 * m.slots + 16 * t < 1073741824 → (l : Loc) → IsLocation m l → IsWithinFrame t l
within m t b l (is_home (is_colour {n} c)) = in_register (All-contains (λ r. is_sp (register_at r) ≡ false) colour_numbers n (apart_of colour_numbers refl) c)
within m t b l (is_home (is_slot {k} h)) = in_frame (let g : k < m.slots = h in omega (arith, g, b))
within m t b l (is_spare e) = subst (IsWithinFrame t) (sym e) (in_register {r = 5} refl)

pub frame_holds : (s x t : ℕ) → (8 * s + x + 15) / 16 * 16 + 16 * t ≤ 1048576 → 8 * s + 16 * t < 1073741824
frame_holds s x t h = omega (arith, h)

module _ (m : Lin) (t : ℕ) (b : 8 * m.slots + 16 * t < 1073741824) where
  pub first_within : (ss : List Spot) (u : Comp) (us : List Comp) → comps ss ≡ u ∷ us → Locates m ss → IsWithinFrame t (first_location ss)
  first_within [] u us e h = absurd (cc)
  first_within (s ∷ ss) u us e h = within m t b s.loc (All-head (λ (s : Spot). IsLocation m s.loc) s ss h)

  pub second_within : (ss : List Spot) (u v : Comp) (us : List Comp) → comps ss ≡ u ∷ v ∷ us → Locates m ss → IsWithinFrame t (second ss)
  second_within [] u v us e h = absurd (cc)
  second_within (s ∷ []) u v us e h = absurd (cc)
  second_within (s ∷ r ∷ ss) u v us e h =
      within m t b r.loc (All-head (λ (s : Spot). IsLocation m s.loc) r ss (All-tail (λ (s : Spot). IsLocation m s.loc) s (r ∷ ss) h))

-- ---- parts

-- what a line's part is to name
abbrev pub Slots : (f : FrameLayout) (t : ℕ) (o : LinOp) (args results : List Spot) → List Piece → Type 0
Slots f t o args results part =
    (c : ℕ) → is_aside f o c ≡ false → Part c part (lie_at t c (places_of args)) (lie_at t c (places_of results))

pub slots_of : {f : FrameLayout} {o : LinOp} {args results : List Spot} {part : List Piece} (t : ℕ) → Slots f t o args results part →
    NamesSlots f t (record { op = o; args = args; results = results }) part
slots_of t h = record {
  reads = λ c e. ((h c e).each at_first at_first_clean).loads;
  writes = λ c e. ((h c e).each at_first at_first_clean).stores;
}

module _ (m : Lin) (t : ℕ) (b : 8 * m.slots + 16 * t < 1073741824) (f : FrameLayout) (d : Option Descr) where
  abbrev SlotsIn : LinOp → List Spot → List Spot → Type 0
  SlotsIn o args results =
      CarriesSlots f t (record { op = o; args = args; results = results }) (part_of_line t f d (record { op = o; args = args; results = results }))

  copy-slots : (kind : _) (args results : List Spot) → (u v : Comp) → comps args ≡ u ∷ [] → comps results ≡ v ∷ [] → Locates m args → Locates m results →
      SlotsIn (lin.Op (op.Pure (pure.Copy kind))) args results
  copy-slots kind [] results u v e g a r = absurd (cc)
  copy-slots kind (x ∷ y ∷ args) results u v e g a r = absurd (cc)
  copy-slots kind (x ∷ []) [] u v e g a r = absurd (cc)
  copy-slots kind (x ∷ []) (y ∷ z ∷ results) u v e g a r = absurd (cc)
  copy-slots kind (x ∷ []) (y ∷ []) u v e g a r = by (same_loc x.loc y.loc) refl
    where
      by : (q : Bool) → same_loc x.loc y.loc ≡ q →
          CarriesSlots f t (record { op = lin.Op (op.Pure (pure.Copy kind)); args = x ∷ []; results = y ∷ [] }) (cond q [] (copy_pieces t x.loc y.loc))
      by true k = moves_nothing (x, y, is_self_move (same_loc_is x.loc y.loc k))
      by false w =
          names (no_self_copy x y (is_numbered (All-head (λ (s : Spot). IsLocation m s.loc) x [] a)) w)
          (slots_of t (λ c n. in_part c (same c
          (copied-slot c t x.loc y.loc (first_within m t b (x ∷ []) u [] e a) (first_within m t b (y ∷ []) v [] g r))
          (sym (or-false (lies_at t c x.loc))) (sym (or-false (lies_at t c y.loc))))))

  pub pure-slots : (g : Pure) (args results : List Spot) → IsFormedLine (record { op = lin.Op (op.Pure g); args = args; results = results }) →
      Locates m args → Locates m results → SlotsIn (lin.Op (op.Pure g)) args results
  pure-slots (pure.Copy kind) args results (formed_op h) a r =
      let i = copy_inv kind (comps args) (comps results) h in copy-slots kind args results i.0 i.1 i.2 i.3 a r
  pure-slots (pure.Constant w) args results (formed_op h) a r =
      let i = constant_inv w (comps args) (comps results) h in
      names (no_move refl) (slots_of t (λ c n. in_part c (same c
      (constant_line-slots c t w results (first_within m t b results i.1.0 [] i.1.1 r))
      (sym (lie_none t c args i.0)) (sym (lie_one t c results i.1.0 i.1.1)))))
  pure-slots (pure.Symbol name) args results (formed_op h) a r =
      let i = symbol_inv name (comps args) (comps results) h in
      names (no_move refl) (slots_of t (λ c n. in_part c (same c
      (symbol_line-slots c t name results (first_within m t b results i.1.0 [] i.1.1 r))
      (sym (lie_none t c args i.0)) (sym (lie_one t c results i.1.0 i.1.1)))))
  pure-slots (pure.Operator g right.Register) args results (formed_op h) a r =
      let i = register_inv g (comps args) (comps results) h in
      names (no_move refl) (slots_of t (λ c n. in_part c (same c
      (operator_register-slots c t g args results (first_within m t b args i.0 (i.1 ∷ []) i.3 a) (second_within m t b args i.0 i.1 [] i.3 a)
      (first_within m t b results i.2 [] i.4 r))
      (sym (lie_two t c args i.0 i.1 i.3)) (sym (lie_one t c results i.2 i.4)))))
  pure-slots (pure.Operator g (right.Constant w)) args results (formed_op h) a r =
      let i = with_inv g w (comps args) (comps results) h in
      names (no_move refl) (slots_of t (λ c n. in_part c (same c
      (operator_constant-slots c t g w args results (first_within m t b args i.0 [] i.2 a) (first_within m t b results i.1 [] i.3 r))
      (sym (lie_one t c args i.0 i.2)) (sym (lie_one t c results i.1 i.3)))))
