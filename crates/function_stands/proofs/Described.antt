-- What an exact descriptor says of a frame point in the machine.
use Rattle.std.proofs.Common.{◌≡◌, ℕ, ◌+◌, ◌*◌, ◌/◌, ◌%◌, ◌<◌, ◌==◌, ◌||◌, Bool, true, false, cond, ◌⊎◌, inl, inr, ⊎_elim, List, [], ◌∷◌, length, refl, sym, ap, ◌∙◌, subst, arith}
use Rattle.std.specs.List.{Contains}
use Rattle.std.proofs.lemmas.Bool.{true≢false, eqb-true, eq-eqb}
use Rattle.bs_words.specs.declared.types.Comp.{Comp}
use Rattle.bs_words.specs.declared.types.Comp.TheVariants as comp
use Rattle.bs_words.specs.declared.types.Loc.{Loc}
use Rattle.bs_words.specs.declared.types.Loc.TheVariants as loc
use Rattle.bs_words.specs.declared.types.Ret.{Ret}
use Rattle.rv_layout_rules.specs.Laid.{descriptor_laid_at}
use Rattle.lin_ir.specs.Descriptors.{IsDescr, IsDescriptorEntry, of_register, of_slot, NamesLives, frame_bytes}
use Rattle.lin_ir.specs.Formed.{IsLocation, Locates, WellFormed, is_home, is_slot, is_spare}
use Rattle.lin_ir.specs.Meaning.{NamedAt, is_named_location, passes_frame, same_loc}
use Rattle.lin_ir.specs.Walks.{goes, raises, Live, read, on, aside, LiveAcross, across_step, across_raise, LiveAt, StandsAsLine}
use Rattle.lin_ir.specs.declared.descr.Descr.{Descr}
use Rattle.lin_ir.specs.declared.lin.Line.{Line}
use Rattle.lin_ir.specs.declared.lin.Lin.{Lin}
use Rattle.lin_ir.specs.declared.lin.LinOp.TheVariants as lin
use Rattle.lin_ir.specs.declared.lin.Spot.{Spot}
use Rattle.lin_machine.specs.Relation.{IsDescribed, Laid}
use Rattle.linearise_rules.proofs.Homes.{IsIn, contains_of, in_of, is_first, is_later, is_one_of, named_of}
use Rattle.linearise_rules.proofs.Marks.{all_in}
use Rattle.linearise_rules.proofs.Walked.{Tail, stands_tail, tail_in, tail_label, tail_target}
use Rattle.moving_laws.specs.Stands.{AmongNumbers}
use Rattle.mach_ir.specs.declared.op.Callee.{Callee}
use Rattle.mach_ir.specs.declared.op.Calling.TheVariants as calling
use Rattle.mach_ir.specs.declared.op.Op.TheVariants as op
use Rattle.rv_machine.specs.Frames.{is_register, names_register, registers_named}
use Rattle.function_stands.proofs.Lost.{call_loses}

-- ---- members

pub among_of : {e : ℕ} {es : List ℕ} → IsIn e es → AmongNumbers e es
among_of is_first = inl refl
among_of (is_later z) = inr (among_of z)

pub in_among : (e : ℕ) (es : List ℕ) → AmongNumbers e es → IsIn e es
in_among e (x ∷ es) (inl same) = subst (λ x. IsIn e (x ∷ es)) same is_first
in_among e (x ∷ es) (inr z) = is_later (in_among e es z)
in_among e [] z = absurd z

-- ---- entries

-- what an entry names
pub data Names (traps : ℕ) (l : Loc) (e : ℕ) : Type 0 where
  by_register : {r : ℕ} → l ≡ loc.Machine r → e ≡ 2 * r + 1 → Names traps l e
  by_slot : {k : ℕ} → l ≡ loc.Slot k → e ≡ 8 * k + 16 * traps → Names traps l e

names_of : {traps : ℕ} {l : Loc} {e : ℕ} → IsDescriptorEntry traps l e → Names traps l e
names_of of_register = by_register refl refl
names_of of_slot = by_slot refl refl

first_or_later : (x e : ℕ) (es : List ℕ) → IsIn x (e ∷ es) → (x ≡ e) ⊎ IsIn x es
first_or_later x e es is_first = inl refl
first_or_later x e es (is_later z) = inr z

register_named : (r : ℕ) (es : List ℕ) → IsIn (2 * r + 1) es → AmongNumbers r (registers_named es)
register_named r [] z = elim z [ ]
register_named r (e ∷ es) z =
    by (is_register e) refl (⊎_elim (λ same. inl same) (λ y. inr (register_named r es y)) (first_or_later (2 * r + 1) e es z))
  where
    by : (b : Bool) → is_register e ≡ b → (2 * r + 1 ≡ e) ⊎ AmongNumbers r (registers_named es) → AmongNumbers r (cond b (e / 2 ∷ registers_named es) (registers_named es))
    by true odd (inl same) = let half : r ≡ e / 2 = omega (arith, same) in inl half
    by true odd (inr y) = inr y
    by false even (inl same) =
        let one : e % 2 ≡ 1 = omega (arith, same) in absurd (true≢false (sym (ap (λ x. x == 1) one ∙ eq-eqb 1 1 refl) ∙ even))
    by false even (inr y) = y

-- the odd entry that names a register
record Odd (r : ℕ) (es : List ℕ) : Type 0 where
  entry : ℕ
  inside : IsIn entry es
  odd : entry % 2 ≡ 1
  half : r ≡ entry / 2

named_register : (r : ℕ) (es : List ℕ) → AmongNumbers r (registers_named es) → Odd r es
named_register r [] z = absurd z
named_register r (e ∷ es) z = by (is_register e) refl z (λ y. named_register r es y)
  where
    later : Odd r es → Odd r (e ∷ es)
    later o = record { entry = o.entry; inside = is_later o.inside; odd = o.odd; half = o.half }

    by : (b : Bool) → is_register e ≡ b → AmongNumbers r (cond b (e / 2 ∷ registers_named es) (registers_named es)) → (AmongNumbers r (registers_named es) → Odd r es) →
        Odd r (e ∷ es)
    by true odd (inl half) go = record { entry = e; inside = is_first; odd = eqb-true (e % 2) 1 odd; half = half }
    by true odd (inr y) go = later (go y)
    by false even y go = later (go y)

-- ---- what is live is a location of the function

module _ (m : Lin) (formed : WellFormed m) where
  located : (l : Loc) (t : Comp) (i : Line) (next : List Line) → Tail (i ∷ next) m.code → Contains i.args (record { loc = l; comp = t }) → IsLocation m l
  located l t i next tail c =
      let both = all_in (λ (i : Line). Locates m i.args × Locates m i.results) formed.locations (tail_in tail) in
      all_in (λ (s : Spot). IsLocation m s.loc) both.0 (in_of (record { loc = l; comp = t }) i.args c)

  live_located : (l : Loc) (t : Comp) {code : List Line} {tries : List ℕ} → Live m l t code tries → Tail code m.code → IsLocation m l
  live_located l t (read {i} {next} c) tail = located l t i next tail c
  live_located l t (on off (goes to o) live) tail = live_located l t live (tail_target m tail to)
  live_located l t (aside (raises {h} e) live) tail = live_located l t live (tail_label h m.code)

  across_located : (l : Loc) (t : Comp) {i : Line} {next : List Line} {tries : List ℕ} → LiveAcross m l t i next tries → Tail (i ∷ next) m.code → IsLocation m l
  across_located l t (across_step off (goes to o) live) tail = live_located l t live (tail_target m tail to)
  across_located l t (across_raise (raises {h} e) live) tail = live_located l t live (tail_label h m.code)

  slot_below : (k : ℕ) → IsLocation m (loc.Slot k) → k < m.slots
  slot_below k (is_home (is_slot h)) = h
  slot_below k (is_spare e) = cc

  -- A descriptor that is exact says what it is to say of its frame point.
  module _ (named : NamedAt) (names : NamesLives m named) (laid : Laid) (frame : laid.frame ≡ frame_bytes m) (slots : laid.slots ≡ m.slots) where
    pub is_described : (i : Line) (next : List Line) (tries : List ℕ) (d : Descr) (at : ℕ) → StandsAsLine i next m.code → passes_frame i.op ≡ true →
        IsDescr m i next tries d → IsDescribed laid (length tries) (named (length next)) (descriptor_laid_at at d)
    is_described i next tries d at stands point is = record {
      size = is.size ∙ ap (λ k. k + 16 * length tries) (sym frame);
      slot = λ k h. among_of (entry (loc.Slot k) (8 * k + 16 * length tries) of_slot h);
      from_slot = λ e z even. slot_of e even (in_among e d.entries z);
      register = λ r h. register_named r d.entries (entry (loc.Machine r) (2 * r + 1) of_register h);
      from_register = λ r z. let o = named_register r d.entries z in register_of r o.entry o.odd o.half o.inside;
    }
      where
        entry : (l : Loc) (e : ℕ) → IsDescriptorEntry (length tries) l e → is_named_location l (named (length next)) ≡ true → IsIn e d.entries
        entry l e of h =
            let live = (names.exact i next stands point l).0 (contains_of (is_one_of l (named (length next)) h)) in
            in_of e d.entries ((is.exact e).1 (record { location = l; live = live; entry = of }))

        live_named : (l : Loc) → LiveAt m l comp.Val i next → same_loc l l ≡ true → is_named_location l (named (length next)) ≡ true
        live_named l live same = named_of l (named (length next)) (in_of l (named (length next)) ((names.exact i next stands point l).1 live)) same

        slot_of : (e : ℕ) → e % 2 ≡ 0 → IsIn e d.entries →
            (k : ℕ) × (e ≡ 8 * k + 16 * length tries) × (k < laid.slots) × (is_named_location (loc.Slot k) (named (length next)) ≡ true)
        slot_of e even z =
            let n = (is.exact e).0 (contains_of z) in
            by n.location n.live (names_of n.entry)
          where
            by : (l : Loc) → LiveAt m l comp.Val i next → Names (length tries) l e →
                (k : ℕ) × (e ≡ 8 * k + 16 * length tries) × (k < laid.slots) × (is_named_location (loc.Slot k) (named (length next)) ≡ true)
            by l live (by_register {r} same is) = absurd (omega (arith, even, is))
            by l live (by_slot {k} same is) =
                let at : LiveAt m (loc.Slot k) comp.Val i next = subst (λ l. LiveAt m l comp.Val i next) same live in
                let below = slot_below k (across_located (loc.Slot k) comp.Val at.across (stands_tail stands)) in
                (k, is, subst (λ n. k < n) (sym slots) below, live_named (loc.Slot k) at (eq-eqb k k refl))

        register_of : (r e : ℕ) → e % 2 ≡ 1 → r ≡ e / 2 → IsIn e d.entries → is_named_location (loc.Machine r) (named (length next)) ≡ true
        register_of r e odd half z =
            let n = (is.exact e).0 (contains_of z) in
            by n.location n.live (names_of n.entry)
          where
            by : (l : Loc) → LiveAt m l comp.Val i next → Names (length tries) l e → is_named_location (loc.Machine r) (named (length next)) ≡ true
            by l live (by_register {r = q} same is) =
                let e' : q ≡ r = omega (arith, is, half) in
                let at : LiveAt m (loc.Machine r) comp.Val i next = subst (λ l. LiveAt m l comp.Val i next) (same ∙ ap loc.Machine e') live in
                live_named (loc.Machine r) at (eq-eqb r r refl)
            by l live (by_slot {k} same is) = absurd (omega (arith, odd, is))

-- No register is named over a call.
none_named : (es : List ℕ) → ((e : ℕ) → IsIn e es → e % 2 ≡ 1 → ⊥) → names_register es ≡ false
none_named [] none = refl
none_named (e ∷ es) none = by (is_register e) refl (none_named es (λ x z. none x (is_later z)))
  where
    by : (b : Bool) → is_register e ≡ b → names_register es ≡ false → b || names_register es ≡ false
    by true odd rest = absurd (none e is_first (eqb-true (e % 2) 1 odd))
    by false even rest = rest

pub none_over_calls : (m : Lin) (formed : WellFormed m) (i : Line) (next : List Line) (tries : List ℕ) (d : Descr) (whom : Callee) (result : Ret) →
    IsDescr m i next tries d → i.op ≡ lin.Op (op.Calling (calling.Call whom result)) → names_register d.entries ≡ false
none_over_calls m formed i next tries d whom result is e = none_named d.entries (λ k z odd.
    let n = (is.exact k).0 (contains_of z) in
    by k odd n.location n.live (names_of n.entry))
  where
    by : (k : ℕ) → k % 2 ≡ 1 → (l : Loc) → LiveAt m l comp.Val i next → Names (length tries) l k → ⊥
    by k odd l live (by_register {r} same is) =
        let at : LiveAt m (loc.Machine r) comp.Val i next = subst (λ l. LiveAt m l comp.Val i next) same live in
        call_loses m formed r comp.Val i next at.tries whom result e at.traps at.across
    by k odd l live (by_slot {k = j} same is) = absurd (omega (arith, odd, is))
