-- The frame of a function that waits at a frame point.
use Rattle.std.proofs.Common.{◌≡◌, ◌≢◌, ℕ, ◌+◌, ◌-◌, ◌*◌, ◌≤◌, ◌⊎◌, inl, inr, Bool, true, false, cond, nat_eq, List, [], ◌∷◌, length, map, Option, Some, None, slice_index, refl, ap, arith, ◌∙◌, sym, subst, ⊎_elim}
use Rattle.std.proofs.lemmas.Bool.{and_parts, eqb-true, or_cases}
use Rattle.std.proofs.lemmas.List.{length-map}
use Rattle.bs_words.specs.Fits.{fits, data_start}
use Rattle.bs_words.specs.Memory.{Cell}
use Rattle.bs_words.specs.declared.types.Loc.{Loc}
use Rattle.bs_words.specs.declared.types.Loc.TheVariants as loc
use Rattle.bs_words.specs.declared.types.Ty.TheVariants as ty
use Rattle.bs_words.specs.declared.values.Value.{Value}
use Rattle.bs_words.specs.declared.values.Value.TheVariants.{Word, Block, Function}
use Rattle.image_form.specs.Tables.{Desc}
use Rattle.lin_ir.specs.Meaning.{Locations, are_vals, is_named_location, holds_val, poisoned, same_loc, unless_pointer}
use Rattle.mach_ir.specs.Acts.{Around, is_complete}
use Rattle.mach_ir.specs.Runs.{entry_around}
use Rattle.rv_machine.specs.Frames.{descriptor_at, names_register}
use Rattle.rv_machine.specs.Hart.{Placed}
use Rattle.rv_machine.specs.Memory.{Region, memory_word, code_start}
use Rattle.moving_laws.specs.Stands.{AmongNumbers}
use Rattle.moving_laws.specs.Values.{IsStill}
use Rattle.moving_laws.specs.Waiting.{Chain, IsFrameAt, IsWaiting}
use Rattle.moving_laws.proofs.Fitting.{val_fits}
use Rattle.lin_machine.specs.Relation.{Below, HeapStands, IsDescribed, Laid, ReturnStands, Within, blocks_by_serial, waiting_of}
use Rattle.lin_machine.specs.View.{Fixed, View}
use Rattle.lin_machine.proofs.Following.{same_loc-true}

-- ---- poison

kept_by : (b : Bool) (o : Option Value) (x : Value) → cond b o (unless_pointer o) ≡ Some x → (o ≡ Some x) × (IsStill x ⊎ (b ≡ true))
kept_by true o x e = (e, inr refl)
kept_by false None x e = absurd (cc)
kept_by false (Some (Word w)) x e = (e, inl (let h : Word w ≡ x = cc in subst IsStill h tt))
kept_by false (Some (Block k o)) x e = absurd (cc)
kept_by false (Some (Function f)) x e = (e, inl (let h : Function f ≡ x = cc in subst IsStill h tt))

-- what is held after poison was held before, and is no pointer or is named
pub poisoned_some : (named : List Loc) (f : Locations) (l : Loc) (x : Value) → poisoned named f l ≡ Some x → (f l ≡ Some x)
    × (IsStill x ⊎ (is_named_location l named ≡ true))
poisoned_some named f l x e = kept_by (is_named_location l named) (f l) x e

pub poisoned_named : (named : List Loc) (f : Locations) (l : Loc) → is_named_location l named ≡ true → poisoned named f l ≡ f l
poisoned_named named f l e = ap (λ b. cond b (f l) (unless_pointer (f l))) e

-- what is named holds a value that fits val
pub named_val : (end : ℕ) (named : List Loc) (f : Locations) (l : Loc) → are_vals end named f ≡ true → is_named_location l named ≡ true → holds_val end (f l) ≡ true
named_val end [] f l all n = absurd (cc)
named_val end (k ∷ ks) f l all n =
    let p = and_parts (holds_val end (f k)) (are_vals end ks f) all in
    ⊎_elim
    (λ e. subst (λ z. holds_val end (f z) ≡ true) (sym (same_loc-true k l e)) p.0)
    (λ r. named_val end ks f l p.1 r)
    (or_cases (same_loc k l) (is_named_location l ks) n)

pub val_held : (end : ℕ) (o : Option Value) → holds_val end o ≡ true → (x : Value) × (o ≡ Some x) × (fits end ty.Val x ≡ true)
val_held end None e = absurd (cc)
val_held end (Some x) e = (x, refl, e)

-- ---- memory in which every block is whole

heap_as : (s : Fixed) (placed : List Placed) (m : List Region) (a : Around) (unwritten : List Cell) (tries : List ℕ) (raised : Option Value) →
    a.unwritten ≡ unwritten →
    HeapStands s placed m a → HeapStands s placed m (record { memory = a.memory; unwritten = unwritten; tries = tries; raised = raised })
heap_as s placed m a unwritten tries raised e h =
    subst (λ u. HeapStands s placed m (record { memory = a.memory; unwritten = u; tries = tries; raised = raised })) e
    (record { old = h.old; readable = h.readable; stand = h.stand; heads = h.heads; fits = h.fits; statics = h.statics; lie = h.lie })

pub none_left : (cells : List Cell) → nat_eq (length cells) 0 ≡ true → cells ≡ []
none_left [] e = refl
none_left (x ∷ xs) e = let n = eqb-true (length (x ∷ xs)) 0 e in absurd (omega (arith, n))

pub heap_whole : (s : Fixed) (placed : List Placed) (m : List Region) (a : Around) → is_complete a ≡ true → HeapStands s placed m a →
    HeapStands s placed m (entry_around a.memory)
heap_whole s placed m a whole h = heap_as s placed m a [] [] None (none_left a.unwritten whole) h

-- with other tries, or a raise
pub heap_around : (s : Fixed) (placed : List Placed) (m : List Region) (a : Around) (tries : List ℕ) (raised : Option Value) → HeapStands s placed m a →
    HeapStands s placed m (record a { tries = tries; raised = raised })
heap_around s placed m a tries raised h = heap_as s placed m a a.unwritten tries raised refl h

-- ---- the function's own frame, as one that waits

module _ (s : Fixed) (laid : Laid) (v : View) (young : List Placed) (taken : ℕ) (held : Locations) (a : Around) (c : Below)
    (within : Within s laid v young taken held a c)
    (named : List Loc) (d : Desc) (is : IsDescribed laid (length a.tries) named d) (saves : laid.saves ≡ true)
    (fit : are_vals (data_start + length s.image.bytes) named held ≡ true) where
  abbrev placed : List Placed
  placed = blocks_by_serial v young

  abbrev sp : ℕ
  sp = slice_index v.registers 2

  frame_size : slice_index v.registers 2 + d.size ≡ c.top
  frame_size = let f = within.frame in let b = is.size in omega (arith, f, b)

  room : 8 * laid.slots + 8 ≤ laid.frame
  room = subst (λ b. 8 * laid.slots + cond b 8 0 ≤ laid.frame) saves laid.room

  size_low : 16 ≤ d.size
  size_low = let fe = laid.even in let b = room in let e = is.size in omega (arith, fe, b, e)

  back_word : memory_word v.memory (slice_index v.registers 2 + (d.size - 8)) ≡ c.back
  back_word =
      let f = frame_size in
      let b = size_low in
      let e : slice_index v.registers 2 + (d.size - 8) ≡ c.top - 8 = omega (arith, f, b) in
      ap (memory_word v.memory) e ∙ subst (λ b. ReturnStands b v c) saves within.back

  pub own_waits : IsWaiting s.image (blocks_by_serial v young) v.memory (waiting_of laid (poisoned named held) a.tries c)
      (record { at = slice_index v.registers 2; desc = d })
  own_waits =
      let n = length-map a.tries laid.handler in
      record {
        room = let z = is.size in let b = room in omega (arith, z, b, n);
        back = back_word;
        slot = λ k x i h.
            let o = poisoned_some named held (loc.Slot k) x h in
            let e : slice_index v.registers 2 + (16 * length (map laid.handler a.tries) + 8 * k) ≡ slice_index v.registers 2 +
            (8 * k + 16 * length a.tries) = omega (arith, n) in
            ap (memory_word v.memory) e ∙ (within.slots k x o.0).1.is;
        known = λ k x i h. let o = poisoned_some named held (loc.Slot k) x h in (within.slots k x o.0).1.known;
        value = λ k x i h.
            let o = poisoned_some named held (loc.Slot k) x h in
            ⊎_elim (λ t. inl t) (λ t. inr (subst (λ z. AmongNumbers z d.entries)
            (let q : 8 * k + 16 * length a.tries ≡ 16 * length (map laid.handler a.tries) + 8 * k = omega (arith, n) in q) (is.slot k t))) o.1;
        named = λ e i ev.
            let f = is.from_slot e i ev in
            let h = val_held (data_start + length s.image.bytes) (held (loc.Slot f.0))
            (named_val (data_start + length s.image.bytes) named held (loc.Slot f.0) fit f.3) in
            let known = (within.slots f.0 h.0 h.1).1.known in
            let e1 = f.1 in
            (f.0, h.0, omega (arith, e1, n), f.2, poisoned_named named held (loc.Slot f.0) f.3 ∙ h.1, val_fits s.image (length placed) h.0 h.2 known);
      }

  own_frame : (first : Bool) → (first ≡ true) ⊎ (names_register d.entries ≡ false) → IsFrameAt first s.base (slice_index v.registers 2) d
  own_frame first regs =
      let f = frame_size in
      let hi = within.waits.high in
      let e = within.waits.even in
      let fe = laid.even in
      let z = is.size in
      let b = room in
      record {
        low = within.low;
        even = omega (arith, f, e, fe, z);
        size_even = omega (arith, z, fe);
        size_least = size_low;
        high = omega (arith, f, hi);
        registers = regs;
        entries = λ x i ev. let g = is.from_slot x i ev in let e1 = g.1 in let e2 = g.2 in (omega (arith, e1), omega (arith, e1, e2, z, b));
      }

  pub own_chain : (first : Bool) (back : ℕ) → (first ≡ true) ⊎ (names_register d.entries ≡ false) → back ≢ code_start →
      descriptor_at s.image.descs back ≡ Some d →
      Chain s.image.descs s.base v.memory first back (slice_index v.registers 2) (record { at = slice_index v.registers 2; desc = d } ∷ c.frames)
  own_chain first back regs n there =
      let b = within.waits.back.high in (
        n,
        there,
        refl,
        own_frame first regs,
        subst (λ w. w ≤ 0x10000000) (sym back_word) b,
        subst (λ w. Chain s.image.descs s.base v.memory false w (slice_index v.registers 2 + d.size) c.frames) (sym back_word)
            (subst (λ q. Chain s.image.descs s.base v.memory false c.back q c.frames) (sym frame_size) within.waits.chain),
      )
