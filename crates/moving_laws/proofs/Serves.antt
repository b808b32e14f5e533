-- A service that moves the blocks, under any plan, whichever it is.
use Rattle.std.proofs.Common.{◌≡◌, ◌≢◌, ℕ, zero, suc, ◌+◌, ◌-◌, ◌%◌, ◌<◌, ◌≤◌, ◌⊎◌, inl, inr, true, nat_le, List, [], ◌∷◌, ◌++◌, length, map, reverse, Option, Some, option_map, slice_index, refl, ap, arith, ◌∙◌, sym, subst, ⊎_elim, get_or-set_same, get_or-set_other}
use Rattle.std.specs.List.{list_all, AllByRecursion}
use Rattle.std.proofs.lemmas.Bool.{le-leb, lt-leb, and_from, cond-true, cond-false}
use Rattle.bs_words.specs.declared.values.Value.{Value}
use Rattle.image_form.specs.Image.{IsRoot}
use Rattle.image_form.specs.Tables.{Tables}
use Rattle.rv_isa.specs.Registers.{s1, sp}
use Rattle.rv_machine.specs.Frames.{Frame, frames, registers_named, slots_of}
use Rattle.rv_machine.specs.Hart.{Hart, Placed, register}
use Rattle.rv_machine.specs.Memory.{memory_word, write}
use Rattle.rv_machine.specs.Moving.{rewritten, moved_memory, redirected_registers}
use Rattle.rv_machine.specs.Observation.{blocks_at, young_top}
use Rattle.rv_machine.specs.Placement.{bytes_used, new_places}
use Rattle.rv_machine.specs.Places.{limit_at_rest, stack_end}
use Rattle.bs_words.specs.Fits.{data_start}
use Rattle.rv_machine.specs.Relocation.{Goes, NoHeap, are_roots, emptied, is_root_word, relocated, root_addresses, with_blocks, with_frames}
use Rattle.rv_machine.specs.Sound.{IsSound, extents}
use Rattle.machine_laws.proofs.Memory.{has_moved, has_write}
use Rattle.moving_laws.specs.Heap.{IsInHeap}
use Rattle.moving_laws.specs.Service.{Contents, Knows, IsServiceReady, IsRestored}
use Rattle.moving_laws.specs.Stands.{Blocks, AreSettled, AmongNumbers}
use Rattle.moving_laws.specs.Values.{value_word, IsVal, IsStill, IsKnown}
use Rattle.moving_laws.specs.Waiting.{Chain, TrapsFrom}
use Rattle.moving_laws.specs.Words.{IsReadable, held_word}
use Rattle.moving_laws.proofs.Held.{held_readable}
use Rattle.moving_laws.proofs.Plans.{AreFresh, fresh, halves_inside, halves_readable, halves_low, readable_at}
use Rattle.moving_laws.proofs.Restored.{IsMove, IsMemoryRestored, restored}
use Rattle.moving_laws.proofs.Rewriting.{value_moves, still_word, same_length}
use Rattle.moving_laws.proofs.Roots.{all_from_among, is_root_of, slots_root}
use Rattle.moving_laws.proofs.Usable.{data_readable, first_readable, formed_regions, limit_readable, second_readable, stack_readable, young_readable}
use Rattle.moving_laws.proofs.Waits.{among_or_not, waits, stack_keeps, return_keeps, traps_kept, statics_kept, regs_length, regs_in, regs_off}
use Rattle.moving_laws.proofs.Walk.{walks_all, chain_kept, among_append, among_first, among_second, below}
use Rattle.moving_laws.proofs.Words.{word_same}
use Rattle.moving_laws.proofs.Young.{found}

-- the register that is read is the one of the list
pub register_is : (h : Hart) (r : ℕ) → 1 ≤ r → register h r ≡ slice_index h.registers r
register_is h zero l = absurd (omega (arith, l))
register_is h (suc r) l = refl

settled_again : (image : Tables) (n n' : ℕ) (blocks : Blocks) → n' ≡ n → AreSettled image n blocks → AreSettled image n' blocks
settled_again image n n' blocks e s = subst (λ k. AreSettled image k blocks) (sym e) s

-- the root cells lie in the data
pub roots_low : (bytes : ℕ) (roots : List ℕ) (x : ℕ) → bytes ≤ 16777216 → AllByRecursion (IsRoot bytes) roots →
    AmongNumbers x (map (λ offset. data_start + offset) roots) → x < 0x20000000
roots_low bytes [] x short all i = absurd i
roots_low bytes (r ∷ rs) x short all (inl e) = let inside = all.0.in_data in omega (arith, e, inside, short)
roots_low bytes (r ∷ rs) x short all (inr i) = roots_low bytes rs x short all.1 i

-- and are whole words of it
pub roots_whole : (bytes : ℕ) (roots : List ℕ) (x : ℕ) → AllByRecursion (IsRoot bytes) roots → AmongNumbers x (map (λ offset. data_start + offset) roots) →
    (x % 8 ≡ 0) × (data_start ≤ x) × (x + 8 ≤ data_start + bytes)
roots_whole bytes [] x all i = absurd i
roots_whole bytes (r ∷ rs) x all (inl e) =
    let a = all.0.aligned in
    let inside = all.0.in_data in
    (omega (arith, e, a), omega (arith, e), omega (arith, e, inside))
roots_whole bytes (r ∷ rs) x all (inr i) = roots_whole bytes rs x all.1 i

-- the blocks that a service finds
pub blocks_found : (h : Hart) (from : ℕ) (young : List Placed) (f : Frame) (regs : ℕ → Option Value) → IsSound h → IsServiceReady h from young f regs →
    blocks_at h from ≡ Some (h.blocks ++ reverse young)
blocks_found h from young f regs sound ready =
    ap (option_map (λ bs. h.blocks ++ reverse bs))
    (found h.memory (young_readable h.image h.heap h.stack_base h.memory sound.memory) from young ready.from_even ready.from_low ready.rises ready.heads)

-- where there is no room for the blocks the run is out of heap
pub no_room : (plan : List Placed → List ℕ) (h : Hart) (blocks : List Placed) → h.heap < bytes_used blocks → with_blocks plan h (Some blocks) ≡ NoHeap
no_room plan h blocks l = cond-false (nat_le (bytes_used blocks) h.heap) _ _ (lt-leb (bytes_used blocks) h.heap l)

module _ (h : Hart) (from : ℕ) (young : List Placed) (f : Frame) (fs : List Frame) (holds : Contents)
    (knows : Knows (h.blocks ++ reverse young) h (f ∷ fs) holds (h.pc + 4)) (ready : IsServiceReady h from young f holds.registers)
    (fits : bytes_used (h.blocks ++ reverse young) ≤ h.heap) (plan : List Placed → List ℕ) where
  abbrev olds : List Placed
  olds = h.blocks ++ reverse young

  abbrev news : List Placed
  news = new_places h.heap h.services (h.blocks ++ reverse young) (plan (h.blocks ++ reverse young))

  abbrev places : List ℕ
  places = slots_of (f ∷ fs) ++ root_addresses h.image

  abbrev named : List ℕ
  named = registers_named f.desc.entries

  -- the hart with every block in its table
  abbrev entered : Hart
  entered = record h { blocks = h.blocks ++ reverse young }

  -- the hart in which they have moved
  abbrev pub moved : Hart
  moved = relocated (new_places h.heap h.services (h.blocks ++ reverse young) (plan (h.blocks ++ reverse young))) (f ∷ fs)
      (record h { blocks = h.blocks ++ reverse young })

  new_are : AreFresh h.heap olds news
  new_are = fresh h.heap h.services olds (plan olds) fits

  new_inside : AllByRecursion IsInHeap news
  new_inside = halves_inside h.heap news knows.sound.heap.most new_are.halves

  base_high : 0x38010008 ≤ h.stack_base
  base_high = let b = knows.sound.stack.low in omega (arith, b)

  is_move : IsMove h.image olds news h.memory
  is_move = record {
    formed = formed_regions _ h.memory knows.sound.memory;
    low = ready.functions;
    old = knows.old;
    new = record { inside = new_inside; apart = new_are.apart };
    sizes = new_are.sizes;
    readable =
        let e = knows.sound.heap.aligned in
        halves_readable h.heap h.memory news
        (record {
          first = first_readable h.image h.heap h.stack_base h.memory knows.sound.memory;
          second = second_readable h.image h.heap h.stack_base h.memory knows.sound.memory;
        })
        (omega (arith, e)) new_are.halves;
  }

  restored_here : IsMemoryRestored h.image olds news places h.memory (write (moved_memory olds news h.memory places) 0x20000000 limit_at_rest) holds.blocks
  restored_here = restored h.image olds news places h.memory limit_at_rest is_move holds.blocks knows.stand knows.settled

  pub is_moved : with_blocks plan h (blocks_at h from) ≡ Goes moved
  unfolding frames
  is_moved =
      let c = knows.chain in
      let walk = walks_all h.image.descs h.stack_base h.memory true (f ∷ fs) (h.pc + 4) (register h sp) knows.sp_low knows.sp_high c in
      let rs : list_all (λ r. is_root_word h.image olds (register h r)) named ≡ true =
      all_from_among (λ r. is_root_word h.image olds (register h r)) named
      (λ r i. let n = ready.named.named r i in let p = (ready.plain r i).0 in
      is_root_of h.image olds n.0 (register h r) ready.functions knows.old.inside n.2 (register_is h r (omega (arith, p))
      ∙ knows.in_registers.register r n.0 n.1)) in
      let ss : list_all (λ a. is_root_word h.image olds (memory_word h.memory a)) (slots_of (f ∷ fs)) ≡ true =
      all_from_among (λ a. is_root_word h.image olds (memory_word h.memory a)) (slots_of (f ∷ fs))
      (slots_root h.image olds h.memory h.image.descs h.stack_base true (h.pc + 4)
      (register h sp) holds.waiting (f ∷ fs) ready.functions knows.old.inside c knows.waits) in
      ap (with_blocks plan h) (blocks_found h from young f holds.registers knows.sound ready)
      ∙ cond-true (nat_le (bytes_used olds) h.heap) _ _ (le-leb (bytes_used olds) h.heap fits)
      ∙ ap (with_frames plan entered) walk
      ∙ cond-true (are_roots entered (f ∷ fs)) _ _ (and_from (list_all (λ r. is_root_word h.image olds (register h r)) named)
      (list_all (λ a. is_root_word h.image olds (memory_word h.memory a)) (slots_of (f ∷ fs))) rs ss)

  only_slots : (y : ℕ) → register h sp ≤ y → AmongNumbers y places → AmongNumbers y (slots_of (f ∷ fs))
  only_slots y l i =
      let b = base_high in
      let s = knows.sp_low in
      ⊎_elim (λ t. t)
      (λ t. absurd (let z = roots_low (length h.image.bytes) h.image.roots y ready.functions.tables.bytes.short ready.functions.tables.roots.each t in omega
      (arith, z, l, s, b)))
      (among_append y (slots_of (f ∷ fs)) (root_addresses h.image) i)

  only_roots : (y : ℕ) → y < 0x20000000 → AmongNumbers y places → AmongNumbers y (root_addresses h.image)
  only_roots y l i =
      let b = base_high in
      let s = knows.sp_low in
      ⊎_elim
      (λ t. absurd (below h.image.descs h.stack_base h.memory true (h.pc + 4) (register h sp) y (f ∷ fs) knows.chain (omega (arith, l, s, b)) t))
      (λ t. t)
      (among_append y (slots_of (f ∷ fs)) (root_addresses h.image) i)

  -- ---- with so many bytes taken off the young area, at any place

  module _ (bytes pc retired : ℕ) where
    abbrev pub after : Hart
    after = record (emptied bytes moved) { pc = pc; retired = retired }

    same_reg : (r : ℕ) → r ≢ 26 → (AmongNumbers r named → ⊥) → slice_index after.registers r ≡ slice_index h.registers r
    same_reg r n none =
        get_or-set_other (redirected_registers (rewritten olds news) h.registers named h.registers) 26 r (young_top - bytes) 0 n
        ∙ regs_off (rewritten olds news) h.registers named h.registers r none

    not_s10 : (v : Value) (r : ℕ) → holds.registers r ≡ Some v → r ≡ 26 → ⊥
    not_s10 v r e s = let a : holds.registers 26 ≡ Some v = subst (λ x. holds.registers x ≡ Some v) s e in let b = ready.no_s10 in cc

    one_value : (v v' : Value) (o : Option Value) → o ≡ Some v → o ≡ Some v' → v' ≡ v
    one_value v v' o e e' = cc

    register_again : (r : ℕ) (v : Value) → holds.registers r ≡ Some v → slice_index after.registers r ≡ value_word h.image news v
    register_again r v e =
        let n26 : r ≢ 26 = λ s. not_s10 v r e s in
        ⊎_elim
        (λ i.
        let p = ready.plain r i in
        let n = ready.named.named r i in
        let is : n.0 ≡ v = one_value v n.0 (holds.registers r) e n.1 in
        let fit : IsVal h.image (length olds) v = subst (λ z. IsVal h.image (length olds) z) is n.2 in
        let c = knows.sound.registers.count in
        let p0 = p.0 in
        let p1 = p.1 in
        get_or-set_other (redirected_registers (rewritten olds news) h.registers named h.registers) 26 r (young_top - bytes) 0 n26
        ∙ regs_in (rewritten olds news) h.registers named h.registers r (omega (arith, p0)) (omega (arith, p1, c)) i
        ∙ ap (rewritten olds news) (knows.in_registers.register r v e)
        ∙ value_moves h.image olds news v ready.functions new_are.sizes knows.old.inside knows.old.apart new_inside fit)
        (λ none.
        let still : IsStill v = ⊎_elim (λ s. s) (λ a. absurd (none a)) (ready.named.value r v e) in
        same_reg r n26 none ∙ knows.in_registers.register r v e ∙ still_word h.image olds news v still)
        (among_or_not r named)

    unnamed_special : (s : ℕ) → (s ≡ 2) ⊎ (s ≡ 9) → AmongNumbers s named → ⊥
    unnamed_special s (inl e) i = let p = (ready.plain s i).0 in omega (arith, p, e)
    unnamed_special s (inr e) i = (ready.plain s i).2 e

    sp_same : register after sp ≡ register h sp
    sp_same = same_reg 2 (λ e. omega (arith, e)) (unnamed_special 2 (inl refl))

    s1_same : register after s1 ≡ register h s1
    s1_same = same_reg 9 (λ e. omega (arith, e)) (unnamed_special 9 (inr refl))

    -- a root cell is a whole word, before the move and after it
    root_words : (x : ℕ) → AmongNumbers x (root_addresses h.image) →
        IsReadable h.memory x × (held_word h.memory x ≡ memory_word h.memory x) × (held_word after.memory x ≡ memory_word after.memory x)
    root_words x i =
        let p = roots_whole (length h.image.bytes) h.image.roots x ready.functions.tables.roots.each i in
        let moves = has_moved (extents h.image h.heap h.stack_base) olds news h.memory places knows.sound.memory in
        let later = has_write (extents h.image h.heap h.stack_base) (moved_memory olds news h.memory places) 0x20000000 limit_at_rest moves in
        let readable = data_readable h.image h.heap h.stack_base h.memory knows.sound.memory x p.0 p.1 p.2 in
        let short = ready.functions.tables.bytes.short in
        let a = knows.sound.heap.aligned in
        let even : h.heap % 8 ≡ 0 = omega (arith, a) in (
          readable,
          held_readable h.image h.heap h.stack_base short even knows.sound.stack h.memory knows.sound.memory x readable,
          held_readable h.image h.heap h.stack_base short even knows.sound.stack after.memory later x (restored_here.readable x readable),
        )

    pub knows_again : IsSound after → Knows news after (f ∷ fs) holds (h.pc + 4)
    knows_again sound =
        let r = restored_here in
        let can = stack_readable h.image h.heap h.stack_base h.memory knows.sound.memory in
        let n = same_length olds news new_are.sizes in
        record {
          sound = sound;
          old = record { inside = new_inside; apart = new_are.apart };
          sp_low = subst (λ x. h.stack_base ≤ x) (sym sp_same) knows.sp_low;
          sp_high = subst (λ x. x ≤ stack_end) (sym sp_same) knows.sp_high;
          chain = subst (λ x. Chain h.image.descs h.stack_base after.memory true (h.pc + 4) x (f ∷ fs)) (sym sp_same)
              (chain_kept h.image.descs h.stack_base h.memory after.memory true (h.pc + 4) (register h sp) (f ∷ fs)
              (return_keeps h.image olds news places h.memory after.memory holds.blocks r new_are.sizes knows.old.inside h.stack_base base_high can)
              knows.chain);
          in_registers = record { register = register_again; known = λ q x e. subst (λ z. IsKnown h.image z x) (sym n) (knows.in_registers.known q x e) };
          waits = waits h.image olds news places h.memory after.memory holds.blocks r new_are.sizes knows.old.inside h.stack_base base_high can h.image.descs true (h.pc + 4) (register h sp) holds.waiting (f ∷ fs) knows.chain
              (λ y i. among_first y (slots_of (f ∷ fs)) (root_addresses h.image) i) only_slots knows.waits;
          traps = subst (λ x. TrapsFrom h.stack_base after.memory x holds.traps holds.last) (sym s1_same)
              (traps_kept h.image olds news places h.memory after.memory holds.blocks r new_are.sizes knows.old.inside h.stack_base base_high can
              (register h s1) holds.traps holds.last knows.traps);
          stand = r.stand;
          settled = settled_again h.image (length olds) (length news) holds.blocks n knows.settled;
          statics = statics_kept h.image olds news places h.memory after.memory holds.blocks r new_are.sizes knows.old.inside h.stack_base base_high can
              (root_addresses h.image) holds.static
              ready.functions.tables.bytes.short (λ x i. among_second x (slots_of (f ∷ fs)) (root_addresses h.image) i) only_roots
              root_words knows.statics;
        }

    pub restores : IsSound after → IsRestored bytes h f fs holds after
    restores sound =
        let r = restored_here in
        let can = stack_readable h.image h.heap h.stack_base h.memory knows.sound.memory in
        record {
          knows = knows_again sound;
          image = refl;
          stack_base = refl;
          heap = refl;
          s10_is = let c = knows.sound.registers.count in let l = regs_length (rewritten olds news) h.registers named h.registers in
              get_or-set_same (redirected_registers (rewritten olds news) h.registers named h.registers) 26 (young_top - bytes) 0 (omega (arith, c, l));
          others = same_reg;
          readable = r.readable;
          table_low = halves_low h.heap news knows.sound.heap.most new_are.halves;
          blocks_readable = record { each = λ k x l e lo hi. r.readable x (readable_at h.memory news is_move.readable k x l e lo hi) };
          limit =
              let moves = has_moved (extents h.image h.heap h.stack_base) olds news h.memory places knows.sound.memory in
              word_same (moved_memory olds news h.memory places) 0x20000000 limit_at_rest (formed_regions (extents h.image h.heap h.stack_base)
              (moved_memory olds news h.memory places) moves)
              (limit_readable h.image h.heap h.stack_base (moved_memory olds news h.memory places) moves) (omega arith);
          stays = stack_keeps h.image olds news places h.memory after.memory holds.blocks r new_are.sizes knows.old.inside h.stack_base base_high can;
        }
