-- A callee begins above its caller, and comes back to it.
use Rattle.std.proofs.Common.{◌≡◌, ◌≢◌, ℕ, suc, ◌+◌, ◌-◌, ◌*◌, ◌%◌, ◌<◌, ◌≤◌, inr, true, false, cond, List, [], ◌∷◌, ◌++◌, length, map, Option, Some, None, slice_get, slice_index, slice_set, refl, ap, arith, ◌∙◌, sym, subst, get_or-set_same, get_or-set_other}
use Rattle.std.proofs.lemmas.List.{length-map}
use Rattle.bs_words.specs.Memory.{Memory}
use Rattle.bs_words.specs.declared.types.Loc.{Loc}
use Rattle.bs_words.specs.declared.types.Loc.TheVariants as loc
use Rattle.bs_words.specs.declared.values.Value.{Value}
use Rattle.image_form.specs.Tables.{Desc}
use Rattle.lin_ir.specs.Meaning.{Locations, are_vals, poisoned}
use Rattle.mach_ir.specs.Acts.{Around, is_complete}
use Rattle.mach_ir.specs.Runs.{entry_around}
use Rattle.rv_machine.specs.Frames.{descriptor_at, names_register}
use Rattle.rv_machine.specs.Hart.{Placed}
use Rattle.rv_machine.specs.Memory.{Region, memory_word, code_start}
use Rattle.rv_machine.specs.Places.{stack_bottom}
use Rattle.bs_words.specs.Fits.{data_start}
use Rattle.machine_laws.proofs.Words.{with_registers}
use Rattle.moving_laws.specs.Waiting.{Chain, IsBack, IsWaiting, TrapsFrom, traps_at}
use Rattle.lin_machine.specs.Moments.{AtEntry, AtReturn, AtThrow, IsThrown}
use Rattle.lin_machine.specs.Relation.{Below, IsDescribed, IsLocationRegister, Laid, ReturnStands, StandsFor, Waits, Within, blocks_by_serial, pushed, waiting_trap_frames, waiting_of}
use Rattle.lin_machine.specs.View.{Fixed, View}
use Rattle.lin_machine.proofs.Frames.{heap_around, heap_whole, own_chain, own_waits}
use Rattle.lin_machine.proofs.Standing.{own_past}

-- ---- the callee is about to begin

module _ (s : Fixed) (laid : Laid) (v : View) (young : List Placed) (held : Locations) (a : Around) (c : Below) (within : Within s laid v young 0 held a c)
    (named : List Loc) (d : Desc) (is : IsDescribed laid (length a.tries) named d) (saves : laid.saves ≡ true)
    (fit : are_vals (data_start + length s.image.bytes) named held ≡ true) where
  pub enters :
      (to back : ℕ) (arguments : List Value) → IsBack back → back ≢ code_start → descriptor_at s.image.descs back ≡ Some d → names_register d.entries ≡ false →
      is_complete a ≡ true →
      ((k : ℕ) (x : Value) → slice_get arguments k ≡ Some x → (k < 16) × StandsFor s (blocks_by_serial v young) (slice_index v.registers (10 + k)) x) →
      AtEntry s (record v { place = to; registers = slice_set v.registers 1 back }) young to arguments a.memory (pushed laid (poisoned named held) a.tries c
      (slice_index v.registers 2) d back)
  enters to back arguments is_back n there registers whole args =
      let e2 : slice_index (slice_set v.registers 1 back) 2 ≡ slice_index v.registers 2 = get_or-set_other v.registers 1 2 back 0 (λ q. omega (arith, q)) in
      let e9 : slice_index (slice_set v.registers 1 back) 9 ≡ slice_index v.registers 9 = get_or-set_other v.registers 1 9 back 0 (λ q. omega (arith, q)) in
      let e26 : slice_index (slice_set v.registers 1 back) 26 ≡ slice_index v.registers 26 = get_or-set_other v.registers 1 26 back 0 (λ q. omega (arith, q)) in
      let e27 : slice_index (slice_set v.registers 1 back) 27 ≡ slice_index v.registers 27 = get_or-set_other v.registers 1 27 back 0 (λ q. omega (arith, q)) in
      let f = within.frame in
      let hi = within.waits.high in
      let e = within.waits.even in
      let fe = laid.even in
      let cnt = within.own.are.count in
      let bh = is_back.high in
      record {
        place = refl;
        own = own_past v.registers (slice_set v.registers 1 back) young 0 (with_registers v.registers 1 back within.own.are (omega
            (arith, bh))) e26 e27 within.own;
        usable = record { regions = within.usable.regions; heap = within.usable.heap; apart = within.usable.apart };
        top = e2;
        back = get_or-set_same v.registers 1 back 0 (omega (arith, cnt));
        arguments_in = λ k x h.
            let p = args k x h in
            (p.0, subst (λ w. StandsFor s (blocks_by_serial v young) w x) (sym (get_or-set_other v.registers 1 (10 + k) back 0 (λ q. omega (arith, q)))) p.1);
        waits = record {
          low = within.low;
          high = omega (arith, f, hi);
          even = omega (arith, f, e, fe);
          back = is_back;
          backs = (within.waits.back, within.waits.backs);
          chain = own_chain s laid v young 0 held a c within named d is saves fit false back (inr registers) n there;
          waits = (own_waits s laid v young 0 held a c within named d is saves fit, within.waits.waits);
          bottom = within.waits.bottom;
        };
        traps = subst (λ q. TrapsFrom s.base v.memory q (traps_at (slice_index v.registers 2)
            (map laid.handler a.tries) ++ waiting_trap_frames c.waiting c.frames) stack_bottom) (sym e9) within.traps;
        heap = heap_whole s (blocks_by_serial v young) v.memory a whole within.heap;
      }

-- ---- what is known of the caller's frame while it waits

pub record IsCaller (laid : Laid) (slots : Locations) (d : Desc) (traps : ℕ) (c : Below) (at : ℕ) : Type 0 where
  pub bound : (k : ℕ) (x : Value) → slots (loc.Slot k) ≡ Some x → k < laid.slots
  pub saves : laid.saves ≡ true
  pub size : d.size ≡ laid.frame + 16 * traps
  pub top : at + d.size ≡ c.top
  pub high : c.top ≤ stack_bottom
  pub even : c.top % 16 ≡ 0

-- a0 has this value, if there is one, and no other register holds anything; slots hold no more than
-- these
pub record IsFresh (value : Option Value) (slots held : Locations) : Type 0 where
  pub register : (r : ℕ) (x : Value) → held (loc.Machine r) ≡ Some x → (r ≡ 10) × (value ≡ Some x)
  pub slot : (k : ℕ) (x : Value) → held (loc.Slot k) ≡ Some x → slots (loc.Slot k) ≡ Some x

a0_location : (r : ℕ) → r ≡ 10 → IsLocationRegister r
a0_location r e = record {
  some = omega (arith, e);
  below = omega (arith, e);
  no_trap = λ t. omega (arith, t, e);
  no_young = λ t. omega (arith, t, e);
  no_domain = λ t. omega (arith, t, e);
  no_scratch = (λ t. omega (arith, t, e), λ t. omega (arith, t, e));
}

-- ---- back from a callee

module _ (s : Fixed) (laid : Laid) (slots : Locations) (tries : List ℕ) (c : Below) (at : ℕ) (d : Desc) (back : ℕ)
    (caller : IsCaller laid slots d (length tries) c at) (w : View) (young : List Placed) where
  return_word : memory_word w.memory (at + (d.size - 8)) ≡ c.back → ReturnStands laid.saves w c
  return_word e =
      let top = caller.top in
      let z = caller.size in
      let room : 8 * laid.slots + 8 ≤ laid.frame = subst (λ b. 8 * laid.slots + cond b 8 0 ≤ laid.frame) caller.saves laid.room in
      let x : at + (d.size - 8) ≡ c.top - 8 = omega (arith, top, z, room) in
      subst (λ b. ReturnStands b w c) (sym caller.saves) (subst (λ y. memory_word w.memory y ≡ c.back) x e)

  -- its slots, as the memory has them
  slot_of :
      (m : List Region) (sp : ℕ) (own : IsWaiting s.image (blocks_by_serial w young) m (waiting_of laid slots tries c) (record { at = at; desc = d })) (n : ℕ) →
      sp + 16 * n ≡ at + 16 * length tries →
      (k : ℕ) (x : Value) → slots (loc.Slot k) ≡ Some x → (k < laid.slots) × StandsFor s (blocks_by_serial w young) (memory_word m (sp + (8 * k + 16 * n))) x
  slot_of m sp own n e k x h =
      let i = caller.bound k x h in
      let t = length-map tries laid.handler in
      let there : at + (16 * length (map laid.handler tries) + 8 * k) ≡ sp + (8 * k + 16 * n) = omega (arith, e, t) in
      (i, record { is = ap (memory_word m) (sym there) ∙ own.slot k x i h; known = own.known k x i h })

  pub comes_back : (value : Option Value) (memory : Memory) (held : Locations) → IsFresh value slots held →
      AtReturn s w young value memory (pushed laid slots tries c at d back) →
      Within s laid w young 0 held (record { memory = memory; unwritten = []; tries = tries; raised = None }) c
  comes_back value memory held fresh r =
      let chain = r.waits.chain in
      let frame = chain.3 in
      let z = caller.size in
      let top = caller.top in
      let sp = r.top in
      let own = r.waits.waits.0 in
      let lo = frame.low in
      record {
        own = r.own;
        usable = r.usable;
        frame = omega (arith, sp, z, top);
        low = omega (arith, sp, lo);
        carried = λ q x h. let f = fresh.register q x h in (
          a0_location q f.0,
          subst (λ t. StandsFor s (blocks_by_serial w young) (slice_index w.registers t) x)
              (sym f.0) (r.value_in x f.1),
        );
        slots = λ k x h. slot_of w.memory (slice_index w.registers 2) own (length tries) (omega (arith, sp)) k x (fresh.slot k x h);
        back = return_word own.back;
        waits = record {
          low = omega (arith, top, lo);
          high = caller.high;
          even = caller.even;
          back = r.waits.backs.0;
          backs = r.waits.backs.1;
          chain = subst (λ q. Chain s.image.descs s.base w.memory false c.back q c.frames) top (subst (λ b. Chain s.image.descs s.base w.memory false b
              (at + d.size) c.frames) own.back chain.5);
          waits = r.waits.waits.1;
          bottom = r.waits.bottom;
        };
        traps = subst (λ q. TrapsFrom s.base w.memory (slice_index w.registers 9)
            (traps_at q (map laid.handler tries) ++ waiting_trap_frames c.waiting c.frames) stack_bottom) (sym sp) r.traps;
        heap = heap_around s (blocks_by_serial w young) w.memory (entry_around memory) tries None r.heap;
      }

  -- ---- a callee has raised

  module _ (x : Value) (memory : Memory) (r : AtThrow s w young x memory (pushed laid slots tries c at d back)) where
    waits_below : Waits s (blocks_by_serial w young) w.memory c
    waits_below =
        let chain = r.waits.chain in
        let frame = chain.3 in
        let top = caller.top in
        let own = r.waits.waits.0 in
        let lo = frame.low in
        record {
          low = omega (arith, top, lo);
          high = caller.high;
          even = caller.even;
          back = r.waits.backs.0;
          backs = r.waits.backs.1;
          chain = subst (λ q. Chain s.image.descs s.base w.memory false c.back q c.frames) top (subst (λ b. Chain s.image.descs s.base w.memory false b
              (at + d.size) c.frames) own.back chain.5);
          waits = r.waits.waits.1;
          bottom = r.waits.bottom;
        }

    -- it has pushed no try: the raise is its own
    pub passes_on : tries ≡ [] → AtThrow s w young x memory c
    passes_on e = record {
      own = r.own;
      usable = r.usable;
      value_in = r.value_in;
      waits = waits_below;
      thrown = subst (λ ts. IsThrown w.memory s.base w.place (slice_index w.registers 2) (slice_index w.registers 9)
          (traps_at at (map laid.handler ts) ++ waiting_trap_frames c.waiting c.frames)) e r.thrown;
      heap = r.heap;
    }

    -- it has: its handler is entered, with the value in a0
    module _ (t : ℕ) (rest : List ℕ) (e : tries ≡ t ∷ rest) where
      thrown_here : IsThrown w.memory s.base w.place (slice_index w.registers 2) (slice_index w.registers 9)
          (traps_at at (map laid.handler (t ∷ rest)) ++ waiting_trap_frames c.waiting c.frames)
      thrown_here = subst (λ ts. IsThrown w.memory s.base w.place (slice_index w.registers 2) (slice_index w.registers 9)
          (traps_at at (map laid.handler ts) ++ waiting_trap_frames c.waiting c.frames)) e r.thrown

      pub catches_place : code_start + 4 * w.place ≡ laid.handler t
      catches_place = thrown_here.0

      pub catches : (held : Locations) → ((k : ℕ) (y : Value) → held (loc.Slot k) ≡ Some y → slots (loc.Slot k) ≡ Some y) →
          Within s laid w young 0 held (record { memory = memory; unwritten = []; tries = rest; raised = Some x }) c
      catches held sub =
          let th = thrown_here in
          let sp = th.1 in
          let z = caller.size in
          let top = caller.top in
          let own = r.waits.waits.0 in
          let lo = (r.waits.chain.3).low in
          let n : length tries ≡ suc (length rest) = ap (λ ts. length ts) e in
          record {
            own = r.own;
            usable = r.usable;
            frame = omega (arith, sp, z, top, n);
            low = omega (arith, sp, lo);
            carried = r.value_in;
            slots = λ k y h. slot_of w.memory (slice_index w.registers 2) own (length rest) (omega (arith, sp, n)) k y (sub k y h);
            back = return_word own.back;
            waits = waits_below;
            traps = subst (λ q. TrapsFrom s.base w.memory (slice_index w.registers 9)
                (traps_at q (map laid.handler rest) ++ waiting_trap_frames c.waiting c.frames) stack_bottom) (sym sp) th.2;
            heap = heap_around s (blocks_by_serial w young) w.memory (entry_around memory) rest (Some x) r.heap;
          }
