-- One instruction of the machine, with the ask before it.
use Rattle.std.proofs.Common.{◌≡◌, ◌≢◌, ℕ, zero, suc, ◌+◌, ◌-◌, ◌*◌, ◌/◌, ◌%◌, ◌^◌, ◌<◌, ◌≤◌, ◌⊎◌, inl, inr, Bool, true, false, cond, ◌&&◌, ◌==◌, nat_lt, List, slice_get, slice_index, Some, refl, ap, arith, ◌∙◌, sym, subst}
use Rattle.std.proofs.lemmas.Bool.{le-leb, le-ltb, lt-ltb, eq-eqb, ne_eqb, and_from, and_left, and_right, cond-true, cond-false}
use Rattle.guarded_machine.specs.Guarded.{guarded_after, is_in_need, is_service}
use Rattle.guarded_machine.proofs.Needs.{allows, other_service, sets_unserved, unserved}
use Rattle.image_form.specs.Tables.{Tables}
use Rattle.rv_isa.specs.Encoding.{encoded}
use Rattle.rv_isa.specs.declared.instr.Instr.{Instr}
use Rattle.rv_isa.proofs.RoundTrip.{decoded-encoded}
use Rattle.rv_machine.specs.Hart.{Hart, Next, register, with_register, sets, goes_to, executed, decoded_next, fetched, fetch, hart}
use Rattle.rv_machine.specs.Hart as next
use Rattle.rv_machine.specs.Memory.{write, code_start}
use Rattle.rv_machine.specs.Run.{asked, perhaps_asked, after_next}
use Rattle.rv_machine.specs.Services.{End, Machine, Going, Over, StackOut}
use Rattle.rv_machine.specs.Places.{domain_start, limit_asked}
use Rattle.rv_machine.specs.Sound.{AllWords, extents}
use Rattle.machine_laws.proofs.Memory.{has_write}
use Rattle.moving_laws.proofs.Usable.{formed_regions, limit_readable}
use Rattle.moving_laws.proofs.Words.{word_same}
use Rattle.lin_machine.specs.View.{Fixed, View, HasView, ReachesView, EndsRunAfter, IsInstructionAt}
use Rattle.lin_machine.proofs.Likes.{known_asked, like_limit}

-- ---- the ask

-- the machine with another hart
abbrev pub with_hart : Machine → Hart → Machine
with_hart a h = record a { hart = h }

asked_stands : (s : Fixed) (a : Machine) (v : View) (t : Bool) → HasView s a v → HasView s (with_hart a (cond t (asked a.hart) a.hart)) v
unfolding write
asked_stands s a v false st = st
asked_stands s a v true st = record {
  image = st.image;
  pc = st.pc;
  registers = st.registers;
  memory = like_limit v.memory a.hart.memory limit_asked st.memory;
  regions = has_write (extents s.image s.heap s.base) a.hart.memory domain_start limit_asked st.regions;
  limit = known_asked v.asked (write a.hart.memory domain_start limit_asked) (word_same a.hart.memory domain_start limit_asked
      (formed_regions (extents s.image s.heap s.base) a.hart.memory st.regions) (limit_readable s.image s.heap s.base a.hart.memory st.regions)
      (omega arith));
  stack_base = st.stack_base;
  heap = st.heap;
  blocks = st.blocks;
  result = st.result;
  answers = st.answers;
  calls = st.calls;
}

-- the machine when the instruction runs
abbrev pub ready : Fixed → Machine → Machine
ready s a = with_hart a (perhaps_asked s.schedule a.hart)

pub ready_stands : (s : Fixed) (a : Machine) (v : View) → HasView s a v → HasView s (ready s a) v
ready_stands s a v st = asked_stands s a v (s.schedule.asks a.hart.retired) st

-- ---- the fetch

fetch_at : (code : List ℕ) (pc place w : ℕ) → pc ≡ code_start + 4 * place → slice_get code place ≡ Some w → fetch code pc ≡ Some w
fetch_at code pc place w e h =
    let index : (pc - code_start) / 4 ≡ place = omega arith in
    cond-true _ _ _ (and_from _ _ (le-leb code_start pc (omega arith)) (eq-eqb (pc % 4) 0 (omega arith)))
    ∙ ap (slice_get code) index ∙ h

hart_executes : (s : Fixed) (a : Machine) (v : View) (i : Instr) → HasView s a v → IsInstructionAt s v.place i → hart a.hart ≡ executed i a.hart
unfolding hart
hart_executes s a v i st c =
    ap (λ o. fetched o a.hart)
    (ap (λ (image : Tables). fetch image.code a.hart.pc) st.image ∙ fetch_at s.image.code a.hart.pc v.place (encoded i) st.pc c.there)
    ∙ ap (λ o. decoded_next o a.hart) (decoded-encoded i c.fits)

-- no service is asked for
pub unserved_step : (s : Fixed) (a : Machine) (v : View) (i : Instr) (then' : Next) → HasView s a v → IsInstructionAt s v.place i → executed i a.hart ≡ then' →
    is_service then' ≡ false → is_in_need a ≡ true
unserved_step s a v i then' st c effect free = unserved a (ap is_service (hart_executes s a v i st c ∙ effect) ∙ free)

-- another service than an allocation is asked for
pub other_number : (s : Fixed) (a : Machine) (v : View) (n : ℕ) → HasView s a v → slice_index v.registers 7 ≡ n → n ≢ 3 → is_in_need a ≡ true
other_number s a v n st number other = other_service a (λ e. other (sym number ∙ sym (ap (λ xs. slice_index xs 7) st.registers) ∙ e))

-- what comes of one instruction
pub one_step :
    (s : Fixed) (a : Machine) (v : View) (i : Instr) (then' : Next) → HasView s a v → IsInstructionAt s v.place i → is_in_need a ≡ true →
    executed i (perhaps_asked s.schedule a.hart) ≡ then' →
    (j k : ℕ) → j ≡ 1 + k → guarded_after s.schedule j (Going a) ≡ guarded_after s.schedule k (after_next s.schedule then' a)
one_step s a v i then' st c need effect j k e =
    let more : j ≡ suc k = omega arith in
    ap (λ n. guarded_after s.schedule n (Going a)) more
    ∙ ap (guarded_after s.schedule k) (allows s.schedule a need)
    ∙ ap (λ x. guarded_after s.schedule k (after_next s.schedule x a)) (hart_executes s (ready s a) v i (ready_stands s a v st) c ∙ effect)

-- ---- stretches

pub stays : (s : Fixed) (v : View) → ReachesView s 0 v v
stays s v = record {
  answers = refl;
  calls = refl;
  asked = refl;
  by = λ a st. (a, st, λ j k e. let same : j ≡ k = omega arith in ap (λ n. guarded_after s.schedule n (Going a)) same);
}

pub then_leads : (s : Fixed) (n m : ℕ) (u v w : View) → ReachesView s n u v → ReachesView s m v w → ReachesView s (n + m) u w
then_leads s n m u v w p q = record {
  answers = q.answers ∙ p.answers;
  calls = q.calls ∙ p.calls;
  asked = q.asked ∙ p.asked;
  by = λ a st.
      let first = p.by a st in
      let second = q.by first.0 first.1 in
      (second.0, second.1, λ j k e. first.2 j (m + k) (omega arith) ∙ second.2 (m + k) k refl);
}

pub then_ends : (s : Fixed) (n m : ℕ) (u v : View) (end : End) → u.calls ≡ v.calls → ReachesView s n u v → EndsRunAfter s m v end → EndsRunAfter s (n + m) u end
then_ends s n m u v end same p q = record {
  by = λ a st j k e.
      let first = p.by a st in
      first.2 j (m + k) (omega arith) ∙ q.by first.0 first.1 (m + k) k refl ∙ ap (λ c. guarded_after s.schedule k (Over c end)) (sym same);
}

-- ---- registers

-- what a register holds; x0 reads 0
abbrev pub reg : List ℕ → ℕ → ℕ
reg registers zero = 0
reg registers (suc r) = slice_index registers (suc r)

pub register_reg : (s : Fixed) (a : Machine) (v : View) (r : ℕ) → HasView s a v → register a.hart r ≡ reg v.registers r
register_reg s a v zero st = refl
register_reg s a v (suc r) st = ap (λ registers. slice_index registers (suc r)) st.registers

pub reg_below : (registers : List ℕ) (r : ℕ) → AllWords registers → reg registers r < 2 ^ 64
reg_below registers zero w = omega arith
reg_below registers (suc r) w = w (suc r)

-- the next view, with a register set
abbrev pub set_in : ℕ → ℕ → View → View
set_in rd value v = record v { place = v.place + 1; registers = with_register rd value v.registers }

-- the next view, somewhere else
abbrev pub at_place : ℕ → View → View
at_place place v = record v { place = place }

-- a value that this register may have
abbrev pub Passes : Fixed → ℕ → ℕ → Type 0
Passes s rd value = (rd ≢ 2) ⊎ (s.base ≤ value)

passes_test : (s : Fixed) (rd value base : ℕ) → base ≡ s.base → Passes s rd value → ((rd == 2) && nat_lt value base) ≡ false
passes_test s rd value base e (inl other) = and_left _ _ (ne_eqb rd 2 other)
passes_test s rd value base e (inr above) = and_right _ _ (le-ltb value base (omega arith))

next_pc : (pc place : ℕ) → pc ≡ code_start + 4 * place → pc + 4 ≡ code_start + 4 * (place + 1)
next_pc pc place e = omega arith

-- The effect of an instruction, on every machine in such a state, is to set a register and to go to
-- a place.
pub record SetsTo (s : Fixed) (v : View) (i : Instr) (rd value place : ℕ) : Type 0 where
  pub effect : (a : Machine) → HasView s a v → executed i a.hart ≡ sets rd value (code_start + 4 * place) a.hart

pub set_to_step :
    (s : Fixed) (v : View) (i : Instr) (rd value place : ℕ) → IsInstructionAt s v.place i → Passes s rd value →
    SetsTo s v i rd value place → ReachesView s 1 v (record v { place = place; registers = with_register rd value v.registers })
set_to_step s v i rd value place c passes known = record {
  answers = refl;
  calls = refl;
  asked = refl;
  by = λ a st.
      let b = ready s a in
      let ok = ready_stands s a v st in
      let h : Hart = record (b.hart) { registers = with_register rd value b.hart.registers; pc = code_start + 4 * place; retired = suc b.hart.retired } in (
        with_hart a h,
        record {
          image = ok.image;
          pc = refl;
          registers = ap (with_register rd value) ok.registers;
          memory = ok.memory;
          regions = ok.regions;
          limit = ok.limit;
          stack_base = ok.stack_base;
          heap = ok.heap;
          blocks = ok.blocks;
          result = ok.result;
          answers = ok.answers;
          calls = ok.calls;
        },
        one_step s a v i (goes_to (code_start + 4 * place) (record (b.hart) { registers = with_register rd value b.hart.registers })) st c
            (unserved_step s a v i (sets rd value (code_start + 4 * place) a.hart) st c (known.effect a st)
            (sets_unserved rd value (code_start + 4 * place) a.hart))
            (known.effect b ok ∙ cond-false _ _ _ (passes_test s rd value b.hart.stack_base ok.stack_base passes)),
      );
}

-- the usual one goes on with the next instruction
pub record SetsRegister (s : Fixed) (v : View) (i : Instr) (rd value : ℕ) : Type 0 where
  pub effect : (a : Machine) → HasView s a v → executed i a.hart ≡ sets rd value (a.hart.pc + 4) a.hart

pub set_step :
    (s : Fixed) (v : View) (i : Instr) (rd value : ℕ) → IsInstructionAt s v.place i → Passes s rd value →
    SetsRegister s v i rd value → ReachesView s 1 v (set_in rd value v)
set_step s v i rd value c passes known =
    set_to_step s v i rd value (v.place + 1) c passes (record {
      effect = λ a st. known.effect a st ∙ ap (λ pc. sets rd value pc a.hart)
          (next_pc a.hart.pc v.place st.pc);
    })

-- an instruction that would bring sp below the stack's base
pub out_step : (s : Fixed) (v : View) (i : Instr) (value : ℕ) → IsInstructionAt s v.place i → value < s.base → SetsRegister s v i 2 value → EndsRunAfter s 1 v StackOut
out_step s v i value c low known = record {
  by = λ a st j k e.
      let b = ready s a in
      let ok = ready_stands s a v st in
      one_step s a v i next.StackOut st c
      (unserved_step s a v i (sets 2 value (a.hart.pc + 4) a.hart) st c (known.effect a st) (sets_unserved 2 value (a.hart.pc + 4) a.hart))
      (known.effect b ok ∙ cond-true _ _ _ (lt-ltb value b.hart.stack_base (subst (λ x. value < x) (sym ok.stack_base) low)))
      j k e
      ∙ ap (λ x. guarded_after s.schedule k (Over x StackOut)) st.calls;
}

-- an instruction that only goes to a place
pub record GoesTo (s : Fixed) (v : View) (i : Instr) (place : ℕ) : Type 0 where
  pub effect : (a : Machine) → HasView s a v → executed i a.hart ≡ goes_to (code_start + 4 * place) a.hart

pub go_step : (s : Fixed) (v : View) (i : Instr) (place : ℕ) → IsInstructionAt s v.place i → GoesTo s v i place → ReachesView s 1 v (at_place place v)
go_step s v i place c known = record {
  answers = refl;
  calls = refl;
  asked = refl;
  by = λ a st.
      let b = ready s a in
      let ok = ready_stands s a v st in
      let h : Hart = record (b.hart) { pc = code_start + 4 * place; retired = suc b.hart.retired } in (
        with_hart a h,
        record {
          image = ok.image;
          pc = refl;
          registers = ok.registers;
          memory = ok.memory;
          regions = ok.regions;
          limit = ok.limit;
          stack_base = ok.stack_base;
          heap = ok.heap;
          blocks = ok.blocks;
          result = ok.result;
          answers = ok.answers;
          calls = ok.calls;
        },
        one_step s a v i (goes_to (code_start + 4 * place) b.hart) st c
            (unserved_step s a v i (goes_to (code_start + 4 * place) a.hart) st c (known.effect a st) refl) (known.effect b ok),
      );
}
