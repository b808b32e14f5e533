-- Bound tests follow their lines: on where the index is below the bound, else to the innermost handler.
use Rattle.std.proofs.Common.{◌≡◌, ℕ, ◌+◌, ◌*◌, ◌^◌, ◌<◌, ◌≤◌, inl, Bool, true, false, cond, nat_lt, List, [], ◌∷◌, ◌++◌, length, Some, None, Result, Ok, Err, slice_index, refl, ap, ap₂, arith, ◌∙◌, sym, subst, ⊎_elim, append_assoc, ◌%◌, ◌&&◌, map}
use Rattle.bs_words.specs.declared.values.Kind.{Kind}
use Rattle.bs_words.specs.declared.values.Value.{Value}
use Rattle.bs_words.specs.declared.values.Value.TheVariants.{Word, Block, Function}
use Rattle.rv_emit_rules.specs.Slots.{fetch_pieces, register_of, second}
use Rattle.rv_emit_rules.specs.Tests.{constant_register, constant_words}
use Rattle.rv_layout_rules.specs.Laid.{address_of_place}
use Rattle.rv_layout_rules.specs.Words.{NameAddresses}
use Rattle.lin_ir.specs.Formed.{IsLocation}
use Rattle.lin_ir.specs.Meaning.{Locations, NamedAt, after_label, on_act, on_values, step, at_handler, wrote}
use Rattle.lin_ir.specs.declared.lin.Lin.{Lin}
use Rattle.lin_ir.specs.declared.lin.Line.{Line}
use Rattle.lin_ir.specs.declared.lin.LinOp.TheVariants as lin
use Rattle.lin_ir.specs.declared.lin.Spot.{Spot}
use Rattle.mach_ir.specs.Acts.{Around, On, checked, is_complete, stuck_unless, raised_by, raise_act, Goes}
use Rattle.mach_ir.specs.Runs.{ActivationSetting}
use Rattle.mach_ir.specs.declared.op.Right.{Right}
use Rattle.mach_ir.specs.declared.op.Right.TheVariants as right
use Rattle.rv_isa.specs.Registers.{register_number}
use Rattle.rv_isa.specs.declared.instr.Condition.TheVariants as condition
use Rattle.rv_isa.specs.declared.register.Register.{Register}
use Rattle.rv_isa.specs.declared.register.Register.TheVariants.{T1, T2}
use Rattle.rv_machine.specs.Arithmetic.{is_taken, imm_u}
use Rattle.rv_machine.specs.Hart.{Placed}
use Rattle.rv_pieces.specs.declared.piece.Piece.{Piece}
use Rattle.lin_machine.specs.Follows.{Agrees, FollowsStep, IsAt, IsDone}
use Rattle.lin_machine.specs.Relation.{Below, Laid, StandsFor, Within, blocks_by_serial, waiting_trap_frames}
use Rattle.lin_machine.specs.Straight.{LeadsFurther}
use Rattle.lin_machine.specs.View.{Fixed, View, HasCode, ReachesView, IsInstructionAt}
use Rattle.lin_machine.proofs.Pure.{Reads, reads_held}
use Rattle.lin_machine.proofs.Reading.{reads_one, reads_two}
use Rattle.lin_machine.proofs.Steps.{reg, then_leads, at_place, go_step}
use Rattle.line_stands.specs.Parts.{PartStands}
use Rattle.line_stands.proofs.Parts.{counts, last, leads}
use Rattle.line_values.proofs.Jumping.{code_near, skips}
use Rattle.line_values.proofs.Landing.{lands, within_at}
use Rattle.std.proofs.lemmas.Bool.{and_parts}
use Rattle.bs_words.specs.Fits.{fits}
use Rattle.bs_words.specs.Operators.{word_in}
use Rattle.bs_words.specs.declared.types.Ty.TheVariants as ty
use Rattle.bs_words.proofs.Below.{sext_word-below}
use Rattle.cmm_meaning.specs.Evaluation.{bound_error}
use Rattle.cmm_meaning.specs.State.{Threw}
use Rattle.rv_emit_rules.specs.Traps.{check_part, raise_bound_error, raise_words}
use Rattle.mach_ir.specs.declared.op.Leaving.TheVariants as leaving
use Rattle.mach_ir.specs.declared.op.Op.TheVariants as op
use Rattle.bs_words.specs.declared.types.Loc.TheVariants as loc
use Rattle.moving_laws.specs.Waiting.{IsBack, TrapsFrom, traps_at}
use Rattle.rv_isa.specs.declared.instr.AluImmOp.TheVariants.{Addi}
use Rattle.rv_isa.specs.declared.instr.Instr.TheVariants.{Branch, Jalr, Load, Lui, OpImm}
use Rattle.rv_isa.specs.declared.instr.LoadWidth.TheVariants.{Ld}
use Rattle.rv_machine.specs.Memory.{code_start, memory_word, Region}
use Rattle.lin_machine.proofs.Arriving.{leads_in}
use Rattle.lin_machine.proofs.Formats.{goes_branch_on, goes_branch_taken, sets_lui}
use Rattle.machine_laws.proofs.Immediates.{by_20}
use Rattle.lin_machine.proofs.Sequences.{set_changes}
use Rattle.lin_machine.specs.Moments.{AtThrow}
use Rattle.lin_machine.proofs.Jumps.{raise_differs, raise_high, raise_leads, raise_place, raise_points, raise_value, raised_at}
use Rattle.lin_machine.proofs.Trapping.{handler_is, popped, throws}
use Rattle.moving_laws.specs.Words.{IsReadable}
use Rattle.moving_laws.proofs.Usable.{stack_readable}
use Rattle.rv_emit_rules.specs.Instructions.{skip}
use Rattle.lin_machine.proofs.Operating.{dropped, target_register}
use Rattle.lin_machine.proofs.Standing.{IsFree, within_changed, a0_location}
use Rattle.line_values.proofs.Testing.{Seconded, both_come, second_constant, second_location}

-- ---- the innermost trap

pub record IsTrap (s : Fixed) (m : List Region) (trap : ℕ) : Type 0 where
  pub back : IsBack (memory_word m trap)
  pub low : s.base ≤ trap
  pub high : trap + 16 ≤ 0x40000000
  pub even : trap % 8 ≡ 0

is_trap : (s : Fixed) (m : List Region) (trap : ℕ) (ts : List (ℕ × ℕ)) → memory_word m 0x3FFFFFF0 ≡ code_start + 8 → TrapsFrom s.base m trap ts 0x3FFFFFF0 →
    IsTrap s m trap
is_trap s m trap [] bottom t =
    let e : trap ≡ 0x3FFFFFF0 = t in
    let base = s.stack.high in
    let there : memory_word m trap ≡ code_start + 8 = ap (memory_word m) e ∙ bottom in
    record {
      back = record { low = omega (arith, there); high = omega (arith, there); even = ap (λ w. w % 4) there };
      low = omega (arith, e, base);
      high = omega (arith, e);
      even = ap (λ x. x % 8) e;
    }
is_trap s m trap (x ∷ ts) bottom t = record { back = subst IsBack (sym t.4) t.5; low = t.1; high = t.2; even = t.3 }

-- ---- a raise: the value in a0 comes to the innermost handler

module _ (s : Fixed) (n : NameAddresses) (laid : Laid) (v : View) (young : List Placed) (held : Locations) (a : Around) (c : Below)
    (within : Within s laid v young 0 held a c) (x : Value) (stands : StandsFor s (blocks_by_serial v young) (slice_index v.registers 10) x) (k : ℕ)
    (part : PartStands s n v.place (v.place + k) raise_words) where
  pub trap : IsTrap s v.memory (slice_index v.registers 9)
  trap = is_trap s v.memory (slice_index v.registers 9) _ within.waits.bottom within.traps

  pub trap0 : IsReadable v.memory (slice_index v.registers 9)
  trap0 =
      let h = trap.high in
      stack_readable s.image s.heap s.base v.memory within.usable.regions (slice_index v.registers 9) trap.even trap.low (omega (arith, h))

  pub trap8 : IsReadable v.memory (slice_index v.registers 9 + 8)
  trap8 =
      let h = trap.high in
      let l = trap.low in
      let e = trap.even in
      stack_readable s.image s.heap s.base v.memory within.usable.regions (slice_index v.registers 9 + 8) (omega (arith, e)) (omega (arith, l))
      (omega (arith, h))

  pub code : HasCode s v.place (OpImm Addi 2 9 0 ∷ Load Ld 6 2 0 ∷ Load Ld 9 2 8 ∷ OpImm Addi 2 2 16 ∷ Jalr 0 6 0 ∷ []) × (k ≡ 5)
  code =
      let g1 = leads s n v.place k (OpImm Addi 2 9 0) _ part in
      let g2 = leads s n (v.place + 1) g1.others (Load Ld 6 2 0) _ g1.rest in
      let g3 = leads s n (v.place + 1 + 1) g2.others (Load Ld 9 2 8) _ g2.rest in
      let g4 = leads s n (v.place + 1 + 1 + 1) g3.others (OpImm Addi 2 2 16) _ g3.rest in
      let g5 = last s n (v.place + 1 + 1 + 1 + 1) g4.others (Jalr 0 6 0) g4.rest in
      let e1 = g1.sum in
      let e2 = g2.sum in
      let e3 = g3.sum in
      let e4 = g4.sum in
      let e5 = g5.1 in
      ((g1.code, (g2.code, (g3.code, (g4.code, (g5.0, tt))))), omega (arith, e1, e2, e3, e4, e5))

  abbrev pub there : View
  there = raised_at s v within.own.are trap.back trap.low trap.high trap0 trap8 code.0

  pub five_words : k ≡ 5
  five_words = code.1

  pub led : ReachesView s 5 v (raised_at s v within.own.are trap.back trap.low trap.high trap0 trap8 code.0)
  led = raise_leads s v within.own.are trap.back trap.low trap.high trap0 trap8 code.0

  value_there : StandsFor s (blocks_by_serial v young) (slice_index there.registers 10) x
  value_there = subst (λ z. StandsFor s (blocks_by_serial v young) z x) (sym (raise_value s v within.own.are trap.back trap.low trap.high trap0 trap8 code.0)) stands

  pub thrown_out : is_complete a ≡ true → a.tries ≡ [] →
      AtThrow s (raised_at s v within.own.are trap.back trap.low trap.high trap0 trap8 code.0) young x a.memory c
  thrown_out whole left =
      throws s laid v there young held a c within (raise_differs s v within.own.are trap.back trap.low trap.high trap0 trap8 code.0) x value_there left whole
      (raise_high s v within.own.are trap.back trap.low trap.high trap0 trap8 code.0)
      (raise_points s v within.own.are trap.back trap.low trap.high trap0 trap8 code.0)
      (raise_place s v within.own.are trap.back trap.low trap.high trap0 trap8 code.0)

  pub caught : (m : Lin) (l : ℕ) (rest : List ℕ) → a.tries ≡ l ∷ rest → laid.handler l ≡ address_of_place (laid.part (length (after_label l m.code))) →
      (held' : Locations) → ((j : ℕ) (y : Value) → held' (loc.Slot j) ≡ Some y → held (loc.Slot j) ≡ Some y) →
      ((raised_at s v within.own.are trap.back trap.low trap.high trap0 trap8 code.0).place ≡ laid.part (length (after_label l m.code)))
      × Within s laid (raised_at s v within.own.are trap.back trap.low trap.high trap0 trap8 code.0) young 0 held' (record a {
        tries = rest;
        raised =
            Some x;
      }) c
  caught m l rest e handler held' sub =
      let own : slice_index v.registers 9 ≡ slice_index v.registers 2 =
      (subst (λ ts. TrapsFrom s.base v.memory (slice_index v.registers 9) (traps_at (slice_index v.registers 2) (map laid.handler ts)
      ++ waiting_trap_frames c.waiting c.frames) 0x3FFFFFF0) e within.traps).0 in
      let differs = raise_differs s v within.own.are trap.back trap.low trap.high trap0 trap8 code.0 in
      let up : slice_index there.registers 2 ≡ slice_index v.registers 2 + 16 =
      raise_high s v within.own.are trap.back trap.low trap.high trap0 trap8 code.0 ∙ ap (λ q. q + 16) own in
      let points : slice_index there.registers 9 ≡ memory_word v.memory (slice_index v.registers 2 + 8) =
      raise_points s v within.own.are trap.back trap.low trap.high trap0 trap8 code.0 ∙ ap (λ q. memory_word v.memory (q + 8)) own in
      let goes : code_start + 4 * there.place ≡ code_start + 4 * laid.part (length (after_label l m.code)) =
      raise_place s v within.own.are trap.back trap.low trap.high trap0 trap8 code.0 ∙ ap (memory_word v.memory) own
      ∙ handler_is s laid v there young held a c within differs l rest e up points ∙ handler in (
        four_times there.place (laid.part (length (after_label l m.code))) goes,
        popped s laid v there young held a c within differs l rest e up points (Some x) held' value_there sub,
      )
    where
      four_times : (p q : ℕ) → code_start + 4 * p ≡ code_start + 4 * q → p ≡ q
      four_times p q e = omega (arith, e)

-- ---- the test

pub word_of : (v : Value) (j : ℕ) → word_in v ≡ Ok j → v ≡ Word j
word_of (Word w) j e = let same : w ≡ j = ok_is e in ap Word same
  where
    ok_is : {X : Type 0} {x y : X} → ◌≡◌ {A = Result X Kind} (Ok x) (Ok y) → x ≡ y
    ok_is e = cc
word_of (Block q o) j e = absurd (cc)
word_of (Function f) j e = absurd (cc)

data_upper : imm_u 0x10000 ≡ 0x10000000
data_upper = ⊎_elim (λ p. let e = p.1 in omega (arith, e)) (λ p. let l = p.0 in absurd (omega (arith, l))) (by_20 0x10000 (omega arith))

module _ (s : Fixed) (n : NameAddresses) (laid : Laid) (m : Lin) (slots : m.slots ≡ laid.slots) (live : List Line → Type 0) (entry : ℕ → ℕ) (c : Below)
    (place : ActivationSetting) (named : NamedAt) (next : List Line) (v : View) (young : List Placed) (held file : Locations) (a : Around) (none : a.raised ≡ None)
    (within : Within s laid v young 0 held a c) (before : Type 0) (agrees : Agrees before held file) (k : ℕ) (behind : laid.part (length next) ≡ v.place + k)
    (passes : live next → before)
    (handlers : (l : ℕ) (rest : List ℕ) → a.tries ≡ l ∷ rest → laid.handler l ≡ address_of_place (laid.part (length (after_label l m.code))))
    (dead : (l : ℕ) (rest : List ℕ) → a.tries ≡ l ∷ rest → live (after_label l m.code) → ⊥) where
  -- where both operands are in their registers
  module _ (r : Right) (args : List Spot) (left right : Register) (k1 k2 : ℕ) (sum : k ≡ k1 + k2) (bound index : ℕ)
      (part : PartStands s n (v.place + k1) (v.place + k1 + k2) (skip condition.Bltu right left 28 ∷ raise_bound_error))
      (comes : LeadsFurther s v k1 (λ u. Within s laid u young 0 held a c × StandsFor s (blocks_by_serial u young) (reg u.registers (register_number left)) (Word bound)
      × StandsFor s (blocks_by_serial u young) (reg u.registers (register_number right)) (Word index))) where
    words_are : IsInstructionAt s (v.place + k1) (Branch condition.Bltu (register_number right) (register_number left) 28) × IsInstructionAt s (v.place + k1 + 1) (Lui 10 0x10000)
        × PartStands s n (v.place + k1 + 1 + 1) (v.place + k1 + 1 + 1 + 5) raise_words × (k2 ≡ 7)
    words_are =
        let l1 = leads s n (v.place + k1) k2 (Branch condition.Bltu (register_number right) (register_number left) 28) raise_bound_error part in
        let l2 = leads s n (v.place + k1 + 1) l1.others (Lui 10 0x10000) raise_words l1.rest in
        let g1 = leads s n (v.place + k1 + 1 + 1) l2.others (OpImm Addi 2 9 0) _ l2.rest in
        let g2 = leads s n (v.place + k1 + 1 + 1 + 1) g1.others (Load Ld 6 2 0) _ g1.rest in
        let g3 = leads s n (v.place + k1 + 1 + 1 + 1 + 1) g2.others (Load Ld 9 2 8) _ g2.rest in
        let g4 = leads s n (v.place + k1 + 1 + 1 + 1 + 1 + 1) g3.others (OpImm Addi 2 2 16) _ g3.rest in
        let g5 = last s n (v.place + k1 + 1 + 1 + 1 + 1 + 1 + 1) g4.others (Jalr 0 6 0) g4.rest in
        let five : l2.others ≡ 5 = five_by l2.others g1.others g2.others g3.others g4.others g1.sum g2.sum g3.sum g4.sum g5.1 in
        let e1 = l1.sum in
        let e2 = l2.sum in (
          l1.code,
          l2.code,
          subst (λ z. PartStands s n (v.place + k1 + 1 + 1) (v.place + k1 + 1 + 1 + z) raise_words) five l2.rest,
          seven_by k2 l1.others l2.others l1.sum l2.sum five,
        )
      where
        five_by : (o a b c d : ℕ) → o ≡ 1 + a → a ≡ 1 + b → b ≡ 1 + c → c ≡ 1 + d → d ≡ 1 → o ≡ 5
        five_by o a b c d e f g h i = omega (arith, e, f, g, h, i)

        seven_by : (x o p : ℕ) → x ≡ 1 + o → o ≡ 1 + p → p ≡ 5 → x ≡ 7
        seven_by x o p e f g = omega (arith, e, f, g)

    -- on with the next line
    goes_on : nat_lt index bound ≡ true → FollowsStep k s laid live entry c v (wrote next a (Some file))
    goes_on h =
        let u = comes.view in
        let at = comes.place in
        let e7 = words_are.3 in
        let taken : is_taken condition.Bltu (reg u.registers (register_number right)) (reg u.registers (register_number left)) ≡ true =
        ap₂ nat_lt comes.holds.2.is comes.holds.1.is ∙ h in
        let code : IsInstructionAt s u.place (Branch condition.Bltu (register_number right) (register_number left) 28) =
        subst (λ z. IsInstructionAt s z (Branch condition.Bltu (register_number right) (register_number left) 28)) (sym at) words_are.0 in
        let near = code_near s u.place (Branch condition.Bltu (register_number right) (register_number left) 28) code in
        let over : ReachesView s 1 u (at_place (u.place + 7) u) =
        go_step s u (Branch condition.Bltu (register_number right) (register_number left) 28) (u.place + 7) code
        (goes_branch_taken s u condition.Bltu (register_number right) (register_number left) 28 (u.place + 7) taken
        (skips (code_start + 4 * u.place) 28 (code_start + 4 * (u.place + 7)) (omega arith) (omega arith) (omega (arith, near)))) in
        lands s n laid m live entry c place named next v young held file a within before agrees k (k1 + 1) (omega (arith, sum, e7)) next
        (at_place (u.place + 7) u) (then_leads s k1 1 v u (at_place (u.place + 7) u) comes.leads over) (omega (arith, at, e7, sum, behind))
        (within_at s laid u young held a c (u.place + 7) comes.holds.0) passes

    -- or the error is in a0
    record Ready (w : View) : Type 0 where
      pub stands : Within s laid w young 0 (dropped 10 held) a c
      pub error : StandsFor s (blocks_by_serial w young) (slice_index w.registers 10) (Word 0x10000000)

    errs : nat_lt index bound ≡ false → LeadsFurther s v (k1 + 2) Ready
    errs h =
        let u = comes.view in
        let at = comes.place in
        let fails : is_taken condition.Bltu (reg u.registers (register_number right)) (reg u.registers (register_number left)) ≡ false =
        ap₂ nat_lt comes.holds.2.is comes.holds.1.is ∙ h in
        let code : IsInstructionAt s u.place (Branch condition.Bltu (register_number right) (register_number left) 28) =
        subst (λ z. IsInstructionAt s z (Branch condition.Bltu (register_number right) (register_number left) 28)) (sym at) words_are.0 in
        let o : View = at_place (u.place + 1) u in
        let next_place : v.place + k1 + 1 ≡ u.place + 1 = omega (arith, at) in
        let code2 : IsInstructionAt s (u.place + 1) (Lui 10 0x10000) = subst (λ z. IsInstructionAt s z (Lui 10 0x10000)) next_place words_are.1 in
        let over : ReachesView s 1 u (at_place (u.place + 1) u) =
        go_step s u (Branch condition.Bltu (register_number right) (register_number left) 28) (u.place + 1) code
        (goes_branch_on s u condition.Bltu (register_number right) (register_number left) 28 fails) in
        let target = target_register held 10 a0_location in
        let set = set_changes s (at_place (u.place + 1) u) (Lui 10 0x10000) 9 (imm_u 0x10000) code2 (inl (λ t. omega (arith, t)))
        (sets_lui s (at_place (u.place + 1) u) 10 0x10000) comes.holds.0.own.are (omega arith) (sext_word-below _ 32) in
        let w = set.view in
        let past = set.past in
        let at' = past.place in
        let inside : Within s laid (at_place (u.place + 1) u) young 0 held a c = within_at s laid u young held a c (u.place + 1) comes.holds.0 in
        record {
          view = set.view;
          leads = then_leads s k1 2 v u w comes.leads (then_leads s 1 1 u (at_place (u.place + 1) u) w over set.leads);
          place = omega (arith, at, at');
          holds = record {
            stands = within_changed s laid (at_place (u.place + 1) u) w young 0 held (dropped 10 held) a c 1 (10 ∷ []) past
                (λ q i. ⊎_elim (λ e. subst IsFree (sym e) target.free) (λ f. absurd f) i) target.less
                (λ e q y i f. ⊎_elim (λ z. target.off y (subst (λ j. dropped 10 held (loc.Machine j) ≡ Some y) z f)) (λ z. absurd z) i) (inl none) inside;
            error = record { is = set.holds ∙ data_upper; known = tt };
          };
        }

    raised_line : nat_lt index bound ≡ false → FollowsStep k s laid live entry c v (on_act place m (record {
      op = lin.Op (op.Leaving (leaving.Checkbound r));
      args = args;
      results = [];
    }) next file a (raise_act place.setting bound_error a))
    raised_line h = by_test (is_complete a && fits place.setting.end ty.Val bound_error) refl
      where
        ready : LeadsFurther s v (k1 + 2) Ready
        ready = errs h

        w : View
        w = ready.view

        here : PartStands s n ready.view.place (ready.view.place + 5) raise_words
        here =
            let at = ready.place in
            let e : v.place + k1 + 1 + 1 ≡ ready.view.place = omega (arith, at) in
            subst (λ z. PartStands s n z (z + 5) raise_words) e words_are.2

        count_is : k1 + 2 + 5 ≤ k
        count_is = let e7 = words_are.3 in omega (arith, e7, sum)

        some : 1 ≤ k1 + 2 + 5
        some = omega arith

        by_tries : (tries : List ℕ) → a.tries ≡ tries → is_complete a ≡ true → FollowsStep k s laid live entry c v (on_act place m (record {
          op = lin.Op (op.Leaving (leaving.Checkbound r));
          args = args;
          results = [];
        }) next file a (raised_by bound_error a tries))
        by_tries [] e whole =
            leads_in 1 k s (k1 + 2 + 5) some count_is v
            (there s n laid ready.view young (dropped 10 held) a c ready.holds.stands (Word 0x10000000) ready.holds.error 5 here)
            (IsDone s c (Threw bound_error a.memory))
            (then_leads s (k1 + 2) 5 v ready.view
            (there s n laid ready.view young (dropped 10 held) a c ready.holds.stands (Word 0x10000000) ready.holds.error 5 here) ready.leads
            (led s n laid ready.view young (dropped 10 held) a c ready.holds.stands (Word 0x10000000) ready.holds.error 5 here))
            (young, thrown_out s n laid ready.view young (dropped 10 held) a c ready.holds.stands (Word 0x10000000) ready.holds.error 5 here whole e)
        by_tries (l ∷ rest) e whole =
            let got = caught s n laid ready.view young (dropped 10 held) a c ready.holds.stands (Word 0x10000000) ready.holds.error 5 here m l rest e
            (handlers l rest e) held (λ j y q. q) in
            leads_in 1 k s (k1 + 2 + 5) some count_is v
            (there s n laid ready.view young (dropped 10 held) a c ready.holds.stands (Word 0x10000000) ready.holds.error 5 here)
            (IsAt s laid live c (record { rest = at_handler m.code a.tries; file = file; around = record a { tries = rest; raised = Some bound_error } }))
            (then_leads s (k1 + 2) 5 v ready.view
            (there s n laid ready.view young (dropped 10 held) a c ready.holds.stands (Word 0x10000000) ready.holds.error 5 here) ready.leads
            (led s n laid ready.view young (dropped 10 held) a c ready.holds.stands (Word 0x10000000) ready.holds.error 5 here))
            (subst (λ ts. IsAt s laid live c (record {
              rest = at_handler m.code ts;
              file = file;
              around = record a {
                tries = rest;
                raised =
                    Some bound_error;
              };
            })
            (there s n laid ready.view young (dropped 10 held) a c ready.holds.stands (Word 0x10000000) ready.holds.error 5 here)) (sym e)
            (young, held, record { others = agrees.others; spare_too = λ q. absurd (dead l rest e q) }, record { place = got.0; within = got.1 }))

        by_test : (t : Bool) → (is_complete a && fits place.setting.end ty.Val bound_error) ≡ t →
            FollowsStep k s laid live entry c v (on_act place m (record {
              op = lin.Op (op.Leaving (leaving.Checkbound r));
              args = args;
              results = [];
            }) next file a (stuck_unless t (raised_by bound_error a a.tries)))
        by_test false e = tt
        by_test true e = by_tries a.tries refl (and_parts (is_complete a) (fits place.setting.end ty.Val bound_error) e).0

    check_by : (t : Bool) → nat_lt index bound ≡ t → FollowsStep k s laid live entry c v (on_act place m (record {
      op = lin.Op (op.Leaving (leaving.Checkbound r));
      args = args;
      results = [];
    }) next file a (cond t (Goes [] On a) (raise_act place.setting bound_error a)))
    check_by true h = goes_on h
    check_by false h = raised_line h

  -- ---- lines

  checked_by : (r : Right) (args : List Spot) (ob oi : Result ℕ Kind) →
      ((bound index : ℕ) → ob ≡ Ok bound → oi ≡ Ok index → FollowsStep k s laid live entry c v (on_act place m (record {
        op = lin.Op (op.Leaving (leaving.Checkbound r));
        args = args;
        results = [];
      }) next file a (cond (nat_lt index bound) (Goes [] On a) (raise_act place.setting bound_error a)))) →
      FollowsStep k s laid live entry c v (on_act place m (record {
        op = lin.Op (op.Leaving (leaving.Checkbound r));
        args = args;
        results = [];
      }) next file a (checked place.setting ob oi a))
  checked_by r args (Ok bound) (Ok index) f = f bound index refl refl
  checked_by r args (Ok bound) (Err kind) f = tt
  checked_by r args (Err kind) (Ok index) f = tt
  checked_by r args (Err kind) (Err other) f = tt

  -- whatever the right operand is
  operands_by : (r : Right) (args : List Spot) (p : Spot) → IsLocation m p.loc → Reads before p.loc → (words : List Piece) (right : Register)
      (holds : Value → Type 0) →
      PartStands s n v.place (v.place + k) (fetch_pieces (length a.tries) T1 p.loc ++ words ++ skip condition.Bltu right (register_of T1 p.loc) 28
      ∷ raise_bound_error) →
      ((at j : ℕ) → PartStands s n at (at + j) words → Seconded s n laid m slots v young held a c none within holds at j right) →
      (bound index : ℕ) → held p.loc ≡ Some (Word bound) → holds (Word index) →
      FollowsStep k s laid live entry c v (on_act place m (record {
        op = lin.Op (op.Leaving (leaving.Checkbound r));
        args = args;
        results = [];
      }) next file a (cond (nat_lt index bound) (Goes [] On a) (raise_act place.setting bound_error a)))
  operands_by r args p at_p reads_p words right holds part second bound index hp hi =
      let one : List Piece = fetch_pieces (length a.tries) T1 p.loc in
      let test : List Piece = skip condition.Bltu right (register_of T1 p.loc) 28 ∷ raise_bound_error in
      let turned : PartStands s n v.place (v.place + k) (one ++ (words ++ test)) =
      subst (PartStands s n v.place (v.place + k)) (append_assoc one words test) part in
      let g1 = counts s n v.place k one (words ++ test) turned in
      let g2 = counts s n (v.place + g1.own) g1.others words test g1.second in
      let e1 = g1.sum in
      let e2 = g2.sum in
      let q : v.place + g1.own + g2.own ≡ v.place + (g1.own + g2.own) = omega arith in
      let comes = both_come s n laid m slots v young held a c none within p.loc at_p g1.own g2.own g1.first holds right
      (second (v.place + g1.own) g2.own g2.first) (Word bound) (Word index) hp hi in
      check_by r args (register_of T1 p.loc) right (g1.own + g2.own) g2.others (omega (arith, e1, e2)) bound index
      (subst (λ z. PartStands s n z (z + g2.others) test) q g2.second) comes (nat_lt index bound) refl

  pub check_line : (p q : Spot) → IsLocation m p.loc → IsLocation m q.loc → Reads before p.loc → Reads before q.loc →
      PartStands s n v.place (v.place + k) (check_part (length a.tries) right.Register (p ∷ q ∷ [])) →
      FollowsStep k s laid live entry c v (step place named m (record {
        rest = record { op = lin.Op (op.Leaving (leaving.Checkbound right.Register)); args = p ∷ q ∷ []; results = [] } ∷ next;
        file = file;
        around = a;
      }))
  check_line p q at_p at_q reads_p reads_q part =
      reads_two place.setting.end file
      (λ vs. FollowsStep k s laid live entry c v (on_values place (named (length next)) m (record {
        op = lin.Op (op.Leaving (leaving.Checkbound right.Register));
        args = p ∷ q ∷ [];
        results = [];
      }) next file a vs)) tt p q
      (λ x y h e i g.
      checked_by right.Register (p ∷ q ∷ []) (word_in x) (word_in y)
      (λ bound index b o.
      operands_by right.Register (p ∷ q ∷ []) p at_p reads_p (fetch_pieces (length a.tries) T2 q.loc) (register_of T2 q.loc) (λ z. held q.loc ≡ Some z) part
      (λ at j pt. second_location s n laid m slots v young held a c none within q.loc at_q at j pt) bound index
      (reads_held before held file p.loc agrees reads_p ∙ h ∙ ap Some (word_of x bound b))
      (reads_held before held file q.loc agrees reads_q ∙ i ∙ ap Some (word_of y index o))))

  pub check_with_line : (w : ℕ) → w < 2 ^ 64 → (p : Spot) → IsLocation m p.loc → Reads before p.loc →
      PartStands s n v.place (v.place + k) (check_part (length a.tries) (right.Constant w) (p ∷ [])) →
      FollowsStep k s laid live entry c v (step place named m (record {
        rest = record { op = lin.Op (op.Leaving (leaving.Checkbound (right.Constant w))); args = p ∷ []; results = [] } ∷ next;
        file = file;
        around = a;
      }))
  check_with_line w small p at_p reads_p part =
      reads_one place.setting.end file
      (λ vs. FollowsStep k s laid live entry c v (on_values place (named (length next)) m (record {
        op = lin.Op (op.Leaving (leaving.Checkbound (right.Constant w)));
        args = p ∷ [];
        results = [];
      }) next file a vs)) tt p
      (λ x h e.
      checked_by (right.Constant w) (p ∷ []) (word_in x) (Ok w)
      (λ bound index b o.
      operands_by (right.Constant w) (p ∷ []) p at_p reads_p (constant_words w) (constant_register w) (λ z. z ≡ Word w) part
      (λ at j pt. second_constant s n laid m slots v young held a c none within w small at j pt) bound index
      (reads_held before held file p.loc agrees reads_p ∙ h ∙ ap Some (word_of x bound b)) (ap Word (sym (same_word o)))))
    where
      same_word : {i j : ℕ} → ◌≡◌ {A = Result ℕ Kind} (Ok i) (Ok j) → i ≡ j
      same_word e = cc
