-- A function of two lines, which makes 42 and returns it, from the start of a run on: what the
-- relation asks for holds of it.
use Rattle.std.proofs.Common.{◌≡◌, ℕ, ◌+◌, ◌-◌, ◌*◌, ◌/◌, inl, false, List, [], ◌∷◌, Some, None, slice_index, refl, ap, arith, ◌∙◌, sym, subst, ⊎_elim}
use Rattle.bs_words.specs.Memory.{Memory}
use Rattle.bs_words.specs.Word.{add_word}
use Rattle.bs_words.specs.declared.types.Comp.TheVariants as comp
use Rattle.bs_words.specs.declared.types.Loc.TheVariants as loc
use Rattle.bs_words.specs.declared.values.Value.{Value}
use Rattle.mach_ir.specs.Runs.{ActivationSetting, entry_around}
use Rattle.mach_ir.specs.declared.op.Leaving.TheVariants as leaving
use Rattle.mach_ir.specs.declared.op.Pure.TheVariants as pure
use Rattle.mach_ir.specs.declared.op.Op.TheVariants as op
use Rattle.rv_isa.specs.declared.instr.AluImmOp.TheVariants.{Addi}
use Rattle.rv_isa.specs.declared.instr.Instr.TheVariants.{Jalr, OpImm}
use Rattle.rv_machine.specs.Arithmetic.{imm_i}
use Rattle.rv_machine.specs.Hart.{Placed}
use Rattle.rv_machine.specs.Memory.{code_start}
use Rattle.lin_ir.specs.Meaning.{Locations, NamedAt, assign_spot, step}
use Rattle.lin_ir.specs.declared.lin.LinOp.TheVariants as lin
use Rattle.lin_ir.specs.declared.lin.Lin.{Lin}
use Rattle.lin_ir.specs.declared.lin.Line.{Line}
use Rattle.lin_ir.specs.declared.lin.Spot.{Spot}
use Rattle.lin_machine.specs.Follows.{FollowsStep}
use Rattle.lin_machine.specs.Moments.{AtEntry}
use Rattle.lin_machine.specs.Relation.{Below, Laid, Within}
use Rattle.lin_machine.specs.View.{Fixed, View, IsInstructionAt}
use Rattle.lin_machine.proofs.Endings.{return_value}
use Rattle.lin_machine.proofs.Formats.{sets_imm, sets_jalr}
use Rattle.machine_laws.proofs.Immediates.{low_12, up}
use Rattle.lin_machine.proofs.Jumps.{back_place}
use Rattle.lin_machine.proofs.Operating.{dropped, target_put, target_register}
use Rattle.lin_machine.proofs.Parts.{keep_register}
use Rattle.lin_machine.proofs.Pure.{constant_follows}
use Rattle.lin_machine.proofs.Sequences.{set_changes, sets_as}
use Rattle.lin_machine.proofs.Standing.{a0_location}
use Rattle.lin_machine.proofs.Steps.{at_place, set_to_step}
use Rattle.lin_machine.proofs.Turning.{begins, leaves}

-- a0, as an int
abbrev a0_int : Spot
a0_int = record { loc = loc.Machine 10; comp = comp.Int }

abbrev makes : Line
makes = record { op = lin.Op (op.Pure (pure.Constant 42)); args = []; results = a0_int ∷ [] }

abbrev returns : Line
returns = record { op = lin.Op (op.Leaving leaving.Return); args = a0_int ∷ []; results = [] }

module _ (s : Fixed) (entry : ℕ → ℕ) (place : ActivationSetting) (named : NamedAt) (code : Lin) (at : ℕ) (first : IsInstructionAt s at (OpImm Addi 10 0 42))
    (second : IsInstructionAt s (at + 1) (Jalr 0 1 0)) where
  -- it has no frame
  abbrev laid : Laid
  laid = record {
    part = λ n. at + (2 - n);
    frame = 0;
    saves = false;
    slots = 0;
    handler = λ l. 0;
    even = refl;
    room = omega arith;
  }

  -- t0 is not read
  abbrev live : List Line → Type 0
  live rest = ⊥

  -- where it is entered it begins
  pub begun : (v : View) (young : List Placed) (arguments : List Value) (memory : Memory) (c : Below) → AtEntry s v young at arguments memory c →
      Within s laid v young 0 (λ l. None) (entry_around memory) c
  begun v young arguments memory c e =
      let low = e.waits.low in
      let top = e.top in
      begins s laid v v young at arguments memory c e (omega (arith, low)) (record { are = e.own.are; others = λ q n. refl; memory = refl; blocks = refl })
      (omega (arith, top))
      (λ l. None) (record { register = λ r x h. absurd (cc); slot = λ k x h. absurd (cc) })

  -- the first line
  pub made :
      (v : View) (young : List Placed) (held : Locations) (memory : Memory) (c : Below) → v.place ≡ at → Within s laid v young 0 held (entry_around memory) c →
      FollowsStep 1 s laid live entry c v (step place named code (record { rest = makes ∷ returns ∷ []; file = held; around = entry_around memory }))
  made v young held memory c p within =
      let sum : add_word 0 (imm_i 42) ≡ 42 = ap (add_word 0) (low_12 42 (omega arith)) ∙ up 0 42 42 refl (omega arith) in
      constant_follows s laid live entry c place named code (returns ∷ []) v young held held (entry_around memory) refl within ⊥ (record {
        others = λ l n. refl;
        spare_too = λ b. absurd b;
      }) a0_int (λ b. absurd b)
      10 (dropped 10 held) (target_register held 10 a0_location) (10 ∷ []) (λ q i. ⊎_elim (λ e. inl e) (λ f. absurd f) i) 42 1 0 (omega (arith, p))
      (λ z. keep_register s laid young (entry_around memory) c (dropped 10 held) (assign_spot a0_int z held)
      (v.place + 1) 10 z refl a0_location (target_put a0_int 10 z held refl))
      (set_changes s v (OpImm Addi 10 0 42) 9 42 (subst (λ q. IsInstructionAt s q (OpImm Addi 10 0 42)) (sym p) first) (inl (λ q. omega (arith, q)))
      (sets_as s v (OpImm Addi 10 0 42) 10 _ 42 sum (sets_imm s v Addi 10 0 42)) within.own.are (omega arith) (omega arith))

  -- the second
  pub given_back :
      (v : View) (young : List Placed) (held : Locations) (memory : Memory) (c : Below) → v.place ≡ at + 1 → Within s laid v young 0 held (entry_around memory) c →
      FollowsStep 1 s laid live entry c v (step place named code (record { rest = returns ∷ []; file = held; around = entry_around memory }))
  given_back v young held memory c p within =
      let is = within.waits.back in
      let bh = is.high in
      let to : ℕ = (c.back - 0x10000) / 4 in
      let back : slice_index v.registers 1 ≡ c.back = within.back in
      let target : add_word (slice_index v.registers 1) (imm_i 0) ≡ code_start + 4 * to =
      ap (add_word (slice_index v.registers 1)) (low_12 0 (omega arith)) ∙ up (slice_index v.registers 1) 0 c.back (omega (arith, back)) (omega (arith, bh))
      ∙ sym (back_place c.back is) in
      return_value s laid live entry c place named code [] v young held held (entry_around memory) ⊥ (record {
        others = λ l n. refl;
        spare_too = λ b. absurd b;
      }) a0_int 1 refl
      (λ x h whole. record {
        view = at_place to v;
        leads = set_to_step s v (Jalr 0 1 0) 0 (code_start + 4 * (v.place + 1)) to (subst (λ q. IsInstructionAt s q (Jalr 0 1 0)) (sym p) second)
            (inl (λ q. omega (arith, q))) (sets_jalr s v 0 1 0 to target);
        holds = leaves s laid v (at_place to v) young held (entry_around memory) c within (record {
          are = within.own.are;
          others = λ q n. refl;
          memory = refl;
          blocks = refl;
        })
            (let f = within.frame in omega (arith, f)) refl refl whole (Some x)
            (λ y e. let same : x ≡ y = cc in subst (λ z. held (loc.Machine 10) ≡ Some z) same h) (back_place c.back is);
      })
