-- A function of one line, which makes 42: what the law asks for holds of it.
use Rattle.std.proofs.Common.{◌≡◌, ℕ, zero, suc, ◌+◌, ◌-◌, false, List, [], ◌∷◌, None, refl, arith, subst, ap, ◌∙◌}
use Rattle.std.specs.List.{Contains}
use Rattle.std.proofs.lemmas.List.Elements.{All-nil, All-cons}
use Rattle.bs_words.specs.Memory.{Memory}
use Rattle.bs_words.specs.declared.types.Comp.TheVariants as comp
use Rattle.bs_words.specs.declared.types.Loc.TheVariants as loc
use Rattle.bs_words.specs.declared.types.Ret.TheVariants as ret
use Rattle.bs_words.proofs.Lists.{none_in}
use Rattle.rv_emit_rules.specs.Constants.{constant_pieces}
use Rattle.rv_emit_rules.specs.Emitted.{part_of_line}
use Rattle.rv_emit_rules.specs.Entry.{FrameLayout}
use Rattle.rv_layout_rules.specs.Words.{NameAddresses}
use Rattle.rv_layout_rules.specs.declared.form.Form.TheVariants.{Near}
use Rattle.mach_ir.specs.declared.op.Calling.TheVariants as calling
use Rattle.mach_ir.specs.declared.op.External.{External}
use Rattle.lin_ir.specs.Formed.{IsLocation, NamesLabel, formed_op, goes_to, is_colour, is_home, pushes}
use Rattle.lin_ir.specs.Meaning.{Locations, NamedAt, step}
use Rattle.lin_ir.specs.declared.lin.Lin.{Lin}
use Rattle.lin_ir.specs.declared.lin.Line.{Line}
use Rattle.lin_ir.specs.declared.lin.LinOp.TheVariants as lin
use Rattle.lin_ir.specs.declared.lin.Spot.{Spot}
use Rattle.mach_ir.specs.Forms.{constant as constant_form}
use Rattle.mach_ir.specs.Runs.{ActivationSetting, entry_around}
use Rattle.mach_ir.specs.Seats.{anywhere}
use Rattle.mach_ir.specs.Walks.{other}
use Rattle.mach_ir.specs.declared.op.Op.TheVariants as op
use Rattle.mach_ir.specs.declared.op.Pure.TheVariants as pure
use Rattle.rv_isa.specs.declared.instr.AluImmOp.TheVariants.{Addi}
use Rattle.rv_isa.specs.declared.instr.Instr.TheVariants.{OpImm}
use Rattle.rv_machine.specs.Hart.{Placed}
use Rattle.lin_machine.specs.Follows.{FollowsStep}
use Rattle.lin_machine.specs.Relation.{Below, Laid, Within}
use Rattle.lin_machine.specs.View.{Fixed, View, IsInstructionAt}
use Rattle.line_stands.specs.Lines.{LineStands}
use Rattle.line_stands.specs.Parts.{PartStands}
use Rattle.line_values.specs.Followed.{plain_pure}
use Rattle.line_values.proofs.Following.{plain_followed}

-- a0, as an int
abbrev a0_int : Spot
a0_int = record { loc = loc.Machine 10; comp = comp.Int }

abbrev makes : Line
makes = record { op = lin.Op (op.Pure (pure.Constant 42)); args = []; results = a0_int ∷ [] }

abbrev one : Lin
one = record { name = []; params = []; result = ret.Unit; slots = 0; code = makes ∷ [] }

-- nothing is named
abbrev pub no_names : NameAddresses
no_names = record { label = λ l. 0; symbol = λ name. 0; external = λ row. 0 }

abbrev pub no_frame : FrameLayout
no_frame = record { bytes = 0; saves = false }

-- t0 is not read
abbrev dead : List Line → Type 0
dead rest = ⊥

module _ (s : Fixed) (at : ℕ) (first : IsInstructionAt s at (OpImm Addi 10 0 42)) where
  abbrev laid : Laid
  laid = record { part = λ n. at + (1 - n); frame = 0; saves = false; slots = 0; handler = λ l. 0; even = refl; room = omega arith }

  abbrev place : ActivationSetting
  place = record { setting = record { end = 0x10000000; symbol = λ name. None; parameters = [] }; below = 0; frame = 0 }

  abbrev empty : Memory
  empty = record { blocks = []; statics = []; roots = [] }

  part : PartStands s no_names (at + (1 - 1)) (at + (1 - 0)) (part_of_line 0 no_frame None makes)
  unfolding constant_pieces
  part =
      let e : at ≡ at + (1 - 1) = omega arith in
      record {
        forms = Near ∷ [];
        has = (((moved e).there, (moved e).fits, tt), tt);
        reach = (omega arith, tt);
        past = omega arith;
      }
    where
      moved : at ≡ at + (1 - 1) → IsInstructionAt s (at + (1 - 1)) (OpImm Addi 10 0 42)
      moved e = subst (λ z. IsInstructionAt s z (OpImm Addi 10 0 42)) e first

  stands : LineStands s laid no_names one place.setting dead [] no_frame None makes []
  stands = record {
    part = part;
    names = record {
      label = λ l i. absurd (none_in _ i);
      within = λ l i. absurd (none_in _ i);
      handler = λ l. refl;
      symbol = λ name v e. absurd (cc);
      external = λ row e. absurd (no_external row e.line e.among e.frame e.is);
    };
    frame = refl;
    saves = refl;
    slots = refl;
    among = (0, omega arith, refl);
    formed = formed_op (constant_form (omega arith));
    offset = tt;
    args = All-nil (λ (p : Spot). IsLocation one p.loc);
    results = All-cons (λ (p : Spot). IsLocation one p.loc) a0_int [] (is_home (is_colour (0, omega arith, refl))) (All-nil (λ
        (p : Spot). IsLocation one p.loc));
    operand_seats = anywhere;
    result_seats = anywhere;
    named = λ l i. absurd (no_label l i);
    handlers = λ l i. absurd (none_in _ i);
    spare = record { reads = λ t i. absurd (none_in _ i); on = λ t i l. absurd l; aside = λ e l i d. d };
  }
    where
      no_external : (row : External) (line : Line) → Contains (makes ∷ []) line → (frame : _) →
          line.op ≡ lin.Op (op.Calling (calling.External row frame)) → ⊥
      no_external row line (zero, l, e) frame is =
          let same : makes.op ≡ lin.Op (op.Calling (calling.External row frame)) = ap (λ (x : Line). x.op) e ∙ is in absurd (cc)
      no_external row line (suc k, l, e) frame is = omega (arith, l)

      no_label : (l : ℕ) → NamesLabel l makes.op → ⊥
      no_label l (goes_to (other i)) = elim i [ ]
      no_label l (pushes e) = absurd (cc)

  -- the line is followed
  pub made : (named : NamedAt) (entry : ℕ → ℕ) (c : Below) (v : View) (young : List Placed) (held : Locations) → v.place ≡ at →
      Within s laid v young 0 held (entry_around empty) c →
      FollowsStep 1 s laid dead entry c v (step place named one (record { rest = makes ∷ []; file = held; around = entry_around empty }))
  unfolding part stands constant_pieces
  made named entry c v young held e within =
      plain_followed s laid no_names one place named dead entry c no_frame None [] makes plain_pure held (entry_around empty) v stands refl
      (young, held, record { others = λ l n. refl; spare_too = λ b. absurd b }, record { place = omega (arith, e); within = within })
