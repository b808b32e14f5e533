-- Right operands that are constants where the machine has an immediate for them.
use Rattle.std.proofs.Common.{◌≡◌, ℕ, ◌^◌, ◌<◌, ◌≤◌, Bool, true, false, cond, List, [], ◌∷◌, Some, refl, sym, ap, ◌∙◌, arith}
use Rattle.std.proofs.lemmas.Bool.{true≢false}
use Rattle.bs_words.specs.Memory.{Memory}
use Rattle.bs_words.specs.Operators.{word_in}
use Rattle.bs_words.specs.declared.operators.IntOp.{IntOp}
use Rattle.bs_words.specs.declared.values.Value.{Value}
use Rattle.bs_words.specs.declared.values.Value.TheVariants as value
use Rattle.cmm_tree.specs.Tree.{Expression, Integer}
use Rattle.cmm_types.specs.Types.{type_of}
use Rattle.cmm_meaning.specs.Evaluation.{is_left_first}
use Rattle.cmm_meaning.specs.State.{Here}
use Rattle.meaning_laws.specs.Does.{Leaves, Does}
use Rattle.meaning_laws.specs.Interaction.{Part, with_value, both, does}
use Rattle.cmm_meaning.specs.Setting.{Setting}
use Rattle.mach_ir.specs.Acts.{Around, leaving_act, checked}
use Rattle.mach_ir.specs.Forms.{is_immediate}
use Rattle.mach_ir.specs.Runs.{ActivationSetting, Continues}
use Rattle.mach_ir.specs.Meaning.{State, File, values, with_held}
use Rattle.mach_ir.specs.declared.reg.Reg.{Reg}
use Rattle.mach_ir.specs.declared.mach.Instr.{Instr}
use Rattle.mach_ir.specs.declared.mach.Mach.{Mach}
use Rattle.mach_ir.specs.declared.op.Leaving.TheVariants as leaving
use Rattle.mach_ir.specs.declared.op.Right.{Right}
use Rattle.mach_ir.specs.declared.op.Right.TheVariants as right
use Rattle.selection_rules.specs.Select.{NamedRegister, Label, scopes, fresh_register, ordered, width, bound_test_operand, unless_constant, select}
use Rattle.selection_rules.specs.Instructions.{right_regs}
use Rattle.selection_rules.specs.Follow.{text_setting, FollowsText, pays}
use Rattle.selection_rules.proofs.Files.{Holds, Under, Stands}
use Rattle.selection_rules.proofs.Parts.{Placed, Within, Lower, Stable, stable_inner, at, Level, Outs}
use Rattle.selection_rules.proofs.Operands.{Selected, operand, two, ready_at}

-- what the rule for right operands comes to
pub data RightView (f : IntOp) : Expression → Right → Type 0 where
  by_register : {e : Expression} → RightView f e right.Register
  by_constant : {place w : ℕ} → RightView f (Integer place w) (right.Constant w)

right_if : (f : IntOp) (place w : ℕ) (b : Bool) → RightView f (Integer place w) (cond b (right.Constant w) right.Register)
right_if f place w true = by_constant
right_if f place w false = by_register

pub right_view : (f : IntOp) (e : Expression) → RightView f e (bound_test_operand f e)
right_view f (Integer place w) = right_if f place w (is_immediate f w)
right_view f e = by_register

-- where the operands are: the right one in a register, or nowhere where it is a constant
pub data Operands (x y : Reg) (v : Value) (f : File) : Right → Value → Type 0 where
  in_registers : {w : Value} → Holds x v f → Holds y w f → Operands x y v f right.Register w
  with_constant : {w : ℕ} → Holds x v f → Operands x y v f (right.Constant w) (value.Word w)

-- the values that the operation reads
abbrev pub right_values : Right → Value → Value → List Value
right_values right.Register v w = v ∷ w ∷ []
right_values (right.Constant k) v w = v ∷ []

pub operands_values : {x y : Reg} {v w : Value} {f : File} {r : Right} → Operands x y v f r w → values f (x ∷ right_regs r y) ≡ Some (right_values r v w)
operands_values {x} {y} {v} {w} {f} (in_registers hv hw) =
    ap (λ o. with_held o (with_held (f y.number) (Some []))) hv.is ∙ ap (λ o. with_held (Some (record { comp = x.comp; value = v })) (with_held o (Some []))) hw.is
operands_values (with_constant hv) = ap (λ o. with_held o (Some [])) hv.is

pub checked_act : {x y : Reg} {v w : Value} {f : File} {r : Right} (c : Setting) (a : Around) → Operands x y v f r w →
    leaving_act c (leaving.Checkbound r) (right_values r v w) a ≡ checked c (word_in v) (word_in w) a
checked_act c a (in_registers hv hw) = refl
checked_act c a (with_constant hv) = refl

module _ (c : ActivationSetting) (m : Mach) (turns : ℕ) where
  -- a constant as an operand needs no code
  pub constant_operand : {B : Type 0} (place w : ℕ) (h : Here) (memory : Memory) (go : Value → Here → Memory → Part B) (k : Leaves B → Does) (s : State) → s.around.memory ≡ memory →
      FollowsText c m (go (value.Word w) h memory k) (Continues s) → FollowsText c m (with_value (does (text_setting c) turns (Integer place w) false h memory) go k) (Continues s)
  constant_operand place w h memory go k s same on = pays same on

module _ (c : ActivationSetting) (m : Mach) (turns : ℕ) (ts : List ℕ) where
  -- two operands, the right one by the rule
  pub right_two : {B : Type 0} {env : List NamedRegister} {labels : List Label} {b d : ℕ} {P : File → Type 0} {op : IntOp} {r : Right} (left_first : Bool) (left e : Expression) → RightView op e r → is_left_first (scopes env) left e ≡ left_first →
      Selected c m turns ts left → Selected c m turns ts e → width left < 2 ^ 60 → width e < 2 ^ 60 →
      (nx ny ix iy : ℕ) (next : List Instr) (go : Value → Value → Here → Memory → Part B) (k : Leaves B → Does) → Lower b labels → Under b env → 21 ≤ b → Stable env b d P →
      b ≤ nx → b ≤ ny → nx < ix → ny < iy → nx < iy → ny < ix → (nx ≡ ny → ⊥) →
      ((rest : List Instr) → Within rest (select env labels false false (fresh_register nx (type_of (scopes env) left)) ix left rest)) →
      ((rest : List Instr) → Within rest (select env labels false false (fresh_register ny (type_of (scopes env) e)) iy e rest)) →
      Placed m ts (ordered left_first (select env labels false false (fresh_register nx (type_of (scopes env) left)) ix left) (unless_constant r (select env labels false false (fresh_register ny (type_of (scopes env) e)) iy e)) next) →
      Outs c m turns ts env labels P k → (h : Here) (f : File) (memory : Memory) → Level c m turns ts h → Stands env h.names f → P f →
      ((v w : Value) (h : Here) (f : File) (memory : Memory) → Level c m turns ts h → Stands env h.names f → P f →
      Operands (fresh_register nx (type_of (scopes env) left)) (fresh_register ny (type_of (scopes env) e)) v f r w → FollowsText c m (go v w h memory k) (Continues (at c m turns ts next f memory))) →
      FollowsText c m (both left_first (does (text_setting c) turns left false) (does (text_setting c) turns e false) h memory go k)
      (Continues (at c m turns ts (ordered left_first (select env labels false false (fresh_register nx (type_of (scopes env) left)) ix left) (unless_constant r (select env labels false false (fresh_register ny (type_of (scopes env) e)) iy e)) next) f memory))
  right_two left_first left e by_register is sl sr fl fr nx ny ix iy next go k lower under first stable bx by' xx yy xy yx apart el er ending outs h f memory level s p on =
      two c m turns ts left_first left e sl sr fl fr nx ny ix iy next go k lower under first stable bx by' xx yy xy yx apart el er ending outs h f memory level s p
      (λ v w h f memory level s p fv fw hv hw. on v w h f memory level s p (in_registers hv hw))
  right_two true left e by_constant is sl sr fl fr nx ny ix iy next go k lower under first stable bx by' xx yy xy yx apart el er ending outs h f memory level s p on = absurd (true≢false (sym is))
  right_two {env = env} false left e (by_constant {place = place} {w = w}) is sl sr fl fr nx ny ix iy next go k lower under first stable bx by' xx yy xy yx apart el er ending outs h f memory level s p on =
      constant_operand c m turns place w h memory (λ u h memory. with_value (does (text_setting c) turns left false h memory) (λ v h memory. go v u h memory)) k _ refl
      (operand c m turns ts left sl fl nx ix next (λ v h memory. go v (value.Word w) h memory) k
      (ready_at c m turns ts (type_of (scopes env) left) nx ix lower under first bx xx) (stable_inner nx ix bx (omega (arith, bx, xx)) stable) ending outs h f memory level s p
      (λ v h f memory level s p fv hv. on v (value.Word w) h f memory level s p (with_constant hv)))
