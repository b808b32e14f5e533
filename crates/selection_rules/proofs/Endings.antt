-- The code of a part ends with what follows it.
use Rattle.std.proofs.Common.{ℕ, suc, Bool, true, false, not, cond, List, [], ◌∷◌, Option, Some, None, refl, ap, ◌∙◌}
use Rattle.cmm_tree.specs.Tree.{Expression, Integer, Pointer, Symbol, Name, Nothing, Float, Let, Assign, Operator, Load, Store, Alloc, App, Extcall, Checkbound, Raise, Seq, If, Switch, Catch, Exit, Try, Expressions, NoMore, More, Bindings, NoBinding, Bind, Cases, NoCase, Choose, Handlers, NoHandler, Handle}
use Rattle.bs_words.specs.declared.types.Ret.{Ret}
use Rattle.bs_words.specs.declared.types.Ret.TheVariants as ret
use Rattle.bs_words.specs.declared.types.Chunk.{Chunk}
use Rattle.cmm_types.specs.Light.{is_light_address}
use Rattle.cmm_meaning.specs.Evaluation.{is_left_first}
use Rattle.bs_words.specs.declared.operators.IntOp.{IntOp}
use Rattle.bs_words.specs.declared.operators.IntOp.TheVariants as operators
use Rattle.mach_ir.specs.declared.reg.Reg.{Reg}
use Rattle.mach_ir.specs.declared.mach.Instr.{Instr}
use Rattle.mach_ir.specs.Acts.{drop_tries}
use Rattle.mach_ir.specs.declared.mach.Test.{Test}
use Rattle.mach_ir.specs.declared.op.Right.{Right}
use Rattle.mach_ir.specs.declared.op.Right.TheVariants as right
use Rattle.selection_rules.specs.Select.{OperandShape, InRegisters, ConstantRight, ConstantLeft, PowerRight, rounded, power_code, operator_code, operation_shape, shape_op, shape_right, unless_left, unless_right, NamedRegister, Label, scopes, reg_of, visible_label, move_from, move_to, moves_all, exit_to_handler, ordered, only_when, from_seat, called_symbol, unless_symbol, bound_test_operand, unless_constant, bound_test, comparison, fused_test, select_test, is_based, select_base, call_of, regs_of, select, select_waiting, select_filled, select_bound, select_seq, select_cases, select_handlers, labels_within_try, cell_stores}
use Rattle.mach_laws.specs.Expand.{more}
use Rattle.selection_rules.proofs.Parts.{ending_in, Within, inside_all, inside_more, inside_in}
use Rattle.selection_rules.specs.Instructions as emit
use Rattle.selection_rules.specs.Instructions.{bare_mark}
use Rattle.mach_ir.specs.declared.mach.Mark.TheVariants as mark

abbrev Ends : (List Instr → List Instr) → Type 0
Ends code = (next : List Instr) → Within next (code next)

ending_from : (o : Option Reg) (d : Reg) → Ends (move_from o d)
ending_from None d next = inside_all
ending_from (Some a) d next = inside_more refl inside_all

ending_to : (a : Reg) (o : Option Reg) → Ends (move_to a o)
ending_to a None next = inside_all
ending_to a (Some d) next = inside_more refl inside_all

pub ending_moves : (from to : List Reg) → Ends (moves_all from to)
ending_moves [] to next = inside_all
ending_moves (a ∷ from) [] next = inside_all
ending_moves (a ∷ from) (d ∷ to) next = inside_in (inside_more refl inside_all) (ending_moves from to (emit.move a d ∷ next))

pub ending_exit : (o : Option Label) (from : List Reg) → Ends (exit_to_handler o from)
ending_exit None from next = inside_all
ending_exit (Some t) from next = inside_in (inside_more refl inside_all) (ending_moves from t.params _)

pub ending_ordered : (b : Bool) (left right : List Instr → List Instr) → Ends left → Ends right → Ends (ordered b left right)
ending_ordered true left right l r next = inside_in (r next) (l (right next))
ending_ordered false left right l r next = inside_in (l next) (r (left next))

pub ending_when : (b : Bool) (code : List Instr → List Instr) → Ends code → Ends (only_when b code)
ending_when true code e next = e next
ending_when false code e next = inside_all

pub ending_cells : (k : Chunk) (p : Reg) (i : ℕ) (rs : List Reg) → Ends (cell_stores k p i rs)
ending_cells k p i [] next = inside_all
ending_cells k p i (r ∷ rs) next = inside_more refl (ending_cells k p (suc i) rs next)

pub ending_constant : (r : Right) (code : List Instr → List Instr) → Ends code → Ends (unless_constant r code)
ending_constant right.Register code e next = e next
ending_constant (right.Constant w) code e next = inside_all

ending_tested : {next : List Instr} (o : Option Test) (fused : Test → List Instr) (value : List Instr) → ((t : Test) → Within next (fused t)) → Within next value → Within next (fused_test o fused value)
ending_tested (Some t) fused value f v = f t
ending_tested None fused value f v = v

ending_if : (q : Bool) (one other : List Instr → List Instr) → Ends one → Ends other → (next : List Instr) → Within next (cond q (one next) (other next))
ending_if true one other f g next = f next
ending_if false one other f g next = g next

ending_left : (s : OperandShape) (code : List Instr → List Instr) → Ends code → Ends (unless_left s code)
ending_left InRegisters code e next = e next
ending_left (ConstantRight i) code e next = e next
ending_left (ConstantLeft i) code e next = inside_all
ending_left (PowerRight k) code e next = e next

ending_right : (s : OperandShape) (code : List Instr → List Instr) → Ends code → Ends (unless_right s code)
ending_right InRegisters code e next = e next
ending_right (ConstantRight i) code e next = inside_all
ending_right (ConstantLeft i) code e next = e next
ending_right (PowerRight k) code e next = inside_all

ending_rounded : (k : ℕ) (x y : Reg) → Ends (rounded k x y)
ending_rounded k x y next = inside_more refl (inside_more refl (inside_more refl inside_all))

ending_power : (op : IntOp) (k : ℕ) (x y d : Reg) → Ends (power_code op k x y d)
ending_power operators.Div k x y d next = inside_in (inside_more refl inside_all) (ending_rounded k x y _)
ending_power op k x y d next = inside_in (inside_more refl (inside_more refl (inside_more refl inside_all))) (ending_rounded k x y _)

ending_operator : (s : OperandShape) (op : IntOp) (x y d : Reg) → Ends (operator_code s op x y d)
ending_operator InRegisters op x y d next = inside_more refl inside_all
ending_operator (ConstantRight i) op x y d next = inside_more refl inside_all
ending_operator (ConstantLeft i) op x y d next = inside_more refl inside_all
ending_operator (PowerRight k) op x y d next = ending_power op k x y d next

pub ending_unless : (o : Option (List ℕ)) (code : List Instr → List Instr) → Ends code → Ends (unless_symbol o code)
ending_unless (Some name) code e next = inside_all
ending_unless None code e next = e next

pub ending_from_seat : (n : ℕ) (result : Ret) (d : Reg) → Ends (from_seat n result d)
ending_from_seat n ret.Unit d next = inside_all
ending_from_seat n (ret.Comp c) d next = inside_more refl inside_all

pub call_inside : (tail valued : Bool) (result : Ret) (o : Option (List ℕ)) (f : Reg) (regs : List Reg) (n : ℕ) (d : Reg) → Ends (call_of tail valued result o f regs n d)
call_inside true valued result o f regs n d next = inside_more refl inside_all
call_inside false valued result o f regs n d next = inside_more refl (ending_from_seat n result d next)

-- a try is left where its body ends
try_inside : {l e : ℕ} {next rest body : List Instr} → Within (bare_mark (mark.Leave l e) ∷ rest) body → Within next rest → Within next (bare_mark (mark.Try l) ∷ body)
try_inside x y = record { ending = more (ending_in (more y.ending) x.ending); tries = ap (drop_tries 1) x.tries ∙ y.tries }

mutual
  pub ending_select : (env : List NamedRegister) (labels : List Label) (valued tail : Bool) (d : Reg) (b : ℕ) (e : Expression) → Ends (select env labels valued tail d b e)
  ending_select env labels valued tail d b (Integer at w) next = inside_more refl inside_all
  ending_select env labels valued tail d b (Pointer at w) next = inside_more refl inside_all
  ending_select env labels valued tail d b (Symbol at name) next = inside_more refl inside_all
  ending_select env labels valued tail d b (Name at x) next = ending_from (reg_of env x) _ next
  ending_select env labels valued tail d b (Nothing at) next = inside_all
  ending_select env labels valued tail d b (Let at bindings body) next =
      inside_in (ending_select _ labels _ tail _ _ body next) (ending_bound env labels (suc b) bindings _)
  ending_select env labels valued tail d b (Assign at name_at name e) next =
      inside_in (ending_to _ (reg_of env name) next) (ending_select env labels false false _ _ e _)
  ending_select env labels valued tail d b (Operator at op left right) next =
      inside_in (ending_operator (operation_shape op left right) op _ _ _ next)
      (ending_ordered (is_left_first (scopes env) left right) _ _ (ending_left (operation_shape op left right) _ (ending_select env labels false false _ _ left)) (ending_right (operation_shape op left right) _ (ending_select env labels false false _ _ right)) _)
  ending_select env labels valued tail d b (App at callee arguments result result_at) next =
      inside_in (inside_in (inside_in (inside_in (inside_in (call_inside tail _ _ _ _ _ _ _ next)
      (ending_moves (regs_of env (suc (suc b)) arguments) _ _))
      (ending_when (is_light_address (scopes env) callee) _ (ending_select env labels false false _ _ callee) _))
      (ending_filled env labels _ _ arguments _))
      (ending_when (not (is_light_address (scopes env) callee)) _ (ending_unless (called_symbol callee) _ (ending_select env labels false false _ _ callee)) _))
      (ending_waiting env labels _ _ arguments _)
  ending_select env labels valued tail d b (Extcall at frame name arguments result result_at) next =
      inside_in (inside_in (inside_in (inside_more refl (ending_from_seat _ result _ next)) (ending_moves (regs_of env (suc b) arguments) _ _)) (ending_filled env labels _ _ arguments _)) (ending_waiting env labels _ _ arguments _)
  ending_select env labels valued tail d b (Seq at elements) next = ending_seq env labels _ tail _ _ elements next
  ending_select env labels valued tail d b (If at condition on_true on_false) next =
      inside_in
      (inside_in (inside_more refl (inside_in (inside_more refl inside_all) (ending_select env labels _ tail _ _ on_false _))) (ending_select env labels _ tail _ _ on_true _))
      (ending_test env labels _ _ condition _ _ (inside_in (inside_more refl inside_all) (ending_select env labels false false _ _ condition _)))
  ending_select env labels valued tail d b (Catch at body handlers) next =
      inside_more refl (inside_in (inside_in (inside_more refl inside_all) (ending_handlers env _ _ tail _ _ _ _ handlers _)) (ending_select env _ _ tail _ _ body _))
  ending_select env labels valued tail d b (Exit at label_at label arguments) next =
      inside_in (inside_in (ending_exit (visible_label labels label) _ next) (ending_filled env labels _ _ arguments _)) (ending_waiting env labels _ _ arguments _)
  ending_select env labels valued tail d b (Float at word_at operands) next = inside_all
  ending_select env labels valued tail d b (Alloc at header_at header operands) next =
      inside_in
      (inside_more refl (inside_more refl (inside_more refl
      (inside_in (inside_in (inside_more refl inside_all) (ending_cells _ _ 0 (regs_of env (suc (suc (suc b))) operands) _)) (ending_filled env labels _ _ operands _)))))
      (ending_waiting env labels _ _ operands _)
  ending_select env labels valued tail d b (Load at chunk address) next = inside_in (inside_more refl inside_all) (ending_base env labels _ _ address _ (ending_select env labels false false _ _ address) _)
  ending_select env labels valued tail d b (Store at chunk address e) next =
      inside_in (inside_more refl inside_all)
      (ending_ordered (is_left_first (scopes env) address e) _ _ (ending_base env labels _ _ address _ (ending_select env labels false false _ _ address)) (ending_select env labels false false _ _ e) _)
  ending_select env labels valued tail d b (Checkbound at bound index) next =
      inside_in (inside_more refl inside_all)
      (ending_ordered (is_left_first (scopes env) bound index) _ _ (ending_select env labels false false _ _ bound) (ending_constant (bound_test_operand bound_test index) _ (ending_select env labels false false _ _ index)) _)
  ending_select env labels valued tail d b (Raise at e) next = inside_in (inside_more refl (inside_more refl inside_all)) (ending_select env labels false false _ _ e _)
  ending_select env labels valued tail d b (Switch at size_at size selector cases) next =
      inside_in (inside_more refl (inside_in (inside_more refl inside_all) (ending_cases env labels _ tail _ _ _ _ _ cases _))) (ending_select env labels false false _ _ selector _)
  ending_select env labels valued tail d b (Try at body name_at name handler) next =
      let end = ending_select _ labels _ tail _ _ handler _ in
      try_inside (ending_select env (labels_within_try labels) _ false _ _ body _) (inside_more refl (inside_more refl (inside_in (inside_more refl inside_all) end)))

  pub ending_base : (env : List NamedRegister) (labels : List Label) (t b : ℕ) (e : Expression) (whole : List Instr → List Instr) → Ends whole → Ends (select_base env labels t b e whole)
  ending_base env labels t b (Operator at op base (Integer at' w)) whole inside next = ending_if (is_based op w) _ whole (ending_select env labels false false _ _ base) inside next
  ending_base env labels t b e whole inside next = inside next

  pub ending_test : (env : List NamedRegister) (labels : List Label) (l b : ℕ) (e : Expression) (value next : List Instr) → Within next value → Within next (select_test env labels l b e value next)
  ending_test env labels l b (Operator at op left right) value next inside =
      let s = operation_shape op left right in
      ending_tested (comparison (shape_op s op) (shape_right s)) _ value
      (λ t. inside_in (inside_more refl inside_all)
      (ending_ordered (is_left_first (scopes env) left right) _ _ (ending_left s _ (ending_select env labels false false _ _ left)) (ending_right s _ (ending_select env labels false false _ _ right)) _))
      inside
  ending_test env labels l b e value next inside = inside

  pub ending_cases : (env : List NamedRegister) (labels : List Label) (valued tail : Bool) (d : Reg) (all : List ℕ) (end l b : ℕ) (cs : Cases) → Ends (select_cases env labels valued tail d all end l b cs)
  ending_cases env labels valued tail d all end l b NoCase next = inside_all
  ending_cases env labels valued tail d all end l b (Choose indexes body rest) next =
      inside_more refl (inside_in (ending_cases env labels valued tail d all end _ _ rest next) (ending_select env labels valued tail d b body _))

  pub ending_waiting : (env : List NamedRegister) (labels : List Label) (b i : ℕ) (es : Expressions) → Ends (select_waiting env labels b i es)
  ending_waiting env labels b i NoMore next = inside_all
  ending_waiting env labels b i (More e rest) next =
      inside_in (ending_when (not (is_light_address (scopes env) e)) _ (ending_select env labels false false _ i e) next) (ending_waiting env labels _ _ rest _)

  pub ending_filled : (env : List NamedRegister) (labels : List Label) (b i : ℕ) (es : Expressions) → Ends (select_filled env labels b i es)
  ending_filled env labels b i NoMore next = inside_all
  ending_filled env labels b i (More e rest) next =
      inside_in (ending_when (is_light_address (scopes env) e) _ (ending_select env labels false false _ i e) next) (ending_filled env labels _ _ rest _)

  pub ending_bound : (env : List NamedRegister) (labels : List Label) (b : ℕ) (bs : Bindings) → Ends (select_bound env labels b bs)
  ending_bound env labels b NoBinding next = inside_all
  ending_bound env labels b (Bind at name declared e rest) next =
      inside_in (ending_bound _ labels _ rest next) (ending_select env labels false false _ _ e _)

  pub ending_seq : (env : List NamedRegister) (labels : List Label) (valued tail : Bool) (d : Reg) (b : ℕ) (es : Expressions) → Ends (select_seq env labels valued tail d b es)
  ending_seq env labels valued tail d b NoMore next = inside_all
  ending_seq env labels valued tail d b (More e NoMore) next = ending_select env labels valued tail d (suc b) e next
  ending_seq env labels valued tail d b (More e (More g rest)) next =
      inside_in (ending_seq env labels valued tail d _ (More g rest) next) (ending_select env labels false false _ _ e _)

  pub ending_handlers : (env : List NamedRegister) (labels : List Label) (valued tail : Bool) (d : Reg) (end l b : ℕ) (hs : Handlers) → Ends (select_handlers env labels valued tail d end l b hs)
  ending_handlers env labels valued tail d end l b NoHandler next = inside_all
  ending_handlers env labels valued tail d end l b (Handle at label params body rest) next =
      inside_more refl (inside_in (ending_handlers env labels valued tail d end _ _ rest next) (ending_select _ labels valued tail d b body _))
