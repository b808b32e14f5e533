-- Every form: what is ahead at the code of an expression is ahead where the text evaluates it.
use Rattle.std.proofs.Common.{◌≡◌, ℕ, suc, ◌+◌, ◌%◌, ◌<◌, ◌≤◌, Bool, true, false, ◌⊎◌, inl, inr, ⊎_elim, List, [], ◌∷◌, ◌++◌, Option, Some, None, refl, sym, ap, ◌∙◌, subst, arith, append_assoc}
use Rattle.std.specs.Prelude.{nat_le}
use Rattle.std.proofs.lemmas.Bool.{true≢false}
use Rattle.bs_words.specs.declared.operators.IntOp.{IntOp}
use Rattle.bs_words.specs.declared.types.Comp.{Comp}
use Rattle.bs_words.specs.declared.types.Comp.TheVariants as comp
use Rattle.bs_words.specs.declared.types.Ret.{Ret}
use Rattle.bs_words.specs.declared.types.Ret.TheVariants as ret
use Rattle.bs_words.specs.declared.types.Ty.{Ty}
use Rattle.bs_words.specs.declared.types.Ty.TheVariants as ty
use Rattle.bs_fault.specs.Reported.{Faultless, here as one_here}
use Rattle.cmm_tree.specs.Symbols.{DefinedSymbol}
use Rattle.cmm_tree.specs.Tree.{LabelTree, Expression, Integer, Pointer, Symbol, Name, Nothing, Float, Let, Assign, Operator, Load, Store, Alloc, App, Extcall, Checkbound, Raise, Seq, If, Switch, Catch, Exit, Try, Expressions, NoMore, More, Bindings, NoBinding, Bind, Cases, NoCase, Choose, Handlers, NoHandler, Handle}
use Rattle.cmm_types.specs.Faults.{row_length}
use Rattle.cmm_types.specs.Standing.{Visible}
use Rattle.cmm_types.specs.Gathered.{faults_in, row_faults, bindings_faults}
use Rattle.cmm_types.specs.Types.{binding_of, type_of, type_without_float, type_named, type_bound, type_of_result, type_of_last, with_bindings, holds_float, is_mutable}
use Rattle.cmm_types.specs.declared.role.Role.TheVariants as role
use Rattle.cmm_meaning.specs.Evaluation.{is_left_first, comps_of_arguments}
use Rattle.walk_tables.specs.Walks.{Passes, Task, Does, Evaluates, Enters, Raises, Exits, Slotted, names, operand_uses, all_operands, two_expressions, call_tasks, tasks_in_order, bound_at, slot_of, behind_raise, behind_exit}
use Rattle.walk_tables.specs.Walks as walk
use Rattle.mach_ir.specs.declared.mach.Instr.{Instr}
use Rattle.mach_ir.specs.declared.mach.Mach.{Mach}
use Rattle.mach_ir.specs.declared.reg.Reg.{Reg}
use Rattle.selection_rules.specs.Instructions as emit
use Rattle.selection_rules.specs.Select.{operation_shape, unless_left, unless_right, ordered, NamedRegister, Label, scopes, comp_of_type, fresh_register, reg_of, visible_label, regs_of, called_symbol, seat, exit_to_handler, inner_dest, inner_valued, bound_name, env_after, header_offset, chunk_for, width, width_bound, select, select_bound, select_seq, select_waiting, select_filled}
use Rattle.cmm_tree.specs.Measures.{count_of}
use Rattle.selection_rules.proofs.Parts.{WellLabelled}
use Rattle.selection_laws.proofs.Accepting.{left, right}
use Rattle.selection_laws.specs.Fits.{Fits, RowFits, BindingsFit}
use Rattle.selection_walks.proofs.Phases.{Kept, kept_same, kept_then}
use Rattle.selection_walks.proofs.Situations.{hold, hold_same, hold_other, hold_kept, low_none, low_more, same_or, pair, paired_names, paired_more, looked, OutsOf, outs_kept, Sit, quiet_sit, no_among, one_number, out, Wanted, ApartFrom, inner, inner_apart, binding}
use Rattle.selection_walks.proofs.Floats.{has_one}
use Rattle.selection_walks.proofs.Operands.{has_value, waited, all_held, held_row, row_stands, hold_next, Step, nothing, whole, outs_over, Scene, at_more, Claim, of_claim}
use Rattle.selection_walks.proofs.Finals.{IsPlain, ended, used_by, outs_takes, takes_raising, takes_exiting, plain_move, moves_sit}
use Rattle.selection_walks.proofs.Pairs.{power_int, one_arg, coded, single_stands, shape_end}
use Rattle.selection_walks.proofs.Calls.{Waits, Fills, waits_more, fills_more, row_steps, call_steps, call_sit, external_sit}
use Rattle.selection_walks.proofs.Leavings.{ExitTo, exit_seen, exit_sit, takes_sit, plain_constant, cells_sit, header_sit, alloc_sit, raise_sit}
use Rattle.selection_walks.proofs.Names.{inner_below, wanted_typed, name_sit, assign_sit}
use Rattle.selection_walks.proofs.Branches.{Chooses, no_cases, more_cases}
use Rattle.selection_walks.proofs.Handlers.{Handled, no_handlers, more_handlers, catch_form, try_form}
use Rattle.selection_walks.proofs.Conditions.{Shaped, shaped, Tests, operator_test, other_test, if_form, switch_form}
use Rattle.selection_walks.proofs.Accesses.{Bases, whole_base, sum_base, load_form, store_form, checkbound_form}
use Rattle.selection_rules.proofs.Rows.{regs_length, row_count}
use Rattle.std.proofs.lemmas.Option.{same_Some}

int_not : (c : Comp) → c ≡ comp.Int → c ≡ comp.Addr → ⊥
int_not c e q = no (sym e ∙ q)
  where
    no : comp.Int ≡ comp.Addr → ⊥
    no e = cc

same_tasks : {m : Mach} {n k : ℕ} {D : List Reg} {w : Option ℕ} {ts : List ℕ} {labels : List Label} {next : List Instr} {us vs : List Task} → us ≡ vs →
    Sit m n D k w ts labels next us → Sit m n D k w ts labels next vs
same_tasks {m} {n} {k} {D} {w} {ts} {labels} {next} e x = subst (λ os. Sit m n D k w ts labels next os) e x

module _ (m : Mach) (n : ℕ) (defined : List ℕ → Option DefinedSymbol) where
  abbrev Claims : Expression → Type 0
  Claims e = (want : Bool) → Claim m n defined want e

  plain_symbol : (x : List ℕ) (d : Reg) → IsPlain (emit.symbol x d)
  plain_symbol x d = record { on = refl; calm = refl; inside = refl; tries = λ next. refl }

  constant_form : (at u : ℕ) → Claims (Integer at u)
  constant_form place u want k ts w b slot env scope labels vis next tasks valued tail d at ff fits value apart below y =
      quiet_sit m n (walk.evaluates scope slot (Integer place u) tasks) y.outs
      (ended m n want d _ (plain_constant m n u d) refl place slot 0 kept_same (λ a. absurd (no_among m n a)) apart y)

  pointer_form : (at u : ℕ) → Claims (Pointer at u)
  pointer_form place u want k ts w b slot env scope labels vis next tasks valued tail d at ff fits value apart below y =
      quiet_sit m n (walk.evaluates scope slot (Pointer place u) tasks) y.outs
      (ended m n want d _ (plain_constant m n u d) refl place slot 0 kept_same (λ a. absurd (no_among m n a)) apart y)

  symbol_form : (at : ℕ) (x : List ℕ) → Claims (Symbol at x)
  symbol_form place x want k ts w b slot env scope labels vis next tasks valued tail d at ff fits value apart below y =
      quiet_sit m n (walk.evaluates scope slot (Symbol place x) tasks) y.outs
      (ended m n want d _ (plain_symbol x d) refl place slot 0 kept_same (λ a. absurd (no_among m n a)) apart y)

  name_form : (at : ℕ) (x : List ℕ) → Claims (Name at x)
  name_form place x want k ts w b slot env scope labels vis next tasks valued tail d at ff fits value apart below y =
      quiet_sit m n (walk.evaluates scope slot (Name place x) tasks) y.outs
      (name_sit m n want place (inner_dest T b d) (reg_of env x) (slot_of scope x) (binding_of (scopes env) x) (looked x at.paired) ff
      (inner_apart m n T b d at.low apart) (inner m n want T b d value y))
    where
      T : Ty
      T = type_of (scopes env) (Name place x)

  nothing_form : (at : ℕ) → Claims (Nothing at)
  nothing_form place true k ts w b slot env scope labels vis next tasks valued tail d at ff fits value apart below y = absurd (value refl)
  nothing_form place false k ts w b slot env scope labels vis next tasks valued tail d at ff fits value apart below y =
      quiet_sit m n (walk.evaluates scope slot (Nothing place) tasks) y.outs y

  assign_form : (at name_at : ℕ) (x : List ℕ) (e : Expression) → Claim m n defined true e → Claims (Assign at name_at x e)
  assign_form place name_at x e claim true k ts w b slot env scope labels vis next tasks valued tail d at ff fits value apart below y = absurd (value refl)
  assign_form place name_at x e claim false k ts w b slot env scope labels vis next tasks valued tail d at ff fits value apart below y =
      quiet_sit m n (walk.evaluates scope slot (Assign place name_at x e) tasks) y.outs
      (subst (λ sc. Sit m n [] k w ts labels (select env labels valued tail d b (Assign place name_at x e) next)
      (Evaluates scope slot e ∷ (bound_at place (type_named sc x) (slot_of scope x) ++ tasks))) (sym (paired_names at.paired))
      (of_claim m n defined true e claim false false t (at_more m n (omega arith) (omega arith) at) (left (right ff)) fits
      (has_one defined (scopes env) vis e (left (right ff)) (has_value role.Taken tt _ _ (right (right ff)))) away (omega arith)
      (assign_sit m n place (type_named (scopes env) x) t (reg_of env x) (slot_of scope x) (binding_of (scopes env) x) (looked x at.paired) away y)))
    where
      t : Reg
      t = fresh_register (suc b) (type_of (scopes env) e)

      away : ApartFrom m n t w
      away q = low_none at.low (omega (arith, q))

  operator_form : (at : ℕ) (op : IntOp) (l r : Expression) → Claim m n defined true l → Claim m n defined true r → Claims (Operator at op l r)
  operator_form place op l r cl cr want k ts w b slot env scope labels vis next tasks valued tail d at ff fits value apart below y =
      let step = sh.step in
      whole m n (Operator place op l r) (operand_uses place slot 2) refl step y.outs y.outs
      (shape_end m n defined want d' x z place slot step.keeps (inner_apart m n T b d at.low apart)
      (inner m n want T b d (wanted_typed m n want (holds_float (Operator place op l r)) (type_without_float (scopes env) (Operator place op l r)) value) y)
      (operation_shape op l r) op (λ e q. int_not z.comp (power_int op l r (scopes env) e q)) sh.lefts sh.reads)
    where
      T : Ty
      T = type_of (scopes env) (Operator place op l r)

      d' : Reg
      d' = inner_dest T b d

      x : Reg
      x = fresh_register (suc b) (type_of (scopes env) l)

      z : Reg
      z = fresh_register (suc (suc b)) (type_of (scopes env) r)

      sh : Shaped m n defined k ts labels w slot (ordered (is_left_first (scopes env) l r)
          (unless_left (operation_shape op l r) (select env labels false false x (suc (suc (suc b))) l))
          (unless_right (operation_shape op l r) (select env labels false false z (suc (suc (suc b)) + width l) r))) (all_operands scope slot (two_expressions l r))
          (operation_shape op l r) x z
      sh =
          shaped m n defined op l r cl cr (suc (suc (suc b))) (suc (suc (suc b)) + width l) (omega arith) (omega arith)
          (at_more m n (omega arith) (omega arith) at) (left (left ff)) fits.0 (has_value role.Taken tt _ _ (right (left ff))) (left (right ff)) fits.1
          (has_value role.Taken tt _ _ (right (right ff)))
          (operation_shape op l r) refl

  raise_form : (at : ℕ) (e : Expression) → Claim m n defined true e → Claims (Raise at e)
  raise_form place e claim want k ts w b slot env scope labels vis next tasks valued tail d at ff fits value apart below y =
      whole m n (Raise place e) (operand_uses place slot 1 ++ (Raises ∷ []))
      (append_assoc (all_operands scope slot (More e NoMore)) (operand_uses place slot 1) (Raises ∷ []))
      (one_arg m n defined e (omega arith) (at_more m n (omega arith) (omega arith) at)
      (coded m n defined (suc b) slot (suc (suc (suc b))) (slot + 1) e claim (left ff) fits (has_value role.Taken tt _ _ (right ff)))) y.outs y.outs
      (raise_sit m n place slot (fresh_register (suc b) (type_of (scopes env) e)) (seat 0 (suc (suc b)) comp.Val)
      (hold_kept slot (λ q. low_none at.low (omega (arith, q)))) (λ q. single_stands m n defined (suc b) w q)
      (λ q. low_none at.low (omega (arith, q))) y.outs)

  unit_value : (want h : Bool) (result : Ret) → Wanted m n want (type_of_result result) → want ≡ true → result ≡ ret.Unit → ⊥
  unit_value true h result g e q = g (ap type_of_result q)
  unit_value false h result g e q = true≢false (sym e)

  app_form : (at : ℕ) (callee : Expression) (es : Expressions) (result : Ret) (result_at : ℕ) → Claim m n defined true callee → Waits m n defined es →
      Fills m n defined es → Claims (App at callee es result result_at)
  app_form place callee es result result_at claim waits fills want k ts w b slot env scope labels vis next tasks valued tail d at ff fits value apart below y =
      whole m n (App place callee es result result_at) (operand_uses place slot (suc (count_of es)) ++ call_tasks true place) refl
      (call_steps m n defined callee es claim waits fills role.Taken base tt (omega arith) (at_more m n (omega arith) (omega arith) at)
      (left (left (right ff))) fits.1.0 (has_value role.Taken tt _ _ (right (left (right ff)))) (right (right ff)) fits.1.1 (called_symbol callee) refl) y.outs
      (outs_behind y.outs)
      (same_tasks (sym (append_assoc (operand_uses place slot (suc (count_of es))) (call_tasks true place) tasks))
      (call_sit m n defined want place tail (inner_valued valued T) result (called_symbol callee) (fresh_register (suc b) (type_of (scopes env) callee)) env es
      (suc (suc b) + count_of es) (suc (suc b) + count_of es + count_of es) (inner_dest T b d) refl (low_more (omega arith) (omega arith) at.low)
      (omega arith) (omega arith)
      (unit_value want false result value) (inner m n want T b d
      (wanted_typed m n want (holds_float (App place callee es result result_at)) (type_of_result result) value) y)
      (inner_apart m n T b d at.low apart) y.outs))
    where
      T : Ty
      T = type_of (scopes env) (App place callee es result result_at)

      base : ℕ
      base = suc (suc (suc b) + count_of es + count_of es)

      outs_behind : OutsOf m n k w ts labels tasks → OutsOf m n k w ts labels ((operand_uses place slot (suc (count_of es)) ++ call_tasks true place) ++ tasks)
      outs_behind o =
          outs_over m n (ap behind_raise (append_assoc (operand_uses place slot (suc (count_of es))) (call_tasks true place) tasks) ∙ takes_raising place slot
          (suc (count_of es)) (call_tasks true place ++ tasks))
          (λ label. ap (behind_exit label) (append_assoc (operand_uses place slot (suc (count_of es))) (call_tasks true place) tasks) ∙ takes_exiting place slot
          (suc (count_of es)) (call_tasks true place ++ tasks) label) o

  extcall_form : (at : ℕ) (frame : Bool) (name : List ℕ) (es : Expressions) (result : Ret) (result_at : ℕ) → Waits m n defined es → Fills m n defined es →
      Claims (Extcall at frame name es result result_at)
  extcall_form place frame name es result result_at waits fills want k ts w b slot env scope labels vis next tasks valued tail d at ff fits value apart below y =
      whole m n (Extcall place frame name es result result_at) (operand_uses place slot (count_of es) ++ call_tasks frame place) refl
      (row_steps m n defined es waits fills role.Outer (suc (suc b + count_of es + count_of es)) tt (omega arith)
      (at_more m n (omega arith) (omega arith) at) (right ff) fits.1.1) y.outs (outs_behind y.outs)
      (same_tasks (sym (append_assoc (operand_uses place slot (count_of es)) (call_tasks frame place) tasks))
      (external_sit m n defined want place frame name (comps_of_arguments (scopes env) es) result env es (suc b + count_of es)
      (suc b + count_of es + count_of es)
      (inner_dest T b d) (low_more (omega arith) (omega arith) at.low) (omega arith) (omega arith)
      (unit_value want false result value) (inner m n want T b d
      (wanted_typed m n want (holds_float (Extcall place frame name es result result_at)) (type_of_result result) value) y)
      (inner_apart m n T b d at.low apart) (outs_called frame y.outs)))
    where
      T : Ty
      T = type_of (scopes env) (Extcall place frame name es result result_at)

      outs_called : (f : Bool) → OutsOf m n k w ts labels tasks → OutsOf m n k w ts labels (call_tasks f place ++ tasks)
      outs_called true o = o
      outs_called false o = o

      outs_behind : OutsOf m n k w ts labels tasks → OutsOf m n k w ts labels ((operand_uses place slot (count_of es) ++ call_tasks frame place) ++ tasks)
      outs_behind o =
          outs_over m n (ap behind_raise (append_assoc (operand_uses place slot (count_of es)) (call_tasks frame place) tasks) ∙ takes_raising place slot (count_of es)
          (call_tasks frame place ++ tasks))
          (λ label. ap (behind_exit label) (append_assoc (operand_uses place slot (count_of es)) (call_tasks frame place) tasks) ∙ takes_exiting place slot
          (count_of es)
          (call_tasks frame place ++ tasks) label) (outs_called frame o)

  exit_form : (at label_at : ℕ) (label : LabelTree) (es : Expressions) → Waits m n defined es → Fills m n defined es → Claims (Exit at label_at label es)
  exit_form place label_at label es waits fills want k ts w b slot env scope labels vis next tasks valued tail d at ff fits value apart below y =
      whole m n (Exit place label_at label es) (operand_uses place slot (count_of es) ++ (Exits label ∷ [])) refl
      (row_steps m n defined es waits fills role.Taken (suc b + count_of es) tt (omega arith) scene (right ff) fits) y.outs (outs_behind y.outs)
      (same_tasks (sym (append_assoc (operand_uses place slot (count_of es)) (Exits label ∷ []) tasks)) (by (visible_label labels label) x.is))
    where
      scene : Scene m n w (suc b) slot env scope labels vis
      scene = at_more m n (omega arith) (omega arith) at

      x : ExitTo labels label (row_length es)
      x = exit_seen label place label_at (row_length es) at.seen (left ff)

      keeps : Kept w (all_held n (suc b) slot es w)
      keeps = (held_row n (suc b) slot es).kept w scene.low

      by : (o : Option Label) → o ≡ Some x.t → Sit m n [] k (all_held n (suc b) slot es w) ts labels (exit_to_handler o (regs_of env (suc b) es) next) (operand_uses place slot
          (count_of es) ++ (Exits label ∷ tasks))
      by o e =
          subst (λ u. Sit m n [] k (all_held n (suc b) slot es w) ts labels (exit_to_handler u (regs_of env (suc b) es) next)
          (operand_uses place slot (count_of es) ++ (Exits label ∷ tasks))) (sym e)
          (moves_sit m n (regs_of env (suc b) es) x.t.params _ (regs_length env (suc b) es ∙ sym (row_count es) ∙ sym x.arity)
          (takes_sit m n place slot (count_of es) keeps (exit_sit m n label x.t x.is y.outs))
          (λ a. used_by m n (Exits label ∷ tasks) place slot (count_of es) (row_stands env es (suc b) slot w scene.low a)))

      outs_behind : OutsOf m n k w ts labels tasks → OutsOf m n k w ts labels ((operand_uses place slot (count_of es) ++ (Exits label ∷ [])) ++ tasks)
      outs_behind o =
          outs_over m n (ap behind_raise (append_assoc (operand_uses place slot (count_of es)) (Exits label ∷ []) tasks) ∙ takes_raising place slot (count_of es)
          (Exits label ∷ tasks))
          (λ l. ap (behind_exit l) (append_assoc (operand_uses place slot (count_of es)) (Exits label ∷ []) tasks) ∙ takes_exiting place slot (count_of es)
          (Exits label ∷ tasks) l) o

  alloc_form : (at header_at header : ℕ) (es : Expressions) → Waits m n defined es → Fills m n defined es → Claims (Alloc at header_at header es)
  alloc_form place header_at header es waits fills want k ts w b slot env scope labels vis next tasks valued tail d at ff fits value apart below y =
      whole m n (Alloc place header_at header es) (Does (Passes place) ∷ (walk.filled_slots scope free slot es ++ operand_uses place slot (count_of es))) refl wait y.outs
      (outs_behind y.outs)
      (same_tasks (ap (λ us. Does (Passes place) ∷ us) (sym (append_assoc (walk.filled_slots scope free slot es) (operand_uses place slot (count_of es)) tasks)))
      (alloc_sit m n place _ p refl (outs_kept m n wait.keeps (outs_filled y.outs))
      (λ away. header_sit m n header header_offset p q away refl
      (fill.run _ (operand_uses place slot (count_of es) ++ tasks) (outs_kept m n wait.keeps (outs_takes m n tasks place slot (count_of es) y.outs))
      (cells_sit m n (chunk_for (nat_le (header % 256) 250)) p 0 (regs_of env row es) away
      (λ a. used_by m n tasks place slot (count_of es) (row_stands env es row slot w scene.low a))
      (ended m n want d' _ (plain_move m n p d') refl place slot (count_of es) (kept_then wait.keeps fill.keeps) (λ a. absurd (away (one_number m n a)))
      (inner_apart m n T b d at.low apart)
      (inner m n want T b d (wanted_typed m n want (holds_float (Alloc place header_at header es)) ty.Val value) y)))))))
    where
      T : Ty
      T = type_of (scopes env) (Alloc place header_at header es)

      d' : Reg
      d' = inner_dest T b d

      p : Reg
      p = fresh_register (suc b) ty.Val

      q : Reg
      q = fresh_register (suc (suc b)) ty.Int

      row : ℕ
      row = suc (suc (suc b))

      free : ℕ
      free = slot + count_of es

      scene : Scene m n w row slot env scope labels vis
      scene = at_more m n (omega arith) (omega arith) at

      wait : Step m n k ts labels w (waited n (scopes env) row slot es w) (select_waiting env labels row (row + count_of es) es)
          (walk.waiting scope free slot es)
      wait = waits k ts w row slot env scope labels vis role.Taken (row + count_of es) free tt (omega arith) (omega arith) scene (right ff) fits.1.1

      fill : Step m n k ts labels (waited n (scopes env) row slot es w) (all_held n row slot es w) (select_filled env labels row (row + count_of es) es)
          (walk.filled_slots scope free slot es)
      fill = fills k ts w row slot env scope labels vis role.Taken (row + count_of es) free tt (omega arith) (omega arith) scene (right ff) fits.1.1

      outs_filled : OutsOf m n k w ts labels tasks → OutsOf m n k w ts labels (walk.filled_slots scope free slot es ++ (operand_uses place slot (count_of es) ++ tasks))
      outs_filled o = outs_over m n (fill.raising (operand_uses place slot (count_of es) ++ tasks)) (λ l. fill.exiting l (operand_uses place slot (count_of es) ++ tasks))
          (outs_takes m n tasks place slot (count_of es) o)

      outs_behind : OutsOf m n k w ts labels tasks → OutsOf m n k w ts labels
          ((Does (Passes place) ∷ (walk.filled_slots scope free slot es ++ operand_uses place slot (count_of es))) ++ tasks)
      outs_behind o = outs_over m n (ap behind_raise (append_assoc (walk.filled_slots scope free slot es) (operand_uses place slot (count_of es)) tasks)) (λ l. ap
          (behind_exit l) (append_assoc (walk.filled_slots scope free slot es) (operand_uses place slot (count_of es)) tasks)) (outs_filled o)

  -- ---- scopes

  abbrev Lets : Bindings → Type 0
  Lets bs =
      (body : Expression) → Claims body → (want : Bool) (k : ℕ) (ts : List ℕ) (w : Option ℕ) (b j slot : ℕ) (env : List NamedRegister) (scope : List Slotted)
      (labels : List Label) (vis : List Visible) (next : List Instr) (tasks : List Task) (valued tail : Bool) (d : Reg) →
      Scene m n w b slot env scope labels vis → b + width_bound bs ≤ j →
      Faultless (bindings_faults defined (scopes env) vis bs) → BindingsFit (scopes env) bs →
      Faultless (faults_in defined (with_bindings (scopes env) bs) vis body) → Fits (with_bindings (scopes env) bs) body →
      Wanted m n want (type_without_float (with_bindings (scopes env) bs) body) → ApartFrom m n d w → d.number < b →
      Sit m n (out m n want d) k w ts labels next tasks → Sit m n [] k w ts labels (select_bound env labels b bs
      (select (env_after env b bs) labels valued tail d j body next)) (Enters scope slot bs body ∷ tasks)

  no_lets : Lets NoBinding
  no_lets body claim want k ts w b j slot env scope labels vis next tasks valued tail d at lj fb ib ff fits value apart below y =
      quiet_sit m n (walk.enters scope slot NoBinding body tasks) y.outs
      (of_claim m n defined want body (claim want) valued tail d (at_more m n (omega (arith, lj)) (omega arith) at) ff fits value apart
      (omega (arith, below, lj)) y)

  more_lets : (at : ℕ) (name : List ℕ) (declared : Option Rattle.cmm_tree.specs.Tree.Declaration) (e : Expression) (rest : Bindings) →
      Claim m n defined true e → Lets rest → Lets (Bind at name declared e rest)
  more_lets place name declared e rest claim_e others body claim want k ts w b j slot env scope labels vis next tasks valued tail d at lj fb ib ff fits value apart below y =
      quiet_sit m n (walk.enters scope slot (Bind place name declared e rest) body tasks) y.outs
      (of_claim m n defined true e claim_e false false x.reg (at_more m n (omega arith) (omega arith) at) (left (right (left fb))) ib.0
      (has_one defined (scopes env) vis e (left (right (left fb))) (has_value role.Taken tt _ _ (right (right (left fb))))) none (omega arith)
      (binding m n x.reg (type_bound declared (type_of (names scope) e)) slot place kind (λ s q h. let z = at.low s q in let l = z.1 in omega (arith, l, h))
      (hold_other n b slot w) (hold_same n b slot w) y.outs
      (others body claim want k ts (hold n b slot w) (suc (b + width e)) j (suc slot) (x ∷ env) (bound ∷ scope) labels vis next tasks valued tail d scene
      (omega (arith, lj)) (right fb) ib.1 ff fits value
      (λ q. hold_other n b slot w (λ h. omega (arith, q, h, below)) ∙ apart q) (omega (arith, below)) (takes_sit m n 0 0 0 (hold_kept slot none) y))))
    where
      x : NamedRegister
      x = bound_name env b name declared e

      bound : Slotted
      bound = record { scoped = record { name = name; type = type_bound declared (type_of (names scope) e); mutable = is_mutable declared }; slot = slot }

      none : n ≡ b → w ≡ None
      none q = low_none at.low (omega (arith, q))

      kind : x.reg.comp ≡ comp_of_type (type_bound declared (type_of (names scope) e))
      kind = ap (λ sc. comp_of_type (type_bound declared (type_of sc e))) (sym (paired_names at.paired))

      back : hold n b slot w ≡ Some slot → b ≡ n
      back q = ⊎_elim (λ h. sym h) (λ h. let z = at.low slot (sym (hold_other n b slot w h) ∙ q) in let l = z.1 in absurd (omega (arith, l))) (same_or n b)

      values : (s : ℕ) → hold n b slot w ≡ Some s → (w ≡ Some s) ⊎ (slot ≤ s)
      values s q = ⊎_elim (λ h. inr (let i = same_Some slot s (sym (hold_same n b slot w h) ∙ q) in omega (arith, i))) (λ h. inl
          (sym (hold_other n b slot w h) ∙ q)) (same_or n b)

      scene : Scene m n (hold n b slot w) (suc (b + width e)) (suc slot) (x ∷ env) (bound ∷ scope) labels vis
      scene =
          record {
            low = low_more (omega arith) (omega arith) (hold_next at.low);
            paired = pair (ap (λ sc. record { name = name; type = type_bound declared (type_of sc e); mutable = is_mutable declared }) (paired_names at.paired))
                (omega arith) (λ q. hold_same n b slot w (sym q)) back refl (paired_more (omega arith) (hold_kept slot none) values at.paired);
            seen = at.seen;
          }

  let_form : (at : ℕ) (bs : Bindings) (body : Expression) → Claims body → Lets bs → Claims (Let at bs body)
  let_form place bs body claim lets want k ts w b slot env scope labels vis next tasks valued tail d at ff fits value apart below y =
      quiet_sit m n (walk.evaluates scope slot (Let place bs body) tasks) y.outs
      (lets body claim want k ts w (suc b) (suc b + width_bound bs) slot env scope labels vis next tasks (inner_valued valued T) tail (inner_dest T b d)
      (at_more m n (omega arith) (omega arith) at) (omega arith) (left ff) fits.0 (right ff) fits.1 value (inner_apart m n T b d at.low apart)
      (inner_below T b d below)
      (inner m n want T b d (wanted_typed m n want (holds_float (Let place bs body)) (type_without_float (scopes env) (Let place bs body)) value) y))
    where
      T : Ty
      T = type_of (scopes env) (Let place bs body)

  abbrev Seqs : Expressions → Type 0
  Seqs es =
      (want : Bool) (k : ℕ) (ts : List ℕ) (w : Option ℕ) (b slot : ℕ) (env : List NamedRegister) (scope : List Slotted) (labels : List Label) (vis : List Visible)
      (next : List Instr) (tasks : List Task) (valued tail : Bool) (d : Reg) → Scene m n w b slot env scope labels vis →
      Faultless (row_faults role.Visited defined (scopes env) vis es) → RowFits (scopes env) es →
      Wanted m n want (type_of_last (scopes env) es) → ApartFrom m n d w → d.number < b → Sit m n (out m n want d) k w ts labels next tasks →
      Sit m n [] k w ts labels (select_seq env labels valued tail d b es next) (tasks_in_order scope slot es ++ tasks)

  no_seq : Seqs NoMore
  no_seq true k ts w b slot env scope labels vis next tasks valued tail d at ff fits value apart below y = absurd (value refl)
  no_seq false k ts w b slot env scope labels vis next tasks valued tail d at ff fits value apart below y = y

  last_seq : (e : Expression) → Claims e → Seqs (More e NoMore)
  last_seq e claim want k ts w b slot env scope labels vis next tasks valued tail d at ff fits value apart below y =
      of_claim m n defined want e (claim want) valued tail d (at_more m n (omega arith) (omega arith) at) (left (left ff)) fits.0 value apart
      (omega (arith, below)) y

  more_seq : (e h : Expression) (rest : Expressions) → Claims e → Seqs (More h rest) → Seqs (More e (More h rest))
  more_seq e h rest claim others want k ts w b slot env scope labels vis next tasks valued tail d at ff fits value apart below y =
      of_claim m n defined false e (claim false) false false (fresh_register b (type_of (scopes env) e)) (at_more m n (omega arith) (omega arith) at)
      (left (left ff)) fits.0 tt (λ q. low_none at.low (omega (arith, q))) (omega arith)
      (others want k ts w (suc (b + width e)) slot env scope labels vis next tasks valued tail d (at_more m n (omega arith) (omega arith) at)
      (right ff) fits.1 value apart (omega (arith, below)) y)

  seq_form : (at : ℕ) (es : Expressions) → Seqs es → Claims (Seq at es)
  seq_form place es seqs want k ts w b slot env scope labels vis next tasks valued tail d at ff fits value apart below y =
      quiet_sit m n (walk.evaluates scope slot (Seq place es) tasks) y.outs
      (seqs want k ts w (suc b) slot env scope labels vis next tasks (inner_valued valued T) tail (inner_dest T b d)
      (at_more m n (omega arith) (omega arith) at) ff fits value (inner_apart m n T b d at.low apart) (inner_below T b d below)
      (inner m n want T b d (wanted_typed m n want (holds_float (Seq place es)) (type_without_float (scopes env) (Seq place es)) value) y))
    where
      T : Ty
      T = type_of (scopes env) (Seq place es)

  float_form : (at word_at : ℕ) (es : Expressions) → Claims (Float at word_at es)
  float_form place word_at es want k ts w b slot env scope labels vis next tasks valued tail d at ff fits value apart below y = absurd (left ff _ one_here)

  no_waits : Waits m n defined NoMore
  no_waits k ts w b slot env scope labels vis r i free taking li lf at ff fits = nothing m n

  no_fills : Fills m n defined NoMore
  no_fills k ts w b slot env scope labels vis r i free taking li lf at ff fits = nothing m n

  -- ---- all forms

  module _ (labelled : WellLabelled m) where
    mutual
      pub claim : (e : Expression) → Claims e
      claim (Integer at u) = constant_form at u
      claim (Pointer at u) = pointer_form at u
      claim (Symbol at x) = symbol_form at x
      claim (Name at x) = name_form at x
      claim (Nothing at) = nothing_form at
      claim (Float at word_at es) = float_form at word_at es
      claim (Let at bs body) = let_form at bs body (claim body) (lets bs)
      claim (Assign at name_at x e) = assign_form at name_at x e (claim e true)
      claim (Operator at op l r) = operator_form at op l r (claim l true) (claim r true)
      claim (Load at c e) = load_form m n defined at c e (bases e (claim e true))
      claim (Store at c a e) = store_form m n defined at c a e (bases a (claim a true)) (claim e true)
      claim (Alloc at header_at header es) = alloc_form at header_at header es (waits es) (fills es)
      claim (App at callee es result result_at) = app_form at callee es result result_at (claim callee true) (waits es) (fills es)
      claim (Extcall at frame x es result result_at) = extcall_form at frame x es result result_at (waits es) (fills es)
      claim (Checkbound at a e) = checkbound_form m n defined at a e (claim a true) (claim e true)
      claim (Raise at e) = raise_form at e (claim e true)
      claim (Seq at es) = seq_form at es (seqs es)
      claim (If at c a e) = if_form m n defined labelled at c a e (claim c true) (tests c) (claim a) (claim e)
      claim (Switch at size_at size c cs) = switch_form m n defined labelled at size_at size c cs (claim c true) (cases cs)
      claim (Catch at body hs) = catch_form m n defined labelled at body hs (claim body) (handlers hs)
      claim (Exit at label_at label es) = exit_form at label_at label es (waits es) (fills es)
      claim (Try at body name_at x handler) = try_form m n defined labelled at body name_at x handler (claim body) (claim handler)

      bases : (e : Expression) → Claim m n defined true e → Bases m n defined e
      bases (Operator at op base (Integer at' u)) whole = sum_base m n defined at op base at' u (claim base true) whole
      bases e whole = whole_base m n defined e whole (λ env labels t b code next. refl)

      tests : (c : Expression) → Tests m n defined c
      tests (Operator at op l r) = operator_test m n defined at op l r (claim l true) (claim r true)
      tests c = other_test m n defined c (λ env labels l b value next. refl)

      waits : (es : Expressions) → Waits m n defined es
      waits NoMore = no_waits
      waits (More e rest) = waits_more m n defined e rest (claim e true) (waits rest)

      fills : (es : Expressions) → Fills m n defined es
      fills NoMore = no_fills
      fills (More e rest) = fills_more m n defined e rest (claim e true) (fills rest)

      lets : (bs : Bindings) → Lets bs
      lets NoBinding = no_lets
      lets (Bind at name declared e rest) = more_lets at name declared e rest (claim e true) (lets rest)

      seqs : (es : Expressions) → Seqs es
      seqs NoMore = no_seq
      seqs (More e NoMore) = last_seq e (claim e)
      seqs (More e (More h rest)) = more_seq e h rest (claim e) (seqs (More h rest))

      cases : (cs : Cases) → Chooses m n defined labelled cs
      cases NoCase = no_cases m n defined labelled
      cases (Choose indexes body rest) = more_cases m n defined labelled indexes body rest (claim body) (cases rest)

      handlers : (hs : Handlers) → Handled m n defined labelled hs
      handlers NoHandler = no_handlers m n defined labelled
      handlers (Handle at label params body rest) = more_handlers m n defined labelled at label params body rest (claim body) (handlers rest)
