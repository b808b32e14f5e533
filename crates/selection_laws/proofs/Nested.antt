-- Labels of selected code are where control comes to them, and its tries nest.
use Rattle.std.proofs.Common.{◌≡◌, ℕ, zero, suc, ◌+◌, ◌<◌, ◌≤◌, length, Bool, true, false, not, cond, ◌⊎◌, inl, inr, List, [], ◌∷◌, ◌++◌, map, Option, Some, None, refl, sym, ap, ◌∙◌, subst, arith}
use Rattle.std.specs.Prelude.{Contains, nat_eq}
use Rattle.std.proofs.lemmas.Bool.{true≢false, eq-eqb, cases_lt}
use Rattle.bs_words.specs.declared.types.Chunk.{Chunk}
use Rattle.bs_words.specs.declared.types.Ret.{Ret}
use Rattle.bs_words.specs.declared.types.Ret.TheVariants as ret
use Rattle.bs_words.specs.declared.types.Ty.{Ty}
use Rattle.cmm_tree.specs.Tree.{LabelTree, same_label, is_bare, FunctionTree, Expression, Integer, Pointer, Symbol, Name, Nothing, Float, Let, Assign, Operator, Load, Store, Alloc, App, Extcall, Checkbound, Raise, Seq, If, Switch, Catch, Exit, Try, Expressions, NoMore, More, Bindings, NoBinding, Bind, Cases, NoCase, Choose, Handlers, NoHandler, Handle}
use Rattle.cmm_types.proofs.Containing.{contains_none, contains_cases}
use Rattle.cmm_types.specs.Light.{is_light_address}
use Rattle.cmm_types.specs.Types.{type_of, result_of, body_type}
use Rattle.cmm_meaning.specs.Choices.{is_named}
use Rattle.cmm_meaning.specs.Evaluation.{is_left_first}
use Rattle.mach_ir.specs.Acts.{On, At, drop_tries, falls_through, leaves_function}
use Rattle.mach_ir.specs.Formed.{TargetsLabel, LabelOccursIn, place_here, place_below, HasHandler, handler_here, is_exit, LabelsStand, tries_left, leaves, IsNested, indexes_to_label}
use Rattle.mach_ir.specs.Meaning.{has_label, is_handler_of, tries_at}
use Rattle.mach_ir.specs.Walks.{OneOf, this, other, targets, StandsAsInstr, here, below}
use Rattle.mach_ir.specs.declared.mach.Instr.{Instr}
use Rattle.mach_ir.specs.declared.mach.Mark.{Mark}
use Rattle.mach_ir.specs.declared.mach.Mark.TheVariants as mark
use Rattle.mach_ir.specs.declared.mach.MachOp.{MachOp}
use Rattle.mach_ir.specs.declared.mach.MachOp.TheVariants as mach
use Rattle.mach_ir.specs.declared.mach.Test.{Test}
use Rattle.mach_ir.specs.declared.mach.Test.TheVariants as test
use Rattle.mach_ir.specs.declared.op.Op.{Op}
use Rattle.bs_words.specs.declared.operators.IntOp.{IntOp}
use Rattle.bs_words.specs.declared.operators.IntOp.TheVariants as operator
use Rattle.mach_ir.specs.declared.reg.Reg.{Reg}
use Rattle.selection_rules.specs.Instructions.{bare_mark}
use Rattle.selection_rules.specs.Instructions as emit
use Rattle.selection_rules.specs.Select.{Code, OperandShape, InRegisters, ConstantRight, ConstantLeft, PowerRight, rounded, power_code, operator_code, operation_shape, shape_op, shape_right, shape_args, NamedRegister, Label, scopes, reg_of, visible_label, move_from, move_to, moves_all, exit_to_handler, from_seat, called_symbol, bound_test_operand, bound_test, comparison, fused_test, select_test, is_based, select_base, call_of, callee_regs, bound_name, width, width_labels, inner_dest, inner_valued, regs_of, select, select_waiting, select_filled, select_bound, select_seq, select_cases, select_handlers, labels_within_try, unless_bare_mark, in_handlers, labels_from, count_cases, label_of_last_case, switch_labels, cell_stores, to_seat, selected, first_after_colours, params_from, with_params, is_no_value, fresh_register, seats, result_seat}
use Rattle.selection_rules.proofs.Exits.{scopes_params, scopes_after}
use Rattle.mach_laws.specs.Expand.{Ending, all, more}
use Rattle.mach_laws.proofs.Places.{ending_next, ending_of}
use Rattle.mach_laws.proofs.Raised.{no_label_next}
use Rattle.selection_rules.proofs.Parts.{ending_in, Within, inside_all, inside_more, inside_in}
use Rattle.selection_rules.proofs.Endings.{ending_select, ending_handlers, ending_cases}
use Rattle.selection_rules.proofs.Labels.{selected_labelled}
use Rattle.selection_rules.proofs.Once.{Range}
use Rattle.selection_laws.specs.Fits.{HasCase, Fits, RowFits, BindingsFit, CasesFit, HandlersFit, FunctionFits}
use Rattle.selection_rules.proofs.Choices.{kept_when, kept_unless, kept_constant, kept_left, kept_right, kept_if, kept_ordered}

-- the mark of a label is in a code, and these tries are round the place after it
pub record Found (l : ℕ) (ts : List ℕ) (code : List Instr) : Type 0 where
  pub at : Instr
  pub rest : List Instr
  pub there : Ending (at ∷ rest) code
  pub has : has_label l at.op ≡ true
  pub tries : tries_at rest ≡ ts

-- a handler is in a code, within these tries
pub record Handled (l : ℕ) (ts : List ℕ) (code : List Instr) : Type 0 where
  pub at : Instr
  pub rest : List Instr
  pub there : Ending (at ∷ rest) code
  pub handles : is_handler_of l at.op ≡ true
  pub tries : tries_at (at ∷ rest) ≡ ts

pub found_in : {l : ℕ} {ts : List ℕ} {a b : List Instr} → Ending a b → Found l ts a → Found l ts b
found_in e f = record { at = f.at; rest = f.rest; there = ending_in f.there e; has = f.has; tries = f.tries }

-- the handler of each of these tries is in a code
pub data Caught (code : List Instr) : List ℕ → Type 0 where
  uncaught : Caught code []
  caught : {l : ℕ} {ts : List ℕ} → Handled l ts code → Caught code ts → Caught code (l ∷ ts)

caught_handler : {code : List Instr} {l : ℕ} {ts : List ℕ} → Caught code (l ∷ ts) → Handled l ts code
caught_handler (caught h c) = h

-- the case that a switch takes to a label is in a code
pub record Taken (l : ℕ) (labels : List ℕ) (ts : List ℕ) (code : List Instr) : Type 0 where
  pub end : ℕ
  pub rest : List Instr
  pub there : Ending (bare_mark (mark.Case (indexes_to_label l 0 labels) l end) ∷ rest) code
  pub tries : tries_at rest ≡ ts

-- a switch is in a code that takes these indexes to a label
pub record Chosen (l : ℕ) (indexes : List ℕ) (code : List Instr) : Type 0 where
  pub labels : List ℕ
  pub index : Reg
  pub rest : List Instr
  pub there : Ending (emit.choose labels index ∷ rest) code
  pub is : indexes ≡ indexes_to_label l 0 labels

taken_in : {l : ℕ} {labels ts : List ℕ} {a b : List Instr} → Ending a b → Taken l labels ts a → Taken l labels ts b
taken_in e f = record { end = f.end; rest = f.rest; there = ending_in f.there e; tries = f.tries }

abbrev is_choice : MachOp → Bool
is_choice (mach.Mark (mark.Switch labels)) = true
is_choice (mach.Mark (mark.Case indexes l end)) = true
is_choice _ = false

abbrev is_try : MachOp → Bool
is_try (mach.Mark (mark.Try l)) = true
is_try _ = false

abbrev is_leave : MachOp → Bool
is_leave (mach.Mark (mark.Leave l end)) = true
is_leave _ = false

-- what is to hold of an instruction before this code, in the code of a function
pub record IsKept (whole : List Instr) (i : Instr) (next : List Instr) : Type 0 where
  pub lands : (l : ℕ) → TargetsLabel i.op l → is_exit i.op ≡ false → Found l (tries_left i.op (tries_at (i ∷ next))) next
  pub exits : (l : ℕ) → TargetsLabel i.op l → is_exit i.op ≡ true → Found l (tries_left i.op (tries_at (i ∷ next))) whole
  pub handles : (l end : ℕ) → i.op ≡ mach.Mark (mark.Leave l end) → HasHandler l next
  pub pushed : (l : ℕ) → i.op ≡ mach.Mark (mark.Try l) → tries_at next ≡ l ∷ tries_at (i ∷ next)
  pub handled : (l : ℕ) → i.op ≡ mach.Mark (mark.Try l) → Handled l (tries_at (i ∷ next)) whole
  pub ends : (l n : ℕ) → i.op ≡ mach.Mark (mark.Exit l n) → n ≤ length (tries_at (i ∷ next))
  pub catches : Caught whole (tries_at (i ∷ next))
  pub left : leaves i.op ≡ true → tries_at (i ∷ next) ≡ []
  pub takes : (labels : List ℕ) → i.op ≡ mach.Mark (mark.Switch labels) → (l : ℕ) → Contains labels l → Taken l labels (tries_at (i ∷ next)) next
  pub taken : (indexes : List ℕ) (l end : ℕ) → i.op ≡ mach.Mark (mark.Case indexes l end) → Chosen l indexes whole

pub data AllKept (whole : List Instr) : List Instr → Type 0 where
  none : AllKept whole []
  one : {i : Instr} {next : List Instr} → IsKept whole i next → AllKept whole next → AllKept whole (i ∷ next)

pub kept_of : {whole code : List Instr} → AllKept whole code → (i : Instr) (next : List Instr) → StandsAsInstr i next code → IsKept whole i next
kept_of none i next s = elim s [ ]
kept_of (one x xs) i next here = x
kept_of (one x xs) i next (below s) = kept_of xs i next s

none_on : (l : ℕ) → OneOf (At l) (On ∷ []) → ⊥
none_on l (other o) = elim o [ ]

one_target : (l k : ℕ) → OneOf (At l) (At k ∷ []) → k ≡ l
one_target l k this = refl
one_target l k (other o) = elim o [ ]

self : (l : ℕ) → nat_eq l l ≡ true
self l = eq-eqb l l refl

module _ (whole : List Instr) where
  -- an instruction that is no exit, no mark of a try, and does not leave the function
  goes : (i : Instr) (next : List Instr) → is_exit i.op ≡ false → is_leave i.op ≡ false → is_try i.op ≡ false → leaves i.op ≡ false → Caught whole (tries_at (i ∷ next)) →
      ((l : ℕ) → TargetsLabel i.op l → Found l (tries_left i.op (tries_at (i ∷ next))) next) →
      ((labels : List ℕ) → i.op ≡ mach.Mark (mark.Switch labels) → (l : ℕ) → Contains labels l → Taken l labels (tries_at (i ∷ next)) next) →
      ((indexes : List ℕ) (l end : ℕ) → i.op ≡ mach.Mark (mark.Case indexes l end) → Chosen l indexes whole) → IsKept whole i next
  goes i next no_exit no_leave no_try stays c lands takes taken =
      record {
        lands = λ l o _. lands l o;
        exits = λ l o e. absurd (true≢false (sym e ∙ no_exit));
        handles = λ l end e. absurd (true≢false (sym (ap is_leave e) ∙ no_leave));
        pushed = λ l e. absurd (true≢false (sym (ap is_try e) ∙ no_try));
        handled = λ l e. absurd (true≢false (sym (ap is_try e) ∙ no_try));
        ends = λ l n e. absurd (true≢false (sym (ap is_exit e) ∙ no_exit));
        catches = c;
        left = λ e. absurd (true≢false (sym e ∙ stays));
        takes = takes;
        taken = taken;
      }

  plain : (i : Instr) (next : List Instr) → is_exit i.op ≡ false → is_leave i.op ≡ false → is_try i.op ≡ false → leaves i.op ≡ false → is_choice i.op ≡ false → Caught whole (tries_at (i ∷ next)) →
      ((l : ℕ) → TargetsLabel i.op l → Found l (tries_left i.op (tries_at (i ∷ next))) next) → IsKept whole i next
  plain i next no_exit no_leave no_try stays no_choice c lands =
      goes i next no_exit no_leave no_try stays c lands (λ labels e. absurd (true≢false (sym (ap is_choice e) ∙ no_choice))) (λ indexes l end e. absurd (true≢false (sym (ap is_choice e) ∙ no_choice)))

  kept_op : (f : Op) (args results : List Reg) (next : List Instr) → leaves_function f ≡ false → Caught whole (tries_at next) → IsKept whole (emit.operation_instr f args results) next
  kept_op f args results next stays c = plain _ next refl refl refl stays refl c (λ l o. absurd (no_label_next (falls_through f) l o))

  kept_leaving : (f : Op) (args results : List Reg) (next : List Instr) → tries_at next ≡ [] → IsKept whole (emit.operation_instr f args results) next
  kept_leaving f args results next e =
      record {
        lands = λ l o _. absurd (no_label_next (falls_through f) l o);
        exits = λ l o e. absurd (true≢false (sym e));
        handles = λ l end e. absurd (true≢false (sym (ap is_leave e)));
        pushed = λ l e. absurd (true≢false (sym (ap is_try e)));
        handled = λ l e. absurd (true≢false (sym (ap is_try e)));
        ends = λ l n e. absurd (true≢false (sym (ap is_exit e)));
        catches = subst (Caught whole) (sym e) uncaught;
        left = λ _. e;
        takes = λ labels e. absurd (true≢false (sym (ap is_choice e)));
        taken = λ indexes n stop e. absurd (true≢false (sym (ap is_choice e)));
      }

  -- code within these tries
  pub record Walks (ts : List ℕ) (code : Code) : Type 0 where
    pub within : (next : List Instr) → Within next (code next)
    pub kept : (next : List Instr) → tries_at next ≡ ts → Ending (code next) whole → AllKept whole next → AllKept whole (code next)

  idle : {ts : List ℕ} → Walks ts (λ next. next)
  idle = record { within = λ next. inside_all; kept = λ next e end z. z }

  then : {ts : List ℕ} {a b : Code} → Walks ts a → Walks ts b → Walks ts (λ next. a (b next))
  then {a = a} {b = b} x y =
      record {
        within = λ next. inside_in (y.within next) (x.within (b next));
        kept = λ next e end z.
            let inner = y.within next in
            let outer = x.within (b next) in
            x.kept (b next) (inner.tries ∙ e) end (y.kept next e (ending_in outer.ending end) z);
      }

  step : {ts : List ℕ} (i : Instr) → ((next : List Instr) → tries_at (i ∷ next) ≡ tries_at next) → ((next : List Instr) → tries_at next ≡ ts → IsKept whole i next) → Walks ts (λ next. i ∷ next)
  step i same is = record { within = λ next. inside_more (same next) inside_all; kept = λ next e end z. one (is next e) z }

  op_step : {ts : List ℕ} → Caught whole ts → (f : Op) (args results : List Reg) → leaves_function f ≡ false → Walks ts (λ next. emit.operation_instr f args results ∷ next)
  op_step c f args results stays = step (emit.operation_instr f args results) (λ next. refl) (λ next e. kept_op f args results next stays (subst (Caught whole) (sym e) c))

  walks_from : {ts : List ℕ} → Caught whole ts → (o : Option Reg) (d : Reg) → Walks ts (move_from o d)
  walks_from c None d = idle
  walks_from c (Some a) d = op_step c _ (a ∷ []) (d ∷ []) refl

  walks_to : {ts : List ℕ} → Caught whole ts → (a : Reg) (o : Option Reg) → Walks ts (move_to a o)
  walks_to c a None = idle
  walks_to c a (Some d) = op_step c _ (a ∷ []) (d ∷ []) refl

  walks_moves : {ts : List ℕ} → Caught whole ts → (from to : List Reg) → Walks ts (moves_all from to)
  walks_moves c [] to = idle
  walks_moves c (a ∷ from) [] = idle
  walks_moves c (a ∷ from) (d ∷ to) = then (walks_moves c from to) (op_step c _ (a ∷ []) (d ∷ []) refl)

  walks_cells : {ts : List ℕ} → Caught whole ts → (k : Chunk) (p : Reg) (i : ℕ) (rs : List Reg) → Walks ts (cell_stores k p i rs)
  walks_cells c k p i [] = idle
  walks_cells c k p i (r ∷ rs) = then (op_step c _ (p ∷ r ∷ []) [] refl) (walks_cells c k p (suc i) rs)

  walks_from_seat : {ts : List ℕ} → Caught whole ts → (n : ℕ) (result : Ret) (d : Reg) → Walks ts (from_seat n result d)
  walks_from_seat c n ret.Unit d = idle
  walks_from_seat c n (ret.Comp k) d = op_step c _ _ (d ∷ []) refl

  walks_rounded : {ts : List ℕ} → Caught whole ts → (k : ℕ) (x y : Reg) → Walks ts (rounded k x y)
  walks_rounded c k x y = then (op_step c _ (x ∷ []) (y ∷ []) refl) (then (op_step c _ (y ∷ []) (y ∷ []) refl) (op_step c _ (x ∷ y ∷ []) (y ∷ []) refl))

  walks_power : {ts : List ℕ} → Caught whole ts → (op : IntOp) (k : ℕ) (x y d : Reg) → Walks ts (power_code op k x y d)
  walks_power c operator.Div k x y d = then (walks_rounded c k x y) (op_step c _ (y ∷ []) (d ∷ []) refl)
  walks_power c op k x y d =
      then (walks_rounded c k x y) (then (op_step c _ (y ∷ []) (y ∷ []) refl) (then (op_step c _ (y ∷ []) (y ∷ []) refl) (op_step c _ (x ∷ y ∷ []) (d ∷ []) refl)))

  walks_operator : {ts : List ℕ} → Caught whole ts → (s : OperandShape) (op : IntOp) (x y d : Reg) → Walks ts (operator_code s op x y d)
  walks_operator c InRegisters op x y d = op_step c _ (x ∷ y ∷ []) (d ∷ []) refl
  walks_operator c (ConstantRight i) op x y d = op_step c _ (x ∷ []) (d ∷ []) refl
  walks_operator c (ConstantLeft i) op x y d = op_step c _ (y ∷ []) (d ∷ []) refl
  walks_operator c (PowerRight k) op x y d = walks_power c op k x y d

  -- ---- labels

  -- the label of a handler in scope is in the code
  data FoundOne (ts : List ℕ) : Option Label → Type 0 where
    no_label : FoundOne ts None
    a_label : {t : Label} → Found t.number (drop_tries t.tries ts) whole → t.tries ≤ length ts → FoundOne ts (Some t)

  pub data AllFound (ts : List ℕ) : List Label → Type 0 where
    nil : AllFound ts []
    cons : {t : Label} {labels : List Label} → Found t.number (drop_tries t.tries ts) whole → t.tries ≤ length ts → AllFound ts labels → AllFound ts (t ∷ labels)

  found_one : {ts : List ℕ} {labels : List Label} → AllFound ts labels → (l : LabelTree) → FoundOne ts (visible_label labels l)
  found_one nil l = no_label
  found_one {ts} (cons {t = t} {labels = labels} x le xs) l = by (same_label l t.label) (found_one xs l)
    where
      by : (b : Bool) → FoundOne ts (visible_label labels l) → FoundOne ts (cond b (Some t) (visible_label labels l))
      by true others = a_label x le
      by false others = others

  found_append : {ts : List ℕ} {xs ys : List Label} → AllFound ts xs → AllFound ts ys → AllFound ts (xs ++ ys)
  found_append nil y = y
  found_append (cons x le xs) y = cons x le (found_append xs y)

  found_inside : {ts : List ℕ} {labels : List Label} → AllFound ts labels → AllFound ts (in_handlers labels)
  found_inside nil = nil
  found_inside {ts} (cons {t = t} {labels = labels} x le xs) = by (is_bare t.label) (found_inside xs)
    where
      by : (b : Bool) → AllFound ts (in_handlers labels) → AllFound ts (unless_bare_mark b t (in_handlers labels))
      by true others = others
      by false others = cons x le others

  found_deeper : {ts : List ℕ} {labels : List Label} (l : ℕ) → AllFound ts labels → AllFound (l ∷ ts) (labels_within_try labels)
  found_deeper l nil = nil
  found_deeper l (cons x le xs) = cons x (omega (arith, le)) (found_deeper l xs)

  walks_exit : {ts : List ℕ} {o : Option Label} → Caught whole ts → FoundOne ts o → (from : List Reg) → Walks ts (exit_to_handler o from)
  walks_exit c no_label from = idle
  walks_exit {ts} c (a_label {t = t} f le) from = then (walks_moves c from t.params) (step (bare_mark (mark.Exit t.number t.tries)) (λ next. refl) exit_kept)
    where
      at_target : (next : List Instr) → tries_at next ≡ ts → (l : ℕ) → t.number ≡ l → Found l (drop_tries t.tries (tries_at next)) whole
      at_target next e l same = subst (λ k. Found k (drop_tries t.tries (tries_at next)) whole) same (subst (λ z. Found t.number (drop_tries t.tries z) whole) (sym e) f)

      same_ended : (l n : ℕ) → mach.Mark (mark.Exit t.number t.tries) ≡ mach.Mark (mark.Exit l n) → t.tries ≡ n
      same_ended l n e = cc

      exit_kept : (next : List Instr) → tries_at next ≡ ts → IsKept whole (bare_mark (mark.Exit t.number t.tries)) next
      exit_kept next e =
          record {
            lands = λ l o no_exit. absurd (true≢false no_exit);
            exits = λ l o _. at_target next e l (one_target l t.number o);
            handles = λ l end e. absurd (true≢false (sym (ap is_leave e)));
            pushed = λ l e. absurd (true≢false (sym (ap is_try e)));
            handled = λ l e. absurd (true≢false (sym (ap is_try e)));
            ends = λ l n same. subst (λ k. k ≤ length (tries_at next)) (same_ended l n same) (subst (λ z. t.tries ≤ length z) (sym e) le);
            catches = subst (Caught whole) (sym e) c;
            left = λ e. absurd (true≢false (sym e));
            takes = λ labels e. absurd (true≢false (sym (ap is_choice e)));
            taken = λ indexes n stop e. absurd (true≢false (sym (ap is_choice e)));
          }

  -- what a part of an expression needs where it is
  pub record Surrounds (ts : List ℕ) (labels : List Label) (tail : Bool) : Type 0 where
    pub catches : Caught whole ts
    pub found : AllFound ts labels
    pub outside : tail ≡ true → ts ≡ []

  quiet : {ts : List ℕ} {labels : List Label} {tail : Bool} → Surrounds ts labels tail → Surrounds ts labels false
  quiet x = record { catches = x.catches; found = x.found; outside = λ e. absurd (true≢false (sym e)) }

  walks_call : {ts : List ℕ} {labels : List Label} (tail valued : Bool) → Surrounds ts labels tail → (result : Ret) (o : Option (List ℕ)) (f : Reg) (regs : List Reg) (n : ℕ) (d : Reg) → Walks ts (call_of tail valued result o f regs n d)
  walks_call true valued x result o f regs n d = step _ (λ next. refl) (λ next e. kept_leaving _ (callee_regs o f ++ regs) [] next (e ∙ x.outside refl))
  walks_call false valued x result o f regs n d = then (op_step x.catches _ (callee_regs o f ++ regs) (result_seat n result) refl) (walks_from_seat x.catches n result d)

  -- marks that lead nowhere but on
  end_kept : {ts : List ℕ} → Caught whole ts → (l : ℕ) (next : List Instr) → tries_at next ≡ ts → IsKept whole (bare_mark (mark.End l)) next
  end_kept c l next e = plain _ next refl refl refl refl refl (subst (Caught whole) (sym e) c) (λ k o. absurd (none_on k o))

  found_end : {ts : List ℕ} (l : ℕ) (next : List Instr) → tries_at next ≡ ts → Found l ts (bare_mark (mark.End l) ∷ next)
  found_end l next e = record { at = bare_mark (mark.End l); rest = next; there = all; has = self l; tries = e }

  -- a mark that is no switch, and where it is a case, is that of one
  record Takes (f : Mark) : Type 0 where
    no_switch : (labels : List ℕ) → mach.Mark f ≡ mach.Mark (mark.Switch labels) → ⊥
    chosen : (indexes : List ℕ) (l end : ℕ) → mach.Mark f ≡ mach.Mark (mark.Case indexes l end) → Chosen l indexes whole

  no_choice : (f : Mark) → is_choice (mach.Mark f) ≡ false → Takes f
  no_choice f e = record { no_switch = λ labels is. true≢false (sym (ap is_choice is) ∙ e); chosen = λ indexes l end is. absurd (true≢false (sym (ap is_choice is) ∙ e)) }

  a_case : (labels : List ℕ) (x : Reg) (rest : List Instr) → Ending (emit.choose labels x ∷ rest) whole → (l end : ℕ) → Takes (mark.Case (indexes_to_label l 0 labels) l end)
  a_case labels x rest there l end =
      record {
        no_switch = λ others e. not_switch others e;
        chosen = λ indexes k stop e. subst (λ n. Chosen n indexes whole) (same_label' indexes k stop e) (record { labels = labels; index = x; rest = rest; there = there; is = sym (same_indexes indexes k stop e) });
      }
    where
      not_switch : (others : List ℕ) → mach.Mark (mark.Case (indexes_to_label l 0 labels) l end) ≡ mach.Mark (mark.Switch others) → ⊥
      not_switch others e = cc

      same_label' : (indexes : List ℕ) (k stop : ℕ) → mach.Mark (mark.Case (indexes_to_label l 0 labels) l end) ≡ mach.Mark (mark.Case indexes k stop) → l ≡ k
      same_label' indexes k stop e = cc

      same_indexes : (indexes : List ℕ) (k stop : ℕ) → mach.Mark (mark.Case (indexes_to_label l 0 labels) l end) ≡ mach.Mark (mark.Case indexes k stop) → indexes_to_label l 0 labels ≡ indexes
      same_indexes indexes k stop e = cc

  -- a mark that leads to the end of its branches
  to_end : {ts : List ℕ} (f : Mark) (end : ℕ) (next : List Instr) → targets (mach.Mark f) ≡ At end ∷ [] → is_exit (mach.Mark f) ≡ false → is_leave (mach.Mark f) ≡ false → is_try (mach.Mark f) ≡ false →
      tries_left (mach.Mark f) (tries_at (bare_mark f ∷ next)) ≡ ts → Caught whole (tries_at (bare_mark f ∷ next)) → Found end ts next → Takes f → IsKept whole (bare_mark f) next
  to_end {ts} f end next leads no_exit no_leave no_try same c found t =
      goes (bare_mark f) next no_exit no_leave no_try refl c
      (λ l o. subst (λ z. Found l z next) (sym same) (subst (λ k. Found k ts next) (one_target l end (subst (OneOf (At l)) leads o)) found))
      (λ labels e. absurd (t.no_switch labels e)) t.chosen

  -- ---- branches

  -- code that goes on where a condition holds, and else at a label after it
  record Tests (ts : List ℕ) (l : ℕ) (code : Code) : Type 0 where
    within : (next : List Instr) → Within next (code next)
    kept : (next : List Instr) → tries_at next ≡ ts → Ending (code next) whole → Found l ts next → AllKept whole next → AllKept whole (code next)

  tests_branch : {ts : List ℕ} {x : Code} → Caught whole ts → Walks ts x → (t : Test) (l : ℕ) (args : List Reg) → Tests ts l (λ next. x (emit.branch t l args ∷ next))
  tests_branch {ts} {x = x} c w t l args =
      record {
        within = λ next. inside_in (inside_more refl inside_all) (w.within (emit.branch t l args ∷ next));
        kept = λ next e end found z. w.kept (emit.branch t l args ∷ next) e end (one (branch next e found) z);
      }
    where
      there_at : (next : List Instr) (k : ℕ) → Found l (tries_at next) next → OneOf (At k) (On ∷ At l ∷ []) → Found k (tries_at next) next
      there_at next k found (other o) = subst (λ n. Found n (tries_at next) next) (one_target k l o) found

      branch : (next : List Instr) → tries_at next ≡ ts → Found l ts next → IsKept whole (emit.branch t l args) next
      branch next e found = plain _ next refl refl refl refl refl (subst (Caught whole) (sym e) c) (λ k o. there_at next k (subst (λ z. Found l z next) (sym e) found) o)

  tests_either : {ts : List ℕ} {l : ℕ} {value : Code} (o : Option Test) (fused : Test → Code) → ((t : Test) → Tests ts l (fused t)) → Tests ts l value → Tests ts l (λ next. fused_test o (λ t. fused t next) (value next))
  tests_either (Some t) fused f v = f t
  tests_either None fused f v = v

  walks_branches : {ts : List ℕ} {test_code true_code false_code : Code} → Caught whole ts → (l end : ℕ) → Tests ts l test_code → Walks ts true_code → Walks ts false_code →
      Walks ts (λ next. test_code (true_code (bare_mark (mark.Else l end) ∷ false_code (bare_mark (mark.End end) ∷ next))))
  walks_branches {ts} {test_code} {true_code} {false_code} c l end t y n =
      record {
        within = λ next. inside_in (inside_in (inside_more refl (inside_in (inside_more refl inside_all) (n.within (bare_mark (mark.End end) ∷ next)))) (y.within _)) (t.within _);
        kept = λ next e ends z.
            let last = bare_mark (mark.End end) ∷ next in
            let wf = n.within last in
            let ef = wf.tries ∙ e in
            let others = bare_mark (mark.Else l end) ∷ false_code last in
            let wt = y.within others in
            let wc = t.within (true_code others) in
            let ends_true = ending_in wc.ending ends in
            let ends_false = ending_next (ending_in wt.ending ends_true) in
            let kept_false = n.kept last e ends_false (one (end_kept c end next e) z) in
            let kept_else = to_end (mark.Else l end) end (false_code last) refl refl refl refl ef (subst (Caught whole) (sym ef) c) (found_in wf.ending (found_end end next e)) (no_choice (mark.Else l end) refl) in
            let found : Found l ts others = record { at = bare_mark (mark.Else l end); rest = false_code last; there = all; has = self l; tries = ef } in
            t.kept (true_code others) (wt.tries ∙ ef) ends (found_in wt.ending found) (y.kept others ef ends_true (one kept_else kept_false));
      }

  -- ---- branches of a switch, or of a catch

  record Branches (ts : List ℕ) (end : ℕ) (code : Code) : Type 0 where
    within : (next : List Instr) → Within next (code next)
    kept : (next : List Instr) → tries_at next ≡ ts → Ending (code next) whole → Found end ts next → AllKept whole next → AllKept whole (code next)

  no_branches : {ts : List ℕ} {end : ℕ} → Branches ts end (λ next. next)
  no_branches = record { within = λ next. inside_all; kept = λ next e ends found z. z }

  more_branches : {ts : List ℕ} {end : ℕ} {body rest : Code} (f : Mark) → targets (mach.Mark f) ≡ At end ∷ [] → is_exit (mach.Mark f) ≡ false → is_leave (mach.Mark f) ≡ false → is_try (mach.Mark f) ≡ false →
      ((next : List Instr) → tries_at (bare_mark f ∷ next) ≡ tries_at next) → ((z : List ℕ) → tries_left (mach.Mark f) z ≡ z) → Takes f → Caught whole ts → Walks ts body → Branches ts end rest → Branches ts end (λ next. bare_mark f ∷ body (rest next))
  more_branches {ts} {end} {body} {rest} f leads no_exit no_leave no_try same stays t c b r =
      record {
        within = λ next. inside_more (same (body (rest next))) (inside_in (r.within next) (b.within (rest next)));
        kept = λ next e ends found z.
            let wr = r.within next in
            let er = wr.tries ∙ e in
            let wb = b.within (rest next) in
            let eb = same (body (rest next)) ∙ wb.tries ∙ er in
            let ends_body = ending_next ends in
            let here' = to_end f end (body (rest next)) leads no_exit no_leave no_try (stays (tries_at (bare_mark f ∷ body (rest next))) ∙ eb) (subst (Caught whole) (sym eb) c) (found_in wb.ending (found_in wr.ending found)) t in
            one here' (b.kept (rest next) er ends_body (r.kept next e (ending_in wb.ending ends_body) found z));
      }

  -- a label of a switch is that of a case
  last_in : (l : ℕ) (cs : Cases) (k so_far lo hi : ℕ) → Range lo hi so_far → lo ≤ l → l + count_cases cs ≤ hi → Range lo hi (label_of_last_case l cs k so_far)
  last_in l NoCase k so_far lo hi r from to = r
  last_in l (Choose indexes body rest) k so_far lo hi r from to = last_in (suc l) rest k (cond (is_named indexes k) l so_far) lo hi (by (is_named indexes k)) (omega (arith, from)) (omega (arith, to))
    where
      by : (b : Bool) → Range lo hi (cond b l so_far)
      by true = record { from = from; to = omega (arith, to) }
      by false = r

  labels_range : (l : ℕ) (cs : Cases) → HasCase cs → (n size k : ℕ) → OneOf (At k) (map At (switch_labels l cs n size)) → Range l (l + count_cases cs) k
  labels_range l cs has n zero k o = elim o [ ]
  labels_range l cs has n (suc size) k this = last_in l cs n l l (l + count_cases cs) (own cs has) (omega arith) (omega arith)
    where
      own : (cs : Cases) → HasCase cs → Range l (l + count_cases cs) l
      own NoCase h = absurd h
      own (Choose indexes body rest) h = record { from = omega arith; to = omega arith }
  labels_range l cs has n (suc size) k (other o) = labels_range l cs has (suc n) size k o

  case_marks : {ts : List ℕ} (env : List NamedRegister) (labels : List Label) (valued tail : Bool) (d : Reg) (every : List ℕ) (end l b : ℕ) (cs : Cases) (next : List Instr) → tries_at next ≡ ts → (k : ℕ) → Range l (l + count_cases cs) k →
      Taken k every ts (select_cases env labels valued tail d every end l b cs next)
  case_marks env labels valued tail d every end l b NoCase next e k r = let from = r.from in let to = r.to in absurd (omega (arith, from, to))
  case_marks {ts} env labels valued tail d every end l b (Choose indexes body rest) next e k r =
      let wr = ending_cases env labels valued tail d every end (suc l) (b + width body) rest next in
      let wb = ending_select env labels valued tail d b body (select_cases env labels valued tail d every end (suc l) (b + width body) rest next) in
      by (cases_lt l k) wb.ending (wb.tries ∙ wr.tries ∙ e) (λ r. case_marks env labels valued tail d every end (suc l) (b + width body) rest next e k r)
    where
      by : {inner outer : List Instr} → (l < k) ⊎ (k ≤ l) → Ending inner outer → tries_at outer ≡ ts → (Range (suc l) (suc l + count_cases rest) k → Taken k every ts inner) → Taken k every ts (bare_mark (mark.Case (indexes_to_label l 0 every) l end) ∷ outer)
      by (inl less) en es others = let to = r.to in taken_in (more en) (others (record { from = omega (arith, less); to = omega (arith, to) }))
      by {outer = outer} (inr le) en es others =
          let from = r.from in
          let own : Taken l every ts (bare_mark (mark.Case (indexes_to_label l 0 every) l end) ∷ outer) = record { end = end; rest = outer; there = all; tries = es } in
          subst (λ n. Taken n every ts (bare_mark (mark.Case (indexes_to_label l 0 every) l end) ∷ outer)) (omega (arith, le, from)) own

  found_taken : {l : ℕ} {labels ts : List ℕ} {code : List Instr} → Taken l labels ts code → Found l ts code
  found_taken {l} {labels} t = record { at = bare_mark (mark.Case (indexes_to_label l 0 labels) l t.end); rest = t.rest; there = t.there; has = self l; tries = t.tries }

  one_of : (ls : List ℕ) (k : ℕ) → Contains ls k → OneOf (At k) (map At ls)
  one_of [] k c = absurd (contains_none k c)
  one_of (l ∷ ls) k c = by (contains_cases l ls k c) (one_of ls k)
    where
      by : (l ≡ k) ⊎ Contains ls k → (Contains ls k → OneOf (At k) (map At ls)) → OneOf (At k) (At l ∷ map At ls)
      by (inl e) others = subst (λ n. OneOf (At k) (At n ∷ map At ls)) (sym e) this
      by (inr c) others = other (others c)

  walks_switch : {ts : List ℕ} {selector cases_code : Code} → Caught whole ts → (all_labels : List ℕ) (x : Reg) (end : ℕ) → Walks ts selector → ((next : List Instr) → Within next (cases_code next)) →
      ((rest : List Instr) → Ending (emit.choose all_labels x ∷ rest) whole → Branches ts end cases_code) → ((next : List Instr) → tries_at next ≡ ts → (k : ℕ) → OneOf (At k) (map At all_labels) → Taken k all_labels ts (cases_code next)) →
      Walks ts (λ next. selector (emit.choose all_labels x ∷ cases_code (bare_mark (mark.End end) ∷ next)))
  walks_switch {ts} {selector} {cases_code} c all_labels x end s wb given marks =
      record {
        within = λ next. inside_in (inside_more refl (inside_in (inside_more refl inside_all) (wb (bare_mark (mark.End end) ∷ next)))) (s.within _);
        kept = λ next e ends z.
            let last = bare_mark (mark.End end) ∷ next in
            let wc = wb last in
            let ec = wc.tries ∙ e in
            let ws = s.within (emit.choose all_labels x ∷ cases_code last) in
            let ends_choice = ending_in ws.ending ends in
            let b = given (cases_code last) ends_choice in
            s.kept (emit.choose all_labels x ∷ cases_code last) ec ends
            (one (choice (cases_code last) ec (λ k o. marks last e k o)) (b.kept last e (ending_next ends_choice) (found_end end next e) (one (end_kept c end next e) z)));
      }
    where
      same_labels : (others : List ℕ) → mach.Mark (mark.Switch all_labels) ≡ mach.Mark (mark.Switch others) → all_labels ≡ others
      same_labels others e = cc

      no_case : (indexes : List ℕ) (l stop : ℕ) → mach.Mark (mark.Switch all_labels) ≡ mach.Mark (mark.Case indexes l stop) → ⊥
      no_case indexes l stop e = cc

      choice : (next : List Instr) → tries_at next ≡ ts → ((k : ℕ) → OneOf (At k) (map At all_labels) → Taken k all_labels ts next) → IsKept whole (emit.choose all_labels x) next
      choice next e marks =
          goes (emit.choose all_labels x) next refl refl refl refl (subst (Caught whole) (sym e) c) (λ k o. subst (λ z. Found k z next) (sym e) (found_taken (marks k o)))
          (λ others is k in_others.
          subst (λ ls. Taken k ls (tries_at next) next) (same_labels others is) (subst (λ z. Taken k all_labels z next) (sym e) (marks k (one_of all_labels k (subst (λ ls. Contains ls k) (sym (same_labels others is)) in_others)))))
          (λ indexes l stop is. absurd (no_case indexes l stop is))

  -- the handlers of a catch are in the code
  found_own : {ts : List ℕ} (env : List NamedRegister) (labels : List Label) (valued tail : Bool) (d : Reg) (end l b : ℕ) (hs : Handlers) (next : List Instr) → tries_at next ≡ ts → Ending (select_handlers env labels valued tail d end l b hs next) whole →
      AllFound ts (labels_from l hs)
  found_own env labels valued tail d end l b NoHandler next e ends = nil
  found_own env labels valued tail d end l b (Handle at label params body rest) next e ends =
      let wr = ending_handlers env labels valued tail d end (suc l + length params) (b + width body) rest next in
      let wb = ending_select (with_params params (params_from (suc l) params) env) labels valued tail d b body (select_handlers env labels valued tail d end (suc l + length params) (b + width body) rest next) in
      cons (record { at = bare_mark (mark.With l end); rest = _; there = ends; has = self l; tries = wb.tries ∙ wr.tries ∙ e }) (omega arith)
      (found_own env labels valued tail d end (suc l + length params) (b + width body) rest next e (ending_in wb.ending (ending_next ends)))

  walks_catch : {ts : List ℕ} {body handlers_code : Code} → Caught whole ts → (end : ℕ) → ((next : List Instr) → Within next (body next)) → ((next : List Instr) → Within next (handlers_code next)) →
      ((next : List Instr) → tries_at next ≡ ts → Ending (handlers_code next) whole → Walks ts body × Branches ts end handlers_code) → Walks ts (λ next. bare_mark mark.Catch ∷ body (handlers_code (bare_mark (mark.End end) ∷ next)))
  walks_catch {ts} {body} {handlers_code} c end wb wh given =
      record {
        within = λ next. inside_more refl (inside_in (inside_in (inside_more refl inside_all) (wh (bare_mark (mark.End end) ∷ next))) (wb _));
        kept = λ next e ends z.
            let last = bare_mark (mark.End end) ∷ next in
            let inner = wh last in
            let eh = inner.tries ∙ e in
            let outer = wb (handlers_code last) in
            let eb = outer.tries ∙ eh in
            let ends_body = ending_next ends in
            let ends_handlers = ending_in outer.ending ends_body in
            let both = given last e ends_handlers in
            let b = both.0 in
            let h = both.1 in
            one (plain (bare_mark mark.Catch) _ refl refl refl refl refl (subst (Caught whole) (sym eb) c) (λ k o. absurd (none_on k o)))
            (b.kept (handlers_code last) eh ends_body (h.kept last e ends_handlers (found_end end next e) (one (end_kept c end next e) z)));
      }

  -- ---- tries

  walks_try : {ts : List ℕ} {body handler_code : Code} → Caught whole ts → (l end : ℕ) (y r : Reg) → ((next : List Instr) → Within next (body next)) → (Caught whole (l ∷ ts) → Walks (l ∷ ts) body) → Walks ts handler_code →
      ((next : List Instr) → Within next (bare_mark (mark.Try l) ∷ body (bare_mark (mark.Leave l end) ∷ emit.handler l y ∷ emit.move y r ∷ handler_code (bare_mark (mark.End end) ∷ next)))) →
      Walks ts (λ next. bare_mark (mark.Try l) ∷ body (bare_mark (mark.Leave l end) ∷ emit.handler l y ∷ emit.move y r ∷ handler_code (bare_mark (mark.End end) ∷ next)))
  walks_try {ts} {body} {handler_code} c l end y r wb b h w =
      record {
        within = w;
        kept = λ next e ends z.
            let last = bare_mark (mark.End end) ∷ next in
            let wh = h.within last in
            let eh = wh.tries ∙ e in
            let code = handler_code last in
            let entry = emit.handler l y ∷ emit.move y r ∷ code in
            let leave = bare_mark (mark.Leave l end) ∷ entry in
            let outer = wb leave in
            let el : tries_at leave ≡ l ∷ ts = ap (λ z. l ∷ z) eh in
            let ends_body = ending_next ends in
            let ends_entry = ending_next (ending_in outer.ending ends_body) in
            let handled : Handled l ts whole = record { at = emit.handler l y; rest = emit.move y r ∷ code; there = ends_entry; handles = self l; tries = eh } in
            let c' = caught handled c in
            let known = subst (Caught whole) (sym eh) c in
            let kept_entry =
            one (plain (emit.handler l y) (emit.move y r ∷ code) refl refl refl refl refl known (λ k o. absurd (none_on k o)))
            (one (kept_op _ (y ∷ []) (r ∷ []) code refl known) (h.kept last e (ending_next (ending_next ends_entry)) (one (end_kept c end next e) z))) in
            let found = subst (λ z. Found end z entry) (sym eh) (found_in (more (more wh.ending)) (found_end end next e)) in
            let inside = b c' in
            let eb = outer.tries ∙ el in
            one (try_kept (body leave) eb c') (inside.kept leave el ends_body (one (leave_kept (emit.move y r ∷ code) found (subst (λ z. Caught whole (l ∷ z)) (sym eh) c')) kept_entry));
      }
    where
      same_try : (k : ℕ) → mach.Mark (mark.Try l) ≡ mach.Mark (mark.Try k) → l ≡ k
      same_try k e = cc

      same_leave : (k there : ℕ) → mach.Mark (mark.Leave l end) ≡ mach.Mark (mark.Leave k there) → l ≡ k
      same_leave k there e = cc

      try_kept : (code : List Instr) → tries_at code ≡ l ∷ ts → Caught whole (l ∷ ts) → IsKept whole (bare_mark (mark.Try l)) code
      try_kept code eb caught_here =
          record {
            lands = λ k o _. absurd (none_on k o);
            exits = λ k o e. absurd (true≢false (sym e));
            handles = λ k there e. absurd (true≢false (sym (ap is_leave e)));
            pushed = λ k e. subst (λ z. z ≡ k ∷ drop_tries 1 z) (sym eb) (ap (λ n. n ∷ ts) (same_try k e));
            handled = λ k e. subst (λ z. Handled k (drop_tries 1 z) whole) (sym eb) (subst (λ n. Handled n ts whole) (same_try k e) (caught_handler caught_here));
            ends = λ k n e. absurd (true≢false (sym (ap is_exit e)));
            catches = subst (λ z. Caught whole (drop_tries 1 z)) (sym eb) c;
            left = λ e. absurd (true≢false (sym e));
            takes = λ labels e. absurd (true≢false (sym (ap is_choice e)));
            taken = λ indexes n stop e. absurd (true≢false (sym (ap is_choice e)));
          }

      leave_kept : (rest : List Instr) → Found end (tries_at rest) (emit.handler l y ∷ rest) → Caught whole (l ∷ tries_at rest) → IsKept whole (bare_mark (mark.Leave l end)) (emit.handler l y ∷ rest)
      leave_kept rest found c' =
          record {
            lands = λ k o _. subst (λ n. Found n (tries_at rest) (emit.handler l y ∷ rest)) (one_target k end o) found;
            exits = λ k o e. absurd (true≢false (sym e));
            handles = λ k there e. subst (λ n. HasHandler n (emit.handler l y ∷ rest)) (same_leave k there e) (handler_here (self l));
            pushed = λ k e. absurd (true≢false (sym (ap is_try e)));
            handled = λ k e. absurd (true≢false (sym (ap is_try e)));
            ends = λ k n e. absurd (true≢false (sym (ap is_exit e)));
            catches = c';
            left = λ e. absurd (true≢false (sym e));
            takes = λ labels e. absurd (true≢false (sym (ap is_choice e)));
            taken = λ indexes n stop e. absurd (true≢false (sym (ap is_choice e)));
          }

  mutual
    pub walks_select : {ts : List ℕ} (env : List NamedRegister) (labels : List Label) (valued tail : Bool) (d : Reg) (b : ℕ) (e : Expression) → Fits (scopes env) e → Surrounds ts labels tail → Walks ts (select env labels valued tail d b e)
    walks_select env labels valued tail d b (Integer at w) fine x = op_step x.catches _ [] (d ∷ []) refl
    walks_select env labels valued tail d b (Pointer at w) fine x = op_step x.catches _ [] (d ∷ []) refl
    walks_select env labels valued tail d b (Symbol at name) fine x = op_step x.catches _ [] (d ∷ []) refl
    walks_select env labels valued tail d b (Name at name) fine x = walks_from x.catches (reg_of env name) _
    walks_select env labels valued tail d b (Nothing at) fine x = idle
    walks_select env labels valued tail d b (Float at word_at operands) fine x = idle
    walks_select env labels valued tail d b (Let at bindings body) fine x =
        then (walks_bound env labels (suc b) bindings fine.0 (quiet x)) (walks_select _ labels _ tail _ _ body (subst (λ sc. Fits sc body) (sym (scopes_after env (suc b) bindings)) fine.1) x)
    walks_select env labels valued tail d b (Assign at name_at name e) fine x = then (walks_select env labels false false _ _ e fine (quiet x)) (walks_to x.catches _ (reg_of env name))
    walks_select env labels valued tail d b (Operator at op left right) fine x =
        let s = operation_shape op left right in
        then
        (kept_ordered (Walks _) (λ x y. then) (is_left_first (scopes env) left right) (kept_left (Walks _) idle s (walks_select env labels false false _ _ left fine.0 (quiet x))) (kept_right (Walks _) idle s (walks_select env labels false false _ _ right fine.1 (quiet x))))
        (walks_operator x.catches s op _ _ _)
    walks_select env labels valued tail d b (App at callee arguments result result_at) fine x =
        let light = is_light_address (scopes env) callee in
        then (walks_waiting env labels _ _ arguments fine.1.1 (quiet x))
        (then (kept_when (Walks _) idle (not light) (kept_unless (Walks _) idle (called_symbol callee) (walks_select env labels false false _ _ callee fine.1.0 (quiet x))))
        (then (walks_filled env labels _ _ arguments fine.1.1 (quiet x))
        (then (kept_when (Walks _) idle light (walks_select env labels false false _ _ callee fine.1.0 (quiet x)))
        (then (walks_moves x.catches (regs_of env (suc (suc b)) arguments) _)
        (walks_call tail _ x result (called_symbol callee) _ _ _ _)))))
    walks_select env labels valued tail d b (Extcall at frame name arguments result result_at) fine x =
        then (walks_waiting env labels _ _ arguments fine.1.1 (quiet x))
        (then (walks_filled env labels _ _ arguments fine.1.1 (quiet x))
        (then (walks_moves x.catches (regs_of env (suc b) arguments) _) (then (op_step x.catches _ _ (result_seat _ result) refl) (walks_from_seat x.catches _ result _))))
    walks_select env labels valued tail d b (Seq at elements) fine x = walks_seq env labels _ tail _ _ elements fine x
    walks_select env labels valued tail d b (If at condition on_true on_false) fine x =
        walks_branches x.catches (suc (suc b)) (suc (suc (suc b)))
        (walks_test env labels _ _ condition fine.0 (quiet x) (tests_branch x.catches (walks_select env labels false false _ _ condition fine.0 (quiet x)) test.Holds (suc (suc b)) _))
        (walks_select env labels _ tail _ _ on_true fine.1.0 x) (walks_select env labels _ tail _ _ on_false fine.1.1 x)
    walks_select env labels valued tail d b (Catch at body handlers) fine x =
        let type = type_of (scopes env) (Catch at body handlers) in
        let own = labels_from (suc (suc b)) handlers in
        let base = suc (suc b) + width_labels handlers in
        let wants = inner_valued valued type in
        let d' = inner_dest type b d in
        let inside = in_handlers own ++ labels in
        walks_catch x.catches (suc b) (λ next. ending_select env (own ++ labels) wants tail d' base body next)
        (λ next. ending_handlers env inside wants tail d' (suc b) (suc (suc b)) (base + width body) handlers next)
        (λ next e ends.
        let stands = found_own env inside wants tail d' (suc b) (suc (suc b)) (base + width body) handlers next e ends in (
          walks_select env (own ++ labels) wants tail d' base body fine.0 (record { catches = x.catches; found = found_append stands x.found; outside = x.outside }),
          walks_handlers env inside wants tail d' (suc b) (suc (suc b)) (base + width body) handlers fine.1 (record { catches = x.catches; found = found_append (found_inside stands) x.found; outside = x.outside }),
        ))
    walks_select env labels valued tail d b (Exit at label_at label arguments) fine x =
        then (walks_waiting env labels _ _ arguments fine (quiet x)) (then (walks_filled env labels _ _ arguments fine (quiet x)) (walks_exit x.catches (found_one x.found label) (regs_of env (suc b) arguments)))
    walks_select env labels valued tail d b (Alloc at header_at header operands) fine x =
        then (walks_waiting env labels _ _ operands fine.1.1 (quiet x))
        (then (op_step x.catches _ [] (_ ∷ []) refl)
        (then (op_step x.catches _ [] (_ ∷ []) refl)
        (then (op_step x.catches _ (_ ∷ _ ∷ []) [] refl)
        (then (walks_filled env labels _ _ operands fine.1.1 (quiet x))
        (then (walks_cells x.catches _ _ 0 (regs_of env (suc (suc (suc b))) operands)) (op_step x.catches _ (_ ∷ []) (_ ∷ []) refl))))))
    walks_select env labels valued tail d b (Load at chunk address) fine x =
        then (walks_base env labels _ _ address fine (quiet x) (walks_select env labels false false _ _ address fine (quiet x))) (op_step x.catches _ (_ ∷ []) (_ ∷ []) refl)
    walks_select env labels valued tail d b (Store at chunk address e) fine x =
        then
        (kept_ordered (Walks _) (λ x y. then) (is_left_first (scopes env) address e) (walks_base env labels _ _ address fine.0 (quiet x) (walks_select env labels false false _ _ address fine.0 (quiet x))) (walks_select env labels false false _ _ e fine.1 (quiet x)))
        (op_step x.catches _ (_ ∷ _ ∷ []) [] refl)
    walks_select env labels valued tail d b (Checkbound at bound index) fine x =
        then
        (kept_ordered (Walks _) (λ x y. then) (is_left_first (scopes env) bound index) (walks_select env labels false false _ _ bound fine.0 (quiet x)) (kept_constant (Walks _) idle (bound_test_operand bound_test index) (walks_select env labels false false _ _ index fine.1 (quiet x))))
        (op_step x.catches _ _ [] refl)
    walks_select env labels valued tail d b (Raise at e) fine x =
        then (walks_select env labels false false _ _ e fine (quiet x)) (then (op_step x.catches _ (_ ∷ []) (_ ∷ []) refl) (op_step x.catches _ (_ ∷ []) [] refl))
    walks_select env labels valued tail d b (Switch at size_at size selector cases) fine x =
        let type = type_of (scopes env) (Switch at size_at size selector cases) in
        let l = suc (suc (suc b)) in
        let base = l + count_cases cases in
        let every = switch_labels l cases 0 size in
        let wants = inner_valued valued type in
        let d' = inner_dest type b d in
        walks_switch x.catches every _ (suc (suc b)) (walks_select env labels false false _ base selector fine.1.0 (quiet x))
        (λ next. ending_cases env labels wants tail d' every (suc (suc b)) l (base + width selector) cases next)
        (λ rest there. walks_cases env labels wants tail d' every (suc (suc b)) l (base + width selector) cases fine.1.1 x _ rest there)
        (λ next e k o. case_marks env labels wants tail d' every (suc (suc b)) l (base + width selector) cases next e k (labels_range l cases fine.0 0 size k o))
    walks_select env labels valued tail d b (Try at body name_at name handler) fine x =
        let type = type_of (scopes env) (Try at body name_at name handler) in
        let base = suc (suc (suc (suc (suc b)))) in
        let wants = inner_valued valued type in
        let d' = inner_dest type b d in
        walks_try x.catches (suc b) (suc (suc b)) _ _ (λ next. ending_select env (labels_within_try labels) wants false d' base body next)
        (λ c. walks_select env (labels_within_try labels) wants false d' base body fine.0 (record { catches = c; found = found_deeper (suc b) x.found; outside = λ e. absurd (true≢false (sym e)) }))
        (walks_select _ labels wants tail d' (base + width body) handler fine.1 x) (λ next. ending_select env labels valued tail d b (Try at body name_at name handler) next)

    walks_base : {ts : List ℕ} {whole_code : Code} (env : List NamedRegister) (labels : List Label) (t b : ℕ) (e : Expression) → Fits (scopes env) e → Surrounds ts labels false → Walks ts whole_code → Walks ts (select_base env labels t b e whole_code)
    walks_base env labels t b (Operator at op base (Integer at' w)) fine x inside = kept_if (Walks _) (is_based op w) (walks_select env labels false false _ _ base fine.0 x) inside
    walks_base env labels t b e fine x inside = inside

    walks_test : {ts : List ℕ} {value : Code} (env : List NamedRegister) (labels : List Label) (l b : ℕ) (e : Expression) → Fits (scopes env) e → Surrounds ts labels false → Tests ts l value → Tests ts l (λ next. select_test env labels l b e (value next) next)
    walks_test env labels l b (Operator at op left right) fine x v =
        let s = operation_shape op left right in
        tests_either (comparison (shape_op s op) (shape_right s)) _
        (λ t. tests_branch x.catches (kept_ordered (Walks _) (λ x y. then) (is_left_first (scopes env) left right) (kept_left (Walks _) idle s (walks_select env labels false false _ _ left fine.0 x)) (kept_right (Walks _) idle s (walks_select env labels false false _ _ right fine.1 x))) t l (shape_args s _ _))
        v
    walks_test env labels l b e fine x v = v

    walks_cases : {ts : List ℕ} (env : List NamedRegister) (labels : List Label) (valued tail : Bool) (d : Reg) (every : List ℕ) (end l b : ℕ) (cs : Cases) → CasesFit (scopes env) cs → Surrounds ts labels tail → (index : Reg) (after : List Instr) →
        Ending (emit.choose every index ∷ after) whole → Branches ts end (select_cases env labels valued tail d every end l b cs)
    walks_cases env labels valued tail d every end l b NoCase fine x index after there = no_branches
    walks_cases env labels valued tail d every end l b (Choose indexes body rest) fine x index after there =
        more_branches (mark.Case (indexes_to_label l 0 every) l end) refl refl refl refl (λ next. refl) (λ z. refl) (a_case every index after there l end) x.catches (walks_select env labels valued tail d b body fine.0 x)
        (walks_cases env labels valued tail d every end _ _ rest fine.1 x index after there)

    walks_waiting : {ts : List ℕ} (env : List NamedRegister) (labels : List Label) (b i : ℕ) (es : Expressions) → RowFits (scopes env) es → Surrounds ts labels false → Walks ts (select_waiting env labels b i es)
    walks_waiting env labels b i NoMore fine x = idle
    walks_waiting env labels b i (More e rest) fine x = then (walks_waiting env labels _ _ rest fine.1 x) (kept_when (Walks _) idle (not (is_light_address (scopes env) e)) (walks_select env labels false false _ i e fine.0 x))

    walks_filled : {ts : List ℕ} (env : List NamedRegister) (labels : List Label) (b i : ℕ) (es : Expressions) → RowFits (scopes env) es → Surrounds ts labels false → Walks ts (select_filled env labels b i es)
    walks_filled env labels b i NoMore fine x = idle
    walks_filled env labels b i (More e rest) fine x = then (walks_filled env labels _ _ rest fine.1 x) (kept_when (Walks _) idle (is_light_address (scopes env) e) (walks_select env labels false false _ i e fine.0 x))

    walks_bound : {ts : List ℕ} (env : List NamedRegister) (labels : List Label) (b : ℕ) (bs : Bindings) → BindingsFit (scopes env) bs → Surrounds ts labels false → Walks ts (select_bound env labels b bs)
    walks_bound env labels b NoBinding fine x = idle
    walks_bound env labels b (Bind at name declared e rest) fine x = then (walks_select env labels false false _ _ e fine.0 x) (walks_bound (bound_name env b name declared e ∷ env) labels _ rest fine.1 x)

    walks_seq : {ts : List ℕ} (env : List NamedRegister) (labels : List Label) (valued tail : Bool) (d : Reg) (b : ℕ) (es : Expressions) → RowFits (scopes env) es → Surrounds ts labels tail → Walks ts (select_seq env labels valued tail d b es)
    walks_seq env labels valued tail d b NoMore fine x = idle
    walks_seq env labels valued tail d b (More e NoMore) fine x = walks_select env labels valued tail d (suc b) e fine.0 x
    walks_seq env labels valued tail d b (More e (More g rest)) fine x = then (walks_select env labels false false _ _ e fine.0 (quiet x)) (walks_seq env labels valued tail d _ (More g rest) fine.1 x)

    walks_handlers : {ts : List ℕ} (env : List NamedRegister) (labels : List Label) (valued tail : Bool) (d : Reg) (end l b : ℕ) (hs : Handlers) → HandlersFit (scopes env) hs → Surrounds ts labels tail →
        Branches ts end (select_handlers env labels valued tail d end l b hs)
    walks_handlers env labels valued tail d end l b NoHandler fine x = no_branches
    walks_handlers env labels valued tail d end l b (Handle at label params body rest) fine x =
        more_branches (mark.With l end) refl refl refl refl (λ next. refl) (λ z. refl) (no_choice (mark.With l end) refl) x.catches
        (walks_select _ labels valued tail d b body (subst (λ sc. Fits sc body) (sym (scopes_params (suc l) params env)) fine.0) x) (walks_handlers env labels valued tail d end _ _ rest fine.1 x)

  walks_to_seat : {ts : List ℕ} → Caught whole ts → (d : Reg) (n : ℕ) (result : Ret) → Walks ts (to_seat d n result)
  walks_to_seat c d n ret.Unit = idle
  walks_to_seat c d n (ret.Comp k) = op_step c _ (d ∷ []) (_ ∷ []) refl

abbrev returning : FunctionTree → List Instr
returning f = emit.give_back (result_seat (suc (first_after_colours + length f.params + length f.params)) (result_of (body_type f))) ∷ []

abbrev before_return : FunctionTree → Code
before_return f next =
    let type : Ty = body_type f in
    let moved = first_after_colours + length f.params in
    let params = params_from moved f.params in
    let n = moved + length f.params in
    moves_all (seats 0 first_after_colours params) params (select (with_params f.params params []) [] (not (is_no_value type)) true (fresh_register n type) (suc (suc n)) f.body (to_seat (fresh_register n type) (suc n) (result_of type) next))

whole_walk : (f : FunctionTree) → FunctionFits f → Walks (selected f).code [] (before_return f)
whole_walk f fits =
    let whole = (selected f).code in
    let body = subst (λ sc. Fits sc f.body) (sym (scopes_params (first_after_colours + length f.params) f.params [])) fits.body in
    then whole (walks_moves whole uncaught (seats 0 first_after_colours (params_from (first_after_colours + length f.params) f.params)) (params_from (first_after_colours + length f.params) f.params))
    (then whole (walks_select whole _ [] _ true _ _ f.body body (record { catches = uncaught; found = nil; outside = λ _. refl })) (walks_to_seat whole uncaught _ _ (result_of (body_type f))))

pub selected_kept : (f : FunctionTree) → FunctionFits f → AllKept (selected f).code (selected f).code
selected_kept f fits = let w = whole_walk f fits in w.kept (returning f) refl all (one (kept_leaving (selected f).code _ (result_seat _ (result_of (body_type f))) [] [] refl) none)

place_there : {l : ℕ} {i : Instr} {rest code : List Instr} → Ending (i ∷ rest) code → has_label l i.op ≡ true → LabelOccursIn l code
place_there all e = place_here e
place_there (more x) e = place_below (place_there x e)

place_of : {l : ℕ} {ts : List ℕ} {code : List Instr} → Found l ts code → LabelOccursIn l code
place_of f = place_there f.there f.has

-- where a label is, in the whole code
led : {whole : List Instr} (i : Instr) (next : List Instr) → StandsAsInstr i next whole → IsKept whole i next → (l : ℕ) → TargetsLabel i.op l → Found l (tries_left i.op (tries_at (i ∷ next))) whole
led {whole} i next s k l o = by (is_exit i.op) refl
  where
    by : (b : Bool) → is_exit i.op ≡ b → Found l (tries_left i.op (tries_at (i ∷ next))) whole
    by true e = k.exits l o e
    by false e = found_in (ending_next (ending_of s)) (k.lands l o e)

-- Each label that is named is that of a place, only exits lead back, and a handler comes after its try.
pub selected_labels_stand : (f : FunctionTree) → FunctionFits f → LabelsStand (selected f)
selected_labels_stand f fits =
    let all_kept = selected_kept f fits in
    record {
      named = λ i next s l o. place_of (led i next s (kept_of all_kept i next s) l o);
      forward = λ i next s l o e. let k = kept_of all_kept i next s in place_of (k.lands l o e);
      handlers = λ i next s l end e. let k = kept_of all_kept i next s in k.handles l end e;
    }

-- The tries that are pushed are those round the place, and the function is left outside its tries.
pub selected_nested : (f : FunctionTree) → FunctionFits f → IsNested (selected f)
selected_nested f fits =
    let all_kept = selected_kept f fits in
    let labelled = selected_labelled f in
    record {
      at_entry = let w = whole_walk f fits in let inside = w.within (returning f) in inside.tries;
      at_label = λ i next s l o.
          let found = led i next s (kept_of all_kept i next s) l o in
          ap tries_at (labelled.behind_is l found.at found.rest found.there found.has) ∙ found.tries;
      at_try = λ i next s l e. let k = kept_of all_kept i next s in k.pushed l e;
      at_handler = λ i next s raising l tries e.
          let k = kept_of all_kept i next s in
          let h = caught_handler (subst (Caught (selected f).code) e k.catches) in
          ap tries_at (labelled.onto_is l h.at h.rest h.there h.handles) ∙ h.tries;
      at_own_handler = λ i next s l e.
          let k = kept_of all_kept i next s in
          let h = k.handled l e in
          ap tries_at (labelled.onto_is l h.at h.rest h.there h.handles) ∙ h.tries;
      at_exit = λ i next s l n e. let k = kept_of all_kept i next s in k.ends l n e;
      at_end = λ i next s e. let k = kept_of all_kept i next s in k.left e;
    }
