-- What is selected of a tree is what is selected of the tree without its places.
use Rattle.std.proofs.Common.{◌≡◌, ℕ, zero, suc, ◌+◌, ◌%◌, Bool, true, false, not, cond, List, [], ◌∷◌, ◌++◌, Option, refl, sym, ap, ◌∙◌, ◌==◌}
use Rattle.std.specs.Prelude.{nat_le}
use Rattle.bs_words.specs.declared.types.Comp.TheVariants as comp
use Rattle.bs_words.specs.declared.types.Chunk.TheVariants as chunk
use Rattle.bs_words.specs.declared.types.Ty.{Ty}
use Rattle.bs_words.specs.declared.types.Ty.TheVariants as ty
use Rattle.bs_words.specs.Fits.{type_of_comp}
use Rattle.bs_words.specs.declared.operators.IntOp.{IntOp}
use Rattle.bs_words.specs.declared.operators.IntOp.TheVariants as operator
use Rattle.cmm_tree.specs.Tree.{FunctionTree, Parameter, Declaration, Index, Expression, Integer, Pointer, Symbol, Name, Nothing, Float, Let, Assign, Operator, Load, Store, Alloc, App, Extcall, Checkbound, Raise, Seq, If, Switch, Catch, Exit, Try, Expressions, NoMore, More, Bindings, NoBinding, Bind, Cases, NoCase, Choose, Handlers, NoHandler, Handle}
use Rattle.cmm_types.specs.Types.{Scoped, type_of, body_type, result_of}
use Rattle.cmm_meaning.specs.Choices.{is_named}
use Rattle.cmm_meaning.specs.Evaluation.{scoped_parameter}
use Rattle.mach_ir.specs.Formed.{indexes_to_label}
use Rattle.mach_ir.specs.declared.mach.Instr.{Instr}
use Rattle.mach_ir.specs.declared.mach.Mark.TheVariants as mark
use Rattle.mach_ir.specs.declared.mach.Test.TheVariants as test
use Rattle.mach_ir.specs.declared.reg.Reg.{Reg}
use Rattle.mach_ir.specs.Placed.{colour_numbers}
use Rattle.moved_texts.specs.Unplaced.{unplaced, unplaced_row, unplaced_bindings, unplaced_cases, unplaced_handlers, unplaced_parameters, unplaced_declared, unplaced_indexes, unplaced_function, DifferInPlaces}
use Rattle.moved_trees.proofs.Types.{types, light_addresses, left_first, counts, lengths, label_widths, case_counts, widths, bound_widths, arguments_comps, bound_type, bound_mutable, parameters}
use Rattle.selection_rules.specs.Instructions.{bare_mark}
use Rattle.selection_rules.specs.Instructions as emit
use Rattle.selection_rules.specs.Select.{NamedRegister, scopes, Label, fresh_register, Code, move_to, moves_all, ordered, only_when, power_of, right_immediate, left_immediate, shape, power_shape, operation_shape, shape_op, shape_right, shape_args, unless_left, unless_right, operator_code, bound_test_operand, unless_constant, is_based, offset_of, base_of, comparison, fused_test, bound_test, is_no_value, seat, seats, result_seat, from_seat, called_symbol, unless_symbol, call_of, exit_to_handler, inner_valued, params_from, with_params, labels_from, in_handlers, labels_within_try, label_of_last_case, switch_labels, header_offset, raised_name, chunk_for, cell_stores, bound_name, env_after, regs_of, inner_dest, reg_of, visible_label, select, select_test, select_base, select_waiting, select_filled, select_bound, select_seq, select_cases, select_handlers, return_code, first_after_colours, colour_regs, selected}

-- ---- operands

powers : (e : Expression) → power_of (unplaced e) ≡ power_of e
powers (Integer at word) = refl
powers (Pointer at word) = refl
powers (Symbol at name) = refl
powers (Name at name) = refl
powers (Nothing at) = refl
powers (Float at word_at operands) = refl
powers (Let at bindings body) = refl
powers (Assign at name_at name value) = refl
powers (Operator at op left right) = refl
powers (Load at chunk address) = refl
powers (Store at chunk address value) = refl
powers (Alloc at header_at header operands) = refl
powers (App at callee arguments result result_at) = refl
powers (Extcall at frame name arguments result result_at) = refl
powers (Checkbound at bound index) = refl
powers (Raise at value) = refl
powers (Seq at elements) = refl
powers (If at condition on_true on_false) = refl
powers (Switch at size_at size selector cases) = refl
powers (Catch at body handlers) = refl
powers (Exit at label_at label arguments) = refl
powers (Try at body name_at name handler) = refl

rights : (op : IntOp) (e : Expression) → right_immediate op (unplaced e) ≡ right_immediate op e
rights f (Integer at word) = refl
rights f (Pointer at word) = refl
rights f (Symbol at name) = refl
rights f (Name at name) = refl
rights f (Nothing at) = refl
rights f (Float at word_at operands) = refl
rights f (Let at bindings body) = refl
rights f (Assign at name_at name value) = refl
rights f (Operator at op left right) = refl
rights f (Load at chunk address) = refl
rights f (Store at chunk address value) = refl
rights f (Alloc at header_at header operands) = refl
rights f (App at callee arguments result result_at) = refl
rights f (Extcall at frame name arguments result result_at) = refl
rights f (Checkbound at bound index) = refl
rights f (Raise at value) = refl
rights f (Seq at elements) = refl
rights f (If at condition on_true on_false) = refl
rights f (Switch at size_at size selector cases) = refl
rights f (Catch at body handlers) = refl
rights f (Exit at label_at label arguments) = refl
rights f (Try at body name_at name handler) = refl

lefts : (op : IntOp) (e : Expression) → left_immediate op (unplaced e) ≡ left_immediate op e
lefts f (Integer at word) = refl
lefts f (Pointer at word) = refl
lefts f (Symbol at name) = refl
lefts f (Name at name) = refl
lefts f (Nothing at) = refl
lefts f (Float at word_at operands) = refl
lefts f (Let at bindings body) = refl
lefts f (Assign at name_at name value) = refl
lefts f (Operator at op left right) = refl
lefts f (Load at chunk address) = refl
lefts f (Store at chunk address value) = refl
lefts f (Alloc at header_at header operands) = refl
lefts f (App at callee arguments result result_at) = refl
lefts f (Extcall at frame name arguments result result_at) = refl
lefts f (Checkbound at bound index) = refl
lefts f (Raise at value) = refl
lefts f (Seq at elements) = refl
lefts f (If at condition on_true on_false) = refl
lefts f (Switch at size_at size selector cases) = refl
lefts f (Catch at body handlers) = refl
lefts f (Exit at label_at label arguments) = refl
lefts f (Try at body name_at name handler) = refl

pub shapes : (op : IntOp) (l r : Expression) → operation_shape op (unplaced l) (unplaced r) ≡ operation_shape op l r
shapes operator.Add l r = λ i. shape (rights operator.Add r i) (lefts operator.Add l i)
shapes operator.Sub l r = λ i. shape (rights operator.Sub r i) (lefts operator.Sub l i)
shapes operator.Mul l r = λ i. shape (rights operator.Mul r i) (lefts operator.Mul l i)
shapes operator.Mulh l r = λ i. shape (rights operator.Mulh r i) (lefts operator.Mulh l i)
shapes operator.Div l r = λ i. power_shape (powers r i)
shapes operator.Mod l r = λ i. power_shape (powers r i)
shapes operator.And l r = λ i. shape (rights operator.And r i) (lefts operator.And l i)
shapes operator.Or l r = λ i. shape (rights operator.Or r i) (lefts operator.Or l i)
shapes operator.Xor l r = λ i. shape (rights operator.Xor r i) (lefts operator.Xor l i)
shapes operator.Shl l r = λ i. shape (rights operator.Shl r i) (lefts operator.Shl l i)
shapes operator.Shr l r = λ i. shape (rights operator.Shr r i) (lefts operator.Shr l i)
shapes operator.Sar l r = λ i. shape (rights operator.Sar r i) (lefts operator.Sar l i)
shapes (operator.Cmp f) l r = λ i. shape (rights (operator.Cmp f) r i) (lefts (operator.Cmp f) l i)
shapes (operator.CmpU f) l r = λ i. shape (rights (operator.CmpU f) r i) (lefts (operator.CmpU f) l i)
shapes operator.AddV l r = λ i. shape (rights operator.AddV r i) (lefts operator.AddV l i)
shapes operator.AddA l r = λ i. shape (rights operator.AddA r i) (lefts operator.AddA l i)

pub rights_of : (f : IntOp) (e : Expression) → bound_test_operand f (unplaced e) ≡ bound_test_operand f e
rights_of f (Integer at word) = refl
rights_of f (Pointer at word) = refl
rights_of f (Symbol at name) = refl
rights_of f (Name at name) = refl
rights_of f (Nothing at) = refl
rights_of f (Float at word_at operands) = refl
rights_of f (Let at bindings body) = refl
rights_of f (Assign at name_at name value) = refl
rights_of f (Operator at op left right) = refl
rights_of f (Load at chunk address) = refl
rights_of f (Store at chunk address value) = refl
rights_of f (Alloc at header_at header operands) = refl
rights_of f (App at callee arguments result result_at) = refl
rights_of f (Extcall at frame name arguments result result_at) = refl
rights_of f (Checkbound at bound index) = refl
rights_of f (Raise at value) = refl
rights_of f (Seq at elements) = refl
rights_of f (If at condition on_true on_false) = refl
rights_of f (Switch at size_at size selector cases) = refl
rights_of f (Catch at body handlers) = refl
rights_of f (Exit at label_at label arguments) = refl
rights_of f (Try at body name_at name handler) = refl

pub symbols_of : (e : Expression) → called_symbol (unplaced e) ≡ called_symbol e
symbols_of (Integer at word) = refl
symbols_of (Pointer at word) = refl
symbols_of (Symbol at name) = refl
symbols_of (Name at name) = refl
symbols_of (Nothing at) = refl
symbols_of (Float at word_at operands) = refl
symbols_of (Let at bindings body) = refl
symbols_of (Assign at name_at name value) = refl
symbols_of (Operator at op left right) = refl
symbols_of (Load at chunk address) = refl
symbols_of (Store at chunk address value) = refl
symbols_of (Alloc at header_at header operands) = refl
symbols_of (App at callee arguments result result_at) = refl
symbols_of (Extcall at frame name arguments result result_at) = refl
symbols_of (Checkbound at bound index) = refl
symbols_of (Raise at value) = refl
symbols_of (Seq at elements) = refl
symbols_of (If at condition on_true on_false) = refl
symbols_of (Switch at size_at size selector cases) = refl
symbols_of (Catch at body handlers) = refl
symbols_of (Exit at label_at label arguments) = refl
symbols_of (Try at body name_at name handler) = refl

pub offsets_of : (e : Expression) → offset_of (unplaced e) ≡ offset_of e
offsets_of (Integer at word) = refl
offsets_of (Pointer at word) = refl
offsets_of (Symbol at name) = refl
offsets_of (Name at name) = refl
offsets_of (Nothing at) = refl
offsets_of (Float at word_at operands) = refl
offsets_of (Let at bindings body) = refl
offsets_of (Assign at name_at name value) = refl
offsets_of (Operator at op base (Integer at' word')) = refl
offsets_of (Operator at op base (Pointer at' word')) = refl
offsets_of (Operator at op base (Symbol at' name')) = refl
offsets_of (Operator at op base (Name at' name')) = refl
offsets_of (Operator at op base (Nothing at')) = refl
offsets_of (Operator at op base (Float at' word_at' operands')) = refl
offsets_of (Operator at op base (Let at' bindings' body')) = refl
offsets_of (Operator at op base (Assign at' name_at' name' value')) = refl
offsets_of (Operator at op base (Operator at' op' left' right')) = refl
offsets_of (Operator at op base (Load at' chunk' address')) = refl
offsets_of (Operator at op base (Store at' chunk' address' value')) = refl
offsets_of (Operator at op base (Alloc at' header_at' header' operands')) = refl
offsets_of (Operator at op base (App at' callee' arguments' result' result_at')) = refl
offsets_of (Operator at op base (Extcall at' frame' name' arguments' result' result_at')) = refl
offsets_of (Operator at op base (Checkbound at' bound' index')) = refl
offsets_of (Operator at op base (Raise at' value')) = refl
offsets_of (Operator at op base (Seq at' elements')) = refl
offsets_of (Operator at op base (If at' condition' on_true' on_false')) = refl
offsets_of (Operator at op base (Switch at' size_at' size' selector' cases')) = refl
offsets_of (Operator at op base (Catch at' body' handlers')) = refl
offsets_of (Operator at op base (Exit at' label_at' label' arguments')) = refl
offsets_of (Operator at op base (Try at' body' name_at' name' handler')) = refl
offsets_of (Load at chunk address) = refl
offsets_of (Store at chunk address value) = refl
offsets_of (Alloc at header_at header operands) = refl
offsets_of (App at callee arguments result result_at) = refl
offsets_of (Extcall at frame name arguments result result_at) = refl
offsets_of (Checkbound at bound index) = refl
offsets_of (Raise at value) = refl
offsets_of (Seq at elements) = refl
offsets_of (If at condition on_true on_false) = refl
offsets_of (Switch at size_at size selector cases) = refl
offsets_of (Catch at body handlers) = refl
offsets_of (Exit at label_at label arguments) = refl
offsets_of (Try at body name_at name handler) = refl

one_of : (c : Bool) (x y : Expression) → cond c (unplaced x) (unplaced y) ≡ unplaced (cond c x y)
one_of true x y = refl
one_of false x y = refl

pub bases : (e : Expression) → base_of (unplaced e) ≡ unplaced (base_of e)
bases (Integer at word) = refl
bases (Pointer at word) = refl
bases (Symbol at name) = refl
bases (Name at name) = refl
bases (Nothing at) = refl
bases (Float at word_at operands) = refl
bases (Let at bindings body) = refl
bases (Assign at name_at name value) = refl
bases (Operator at op base (Integer at' word')) = one_of (is_based op word') base (Operator at op base (Integer at' word'))
bases (Operator at op base (Pointer at' word')) = refl
bases (Operator at op base (Symbol at' name')) = refl
bases (Operator at op base (Name at' name')) = refl
bases (Operator at op base (Nothing at')) = refl
bases (Operator at op base (Float at' word_at' operands')) = refl
bases (Operator at op base (Let at' bindings' body')) = refl
bases (Operator at op base (Assign at' name_at' name' value')) = refl
bases (Operator at op base (Operator at' op' left' right')) = refl
bases (Operator at op base (Load at' chunk' address')) = refl
bases (Operator at op base (Store at' chunk' address' value')) = refl
bases (Operator at op base (Alloc at' header_at' header' operands')) = refl
bases (Operator at op base (App at' callee' arguments' result' result_at')) = refl
bases (Operator at op base (Extcall at' frame' name' arguments' result' result_at')) = refl
bases (Operator at op base (Checkbound at' bound' index')) = refl
bases (Operator at op base (Raise at' value')) = refl
bases (Operator at op base (Seq at' elements')) = refl
bases (Operator at op base (If at' condition' on_true' on_false')) = refl
bases (Operator at op base (Switch at' size_at' size' selector' cases')) = refl
bases (Operator at op base (Catch at' body' handlers')) = refl
bases (Operator at op base (Exit at' label_at' label' arguments')) = refl
bases (Operator at op base (Try at' body' name_at' name' handler')) = refl
bases (Load at chunk address) = refl
bases (Store at chunk address value) = refl
bases (Alloc at header_at header operands) = refl
bases (App at callee arguments result result_at) = refl
bases (Extcall at frame name arguments result result_at) = refl
bases (Checkbound at bound index) = refl
bases (Raise at value) = refl
bases (Seq at elements) = refl
bases (If at condition on_true on_false) = refl
bases (Switch at size_at size selector cases) = refl
bases (Catch at body handlers) = refl
bases (Exit at label_at label arguments) = refl
bases (Try at body name_at name handler) = refl

base_types : (e : Expression) (s : List Scoped) → type_of s (base_of (unplaced e)) ≡ type_of s (base_of e)
base_types e s = ap (type_of s) (bases e) ∙ types (base_of e) s

-- ---- what is in scope

pub params : (b : ℕ) (ps : List Parameter) → params_from b (unplaced_parameters ps) ≡ params_from b ps
params b [] = refl
params b (p ∷ ps) = λ i. fresh_register b (type_of_comp p.comp) ∷ params (suc b) ps i

pub params_in : (ps : List Parameter) (rs : List Reg) (env : List NamedRegister) → with_params (unplaced_parameters ps) rs env ≡ with_params ps rs env
params_in [] rs env = refl
params_in (p ∷ ps) [] env = refl
params_in (p ∷ ps) (r ∷ rs) env = params_in ps rs (record { scoped = scoped_parameter p; reg = r } ∷ env)

handler_labels : (h : Handlers) (b : ℕ) → labels_from b (unplaced_handlers h) ≡ labels_from b h
handler_labels NoHandler b = refl
handler_labels (Handle at label ps body rest) b =
    λ i. record { label = label; params = params (suc b) ps i; number = b; tries = 0 } ∷ handler_labels rest (suc b + lengths ps i) i

names_of : (is : List Index) (k : ℕ) → is_named (unplaced_indexes is) k ≡ is_named is k
names_of [] k = refl
names_of (j ∷ is) k = λ i. cond (j.index == k) true (names_of is k i)

last_labels : (c : Cases) (l k so_far : ℕ) → label_of_last_case l (unplaced_cases c) k so_far ≡ label_of_last_case l c k so_far
last_labels NoCase l k so_far = refl
last_labels (Choose indexes body rest) l k so_far =
    λ i. last_labels rest (suc l) k (cond (names_of indexes k i) l so_far) i

switches : (c : Cases) (l k n : ℕ) → switch_labels l (unplaced_cases c) k n ≡ switch_labels l c k n
switches c l k zero = refl
switches c l k (suc n) = λ i. last_labels c l k l i ∷ switches c l (suc k) n i

bound_names : (env : List NamedRegister) (b : ℕ) (name : List ℕ) (d : Option Declaration) (e : Expression) →
    bound_name env b name (unplaced_declared d) (unplaced e) ≡ bound_name env b name d e
bound_names env b name d e =
    λ i.
    let type : Ty = bound_type d (types e (scopes env) i) i in
    record { scoped = record { name = name; type = type; mutable = bound_mutable d i }; reg = fresh_register b type }

env_afters : (bs : Bindings) (env : List NamedRegister) (b : ℕ) → env_after env b (unplaced_bindings bs) ≡ env_after env b bs
env_afters NoBinding env b = refl
env_afters (Bind at name declared e rest) env b =
    λ i. env_afters rest (bound_names env b name declared e i ∷ env) (suc (b + widths e i)) i

rows_of : (r : Expressions) (env : List NamedRegister) (b : ℕ) → regs_of env b (unplaced_row r) ≡ regs_of env b r
rows_of NoMore env b = refl
rows_of (More e rest) env b = λ i. fresh_register b (types e (scopes env) i) ∷ rows_of rest env (suc b) i

-- ---- code

mutual
  pub codes : (e : Expression) (env : List NamedRegister) (labels : List Label) (valued tail : Bool) (d : Reg) (b : ℕ) (next : List Instr) →
      select env labels valued tail d b (unplaced e) next ≡ select env labels valued tail d b e next
  codes (Integer at word) env labels valued tail d b next = refl
  codes (Pointer at word) env labels valued tail d b next = refl
  codes (Symbol at name) env labels valued tail d b next = refl
  codes (Name at name) env labels valued tail d b next = refl
  codes (Nothing at) env labels valued tail d b next = refl
  codes (Float at word_at operands) env labels valued tail d b next = refl
  codes (Let at bindings body) env labels valued tail d b next =
      λ i.
      let type = types (Let at bindings body) (scopes env) i in
      let inner = env_afters bindings env (suc b) i in
      let base = suc b + bound_widths bindings i in
      bound_codes bindings env labels (suc b)
      (codes body inner labels (inner_valued valued type) tail (inner_dest type b d) base next i) i
  codes (Assign at name_at name value) env labels valued tail d b next =
      λ i.
      let t = fresh_register (suc b) (types value (scopes env) i) in
      codes value env labels false false t (suc (suc b)) (move_to t (reg_of env name) next) i
  codes (Operator at op left right) env labels valued tail d b next =
      λ i.
      let x = fresh_register (suc b) (types left (scopes env) i) in
      let y = fresh_register (suc (suc b)) (types right (scopes env) i) in
      let s = shapes op left right i in
      let type = types (Operator at op left right) (scopes env) i in
      ordered (left_first (scopes env) left right i)
      (unless_left s (λ n. codes left env labels false false x (suc (suc (suc b))) n i))
      (unless_right s (λ n. codes right env labels false false y (suc (suc (suc b)) + widths left i) n i))
      (operator_code s op x y (inner_dest type b d) next)
  codes (Load at chunk address) env labels valued tail d b next =
      λ i.
      let x = fresh_register (suc b) (base_types address (scopes env) i) in
      let v = fresh_register (suc b) (types address (scopes env) i) in
      let type = types (Load at chunk address) (scopes env) i in
      base_codes address env labels (suc b) (suc (suc b))
      (λ n. codes address env labels false false v (suc (suc b)) n i)
      (emit.load chunk (offsets_of address i) x (inner_dest type b d) ∷ next) i
  codes (Store at chunk address value) env labels valued tail d b next =
      λ i.
      let x = fresh_register (suc b) (base_types address (scopes env) i) in
      let y = fresh_register (suc (suc b)) (types value (scopes env) i) in
      let v = fresh_register (suc b) (types address (scopes env) i) in
      ordered (left_first (scopes env) address value i)
      (λ m. base_codes address env labels (suc b) (suc (suc (suc b))) (λ n. codes address env labels false false v (suc (suc (suc b))) n i) m i)
      (λ n. codes value env labels false false y (suc (suc (suc b)) + widths address i) n i)
      (emit.store chunk (offsets_of address i) x y ∷ next)
  codes (Alloc at header_at header operands) env labels valued tail d b next =
      λ i.
      let p = fresh_register (suc b) ty.Val in
      let q = fresh_register (suc (suc b)) ty.Int in
      let row = suc (suc (suc b)) in
      let base = row + counts operands i in
      let type = types (Alloc at header_at header operands) (scopes env) i in
      waiting_codes operands env labels row base
      (emit.alloc (record { header = header; cells = counts operands i }) p
      ∷ emit.constant header q
      ∷ emit.store chunk.Int header_offset p q
      ∷ filled_codes operands env labels row base
      (cell_stores (chunk_for (nat_le (header % 256) 250)) p 0 (rows_of operands env row i)
      (emit.move p (inner_dest type b d) ∷ next)) i) i
  codes (App at callee arguments result result_at) env labels valued tail d b next =
      λ i.
      let type = types (App at callee arguments result result_at) (scopes env) i in
      let f = fresh_register (suc b) (types callee (scopes env) i) in
      let row = suc (suc b) in
      let seated = row + counts arguments i in
      let given = seated + counts arguments i in
      let base = suc given in
      let light = light_addresses callee (scopes env) i in
      let regs = rows_of arguments env row i in
      let args = seats 0 seated regs in
      let name = symbols_of callee i in
      let wants = inner_valued valued type in
      waiting_codes arguments env labels row (base + widths callee i)
      (only_when (not light) (unless_symbol name (λ n. codes callee env labels false false f base n i))
      (filled_codes arguments env labels row (base + widths callee i)
      (only_when light (λ n. codes callee env labels false false f base n i)
      (moves_all regs args
      (call_of tail wants result name f args given (inner_dest type b d) next))) i)) i
  codes (Extcall at frame name arguments result result_at) env labels valued tail d b next =
      λ i.
      let type = types (Extcall at frame name arguments result result_at) (scopes env) i in
      let row = suc b in
      let seated = row + counts arguments i in
      let given = seated + counts arguments i in
      let regs = rows_of arguments env row i in
      let comps = arguments_comps arguments (scopes env) i in
      waiting_codes arguments env labels row (suc given)
      (filled_codes arguments env labels row (suc given)
      (moves_all regs (seats 0 seated regs)
      (emit.external_instruction name comps result frame (seats 0 seated regs) (result_seat given result)
      ∷ from_seat given result (inner_dest type b d) next)) i) i
  codes (Checkbound at bound index) env labels valued tail d b next =
      λ i.
      let x = fresh_register (suc b) (types bound (scopes env) i) in
      let y = fresh_register (suc (suc b)) (types index (scopes env) i) in
      let r = rights_of bound_test index i in
      ordered (left_first (scopes env) bound index i)
      (λ n. codes bound env labels false false x (suc (suc (suc b))) n i)
      (unless_constant r (λ n. codes index env labels false false y (suc (suc (suc b)) + widths bound i) n i))
      (emit.checkbound_instr r x y ∷ next)
  codes (Raise at value) env labels valued tail d b next =
      λ i.
      let x = fresh_register (suc b) (types value (scopes env) i) in
      let y = seat 0 (suc (suc b)) comp.Val in
      codes value env labels false false x (suc (suc (suc b))) (emit.move x y ∷ emit.raising y ∷ next) i
  codes (Seq at elements) env labels valued tail d b next =
      λ i.
      let type = types (Seq at elements) (scopes env) i in
      let wants = inner_valued valued type in
      seq_codes elements env labels wants tail (inner_dest type b d) (suc b) next i
  codes (If at condition on_true on_false) env labels valued tail d b next =
      λ i.
      let type = types (If at condition on_true on_false) (scopes env) i in
      let t = fresh_register (suc b) (types condition (scopes env) i) in
      let l = suc (suc b) in
      let end = suc (suc (suc b)) in
      let base = suc (suc (suc (suc b))) in
      let wants = inner_valued valued type in
      let own = inner_dest type b d in
      let last = bare_mark (mark.End end) ∷ next in
      let false_at = base + widths condition i + widths on_true i in
      let false_code = codes on_false env labels wants tail own false_at last i in
      let else_code = bare_mark (mark.Else l end) ∷ false_code in
      let true_code = codes on_true env labels wants tail own (base + widths condition i) else_code i in
      let test_code = emit.branch test.Holds l (t ∷ []) ∷ true_code in
      let value_code = codes condition env labels false false t base test_code i in
      test_codes condition env labels l base value_code true_code i
  codes (Switch at size_at size selector cases) env labels valued tail d b next =
      λ i.
      let type = types (Switch at size_at size selector cases) (scopes env) i in
      let x = fresh_register (suc b) (types selector (scopes env) i) in
      let end = suc (suc b) in
      let l = suc (suc (suc b)) in
      let base = l + case_counts cases i in
      let all = switches cases l 0 size i in
      let wants = inner_valued valued type in
      let d' = inner_dest type b d in
      codes selector env labels false false x base
      (emit.choose all x
      ∷ case_codes cases env labels wants tail d' all end l (base + widths selector i)
      (bare_mark (mark.End end) ∷ next) i) i
  codes (Catch at body handlers) env labels valued tail d b next =
      λ i.
      let type = types (Catch at body handlers) (scopes env) i in
      let end = suc b in
      let own = handler_labels handlers (suc (suc b)) i in
      let base = suc (suc b) + label_widths handlers i in
      let wants = inner_valued valued type in
      let d' = inner_dest type b d in
      let inside = in_handlers own ++ labels in
      bare_mark mark.Catch
      ∷ codes body env (own ++ labels) wants tail d' base
      (handler_codes handlers env inside wants tail d' end (suc (suc b)) (base + widths body i)
      (bare_mark (mark.End end) ∷ next) i) i
  codes (Exit at label_at label arguments) env labels valued tail d b next =
      λ i.
      waiting_codes arguments env labels (suc b) (suc b + counts arguments i)
      (filled_codes arguments env labels (suc b) (suc b + counts arguments i)
      (exit_to_handler (visible_label labels label) (rows_of arguments env (suc b) i) next) i) i
  codes (Try at body name_at name handler) env labels valued tail d b next =
      λ i.
      let type = types (Try at body name_at name handler) (scopes env) i in
      let l = suc b in
      let end = suc (suc b) in
      let x = raised_name name (suc (suc (suc b))) in
      let y = seat 0 (suc (suc (suc (suc b)))) comp.Val in
      let base = suc (suc (suc (suc (suc b)))) in
      let wants = inner_valued valued type in
      let d' = inner_dest type b d in
      bare_mark (mark.Try l)
      ∷ codes body env (labels_within_try labels) wants false d' base
      (bare_mark (mark.Leave l end)
      ∷ emit.handler l y
      ∷ emit.move y x.reg
      ∷ codes handler (x ∷ env) labels wants tail d' (base + widths body i)
      (bare_mark (mark.End end) ∷ next) i) i

  test_codes : (e : Expression) (env : List NamedRegister) (labels : List Label) (l b : ℕ) (otherwise next : List Instr) →
      select_test env labels l b (unplaced e) otherwise next ≡ select_test env labels l b e otherwise next
  test_codes (Integer at word) env labels l b otherwise next = refl
  test_codes (Pointer at word) env labels l b otherwise next = refl
  test_codes (Symbol at name) env labels l b otherwise next = refl
  test_codes (Name at name) env labels l b otherwise next = refl
  test_codes (Nothing at) env labels l b otherwise next = refl
  test_codes (Float at word_at operands) env labels l b otherwise next = refl
  test_codes (Let at bindings body) env labels l b otherwise next = refl
  test_codes (Assign at name_at name value) env labels l b otherwise next = refl
  test_codes (Operator at op left right) env labels l b otherwise next =
      λ i.
      let x = fresh_register (suc b) (types left (scopes env) i) in
      let y = fresh_register (suc (suc b)) (types right (scopes env) i) in
      let s = shapes op left right i in
      fused_test (comparison (shape_op s op) (shape_right s))
      (λ t.
      ordered (left_first (scopes env) left right i)
      (unless_left s (λ n. codes left env labels false false x (suc (suc (suc b))) n i))
      (unless_right s (λ n. codes right env labels false false y (suc (suc (suc b)) + widths left i) n i))
      (emit.branch t l (shape_args s x y) ∷ next))
      otherwise
  test_codes (Load at chunk address) env labels l b otherwise next = refl
  test_codes (Store at chunk address value) env labels l b otherwise next = refl
  test_codes (Alloc at header_at header operands) env labels l b otherwise next = refl
  test_codes (App at callee arguments result result_at) env labels l b otherwise next = refl
  test_codes (Extcall at frame name arguments result result_at) env labels l b otherwise next = refl
  test_codes (Checkbound at bound index) env labels l b otherwise next = refl
  test_codes (Raise at value) env labels l b otherwise next = refl
  test_codes (Seq at elements) env labels l b otherwise next = refl
  test_codes (If at condition on_true on_false) env labels l b otherwise next = refl
  test_codes (Switch at size_at size selector cases) env labels l b otherwise next = refl
  test_codes (Catch at body handlers) env labels l b otherwise next = refl
  test_codes (Exit at label_at label arguments) env labels l b otherwise next = refl
  test_codes (Try at body name_at name handler) env labels l b otherwise next = refl

  base_codes : (e : Expression) (env : List NamedRegister) (labels : List Label) (t b : ℕ) (whole : Code) (next : List Instr) →
      select_base env labels t b (unplaced e) whole next ≡ select_base env labels t b e whole next
  base_codes (Integer at word) env labels t b whole next = refl
  base_codes (Pointer at word) env labels t b whole next = refl
  base_codes (Symbol at name) env labels t b whole next = refl
  base_codes (Name at name) env labels t b whole next = refl
  base_codes (Nothing at) env labels t b whole next = refl
  base_codes (Float at word_at operands) env labels t b whole next = refl
  base_codes (Let at bindings body) env labels t b whole next = refl
  base_codes (Assign at name_at name value) env labels t b whole next = refl
  base_codes (Operator at op base (Integer at' word')) env labels t b whole next =
      λ i.
      let x = fresh_register t (types base (scopes env) i) in
      cond (is_based op word') (codes base env labels false false x b next i) (whole next)
  base_codes (Operator at op base (Pointer at' word')) env labels t b whole next = refl
  base_codes (Operator at op base (Symbol at' name')) env labels t b whole next = refl
  base_codes (Operator at op base (Name at' name')) env labels t b whole next = refl
  base_codes (Operator at op base (Nothing at')) env labels t b whole next = refl
  base_codes (Operator at op base (Float at' word_at' operands')) env labels t b whole next = refl
  base_codes (Operator at op base (Let at' bindings' body')) env labels t b whole next = refl
  base_codes (Operator at op base (Assign at' name_at' name' value')) env labels t b whole next = refl
  base_codes (Operator at op base (Operator at' op' left' right')) env labels t b whole next = refl
  base_codes (Operator at op base (Load at' chunk' address')) env labels t b whole next = refl
  base_codes (Operator at op base (Store at' chunk' address' value')) env labels t b whole next = refl
  base_codes (Operator at op base (Alloc at' header_at' header' operands')) env labels t b whole next = refl
  base_codes (Operator at op base (App at' callee' arguments' result' result_at')) env labels t b whole next = refl
  base_codes (Operator at op base (Extcall at' frame' name' arguments' result' result_at')) env labels t b whole next = refl
  base_codes (Operator at op base (Checkbound at' bound' index')) env labels t b whole next = refl
  base_codes (Operator at op base (Raise at' value')) env labels t b whole next = refl
  base_codes (Operator at op base (Seq at' elements')) env labels t b whole next = refl
  base_codes (Operator at op base (If at' condition' on_true' on_false')) env labels t b whole next = refl
  base_codes (Operator at op base (Switch at' size_at' size' selector' cases')) env labels t b whole next = refl
  base_codes (Operator at op base (Catch at' body' handlers')) env labels t b whole next = refl
  base_codes (Operator at op base (Exit at' label_at' label' arguments')) env labels t b whole next = refl
  base_codes (Operator at op base (Try at' body' name_at' name' handler')) env labels t b whole next = refl
  base_codes (Load at chunk address) env labels t b whole next = refl
  base_codes (Store at chunk address value) env labels t b whole next = refl
  base_codes (Alloc at header_at header operands) env labels t b whole next = refl
  base_codes (App at callee arguments result result_at) env labels t b whole next = refl
  base_codes (Extcall at frame name arguments result result_at) env labels t b whole next = refl
  base_codes (Checkbound at bound index) env labels t b whole next = refl
  base_codes (Raise at value) env labels t b whole next = refl
  base_codes (Seq at elements) env labels t b whole next = refl
  base_codes (If at condition on_true on_false) env labels t b whole next = refl
  base_codes (Switch at size_at size selector cases) env labels t b whole next = refl
  base_codes (Catch at body handlers) env labels t b whole next = refl
  base_codes (Exit at label_at label arguments) env labels t b whole next = refl
  base_codes (Try at body name_at name handler) env labels t b whole next = refl

  waiting_codes : (r : Expressions) (env : List NamedRegister) (labels : List Label) (b i : ℕ) (next : List Instr) →
      select_waiting env labels b i (unplaced_row r) next ≡ select_waiting env labels b i r next
  waiting_codes NoMore env labels b k next = refl
  waiting_codes (More e rest) env labels b k next =
      λ i.
      let r = fresh_register b (types e (scopes env) i) in
      let now = not (light_addresses e (scopes env) i) in
      waiting_codes rest env labels (suc b) (k + widths e i)
      (only_when now (λ n. codes e env labels false false r k n i) next) i

  filled_codes : (r : Expressions) (env : List NamedRegister) (labels : List Label) (b i : ℕ) (next : List Instr) →
      select_filled env labels b i (unplaced_row r) next ≡ select_filled env labels b i r next
  filled_codes NoMore env labels b k next = refl
  filled_codes (More e rest) env labels b k next =
      λ i.
      let r = fresh_register b (types e (scopes env) i) in
      filled_codes rest env labels (suc b) (k + widths e i)
      (only_when (light_addresses e (scopes env) i) (λ n. codes e env labels false false r k n i) next) i

  bound_codes : (bs : Bindings) (env : List NamedRegister) (labels : List Label) (b : ℕ) (next : List Instr) →
      select_bound env labels b (unplaced_bindings bs) next ≡ select_bound env labels b bs next
  bound_codes NoBinding env labels b next = refl
  bound_codes (Bind at name declared e rest) env labels b next =
      λ i.
      let x = bound_names env b name declared e i in
      codes e env labels false false x.reg (suc b)
      (bound_codes rest (x ∷ env) labels (suc (b + widths e i)) next i) i

  seq_codes : (r : Expressions) (env : List NamedRegister) (labels : List Label) (valued tail : Bool) (d : Reg) (b : ℕ) (next : List Instr) →
      select_seq env labels valued tail d b (unplaced_row r) next ≡ select_seq env labels valued tail d b r next
  seq_codes NoMore env labels valued tail d b next = refl
  seq_codes (More e NoMore) env labels valued tail d b next = codes e env labels valued tail d (suc b) next
  seq_codes (More e (More g rest)) env labels valued tail d b next =
      λ i.
      let r = fresh_register b (types e (scopes env) i) in
      codes e env labels false false r (suc b)
      (seq_codes (More g rest) env labels valued tail d (suc (b + widths e i)) next i) i

  case_codes : (c : Cases) (env : List NamedRegister) (labels : List Label) (valued tail : Bool) (d : Reg) (all : List ℕ) (end l b : ℕ) (next : List Instr) →
      select_cases env labels valued tail d all end l b (unplaced_cases c) next ≡ select_cases env labels valued tail d all end l b c next
  case_codes NoCase env labels valued tail d all end l b next = refl
  case_codes (Choose indexes body rest) env labels valued tail d all end l b next =
      λ i.
      bare_mark (mark.Case (indexes_to_label l 0 all) l end)
      ∷ codes body env labels valued tail d b
      (case_codes rest env labels valued tail d all end (suc l) (b + widths body i) next i) i

  handler_codes : (h : Handlers) (env : List NamedRegister) (labels : List Label) (valued tail : Bool) (d : Reg) (end l b : ℕ) (next : List Instr) →
      select_handlers env labels valued tail d end l b (unplaced_handlers h) next ≡ select_handlers env labels valued tail d end l b h next
  handler_codes NoHandler env labels valued tail d end l b next = refl
  handler_codes (Handle at label ps body rest) env labels valued tail d end l b next =
      λ i.
      bare_mark (mark.With l end)
      ∷ codes body (params_in ps (params (suc l) ps i) env i) labels valued tail d b
      (handler_codes rest env labels valued tail d end (suc l + lengths ps i) (b + widths body i) next i) i

-- ---- functions

pub body_types : (f : FunctionTree) → body_type (unplaced_function f) ≡ body_type f
body_types f = λ i. types f.body (parameters f.params [] i) i

unplaced_selected : (f : FunctionTree) → selected (unplaced_function f) ≡ selected f
unplaced_selected f =
    λ i.
    let type : Ty = body_types f i in
    let moved = first_after_colours + lengths f.params i in
    let params = params moved f.params i in
    let n = moved + lengths f.params i in
    let from = suc (suc n) in
    let env = params_in f.params params [] i in
    record {
      name = f.name;
      params = seats 0 first_after_colours params;
      result = result_of type;
      labels = from + widths f.body i;
      colours = colour_regs 0 colour_numbers;
      code =
          moves_all (seats 0 first_after_colours params) params
          (codes f.body env [] (not (is_no_value type)) true (fresh_register n type) from
          (return_code (fresh_register n type) (suc n) (result_of type)) i);
    }

-- Of two functions that differ in places alone the same is selected.
pub selected_once : (f g : FunctionTree) → DifferInPlaces f g → selected f ≡ selected g
selected_once f g d = sym (unplaced_selected f) ∙ ap selected d.same ∙ unplaced_selected g
