-- Selected code has few words, operands and frame points.
use Rattle.std.proofs.Common.{◌≡◌, ℕ, zero, suc, ◌+◌, ◌*◌, ◌≤◌, length, Bool, true, false, not, cond, List, [], ◌∷◌, ◌++◌, Some, refl, arith}
use Rattle.bs_words.specs.declared.types.Comp.TheVariants as comp
use Rattle.bs_words.specs.declared.types.Ret.{Ret}
use Rattle.bs_words.specs.declared.types.Ret.TheVariants as ret
use Rattle.bs_words.specs.declared.types.Ty.TheVariants as ty
use Rattle.cmm_tree.specs.Measures.{row_total, bindings_total, cases_total, handlers_total, counts_one, nodes_in, own_indexes, count_of}
use Rattle.cmm_tree.specs.Tree.{FunctionTree, LabelTree, same_label, is_bare, Expression, Integer, Pointer, Symbol, Name, Nothing, Float, Let, Assign, Operator, Load, Store, Alloc, App, Extcall, Checkbound, Raise, Seq, If, Switch, Catch, Exit, Try, Expressions, NoMore, More, Bindings, NoBinding, Bind, Cases, NoCase, Choose, Handlers, NoHandler, Handle}
use Rattle.cmm_types.specs.Light.{is_light_address}
use Rattle.cmm_types.specs.Types.{result_of, body_type, type_of}
use Rattle.cmm_meaning.specs.Evaluation.{is_left_first}
use Rattle.correctness.specs.Measures.{is_frame_point, frame_points, switch_indexes, tries_in, tries_in_row, tries_in_bindings, tries_in_cases, tries_in_handlers, tries}
use Rattle.mach_ir.specs.Sizes.{operand_count}
use Rattle.mach_ir.specs.declared.mach.Test.TheVariants as test
use Rattle.mach_ir.specs.declared.reg.Reg.{Reg}
use Rattle.selection_rules.specs.Instructions as emit
use Rattle.selection_rules.specs.Select.{Code, operation_shape, shape_op, shape_right, NamedRegister, Label, scopes, reg_of, visible_label, moves_all, exit_to_handler, called_symbol, bound_test_operand, bound_test, comparison, is_based, seat, select_base, select_test, regs_of, select, select_waiting, select_filled, select_bound, select_seq, select_cases, select_handlers, labels_within_try, labels_from, in_handlers, unless_bare_mark, switch_labels, return_code, selected, first_after_colours, is_no_value, fresh_register, seats}
use Rattle.selection_rules.proofs.Rows.{regs_length, seats_length}
use Rattle.selection_rules.proofs.Exits.{params_length}
use Rattle.selection_places.proofs.Whole.{moved_at, value_at, params_of, env_of}
use Rattle.pass_rules.specs.Measures.{code_words, one_if_true, code_points}
use Rattle.selection_places.proofs.Adds.{part_both, now_of, later_of, in_parts}
use Rattle.selection_sizes.proofs.Sums.{most, points, some_nodes, row_points, row_most}
use Rattle.selection_sizes.proofs.Weights.{Weighs, weight, w_up, w_then, w_none, w_pure, w_alloc, w_load, w_store, w_raising, w_checkbound, w_branch, w_choose, w_handler, w_else, w_end, w_catch, w_with, w_case, w_try, w_leave, w_exits, w_move, w_from, w_to, w_moves, w_cells, w_ordered, w_when, w_unless, w_constant, w_left, w_right, w_tested, w_if, w_operator, w_call, w_external, w_compare}

-- ---- labels

-- at most so many tries are between each label and here
abbrev Shallow : ℕ → List Label → Type 0
Shallow k [] = Unit {0}
Shallow k (t ∷ labels) = (t.tries ≤ k) × Shallow k labels

one_deeper : (k : ℕ) (labels : List Label) → Shallow k labels → Shallow (suc k) (labels_within_try labels)
one_deeper k [] s = tt
one_deeper k (t ∷ labels) s = let here : t.tries ≤ k = s.0 in (omega (arith, here), one_deeper k labels s.1)

both_shallow : (k : ℕ) (own labels : List Label) → Shallow k own → Shallow k labels → Shallow k (own ++ labels)
both_shallow k [] labels s r = r
both_shallow k (t ∷ own) labels s r = (s.0, both_shallow k own labels s.1 r)

new_shallow : (k b : ℕ) (hs : Handlers) → Shallow k (labels_from b hs)
new_shallow k b NoHandler = tt
new_shallow k b (Handle at label params body rest) = (omega arith, new_shallow k (suc b + length params) rest)

inside_shallow : (k : ℕ) (labels : List Label) → Shallow k labels → Shallow k (in_handlers labels)
inside_shallow k [] s = tt
inside_shallow k (t ∷ labels) s = by (is_bare t.label) (in_handlers labels) (inside_shallow k labels s.1)
  where
    by : (b : Bool) (others : List Label) → Shallow k others → Shallow k (unless_bare_mark b t others)
    by true others r = r
    by false others r = (s.0, r)

w_exit : (k : ℕ) (labels : List Label) (l : LabelTree) (from : List Reg) → Shallow k labels → k ≤ 250 →
    Weighs (30 * length from + 502) 0 (exit_to_handler (visible_label labels l) from)
w_exit k [] l from s few = w_up (omega arith) (omega arith) w_none
w_exit k (t ∷ labels) l from s few = by (same_label l t.label) (w_exit k labels l from s.1 few)
  where
    by : (b : Bool) → Weighs (30 * length from + 502) 0 (exit_to_handler (visible_label labels l) from) →
        Weighs (30 * length from + 502) 0 (exit_to_handler (cond b (Some t) (visible_label labels l)) from)
    by true others = let here : t.tries ≤ k = s.0 in w_up (omega (arith, here, few)) (omega arith) (w_then (w_moves from t.params) (w_exits t.number t.tries))
    by false others = others

labels_count : (l : ℕ) (cs : Cases) (k n : ℕ) → length (switch_labels l cs k n) ≡ n
labels_count l cs k zero = refl
labels_count l cs k (suc n) = let others = labels_count l cs (suc k) n in omega (arith, others)

extcall_points : (at : ℕ) (frame : Bool) (name : List ℕ) (arguments : Expressions) (result : Ret) (result_at now later : ℕ) →
    now + later ≡ row_total is_frame_point arguments →
    now + (later + (0 + one_if_true frame)) ≤ points (Extcall at frame name arguments result result_at)
extcall_points at true name arguments result result_at now later same = omega (arith, same)
extcall_points at false name arguments result result_at now later same = omega (arith, same)

-- ---- expressions

mutual
  w_select : (k : ℕ) (env : List NamedRegister) (labels : List Label) (valued tail : Bool) (d : Reg) (b : ℕ) (e : Expression) → Shallow k labels →
      k + tries_in e ≤ 250 → Weighs (most e) (points e) (select env labels valued tail d b e)
  w_select k env labels valued tail d b (Integer at w) s few = w_up (omega arith) (omega arith) (w_pure _ [] _)
  w_select k env labels valued tail d b (Pointer at w) s few = w_up (omega arith) (omega arith) (w_pure _ [] _)
  w_select k env labels valued tail d b (Symbol at name) s few = w_up (omega arith) (omega arith) (w_pure _ [] _)
  w_select k env labels valued tail d b (Name at x) s few = w_up (omega arith) (omega arith) (w_from (reg_of env x) _)
  w_select k env labels valued tail d b (Nothing at) s few = w_up (omega arith) (omega arith) w_none
  w_select k env labels valued tail d b (Float at word_at operands) s few = w_up (omega arith) (omega arith) w_none
  w_select k env labels valued tail d b (Let at bindings body) s few =
      w_up (omega arith) (omega arith)
      (w_then (w_bound k env labels (suc b) bindings s (omega (arith, few))) (w_select k _ labels _ tail _ _ body s (omega (arith, few))))
  w_select k env labels valued tail d b (Assign at name_at name e) s few =
      w_up (omega arith) (omega arith)
      (w_then (w_select k env labels false false _ _ e s few) (w_to _ (reg_of env name)))
  w_select k env labels valued tail d b (Operator at op e g) s few =
      let shape = operation_shape op e g in
      w_up (omega arith) (omega arith)
      (w_then (w_ordered (is_left_first (scopes env) e g) (w_left shape (w_select k env labels false false _ _ e s (omega (arith, few))))
      (w_right shape (w_select k env labels false false _ _ g s (omega (arith, few))))) (w_operator shape op _ _ _))
  w_select k env labels valued tail d b (App at callee arguments result result_at) s few =
      let light = is_light_address (scopes env) callee in
      let regs = regs_of env (suc (suc b)) arguments in
      let words = part_both light (most callee) in
      let calls = part_both light (points callee) in
      let some = some_nodes callee in
      let all = in_parts most env arguments in
      let each = row_most arguments in
      let all_points = in_parts points env arguments in
      let each_point = row_points arguments in
      let count = regs_length env (suc (suc b)) arguments in
      let seated = seats_length 0 (suc (suc b) + count_of arguments) regs in
      w_up (omega (arith, words, some, all, each, count, seated)) (omega (arith, calls, all_points, each_point))
      (w_then (w_waiting k env labels _ _ arguments s (omega (arith, few)))
      (w_then (w_when (not light) (most callee) (points callee)
      (w_unless (called_symbol callee) (w_select k env labels false false _ _ callee s (omega (arith, few)))))
      (w_then (w_filled k env labels _ _ arguments s (omega (arith, few)))
      (w_then (w_when light (most callee) (points callee) (w_select k env labels false false _ _ callee s (omega (arith, few))))
      (w_then (w_moves regs _) (w_call tail _ result (called_symbol callee) _ (seats 0 (suc (suc b) + count_of arguments) regs) _ _))))))
  w_select k env labels valued tail d b (Extcall at frame name arguments result result_at) s few =
      let regs = regs_of env (suc b) arguments in
      let all = in_parts most env arguments in
      let each = row_most arguments in
      let all_points = in_parts points env arguments in
      let each_point = row_points arguments in
      let count = regs_length env (suc b) arguments in
      let seated = seats_length 0 (suc b + count_of arguments) regs in
      w_up (omega (arith, all, each, count, seated)) (extcall_points at frame name arguments result result_at _ _ (omega (arith, all_points, each_point)))
      (w_then (w_waiting k env labels _ _ arguments s few)
      (w_then (w_filled k env labels _ _ arguments s few)
      (w_then (w_moves regs _) (w_external name _ result frame (seats 0 (suc b + count_of arguments) regs) _ _))))
  w_select k env labels valued tail d b (Seq at elements) s few = w_up (omega arith) (omega arith) (w_seq k env labels _ tail _ _ elements s few)
  w_select k env labels valued tail d b (If at condition e g) s few =
      w_up (omega arith) (omega arith)
      (w_then (w_test k env labels _ _ condition s (omega (arith, few))
      (w_up (omega arith) (omega arith)
      (w_then (w_select k env labels false false _ _ condition s (omega (arith, few))) (w_branch test.Holds (suc (suc b)) (_ ∷ [])))))
      (w_then (w_select k env labels _ tail _ _ e s (omega (arith, few)))
      (w_then (w_else _ _) (w_then (w_select k env labels _ tail _ _ g s (omega (arith, few))) (w_end _)))))
  w_select k env labels valued tail d b (Catch at body handlers) s few =
      let own = labels_from (suc (suc b)) handlers in
      let new = new_shallow k (suc (suc b)) handlers in
      w_up (omega arith) (omega arith)
      (w_then w_catch (w_then (w_select k env _ _ tail _ _ body (both_shallow k own labels new s) (omega (arith, few)))
      (w_then (w_handlers k env _ _ tail _ _ _ _ handlers (both_shallow k (in_handlers own) labels (inside_shallow k own new) s) (omega (arith, few))) (w_end _))))
  w_select k env labels valued tail d b (Exit at label_at label arguments) s few =
      let all = in_parts most env arguments in
      let each = row_most arguments in
      let all_points = in_parts points env arguments in
      let each_point = row_points arguments in
      let count = regs_length env (suc b) arguments in
      w_up (omega (arith, all, each, count)) (omega (arith, all_points, each_point))
      (w_then (w_waiting k env labels _ _ arguments s few) (w_then (w_filled k env labels _ _ arguments s few)
      (w_exit k labels label (regs_of env (suc b) arguments) s (omega (arith, few)))))
  w_select k env labels valued tail d b (Alloc at header_at header operands) s few =
      let p = fresh_register (suc b) ty.Val in
      let q = fresh_register (suc (suc b)) ty.Int in
      let all = in_parts most env operands in
      let each = row_most operands in
      let all_points = in_parts points env operands in
      let each_point = row_points operands in
      let count = regs_length env (suc (suc (suc b))) operands in
      w_up (omega (arith, all, each, count)) (omega (arith, all_points, each_point))
      (w_then (w_waiting k env labels _ _ operands s few)
      (w_then (w_alloc _ p)
      (w_then (w_pure _ [] q)
      (w_then (w_store _ _ p q)
      (w_then (w_filled k env labels _ _ operands s few)
      (w_then (w_cells _ p 0 (regs_of env (suc (suc (suc b))) operands)) (w_move p _)))))))
  w_select k env labels valued tail d b (Load at chunk address) s few =
      w_up (omega arith) (omega arith)
      (w_then (w_base k env labels _ _ address s few (w_select k env labels false false _ _ address s few)) (w_load chunk _ _ _))
  w_select k env labels valued tail d b (Store at chunk address e) s few =
      w_up (omega arith) (omega arith)
      (w_then (w_ordered (is_left_first (scopes env) address e)
      (w_base k env labels _ _ address s (omega (arith, few)) (w_select k env labels false false _ _ address s (omega (arith, few))))
      (w_select k env labels false false _ _ e s (omega (arith, few))))
      (w_store chunk _ _ _))
  w_select k env labels valued tail d b (Checkbound at e g) s few =
      w_up (omega arith) (omega arith)
      (w_then (w_ordered (is_left_first (scopes env) e g) (w_select k env labels false false _ _ e s (omega (arith, few)))
      (w_constant (bound_test_operand bound_test g) (w_select k env labels false false _ _ g s (omega (arith, few)))))
      (w_checkbound (bound_test_operand bound_test g) _ _))
  w_select k env labels valued tail d b (Raise at e) s few =
      let y = seat 0 (suc (suc b)) comp.Val in
      w_up (omega arith) (omega arith) (w_then (w_select k env labels false false _ _ e s few) (w_then (w_move _ y) (w_raising y)))
  w_select k env labels valued tail d b (Switch at size_at size selector cases) s few =
      let count = labels_count (suc (suc (suc b))) cases 0 size in
      w_up (omega (arith, count)) (omega arith)
      (w_then (w_select k env labels false false _ _ selector s (omega (arith, few)))
      (w_then (w_choose (switch_labels (suc (suc (suc b))) cases 0 size) _)
      (w_then (w_cases k env labels _ tail _ _ _ _ _ cases s (omega (arith, few))) (w_end _))))
  w_select k env labels valued tail d b (Try at body name_at name handler) s few =
      let y = seat 0 (suc (suc (suc (suc b)))) comp.Val in
      w_up (omega arith) (omega arith)
      (w_then (w_try _)
      (w_then (w_select (suc k) env (labels_within_try labels) _ false _ _ body (one_deeper k labels s) (omega (arith, few)))
      (w_then (w_leave _ _) (w_then (w_handler _ y) (w_then (w_move y _) (w_then (w_select k _ labels _ tail _ _ handler s (omega (arith, few))) (w_end _)))))))

  w_base : {whole : Code} (k : ℕ) (env : List NamedRegister) (labels : List Label) (t b : ℕ) (e : Expression) → Shallow k labels → k + tries_in e ≤ 250 →
      Weighs (most e) (points e) whole → Weighs (most e) (points e) (select_base env labels t b e whole)
  w_base k env labels t b (Operator at op base (Integer at' w)) s few inside = w_if (is_based op w)
      (w_up (omega arith) (omega arith) (w_select k env labels false false (fresh_register t (type_of (scopes env) base)) b base s (omega (arith, few)))) inside
  w_base k env labels t b e s few inside = inside

  w_test : {value : Code} (k : ℕ) (env : List NamedRegister) (labels : List Label) (l b : ℕ) (e : Expression) → Shallow k labels → k + tries_in e ≤ 250 →
      Weighs (most e + 58) (points e + 0) value → Weighs (most e + 58) (points e + 0) (λ next. select_test env labels l b e (value next) next)
  w_test k env labels l b (Operator at op e g) s few v =
      let shape = operation_shape op e g in
      w_tested (comparison (shape_op shape op) (shape_right shape)) _
      (λ t. w_up (omega arith) (omega arith)
      (w_then (w_ordered (is_left_first (scopes env) e g) (w_left shape (w_select k env labels false false _ _ e s (omega (arith, few))))
      (w_right shape (w_select k env labels false false _ _ g s (omega (arith, few))))) (w_compare t l shape _ _)))
      v
  w_test k env labels l b e s few v = v

  w_cases : (k : ℕ) (env : List NamedRegister) (labels : List Label) (valued tail : Bool) (d : Reg) (all : List ℕ) (end l b : ℕ) (cs : Cases) → Shallow k labels →
      k + tries_in_cases cs ≤ 250 →
      Weighs (640 * cases_total counts_one cs + 4 * cases_total own_indexes cs) (cases_total is_frame_point cs)
      (select_cases env labels valued tail d all end l b cs)
  w_cases k env labels valued tail d all end l b NoCase s few = w_up (omega arith) (omega arith) w_none
  w_cases k env labels valued tail d all end l b (Choose indexes body rest) s few =
      let some = some_nodes body in
      w_up (omega (arith, some)) (omega arith)
      (w_then (w_case _ _ _) (w_then (w_select k env labels valued tail d b body s (omega (arith, few)))
      (w_cases k env labels valued tail d all end _ _ rest s (omega (arith, few)))))

  w_waiting : (k : ℕ) (env : List NamedRegister) (labels : List Label) (b i : ℕ) (es : Expressions) → Shallow k labels → k + tries_in_row es ≤ 250 →
      Weighs (now_of most env es) (now_of points env es) (select_waiting env labels b i es)
  w_waiting k env labels b i NoMore s few = w_none
  w_waiting k env labels b i (More e rest) s few =
      w_up (omega arith) (omega arith)
      (w_then (w_waiting k env labels _ _ rest s (omega (arith, few))) (w_when (not (is_light_address (scopes env) e)) (most e) (points e)
      (w_select k env labels false false _ i e s (omega (arith, few)))))

  w_filled : (k : ℕ) (env : List NamedRegister) (labels : List Label) (b i : ℕ) (es : Expressions) → Shallow k labels → k + tries_in_row es ≤ 250 →
      Weighs (later_of most env es) (later_of points env es) (select_filled env labels b i es)
  w_filled k env labels b i NoMore s few = w_none
  w_filled k env labels b i (More e rest) s few =
      w_up (omega arith) (omega arith)
      (w_then (w_filled k env labels _ _ rest s (omega (arith, few))) (w_when (is_light_address (scopes env) e) (most e) (points e)
      (w_select k env labels false false _ i e s (omega (arith, few)))))

  w_bound : (k : ℕ) (env : List NamedRegister) (labels : List Label) (b : ℕ) (bs : Bindings) → Shallow k labels → k + tries_in_bindings bs ≤ 250 →
      Weighs (640 * bindings_total counts_one bs + 4 * bindings_total own_indexes bs) (bindings_total is_frame_point bs) (select_bound env labels b bs)
  w_bound k env labels b NoBinding s few = w_up (omega arith) (omega arith) w_none
  w_bound k env labels b (Bind at name declared e rest) s few =
      w_up (omega arith) (omega arith)
      (w_then (w_select k env labels false false _ _ e s (omega (arith, few))) (w_bound k _ labels _ rest s (omega (arith, few))))

  w_seq : (k : ℕ) (env : List NamedRegister) (labels : List Label) (valued tail : Bool) (d : Reg) (b : ℕ) (es : Expressions) → Shallow k labels →
      k + tries_in_row es ≤ 250 →
      Weighs (640 * row_total counts_one es + 4 * row_total own_indexes es) (row_total is_frame_point es) (select_seq env labels valued tail d b es)
  w_seq k env labels valued tail d b NoMore s few = w_up (omega arith) (omega arith) w_none
  w_seq k env labels valued tail d b (More e NoMore) s few =
      w_up (omega arith) (omega arith) (w_select k env labels valued tail d (suc b) e s (omega (arith, few)))
  w_seq k env labels valued tail d b (More e (More g rest)) s few =
      w_up (omega arith) (omega arith)
      (w_then (w_select k env labels false false _ _ e s (omega (arith, few))) (w_seq k env labels valued tail d _ (More g rest) s (omega (arith, few))))

  w_handlers : (k : ℕ) (env : List NamedRegister) (labels : List Label) (valued tail : Bool) (d : Reg) (end l b : ℕ) (hs : Handlers) → Shallow k labels →
      k + tries_in_handlers hs ≤ 250 →
      Weighs (640 * handlers_total counts_one hs + 4 * handlers_total own_indexes hs) (handlers_total is_frame_point hs)
      (select_handlers env labels valued tail d end l b hs)
  w_handlers k env labels valued tail d end l b NoHandler s few = w_up (omega arith) (omega arith) w_none
  w_handlers k env labels valued tail d end l b (Handle at label params body rest) s few =
      let some = some_nodes body in
      w_up (omega (arith, some)) (omega arith)
      (w_then (w_with _ _) (w_then (w_select k _ labels valued tail d b body s (omega (arith, few)))
      (w_handlers k env labels valued tail d end _ _ rest s (omega (arith, few)))))

-- ---- whole

w_returns : (d : Reg) (n : ℕ) (result : Ret) → weight (return_code d n result) ≤ 80
w_returns d n ret.Unit = omega arith
w_returns d n (ret.Comp c) = let few = (w_move d (seat 0 n c)).words (emit.give_back (seat 0 n c ∷ []) ∷ []) in omega (arith, few)

no_points : (d : Reg) (n : ℕ) (result : Ret) → code_points (return_code d n result) ≡ 0
no_points d n ret.Unit = refl
no_points d n (ret.Comp c) = refl

module _ (f : FunctionTree) (few : tries f ≤ 250) where
  abbrev value_reg : Reg
  value_reg = fresh_register (value_at f) (body_type f)

  whole : Weighs (30 * length (seats 0 first_after_colours (params_of f)) + most f.body) (0 + points f.body)
      (λ next. moves_all (seats 0 first_after_colours (params_of f)) (params_of f)
      (select (env_of f) [] (not (is_no_value (body_type f))) true value_reg (suc (suc (value_at f))) f.body next))
  whole =
      w_then (w_moves (seats 0 first_after_colours (params_of f)) (params_of f))
      (w_select 0 (env_of f) [] (not (is_no_value (body_type f))) true value_reg (suc (suc (value_at f))) f.body tt (omega (arith, few)))

  -- words of selected code, and twelve for each of its operands and results
  pub selected_words : code_words (selected f).code + 12 * operand_count (selected f).code ≤ 48 * length f.params + (640 * nodes_in f.body + 4 * switch_indexes f)
  selected_words =
      let all = whole.words (return_code value_reg (suc (value_at f)) (result_of (body_type f))) in
      let last = w_returns value_reg (suc (value_at f)) (result_of (body_type f)) in
      let some = some_nodes f.body in
      let seated = seats_length 0 first_after_colours (params_of f) in
      let count = params_length (moved_at f) f.params in
      omega (arith, all, last, some, seated, count)

  -- and its frame points
  pub selected_points : code_points (selected f).code ≤ frame_points f
  selected_points =
      let all = whole.points (return_code value_reg (suc (value_at f)) (result_of (body_type f))) in
      let last = no_points value_reg (suc (value_at f)) (result_of (body_type f)) in
      omega (arith, all, last)
