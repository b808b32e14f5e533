-- A tree and the same tree further on differ in places alone.
use Rattle.std.proofs.Common.{◌≡◌, ℕ, List, [], ◌∷◌, Option, Some, None, refl}
use Rattle.cmm_tree.specs.Tree.{FunctionTree, Parameter, Declaration, Index, Expression, Integer, Pointer, Symbol, Name, Nothing, Float, Let, Assign, Operator, Load, Store, Alloc, App, Extcall, Checkbound, Raise, Seq, If, Switch, Catch, Exit, Try, Expressions, NoMore, More, Bindings, NoBinding, Bind, Cases, NoCase, Choose, Handlers, NoHandler, Handle}
use Rattle.moved_texts.specs.Moved.{moved_expression, moved_row, moved_bindings, moved_cases, moved_handlers, moved_parameters, moved_indexes, moved_declared, moved_function}
use Rattle.moved_texts.specs.Unplaced.{unplaced, unplaced_row, unplaced_bindings, unplaced_cases, unplaced_handlers, unplaced_parameter, unplaced_parameters, unplaced_index, unplaced_indexes, unplaced_declared, DifferInPlaces}

module _ (d : ℕ) where
  params_alike : (ps : List Parameter) → unplaced_parameters (moved_parameters d ps) ≡ unplaced_parameters ps
  params_alike [] = refl
  params_alike (p ∷ ps) = λ i. unplaced_parameter p ∷ params_alike ps i

  indexes_alike : (js : List Index) → unplaced_indexes (moved_indexes d js) ≡ unplaced_indexes js
  indexes_alike [] = refl
  indexes_alike (j ∷ js) = λ i. unplaced_index j ∷ indexes_alike js i

  declared_alike : (c : Option Declaration) → unplaced_declared (moved_declared d c) ≡ unplaced_declared c
  declared_alike None = refl
  declared_alike (Some c) = refl

  mutual
    pub alike : (e : Expression) → unplaced (moved_expression d e) ≡ unplaced e
    alike (Integer at word) = refl
    alike (Pointer at word) = refl
    alike (Symbol at name) = refl
    alike (Name at name) = refl
    alike (Nothing at) = refl
    alike (Float at word_at operands) = λ i. Float 0 0 (row_alike operands i)
    alike (Let at bindings body) = λ i. Let 0 (bindings_alike bindings i) (alike body i)
    alike (Assign at name_at name value) = λ i. Assign 0 0 name (alike value i)
    alike (Operator at op left right) = λ i. Operator 0 op (alike left i) (alike right i)
    alike (Load at chunk address) = λ i. Load 0 chunk (alike address i)
    alike (Store at chunk address value) = λ i. Store 0 chunk (alike address i) (alike value i)
    alike (Alloc at header_at header operands) = λ i. Alloc 0 0 header (row_alike operands i)
    alike (App at callee arguments result result_at) = λ i. App 0 (alike callee i) (row_alike arguments i) result 0
    alike (Extcall at frame name arguments result result_at) = λ i. Extcall 0 frame name (row_alike arguments i) result 0
    alike (Checkbound at bound index) = λ i. Checkbound 0 (alike bound i) (alike index i)
    alike (Raise at value) = λ i. Raise 0 (alike value i)
    alike (Seq at elements) = λ i. Seq 0 (row_alike elements i)
    alike (If at condition on_true on_false) = λ i. If 0 (alike condition i) (alike on_true i) (alike on_false i)
    alike (Switch at size_at size selector cases) = λ i. Switch 0 0 size (alike selector i) (cases_alike cases i)
    alike (Catch at body handlers) = λ i. Catch 0 (alike body i) (handlers_alike handlers i)
    alike (Exit at label_at label arguments) = λ i. Exit 0 0 label (row_alike arguments i)
    alike (Try at body name_at name handler) = λ i. Try 0 (alike body i) 0 name (alike handler i)

    row_alike : (r : Expressions) → unplaced_row (moved_row d r) ≡ unplaced_row r
    row_alike NoMore = refl
    row_alike (More e rest) = λ i. More (alike e i) (row_alike rest i)

    bindings_alike : (b : Bindings) → unplaced_bindings (moved_bindings d b) ≡ unplaced_bindings b
    bindings_alike NoBinding = refl
    bindings_alike (Bind at name declared value rest) = λ i. Bind 0 name (declared_alike declared i) (alike value i) (bindings_alike rest i)

    cases_alike : (c : Cases) → unplaced_cases (moved_cases d c) ≡ unplaced_cases c
    cases_alike NoCase = refl
    cases_alike (Choose indexes body rest) = λ i. Choose (indexes_alike indexes i) (alike body i) (cases_alike rest i)

    handlers_alike : (h : Handlers) → unplaced_handlers (moved_handlers d h) ≡ unplaced_handlers h
    handlers_alike NoHandler = refl
    handlers_alike (Handle at label params body rest) = λ i. Handle 0 label (params_alike params i) (alike body i) (handlers_alike rest i)

  pub moved_differs : (f : FunctionTree) → DifferInPlaces (moved_function d f) f
  moved_differs f =
      record { same = λ i. record { at = 0; name_at = 0; name = f.name; params = params_alike f.params i; body = alike f.body i; tokens = f.tokens } }
