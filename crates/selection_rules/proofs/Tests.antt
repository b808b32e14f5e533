-- Conditions: where they hold it goes on, and else at a label.
use Rattle.std.proofs.Common.{ℕ, suc, ◌+◌, ◌^◌, ◌<◌, ◌≤◌, Bool, false, cond, List, [], ◌∷◌, Option, Some, None, Result, Ok, Err, refl, sym, subst, arith}
use Rattle.bs_words.specs.Memory.{Memory, sizes}
use Rattle.bs_words.specs.Operators.{apply, condition_of}
use Rattle.bs_words.specs.declared.operators.IntOp.{IntOp}
use Rattle.bs_words.specs.declared.types.Ty.{Ty}
use Rattle.bs_words.specs.declared.values.Kind.{Kind}
use Rattle.bs_words.specs.declared.values.Value.{Value}
use Rattle.cmm_tree.specs.Tree.{Expression, Operator}
use Rattle.cmm_types.specs.Types.{Scoped, type_of}
use Rattle.cmm_meaning.specs.Evaluation.{is_left_first}
use Rattle.cmm_meaning.specs.State.{Here, scope}
use Rattle.meaning_laws.specs.Does.{Leaves, Does}
use Rattle.meaning_laws.specs.Interaction.{Part, onward, of_type, only_value, with_value, both, proper, does}
use Rattle.meaning_laws.specs.Interaction as part
use Rattle.mach_ir.specs.Acts.{On, At, goes_by_test, as_condition}
use Rattle.mach_ir.specs.Acts as acts
use Rattle.mach_ir.specs.Runs.{ActivationSetting, Continues}
use Rattle.mach_ir.specs.Meaning.{File, with_held, on_act, code_at}
use Rattle.mach_ir.specs.declared.mach.Instr.{Instr}
use Rattle.mach_ir.specs.declared.mach.Mach.{Mach}
use Rattle.mach_ir.specs.declared.mach.Test.{Test}
use Rattle.mach_ir.specs.declared.mach.Test.TheVariants as test
use Rattle.mach_ir.specs.declared.reg.Reg.{Reg}
use Rattle.selection_rules.specs.Instructions as emit
use Rattle.selection_rules.specs.Kept.{on_lossless_values}
use Rattle.selection_rules.specs.Select.{OperandShape, operation_shape, shape_op, shape_right, shape_args, unless_left, unless_right, NamedRegister, Label, scopes, fresh_register, ordered, width, comparison, fused_test, select, select_test}
use Rattle.selection_rules.specs.Follow.{text_setting, FollowsText, walks, fails}
use Rattle.selection_rules.proofs.Files.{Under, Stands, scope_is}
use Rattle.selection_rules.proofs.Parts.{Placed, Lower, Stable, stable_inner, calm, at, Level, Outs, of_type_some, node_follows}
use Rattle.selection_rules.proofs.Operands.{Selected, operand, ready_at}
use Rattle.selection_rules.proofs.Endings.{ending_select}
use Rattle.selection_rules.proofs.Shapes.{shape_two, shape_view, Says, Compared, no_comparison, compares, compared}

module _ (c : ActivationSetting) (m : Mach) (turns : ℕ) (ts : List ℕ) where
  -- it goes on from a condition
  abbrev pub judged : (Bool → Here → Memory → Part (Option Value)) → Value → Here → Memory → Part (Option Value)
  judged go v h memory = proper (condition_of (sizes memory) v) memory (λ holds. go holds h memory)

  -- where it goes on
  abbrev pub Turns : List NamedRegister → (File → Type 0) → ℕ → List Instr → (Leaves (Option Value) → Does) → (Bool → Here → Memory → Part (Option Value)) → Type 0
  Turns env P l next k go =
      (holds : Bool) (h : Here) (f : File) (memory : Memory) → Level c m turns ts h → Stands env h.names f → P f → FollowsText c m (go holds h memory k) (Continues (at c m turns ts (code_at m.code next (cond holds On (At l))) f memory))

  abbrev pub value_code : List NamedRegister → List Label → ℕ → ℕ → ℕ → Expression → List Instr → List Instr
  value_code env labels l t i e next =
      select env labels false false (fresh_register t (type_of (scopes env) e)) i e (emit.branch test.Holds l (fresh_register t (type_of (scopes env) e) ∷ []) ∷ next)

  abbrev pub SelectedTest : Expression → Type 1
  SelectedTest e =
      (env : List NamedRegister) (labels : List Label) (l t b d i : ℕ) (next : List Instr) (P : File → Type 0) (k : Leaves (Option Value) → Does) (go : Bool → Here → Memory → Part (Option Value)) →
      width e < 2 ^ 60 → Lower b labels → Under b env → 21 ≤ b → b ≤ t → t < i → Stable env b d P → Placed m ts (select_test env labels l i e (value_code env labels l t i e next) next) →
      Outs c m turns ts env labels P k → (h : Here) (f : File) (memory : Memory) → Level c m turns ts h → Stands env h.names f → P f → Turns env P l next k go →
      FollowsText c m (with_value (does (text_setting c) turns e false h memory) (judged go) k) (Continues (at c m turns ts (select_test env labels l i e (value_code env labels l t i e next) next) f memory))

  -- a value is tested
  pub value_test : (e : Expression) → Selected c m turns ts e →
      (env : List NamedRegister) (labels : List Label) (l t b d i : ℕ) (next : List Instr) (P : File → Type 0) (k : Leaves (Option Value) → Does) (go : Bool → Here → Memory → Part (Option Value)) →
      width e < 2 ^ 60 → Lower b labels → Under b env → 21 ≤ b → b ≤ t → t < i → Stable env b d P → Placed m ts (value_code env labels l t i e next) →
      Outs c m turns ts env labels P k → (h : Here) (f : File) (memory : Memory) → Level c m turns ts h → Stands env h.names f → P f → Turns env P l next k go →
      FollowsText c m (with_value (does (text_setting c) turns e false h memory) (judged go) k) (Continues (at c m turns ts (value_code env labels l t i e next) f memory))
  value_test e se env labels l t b d i next P k go fine lower under first bt ti stable placed outs h f memory level s p on =
      operand c m turns ts e se fine t i (mark ∷ next) (judged go) k
      (ready_at c m turns ts (type_of (scopes env) e) t i lower under first bt ti) (stable_inner t i bt (omega (arith, bt, ti)) stable) placed outs h f memory level s p
      (λ v h f memory level s p fv hv. walks (
      subst (λ o. FollowsText c m (judged go v h memory k) (on_lossless_values c m mark next f (calm c m turns ts memory) (with_held o (Some [])))) (sym hv.is) (by h f memory level s p (condition_of (sizes memory) v))))
    where
      mark : Instr
      mark = emit.branch test.Holds l (fresh_register t (type_of (scopes env) e) ∷ [])

      by : (h : Here) (f : File) (memory : Memory) → Level c m turns ts h → Stands env h.names f → P f → (r : Result Bool Kind) →
          FollowsText c m (proper r memory (λ holds. go holds h memory) k) (on_act c m mark next f (calm c m turns ts memory) (goes_by_test (calm c m turns ts memory) On (At l) (acts.proper_condition r)))
      by h f memory level s p (Err kind) = fails
      by h f memory level s p (Ok holds) = on holds h f memory level s p

  -- a comparison is a test of its own
  module _ (place : ℕ) (op : IntOp) (left e : Expression) (env : List NamedRegister) (labels : List Label) (l i : ℕ) (next : List Instr) where
    abbrev x : Reg
    x = fresh_register (suc i) (type_of (scopes env) left)

    abbrev y : Reg
    y = fresh_register (suc (suc i)) (type_of (scopes env) e)

    abbrev z : OperandShape
    z = operation_shape op left e

    abbrev mark : Test → Instr
    mark t = emit.branch t l (shape_args z x y)

    abbrev compare_code : Test → List Instr
    compare_code t =
        ordered (is_left_first (scopes env) left e) (unless_left z (select env labels false false x (suc (suc (suc i))) left)) (unless_right z (select env labels false false y (suc (suc (suc i)) + width left) e)) (mark t ∷ next)

    compare_test : (t : Test) → Says op z t → Selected c m turns ts left → Selected c m turns ts e →
        (b d : ℕ) (P : File → Type 0) (k : Leaves (Option Value) → Does) (go : Bool → Here → Memory → Part (Option Value)) →
        width (Operator place op left e) < 2 ^ 60 → Lower b labels → Under b env → 21 ≤ b → b ≤ i → Stable env b d P → Placed m ts (compare_code t) →
        Outs c m turns ts env labels P k → (h : Here) (f : File) (memory : Memory) → Level c m turns ts h → Stands env h.names f → P f → Turns env P l next k go →
        FollowsText c m (with_value (does (text_setting c) turns (Operator place op left e) false h memory) (judged go) k) (Continues (at c m turns ts (compare_code t) f memory))
    compare_test t says sl se b d P k go fine lower under first bi stable placed outs h f memory level s p on =
        node_follows c m turns ts (Operator place op left e) h memory
        (both (is_left_first (scope h) left e) (does (text_setting c) turns left false) (does (text_setting c) turns e false) h memory step) taking _ s
        (subst (λ (sc : List Scoped). FollowsText c m (both (is_left_first sc left e) (does (text_setting c) turns left false) (does (text_setting c) turns e false) h memory step kk)
        (Continues (at c m turns ts (compare_code t) f memory)))
        (sym (scope_is s))
        (shape_two c m turns ts (is_left_first (scopes env) left e) left e (shape_view op left e) refl sl se (omega (arith, fine)) (omega (arith, fine)) (suc i) (suc (suc i)) (suc (suc (suc i))) (suc (suc (suc i)) + width left)
        (mark t ∷ next) step kk lower under first stable
        (omega (arith, bi)) (omega (arith, bi)) (omega arith) (omega arith) (omega arith) (omega arith) (λ z. omega (arith, z))
        (λ rest. ending_select env labels false false _ _ left rest) (λ rest. ending_select env labels false false _ _ e rest) placed
        (record { exit = λ l values h f memory level r p. outs.exit l values h f memory level r p; raising = λ v fv h f memory level r p. outs.raising v fv h f memory level r p }) h f memory level s p
        (λ v w h f memory level s p read. walks (
        subst (λ o. FollowsText c m (step v w h memory kk) (on_lossless_values c m (mark t) next f (calm c m turns ts memory) o)) (sym (says.reads read))
        (subst (λ o. FollowsText c m (step v w h memory kk) (on_act c m (mark t) next f (calm c m turns ts memory) (goes_by_test (calm c m turns ts memory) On (At l) o))) (sym (says.is (sizes memory) read))
        (by h f memory level s p (apply op (sizes memory) v w)))))))
      where
        T : Ty
        T = type_of (scopes env) (Operator place op left e)

        taking : Leaves (Option Value) → Does
        taking = λ l. onward (λ v h memory. only_value v (judged go) h memory) l k

        kk : Leaves (Option Value) → Does
        kk = λ l. onward (λ v h memory. of_type c.setting.end (type_of (scopes env) (Operator place op left e)) v h memory) l (λ l. onward (λ v h memory. only_value v (judged go) h memory) l k)

        step : Value → Value → Here → Memory → Part (Option Value)
        step = λ v w h memory. proper (apply op (sizes memory) v w) memory (λ u. part.gives (Some u) h memory)

        turn : (h : Here) (f : File) (memory : Memory) → Level c m turns ts h → Stands env h.names f → P f → (o : Result Bool Kind) →
            FollowsText c m (proper o memory (λ holds. go holds h memory) k) (on_act c m (mark t) next f (calm c m turns ts memory) (goes_by_test (calm c m turns ts memory) On (At l) (acts.proper_condition o)))
        turn h f memory level s p (Err kind) = fails
        turn h f memory level s p (Ok holds) = on holds h f memory level s p

        by : (h : Here) (f : File) (memory : Memory) → Level c m turns ts h → Stands env h.names f → P f → (o : Result Value Kind) →
            FollowsText c m (proper o memory (λ u. part.gives (Some u) h memory) kk) (on_act c m (mark t) next f (calm c m turns ts memory) (goes_by_test (calm c m turns ts memory) On (At l) (as_condition (sizes memory) o)))
        by h f memory level s p (Err kind) = fails
        by h f memory level s p (Ok u) =
            of_type_some c m turns ts taking (on_act c m (mark t) next f (calm c m turns ts memory) (goes_by_test (calm c m turns ts memory) On (At l) (acts.proper_condition (condition_of (sizes memory) u)))) T u h memory
            (λ fit'. turn h f memory level s p (condition_of (sizes memory) u)) (λ none'. fails)

  pub operator_test : (place : ℕ) (op : IntOp) (left e : Expression) → Selected c m turns ts left → Selected c m turns ts e → Selected c m turns ts (Operator place op left e) → SelectedTest (Operator place op left e)
  operator_test place op left e sl se so env labels l t b d i next P k go fine lower under first bt ti stable placed outs h f memory level s p on =
      by (comparison (shape_op (operation_shape op left e) op) (shape_right (operation_shape op left e))) (compared op (operation_shape op left e)) placed
    where
      code : Option Test → List Instr
      code o = fused_test o (compare_code place op left e env labels l i next) (value_code env labels l t i (Operator place op left e) next)

      by : (o : Option Test) → Compared op (operation_shape op left e) o → Placed m ts (code o) →
          FollowsText c m (with_value (does (text_setting c) turns (Operator place op left e) false h memory) (judged go) k) (Continues (at c m turns ts (code o) f memory))
      by None no_comparison placed = value_test (Operator place op left e) so env labels l t b d i next P k go fine lower under first bt ti stable placed outs h f memory level s p on
      by (Some q) (compares says) placed =
          compare_test place op left e env labels l i next q says sl se b d P k go fine lower under first (omega (arith, bt, ti)) stable placed outs h f memory level s p on
