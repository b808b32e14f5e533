-- Light operands, whatever is round the registers: their values do not hang on memory.
use Rattle.std.proofs.Common.{◌≡◌, ℕ, suc, ◌+◌, ◌<◌, ◌≤◌, Bool, true, false, cond, ◌&&◌, List, [], ◌∷◌, Option, Some, None, Result, Ok, Err, map, refl, sym, ap, subst, arith, le_refl}
use Rattle.std.proofs.lemmas.Bool.{true≢false, and_parts}
use Rattle.bs_words.specs.Fits.{fits, misfit, type_of_comp}
use Rattle.bs_words.specs.Memory.{Memory, sizes}
use Rattle.bs_words.specs.Operators.{apply}
use Rattle.bs_words.specs.declared.operators.IntOp.{IntOp}
use Rattle.bs_words.specs.declared.operators.IntOp.TheVariants.{Add, Sub, Mul, Mulh, Div, Mod, And, Or, Xor, Shl, Shr, Sar, Cmp, CmpU, AddV, AddA}
use Rattle.bs_words.specs.declared.types.Ty.{Ty}
use Rattle.bs_words.specs.declared.values.Kind.{Kind}
use Rattle.bs_words.specs.declared.values.Value.{Value}
use Rattle.cmm_tree.specs.Tree.{Expression, Integer, Symbol, Name, Operator, Expressions, NoMore, More}
use Rattle.cmm_types.specs.Light.{is_light, is_light_operator, is_light_address}
use Rattle.cmm_types.specs.Types.{Scoped, type_of}
use Rattle.cmm_meaning.specs.Evaluation.{is_left_first}
use Rattle.cmm_meaning.specs.State.{Here, scope, value_of}
use Rattle.meaning_laws.specs.Does.{Leaves, Giving, Does, Pays, Fails}
use Rattle.meaning_laws.specs.Interaction.{Part, onward, of_type, both, proper, looked_up, only_value, with_value, node_part, does, filled}
use Rattle.mach_ir.specs.declared.reg.Reg.{Reg}
use Rattle.mach_ir.specs.declared.mach.Instr.{Instr}
use Rattle.mach_ir.specs.declared.mach.Mach.{Mach}
use Rattle.mach_ir.specs.Runs.{ActivationSetting, Step, Continues}
use Rattle.mach_ir.specs.Meaning.{State, File, with_held, on_act, wrote, assign_register, put_if}
use Rattle.mach_ir.specs.Acts.{Around, if_known}
use Rattle.selection_rules.specs.Bounded.{BoundedState}
use Rattle.selection_rules.specs.Kept.{on_lossless_values}
use Rattle.selection_rules.specs.Kept as machine
use Rattle.selection_rules.specs.Select.{OperandShape, InRegisters, operation_shape, operator_code, unless_left, unless_right, NamedRegister, Label, scopes, comp_of_type, fresh_register, reg_of, move_from, inner_dest, width, ordered, only_when, regs_of, select, select_filled}
use Rattle.cmm_tree.specs.Measures.{count_of}
use Rattle.selection_rules.specs.Follow.{FollowsText, walks, pays, fails, no_words}
use Rattle.selection_rules.proofs.Files.{Holds, put_same, Looked, unknown, known as a_known, looked_up as name_stands, Under, under_more, named_under, Stands, stands_put, scope_is, IsNamed}
use Rattle.selection_rules.proofs.Parts.{new, Stable, stable_inner, stable_same, dest, And as Also, stable_and}
use Rattle.selection_rules.proofs.Operands.{own_fits}
use Rattle.selection_rules.proofs.Shapes.{ShapeView, in_registers, constant_right, constant_left, power_right, shape_view, Operands, both_stand, left_stands, right_stands, a_power}
use Rattle.selection_rules.proofs.Operators.{finished, reached, Stepping, operator_follows}
use Rattle.selection_rules.proofs.Once.{address_is_light}
use Rattle.selection_rules.proofs.Rows.{Row, late, early, between_regs, WithRow, stable_row, Matches}
use Rattle.bs_words.specs.declared.types.Ty.TheVariants as ty
use Rattle.bs_words.specs.declared.values.Value.TheVariants as value
use Rattle.meaning_laws.specs.Interaction as part
use Rattle.selection_rules.proofs.Rows as rows
use Rattle.selection_rules.specs.Instructions as emit
use Rattle.selection_rules.specs.Follow.{text_setting}

light_apply : (op : IntOp) (s t : List ℕ) (v w : Value) → is_light_operator op ≡ true → apply op s v w ≡ apply op t v w
light_apply Add s t v w e = refl
light_apply Sub s t v w e = refl
light_apply Mul s t v w e = refl
light_apply Mulh s t v w e = refl
light_apply Div s t v w e = refl
light_apply Mod s t v w e = refl
light_apply And s t v w e = refl
light_apply Or s t v w e = refl
light_apply Xor s t v w e = refl
light_apply Shl s t v w e = refl
light_apply Shr s t v w e = refl
light_apply Sar s t v w e = refl
light_apply AddV s t v w e = refl
light_apply AddA s t v w e = refl
light_apply (Cmp op) s t v w e = absurd (true≢false (sym e))
light_apply (CmpU op) s t v w e = absurd (true≢false (sym e))

-- The machine, from this step on, does what is said as from a first state that it has left behind, which has the memory
-- of the text at each unit until it follows the text again.
pub data Late (c : ActivationSetting) (m : Mach) (first_state : State) : Does → Step State → Type 0 where
  late_walks : {d : Does} {s : State} → Late c m first_state d (machine.lossless_step c m s) → Late c m first_state d (Continues s)
  late_pays : {memory : Memory} {rest : Does} {s : State} → first_state.around.memory ≡ memory → Late c m first_state rest (Continues s) → Late c m first_state (Pays memory rest) (Continues s)
  late_fails : {memory : Memory} {kind : Kind} {s : Step State} → Late c m first_state (Fails memory kind) s
  late_no_words : {d : Does} {s : State} → (BoundedState s → ⊥) → Late c m first_state d (Continues s)
  in_time : {d : Does} {x : Step State} → FollowsText c m d x → Late c m first_state d x

-- where steps lead from the first state to where the machine is, the units can be paid there
pub settled : {c : ActivationSetting} {m : Mach} {first_state : State} {d : Does} {x : Step State} → Late c m first_state d x → ((d : Does) → FollowsText c m d x → FollowsText c m d (Continues first_state)) →
    FollowsText c m d (Continues first_state)
settled (late_walks l) back = settled l (λ d f. back d (walks f))
settled (late_pays same l) back = pays same (settled l back)
settled late_fails back = fails
settled {d = d} (late_no_words out) back = back d (no_words out)
settled {d = d} (in_time f) back = back d f

late_stepping : (c : ActivationSetting) (m : Mach) (first_state : State) → Stepping c m (Late c m first_state)
late_stepping c m first_state = record { walks = λ d s l. late_walks l; no_words = λ d s out. late_no_words out }

module _ (c : ActivationSetting) (m : Mach) (turns : ℕ) (ts : List ℕ) (h : Here) (memory : Memory) (a : Around) (first_state : State) (kept : first_state.around.memory ≡ memory) where
  abbrev pub now : List Instr → File → State
  now rest f = record { rest = rest; file = f; around = a }

  -- a node pays, and its parts come late
  late_node : {env : List NamedRegister} {f : File} (e : Expression) (p : Part (Option Value)) (k : Leaves (Option Value) → Does) (s : State) → Stands env h.names f →
      Late c m first_state (p (λ l. onward (λ v h memory. of_type c.setting.end (type_of (scopes env) e) v h memory) l k)) (Continues s) → Late c m first_state (node_part (text_setting c) e h memory p k) (Continues s)
  late_node {env} e p k s stands on =
      late_pays kept (subst (λ sc. Late c m first_state (p (λ l. onward (λ v h memory. of_type c.setting.end (type_of sc e) v h memory) l k)) (Continues s)) (sym (scope_is stands)) on)

  -- a constant as an operand needs no code
  late_constant : {B : Type 0} (place w : ℕ) (go : Value → Here → Memory → Part B) (k : Leaves B → Does) (s : State) → Late c m first_state (go (value.Word w) h memory k) (Continues s) →
      Late c m first_state (with_value (does (text_setting c) turns (Integer place w) false h memory) go k) (Continues s)
  late_constant place w go k s on = late_pays kept on

  abbrev taking : {B : Type 0} → (Value → Here → Memory → Part B) → (Leaves B → Does) → Leaves (Option Value) → Does
  taking go k l = onward (λ v h memory. only_value v go h memory) l k

  land : {B : Type 0} (T : Ty) (i n : ℕ) (v : Value) (f : File) (next : List Instr) (go : Value → Here → Memory → Part B) (k : Leaves B → Does) →
      (fits c.setting.end T v ≡ true → Late c m first_state (go v h memory k) (Continues (now next (assign_register (fresh_register n T) v f)))) →
      Late c m first_state (of_type c.setting.end T (Some v) h memory (taking go k))
      (wrote next a (put_if (fits c.setting.end (type_of_comp (inner_dest T i (fresh_register n T)).comp) v) (inner_dest T i (fresh_register n T)) v (Some f)))
  land ty.NoValue i n v f next go k on = late_fails
  land ty.Never i n v f next go k on = late_fails
  land ty.Int i n v f next go k on = by (fits c.setting.end ty.Int v) refl
    where
      by : (g : Bool) → fits c.setting.end ty.Int v ≡ g → Late c m first_state (cond g (part.gives (Some v) h memory) (part.fails (misfit ty.Int) memory) (taking go k)) (wrote next a (put_if g (fresh_register n ty.Int) v (Some f)))
      by true e = on e
      by false e = late_fails
  land ty.Val i n v f next go k on = by (fits c.setting.end ty.Val v) refl
    where
      by : (g : Bool) → fits c.setting.end ty.Val v ≡ g → Late c m first_state (cond g (part.gives (Some v) h memory) (part.fails (misfit ty.Val) memory) (taking go k)) (wrote next a (put_if g (fresh_register n ty.Val) v (Some f)))
      by true e = on e
      by false e = late_fails
  land ty.Addr i n v f next go k on = on refl

  -- a light operand's value is in its register
  abbrev pub LightOperand : Expression → Type 1
  LightOperand e =
      (B : Type 0) (env : List NamedRegister) (labels : List Label) (n i : ℕ) (next : List Instr) (P : File → Type 0) (go : Value → Here → Memory → Part B) (k : Leaves B → Does) →
      is_light (scopes env) e ≡ true → Under n env → n < i → 21 ≤ n → Stable env i n P → (f : File) → Stands env h.names f → P f →
      ((v : Value) (f : File) → Stands env h.names f → P f → fits c.setting.end (type_of (scopes env) e) v ≡ true → Holds (fresh_register n (type_of (scopes env) e)) v f → Late c m first_state (go v h memory k) (Continues (now next f))) →
      Late c m first_state (with_value (does (text_setting c) turns e false h memory) go k) (Continues (now (select env labels false false (fresh_register n (type_of (scopes env) e)) i e next) f))

  -- what follows a write of the register
  after_write : {env : List NamedRegister} {P : File → Type 0} {next : List Instr} {i n : ℕ} {x : Value → Does} (T : Ty) → Under n env → Stable env i n P → (f : File) → Stands env h.names f → P f →
      ((v : Value) (f : File) → Stands env h.names f → P f → fits c.setting.end T v ≡ true → Holds (fresh_register n T) v f → Late c m first_state (x v) (Continues (now next f))) → (v : Value) → fits c.setting.end T v ≡ true → Late c m first_state (x v) (Continues (now next (assign_register (fresh_register n T) v f)))
  after_write {n = n} T under stable f s p on v fv =
      on v (assign_register (fresh_register n T) v f) (stands_put (fresh_register n T) v (λ q. let small = named_under under q in omega (arith, small)) s) (stable.puts (fresh_register n T) v f (dest refl) p) fv (put_same (fresh_register n T) v f)

  light_integer : (place w : ℕ) → LightOperand (Integer place w)
  light_integer place w B env labels n i next P go k light under less first stable f s p on =
      let T = type_of (scopes env) (Integer place w) in
      late_node (Integer place w) (part.gives (Some (value.Word w)) h memory) (taking go k) _ s
      (late_walks (land T i n (value.Word w) f next go k (λ q. after_write T under stable f s p on (value.Word w) q)))

  light_symbol : (place : ℕ) (x : List ℕ) → LightOperand (Symbol place x)
  light_symbol place x B env labels n i next P go k light under less first stable f s p on =
      late_node (Symbol place x) (looked_up (c.setting.symbol x) h memory) (taking go k) _ s (late_walks (by (c.setting.symbol x)))
    where
      T : Ty
      T = type_of (scopes env) (Symbol place x)

      by : (o : Option Value) → Late c m first_state (looked_up o h memory (λ l. onward (λ v h memory. of_type c.setting.end T v h memory) l (taking go k)))
          (on_act c m (emit.symbol x (inner_dest T i (fresh_register n T))) next f a (if_known a o))
      by None = late_fails
      by (Some v) = land T i n v f next go k (λ q. after_write T under stable f s p on v q)

  light_name : (place : ℕ) (x : List ℕ) → LightOperand (Name place x)
  light_name place x B env labels n i next P go k light under less first stable f s p on =
      late_node (Name place x) (looked_up (value_of h.names x) h memory) (taking go k) _ s (by (reg_of env x) (value_of h.names x) (name_stands x s))
    where
      T : Ty
      T = type_of (scopes env) (Name place x)

      by : (r : Option Reg) (o : Option Value) → Looked env f r o → Late c m first_state (looked_up o h memory (λ l. onward (λ v h memory. of_type c.setting.end T v h memory) l (taking go k)))
          (Continues (now (move_from r (inner_dest T i (fresh_register n T)) next) f))
      by r o unknown = late_fails
      by r o (a_known {r = q} {v = v} named holds) =
          late_walks (subst (λ z. Late c m first_state (of_type c.setting.end T (Some v) h memory (taking go k)) (on_lossless_values c m (emit.move q (inner_dest T i (fresh_register n T))) next f a (with_held z (Some [])))) (sym holds.is)
          (land T i n v f next go k (λ e. after_write T under stable f s p on v e)))

  module _ (place : ℕ) (op : IntOp) (left right : Expression) where
    light_operator : LightOperand left → LightOperand right → LightOperand (Operator place op left right)
    light_operator ll lr B env labels n i next P go k light under less first stable f s p on =
        late_node e (both (is_left_first (scope h) left right) (does (text_setting c) turns left false) (does (text_setting c) turns right false) h memory (λ v w h memory.
        proper (apply op (sizes memory) v w) memory (λ u. part.gives (Some u) h memory))) (taking go k) _ s
        (subst (λ (sc : List Scoped). Late c m first_state (both (is_left_first sc left right) (does (text_setting c) turns left false) (does (text_setting c) turns right false) h memory step kk)
        (Continues (now (ordered (is_left_first (scopes env) left right) (left_code (operation_shape op left right)) (right_code (operation_shape op left right)) (done (operation_shape op left right))) f))) (sym (scope_is s)) (by (is_left_first (scopes env) left right) refl refl refl (shape_view op left right)))
      where
        e : Expression
        e = Operator place op left right

        T : Ty
        T = type_of (scopes env) (Operator place op left right)

        x : Reg
        x = fresh_register (suc i) (type_of (scopes env) left)

        y : Reg
        y = fresh_register (suc (suc i)) (type_of (scopes env) right)

        left_code : OperandShape → List Instr → List Instr
        left_code z = unless_left z (select env labels false false (fresh_register (suc i) (type_of (scopes env) left)) (suc (suc (suc i))) left)

        right_code : OperandShape → List Instr → List Instr
        right_code z = unless_right z (select env labels false false (fresh_register (suc (suc i)) (type_of (scopes env) right)) (suc (suc (suc i)) + width left) right)

        done : OperandShape → List Instr
        done z = operator_code z op x y (inner_dest T i (fresh_register n T)) next

        kk : Leaves (Option Value) → Does
        kk = λ l. onward (λ v h memory. of_type c.setting.end T v h memory) l (taking go k)

        step : Value → Value → Here → Memory → Part (Option Value)
        step = λ v w h memory. proper (apply op (sizes memory) v w) memory (λ u. part.gives (Some u) h memory)

        parts : is_light (scopes env) left && is_light (scopes env) right ≡ true
        parts = (and_parts (is_light_operator op) (is_light (scopes env) left && is_light (scopes env) right) light).1

        unnamed : (j : ℕ) → n < j → IsNamed j env → ⊥
        unnamed j le q = let small = named_under under q in omega (arith, small, le)

        result : (f : File) → Stands env h.names f → P f → (r : Result Value Kind) →
            Late c m first_state (proper r memory (λ u. part.gives (Some u) h memory) kk) (finished c m a (inner_dest T i (fresh_register n T)) next f r)
        result f s p (Err kind) = late_fails
        result f s p (Ok u) = land T i n u f next go k (λ q. after_write T under stable f s p on u q)

        last : {r : OperandShape} (v w : Value) (f : File) → Stands env h.names f → P f → Operands op x y f r v w → Late c m first_state (step v w h memory kk) (Continues (now (done r) f))
        last {r = r} v w f s p read =
            subst (λ q. Late c m first_state (proper q memory (λ u. part.gives (Some u) h memory) kk) (Continues (now (done r) f)))
            (sym (light_apply op (sizes memory) (sizes a.memory) v w (and_parts (is_light_operator op) (is_light (scopes env) left && is_light (scopes env) right) light).0))
            (operator_follows c m (Late c m first_state) (late_stepping c m first_state) a (inner_dest T i (fresh_register n T)) next (λ o. proper o memory (λ u. part.gives (Some u) h memory) kk) (λ kind z. late_fails) (λ z. omega (arith, z)) read
            (λ g r o.
            result g (reached (λ g. Stands env h.names g) (λ v g s. stands_put y v (unnamed (suc (suc i)) (omega (arith, less))) s) s r)
            (reached P (λ v g p. stable.puts y v g (new (omega arith)) p) p r) o))

        by : {r : OperandShape} {g1 g2 : Expression} (q : Bool) → is_left_first (scopes env) g1 g2 ≡ q → g1 ≡ left → g2 ≡ right → ShapeView op g1 g2 r →
            Late c m first_state (both q (does (text_setting c) turns left false) (does (text_setting c) turns right false) h memory step kk) (Continues (now (ordered q (left_code r) (right_code r) (done r)) f))
        by true is same1 same2 (constant_right z) = absurd (true≢false (sym is))
        by {r = r} false is same1 same2 (constant_right {place = place'} {w = w} z) =
            subst (λ g. Late c m first_state (with_value (does (text_setting c) turns g false h memory) (λ w h memory. with_value (does (text_setting c) turns left false h memory) (λ v h memory. step v w h memory)) kk)
            (Continues (now (left_code r (done r)) f))) same2
            (late_constant place' w (λ w h memory. with_value (does (text_setting c) turns left false h memory) (λ v h memory. step v w h memory)) kk _
            (ll _ env labels (suc i) (suc (suc (suc i))) (done r) P (λ v h memory. step v (value.Word w) h memory) kk (and_parts (is_light (scopes env) left) (is_light (scopes env) right) parts).0
            (under_more (suc i) (omega (arith, less)) under) (omega arith) (omega (arith, first, less)) (stable_inner (suc i) (suc (suc (suc i))) (omega arith) (omega arith) stable)
            f s p (λ v f s p fv hv. last v (value.Word w) f s p (left_stands z hv))))
        by true is same1 same2 (power_right z low top q) = absurd (true≢false (sym is))
        by {r = r} false is same1 same2 (power_right {place = place'} {w = w} z low top whole) =
            subst (λ g. Late c m first_state (with_value (does (text_setting c) turns g false h memory) (λ w h memory. with_value (does (text_setting c) turns left false h memory) (λ v h memory. step v w h memory)) kk)
            (Continues (now (left_code r (done r)) f))) same2
            (late_constant place' w (λ w h memory. with_value (does (text_setting c) turns left false h memory) (λ v h memory. step v w h memory)) kk _
            (ll _ env labels (suc i) (suc (suc (suc i))) (done r) P (λ v h memory. step v (value.Word w) h memory) kk (and_parts (is_light (scopes env) left) (is_light (scopes env) right) parts).0
            (under_more (suc i) (omega (arith, less)) under) (omega arith) (omega (arith, first, less)) (stable_inner (suc i) (suc (suc (suc i))) (omega arith) (omega arith) stable)
            f s p (λ v f s p fv hv. last v (value.Word w) f s p (a_power z low top whole (ap (λ g. comp_of_type (type_of (scopes env) g)) (sym same2)) hv))))
        by {r = r} true is same1 same2 (constant_left {place = place'} {w = w} z) =
            subst (λ g. Late c m first_state (with_value (does (text_setting c) turns g false h memory) (λ v h memory. with_value (does (text_setting c) turns right false h memory) (λ w h memory. step v w h memory)) kk)
            (Continues (now (right_code r (done r)) f))) same1
            (late_constant place' w (λ v h memory. with_value (does (text_setting c) turns right false h memory) (λ w h memory. step v w h memory)) kk _
            (lr _ env labels (suc (suc i)) (suc (suc (suc i)) + width left) (done r) P (λ u h memory. step (value.Word w) u h memory) kk (and_parts (is_light (scopes env) left) (is_light (scopes env) right) parts).1
            (under_more (suc (suc i)) (omega (arith, less)) under) (omega arith) (omega (arith, first, less)) (stable_inner (suc (suc i)) (suc (suc (suc i)) + width left) (omega arith) (omega arith) stable)
            f s p (λ u f s p fu hu. last (value.Word w) u f s p (right_stands z hu))))
        by {r = r} false is same1 same2 (constant_left {place = place'} {w = w} z) =
            lr _ env labels (suc (suc i)) (suc (suc (suc i)) + width left) (done r) P (λ u h memory. with_value (does (text_setting c) turns left false h memory) (λ v h memory. step v u h memory)) kk
            (and_parts (is_light (scopes env) left) (is_light (scopes env) right) parts).1
            (under_more (suc (suc i)) (omega (arith, less)) under) (omega arith) (omega (arith, first, less)) (stable_inner (suc (suc i)) (suc (suc (suc i)) + width left) (omega arith) (omega arith) stable)
            f s p (λ u f s p fu hu.
            subst (λ g. Late c m first_state (with_value (does (text_setting c) turns g false h memory) (λ v h memory. step v u h memory) kk) (Continues (now (done r) f))) same1
            (late_constant place' w (λ v h memory. step v u h memory) kk _ (last (value.Word w) u f s p (right_stands z hu))))
        by false is same1 same2 in_registers =
            lr _ env labels (suc (suc i)) (suc (suc (suc i)) + width left) (left_code InRegisters (done InRegisters)) P (λ w h memory. with_value (does (text_setting c) turns left false h memory) (λ v h memory. step v w h memory)) kk
            (and_parts (is_light (scopes env) left) (is_light (scopes env) right) parts).1 (under_more (suc (suc i)) (omega (arith, less)) under) (omega arith) (omega (arith, first, less))
            (stable_inner (suc (suc i)) (suc (suc (suc i)) + width left) (omega arith) (omega arith) stable) f s p
            (λ w f s p fw hw.
            ll _ env labels (suc i) (suc (suc (suc i))) (done InRegisters) (Also P y w) (λ v h memory. step v w h memory) kk (and_parts (is_light (scopes env) left) (is_light (scopes env) right) parts).0
            (under_more (suc i) (omega (arith, less)) under) (omega arith) (omega (arith, first, less))
            (stable_and y w (omega arith) (λ z. omega (arith, z)) (unnamed (suc (suc i)) (omega (arith, less))) (omega (arith, first, less)) (stable_inner (suc i) (suc (suc (suc i))) (omega arith) (omega arith) stable))
            f s (record { rest = p; holds = hw }) (λ v f s p fv hv. last v w f s p.rest (both_stand hv p.holds)))
        by true is same1 same2 in_registers =
            ll _ env labels (suc i) (suc (suc (suc i))) (right_code InRegisters (done InRegisters)) P (λ v h memory. with_value (does (text_setting c) turns right false h memory) (λ w h memory. step v w h memory)) kk
            (and_parts (is_light (scopes env) left) (is_light (scopes env) right) parts).0 (under_more (suc i) (omega (arith, less)) under) (omega arith) (omega (arith, first, less))
            (stable_inner (suc i) (suc (suc (suc i))) (omega arith) (omega arith) stable) f s p
            (λ v f s p fv hv.
            lr _ env labels (suc (suc i)) (suc (suc (suc i)) + width left) (done InRegisters) (Also P x v) (λ w h memory. step v w h memory) kk (and_parts (is_light (scopes env) left) (is_light (scopes env) right) parts).1
            (under_more (suc (suc i)) (omega (arith, less)) under) (omega arith) (omega (arith, first, less))
            (stable_and x v (omega arith) (λ z. omega (arith, z)) (unnamed (suc i) (omega (arith, less))) (omega (arith, first, less)) (stable_inner (suc (suc i)) (suc (suc (suc i)) + width left) (omega arith) (omega arith) stable))
            f s (record { rest = p; holds = hv }) (λ w f s p fw hw. last v w f s p.rest (both_stand p.holds hw)))

  pub light_follows : (e : Expression) → LightOperand e
  light_follows (Integer place w) B env labels n i next P go k light = light_integer place w B env labels n i next P go k light
  light_follows (Symbol place x) B env labels n i next P go k light = light_symbol place x B env labels n i next P go k light
  light_follows (Name place x) B env labels n i next P go k light = light_name place x B env labels n i next P go k light
  light_follows (Operator place op left right) B env labels n i next P go k light =
      light_operator place op left right (λ B env labels n i next P go k light. light_follows left B env labels n i next P go k light) (λ B env labels n i next P go k light. light_follows right B env labels n i next P go k light)
      B env labels n i next P go k light
  light_follows e B env labels n i next P go k light = absurd (true≢false (sym light))

  -- operands that have waited
  pub light_filled : (es : Expressions) (env : List NamedRegister) (labels : List Label) (b i : ℕ) (next : List Instr) (P : File → Type 0) (k : Leaves (List Value) → Does) (before : List (Option Value)) →
      Under b env → 21 ≤ b → Stable env b b P → b + count_of es ≤ i → (f : File) → Stands env h.names f → P f → Row c.setting.end f (regs_of env b es) before → Matches env es before →
      ((vs : List Value) (f : File) → Stands env h.names f → P f → Row c.setting.end f (regs_of env b es) (map Some vs) → Late c m first_state (k (Giving vs h memory)) (Continues (now next f))) →
      Late c m first_state (filled (text_setting c) turns es before h memory k) (Continues (now (select_filled env labels b i es next) f))
  light_filled NoMore env labels b i next P k before under first stable le f s p row matches on = on [] f s p rows.none
  light_filled (More e rest) env labels b i next P k before under first stable le f s p row matches on =
      by (λ P k before stable f s p row matches on.
      light_filled rest env labels (suc b) (i + width e) (code (is_light_address (scopes env) e)) P k before (under_more (suc b) (omega arith) under) (omega (arith, first)) stable (omega (arith, le)) f s p row matches on)
      before row matches
    where
      code : Bool → List Instr
      code light = only_when light (select env labels false false (fresh_register b (type_of (scopes env) e)) i e) next

      r : Reg
      r = fresh_register b (type_of (scopes env) e)

      by : ((P : File → Type 0) (k : Leaves (List Value) → Does) (before : List (Option Value)) → Stable env (suc b) (suc b) P → (f : File) → Stands env h.names f → P f → Row c.setting.end f (regs_of env (suc b) rest) before → Matches env rest before →
          ((vs : List Value) (f : File) → Stands env h.names f → P f → Row c.setting.end f (regs_of env (suc b) rest) (map Some vs) → Late c m first_state (k (Giving vs h memory)) (Continues (now (code (is_light_address (scopes env) e)) f))) →
          Late c m first_state (filled (text_setting c) turns rest before h memory k) (Continues (now (select_filled env labels (suc b) (i + width e) rest (code (is_light_address (scopes env) e))) f))) →
          (before : List (Option Value)) → Row c.setting.end f (regs_of env b (More e rest)) before → Matches env (More e rest) before →
          Late c m first_state (filled (text_setting c) turns (More e rest) before h memory k) (Continues (now (select_filled env labels b i (More e rest) next) f))
      by ih bs (late row) (rows.late is matches) =
          ih P (λ l. onward (λ vs h memory. part.with_value (does (text_setting c) turns e false h memory) (λ v h memory. part.gives (v ∷ vs) h memory)) l k) _ (stable_inner (suc b) (suc b) (omega arith) (omega arith) stable) f s p row matches
          (λ vs f s p row.
          subst (λ light. Late c m first_state (part.with_value (does (text_setting c) turns e false h memory) (λ v h memory. part.gives (v ∷ vs) h memory) k) (Continues (now (code light) f))) (sym is)
          (light_follows e _ env labels b i next (WithRow c.setting.end P (regs_of env (suc b) rest) (map Some vs)) (λ v h memory. part.gives (v ∷ vs) h memory) k (address_is_light (scopes env) e is) under (omega (arith, le)) first
          (stable_row (map Some vs) (omega (arith, first)) (between_regs env (suc b) i rest (omega (arith, le))) (λ n low high same. omega (arith, low, same)) (under_more (suc b) (omega arith) under) (stable_same i (omega (arith, le)) stable))
          f s (record { rest = p; row = row }) (λ v f s p fv hv. on (v ∷ vs) f s p.rest (early (own_fits c m turns ts (type_of (scopes env) e) v fv) hv p.row))))
      by ih bs (early {v = v} fv hv row) (rows.early is matches) =
          ih (WithRow c.setting.end P (r ∷ []) (Some v ∷ [])) (λ l. onward (λ vs h memory. part.gives (v ∷ vs) h memory) l k) _
          (stable_row (Some v ∷ []) first (rows.one (le_refl b) (omega arith) rows.none) (λ n low high same. omega (arith, high, same)) under (stable_inner (suc b) (suc b) (omega arith) (omega arith) stable))
          f s (record { rest = p; row = early fv hv rows.none }) row matches
          (λ vs f s p row.
          subst (λ light. Late c m first_state (part.gives (v ∷ vs) h memory k) (Continues (now (code light) f))) (sym is)
          (on (v ∷ vs) f s p.rest (early fv (first_holds p.row) row)))
        where
          first_holds : {f : File} → Row c.setting.end f (r ∷ []) (Some v ∷ []) → Holds r v f
          first_holds (early e h rows.none) = h
