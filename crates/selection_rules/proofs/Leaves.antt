-- Forms with no part, or whose last step is one instruction.
use Rattle.std.proofs.Common.{◌≡◌, ℕ, suc, ◌+◌, ◌≤◌, Bool, true, false, cond, List, [], ◌∷◌, Option, Some, None, Result, Ok, Err, refl, sym, ap, ◌∙◌, subst, arith, le_refl}
use Rattle.bs_words.specs.Fits.{fits, misfit, type_of_comp}
use Rattle.bs_words.specs.Memory.{Memory, sizes}
use Rattle.bs_words.specs.Operators.{apply}
use Rattle.bs_words.specs.declared.operators.IntOp.{IntOp}
use Rattle.bs_words.specs.declared.types.Ty.{Ty}
use Rattle.bs_words.specs.declared.values.Kind.{Kind}
use Rattle.bs_words.specs.declared.values.Value.{Value}
use Rattle.cmm_tree.specs.Tree.{Expression, Integer, Pointer, Symbol, Name, Nothing, Assign, Operator}
use Rattle.cmm_types.specs.Types.{Scoped, type_of, type_named}
use Rattle.cmm_meaning.specs.Evaluation.{is_left_first}
use Rattle.cmm_meaning.specs.State.{Binding, Here, scope, value_of, assigned}
use Rattle.meaning_laws.specs.Does.{Leaves, Giving, Does}
use Rattle.meaning_laws.specs.Interaction.{Part, onward, of_type, tested, both, proper, looked_up, does}
use Rattle.mach_ir.specs.declared.reg.Reg.{Reg}
use Rattle.mach_ir.specs.declared.mach.Instr.{Instr}
use Rattle.mach_ir.specs.declared.mach.Mach.{Mach}
use Rattle.mach_ir.specs.Runs.{ActivationSetting, Continues}
use Rattle.mach_ir.specs.Meaning.{File, with_held, on_act, wrote, assign_register, put_if}
use Rattle.mach_ir.specs.Acts.{if_known}
use Rattle.selection_rules.specs.Kept.{on_lossless_values}
use Rattle.selection_rules.specs.Select.{operation_shape, operator_code, NamedRegister, Label, scopes, fresh_register, reg_of, move_from, move_to, inner_valued, inner_dest, width, select}
use Rattle.selection_rules.specs.Follow.{FollowsText, walks, fails}
use Rattle.selection_rules.proofs.Files.{Holds, Looked, unknown, known as a_known, looked_up as name_stands, Assigns, unbound, assigns, assigning, under_more, named_under, IsNamed, Stands, stands_put, scope_is}
use Rattle.selection_rules.proofs.Parts.{lower_more, Stable, stable_inner, stable_same, new, name as may_name, calm, at, Level, any, nothing as no_value, gone_any, After, after_typed, node_follows, Ready, lands}
use Rattle.selection_rules.proofs.Operands.{Selected, operand, own_fits, ready_at}
use Rattle.selection_rules.proofs.Shapes.{shape_two, shape_view}
use Rattle.selection_rules.proofs.Operators.{finished, reached, follows_stepping, operator_follows}
use Rattle.selection_rules.proofs.Endings.{ending_select}
use Rattle.bs_words.specs.declared.types.Ty.TheVariants as ty
use Rattle.bs_words.specs.declared.values.Value.TheVariants as value
use Rattle.meaning_laws.specs.Interaction as part
use Rattle.selection_rules.specs.Instructions as emit
use Rattle.selection_rules.specs.Follow.{text_setting}

module _ (c : ActivationSetting) (m : Mach) (turns : ℕ) (ts : List ℕ) where
  pub ready_inner : {env : List NamedRegister} {labels : List Label} {b : ℕ} {d : Reg} (T : Ty) → Ready c m turns ts env labels b d → Ready c m turns ts env labels (suc b) (inner_dest T b d)
  ready_inner {env} {labels} {b} {d} T r = by T
    where
      own : Ready c m turns ts env labels (suc b) d
      own = record { under = under_more (suc b) (omega arith) r.under; lower = lower_more (suc b) (omega arith) r.lower; off = r.off; below = let less = r.below in omega (arith, less); first = r.first }

      by : (T : Ty) → Ready c m turns ts env labels (suc b) (inner_dest T b d)
      by ty.NoValue =
          record { under = under_more (suc b) (omega arith) r.under; lower = lower_more (suc b) (omega arith) r.lower; off = λ q. let small = named_under r.under q in omega (arith, small); below = omega arith; first = let less = r.below in let le = r.first in omega (arith, less, le) }
      by ty.Never = own
      by ty.Int = own
      by ty.Val = own
      by ty.Addr = own

  pub stable_dest : {env : List NamedRegister} {b : ℕ} {P : File → Type 0} (d : Reg) (T : Ty) → Stable env b d.number P → Stable env (suc b) (inner_dest T b d).number P
  stable_dest {b = b} d ty.NoValue s = stable_inner b (suc b) (le_refl b) (omega arith) s
  stable_dest {b = b} d ty.Never s = stable_same (suc b) (omega arith) s
  stable_dest {b = b} d ty.Int s = stable_same (suc b) (omega arith) s
  stable_dest {b = b} d ty.Val s = stable_same (suc b) (omega arith) s
  stable_dest {b = b} d ty.Addr s = stable_same (suc b) (omega arith) s

  -- a move, where its source holds a value
  pub move_follows : {x : Does} {a d : Reg} {v : Value} {f : File} {next : List Instr} {memory : Memory} → Holds a v f →
      FollowsText c m x (wrote next (calm c m turns ts memory) (put_if (fits c.setting.end (type_of_comp d.comp) v) d v (Some f))) →
      FollowsText c m x (Continues (at c m turns ts (emit.move a d ∷ next) f memory))
  move_follows {x} {a} {d} {v} {f} {next} {memory} h follows =
      walks (subst (λ o. FollowsText c m x (on_lossless_values c m (emit.move a d) next f (calm c m turns ts memory) (with_held o (Some [])))) (sym h.is) follows)

  pub selected_integer : (place w : ℕ) → Selected c m turns ts (Integer place w)
  selected_integer place w env labels valued tail d b next P k fine ready stable ending after h f memory level s p =
      let e = Integer place w in
      let T = type_of (scopes env) e in
      node_follows c m turns ts e h memory (part.gives (Some (value.Word w)) h memory) k _ s
      (walks (lands c m turns ts (ready_inner T ready) (stable_dest d T stable) (after_typed c m turns ts T b after) (value.Word w) h f memory level s p any))

  pub selected_pointer : (place w : ℕ) → Selected c m turns ts (Pointer place w)
  selected_pointer place w env labels valued tail d b next P k fine ready stable ending after h f memory level s p =
      let e = Pointer place w in
      let T = type_of (scopes env) e in
      node_follows c m turns ts e h memory (part.gives (Some (value.Word w)) h memory) k _ s
      (walks (lands c m turns ts (ready_inner T ready) (stable_dest d T stable) (after_typed c m turns ts T b after) (value.Word w) h f memory level s p any))

  pub selected_nothing : (place : ℕ) → Selected c m turns ts (Nothing place)
  selected_nothing place env labels valued tail d b next P k fine ready stable ending after h f memory level s p =
      let e = Nothing place in
      let T = type_of (scopes env) e in
      let a = after_typed c m turns ts T b after in
      node_follows c m turns ts e h memory (part.gives None h memory) k _ s (a.giving None h f memory level s p (no_value gone_any))

  pub selected_symbol : (place : ℕ) (name : List ℕ) → Selected c m turns ts (Symbol place name)
  selected_symbol place name env labels valued tail d b next P k fine ready stable ending after h f memory level s p =
      let e = Symbol place name in
      let T = type_of (scopes env) e in
      node_follows c m turns ts e h memory (looked_up (c.setting.symbol name) h memory) k _ s (walks (by (c.setting.symbol name)))
    where
      by : (o : Option Value) → FollowsText c m (looked_up o h memory (λ l. onward (λ v h memory. of_type c.setting.end (type_of (scopes env) (Symbol place name)) v h memory) l k))
          (on_act c m (emit.symbol name (inner_dest (type_of (scopes env) (Symbol place name)) b d)) next f (calm c m turns ts memory) (if_known (calm c m turns ts memory) o))
      by None = fails
      by (Some v) =
          lands c m turns ts (ready_inner (type_of (scopes env) (Symbol place name)) ready) (stable_dest d (type_of (scopes env) (Symbol place name)) stable)
          (after_typed c m turns ts (type_of (scopes env) (Symbol place name)) b after) v h f memory level s p any

  pub selected_name : (place : ℕ) (x : List ℕ) → Selected c m turns ts (Name place x)
  selected_name place x env labels valued tail d b next P k fine ready stable ending after h f memory level s p =
      node_follows c m turns ts (Name place x) h memory (looked_up (value_of h.names x) h memory) k _ s (by (reg_of env x) (value_of h.names x) (name_stands x s))
    where
      by : (r : Option Reg) (o : Option Value) → Looked env f r o → FollowsText c m (looked_up o h memory (λ l. onward (λ v h memory. of_type c.setting.end (type_of (scopes env) (Name place x)) v h memory) l k))
          (Continues (at c m turns ts (move_from r (inner_dest (type_of (scopes env) (Name place x)) b d) next) f memory))
      by r o unknown = fails
      by r o (a_known {v = v} i holds) =
          move_follows holds
          (lands c m turns ts (ready_inner (type_of (scopes env) (Name place x)) ready) (stable_dest d (type_of (scopes env) (Name place x)) stable)
          (after_typed c m turns ts (type_of (scopes env) (Name place x)) b after) v h f memory level s p any)

  pub selected_assign : (place name_at : ℕ) (x : List ℕ) (e : Expression) → Selected c m turns ts e → Selected c m turns ts (Assign place name_at x e)
  selected_assign place name_at x e se env labels valued tail d b next P k fine ready stable ending after h f memory level s p =
      let T = type_of (scopes env) (Assign place name_at x e) in
      let a = after_typed c m turns ts T b after in
      let under = ready.under in
      let first : 21 ≤ b = let less = ready.below in let le = ready.first in omega (arith, less, le) in
      node_follows c m turns ts (Assign place name_at x e) h memory
      (part.with_value (does (text_setting c) turns e false h memory) (λ v h memory.
      tested c.setting.end (type_named (scope h) x) v memory (part.gives None (record h { names = assigned h.names x v }) memory))) k _ s
      (operand c m turns ts e se (omega (arith, fine)) (suc b) (suc (suc b)) (move_to (fresh_register (suc b) (type_of (scopes env) e)) (reg_of env x) next) _ _
      (ready_at c m turns ts (type_of (scopes env) e) (suc b) (suc (suc b)) ready.lower under first (omega arith) (omega arith)) (stable_inner (suc b) (suc (suc b)) (omega arith) (omega arith) stable) ending a.outs h f memory level s p
      (λ v h f memory level s p fit' holds.
      subst (λ (sc : List Scoped). FollowsText c m (tested c.setting.end (type_named sc x) v memory (part.gives None (record h { names = assigned h.names x v }) memory)
      (λ l. onward (λ v h memory. of_type c.setting.end (type_of (scopes env) (Assign place name_at x e)) v h memory) l k))
      (Continues (at c m turns ts (move_to (fresh_register (suc b) (type_of (scopes env) e)) (reg_of env x) next) f memory)))
      (sym (scope_is s))
      (by v h f memory level p holds (reg_of env x) (assigned h.names x v) (type_named (scopes env) x) (assigning x v under s))))
    where
      by : (v : Value) (h : Here) (f : File) (memory : Memory) → Level c m turns ts h → P f → Holds (fresh_register (suc b) (type_of (scopes env) e)) v f →
          (r : Option Reg) (names : List Binding) (T : Ty) → Assigns env v f r names T →
          FollowsText c m (tested c.setting.end T v memory (part.gives None (record h { names = names }) memory)
          (λ l. onward (λ v h memory. of_type c.setting.end (type_of (scopes env) (Assign place name_at x e)) v h memory) l k))
          (Continues (at c m turns ts (move_to (fresh_register (suc b) (type_of (scopes env) e)) r next) f memory))
      by v h f memory level p holds o names T unbound = fails
      by v h f memory level p holds o names T (assigns {r = r} i q t) = fitting (fits c.setting.end T v) refl
        where
          a : After c m turns ts None env labels (inner_valued valued (type_of (scopes env) (Assign place name_at x e))) tail (inner_dest (type_of (scopes env) (Assign place name_at x e)) b d) next P
              (λ l. onward (λ v h memory. of_type c.setting.end (type_of (scopes env) (Assign place name_at x e)) v h memory) l k)
          a = after_typed c m turns ts (type_of (scopes env) (Assign place name_at x e)) b after

          fitting : (g : Bool) → fits c.setting.end T v ≡ g →
              FollowsText c m (cond g (part.gives None (record h { names = names }) memory) (part.fails (misfit T) memory)
              (λ l. onward (λ v h memory. of_type c.setting.end (type_of (scopes env) (Assign place name_at x e)) v h memory) l k))
              (Continues (at c m turns ts (emit.move (fresh_register (suc b) (type_of (scopes env) e)) r ∷ next) f memory))
          fitting false e' = fails
          fitting true e' =
              move_follows holds
              (subst (λ g. FollowsText c m (onward (λ v h memory. of_type c.setting.end (type_of (scopes env) (Assign place name_at x e)) v h memory) (Giving None (record h { names = names }) memory) k)
              (wrote next (calm c m turns ts memory) (put_if g r v (Some f))))
              (sym (ap (λ z. fits c.setting.end (type_of_comp z) v) q ∙ own_fits c m turns ts T v e'))
              (a.giving None (record h { names = names }) (assign_register r v f) memory (record { below = level.below; frame = level.frame; tries = level.tries }) t (stable.puts r v f (may_name i) p) (no_value gone_any)))

  -- ---- operators

  pub selected_operator : (place : ℕ) (op : IntOp) (left right : Expression) → Selected c m turns ts left → Selected c m turns ts right → Selected c m turns ts (Operator place op left right)
  selected_operator place op left right sl sr env labels valued tail d b next P k fine ready stable ending after h f memory level s p =
      let first : 21 ≤ b = let less = ready.below in let le = ready.first in omega (arith, less, le) in
      let a = after_typed c m turns ts (type_of (scopes env) (Operator place op left right)) b after in
      node_follows c m turns ts (Operator place op left right) h memory
      (both (is_left_first (scope h) left right) (does (text_setting c) turns left false) (does (text_setting c) turns right false) h memory go) k _ s
      (subst (λ (sc : List Scoped). FollowsText c m (both (is_left_first sc left right) (does (text_setting c) turns left false) (does (text_setting c) turns right false) h memory go kk)
      (Continues (at c m turns ts (select env labels valued tail d b (Operator place op left right) next) f memory)))
      (sym (scope_is s))
      (shape_two c m turns ts (is_left_first (scopes env) left right) left right (shape_view op left right) refl sl sr (omega (arith, fine)) (omega (arith, fine)) (suc b) (suc (suc b)) (suc (suc (suc b))) (suc (suc (suc b)) + width left)
      (operator_code (operation_shape op left right) op x y (inner_dest T b d) next) go kk ready.lower ready.under first stable
      (omega arith) (omega arith) (omega arith) (omega arith) (omega arith) (omega arith) (λ z. omega (arith, z))
      (λ rest. ending_select env labels false false _ _ left rest) (λ rest. ending_select env labels false false _ _ right rest) ending a.outs h f memory level s p
      (λ v w h f memory level s p read.
      operator_follows c m (FollowsText c m) (follows_stepping c m) (calm c m turns ts memory) (inner_dest T b d) next (λ o. proper o memory (λ u. part.gives (Some u) h memory) kk) (λ kind z. fails) (λ z. omega (arith, z)) read
      (λ g r o. by h g memory level (reached (λ g. Stands env h.names g) (λ v g s. stands_put y v unnamed s) s r) (reached P (λ v g p. stable.puts y v g (new (omega arith)) p) p r) o))))
    where
      T : Ty
      T = type_of (scopes env) (Operator place op left right)

      x : Reg
      x = fresh_register (suc b) (type_of (scopes env) left)

      y : Reg
      y = fresh_register (suc (suc b)) (type_of (scopes env) right)

      unnamed : IsNamed (suc (suc b)) env → ⊥
      unnamed q = let small = named_under ready.under q in omega (arith, small)

      kk : Leaves (Option Value) → Does
      kk = λ l. onward (λ v h memory. of_type c.setting.end (type_of (scopes env) (Operator place op left right)) v h memory) l k

      go : Value → Value → Here → Memory → Part (Option Value)
      go = λ v w h memory. proper (apply op (sizes memory) v w) memory (λ u. part.gives (Some u) h memory)

      by : (h : Here) (f : File) (memory : Memory) → Level c m turns ts h → Stands env h.names f → P f → (r : Result Value Kind) →
          FollowsText c m (proper r memory (λ u. part.gives (Some u) h memory) kk) (finished c m (calm c m turns ts memory) (inner_dest T b d) next f r)
      by h f memory level s p (Err kind) = fails
      by h f memory level s p (Ok u) =
          lands c m turns ts (ready_inner T ready) (stable_dest d T stable) (after_typed c m turns ts T b after) u h f memory level s p any
