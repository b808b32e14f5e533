-- Accesses of memory, and tests and raises.
use Rattle.std.proofs.Common.{◌≡◌, ℕ, suc, ◌+◌, ◌≤◌, Bool, true, false, cond, List, [], ◌∷◌, Option, Some, None, Result, Ok, Err, refl, sym, subst, arith}
use Rattle.std.specs.Prelude.{nat_lt}
use Rattle.bs_words.specs.Fits.{fits, misfit}
use Rattle.bs_words.specs.Memory.{Memory, Cell, loaded, loaded_from, stored, stored_in, offset_in_cell, cell_at}
use Rattle.bs_words.specs.Operators.{word_in}
use Rattle.bs_words.specs.declared.types.Chunk.{Chunk}
use Rattle.bs_words.specs.declared.types.Ty.{Ty}
use Rattle.bs_words.specs.declared.values.Kind.{Kind}
use Rattle.bs_words.specs.declared.values.Value.{Value}
use Rattle.cmm_tree.specs.Tree.{Expression, Load, Store, Checkbound, Raise}
use Rattle.cmm_types.specs.Types.{Scoped, type_of}
use Rattle.cmm_meaning.specs.Evaluation.{is_left_first, bound_error}
use Rattle.cmm_meaning.specs.State.{Here, scope}
use Rattle.meaning_laws.specs.Does.{Leaves, Raising, Does, Jumps}
use Rattle.meaning_laws.specs.Interaction.{Part, onward, of_type, tested, both, proper, does}
use Rattle.mach_ir.specs.declared.reg.Reg.{Reg}
use Rattle.mach_ir.specs.declared.mach.Instr.{Instr}
use Rattle.mach_ir.specs.declared.mach.Mach.{Mach}
use Rattle.mach_ir.specs.Runs.{ActivationSetting, Continues, IsStuck}
use Rattle.mach_ir.specs.Meaning.{File, assign_register, put_if, wrote, tries_at, with_held, on_act, at_handler}
use Rattle.mach_ir.specs.Acts.{Goes, On, moved_by, stuck_unless, one_result, loaded_act, stored_act, after_store, checked, raised_by}
use Rattle.selection_rules.specs.Kept.{on_lossless_values}
use Rattle.selection_rules.specs.Select.{scopes, fresh_register, comp_of_type, inner_dest, width, seat, offset_of, base_of, bound_test_operand, unless_constant, bound_test, select}
use Rattle.selection_rules.specs.Follow.{FollowsText, walks, fails, jumps, raises_out}
use Rattle.selection_rules.proofs.Files.{put_same, IsNamed, named_under, Stands, stands_put, scope_is}
use Rattle.selection_rules.proofs.Parts.{placed_in, placed_next, new, stable_inner, calm, at, Level, based, reaching_now, raised_to, any, nothing as no_value, gone_any, after_typed, node_follows, lands}
use Rattle.selection_rules.proofs.Operands.{Selected, operand, ready_at}
use Rattle.selection_rules.proofs.Constants.{right_two, right_view, operands_values, checked_act}
use Rattle.selection_rules.proofs.Addresses.{SelectedAddress, address_two}
use Rattle.selection_rules.proofs.Endings.{ending_base, ending_select, ending_ordered, ending_constant}
use Rattle.selection_rules.proofs.Leaves.{ready_inner, stable_dest, move_follows}
use Rattle.bs_words.specs.Memory as memory_of
use Rattle.bs_words.specs.declared.types.Ty.TheVariants as ty
use Rattle.meaning_laws.specs.Interaction as part
use Rattle.bs_words.specs.declared.types.Comp.TheVariants as comp
use Rattle.selection_rules.specs.Instructions as emit
use Rattle.selection_rules.specs.Follow.{text_setting}

module _ (c : ActivationSetting) (m : Mach) (turns : ℕ) (ts : List ℕ) where
  -- a raise of its own comes to the handler of the innermost try, or out of the function
  pub leaps : (y : Does) (i : Instr) (next : List Instr) (f : File) (memory : Memory) (v : Value) (us : List ℕ) → tries_at (i ∷ next) ≡ us → FollowsText c m y (raised_to m us v f memory) →
      FollowsText c m (Jumps y) (on_act c m i next f (calm c m turns ts memory) (raised_by v (calm c m turns ts memory) us))
  leaps y i next f memory v [] caught follows = raises_out follows
  leaps y i next f memory v (l ∷ us) caught follows =
      jumps (subst (λ o. FollowsText c m y (Continues (record { rest = at_handler m.code o; file = f; around = record { memory = memory; unwritten = []; tries = us; raised = Some v } }))) (sym caught) follows)

  -- ---- loads

  pub selected_load : (place : ℕ) (chunk : Chunk) (address : Expression) → SelectedAddress c m turns ts address → Selected c m turns ts (Load place chunk address)
  selected_load place chunk address sa env labels valued tail d b next P k fine ready stable ending after h f memory level s p =
      let first : 21 ≤ b = let less = ready.below in let le = ready.first in omega (arith, less, le) in
      let a = after_typed c m turns ts T b after in
      node_follows c m turns ts (Load place chunk address) h memory
      (part.with_value (does (text_setting c) turns address false h memory) (λ v h memory. proper (loaded chunk memory v) memory (λ u. part.gives (Some u) h memory))) k _ s
      (sa _ env labels (suc b) b (suc (suc b)) (instr ∷ next) P _ kk (omega (arith, fine)) ready.lower ready.under first (omega arith) (omega arith) (stable_inner (suc b) (suc (suc b)) (omega arith) (omega arith) stable) ending a.outs h f memory level s p
      (λ u h f memory level s p hu. walks (
      subst (λ o. FollowsText c m (proper (loaded chunk memory (at_address u)) memory (λ u. part.gives (Some u) h memory) kk) (on_lossless_values c m instr next f (calm c m turns ts memory) (with_held o (Some []))))
      (sym hu.is) (by h f memory level s p (at_address u) (cell_at memory (memory_of.width chunk) (at_address u))))))
    where
      T : Ty
      T = type_of (scopes env) (Load place chunk address)

      at_address : Value → Value
      at_address u = moved_by (offset_of address) u

      instr : Instr
      instr = emit.load chunk (offset_of address) (fresh_register (suc b) (type_of (scopes env) (base_of address))) (inner_dest T b d)

      kk : Leaves (Option Value) → Does
      kk = λ l. onward (λ v h memory. of_type c.setting.end (type_of (scopes env) (Load place chunk address)) v h memory) l k

      one : (h : Here) (f : File) (memory : Memory) → Level c m turns ts h → Stands env h.names f → P f → (r : Result Value Kind) →
          FollowsText c m (proper r memory (λ u. part.gives (Some u) h memory) kk) (on_act c m instr next f (calm c m turns ts memory) (one_result (calm c m turns ts memory) r))
      one h f memory level s p (Err kind) = fails
      one h f memory level s p (Ok u) = lands c m turns ts (ready_inner c m turns ts T ready) (stable_dest c m turns ts d T stable) (after_typed c m turns ts T b after) u h f memory level s p any

      by : (h : Here) (f : File) (memory : Memory) → Level c m turns ts h → Stands env h.names f → P f → (v : Value) (o : Option Cell) →
          FollowsText c m (proper (loaded_from chunk memory (offset_in_cell v) o) memory (λ u. part.gives (Some u) h memory) kk)
          (on_act c m instr next f (calm c m turns ts memory) (loaded_act (calm c m turns ts memory) o (loaded_from chunk memory (offset_in_cell v) o)))
      by h f memory level s p v None = fails
      by h f memory level s p v (Some cell) = one h f memory level s p (loaded_from chunk memory (offset_in_cell v) (Some cell))

  -- ---- raises

  pub selected_raise : (place : ℕ) (e : Expression) → Selected c m turns ts e → Selected c m turns ts (Raise place e)
  selected_raise place e se env labels valued tail d b next P k fine ready stable ending after h f memory level s p =
      let first : 21 ≤ b = let less = ready.below in let le = ready.first in omega (arith, less, le) in
      let a = after_typed c m turns ts (type_of (scopes env) (Raise place e)) b after in
      let pl = placed_next refl (placed_in (ending_select env labels false false x (suc (suc (suc b))) e (emit.move x y ∷ instr ∷ next)) ending) in
      node_follows c m turns ts (Raise place e) h memory
      (part.with_value (does (text_setting c) turns e false h memory) (λ v h memory. tested c.setting.end ty.Val v memory (part.jumps (part.raises v h memory)))) k _ s
      (operand c m turns ts e se (omega (arith, fine)) (suc b) (suc (suc (suc b))) (emit.move x y ∷ instr ∷ next) _ _
      (ready_at c m turns ts (type_of (scopes env) e) (suc b) (suc (suc (suc b))) ready.lower ready.under first (omega arith) (omega arith)) (stable_inner (suc b) (suc (suc (suc b))) (omega arith) (omega arith) stable) ending a.outs h f memory level s p
      (λ v h f memory level s p fv hv. move_follows c m turns ts hv (by pl.caught h f memory level s p v (fits c.setting.end ty.Val v) refl)))
    where
      x : Reg
      x = fresh_register (suc b) (type_of (scopes env) e)

      y : Reg
      y = seat 0 (suc (suc b)) comp.Val

      instr : Instr
      instr = emit.raising y

      kk : Leaves (Option Value) → Does
      kk = λ l. onward (λ v h memory. of_type c.setting.end (type_of (scopes env) (Raise place e)) v h memory) l k

      by : tries_at (instr ∷ next) ≡ ts → (h : Here) (f : File) (memory : Memory) → Level c m turns ts h → Stands env h.names f → P f → (v : Value) (g : Bool) → fits c.setting.end ty.Val v ≡ g →
          FollowsText c m (cond g (part.jumps (part.raises v h memory)) (part.fails (misfit ty.Val) memory) kk) (wrote (instr ∷ next) (calm c m turns ts memory) (put_if g y v (Some f)))
      by caught h f memory level s p v false e' = fails
      by caught h f memory level s p v true e' =
          let o = after.outs in
          let g = assign_register y v f in
          let its = put_same y v f in
          let unnamed : IsNamed y.number env → ⊥ = λ q. let small = named_under ready.under q in omega (arith, small) in
          walks (subst (λ o. FollowsText c m (Jumps (k (Raising v h memory))) (on_lossless_values c m instr next g (calm c m turns ts memory) (with_held o (Some [])))) (sym its.is)
          (subst (λ q. FollowsText c m (Jumps (k (Raising v h memory))) (on_act c m instr next g (calm c m turns ts memory) (stuck_unless q (raised_by v (calm c m turns ts memory) ts)))) (sym e')
          (leaps (k (Raising v h memory)) instr next g memory v ts caught
          (o.raising v e' h g memory (based c m turns ts level) (reaching_now h (stands_put y v unnamed s)) (stable.puts y v f (new (omega arith)) p)))))

  -- ---- stores

  pub selected_store : (place : ℕ) (chunk : Chunk) (left right : Expression) → SelectedAddress c m turns ts left → Selected c m turns ts right → Selected c m turns ts (Store place chunk left right)
  selected_store place chunk left right sl sr env labels valued tail d b next P k fine ready stable ending after h f memory level s p =
      let first : 21 ≤ b = let less = ready.below in let le = ready.first in omega (arith, less, le) in
      let a = after_typed c m turns ts T b after in
      node_follows c m turns ts (Store place chunk left right) h memory
      (both (is_left_first (scope h) left right) (does (text_setting c) turns left false) (does (text_setting c) turns right false) h memory go) k _ s
      (subst (λ (sc : List Scoped). FollowsText c m (both (is_left_first sc left right) (does (text_setting c) turns left false) (does (text_setting c) turns right false) h memory go kk)
      (Continues (at c m turns ts (select env labels valued tail d b (Store place chunk left right) next) f memory)))
      (sym (scope_is s))
      (address_two c m turns ts (is_left_first (scopes env) left right) left right sl sr (omega (arith, fine)) (omega (arith, fine)) (suc b) (suc (suc b)) (suc (suc (suc b))) (suc (suc (suc b)) + width left) (instr ∷ next) go kk
      ready.lower ready.under first stable (omega arith) (omega arith) (omega arith) (omega arith) (omega arith) (omega arith) (λ z. omega (arith, z))
      (λ rest. ending_base env labels _ _ left _ (λ next. ending_select env labels false false _ _ left next) rest) (λ rest. ending_select env labels false false _ _ right rest) ending a.outs h f memory level s p
      (λ u w h f memory level s p hu hw. walks (
      subst (λ o. FollowsText c m (go (at_address u) w h memory kk) (on_lossless_values c m instr next f (calm c m turns ts memory) (with_held o (with_held (f (suc (suc b))) (Some [])))))
      (sym hu.is)
      (subst (λ o. FollowsText c m (go (at_address u) w h memory kk) (on_lossless_values c m instr next f (calm c m turns ts memory) (with_held (Some (record { comp = comp_of_type (type_of (scopes env) (base_of left)); value = u })) (with_held o (Some [])))))
      (sym hw.is) (by h f memory level s p (at_address u) w))))))
    where
      T : Ty
      T = type_of (scopes env) (Store place chunk left right)

      at_address : Value → Value
      at_address u = moved_by (offset_of left) u

      instr : Instr
      instr = emit.store chunk (offset_of left) (fresh_register (suc b) (type_of (scopes env) (base_of left))) (fresh_register (suc (suc b)) (type_of (scopes env) right))

      kk : Leaves (Option Value) → Does
      kk = λ l. onward (λ v h memory. of_type c.setting.end (type_of (scopes env) (Store place chunk left right)) v h memory) l k

      go : Value → Value → Here → Memory → Part (Option Value)
      go = λ v w h memory. proper (stored chunk memory v w) memory (λ after. part.gives None h after)

      one : (h : Here) (f : File) (memory : Memory) → Level c m turns ts h → Stands env h.names f → P f → (r : Result Memory Kind) →
          FollowsText c m (proper r memory (λ after. part.gives None h after) kk) (on_act c m instr next f (calm c m turns ts memory) (after_store (calm c m turns ts memory) [] r))
      one h f memory level s p (Err kind) = fails
      one h f memory level s p (Ok stored') = let inner = after_typed c m turns ts T b after in inner.giving None h f stored' level s p (no_value gone_any)

      by : (h : Here) (f : File) (memory : Memory) → Level c m turns ts h → Stands env h.names f → P f → (v w : Value) →
          FollowsText c m (go v w h memory kk) (on_act c m instr next f (calm c m turns ts memory) (stored_act chunk (calm c m turns ts memory) (cell_at memory (memory_of.width chunk) v) v w))
      by h f memory level s p v w = cells (cell_at memory (memory_of.width chunk) v) refl
        where
          cells : (o : Option Cell) → cell_at memory (memory_of.width chunk) v ≡ o →
              FollowsText c m (go v w h memory kk) (on_act c m instr next f (calm c m turns ts memory) (stored_act chunk (calm c m turns ts memory) o v w))
          cells None e = subst (λ o. FollowsText c m (proper (stored_in chunk memory (offset_in_cell v) o w) memory (λ after. part.gives None h after) kk) IsStuck) (sym e) fails
          cells (Some x) e = one h f memory level s p (stored chunk memory v w)

  -- ---- tests of a bound

  pub selected_checkbound : fits c.setting.end ty.Val bound_error ≡ true → (place : ℕ) (left right : Expression) → Selected c m turns ts left → Selected c m turns ts right → Selected c m turns ts (Checkbound place left right)
  selected_checkbound still place left right sl sr env labels valued tail d b next P k fine ready stable ending after h f memory level s p =
      let first : 21 ≤ b = let less = ready.below in let le = ready.first in omega (arith, less, le) in
      let a = after_typed c m turns ts T b after in
      let pl = placed_in (ending_ordered (is_left_first (scopes env) left right) (select env labels false false x (suc (suc (suc b))) left) (unless_constant (bound_test_operand bound_test right) (select env labels false false y (suc (suc (suc b)) + width left) right))
      (λ rest. ending_select env labels false false x (suc (suc (suc b))) left rest) (ending_constant (bound_test_operand bound_test right) _ (λ rest. ending_select env labels false false y (suc (suc (suc b)) + width left) right rest)) (instr ∷ next)) ending in
      node_follows c m turns ts (Checkbound place left right) h memory
      (both (is_left_first (scope h) left right) (does (text_setting c) turns left false) (does (text_setting c) turns right false) h memory go) k _ s
      (subst (λ (sc : List Scoped). FollowsText c m (both (is_left_first sc left right) (does (text_setting c) turns left false) (does (text_setting c) turns right false) h memory go kk)
      (Continues (at c m turns ts (select env labels valued tail d b (Checkbound place left right) next) f memory)))
      (sym (scope_is s))
      (right_two c m turns ts (is_left_first (scopes env) left right) left right (right_view bound_test right) refl sl sr (omega (arith, fine)) (omega (arith, fine)) (suc b) (suc (suc b)) (suc (suc (suc b))) (suc (suc (suc b)) + width left)
      (instr ∷ next) go kk ready.lower ready.under first stable
      (omega arith) (omega arith) (omega arith) (omega arith) (omega arith) (omega arith) (λ z. omega (arith, z))
      (λ rest. ending_select env labels false false _ _ left rest) (λ rest. ending_select env labels false false _ _ right rest) ending a.outs h f memory level s p
      (λ v w h f memory level s p read. walks (
      subst (λ o. FollowsText c m (go v w h memory kk) (on_lossless_values c m instr next f (calm c m turns ts memory) o)) (sym (operands_values read))
      (subst (λ done. FollowsText c m (go v w h memory kk) (on_act c m instr next f (calm c m turns ts memory) done)) (sym (checked_act c.setting (calm c m turns ts memory) read))
      (words pl.caught h f memory level s p (word_in v) (word_in w)))))))
    where
      T : Ty
      T = type_of (scopes env) (Checkbound place left right)

      x : Reg
      x = fresh_register (suc b) (type_of (scopes env) left)

      y : Reg
      y = fresh_register (suc (suc b)) (type_of (scopes env) right)

      instr : Instr
      instr = emit.checkbound_instr (bound_test_operand bound_test right) x y

      kk : Leaves (Option Value) → Does
      kk = λ l. onward (λ v h memory. of_type c.setting.end (type_of (scopes env) (Checkbound place left right)) v h memory) l k

      go : Value → Value → Here → Memory → Part (Option Value)
      go = λ v w h memory. proper (word_in v) memory (λ bound. proper (word_in w) memory (λ index.
          cond (nat_lt index bound) (part.gives None h memory) (part.jumps (part.raises bound_error h memory))))

      less : tries_at (instr ∷ next) ≡ ts → (h : Here) (f : File) (memory : Memory) → Level c m turns ts h → Stands env h.names f → P f → (g : Bool) →
          FollowsText c m (cond g (part.gives None h memory) (part.jumps (part.raises bound_error h memory)) kk)
          (on_act c m instr next f (calm c m turns ts memory)
          (cond g (Goes [] On (calm c m turns ts memory)) (stuck_unless (fits c.setting.end ty.Val bound_error) (raised_by bound_error (calm c m turns ts memory) ts))))
      less caught h f memory level s p true = let inner = after_typed c m turns ts T b after in inner.giving None h f memory level s p (no_value gone_any)
      less caught h f memory level s p false =
          let o = after.outs in
          subst (λ q. FollowsText c m (Jumps (k (Raising bound_error h memory))) (on_act c m instr next f (calm c m turns ts memory) (stuck_unless q (raised_by bound_error (calm c m turns ts memory) ts)))) (sym still)
          (leaps (k (Raising bound_error h memory)) instr next f memory bound_error ts caught (o.raising bound_error still h f memory (based c m turns ts level) (reaching_now h s) p))

      words : tries_at (instr ∷ next) ≡ ts → (h : Here) (f : File) (memory : Memory) → Level c m turns ts h → Stands env h.names f → P f → (r q : Result ℕ Kind) →
          FollowsText c m (proper r memory (λ bound. proper q memory (λ index. cond (nat_lt index bound) (part.gives None h memory) (part.jumps (part.raises bound_error h memory)))) kk)
          (on_act c m instr next f (calm c m turns ts memory) (checked c.setting r q (calm c m turns ts memory)))
      words caught h f memory level s p (Err kind) q = fails
      words caught h f memory level s p (Ok bound) (Err kind) = fails
      words caught h f memory level s p (Ok bound) (Ok index) = less caught h f memory level s p (nat_lt index bound)
