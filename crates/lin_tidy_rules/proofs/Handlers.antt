-- The labels of pushed traps are in the code.
use Rattle.std.proofs.Common.{◌≡◌, ℕ, zero, suc, List, [], ◌∷◌, refl}
use Rattle.mach_ir.specs.Acts.{drop_tries}
use Rattle.lin_ir.specs.Formed.{labels_in, pushes, WellFormed}
use Rattle.lin_ir.specs.Walks as walks
use Rattle.lin_ir.specs.Walks.{tries_after, Reached, at_entry, by_step, by_raise}
use Rattle.lin_ir.specs.declared.lin.Flow.TheVariants as flow
use Rattle.lin_ir.specs.declared.lin.LinOp.{LinOp}
use Rattle.lin_ir.specs.declared.lin.LinOp.TheVariants as lin
use Rattle.lin_ir.specs.declared.lin.Line.{Line}
use Rattle.lin_ir.specs.declared.lin.Lin.{Lin}
use Rattle.linearise_rules.proofs.Homes.{IsIn, in_of, contains_of}
use Rattle.linearise_rules.proofs.Walked.{tail_in, reached_tail}

module _ (m : Lin) (well : WellFormed m) where
  data AllNamed : List ℕ → Type 0 where
    none_named : AllNamed []
    one_more : {l : ℕ} {ls : List ℕ} → IsIn l (labels_in m.code) → AllNamed ls → AllNamed (l ∷ ls)

  all_dropped : {ts : List ℕ} (n : ℕ) → AllNamed ts → AllNamed (drop_tries n ts)
  all_dropped zero a = a
  all_dropped (suc n) none_named = none_named
  all_dropped (suc n) (one_more z a) = all_dropped n a

  all_after : {ts : List ℕ} (f : LinOp) → ((l : ℕ) → f ≡ lin.Flow (flow.PushTrap l) → IsIn l (labels_in m.code)) → AllNamed ts → AllNamed (tries_after f ts)
  all_after (lin.Op f) push a = a
  all_after (lin.Flow (flow.Label l)) push a = a
  all_after (lin.Flow (flow.Jump l)) push a = a
  all_after (lin.Flow (flow.Exit l)) push a = a
  all_after (lin.Flow (flow.Branch t l)) push a = a
  all_after (lin.Flow (flow.Switch ls)) push a = a
  all_after (lin.Flow (flow.PushTrap l)) push a = one_more (push l refl) a
  all_after (lin.Flow flow.PopTrap) push a = all_dropped 1 a
  all_after (lin.Flow flow.EnterTrap) push a = a

  all_after_first : {l : ℕ} {ls : List ℕ} → AllNamed (l ∷ ls) → AllNamed ls
  all_after_first (one_more z a) = a

  first_named : {l : ℕ} {ls : List ℕ} → AllNamed (l ∷ ls) → IsIn l (labels_in m.code)
  first_named (one_more z a) = z

  tries_named : {is : List Line} {tries : List ℕ} → Reached m is tries → AllNamed tries
  tries_named at_entry = none_named
  tries_named (by_step {i = i} r (walks.goes t o)) =
      all_after i.op (λ l e. in_of l (labels_in m.code) (well.named i (contains_of (tail_in (reached_tail m r))) l (pushes e))) (tries_named r)
  tries_named (by_raise r (walks.raises e)) = all_after_first (tries_named r)

  -- the handler to which a raise goes
  pub handler_stands : {is : List Line} {l : ℕ} {tries : List ℕ} → Reached m is (l ∷ tries) → IsIn l (labels_in m.code)
  handler_stands r = first_named (tries_named r)
