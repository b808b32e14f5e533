-- A fault of types and symbols is known by its place and its number; so one is reported.
use Rattle.std.proofs.Common.{◌≡◌, inl, inr, ◌∙◌, ℕ, ◌<◌, cond, ◌==◌, List, refl, sym, ap, arith}
use Rattle.bs_fault.specs.declared.fault.Fault.{Fault}
use Rattle.bs_fault.specs.declared.fault.Fault.TheVariants as fault
use Rattle.cmm_tree.specs.Tree.{Expression, FileTree}
use Rattle.cmm_types.specs.Standing.{Visible}
use Rattle.cmm_tree.specs.Symbols.{DefinedSymbol}
use Rattle.cmm_types.specs.Types.{Scoped}
use Rattle.cmm_types.specs.Faults as types
use Rattle.cmm_types.specs.Faults.{FaultOf, TypeFault}
use Rattle.bs_fault.specs.Order.{fault_number, Precedes, IsLeftmost, fault_place}

-- the fault of a number at a place
abbrev decoded : ℕ → ℕ → Fault
decoded number at =
    cond (number == 1) (fault.TooLong at)
    (cond (number == 2) (fault.BadToken at)
    (cond (number == 3) (fault.Unclosed at)
    (cond (number == 4) (fault.Unexpected at)
    (cond (number == 5) (fault.TooDeep at)
    (cond (number == 6) (fault.IntRange at)
    (cond (number == 7) (fault.TooManyParams at)
    (cond (number == 8) (fault.FunctionTooLong at)
    (cond (number == 9) (fault.DataTooLarge at)
    (cond (number == 10) (fault.DataItem at)
    (cond (number == 11) (fault.Unbound at)
    (cond (number == 12) (fault.UnknownSymbol at)
    (cond (number == 13) (fault.DuplicateSymbol at)
    (cond (number == 14) (fault.Arity at)
    (cond (number == 15) (fault.NoValue at)
    (cond (number == 16) (fault.NotMutable at)
    (cond (number == 17) (fault.AllocHeader at)
    (cond (number == 18) (fault.UnknownLabel at)
    (cond (number == 19) (fault.Float at)
    (cond (number == 21) (fault.AddrArgument at) (fault.SwitchSize at))))))))))))))))))))

-- its place and its number tell the fault
record IsPlaced (told : Fault) : Type 0 where
  pub same : decoded (fault_number told) (fault_place told) ≡ told

-- ---- faults of types and symbols

node_placed : (defined : List DefinedSymbol) (names : List Scoped) (labels : List Visible) (e : Expression) (told : Fault) → FaultOf defined names labels e told → IsPlaced told
node_placed _ _ _ _ _ (types.unbound at name h) = record { same = refl }
node_placed _ _ _ _ _ (types.unbound_target at name_at name value h) = record { same = refl }
node_placed _ _ _ _ _ (types.unknown_symbol at name h) = record { same = refl }
node_placed _ _ _ _ _ (types.repeated_label at body handlers there h) = record { same = refl }
node_placed _ _ _ _ _ (types.call_arity at symbol_at name arguments result result_at s parameters h g i) = record { same = refl }
node_placed _ _ _ _ _ (types.exit_arity at label_at label arguments v h g) = record { same = refl }
node_placed _ _ _ _ _ (types.no_value node e h g) = record { same = refl }
node_placed _ _ _ _ _ (types.no_bound_value at bindings body inner value h g) = record { same = refl }
node_placed _ _ _ _ _ (types.not_mutable at name_at name value s h g) = record { same = refl }
node_placed _ _ _ _ _ (types.misfit_header at header_at header operands h) = record { same = refl }
node_placed _ _ _ _ _ (types.unknown_label at label_at label arguments h) = record { same = refl }
node_placed _ _ _ _ _ (types.float_form at word_at operands) = record { same = refl }
node_placed _ _ _ _ _ (types.declared_float at bindings body there h) = record { same = refl }
node_placed _ _ _ _ _ (types.FaultOf.float_parameter at body handlers params e p h g i) = record { same = refl }
node_placed _ _ _ _ _ (types.float_result at called arguments result_at) = record { same = refl }
node_placed _ _ _ _ _ (types.outer_float_result at frame name arguments result_at) = record { same = refl }
node_placed _ _ _ _ _ (types.address_argument at frame name arguments result result_at e h g) = record { same = refl }

type_placed : (file : FileTree) (told : Fault) → TypeFault file told → IsPlaced told
type_placed file _ (types.of_node f names labels e told h g i) = node_placed _ names labels e told i
type_placed file _ (types.TypeFault.float_parameter f p h g i) = record { same = refl }
type_placed file _ (types.address_result f h g) = record { same = refl }
type_placed file _ (types.repeated_symbol before behind s earlier h g) = record { same = refl }
type_placed file _ (types.unknown_address d i root name_at name h g j k) = record { same = refl }
type_placed file _ (types.unknown_global d i name_at name h g j k) = record { same = refl }
type_placed file _ (types.float_item d i h g j) = record { same = refl }

-- ---- which one is reported

not_less : (p q : ℕ) → (p < q → ⊥) → (q < p → ⊥) → p ≡ q
not_less p q h g = omega (arith, h, g)

-- of two placed faults of which none precedes the other, each is the other
same_told : (a b : Fault) → IsPlaced a → IsPlaced b → ¬ Precedes a b → ¬ Precedes b a → a ≡ b
same_told a b p q h g =
    let place : fault_place a ≡ fault_place b = not_less _ _ (λ less. h (inl less)) (λ less. g (inl less)) in
    let number : fault_number a ≡ fault_number b = not_less _ _ (λ less. h (inr (place, less))) (λ less. g (inr (sym place, less))) in
    sym p.same ∙ ap (λ (n : ℕ). decoded n (fault_place a)) number ∙ ap (λ (at : ℕ). decoded (fault_number b) at) place ∙ q.same

-- one fault of types and symbols is reported
pub one_leftmost : (file : FileTree) (a b : Fault) → IsLeftmost (TypeFault file) a → IsLeftmost (TypeFault file) b → a ≡ b
one_leftmost file a b h g =
    same_told a b (type_placed file a h.is_fault) (type_placed file b g.is_fault) (g.none_before a h.is_fault) (h.none_before b g.is_fault)
