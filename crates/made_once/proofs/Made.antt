-- What is made of a function is made once.
use Rattle.std.proofs.Common.{◌≡◌, List, sym, ap, subst, ◌∙◌}
use Rattle.choices.specs.declared.choices.Choices.{Choices}
use Rattle.cmm_tree.specs.Tree.{FunctionTree}
use Rattle.lin_ir.specs.Descriptors.{AreExact}
use Rattle.lin_ir.specs.declared.descr.Descr.{Descr}
use Rattle.lin_ir.specs.declared.lin.Lin.{Lin}
use Rattle.lin_laws.proofs.Unique.{exact_unique}
use Rattle.made_functions.specs.Known.{IsLinearOf, IsRegisterAllocated}
use Rattle.made_functions.proofs.Known.{linear_once, one_prepared, allocated_once}
use Rattle.mach_ir.specs.declared.mach.Mach.{Mach}
use Rattle.rv_emit_rules.specs.Emitted.{IsEmitted}
use Rattle.rv_emit_rules.proofs.Once.{emitted_once}
use Rattle.rv_pieces.specs.declared.piece.Pieces.{Pieces}
use Rattle.made_functions.specs.Made.{IsMadeOf, in_order}
use Rattle.selection_rules.specs.Select.{selected}

module _ {choices : Choices} {tree : FunctionTree} {m n : Lin} {ds es : List Descr} {p q : Pieces} (h : IsMadeOf choices tree m ds p) (k : IsMadeOf choices tree n es q)
  where
    -- one function before register allocation, and one after it
    pub prepared_once : h.prepared ≡ k.prepared
    prepared_once = one_prepared (selected tree) h.prepared k.prepared h.is_prepared k.is_prepared

    pub places_once : h.mach ≡ k.mach
    places_once = allocated_once h.allocated (subst (λ (p : Mach). IsRegisterAllocated choices.alloc p k.mach) (sym prepared_once) k.allocated)

    -- one Linear function, in one order
    pub lines_once : h.lines ≡ k.lines
    lines_once =
        linear_once h.linear
        (subst (λ (p : Mach). IsLinearOf p k.lines) (sym places_once) k.linear)

    pub linear_function_once : m ≡ n
    linear_function_once = h.ordered ∙ ap (in_order choices.order) lines_once ∙ sym k.ordered

    -- its descriptors
    pub descriptors_once : ds ≡ es
    descriptors_once = exact_unique m ds es h.exact (subst (λ n. AreExact n es) (sym linear_function_once) k.exact)

    -- What the compiler makes of a function is one list of pieces.
    pub made_once : p ≡ q
    made_once =
        emitted_once h.emitted
        (subst (λ ds. IsEmitted m ds q) (sym descriptors_once) (subst (λ n. IsEmitted n es q) (sym linear_function_once) k.emitted))
