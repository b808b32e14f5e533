-- An image that is compiled from a file is correct for it, and asks for allocations only in need.
use Rattle.std.proofs.Common.{ℕ, ◌-◌, arith}
use Rattle.cmm_tree.specs.Tree.{FileTree}
use Rattle.correctness.specs.Correct.{IsCorrect}
use Rattle.correctness.specs.InNeed.{AsksInNeed}
use Rattle.correctness.specs.Setting.{layout_of}
use Rattle.image_form.specs.Tables.{Tables}
use Rattle.mach_ir.specs.declared.mach.Mach.{Mach}
use Rattle.lin_ir.specs.Meaning.{NamedAt, State}
use Rattle.lin_ir.specs.declared.lin.Lin.{Lin}
use Rattle.moving_laws.specs.Values.{HasFunctions}
use Rattle.rv_machine.specs.Loading.{IsRoom}
use Rattle.rv_machine.specs.Places.{stack_bottom}
use Rattle.rv_machine.specs.Sound.{IsStackBase}
use Rattle.selection_rules.specs.Bounded.{BoundedDoing}
use Rattle.lin_machine.specs.Relation.{Laid}
use Rattle.linking.specs.Pace.{Words}
use Rattle.linking_stages.specs.Chain.{IsGivenWords}
use Rattle.linking_stages.proofs.Chain.{lowered_keep}
use Rattle.linking_stages.proofs.Selected.{selected_selects, words_passed}
use Rattle.line_calls.specs.Known.{Nowhere}
use Rattle.linking_machine.specs.Compiled.{IsCompiled}
use Rattle.linking_machine.proofs.Linked.{emitted_correct, emitted_in_need}

-- the stack's lowest address, whatever its size
pub bases_hold : (stack : ℕ) → IsRoom stack → IsStackBase (stack_bottom - stack)
bases_hold stack s = record {
  aligned = let a = s.aligned in let m = s.most in omega (arith, a, m);
  low = let m = s.most in omega (arith, m);
  high = omega arith;
}

module _ (file : FileTree) (image : Tables) (machs : ℕ → Mach) (lins : ℕ → Lin) (named : ℕ → NamedAt) (w : Words State) (most words : ℕ)
    (laid : ℕ → Laid) (entry : ℕ → ℕ) (has : HasFunctions image) (bases : (stack : ℕ) → IsRoom stack → IsStackBase (stack_bottom - stack))
    (c : IsCompiled file image machs lins named w most words laid entry has bases) where
  pub compiled_correct : IsCorrect file image
  compiled_correct =
      emitted_correct file image lins named w laid entry (λ f. Nowhere) has bases c.emitted most words IsGivenWords BoundedDoing c.rows c.words_fit
      (lowered_keep machs lins named file (layout_of image) most IsGivenWords BoundedDoing (selected_selects file (layout_of image) machs most c.selected)
      c.lowered)
      (words_passed file (layout_of image) c.holds) c.forward

  pub compiled_in_need : AsksInNeed file image
  compiled_in_need =
      emitted_in_need file image lins named w laid entry (λ f. Nowhere) has bases c.emitted most words IsGivenWords BoundedDoing c.rows c.words_fit
      (lowered_keep machs lins named file (layout_of image) most IsGivenWords BoundedDoing (selected_selects file (layout_of image) machs most c.selected)
      c.lowered)
      (words_passed file (layout_of image) c.holds) c.forward
