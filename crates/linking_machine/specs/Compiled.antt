-- An image that is compiled from a file: what each part of the compiler gives of it.
use Rattle.std.specs.Prelude.{ℕ, ◌+◌, ◌-◌, ◌≤◌, length}
use Rattle.cmm_tree.specs.Tree.{FileTree, functions}
use Rattle.correctness.specs.Setting.{layout_of, AreRowsOf}
use Rattle.image_form.specs.Tables.{Tables}
use Rattle.mach_ir.specs.declared.mach.Mach.{Mach}
use Rattle.lin_ir.specs.Meaning.{NamedAt, State}
use Rattle.lin_ir.specs.declared.lin.Lin.{Lin}
use Rattle.moving_laws.specs.Values.{HasFunctions}
use Rattle.rv_machine.specs.Loading.{IsRoom}
use Rattle.rv_machine.specs.Places.{stack_bottom}
use Rattle.rv_machine.specs.Sound.{IsStackBase}
use Rattle.line_calls.specs.Known.{Nowhere}
use Rattle.lin_machine.specs.Relation.{Laid}
use Rattle.linking.specs.Pace.{Words, ProgramGoesForward}
use Rattle.linking_stages.specs.Chain.{IsSelected, AreLowered, HoldsWords}
use Rattle.linking_stages.specs.Stages.{linear_program}
use Rattle.linking_machine.specs.Emitted.{IsImageEmitted}

module _ (file : FileTree) (image : Tables) (machs : ℕ → Mach) (lins : ℕ → Lin)
    (named : ℕ → NamedAt) (w : Words State) (most words : ℕ) (laid : ℕ → Laid) (entry : ℕ → ℕ)
    (has : HasFunctions image)
    (bases : (stack : ℕ) → IsRoom stack → IsStackBase (stack_bottom - stack)) where
  pub record IsCompiled : Type 0 where
    -- layout: a row for each function, and a word more than control passes between two units
    pub rows : AreRowsOf (functions file) image.funcs
    pub words_fit : words + 1 ≤ length image.code
    -- the text holds words, and selection does what it does
    pub holds : HoldsWords file
    pub selected : IsSelected file (layout_of image) machs most
    -- the passes over Mach and Linear keep that
    pub lowered : AreLowered file machs lins named
    -- control goes backward by units alone
    pub forward : ProgramGoesForward State (linear_program lins named) w words
    -- the machine follows each line
    pub emitted : IsImageEmitted file image lins named w laid entry (λ f. Nowhere) has bases
