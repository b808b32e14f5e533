-- What is known of the lines that enter, leave, call, raise and allocate, besides their words.
use Rattle.std.specs.Prelude.{◌≡◌, ℕ, suc, ◌+◌, ◌-◌, ◌<◌, ◌≤◌, true, false, List, [], ◌∷◌, length, Option, Some, None, Contains}
use Rattle.bs_words.specs.Fits.{data_start}
use Rattle.bs_words.specs.declared.types.Comp.{Comp}
use Rattle.bs_words.specs.declared.types.Ret.{Ret}
use Rattle.cmm_meaning.specs.Setting.{Setting}
use Rattle.rv_emit_rules.specs.Emitted.{part_of_line}
use Rattle.rv_emit_rules.specs.Entry.{FrameLayout}
use Rattle.rv_layout_rules.specs.declared.form.Form.{Form}
use Rattle.rv_layout_rules.specs.Forms.{piece_words}
use Rattle.rv_layout_rules.specs.Laid.{address_of_place, descriptor_laid_at}
use Rattle.lin_ir.specs.Formed.{spare}
use Rattle.lin_ir.specs.Meaning.{NamedAt, after_label, is_named_location, passes_frame}
use Rattle.lin_ir.specs.Walks.{leaves}
use Rattle.lin_ir.specs.declared.descr.Descr.{Descr}
use Rattle.lin_ir.specs.declared.lin.Flow.TheVariants as flow
use Rattle.lin_ir.specs.declared.lin.Lin.{Lin}
use Rattle.lin_ir.specs.declared.lin.LinOp.{LinOp}
use Rattle.lin_ir.specs.declared.lin.LinOp.TheVariants as lin
use Rattle.lin_ir.specs.declared.lin.Line.{Line}
use Rattle.mach_ir.specs.Acts.{Around}
use Rattle.mach_ir.specs.declared.blocks.NewBlock.{NewBlock}
use Rattle.mach_ir.specs.declared.op.Access.TheVariants as access
use Rattle.mach_ir.specs.declared.op.Callee.{Callee}
use Rattle.mach_ir.specs.declared.op.Calling.{Calling}
use Rattle.mach_ir.specs.declared.op.Calling.TheVariants as calling
use Rattle.mach_ir.specs.declared.op.Leaving.TheVariants as leaving
use Rattle.mach_ir.specs.declared.op.Op.TheVariants as op
use Rattle.rv_machine.specs.Frames.{descriptor_at, names_register}
use Rattle.rv_pieces.specs.declared.piece.Piece.{Piece}
use Rattle.rv_pieces.specs.declared.piece.Piece.TheVariants.{Descriptor}
use Rattle.moving_laws.specs.Values.{function_at}
use Rattle.lin_machine.specs.Relation.{IsDescribed, Laid}
use Rattle.lin_machine.specs.View.{Fixed}

-- ---- descriptors

-- a descriptor is found at the address of the word after it, and there is such a word
abbrev pub IsDescriptorFound : Fixed → (at : ℕ) → Piece → Type 0
IsDescriptorFound s at (Descriptor d) =
    (descriptor_at s.image.descs (address_of_place at) ≡ Some (descriptor_laid_at at d))
    × (at < length s.image.code)
IsDescriptorFound s at _ = Unit {0}

-- so is each one among the pieces, the first of which is at this place
abbrev pub AreMarked : Fixed → (at : ℕ) → List Piece → List Form → Type 0
AreMarked s at [] forms = Unit {0}
AreMarked s at (p ∷ ps) [] = Unit {0}
AreMarked s at (p ∷ ps) (f ∷ forms) = IsDescriptorFound s at p × AreMarked s (at + piece_words p f) ps forms

-- ---- entries

-- the functions of the image begin at these places
pub record EntriesStand (s : Fixed) (entry : ℕ → ℕ) : Type 0 where
  pub is : (f : ℕ) → f < length s.image.funcs →
      function_at s.image.funcs f ≡ address_of_place (entry f)

-- What is known of a line besides its words: what its descriptor says, where there is one, in which
-- functions and data there are. The words are in these forms.
pub record PointStands (s : Fixed) (laid : Laid) (m : Lin) (c : Setting) (named : NamedAt)
    (entry : ℕ → ℕ) (traps : ℕ) (f : FrameLayout) (d : Option Descr) (i : Line) (next : List Line)
    (forms : List Form) : Type 0 where
  pub entries : EntriesStand s entry
  -- the data end where the setting says
  pub end : c.end ≡ data_start + length s.image.bytes
  pub marks : AreMarked s (laid.part (suc (length next))) (part_of_line traps f d i) forms
  -- a frame point has a descriptor, which names what is named there, and the function saves its
  -- return address
  pub mark : passes_frame i.op ≡ true → (e : Descr) × (d ≡ Some e)
  pub saves : passes_frame i.op ≡ true → laid.saves ≡ true
  pub described : (e : Descr) → d ≡ Some e → (at : ℕ) →
      IsDescribed laid traps (named (length next)) (descriptor_laid_at at e)
  -- no register is named over a call
  pub unnamed : (e : Descr) → d ≡ Some e → (whom : Callee) (result : Ret) →
      i.op ≡ lin.Op (op.Calling (calling.Call whom result)) → names_register e.entries ≡ false
  -- t0 is in copies alone
  pub spared : passes_frame i.op ≡ true → is_named_location spare (named (length next)) ≡ false
  pub unwritten : (t : Comp) → Contains i.results (record { loc = spare; comp = t }) → ⊥
  -- a handler is in the code, or at its end where it has no words
  pub pushes : (l : ℕ) → i.op ≡ lin.Flow (flow.PushTrap l) →
      laid.part (length (after_label l m.code)) ≤ length s.image.code

-- ---- where a run has come

-- A raise is on its way only before the entry of its handler, a function is left outside its tries,
-- and a try is popped where one is pushed.
pub record IsReadyFor (i : Line) (a : Around) : Type 0 where
  pub raised : (i.op ≡ lin.Flow flow.EnterTrap → ⊥) → a.raised ≡ None
  pub left : leaves i.op ≡ true → a.tries ≡ []
  pub popped : i.op ≡ lin.Flow flow.PopTrap → a.tries ≡ [] → ⊥

-- the lines that call, leave a function, raise, allocate, and push, pop and enter tries
pub data IsTurn : LinOp → Type 0 where
  it_calls : {g : Calling} → IsTurn (lin.Op (op.Calling g))
  it_returns : IsTurn (lin.Op (op.Leaving leaving.Return))
  it_raises : IsTurn (lin.Op (op.Leaving leaving.Raise))
  it_allocates : {blocks : List NewBlock} → IsTurn (lin.Op (op.Access (access.Alloc blocks)))
  it_pushes : {l : ℕ} → IsTurn (lin.Flow (flow.PushTrap l))
  it_pops : IsTurn (lin.Flow flow.PopTrap)
  it_enters : IsTurn (lin.Flow flow.EnterTrap)

-- The last word of an external call is the instruction that serves it; these are before it.
-- The service is a step of its own, so the line is followed in one word fewer than it has.
abbrev pub before_service : LinOp → ℕ → ℕ
before_service (lin.Flow g) words = words
before_service (lin.Op (op.Calling (calling.External row frame))) words = words - 1
before_service (lin.Op g) words = words
