-- What is held: it destroys every colour and goes on.
use Rattle.std.proofs.Common.{◌≡◌, ◌↔◌, Bool, true, false, ◌&&◌, IsTrue, refl}
use Rattle.std.proofs.lemmas.Bool.{and_from}
use Rattle.mach_ir.specs.Acts.{Target, On, falls_through}
use Rattle.mach_ir.specs.Meaning.{Nothing, Temporaries, Everything, destroyed_by}
use Rattle.mach_ir.specs.Walks.{OneOf, this, targets}
use Rattle.mach_ir.specs.declared.mach.Mark.{Mark}
use Rattle.mach_ir.specs.declared.mach.Mark.TheVariants as mark
use Rattle.mach_ir.specs.declared.mach.MachOp.{MachOp}
use Rattle.mach_ir.specs.declared.mach.MachOp.TheVariants as mach
use Rattle.mach_ir.specs.declared.op.Calling.TheVariants as calling
use Rattle.mach_ir.specs.declared.op.Op.{Op}
use Rattle.mach_ir.specs.declared.op.Op.TheVariants as op
use Rattle.sink.specs.Graphs.{destroys_colours}

no : false ≡ true → ⊥
no e = cc

nothing : Nothing ≡ Everything → ⊥
nothing e = cc

temporaries : Temporaries ≡ Everything → ⊥
temporaries e = cc

-- ---- what the code asks

not_first : (a b : Bool) → (a ≡ true → ⊥) → a && b ≡ false
not_first true b none = absurd (none refl)
not_first false b none = refl

not_second : (a b : Bool) → b ≡ false → a && b ≡ false
not_second true b e = e
not_second false b e = refl

not_one : (a : Bool) → (a ≡ true → ⊥) → a ≡ false
not_one true none = absurd (none refl)
not_one false none = refl

pub held_op : (f : Op) (a b : Bool) → (IsTrue a ↔ (destroyed_by (mach.Op f) ≡ Everything)) → b ≡ falls_through f → a && b ≡ destroys_colours (mach.Op f)
held_op (op.Pure f) a b h e = not_first a b (λ t. nothing (h.0 t))
held_op (op.Access f) a b h e = not_first a b (λ t. nothing (h.0 t))
held_op (op.Calling (calling.Call whom result)) a b h e = and_from a b (h.1 refl) e
held_op (op.Calling (calling.TailCall whom result)) a b h e = not_second a b e
held_op (op.Calling (calling.External row frame)) a b h e = not_first a b (λ t. temporaries (h.0 t))
held_op (op.Leaving f) a b h e = not_first a b (λ t. nothing (h.0 t))

pub held_mark : (f : Mark) (a : Bool) → (IsTrue a ↔ (destroyed_by (mach.Mark f) ≡ Everything)) → a ≡ destroys_colours (mach.Mark f)
held_mark (mark.Exit l n) a h = not_one a (λ t. nothing (h.0 t))
held_mark (mark.If test l) a h = not_one a (λ t. nothing (h.0 t))
held_mark (mark.Else l end) a h = not_one a (λ t. nothing (h.0 t))
held_mark (mark.Switch labels) a h = not_one a (λ t. nothing (h.0 t))
held_mark (mark.Case indexes l end) a h = not_one a (λ t. nothing (h.0 t))
held_mark mark.Catch a h = not_one a (λ t. nothing (h.0 t))
held_mark (mark.With l end) a h = not_one a (λ t. nothing (h.0 t))
held_mark (mark.Try l) a h = not_one a (λ t. nothing (h.0 t))
held_mark (mark.Leave l end) a h = not_one a (λ t. nothing (h.0 t))
held_mark (mark.Handler l) a h = h.1 refl
held_mark (mark.End l) a h = not_one a (λ t. nothing (h.0 t))

-- ---- what is held

pub held_destroys : (f : MachOp) → destroys_colours f ≡ true → destroyed_by f ≡ Everything
held_destroys (mach.Op (op.Pure f)) e = absurd (no e)
held_destroys (mach.Op (op.Access f)) e = absurd (no e)
held_destroys (mach.Op (op.Calling (calling.Call whom result))) e = refl
held_destroys (mach.Op (op.Calling (calling.TailCall whom result))) e = absurd (no e)
held_destroys (mach.Op (op.Calling (calling.External row frame))) e = absurd (no e)
held_destroys (mach.Op (op.Leaving f)) e = absurd (no e)
held_destroys (mach.Mark (mark.Exit l n)) e = absurd (no e)
held_destroys (mach.Mark (mark.If test l)) e = absurd (no e)
held_destroys (mach.Mark (mark.Else l end)) e = absurd (no e)
held_destroys (mach.Mark (mark.Switch labels)) e = absurd (no e)
held_destroys (mach.Mark (mark.Case indexes l end)) e = absurd (no e)
held_destroys (mach.Mark mark.Catch) e = absurd (no e)
held_destroys (mach.Mark (mark.With l end)) e = absurd (no e)
held_destroys (mach.Mark (mark.Try l)) e = absurd (no e)
held_destroys (mach.Mark (mark.Leave l end)) e = absurd (no e)
held_destroys (mach.Mark (mark.Handler l)) e = refl
held_destroys (mach.Mark (mark.End l)) e = absurd (no e)

pub held_on : (f : MachOp) → destroys_colours f ≡ true → OneOf On (targets f)
held_on (mach.Op (op.Pure f)) e = absurd (no e)
held_on (mach.Op (op.Access f)) e = absurd (no e)
held_on (mach.Op (op.Calling (calling.Call whom result))) e = this
held_on (mach.Op (op.Calling (calling.TailCall whom result))) e = absurd (no e)
held_on (mach.Op (op.Calling (calling.External row frame))) e = absurd (no e)
held_on (mach.Op (op.Leaving f)) e = absurd (no e)
held_on (mach.Mark (mark.Exit l n)) e = absurd (no e)
held_on (mach.Mark (mark.If test l)) e = absurd (no e)
held_on (mach.Mark (mark.Else l end)) e = absurd (no e)
held_on (mach.Mark (mark.Switch labels)) e = absurd (no e)
held_on (mach.Mark (mark.Case indexes l end)) e = absurd (no e)
held_on (mach.Mark mark.Catch) e = absurd (no e)
held_on (mach.Mark (mark.With l end)) e = absurd (no e)
held_on (mach.Mark (mark.Try l)) e = absurd (no e)
held_on (mach.Mark (mark.Leave l end)) e = absurd (no e)
held_on (mach.Mark (mark.Handler l)) e = this
held_on (mach.Mark (mark.End l)) e = absurd (no e)

pub held_of : (f : MachOp) (t : Target) → destroyed_by f ≡ Everything → OneOf t (targets f) → destroys_colours f ≡ true
held_of (mach.Op (op.Pure f)) t e o = absurd (nothing e)
held_of (mach.Op (op.Access f)) t e o = absurd (nothing e)
held_of (mach.Op (op.Calling (calling.Call whom result))) t e o = refl
held_of (mach.Op (op.Calling (calling.TailCall whom result))) t e o = elim o [ ]
held_of (mach.Op (op.Calling (calling.External row frame))) t e o = absurd (temporaries e)
held_of (mach.Op (op.Leaving f)) t e o = absurd (nothing e)
held_of (mach.Mark (mark.Exit l n)) t e o = absurd (nothing e)
held_of (mach.Mark (mark.If test l)) t e o = absurd (nothing e)
held_of (mach.Mark (mark.Else l end)) t e o = absurd (nothing e)
held_of (mach.Mark (mark.Switch labels)) t e o = absurd (nothing e)
held_of (mach.Mark (mark.Case indexes l end)) t e o = absurd (nothing e)
held_of (mach.Mark mark.Catch) t e o = absurd (nothing e)
held_of (mach.Mark (mark.With l end)) t e o = absurd (nothing e)
held_of (mach.Mark (mark.Try l)) t e o = absurd (nothing e)
held_of (mach.Mark (mark.Leave l end)) t e o = absurd (nothing e)
held_of (mach.Mark (mark.Handler l)) t e o = refl
held_of (mach.Mark (mark.End l)) t e o = absurd (nothing e)

-- ---- places of a code
