-- What an operation does goes where its targets say, whatever the values are: the second part of a step, free of
-- registers and places.
use Rattle.std.proofs.Common.{◌≡◌, ℕ, true, List, Option}
use Rattle.bs_words.specs.declared.types.Ret.{Ret}
use Rattle.bs_words.specs.declared.values.Value.{Value}
use Rattle.mach_ir.specs.Known.{Doing, Callee, Setting}
use Rattle.mach_ir.specs.Acts.{Around, Target, On, At, Landing, AtLabel, AtHandler, Act, Goes, Pushes, Jumps, Unwinds, Asks, Replaces, Ends, EndsRaising, Stuck}
use Rattle.mach_ir.specs.Meaning.{mach_act}
use Rattle.mach_ir.specs.Walks.{OneOf, this, targets, may_raise}
use Rattle.mach_ir.specs.declared.mach.Mark.TheVariants as mark
use Rattle.mach_ir.specs.declared.mach.MachOp.{MachOp}
use Rattle.mach_ir.specs.declared.mach.MachOp.TheVariants as mach
use Rattle.mach_laws.proofs.Turns as turn
use Rattle.mach_laws.proofs.Turns.{Turns, turns}

pub data IsTry : MachOp → Type 0 where
  is_try : {l : ℕ} → IsTry (mach.Mark (mark.Try l))

pub try_on : (f : MachOp) → IsTry f → OneOf On (targets f)
try_on f is_try = this

-- where an exit or a raise of this operation may come to
pub data MayLand (f : MachOp) : Landing → Type 0 where
  lands_at_label : {l : ℕ} → OneOf (At l) (targets f) → MayLand f (AtLabel l)
  lands_at_handler : may_raise f ≡ true → MayLand f AtHandler

-- it goes to the targets of the operation alone, and to a handler only where the operation may raise
pub data Within (f : MachOp) : Act → Type 0 where
  goes_in : {vs : List Value} {to : Target} {after : Around} → OneOf to (targets f) → Within f (Goes vs to after)
  pushes_in : {after : Around} → IsTry f → Within f (Pushes after)
  jumps_in : {to : Landing} {after : Around} → MayLand f to → Within f (Jumps to after)
  unwinds_in : {after : Around} → may_raise f ≡ true → Within f (Unwinds after)
  asks_in : {whom : Callee} {vs : List Value} {go : Doing → Act} → ((d : Doing) → Within f (go d)) →
      Within f (Asks whom vs go)
  replaces_in : {whom : Callee} {vs : List Value} {kept : Ret} → Within f (Replaces whom vs kept)
  ends_in : {d : Doing} → Within f (Ends d)
  raising_in : {d : Doing} → Within f (EndsRaising d)
  stuck_in : Within f Stuck

of_try : {f : MachOp} {l : ℕ} → turn.IsTry f l → IsTry f
of_try turn.is_try = is_try

of_exit : {f : MachOp} {l n : ℕ} → turn.IsExit f l n → OneOf (At l) (targets f)
of_exit turn.is_exit = this

-- what is more than that is what it does to the tries and to the raised value
of_turns : {f : MachOp} {tries : List ℕ} {raised : Option Value} {act : Act} → Turns f tries raised act → Within f act
of_turns (turn.goes_in o e u) = goes_in o
of_turns (turn.exits_in x e u) = jumps_in (lands_at_label (of_exit x))
of_turns (turn.jumps_in r e) = jumps_in (lands_at_handler r)
of_turns (turn.unwinds_in r e) = unwinds_in r
of_turns (turn.pushes_in t e u) = pushes_in (of_try t)
of_turns (turn.asks_in w) = asks_in (λ d. of_turns (w d))
of_turns turn.replaces_in = replaces_in
of_turns turn.ends_in = ends_in
of_turns turn.raising_in = raising_in
of_turns turn.stuck_in = stuck_in

-- Whatever the values, an operation goes within its targets.
pub within : (c : Setting) (f : MachOp) (vs : List Value) (a : Around) → Within f (mach_act c f vs a)
within c f vs a = of_turns (turns c f vs a)
