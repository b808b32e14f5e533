-- The lines that compute, load, store, test and jump, and that the machine follows them.
use Rattle.std.specs.Prelude.{◌≡◌, ℕ, true, List, ◌∷◌, length, Option, None}
use Rattle.rv_emit_rules.specs.Emitted.{part_of_line}
use Rattle.rv_emit_rules.specs.Entry.{FrameLayout}
use Rattle.rv_emit_rules.specs.Units.{is_branch}
use Rattle.rv_layout_rules.specs.Forms.{total_words}
use Rattle.rv_layout_rules.specs.Words.{NameAddresses}
use Rattle.lin_ir.specs.Meaning.{Locations, NamedAt, State, step}
use Rattle.lin_ir.specs.declared.descr.Descr.{Descr}
use Rattle.lin_ir.specs.declared.lin.Flow.TheVariants as flow
use Rattle.lin_ir.specs.declared.lin.Lin.{Lin}
use Rattle.lin_ir.specs.declared.lin.Line.{Line}
use Rattle.lin_ir.specs.declared.lin.LinOp.{LinOp}
use Rattle.lin_ir.specs.declared.lin.LinOp.TheVariants as lin
use Rattle.mach_ir.specs.Acts.{Around}
use Rattle.mach_ir.specs.Runs.{ActivationSetting, Step, Continues, IsStuck}
use Rattle.mach_ir.specs.declared.mach.Test.{Test}
use Rattle.mach_ir.specs.declared.op.Access.TheVariants as access
use Rattle.mach_ir.specs.declared.op.Leaving.TheVariants as leaving
use Rattle.mach_ir.specs.declared.op.Op.TheVariants as op
use Rattle.mach_ir.specs.declared.op.Pure.{Pure}
use Rattle.mach_ir.specs.declared.op.Right.{Right}
use Rattle.lin_machine.specs.Arrival.{ArrivesIn}
use Rattle.lin_machine.specs.Follows.{FollowsStep, IsAt, needs_of}
use Rattle.lin_machine.specs.Relation.{Below, Laid}
use Rattle.lin_machine.specs.View.{Fixed, View}
use Rattle.line_stands.specs.Lines.{LineStands}

-- what is no frame point, and neither returns nor pushes or enters a trap
pub data IsPlain : LinOp → Type 0 where
  plain_pure : {g : Pure} → IsPlain (lin.Op (op.Pure g))
  plain_load : {k : _} {offset : ℕ} → IsPlain (lin.Op (op.Access (access.Load k offset)))
  plain_store : {k : _} {offset : ℕ} → IsPlain (lin.Op (op.Access (access.Store k offset)))
  plain_check : {r : Right} → IsPlain (lin.Op (op.Leaving (leaving.Checkbound r)))
  plain_label : {l : ℕ} → IsPlain (lin.Flow (flow.Label l))
  plain_jump : {l : ℕ} → IsPlain (lin.Flow (flow.Jump l))
  plain_exit : {l : ℕ} → IsPlain (lin.Flow (flow.Exit l))
  plain_branch : {t : Test} {l : ℕ} → IsPlain (lin.Flow (flow.Branch t l))
  plain_switch : {labels : List ℕ} → IsPlain (lin.Flow (flow.Switch labels))

-- From wherever the function is before the line, the machine does what the line does, in at
-- most the words of its part.
abbrev pub Followed : Fixed → Laid → NameAddresses → Lin → ActivationSetting → NamedAt → (List Line → Type 0) →
    (ℕ → ℕ) → Below → FrameLayout → Option Descr → Line → List Line → Type 0
Followed s laid n m place named live entry c f d i next =
    (file : Locations) (a : Around) (v : View)
    (stands : LineStands s laid n m place.setting live a.tries f d i next) → a.raised ≡ None →
    IsAt s laid live c (record { rest = i ∷ next; file = file; around = a }) v →
    FollowsStep (total_words (part_of_line (length a.tries) f d i) stands.part.forms) s laid live entry c
    v (step place named m (record { rest = i ∷ next; file = file; around = a }))

-- The law, of every function, line and machine, whatever is said to be the code in which t0 is
-- live.
abbrev pub PlainLinesAreFollowed : (List Line → Type 0) → Type 0
PlainLinesAreFollowed live =
    (s : Fixed) (laid : Laid) (n : NameAddresses) (m : Lin) (place : ActivationSetting) (named : NamedAt)
    (entry : ℕ → ℕ) (c : Below) (f : FrameLayout) (d : Option Descr) (i : Line) (next : List Line) →
    IsPlain i.op → Followed s laid n m place named live entry c f d i next

-- ---- branches

-- The step of a branch: whichever way it goes on, that takes at least one instruction.
abbrev pub FollowsBranch : ℕ → Fixed → Laid → (List Line → Type 0) → Below → View → Step State →
    Type 0
FollowsBranch n s laid live c v (Continues u) =
    ArrivesIn 1 n s (needs_of laid c u) v (IsAt s laid live c u)
FollowsBranch n s laid live c v IsStuck = Unit {0}
FollowsBranch n s laid live c v _ = ⊥

-- So the machine follows every branch.
abbrev pub BranchesAreFollowed : (List Line → Type 0) → Type 0
BranchesAreFollowed live =
    (s : Fixed) (laid : Laid) (n : NameAddresses) (m : Lin) (place : ActivationSetting) (named : NamedAt) (c : Below)
    (f : FrameLayout) (d : Option Descr) (i : Line) (next : List Line) → is_branch i.op ≡ true →
    (file : Locations) (a : Around) (v : View)
    (stands : LineStands s laid n m place.setting live a.tries f d i next) → a.raised ≡ None →
    IsAt s laid live c (record { rest = i ∷ next; file = file; around = a }) v →
    FollowsBranch (total_words (part_of_line (length a.tries) f d i) stands.part.forms) s laid live c v
    (step place named m (record { rest = i ∷ next; file = file; around = a }))
