-- Every line, of whatever kind.
use Rattle.std.proofs.Common.{◌≡◌, ◌⊎◌, inl, inr, ⊎_elim, ℕ, suc, ◌+◌, ◌*◌, true, List, ◌∷◌, length, Option, refl, sym, subst, ◌∙◌, arith}
use Rattle.rv_emit_rules.specs.Emitted.{part_of_line}
use Rattle.rv_emit_rules.specs.Entry.{FrameLayout}
use Rattle.rv_emit_rules.specs.Units.{is_branch}
use Rattle.rv_emit_rules.proofs.Units.{if_branch}
use Rattle.rv_layout_rules.specs.Forms.{total_words}
use Rattle.rv_layout_rules.specs.Words.{NameAddresses}
use Rattle.lin_ir.specs.Meaning.{Locations, NamedAt, step}
use Rattle.lin_ir.specs.declared.descr.Descr.{Descr}
use Rattle.lin_ir.specs.declared.lin.Flow.TheVariants as flow
use Rattle.lin_ir.specs.declared.lin.Lin.{Lin}
use Rattle.lin_ir.specs.declared.lin.Line.{Line}
use Rattle.lin_ir.specs.declared.lin.LinOp.{LinOp}
use Rattle.lin_ir.specs.declared.lin.LinOp.TheVariants as lin
use Rattle.mach_ir.specs.Acts.{Around}
use Rattle.mach_ir.specs.Runs.{ActivationSetting}
use Rattle.mach_ir.specs.declared.op.Access.TheVariants as access
use Rattle.mach_ir.specs.declared.op.Leaving.TheVariants as leaving
use Rattle.mach_ir.specs.declared.op.Op.TheVariants as op
use Rattle.lin_machine.specs.Follows.{FollowsStep, IsAt}
use Rattle.lin_machine.specs.Relation.{Below, Laid}
use Rattle.lin_machine.specs.View.{Fixed, View}
use Rattle.line_stands.specs.Lines.{LineStands}
use Rattle.line_values.specs.Followed.{FollowsBranch, IsPlain, plain_pure, plain_load, plain_store, plain_check, plain_label, plain_jump, plain_exit, plain_branch, plain_switch}
use Rattle.line_values.proofs.Following.{branches_followed, plain_followed}
use Rattle.line_calls.specs.Calls.{FollowsSo}
use Rattle.line_calls.specs.Laws.{EntryFollows, EveryLineFollows}
use Rattle.line_calls.specs.Points.{IsReadyFor, IsTurn, before_service, it_calls, it_returns, it_raises, it_allocates, it_pushes, it_pops, it_enters}
use Rattle.line_calls.proofs.Entering.{entry_follows}
use Rattle.line_calls.proofs.NoWaits.{Comes, so_without, step_no}
use Rattle.line_calls.proofs.Whole.{lines_follow}

-- a line is of one kind or the other
kinds : (o : LinOp) → IsPlain o ⊎ IsTurn o
kinds (lin.Op (op.Pure g)) = inl plain_pure
kinds (lin.Op (op.Access (access.Load k o))) = inl plain_load
kinds (lin.Op (op.Access (access.Store k o))) = inl plain_store
kinds (lin.Op (op.Access (access.Alloc blocks))) = inr it_allocates
kinds (lin.Op (op.Calling g)) = inr it_calls
kinds (lin.Op (op.Leaving (leaving.Checkbound r))) = inl plain_check
kinds (lin.Op (op.Leaving leaving.Raise)) = inr it_raises
kinds (lin.Op (op.Leaving leaving.Return)) = inr it_returns
kinds (lin.Flow (flow.Label l)) = inl plain_label
kinds (lin.Flow (flow.Jump l)) = inl plain_jump
kinds (lin.Flow (flow.Exit l)) = inl plain_exit
kinds (lin.Flow (flow.Branch t l)) = inl plain_branch
kinds (lin.Flow (flow.Switch ls)) = inl plain_switch
kinds (lin.Flow (flow.PushTrap l)) = inr it_pushes
kinds (lin.Flow flow.PopTrap) = inr it_pops
kinds (lin.Flow flow.EnterTrap) = inr it_enters

-- what is plain waits for no call, and begins no handler
never_waits : (o : LinOp) → IsPlain o → Comes o → ⊥
never_waits o plain_pure h = elim h [ ]
never_waits o plain_load h = elim h [ ]
never_waits o plain_store h = elim h [ ]
never_waits o plain_check h = elim h [ ]
never_waits o plain_label h = elim h [ ]
never_waits o plain_jump h = elim h [ ]
never_waits o plain_exit h = elim h [ ]
never_waits o plain_branch h = elim h [ ]
never_waits o plain_switch h = elim h [ ]

begins_none : (o : LinOp) → IsPlain o → o ≡ lin.Flow flow.EnterTrap → ⊥
begins_none o plain_pure q = absurd (cc)
begins_none o plain_load q = absurd (cc)
begins_none o plain_store q = absurd (cc)
begins_none o plain_check q = absurd (cc)
begins_none o plain_label q = absurd (cc)
begins_none o plain_jump q = absurd (cc)
begins_none o plain_exit q = absurd (cc)
begins_none o plain_branch q = absurd (cc)
begins_none o plain_switch q = absurd (cc)

-- and asks for no service
without_service : (o : LinOp) (k : ℕ) → IsPlain o → before_service o k ≡ k
without_service o k plain_pure = refl
without_service o k plain_load = refl
without_service o k plain_store = refl
without_service o k plain_check = refl
without_service o k plain_label = refl
without_service o k plain_jump = refl
without_service o k plain_exit = refl
without_service o k plain_branch = refl
without_service o k plain_switch = refl

-- The machine follows every line.
pub every_line : (live : List Line → Type 0) → EveryLineFollows live
every_line live s n laid entry c place named m f d i next v file a k lines points fit behind at =
    let past = lines.part.past in
    let many = total_words (part_of_line (length a.tries) f d i) lines.part.forms in
    let does = step place named m (record { rest = i ∷ next; file = file; around = a }) in
    let same : many ≡ k = omega (arith, past, behind) in
    ⊎_elim
    (λ plain.
    subst (λ w. FollowsSo w s laid live entry c v (laid.frame + 16 * length a.tries) does) (sym (without_service i.op k plain))
    (so_without k s laid live entry c v (laid.frame + 16 * length a.tries) does (step_no place named m i next file a (never_waits i.op plain))
    (subst (λ w. FollowsStep w s laid live entry c v does) same
    (plain_followed s laid n m place named live entry c f d next i plain file a v lines (fit.raised (begins_none i.op plain)) at))))
    (λ turn. lines_follow s n laid live entry c place named m f d i next v file a k turn lines (points turn) fit behind at) (kinds i.op)

-- And a branch takes at least one instruction.
pub every_branch : (live : List Line → Type 0) (s : Fixed) (n : NameAddresses) (laid : Laid) (c : Below) (place : ActivationSetting) (named : NamedAt) (m : Lin) (f : FrameLayout)
    (d : Option Descr) (i : Line) (next : List Line) (v : View) (file : Locations) (a : Around) (words : ℕ) → is_branch i.op ≡ true →
    LineStands s laid n m place.setting live a.tries f d i next → IsReadyFor i a → laid.part (length next) ≡ laid.part (suc (length next)) + words →
    IsAt s laid live c (record { rest = i ∷ next; file = file; around = a }) v →
    FollowsBranch (before_service i.op words) s laid live c v (step place named m (record { rest = i ∷ next; file = file; around = a }))
every_branch live s n laid c place named m f d i next v file a k branch lines fit behind at =
    let past = lines.part.past in
    let many = total_words (part_of_line (length a.tries) f d i) lines.part.forms in
    let does = step place named m (record { rest = i ∷ next; file = file; around = a }) in
    let same : many ≡ k = omega (arith, past, behind) in
    let plain : IsPlain i.op = if_branch IsPlain (λ t l. plain_branch) i.op branch in
    subst (λ w. FollowsBranch w s laid live c v does) (same ∙ sym (without_service i.op k plain))
    (branches_followed live s laid n m place named c f d i next branch file a v lines (fit.raised (begins_none i.op plain)) at)

-- And every entry.
pub every_entry : (live : List Line → Type 0) → EntryFollows live
every_entry live s n laid entries k c place m v arguments memory words small part behind seats entered u is =
    entry_follows s n laid small live entries k c place m v arguments memory words part behind seats entered u is
