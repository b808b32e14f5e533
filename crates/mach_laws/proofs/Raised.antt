-- Where an operation comes to a handler or a label, it has written nothing, or carries a raised value with it.
use Rattle.std.proofs.Common.{◌≡◌, ℕ, Bool, true, false, ◌⊎◌, inl, inr, List, [], ◌∷◌, Option, Some, None, refl, subst}
use Rattle.std.specs.Prelude.{slice_get}
use Rattle.std.proofs.lemmas.Bool.{false≢true}
use Rattle.bs_words.specs.declared.types.Comp.{Comp}
use Rattle.bs_words.specs.declared.types.Ret.{Ret}
use Rattle.bs_words.specs.declared.types.Ret.TheVariants as ret
use Rattle.bs_words.specs.declared.values.Value.{Value}
use Rattle.bs_words.specs.declared.values.Value.TheVariants as value
use Rattle.bs_words.specs.Memory.{Memory}
use Rattle.mach_ir.specs.Known.{Setting, Doing, Gave, Threw, Callee, Inside}
use Rattle.mach_ir.specs.Acts as acts
use Rattle.mach_ir.specs.Acts.{Around, Target, At, Landing, Act, Goes, Pushes, Jumps, Unwinds, Asks, Replaces, Ends, EndsRaising, Stuck, stuck_unless}
use Rattle.mach_ir.specs.Forms.{HasForm, checks, raises, returns}
use Rattle.mach_ir.specs.Formed.{comps, MarkHasForm, exit_form, if_form, else_form, switch_form, case_form, catch_form, with_form, try_form, leave_form, end_form, IsFormedInstruction, formed_op, formed_mark}
use Rattle.mach_ir.specs.Meaning.{Nothing, destroyed_by, killed_by, mach_act}
use Rattle.mach_ir.specs.Walks.{AmongRegisters, OneOf, other, targets, next_if, may_raise, Writes}
use Rattle.mach_ir.specs.declared.op.Callee as declared
use Rattle.mach_ir.specs.declared.op.Callee.TheVariants as callee
use Rattle.mach_ir.specs.declared.op.Calling.{Calling}
use Rattle.mach_ir.specs.declared.op.Calling.TheVariants as calling
use Rattle.mach_ir.specs.declared.op.Leaving.{Leaving}
use Rattle.mach_ir.specs.declared.op.Leaving.TheVariants as leaving
use Rattle.mach_ir.specs.declared.op.Op.TheVariants as op
use Rattle.mach_ir.specs.declared.reg.Reg.{Reg}
use Rattle.mach_ir.specs.declared.mach.Mark.{Mark}
use Rattle.mach_ir.specs.declared.mach.Mark.TheVariants as mark
use Rattle.mach_ir.specs.declared.mach.MachOp.{MachOp}
use Rattle.mach_ir.specs.declared.mach.MachOp.TheVariants as mach
use Rattle.mach_ir.specs.declared.mach.Instr.{Instr}
use Rattle.mach_ir.specs.declared.mach.Mach.{Mach}
use Rattle.mach_laws.proofs.Leads.{IsTry, is_try, lands_at_label, lands_at_handler, Within, goes_in, pushes_in, jumps_in, unwinds_in, asks_in, replaces_in, ends_in, raising_in, stuck_in, within}

pub data IsRaised : Option Value → Type 0 where
  is_raised : {v : Value} → IsRaised (Some v)

-- where it comes to a label or a handler, it is silent or a value is raised
pub data Told (Silent : Type 0) : Act → Type 0 where
  told_jump : {to : Landing} {after : Around} → Silent ⊎ IsRaised after.raised → Told Silent (Jumps to after)
  told_unwind : {after : Around} → Silent ⊎ IsRaised after.raised → Told Silent (Unwinds after)
  told_ask : {whom : Callee} {vs : List Value} {go : Doing → Act} → ((d : Doing) → Told Silent (go d)) →
      Told Silent (Asks whom vs go)
  told_go : {vs : List Value} {to : Target} {after : Around} → Told Silent (Goes vs to after)
  told_push : {after : Around} → Told Silent (Pushes after)
  told_replace : {whom : Callee} {vs : List Value} {kept : Ret} → Told Silent (Replaces whom vs kept)
  told_end : {d : Doing} → Told Silent (Ends d)
  told_raise : {d : Doing} → Told Silent (EndsRaising d)
  told_stuck : Told Silent Stuck

pub silent_told : {Silent : Type 0} → Silent → (act : Act) → Told Silent act
silent_told s (Goes vs to after) = told_go
silent_told s (Pushes after) = told_push
silent_told s (Jumps to after) = told_jump (inl s)
silent_told s (Unwinds after) = told_unwind (inl s)
silent_told s (Asks whom vs go) = told_ask (λ d. silent_told s (go d))
silent_told s (Replaces whom vs kept) = told_replace
silent_told s (Ends d) = told_end
silent_told s (EndsRaising d) = told_raise
silent_told s Stuck = told_stuck

-- what never raises and leads to no label
never_told : {Silent : Type 0} (f : MachOp) → (may_raise f ≡ true → ⊥) → ((l : ℕ) → OneOf (At l) (targets f) → ⊥) →
    (act : Act) → Within f act → Told Silent act
never_told f r o act (goes_in t) = told_go
never_told f r o act (pushes_in t) = told_push
never_told f r o act (jumps_in (lands_at_label {l = l} t)) = absurd (o l t)
never_told f r o act (jumps_in (lands_at_handler t)) = absurd (r t)
never_told f r o act (unwinds_in t) = absurd (r t)
never_told f r o act (asks_in {go = go} w) = told_ask (λ d. never_told f r o (go d) (w d))
never_told f r o act replaces_in = told_replace
never_told f r o act ends_in = told_end
never_told f r o act raising_in = told_raise
never_told f r o act stuck_in = told_stuck

-- ---- calls

module _ (Silent : Type 0) where
  if_told : (b : Bool) (act : Act) → Told Silent act → Told Silent (stuck_unless b act)
  if_told true act t = t
  if_told false act t = told_stuck

  callee_told : (v : Value) (m : Memory) (a : Around) (tries : List ℕ) → Told Silent (acts.callee_raises v m a tries)
  callee_told v m a [] = told_end
  callee_told v m a (l ∷ tries) = told_unwind (inr is_raised)

  own_told : (v : Value) (a : Around) (tries : List ℕ) → Told Silent (acts.raised_by v a tries)
  own_told v a [] = told_raise
  own_told v a (l ∷ tries) = told_jump (inr is_raised)

  answer_told : (end : ℕ) (result : Ret) (v : Option Value) (go : Option Value → Act) →
      ((v : Option Value) → Told Silent (go v)) → Told Silent (acts.call_answered end result v go)
  answer_told end ret.Unit v go w = w None
  answer_told end (ret.Comp t) (Some v) go w = if_told _ _ (w (Some v))
  answer_told end (ret.Comp t) None go w = told_stuck

  after_told : (c : Setting) (result : Ret) (a : Around) (d : Doing) → Told Silent (acts.act_after_call c result a d)
  after_told c result a (Gave v m) = answer_told c.end result v _ (λ v. told_go)
  after_told c result a (Threw v m) = if_told _ _ (callee_told v m a a.tries)

  outside_told : (c : Setting) (result : Ret) (frame : Bool) (a : Around) (d : Doing) →
      Told Silent (acts.after_external c result frame a d)
  outside_told c result frame a (Gave v m) = answer_told c.end result v _ (λ v. told_go)
  outside_told c result true a (Threw v m) = if_told _ _ (own_told v a a.tries)
  outside_told c result false a (Threw v m) = told_stuck

  module _ (c : Setting) (a : Around) (call : Callee → List Value → Act)
      (w : (whom : Callee) (vs : List Value) → Told Silent (call whom vs)) where
    asks_told : (comps : Option (List Comp)) (n : ℕ) (vs : List Value) → Told Silent (acts.asks c comps n vs a call)
    asks_told None n vs = told_stuck
    asks_told (Some comps) n vs = if_told _ _ (w (Inside n) vs)

    value_told : (v : Option Value) (vs : List Value) → Told Silent (acts.asks_value c v vs a call)
    value_told None vs = told_stuck
    value_told (Some (value.Word n)) vs = told_stuck
    value_told (Some (value.Block s o)) vs = told_stuck
    value_told (Some (value.Function n)) vs = asks_told (slice_get c.parameters n) n vs

    whom_told : (whom : declared.Callee) (vs : List Value) → Told Silent (acts.asks_callee c whom vs a call)
    whom_told (callee.Symbol name) vs = value_told (c.symbol name) vs
    whom_told callee.Register [] = told_stuck
    whom_told callee.Register (v ∷ vs) = value_told (Some v) vs

  calling_told : (c : Setting) (f : Calling) (vs : List Value) (a : Around) → Told Silent (acts.calling_act c f vs a)
  calling_told c (calling.Call whom result) vs a =
      whom_told c a (λ f xs. Asks f xs (acts.act_after_call c result a)) (λ f xs. told_ask (after_told c result a)) whom vs
  calling_told c (calling.TailCall whom result) vs a =
      whom_told c a (λ f xs. Replaces f xs result) (λ f xs. told_replace) whom vs
  calling_told c (calling.External row frame) vs a =
      if_told _ _ (told_ask (outside_told c row.result frame a))

-- ---- what writes nothing

data Which : Mark → Type 0 where
  handles : {l : ℕ} → Which (mark.Handler l)
  plain : {f : Mark} → ((cs ds : List Comp) → MarkHasForm f cs ds → ds ≡ []) → destroyed_by (mach.Mark f) ≡ Nothing → Which f

none_if : (t : _) (l : ℕ) (cs ds : List Comp) → MarkHasForm (mark.If t l) cs ds → ds ≡ []
none_if t l cs ds (if_form h) = refl

none_exit : (l n : ℕ) (cs ds : List Comp) → MarkHasForm (mark.Exit l n) cs ds → ds ≡ []
none_exit l n cs ds exit_form = refl

none_else : (l n : ℕ) (cs ds : List Comp) → MarkHasForm (mark.Else l n) cs ds → ds ≡ []
none_else l n cs ds else_form = refl

none_switch : (ls : List ℕ) (cs ds : List Comp) → MarkHasForm (mark.Switch ls) cs ds → ds ≡ []
none_switch ls cs ds switch_form = refl

none_case : (ls : List ℕ) (l n : ℕ) (cs ds : List Comp) → MarkHasForm (mark.Case ls l n) cs ds → ds ≡ []
none_case ls l n cs ds case_form = refl

none_catch : (cs ds : List Comp) → MarkHasForm mark.Catch cs ds → ds ≡ []
none_catch cs ds catch_form = refl

none_with : (l n : ℕ) (cs ds : List Comp) → MarkHasForm (mark.With l n) cs ds → ds ≡ []
none_with l n cs ds with_form = refl

none_try : (l : ℕ) (cs ds : List Comp) → MarkHasForm (mark.Try l) cs ds → ds ≡ []
none_try l cs ds try_form = refl

none_leave : (l n : ℕ) (cs ds : List Comp) → MarkHasForm (mark.Leave l n) cs ds → ds ≡ []
none_leave l n cs ds leave_form = refl

none_end : (l : ℕ) (cs ds : List Comp) → MarkHasForm (mark.End l) cs ds → ds ≡ []
none_end l cs ds end_form = refl

which : (f : Mark) → Which f
which (mark.Exit l n) = plain (none_exit l n) refl
which (mark.If t l) = plain (none_if t l) refl
which (mark.Else l n) = plain (none_else l n) refl
which (mark.Switch ls) = plain (none_switch ls) refl
which (mark.Case ls l n) = plain (none_case ls l n) refl
which mark.Catch = plain none_catch refl
which (mark.With l n) = plain (none_with l n) refl
which (mark.Try l) = plain (none_try l) refl
which (mark.Leave l n) = plain (none_leave l n) refl
which (mark.Handler l) = handles
which (mark.End l) = plain (none_end l) refl

none_leaving : (f : Leaving) (cs ds : List Comp) → HasForm (op.Leaving f) cs ds → ds ≡ []
none_leaving (leaving.Checkbound r) cs ds (checks h) = refl
none_leaving leaving.Raise cs ds raises = refl
none_leaving leaving.Return cs ds (returns result) = refl

pub no_label_next : (b : Bool) (l : ℕ) → OneOf (At l) (next_if b) → ⊥
no_label_next true l (other o) = elim o [ ]
no_label_next false l o = elim o [ ]

module _ (m : Mach) where
  -- it writes nothing
  abbrev pub IsSilent : Instr → Type 0
  IsSilent i = (n : ℕ) → Writes m i n → ⊥

  silent_of : (f : MachOp) (args results : List Reg) → destroyed_by f ≡ Nothing → comps results ≡ [] →
      IsSilent (record { op = f; args = args; results = results })
  silent_of f args [] d e = λ n a. none n (subst (λ d. AmongRegisters n (killed_by m.colours d [])) d a)
    where
      none : (n : ℕ) → AmongRegisters n [] → ⊥
      none n a = elim a [ ]
  silent_of f args (r ∷ rs) d e = absurd (some r.comp (comps rs) e)
    where
      some : (c : Comp) (cs : List Comp) → c ∷ cs ≡ [] → ⊥
      some c cs e = cc

  mark_told : (f : Mark) (args results : List Reg) → MarkHasForm f (comps args) (comps results) → Which f → (c : Setting)
      (vs : List Value) (x : Around) →
      Told (IsSilent (record { op = mach.Mark f; args = args; results = results })) (mach_act c (mach.Mark f) vs x)
  mark_told f args results h (handles {l = l}) c vs x =
      never_told (mach.Mark (mark.Handler l)) false≢true (no_label_next true) (mach_act c (mach.Mark (mark.Handler l)) vs x)
      (within c (mach.Mark (mark.Handler l)) vs x)
  mark_told f args results h (plain none d) c vs x =
      silent_told (silent_of (mach.Mark f) args results d (none (comps args) (comps results) h))
      (mach_act c (mach.Mark f) vs x)

  mark_silent : (f : Mark) (args results : List Reg) → MarkHasForm f (comps args) (comps results) → Which f → (l : ℕ) →
      OneOf (At l) (targets (mach.Mark f)) → IsSilent (record { op = mach.Mark f; args = args; results = results })
  mark_silent f args results h handles l o = absurd (no_label_next true l o)
  mark_silent f args results h (plain none d) l o =
      silent_of (mach.Mark f) args results d (none (comps args) (comps results) h)

  pub told : {i : Instr} → IsFormedInstruction i → (c : Setting) (vs : List Value) (x : Around) →
      Told (IsSilent i) (mach_act c i.op vs x)
  told (formed_op {f = op.Pure f} h) c vs x =
      never_told (mach.Op (op.Pure f)) false≢true (no_label_next true) (mach_act c (mach.Op (op.Pure f)) vs x)
      (within c (mach.Op (op.Pure f)) vs x)
  told (formed_op {f = op.Access f} h) c vs x =
      never_told (mach.Op (op.Access f)) false≢true (no_label_next true) (mach_act c (mach.Op (op.Access f)) vs x)
      (within c (mach.Op (op.Access f)) vs x)
  told (formed_op {f = op.Calling f} h) c vs x = calling_told _ c f vs x
  told (formed_op {f = op.Leaving f} {args = args} {results = results} h) c vs x =
      silent_told (silent_of (mach.Op (op.Leaving f)) args results refl (none_leaving f (comps args) (comps results) h))
      (mach_act c (mach.Op (op.Leaving f)) vs x)
  told (formed_mark {f = f} {args = args} {results = results} h) c vs x = mark_told f args results h (which f) c vs x

  -- what leads to a label writes nothing
  pub label_silent : {i : Instr} → IsFormedInstruction i → (l : ℕ) → OneOf (At l) (targets i.op) → IsSilent i
  label_silent (formed_op {f = f} h) l o = absurd (no_label_next (acts.falls_through f) l o)
  label_silent (formed_mark {f = f} {args = args} {results = results} h) l o = mark_silent f args results h (which f) l o

  -- nor does a try
  pub try_silent : {i : Instr} → IsFormedInstruction i → IsTry i.op → IsSilent i
  try_silent (formed_op h) t = elim t [ ]
  try_silent (formed_mark {args = args} {results = results} h) (is_try {l = l}) =
      silent_of (mach.Mark (mark.Try l)) args results refl (none_try l (comps args) (comps results) h)
