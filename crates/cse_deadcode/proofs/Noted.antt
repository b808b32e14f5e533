-- The table of times after an instruction.
use Rattle.std.proofs.Common.{◌≡◌, ◌∙◌, ℕ, suc, ◌+◌, ◌<◌, Bool, true, false, cond, ◌||◌, List, [], ◌∷◌, ◌++◌, length, take, get_or, refl, sym, ap, arith}
use mathlib.Core.Path.{fun_ext}
use Rattle.std.proofs.lemmas.List.Folds.{list_any_more}
use Rattle.std.specs.List.{list_any}
use Rattle.mach_ir.specs.declared.reg.Reg.{Reg}
use Rattle.mach_ir.specs.declared.mach.Instr.{Instr}
use Rattle.cse_deadcode.specs.declared.events.Event.{Event}
use Rattle.cse_deadcode.specs.declared.times.Times.{Times}
use Rattle.cse_deadcode.specs.Made.{Making, remade, made_by}
use Rattle.cse_deadcode.specs.Times.{writes, happens, last_time, time_in, AreTimes}
use Rattle.cse_deadcode.proofs.Last.{last_more}

-- ---- notes, one after another

pub twice : (a b : Bool) (time old : ℕ) → cond b time (cond a time old) ≡ cond (a || b) time old
twice true true time old = refl
twice true false time old = refl
twice false true time old = refl
twice false false time old = refl

-- a table in which writes of these registers are noted
pub record Notes (old new : Times) (time : ℕ) (regs : List Reg) : Type 0 where
  pub each : (e : Event) → time_in new e ≡ cond (list_any (writes e) regs) time (time_in old e)

pub notes_more : (old now new : Times) (time : ℕ) (regs : List Reg) (i : ℕ) (d : Reg) → i < length regs →
    Notes old now time (take i regs) → ((e : Event) → time_in new e ≡ cond (writes e (get_or regs i d)) time (time_in now e)) →
    Notes old new time (take (i + 1) regs)
notes_more old now new time regs i d within n h =
    record {
      each = λ e.
          h e ∙ ap (cond (writes e (get_or regs i d)) time) (n.each e)
          ∙ twice (list_any (writes e) (take i regs)) (writes e (get_or regs i d)) time (time_in old e)
          ∙ ap (λ b. cond b time (time_in old e)) (sym (list_any_more (writes e) regs i d within));
    }

pub times_more : (old new : Times) (made after : List Instr) (i : Instr) (time : ℕ) → AreTimes old made → time ≡ length made + 1 →
    ((e : Event) → time_in new e ≡ cond (happens e i) time (time_in old e)) → after ≡ made ++ i ∷ [] → AreTimes new after
times_more old new made after i time are e h same =
    record {
      each = λ e.
          h e ∙ ap (λ n. cond (happens e i) n (time_in old e)) now ∙ ap (cond (happens e i) (suc (length made))) (are.each e)
          ∙ sym (last_more (happens e) made i) ∙ ap (λ code. last_time code e) (sym same);
    }
  where
    one_more : (n : ℕ) → n + 1 ≡ suc n
    one_more n = omega arith

    now : time ≡ suc (length made)
    now = e ∙ one_more (length made)

-- ---- the loop

-- what is made so far, its times, and what is still to come
pub record Remaking (make : Making) (code rest made : List Instr) (times : Times) : Type 0 where
  pub are : AreTimes times made
  pub whole : made_by make made rest ≡ made_by make [] code

pub remaking_more : (make : Making) (code rest later made after : List Instr) (times new : Times) (i x : Instr) (time : ℕ) →
    rest ≡ i ∷ later → x ≡ make (time_in times) made i → time ≡ length made + 1 →
    ((e : Event) → time_in new e ≡ cond (happens e x) time (time_in times e)) → after ≡ made ++ x ∷ [] →
    Remaking make code rest made times → Remaking make code later after new
remaking_more make code rest later made after times new i x time next is now noted pushed r =
    record {
      are = times_more times new made after x time r.are now noted pushed;
      whole = ap (λ code. made_by make code later) (pushed ∙ ap (λ y. made ++ y ∷ []) same)
          ∙ ap (made_by make made) (sym next) ∙ r.whole;
    }
  where
    clock : time_in times ≡ last_time made
    clock = fun_ext (λ e. r.are.each e)

    same : x ≡ remade make made i
    same = is ∙ ap (λ at. make at made i) clock
