-- Turning repeats into moves carries: a move has no more words than an operator, and neither is a frame point, an exit or a mark.
use Rattle.std.proofs.Common.{◌≡◌, ℕ, ◌≤◌, true, false, List, [], ◌∷◌, length, Option, Some, refl, sym, subst, arith}
use Rattle.pass_rules.specs.Known.{same_spot}
use Rattle.pass_rules.specs.Carried.{IsCarried}
use Rattle.pass_rules.specs.Measures.{copy_words, words_for_instr}
use Rattle.mach_ir.specs.Formed.{is_exit}
use Rattle.mach_ir.specs.Walks.{IsRegister}
use Rattle.mach_ir.specs.declared.op.Leaving.TheVariants as leaving
use Rattle.mach_ir.specs.declared.op.Op.TheVariants as op
use Rattle.mach_ir.specs.declared.op.Pure.TheVariants as pure
use Rattle.mach_ir.specs.declared.reg.Reg.{Reg}
use Rattle.mach_ir.specs.declared.mach.Instr.{Instr}
use Rattle.mach_ir.specs.declared.mach.Mach.{Mach}
use Rattle.mach_ir.specs.declared.mach.MachOp.{MachOp}
use Rattle.mach_ir.specs.declared.mach.MachOp.TheVariants as mach
use Rattle.pass_rules.proofs.Words.{at_most_copy}
use Rattle.cse_repeat_rules.specs.Kept.{IsRepeatKept}
use Rattle.cse_repeat_rules.specs.Repeated.{is_operator, instr_with_earlier, from_earlier, IsRepeated}
use Rattle.cse_repeat_rules.proofs.Form.{Fate, unchanged, moved, fate, same_ops}
use Rattle.mach_laws.proofs.InPlace.{tries_same}
use Rattle.prepare_rules.proofs.Replaced.{Replaces, replaced_carried}

-- ---- an operator and a move

operator_words : (g : MachOp) (args results : List Reg) → is_operator g ≡ true → copy_words ≤ words_for_instr g args results
operator_words (mach.Op (op.Pure (pure.Operator f r))) args results e = omega arith
operator_words (mach.Op (op.Pure (pure.Copy kind))) args results e = cc
operator_words (mach.Op (op.Pure (pure.Constant w))) args results e = cc
operator_words (mach.Op (op.Pure (pure.Symbol name))) args results e = cc
operator_words (mach.Op (op.Access f)) args results e = cc
operator_words (mach.Op (op.Calling f)) args results e = cc
operator_words (mach.Op (op.Leaving f)) args results e = cc
operator_words (mach.Mark f) args results e = cc

operator_exit : (g : MachOp) → is_operator g ≡ true → is_exit g ≡ false
operator_exit (mach.Op f) e = refl
operator_exit (mach.Mark f) e = cc

operator_returns : (g : MachOp) → is_operator g ≡ true → g ≡ mach.Op (op.Leaving leaving.Return) → ⊥
operator_returns (mach.Op (op.Pure f)) e h = cc
operator_returns (mach.Op (op.Access f)) e h = cc
operator_returns (mach.Op (op.Calling f)) e h = cc
operator_returns (mach.Op (op.Leaving f)) e h = cc
operator_returns (mach.Mark f) e h = cc

replaces_itself : (i : Instr) → Replaces i i
replaces_itself i = record {
  words = omega arith;
  points = omega arith;
  operands = omega arith;
  exit = refl;
  fits = λ f. f;
  returns = λ e. e;
}

replaces_operator : (i : Instr) (r : Reg) → is_operator i.op ≡ true → Replaces i (from_earlier (Some r) i)
replaces_operator i r e = record {
  words = let few = at_most_copy (same_spot (r ∷ []) i.results) in let most = operator_words i.op i.args i.results e in omega (arith, few, most);
  points = omega arith;
  operands = omega arith;
  exit = sym (operator_exit i.op e);
  fits = λ f. tt;
  returns = λ h. absurd (operator_returns i.op e h);
}

replaces : (plan : ℕ → Option Reg) (k : ℕ) (i : Instr) → Replaces i (instr_with_earlier plan k i)
replaces plan k i = by (fate plan k i)
  where
    by : Fate plan k i → Replaces i (instr_with_earlier plan k i)
    by (unchanged e s) = subst (Replaces i) (sym e) (replaces_itself i)
    by (moved r g s e) = subst (Replaces i) (sym e) (replaces_operator i r g)

-- Turning repeats into moves carries.
pub repeated_carried : {m q : Mach} → IsRepeatKept m q → IsRepeated m q → IsCarried 0 m q
repeated_carried {m} {q} kept s =
    subst (IsCarried 0 m) (sym s.is)
    (replaced_carried (instr_with_earlier s.plan) m (λ i next at. replaces s.plan (length next) i) (tries_same (instr_with_earlier s.plan) (same_ops s.plan))
    (λ low r k c i u. low r k c ((kept.no_larger).registers k (subst (λ (x : Mach). IsRegister x k) (sym s.is) i)) u))
