-- How many lines and labels there are of a function that is made tidy.
use Rattle.std.proofs.Common.{◌≡◌, ℕ, zero, suc, ◌+◌, ◌*◌, ◌≤◌, Bool, true, false, cond, List, [], ◌∷◌, ◌++◌, length, map, Option, Some, None, refl, sym, ap, ◌∙◌, subst, arith, length-append}
use Rattle.std.proofs.lemmas.Bool.{true≢false}
use Rattle.std.specs.List.{Contains}
use Rattle.mach_ir.specs.declared.reg.Reg.{Reg}
use Rattle.mach_ir.specs.declared.mach.Mark.TheVariants as mark
use Rattle.mach_ir.specs.declared.mach.MachOp.{MachOp}
use Rattle.mach_ir.specs.declared.mach.MachOp.TheVariants as mach
use Rattle.mach_ir.specs.declared.mach.Instr.{Instr}
use Rattle.lin_ir.specs.Formed.{label_of, labels_in, bare_flow}
use Rattle.lin_ir.specs.declared.lin.Flow.TheVariants as flow
use Rattle.lin_ir.specs.declared.lin.LinOp.{LinOp}
use Rattle.lin_ir.specs.declared.lin.LinOp.TheVariants as lin
use Rattle.lin_ir.specs.declared.lin.Line.{Line}
use Rattle.lin_ir.specs.declared.lin.Lin.{Lin}
use Rattle.linearise_rules.specs.Lowered.{is_idle, pops, lines_of, lowered_code}
use Rattle.linearise_rules.specs.Lowered as lowered
use Rattle.linearise_rules.proofs.Homes.{in_of, contains_of}
use Rattle.linearise_rules.proofs.Walked.{Tail, tail_all, tail_next}
use Rattle.mach_laws.proofs.Instructions.{instr}
use Rattle.lin_tidy_rules.specs.Leaving.{LeavesOften, not_once, once_more}
use Rattle.lin_tidy_rules.specs.Redirecting.{exit_or_jump, redirected_operation, redirect, RedirectsTargets, redirected_all}
use Rattle.lin_tidy_rules.specs.Regular.{IsRegular}
use Rattle.lin_tidy_rules.specs.Tidied.{IsTidied}
use Rattle.lin_tidy_rules.specs.Turning.{Turn, tested_again, turned_line, Turns, turned_all}
use Rattle.lin_tidy_rules.proofs.Following.{redirects_all}
use Rattle.lin_tidy_rules.proofs.Shape.{SameShape, leaving_shape}
use Rattle.lin_tidy_rules.proofs.Tidied.{redirecting_regular, redirecting_shape}
use Rattle.lin_tidy_rules.proofs.Turning.{may_turn, new_labels, T, R, exit_turns, branch_opens, labels_line, label_kept}
use Rattle.lin_tidy_rules.proofs.TurningAll.{turns_all}

-- jumps, exits and branches
abbrev pub way_of : LinOp → ℕ
way_of (lin.Flow (flow.Jump l)) = 1
way_of (lin.Flow (flow.Exit l)) = 1
way_of (lin.Flow (flow.Branch t l)) = 1
way_of _ = 0

abbrev pub ways_in : List Line → ℕ
ways_in [] = 0
ways_in (i ∷ is) = way_of i.op + ways_in is

-- What is kept of a function's shape. An exit that is turned gives three lines more and one label, and a branch to which one leads gives a label.
pub record KeepsShape (m r : Lin) : Type 0 where
  pub slots : r.slots ≡ m.slots
  pub params : r.params ≡ m.params
  -- each label stays, and there are at most so many new ones
  pub labels : (l : ℕ) → Contains (labels_in m.code) l → Contains (labels_in r.code) l
  pub few_labels : length (labels_in r.code) ≤ length (labels_in m.code) + ways_in m.code
  pub lines : length r.code ≤ length m.code + 3 * ways_in m.code

turns_way : (f : LinOp) → may_turn f ≡ true → way_of f ≡ 1
turns_way (lin.Flow (flow.Exit l)) e = refl
turns_way (lin.Flow (flow.Branch t l)) e = refl
turns_way (lin.Flow (flow.Jump l)) e = refl
turns_way (lin.Flow (flow.Label l)) e = absurd (true≢false (sym e))
turns_way (lin.Flow (flow.Switch ls)) e = absurd (true≢false (sym e))
turns_way (lin.Flow (flow.PushTrap l)) e = absurd (true≢false (sym e))
turns_way (lin.Flow flow.PopTrap) e = absurd (true≢false (sym e))
turns_way (lin.Flow flow.EnterTrap) e = absurd (true≢false (sym e))
turns_way (lin.Op f) e = absurd (true≢false (sym e))

-- ---- loops turned round

module _ (m r : Lin) (h : Turns m r) (regular : IsRegular m) where
  abbrev L : List Line → List Line
  L = T m r h regular.well

  -- one line more, or three, is for an exit or a branch
  lines_grown : (is : List Line) → Tail is m.code → length (L is) ≤ length is + 3 * ways_in is
  lines_grown [] w = omega arith
  lines_grown (i ∷ next) w = by (h.turns (length next)) refl (h.opens (length next)) refl (lines_grown next (tail_next w))
    where
      two : (b : Bool) (t : Turn) → length (tested_again b t.head ++ L next) ≡ suc (suc (length (L next)))
      two true t = refl
      two false t = refl

      by : (x : Option Turn) → h.turns (length next) ≡ x → (o : Option ℕ) → h.opens (length next) ≡ o → length (L next) ≤ length next + 3 * ways_in next →
          length (turned_line x o i ++ L next) ≤ suc (length next) + 3 * (way_of i.op + ways_in next)
      by None u None v le = omega (arith, le)
      by None u (Some l) v le = let e = turns_way i.op (branch_opens m r h regular.well w v) in omega (arith, le, e)
      by (Some t) u o v le = let e = turns_way i.op (exit_turns m r h regular.well w u) in let both = two t.keeps t in omega (arith, le, e, both)

  labels_grown : (is : List Line) → Tail is m.code → length (labels_in (L is)) ≤ length (labels_in is) + ways_in is
  labels_grown [] w = omega arith
  labels_grown (i ∷ next) w =
      let new : List ℕ = new_labels (h.turns (length next)) (h.opens (length next)) in
      let le = labels_grown next (tail_next w) in
      let e = ap length (labels_line m r h regular.well w) in
      let one = length-append (label_of i.op) (new ++ labels_in (L next)) in
      let two = length-append new (labels_in (L next)) in
      let old = length-append (label_of i.op) (labels_in next) in
      let few : length new ≤ way_of i.op = by (h.turns (length next)) refl (h.opens (length next)) refl in
      omega (arith, le, e, one, two, old, few)
    where
      by : (x : Option Turn) → h.turns (length next) ≡ x → (o : Option ℕ) → h.opens (length next) ≡ o → length (new_labels x o) ≤ way_of i.op
      by None u None v = omega arith
      by None u (Some l) v = let e = turns_way i.op (branch_opens m r h regular.well w v) in omega (arith, e)
      by (Some t) u o v = let e = turns_way i.op (exit_turns m r h regular.well w u) in omega (arith, e)

  shape_turned : KeepsShape m (R m r h regular.well)
  shape_turned =
      record {
        slots = refl;
        params = refl;
        labels = λ l c. contains_of (label_kept m r h regular.well m.code tail_all (in_of l (labels_in m.code) c));
        few_labels = labels_grown m.code tail_all;
        lines = lines_grown m.code tail_all;
      }

pub turning_shape : {m r : Lin} → Turns m r → IsRegular m → KeepsShape m r
turning_shape {m} {r} h regular = subst (KeepsShape m) (sym h.is) (shape_turned m r h regular)

-- ---- jumps redirected, and lines left out

same_way : (to : ℕ → ℕ) (exits : ℕ → Option ℕ) (f : LinOp) → way_of (redirected_operation to exits f) ≡ way_of f
same_way to exits (lin.Flow (flow.Jump l)) = by (exits l)
  where
    by : (o : Option ℕ) → way_of (lin.Flow (exit_or_jump o (to l))) ≡ 1
    by None = refl
    by (Some n) = refl
same_way to exits (lin.Flow (flow.Exit l)) = refl
same_way to exits (lin.Flow (flow.Branch t l)) = refl
same_way to exits (lin.Flow (flow.Label l)) = refl
same_way to exits (lin.Flow (flow.Switch ls)) = refl
same_way to exits (lin.Flow (flow.PushTrap l)) = refl
same_way to exits (lin.Flow flow.PopTrap) = refl
same_way to exits (lin.Flow flow.EnterTrap) = refl
same_way to exits (lin.Op f) = refl

same_ways : (to : ℕ → ℕ) (exits : ℕ → Option ℕ) (is : List Line) → ways_in (map (redirect to exits) is) ≡ ways_in is
same_ways to exits [] = refl
same_ways to exits (i ∷ is) = ap (λ n. n + ways_in (map (redirect to exits) is)) (same_way to exits i.op) ∙ ap (λ n. way_of i.op + n) (same_ways to exits is)

redirecting_ways : {m r : Lin} → RedirectsTargets m r → ways_in r.code ≡ ways_in m.code
redirecting_ways {m} h = ap (λ (r : Lin). ways_in r.code) h.is ∙ same_ways h.to h.exits m.code

after_same : {m q r : Lin} → SameShape m q → ways_in q.code ≡ ways_in m.code → KeepsShape q r → KeepsShape m r
after_same {m} {q} {r} x e y =
    let labels = ap length x.labels in
    let old = x.lines in
    let few = y.few_labels in
    let lines = y.lines in
    record {
      slots = y.slots ∙ x.slots;
      params = y.params ∙ x.params;
      labels = λ l c. y.labels l (subst (λ ls. Contains ls l) (sym x.labels) c);
      few_labels = omega (arith, few, labels, e);
      lines = omega (arith, lines, old, e);
    }

then_same : {m q r : Lin} → KeepsShape m q → SameShape q r → KeepsShape m r
then_same x y =
    let labels = ap length y.labels in
    let fewer = y.lines in
    let few = x.few_labels in
    let lines = x.lines in
    record {
      slots = y.slots ∙ x.slots;
      params = y.params ∙ x.params;
      labels = λ l c. subst (λ ls. Contains ls l) (sym y.labels) (x.labels l c);
      few_labels = omega (arith, few, labels);
      lines = omega (arith, lines, fewer);
    }

often_shape : {m q r : Lin} → KeepsShape m q → LeavesOften q r → KeepsShape m r
often_shape x not_once = x
often_shape x (once_more way l) = then_same (often_shape x way) (leaving_shape l)

-- It has the same slots and parameters, its labels and at most so many more, and at most so many lines more:
-- before lines are left out,
pub turned_shape : {m : Lin} → IsRegular m → KeepsShape m (turned_all (redirected_all m))
turned_shape {m} regular =
    let jumps : RedirectsTargets m (redirected_all m) = redirects_all m in
    let second : IsRegular (redirected_all m) = redirecting_regular jumps regular in
    after_same (redirecting_shape jumps regular) (redirecting_ways jumps) (turning_shape (turns_all second.well) second)

-- and when it is tidy.
pub tidied_shape : {m r : Lin} → IsTidied m r → IsRegular m → KeepsShape m r
tidied_shape h regular = often_shape (turned_shape regular) h.leaves

-- ---- lowered code

module _ (number : ℕ → ℕ) where
  pops_ways : (n : ℕ) (xs : List Line) → ways_in (pops number n xs) ≡ ways_in xs
  pops_ways zero xs = refl
  pops_ways (suc n) xs = let e = pops_ways n xs in omega (arith, e)

  -- an instruction gives at most one jump, exit or branch
  pub ways_few : (code : List Instr) → ways_in (lowered_code number code) ≤ length code
  ways_few [] = omega arith
  ways_few (i ∷ is) = two (is_idle i.op i.args i.results) (ways_few is)
    where
      rest : List Line
      rest = lowered_code number is

      by : (g : MachOp) (args results : List Reg) → ways_in rest ≤ length is → ways_in (lines_of number g (instr g args results) rest) ≤ suc (length is)
      by (mach.Op f) args results le = omega (arith, le)
      by (mach.Mark (mark.Exit l k)) args results le =
          let e = pops_ways k (bare_flow (flow.Exit l) ∷ rest) in omega (arith, le, e)
      by (mach.Mark (mark.If t l)) args results le = omega (arith, le)
      by (mach.Mark (mark.Else l m)) args results le = omega (arith, le)
      by (mach.Mark (mark.Switch ls)) args results le = omega (arith, le)
      by (mach.Mark (mark.Case ns l m)) args results le = omega (arith, le)
      by (mach.Mark mark.Catch) args results le = omega (arith, le)
      by (mach.Mark (mark.With l m)) args results le = omega (arith, le)
      by (mach.Mark (mark.Try l)) args results le = omega (arith, le)
      by (mach.Mark (mark.Leave l m)) args results le = omega (arith, le)
      by (mach.Mark (mark.Handler l)) args results le = omega (arith, le)
      by (mach.Mark (mark.End l)) args results le = omega (arith, le)

      two : (t : Bool) → ways_in rest ≤ length is → ways_in (cond t rest (lines_of number i.op i rest)) ≤ suc (length is)
      two true le = omega (arith, le)
      two false le = by i.op i.args i.results le
