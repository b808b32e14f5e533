-- Conditions and switches.
use Rattle.std.proofs.Common.{◌≡◌, ℕ, suc, ◌+◌, ◌<◌, ◌≤◌, Bool, true, false, cond, List, [], ◌∷◌, ◌++◌, Option, Some, None, refl, sym, ap, ◌∙◌, subst, arith}
use Rattle.std.proofs.lemmas.Bool.{eq-eqb}
use Rattle.bs_words.specs.declared.operators.IntOp.{IntOp}
use Rattle.bs_words.specs.declared.types.Ty.{Ty}
use Rattle.bs_words.specs.declared.types.Ty.TheVariants as ty
use Rattle.bs_fault.specs.Reported.{Faultless}
use Rattle.cmm_tree.specs.Place.{place_of}
use Rattle.cmm_tree.specs.Symbols.{DefinedSymbol}
use Rattle.cmm_tree.specs.Tree.{Expression, Operator, If, Switch, Cases, NoCase, Choose}
use Rattle.cmm_types.proofs.Containing.{contains_head, contains_tail}
use Rattle.cmm_types.specs.Light.{is_light_address}
use Rattle.cmm_types.specs.Types.{type_of, type_without_float, holds_float, is_address}
use Rattle.cmm_types.specs.Standing.{Visible}
use Rattle.cmm_types.specs.Gathered.{faults_in}
use Rattle.cmm_types.specs.declared.role.Role.TheVariants as role
use Rattle.cmm_meaning.specs.Evaluation.{is_left_first}
use Rattle.walk_tables.specs.Walks.{Binds, Uses, Task, Does, Evaluates, OneOf, Slotted, names, operand_uses, operand, all_operands, two_expressions, bodies}
use Rattle.walk_tables.specs.Walks as walk
use Rattle.mach_ir.specs.Acts.{Target, On, At}
use Rattle.mach_ir.specs.Meaning.{code_at}
use Rattle.mach_ir.specs.Walks.{AmongRegisters, this, other}
use Rattle.mach_ir.specs.Walks as mach
use Rattle.mach_ir.specs.declared.mach.Instr.{Instr}
use Rattle.mach_ir.specs.declared.mach.Mach.{Mach}
use Rattle.mach_ir.specs.declared.mach.Mark.TheVariants as mark
use Rattle.mach_ir.specs.declared.op.Right.TheVariants as right_side
use Rattle.mach_ir.specs.declared.mach.Test.{Test}
use Rattle.mach_ir.specs.declared.mach.Test.TheVariants as test
use Rattle.mach_ir.specs.declared.reg.Reg.{Reg}
use Rattle.selection_rules.specs.Instructions as emit
use Rattle.selection_rules.specs.Instructions.{bare_mark}
use Rattle.selection_rules.specs.Select.{OperandShape, InRegisters, ConstantRight, ConstantLeft, PowerRight, operation_shape, shape_op, shape_right, shape_args, unless_left, unless_right, comparison, fused_test, NamedRegister, Label, scopes, comp_of_type, fresh_register, ordered, inner_dest, inner_valued, width, count_cases, switch_labels, select, select_test, select_cases, Code}
use Rattle.selection_rules.proofs.Parts.{Placed, placed_in, placed_next, WellLabelled}
use Rattle.selection_rules.proofs.Endings.{ending_select}
use Rattle.selection_laws.proofs.Accepting.{left, right}
use Rattle.selection_laws.specs.Fits.{Fits, HasCase}
use Rattle.selection_walks.proofs.Phases.{Phase, Passed, Ahead, Told, skipped, quietly, Kept, grown, apart_binds, apart_uses}
use Rattle.selection_walks.proofs.Situations.{hold, Low, hold_same, hold_other, hold_kept, low_none, low_more, paired_names, OutsOf, outs_kept, Sit, go, quiet_sit, one_number, out, ApartFrom, inner, inner_apart, binding, through_takes}
use Rattle.selection_walks.proofs.Floats.{has_one}
use Rattle.selection_walks.proofs.Operands.{has_value, row_none, row_hold, Stood, Step, whole, Scene, at_more, Claim, of_claim}
use Rattle.selection_walks.proofs.Finals.{used_by, outs_takes}
use Rattle.selection_walks.proofs.Pairs.{bare_right, bare_left, coded, bare_arg, two_args, left_stands, right_stands, single_stands, two_of, bare_power, untested}
use Rattle.selection_walks.proofs.Names.{inner_below, wanted_typed}
use Rattle.selection_walks.proofs.Branches.{fork_sit, past_sit, end_sit, Chooses, in_labels, wanted_first, wanted_second}

module _ (m : Mach) (n : ℕ) (defined : List ℕ → Option DefinedSymbol) where
  -- two operands, of which one may be a constant of the instruction
  pub record Shaped (k : ℕ) (ts : List ℕ) (labels : List Label) (w : Option ℕ) (slot : ℕ) (code : Code) (us : List Task) (s : OperandShape) (x y : Reg) : Type 0 where
    pub v : Option ℕ
    pub step : Step m n k ts labels w v code us
    pub reads : ((e : ℕ) → s ≡ PowerRight e → ⊥) → AmongRegisters n (shape_args s x y) → Stood v slot 2
    pub lefts : (e : ℕ) → s ≡ PowerRight e → n ≡ x.number → Stood v slot 2

  pub shaped : {k : ℕ} {ts : List ℕ} {w : Option ℕ} {b slot : ℕ} {env : List NamedRegister} {scope : List Slotted} {labels : List Label} {vis : List Visible}
      (op : IntOp) (l r : Expression) → Claim m n defined true l → Claim m n defined true r → (i j : ℕ) → suc (suc b) ≤ i → suc (suc b) ≤ j →
      Scene m n w b slot env scope labels vis →
      Faultless (faults_in defined (scopes env) vis l) → Fits (scopes env) l → (type_of (scopes env) l ≡ ty.NoValue → ⊥) →
      Faultless (faults_in defined (scopes env) vis r) → Fits (scopes env) r → (type_of (scopes env) r ≡ ty.NoValue → ⊥) → (s : OperandShape) →
      operation_shape op l r ≡ s →
      Shaped k ts labels w slot (ordered (is_left_first (scopes env) l r) (unless_left s (select env labels false false (fresh_register b (type_of (scopes env) l)) i l))
      (unless_right s (select env labels false false (fresh_register (suc b) (type_of (scopes env) r)) j r))) (all_operands scope slot (two_expressions l r)) s
      (fresh_register b (type_of (scopes env) l)) (fresh_register (suc b) (type_of (scopes env) r))
  shaped {w = w} {b = b} {slot = slot} op l r cl cr i j li lj at fl il vl fr ir vr (ConstantRight q) e =
      record {
        v = hold n b slot w;
        step = two_args m n defined l r li lj at (coded m n defined b slot i (slot + 2) l cl fl il vl)
            (bare_arg m n defined (suc b) (suc slot) j (slot + 2) r (bare_right op l r q e));
        reads = λ p a. left_stands m n defined b (λ v. v) (Rattle.selection_walks.proofs.Operands.row_more (row_none n (suc (suc b)) (suc (suc slot)))) at.low
            (one_number m n a);
        lefts = λ c z. absurd (differs c z);
      }
    where
      differs : (c : ℕ) → ConstantRight q ≡ PowerRight c → ⊥
      differs c z = cc
  shaped {w = w} {b = b} {slot = slot} op l r cl cr i j li lj at fl il vl fr ir vr (ConstantLeft q) e =
      record {
        v = hold n (suc b) (suc slot) w;
        step = two_args m n defined l r li lj at (bare_arg m n defined b slot i (slot + 2) l (bare_left op l r q e))
            (coded m n defined (suc b) (suc slot) j (slot + 2) r cr fr ir vr);
        reads = λ p a. right_stands m n defined b w (one_number m n a);
        lefts = λ c z. absurd (differs c z);
      }
    where
      differs : (c : ℕ) → ConstantLeft q ≡ PowerRight c → ⊥
      differs c z = cc
  shaped {w = w} {b = b} {slot = slot} op l r cl cr i j li lj at fl il vl fr ir vr InRegisters e =
      record {
        v = hold n (suc b) (suc slot) (hold n b slot w);
        step = two_args m n defined l r li lj at (coded m n defined b slot i (slot + 2) l cl fl il vl)
            (coded m n defined (suc b) (suc slot) j (slot + 2) r cr fr ir vr);
        reads = λ p a. two_of m n defined (left_stands m n defined b (hold n (suc b) (suc slot)) (row_hold (row_none n (suc (suc b)) (suc (suc slot)))) at.low)
            (right_stands m n defined b (hold n b slot w)) a;
        lefts = λ c z. left_stands m n defined b (hold n (suc b) (suc slot)) (row_hold (row_none n (suc (suc b)) (suc (suc slot)))) at.low;
      }
  shaped {w = w} {b = b} {slot = slot} op l r cl cr i j li lj at fl il vl fr ir vr (PowerRight q) e =
      record {
        v = hold n b slot w;
        step = two_args m n defined l r li lj at (coded m n defined b slot i (slot + 2) l cl fl il vl)
            (bare_arg m n defined (suc b) (suc slot) j (slot + 2) r (bare_power op l r q e));
        reads = λ p a. absurd (p q refl);
        lefts = λ c z. left_stands m n defined b (λ v. v) (Rattle.selection_walks.proofs.Operands.row_more (row_none n (suc (suc b)) (suc (suc slot)))) at.low;
      }

  -- ---- conditions

  -- where the branch of a condition goes, for whatever it reads
  abbrev pub Forked : ℕ → List ℕ → List Label → Option ℕ → ℕ → List Instr → List Task → Type 0
  Forked k ts labels w l code mid =
      (v : Option ℕ) (more : List Task) (t : Test) (args : List Reg) → (AmongRegisters n args → Told Passed v more) → ((p : Phase) → Told p w mid → Told p v more) →
      OutsOf m n k v ts labels more → Sit m n [] k v ts labels (emit.branch t l args ∷ code) more

  abbrev pub Tests : Expression → Type 0
  Tests c =
      (k : ℕ) (ts : List ℕ) (w : Option ℕ) (b slot : ℕ) (env : List NamedRegister) (scope : List Slotted) (labels : List Label) (vis : List Visible) (l at : ℕ)
      (value code : List Instr) (mid : List Task) → Low n w b slot → Scene m n w b (slot + 1) env scope labels vis →
      Faultless (faults_in defined (scopes env) vis c) → Fits (scopes env) c →
      Forked k ts labels w l code mid → OutsOf m n k w ts labels mid →
      Sit m n [] k w ts labels value (operand scope (slot + 1) slot c ++ (Does (Uses slot at) ∷ mid)) →
      Sit m n [] k w ts labels (select_test env labels l b c value code) (operand scope (slot + 1) slot c ++ (Does (Uses slot at) ∷ mid))

  pub operator_test : (place : ℕ) (op : IntOp) (l r : Expression) → Claim m n defined true l → Claim m n defined true r → Tests (Operator place op l r)
  operator_test place op l r cl cr k ts w b slot env scope labels vis end at value code mid low scene ff fits fork o val =
      by (comparison (shape_op s op) (shape_right s)) refl
    where
      s : OperandShape
      s = operation_shape op l r

      x : Reg
      x = fresh_register (suc b) (type_of (scopes env) l)

      y : Reg
      y = fresh_register (suc (suc b)) (type_of (scopes env) r)

      rest : List Task
      rest = Does (Binds slot (is_address (type_of (names scope) (Operator place op l r))) place) ∷ Does (Uses slot at) ∷ mid

      sh : Shaped k ts labels w (slot + 1) (ordered (is_left_first (scopes env) l r) (unless_left s (select env labels false false x (suc (suc (suc b))) l))
          (unless_right s (select env labels false false y (suc (suc (suc b)) + width l) r))) (all_operands scope (slot + 1) (two_expressions l r)) s x y
      sh =
          shaped op l r cl cr (suc (suc (suc b))) (suc (suc (suc b)) + width l) (omega arith) (omega arith) (at_more m n (omega arith) (omega arith) scene)
          (left (left ff)) fits.0 (has_value role.Taken tt _ _ (right (left ff))) (left (right ff)) fits.1 (has_value role.Taken tt _ _ (right (right ff)))
          s refl

      not_power : (t : Test) → comparison (shape_op s op) (shape_right s) ≡ Some t → (e : ℕ) → s ≡ PowerRight e → ⊥
      not_power t z e q = none_test t (sym (untested op l r e right_side.Register q) ∙ sym (ap (λ u. comparison (shape_op u op) (shape_right u)) q) ∙ z)
        where
          none_test : (t : Test) → None ≡ Some t → ⊥
          none_test t e = cc

      by : (t : Option Test) → comparison (shape_op s op) (shape_right s) ≡ t →
          Sit m n [] k w ts labels (fused_test t
          (λ t. ordered (is_left_first (scopes env) l r) (unless_left s (select env labels false false x (suc (suc (suc b))) l))
          (unless_right s (select env labels false false y (suc (suc (suc b)) + width l) r)) (emit.branch t end (shape_args s x y) ∷ code)) value)
          (Evaluates scope (slot + 1) (Operator place op l r) ∷ rest)
      by None z = val
      by (Some t) z =
          let step = sh.step in
          whole m n {v = sh.v} (Operator place op l r) (operand_uses place (slot + 1) 2) refl step o (outs_takes m n rest place (slot + 1) 2 o)
          (fork sh.v (operand_uses place (slot + 1) 2 ++ rest) t (shape_args s x y) (λ a. used_by m n {v = sh.v} rest place (slot + 1) 2 (sh.reads (not_power t z) a))
          (λ p u. through_takes m n p place (slot + 1) 2
          (grown p w sh.v step.keeps
          (skipped (apart_binds p w slot _ _ (λ i e q. let z = low i e in let j = z.1 in omega (arith, j, q))) (skipped (apart_uses p w slot at) u))))
          (outs_takes m n rest place (slot + 1) 2 (outs_kept m n step.keeps o)))

  pub other_test : (c : Expression) → ((env : List NamedRegister) (labels : List Label) (l b : ℕ) (value next : List Instr) →
      select_test env labels l b c value next ≡ value) → Tests c
  other_test c e k ts w b slot env scope labels vis l at value code mid low scene ff fits fork o val =
      subst (λ z. Sit m n [] k w ts labels z (operand scope (slot + 1) slot c ++ (Does (Uses slot at) ∷ mid))) (sym (e env labels l b value code)) val

  -- the value of a condition, which is used at once
  single : {k : ℕ} {ts : List ℕ} {w : Option ℕ} {b slot : ℕ} {env : List NamedRegister} {scope : List Slotted} {labels : List Label} {vis : List Visible}
      {next : List Instr} {mid : List Task} (c : Expression) → Claim m n defined true c → (i at : ℕ) → suc b < i → Scene m n w b slot env scope labels vis →
      Faultless (faults_in defined (scopes env) vis c) → Fits (scopes env) c → (type_of (scopes env) c ≡ ty.NoValue → ⊥) →
      OutsOf m n k w ts labels mid → Sit m n [] k (hold n (suc b) slot w) ts labels next (Does (Uses slot at) ∷ mid) →
      Sit m n [] k w ts labels (select env labels false false (fresh_register (suc b) (type_of (scopes env) c)) i c next)
      (operand scope (slot + 1) slot c ++ (Does (Uses slot at) ∷ mid))
  single {w = w} {b = b} {slot = slot} {env = env} {scope = scope} {vis = vis} c claim i at li scene ff fits value o y =
      of_claim m n defined true c claim false false (fresh_register (suc b) (type_of (scopes env) c)) (at_more m n (omega (arith, li)) (omega arith) scene) ff fits
      (has_one defined (scopes env) vis c ff value) (λ e. low_none scene.low (omega (arith, e))) li
      (binding m n (fresh_register (suc b) (type_of (scopes env) c)) (type_of (names scope) c) slot (place_of c)
      (ap (λ sc. comp_of_type (type_of sc c)) (sym (paired_names scene.paired))) (λ s e q. let z = scene.low s e in let l = z.1 in omega (arith, l, q))
      (hold_other n (suc b) slot w) (hold_same n (suc b) slot w) o y)

  -- where it is a light address it comes last, which is the same
  flagged : {k : ℕ} {ts : List ℕ} {w : Option ℕ} {labels : List Label} {code : List Instr} {scope : List Slotted} {slot : ℕ} {tasks : List Task}
      (c : Expression) (at : ℕ) (last : Task) (f : Bool) → Sit m n [] k w ts labels code (operand scope (slot + 1) slot c ++
      (Does (Uses slot at) ∷ last ∷ tasks)) →
      Sit m n [] k w ts labels code
      ((((([] ++ cond f [] (operand scope (slot + 1) slot c)) ++ ([] ++ cond f (operand scope (slot + 1) slot c) [])) ++
      (Does (Uses slot at) ∷ [])) ++ (last ∷ [])) ++ tasks)
  flagged c at last true x = x
  flagged c at last false x = x

  kept_hold : {w : Option ℕ} {b slot : ℕ} → Low n w b slot → Kept w (hold n (suc b) slot w)
  kept_hold {w} {b} {slot} low = hold_kept slot (λ e. low_none low (omega (arith, e)))

  module _ (labelled : WellLabelled m) where
    pub if_form : (at : ℕ) (c a e : Expression) → Claim m n defined true c → Tests c → ((want : Bool) → Claim m n defined want a) →
        ((want : Bool) → Claim m n defined want e) → (want : Bool) → Claim m n defined want (If at c a e)
    if_form place c a e claim tests claim_a claim_e want k ts w b slot env scope labels vis next tasks valued tail d at ff fits value apart below y =
        quiet_sit m n (walk.evaluates scope slot (If place c a e) tasks) y.outs
        (flagged c place (OneOf scope slot (a ∷ e ∷ [])) (is_light_address (names scope) c)
        (tests k ts w base slot env scope labels vis l place _ true_code mid (low_more (omega arith) (omega arith) at.low)
        (at_more m n (omega arith) (omega arith) at) (left (left ff)) fits.0 forked y.outs
        (single c claim base place (omega arith) at (left (left ff)) fits.0 (has_value role.Taken tt _ _ (right (left ff))) y.outs
        (forked (hold n (suc b) slot w) (Does (Uses slot place) ∷ mid) test.Holds (t ∷ [])
        (λ i. used_by m n mid place slot 1 (single_stands m n defined (suc b) w (one_number m n i)))
        (λ p u. skipped (apart_uses p _ slot place) (grown p w (hold n (suc b) slot w) (kept_hold at.low) u)) (outs_kept m n (kept_hold at.low) y.outs)))))
      where
        T : Ty
        T = type_of (scopes env) (If place c a e)

        d' : Reg
        d' = inner_dest T b d

        t : Reg
        t = fresh_register (suc b) (type_of (scopes env) c)

        l : ℕ
        l = suc (suc b)

        end : ℕ
        end = suc (suc (suc b))

        base : ℕ
        base = suc (suc (suc (suc b)))

        wants : Bool
        wants = inner_valued valued T

        last : List Instr
        last = bare_mark (mark.End end) ∷ next

        false_code : List Instr
        false_code = select env labels wants tail d' (base + width c + width a) e last

        else_code : List Instr
        else_code = bare_mark (mark.Else l end) ∷ false_code

        true_code : List Instr
        true_code = select env labels wants tail d' (base + width c) a else_code

        mid : List Task
        mid = OneOf scope slot (a ∷ e ∷ []) ∷ tasks

        y' : Sit m n (out m n want d') k w ts labels next tasks
        y' = inner m n want T b d (wanted_typed m n want (holds_float (If place c a e)) (type_without_float (scopes env) (If place c a e)) value) y

        apart' : ApartFrom m n d' w
        apart' = inner_apart m n T b d at.low apart

        below' : d'.number < suc b
        below' = inner_below T b d below

        y_false : Sit m n [] k w ts labels false_code (Evaluates scope slot e ∷ tasks)
        y_false = of_claim m n defined want e (claim_e want) wants tail d' (at_more m n (omega arith) (omega arith) at) (right (right ff)) fits.1.1
            (wanted_second m n defined labelled want (type_without_float (scopes env) a) (type_without_float (scopes env) e) value) apart'
            (omega (arith, below')) (end_sit m n end y')

        y_true : Sit m n [] k w ts labels true_code (Evaluates scope slot a ∷ tasks)
        y_true =
            of_claim m n defined want a (claim_a want) wants tail d' (at_more m n (omega arith) (omega arith) at) (left (right ff)) fits.1.0
            (wanted_first m n defined labelled want (type_without_float (scopes env) a) (type_without_float (scopes env) e) value) apart'
            (omega (arith, below'))
            (past_sit m n (mark.Else l end) end labelled refl (λ c. refl) (ending_select env labels wants tail d' (base + width c + width a) e last) y')

        there : (q : Test) (args : List Reg) → Placed m ts (emit.branch q l args ∷ true_code) → (u : Target) → mach.OneOf u (On ∷ At l ∷ []) → (p : Phase) →
            Ahead m n k p (code_at m.code true_code u) → Told p w mid
        there q args placed u this p z = quietly (walk.one_of scope slot (a ∷ e ∷ []) a tasks (contains_head a (e ∷ []))) (go m n y_true
            (placed_next refl placed) p z)
        there q args placed u (other this) p z =
            let before = placed_in (ending_select env labels wants tail d' (base + width c) a else_code) (placed_next refl placed) in
            quietly (walk.one_of scope slot (a ∷ e ∷ []) e tasks (contains_tail a (e ∷ []) e (contains_head e [])))
            (go m n y_false (placed_next refl before) p (subst (Ahead m n k p) (labelled.behind_is l _ _ before.ending (eq-eqb l l refl)) z))
        there q args placed u (other (other o)) p z = elim o [ ]

        forked : Forked k ts labels w l true_code mid
        forked v more q args reads pre o = fork_sit m n (emit.branch q l args) refl refl refl (there q args) reads pre o

    some_case : (cs : Cases) → HasCase cs → 0 < count_cases cs
    some_case NoCase h = absurd h
    some_case (Choose indexes body rest) h = omega arith

    pub switch_form : (at size_at size : ℕ) (c : Expression) (cases : Cases) → Claim m n defined true c → Chooses m n defined labelled cases → (want : Bool) →
        Claim m n defined want (Switch at size_at size c cases)
    switch_form place size_at size c cases claim chooses want k ts w b slot env scope labels vis next tasks valued tail d at ff fits value apart below y =
        quiet_sit m n (walk.evaluates scope slot (Switch place size_at size c cases) tasks) y.outs
        (flagged c place (OneOf scope slot (bodies cases)) (is_light_address (names scope) c)
        (single c claim base place (omega arith) at (left (left ff)) fits.1.0 (has_value role.Taken tt _ _ (right (left ff))) y.outs
        (fork_sit m n (emit.choose (switch_labels l cases 0 size) x) refl refl refl there
        (λ i. used_by m n mid place slot 1 (single_stands m n defined (suc b) w (one_number m n i)))
        (λ p u. skipped (apart_uses p _ slot place) (grown p w (hold n (suc b) slot w) (kept_hold at.low) u)) (outs_kept m n (kept_hold at.low) y.outs))))
      where
        T : Ty
        T = type_of (scopes env) (Switch place size_at size c cases)

        d' : Reg
        d' = inner_dest T b d

        x : Reg
        x = fresh_register (suc b) (type_of (scopes env) c)

        l : ℕ
        l = suc (suc (suc b))

        base : ℕ
        base = l + count_cases cases

        mid : List Task
        mid = OneOf scope slot (bodies cases) ∷ tasks

        code : List Instr
        code = select_cases env labels (inner_valued valued T) tail d' (switch_labels l cases 0 size) (suc (suc b)) l (base + width c) cases
            (bare_mark (mark.End (suc (suc b))) ∷ next)

        y' : Sit m n (out m n want d') k w ts labels next tasks
        y' = inner m n want T b d (wanted_typed m n want (holds_float (Switch place size_at size c cases))
            (type_without_float (scopes env) (Switch place size_at size c cases)) value) y

        there : Placed m ts (emit.choose (switch_labels l cases 0 size) x ∷ code) → (u : Target) →
            mach.OneOf u (Rattle.std.specs.Prelude.map At (switch_labels l cases 0 size)) → (p : Phase) → Ahead m n k p (code_at m.code code u) → Told p w mid
        there placed u o p z =
            let i = in_labels m n defined labelled u l cases 0 size (some_case cases fits.0) o in
            let less = i.within in
            let below' = inner_below T b d below in
            let told = chooses want k ts w (base + width c) slot env scope labels vis next tasks (inner_valued valued T) tail d' (switch_labels l cases 0 size)
            (suc (suc b)) l (at_more m n (omega arith) (omega arith) at) (right ff) fits.1.1 value (inner_apart m n T b d at.low apart)
            (omega (arith, below')) y'
            (placed_next refl placed) i.index (omega (arith, less)) p (subst (λ s. Ahead m n k p (code_at m.code code s)) i.is z) in
            quietly (walk.one_of scope slot (bodies cases) told.e tasks told.among) told.told
