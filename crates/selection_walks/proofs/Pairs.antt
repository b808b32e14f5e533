-- One operand and two, and the operators that take them.
use Rattle.std.proofs.Common.{◌≡◌, ℕ, zero, suc, ◌+◌, ◌≤◌, Bool, true, false, cond, not, ◌&&◌, ◌⊎◌, inl, inr, ⊎_elim, List, [], ◌∷◌, ◌++◌, Option, Some, None, refl, sym, ap, ◌∙◌, subst, arith}
use Rattle.bs_words.specs.declared.operators.IntOp.{IntOp}
use Rattle.bs_words.specs.declared.operators.IntOp.TheVariants as operator
use Rattle.bs_words.specs.declared.types.Comp.TheVariants as comp
use Rattle.bs_words.specs.declared.types.Ty.TheVariants as ty
use Rattle.bs_fault.specs.Reported.{Faultless}
use Rattle.cmm_tree.specs.Symbols.{DefinedSymbol}
use Rattle.cmm_tree.specs.Tree.{Expression, Integer, NoMore, More}
use Rattle.cmm_types.specs.Light.{is_light_address}
use Rattle.cmm_types.specs.Types.{Scoped, type_of}
use Rattle.cmm_types.specs.Standing.{Visible}
use Rattle.cmm_types.specs.Gathered.{faults_in}
use Rattle.cmm_meaning.specs.Evaluation.{is_left_first}
use Rattle.walk_tables.specs.Walks.{Task, Slotted, names, operand_uses, operand, tasks_of, all_operands, two_expressions}
use Rattle.mach_ir.specs.Walks.{AmongRegisters, first, later}
use Rattle.mach_ir.specs.declared.op.Right.{Right}
use Rattle.mach_ir.specs.declared.mach.Instr.{Instr}
use Rattle.mach_ir.specs.declared.mach.Mach.{Mach}
use Rattle.mach_ir.specs.declared.reg.Reg.{Reg}
use Rattle.selection_rules.specs.Instructions as emit
use Rattle.selection_rules.specs.Select.{Immediate, NamedRegister, Label, scopes, comp_of_type, fresh_register, ordered, OperandShape, InRegisters, ConstantRight, ConstantLeft, PowerRight, shape, operation_shape, shape_args, right_immediate, left_immediate, power_shape, power_of, operator_code, power_code, rounded, select, Code, comparison}
use Rattle.selection_laws.specs.Fits.{Fits}
use Rattle.selection_walks.proofs.Phases.{Kept}
use Rattle.selection_walks.proofs.Situations.{hold, Low, hold_same, paired_names, OutsOf, outs_kept, Sit, out, ApartFrom, no_among}
use Rattle.selection_walks.proofs.Operands.{Row, row_none, row_more, row_hold, Stood, Step, hold_next, joined, nothing, Scene, at_more, at_hold, Claim, row_operand, row_uncoded}
use Rattle.selection_walks.proofs.Finals.{IsPlain, ended, apart_sit, used_by, outs_takes}

-- ---- what the shapes leave out

by_shape : (op : IntOp) (l r : Expression) → (operation_shape op l r ≡ power_shape (power_of r)) ⊎ (operation_shape op l r ≡ shape (right_immediate op r)
    (left_immediate op l))
by_shape operator.Div l r = inl refl
by_shape operator.Mod l r = inl refl
by_shape operator.Add l r = inr refl
by_shape operator.Sub l r = inr refl
by_shape operator.Mul l r = inr refl
by_shape operator.Mulh l r = inr refl
by_shape operator.And l r = inr refl
by_shape operator.Or l r = inr refl
by_shape operator.Xor l r = inr refl
by_shape operator.Shl l r = inr refl
by_shape operator.Shr l r = inr refl
by_shape operator.Sar l r = inr refl
by_shape (operator.Cmp f) l r = inr refl
by_shape (operator.CmpU f) l r = inr refl
by_shape operator.AddV l r = inr refl
by_shape operator.AddA l r = inr refl

abbrev Bare : Expression → Type 0
Bare e = (scope : List Slotted) (free : ℕ) → tasks_of scope free e ≡ []

shape_bare_right : (o : Option Immediate) (e : Expression) (op : IntOp) (i : Immediate) → shape (right_immediate op e) o ≡ ConstantRight i → Bare e
shape_bare_right o (Integer at w) op i q scope free = refl
shape_bare_right None e op i q scope free = cc
shape_bare_right (Some j) e op i q scope free = cc

shape_bare_left : (o : Option Immediate) (e : Expression) (op : IntOp) (i : Immediate) → shape o (left_immediate op e) ≡ ConstantLeft i → Bare e
shape_bare_left o (Integer at w) op i q scope free = refl
shape_bare_left None e op i q scope free = cc
shape_bare_left (Some j) e op i q scope free = cc

power_not_right : (o : Option ℕ) (i : Immediate) → power_shape o ≡ ConstantRight i → ⊥
power_not_right None i q = cc
power_not_right (Some k) i q = cc

power_not_left : (o : Option ℕ) (i : Immediate) → power_shape o ≡ ConstantLeft i → ⊥
power_not_left None i q = cc
power_not_left (Some k) i q = cc

pub bare_right : (op : IntOp) (l r : Expression) (i : Immediate) → operation_shape op l r ≡ ConstantRight i → Bare r
bare_right op l r i q = ⊎_elim (λ e. absurd (power_not_right (power_of r) i (sym e ∙ q))) (λ e. shape_bare_right (left_immediate op l) r op i (sym e ∙ q))
    (by_shape op l r)

pub bare_left : (op : IntOp) (l r : Expression) (i : Immediate) → operation_shape op l r ≡ ConstantLeft i → Bare l
bare_left op l r i q = ⊎_elim (λ e. absurd (power_not_left (power_of r) i (sym e ∙ q))) (λ e. shape_bare_left (right_immediate op r) l op i (sym e ∙ q))
    (by_shape op l r)

shape_not_power : (o u : Option Immediate) (k : ℕ) → shape o u ≡ PowerRight k → ⊥
shape_not_power None None k q = cc
shape_not_power None (Some j) k q = cc
shape_not_power (Some i) u k q = cc

power_bare : (e : Expression) (k : ℕ) → power_shape (power_of e) ≡ PowerRight k → Bare e
power_bare (Integer at w) k q scope free = refl
power_bare e k q scope free = cc

pub bare_power : (op : IntOp) (l r : Expression) (k : ℕ) → operation_shape op l r ≡ PowerRight k → Bare r
bare_power op l r k q = ⊎_elim (λ e. power_bare r k (sym e ∙ q)) (λ e. absurd (shape_not_power (right_immediate op r) (left_immediate op l) k (sym e ∙ q)))
    (by_shape op l r)

-- no test is such an operator
pub untested : (op : IntOp) (l r : Expression) (k : ℕ) (f : Right) → operation_shape op l r ≡ PowerRight k → comparison op f ≡ None
untested (operator.Cmp c) l r k f q = absurd (shape_not_power (right_immediate (operator.Cmp c) r) (left_immediate (operator.Cmp c) l) k q)
untested (operator.CmpU c) l r k f q = absurd (shape_not_power (right_immediate (operator.CmpU c) r) (left_immediate (operator.CmpU c) l) k q)
untested op l r k f q = refl

power_type : (e : Expression) (sc : List Scoped) (k : ℕ) → power_shape (power_of e) ≡ PowerRight k → comp_of_type (type_of sc e) ≡ comp.Int
power_type (Integer at w) sc k q = refl
power_type e sc k q = cc

pub power_int : (op : IntOp) (l r : Expression) (sc : List Scoped) (k : ℕ) → operation_shape op l r ≡ PowerRight k → comp_of_type (type_of sc r) ≡ comp.Int
power_int op l r sc k q = ⊎_elim (λ e. power_type r sc k (sym e ∙ q)) (λ e. absurd (shape_not_power (right_immediate op r) (left_immediate op l) k (sym e ∙ q)))
    (by_shape op l r)

module _ (m : Mach) (n : ℕ) (defined : List ℕ → Option DefinedSymbol) where
  -- ---- an operand in its place

  -- An operand whose register has this number and whose slot is this, over what the operands to its right hold.
  pub record Arg (k : ℕ) (ts : List ℕ) (labels : List Label) (env : List NamedRegister) (scope : List Slotted) (vis : List Visible) (b slot i free : ℕ)
      (g : Option ℕ → Option ℕ) (code : Code) (os : List Task) : Type 0 where
    pub run : (w : Option ℕ) (count : ℕ) (f : Option ℕ → Option ℕ) → Row n (suc b) (suc slot) count f → suc b + count ≤ i → suc slot + count ≤ free →
        Scene m n w b slot env scope labels vis → Step m n k ts labels (f w) (f (g w)) code os
    pub row : (count : ℕ) (f : Option ℕ → Option ℕ) → Row n (suc b) (suc slot) count f → Row n b slot (suc count) (λ w. f (g w))
    pub after : (w : Option ℕ) → Scene m n w b slot env scope labels vis → Scene m n (g w) (suc b) (suc slot) env scope labels vis

  pub coded : {k : ℕ} {ts : List ℕ} {labels : List Label} {env : List NamedRegister} {scope : List Slotted} {vis : List Visible} (b slot i free : ℕ) (e : Expression) →
      Claim m n defined true e → Faultless (faults_in defined (scopes env) vis e) → Fits (scopes env) e → (type_of (scopes env) e ≡ ty.NoValue → ⊥) →
      Arg k ts labels env scope vis b slot i free (hold n b slot) (select env labels false false (fresh_register b (type_of (scopes env) e)) i e)
      (operand scope free slot e)
  coded b slot i free e claim ff fits value =
      record {
        run = λ w count f r lb ls at. row_operand m n defined e claim r lb ls at ff fits value;
        row = λ count f r. row_hold r;
        after = λ w at. at_hold m n at;
      }

  pub bare_arg : {k : ℕ} {ts : List ℕ} {labels : List Label} {env : List NamedRegister} {scope : List Slotted} {vis : List Visible} (b slot i free : ℕ)
      (e : Expression) → Bare e → Arg k ts labels env scope vis b slot i free (λ w. w) (λ next. next) (operand scope free slot e)
  bare_arg {scope = scope} b slot i free e none =
      record {
        run = λ w count f r lb ls at. row_uncoded m n defined scope free e r at (none scope free);
        row = λ count f r. row_more r;
        after = λ w at. at_more m n (omega arith) (omega arith) at;
      }

  -- two operands, either of which may wait
  both : {k : ℕ} {ts : List ℕ} {labels : List Label} {w a b c : Option ℕ} {ca cb : Code} {oa ob : List Task} (la lb : Bool) → Step m n k ts labels w b cb ob →
      Step m n k ts labels b c ca oa → Step m n k ts labels w a ca oa → Step m n k ts labels a c cb ob →
      Step m n k ts labels w c (ordered (lb && not la) ca cb) ((cond lb [] ob ++ cond la [] oa) ++ (cond lb ob [] ++ cond la oa []))
  both false false x y z u = joined m n (joined m n x y) (nothing m n)
  both true false x y z u = joined m n (joined m n x (nothing m n)) y
  both false true x y z u = joined m n z (joined m n u (nothing m n))
  both true true x y z u = joined m n x y

  pub two_args : {k : ℕ} {ts : List ℕ} {labels : List Label} {env : List NamedRegister} {scope : List Slotted} {vis : List Visible} {b slot i j : ℕ} {ga gb : Option ℕ →
      Option ℕ} {ca cb : Code} {w : Option ℕ} (left right : Expression) → suc (suc b) ≤ i → suc (suc b) ≤ j → Scene m n w b slot env scope labels vis →
      Arg k ts labels env scope vis b slot i (slot + 2) ga ca (operand scope (slot + 2) slot left) →
      Arg k ts labels env scope vis (suc b) (suc slot) j (slot + 2) gb cb (operand scope (slot + 2) (suc slot) right) →
      Step m n k ts labels w (gb (ga w)) (ordered (is_left_first (scopes env) left right) ca cb) (all_operands scope slot (two_expressions left right))
  two_args {k} {ts} {labels} {env} {scope} {b = b} {slot = slot} {ga = ga} {gb = gb} {ca = ca} {cb = cb} {w = w} left right li lj at x y =
      subst (λ sc. Step m n k ts labels w (gb (ga w)) (ordered (is_left_first (scopes env) left right) ca cb)
      ((cond (is_light_address sc right) [] (operand scope (slot + 2) (suc slot) right) ++ cond (is_light_address sc left) []
      (operand scope (slot + 2) slot left)) ++
      (cond (is_light_address sc right) (operand scope (slot + 2) (suc slot) right) [] ++ cond (is_light_address sc left)
      (operand scope (slot + 2) slot left) [])))
      (sym (paired_names at.paired))
      (both (is_light_address (scopes env) left) (is_light_address (scopes env) right)
      (y.run w 0 (λ v. v) (row_none n (suc (suc b)) (suc (suc slot))) (omega (arith, lj)) (omega arith) (at_more m n (omega arith) (omega arith) at))
      (x.run w 1 gb (y.row (0) (λ v. v) (row_none n (suc (suc b)) (suc (suc slot)))) (omega (arith, li)) (omega arith) at)
      (x.run w 0 (λ v. v) (row_none n (suc b) (suc slot)) (omega (arith, li)) (omega arith) at)
      (y.run (ga w) 0 (λ v. v) (row_none n (suc (suc b)) (suc (suc slot))) (omega (arith, lj)) (omega arith) (x.after w at)))

  -- one operand
  one : {k : ℕ} {ts : List ℕ} {labels : List Label} {w a : Option ℕ} {ca : Code} {oa : List Task} (la : Bool) → Step m n k ts labels w a ca oa →
      Step m n k ts labels w a ca (([] ++ cond la [] oa) ++ ([] ++ cond la oa []))
  one false x = joined m n x (nothing m n)
  one true x = x

  pub one_arg : {k : ℕ} {ts : List ℕ} {labels : List Label} {env : List NamedRegister} {scope : List Slotted} {vis : List Visible} {b slot i : ℕ} {g : Option ℕ →
      Option ℕ} {code : Code} {w : Option ℕ} (e : Expression) → suc b ≤ i → Scene m n w b slot env scope labels vis →
      Arg k ts labels env scope vis b slot i (slot + 1) g code (operand scope (slot + 1) slot e) →
      Step m n k ts labels w (g w) code (all_operands scope slot (More e NoMore))
  one_arg {scope = scope} {b = b} {slot = slot} {w = w} e li at x =
      one (is_light_address (names scope) e) (x.run w 0 (λ v. v) (row_none n (suc b) (suc slot)) (omega (arith, li)) (omega arith) at)

  -- ---- where they are

  pub left_stands : {w : Option ℕ} {slot : ℕ} (b : ℕ) (g : Option ℕ → Option ℕ) → Row n (suc b) (suc slot) 1 g → Low n w b slot → n ≡ b →
      Stood (g (hold n b slot w)) slot 2
  left_stands {w} {slot} b g r low e =
      let z : slot ≡ slot + zero = omega arith in
      record { index = 0; within = omega arith; is = r.kept (hold n b slot w) (hold_next low) slot (hold_same n b slot w e) ∙ ap Some z }

  pub right_stands : {slot : ℕ} (b : ℕ) (v : Option ℕ) → n ≡ suc b → Stood (hold n (suc b) (suc slot) v) slot 2
  right_stands {slot} b v e =
      let z : suc slot ≡ slot + 1 = omega arith in
      record { index = 1; within = omega arith; is = hold_same n (suc b) (suc slot) v e ∙ ap Some z }

  pub single_stands : {slot : ℕ} (b : ℕ) (w : Option ℕ) → n ≡ b → Stood (hold n b slot w) slot 1
  single_stands {slot} b w e =
      let z : slot ≡ slot + zero = omega arith in
      record { index = 0; within = omega arith; is = hold_same n b slot w e ∙ ap Some z }

  -- ---- operators

  pub plain_operator : (f : IntOp) (r : Right) (args : List Reg) (d : Reg) → IsPlain (emit.operator f r args d)
  plain_operator f r args d = record { on = refl; calm = refl; inside = refl; tries = λ next. refl }

  pub one_of : {r : Reg} {Q : Type 0} → (n ≡ r.number → Q) → AmongRegisters n (r ∷ []) → Q
  one_of f (first e) = f (sym e)
  one_of f (later i) = absurd (no_among m n i)

  pub two_of : {r q : Reg} {Q : Type 0} → (n ≡ r.number → Q) → (n ≡ q.number → Q) → AmongRegisters n (r ∷ q ∷ []) → Q
  two_of f g (first e) = f (sym e)
  two_of f g (later i) = one_of g i

  module _ {k : ℕ} {ts : List ℕ} {labels : List Label} {w v : Option ℕ} {next : List Instr} {tasks : List Task} (want : Bool) (d x y : Reg) (at slot : ℕ)
      (keeps : Kept w v) (apart : ApartFrom m n d w) (rest : Sit m n (out m n want d) k w ts labels next tasks) where
    abbrev End : List Instr → Type 0
    End code = Sit m n [] k v ts labels code (operand_uses at slot 2 ++ tasks)

    outs : OutsOf m n k v ts labels (operand_uses at slot 2 ++ tasks)
    outs = outs_takes m n tasks at slot 2 (outs_kept m n keeps rest.outs)

    -- the shifts of a division
    rounds : (n ≡ x.number → Stood v slot 2) → (e : ℕ) {code : List Instr} → (y.comp ≡ comp.Addr → ⊥) → ((n ≡ y.number → ⊥) → End code) →
        End (rounded e x y code)
    rounds stands_x e kind f =
        apart_sit m n y _ (plain_operator _ _ _ _) refl kind (λ a. one_of (λ q. used_by m n tasks at slot 2 (stands_x q)) a) outs
        (λ away. apart_sit m n y _ (plain_operator _ _ _ _) refl kind (λ a. one_of (λ q. absurd (away q)) a) outs
        (λ away. apart_sit m n y _ (plain_operator _ _ _ _) refl kind
        (λ a. two_of (λ q. used_by m n tasks at slot 2 (stands_x q)) (λ q. absurd (away q)) a) outs f))

    power_end : (n ≡ x.number → Stood v slot 2) → (op : IntOp) (e : ℕ) → (y.comp ≡ comp.Addr → ⊥) → End (power_code op e x y d next)
    power_end stands_x operator.Div e kind = rounds stands_x e kind (λ away. ended m n want d _ (plain_operator _ _ _ _) refl at slot 2 keeps
        (λ a. one_of (λ q. absurd (away q)) a) apart rest)
    power_end stands_x op e kind =
        rounds stands_x e kind (λ away. apart_sit m n y _ (plain_operator _ _ _ _) refl kind (λ a. one_of (λ q. absurd (away q)) a) outs
        (λ away. apart_sit m n y _ (plain_operator _ _ _ _) refl kind (λ a. one_of (λ q. absurd (away q)) a) outs
        (λ away. ended m n want d _ (plain_operator _ _ _ _) refl at slot 2 keeps (λ a. two_of stands_x (λ q. absurd (away q)) a) apart rest)))

    pub shape_end : (s : OperandShape) (op : IntOp) → ((e : ℕ) → s ≡ PowerRight e → y.comp ≡ comp.Addr → ⊥) →
        ((e : ℕ) → s ≡ PowerRight e → n ≡ x.number → Stood v slot 2) → (((e : ℕ) → s ≡ PowerRight e → ⊥) → AmongRegisters n (shape_args s x y) → Stood v slot 2) →
        End (operator_code s op x y d next)
    shape_end (PowerRight e) op kind lefts reads = power_end (lefts e refl) op e (kind e refl)
    shape_end InRegisters op kind lefts reads = ended m n want d _ (plain_operator _ _ _ _) refl at slot 2 keeps (reads (λ e q. differs q)) apart rest
      where
        differs : {e : ℕ} → InRegisters ≡ PowerRight e → ⊥
        differs q = cc
    shape_end (ConstantRight i) op kind lefts reads = ended m n want d _ (plain_operator _ _ _ _) refl at slot 2 keeps (reads (λ e q. differs q)) apart rest
      where
        differs : {e : ℕ} → ConstantRight i ≡ PowerRight e → ⊥
        differs q = cc
    shape_end (ConstantLeft i) op kind lefts reads = ended m n want d _ (plain_operator _ _ _ _) refl at slot 2 keeps (reads (λ e q. differs q)) apart rest
      where
        differs : {e : ℕ} → ConstantLeft i ≡ PowerRight e → ⊥
        differs q = cc
