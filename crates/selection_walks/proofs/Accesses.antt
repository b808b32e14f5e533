-- Loads, stores and tests of bounds. An address that is a sum with a short constant is not computed: its base is
-- in the register.
use Rattle.std.proofs.Common.{◌≡◌, ℕ, zero, suc, ◌+◌, ◌<◌, ◌≤◌, Bool, true, false, cond, not, ◌&&◌, ⊎_elim, List, [], ◌∷◌, ◌++◌, Option, Some, None, refl, sym, ap, ◌∙◌, subst, arith, append_assoc}
use Rattle.std.proofs.lemmas.Bool.{true≢false, and_parts}
use Rattle.bs_words.specs.declared.operators.IntOp.{IntOp}
use Rattle.bs_words.specs.declared.operators.IntOp.TheVariants as operator
use Rattle.bs_words.specs.declared.types.Chunk.{Chunk}
use Rattle.bs_words.specs.declared.types.Ty.{Ty}
use Rattle.bs_words.specs.declared.types.Ty.TheVariants as ty
use Rattle.bs_fault.specs.Reported.{Faultless}
use Rattle.cmm_tree.specs.Place.{place_of}
use Rattle.cmm_tree.specs.Symbols.{DefinedSymbol}
use Rattle.cmm_tree.specs.Tree.{Expression, Integer, Pointer, Symbol, Name, Nothing, Float, Let, Assign, Operator, Load, Store, Alloc, App, Extcall, Checkbound, Raise, Seq, If, Switch, Catch, Exit, Try}
use Rattle.cmm_types.specs.Light.{is_light, is_light_operator, is_light_address}
use Rattle.cmm_types.specs.Types.{type_of, type_without_float, holds_float, is_address}
use Rattle.cmm_types.specs.Standing.{Visible}
use Rattle.cmm_types.specs.Gathered.{faults_in}
use Rattle.cmm_types.specs.declared.role.Role.TheVariants as role
use Rattle.cmm_meaning.specs.Evaluation.{is_left_first}
use Rattle.walk_tables.specs.Walks.{Event, Binds, Uses, Task, Does, Evaluates, MayRaise, Slotted, names, operand_uses, operand, tasks_of, all_operands, two_expressions, behind_raise}
use Rattle.walk_tables.specs.Walks as walk
use Rattle.mach_ir.specs.Meaning.{passes_frame}
use Rattle.mach_ir.specs.Walks.{AmongRegisters, first}
use Rattle.mach_ir.specs.declared.op.Right.{Right}
use Rattle.mach_ir.specs.declared.op.Right.TheVariants as right_side
use Rattle.mach_ir.specs.declared.mach.Instr.{Instr}
use Rattle.mach_ir.specs.declared.mach.Mach.{Mach}
use Rattle.mach_ir.specs.declared.reg.Reg.{Reg}
use Rattle.selection_rules.specs.Instructions as emit
use Rattle.selection_rules.specs.Select.{NamedRegister, Label, scopes, reg_of, move_from, fresh_register, ordered, OperandShape, InRegisters, ConstantRight, ConstantLeft, PowerRight, operation_shape, unless_left, unless_right, operator_code, power_code, rounded, bound_test_operand, unless_constant, bound_test, is_based, base_of, offset_of, inner_dest, width, select, select_base, Code}
use Rattle.selection_rules.proofs.Parts.{Placed, placed_in, placed_next}
use Rattle.selection_rules.proofs.Endings.{ending_select}
use Rattle.selection_rules.proofs.Once.{address_is_light}
use Rattle.selection_laws.proofs.Accepting.{left, right}
use Rattle.selection_laws.specs.Fits.{Fits}
use Rattle.selection_walks.proofs.Phases.{Phase, Early, Bound, Passed, Off, Flies, the_same, beyond, Written, here, there, Ahead, Past, kept_on, straight, Told, skipped, quietly, any_early, Apart, Kept, kept_then, grown, bound_none, apart_binds, apart_uses}
use Rattle.selection_walks.proofs.Situations.{hold, hold_same, hold_other, hold_kept, low_none, paired_names, OutsOf, outs_kept, Sit, sit, go, quiet_sit, no_among, no_written, one_number, out, inner, inner_apart, through_takes}
use Rattle.selection_walks.proofs.Floats.{has_one}
use Rattle.selection_walks.proofs.Operands.{has_value, row_none, row_hold, row_more, Stood, Step, whole, Scene, at_more, at_hold, Claim, of_claim, operand_step}
use Rattle.selection_walks.proofs.Finals.{IsPlain, ended, mute_sit, used_by, plain_move, Meets, calling}
use Rattle.selection_walks.proofs.Pairs.{coded, bare_arg, two_args, left_stands, right_stands, single_stands, two_of, plain_operator}
use Rattle.selection_walks.proofs.Names.{wanted_typed}
use Rattle.std.proofs.lemmas.Option.{same_Some}

module _ (m : Mach) (n : ℕ) (defined : List ℕ → Option DefinedSymbol) where
  -- ---- light code passes no frame point

  calm_plain : {k : ℕ} {i : Instr} {next : List Instr} → IsPlain i → Ahead m n k Bound (i ∷ next) → Ahead m n k Bound next
  calm_plain plain z = by (straight plain.on plain.calm plain.inside z)
    where
      by : {k : ℕ} {i : Instr} {next : List Instr} → Past m n k i next Bound → Ahead m n k Bound next
      by (kept_on a o y) = y

  calm_ordered : {k : ℕ} {next : List Instr} {ca cb : Code} (q : Bool) → ((next : List Instr) → Ahead m n k Bound (ca next) → Ahead m n k Bound next) →
      ((next : List Instr) → Ahead m n k Bound (cb next) → Ahead m n k Bound next) → Ahead m n k Bound (ordered q ca cb next) → Ahead m n k Bound next
  calm_ordered true f g z = g _ (f _ z)
  calm_ordered false f g z = f _ (g _ z)

  calm_left : {k : ℕ} {ca : Code} (s : OperandShape) → ((next : List Instr) → Ahead m n k Bound (ca next) → Ahead m n k Bound next) → (next : List Instr) →
      Ahead m n k Bound (unless_left s ca next) → Ahead m n k Bound next
  calm_left InRegisters f next z = f next z
  calm_left (ConstantRight i) f next z = f next z
  calm_left (ConstantLeft i) f next z = z
  calm_left (PowerRight e) f next z = f next z

  calm_right : {k : ℕ} {ca : Code} (s : OperandShape) → ((next : List Instr) → Ahead m n k Bound (ca next) → Ahead m n k Bound next) → (next : List Instr) →
      Ahead m n k Bound (unless_right s ca next) → Ahead m n k Bound next
  calm_right InRegisters f next z = f next z
  calm_right (ConstantRight i) f next z = z
  calm_right (ConstantLeft i) f next z = f next z
  calm_right (PowerRight e) f next z = z

  calm_rounded : {k : ℕ} {next : List Instr} (e : ℕ) (x y : Reg) → Ahead m n k Bound (rounded e x y next) → Ahead m n k Bound next
  calm_rounded e x y z = calm_plain (plain_operator m n defined _ _ _ _) (calm_plain (plain_operator m n defined _ _ _ _)
      (calm_plain (plain_operator m n defined _ _ _ _) z))

  calm_power : {k : ℕ} {next : List Instr} (op : IntOp) (e : ℕ) (x y d : Reg) → Ahead m n k Bound (power_code op e x y d next) → Ahead m n k Bound next
  calm_power operator.Div e x y d z = calm_plain (plain_operator m n defined _ _ _ _) (calm_rounded e x y z)
  calm_power op e x y d z = calm_plain (plain_operator m n defined _ _ _ _) (calm_plain (plain_operator m n defined _ _ _ _)
      (calm_plain (plain_operator m n defined _ _ _ _) (calm_rounded e x y z)))

  calm_operator : {k : ℕ} {next : List Instr} (s : OperandShape) (op : IntOp) (x y d : Reg) → Ahead m n k Bound (operator_code s op x y d next) →
      Ahead m n k Bound next
  calm_operator (PowerRight e) op x y d z = calm_power op e x y d z
  calm_operator InRegisters op x y d z = calm_plain (plain_operator m n defined _ _ _ _) z
  calm_operator (ConstantRight i) op x y d z = calm_plain (plain_operator m n defined _ _ _ _) z
  calm_operator (ConstantLeft i) op x y d z = calm_plain (plain_operator m n defined _ _ _ _) z

  calm_from : {k : ℕ} {next : List Instr} (o : Option Reg) (d : Reg) → Ahead m n k Bound (move_from o d next) → Ahead m n k Bound next
  calm_from None d z = z
  calm_from (Some a) d z = calm_plain (plain_move m n a d) z

  light_calm : {k : ℕ} (env : List NamedRegister) (labels : List Label) (valued tail : Bool) (d : Reg) (b : ℕ) (e : Expression) (next : List Instr) →
      is_light (scopes env) e ≡ true → Ahead m n k Bound (select env labels valued tail d b e next) → Ahead m n k Bound next
  light_calm env labels valued tail d b (Integer at w) next l z = calm_plain (record { on = refl; calm = refl; inside = refl; tries = λ next. refl }) z
  light_calm env labels valued tail d b (Symbol at w) next l z = calm_plain (record { on = refl; calm = refl; inside = refl; tries = λ next. refl }) z
  light_calm env labels valued tail d b (Name at x) next l z = calm_from (reg_of env x) _ z
  light_calm env labels valued tail d b (Operator at op a c) next l z =
      let s = operation_shape op a c in
      let lights = (and_parts (is_light_operator op) (is_light (scopes env) a && is_light (scopes env) c) l).1 in
      calm_operator s op _ _ _
      (calm_ordered (is_left_first (scopes env) a c)
      (calm_left s
      (λ next y. light_calm env labels false false (fresh_register (suc b) (type_of (scopes env) a)) (suc (suc (suc b))) a next
      (and_parts (is_light (scopes env) a) (is_light (scopes env) c) lights).0 y))
      (calm_right s
      (λ next y. light_calm env labels false false (fresh_register (suc (suc b)) (type_of (scopes env) c)) (suc (suc (suc b)) + width a) c next
      (and_parts (is_light (scopes env) a) (is_light (scopes env) c) lights).1 y)) z)
  light_calm env labels valued tail d b (Pointer at w) next l z = absurd (true≢false (sym l))
  light_calm env labels valued tail d b (Nothing at) next l z = absurd (true≢false (sym l))
  light_calm env labels valued tail d b (Float at q es) next l z = absurd (true≢false (sym l))
  light_calm env labels valued tail d b (Let at bs body) next l z = absurd (true≢false (sym l))
  light_calm env labels valued tail d b (Assign at q x e) next l z = absurd (true≢false (sym l))
  light_calm env labels valued tail d b (Load at k e) next l z = absurd (true≢false (sym l))
  light_calm env labels valued tail d b (Store at k e g) next l z = absurd (true≢false (sym l))
  light_calm env labels valued tail d b (Alloc at q h es) next l z = absurd (true≢false (sym l))
  light_calm env labels valued tail d b (App at e es r q) next l z = absurd (true≢false (sym l))
  light_calm env labels valued tail d b (Extcall at frame x es r q) next l z = absurd (true≢false (sym l))
  light_calm env labels valued tail d b (Checkbound at e g) next l z = absurd (true≢false (sym l))
  light_calm env labels valued tail d b (Raise at e) next l z = absurd (true≢false (sym l))
  light_calm env labels valued tail d b (Seq at es) next l z = absurd (true≢false (sym l))
  light_calm env labels valued tail d b (If at e g h) next l z = absurd (true≢false (sym l))
  light_calm env labels valued tail d b (Switch at q i e cs) next l z = absurd (true≢false (sym l))
  light_calm env labels valued tail d b (Catch at e hs) next l z = absurd (true≢false (sym l))
  light_calm env labels valued tail d b (Exit at q t es) next l z = absurd (true≢false (sym l))
  light_calm env labels valued tail d b (Try at e q x g) next l z = absurd (true≢false (sym l))

  -- ---- bases

  -- where the register of a base is not live after a frame point
  abbrev pub Calm : List ℕ → ℕ → ℕ → List Instr → Type 0
  Calm ts k x next = Placed m ts next → n ≡ x → Ahead m n k Bound next → ⊥

  junk_of : {k : ℕ} {ts : List ℕ} {labels : List Label} {w v : Option ℕ} {next : List Instr} {tasks : List Task} (x : Reg) →
      Sit m n [] k v ts labels next tasks → ((n ≡ x.number → ⊥) → v ≡ w) → Calm ts k x.number next → OutsOf m n k w ts labels tasks →
      Sit m n (x ∷ []) k w ts labels next tasks
  junk_of {w = w} {v = v} {tasks = tasks} x y others calm o =
      record { cont = λ placed p f z. by p f (go m n y placed p z); given = λ placed f z. absurd (calm placed (number f) z); outs = o }
    where
      number : Written n (x ∷ []) → n ≡ x.number
      number (here e a) = sym e
      number (there i) = absurd (no_written m n i)

      by : (p : Phase) → Off p (AmongRegisters n (x ∷ [])) → Told p v tasks → Told p w tasks
      by Early f t = any_early t
      by Bound f t = subst (λ u. Told Bound u tasks) (others (λ e. f (first (sym e)))) t
      by Passed f t = subst (λ u. Told Passed u tasks) (others (λ e. f (first (sym e)))) t

  -- tasks that do nothing to the slot
  skip_sit : {D : List Reg} {k : ℕ} {ts : List ℕ} {labels : List Label} {w : Option ℕ} {next : List Instr} {tasks : List Task} (ev : Event) →
      ((p : Phase) → Apart p w ev) → Sit m n D k w ts labels next tasks → Sit m n D k w ts labels next (Does ev ∷ tasks)
  skip_sit ev f x = record { cont = λ at p o z. skipped (f p) (x.cont at p o z); given = λ at o z. skipped (f Early) (x.given at o z); outs = x.outs }

  abbrev pub Bases : Expression → Type 0
  Bases e =
      (k : ℕ) (ts : List ℕ) (w v : Option ℕ) (x slot i free : ℕ) (env : List NamedRegister) (scope : List Slotted) (labels : List Label) (vis : List Visible)
      (next : List Instr) (rest : List Task) → x < i → Scene m n w i free env scope labels vis → Faultless (faults_in defined (scopes env) vis e) →
      Fits (scopes env) e →
      (type_of (scopes env) e ≡ ty.NoValue → ⊥) → (n ≡ x → w ≡ None) → ((s : ℕ) → w ≡ Some s → slot ≡ s → ⊥) → ((n ≡ x → ⊥) → v ≡ w) → (n ≡ x → v ≡ Some slot) →
      Calm ts k x next → OutsOf m n k w ts labels rest → Sit m n [] k v ts labels next rest →
      Sit m n [] k w ts labels (select_base env labels x i e (select env labels false false (fresh_register x (type_of (scopes env) e)) i e) next)
      (operand scope free slot e ++ rest)

  pub whole_base : (e : Expression) → Claim m n defined true e →
      ((env : List NamedRegister) (labels : List Label) (t b : ℕ) (code : Code) (next : List Instr) → select_base env labels t b e code next ≡ code next) → Bases e
  whole_base e claim is k ts w v x slot i free env scope labels vis next rest xi at ff fits value apart vacant others same calm o y =
      subst (λ c. Sit m n [] k w ts labels c (operand scope free slot e ++ rest))
      (sym (is env labels x i (select env labels false false (fresh_register x (type_of (scopes env) e)) i e) next))
      ((operand_step m n defined e claim x slot xi at ff fits value apart vacant others same).run next rest o y)

  pub sum_base : (place : ℕ) (op : IntOp) (base : Expression) (at' u : ℕ) → Claim m n defined true base →
      Claim m n defined true (Operator place op base (Integer at' u)) → Bases (Operator place op base (Integer at' u))
  sum_base place op base at' u claim claim_sum k ts w v x slot i free env scope labels vis next rest xi at ff fits value apart vacant others same calm o y =
      by (is_based op u)
    where
      sum : Expression
      sum = Operator place op base (Integer at' u)

      low : (j : ℕ) → free ≤ j → (p : Phase) (z : Bool) (place : ℕ) → Apart p w (Binds j z place)
      low j le p z place = apart_binds p w j z place (λ s e q. let l = at.low s e in let f = l.1 in omega (arith, f, q, le))

      behind : List Task
      behind = Does (Binds slot (is_address (type_of (names scope) sum)) place) ∷ rest

      after : Sit m n (fresh_register x (type_of (scopes env) base) ∷ []) k w ts labels next
          (Does (Binds free (is_address (type_of (names scope) base)) (place_of base)) ∷ Does (Uses free place) ∷ Does (Uses (suc free) place) ∷ behind)
      after =
          skip_sit _ (λ p. low free (omega arith) p _ _) (skip_sit _ (λ p. apart_uses p w free place)
          (skip_sit _ (λ p. apart_uses p w (suc free) place) (skip_sit _ (λ p. apart_binds p w slot _ _ vacant)
          (junk_of (fresh_register x (type_of (scopes env) base)) y others calm o))))

      evaluated : Sit m n [] k w ts labels (select env labels false false (fresh_register x (type_of (scopes env) base)) i base next)
          (Evaluates scope (free + 2) (Integer at' u) ∷ Does (Binds (suc free) false at') ∷ Evaluates scope (free + 2) base ∷ Does
          (Binds free (is_address (type_of (names scope) base)) (place_of base)) ∷ Does (Uses free place) ∷ Does (Uses (suc free) place) ∷ behind)
      evaluated =
          quiet_sit m n (walk.evaluates scope (free + 2) (Integer at' u) _) o
          (skip_sit _ (λ p. low (suc free) (omega arith) p _ _)
          (of_claim m n defined true base claim false false (fresh_register x (type_of (scopes env) base)) (at_more m n (omega arith) (omega arith) at)
          (left (left ff)) fits.0 (has_one defined (scopes env) vis base (left (left ff)) (has_value role.Taken tt _ _ (right (left ff)))) apart xi after))

      turned : (l : Bool) → Sit m n [] k w ts labels (select env labels false false (fresh_register x (type_of (scopes env) base)) i base next)
          ((((operand scope (free + 2) (suc free) (Integer at' u) ++ cond l [] (operand scope (free + 2) free base)) ++
          ([] ++ cond l (operand scope (free + 2) free base) [])) ++ operand_uses place free 2) ++ behind)
      turned true = evaluated
      turned false = evaluated

      by : (q : Bool) → Sit m n [] k w ts labels (cond q (select env labels false false (fresh_register x (type_of (scopes env) base)) i base next)
          (select env labels false false (fresh_register x (type_of (scopes env) sum)) i sum next)) (operand scope free slot sum ++ rest)
      by true = quiet_sit m n (walk.evaluates scope free sum behind) o (turned (is_light_address (names scope) base))
      by false = (operand_step m n defined sum claim_sum x slot xi at ff fits value apart vacant others same).run next rest o y

  -- ---- loads

  flag_one : {k : ℕ} {ts : List ℕ} {w : Option ℕ} {labels : List Label} {code : List Instr} {scope : List Slotted} {slot : ℕ} {tasks : List Task}
      (c : Expression) (at : ℕ) (f : Bool) → Sit m n [] k w ts labels code (operand scope (slot + 1) slot c ++ (Does (Uses slot at) ∷ tasks)) →
      Sit m n [] k w ts labels code
      (((([] ++ cond f [] (operand scope (slot + 1) slot c)) ++ ([] ++ cond f (operand scope (slot + 1) slot c) [])) ++
      (Does (Uses slot at) ∷ [])) ++ tasks)
  flag_one c at true x = x
  flag_one c at false x = x

  -- after an instruction that writes the destination the base is not live
  calm_end : {k : ℕ} {ts : List ℕ} {labels : List Label} {w : Option ℕ} {next : List Instr} {tasks : List Task} (want : Bool) (d : Reg) (i : Instr) (x : ℕ) →
      IsPlain i → i.results ≡ d ∷ [] → (n ≡ x → w ≡ None) → Sit m n (out m n want d) k w ts labels next tasks → Calm ts k x (i ∷ next)
  calm_end {k} {ts} {labels} {w = w} {next = next} {tasks = tasks} want d i x plain e none y placed q z =
      bound_none w (none q) (by want y (placed_next (plain.tries next) placed) (straight plain.on plain.calm plain.inside z))
    where
      by : (want : Bool) → Sit m n (out m n want d) k w ts labels next tasks → Placed m ts next → Past m n k i next Bound → Told Bound w tasks
      by true y placed (kept_on a o z) = y.cont placed Bound (λ s. o (subst (AmongRegisters n) (sym e) s)) z
      by false y placed (kept_on a o z) = go m n y placed Bound z

  plain_load : (c : Chunk) (offset : ℕ) (x d : Reg) → IsPlain (emit.load c offset x d)
  plain_load c offset x d = record { on = refl; calm = refl; inside = refl; tries = λ next. refl }

  pub load_form : (at : ℕ) (c : Chunk) (e : Expression) → Bases e → (want : Bool) → Claim m n defined want (Load at c e)
  load_form place c e bases want k ts w b slot env scope labels vis next tasks valued tail d at ff fits value apart below y =
      quiet_sit m n (walk.evaluates scope slot (Load place c e) tasks) y.outs
      (flag_one e place (is_light_address (names scope) e)
      (bases k ts w (hold n (suc b) slot w) (suc b) slot (suc (suc b)) (slot + 1) env scope labels vis _ (Does (Uses slot place) ∷ tasks) (omega arith)
      (at_more m n (omega arith) (omega arith) at) (left ff) fits (has_value role.Taken tt _ _ (right ff)) none
      (λ s q h. let z = at.low s q in let l = z.1 in omega (arith, l, h)) (hold_other n (suc b) slot w) (hold_same n (suc b) slot w)
      (calm_end want d' _ (suc b) (plain_load c (offset_of e) x d') refl none y') y.outs
      (ended m n want d' _ (plain_load c (offset_of e) x d') refl place slot 1 (hold_kept slot none)
      (λ a. single_stands m n defined (suc b) w (one_number m n a))
      (inner_apart m n T b d at.low apart) y')))
    where
      T : Ty
      T = type_of (scopes env) (Load place c e)

      d' : Reg
      d' = inner_dest T b d

      x : Reg
      x = fresh_register (suc b) (type_of (scopes env) (base_of e))

      none : n ≡ suc b → w ≡ None
      none q = low_none at.low (omega (arith, q))

      y' : Sit m n (out m n want d') k w ts labels next tasks
      y' = inner m n want T b d (wanted_typed m n want (holds_float (Load place c e)) (type_without_float (scopes env) (Load place c e)) value) y

  -- ---- stores

  pair_flags : {k : ℕ} {ts : List ℕ} {w : Option ℕ} {labels : List Label} {next : List Instr} {scope : List Slotted} {slot : ℕ} {tasks : List Task}
      (ca cb : Code) (a c : Expression) (la lb : Bool) → (lb ≡ true → Sit m n [] k w ts labels (ca (cb next))
      (operand scope (slot + 2) slot a ++ (operand scope (slot + 2) (suc slot) c ++ tasks))) →
      Sit m n [] k w ts labels (cb (ca next)) (operand scope (slot + 2) (suc slot) c ++ (operand scope (slot + 2) slot a ++ tasks)) →
      Sit m n [] k w ts labels (ordered (lb && not la) ca cb next)
      (((cond lb [] (operand scope (slot + 2) (suc slot) c) ++ cond la [] (operand scope (slot + 2) slot a)) ++
      (cond lb (operand scope (slot + 2) (suc slot) c) [] ++ cond la (operand scope (slot + 2) slot a) [])) ++ tasks)
  pair_flags ca cb a c true true x y = y
  pair_flags ca cb a c false true x y = x refl
  pair_flags ca cb a c true false x y = y
  pair_flags ca cb a c false false x y = y

  plain_store : (c : Chunk) (offset : ℕ) (x y : Reg) → IsPlain (emit.store c offset x y)
  plain_store c offset x y = record { on = refl; calm = refl; inside = refl; tries = λ next. refl }

  pub store_form : (at : ℕ) (c : Chunk) (a e : Expression) → Bases a → Claim m n defined true e → (want : Bool) → Claim m n defined want (Store at c a e)
  store_form place c a e bases claim true k ts w b slot env scope labels vis next tasks valued tail d at ff fits value apart below y = absurd (value refl)
  store_form place c a e bases claim false k ts w b slot env scope labels vis next tasks valued tail d at ff fits value apart below y0 =
      quiet_sit m n (walk.evaluates scope slot (Store place c a e) tasks) y0.outs
      (subst (λ os. Sit m n [] k w ts labels (ordered (is_left_first (scopes env) a e) base_code value_code store_code) os)
      (sym (append_assoc (all_operands scope slot (two_expressions a e)) (operand_uses place slot 2) tasks))
      (subst (λ sc. Sit m n [] k w ts labels (ordered (is_left_first (scopes env) a e) base_code value_code (store_code))
      (((cond (is_light_address sc e) [] (operand scope (slot + 2) (suc slot) e) ++ cond (is_light_address sc a) []
      (operand scope (slot + 2) slot a)) ++
      (cond (is_light_address sc e) (operand scope (slot + 2) (suc slot) e) [] ++ cond (is_light_address sc a)
      (operand scope (slot + 2) slot a) [])) ++ (operand_uses place slot 2 ++ tasks)))
      (sym (paired_names at.paired)) (pair_flags base_code value_code a e (is_light_address (scopes env) a)
      (is_light_address (scopes env) e) left_first right_first)))
    where
      x : Reg
      x = fresh_register (suc b) (type_of (scopes env) (base_of a))

      y : Reg
      y = fresh_register (suc (suc b)) (type_of (scopes env) e)

      i : ℕ
      i = suc (suc (suc b))

      j : ℕ
      j = suc (suc (suc b)) + width a

      base_code : Code
      base_code = select_base env labels (suc b) i a (select env labels false false (fresh_register (suc b) (type_of (scopes env) a)) i a)

      value_code : Code
      value_code = select env labels false false y j e

      store_code : List Instr
      store_code = emit.store c (offset_of a) x y ∷ next

      none : n ≡ suc b → w ≡ None
      none q = low_none at.low (omega (arith, q))

      none_y : n ≡ suc (suc b) → w ≡ None
      none_y q = low_none at.low (omega (arith, q))

      low : (s : ℕ) → w ≡ Some s → s < slot
      low s q = let z = at.low s q in z.1

      wx : Option ℕ
      wx = hold n (suc b) slot w

      wy : Option ℕ
      wy = hold n (suc (suc b)) (suc slot) w

      kx : Kept w wx
      kx = hold_kept slot none

      ky : Kept w wy
      ky = hold_kept (suc slot) none_y

      stored : (v : Option ℕ) → Kept w v → (n ≡ suc b → v ≡ Some slot) → (n ≡ suc (suc b) → v ≡ Some (suc slot)) →
          Sit m n [] k v ts labels store_code (operand_uses place slot 2 ++ tasks)
      stored v keeps fx fy =
          mute_sit m n _ (plain_store c (offset_of a) x y) refl
          (λ r. two_of m n defined (λ q. used_by m n tasks place slot 2 (first_stood (fx q))) (λ q. used_by m n tasks place slot 2 (second_stood (fy q))) r)
          (sit m n (λ placed p z. through_takes m n p place slot 2 (grown p w v keeps (go m n y0 placed p z))) (outs_kept m n keeps y0.outs))
        where
          first_stood : v ≡ Some slot → Stood v slot 2
          first_stood e = let z : slot ≡ slot + zero = omega arith in record { index = 0; within = omega arith; is = e ∙ ap Some z }

          second_stood : v ≡ Some (suc slot) → Stood v slot 2
          second_stood e = let z : suc slot ≡ slot + 1 = omega arith in record { index = 1; within = omega arith; is = e ∙ ap Some z }

      calm_store : Calm ts k (suc b) store_code
      calm_store placed q z = bound_none w (none q) (go m n y0 (placed_next refl placed) Bound (calm_plain (plain_store c (offset_of a) x y) z))

      scene_y : Scene m n wy i (slot + 2) env scope labels vis
      scene_y = at_more m n (omega arith) (omega arith) (at_hold m n (at_more m n (omega arith) (omega arith) at))

      scene_x : Scene m n wx j (slot + 2) env scope labels vis
      scene_x = at_more m n (omega arith) (omega arith) (at_hold m n (at_more m n (omega arith) (omega arith) at))

      x_not_y : n ≡ suc b → n ≡ suc (suc b) → ⊥
      x_not_y q h = omega (arith, q, h)

      right_first : Sit m n [] k w ts labels (value_code (base_code store_code))
          (operand scope (slot + 2) (suc slot) e ++ (operand scope (slot + 2) slot a ++ (operand_uses place slot 2 ++ tasks)))
      right_first =
          (operand_step m n defined e claim (suc (suc b)) (suc slot) (omega arith) (at_more m n (omega arith) (omega arith) at) (left (right ff)) fits.1
          (has_value role.Taken tt _ _ (right (right ff))) none_y (λ s q h. let l = low s q in omega (arith, l, h))
          (hold_other n (suc (suc b)) (suc slot) w) (hold_same n (suc (suc b)) (suc slot) w)).run _ _ y0.outs
          (bases k ts wy (hold n (suc b) slot wy) (suc b) slot i (slot + 2) env scope labels vis store_code (operand_uses place slot 2 ++ tasks) (omega arith) scene_y
          (left (left ff)) fits.0 (has_value role.Taken tt _ _ (right (left ff)))
          (λ q. hold_other n (suc (suc b)) (suc slot) w (x_not_y q) ∙ none q) vacant (hold_other n (suc b) slot wy) (hold_same n (suc b) slot wy) calm_store
          (outs_kept m n ky y0.outs)
          (stored (hold n (suc b) slot wy) (kept_then ky (hold_kept slot (λ q. hold_other n (suc (suc b)) (suc slot) w (x_not_y q) ∙ none q)))
          (hold_same n (suc b) slot wy) (λ q. hold_other n (suc b) slot wy (λ h. x_not_y h q) ∙ hold_same n (suc (suc b)) (suc slot) w q)))
        where
          vacant : (s : ℕ) → wy ≡ Some s → slot ≡ s → ⊥
          vacant s q h =
              ⊎_elim (λ g. let z = same_Some (suc slot) s (sym (hold_same n (suc (suc b)) (suc slot) w g) ∙ q) in omega
              (arith, z, h)) (λ g. let l = low s (sym (hold_other n (suc (suc b)) (suc slot) w g) ∙ q) in omega (arith, l, h))
              (Rattle.selection_walks.proofs.Situations.same_or n (suc (suc b)))

      left_first : is_light_address (scopes env) e ≡ true → Sit m n [] k w ts labels (base_code (value_code store_code)) (operand scope (slot + 2) slot a ++
          (operand scope (slot + 2) (suc slot) e ++ (operand_uses place slot 2 ++ tasks)))
      left_first light =
          bases k ts w wx (suc b) slot i (slot + 2) env scope labels vis (value_code store_code)
          (operand scope (slot + 2) (suc slot) e ++ (operand_uses place slot 2 ++ tasks)) (omega arith) (at_more m n (omega arith) (omega arith) at)
          (left (left ff)) fits.0 (has_value role.Taken tt _ _ (right (left ff)))
          none (λ s q h. let l = low s q in omega (arith, l, h)) (hold_other n (suc b) slot w) (hold_same n (suc b) slot w)
          (λ placed q z. calm_store (placed_in (ending_select env labels false false y j e store_code) placed) q
          (light_calm env labels false false y j e store_code (address_is_light (scopes env) e light) z)) y0.outs
          ((operand_step m n defined e claim (suc (suc b)) (suc slot) (omega arith) scene_x (left (right ff)) fits.1
          (has_value role.Taken tt _ _ (right (right ff))) (λ q. hold_other n (suc b) slot w (λ h. x_not_y h q) ∙ none_y q) vacant
          (hold_other n (suc (suc b)) (suc slot) wx) (hold_same n (suc (suc b)) (suc slot) wx)).run _ _ (outs_kept m n kx y0.outs)
          (stored (hold n (suc (suc b)) (suc slot) wx) (kept_then kx (hold_kept (suc slot) (λ q. hold_other n (suc b) slot w (λ h. x_not_y h q) ∙ none_y q)))
          (λ q. hold_other n (suc (suc b)) (suc slot) wx (x_not_y q) ∙ hold_same n (suc b) slot w q) (hold_same n (suc (suc b)) (suc slot) wx)))
        where
          vacant : (s : ℕ) → wx ≡ Some s → suc slot ≡ s → ⊥
          vacant s q h =
              ⊎_elim (λ g. let z = same_Some slot s (sym (hold_same n (suc b) slot w g) ∙ q) in omega (arith, z, h))
              (λ g. let l = low s (sym (hold_other n (suc b) slot w g) ∙ q) in omega (arith, l, h))
              (Rattle.selection_walks.proofs.Situations.same_or n (suc b))

  -- ---- tests of bounds

  bare_index : (f : IntOp) (e : Expression) (u : ℕ) → bound_test_operand f e ≡ right_side.Constant u → (scope : List Slotted) (free : ℕ) → tasks_of scope free e ≡ []
  bare_index f (Integer at w) u q scope free = refl
  bare_index f e u q scope free = cc

  bound_meets : {i : Instr} {w : Option ℕ} {tasks : List Task} → passes_frame i.op ≡ false → Meets m n i w tasks (MayRaise ∷ tasks)
  bound_meets {i} {w} {tasks} pf =
      record {
        stays = λ p t. quietly (walk.goes_on tasks) t;
        crossing = λ e t. absurd (true≢false (sym e ∙ pf));
        flying = λ e h q f t. flew_by f h q t;
      }
    where
      flew_by : {p q : Phase} → Flies i p q → (h : List Task) → behind_raise tasks ≡ Some h → Told q w h → Told p w (MayRaise ∷ tasks)
      flew_by the_same h e t = quietly (walk.may_raise tasks) (quietly (walk.raises tasks h e) t)
      flew_by (beyond z) h e t = absurd (true≢false (sym z ∙ pf))

  pub checkbound_form : (at : ℕ) (a e : Expression) → Claim m n defined true a → Claim m n defined true e → (want : Bool) →
      Claim m n defined want (Checkbound at a e)
  checkbound_form place a e claim_a claim_e true k ts w b slot env scope labels vis next tasks valued tail d at ff fits value apart below y =
      absurd (value refl)
  checkbound_form place a e claim_a claim_e false k ts w b slot env scope labels vis next tasks valued tail d at ff fits value apart below y0 =
      by (bound_test_operand bound_test e) refl
    where
      x : Reg
      x = fresh_register (suc b) (type_of (scopes env) a)

      y : Reg
      y = fresh_register (suc (suc b)) (type_of (scopes env) e)

      scene : Scene m n w (suc b) slot env scope labels vis
      scene = at_more m n (omega arith) (omega arith) at

      i : ℕ
      i = suc (suc (suc b))

      j : ℕ
      j = suc (suc (suc b)) + width a

      bounded : {v : Option ℕ} {c : Code} (r : Right) → Step m n k ts labels w v c (all_operands scope slot (two_expressions a e)) →
          (AmongRegisters n (x ∷ emit.right_regs r y) → Stood v slot 2) →
          Sit m n [] k w ts labels (c (emit.checkbound_instr r x y ∷ next)) (Evaluates scope slot (Checkbound place a e) ∷ tasks)
      bounded {v} r step reads =
          whole m n (Checkbound place a e) (operand_uses place slot 2 ++ (MayRaise ∷ []))
          (append_assoc (all_operands scope slot (two_expressions a e)) (operand_uses place slot 2) (MayRaise ∷ [])) step y0.outs y0.outs
          (calling m n (emit.checkbound_instr r x y) refl (λ next. refl) refl y0 (bound_meets refl) step.keeps place slot 2 (λ s f. reads s)
          (λ s. absurd (no_among m n s)) y0.outs)

      by : (r : Right) → bound_test_operand bound_test e ≡ r → Sit m n [] k w ts labels (ordered (is_left_first (scopes env) a e) (select env labels false false x i a)
          (unless_constant r (select env labels false false y j e)) (emit.checkbound_instr r x y ∷ next)) (Evaluates scope slot (Checkbound place a e) ∷ tasks)
      by right_side.Register q =
          bounded right_side.Register
          (two_args m n defined a e (omega arith) (omega arith) scene
          (coded m n defined (suc b) slot i (slot + 2) a claim_a (left (left ff)) fits.0 (has_value role.Taken tt _ _ (right (left ff))))
          (coded m n defined (suc (suc b)) (suc slot) j (slot + 2) e claim_e (left (right ff)) fits.1 (has_value role.Taken tt _ _ (right (right ff)))))
          (two_of m n defined
          (left_stands m n defined (suc b) (hold n (suc (suc b)) (suc slot)) (row_hold (row_none n (suc (suc (suc b))) (suc (suc slot)))) scene.low)
          (right_stands m n defined (suc b) (hold n (suc b) slot w)))
      by (right_side.Constant u) q =
          bounded (right_side.Constant u)
          (two_args m n defined a e (omega arith) (omega arith) scene
          (coded m n defined (suc b) slot i (slot + 2) a claim_a (left (left ff)) fits.0 (has_value role.Taken tt _ _ (right (left ff))))
          (bare_arg m n defined (suc (suc b)) (suc slot) j (slot + 2) e (bare_index bound_test e u q)))
          (λ s. left_stands m n defined (suc b) (λ v. v) (row_more (row_none n (suc (suc (suc b))) (suc (suc slot)))) scene.low (one_number m n s))
