-- Branches: conditions, switches, handlers of exits and of raises.
use Rattle.std.proofs.Common.{◌≡◌, ℕ, zero, suc, ◌+◌, ◌-◌, ◌<◌, ◌≤◌, Bool, true, false, cond, List, [], ◌∷◌, Option, refl, sym, ap, ◌∙◌, subst, arith}
use Rattle.std.specs.Prelude.{map, Contains}
use Rattle.std.proofs.lemmas.Bool.{eq-eqb}
use Rattle.bs_words.specs.declared.types.Ty.{Ty}
use Rattle.bs_words.specs.declared.types.Ty.TheVariants as ty
use Rattle.bs_fault.specs.Reported.{Faultless}
use Rattle.cmm_tree.specs.Symbols.{DefinedSymbol}
use Rattle.cmm_tree.specs.Tree.{Expression, Index, Cases, NoCase, Choose}
use Rattle.cmm_types.proofs.Containing.{contains_head, contains_tail}
use Rattle.cmm_types.specs.Standing.{Visible}
use Rattle.cmm_types.specs.Gathered.{cases_faults}
use Rattle.cmm_types.specs.Types.{type_without_float, type_of_cases, join}
use Rattle.walk_tables.specs.Walks.{Task, Evaluates, Slotted, bodies}
use Rattle.mach_ir.specs.Acts.{Target, On, At}
use Rattle.mach_ir.specs.Meaning.{passes_frame, after_label, code_at, tries_at}
use Rattle.mach_ir.specs.Walks.{AmongRegisters, this, other, targets, may_raise}
use Rattle.mach_ir.specs.Walks as mach
use Rattle.mach_ir.specs.declared.mach.Instr.{Instr}
use Rattle.mach_ir.specs.declared.mach.Mach.{Mach}
use Rattle.mach_ir.specs.declared.mach.Mark.{Mark}
use Rattle.mach_ir.specs.declared.mach.Mark.TheVariants as mark
use Rattle.mach_ir.specs.declared.reg.Reg.{Reg}
use Rattle.selection_rules.specs.Instructions.{bare_mark}
use Rattle.selection_rules.specs.Select.{NamedRegister, Label, scopes, count_cases, width, switch_labels, label_of_last_case, select_cases}
use Rattle.selection_rules.proofs.Parts.{Within, Placed, placed_in, placed_next, WellLabelled}
use Rattle.selection_rules.proofs.Endings.{ending_select, ending_cases}
use Rattle.selection_laws.proofs.Accepting.{left, right}
use Rattle.selection_laws.specs.Fits.{CasesFit}
use Rattle.selection_walks.proofs.Phases.{Phase, Bound, Passed, Ahead, more_steps, Marked, read_there, moved_on, marked, Told}
use Rattle.selection_walks.proofs.Situations.{OutsOf, Sit, sit, go, no_among, out, Wanted, ApartFrom}
use Rattle.selection_walks.proofs.Operands.{Scene, at_more, Claim, of_claim}

pub on_target : (u : Target) → mach.OneOf u (On ∷ []) → u ≡ On
on_target u this = refl
on_target u (other o) = elim o [ ]

pub at_target : (u : Target) (l : ℕ) → mach.OneOf u (At l ∷ []) → u ≡ At l
at_target u l this = refl
at_target u l (other o) = elim o [ ]

module _ (m : Mach) (n : ℕ) where
  -- an instruction that writes nothing goes to one of its targets
  pub fork_sit : {k : ℕ} {ts : List ℕ} {labels : List Label} {w v : Option ℕ} {next : List Instr} {mid more : List Task} (i : Instr) → i.results ≡ [] →
      may_raise i.op ≡ false → passes_frame i.op ≡ false →
      (Placed m ts (i ∷ next) → (u : Target) → mach.OneOf u (targets i.op) → (p : Phase) → Ahead m n k p (code_at m.code next u) → Told p w mid) →
      (AmongRegisters n i.args → Told Passed v more) → ((p : Phase) → Told p w mid → Told p v more) → OutsOf m n k v ts labels more →
      Sit m n [] k v ts labels (i ∷ next) more
  fork_sit {k} {ts} {w = w} {v = v} {next = next} {mid = mid} {more = more} i e mr pf there reads pre o =
      sit m n (λ placed p z. by k p (there placed) (marked e mr pf z)) o
    where
      by : (k : ℕ) (p : Phase) → ((u : Target) → mach.OneOf u (targets i.op) → (p : Phase) → Ahead m n k p (code_at m.code next u) → Told p w mid) →
          Marked m n i next k p → Told p v more
      by k p f (read_there a) = reads a
      by k p f (moved_on u q y) = pre p (f u q p (more_steps y))

  -- a mark that goes to one place
  pub jump_sit : {D : List Reg} {k : ℕ} {ts : List ℕ} {labels : List Label} {w : Option ℕ} {code to : List Instr} {tasks : List Task} (f : Mark) (u : Target) →
      targets (bare_mark f).op ≡ u ∷ [] → (Placed m ts (bare_mark f ∷ code) → (code_at m.code code u ≡ to) × Placed m ts to) →
      Sit m n D k w ts labels to tasks → Sit m n D k w ts labels (bare_mark f ∷ code) tasks
  jump_sit {D} {k} {ts} {w = w} {code = code} {to = to} {tasks = tasks} f u e there x =
      record {
        cont = λ placed p o z. by k p (λ y. x.cont (there placed).1 p o (subst (Ahead m n k p) (there placed).0 y)) (marked refl refl refl z);
        given = λ placed o z. by k Bound (λ y. x.given (there placed).1 o (subst (Ahead m n k Bound) (there placed).0 y)) (marked refl refl refl z);
        outs = x.outs;
      }
    where
      the_one : (v : Target) → mach.OneOf v (u ∷ []) → v ≡ u
      the_one v this = refl
      the_one v (other o) = elim o [ ]

      by : {Q : Type 0} (k : ℕ) (p : Phase) → (Ahead m n k p (code_at m.code code u) → Q) → Marked m n (bare_mark f) code k p → Q
      by k p g (read_there a) = absurd (no_among m n a)
      by k p g (moved_on {k = j} v q y) = g (more_steps (subst (λ s. Ahead m n j p (code_at m.code code s)) (the_one v (subst (mach.OneOf v) e q)) y))

  pub end_sit : {D : List Reg} {k : ℕ} {ts : List ℕ} {labels : List Label} {w : Option ℕ} {next : List Instr} {tasks : List Task} (l : ℕ) →
      Sit m n D k w ts labels next tasks → Sit m n D k w ts labels (bare_mark (mark.End l) ∷ next) tasks
  end_sit l x = jump_sit (mark.End l) On refl (λ placed. (refl, placed_next refl placed)) x

  -- a mark that goes after the end of its form
  pub past_sit : {D : List Reg} {k : ℕ} {ts : List ℕ} {labels : List Label} {w : Option ℕ} {code next : List Instr} {tasks : List Task} (f : Mark) (end : ℕ) →
      WellLabelled m → targets (bare_mark f).op ≡ At end ∷ [] → ((c : List Instr) → tries_at (bare_mark f ∷ c) ≡ tries_at c) → Within (bare_mark (mark.End end) ∷ next) code →
      Sit m n D k w ts labels next tasks → Sit m n D k w ts labels (bare_mark f ∷ code) tasks
  past_sit {code = code} f end labelled e tr inside x =
      jump_sit f (At end) e (λ placed. let below = placed_in inside (placed_next (tr code) placed) in
      (labelled.behind_is end _ _ below.ending (eq-eqb end end refl), placed_next refl below)) x

  -- ---- switches

  module _ (defined : List ℕ → Option DefinedSymbol) (labelled : WellLabelled m) where
    -- the code of cases, before which none is chosen
    pub cases_sit : {D : List Reg} {k : ℕ} {ts : List ℕ} {labels : List Label} {w : Option ℕ} {next : List Instr} {tasks : List Task} (env : List NamedRegister)
        (valued tail : Bool) (d : Reg) (ls : List ℕ) (end l b : ℕ) (cs : Cases) → Sit m n D k w ts labels next tasks →
        Sit m n D k w ts labels (select_cases env labels valued tail d ls end l b cs (bare_mark (mark.End end) ∷ next)) tasks
    cases_sit env valued tail d ls end l b NoCase x = end_sit end x
    cases_sit {labels = labels} env valued tail d ls end l b (Choose indexes body rest) x =
        past_sit (mark.Case _ l end) end labelled refl (λ c. refl)
        (Rattle.selection_rules.proofs.Parts.inside_in (ending_cases env labels valued tail d ls end (suc l) (b + width body) rest _)
        (ending_select env labels valued tail d b body _)) x

    -- what is said of one of these
    pub record OneTold (p : Phase) (w : Option ℕ) (scope : List Slotted) (slot : ℕ) (es : List Expression) (tasks : List Task) : Type 0 where
      pub e : Expression
      pub among : Contains es e
      pub told : Told p w (Evaluates scope slot e ∷ tasks)

    abbrev pub Chooses : Cases → Type 0
    Chooses cs =
        (want : Bool) (k : ℕ) (ts : List ℕ) (w : Option ℕ) (b slot : ℕ) (env : List NamedRegister) (scope : List Slotted) (labels : List Label) (vis : List Visible)
        (next : List Instr) (tasks : List Task) (valued tail : Bool) (d : Reg) (ls : List ℕ) (end l : ℕ) → Scene m n w b slot env scope labels vis →
        Faultless (cases_faults defined (scopes env) vis cs) → CasesFit (scopes env) cs → Wanted m n want (type_of_cases (scopes env) cs) → ApartFrom m n d w →
        d.number < b → Sit m n (out m n want d) k w ts labels next tasks →
        Placed m ts (select_cases env labels valued tail d ls end l b cs (bare_mark (mark.End end) ∷ next)) → (j : ℕ) → j < count_cases cs → (p : Phase) →
        Ahead m n k p (after_label (l + j) m.code) → OneTold p w scope slot (bodies cs) tasks

    pub no_cases : Chooses NoCase
    no_cases want k ts w b slot env scope labels vis next tasks valued tail d ls end l at ff fits value apart below x placed j less p z =
        absurd (omega (arith, less))

    join_first : (a b : Ty) → a ≡ ty.NoValue → join a b ≡ ty.NoValue
    join_first a ty.Never e = subst (λ t. join t ty.Never ≡ ty.NoValue) (sym e) refl
    join_first a ty.NoValue e = subst (λ t. join t ty.NoValue ≡ ty.NoValue) (sym e) refl
    join_first a ty.Int e = subst (λ t. join t ty.Int ≡ ty.NoValue) (sym e) refl
    join_first a ty.Val e = subst (λ t. join t ty.Val ≡ ty.NoValue) (sym e) refl
    join_first a ty.Addr e = subst (λ t. join t ty.Addr ≡ ty.NoValue) (sym e) refl

    join_second : (a b : Ty) → b ≡ ty.NoValue → join a b ≡ ty.NoValue
    join_second ty.Never b e = subst (λ t. join ty.Never t ≡ ty.NoValue) (sym e) refl
    join_second ty.NoValue b e = subst (λ t. join ty.NoValue t ≡ ty.NoValue) (sym e) refl
    join_second ty.Int b e = subst (λ t. join ty.Int t ≡ ty.NoValue) (sym e) refl
    join_second ty.Val b e = subst (λ t. join ty.Val t ≡ ty.NoValue) (sym e) refl
    join_second ty.Addr b e = subst (λ t. join ty.Addr t ≡ ty.NoValue) (sym e) refl

    pub wanted_first : (want : Bool) (a b : Ty) → Wanted m n want (join a b) → Wanted m n want a
    wanted_first true a b g = λ e. g (join_first a b e)
    wanted_first false a b g = tt

    pub wanted_second : (want : Bool) (a b : Ty) → Wanted m n want (join a b) → Wanted m n want b
    wanted_second true a b g = λ e. g (join_second a b e)
    wanted_second false a b g = tt

    pub more_cases : (indexes : List Index) (body : Expression) (rest : Cases) → ((want : Bool) → Claim m n defined want body) → Chooses rest →
        Chooses (Choose indexes body rest)
    more_cases indexes body rest claim others want k ts w b slot env scope labels vis next tasks valued tail d ls end l at ff fits value apart below x placed zero less p z =
        let inner = placed_next refl placed in
        let e : l ≡ l + zero = omega arith in
        record {
          e = body;
          among = contains_head body (bodies rest);
          told = go m n (of_claim m n defined want body (claim want) valued tail d at (left ff) fits.0
              (wanted_first want (type_without_float (scopes env) body) (type_of_cases (scopes env) rest) value) apart below
              (cases_sit env valued tail d ls end (suc l) (b + width body) rest x)) inner p
              (subst (Ahead m n k p) (ap (λ i. after_label i m.code) (sym e) ∙ labelled.behind_is l _ _ placed.ending (eq-eqb l l refl)) z);
        }
    more_cases indexes body rest claim others want k ts w b slot env scope labels vis next tasks valued tail d ls end l at ff fits value apart below x placed
        (suc j) less p z =
        let inner = placed_next refl placed in
        let e : suc l + j ≡ l + suc j = omega arith in
        let told = others want k ts w (b + width body) slot env scope labels vis next tasks valued tail d ls end (suc l) (at_more m n (omega arith)
        (omega arith) at) (right ff) fits.1 (wanted_second want (type_without_float (scopes env) body) (type_of_cases (scopes env) rest) value) apart
        (omega (arith, below)) x
        (placed_in (ending_select env labels valued tail d b body _) inner) j (omega (arith, less)) p
        (subst (λ i. Ahead m n k p (after_label i m.code)) (sym e) z) in
        record { e = told.e; among = contains_tail body (bodies rest) told.e told.among; told = told.told }

    pub record InLabels (u : Target) (lo hi : ℕ) : Type 0 where
      pub index : ℕ
      pub within : lo + index < hi
      pub is : u ≡ At (lo + index)

    last_in : (lo hi l : ℕ) (cs : Cases) (i so_far : ℕ) → lo ≤ so_far → so_far < hi → lo ≤ l → l + count_cases cs ≤ hi →
        (lo ≤ label_of_last_case l cs i so_far) × (label_of_last_case l cs i so_far < hi)
    last_in lo hi l NoCase i so_far a b c e = (a, b)
    last_in lo hi l (Choose indexes body rest) i so_far a b c e =
        by (Rattle.cmm_meaning.specs.Choices.is_named indexes i) (λ s x y. last_in lo hi (suc l) rest i s x y (omega (arith, c)) (omega (arith, e)))
      where
        by : (q : Bool) → ((s : ℕ) → lo ≤ s → s < hi → (lo ≤ label_of_last_case (suc l) rest i s) × (label_of_last_case (suc l) rest i s < hi)) →
            (lo ≤ label_of_last_case (suc l) rest i (cond q l so_far)) × (label_of_last_case (suc l) rest i (cond q l so_far) < hi)
        by true f = f l c (omega (arith, e))
        by false f = f so_far a b

    pub in_labels : (u : Target) (l : ℕ) (cs : Cases) (i size : ℕ) → 0 < count_cases cs → mach.OneOf u (map At (switch_labels l cs i size)) →
        InLabels u l (l + count_cases cs)
    in_labels u l cs i zero some o = elim o [ ]
    in_labels u l cs i (suc size) some this =
        let x = last_in l (l + count_cases cs) l cs i l (omega arith) (omega (arith, some)) (omega arith) (omega arith) in
        let lo = x.0 in let hi = x.1 in
        let e : label_of_last_case l cs i l ≡ l + (label_of_last_case l cs i l - l) = omega (arith, lo) in
        record { index = label_of_last_case l cs i l - l; within = omega (arith, lo, hi); is = ap At e }
    in_labels u l cs i (suc size) some (other o) = in_labels u l cs (suc i) size some o
