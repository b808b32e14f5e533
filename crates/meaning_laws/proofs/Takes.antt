-- How many units the parts of a function take at most, between two of its calls, raises and exits: the steps.
use Rattle.std.proofs.Common.{ℕ, zero, suc, ◌+◌, ◌≤◌, Bool, true, false, cond, List, [], ◌∷◌, Option, Some, None, Result, Ok, Err, map, arith}
use Rattle.std.specs.List.{slice_get}
use Rattle.bs_words.specs.External.{External}
use Rattle.bs_words.specs.Fits.{fits, misfit, type_of_comp}
use Rattle.bs_words.specs.Memory.{Memory}
use Rattle.bs_words.specs.declared.types.Comp.{Comp}
use Rattle.bs_words.specs.declared.types.Ret.{Ret}
use Rattle.bs_words.specs.declared.types.Ret.TheVariants as ret
use Rattle.bs_words.specs.declared.types.Ty.{Ty}
use Rattle.bs_words.specs.declared.types.Ty.TheVariants as ty
use Rattle.bs_words.specs.declared.values.Kind.{Kind}
use Rattle.bs_words.specs.declared.values.Kind.TheVariants.{BadValue, BadCall, SwitchRange}
use Rattle.bs_words.specs.declared.values.Value.{Value}
use Rattle.bs_words.specs.declared.values.Value.TheVariants as value
use Rattle.cmm_tree.specs.Tree.{LabelTree, Parameter, Expression}
use Rattle.cmm_types.specs.Types.{type_of}
use Rattle.cmm_meaning.specs.State.{Doing, Gave, Threw, Here, scope, back_in}
use Rattle.cmm_meaning.specs.Choices.{Ready, Chosen, case_for}
use Rattle.cmm_meaning.specs.Evaluation.{scoped_parameter, with_bound, fit_parameters, call_from}
use Rattle.meaning_laws.specs.Does.{Leaves, Giving, Exiting, Raising, Does}
use Rattle.cmm_meaning.specs.Setting.{Setting}
use Rattle.meaning_laws.specs.Interaction.{Part, Operand, from, onward, and_then, only_value, with_value, proper, tested, of_type, typed, both, unless_light, now_or_before, as_written, part_from_call, called_with, applied, entered, scope_restored, handled, out_of_turns, catching, chosen, looked_up, node_part}
use Rattle.meaning_laws.specs.Interaction as parts
use Rattle.meaning_laws.specs.Pace.{Paced, ends, pays, deepens, jumps, calls, calls_out, fails, spent}
use Rattle.meaning_laws.proofs.Choices.{EachCase, OneCase, no_chosen, a_chosen, case_holds, EachHandler, OneHandler, no_ready, a_ready, ready_holds}

pub paced_more : {most : ℕ} {m : ℕ} (n : ℕ) {d : Does} → m ≤ n → Paced most m d → Paced most n d
paced_more n le ends = ends
paced_more zero le (pays p) = absurd (omega arith)
paced_more (suc n) le (pays p) = pays (paced_more n (omega arith) p)
paced_more n le (deepens p) = deepens (paced_more n le p)
paced_more n le (jumps p) = jumps p
paced_more n le (calls p) = calls p
paced_more n le (calls_out p q) = calls_out (λ v after. paced_more n le (p v after)) q
paced_more n le fails = fails
paced_more n le spent = spent

-- where a part gives something, what follows pays so many units at first; an exit or a raise has begun anew
pub record Follows {A : Type 0} (most : ℕ) (left : A → ℕ) (k : Leaves A → Does) : Type 0 where
  pub giving : (a : A) (h : Here) (m : Memory) → left a ≤ most → Paced most (left a) (k (Giving a h m))
  pub exiting : (label : LabelTree) (values : List Value) (h : Here) (m : Memory) → Paced most most (k (Exiting label values h m))
  pub raising : (v : Value) (h : Here) (m : Memory) → Paced most most (k (Raising v h m))

-- of so many units a part leaves so many where it gives something, and of more units as many more
pub record Takes {A : Type 0} (most n : ℕ) (left : A → ℕ) (part : Part A) : Type 0 where
  pub paced : (r : ℕ) (k : Leaves A → Does) → n + r ≤ most → Follows most (λ a. left a + r) k → Paced most (n + r) (part k)

-- so does a part that begins after a call or a jump
pub record After {A : Type 0} (most n : ℕ) (left : A → ℕ) (part : Part A) : Type 0 where
  pub paced : (r : ℕ) (k : Leaves A → Does) → n + r ≤ most → Follows most (λ a. left a + r) k → Paced most most (part k)

pub after_takes : {A : Type 0} {most n : ℕ} {left : A → ℕ} {part : Part A} → Takes most n left part → After most n left part
after_takes {most = most} p = record { paced = λ r k le q. paced_more most le (p.paced r k le q) }

-- ---- parts that pay nothing

pub takes_gives : {A : Type 0} {most n : ℕ} {left : A → ℕ} (a : A) (h : Here) (m : Memory) → left a ≤ n → Takes most n left (parts.gives a h m)
takes_gives {n = n} a h m p = record { paced = λ r k le q. paced_more (n + r) (omega arith) (q.giving a h m (omega arith)) }

pub takes_fails : {A : Type 0} {most n : ℕ} {left : A → ℕ} (kind : Kind) (m : Memory) → Takes {A = A} most n left (parts.fails kind m)
takes_fails kind m = record { paced = λ r k le q. fails }

pub after_exits : {A : Type 0} {most n : ℕ} {left : A → ℕ} (label : LabelTree) (values : List Value) (h : Here) (m : Memory) →
    After {A = A} most n left (parts.exits label values h m)
after_exits label values h m = record { paced = λ r k le q. q.exiting label values h m }

pub after_raises : {A : Type 0} {most n : ℕ} {left : A → ℕ} (v : Value) (h : Here) (m : Memory) → After {A = A} most n left (parts.raises v h m)
after_raises v h m = record { paced = λ r k le q. q.raising v h m }

takes_spent : {A : Type 0} {most n : ℕ} {left : A → ℕ} (m : Memory) → Takes {A = A} most n left (parts.spent m)
takes_spent m = record { paced = λ r k le q. spent }

pub takes_jumps : {A : Type 0} {most n : ℕ} {left : A → ℕ} {part : Part A} → After most n left part → Takes most n left (parts.jumps part)
takes_jumps p = record { paced = λ r k le q. jumps (p.paced r k le q) }

pub takes_deepens : {A : Type 0} {most n : ℕ} {left : A → ℕ} {part : Part A} (bytes : ℕ) → Takes most n left part → Takes most n left (parts.deepens bytes part)
takes_deepens bytes p = record { paced = λ r k le q. deepens (p.paced r k le q) }

-- ---- what follows

pub takes_frame : {A : Type 0} {most m n : ℕ} {mid left : A → ℕ} {part : Part A} (f : ℕ) → Takes most m mid part → m + f ≤ n →
    ((a : A) → left a ≤ mid a + f) → Takes most n left part
takes_frame {n = n} {mid = mid} {left = left} f p fits small =
    record {
      paced = λ r k le q. paced_more (n + r) (omega arith)
          (p.paced (f + r) k (omega arith)
          (record {
            giving = λ a h m at_most. let s : left a ≤ mid a + f = small a in paced_more (mid a + (f + r)) (omega arith) (q.giving a h m (omega arith));
            exiting = q.exiting;
            raising = q.raising;
          }));
    }

-- a part that leaves nothing, where more is to come
pub takes_first : {A : Type 0} {most m n : ℕ} {part : Part A} (f : ℕ) → Takes most m (λ _. 0) part → m + f ≤ n → Takes most n (λ _. f) part
takes_first f p fits = takes_frame f p fits (λ a. omega arith)

pub takes_more : {A : Type 0} {most m n : ℕ} {left : A → ℕ} {part : Part A} → Takes most m left part → m ≤ n → Takes most n left part
takes_more p fits = takes_frame 0 p (omega arith) (λ a. omega arith)

pub takes_from : {A B : Type 0} {most n i j : ℕ} {mid : A → ℕ} {left : B → ℕ} {part : Part A} {go : Leaves A → Part B} → Takes most n mid part →
    i ≤ n → j ≤ n → ((a : A) (h : Here) (m : Memory) → Takes most (mid a) left (go (Giving a h m))) →
    ((label : LabelTree) (values : List Value) (h : Here) (m : Memory) → After most i left (go (Exiting label values h m))) →
    ((v : Value) (h : Here) (m : Memory) → After most j left (go (Raising v h m))) → Takes most n left (from part go)
takes_from {go = go} p is js on_giving on_exiting on_raising =
    record {
      paced = λ r k le q. p.paced r (λ l. go l k) le
          (record {
            giving = λ a h m at_most. let s = on_giving a h m in s.paced r k at_most q;
            exiting = λ label values h m. let s = on_exiting label values h m in s.paced r k (omega arith) q;
            raising = λ v h m. let s = on_raising v h m in s.paced r k (omega arith) q;
          });
    }

pub takes_then : {A B : Type 0} {most n : ℕ} {mid : A → ℕ} {left : B → ℕ} {part : Part A} {go : A → Here → Memory → Part B} → Takes most n mid part →
    ((a : A) (h : Here) (m : Memory) → Takes most (mid a) left (go a h m)) → Takes most n left (and_then part go)
takes_then {go = go} p on_giving =
    takes_from {i = 0} {j = 0} {go = onward go} p (omega arith) (omega arith) on_giving after_exits after_raises

takes_only : {B : Type 0} {most n : ℕ} {left : B → ℕ} (v : Option Value) (go : Value → Here → Memory → Part B) (h : Here) (m : Memory) →
    ((a : Value) → Takes most n left (go a h m)) → Takes most n left (only_value v go h m)
takes_only None go h m p = takes_fails BadValue m
takes_only (Some a) go h m p = p a

pub takes_value : {B : Type 0} {most m n mid : ℕ} {left : B → ℕ} {part : Part (Option Value)} {go : Value → Here → Memory → Part B} →
    Takes most m (λ _. 0) part → m + mid ≤ n → ((a : Value) (h : Here) (m : Memory) → Takes most mid left (go a h m)) →
    Takes most n left (with_value part go)
takes_value {mid = mid} {go = go} p fits on_value = takes_then (takes_first mid p fits) (λ v h m. takes_only v go h m (λ a. on_value a h m))

pub takes_cond : {A : Type 0} {most n : ℕ} {left : A → ℕ} (b : Bool) {x y : Part A} → Takes most n left x → Takes most n left y →
    Takes most n left (cond b x y)
takes_cond true p q = p
takes_cond false p q = q

pub takes_proper : {A B : Type 0} {most n : ℕ} {left : B → ℕ} (r : Result A Kind) (m : Memory) {go : A → Part B} →
    ((a : A) → Takes most n left (go a)) → Takes most n left (proper r m go)
takes_proper (Ok a) m p = p a
takes_proper (Err kind) m p = takes_fails kind m

pub takes_tested : {A : Type 0} {most n : ℕ} {left : A → ℕ} (end : ℕ) (type : Ty) (v : Value) (m : Memory) {part : Part A} →
    Takes most n left part → Takes most n left (tested end type v m part)
takes_tested end type v m p = takes_cond (fits end type v) p (takes_fails (misfit type) m)

takes_type : {most : ℕ} (end : ℕ) (type : Ty) (v : Option Value) (h : Here) (m : Memory) → Takes most 0 (λ _. 0) (of_type end type v h m)
takes_type end ty.NoValue v h m = takes_gives None h m (omega arith)
takes_type end ty.Never (Some v) h m = takes_fails (misfit ty.Never) m
takes_type end ty.Int (Some v) h m = takes_tested end ty.Int v m (takes_gives (Some v) h m (omega arith))
takes_type end ty.Val (Some v) h m = takes_tested end ty.Val v m (takes_gives (Some v) h m (omega arith))
takes_type end ty.Addr (Some v) h m = takes_gives (Some v) h m (omega arith)
takes_type end ty.Never None h m = takes_fails BadValue m
takes_type end ty.Int None h m = takes_fails BadValue m
takes_type end ty.Val None h m = takes_fails BadValue m
takes_type end ty.Addr None h m = takes_fails BadValue m

takes_typed : {most n : ℕ} (end : ℕ) (type : Ty) {part : Part (Option Value)} → Takes most n (λ _. 0) part → Takes most n (λ _. 0) (typed end type part)
takes_typed end type p = takes_then p (λ v h m. takes_type end type v h m)

pub takes_node : {most n : ℕ} (c : Setting) (e : Expression) (h : Here) (m : Memory) {part : Part (Option Value)} → Takes most n (λ _. 0) part →
    Takes most (suc n) (λ _. 0) (node_part c e h m part)
takes_node {most} {n} c e h m {part} p =
    let typed_part : Takes most n (λ _. 0) (typed c.end (type_of (scope h) e) part) = takes_typed c.end (type_of (scope h) e) p in
    record { paced = λ r k le q. paced_more (suc n + r) (omega arith) (pays (typed_part.paced r k (omega arith) q)) }

pub takes_looked : {most : ℕ} (o : Option Value) (h : Here) (m : Memory) → Takes most 0 (λ _. 0) (looked_up o h m)
takes_looked (Some v) h m = takes_gives (Some v) h m (omega arith)
takes_looked None h m = takes_fails BadValue m

-- ---- operands

pub takes_both : {B : Type 0} {most i j n mid : ℕ} {left : B → ℕ} (t : Bool) {first second : Operand} (h : Here) (m : Memory)
    {go : Value → Value → Here → Memory → Part B} →
    ((h : Here) (m : Memory) → Takes most i (λ _. 0) (first h m)) → ((h : Here) (m : Memory) → Takes most j (λ _. 0) (second h m)) →
    i + j + mid ≤ n → ((a b : Value) (h : Here) (m : Memory) → Takes most mid left (go a b h m)) →
    Takes most n left (both t first second h m go)
takes_both {i = i} {mid = mid} false h m p q fits r =
    takes_value {mid = i + mid} (q h m) (omega arith) (λ b h m. takes_value (p h m) (omega arith) (λ a h m. r a b h m))
takes_both {j = j} {mid = mid} true h m p q fits r =
    takes_value {mid = j + mid} (p h m) (omega arith) (λ a h m. takes_value (q h m) (omega arith) (λ b h m. r a b h m))

-- the units of an operand that has waited
abbrev pub waits : ℕ → Option Value → ℕ
waits n (Some v) = 0
waits n None = n

pub takes_unless : {B : Type 0} {most i n : ℕ} (mid : ℕ) {left : B → ℕ} (light : Bool) {operand : Operand} (h : Here) (m : Memory)
    {go : Option Value → Here → Memory → Part B} → ((h : Here) (m : Memory) → Takes most i (λ _. 0) (operand h m)) → i + mid ≤ n →
    ((v : Option Value) (h : Here) (m : Memory) → Takes most (waits i v + mid) left (go v h m)) →
    Takes most n left (unless_light light operand h m go)
takes_unless mid true h m p fits q = takes_more (q None h m) (omega arith)
takes_unless mid false h m p fits q =
    takes_value {mid = mid} (p h m) (omega arith) (λ v h m. takes_more (q (Some v) h m) (omega arith))

pub takes_now : {B : Type 0} {most i n mid : ℕ} {left : B → ℕ} (before : Option Value) {operand : Operand} (h : Here) (m : Memory)
    {go : Value → Here → Memory → Part B} → ((h : Here) (m : Memory) → Takes most i (λ _. 0) (operand h m)) → waits i before + mid ≤ n →
    ((v : Value) (h : Here) (m : Memory) → Takes most mid left (go v h m)) → Takes most n left (now_or_before before operand h m go)
takes_now (Some v) h m p fits q = takes_more (q v h m) (omega arith)
takes_now {mid = mid} None h m p fits q = takes_value (p h m) fits q

-- ---- calls

takes_written : {most : ℕ} (result : Ret) (v : Option Value) (h : Here) (m : Memory) → Takes most 0 (λ _. 0) (as_written result v h m)
takes_written ret.Unit v h m = takes_gives None h m (omega arith)
takes_written (ret.Comp c) (Some v) h m = takes_gives (Some v) h m (omega arith)
takes_written (ret.Comp c) None h m = takes_fails BadCall m

after_call : {most : ℕ} (result : Ret) (h : Here) (d : Doing) → After most 0 (λ _. 0) (part_from_call result h d)
after_call result h (Gave v m) = after_takes (takes_written result v h m)
after_call result h (Threw v m) = after_raises v h m

takes_called : {most : ℕ} (c : Setting) (o : Option (List Comp)) (f : ℕ) (arguments : List Value) (result : Ret) (tail : Bool) (h : Here) (m : Memory) →
    Takes most 0 (λ _. 0) (called_with c o f arguments result tail h m)
takes_called c None f arguments result tail h m = takes_fails BadCall m
takes_called {most} c (Some comps) f arguments result tail h m =
    let calling : Takes most 0 (λ _. 0) (parts.calls (call_from f arguments tail h) result h m) =
    record { paced = λ r k le q. calls (λ d. let p : After most 0 (λ _. 0) (part_from_call result h d) = after_call result h d in p.paced r k le q) } in
    takes_cond (fit_parameters c.end comps arguments) calling (takes_fails BadCall m)

pub takes_applied : {most : ℕ} (c : Setting) (f : Value) (arguments : List Value) (result : Ret) (tail : Bool) (h : Here) (m : Memory) →
    Takes most 0 (λ _. 0) (applied c f arguments result tail h m)
takes_applied c (value.Word word) arguments result tail h m = takes_fails BadCall m
takes_applied c (value.Block serial offset) arguments result tail h m = takes_fails BadCall m
takes_applied c (value.Function f) arguments result tail h m = takes_called c (slice_get c.parameters f) f arguments result tail h m

pub takes_called_out : {most : ℕ} (row : External) (frame : Bool) (arguments : List Value) (h : Here) (m : Memory) →
    Takes most 0 (λ _. 0) (parts.calls_out row frame arguments h m)
takes_called_out {most} row frame arguments h m =
    record {
      paced = λ r k le q. calls_out
          (λ v after. let p : Takes most 0 (λ _. 0) (as_written row.result v h after) = takes_written row.result v h after in p.paced r k le q)
          (λ v after. q.raising v h after);
    }

-- ---- cases

-- an operand, wherever it is evaluated
abbrev pub Taking : ℕ → ℕ → Operand → Type 0
Taking most n operand = (h : Here) (m : Memory) → Takes most n (λ _. 0) (operand h m)

takes_chosen : {most n : ℕ} {o : Option (Chosen Operand)} → OneCase (Taking most n) o → (h : Here) (m : Memory) → Takes most n (λ _. 0) (chosen o h m)
takes_chosen no_chosen h m = takes_fails SwitchRange m
takes_chosen (a_chosen p) h m = p h m

pub takes_case : {most n : ℕ} {cases : List (Chosen Operand)} (k : ℕ) → EachCase (Taking most n) cases → (h : Here) (m : Memory) →
    Takes most n (λ _. 0) (chosen (case_for cases k) h m)
takes_case k l h m = takes_chosen (case_holds k l) h m

pub more_taken : {most i n : ℕ} → i ≤ n → (operand : Operand) → Taking most i operand → Taking most n operand
more_taken le operand p h m = takes_more (p h m) le

-- ---- handlers

takes_entered : {most n : ℕ} (end : ℕ) (params : List Parameter) (values : List Value) (m : Memory) {part : Part (Option Value)} →
    Takes most n (λ _. 0) part → Takes most n (λ _. 0) (entered end params values m part)
takes_entered end [] [] m p = p
takes_entered end [] (v ∷ values) m p = takes_fails BadCall m
takes_entered end (q ∷ params) [] m p = takes_fails BadCall m
takes_entered end (q ∷ params) (v ∷ values) m p = takes_tested end (type_of_comp q.comp) v m (takes_entered end params values m p)

pub takes_back : {most n : ℕ} (level tries : ℕ) {part : Part (Option Value)} → Takes most n (λ _. 0) part → Takes most n (λ _. 0) (scope_restored level tries part)
takes_back level tries p = takes_then p (λ v h m. takes_gives v (back_in level tries h) m (omega arith))

after_handled : {most n : ℕ} (end : ℕ) {o : Option (Ready Operand)} → OneHandler (Taking most n) o → (level tries : ℕ) (label : LabelTree) (values : List Value)
    (h : Here) (m : Memory) (again : Leaves (Option Value) → Part (Option Value)) →
    ((v : Option Value) (h : Here) (m : Memory) → Takes most 0 (λ _. 0) (again (Giving v h m))) →
    ((label : LabelTree) (values : List Value) (h : Here) (m : Memory) → After most n (λ _. 0) (again (Exiting label values h m))) →
    ((v : Value) (h : Here) (m : Memory) → After most n (λ _. 0) (again (Raising v h m))) →
    After most n (λ _. 0) (handled end o label values level tries h m again)
after_handled end no_ready level tries label values h m again on_giving on_exiting on_raising = after_exits label values h m
after_handled end (a_ready {a} p) level tries label values h m again on_giving on_exiting on_raising =
    let inside : Here = back_in level tries h in
    after_takes (takes_from {go = again}
    (takes_entered end a.params values m (takes_back level tries (p (with_bound (map scoped_parameter a.params) values inside) m)))
    (omega arith) (omega arith) on_giving on_exiting on_raising)

after_out : {most n : ℕ} (end : ℕ) {o : Option (Ready Operand)} → OneHandler (Taking most n) o → (label : LabelTree) (values : List Value) (h : Here) (m : Memory) →
    After most n (λ _. 0) (out_of_turns end o label values h m)
after_out end no_ready label values h m = after_exits label values h m
after_out end (a_ready {a} p) label values h m = after_takes (takes_entered end a.params values m (takes_spent m))

-- a catch, from how its body, or one of its handlers, is left by an exit
pub after_catching : {most n : ℕ} (end turns : ℕ) (within : Bool) {handlers : List (Ready Operand)} → EachHandler (Taking most n) handlers → (level tries : ℕ)
    (label : LabelTree) (values : List Value) (h : Here) (m : Memory) →
    After most n (λ _. 0) (catching end turns within handlers level tries (Exiting label values h m))
after_catching end zero within l level tries label values h m = after_out end (ready_holds within label l) label values h m
after_catching end (suc turns) within {handlers = handlers} l level tries label values h m =
    after_handled end (ready_holds within label l) level tries label values h m (catching end turns true handlers level tries)
    (λ v h m. takes_gives v h m (omega arith))
    (λ label values h m. after_catching end turns true l level tries label values h m)
    (λ v h m. after_raises v h m)
