-- The parts of a function: what holds of all that functions do. The steps.
use Rattle.std.proofs.Common.{◌≡◌, ◌∙◌, ℕ, zero, suc, ◌+◌, ◌*◌, Bool, true, false, cond, List, [], ◌∷◌, Option, Some, None, Result, Ok, Err, map, refl, arith}
use Rattle.std.specs.List.{slice_get}
use Rattle.bs_words.specs.External.{External}
use Rattle.bs_words.specs.Fits.{fits, misfit, type_of_comp}
use Rattle.bs_words.specs.Memory.{Memory}
use Rattle.bs_words.specs.declared.types.Comp.{Comp}
use Rattle.bs_words.specs.declared.types.Comp.TheVariants as comp
use Rattle.bs_words.specs.declared.types.Ret.{Ret}
use Rattle.bs_words.specs.declared.types.Ret.TheVariants as ret
use Rattle.bs_words.specs.declared.types.Ty.{Ty}
use Rattle.bs_words.specs.declared.types.Ty.TheVariants as ty
use Rattle.bs_words.specs.declared.values.Kind.{Kind}
use Rattle.bs_words.specs.declared.values.Kind.TheVariants.{BadValue, BadCall, SwitchRange}
use Rattle.bs_words.specs.declared.values.Value.{Value}
use Rattle.bs_words.specs.declared.values.Value.TheVariants as value
use Rattle.cmm_tree.specs.Tree.{LabelTree, Parameter, Expression}
use Rattle.cmm_types.specs.Types.{type_of, result_of}
use Rattle.cmm_meaning.specs.Extends.{Extends}
use Rattle.cmm_meaning.specs.State.{Doing, Gave, Threw, Here, scope, back_in}
use Rattle.cmm_meaning.specs.Choices.{Ready, Chosen, case_for}
use Rattle.cmm_meaning.specs.Evaluation.{scoped_parameter, with_bound, fit_parameters, stack_below, call_from}
use Rattle.meaning_laws.specs.Does.{Leaves, Giving, Exiting, Raising, Does, Ends}
use Rattle.meaning_laws.specs.Interaction.{Part, Operand, from, onward, and_then, only_value, with_value, proper, tested, of_type, both, unless_light, now_or_before, part_from_call, called_with, applied, entered, scope_restored, handled, out_of_turns, catching, chosen, looked_up, node_part}
use Rattle.meaning_laws.specs.Interaction as parts
use Rattle.meaning_laws.specs.Fitting.{Activation, FitsResult, nothing, value as a_value, Returned, gave, threw, memory_after, FitsCallee, CallStands, OnlyTests, Lawful, gives, exits, raises, pays, deepens, jumps, calls, calls_out, fails, spent}
use Rattle.meaning_laws.specs.Fitting as fitting
use Rattle.meaning_laws.proofs.Choices.{EachCase, OneCase, no_chosen, a_chosen, case_holds, EachHandler, OneHandler, no_ready, a_ready, ready_holds}
use Rattle.meaning_laws.proofs.Extends.{extends_same, extends_trans, Extended, extended, no_memory}

pub lawful_before : {a : Activation} {before memory : Memory} {d : Does} → Extends before memory → Lawful a memory d → Lawful a before d
lawful_before e (gives fit p) = gives fit (extends_trans e p)
lawful_before e (exits p) = exits (extends_trans e p)
lawful_before e (raises fit p) = raises fit (extends_trans e p)
lawful_before e (pays p rest) = pays (extends_trans e p) rest
lawful_before e (deepens p) = deepens (lawful_before e p)
lawful_before e (jumps p) = jumps (lawful_before e p)
lawful_before e (calls p stands behind rest) = calls (extends_trans e p) stands behind rest
lawful_before e (calls_out p rest) = calls_out (extends_trans e p) rest
lawful_before e (fails p) = fails (extends_trans e p)
lawful_before e (spent p) = spent (extends_trans e p)

-- An activation of the function, in so many tries.
abbrev pub Stands : Activation → ℕ → Here → Type 0
Stands a tries h = (h.below ≡ a.below) × (h.frame ≡ a.frame) × (h.tries ≡ tries)

-- in as many as it is
pub stands_so : (a : Activation) (tries : ℕ) (h : Here) → Stands a tries h → Stands a h.tries h
stands_so a tries h st = (st.0, st.1, refl)

-- back in a scope
pub stands_back : (a : Activation) (inner tries level t : ℕ) (h : Here) → Stands a inner h → t ≡ tries → Stands a tries (back_in level t h)
stands_back a inner tries level t h st e = (st.0, st.1, e)

-- what follows a part that begins in a memory, in so many tries
pub record Follows {A : Type 0} (a : Activation) (tries : ℕ) (before : Memory) (k : Leaves A → Does) : Type 0 where
  pub giving : (x : A) (h : Here) (m : Memory) → Stands a tries h → Extends before m → Lawful a m (k (Giving x h m))
  pub exiting : (label : LabelTree) (values : List Value) (h : Here) (m : Memory) → Stands a h.tries h → Extends before m →
      Lawful a m (k (Exiting label values h m))
  pub raising : (v : Value) (h : Here) (m : Memory) → Stands a h.tries h → fits a.setting.end ty.Val v ≡ true → Extends before m →
      Lawful a m (k (Raising v h m))

follows_later : {A : Type 0} {a : Activation} {tries : ℕ} {before later : Memory} {k : Leaves A → Does} → Extends before later → Follows a tries before k →
    Follows a tries later k
follows_later e q =
    record {
      giving = λ x h m st p. q.giving x h m st (extends_trans e p);
      exiting = λ label values h m st p. q.exiting label values h m st (extends_trans e p);
      raising = λ v h m st fit p. q.raising v h m st fit (extends_trans e p);
    }

-- A part that begins in a memory, in so many tries, where something more holds of what follows.
pub record Keeps {A : Type 0} (a : Activation) (T : (Leaves A → Does) → Type 0) (tries : ℕ) (before : Memory) (part : Part A) : Type 0 where
  pub holds : (k : Leaves A → Does) → Follows a tries before k → T k → Lawful a before (part k)

-- anything may follow
abbrev pub Free : {A : Type 0} → (Leaves A → Does) → Type 0
Free k = Unit {0}

-- ---- how a part is left

pub keeps_after : {A : Type 0} {a : Activation} {T : (Leaves A → Does) → Type 0} {tries : ℕ} {before : Memory} (x : A) (h : Here) (m : Memory) →
    Stands a tries h → Extends before m → Keeps a T tries before (parts.gives x h m)
keeps_after x h m st e = record { holds = λ k q t. lawful_before e (q.giving x h m st e) }

pub keeps_gives : {A : Type 0} {a : Activation} {T : (Leaves A → Does) → Type 0} {tries : ℕ} (x : A) (h : Here) (m : Memory) →
    Stands a tries h → Keeps a T tries m (parts.gives x h m)
keeps_gives x h m st = keeps_after x h m st (extends_same m)

pub keeps_fails : {A : Type 0} {a : Activation} {T : (Leaves A → Does) → Type 0} {tries : ℕ} (kind : Kind) (m : Memory) → Keeps a T tries m (parts.fails kind m)
keeps_fails kind m = record { holds = λ k q t. fails (extends_same m) }

pub keeps_exits : {A : Type 0} {a : Activation} {T : (Leaves A → Does) → Type 0} {tries : ℕ} (label : LabelTree) (values : List Value) (h : Here) (m : Memory) →
    Stands a h.tries h → Keeps a T tries m (parts.exits label values h m)
keeps_exits label values h m st = record { holds = λ k q t. q.exiting label values h m st (extends_same m) }

pub keeps_raises : {A : Type 0} {a : Activation} {T : (Leaves A → Does) → Type 0} {tries : ℕ} (v : Value) (h : Here) (m : Memory) →
    Stands a h.tries h → fits a.setting.end ty.Val v ≡ true → Keeps a T tries m (parts.raises v h m)
keeps_raises v h m st fit = record { holds = λ k q t. q.raising v h m st fit (extends_same m) }

keeps_spent : {A : Type 0} {a : Activation} {T : (Leaves A → Does) → Type 0} {tries : ℕ} (m : Memory) → Keeps a T tries m (parts.spent m)
keeps_spent m = record { holds = λ k q t. spent (extends_same m) }

pub keeps_jumps : {A : Type 0} {a : Activation} {T : (Leaves A → Does) → Type 0} {tries : ℕ} {m : Memory} {part : Part A} → Keeps a T tries m part →
    Keeps a T tries m (parts.jumps part)
keeps_jumps p = record { holds = λ k q t. jumps (p.holds k q t) }

pub keeps_deepens : {A : Type 0} {a : Activation} {T : (Leaves A → Does) → Type 0} {tries : ℕ} {m : Memory} {part : Part A} (bytes : ℕ) → Keeps a T tries m part →
    Keeps a T tries m (parts.deepens bytes part)
keeps_deepens bytes p = record { holds = λ k q t. deepens (p.holds k q t) }

-- ---- what follows

pub keeps_from : {A B : Type 0} {a : Activation} {U : (Leaves A → Does) → Type 0} {T : (Leaves B → Does) → Type 0} {inner tries : ℕ} {before : Memory}
    {part : Part A} {go : Leaves A → Part B} → Keeps a U inner before part → ((k : Leaves B → Does) → T k → U (λ l. go l k)) →
    ((x : A) (h : Here) (m : Memory) → Stands a inner h → Keeps a T tries m (go (Giving x h m))) →
    ((label : LabelTree) (values : List Value) (h : Here) (m : Memory) → Stands a h.tries h → Keeps a T tries m (go (Exiting label values h m))) →
    ((v : Value) (h : Here) (m : Memory) → Stands a h.tries h → fits a.setting.end ty.Val v ≡ true → Keeps a T tries m (go (Raising v h m))) →
    Keeps a T tries before (from part go)
keeps_from {go = go} p through on_giving on_exiting on_raising =
    record {
      holds = λ k q t. p.holds (λ l. go l k)
          (record {
            giving = λ x h m st e. let s = on_giving x h m st in s.holds k (follows_later e q) t;
            exiting = λ label values h m st e. let s = on_exiting label values h m st in s.holds k (follows_later e q) t;
            raising = λ v h m st fit e. let s = on_raising v h m st fit in s.holds k (follows_later e q) t;
          })
          (through k t);
    }

pub keeps_then : {A B : Type 0} {a : Activation} {T : (Leaves B → Does) → Type 0} {tries : ℕ} {before : Memory} {part : Part A} {go : A → Here → Memory → Part B} →
    Keeps a Free tries before part → ((x : A) (h : Here) (m : Memory) → Stands a tries h → Keeps a T tries m (go x h m)) →
    Keeps a T tries before (and_then part go)
keeps_then {go = go} p on_giving = keeps_from {go = onward go} p (λ k t. tt) on_giving keeps_exits keeps_raises

keeps_only : {B : Type 0} {a : Activation} {T : (Leaves B → Does) → Type 0} {tries : ℕ} (v : Option Value) (go : Value → Here → Memory → Part B) (h : Here) (m : Memory) →
    ((x : Value) → Keeps a T tries m (go x h m)) → Keeps a T tries m (only_value v go h m)
keeps_only None go h m p = keeps_fails BadValue m
keeps_only (Some x) go h m p = p x

pub keeps_value : {B : Type 0} {a : Activation} {T : (Leaves B → Does) → Type 0} {tries : ℕ} {before : Memory} {part : Part (Option Value)}
    {go : Value → Here → Memory → Part B} → Keeps a Free tries before part →
    ((x : Value) (h : Here) (m : Memory) → Stands a tries h → Keeps a T tries m (go x h m)) → Keeps a T tries before (with_value part go)
keeps_value {go = go} p on_value = keeps_then p (λ v h m st. keeps_only v go h m (λ x. on_value x h m st))

pub keeps_cond : {A : Type 0} {a : Activation} {T : (Leaves A → Does) → Type 0} {tries : ℕ} {m : Memory} (b : Bool) {x y : Part A} →
    Keeps a T tries m x → Keeps a T tries m y → Keeps a T tries m (cond b x y)
keeps_cond true p q = p
keeps_cond false p q = q

pub keeps_proper : {A B : Type 0} {a : Activation} {T : (Leaves B → Does) → Type 0} {tries : ℕ} (r : Result A Kind) (m : Memory) {go : A → Part B} →
    ((x : A) → Keeps a T tries m (go x)) → Keeps a T tries m (proper r m go)
keeps_proper (Ok x) m p = p x
keeps_proper (Err kind) m p = keeps_fails kind m

keeps_when : {A : Type 0} {a : Activation} {T : (Leaves A → Does) → Type 0} {tries : ℕ} {m : Memory} (b : Bool) {x y : Part A} →
    (b ≡ true → Keeps a T tries m x) → Keeps a T tries m y → Keeps a T tries m (cond b x y)
keeps_when true p q = p refl
keeps_when false p q = q

-- where a value was tested, it fits
pub keeps_tested_so : {A : Type 0} {a : Activation} {T : (Leaves A → Does) → Type 0} {tries : ℕ} (end : ℕ) (type : Ty) (v : Value) (m : Memory) {part : Part A} →
    (fits end type v ≡ true → Keeps a T tries m part) → Keeps a T tries m (tested end type v m part)
keeps_tested_so end type v m p = keeps_when (fits end type v) p (keeps_fails (misfit type) m)

pub keeps_tested : {A : Type 0} {a : Activation} {T : (Leaves A → Does) → Type 0} {tries : ℕ} (end : ℕ) (type : Ty) (v : Value) (m : Memory) {part : Part A} →
    Keeps a T tries m part → Keeps a T tries m (tested end type v m part)
keeps_tested end type v m p = keeps_tested_so end type v m (λ _. p)

-- an operation on the memory
pub keeps_memory : {a : Activation} {T : (Leaves (Option Value) → Does) → Type 0} {tries : ℕ} (r : Result Memory Kind) (m : Memory) → Extended m r →
    (v : Option Value) (h : Here) → Stands a tries h → Keeps a T tries m (proper r m (λ after k. k (Giving v h after)))
keeps_memory (Ok after) m (extended e) v h st = keeps_after v h after st e
keeps_memory (Err kind) m no_memory v h st = keeps_fails kind m

-- ---- tail position

-- What follows a tail position: it only tests.
pub record Tests (result : Ret) (k : Leaves (Option Value) → Does) : Type 0 where
  pub value : (v : Value) (h : Here) (m : Memory) → OnlyTests result (Gave (Some v) m) (k (Giving (Some v) h m))
  -- where nothing is given, whatever the callee gave
  pub nothing : (o : Option Value) (h : Here) (m : Memory) → OnlyTests result (Gave o m) (k (Giving None h m))
  pub raising : (v : Value) (h : Here) (m : Memory) → OnlyTests result (Threw v m) (k (Raising v h m))

-- this holds of what follows an expression, where the expression is in tail position
abbrev pub Tail : Activation → Bool → (Leaves (Option Value) → Does) → Type 0
Tail a tail k = tail ≡ true → Tests a.result k

-- ---- the test of a node

-- what follows the inside of a node: a test of what it gives, and then what follows the node
abbrev pub tested_then : ℕ → Ty → (Leaves (Option Value) → Does) → Leaves (Option Value) → Does
tested_then end type k l = onward (λ v h m. of_type end type v h m) l k

lawful_cond : {a : Activation} {m : Memory} (b : Bool) (x y : Part (Option Value)) (k : Leaves (Option Value) → Does) → (b ≡ true → Lawful a m (x k)) →
    Lawful a m (y k) → Lawful a m (cond b x y k)
lawful_cond true x y k p q = p refl
lawful_cond false x y k p q = q

lawful_tested : {a : Activation} (end : ℕ) (type : Ty) (v : Value) (h : Here) (m : Memory) (k : Leaves (Option Value) → Does) →
    (fits end type v ≡ true → Lawful a m (k (Giving (Some v) h m))) → Lawful a m (tested end type v m (parts.gives (Some v) h m) k)
lawful_tested end type v h m k p = lawful_cond (fits end type v) (parts.gives (Some v) h m) (parts.fails (misfit type) m) k p (fails (extends_same m))

-- where it is lawful that a node of this type gives what it may give
lawful_type : {a : Activation} (end : ℕ) (type : Ty) (v : Option Value) (h : Here) (m : Memory) (k : Leaves (Option Value) → Does) →
    (type ≡ ty.NoValue → Lawful a m (k (Giving None h m))) → ((x : Value) → fits end type x ≡ true → Lawful a m (k (Giving (Some x) h m))) →
    Lawful a m (of_type end type v h m k)
lawful_type end ty.NoValue v h m k p q = p refl
lawful_type end ty.Never (Some v) h m k p q = lawful_tested end ty.Never v h m k (q v)
lawful_type end ty.Int (Some v) h m k p q = lawful_tested end ty.Int v h m k (q v)
lawful_type end ty.Val (Some v) h m k p q = lawful_tested end ty.Val v h m k (q v)
lawful_type end ty.Addr (Some v) h m k p q = lawful_tested end ty.Addr v h m k (q v)
lawful_type end ty.Never None h m k p q = fails (extends_same m)
lawful_type end ty.Int None h m k p q = fails (extends_same m)
lawful_type end ty.Val None h m k p q = fails (extends_same m)
lawful_type end ty.Addr None h m k p q = fails (extends_same m)

follows_tested : {a : Activation} {tries : ℕ} {before : Memory} (type : Ty) {k : Leaves (Option Value) → Does} → Follows a tries before k →
    Follows a tries before (tested_then a.setting.end type k)
follows_tested {a} type {k} q =
    record {
      giving = λ v h m st e. lawful_type a.setting.end type v h m k (λ _. q.giving None h m st e) (λ x _. q.giving (Some x) h m st e);
      exiting = q.exiting;
      raising = q.raising;
    }

tests_cond : (result : Ret) (d : Doing) (b : Bool) (x y : Part (Option Value)) (k : Leaves (Option Value) → Does) → OnlyTests result d (x k) →
    OnlyTests result d (y k) → OnlyTests result d (cond b x y k)
tests_cond result d true x y k p q = p
tests_cond result d false x y k p q = q

only_tested : (result : Ret) (end : ℕ) (type : Ty) (v : Value) (h : Here) (m : Memory) (k : Leaves (Option Value) → Does) →
    OnlyTests result (Gave (Some v) m) (k (Giving (Some v) h m)) →
    OnlyTests result (Gave (Some v) m) (tested end type v m (parts.gives (Some v) h m) k)
only_tested result end type v h m k p =
    tests_cond result (Gave (Some v) m) (fits end type v) (parts.gives (Some v) h m) (parts.fails (misfit type) m) k p fitting.fails

pub tests_tested : {result : Ret} (end : ℕ) (type : Ty) {k : Leaves (Option Value) → Does} → Tests result k → Tests result (tested_then end type k)
tests_tested end ty.NoValue p = record { value = λ v h m. p.nothing (Some v) h m; nothing = p.nothing; raising = p.raising }
tests_tested {result} end ty.Int {k} p =
    record { value = λ v h m. only_tested result end ty.Int v h m k (p.value v h m); nothing = λ o h m. fitting.fails; raising = p.raising }
tests_tested {result} end ty.Val {k} p =
    record { value = λ v h m. only_tested result end ty.Val v h m k (p.value v h m); nothing = λ o h m. fitting.fails; raising = p.raising }
tests_tested {result} end ty.Addr {k} p =
    record { value = λ v h m. only_tested result end ty.Addr v h m k (p.value v h m); nothing = λ o h m. fitting.fails; raising = p.raising }
tests_tested {result} end ty.Never {k} p =
    record { value = λ v h m. only_tested result end ty.Never v h m k (p.value v h m); nothing = λ o h m. fitting.fails; raising = p.raising }

-- a node of this type, by what follows its inside
pub record KeepsNode (a : Activation) (tail : Bool) (tries : ℕ) (before : Memory) (type : Ty) (part : Part (Option Value)) : Type 0 where
  pub holds : (k : Leaves (Option Value) → Does) → Follows a tries before (tested_then a.setting.end type k) →
      Tail a tail (tested_then a.setting.end type k) → Lawful a before (part k)

pub keeps_node : (a : Activation) {tail : Bool} {tries : ℕ} (e : Expression) (h : Here) (m : Memory) {part : Part (Option Value)} →
    Keeps a (Tail a tail) tries m part → KeepsNode a tail tries m (type_of (scope h) e) (node_part a.setting e h m part)
keeps_node a e h m p = record { holds = λ k q t. pays (extends_same m) (p.holds (tested_then a.setting.end (type_of (scope h) e) k) q t) }

pub keeps_expression : {a : Activation} {tail : Bool} {tries : ℕ} {before : Memory} {type : Ty} {part : Part (Option Value)} →
    KeepsNode a tail tries before type part → Keeps a (Tail a tail) tries before part
keeps_expression {a} {type = type} p = record { holds = λ k q t. p.holds k (follows_tested type q) (λ e. tests_tested a.setting.end type (t e)) }

-- an operand is in no tail position
pub keeps_operand : {a : Activation} {tries : ℕ} {before : Memory} {type : Ty} {part : Part (Option Value)} → KeepsNode a false tries before type part →
    Keeps a Free tries before part
keeps_operand {a} {type = type} p = record { holds = λ k q t. p.holds k (follows_tested type q) (λ e. absurd (cc)) }

-- ---- the end of a function

pub ends_value : (end : ℕ) (type : Ty) (v : Value) → fits end type v ≡ true → FitsResult end (result_of type) (Some v)
ends_value end ty.Int v e = a_value {c = comp.Int} e
ends_value end ty.Val v e = a_value {c = comp.Val} e
ends_value end ty.Addr v e = a_value {c = comp.Addr} e
ends_value end ty.NoValue (value.Word w) e = absurd (cc)
ends_value end ty.NoValue (value.Block serial offset) e = absurd (cc)
ends_value end ty.NoValue (value.Function f) e = absurd (cc)
ends_value end ty.Never (value.Word w) e = absurd (cc)
ends_value end ty.Never (value.Block serial offset) e = absurd (cc)
ends_value end ty.Never (value.Function f) e = absurd (cc)

pub ends_nothing : (end : ℕ) (type : Ty) → type ≡ ty.NoValue → FitsResult end (result_of type) None
ends_nothing end ty.NoValue e = nothing
ends_nothing end ty.Int e = absurd (cc)
ends_nothing end ty.Val e = absurd (cc)
ends_nothing end ty.Addr e = absurd (cc)
ends_nothing end ty.Never e = absurd (cc)

pub follows_end : (a : Activation) (tries : ℕ) (before : Memory) (type : Ty) → a.result ≡ result_of type →
    Follows a tries before (tested_then a.setting.end type Ends)
follows_end a tries before type is =
    record {
      giving = λ v h m st e. lawful_type a.setting.end type v h m Ends
          (λ n. gives (rw is (ends_nothing a.setting.end type n)) (extends_same m))
          (λ x fit. gives (rw is (ends_value a.setting.end type x fit)) (extends_same m));
      exiting = λ label values h m st e. exits (extends_same m);
      raising = λ v h m st fit e. raises fit (extends_same m);
    }

pub tests_end : (end : ℕ) (type : Ty) → Tests (result_of type) (tested_then end type Ends)
tests_end end ty.NoValue = record { value = λ v h m. fitting.gives refl; nothing = λ o h m. fitting.gives refl; raising = λ v h m. fitting.raises }
tests_end end ty.Int =
    record { value = λ v h m. only_tested (ret.Comp comp.Int) end ty.Int v h m Ends (fitting.gives refl); nothing = λ o h m. fitting.fails; raising = λ v h m. fitting.raises }
tests_end end ty.Val =
    record { value = λ v h m. only_tested (ret.Comp comp.Val) end ty.Val v h m Ends (fitting.gives refl); nothing = λ o h m. fitting.fails; raising = λ v h m. fitting.raises }
tests_end end ty.Addr =
    record { value = λ v h m. only_tested (ret.Comp comp.Addr) end ty.Addr v h m Ends (fitting.gives refl); nothing = λ o h m. fitting.fails; raising = λ v h m. fitting.raises }
tests_end end ty.Never = record { value = never; nothing = λ o h m. fitting.fails; raising = λ v h m. fitting.raises }
  where
    never : (v : Value) (h : Here) (m : Memory) → OnlyTests ret.Unit (Gave (Some v) m) (tested_then end ty.Never Ends (Giving (Some v) h m))
    never (value.Word w) h m = fitting.fails
    never (value.Block serial offset) h m = fitting.fails
    never (value.Function f) h m = fitting.fails

-- ---- values

pub keeps_looked : {a : Activation} {T : (Leaves (Option Value) → Does) → Type 0} {tries : ℕ} (o : Option Value) (h : Here) (m : Memory) → Stands a tries h →
    Keeps a T tries m (looked_up o h m)
keeps_looked (Some v) h m st = keeps_gives (Some v) h m st
keeps_looked None h m st = keeps_fails BadValue m

-- ---- operands

-- an operand, wherever it is evaluated in so many tries
abbrev pub KeepsOperand : Activation → ℕ → Operand → Type 0
KeepsOperand a tries operand = (h : Here) (m : Memory) → Stands a tries h → Keeps a Free tries m (operand h m)

pub keeps_both : {B : Type 0} {a : Activation} {T : (Leaves B → Does) → Type 0} {tries : ℕ} (t : Bool) {first second : Operand} (h : Here) (m : Memory)
    {go : Value → Value → Here → Memory → Part B} → Stands a tries h → KeepsOperand a tries first → KeepsOperand a tries second →
    ((x y : Value) (h : Here) (m : Memory) → Stands a tries h → Keeps a T tries m (go x y h m)) →
    Keeps a T tries m (both t first second h m go)
keeps_both false h m st p q r = keeps_value (q h m st) (λ y h m st. keeps_value (p h m st) (λ x h m st. r x y h m st))
keeps_both true h m st p q r = keeps_value (p h m st) (λ x h m st. keeps_value (q h m st) (λ y h m st. r x y h m st))

pub keeps_unless : {B : Type 0} {a : Activation} {T : (Leaves B → Does) → Type 0} {tries : ℕ} (light : Bool) {operand : Operand} (h : Here) (m : Memory)
    {go : Option Value → Here → Memory → Part B} → Stands a tries h → KeepsOperand a tries operand →
    ((v : Option Value) (h : Here) (m : Memory) → Stands a tries h → Keeps a T tries m (go v h m)) →
    Keeps a T tries m (unless_light light operand h m go)
keeps_unless true h m st p q = q None h m st
keeps_unless false h m st p q = keeps_value (p h m st) (λ v h m st. q (Some v) h m st)

pub keeps_now : {B : Type 0} {a : Activation} {T : (Leaves B → Does) → Type 0} {tries : ℕ} (before : Option Value) {operand : Operand} (h : Here) (m : Memory)
    {go : Value → Here → Memory → Part B} → Stands a tries h → KeepsOperand a tries operand →
    ((v : Value) (h : Here) (m : Memory) → Stands a tries h → Keeps a T tries m (go v h m)) → Keeps a T tries m (now_or_before before operand h m go)
keeps_now (Some v) h m st p q = q v h m st
keeps_now None h m st p q = keeps_value (p h m st) q

-- ---- calls

back_lawful : (a : Activation) (tries : ℕ) {before : Memory} (result : Ret) (h : Here) (k : Leaves (Option Value) → Does) → Stands a tries h →
    Follows a tries before k → (d : Doing) → Returned a.setting.end before d → Lawful a (memory_after d) (part_from_call result h d k)
back_lawful a tries ret.Unit h k st q (Gave v m) (gave e) = q.giving None h m st e
back_lawful a tries (ret.Comp c) h k st q (Gave (Some v) m) (gave e) = q.giving (Some v) h m st e
back_lawful a tries (ret.Comp c) h k st q (Gave None m) (gave e) = fails (extends_same m)
back_lawful a tries result h k st q (Threw v m) (threw fit e) = q.raising v h m (stands_so a tries h st) fit e

-- after a call in tail position
tests_call : {result : Ret} {k : Leaves (Option Value) → Does} (written : Ret) (h : Here) → Tests result k → (d : Doing) →
    OnlyTests result d (part_from_call written h d k)
tests_call ret.Unit h p (Gave v m) = p.nothing v h m
tests_call (ret.Comp c) h p (Gave (Some v) m) = p.value v h m
tests_call (ret.Comp c) h p (Gave None m) = fitting.fails
tests_call written h p (Threw v m) = p.raising v h m

-- the stack bytes of a call follow from its caller's
call_below : (a : Activation) (tries : ℕ) (tail : Bool) (h : Here) → Stands a tries h →
    stack_below tail h ≡ cond tail a.below (a.below + a.frame + 16 * h.tries)
call_below a tries true h st = st.0
call_below a tries false h st = let one : h.below ≡ a.below = st.0 in let two : h.frame ≡ a.frame = st.1 in omega (arith, one, two)

keeps_called : (a : Activation) {tries : ℕ} (o : Option (List Comp)) (f : ℕ) (arguments : List Value) (result : Ret) (tail : Bool) (h : Here) (m : Memory) →
    Stands a tries h → (tail ≡ true → tries ≡ 0) → slice_get a.setting.parameters f ≡ o →
    Keeps a (Tail a tail) tries m (called_with a.setting o f arguments result tail h m)
keeps_called a None f arguments result tail h m st none is = keeps_fails BadCall m
keeps_called a {tries} (Some comps) f arguments result tail h m st none is =
    keeps_when (fit_parameters a.setting.end comps arguments) calling (keeps_fails BadCall m)
  where
    calling : fit_parameters a.setting.end comps arguments ≡ true → Keeps a (Tail a tail) tries m (parts.calls (call_from f arguments tail h) result h m)
    calling fit =
        let callee : FitsCallee a.setting f arguments = record { parameters = comps; callee = is; fit = fit } in
        let stands : CallStands a (call_from f arguments tail h) =
        record { fits = callee; below = call_below a tries tail h st; tries = λ e. st.2 ∙ none e } in
        record { holds = λ k q t. calls (extends_same m) stands (λ e d. tests_call result h (t e) d) (back_lawful a tries result h k st q) }

pub keeps_applied : (a : Activation) {tries : ℕ} (f : Value) (arguments : List Value) (result : Ret) (tail : Bool) (h : Here) (m : Memory) →
    Stands a tries h → (tail ≡ true → tries ≡ 0) → Keeps a (Tail a tail) tries m (applied a.setting f arguments result tail h m)
keeps_applied a (value.Word word) arguments result tail h m st none = keeps_fails BadCall m
keeps_applied a (value.Block serial offset) arguments result tail h m st none = keeps_fails BadCall m
keeps_applied a (value.Function f) arguments result tail h m st none =
    keeps_called a (slice_get a.setting.parameters f) f arguments result tail h m st none refl

pub keeps_called_out : (a : Activation) {T : (Leaves (Option Value) → Does) → Type 0} {tries : ℕ} (row : External) (frame : Bool) (arguments : List Value) (h : Here) (m : Memory) →
    Stands a tries h → Keeps a T tries m (parts.calls_out row frame arguments h m)
keeps_called_out a {T} {tries} row frame arguments h m st =
    record { holds = λ k q t. calls_out (extends_same m) (back_lawful a tries row.result h k st q) }

-- ---- scopes

tests_back : {result : Ret} (level tries : ℕ) {k : Leaves (Option Value) → Does} → Tests result k →
    Tests result (λ l. onward (λ v h m. parts.gives v (back_in level tries h) m) l k)
tests_back level tries p =
    record {
      value = λ v h m. p.value v (back_in level tries h) m;
      nothing = λ o h m. p.nothing o (back_in level tries h) m;
      raising = p.raising;
    }

pub keeps_back : {a : Activation} {tail : Bool} {inner tries : ℕ} {before : Memory} (level t : ℕ) → t ≡ tries → {part : Part (Option Value)} →
    Keeps a (Tail a tail) inner before part → Keeps a (Tail a tail) tries before (scope_restored level t part)
keeps_back {a} {tail} {inner} {tries} level t same p =
    keeps_from {go = onward (λ v h m. parts.gives v (back_in level t h) m)} p (λ k f e. tests_back level t (f e))
    (λ v h m st. keeps_gives v (back_in level t h) m (stands_back a inner tries level t h st same)) keeps_exits keeps_raises

-- ---- cases

-- an expression in tail position or not, wherever it is evaluated
abbrev pub Keeping : Activation → Bool → Operand → Type 0
Keeping a tail operand = (tries : ℕ) (h : Here) (m : Memory) → Stands a tries h → (tail ≡ true → tries ≡ 0) → Keeps a (Tail a tail) tries m (operand h m)

keeps_chosen : {a : Activation} {tail : Bool} {o : Option (Chosen Operand)} → OneCase (Keeping a tail) o → Keeping a tail (chosen o)
keeps_chosen no_chosen tries h m st none = keeps_fails SwitchRange m
keeps_chosen (a_chosen p) tries h m st none = p tries h m st none

pub keeps_case : {a : Activation} {tail : Bool} {cases : List (Chosen Operand)} (k : ℕ) → EachCase (Keeping a tail) cases → Keeping a tail (chosen (case_for cases k))
keeps_case k l = keeps_chosen (case_holds k l)

-- ---- handlers

keeps_entered : {a : Activation} {T : (Leaves (Option Value) → Does) → Type 0} {tries : ℕ} (end : ℕ) (params : List Parameter) (values : List Value) (m : Memory)
    {part : Part (Option Value)} → Keeps a T tries m part → Keeps a T tries m (entered end params values m part)
keeps_entered end [] [] m p = p
keeps_entered end [] (v ∷ values) m p = keeps_fails BadCall m
keeps_entered end (q ∷ params) [] m p = keeps_fails BadCall m
keeps_entered end (q ∷ params) (v ∷ values) m p = keeps_tested end (type_of_comp q.comp) v m (keeps_entered end params values m p)

-- a catch only passes on what it is given and what is raised
tests_catching : {result : Ret} (end turns : ℕ) (within : Bool) (handlers : List (Ready Operand)) (level tries : ℕ) {k : Leaves (Option Value) → Does} →
    Tests result k → Tests result (λ l. catching end turns within handlers level tries l k)
tests_catching end turns within handlers level tries p = record { value = p.value; nothing = p.nothing; raising = p.raising }

module _ {a : Activation} {tail : Bool} (end level t tries : ℕ) (same : t ≡ tries) (none : tail ≡ true → tries ≡ 0) where
  keeps_handled : {o : Option (Ready Operand)} → OneHandler (Keeping a tail) o → (label : LabelTree) (values : List Value) (h : Here) (m : Memory) → Stands a h.tries h →
      (again : Leaves (Option Value) → Part (Option Value)) → ((k : Leaves (Option Value) → Does) → Tail a tail k → Tail a tail (λ l. again l k)) →
      ((v : Option Value) (h : Here) (m : Memory) → Stands a tries h → Keeps a (Tail a tail) tries m (again (Giving v h m))) →
      ((label : LabelTree) (values : List Value) (h : Here) (m : Memory) → Stands a h.tries h → Keeps a (Tail a tail) tries m (again (Exiting label values h m))) →
      ((v : Value) (h : Here) (m : Memory) → Stands a h.tries h → fits a.setting.end ty.Val v ≡ true → Keeps a (Tail a tail) tries m (again (Raising v h m))) →
      Keeps a (Tail a tail) tries m (handled end o label values level t h m again)
  keeps_handled no_ready label values h m st again through on_giving on_exiting on_raising = keeps_exits label values h m st
  keeps_handled (a_ready {a = r} p) label values h m st again through on_giving on_exiting on_raising =
      let inside : Here = with_bound (map scoped_parameter r.params) values (back_in level t h) in
      keeps_from {go = again}
      (keeps_entered end r.params values m (keeps_back level t same (p tries inside m (st.0, st.1, same) none)))
      through on_giving on_exiting on_raising

  keeps_out : {o : Option (Ready Operand)} → OneHandler (Keeping a tail) o → (label : LabelTree) (values : List Value) (h : Here) (m : Memory) → Stands a h.tries h →
      Keeps a (Tail a tail) tries m (out_of_turns end o label values h m)
  keeps_out no_ready label values h m st = keeps_exits label values h m st
  keeps_out (a_ready {a = r} p) label values h m st = keeps_entered end r.params values m (keeps_spent m)

  -- a catch, from how its body, or one of its handlers, is left by an exit
  pub keeps_catching : (turns : ℕ) (within : Bool) {handlers : List (Ready Operand)} → EachHandler (Keeping a tail) handlers →
      (label : LabelTree) (values : List Value) (h : Here) (m : Memory) → Stands a h.tries h →
      Keeps a (Tail a tail) tries m (catching end turns within handlers level t (Exiting label values h m))
  keeps_catching zero within l label values h m st = keeps_out (ready_holds within label l) label values h m st
  keeps_catching (suc turns) within {handlers = handlers} l label values h m st =
      keeps_handled (ready_holds within label l) label values h m st (catching end turns true handlers level t)
      (λ k f e. tests_catching end turns true handlers level t (f e))
      (λ v h m st. keeps_gives v h m st)
      (λ label values h m st. keeps_catching turns true l label values h m st)
      (λ v h m st fit. keeps_raises v h m st fit)

  -- the whole of a catch, from what its body does
  pub keeps_catch : (turns : ℕ) {handlers : List (Ready Operand)} → EachHandler (Keeping a tail) handlers → {m : Memory} {body : Part (Option Value)} →
      Keeps a (Tail a tail) tries m body → Keeps a (Tail a tail) tries m (from body (catching end turns false handlers level t))
  keeps_catch turns {handlers} l p =
      keeps_from {go = catching end turns false handlers level t} p (λ k f e. tests_catching end turns false handlers level t (f e))
      (λ v h m st. keeps_gives v h m st)
      (keeps_catching turns false l)
      (λ v h m st fit. keeps_raises v h m st fit)
