-- The parts of a function: each call, exit and raise is one of a node, which has paid a unit. The steps.
use Rattle.std.proofs.Common.{ℕ, zero, suc, ◌+◌, ◌≤◌, Bool, true, false, cond, List, [], ◌∷◌, Option, Some, None, Result, Ok, Err, map, arith}
use Rattle.std.specs.List.{slice_get}
use Rattle.bs_words.specs.External.{External}
use Rattle.bs_words.specs.Fits.{fits, misfit, type_of_comp}
use Rattle.bs_words.specs.Memory.{Memory}
use Rattle.bs_words.specs.declared.types.Comp.{Comp}
use Rattle.bs_words.specs.declared.types.Ret.{Ret}
use Rattle.bs_words.specs.declared.types.Ret.TheVariants as ret
use Rattle.bs_words.specs.declared.types.Ty.{Ty}
use Rattle.bs_words.specs.declared.types.Ty.TheVariants as ty
use Rattle.bs_words.specs.declared.values.Kind.{Kind}
use Rattle.bs_words.specs.declared.values.Kind.TheVariants.{BadValue, BadCall, SwitchRange}
use Rattle.bs_words.specs.declared.values.Value.{Value}
use Rattle.bs_words.specs.declared.values.Value.TheVariants as value
use Rattle.cmm_tree.specs.Tree.{LabelTree, Parameter, Expression}
use Rattle.cmm_types.specs.Types.{type_of}
use Rattle.cmm_meaning.specs.Choices.{Ready, Chosen, case_for}
use Rattle.cmm_meaning.specs.Evaluation.{scoped_parameter, with_bound, fit_parameters, call_from}
use Rattle.cmm_meaning.specs.Setting.{Setting}
use Rattle.meaning_laws.specs.Interaction.{Part, Operand, from, onward, and_then, only_value, with_value, proper, tested, of_type, both, unless_light, now_or_before, as_written, part_from_call, called_with, applied, entered, scope_restored, handled, out_of_turns, catching, chosen, looked_up, node_part}
use Rattle.meaning_laws.specs.Interaction as parts
use Rattle.cmm_meaning.specs.State.{Doing, Gave, Threw, Called, Here, scope, back_in}
use Rattle.meaning_laws.specs.Does.{Leaves, Giving, Exiting, Raising, Does, Ends, Pays, Deepens, Jumps, Calls, CallsOut, Fails, Spent}
use Rattle.meaning_laws.proofs.Choices.{EachCase, OneCase, no_chosen, a_chosen, case_holds, EachHandler, OneHandler, no_ready, a_ready, ready_holds}

-- Up to any point what a function does has passed at most `spare` beats more than it has paid units.
pub data Earned : ℕ → Does → Type 0 where
  ends : {spare : ℕ} {end : Leaves (Option Value)} → Earned spare (Ends end)
  pays : {spare : ℕ} {memory : Memory} {rest : Does} → Earned (suc spare) rest → Earned spare (Pays memory rest)
  deepens : {spare bytes : ℕ} {rest : Does} → Earned spare rest → Earned spare (Deepens bytes rest)
  jumps : {spare : ℕ} {rest : Does} → Earned spare rest → Earned (suc spare) (Jumps rest)
  calls : {spare : ℕ} {call : Called} {memory : Memory} {go : Doing → Does} →
      ((d : Doing) → Earned spare (go d)) → Earned (suc spare) (Calls call memory go)
  calls_out : {spare : ℕ} {row : External} {frame : Bool} {arguments : List Value} {memory : Memory} {go : Doing → Does} →
      ((v : Option Value) (after : Memory) → Earned (suc spare) (go (Gave v after))) →
      ((v : Value) (after : Memory) → Earned spare (go (Threw v after))) → Earned (suc spare) (CallsOut row frame arguments memory go)
  fails : {spare : ℕ} {memory : Memory} {kind : Kind} → Earned spare (Fails memory kind)
  spent : {spare : ℕ} {memory : Memory} → Earned spare (Spent memory)

pub earned_more : {m : ℕ} (n : ℕ) {d : Does} → m ≤ n → Earned m d → Earned n d
earned_more n le ends = ends
earned_more n le (pays {spare = spare} p) = pays (earned_more {m = suc spare} (suc n) (omega arith) p)
earned_more n le (deepens p) = deepens (earned_more n le p)
earned_more zero le (jumps p) = absurd (omega arith)
earned_more (suc n) le (jumps p) = jumps (earned_more n (omega arith) p)
earned_more zero le (calls p) = absurd (omega arith)
earned_more (suc n) le (calls {spare = spare} p) = calls (λ d. earned_more {m = spare} n (omega arith) (p d))
earned_more zero le (calls_out p q) = absurd (omega arith)
earned_more (suc n) le (calls_out {spare = spare} p q) =
    calls_out (λ v after. earned_more {m = suc spare} (suc n) (omega arith) (p v after)) (λ v after. earned_more {m = spare} n (omega arith) (q v after))
earned_more n le fails = fails
earned_more n le spent = spent

-- a part that passes at most `n` beats more than it pays units
pub record Covers {A : Type 0} (n : ℕ) (part : Part A) : Type 0 where
  pub holds : (r : ℕ) (k : Leaves A → Does) → ((l : Leaves A) → Earned r (k l)) → Earned (n + r) (part k)

pub covers_any : {A : Type 0} {n : ℕ} {part : Part A} → Covers 0 part → Covers n part
covers_any {n = n} p = record { holds = λ r k q. earned_more (n + r) (omega arith) (p.holds r k q) }

-- ---- how a part is left

pub covers_gives : {A : Type 0} {n : ℕ} (a : A) (h : Here) (m : Memory) → Covers n (parts.gives a h m)
covers_gives {n = n} a h m = record { holds = λ r k q. earned_more (n + r) (omega arith) (q (Giving a h m)) }

pub covers_fails : {A : Type 0} {n : ℕ} (kind : Kind) (m : Memory) → Covers {A = A} n (parts.fails kind m)
covers_fails kind m = record { holds = λ r k q. fails }

pub covers_exits : {A : Type 0} {n : ℕ} (label : LabelTree) (values : List Value) (h : Here) (m : Memory) → Covers {A = A} n (parts.exits label values h m)
covers_exits {n = n} label values h m = record { holds = λ r k q. earned_more (n + r) (omega arith) (q (Exiting label values h m)) }

pub covers_raises : {A : Type 0} {n : ℕ} (v : Value) (h : Here) (m : Memory) → Covers {A = A} n (parts.raises v h m)
covers_raises {n = n} v h m = record { holds = λ r k q. earned_more (n + r) (omega arith) (q (Raising v h m)) }

covers_spent : {A : Type 0} {n : ℕ} (m : Memory) → Covers {A = A} n (parts.spent m)
covers_spent m = record { holds = λ r k q. spent }

pub covers_jumps : {A : Type 0} {part : Part A} → Covers 0 part → Covers 1 (parts.jumps part)
covers_jumps p = record { holds = λ r k q. earned_more (1 + r) (omega arith) (jumps (p.holds r k q)) }

pub covers_deepens : {A : Type 0} {n : ℕ} {part : Part A} (bytes : ℕ) → Covers n part → Covers n (parts.deepens bytes part)
covers_deepens bytes p = record { holds = λ r k q. deepens (p.holds r k q) }

-- ---- what follows

pub covers_from : {A B : Type 0} {n : ℕ} {part : Part A} {go : Leaves A → Part B} → Covers 0 part →
    ((a : A) (h : Here) (m : Memory) → Covers n (go (Giving a h m))) →
    ((label : LabelTree) (values : List Value) (h : Here) (m : Memory) → Covers n (go (Exiting label values h m))) →
    ((v : Value) (h : Here) (m : Memory) → Covers n (go (Raising v h m))) → Covers n (from part go)
covers_from {A} {B} {n} {part} {go} p on_giving on_exiting on_raising =
    record { holds = λ r k q. earned_more (n + r) (omega arith) (p.holds (n + r) (λ l. go l k) (λ l. by l r k q)) }
  where
    by : (l : Leaves A) (r : ℕ) (k : Leaves B → Does) → ((l : Leaves B) → Earned r (k l)) → Earned (n + r) (go l k)
    by (Giving a h m) r k q = let s = on_giving a h m in s.holds r k q
    by (Exiting label values h m) r k q = let s = on_exiting label values h m in s.holds r k q
    by (Raising v h m) r k q = let s = on_raising v h m in s.holds r k q

pub covers_then : {A B : Type 0} {n : ℕ} {part : Part A} {go : A → Here → Memory → Part B} → Covers 0 part →
    ((a : A) (h : Here) (m : Memory) → Covers n (go a h m)) → Covers n (and_then part go)
covers_then {go = go} p on_giving = covers_from {go = onward go} p on_giving covers_exits covers_raises

covers_only : {B : Type 0} {n : ℕ} (v : Option Value) (go : Value → Here → Memory → Part B) (h : Here) (m : Memory) →
    ((a : Value) → Covers n (go a h m)) → Covers n (only_value v go h m)
covers_only None go h m p = covers_fails BadValue m
covers_only (Some a) go h m p = p a

pub covers_value : {B : Type 0} {n : ℕ} {part : Part (Option Value)} {go : Value → Here → Memory → Part B} → Covers 0 part →
    ((a : Value) (h : Here) (m : Memory) → Covers n (go a h m)) → Covers n (with_value part go)
covers_value {go = go} p on_value = covers_then p (λ v h m. covers_only v go h m (λ a. on_value a h m))

pub covers_cond : {A : Type 0} {n : ℕ} (b : Bool) {x y : Part A} → Covers n x → Covers n y → Covers n (cond b x y)
covers_cond true p q = p
covers_cond false p q = q

pub covers_proper : {A B : Type 0} {n : ℕ} (r : Result A Kind) (m : Memory) {go : A → Part B} →
    ((a : A) → Covers n (go a)) → Covers n (proper r m go)
covers_proper (Ok a) m p = p a
covers_proper (Err kind) m p = covers_fails kind m

pub covers_tested : {A : Type 0} {n : ℕ} (data_end : ℕ) (type : Ty) (v : Value) (m : Memory) {part : Part A} →
    Covers n part → Covers n (tested data_end type v m part)
covers_tested data_end type v m p = covers_cond (fits data_end type v) p (covers_fails (misfit type) m)

covers_type : {n : ℕ} (data_end : ℕ) (type : Ty) (v : Option Value) (h : Here) (m : Memory) → Covers n (of_type data_end type v h m)
covers_type data_end ty.NoValue v h m = covers_gives None h m
covers_type data_end ty.Never (Some v) h m = covers_fails (misfit ty.Never) m
covers_type data_end ty.Int (Some v) h m = covers_tested data_end ty.Int v m (covers_gives (Some v) h m)
covers_type data_end ty.Val (Some v) h m = covers_tested data_end ty.Val v m (covers_gives (Some v) h m)
covers_type data_end ty.Addr (Some v) h m = covers_gives (Some v) h m
covers_type data_end ty.Never None h m = covers_fails BadValue m
covers_type data_end ty.Int None h m = covers_fails BadValue m
covers_type data_end ty.Val None h m = covers_fails BadValue m
covers_type data_end ty.Addr None h m = covers_fails BadValue m

typed_leaf : {r : ℕ} (end : ℕ) (type : Ty) (k : Leaves (Option Value) → Does) → ((l : Leaves (Option Value)) → Earned r (k l)) →
    (l : Leaves (Option Value)) → Earned r (onward (λ v h m. of_type end type v h m) l k)
typed_leaf {r} end type k q (Giving v h m) =
    let p : Covers 0 (of_type end type v h m) = covers_type end type v h m in earned_more r (omega arith) (p.holds r k q)
typed_leaf end type k q (Exiting label values h m) = q (Exiting label values h m)
typed_leaf end type k q (Raising v h m) = q (Raising v h m)

-- a node pays for one beat
pub covers_node : (c : Setting) (e : Expression) (h : Here) (m : Memory) {part : Part (Option Value)} → Covers 1 part → Covers 0 (node_part c e h m part)
covers_node c e h m p =
    record {
      holds = λ r k q. pays (earned_more (suc (0 + r)) (omega arith)
          (p.holds r (λ l. onward (λ v inner m. of_type c.end (type_of (scope h) e) v inner m) l k) (λ l. typed_leaf c.end (type_of (scope h) e) k q l)));
    }

pub covers_looked : {n : ℕ} (o : Option Value) (h : Here) (m : Memory) → Covers n (looked_up o h m)
covers_looked (Some v) h m = covers_gives (Some v) h m
covers_looked None h m = covers_fails BadValue m

-- ---- operands

pub covers_both : {B : Type 0} {n : ℕ} (t : Bool) {first second : Operand} (h : Here) (m : Memory)
    {go : Value → Value → Here → Memory → Part B} →
    ((h : Here) (m : Memory) → Covers 0 (first h m)) → ((h : Here) (m : Memory) → Covers 0 (second h m)) →
    ((a b : Value) (h : Here) (m : Memory) → Covers n (go a b h m)) →
    Covers n (both t first second h m go)
covers_both false h m p q r = covers_value (q h m) (λ b h m. covers_value (p h m) (λ a h m. r a b h m))
covers_both true h m p q r = covers_value (p h m) (λ a h m. covers_value (q h m) (λ b h m. r a b h m))

pub covers_unless : {B : Type 0} {n : ℕ} (light : Bool) {operand : Operand} (h : Here) (m : Memory)
    {go : Option Value → Here → Memory → Part B} → ((h : Here) (m : Memory) → Covers 0 (operand h m)) →
    ((v : Option Value) (h : Here) (m : Memory) → Covers n (go v h m)) →
    Covers n (unless_light light operand h m go)
covers_unless true h m p q = q None h m
covers_unless false h m p q = covers_value (p h m) (λ v h m. q (Some v) h m)

pub covers_now : {B : Type 0} {n : ℕ} (before : Option Value) {operand : Operand} (h : Here) (m : Memory)
    {go : Value → Here → Memory → Part B} → ((h : Here) (m : Memory) → Covers 0 (operand h m)) →
    ((v : Value) (h : Here) (m : Memory) → Covers n (go v h m)) → Covers n (now_or_before before operand h m go)
covers_now (Some v) h m p q = q v h m
covers_now None h m p q = covers_value (p h m) q

-- ---- calls

covers_written : {n : ℕ} (result : Ret) (v : Option Value) (h : Here) (m : Memory) → Covers n (as_written result v h m)
covers_written ret.Unit v h m = covers_gives None h m
covers_written (ret.Comp c) (Some v) h m = covers_gives (Some v) h m
covers_written (ret.Comp c) None h m = covers_fails BadCall m

back_earned : {r : ℕ} (result : Ret) (h : Here) (k : Leaves (Option Value) → Does) → ((l : Leaves (Option Value)) → Earned r (k l)) → (d : Doing) →
    Earned r (part_from_call result h d k)
back_earned {r} result h k q (Gave v m) =
    let p : Covers 0 (as_written result v h m) = covers_written result v h m in earned_more r (omega arith) (p.holds r k q)
back_earned result h k q (Threw v m) = q (Raising v h m)

covers_called : (c : Setting) (o : Option (List Comp)) (f : ℕ) (arguments : List Value) (result : Ret) (tail : Bool) (h : Here) (m : Memory) →
    Covers 1 (called_with c o f arguments result tail h m)
covers_called c None f arguments result tail h m = covers_fails BadCall m
covers_called c (Some comps) f arguments result tail h m =
    let calling : Covers 1 (parts.calls (call_from f arguments tail h) result h m) =
    record { holds = λ r k q. earned_more (1 + r) (omega arith) (calls (back_earned result h k q)) } in
    covers_cond (fit_parameters c.end comps arguments) calling (covers_fails BadCall m)

pub covers_applied : (c : Setting) (f : Value) (arguments : List Value) (result : Ret) (tail : Bool) (h : Here) (m : Memory) →
    Covers 1 (applied c f arguments result tail h m)
covers_applied c (value.Word word) arguments result tail h m = covers_fails BadCall m
covers_applied c (value.Block serial offset) arguments result tail h m = covers_fails BadCall m
covers_applied c (value.Function f) arguments result tail h m = covers_called c (slice_get c.parameters f) f arguments result tail h m

pub covers_called_out : (row : External) (frame : Bool) (arguments : List Value) (h : Here) (m : Memory) →
    Covers 1 (parts.calls_out row frame arguments h m)
covers_called_out row frame arguments h m =
    record {
      holds = λ r k q. earned_more (1 + r) (omega arith)
          (calls_out
          (λ v after. earned_more (suc r) (omega arith) (back_earned {r = r} row.result h k q (Gave v after)))
          (λ v after. back_earned {r = r} row.result h k q (Threw v after)));
    }

-- ---- cases

-- an operand, wherever it is evaluated
abbrev pub Covering : Operand → Type 0
Covering operand = (h : Here) (m : Memory) → Covers 0 (operand h m)

covers_chosen : {n : ℕ} {o : Option (Chosen Operand)} → OneCase Covering o → (h : Here) (m : Memory) → Covers n (chosen o h m)
covers_chosen no_chosen h m = covers_fails SwitchRange m
covers_chosen (a_chosen p) h m = covers_any (p h m)

pub covers_case : {n : ℕ} {cases : List (Chosen Operand)} (k : ℕ) → EachCase Covering cases → (h : Here) (m : Memory) →
    Covers n (chosen (case_for cases k) h m)
covers_case k l h m = covers_chosen (case_holds k l) h m

-- ---- handlers

covers_entered : {n : ℕ} (data_end : ℕ) (params : List Parameter) (values : List Value) (m : Memory) {part : Part (Option Value)} →
    Covers n part → Covers n (entered data_end params values m part)
covers_entered data_end [] [] m p = p
covers_entered data_end [] (v ∷ values) m p = covers_fails BadCall m
covers_entered data_end (q ∷ params) [] m p = covers_fails BadCall m
covers_entered data_end (q ∷ params) (v ∷ values) m p = covers_tested data_end (type_of_comp q.comp) v m (covers_entered data_end params values m p)

pub covers_back : {n : ℕ} (level tries : ℕ) {part : Part (Option Value)} → Covers 0 part → Covers n (scope_restored level tries part)
covers_back level tries p = covers_then p (λ v h m. covers_gives v (back_in level tries h) m)

covers_handled : {n : ℕ} (data_end : ℕ) {o : Option (Ready Operand)} → OneHandler Covering o → (level tries : ℕ) (label : LabelTree) (values : List Value)
    (h : Here) (m : Memory) (again : Leaves (Option Value) → Part (Option Value)) →
    ((v : Option Value) (h : Here) (m : Memory) → Covers n (again (Giving v h m))) →
    ((label : LabelTree) (values : List Value) (h : Here) (m : Memory) → Covers n (again (Exiting label values h m))) →
    ((v : Value) (h : Here) (m : Memory) → Covers n (again (Raising v h m))) →
    Covers n (handled data_end o label values level tries h m again)
covers_handled data_end no_ready level tries label values h m again on_giving on_exiting on_raising = covers_exits label values h m
covers_handled data_end (a_ready {a} p) level tries label values h m again on_giving on_exiting on_raising =
    let inside : Here = back_in level tries h in
    covers_from {go = again}
    (covers_entered data_end a.params values m (covers_back level tries (p (with_bound (map scoped_parameter a.params) values inside) m)))
    on_giving on_exiting on_raising

covers_out : {n : ℕ} (data_end : ℕ) {o : Option (Ready Operand)} → OneHandler Covering o → (label : LabelTree) (values : List Value) (h : Here) (m : Memory) →
    Covers n (out_of_turns data_end o label values h m)
covers_out data_end no_ready label values h m = covers_exits label values h m
covers_out data_end (a_ready {a} p) label values h m = covers_entered data_end a.params values m (covers_spent m)

-- a catch, from how its body, or one of its handlers, is left by an exit
pub covers_catching : {n : ℕ} (data_end turns : ℕ) (within : Bool) {handlers : List (Ready Operand)} → EachHandler Covering handlers → (level tries : ℕ)
    (label : LabelTree) (values : List Value) (h : Here) (m : Memory) →
    Covers n (catching data_end turns within handlers level tries (Exiting label values h m))
covers_catching data_end zero within l level tries label values h m = covers_out data_end (ready_holds within label l) label values h m
covers_catching data_end (suc turns) within {handlers = handlers} l level tries label values h m =
    covers_handled data_end (ready_holds within label l) level tries label values h m (catching data_end turns true handlers level tries)
    (λ v h m. covers_gives v h m)
    (λ label values h m. covers_catching data_end turns true l level tries label values h m)
    (λ v h m. covers_raises v h m)
