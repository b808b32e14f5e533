-- What is drawn binds no address.
use Rattle.std.proofs.Common.{◌≡◌, ℕ, zero, suc, ◌+◌, ◌⊎◌, inl, inr, Bool, true, false, cond, List, [], ◌∷◌, ◌++◌, Option, Some, None, codes, refl, ap, sym, subst}
use Rattle.std.specs.List.{Contains}
use Rattle.bs_words.specs.declared.types.Ty.{Ty}
use Rattle.bs_words.specs.declared.types.Ty.TheVariants as ty
use Rattle.cmm_tree.specs.Place.{place_of}
use Rattle.cmm_tree.specs.Tree.{Expression, Integer, Symbol, Name, Let, Operator, Load, Alloc, App, Raise, If, Try, Expressions, NoMore, More, NoBinding, Bind, FunctionTree, ItemTree, FileTree, functions_among}
use Rattle.cmm_types.specs.Light.{is_light_address}
use Rattle.cmm_types.specs.Types.{Scoped, unless_float, type_of, is_address}
use Rattle.cmm_types.proofs.Containing.{contains_none, contains_cases}
use Rattle.walk_tables.specs.Walks
use Rattle.walk_tables.specs.Walks.{Event, Binds, Uses, Passes, Slotted, names, slot_of, Task, Does, Evaluates, Enters, OneOf, MayRaise, Raises, Handles, operand, operand_uses, waiting, filled_slots, all_operands, used_at, tasks_of, entering, handling, behind_raise, Walk, walk_tasks}
use Rattle.cmm_tree.specs.Measures.{count_of}
use Rattle.walk_tables.specs.AddrLive.{IsLive}
use Rattle.cmm_gen.specs.Drawn.{Drawn, DrawnFunction}
use Rattle.cmm_gen.proofs.Trees
use Rattle.cmm_gen.proofs.Trees.{IsTreeOf, IsBodyOf, IsFunctionTreeOf, AreItemsOf, number, variable, sum, difference, product, choice, cell, attempt}
use Rattle.cmm_gen.proofs.Typed.{HasInts, raised, bound_int, is_int, ints_below, test_is_int, pair_without_float, inner_let}

-- ---- events that bind no address

pub data IsPlain : Event → Type 0 where
  binds : (slot at : ℕ) → IsPlain (Binds slot false at)
  uses : (slot at : ℕ) → IsPlain (Uses slot at)
  passes : (at : ℕ) → IsPlain (Passes at)

pub data ArePlain : List Event → Type 0 where
  none : ArePlain []
  more : (event : Event) (events : List Event) → IsPlain event → ArePlain events → ArePlain (event ∷ events)

no_address : (before behind : List Event) (slot at : ℕ) → ArePlain (before ++ Binds slot true at ∷ behind) → ⊥
no_address [] behind slot at (more _ _ p ps) = elim p [ ]
no_address (event ∷ before) behind slot at (more _ _ p ps) = no_address before behind slot at ps

-- ---- expressions whose operands and values are no addresses

mutual
  pub data Settles : List Scoped → Expression → Type 0 where
    integer : (scope : List Scoped) (at word : ℕ) → Settles scope (Integer at word)
    symbol : (scope : List Scoped) (at : ℕ) (name : List ℕ) → Settles scope (Symbol at name)
    a_name : (scope : List Scoped) (at : ℕ) (name : List ℕ) → Settles scope (Name at name)
    operator : (scope : List Scoped) (at : ℕ) (op : _) (left right : Expression) → AreSettled scope (More left (More right NoMore)) → Settles scope (Operator at op left right)
    load : (scope : List Scoped) (at : ℕ) (chunk : _) (address : Expression) → AreSettled scope (More address NoMore) → Settles scope (Load at chunk address)
    alloc : (scope : List Scoped) (at header_at header : ℕ) (operands : Expressions) → AreSettled scope operands → Settles scope (Alloc at header_at header operands)
    app : (scope : List Scoped) (at : ℕ) (callee : Expression) (arguments : Expressions) (result : _) (result_at : ℕ) → AreSettled scope (More callee arguments) → Settles scope (App at callee arguments result result_at)
    raise : (scope : List Scoped) (at : ℕ) (value : Expression) → AreSettled scope (More value NoMore) → Settles scope (Raise at value)
    branch : (scope : List Scoped) (at : ℕ) (test on_true on_false : Expression) → AreSettled scope (More test NoMore) → Settles scope on_true → Settles scope on_false → Settles scope (If at test on_true on_false)
    try_it : (scope : List Scoped) (at : ℕ) (body : Expression) (name_at : ℕ) (name : List ℕ) (handler : Expression) → Settles scope body → Settles (record { name = name; type = ty.Val; mutable = false } ∷ scope) handler → Settles scope (Try at body name_at name handler)
    one_let : (scope : List Scoped) (at name_at : ℕ) (name : List ℕ) (value body : Expression) → Settles scope value → is_address (type_of scope value) ≡ false → Settles (record { name = name; type = type_of scope value; mutable = false } ∷ scope) body → Settles scope (Let at (Bind name_at name None value NoBinding) body)

  pub data AreSettled : List Scoped → Expressions → Type 0 where
    none : (scope : List Scoped) → AreSettled scope NoMore
    more : (scope : List Scoped) (e : Expression) (rest : Expressions) → Settles scope e → is_address (type_of scope e) ≡ false → AreSettled scope rest → AreSettled scope (More e rest)

-- ---- tasks that bind no address

pub data IsSettled : Task → Type 0 where
  does : (event : Event) → IsPlain event → IsSettled (Does event)
  evaluates : (scope : List Slotted) (slot : ℕ) (e : Expression) → Settles (names scope) e → IsSettled (Evaluates scope slot e)
  enters : (scope : List Slotted) (slot name_at : ℕ) (name : List ℕ) (value body : Expression) → Settles (names scope) value → is_address (type_of (names scope) value) ≡ false → Settles (record { name = name; type = type_of (names scope) value; mutable = false } ∷ names scope) body → IsSettled (Enters scope slot (Bind name_at name None value NoBinding) body)
  enters_body : (scope : List Slotted) (slot : ℕ) (body : Expression) → Settles (names scope) body → IsSettled (Enters scope slot NoBinding body)
  one_of : (scope : List Slotted) (slot : ℕ) (es : List Expression) → ((e : Expression) → Contains es e → Settles (names scope) e) → IsSettled (OneOf scope slot es)
  may_raise : IsSettled MayRaise
  raises : IsSettled Raises
  handles : (scope : List Slotted) (slot name_at : ℕ) (name : List ℕ) (handler : Expression) → Settles (record { name = name; type = ty.Val; mutable = false } ∷ names scope) handler → IsSettled (Handles scope slot name_at name handler)

pub data AreTasks : List Task → Type 0 where
  none : AreTasks []
  more : (t : Task) (ts : List Task) → IsSettled t → AreTasks ts → AreTasks (t ∷ ts)

joined : (ts us : List Task) → AreTasks ts → AreTasks us → AreTasks (ts ++ us)
joined _ us none q = q
joined _ us (more t ts p ps) q = more t (ts ++ us) p (joined ts us ps q)

one : (t : Task) → IsSettled t → AreTasks (t ∷ [])
one t p = more t [] p none

taken : (at slot n : ℕ) → AreTasks (operand_uses at slot n)
taken at slot zero = none
taken at slot (suc n) = more _ _ (does _ (uses slot at)) (taken at (suc slot) n)

first_of : (b : Bool) (ts us : List Task) → AreTasks ts → AreTasks us → AreTasks (cond b ts us)
first_of true ts us p q = p
first_of false ts us p q = q

an_operand : (scope : List Slotted) (free slot : ℕ) (e : Expression) → Settles (names scope) e → is_address (type_of (names scope) e) ≡ false → AreTasks (operand scope free slot e)
an_operand scope free slot e p word =
    let P : Bool → Type 0 = λ b. AreTasks (Evaluates scope free e ∷ Does (Binds slot b (place_of e)) ∷ []) in
    subst P (sym word) (more _ _ (evaluates scope free e p) (one _ (does _ (binds slot (place_of e)))))

are_waiting : (scope : List Slotted) (free slot : ℕ) (es : Expressions) → AreSettled (names scope) es → AreTasks (waiting scope free slot es)
are_waiting scope free slot NoMore p = none
are_waiting scope free slot (More e rest) (AreSettled.more _ _ _ p word ps) =
    joined _ _
    (are_waiting scope free (suc slot) rest ps)
    (first_of (is_light_address (names scope) e) [] (operand scope free slot e) none (an_operand scope free slot e p word))

are_filled : (scope : List Slotted) (free slot : ℕ) (es : Expressions) → AreSettled (names scope) es → AreTasks (filled_slots scope free slot es)
are_filled scope free slot NoMore p = none
are_filled scope free slot (More e rest) (AreSettled.more _ _ _ p word ps) =
    joined _ _
    (are_filled scope free (suc slot) rest ps)
    (first_of (is_light_address (names scope) e) (operand scope free slot e) [] (an_operand scope free slot e p word) none)

are_operands : (scope : List Slotted) (slot : ℕ) (es : Expressions) → AreSettled (names scope) es → AreTasks (all_operands scope slot es)
are_operands scope slot es p =
    joined _ _ (are_waiting scope (slot + count_of es) slot es p) (are_filled scope (slot + count_of es) slot es p)

are_used : (at : ℕ) (o : Option ℕ) → AreTasks (used_at at o)
are_used at None = none
are_used at (Some slot) = one _ (does _ (uses slot at))

two_cases : (scope : List Scoped) (a b e : Expression) → Settles scope a → Settles scope b → Contains (a ∷ b ∷ []) e → Settles scope e
two_cases scope a b e p q c =
    go (contains_cases a (b ∷ []) e c)
  where
    last : (b ≡ e) ⊎ Contains [] e → Settles scope e
    last (inl same) = subst (Settles scope) same q
    last (inr c) = absurd (contains_none e c)

    go : (a ≡ e) ⊎ Contains (b ∷ []) e → Settles scope e
    go (inl same) = subst (Settles scope) same p
    go (inr c) = last (contains_cases b [] e c)

-- the tasks of a form
are_tasks : (scope : List Slotted) (slot : ℕ) (e : Expression) → Settles (names scope) e → AreTasks (tasks_of scope slot e)
are_tasks scope slot _ (integer _ at word) = none
are_tasks scope slot _ (symbol _ at name) = none
are_tasks scope slot _ (a_name _ at name) = are_used at (slot_of scope name)
are_tasks scope slot _ (operator _ at op left right p) =
    joined _ _ (are_operands scope slot (More left (More right NoMore)) p) (taken at slot 2)
are_tasks scope slot _ (load _ at chunk address p) = joined _ _ (are_operands scope slot (More address NoMore) p) (taken at slot 1)
are_tasks scope slot _ (alloc _ at header_at header operands p) =
    joined _ _
    (are_waiting scope (slot + count_of operands) slot operands p)
    (more _ _ (does _ (passes at))
    (joined _ _ (are_filled scope (slot + count_of operands) slot operands p) (taken at slot (count_of operands))))
are_tasks scope slot _ (app _ at callee arguments result result_at p) =
    joined _ _
    (are_operands scope slot (More callee arguments) p)
    (joined _ _ (taken at slot (suc (count_of arguments))) (more _ _ (does _ (passes at)) (one _ may_raise)))
are_tasks scope slot _ (raise _ at value p) =
    joined _ _ (joined _ _ (are_operands scope slot (More value NoMore) p) (taken at slot 1)) (one _ raises)
are_tasks scope slot _ (branch _ at test on_true on_false p q r) =
    joined _ _
    (joined _ _ (are_operands scope slot (More test NoMore) p) (taken at slot 1))
    (one _ (one_of scope slot (on_true ∷ on_false ∷ []) (λ e c. two_cases (names scope) on_true on_false e q r c)))
are_tasks scope slot _ (try_it _ at body name_at name handler p q) =
    more _ _ (evaluates scope slot body p) (one _ (handles scope slot name_at name handler q))
are_tasks scope slot _ (one_let _ at name_at name value body p word q) = one _ (enters scope slot name_at name value body p word q)

are_handling : (scope : List Slotted) (slot name_at : ℕ) (name : List ℕ) (handler : Expression) → Settles (record { name = name; type = ty.Val; mutable = false } ∷ names scope) handler → AreTasks (handling scope slot name_at name handler)
are_handling scope slot name_at name handler p =
    more _ _ (does _ (binds slot name_at)) (one _ (evaluates (record { scoped = record { name = name; type = ty.Val; mutable = false }; slot = slot } ∷ scope) (suc slot) handler p))

-- where a raise leads
some_tasks : (ts us : List Task) → Some ts ≡ Some us → ts ≡ us
some_tasks ts us e = cc e

behind : (tasks handler : List Task) → AreTasks tasks → behind_raise tasks ≡ Some handler → AreTasks handler
behind _ handler none e = cc e
behind _ handler (more _ rest (handles scope slot name_at name body p) ps) e =
    subst AreTasks (some_tasks _ _ e) (joined _ _ (are_handling scope slot name_at name body p) ps)
behind _ handler (more _ rest (does event p) ps) e = behind rest handler ps e
behind _ handler (more _ rest (evaluates scope slot x p) ps) e = behind rest handler ps e
behind _ handler (more _ rest (enters scope slot name_at name value body p word q) ps) e = behind rest handler ps e
behind _ handler (more _ rest (enters_body scope slot body p) ps) e = behind rest handler ps e
behind _ handler (more _ rest (one_of scope slot es p) ps) e = behind rest handler ps e
behind _ handler (more _ rest may_raise ps) e = behind rest handler ps e
behind _ handler (more _ rest raises ps) e = behind rest handler ps e

are_entering : (scope : List Slotted) (slot name_at : ℕ) (name : List ℕ) (value body : Expression) → Settles (names scope) value → is_address (type_of (names scope) value) ≡ false → Settles (record { name = name; type = type_of (names scope) value; mutable = false } ∷ names scope) body → AreTasks (entering scope slot (Bind name_at name None value NoBinding) body)
are_entering scope slot name_at name value body p word q =
    let bound : Slotted = record { scoped = record { name = name; type = type_of (names scope) value; mutable = false }; slot = slot } in
    let P : Bool → Type 0 = λ b. AreTasks (Evaluates scope slot value ∷ Does (Binds slot b name_at) ∷ Enters (bound ∷ scope) (suc slot) NoBinding body ∷ []) in
    subst P (sym word)
    (more _ _ (evaluates scope slot value p)
    (more _ _ (does _ (binds slot name_at)) (one _ (enters_body (bound ∷ scope) (suc slot) body q))))

-- ---- walks

-- what a step of a walk leaves
record Stepped (events : List Event) (left : List Task) : Type 0 where
  plain : ArePlain events
  tasks : AreTasks left

quiet : (left : List Task) → AreTasks left → Stepped [] left
quiet left ts = record { plain = none; tasks = ts }

plain_step : (tasks left : List Task) (events : List Event) → Walks.NextTasks tasks events left → AreTasks tasks → Stepped events left
plain_step _ _ _ (Walks.does event tasks) (more _ _ (does _ p) ps) = record { plain = more event [] p none; tasks = ps }
plain_step _ _ _ (Walks.evaluates scope slot e tasks) (more _ _ (evaluates _ _ _ p) ps) =
    quiet _ (joined _ _ (are_tasks scope slot e p) ps)
plain_step _ _ _ (Walks.enters scope slot _ body tasks) (more _ _ (enters _ _ name_at name value _ p word q) ps) =
    quiet _ (joined _ _ (are_entering scope slot name_at name value body p word q) ps)
plain_step _ _ _ (Walks.enters scope slot _ body tasks) (more _ _ (enters_body _ _ _ p) ps) =
    quiet _ (more _ _ (evaluates scope slot body p) ps)
plain_step _ _ _ (Walks.one_of scope slot es e tasks c) (more _ _ (one_of _ _ _ p) ps) =
    quiet _ (more _ _ (evaluates scope slot e (p e c)) ps)
plain_step _ _ _ (Walks.goes_on tasks) (more _ _ p ps) = quiet tasks ps
plain_step _ _ _ (Walks.may_raise tasks) (more _ _ p ps) = quiet _ (more _ _ raises ps)
plain_step _ _ _ (Walks.raises tasks handler e) (more _ _ p ps) = quiet handler (behind tasks handler ps e)
plain_step _ _ _ (Walks.exits label tasks handler e) (more _ _ p ps) = elim p [ ]
plain_step _ _ _ (Walks.leaves_catch scope slot in_handler handlers tasks) (more _ _ p ps) = elim p [ ]
plain_step _ _ _ (Walks.leaves_try scope slot name_at name handler tasks) (more _ _ p ps) = quiet tasks ps

plain_joined : (es events : List Event) → ArePlain es → ArePlain events → ArePlain (es ++ events)
plain_joined _ events none q = q
plain_joined _ events (more e es p ps) q = more e (es ++ events) p (plain_joined es events ps q)

plain_walk : (tasks : List Task) (events : List Event) → Walk tasks events → AreTasks tasks → ArePlain events
plain_walk _ _ (Walks.stops tasks) p = none
plain_walk _ _ (Walks.goes tasks left es events step walk) p =
    let now = plain_step tasks left es step p in
    plain_joined es events now.plain (plain_walk left events walk now.tasks)

-- ---- what is drawn

an_int : (d : Drawn) (e : Expression) (scope : List Scoped) → IsTreeOf d e → HasInts scope → is_address (type_of scope e) ≡ false
an_int d e scope t i = ap is_address (is_int d e scope t i)

two_settle : (a b : Drawn) (left right : Expression) (scope : List Scoped) → IsTreeOf a left → IsTreeOf b right → HasInts scope → Settles scope left → Settles scope right → AreSettled scope (More left (More right NoMore))
two_settle a b left right scope l r i p q =
    more scope left _ p (an_int a left scope l i) (more scope right NoMore q (an_int b right scope r i) (none scope))

drawn_settles : (d : Drawn) (e : Expression) (scope : List Scoped) → IsTreeOf d e → HasInts scope → Settles scope e
drawn_settles _ _ scope (number draw at) i = integer scope at _
drawn_settles _ _ scope (variable even at) i = a_name scope at _
drawn_settles _ _ scope (sum a b at left right l r) i = operator scope at _ left right (two_settle a b left right scope l r i (drawn_settles a left scope l i) (drawn_settles b right scope r i))
drawn_settles _ _ scope (difference a b at left right l r) i = operator scope at _ left right (two_settle a b left right scope l r i (drawn_settles a left scope l i) (drawn_settles b right scope r i))
drawn_settles _ _ scope (product a b at left right l r) i = operator scope at _ left right (two_settle a b left right scope l r i (drawn_settles a left scope l i) (drawn_settles b right scope r i))
drawn_settles _ _ scope (choice a b c d at test_at left right on_true on_false l r t f) i =
    branch scope at _ on_true on_false
    (more scope _ NoMore (operator scope test_at _ left right (two_settle a b left right scope l r i (drawn_settles a left scope l i) (drawn_settles b right scope r i))) (ap is_address (test_is_int a b test_at left right scope l r)) (none scope))
    (drawn_settles c on_true scope t i)
    (drawn_settles d on_false scope f i)
drawn_settles _ _ scope (cell a b at alloc_at header_at first second l r) i =
    load scope at _ _
    (more scope _ NoMore (alloc scope alloc_at header_at 2299 (More first (More second NoMore)) (two_settle a b first second scope l r i (drawn_settles a first scope l i) (drawn_settles b second scope r i)))
    (ap (λ x. is_address (unless_float x ty.Val)) (pair_without_float a b alloc_at header_at first second l r))
    (none scope))
drawn_settles _ _ scope (attempt a b c d at if_at test_at raise_at one_at name_at left right on_false handler l r f h) i =
    try_it scope at _ name_at (codes "z") handler
    (branch scope if_at _ _ on_false
    (more scope _ NoMore (operator scope test_at _ left right (two_settle a b left right scope l r i (drawn_settles a left scope l i) (drawn_settles b right scope r i))) (ap is_address (test_is_int a b test_at left right scope l r)) (none scope))
    (raise scope raise_at _ (more scope _ NoMore (integer scope one_at 1) refl (none scope)))
    (drawn_settles c on_false scope f i))
    (drawn_settles d handler (raised ∷ scope) h (record { x = i.x; y = i.y }))

body_settles : (j : ℕ) (b : Drawn) (e : Expression) (scope : List Scoped) → IsBodyOf j b e → HasInts scope → type_of scope (Name 0 (codes "p")) ≡ ty.Int → type_of scope (Name 0 (codes "q")) ≡ ty.Int → Settles scope e
body_settles _ _ _ scope (Trees.first b e t) i p q = drawn_settles b e scope t i
body_settles _ _ _ scope (Trees.later k b at app_at symbol_at p_at q_at result_at e t) i p q =
    operator scope at _ _ e
    (more scope _ _
    (app scope app_at _ _ _ result_at
    (more scope _ _ (symbol scope symbol_at _) refl
    (more scope _ _ (a_name scope p_at _) (ap is_address p)
    (more scope _ _ (a_name scope q_at _) (ap is_address q) (none scope)))))
    refl
    (more scope e NoMore (drawn_settles b e scope t i) (an_int b e scope t i) (none scope)))

let_settles : (scope : List Scoped) (at name_at : ℕ) (name : List ℕ) (value body : Expression) → type_of scope value ≡ ty.Int → Settles scope value → Settles (bound_int name ∷ scope) body → Settles scope (Let at (Bind name_at name None value NoBinding) body)
let_settles scope at name_at name value body int p q =
    let P : Ty → Type 0 = λ t. Settles (record { name = name; type = t; mutable = false } ∷ scope) body in
    one_let scope at name_at name value body p (ap is_address int) (subst P (sym int) q)

function_settles : (j : ℕ) (f : DrawnFunction) (tree : FunctionTree) → IsFunctionTreeOf j f tree → AreTasks (walk_tasks tree)
function_settles _ _ _ (Trees.function j f at name_at x_at x_comp_at y_at y_comp_at let_at p_at inner_at q_at tokens p q b pt qt bt) =
    let scope : List Scoped = bound_int (codes "y") ∷ bound_int (codes "x") ∷ [] in
    let i : HasInts scope = record { x = refl; y = refl } in
    let i_p : HasInts (bound_int (codes "p") ∷ scope) = ints_below (codes "p") scope refl refl i in
    let i_q : HasInts (bound_int (codes "q") ∷ bound_int (codes "p") ∷ scope) = ints_below (codes "q") (bound_int (codes "p") ∷ scope) refl refl i_p in
    more _ _ (does _ (binds 0 x_at))
    (more _ _ (does _ (binds 1 y_at))
    (one _ (evaluates _ 2 _
    (let_settles scope let_at p_at (codes "p") p (inner_let inner_at q_at q b) (is_int f.p p scope pt i) (drawn_settles f.p p scope pt i)
    (let_settles (bound_int (codes "p") ∷ scope) inner_at q_at (codes "q") q b (is_int f.q q (bound_int (codes "p") ∷ scope) qt i_p) (drawn_settles f.q q (bound_int (codes "p") ∷ scope) qt i_p)
    (body_settles j f.b b (bound_int (codes "q") ∷ bound_int (codes "p") ∷ scope) bt i_q refl refl))))))

-- a function of the file is what is drawn
pub record IsDrawn (tree : FunctionTree) : Type 0 where
  pub number : ℕ
  pub f : DrawnFunction
  pub is : IsFunctionTreeOf number f tree

one_of_them : (k : ℕ) (fs : List DrawnFunction) (items : List ItemTree) (tree : FunctionTree) → AreItemsOf k fs items → Contains (functions_among items) tree → IsDrawn tree
one_of_them _ _ _ tree (Trees.none k) c = absurd (contains_none tree c)
one_of_them _ _ _ tree (Trees.more k f fs first items is rest) c =
    go (contains_cases first (functions_among items) tree c) (one_of_them (suc k) fs items tree rest)
  where
    go : (first ≡ tree) ⊎ Contains (functions_among items) tree → (Contains (functions_among items) tree → IsDrawn tree) → IsDrawn tree
    go (inl same) later = record { number = k; f = f; is = subst (IsFunctionTreeOf k f) same is }
    go (inr c) later = later c

-- no address of the file is used after a frame point
pub settled : (fs : List DrawnFunction) (file : FileTree) → AreItemsOf 0 fs file.items → (bound point used : ℕ) → ¬ IsLive file bound point used
settled fs file are bound point used live =
    let here : IsDrawn live.f = one_of_them 0 fs file.items live.f are live.of_file in
    let walk = live.live in
    no_address walk.before _ walk.slot bound (plain_walk _ _ walk.walk (function_settles here.number here.f live.f here.is))
