-- What is drawn gives a word, or stops out of fuel, where its names are bound to words.
use Rattle.std.proofs.Common.{◌≡◌, ℕ, zero, suc, ◌+◌, ◌-◌, Bool, true, false, not, cond, ◌==◌, List, [], ◌∷◌, ◌++◌, Option, Some, Result, Ok, length, map, drop, get_or, codes, slice_get, refl, ap, sym, ◌∙◌, subst, arith}
use Rattle.std.proofs.lemmas.List.{get_or_at}
use Rattle.bs_words.specs.Memory.{Memory, HeapBlock, sizes, in_block, loaded_from, loaded, value_of_type, end_of_data, allocated, next_block}
use Rattle.bs_words.specs.Operators.{apply, truth, signed_holds}
use Rattle.bs_words.specs.Word.{add_word, sub_word, mul_word}
use Rattle.bs_words.specs.declared.operators.CmpOp.TheVariants.{Lt}
use Rattle.bs_words.specs.declared.operators.IntOp.{IntOp}
use Rattle.bs_words.specs.declared.operators.IntOp.TheVariants.{Add, Sub, Mul, Cmp}
use Rattle.bs_words.specs.declared.types.Chunk.TheVariants as chunk
use Rattle.bs_words.specs.declared.types.Ty.{Ty}
use Rattle.bs_words.specs.declared.types.Ty.TheVariants as ty
use Rattle.bs_words.specs.declared.values.Kind.{Kind}
use Rattle.bs_words.specs.declared.values.Value.{Value}
use Rattle.bs_words.specs.declared.values.Value.TheVariants.{Word, Block}
use Rattle.cmm_tree.specs.Tree.{Expression, Integer, Name, Operator, Load, Alloc, If, Raise, Try, NoMore, More}
use Rattle.cmm_types.specs.Light.{is_light_address}
use Rattle.cmm_types.specs.Types.{Scoped, type_named, holds_float, unless_float, type_of}
use Rattle.cmm_meaning.specs.State.{World, Binding, Here, scope, value_of, outermost, back_in, deepened, taken, within_try}
use Rattle.cmm_meaning.specs.Evaluation.{OutOfFuel, Evaluated, Evaluation, Gives, Raises, Stops, Surroundings, and_then, with_value, spend, typed, both, unless_light, is_left_first, proper, tested, with_bound, looked_up, back, tried, node, evaluated, waiting, filled}
use Rattle.cmm_gen.specs.Drawn.{Drawn}
use Rattle.cmm_gen.proofs.Trees.{number_word, IsTreeOf, number, variable, sum, difference, product, choice, cell, attempt}
use Rattle.cmm_gen.proofs.Typed.{HasInts, raised, is_int, no_light_address, test_is_int, guarded_is_int, pair_without_float}

-- a name that is bound to a word
pub record IsWord (names : List Binding) (name : List ℕ) : Type 0 where
  pub word : ℕ
  pub value : value_of names name ≡ Some (Word word)
  pub type : type_named (map (λ (b : Binding). b.scoped) names) name ≡ ty.Int

-- so are `x` and `y`
pub record HasWords (names : List Binding) : Type 0 where
  pub x : IsWord names (codes "x")
  pub y : IsWord names (codes "y")

-- An evaluation that gives a word with these names bound, or raises one where it may, or is out of fuel.
pub data IsFine (may_raise : Bool) (names : List Binding) : Evaluation → Type 0 where
  a_word : (v : ℕ) (h : Here) (w : World) → h.names ≡ names → IsFine may_raise names (Gives (Some (Word v)) h w)
  a_raise : (v : ℕ) (h : Here) (w : World) → may_raise ≡ true → h.names ≡ names → IsFine may_raise names (Raises (Word v) h w)
  spent : (w : World) → IsFine may_raise names (Stops OutOfFuel w)

-- what goes on with a word
abbrev pub GoesOn : Bool → List Binding → (Value → Here → World → Evaluation) → Type 0
GoesOn may_raise names go = (v : ℕ) (h : Here) (w : World) → h.names ≡ names → IsFine may_raise names (go (Word v) h w)

pub on_word : (r : Bool) (names : List Binding) (e : Evaluation) (go : Value → Here → World → Evaluation) → IsFine r names e → GoesOn r names go → IsFine r names (with_value e go)
on_word r names _ go (a_word v h w same) f = f v h w same
on_word r names _ go (a_raise v h w may same) f = a_raise v h w may same
on_word r names _ go (spent w) f = spent w

pub with_fuel : (r : Bool) (names : List Binding) (left : ℕ) (w : World) (go : World → Evaluation) → ((w : World) → IsFine r names (go w)) → IsFine r names (spend left w go)
with_fuel r names zero w go f = spent w
with_fuel r names (suc left) w go f = f (record w { left = left })

-- a word fits int, and a raise passes a test
pub as_int : (r : Bool) (names : List Binding) (end : ℕ) (t : Ty) (e : Evaluation) → t ≡ ty.Int → IsFine r names e → IsFine r names (typed end t e)
as_int r names end t _ same (a_word v h w known) =
    let P : Ty → Type 0 = λ u. IsFine r names (typed end u (Gives (Some (Word v)) h w)) in
    subst P (sym same) (a_word v h w known)
as_int r names end t _ same (a_raise v h w may known) = a_raise v h w may known
as_int r names end t _ same (spent w) = spent w

-- the same scope where the same names are bound
pub ints_of : (names : List Binding) → HasWords names → HasInts (map (λ (b : Binding). b.scoped) names)
ints_of names k = record { x = k.x.type; y = k.y.type }

-- ---- one node

module _ (s : Surroundings) (r : Bool) (names : List Binding) where
  pub at_node : (e : Expression) (h : Here) (w : World) (go : World → Evaluation) → type_of (scope h) e ≡ ty.Int → ((w : World) → IsFine r names (go w)) → IsFine r names (node s e h w go)
  at_node e h w go t f =
      with_fuel r names w.left w (λ w. typed s.end (type_of (scope h) e) (go w)) (λ w. as_int r names s.end (type_of (scope h) e) (go w) t (f w))

  -- two operands, whichever comes first
  pub on_both : (b : Bool) (left right : Here → World → Evaluation) (h : Here) (w : World) (go : Value → Value → Here → World → Evaluation)
      → h.names ≡ names
      → ((h : Here) (w : World) → h.names ≡ names → IsFine r names (left h w))
      → ((h : Here) (w : World) → h.names ≡ names → IsFine r names (right h w))
      → ((u v : ℕ) (h : Here) (w : World) → h.names ≡ names → IsFine r names (go (Word u) (Word v) h w))
      → IsFine r names (both b left right h w go)
  on_both false left right h w go same f g k =
      on_word r names (right h w) (λ b h w. with_value (left h w) (λ a h w. go a b h w)) (g h w same) (λ v h w same. on_word r names (left h w) (λ a h w. go a (Word v) h w) (f h w same) (λ u h w same. k u v h w same))
  on_both true left right h w go same f g k =
      on_word r names (left h w) (λ a h w. with_value (right h w) (λ b h w. go a b h w)) (f h w same) (λ u h w same. on_word r names (right h w) (λ b h w. go (Word u) b h w) (g h w same) (λ v h w same. k u v h w same))

-- the outcome of a test is a word
pub of_truth : (r : Bool) (names : List Binding) (b : Bool) (h : Here) (w : World) → h.names ≡ names → IsFine r names (Gives (Some (truth b)) h w)
of_truth r names true h w same = a_word 1 h w same
of_truth r names false h w same = a_word 0 h w same

-- one of two branches
pub of_branch : (r : Bool) (names : List Binding) (b : Bool) (e f : Evaluation) → IsFine r names e → IsFine r names f → IsFine r names (cond b e f)
of_branch r names true e f p q = p
of_branch r names false e f p q = q

pub of_name : (names : List Binding) (n : List ℕ) (h : Here) (k : IsWord names n) → h.names ≡ names → value_of h.names n ≡ Some (Word k.word)
of_name names n h k same = ap (λ (bs : List Binding). value_of bs n) same ∙ k.value

-- ---- scopes that are left

-- after one binding more, the names are those before it
pub without_last : (names : List Binding) (b : Binding) → outermost (length names) (b ∷ names) ≡ names
without_last names b =
    let one : length (b ∷ names) - length names ≡ 1 = omega arith in
    ap (λ n. drop n (b ∷ names)) one

pub unchanged : (names : List Binding) → outermost (length names) names ≡ names
unchanged names =
    let none : length names - length names ≡ 0 = omega arith in
    ap (λ n. drop n names) none

-- ---- what nothing raises

pub may : (r : Bool) (names : List Binding) (e : Evaluation) → IsFine false names e → IsFine r names e
may r names _ (a_word v h w same) = a_word v h w same
may r names _ (a_raise v h w never same) = absurd (cc never)
may r names _ (spent w) = spent w

pub of_back : (names : List Binding) (b : Binding) (here : Here) (e : Evaluation) → here.names ≡ names → IsFine false (b ∷ names) e → IsFine false names (back (length here.names) here.tries e)
of_back names b here _ known (a_word v h w same) =
    let left : outermost (length here.names) h.names ≡ names =
    ap (λ (bs : List Binding). outermost (length bs) h.names) known ∙ ap (outermost (length names)) same ∙ without_last names b in
    a_word v (back_in (length here.names) here.tries h) w left
of_back names b here _ known (a_raise v h w never same) = absurd (cc never)
of_back names b here _ known (spent w) = spent w

of_tried : (names : List Binding) (handler : Value → Here → World → Evaluation) (here : Here) (e : Evaluation) → here.names ≡ names → IsFine true names e → GoesOn false names handler → IsFine false names (tried handler (length here.names) here.tries e)
of_tried names handler here _ known (a_word v h w same) f =
    let left : outermost (length here.names) h.names ≡ names =
    ap (λ (bs : List Binding). outermost (length bs) h.names) known ∙ ap (outermost (length names)) same ∙ unchanged names in
    a_word v (back_in (length here.names) here.tries h) w left
of_tried names handler here _ known (a_raise v h w may same) f =
    let left : outermost (length here.names) h.names ≡ names =
    ap (λ (bs : List Binding). outermost (length bs) h.names) known ∙ ap (outermost (length names)) same ∙ unchanged names in
    f v (back_in (length here.names) here.tries h) w left
of_tried names handler here _ known (spent w) f = spent w

-- ---- a block of two words

-- what is given has a property, or fuel ran out
pub data Holds {A : Type 0} (P : A → Type 0) (names : List Binding) : Evaluated A → Type 0 where
  given : (a : A) (h : Here) (w : World) → P a → h.names ≡ names → Holds P names (Gives a h w)
  stopped : (w : World) → Holds P names (Stops OutOfFuel w)

after : {A B : Type 0} (P : A → Type 0) (Q : B → Type 0) (names : List Binding) (e : Evaluated A) (go : A → Here → World → Evaluated B) → Holds P names e → ((a : A) (h : Here) (w : World) → P a → h.names ≡ names → Holds Q names (go a h w)) → Holds Q names (and_then e go)
after P Q names _ go (given a h w p same) f = f a h w p same
after P Q names _ go (stopped w) f = stopped w

pub data AreOne : List (Option Value) → Type 0 where
  one : (v : ℕ) → AreOne (Some (Word v) ∷ [])

pub data AreTwo : List (Option Value) → Type 0 where
  two : (u v : ℕ) → AreTwo (Some (Word u) ∷ Some (Word v) ∷ [])

-- an operand that is no light address is evaluated before the others
not_light : {B : Type 0} (Q : B → Type 0) (names : List Binding) (b : Bool) (operand : Here → World → Evaluation) (h : Here) (w : World) (go : Option Value → Here → World → Evaluated B) → b ≡ false → IsFine false names (operand h w) → ((v : ℕ) (h : Here) (w : World) → h.names ≡ names → Holds Q names (go (Some (Word v)) h w)) → Holds Q names (unless_light b operand h w go)
not_light Q names b operand h w go dark fine f =
    let P : Bool → Type 0 = λ c. Holds Q names (unless_light c operand h w go) in
    subst P (sym dark) (go_on (operand h w) fine)
  where
    go_on : (e : Evaluation) → IsFine false names e → Holds Q names (with_value e (λ v h w. go (Some v) h w))
    go_on _ (a_word v h w same) = f v h w same
    go_on _ (a_raise v h w never same) = absurd (cc never)
    go_on _ (spent w) = stopped w

-- the last of some blocks
slice_get-last : (sizes : List ℕ) (n : ℕ) → slice_get (sizes ++ n ∷ []) (length sizes) ≡ Some n
slice_get-last [] n = refl
slice_get-last (m ∷ sizes) n = slice_get-last sizes n

sizes-more : (blocks : List HeapBlock) (b : HeapBlock) → slice_get (map (λ (block : HeapBlock). length block.cells) (blocks ++ b ∷ [])) (length blocks) ≡ Some (length b.cells)
sizes-more [] b = refl
sizes-more (c ∷ blocks) b = sizes-more blocks b

-- a block of two words that the mover does not look into
abbrev pub pair_of : ℕ → ℕ → HeapBlock
pair_of u v = record { header = 2299; cells = Word u ∷ Word v ∷ [] }

abbrev pub with_pair : Memory → ℕ → ℕ → Memory
with_pair m u v = record m { blocks = m.blocks ++ pair_of u v ∷ [] }

pub first_cell : (m : Memory) (u v : ℕ) → loaded chunk.Int (with_pair m u v) (Block (length m.blocks) 0) ≡ Ok (Word u)
first_cell m u v =
    let empty : HeapBlock = record { header = 0; cells = [] } in
    let found : get_or (m.blocks ++ pair_of u v ∷ []) (length m.blocks) empty ≡ pair_of u v =
    get_or_at m.blocks (pair_of u v) [] empty (length m.blocks) refl in
    let P : Option ℕ → Type 0 =
    λ o. loaded_from chunk.Int (with_pair m u v) 0 (in_block (length m.blocks) o 8 8) ≡ Ok (Word u) in
    let Q : HeapBlock → Type 0 =
    λ b. value_of_type (end_of_data (with_pair m u v)) ty.Int (get_or b.cells 0 (Word 0)) ≡ Ok (Word u) in
    subst P (sym (sizes-more m.blocks (pair_of u v))) (subst Q (sym found) refl)

-- an expression that is evaluated with these names bound
abbrev pub FineAt : Surroundings → List Binding → Expression → Type 0
FineAt s names e = (tail : Bool) (h : Here) (w : World) → h.names ≡ names → IsFine false names (evaluated s e tail h w)

-- the pointer to a new block of two words
pub data IsCell (names : List Binding) : Evaluation → Type 0 where
  a_cell : (u v : ℕ) (h : Here) (w : World)
      → h.names ≡ names
      → IsCell names (Gives (Some (next_block w.memory)) h (record w { memory = with_pair w.memory u v }))
  no_cell : (w : World) → IsCell names (Stops OutOfFuel w)

as_val : (names : List Binding) (end : ℕ) (t : Ty) (e : Evaluation) → t ≡ ty.Val → IsCell names e → IsCell names (typed end t e)
as_val names end t _ same (a_cell u v h w known) =
    let P : Ty → Type 0 =
    λ x. IsCell names (typed end x (Gives (Some (next_block w.memory)) h (record w { memory = with_pair w.memory u v }))) in
    subst P (sym same) (a_cell u v h w known)
as_val names end t _ same (no_cell w) = no_cell w

of_load : (r : Bool) (names : List Binding) (e : Evaluation) → IsCell names e → IsFine r names (with_value e (λ a h w. proper (loaded chunk.Int w.memory a) w (λ v. Gives (Some v) h w)))
of_load r names _ (a_cell u v h w same) =
    let after : World = record w { memory = with_pair w.memory u v } in
    let P : Result Value Kind → Type 0 = λ x. IsFine r names (proper x after (λ v. Gives (Some v) h after)) in
    subst P (sym (first_cell w.memory u v)) (a_word u h after same)
of_load r names _ (no_cell w) = spent w

module _ (s : Surroundings) (names : List Binding) (first second : Expression) (fine_first : FineAt s names first) (fine_second : FineAt s names second) (dark_first : (scope : List Scoped) → is_light_address scope first ≡ false) (dark_second : (scope : List Scoped) → is_light_address scope second ≡ false) where
  waiting_one : (h : Here) (w : World) → h.names ≡ names → Holds AreOne names (waiting s (More second NoMore) h w)
  waiting_one h w same =
      not_light AreOne names (is_light_address (scope h) second) (evaluated s second false) h w (λ v h w. Gives (v ∷ []) h w)
      (dark_second (scope h))
      (fine_second false h w same)
      (λ v h w same. given (Some (Word v) ∷ []) h w (one v) same)

  pub waiting_two : (h : Here) (w : World) → h.names ≡ names → Holds AreTwo names (waiting s (More first (More second NoMore)) h w)
  waiting_two h w same =
      after AreOne AreTwo names (waiting s (More second NoMore) h w)
      (λ values h w. unless_light (is_light_address (scope h) first) (evaluated s first false) h w (λ v h w. Gives (v ∷ values) h w))
      (waiting_one h w same)
      go_on
    where
      go_on : (values : List (Option Value)) (h : Here) (w : World) → AreOne values → h.names ≡ names → Holds AreTwo names (unless_light (is_light_address (scope h) first) (evaluated s first false) h w (λ v h w. Gives (v ∷ values) h w))
      go_on _ h w (one v) same =
          not_light AreTwo names (is_light_address (scope h) first) (evaluated s first false) h w (λ x h w. Gives (x ∷ Some (Word v) ∷ []) h w)
          (dark_first (scope h))
          (fine_first false h w same)
          (λ u h w same. given (Some (Word u) ∷ Some (Word v) ∷ []) h w (two u v) same)

  filled_two : (e : Evaluated (List (Option Value))) → Holds AreTwo names e → IsCell names (and_then e (λ before h w. and_then (filled s (More first (More second NoMore)) before h w) (λ values h w. proper (allocated w.memory 2299 values) w (λ memory. Gives (Some (next_block w.memory)) h (record w { memory = memory })))))
  filled_two _ (given _ h w (two u v) same) = a_cell u v h w same
  filled_two _ (stopped w) = no_cell w

  of_alloc : (at header_at : ℕ) (tail : Bool) (h : Here) (w : World) → holds_float (Alloc at header_at 2299 (More first (More second NoMore))) ≡ false → h.names ≡ names → IsCell names (evaluated s (Alloc at header_at 2299 (More first (More second NoMore))) tail h w)
  of_alloc at header_at tail h w floatless same =
      go_on w.left w
    where
      go_on : (left : ℕ) (w : World) → IsCell names (spend left w (λ w. typed s.end (type_of (scope h) (Alloc at header_at 2299 (More first (More second NoMore)))) (and_then (waiting s (More first (More second NoMore)) h w) (λ before h w. and_then (filled s (More first (More second NoMore)) before h w) (λ values h w. proper (allocated w.memory 2299 values) w (λ memory. Gives (Some (next_block w.memory)) h (record w { memory = memory })))))))
      go_on zero w = no_cell w
      go_on (suc left) w =
          as_val names s.end _ _ (ap (λ b. unless_float b ty.Val) floatless)
          (filled_two (waiting s (More first (More second NoMore)) h (record w { left = left })) (waiting_two h (record w { left = left }) same))

-- ---- forms

pub ints_at : (names : List Binding) (h : Here) → HasWords names → h.names ≡ names → HasInts (scope h)
ints_at names h k same =
    let P : List Binding → Type 0 = λ bs. HasInts (map (λ (b : Binding). b.scoped) bs) in
    subst P (sym same) (ints_of names k)

pub of_looked_up : (r : Bool) (names : List Binding) (o : Option Value) (v : ℕ) (h : Here) (w : World) → o ≡ Some (Word v) → h.names ≡ names → IsFine r names (looked_up o h w)
of_looked_up r names o v h w found same =
    let P : Option Value → Type 0 = λ x. IsFine r names (looked_up x h w) in
    subst P (sym found) (a_word v h w same)

module _ (s : Surroundings) (names : List Binding) where
  of_operator : (r : Bool) (at : ℕ) (op : IntOp) (left right : Expression) (tail : Bool) (h : Here) (w : World)
      → type_of (scope h) (Operator at op left right) ≡ ty.Int
      → ((u v : ℕ) (h : Here) (w : World) → h.names ≡ names → IsFine r names (proper (apply op (sizes w.memory) (Word u) (Word v)) w (λ x. Gives (Some x) h w)))
      → FineAt s names left
      → FineAt s names right
      → h.names ≡ names
      → IsFine r names (evaluated s (Operator at op left right) tail h w)
  of_operator r at op left right tail h w int gives f g same =
      at_node s r names (Operator at op left right) h w _ int (λ w.
      on_both s r names (is_left_first (scope h) left right) (evaluated s left false) (evaluated s right false) h w _ same
      (λ h w same. may r names _ (f false h w same))
      (λ h w same. may r names _ (g false h w same))
      gives)

  pub of_sum : (r : Bool) (at : ℕ) (left right : Expression) (tail : Bool) (h : Here) (w : World) → type_of (scope h) (Operator at Add left right) ≡ ty.Int → FineAt s names left → FineAt s names right → h.names ≡ names → IsFine r names (evaluated s (Operator at Add left right) tail h w)
  of_sum r at left right tail h w int = of_operator r at Add left right tail h w int (λ u v h w same. a_word (add_word u v) h w same)

  of_difference : (at : ℕ) (left right : Expression) (tail : Bool) (h : Here) (w : World) → type_of (scope h) (Operator at Sub left right) ≡ ty.Int → FineAt s names left → FineAt s names right → h.names ≡ names → IsFine false names (evaluated s (Operator at Sub left right) tail h w)
  of_difference at left right tail h w int = of_operator false at Sub left right tail h w int (λ u v h w same. a_word (sub_word u v) h w same)

  of_product : (at : ℕ) (left right : Expression) (tail : Bool) (h : Here) (w : World) → type_of (scope h) (Operator at Mul left right) ≡ ty.Int → FineAt s names left → FineAt s names right → h.names ≡ names → IsFine false names (evaluated s (Operator at Mul left right) tail h w)
  of_product at left right tail h w int = of_operator false at Mul left right tail h w int (λ u v h w same. a_word (mul_word u v) h w same)

  of_test : (r : Bool) (at : ℕ) (left right : Expression) (tail : Bool) (h : Here) (w : World) → type_of (scope h) (Operator at (Cmp Lt) left right) ≡ ty.Int → FineAt s names left → FineAt s names right → h.names ≡ names → IsFine r names (evaluated s (Operator at (Cmp Lt) left right) tail h w)
  of_test r at left right tail h w int = of_operator r at (Cmp Lt) left right tail h w int (λ u v h w same. of_truth r names (signed_holds Lt u v) h w same)

  of_if : (r : Bool) (at : ℕ) (test on_true on_false : Expression) (tail : Bool) (h : Here) (w : World)
      → type_of (scope h) (If at test on_true on_false) ≡ ty.Int
      → ((h : Here) (w : World) → h.names ≡ names → IsFine r names (evaluated s test false h w))
      → ((h : Here) (w : World) → h.names ≡ names → IsFine r names (evaluated s on_true tail h w))
      → ((h : Here) (w : World) → h.names ≡ names → IsFine r names (evaluated s on_false tail h w))
      → h.names ≡ names
      → IsFine r names (evaluated s (If at test on_true on_false) tail h w)
  of_if r at test on_true on_false tail h w int f g k same =
      at_node s r names (If at test on_true on_false) h w _ int (λ w.
      on_word r names (evaluated s test false h w) _ (f h w same) (λ c h w same.
      of_branch r names (not (c == 0)) (evaluated s on_true tail h w) (evaluated s on_false tail h w) (g h w same) (k h w same)))

  -- a raise of 1
  of_raise : (at one_at : ℕ) (tail : Bool) (h : Here) (w : World) → h.names ≡ names → IsFine true names (evaluated s (Raise at (Integer one_at 1)) tail h w)
  of_raise at one_at tail h w same =
      with_fuel true names w.left w _ (λ w. raised_one w.left w)
    where
      raised_one : (left : ℕ) (w : World) → IsFine true names (typed s.end ty.Never (with_value (spend left w (λ w. typed s.end ty.Int (Gives (Some (Word 1)) h w))) (λ v h w. tested s.end ty.Val v w (Raises v h w))))
      raised_one zero w = spent w
      raised_one (suc left) w = a_raise 1 h (record w { left = left }) refl same

  of_try : (at : ℕ) (body : Expression) (name_at : ℕ) (handler : Expression) (tail : Bool) (h : Here) (w : World)
      → type_of (scope h) (Try at body name_at (codes "z") handler) ≡ ty.Int
      → ((h : Here) (w : World) → h.names ≡ names → IsFine true names (evaluated s body false h w))
      → ((v : ℕ) (h : Here) (w : World) → h.names ≡ (record { scoped = raised; value = Word v } ∷ names) → IsFine false (record { scoped = raised; value = Word v } ∷ names) (evaluated s handler tail h w))
      → h.names ≡ names
      → IsFine false names (evaluated s (Try at body name_at (codes "z") handler) tail h w)
  of_try at body name_at handler tail h w int f g same =
      at_node s false names (Try at body name_at (codes "z") handler) h w _ int (λ w.
      of_tried names
      (λ v h w. back (length h.names) h.tries (evaluated s handler tail (with_bound (raised ∷ []) (v ∷ []) h) w))
      h
      (evaluated s body false (within_try h) (deepened (taken (within_try h)) w))
      same
      (f (within_try h) (deepened (taken (within_try h)) w) same)
      (λ v h w same. of_back names (record { scoped = raised; value = Word v }) h (evaluated s handler tail (with_bound (raised ∷ []) (Word v ∷ []) h) w) same (g v (with_bound (raised ∷ []) (Word v ∷ []) h) w (ap (λ (bs : List Binding). record { scoped = raised; value = Word v } ∷ bs) same))))

-- after the name of a raised value
below_raised : (names : List Binding) (v : ℕ) → HasWords names → HasWords (record { scoped = raised; value = Word v } ∷ names)
below_raised names v k =
    record {
      x = record { word = k.x.word; value = k.x.value; type = k.x.type };
      y = record { word = k.y.word; value = k.y.value; type = k.y.type };
    }

-- what is drawn gives a word, or stops out of fuel
pub drawn_word : (s : Surroundings) (d : Drawn) (e : Expression) (names : List Binding) → IsTreeOf d e → HasWords names → FineAt s names e
drawn_word s _ _ names (number draw at) k tail h w same = at_node s false names (Integer at (number_word draw)) h w _ refl (λ w. a_word (number_word draw) h w same)
drawn_word s _ _ names (variable true at) k tail h w same =
    at_node s false names (Name at (codes "x")) h w _ (ints_at names h k same).x (λ w. of_looked_up false names _ k.x.word h w (of_name names (codes "x") h k.x same) same)
drawn_word s _ _ names (variable false at) k tail h w same =
    at_node s false names (Name at (codes "y")) h w _ (ints_at names h k same).y (λ w. of_looked_up false names _ k.y.word h w (of_name names (codes "y") h k.y same) same)
drawn_word s d e names (sum a b at left right l r) k tail h w same =
    of_sum s names false at left right tail h w (is_int d e (scope h) (sum a b at left right l r) (ints_at names h k same)) (drawn_word s a left names l k) (drawn_word s b right names r k) same
drawn_word s d e names (difference a b at left right l r) k tail h w same =
    of_difference s names at left right tail h w (is_int d e (scope h) (difference a b at left right l r) (ints_at names h k same)) (drawn_word s a left names l k) (drawn_word s b right names r k) same
drawn_word s d e names (product a b at left right l r) k tail h w same =
    of_product s names at left right tail h w (is_int d e (scope h) (product a b at left right l r) (ints_at names h k same)) (drawn_word s a left names l k) (drawn_word s b right names r k) same
drawn_word s d e names (choice a b c d' at test_at left right on_true on_false l r t f) k tail h w same =
    of_if s names false at (Operator test_at (Cmp Lt) left right) on_true on_false tail h w
    (is_int d e (scope h) (choice a b c d' at test_at left right on_true on_false l r t f) (ints_at names h k same))
    (λ h w same. of_test s names false test_at left right false h w (test_is_int a b test_at left right (scope h) l r) (drawn_word s a left names l k) (drawn_word s b right names r k) same)
    (drawn_word s c on_true names t k tail)
    (drawn_word s d' on_false names f k tail)
    same
drawn_word s d e names (cell a b at alloc_at header_at first second l r) k tail h w same =
    at_node s false names (Load at chunk.Int (Alloc alloc_at header_at 2299 (More first (More second NoMore)))) h w _
    (is_int d e (scope h) (cell a b at alloc_at header_at first second l r) (ints_at names h k same))
    (λ w.
    of_load false names _ (of_alloc s names first second (drawn_word s a first names l k) (drawn_word s b second names r k) (λ scope. no_light_address a first scope l) (λ scope. no_light_address b second scope r) alloc_at header_at false h w (pair_without_float a b alloc_at header_at first second l r) same))
drawn_word s d e names (attempt a b c d' at if_at test_at raise_at one_at name_at left right on_false handler l r f g) k tail h w same =
    of_try s names at (If if_at (Operator test_at (Cmp Lt) left right) (Raise raise_at (Integer one_at 1)) on_false) name_at handler tail h w
    (is_int d e (scope h) (attempt a b c d' at if_at test_at raise_at one_at name_at left right on_false handler l r f g) (ints_at names h k same))
    (λ h w same.
    of_if s names true if_at (Operator test_at (Cmp Lt) left right) (Raise raise_at (Integer one_at 1)) on_false false h w
    (guarded_is_int a b c if_at test_at raise_at one_at left right on_false (scope h) l r f (ints_at names h k same))
    (λ h w same. of_test s names true test_at left right false h w (test_is_int a b test_at left right (scope h) l r) (drawn_word s a left names l k) (drawn_word s b right names r k) same)
    (λ h w same. of_raise s names raise_at one_at false h w same)
    (λ h w same. may true names _ (drawn_word s c on_false names f k false h w same))
    same)
    (λ v h w same. drawn_word s d' handler (record { scoped = raised; value = Word v } ∷ names) g (below_raised names v k) tail h w same)
    same
