-- How many tokens values have at least: each of several has one of its own.
use Rattle.std.proofs.Common.{◌≡◌, ℕ, ◌+◌, ◌≤◌, suc, List, [], ◌∷◌, ◌++◌, length, Some, None, sym, subst, arith, length-append}
use Rattle.cmm_lex.specs.Token.{TokenTree}
use Rattle.cmm_tree.specs.Tree.{Expression, Nothing, DataListTree, FunctionTree, ItemTree, functions_among, data_among}
use Rattle.cmm_grammar.specs.Parts.{ItemPart, FunctionItem, DataItem, item_of}
use Rattle.cmm_grammar.specs.Rule.{Sort, Value, AnItem, Listed, Rule, Give, One, Then, Expr, Inside, InsideOr, LabelledOr, Until, Maybe, Repeat}
use Rattle.cmm_grammar.specs.Grammar.{a_token, a_data_item, data_items, data_list, parameters, sequence_to_close, a_function, item_rest, an_item}
use Rattle.cmm_grammar.specs.Spelling.{Spells, AreItems, none, more, nothing, token, both, leaf, brackets, parenthesis, inside, inside_first, not_inside, labelled, not_labelled, ended, one_more, present, absent, last, another}
use Rattle.cmm_grammar.proofs.Paid.{moved, Two}

-- every value that the rule gives, n tokens having come before, is so with the number of all tokens
abbrev Counts : {s : Sort} → Rule s → ℕ → (Value s → ℕ → Type 0) → Type 0
Counts (Give s a) n Q = Q a n
Counts (One s f) n Q = (a : Value s) → Q a (1 + n)
Counts (Then s t r k) n Q = Counts r n (λ a m. Counts (k a) m Q)
Counts Expr n Q = (e : Expression) (m : ℕ) → Q e (m + n)
Counts (Inside s r) n Q = (at : ℕ) → Counts (r at) (1 + n) Q
Counts (InsideOr s t r k other) n Q = Two ((at : ℕ) → Counts (r at) (1 + n) (λ a m. Counts (k a) m Q)) (Counts other n Q)
Counts (LabelledOr s t r k other) n Q =
    Two ((name : TokenTree) → Counts (r name) (2 + n) (λ a m. Counts (k a) m Q)) ((e : Expression) (m : ℕ) → Counts (other e) (m + n) Q)
Counts (Until s t stop r k) n Q = (values : List (Value s)) (m : ℕ) → length values ≤ m → Counts (k values) (m + n) Q
Counts (Maybe s t f k) n Q = Two ((a : Value s) → Counts (k (Some a)) (1 + n) Q) (Counts (k None) n Q)
Counts (Repeat s further r) n Q = (values : List (Value s)) (m : ℕ) → Q values (m + n)

-- what holds of every value
always : {s : Sort} (r : Rule s) (n : ℕ) (Q : Value s → ℕ → Type 0) → ((a : Value s) (m : ℕ) → Q a m) → Counts r n Q
always (Give s a) n Q h = h a n
always (One s f) n Q h = λ a. h a _
always (Then s t r k) n Q h = always r n (λ a m. Counts (k a) m Q) (λ a m. always (k a) m Q h)
always Expr n Q h = λ e m. h e _
always (Inside s r) n Q h = λ at. always (r at) (1 + n) Q h
always (InsideOr s t r k other) n Q h =
    record { first = λ at. always (r at) (1 + n) (λ a m. Counts (k a) m Q) (λ a m. always (k a) m Q h); second = always other n Q h }
always (LabelledOr s t r k other) n Q h =
    record { first = λ name. always (r name) (2 + n) (λ a m. Counts (k a) m Q) (λ a m. always (k a) m Q h); second = λ e m. always (other e) (m + n) Q h }
always (Until s t stop r k) n Q h = λ values m some. always (k values) (m + n) Q h
always (Maybe s t f k) n Q h = record { first = λ a. always (k (Some a)) (1 + n) Q h; second = always (k None) n Q h }
always (Repeat s further r) n Q h = λ values m. h values _

counted : (s : Sort) (d : ℕ) (r : Rule s) (a : Value s) (xs : List TokenTree) → Spells s d r a xs → (n : ℕ) (Q : Value s → ℕ → Type 0) → Counts r n Q → Q a (length xs + n)
counted _ _ _ _ _ (nothing s d a) n Q p = moved (Q a) n _ (omega arith) p
counted _ _ _ _ _ (token s d f t a e) n Q p = moved (Q a) (1 + n) _ (omega arith) (p a)
counted _ _ _ _ _ (both s t d r k a b xs ys h g) n Q p =
    let front : Counts (k a) (length xs + n) Q = counted s d r a xs h n (λ a m. Counts (k a) m Q) p in
    moved (Q b) (length ys + (length xs + n)) (length (xs ++ ys) + n) (omega (arith, length-append xs ys)) (counted t d (k a) b ys g (length xs + n) Q front)
counted _ _ _ _ _ (leaf d t e h) n Q p = moved (Q e) (1 + n) _ (omega arith) (p e 1)
counted _ _ _ _ _ (brackets d o c h g) n Q p = moved (Q (Nothing o.at)) (2 + n) _ (omega arith) (p (Nothing o.at) 2)
counted _ _ _ _ _ (parenthesis d o e xs h g) n Q p = moved (Q e) (length xs + 1 + n) (length (o ∷ xs) + n) (omega arith) (p e (length xs + 1))
counted _ _ _ _ _ (inside s d r o a xs h g) n Q p =
    moved (Q a) (length xs + (1 + n)) (length (o ∷ xs) + n) (omega arith) (counted s d (r o.at) a xs g (1 + n) Q (p o.at))
counted _ _ _ _ _ (inside_first s t d r k other o a b xs ys h g i) n Q p =
    let front : Counts (k a) (length xs + (1 + n)) Q = counted s d (r o.at) a xs g (1 + n) (λ a m. Counts (k a) m Q) (p.first o.at) in
    moved (Q b) (length ys + (length xs + (1 + n))) (length (o ∷ (xs ++ ys)) + n) (omega (arith, length-append xs ys)) (counted t (suc d) (k a) b ys i (length xs + (1 + n)) Q front)
counted _ _ _ _ _ (not_inside s t d r k other u b ys h g) n Q p = counted t d other b (u ∷ ys) g n Q p.second
counted _ _ _ _ _ (labelled s t d r k other o name a b xs ys h i g j) n Q p =
    let front : Counts (k a) (length xs + (2 + n)) Q = counted s d (r name) a xs g (2 + n) (λ a m. Counts (k a) m Q) (p.first name) in
    moved (Q b) (length ys + (length xs + (2 + n))) (length (o ∷ name ∷ (xs ++ ys)) + n) (omega (arith, length-append xs ys)) (counted t (suc d) (k a) b ys j (length xs + (2 + n)) Q front)
counted _ _ _ _ _ (not_labelled s t d r k other e b xs ys h g i) n Q p =
    moved (Q b) (length ys + (length xs + n)) (length (xs ++ ys) + n) (omega (arith, length-append xs ys)) (counted t d (other e) b ys i (length xs + n) Q (p.second e (length xs)))
counted _ _ _ _ _ (ended s t d stop r k u b ys h g) n Q p =
    moved (Q b) (length (u ∷ ys) + (0 + n)) (length (u ∷ ys) + n) (omega arith) (counted t d (k []) b (u ∷ ys) g (0 + n) Q (p [] 0 (omega arith)))
counted _ _ _ _ _ (one_more s t d stop r k u a b xs ys h g i) n Q p =
    let m : ℕ = length (u ∷ xs) in
    moved (Q b) (length ys + (m + n)) (length (u ∷ (xs ++ ys)) + n) (omega (arith, length-append xs ys))
    (counted t d (Until s t stop r (λ rest. k (a ∷ rest))) b ys i (m + n) Q (λ values l some.
    moved (λ x. Counts (k (a ∷ values)) x Q) (m + l + n) (l + (m + n)) (omega arith) (p (a ∷ values) (m + l) (omega (arith, some)))))
counted _ _ _ _ _ (present s t d f k u a b ys h g) n Q p =
    moved (Q b) (length ys + (1 + n)) (length (u ∷ ys) + n) (omega arith) (counted t d (k (Some a)) b ys g (1 + n) Q (p.first a))
counted _ _ _ _ _ (absent s t d f k u b ys h g) n Q p = counted t d (k None) b (u ∷ ys) g n Q p.second
counted _ _ _ _ _ (last s d further r a xs h g) n Q p = p (a ∷ []) (length xs)
counted _ _ _ _ _ (another s d further r a values xs ys h g i) n Q p =
    let m : ℕ = length xs in
    moved (Q (a ∷ values)) (length ys + (m + n)) (length (xs ++ ys) + n) (omega (arith, length-append xs ys))
    (counted (Listed s) d (Repeat s further r) values ys i (m + n) (λ others l. Q (a ∷ others) l) (λ others l.
    moved (Q (a ∷ others)) (m + l + n) (l + (m + n)) (omega arith) (p (a ∷ others) (m + l))))

-- ---- items

-- the items of a list of so many tokens
abbrev ItemCounts : ItemPart → ℕ → Type 0
ItemCounts (FunctionItem f) n = Unit {0}
ItemCounts (DataItem d) n = length d.items ≤ n

data_items_count : (at n : ℕ) → Counts (data_items at) n ItemCounts
unfolding data_items a_data_item a_token
data_items_count at n = λ ds m some c. omega (arith, some)

function_counts : (at n : ℕ) → Counts (a_function at) n ItemCounts
unfolding a_function a_token
function_counts at n = λ name place. always parameters _ _ (λ ps m. always sequence_to_close m _ (λ body l. tt))

item_counts : Counts an_item 0 ItemCounts
unfolding an_item item_rest data_list
item_counts = λ at. record {
  first = λ word. function_counts at _;
  second = record { first = λ word. data_items_count at _; second = data_items_count at _ };
}

-- the tokens of all functions
abbrev pub tokens_among : List FunctionTree → ℕ
tokens_among [] = 0
tokens_among (f ∷ fs) = f.tokens + tokens_among fs

-- the items of all lists of static data
abbrev pub items_among : List DataListTree → ℕ
items_among [] = 0
items_among (d ∷ ds) = length d.items + items_among ds

-- Functions and items of static data have tokens of their own.
pub record AreFew (items : List ItemTree) (tokens : ℕ) : Type 0 where
  pub few : tokens_among (functions_among items) + items_among (data_among items) ≤ tokens

few_then : (i : ItemPart) (n : ℕ) (items : List ItemTree) (m : ℕ) → ItemCounts i (n + 0) → AreFew items m → AreFew (item_of n i ∷ items) (n + m)
few_then (FunctionItem f) n items m own p = let few = p.few in record { few = omega (arith, few) }
few_then (DataItem d) n items m own p = let few = p.few in record { few = omega (arith, own, few) }

pub items_few : (d : ℕ) (items : List ItemTree) (tokens : List TokenTree) → AreItems d items tokens → AreFew items (length tokens)
items_few _ _ _ (none d) = record { few = omega arith }
items_few _ _ _ (more d i items xs ys h g) =
    let n : length xs + length ys ≡ length (xs ++ ys) = sym (length-append xs ys) in
    subst (λ (n : ℕ). AreFew (item_of (length xs) i ∷ items) n) n
    (few_then i (length xs) items (length ys) (counted AnItem d an_item i xs h 0 ItemCounts item_counts) (items_few d items ys g))
