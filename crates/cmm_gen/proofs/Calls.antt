-- A function that is drawn gives a word, or stops out of fuel.
use Rattle.std.proofs.Common.{◌≡◌, ℕ, zero, suc, ◌<◌, ◌^◌, Bool, true, false, cond, List, [], ◌∷◌, Option, Some, None, length, map, codes, bytes_eq, slice_get, slice_index, option_map, refl, ap, sym, ◌∙◌, subst, arith}
use Rattle.std.proofs.lemmas.Option.{slice_get-map}
use Rattle.bs_words.specs.declared.types.Comp.{Comp}
use Rattle.bs_words.specs.declared.types.Comp.TheVariants as comp
use Rattle.bs_words.specs.declared.types.Ret.TheVariants as ret
use Rattle.bs_words.specs.declared.types.Ty.{Ty}
use Rattle.bs_words.specs.declared.types.Ty.TheVariants as ty
use Rattle.bs_words.specs.declared.values.Value.{Value}
use Rattle.bs_words.specs.declared.values.Value.TheVariants.{Word, Function}
use Rattle.cmm_data.specs.Placement.{data_end, value_of_symbol}
use Rattle.cmm_tree.specs.Tree.{Expression, Expressions, Symbol, Name, Let, App, NoMore, More, NoBinding, Bind, FunctionTree, FileTree, functions, comps_of}
use Rattle.cmm_types.specs.Types.{binding_of, type_bound_by, type_of}
use Rattle.cmm_meaning.specs.Layout.{Layout}
use Rattle.cmm_meaning.specs.State.{World, Binding, Called, Here, innermost, scope}
use Rattle.cmm_meaning.specs.Evaluation.{OutOfFuel, Evaluated, Evaluation, Gives, Stops, Surroundings, and_then, with_value, spend, typed, tested, looked_up, applied, called_with, back_from_call, as_written, stack_below, back, with_bound, evaluated, waiting, filled}
use Rattle.cmm_meaning.specs.Run.{activated, callees, outside}
use Rattle.cmm_gen.specs.Drawn.{Drawn, DrawnFunction, symbol_of}
use Rattle.cmm_gen.proofs.Trees
use Rattle.cmm_gen.proofs.Trees.{IsTreeOf, IsBodyOf, IsFunctionTreeOf, AreItemsOf}
use Rattle.cmm_gen.proofs.Typed.{bound_int, is_int, inner_let, whole, inner_let_is_int, whole_is_int, sum_is_int}
use Rattle.cmm_gen.proofs.Symbols.{HasFunction, function_at, function_symbol}
use Rattle.cmm_gen.proofs.WordsGiven
use Rattle.cmm_gen.proofs.WordsGiven.{IsWord, HasWords, IsFine, FineAt, Holds, given, stopped, AreTwo, two, at_node, of_looked_up, of_name, of_back, of_sum, ints_of, ints_at, waiting_two, drawn_word}

-- an evaluation that gives a word, or is out of fuel
pub data IsEnd : Evaluation → Type 0 where
  gives : (v : ℕ) (h : Here) (w : World) → IsEnd (Gives (Some (Word v)) h w)
  out : (w : World) → IsEnd (Stops OutOfFuel w)

-- the call of function i on two words
abbrev pub call_on : (i u v below : ℕ) (tail : Bool) (tries : ℕ) → Called
call_on i u v below tail tries =
    record { function = i; arguments = Word u ∷ Word v ∷ []; below = below; tail = tail; tries = tries }

-- function i can be called by its symbol, on two words
pub record CanCall (s : Surroundings) (i : ℕ) : Type 0 where
  pub symbol : s.symbol (symbol_of i) ≡ Some (Function i)
  pub parameters : slice_get s.parameters i ≡ Some (comp.Int ∷ comp.Int ∷ [])
  pub ends : (u v below tries : ℕ) (tail : Bool) (w : World) → IsEnd (s.call (call_on i u v below tail tries) w)

-- `p` and `q` are bound to words as well
pub record HasFour (names : List Binding) : Type 0 where
  pub words : HasWords names
  pub p : IsWord names (codes "p")
  pub q : IsWord names (codes "q")

abbrev pub bound_word : List ℕ → ℕ → Binding
bound_word name v = record { scoped = bound_int name; value = Word v }

of_end : (names : List Binding) (h : Here) (e : Evaluation) → h.names ≡ names → IsEnd e → IsFine false names (and_then (back_from_call h e) (λ v h w. as_written (ret.Comp comp.Int) v h w))
of_end names h _ same (gives v _ w) = WordsGiven.a_word v h w same
of_end names h _ same (out w) = WordsGiven.spent w

module _ (s : Surroundings) (names : List Binding) where
  -- a name that is bound to a word
  of_bound : (at : ℕ) (name : List ℕ) → IsWord names name → FineAt s names (Name at name)
  of_bound at name k tail h w same =
      let P : List Binding → Type 0 = λ bs. type_of (map (λ (b : Binding). b.scoped) bs) (Name at name) ≡ ty.Int in
      at_node s false names (Name at name) h w _ (subst P (sym same) k.type) (λ w. of_looked_up false names _ k.word h w (of_name names name h k same) same)

  -- a call of the function before
  module _ (i : ℕ) (can : CanCall s i) (app_at symbol_at p_at q_at result_at : ℕ) (p : IsWord names (codes "p")) (q : IsWord names (codes "q")) where
    abbrev arguments : Expressions
    arguments = More (Name p_at (codes "p")) (More (Name q_at (codes "q")) NoMore)

    on_words : (u v : ℕ) (tail : Bool) (h : Here) (w : World) → h.names ≡ names → IsFine false names (applied s (Function i) (Word u ∷ Word v ∷ []) (ret.Comp comp.Int) tail h w)
    on_words u v tail h w same =
        let P : Option (List Comp) → Type 0 =
        λ x. IsFine false names (called_with s x i (Word u ∷ Word v ∷ []) (ret.Comp comp.Int) tail h w) in
        subst P (sym can.parameters) (of_end names h _ same (can.ends u v (stack_below tail h) h.tries tail w))

    by_symbol : (u v : ℕ) (tail : Bool) (h : Here) (left : ℕ) (w : World) (o : Option Value) → o ≡ Some (Function i) → h.names ≡ names → IsFine false names (with_value (spend left w (λ w. typed s.end ty.Val (looked_up o h w))) (λ f h w. applied s f (Word u ∷ Word v ∷ []) (ret.Comp comp.Int) tail h w))
    by_symbol u v tail h zero w o found same = WordsGiven.spent w
    by_symbol u v tail h (suc left) w o found same =
        let P : Option Value → Type 0 =
        λ x. IsFine false names (with_value (typed s.end ty.Val (looked_up x h (record w { left = left }))) (λ f h w. applied s f (Word u ∷ Word v ∷ []) (ret.Comp comp.Int) tail h w)) in
        subst P (sym found) (on_words u v tail h (record w { left = left }) same)

    with_two : (tail : Bool) (e : Evaluated (List (Option Value))) → Holds AreTwo names e
        → IsFine false names (and_then e (λ before h w. with_value (evaluated s (Symbol symbol_at (symbol_of i)) false h w) (λ f h w. and_then (filled s arguments before h w) (λ values h w. applied s f values (ret.Comp comp.Int) tail h w))))
    with_two tail _ (given _ h w (two u v) same) = by_symbol u v tail h w.left w _ can.symbol same
    with_two tail _ (stopped w) = WordsGiven.spent w

    of_call : FineAt s names (App app_at (Symbol symbol_at (symbol_of i)) arguments (ret.Comp comp.Int) result_at)
    of_call tail h w same =
        at_node s false names (App app_at (Symbol symbol_at (symbol_of i)) arguments (ret.Comp comp.Int) result_at) h w _ refl (λ w.
        with_two tail (waiting s arguments h w)
        (waiting_two s names (Name p_at (codes "p")) (Name q_at (codes "q")) (of_bound p_at (codes "p") p) (of_bound q_at (codes "q") q) (λ scope. refl) (λ scope. refl) h w same))

-- what a function adds to the call of the one before it
of_body : (s : Surroundings) (names : List Binding) (j : ℕ) (b : Drawn) (e : Expression) → IsBodyOf j b e → ((i : ℕ) → suc i ≡ j → CanCall s i) → HasFour names → FineAt s names e
of_body s names _ _ _ (Trees.first b e t) can k = drawn_word s b e names t k.words
of_body s names _ _ _ (Trees.later i b at app_at symbol_at p_at q_at result_at e t) can k =
    λ tail h w same. of_sum s names false at (App app_at (Symbol symbol_at (symbol_of i)) (More (Name p_at (codes "p")) (More (Name q_at (codes "q")) NoMore)) (ret.Comp comp.Int) result_at) e tail h w (sum_is_int i at app_at symbol_at p_at q_at result_at b e (scope h) t) (of_call s names i (can i refl) app_at symbol_at p_at q_at result_at k.p k.q) (drawn_word s b e names t k.words) same

-- ---- lets

-- after a binding
abbrev bound_as : List ℕ → Ty → Value → Here → World → Evaluation
bound_as name t v h w = Gives None (with_bound (record { name = name; type = t; mutable = false } ∷ []) (v ∷ []) h) w

module _ (s : Surroundings) (names : List Binding) (name : List ℕ) (value body : Expression) (fine_value : FineAt s names value) (fine_body : (v : ℕ) → FineAt s (bound_word name v ∷ names) body) where
  inside : (v : ℕ) (t : Ty) (h here : Here) (w : World) (tail : Bool) → t ≡ ty.Int → h.names ≡ names → here.names ≡ names
      → IsFine false names (and_then (tested s.end t (Word v) w (bound_as name t (Word v) h w)) (λ _ inner w. back (length here.names) here.tries (evaluated s body tail inner w)))
  inside v t h here w tail int same known =
      let P : Ty → Type 0 =
      λ t. IsFine false names (and_then (tested s.end t (Word v) w (bound_as name t (Word v) h w)) (λ _ inner w. back (length here.names) here.tries (evaluated s body tail inner w))) in
      let inner : Here = with_bound (bound_int name ∷ []) (Word v ∷ []) h in
      let entered : inner.names ≡ (bound_word name v ∷ names) = ap (λ (bs : List Binding). bound_word name v ∷ bs) same in
      subst P (sym int) (of_back names (bound_word name v) here (evaluated s body tail inner w) known (fine_body v tail inner w entered))

  entered_with : (e : Evaluation) (here : Here) (tail : Bool) → ((h : Here) → h.names ≡ names → type_of (scope h) value ≡ ty.Int) → here.names ≡ names → IsFine false names e
      → IsFine false names (and_then (with_value e (λ v h w. tested s.end (type_of (scope h) value) v w (bound_as name (type_of (scope h) value) v h w))) (λ _ inner w. back (length here.names) here.tries (evaluated s body tail inner w)))
  entered_with _ here tail int known (WordsGiven.a_word v h w same) = inside v (type_of (scope h) value) h here w tail (int h same) same known
  entered_with _ here tail int known (WordsGiven.a_raise v h w never same) = absurd (cc never)
  entered_with _ here tail int known (WordsGiven.spent w) = WordsGiven.spent w

  of_let : (at name_at : ℕ) → ((h : Here) → h.names ≡ names → type_of (scope h) value ≡ ty.Int) → ((h : Here) → h.names ≡ names → type_of (scope h) (Let at (Bind name_at name None value NoBinding) body) ≡ ty.Int) → FineAt s names (Let at (Bind name_at name None value NoBinding) body)
  of_let at name_at value_int int tail h w same =
      at_node s false names (Let at (Bind name_at name None value NoBinding) body) h w _ (int h same) (λ w.
      entered_with (evaluated s value false h w) h tail value_int same (fine_value false h w same))

-- ---- functions

-- with a name more, the others are bound as before
below : (names : List Binding) (name other : List ℕ) (v : ℕ) → bytes_eq name other ≡ false → IsWord names other → IsWord (bound_word name v ∷ names) other
below names name other v differs k =
    record {
      word = k.word;
      value = ap (λ b. option_map (λ (c : Binding). c.value) (cond b (Some (bound_word name v)) (innermost names other))) differs ∙ k.value;
      type = ap (λ b. type_bound_by (cond b (Some (bound_word name v).scoped) (binding_of (map (λ (b : Binding). b.scoped) names) other))) differs ∙ k.type;
    }

abbrev parameters : (a b : ℕ) → List Binding
parameters a b = bound_word (codes "y") b ∷ bound_word (codes "x") a ∷ []

parameters_are_words : (a b : ℕ) → HasWords (parameters a b)
parameters_are_words a b =
    record {
      x = record { word = a; value = refl; type = refl };
      y = record { word = b; value = refl; type = refl };
    }

words_below : (names : List Binding) (name : List ℕ) (v : ℕ) → bytes_eq name (codes "x") ≡ false → bytes_eq name (codes "y") ≡ false → HasWords names → HasWords (bound_word name v ∷ names)
words_below names name v p q k = record { x = below names name (codes "x") v p k.x; y = below names name (codes "y") v q k.y }

-- where a function binds all its names
four : (names : List Binding) (u v : ℕ) → HasWords names → HasFour (bound_word (codes "q") v ∷ bound_word (codes "p") u ∷ names)
four names u v k =
    let inner : List Binding = bound_word (codes "p") u ∷ names in
    record {
      words = words_below inner (codes "q") v refl refl (words_below names (codes "p") u refl refl k);
      p = below inner (codes "q") (codes "p") v refl (record { word = u; value = refl; type = refl });
      q = record { word = v; value = refl; type = refl };
    }

-- the body of a function
module _ (s : Surroundings) (j : ℕ) (f : DrawnFunction) (can : (i : ℕ) → suc i ≡ j → CanCall s i) (let_at p_at inner_at q_at : ℕ) (p q b : Expression) (pt : IsTreeOf f.p p) (qt : IsTreeOf f.q q) (bt : IsBodyOf j f.b b) where
  module _ (names : List Binding) (k : HasWords names) where
    fine_inner : (u : ℕ) → FineAt s (bound_word (codes "p") u ∷ names) (inner_let inner_at q_at q b)
    fine_inner u =
        let inner : List Binding = bound_word (codes "p") u ∷ names in
        let words : HasWords inner = words_below names (codes "p") u refl refl k in
        of_let s inner (codes "q") q b (drawn_word s f.q q inner qt words) (λ v. of_body s (bound_word (codes "q") v ∷ inner) j f.b b bt can (four names u v k)) inner_at q_at
        (λ h same. is_int f.q q (scope h) qt (ints_at inner h words same))
        (λ h same.
        let P : List Binding → Type 0 = λ bs. type_of (map (λ (b : Binding). b.scoped) bs) (inner_let inner_at q_at q b) ≡ ty.Int in
        subst P (sym same) (inner_let_is_int j f inner_at q_at q b qt bt (map (λ (b : Binding). b.scoped) names) (ints_of names k)))

    pub fine_whole : FineAt s names (whole let_at p_at inner_at q_at p q b)
    fine_whole =
        of_let s names (codes "p") p (inner_let inner_at q_at q b) (drawn_word s f.p p names pt k) fine_inner let_at p_at
        (λ h same. is_int f.p p (scope h) pt (ints_at names h k same))
        (λ h same. whole_is_int j f let_at p_at inner_at q_at p q b pt qt bt (scope h) (ints_at names h k same))

end_of : (names : List Binding) (e : Evaluation) → IsFine false names e → IsEnd e
end_of names _ (WordsGiven.a_word v h w same) = gives v h w
end_of names _ (WordsGiven.a_raise v h w never same) = absurd (cc never)
end_of names _ (WordsGiven.spent w) = out w

-- a function on two words
activated_ends : (s : Surroundings) (j : ℕ) (f : DrawnFunction) (tree : FunctionTree) → IsFunctionTreeOf j f tree → ((i : ℕ) → suc i ≡ j → CanCall s i) → (a b frame below : ℕ) (w : World) → IsEnd (activated s frame (Some tree) (Word a ∷ Word b ∷ []) below w)
activated_ends s _ _ _ (Trees.function j f at name_at x_at x_comp_at y_at y_comp_at let_at p_at inner_at q_at tokens p q body pt qt bt) can a b frame below w =
    end_of (parameters a b) _
    (fine_whole s j f can let_at p_at inner_at q_at p q body pt qt bt (parameters a b) (parameters_are_words a b) true _ _ refl)

comps_are : (j : ℕ) (f : DrawnFunction) (tree : FunctionTree) → IsFunctionTreeOf j f tree → comps_of tree ≡ comp.Int ∷ comp.Int ∷ []
comps_are _ _ _ (Trees.function j f at name_at x_at x_comp_at y_at y_comp_at let_at p_at inner_at q_at tokens p q body pt qt bt) = refl

-- ---- calls

module _ (fs : List DrawnFunction) (file : FileTree) (are : AreItemsOf 0 fs file.items) (few : length fs < 2 ^ 64) (layout : Layout) where
  function_number : (j : ℕ) → j < length fs → HasFunction file.items j j
  function_number j less = function_at 0 fs file.items are j j less (omega arith)

  -- a call of one of its functions, on two words
  pub callee_ends : (depth j : ℕ) → j < length fs → (a b below tries : ℕ) (tail : Bool) (w : World) → IsEnd (callees file layout depth (call_on j a b below tail tries) w)
  callee_ends zero j less a b below tries tail w = out w
  callee_ends (suc depth) j less a b below tries tail w =
      let s : Surroundings = record {
        end = data_end file;
        symbol = value_of_symbol file;
        parameters = map comps_of (functions file);
        call = callees file layout depth;
        external = outside (data_end file) layout;
      } in
      let here : HasFunction file.items j j = function_number j less in
      let can : (i : ℕ) → suc i ≡ j → CanCall s i =
      λ i before.
      let within : i < length fs = omega arith in
      let other : HasFunction file.items i i = function_number i within in
      record {
        symbol = function_symbol fs file are i within (omega arith);
        parameters = slice_get-map comps_of (functions file) i ∙ ap (option_map comps_of) other.found ∙ ap Some (comps_are i other.f other.tree other.is);
        ends = λ u v below tries tail w. callee_ends depth i within u v below tries tail w;
      } in
      let P : Option FunctionTree → Type 0 = λ x. IsEnd (activated s (slice_index layout.frames j) x (Word a ∷ Word b ∷ []) below w) in
      subst P (sym here.found) (activated_ends s j here.f here.tree here.is can a b (slice_index layout.frames j) below w)
