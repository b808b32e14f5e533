-- What a function does, played, is what its evaluation is: the parts, step by step.
use Rattle.std.proofs.Common.{◌≡◌, refl, ℕ, zero, suc, ◌<◌, ◌≤◌, Bool, true, false, cond, List, [], ◌∷◌, Option, Some, None, Result, Ok, Err, arith, ◌∙◌, le_of_lt, le_refl, slice_get}
use Rattle.bs_words.specs.External.{External}
use Rattle.bs_words.specs.Memory.{Memory}
use Rattle.bs_words.specs.Fits.{fits, type_of_comp}
use Rattle.bs_words.specs.declared.types.Comp.{Comp}
use Rattle.bs_words.specs.declared.types.Ret.{Ret}
use Rattle.bs_words.specs.declared.types.Ret.TheVariants as ret
use Rattle.bs_words.specs.declared.types.Ty.{Ty}
use Rattle.bs_words.specs.declared.types.Ty.TheVariants as ty
use Rattle.bs_words.specs.declared.values.Kind.{Kind}
use Rattle.bs_words.specs.declared.values.Value.{Value}
use Rattle.bs_words.specs.declared.values.Value.TheVariants as value
use Rattle.cmm_tree.specs.Tree.{LabelTree, Parameter, Expression}
use Rattle.cmm_types.specs.Types.{type_of}
use Rattle.cmm_meaning.specs.State.{Called, World, Here, deepened, scope, back_in}
use Rattle.cmm_meaning.specs.Evaluation.{Evaluated, Evaluation, Gives, Exits, Raises, Stops, NotProper, Surroundings, and_then, only_value, with_value, proper, tested, of_type, typed, spend, node, both, unless_light, now_or_before, as_written, back_from_call, called_with, applied, call_from, fit_parameters, back, entered, tried}
use Rattle.meaning_laws.specs.Does.{Leaves, Giving, Exiting, Raising, Does, Ends, Pays, Deepens, Jumps, Calls, CallsOut, Fails, Spent, played, ended, after_call}
use Rattle.meaning_laws.specs.Interaction as part
use Rattle.cmm_meaning.specs.Setting.{setting_of}
use Rattle.meaning_laws.specs.Interaction.{Part, Operand, onward}
use Rattle.meaning_fuel.proofs.Alike.{Spends, Pays as Fewer}
use Rattle.meaning_fuel.proofs.Depth.{Spending}

-- how the play goes on from how an evaluation ends
abbrev pub follow : {A : Type 0} → Surroundings → (Leaves A → Does) → Evaluated A → Evaluation
follow s k (Gives v h w) = played s (k (Giving v h w.memory)) w
follow s k (Exits label values h w) = played s (k (Exiting label values h w.memory)) w
follow s k (Raises v h w) = played s (k (Raising v h w.memory)) w
follow s k (Stops why w) = Stops why w

-- A part of a function, in each memory, does what the evaluation is, from one world.
pub record Agrees {A : Type 0} (s : Surroundings) (n : ℕ) (p : Memory → Part A) (w : World) (e : Evaluated A) : Type 0 where
  pub same : (k : Leaves A → Does) → played s (p w.memory k) w ≡ follow s k e
  pub fewer : Fewer n e

-- An operand does what its evaluation is, from each world with no more units than turns.
abbrev pub Meets : Surroundings → ℕ → Operand → (Here → World → Evaluation) → Type 0
Meets s turns o e = (n : ℕ) → n ≤ turns → (h : Here) (w : World) → w.left ≤ n → Agrees s n (o h) w (e h w)

-- What goes on with what a part gives does what goes on with what the evaluation gives.
abbrev pub Onwards : {A B : Type 0} → Surroundings → ℕ → (A → Here → Memory → Part B) → (A → Here → World → Evaluated B) → Type 0
Onwards {A} s n q go = (a : A) (h : Here) (w : World) → w.left < n → Agrees s n (q a h) w (go a h w)

-- ---- steps

pub agree_gives : {A : Type 0} {s : Surroundings} {n : ℕ} {a : A} {h : Here} {w : World} → w.left < n → Agrees s n (λ m. part.gives a h m) w (Gives a h w)
agree_gives few = record { same = λ k. refl; fewer = few }

pub agree_exits : {A : Type 0} {s : Surroundings} {n : ℕ} {label : LabelTree} {values : List Value} {h : Here} {w : World} → w.left < n →
    Agrees {A = A} s n (λ m. part.exits label values h m) w (Exits label values h w)
agree_exits few = record { same = λ k. refl; fewer = few }

pub agree_raises : {A : Type 0} {s : Surroundings} {n : ℕ} {v : Value} {h : Here} {w : World} → w.left < n → Agrees {A = A} s n (λ m. part.raises v h m) w (Raises v h w)
agree_raises few = record { same = λ k. refl; fewer = few }

pub agree_fails : {A : Type 0} {s : Surroundings} {n : ℕ} {kind : Kind} {w : World} → Agrees {A = A} s n (λ m. part.fails kind m) w (Stops (NotProper kind) w)
agree_fails = record { same = λ k. refl; fewer = tt }

pub agree_jumps : {A : Type 0} {s : Surroundings} {n : ℕ} {p : Memory → Part A} {w : World} {e : Evaluated A} → Agrees s n p w e → Agrees s n (λ m. part.jumps (p m)) w e
agree_jumps a = record { same = a.same; fewer = a.fewer }

pub agree_deepens : {A : Type 0} {s : Surroundings} {n : ℕ} {bytes : ℕ} {p : Memory → Part A} {w : World} {e : Evaluated A} →
    Agrees s n p (deepened bytes w) e → Agrees s n (λ m. part.deepens bytes (p m)) w e
agree_deepens a = record { same = a.same; fewer = a.fewer }

any_end : (end : Leaves (Option Value)) (w : World) (m : Memory) → ended end w ≡ ended end (record w { memory = m })
any_end (Giving v h memory) w m = refl
any_end (Exiting label values h memory) w m = refl
any_end (Raising v h memory) w m = refl

-- what a function does carries its memory, whatever the memory of the world
pub any_memory : (s : Surroundings) (d : Does) (w : World) (m : Memory) → played s d w ≡ played s d (record w { memory = m })
any_memory s (Ends end) w m = any_end end w m
any_memory s (Pays memory rest) w m = refl
any_memory s (Deepens bytes rest) w m = any_memory s rest (deepened bytes w) m
any_memory s (Jumps rest) w m = any_memory s rest w m
any_memory s (Calls call memory go) w m = refl
any_memory s (CallsOut row frame arguments memory go) w m = refl
any_memory s (Fails memory kind) w m = refl
any_memory s (Spent memory) w m = refl

-- an operation leaves another memory
same_leaves : {B : Type 0} (s : Surroundings) (v : B) (h : Here) (w : World) (k : Leaves B → Does) (r : Result Memory Kind) →
    played s (part.proper r w.memory (λ after. part.gives v h after) k) w ≡ follow s k (proper r w (λ after. Gives v h (record w { memory = after })))
same_leaves s v h w k (Ok after) = any_memory s (k (Giving v h after)) w after
same_leaves s v h w k (Err kind) = refl

fewer_leaves : {B : Type 0} (n : ℕ) (v : B) (h : Here) (w : World) (r : Result Memory Kind) → w.left < n → Fewer n (proper r w (λ after. Gives v h (record w { memory = after })))
fewer_leaves n v h w (Ok after) few = few
fewer_leaves n v h w (Err kind) few = tt

pub agree_leaves : {B : Type 0} {s : Surroundings} {n : ℕ} (value : Memory → B) (h : Here) {w : World} (r : Memory → Result Memory Kind) → w.left < n →
    Agrees s n (λ m. part.proper (r m) m (λ after. part.gives (value m) h after)) w (proper (r w.memory) w (λ after. Gives (value w.memory) h (record w { memory = after })))
agree_leaves {s} {n} value h {w} r few = record {
  same = λ k. same_leaves s (value w.memory) h w k (r w.memory);
  fewer = fewer_leaves n (value w.memory) h w (r w.memory) few;
}

same_and_then : {A B : Type 0} (s : Surroundings) (n : ℕ) (q : A → Here → Memory → Part B) (go : A → Here → World → Evaluated B) (k : Leaves B → Does) (e : Evaluated A) →
    Fewer n e → Onwards s n q go → follow s (λ l. onward q l k) e ≡ follow s k (and_then e go)
same_and_then s n q go k (Gives a h w) few then = (then a h w few).same k
same_and_then s n q go k (Exits label values h w) few then = refl
same_and_then s n q go k (Raises v h w) few then = refl
same_and_then s n q go k (Stops why w) few then = refl

fewer_and_then : {A B : Type 0} (s : Surroundings) (n : ℕ) (q : A → Here → Memory → Part B) (go : A → Here → World → Evaluated B) (e : Evaluated A) →
    Fewer n e → Onwards s n q go → Fewer n (and_then e go)
fewer_and_then s n q go (Gives a h w) few then = (then a h w few).fewer
fewer_and_then s n q go (Exits label values h w) few then = few
fewer_and_then s n q go (Raises v h w) few then = few
fewer_and_then s n q go (Stops why w) few then = tt

pub agree_and_then : {A B : Type 0} {s : Surroundings} {n : ℕ} {p : Memory → Part A} {q : A → Here → Memory → Part B} {w : World} {e : Evaluated A} {go : A → Here → World → Evaluated B} →
    Agrees s n p w e → Onwards s n q go → Agrees s n (λ m. part.and_then (p m) q) w (and_then e go)
agree_and_then {s} {n} {p} {q} {w} {e} {go} first then = record {
  same = λ k. first.same (λ l. onward q l k) ∙ same_and_then s n q go k e first.fewer then;
  fewer = fewer_and_then s n q go e first.fewer then;
}

agree_only_value : {B : Type 0} {s : Surroundings} {n : ℕ} {q : Value → Here → Memory → Part B} {go : Value → Here → World → Evaluated B} (v : Option Value) (h : Here) (w : World) → w.left < n →
    Onwards s n q go → Agrees s n (λ m. part.only_value v q h m) w (only_value v go h w)
agree_only_value (Some v) h w few then = then v h w few
agree_only_value None h w few then = agree_fails

pub agree_with_value : {B : Type 0} {s : Surroundings} {n : ℕ} {p : Memory → Part (Option Value)} {w : World} {e : Evaluation} {q : Value → Here → Memory → Part B} {go : Value → Here → World → Evaluated B} →
    Agrees s n p w e → Onwards s n q go → Agrees s n (λ m. part.with_value (p m) q) w (with_value e go)
agree_with_value {q} {go} first then = agree_and_then first (λ v h w few. agree_only_value {q = q} {go = go} v h w few then)

same_proper : {A B : Type 0} (s : Surroundings) (n : ℕ) (q : A → Memory → Part B) (w : World) (go : A → Evaluated B) (k : Leaves B → Does) (r : Result A Kind) →
    ((a : A) → Agrees s n (q a) w (go a)) → played s (part.proper r w.memory (λ a. q a w.memory) k) w ≡ follow s k (proper r w go)
same_proper s n q w go k (Ok a) then = (then a).same k
same_proper s n q w go k (Err kind) then = refl

fewer_proper : {A B : Type 0} (s : Surroundings) (n : ℕ) (q : A → Memory → Part B) (w : World) (go : A → Evaluated B) (r : Result A Kind) →
    ((a : A) → Agrees s n (q a) w (go a)) → Fewer n (proper r w go)
fewer_proper s n q w go (Ok a) then = (then a).fewer
fewer_proper s n q w go (Err kind) then = tt

pub agree_proper : {A B : Type 0} {s : Surroundings} {n : ℕ} {q : A → Memory → Part B} {w : World} {go : A → Evaluated B} (r : Memory → Result A Kind) →
    ((a : A) → Agrees s n (q a) w (go a)) → Agrees s n (λ m. part.proper (r m) m (λ a. q a m)) w (proper (r w.memory) w go)
agree_proper {s} {n} {q} {w} {go} r then = record {
  same = λ k. same_proper s n q w go k (r w.memory) then;
  fewer = fewer_proper s n q w go (r w.memory) then;
}

pub agree_cond : {A : Type 0} {s : Surroundings} {n : ℕ} (b : Bool) {p q : Memory → Part A} {w : World} {e f : Evaluated A} → Agrees s n p w e → Agrees s n q w f →
    Agrees s n (λ m. cond b (p m) (q m)) w (cond b e f)
agree_cond true a other = a
agree_cond false a other = other

pub agree_tested : {B : Type 0} {s : Surroundings} {n : ℕ} (end : ℕ) (type : Ty) (v : Value) {p : Memory → Part B} {w : World} {e : Evaluated B} →
    Agrees s n p w e → Agrees s n (λ m. part.tested end type v m (p m)) w (tested end type v w e)
agree_tested end type v a = agree_cond (fits end type v) a agree_fails

agree_of_type : {s : Surroundings} {n : ℕ} (end : ℕ) (type : Ty) (v : Option Value) (h : Here) (w : World) → w.left < n → Agrees s n (λ m. part.of_type end type v h m) w (of_type end type v h w)
agree_of_type end ty.NoValue v h w few = agree_gives few
agree_of_type end type (Some v) h w few = agree_tested end type v (agree_gives {a = Some v} {h = h} few)
agree_of_type end type None h w few = agree_fails

pub agree_typed : {s : Surroundings} {n : ℕ} (end : ℕ) (type : Ty) {p : Memory → Part (Option Value)} {w : World} {e : Evaluation} →
    Agrees s n p w e → Agrees s n (λ m. part.typed end type (p m)) w (typed end type e)
agree_typed end type a = agree_and_then a (λ v h w few. agree_of_type end type v h w few)

-- ---- nodes

same_spend : (s : Surroundings) (n left : ℕ) (p : Memory → Part (Option Value)) (go : World → Evaluation) (w : World) → left ≤ n →
    ((w : World) → w.left < n → Agrees s n p w (go w)) →
    (k : Leaves (Option Value) → Does) → spend left w (λ v. played s (p w.memory k) v) ≡ follow s k (spend left w go)
same_spend s n zero p go w most then k = refl
same_spend s n (suc l) p go w most then k = (then (record w { left = l }) most).same k

fewer_spend : (s : Surroundings) (n left : ℕ) (p : Memory → Part (Option Value)) (go : World → Evaluation) (w : World) → left ≤ n →
    ((w : World) → w.left < n → Agrees s n p w (go w)) → Fewer n (spend left w go)
fewer_spend s n zero p go w most then = tt
fewer_spend s n (suc l) p go w most then = (then (record w { left = l }) most).fewer

pub agree_node : {s : Surroundings} {n : ℕ} (e : Expression) (h : Here) (w : World) {p : Memory → Part (Option Value)} {go : World → Evaluation} → w.left ≤ n →
    ((w : World) → w.left < n → Agrees s n p w (go w)) →
    Agrees s n (λ m. part.node_part (setting_of s) e h m (p m)) w (node s e h w go)
agree_node {s} {n} e h w {p} {go} enough then =
    let type : Ty = type_of (scope h) e in
    let after : (w : World) → w.left < n → Agrees s n (λ m. part.typed s.end type (p m)) w (typed s.end type (go w)) = λ w few. agree_typed s.end type (then w few) in
    record {
      same = same_spend s n w.left (λ m. part.typed s.end type (p m)) (λ w. typed s.end type (go w)) w enough after;
      fewer = fewer_spend s n w.left (λ m. part.typed s.end type (p m)) (λ w. typed s.end type (go w)) w enough after;
    }

-- ---- operands

module _ {s : Surroundings} (turns : ℕ) where
  pub agree_both : {B : Type 0} {n : ℕ} (first : Bool) {left right : Operand} {l r : Here → World → Evaluation} (h : Here) (w : World) {q : Value → Value → Here → Memory → Part B} {go : Value → Value → Here → World → Evaluated B} →
      n ≤ turns → w.left < n → Meets s turns left l → Meets s turns right r →
      ((a b : Value) (h : Here) (w : World) → w.left < n → Agrees s n (q a b h) w (go a b h w)) →
      Agrees s n (λ m. part.both first left right h m q) w (both first l r h w go)
  agree_both {n} false h w most few left right then =
      agree_with_value (right n most h w (le_of_lt few)) (λ b h w few.
      agree_with_value (left n most h w (le_of_lt few)) (λ a h w few. then a b h w few))
  agree_both {n} true h w most few left right then =
      agree_with_value (left n most h w (le_of_lt few)) (λ a h w few.
      agree_with_value (right n most h w (le_of_lt few)) (λ b h w few. then a b h w few))

  pub agree_unless_light : {B : Type 0} {n : ℕ} (light : Bool) {o : Operand} {e : Here → World → Evaluation} (h : Here) (w : World) {q : Option Value → Here → Memory → Part B} {go : Option Value → Here → World → Evaluated B} →
      n ≤ turns → w.left < n → Meets s turns o e → Onwards s n q go →
      Agrees s n (λ m. part.unless_light light o h m q) w (unless_light light e h w go)
  agree_unless_light true h w most few operand then = then None h w few
  agree_unless_light {n} false h w most few operand then =
      agree_with_value (operand n most h w (le_of_lt few)) (λ v h w few. then (Some v) h w few)

  pub agree_now_or_before : {B : Type 0} {n : ℕ} (v : Option Value) {o : Operand} {e : Here → World → Evaluation} (h : Here) (w : World) {q : Value → Here → Memory → Part B} {go : Value → Here → World → Evaluated B} →
      n ≤ turns → w.left < n → Meets s turns o e → Onwards s n q go →
      Agrees s n (λ m. part.now_or_before v o h m q) w (now_or_before v e h w go)
  agree_now_or_before (Some v) h w most few operand then = then v h w few
  agree_now_or_before {n} None h w most few operand then = agree_with_value (operand n most h w (le_of_lt few)) then

-- ---- calls

agree_as_written : {s : Surroundings} {n : ℕ} (result : Ret) (v : Option Value) (h : Here) (w : World) → w.left < n → Agrees s n (λ m. part.as_written result v h m) w (as_written result v h w)
agree_as_written ret.Unit v h w few = agree_gives few
agree_as_written (ret.Comp c) (Some v) h w few = agree_gives few
agree_as_written (ret.Comp c) None h w few = agree_fails

same_call : (s : Surroundings) (result : Ret) (h : Here) (k : Leaves (Option Value) → Does) (e : Evaluation) →
    after_call (λ d w. played s (part.part_from_call result h d k) w) e ≡ follow s k (and_then (back_from_call h e) (λ v h w. as_written result v h w))
same_call s result h k (Gives v there w) = (agree_as_written {s = s} result v h w (le_refl (suc w.left))).same k
same_call s result h k (Exits label values there w) = refl
same_call s result h k (Raises v there w) = refl
same_call s result h k (Stops why w) = refl

fewer_call : (s : Surroundings) (n m : ℕ) (result : Ret) (h : Here) (e : Evaluation) → m < n → Spends m e →
    Fewer n (and_then (back_from_call h e) (λ v h w. as_written result v h w))
fewer_call s n m result h (Gives v there w) few less = (agree_as_written {s = s} result v h w (omega arith)).fewer
fewer_call s n m result h (Exits label values there w) few less = tt
fewer_call s n m result h (Raises v there w) few less = omega arith
fewer_call s n m result h (Stops why w) few less = tt

module _ {s : Surroundings} (spends : Spending s) where
  agree_calls : {n : ℕ} (call : Called) (result : Ret) (h : Here) (w : World) → w.left < n →
      Agrees s n (λ m. part.calls call result h m) w (and_then (back_from_call h (s.call call w)) (λ v h w. as_written result v h w))
  agree_calls {n} call result h w few = record {
    same = λ k. same_call s result h k (s.call call w);
    fewer = fewer_call s n w.left result h (s.call call w) few (spends.calls call w);
  }

  pub agree_calls_out : {n : ℕ} (row : External) (frame : Bool) (arguments : List Value) (h : Here) (w : World) → w.left < n →
      Agrees s n (λ m. part.calls_out row frame arguments h m) w (and_then (back_from_call h (s.external row frame arguments w)) (λ v h w. as_written row.result v h w))
  agree_calls_out {n} row frame arguments h w few = record {
    same = λ k. same_call s row.result h k (s.external row frame arguments w);
    fewer = fewer_call s n w.left row.result h (s.external row frame arguments w) few (spends.outside row frame arguments w);
  }

  agree_called_with : {n : ℕ} (comps : Option (List Comp)) (f : ℕ) (arguments : List Value) (result : Ret) (tail : Bool) (h : Here) (w : World) → w.left < n →
      Agrees s n (λ m. part.called_with (setting_of s) comps f arguments result tail h m) w (called_with s comps f arguments result tail h w)
  agree_called_with None f arguments result tail h w few = agree_fails
  agree_called_with (Some comps) f arguments result tail h w few =
      agree_cond (fit_parameters s.end comps arguments) (agree_calls (call_from f arguments tail h) result h w few) agree_fails

  pub agree_applied : {n : ℕ} (f : Value) (arguments : List Value) (result : Ret) (tail : Bool) (h : Here) (w : World) → w.left < n →
      Agrees s n (λ m. part.applied (setting_of s) f arguments result tail h m) w (applied s f arguments result tail h w)
  agree_applied (value.Function f) arguments result tail h w few = agree_called_with (slice_get s.parameters f) f arguments result tail h w few
  agree_applied _ arguments result tail h w few = agree_fails

-- ---- handlers

pub agree_back : {s : Surroundings} {n : ℕ} (level tries : ℕ) {p : Memory → Part (Option Value)} {w : World} {e : Evaluation} →
    Agrees s n p w e → Agrees s n (λ m. part.scope_restored level tries (p m)) w (back level tries e)
agree_back level tries a = agree_and_then a (λ v h w few. agree_gives few)

pub agree_entered : {s : Surroundings} {n : ℕ} (end : ℕ) (params : List Parameter) (values : List Value) {p : Memory → Part (Option Value)} (w : World) {e : Evaluation} →
    Agrees s n p w e → Agrees s n (λ m. part.entered end params values m (p m)) w (entered end params values w e)
agree_entered end [] [] w a = a
agree_entered end (p ∷ params) (v ∷ values) w a = agree_tested end (type_of_comp p.comp) v (agree_entered end params values w a)
agree_entered end _ _ w a = agree_fails

same_tried : {s : Surroundings} {n : ℕ} {handler : Value → Here → Memory → Part (Option Value)} {by : Value → Here → World → Evaluation} (level tries : ℕ) (k : Leaves (Option Value) → Does) (e : Evaluation) → Fewer n e →
    Onwards s n handler by → follow s (λ l. part.trying handler level tries l k) e ≡ follow s k (tried by level tries e)
same_tried level tries k (Gives v h w) less then = refl
same_tried level tries k (Exits label values h w) less then = refl
same_tried level tries k (Raises v h w) less then = (then v (back_in level tries h) w less).same k
same_tried level tries k (Stops why w) less then = refl

fewer_tried : {s : Surroundings} {n : ℕ} {handler : Value → Here → Memory → Part (Option Value)} {by : Value → Here → World → Evaluation} (level tries : ℕ) (e : Evaluation) → Fewer n e →
    Onwards s n handler by → Fewer n (tried by level tries e)
fewer_tried level tries (Gives v h w) less then = less
fewer_tried level tries (Exits label values h w) less then = less
fewer_tried level tries (Raises v h w) less then = (then v (back_in level tries h) w less).fewer
fewer_tried level tries (Stops why w) less then = tt

pub agree_tried : {s : Surroundings} {n : ℕ} {p : Memory → Part (Option Value)} {w : World} {e : Evaluation} {handler : Value → Here → Memory → Part (Option Value)} {by : Value → Here → World → Evaluation} (level tries : ℕ) →
    Agrees s n p w e → Onwards s n handler by → Agrees s n (λ m. part.from (p m) (part.trying handler level tries)) w (tried by level tries e)
agree_tried {e} {handler} level tries a then = record {
  same = λ k. a.same (λ l. part.trying handler level tries l k) ∙ same_tried level tries k e a.fewer then;
  fewer = fewer_tried level tries e a.fewer then;
}
