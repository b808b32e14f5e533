-- What a function does, played, is what its evaluation is: catches and switches.
use Rattle.std.proofs.Common.{◌≡◌, refl, ℕ, zero, suc, ◌<◌, ◌≤◌, Bool, true, false, cond, List, Option, Some, None, arith, ◌∙◌, le_of_lt, le_refl}
use Rattle.std.specs.Prelude.{map}
use Rattle.bs_words.specs.Memory.{Memory}
use Rattle.bs_words.specs.declared.values.Value.{Value}
use Rattle.cmm_tree.specs.Tree.{LabelTree, Parameter, Index}
use Rattle.cmm_meaning.specs.State.{World, Here, back_in}
use Rattle.cmm_meaning.specs.Evaluation.{Evaluation, Gives, Exits, Raises, Stops, Surroundings, Body, scoped_parameter, with_bound, entered, back, handled, caught, chosen}
use Rattle.cmm_meaning.specs.Choices.{Ready, ready_for, Chosen}
use Rattle.meaning_laws.specs.Does.{Leaves, Does, played}
use Rattle.meaning_laws.specs.Interaction as part
use Rattle.meaning_laws.specs.Interaction.{Part, Operand}
use Rattle.meaning_fuel.proofs.Alike.{Pays as Fewer}
use Rattle.meaning_laws.proofs.Agreement.{follow, Agrees, Meets, agree_fails, agree_back, agree_entered}

-- ---- handlers

-- Two handlers that are one: neither is found, or both are, and their bodies meet.
pub data OneReady (s : Surroundings) (turns : ℕ) : Option (Ready Operand) → Option (Ready Body) → Type 0 where
  neither_ready : OneReady s turns None None
  both_ready : (label : LabelTree) (params : List Parameter) {o : Operand} {e : Body} → Meets s turns o e →
      OneReady s turns (Some (record { label = label; params = params; body = o })) (Some (record { label = label; params = params; body = e }))

pub first_found : {s : Surroundings} {turns : ℕ} (b : Bool) {r : Ready Operand} {q : Ready Body} {o : Option (Ready Operand)} {e : Option (Ready Body)} →
    OneReady s turns (Some r) (Some q) → OneReady s turns o e → OneReady s turns (cond b (Some r) o) (cond b (Some q) e)
first_found true a others = a
first_found false a others = others

-- However a handler is left, its catch goes on alike on both sides.
abbrev TakenUp : Surroundings → ℕ → (Leaves (Option Value) → Part (Option Value)) → (Evaluation → Evaluation) → Type 0
TakenUp s m again by = (e : Evaluation) → Fewer m e → (k : Leaves (Option Value) → Does) → follow s (λ l. again l k) e ≡ follow s k (by e)

same_handled : {s : Surroundings} {turns : ℕ} (end : ℕ) {r : Option (Ready Operand)} {q : Option (Ready Body)} (label : LabelTree) (values : List Value) (level tries : ℕ) (h : Here) (w : World)
    (again : Leaves (Option Value) → Part (Option Value)) (by : Evaluation → Evaluation) →
    OneReady s turns r q → w.left ≤ turns → TakenUp s w.left again by → (k : Leaves (Option Value) → Does) →
    played s (part.handled end r label values level tries h w.memory again k) w ≡ follow s k (handled end q label values level tries h w by)
same_handled end label values level tries h w again by neither_ready most up k = refl
same_handled {s} end label values level tries h w again by (both_ready name params {o} {e} body) most up k =
    let inside : Here = with_bound (map scoped_parameter params) values (back_in level tries h) in
    let a : Agrees s w.left (λ m. part.entered end params values m (part.scope_restored level tries (o inside m))) w (entered end params values w (back level tries (e inside w)))
    = agree_entered end params values w (agree_back level tries (body w.left most inside w (le_refl w.left))) in
    a.same (λ l. again l k) ∙ up (entered end params values w (back level tries (e inside w))) a.fewer k

fewer_handled : {s : Surroundings} {turns : ℕ} (n end : ℕ) {r : Option (Ready Operand)} {q : Option (Ready Body)} (label : LabelTree) (values : List Value) (level tries : ℕ) (h : Here) (w : World) (by : Evaluation → Evaluation) →
    OneReady s turns r q → w.left ≤ turns → w.left < n → ((e : Evaluation) → Fewer w.left e → Fewer n (by e)) → Fewer n (handled end q label values level tries h w by)
fewer_handled n end label values level tries h w by neither_ready most few up = few
fewer_handled {s} n end label values level tries h w by (both_ready name params {o} {e} body) most few up =
    let inside : Here = with_bound (map scoped_parameter params) values (back_in level tries h) in
    let a : Agrees s w.left (λ m. part.entered end params values m (part.scope_restored level tries (o inside m))) w (entered end params values w (back level tries (e inside w)))
    = agree_entered end params values w (agree_back level tries (body w.left most inside w (le_refl w.left))) in
    up (entered end params values w (back level tries (e inside w))) a.fewer

module _ {s : Surroundings} {turns : ℕ} (end level tries : ℕ) (rs : List (Ready Operand)) (qs : List (Ready Body))
    (found : (within : Bool) (label : LabelTree) → OneReady s turns (ready_for within label rs) (ready_for within label qs)) where
  -- as many turns as units are left are enough, on both sides
  same_caught : (t u m : ℕ) (within : Bool) → m ≤ t → m ≤ u → m ≤ turns → TakenUp s m (part.catching end u within rs level tries) (caught end t within qs level tries)
  same_caught zero zero m within a b most (Gives v h w) few k = refl
  same_caught zero (suc u) m within a b most (Gives v h w) few k = refl
  same_caught (suc t) zero m within a b most (Gives v h w) few k = refl
  same_caught (suc t) (suc u) m within a b most (Gives v h w) few k = refl
  same_caught zero zero m within a b most (Raises v h w) few k = refl
  same_caught zero (suc u) m within a b most (Raises v h w) few k = refl
  same_caught (suc t) zero m within a b most (Raises v h w) few k = refl
  same_caught (suc t) (suc u) m within a b most (Raises v h w) few k = refl
  same_caught zero zero m within a b most (Stops why w) few k = refl
  same_caught zero (suc u) m within a b most (Stops why w) few k = refl
  same_caught (suc t) zero m within a b most (Stops why w) few k = refl
  same_caught (suc t) (suc u) m within a b most (Stops why w) few k = refl
  same_caught zero u m within a b most (Exits label values h w) few k = absurd (omega arith)
  same_caught (suc t) zero m within a b most (Exits label values h w) few k = absurd (omega arith)
  same_caught (suc t) (suc u) m within a b most (Exits label values h w) few k =
      same_handled end label values level tries h w (part.catching end u true rs level tries) (caught end t true qs level tries) (found within label) (omega arith) (same_caught t u w.left true (omega arith) (omega arith) (omega arith)) k

  fewer_caught : (n t m : ℕ) (within : Bool) → m ≤ n → m ≤ turns → (e : Evaluation) → Fewer m e → Fewer n (caught end t within qs level tries e)
  fewer_caught n zero m within a most (Gives v h w) few = omega arith
  fewer_caught n zero m within a most (Exits label values h w) few = omega arith
  fewer_caught n zero m within a most (Raises v h w) few = omega arith
  fewer_caught n zero m within a most (Stops why w) few = tt
  fewer_caught n (suc t) m within a most (Gives v h w) few = omega arith
  fewer_caught n (suc t) m within a most (Exits label values h w) few =
      fewer_handled n end label values level tries h w (caught end t true qs level tries) (found within label) (omega arith) (omega arith) (fewer_caught n t w.left true (omega arith) (omega arith))
  fewer_caught n (suc t) m within a most (Raises v h w) few = omega arith
  fewer_caught n (suc t) m within a most (Stops why w) few = tt

  pub agree_caught : {n m : ℕ} {p : Memory → Part (Option Value)} {w : World} {e : Evaluation} → m ≤ n → m ≤ turns → Agrees s m p w e →
      Agrees s n (λ m. part.from (p m) (part.catching end turns false rs level tries)) w (caught end (suc m) false qs level tries e)
  agree_caught {n} {m} {e} a most body = record {
    same = λ k. body.same (λ l. part.catching end turns false rs level tries l k) ∙ same_caught (suc m) turns m false (omega arith) most most e body.fewer k;
    fewer = fewer_caught n (suc m) m false a most e body.fewer;
  }

-- ---- switches

-- Two cases that are one.
pub data OneChosen (s : Surroundings) (turns : ℕ) : Option (Chosen Operand) → Option (Chosen Body) → Type 0 where
  neither_chosen : OneChosen s turns None None
  both_chosen : (indexes : List Index) {o : Operand} {e : Body} → Meets s turns o e →
      OneChosen s turns (Some (record { indexes = indexes; body = o })) (Some (record { indexes = indexes; body = e }))

pub last_chosen : {s : Surroundings} {turns : ℕ} (b : Bool) {r o : Option (Chosen Operand)} {q e : Option (Chosen Body)} →
    OneChosen s turns r q → OneChosen s turns o e → OneChosen s turns (cond b r o) (cond b q e)
last_chosen true a others = a
last_chosen false a others = others

pub agree_chosen : {s : Surroundings} {turns n : ℕ} {o : Option (Chosen Operand)} {e : Option (Chosen Body)} → OneChosen s turns o e → n ≤ turns → (h : Here) (w : World) → w.left < n →
    Agrees s n (λ m. part.chosen o h m) w (chosen e h w)
agree_chosen neither_chosen most h w few = agree_fails
agree_chosen (both_chosen indexes body) most h w few = body _ most h w (le_of_lt few)
