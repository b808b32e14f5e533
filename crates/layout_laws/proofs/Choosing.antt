-- An evaluation with one layout beside the same with another: catches, tries and switches.
use Rattle.std.proofs.Common.{ℕ, zero, suc, Bool, true, false, cond, List, [], ◌∷◌, Option, Some, None, map}
use Rattle.bs_words.specs.Fits.{type_of_comp}
use Rattle.bs_words.specs.declared.values.Value.{Value}
use Rattle.cmm_tree.specs.Tree.{LabelTree, Parameter, Index}
use Rattle.cmm_meaning.specs.Layout.{Layout}
use Rattle.cmm_meaning.specs.State.{World, Here, back_in}
use Rattle.cmm_meaning.specs.Evaluation.{Evaluation, Body, chosen, entered, scoped_parameter, with_bound, back, handled, caught, tried, looked_up}
use Rattle.cmm_meaning.specs.Choices.{Chosen, Ready, ready_for}
use Rattle.layout_laws.proofs.Alike.{Place, placed, Apart, apart, Alike, gives, exits, raises, stops, Onwards, Operands, alike_improper, alike_then, alike_tested}

-- ---- handlers

-- Two handlers that are one: neither is found, or both are, and their bodies do alike.
pub data OneReady (one two : Layout) : Option (Ready Body) → Option (Ready Body) → Type 0 where
  neither_ready : OneReady one two None None
  both_ready : (label : LabelTree) (params : List Parameter) {x y : Body} → Operands one two x y →
      OneReady one two (Some (record { label = label; params = params; body = x })) (Some (record { label = label; params = params; body = y }))

-- Two cases that are one.
pub data OneChosen (one two : Layout) : Option (Chosen Body) → Option (Chosen Body) → Type 0 where
  neither_chosen : OneChosen one two None None
  both_chosen : (indexes : List Index) {x y : Body} → Operands one two x y →
      OneChosen one two (Some (record { indexes = indexes; body = x })) (Some (record { indexes = indexes; body = y }))

module _ {one two : Layout} where
  pub first_found : (b : Bool) {x y u z : Option (Ready Body)} → OneReady one two x y → OneReady one two u z → OneReady one two (cond b x u) (cond b y z)
  first_found true a others = a
  first_found false a others = others

  pub last_chosen : (b : Bool) {x y u z : Option (Chosen Body)} → OneChosen one two x y → OneChosen one two u z → OneChosen one two (cond b x u) (cond b y z)
  last_chosen true a others = a
  last_chosen false a others = others

  pub alike_looked : (o : Option Value) (h : Here) (w : World) (p : Place) (v : Apart one two w.made) →
      Alike one two (looked_up o h w) (looked_up o (placed p h) (apart w v))
  alike_looked (Some a) h w p v = gives p v
  alike_looked None h w p v = alike_improper v

  pub alike_chosen : {x y : Option (Chosen Body)} → OneChosen one two x y → (h : Here) (w : World) (p : Place) (v : Apart one two w.made) →
      Alike one two (chosen x h w) (chosen y (placed p h) (apart w v))
  alike_chosen neither_chosen h w p v = alike_improper v
  alike_chosen (both_chosen indexes body) h w p v = body h w p v

  pub alike_back_in : (level tries : ℕ) {x y : Evaluation} → Alike one two x y → Alike one two (back level tries x) (back level tries y)
  alike_back_in level tries x = alike_then _ x (λ a h w p v. gives p v)

  alike_entered : (end : ℕ) (params : List Parameter) (values : List Value) (w : World) (v : Apart one two w.made) {x y : Evaluation} → Alike one two x y →
      Alike one two (entered end params values w x) (entered end params values (apart w v) y)
  alike_entered end [] [] w v x = x
  alike_entered end [] (a ∷ values) w v x = alike_improper v
  alike_entered end (q ∷ params) [] w v x = alike_improper v
  alike_entered end (q ∷ params) (a ∷ values) w v x = alike_tested end (type_of_comp q.comp) a w v (alike_entered end params values w v x)

  alike_handled : (end : ℕ) {r s : Option (Ready Body)} → OneReady one two r s →
      (label : LabelTree) (values : List Value) (level tries : ℕ) (h : Here) (w : World)
      (p : Place) (v : Apart one two w.made) (again other : Evaluation → Evaluation) →
      ((x y : Evaluation) → Alike one two x y → Alike one two (again x) (other y)) →
      Alike one two (handled end r label values level tries h w again) (handled end s label values level tries (placed p h) (apart w v) other)
  alike_handled end neither_ready label values level tries h w p v again other k = exits p v
  alike_handled end (both_ready name params {x} {y} body) label values level tries h w p v again other k =
      let bound : Here = with_bound (map scoped_parameter params) values (back_in level tries h) in
      k (entered end params values w (back level tries (x bound w))) (entered end params values (apart w v) (back level tries (y (placed p bound) (apart w v))))
      (alike_entered end params values w v (alike_back_in level tries (body bound w p v)))

  module _ (end level tries : ℕ) (rs qs : List (Ready Body))
      (found : (within : Bool) (label : LabelTree) → OneReady one two (ready_for within label rs) (ready_for within label qs)) where
    pub alike_caught : (turns : ℕ) (within : Bool) {x y : Evaluation} → Alike one two x y →
        Alike one two (caught end turns within rs level tries x) (caught end turns within qs level tries y)
    alike_caught zero within x = x
    alike_caught (suc turns) within (gives p v) = gives p v
    alike_caught (suc turns) within (raises p v) = raises p v
    alike_caught (suc turns) within (stops why v) = stops why v
    alike_caught (suc turns) within (exits {label} {values} {h} {w} p v) =
        alike_handled end (found within label) label values level tries h w p v (caught end turns true rs level tries) (caught end turns true qs level tries)
        (λ x y a. alike_caught turns true a)

  pub alike_tried : {f : Value → Here → World → Evaluation} (g : Value → Here → World → Evaluation) (level tries : ℕ) {x y : Evaluation} →
      Alike one two x y → Onwards one two f g → Alike one two (tried f level tries x) (tried g level tries y)
  alike_tried g level tries (gives p v) k = gives p v
  alike_tried g level tries (exits p v) k = exits p v
  alike_tried g level tries (raises {a} {h} {w} p v) k = k a (back_in level tries h) w p v
  alike_tried g level tries (stops why v) k = stops why v
