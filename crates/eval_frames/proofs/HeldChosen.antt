-- Cases of a switch and handlers whose bodies are the same evaluations, item by item.
use Rattle.std.proofs.Common.{◌≡◌, ◌∙◌, ℕ, zero, suc, ◌&&◌, not, Bool, true, false, cond, List, [], ◌∷◌, Option, Some, None, length, map, refl, ap, subst, arith}
use Rattle.bs_words.specs.Fits.{type_of_comp}
use Rattle.bs_words.specs.declared.values.Value.{Value}
use Rattle.cmm_tree.specs.Tree.{LabelTree, Parameter, Index, same_label, is_bare}
use Rattle.cmm_types.specs.Types.{Scoped, with_parameters}
use Rattle.cmm_meaning.specs.State.{World, Here, scope, back_in}
use Rattle.cmm_meaning.specs.Evaluation.{Body, Evaluation, Gives, Exits, Raises, Stops, chosen, entered, scoped_parameter, with_bound, back, handled, caught, tried}
use Rattle.cmm_meaning.specs.Choices.{Chosen, is_named, last_naming, first_case, case_for, Ready, ready_for}
use Rattle.eval_frames.proofs.Same.{Within, Same, same_tested, same_back, scope_back, scope_bound, within_same, within_parameters}

-- ---- cases

pub record ChosenSame (names : List Scoped) (a b : Chosen Body) : Type 0 where
  pub indexes : a.indexes ≡ b.indexes
  pub body : (h : Here) (w : World) → scope h ≡ names → Same names names (a.body h w) (b.body h w)

abbrev pub AllChosenSame : List Scoped → List (Chosen Body) → List (Chosen Body) → Type 0
AllChosenSame names [] [] = Unit {0}
AllChosenSame names (a ∷ xs) (b ∷ ys) = ChosenSame names a b × AllChosenSame names xs ys
AllChosenSame names _ _ = ⊥

abbrev pub OptionChosen : List Scoped → Option (Chosen Body) → Option (Chosen Body) → Type 0
OptionChosen names None None = Unit {0}
OptionChosen names (Some a) (Some b) = ChosenSame names a b
OptionChosen names _ _ = ⊥

chosen_cond : (names : List Scoped) (t : Bool) (a b : Chosen Body) (p q : Option (Chosen Body)) → ChosenSame names a b → OptionChosen names p q →
    OptionChosen names (cond t (Some a) p) (cond t (Some b) q)
chosen_cond names true a b p q e o = e
chosen_cond names false a b p q e o = o

naming : (names : List Scoped) (xs ys : List (Chosen Body)) (k : ℕ) (p q : Option (Chosen Body)) → AllChosenSame names xs ys → OptionChosen names p q →
    OptionChosen names (last_naming xs k p) (last_naming ys k q)
naming names [] [] k p q l o = o
naming names [] (b ∷ ys) k p q l o = absurd l
naming names (a ∷ xs) [] k p q l o = absurd l
naming names (a ∷ xs) (b ∷ ys) k p q l o =
    let P : List Index → Type 0 = λ i. OptionChosen names (cond (is_named a.indexes k) (Some a) p) (cond (is_named i k) (Some b) q) in
    naming names xs ys k (cond (is_named a.indexes k) (Some a) p) (cond (is_named b.indexes k) (Some b) q) l.1
    (subst P l.0.indexes (chosen_cond names (is_named a.indexes k) a b p q l.0 o))

first_same : (names : List Scoped) (xs ys : List (Chosen Body)) → AllChosenSame names xs ys → OptionChosen names (first_case xs) (first_case ys)
first_same names [] [] l = tt
first_same names [] (b ∷ ys) l = absurd l
first_same names (a ∷ xs) [] l = absurd l
first_same names (a ∷ xs) (b ∷ ys) l = l.0

chosen_same : (names : List Scoped) (p q : Option (Chosen Body)) → OptionChosen names p q → (h : Here) (w : World) → scope h ≡ names →
    Same names names (chosen p h w) (chosen q h w)
chosen_same names None None o h w e = record { is = refl; keeps = tt }
chosen_same names None (Some b) o h w e = absurd o
chosen_same names (Some a) None o h w e = absurd o
chosen_same names (Some a) (Some b) o h w e = o.body h w e

-- the case of a number
pub same_case : (names : List Scoped) (xs ys : List (Chosen Body)) (k : ℕ) → AllChosenSame names xs ys → (h : Here) (w : World) → scope h ≡ names →
    Same names names (chosen (case_for xs k) h w) (chosen (case_for ys k) h w)
same_case names xs ys k l h w e =
    chosen_same names (case_for xs k) (case_for ys k) (naming names xs ys k (first_case xs) (first_case ys) l (first_same names xs ys l)) h w e

-- ---- handlers

pub record ReadySame (names : List Scoped) (a b : Ready Body) : Type 0 where
  pub label : a.label ≡ b.label
  pub params : a.params ≡ b.params
  pub body : (h : Here) (w : World) → scope h ≡ with_parameters a.params names →
      Same (with_parameters a.params names) (with_parameters a.params names) (a.body h w) (b.body h w)

abbrev pub AllReadySame : List Scoped → List (Ready Body) → List (Ready Body) → Type 0
AllReadySame names [] [] = Unit {0}
AllReadySame names (a ∷ xs) (b ∷ ys) = ReadySame names a b × AllReadySame names xs ys
AllReadySame names _ _ = ⊥

abbrev OptionReady : List Scoped → Option (Ready Body) → Option (Ready Body) → Type 0
OptionReady names None None = Unit {0}
OptionReady names (Some a) (Some b) = ReadySame names a b
OptionReady names _ _ = ⊥

ready_first : (names : List Scoped) (t : Bool) (a b : Ready Body) (p q : Option (Ready Body)) → ReadySame names a b → OptionReady names p q →
    OptionReady names (cond t (Some a) p) (cond t (Some b) q)
ready_first names true a b p q e o = e
ready_first names false a b p q e o = o

ready_same : (names : List Scoped) (within : Bool) (label : LabelTree) (xs ys : List (Ready Body)) → AllReadySame names xs ys →
    OptionReady names (ready_for within label xs) (ready_for within label ys)
ready_same names within label [] [] l = tt
ready_same names within label [] (b ∷ ys) l = absurd l
ready_same names within label (a ∷ xs) [] l = absurd l
ready_same names within label (a ∷ xs) (b ∷ ys) l =
    let P : LabelTree → Type 0 =
    λ i. OptionReady names (cond (same_label label a.label && not (is_bare label && within)) (Some a) (ready_for within label xs))
    (cond (same_label label i && not (is_bare label && within)) (Some b) (ready_for within label ys)) in
    subst P l.0.label
    (ready_first names (same_label label a.label && not (is_bare label && within)) a b (ready_for within label xs) (ready_for within label ys) l.0
    (ready_same names within label xs ys l.1))

-- a handler is entered with as many values as it has parameters
same_entered : (names : List Scoped) (end : ℕ) (params : List Parameter) (values : List Value) (w : World) (x y : Evaluation) →
    (length params ≡ length values → Same names names x y) → Same names names (entered end params values w x) (entered end params values w y)
same_entered names end [] [] w x y p = p refl
same_entered names end [] (v ∷ values) w x y p = record { is = refl; keeps = tt }
same_entered names end (q ∷ params) [] w x y p = record { is = refl; keeps = tt }
same_entered names end (q ∷ params) (v ∷ values) w x y p =
    same_tested end (type_of_comp q.comp) v w (same_entered names end params values w x y (λ e. p (omega arith)))

-- a handler with these parameters is entered
abbrev enters : ℕ → List Parameter → (Here → World → Evaluation) → List Value → ℕ → ℕ → Here → World → Evaluation
enters end params body values level tries h w =
    entered end params values w (back level tries (body (with_bound (map scoped_parameter params) values (back_in level tries h)) w))

same_enters : (names : List Scoped) (end : ℕ) (a b : Ready Body) → ReadySame names a b → (values : List Value) (level tries : ℕ) (h : Here)
    (w : World) → level ≡ length names → Within names (scope h) →
    Same names names (enters end a.params a.body values level tries h w) (enters end a.params b.body values level tries h w)
same_enters names end a b o values level tries h w e r =
    let outer : Here = back_in level tries h in
    let inner : Here = with_bound (map scoped_parameter a.params) values outer in
    let params = a.params in
    same_entered names end params values w (back level tries (a.body inner w)) (back level tries (b.body inner w))
    (λ fits. same_back level tries e (within_parameters params names)
    (o.body inner w (scope_bound params values outer.names fits ∙ ap (with_parameters params) (scope_back names h level tries e r))))

same_handled : (names : List Scoped) (end : ℕ) (p q : Option (Ready Body)) → OptionReady names p q → (label : LabelTree) (values : List Value)
    (level tries : ℕ) (h : Here) (w : World) → level ≡ length names → Within names (scope h) → (again other : Evaluation → Evaluation) →
    ((x y : Evaluation) → Same names names x y → Same names names (again x) (other y)) →
    Same names names (handled end p label values level tries h w again) (handled end q label values level tries h w other)
same_handled names end None None o label values level tries h w e r again other k = record { is = refl; keeps = r }
same_handled names end None (Some b) o label values level tries h w e r again other k = absurd o
same_handled names end (Some a) None o label values level tries h w e r again other k = absurd o
same_handled names end (Some a) (Some b) o label values level tries h w e r again other k =
    let P : List Parameter → Type 0 =
    λ ps. Same names names (again (enters end a.params a.body values level tries h w)) (other (enters end ps b.body values level tries h w)) in
    subst P o.params
    (k (enters end a.params a.body values level tries h w) (enters end a.params b.body values level tries h w)
    (same_enters names end a b o values level tries h w e r))

-- what a catch makes of its body
pub same_caught : (names : List Scoped) (end turns : ℕ) (within : Bool) (xs ys : List (Ready Body)) → AllReadySame names xs ys → (level tries : ℕ) →
    level ≡ length names → (x y : Evaluation) → Same names names x y →
    Same names names (caught end turns within xs level tries x) (caught end turns within ys level tries y)
same_caught names end zero within xs ys l level tries e x y p = p
same_caught names end (suc turns) within xs ys l level tries e (Gives v h w) y p =
    record { is = ap (caught end (suc turns) within ys level tries) p.is; keeps = p.keeps }
same_caught names end (suc turns) within xs ys l level tries e (Raises v h w) y p =
    record { is = ap (caught end (suc turns) within ys level tries) p.is; keeps = p.keeps }
same_caught names end (suc turns) within xs ys l level tries e (Stops why w) y p =
    record { is = ap (caught end (suc turns) within ys level tries) p.is; keeps = tt }
same_caught names end (suc turns) within xs ys l level tries e (Exits label values h w) y p =
    let one = same_handled names end (ready_for within label xs) (ready_for within label ys) (ready_same names within label xs ys l) label values
    level tries h w e p.keeps (caught end turns true xs level tries) (caught end turns true ys level tries)
    (λ x y q. same_caught names end turns true xs ys l level tries e x y q) in
    record { is = one.is ∙ ap (caught end (suc turns) within ys level tries) p.is; keeps = one.keeps }

-- what a try makes of its body
pub same_tried : (names : List Scoped) (handler other : Value → Here → World → Evaluation) (level tries : ℕ) → level ≡ length names →
    (x y : Evaluation) → Same names names x y →
    ((v : Value) (h : Here) (w : World) → scope h ≡ names → Same names names (handler v h w) (other v h w)) →
    Same names names (tried handler level tries x) (tried other level tries y)
same_tried names handler other level tries e (Gives v h w) y p k =
    record { is = ap (tried other level tries) p.is; keeps = scope_back names h level tries e (within_same names h p.keeps) }
same_tried names handler other level tries e (Exits label values h w) y p k =
    record { is = ap (tried other level tries) p.is; keeps = p.keeps }
same_tried names handler other level tries e (Raises v h w) y p k =
    let one = k v (back_in level tries h) w (scope_back names h level tries e p.keeps) in
    record { is = one.is ∙ ap (tried other level tries) p.is; keeps = one.keeps }
same_tried names handler other level tries e (Stops why w) y p k = record { is = ap (tried other level tries) p.is; keeps = tt }
