-- Loops turned round: what is kept of the function's shape.
use Rattle.std.proofs.Common.{◌≡◌, ◌≢◌, ℕ, suc, ◌+◌, ◌≤◌, ◌<◌, Bool, true, false, cond, nat_eq, nat_lt, List, [], ◌∷◌, ◌++◌, length, All, Option, Some, None, refl, sym, ap, ◌∙◌, subst, arith}
use Rattle.std.proofs.lemmas.Bool.{true≢false, eq-eqb, eqb-true, lt-ltb, le-ltb}
use Rattle.bs_words.specs.declared.types.Comp.{Comp}
use Rattle.mach_ir.specs.Acts.{Target, On, At}
use Rattle.mach_ir.specs.Forms.{IsTested}
use Rattle.mach_ir.specs.Seats.{AreSeated, anywhere}
use Rattle.mach_ir.specs.Walks.{OneOf, this, other}
use Rattle.mach_ir.specs.declared.mach.Test.{Test}
use Rattle.lin_ir.specs.Formed.{comps, FlowHasForm, label_form, jump_form, exit_form, branch_form, switch_form, push_form, pop_form, enter_form, IsFormedLine, formed_op, formed_flow, IsHome, is_colour, is_slot, is_home, IsLocation, Locates, IsSelfMove, is_self_move, labels_in, NamesLabel, goes_to, pushes, EntersAt, enters_here, enters_below, places_of, lin_operand_seats, lin_result_seats, is_exit, is_label, GoesDown, WellFormed}
use Rattle.lin_ir.specs.Walks as walks
use Rattle.lin_ir.specs.Meaning.{after_label, code_at}
use Rattle.lin_ir.specs.Walks.{targets, may_raise, Reached, by_step, by_raise, TrapsBalance}
use Rattle.lin_ir.specs.declared.lin.Flow.{Flow}
use Rattle.lin_ir.specs.declared.lin.Flow.TheVariants as flow
use Rattle.lin_ir.specs.declared.lin.LinOp.{LinOp}
use Rattle.lin_ir.specs.declared.lin.LinOp.TheVariants as lin
use Rattle.lin_ir.specs.declared.lin.Line.{Line}
use Rattle.lin_ir.specs.declared.lin.Lin.{Lin}
use Rattle.lin_ir.specs.declared.lin.Spot.{Spot}
use Rattle.linearise_rules.proofs.Opposite.{tested_opposite}
use Rattle.linearise_rules.specs.Keeps.{OneTraps}
use Rattle.linearise_rules.specs.Lowered.{opposite_test}
use Rattle.linearise_rules.proofs.Homes.{IsIn, in_of, contains_of}
use Rattle.linearise_rules.proofs.Lines.{all_of}
use Rattle.linearise_rules.proofs.Marks.{all_in}
use Rattle.linearise_rules.proofs.Walked.{Tail, tail_all, tail_more, tail_next, reached_tail}
use Rattle.lin_tidy_rules.specs.Regular.{AtHomes, IsRegular}
use Rattle.lin_tidy_rules.specs.Turning.{Head, Turn, tested_again, label_put, turned_line, Turns}
use Rattle.lin_tidy_rules.proofs.Ends.{tail_length}
use Rattle.lin_tidy_rules.proofs.Shape.{spare_free, balance_of}
use Rattle.lin_tidy_rules.proofs.Turning.{may_turn, head_line, Where, own_place, label_place, copy_place, jump_place, code_of, rank_of, T, R, once, code_stays, tail_image, label_kept, handler_turned, Copied, exit_of, head_code, turned_code, not_turned, Stand, image, opened, copied, jumps, where_of, same, other_way, exits, View, own, past_label, past_jump, view, source, Kept, kept_line, is_way, kept}
use Rattle.lin_tidy_rules.proofs.TurningLines.{IsNew, new_exit, new_label, new_branch, new_jump, From, was_line, new_line, from_line}

-- ---- forms

flow_not_op : (f : Flow) {g : _} → lin.Flow f ≡ lin.Op g → ⊥
flow_not_op f e = cc

pub same_flow : (f g : Flow) → lin.Flow f ≡ lin.Flow g → f ≡ g
same_flow f g e = cc

label_not : (l : ℕ) (f : LinOp) → f ≡ lin.Flow (flow.Label l) → may_turn f ≡ false
label_not l f e = ap may_turn e

enter_not : (f : LinOp) → f ≡ lin.Flow flow.EnterTrap → may_turn f ≡ false
enter_not f e = ap may_turn e

abbrev is_branch : Flow → Bool
is_branch (flow.Branch t l) = true
is_branch _ = false

abbrev is_push : Flow → Bool
is_push (flow.PushTrap l) = true
is_push _ = false

abbrev may_be_new : Flow → Bool
may_be_new (flow.Exit l) = true
may_be_new (flow.Label l) = true
may_be_new (flow.Branch t l) = true
may_be_new (flow.Jump l) = true
may_be_new _ = false

abbrev exit_label : LinOp → ℕ
exit_label (lin.Flow (flow.Exit l)) = l
exit_label _ = 0

label_on : (f : LinOp) → is_label f ≡ true → OneOf On (targets f)
label_on (lin.Op f) e = absurd (true≢false (sym e))
label_on (lin.Flow (flow.Label k)) e = this
label_on (lin.Flow (flow.Jump k)) e = absurd (true≢false (sym e))
label_on (lin.Flow (flow.Exit k)) e = absurd (true≢false (sym e))
label_on (lin.Flow (flow.Branch t k)) e = this
label_on (lin.Flow (flow.Switch ls)) e = absurd (true≢false (sym e))
label_on (lin.Flow (flow.PushTrap k)) e = this
label_on (lin.Flow flow.PopTrap) e = this
label_on (lin.Flow flow.EnterTrap) e = this

pub not_same : (a b : ℕ) → b < a → nat_eq a b ≡ false
not_same a b lt = by (nat_eq a b) refl
  where
    by : (c : Bool) → nat_eq a b ≡ c → nat_eq a b ≡ false
    by false e = e
    by true e = let same : a ≡ b = eqb-true a b e in absurd (omega (arith, same, lt))

module _ (m r : Lin) (h : Turns m r) (regular : IsRegular m) where
  well : WellFormed m
  well = regular.well

  abbrev L : List Line → List Line
  L = T m r h regular.well

  abbrev Q : Lin
  Q = R m r h regular.well

  came : {j : Line} → IsIn j Q.code → From m r h regular.well j
  came z = from_line m r h regular.well m.code tail_all z

  -- ---- lines

  branch_formed : (d : Head) → IsFormedLine (head_line d) → IsTested d.test (comps d.args)
  branch_formed d f = by f refl
    where
      by : {i : Line} → IsFormedLine i → i ≡ head_line d → IsTested d.test (comps d.args)
      by (formed_op {f = f} h) e = absurd (flow_not_op (flow.Branch d.test d.to) (sym (ap (λ (i : Line). i.op) e)))
      by (formed_flow {f = f} {args = args} {results = results} h) e =
          tests h (same_flow f (flow.Branch d.test d.to) (ap (λ (i : Line). i.op) e)) (ap (λ (i : Line). comps i.args) e)
        where
          no_branch : (f : Flow) → is_branch f ≡ false → f ≡ flow.Branch d.test d.to → ⊥
          no_branch f e u = true≢false (sym (ap is_branch u) ∙ e)

          same_test : (t : Test) (l : ℕ) → flow.Branch t l ≡ flow.Branch d.test d.to → t ≡ d.test
          same_test t l e = cc

          tests : {f : Flow} {xs rs : List Comp} → FlowHasForm f xs rs → f ≡ flow.Branch d.test d.to → xs ≡ comps d.args → IsTested d.test (comps d.args)
          tests (branch_form {t = t} {l = l} {args = args} h) u v = subst (λ t. IsTested t (comps d.args)) (same_test t l u) (subst (IsTested t) v h)
          tests (label_form {l = l}) u v = absurd (no_branch (flow.Label l) refl u)
          tests (jump_form {l = l}) u v = absurd (no_branch (flow.Jump l) refl u)
          tests (exit_form {l = l}) u v = absurd (no_branch (flow.Exit l) refl u)
          tests (switch_form {labels = ls}) u v = absurd (no_branch (flow.Switch ls) refl u)
          tests (push_form {l = l}) u v = absurd (no_branch (flow.PushTrap l) refl u)
          tests pop_form u v = absurd (no_branch flow.PopTrap refl u)
          tests enter_form u v = absurd (no_branch flow.EnterTrap refl u)

  new_formed : {j : Line} → IsNew m r h regular.well j → IsFormedLine j
  new_formed (new_exit z) = formed_flow exit_form
  new_formed new_label = formed_flow label_form
  new_formed (new_branch {d = d} z s) = formed_flow (branch_form (tested_opposite (branch_formed d (all_in IsFormedLine well.forms z))))
  new_formed (new_jump z) = formed_flow jump_form

  line_formed : {j : Line} → From m r h regular.well j → IsFormedLine j
  line_formed (was_line z) = all_in IsFormedLine well.forms z
  line_formed (new_line n) = new_formed n

  home_turned : {l : _} → IsHome m l → IsHome Q l
  home_turned (is_colour z) = is_colour z
  home_turned (is_slot lt) = is_slot lt

  spots_turned : (ss : List Spot) → AtHomes m ss → AtHomes Q ss
  spots_turned ss h = all_of (λ (s : Spot). IsHome Q s.loc) ss (λ s z. home_turned (all_in (λ (s : Spot). IsHome m s.loc) h z))

  abbrev HomesOf : Line → Type 0
  HomesOf j = AtHomes Q j.args × AtHomes Q j.results

  were_homes : {i : Line} → IsIn i m.code → HomesOf i
  were_homes {i} z =
      let h = all_in (λ (i : Line). AtHomes m i.args × AtHomes m i.results) regular.homes z in
      (spots_turned i.args h.0, spots_turned i.results h.1)

  no_spots : AtHomes Q []
  no_spots = all_of (λ (s : Spot). IsHome Q s.loc) [] (λ s z. elim z [ ])

  line_homes : {j : Line} → From m r h regular.well j → HomesOf j
  line_homes (was_line z) = were_homes z
  line_homes (new_line (new_exit z)) = (no_spots, no_spots)
  line_homes (new_line new_label) = (no_spots, no_spots)
  line_homes (new_line (new_branch z s)) = ((were_homes z).0, no_spots)
  line_homes (new_line (new_jump z)) = (no_spots, no_spots)

  homes_turned : All HomesOf Q.code
  homes_turned = all_of HomesOf Q.code (λ j z. line_homes (came z))

  located_spots : (ss : List Spot) → AtHomes Q ss → Locates Q ss
  located_spots ss h = all_of (λ (s : Spot). IsLocation Q s.loc) ss (λ s z. is_home (all_in (λ (s : Spot). IsHome Q s.loc) h z))

  -- ---- labels

  one_label : {l k : ℕ} → OneOf (At l) (At k ∷ []) → l ≡ k
  one_label this = refl
  one_label (other o) = elim o [ ]

  not_push : (f : Flow) (l : ℕ) → is_push f ≡ false → lin.Flow f ≡ lin.Flow (flow.PushTrap l) → ⊥
  not_push f l e u = true≢false (sym (ap is_push (same_flow f (flow.PushTrap l) u)) ∙ e)

  named_turned : {j : Line} → From m r h regular.well j → (l : ℕ) → NamesLabel l j.op → IsIn l (labels_in Q.code)
  named_turned {j = i} (was_line z) l n = label_kept m r h regular.well m.code tail_all (in_of l (labels_in m.code) (well.named i (contains_of z) l n))
  named_turned (new_line (new_exit z)) l (goes_to o) = subst (λ l. IsIn l (labels_in Q.code)) (sym (one_label o)) z
  named_turned (new_line (new_exit {l = k} z)) l (pushes e) = absurd (not_push (flow.Exit k) l refl e)
  named_turned (new_line new_label) l (goes_to (other o)) = elim o [ ]
  named_turned (new_line (new_label {l = k})) l (pushes e) = absurd (not_push (flow.Label k) l refl e)
  named_turned (new_line (new_branch z s)) l (goes_to (other o)) = subst (λ l. IsIn l (labels_in Q.code)) (sym (one_label o)) s
  named_turned (new_line (new_branch {d = d} z s)) l (pushes e) = absurd (not_push (flow.Branch (opposite_test d.test) d.on) l refl e)
  named_turned (new_line (new_jump z)) l (goes_to o) = subst (λ l. IsIn l (labels_in Q.code)) (sym (one_label o)) z
  named_turned (new_line (new_jump {l = k} z)) l (pushes e) = absurd (not_push (flow.Jump k) l refl e)

  -- a line of this kind was there
  was_there : {j : Line} → From m r h regular.well j → ((f : Flow) → may_be_new f ≡ true → j.op ≡ lin.Flow f → ⊥) → IsIn j m.code
  was_there (was_line z) none = z
  was_there (new_line (new_exit {l = l} z)) none = absurd (none (flow.Exit l) refl refl)
  was_there (new_line (new_label {l = l})) none = absurd (none (flow.Label l) refl refl)
  was_there (new_line (new_branch {d = d} z s)) none = absurd (none (flow.Branch (opposite_test d.test) d.on) refl refl)
  was_there (new_line (new_jump {l = l} z)) none = absurd (none (flow.Jump l) refl refl)

  op_there : {j : Line} {g : _} → From m r h regular.well j → j.op ≡ lin.Op g → IsIn j m.code
  op_there y e = was_there y (λ f new u. flow_not_op f (sym u ∙ e))

  push_there : {j : Line} {l : ℕ} → From m r h regular.well j → j.op ≡ lin.Flow (flow.PushTrap l) → IsIn j m.code
  push_there {l = l} y e = was_there y (λ f new u. true≢false (sym new ∙ ap may_be_new (same_flow f (flow.PushTrap l) (sym u ∙ e))))

  enters_turned : {l : ℕ} (is : List Line) → Tail is m.code → EntersAt l is → EntersAt l (L is)
  enters_turned [] w z = elim z [ ]
  enters_turned {l} (i ∷ is) w (enters_below z) = past (turned_line (h.turns (length is)) (h.opens (length is)) i) (enters_turned is (tail_next w) z)
    where
      past : {ys : List Line} (xs : List Line) → EntersAt l ys → EntersAt l (xs ++ ys)
      past [] z = z
      past (x ∷ xs) z = enters_below (past xs z)
  enters_turned {l} (i ∷ j ∷ is) w (enters_here e u) =
      subst (EntersAt l)
      (sym (code_stays m r h regular.well w (label_not l i.op e) ∙ ap (λ xs. i ∷ xs) (code_stays m r h regular.well (tail_next w) (enter_not j.op u))))
      (enters_here e u)

  -- ---- places by the number of lines left

  abbrev exit_code : Line → List Line
  exit_code i = after_label (exit_label i.op) m.code

  abbrev where_line : Option Turn → Option ℕ → Line → List Line → ℕ → Where
  where_line None None i next n = own_place (i ∷ next)
  where_line None (Some l) i next n = cond (nat_eq n (suc (length (L next)))) (label_place next) (own_place (i ∷ next))
  where_line (Some t) o i next n =
      cond (nat_eq n (suc (length (L next)))) (jump_place (exit_code i))
      (cond (nat_eq n (suc (suc (length (L next))))) (copy_place (exit_code i)) (own_place (i ∷ next)))

  abbrev where_at : Line → List Line → ℕ → Where
  where_at i next n = where_line (h.turns (length next)) (h.opens (length next)) i next n

  abbrev where_in : List Line → ℕ → Where
  where_in [] n = own_place []
  where_in (i ∷ next) n = cond (nat_lt (length (L next)) n) (where_at i next n) (where_in next n)

  longer : {is zs : List Line} → Tail is zs → length (L is) ≤ length (L zs)
  longer w = tail_length (tail_image m r h regular.well w)

  -- a place inside of what became of a line
  found : {i : Line} {next zs : List Line} (n : ℕ) → Tail (i ∷ next) zs → length (L next) < n → n ≤ length (L (i ∷ next)) → where_in zs n ≡ where_at i next n
  found {i} {next} n tail_all low high = ap (λ b. cond b (where_at i next n) (where_in next n)) (lt-ltb (length (L next)) n low)
  found n (tail_more {j = j} {zs = zs} w) low high =
      let le = longer w in
      ap (λ b. cond b (where_at j zs n) (where_in zs n)) (le-ltb (length (L zs)) n (omega (arith, high, le)))
      ∙ found n w low high

  at_end : (zs : List Line) → where_in zs 0 ≡ own_place []
  at_end [] = refl
  at_end (i ∷ zs) = ap (λ b. cond b (where_at i zs 0) (where_in zs 0)) (le-ltb (length (L zs)) 0 (omega arith)) ∙ at_end zs

  own_length : (x : Option Turn) (o : Option ℕ) (i : Line) (next : List Line) → (length (L next) < length (turned_line x o i ++ L next)) ×
      (where_line x o i next (length (turned_line x o i ++ L next)) ≡ own_place (i ∷ next))
  own_length None None i next = (omega arith, refl)
  own_length None (Some l) i next =
      (omega arith, ap (λ b. cond b (label_place next) (own_place (i ∷ next))) (not_same (suc (suc (length (L next)))) (suc (length (L next))) (omega arith)))
  own_length (Some t) o i next = by t.keeps
    where
      n : ℕ
      n = length (L next)

      four : (n < suc (suc (suc (suc n)))) ×
          (cond (nat_eq (suc (suc (suc (suc n)))) (suc n)) (jump_place (exit_code i))
          (cond (nat_eq (suc (suc (suc (suc n)))) (suc (suc n))) (copy_place (exit_code i)) (own_place (i ∷ next)))
          ≡ own_place (i ∷ next))
      four = (
        omega arith,
        ap (λ b. cond b (jump_place (exit_code i))
            (cond (nat_eq (suc (suc (suc (suc n)))) (suc (suc n))) (copy_place (exit_code i)) (own_place (i ∷ next))))
            (not_same (suc (suc (suc (suc n)))) (suc n) (omega arith))
            ∙ ap (λ b. cond b (copy_place (exit_code i)) (own_place (i ∷ next))) (not_same (suc (suc (suc (suc n)))) (suc (suc n)) (omega arith)),
      )

      by : (b : Bool) → (n < suc (suc (length (tested_again b t.head ++ L next)))) ×
          (cond (nat_eq (suc (suc (length (tested_again b t.head ++ L next)))) (suc n)) (jump_place (exit_code i))
          (cond (nat_eq (suc (suc (length (tested_again b t.head ++ L next)))) (suc (suc n))) (copy_place (exit_code i)) (own_place (i ∷ next)))
          ≡ own_place (i ∷ next))
      by true = four
      by false = four

  two_more : (b : Bool) (d : Head) (xs : List Line) → length (tested_again b d ++ xs) ≡ suc (suc (length xs))
  two_more true d xs = refl
  two_more false d xs = refl

  four_more : {next : List Line} {t : Turn} (c : Copied m r h regular.well next t) → length (L (c.line ∷ next)) ≡ suc (suc (suc (suc (length (L next)))))
  four_more {next} {t} c = ap length (turned_code m r h regular.well c) ∙ ap (λ n. suc (suc n)) (two_more t.keeps t.head (L next))

  head_found : {next : List Line} {t : Turn} (c : Copied m r h regular.well next t) → exit_code c.line ≡ head_code m r h regular.well c
  head_found c = let e = exit_of m r h regular.well c in ap exit_code e.is ∙ e.leads

  -- the place where the second is, is found by the number of lines that are left
  located : {is js : List Line} {tries : List ℕ} (s : Stand m r h regular.well is js tries) → Tail is m.code →
      where_in m.code (length js) ≡ where_of m r h regular.well s
  located (image {is = is} e) w = ap (λ js. where_in m.code (length js)) (sym e) ∙ by is w
    where
      by : (is : List Line) → Tail is m.code → where_in m.code (length (L is)) ≡ own_place is
      by [] w = at_end m.code
      by (i ∷ next) w =
          let y = own_length (h.turns (length next)) (h.opens (length next)) i next in
          found (length (L (i ∷ next))) w y.0 (omega arith) ∙ y.1
  located (opened {i = i} {is = is} {l = l} w o e) w' =
      let two : length (L (i ∷ is)) ≡ suc (suc (length (L is))) =
      ap (λ x. length (turned_line x (h.opens (length is)) i ++ L is)) (not_turned m r h regular.well w o)
      ∙ ap (λ o. length ((i ∷ label_put o) ++ L is)) o in
      ap (λ js. where_in m.code (length js)) (sym e)
      ∙ found (suc (length (L is))) w (omega arith) (omega (arith, two))
      ∙ ap (λ x. where_line x (h.opens (length is)) i is (suc (length (L is)))) (not_turned m r h regular.well w o)
      ∙ ap (λ o. where_line None o i is (suc (length (L is)))) o
      ∙ ap (λ b. cond b (label_place is) (own_place (i ∷ is))) (eq-eqb (suc (length (L is))) (suc (length (L is))) refl)
  located (copied {next = next} {t = t} c e) w =
      ap (λ js. where_in m.code (length js)) (sym e) ∙ ap (where_in m.code) (two_more t.keeps t.head (L next))
      ∙ found (suc (suc (length (L next)))) c.stands (omega arith) (let four = four_more c in omega (arith, four))
      ∙ ap (λ x. where_line x (h.opens (length next)) c.line next (suc (suc (length (L next))))) c.turned
      ∙ ap (λ b. cond b (jump_place (exit_code c.line)) (cond (nat_eq (suc (suc (length (L next)))) (suc (suc (length (L next)))))
      (copy_place (exit_code c.line)) (own_place (c.line ∷ next))))
      (not_same (suc (suc (length (L next)))) (suc (length (L next))) (omega arith))
      ∙ ap (λ b. cond b (copy_place (exit_code c.line)) (own_place (c.line ∷ next))) (eq-eqb (suc (suc (length (L next)))) (suc (suc (length (L next)))) refl)
      ∙ ap copy_place (head_found c)
  located (jumps {next = next} {t = t} c to o at before e) w =
      ap (λ js. where_in m.code (length js)) (sym e)
      ∙ found (suc (length (L next))) c.stands (omega arith) (let four = four_more c in omega (arith, four))
      ∙ ap (λ x. where_line x (h.opens (length next)) c.line next (suc (length (L next)))) c.turned
      ∙ ap (λ b. cond b (jump_place (exit_code c.line)) (cond (nat_eq (suc (length (L next))) (suc (suc (length (L next)))))
      (copy_place (exit_code c.line)) (own_place (c.line ∷ next))))
      (eq-eqb (suc (length (L next))) (suc (length (L next))) refl)
      ∙ ap jump_place (head_found c)

  -- ---- walks

  stand_based : {is js : List Line} {tries : List ℕ} (s : Stand m r h regular.well is js tries) → Reached m is tries →
      Reached m (code_of (where_of m r h regular.well s)) tries
  stand_based (image e) reached = reached
  stand_based (opened w o e) reached = reached
  stand_based (copied c e) reached = reached
  stand_based (jumps c to o at before e) reached = before

  traps_turned : OneTraps Q
  traps_turned = record { one = λ js tries others s t. regular.traps.one (code_of (where_in m.code (length js))) tries others (based s) (based t) }
    where
      based : {js : List Line} {tries : List ℕ} → Reached Q js tries → Reached m (code_of (where_in m.code (length js))) tries
      based {js} {tries} s =
          let y = source m r h regular.well s in
          subst (λ w. Reached m (code_of w) tries) (sym (located y.stand (reached_tail m y.reached))) (stand_based y.stand y.reached)

  balance_turned : TrapsBalance Q
  balance_turned = balance_of Q traps_turned (λ j ks tries s e n. pops (kept m r h regular.well s) e n) (λ j ks tries s e. leaves (kept m r h regular.well s) e)
    where
      pops : {j : Line} {ks : List Line} {tries : List ℕ} → Kept m r h regular.well j ks tries → j.op ≡ lin.Flow flow.PopTrap → (length tries ≡ 0) → ⊥
      pops {j} {ks} {tries} (kept_line {next = next} moves reached) e n = well.traps.pops j next tries reached e n
      pops (is_way f u not_pop) e n = not_pop (same_flow f flow.PopTrap (sym u ∙ e))

      leaves : {j : Line} {ks : List Line} {tries : List ℕ} → Kept m r h regular.well j ks tries → walks.leaves j.op ≡ true → tries ≡ []
      leaves {j} {ks} {tries} (kept_line {next = next} moves reached) e = well.traps.leaves j next tries reached e
      leaves {j} (is_way f u not_pop) e = absurd (true≢false (sym e ∙ ap walks.leaves u))

  well_turned : WellFormed Q
  well_turned =
      record {
        forms = all_of IsFormedLine Q.code (λ j z. line_formed (came z));
        returns = λ j c e. well.returns j (contains_of (op_there (came (in_of j Q.code c)) e)) e;
        params = spots_turned m.params well.params;
        locations = all_of (λ (i : Line). Locates Q i.args × Locates Q i.results) Q.code
            (λ j z. let h = all_in HomesOf homes_turned z in (located_spots j.args h.0, located_spots j.results h.1));
        spare = spare_free Q homes_turned;
        labels = once m r h regular.well;
        named = λ j c l n. contains_of (named_turned (came (in_of j Q.code c)) l n);
        handlers = λ j c l e. enters_turned m.code tail_all (well.handlers j (contains_of (push_there (came (in_of j Q.code c)) e)) l e);
        traps = balance_turned;
      }

  -- ---- it goes down

  down_turned : GoesDown Q
  down_turned =
      record {
        order = order;
        labels = λ j ks tries s e. label_level s e;
        steps = λ j ks to tries left s e u l. step_lower s e u l;
        raises = λ j ks to tries left s l. raise_lower s l;
      }
    where
      d : GoesDown m
      d = regular.down

      order : ℕ → ℕ
      order n = rank_of d.order (where_in m.code n)

      rank_at : {is js : List Line} {tries : List ℕ} (s : Stand m r h regular.well is js tries) → Reached m is tries →
          order (length js) ≡ rank_of d.order (where_of m r h regular.well s)
      rank_at s reached = ap (rank_of d.order) (located s (reached_tail m reached))

      to_lower : {is js : List Line} {left : List ℕ} {k : ℕ} (s : Stand m r h regular.well is js left) → Reached m is left →
          rank_of d.order (where_of m r h regular.well s) < k → order (length js) < k
      to_lower s reached lt = let e = rank_at s reached in omega (arith, e, lt)

      to_level : {is js : List Line} {left : List ℕ} {k : ℕ} (s : Stand m r h regular.well is js left) → Reached m is left →
          rank_of d.order (where_of m r h regular.well s) ≤ k → order (length js) ≤ k
      to_level s reached le = let e = rank_at s reached in omega (arith, e, le)

      level : {is ks : List Line} {j : Line} {tries : List ℕ} {top : Where} → View m r h regular.well is j ks tries top → Reached m is tries →
          is_label j.op ≡ true →
          order (length ks) ≤ rank_of d.order top
      level (own (same {i = i} rank moves)) reached e =
          let o = label_on i.op e in
          to_level (moves On o).stand (by_step reached (walks.goes On o)) ((moves On o).level d e)
      level (own (other_way over fall)) reached e = absurd (true≢false (sym e))
      level (own (exits stand)) reached e = absurd (true≢false (sym e))
      level (past_label u low) reached e = to_level (image u) reached (low d)
      level (past_jump u low) reached e = absurd (true≢false (sym e))

      label_level : {j : Line} {ks : List Line} {tries : List ℕ} → Reached Q (j ∷ ks) tries → is_label j.op ≡ true → order (length ks) ≤ order (suc (length ks))
      label_level s e =
          let y = source m r h regular.well s in
          let le = level (view m r h regular.well y.stand y.reached refl) y.reached e in
          let same = rank_at y.stand y.reached in
          omega (arith, le, same)

      lower : {is ks : List Line} {j : Line} {tries : List ℕ} {top : Where} → View m r h regular.well is j ks tries top → Reached m is tries →
          is_exit j.op ≡ false → is_label j.op ≡ false →
          (t : Target) → OneOf t (targets j.op) → order (length (code_at Q.code ks t)) < rank_of d.order top
      lower (own (same rank moves)) reached e u t o =
          to_lower (moves t o).stand (by_step reached (walks.goes t o)) ((moves t o).lower d e u)
      lower (own (other_way {d = x} over fall)) reached e u On o =
          to_lower over.stand (by_step reached (walks.goes (At x.to) (other this))) (over.lower d refl refl)
      lower (own (other_way over fall)) reached e u (At l) (other this) = to_lower fall.stand (by_step reached (walks.goes On this)) (fall.lower d refl refl)
      lower (own (other_way over fall)) reached e u (At l) (other (other o)) = elim o [ ]
      lower (own (exits stand)) reached e u t o = absurd (true≢false e)
      lower (past_label a low) reached e u t o = absurd (true≢false u)
      lower (past_jump a low) reached e u t this = to_lower (image a) reached (low d)
      lower (past_jump a low) reached e u t (other o) = elim o [ ]

      step_lower : {j : Line} {ks to : List Line} {tries left : List ℕ} → Reached Q (j ∷ ks) tries → is_exit j.op ≡ false → is_label j.op ≡ false →
          walks.LineWalkStep Q j ks tries to left →
          order (length to) < order (suc (length ks))
      step_lower s e u (walks.goes t o) =
          let y = source m r h regular.well s in
          let lt = lower (view m r h regular.well y.stand y.reached refl) y.reached e u t o in
          let same = rank_at y.stand y.reached in
          omega (arith, lt, same)

      caught : {is ks : List Line} {j : Line} {l : ℕ} {tries : List ℕ} {top : Where} → View m r h regular.well is j ks (l ∷ tries) top →
          Reached m is (l ∷ tries) →
          may_raise j.op ≡ true → order (length (after_label l Q.code)) < rank_of d.order top
      caught {l = l} {tries = tries} (own (same {i = i} {next = next} rank moves)) reached e =
          let lt = d.raises i next (after_label l m.code) (l ∷ tries) tries reached (walks.raises e) in
          let u = rank d.order in
          to_lower (image (handler_turned m r h regular.well reached)) (by_raise reached (walks.raises e)) (omega (arith, lt, u))
      caught (own (other_way over fall)) reached e = absurd (true≢false (sym e))
      caught (own (exits stand)) reached e = absurd (true≢false (sym e))
      caught (past_label u low) reached e = absurd (true≢false (sym e))
      caught (past_jump u low) reached e = absurd (true≢false (sym e))

      raise_lower : {j : Line} {ks to : List Line} {tries left : List ℕ} → Reached Q (j ∷ ks) tries → walks.Raises Q j tries to left →
          order (length to) < order (suc (length ks))
      raise_lower s (walks.raises e) =
          let y = source m r h regular.well s in
          let lt = caught (view m r h regular.well y.stand y.reached refl) y.reached e in
          let same = rank_at y.stand y.reached in
          omega (arith, lt, same)

  -- ---- whole

  operands_seated : {j : Line} → From m r h regular.well j → AreSeated (lin_operand_seats j.op) (places_of j.args)
  operands_seated {j} (was_line z) = regular.seated.operands j (contains_of z)
  operands_seated (new_line (new_exit z)) = anywhere
  operands_seated (new_line new_label) = anywhere
  operands_seated (new_line (new_branch z s)) = anywhere
  operands_seated (new_line (new_jump z)) = anywhere

  results_seated : {j : Line} → From m r h regular.well j → AreSeated (lin_result_seats j.op) (places_of j.results)
  results_seated {j} (was_line z) = regular.seated.results j (contains_of z)
  results_seated (new_line (new_exit z)) = anywhere
  results_seated (new_line new_label) = anywhere
  results_seated (new_line (new_branch z s)) = anywhere
  results_seated (new_line (new_jump z)) = anywhere

  changes_turned : {j : Line} {from to : Spot} → From m r h regular.well j → IsSelfMove j from to → from.comp ≢ to.comp
  changes_turned {j} {from} {to} y z = regular.changes j (contains_of (move_there y z)) from to z
    where
      move_there : {j : Line} {from to : Spot} → From m r h regular.well j → IsSelfMove j from to → IsIn j m.code
      move_there y (is_self_move e) = op_there y refl

  regular_turned : IsRegular Q
  regular_turned =
      record {
        well = well_turned;
        homes = homes_turned;
        traps = traps_turned;
        down = down_turned;
        seated = record {
          params = regular.seated.params;
          operands = λ j c. operands_seated (came (in_of j Q.code c));
          results = λ j c. results_seated (came (in_of j Q.code c));
        };
        changes = λ j c from to z. changes_turned (came (in_of j Q.code c)) z;
      }

-- Where loops are turned round a function stays regular.
pub turning_regular : {m r : Lin} → Turns m r → IsRegular m → IsRegular r
turning_regular {m} {r} h regular = subst IsRegular (sym h.is) (regular_turned m r h regular)
