-- What is kept of a function's shape where jumps are redirected, and in all.
use Rattle.std.proofs.Common.{◌≡◌, ◌≢◌, ℕ, suc, Bool, true, false, List, [], ◌∷◌, ◌++◌, length, All, Option, Some, None, refl, sym, ap, ◌∙◌, subst, arith}
use Rattle.std.proofs.lemmas.Bool.{true≢false}
use Rattle.std.specs.List.{Contains, AllPairs}
use Rattle.bs_words.specs.declared.types.Comp.{Comp}
use Rattle.mach_ir.specs.Acts.{At}
use Rattle.mach_ir.specs.Forms.{results_of_type}
use Rattle.mach_ir.specs.Seats.{AreSeated}
use Rattle.mach_ir.specs.Walks.{OneOf, this, other}
use Rattle.mach_ir.specs.declared.op.Op.TheVariants as op
use Rattle.mach_ir.specs.declared.op.Leaving.TheVariants as leaving
use Rattle.lin_ir.specs.Formed.{comps, FlowHasForm, label_form, jump_form, exit_form, branch_form, switch_form, push_form, pop_form, enter_form, IsFormedLine, formed_op, formed_flow, IsHome, is_colour, is_slot, is_home, IsLocation, Locates, IsSelfMove, is_self_move, label_of, labels_in, NamesLabel, goes_to, pushes, EntersAt, enters_here, enters_below, is_exit, places_of, lin_operand_seats, lin_result_seats, WellFormed, bare_flow}
use Rattle.lin_ir.specs.Walks as walks
use Rattle.lin_ir.specs.Walks.{Reached, TrapsBalance}
use Rattle.lin_ir.specs.declared.lin.Flow.{Flow}
use Rattle.lin_ir.specs.declared.lin.Flow.TheVariants as flow
use Rattle.lin_ir.specs.declared.lin.LinOp.{LinOp}
use Rattle.lin_ir.specs.declared.lin.LinOp.TheVariants as lin
use Rattle.lin_ir.specs.declared.lin.Line.{Line}
use Rattle.lin_ir.specs.declared.lin.Lin.{Lin}
use Rattle.lin_ir.specs.declared.lin.Spot.{Spot}
use Rattle.linearise_rules.specs.Keeps.{OneTraps}
use Rattle.linearise_rules.proofs.Homes.{IsIn, in_of, contains_of}
use Rattle.linearise_rules.proofs.Lines.{all_of}
use Rattle.linearise_rules.proofs.Marks.{all_in}
use Rattle.linearise_rules.proofs.Walked.{tail_label, tail_in, reached_tail}
use Rattle.lin_tidy_rules.specs.Redirecting.{exit_or_jump, redirected_operation, redirect, GoesOnTo, itself, and_on, ExitsTo, by_exit, RedirectsTargets, Tidies, as_it_is, then_leaves, then_redirects, then_turns}
use Rattle.lin_tidy_rules.specs.Regular.{AtHomes, IsRegular}
use Rattle.lin_tidy_rules.proofs.Redirecting.{jump_same, same_labels, same_leaves, same_operands, same_results, T, turned, source, source_line, line_was, op_was}
use Rattle.lin_tidy_rules.proofs.RedirectingDown.{down_turned}
use Rattle.lin_tidy_rules.proofs.Ends.{tail_then, same_tail}
use Rattle.lin_tidy_rules.proofs.Shape.{spare_free, balance_of, SameShape, leaving_regular}
use Rattle.lin_tidy_rules.proofs.TurningShape.{turning_regular}
use Rattle.lin_tidy_rules.proofs.LeavingDown.{between_tail}

-- ---- forms

module _ (to : ℕ → ℕ) (exits : ℕ → Option ℕ) (args results : List Spot) where
  abbrev line : LinOp → Line
  line f = record { op = redirected_operation to exits f; args = args; results = results }

  of_form : (f : Flow) {xs rs : List Comp} → FlowHasForm f xs rs → comps args ≡ xs → comps results ≡ rs → FlowHasForm f (comps args) (comps results)
  of_form f {xs} {rs} h e u = subst (λ ys. FlowHasForm f ys (comps results)) (sym e) (subst (FlowHasForm f xs) (sym u) h)

  form_turned : {f : Flow} {xs rs : List Comp} → FlowHasForm f xs rs → comps args ≡ xs → comps results ≡ rs → IsFormedLine (line (lin.Flow f))
  form_turned (label_form {l = l}) e u = formed_flow (of_form (flow.Label l) label_form e u)
  form_turned (jump_form {l = l}) e u = by (exits l)
    where
      by : (o : Option ℕ) → IsFormedLine (record { op = lin.Flow (exit_or_jump o (to l)); args = args; results = results })
      by None = formed_flow (of_form (flow.Jump (to l)) jump_form e u)
      by (Some n) = formed_flow (of_form (flow.Exit n) exit_form e u)
  form_turned (exit_form {l = l}) e u = formed_flow (of_form (flow.Exit (to l)) exit_form e u)
  form_turned (branch_form {t = t} {l = l} h) e u = formed_flow (of_form (flow.Branch t (to l)) (branch_form h) e u)
  form_turned (switch_form {labels = ls}) e u = formed_flow (of_form (flow.Switch ls) switch_form e u)
  form_turned (push_form {l = l}) e u = formed_flow (of_form (flow.PushTrap l) push_form e u)
  form_turned pop_form e u = formed_flow (of_form flow.PopTrap pop_form e u)
  form_turned enter_form e u = formed_flow (of_form flow.EnterTrap enter_form e u)

line_formed : (to : ℕ → ℕ) (exits : ℕ → Option ℕ) {i : Line} → IsFormedLine i → IsFormedLine (redirect to exits i)
line_formed to exits (formed_op h) = formed_op h
line_formed to exits (formed_flow {args = args} {results = results} h) = form_turned to exits args results h refl refl

-- ---- operations and labels

abbrev is_turned : LinOp → Bool
is_turned (lin.Flow (flow.Jump l)) = true
is_turned (lin.Flow (flow.Exit l)) = true
is_turned (lin.Flow (flow.Branch t l)) = true
is_turned _ = false

not_push : (f : LinOp) (l : ℕ) → is_turned f ≡ true → f ≡ lin.Flow (flow.PushTrap l) → ⊥
not_push f l e u = true≢false (sym e ∙ ap is_turned u)

not_pop : (f : LinOp) → is_turned f ≡ true → f ≡ lin.Flow flow.PopTrap → ⊥
not_pop f e u = true≢false (sym e ∙ ap is_turned u)

one_label : (k l : ℕ) → OneOf (At l) (At k ∷ []) → l ≡ k
one_label k l this = refl
one_label k l (other o) = elim o [ ]

module _ (to : ℕ → ℕ) (exits : ℕ → Option ℕ) where
  -- a label that a redirected line names is that of the line, or the label to which that goes on, or a jump became an exit to it
  data NamedBy (l : ℕ) (f : LinOp) : Type 0 where
    as_before : NamesLabel l f → NamedBy l f
    goes_on_to : {k : ℕ} → NamesLabel k f → l ≡ to k → NamedBy l f
    exits_to : {k : ℕ} → NamesLabel k f → exits k ≡ Some l → is_exit (redirected_operation to exits f) ≡ true → NamedBy l f

  names_was : (l : ℕ) (f : LinOp) → NamesLabel l (redirected_operation to exits f) → NamedBy l f
  names_was l (lin.Op f) n = as_before n
  names_was l (lin.Flow (flow.Label k)) n = as_before n
  names_was l (lin.Flow (flow.Jump k)) n = by (exits k) refl n
    where
      by : (o : Option ℕ) → exits k ≡ o → NamesLabel l (lin.Flow (exit_or_jump o (to k))) → NamedBy l (lin.Flow (flow.Jump k))
      by None e (goes_to o) = goes_on_to (goes_to this) (one_label (to k) l o)
      by None e (pushes u) = absurd (not_push _ l refl u)
      by (Some n) e (goes_to o) =
          exits_to (goes_to this) (e ∙ ap Some (sym (one_label n l o))) (ap (λ o. is_exit (lin.Flow (exit_or_jump o (to k)))) e)
      by (Some n) e (pushes u) = absurd (not_push _ l refl u)
  names_was l (lin.Flow (flow.Exit k)) (goes_to o) = goes_on_to (goes_to this) (one_label (to k) l o)
  names_was l (lin.Flow (flow.Exit k)) (pushes e) = absurd (not_push _ l refl e)
  names_was l (lin.Flow (flow.Branch t k)) (goes_to (other o)) = goes_on_to (goes_to (other this)) (one_label (to k) l o)
  names_was l (lin.Flow (flow.Branch t k)) (pushes e) = absurd (not_push _ l refl e)
  names_was l (lin.Flow (flow.Switch ls)) n = as_before n
  names_was l (lin.Flow (flow.PushTrap k)) n = as_before n
  names_was l (lin.Flow flow.PopTrap) n = as_before n
  names_was l (lin.Flow flow.EnterTrap) n = as_before n

  pop_was : (f : LinOp) → redirected_operation to exits f ≡ lin.Flow flow.PopTrap → f ≡ lin.Flow flow.PopTrap
  pop_was (lin.Op f) e = e
  pop_was (lin.Flow (flow.Label k)) e = e
  pop_was (lin.Flow (flow.Jump k)) e = absurd (not_pop _ (jump_same is_turned true (λ l. refl) (λ l. refl) (exits k) (to k)) e)
  pop_was (lin.Flow (flow.Exit k)) e = absurd (not_pop _ refl e)
  pop_was (lin.Flow (flow.Branch t k)) e = absurd (not_pop _ refl e)
  pop_was (lin.Flow (flow.Switch ls)) e = e
  pop_was (lin.Flow (flow.PushTrap k)) e = e
  pop_was (lin.Flow flow.PopTrap) e = e
  pop_was (lin.Flow flow.EnterTrap) e = e

  push_was : (l : ℕ) (f : LinOp) → redirected_operation to exits f ≡ lin.Flow (flow.PushTrap l) → f ≡ lin.Flow (flow.PushTrap l)
  push_was l (lin.Op f) e = e
  push_was l (lin.Flow (flow.Label k)) e = e
  push_was l (lin.Flow (flow.Jump k)) e = absurd (not_push _ l (jump_same is_turned true (λ l. refl) (λ l. refl) (exits k) (to k)) e)
  push_was l (lin.Flow (flow.Exit k)) e = absurd (not_push _ l refl e)
  push_was l (lin.Flow (flow.Branch t k)) e = absurd (not_push _ l refl e)
  push_was l (lin.Flow (flow.Switch ls)) e = e
  push_was l (lin.Flow (flow.PushTrap k)) e = e
  push_was l (lin.Flow flow.PopTrap) e = e
  push_was l (lin.Flow flow.EnterTrap) e = e

module _ (m : Lin) (to : ℕ → ℕ) (exits : ℕ → Option ℕ) (each : (l : ℕ) → GoesOnTo m l (to l)) (out : (l n : ℕ) → exits l ≡ Some n → ExitsTo m l n)
    (regular : IsRegular m) where
  abbrev R : Lin
  R = turned m to exits each out

  abbrev L : List Line → List Line
  L = T m to exits each out

  labels_turned : (is : List Line) → labels_in (L is) ≡ labels_in is
  labels_turned [] = refl
  labels_turned (i ∷ is) = ap (λ ks. ks ++ labels_in (L is)) (same_labels to exits i.op) ∙ ap (λ ls. label_of i.op ++ ls) (labels_turned is)

  enters_turned : {l : ℕ} {is : List Line} → EntersAt l is → EntersAt l (L is)
  enters_turned (enters_here e u) = enters_here (ap (redirected_operation to exits) e) (ap (redirected_operation to exits) u)
  enters_turned (enters_below h) = enters_below (enters_turned h)

  lines_same : (is : List Line) → length (L is) ≡ length is
  lines_same [] = refl
  lines_same (i ∷ is) = ap suc (lines_same is)

  -- the label to which one goes on is there, and where the first comes later so does it
  stands_on : {k n : ℕ} → GoesOnTo m k n → Contains (labels_in m.code) k → Contains (labels_in m.code) n
  stands_on itself c = c
  stands_on (and_on {k = k} {n = n} g p) c =
      regular.well.named (bare_flow (flow.Jump n)) (contains_of (tail_in (tail_then (between_tail p) (tail_label k m.code)))) n (goes_to this)

  exits_on : {k n : ℕ} → ExitsTo m k n → Contains (labels_in m.code) k → Contains (labels_in m.code) n
  exits_on (by_exit {last = last} {out = out} g p h) c =
      stands_on h
      (regular.well.named (bare_flow (flow.Exit out)) (contains_of (tail_in (tail_then (between_tail p) (tail_label last m.code)))) out (goes_to this))

  -- ---- walks

  traps_turned : OneTraps R
  traps_turned = record { one = λ js tries others r s. by js tries others r s }
    where
      by : (js : List Line) (tries others : List ℕ) → Reached R js tries → Reached R js others → tries ≡ others
      by js tries others r s =
          let x = source m to exits each out r in
          let y = source m to exits each out s in
          let len : length x.code ≡ length y.code = sym (lines_same x.code) ∙ ap length (x.same ∙ sym y.same) ∙ lines_same y.code in
          regular.traps.one y.code tries others
          (subst (λ is. Reached m is tries) (same_tail (reached_tail m x.reached) (reached_tail m y.reached) len) x.reached) y.reached

  balance_turned : TrapsBalance R
  balance_turned =
      balance_of R traps_turned
      (λ j js tries r e n. let x = source_line m to exits each out r in regular.well.traps.pops x.line x.next tries x.reached
      (pop_was to exits x.line.op (ap (λ (j : Line). j.op) x.is_line ∙ e)) n)
      (λ j js tries r e. let x = source_line m to exits each out r in regular.well.traps.leaves x.line x.next tries x.reached
      (sym (same_leaves to exits x.line.op) ∙ ap (λ (j : Line). walks.leaves j.op) x.is_line ∙ e))

  -- ---- lines

  from_line : (P : Line → Type 0) → ((i : Line) → IsIn i m.code → P (redirect to exits i)) → (j : Line) → IsIn j R.code → P j
  from_line P h j z = let y = line_was m to exits each out j m.code z in subst P y.2 (h y.0 y.1)

  home_turned : {l : _} → IsHome m l → IsHome R l
  home_turned (is_colour z) = is_colour z
  home_turned (is_slot lt) = is_slot lt

  spots_turned : (ss : List Spot) → AtHomes m ss → AtHomes R ss
  spots_turned ss h = all_of (λ (s : Spot). IsHome R s.loc) ss (λ s z. home_turned (all_in (λ (s : Spot). IsHome m s.loc) h z))

  abbrev HomesOf : Line → Type 0
  HomesOf j = AtHomes R j.args × AtHomes R j.results

  homes_turned : All HomesOf R.code
  homes_turned =
      all_of HomesOf R.code
      (from_line HomesOf (λ i z. let h = all_in (λ (i : Line). AtHomes m i.args × AtHomes m i.results) regular.homes z in
      (spots_turned i.args h.0, spots_turned i.results h.1)))

  located : (ss : List Spot) → AtHomes R ss → Locates R ss
  located ss h = all_of (λ (s : Spot). IsLocation R s.loc) ss (λ s z. is_home (all_in (λ (s : Spot). IsHome R s.loc) h z))

  labels_same : labels_in R.code ≡ labels_in m.code
  labels_same = labels_turned m.code

  named_turned : (j : Line) → IsIn j R.code → (l : ℕ) → NamesLabel l j.op → Contains (labels_in R.code) l
  named_turned =
      from_line (λ j. (l : ℕ) → NamesLabel l j.op → Contains (labels_in R.code) l)
      (λ i z l n.
      subst (λ ls. Contains ls l) (sym labels_same)
      (by i z l (names_was to exits l i.op n)))
    where
      by : (i : Line) → IsIn i m.code → (l : ℕ) → NamedBy to exits l i.op → Contains (labels_in m.code) l
      by i z l (as_before n) = regular.well.named i (contains_of z) l n
      by i z l (goes_on_to {k = k} n e) = subst (Contains (labels_in m.code)) (sym e) (stands_on (each k) (regular.well.named i (contains_of z) k n))
      by i z l (exits_to {k = k} n e x) = exits_on (out k l e) (regular.well.named i (contains_of z) k n)

  well_turned : WellFormed R
  well_turned =
      record {
        forms = all_of IsFormedLine R.code (from_line IsFormedLine (λ i z. line_formed to exits (all_in IsFormedLine regular.well.forms z)));
        returns = λ j c. from_line (λ j. j.op ≡ lin.Op (op.Leaving leaving.Return) → comps j.args ≡ results_of_type m.result)
            (λ i z e. regular.well.returns i (contains_of z) (op_was m to exits each out i.op _ e)) j (in_of j R.code c);
        params = spots_turned m.params regular.well.params;
        locations = all_of (λ (i : Line). Locates R i.args × Locates R i.results) R.code
            (λ j z. let h = all_in HomesOf homes_turned z in (located j.args h.0, located j.results h.1));
        spare = spare_free R homes_turned;
        labels = subst (λ ls. AllPairs (λ k l. k ≢ l) ls) (sym labels_same) regular.well.labels;
        named = λ j c l n. named_turned j (in_of j R.code c) l n;
        handlers = λ j c. from_line (λ j. (l : ℕ) → j.op ≡ lin.Flow (flow.PushTrap l) → EntersAt l R.code)
            (λ i z l e. enters_turned (regular.well.handlers i (contains_of z) l (push_was to exits l i.op e))) j (in_of j R.code c);
        traps = balance_turned;
      }

  -- a move is not redirected
  move_was : (i : Line) (j : Line) {from to' : Spot} → redirect to exits i ≡ j → IsSelfMove j from to' → IsSelfMove i from to'
  move_was i j e (is_self_move {from = a} {to = b} same) =
      let o = op_was m to exits each out i.op _ (ap (λ (j : Line). j.op) e) in
      let back : redirect to exits i ≡ i = ap (λ o. record { op = o; args = i.args; results = i.results }) (ap (redirected_operation to exits) o ∙ sym o) in
      subst (λ (k : Line). IsSelfMove k a b) (sym e ∙ back) (is_self_move same)

  regular_turned : IsRegular R
  regular_turned =
      record {
        well = well_turned;
        homes = homes_turned;
        traps = traps_turned;
        down = down_turned m to exits each out regular.down;
        seated = record {
          params = regular.seated.params;
          operands = λ j c. from_line (λ j. AreSeated (lin_operand_seats j.op) (places_of j.args))
              (λ i z. subst (λ s. AreSeated s (places_of i.args)) (sym (same_operands to exits i.op)) (regular.seated.operands i (contains_of z))) j
              (in_of j R.code c);
          results = λ j c. from_line (λ j. AreSeated (lin_result_seats j.op) (places_of j.results))
              (λ i z. subst (λ s. AreSeated s (places_of i.results)) (sym (same_results to exits i.op)) (regular.seated.results i (contains_of z))) j
              (in_of j R.code c);
        };
        changes = λ j c from to' z.
            let y = line_was m to exits each out j m.code (in_of j R.code c) in regular.changes y.0 (contains_of y.1) from to' (move_was y.0 j y.2 z);
      }

  shape_turned : SameShape m R
  shape_turned = record { slots = refl; params = refl; labels = labels_same; lines = omega (arith, lines_same m.code) }

pub redirecting_regular : {m r : Lin} → RedirectsTargets m r → IsRegular m → IsRegular r
redirecting_regular {m} h regular = subst IsRegular (sym h.is) (regular_turned m h.to h.exits h.each h.out regular)

pub redirecting_shape : {m r : Lin} → RedirectsTargets m r → IsRegular m → SameShape m r
redirecting_shape {m} h regular = subst (SameShape m) (sym h.is) (shape_turned m h.to h.exits h.each h.out regular)

-- ---- all

-- What is made tidy stays regular.
pub tidied_regular : {m r : Lin} → Tidies m r → IsRegular m → IsRegular r
tidied_regular as_it_is regular = regular
tidied_regular (then_leaves t l) regular = leaving_regular l (tidied_regular t regular)
tidied_regular (then_redirects t l) regular = redirecting_regular l (tidied_regular t regular)
tidied_regular (then_turns t l) regular = turning_regular l (tidied_regular t regular)
