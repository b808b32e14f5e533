-- Each plain line is followed.
use Rattle.std.proofs.Common.{◌≡◌, ℕ, zero, suc, ◌+◌, ◌^◌, ◌<◌, ◌⊎◌, inl, inr, true, List, [], ◌∷◌, length, map, Option, Some, None, slice_get, refl, ap, arith, ◌∙◌, sym, subst, ⊎_elim}
use Rattle.std.specs.List.{AllByRecursion, Contains}
use Rattle.std.proofs.lemmas.List.Elements.{recursion_from_All}
use Rattle.bs_words.specs.declared.types.Comp.{Comp}
use Rattle.rv_emit_rules.specs.Emitted.{part_of_line}
use Rattle.rv_emit_rules.specs.Entry.{FrameLayout}
use Rattle.rv_emit_rules.specs.Units.{is_branch}
use Rattle.rv_emit_rules.proofs.Units.{if_branch}
use Rattle.rv_layout_rules.specs.Forms.{total_words}
use Rattle.rv_layout_rules.specs.Words.{NameAddresses}
use Rattle.lin_ir.specs.Formed.{FlowHasForm, IsFormedLine, formed_op, formed_flow, IsLocation, goes_to, comps, spare}
use Rattle.lin_ir.specs.Meaning.{Locations, NamedAt, State, after_label, code_at, step}
use Rattle.lin_ir.specs.Walks.{may_raise, targets}
use Rattle.lin_ir.specs.declared.descr.Descr.{Descr}
use Rattle.lin_ir.specs.declared.lin.Flow.{Flow}
use Rattle.lin_ir.specs.declared.lin.Flow.TheVariants as flow
use Rattle.lin_ir.specs.declared.lin.Lin.{Lin}
use Rattle.lin_ir.specs.declared.lin.Line.{Line}
use Rattle.lin_ir.specs.declared.lin.LinOp.{LinOp}
use Rattle.lin_ir.specs.declared.lin.LinOp.TheVariants as lin
use Rattle.lin_ir.specs.declared.lin.Spot.{Spot}
use Rattle.mach_ir.specs.Acts.{Around, At, On}
use Rattle.mach_ir.specs.Forms.{IsTested, HasForm, checks, constant, operates, a_register, a_constant, is_immediate, is_immediate_12}
use Rattle.mach_ir.specs.Runs.{ActivationSetting, Step, Continues, Pays, Deepens, Waits, FinishesBy, Finishes, FinishesRaising, IsStuck}
use Rattle.mach_ir.specs.Walks.{OneOf, this, other}
use Rattle.mach_ir.specs.declared.op.Access.TheVariants as access
use Rattle.mach_ir.specs.declared.op.Leaving.TheVariants as leaving
use Rattle.mach_ir.specs.declared.op.Op.{Op}
use Rattle.mach_ir.specs.declared.op.Op.TheVariants as op
use Rattle.mach_ir.specs.declared.op.Pure.{Pure}
use Rattle.mach_ir.specs.declared.op.Pure.TheVariants as pure
use Rattle.bs_words.proofs.Lists.{first_in, none_in}
use Rattle.mach_ir.specs.declared.op.Right.{Right}
use Rattle.mach_ir.specs.declared.op.Right.TheVariants as right
use Rattle.lin_machine.specs.Follows.{FollowsStep, IsAt}
use Rattle.lin_machine.specs.Relation.{Below, Laid}
use Rattle.lin_machine.specs.View.{Fixed, View}
use Rattle.lin_machine.proofs.Arriving.{at_least}
use Rattle.lin_machine.proofs.Pure.{Reads}
use Rattle.lin_machine.proofs.Rows.{immediate_small}
use Rattle.mach_ir.proofs.Immediates.{immediate_word}
use Rattle.line_stands.specs.Lines.{LineStands}
use Rattle.line_stands.specs.Parts.{PartStands}
use Rattle.lin_laws.proofs.Forms.{label_inv, jump_inv, exit_inv, branch_inv, switch_inv}
use Rattle.mach_ir.proofs.Forms.{symbol_inv, copy_inv, load_inv, store_inv, register_inv}
use Rattle.line_values.specs.Followed.{BranchesAreFollowed, Followed, FollowsBranch, IsPlain, plain_pure, plain_load, plain_store, plain_check, plain_label, plain_jump, plain_exit, plain_branch, plain_switch}
use Rattle.rv_layout_rules.specs.Laid.{address_of_place}
use Rattle.line_values.proofs.Checking.{check_line, check_with_line}
use Rattle.line_values.proofs.Landing.{Lies, exit_line, jump_line, label_line}
use Rattle.line_values.proofs.Loading.{load_line}
use Rattle.line_values.proofs.Moves.{constant_line, copy_line, symbol_line}
use Rattle.line_values.proofs.Operations.{operator_line, operator_with_line}
use Rattle.line_values.proofs.Switching.{switch_line}
use Rattle.line_values.proofs.Testing.{branch_line}
use Rattle.line_values.proofs.Writing.{store_line}

-- ---- forms

with_none : (xs : List Spot) → comps xs ≡ [] → (P : List Spot → Type 0) → P [] → P xs
with_none [] e P p = p
with_none (x ∷ xs) e P p = absurd (cc)

with_one : (xs : List Spot) (t : Comp) → comps xs ≡ t ∷ [] → (P : List Spot → Type 0) → ((x : Spot) → P (x ∷ [])) → P xs
with_one [] t e P p = absurd (cc)
with_one (x ∷ []) t e P p = p x
with_one (x ∷ y ∷ xs) t e P p = absurd (cc)

with_two : (xs : List Spot) (t u : Comp) → comps xs ≡ t ∷ u ∷ [] → (P : List Spot → Type 0) → ((x y : Spot) → P (x ∷ y ∷ [])) → P xs
with_two [] t u e P p = absurd (cc)
with_two (x ∷ []) t u e P p = absurd (cc)
with_two (x ∷ y ∷ []) t u e P p = p x y
with_two (x ∷ y ∷ z ∷ xs) t u e P p = absurd (cc)

constant_inv : (w : ℕ) (xs ys : List Comp) → HasForm (op.Pure (pure.Constant w)) xs ys → (xs ≡ []) × ((u : Comp) × (ys ≡ u ∷ [])) × (w < 2 ^ 64)
constant_inv w xs ys (constant {to = u} l) = (refl, (u, refl), l)

with_inv : (f : _) (w : ℕ) (xs ys : List Comp) → HasForm (op.Pure (pure.Operator f (right.Constant w))) xs ys →
    (t : Comp) × (o : Comp) × (xs ≡ t ∷ []) × (ys ≡ o ∷ []) × (is_immediate f w ≡ true)
with_inv f w xs ys (operates {left = t} {to = o} (a_constant e)) = (t, o, refl, refl, e)

check_inv : (xs ys : List Comp) → HasForm (op.Leaving (leaving.Checkbound right.Register)) xs ys → (t : Comp) × (u : Comp) × (xs ≡ t ∷ u ∷ []) × (ys ≡ [])
check_inv xs ys (checks {bound = t} (a_register {t = u})) = (t, u, refl, refl)

check_with_inv : (w : ℕ) (xs ys : List Comp) → HasForm (op.Leaving (leaving.Checkbound (right.Constant w))) xs ys →
    (t : Comp) × (xs ≡ t ∷ []) × (ys ≡ []) × (is_immediate_12 w ≡ true)
check_with_inv w xs ys (checks {bound = t} (a_constant e)) = (t, refl, refl, e)

form_of : (f : Op) (args results : List Spot) → IsFormedLine (record { op = lin.Op f; args = args; results = results }) → HasForm f (comps args) (comps results)
form_of f args results (formed_op h) = h

flow_form_of : (f : Flow) (args results : List Spot) → IsFormedLine (record { op = lin.Flow f; args = args; results = results }) →
    FlowHasForm f (comps args) (comps results)
flow_form_of f args results (formed_flow h) = h

-- ---- places

second_in : {X : Type 0} (x y : X) (xs : List X) → Contains (x ∷ y ∷ xs) y
second_in x y xs = (1, omega arith, refl)

one_member : (r : Spot) (t : Comp) → Contains (r ∷ []) (record { loc = spare; comp = t }) → r.loc ≡ spare
one_member r t (zero, l, e) = ap (λ (x : Spot). x.loc) e
one_member r t (suc k, l, e) = absurd (omega (arith, l))

case_of : (labels : List ℕ) (j l : ℕ) → slice_get labels j ≡ Some l → OneOf (At l) (map At labels)
case_of [] j l e = absurd (cc)
case_of (x ∷ labels) zero l e = let same : x ≡ l = cc in subst (λ z. OneOf (At l) (At z ∷ map At labels)) (sym same) this
case_of (x ∷ labels) (suc j) l e = other (case_of labels j l e)

-- a branch's step is one of a line
branch_follows : (k : ℕ) (s : Fixed) (laid : Laid) (live : List Line → Type 0) (entry : ℕ → ℕ) (c : Below) (v : View) (x : Step State) →
    FollowsBranch k s laid live c v x → FollowsStep k s laid live entry c v x
branch_follows k s laid live entry c v (Continues u) b = at_least 1 0 k k s v (IsAt s laid live c u) (omega arith) (omega arith) b
branch_follows k s laid live entry c v (Pays u) b = absurd b
branch_follows k s laid live entry c v (Deepens bytes u) b = absurd b
branch_follows k s laid live entry c v (Waits call go) b = absurd b
branch_follows k s laid live entry c v (FinishesBy call kept) b = absurd b
branch_follows k s laid live entry c v (Finishes x) b = absurd b
branch_follows k s laid live entry c v (FinishesRaising x) b = absurd b
branch_follows k s laid live entry c v IsStuck b = tt

module _ (s : Fixed) (laid : Laid) (n : NameAddresses) (m : Lin) (place : ActivationSetting) (named : NamedAt) (live : List Line → Type 0) (entry : ℕ → ℕ) (c : Below) (f : FrameLayout)
    (d : Option Descr) (next : List Line) where
  abbrev Goal : LinOp → List Spot → List Spot → Type 0
  Goal o args results = Followed s laid n m place named live entry c f d (record { op = o; args = args; results = results }) next

  abbrev Branches : LinOp → List Spot → List Spot → Type 0
  Branches o args results =
      (file : Locations) (a : Around) (v : View)
      (st : LineStands s laid n m place.setting live a.tries f d (record { op = o; args = args; results = results }) next) → a.raised ≡ None →
      IsAt s laid live c (record { rest = record { op = o; args = args; results = results } ∷ next; file = file; around = a }) v →
      FollowsBranch (total_words (part_of_line (length a.tries) f d (record { op = o; args = args; results = results })) st.part.forms) s laid live c v
      (step place named m (record { rest = record { op = o; args = args; results = results } ∷ next; file = file; around = a }))

  module _ (o : LinOp) (args results : List Spot) (a : Around)
      (st : LineStands s laid n m place.setting live a.tries f d (record { op = o; args = args; results = results }) next) where
    abbrev line : Line
    line = record { op = o; args = args; results = results }

    abbrev words : ℕ
    words = total_words (part_of_line (length a.tries) f d (record { op = o; args = args; results = results })) st.part.forms

    part_at : (v : View) → v.place ≡ laid.part (suc (length next)) →
        PartStands s n v.place (v.place + total_words (part_of_line (length a.tries) f d (record { op = o; args = args; results = results })) st.part.forms)
        (part_of_line (length a.tries) f d (record { op = o; args = args; results = results }))
    part_at v e =
        let p = st.part.past in
        let to : laid.part (length next) ≡ v.place + total_words (part_of_line (length a.tries) f d (record { op = o; args = args; results = results }))
        st.part.forms = omega (arith, p, e) in
        subst (λ z. PartStands s n v.place z (part_of_line (length a.tries) f d (record { op = o; args = args; results = results }))) to
        (subst (λ z. PartStands s n z (laid.part (length next)) (part_of_line (length a.tries) f d (record {
          op = o;
          args = args;
          results =
              results;
        }))) (sym e) st.part)

    behind : (v : View) → v.place ≡ laid.part (suc (length next)) →
        laid.part (length next) ≡ v.place + total_words (part_of_line (length a.tries) f d (record { op = o; args = args; results = results })) st.part.forms
    behind v e = let p = st.part.past in omega (arith, p, e)

    locates : AllByRecursion (λ (p : Spot). IsLocation m p.loc) args
    locates = recursion_from_All (λ (p : Spot). IsLocation m p.loc) args st.args

    result_locates : AllByRecursion (λ (p : Spot). IsLocation m p.loc) results
    result_locates = recursion_from_All (λ (p : Spot). IsLocation m p.loc) results st.results

    reads : (p : Spot) → Contains args p → Reads (live (record { op = o; args = args; results = results } ∷ next)) p.loc
    reads p i e = st.spare.reads p.comp (subst (Contains args) (ap (λ l. record { loc = l; comp = p.comp }) e) i)

    lies : (l : ℕ) → OneOf (At l) (targets o) → Lies s laid n m l
    lies l i = let k = st.named l (goes_to i) in record { address = st.names.label l k; inside = st.names.within l k }

    -- with no result
    passes_to : (to : _) → OneOf to (targets o) → results ≡ [] → live (code_at m.code next to) → live (record { op = o; args = args; results = results } ∷ next)
    passes_to to i none l =
        ⊎_elim (λ w. absurd (none_in (record { loc = spare; comp = w.0 }) (subst (λ rs. Contains rs (record { loc = spare; comp = w.0 })) none w.1)))
        (λ q. q.1) (st.spare.on to i l)

    -- with one
    passes_one : (r : Spot) → OneOf On (targets o) → results ≡ r ∷ [] → live next → (r.loc ≡ spare) ⊎ live (record {
      op = o;
      args = args;
      results =
          results;
    } ∷ next)
    passes_one r i one l =
        ⊎_elim (λ w. inl (one_member r w.0 (subst (λ rs. Contains rs (record { loc = spare; comp = w.0 })) one w.1)))
        (λ q. inr q.1) (st.spare.on On i l)

  -- ---- each kind

  constant_case : (w : ℕ) → w < 2 ^ 64 → (r : Spot) → Goal (lin.Op (op.Pure (pure.Constant w))) [] (r ∷ [])
  constant_case w small r file a v st none (young, held, agrees, during) =
      let o = lin.Op (op.Pure (pure.Constant w)) in
      constant_line s n laid m st.slots live entry c place named next v young held file a none during.within
      (live (record { op = o; args = []; results = r ∷ [] } ∷ next)) agrees (words o [] (r ∷ []) a st) (behind o [] (r ∷ []) a st v during.place) r
      (result_locates o [] (r ∷ []) a st).0 (passes_one o [] (r ∷ []) a st r this refl) w small (part_at o [] (r ∷ []) a st v during.place)

  symbol_case : (name : List ℕ) (r : Spot) → Goal (lin.Op (op.Pure (pure.Symbol name))) [] (r ∷ [])
  symbol_case name r file a v st none (young, held, agrees, during) =
      let o = lin.Op (op.Pure (pure.Symbol name)) in
      symbol_line s n laid m st.slots live entry c place named next v young held file a none during.within
      (live (record { op = o; args = []; results = r ∷ [] } ∷ next)) agrees (words o [] (r ∷ []) a st) (behind o [] (r ∷ []) a st v during.place) r
      (result_locates o [] (r ∷ []) a st).0 (passes_one o [] (r ∷ []) a st r this refl) name (st.names.symbol name) (part_at o [] (r ∷ []) a st v during.place)

  copy_case : (kind : _) (p r : Spot) → Goal (lin.Op (op.Pure (pure.Copy kind))) (p ∷ []) (r ∷ [])
  copy_case kind p r file a v st none (young, held, agrees, during) =
      let o = lin.Op (op.Pure (pure.Copy kind)) in
      copy_line s n laid m st.slots live entry c place named next v young held file a none during.within
      (live (record { op = o; args = p ∷ []; results = r ∷ [] } ∷ next)) agrees (words o (p ∷ []) (r ∷ []) a st)
      (behind o (p ∷ []) (r ∷ []) a st v during.place) r (result_locates o (p ∷ []) (r ∷ []) a st).0 (passes_one o (p ∷ []) (r ∷ []) a st r this refl) kind p
      (locates o (p ∷ []) (r ∷ []) a st).0 (reads o (p ∷ []) (r ∷ []) a st p (first_in p [])) (part_at o (p ∷ []) (r ∷ []) a st v during.place)

  register_case : (g : _) (p q r : Spot) → Goal (lin.Op (op.Pure (pure.Operator g right.Register))) (p ∷ q ∷ []) (r ∷ [])
  register_case g p q r file a v st none (young, held, agrees, during) =
      let o = lin.Op (op.Pure (pure.Operator g right.Register)) in
      operator_line s n laid m st.slots live entry c place named next v young held file a none during.within
      (live (record { op = o; args = p ∷ q ∷ []; results = r ∷ [] } ∷ next)) agrees (words o (p ∷ q ∷ []) (r ∷ []) a st)
      (behind o (p ∷ q ∷ []) (r ∷ []) a st v during.place) r (result_locates o (p ∷ q ∷ []) (r ∷ []) a st).0
      (passes_one o (p ∷ q ∷ []) (r ∷ []) a st r this refl) g p q (locates o (p ∷ q ∷ []) (r ∷ []) a st).0 (locates o (p ∷ q ∷ []) (r ∷ []) a st).1.0
      (reads o (p ∷ q ∷ []) (r ∷ []) a st p (first_in p (q ∷ []))) (reads o (p ∷ q ∷ []) (r ∷ []) a st q (second_in p q []))
      (part_at o (p ∷ q ∷ []) (r ∷ []) a st v during.place)

  with_case : (g : _) (w : ℕ) → is_immediate g w ≡ true → w < 2 ^ 64 → (p r : Spot) →
      Goal (lin.Op (op.Pure (pure.Operator g (right.Constant w)))) (p ∷ []) (r ∷ [])
  with_case g w has small p r file a v st none (young, held, agrees, during) =
      let o = lin.Op (op.Pure (pure.Operator g (right.Constant w))) in
      operator_with_line s n laid m st.slots live entry c place named next v young held file a none during.within
      (live (record { op = o; args = p ∷ []; results = r ∷ [] } ∷ next)) agrees (words o (p ∷ []) (r ∷ []) a st)
      (behind o (p ∷ []) (r ∷ []) a st v during.place) r (result_locates o (p ∷ []) (r ∷ []) a st).0 (passes_one o (p ∷ []) (r ∷ []) a st r this refl) g w has
      small p (locates o (p ∷ []) (r ∷ []) a st).0 (reads o (p ∷ []) (r ∷ []) a st p (first_in p [])) (part_at o (p ∷ []) (r ∷ []) a st v during.place)

  load_case : (k : _) (offset : ℕ) (p r : Spot) → Goal (lin.Op (op.Access (access.Load k offset))) (p ∷ []) (r ∷ [])
  load_case k offset p r file a v st none (young, held, agrees, during) =
      let o = lin.Op (op.Access (access.Load k offset)) in
      load_line s n laid m st.slots live entry c place named next v young held file a none during.within
      (live (record { op = o; args = p ∷ []; results = r ∷ [] } ∷ next)) agrees (words o (p ∷ []) (r ∷ []) a st)
      (behind o (p ∷ []) (r ∷ []) a st v during.place) r (result_locates o (p ∷ []) (r ∷ []) a st).0
      (passes_one o (p ∷ []) (r ∷ []) a st r this refl) k offset st.offset p (locates o (p ∷ []) (r ∷ []) a st).0
      (reads o (p ∷ []) (r ∷ []) a st p (first_in p [])) (part_at o (p ∷ []) (r ∷ []) a st v during.place)

  store_case : (k : _) (offset : ℕ) (p q : Spot) → Goal (lin.Op (op.Access (access.Store k offset))) (p ∷ q ∷ []) []
  store_case k offset p q file a v st none (young, held, agrees, during) =
      let o = lin.Op (op.Access (access.Store k offset)) in
      store_line s n laid m st.slots live entry c place named next v young held file a none during.within
      (live (record { op = o; args = p ∷ q ∷ []; results = [] } ∷ next)) agrees (words o (p ∷ q ∷ []) [] a st)
      (behind o (p ∷ q ∷ []) [] a st v during.place) (passes_to o (p ∷ q ∷ []) [] a st On this refl) k offset st.offset p q
      (locates o (p ∷ q ∷ []) [] a st).0 (locates o (p ∷ q ∷ []) [] a st).1.0 (reads o (p ∷ q ∷ []) [] a st p (first_in p (q ∷ [])))
      (reads o (p ∷ q ∷ []) [] a st q (second_in p q [])) (part_at o (p ∷ q ∷ []) [] a st v during.place)

  -- the handlers of the pushed traps
  module _ (o : LinOp) (args : List Spot) (a : Around)
      (st : LineStands s laid n m place.setting live a.tries f d (record { op = o; args = args; results = [] }) next) (may : may_raise o ≡ true) where
    among : (l : ℕ) (rest : List ℕ) → a.tries ≡ l ∷ rest → Contains a.tries l
    among l rest e = subst (λ ts. Contains ts l) (sym e) (first_in l rest)

    handled : (l : ℕ) (rest : List ℕ) → a.tries ≡ l ∷ rest → laid.handler l ≡ address_of_place (laid.part (length (after_label l m.code)))
    handled l rest e = st.names.handler l ∙ st.names.label l (st.handlers l (among l rest e))

    dead : (l : ℕ) (rest : List ℕ) → a.tries ≡ l ∷ rest → live (after_label l m.code) → ⊥
    dead l rest e = st.spare.aside may l (among l rest e)

  check_case : (p q : Spot) → Goal (lin.Op (op.Leaving (leaving.Checkbound right.Register))) (p ∷ q ∷ []) []
  check_case p q file a v st none (young, held, agrees, during) =
      let o = lin.Op (op.Leaving (leaving.Checkbound right.Register)) in
      check_line s n laid m st.slots live entry c place named next v young held file a none during.within
      (live (record { op = o; args = p ∷ q ∷ []; results = [] } ∷ next)) agrees (words o (p ∷ q ∷ []) [] a st)
      (behind o (p ∷ q ∷ []) [] a st v during.place) (passes_to o (p ∷ q ∷ []) [] a st On this refl) (handled o (p ∷ q ∷ []) a st refl)
      (dead o (p ∷ q ∷ []) a st refl) p q (locates o (p ∷ q ∷ []) [] a st).0 (locates o (p ∷ q ∷ []) [] a st).1.0
      (reads o (p ∷ q ∷ []) [] a st p (first_in p (q ∷ []))) (reads o (p ∷ q ∷ []) [] a st q (second_in p q []))
      (part_at o (p ∷ q ∷ []) [] a st v during.place)

  check_with_case : (w : ℕ) → w < 2 ^ 64 → (p : Spot) → Goal (lin.Op (op.Leaving (leaving.Checkbound (right.Constant w)))) (p ∷ []) []
  check_with_case w small p file a v st none (young, held, agrees, during) =
      let o = lin.Op (op.Leaving (leaving.Checkbound (right.Constant w))) in
      check_with_line s n laid m st.slots live entry c place named next v young held file a none during.within
      (live (record { op = o; args = p ∷ []; results = [] } ∷ next)) agrees (words o (p ∷ []) [] a st)
      (behind o (p ∷ []) [] a st v during.place) (passes_to o (p ∷ []) [] a st On this refl) (handled o (p ∷ []) a st refl) (dead o (p
      ∷ []) a st refl) w small p
      (locates o (p ∷ []) [] a st).0 (reads o (p ∷ []) [] a st p (first_in p [])) (part_at o (p ∷ []) [] a st v during.place)

  label_case : (l : ℕ) → Goal (lin.Flow (flow.Label l)) [] []
  label_case l file a v st none (young, held, agrees, during) =
      let o = lin.Flow (flow.Label l) in
      label_line s n laid m live entry c place named next v young held file a during.within (live (record { op = o; args = []; results = [] } ∷ next)) agrees
      (words o [] [] a st) l (behind o [] [] a st v during.place) (part_at o [] [] a st v during.place) (passes_to o [] [] a st On this refl)

  jump_case : (l : ℕ) → Goal (lin.Flow (flow.Jump l)) [] []
  jump_case l file a v st none (young, held, agrees, during) =
      let o = lin.Flow (flow.Jump l) in
      jump_line s n laid m live entry c place named next v young held file a during.within (live (record { op = o; args = []; results = [] } ∷ next)) agrees
      (words o [] [] a st) l (lies o [] [] a st l this) (part_at o [] [] a st v during.place) (passes_to o [] [] a st (At l) this refl)

  exit_case : (l : ℕ) → Goal (lin.Flow (flow.Exit l)) [] []
  exit_case l file a v st none (young, held, agrees, during) =
      let o = lin.Flow (flow.Exit l) in
      exit_line s n laid m live entry c place named next v young held file a during.within (live (record { op = o; args = []; results = [] } ∷ next)) agrees
      (words o [] [] a st) l (lies o [] [] a st l this) (part_at o [] [] a st v during.place) (passes_to o [] [] a st (At l) this refl)

  -- operands that are read where they are
  all_read : (before : Type 0) (xs : List Spot) → AllByRecursion (λ (p : Spot). IsLocation m p.loc) xs → ((p : Spot) → Contains xs p → Reads before p.loc) →
      AllByRecursion (λ (p : Spot). IsLocation m p.loc × Reads before p.loc) xs
  all_read before [] all h = tt
  all_read before (x ∷ xs) all h =
      ((all.0, h x (first_in x xs)), all_read before xs all.1 (λ p i. h p (later x xs p i)))
    where
      later : (x : Spot) (xs : List Spot) (p : Spot) → Contains xs p → Contains (x ∷ xs) p
      later x xs p (k, l, e) = (suc k, omega (arith, l), e)

  branch_takes : (t : _) (l : ℕ) (args : List Spot) → IsTested t (comps args) → Branches (lin.Flow (flow.Branch t l)) args []
  branch_takes t l args tested file a v st none (young, held, agrees, during) =
      let o = lin.Flow (flow.Branch t l) in
      branch_line s n laid m st.slots live entry c place named next v young held file a none during.within
      (live (record { op = o; args = args; results = [] } ∷ next)) agrees (words o args [] a st) (behind o args [] a st v during.place) l
      (lies o args [] a st l (other this)) (passes_to o args [] a st On this refl, passes_to o args [] a st (At l) (other this) refl) t args tested
      (all_read (live (record { op = o; args = args; results = [] } ∷ next)) args (locates o args [] a st) (reads o args [] a st))
      (part_at o args [] a st v during.place)

  branch_case : (t : _) (l : ℕ) (args : List Spot) → IsTested t (comps args) → Goal (lin.Flow (flow.Branch t l)) args []
  branch_case t l args tested file a v st none at =
      let o = lin.Flow (flow.Branch t l) in
      branch_follows (words o args [] a st) s laid live entry c v
      (step place named m (record { rest = record { op = o; args = args; results = [] } ∷ next; file = file; around = a }))
      (branch_takes t l args tested file a v st none at)

  switch_case : (labels : List ℕ) (p : Spot) → Goal (lin.Flow (flow.Switch labels)) (p ∷ []) []
  switch_case labels p file a v st none (young, held, agrees, during) =
      let o = lin.Flow (flow.Switch labels) in
      switch_line s n laid m st.slots live entry c place named next v young held file a none during.within
      (live (record { op = o; args = p ∷ []; results = [] } ∷ next)) agrees (words o (p ∷ []) [] a st) labels
      (λ j l e. lies o (p ∷ []) [] a st l (case_of labels j l e)) (λ j l e. passes_to o (p ∷ []) [] a st (At l) (case_of labels j l e) refl) p
      (locates o (p ∷ []) [] a st).0 (reads o (p ∷ []) [] a st p (first_in p [])) (part_at o (p ∷ []) [] a st v during.place)

  -- ---- by the line's form

  by_pure : (g : Pure) (args results : List Spot) → HasForm (op.Pure g) (comps args) (comps results) → Goal (lin.Op (op.Pure g)) args results
  by_pure (pure.Constant w) args results h =
      let i = constant_inv w (comps args) (comps results) h in
      with_none args i.0 (λ xs. Goal (lin.Op (op.Pure (pure.Constant w))) xs results)
      (with_one results i.1.0 i.1.1 (λ ys. Goal (lin.Op (op.Pure (pure.Constant w))) [] ys) (λ r. constant_case w i.2 r))
  by_pure (pure.Symbol name) args results h =
      let i = symbol_inv name (comps args) (comps results) h in
      with_none args i.0 (λ xs. Goal (lin.Op (op.Pure (pure.Symbol name))) xs results)
      (with_one results i.1.0 i.1.1 (λ ys. Goal (lin.Op (op.Pure (pure.Symbol name))) [] ys) (λ r. symbol_case name r))
  by_pure (pure.Copy kind) args results h =
      let i = copy_inv kind (comps args) (comps results) h in
      with_one args i.0 i.2 (λ xs. Goal (lin.Op (op.Pure (pure.Copy kind))) xs results)
      (λ p. with_one results i.1 i.3 (λ ys. Goal (lin.Op (op.Pure (pure.Copy kind))) (p ∷ []) ys) (λ r. copy_case kind p r))
  by_pure (pure.Operator g right.Register) args results h =
      let i = register_inv g (comps args) (comps results) h in
      with_two args i.0 i.1 i.3 (λ xs. Goal (lin.Op (op.Pure (pure.Operator g right.Register))) xs results)
      (λ p q. with_one results i.2 i.4 (λ ys. Goal (lin.Op (op.Pure (pure.Operator g right.Register))) (p ∷ q ∷ []) ys) (λ r. register_case g p q r))
  by_pure (pure.Operator g (right.Constant w)) args results h =
      let i = with_inv g w (comps args) (comps results) h in
      with_one args i.0 i.2 (λ xs. Goal (lin.Op (op.Pure (pure.Operator g (right.Constant w)))) xs results)
      (λ p. with_one results i.1 i.3 (λ ys. Goal (lin.Op (op.Pure (pure.Operator g (right.Constant w)))) (p ∷ []) ys)
      (λ r. with_case g w i.4 (immediate_word g w i.4) p r))

  by_check : (r : Right) (args results : List Spot) → HasForm (op.Leaving (leaving.Checkbound r)) (comps args) (comps results) →
      Goal (lin.Op (op.Leaving (leaving.Checkbound r))) args results
  by_check right.Register args results h =
      let i = check_inv (comps args) (comps results) h in
      with_two args i.0 i.1 i.2 (λ xs. Goal (lin.Op (op.Leaving (leaving.Checkbound right.Register))) xs results)
      (λ p q. with_none results i.3 (λ ys. Goal (lin.Op (op.Leaving (leaving.Checkbound right.Register))) (p ∷ q ∷ []) ys) (check_case p q))
  by_check (right.Constant w) args results h =
      let i = check_with_inv w (comps args) (comps results) h in
      with_one args i.0 i.1 (λ xs. Goal (lin.Op (op.Leaving (leaving.Checkbound (right.Constant w)))) xs results)
      (λ p. with_none results i.2 (λ ys. Goal (lin.Op (op.Leaving (leaving.Checkbound (right.Constant w)))) (p ∷ []) ys)
      (check_with_case w (immediate_small w i.3) p))

  by_op : (o : LinOp) (args results : List Spot) → IsPlain o → IsFormedLine (record { op = o; args = args; results = results }) → Goal o args results
  by_op o args results (plain_pure {g}) h = by_pure g args results (form_of (op.Pure g) args results h)
  by_op o args results (plain_load {k} {offset}) h =
      let i = load_inv k offset (comps args) (comps results) (form_of (op.Access (access.Load k offset)) args results h) in
      with_one args i.0 i.2 (λ xs. Goal (lin.Op (op.Access (access.Load k offset))) xs results)
      (λ p. with_one results i.1 i.3 (λ ys. Goal (lin.Op (op.Access (access.Load k offset))) (p ∷ []) ys) (λ r. load_case k offset p r))
  by_op o args results (plain_store {k} {offset}) h =
      let i = store_inv k offset (comps args) (comps results) (form_of (op.Access (access.Store k offset)) args results h) in
      with_two args i.0 i.1 i.2 (λ xs. Goal (lin.Op (op.Access (access.Store k offset))) xs results)
      (λ p q. with_none results i.3 (λ ys. Goal (lin.Op (op.Access (access.Store k offset))) (p ∷ q ∷ []) ys) (store_case k offset p q))
  by_op o args results (plain_check {r}) h = by_check r args results (form_of (op.Leaving (leaving.Checkbound r)) args results h)
  by_op o args results (plain_label {l}) h =
      let i = label_inv l (comps args) (comps results) (flow_form_of (flow.Label l) args results h) in
      with_none args i.0 (λ xs. Goal (lin.Flow (flow.Label l)) xs results)
      (with_none results i.1 (λ ys. Goal (lin.Flow (flow.Label l)) [] ys) (label_case l))
  by_op o args results (plain_jump {l}) h =
      let i = jump_inv l (comps args) (comps results) (flow_form_of (flow.Jump l) args results h) in
      with_none args i.0 (λ xs. Goal (lin.Flow (flow.Jump l)) xs results)
      (with_none results i.1 (λ ys. Goal (lin.Flow (flow.Jump l)) [] ys) (jump_case l))
  by_op o args results (plain_exit {l}) h =
      let i = exit_inv l (comps args) (comps results) (flow_form_of (flow.Exit l) args results h) in
      with_none args i.0 (λ xs. Goal (lin.Flow (flow.Exit l)) xs results)
      (with_none results i.1 (λ ys. Goal (lin.Flow (flow.Exit l)) [] ys) (exit_case l))
  by_op o args results (plain_branch {t} {l}) h =
      let i = branch_inv t l (comps args) (comps results) (flow_form_of (flow.Branch t l) args results h) in
      with_none results i.1 (λ ys. Goal (lin.Flow (flow.Branch t l)) args ys) (branch_case t l args i.0)
  by_op o args results (plain_switch {labels}) h =
      let i = switch_inv labels (comps args) (comps results) (flow_form_of (flow.Switch labels) args results h) in
      with_one args i.0.0 i.0.1 (λ xs. Goal (lin.Flow (flow.Switch labels)) xs results)
      (λ p. with_none results i.1 (λ ys. Goal (lin.Flow (flow.Switch labels)) (p ∷ []) ys) (switch_case labels p))

  -- Whatever plain line it is.
  pub plain_followed : (i : Line) → IsPlain i.op → Followed s laid n m place named live entry c f d i next
  plain_followed i plain file a v st none at = by_op i.op i.args i.results plain st.formed file a v st none at

  branch_by : (o : LinOp) (args results : List Spot) → is_branch o ≡ true → IsFormedLine (record { op = o; args = args; results = results }) →
      Branches o args results
  branch_by o args results b =
      if_branch (λ g. IsFormedLine (record { op = g; args = args; results = results }) → Branches g args results)
      (λ t l h.
      let i = branch_inv t l (comps args) (comps results) (flow_form_of (flow.Branch t l) args results h) in
      with_none results i.1 (λ ys. Branches (lin.Flow (flow.Branch t l)) args ys) (branch_takes t l args i.0)) o b

  -- And a branch takes at least one instruction.
  pub branch_followed : (i : Line) → is_branch i.op ≡ true → (file : Locations) (a : Around) (v : View)
      (st : LineStands s laid n m place.setting live a.tries f d i next) → a.raised ≡ None →
      IsAt s laid live c (record { rest = i ∷ next; file = file; around = a }) v →
      FollowsBranch (total_words (part_of_line (length a.tries) f d i) st.part.forms) s laid live c v
      (step place named m (record { rest = i ∷ next; file = file; around = a }))
  branch_followed i b file a v st none at = branch_by i.op i.args i.results b st.formed file a v st none at

pub branches_followed : (live : List Line → Type 0) → BranchesAreFollowed live
branches_followed live s laid n m place named c f d i next b file a v st none at =
    branch_followed s laid n m place named live (λ g. 0) c f d next i b file a v st none at
