-- Handlers of exits, where an exit leads back to code before it, and of raises.
use Rattle.std.proofs.Common.{◌≡◌, ℕ, zero, suc, ◌+◌, ◌<◌, ◌≤◌, Bool, true, false, cond, not, ◌&&◌, ◌⊎◌, inl, inr, ⊎_elim, List, [], ◌∷◌, ◌++◌, Option, Some, None, refl, sym, ap, ◌∙◌, subst, arith}
use Rattle.std.specs.Prelude.{length}
use Rattle.std.proofs.lemmas.Bool.{true≢false, eq-eqb}
use Rattle.bs_words.specs.declared.types.Comp.TheVariants as comp
use Rattle.bs_words.specs.declared.types.Ty.{Ty}
use Rattle.bs_fault.specs.Reported.{Faultless}
use Rattle.cmm_tree.specs.Symbols.{DefinedSymbol}
use Rattle.cmm_tree.specs.Tree.{LabelTree, Named as named, Bare, Done, Again, same_label, is_bare, Parameter, Expression, Catch, Try, Handlers, NoHandler, Handle}
use Rattle.cmm_types.specs.Standing.{Visible, labels_of, lasting_labels_of}
use Rattle.cmm_types.specs.Gathered.{faults_in, handlers_faults}
use Rattle.cmm_types.specs.Types.{type_of, type_without_float, type_of_handlers, with_parameters, holds_float}
use Rattle.walk_tables.specs.Walks.{Task, Evaluates, Catches, Handles, Slotted, behind_exit, or_else, handler_for, parameters_bound, with_slots}
use Rattle.walk_tables.specs.Walks as walk
use Rattle.mach_ir.specs.Acts.{On, drop_tries}
use Rattle.mach_ir.specs.Meaning.{after_label, code_at, from_handler, tries_at}
use Rattle.mach_ir.specs.declared.mach.Instr.{Instr}
use Rattle.mach_ir.specs.declared.mach.Mach.{Mach}
use Rattle.mach_ir.specs.declared.mach.Mark.TheVariants as mark
use Rattle.mach_ir.specs.declared.reg.Reg.{Reg}
use Rattle.selection_rules.specs.Instructions as emit
use Rattle.selection_rules.specs.Instructions.{bare_mark}
use Rattle.selection_rules.specs.Select.{NamedRegister, Label, scopes, visible_label, labels_from, in_handlers, unless_bare_mark, labels_within_try, width, width_labels, params_from, with_params, raised_name, inner_dest, inner_valued, seat, select, select_handlers}
use Rattle.mach_laws.proofs.Places.{ending_next}
use Rattle.selection_rules.proofs.Parts.{Within, ending_in, Placed, placed_in, placed_next, WellLabelled, inside_in}
use Rattle.selection_rules.proofs.Endings.{ending_select, ending_handlers}
use Rattle.selection_laws.proofs.Accepting.{left, right}
use Rattle.selection_laws.specs.Fits.{Fits, HandlersFit}
use Rattle.selection_walks.proofs.Phases.{Phase, Bound, Ahead, more_steps, Marked, read_there, moved_on, marked, Told, skipped, quietly, kept_same, apart_binds}
use Rattle.selection_walks.proofs.Situations.{holds, Low, low_more, pair, paired_more, Seen, seen, unseen, tried, Landing, OutsOf, Sit, sit, go, sit_less, no_among, one_number, out, Wanted, ApartFrom, inner, inner_apart}
use Rattle.selection_walks.proofs.Finals.{IsPlain, apart_sit, plain_move}
use Rattle.selection_walks.proofs.Names.{inner_below, wanted_typed}
use Rattle.selection_walks.proofs.Operands.{Scene, at_more, Claim, of_claim}
use Rattle.selection_walks.proofs.Leavings.{params_row, params_paired, takes_sit}
use Rattle.selection_walks.proofs.Branches.{on_target, at_target, jump_sit, end_sit, past_sit, wanted_first, wanted_second}
use Rattle.selection_rules.proofs.Exits.{params_length}

-- ---- labels

same_bare : (a b : LabelTree) → same_label a b ≡ true → is_bare a ≡ is_bare b
same_bare (named x) (named y) e = refl
same_bare (named x) Bare e = absurd (true≢false (sym e))
same_bare (named x) Done e = refl
same_bare (named x) Again e = refl
same_bare Bare (named y) e = absurd (true≢false (sym e))
same_bare Bare Bare e = refl
same_bare Bare Done e = absurd (true≢false (sym e))
same_bare Bare Again e = absurd (true≢false (sym e))
same_bare Done (named y) e = refl
same_bare Done Bare e = absurd (true≢false (sym e))
same_bare Done Done e = refl
same_bare Done Again e = refl
same_bare Again (named y) e = refl
same_bare Again Bare e = absurd (true≢false (sym e))
same_bare Again Done e = refl
same_bare Again Again e = refl

pub own_seen : {labels : List Label} {vis : List Visible} (l : ℕ) (hs : Handlers) → Seen labels vis → Seen (labels_from l hs ++ labels) (labels_of hs ++ vis)
own_seen l NoHandler s = s
own_seen l (Handle at label params body rest) s = seen refl (params_length (suc l) params) (own_seen (suc l + length params) rest s)

pub inside_seen : {labels : List Label} {vis : List Visible} (l : ℕ) (hs : Handlers) → Seen labels vis →
    Seen (in_handlers (labels_from l hs) ++ labels) (lasting_labels_of hs ++ vis)
inside_seen l NoHandler s = s
inside_seen l (Handle at (named x) params body rest) s = seen refl (params_length (suc l) params) (inside_seen (suc l + length params) rest s)
inside_seen l (Handle at Bare params body rest) s = inside_seen (suc l + length params) rest s
inside_seen l (Handle at Done params body rest) s = seen refl (params_length (suc l) params) (inside_seen (suc l + length params) rest s)
inside_seen l (Handle at Again params body rest) s = seen refl (params_length (suc l) params) (inside_seen (suc l + length params) rest s)

pub deeper_seen : {labels : List Label} {vis : List Visible} → Seen labels vis → Seen (labels_within_try labels) vis
deeper_seen unseen = unseen
deeper_seen (seen e l s) = seen e l (deeper_seen s)

pub scopes_with : (ps : List Parameter) (b : ℕ) (env : List NamedRegister) → scopes (with_params ps (params_from b ps) env) ≡ with_parameters ps (scopes env)
scopes_with [] b env = refl
scopes_with (p ∷ ps) b env = scopes_with ps (suc b) _

-- the labels in scope, in the body of a catch or in its handlers
abbrev own_labels : Bool → List Label → List Label
own_labels false own = own
own_labels true own = in_handlers own

module _ (m : Mach) (n : ℕ) where
  -- what is ahead at the code of each of these handlers is ahead in the text
  abbrev pub Lands : ℕ → Option ℕ → List Slotted → ℕ → Handlers → List Task → ℕ → Handlers → Type 0
  Lands k w scope slot whole tasks l NoHandler = Unit {0}
  Lands k w scope slot whole tasks l (Handle at label params body rest) =
      ((p : Phase) → Ahead m n k p (after_label l m.code) →
      Told p (holds n (params_from (suc l) params) slot w)
      (Evaluates (with_slots slot params scope) (slot + length params) body ∷ Catches scope slot true whole ∷ tasks)) × Lands k w scope slot whole tasks
      (suc l + length params) rest

  own_exits : {k : ℕ} {ts : List ℕ} {labels : List Label} {w : Option ℕ} (tasks : List Task) (within : Bool) (scope : List Slotted) (slot : ℕ)
      (whole : Handlers) (l : ℕ) (hs : Handlers) → ((s : ℕ) → w ≡ Some s → s < slot) → ((j : ℕ) → j < k → Lands j w scope slot whole tasks l hs) →
      OutsOf m n k w ts labels tasks → (label : LabelTree) (t : Label) →
      visible_label (own_labels within (labels_from l hs) ++ labels) label ≡ Some t →
      Landing m n k w t (or_else (handler_for label scope slot within whole tasks hs) (behind_exit label tasks))
  own_exits tasks false scope slot whole l NoHandler low lands o label t e = o.exits label t e
  own_exits tasks true scope slot whole l NoHandler low lands o label t e = o.exits label t e
  own_exits {k} {ts} {labels} {w} tasks within scope slot whole l (Handle at own params body rest) low lands o label t e =
      by within (same_label label own) refl (is_bare own) refl e
      (λ q. own_exits tasks within scope slot whole (suc l + length params) rest low (λ j less. (lands j less).1) o label t q)
    where
      first_label : Label
      first_label = record { label = own; params = params_from (suc l) params; number = l; tries = 0 }

      others : Bool → List Label
      others within = own_labels within (labels_from (suc l + length params) rest) ++ labels

      some_label : (a b : Label) → Some a ≡ Some b → a ≡ b
      some_label a b e = cc

      own_tasks : List Task
      own_tasks = parameters_bound slot params ++ (Evaluates (with_slots slot params scope) (slot + length params) body ∷ Catches scope slot true whole ∷ tasks)

      found_here : (handler : Option (List Task)) → handler ≡ Some own_tasks → first_label ≡ t → Landing m n k w t handler
      found_here handler e q =
          subst (λ x. Landing m n k w x handler) q
          (record {
            slot = slot;
            number = suc l;
            params = params;
            base = w;
            rest = Evaluates (with_slots slot params scope)
                (slot + length params) body ∷ Catches scope slot true whole ∷ tasks;
            regs = refl;
            vacant = low;
            keeps = kept_same;
            leads = e;
            lands =
                λ j less p z. (lands j less).0 p z;
          })

      and_true : (b : Bool) → b ≡ true → (c : Bool) → c ≡ false → (b && not c) ≡ true
      and_true b e c f = ap (λ x. x && not c) e ∙ ap not f

      and_never : (b c : Bool) → (b ≡ true → c ≡ true) → (b && not c) ≡ false
      and_never true c f = ap not (f refl)
      and_never false c f = refl

      and_no : (b c : Bool) → b ≡ false → (b && c) ≡ false
      and_no b c e = ap (λ x. x && c) e

      right_false : (b : Bool) → (b && false) ≡ false
      right_false true = refl
      right_false false = refl

      right_true : (b : Bool) → (b && true) ≡ b
      right_true true = refl
      right_true false = refl

      chosen : (within : Bool) → Option (List Task)
      chosen within = or_else (handler_for label scope slot within whole tasks rest) (behind_exit label tasks)

      flagged : (within b : Bool) → (same_label label own && not (is_bare label && within)) ≡ b →
          or_else (cond b (Some own_tasks) (handler_for label scope slot within whole tasks rest)) (behind_exit label tasks) ≡ or_else
          (handler_for label scope slot within whole tasks (Handle at own params body rest)) (behind_exit label tasks)
      flagged within b e = ap (λ x. or_else (cond x (Some own_tasks) (handler_for label scope slot within whole tasks rest)) (behind_exit label tasks)) (sym e)

      by : (within s : Bool) → same_label label own ≡ s → (q : Bool) → is_bare own ≡ q →
          visible_label (own_labels within (first_label ∷ labels_from (suc l + length params) rest) ++ labels) label ≡ Some t →
          (visible_label (others within) label ≡ Some t → Landing m n k w t (chosen within)) →
          Landing m n k w t (or_else (handler_for label scope slot within whole tasks (Handle at own params body rest)) (behind_exit label tasks))
      by false true s q b e ih =
          found_here _ (sym (flagged false true (and_true (same_label label own) s (is_bare label && false) (right_false (is_bare label)))))
          (some_label first_label t (ap (λ x. cond x (Some first_label) (visible_label (others false) label)) (sym s) ∙ e))
      by false false s q b e ih =
          subst (Landing m n k w t) (flagged false false (and_no (same_label label own) (not (is_bare label && false)) s))
          (ih (ap (λ x. cond x (Some first_label) (visible_label (others false) label)) (sym s) ∙ e))
      by true true s true b e ih =
          subst (Landing m n k w t) (flagged true false
          (and_never (same_label label own) (is_bare label && true) (λ h. right_true (is_bare label) ∙ same_bare label own h ∙ b)))
          (ih (ap (λ x. visible_label (unless_bare_mark x first_label (in_handlers (labels_from (suc l + length params) rest)) ++ labels) label) (sym b) ∙ e))
      by true false s true b e ih =
          subst (Landing m n k w t) (flagged true false (and_no (same_label label own) (not (is_bare label && true)) s))
          (ih (ap (λ x. visible_label (unless_bare_mark x first_label (in_handlers (labels_from (suc l + length params) rest)) ++ labels) label) (sym b) ∙ e))
      by true true s false b e ih =
          found_here _ (sym
          (flagged true true (and_true (same_label label own) s (is_bare label && true) (right_true (is_bare label) ∙ same_bare label own s ∙ b))))
          (some_label first_label t
          (ap (λ x. cond x (Some first_label) (visible_label (others true) label)) (sym s) ∙ ap
          (λ x. visible_label (unless_bare_mark x first_label (in_handlers (labels_from (suc l + length params) rest)) ++ labels) label) (sym b) ∙ e))
      by true false s false b e ih =
          subst (Landing m n k w t) (flagged true false (and_no (same_label label own) (not (is_bare label && true)) s))
          (ih (ap (λ x. cond x (Some first_label) (visible_label (others true) label)) (sym s) ∙ ap
          (λ x. visible_label (unless_bare_mark x first_label (in_handlers (labels_from (suc l + length params) rest)) ++ labels) label) (sym b) ∙ e))

  -- what is known inside a catch
  pub catch_outs : {k : ℕ} {ts : List ℕ} {labels : List Label} {w : Option ℕ} (tasks : List Task) (within : Bool) (scope : List Slotted) (slot l : ℕ)
      (hs : Handlers) → ((s : ℕ) → w ≡ Some s → s < slot) → ((j : ℕ) → j < k → Lands j w scope slot hs tasks l hs) → OutsOf m n k w ts labels tasks →
      OutsOf m n k w ts (own_labels within (labels_from l hs) ++ labels) (Catches scope slot within hs ∷ tasks)
  catch_outs tasks within scope slot l hs low lands o = record {
    raised = o.raised;
    exits = λ label t e. own_exits tasks within scope slot hs l hs low lands o label t e;
  }

  pub catch_sit : {D : List Reg} {k : ℕ} {ts : List ℕ} {labels inner : List Label} {w : Option ℕ} {next : List Instr} {tasks : List Task} (within : Bool)
      (scope : List Slotted) (slot : ℕ) (hs : Handlers) → OutsOf m n k w ts inner (Catches scope slot within hs ∷ tasks) → Sit m n D k w ts labels next tasks →
      Sit m n D k w ts inner next (Catches scope slot within hs ∷ tasks)
  catch_sit {tasks = tasks} within scope slot hs o x =
      record {
        cont = λ at p f z. quietly (walk.leaves_catch scope slot within hs tasks) (x.cont at p f z);
        given = λ at f z. quietly (walk.leaves_catch scope slot within hs tasks) (x.given at f z);
        outs = o;
      }

  module _ (defined : List ℕ → Option DefinedSymbol) (labelled : WellLabelled m) where
    -- the code of handlers, before which no exit has come to one
    pub handlers_sit : {D : List Reg} {k : ℕ} {ts : List ℕ} {inner : List Label} {w : Option ℕ} {next : List Instr} {tasks : List Task} (env : List NamedRegister)
        (labels : List Label) (valued tail : Bool) (d : Reg) (end l b : ℕ) (hs : Handlers) → Sit m n D k w ts inner next tasks →
        Sit m n D k w ts inner (select_handlers env labels valued tail d end l b hs (bare_mark (mark.End end) ∷ next)) tasks
    handlers_sit env labels valued tail d end l b NoHandler x = end_sit m n end x
    handlers_sit env labels valued tail d end l b (Handle at label params body rest) x =
        past_sit m n (mark.With l end) end labelled refl (λ c. refl)
        (inside_in (ending_handlers env labels valued tail d end (suc l + length params) (b + width body) rest _)
        (ending_select _ labels valued tail d b body _)) x

    abbrev pub Handled : Handlers → Type 0
    Handled hs =
        (want : Bool) (k : ℕ) (ts : List ℕ) (w : Option ℕ) (l slot : ℕ) (env : List NamedRegister) (scope : List Slotted) (labels : List Label) (vis : List Visible)
        (next : List Instr) (tasks : List Task) (valued tail : Bool) (d : Reg) (end b : ℕ) (whole : Handlers) → Scene m n w l slot env scope labels vis →
        l + width_labels hs ≤ b →
        Faultless (handlers_faults defined (scopes env) vis hs) → HandlersFit (scopes env) hs → Wanted m n want (type_of_handlers (scopes env) hs) →
        ApartFrom m n d w → d.number < l → Sit m n (out m n want d) k w ts labels next (Catches scope slot true whole ∷ tasks) →
        Placed m ts (select_handlers env labels valued tail d end l b hs (bare_mark (mark.End end) ∷ next)) → Lands k w scope slot whole tasks l hs

    pub no_handlers : Handled NoHandler
    no_handlers want k ts w l slot env scope labels vis next tasks valued tail d end b whole at lb ff fits value apart below x placed = tt

    pub more_handlers : (at : ℕ) (label : LabelTree) (params : List Parameter) (body : Expression) (rest : Handlers) →
        ((want : Bool) → Claim m n defined want body) → Handled rest → Handled (Handle at label params body rest)
    more_handlers place label params body rest claim others want k ts w l slot env scope labels vis next tasks valued tail d end b whole at lb ff fits value apart below x placed = (
      λ p z. go m n (of_claim m n defined want body (claim want) valued tail d scene
          (subst (λ sc. Faultless (faults_in defined sc vis body)) same (right (left ff))) (subst (λ sc. Fits sc body) same fits.0)
          (subst (λ sc. Wanted m n want (type_without_float sc body)) same
          (wanted_first m n defined labelled want (type_without_float (with_parameters params (scopes env)) body)
          (type_of_handlers (scopes env) rest) value))
          (λ e. none_kept (apart e) (λ s q. (params_row n (suc l) slot params).values w s (low_more (omega arith) (omega arith) at.low) q) e)
          (omega (arith, below, lb))
          (handlers_sit _ labels valued tail d end (suc l + length params) (b + width body) rest
          (takes_sit m n 0 0 0 ((params_row n (suc l) slot params).kept w (low_more (omega arith) (omega arith) at.low)) x)))
          inner p (subst (Ahead m n k p) (labelled.behind_is l _ _ placed.ending (eq-eqb l l refl)) z),
      others want k ts w (suc l + length params) slot env scope labels vis next tasks valued tail d end (b + width body) whole
          (at_more m n (omega arith) (omega arith) at) (omega (arith, lb)) (right ff) fits.1
          (wanted_second m n defined labelled want (type_without_float (with_parameters params (scopes env)) body)
          (type_of_handlers (scopes env) rest) value) apart (omega (arith, below)) x (placed_in (ending_select _ labels valued tail d b body _) inner),
    )
      where
        regs : List Reg
        regs = params_from (suc l) params

        inner : Placed m ts (select (with_params params regs env) labels valued tail d b body
            (select_handlers env labels valued tail d end (suc l + length params) (b + width body) rest (bare_mark (mark.End end) ∷ next)))
        inner = placed_next refl placed

        same : with_parameters params (scopes env) ≡ scopes (with_params params regs env)
        same = sym (scopes_with params (suc l) env)

        none_of : (o : Option ℕ) → ((s : ℕ) → o ≡ Some s → ⊥) → o ≡ None
        none_of None f = refl
        none_of (Some s) f = absurd (f s refl)

        none_kept : {v : Option ℕ} → w ≡ None → ((s : ℕ) → v ≡ Some s → Rattle.selection_walks.proofs.Operands.InRow n (suc l) slot (length params) w s) →
            n ≡ d.number → v ≡ None
        none_kept {v} e f q = none_of v (λ s h. ⊎_elim (λ i. Rattle.selection_walks.proofs.Situations.none_some s (sym e ∙ i))
            (λ i. let low = i.2 in omega (arith, low, below, q)) (f s h))

        low_all : Low n (holds n regs slot w) b (slot + length params)
        low_all s e = ⊎_elim (λ i. let z = at.low s i in let u = z.0 in let v = z.1 in (omega (arith, u, lb), omega (arith, v))) (λ i. let u = i.1 in
            let v = i.3 in (omega (arith, v, lb), u)) ((params_row n (suc l) slot params).values w s (low_more (omega arith) (omega arith) at.low) e)

        scene : Scene m n (holds n regs slot w) b (slot + length params) (with_params params regs env) (with_slots slot params scope) labels vis
        scene = record {
          low = low_all;
          paired = params_paired m n params (suc l) slot w env scope (low_more (omega arith) (omega arith) at.low) at.paired;
          seen = at.seen;
        }

    less_or : (j k : ℕ) → j < suc k → (j < k) ⊎ (j ≡ k)
    less_or zero zero l = inr refl
    less_or zero (suc k) l = inl (omega arith)
    less_or (suc j) zero l = absurd (omega (arith, l))
    less_or (suc j) (suc k) l = ⊎_elim (λ a. inl (omega (arith, a))) (λ e. inr (ap suc e)) (less_or j k (omega (arith, l)))

    pub catch_form : (at : ℕ) (body : Expression) (hs : Handlers) → ((want : Bool) → Claim m n defined want body) → Handled hs → (want : Bool) →
        Claim m n defined want (Catch at body hs)
    catch_form place body hs claim handled want k ts w b slot env scope labels vis next tasks valued tail d at ff fits value apart below y =
        sit m n (λ placed p z. quietly (walk.evaluates scope slot (Catch place body hs) tasks) (at_catch placed p z)) y.outs
      where
        T : Ty
        T = type_of (scopes env) (Catch place body hs)

        d' : Reg
        d' = inner_dest T b d

        l : ℕ
        l = suc (suc b)

        base : ℕ
        base = l + width_labels hs

        code : List Instr
        code = select_handlers env (in_handlers (labels_from l hs) ++ labels) (inner_valued valued T) tail d' (suc b) l (base + width body) hs
            (bare_mark (mark.End (suc b)) ∷ next)

        low : (s : ℕ) → w ≡ Some s → s < slot
        low s e = let z = at.low s e in z.1

        below' : d'.number < suc b
        below' = inner_below T b d below

        lands : Placed m ts code → (k : ℕ) → Sit m n (out m n want d') k w ts labels next tasks → (j : ℕ) → j < k → Lands j w scope slot hs tasks l hs
        lands placed zero y j less = absurd (omega (arith, less))
        lands placed (suc k) y j less = by (less_or j k less) (lands placed k (sit_less m n y) j) (handled_at k (sit_less m n y)
            (lands placed k (sit_less m n y)))
          where
            handled_at : (k : ℕ) → Sit m n (out m n want d') k w ts labels next tasks → ((j : ℕ) → j < k → Lands j w scope slot hs tasks l hs) →
                Lands k w scope slot hs tasks l hs
            handled_at k y before =
                handled want k ts w l slot env scope (in_handlers (labels_from l hs) ++ labels) (lasting_labels_of hs ++ vis) next tasks
                (inner_valued valued T) tail d' (suc b) (base + width body) hs
                (record { low = low_more (omega arith) (omega arith) at.low; paired = at.paired; seen = inside_seen l hs at.seen }) (omega arith)
                (right (right ff)) fits.1
                (wanted_second m n defined labelled want (type_without_float (scopes env) body) (type_of_handlers (scopes env) hs) value)
                (inner_apart m n T b d at.low apart) (omega (arith, below'))
                (catch_sit true scope slot hs (catch_outs tasks true scope slot l hs low before y.outs) y) placed

            by : (j < k) ⊎ (j ≡ k) → (j < k → Lands j w scope slot hs tasks l hs) → Lands k w scope slot hs tasks l hs → Lands j w scope slot hs tasks l hs
            by (inl a) f g = f a
            by (inr e) f g = subst (λ i. Lands i w scope slot hs tasks l hs) (sym e) g

        y' : Sit m n (out m n want d') k w ts labels next tasks
        y' = inner m n want T b d (wanted_typed m n want (holds_float (Catch place body hs)) (type_without_float (scopes env) (Catch place body hs)) value) y

        at_catch : Placed m ts (bare_mark mark.Catch ∷ select env (labels_from l hs ++ labels) (inner_valued valued T) tail d' base body code) → (p : Phase) →
            Ahead m n k p (bare_mark mark.Catch ∷ select env (labels_from l hs ++ labels) (inner_valued valued T) tail d' base body code) →
            Told p w (Evaluates scope slot body ∷ Catches scope slot false hs ∷ tasks)
        at_catch placed p z =
            let in_body = placed_next refl placed in
            let in_code = placed_in (ending_select env (labels_from l hs ++ labels) (inner_valued valued T) tail d' base body code) in_body in
            let outs = catch_outs tasks false scope slot l hs low (lands in_code k y') y.outs in
            go m n (jump_sit m n mark.Catch On refl (λ placed. (refl, placed_next refl placed))
            (of_claim m n defined want body (claim want) (inner_valued valued T) tail d'
            (record { low = low_more (omega arith) (omega arith) at.low; paired = at.paired; seen = own_seen l hs at.seen }) (left (right ff)) fits.0
            (wanted_first m n defined labelled want (type_without_float (scopes env) body) (type_of_handlers (scopes env) hs) value)
            (inner_apart m n T b d at.low apart) (omega (arith, below'))
            (handlers_sit env (in_handlers (labels_from l hs) ++ labels) (inner_valued valued T) tail d' (suc b) l (base + width body) hs
            (catch_sit false scope slot hs outs y')))) placed p z

    -- ---- tries

    record Deepened (labels : List Label) (label : LabelTree) (t : Label) : Type 0 where
      outer : Label
      is : visible_label labels label ≡ Some outer
      same : t ≡ record { label = outer.label; params = outer.params; number = outer.number; tries = suc outer.tries }

    some_label : (a b : Label) → Some a ≡ Some b → a ≡ b
    some_label a b e = cc

    none_label : (a : Label) → None ≡ Some a → ⊥
    none_label a e = cc

    deepened : (labels : List Label) (label : LabelTree) (t : Label) → visible_label (labels_within_try labels) label ≡ Some t → Deepened labels label t
    deepened [] label t e = absurd (none_label t e)
    deepened (u ∷ labels) label t e = by (same_label label u.label) refl (deepened labels label t)
      where
        deep : Label
        deep = record { label = u.label; params = u.params; number = u.number; tries = suc u.tries }

        by : (q : Bool) → same_label label u.label ≡ q → (visible_label (labels_within_try labels) label ≡ Some t → Deepened labels label t) → Deepened (u ∷ labels) label t
        by true q f = record {
          outer = u;
          is = ap (λ x. cond x (Some u) (visible_label labels label)) q;
          same = sym
              (some_label deep t (ap (λ x. cond x (Some deep) (visible_label (labels_within_try labels) label)) (sym q) ∙ e));
        }
        by false q f = let z = f (ap (λ x. cond x (Some deep) (visible_label (labels_within_try labels) label)) (sym q) ∙ e) in record {
          outer = z.outer;
          is = ap
              (λ x. cond x (Some u) (visible_label labels label)) q ∙ z.is;
          same = z.same;
        }

    try_outs : {k : ℕ} {ts : List ℕ} {labels : List Label} {w : Option ℕ} (tasks : List Task) (scope : List Slotted) (slot name_at : ℕ) (name : List ℕ)
        (handler : Expression) (l : ℕ) → ((p : Phase) → Ahead m n k p (from_handler l m.code) → Told p w
        (walk.handling scope slot name_at name handler ++ tasks)) → OutsOf m n k w ts labels tasks →
        OutsOf m n k w (l ∷ ts) (labels_within_try labels) (Handles scope slot name_at name handler ∷ tasks)
    try_outs {k} {ts} {labels} {w} tasks scope slot name_at name handler l f o =
        record {
          raised = tried (walk.handling scope slot name_at name handler ++ tasks) refl f;
          exits = λ label t e.
              let z = deepened labels label t e in
              let x = o.exits label z.outer z.is in
              subst (λ u. Landing m n k w u (behind_exit label tasks)) (sym z.same)
              (record {
                slot = x.slot;
                number = x.number;
                params = x.params;
                base = x.base;
                rest = x.rest;
                regs = x.regs;
                vacant = x.vacant;
                keeps = x.keeps;
                leads = x.leads;
                lands = x.lands;
              });
        }

    tail_same : (l : ℕ) (a b : List ℕ) → l ∷ a ≡ l ∷ b → a ≡ b
    tail_same l a b e = cc

    plain_handler : (l : ℕ) (y : Reg) → IsPlain (emit.handler l y)
    plain_handler l y = record { on = refl; calm = refl; inside = refl; tries = λ next. refl }

    val_address : comp.Val ≡ comp.Addr → ⊥
    val_address e = cc

    pub try_form : (at : ℕ) (body : Expression) (name_at : ℕ) (name : List ℕ) (handler : Expression) → ((want : Bool) → Claim m n defined want body) →
        ((want : Bool) → Claim m n defined want handler) → (want : Bool) → Claim m n defined want (Try at body name_at name handler)
    try_form place body name_at name handler claim claim_handler want k ts w b slot env scope labels vis next tasks valued tail d at ff fits value apart below y =
        sit m n (λ placed p z. quietly (walk.evaluates scope slot (Try place body name_at name handler) tasks) (at_try placed p z)) y.outs
      where
        T : Ty
        T = type_of (scopes env) (Try place body name_at name handler)

        d' : Reg
        d' = inner_dest T b d

        l : ℕ
        l = suc b

        end : ℕ
        end = suc (suc b)

        x : NamedRegister
        x = raised_name name (suc (suc (suc b)))

        v : Reg
        v = seat 0 (suc (suc (suc (suc b)))) comp.Val

        base : ℕ
        base = suc (suc (suc (suc (suc b))))

        wants : Bool
        wants = inner_valued valued T

        behind : List Instr
        behind = select (x ∷ env) labels wants tail d' (base + width body) handler (bare_mark (mark.End end) ∷ next)

        entry : List Instr
        entry = emit.handler l v ∷ emit.move v x.reg ∷ behind

        y' : Sit m n (out m n want d') k w ts labels next tasks
        y' = inner m n want T b d (wanted_typed m n want (holds_float (Try place body name_at name handler))
            (type_without_float (scopes env) (Try place body name_at name handler)) value) y

        apart' : ApartFrom m n d' w
        apart' = inner_apart m n T b d at.low apart

        below' : d'.number < suc b
        below' = inner_below T b d below

        no_slot : w ≡ Some slot → ⊥
        no_slot e = let z = at.low slot e in let u = z.1 in omega (arith, u)

        scene : (n ≡ x.reg.number → ⊥) → Scene m n w (base + width body) (suc slot) (x ∷ env) (record { scoped = x.scoped; slot = slot } ∷ scope) labels vis
        scene away = record {
          low = low_more (omega arith) (omega arith) at.low;
          paired = pair refl (omega arith) (λ e. absurd (away (sym e)))
              (λ e. absurd (no_slot e)) refl (paired_more (omega arith) kept_same (λ s e. inl e) at.paired);
          seen = at.seen;
        }

        handled : Sit m n [] k w ts labels entry (walk.handling scope slot name_at name handler ++ tasks)
        handled =
            apart_sit m n v _ (plain_handler l v) refl val_address (λ a. absurd (no_among m n a)) y.outs
            (λ off_v. apart_sit m n x.reg _ (plain_move m n v x.reg) refl val_address (λ a. absurd (off_v (one_number m n a))) y.outs
            (λ off_x. sit m n (λ placed p z. skipped (apart_binds p w slot false name_at (λ s e q. no_slot (e ∙ ap Some (sym q)))) (go m n
            (of_claim m n defined want handler (claim_handler want) wants tail d' (scene off_x) (right ff) fits.1
            (wanted_second m n defined labelled want (type_without_float (scopes env) body)
            (type_without_float (x.scoped ∷ scopes env) handler) value) apart' (omega (arith, below')) (end_sit m n end y')) placed p z)) y.outs))

        leave_code : List Instr
        leave_code = bare_mark (mark.Leave l end) ∷ entry

        body_code : List Instr
        body_code = select env (labels_within_try labels) wants false d' base body leave_code

        in_entry : Within (bare_mark (mark.End end) ∷ next) behind
        in_entry = ending_select (x ∷ env) labels wants tail d' (base + width body) handler (bare_mark (mark.End end) ∷ next)

        to_next : Placed m ts entry → (after_label end m.code ≡ next) × Placed m ts next
        to_next placed = let e = placed_in in_entry (placed_next refl (placed_next refl placed)) in (
          labelled.behind_is end _ _ e.ending (eq-eqb end end refl),
          placed_next refl e,
        )

        of_leave : Placed m (l ∷ ts) leave_code → Placed m ts entry
        of_leave placed = record { ending = ending_next placed.ending; caught = tail_same l (tries_at entry) ts placed.caught }

        raised_here : Placed m ts entry → OutsOf m n k w (l ∷ ts) (labels_within_try labels) (Handles scope slot name_at name handler ∷ tasks)
        raised_here placed = try_outs tasks scope slot name_at name handler l (λ p z. go m n handled placed p
            (subst (Ahead m n k p) (labelled.onto_is l _ _ placed.ending (eq-eqb l l refl)) z)) y.outs

        left_sit : Placed m ts entry → Sit m n (out m n want d') k w (l ∷ ts) (labels_within_try labels) leave_code (Handles scope slot name_at name handler ∷ tasks)
        left_sit placed_entry =
            record {
              cont = λ placed p o z. quietly (walk.leaves_try scope slot name_at name handler tasks)
                  (on k p (λ q. y'.cont (to_next (of_leave placed)).1 p o (subst (Ahead m n k p) (to_next (of_leave placed)).0 q)) (marked refl refl refl z));
              given = λ placed o z. quietly (walk.leaves_try scope slot name_at name handler tasks)
                  (on k Bound (λ q. y'.given (to_next (of_leave placed)).1 o (subst (Ahead m n k Bound) (to_next (of_leave placed)).0 q))
                  (marked refl refl refl z));
              outs = raised_here placed_entry;
            }
          where
            on : {Q : Type 0} (k : ℕ) (p : Phase) → (Ahead m n k p (after_label end m.code) → Q) → Marked m n (bare_mark (mark.Leave l end)) entry k p → Q
            on k p g (read_there a) = absurd (no_among m n a)
            on k p g (moved_on {k = j} u q z) = g (more_steps (subst (λ s. Ahead m n j p (code_at m.code entry s)) (at_target u end q) z))

        at_try : Placed m ts (bare_mark (mark.Try l) ∷ body_code) → (p : Phase) → Ahead m n k p (bare_mark (mark.Try l) ∷ body_code) →
            Told p w (Evaluates scope slot body ∷ Handles scope slot name_at name handler ∷ tasks)
        at_try placed p z = on k p (λ q. go m n
            (of_claim m n defined want body (claim want) wants false d' scene_body (left ff) fits.0
            (wanted_first m n defined labelled want (type_without_float (scopes env) body) (type_without_float (x.scoped ∷ scopes env) handler) value) apart'
            (omega (arith, below')) (left_sit in_entry_code)) in_body p q) (marked refl refl refl z)
          where
            inside : Within leave_code body_code
            inside = ending_select env (labels_within_try labels) wants false d' base body leave_code

            entry_tries : tries_at entry ≡ ts
            entry_tries = sym (ap (drop_tries 1) inside.tries) ∙ placed.caught

            in_body : Placed m (l ∷ ts) body_code
            in_body = record { ending = ending_next placed.ending; caught = inside.tries ∙ ap (λ us. l ∷ us) entry_tries }

            in_entry_code : Placed m ts entry
            in_entry_code = record { ending = ending_next (ending_in inside.ending (ending_next placed.ending)); caught = entry_tries }

            scene_body : Scene m n w base slot env scope (labels_within_try labels) vis
            scene_body = record { low = low_more (omega arith) (omega arith) at.low; paired = at.paired; seen = deeper_seen at.seen }

            on : {Q : Type 0} (k : ℕ) (p : Phase) → (Ahead m n k p body_code → Q) → Marked m n (bare_mark (mark.Try l)) body_code k p → Q
            on k p g (read_there a) = absurd (no_among m n a)
            on k p g (moved_on {k = j} u q z) = g (more_steps (subst (λ s. Ahead m n j p (code_at m.code body_code s)) (on_target u q) z))
