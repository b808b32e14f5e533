-- Catches: a body, and handlers to which exits leave, as often as turns are given.
use Rattle.std.proofs.Common.{◌≡◌, ℕ, zero, suc, ◌+◌, ◌<◌, ◌≤◌, Bool, true, false, cond, not, ◌&&◌, ◌⊎◌, inl, inr, ⊎_elim, List, [], ◌∷◌, ◌++◌, Option, Some, None, length, map, refl, sym, ap, ◌∙◌, subst, arith, le_refl, ◌^◌}
use Rattle.std.specs.Prelude.{length}
use Rattle.std.proofs.lemmas.Bool.{true≢false, eq-eqb}
use Rattle.bs_words.specs.Fits.{fits, misfit, type_of_comp}
use Rattle.bs_words.specs.Memory.{Memory}
use Rattle.bs_words.specs.declared.types.Ty.{Ty}
use Rattle.bs_words.specs.declared.values.Kind.{Kind}
use Rattle.bs_words.specs.declared.values.Value.{Value}
use Rattle.cmm_tree.specs.Tree.{LabelTree, Named, Bare, Done, Again, Parameter, Expression, Catch, Handlers, NoHandler, Handle, same_label, is_bare}
use Rattle.cmm_types.specs.Types.{type_of}
use Rattle.cmm_meaning.specs.State.{Binding, Here, back_in, outermost}
use Rattle.cmm_meaning.specs.Evaluation.{scoped_parameter, with_bound}
use Rattle.meaning_laws.specs.Does.{Leaves, Exiting, Does, Fails}
use Rattle.meaning_laws.specs.Interaction.{Part, Operand, onward, from, of_type, does, readied, entered, scope_restored, handled, out_of_turns, catching}
use Rattle.cmm_meaning.specs.Choices.{Ready as Handler, ready_for}
use Rattle.mach_ir.specs.declared.reg.Reg.{Reg}
use Rattle.mach_ir.specs.declared.mach.Instr.{Instr}
use Rattle.mach_ir.specs.declared.mach.Mach.{Mach}
use Rattle.mach_ir.specs.Acts.{drop_tries}
use Rattle.mach_ir.specs.Runs.{ActivationSetting, Continues}
use Rattle.mach_ir.specs.Meaning.{assign_register, put_if, File, put_all, wrote, after_label}
use Rattle.selection_rules.specs.Select.{Label, scopes, fresh_register, inner_valued, inner_dest, width, visible_label, params_from, with_params, labels_from, unless_bare_mark, in_handlers, width_labels, select, select_handlers, width_handlers}
use Rattle.selection_rules.specs.Follow.{FollowsText, walks, fails, spent}
use Rattle.selection_rules.proofs.Files.{Under, under_more, IsNamed, here, there, Stands, stands_length}
use Rattle.selection_rules.proofs.Parts.{Placed, placed_in, placed_next, WellLabelled, AllUnder, Lower, no_label, a_label, lower_more, Stable, stable_same, May, new, dest, name, calm, calm_in, at, arrive, Level, Based, Reaching, reaching_now, reaching_out, any, After, after_typed, node_follows, Ready}
use Rattle.selection_rules.proofs.Operands.{Selected, own_fits}
use Rattle.selection_rules.proofs.Endings.{ending_select, ending_handlers}
use Rattle.selection_rules.proofs.Leaves.{ready_inner, stable_dest}
use Rattle.selection_rules.proofs.Branches.{ready_more, after_through}
use Rattle.selection_rules.proofs.Rows.{PutAll, nil, cons, row_put_all, between_less}
use Rattle.selection_rules.proofs.Exits.{stands_put_all, stable_put_all, rising_params, between_params, under_params, stands_params, under_with}
use Rattle.meaning_laws.specs.Interaction as part
use Rattle.selection_rules.specs.Select as names
use Rattle.selection_rules.specs.Instructions.{bare_mark}
use Rattle.mach_ir.specs.declared.mach.Mark.TheVariants as mark
use Rattle.selection_rules.specs.Follow.{text_setting}

pub reaching_params : (n : ℕ) (params : List Parameter) {env : List names.NamedRegister} (h : Here) (f : File) → Reaching (with_params params (params_from n params) env) h f → Reaching env h f
reaching_params n [] h f r = r
reaching_params n (p ∷ params) h f r = reaching_out h (reaching_params (suc n) params h f r)

-- ---- entering a handler

pub data AllFit (end : ℕ) : List Parameter → List Value → Type 0 where
  all_none : AllFit end [] []
  all_one : {p : Parameter} {params : List Parameter} {v : Value} {vs : List Value} → fits end (type_of_comp p.comp) v ≡ true → AllFit end params vs → AllFit end (p ∷ params) (v ∷ vs)

-- the arguments fit and the handler is entered, or it is improper
pub data Enters (end : ℕ) (params : List Parameter) (vs : List Value) (x : Does) : Does → Type 0 where
  enters : AllFit end params vs → Enters end params vs x x
  improper : {kind : Kind} {memory : Memory} → Enters end params vs x (Fails memory kind)

enters_if : {end : ℕ} {p : Parameter} {params : List Parameter} {v : Value} {vs : List Value} (memory : Memory) (q : Part (Option Value)) (y : Part (Option Value)) (k : Leaves (Option Value) → Does) (b : Bool) →
    fits end (type_of_comp p.comp) v ≡ b → Enters end params vs (q k) (y k) → Enters end (p ∷ params) (v ∷ vs) (q k) (cond b y (part.fails (misfit (type_of_comp p.comp)) memory) k)
enters_if memory q y k false e x = improper
enters_if {end} {p} {params} {v} {vs} memory q y k true e x = by (y k) x
  where
    by : (z : Does) → Enters end params vs (q k) z → Enters end (p ∷ params) (v ∷ vs) (q k) z
    by z (enters all) = enters (all_one e all)
    by z improper = improper

pub entering : (end : ℕ) (params : List Parameter) (vs : List Value) (memory : Memory) (q : Part (Option Value)) (k : Leaves (Option Value) → Does) → Enters end params vs (q k) (entered end params vs memory q k)
entering end [] [] memory q k = enters all_none
entering end [] (v ∷ vs) memory q k = improper
entering end (p ∷ params) [] memory q k = improper
entering end (p ∷ params) (v ∷ vs) memory q k = enters_if memory q (entered end params vs memory q) k (fits end (type_of_comp p.comp) v) refl (entering end params vs memory q k)

and_true : (b : Bool) → b && true ≡ b
and_true true = refl
and_true false = refl

-- in the body every handler of a catch is visible, in a handler all but the bare one
visible_body : (l t : LabelTree) → same_label l t && not (is_bare l && false) ≡ same_label l t
visible_body (Named x) t = and_true (same_label (Named x) t)
visible_body Bare t = and_true (same_label Bare t)
visible_body Done t = and_true (same_label Done t)
visible_body Again t = and_true (same_label Again t)

visible_handler : (l t : LabelTree) → is_bare t ≡ false → same_label l t && not (is_bare l && true) ≡ same_label l t
visible_handler (Named x) t e = and_true (same_label (Named x) t)
visible_handler Bare (Named y) e = refl
visible_handler Bare Bare e = absurd (true≢false e)
visible_handler Bare Done e = refl
visible_handler Bare Again e = refl
visible_handler Done t e = and_true (same_label Done t)
visible_handler Again t e = and_true (same_label Again t)

-- the bare handler is not
hidden_handler : (l t : LabelTree) → is_bare t ≡ true → same_label l t && not (is_bare l && true) ≡ false
hidden_handler l (Named y) e = absurd (true≢false (sym e))
hidden_handler l Done e = absurd (true≢false (sym e))
hidden_handler l Again e = absurd (true≢false (sym e))
hidden_handler (Named x) Bare e = refl
hidden_handler Bare Bare e = refl
hidden_handler Done Bare e = refl
hidden_handler Again Bare e = refl

abbrev pub visible : Bool → List Label → List Label
visible true own = in_handlers own
visible false own = own

module _ (c : ActivationSetting) (m : Mach) (turns : ℕ) (ts : List ℕ) where
  pub put_params : {params : List Parameter} {vs : List Value} → AllFit c.setting.end params vs → (n : ℕ) (f : File) →
      (g : File) × (put_all c.setting.end (params_from n params) vs f ≡ Some g) × PutAll c.setting.end (params_from n params) vs f g
  put_params all_none n f = (f, refl, nil)
  put_params (all_one {p = p} {v = v} e all) n f =
      let r = fresh_register n (type_of_comp p.comp) in
      let more = put_params all (suc n) f in
      let good : fits c.setting.end (type_of_comp r.comp) v ≡ true = own_fits c m turns ts (type_of_comp p.comp) v e in (
        assign_register r v more.0,
        ap (λ o. put_if (fits c.setting.end (type_of_comp r.comp) v) r v o) more.1 ∙ ap (λ b. put_if b r v (Some more.0)) good,
        cons good more.2,
      )

  -- an exit comes to a handler
  enter_follows : {params : List Parameter} {vs : List Value} {x z : Does} (n : ℕ) (f : File) (memory : Memory) (code : List Instr) → Enters c.setting.end params vs x z →
      ((g : File) → PutAll c.setting.end (params_from n params) vs f g → FollowsText c m x (Continues (at c m turns ts code g memory))) →
      FollowsText c m z (wrote code (calm c m turns ts memory) (put_all c.setting.end (params_from n params) vs f))
  enter_follows n f memory code improper on = fails
  enter_follows {x = x} n f memory code (enters all) on =
      let p = put_params all n f in
      subst (λ o. FollowsText c m x (wrote code (calm c m turns ts memory) o)) (sym p.1) (on p.0 p.2)

  module _ (labelled : WellLabelled m) (env : List names.NamedRegister) (labels own : List Label) (valued tail : Bool) (d : Reg) (b : ℕ) (next : List Instr) (P : File → Type 0) (kk : Leaves (Option Value) → Does)
      (level tries : ℕ) where
    -- what is known of a handler: its parameters are new, and its body follows
    pub record HandlerOk (r : Handler Operand) (t : Label) : Type 0 where
      pub first : ℕ
      pub is : t.params ≡ params_from first r.params
      pub here : t.tries ≡ 0
      pub low : b ≤ first
      pub body : (k : Leaves (Option Value) → Does) → After c m turns ts None (with_params r.params (params_from first r.params) env) (in_handlers own ++ labels) valued tail d next P k →
          (h : Here) (f : File) (memory : Memory) → Level c m turns ts h → Stands (with_params r.params (params_from first r.params) env) h.names f → P f →
          FollowsText c m (r.body h memory k) (Continues (at c m turns ts (after_label t.number m.code) f memory))

    pub data AllOk : List (Handler Operand) → List Label → Type 0 where
      no_ok : AllOk [] []
      an_ok : {r : Handler Operand} {t : Label} {rs : List (Handler Operand)} {ts : List Label} → r.label ≡ t.label → HandlerOk r t → AllOk rs ts → AllOk (r ∷ rs) (t ∷ ts)

    data Found (l : LabelTree) : Option (Handler Operand) → Option Label → Type 0 where
      outside : Found l None (visible_label labels l)
      inside : {r : Handler Operand} {t : Label} → HandlerOk r t → Found l (Some r) (Some t)

    found_if : {l : LabelTree} {o : Option (Handler Operand)} {p : Option Label} (q : Bool) (r : Handler Operand) (t : Label) → HandlerOk r t → Found l o p → Found l (cond q (Some r) o) (cond q (Some t) p)
    found_if true r t ok f = inside ok
    found_if false r t ok f = f

    found_body : {rs : List (Handler Operand)} {ts : List Label} (l : LabelTree) → AllOk rs ts → Found l (ready_for false l rs) (visible_label (ts ++ labels) l)
    found_body l no_ok = outside
    found_body l (an_ok {r = r} {t = t} {rs = rs} {ts = ts} e ok all) =
        subst (λ q. Found l (cond q (Some r) (ready_for false l rs)) (cond (same_label l t.label) (Some t) (visible_label (ts ++ labels) l)))
        (sym (visible_body l r.label ∙ ap (same_label l) e)) (found_if (same_label l t.label) r t ok (found_body l all))

    found_among : {o : Option (Handler Operand)} (l : LabelTree) (r : Handler Operand) (t : Label) (ts : List Label) → HandlerOk r t → Found l o (visible_label (ts ++ labels) l) → (q : Bool) → is_bare t.label ≡ q →
        Found l (cond (same_label l t.label && not (is_bare l && true)) (Some r) o) (visible_label (unless_bare_mark q t ts ++ labels) l)
    found_among {o} l r t ts ok f true e = subst (λ z. Found l (cond z (Some r) o) (visible_label (ts ++ labels) l)) (sym (hidden_handler l t.label e)) f
    found_among {o} l r t ts ok f false e =
        subst (λ z. Found l (cond z (Some r) o) (cond (same_label l t.label) (Some t) (visible_label (ts ++ labels) l))) (sym (visible_handler l t.label e)) (found_if (same_label l t.label) r t ok f)

    found_handler : {rs : List (Handler Operand)} {ts : List Label} (l : LabelTree) → AllOk rs ts → Found l (ready_for true l rs) (visible_label (in_handlers ts ++ labels) l)
    found_handler l no_ok = outside
    found_handler l (an_ok {r = r} {t = t} {rs = rs} {ts = ts} e ok all) =
        subst (λ y. Found l (cond (same_label l y && not (is_bare l && true)) (Some r) (ready_for true l rs)) (visible_label (in_handlers (t ∷ ts) ++ labels) l)) (sym e)
        (found_among l r t (in_handlers ts) ok (found_handler l all) (is_bare t.label) refl)

    found : {rs : List (Handler Operand)} (within : Bool) (l : LabelTree) → AllOk rs own → Found l (ready_for within l rs) (visible_label (visible within own ++ labels) l)
    found true l all = found_handler l all
    found false l all = found_body l all

    abbrev again : ℕ → Bool → List (Handler Operand) → Leaves (Option Value) → Does
    again u within rs = λ l. catching c.setting.end u within rs level tries l kk

    abbrev Once : List (Handler Operand) → ℕ → Type 0
    Once rs u =
        (l : LabelTree) (vs : List Value) (h : Here) (f : File) (memory : Memory) → Based c m turns ts h → Reaching env h f → P f →
        FollowsText c m (again u true rs (Exiting l vs h memory)) (arrive c m turns ts (visible_label (in_handlers own ++ labels) l) vs f memory)

    -- an exit out of the body or a handler comes to its handler, or goes on outside
    catching_follows : {rs : List (Handler Operand)} → level ≡ length env → tries ≡ length ts → Under b env → Stable env b d.number P → After c m turns ts None env labels valued tail d next P kk → AllOk rs own →
        (u : ℕ) (within : Bool) (l : LabelTree) (vs : List Value) (h : Here) (f : File) (memory : Memory) → Based c m turns ts h → Reaching env h f → P f →
        FollowsText c m (again u within rs (Exiting l vs h memory)) (arrive c m turns ts (visible_label (visible within own ++ labels) l) vs f memory)
    catching_follows {rs} long deep under stable a all zero within l vs h f memory lev r p = by (ready_for within l rs) (visible_label (visible within own ++ labels) l) (found within l all)
      where
        by : (o : Option (Handler Operand)) (q : Option Label) → Found l o q → FollowsText c m (out_of_turns c.setting.end o l vs h memory kk) (arrive c m turns ts q vs f memory)
        by o q outside = let x = a.outs in x.exit l vs h f memory lev r p
        by o q (inside {r = g} {t = t} ok) =
            subst (λ regs. FollowsText c m (entered c.setting.end g.params vs memory (part.spent memory) kk) (wrote (after_label t.number m.code) (calm_in (drop_tries t.tries ts) memory) (put_all c.setting.end regs vs f))) (sym ok.is)
            (subst (λ n. FollowsText c m (entered c.setting.end g.params vs memory (part.spent memory) kk) (wrote (after_label t.number m.code) (calm_in (drop_tries n ts) memory) (put_all c.setting.end (params_from ok.first g.params) vs f))) (sym ok.here)
            (enter_follows ok.first f memory (after_label t.number m.code) (entering c.setting.end g.params vs memory (part.spent memory) kk) (λ z q. spent refl)))
    catching_follows {rs} long deep under stable a all (suc u) within l vs h f memory lev r p =
        by (λ l vs h f memory lev r p. catching_follows long deep under stable a all u true l vs h f memory lev r p) (ready_for within l rs) (visible_label (visible within own ++ labels) l) (found within l all)
      where
        inner : List Binding
        inner = outermost level h.names

        by : Once rs u → (o : Option (Handler Operand)) (q : Option Label) → Found l o q → FollowsText c m (handled c.setting.end o l vs level tries h memory (catching c.setting.end u true rs level tries) kk) (arrive c m turns ts q vs f memory)
        by ih o q outside = let x = a.outs in x.exit l vs h f memory lev r p
        by ih o q (inside {r = g} {t = t} ok) =
            let back_here = with_bound (map scoped_parameter g.params) vs (back_in level tries h) in
            let body = scope_restored level tries (g.body back_here memory) in
            let first = ok.first in
            let out : (h : Here) (f : File) → Reaching (with_params g.params (params_from first g.params) env) h f → Reaching env h f = λ h f r. reaching_params first g.params h f r in
            subst (λ regs. FollowsText c m (entered c.setting.end g.params vs memory body (again u true rs)) (wrote (after_label t.number m.code) (calm_in (drop_tries t.tries ts) memory) (put_all c.setting.end regs vs f))) (sym ok.is)
            (subst (λ n. FollowsText c m (entered c.setting.end g.params vs memory body (again u true rs)) (wrote (after_label t.number m.code) (calm_in (drop_tries n ts) memory) (put_all c.setting.end (params_from ok.first g.params) vs f))) (sym ok.here)
            (enter_follows first f memory (after_label t.number m.code) (entering c.setting.end g.params vs memory body (again u true rs)) (λ z assign_register.
            let between = between_less b ok.low (between_params first (first + length g.params) g.params (le_refl (first + length g.params))) in
            let standing : Stands env (outermost level h.names) f = subst (λ n. Stands env (outermost n h.names) f) (sym long) r in
            ok.body (λ l. onward (λ v h memory. part.gives v (back_in level tries h) memory) l (again u true rs))
            (after_again ih out)
            back_here z memory (record { below = lev.below; frame = lev.frame; tries = deep })
            (stands_params first g.params vs (row_put_all (rising_params first g.params) assign_register) (stands_put_all under between assign_register standing))
            (stable_put_all stable between assign_register p))))
          where
            after_again : {env' : List names.NamedRegister} → Once rs u → ((h : Here) (f : File) → Reaching env' h f → Reaching env h f) →
                After c m turns ts None env' (in_handlers own ++ labels) valued tail d next P (λ l. onward (λ v h memory. part.gives v (back_in level tries h) memory) l (again u true rs))
            after_again ih out =
                record {
                  outs = record {
                    exit = λ l vs h f memory lev r p. ih l vs h f memory lev (out h f r) p;
                    raising = λ v fv h f memory lev r p. let x = a.outs in x.raising v fv h f memory lev (out h f r) p;
                  };
                  giving = λ v h f memory lev s p left.
                      a.giving v (back_in level tries h) f memory (record { below = lev.below; frame = lev.frame; tries = deep }) (subst (λ n. Stands env (outermost n h.names) f) (sym long) (out h f (reaching_now h s))) p left;
                  lost = λ v h f memory s x misfit'. a.lost v (back_in level tries h) f memory (subst (λ n. Stands env (outermost n h.names) f) (sym long) (out h f (reaching_now h s))) any misfit';
                  untried = a.untried;
                  tailing = λ e v shape h memory. a.tailing e v shape (back_in level tries h) memory;
                }

  -- ---- handlers, in the code

  named_with : {x : ℕ} (n : ℕ) (params : List Parameter) {env : List names.NamedRegister} → IsNamed x (with_params params (params_from n params) env) → IsNamed x env ⊎ (n ≤ x)
  named_with n [] i = inl i
  named_with {x} n (p ∷ params) i =
      ⊎_elim
      (λ q. by q)
      (λ le. inr (omega (arith, le)))
      (named_with (suc n) params i)
    where
      by : {env : List names.NamedRegister} → IsNamed x (record { scoped = scoped_parameter p; reg = fresh_register n (type_of_comp p.comp) } ∷ env) → IsNamed x env ⊎ (n ≤ x)
      by (here same) = inr (omega (arith, same))
      by (there q) = inl q

  abbrev pub SelectedHandlers : Handlers → Type 1
  SelectedHandlers hs =
      (labelled : WellLabelled m) (env : List names.NamedRegister) (labels own : List Label) (valued tail : Bool) (d : Reg) (b : ℕ) (next : List Instr) (P : File → Type 0) (kk : Leaves (Option Value) → Does) (level tries : ℕ)
      (end l i : ℕ) → width_handlers hs < 2 ^ 60 → after_label end m.code ≡ next →
      Placed m ts (select_handlers env (in_handlers own ++ labels) valued tail d end l i hs (bare_mark (mark.End end) ∷ next)) →
      Ready c m turns ts env (in_handlers own ++ labels) i d → Under b env → 21 ≤ b → d.number < b → b ≤ l → l + width_labels hs ≤ i → Stable env b d.number P →
      AllOk labelled env labels own valued tail d b next P kk level tries (readied (text_setting c) turns hs tail) (labels_from l hs)

  pub handlers_none : SelectedHandlers NoHandler
  handlers_none labelled env labels own valued tail d b next P kk level tries end l i fine is ending ready under first low le wide stable = no_ok

  module _ (labelled : WellLabelled m) (env : List names.NamedRegister) (labels own : List Label) (valued tail : Bool) (d : Reg) (next : List Instr) (end : ℕ) where
    abbrev end_code : List Instr
    end_code = bare_mark (mark.End end) ∷ next

    -- what falls to the next handler, or to the end, goes after the end
    pub falls : (l i : ℕ) (hs : Handlers) → after_label end m.code ≡ next → (x : Does) (f : File) (memory : Memory) → FollowsText c m x (Continues (at c m turns ts next f memory)) →
        FollowsText c m x (Continues (at c m turns ts (select_handlers env (in_handlers own ++ labels) valued tail d end l i hs end_code) f memory))
    falls l i NoHandler is x f memory follows = walks follows
    falls l i (Handle place label params body rest) is x f memory follows = walks (subst (λ code. FollowsText c m x (Continues (at c m turns ts code f memory))) (sym is) follows)

  module _ (place : ℕ) (label : LabelTree) (params : List Parameter) (body : Expression) (rest : Handlers) (labelled : WellLabelled m) (env : List names.NamedRegister) (labels own : List Label) (valued tail : Bool) (d : Reg) (b : ℕ)
      (next : List Instr) (P : File → Type 0) (kk : Leaves (Option Value) → Does) (level tries : ℕ) (end l i : ℕ) where
    abbrev in_env : List names.NamedRegister
    in_env = with_params params (params_from (suc l) params) env

    abbrev hidden : List Label
    hidden = in_handlers own ++ labels

    abbrev rest_code : List Instr
    rest_code = select_handlers env hidden valued tail d end (suc l + length params) (i + width body) rest (bare_mark (mark.End end) ∷ next)

    abbrev body_code : List Instr
    body_code = select in_env hidden valued tail d i body rest_code

    pub handlers_more : Selected c m turns ts body → SelectedHandlers rest → width_handlers (Handle place label params body rest) < 2 ^ 60 → after_label end m.code ≡ next →
        Placed m ts (select_handlers env hidden valued tail d end l i (Handle place label params body rest) (bare_mark (mark.End end) ∷ next)) →
        Ready c m turns ts env hidden i d → Under b env → 21 ≤ b → d.number < b → b ≤ l → l + width_labels (Handle place label params body rest) ≤ i → Stable env b d.number P →
        AllOk labelled env labels own valued tail d b next P kk level tries (readied (text_setting c) turns (Handle place label params body rest) tail) (labels_from l (Handle place label params body rest))
    handlers_more sb sr fine is ending ready under first low le wide stable =
        let body_ending = placed_next refl ending in
        let rest_ending = placed_in (ending_select in_env hidden valued tail d i body rest_code) body_ending in
        an_ok refl
        (record {
          first = suc l;
          is = refl;
          here = refl;
          low = omega (arith, le);
          body = λ k a h f memory lev s p.
              subst (λ code. FollowsText c m (does (text_setting c) turns body tail h memory k) (Continues (at c m turns ts code f memory)))
              (sym (labelled.behind_is l (bare_mark (mark.With l end)) body_code ending.ending (eq-eqb l l refl)))
              (sb in_env hidden valued tail d i rest_code P k (omega (arith, fine))
              (record {
                under = under_with (suc l) i params (omega (arith, first, le)) (omega (arith, wide)) (under_more (suc l) (omega (arith, le)) under);
                lower = ready.lower;
                off = off;
                below = ready.below;
                first = ready.first;
              })
              (record { puts = λ r v f may p. stable.puts r v f (by r.number may) p; calls = λ f g w p. stable.calls f g w p }) body_ending
              (after_through c m turns ts (type_of (scopes in_env) body) (λ x f memory follows. falls labelled env labels own valued tail d next end (suc l + length params) (i + width body) rest is x f memory follows) a) h f memory lev s p);
        })
        (sr labelled env labels own valued tail d b next P kk level tries end (suc l + length params) (i + width body) (omega (arith, fine)) is rest_ending (ready_more c m turns ts (i + width body) (omega arith) ready) under first low (omega (arith, le))
        (omega (arith, wide)) stable)
      where
        off : IsNamed d.number in_env → ⊥
        off q = ⊎_elim ready.off (λ high. omega (arith, high, low, le)) (named_with (suc l) params q)

        by : (n : ℕ) → May in_env i d.number n → May env b d.number n
        by n (new high) = new (omega (arith, high, wide, le))
        by n (dest same) = dest same
        by n (name q) = ⊎_elim (λ z. name z) (λ high. new (omega (arith, high, le))) (named_with (suc l) params q)

  -- ---- the catch

  lower_append : {b : ℕ} {own labels : List Label} → Lower b own → Lower b labels → Lower b (own ++ labels)
  lower_append no_label more = more
  lower_append (a_label u l) more = a_label u (lower_append l more)

  lower_own : (n i : ℕ) (hs : Handlers) → n + width_labels hs ≤ i → Lower i (labels_from n hs)
  lower_own n i NoHandler le = no_label
  lower_own n i (Handle place label params body rest) le = a_label (under_params (suc n) i params (omega (arith, le))) (lower_own (suc n + length params) i rest (omega (arith, le)))

  lower_unless : {b : ℕ} (q : Bool) (t : Label) {labels : List Label} → AllUnder b t.params → Lower b labels → Lower b (unless_bare_mark q t labels)
  lower_unless true t u l = l
  lower_unless false t u l = a_label u l

  lower_hidden : {b : ℕ} {own : List Label} → Lower b own → Lower b (in_handlers own)
  lower_hidden no_label = no_label
  lower_hidden (a_label {t = t} u l) = lower_unless (is_bare t.label) t u (lower_hidden l)

  module _ (labelled : WellLabelled m) (place : ℕ) (body : Expression) (handlers : Handlers) (env : List names.NamedRegister) (labels : List Label) (valued tail : Bool) (d : Reg) (b : ℕ) (next : List Instr) (P : File → Type 0)
      (k : Leaves (Option Value) → Does) where
    abbrev T : Ty
    T = type_of (scopes env) (Catch place body handlers)

    abbrev after_k : Leaves (Option Value) → Does
    after_k = λ l. onward (λ v h memory. of_type c.setting.end T v h memory) l k

    abbrev end_label : ℕ
    end_label = suc b

    abbrev own : List Label
    own = labels_from (suc (suc b)) handlers

    abbrev base : ℕ
    base = suc (suc b) + width_labels handlers

    abbrev last_code : List Instr
    last_code = bare_mark (mark.End end_label) ∷ next

    abbrev handlers_code : List Instr
    handlers_code = select_handlers env (in_handlers own ++ labels) (inner_valued valued T) tail (inner_dest T b d) end_label (suc (suc b)) (base + width body) handlers last_code

    abbrev inner_code : List Instr
    inner_code = select env (own ++ labels) (inner_valued valued T) tail (inner_dest T b d) base body handlers_code

    pub selected_catch : Selected c m turns ts body → SelectedHandlers handlers → width (Catch place body handlers) < 2 ^ 60 →
        Ready c m turns ts env labels b d → Stable env b d.number P → Placed m ts (select env labels valued tail d b (Catch place body handlers) next) →
        After c m turns ts (Some T) env labels valued tail d next P k → (h : Here) (f : File) (memory : Memory) → Level c m turns ts h → Stands env h.names f → P f →
        FollowsText c m (does (text_setting c) turns (Catch place body handlers) tail h memory k) (Continues (at c m turns ts (select env labels valued tail d b (Catch place body handlers) next) f memory))
    selected_catch sb sh fine ready stable ending after h f memory lev s p =
        let first : 21 ≤ suc b = let less = ready.below in let le = ready.first in omega (arith, less, le) in
        let body_ending = placed_next refl ending in
        let handlers_ending = placed_in (ending_select env (own ++ labels) (inner_valued valued T) tail (inner_dest T b d) base body handlers_code) body_ending in
        let last = placed_in (ending_handlers env (in_handlers own ++ labels) (inner_valued valued T) tail (inner_dest T b d) end_label (suc (suc b)) (base + width body) handlers last_code) handlers_ending in
        let is : after_label end_label m.code ≡ next = labelled.behind_is end_label (bare_mark (mark.End end_label)) next last.ending (eq-eqb end_label end_label refl) in
        let a = after_typed c m turns ts T b after in
        let inner = ready_inner c m turns ts T ready in
        let steady = stable_dest c m turns ts d T stable in
        let own_low = lower_own (suc (suc b)) base handlers (le_refl base) in
        let outer_low = lower_more base (omega arith) ready.lower in
        let all = sh labelled env labels own (inner_valued valued T) tail (inner_dest T b d) (suc b) next P after_k (length h.names) h.tries end_label (suc (suc b)) (base + width body) (omega (arith, fine)) is handlers_ending
        (record {
          under = under_more (base + width body) (omega arith) ready.under;
          lower = lower_more (base + width body) (omega arith) (lower_append (lower_hidden own_low) outer_low);
          off = inner.off;
          below = let less = inner.below in omega (arith, less);
          first = inner.first;
        })
        inner.under first inner.below (omega arith) (omega arith) steady in
        node_follows c m turns ts (Catch place body handlers) h memory
        (from (does (text_setting c) turns body tail h memory) (catching c.setting.end turns false (readied (text_setting c) turns handlers tail) (length h.names) h.tries)) k _ s
        (walks (
        sb env (own ++ labels) (inner_valued valued T) tail (inner_dest T b d) base handlers_code P (λ l. catching c.setting.end turns false (readied (text_setting c) turns handlers tail) (length h.names) h.tries l after_k) (omega (arith, fine))
        (record {
          under = under_more base (omega arith) ready.under;
          lower = lower_append own_low outer_low;
          off = inner.off;
          below = let less = inner.below in omega (arith, less);
          first = inner.first;
        })
        (stable_same base (omega arith) steady) body_ending
        (after_through c m turns ts (type_of (scopes env) body)
        (λ x f memory follows. falls labelled env labels own (inner_valued valued T) tail (inner_dest T b d) next end_label (suc (suc b)) (base + width body) handlers is x f memory follows)
        (record {
          outs = record {
            exit = λ l vs h' f memory lev' r p.
                catching_follows labelled env labels own (inner_valued valued T) tail (inner_dest T b d) (suc b) next P after_k (length h.names) h.tries (stands_length s) lev.tries inner.under steady a all turns false l vs h' f memory lev' r p;
            raising = λ v fv h f memory lev r p. let x = a.outs in x.raising v fv h f memory lev r p;
          };
          giving = λ v h f memory lev s p left. a.giving v h f memory lev s p left;
          lost = λ v h f memory s x misfit'. a.lost v h f memory s x misfit';
          untried = a.untried;
          tailing = λ e v shape h memory. a.tailing e v shape h memory;
        }))
        h f memory lev s p))
