-- Values moved into the parameters of handlers, and exits.
use Rattle.std.proofs.Common.{◌≡◌, ℕ, suc, ◌+◌, ◌<◌, ◌≤◌, Bool, true, false, cond, List, [], ◌∷◌, Option, Some, None, map, refl, sym, ap, subst, arith, le_refl, ◌^◌}
use Rattle.bs_words.specs.Fits.{fits, type_of_comp}
use Rattle.bs_words.specs.Memory.{Memory}
use Rattle.bs_words.specs.declared.types.Ty.{Ty}
use Rattle.cmm_tree.specs.Tree.{same_label, LabelTree, Parameter, Exit, Expressions, Bindings, NoBinding, Bind}
use Rattle.bs_words.specs.declared.values.Value.{Value}
use Rattle.cmm_types.specs.Types.{type_of, with_parameters, with_bindings}
use Rattle.cmm_meaning.specs.State.{Binding, Here, bound}
use Rattle.cmm_meaning.specs.Evaluation.{scoped_parameter}
use Rattle.meaning_laws.specs.Does.{Leaves, Does, Jumps}
use Rattle.meaning_laws.specs.Interaction.{does, waiting, filled}
use Rattle.mach_ir.specs.declared.reg.Reg.{Reg}
use Rattle.mach_ir.specs.declared.mach.Instr.{Instr}
use Rattle.mach_ir.specs.declared.mach.Mach.{Mach}
use Rattle.mach_ir.specs.Runs.{ActivationSetting, Continues}
use Rattle.mach_ir.specs.Meaning.{File, put_if, put_all, wrote, after_label}
use Rattle.mach_ir.specs.Acts.{drop_tries}
use Rattle.selection_rules.specs.Select.{NamedRegister, Label, scopes, fresh_register, width, regs_of, moves_all, exit_to_handler, visible_label, params_from, with_params, select, select_filled, env_after, bound_name}
use Rattle.cmm_tree.specs.Measures.{count_of}
use Rattle.std.specs.Prelude.{length}
use Rattle.selection_rules.specs.Follow.{FollowsText, walks, jumps, jumps_wrong}
use Rattle.selection_rules.proofs.Files.{Under, under_more, named_under, Stands, one, stands_put}
use Rattle.selection_rules.proofs.Parts.{Placed, placed_in, AllUnder, no_reg, a_reg, Lower, no_label, a_label, lower_more, Stable, stable_inner, new, calm, at, arrive, Level, based, calm_in, reaching_now, After, after_typed, node_follows, Ready}
use Rattle.selection_rules.proofs.Endings.{ending_waiting}
use Rattle.selection_rules.proofs.Leaves.{move_follows}
use Rattle.selection_rules.proofs.Rows.{Row, Between, between_regs, Rising, between_rising, PutAll, nil, cons, AllOff, off_after, off_rest, off_first, holds_put_all, SelectedWaiting, SelectedFilled}
use Rattle.meaning_laws.specs.Interaction as part
use Rattle.selection_rules.proofs.Rows as rows
use Rattle.selection_rules.specs.Instructions as emit
use Rattle.selection_rules.specs.Instructions.{bare_mark}
use Rattle.mach_ir.specs.declared.mach.Mark.TheVariants as mark
use Rattle.selection_rules.specs.Follow.{text_setting}

pub data PutView (end : ℕ) (rs : List Reg) (vs : List Value) (f : File) : Option File → Type 0 where
  is_stuck : PutView end rs vs f None
  is_put : {g : File} → PutAll end rs vs f g → PutView end rs vs f (Some g)

view_if : {end : ℕ} {rs : List Reg} {vs : List Value} {f : File} {o : Option File} (r : Reg) (v : Value) (b : Bool) → fits end (type_of_comp r.comp) v ≡ b → PutView end rs vs f o → PutView end (r ∷ rs) (v ∷ vs) f (put_if b r v o)
view_if r v false e x = is_stuck
view_if r v true e is_stuck = is_stuck
view_if r v true e (is_put p) = is_put (cons e p)

pub put_view : (end : ℕ) (rs : List Reg) (vs : List Value) (f : File) → PutView end rs vs f (put_all end rs vs f)
put_view end [] [] f = is_put nil
put_view end [] (v ∷ vs) f = is_stuck
put_view end (r ∷ rs) [] f = is_stuck
put_view end (r ∷ rs) (v ∷ vs) f = view_if r v (fits end (type_of_comp r.comp) v) refl (put_view end rs vs f)

pub stands_put_all : {end b i : ℕ} {env : List NamedRegister} {names : List Binding} {rs : List Reg} {vs : List Value} {f g : File} → Under b env → Between b i rs → PutAll end rs vs f g → Stands env names f → Stands env names g
stands_put_all u rows.none nil s = s
stands_put_all u (rows.one le less more) (cons {r = r} {v = v} e p) s = stands_put r v (λ q. let small = named_under u q in omega (arith, small, le)) (stands_put_all u more p s)

pub stable_put_all : {end b d i : ℕ} {env : List NamedRegister} {P : File → Type 0} {rs : List Reg} {vs : List Value} {f g : File} → Stable env b d P → Between b i rs → PutAll end rs vs f g → P f → P g
stable_put_all st rows.none nil p = p
stable_put_all st (rows.one le less more) (cons {r = r} {v = v} {g = g} e q) p = st.puts r v g (new le) (stable_put_all st more q p)

pub rising_params : (n : ℕ) (params : List Parameter) → Rising n (params_from n params)
rising_params n [] = rows.none
rising_params n (p ∷ params) = rows.one refl (rising_params (suc n) params)

pub params_length : (n : ℕ) (params : List Parameter) → length (params_from n params) ≡ length params
params_length n [] = refl
params_length n (p ∷ params) = ap suc (params_length (suc n) params)

pub between_params : (n i : ℕ) (params : List Parameter) → n + length params ≤ i → Between n i (params_from n params)
between_params n i params le = let long = params_length n params in between_rising i (rising_params n params) (omega (arith, long, le))

pub under_params : (n i : ℕ) (params : List Parameter) → n + length params ≤ i → AllUnder i (params_from n params)
under_params n i [] le = no_reg
under_params n i (p ∷ params) le = a_reg (omega (arith, le)) (under_params (suc n) i params (omega (arith, le)))

-- the parameters are in scope
pub stands_params : (n : ℕ) (params : List Parameter) (vs : List Value) {end : ℕ} {env : List NamedRegister} {names : List Binding} {g : File} → Row end g (params_from n params) (map Some vs) → Stands env names g →
    Stands (with_params params (params_from n params) env) (bound (map scoped_parameter params) vs names) g
stands_params n [] [] row s = s
stands_params n [] (v ∷ vs) row s = elim row [ ]
stands_params n (p ∷ params) [] row s = elim row [ ]
stands_params n (p ∷ params) (v ∷ vs) (rows.early e h row) s = stands_params (suc n) params vs row (one refl h s)

pub scopes_params : (n : ℕ) (params : List Parameter) (env : List NamedRegister) → scopes (with_params params (params_from n params) env) ≡ with_parameters params (scopes env)
scopes_params n [] env = refl
scopes_params n (p ∷ params) env = scopes_params (suc n) params (record { scoped = scoped_parameter p; reg = fresh_register n (type_of_comp p.comp) } ∷ env)

pub scopes_after : (env : List NamedRegister) (b : ℕ) (bs : Bindings) → scopes (env_after env b bs) ≡ with_bindings (scopes env) bs
scopes_after env b NoBinding = refl
scopes_after env b (Bind at name declared e rest) = scopes_after (bound_name env b name declared e ∷ env) (suc (b + width e)) rest

pub under_with : (n i : ℕ) (params : List Parameter) {env : List NamedRegister} → 21 ≤ n → n + length params ≤ i → Under n env → Under i (with_params params (params_from n params) env)
under_with n i [] first le u = under_more i (omega (arith, le)) u
under_with n i (p ∷ params) first le u = under_with (suc n) i params (omega (arith, first)) (omega (arith, le)) (one (omega arith) first refl u)

module _ (c : ActivationSetting) (m : Mach) (turns : ℕ) (ts : List ℕ) where
  -- one move after the other
  pub moves_follow : {x : Does} {memory : Memory} (from to : List Reg) (next : List Instr) (vs : List Value) {f g : File} → Row c.setting.end f from (map Some vs) → AllOff to from → PutAll c.setting.end to vs f g →
      FollowsText c m x (Continues (at c m turns ts next g memory)) → FollowsText c m x (Continues (at c m turns ts (moves_all from to next) f memory))
  moves_follow [] [] next [] row o nil follows = follows
  moves_follow [] (d ∷ to) next [] row o p follows = elim p [ ]
  moves_follow [] to next (v ∷ vs) row o p follows = elim row [ ]
  moves_follow (a ∷ from) to next [] row o p follows = elim row [ ]
  moves_follow (a ∷ from) [] next (v ∷ vs) row o p follows = elim p [ ]
  moves_follow {x = x} {memory = memory} (a ∷ from) (d ∷ to) next (v ∷ vs) (rows.early fv h row) o (cons {g = g} e p) follows =
      moves_follow from to (emit.move a d ∷ next) vs row (off_rest (others o)) p
      (move_follows c m turns ts (holds_put_all (off_first o) p h)
      (subst (λ q. FollowsText c m x (wrote next (calm c m turns ts memory) (put_if q d v (Some g)))) (sym e) follows))
    where
      others : AllOff (d ∷ to) (a ∷ from) → AllOff (d ∷ to) from
      others (rows.one z all) = all

  pub data LowerOne (b : ℕ) : Option Label → Type 0 where
    lower_none : LowerOne b None
    lower_one : {t : Label} → AllUnder b t.params → LowerOne b (Some t)

  lower_found : {b : ℕ} (q : Bool) (t : Label) {o : Option Label} → AllUnder b t.params → LowerOne b o → LowerOne b (cond q (Some t) o)
  lower_found true t u o = lower_one u
  lower_found false t u o = o

  lower_label : {b : ℕ} (l : LabelTree) {labels : List Label} → Lower b labels → LowerOne b (visible_label labels l)
  lower_label l no_label = lower_none
  lower_label l (a_label {t = t} u lower) = lower_found (same_label l t.label) t u (lower_label l lower)

  exit_follows : {b i : ℕ} {x : Does} (o : Option Label) (from : List Reg) (next : List Instr) (vs : List Value) (f : File) (memory : Memory) → LowerOne b o → Between b i from → Row c.setting.end f from (map Some vs) →
      FollowsText c m x (arrive c m turns ts o vs f memory) → FollowsText c m (Jumps x) (Continues (at c m turns ts (exit_to_handler o from next) f memory))
  exit_follows None from next vs f memory lower l row follows = jumps_wrong follows
  exit_follows {b = b} {x = x} (Some t) from next vs f memory (lower_one u) l row follows = by (put_all c.setting.end t.params vs f) (put_view c.setting.end t.params vs f) follows
    where
      by : (o : Option File) → PutView c.setting.end t.params vs f o → FollowsText c m x (wrote (after_label t.number m.code) (calm_in (drop_tries t.tries ts) memory) o) → FollowsText c m (Jumps x) (Continues (at c m turns ts (exit_to_handler (Some t) from next) f memory))
      by o is_stuck follows = jumps_wrong follows
      by o (is_put p) follows = moves_follow from t.params (bare_mark (mark.Exit t.number t.tries) ∷ next) vs row (off_after l u (le_refl b)) p (walks (jumps follows))

  module _ (place label_at : ℕ) (label : LabelTree) (arguments : Expressions) (env : List NamedRegister) (labels : List Label) (valued tail : Bool) (d : Reg) (b : ℕ) (next : List Instr) (P : File → Type 0) (k : Leaves (Option Value) → Does) where
    abbrev T : Ty
    T = type_of (scopes env) (Exit place label_at label arguments)

    abbrev base : ℕ
    base = suc b + count_of arguments

    abbrev code : List Instr
    code = exit_to_handler (visible_label labels label) (regs_of env (suc b) arguments) next

    pub selected_exit : SelectedWaiting c m turns ts arguments → SelectedFilled c m turns ts arguments → width (Exit place label_at label arguments) < 2 ^ 60 →
        Ready c m turns ts env labels b d → Stable env b d.number P → Placed m ts (select env labels valued tail d b (Exit place label_at label arguments) next) →
        After c m turns ts (Some T) env labels valued tail d next P k → (h : Here) (f : File) (memory : Memory) → Level c m turns ts h → Stands env h.names f → P f →
        FollowsText c m (does (text_setting c) turns (Exit place label_at label arguments) tail h memory k) (Continues (at c m turns ts (select env labels valued tail d b (Exit place label_at label arguments) next) f memory))
    selected_exit sw sf fine ready stable ending after h f memory level s p =
        let first : 21 ≤ b = let less = ready.below in let le = ready.first in omega (arith, less, le) in
        let a = after_typed c m turns ts T b after in
        let o = a.outs in
        node_follows c m turns ts (Exit place label_at label arguments) h memory
        (part.and_then (waiting (text_setting c) turns arguments h memory) (λ before h memory. part.and_then (filled (text_setting c) turns arguments before h memory) (λ values h memory. part.jumps (part.exits label values h memory)))) k _ s
        (sw env labels (suc b) base (select_filled env labels (suc b) base arguments code) P _ (omega (arith, fine)) (lower_more (suc b) (omega arith) ready.lower) (under_more (suc b) (omega arith) ready.under) (omega (arith, first))
        (stable_inner (suc b) (suc b) (omega arith) (omega arith) stable) (le_refl base) ending
        (record { exit = λ l values h f memory level r p. o.exit l values h f memory level r p; raising = λ v fv h f memory level r p. o.raising v fv h f memory level r p }) h f memory level s p
        (λ before h f memory level s p row matches.
        sf env labels (suc b) base code P _ before (omega (arith, fine)) (lower_more (suc b) (omega arith) ready.lower) (under_more (suc b) (omega arith) ready.under) (omega (arith, first))
        (stable_inner (suc b) (suc b) (omega arith) (omega arith) stable) (le_refl base) (placed_in (ending_waiting env labels (suc b) base arguments (select_filled env labels (suc b) base arguments code)) ending)
        (record { exit = λ l values h f memory level r p. o.exit l values h f memory level r p; raising = λ v fv h f memory level r p. o.raising v fv h f memory level r p }) h f memory level s p row matches
        (λ vs h f memory level s p row.
        exit_follows (visible_label labels label) (regs_of env (suc b) arguments) next vs f memory (lower_label label (lower_more (suc b) (omega arith) ready.lower))
        (between_regs env (suc b) base arguments (le_refl base)) row (o.exit label vs h f memory (based c m turns ts level) (reaching_now h s) p))))
