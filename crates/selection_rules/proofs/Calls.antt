-- Calls of functions, and external calls.
use Rattle.std.proofs.Common.{◌≡◌, ℕ, suc, ◌+◌, ◌^◌, ◌<◌, ◌≤◌, Bool, true, false, cond, not, ◌&&◌, List, [], ◌∷◌, ◌++◌, Option, Some, None, map, refl, sym, ap, ◌∙◌, subst, arith, le_refl}
use Rattle.std.specs.Prelude.{slice_get}
use Rattle.std.proofs.lemmas.Bool.{true≢false}
use Rattle.bs_words.specs.Fits.{fits, misfit, type_of_comp}
use Rattle.bs_words.specs.Memory.{Memory}
use Rattle.bs_words.specs.declared.types.Comp.{Comp}
use Rattle.bs_words.specs.declared.types.Comp.TheVariants as comp
use Rattle.bs_words.specs.declared.types.Ret.{Ret}
use Rattle.bs_words.specs.declared.types.Ret.TheVariants as ret
use Rattle.bs_words.specs.declared.types.Ty.{Ty}
use Rattle.bs_words.specs.declared.types.Ty.TheVariants as ty
use Rattle.bs_words.specs.declared.values.Kind.TheVariants.{BadCall}
use Rattle.bs_words.specs.declared.values.Value.{Value}
use Rattle.bs_words.specs.declared.values.Value.TheVariants as value
use Rattle.cmm_tree.specs.Tree.{Expression, Symbol, App, Extcall, Expressions}
use Rattle.cmm_types.specs.Light.{is_light_address}
use Rattle.cmm_types.specs.Types.{Scoped, type_of, type_of_result, unless_float, holds_float}
use Rattle.cmm_meaning.specs.Evaluation.{fit_parameters, call_from, row_of_call, comps_of_arguments}
use Rattle.cmm_meaning.specs.State.{Binding, Doing, Gave, Threw, asked_inside, Callee, Inside, Here, scope}
use Rattle.meaning_laws.specs.Does.{Leaves, Giving, Raising, Does, Calls, Jumps}
use Rattle.meaning_laws.specs.Interaction.{onward, of_type, does, waiting, filled, unless_light, now_or_before, as_written, part_from_call, called_with, applied, calls_out, looked_up}
use Rattle.meaning_laws.specs.Interaction as part
use Rattle.mach_ir.specs.Acts.{Act, Goes, On, Asks, Replaces, call_answered, as_list, act_after_call, after_external, asks, asks_value, callee_raises, raised_by, stuck_unless}
use Rattle.mach_ir.specs.Runs.{ActivationSetting, Step, Continues, Waits, FinishesBy, Finishes, IsStuck, asked_call, kept_of}
use Rattle.mach_ir.specs.Meaning.{State, File, values, with_held, on_act, clear_registers, killed, assign_register, put_if, put_all, wrote, tries_at, at_handler, Temporaries, Everything}
use Rattle.mach_ir.specs.declared.reg.Reg.{Reg}
use Rattle.mach_ir.specs.declared.mach.Instr.{Instr}
use Rattle.mach_ir.specs.declared.mach.Mach.{Mach}
use Rattle.selection_rules.specs.Instructions as emit
use Rattle.selection_rules.specs.Kept.{on_lossless_values}
use Rattle.selection_rules.specs.Select.{NamedRegister, Label, scopes, fresh_register, inner_valued, inner_dest, width, width_row, regs_of, only_when, seat, seats, result_seat, from_seat, moves_all, called_symbol, unless_symbol, callee_of, callee_regs, tail_result, call_of, select, select_filled}
use Rattle.cmm_tree.specs.Measures.{count_of}
use Rattle.selection_rules.specs.Follow.{text_setting, RaisesVal, FollowsText, walks, pays, fails, calls, replaces}
use Rattle.selection_rules.specs.Follow as follow
use Rattle.selection_rules.proofs.Files.{Holds, put_same, Low, survives_call, Under, under_more, IsNamed, named_under, Stands, stands_put, stands_survives, scope_is}
use Rattle.selection_rules.proofs.Parts.{Placed, placed_in, lower_more, Stable, stable_inner, new, And, stable_and, calm, at, Level, Based, based, Reaching, reaching_now, raised_to, Outs, any, nothing, gone_any, any_shape, kept, IsNo, After, after_typed, of_type_some, node_follows, Ready, lands}
use Rattle.selection_rules.proofs.Operands.{Selected, operand, ready_at, outs_and}
use Rattle.selection_rules.proofs.Endings.{ending_select, ending_waiting, ending_filled, ending_moves}
use Rattle.selection_rules.proofs.Leaves.{ready_inner, stable_dest, move_follows}
use Rattle.selection_rules.proofs.Rows.{Row, row_values, Between, between_less, between_regs, rising_seats, seats_length, between_rising, regs_length, off_before, put_seats, row_put_all, WithRow, stable_row, Matches, outs_row, SelectedWaiting, SelectedFilled}
use Rattle.selection_rules.proofs.Accesses.{leaps}
use Rattle.selection_rules.proofs.Exits.{stands_put_all, stable_put_all, moves_follow}

module _ (c : ActivationSetting) (m : Mach) (turns : ℕ) (ts : List ℕ) (low : Low m.colours) where
  -- ---- what a call leaves

  -- what is given is written with this component, and does not fit it
  pub unfit : (float : Bool) (q : Comp) (k : Leaves (Option Value) → Does) (x : Step State) (v : Value) (h : Here) (memory : Memory) → fits c.setting.end (type_of_comp q) v ≡ false →
      FollowsText c m (of_type c.setting.end (unless_float float (type_of_comp q)) (Some v) h memory k) x
  unfit true q k x v h memory e = fails
  unfit false q k x v h memory e = of_type_some c m turns ts k x (type_of_comp q) v h memory (λ f. absurd (true≢false (sym f ∙ e))) (λ none'. absurd (never q none'))
    where
      never : (q : Comp) → IsNo c m turns ts (type_of_comp q) → ⊥
      never comp.Int n = elim n [ ]
      never comp.Val n = elim n [ ]
      never comp.Addr n = elim n [ ]
      never comp.Float n = elim n [ ]

  -- what is given that does not fit is improper
  abbrev Unfit : Ret → (Leaves (Option Value) → Does) → Type 0
  Unfit result k = (q : Comp) → result ≡ ret.Comp q → (v : Value) (h : Here) (memory : Memory) → fits c.setting.end (type_of_comp q) v ≡ false → FollowsText c m (k (Giving (Some v) h memory)) IsStuck

  -- the value that came back goes from its seat to the destination
  given_follows : {env : List NamedRegister} {labels : List Label} {valued tail : Bool} {d : Reg} {next : List Instr} {P : File → Type 0} {k : Leaves (Option Value) → Does} {b : ℕ} (i : Instr) (n : ℕ) (result : Ret) →
      i.results ≡ result_seat n result → Unfit result k → b ≤ n → Ready c m turns ts env labels b d → Stable env b d.number P → After c m turns ts None env labels valued tail d next P k →
      (v : Option Value) (h : Here) (g : File) (x memory : Memory) → Level c m turns ts h → Stands env h.names (clear_registers (killed m i) g) → P (clear_registers (killed m i) g) →
      FollowsText c m (as_written result v h memory k)
      (on_act c m i (from_seat n result d next) g (calm c m turns ts x) (call_answered c.setting.end result v (λ w. Goes (as_list w) On (calm c m turns ts memory))))
  given_follows {d = d} {next = next} {k = k} i n ret.Unit is unfit' le ready stable a v h g x memory level s p =
      subst (λ rs. FollowsText c m (k (Giving None h memory)) (wrote next (calm c m turns ts memory) (put_all c.setting.end rs [] (clear_registers (killed m i) g)))) (sym is)
      (a.giving None h (clear_registers (killed m i) g) memory level s p (nothing gone_any))
  given_follows i n (ret.Comp t) is unfit' le ready stable a None h g x memory level s p = fails
  given_follows {env} {d = d} {next = next} {P = P} {k = k} i n (ret.Comp t) is unfit' le ready stable a (Some v) h g x memory level s p = by (fits c.setting.end (type_of_comp t) v) refl
    where
      y : Reg
      y = seat 0 n t

      cleared : File
      cleared = clear_registers (killed m i) g

      unnamed : IsNamed n env → ⊥
      unnamed q = let small = named_under ready.under q in omega (arith, small, le)

      by : (b : Bool) → fits c.setting.end (type_of_comp t) v ≡ b → FollowsText c m (k (Giving (Some v) h memory))
          (on_act c m i (emit.move y d ∷ next) g (calm c m turns ts x) (stuck_unless b (Goes (v ∷ []) On (calm c m turns ts memory))))
      by false e = unfit' t refl v h memory e
      by true e =
          subst (λ rs. FollowsText c m (k (Giving (Some v) h memory)) (wrote (emit.move y d ∷ next) (calm c m turns ts memory) (put_all c.setting.end rs (v ∷ []) cleared))) (sym is)
          (subst (λ q. FollowsText c m (k (Giving (Some v) h memory)) (wrote (emit.move y d ∷ next) (calm c m turns ts memory) (put_if q y v (Some cleared)))) (sym e)
          (move_follows c m turns ts (put_same y v cleared)
          (lands c m turns ts ready stable a v h (assign_register y v cleared) memory level (stands_put y v unnamed s) (stable.puts y v cleared (new le) p) any)))

  -- a callee's raise comes to the handler of the innermost try
  flies : (y : Does) (i : Instr) (next : List Instr) (f : File) (memory : Memory) (v : Value) (x : Memory) (us : List ℕ) → fits c.setting.end ty.Val v ≡ true → tries_at (i ∷ next) ≡ us → FollowsText c m y (raised_to m us v f x) →
      FollowsText c m y (on_act c m i next f (calm c m turns ts memory) (stuck_unless (fits c.setting.end ty.Val v) (callee_raises v x (calm c m turns ts memory) us)))
  flies y i next f memory v x us fv caught follows = subst (λ q. FollowsText c m y (on_act c m i next f (calm c m turns ts memory) (stuck_unless q (callee_raises v x (calm c m turns ts memory) us)))) (sym fv) (by us caught follows)
    where
      by : (us : List ℕ) → tries_at (i ∷ next) ≡ us → FollowsText c m y (raised_to m us v f x) → FollowsText c m y (on_act c m i next f (calm c m turns ts memory) (callee_raises v x (calm c m turns ts memory) us))
      by [] caught follows = follows
      by (l ∷ us) caught follows =
          subst (λ o. FollowsText c m y (Continues (record { rest = at_handler m.code o; file = f; around = record { memory = x; unwritten = []; tries = us; raised = Some v } }))) (sym caught) follows

  -- ---- arguments go to their seats

  seated_follows : {x : Does} {memory : Memory} {env : List NamedRegister} {names : List Binding} {P : File → Type 0} {b d : ℕ} (row : ℕ) (es : Expressions) (vs : List Value) (code : List Instr) {f : File} →
      Row c.setting.end f (regs_of env row es) (map Some vs) → b ≤ row → Under b env → Stable env b d P → Stands env names f → P f →
      ((g : File) → Stands env names g → P g → Row c.setting.end g (seats 0 (row + count_of es) (regs_of env row es)) (map Some vs) → FollowsText c m x (Continues (at c m turns ts code g memory))) →
      FollowsText c m x (Continues (at c m turns ts (moves_all (regs_of env row es) (seats 0 (row + count_of es) (regs_of env row es)) code) f memory))
  seated_follows {env = env} {b = b} row es vs code {f} stands le under stable s p on =
      let regs = regs_of env row es in
      let n = row + count_of es in
      let to = seats 0 n regs in
      let assign_register = put_seats vs stands 0 n f in
      let long = seats_length 0 n regs in
      let same = regs_length env row es in
      let between : Between n (n + count_of es) to = between_rising (n + count_of es) (rising_seats 0 n regs) (omega (arith, long, same)) in
      let outer : Between b (n + count_of es) to = between_less b (omega (arith, le)) between in
      moves_follow c m turns ts regs to code vs stands (off_before (between_regs env row n es (le_refl n)) between (le_refl n)) assign_register.1
      (on assign_register.0 (stands_put_all under outer assign_register.1 s) (stable_put_all stable outer assign_register.1 p) (row_put_all (rising_seats 0 n regs) assign_register.1))

  -- ---- external calls

  module _ (place : ℕ) (frame : Bool) (name : List ℕ) (arguments : Expressions) (result : Ret) (result_at : ℕ) (env : List NamedRegister) (labels : List Label) (valued tail : Bool) (d : Reg) (b : ℕ) (next : List Instr) (P : File → Type 0)
      (k : Leaves (Option Value) → Does) where
    abbrev T : Ty
    T = type_of (scopes env) (Extcall place frame name arguments result result_at)

    abbrev kk : Leaves (Option Value) → Does
    kk = λ l. onward (λ v h memory. of_type c.setting.end T v h memory) l k

    abbrev out_at : ℕ
    out_at = suc b

    abbrev out_seated : ℕ
    out_seated = out_at + count_of arguments

    abbrev out_given : ℕ
    out_given = out_seated + count_of arguments

    abbrev out_regs : List Reg
    out_regs = regs_of env out_at arguments

    abbrev out_args : List Reg
    out_args = seats 0 out_seated out_regs

    abbrev instr : Instr
    instr = emit.external_instruction name (comps_of_arguments (scopes env) arguments) result frame out_args (result_seat out_given result)

    abbrev out_rest : List Instr
    out_rest = from_seat out_given result (inner_dest T b d) next

    abbrev out_moves : List Instr
    out_moves = moves_all out_regs out_args (instr ∷ out_rest)

    out_unfit : Unfit result kk
    out_unfit q e v h memory misfit' =
        subst (λ r. FollowsText c m (of_type c.setting.end (unless_float (holds_float (Extcall place frame name arguments result result_at)) (type_of_result r)) (Some v) h memory k) IsStuck) (sym e)
        (unfit (holds_float (Extcall place frame name arguments result result_at)) q k IsStuck v h memory misfit')

    called_out : Ready c m turns ts env labels b d → Stable env b d.number P → tries_at (instr ∷ out_rest) ≡ ts → After c m turns ts None env labels (inner_valued valued T) tail (inner_dest T b d) next P kk →
        (vs : List Value) (h : Here) (f : File) (memory : Memory) → Level c m turns ts h → Stands env h.names f → P f → Row c.setting.end f out_args (map Some vs) →
        FollowsText c m (calls_out (row_of_call (scopes env) name arguments result) frame vs h memory kk) (Continues (at c m turns ts (instr ∷ out_rest) f memory))
    called_out ready stable caught a vs h f memory level s p row =
        let survives = survives_call Temporaries (result_seat out_given result) f low in
        let inner = stable_dest c m turns ts d T stable in
        walks (subst (λ o. FollowsText c m (calls_out (row_of_call (scopes env) name arguments result) frame vs h memory kk) (on_lossless_values c m instr out_rest f (calm c m turns ts memory) o)) (sym (row_values vs row))
        (follow.calls_out
        (λ v after.
        given_follows instr out_given result refl out_unfit (omega arith) (ready_inner c m turns ts T ready) inner a v h f memory memory level (stands_survives ready.under survives s) (inner.calls f (clear_registers (killed m instr) f) survives p))
        (λ e v after fv.
        subst (λ q. FollowsText c m (Jumps (kk (Raising v h memory))) (on_act c m instr out_rest f (calm c m turns ts memory) (after_external c.setting result q (calm c m turns ts memory) (Threw v after)))) (sym e)
        (subst (λ q. FollowsText c m (Jumps (kk (Raising v h memory))) (on_act c m instr out_rest f (calm c m turns ts memory) (stuck_unless q (raised_by v (calm c m turns ts memory) ts)))) (sym fv)
        (leaps c m turns ts (kk (Raising v h memory)) instr out_rest f memory v ts caught (let o = a.outs in o.raising v fv h f memory (based c m turns ts level) (reaching_now h s) p))))))

    out_of : {A : Type 0} {Q : File → Type 0} (g : A → Here → Memory → part.Part (Option Value)) → Outs c m turns ts env labels Q kk → Outs c m turns ts env labels Q (λ l. onward g l kk)
    out_of g o = record { exit = λ l values h f memory level r p. o.exit l values h f memory level r p; raising = λ v fv h f memory level r p. o.raising v fv h f memory level r p }

    pub selected_extcall : SelectedWaiting c m turns ts arguments → SelectedFilled c m turns ts arguments → width (Extcall place frame name arguments result result_at) < 2 ^ 60 →
        Ready c m turns ts env labels b d → Stable env b d.number P → Placed m ts (select env labels valued tail d b (Extcall place frame name arguments result result_at) next) →
        After c m turns ts (Some T) env labels valued tail d next P k → (h : Here) (f : File) (memory : Memory) → Level c m turns ts h → Stands env h.names f → P f →
        FollowsText c m (does (text_setting c) turns (Extcall place frame name arguments result result_at) tail h memory k) (Continues (at c m turns ts (select env labels valued tail d b (Extcall place frame name arguments result result_at) next) f memory))
    selected_extcall sw sf fine ready stable ending after h f memory level s p =
        let first : 21 ≤ b = let less = ready.below in let le = ready.first in omega (arith, less, le) in
        let a = after_typed c m turns ts T b after in
        let steady = stable_inner out_at out_at (omega arith) (omega arith) stable in
        let lower = lower_more out_at (omega arith) ready.lower in
        let under = under_more out_at (omega arith) ready.under in
        let filled_placed = placed_in (ending_waiting env labels out_at (suc out_given) arguments (select_filled env labels out_at (suc out_given) arguments out_moves)) ending in
        let moves_placed = placed_in (ending_filled env labels out_at (suc out_given) arguments out_moves) filled_placed in
        let call_placed = placed_in (ending_moves out_regs out_args (instr ∷ out_rest)) moves_placed in
        node_follows c m turns ts (Extcall place frame name arguments result result_at) h memory
        (part.and_then (waiting (text_setting c) turns arguments h memory) (λ before h memory. part.and_then (filled (text_setting c) turns arguments before h memory) (λ values h memory.
        calls_out (row_of_call (scope h) name arguments result) frame values h memory))) k _ s
        (sw env labels out_at (suc out_given) (select_filled env labels out_at (suc out_given) arguments out_moves) P _ (omega (arith, fine)) lower under (omega (arith, first)) steady (omega arith) ending (out_of _ a.outs) h f memory level s p
        (λ before h f memory level s p row matches.
        sf env labels out_at (suc out_given) out_moves P _ before (omega (arith, fine)) lower under (omega (arith, first)) steady (omega arith) filled_placed (out_of _ a.outs) h f memory level s p row matches
        (λ vs h f memory level s p row.
        subst (λ sc. FollowsText c m (calls_out (row_of_call sc name arguments result) frame vs h memory kk) (Continues (at c m turns ts out_moves f memory))) (sym (scope_is s))
        (seated_follows out_at arguments vs (instr ∷ out_rest) row (omega arith) ready.under stable s p
        (λ g s p row. called_out ready stable call_placed.caught a vs h g memory level s p row)))))

  -- ---- calls of functions

  -- a light address is no symbol
  light_no_symbol : (sc : List Scoped) (e : Expression) (n : List ℕ) → is_light_address sc e ≡ true → called_symbol e ≡ Some n → ⊥
  light_no_symbol sc (Symbol at x) n light e = true≢false (sym light)
  light_no_symbol sc e n light is = absurd (cc)

  -- a symbol as an operand needs no code
  symbol_operand : {B : Type 0} (e : Expression) (n : List ℕ) → called_symbol e ≡ Some n → (h : Here) (memory : Memory) (go : Value → Here → Memory → part.Part B) (k : Leaves B → Does) (s : State) → s.around.memory ≡ memory →
      ((v : Value) → c.setting.symbol n ≡ Some v → FollowsText c m (go v h memory k) (Continues s)) → FollowsText c m (part.with_value (does (text_setting c) turns e false h memory) go k) (Continues s)
  symbol_operand {B} (Symbol place x) n is h memory go k s kept on = pays kept (by (c.setting.symbol x) refl)
    where
      kk : Leaves (Option Value) → Does
      kk = λ l. onward (λ v h memory. part.only_value v go h memory) l k

      same : x ≡ n
      same = cc

      by : (o : Option Value) → c.setting.symbol x ≡ o → FollowsText c m (part.typed c.setting.end ty.Val (looked_up o h memory) kk) (Continues s)
      by None e = fails
      by (Some v) e = fitting (fits c.setting.end ty.Val v)
        where
          fitting : (q : Bool) → FollowsText c m (cond q (part.gives (Some v) h memory) (part.fails (misfit ty.Val) memory) kk) (Continues s)
          fitting true = on v (subst (λ y. c.setting.symbol y ≡ Some v) same e)
          fitting false = fails
  symbol_operand e n is h memory go k s kept on = absurd (cc)

  module _ (place : ℕ) (callee : Expression) (arguments : Expressions) (result : Ret) (result_at : ℕ) (env : List NamedRegister) (labels : List Label) (valued tail : Bool) (d : Reg) (b : ℕ) (next : List Instr) (P : File → Type 0)
      (k : Leaves (Option Value) → Does) where
    abbrev type : Ty
    type = type_of (scopes env) (App place callee arguments result result_at)

    abbrev after_k : Leaves (Option Value) → Does
    after_k = λ l. onward (λ v h memory. of_type c.setting.end type v h memory) l k

    abbrev target : Reg
    target = inner_dest type b d

    abbrev wants : Bool
    wants = inner_valued valued type

    abbrev callee_reg : Reg
    callee_reg = fresh_register (suc b) (type_of (scopes env) callee)

    abbrev row_at : ℕ
    row_at = suc (suc b)

    abbrev seated : ℕ
    seated = row_at + count_of arguments

    abbrev given : ℕ
    given = seated + count_of arguments

    abbrev inside : ℕ
    inside = suc given

    abbrev regs : List Reg
    regs = regs_of env row_at arguments

    abbrev args : List Reg
    args = seats 0 seated regs

    abbrev Followed : Type 0
    Followed = After c m turns ts None env labels wants tail target next P after_k

    unfit_app : Unfit result after_k
    unfit_app q e v h memory misfit' =
        subst (λ r. FollowsText c m (of_type c.setting.end (unless_float (holds_float (App place callee arguments result result_at)) (type_of_result r)) (Some v) h memory k) IsStuck) (sym e)
        (unfit (holds_float (App place callee arguments result result_at)) q k IsStuck v h memory misfit')

    -- what a tail call leaves after it
    ended_follows : (w : Bool) → tail ≡ true → wants ≡ w → Followed → (h : Here) (g : File) (z : Doing) → RaisesVal c z → Based c m turns ts h → Reaching env h g → P g →
        FollowsText c m (part_from_call result h z after_k) (Finishes (kept_of (tail_result w result) z))
    ended_follows w t is a h g (Threw v memory) cm lev reach p = by (tail_result w result)
      where
        raised : FollowsText c m (after_k (Raising v h memory)) (Finishes (Threw v memory))
        raised = subst (λ (us : List ℕ). FollowsText c m (after_k (Raising v h memory)) (raised_to m us v g memory)) (a.untried t) (let o = a.outs in o.raising v cm h g memory lev reach p)

        by : (r : Ret) → FollowsText c m (after_k (Raising v h memory)) (Finishes (kept_of r (Threw v memory)))
        by ret.Unit = raised
        by (ret.Comp q) = raised
    ended_follows w t is a h g (Gave v memory) cm lev reach p = by w is result refl v
      where
        leaves : (o : Option Value) (w : Bool) → wants ≡ w → FollowsText c m (after_k (Giving o h memory)) (Finishes (Gave (kept c m turns ts w o) memory))
        leaves o w is = subst (λ w. FollowsText c m (after_k (Giving o h memory)) (Finishes (Gave (kept c m turns ts w o) memory))) is (a.tailing t o (any_shape c m turns ts o) h memory)

        by : (w : Bool) → wants ≡ w → (r : Ret) → result ≡ r → (v : Option Value) → FollowsText c m (as_written r v h memory after_k) (Finishes (kept_of (tail_result w r) (Gave v memory)))
        by true is ret.Unit e v = leaves None true is
        by false is ret.Unit e v = leaves None false is
        by w is (ret.Comp q) e None = fails
        by false is (ret.Comp q) e (Some v) = leaves (Some v) false is
        by true is (ret.Comp q) e (Some v) = leaves (Some v) true is

    abbrev going : Bool → Memory → Callee → List Value → Act
    going true memory = λ f xs. Replaces f xs (tail_result wants result)
    going false memory = λ f xs. Asks f xs (act_after_call c.setting result (calm c m turns ts memory))

    abbrev call_instr : Bool → Option (List ℕ) → Instr
    call_instr true name = emit.tail_call (callee_of name) (tail_result wants result) (callee_regs name callee_reg ++ args)
    call_instr false name = emit.call (callee_of name) result (callee_regs name callee_reg ++ args) (result_seat given result)

    abbrev call_rest : Bool → List Instr
    call_rest true = next
    call_rest false = from_seat given result target next

    abbrev last_code : Option (List ℕ) → List Instr
    last_code name = call_of tail wants result name callee_reg args given target next

    asked_is : (t : Bool) (n : ℕ) (vs : List Value) (h : Here) (memory : Memory) → Level c m turns ts h → asked_call c (Inside n) vs t (calm c m turns ts memory) ≡ asked_inside (call_from n vs t h) memory
    asked_is true n vs h memory level = let one = level.below in let two = level.tries in cc
    asked_is false n vs h memory level = let one = level.below in let two = level.frame in let three = level.tries in cc

    -- the call itself
    called : (t : Bool) → tail ≡ t → (o : Option (List ℕ)) → tries_at (call_instr t o ∷ call_rest t) ≡ ts → Ready c m turns ts env labels b d → Stable env b d.number P → Followed →
        (vs : List Value) (h : Here) (f : File) (memory : Memory) → Level c m turns ts h → Stands env h.names f → P f → (n : ℕ) (g : Bool) →
        FollowsText c m (cond g (part.calls (call_from n vs t h) result h memory) (part.fails BadCall memory) after_k)
        (on_act c m (call_instr t o) (call_rest t) f (calm c m turns ts memory) (stuck_unless (g && true) (going t memory (Inside n) vs)))
    called t is o ct ready stable a vs h f memory level s p n false = fails
    called true is o ct ready stable a vs h f memory level s p n true =
        subst (λ q. FollowsText c m (Calls (call_from n vs true h) memory (λ z. part_from_call result h z after_k)) (FinishesBy q (tail_result wants result)))
        (sym (asked_is true n vs h memory level))
        (replaces (λ z cm. ended_follows wants is refl a h f z cm (based c m turns ts level) (reaching_now h s) p))
    called false is o ct ready stable a vs h f memory level s p n true =
        subst (λ q. FollowsText c m (Calls (call_from n vs false h) memory (λ z. part_from_call result h z after_k)) (Waits q (λ z. on_act c m (call_instr false o) (call_rest false) f (calm c m turns ts memory) (act_after_call c.setting result (calm c m turns ts memory) z))))
        (sym (asked_is false n vs h memory level)) (calls came)
      where
        came : (z : Doing) → RaisesVal c z → FollowsText c m (part_from_call result h z after_k) (on_act c m (call_instr false o) (call_rest false) f (calm c m turns ts memory) (act_after_call c.setting result (calm c m turns ts memory) z))
        came (Threw v x) cm = flies (after_k (Raising v h x)) (call_instr false o) (call_rest false) f memory v x ts cm ct (let q = a.outs in q.raising v cm h f x (based c m turns ts level) (reaching_now h s) p)
        came (Gave v x) cm =
            let i = call_instr false o in
            let survives = survives_call Everything (result_seat given result) f low in
            let inner = stable_dest c m turns ts d type stable in
            given_follows i given result refl unfit_app (omega arith) (ready_inner c m turns ts type ready) inner a v h f memory x level (stands_survives ready.under survives s) (inner.calls f (clear_registers (killed m i) f) survives p)

    asked_follows : (t : Bool) → tail ≡ t → (o : Option (List ℕ)) → tries_at (call_instr t o ∷ call_rest t) ≡ ts → Ready c m turns ts env labels b d → Stable env b d.number P → Followed →
        (vs : List Value) (h : Here) (f : File) (memory : Memory) → Level c m turns ts h → Stands env h.names f → P f → (n : ℕ) (comps : Option (List Comp)) →
        FollowsText c m (called_with (text_setting c) comps n vs result t h memory after_k)
        (on_act c m (call_instr t o) (call_rest t) f (calm c m turns ts memory) (asks c.setting comps n vs (calm c m turns ts memory) (going t memory)))
    asked_follows t is o ct ready stable a vs h f memory level s p n None = fails
    asked_follows t is o ct ready stable a vs h f memory level s p n (Some comps) = called t is o ct ready stable a vs h f memory level s p n (fit_parameters c.setting.end comps vs)

    asked_value : (t : Bool) → tail ≡ t → (o : Option (List ℕ)) → tries_at (call_instr t o ∷ call_rest t) ≡ ts → Ready c m turns ts env labels b d → Stable env b d.number P → Followed →
        (v : Value) (vs : List Value) (h : Here) (f : File) (memory : Memory) → Level c m turns ts h → Stands env h.names f → P f →
        FollowsText c m (applied (text_setting c) v vs result t h memory after_k)
        (on_act c m (call_instr t o) (call_rest t) f (calm c m turns ts memory) (asks_value c.setting (Some v) vs (calm c m turns ts memory) (going t memory)))
    asked_value t is o ct ready stable a (value.Word w) vs h f memory level s p = fails
    asked_value t is o ct ready stable a (value.Block w z) vs h f memory level s p = fails
    asked_value t is o ct ready stable a (value.Function n) vs h f memory level s p = asked_follows t is o ct ready stable a vs h f memory level s p n (slice_get c.setting.parameters n)

    -- whom the call calls
    data Called (v : Value) (f : File) : Option (List ℕ) → Type 0 where
      by_symbol : {n : List ℕ} → c.setting.symbol n ≡ Some v → Called v f (Some n)
      by_register : Holds callee_reg v f → Called v f None

    -- the call's instruction, where its operands are
    instruction : (t : Bool) → tail ≡ t → (o : Option (List ℕ)) → tries_at (call_of t wants result o callee_reg args given target next) ≡ ts → Ready c m turns ts env labels b d → Stable env b d.number P → Followed →
        (v : Value) (vs : List Value) (h : Here) (f : File) (memory : Memory) → Level c m turns ts h → Stands env h.names f → P f → Called v f o → values f args ≡ Some vs →
        FollowsText c m (applied (text_setting c) v vs result t h memory after_k) (Continues (at c m turns ts (call_of t wants result o callee_reg args given target next) f memory))
    instruction true is (Some n) ct ready stable a v vs h f memory level s p (by_symbol e) row =
        walks (subst (λ o. FollowsText c m (applied (text_setting c) v vs result true h memory after_k) (on_lossless_values c m (call_instr true (Some n)) next f (calm c m turns ts memory) o)) (sym row)
        (subst (λ o. FollowsText c m (applied (text_setting c) v vs result true h memory after_k)
        (on_act c m (call_instr true (Some n)) next f (calm c m turns ts memory) (asks_value c.setting o vs (calm c m turns ts memory) (going true memory)))) (sym e)
        (asked_value true is (Some n) ct ready stable a v vs h f memory level s p)))
    instruction false is (Some n) ct ready stable a v vs h f memory level s p (by_symbol e) row =
        walks (subst (λ o. FollowsText c m (applied (text_setting c) v vs result false h memory after_k) (on_lossless_values c m (call_instr false (Some n)) (call_rest false) f (calm c m turns ts memory) o)) (sym row)
        (subst (λ o. FollowsText c m (applied (text_setting c) v vs result false h memory after_k)
        (on_act c m (call_instr false (Some n)) (call_rest false) f (calm c m turns ts memory) (asks_value c.setting o vs (calm c m turns ts memory) (going false memory)))) (sym e)
        (asked_value false is (Some n) ct ready stable a v vs h f memory level s p)))
    instruction true is None ct ready stable a v vs h f memory level s p (by_register holds) row =
        walks (subst (λ o. FollowsText c m (applied (text_setting c) v vs result true h memory after_k) (on_lossless_values c m (call_instr true None) next f (calm c m turns ts memory) o))
        (sym (ap (λ o. with_held o (values f args)) holds.is ∙ ap (with_held (Some (record { comp = callee_reg.comp; value = v }))) row)) (asked_value true is None ct ready stable a v vs h f memory level s p))
    instruction false is None ct ready stable a v vs h f memory level s p (by_register holds) row =
        walks (subst (λ o. FollowsText c m (applied (text_setting c) v vs result false h memory after_k) (on_lossless_values c m (call_instr false None) (call_rest false) f (calm c m turns ts memory) o))
        (sym (ap (λ o. with_held o (values f args)) holds.is ∙ ap (with_held (Some (record { comp = callee_reg.comp; value = v }))) row)) (asked_value false is None ct ready stable a v vs h f memory level s p))

    abbrev moves_code : Option (List ℕ) → List Instr
    moves_code o = moves_all regs args (last_code o)

    abbrev light_code : Bool → Option (List ℕ) → List Instr
    light_code light o = only_when light (select env labels false false callee_reg inside callee) (moves_code o)

    abbrev filled_part : Bool → Option (List ℕ) → List Instr
    filled_part light o = select_filled env labels row_at (inside + width callee) arguments (light_code light o)

    abbrev heavy_code : Bool → Option (List ℕ) → List Instr
    heavy_code light o = only_when (not light) (unless_symbol o (select env labels false false callee_reg inside callee)) (filled_part light o)

    abbrev finish : Option Value → List Value → Here → Memory → part.Part (Option Value)
    finish o vs h memory = now_or_before o (does (text_setting c) turns callee false) h memory (λ v h memory. applied (text_setting c) v vs result tail h memory)

    app_out_of : {A : Type 0} {Q : File → Type 0} (g : A → Here → Memory → part.Part (Option Value)) → Outs c m turns ts env labels Q after_k → Outs c m turns ts env labels Q (λ l. onward g l after_k)
    app_out_of g o = record { exit = λ l values h f memory level r p. o.exit l values h f memory level r p; raising = λ v fv h f memory level r p. o.raising v fv h f memory level r p }

    abbrev Waited : Bool → Option (List ℕ) → Type 0
    Waited light o =
        (before : List (Option Value)) (h : Here) (f : File) (memory : Memory) → Level c m turns ts h → Stands env h.names f → P f → Row c.setting.end f regs before → Matches env arguments before →
        FollowsText c m (unless_light light (does (text_setting c) turns callee false) h memory (λ o h memory. part.and_then (filled (text_setting c) turns arguments before h memory) (λ vs h memory. finish o vs h memory)) after_k)
        (Continues (at c m turns ts (heavy_code light o) f memory))

    -- after the arguments that do not wait
    app_by : (light : Bool) (o : Option (List ℕ)) → is_light_address (scopes env) callee ≡ light → called_symbol callee ≡ o → Selected c m turns ts callee → SelectedFilled c m turns ts arguments → width callee < 2 ^ 60 →
        width_row arguments < 2 ^ 60 → Ready c m turns ts env labels b d → Stable env b d.number P → Followed → Placed m ts (heavy_code light o) → Waited light o
    app_by true (Some n) is named se sf few small ready stable a ending before h f memory level s p row matches = absurd (light_no_symbol (scopes env) callee n is named)
    app_by true None is named se sf few small ready stable a ending before h f memory level s p row matches =
        let first : 21 ≤ b = let less = ready.below in let le = ready.first in omega (arith, less, le) in
        let under = under_more row_at (omega arith) ready.under in
        let steady = stable_inner row_at row_at (omega arith) (omega arith) stable in
        let pl = placed_in (ending_filled env labels row_at (inside + width callee) arguments (light_code true None)) ending in
        let ct = (placed_in (ending_moves regs args (last_code None)) (placed_in (ending_select env labels false false callee_reg inside callee (moves_code None)) pl)).caught in
        sf env labels row_at (inside + width callee) (light_code true None) P _ before small (lower_more row_at (omega arith) ready.lower) under (omega (arith, first)) steady (omega arith) ending (app_out_of _ a.outs) h f memory level s p row matches
        (λ vs h f memory level s p row.
        operand c m turns ts {P = WithRow c.setting.end P regs (map Some vs)} callee se few (suc b) inside (moves_code None) _ after_k
        (ready_at c m turns ts (type_of (scopes env) callee) (suc b) inside ready.lower ready.under first (omega arith) (omega arith))
        (stable_row (map Some vs) (omega (arith, first)) (between_regs env row_at inside arguments (omega arith)) (λ n lo high same. omega (arith, lo, same)) under (stable_inner (suc b) inside (omega arith) (omega arith) stable))
        pl (outs_row c m turns ts regs (map Some vs) a.outs) h f memory level s (record { rest = p; row = row })
        (λ v h f memory level s p fv hv.
        seated_follows {P = And P callee_reg v} row_at arguments vs (last_code None) p.row (le_refl row_at) under
        (stable_and callee_reg v (omega arith) (λ q. omega (arith, q)) (λ q. let low' = named_under ready.under q in omega (arith, low')) (omega (arith, first)) steady) s (record { rest = p.rest; holds = hv })
        (λ g s p row. instruction tail refl None ct ready stable a v vs h g memory level s p.rest (by_register p.holds) (row_values vs row))))
    app_by false None is named se sf few small ready stable a ending before h f memory level s p row matches =
        let first : 21 ≤ b = let less = ready.below in let le = ready.first in omega (arith, less, le) in
        let under = under_more row_at (omega arith) ready.under in
        let steady = stable_inner row_at row_at (omega arith) (omega arith) stable in
        let pl = placed_in (ending_select env labels false false callee_reg inside callee (filled_part false None)) ending in
        let ct = (placed_in (ending_moves regs args (last_code None)) (placed_in (ending_filled env labels row_at (inside + width callee) arguments (light_code false None)) pl)).caught in
        let kept_callee = λ (v : Value). stable_and {P = P} callee_reg v (omega arith) (λ q. omega (arith, q)) (λ q. let low' = named_under ready.under q in omega (arith, low')) (omega (arith, first)) steady in
        operand c m turns ts {P = WithRow c.setting.end P regs before} callee se few (suc b) inside (filled_part false None) _ after_k
        (ready_at c m turns ts (type_of (scopes env) callee) (suc b) inside ready.lower ready.under first (omega arith) (omega arith))
        (stable_row before (omega (arith, first)) (between_regs env row_at inside arguments (omega arith)) (λ n lo high same. omega (arith, lo, same)) under (stable_inner (suc b) inside (omega arith) (omega arith) stable))
        ending (outs_row c m turns ts regs before a.outs) h f memory level s (record { rest = p; row = row })
        (λ v h f memory level s p fv hv.
        sf env labels row_at (inside + width callee) (light_code false None) (And P callee_reg v) _ before small (lower_more row_at (omega arith) ready.lower) under (omega (arith, first)) (kept_callee v) (omega arith)
        pl (app_out_of _ (outs_and c m turns ts callee_reg v a.outs)) h f memory level s (record { rest = p.rest; holds = hv }) p.row matches
        (λ vs h f memory level s p row.
        seated_follows {P = And P callee_reg v} row_at arguments vs (last_code None) row (le_refl row_at) under (kept_callee v) s p
        (λ g s p row. instruction tail refl None ct ready stable a v vs h g memory level s p.rest (by_register p.holds) (row_values vs row))))
    app_by false (Some n) is named se sf few small ready stable a ending before h f memory level s p row matches =
        let first : 21 ≤ b = let less = ready.below in let le = ready.first in omega (arith, less, le) in
        let under = under_more row_at (omega arith) ready.under in
        let steady = stable_inner row_at row_at (omega arith) (omega arith) stable in
        let ct = (placed_in (ending_moves regs args (last_code (Some n))) (placed_in (ending_filled env labels row_at (inside + width callee) arguments (light_code false (Some n))) ending)).caught in
        symbol_operand callee n named h memory _ after_k _ refl
        (λ v is_value.
        sf env labels row_at (inside + width callee) (light_code false (Some n)) P _ before small (lower_more row_at (omega arith) ready.lower) under (omega (arith, first)) steady (omega arith) ending (app_out_of _ a.outs) h f memory level s p row matches
        (λ vs h f memory level s p row.
        seated_follows row_at arguments vs (last_code (Some n)) row (le_refl row_at) under steady s p
        (λ g s p row. instruction tail refl (Some n) ct ready stable a v vs h g memory level s p (by_symbol is_value) (row_values vs row))))

    pub selected_app : Selected c m turns ts callee → SelectedWaiting c m turns ts arguments → SelectedFilled c m turns ts arguments → width (App place callee arguments result result_at) < 2 ^ 60 →
        Ready c m turns ts env labels b d → Stable env b d.number P → Placed m ts (select env labels valued tail d b (App place callee arguments result result_at) next) →
        After c m turns ts (Some type) env labels valued tail d next P k → (h : Here) (f : File) (memory : Memory) → Level c m turns ts h → Stands env h.names f → P f →
        FollowsText c m (does (text_setting c) turns (App place callee arguments result result_at) tail h memory k) (Continues (at c m turns ts (select env labels valued tail d b (App place callee arguments result result_at) next) f memory))
    selected_app se sw sf fine ready stable ending after h f memory level s p =
        let first : 21 ≤ b = let less = ready.below in let le = ready.first in omega (arith, less, le) in
        let a = after_typed c m turns ts type b after in
        let light = is_light_address (scopes env) callee in
        let o = called_symbol callee in
        node_follows c m turns ts (App place callee arguments result result_at) h memory
        (part.and_then (waiting (text_setting c) turns arguments h memory) (λ before h memory. unless_light (is_light_address (scope h) callee) (does (text_setting c) turns callee false) h memory (λ o h memory.
        part.and_then (filled (text_setting c) turns arguments before h memory) (λ vs h memory. finish o vs h memory)))) k _ s
        (sw env labels row_at (inside + width callee) (heavy_code light o) P _ (omega (arith, fine)) (lower_more row_at (omega arith) ready.lower) (under_more row_at (omega arith) ready.under) (omega (arith, first))
        (stable_inner row_at row_at (omega arith) (omega arith) stable) (omega arith) ending (app_out_of _ a.outs) h f memory level s p
        (λ before h f memory level s p row matches.
        subst (λ sc. FollowsText c m (unless_light (is_light_address sc callee) (does (text_setting c) turns callee false) h memory (λ o h memory. part.and_then (filled (text_setting c) turns arguments before h memory) (λ vs h memory. finish o vs h memory)) after_k)
        (Continues (at c m turns ts (heavy_code light o) f memory))) (sym (scope_is s))
        (app_by light o refl refl se sf (omega (arith, fine)) (omega (arith, fine)) ready stable a
        (placed_in (ending_waiting env labels row_at (inside + width callee) arguments (heavy_code light o)) ending) before h f memory level s p row matches)))
