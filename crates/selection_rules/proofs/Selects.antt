-- Selection keeps the meaning of an expression, form by form; and of a function.
use Rattle.std.proofs.Common.{◌≡◌, ℕ, suc, ◌+◌, ◌<◌, ◌≤◌, Bool, true, false, not, ◌&&◌, List, [], ◌∷◌, Option, Some, None, map, length, refl, sym, ap, ◌∙◌, subst, arith, le_refl, ◌^◌}
use Rattle.std.proofs.lemmas.Bool.{true≢false}
use Rattle.bs_words.specs.Fits.{fits, type_of_comp}
use Rattle.bs_words.specs.Memory.{Memory}
use Rattle.bs_words.specs.declared.types.Comp.{Comp}
use Rattle.bs_words.specs.declared.types.Ty.{Ty}
use Rattle.bs_words.specs.declared.values.Value.{Value}
use Rattle.cmm_tree.specs.Tree.{FunctionTree, Parameter, Expression, Integer, Pointer, Symbol, Name, Nothing, Float, Let, Assign, Operator, Load, Store, Alloc, App, Extcall, Checkbound, Raise, Seq, If, Switch, Catch, Exit, Try, Expressions, NoMore, More, Bindings, NoBinding, Bind, Cases, NoCase, Choose, Handlers, NoHandler, Handle}
use Rattle.cmm_types.specs.Types.{type_of, body_type, result_of}
use Rattle.cmm_meaning.specs.State.{Gave, Here, bound}
use Rattle.cmm_meaning.specs.Evaluation.{bound_error, scoped_parameter, fit_parameters}
use Rattle.meaning_laws.specs.Does.{Giving, Ends}
use Rattle.meaning_laws.specs.Interaction.{does}
use Rattle.mach_ir.specs.declared.reg.Reg.{Reg}
use Rattle.mach_ir.specs.declared.mach.Instr.{Instr}
use Rattle.mach_ir.specs.declared.mach.Mach.{Mach}
use Rattle.mach_ir.specs.Runs.{ActivationSetting, Continues, Finishes}
use Rattle.mach_ir.specs.Meaning.{File, assign_register, put_if, put_all, wrote, tries_at, with_held}
use Rattle.selection_rules.specs.Kept.{on_lossless_values}
use Rattle.selection_rules.specs.Select.{NamedRegister, scopes, fresh_register, comp_of_type, params_from, with_params, seat, seats, return_code, colour_regs, select, selected, is_no_value, first_after_colours, width}
use Rattle.std.specs.Prelude.{⊤}
use Rattle.selection_rules.specs.Follow.{FollowsText, walks, fails, gives, raises, exits}
use Rattle.selection_rules.proofs.Files.{Low, IsNamed, named_under, Holds, put_same, none, one}
use Rattle.selection_rules.proofs.Parts.{Within, WellLabelled, no_label, calm, at, Left, nothing, gone, holding, Fit, fit, Shape, a_shape, kept, After}
use Rattle.selection_rules.proofs.Operands.{Selected, own_fits}
use Rattle.selection_rules.proofs.Endings.{ending_select, ending_moves}
use Rattle.selection_rules.proofs.Labels.{selected_labelled}
use Rattle.selection_rules.proofs.Leaves.{move_follows, selected_integer, selected_pointer, selected_nothing, selected_symbol, selected_name, selected_assign, selected_operator}
use Rattle.selection_rules.proofs.Addresses.{SelectedAddress, whole_address, sum_address}
use Rattle.selection_rules.proofs.Accesses.{selected_load, selected_store, selected_checkbound, selected_raise}
use Rattle.selection_rules.proofs.Allocs.{selected_alloc}
use Rattle.selection_rules.proofs.Switches.{SelectedCases, cases_none, cases_more, selected_switch}
use Rattle.selection_rules.proofs.Tests.{SelectedTest, value_test, operator_test}
use Rattle.selection_rules.proofs.Tries.{selected_try}
use Rattle.selection_rules.proofs.Branches.{selected_if}
use Rattle.selection_rules.proofs.Scopes.{SelectedSeq, selected_no_more, selected_last, selected_more, selected_seq, SelectedLet, selected_body, selected_bind, selected_let}
use Rattle.selection_rules.proofs.Rows.{Between, between_rising, rising_seats, seats_length, PutAll, nil, cons, row_put_all, off_before, SelectedWaiting, waiting_none, waiting_more, SelectedFilled, filled_none, filled_more}
use Rattle.selection_rules.proofs.Calls.{selected_extcall, selected_app}
use Rattle.selection_rules.proofs.Exits.{rising_params, params_length, between_params, moves_follow, stands_params, scopes_params, under_with, selected_exit}
use Rattle.selection_rules.proofs.Catches.{put_params, AllFit, all_none, all_one, SelectedHandlers, handlers_none, handlers_more, selected_catch}
use Rattle.bs_words.specs.declared.types.Comp.TheVariants as comp
use Rattle.bs_words.specs.declared.types.Ret.{Ret}
use Rattle.bs_words.specs.declared.types.Ret.TheVariants as ret
use Rattle.bs_words.specs.declared.types.Ty.TheVariants as ty
use Rattle.mach_ir.specs.Placed.{colour_numbers}
use Rattle.selection_rules.specs.Instructions as emit
use Rattle.selection_rules.specs.Follow.{text_setting}

module _ (c : ActivationSetting) (m : Mach) (turns : ℕ) (low : Low m.colours) (labelled : WellLabelled m) (still : fits c.setting.end ty.Val bound_error ≡ true) where
  mutual
    pub selects : (ts : List ℕ) (e : Expression) → Selected c m turns ts e
    selects ts (Integer place w) env labels valued tail d b next P k fine = selected_integer c m turns ts place w env labels valued tail d b next P k fine
    selects ts (Pointer place w) env labels valued tail d b next P k fine = selected_pointer c m turns ts place w env labels valued tail d b next P k fine
    selects ts (Symbol place name) env labels valued tail d b next P k fine = selected_symbol c m turns ts place name env labels valued tail d b next P k fine
    selects ts (Name place x) env labels valued tail d b next P k fine = selected_name c m turns ts place x env labels valued tail d b next P k fine
    selects ts (Nothing place) env labels valued tail d b next P k fine = selected_nothing c m turns ts place env labels valued tail d b next P k fine
    selects ts (Let place bindings body) env labels valued tail d b next P k fine =
        selected_let c m turns ts place bindings body (λ o env labels valued tail d b base next P k level tries. selects_let ts bindings body (λ env labels valued tail d b next P k. selects ts body env labels valued tail d b next P k) o env labels valued tail d b base next P k level tries)
        env labels valued tail d b next P k fine
    selects ts (Assign place name_at x e) env labels valued tail d b next P k fine =
        selected_assign c m turns ts place name_at x e (λ env labels valued tail d b next P k. selects ts e env labels valued tail d b next P k) env labels valued tail d b next P k fine
    selects ts (Operator place op left right) env labels valued tail d b next P k fine =
        selected_operator c m turns ts place op left right (λ env labels valued tail d b next P k. selects ts left env labels valued tail d b next P k) (λ env labels valued tail d b next P k. selects ts right env labels valued tail d b next P k)
        env labels valued tail d b next P k fine
    selects ts (App place callee arguments result result_at) env labels valued tail d b next P k fine =
        selected_app c m turns ts low place callee arguments result result_at env labels valued tail d b next P k (λ env labels valued tail d b next P k. selects ts callee env labels valued tail d b next P k)
        (λ env labels b i next P k. selects_waiting ts arguments env labels b i next P k) (λ env labels b i next P k before. selects_filled ts arguments env labels b i next P k before) fine
    selects ts (Extcall place frame name arguments result result_at) env labels valued tail d b next P k fine =
        selected_extcall c m turns ts low place frame name arguments result result_at env labels valued tail d b next P k
        (λ env labels b i next P k. selects_waiting ts arguments env labels b i next P k) (λ env labels b i next P k before. selects_filled ts arguments env labels b i next P k before) fine
    selects ts (Seq place elements) env labels valued tail d b next P k fine =
        selected_seq c m turns ts place elements (λ env labels valued tail d b next P k. selects_seq ts elements env labels valued tail d b next P k) env labels valued tail d b next P k fine
    selects ts (If place condition on_true on_false) env labels valued tail d b next P k fine =
        selected_if c m turns ts labelled place condition on_true on_false env labels valued tail d b next P k
        (λ env labels l t b d i next P k go. selects_test ts condition (λ env labels valued tail d b next P k. selects ts condition env labels valued tail d b next P k) env labels l t b d i next P k go)
        (λ env labels valued tail d b next P k. selects ts on_true env labels valued tail d b next P k) (λ env labels valued tail d b next P k. selects ts on_false env labels valued tail d b next P k) fine
    selects ts (Catch place body handlers) env labels valued tail d b next P k fine =
        selected_catch c m turns ts labelled place body handlers env labels valued tail d b next P k (λ env labels valued tail d b next P k. selects ts body env labels valued tail d b next P k)
        (λ l env labels own valued tail d b next P k level tries end n i. selects_handlers ts handlers l env labels own valued tail d b next P k level tries end n i) fine
    selects ts (Exit place label_at label arguments) env labels valued tail d b next P k fine =
        selected_exit c m turns ts place label_at label arguments env labels valued tail d b next P k
        (λ env labels b i next P k. selects_waiting ts arguments env labels b i next P k) (λ env labels b i next P k before. selects_filled ts arguments env labels b i next P k before) fine
    selects ts (Alloc place header_at header operands) env labels valued tail d b next P k fine =
        selected_alloc c m turns ts place header_at header operands env labels valued tail d b next P k (λ env labels b i next P k. selects_waiting ts operands env labels b i next P k) fine
    selects ts (Float place word_at operands) env labels valued tail d b next P k fine = λ ready stable placed after h f memory level s p. fails
    selects ts (Load place chunk address) env labels valued tail d b next P k fine = selected_load c m turns ts place chunk address
        (λ B env labels t b i next P go k. selects_address ts address (λ env labels valued tail d b next P k. selects ts address env labels valued tail d b next P k) B env labels t b i next P go k) env labels valued tail d b next P k fine
    selects ts (Store place chunk address e) env labels valued tail d b next P k fine = selected_store c m turns ts place chunk address e
        (λ B env labels t b i next P go k. selects_address ts address (λ env labels valued tail d b next P k. selects ts address env labels valued tail d b next P k) B env labels t b i next P go k) (λ env labels valued tail d b next P k. selects ts e env labels valued tail d b next P k) env labels valued tail d b next P k fine
    selects ts (Checkbound place bound index) env labels valued tail d b next P k fine = selected_checkbound c m turns ts still place bound index (λ env labels valued tail d b next P k. selects ts bound env labels valued tail d b next P k) (λ env labels valued tail d b next P k. selects ts index env labels valued tail d b next P k) env labels valued tail d b next P k fine
    selects ts (Raise place e) env labels valued tail d b next P k fine = selected_raise c m turns ts place e (λ env labels valued tail d b next P k. selects ts e env labels valued tail d b next P k) env labels valued tail d b next P k fine
    selects ts (Switch place size_at size selector cases) env labels valued tail d b next P k fine =
        selected_switch c m turns ts labelled place size_at size selector cases env labels valued tail d b next P k (λ env labels valued tail d b next P k. selects ts selector env labels valued tail d b next P k)
        (λ labelled env labels valued tail d next P kk places end l i. selects_cases ts cases labelled env labels valued tail d next P kk places end l i) fine
    selects ts (Try place body name_at name handler) env labels valued tail d b next P k fine =
        selected_try c m turns ts low labelled place body name_at name handler env labels valued tail d b next P k (λ env labels valued tail d i next P k. selects (suc b ∷ ts) body env labels valued tail d i next P k) (λ env labels valued tail d b next P k. selects ts handler env labels valued tail d b next P k) fine

    selects_address : (ts : List ℕ) (e : Expression) → Selected c m turns ts e → SelectedAddress c m turns ts e
    selects_address ts (Operator place op base (Integer place' w)) se B env labels t b i next P go k =
        sum_address c m turns ts place op base place' w (λ env labels valued tail d b next P k. selects ts base env labels valued tail d b next P k) se B env labels t b i next P go k
    selects_address ts e se B env labels t b i next P go k = whole_address c m turns ts e se B env labels t b i next P go k

    selects_test : (ts : List ℕ) (e : Expression) → Selected c m turns ts e → SelectedTest c m turns ts e
    selects_test ts (Operator place op left right) so env labels l t b d i next P k go =
        operator_test c m turns ts place op left right (λ env labels valued tail d b next P k. selects ts left env labels valued tail d b next P k) (λ env labels valued tail d b next P k. selects ts right env labels valued tail d b next P k)
        so env labels l t b d i next P k go
    selects_test ts e so env labels l t b d i next P k go = value_test c m turns ts e so env labels l t b d i next P k go

    selects_cases : (ts : List ℕ) (cs : Cases) → SelectedCases c m turns ts cs
    selects_cases ts NoCase labelled env labels valued tail d next P kk places end l i = cases_none c m turns ts labelled env labels valued tail d next P kk places end l i
    selects_cases ts (Choose indexes body rest) labelled env labels valued tail d next P kk places end l i =
        cases_more c m turns ts indexes body rest (λ env labels valued tail d b next P k. selects ts body env labels valued tail d b next P k) (λ labelled env labels valued tail d next P kk places end l i. selects_cases ts rest labelled env labels valued tail d next P kk places end l i)
        labelled env labels valued tail d next P kk places end l i

    selects_waiting : (ts : List ℕ) (es : Expressions) → SelectedWaiting c m turns ts es
    selects_waiting ts NoMore env labels b i next P k = waiting_none c m turns ts env labels b i next P k
    selects_waiting ts (More e rest) env labels b i next P k =
        waiting_more c m turns ts e rest env labels b i next P k (λ env labels valued tail d b next P k. selects ts e env labels valued tail d b next P k) (λ env labels b i next P k. selects_waiting ts rest env labels b i next P k)

    selects_filled : (ts : List ℕ) (es : Expressions) → SelectedFilled c m turns ts es
    selects_filled ts NoMore env labels b i next P k before = filled_none c m turns ts env labels b i next P k before
    selects_filled ts (More e rest) env labels b i next P k before =
        filled_more c m turns ts e rest env labels b i next P k (λ env labels valued tail d b next P k. selects ts e env labels valued tail d b next P k)
        (λ env labels b i next P k before. selects_filled ts rest env labels b i next P k before) before

    selects_seq : (ts : List ℕ) (es : Expressions) → SelectedSeq c m turns ts es
    selects_seq ts NoMore env labels valued tail d b next P k = selected_no_more c m turns ts env labels valued tail d b next P k
    selects_seq ts (More e NoMore) env labels valued tail d b next P k = selected_last c m turns ts e (λ env labels valued tail d b next P k. selects ts e env labels valued tail d b next P k) env labels valued tail d b next P k
    selects_seq ts (More e (More g rest)) env labels valued tail d b next P k =
        selected_more c m turns ts e g rest (λ env labels valued tail d b next P k. selects ts e env labels valued tail d b next P k)
        (λ env labels valued tail d b next P k. selects_seq ts (More g rest) env labels valued tail d b next P k) env labels valued tail d b next P k

    selects_let : (ts : List ℕ) (bindings : Bindings) (body : Expression) → Selected c m turns ts body → SelectedLet c m turns ts bindings body
    selects_let ts NoBinding body sb o env labels valued tail d b base next P k level tries = selected_body c m turns ts body sb o env labels valued tail d b base next P k level tries
    selects_let ts (Bind place x declared e rest) body sb o env labels valued tail d b base next P k level tries =
        selected_bind c m turns ts place x declared e rest body o env labels valued tail d b base next P k level tries (λ env labels valued tail d b next P k. selects ts e env labels valued tail d b next P k)
        (λ o env labels valued tail d b base next P k level tries. selects_let ts rest body sb o env labels valued tail d b base next P k level tries)

    selects_handlers : (ts : List ℕ) (hs : Handlers) → SelectedHandlers c m turns ts hs
    selects_handlers ts NoHandler l env labels own valued tail d b next P k level tries end n i = handlers_none c m turns ts l env labels own valued tail d b next P k level tries end n i
    selects_handlers ts (Handle place label params body rest) l env labels own valued tail d b next P k level tries end n i =
        handlers_more c m turns ts place label params body rest l env labels own valued tail d b next P k level tries end n i (λ env labels valued tail d b next P k. selects ts body env labels valued tail d b next P k)
        (λ l env labels own valued tail d b next P k level tries end n i. selects_handlers ts rest l env labels own valued tail d b next P k level tries end n i)

-- ---- a function

all_fit_if : {end : ℕ} {p : Parameter} {params : List Parameter} {v : Value} {vs : List Value} (b : Bool) → fits end (type_of_comp p.comp) v ≡ b →
    (fit_parameters end (map (λ (p : Parameter). p.comp) params) vs ≡ true → AllFit end params vs) → b && fit_parameters end (map (λ (p : Parameter). p.comp) params) vs ≡ true → AllFit end (p ∷ params) (v ∷ vs)
all_fit_if true q more e = all_one q (more e)
all_fit_if false q more e = absurd (true≢false (sym e))

pub all_fit : {end : ℕ} (params : List Parameter) (vs : List Value) → fit_parameters end (map (λ (p : Parameter). p.comp) params) vs ≡ true → AllFit end params vs
all_fit [] [] e = all_none
all_fit [] (v ∷ vs) e = absurd (true≢false (sym e))
all_fit (p ∷ params) [] e = absurd (true≢false (sym e))
all_fit {end} (p ∷ params) (v ∷ vs) e = all_fit_if (fits end (type_of_comp p.comp) v) refl (λ q. all_fit params vs q) e

low_from : (n : ℕ) (cs : List ℕ) → n + length cs ≤ 21 → Low (colour_regs n cs)
low_from n [] le = none
low_from n (colour ∷ rest) le = one (omega (arith, le)) (low_from (suc n) rest (omega (arith, le)))

pub low_colours : Low (colour_regs 0 colour_numbers)
low_colours = low_from 0 colour_numbers (le_refl 21)

module _ (c : ActivationSetting) (f : FunctionTree) where
  abbrev m : Mach
  m = selected f

  abbrev T : Ty
  T = body_type f

  abbrev pub entry : ℕ
  entry = first_after_colours + length f.params

  abbrev params : List Reg
  params = params_from entry f.params

  abbrev env : List NamedRegister
  env = with_params f.params params []

  abbrev number : ℕ
  number = entry + length f.params

  abbrev return : Ty → List Instr
  return U = return_code (fresh_register number U) (suc number) (result_of U)

  abbrev body_code : List Instr
  body_code = select env [] (not (is_no_value T)) true (fresh_register number T) (suc (suc number)) f.body (return T)

  abbrev Anything : File → Type 0
  Anything g = ⊤

  module _ (turns : ℕ) where
    value_returns : (r : Reg) (v : Value) (h : Here) (g : File) (memory : Memory) → Holds r v g → FollowsText c m (Ends (Giving (Some v) h memory)) (Continues (at c m turns [] (emit.give_back (r ∷ []) ∷ []) g memory))
    value_returns r v h g memory holds =
        walks (subst (λ o. FollowsText c m (Ends (Giving (Some v) h memory)) (on_lossless_values c m (emit.give_back (r ∷ [])) [] g (calm c m turns [] memory) (with_held o (Some [])))) (sym holds.is) gives)

    -- a value goes to its seat first
    seat_returns : (r : Reg) (q : Comp) (v : Value) (h : Here) (g : File) (memory : Memory) → fits c.setting.end (type_of_comp q) v ≡ true → Holds r v g →
        FollowsText c m (Ends (Giving (Some v) h memory)) (Continues (at c m turns [] (return_code r (suc number) (ret.Comp q)) g memory))
    seat_returns r q v h g memory fv holds =
        let y = seat 0 (suc number) q in
        move_follows c m turns [] holds
        (subst (λ b. FollowsText c m (Ends (Giving (Some v) h memory)) (wrote (emit.give_back (y ∷ []) ∷ []) (calm c m turns [] memory) (put_if b y v (Some g)))) (sym fv)
        (value_returns y v h (assign_register y v g) memory (put_same y v g)))

    returns_follow : (U : Ty) (v : Option Value) (h : Here) (g : File) (memory : Memory) → Left c m turns [] (Some U) (fresh_register number U) g v → FollowsText c m (Ends (Giving v h memory)) (Continues (at c m turns [] (return U) g memory))
    returns_follow ty.NoValue None h g memory left = walks gives
    returns_follow ty.NoValue (Some v) h g memory (holding (fit x) holds) = absurd (true≢false (sym x))
    returns_follow ty.Never None h g memory (nothing (gone no')) = elim no' [ ]
    returns_follow ty.Int None h g memory (nothing (gone no')) = elim no' [ ]
    returns_follow ty.Val None h g memory (nothing (gone no')) = elim no' [ ]
    returns_follow ty.Addr None h g memory (nothing (gone no')) = elim no' [ ]
    returns_follow ty.Never (Some v) h g memory (holding (fit x) holds) = absurd (true≢false (sym x))
    returns_follow ty.Int (Some v) h g memory (holding (fit x) holds) = seat_returns (fresh_register number ty.Int) comp.Int v h g memory x holds
    returns_follow ty.Val (Some v) h g memory (holding (fit x) holds) = seat_returns (fresh_register number ty.Val) comp.Val v h g memory x holds
    returns_follow ty.Addr (Some v) h g memory (holding (fit x) holds) = seat_returns (fresh_register number ty.Addr) comp.Addr v h g memory x holds

    tails : (U : Ty) (v : Option Value) (h : Here) (memory : Memory) → Shape c m turns [] (Some U) v → FollowsText c m (Ends (Giving v h memory)) (Finishes (Gave (kept c m turns [] (not (is_no_value U)) v) memory))
    tails ty.NoValue None h memory shape = gives
    tails ty.NoValue (Some v) h memory (a_shape (fit x)) = absurd (true≢false (sym x))
    tails ty.Never v h memory shape = gives
    tails ty.Int v h memory shape = gives
    tails ty.Val v h memory shape = gives
    tails ty.Addr v h memory shape = gives

    ends_after : (U : Ty) → After c m turns [] (Some U) env [] (not (is_no_value U)) true (fresh_register number U) (return U) Anything Ends
    ends_after U =
        record {
          outs = record { exit = λ l values h f memory level r p. exits; raising = λ v fv h f memory level r p. raises };
          giving = λ v h g memory level s p left. returns_follow U v h g memory left;
          lost = λ v h g memory s x misfit'. absurd (own U v x misfit');
          untried = λ q. refl;
          tailing = λ e v shape h memory. tails U v h memory shape;
        }
      where
        own : (U : Ty) (v : Value) → Fit c m turns [] (Some U) v → fits c.setting.end (type_of_comp (comp_of_type U)) v ≡ false → ⊥
        own U v (fit x) misfit' = true≢false (sym (own_fits c m turns [] U v x) ∙ misfit')

    -- the arguments in their seats
    pub put_arguments : {ps : List Parameter} {vs : List Value} → AllFit c.setting.end ps vs → (i n j : ℕ) (g : File) →
        (g' : File) × (put_all c.setting.end (seats i n (params_from j ps)) vs g ≡ Some g') × PutAll c.setting.end (seats i n (params_from j ps)) vs g g'
    put_arguments all_none i n j g = (g, refl, nil)
    put_arguments (all_one {p = p} {v = v} e all) i n j g =
        let r = seat i n (comp_of_type (type_of_comp p.comp)) in
        let more = put_arguments all (suc i) (suc n) (suc j) g in
        let good : fits c.setting.end (type_of_comp r.comp) v ≡ true = own_fits c m turns [] (type_of_comp p.comp) v e in (
          assign_register r v more.0,
          ap (λ o. put_if (fits c.setting.end (type_of_comp r.comp) v) r v o) more.1 ∙ ap (λ b. put_if b r v (Some more.0)) good,
          cons good more.2,
        )

    abbrev begun_with : List Value → Here
    begun_with arguments = record { names = bound (map scoped_parameter f.params) arguments []; below = c.below; frame = c.frame; tries = 0 }

    pub function_follows : fits c.setting.end ty.Val bound_error ≡ true → width f.body < 2 ^ 60 → (arguments : List Value) (memory : Memory) (g : File) → AllFit c.setting.end f.params arguments →
        PutAll c.setting.end (seats 0 first_after_colours params) arguments (λ n. None) g →
        FollowsText c m (does (text_setting c) turns f.body true (begun_with arguments) memory Ends) (Continues (at c m turns [] m.code g memory))
    function_follows still fine arguments memory g all assign_register =
        let labelled = selected_labelled f in
        let long = seats_length 0 first_after_colours params in
        let same = params_length entry f.params in
        let from : Between first_after_colours entry (seats 0 first_after_colours params) = between_rising entry (rising_seats 0 first_after_colours params) (omega (arith, long, same)) in
        let to : Between entry number params = between_params entry number f.params (le_refl number) in
        let moved = put_params c m turns [] all entry g in
        let whole = moves_end in
        moves_follow c m turns [] (seats 0 first_after_colours params) params body_code arguments (row_put_all (rising_seats 0 first_after_colours params) assign_register) (off_before from to (le_refl entry)) moved.2
        (selects c m turns low_colours labelled still [] f.body env [] (not (is_no_value T)) true (fresh_register number T) (suc (suc number)) (return T) Anything Ends fine
        (record { under = under_with entry (suc (suc number)) f.params (omega arith) (omega arith) none; lower = no_label; off = λ q. off q; below = omega arith; first = omega arith })
        (record { puts = λ r v f may p. tt; calls = λ f g w p. tt }) (record { ending = whole.ending; caught = body_tries })
        (subst (λ V. After c m turns [] (Some V) env [] (not (is_no_value T)) true (fresh_register number T) (return T) Anything Ends) same_type (ends_after T))
        (begun_with arguments) moved.0 memory (record { below = refl; frame = refl; tries = refl })
        (stands_params entry f.params arguments (row_put_all (rising_params entry f.params) moved.2) none) tt)
      where
        same_type : T ≡ type_of (scopes env) f.body
        same_type = ap (λ sc. type_of sc f.body) (sym (scopes_params entry f.params []))

        moves_end : Within body_code m.code
        moves_end = ending_moves (seats 0 first_after_colours params) params body_code

        return_tries : (d : Reg) (n : ℕ) (r : Ret) → tries_at (return_code d n r) ≡ []
        return_tries d n ret.Unit = refl
        return_tries d n (ret.Comp q) = refl

        body_in : Within (return T) body_code
        body_in = ending_select env [] (not (is_no_value T)) true (fresh_register number T) (suc (suc number)) f.body (return T)

        body_tries : tries_at body_code ≡ []
        body_tries = let e = body_in.tries in e ∙ return_tries (fresh_register number T) (suc number) (result_of T)

        off : IsNamed number env → ⊥
        off q = let small = named_under (under_with entry number f.params (omega arith) (le_refl number) none) q in omega (arith, small)
