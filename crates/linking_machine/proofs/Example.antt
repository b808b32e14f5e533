-- A file of functions that each make 42 and return it, in two lines of Linear: what is asked of it holds.
use Rattle.std.proofs.Common.{◌≡◌, ℕ, zero, suc, ◌+◌, ◌-◌, ◌*◌, ◌/◌, ◌≤◌, inl, ⊎_elim, Bool, true, false, List, [], ◌∷◌, Option, Some, None, length, slice_index, refl, sym, ap, subst, ◌∙◌, arith}
use Rattle.std.specs.Prelude.{slice_get}
use Rattle.bs_words.specs.Fits.{fits}
use Rattle.bs_words.specs.declared.types.Ty.TheVariants as ty
use Rattle.bs_words.specs.Memory.{Memory}
use Rattle.bs_words.specs.Word.{add_word}
use Rattle.bs_words.specs.declared.types.Comp.TheVariants as comp
use Rattle.bs_words.specs.declared.types.Loc.TheVariants as loc
use Rattle.bs_words.specs.declared.types.Ret.TheVariants as ret
use Rattle.bs_words.specs.declared.values.Value.{Value}
use Rattle.bs_words.specs.declared.values.Value.TheVariants.{Word}
use Rattle.cmm_data.specs.Placement.{data_end}
use Rattle.cmm_tree.specs.Tree.{FunctionTree, FileTree, Integer, functions, comps_of}
use Rattle.cmm_meaning.specs.Evaluation.{fit_parameters}
use Rattle.cmm_meaning.specs.Layout.{Layout}
use Rattle.cmm_meaning.specs.State.{Doing, Gave}
use Rattle.mach_ir.specs.Runs.{ActivationSetting, Step, Continues, Finishes, IsStuck, entry_around}
use Rattle.mach_ir.specs.declared.op.Leaving.TheVariants as leaving
use Rattle.mach_ir.specs.declared.op.Op.TheVariants as op
use Rattle.mach_ir.specs.declared.op.Pure.TheVariants as pure
use Rattle.lin_ir.specs.Meaning.{Locations, State, assign_spot, clear_destroyed, destroyed_by, with_held, as_type, on_values, linear_start, step}
use Rattle.lin_ir.specs.declared.lin.LinOp.TheVariants as lin
use Rattle.lin_ir.specs.declared.lin.Lin.{Lin}
use Rattle.lin_ir.specs.declared.lin.Line.{Line}
use Rattle.lin_ir.specs.declared.lin.Spot.{Spot}
use Rattle.correctness.specs.Setting.{layout_of}
use Rattle.image_form.specs.Tables.{Tables}
use Rattle.moving_laws.specs.Values.{HasFunctions}
use Rattle.rv_isa.specs.declared.instr.AluImmOp.TheVariants.{Addi}
use Rattle.rv_isa.specs.declared.instr.Instr.TheVariants.{Jalr, OpImm}
use Rattle.rv_machine.specs.Arithmetic.{imm_i}
use Rattle.rv_machine.specs.Loading.{IsRoom}
use Rattle.rv_machine.specs.Memory.{code_start}
use Rattle.rv_machine.specs.Places.{stack_bottom}
use Rattle.rv_machine.specs.Sound.{IsStackBase}
use Rattle.lin_machine.specs.Arrival.{ArrivesIn}
use Rattle.lin_machine.specs.Follows.{IsAt, IsEntered, used, needs_of, FollowsStep}
use Rattle.lin_machine.specs.Relation.{Below, Laid}
use Rattle.lin_machine.specs.View.{Fixed, View, IsInstructionAt, HasCode}
use Rattle.lin_machine.proofs.Arriving.{leads_in}
use Rattle.lin_machine.proofs.Endings.{return_value}
use Rattle.lin_machine.proofs.Formats.{sets_imm, sets_jalr}
use Rattle.machine_laws.proofs.Immediates.{low_12, up}
use Rattle.lin_machine.proofs.Jumps.{back_place}
use Rattle.lin_machine.proofs.Operating.{dropped, target_put, target_register}
use Rattle.lin_machine.proofs.Parts.{keep_register}
use Rattle.lin_machine.proofs.Pure.{constant_follows}
use Rattle.lin_machine.proofs.Sequences.{set_changes, sets_as}
use Rattle.lin_machine.proofs.Standing.{a0_location}
use Rattle.lin_machine.proofs.Steps.{at_place, set_to_step, stays}
use Rattle.lin_machine.proofs.Turning.{begins, leaves}
use Rattle.linking.specs.Assembled.{Setup}
use Rattle.linking_machine.specs.Emitted.{FollowsLine}
use Rattle.linking_machine.specs.Standing.{fixed_of}
use Rattle.linking.specs.Keeps.{gives, out_of_units, Runs, ProgramKeeps, alone_in}
use Rattle.linking.specs.Pace.{Words, StepLeadsTo, continues, pays, deepens, behind, IsReached, at_start, by_step, StepForward, ProgramGoesForward}
use Rattle.linking.specs.Program.{Program, activation_in}
use Rattle.linking_stages.specs.Stages.{linear_program}

-- the text, and the code
abbrev pub tree : List ℕ → FunctionTree
tree name = record { at = 0; name_at = 0; name = name; params = []; body = Integer 0 42; tokens = 1 }

abbrev pub a0_int : Spot
a0_int = record { loc = loc.Machine 10; comp = comp.Int }

abbrev pub makes : Line
makes = record { op = lin.Op (op.Pure (pure.Constant 42)); args = []; results = a0_int ∷ [] }

abbrev pub returns : Line
returns = record { op = lin.Op (op.Leaving leaving.Return); args = a0_int ∷ []; results = [] }

abbrev pub code : Lin
code = record { name = []; params = []; result = ret.Comp comp.Int; slots = 0; code = makes ∷ returns ∷ [] }

abbrev pub program : Program State
program = linear_program (λ f. code) (λ f n. [])

-- the two states that a run comes to
pub data Seen : State → Type 0 where
  first : {file : Locations} {memory : Memory} → Seen (record { rest = makes ∷ returns ∷ []; file = file; around = entry_around memory })
  second : {file : Locations} {memory : Memory} → Seen (record { rest = returns ∷ []; file = file; around = entry_around memory })

-- each makes one word, the second is also the last
abbrev pub words_left : List Line → ℕ
words_left rest = length rest

abbrev pub paced : Words State
paced = record { cost = λ f s. 1; entry = λ f. 0; ahead = λ f s. words_left s.rest; owed = λ f s. 0 }

begins_seen : (c : ActivationSetting) (arguments : List Value) (memory : Memory) (s : State) → linear_start c code arguments memory ≡ Some s → Seen s
begins_seen c [] memory s e =
    let same : record { rest = makes ∷ returns ∷ []; file = λ l. None; around = entry_around memory } ≡ s = cc in
    subst Seen same first
begins_seen c (v ∷ arguments) memory s e = absurd (let no' : None ≡ Some s = e in cc)

only_continues : (x u : State) → StepLeadsTo State u (Continues x) → x ≡ u
only_continues x u continues = refl

leads_nowhere : (u : State) (x : Step State) → StepLeadsTo State u x → x ≡ IsStuck → ⊥
leads_nowhere u _ continues e = cc
leads_nowhere u _ pays e = cc
leads_nowhere u _ deepens e = cc
leads_nowhere u _ (behind d l) e = cc

leads_out : (u : State) (x : Step State) (d : Doing) → StepLeadsTo State u x → x ≡ Finishes d → ⊥
leads_out u _ d continues e = cc
leads_out u _ d pays e = cc
leads_out u _ d deepens e = cc
leads_out u _ d (behind x l) e = cc

-- what the second line does
pub data Returns (x : Step State) (memory : Memory) : Type 0 where
  stuck : x ≡ IsStuck → Returns x memory
  out : (v : Value) → x ≡ Finishes (Gave (Some v) memory) → Returns x memory

second_step : (c : ActivationSetting) (file : Locations) (memory : Memory) → Returns
    (step c (λ n. []) code (record { rest = returns ∷ []; file = file; around = entry_around memory })) memory
second_step c file memory = by (file (loc.Machine 10)) refl
  where
    by : (o : Option Value) → file (loc.Machine 10) ≡ o → Returns (step c (λ n. []) code
        (record { rest = returns ∷ []; file = file; around = entry_around memory })) memory
    by None e = stuck (ap (λ (o : Option Value). on_values c [] code returns [] file (entry_around memory) (with_held c.setting.end comp.Int o (Some []))) e)
    by (Some v) e = test (fits c.setting.end ty.Int v) refl
      where
        test : (b : Bool) → fits c.setting.end ty.Int v ≡ b → Returns (step c (λ n. []) code
            (record { rest = returns ∷ []; file = file; around = entry_around memory })) memory
        test true fit =
            out v (ap (λ (o : Option Value). on_values c [] code returns [] file (entry_around memory) (with_held c.setting.end comp.Int o (Some []))) e
            ∙ ap (λ b. on_values c [] code returns [] file (entry_around memory) (as_type b v (Some []))) fit)
        test false fit =
            stuck (ap (λ (o : Option Value). on_values c [] code returns [] file (entry_around memory) (with_held c.setting.end comp.Int o (Some []))) e
            ∙ ap (λ b. on_values c [] code returns [] file (entry_around memory) (as_type b v (Some []))) fit)

leads_seen : (c : ActivationSetting) {s u : State} → Seen s → StepLeadsTo State u (step c (λ n. []) code s) → Seen u
leads_seen c {u = u} (first {file = file} {memory = memory}) l =
    subst Seen (only_continues (record {
      rest = returns ∷ [];
      file = assign_spot a0_int (Word 42) (clear_destroyed (destroyed_by makes.op) file);
      around = entry_around memory;
    }) u l) second
leads_seen c {u = u} (second {file = file} {memory = memory}) l = by (second_step c file memory)
  where
    by : Returns (step c (λ n. []) code (record { rest = returns ∷ []; file = file; around = entry_around memory })) memory → Seen u
    by (stuck e) = absurd (leads_nowhere u _ l e)
    by (out v e) = absurd (leads_out u _ (Gave (Some v) memory) l e)

pub reached_seen : {f : ℕ} {c : ActivationSetting} {s : State} → IsReached State program f c s → Seen s
reached_seen {f} {c} (at_start {arguments = arguments} {memory = memory} {s = s} e) = begins_seen c arguments memory s e
reached_seen {f} {c} (by_step r l) = leads_seen c (reached_seen r) l

-- ---- it goes forward

second_forward : (left : ℕ) (x : Step State) (memory : Memory) → Returns x memory → StepForward State 2 (λ s. words_left s.rest) left x
second_forward left x memory (stuck e) = subst (StepForward State 2 (λ s. words_left s.rest) left) (sym e) tt
second_forward left x memory (out v e) = subst (StepForward State 2 (λ s. words_left s.rest) left) (sym e) tt

seen_cost : {s : State} → Seen s → 1 ≤ words_left s.rest
seen_cost first = omega arith
seen_cost second = omega arith

seen_forward : (c : ActivationSetting) {s : State} → Seen s → StepForward State 2 (λ s. words_left s.rest) (words_left s.rest - 1) (step c (λ n. []) code s)
seen_forward c first = omega arith
seen_forward c (second {file = file} {memory = memory}) = second_forward _ _ memory (second_step c file memory)

start_words : {s : State} → Seen s → words_left s.rest ≤ 2
start_words first = omega arith
start_words second = omega arith

pub forward : ProgramGoesForward State program paced 2
forward =
    record {
      enter = λ f c arguments memory s e. let h = start_words (begins_seen c arguments memory s e) in omega (arith, h);
      cost = λ f c s r. seen_cost (reached_seen r);
      owed = λ f s. omega arith;
      on = λ f c s r. seen_forward c (reached_seen r);
    }

-- ---- it does what the text does

no_arguments : (end : ℕ) (arguments : List Value) → fit_parameters end [] arguments ≡ true → arguments ≡ []
no_arguments end [] e = refl
no_arguments end (v ∷ arguments) e = absurd (cc)

module _ (file : FileTree) (layout : Layout) (all : (f : ℕ) (t : FunctionTree) → slice_get (functions file) f ≡ Some t → (name : List ℕ) × (t ≡ tree name))
    (IsGiven : List Value → Memory → Type 0) (IsDone : Doing → Type 0) where
  alone_runs : (f : ℕ) (name : List ℕ) (below : ℕ) (memory : Memory) (doings : List Doing) (n : ℕ) →
      Runs State program 1 f (activation_in file layout f below) [] memory doings n (alone_in file (activation_in file layout f below) (tree name) [] memory doings n)
  alone_runs f name below memory doings zero =
      record {
        begun = record { rest = makes ∷ returns ∷ []; file = λ l. None; around = entry_around memory };
        begins = refl;
        steps = 0;
        same = record { calls = refl; no_more = omega arith; enough = omega arith; stack = omega arith; end = out_of_units (omega arith) };
      }
  alone_runs f name below memory doings (suc n) =
      record {
        begun = record { rest = makes ∷ returns ∷ []; file = λ l. None; around = entry_around memory };
        begins = refl;
        steps = 2;
        same = record { calls = refl; no_more = omega arith; enough = omega arith; stack = omega arith; end = gives refl };
      }

  pub keeps : ProgramKeeps State program file layout 1 IsGiven IsDone
  keeps =
      record {
        runs = λ f t is arguments fit below memory doings n given done proper handed.
            let here = all f t is in
            let same : t ≡ tree here.0 = here.1 in
            let none : arguments ≡ [] = no_arguments (data_end file) arguments
            (subst (λ (z : FunctionTree). fit_parameters (data_end file) (comps_of z) arguments ≡ true) same fit) in
            subst (λ (z : FunctionTree). Runs State program 1 f (activation_in file layout f below) arguments memory doings n
            (alone_in file (activation_in file layout f below) z arguments memory doings n)) (sym same)
            (subst (λ (vs : List Value). Runs State program 1 f (activation_in file layout f below) vs memory doings n
            (alone_in file (activation_in file layout f below) (tree here.0) vs memory doings n)) (sym none)
            (alone_runs f here.0 below memory doings n));
      }

-- ---- the machine follows it

-- t0 is never read
abbrev pub live : ℕ → List Line → Type 0
live f rest = ⊥

module _ (image : Tables) (has : HasFunctions image) (bases : (stack : ℕ) → IsRoom stack → IsStackBase (stack_bottom - stack)) (file : FileTree) (at : ℕ → ℕ)
    (frames : (f : ℕ) → 0 ≡ slice_index (layout_of image).frames f)
    (there : (run : Setup) (f : ℕ) → HasCode (fixed_of image has bases run) (at f) (OpImm Addi 10 0 42 ∷ Jalr 0 1 0 ∷ [])) where
  abbrev pub laid : ℕ → Laid
  laid f = record {
    part = λ n. at f + (2 - n);
    frame = 0;
    saves = false;
    slots = 0;
    handler = λ l. 0;
    even = refl;
    room = omega arith;
  }

  module _ (run : Setup) (f below : ℕ) (c : Below) (v : View) where
    abbrev s : Fixed
    s = fixed_of image has bases run

    abbrev here : ActivationSetting
    here = activation_in file (layout_of image) f below

    abbrev Line_of : State → Step State → Type 0
    Line_of u x = FollowsLine 0 1 s (laid f) (live f) at c v (used (laid f) u) x

    first_line : (stored : Locations) (memory : Memory) → IsAt s (laid f) (live f) c
        (record { rest = makes ∷ returns ∷ []; file = stored; around = entry_around memory }) v →
        Line_of (record { rest = makes ∷ returns ∷ []; file = stored; around = entry_around memory })
        (step here (λ n. []) code (record { rest = makes ∷ returns ∷ []; file = stored; around = entry_around memory }))
    first_line stored memory is =
        let young = is.0 in
        let held = is.1 in
        let agrees = is.2 in
        let within = is.3.within in
        let p = is.3.place in
        let first : IsInstructionAt s (at f) (OpImm Addi 10 0 42) = (there run f).0 in
        let place : v.place ≡ at f = omega (arith, p) in
        let sum : add_word 0 (imm_i 42) ≡ 42 = ap (add_word 0) (low_12 42 (omega arith)) ∙ up 0 42 42 refl (omega arith) in
        record {
          words = 1;
          few = omega arith;
          so = record {
            follows =
                constant_follows s (laid f) (live f) at c here (λ n. []) code (returns ∷ []) v young held stored (entry_around memory) refl within ⊥ agrees
                a0_int (λ b. absurd b)
                10 (dropped 10 held) (target_register held 10 a0_location) (10 ∷ []) (λ q i. ⊎_elim (λ e. inl e) (λ x. absurd x) i) 42 1 0 (omega (arith, p))
                (λ z. keep_register s (laid f) young (entry_around memory) c (dropped 10 held) (assign_spot a0_int z held) (v.place + 1) 10 z refl a0_location
                (target_put a0_int 10 z held refl))
                (set_changes s v (OpImm Addi 10 0 42) 9 42 (subst (λ q. IsInstructionAt s q (OpImm Addi 10 0 42)) (sym place) first) (inl (λ q. omega (arith, q)))
                (sets_as s v (OpImm Addi 10 0 42) 10 _ 42 sum (sets_imm s v Addi 10 0 42)) within.own.are (omega arith) (omega arith));
            calls = tt;
          };
          takes = inl refl;
        }

    second_follows : (stored : Locations) (memory : Memory) → IsAt s (laid f) (live f) c
        (record { rest = returns ∷ []; file = stored; around = entry_around memory }) v →
        FollowsStep 1 s (laid f) (live f) at c v (step here (λ n. []) code (record { rest = returns ∷ []; file = stored; around = entry_around memory }))
    second_follows stored memory is =
        let young = is.0 in
        let held = is.1 in
        let agrees = is.2 in
        let within = is.3.within in
        let p = is.3.place in
        let second : IsInstructionAt s (at f + 1) (Jalr 0 1 0) = (there run f).1.0 in
        let place : v.place ≡ at f + 1 = omega (arith, p) in
        let back_is = within.waits.back in
        let bh = back_is.high in
        let to : ℕ = (c.back - 0x10000) / 4 in
        let back : slice_index v.registers 1 ≡ c.back = within.back in
        let target : add_word (slice_index v.registers 1) (imm_i 0) ≡ code_start + 4 * to =
        ap (add_word (slice_index v.registers 1)) (low_12 0 (omega arith)) ∙ up (slice_index v.registers 1) 0 c.back (omega (arith, back)) (omega (arith, bh))
        ∙ sym (back_place c.back back_is) in
        return_value s (laid f) (live f) at c here (λ n. []) code [] v young held stored (entry_around memory) ⊥ agrees a0_int 1 refl
        (λ x h whole. record {
          view = at_place to v;
          leads = set_to_step s v (Jalr 0 1 0) 0 (code_start + 4 * (v.place + 1)) to (subst (λ q. IsInstructionAt s q (Jalr 0 1 0)) (sym place) second)
              (inl (λ q. omega (arith, q))) (sets_jalr s v 0 1 0 to target);
          holds = leaves s (laid f) v (at_place to v) young held (entry_around memory) c within (record {
            are = within.own.are;
            others = λ q n. refl;
            memory = refl;
            blocks = refl;
          })
              (let z = within.frame in omega (arith, z)) refl refl whole (Some x)
              (λ y e. let same : x ≡ y = cc in subst (λ z. held (loc.Machine 10) ≡ Some z) same h) (back_place c.back back_is);
        })

    second_line : (u : State) (x : Step State) (memory : Memory) → Returns x memory → FollowsStep 1 s (laid f) (live f) at c v x → Line_of u x
    second_line u x memory (stuck e) follows =
        subst (λ (z : Step State). FollowsStep 1 s (laid f) (live f) at c v z → Line_of u z) (sym e)
        (λ g. record { words = 1; few = omega arith; so = record { follows = g; calls = tt }; takes = inl refl }) follows
    second_line u x memory (out w e) follows =
        subst (λ (z : Step State). FollowsStep 1 s (laid f) (live f) at c v z → Line_of u z) (sym e)
        (λ g. record { words = 1; few = omega arith; so = record { follows = g; calls = tt }; takes = inl refl }) follows

    -- the machine follows each line that a run comes to
    pub line : (u : State) → IsReached State program f here u → IsAt s (laid f) (live f) c u v → Line_of u (step here (λ n. []) code u)
    line u r is = by (reached_seen r) is
      where
        by : {z : State} → Seen z → IsAt s (laid f) (live f) c z v → Line_of z (step here (λ n. []) code z)
        by (first {file = stored} {memory = memory}) is = first_line stored memory is
        by (second {file = stored} {memory = memory}) is = second_line (record { rest = returns ∷ []; file = stored; around = entry_around memory }) _ memory (second_step here stored memory) (second_follows stored memory is)

    -- where it is entered it begins, in no instruction
    pub entered_there : (arguments : List Value) (memory : Memory) (u : State) → linear_start here code arguments memory ≡ Some u →
        IsEntered s at f arguments memory c v →
        ArrivesIn 0 0 s (needs_of (laid f) c u) v (IsAt s (laid f) (live f) c u)
    entered_there [] memory u e is =
        let same : record { rest = makes ∷ returns ∷ []; file = λ l. None; around = entry_around memory } ≡ u = cc in
        let entry = is.1 in
        let low = entry.waits.low in
        let top = entry.top in
        let place = entry.place in
        subst (λ (u : State). ArrivesIn 0 0 s (needs_of (laid f) c u) v (IsAt s (laid f) (live f) c u)) same
        (leads_in 0 0 s 0 (omega arith) (omega arith) v v _ (stays s v) (
          is.0,
          (λ l. None),
          record { others = λ l n. refl; spare_too = λ b. absurd b },
          record {
            place = omega (arith, place);
            within = begins s (laid f) v v is.0 (at f) [] memory c entry (omega (arith, low))
                (record { are = entry.own.are; others = λ q n. refl; memory = refl; blocks = refl })
                (omega (arith, top))
                (λ l. None) (record { register = λ r x h. absurd (cc); slot = λ k x h. absurd (cc) });
          },
        ))
    entered_there (a ∷ arguments) memory u e is = absurd (let no' : None ≡ Some u = e in cc)
