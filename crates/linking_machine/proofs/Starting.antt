-- Where a run begins its entry is about to begin, and below it there is only the stub.
use Rattle.std.proofs.Common.{◌≡◌, inl, ℕ, suc, ◌-◌, ◌/◌, ◌≤◌, true, false, List, [], ◌∷◌, Some, length, map, refl, ap, ◌∙◌, arith}
use Rattle.std.proofs.lemmas.Bool.{cond-false, and_parts}
use Rattle.bs_words.specs.Fits.{fits, type_of_comp}
use Rattle.bs_words.specs.declared.types.Comp.{Comp}
use Rattle.bs_words.specs.declared.values.Value.TheVariants.{Word}
use Rattle.cmm_data.specs.Contents.{first_memory}
use Rattle.cmm_data.specs.Placement.{data_end}
use Rattle.cmm_tree.specs.Tree.{FunctionTree, FileTree, comps_of}
use Rattle.cmm_meaning.specs.Evaluation.{fit_parameters}
use Rattle.correctness.specs.Setting.{Entered}
use Rattle.image_form.specs.Image.{AreTables}
use Rattle.image_form.specs.Tables.{Tables}
use Rattle.machine_laws.proofs.Starting.{start_sound}
use Rattle.moving_laws.specs.Values.{HasFunctions}
use Rattle.moving_laws.proofs.Bottom.{past_region}
use Rattle.rv_machine.specs.Loading.{IsRoom}
use Rattle.rv_machine.specs.Memory.{Region, is_inside, or_zero, read, memory_word}
use Rattle.rv_machine.specs.Observation.{young_start}
use Rattle.rv_machine.specs.Places.{domain_start, limit_at_rest, stack_bottom, filler, half_start}
use Rattle.rv_machine.specs.Run.{begun}
use Rattle.rv_machine.specs.Sound.{IsSound, IsStackBase}
use Rattle.rv_machine.specs.Start.{data_region, domain_region, stack_region, start, start_memory, start_registers, uniform}
use Rattle.lin_machine.specs.Relation.{nothing_below}
use Rattle.lin_machine.specs.Follows.{IsEntered}
use Rattle.lin_machine.specs.Moments.{AtEntry}
use Rattle.lin_machine.specs.View.{View}
use Rattle.lin_machine.proofs.Beginning.{at_start}
use Rattle.lin_machine.proofs.Likes.{like_refl}
use Rattle.linking.specs.Assembled.{Setup}
use Rattle.linking_machine.specs.Emitted.{AreEntries}
use Rattle.linking_machine.specs.Standing.{Shows, fixed_of}
use Rattle.linking_machine.proofs.Carrying.{words_all}

-- ---- the limit word at the start

in_domain : (rs : List Region) → read (domain_region ∷ rs) domain_start 8 ≡ Some limit_at_rest
unfolding domain_region
in_domain rs = refl

limit_start : (image : Tables) (stack heap : ℕ) → AreTables image → memory_word (start_memory image stack heap) domain_start ≡ limit_at_rest
unfolding memory_word data_region
limit_start image stack heap tables =
    let short = tables.bytes.short in
    ap or_zero
    (cond-false (is_inside (data_region image.bytes) domain_start 8) _ _ (past_region (data_region image.bytes) domain_start (omega (arith, short)))
    ∙ in_domain (uniform (half_start 0) (heap / 8) filler ∷ uniform (half_start 1) (heap / 8) filler ∷ uniform young_start 8192 filler ∷ stack_region
    stack ∷ []))

-- ---- the arguments

fit_length : (end : ℕ) (comps : List Comp) (args : List ℕ) → fit_parameters end comps (map Word args) ≡ true → length args ≡ length comps
fit_length end [] [] e = refl
fit_length end [] (a ∷ args) e = absurd (cc)
fit_length end (c ∷ comps) [] e = absurd (cc)
fit_length end (c ∷ comps) (a ∷ args) e = ap suc (fit_length end comps args (and_parts (fits end (type_of_comp c) (Word a)) _ e).1)

module _ (file : FileTree) (image : Tables) (has : HasFunctions image) (bases : (stack : ℕ) → IsRoom stack → IsStackBase (stack_bottom - stack))
    (entry : ℕ → ℕ)
    (entries : AreEntries file image entry) (run : Setup) (f : ℕ) (args answers : List ℕ) (tree : FunctionTree)
    (entered : Entered file image f tree run.row args answers) where
  few : length args ≤ 16
  few = let n = fit_length (data_end file) (comps_of tree) args entered.args_fit in let l = entries.few f tree entered.of_file in omega (arith, n, l)

  sound : IsSound (start image run.row args run.stack run.heap)
  sound = start_sound image run.row args run.stack run.heap has.tables entries.bytes (words_all args entered.args_are_words) run.stack_room run.heap_room

  abbrev view : View
  view = record {
    place = entry f;
    registers = start_registers args;
    memory = start_memory image run.stack run.heap;
    blocks = [];
    answers = answers;
    calls = [];
    asked = false;
  }

  is_entry : AtEntry (fixed_of image has bases run) view [] (entry f) (map Word args) (first_memory file) nothing_below
  is_entry =
      let e =
      at_start image has entries.bytes run.schedule run.row args (words_all args entered.args_are_words) few run.stack run.heap run.stack_room
      run.heap_room (entry f) answers
      (first_memory file).statics (first_memory file).roots (entries.statics run.stack run.heap run.stack_room run.heap_room) entries.lies in
      let wt = e.waits in
      let hp = e.heap in
      record {
        place = refl;
        own = e.own;
        usable = record { regions = e.usable.regions; heap = e.usable.heap; apart = e.usable.apart };
        top = e.top;
        back = e.back;
        arguments_in = λ k x h. let p = e.arguments_in k x h in (p.0, record { is = p.1.is; known = p.1.known });
        waits = record {
          low = wt.low;
          high = wt.high;
          even = wt.even;
          back = wt.back;
          backs = wt.backs;
          chain = wt.chain;
          waits = wt.waits;
          bottom = wt.bottom;
        };
        traps = e.traps;
        heap = record { old = hp.old; readable = hp.readable; stand = hp.stand; heads = hp.heads; fits = hp.fits; statics = hp.statics; lie = hp.lie };
      }

  -- where the run begins its entry is about to begin
  pub starts : Shows (fixed_of image has bases run) (record { made = []; answers = answers })
      (IsEntered (fixed_of image has bases run) entry f (map Word args) (first_memory file) nothing_below)
      (begun image run.row args answers run.stack run.heap)
  starts =
      let offset = entries.places f run.row entered.of_image in
      record {
        machine = record { hart = start image run.row args run.stack run.heap; result = run.row.result; answers = answers; calls = [] };
        is = refl;
        view = view;
        stands = record {
          image = refl;
          pc = omega (arith, offset);
          registers = refl;
          memory = like_refl (start_memory image run.stack run.heap) sound.memory.each;
          regions = sound.memory;
          limit = inl (limit_start image run.stack run.heap has.tables);
          stack_base = refl;
          heap = refl;
          blocks = refl;
          result = refl;
          answers = refl;
          calls = refl;
        };
        calls = refl;
        answers = refl;
        words = entered.answers_are_words;
        holds = ([], is_entry);
      }
