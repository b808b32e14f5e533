-- The state in which a run begins stands for the entry of its function.
use Rattle.std.proofs.Common.{◌≡◌, ℕ, zero, suc, ◌+◌, ◌-◌, ◌<◌, ◌≤◌, false, List, [], ◌∷◌, ◌++◌, length, map, Some, slice_get, slice_index, refl, ap, arith, ◌∙◌, sym, subst, get_or-append-add}
use Rattle.std.specs.List.{AllByRecursion}
use Rattle.bs_words.specs.Memory.{StaticList}
use Rattle.bs_words.specs.declared.values.Value.{Value}
use Rattle.bs_words.specs.declared.values.Value.TheVariants.{Word}
use Rattle.image_form.specs.Tables.{Tables, Func}
use Rattle.rv_machine.specs.Loading.{IsRoom}
use Rattle.rv_machine.specs.Memory.{code_start}
use Rattle.rv_machine.specs.Observation.{young_top}
use Rattle.rv_machine.specs.Places.{domain_start, stack_bottom}
use Rattle.rv_machine.specs.Relocation.{root_addresses}
use Rattle.rv_machine.specs.Run.{Schedule}
use Rattle.rv_machine.specs.Sound.{AllWords, IsSound}
use Rattle.rv_machine.specs.Start.{padded, start, start_memory, start_registers}
use Rattle.machine_laws.proofs.Starting.{start_sound, length-padded}
use Rattle.moving_laws.specs.Stands.{StaticsStand}
use Rattle.moving_laws.specs.Values.{HasFunctions, IsKnown, value_word}
use Rattle.moving_laws.proofs.Bottom.{bottom_start}
use Rattle.lin_machine.specs.Contents.{statics_of}
use Rattle.lin_machine.specs.Moments.{AtEntry}
use Rattle.lin_machine.specs.Relation.{Below, nothing_below}
use Rattle.lin_machine.specs.Statics.{StaticsLie}
use Rattle.lin_machine.specs.View.{Fixed, View}

-- ---- the argument registers

abbrev first_ten : List ℕ
first_ten = 0 ∷ code_start ∷ stack_bottom ∷ 0 ∷ 0 ∷ 0 ∷ 0 ∷ 0 ∷ 0 ∷ stack_bottom ∷ []

abbrev last_six : List ℕ
last_six = young_top ∷ domain_start ∷ 0 ∷ 0 ∷ 0 ∷ 0 ∷ []

behind_ten : (args : List ℕ) (k : ℕ) → slice_index (start_registers args) (10 + k) ≡ slice_index (padded 16 args ++ last_six) k
behind_ten args k = get_or-append-add first_ten (padded 16 args ++ last_six) k 0

behind_arguments : (n : ℕ) (args rest : List ℕ) (k : ℕ) → slice_index (padded n args ++ rest) (n + k) ≡ slice_index rest k
behind_arguments n args rest k = let h = length-padded n args in ap (λ z. slice_index (padded n args ++ rest) (z + k)) (sym h)
    ∙ get_or-append-add (padded n args) rest k 0

-- each argument is a word of its place
argument_at : (args rest : List ℕ) (n k : ℕ) (x : Value) → length args ≤ n → slice_get (map Word args) k ≡ Some x → (k < length args)
    × (x ≡ Word (slice_index (padded n args ++ rest) k))
argument_at [] rest n k x l e = absurd (cc)
argument_at (a ∷ args) rest zero k x l e = absurd (omega (arith, l))
argument_at (a ∷ args) rest (suc n) zero x l e = (omega arith, let h : Word a ≡ x = cc in sym h)
argument_at (a ∷ args) rest (suc n) (suc k) x l e = let r = argument_at args rest n k x (omega (arith, l)) e in let r0 = r.0 in (omega (arith, r0), r.1)

-- ---- the start

module _ (image : Tables) (functions : HasFunctions image) (bytes : AllByRecursion (λ b. b < 256) image.bytes) (schedule : Schedule) (func : Func)
    (args : List ℕ)
    (words : AllWords args) (few : length args ≤ 16) (stack heap : ℕ) (stack_room : IsRoom stack) (heap_room : IsRoom heap) (place : ℕ) (answers : List ℕ) where
  sound : IsSound (start image func args stack heap)
  sound = start_sound image func args stack heap functions.tables bytes words stack_room heap_room

  abbrev pub start_fixed : Fixed
  start_fixed = record {
    image = image;
    schedule = schedule;
    result = func.result;
    base = stack_bottom - stack;
    heap = heap;
    functions = functions;
    stack = (start_sound image func args stack heap functions.tables bytes words stack_room heap_room).stack;
    room = heap_room;
  }

  abbrev pub start_view : View
  start_view = record { place = place; registers = start_registers args; memory = start_memory image stack heap; blocks = []; answers = answers; calls = []; asked = false }

  at_26 : slice_index (start_registers args) 26 ≡ young_top
  at_26 = behind_ten args 16 ∙ behind_arguments 16 args last_six 0

  at_27 : slice_index (start_registers args) 27 ≡ domain_start
  at_27 = behind_ten args 17 ∙ behind_arguments 16 args last_six 1

  pub at_start : (lists : List StaticList) (roots : List ℕ) → StaticsStand image [] (start_memory image stack heap) (root_addresses image)
      (statics_of (record { blocks = []; statics = lists; roots = roots })) → StaticsLie image (record { blocks = []; statics = lists; roots = roots }) →
      AtEntry start_fixed start_view [] place (map Word args) (record { blocks = []; statics = lists; roots = roots }) nothing_below
  at_start lists roots statics lie =
      let e = at_26 in
      record {
        place = refl;
        own = record { are = sound.registers; from_even = omega (arith, e); from_low = omega (arith, e); rises = omega (arith, e); domain = at_27 };
        usable = record { regions = sound.memory; heap = sound.heap; apart = refl };
        top = refl;
        back = refl;
        arguments_in = λ k x h.
            let a = argument_at args last_six 16 k x few h in
            let a0 = a.0 in (
              omega (arith, a0, few),
              record {
                is = behind_ten args k ∙ word_is k x a.1;
                known = known_is k x a.1;
              },
            );
        waits = record {
          low = omega arith;
          high = omega arith;
          even = refl;
          back = record { low = omega arith; high = omega arith; even = refl };
          backs = tt;
          chain = refl;
          waits = tt;
          bottom = bottom_start image stack heap functions.tables stack_room heap_room;
        };
        traps = refl;
        heap = record {
          old = record { inside = tt; apart = tt };
          readable = record { each = λ k x l. absurd (omega (arith, l)) };
          stand = record {
            count = refl;
            sizes = λ k l. absurd (omega (arith, l));
            header = λ k w l. absurd (omega (arith, l));
            cell = λ k j v l. absurd (omega (arith, l));
            known = λ k j v l. absurd (omega (arith, l));
          };
          heads = λ k b h. absurd (cc);
          fits = λ k j b v h. absurd (cc);
          statics = statics;
          lie = lie;
        };
      }
    where
      word_is : (k : ℕ) (x : Value) → x ≡ Word (slice_index (padded 16 args ++ last_six) k) → slice_index (padded 16 args ++ last_six) k ≡ value_word image [] x
      word_is k x e = subst (λ z. slice_index (padded 16 args ++ last_six) k ≡ value_word image [] z) (sym e) refl

      known_is : (k : ℕ) (x : Value) → x ≡ Word (slice_index (padded 16 args ++ last_six) k) → IsKnown image 0 x
      known_is k x e = subst (λ z. IsKnown image 0 z) (sym e) tt
