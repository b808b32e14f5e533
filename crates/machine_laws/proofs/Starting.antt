-- The state in which a run begins is sound.
use Rattle.std.proofs.Common.{◌≡◌, ℕ, zero, suc, ◌+◌, ◌-◌, ◌*◌, ◌/◌, ◌%◌, ◌^◌, ◌<◌, ◌≤◌, List, [], ◌∷◌, ◌++◌, length, map, replicate, refl, ap, ◌∙◌, arith, length-append}
use Rattle.std.specs.List.{AllByRecursion}
use Rattle.std.proofs.lemmas.List.{length-replicate}
use Rattle.image_form.specs.Image.{AreTables}
use Rattle.image_form.specs.Tables.{Tables, Func}
use Rattle.rv_machine.proofs.Bytes64.{words_cover}
use Rattle.rv_machine.specs.Loading.{IsRoom}
use Rattle.rv_machine.specs.Memory.{code_start, number_from_bytes, words_of_bytes}
use Rattle.rv_machine.specs.Observation.{young_start, young_top}
use Rattle.rv_machine.specs.Places.{stack_end, domain_start, filler, half_start, limit_at_rest, stack_bottom}
use Rattle.rv_machine.specs.Run.{Schedule, now_after, begun}
use Rattle.rv_machine.specs.Sound.{AllWords, AreRegisters, Extent, HasRegions, IsRegion, IsSound, IsSoundNow, extent, extents}
use Rattle.rv_machine.specs.Start.{data_region, domain_region, padded, stack_region, start, start_memory, start_registers, uniform}
use Rattle.bs_words.specs.Fits.{data_start}
use Rattle.machine_laws.proofs.Serving.{after_sound}
use Rattle.machine_laws.proofs.Words.{words_both, words_by_parts, words_first, words_none, words_repeated}

-- ---- registers

pub words_padded : (count : ℕ) (args : List ℕ) → AllWords args → AllWords (padded count args)
words_padded zero args all i = omega arith
words_padded (suc count) [] all zero = omega arith
words_padded (suc count) [] all (suc i) = words_padded count [] all i
words_padded (suc count) (a ∷ args) all zero = all zero
words_padded (suc count) (a ∷ args) all (suc i) = words_padded count args (λ k. all (suc k)) i

pub length-padded : (count : ℕ) (args : List ℕ) → length (padded count args) ≡ count
length-padded zero args = refl
length-padded (suc count) [] = ap suc (length-padded count [])
length-padded (suc count) (a ∷ args) = ap suc (length-padded count args)

-- the registers after the arguments
abbrev pub last_registers : List ℕ
last_registers = young_top ∷ domain_start ∷ 0 ∷ 0 ∷ 0 ∷ 0 ∷ []

words_last : AllWords last_registers
words_last = words_by_parts last_registers (omega arith, (omega arith, (omega arith, (omega arith, (omega arith, (omega arith, tt))))))

-- the registers before the arguments
abbrev first_registers : List ℕ
first_registers = 0 ∷ code_start ∷ stack_bottom ∷ 0 ∷ 0 ∷ 0 ∷ 0 ∷ 0 ∷ 0 ∷ stack_bottom ∷ []

words_front : AllWords first_registers
words_front = words_by_parts first_registers (omega arith, (omega arith, (omega arith, (omega arith, (omega arith, (omega arith, (omega arith, (omega arith, (omega arith, (omega arith, tt))))))))))

pub count_registers : (args : List ℕ) → length (start_registers args) ≡ 32
count_registers args = omega (arith, length-append (padded 16 args) last_registers, length-padded 16 args)

pub start_registers_are : (args : List ℕ) → AllWords args → AreRegisters (start_registers args)
start_registers_are args all = record {
  count = count_registers args;
  x0 = refl;
  words = words_both first_registers (padded 16 args ++ last_registers) words_front (words_both (padded 16 args) last_registers (words_padded 16 args all) words_last);
}

-- ---- memory

abbrev AreBytes : List ℕ → Type 0
AreBytes bytes = AllByRecursion (λ b. b < 256) bytes

-- the numbers of so many bytes are below this one
abbrev cap : ℕ → ℕ
cap zero = 1
cap (suc n) = 256 * cap n

cap_positive : (n : ℕ) → 0 < cap n
cap_positive zero = omega arith
cap_positive (suc n) = omega (arith, cap_positive n)

below_cap : (n : ℕ) (bytes : List ℕ) → AreBytes bytes → length bytes ≤ n → number_from_bytes bytes < cap n
below_cap n [] all few = cap_positive n
below_cap zero (b ∷ bytes) all few = absurd (omega arith)
below_cap (suc n) (b ∷ bytes) all few =
    let less : number_from_bytes bytes < cap n = below_cap n bytes all.1 (omega arith) in
    let first : b < 256 = all.0 in
    omega (arith, less, first)

number_below : (bytes : List ℕ) → AreBytes bytes → length bytes ≤ 8 → number_from_bytes bytes < 2 ^ 64
number_below bytes all few = below_cap 8 bytes all few

data_words : (n : ℕ) (bytes : List ℕ) → length bytes ≤ n → AreBytes bytes → AllWords (words_of_bytes bytes)
data_words n [] h all = words_none
data_words n (a ∷ []) h all = words_first _ [] (number_below (a ∷ []) all (omega arith)) words_none
data_words n (a ∷ b ∷ []) h all = words_first _ [] (number_below (a ∷ b ∷ []) all (omega arith)) words_none
data_words n (a ∷ b ∷ c ∷ []) h all = words_first _ [] (number_below (a ∷ b ∷ c ∷ []) all (omega arith)) words_none
data_words n (a ∷ b ∷ c ∷ d ∷ []) h all = words_first _ [] (number_below (a ∷ b ∷ c ∷ d ∷ []) all (omega arith)) words_none
data_words n (a ∷ b ∷ c ∷ d ∷ e ∷ []) h all = words_first _ [] (number_below (a ∷ b ∷ c ∷ d ∷ e ∷ []) all (omega arith)) words_none
data_words n (a ∷ b ∷ c ∷ d ∷ e ∷ f ∷ []) h all = words_first _ [] (number_below (a ∷ b ∷ c ∷ d ∷ e ∷ f ∷ []) all (omega arith)) words_none
data_words n (a ∷ b ∷ c ∷ d ∷ e ∷ f ∷ g ∷ []) h all =
    words_first _ [] (number_below (a ∷ b ∷ c ∷ d ∷ e ∷ f ∷ g ∷ []) all (omega arith)) words_none
data_words zero (a ∷ b ∷ c ∷ d ∷ e ∷ f ∷ g ∷ i ∷ rest) h all = absurd (omega arith)
data_words (suc n) (a ∷ b ∷ c ∷ d ∷ e ∷ f ∷ g ∷ i ∷ rest) h all =
    words_first _ (words_of_bytes rest)
    (number_below (a ∷ b ∷ c ∷ d ∷ e ∷ f ∷ g ∷ i ∷ []) (all.0, (all.1.0, (all.1.1.0, (all.1.1.1.0, (all.1.1.1.1.0, (all.1.1.1.1.1.0, (all.1.1.1.1.1.1.0, (all.1.1.1.1.1.1.1.0, tt)))))))) (omega arith))
    (data_words n rest (omega arith) all.1.1.1.1.1.1.1.1)

uniform_region : (first words word : ℕ) → first % 8 ≡ 0 → word < 2 ^ 64 → IsRegion (uniform first words word)
unfolding uniform
uniform_region first words word aligned small = record {
  aligned = aligned;
  covered = omega (arith, length-replicate words word);
  words = words_repeated words word small;
}

data_is : (bytes : List ℕ) → AreBytes bytes → IsRegion (data_region bytes)
unfolding data_region
data_is bytes all = record {
  aligned = refl;
  covered = words_cover (length bytes) bytes (omega arith);
  words = data_words (length bytes) bytes (omega arith) all;
}

domain_is : IsRegion domain_region
unfolding domain_region
domain_is = record {
  aligned = refl;
  covered = omega (arith, length-replicate {A = ℕ} 511 0);
  words = words_first limit_at_rest (replicate 511 0) (omega arith) (words_repeated 511 0 (omega arith));
}

stack_is : (stack : ℕ) → IsRoom stack → IsRegion (stack_region stack)
unfolding stack_region
stack_is stack room = record {
  aligned = let a = room.aligned in let m = room.most in omega (arith, a, m);
  covered =
      let a = room.aligned in
      omega (arith, a, length-append (replicate (stack / 8) 0) ((code_start + 8) ∷ 0 ∷ []), length-replicate {A = ℕ} (stack / 8) 0);
  words = words_both (replicate (stack / 8) 0) ((code_start + 8) ∷ 0 ∷ []) (words_repeated (stack / 8) 0 (omega arith))
      (words_by_parts ((code_start + 8) ∷ 0 ∷ []) (omega arith, (omega arith, tt)));
}

start_lies :
    (image : Tables) (stack heap : ℕ) → IsRoom stack → IsRoom heap →
    map extent (start_memory image stack heap) ≡ extents image heap (stack_bottom - stack)
unfolding uniform data_region domain_region stack_region
start_lies image stack heap s h =
    let sa = s.aligned in
    let sm = s.most in
    let ha = h.aligned in
    let half : 8 * (heap / 8) ≡ heap = omega (arith, ha) in
    let room : stack + 16 ≡ stack_end - (stack_bottom - stack) = omega (arith, sm) in
    ap (lying (stack + 16)) half ∙ ap (λ bytes. lying bytes heap) room
  where
    lying : ℕ → ℕ → List Extent
    lying bytes half =
        record { start = data_start; bytes = length image.bytes } ∷ record { start = domain_start; bytes = 4096 }
        ∷ record { start = half_start 0; bytes = half } ∷ record { start = half_start 1; bytes = half }
        ∷ record { start = young_start; bytes = 65536 } ∷ record { start = stack_bottom - stack; bytes = bytes } ∷ []

start_regions :
    (image : Tables) (stack heap : ℕ) → AreBytes image.bytes → IsRoom stack → IsRoom heap →
    HasRegions (extents image heap (stack_bottom - stack)) (start_memory image stack heap)
start_regions image stack heap all s h = record {
  lie = start_lies image stack heap s h;
  each = (
    data_is image.bytes all,
    (
      domain_is,
      (
        uniform_region (half_start 0) (heap / 8) filler refl (omega arith),
        (
          uniform_region (half_start 1) (heap / 8) filler refl (omega arith),
          (uniform_region young_start 8192 filler refl (omega arith), (stack_is stack s, tt)),
        ),
      ),
    ),
  );
}

-- ---- the state

pub start_sound :
    (image : Tables) (entry : Func) (args : List ℕ) (stack heap : ℕ) → AreTables image → AllByRecursion (λ b. b < 256) image.bytes →
    AllWords args → IsRoom stack → IsRoom heap → IsSound (start image entry args stack heap)
start_sound image entry args stack heap tables all words s h = record {
  image = tables;
  registers = start_registers_are args words;
  memory = start_regions image stack heap all s h;
  stack = record {
    aligned = let a = s.aligned in let m = s.most in omega (arith, a, m);
    low = let m = s.most in omega (arith, m);
    high = omega arith;
  };
  heap = record { aligned = h.aligned; most = h.most; each = tt; fits = omega arith };
  apart = refl;
}

-- every state of a run is sound, under every schedule
pub run_sound :
    (image : Tables) (entry : Func) (args answers : List ℕ) (stack heap : ℕ) (schedule : Schedule) (n : ℕ) → AreTables image →
    AllByRecursion (λ b. b < 256) image.bytes → AllWords args → AllWords answers → IsRoom stack → IsRoom heap →
    IsSoundNow (now_after schedule n (begun image entry args answers stack heap))
run_sound image entry args answers stack heap schedule n tables all words answer_words s h =
    after_sound schedule n (begun image entry args answers stack heap)
    (record { hart = start_sound image entry args stack heap tables all words s h; answers = answer_words })
