-- What selection gives of each function is what is asked of it, and words are passed on.
use Rattle.std.proofs.Common.{◌≡◌, ℕ, suc, ◌+◌, ◌*◌, ◌≤◌, List, [], ◌∷◌, map, refl, ap, arith}
use Rattle.std.proofs.Math.Nat.{mul-le-mul_right}
use Rattle.std.specs.List.{AllByRecursion}
use Rattle.bs_words.specs.Memory.{heap_need}
use Rattle.bs_words.specs.declared.values.Value.TheVariants.{Word}
use Rattle.cmm_tree.specs.Tree.{FileTree}
use Rattle.cmm_meaning.specs.Alone.{IsProperEnd}
use Rattle.cmm_meaning.specs.Evaluation.{OutOfFuel, NotProper, NoAnswer, Asking, Evaluation, Gives, Exits, Raises, Stops}
use Rattle.cmm_meaning.specs.Layout.{Layout}
use Rattle.cmm_meaning.specs.State.{Doing, Asked, World}
use Rattle.correctness.specs.Setting.{AreWords}
use Rattle.mach_ir.specs.Runs.{ActivationSetting, Tally, RunProgress}
use Rattle.mach_ir.specs.Runs as run
use Rattle.mach_ir.specs.Meaning as mach
use Rattle.mach_ir.specs.declared.mach.Mach.{Mach}
use Rattle.meaning_laws.specs.Pace.{pending_calls}
use Rattle.meaning_laws.specs.Units.{world_of}
use Rattle.meaning_laws.proofs.LinksWhole.{bound_error_fits}
use Rattle.selection_rules.specs.Bounded.{AllBounded, BoundedDoing, BoundedDoings, BoundedAsked, AllAsked, BoundedEvaluation}
use Rattle.selection_rules.proofs.BoundedRuns.{alone_bounded}
use Rattle.selection_rules.specs.Selected.{MeetsEvaluation, returned, threw, running, asking, improper, left_by_exit}
use Rattle.linking.specs.Assembled.{IsKnownAsked, IsKnownEvaluation, IsPassedOn}
use Rattle.linking.specs.Keeps.{gives, raises, out_of_units, asks, Same, alone_in}
use Rattle.linking.specs.Program.{activation_in}
use Rattle.linking_stages.specs.Chain.{SelectsFile, IsGivenWords, IsSelected, HoldsWords}
use Rattle.linking_stages.specs.Stages.{mach_program}

-- ---- what is selected

-- a run that meets an evaluation is the same
met : (machs : ℕ → Mach) (most n units nodes : ℕ) (e : Evaluation) {r : RunProgress mach.State} → MeetsEvaluation units e r → IsProperEnd e →
    units + (pending_calls e + (world_of e).left) ≤ n → n ≤ (world_of e).left + nodes * suc units → nodes ≤ most →
    ((u : World) (s : mach.State) (t : Tally) → e ≡ Stops OutOfFuel u → r ≡ run.Running s t → heap_need s.around.memory ≤ heap_need u.memory) →
    Same mach.State (mach_program machs) most n e r
met machs most n units nodes _ (returned {t = t} a b) ok no_more enough le heap =
    let need = a.need in
    let more : nodes * suc units ≤ most * suc units = mul-le-mul_right (suc units) le in
    let times : most * suc t.units ≡ most * suc units = ap (λ u. most * suc u) b in
    record {
      calls = a.asked;
      no_more = omega (arith, b, no_more);
      enough = omega (arith, enough, more, times);
      stack = omega (arith, need);
      end = gives
          refl;
    }
met machs most n units nodes _ (threw {t = t} a b) ok no_more enough le heap =
    let need = a.need in
    let more : nodes * suc units ≤ most * suc units = mul-le-mul_right (suc units) le in
    let times : most * suc t.units ≡ most * suc units = ap (λ u. most * suc u) b in
    record {
      calls = a.asked;
      no_more = omega (arith, b, no_more);
      enough = omega (arith, enough, more, times);
      stack = omega (arith, need);
      end = raises refl;
    }
met machs most n units nodes _ (running {w = w} {s = s} {t = t} a b same) ok no_more enough le heap =
    let need = a.need in
    let more : nodes * suc units ≤ most * suc units = mul-le-mul_right (suc units) le in
    let times : most * suc t.units ≡ most * suc units = ap (λ u. most * suc u) b in
    record {
      calls = a.asked;
      no_more = omega (arith, b, no_more);
      enough = omega (arith, enough, more, times);
      stack = omega (arith, need);
      end = out_of_units (heap w s t refl refl);
    }
met machs most n units nodes _ (asking {t = t} a b) ok no_more enough le heap =
    let need = a.need in
    let more : nodes * suc units ≤ most * suc units = mul-le-mul_right (suc units) le in
    let times : most * suc t.units ≡ most * suc units = ap (λ u. most * suc u) b in
    record { calls = a.asked; no_more = omega (arith, b, no_more); enough = omega (arith, enough, more, times); stack = omega (arith, need); end = asks refl }
met machs most n units nodes _ improper ok no_more enough le heap = absurd ok
met machs most n units nodes _ left_by_exit ok no_more enough le heap = absurd ok

all_doings : (doings : List Doing) → AllByRecursion BoundedDoing doings → BoundedDoings doings
all_doings [] all = tt
all_doings (d ∷ doings) all = (all.0, all_doings doings all.1)

-- What is selected does what the text does, on words.
pub selected_selects : (file : FileTree) (layout : Layout) (machs : ℕ → Mach) (most : ℕ) → IsSelected file layout machs most →
    SelectsFile file layout machs most IsGivenWords BoundedDoing
selected_selects file layout machs most s =
    record {
      runs = λ f tree is arguments fit below memory doings n given done ok handed.
          let k = s.runs f tree is arguments fit below memory doings n given (all_doings doings done) ok in
          let c : ActivationSetting = activation_in file layout f below in
          record {
            run = record {
              begun = k.run.begun;
              begins = k.run.begins;
              steps = k.run.steps;
              same = met machs most n k.run.units _ (alone_in file c tree arguments memory doings n) k.run.meets ok k.run.no_more k.run.enough
                  (s.nodes f tree is) k.heap;
            };
            proper = k.proper;
          };
    }

-- ---- words are passed on

all_asked : (calls : List Asked) → AllAsked calls → AllByRecursion (IsKnownAsked IsGivenWords BoundedDoing) calls
all_asked [] all = tt
all_asked (call ∷ calls) all = let a : BoundedAsked call = all.0 in ((a.arguments, a.memory), all_asked calls all.1)

known : (e : Evaluation) → BoundedEvaluation e → IsKnownEvaluation IsGivenWords BoundedDoing e
known (Gives v h w) b = (all_asked w.asked b.1.1, (b.0, b.1.0))
known (Exits label values h w) b = tt
known (Raises v h w) b = (all_asked w.asked b.1.1, (b.0, b.1.0))
known (Stops OutOfFuel w) b = all_asked w.asked b
known (Stops (NotProper kind) w) b = tt
known (Stops (NoAnswer call) w) b = tt
known (Stops (Asking call) w) b = let a : BoundedAsked call = b.0 in (all_asked w.asked b.1, (a.arguments, a.memory))

all_words : (words : List ℕ) → AreWords words → AllBounded (map Word words)
all_words [] all = tt
all_words (w ∷ words) all = (all.0, all_words words all.1)

pub words_passed : (file : FileTree) (layout : Layout) → HoldsWords file → IsPassedOn IsGivenWords BoundedDoing file layout
words_passed file layout holds =
    record {
      entry = λ words all. (all_words words all, holds.memory);
      alone = λ f tree is arguments fit below memory doings n given done.
          known (alone_in file (activation_in file layout f below) tree arguments memory doings n)
          (alone_bounded (activation_in file layout f below) tree (bound_error_fits file) (holds.width f tree is) holds.symbols (holds.code f tree is)
          arguments memory doings n
          given.0 given.1 (all_doings doings done) fit);
      nothing = λ arguments memory given. (tt, given.1);
      answer = λ arguments memory a given word. ((word, given.1), (word, given.1));
    }
