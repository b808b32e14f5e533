-- What is known of a run of one function by the list of what its calls did, beside the calls of the whole run.
use Rattle.std.proofs.Common.{◌≡◌, ℕ, zero, suc, ◌+◌, ◌≤◌, max, List, [], ◌∷◌, ◌++◌, map, refl, sym, ap, ◌∙◌, append_assoc, append-nil, arith}
use Rattle.std.proofs.lemmas.List.{append_cancel_left}
use Rattle.bs_words.specs.Memory.{heap_need}
use Rattle.bs_words.specs.declared.types.Ret.{Ret}
use Rattle.bs_words.specs.declared.types.Ret.TheVariants as ret
use Rattle.cmm_meaning.specs.State.{Doing, Gave, Threw, Asked, Callee, Inside, Outside, World}
use Rattle.cmm_meaning.specs.Evaluation.{Evaluation, Surroundings}
use Rattle.mach_ir.specs.Runs.{ActivationSetting, Step, Continues, Pays, Deepens, Waits, FinishesBy, Finishes, FinishesRaising, IsStuck, Tally, RunProgress, Running, Asking, Ended, Wrong, paid, units_of, came_back, kept_of, handed, run_onward, runs}
use Rattle.meaning_laws.specs.Fitting.{memory_after}
use Rattle.meaning_laws.specs.Links.{Call, OfFunction, OfOutside, asked_in, CameBack, gave, threw, Came, asked_by, doing_of, CallsBetween, no_more, next}
use Rattle.meaning_laws.proofs.Extends.{extends_need}
use Rattle.linking.specs.Program.{Program, tally_of, IsMoving, unit_of, IsRegularStep}

-- the calls of functions among them
abbrev pub units_called : List Came → ℕ
units_called [] = 0
units_called (c ∷ calls) = unit_of (asked_by c).callee + units_called calls

-- the heap that a run has come to
abbrev pub top_heap : {S : Type 0} → Program S → RunProgress S → ℕ
top_heap p (Running s t) = p.heap s
top_heap p (Asking call t) = heap_need call.memory
top_heap p (Ended d t) = heap_need (memory_after d)
top_heap p Wrong = 0

pub kept_memory : (kept : Ret) (d : Doing) → memory_after (kept_of kept d) ≡ memory_after d
kept_memory ret.Unit (Gave v memory) = refl
kept_memory ret.Unit (Threw v memory) = refl
kept_memory (ret.Comp t) d = refl

pub units_came : (callee : Callee) (n : ℕ) → units_of callee n ≡ unit_of callee + n
units_came (Inside f) n = omega arith
units_came (Outside row frame) n = omega arith

pub no_longer : {A : Type 0} (xs : List A) (y : A) (ys : List A) → xs ≡ xs ++ y ∷ ys → ⊥
no_longer xs y ys e = let same : [] ≡ y ∷ ys = append_cancel_left xs [] (y ∷ ys) (append-nil xs ∙ e) in cc

-- ---- the calls of a run are those before it and more

pub record Further (asked : List Asked) (all : List Asked) : Type 0 where
  pub more : List Asked
  pub is : all ≡ asked ++ more

further_same : (asked : List Asked) → Further asked asked
further_same asked = record { more = []; is = sym (append-nil asked) }

further_one : (asked : List Asked) (call : Asked) (all : List Asked) → Further (asked ++ call ∷ []) all → Further asked all
further_one asked call all f = record { more = call ∷ f.more; is = f.is ∙ append_assoc asked (call ∷ []) f.more }

handed_further : {S : Type 0} (go : Doing → Tally → RunProgress S) (call : Asked) (t : Tally) →
    ((d : Doing) (t : Tally) → IsMoving (go d t) → Further t.asked (tally_of (go d t)).asked) →
    (ds : List Doing) → IsMoving (handed go call ds t) → Further t.asked (tally_of (handed go call ds t)).asked
handed_further go call t on [] m = further_same t.asked
handed_further go call t on (d ∷ ds) m = further_one t.asked call _ (on d (came_back call ds t) m)

module _ (S : Type 0) (go : S → Tally → RunProgress S) (on : (s : S) (t : Tally) → IsMoving (go s t) → Further t.asked (tally_of (go s t)).asked) where
  pub onward_further : (x : Step S) (t : Tally) → IsMoving (run_onward go x t) → Further t.asked (tally_of (run_onward go x t)).asked
  onward_further (Continues s) t m = on s t m
  onward_further (Pays s) t m = on s (paid t) m
  onward_further (Deepens bytes s) t m = on s (record t { need = max t.need bytes }) m
  onward_further (Waits call then) t m = handed_further (λ d t. run_onward go (then d) t) call t (λ d t m. onward_further (then d) t m) t.doings m
  onward_further (FinishesBy call kept) t m = by t.doings m
    where
      by : (ds : List Doing) → IsMoving (handed {S = S} (λ d t. Ended (kept_of kept d) t) call ds t) →
          Further t.asked (tally_of (handed {S = S} (λ d t. Ended (kept_of kept d) t) call ds t)).asked
      by [] m = further_same t.asked
      by (d ∷ ds) m = record { more = call ∷ []; is = refl }
  onward_further (Finishes d) t m = further_same t.asked
  onward_further (FinishesRaising d) t m = further_same t.asked
  onward_further IsStuck t m = absurd m

pub runs_further : {S : Type 0} (step : S → Step S) (k : ℕ) (s : S) (t : Tally) → IsMoving (runs step k s t) →
    Further t.asked (tally_of (runs step k s t)).asked
runs_further step zero s t m = further_same t.asked
runs_further {S} step (suc k) s t m = onward_further S (runs step k) (λ s t m. runs_further step k s t m) (step s) t m

-- where the first call of these came back, it is the first one of the whole run
pub record Matched (asked : List Asked) (call : Asked) (c : Asked) (rest all : List Asked) : Type 0 where
  pub head : call ≡ c
  pub tail : all ≡ (asked ++ call ∷ []) ++ rest

pub matched : (asked : List Asked) (call c : Asked) (rest all : List Asked) → Further (asked ++ call ∷ []) all → all ≡ asked ++ c ∷ rest →
    Matched asked call c rest all
matched asked call c rest all f e =
    let both : call ∷ f.more ≡ c ∷ rest = append_cancel_left asked (call ∷ f.more) (c ∷ rest) (sym (append_assoc asked (call ∷ []) f.more) ∙ sym f.is ∙ e) in
    let head : call ≡ c = cc in
    let tail : f.more ≡ rest = cc in
    record { head = head; tail = f.is ∙ ap (λ xs. (asked ++ call ∷ []) ++ xs) tail }

pub asked_memory : (c : Came) → (asked_by c).memory ≡ c.before.memory
asked_memory c = by c.call
  where
    by : (call : Call) → (asked_in c.before.memory call).memory ≡ c.before.memory
    by (OfFunction call) = refl
    by (OfOutside row frame arguments) = refl

pub memory_back : {e : Evaluation} {d : Doing} {u : World} → CameBack e d u → memory_after d ≡ u.memory
memory_back gave = refl
memory_back threw = refl

-- ---- a run beside the calls of the whole run

abbrev pub tally : List Asked → List Came → ℕ → ℕ → Tally
tally asked calls units need = record { asked = asked; doings = map doing_of calls; units = units; need = need }

module _ (S : Type 0) (p : Program S) (step : S → Step S) where
  -- its needs have not fallen, and its calls of functions are units
  pub record Facts (least_need least_heap least_units : ℕ) (r : RunProgress S) : Type 0 where
    pub need : least_need ≤ (tally_of r).need
    pub heap : least_heap ≤ top_heap p r
    pub units : least_units ≤ (tally_of r).units

  module _ (c : ActivationSetting) (regular : (s : S) → IsRegularStep S p c (p.stack c s) (p.heap s) (step s)) (env : Surroundings) (bound : ℕ) where
    abbrev FactsOf : ℕ → Type 0
    FactsOf k =
        (s : S) (w last : World) (calls : List Came) (asked : List Asked) (units need : ℕ) → CallsBetween env bound w calls last →
        (tally_of (runs step k s (tally asked calls units need))).asked ≡ asked ++ map asked_by calls →
        IsMoving (runs step k s (tally asked calls units need)) →
        Facts need (p.heap s) (units + units_called calls) (runs step k s (tally asked calls units need))

    grown : (call : Asked) (came : Came) {e : Evaluation} → call ≡ asked_by came → CameBack e came.doing came.after →
        heap_need came.before.memory ≤ heap_need came.after.memory →
        heap_need call.memory ≤ heap_need (memory_after came.doing)
    grown call came head did le =
        let a : heap_need call.memory ≡ heap_need came.before.memory = ap (λ (q : Asked). heap_need q.memory) head ∙ ap heap_need (asked_memory came) in
        let b : heap_need (memory_after came.doing) ≡ heap_need came.after.memory = ap heap_need (memory_back did) in
        omega (arith, a, b, le)

    facts_step : (k : ℕ) → FactsOf k → (x : Step S) (stack heap : ℕ) → IsRegularStep S p c stack heap x →
        {w last : World} {calls : List Came} (asked : List Asked) (units need : ℕ) → CallsBetween env bound w calls last →
        (tally_of (run_onward (runs step k) x (tally asked calls units need))).asked ≡ asked ++ map asked_by calls →
        IsMoving (run_onward (runs step k) x (tally asked calls units need)) →
        Facts need heap (units + units_called calls) (run_onward (runs step k) x (tally asked calls units need))
    facts_step k ih (Continues u) stack heap g asked units need between same m =
        let f = ih u _ _ _ asked units need between same m in
        record { need = f.need; heap = let a = f.heap in let b = g.1 in omega (arith, a, b); units = f.units }
    facts_step k ih (Pays u) stack heap g asked units need between same m =
        let f = ih u _ _ _ asked (suc units) need between same m in
        record { need = f.need; heap = let a = f.heap in let b = g.1 in omega (arith, a, b); units = let a = f.units in omega (arith, a) }
    facts_step k ih (Deepens bytes u) stack heap g asked units need between same m =
        let f = ih u _ _ _ asked units (max need bytes) between same m in
        record { need = let a = f.need in omega (arith, a); heap = let a = f.heap in let b = g.1 in omega (arith, a, b); units = f.units }
    facts_step k ih (Waits call go) stack heap g asked units need (no_more o) same m =
        record { need = omega arith; heap = g.0; units = omega arith }
    facts_step k ih (Waits call go) stack heap g asked units need (next {c = came} {calls = calls} o fewer fit did later rest) same m =
        let further = onward_further S (runs step k) (λ s t m. runs_further step k s t m) (go came.doing)
        (tally (asked ++ call ∷ []) calls (units_of call.callee units) need) m in
        let at = matched asked call (asked_by came) (map asked_by calls) _ further same in
        let f = facts_step k ih (go came.doing) stack heap (g.2 came.doing (grown call came at.head did (extends_need later.onward.memory)))
        (asked ++ call ∷ []) (units_of call.callee units) need rest at.tail m in
        let one = units_came call.callee units in
        let callee : unit_of call.callee ≡ unit_of (asked_by came).callee = ap (λ (q : Asked). unit_of q.callee) at.head in
        record { need = f.need; heap = f.heap; units = let a = f.units in omega (arith, a, one, callee) }
    facts_step k ih (FinishesBy call kept) stack heap g asked units need (no_more o) same m =
        record { need = omega arith; heap = g; units = omega arith }
    facts_step k ih (FinishesBy call kept) stack heap g asked units need (next {c = came} o fewer fit did later (no_more own)) same m =
        let at = matched asked call (asked_by came) [] _ (record { more = []; is = sym (append-nil (asked ++ call ∷ [])) }) same in
        let one = units_came call.callee units in
        let callee : unit_of call.callee ≡ unit_of (asked_by came).callee = ap (λ (q : Asked). unit_of q.callee) at.head in
        let h = grown call came at.head did (extends_need later.onward.memory) in
        let same_memory : heap_need (memory_after (kept_of kept came.doing)) ≡ heap_need (memory_after came.doing) = ap heap_need
        (kept_memory kept came.doing) in
        record { need = omega arith; heap = omega (arith, g, h, same_memory); units = omega (arith, one, callee) }
    facts_step k ih (FinishesBy call kept) stack heap g asked units need
        (next {c = came} o fewer fit did later (next {c = other} {calls = calls} own fewer2 fit2 did2 later2 rest)) same m =
        let e : call ∷ [] ≡ asked_by came ∷ asked_by other ∷ map asked_by calls = append_cancel_left asked _ _ same in
        absurd (cc)
    facts_step k ih (Finishes d) stack heap g asked units need (no_more o) same m =
        record { need = omega arith; heap = g; units = omega arith }
    facts_step k ih (Finishes d) stack heap g asked units need (next {c = came} {calls = calls} o fewer fit did later rest) same m =
        absurd (no_longer asked (asked_by came) (map asked_by calls) same)
    facts_step k ih (FinishesRaising d) stack heap g asked units need (no_more o) same m =
        record { need = omega arith; heap = g; units = omega arith }
    facts_step k ih (FinishesRaising d) stack heap g asked units need (next {c = came} {calls = calls} o fewer fit did later rest) same m =
        absurd (no_longer asked (asked_by came) (map asked_by calls) same)
    facts_step k ih IsStuck stack heap g asked units need between same m = absurd m

    facts_now : (s : S) {w last : World} {calls : List Came} (asked : List Asked) (units need : ℕ) → CallsBetween env bound w calls last →
        asked ≡ asked ++ map asked_by calls →
        Facts need (p.heap s) (units + units_called calls) (runs step 0 s (tally asked calls units need))
    facts_now s asked units need (no_more o) same = record { need = omega arith; heap = omega arith; units = omega arith }
    facts_now s asked units need (next {c = came} {calls = calls} o fewer fit did later rest) same = absurd
        (no_longer asked (asked_by came) (map asked_by calls) same)

    pub facts : (k : ℕ) → FactsOf k
    facts zero s w last calls asked units need between same m = facts_now s asked units need between same
    facts (suc k) s w last calls asked units need between same m =
        facts_step k (λ s w last calls asked units need between same m. facts k s w last calls asked units need between same m) (step s) (p.stack c s)
        (p.heap s) (regular s) asked units need between same m
