-- The run of a machine that is at the entry of a function is the run of that function.
use Rattle.std.proofs.Common.{◌≡◌, ℕ, ◌+◌, ◌<◌, Bool, true, false, cond, List, [], ◌∷◌, Some, ap, arith, ◌∙◌, subst, eq-eqb}
use Rattle.std.specs.Prelude.{find, ◌==◌}
use Rattle.std.specs.Str.{bytes_eq}
use Rattle.std.proofs.lemmas.Bool.{ne_eqb}
use Rattle.bs_words.specs.declared.types.Ret.{Ret}
use Rattle.image_form.specs.Image.{AreTables, EachNext, First, IsBehind}
use Rattle.image_form.specs.Tables.{Tables, Func}
use Rattle.rv_machine.specs.Loading.{func_named}
use Rattle.rv_machine.specs.Memory.{code_start}
use Rattle.rv_machine.specs.Run.{now_after, machine_run, seen}
use Rattle.rv_machine.specs.Services.{Going}
use Rattle.rv_machine.specs.Start.{start}
use Rattle.mover_runtime.specs.Outcome.{calling_none, entry_result, result_at, run_of}
use Rattle.mover_runtime.specs.Schedules.{schedule_of}
use Rattle.mover_runtime.specs.declared.schedule.Schedule.{Schedule}

-- a function that is found after another one has the greater offset
behind_by : (p : Func → Bool) (f g : Func) (gs : List Func) (e : Func) (t : Bool) → f.offset < g.offset → cond t (Some g) (find p gs) ≡ Some e
    → (find p gs ≡ Some e → g.offset < e.offset) → f.offset < e.offset
behind_by p f g gs e true h k later = let same : g ≡ e = cc in subst (λ (x : Func). f.offset < x.offset) same h
behind_by p f g gs e false h k later = let above : g.offset < e.offset = later k in omega arith

behind : (p : Func → Bool) (f : Func) (fs : List Func) (e : Func) → First (IsBehind f) fs → EachNext IsBehind fs → find p fs ≡ Some e → f.offset < e.offset
behind p f [] e h n k = absurd (cc)
behind p f (g ∷ gs) e h n k = behind_by p f g gs e (p g) h.rises k (behind p g gs e n.0 n.1)

at_by : (p : Func → Bool) (f : Func) (fs : List Func) (e : Func) (t : Bool) → cond t (Some f) (find p fs) ≡ Some e
    → (find p fs ≡ Some e → f.offset < e.offset)
    → (find p fs ≡ Some e → find (λ (x : Func). code_start + x.offset == code_start + e.offset) fs ≡ Some e)
    → find (λ (x : Func). code_start + x.offset == code_start + e.offset) (f ∷ fs) ≡ Some e
at_by p f fs e true k below later =
    let same : f ≡ e = cc in
    let here : (code_start + f.offset == code_start + e.offset) ≡ true = eq-eqb (code_start + f.offset) (code_start + e.offset) (ap (λ (x : Func). code_start + x.offset) same) in
    ap (λ (b : Bool). cond b (Some f) (find (λ (x : Func). code_start + x.offset == code_start + e.offset) fs)) here ∙ ap Some same
at_by p f fs e false k below later =
    let less : f.offset < e.offset = below k in
    let not_here : (code_start + f.offset == code_start + e.offset) ≡ false = ne_eqb (code_start + f.offset) (code_start + e.offset) (λ s. omega arith) in
    ap (λ (b : Bool). cond b (Some f) (find (λ (x : Func). code_start + x.offset == code_start + e.offset) fs)) not_here ∙ later k

at : (p : Func → Bool) (fs : List Func) (e : Func) → EachNext IsBehind fs → find p fs ≡ Some e
    → find (λ (x : Func). code_start + x.offset == code_start + e.offset) fs ≡ Some e
at p [] e n k = absurd (cc)
at p (f ∷ fs) e n k = at_by p f fs e (p f) k (λ h. behind p f fs e n.0 n.1 h) (at p fs e n.1)

pub entry_result-start : (image : Tables) (name : List ℕ) (entry : Func) (args : List ℕ) (stack heap : ℕ) → AreTables image → func_named name image.funcs ≡ Some entry
    → entry_result (start image entry args stack heap) ≡ entry.result
entry_result-start image name entry args stack heap t k = ap result_at (at (λ (f : Func). bytes_eq f.name name) image.funcs entry t.funcs.in_order k)

-- what is end of a loaded machine's run is the run of the function from its entry
pub loaded_run : (image : Tables) (name : List ℕ) (entry : Func) (args answers : List ℕ) (stack heap : ℕ) (schedule : Schedule) (limit : ℕ)
    → AreTables image → func_named name image.funcs ≡ Some entry
    → run_of (start image entry args stack heap) answers schedule limit ≡ machine_run image entry args answers stack heap (schedule_of schedule) limit
loaded_run image name entry args answers stack heap schedule limit t k =
    ap (λ (r : Ret). seen (now_after (schedule_of schedule) limit (Going (calling_none (start image entry args stack heap) r answers))))
    (entry_result-start image name entry args stack heap t k)
