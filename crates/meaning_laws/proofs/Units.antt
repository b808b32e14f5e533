-- What is played goes on from its world to a later one.
use Rattle.std.proofs.Common.{◌≡◌, ℕ, zero, suc, Bool, List, [], ◌++◌, refl, ap, sym, ◌∙◌, append_assoc, arith}
use Rattle.std.proofs.lemmas.List.{append-nil}
use Rattle.bs_words.specs.Memory.{Memory}
use Rattle.bs_words.specs.Observed.{Made}
use Rattle.bs_words.specs.declared.types.Ret.{Ret}
use Rattle.cmm_meaning.specs.Extends.{Extends}
use Rattle.cmm_meaning.specs.State.{Doing, Gave, Threw, World, deepened}
use Rattle.cmm_meaning.specs.Evaluation.{Evaluation, Gives, Exits, Raises, Stops, Surroundings, spend}
use Rattle.meaning_laws.specs.Does.{Does, after_call, played}
use Rattle.meaning_laws.specs.Fitting.{Activation, Returned, memory_after, gave, threw, Lawful, gives, exits, raises, pays, deepens, jumps, calls, calls_out, fails, spent, RaisedFits, raised_fits, given, left_by_exit, stopped, Answered, answered, answered_raise, unfit, unanswered, CallsFitAndGrow}
use Rattle.cmm_meaning.specs.Setting.{setting_of}
use Rattle.meaning_laws.specs.Units.{world_of, IsPrefixOf, Onward, Later}
use Rattle.meaning_laws.proofs.Extends.{extends_same, extends_trans}

-- ---- worlds, one after the other

pub Begins-same : (made : List Made) → IsPrefixOf made made
Begins-same made = record { further = []; is = sym (append-nil made) }

pub Begins-trans : {a b c : List Made} → IsPrefixOf a b → IsPrefixOf b c → IsPrefixOf a c
Begins-trans {a} p q = record { further = p.further ++ q.further; is = q.is ∙ ap (λ l. l ++ q.further) p.is ∙ append_assoc a p.further q.further }

pub Onward-trans : {a b c : World} → Onward a b → Onward b c → Onward a c
Onward-trans p q = record { calls = Begins-trans p.calls q.calls; stack = omega arith; memory = extends_trans p.memory q.memory }

pub Later-trans : {a b c : World} → Later a b → Later b c → Later a c
Later-trans p q = record { onward = Onward-trans p.onward q.onward; units = omega arith }

pub Onward-same : (w : World) → Onward w w
Onward-same w = record { calls = Begins-same w.made; stack = omega arith; memory = extends_same w.memory }

pub Later-same : (w : World) → Later w w
Later-same w = record { onward = Onward-same w; units = omega arith }

-- where the memory is another
pub later_memory : (w : World) (memory : Memory) → Extends w.memory memory → Later w (record w { memory = memory })
later_memory w memory grown = record { onward = record { calls = Begins-same w.made; stack = omega arith; memory = grown }; units = omega arith }

later_deep : (w : World) (bytes : ℕ) → Later w (deepened bytes w)
later_deep w bytes = record { onward = record { calls = Begins-same w.made; stack = omega arith; memory = extends_same w.memory }; units = omega arith }

-- what an external call does
later_made : (w : World) (further : List Made) (answers : List ℕ) → Later w (record w { made = w.made ++ further; answers = answers })
later_made w further answers =
    record { onward = record { calls = record { further = further; is = refl }; stack = omega arith; memory = extends_same w.memory }; units = omega arith }

pub answered_later : {end : ℕ} {result : Ret} {frame : Bool} {w : World} {e : Evaluation} → Answered end result frame w e → Later w (world_of e)
answered_later (answered {w = w} h further answers a) = later_made w further answers
answered_later (answered_raise {w = w} v h further answers fit) = later_made w further answers
answered_later (unfit {w = w} kind further answers) = later_made w further answers
answered_later (unanswered {w = w} call) = Later-same w

pub answered_fits : {end : ℕ} {result : Ret} {frame : Bool} {w : World} {e : Evaluation} → Answered end result frame w e → RaisedFits end e
answered_fits (answered h further answers a) = given
answered_fits (answered_raise v h further answers fit) = raised_fits fit
answered_fits (unfit kind further answers) = stopped
answered_fits (unanswered call) = stopped

-- ---- what is played only goes on

later_spend : (n : ℕ) (w : World) (go : World → Evaluation) → w.left ≡ n →
    ((m : ℕ) → Later (record w { left = m }) (world_of (go (record w { left = m })))) → Later w (world_of (spend n w go))
later_spend zero w go e on = Later-same w
later_spend (suc n) w go e on =
    let paid : Later w (record w { left = n }) = record { onward = record { calls = Begins-same w.made; stack = omega arith; memory = extends_same w.memory }; units = omega arith } in
    Later-trans paid (on n)

-- a function while it runs in these surroundings
abbrev pub in_file : Surroundings → Activation → Activation
in_file s a = record a { setting = setting_of s }

module _ (s : Surroundings) (calls_fit : CallsFitAndGrow s) (a : Activation) where
  later_after : (go : Doing → World → Evaluation) (w : World) →
      ((d : Doing) (v : World) → Returned s.end w.memory d → Extends v.memory (memory_after d) → Later v (world_of (go d v))) →
      (e : Evaluation) → Later w (world_of e) → RaisedFits s.end e → Later w (world_of (after_call go e))
  later_after go w on (Gives v h u) l fit = Later-trans l (on (Gave v u.memory) u (gave l.onward.memory) (extends_same u.memory))
  later_after go w on (Exits label values h u) l fit = l
  later_after go w on (Raises v h u) l (raised_fits fit) = Later-trans l (on (Threw v u.memory) u (threw fit l.onward.memory) (extends_same u.memory))
  later_after go w on (Stops why u) l fit = l

  -- What a function does goes on from its world to a later one.
  pub played_later : {before : Memory} {d : Does} → Lawful (in_file s a) before d → (w : World) → Extends w.memory before → Later w (world_of (played s d w))
  played_later (gives {memory = memory} fit grown) w le = later_memory w memory (extends_trans le grown)
  played_later (exits {memory = memory} grown) w le = later_memory w memory (extends_trans le grown)
  played_later (raises {memory = memory} fit grown) w le = later_memory w memory (extends_trans le grown)
  played_later (pays {memory = memory} {rest = rest} grown more) w le =
      Later-trans (later_memory w memory (extends_trans le grown))
      (later_spend w.left (record w { memory = memory }) (λ v. played s rest v) refl (λ m. played_later more (record w { left = m; memory = memory }) (extends_same memory)))
  played_later (deepens {bytes = bytes} more) w le = Later-trans (later_deep w bytes) (played_later more (deepened bytes w) le)
  played_later (jumps more) w le = played_later more w le
  played_later (calls {memory = memory} {call = call} {go = go} grown stands behind more) w le =
      Later-trans (later_memory w memory (extends_trans le grown))
      (later_after (λ d v. played s (go d) v) (record w { memory = memory }) (λ d v back at. played_later (more d back) v at)
      (s.call call (record w { memory = memory })) (calls_fit.later call (record w { memory = memory }))
      (calls_fit.fit call (record w { memory = memory })))
  played_later (calls_out {memory = memory} {row = row} {frame = frame} {arguments = arguments} {go = go} grown more) w le =
      let answer = calls_fit.answers row frame arguments (record w { memory = memory }) in
      Later-trans (later_memory w memory (extends_trans le grown))
      (later_after (λ d v. played s (go d) v) (record w { memory = memory }) (λ d v back at. played_later (more d back) v at)
      (s.external row frame arguments (record w { memory = memory })) (answered_later answer) (answered_fits answer))
  played_later (fails {memory = memory} grown) w le = later_memory w memory (extends_trans le grown)
  played_later (spent {memory = memory} grown) w le = later_memory w memory (extends_trans le grown)

  fits_after : (go : Doing → World → Evaluation) (w : World) →
      ((d : Doing) (v : World) → Returned s.end w.memory d → RaisedFits s.end (go d v)) → (e : Evaluation) → Later w (world_of e) →
      RaisedFits s.end e → RaisedFits s.end (after_call go e)
  fits_after go w on (Gives v h u) l fit = on (Gave v u.memory) u (gave l.onward.memory)
  fits_after go w on (Exits label values h u) l fit = stopped
  fits_after go w on (Raises v h u) l (raised_fits fit) = on (Threw v u.memory) u (threw fit l.onward.memory)
  fits_after go w on (Stops why u) l fit = stopped

  fits_spend : (n : ℕ) (w : World) (go : World → Evaluation) → ((v : World) → RaisedFits s.end (go v)) → RaisedFits s.end (spend n w go)
  fits_spend zero w go on = stopped
  fits_spend (suc n) w go on = on (record w { left = n })

  -- What it raises fits val.
  pub played_fits : {before : Memory} {d : Does} → Lawful (in_file s a) before d → (w : World) → RaisedFits s.end (played s d w)
  played_fits (gives fit grown) w = given
  played_fits (exits grown) w = left_by_exit
  played_fits (raises fit grown) w = raised_fits fit
  played_fits (pays {memory = memory} {rest = rest} grown more) w =
      fits_spend w.left (record w { memory = memory }) (λ v. played s rest v) (λ v. played_fits more v)
  played_fits (deepens {bytes = bytes} more) w = played_fits more (deepened bytes w)
  played_fits (jumps more) w = played_fits more w
  played_fits (calls {memory = memory} {call = call} {go = go} grown stands behind more) w =
      fits_after (λ d v. played s (go d) v) (record w { memory = memory }) (λ d v back. played_fits (more d back) v)
      (s.call call (record w { memory = memory })) (calls_fit.later call (record w { memory = memory }))
      (calls_fit.fit call (record w { memory = memory }))
  played_fits (calls_out {memory = memory} {row = row} {frame = frame} {arguments = arguments} {go = go} grown more) w =
      let answer = calls_fit.answers row frame arguments (record w { memory = memory }) in
      fits_after (λ d v. played s (go d) v) (record w { memory = memory }) (λ d v back. played_fits (more d back) v)
      (s.external row frame arguments (record w { memory = memory })) (answered_later answer) (answered_fits answer)
  played_fits (fails grown) w = stopped
  played_fits (spent grown) w = stopped
