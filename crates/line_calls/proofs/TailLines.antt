-- The lines in which a callee takes the function's place.
use Rattle.std.proofs.Common.{◌≡◌, ℕ, ◌+◌, ◌<◌, Bool, true, false, ◌&&◌, List, [], ◌∷◌, length, Option, Some, None, slice_get, refl, ap, arith, ◌∙◌}
use Rattle.std.proofs.lemmas.Bool.{and_parts}
use Rattle.bs_words.specs.declared.types.Comp.{Comp}
use Rattle.bs_words.specs.declared.types.Loc.TheVariants as loc
use Rattle.bs_words.specs.declared.types.Ret.{Ret}
use Rattle.bs_words.specs.declared.values.Value.{Value}
use Rattle.bs_words.specs.declared.values.Value.TheVariants.{Word, Block, Function}
use Rattle.cmm_meaning.specs.Evaluation.{fit_parameters}
use Rattle.cmm_meaning.specs.State.{Inside}
use Rattle.rv_emit_rules.specs.Calls.{tail_call_part}
use Rattle.rv_layout_rules.specs.Words.{NameAddresses}
use Rattle.lin_ir.specs.Formed.{IsLocation, places_of, spare}
use Rattle.lin_ir.specs.Meaning.{Locations, NamedAt, on_act, on_values, step, values}
use Rattle.lin_ir.specs.declared.lin.Lin.{Lin}
use Rattle.lin_ir.specs.declared.lin.Line.{Line}
use Rattle.lin_ir.specs.declared.lin.LinOp.TheVariants as lin
use Rattle.lin_ir.specs.declared.lin.Spot.{Spot}
use Rattle.mach_ir.specs.Acts.{Around, Replaces, asks, asks_value, is_complete, stuck_unless}
use Rattle.mach_ir.specs.Runs.{ActivationSetting}
use Rattle.mach_ir.specs.Seats.{AfterFirst, AreSeated, InOrder, after_first, argument_locations, in_order}
use Rattle.mach_ir.specs.declared.op.Callee.{Callee}
use Rattle.mach_ir.specs.declared.op.Callee.TheVariants as callee
use Rattle.mach_ir.specs.declared.op.Calling.TheVariants as calling
use Rattle.mach_ir.specs.declared.op.Op.TheVariants as op
use Rattle.rv_machine.specs.Hart.{Placed}
use Rattle.lin_machine.specs.Arrival.{ArrivesIn, needs_nothing}
use Rattle.lin_machine.specs.Follows.{Agrees, FollowsStep, IsEntered}
use Rattle.lin_machine.specs.Moments.{AtEntry}
use Rattle.lin_machine.specs.Relation.{Below, Laid, StandsFor, Within}
use Rattle.lin_machine.specs.View.{Fixed, View}
use Rattle.lin_machine.proofs.Arriving.{leads_in}
use Rattle.lin_machine.proofs.Pure.{Reads, reads_held}
use Rattle.line_stands.specs.Parts.{PartStands}
use Rattle.lin_laws.proofs.Forms.{same_machine}
use Rattle.line_calls.specs.Leading.{LeadsUpTo}
use Rattle.line_calls.specs.Points.{EntriesStand}
use Rattle.line_calls.proofs.Callees.{registered_replaces}
use Rattle.line_calls.specs.Laws.{frame_in}
use Rattle.line_calls.proofs.Seats.{arguments_read, was_read}
use Rattle.line_calls.proofs.Tailing.{named_replaces}

module _ (s : Fixed) (n : NameAddresses) (laid : Laid) (live : List Line → Type 0) (entry : ℕ → ℕ) (c : Below) (place : ActivationSetting) (named : NamedAt) (m : Lin)
    (slots_are : m.slots ≡ laid.slots) (next : List Line) (v : View) (young : List Placed) (held file : Locations) (a : Around)
    (within : Within s laid v young 0 held a c) (before : Type 0) (agrees : Agrees before held file) (k : ℕ) (none : a.raised ≡ None) (left : a.tries ≡ [])
    (entries : EntriesStand s entry) (result : Ret) where
  abbrev goes : Callee → List Spot → Line
  goes whom args = record { op = lin.Op (op.Calling (calling.TailCall whom result)); args = args; results = [] }

  not_spare : (j : ℕ) → loc.Machine (10 + j) ≡ spare → ⊥
  not_spare j q = absurd (let z = same_machine (10 + j) 5 q in omega (arith, z))

  passed_on :
      (args : List Spot) (xs : List Value) → AreSeated (InOrder argument_locations) (places_of args) → values place.setting.end file args ≡ Some xs →
      (j : ℕ) (x : Value) → slice_get xs j ≡ Some x → (j < 16) × (held (loc.Machine (10 + j)) ≡ Some x)
  passed_on args xs seats h j x g =
      let r = arguments_read place.setting.end file args xs seats h j x g in
      (r.0, agrees.others (loc.Machine (10 + j)) (not_spare j) ∙ r.1.held)

  -- where the words lead to the entry
  arrives : (f : ℕ) (xs : List Value) → LeadsUpTo s v (v.place + k) (λ w. AtEntry s w young (entry f) xs a.memory c) →
      ArrivesIn 1 k s (needs_nothing s) v (IsEntered s entry f xs a.memory c)
  arrives f xs l =
      let e = l.lands in
      leads_in 1 k s l.count l.some (omega (arith, e)) v l.view (IsEntered s entry f xs a.memory c) l.leads (young, l.holds)

  replaces_follows :
      (whom : Callee) (args : List Spot) (o : Option Value) (xs : List Value) →
      ((f : ℕ) → o ≡ Some (Function f) → is_complete a ≡ true → ArrivesIn 1 k s (needs_nothing s) v (IsEntered s entry f xs a.memory c)) →
      FollowsStep k s laid live entry c v (on_act place m (goes whom args) next file a
      (asks_value place.setting o xs a (λ f ys. Replaces f ys result)))
  replaces_follows whom args None xs calls = tt
  replaces_follows whom args (Some (Word w)) xs calls = tt
  replaces_follows whom args (Some (Block b o)) xs calls = tt
  replaces_follows whom args (Some (Function f)) xs calls = by_parameters (slice_get place.setting.parameters f)
    where
      tested : (q : Bool) → (q ≡ true → is_complete a ≡ true) →
          FollowsStep k s laid live entry c v (on_act place m (goes whom args) next file a (stuck_unless q (Replaces (Inside f) xs result)))
      tested false h = tt
      tested true h = calls f refl (h refl)

      by_parameters : (o : Option (List Comp)) →
          FollowsStep k s laid live entry c v (on_act place m (goes whom args) next file a (asks place.setting o f xs a (λ f ys. Replaces f ys result)))
      by_parameters None = tt
      by_parameters (Some cs) = tested (fit_parameters place.setting.end cs xs && is_complete a)
          (λ h. (and_parts (fit_parameters place.setting.end cs xs) (is_complete a) h).1)

  -- ---- by name

  pub tail_named :
      (name : List ℕ) (args : List Spot) → AreSeated (InOrder argument_locations) (places_of args) →
      ((x : Value) → place.setting.symbol name ≡ Some x → StandsFor s [] (n.symbol name) x) →
      PartStands s n v.place (v.place + k) (tail_call_part (length a.tries) (frame_in laid) (callee.Symbol name) args) →
      FollowsStep k s laid live entry c v (step place named m (record {
        rest = record { op = lin.Op (op.Calling (calling.TailCall (callee.Symbol name) result)); args = args; results = [] } ∷ next;
        file = file;
        around = a;
      }))
  tail_named name args seats symbol part = by_values (values place.setting.end file args) refl
    where
      by_values : (o : Option (List Value)) → values place.setting.end file args ≡ o →
          FollowsStep k s laid live entry c v (on_values place (named (length next)) m (goes (callee.Symbol name) args) next file a o)
      by_values None h = tt
      by_values (Some xs) h =
          replaces_follows (callee.Symbol name) args (place.setting.symbol name) xs
          (λ f q whole.
          let known = symbol (Function f) q in
          arrives f xs (named_replaces s n laid v young held a c within left none whole xs (passed_on args xs seats h) entry f entries known.known name
          (v.place + k)
          known.is part))

  -- ---- to the address in a location

  pub tail_registered :
      (p : Spot) (args : List Spot) → IsLocation m p.loc → Reads before p.loc → AreSeated (AfterFirst argument_locations) (places_of (p ∷ args)) →
      PartStands s n v.place (v.place + k) (tail_call_part (length a.tries) (frame_in laid) callee.Register (p ∷ args)) →
      FollowsStep k s laid live entry c v (step place named m (record {
        rest = record { op = lin.Op (op.Calling (calling.TailCall callee.Register result)); args = p ∷ args; results = [] } ∷ next;
        file = file;
        around = a;
      }))
  tail_registered p args is reads (after_first more e) part = by_values (values place.setting.end file (p ∷ args)) refl
    where
      by_values : (o : Option (List Value)) → values place.setting.end file (p ∷ args) ≡ o →
          FollowsStep k s laid live entry c v (on_values place (named (length next)) m (goes callee.Register (p ∷ args)) next file a o)
      by_values None h = tt
      by_values (Some []) h = tt
      by_values (Some (x ∷ xs)) h =
          let w = was_read place.setting.end p.comp (file p.loc) (values place.setting.end file args) (x ∷ xs) h in
          let first : w.value ≡ x = (let q = w.are in cc) in
          let others : w.others ≡ xs = (let q = w.are in cc) in
          let here : held p.loc ≡ Some x = reads_held before held file p.loc agrees reads ∙ w.held ∙ ap Some first in
          replaces_follows callee.Register (p ∷ args) (Some x) xs
          (λ f q whole.
          let there : held p.loc ≡ Some (Function f) = here ∙ q in
          arrives f xs (registered_replaces s n laid m slots_are v young held a c none within left whole xs
          (passed_on args xs (in_order more e) (w.rest ∙ ap Some others)) entry f entries p.loc is there (v.place + k) part))
