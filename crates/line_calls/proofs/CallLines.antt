-- The lines that call a function.
use Rattle.std.proofs.Common.{◌≡◌, ℕ, suc, ◌+◌, ◌*◌, ◌<◌, ◌≤◌, inl, Bool, true, false, ◌&&◌, List, [], ◌∷◌, length, Option, Some, None, slice_get, slice_index, slice_set, refl, ap, arith, ◌∙◌, sym, subst}
use Rattle.std.proofs.lemmas.Bool.{and_parts}
use Rattle.bs_words.specs.Fits.{data_start}
use Rattle.bs_words.specs.declared.types.Comp.{Comp}
use Rattle.bs_words.specs.declared.types.Loc.TheVariants as loc
use Rattle.bs_words.specs.declared.types.Ret.{Ret}
use Rattle.bs_words.specs.declared.types.Ret.TheVariants as ret
use Rattle.bs_words.specs.declared.values.Value.{Value}
use Rattle.bs_words.specs.declared.values.Value.TheVariants.{Word, Block, Function}
use Rattle.cmm_meaning.specs.Evaluation.{fit_parameters}
use Rattle.cmm_meaning.specs.State.{Doing, Inside}
use Rattle.rv_emit_rules.specs.Calls.{call_words}
use Rattle.rv_emit_rules.specs.Instructions.{calls_at}
use Rattle.rv_emit_rules.specs.Slots.{fetch_pieces, first_location, register_of}
use Rattle.rv_layout_rules.specs.Laid.{address_of_place, descriptor_laid_at}
use Rattle.rv_layout_rules.specs.Words.{NameAddresses}
use Rattle.lin_ir.specs.Formed.{IsLocation, comps, places_of, spare}
use Rattle.lin_ir.specs.Meaning.{Locations, NamedAt, after_label, are_vals, is_named_location, on_act, on_values, poisoned, step, unless_misnamed, values}
use Rattle.lin_ir.specs.declared.descr.Descr.{Descr}
use Rattle.lin_ir.specs.declared.lin.Lin.{Lin}
use Rattle.lin_ir.specs.declared.lin.Line.{Line}
use Rattle.lin_ir.specs.declared.lin.LinOp.TheVariants as lin
use Rattle.lin_ir.specs.declared.lin.Spot.{Spot}
use Rattle.mach_ir.specs.Acts.{Around, Asks, Stuck, act_after_call, asks, asks_value, is_complete, stuck_unless}
use Rattle.mach_ir.specs.Forms.{results_of_type}
use Rattle.mach_ir.specs.Runs.{ActivationSetting}
use Rattle.mach_ir.specs.Seats.{AfterFirst, AreSeated, InOrder, after_first, argument_locations, in_order, result_locations}
use Rattle.mach_ir.specs.declared.op.Callee.{Callee}
use Rattle.mach_ir.specs.declared.op.Callee.TheVariants as callee
use Rattle.mach_ir.specs.declared.op.Calling.TheVariants as calling
use Rattle.mach_ir.specs.declared.op.Op.TheVariants as op
use Rattle.rv_isa.specs.Registers.{register_number}
use Rattle.rv_isa.specs.declared.instr.Instr.TheVariants.{Jalr}
use Rattle.rv_isa.specs.declared.register.Register.TheVariants.{T1}
use Rattle.rv_machine.specs.Frames.{descriptor_at, names_register}
use Rattle.rv_machine.specs.Hart.{Placed}
use Rattle.rv_machine.specs.Memory.{code_start}
use Rattle.lin_machine.specs.Follows.{Agrees, IsAfter, IsDone}
use Rattle.lin_machine.specs.Relation.{Below, IsDescribed, Laid, StandsFor, Within}
use Rattle.lin_machine.specs.View.{Fixed, IsInstructionAt, ReachesView, View}
use Rattle.lin_machine.proofs.Arriving.{leads_in}
use Rattle.lin_machine.proofs.Pure.{Reads, reads_held}
use Rattle.lin_machine.proofs.Standing.{within_past}
use Rattle.lin_machine.proofs.Steps.{stays, then_leads}
use Rattle.line_stands.specs.Parts.{PartStands}
use Rattle.line_stands.proofs.Parts.{counts, last}
use Rattle.line_values.proofs.Operands.{fetches}
use Rattle.lin_laws.proofs.Forms.{same_machine}
use Rattle.line_calls.specs.Calls.{CalledSo, FollowsSo}
use Rattle.line_calls.specs.Points.{EntriesStand}
use Rattle.line_calls.proofs.CallWords.{call_leads, named_leads}
use Rattle.line_calls.proofs.Calling.{below, callee_begins, resumes_with, resumes_without, vals_held}
use Rattle.line_calls.proofs.Leaving.{no_offset}
use Rattle.line_calls.proofs.Seats.{arguments_read, first_seated, was_read}
use Rattle.line_calls.proofs.Tailing.{entry_near}

module _ (s : Fixed) (n : NameAddresses) (laid : Laid) (live : List Line → Type 0) (entry : ℕ → ℕ) (c : Below) (place : ActivationSetting) (named : NamedAt) (m : Lin)
    (slots_are : m.slots ≡ laid.slots) (next : List Line)
    (v : View) (young : List Placed) (held file : Locations) (a : Around) (within : Within s laid v young 0 held a c) (before : Type 0)
    (agrees : Agrees before held file) (k : ℕ)
    (none : a.raised ≡ None) (behind : laid.part (length next) ≡ v.place + k) (saves : laid.saves ≡ true)
    (e : Descr) (is : IsDescribed laid (length a.tries) (named (length next)) (descriptor_laid_at (v.place + k) e))
    (there : descriptor_at s.image.descs (address_of_place (v.place + k)) ≡ Some (descriptor_laid_at (v.place + k) e)) (inside : v.place + k < length s.image.code)
    (handlers : (l : ℕ) (rest : List ℕ) → a.tries ≡ l ∷ rest → laid.handler l ≡ address_of_place (laid.part (length (after_label l m.code))))
    (dead : (l : ℕ) (rest : List ℕ) → a.tries ≡ l ∷ rest → live (after_label l m.code) → ⊥)
    (end_is : place.setting.end ≡ data_start + length s.image.bytes) (spared : is_named_location spare (named (length next)) ≡ false)
    (registers : names_register e.entries ≡ false) (entries : EntriesStand s entry) (result : Ret) (results : List Spot)
    (typed : comps results ≡ results_of_type result) (seated : AreSeated (InOrder result_locations) (places_of results)) where
  -- what a call does, by what is called
  abbrev does : Callee → List Spot → Line
  does whom args = record { op = lin.Op (op.Calling (calling.Call whom result)); args = args; results = results }

  abbrev lost : Locations
  lost = poisoned (named (length next)) file

  -- ---- after the callee, whatever it did

  resumes_by : (whom : Callee) (args : List Spot) (fit : are_vals (data_start + length s.image.bytes) (named (length next)) held ≡ true)
      (whole : is_complete a ≡ true) (w : View) (there_w : Within s laid w young 0 held a c) (r : Ret) (rs : List Spot) → comps rs ≡ results_of_type r →
      AreSeated (InOrder result_locations) (places_of rs) → (doing : Doing) (u : View) →
      IsDone s (below s laid live entry c place named m next v young held file a before agrees k none behind saves (descriptor_laid_at (v.place + k) e) is there inside
      handlers dead fit whole w there_w) doing u →
      IsAfter s laid live c (on_act place m (record { op = lin.Op (op.Calling (calling.Call whom r)); args = args; results = rs }) next
      (poisoned (named (length next)) file) a (act_after_call place.setting r a doing)) u
  resumes_by whom args fit whole w there_w ret.Unit [] t seats doing u done =
      resumes_without s laid live entry c place named m next v young held file a before agrees k none behind saves (descriptor_laid_at (v.place + k) e) is there inside
      handlers dead fit whole w there_w whom args doing u done
  resumes_by whom args fit whole w there_w ret.Unit (p ∷ ps) t seats doing u done = absurd (cc)
  resumes_by whom args fit whole w there_w (ret.Comp q) [] t seats doing u done = absurd (cc)
  resumes_by whom args fit whole w there_w (ret.Comp q) (p ∷ ps) t seats doing u done =
      let one = first_seated p ps seats in
      subst (λ z. IsAfter s laid live c (on_act place m (record {
        op = lin.Op (op.Calling (calling.Call whom
            (ret.Comp q)));
        args = args;
        results = p ∷ z;
      }) next
      (poisoned (named (length next)) file) a (act_after_call place.setting (ret.Comp q) a doing)) u) (sym one.1)
      (resumes_with s laid live entry c place named m next v young held file a before agrees k none behind saves (descriptor_laid_at (v.place + k) e) is there inside
      handlers dead fit whole w there_w whom q args p one.0 doing u done)

  -- ---- the call of a function that is known

  pub calls_at_view :
      (whom : Callee) (args : List Spot) (f : ℕ) (arguments : List Value) (w : View) (n1 n2 : ℕ) → n1 + n2 ≡ k → 1 ≤ n2 → ReachesView s n1 v w →
      Within s laid w young 0 held a c →
      ReachesView s n2 w (record w { place = entry f; registers = slice_set w.registers 1 (address_of_place (v.place + k)) }) →
      are_vals place.setting.end (named (length next)) file ≡ true → is_complete a ≡ true →
      ((j : ℕ) (x : Value) → slice_get arguments j ≡ Some x → (j < 16) × (held (loc.Machine (10 + j)) ≡ Some x)) →
      CalledSo k s laid live entry c v (laid.frame + 16 * length a.tries) f arguments a.memory (λ doing. on_act place m (does whom args) next (poisoned
      (named (length next)) file) a
      (act_after_call place.setting result a doing))
  calls_at_view whom args g arguments w n1 n2 sum some first_location there_w second fits whole passed =
      let held_fit : are_vals (data_start + length s.image.bytes) (named (length next)) held ≡ true =
      subst (λ z. are_vals z (named (length next)) held ≡ true) end_is (vals_held place.setting.end before held file (named
      (length next)) agrees spared ∙ fits) in
      let f = there_w.frame in
      record {
        call = record {
          below = below s laid live entry c place named m next v young held file a before agrees k none behind saves (descriptor_laid_at (v.place + k) e) is there inside
              handlers dead held_fit whole w there_w;
          enters = leads_in 1 k s (n1 + n2) (omega (arith, some)) (omega (arith, sum)) v _ _ (then_leads s n1 n2 v w _ first_location second)
              (callee_begins s laid live entry c place named m next v young held file a before agrees k none behind saves (descriptor_laid_at
              (v.place + k) e) is there inside
              handlers dead held_fit whole w there_w g arguments registers (omega (arith, some, sum)) passed);
          resumes = λ doing u done. resumes_by whom args held_fit whole w there_w result results typed seated doing u done;
        };
        top = omega (arith, f);
      }

  -- ---- by what a symbol or a register says

  asks_follows :
      (whom : Callee) (args : List Spot) (o : Option Value) (arguments : List Value) →
      ((f : ℕ) → o ≡ Some (Function f) → is_complete a ≡ true →
      CalledSo k s laid live entry c v (laid.frame + 16 * length a.tries) f arguments a.memory (λ doing. on_act place m (does whom args) next (poisoned
      (named (length next)) file) a
      (act_after_call place.setting result a doing))) →
      FollowsSo k s laid live entry c v (laid.frame + 16 * length a.tries) (on_act place m (does whom args) next (poisoned (named (length next)) file) a
      (asks_value place.setting o arguments a (λ f xs. Asks f xs (act_after_call place.setting result a))))
  asks_follows whom args None arguments calls = record { follows = tt; calls = tt }
  asks_follows whom args (Some (Word w)) arguments calls = record { follows = tt; calls = tt }
  asks_follows whom args (Some (Block b o)) arguments calls = record { follows = tt; calls = tt }
  asks_follows whom args (Some (Function f)) arguments calls = by_parameters (slice_get place.setting.parameters f)
    where
      by_test : (b t : Bool) → (b && t) ≡ (b && is_complete a) → (b && t) ≡ (b && t) →
          ((b && t) ≡ true → is_complete a ≡ true) →
          FollowsSo k s laid live entry c v (laid.frame + 16 * length a.tries) (on_act place m (does whom args) next (poisoned (named (length next)) file) a
          (stuck_unless (b && t) (Asks (Inside f) arguments (act_after_call place.setting result a))))
      by_test b t same again whole = tested (b && t) whole
        where
          tested : (q : Bool) → (q ≡ true → is_complete a ≡ true) →
              FollowsSo k s laid live entry c v (laid.frame + 16 * length a.tries) (on_act place m (does whom args) next (poisoned (named
              (length next)) file) a
              (stuck_unless q (Asks (Inside f) arguments (act_after_call place.setting result a))))
          tested false h = record { follows = tt; calls = tt }
          tested true h = let g = calls f refl (h refl) in record { follows = g.call; calls = g.top }

      by_parameters : (o : Option (List Comp)) → FollowsSo k s laid live entry c v (laid.frame + 16 * length a.tries) (on_act place m (does whom args) next
          (poisoned (named (length next)) file) a
          (asks place.setting o f arguments a (λ f xs. Asks f xs (act_after_call place.setting result a))))
      by_parameters None = record { follows = tt; calls = tt }
      by_parameters (Some cs) =
          by_test (fit_parameters place.setting.end cs arguments) (is_complete a) refl refl
          (λ h. (and_parts (fit_parameters place.setting.end cs arguments) (is_complete a) h).1)

  -- a register that is an argument's is no t0
  not_spare : (j : ℕ) → loc.Machine (10 + j) ≡ spare → ⊥
  not_spare j q = absurd (let z = same_machine (10 + j) 5 q in omega (arith, z))

  passed_on :
      (args : List Spot) (xs : List Value) → AreSeated (InOrder argument_locations) (places_of args) → values place.setting.end file args ≡ Some xs →
      (j : ℕ) (x : Value) → slice_get xs j ≡ Some x → (j < 16) × (held (loc.Machine (10 + j)) ≡ Some x)
  passed_on args xs seats h j x g =
      let r = arguments_read place.setting.end file args xs seats h j x g in
      (r.0, agrees.others (loc.Machine (10 + j)) (not_spare j) ∙ r.1.held)

  -- ---- a call by name

  pub call_named :
      (name : List ℕ) (args : List Spot) → AreSeated (InOrder argument_locations) (places_of args) →
      ((x : Value) → place.setting.symbol name ≡ Some x → StandsFor s [] (n.symbol name) x) →
      PartStands s n v.place (v.place + k) (call_words (length a.tries) (callee.Symbol name) args) →
      FollowsSo k s laid live entry c v (laid.frame + 16 * length a.tries) (step place named m (record {
        rest = record { op = lin.Op (op.Calling (calling.Call (callee.Symbol name) result)); args = args; results = results } ∷ next;
        file = file;
        around = a;
      }))
  call_named name args seats symbol part = by_values (values place.setting.end file args) refl
    where
      found : (xs : List Value) → values place.setting.end file args ≡ Some xs → are_vals place.setting.end (named (length next)) file ≡ true →
          (f : ℕ) → place.setting.symbol name ≡ Some (Function f) → is_complete a ≡ true →
          CalledSo k s laid live entry c v (laid.frame + 16 * length a.tries) f xs a.memory (λ doing. on_act place m (does (callee.Symbol name) args) next
          (poisoned (named (length next)) file) a (act_after_call place.setting result a doing))
      found xs h fits f is_f whole =
          let known = symbol (Function f) is_f in
          let address : n.symbol name ≡ code_start + 4 * entry f = known.is ∙ entries.is f known.known in
          let low = entry_near s entry f entries known.known in
          let by = named_leads s n v within.own.are name (v.place + k) (entry f) address low part in
          let past = by.past in
          calls_at_view (callee.Symbol name) args f xs v 0 by.count (omega (arith, past)) by.some (stays s v) within by.leads fits whole
          (passed_on args xs seats h)

      by_fit : (xs : List Value) → values place.setting.end file args ≡ Some xs → (t : Bool) → are_vals place.setting.end (named (length next)) file ≡ t →
          FollowsSo k s laid live entry c v (laid.frame + 16 * length a.tries) (unless_misnamed t (on_act place m (does (callee.Symbol name) args) next
          (poisoned (named (length next)) file) a
          (asks_value place.setting (place.setting.symbol name) xs a (λ f ys. Asks f ys (act_after_call place.setting result a)))))
      by_fit xs h false f = record { follows = tt; calls = tt }
      by_fit xs h true f = asks_follows (callee.Symbol name) args (place.setting.symbol name) xs (λ g q whole. found xs h f g q whole)

      by_values : (o : Option (List Value)) → values place.setting.end file args ≡ o →
          FollowsSo k s laid live entry c v (laid.frame + 16 * length a.tries) (on_values place (named (length next)) m (does
          (callee.Symbol name) args) next file a o)
      by_values None h = record { follows = tt; calls = tt }
      by_values (Some xs) h = by_fit xs h (are_vals place.setting.end (named (length next)) file) refl

  -- ---- a call to the address in a location

  pub call_registered :
      (p : Spot) (args : List Spot) → IsLocation m p.loc → Reads before p.loc → AreSeated (AfterFirst argument_locations) (places_of (p ∷ args)) →
      PartStands s n v.place (v.place + k) (call_words (length a.tries) callee.Register (p ∷ args)) →
      FollowsSo k s laid live entry c v (laid.frame + 16 * length a.tries) (step place named m (record {
        rest = record { op = lin.Op (op.Calling (calling.Call callee.Register result)); args = p ∷ args; results = results } ∷ next;
        file = file;
        around = a;
      }))
  call_registered p args at_p reads (after_first more q) part = by_values (values place.setting.end file (p ∷ args)) refl
    where
      found : (f : ℕ) (xs : List Value) → held p.loc ≡ Some (Function f) → values place.setting.end file args ≡ Some xs →
          are_vals place.setting.end (named (length next)) file ≡ true → is_complete a ≡ true →
          CalledSo k s laid live entry c v (laid.frame + 16 * length a.tries) f xs a.memory (λ doing. on_act place m (does callee.Register (p ∷ args)) next
          (poisoned (named (length next)) file) a (act_after_call place.setting result a doing))
      found f xs there_p h fits whole =
          let parts = counts s n v.place k (fetch_pieces (length a.tries) T1 p.loc) (calls_at (register_of T1 p.loc) ∷ []) part in
          let one = last s n (v.place + parts.own) parts.others (Jalr 1 (register_number (register_of T1 p.loc)) 0) parts.second in
          let g = fetches s n laid m slots_are v young held a c none within T1 5 refl (inl refl) v.place parts.own p.loc at_p parts.first in
          let get = g.gets (Function f) there_p in
          let ch = get.by v refl within in
          let w = ch.view in
          let at = ch.past.place in
          let sum = parts.sum in
          let last_one = one.1 in
          let stands = ch.holds in
          let near = entry_near s entry f entries stands.known in
          let code : IsInstructionAt s w.place (Jalr 1 (suc g.r) 0) =
          subst (λ z. IsInstructionAt s z (Jalr 1 (suc g.r) 0)) (sym at) (subst (λ z. IsInstructionAt s (v.place + parts.own) (Jalr 1 z 0)) g.is one.0) in
          let address : slice_index w.registers (suc g.r) ≡ code_start + 4 * entry f = stands.is ∙ entries.is f stands.known in
          let same : w.place + 1 ≡ v.place + k = omega (arith, at, sum, last_one) in
          calls_at_view callee.Register (p ∷ args) f xs w parts.own 1 (omega (arith, sum, last_one)) (omega arith) ch.leads
          (within_past s laid v w young 0 held a c parts.own g.list ch.past get.are within)
          (subst (λ z. ReachesView s 1 w (record w { place = entry f; registers = slice_set w.registers 1 (address_of_place z) })) same
          (call_leads s w (suc g.r) 0 (entry f) code (no_offset (slice_index w.registers (suc g.r)) (code_start + 4 * entry f) address (omega
          (arith, near)))))
          fits whole (passed_on args xs (in_order more q) h)

      by_fit : (x : Value) (xs : List Value) → held p.loc ≡ Some x → values place.setting.end file args ≡ Some xs → (t : Bool) →
          are_vals place.setting.end (named (length next)) file ≡ t →
          FollowsSo k s laid live entry c v (laid.frame + 16 * length a.tries) (unless_misnamed t (on_act place m (does callee.Register (p ∷ args)) next
          (poisoned (named (length next)) file) a
          (asks_value place.setting (Some x) xs a (λ f ys. Asks f ys (act_after_call place.setting result a)))))
      by_fit x xs here h false f = record { follows = tt; calls = tt }
      by_fit x xs here h true f = asks_follows callee.Register (p ∷ args) (Some x) xs (λ g e whole. found g xs (here ∙ e) h f whole)

      by_values : (o : Option (List Value)) → values place.setting.end file (p ∷ args) ≡ o →
          FollowsSo k s laid live entry c v (laid.frame + 16 * length a.tries) (on_values place (named (length next)) m (does callee.Register
          (p ∷ args)) next file a o)
      by_values None h = record { follows = tt; calls = tt }
      by_values (Some []) h = by_none (are_vals place.setting.end (named (length next)) file)
        where
          by_none : (t : Bool) → FollowsSo k s laid live entry c v (laid.frame + 16 * length a.tries) (unless_misnamed t (on_act place m
              (does callee.Register (p ∷ args)) next
              (poisoned (named (length next)) file) a Stuck))
          by_none false = record { follows = tt; calls = tt }
          by_none true = record { follows = tt; calls = tt }
      by_values (Some (x ∷ xs)) h =
          let w = was_read place.setting.end p.comp (file p.loc) (values place.setting.end file args) (x ∷ xs) h in
          let first_location : w.value ≡ x = (let q = w.are in cc) in
          let others : w.others ≡ xs = (let q = w.are in cc) in
          by_fit x xs (reads_held before held file p.loc agrees reads ∙ w.held ∙ ap Some first_location) (w.rest ∙ ap Some others)
          (are_vals place.setting.end (named (length next)) file) refl
