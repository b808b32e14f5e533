-- The words of an external call, and what its line does.
use Rattle.std.proofs.Common.{◌≡◌, ℕ, ◌+◌, ◌-◌, ◌*◌, ◌^◌, ◌<◌, inl, inr, Bool, true, false, List, [], ◌∷◌, ◌++◌, length, map, Option, Some, None, slice_get, slice_index, refl, ap, ap₂, arith, ◌∙◌, sym, subst, ⊎_elim}
use Rattle.std.specs.List.{AllByRecursion}
use Rattle.bs_words.specs.Fits.{data_start}
use Rattle.bs_words.specs.Memory.{heap_need}
use Rattle.bs_words.specs.Word.{add_word}
use Rattle.bs_words.proofs.Below.{sext_word-below}
use Rattle.bs_words.specs.declared.types.Loc.{Loc}
use Rattle.bs_words.specs.declared.types.Loc.TheVariants as loc
use Rattle.bs_words.specs.declared.values.Value.{Value}
use Rattle.cmm_meaning.specs.State.{Gave, Outside}
use Rattle.rv_emit_rules.specs.Calls.{external_words}
use Rattle.rv_emit_rules.specs.Constants.{constant_pieces}
use Rattle.rv_emit_rules.specs.Instructions.{ecall, low_12}
use Rattle.image_form.specs.Image.{IsArgument, IsExt}
use Rattle.rv_layout_rules.specs.Laid.{address_of_place, descriptor_laid_at}
use Rattle.rv_layout_rules.specs.Words.{NameAddresses, upper}
use Rattle.rv_layout_rules.proofs.Offsets.{number_lands}
use Rattle.lin_ir.specs.Formed.{comps, places_of, spare}
use Rattle.lin_ir.specs.Meaning.{Locations, NamedAt, after_label, are_vals, is_named_location, on_act, on_values, poisoned, step, unless_misnamed, values}
use Rattle.lin_ir.specs.declared.descr.Descr.{Descr}
use Rattle.lin_ir.specs.declared.lin.Lin.{Lin}
use Rattle.lin_ir.specs.declared.lin.Line.{Line}
use Rattle.lin_ir.specs.declared.lin.LinOp.TheVariants as lin
use Rattle.lin_ir.specs.declared.lin.Spot.{Spot}
use Rattle.mach_ir.specs.Acts.{Around, Asks, after_external, is_complete, stuck_unless, external_row}
use Rattle.mach_ir.specs.Forms.{results_of_type}
use Rattle.mach_ir.specs.Runs.{ActivationSetting}
use Rattle.mach_ir.specs.Seats.{AreSeated, InOrder, argument_locations, in_order, result_locations}
use Rattle.mach_ir.specs.declared.op.External as declared
use Rattle.mach_ir.specs.declared.op.Calling.TheVariants as calling
use Rattle.mach_ir.specs.declared.op.Op.TheVariants as op
use Rattle.rv_isa.specs.declared.instr.AluImmOp.TheVariants.{Addi}
use Rattle.rv_isa.specs.declared.instr.Instr.TheVariants.{Ecall, Lui, OpImm}
use Rattle.rv_isa.specs.declared.register.Register.TheVariants.{T0, T2}
use Rattle.rv_machine.specs.Arithmetic.{imm_i, imm_u}
use Rattle.rv_machine.specs.Frames.{descriptor_at}
use Rattle.rv_machine.specs.Hart.{Placed}
use Rattle.rv_machine.specs.Memory.{code_start}
use Rattle.rv_machine.specs.Services.{Machine, arguments_from, call_made}
use Rattle.rv_machine.specs.Sound.{AreRegisters}
use Rattle.rv_pieces.specs.declared.piece.Piece.TheVariants.{ExternalNumber}
use Rattle.moving_laws.specs.Stands.{AmongNumbers}
use Rattle.lin_machine.specs.Arrival.{ArrivesIn, needs_nothing}
use Rattle.lin_machine.specs.Follows.{Agrees, IsAfter}
use Rattle.lin_machine.specs.Outside.{IsAsking, Taken, counted_call, observed_argument, taken_alone, taken_moving}
use Rattle.cmm_meaning.specs.Run.{given_back}
use Rattle.lin_machine.specs.Relation.{AreCarried, Below, IsDescribed, Laid, Within, blocks_by_serial}
use Rattle.lin_machine.specs.View.{Fixed, IsInstructionAt, HasView, View}
use Rattle.lin_machine.proofs.Arriving.{leads_in}
use Rattle.lin_machine.proofs.Formats.{sets_imm, sets_lui}
use Rattle.lin_machine.proofs.Moving.{hart_of, within_like}
use Rattle.lin_machine.proofs.Operating.{dropped}
use Rattle.lin_machine.proofs.Sequences.{sets_as}
use Rattle.lin_machine.proofs.Serving.{hart_is, with_memory}
use Rattle.lin_machine.proofs.Standing.{IsFree, within_changed, within_less}
use Rattle.line_stands.specs.Names.{IsRowAt}
use Rattle.line_stands.specs.Parts.{PartStands}
use Rattle.line_stands.proofs.Parts.{begins, splits}
use Rattle.lin_laws.proofs.Forms.{same_machine}
use Rattle.line_calls.specs.Calls.{FollowsSo, IsInTable}
use Rattle.line_calls.specs.Reaches.{Reaches}
use Rattle.line_calls.proofs.AllocLines.{dropped_less, dropped_others, no_t0}
use Rattle.line_calls.proofs.Calling.{poisoned_same, vals_held}
use Rattle.line_calls.proofs.ExternalLines.{gave_after, threw_after}
use Rattle.line_calls.proofs.FrameServices.{frame_goes}
use Rattle.line_calls.proofs.Numbers.{constant_reaches}
use Rattle.line_calls.proofs.Outside.{alone_goes, behind, behind_are, behind_others, behind_result, within_behind}
use Rattle.line_calls.proofs.Reaching.{arrived, reaches_as, reaches_more, reaches_set, single}
use Rattle.line_calls.proofs.Seats.{argument_registers, arguments_rise}
use Rattle.line_calls.proofs.Shown.{each_at, few_externals, shown_from, tabled_from}

-- ---- up to the service

module _ (s : Fixed) (n : NameAddresses) (v : View) (are : AreRegisters v.registers) (row : declared.External) (is : IsRowAt s row (n.external (external_row row)))
    (service : ℕ) (small : service < 2 ^ 64) (to : ℕ) (st : PartStands s n v.place to (ExternalNumber T0 row ∷ constant_pieces T2 service ++ ecall ∷ [])) where
  abbrev number : ℕ
  number = n.external (external_row row)

  pub record AtService : Type 0 where
    pub middle : ℕ
    pub reach : Reaches s v middle (5 ∷ 7 ∷ []) v.memory (λ w. (slice_index w.registers 5 ≡ n.external (external_row row)) × (slice_index w.registers 7 ≡ service))
    pub code : IsInstructionAt s middle Ecall
    pub lands : to ≡ middle + 1

  pub at_service : AtService
  at_service =
      let ends = splits s n v.place to (ExternalNumber T0 row ∷ constant_pieces T2 service) (ecall ∷ []) st in
      let open' = begins s n v.place ends.middle (ExternalNumber T0 row) (constant_pieces T2 service) ends.first in
      let last = single s n ends.middle to Ecall ends.second in
      let few = few_externals s number is.ext is.there in
      let high : ℕ = imm_u (upper number) in
      let one = reaches_set s v (v.place + 1) (Lui 5 (upper number)) 4 high open'.code.0 refl (inl (λ q. omega (arith, q))) (sets_lui s v 5
      (upper number)) are
      (omega arith) (sext_word-below _ 32) in
      let u = one.changes.view in
      let here = arrived s v (v.place + 1) (5 ∷ []) v.memory _ one in
      let sum : add_word (slice_index u.registers 5) (imm_i (low_12 number)) ≡ number =
      ap (λ x. add_word x (imm_i (low_12 number))) one.changes.holds ∙ number_lands number (omega (arith, few)) in
      let two = reaches_as s v (v.place + 1 + 1) (5 ∷ []) (5 ∷ 7 ∷ []) v.memory _ (λ w. slice_index w.registers 5 ≡ number)
      (λ q i. ⊎_elim (λ h. inl h) (λ z. absurd z) i) (λ w m p h. h.0)
      (reaches_more s v (v.place + 1) (v.place + 1 + 1) (5 ∷ []) (5 ∷ []) v.memory _ _ one (λ q i. i)
      (reaches_set s u (v.place + 1 + 1) (OpImm Addi 5 5 (low_12 number)) 4 number
      (subst (λ p. IsInstructionAt s p (OpImm Addi 5 5 (low_12 number))) (sym here) open'.code.1.0) (omega (arith, here)) (inl (λ q. omega (arith, q)))
      (sets_as s u (OpImm Addi 5 5 (low_12 number)) 5 _ _ sum (sets_imm s u Addi 5 5 (low_12 number))) one.changes.past.are (omega arith) (omega
      (arith, few)))) in
      let z = two.changes.view in
      let at = arrived s v (v.place + 1 + 1) (5 ∷ 7 ∷ []) v.memory _ two in
      let there : z.place ≡ v.place + 2 = omega (arith, at) in
      record {
        middle = ends.middle;
        reach = reaches_as s v ends.middle (5 ∷ 7 ∷ []) (5 ∷ 7 ∷ []) v.memory _ _ (λ q i. i)
            (λ w m p h. (h.1 5 (λ i. ⊎_elim (λ q. omega (arith, q)) (λ f. f) i) ∙ two.changes.holds, h.0))
            (reaches_more s v (v.place + 1 + 1) ends.middle (5 ∷ 7 ∷ []) (7 ∷ []) v.memory _ _ two (λ q i. inr i)
            (constant_reaches s n T2 6 refl (omega arith) (λ q. omega (arith, q)) z ends.middle service small
            (subst (λ p. PartStands s n p ends.middle (constant_pieces T2 service)) (sym there) open'.rest) two.changes.past.are));
        code = last.0;
        lands = last.1;
      }

two_small : 2 < 2 ^ 64
two_small = omega arith

four_small : 4 < 2 ^ 64
four_small = omega arith

-- t0 and t2 change alone
free_57 : (q : ℕ) → AmongNumbers q (5 ∷ 7 ∷ []) → IsFree q
free_57 q i = record {
  some = ⊎_elim (λ e. omega (arith, e)) (λ j. ⊎_elim (λ e. omega (arith, e)) (λ f. absurd f) j) i;
  no_trap = λ t. ⊎_elim (λ e. omega (arith, e, t)) (λ j. ⊎_elim (λ e. omega (arith, e, t)) (λ f. f) j) i;
  no_young = λ t. ⊎_elim (λ e. omega (arith, e, t)) (λ j. ⊎_elim (λ e. omega (arith, e, t)) (λ f. f) j) i;
  no_domain = λ t. ⊎_elim (λ e. omega (arith, e, t)) (λ j. ⊎_elim (λ e. omega (arith, e, t)) (λ f. f) j) i;
}

module _ (s : Fixed) (n : NameAddresses) (laid : Laid) (live : List Line → Type 0) (entry : ℕ → ℕ) (c : Below) (place : ActivationSetting) (named : NamedAt) (m : Lin)
    (next : List Line) (v : View) (young : List Placed) (held file : Locations) (a : Around) (within : Within s laid v young 0 held a c) (before : Type 0)
    (agrees : Agrees before held file) (k : ℕ) (none : a.raised ≡ None) (behind_is : laid.part (length next) ≡ v.place + k)
    (end_is : place.setting.end ≡ data_start + length s.image.bytes) (dead : live next → ⊥)
    (row : declared.External) (is : IsRowAt s row (n.external (external_row row)))
    (args : List Spot) (seats : AreSeated (InOrder argument_locations) (places_of args)) (of_row : comps args ≡ row.params)
    (results : List Spot) (typed : comps results ≡ results_of_type row.result) (seated : AreSeated (InOrder result_locations) (places_of results)) where
  -- what is held without t0
  abbrev held' : Locations
  held' = dropped 5 held

  same_file : (l : Loc) → (l ≡ spare → ⊥) → dropped 5 held l ≡ file l
  same_file l q = dropped_others held l q ∙ agrees.others l q

  within' : Within s laid v young 0 (dropped 5 held) a c
  within' = within_less s laid v young 0 held (dropped 5 held) a c (dropped_less held) within

  module _ (service : ℕ) (small : service < 2 ^ 64) (to : ℕ) (st : PartStands s n v.place to (ExternalNumber T0 row ∷ constant_pieces T2 service ++ ecall ∷ []))
      (whole : is_complete a ≡ true) (xs : List Value) (read : values place.setting.end file args ≡ Some xs) where
    reached : AtService s n v within.own.are row is service small to st
    reached = at_service s n v within.own.are row is service small to st

    abbrev before_it : View
    before_it = reached.reach.changes.view

    within_it : Within s laid reached.reach.changes.view young 0 (dropped 5 held) a c
    within_it =
        within_changed s laid v reached.reach.changes.view young 0 (dropped 5 held) (dropped 5 held) a c reached.reach.count (5 ∷ 7 ∷ [])
        reached.reach.changes.past free_57
        (record { each = λ l x h. h })
        (λ e q x i h. ⊎_elim (λ f. no_t0 held x (subst (λ r. dropped 5 held (loc.Machine r) ≡ Some x) f h))
        (λ j. ⊎_elim (λ f. ((subst (λ o. AreCarried s (blocks_by_serial v young) v.registers (dropped 5 held) o) none within'.carried) 7 x
        (subst (λ r. dropped 5 held (loc.Machine r) ≡ Some x) f h)).0.no_scratch.1 refl) (λ f. f) j) i) (inl none) within'

    code_it : IsInstructionAt s reached.reach.changes.view.place Ecall
    code_it = subst (λ p. IsInstructionAt s p Ecall) (sym (arrived s v reached.middle (5 ∷ 7 ∷ []) v.memory _ reached.reach)) reached.code

    row_there : slice_get s.image.extcs (slice_index reached.reach.changes.view.registers 5) ≡ Some is.ext
    row_there = ap (slice_get s.image.extcs) reached.reach.changes.holds.0 ∙ is.there

    -- what is observed of the call
    shows : (b : Machine) → HasView s b reached.reach.changes.view → call_made is.ext b.hart ≡ counted_call s (external_row row) xs
    shows b ok = by_seats seats
      where
        u : View
        u = with_memory reached.reach.changes.view b.hart

        there : Within s laid (with_memory reached.reach.changes.view b.hart) young 0 (dropped 5 held) a c
        there = within_like s laid reached.reach.changes.view young 0 (dropped 5 held) a c b.hart.memory ok.memory within_it

        params : comps args ≡ is.ext.params
        params = of_row ∙ sym is.params

        allowed : AllByRecursion IsArgument (comps args)
        allowed = subst (λ cs. AllByRecursion IsArgument cs) (sym params)
            (each_at IsExt s.image.extcs (n.external (external_row row)) is.ext s.functions.tables.extcs.each is.there).params

        by_seats : AreSeated (InOrder argument_locations) (places_of args) → call_made is.ext b.hart ≡ counted_call s (external_row row) xs
        by_seats (in_order more e) =
            let arguments : arguments_from 10 (comps args) (hart_of s (with_memory reached.reach.changes.view b.hart) b.hart) ≡ map (observed_argument s.image) xs =
            shown_from s laid (with_memory reached.reach.changes.view b.hart) young (dropped 5 held) a c there whole b.hart file
            (λ r x l h.
            ((subst (λ o. AreCarried s (blocks_by_serial (with_memory reached.reach.changes.view b.hart) young) reached.reach.changes.view.registers
            (dropped 5 held) o) none
            there.carried) r x (same_file (loc.Machine r) (λ q. let z = same_machine r 5 q in omega (arith, z, l)) ∙ h)).1)
            args xs 9 argument_registers more (omega arith) e arguments_rise (subst (λ z. values z file args ≡ Some xs) end_is read) allowed in
            ap (call_made is.ext) (hart_is s b reached.reach.changes.view ok)
            ∙ ap₂ (λ name ys. record { name = name; shown = ys }) is.name
            (ap (λ cs. arguments_from 10 cs (hart_of s (with_memory reached.reach.changes.view b.hart) b.hart)) (sym params) ∙ arguments)

  -- what is shown is known
  in_table : (xs : List Value) → values place.setting.end file args ≡ Some xs → AllByRecursion (IsInTable s.image) xs
  in_table xs read = by_seats seats
    where
      by_seats : AreSeated (InOrder argument_locations) (places_of args) → AllByRecursion (IsInTable s.image) xs
      by_seats (in_order more e) =
          tabled_from s (blocks_by_serial v young) v.registers place.setting.end file
          (λ r x l h.
          ((subst (λ o. AreCarried s (blocks_by_serial v young) v.registers (dropped 5 held) o) none within'.carried) r x
          (same_file (loc.Machine r) (λ q. let z = same_machine r 5 q in omega (arith, z, l)) ∙ h)).1)
          args xs 9 argument_registers more (omega arith) e arguments_rise read

  -- ---- a call at which no block moves

  abbrev alone : Line
  alone = record { op = lin.Op (op.Calling (calling.External row false)); args = args; results = results }

  module _ (part : PartStands s n v.place (v.place + k) (external_words row false)) where
    alone_asks : (whole : is_complete a ≡ true) (xs : List Value) (read : values place.setting.end file args ≡ Some xs) →
        ArrivesIn 0 (k - 1) s (needs_nothing s) v (IsAsking s (record { top = s.base; stack = 0; heap = heap_need a.memory }) (external_row row) false xs a.memory
        (λ doing w. IsAfter s laid live c (on_act place m alone next file a (after_external place.setting row.result false a doing)) w))
    alone_asks whole xs read =
        let r = reached 2 two_small (v.place + k) part whole xs read in
        let w = r.reach.changes.view in
        let l1 = r.reach.lands in
        let l2 = r.lands in
        let here = arrived s v r.middle (5 ∷ 7 ∷ []) v.memory _ r.reach in
        let b = behind_is in
        let next_place : laid.part (length next) ≡ w.place + 1 = omega (arith, b, l2, here) in
        let ww = within_it 2 two_small (v.place + k) part whole xs read in
        leads_in 0 (k - 1) s r.reach.count (omega arith) (omega (arith, l1, l2)) v w _ r.reach.changes.leads (record {
          ext = is.ext;
          there = row_there 2 two_small (v.place + k) part whole xs read;
          name = is.name;
          params = is.params;
          result = is.result;
          code = code_it 2 two_small (v.place + k) part whole xs read;
          service = r.reach.changes.holds.1;
          made = shows 2 two_small (v.place + k) part whole xs read;
          goes = λ b t ok words taken. inl (alone_goes s w (code_it 2 two_small (v.place + k) part whole xs read) r.reach.changes.holds.1 is.ext
              (row_there 2 two_small (v.place + k) part whole xs read) (counted_call s (external_row row) xs)
              (shows 2 two_small (v.place + k) part whole xs read) a.memory
              (λ t u. IsAfter s laid live c (on_act place m alone next file a (after_external place.setting row.result false a t.doing)) u)
              (λ x answers fits. subst (λ q. IsAfter s laid live c (on_act place m alone next file a
              (after_external place.setting row.result false a (Gave (given_back q x) a.memory))) (record {
                place = w.place + 1;
                registers = behind is.ext.result x w.registers;
                memory = w.memory;
                blocks = w.blocks;
                answers = answers;
                calls = w.calls ++ counted_call s (external_row row) xs ∷ [];
                asked = false;
              })) (sym is.result)
              (gave_after s laid live c place m next young (dropped 5 held) file same_file a none whole dead row false args row.result results
              typed seated x a.memory _
              (within_behind s laid w young (dropped 5 held) a c ww none (w.place + 1) (behind is.ext.result x w.registers) answers
              (w.calls ++ counted_call s (external_row row) xs ∷ []) (behind_are is.ext.result x w.registers fits ww.own.are)
              (λ q i. behind_others is.ext.result x w.registers q i)) next_place
              (λ q f. ap (λ y. slice_index (behind y x w.registers) 10) (is.result ∙ f) ∙ behind_result q x w.registers ww.own.are))) words b t ok
              (subst (λ q. taken_alone a.memory q w.answers ≡ Some t) (sym is.result) taken));
        })

    pub external_alone : FollowsSo (k - 1) s laid live entry c v (laid.frame + 16 * length a.tries) (step place named m (record {
      rest = record { op = lin.Op (op.Calling (calling.External row false)); args = args; results = results } ∷ next;
      file = file;
      around = a;
    }))
    external_alone = by_values (values place.setting.end file args) refl
      where
        by_whole : (xs : List Value) → values place.setting.end file args ≡ Some xs → (t : Bool) → is_complete a ≡ t →
            FollowsSo (k - 1) s laid live entry c v (laid.frame + 16 * length a.tries) (on_act place m alone next file a (stuck_unless t (Asks (Outside
            (external_row row) false) xs
            (after_external place.setting row.result false a))))
        by_whole xs h false e = record { follows = tt; calls = tt }
        by_whole xs h true e = record { follows = alone_asks e xs h; calls = in_table xs h }

        by_values : (o : Option (List Value)) → values place.setting.end file args ≡ o →
            FollowsSo (k - 1) s laid live entry c v (laid.frame + 16 * length a.tries) (on_values place (named (length next)) m alone next file a o)
        by_values None h = record { follows = tt; calls = tt }
        by_values (Some xs) h = by_whole xs h (is_complete a) refl

  -- ---- a frame call

  abbrev framed : Line
  framed = record { op = lin.Op (op.Calling (calling.External row true)); args = args; results = results }

  module _ (saves : laid.saves ≡ true) (e : Descr) (described : IsDescribed laid (length a.tries) (named (length next)) (descriptor_laid_at (v.place + k) e))
      (marked : descriptor_at s.image.descs (address_of_place (v.place + k)) ≡ Some (descriptor_laid_at (v.place + k) e))
      (spared : is_named_location spare (named (length next)) ≡ false)
      (handlers : (l : ℕ) (rest : List ℕ) → a.tries ≡ l ∷ rest → laid.handler l ≡ address_of_place (laid.part (length (after_label l m.code))))
      (no_live : (l : ℕ) (rest : List ℕ) → a.tries ≡ l ∷ rest → live (after_label l m.code) → ⊥)
      (part : PartStands s n v.place (v.place + k) (external_words row true)) where
    agrees' : Agrees ⊥ (dropped 5 held) file
    agrees' = record { others = same_file; spare_too = λ f. absurd f }

    frame_asks : (whole : is_complete a ≡ true) (xs : List Value) (read : values place.setting.end file args ≡ Some xs) →
        are_vals place.setting.end (named (length next)) file ≡ true →
        ArrivesIn 0 (k - 1) s (needs_nothing s) v (IsAsking s (record { top = s.base; stack = 0; heap = heap_need a.memory }) (external_row row) true xs a.memory
        (λ doing w. IsAfter s laid live c (on_act place m framed next (poisoned (named (length next)) file) a
        (after_external place.setting row.result true a doing)) w))
    frame_asks whole xs read vals =
        let r = reached 4 four_small (v.place + k) part whole xs read in
        let w = r.reach.changes.view in
        let l1 = r.reach.lands in
        let l2 = r.lands in
        let here = arrived s v r.middle (5 ∷ 7 ∷ []) v.memory _ r.reach in
        let b = behind_is in
        let next_place : laid.part (length next) ≡ w.place + 1 = omega (arith, b, l2, here) in
        let ww = within_it 4 four_small (v.place + k) part whole xs read in
        let fit : are_vals (data_start + length s.image.bytes) (named (length next)) (dropped 5 held) ≡ true =
        subst (λ z. are_vals z (named (length next)) (dropped 5 held) ≡ true) end_is
        (vals_held place.setting.end ⊥ (dropped 5 held) file (named (length next)) agrees' spared ∙ vals) in
        let address : address_of_place (v.place + k) ≡ code_start + 4 * w.place + 4 = omega (arith, l2, here) in
        let there : descriptor_at s.image.descs (code_start + 4 * w.place + 4) ≡ Some (descriptor_laid_at (v.place + k) e) =
        subst (λ p. descriptor_at s.image.descs p ≡ Some (descriptor_laid_at (v.place + k) e)) address marked in
        let same_lost : (l : Loc) → (l ≡ spare → ⊥) → poisoned (named (length next)) (dropped 5 held) l ≡ poisoned (named (length next)) file l =
        λ l q. poisoned_same (named (length next)) (dropped 5 held) file l (same_file l q) in
        let P : Taken → View → Type 0 = λ t u. IsAfter s laid live c (on_act place m framed next (poisoned (named (length next)) file) a
        (after_external place.setting row.result true a t.doing)) u in
        leads_in 0 (k - 1) s r.reach.count (omega arith) (omega (arith, l1, l2)) v w _ r.reach.changes.leads (record {
          ext = is.ext;
          there = row_there 4 four_small (v.place + k) part whole xs read;
          name = is.name;
          params = is.params;
          result = is.result;
          code = code_it 4 four_small (v.place + k) part whole xs read;
          service = r.reach.changes.holds.1;
          made = shows 4 four_small (v.place + k) part whole xs read;
          goes = λ b t ok words taken. frame_goes s w (code_it 4 four_small (v.place + k) part whole xs read) r.reach.changes.holds.1 is.ext
              (row_there 4 four_small (v.place + k) part whole xs read) (counted_call s (external_row row) xs)
              (shows 4 four_small (v.place + k) part whole xs read) laid young (dropped 5 held) a c ww (named (length next)) (descriptor_laid_at
              (v.place + k) e) described
              saves fit whole none there (record { top = s.base; stack = 0; heap = heap_need a.memory }) refl a.memory P words
              (λ x answers u wu at ten. subst (λ q. IsAfter s laid live c (on_act place m framed next (poisoned (named (length next)) file) a
              (after_external place.setting row.result true a (Gave (given_back q x) a.memory))) u) (sym is.result)
              (gave_after s laid live c place m next [] (poisoned (named (length next)) (dropped 5 held)) (poisoned (named
              (length next)) file) same_lost a none whole
              dead row true args row.result results typed seated x a.memory u wu (next_place ∙ sym at) (λ q f. ten q (is.result ∙ f))))
              (λ x answers v' u wv df h2 h9 hp h10.
              threw_after s laid live c place m next [] (poisoned (named (length next)) (dropped 5 held)) (poisoned (named
              (length next)) file) same_lost a none whole
              dead handlers no_live row args row.result results x v' u wv df h2 h9 hp h10)
              b t ok (subst (λ q. taken_moving a.memory q w.answers ≡ Some t) (sym is.result) taken);
        })

    pub external_framed : FollowsSo (k - 1) s laid live entry c v (laid.frame + 16 * length a.tries) (step place named m (record {
      rest = record { op = lin.Op (op.Calling (calling.External row true)); args = args; results = results } ∷ next;
      file = file;
      around = a;
    }))
    external_framed = by_values (values place.setting.end file args) refl
      where
        by_whole : (xs : List Value) → values place.setting.end file args ≡ Some xs → are_vals place.setting.end (named (length next)) file ≡ true →
            (t : Bool) →
            is_complete a ≡ t →
            FollowsSo (k - 1) s laid live entry c v (laid.frame + 16 * length a.tries) (on_act place m framed next (poisoned (named (length next)) file) a
            (stuck_unless t (Asks (Outside (external_row row) true) xs (after_external place.setting row.result true a))))
        by_whole xs h f false e = record { follows = tt; calls = tt }
        by_whole xs h f true e = record { follows = frame_asks e xs h f; calls = in_table xs h }

        by_fit : (xs : List Value) → values place.setting.end file args ≡ Some xs → (t : Bool) → are_vals place.setting.end (named (length next)) file ≡ t →
            FollowsSo (k - 1) s laid live entry c v (laid.frame + 16 * length a.tries) (unless_misnamed t (on_act place m framed next (poisoned (named
            (length next)) file) a
            (stuck_unless (is_complete a) (Asks (Outside (external_row row) true) xs (after_external place.setting row.result true a)))))
        by_fit xs h false f = record { follows = tt; calls = tt }
        by_fit xs h true f = by_whole xs h f (is_complete a) refl

        by_values : (o : Option (List Value)) → values place.setting.end file args ≡ o →
            FollowsSo (k - 1) s laid live entry c v (laid.frame + 16 * length a.tries) (on_values place (named (length next)) m framed next file a o)
        by_values None h = record { follows = tt; calls = tt }
        by_values (Some xs) h = by_fit xs h (are_vals place.setting.end (named (length next)) file) refl
