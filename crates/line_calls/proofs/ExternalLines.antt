-- The lines that make an external call.
use Rattle.std.proofs.Common.{◌≡◌, ℕ, ◌+◌, ◌*◌, Bool, true, false, cond, List, [], ◌∷◌, length, Some, None, slice_index, refl, ap, arith, ◌∙◌, sym, subst}
use Rattle.bs_words.specs.Fits.{fits, type_of_comp}
use Rattle.bs_words.specs.Memory.{Memory}
use Rattle.bs_words.specs.declared.types.Loc.{Loc}
use Rattle.bs_words.specs.declared.types.Loc.TheVariants as loc
use Rattle.bs_words.specs.declared.types.Ret.{Ret}
use Rattle.bs_words.specs.declared.types.Ret.TheVariants as ret
use Rattle.bs_words.specs.declared.types.Ty.TheVariants as ty
use Rattle.bs_words.specs.declared.values.Value.TheVariants.{Word}
use Rattle.cmm_meaning.specs.State.{Gave, Threw}
use Rattle.lin_ir.specs.Formed.{comps, places_of, spare}
use Rattle.lin_ir.specs.Meaning.{Locations, after_label, at_handler, clear_destroyed, on_act, assign_spot, put_if, same_loc, wrote}
use Rattle.lin_ir.specs.declared.lin.Lin.{Lin}
use Rattle.lin_ir.specs.declared.lin.Line.{Line}
use Rattle.lin_ir.specs.declared.lin.LinOp.TheVariants as lin
use Rattle.lin_ir.specs.declared.lin.Spot.{Spot}
use Rattle.mach_ir.specs.Acts.{Around, Goes, On, after_external, is_complete, stuck_unless, raised_by}
use Rattle.mach_ir.specs.Forms.{results_of_type}
use Rattle.mach_ir.specs.Meaning.{Temporaries, is_temporary}
use Rattle.mach_ir.specs.Runs.{ActivationSetting}
use Rattle.mach_ir.specs.Seats.{AreSeated, InOrder, result_locations}
use Rattle.mach_ir.specs.declared.op.External as declared
use Rattle.mach_ir.specs.declared.op.Calling.TheVariants as calling
use Rattle.mach_ir.specs.declared.op.Op.TheVariants as op
use Rattle.rv_machine.specs.Hart.{Placed}
use Rattle.rv_machine.specs.Memory.{code_start, memory_word}
use Rattle.rv_layout_rules.specs.Laid.{address_of_place}
use Rattle.lin_machine.specs.Files.{IsPut}
use Rattle.lin_machine.specs.Follows.{IsAfter, IsAt}
use Rattle.cmm_meaning.specs.Run.{given_back}
use Rattle.lin_machine.specs.Relation.{Below, Laid, StandsFor, Within, blocks_by_serial}
use Rattle.lin_machine.specs.Straight.{Differs}
use Rattle.lin_machine.specs.View.{Fixed, View}
use Rattle.lin_machine.proofs.Following.{put_is, same_loc-machine}
use Rattle.lin_machine.proofs.Standing.{within_put, a0_location}
use Rattle.lin_machine.proofs.Trapping.{handler_is, popped, throws}
use Rattle.line_calls.proofs.Seats.{first_seated}
use Rattle.line_calls.proofs.Traps.{own_trap_of}

-- ---- after the call: what a file has left

clear_same : (held file : Locations) (l : Loc) → held l ≡ file l → clear_destroyed Temporaries held l ≡ clear_destroyed Temporaries file l
clear_same held file (loc.Machine r) e = ap (cond (is_temporary r) None) e
clear_same held file (loc.Slot j) e = e
clear_same held file loc.Unset e = e

module _ (s : Fixed) (laid : Laid) (live : List Line → Type 0) (c : Below) (place : ActivationSetting) (m : Lin) (next : List Line) (young : List Placed)
    (held file : Locations) (same : (l : Loc) → (l ≡ spare → ⊥) → held l ≡ file l) (a : Around) (none : a.raised ≡ None) (whole : is_complete a ≡ true)
    (dead : live next → ⊥) where
  -- it gave a value, or none
  pub gave_after :
      (row : declared.External) (frame : Bool) (args : List Spot) (r : Ret) (results : List Spot) → comps results ≡ results_of_type r →
      AreSeated (InOrder result_locations) (places_of results) → (x : ℕ) (memory : Memory) (z : View) → Within s laid z young 0 (clear_destroyed Temporaries held) a c →
      laid.part (length next) ≡ z.place → ((t : _) → r ≡ ret.Comp t → slice_index z.registers 10 ≡ x) →
      IsAfter s laid live c (on_act place m (record { op = lin.Op (op.Calling (calling.External row frame)); args = args; results = results }) next file a
      (after_external place.setting r frame a (Gave (given_back r x) memory))) z
  gave_after row frame args ret.Unit [] typed seats x memory z within at ten = (
    young,
    clear_destroyed Temporaries held,
    record { others = λ l q. clear_same held file l (same l q); spare_too = λ q. absurd (dead q) },
    record { place = sym at; within = within },
  )
  gave_after row frame args ret.Unit (p ∷ ps) typed seats x memory z within at ten = absurd (cc)
  gave_after row frame args (ret.Comp t) [] typed seats x memory z within at ten = absurd (cc)
  gave_after row frame args (ret.Comp t) (p ∷ ps) typed seats x memory z within at ten =
      let one = first_seated p ps seats in
      subst (λ q. IsAfter s laid live c (on_act place m (record { op = lin.Op (op.Calling (calling.External row frame)); args = args; results = p ∷ q })
      next file a
      (after_external place.setting (ret.Comp t) frame a (Gave (given_back (ret.Comp t) x) memory))) z) (sym one.1)
      (by_fit one.0 (fits place.setting.end (type_of_comp t) (Word x)))
    where
      stands : StandsFor s (blocks_by_serial z young) (slice_index z.registers 10) (Word x)
      stands = record { is = ten t refl; known = tt }

      put_by : p.loc ≡ loc.Machine 10 → (b : Bool) → IsAfter s laid live c (wrote next a (put_if b p (Word x) (Some (clear_destroyed Temporaries file)))) z
      put_by seat false = tt
      put_by seat true =
          let is_put : IsPut (loc.Machine 10) (Word x) (clear_destroyed Temporaries held) (assign_spot p (Word x) (clear_destroyed Temporaries held)) =
          subst (λ l. IsPut l (Word x) (clear_destroyed Temporaries held) (assign_spot p (Word x) (clear_destroyed Temporaries held))) seat
          (put_is p (Word x) (clear_destroyed Temporaries held) (subst (λ l. same_loc l l ≡ true) (sym seat) (same_loc-machine 10))) in (
            young,
            assign_spot p (Word x) (clear_destroyed Temporaries held),
            record {
              others = λ l q. ap (cond (same_loc p.loc l) (Some (Word x))) (clear_same held file l (same l q));
              spare_too = λ q. absurd (dead q);
            },
            record {
              place = sym at;
              within = within_put s laid z young 0 (clear_destroyed Temporaries held) (assign_spot p (Word x) (clear_destroyed Temporaries held)) a c 10 (Word x) a0_location none stands
                  is_put within;
            },
          )

      by_fit : p.loc ≡ loc.Machine 10 → (b : Bool) →
          IsAfter s laid live c (on_act place m (record { op = lin.Op (op.Calling (calling.External row frame)); args = args; results = p ∷ [] }) next file a
          (stuck_unless b (Goes (Word x ∷ []) On a))) z
      by_fit seat false = tt
      by_fit seat true = put_by seat (fits place.setting.end (type_of_comp p.comp) (Word x))

  -- it raised one
  pub threw_after :
      (handlers : (l : ℕ) (rest : List ℕ) → a.tries ≡ l ∷ rest → laid.handler l ≡ address_of_place (laid.part (length (after_label l m.code)))) →
      (no_live : (l : ℕ) (rest : List ℕ) → a.tries ≡ l ∷ rest → live (after_label l m.code) → ⊥) →
      (row : declared.External) (args : List Spot) (r : Ret) (results : List Spot) (x : ℕ) (v u : View) →
      Within s laid v young 0 (clear_destroyed Temporaries held) a c →
      Differs (2 ∷ 6 ∷ 7 ∷ 9 ∷ []) v.memory v u → slice_index u.registers 2 ≡ slice_index v.registers 9 + 16 →
      slice_index u.registers 9 ≡ memory_word v.memory (slice_index v.registers 9 + 8) → code_start + 4 * u.place ≡ memory_word v.memory (slice_index v.registers 9) →
      slice_index u.registers 10 ≡ x →
      IsAfter s laid live c (on_act place m (record { op = lin.Op (op.Calling (calling.External row true)); args = args; results = results }) next file a
      (after_external place.setting r true a (Threw (Word x) a.memory))) u
  threw_after handlers no_live row args r results x v u within differs high points goes ten = by_fit (fits place.setting.end ty.Val (Word x))
    where
      stands : StandsFor s (blocks_by_serial v young) (slice_index u.registers 10) (Word x)
      stands = record { is = ten; known = tt }

      by_tries : (tries : List ℕ) → a.tries ≡ tries →
          IsAfter s laid live c (on_act place m (record { op = lin.Op (op.Calling (calling.External row true)); args = args; results = results }) next file a
          (raised_by (Word x) a tries)) u
      by_tries [] e = (young, throws s laid v u young (clear_destroyed Temporaries held) a c within differs (Word x) stands e whole high points goes)
      by_tries (l ∷ rest) e =
          let own = own_trap_of s laid v young (clear_destroyed Temporaries held) a c within l rest e in
          let up : slice_index u.registers 2 ≡ slice_index v.registers 2 + 16 = high ∙ ap (λ q. q + 16) own in
          let next_trap : slice_index u.registers 9 ≡ memory_word v.memory (slice_index v.registers 2 + 8) = points ∙ ap (λ q. memory_word v.memory (q + 8)) own in
          let there : code_start + 4 * u.place ≡ code_start + 4 * laid.part (length (after_label l m.code)) =
          goes ∙ ap (memory_word v.memory) own ∙ handler_is s laid v u young (clear_destroyed Temporaries held) a c within differs l rest e up next_trap ∙ handlers l rest e in
          subst (λ ts. IsAt s laid live c (record {
            rest = at_handler m.code ts;
            file = file;
            around = record a { tries = rest; raised = Some (Word x) };
          }) u) (sym e) (
            young,
            held,
            record { others = same; spare_too = λ q. absurd (no_live l rest e q) },
            record {
              place = omega (arith, there);
              within = popped s laid v u young (clear_destroyed Temporaries held) a c within differs l rest e up next_trap (Some (Word x)) held stands (λ j y q. q);
            },
          )

      by_fit : (b : Bool) →
          IsAfter s laid live c (on_act place m (record { op = lin.Op (op.Calling (calling.External row true)); args = args; results = results }) next file a
          (stuck_unless b (raised_by (Word x) a a.tries))) u
      by_fit false = tt
      by_fit true = by_tries a.tries refl
