-- The text of a function whose registers have been placed: its labels, tries and forms are as they were, wherever the
-- registers are.
use Rattle.std.proofs.Common.{◌≡◌, ◌≢◌, ℕ, ◌<◌, List, [], ◌∷◌, refl, sym, ap, ◌∙◌, subst}
use Rattle.std.specs.List.{All, AllPairs}
use Rattle.std.proofs.lemmas.List.Elements.{All-map}
use Rattle.mach_ir.specs.Forms.{HasForm, results_of_type}
use Rattle.mach_ir.specs.Formed.{comps, MarkHasForm, IsFormedInstruction, formed_op, formed_mark, AreDistinct, labels_in, WellFormed}
use Rattle.mach_ir.specs.Meaning.{after_label, tries_at}
use Rattle.mach_ir.specs.Walks.{InCode, in_args, in_results, further, IsRegister, is_param, is_colour, is_in_code}
use Rattle.mach_ir.specs.declared.reg.Reg.{Reg}
use Rattle.mach_ir.specs.declared.mach.MachOp.{MachOp}
use Rattle.mach_ir.specs.declared.mach.Instr.{Instr}
use Rattle.mach_ir.specs.declared.mach.Mach.{Mach}
use Rattle.mach_laws.proofs.InPlace as text
use Rattle.mach_laws.proofs.Places.{label_expand, tries_expand}
use Rattle.bs_words.proofs.Lists.{mapped}
use Rattle.colouring_rules.specs.Places.{LocationAssignment, located_register, all_placed, placed_instr, placed_code, with_places}
use Rattle.colouring_rules.proofs.Lists.{was, pairs_mapped}
use Rattle.colouring_rules.proofs.Instructions.{again, same_ops, alone, as_expanded, keeps_marks}

module _ (place : LocationAssignment) where
  -- ---- labels and tries

  pub same_label : (l : ℕ) (code : List Instr) →
      after_label l (placed_code place code) ≡ placed_code place (after_label l code)
  same_label l code =
      ap (after_label l) (as_expanded place code) ∙ label_expand (alone place) (keeps_marks place) l code
      ∙ sym (as_expanded place (after_label l code))

  pub same_tries : (code : List Instr) → tries_at (placed_code place code) ≡ tries_at code
  same_tries code = ap tries_at (as_expanded place code) ∙ tries_expand (alone place) (keeps_marks place) code

  same_labels : (code : List Instr) → labels_in (placed_code place code) ≡ labels_in code
  same_labels code = ap labels_in (as_expanded place code) ∙ text.same_labels (again place) (same_ops place) code

  pub same_comps : (rs : List Reg) → comps (all_placed place rs) ≡ comps rs
  same_comps [] = refl
  same_comps (r ∷ rs) = ap (λ cs. r.comp ∷ cs) (same_comps rs)

  -- ---- registers

  -- what a register of the placed code was
  pub record WasIn (code : List Instr) (r : Reg) : Type 0 where
    pub register : Reg
    pub among : InCode register code
    pub same : located_register place register ≡ r

  was_in : (code : List Instr) (r : Reg) → InCode r (placed_code place code) → WasIn code r
  was_in [] r c = elim c [ ]
  was_in (i ∷ is) r (in_args c) =
      let w = was (located_register place) i.args r c in
      record { register = w.what; among = in_args w.among; same = w.same }
  was_in (i ∷ is) r (in_results c) =
      let w = was (located_register place) i.results r c in
      record { register = w.what; among = in_results w.among; same = w.same }
  was_in (i ∷ is) r (further c) =
      let w = was_in is r c in record { register = w.register; among = further w.among; same = w.same }

  module _ (m : Mach) where
    -- what a register of the placed function was
    pub record WasRegister (r : Reg) : Type 0 where
      pub register : Reg
      pub among : IsRegister m register
      pub same : located_register place register ≡ r

    pub was_register : (r : Reg) → IsRegister (with_places place m) r → WasRegister r
    was_register r (is_param c) =
        let w = was (located_register place) m.params r c in
        record { register = w.what; among = is_param w.among; same = w.same }
    was_register r (is_colour c) =
        let w = was (located_register place) m.colours r c in
        record { register = w.what; among = is_colour w.among; same = w.same }
    was_register r (is_in_code c) =
        let w = was_in m.code r c in
        record { register = w.register; among = is_in_code w.among; same = w.same }

    in_placed : {r : Reg} {code : List Instr} → InCode r code → InCode (located_register place r) (placed_code place code)
    in_placed {r} (in_args {i = i} c) = in_args (mapped (located_register place) i.args r c)
    in_placed {r} (in_results {i = i} c) = in_results (mapped (located_register place) i.results r c)
    in_placed (further c) = further (in_placed c)

    pub is_placed : {r : Reg} → IsRegister m r → IsRegister (with_places place m) (located_register place r)
    is_placed {r} (is_param c) = is_param (mapped (located_register place) m.params r c)
    is_placed {r} (is_colour c) = is_colour (mapped (located_register place) m.colours r c)
    is_placed (is_in_code c) = is_in_code (in_placed c)

  -- ---- well-formed functions

  formed : {i : Instr} → IsFormedInstruction i → IsFormedInstruction (placed_instr place i)
  formed (formed_op {f = f} {args = args} {results = results} h) =
      formed_op
      (subst (λ cs. HasForm f cs (comps (all_placed place results))) (sym (same_comps args))
      (subst (λ cs. HasForm f (comps args) cs) (sym (same_comps results)) h))
  formed (formed_mark {f = f} {args = args} {results = results} h) =
      formed_mark
      (subst (λ cs. MarkHasForm f cs (comps (all_placed place results))) (sym (same_comps args))
      (subst (λ cs. MarkHasForm f (comps args) cs) (sym (same_comps results)) h))

  op_of : (i : Instr) {j : Instr} {f : MachOp} → placed_instr place i ≡ j → j.op ≡ f → i.op ≡ f
  op_of i e h = ap (λ (i : Instr). i.op) e ∙ h

  module _ (m : Mach) (well : WellFormed m) where
    abbrev q : Mach
    q = with_places place m

    -- A well-formed function is so wherever its registers are.
    pub placed_formed : WellFormed (with_places place m)
    placed_formed =
        record {
          numbers = λ r k i j e.
              let w = was_register m r i in
              let v = was_register m k j in
              sym w.same
              ∙ ap (located_register place)
              (well.numbers w.register v.register w.among v.among
              (ap (λ (r : Reg). r.number) w.same ∙ e ∙ sym (ap (λ (r : Reg). r.number) v.same)))
              ∙ v.same;
          params = All-map (λ (r : Reg). r.origin ≡ r.number) (located_register place) m.params well.params;
          params_distinct = pairs_mapped (located_register place) (λ (r q : Reg). r.number ≢ q.number) m.params well.params_distinct;
          instrs = All-map IsFormedInstruction (placed_instr place) m.code (λ k d lt. formed (well.instrs k d lt));
          distinct = All-map (λ (i : Instr). AreDistinct i.results) (placed_instr place) m.code
              (λ k d lt. pairs_mapped (located_register place) (λ (r q : Reg). r.number ≢ q.number) _ (well.distinct k d lt));
          returns = λ i c e.
              let w = was (placed_instr place) m.code i c in
              subst (λ (i : Instr). comps i.args ≡ results_of_type m.result) w.same
              (same_comps (w.what).args ∙ well.returns w.what w.among (op_of w.what w.same e));
          labels_once = subst (λ ls. AllPairs (λ k l. k ≢ l) ls) (sym (same_labels m.code)) well.labels_once;
          labels_below = subst (λ ls. All (λ l. l < m.labels) ls) (sym (same_labels m.code)) well.labels_below;
          labels = text.labels_stand (again place) (same_ops place) m q (as_expanded place m.code) well.labels;
          nested = text.nested (again place) (same_ops place) m q (as_expanded place m.code) well.nested;
          cases = text.cases (again place) (same_ops place) m q (as_expanded place m.code) well.cases;
        }
