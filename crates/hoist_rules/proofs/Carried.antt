-- Constants that are made at the entry are as many words as before, and no frame point or exit is new; and what a function
-- keeps then, whole.
use Rattle.std.proofs.Common.{◌≡◌, ℕ, ◌≤◌, Bool, cond, inl, inr, ◌⊎◌, ⊎_elim, List, ◌∷◌, ◌++◌, length, refl, sym, ap, ◌∙◌, subst, arith}
use Rattle.std.specs.Prelude.{slice_index_or}
use Rattle.std.proofs.lemmas.List.Elements.{Contains-get_or, All-contains}
use Rattle.std.proofs.Math.Nat.{le_of_eq}
use Rattle.mach_ir.specs.Formed.{is_exit, WellFormed}
use Rattle.mach_ir.specs.Meaning.{passes_frame, tries_at}
use Rattle.mach_ir.specs.Walks.{StandsAsInstr, here, below}
use Rattle.mach_ir.specs.declared.mach.Instr.{Instr}
use Rattle.mach_ir.specs.declared.mach.Mach.{Mach}
use Rattle.mach_laws.specs.Expand.{expand}
use Rattle.mach_laws.proofs.Places.{tries_expand}
use Rattle.pass_rules.specs.Carried.{OffsetFits, IsCarried}
use Rattle.pass_rules.specs.Measures.{instr_words, code_words, one_if_true, code_points, exit_count, operands_with, other_operands}
use Rattle.pass_rules.proofs.Carried.{exit_one, ends_second}
use Rattle.deadcode_rules.specs.Dropped.{unless_dropped}
use Rattle.deadcode_rules.proofs.Left.{IsMain, was_main, still_ends, tries_here}
use Rattle.deadcode_rules.proofs.Text.{keeps_marks}
use Rattle.bs_words.proofs.Lists.{tail_same}
use Rattle.hoist_rules.specs.Hoisted.{hoisted_instruction, hoisted, MayAllMove, IsHoisted, IsHoistKept}
use Rattle.hoist_rules.proofs.Moved as at_entry_of
use Rattle.hoist_rules.proofs.Whole as whole

module _ (m : Mach) (moves : ℕ → Bool) (may : MayAllMove m moves) (formed : WellFormed m) where
  abbrev q : Mach
  q = hoisted moves m

  abbrev rest_of : Mach
  rest_of = at_entry_of.rest_of m moves may

  abbrev f : ℕ → Instr → List Instr
  f = unless_dropped moves

  abbrev front : List Instr
  front = expand (hoisted_instruction moves) m.code

  -- no try is round the entry
  front_tries : {j : Instr} {zs xs : List Instr} → at_entry_of.Front m moves may xs → {code : List Instr} →
      code ≡ xs ++ rest_of.code → StandsAsInstr j zs code →
      (tries_at (j ∷ zs) ≡ tries_at rest_of.code) ⊎ IsMain moves j zs m.code
  front_tries {j} {zs} at_entry_of.front_end e s =
      inr (was_main moves m.code j zs (subst (StandsAsInstr j zs) e s))
  front_tries (at_entry_of.front_one s h k) e here =
      inl
      (ap tries_at e ∙ at_entry_of.tries_past_front m moves may rest_of.code (at_entry_of.front_one s h k))
  front_tries (at_entry_of.front_one s h k) e (below t) = front_tries k (tail_same e) t

  few_tries : (most : ℕ) → ((i : Instr) (next : List Instr) → StandsAsInstr i next m.code → length (tries_at (i ∷ next)) ≤ most) →
      (i : Instr) (zs : List Instr) → StandsAsInstr i zs q.code → length (tries_at (i ∷ zs)) ≤ most
  few_tries most known i zs s =
      ⊎_elim
      (λ e.
      let n = ap length (e ∙ tries_expand f (keeps_marks moves) m.code ∙ (formed.nested).at_entry) in
      subst (λ k. k ≤ most) (sym n) (least most))
      (λ w.
      subst (λ ts. length ts ≤ most)
      (sym (tries_here moves i w.next w.same))
      (known i w.next w.stands))
      (front_tries (at_entry_of.whole_front m moves may) refl s)
    where
      least : (n : ℕ) → 0 ≤ n
      least n = omega arith

  carried : IsCarried 0 m q
  carried =
      record {
        words = let e = whole.sum_same m moves may code_words instr_words refl (λ i is. refl) in omega (arith, e);
        points = le_of_eq (whole.sum_same m moves may code_points (λ (i : Instr). one_if_true (passes_frame i.op)) refl (λ i is. refl));
        operands = le_of_eq (whole.sum_same m moves may other_operands (λ (i : Instr). operands_with i.op i.args i.results) refl (λ i is. refl));
        exits = le_of_eq (whole.sum_same m moves may exit_count (λ (i : Instr). cond (is_exit i.op) 1 0) refl
            (λ (i : Instr) is. exit_one (is_exit i.op) (exit_count is)));
        tries = λ most known i zs s. few_tries most known i zs s;
        offsets = λ fit k d lt.
            All-contains (λ (i : Instr). OffsetFits i.op) m.code (slice_index_or q.code k d) fit
            (whole.contains_back m moves may (slice_index_or q.code k d) (Contains-get_or q.code k d lt));
        ends = λ e. ends_second front rest_of.code (still_ends moves e);
        colours_low = λ low r k c i e. low r k c (whole.was m moves may k i) e;
      }

  pub kept_by : IsHoistKept m (hoisted moves m)
  kept_by =
      record {
        pass = record {
          keeps = whole.still_keeps m moves may formed;
          formed = whole.still_formed m moves may formed;
          placed = whole.still_placed m moves may formed;
          seated = whole.still_seated m moves may;
        };
        no_larger = record { params = refl; registers = whole.was m moves may; size = whole.same_size m moves may };
        fresh = whole.still_fresh m moves may;
        carried = carried;
      }

-- A function whose constants are made at the entry is kept.
pub hoisted_kept : (m q : Mach) → WellFormed m → IsHoisted m q → IsHoistKept m q
hoisted_kept m q formed h = subst (IsHoistKept m) (sym h.is) (kept_by m h.moves h.may formed)
