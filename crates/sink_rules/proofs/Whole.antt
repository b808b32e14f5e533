-- The code grows by at most a copy for each register that is moved; and what a function with moves keeps, whole.
use Rattle.std.proofs.Common.{◌≡◌, ℕ, ◌+◌, ◌*◌, ◌≤◌, cond, List, [], ◌∷◌, length, refl, sym, ap, ◌∙◌, subst, arith}
use Rattle.std.proofs.lemmas.List.Elements.{All-contains}
use Rattle.mach_ir.specs.Formed.{is_exit, WellFormed}
use Rattle.mach_ir.specs.Meaning.{passes_frame, tries_at, tries_past}
use Rattle.mach_ir.specs.Sizes.{HasSize}
use Rattle.mach_ir.specs.Walks.{IsRegister}
use Rattle.mach_ir.specs.declared.reg.Reg.{Reg}
use Rattle.mach_ir.specs.declared.mach.Instr.{Instr}
use Rattle.mach_ir.specs.declared.mach.Mach.{Mach}
use Rattle.pass_rules.specs.Known.{same_spot}
use Rattle.pass_rules.specs.Carried.{OffsetFits, TriesAtMost, EndsInReturn, at_return, further, IsCarried}
use Rattle.pass_rules.specs.Measures.{copy_words, instr_words, code_words, one_if_true, code_points, exit_count, operands_with, other_operands}
use Rattle.pass_rules.proofs.Carried.{exit_one}
use Rattle.pass_rules.proofs.Words.{at_most_copy}
use Rattle.sink_rules.specs.Sunk.{SinkPlan, to_itself, sunk, IsSinkPlan, IsSinkKept}
use Rattle.sink_rules.proofs.Formed.{each_in, tries_so, main_tries, still_formed, still_placed, still_seated, still_keeps}
use Rattle.sink_rules.proofs.Sizes.{sum_within, with_moves, sunk_size, few, few_open}
use Rattle.sink_rules.proofs.Text as text

module _ (m : Mach) (plan : SinkPlan) (formed : WellFormed m) (is : IsSinkPlan m plan) where
  abbrev q : Mach
  q = text.laid m plan is

  abbrev Laid : List Instr → List Instr → Type 0
  Laid = text.Laid m plan is

  -- a sum grows by so much for each register
  grows : (M : List Instr → ℕ) (one : Instr → ℕ) (most : ℕ) → M [] ≡ 0 → ((i : Instr) (is : List Instr) → M (i ∷ is) ≡ one i + M is) →
      ((r : Reg) → one (to_itself r) ≤ most) → M q.code ≤ M m.code + most * length plan.registers
  grows M one most none step each =
      subst (λ (k : Mach). M k.code ≤ M m.code + most * length plan.registers) (text.sunk_is_laid m plan is)
      (sum_within m plan is M one most none step each)

  stays : (M : List Instr → ℕ) (one : Instr → ℕ) → M [] ≡ 0 → ((i : Instr) (is : List Instr) → M (i ∷ is) ≡ one i + M is) →
      ((r : Reg) → one (to_itself r) ≤ 0) → M q.code ≤ M m.code
  stays M one none step each = let h = grows M one 0 none step each in omega (arith, h)

  few_tries : (most : ℕ) → TriesAtMost m most → (i : Instr) (zs : List Instr) → text.Whence m plan is i zs → length (tries_at (i ∷ zs)) ≤ most
  few_tries most known i zs (text.itself {i = j} {next = next} r t k e h) =
      subst (λ ts. length ts ≤ most)
      (sym (ap (λ (i : Instr). tries_past i.op (tries_at zs)) e ∙ tries_so m plan formed is h))
      (known j next t)
  few_tries most known i zs (text.left {next = next} t h) =
      subst (λ ts. length ts ≤ most) (sym (main_tries m plan formed is i h)) (known i next t)

  still_ends : {rest ys : List Instr} → Laid rest ys → EndsInReturn rest → EndsInReturn ys
  still_ends text.laid_end p = elim p [ ]
  still_ends (text.moves r e k h) p = further (still_ends h p)
  still_ends (text.main e text.laid_end) at_return = at_return
  still_ends (text.main e h) (further p) = further (still_ends h p)

  was : (r : Reg) → IsRegister q r → IsRegister m r
  was = text.was_register m plan is

  carried : IsCarried (copy_words * length plan.registers) m q
  carried =
      record {
        words = grows code_words instr_words copy_words refl (λ i is. refl)
            (λ r. at_most_copy (same_spot (r ∷ []) (r ∷ [])));
        points = stays code_points (λ (i : Instr). one_if_true (passes_frame i.op)) refl (λ i is. refl) (λ r. omega arith);
        operands = stays other_operands (λ (i : Instr). operands_with i.op i.args i.results) refl (λ i is. refl) (λ r. omega arith);
        exits = stays exit_count (λ (i : Instr). cond (is_exit i.op) 1 0) refl (λ (i : Instr) is. exit_one (is_exit i.op) (exit_count is))
            (λ r. omega arith);
        tries = λ most known i zs s. few_tries most known i zs (text.whence m plan is s);
        offsets = λ fit.
            each_in m plan formed is (λ (i : Instr). OffsetFits i.op) (λ r k. tt)
            (λ i c. All-contains (λ (i : Instr). OffsetFits i.op) m.code i fit c);
        ends = still_ends (text.whole_laid m plan is);
        colours_low = λ low r k c i e. low r k c (was k i) e;
      }

  old : (r : Reg) → IsRegister (sunk plan m) r → IsRegister m r
  old = subst (λ (k : Mach). (r : Reg) → IsRegister k r → IsRegister m r) (sym (text.sunk_is_laid m plan is)) was

  laid_kept : IsSinkKept m q plan
  laid_kept =
      record {
        pass = record {
          keeps = still_keeps m plan formed is;
          formed = still_formed m plan formed is;
          placed = still_placed m plan formed is;
          seated = still_seated m plan formed is;
        };
        params = refl;
        registers = was;
        size = λ s h.
            subst (λ (k : Mach). HasSize k (with_moves m plan is s)) (text.sunk_is_laid m plan is) (sunk_size m plan is old s h);
        carried = carried;
        few = few m plan is;
        few_open = few_open m plan is;
      }

  -- A function in which registers are moved to themselves by a plan is kept.
  pub sunk_kept : IsSinkKept m (sunk plan m) plan
  sunk_kept = subst (λ (k : Mach). IsSinkKept m k plan) (sym (text.sunk_is_laid m plan is)) laid_kept
