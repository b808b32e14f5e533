-- A pass that puts one instruction in the place of each carries, where none of them has more words or operands, and none becomes a
-- frame point, an exit or a return.
use Rattle.std.proofs.Common.{◌≡◌, ℕ, ◌≤◌, cond, List, [], ◌∷◌, length, sym, subst, refl, suc, arith}
use Rattle.std.proofs.lemmas.List.Elements.{All-contains}
use Rattle.mach_ir.specs.Formed.{is_exit}
use Rattle.mach_ir.specs.Meaning.{passes_frame, tries_at}
use Rattle.mach_ir.specs.Walks.{StandsAsInstr, here, below}
use Rattle.mach_ir.specs.declared.op.Leaving.TheVariants as leaving
use Rattle.mach_ir.specs.declared.op.Op.TheVariants as op
use Rattle.mach_ir.specs.declared.mach.Instr.{Instr}
use Rattle.mach_ir.specs.declared.mach.Mach.{Mach}
use Rattle.mach_ir.specs.declared.mach.MachOp.TheVariants as mach
use Rattle.mach_laws.specs.Expand.{expand}
use Rattle.pass_rules.specs.Carried.{OffsetFits, EndsInReturn, at_return, further, IsCarried}
use Rattle.pass_rules.specs.Measures.{instr_words, code_words, code_points, one_if_true, exit_count, operands_with, other_operands}
use Rattle.pass_rules.proofs.Words.{exits_both}
use Rattle.pass_rules.proofs.Carried.{returns_alone}
use Rattle.colouring_rules.specs.Places.{ColoursLow}
use Rattle.mach_laws.proofs.InPlace.{one_each, both, all_in}
use Rattle.mach_laws.proofs.Places.{contains_of}

-- what the instruction in the place of another owes
pub record Replaces (i j : Instr) : Type 0 where
  pub words : instr_words j ≤ instr_words i
  pub points : one_if_true (passes_frame j.op) ≤ one_if_true (passes_frame i.op)
  pub operands : operands_with j.op j.args j.results ≤ operands_with i.op i.args i.results
  pub exit : is_exit j.op ≡ is_exit i.op
  pub fits : OffsetFits i.op → OffsetFits j.op
  pub returns : i.op ≡ mach.Op (op.Leaving leaving.Return) → j.op ≡ mach.Op (op.Leaving leaving.Return)

module _ (again : ℕ → Instr → Instr) where
  abbrev pub AllReplaced : List Instr → Type 0
  AllReplaced code = (i : Instr) (next : List Instr) → StandsAsInstr i next code → Replaces i (again (length next) i)

  abbrev f : ℕ → Instr → List Instr
  f = one_each again

  later : {i : Instr} {is : List Instr} → AllReplaced (i ∷ is) → AllReplaced is
  later all j next s = all j next (below s)

  fewer_words : (code : List Instr) → AllReplaced code → code_words (expand f code) ≤ code_words code
  fewer_words [] all = omega arith
  fewer_words (i ∷ is) all = let one = (all i is here).words in let rest = fewer_words is (later all) in omega (arith, one, rest)

  fewer_points : (code : List Instr) → AllReplaced code → code_points (expand f code) ≤ code_points code
  fewer_points [] all = omega arith
  fewer_points (i ∷ is) all = let one = (all i is here).points in let rest = fewer_points is (later all) in omega (arith, one, rest)

  fewer_operands : (code : List Instr) → AllReplaced code → other_operands (expand f code) ≤ other_operands code
  fewer_operands [] all = omega arith
  fewer_operands (i ∷ is) all = let one = (all i is here).operands in let rest = fewer_operands is (later all) in omega (arith, one, rest)

  fewer_exits : (code : List Instr) → AllReplaced code → exit_count (expand f code) ≤ exit_count code
  fewer_exits [] all = omega arith
  fewer_exits (i ∷ is) all =
      subst (λ b. cond b (suc (exit_count (expand f is))) (exit_count (expand f is)) ≤ exit_count (i ∷ is)) (sym (all i is here).exit)
      (exits_both (is_exit i.op) (exit_count (expand f is)) (exit_count is) (fewer_exits is (later all)))

  still_ends : {code : List Instr} → AllReplaced code → EndsInReturn code → EndsInReturn (expand f code)
  still_ends all (at_return {args = args} {results = results}) =
      let i : Instr = record { op = mach.Op (op.Leaving leaving.Return); args = args; results = results } in
      returns_alone (again 0 i) ((all i [] here).returns refl)
  still_ends all (further e) = further (still_ends (later all) e)

  pub replaced_carried : (m : Mach) → AllReplaced m.code → ((code : List Instr) → tries_at (expand (one_each again) code) ≡ tries_at code) →
      (ColoursLow m → ColoursLow (record m { code = expand (one_each again) m.code })) →
      IsCarried 0 m (record m { code = expand (one_each again) m.code })
  replaced_carried m all tries low =
      record {
        words = let le = fewer_words m.code all in omega (arith, le);
        points = fewer_points m.code all;
        operands = fewer_operands m.code all;
        exits = fewer_exits m.code all;
        tries = λ most known.
            both again m.code (λ j zs. length (tries_at (j ∷ zs)) ≤ most)
            (λ i next s. subst (λ ts. length ts ≤ most) (sym (tries (i ∷ next))) (known i next s));
        offsets = λ fit.
            all_in again m.code (λ (i : Instr). OffsetFits i.op)
            (λ i next s. (all i next s).fits (All-contains (λ (i : Instr). OffsetFits i.op) m.code i fit (contains_of s)));
        ends = still_ends all;
        colours_low = low;
      }
