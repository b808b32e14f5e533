-- Dropping what only computes and is not used carries: no word, frame point or exit is new, and tries are where they were.
use Rattle.std.proofs.Common.{ℕ, suc, ◌≤◌, Bool, true, false, cond, List, [], ◌∷◌, length, sym, ap, subst, arith}
use Rattle.std.specs.Prelude.{slice_index_or}
use Rattle.std.proofs.lemmas.List.Elements.{Contains-get_or, All-contains}
use Rattle.hoist_rules.specs.Known.{unless_dropped, dropped, AreDead, IsDropped}
use Rattle.pass_rules.specs.Carried.{OffsetFits, IsCarried}
use Rattle.pass_rules.specs.Measures.{code_words, code_points, exit_count, other_operands}
use Rattle.hoist_rules.proofs.Known.{was_main, still_ends, tries_here, contains_back, was_register, Fate, falls, remains, fate}
use Rattle.pass_rules.proofs.Words.{exits_both}
use Rattle.mach_ir.specs.Formed.{is_exit, WellFormed}
use Rattle.mach_ir.specs.declared.mach.Instr.{Instr}
use Rattle.mach_ir.specs.declared.mach.Mach.{Mach}
use Rattle.mach_laws.specs.Expand.{expand}

exits_later : (b : Bool) (n : ℕ) → n ≤ cond b (suc n) n
exits_later true n = omega arith
exits_later false n = omega arith

module _ (m : Mach) (drops : ℕ → Bool) (dead : AreDead m drops) where
  abbrev q : Mach
  q = dropped drops m

  abbrev f : ℕ → Instr → List Instr
  f = unless_dropped drops

  -- ---- measures

  fewer_words : (code : List Instr) → code_words (expand f code) ≤ code_words code
  fewer_words [] = omega arith
  fewer_words (i ∷ is) = by (fate drops i is) (fewer_words is)
    where
      by : Fate drops i is → code_words (expand f is) ≤ code_words is → code_words (expand f (i ∷ is)) ≤ code_words (i ∷ is)
      by (falls g d s h) le =
          let e = ap code_words h in omega (arith, e, le)
      by (remains k s h) le =
          let e = ap code_words h in omega (arith, e, le)

  fewer_points : (code : List Instr) → code_points (expand f code) ≤ code_points code
  fewer_points [] = omega arith
  fewer_points (i ∷ is) = by (fate drops i is) (fewer_points is)
    where
      by : Fate drops i is → code_points (expand f is) ≤ code_points is → code_points (expand f (i ∷ is)) ≤ code_points (i ∷ is)
      by (falls g d s h) le =
          let e = ap code_points h in omega (arith, e, le)
      by (remains k s h) le =
          let e = ap code_points h in omega (arith, e, le)

  fewer_operands : (code : List Instr) → other_operands (expand f code) ≤ other_operands code
  fewer_operands [] = omega arith
  fewer_operands (i ∷ is) = by (fate drops i is) (fewer_operands is)
    where
      by : Fate drops i is → other_operands (expand f is) ≤ other_operands is →
          other_operands (expand f (i ∷ is)) ≤ other_operands (i ∷ is)
      by (falls g d s h) le =
          let e = ap other_operands h in omega (arith, e, le)
      by (remains k s h) le =
          let e = ap other_operands h in omega (arith, e, le)

  fewer_exits : (code : List Instr) → exit_count (expand f code) ≤ exit_count code
  fewer_exits [] = omega arith
  fewer_exits (i ∷ is) = by (fate drops i is) (fewer_exits is)
    where
      by : Fate drops i is → exit_count (expand f is) ≤ exit_count is → exit_count (expand f (i ∷ is)) ≤ exit_count (i ∷ is)
      by (falls g d s h) le =
          let e = ap exit_count h in
          let more = exits_later (is_exit i.op) (exit_count is) in omega (arith, e, le, more)
      by (remains k s h) le =
          let e = ap exit_count h in
          let both = exits_both (is_exit i.op) (exit_count (expand f is)) (exit_count is) le in omega (arith, e, both)

  -- ---- the rest

  carried : IsCarried 0 m (dropped drops m)
  carried =
      record {
        words = let le = fewer_words m.code in omega (arith, le);
        points = fewer_points m.code;
        operands = fewer_operands m.code;
        exits = fewer_exits m.code;
        tries = λ most known i zs s.
            let w = was_main drops m.code i zs s in
            subst (λ ts. length ts ≤ most) (sym (tries_here drops i w.next w.same)) (known i w.next w.stands);
        offsets = λ fit k d lt.
            All-contains (λ (i : Instr). OffsetFits i.op) m.code (slice_index_or q.code k d) fit
            (contains_back drops m.code (slice_index_or q.code k d) (Contains-get_or q.code k d lt));
        ends = still_ends drops;
        colours_low = λ low r k c i e. low r k c (was_register m drops dead k i) e;
      }

-- Dropping carries.
pub dropped_carried : {m q : Mach} → WellFormed m → IsDropped m q → IsCarried 0 m q
dropped_carried {m} formed d = subst (IsCarried 0 m) (sym d.is) (carried m d.drops d.dead)
