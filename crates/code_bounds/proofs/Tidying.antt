-- Words and frame points do not grow where code is lowered and where lines are tidied, but for the tests of loops that are turned round.
use Rattle.std.proofs.Common.{◌≡◌, ℕ, zero, suc, ◌+◌, ◌*◌, ◌≤◌, Bool, true, false, cond, List, [], ◌∷◌, ◌++◌, length, map, Option, Some, None, refl, sym, ap, subst, arith}
use Rattle.std.proofs.lemmas.List.{length-map}
use Rattle.mach_ir.specs.Formed.{is_exit}
use Rattle.mach_ir.specs.declared.mach.Instr.{Instr}
use Rattle.mach_ir.specs.declared.mach.Mach.{Mach}
use Rattle.mach_ir.specs.declared.mach.MachOp.{MachOp}
use Rattle.mach_ir.specs.declared.mach.MachOp.TheVariants as mach
use Rattle.mach_ir.specs.declared.mach.Mark.{Mark}
use Rattle.mach_ir.specs.declared.mach.Mark.TheVariants as mark
use Rattle.mach_ir.specs.Meaning as machs
use Rattle.mach_ir.specs.declared.op.Op.TheVariants as op
use Rattle.mach_ir.specs.declared.op.Pure.TheVariants as pure
use Rattle.pass_rules.specs.Measures.{copy_words, mark_words, words_for_instr, instr_words, code_words, one_if_true, code_points, exit_count}
use Rattle.lin_ir.specs.Descriptors.{frame_point_count}
use Rattle.lin_ir.specs.Formed.{bare_flow}
use Rattle.lin_ir.specs.Meaning.{passes_frame}
use Rattle.lin_ir.specs.declared.lin.Flow.TheVariants as flow
use Rattle.lin_ir.specs.declared.lin.LinOp.{LinOp}
use Rattle.lin_ir.specs.declared.lin.LinOp.TheVariants as lin
use Rattle.lin_ir.specs.declared.lin.Line.{Line}
use Rattle.lin_ir.specs.declared.lin.Lin.{Lin}
use Rattle.linearise_rules.specs.Lowered as lower
use Rattle.linearise_rules.specs.Lowered.{is_idle, pops, line_of, spot_of_register, lines_of_mark, lines_of, lowered_one, lowered_code, slot_number, lowered}
use Rattle.linearise_rules.proofs.Walked.{Tail, tail_all, tail_next, tail_stands}
use Rattle.lin_tidy_rules.specs.Leaving.{without_lines, LeavesOften, not_once, once_more}
use Rattle.lin_tidy_rules.specs.Redirecting.{redirected_operation, redirect, final_label, last_exit, redirected_all}
use Rattle.lin_tidy_rules.specs.Regular.{IsRegular}
use Rattle.lin_tidy_rules.specs.Tidied.{IsTidied}
use Rattle.lin_tidy_rules.specs.Turning.{Turn, label_put, tested_again, turned_line, turned_lines, Turns, turned_all}
use Rattle.lin_tidy_rules.proofs.Following.{redirects_all}
use Rattle.lin_tidy_rules.proofs.Redirecting.{jump_same, same_frame}
use Rattle.lin_tidy_rules.proofs.Tidied.{redirecting_regular}
use Rattle.lin_tidy_rules.proofs.TurningAll.{turns_all}
use Rattle.code_bounds.specs.Lines as lines
use Rattle.code_bounds.specs.Lines.{line_words, lines_words, turning_words, turned_words}

-- ---- lowering

points_next : (i : Line) (next : List Line) → frame_point_count (i ∷ next) ≡ one_if_true (passes_frame i.op) + frame_point_count next
points_next i next = by (passes_frame i.op)
  where
    by : (b : Bool) → cond b (suc (frame_point_count next)) (frame_point_count next) ≡ one_if_true b + frame_point_count next
    by true = omega arith
    by false = omega arith

exits_next : (i : Instr) (is : List Instr) → exit_count (i ∷ is) ≡ one_if_true (is_exit i.op) + exit_count is
exits_next i is = by (is_exit i.op)
  where
    by : (b : Bool) → cond b (suc (exit_count is)) (exit_count is) ≡ one_if_true b + exit_count is
    by true = omega arith
    by false = omega arith

module _ (number : ℕ → ℕ) where
  pop_words : (n : ℕ) (next : List Line) → turned_words (pops number n next) ≡ 2 * n + turned_words next
  pop_words zero next = omega arith
  pop_words (suc n) next = let others = pop_words n next in omega (arith, others)

  pop_points : (n : ℕ) (next : List Line) → frame_point_count (pops number n next) ≡ frame_point_count next
  pop_points zero next = refl
  pop_points (suc n) next = pop_points n next

  mark_words_lower : (f : Mark) (i : Instr) (next : List Line) →
      turned_words (lines_of_mark number f i next) ≤ mark_words f + 16 * length i.results + 17 * one_if_true (is_exit (mach.Mark f)) + turned_words next
  mark_words_lower (mark.Exit l n) i next = let all = pop_words n (bare_flow (flow.Exit l) ∷ next) in omega (arith, all)
  mark_words_lower (mark.If t l) i next = let same = length-map i.results (spot_of_register number) in omega (arith, same)
  mark_words_lower (mark.Else l end) i next = omega arith
  mark_words_lower (mark.Switch labels) i next = let same = length-map i.results (spot_of_register number) in omega (arith, same)
  mark_words_lower (mark.Case indexes l end) i next = omega arith
  mark_words_lower mark.Catch i next = omega arith
  mark_words_lower (mark.With l end) i next = omega arith
  mark_words_lower (mark.Try l) i next = let same = length-map i.results (spot_of_register number) in omega (arith, same)
  mark_words_lower (mark.Leave l end) i next = omega arith
  mark_words_lower (mark.Handler l) i next = let same = length-map i.results (spot_of_register number) in omega (arith, same)
  mark_words_lower (mark.End l) i next = omega arith

  mark_points_lower : (f : Mark) (i : Instr) (next : List Line) → frame_point_count (lines_of_mark number f i next) ≡ frame_point_count next
  mark_points_lower (mark.Exit l n) i next = pop_points n (bare_flow (flow.Exit l) ∷ next)
  mark_points_lower (mark.If t l) i next = refl
  mark_points_lower (mark.Else l end) i next = refl
  mark_points_lower (mark.Switch labels) i next = refl
  mark_points_lower (mark.Case indexes l end) i next = refl
  mark_points_lower mark.Catch i next = refl
  mark_points_lower (mark.With l end) i next = refl
  mark_points_lower (mark.Try l) i next = refl
  mark_points_lower (mark.Leave l end) i next = refl
  mark_points_lower (mark.Handler l) i next = refl
  mark_points_lower (mark.End l) i next = refl

  op_words_lower : (f : MachOp) (i : Instr) (next : List Line) → is_idle f i.args i.results ≡ false →
      turned_words (lines_of number f i next) ≤ words_for_instr f i.args i.results + 17 * one_if_true (is_exit f) + turned_words next
  op_words_lower (mach.Op (op.Pure (pure.Copy kind))) i next moves =
      subst (λ (b : Bool). copy_words + 0 + turned_words next ≤ cond b 0 copy_words + 17 * 0 + turned_words next) (sym moves) (omega arith)
  op_words_lower (mach.Op (op.Pure (pure.Constant w))) i next moves = let same = length-map i.results (spot_of_register number) in omega (arith, same)
  op_words_lower (mach.Op (op.Pure (pure.Symbol name))) i next moves = let same = length-map i.results (spot_of_register number) in omega (arith, same)
  op_words_lower (mach.Op (op.Pure (pure.Operator f r))) i next moves = let same = length-map i.results (spot_of_register number) in omega (arith, same)
  op_words_lower (mach.Op (op.Access f)) i next moves = let same = length-map i.results (spot_of_register number) in omega (arith, same)
  op_words_lower (mach.Op (op.Calling f)) i next moves = let same = length-map i.results (spot_of_register number) in omega (arith, same)
  op_words_lower (mach.Op (op.Leaving f)) i next moves = let same = length-map i.results (spot_of_register number) in omega (arith, same)
  op_words_lower (mach.Mark f) i next moves = mark_words_lower f i next

  op_points_lower : (f : MachOp) (i : Instr) (next : List Line) → frame_point_count (lines_of number f i next) ≡ one_if_true (machs.passes_frame f) + frame_point_count next
  op_points_lower (mach.Op f) i next = points_next (line_of number (lin.Op f) i) next
  op_points_lower (mach.Mark f) i next = let same = mark_points_lower f i next in omega (arith, same)

  one_words : (i : Instr) (next : List Line) → turned_words (lowered_one number i next) ≤ instr_words i + 17 * one_if_true (is_exit i.op) + turned_words next
  one_words i next = by (is_idle i.op i.args i.results) refl
    where
      by : (b : Bool) → is_idle i.op i.args i.results ≡ b →
          turned_words (cond b next (lines_of number i.op i next)) ≤ instr_words i + 17 * one_if_true (is_exit i.op) + turned_words next
      by true idle = omega arith
      by false moves = op_words_lower i.op i next moves

  one_points : (i : Instr) (next : List Line) → frame_point_count (lowered_one number i next) ≤ one_if_true (machs.passes_frame i.op) + frame_point_count next
  one_points i next = by (is_idle i.op i.args i.results)
    where
      by : (b : Bool) → frame_point_count (cond b next (lines_of number i.op i next)) ≤ one_if_true (machs.passes_frame i.op) + frame_point_count next
      by true = omega arith
      by false = let same = op_points_lower i.op i next in omega (arith, same)

  pub lowered_words : (code : List Instr) → turned_words (lowered_code number code) ≤ code_words code + 17 * exit_count code
  lowered_words [] = omega arith
  lowered_words (i ∷ is) =
      let here = one_words i (lowered_code number is) in
      let others = lowered_words is in
      let split = exits_next i is in
      omega (arith, here, others, split)

  pub lowered_points : (code : List Instr) → frame_point_count (lowered_code number code) ≤ code_points code
  lowered_points [] = omega arith
  lowered_points (i ∷ is) =
      let here = one_points i (lowered_code number is) in
      let others = lowered_points is in
      omega (arith, here, others)

-- ---- tidying

-- the code has no more words and frame points than the other
pub record NoLarger (q p : List Line) : Type 0 where
  pub words : lines_words q ≤ lines_words p
  pub points : frame_point_count q ≤ frame_point_count p

no_larger_then : {r q p : List Line} → NoLarger r q → NoLarger q p → NoLarger r p
no_larger_then {r} {q} {p} a b =
    let words = a.words in
    let more_words = b.words in
    let points = a.points in
    let more_points = b.points in
    record { words = omega (arith, words, more_words); points = omega (arith, points, more_points) }

without_no_larger : (goes : ℕ → Bool) (code : List Line) → NoLarger (without_lines goes code) code
without_no_larger goes [] = record { words = omega arith; points = omega arith }
without_no_larger goes (i ∷ next) = by (goes (length next)) (without_no_larger goes next)
  where
    by : (b : Bool) → NoLarger (without_lines goes next) next → NoLarger (cond b (without_lines goes next) (i ∷ without_lines goes next)) (i ∷ next)
    by true others =
        let words = others.words in
        let points = others.points in
        let here = points_next i next in
        record { words = omega (arith, words); points = omega (arith, points, here) }
    by false others =
        let words = others.words in
        let points = others.points in
        let here = points_next i next in
        let there = points_next i (without_lines goes next) in
        record { words = omega (arith, words); points = omega (arith, points, here, there) }

often_no_larger : {q r : Lin} → LeavesOften q r → NoLarger r.code q.code
often_no_larger not_once = record { words = omega arith; points = omega arith }
often_no_larger {q} (once_more {q = p} way l) =
    subst (λ (r : Lin). NoLarger r.code q.code) (sym l.is) (no_larger_then (without_no_larger l.goes p.code) (often_no_larger way))

-- a jump and an exit are as many words, and either may be turned
redirected_words : (to : ℕ → ℕ) (exit_count : ℕ → Option ℕ) (f : LinOp) (n : ℕ) →
    lines.words_for_line (redirected_operation to exit_count f) n + turning_words (redirected_operation to exit_count f) ≡ lines.words_for_line f n + turning_words f
redirected_words to exit_count (lin.Op f) n = refl
redirected_words to exit_count (lin.Flow (flow.Jump l)) n =
    jump_same (λ f. lines.words_for_line f n + turning_words f) _ (λ l. refl) (λ l. refl) (exit_count l) (to l)
redirected_words to exit_count (lin.Flow (flow.Exit l)) n = refl
redirected_words to exit_count (lin.Flow (flow.Branch test l)) n = refl
redirected_words to exit_count (lin.Flow f) n = refl

-- the code has no more words than the other may have once loops are turned, and no more frame points
pub record Fits (q p : List Line) : Type 0 where
  pub words : lines_words q ≤ turned_words p
  pub points : frame_point_count q ≤ frame_point_count p

fits_then : {r q p : List Line} → NoLarger r q → Fits q p → Fits r p
fits_then {r} {q} {p} a b =
    let words = a.words in
    let more_words = b.words in
    let points = a.points in
    let more_points = b.points in
    record { words = omega (arith, words, more_words); points = omega (arith, points, more_points) }

fits_redirected : (to : ℕ → ℕ) (exit_count : ℕ → Option ℕ) {r code : List Line} → Fits r (map (redirect to exit_count) code) → Fits r code
fits_redirected to exit_count {r} {code} fits =
    let words = fits.words in
    let points = fits.points in
    let same_words = all_words code in
    let same_points = all_points code in
    record { words = omega (arith, words, same_words); points = omega (arith, points, same_points) }
  where
    all_words : (code : List Line) → turned_words (map (redirect to exit_count) code) ≡ turned_words code
    all_words [] = refl
    all_words (i ∷ next) =
        let others = all_words next in
        let own = redirected_words to exit_count i.op (length i.results) in
        omega (arith, others, own)

    all_points : (code : List Line) → frame_point_count (map (redirect to exit_count) code) ≡ frame_point_count code
    all_points [] = refl
    all_points (i ∷ next) =
        let others = all_points next in
        let here = points_next i next in
        let there = points_next (redirect to exit_count i) (map (redirect to exit_count) next) in
        let same = ap one_if_true (same_frame to exit_count i.op) in
        omega (arith, others, here, there, same)

module _ (m r : Lin) (h : Turns m r) where
  -- an exit that is turned has its own words and those of a branch and a jump, and labels have none
  lines_fit : (is : List Line) → Tail is m.code → Fits (turned_lines h.turns h.opens is) is
  lines_fit [] w = record { words = omega arith; points = omega arith }
  lines_fit (i ∷ next) w = by (h.turns (length next)) refl (h.opens (length next)) (lines_fit next (tail_next w))
    where
      rest : List Line
      rest = turned_lines h.turns h.opens next

      two_words : (b : Bool) (t : Turn) → lines_words (tested_again b t.head ++ rest) ≡ 17 + lines_words rest
      two_words true t = omega arith
      two_words false t = omega arith

      two_points : (b : Bool) (t : Turn) → frame_point_count (tested_again b t.head ++ rest) ≡ frame_point_count rest
      two_points true t = refl
      two_points false t = refl

      stays : (o : Option ℕ) → Fits rest next → Fits (i ∷ (label_put o ++ rest)) (i ∷ next)
      stays None fits =
          let words = fits.words in
          let points = fits.points in
          let here = points_next i next in
          let there = points_next i rest in
          record { words = omega (arith, words); points = omega (arith, points, here, there) }
      stays (Some l) fits =
          let words = fits.words in
          let points = fits.points in
          let here = points_next i next in
          let there = points_next i (bare_flow (flow.Label l) ∷ rest) in
          record { words = omega (arith, words); points = omega (arith, points, here, there) }

      by : (x : Option Turn) → h.turns (length next) ≡ x → (o : Option ℕ) → Fits rest next → Fits (turned_line x o i ++ rest) (i ∷ next)
      by None u o fits = stays o fits
      by (Some t) u o fits =
          let words = fits.words in
          let points = fits.points in
          let own = ap (λ (i : Line). line_words i + turning_words i.op) (h.each i next t (tail_stands w) u).is in
          let here = points_next i next in
          let both = two_words t.keeps t in
          let none = two_points t.keeps t in
          record { words = omega (arith, words, own, both); points = omega (arith, points, here, none) }

turning_fits : {m r : Lin} → Turns m r → Fits r.code m.code
turning_fits {m} {r} h = subst (λ (r : Lin). Fits r.code m.code) (sym h.is) (lines_fit m r h m.code tail_all)

-- Once it is made tidy it has no more words than its lines with room for loops turned round.
pub tidied_fits : {m r : Lin} → IsRegular m → IsTidied m r → Fits r.code m.code
tidied_fits {m} regular h =
    let turns : Turns (redirected_all m) (turned_all (redirected_all m)) = turns_all (redirecting_regular (redirects_all m) regular).well in
    fits_then (often_no_larger h.leaves) (fits_redirected (final_label m) (last_exit m) (turning_fits turns))

-- ---- whole

-- of a Mach function that was lowered and tidied
module _ (q : Mach) (r : Lin) (regular : IsRegular (lowered q)) (t : IsTidied (lowered q) r) where
  pub linear_words : lines_words r.code ≤ code_words q.code + 17 * exit_count q.code
  linear_words =
      let tidied = (tidied_fits regular t).words in
      let lower = lowered_words (slot_number q) q.code in
      omega (arith, tidied, lower)

  pub linear_points : frame_point_count r.code ≤ code_points q.code
  linear_points =
      let tidied = (tidied_fits regular t).points in
      let lower = lowered_points (slot_number q) q.code in
      omega (arith, tidied, lower)
