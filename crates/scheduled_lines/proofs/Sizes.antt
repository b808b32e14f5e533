-- What is added up over lines, and over the pieces that are emitted for them, is the same in another order.
use Rattle.std.proofs.Common.{◌≡◌, ℕ, ◌+◌, Bool, true, false, cond, ◌&&◌, nat_eq, List, [], ◌∷◌, ◌++◌, length, None, refl, sym, ap, ◌∙◌, arith}
use Rattle.std.proofs.lemmas.Bool.{true≢false, eq-eqb, eqb-true}
use Rattle.std.proofs.lemmas.List.Recursion.{is_sum_by}
use Rattle.std.proofs.lemmas.List.Sums.{sum_by-append}
use Rattle.std.specs.List.{sum_by}
use Rattle.lin_ir.specs.Descriptors.{frame_bytes, has_frame_point}
use Rattle.lin_ir.specs.Formed.{is_label}
use Rattle.lin_ir.specs.Meaning.{has_label, passes_frame}
use Rattle.lin_ir.specs.Walks.{StandsAsLine, here, below, Reached}
use Rattle.lin_ir.specs.declared.descr.Descr.{Descr}
use Rattle.lin_ir.specs.declared.lin.Flow.TheVariants as flow
use Rattle.lin_ir.specs.declared.lin.LinOp.{LinOp}
use Rattle.lin_ir.specs.declared.lin.LinOp.TheVariants as lin
use Rattle.lin_ir.specs.declared.lin.Line.{Line}
use Rattle.lin_ir.specs.declared.lin.Lin.{Lin}
use Rattle.linearise_rules.proofs.Walked.{Tail, tail_all, tail_next, tail_stands, reached_stands}
use Rattle.lin_tidy_rules.specs.Leaving.{with_code}
use Rattle.lin_tidy_rules.specs.Regular.{IsTidy}
use Rattle.lin_tidy_rules.proofs.Ends.{tail_then, tail_past}
use Rattle.rv_emit_rules.specs.Emitted.{part_of_line, part_before, descriptor, left_after, parts_of_lines, IsEmitted}
use Rattle.rv_emit_rules.specs.Entry.{FrameLayout, frame_of, entry_pieces}
use Rattle.rv_emit_rules.specs.Units.{is_branch, tests_first, falls_to, is_free_exit}
use Rattle.rv_emit_rules.proofs.Units.{part_unless_free}
use Rattle.rv_pieces.specs.declared.piece.Piece.{Piece}
use Rattle.rv_pieces.specs.declared.piece.Pieces.{Pieces}
use Rattle.schedule_rules.specs.Straight.{is_plain}
use Rattle.schedule_rules.specs.Orders.{are_plain, sum_of_lines, Reorders, Rest, rest_ends, rest_line, Ordered, ordered}
use Rattle.schedule_rules.proofs.Reorder.{and_left, and_right, reorders_length, reorders_plain}
use Rattle.schedule_rules.proofs.Sums.{ordered_total, reorders_total}
use Rattle.schedule_rules.proofs.Walked.{through}
use Rattle.scheduled_lines.proofs.InStep.{InStep, both_end, both_plain, same_line, in_step, turned, reached_there, runs_in_step, rest_in_step}
use Rattle.scheduled_lines.proofs.Walks.{frameless, has_point, plain_landing, same_frame}

-- ---- lines

module _ (measure : Line → ℕ) (total : List Line → ℕ) (nothing : total [] ≡ 0) (more : (i : Line) (is : List Line) → total (i ∷ is) ≡ measure i + total is) where
  as_sum : (is : List Line) → total is ≡ sum_of_lines measure is
  as_sum [] = nothing
  as_sum (i ∷ is) = more i is ∙ ap (λ n. measure i + n) (as_sum is)

  pub same_total : (code other : List Line) → Ordered code other → total other ≡ total code
  same_total code other o = as_sum other ∙ ordered_total measure code other o ∙ sym (as_sum code)

-- ---- exits that have no words

branchless : (f : LinOp) → is_plain f ≡ true → is_branch f ≡ false
branchless (lin.Op f) p = refl
branchless (lin.Flow f) p = absurd (true≢false (sym p))

tests_same : {code other : List Line} → InStep code other → tests_first code ≡ tests_first other
tests_same both_end = refl
tests_same (both_plain {i = i} {j = j} p q s) = branchless i.op p ∙ sym (branchless j.op q)
tests_same (same_line s) = refl

falls_at : (l : ℕ) (f : LinOp) (a b : Bool) → is_plain f ≡ true → cond (has_label l f) a (is_label f && b) ≡ false
falls_at l (lin.Op f) a b p = refl
falls_at l (lin.Flow f) a b p = absurd (true≢false (sym p))

falls_same : (l : ℕ) {code other : List Line} → InStep code other → falls_to l code ≡ falls_to l other
falls_same l both_end = refl
falls_same l (both_plain {i = i} {j = j} {is = is} {js = js} p q s) = falls_at l i.op (tests_first is) (falls_to l is) p ∙ sym (falls_at l j.op (tests_first js) (falls_to l js) q)
falls_same l (same_line {i = i} {is = is} {js = js} s) =
    ap (λ b. cond (has_label l i.op) b (is_label i.op && falls_to l is)) (tests_same s) ∙ ap (λ b. cond (has_label l i.op) (tests_first js) (is_label i.op && b)) (falls_same l s)

free_same : (f : LinOp) {code other : List Line} → InStep code other → is_free_exit f code ≡ is_free_exit f other
free_same (lin.Op f) s = refl
free_same (lin.Flow (flow.Exit l)) s = falls_same l s
free_same (lin.Flow (flow.Label l)) s = refl
free_same (lin.Flow (flow.Jump l)) s = refl
free_same (lin.Flow (flow.Branch t l)) s = refl
free_same (lin.Flow (flow.Switch ls)) s = refl
free_same (lin.Flow (flow.PushTrap l)) s = refl
free_same (lin.Flow flow.PopTrap) s = refl
free_same (lin.Flow flow.EnterTrap) s = refl

plain_unfree : (f : LinOp) (next : List Line) → is_plain f ≡ true → is_free_exit f next ≡ false
plain_unfree (lin.Op f) next p = refl
plain_unfree (lin.Flow f) next p = absurd (true≢false (sym p))

-- ---- pieces of runs

-- a walk goes on to each line of a run
through_to : (m : Lin) {i : Line} {later xs : List Line} (is : List Line) (tries : List ℕ) → StandsAsLine i later xs → are_plain xs ≡ true → Reached m (xs ++ is) tries →
    Reached m (i ∷ later ++ is) tries
through_to m is tries here p x = x
through_to m is tries (below {j = j} {is = others} s) p x =
    through_to m is tries s (and_right (is_plain j.op) (are_plain others) p) (through m (j ∷ []) (others ++ is) tries (only (is_plain j.op) (are_plain others) p) x)
  where
    only : (a b : Bool) → (a && b) ≡ true → (a && true) ≡ true
    only true b e = refl
    only false b e = absurd (true≢false (sym e))

module _ (measure : Piece → ℕ) (f : FrameLayout) (ds : List Descr) where
  abbrev weigh : List Piece → ℕ
  weigh ps = sum_by measure ps

  -- the part of a line of a run, while so many traps are pushed
  abbrev weight : ℕ → Line → ℕ
  weight k i = weigh (part_of_line k f None i)

  one_plain : (traps : ℕ → ℕ) (i : Line) (next : List Line) → is_plain i.op ≡ true →
      weigh (parts_of_lines traps f ds (i ∷ next)) ≡ weight (traps (length next)) i + weigh (parts_of_lines traps f ds next)
  one_plain traps i next p =
      ap (λ b. weigh (part_before (traps (length next)) f (descriptor b ds) i next ++ parts_of_lines traps f (left_after b ds) next)) (frameless i.op p)
      ∙ ap (λ ps. weigh (ps ++ parts_of_lines traps f ds next)) (part_unless_free (traps (length next)) f None i next (plain_unfree i.op next p))
      ∙ sum_by-append measure (part_of_line (traps (length next)) f None i) (parts_of_lines traps f ds next)

  run_weight : (traps : ℕ → ℕ) (k : ℕ) (xs is : List Line) → are_plain xs ≡ true → ((i : Line) (later : List Line) → StandsAsLine i later xs → traps (length (later ++ is)) ≡ k) →
      weigh (parts_of_lines traps f ds (xs ++ is)) ≡ sum_of_lines (weight k) xs + weigh (parts_of_lines traps f ds is)
  run_weight traps k [] is p even = omega arith
  run_weight traps k (x ∷ xs) is p even =
      let own : weight (traps (length (xs ++ is))) x ≡ weight k x = ap (λ n. weight n x) (even x xs here) in
      let one = one_plain traps x (xs ++ is) (and_left _ _ p) in
      let ih = run_weight traps k xs is (and_right _ _ p) (λ i later s. even i later (below s)) in
      omega (arith, own, one, ih)

-- ---- whole functions

-- so many traps are pushed at each line of a run, in both functions
record Even (olds news : ℕ → ℕ) (xs is ys js : List Line) : Type 0 where
  traps : ℕ
  old : (i : Line) (later : List Line) → StandsAsLine i later xs → olds (length (later ++ is)) ≡ traps
  new : (i : Line) (later : List Line) → StandsAsLine i later ys → news (length (later ++ js)) ≡ traps

module _ (m : Lin) (code : List Line) (order : Ordered m.code code) (tidy : IsTidy m) (ds : List Descr) {p q : Pieces} (first : IsEmitted m ds p)
    (second : IsEmitted (with_code m code) ds q) where
  abbrev R : Lin
  R = with_code m code

  whole : InStep m.code code
  whole = in_step order

  -- where both have a line, as many traps are pushed before it
  same_pushed : (i : Line) (next there : List Line) → InStep next there → Tail (i ∷ next) m.code → Tail (i ∷ there) code →
      first.traps (length next) ≡ second.traps (length there)
  same_pushed i next there s w t = by (nat_eq a b) refl
    where
      a : ℕ
      a = first.traps (length next)

      b : ℕ
      b = second.traps (length there)

      reached : (tries : List ℕ) → Reached m (i ∷ next) tries → a ≡ b
      reached tries x =
          first.pushed.pushed i next (tail_stands w) tries x
          ∙ sym (second.pushed.pushed i there (tail_stands t) tries (reached_there m R whole (same_line s) t x))

      by : (same : Bool) → nat_eq a b ≡ same → a ≡ b
      by true e = eqb-true a b e
      by false e =
          let out : (tries : List ℕ) → Reached m (i ∷ next) tries → ⊥ = λ tries x. true≢false (sym (eq-eqb a b (reached tries x)) ∙ e) in
          first.unreached i next (tail_stands w) out
          ∙ sym (second.unreached i there (tail_stands t) (λ tries x. out tries (reached_there R m (turned whole) (same_line (turned s)) w x)))

  even_run : (xs ys : List Line) {is js : List Line} → are_plain xs ≡ true → Reorders xs ys → InStep is js → Tail (xs ++ is) m.code → Tail (ys ++ js) code →
      Even first.traps second.traps xs is ys js
  even_run [] [] p o s w t = record { traps = 0; old = λ i later x. elim x [ ]; new = λ i later x. elim x [ ] }
  even_run [] (y ∷ ys) p o s w t = let e = reorders_length [] (y ∷ ys) o in absurd (omega (arith, e))
  even_run (x ∷ xs) ys {is} {js} p o s w t =
      let both : InStep (x ∷ xs ++ is) (ys ++ js) = runs_in_step (x ∷ xs) ys p (reorders_plain (x ∷ xs) ys o p) (reorders_length (x ∷ xs) ys o) s in
      let old = tidy.reached x (xs ++ is) (tail_stands w) (plain_landing x.op (and_left _ _ p)) in
      let new : Reached R (ys ++ js) old.0 = reached_there m R whole both t old.1 in
      record {
        traps = length old.0;
        old = λ i later z. let y = through_to m is old.0 z p old.1 in first.pushed.pushed i (later ++ is) (reached_stands m y) old.0 y;
        new = λ i later z.
            let y = through_to R js old.0 z (reorders_plain (x ∷ xs) ys o p) new in second.pushed.pushed i (later ++ js) (reached_stands R y) old.0 y;
      }

  module _ (measure : Piece → ℕ) (f : FrameLayout) where
    abbrev before : List Descr → List Line → ℕ
    before ds is = weigh measure f ds (parts_of_lines first.traps f ds is)

    abbrev after : List Descr → List Line → ℕ
    after ds is = weigh measure f ds (parts_of_lines second.traps f ds is)

    same_run : (ds : List Descr) (xs ys : List Line) {is js : List Line} → are_plain xs ≡ true → Reorders xs ys → InStep is js → Tail (xs ++ is) m.code → Tail (ys ++ js) code →
        after ds js ≡ before ds is → after ds (ys ++ js) ≡ before ds (xs ++ is)
    same_run ds xs ys {is} {js} p o s w t ih =
        let e = even_run xs ys p o s w t in
        let one = run_weight measure f ds first.traps e.traps xs is p e.old in
        let two = run_weight measure f ds second.traps e.traps ys js (reorders_plain xs ys o p) e.new in
        let runs = reorders_total (weight measure f ds e.traps) xs ys o in
        omega (arith, one, two, runs, ih)

    -- the part of a line that stays, before what is left
    same_part : (ds : List Descr) (i : Line) (next there : List Line) → InStep next there → Tail (i ∷ next) m.code → Tail (i ∷ there) code →
        after (left_after (passes_frame i.op) ds) there ≡ before (left_after (passes_frame i.op) ds) next → after ds (i ∷ there) ≡ before ds (i ∷ next)
    same_part ds i next there s w t ih =
        let d = descriptor (passes_frame i.op) ds in
        let part : part_before (second.traps (length there)) f d i there ≡ part_before (first.traps (length next)) f d i next =
        ap (λ n. part_before n f d i there) (sym (same_pushed i next there s w t))
        ∙ ap (λ b. cond b [] (part_of_line (first.traps (length next)) f d i)) (sym (free_same i.op s)) in
        let rest = left_after (passes_frame i.op) ds in
        let same = ap (λ ps. sum_by measure ps) part in
        let one = sum_by-append measure (part_before (first.traps (length next)) f d i next) (parts_of_lines first.traps f rest next) in
        let two = sum_by-append measure (part_before (second.traps (length there)) f d i there) (parts_of_lines second.traps f rest there) in
        omega (arith, same, one, two, ih)

    same_rest : (ds : List Descr) {is js : List Line} → Rest is js → Tail is m.code → Tail js code → after ds js ≡ before ds is
    same_rest ds rest_ends w t = refl
    same_rest ds (rest_line i xs ys {is = is} {js = js} n p o r) w t =
        let s = rest_in_step r in
        let run = runs_in_step xs ys p (reorders_plain xs ys o p) (reorders_length xs ys o) s in
        let rest = left_after (passes_frame i.op) ds in
        same_part ds i (xs ++ is) (ys ++ js) run w t
        (same_run rest xs ys p o s (tail_next w) (tail_next t) (same_rest rest r (tail_then (tail_past xs) (tail_next w)) (tail_then (tail_past ys) (tail_next t))))

    same_code : (ds : List Descr) {is js : List Line} → Ordered is js → Tail is m.code → Tail js code → after ds js ≡ before ds is
    same_code ds (ordered xs ys is js p o r) w t =
        same_run ds xs ys p o (rest_in_step r) w t (same_rest ds r (tail_then (tail_past xs) w) (tail_then (tail_past ys) t))

  frame_same : frame_of R ≡ frame_of m
  frame_same =
      ap (λ n. record { bytes = n; saves = has_frame_point code }) (same_frame m R whole refl)
      ∙ ap (λ b. record { bytes = frame_bytes m; saves = b }) (has_point whole)

  sums_same : (measure : Piece → ℕ) → sum_by measure q.code ≡ sum_by measure p.code
  sums_same measure =
      let f = frame_of m in
      let new : sum_by measure q.code ≡ sum_by measure (entry_pieces f ++ parts_of_lines second.traps f ds code) =
      ap (λ (ps : Pieces). sum_by measure ps.code) second.is ∙ ap (λ (f : FrameLayout). sum_by measure (entry_pieces f ++ parts_of_lines second.traps f ds code)) frame_same in
      let old = ap (λ (ps : Pieces). sum_by measure ps.code) first.is in
      let one = sum_by-append measure (entry_pieces f) (parts_of_lines first.traps f ds m.code) in
      let two = sum_by-append measure (entry_pieces f) (parts_of_lines second.traps f ds code) in
      let lines = same_code measure f ds order tail_all tail_all in
      omega (arith, new, old, one, two, lines)

  -- What is added up over pieces is the same, as words are.
  pub same_pieces : (measure : Piece → ℕ) (total : List Piece → ℕ) → total [] ≡ 0 → ((x : Piece) (xs : List Piece) → total (x ∷ xs) ≡ measure x + total xs) →
      total q.code ≡ total p.code
  same_pieces measure total nothing more = is_sum_by total measure nothing more q.code ∙ sums_same measure ∙ sym (is_sum_by total measure nothing more p.code)
