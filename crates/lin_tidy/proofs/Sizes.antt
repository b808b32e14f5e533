-- That there are numbers for a function while it is made tidy.
use Rattle.std.proofs.Common.{◌≡◌, ℕ, suc, ◌+◌, ◌*◌, ◌<◌, ◌≤◌, Bool, true, false, List, [], ◌∷◌, ◌++◌, length, map, Option, Some, None, refl, sym, ap, ◌∙◌, subst, arith}
use Rattle.std.proofs.lemmas.List.{length-map}
use Rattle.mach_ir.specs.Sizes.{number_limit}
use Rattle.lin_ir.specs.Formed.{label_of, labels_in}
use Rattle.lin_ir.specs.declared.lin.Line.{Line}
use Rattle.lin_ir.specs.declared.lin.Lin.{Lin}
use Rattle.lin_flow.specs.Sizes.{IsCountable}
use Rattle.lin_tidy_rules.specs.Redirecting.{redirect, final_label, last_exit, redirected_all}
use Rattle.lin_tidy_rules.specs.Turning.{Turn, tested_again, turned_line, turned_lines, turn_at, opened_at, turned_all}
use Rattle.linearise_rules.specs.Lowered.{limit_above}
use Rattle.lin_tidy_rules.proofs.Redirecting.{same_labels}
use Rattle.lin_tidy.specs.Sizes.{HasLabels, HasTidyRoom}

-- ---- jumps redirected

labels_redirected : (to : ℕ → ℕ) (exits : ℕ → Option ℕ) (code : List Line) → labels_in (map (redirect to exits) code) ≡ labels_in code
labels_redirected to exits [] = refl
labels_redirected to exits (i ∷ next) =
    ap (λ ks. ks ++ labels_in (map (redirect to exits) next)) (same_labels to exits i.op) ∙ ap (λ ls. label_of i.op ++ ls) (labels_redirected to exits next)

pub labels_then : (m r : Lin) → r ≡ redirected_all m → HasLabels m → HasLabels r
labels_then m r is room =
    let labels = ap limit_above (labels_redirected (final_label m) (last_exit m) m.code) in
    let lines = length-map m.code (redirect (final_label m) (last_exit m)) in
    subst HasLabels (sym is) (omega (arith, room, labels, lines))

-- ---- loops turned round

-- a line becomes at most four
lines_turned : (turns : ℕ → Option Turn) (opens : ℕ → Option ℕ) (code : List Line) → length (turned_lines turns opens code) ≤ 4 * length code
lines_turned turns opens [] = omega arith
lines_turned turns opens (i ∷ next) = by (turns (length next)) (opens (length next)) (lines_turned turns opens next)
  where
    rest : List Line
    rest = turned_lines turns opens next

    two : (b : Bool) (t : Turn) → length (tested_again b t.head ++ rest) ≡ suc (suc (length rest))
    two true t = refl
    two false t = refl

    by : (x : Option Turn) (o : Option ℕ) → length rest ≤ 4 * length next → length (turned_line x o i ++ rest) ≤ 4 * suc (length next)
    by None None le = omega (arith, le)
    by None (Some l) le = omega (arith, le)
    by (Some t) o le = let both = two t.keeps t in omega (arith, le, both)

few_turned : (m : Lin) → length (turned_all m).code ≤ 4 * length m.code
few_turned m =
    lines_turned (turn_at m (limit_above (labels_in m.code)) m.code) (opened_at m (limit_above (labels_in m.code))) m.code

-- there is room by these tests
pub room_by : (m : Lin) (free lines : ℕ) → free ≡ limit_above (labels_in m.code) → lines ≡ length m.code → lines < 1073741824 →
    suc (free + 2 * lines) < number_limit → m.slots + 32 < number_limit → HasTidyRoom m
room_by m free lines f n low labels slots =
    let same = length-map m.code (redirect (final_label m) (last_exit m)) in
    let few = few_turned (redirected_all m) in
    record {
      labels = omega (arith, labels, f, n);
      lines = omega (arith, few, same, n, low);
      slots = slots;
    }

pub turned_countable : (m turned now : Lin) → turned ≡ redirected_all m → now ≡ turned_all turned → HasTidyRoom m → IsCountable now
turned_countable m turned now redirects turns room =
    subst IsCountable (sym (turns ∙ ap turned_all redirects)) (record { lines = room.lines; slots = room.slots })
