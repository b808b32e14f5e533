-- Code whose loops are turned round.
use Rattle.std.proofs.Common.{◌≡◌, ◌↔◌, ℕ, zero, suc, ◌+◌, ◌*◌, ◌-◌, ◌<◌, ◌≤◌, cond, max, Bool, true, false, ◌||◌, nat_eq, nat_le, List, [], ◌∷◌, ◌++◌, reverse, Option, Some, None, Result, Ok, Err, IfOk, drop, length, get_or, refl, sym, ap, ◌∙◌, subst, arith, append_assoc}
use Rattle.std.proofs.lemmas.Bool.{leb-true, leb-false, le-leb, lt-leb, eqb-true, eq-eqb}
use Rattle.std.proofs.lemmas.List.{append-nil, length-drop, length-map, length-reverse}
use Rattle.std.proofs.lemmas.List.Elements.{All-nil, All-cons, All-head, All-tail, All-append}
use Rattle.std.specs.List.{All}
use Rattle.std.specs.Option.{option_map}
use Rattle.lin_ir.specs.Formed.{label_of, labels_in, bare_flow}
use Rattle.lin_ir.specs.Meaning.{has_label, after_label}
use Rattle.lin_ir.specs.declared.lin.Flow.TheVariants as flow
use Rattle.lin_ir.specs.declared.lin.LinOp.{LinOp}
use Rattle.lin_ir.specs.declared.lin.LinOp.TheVariants as lin
use Rattle.lin_ir.specs.declared.lin.Line.{Line}
use Rattle.lin_ir.specs.declared.lin.Lin.{Lin}
use Rattle.lin_ir.specs.declared.lin.Spot.{Spot}
use Rattle.lin_laws.specs.Graph.{HaveNumbers, AreNumbered}
use Rattle.lin_laws.proofs.Places.{ends_label, place_is, after_within}
use Rattle.lin_flow.specs.Labels.{line_of_label, AreLabelsOf}
use Rattle.lin_flow.specs.declared.labels.LineLabels.{LineLabels}
use Rattle.lin_tidy_rules.specs.Leaving.{with_code}
use Rattle.linearise_rules.specs.Lowered.{opposite_test, limit_above}
use Rattle.lin_tidy_rules.specs.Turning.{Head, Turn, branch_line, turned_line, turned_lines, tested_again, label_put, label_here, label_on, head_by, head_at, stands_first, exit_head, turn_for, line_turn, turn_at, is_on, is_led_to, opened_at, turned_all}
use Rattle.lin_tidy_rules.specs.Redirecting.{exits_to}
use Rattle.lin_tidy_rules.proofs.Following.{exit_is}
use Rattle.bs_words.proofs.Lists.{head_same, tail_same}
use Rattle.lin_unused.proofs.Between.{drop_line}
use Rattle.lin_tidy.specs.Loops.{turn_view, turns_in, is_opened, opened_in, first_turn, others_of, turned_by, turns_of, AreChanges}
use Rattle.lin_tidy.specs.declared.turning.Changes.{Changes}

-- ---- at a place

no_lines : (code : List Line) → length code ≡ 0 → code ≡ []
no_lines [] e = refl
no_lines (i ∷ is) e = absurd (omega (arith, e))

pub all_dropped : (code : List Line) (k : ℕ) → length code ≤ k → drop k code ≡ []
all_dropped code k le = let e = length-drop k code in no_lines (drop k code) (omega (arith, e, le))

-- what holds of the line at a place, and of those after it, holds of the first that are left there
pub at_line : (P : Line → List Line → Type 0) (code : List Line) (k : ℕ) (j : Line) → k < length code → j ≡ get_or code k j →
    P j (drop (k + 1) code) → (i : Line) (next : List Line) → drop k code ≡ i ∷ next → P i next
at_line P code k j lt e p i next d =
    let same : j ∷ drop (k + 1) code ≡ i ∷ next = sym (drop_line code k j lt e) ∙ d in
    subst (P i) (tail_same same) (subst (λ h. P h (drop (k + 1) code)) (head_same same) p)

drop_next : (code : List Line) (k : ℕ) (i : Line) (next : List Line) → drop k code ≡ i ∷ next → drop (k + 1) code ≡ next
drop_next [] zero i next e = cc
drop_next [] (suc k) i next e = cc
drop_next (j ∷ is) zero i next e = tail_same e
drop_next (j ∷ is) (suc k) i next e = let one : suc k + 1 ≡ suc (k + 1) = omega arith in ap (λ n. drop n (j ∷ is)) one ∙ drop_next is k i next e

pub lines_left : (code : List Line) (k : ℕ) (i : Line) (next : List Line) → drop k code ≡ i ∷ next → length code - k - 1 ≡ length next
lines_left code k i next e =
    let a = length-drop k code in
    let b : length (drop k code) ≡ suc (length next) = ap length e in
    omega (arith, a, b)

-- there are numbers for two labels of a line with so many lines after it
pub after_room : (code : List Line) (free k after : ℕ) → k < length code → free + 2 * length code < 4294967296 →
    ((i : Line) (next : List Line) → drop k code ≡ i ∷ next → after ≡ length next) → suc (free + 2 * after) < 4294967296
after_room code free k after lt room h = by (drop k code) (length-drop k code) h
  where
    by : (rest : List Line) → length rest ≡ length code - k → ((i : Line) (next : List Line) → rest ≡ i ∷ next → after ≡ length next) →
        suc (free + 2 * after) < 4294967296
    by [] len h = absurd (omega (arith, len, lt))
    by (i ∷ next) len h = let same = h i next refl in omega (arith, same, len, lt, room)

pub if_ok : {T E : Type 0} (P Q : T → Type 0) (r : Result T E) → ((t : T) → P t → Q t) → IfOk r P → IfOk r Q
if_ok P Q (Ok t) f h = f t h
if_ok P Q (Err e) f h = h

-- ---- the first free label

pub free_begun : (code : List Line) → max 0 (limit_above (labels_in code)) ≡ limit_above (labels_in code)
free_begun code = omega arith

pub free_more : (code : List Line) (k free above : ℕ) (i : Line) → k < length code → i ≡ get_or code k i →
    ((ls : List ℕ) → max above (limit_above ls) ≡ max free (limit_above (label_of i.op ++ ls))) →
    max free (limit_above (labels_in (drop k code))) ≡ limit_above (labels_in code) →
    max above (limit_above (labels_in (drop (k + 1) code))) ≡ limit_above (labels_in code)
free_more code k free above i lt e more h =
    more (labels_in (drop (k + 1) code)) ∙ sym (ap (λ is. max free (limit_above (labels_in is))) (drop_line code k i lt e)) ∙ h

pub free_all : (code : List Line) (k free : ℕ) → length code ≤ k →
    max free (limit_above (labels_in (drop k code))) ≡ limit_above (labels_in code) → free ≡ limit_above (labels_in code)
free_all code k free le h =
    let none : max free 0 ≡ free = omega arith in
    sym none ∙ sym (ap (λ is. max free (limit_above (labels_in is))) (all_dropped code k le)) ∙ h

-- ---- where an exit leads

exit_by : Lin → ℕ → List Line → Option ℕ → Option Head
exit_by m free next None = None
exit_by m free next (Some l) = cond (stands_first l next) None (head_at free (after_label l m.code))

exit_told : (m : Lin) (free : ℕ) (f : LinOp) (args results : List Spot) (next : List Line) →
    exit_head m free f args results next ≡ exit_by m free next (exits_to f args results)
unfolding exit_by
exit_told m free (lin.Flow (flow.Exit k)) [] [] next = refl
exit_told m free (lin.Flow (flow.Exit k)) [] (s ∷ ss) next = refl
exit_told m free (lin.Flow (flow.Exit k)) (s ∷ ss) results next = refl
exit_told m free (lin.Flow (flow.Label k)) args results next = refl
exit_told m free (lin.Flow (flow.Jump k)) args results next = refl
exit_told m free (lin.Flow (flow.Branch t k)) args results next = refl
exit_told m free (lin.Flow (flow.Switch ls)) args results next = refl
exit_told m free (lin.Flow (flow.PushTrap k)) args results next = refl
exit_told m free (lin.Flow flow.PopTrap) args results next = refl
exit_told m free (lin.Flow flow.EnterTrap) args results next = refl
exit_told m free (lin.Op f) args results next = refl

pub no_exit : (m : Lin) (free : ℕ) (i : Line) (next : List Line) (o : Option ℕ) → ((l : ℕ) → (o ≡ Some l) ↔ (i ≡ bare_flow (flow.Exit l))) →
    o ≡ None → None ≡ exit_head m free i.op i.args i.results next
unfolding exit_by
no_exit m free i next o told none =
    by (exits_to i.op i.args i.results) refl ∙ sym (exit_told m free i.op i.args i.results next)
  where
    by : (t : Option ℕ) → exits_to i.op i.args i.results ≡ t → None ≡ exit_by m free next t
    by None e = refl
    by (Some l) e = absurd (let some = (told l).1 (exit_is l i.op i.args i.results e) in cc)

-- of an exit it is said where the label leads
pub exit_there : (m : Lin) (free l : ℕ) (i : Line) (next : List Line) (o : Option ℕ) → ((l : ℕ) → (o ≡ Some l) ↔ (i ≡ bare_flow (flow.Exit l))) →
    o ≡ Some l → exit_head m free i.op i.args i.results next ≡ cond (stands_first l next) None (head_at free (after_label l m.code))
exit_there m free l i next o told some =
    ap (λ (i : Line). exit_head m free i.op i.args i.results next) ((told l).0 some)

-- the code after a label, by the table of places
pub after_place : (m : Lin) (labels : LineLabels) (l place : ℕ) → AreLabelsOf m labels → place ≡ line_of_label labels l →
    drop place m.code ≡ after_label l m.code
after_place m labels l place table at = ap (λ p. drop p m.code) (at ∙ table.each l) ∙ place_is m (ends_label l m.code)

-- ---- which label the test keeps

pub keeps_by_place : (m : Lin) (labels : LineLabels) (l place k : ℕ) (i : Line) (next : List Line) → AreLabelsOf m labels →
    place ≡ line_of_label labels l → drop k m.code ≡ i ∷ next → nat_le place (k + 1) ≡ nat_le (length next) (length (after_label l m.code))
keeps_by_place m labels l place k i next table at e =
    let there : place ≡ length m.code - length (after_label l m.code) = at ∙ table.each l in
    let le = after_within l m.code in
    let a = length-drop k m.code in
    let b : length (drop k m.code) ≡ suc (length next) = ap length e in
    by (nat_le place (k + 1)) refl there le a b
  where
    by : (t : Bool) → nat_le place (k + 1) ≡ t → place ≡ length m.code - length (after_label l m.code) →
        length (after_label l m.code) ≤ length m.code → length (drop k m.code) ≡ length m.code - k → length (drop k m.code) ≡ suc (length next) →
        t ≡ nat_le (length next) (length (after_label l m.code))
    by true u there le a b =
        let v = leb-true place (k + 1) u in
        sym (le-leb (length next) (length (after_label l m.code)) (omega (arith, v, there, le, a, b)))
    by false u there le a b =
        let v = leb-false place (k + 1) u in
        sym (lt-leb (length next) (length (after_label l m.code)) (omega (arith, v, there, le, a, b)))

-- ---- all turns

pub changes_begun : (m : Lin) (free : ℕ) (c : Changes) (code : List Line) → code ≡ [] → turns_in c ≡ [] → ((l : ℕ) → is_opened c l ≡ false) →
    AreChanges m free code c
changes_begun m free c code none turns opened =
    subst (λ is. AreChanges m free is c) (sym none) (record { turns = turns; opened = opened })

pub changes_more : (m : Lin) (free k : ℕ) (old new : Changes) (turn : Option Turn) → k < length m.code →
    ((i : Line) (next : List Line) → drop k m.code ≡ i ∷ next → turn ≡ line_turn m free i next) →
    turns_in new ≡ turn ∷ turns_in old → ((l : ℕ) → is_opened new l ≡ (is_on l turn || is_opened old l)) →
    AreChanges m free (drop (k + 1) m.code) old → AreChanges m free (drop k m.code) new
changes_more m free k old new turn lt told turns opened h = by (drop k m.code) refl
  where
    by : (code : List Line) → drop k m.code ≡ code → AreChanges m free (drop k m.code) new
    by [] e = absurd (let a = length-drop k m.code in let b : length (drop k m.code) ≡ 0 = ap length e in omega (arith, a, b, lt))
    by (i ∷ next) e =
        let same = told i next e in
        let later : drop (k + 1) m.code ≡ next = drop_next m.code k i next e in
        subst (λ is. AreChanges m free is new) (sym e)
        (record {
          turns = turns ∙ ap (λ ts. turn ∷ ts) (h.turns ∙ ap (turns_of m free) later) ∙ ap (λ t. t ∷ turns_of m free next) same;
          opened = λ l.
              opened l ∙ ap (λ b. is_on l turn || b) (h.opened l ∙ ap (is_led_to m free l) later) ∙ ap (λ t. is_on l t || is_led_to m free l next) same;
        })

-- the label that is put after a line
pub count_turns : (c : Changes) → length c.turns.items ≡ length (turns_in c)
count_turns c = sym (length-map (reverse c.turns.items) (option_map turn_view) ∙ length-reverse c.turns.items)

pub label_some : (c : Changes) (free label : ℕ) → label ≡ label_on free (length (turns_in c)) → is_opened c label ≡ true →
    Some label ≡ opened_in c free (length (turns_in c))
label_some c free label at e =
    ap (λ b. cond b (Some label) None) (sym e) ∙ ap (λ l. cond (is_opened c l) (Some l) None) at

pub label_none : (c : Changes) (free label : ℕ) → label ≡ label_on free (length (turns_in c)) → is_opened c label ≡ false →
    None ≡ opened_in c free (length (turns_in c))
label_none c free label at e =
    ap (λ b. cond b (Some label) None) (sym e) ∙ ap (λ l. cond (is_opened c l) (Some l) None) at

-- ---- the lines

length_turns : (m : Lin) (free : ℕ) (code : List Line) → length (turns_of m free code) ≡ length code
length_turns m free [] = refl
length_turns m free (i ∷ next) = ap suc (length_turns m free next)

-- no other line has so many lines after it
turn_later : (m : Lin) (free : ℕ) (i : Line) (next : List Line) (n : ℕ) → n < length next →
    turn_at m free (i ∷ next) n ≡ turn_at m free next n
turn_later m free i next n lt =
    by (nat_eq (length next) n) refl
  where
    by : (b : Bool) → nat_eq (length next) n ≡ b → cond b (line_turn m free i next) (turn_at m free next n) ≡ turn_at m free next n
    by true e = absurd (let s = eqb-true (length next) n e in omega (arith, s, lt))
    by false e = refl

turn_here : (m : Lin) (free : ℕ) (i : Line) (next : List Line) → turn_at m free (i ∷ next) (length next) ≡ line_turn m free i next
turn_here m free i next = ap (λ b. cond b (line_turn m free i next) (turn_at m free next (length next))) (eq-eqb (length next) (length next) refl)

same_turns : (turns others : ℕ → Option Turn) (opens : ℕ → Option ℕ) (code : List Line) → ((n : ℕ) → n < length code → turns n ≡ others n) →
    turned_lines turns opens code ≡ turned_lines others opens code
same_turns turns others opens [] same = refl
same_turns turns others opens (i ∷ next) same =
    ap (λ t. turned_line t (opens (length next)) i ++ turned_lines turns opens next) (same (length next) (omega arith))
    ∙ ap (λ is. turned_line (others (length next)) (opens (length next)) i ++ is) (same_turns turns others opens next (λ n lt. same n (omega (arith, lt))))

-- line by line it is the same as by the number of lines after each
turned_same : (m : Lin) (free : ℕ) (opens : ℕ → Option ℕ) (code : List Line) →
    turned_by opens (turns_of m free code) code ≡ turned_lines (turn_at m free code) opens code
turned_same m free opens [] = refl
turned_same m free opens (i ∷ next) =
    let first = line_turn m free i next in
    ap (λ n. turned_line first (opens n) i ++ turned_by opens (turns_of m free next) next) (length_turns m free next)
    ∙ ap (λ is. turned_line first (opens (length next)) i ++ is) (turned_same m free opens next)
    ∙ ap (λ is. turned_line first (opens (length next)) i ++ is)
    (same_turns (turn_at m free next) (turn_at m free (i ∷ next)) opens next (λ n lt. sym (turn_later m free i next n lt)))
    ∙ ap (λ t. turned_line t (opens (length next)) i ++ turned_lines (turn_at m free (i ∷ next)) opens next) (sym (turn_here m free i next))

same_labels : (opens others : ℕ → Option ℕ) (turns : List (Option Turn)) (code : List Line) → ((n : ℕ) → opens n ≡ others n) →
    turned_by opens turns code ≡ turned_by others turns code
same_labels opens others turns [] same = refl
same_labels opens others turns (i ∷ next) same =
    ap (λ o. turned_line (first_turn turns) o i ++ turned_by opens (others_of turns) next) (same (length (others_of turns)))
    ∙ ap (λ is. turned_line (first_turn turns) (others (length (others_of turns))) i ++ is) (same_labels opens others (others_of turns) next same)

-- there are numbers for the labels of all lines
pub change_room : (m : Lin) (free : ℕ) (c : Changes) → free ≡ limit_above (labels_in m.code) → AreChanges m free m.code c →
    suc (limit_above (labels_in m.code) + 2 * length m.code) < 4294967296 → suc (free + 2 * length (turns_in c)) < 4294967296
change_room m free c is are room =
    let len : length (turns_in c) ≡ length m.code = ap length are.turns ∙ length_turns m free m.code in
    omega (arith, is, len, room)

pub all_changed : (m : Lin) (free : ℕ) (c : Changes) (code : List Line) → free ≡ limit_above (labels_in m.code) → AreChanges m free m.code c →
    code ≡ turned_by (opened_in c free) (turns_in c) m.code → with_code m code ≡ turned_all m
all_changed m free c code is h made =
    ap (with_code m)
    (made ∙ ap (λ ts. turned_by (opened_in c free) ts m.code) h.turns
    ∙ same_labels (opened_in c free) (opened_at m free) (turns_of m free m.code) m.code
    (λ n. ap (λ b. cond b (Some (label_on free n)) None) (h.opened (label_on free n)))
    ∙ turned_same m free (opened_at m free) m.code
    ∙ ap (λ k. turned_lines (turn_at m k m.code) (opened_at m k) m.code) is)

-- ---- one line after the other

pub changed_begun : (opens : ℕ → Option ℕ) (turns : List (Option Turn)) (made rest : List Line) → made ≡ [] →
    made ++ turned_by opens turns rest ≡ turned_by opens turns rest
changed_begun opens turns made rest none = ap (λ is. is ++ turned_by opens turns rest) none

pub changed_more : (opens : ℕ → Option ℕ) (all old new : List (Option Turn)) (made more yielded rest : List Line) (i : Line) (first : Option Turn)
    (label : Option ℕ) → new ≡ others_of old → first ≡ first_turn old → label ≡ opens (length new) → more ≡ made ++ turned_line first label i →
    made ++ turned_by opens old (i ∷ rest) ≡ turned_by opens all (yielded ++ i ∷ rest) →
    more ++ turned_by opens new rest ≡ turned_by opens all ((yielded ++ i ∷ []) ++ rest)
changed_more opens all old new made more yielded rest i first label others is put made_more h =
    ap (λ is. is ++ turned_by opens new rest) made_more
    ∙ append_assoc made (turned_line first label i) (turned_by opens new rest)
    ∙ ap (λ t. made ++ (turned_line t label i ++ turned_by opens new rest)) is
    ∙ ap (λ o. made ++ (turned_line (first_turn old) o i ++ turned_by opens new rest)) put
    ∙ ap (λ ts. made ++ (turned_line (first_turn old) (opens (length ts)) i ++ turned_by opens ts rest)) others
    ∙ h ∙ ap (turned_by opens all) (sym (append_assoc yielded (i ∷ []) rest))

pub changed_all : (opens : ℕ → Option ℕ) (all turns : List (Option Turn)) (made yielded : List Line) →
    made ++ turned_by opens turns [] ≡ turned_by opens all (yielded ++ []) → made ≡ turned_by opens all yielded
changed_all opens all turns made yielded h = sym (append-nil made) ∙ h ∙ ap (turned_by opens all) (append-nil yielded)

-- ---- locations

-- what holds of all operands, and of none, holds of those of a branch that is repeated
module _ (P : List Spot → Type 0) (none : P []) where
  abbrev Args : Line → Type 0
  Args i = P i.args

  abbrev IfHead : Option Head → Type 0
  IfHead o = (h : Head) → o ≡ Some h → P h.args

  no_head : {X : Type 0} (h : Head) → None ≡ Some h → X
  no_head h e = absurd (cc)

  by_head : (free : ℕ) (f : LinOp) (args results : List Spot) (next : List Line) → P args → IfHead (head_by free f args results next)
  by_head free (lin.Flow (flow.Branch t l)) args [] next p h e = subst P (let same : args ≡ h.args = cc in same) p
  by_head free (lin.Flow (flow.Branch t l)) args (s ∷ ss) next p h e = no_head h e
  by_head free (lin.Flow (flow.Exit k)) args results next p h e = no_head h e
  by_head free (lin.Flow (flow.Label k)) args results next p h e = no_head h e
  by_head free (lin.Flow (flow.Jump k)) args results next p h e = no_head h e
  by_head free (lin.Flow (flow.Switch ls)) args results next p h e = no_head h e
  by_head free (lin.Flow (flow.PushTrap k)) args results next p h e = no_head h e
  by_head free (lin.Flow flow.PopTrap) args results next p h e = no_head h e
  by_head free (lin.Flow flow.EnterTrap) args results next p h e = no_head h e
  by_head free (lin.Op f) args results next p h e = no_head h e

  at_head : (free : ℕ) (code : List Line) → All Args code → IfHead (head_at free code)
  at_head free [] all = λ h. no_head h
  at_head free (i ∷ next) all = by_head free i.op i.args i.results next (All-head Args i next all)

  after_all : (l : ℕ) (code : List Line) → All Args code → All Args (after_label l code)
  after_all l [] all = all
  after_all l (i ∷ is) all = by (has_label l i.op) (All-tail Args i is all) (after_all l is (All-tail Args i is all))
    where
      by : (b : Bool) → All Args is → All Args (after_label l is) → All Args (cond b is (after_label l is))
      by true here later = here
      by false here later = later

  exit_args : (m : Lin) (free : ℕ) (i : Line) (next : List Line) → All Args m.code → IfHead (exit_head m free i.op i.args i.results next)
  unfolding exit_by
  exit_args m free i next all =
      subst IfHead (sym (exit_told m free i.op i.args i.results next)) (by (exits_to i.op i.args i.results))
    where
      to : (l : ℕ) (b : Bool) → IfHead (cond b None (head_at free (after_label l m.code)))
      to l true = λ h. no_head h
      to l false = at_head free (after_label l m.code) (after_all l m.code all)

      by : (o : Option ℕ) → IfHead (exit_by m free next o)
      by None = λ h. no_head h
      by (Some l) = to l (stands_first l next)

  put_all : (o : Option ℕ) → All Args (label_put o)
  put_all None = All-nil Args
  put_all (Some l) = All-cons Args (bare_flow (flow.Label l)) [] none (All-nil Args)

  again_all : (keeps : Bool) (h : Head) → P h.args → All Args (tested_again keeps h)
  again_all true h p =
      All-cons Args (branch_line h.test h.to h.args) (bare_flow (flow.Jump h.on) ∷ []) p (All-cons Args (bare_flow (flow.Jump h.on)) [] none (All-nil Args))
  again_all false h p =
      All-cons Args (branch_line (opposite_test h.test) h.on h.args) (bare_flow (flow.Jump h.to) ∷ []) p
      (All-cons Args (bare_flow (flow.Jump h.to)) [] none (All-nil Args))

  turn_all : (t : Turn) (o : Option ℕ) (i : Line) → P t.head.args → All Args (turned_line (Some t) o i)
  turn_all t o i p =
      All-cons Args (bare_flow (flow.Exit t.here)) (bare_flow (flow.Label t.here) ∷ tested_again t.keeps t.head) none
      (All-cons Args (bare_flow (flow.Label t.here)) (tested_again t.keeps t.head) none (again_all t.keeps t.head p))

  line_all : (m : Lin) (free : ℕ) (o : Option ℕ) (i : Line) (next : List Line) → All Args m.code → P i.args →
      All Args (turned_line (line_turn m free i next) o i)
  line_all m free o i next all p = by (exit_head m free i.op i.args i.results next) (exit_args m free i next all)
    where
      by : (h : Option Head) → IfHead h → All Args (turned_line (turn_for m free next h) o i)
      by None some = All-cons Args i (label_put o) p (put_all o)
      by (Some h) some =
          turn_all (record {
            here = label_here free (length next);
            head = h;
            keeps = nat_le (length next) (length (after_label h.to m.code));
          }) o i (some h refl)

  pub turned_args : (m : Lin) (free : ℕ) (opens : ℕ → Option ℕ) (code : List Line) → All Args m.code → All Args code →
      All Args (turned_by opens (turns_of m free code) code)
  turned_args m free opens [] all here = here
  turned_args m free opens (i ∷ next) all here =
      All-append Args (turned_line (line_turn m free i next) (opens (length (turns_of m free next))) i) (turned_by opens (turns_of m free next) next)
      (line_all m free (opens (length (turns_of m free next))) i next all (All-head Args i next here))
      (turned_args m free opens next all (All-tail Args i next here))

-- what is turned has no results but those of its own lines
module _ (P : List Spot → Type 0) (none : P []) where
  abbrev Results : Line → Type 0
  Results i = P i.results

  put_results : (o : Option ℕ) → All Results (label_put o)
  put_results None = All-nil Results
  put_results (Some l) = All-cons Results (bare_flow (flow.Label l)) [] none (All-nil Results)

  again_results : (keeps : Bool) (h : Head) → All Results (tested_again keeps h)
  again_results true h =
      All-cons Results (branch_line h.test h.to h.args) (bare_flow (flow.Jump h.on) ∷ []) none
      (All-cons Results (bare_flow (flow.Jump h.on)) [] none (All-nil Results))
  again_results false h =
      All-cons Results (branch_line (opposite_test h.test) h.on h.args) (bare_flow (flow.Jump h.to) ∷ []) none
      (All-cons Results (bare_flow (flow.Jump h.to)) [] none (All-nil Results))

  line_results : (t : Option Turn) (o : Option ℕ) (i : Line) → P i.results → All Results (turned_line t o i)
  line_results None o i p = All-cons Results i (label_put o) p (put_results o)
  line_results (Some t) o i p =
      All-cons Results (bare_flow (flow.Exit t.here)) (bare_flow (flow.Label t.here) ∷ tested_again t.keeps t.head) none
      (All-cons Results (bare_flow (flow.Label t.here)) (tested_again t.keeps t.head) none (again_results t.keeps t.head))

  pub turned_results : (opens : ℕ → Option ℕ) (turns : List (Option Turn)) (code : List Line) → All Results code →
      All Results (turned_by opens turns code)
  turned_results opens turns [] here = here
  turned_results opens turns (i ∷ next) here =
      All-append Results (turned_line (first_turn turns) (opens (length (others_of turns))) i) (turned_by opens (others_of turns) next)
      (line_results (first_turn turns) (opens (length (others_of turns))) i (All-head Results i next here))
      (turned_results opens (others_of turns) next (All-tail Results i next here))

pub turned_numbered : (m : Lin) → AreNumbered m → AreNumbered (turned_all m)
turned_numbered m h =
    let free = limit_above (labels_in m.code) in
    let opens = opened_at m free in
    let same = turned_same m free opens m.code in
    record {
      args = subst (All (λ (i : Line). HaveNumbers m.slots i.args)) same
          (turned_args (HaveNumbers m.slots) (no_spots m.slots) m free opens m.code h.args h.args);
      results = subst (All (λ (i : Line). HaveNumbers m.slots i.results)) same
          (turned_results (HaveNumbers m.slots) (no_spots m.slots) opens (turns_of m free m.code) m.code h.results);
    }
  where
    no_spots : (slots : ℕ) → HaveNumbers slots []
    no_spots slots k d lt = absurd (omega (arith, lt))
