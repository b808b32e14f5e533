-- All exits that lead to branches may be turned at once.
use Rattle.std.proofs.Common.{◌≡◌, ◌≢◌, ℕ, suc, ◌+◌, ◌*◌, ◌≤◌, ◌<◌, Bool, true, false, cond, ◌||◌, nat_eq, max, ◌⊎◌, ⊎_elim, List, [], ◌∷◌, ◌++◌, length, All, Option, Some, None, refl, sym, ap, ◌∙◌, subst, arith}
use Rattle.std.proofs.lemmas.Bool.{true≢false, eq-eqb, eqb-true}
use Rattle.std.proofs.lemmas.List.Kept.{AllPairs-cons}
use Rattle.std.proofs.Math.Nat.{le-max_left, le-max_right}
use Rattle.std.specs.List.{AllPairs}
use Rattle.std.proofs.lemmas.Option.{same_Some}
use Rattle.lin_ir.specs.Formed.{label_of, labels_in, WellFormed, bare_flow}
use Rattle.lin_ir.specs.Meaning.{after_label}
use Rattle.lin_ir.specs.Walks.{StandsAsLine, here, below}
use Rattle.lin_ir.specs.declared.lin.Flow.TheVariants as flow
use Rattle.lin_ir.specs.declared.lin.LinOp.{LinOp}
use Rattle.lin_ir.specs.declared.lin.LinOp.TheVariants as lin
use Rattle.lin_ir.specs.declared.lin.Line.{Line}
use Rattle.lin_ir.specs.declared.lin.Lin.{Lin}
use Rattle.lin_ir.specs.declared.lin.Spot.{Spot}
use Rattle.linearise_rules.proofs.Homes.{IsIn, is_first, is_later, in_left, in_right, split_in}
use Rattle.linearise_rules.proofs.Lines.{all_of}
use Rattle.linearise_rules.proofs.Marks.{all_in, Differ}
use Rattle.linearise_rules.proofs.Walked.{Tail, tail_all, tail_next, tail_label, tail_stands, stands_tail, later_label}
use Rattle.bs_words.proofs.Lists.{pairs_here, head_same}
use Rattle.lin_tidy_rules.specs.Turning.{Head, Turn, turned_lines, ExitsToBranch, Turns, label_here, label_on, head_by, head_at, stands_first, exit_head, turn_for, line_turn, turn_at, is_on, is_led_to, opened_at, turned_all}
use Rattle.linearise_rules.specs.Lowered.{limit_above}
use Rattle.lin_tidy_rules.proofs.Ends.{tail_length, same_tail, pairs_past}
use Rattle.lin_tidy_rules.proofs.Turning.{head_line, new_labels, labels_of_line}

no_head : {A : Type 0} (d : Head) → None ≡ Some d → A
no_head d e = absurd (out e)
  where
    out : None ≡ Some d → ⊥
    out e = cc

same_head : (x y : Head) → Some x ≡ Some y → x ≡ y
same_head x y e = cc

no_turn : {A : Type 0} (t : Turn) → None ≡ Some t → A
no_turn t e = absurd (out e)
  where
    out : None ≡ Some t → ⊥
    out e = cc

same_turn : (x y : Turn) → Some x ≡ Some y → x ≡ y
same_turn x y e = cc

no_label : {A : Type 0} (l : ℕ) → None ≡ Some l → A
no_label l e = absurd (out e)
  where
    out : None ≡ Some l → ⊥
    out e = cc

-- labels that occur are below the first free one
below_free : {l : ℕ} (ls : List ℕ) → IsIn l ls → l < limit_above ls
below_free {l} [] z = elim z [ ]
below_free {l} (k ∷ ks) z = by z (λ u. below_free ks u)
  where
    by : {l k : ℕ} → IsIn l (k ∷ ks) → (IsIn l ks → l < limit_above ks) → l < max (suc k) (limit_above ks)
    by {l} is_first ih = le-max_left (suc l) (limit_above ks)
    by {l} {k} (is_later u) ih = let a = ih u in let b = le-max_right (suc k) (limit_above ks) in omega (arith, a, b)

on_same : (free a b : ℕ) → label_on free a ≡ label_on free b → a ≡ b
on_same free a b e = omega (arith, e)

module _ (m : Lin) (free : ℕ) where
  -- ---- the branch to which an exit leads

  record HeadAt (code : List Line) (d : Head) : Type 0 where
    rest : List Line
    is : code ≡ head_line d ∷ rest
    on : d.on ≡ label_on free (length rest)

  head_found : (f : LinOp) (args results : List Spot) (next : List Line) (d : Head) → head_by free f args results next ≡ Some d →
      HeadAt (record { op = f; args = args; results = results } ∷ next) d
  head_found (lin.Flow (flow.Branch t l)) args [] next d e =
      let same = same_head (record { test = t; args = args; to = l; on = label_on free (length next) }) d e in
      record { rest = next; is = ap (λ d. head_line d ∷ next) same; on = ap (λ (d : Head). d.on) (sym same) }
  head_found (lin.Flow (flow.Branch t l)) args (s ∷ ss) next d e = no_head d e
  head_found (lin.Flow (flow.Label l)) args results next d e = no_head d e
  head_found (lin.Flow (flow.Jump l)) args results next d e = no_head d e
  head_found (lin.Flow (flow.Exit l)) args results next d e = no_head d e
  head_found (lin.Flow (flow.Switch ls)) args results next d e = no_head d e
  head_found (lin.Flow (flow.PushTrap l)) args results next d e = no_head d e
  head_found (lin.Flow flow.PopTrap) args results next d e = no_head d e
  head_found (lin.Flow flow.EnterTrap) args results next d e = no_head d e
  head_found (lin.Op f) args results next d e = no_head d e

  head_of : (code : List Line) (d : Head) → head_at free code ≡ Some d → HeadAt code d
  head_of [] d e = no_head d e
  head_of (i ∷ next) d e = head_found i.op i.args i.results next d e

  record ExitsTo (i : Line) (d : Head) : Type 0 where
    label : ℕ
    is : i ≡ bare_flow (flow.Exit label)
    at : HeadAt (after_label label m.code) d

  exit_found : (f : LinOp) (args results : List Spot) (next : List Line) (d : Head) → exit_head m free f args results next ≡ Some d →
      ExitsTo (record { op = f; args = args; results = results }) d
  exit_found (lin.Flow (flow.Exit l)) [] [] next d e = record { label = l; is = refl; at = by (stands_first l next) e }
    where
      by : (b : Bool) → cond b None (head_at free (after_label l m.code)) ≡ Some d → HeadAt (after_label l m.code) d
      by true e = no_head d e
      by false e = head_of (after_label l m.code) d e
  exit_found (lin.Flow (flow.Exit l)) [] (s ∷ ss) next d e = no_head d e
  exit_found (lin.Flow (flow.Exit l)) (s ∷ ss) results next d e = no_head d e
  exit_found (lin.Flow (flow.Branch t l)) args results next d e = no_head d e
  exit_found (lin.Flow (flow.Label l)) args results next d e = no_head d e
  exit_found (lin.Flow (flow.Jump l)) args results next d e = no_head d e
  exit_found (lin.Flow (flow.Switch ls)) args results next d e = no_head d e
  exit_found (lin.Flow (flow.PushTrap l)) args results next d e = no_head d e
  exit_found (lin.Flow flow.PopTrap) args results next d e = no_head d e
  exit_found (lin.Flow flow.EnterTrap) args results next d e = no_head d e
  exit_found (lin.Op f) args results next d e = no_head d e

  record IsTurn (i : Line) (next : List Line) (t : Turn) : Type 0 where
    exits : ExitsTo i t.head
    here : t.here ≡ label_here free (length next)

  turn_found : (i : Line) (next : List Line) (t : Turn) → line_turn m free i next ≡ Some t → IsTurn i next t
  turn_found i next t e = by (exit_head m free i.op i.args i.results next) refl e
    where
      by : (x : Option Head) → exit_head m free i.op i.args i.results next ≡ x → turn_for m free next x ≡ Some t → IsTurn i next t
      by None u e = no_turn t e
      by (Some d) u e =
          let same = same_turn _ t e in
          record {
            exits = subst (ExitsTo i) (ap (λ (t : Turn). t.head) same) (exit_found i.op i.args i.results next d u);
            here = ap (λ (t : Turn). t.here) (sym same);
          }

  not_same : (a b : ℕ) → b < a → nat_eq a b ≡ false
  not_same a b lt = by (nat_eq a b) refl
    where
      by : (c : Bool) → nat_eq a b ≡ c → nat_eq a b ≡ false
      by false e = e
      by true e = let same : a ≡ b = eqb-true a b e in absurd (omega (arith, same, lt))

  turn_is : {i : Line} {next code : List Line} → StandsAsLine i next code → turn_at m free code (length next) ≡ line_turn m free i next
  turn_is {i} {next} here =
      ap (λ b. cond b (line_turn m free i next) (turn_at m free next (length next))) (eq-eqb (length next) (length next) refl)
  turn_is {i} {next} (below {j = j} {is = is} s) =
      let le = tail_length (stands_tail s) in
      ap (λ b. cond b (line_turn m free j is) (turn_at m free is (length next))) (not_same (length is) (length next) (omega (arith, le)))
      ∙ turn_is s

  -- ---- labels after branches

  record LedTo (l : ℕ) (code : List Line) : Type 0 where
    line : Line
    next : List Line
    stands : StandsAsLine line next code
    turn : Turn
    is : line_turn m free line next ≡ Some turn
    on : turn.head.on ≡ l

  led_to : (l : ℕ) (code : List Line) → is_led_to m free l code ≡ true → LedTo l code
  led_to l [] e = absurd (true≢false (sym e))
  led_to l (i ∷ next) e = by (line_turn m free i next) refl e (λ u. led_to l next u)
    where
      lower : LedTo l next → LedTo l (i ∷ next)
      lower y = record { line = y.line; next = y.next; stands = below y.stands; turn = y.turn; is = y.is; on = y.on }

      two : (t : Turn) → line_turn m free i next ≡ Some t → (b : Bool) → nat_eq t.head.on l ≡ b → b || is_led_to m free l next ≡ true →
          (is_led_to m free l next ≡ true → LedTo l next) → LedTo l (i ∷ next)
      two t u true v e ih = record { line = i; next = next; stands = here; turn = t; is = u; on = eqb-true t.head.on l v }
      two t u false v e ih = lower (ih e)

      by : (x : Option Turn) → line_turn m free i next ≡ x → is_on l x || is_led_to m free l next ≡ true →
          (is_led_to m free l next ≡ true → LedTo l next) → LedTo l (i ∷ next)
      by None u e ih = lower (ih e)
      by (Some t) u e ih = two t u (nat_eq t.head.on l) refl e ih

  leads_some : {i : Line} {next code : List Line} (t : Turn) → StandsAsLine i next code → line_turn m free i next ≡ Some t → is_led_to m free t.head.on code ≡ true
  leads_some {i} {next} t here e =
      ap (λ x. is_on t.head.on x || is_led_to m free t.head.on next) e
      ∙ ap (λ b. b || is_led_to m free t.head.on next) (eq-eqb t.head.on t.head.on refl)
  leads_some t (below {j = j} {is = is} s) e = or_right (is_on t.head.on (line_turn m free j is)) (leads_some t s e)
    where
      or_right : (b : Bool) {a : Bool} → a ≡ true → b || a ≡ true
      or_right true e = refl
      or_right false e = e

  opened_is : (n : ℕ) → is_led_to m free (label_on free n) m.code ≡ true → opened_at m free n ≡ Some (label_on free n)
  opened_is n e = ap (λ b. cond b (Some (label_on free n)) None) e

  record OpenedAt (n l : ℕ) : Type 0 where
    led : is_led_to m free (label_on free n) m.code ≡ true
    label : l ≡ label_on free n

  was_opened : (n l : ℕ) → opened_at m free n ≡ Some l → OpenedAt n l
  was_opened n l e = by (is_led_to m free (label_on free n) m.code) refl e
    where
      by : (b : Bool) → is_led_to m free (label_on free n) m.code ≡ b → cond b (Some (label_on free n)) None ≡ Some l → OpenedAt n l
      by true u e = record { led = u; label = sym (same_Some (label_on free n) l e) }
      by false u e = no_label l e

  branch_opened : (i : Line) (next : List Line) (l : ℕ) → StandsAsLine i next m.code → opened_at m free (length next) ≡ Some l → (d : Head) × (i ≡ head_line d)
  branch_opened i next l s e =
      let led = led_to (label_on free (length next)) m.code (was_opened (length next) l e).led in
      let t = turn_found led.line led.next led.turn led.is in
      let at = t.exits.at in
      let there : Tail (head_line led.turn.head ∷ at.rest) m.code = subst (λ xs. Tail xs m.code) at.is (tail_label t.exits.label m.code) in
      let far : length next ≡ length at.rest = on_same free (length next) (length at.rest) (sym led.on ∙ at.on) in
      (led.turn.head, head_same (same_tail (stands_tail s) there (ap suc far)))

  exit_turned : (i : Line) (next : List Line) (t : Turn) → StandsAsLine i next m.code → turn_at m free m.code (length next) ≡ Some t →
      ExitsToBranch m (opened_at m free) i t.head
  exit_turned i next t s e =
      let is = sym (turn_is s) ∙ e in
      let y = turn_found i next t is in
      let at = y.exits.at in
      record {
        label = y.exits.label;
        is = y.exits.is;
        rest = at.rest;
        leads = at.is;
        opened = opened_is (length at.rest) (subst (λ l. is_led_to m free l m.code ≡ true) at.on (leads_some t s is)) ∙ ap Some (sym at.on);
      }

  -- ---- labels

  abbrev L : List Line → List Line
  L = turned_lines (turn_at m free m.code) (opened_at m free)

  abbrev new_after : List Line → List ℕ
  new_after next = new_labels (turn_at m free m.code (length next)) (opened_at m free (length next))

  labels_line : {i : Line} {next : List Line} → Tail (i ∷ next) m.code → labels_in (L (i ∷ next)) ≡ label_of i.op ++ (new_after next ++ labels_in (L next))
  labels_line {i} {next} w =
      labels_of_line (turn_at m free m.code (length next)) (opened_at m free (length next)) i (L next)
      (λ t u. ap (λ (i : Line). label_of i.op) (exit_turned i next t (tail_stands w) u).is)

  record IsFresh (n : ℕ) (l : ℕ) : Type 0 where
    least : free + 2 * n ≤ l
    most : l < free + 2 * suc n

  fresh : {l : ℕ} {i : Line} {next : List Line} → Tail (i ∷ next) m.code → IsIn l (new_after next) → IsFresh (length next) l
  fresh {l} {i} {next} w z = by (turn_at m free m.code (length next)) refl (opened_at m free (length next)) refl z
    where
      is_here : (n k : ℕ) → k ≡ label_here free n → IsFresh n k
      is_here n k e = record { least = omega (arith, e); most = omega (arith, e) }

      is_on_it : (n k : ℕ) → k ≡ label_on free n → IsFresh n k
      is_on_it n k e = record { least = omega (arith, e); most = omega (arith, e) }

      one : {k l : ℕ} → IsFresh (length next) k → IsIn l (k ∷ []) → IsFresh (length next) l
      one y is_first = y
      one y (is_later z) = elim z [ ]

      by : (x : Option Turn) → turn_at m free m.code (length next) ≡ x → (o : Option ℕ) → opened_at m free (length next) ≡ o → IsIn l (new_labels x o) →
          IsFresh (length next) l
      by None u None v z = elim z [ ]
      by None u (Some k) v z = one (is_on_it (length next) k (was_opened (length next) k v).label) z
      by (Some t) u o v z = one (is_here (length next) t.here (turn_found i next t (sym (turn_is (tail_stands w)) ∙ u)).here) z

  -- a label of the code was one of it, or is new
  data Whose (l : ℕ) (is : List Line) : Type 0 where
    was_there : IsIn l (labels_in is) → Whose l is
    is_new : free ≤ l → l < free + 2 * length is → Whose l is

  whose : {l : ℕ} (is : List Line) → Tail is m.code → IsIn l (labels_in (L is)) → Whose l is
  whose [] w z = was_there z
  whose {l} (i ∷ next) w z =
      ⊎_elim (λ u. was_there (in_left (labels_in next) u))
      (λ u. ⊎_elim (λ v. let y = fresh w v in let a = y.least in let b = y.most in is_new (omega (arith, a)) b)
      (λ v. more (whose next (tail_next w) v)) (split_in (new_after next) (labels_in (L next)) u))
      (split_in (label_of i.op) (new_after next ++ labels_in (L next)) (subst (IsIn l) (labels_line w) z))
    where
      more : Whose l next → Whose l (i ∷ next)
      more (was_there z) = was_there (in_right (label_of i.op) z)
      more (is_new a b) = is_new a (omega (arith, b))

  module _ (once : AllPairs Differ (labels_in m.code)) (above : (l : ℕ) → IsIn l (labels_in m.code) → l < free) where
    new_differs : {l k : ℕ} {i : Line} {next : List Line} → Tail (i ∷ next) m.code → IsFresh (length next) l → Whose k next → l ≢ k
    new_differs {l} {k} w y (was_there z) = λ e. let lt = above k (later_label (tail_next w) z) in let a = y.least in absurd (omega (arith, lt, a, e))
    new_differs {l} {k} w y (is_new a b) = λ e. let c = y.least in absurd (omega (arith, b, c, e))

    own_differs : {l k : ℕ} {i : Line} {next : List Line} → Tail (i ∷ next) m.code → AllPairs Differ (l ∷ labels_in next) → l < free → Whose k next → l ≢ k
    own_differs {l} {k} {i} {next} w pairs lt (was_there z) = all_in (Differ l) (pairs_here Differ l (labels_in next) pairs) z
    own_differs {l} {k} w pairs lt (is_new a b) = λ e. absurd (omega (arith, lt, a, e))

    before_new : (x : Option Turn) (o : Option ℕ) (ls : List ℕ) → ((l : ℕ) → IsIn l (new_labels x o) → All (Differ l) ls) → AllPairs Differ ls →
        AllPairs Differ (new_labels x o ++ ls)
    before_new None None ls all pairs = pairs
    before_new None (Some l) ls all pairs = AllPairs-cons Differ l ls (all l is_first) pairs
    before_new (Some t) o ls all pairs = AllPairs-cons Differ t.here ls (all t.here is_first) pairs

    before_own : (f : LinOp) (ls : List ℕ) → ((l : ℕ) → label_of f ≡ l ∷ [] → All (Differ l) ls) → AllPairs Differ ls → AllPairs Differ (label_of f ++ ls)
    before_own (lin.Flow (flow.Label l)) ls all pairs = AllPairs-cons Differ l ls (all l refl) pairs
    before_own (lin.Flow (flow.Branch t l)) ls all pairs = pairs
    before_own (lin.Flow (flow.Jump l)) ls all pairs = pairs
    before_own (lin.Flow (flow.Exit l)) ls all pairs = pairs
    before_own (lin.Flow (flow.Switch ks)) ls all pairs = pairs
    before_own (lin.Flow (flow.PushTrap l)) ls all pairs = pairs
    before_own (lin.Flow flow.PopTrap) ls all pairs = pairs
    before_own (lin.Flow flow.EnterTrap) ls all pairs = pairs
    before_own (lin.Op f) ls all pairs = pairs

    distinct : (is : List Line) → Tail is m.code → AllPairs Differ (labels_in is) → AllPairs Differ (labels_in (L is))
    distinct [] w pairs = pairs
    distinct (i ∷ next) w pairs =
        subst (AllPairs Differ) (sym (labels_line w))
        (before_own i.op (new_after next ++ labels_in (L next)) own
        (before_new (turn_at m free m.code (length next)) (opened_at m free (length next)) (labels_in (L next))
        (λ l z. all_of (Differ l) (labels_in (L next)) (λ k v. new_differs w (fresh w z) (whose next (tail_next w) v)))
        (distinct next (tail_next w) (pairs_past (label_of i.op) (labels_in next) pairs))))
      where
        own : (l : ℕ) → label_of i.op ≡ l ∷ [] → All (Differ l) (new_after next ++ labels_in (L next))
        own l e =
            let first : AllPairs Differ (l ∷ labels_in next) = subst (λ ks. AllPairs Differ (ks ++ labels_in next)) e pairs in
            let lt = above l (later_label w (subst (λ ks. IsIn l (ks ++ labels_in next)) (sym e) is_first)) in
            all_of (Differ l) (new_after next ++ labels_in (L next))
            (λ k v. ⊎_elim (λ u. λ same. let y = fresh w u in let a = y.least in absurd (omega (arith, lt, a, same)))
            (λ u. own_differs w first lt (whose next (tail_next w) u)) (split_in (new_after next) (labels_in (L next)) v))

-- All exits that lead to branches may be turned at once, where labels occur once.
pub turns_all : {m : Lin} → WellFormed m → Turns m (turned_all m)
turns_all {m} well =
    record {
      turns = turn_at m (limit_above (labels_in m.code)) m.code;
      opens = opened_at m (limit_above (labels_in m.code));
      is = refl;
      branches = λ i next l s e. branch_opened m (limit_above (labels_in m.code)) i next l s e;
      each = λ i next t s e. exit_turned m (limit_above (labels_in m.code)) i next t s e;
      labels = distinct m (limit_above (labels_in m.code)) well.labels (λ l z. below_free (labels_in m.code) z) m.code tail_all well.labels;
    }
