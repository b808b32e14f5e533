-- Where jumps lead.
use Rattle.std.proofs.Common.{◌≡◌, ◌↔◌, ℕ, zero, suc, ◌+◌, ◌-◌, ◌<◌, ◌≤◌, cond, Bool, true, false, ◌⊎◌, inl, inr, ⊎_elim, List, [], ◌∷◌, Option, Some, None, drop, length, get_or, refl, sym, ap, ◌∙◌, arith}
use Rattle.std.proofs.lemmas.Bool.{cases_lt}
use Rattle.std.proofs.lemmas.List.{get_or_default, length-drop}
use Rattle.std.specs.Option.{unwrap_or, option_map}
use Rattle.std.specs.Prelude.{slice_index_or}
use Rattle.lin_ir.specs.Formed.{bare_flow}
use Rattle.lin_ir.specs.Meaning.{has_label, after_label}
use Rattle.lin_ir.specs.declared.lin.Flow.{Flow}
use Rattle.lin_ir.specs.declared.lin.Flow.TheVariants as flow
use Rattle.lin_ir.specs.declared.lin.LinOp.{LinOp}
use Rattle.lin_ir.specs.declared.lin.Line.{Line}
use Rattle.lin_ir.specs.declared.lin.Lin.{Lin}
use Rattle.lin_ir.specs.declared.lin.Spot.{Spot}
use Rattle.lin_laws.proofs.Places.{ends_label, place_is}
use Rattle.lin_flow.specs.Labels.{line_of_label, AreLabelsOf}
use Rattle.lin_flow.specs.declared.labels.LineLabels.{LineLabels}
use Rattle.lin_tidy_rules.specs.Redirecting.{is_label_line, first_goes, leads_to, leaves_to, next_label, followed, final_label, last_exit}
use Rattle.lin_tidy_rules.proofs.Following.{line, label_is}
use Rattle.lin_unused.proofs.Between.{drop_line}
use Rattle.lin_tidy.specs.Targets.{first_line, target_in, exit_in, AreTargets}
use Rattle.lin_tidy.specs.declared.redirecting.Targets.{Targets}

-- ---- from a place on

no_lines : (code : List Line) → length code ≡ 0 → first_line code ≡ None
no_lines [] e = refl
no_lines (i ∷ is) e = absurd (omega (arith, e))

pub first_past : (code : List Line) (k : ℕ) → length code ≤ k → first_line (drop k code) ≡ None
first_past code k le = let e = length-drop k code in no_lines (drop k code) (omega (arith, e, le))

pub first_later : (code : List Line) (k : ℕ) (i : Line) → k < length code → i ≡ get_or code k i → (l : ℕ) × (i ≡ bare_flow (flow.Label l)) →
    first_line (drop k code) ≡ first_line (drop (k + 1) code)
first_later code k i lt e label = ap first_line (drop_line code k i lt e ∙ ap (λ j. j ∷ drop (k + 1) code) label.1)

pub first_here : (code : List Line) (k : ℕ) (i : Line) → k < length code → i ≡ get_or code k i → ((l : ℕ) × (i ≡ bare_flow (flow.Label l)) → ⊥) →
    first_line (drop k code) ≡ Some i
first_here code k i lt e other = ap first_line (drop_line code k i lt e) ∙ by (is_label_line i.op i.args i.results) refl
  where
    by : (b : Bool) → is_label_line i.op i.args i.results ≡ b → cond b (first_line (drop (k + 1) code)) (Some i) ≡ Some i
    by true s = absurd (other (label_is i.op i.args i.results s))
    by false s = refl

-- what is said of it
module _ (told : LinOp → (args results : List Spot) → Option ℕ) where
  abbrev told_of : Option Line → Option ℕ
  told_of None = None
  told_of (Some i) = told i.op i.args i.results

  told_of_first : (code : List Line) → told_of (first_line code) ≡ first_goes told code
  told_of_first [] = refl
  told_of_first (i ∷ next) = by (is_label_line i.op i.args i.results) (told_of_first next)
    where
      by : (b : Bool) → told_of (first_line next) ≡ first_goes told next →
          told_of (cond b (first_line next) (Some i)) ≡ cond b (first_goes told next) (told i.op i.args i.results)
      by true e = e
      by false e = refl

  pub told_nowhere : (code : List Line) (first : Option Line) → first ≡ first_line code → first ≡ None → None ≡ first_goes told code
  told_nowhere code first e none = ap told_of (sym none ∙ e) ∙ told_of_first code

  -- of a line there it is said where it goes, which another answer says too
  module _ (goes : ℕ → Flow) (is : (l : ℕ) (f : LinOp) (args results : List Spot) → told f args results ≡ Some l → line f args results ≡ bare_flow (goes l)) (back : (l : ℕ) → told_of (Some (bare_flow (goes l))) ≡ Some l) where
    told_is : (i : Line) (o : Option ℕ) → ((l : ℕ) → (o ≡ Some l) ↔ (i ≡ bare_flow (goes l))) → o ≡ told i.op i.args i.results
    told_is i (Some l) exact = sym (ap (λ i. told_of (Some i)) ((exact l).0 refl) ∙ back l)
    told_is i None exact = by (told i.op i.args i.results) refl
      where
        by : (t : Option ℕ) → told i.op i.args i.results ≡ t → None ≡ t
        by None e = refl
        by (Some l) e = (exact l).1 (is l i.op i.args i.results e)

    pub told_there : (code : List Line) (first : Option Line) (i : Line) (o : Option ℕ) → first ≡ first_line code → first ≡ Some i →
        ((l : ℕ) → (o ≡ Some l) ↔ (i ≡ bare_flow (goes l))) → o ≡ first_goes told code
    told_there code first i o e some exact = told_is i o exact ∙ ap told_of (sym some ∙ e) ∙ told_of_first code

-- ---- one jump after the other

-- the code after a label, by the places of labels
after_is : (m : Lin) (labels : LineLabels) (slice : List Line) (l place : ℕ) → AreLabelsOf m labels → slice ≡ m.code → place ≡ line_of_label labels l →
    drop place slice ≡ after_label l m.code
after_is m labels slice l place table same at =
    ap (drop place) same ∙ ap (λ p. drop p m.code) (at ∙ table.each l) ∙ place_is m (ends_label l m.code)

-- the label to which one jumps from a label
pub next_is : (m : Lin) (labels : LineLabels) (slice : List Line) (l place : ℕ) (o : Option ℕ) → AreLabelsOf m labels → slice ≡ m.code →
    place ≡ line_of_label labels l → o ≡ leads_to (drop place slice) → next_label m l ≡ unwrap_or o l
next_is m labels slice l place o table same at e =
    ap (λ o. unwrap_or o l) (sym (e ∙ ap leads_to (after_is m labels slice l place table same at)))

-- and the exit there
pub exit_is_at : (m : Lin) (labels : LineLabels) (slice : List Line) (l last place : ℕ) (o : Option ℕ) → AreLabelsOf m labels → slice ≡ m.code →
    last ≡ final_label m l → place ≡ line_of_label labels last → o ≡ leaves_to (drop place slice) → option_map (final_label m) o ≡ last_exit m l
exit_is_at m labels slice l last place o table same is at e =
    ap (option_map (final_label m))
    (e ∙ ap leaves_to (after_is m labels slice last place table same at) ∙ ap (λ k. leaves_to (after_label k m.code)) is)

followed_stays : (m : Lin) (n l : ℕ) → next_label m l ≡ l → followed m n l ≡ l
followed_stays m zero l e = refl
followed_stays m (suc n) l e = ap (followed m n) e ∙ followed_stays m n l e

-- so many times are left, and from the label one comes where one is to come
pub followed_none : (m : Lin) (n l last : ℕ) → next_label m l ≡ l → followed m n l ≡ last → l ≡ last
followed_none m n l last e h = sym (followed_stays m n l e) ∙ h

pub followed_some : (m : Lin) (n k l next last : ℕ) → k < n → next_label m l ≡ next → followed m (n - k) l ≡ last → followed m (n - (k + 1)) next ≡ last
followed_some m n k l next last lt e h =
    let one : n - k ≡ suc (n - (k + 1)) = omega (arith, lt) in
    sym (ap (λ n. followed m n l) one ∙ ap (followed m (n - (k + 1))) e) ∙ h

pub followed_out : (m : Lin) (n k l last : ℕ) → n ≤ k → followed m (n - k) l ≡ last → l ≡ last
followed_out m n k l last le h = let none : n - k ≡ 0 = omega (arith, le) in sym (ap (λ n. followed m n l) none) ∙ h

-- ---- the table

-- it is at none of the first k lines
abbrev StandsNot : Lin → ℕ → ℕ → Type 0
StandsNot m k l = (p : ℕ) (d : Line) → p < k → p < length m.code → has_label l (slice_index_or m.code p d).op ≡ false

-- each label has what it is to have, or is at none of the first k lines and has what it has at first
pub record HasSoFar {X : Type 0} (m : Lin) (k : ℕ) (now all first : ℕ → X) : Type 0 where
  pub each : (l : ℕ) → (now l ≡ all l) ⊎ ((now l ≡ first l) × StandsNot m k l)

has_begun : {X : Type 0} (m : Lin) (now all first : ℕ → X) → ((l : ℕ) → now l ≡ first l) → HasSoFar m 0 now all first
has_begun m now all first own = record { each = λ l. inr (own l, λ p d lt. absurd (omega (arith, lt))) }

has_more : {X : Type 0} (m : Lin) (old new all first : ℕ → X) (k : ℕ) (i : Line) → i ≡ get_or m.code k i →
    ((l : ℕ) → new l ≡ cond (has_label l i.op) (all l) (old l)) → HasSoFar m k old all first → HasSoFar m (k + 1) new all first
has_more m old new all first k i at made h = record { each = λ l. by l (has_label l i.op) refl (made l) (h.each l) }
  where
    by : (l : ℕ) (b : Bool) → has_label l i.op ≡ b → new l ≡ cond b (all l) (old l) → (old l ≡ all l) ⊎ ((old l ≡ first l) × StandsNot m k l) →
        (new l ≡ all l) ⊎ ((new l ≡ first l) × StandsNot m (k + 1) l)
    by l true s e h = inl e
    by l false s e (inl h) = inl (e ∙ h)
    by l false s e (inr h) = inr (e ∙ h.0, λ p d lt in_code. ⊎_elim (λ less. h.1 p d less in_code) (λ le. here p d lt in_code le) (cases_lt p k))
      where
        here : (p : ℕ) (d : Line) → p < k + 1 → p < length m.code → k ≤ p → has_label l (slice_index_or m.code p d).op ≡ false
        here p d lt in_code le =
            let same : p ≡ k = omega (arith, lt, le) in
            ap (λ (j : Line). has_label l j.op) (get_or_default m.code p d i in_code ∙ ap (λ p. get_or m.code p i) same ∙ sym at) ∙ s

-- a label that is nowhere leads nowhere
stands_nowhere : (l : ℕ) (code : List Line) → ((p : ℕ) (d : Line) → p < length code → has_label l (slice_index_or code p d).op ≡ false) →
    after_label l code ≡ []
stands_nowhere l [] none = refl
stands_nowhere l (i ∷ is) none =
    ap (λ b. cond b is (after_label l is)) (none 0 i (omega arith)) ∙ stands_nowhere l is (λ p d lt. none (suc p) d (omega (arith, lt)))

has_all : {X : Type 0} (m : Lin) (now all first : ℕ → X) (k : ℕ) → length m.code ≤ k → ((l : ℕ) → after_label l m.code ≡ [] → first l ≡ all l) →
    HasSoFar m k now all first → (l : ℕ) → now l ≡ all l
has_all m now all first k le nowhere h l =
    ⊎_elim (λ e. e) (λ y. y.0 ∙ nowhere l (stands_nowhere l m.code (λ p d lt. y.1 p d (omega (arith, lt, le)) lt))) (h.each l)

-- a label is its own target, and no exit is said of it
abbrev pub own : ℕ → ℕ
own l = l

abbrev pub none_told : ℕ → Option ℕ
none_told l = None

pub record TargetsSoFar (m : Lin) (t : Targets) (k : ℕ) : Type 0 where
  pub to : HasSoFar m k (target_in t) (final_label m) own
  pub exits : HasSoFar m k (exit_in t) (last_exit m) none_told

pub targets_begun : (m : Lin) (t : Targets) → ((l : ℕ) → target_in t l ≡ l) → ((l : ℕ) → exit_in t l ≡ None) → TargetsSoFar m t 0
targets_begun m t to exits = record {
  to = has_begun m (target_in t) (final_label m) own to;
  exits = has_begun m (exit_in t) (last_exit m) none_told exits;
}

pub targets_more : (m : Lin) (old new : Targets) (k : ℕ) (i : Line) → i ≡ get_or m.code k i →
    ((l : ℕ) → target_in new l ≡ cond (has_label l i.op) (final_label m l) (target_in old l)) →
    ((l : ℕ) → exit_in new l ≡ cond (has_label l i.op) (last_exit m l) (exit_in old l)) → TargetsSoFar m old k → TargetsSoFar m new (k + 1)
targets_more m old new k i at to exits h = record {
  to = has_more m (target_in old) (target_in new) (final_label m) own k i at to h.to;
  exits = has_more m (exit_in old) (exit_in new) (last_exit m) none_told k i at exits h.exits;
}

stays_nowhere : (m : Lin) (l : ℕ) → after_label l m.code ≡ [] → final_label m l ≡ l
stays_nowhere m l none = followed_stays m (length m.code) l (ap (λ is. unwrap_or (leads_to is) l) none)

exits_nowhere : (m : Lin) (l : ℕ) → after_label l m.code ≡ [] → None ≡ last_exit m l
exits_nowhere m l none =
    sym (ap (λ k. option_map (final_label m) (leaves_to (after_label k m.code))) (stays_nowhere m l none)
    ∙ ap (λ is. option_map (final_label m) (leaves_to is)) none)

pub targets_all : (m : Lin) (t : Targets) (k : ℕ) → length m.code ≤ k → TargetsSoFar m t k → AreTargets m t
targets_all m t k le h = record {
  to = has_all m (target_in t) (final_label m) own k le (λ l none. sym (stays_nowhere m l none)) h.to;
  exits = has_all m (exit_in t) (last_exit m) none_told k le (exits_nowhere m) h.exits;
}
