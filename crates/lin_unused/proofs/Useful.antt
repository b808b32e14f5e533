-- What lines are for, by what walks of the function as vals read.
use Rattle.std.proofs.Common.{◌≡◌, ◌↔◌, ℕ, zero, suc, ◌+◌, ◌<◌, ◌≤◌, Bool, true, false, not, List, [], ◌∷◌, map, length, drop, get_or, refl, sym, ap, ◌∙◌, subst, arith}
use Rattle.std.proofs.lemmas.Bool.{true≢false}
use Rattle.std.proofs.lemmas.Option.{slice_get_within}
use Rattle.std.specs.List.{All}
use Rattle.std.specs.Prelude.{IsTrue}
use Rattle.bs_words.specs.declared.types.Comp.{Comp}
use Rattle.bs_words.specs.declared.types.Comp.TheVariants as comp
use Rattle.bs_words.specs.declared.types.Loc.{Loc}
use Rattle.bs_words.proofs.Lists.{drop_none, head_same, tail_same}
use Rattle.mach_ir.specs.Acts.{Target, On}
use Rattle.mach_ir.specs.Walks.{OneOf, this, other}
use Rattle.lin_ir.specs.Formed.{IsSelfMove, is_self_move, bare_flow}
use Rattle.lin_ir.specs.Meaning.{after_label, code_at}
use Rattle.lin_ir.specs.Walks.{targets, tries_after, Reached, Live, LiveAfter, after_step, goes}
use Rattle.lin_ir.specs.declared.lin.Flow.TheVariants as flow
use Rattle.lin_ir.specs.declared.lin.LinOp.{LinOp}
use Rattle.lin_ir.specs.declared.lin.LinOp.TheVariants as lin
use Rattle.lin_ir.specs.declared.lin.Line.{Line}
use Rattle.lin_ir.specs.declared.lin.Lin.{Lin}
use Rattle.lin_ir.specs.declared.lin.Spot.{Spot}
use Rattle.lin_laws.proofs.Numbers.{loc_of_number, number_below}
use Rattle.lin_laws.proofs.Places.{drop_is, ends_label, place_is, place_drop}
use Rattle.lin_laws.specs.Graph.{location_of_number, line_index, position, HasNumber, HaveNumbers, AreNumbered}
use Rattle.lin_laws.specs.declared.position.Position.{Position}
use Rattle.lin_laws.specs.Numbers.{number_of_location}
use Rattle.lin_flow.specs.Walked.{AreLive, IsReachedAt, IsReadAfter}
use Rattle.lin_flow.specs.Sizes.{IsCountable}
use Rattle.lin_flow.proofs.Visiting.{results_numbered}
use Rattle.lin_flow.specs.Search as search
use Rattle.lin_flow.specs.Search.{HasFirst}
use Rattle.lin_flow.specs.declared.live.LiveWalks.{LiveWalks}
use Rattle.lin_flow.specs.declared.walks.Walks.{Walks}
use Rattle.linearise_rules.proofs.Homes.{IsIn, is_first, is_later}
use Rattle.linearise_rules.proofs.Lines.{all_of}
use Rattle.linearise_rules.proofs.Marks.{all_in}
use Rattle.linearise_rules.proofs.Walked.{Tail, tail_all, tail_more, tail_in, tail_stands}
use Rattle.lin_tidy_rules.specs.Leaving.{is_landing, IsUseless, unreached, unread, skipped, LabelsBetween}
use Rattle.lin_tidy_rules.specs.Regular.{IsReadBehind}
use Rattle.lin_tidy_rules.specs.Vals.{as_val, line_as_vals, as_vals}
use Rattle.lin_tidy_rules.proofs.Leaving.{GoesOn, self_goes}
use Rattle.lin_tidy_rules.proofs.Vals.{reached_vals, reached_of, live_vals, live_of}
use Rattle.lin_unused.specs.Flags.{TellsSkipped, IsSearched, AllReached, AreRead, IsIdle, not_read, not_needed, TellsIdle, TellsUse}
use Rattle.lin_unused.specs.Forms.{copies, MovesItself, IsNoSelfMove}
use Rattle.lin_unused.proofs.Between.{drop_line}
use Rattle.lin_unused.proofs.SelfMoves.{self_copies, self_place}

-- ---- lists

pub drop_tail : (p : ℕ) (code : List Line) → Tail (drop p code) code
drop_tail zero code = subst (λ xs. Tail xs code) (sym (drop_none code)) tail_all
drop_tail (suc p) [] = tail_all
drop_tail (suc p) (i ∷ is) = tail_more (drop_tail p is)

vals_drop : (p : ℕ) (is : List Line) → drop p (map line_as_vals is) ≡ map line_as_vals (drop p is)
vals_drop zero is = drop_none (map line_as_vals is) ∙ ap (map line_as_vals) (sym (drop_none is))
vals_drop (suc p) [] = refl
vals_drop (suc p) (i ∷ is) = vals_drop p is

pub vals_length : (is : List Line) → length (map line_as_vals is) ≡ length is
vals_length [] = refl
vals_length (i ∷ is) = ap suc (vals_length is)

vals_here : (p : ℕ) (is : List Line) (i : Line) (next : List Line) → drop p is ≡ i ∷ next →
    drop p (map line_as_vals is) ≡ line_as_vals i ∷ map line_as_vals next
vals_here p is i next e = vals_drop p is ∙ ap (map line_as_vals) e

-- each of a mapped list comes from one
mapped : {A B : Type 0} (f : A → B) (P : B → Type 0) (xs : List A) → ((x : A) → IsIn x xs → P (f x)) → (y : B) → IsIn y (map f xs) → P y
mapped f P [] h y z = elim z [ ]
mapped {A} {B} f P (x ∷ xs) h y z = by (f x) refl (map f xs) z (λ u. mapped f P xs (λ a i. h a (is_later i)) y u)
  where
    by : (k : B) → f x ≡ k → (ks : List B) → IsIn y (k ∷ ks) → (IsIn y ks → P y) → P y
    by k e ks is_first ih = subst P e (h x is_first)
    by k e ks (is_later u) ih = ih u

pub all_map : {A B : Type 0} (f : A → B) (P : B → Type 0) (xs : List A) → ((x : A) → IsIn x xs → P (f x)) → All P (map f xs)
all_map f P xs h = all_of P (map f xs) (mapped f P xs h)

vals_spots : (slots : ℕ) (ss : List Spot) → HaveNumbers slots ss → HaveNumbers slots (map as_val ss)
vals_spots slots ss h =
    all_map as_val (λ (s : Spot). HasNumber slots s.loc) ss (λ s z. all_in (λ (s : Spot). HasNumber slots s.loc) h z)

-- the function as vals has its locations
pub vals_numbered : (m : Lin) → AreNumbered m → AreNumbered (as_vals m)
vals_numbered m h =
    record {
      args = all_map line_as_vals (λ (i : Line). HaveNumbers m.slots i.args) m.code
          (λ i z. vals_spots m.slots i.args (all_in (λ (i : Line). HaveNumbers m.slots i.args) h.args z));
      results = all_map line_as_vals (λ (i : Line). HaveNumbers m.slots i.results) m.code
          (λ i z. vals_spots m.slots i.results (all_in (λ (i : Line). HaveNumbers m.slots i.results) h.results z));
    }

-- and as many lines and slots
pub vals_countable : (m : Lin) → IsCountable m → IsCountable (as_vals m)
vals_countable m h =
    let same = vals_length m.code in
    let lines = h.lines in
    record { lines = omega (arith, same, lines); slots = h.slots }

-- ---- moves of a location to itself

first_spot : (s t : Spot) (ss ts : List Spot) → s ∷ ss ≡ t ∷ ts → s ≡ t
first_spot s t ss ts e = cc

-- a line moves one location to itself
pub self_one : {i : Line} {from to other into : Spot} → IsSelfMove i from to → IsSelfMove i other into → to.loc ≡ into.loc
self_one a b =
    let x = self_place a in
    let y = self_place b in
    sym x.at ∙ ap (λ (s : Spot). s.loc) (first_spot x.to y.to [] [] (sym x.is_to ∙ y.is_to)) ∙ y.at

self_landing : {i : Line} {from to : Spot} → IsSelfMove i from to → is_landing i.op ≡ false
self_landing (is_self_move same) = refl

pub only_on : {i : Line} {from to : Spot} {t : Target} → IsSelfMove i from to → OneOf t (targets i.op) → t ≡ On
only_on (is_self_move same) this = refl
only_on (is_self_move same) (other o) = elim o [ ]

self_numbered : (slots : ℕ) {i : Line} {from to : Spot} → IsSelfMove i from to → HaveNumbers slots i.results → HasNumber slots to.loc
self_numbered slots (is_self_move same) h = all_in (λ (s : Spot). HasNumber slots s.loc) h (is_first {xs = []})

jump_copies : {i : Line} {l : ℕ} {from to : Spot} → i ≡ bare_flow (flow.Jump l) → IsSelfMove i from to → ⊥
jump_copies e z = true≢false (sym (self_copies z) ∙ ap (λ (i : Line). copies i.op) e)

jump_landing : {i : Line} {l : ℕ} → i ≡ bare_flow (flow.Jump l) → is_landing i.op ≡ false
jump_landing e = ap (λ (i : Line). is_landing i.op) e

-- ---- idle lines

-- the line at a place
pub line_at : (m : Lin) (p : ℕ) (i : Line) (slice : List Line) → p < length m.code → slice ≡ m.code → i ≡ get_or slice p i →
    (j : Line) (next : List Line) → drop p m.code ≡ j ∷ next → i ≡ j
line_at m p i slice lt same e j next d =
    head_same (sym (drop_line m.code p i lt (e ∙ ap (λ xs. get_or xs p i) same)) ∙ d)

-- the number of a location that the line at a place moves to itself fits
pub moved_small : (m : Lin) (p : ℕ) (i : Line) (slice : List Line) → AreNumbered m → IsCountable m → p < length m.code → slice ≡ m.code →
    i ≡ get_or slice p i → (l : Loc) → MovesItself i l → number_of_location l < 4294967296
moved_small m p i slice numbered countable lt same e l moves =
    let here = drop_line m.code p i lt (e ∙ ap (λ xs. get_or xs p i) same) in
    let below = number_below m.slots moves.to.loc (self_numbered m.slots moves.is (results_numbered m numbered p i (drop (p + 1) m.code) here)) in
    let slots = countable.slots in
    subst (λ l. number_of_location l < 4294967296) moves.at (omega (arith, below, slots))

not_false : (b : Bool) → not b ≡ true → b ≡ false
not_false false e = refl
not_false true e = absurd (true≢false (sym e))

not_true : (b : Bool) → not b ≡ false → b ≡ true
not_true true e = refl
not_true false e = absurd (true≢false e)

module _ (m : Lin) (p : ℕ) (i : Line) (at : (j : Line) (next : List Line) → drop p m.code ≡ j ∷ next → i ≡ j) where
  pub idle_move : (w : LiveWalks) (l : Loc) (n : ℕ) (b : Bool) → MovesItself i l → n ≡ number_of_location l →
      ((v : Lin) → AreLive v w → IsTrue b ↔ IsReadAfter v p (location_of_number n)) → TellsIdle m w p (not b)
  idle_move w l n b moves e same =
      let Named : Lin → ℕ → Type 0 = λ v k. IsReadAfter v p (location_of_number k) in
      record {
        yes = λ t v h j next d.
            let z : IsSelfMove j moves.from moves.to = subst (λ (k : Line). IsSelfMove k moves.from moves.to) (at j next d) moves.is in
            not_read z
            (λ r. true≢false (sym ((same v h).1 (subst (Named v) (ap number_of_location moves.at ∙ sym e) r)) ∙ not_false b t));
        no = λ t v h j next d.
            let z : IsSelfMove j moves.from moves.to = subst (λ (k : Line). IsSelfMove k moves.from moves.to) (at j next d) moves.is in
            record {
              read = λ from to y.
                  subst (Named v) (e ∙ ap number_of_location (sym moves.at ∙ self_one z y)) ((same v h).0 (not_true b t));
              jumps = λ k u q. jump_copies u z;
            };
      }

  pub idle_skip : (w : LiveWalks) (b : Bool) → ((from to : Spot) → IsSelfMove i from to → ⊥) → TellsSkipped m p b → TellsIdle m w p b
  idle_skip w b still tells =
      record {
        yes = λ t v h j next d. let x = tells.yes t j next d in not_needed x.is x.between;
        no = λ t v h j next d.
            record {
              read = λ from to y. absurd (still from to (subst (λ (k : Line). IsSelfMove k from to) (sym (at j next d)) y));
              jumps = λ k u q. tells.no t j next d (record { label = k; is = u; between = q });
            };
      }

  pub skip_none : ((l : ℕ) → i ≡ bare_flow (flow.Jump l) → ⊥) → TellsSkipped m p false
  skip_none none =
      record {
        yes = λ t. absurd (true≢false (sym t));
        no = λ t j next d x. none x.label (at j next d ∙ x.is);
      }

  pub skip_jump : (l to : ℕ) (b : Bool) → i ≡ bare_flow (flow.Jump l) → to ≡ line_index m (after_label l m.code) → p < length m.code →
      (p + 1 ≤ length m.code → IsTrue b ↔ LabelsBetween (drop (p + 1) m.code) (drop to m.code)) → TellsSkipped m p b
  skip_jump l to b is e lt same =
      let both = same (omega (arith, lt)) in
      let there : drop to m.code ≡ after_label l m.code = ap (λ k. drop k m.code) e ∙ place_is m (ends_label l m.code) in
      let next_is : (j : Line) (next : List Line) → drop p m.code ≡ j ∷ next → drop (p + 1) m.code ≡ next =
      λ j next d. (let k : p + 1 ≡ suc p = omega arith in ap (λ k. drop k m.code) k) ∙ (drop_is p m.code j next d).1 in
      record {
        yes = λ t j next d.
            record {
              label = l;
              is = sym (at j next d) ∙ is;
              between = subst (LabelsBetween next) there (subst (λ xs. LabelsBetween xs (drop to m.code)) (next_is j next d) (both.0 t));
            };
        no = λ t j next d x.
            let same_label : x.label ≡ l = label_one x.label l (sym x.is ∙ sym (at j next d) ∙ is) in
            let past : LabelsBetween next (drop to m.code) =
            subst (LabelsBetween next) (ap (λ k. after_label k m.code) same_label ∙ sym there) x.between in
            true≢false (sym (both.1 (subst (λ xs. LabelsBetween xs (drop to m.code)) (sym (next_is j next d)) past)) ∙ t);
      }
    where
      label_of : LinOp → ℕ
      label_of (lin.Flow (flow.Jump k)) = k
      label_of _ = 0

      label_one : (k l : ℕ) → bare_flow (flow.Jump k) ≡ bare_flow (flow.Jump l) → k ≡ l
      label_one k l e = ap (λ (i : Line). label_of i.op) e

-- ---- where no line moves a location to itself

at_place : (m : Lin) (p : ℕ) (i : Line) (next : List Line) → drop p m.code ≡ i ∷ next → Tail (i ∷ next) m.code
at_place m p i next d = subst (λ xs. Tail xs m.code) d (drop_tail p m.code)

module _ (m : Lin) (p : ℕ) where
  pub use_passed_by : (IsReachedAt m p → ⊥) → (b : Bool) → ((i : Line) (next : List Line) → drop p m.code ≡ i ∷ next → is_landing i.op ≡ false) →
      b ≡ true → TellsUse m p b
  use_passed_by out b low is =
      record {
        yes = λ t i next d.
            unreached (low i next d)
            (λ tries r. out (record { tries = tries; reached = subst (λ xs. Reached m xs tries) (sym d) r }));
        no = λ t. absurd (true≢false (sym is ∙ t));
      }

  pub use_skipped : (b : Bool) → ((i : Line) (next : List Line) → drop p m.code ≡ i ∷ next → is_landing i.op ≡ false →
      (tries : List ℕ) × Reached m (i ∷ next) tries) →
      ((i : Line) (next : List Line) → drop p m.code ≡ i ∷ next → (from to : Spot) → IsSelfMove i from to → IsReadBehind m i next to) →
      TellsSkipped m p b → TellsUse m p b
  use_skipped b reached read tells =
      record {
        yes = λ t i next d. let x = tells.yes t i next d in skipped x.is x.between;
        no = λ t i next d.
            record {
              reached = λ e. reached i next d e;
              read = λ from to z. read i next d from to z;
              jumps = λ l e q. tells.no t i next d (record { label = l; is = e; between = q });
            };
      }

  pub use_walked : (b : Bool) → IsReachedAt m p → All IsNoSelfMove m.code → TellsSkipped m p b → TellsUse m p b
  use_walked b r still =
      use_skipped b (λ i next d e. (r.tries, subst (λ xs. Reached m xs r.tries) d r.reached))
      (λ i next d from to z. absurd (all_in IsNoSelfMove still (tail_in (at_place m p i next d)) from to z))

  pub use_all_reached : (b : Bool) → AllReached m → AreRead m → TellsSkipped m p b → TellsUse m p b
  use_all_reached b h read =
      use_skipped b (λ i next d e. h.each i next (tail_stands (at_place m p i next d)) e)
      (λ i next d from to z. read.each i next (tail_stands (at_place m p i next d)) from to z)

-- the positions that were searched are those to which walks come
module _ (m : Lin) (w : Walks) (reached : ℕ) (h : IsSearched m w reached) where
  pub first_searched : (p : ℕ) → HasFirst w.search p reached → IsReachedAt m p
  first_searched p f =
      record {
        tries = f.there.found.tries;
        reached = subst (λ k. Reached m (drop k m.code) f.there.found.tries) f.there.place
            (h.walked.reached.sound f.number f.there.found f.there.is);
      }

  pub searched_first : (p : ℕ) → p ≤ length m.code → IsReachedAt m p → HasFirst w.search p reached
  searched_first p le r =
      let y = h.walked.reached.complete (drop p m.code) r.tries r.reached in
      let x : Position = position (line_index m (drop p m.code)) r.tries in
      let lt : y.0 < length (search.all_positions w.search) = slice_get_within (search.all_positions w.search) y.0 x y.1 in
      let count = h.count in
      let both = h.walked.all in
      record {
        number = y.0;
        below = omega (arith, lt, count, both);
        there = record { found = x; is = y.1; place = place_drop p m.code le };
      }

-- ---- by what the walks read

module _ (m : Lin) (numbered : AreNumbered m) (p : ℕ) where
  abbrev V : Lin
  V = as_vals m

  here_tail : (i : Line) (next : List Line) → drop p m.code ≡ i ∷ next → Tail (i ∷ next) m.code
  here_tail i next d = subst (λ xs. Tail xs m.code) d (drop_tail p m.code)

  self_loc : (i : Line) (next : List Line) → drop p m.code ≡ i ∷ next → {from to : Spot} → IsSelfMove i from to → location_of_number (number_of_location to.loc) ≡ to.loc
  self_loc i next d {to = to} z =
      loc_of_number m.slots to.loc
      (self_numbered m.slots z (all_in (λ (i : Line). HaveNumbers m.slots i.results) numbered.results (tail_in (here_tail i next d))))

  pub use_unreached : (IsReachedAt V p → ⊥) → (b : Bool) → ((i : Line) (next : List Line) → drop p m.code ≡ i ∷ next → is_landing i.op ≡ false) → b ≡ true →
      TellsUse m p b
  use_unreached out b low is =
      record {
        yes = λ t i next d.
            unreached (low i next d)
            (λ tries r. out (record { tries = tries; reached = subst (λ xs. Reached V xs tries) (sym (vals_here p m.code i next d)) (reached_vals m r) }));
        no = λ t. absurd (true≢false (sym is ∙ t));
      }

  pub use_landing : ((i : Line) (next : List Line) → drop p m.code ≡ i ∷ next → is_landing i.op ≡ true) → TellsUse m p false
  use_landing high =
      record {
        yes = λ t. absurd (true≢false (sym t));
        no = λ t i next d.
            record {
              reached = λ e. absurd (true≢false (sym (high i next d) ∙ e));
              read = λ from to z. absurd (true≢false (sym (high i next d) ∙ self_landing z));
              jumps = λ l e q. true≢false (sym (high i next d) ∙ jump_landing e);
            };
      }

  -- what is read after it as anything
  read_vals : (i : Line) (next : List Line) → drop p m.code ≡ i ∷ next → {from to : Spot} → IsSelfMove i from to → (tries : List ℕ) →
      Reached m (i ∷ next) tries → (t : Comp) → Live m to.loc t next tries → IsReadAfter V p (location_of_number (number_of_location to.loc))
  read_vals i next d {to = to} z tries r t v =
      let g : GoesOn i to = self_goes z in
      record {
        line = line_as_vals i;
        next = map line_as_vals next;
        at = vals_here p m.code i next d;
        tries = tries;
        reached = reached_vals m r;
        live = after_step (goes On g.on)
            (subst (λ ts. Live V (location_of_number (number_of_location to.loc)) comp.Val (map line_as_vals next) ts) (sym (g.tries tries))
            (subst (λ l. Live V l comp.Val (map line_as_vals next) tries) (sym (self_loc i next d z)) (live_vals m v)));
      }

  vals_read : (i : Line) (next : List Line) → drop p m.code ≡ i ∷ next → {from to : Spot} → IsSelfMove i from to →
      IsReadAfter V p (location_of_number (number_of_location to.loc)) → IsReadBehind m i next to
  vals_read i next d {from} {to} z x =
      let same : x.line ∷ x.next ≡ line_as_vals i ∷ map line_as_vals next = sym x.at ∙ vals_here p m.code i next d in
      let line : x.line ≡ line_as_vals i = head_same same in
      let rest : x.next ≡ map line_as_vals next = tail_same same in
      let g : GoesOn i to = self_goes z in
      let live : Live V to.loc comp.Val (map line_as_vals next) x.tries = by line rest g x.live in
      let y = live_of m live next refl in
      record {
        tries = x.tries;
        reached = reached_of m (here_tail i next d) (subst (λ xs. Reached V xs x.tries) same x.reached);
        type = y.0;
        live = y.1;
      }
    where
      by : x.line ≡ line_as_vals i → x.next ≡ map line_as_vals next → GoesOn i to → LiveAfter V (location_of_number (number_of_location to.loc)) comp.Val x.line x.next x.tries →
          Live V to.loc comp.Val (map line_as_vals next) x.tries
      by line rest g (after_step (goes t o) v) =
          let on : t ≡ On = only_on z (subst (λ (j : Line). OneOf t (targets j.op)) line o) in
          let same : tries_after x.line.op x.tries ≡ x.tries = ap (λ (j : Line). tries_after j.op x.tries) line ∙ g.tries x.tries in
          subst (λ l. Live V l comp.Val (map line_as_vals next) x.tries) (self_loc i next d z)
          (subst (λ xs. Live V (location_of_number (number_of_location to.loc)) comp.Val xs x.tries) rest
          (subst (λ ts. Live V (location_of_number (number_of_location to.loc)) comp.Val x.next ts) same
          (subst (λ t. Live V (location_of_number (number_of_location to.loc)) comp.Val (code_at V.code x.next t) (tries_after x.line.op x.tries)) on v)))

  pub use_idle : (w : LiveWalks) (b : Bool) → AreLive V w → IsReachedAt V p →
      ((i : Line) (next : List Line) → drop p m.code ≡ i ∷ next → is_landing i.op ≡ false) → TellsIdle m w p b → TellsUse m p b
  use_idle w b live r low tells =
      record {
        yes = λ t i next d. useless i next d (tells.yes t V live i next d);
        no = λ t i next d.
            let busy = tells.no t V live i next d in
            record {
              reached = λ e. (
                r.tries,
                reached_of m (here_tail i next d) (subst (λ xs. Reached V xs r.tries) (vals_here p m.code i next d) r.reached),
              );
              read = λ from to z. vals_read i next d z (busy.read from to z);
              jumps = busy.jumps;
            };
      }
    where
      useless : (i : Line) (next : List Line) → drop p m.code ≡ i ∷ next → IsIdle m V p i next → IsUseless m i next
      useless i next d (not_read z dead) = unread z (λ tries r t v. dead (read_vals i next d z tries r t v))
      useless i next d (not_needed e q) = skipped e q
