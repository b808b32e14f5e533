-- The function with its straight runs reordered does what it did.
use Rattle.std.proofs.Common.{◌≡◌, true, List, [], ◌∷◌, ◌++◌, Option, Some, None, refl, sym, ap, ◌∙◌, subst}
use Rattle.std.proofs.lemmas.Bool.{true≢false}
use Rattle.std.proofs.lemmas.Option.{same_Some}
use Rattle.bs_words.specs.declared.types.Comp.TheVariants as comp
use Rattle.bs_words.specs.declared.types.Loc.{Loc}
use Rattle.bs_words.specs.declared.types.Loc.TheVariants as loc
use Rattle.bs_words.specs.declared.values.Value.{Value}
use Rattle.bs_words.specs.Memory.{Memory}
use Rattle.cmm_meaning.specs.State.{Doing}
use Rattle.cmm_meaning.specs.Setting.{Setting}
use Rattle.mach_ir.specs.Acts.{Around, Target, On, At, Act, Goes, Stuck}
use Rattle.mach_ir.specs.Meaning.{Nothing}
use Rattle.mach_ir.specs.Runs.{ActivationSetting, Step, Continues, IsStuck, entry_around}
use Rattle.lin_ir.specs.Formed.{AreLocated}
use Rattle.lin_ir.specs.Meaning.{State, Locations, put_all, clear_destroyed, destroyed_by, values, lin_act, on_act, wrote, code_at, after_label, passes_frame, linear_start}
use Rattle.lin_ir.specs.Walks.{LiveAcross}
use Rattle.lin_ir.specs.declared.lin.LinOp.{LinOp}
use Rattle.lin_ir.specs.declared.lin.LinOp.TheVariants as lin
use Rattle.mach_ir.specs.declared.op.Access.TheVariants as access
use Rattle.mach_ir.specs.declared.op.Op.TheVariants as op
use Rattle.lin_ir.specs.declared.lin.Line.{Line}
use Rattle.lin_ir.specs.declared.lin.Lin.{Lin}
use Rattle.linearise_rules.specs.Kept.{lossless_line_step, ValsHeld, on_lossless_line_values}
use Rattle.lin_tidy_rules.proofs.Turns.{turns}
use Rattle.lin_tidy_rules.specs.Keeps.{TidyBegins}
use Rattle.lin_tidy_rules.specs.Leaving.{with_code}
use Rattle.schedule_rules.specs.Keeps.{SameShapes, DoesShapes}
use Rattle.schedule_rules.specs.Straight.{is_plain}
use Rattle.schedule_rules.specs.Orders.{Both, both_if, line_goes_on, acts_on, does_line, then_does, do_all, are_plain, Rest, rest_ends, rest_line, Ordered, ordered, scheduled}
use Rattle.schedule_rules.proofs.Acts.{IsLevel, level_same, level_then, Stores, stores, store_stuck, store_acts, Gives, gives, gives_none, load_acts, pure_acts}
use Rattle.schedule_rules.proofs.Diamond.{did, both, plain_level}
use Rattle.schedule_rules.proofs.Reorder.{and_left, and_right, did_first, reordered, reorders_plain, scheduled_ordered}
use Rattle.schedule_rules.proofs.Living.{plain_spares, ordered_label}
use Rattle.lin_tidy_rules.proofs.Simulate.{Arrives, first_stuck, goes_alone, Answers, stays, stuck, steps, Closed, Leads, acts, begins_alike}
use Rattle.schedule_rules.proofs.Whole.{across_back}
use Rattle.schedule_rules.proofs.Walked.{EndOf, all_of_it, less}
use Rattle.schedule_rules.proofs.Located.{label_end, goes_end, rest_end, across_set, located_kept}

-- ---- one line of a run

abbrev pub at : List Line → Locations → Around → State
at is f a = record { rest = is; file = f; around = a }

abbrev goes_to : List Line → Option Both → Step State
goes_to next None = IsStuck
goes_to next (Some s) = Continues (at next s.file s.around)

pub plain_frame : (f : LinOp) → is_plain f ≡ true → passes_frame f ≡ true → ⊥
plain_frame (lin.Op (op.Pure f)) p e = true≢false (sym e)
plain_frame (lin.Op (op.Access (access.Load k o))) p e = true≢false (sym e)
plain_frame (lin.Op (op.Access (access.Store k o))) p e = true≢false (sym e)
plain_frame (lin.Op (op.Access (access.Alloc bs))) p e = true≢false (sym p)
plain_frame (lin.Op (op.Calling f)) p e = true≢false (sym p)
plain_frame (lin.Op (op.Leaving f)) p e = true≢false (sym p)
plain_frame (lin.Flow f) p e = true≢false (sym p)

-- an operation of a run goes on, or is stuck
data GoesOn : Act → Type 0 where
  goes : (rs : List Value) (b : Around) → GoesOn (Goes rs On b)
  is_stuck : GoesOn Stuck

gives_on : (a : Around) (x : Act) → Gives a x → GoesOn x
gives_on a _ (gives {vs = vs}) = goes vs a
gives_on a _ gives_none = is_stuck

stores_on : (a : Around) (x : Act) → Stores a x → GoesOn x
stores_on a _ (stores {b = b} l) = goes [] b
stores_on a _ store_stuck = is_stuck

plain_goes : (c : Setting) (f : LinOp) (vs : List Value) (a : Around) → is_plain f ≡ true → GoesOn (lin_act c f vs a)
plain_goes c (lin.Op (op.Pure f)) vs a p = gives_on a _ (pure_acts c f vs a)
plain_goes c (lin.Op (op.Access (access.Load k o))) vs a p = gives_on a _ (load_acts k o vs a)
plain_goes c (lin.Op (op.Access (access.Store k o))) vs a p = stores_on a _ (store_acts k o vs a)
plain_goes c (lin.Op (op.Access (access.Alloc bs))) vs a p = absurd (true≢false (sym p))
plain_goes c (lin.Op (op.Calling f)) vs a p = absurd (true≢false (sym p))
plain_goes c (lin.Op (op.Leaving f)) vs a p = absurd (true≢false (sym p))
plain_goes c (lin.Flow f) vs a p = absurd (true≢false (sym p))

wrote_is : (next : List Line) (b : Around) (o : Option Locations) → wrote next b o ≡ goes_to next (both_if b o)
wrote_is next b None = refl
wrote_is next b (Some f) = refl

clear_none : (f : LinOp) (g : Locations) → is_plain f ≡ true → clear_destroyed (destroyed_by f) g ≡ g
clear_none f g p = ap (λ d. clear_destroyed d g) (plain_spares f p) ∙ nothing_clear g
  where
    nothing_clear : (g : Locations) → clear_destroyed Nothing g ≡ g
    nothing_clear g = λ i l. by l i
      where
        by : (l : Loc) → clear_destroyed Nothing g l ≡ g l
        by (loc.Machine n) = refl
        by (loc.Slot n) = refl
        by loc.Unset = refl

-- A line of a run goes on to the next, with what it does.
pub plain_step : (c : ActivationSetting) (m : Lin) (i : Line) (next : List Line) (f : Locations) (a : Around) → is_plain i.op ≡ true →
    lossless_line_step c m (at (i ∷ next) f a) ≡ goes_to next (does_line c.setting i (both f a))
plain_step c m i next f a p = by (values c.setting.end f i.args)
  where
    act : (x : Act) → GoesOn x → on_act c m i next f a x ≡ goes_to next (line_goes_on c.setting.end i f x)
    act _ (goes rs b) = ap (λ g. wrote next b (put_all c.setting.end i.results rs g)) (clear_none i.op f p) ∙ wrote_is next b (put_all c.setting.end i.results rs f)
    act _ is_stuck = refl

    by : (o : Option (List Value)) → on_lossless_line_values c m i next f a o ≡ goes_to next (acts_on c.setting i f a o)
    by None = refl
    by (Some vs) = act (lin_act c.setting i.op vs a) (plain_goes c.setting i.op vs a p)

pub line_level : (c : Setting) (i : Line) (f : Locations) (a : Around) (t : Both) → is_plain i.op ≡ true → does_line c i (both f a) ≡ Some t → IsLevel a t.around
line_level c i f a t p e = let d = did c i f a t e in plain_level c i.op d.read d.results a t.around p d.acts

-- ---- the relation

module _ (c : ActivationSetting) (m r : Lin) (whole : Ordered m.code r.code) (located : AreLocated r) where
  -- The first is somewhere in a run, or at its end; the second is at its beginning, at a place of its code. Whatever the first
  -- comes to at the end, the second comes to.
  data R : State → State → Type 0 where
    rel : (left ys is js : List Line) (f g : Locations) (a b : Around) → EndOf r.code (ys ++ js) → are_plain left ≡ true → are_plain ys ≡ true → Rest is js → IsLevel b a →
        ((w : Both) → do_all c.setting left (both f a) ≡ Some w → do_all c.setting ys (both g b) ≡ Some w) →
        R (at (left ++ is) f a) (at (ys ++ js) g b)

  abbrev second : State → Step State
  second = lossless_line_step c r

  abbrev Fair : State → Type 0
  Fair = ValsHeld c r

  abbrev Answer : State → Step State → Type 0
  Answer = Answers c m second Fair SameShapes R

  abbrev Arrive : Step State → Step State → Type 0
  Arrive = Arrives c m second Fair SameShapes R

  shapes_of : (s u : State) → R s u → SameShapes s u
  shapes_of _ _ (rel left ys is js f g a b end p q t l h) = record { tries = l.tries; blocks = l.shapes }

  from_ordered : (left right : List Line) (f : Locations) (a : Around) → EndOf r.code right → Ordered left right → R (at left f a) (at right f a)
  from_ordered _ _ f a end (ordered xs ys is js p o t) =
      rel xs ys is js f f a a end p (reorders_plain xs ys o p) t (level_same a) (λ w e. reordered c.setting xs ys (both f a) w o p e)

  in_order : (next after : List Line) (to : Target) → Ordered next after → Ordered (code_at m.code next to) (code_at r.code after to)
  in_order next after On o = o
  in_order next after (At l) o = ordered_label l m.code r.code whole

  module _ (i : Line) (next after : List Line) (end : EndOf r.code (i ∷ after)) (order : Ordered next after) (f : Locations) (a : Around) where
    leads : Leads c m second Fair SameShapes R r i next after f f a.tries
    leads =
        record {
          on = λ vs to b f' o e u. (f', u, from_ordered (code_at m.code next to) (code_at r.code after to) f' b (goes_end r.code after to (less end)) (in_order next after to order));
          bare = λ to b n o e. from_ordered (code_at m.code next to) (code_at r.code after to) f b (goes_end r.code after to (less end)) (in_order next after to order);
          aside = λ h b x e. from_ordered (after_label h m.code) (after_label h r.code) f b (label_end h r.code r.code all_of_it) (ordered_label h m.code r.code whole);
        }

    -- the line that stays, in both
    line_arrives : Arrive (lossless_line_step c m (at (i ∷ next) f a)) (second (at (i ∷ after) f a))
    line_arrives = by (values c.setting.end f i.args)
      where
        by : (o : Option (List Value)) → Arrive (on_lossless_line_values c m i next f a o) (on_lossless_line_values c r i after f a o)
        by None = first_stuck
        by (Some vs) = acts c m second Fair SameShapes R r i next after f f a leads (lin_act c.setting i.op vs a) (turns c.setting i.op vs a)

    -- what is live there is held
    line_fair : ValsHeld c m (at (i ∷ next) f a) → Fair (at (i ∷ after) f a)
    line_fair h =
        record {
          held = λ j more e frame l v.
              let same : i ≡ j = (let q : i ∷ after ≡ j ∷ more = e in cc) in
              let rest : after ≡ more = (let q : i ∷ after ≡ j ∷ more = e in cc) in
              let w : LiveAcross r l comp.Val i after a.tries =
              subst (λ (k : Line). LiveAcross r l comp.Val k after a.tries) (sym same) (subst (λ k. LiveAcross r l comp.Val j k a.tries) (sym rest) v) in
              h.held i next refl (subst (λ (k : Line). passes_frame k.op ≡ true) (sym same) frame) l
              (across_back m r whole l comp.Val (across_set r located l comp.Val i after a.tries end w) i next after a.tries order w);
        }

  plain_fair : (y : Line) (next : List Line) (g : Locations) (b : Around) → is_plain y.op ≡ true → Fair (at (y ∷ next) g b)
  plain_fair y next g b p =
      record {
        held = λ j more e frame l v.
            let same : y ≡ j = (let q : y ∷ next ≡ j ∷ more = e in cc) in
            absurd (plain_frame y.op p (subst (λ (k : Line). passes_frame k.op ≡ true) (sym same) frame));
      }

  -- the second does its run alone, and comes to a line at which both go on
  alone : (x : Step State) (rest : List Line) (f : Locations) (a : Around) → Fair (at rest f a) → Arrive x (second (at rest f a)) →
      (ys : List Line) (g : Locations) (b : Around) → are_plain ys ≡ true → do_all c.setting ys (both g b) ≡ Some (both f a) →
      Fair (at (ys ++ rest) g b) × Arrive x (second (at (ys ++ rest) g b))
  alone x rest f a fair arrives [] g b p e =
      let same : both g b ≡ both f a = same_Some (both g b) (both f a) e in
      (subst (λ (k : Both). Fair (at rest k.file k.around)) (sym same) fair, subst (λ (k : Both). Arrive x (second (at rest k.file k.around))) (sym same) arrives)
  alone x rest f a fair arrives (y ∷ ys) g b p e =
      let d = did_first c.setting y ys (both g b) (both f a) e in
      let ih = alone x rest f a fair arrives ys d.next.file d.next.around (and_right _ _ p) d.rest in (
        plain_fair y (ys ++ rest) g b (and_left _ _ p),
        subst (Arrive x) (sym (plain_step c r y (ys ++ rest) g b (and_left _ _ p) ∙ ap (goes_to (ys ++ rest)) d.first)) (goes_alone ih.0 ih.1),
      )

  -- one step of the first
  answer : (s u : State) → R s u → ValsHeld c m s → Answer u (lossless_line_step c m s)
  answer _ _ (rel [] ys _ _ f g a b end p q rest_ends l h) held = stuck
  answer _ _ (rel [] ys _ _ f g a b end p q (rest_line i xs zs {is = is} {js = js} n px o t) l h) held =
      let order : Ordered (xs ++ is) (zs ++ js) = ordered xs zs is js px o t in
      let last : EndOf r.code (i ∷ zs ++ js) = rest_end r.code ys (i ∷ zs ++ js) end in
      let z = alone (lossless_line_step c m (at (i ∷ xs ++ is) f a)) (i ∷ zs ++ js) f a (line_fair i (xs ++ is) (zs ++ js) last order f a held)
      (line_arrives i (xs ++ is) (zs ++ js) last order f a) ys g b q (h (both f a) refl) in
      steps z.0 z.1
  answer _ _ (rel (x ∷ left) ys is js f g a b end p q t l h) held =
      subst (Answer (at (ys ++ js) g b)) (sym (plain_step c m x (left ++ is) f a (and_left _ _ p))) (by (does_line c.setting x (both f a)) refl)
    where
      by : (o : Option Both) → does_line c.setting x (both f a) ≡ o → Answer (at (ys ++ js) g b) (goes_to (left ++ is) o)
      by None e = stuck
      by (Some d) e =
          stays (rel left ys is js d.file g d.around b end (and_right _ _ p) q t (level_then l (line_level c.setting x f a d (and_left _ _ p) e))
          (λ w u. h w (ap (then_does (do_all c.setting left)) e ∙ u)))

  closed : Closed c m second Fair SameShapes R
  closed = record { around = shapes_of; next = answer }

  pub begins_so : r.params ≡ m.params → (arguments : List Value) (memory : Memory) (doings : List Doing) (s : State) → linear_start c m arguments memory ≡ Some s →
      TidyBegins SameShapes c m r arguments memory doings s
  begins_so same = begins_alike c m r same SameShapes R closed (λ f memory. from_ordered m.code r.code f (entry_around memory) all_of_it whole)

-- Wherever the function is nowhere stuck, the one with its runs reordered does what it does.
pub reordered_does : (m r : Lin) → Ordered m.code r.code → r.params ≡ m.params →
    AreLocated r → DoesShapes m r
reordered_does m r whole same located c arguments memory doings s e = begins_so c m r whole located same arguments memory doings s e

-- So does the scheduled one.
pub scheduled_does_so : (m : Lin) → AreLocated m → DoesShapes m (with_code m (scheduled m.code))
scheduled_does_so m located =
    reordered_does m (with_code m (scheduled m.code)) (scheduled_ordered m.code) refl (located_kept m (with_code m (scheduled m.code)) (scheduled_ordered m.code) refl located)
