-- With names that are exact, and where no addr is live after a frame point, a function that is nowhere stuck where nothing
-- is lost reads no poison.
use Rattle.std.proofs.Common.{◌≡◌, ◌≢◌, ℕ, Bool, true, false, cond, not, ◌||◌, ◌⊎◌, inl, inr, ⊎_elim, List, [], ◌∷◌, length, Option, Some, None, refl, sym, ap, ◌∙◌, subst}
use Rattle.std.proofs.lemmas.Bool.{true≢false, eq-eqb}
use Rattle.std.specs.List.{Contains}
use Rattle.std.proofs.lemmas.Option.{none-some, same_Some}
use Rattle.bs_words.specs.Fits.{fits, type_of_comp}
use Rattle.bs_words.specs.declared.types.Comp.{Comp}
use Rattle.bs_words.specs.declared.types.Comp.TheVariants as comp
use Rattle.bs_words.specs.declared.types.Loc.{Loc}
use Rattle.bs_words.specs.declared.types.Loc.TheVariants as loc
use Rattle.bs_words.specs.declared.values.Value.{Value}
use Rattle.bs_words.specs.declared.values.Value.TheVariants as value
use Rattle.bs_words.proofs.Lists.{none_in}
use Rattle.mach_ir.specs.Acts.{Around, Target}
use Rattle.mach_ir.specs.Meaning.{is_destroyed}
use Rattle.mach_ir.specs.Runs.{ActivationSetting, Step, Tally}
use Rattle.mach_ir.specs.Keeps.{RunsAlike}
use Rattle.mach_ir.specs.Walks.{OneOf}
use Rattle.lin_ir.specs.Formed.{FlowHasForm, label_form, jump_form, exit_form, branch_form, switch_form, push_form, pop_form, enter_form, IsFormedLine, formed_op, formed_flow, is_colour, is_slot, IsLocation, is_home, is_spare, Locates, WellFormed}
use Rattle.lin_ir.specs.Meaning.{NamedAt, State, Locations, same_loc, assign_spot, put_if, put_all, clear_destroyed, destroyed_by, with_held, as_type, values, is_named_location, holds_val, are_vals, unless_pointer, unless_misnamed, past_frame, passes_frame, code_at, after_label, on_act, lin_act}
use Rattle.lin_ir.specs.Meaning as poison
use Rattle.lin_ir.specs.Walks as walks
use Rattle.lin_ir.specs.Walks.{Writes, Reached, at_entry, by_step, by_raise, Live, read, on, aside, LiveAcross, across_step, across_raise}
use Rattle.lin_ir.specs.declared.lin.Flow.{Flow}
use Rattle.lin_ir.specs.declared.lin.Flow.TheVariants as flow
use Rattle.lin_ir.specs.declared.lin.LinOp.TheVariants as lin
use Rattle.lin_ir.specs.declared.lin.Line.{Line}
use Rattle.lin_ir.specs.declared.lin.Lin.{Lin}
use Rattle.lin_ir.specs.declared.lin.Spot.{Spot}
use Rattle.linearise_rules.specs.Kept as kept
use Rattle.linearise_rules.specs.Kept.{lossless_line_step, ValsHeld, Proper}
use Rattle.linearise_rules.specs.Keeps.{NamesReached, NoAddrReached}
use Rattle.linearise_rules.proofs.Homes.{IsIn, is_first, is_later, in_of, contains_of, all_vals, named_of}
use Rattle.linearise_rules.proofs.Marks.{all_in}
use Rattle.linearise_rules.proofs.Walked.{Tail, reached_tail, reached_stands, tail_in, stands_tail, live_read}
use Rattle.linearise_rules.proofs.Known.{no_spots}
use Rattle.lin_tidy_rules.specs.Keeps.{SameRound}
use Rattle.lin_tidy_rules.proofs.Turns.{is_bare, turns}
use Rattle.lin_tidy_rules.proofs.Simulate.{Arrives, Answers, stuck, steps, Closed, Leads, acts, simulates}

-- ---- what writes nothing has no results

no_comps : {f : Flow} {args results : List Comp} → FlowHasForm f args results → is_bare (lin.Flow f) ≡ true → results ≡ []
no_comps exit_form e = refl
no_comps push_form e = refl
no_comps label_form e = refl
no_comps jump_form e = refl
no_comps (branch_form t) e = refl
no_comps switch_form e = refl
no_comps pop_form e = refl
no_comps enter_form e = absurd (true≢false (sym e))

bare_writes : {i : Line} → IsFormedLine i → is_bare i.op ≡ true → (l : Loc) → Writes i l → ⊥
bare_writes (formed_op h) e l w = true≢false (sym e)
bare_writes (formed_flow {f = f} {results = results} h) e l w =
    ⊎_elim (λ y. none_in (record { loc = l; comp = y.0 })
    (subst (λ ss. Contains ss (record { loc = l; comp = y.0 })) (no_spots results (no_comps h e)) y.1)) (λ d. free f e d) w
  where
    free : (f : Flow) → is_bare (lin.Flow f) ≡ true → is_destroyed (destroyed_by (lin.Flow f)) l ≡ true → ⊥
    free (flow.Label k) e d = true≢false (sym e)
    free (flow.Jump k) e d = true≢false (sym e)
    free (flow.Exit k) e d = true≢false (sym d)
    free (flow.Branch t k) e d = true≢false (sym e)
    free (flow.Switch ls) e d = true≢false (sym e)
    free (flow.PushTrap k) e d = true≢false (sym d)
    free flow.PopTrap e d = true≢false (sym e)
    free flow.EnterTrap e d = true≢false (sym e)

-- ---- writes into two files

in_two : {A : Type 0} (x y : A) (ys : List A) → IsIn x (y ∷ ys) → (y ≡ x) ⊎ IsIn x ys
in_two x y ys is_first = inl refl
in_two x y ys (is_later z) = inr z

same_self : (l : Loc) → l ≢ loc.Unset → same_loc l l ≡ true
same_self (loc.Machine n) out = eq-eqb n n refl
same_self (loc.Slot n) out = eq-eqb n n refl
same_self loc.Unset out = absurd (out refl)

abbrev pub spot : Loc → Comp → Spot
spot l t = record { loc = l; comp = t }

module _ (end : ℕ) (f g : Locations) where
  -- either the writes gave both the same, or they left it as it was
  abbrev Written : List Spot → Locations → Locations → Loc → Type 0
  Written ss f' g' l = (f' l ≡ g' l) ⊎ ((f' l ≡ f l) × (g' l ≡ g l) × ((t : Comp) → IsIn (spot l t) ss → ⊥))

  record Puts (ss : List Spot) (vs : List Value) (f' : Locations) : Type 0 where
    file : Locations
    puts : put_all end ss vs g ≡ Some file
    each : (l : Loc) → l ≢ loc.Unset → Written ss f' file l

  put_both : (ss : List Spot) (vs : List Value) (f' : Locations) → put_all end ss vs f ≡ Some f' → Puts ss vs f'
  put_both [] [] f' e =
      record { file = g; puts = refl; each = λ l fixed. inr (ap (λ (h : Locations). h l) (same_Some f' f (sym e)), refl, λ t z. elim z [ ]) }
  put_both [] (v ∷ vs) f' e = absurd (none-some f' e)
  put_both (s ∷ ss) [] f' e = absurd (none-some f' e)
  put_both (s ∷ ss) (v ∷ vs) f' e = by (fits end (type_of_comp s.comp) v) (put_all end ss vs f) refl refl e (λ h u. put_both ss vs h u)
    where
      at_loc : (h k : Locations) (l : Loc) → l ≢ loc.Unset → (b : Bool) → same_loc s.loc l ≡ b → Written ss h k l →
          (cond b (Some v) (h l) ≡ cond b (Some v) (k l)) ⊎
          ((cond b (Some v) (h l) ≡ f l) × (cond b (Some v) (k l) ≡ g l) × ((t : Comp) → IsIn (spot l t) (s ∷ ss) → ⊥))
      at_loc h k l fixed true q w = inl refl
      at_loc h k l fixed false q w =
          ⊎_elim (λ u. inl u)
          (λ u. inr (
            u.0,
            u.1,
            λ t z. ⊎_elim (λ x. true≢false (sym (same_self l fixed) ∙ ap (λ (k : Spot). same_loc k.loc l) (sym x) ∙ q)) (λ x. u.2 t x)
                (in_two (spot l t) s ss z),
          )) w

      by : (b : Bool) (o : Option Locations) → fits end (type_of_comp s.comp) v ≡ b → put_all end ss vs f ≡ o → put_if b s v o ≡ Some f' →
          ((h : Locations) → put_all end ss vs f ≡ Some h → Puts ss vs h) →
          Puts (s ∷ ss) (v ∷ vs) f'
      by true None t u e ih = absurd (none-some f' e)
      by false None t u e ih = absurd (none-some f' e)
      by false (Some h) t u e ih = absurd (none-some f' e)
      by true (Some h) t u e ih =
          let y = ih h u in
          record {
            file = assign_spot s v y.file;
            puts = ap (λ b. put_if b s v (put_all end ss vs g)) t ∙ ap (put_if true s v) y.puts;
            each = λ l fixed. subst (λ (x : Locations). Written (s ∷ ss) x (assign_spot s v y.file) l) (same_Some (assign_spot s v h) f' e)
                (at_loc h y.file l fixed (same_loc s.loc l) refl (y.each l fixed));
          }

-- ---- the relation

module _ (c : ActivationSetting) (m : Lin) (well : WellFormed m) (safe : NoAddrReached m) (named : NamedAt) (exact : NamesReached m named) where
  abbrev end : ℕ
  end = c.setting.end

  abbrev at : List Line → Locations → Around → State
  at is f a = record { rest = is; file = f; around = a }

  -- a pointer that has been lost, and is not read any more
  record Lost (l : Loc) (f g : Locations) (Reads : Comp → Type 0) : Type 0 where
    serial : ℕ
    offset : ℕ
    held : f l ≡ Some (value.Block serial offset)
    lost : g l ≡ None
    val : Reads comp.Val → ⊥
    addr : Reads comp.Addr → ⊥

  abbrev NearAt : (Loc → Comp → Type 0) → Locations → Locations → Loc → Type 0
  NearAt Reads f g l = (g l ≡ f l) ⊎ Lost l f g (Reads l)

  abbrev Near : (Loc → Comp → Type 0) → Locations → Locations → Type 0
  Near Reads f g = (l : Loc) → l ≢ loc.Unset → NearAt Reads f g l

  data Rel : State → State → Type 0 where
    rel : {is : List Line} {f g : Locations} {a : Around} → Reached m is a.tries → Near (λ l t. Live m l t is a.tries) f g → Rel (at is f a) (at is g a)

  abbrev second : State → Step State
  second = poison.step c named m

  abbrev AnyState : State → Type 0
  AnyState s = Unit {0}

  abbrev Arrive : Step State → Step State → Type 0
  Arrive = Arrives c m second AnyState SameRound Rel

  abbrev Answer : State → Step State → Type 0
  Answer = Answers c m second AnyState SameRound Rel

  -- ---- reads

  -- a read of what has been lost is stuck in both
  lost_read : (t : Comp) (s o : ℕ) (x : Option (List Value)) (vs : List Value) → (t ≡ comp.Val → ⊥) → (t ≡ comp.Addr → ⊥) → with_held end t
      (Some (value.Block s o)) x ≡ Some vs → ⊥
  lost_read comp.Int s o x vs nv na e = none-some vs e
  lost_read comp.Val s o x vs nv na e = nv refl
  lost_read comp.Addr s o x vs nv na e = na refl
  lost_read comp.Float s o x vs nv na e = none-some vs e

  no_more : (t : Comp) (o : Option Value) (vs : List Value) → with_held end t o None ≡ Some vs → ⊥
  no_more t None vs e = none-some vs e
  no_more t (Some v) vs e = by (fits end (type_of_comp t) v) e
    where
      by : (b : Bool) → as_type b v None ≡ Some vs → ⊥
      by true e = none-some vs e
      by false e = none-some vs e

  read_same : (f g : Locations) (Reads : Loc → Comp → Type 0) → Near Reads f g → (ss : List Spot) →
      ((s : Spot) → IsIn s ss → (s.loc ≢ loc.Unset) × Reads s.loc s.comp) → (vs : List Value) →
      values end f ss ≡ Some vs → values end g ss ≡ Some vs
  read_same f g Reads near [] all vs e = e
  read_same f g Reads near (s ∷ ss) all vs e = by (values end f ss) refl e (λ ws u. read_same f g Reads near ss (λ x z. all x (is_later z)) ws u)
    where
      one : (x : Option (List Value)) → with_held end s.comp (f s.loc) x ≡ Some vs → with_held end s.comp (g s.loc) x ≡ Some vs
      one x e =
          let h = all s is_first in
          ⊎_elim (λ q. ap (λ o. with_held end s.comp o x) q ∙ e)
          (λ q. absurd (lost_read s.comp q.serial q.offset x vs (λ t. q.val (subst (Reads s.loc) t h.1)) (λ t. q.addr (subst (Reads s.loc) t h.1))
          (ap (λ o. with_held end s.comp o x) (sym q.held) ∙ e)))
          (near s.loc h.0)

      by : (o : Option (List Value)) → values end f ss ≡ o → with_held end s.comp (f s.loc) o ≡ Some vs →
          ((ws : List Value) → values end f ss ≡ Some ws → values end g ss ≡ Some ws) →
          with_held end s.comp (g s.loc) (values end g ss) ≡ Some vs
      by None u e ih = absurd (no_more s.comp (f s.loc) vs e)
      by (Some ws) u e ih = ap (with_held end s.comp (g s.loc)) (ih ws u) ∙ one (Some ws) e

  -- ---- a line

  location_fixed : (l : Loc) → IsLocation m l → l ≢ loc.Unset
  location_fixed l (is_home (is_colour {n = n} z)) e = out n e
    where
      out : (n : ℕ) → loc.Machine n ≡ loc.Unset → ⊥
      out n e = cc
  location_fixed l (is_home (is_slot {k = k} z)) e = out k e
    where
      out : (k : ℕ) → loc.Slot k ≡ loc.Unset → ⊥
      out k e = cc
  location_fixed l (is_spare s) e = out (sym s ∙ e)
    where
      out : loc.Machine 5 ≡ loc.Unset → ⊥
      out e = cc

  -- what is live is a location
  live_fixed : {l : Loc} {t : Comp} {is : List Line} {tries : List ℕ} → Live m l t is tries → Tail is m.code → l ≢ loc.Unset
  live_fixed {l} {t} v w =
      let y = live_read m v w in
      location_fixed l (all_in (λ (s : Spot). IsLocation m s.loc)
      (all_in (λ (i : Line). Locates m i.args × Locates m i.results) well.locations y.inside).0
      (in_of (record { loc = l; comp = t }) y.line.args y.reads))

  across_here : {l : Loc} {t : Comp} {i : Line} {next : List Line} {tries : List ℕ} → LiveAcross m l t i next tries → Live m l t (i ∷ next) tries
  across_here (across_step free x v) = on free x v
  across_here (across_raise x v) = aside x v

  module _ (i : Line) (next : List Line) (f g : Locations) (a : Around) (reached : Reached m (i ∷ next) a.tries)
      (near : Near (λ l t. Live m l t (i ∷ next) a.tries) f g) where
    abbrev names : List Loc
    names = named (length next)

    abbrev g' : Locations
    g' = past_frame (passes_frame i.op) names g

    abbrev OutAt : Loc → Bool → Type 0
    OutAt l b = (past_frame b names g l ≡ f l) ⊎ Lost l f (past_frame b names g) (λ t. LiveAcross m l t i next a.tries)

    inside : IsIn i m.code
    inside = tail_in (stands_tail (reached_stands m reached))

    across : Near (λ l t. LiveAcross m l t i next a.tries) f g'
    across l fixed = by (passes_frame i.op) refl (near l fixed)
      where
        poisoned_none : (b : Bool) (o : Option Value) → o ≡ None → cond b o (unless_pointer o) ≡ None
        poisoned_none true o e = e
        poisoned_none false o e = ap unless_pointer e

        unnamed : passes_frame i.op ≡ true → is_named_location l names ≡ false → (o : Option Value) → f l ≡ o → g l ≡ o → (b : Bool) → b ≡ false →
            (cond b (g l) (unless_pointer (g l)) ≡ f l) ⊎ Lost l f (λ k. cond (is_named_location k names) (g k) (unless_pointer (g k)))
            (λ t. LiveAcross m l t i next a.tries)
        unnamed t n o u w true q = absurd (true≢false q)
        unnamed t n None u w false q = inl (ap unless_pointer w ∙ sym u)
        unnamed t n (Some (value.Word k)) u w false q = inl (ap unless_pointer w ∙ sym u)
        unnamed t n (Some (value.Function k)) u w false q = inl (ap unless_pointer w ∙ sym u)
        unnamed t n (Some (value.Block s k)) u w false q =
            inr (record {
              serial = s;
              offset = k;
              held = u;
              lost = ap (λ b. cond b (g l) (unless_pointer (g l))) n ∙ ap unless_pointer w;
              val = λ v. true≢false
                  (sym (named_of l names (in_of l names ((exact.exact i next a.tries reached t l).1 v)) (same_self l fixed)) ∙ n);
              addr = λ v. safe.none i next a.tries reached t l v;
            })

        kept_or_not : passes_frame i.op ≡ true → g l ≡ f l → (b : Bool) → is_named_location l names ≡ b → OutAt l true
        kept_or_not t e true n = inl (ap (λ b. cond b (g l) (unless_pointer (g l))) n ∙ e)
        kept_or_not t e false n =
            subst (λ b. (cond b (g l) (unless_pointer (g l)) ≡ f l) ⊎ Lost l f (λ k. cond (is_named_location k names) (g k) (unless_pointer (g k)))
            (λ t. LiveAcross m l t i next a.tries)) (sym n)
            (unnamed t n (f l) refl e false refl)

        by : (b : Bool) → passes_frame i.op ≡ b → (g l ≡ f l) ⊎ Lost l f g (λ t. Live m l t (i ∷ next) a.tries) → OutAt l b
        by false t w =
            ⊎_elim (λ e. inl e)
            (λ q. inr (record {
              serial = q.serial;
              offset = q.offset;
              held = q.held;
              lost = q.lost;
              val = λ v. q.val (across_here v);
              addr = λ v. q.addr
                  (across_here v);
            })) w
        by true t w =
            ⊎_elim (λ e. kept_or_not t e (is_named_location l names) refl)
            (λ q. inr (record {
              serial = q.serial;
              offset = q.offset;
              held = q.held;
              lost = poisoned_none (is_named_location l names) (g l) q.lost;
              val = λ v. q.val (across_here v);
              addr = λ v. q.addr (across_here v);
            })) w

    -- what is live where the line goes on without a write was live before
    near_to : (to : List Line) (left : List ℕ) (h k : Locations) → ((l : Loc) → (h l ≡ f l) × (k l ≡ g' l)) →
        ((l : Loc) (t : Comp) → Live m l t to left → LiveAcross m l t i next a.tries) → Near (λ l t. Live m l t to left) h k
    near_to to left h k same back l fixed =
        ⊎_elim (λ e. inl ((same l).1 ∙ e ∙ sym (same l).0))
        (λ q. inr (record {
          serial = q.serial;
          offset = q.offset;
          held = (same l).0 ∙ q.held;
          lost = (same l).1 ∙ q.lost;
          val = λ v. q.val
              (back l comp.Val v);
          addr = λ v. q.addr (back l comp.Addr v);
        })) (across l fixed)

    leads : Leads c m second AnyState SameRound Rel m i next next f g' a.tries
    leads = record { on = λ vs to b f' o e u. wrote_both vs to b f' o e u; bare = λ to b n o e. bare_near to b n o e; aside = λ h b raise e. aside_near h b raise e }
      where
        bare_near : (to : Target) (b : Around) → is_bare i.op ≡ true → OneOf to (walks.targets i.op) → b.tries ≡ walks.tries_after i.op a.tries →
            Rel (at (code_at m.code next to) f b) (at (code_at m.code next to) g' b)
        bare_near to b n o e =
            rel (subst (Reached m (code_at m.code next to)) (sym e) (by_step reached (walks.goes to o)))
            (near_to (code_at m.code next to) b.tries f g' (λ l. (refl, refl))
            (λ l t v. across_step (λ w. bare_writes (all_in IsFormedLine well.forms inside) n l w) (walks.goes to o)
            (subst (Live m l t (code_at m.code next to)) e v)))

        aside_near : (h : ℕ) (b : Around) → walks.may_raise i.op ≡ true → a.tries ≡ h ∷ b.tries → Rel (at (after_label h m.code) f b)
            (at (after_label h m.code) g' b)
        aside_near h b raise e =
            rel (by_raise (subst (Reached m (i ∷ next)) e reached) (walks.raises raise))
            (near_to (after_label h m.code) b.tries f g' (λ l. (refl, refl))
            (λ l t v. subst (LiveAcross m l t i next) (sym e) (across_raise (walks.raises raise) v)))

        wrote_both : (vs : List Value) (to : Target) (b : Around) (f' : Locations) → OneOf to (walks.targets i.op) → b.tries ≡ walks.tries_after i.op a.tries →
            put_all end i.results vs (clear_destroyed (destroyed_by i.op) f) ≡ Some f' →
            (k : Locations) × (put_all end i.results vs (clear_destroyed (destroyed_by i.op) g') ≡ Some k) × Rel (at (code_at m.code next to) f' b)
            (at (code_at m.code next to) k b)
        wrote_both vs to b f' o e u =
            let y = put_both end (clear_destroyed (destroyed_by i.op) f) (clear_destroyed (destroyed_by i.op) g') i.results vs f' u in (
              y.file,
              y.puts,
              rel (subst (Reached m (code_at m.code next to)) (sym e) (by_step reached (walks.goes to o))) (λ l fixed. after l fixed y.file (y.each l fixed)),
            )
          where
            left : (l : Loc) → l ≢ loc.Unset → (k : Locations) → (f' l ≡ clear_destroyed (destroyed_by i.op) f l) → (k l ≡ clear_destroyed (destroyed_by i.op) g' l) →
                ((t : Comp) → IsIn (spot l t) i.results → ⊥) →
                (d : Bool) → is_destroyed (destroyed_by i.op) l ≡ d → NearAt (λ l t. Live m l t (code_at m.code next to) b.tries) f' k l
            left l fixed k p q out true d = inl (q ∙ ap (λ b. cond b None (g' l)) d ∙ sym (ap (λ b. cond b None (f l)) d) ∙ sym p)
            left l fixed k p q out false d =
                let p' : f' l ≡ f l = p ∙ ap (λ b. cond b None (f l)) d in
                let q' : k l ≡ g' l = q ∙ ap (λ b. cond b None (g' l)) d in
                ⊎_elim (λ x. inl (q' ∙ x ∙ sym p'))
                (λ x. inr (record {
                  serial = x.serial;
                  offset = x.offset;
                  held = p' ∙ x.held;
                  lost = q' ∙ x.lost;
                  val = λ v. x.val (back comp.Val v);
                  addr = λ v. x.addr (back comp.Addr v);
                })) (across l fixed)
              where
                free : Writes i l → ⊥
                free w = ⊎_elim (λ y. out y.0 (in_of (spot l y.0) i.results y.1)) (λ s. true≢false (sym s ∙ d)) w

                back : (t : Comp) → Live m l t (code_at m.code next to) b.tries → LiveAcross m l t i next a.tries
                back t v = across_step (λ w. free w) (walks.goes to o) (subst (Live m l t (code_at m.code next to)) e v)

            after : (l : Loc) → l ≢ loc.Unset → (k : Locations) → Written end (clear_destroyed (destroyed_by i.op) f) (clear_destroyed (destroyed_by i.op) g') i.results f' k l →
                NearAt (λ l t. Live m l t (code_at m.code next to) b.tries) f' k l
            after l fixed k w = ⊎_elim (λ x. inl (sym x)) (λ x. left l fixed k x.0 x.1 x.2 (is_destroyed (destroyed_by i.op) l) refl) w

    -- what is named holds a val
    points : ValsHeld c m (at (i ∷ next) f a) → passes_frame i.op ≡ true → are_vals end names g ≡ true
    points vals t = all_vals end names g (λ l z. by l z)
      where
        by : (l : Loc) → IsIn l names → holds_val end (g l) ≡ true
        by l z =
            let v = (exact.exact i next a.tries reached t l).0 (contains_of z) in
            let fixed : l ≢ loc.Unset = live_fixed (across_here v) (reached_tail m reached) in
            ⊎_elim (λ e. ap (holds_val end) e ∙ vals.held i next refl t l v) (λ q. absurd (q.val (across_here v))) (near l fixed)

    answers : ValsHeld c m (at (i ∷ next) f a) → Answer (at (i ∷ next) g a) (lossless_line_step c m (at (i ∷ next) f a))
    answers vals = by (values end f i.args) refl
      where
        checked : not (passes_frame i.op) || are_vals end names g ≡ true
        checked = two (passes_frame i.op) refl
          where
            two : (t : Bool) → passes_frame i.op ≡ t → not t || are_vals end names g ≡ true
            two true t = points vals t
            two false t = refl

        read_all : (vs : List Value) → values end f i.args ≡ Some vs → values end g i.args ≡ Some vs
        read_all vs e =
            read_same f g (λ l t. Live m l t (i ∷ next) a.tries) near i.args
            (λ s z. (
              location_fixed s.loc (all_in (λ (s : Spot). IsLocation m s.loc)
                  (all_in (λ (i : Line). Locates m i.args × Locates m i.results) well.locations inside).0 z),
              read (contains_of z),
            )) vs e

        by : (o : Option (List Value)) → values end f i.args ≡ o → Answer (at (i ∷ next) g a) (kept.on_lossless_line_values c m i next f a o)
        by None e = stuck
        by (Some vs) e =
            steps tt
            (subst (λ o. Arrive (on_act c m i next f a (lin_act c.setting i.op vs a)) (poison.on_values c names m i next g a o)) (sym (read_all vs e))
            (subst (λ t. Arrive (on_act c m i next f a (lin_act c.setting i.op vs a))
            (unless_misnamed t (on_act c m i next g' a (lin_act c.setting i.op vs a)))) (sym checked)
            (acts c m second AnyState SameRound Rel m i next next f g' a leads (lin_act c.setting i.op vs a) (turns c.setting i.op vs a))))

  closed : Closed c m second AnyState SameRound Rel
  closed = record { around = λ s u r. around_same s u r; next = λ s u r vals. next_same s u r vals }
    where
      around_same : (s u : State) → Rel s u → s.around ≡ u.around
      around_same s u (rel r e) = refl

      next_same : (s u : State) → Rel s u → ValsHeld c m s → Answer u (lossless_line_step c m s)
      next_same s u (rel {is = []} r near) vals = stuck
      next_same s u (rel {is = i ∷ next} {f = f} {g = g} {a = a} r near) vals = answers i next f g a r near vals

  -- A run that is nowhere stuck where nothing is lost is one that reads no poison.
  pub reads_no_poison : (n : ℕ) (f : Locations) (a : Around) (y : Tally) → a.tries ≡ [] → Proper c m n (record { rest = m.code; file = f; around = a }) y →
      (k : ℕ) × RunsAlike SameRound (kept.run_of_lowered c m n (record { rest = m.code; file = f; around = a }) y)
      (poison.run_of_linear c named m k (record { rest = m.code; file = f; around = a }) y)
  reads_no_poison n f a y e proper =
      let b = simulates c m second AnyState SameRound Rel closed n (at m.code f a) (at m.code f a) y
      (rel (subst (Reached m m.code) (sym e) at_entry) (λ l fixed. inl refl)) proper in
      (b.count, b.alike)
