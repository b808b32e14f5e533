-- What is left of code where some of what may go has gone: where each instruction of it was, and that what is live and
-- reached in it was so before.
use Rattle.std.proofs.Common.{◌≡◌, ℕ, Bool, true, false, ⊎_elim, List, [], ◌∷◌, ◌++◌, length, refl, sym, ap, ◌∙◌, subst}
use Rattle.std.specs.List.{Contains}
use Rattle.std.proofs.lemmas.Bool.{both_ways}
use Rattle.bs_words.proofs.Lists.{none_in, first_in, later_in, in_cons, head_same, tail_same, none_there}
use Rattle.mach_ir.specs.Acts.{Target, On, At}
use Rattle.mach_ir.specs.Formed.{LabelOccursIn, place_here, place_below, HasHandler, handler_here, handler_below}
use Rattle.mach_ir.specs.Meaning.{after_label, from_handler, code_at, tries_at, tries_past}
use Rattle.mach_ir.specs.Placed.{is_straight, AreStraight}
use Rattle.mach_ir.specs.Walks.{AmongRegisters, OneOf, targets, may_raise, WalkStep, goes, Raises, raises, Reached, by_step, by_raise, Writes, Live, read, on, aside, LiveAfter, after_step, LiveAcross, across_step, across_raise, InCode, in_args, in_results, further, StandsAsInstr, here, below}
use Rattle.mach_ir.specs.declared.reg.Reg.{Reg}
use Rattle.mach_ir.specs.declared.mach.Instr.{Instr}
use Rattle.mach_ir.specs.declared.mach.Mach.{Mach}
use Rattle.mach_laws.specs.Expand.{expand, Ending}
use Rattle.mach_laws.proofs.Places.{label_expand, handler_expand, tries_expand, ending_next, ending_label, ending_from_handler, stands_of, head_of, tail_of, straight_cons, straight_none, stands_in, contains_of}
use Rattle.pass_rules.specs.Carried.{EndsInReturn, at_return, further as end_below}
use Rattle.deadcode_rules.specs.Dropped.{may_go, unless_dropped}
use Rattle.deadcode_rules.proofs.Text.{pure_of, pure_on, pure_straight, label_stays, handler_stays, Fate, falls, remains, fate, keeps_marks}

module _ (drops : ℕ → Bool) where
  abbrev pub f : ℕ → Instr → List Instr
  f = unless_dropped drops

  -- ---- where an instruction that is left was

  pub record IsMain (j : Instr) (zs code : List Instr) : Type 0 where
    pub next : List Instr
    pub stands : StandsAsInstr j next code
    pub same : zs ≡ expand f next
    pub kept : may_go j.op ≡ true → drops (length next) ≡ false

  pub was_main : (code : List Instr) (j : Instr) (zs : List Instr) → StandsAsInstr j zs (expand f code) → IsMain j zs code
  was_main [] j zs s = elim s [ ]
  was_main (i ∷ is) j zs s = by (fate drops i is) (λ t. was_main is j zs t)
    where
      more_of : IsMain j zs is → IsMain j zs (i ∷ is)
      more_of w = record { next = w.next; stands = below w.stands; same = w.same; kept = w.kept }

      at_head : {x : Instr} {ys : List Instr} → (may_go i.op ≡ true → drops (length is) ≡ false) → i ≡ x → ys ≡ expand f is →
          StandsAsInstr j zs (x ∷ ys) → (StandsAsInstr j zs (expand f is) → IsMain j zs is) → IsMain j zs (i ∷ is)
      at_head k e h here again =
          subst (λ (x : Instr). IsMain x zs (i ∷ is)) e (record { next = is; stands = here; same = h; kept = k })
      at_head k e h (below t) again = more_of (again (subst (StandsAsInstr j zs) h t))

      by : Fate drops i is → (StandsAsInstr j zs (expand f is) → IsMain j zs is) → IsMain j zs (i ∷ is)
      by (falls g d e h) again = more_of (again (subst (StandsAsInstr j zs) h s))
      by (remains k e h) again = at_head k refl refl (subst (StandsAsInstr j zs) h s) again

  pub contains_back : (code : List Instr) (i : Instr) → Contains (expand f code) i → Contains code i
  contains_back code i c = let s = stands_in (expand f code) i c in contains_of (was_main code i s.0 s.1).stands

  pub code_back : {r : Reg} (code : List Instr) → InCode r (expand f code) → InCode r code
  code_back [] c = c
  code_back {r} (i ∷ is) c = by (fate drops i is) (λ d. code_back is d)
    where
      of_head : InCode r (i ∷ expand f is) → (InCode r (expand f is) → InCode r is) → InCode r (i ∷ is)
      of_head (in_args a) again = in_args a
      of_head (in_results a) again = in_results a
      of_head (further d) again = further (again d)

      by : Fate drops i is → (InCode r (expand f is) → InCode r is) → InCode r (i ∷ is)
      by (falls g d e h) again = further (again (subst (InCode r) h c))
      by (remains k e h) again = of_head (subst (InCode r) h c) again

  -- ---- what stays is there

  pub contains_left : (code : List Instr) (i : Instr) → may_go i.op ≡ false → Contains code i → Contains (expand f code) i
  contains_left [] i k c = absurd (none_in i c)
  contains_left (j ∷ is) i k c = by (fate drops j is) (λ d. contains_left is i k d)
    where
      by : Fate drops j is → (Contains is i → Contains (expand f is) i) → Contains (expand f (j ∷ is)) i
      by (falls g d s h) again =
          ⊎_elim (λ e. absurd (both_ways (may_go j.op) (ap (λ (x : Instr). may_go x.op) e ∙ k) g))
          (λ t. subst (λ xs. Contains xs i) (sym h) (again t)) (in_cons j i is c)
      by (remains g s h) again =
          subst (λ xs. Contains xs i) (sym h)
          (⊎_elim (λ e. subst (Contains (j ∷ expand f is)) e (first_in j (expand f is)))
          (λ t. later_in j i (expand f is) (again t)) (in_cons j i is c))

  pub place_left : {l : ℕ} {code : List Instr} → LabelOccursIn l code → LabelOccursIn l (expand f code)
  place_left {l} (place_here {i = i} {is = is} e) = by (fate drops i is)
    where
      by : Fate drops i is → LabelOccursIn l (expand f (i ∷ is))
      by (falls g d s h) = absurd (both_ways (may_go i.op) (label_stays l i.op e) g)
      by (remains k s h) = subst (LabelOccursIn l) (sym h) (place_here e)
  place_left {l} (place_below {i = i} {is = is} p) = by (fate drops i is) (place_left p)
    where
      by : Fate drops i is → LabelOccursIn l (expand f is) → LabelOccursIn l (expand f (i ∷ is))
      by (falls g d s h) t = subst (LabelOccursIn l) (sym h) t
      by (remains k s h) t = subst (LabelOccursIn l) (sym h) (place_below t)

  pub handler_left : {l : ℕ} {code : List Instr} → HasHandler l code → HasHandler l (expand f code)
  handler_left {l} (handler_here {i = i} {is = is} e) = by (fate drops i is)
    where
      by : Fate drops i is → HasHandler l (expand f (i ∷ is))
      by (falls g d s h) = absurd (both_ways (may_go i.op) (handler_stays l i.op e) g)
      by (remains k s h) = subst (HasHandler l) (sym h) (handler_here e)
  handler_left {l} (handler_below {i = i} {is = is} p) = by (fate drops i is) (handler_left p)
    where
      by : Fate drops i is → HasHandler l (expand f is) → HasHandler l (expand f (i ∷ is))
      by (falls g d s h) t = subst (HasHandler l) (sym h) t
      by (remains k s h) t = subst (HasHandler l) (sym h) (handler_below t)

  pub still_ends : {code : List Instr} → EndsInReturn code → EndsInReturn (expand f code)
  still_ends at_return = at_return
  still_ends (end_below {i = i} {is = is} e) = by (fate drops i is) (still_ends e)
    where
      by : Fate drops i is → EndsInReturn (expand f is) → EndsInReturn (expand f (i ∷ is))
      by (falls g d s h) t = subst EndsInReturn (sym h) t
      by (remains k s h) t = subst EndsInReturn (sym h) (end_below t)

  -- ---- tries

  pub tries_before : {zs : List Instr} (next : List Instr) → zs ≡ expand f next → tries_at zs ≡ tries_at next
  tries_before next e = ap tries_at e ∙ tries_expand f (keeps_marks drops) next

  pub tries_here : (j : Instr) {zs : List Instr} (next : List Instr) → zs ≡ expand f next → tries_at (j ∷ zs) ≡ tries_at (j ∷ next)
  tries_here j next e = ap (tries_past j.op) (tries_before next e)

  -- ---- straight code before an instruction that is left

  pub record WasRun (rest : List Instr) (i : Instr) : Type 0 where
    pub run : List Instr
    pub next : List Instr
    pub same : rest ≡ run ++ i ∷ next
    pub straight : AreStraight run

  pub run_back : (rest run : List Instr) (i : Instr) (zs : List Instr) → run ++ i ∷ zs ≡ expand f rest → AreStraight run → WasRun rest i
  run_back [] [] i zs e st = absurd (none_there (sym e))
  run_back [] (x ∷ run) i zs e st = absurd (none_there (sym e))
  run_back (x ∷ rest) run i zs e st = by (fate drops x rest) run e st (λ run e st. run_back rest run i zs e st)
    where
      by : Fate drops x rest → (run : List Instr) → run ++ i ∷ zs ≡ expand f (x ∷ rest) → AreStraight run →
          ((run : List Instr) → run ++ i ∷ zs ≡ expand f rest → AreStraight run → WasRun rest i) → WasRun (x ∷ rest) i
      by (falls g d s h) run e st again =
          let w = again run (e ∙ h) st in
          record {
            run = x ∷ w.run;
            next = w.next;
            same = ap (λ xs. x ∷ xs) w.same;
            straight = straight_cons x w.run (pure_straight (pure_of x.op g)) w.straight;
          }
      by (remains k s h) [] e st again =
          record { run = []; next = rest; same = ap (λ y. y ∷ rest) (sym (head_same (e ∙ h))); straight = straight_none }
      by (remains k s h) (y ∷ ys) e st again =
          let w = again ys (tail_same (e ∙ h)) (tail_of y ys st) in
          record {
            run = x ∷ w.run;
            next = w.next;
            same = ap (λ xs. x ∷ xs) w.same;
            straight = straight_cons x w.run (subst (λ (y : Instr). is_straight y.op ≡ true) (head_same (e ∙ h)) (head_of y ys st)) w.straight;
          }

module _ (m : Mach) (drops : ℕ → Bool) where
  pub label_is : (l : ℕ) → after_label l (expand (f drops) m.code) ≡ expand (f drops) (after_label l m.code)
  label_is l = label_expand (f drops) (keeps_marks drops) l m.code

  pub handler_is : (l : ℕ) → from_handler l (expand (f drops) m.code) ≡ expand (f drops) (from_handler l m.code)
  handler_is l = handler_expand (f drops) (keeps_marks drops) l m.code

  -- ---- the first instruction that is left

  -- the second code is the first without instructions at its head, all of which go
  pub data Goes : List Instr → List Instr → Type 0 where
    none_goes : {rest : List Instr} → Goes rest rest
    one_goes : {i : Instr} {next rest : List Instr} → StandsAsInstr i next m.code → may_go i.op ≡ true →
        drops (length next) ≡ true → Goes next rest → Goes (i ∷ next) rest

  pub record IsFirst (rest : List Instr) (j : Instr) (zs : List Instr) : Type 0 where
    pub next : List Instr
    pub same : zs ≡ expand (f drops) next
    pub ending : Ending (j ∷ next) m.code
    pub kept : may_go j.op ≡ true → drops (length next) ≡ false
    pub gone : Goes rest (j ∷ next)

  pub first_kept : (rest : List Instr) → Ending rest m.code → (j : Instr) (zs : List Instr) → j ∷ zs ≡ expand (f drops) rest →
      IsFirst rest j zs
  first_kept [] ending j zs e = absurd (none_there (sym e))
  first_kept (i ∷ is) ending j zs e = by (fate drops i is) (λ h. first_kept is (ending_next ending) j zs h)
    where
      by : Fate drops i is → (j ∷ zs ≡ expand (f drops) is → IsFirst is j zs) → IsFirst (i ∷ is) j zs
      by (falls g d s h) again =
          let w = again (e ∙ h) in
          record {
            next = w.next;
            same = w.same;
            ending = w.ending;
            kept = w.kept;
            gone = one_goes (stands_of ending) g d w.gone;
          }
      by (remains k s h) again =
          subst (λ (x : Instr). IsFirst (i ∷ is) x zs) (sym (head_same (e ∙ h)))
          (record { next = is; same = tail_same (e ∙ h); ending = ending; kept = k; gone = none_goes })

  -- ---- what is reached

  pub gone_reached : {rest ys : List Instr} → Goes rest ys → Reached m rest → Reached m ys
  gone_reached none_goes r = r
  gone_reached (one_goes {i = i} s g d h) r = gone_reached h (by_step r (goes On (pure_on (pure_of i.op g))))

  -- a place that is reached in what is left
  pub record WasReached (ys : List Instr) : Type 0 where
    pub rest : List Instr
    pub ending : Ending rest m.code
    pub same : ys ≡ expand (f drops) rest
    pub reached : Reached m rest

  -- in code with what is left of each place
  module _ (code : List Instr) (label_so : (l : ℕ) → after_label l code ≡ expand (f drops) (after_label l m.code))
      (handler_so : (l : ℕ) → from_handler l code ≡ expand (f drops) (from_handler l m.code)) where
    pub reached_on : {j : Instr} {zs : List Instr} → WasReached (j ∷ zs) → (t : Target) → OneOf t (targets j.op) →
        WasReached (code_at code zs t)
    reached_on {j} {zs} b t o =
        let w = first_kept b.rest b.ending j zs b.same in
        by w.next w.same w.ending (gone_reached w.gone b.reached) t o
      where
        by : (next : List Instr) → zs ≡ expand (f drops) next → Ending (j ∷ next) m.code → Reached m (j ∷ next) → (t : Target) →
            OneOf t (targets j.op) → WasReached (code_at code zs t)
        by next same end r On o = record { rest = next; ending = ending_next end; same = same; reached = by_step r (goes On o) }
        by next same end r (At l) o =
            record {
              rest = after_label l m.code;
              ending = ending_label l m.code;
              same = label_so l;
              reached = by_step r (goes (At l) o);
            }

    pub reached_aside : {j : Instr} {zs : List Instr} (l : ℕ) (tries : List ℕ) → WasReached (j ∷ zs) → may_raise j.op ≡ true →
        tries_at (j ∷ zs) ≡ l ∷ tries → WasReached (from_handler l code)
    reached_aside {j} {zs} l tries b e h =
        let w = first_kept b.rest b.ending j zs b.same in
        record {
          rest = from_handler l m.code;
          ending = ending_from_handler l m.code;
          same = handler_so l;
          reached = by_raise (gone_reached w.gone b.reached) (raises e (sym (tries_here drops j w.next w.same) ∙ h));
        }

  -- ---- what is live

  -- What holds of code where what is left reads a register, and of code before that: with it the register is live.
  pub record GoesBack (n : ℕ) (Back : List Instr → Type 0) : Type 0 where
    pub over : (i : Instr) (next : List Instr) → StandsAsInstr i next m.code → may_go i.op ≡ true → drops (length next) ≡ true →
        Back next → Back (i ∷ next)
    pub at_read : (i : Instr) (next : List Instr) → StandsAsInstr i next m.code → (may_go i.op ≡ true → drops (length next) ≡ false) →
        AmongRegisters n i.args → Back (i ∷ next)
    pub at_step : (i : Instr) (next to : List Instr) → (Writes m i n → ⊥) → WalkStep m i next to → Back to → Back (i ∷ next)
    pub at_raise : (i : Instr) (next to : List Instr) → Raises m i next to → Back to → Back (i ∷ next)
    pub is_live : (rest : List Instr) → Back rest → Live m n rest

  module _ (params : List Reg) (n : ℕ) (Back : List Instr → Type 0) (back : GoesBack n Back) where
    -- what is left, where these have been handed in
    abbrev pub left_of : Mach
    left_of = record m { params = params; code = expand (f drops) m.code }

    gone_back : {rest ys : List Instr} → Goes rest ys → Back ys → Back rest
    gone_back none_goes v = v
    gone_back (one_goes {i = i} {next = next} s g d h) v = back.over i next s g d (gone_back h v)

    pub live_back : {ys : List Instr} → Live left_of n ys → (rest : List Instr) → Ending rest m.code →
        ys ≡ expand (f drops) rest → Back rest
    live_back (read {i = j} {next = zs} a) rest ending e =
        let w = first_kept rest ending j zs e in gone_back w.gone (back.at_read j w.next (stands_of w.ending) w.kept a)
    live_back (on {i = j} {next = zs} free (goes t o) v) rest ending e =
        let w = first_kept rest ending j zs e in
        gone_back w.gone (by w.next w.same w.ending t o (λ to end h. live_back v to end h))
      where
        by : (next : List Instr) → zs ≡ expand (f drops) next → Ending (j ∷ next) m.code → (t : Target) → OneOf t (targets j.op) →
            ((to : List Instr) → Ending to m.code → code_at (expand (f drops) m.code) zs t ≡ expand (f drops) to → Back to) →
            Back (j ∷ next)
        by next same end On o ih = back.at_step j next next free (goes On o) (ih next (ending_next end) same)
        by next same end (At l) o ih =
            back.at_step j next (after_label l m.code) free (goes (At l) o)
            (ih (after_label l m.code) (ending_label l m.code) (label_is l))
    live_back (aside {i = j} {next = zs} (raises {l = l} {tries = tries} r h) v) rest ending e =
        let w = first_kept rest ending j zs e in
        gone_back w.gone
        (back.at_raise j w.next (from_handler l m.code) (raises r (sym (tries_here drops j w.next w.same) ∙ h))
        (live_back v (from_handler l m.code) (ending_from_handler l m.code) (handler_is l)))

    pub across_back : {j : Instr} {zs : List Instr} (next : List Instr) → Ending (j ∷ next) m.code → zs ≡ expand (f drops) next →
        LiveAcross left_of n j zs → LiveAcross m n j next × Back (j ∷ next)
    across_back {j} {zs} next ending e (across_step free (goes t o) v) = by t o v
      where
        by : (t : Target) → OneOf t (targets j.op) → Live left_of n (code_at (expand (f drops) m.code) zs t) →
            LiveAcross m n j next × Back (j ∷ next)
        by On o v =
            let u = live_back v next (ending_next ending) e in
            (across_step free (goes On o) (back.is_live next u), back.at_step j next next free (goes On o) u)
        by (At l) o v =
            let to : List Instr = after_label l m.code in
            let u = live_back v to (ending_label l m.code) (label_is l) in
            (across_step free (goes (At l) o) (back.is_live to u), back.at_step j next to free (goes (At l) o) u)
    across_back {j} {zs} next ending e (across_raise (raises {l = l} {tries = tries} r h) v) =
        let to : List Instr = from_handler l m.code in
        let u = live_back v to (ending_from_handler l m.code) (handler_is l) in
        let t = sym (tries_here drops j next e) ∙ h in
        (across_raise (raises r t) (back.is_live to u), back.at_raise j next to (raises r t) u)

    pub after_back : {j : Instr} {zs : List Instr} (next : List Instr) → Ending (j ∷ next) m.code → zs ≡ expand (f drops) next →
        LiveAfter left_of n j zs → LiveAfter m n j next
    after_back {j} {zs} next ending e (after_step (goes t o) v) = by t o v
      where
        by : (t : Target) → OneOf t (targets j.op) → Live left_of n (code_at (expand (f drops) m.code) zs t) → LiveAfter m n j next
        by On o v = after_step (goes On o) (back.is_live next (live_back v next (ending_next ending) e))
        by (At l) o v =
            let to : List Instr = after_label l m.code in
            after_step (goes (At l) o) (back.is_live to (live_back v to (ending_label l m.code) (label_is l)))
