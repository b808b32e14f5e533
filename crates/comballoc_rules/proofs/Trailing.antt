-- The result may wait before an allocation until the function has made all the blocks that go to it: then it has allocated no
-- more than the function has.
use Rattle.std.proofs.Common.{◌≡◌, ℕ, Bool, true, false, ◌⊎◌, inl, inr, ⊎_elim, List, [], ◌∷◌, length, map, Option, Some, None, refl, sym, ap, ◌∙◌, subst}
use Rattle.std.proofs.lemmas.List.{map-append, append-nil}
use Rattle.bs_words.specs.declared.values.Value.{Value}
use Rattle.cmm_meaning.specs.Extends.{shape_of}
use Rattle.cmm_meaning.specs.State.{Doing}
use Rattle.comballoc_rules.specs.Combined.{Scanned, combined}
use Rattle.comballoc_rules.specs.Kept.{IsCombinable}
use Rattle.comballoc_rules.specs.Neighbours.{Allocates}
use Rattle.comballoc_rules.proofs.Awaited.{allocation_at}
use Rattle.comballoc_rules.proofs.Doing.{Rel, no_blocks, calm_land, quiet, allocates, reads_nothing, serves}
use Rattle.comballoc_rules.proofs.Files.{starts}
use Rattle.comballoc_rules.proofs.Live.{View, runs, ends, joined, opened, view, calm_label}
use Rattle.comballoc_rules.proofs.Places.{scanned, merged, keeps_marks, is_code, at_start}
use Rattle.comballoc_rules.proofs.Scan.{nothing_goes}
use Rattle.comballoc_rules.proofs.Steadily.{AllSteady, is_lost, goes_ahead, all_steady}
use Rattle.mach_ir.specs.Acts.{Around, Target, On, At, AtHandler, Act, Goes, Pushes, Jumps, Unwinds, Asks, Replaces, Ends, EndsRaising, Stuck, stuck_unless, is_complete, with_block, fresh_block}
use Rattle.mach_ir.specs.Keeps.{ValsWritten, Proper, Comes, ahead, Ahead, Trails, wrote_at}
use Rattle.mach_ir.specs.Meaning.{State, File, put_all, clear_registers, killed, values, past_frame, passes_frame, mach_act, code_at, wrote, on_act, on_values, step, run_of_mach}
use Rattle.mach_ir.specs.Runs.{ActivationSetting, Step, Continues, Pays, Deepens, Waits, FinishesBy, Finishes, FinishesRaising, IsStuck, Tally}
use Rattle.mach_ir.proofs.Keeping.{level_trail, trails_then}
use Rattle.mach_ir.specs.declared.blocks.NewBlock.{NewBlock}
use Rattle.mach_ir.specs.declared.op.Access.TheVariants as access
use Rattle.mach_ir.specs.declared.op.Op.TheVariants as op
use Rattle.mach_ir.specs.declared.reg.Reg.{Reg}
use Rattle.mach_ir.specs.declared.mach.MachOp.TheVariants as mach
use Rattle.mach_ir.specs.declared.mach.Instr.{Instr}
use Rattle.mach_ir.specs.declared.mach.Mach.{Mach}
use Rattle.mach_laws.specs.Expand.{Ending, all}
use Rattle.mach_laws.proofs.General as general
use Rattle.mach_laws.proofs.General.{at}
use Rattle.mach_laws.proofs.Leads.{Within, asks_in, within}
use Rattle.mach_laws.proofs.Places.{ending_next}
use Rattle.mach_laws.proofs.Simulate.{Agrees, Arrives, both_continue, both_pay, both_deepen, both_wait, both_finish_by, both_finish, both_finish_raising, first_stuck, later, Answers, stays, stuck, steps, Closed, simulates}

-- ---- blocks are only added

trails_block : (b : NewBlock) (x : Around) → Trails (with_block b x) x
trails_block b x =
    record {
      tries = refl;
      more = shape_of (fresh_block b) ∷ [];
      blocks = map-append shape_of x.memory.blocks (fresh_block b ∷ []);
    }

trails_ahead : (bs : List NewBlock) (x : Around) → Trails (ahead bs x) x
trails_ahead [] x = level_trail x
trails_ahead (b ∷ bs) x =
    trails_then (ahead bs (with_block b x)) (with_block b x) x (trails_ahead bs (with_block b x)) (trails_block b x)

-- it goes on, with the blocks that there were and perhaps others
data Onward (x : Around) : Act → Type 0 where
  lost : Onward x Stuck
  goes : {vs : List Value} {after : Around} → Trails after x → Onward x (Goes vs On after)

steady_onward : {x : Around} {one two : Act} → AllSteady [] x one two → Onward x one
steady_onward is_lost = lost
steady_onward {x} (goes_ahead same shapes tries) =
    goes (record { tries = tries; more = []; blocks = shapes ∙ sym (append-nil (map shape_of x.memory.blocks)) })

only_onward : {x : Around} (t : Bool) (vs : List Value) {after : Around} → Trails after x → Onward x (stuck_unless t (Goes vs On after))
only_onward true vs h = goes h
only_onward false vs h = lost

module _ (m : Mach) (is : IsCombinable m) (c : ActivationSetting) where
  abbrev q : Mach
  q = combined m

  abbrev Related : State → State → Type 0
  Related = general.Related c m q (merged m.code) (keeps_marks m.code) (is_code m) Ahead (Rel m is)

  -- nothing is pending here
  abbrev IsEven : List Instr → Type 0
  IsEven rest = (scanned m.code rest).results ≡ []

  -- The first has come from one state to another, in steps that go on.
  data Trail (from : State) : State → Type 0 where
    none : Trail from from
    then : {s t : State} → Trail from s → ValsWritten m s → step c m s ≡ Continues t → Agrees m (wrote_at m s.rest) t → Trail from t

  -- the second is where the first was when nothing was pending
  record Awaiting (s t : State) : Type 0 where
    from : State
    ending : Ending s.rest m.code
    related : Related from t
    even : IsEven from.rest
    trail : Trail from s
    trails : Trails s.around from.around

  abbrev Replies : List Reg → State → Step State → Type 0
  Replies ws t x = Answers c m q Ahead Related ws t x

  -- ---- the second catches up

  abbrev Catching : List Reg → List Reg → Step State → Step State → Type 0
  Catching ws xs x w = Arrives c m q Ahead Related ws xs x w

  resumed : {ws xs : List Reg} {v : State} {x : Step State} → Replies ws v x → Agrees q xs v → Catching ws xs x (Continues v)
  resumed (stays g) agree = both_continue (λ w. (g w, agree))
  resumed stuck agree = first_stuck
  resumed (steps known a) agree = later (λ w. agree) known a

  composed : {before xs : List Reg} {s : State} {w : Step State} → Catching before xs (Continues s) w → Agrees m before s →
      (ws : List Reg) (x : Step State) → ((v : State) → Related s v → Replies ws v x) → Catching ws xs x w
  composed (both_continue {t = v} g) agree ws x k = let h = g agree in resumed (k v h.0) h.1
  composed (later g known a) agree ws x k = later (λ w. g agree) known (composed a agree ws x k)

  compose : {before : List Reg} {u s : State} → Replies before u (Continues s) → Agrees m before s →
      (ws : List Reg) (x : Step State) → ((v : State) → Related s v → Replies ws v x) → Replies ws u x
  compose {u = u} (stays g) agree ws x k = k u (g agree)
  compose (steps known a) agree ws x k = steps known (composed a agree ws x k)

  closed : Closed c m q Ahead Related
  closed = general.expansion c m q (merged m.code) (keeps_marks m.code) (is_code m) Ahead (Rel m is) (serves m is c)

  caught_up : {from s t : State} → Trail from s → Related from t → (ws : List Reg) (x : Step State) →
      ((u : State) → Related s u → Replies ws u x) → Replies ws t x
  caught_up {t = t} none r ws x k = k t r
  caught_up (then {s = s} trail known e agree) r ws x k =
      caught_up trail r ws x
      (λ u ru.
      compose (subst (λ y. Replies (wrote_at m s.rest) u y) e (closed.next s u ru known)) agree ws x k)

  -- ---- where nothing is pending after a step

  abbrev IsCalm : Step State → Type 0
  IsCalm (Continues s) = IsEven s.rest
  IsCalm (Pays s) = IsEven s.rest
  IsCalm (Deepens bytes s) = IsEven s.rest
  IsCalm (Waits call go) = (d : Doing) → IsCalm (go d)
  IsCalm (FinishesBy call kept) = Unit {0}
  IsCalm (Finishes d) = Unit {0}
  IsCalm (FinishesRaising d) = Unit {0}
  IsCalm IsStuck = Unit {0}

  ending_of : {s t : State} → Related s t → Ending s.rest m.code
  ending_of (general.related e rel) = e

  now : {s t : State} → Related s t → IsEven s.rest → Awaiting s t
  now {s = s} r e = record { from = s; ending = ending_of r; related = r; even = e; trail = none; trails = level_trail s.around }

  arrives_calm : {ws xs : List Reg} {x w : Step State} → Catching ws xs x w → IsCalm x → Arrives c m q Trails Awaiting ws xs x w
  arrives_calm (both_continue g) e = both_continue (λ w. let h = g w in (now h.0 e, h.1))
  arrives_calm (both_pay g) e = both_pay (λ w. let h = g w in (now h.0 e, h.1))
  arrives_calm (both_deepen g) e = both_deepen (λ w. let h = g w in (now h.0 e, h.1))
  arrives_calm (both_wait g) e = both_wait (λ d. arrives_calm (g d) (e d))
  arrives_calm both_finish_by e = both_finish_by
  arrives_calm both_finish e = both_finish
  arrives_calm both_finish_raising e = both_finish_raising
  arrives_calm first_stuck e = first_stuck
  arrives_calm (later g known a) e = later g known (arrives_calm a e)

  answers_calm : {ws : List Reg} {t : State} {x : Step State} → Replies ws t x → IsCalm x → Answers c m q Trails Awaiting ws t x
  answers_calm (stays g) e = stays (λ w. now (g w) e)
  answers_calm stuck e = stuck
  answers_calm (steps known a) e = steps known (arrives_calm a e)

  calm_act : (i : Instr) (next : List Instr) (a : File) (x : Around) → IsEven next → (act : Act) → Within i.op act →
      IsCalm (on_act c m i next a x act)
  calm_act i next a x e (Goes vs to after) w = by (put_all c.setting.end i.results vs (clear_registers (killed m i) a)) to
    where
      by : (o : Option File) (to : Target) → IsCalm (wrote (code_at m.code next to) after o)
      by None to = tt
      by (Some d) On = e
      by (Some d) (At l) = calm_label m.code l m.code all
  calm_act i next a x e (Pushes after) w = e
  calm_act i next a x e (Jumps to after) w = calm_land m is (i ∷ next) to
  calm_act i next a x e (Unwinds after) w = calm_land m is (i ∷ next) AtHandler
  calm_act i next a x e (Asks whom vs go) (asks_in g) = λ d. calm_act i next a x e (go d) (g d)
  calm_act i next a x e (Replaces whom vs kept) w = tt
  calm_act i next a x e (Ends d) w = tt
  calm_act i next a x e (EndsRaising d) w = tt
  calm_act i next a x e Stuck w = tt

  calm_values : (i : Instr) (next : List Instr) (a : File) (x : Around) → IsEven next → (o : Option (List Value)) →
      IsCalm (on_values c m i next a x o)
  calm_values i next a x e None = tt
  calm_values i next a x e (Some vs) =
      calm_act i next (past_frame (passes_frame i.op) a) x e (mach_act c.setting i.op vs x) (within c.setting i.op vs x)

  -- ---- where something is

  allocated_onward : (i : Instr) (next : List Instr) (a : File) (x : Around) (vs : List Value) → Ending (i ∷ next) m.code →
      values a i.args ≡ Some vs → (blocks : List NewBlock) → Allocates i blocks → Onward x (mach_act c.setting i.op vs x)
  allocated_onward i next a x vs e g blocks al =
      let known = allocation_at m is e blocks al in
      subst (Onward x)
      (sym (ap (λ h. mach_act c.setting h vs x) al
      ∙ ap (λ us. mach_act c.setting (mach.Op (op.Access (access.Alloc blocks))) us x) (reads_nothing m is c i blocks known a vs g)
      ∙ allocates m is c blocks i.results x known.sized))
      (only_onward (is_complete x) (starts (length x.memory.blocks) i.results) (trails_ahead blocks x))

  onward_view : (i : Instr) (next : List Instr) (a : File) (x : Around) (vs : List Value) → Ending (i ∷ next) m.code →
      values a i.args ≡ Some vs → {s : Scanned} {xs : List Instr} → View i (scanned m.code next) s xs →
      ((scanned m.code next).results ≡ [] → ⊥) → Onward x (mach_act c.setting i.op vs x)
  onward_view i next a x vs e g (runs plain) some =
      steady_onward (all_steady c.setting vs i.op plain.straight plain.apart [] x)
  onward_view i next a x vs e g (ends n bs rs) some = absurd (some rs)
  onward_view i next a x vs e g (joined blocks al) some = allocated_onward i next a x vs e g blocks al
  onward_view i next a x vs e g (opened blocks al) some = allocated_onward i next a x vs e g blocks al

  waits_on : (i : Instr) (next : List Instr) (a : File) (x : Around) (t : State) → Ending (i ∷ next) m.code →
      ((scanned m.code next).results ≡ [] → ⊥) → ValsWritten m (at (i ∷ next) a x) → Awaiting (at (i ∷ next) a x) t →
      (o : Option (List Value)) → values a i.args ≡ o →
      Answers c m q Trails Awaiting (wrote_at m (i ∷ next)) t (on_values c m i next a x o)
  waits_on i next a x t e some known r None g = stuck
  waits_on i next a x t e some known r (Some vs) g =
      by_act (mach_act c.setting i.op vs x) refl (onward_view i next a x vs e g (view m.code i next e) some)
    where
      stepped : (act : Act) → mach_act c.setting i.op vs x ≡ act → (o : Option File) → (y : Step State) →
          on_act c m i next (past_frame (passes_frame i.op) a) x act ≡ y → step c m (at (i ∷ next) a x) ≡ y
      stepped act h o y k =
          ap (λ o. on_values c m i next a x o) g ∙ ap (on_act c m i next (past_frame (passes_frame i.op) a) x) h ∙ k

      by_file : (rs : List Value) (after : Around) → mach_act c.setting i.op vs x ≡ Goes rs On after → Trails after x →
          (o : Option File) → put_all c.setting.end i.results rs (clear_registers (killed m i) (past_frame (passes_frame i.op) a)) ≡ o →
          Answers c m q Trails Awaiting (wrote_at m (i ∷ next)) t (wrote next after o)
      by_file rs after h tr None k = stuck
      by_file rs after h tr (Some d) k =
          stays
          (λ w.
          record {
            from = r.from;
            ending = ending_next e;
            related = r.related;
            even = r.even;
            trail = then r.trail known (stepped (Goes rs On after) h (Some d) (Continues (at next d after)) (ap (wrote next after) k)) w;
            trails = trails_then after x (r.from).around tr r.trails;
          })

      by_act : (act : Act) → mach_act c.setting i.op vs x ≡ act → Onward x act →
          Answers c m q Trails Awaiting (wrote_at m (i ∷ next)) t (on_act c m i next (past_frame (passes_frame i.op) a) x (mach_act c.setting i.op vs x))
      by_act act h lost = subst (λ z. Answers c m q Trails Awaiting (wrote_at m (i ∷ next)) t (on_act c m i next (past_frame (passes_frame i.op) a) x z)) (sym h) stuck
      by_act act h (goes {vs = rs} {after = after} tr) =
          subst (λ z. Answers c m q Trails Awaiting (wrote_at m (i ∷ next)) t (on_act c m i next (past_frame (passes_frame i.op) a) x z)) (sym h)
          (by_file rs after h tr (put_all c.setting.end i.results rs (clear_registers (killed m i) (past_frame (passes_frame i.op) a))) refl)

  -- ---- each step

  same_around : {s t : State} → Related s t → IsEven s.rest → t.around ≡ s.around
  same_around (general.related {x = x} ending rel) e = rel.same ∙ ap (λ bs. ahead bs x) (no_blocks m is ending e)

  decided : (rs : List Reg) → (rs ≡ []) ⊎ (rs ≡ [] → ⊥)
  decided [] = inl refl
  decided (r ∷ rs) = inr (some r rs)
    where
      some : (r : Reg) (rs : List Reg) → r ∷ rs ≡ [] → ⊥
      some r rs e = cc

  next_by : (rest : List Instr) (a : File) (x : Around) (t : State) → Awaiting (at rest a x) t → ValsWritten m (at rest a x) →
      Answers c m q Trails Awaiting (wrote_at m rest) t (step c m (at rest a x))
  next_by [] a x t r known = stuck
  next_by (i ∷ next) a x t r known =
      ⊎_elim
      (λ e.
      answers_calm
      (caught_up r.trail r.related (wrote_at m (i ∷ next)) (step c m (at (i ∷ next) a x))
      (λ u ru. closed.next (at (i ∷ next) a x) u ru known))
      (calm_values i next a x e (values a i.args)))
      (λ some. waits_on i next a x t r.ending some known r (values a i.args) refl)
      (decided (scanned m.code next).results)

  closed_trails : Closed c m q Trails Awaiting
  closed_trails =
      record {
        suits = λ s t r. subst (Trails s.around) (sym (same_around r.related r.even)) r.trails;
        next = λ s t r known. next_by s.rest s.file s.around t r known;
      }

  starts_even : IsEven m.code
  starts_even = ap (λ (s : Scanned). s.results) (at_start m.code) ∙ (nothing_goes m.code).1

  -- Wherever the function is not stuck, the result comes to what it does, and has allocated no more.
  pub no_more : (a : File) (x : Around) (n : ℕ) (t : Tally) → Proper c m n (at m.code a x) t →
      Comes Trails (run_of_mach c m n (at m.code a x) t) c q (at q.code a x) t
  no_more a x n t proper =
      simulates c m q Trails Awaiting closed_trails n (at m.code a x) (at q.code a x) t
      (now
      (subst (λ code. Related (at m.code a x) (at code a x)) (sym (is_code m))
      (general.related all (quiet m is m.code x all starts_even (λ n v e. e))))
      starts_even)
      proper
