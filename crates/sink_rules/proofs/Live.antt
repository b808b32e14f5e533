-- What is live, joined and reached with the moves was so without them: a move reads its register before it writes it, and the
-- register is live there.
use Rattle.std.proofs.Common.{◌≡◌, ℕ, true, false, List, ◌∷◌, refl, sym, ap, ◌∙◌, subst}
use Rattle.std.specs.List.{Contains}
use Rattle.std.proofs.lemmas.Bool.{both_ways}
use Rattle.bs_words.specs.declared.types.Comp.TheVariants as comp
use Rattle.mach_ir.specs.Acts.{Target, On, At}
use Rattle.mach_ir.specs.Meaning.{after_label, from_handler, code_at, passes_frame, tries_at, tries_past, registers_written}
use Rattle.mach_ir.specs.Walks.{AmongRegisters, OneOf, targets, may_raise, goes, raises, Reached, at_entry, by_step, by_raise, Live, read, on, aside, LiveAfter, after_step, LiveAcross, across_step, across_raise, IsRegister, NoAddrLive, Meets, at_write, at_params, Joined, one_way, other_way}
use Rattle.mach_ir.specs.declared.reg.Reg.{Reg}
use Rattle.mach_ir.specs.declared.mach.Instr.{Instr}
use Rattle.mach_ir.specs.declared.mach.Mach.{Mach}
use Rattle.mach_laws.specs.Expand.{expand, Ending}
use Rattle.mach_laws.proofs.Places.{label_expand, handler_expand, ending_label, ending_from_handler, stands_of}
use Rattle.mach_laws.proofs.Walking.{only_on}
use Rattle.sink_rules.specs.Sunk.{SinkPlan, IsSinkPlan}
use Rattle.sink_rules.proofs.Text as text
use Rattle.sink_rules.proofs.Text.{laid_instr, keeps_marks, of_one}

module _ (m : Mach) (plan : SinkPlan) (is : IsSinkPlan m plan) where
  abbrev q : Mach
  q = text.laid m plan is

  abbrev f : ℕ → Instr → List Instr
  f = laid_instr plan

  abbrev Laid : List Instr → List Instr → Type 0
  Laid = text.Laid m plan is

  pub laid_label : (l : ℕ) → Laid (after_label l m.code) (after_label l q.code)
  laid_label l =
      subst (Laid (after_label l m.code)) (sym (label_expand f (keeps_marks plan) l m.code))
      (text.laid_of m plan is (after_label l m.code) (ending_label l m.code))

  pub laid_handler : (l : ℕ) → Laid (from_handler l m.code) (from_handler l q.code)
  laid_handler l =
      subst (Laid (from_handler l m.code)) (sym (handler_expand f (keeps_marks plan) l m.code))
      (text.laid_of m plan is (from_handler l m.code) (ending_from_handler l m.code))

  -- ---- what is live

  -- a register is live where it is moved
  pub moved_live : {i : Instr} {next : List Instr} (r : Reg) → Ending (i ∷ next) m.code → text.IsMoved m plan is r next →
      Live m r.number (i ∷ next)
  moved_live {i} {next} r e k = is.live i next r (stands_of e) k.among k.told

  abbrev Onward : ℕ → List Instr → Type 0
  Onward n ys = (rest : List Instr) → Laid rest ys → Live m n rest

  on_case : {n : ℕ} {rest ys : List Instr} {j : Instr} (t : Target) → Laid rest (j ∷ ys) → (AmongRegisters n (registers_written m j) → ⊥) →
      OneOf t (targets j.op) → Onward n (code_at q.code ys t) → Live m n rest
  on_case {n} {ys = ys} t (text.moves {i = i} {next = next} r e k h) w o ih =
      subst (λ t. Onward n (code_at q.code ys t)) (only_on t o) ih (i ∷ next) h
  on_case On (text.main {next = next} e h) w o ih = on w (goes On o) (ih next h)
  on_case (At l) (text.main e h) w o ih = on w (goes (At l) o) (ih (after_label l m.code) (laid_label l))

  aside_case : {n : ℕ} {rest ys : List Instr} {j : Instr} (l : ℕ) (tries : List ℕ) → Laid rest (j ∷ ys) → may_raise j.op ≡ true →
      tries_at (j ∷ ys) ≡ l ∷ tries → Onward n (from_handler l q.code) → Live m n rest
  aside_case l tries (text.moves r e k h) b t ih = absurd (both_ways false refl b)
  aside_case l tries (text.main {i = i} e h) b t ih =
      aside (raises b (sym (ap (tries_past i.op) (text.laid_tries m plan is h)) ∙ t)) (ih (from_handler l m.code) (laid_handler l))

  read_case : {n : ℕ} {rest ys : List Instr} {j : Instr} → Laid rest (j ∷ ys) → AmongRegisters n j.args → Live m n rest
  read_case {n} (text.moves {i = i} {next = next} r e k h) a = subst (λ n. Live m n (i ∷ next)) (of_one a) (moved_live r e k)
  read_case (text.main e h) a = read a

  pub live_back : {n : ℕ} {ys : List Instr} → Live q n ys → Onward n ys
  live_back (read a) rest h = read_case h a
  live_back (on w (goes t o) v) rest h = on_case t h w o (λ to k. live_back v to k)
  live_back (aside (raises {l = l} {tries = tries} b t) v) rest h = aside_case l tries h b t (λ to k. live_back v to k)

  pub live_before : {n : ℕ} {rest : List Instr} → Ending rest m.code → Live q n (expand f rest) → Live m n rest
  live_before {rest = rest} e v = live_back v rest (text.laid_of m plan is rest e)

  pub across_back : {n : ℕ} {ys : List Instr} (i : Instr) (next : List Instr) → Laid next ys → LiveAcross q n i ys →
      LiveAcross m n i next
  across_back {n} {ys} i next h (across_step w (goes t o) v) = by t o (λ to k. live_back v to k)
    where
      by : (t : Target) → OneOf t (targets i.op) → Onward n (code_at q.code ys t) → LiveAcross m n i next
      by On o ih = across_step w (goes On o) (ih next h)
      by (At l) o ih = across_step w (goes (At l) o) (ih (after_label l m.code) (laid_label l))
  across_back {n} {ys} i next h (across_raise (raises {l = l} b t) v) =
      across_raise (raises b (sym (ap (tries_past i.op) (text.laid_tries m plan is h)) ∙ t))
      (live_back v (from_handler l m.code) (laid_handler l))

  pub after_back : {n : ℕ} {ys : List Instr} (i : Instr) (next : List Instr) → Laid next ys → LiveAfter q n i ys →
      LiveAfter m n i next
  after_back {n} {ys} i next h (after_step (goes t o) v) = by t o (λ to k. live_back v to k)
    where
      by : (t : Target) → OneOf t (targets i.op) → Onward n (code_at q.code ys t) → LiveAfter m n i next
      by On o ih = after_step (goes On o) (ih next h)
      by (At l) o ih = after_step (goes (At l) o) (ih (after_label l m.code) (laid_label l))

  -- ---- the graph

  -- only what is written by a move may meet more
  pub data MovedNumber (n : ℕ) : Type 0 where
    moved_number : (r : Reg) → Contains plan.registers r → r.number ≡ n → MovedNumber n

  meets_back : {n k : ℕ} → (MovedNumber n → ⊥) → Meets q n k → Meets m n k
  meets_back {n} {k} free (at_write j zs s w v apart) = by (text.whence m plan is s)
    where
      by : text.Whence m plan is j zs → Meets m n k
      by (text.itself r t u e h) =
          absurd (free (moved_number r u.among (of_one (subst (λ (j : Instr). AmongRegisters n (registers_written m j)) e w))))
      by (text.left {next = next} t h) = at_write j next t w (after_back j next h v) apart
  meets_back free (at_params a v) = at_params a (live_back v m.code (text.whole_laid m plan is))

  pub joined_back : {n k : ℕ} → (MovedNumber n → ⊥) → (MovedNumber k → ⊥) → Joined q n k → Joined m n k
  joined_back one two (one_way e h) = one_way e (meets_back one h)
  joined_back one two (other_way e h) = other_way e (meets_back two h)

  -- ---- what is reached

  pub record WasReached (ys : List Instr) : Type 0 where
    pub rest : List Instr
    pub laid_there : Laid rest ys
    pub reached : Reached m rest

  step_back : {rest ys : List Instr} {j : Instr} (t : Target) → Laid rest (j ∷ ys) → Reached m rest → OneOf t (targets j.op) →
      WasReached (code_at q.code ys t)
  step_back {ys = ys} t (text.moves {i = i} {next = next} r e k h) reached o =
      subst (λ t. WasReached (code_at q.code ys t)) (sym (only_on t o))
      (record { rest = i ∷ next; laid_there = h; reached = reached })
  step_back On (text.main {next = next} e h) reached o =
      record { rest = next; laid_there = h; reached = by_step reached (goes On o) }
  step_back (At l) (text.main e h) reached o =
      record { rest = after_label l m.code; laid_there = laid_label l; reached = by_step reached (goes (At l) o) }

  raise_back : {rest ys : List Instr} {j : Instr} (l : ℕ) (tries : List ℕ) → Laid rest (j ∷ ys) → Reached m rest →
      may_raise j.op ≡ true → tries_at (j ∷ ys) ≡ l ∷ tries → WasReached (from_handler l q.code)
  raise_back l tries (text.moves r e k h) reached b t = absurd (both_ways false refl b)
  raise_back l tries (text.main {i = i} e h) reached b t =
      record {
        rest = from_handler l m.code;
        laid_there = laid_handler l;
        reached = by_raise reached (raises b (sym (ap (tries_past i.op) (text.laid_tries m plan is h)) ∙ t));
      }

  reached_back : {ys : List Instr} → Reached q ys → WasReached ys
  reached_back at_entry = record { rest = m.code; laid_there = text.whole_laid m plan is; reached = at_entry }
  reached_back (by_step r (goes t o)) = let w = reached_back r in step_back t w.laid_there w.reached o
  reached_back (by_raise r (raises {l = l} {tries = tries} b t)) =
      let w = reached_back r in raise_back l tries w.laid_there w.reached b t

  pub no_addr_back : NoAddrLive m → NoAddrLive q
  no_addr_back none =
      record {
        none = λ j ys reached frame r one addr v.
            let w = reached_back reached in
            by j ys w.rest w.laid_there w.reached frame r (text.was_register m plan is r one) addr v;
      }
    where
      by : (j : Instr) (ys rest : List Instr) → Laid rest (j ∷ ys) → Reached m rest → passes_frame j.op ≡ true → (r : Reg) →
          IsRegister m r → r.comp ≡ comp.Addr → LiveAcross q r.number j ys → ⊥
      by j ys rest (text.moves k e u h) reached frame r one addr v = both_ways false refl frame
      by j ys rest (text.main {next = next} e h) reached frame r one addr v =
          none.none j next reached frame r one addr (across_back j next h v)
