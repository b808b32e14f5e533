-- In the function without its dead instructions a register is live exactly where it was used.
use Rattle.std.proofs.Common.{◌≡◌, ℕ, Bool, true, false, ⊎_elim, List, ◌∷◌, length, refl, sym, ◌∙◌, subst}
use Rattle.std.proofs.lemmas.Bool.{cases_Bool, both_ways}
use Rattle.mach_ir.specs.Acts.{Target, On, At}
use Rattle.mach_ir.specs.Meaning.{from_handler, code_at, killed}
use Rattle.mach_ir.specs.Walks as walks
use Rattle.mach_ir.specs.Walks.{AmongRegisters, OneOf, targets, may_raise, goes, raises, Reached, at_entry, by_step, by_raise, Live, LiveAfter, LiveAcross, IsRegister, is_param, is_colour, is_in_code, StandsAsInstr, Meets, at_write, at_params, Joined, one_way, other_way}
use Rattle.mach_ir.specs.declared.reg.Reg.{Reg}
use Rattle.mach_ir.specs.declared.mach.Instr.{Instr}
use Rattle.mach_ir.specs.declared.mach.Mach.{Mach}
use Rattle.mach_laws.specs.Expand.{expand, Ending, all}
use Rattle.mach_laws.proofs.Places.{ending_next, ending_label, ending_from_handler, stands_of, ending_of}
use Rattle.mach_laws.proofs.Among.{none_among, split_among}
use Rattle.deadcode_rules.specs.Dropped.{may_go, IsUsed, read, read_for, on, aside, unless_dropped, dropped, AreDead}
use Rattle.deadcode_rules.proofs.Left as left
use Rattle.deadcode_rules.proofs.Left.{code_back, tries_here, was_main, label_is, handler_is, first_kept, gone_reached, WasReached, reached_on, reached_aside, GoesBack}
use Rattle.deadcode_rules.proofs.Text.{pure_of, pure_on, pure_only, pure_quiet, pure_kills, Fate, falls, remains, fate}

-- what is used is live
pub used_live : {m : Mach} {n : ℕ} {rest : List Instr} → IsUsed m n rest → Live m n rest
used_live (read e a) = walks.read a
used_live (read_for e a r u) = walks.read a
used_live (on w l u) = walks.on w l (used_live u)
used_live (aside r u) = walks.aside r (used_live u)

module _ (m : Mach) (drops : ℕ → Bool) (dead : AreDead m drops) where
  abbrev pub q : Mach
  q = dropped drops m

  abbrev pub f : ℕ → Instr → List Instr
  f = unless_dropped drops

  -- what goes writes nothing but dead results
  pub none_killed : (i : Instr) (n : ℕ) → may_go i.op ≡ true → AmongRegisters n (killed m i) → ⊥
  none_killed i n e a = none_among (subst (AmongRegisters n) (pure_kills m.colours i.results (pure_of i.op e)) a)

  pub lift : {n : ℕ} {i : Instr} {next : List Instr} → StandsAsInstr i next m.code → may_go i.op ≡ true → drops (length next) ≡ true →
      IsUsed m n next → IsUsed m n (i ∷ next)
  lift {n} {i} {next} s e d u =
      on
      (λ w.
      ⊎_elim (λ a. dead.dead i next s e d (record { number = n; among = a; used = u })) (none_killed i n e)
      (split_among n i.results (killed m i) w))
      (goes On (pure_on (pure_of i.op e))) u

  -- it is read here by what is left
  pub used_by : {n : ℕ} {j : Instr} {next : List Instr} → Ending (j ∷ next) m.code →
      (may_go j.op ≡ true → drops (length next) ≡ false) → AmongRegisters n j.args → IsUsed m n (j ∷ next)
  used_by {n} {j} {next} ending kept a =
      ⊎_elim
      (λ e. let w = dead.wanted j next (stands_of ending) e (kept e) in read_for e a w.among w.used)
      (λ e. read e a) (cases_Bool (may_go j.op))

  goes_back : (n : ℕ) → GoesBack m drops n (IsUsed m n)
  goes_back n =
      record {
        over = λ i next s g d u. lift s g d u;
        at_read = λ i next s kept a. used_by (ending_of s) kept a;
        at_step = λ i next to free l u. on free l u;
        at_raise = λ i next to r u. aside r u;
        is_live = λ rest u. used_live u;
      }

  -- what is live in the second was used in the first
  pub live_back : {n : ℕ} {ys : List Instr} → Live q n ys → (rest : List Instr) → Ending rest m.code → ys ≡ expand f rest → IsUsed m n rest
  live_back {n} = left.live_back m drops m.params n (IsUsed m n) (goes_back n)

  -- and what was used in the first is live in the second
  pub used_there : {n : ℕ} {rest : List Instr} → IsUsed m n rest → Ending rest m.code → Live q n (expand f rest)
  used_there {n} (read {i = i} {next = next} e a) ending = by (fate drops i next)
    where
      by : Fate drops i next → Live q n (expand f (i ∷ next))
      by (falls g d s h) = absurd (both_ways (may_go i.op) e g)
      by (remains k s h) = subst (Live q n) (sym h) (walks.read a)
  used_there {n} (read_for {k = k} {i = i} {next = next} e a r u) ending = by (fate drops i next)
    where
      by : Fate drops i next → Live q n (expand f (i ∷ next))
      by (falls g d s h) = absurd (dead.dead i next (stands_of ending) g d (record { number = k; among = r; used = u }))
      by (remains k s h) = subst (Live q n) (sym h) (walks.read a)
  used_there {n} (on {i = i} {next = next} free (goes t o) u) ending = by (fate drops i next) t o (λ end. used_there u end)
    where
      by : Fate drops i next → (t : Target) → OneOf t (targets i.op) → (Ending (code_at m.code next t) m.code → Live q n (expand f (code_at m.code next t))) →
          Live q n (expand f (i ∷ next))
      by (falls g d s h) On o ih = subst (Live q n) (sym h) (ih (ending_next ending))
      by (falls g d s h) (At l) o ih = absurd (no_label (pure_only (pure_of i.op g) o))
        where
          no_label : At l ≡ On → ⊥
          no_label e = cc
      by (remains k s h) On o ih = subst (Live q n) (sym h) (walks.on free (goes On o) (ih (ending_next ending)))
      by (remains k s h) (At l) o ih =
          subst (Live q n) (sym h)
          (walks.on free (goes (At l) o) (subst (Live q n) (sym (label_is m drops l)) (ih (ending_label l m.code))))
  used_there {n} (aside {i = i} {next = next} (raises {l = l} {tries = tries} r h) u) ending =
      by (fate drops i next) (used_there u (ending_from_handler l m.code))
    where
      by : Fate drops i next → Live q n (expand f (from_handler l m.code)) → Live q n (expand f (i ∷ next))
      by (falls g d s e) v = absurd (both_ways (may_raise i.op) (pure_quiet (pure_of i.op g)) r)
      by (remains k s e) v =
          subst (Live q n) (sym e)
          (walks.aside (raises r (tries_here drops i next refl ∙ h)) (subst (Live q n) (sym (handler_is m drops l)) v))

  -- ---- after an instruction that is left

  pub across_back : {n : ℕ} {j : Instr} {zs : List Instr} (next : List Instr) → Ending (j ∷ next) m.code → zs ≡ expand f next →
      LiveAcross q n j zs → LiveAcross m n j next × IsUsed m n (j ∷ next)
  across_back {n} = left.across_back m drops m.params n (IsUsed m n) (goes_back n)

  pub after_back : {n : ℕ} {j : Instr} {zs : List Instr} (next : List Instr) → Ending (j ∷ next) m.code → zs ≡ expand f next →
      LiveAfter q n j zs → LiveAfter m n j next
  after_back {n} = left.after_back m drops m.params n (IsUsed m n) (goes_back n)

  -- ---- registers

  pub was_register : (r : Reg) → IsRegister q r → IsRegister m r
  was_register r (is_param c) = is_param c
  was_register r (is_colour c) = is_colour c
  was_register r (is_in_code c) = is_in_code (code_back drops m.code c)

  -- ---- the graph, and what is reached

  meets_back : {n k : ℕ} → Meets q n k → Meets m n k
  meets_back (at_write j zs s w v apart) =
      let o = was_main drops m.code j zs s in
      at_write j o.next o.stands w (after_back o.next (ending_of o.stands) o.same v) apart
  meets_back (at_params a v) = at_params a (used_live (live_back v m.code all refl))

  pub joined_back : {n k : ℕ} → Joined q n k → Joined m n k
  joined_back (one_way e h) = one_way e (meets_back h)
  joined_back (other_way e h) = other_way e (meets_back h)

  reached_back : {ys : List Instr} → Reached q ys → WasReached m drops ys
  reached_back at_entry = record { rest = m.code; ending = all; same = refl; reached = at_entry }
  reached_back (by_step r (goes t o)) = reached_on m drops q.code (label_is m drops) (handler_is m drops) (reached_back r) t o
  reached_back (by_raise r (raises {l = l} {tries = tries} e h)) =
      reached_aside m drops q.code (label_is m drops) (handler_is m drops) l tries (reached_back r) e h

  pub no_addr_back : walks.NoAddrLive m → walks.NoAddrLive (dropped drops m)
  no_addr_back none =
      record {
        none = λ j zs r frame x is_one addr v.
            let b = reached_back r in
            let w = first_kept m drops b.rest b.ending j zs b.same in
            none.none j w.next (gone_reached m drops w.gone b.reached) frame x (was_register x is_one) addr
            (across_back w.next w.ending w.same v).0;
      }
