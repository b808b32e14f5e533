-- What stands by the times of a code is what stands in it.
use Rattle.std.proofs.Common.{◌≡◌, ◌≢◌, ◌∙◌, ℕ, suc, ◌<◌, ◌≤◌, ◌+◌, Bool, true, false, ◌&&◌, nat_lt, nat_le, ⊎_elim, List, [], ◌∷◌, ◌++◌, length, refl, sym, ap, subst, append_assoc, arith}
use Rattle.std.proofs.lemmas.Bool.{and_parts, and_from, leb-true, le-leb, ltb-true, lt-ltb}
use Rattle.std.proofs.lemmas.List.{length-append}
use Rattle.std.proofs.lemmas.List.Elements.{Contains-get_or}
use Rattle.std.specs.Prelude.{slice_index_or}
use Rattle.std.specs.List.{All, Contains, list_all}
use Rattle.bs_words.specs.declared.types.Comp.{Comp}
use Rattle.bs_words.specs.declared.types.Comp.TheVariants as comp
use Rattle.bs_words.specs.declared.types.Loc.{Loc}
use Rattle.bs_words.specs.declared.types.Loc.TheVariants as loc
use Rattle.bs_words.proofs.Lists.{none_in, first_in, later_in, in_cons}
use Rattle.mach_ir.specs.Placed.{is_straight, AreStraight}
use Rattle.mach_ir.specs.declared.op.Op.TheVariants as op
use Rattle.mach_ir.specs.declared.reg.Reg.{Reg}
use Rattle.mach_ir.specs.declared.mach.Instr.{Instr}
use Rattle.mach_ir.specs.declared.mach.MachOp.{MachOp}
use Rattle.mach_ir.specs.declared.mach.MachOp.TheVariants as mach
use Rattle.cse_repeat_rules.specs.Repeated.{is_operator, allocates, EndsHeldValue, itself, same_place, same_origin, StillStands}
use Rattle.cse_deadcode.specs.declared.events.Event.{Event}
use Rattle.cse_deadcode.specs.declared.events.Event.TheVariants as event
use Rattle.cse_deadcode.specs.Times.{writes, happens, last_time}
use Rattle.cse_deadcode.specs.Repeats.{operands_stand, place_stands, value_stands, result_stands, repeat_stands}
use Rattle.cse_deadcode.proofs.Last.{AreQuiet, quiet_past, past_quiet}
use Rattle.cse_deadcode.proofs.Noting.{number_written, written_number, origin_written, written_origin, colour_written, written_colour, slot_written, written_slot, number_write, origin_write, colour_write, slot_write, unwritten, quiet, ends_run, in_run, keeps_addrs, addrs_kept}
use Rattle.bs_words.proofs.Truths.{not_both}

pub of_each : {A : Type 0} (P : A → Type 0) (xs : List A) (x : A) → All P xs → Contains xs x → P x
of_each P xs x h c = subst P c.2 (h c.0 x c.1)

all_in : {A : Type 0} (test : A → Bool) (xs : List A) → list_all test xs ≡ true → (x : A) → Contains xs x → test x ≡ true
all_in test [] e x c = absurd (none_in x c)
all_in test (y ∷ xs) e x c =
    let p = and_parts (test y) (list_all test xs) e in
    ⊎_elim (λ h. ap test (sym h) ∙ p.0) (λ d. all_in test xs p.1 x d) (in_cons y x xs c)

in_all : {A : Type 0} (test : A → Bool) (xs : List A) → ((x : A) → Contains xs x → test x ≡ true) → list_all test xs ≡ true
in_all test [] h = refl
in_all test (y ∷ xs) h =
    and_from (test y) (list_all test xs) (h y (first_in y xs)) (in_all test xs (λ x c. h x (later_in y x xs c)))

operator_straight : (f : MachOp) → is_operator f ≡ true → is_straight f ≡ true
operator_straight (mach.Op (op.Pure f)) e = refl
operator_straight (mach.Op (op.Access f)) e = absurd (not_both false e refl)
operator_straight (mach.Op (op.Calling f)) e = absurd (not_both false e refl)
operator_straight (mach.Op (op.Leaving f)) e = absurd (not_both false e refl)
operator_straight (mach.Mark f) e = absurd (not_both false e refl)

-- each of these is straight
pub all_straight : (run : List Instr) → ((i : Instr) → Contains run i → is_straight i.op ≡ true) → AreStraight run
all_straight run h = λ k d lt. h (slice_index_or run k d) (Contains-get_or run k d lt)

module _ (made others : List Instr) (j : Instr) (run : List Instr) (r : Reg) (within : made ≡ others ++ j ∷ run) where
  abbrev time : ℕ
  time = suc (length others)

  past : made ≡ (others ++ j ∷ []) ++ run
  past = within ∙ sym (append_assoc others (j ∷ []) run)

  past_length : length (others ++ j ∷ []) ≡ time
  past_length =
      let count : length (others ++ j ∷ []) ≡ length others + 1 = length-append others (j ∷ []) in
      omega (arith, count)

  -- ---- later than the operator

  pub quiet_later : (e : Event) → nat_le (last_time made e) time ≡ true → AreQuiet (happens e) run
  quiet_later e h =
      let le = leb-true (last_time made e) time h in
      let there : last_time ((others ++ j ∷ []) ++ run) e ≤ length (others ++ j ∷ []) =
      subst (λ n. last_time ((others ++ j ∷ []) ++ run) e ≤ n) (sym past_length) (subst (λ code. last_time code e ≤ time) past le) in
      quiet_past (happens e) (others ++ j ∷ []) run there

  pub later_quiet : (e : Event) → AreQuiet (happens e) run → nat_le (last_time made e) time ≡ true
  later_quiet e q =
      let there : last_time ((others ++ j ∷ []) ++ run) e ≤ length (others ++ j ∷ []) =
      past_quiet (happens e) (others ++ j ∷ []) run q in
      le-leb (last_time made e) time
      (subst (λ code. last_time code e ≤ time) (sym past)
      (subst (λ n. last_time ((others ++ j ∷ []) ++ run) e ≤ n) past_length there))

  -- ---- at the operator or later

  below_time : (n : ℕ) → n < time → n ≤ length others
  below_time n lt = omega (arith, lt)

  time_above : (n : ℕ) → n ≤ length others → n < time
  time_above n le = omega (arith, le)

  quiet_since : (e : Event) → nat_lt (last_time made e) time ≡ true → AreQuiet (happens e) (j ∷ run)
  quiet_since e h =
      quiet_past (happens e) others (j ∷ run)
      (subst (λ code. last_time code e ≤ length others) within (below_time (last_time made e) (ltb-true (last_time made e) time h)))

  since_quiet : (e : Event) → AreQuiet (happens e) (j ∷ run) → nat_lt (last_time made e) time ≡ true
  since_quiet e q =
      lt-ltb (last_time made e) time
      (time_above (last_time made e)
      (subst (λ code. last_time code e ≤ length others) (sym within) (past_quiet (happens e) others (j ∷ run) q)))

  -- ---- what stands by the times

  place_kept : (l : Loc) → place_stands (last_time made) time l ≡ true → (i : Instr) → Contains run i → (w : Reg) →
      Contains i.results w → w.loc ≡ l → l ≢ loc.Unset → ⊥
  place_kept loc.Unset e i c w d h free = free refl
  place_kept (loc.Machine k) e i c w d h free =
      unwritten (event.WritesColour k) run (quiet_later (event.WritesColour k) e) i c w d (written_colour k w h)
  place_kept (loc.Slot k) e i c w d h free =
      unwritten (event.WritesSlot k) run (quiet_later (event.WritesSlot k) e) i c w d (written_slot k w h)

  kept_place : (l : Loc) → ((i : Instr) → Contains run i → (w : Reg) → Contains i.results w → w.loc ≡ l → l ≢ loc.Unset → ⊥) →
      place_stands (last_time made) time l ≡ true
  kept_place loc.Unset h = refl
  kept_place (loc.Machine k) h =
      later_quiet (event.WritesColour k)
      (quiet (event.WritesColour k) run (colour_write k) (λ i c w d e. h i c w d (colour_written k w e) (λ e. placed k e)))
    where
      placed : (k : ℕ) → loc.Machine k ≡ loc.Unset → ⊥
      placed k e = cc
  kept_place (loc.Slot k) h =
      later_quiet (event.WritesSlot k)
      (quiet (event.WritesSlot k) run (slot_write k) (λ i c w d e. h i c w d (slot_written k w e) (λ e. placed k e)))
    where
      placed : (k : ℕ) → loc.Slot k ≡ loc.Unset → ⊥
      placed k e = cc

  value_kept : (t : Comp) → value_stands (last_time made) time t ≡ true → t ≡ comp.Addr → (i : Instr) → Contains run i →
      allocates i.op ≡ false
  value_kept comp.Addr e h i c = keeps_addrs i (quiet_later event.Allocates e i c)
  value_kept comp.Int e h i c = absurd (cc)
  value_kept comp.Val e h i c = absurd (cc)
  value_kept comp.Float e h i c = absurd (cc)

  kept_value : (t : Comp) → (t ≡ comp.Addr → (i : Instr) → Contains run i → allocates i.op ≡ false) →
      value_stands (last_time made) time t ≡ true
  kept_value comp.Addr h = later_quiet event.Allocates (λ i c. addrs_kept i (h refl i c))
  kept_value comp.Int h = refl
  kept_value comp.Val h = refl
  kept_value comp.Float h = refl

  -- ---- what is held

  -- what the register held at the time it still holds
  pub record Holds : Type 0 where
    pub stands : (i : Instr) → Contains run i → (w : Reg) → Contains i.results w → EndsHeldValue r w → ⊥
    pub kept : r.comp ≡ comp.Addr → (i : Instr) → Contains run i → allocates i.op ≡ false

  pub still_holds : result_stands (last_time made) time r ≡ true → Holds
  still_holds e =
      let a = and_parts (nat_le (last_time made (event.Writes r.number)) time)
      (nat_le (last_time made (event.WritesOrigin r.origin)) time
      && (place_stands (last_time made) time r.loc && value_stands (last_time made) time r.comp)) e in
      let b = and_parts (nat_le (last_time made (event.WritesOrigin r.origin)) time)
      (place_stands (last_time made) time r.loc && value_stands (last_time made) time r.comp) a.1 in
      let c = and_parts (place_stands (last_time made) time r.loc) (value_stands (last_time made) time r.comp) b.1 in
      record {
        stands = λ i d w f h. by (unwritten (event.Writes r.number) run (quiet_later (event.Writes r.number) a.0) i d w f)
            (unwritten (event.WritesOrigin r.origin) run (quiet_later (event.WritesOrigin r.origin) b.0) i d w f)
            (place_kept r.loc c.0 i d w f) h;
        kept = λ h i d. value_kept r.comp c.1 h i d;
      }
    where
      by : {w : Reg} → (writes (event.Writes r.number) w ≡ true → ⊥) →
          (writes (event.WritesOrigin r.origin) w ≡ true → ⊥) → (w.loc ≡ r.loc → r.loc ≢ loc.Unset → ⊥) → EndsHeldValue r w → ⊥
      by {w = w} number origin place (itself e) = number (written_number r.number w e)
      by {w = w} number origin place (same_place e h) = place e h
      by {w = w} number origin place (same_origin e) = origin (written_origin r.origin w e)

  pub holds_still : ((i : Instr) → Contains run i → (w : Reg) → Contains i.results w → EndsHeldValue r w → ⊥) →
      (r.comp ≡ comp.Addr → (i : Instr) → Contains run i → allocates i.op ≡ false) →
      result_stands (last_time made) time r ≡ true
  holds_still kept addrs =
      and_from (nat_le (last_time made (event.Writes r.number)) time)
      (nat_le (last_time made (event.WritesOrigin r.origin)) time
      && (place_stands (last_time made) time r.loc && value_stands (last_time made) time r.comp))
      (later_quiet (event.Writes r.number)
      (quiet (event.Writes r.number) run (number_write r.number) (λ i c w d e. kept i c w d (itself (number_written r.number w e)))))
      (and_from (nat_le (last_time made (event.WritesOrigin r.origin)) time)
      (place_stands (last_time made) time r.loc && value_stands (last_time made) time r.comp)
      (later_quiet (event.WritesOrigin r.origin)
      (quiet (event.WritesOrigin r.origin) run (origin_write r.origin)
      (λ i c w d e. kept i c w d (same_origin (origin_written r.origin w e)))))
      (and_from (place_stands (last_time made) time r.loc) (value_stands (last_time made) time r.comp)
      (kept_place r.loc (λ i c w d e h. kept i c w d (same_place e h))) (kept_value r.comp addrs)))

  module _ (operates : is_operator j.op ≡ true) where
    pub still_stands : j.results ≡ r ∷ [] → repeat_stands (last_time made) time j.args r ≡ true → StillStands made j r
    still_stands result e =
        let p = and_parts (nat_lt (last_time made event.EndsRun) time)
        (operands_stand (last_time made) time j.args && result_stands (last_time made) time r) e in
        let q = and_parts (operands_stand (last_time made) time j.args) (result_stands (last_time made) time r) p.1 in
        let h = still_holds q.1 in
        record {
          others = others;
          run = run;
          within = within;
          straight = all_straight run
              (λ i d. ends_run i (quiet_since event.EndsRun p.0 i (later_in j i run d)));
          operates = operates;
          result = result;
          operands = λ i d w k f g h.
              unwritten (event.Writes k.number) (j ∷ run)
              (quiet_since (event.Writes k.number)
              (all_in (λ (k : Reg). nat_lt (last_time made (event.Writes k.number)) time) j.args q.0 k g)) i d w f
              (written_number k.number w h);
          stands = h.stands;
          kept = h.kept;
        }

    -- the same from what is known of the operator
    pub stands_still : AreStraight run →
        ((i : Instr) → Contains (j ∷ run) i → (w k : Reg) → Contains i.results w → Contains j.args k → w.number ≢ k.number) →
        ((i : Instr) → Contains run i → (w : Reg) → Contains i.results w → EndsHeldValue r w → ⊥) →
        (r.comp ≡ comp.Addr → (i : Instr) → Contains run i → allocates i.op ≡ false) →
        repeat_stands (last_time made) time j.args r ≡ true
    stands_still straight operands kept addrs =
        and_from (nat_lt (last_time made event.EndsRun) time)
        (operands_stand (last_time made) time j.args && result_stands (last_time made) time r)
        (since_quiet event.EndsRun
        (λ i c.
        in_run i
        (⊎_elim (λ e. ap (λ (i : Instr). is_straight i.op) (sym e) ∙ operator_straight j.op operates)
        (λ d. of_each (λ (i : Instr). is_straight i.op ≡ true) run i straight d) (in_cons j i run c))))
        (and_from (operands_stand (last_time made) time j.args) (result_stands (last_time made) time r)
        (in_all (λ (k : Reg). nat_lt (last_time made (event.Writes k.number)) time) j.args
        (λ k g.
        since_quiet (event.Writes k.number)
        (quiet (event.Writes k.number) (j ∷ run) (number_write k.number)
        (λ i c w d e. operands i c w k d g (number_written k.number w e)))))
        (holds_still kept addrs))
