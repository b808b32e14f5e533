-- Where no addr is live after a frame point, the machine does what the machine that loses nothing does.
use Rattle.std.proofs.Common.{◌≡◌, ℕ, zero, suc, Bool, true, false, cond, ◌⊎◌, inl, inr, ⊎_elim, List, [], ◌∷◌, ◌++◌, Option, Some, None, refl, sym, ap, ◌∙◌, subst}
use Rattle.std.specs.Prelude.{nat_eq, Contains}
use Rattle.std.proofs.lemmas.Bool.{true≢false, eq-eqb, eqb-true}
use Rattle.cmm_types.proofs.Containing.{contains_head, contains_tail}
use Rattle.bs_words.specs.Fits.{fits, type_of_comp}
use Rattle.bs_words.specs.Memory.{Memory}
use Rattle.bs_words.specs.declared.types.Comp.{Comp}
use Rattle.bs_words.specs.declared.types.Comp.TheVariants as comp
use Rattle.bs_words.specs.declared.values.Value.{Value}
use Rattle.cmm_meaning.specs.State.{Doing, Asked}
use Rattle.bs_words.specs.declared.types.Ret.{Ret}
use Rattle.mach_ir.specs.Acts.{falls_through, Around, Target, On, At, Landing, AtLabel, AtHandler, Act, Goes, Pushes, Jumps, Unwinds, Asks, Replaces, Ends, EndsRaising, Stuck}
use Rattle.mach_ir.specs.Runs.{ActivationSetting, Step, Continues, Pays, Deepens, Waits, FinishesBy, Finishes, FinishesRaising, IsStuck, Tally, RunProgress, Running, Asking, Ended, Wrong, paid, came_back, kept_of, handed, run_onward, first_tally, entry_around}
use Rattle.mach_ir.specs.Meaning.{State, File, Held, assign_register, put_if, put_all, clear_registers, killed, killed_by, destroyed_by, values, with_held, is_addr, unless_addr, past_frame, passes_frame, code_at, tries_at, at_handler, landing_code, mach_act, wrote, on_act, on_values, at_code, run_of_mach, begin_mach, mach_start}
use Rattle.mach_ir.specs.Walks.{AmongRegisters, first, later, OneOf, this, other, next_if, targets, may_raise, goes, raises, Reached, at_entry, by_step, by_raise, Writes, Live, read, on, aside, LiveAcross, across_step, across_raise, IsRegister, is_param, is_in_code, StandsAsInstr, NoAddrLive}
use Rattle.mach_ir.specs.declared.mach.Instr.{Instr}
use Rattle.mach_ir.specs.declared.mach.Mach.{Mach}
use Rattle.mach_ir.specs.declared.mach.MachOp.{MachOp}
use Rattle.mach_ir.specs.declared.mach.MachOp.TheVariants as mach
use Rattle.mach_ir.specs.declared.mach.Mark.TheVariants as mark
use Rattle.mach_ir.specs.declared.mach.Test.{Test}
use Rattle.mach_ir.specs.declared.reg.Reg.{Reg}
use Rattle.selection_rules.specs.Kept as kept
use Rattle.mach_laws.specs.Expand.{Ending, all}
use Rattle.mach_laws.proofs.Places.{ending_next, ending_label, stands_of, results_in, ending_land}
use Rattle.mach_laws.proofs.Leads.{IsTry, is_try, MayLand, lands_at_label, lands_at_handler, Within, goes_in, pushes_in, jumps_in, unwinds_in, asks_in, within}

-- ---- two files that agree where it matters

pub data Both (L : ℕ → Type 0) : Option File → Option File → Type 0 where
  both_none : Both L None None
  both_some : {a b : File} → ((n : ℕ) → L n → b n ≡ a n) → Both L (Some a) (Some b)

cond_both : (x : Bool) {A : Type 0} (v p q : A) → (x ≡ false → q ≡ p) → cond x v q ≡ cond x v p
cond_both true v p q e = refl
cond_both false v p q e = e refl

both_put : {L M : ℕ → Type 0} {x y : Option File} (g : Bool) (r : Reg) (v : Value) → ((n : ℕ) → L n → nat_eq r.number n ≡ false → M n) → Both M x y → Both L (put_if g r v x) (put_if g r v y)
both_put true r v weak both_none = both_none
both_put true r v weak (both_some {a = a} {b = b} e) = both_some (λ n l. cond_both (nat_eq r.number n) (Some (record { comp = r.comp; value = v })) (a n) (b n) (λ q. e n (weak n l q)))
both_put false r v weak both_none = both_none
both_put false r v weak (both_some e) = both_none

pub not_first : {n : ℕ} {r : Reg} {rs : List Reg} → nat_eq r.number n ≡ false → (AmongRegisters n rs → ⊥) → AmongRegisters n (r ∷ rs) → ⊥
not_first {n} {r} s free (first q) = true≢false (sym (eq-eqb r.number n q) ∙ s)
not_first s free (later i) = free i

put_both : (end : ℕ) (rs : List Reg) (vs : List Value) {L : ℕ → Type 0} (a b : File) → ((n : ℕ) → L n → (AmongRegisters n rs → ⊥) → b n ≡ a n) → Both L (put_all end rs vs a) (put_all end rs vs b)
put_both end [] [] a b e = both_some (λ n l. e n l (λ i. elim i [ ]))
put_both end [] (v ∷ vs) a b e = both_none
put_both end (r ∷ rs) [] a b e = both_none
put_both end (r ∷ rs) (v ∷ vs) {L} a b e =
    both_put {L = L} {M = λ n. L n × (nat_eq r.number n ≡ false)} (fits end (type_of_comp r.comp) v) r v (λ n l q. (l, q))
    (put_both end rs vs {L = λ n. L n × (nat_eq r.number n ≡ false)} a b (λ n l free. e n l.0 (λ i. not_first l.1 free i)))

values_both : (a b : File) (rs : List Reg) → ((n : ℕ) → AmongRegisters n rs → b n ≡ a n) → values b rs ≡ values a rs
values_both a b [] e = refl
values_both a b (r ∷ rs) e = ap (λ o. with_held o (values b rs)) (e r.number (first refl)) ∙ ap (with_held (a r.number)) (values_both a b rs (λ n i. e n (later i)))

keeps_plain : (o : Option Held) → ((x : Held) → o ≡ Some x → is_addr x.comp ≡ false) → unless_addr o ≡ o
keeps_plain None k = refl
keeps_plain (Some h) k = ap (λ b. cond b None (Some h)) (k h refl)

pub frame_keeps : (pf : Bool) (b : File) (n : ℕ) → ((x : Held) → b n ≡ Some x → pf ≡ true → is_addr x.comp ≡ false) → past_frame pf b n ≡ b n
frame_keeps false b n k = refl
frame_keeps true b n k = keeps_plain (b n) (λ x e. k x e refl)

pub not_addr : (x : Comp) → (x ≡ comp.Addr → ⊥) → is_addr x ≡ false
not_addr comp.Int k = refl
not_addr comp.Val k = refl
not_addr comp.Addr k = absurd (k refl)
not_addr comp.Float k = refl

pub none_not : (x : Held) → None ≡ Some x → ⊥
none_not x e = cc

some_held : (y x : Held) → Some y ≡ Some x → y ≡ x
some_held y x q = cc

-- ---- what writes nothing

-- a mark that is none of a handler
pub data IsBare : MachOp → Type 0 where
  an_exit : {l n : ℕ} → IsBare (mach.Mark (mark.Exit l n))
  an_if : {t : Test} {l : ℕ} → IsBare (mach.Mark (mark.If t l))
  an_else : {l end : ℕ} → IsBare (mach.Mark (mark.Else l end))
  a_switch : {labels : List ℕ} → IsBare (mach.Mark (mark.Switch labels))
  a_case : {indexes : List ℕ} {l end : ℕ} → IsBare (mach.Mark (mark.Case indexes l end))
  a_catch : IsBare (mach.Mark mark.Catch)
  a_with : {l end : ℕ} → IsBare (mach.Mark (mark.With l end))
  a_try : {l : ℕ} → IsBare (mach.Mark (mark.Try l))
  a_leave : {l end : ℕ} → IsBare (mach.Mark (mark.Leave l end))
  an_end : {l : ℕ} → IsBare (mach.Mark (mark.End l))

-- what may go to a label is such a mark
pub bare_at : (f : MachOp) (l : ℕ) → OneOf (At l) (targets f) → IsBare f
bare_at (mach.Op f) l o = absurd (by (falls_through f) o)
  where
    by : (b : Bool) → OneOf (At l) (next_if b) → ⊥
    by true (other o) = elim o [ ]
    by false o = elim o [ ]
bare_at (mach.Mark (mark.Exit k n)) l o = an_exit
bare_at (mach.Mark (mark.If t k)) l o = an_if
bare_at (mach.Mark (mark.Else k end)) l o = an_else
bare_at (mach.Mark (mark.Switch labels)) l o = a_switch
bare_at (mach.Mark (mark.Case indexes k end)) l o = a_case
bare_at (mach.Mark mark.Catch) l o = a_catch
bare_at (mach.Mark (mark.With k end)) l o = a_with
bare_at (mach.Mark (mark.Try k)) l o = a_try
bare_at (mach.Mark (mark.Leave k end)) l o = a_leave
bare_at (mach.Mark (mark.Handler k)) l (other o) = elim o [ ]
bare_at (mach.Mark (mark.End k)) l o = an_end

pub bare_try : {f : MachOp} → IsTry f → IsBare f
bare_try is_try = a_try

pub next_try : {f : MachOp} → IsTry f → OneOf On (targets f)
next_try is_try = this

-- ---- places

module _ (c : ActivationSetting) (m : Mach) where
  -- what this rests on: no addr is live after a frame point, and what jumps or pushes writes nothing
  pub record Steady : Type 0 where
    pub no_addr : NoAddrLive m
    pub bare : (i : Instr) (next : List Instr) → StandsAsInstr i next m.code → IsBare i.op → i.results ≡ []

  -- a register that holds this was written with its component
  pub record Known (n : ℕ) (x : Held) : Type 0 where
    pub reg : Reg
    pub is_register : IsRegister m reg
    pub number : reg.number ≡ n
    pub its_comp : reg.comp ≡ x.comp

  abbrev pub AllKnown : File → Type 0
  AllKnown a = (n : ℕ) (x : Held) → a n ≡ Some x → Known n x

  pub data Stood (rest : List Instr) : Type 0 where
    comes : Reached m rest → Stood rest
    at_end : rest ≡ [] → Stood rest

  -- the first file is that of the machine that loses nothing
  pub record Agree (rest : List Instr) (a b : File) : Type 0 where
    pub ending : Ending rest m.code
    pub reached : Stood rest
    pub agree : (n : ℕ) → Live m n rest → b n ≡ a n
    pub known : AllKnown a

  pub data AgreeStep : Step State → Step State → Type 0 where
    two_walk : {rest : List Instr} {a b : File} {around : Around} → Agree rest a b → AgreeStep (Continues (record { rest = rest; file = a; around = around })) (Continues (record { rest = rest; file = b; around = around }))
    two_leap : {rest : List Instr} {a b : File} {around : Around} → Agree rest a b → AgreeStep (Pays (record { rest = rest; file = a; around = around })) (Pays (record { rest = rest; file = b; around = around }))
    two_deep : {bytes : ℕ} {rest : List Instr} {a b : File} {around : Around} → Agree rest a b →
        AgreeStep (Deepens bytes (record { rest = rest; file = a; around = around })) (Deepens bytes (record { rest = rest; file = b; around = around }))
    two_wait : {call : Asked} {x y : Doing → Step State} → ((d : Doing) → AgreeStep (x d) (y d)) → AgreeStep (Waits call x) (Waits call y)
    two_place : {call : Asked} {kept : Ret} → AgreeStep (FinishesBy call kept) (FinishesBy call kept)
    two_over : {d : Doing} → AgreeStep (Finishes d) (Finishes d)
    two_raise : {d : Doing} → AgreeStep (FinishesRaising d) (FinishesRaising d)
    two_halt : AgreeStep IsStuck IsStuck

  among_append : {n : ℕ} (xs : List Reg) {ys : List Reg} → AmongRegisters n (xs ++ ys) → AmongRegisters n xs ⊎ AmongRegisters n ys
  among_append [] a = inr a
  among_append (x ∷ xs) (first e) = inl (first e)
  among_append (x ∷ xs) (later a) = ⊎_elim (λ z. inl (later z)) (λ z. inr z) (among_append xs a)

  pub free_both : {n : ℕ} (i : Instr) → (AmongRegisters n i.results → ⊥) → (AmongRegisters n (killed m i) → ⊥) → Writes m i n → ⊥
  free_both i x y ws = ⊎_elim x y (among_append i.results ws)

  pub live_in : (n : ℕ) (i : Instr) (next : List Instr) → LiveAcross m n i next → Live m n (i ∷ next)
  live_in n i next (across_step free l w) = on free l w
  live_in n i next (across_raise r w) = aside r w

  -- ---- what stays known

  pub clear_known : (ks : List Reg) (a : File) → AllKnown a → AllKnown (clear_registers ks a)
  clear_known [] a k n x e = k n x e
  clear_known (q ∷ ks) a k n x e = by (nat_eq q.number n) (clear_known ks a k n x) e
    where
      by : (b : Bool) → (clear_registers ks a n ≡ Some x → Known n x) → cond b None (clear_registers ks a n) ≡ Some x → Known n x
      by true others e = absurd (none_not x e)
      by false others e = others e

  put_known : (r : Reg) (v : Value) (a : File) → IsRegister m r → AllKnown a → AllKnown (assign_register r v a)
  put_known r v a is k n x e = by (nat_eq r.number n) refl e
    where
      by : (b : Bool) → nat_eq r.number n ≡ b → cond b (Some (record { comp = r.comp; value = v })) (a n) ≡ Some x → Known n x
      by true s e = record { reg = r; is_register = is; number = eqb-true r.number n s; its_comp = ap (λ (y : Held). y.comp) (some_held (record { comp = r.comp; value = v }) x e) }
      by false s e = k n x e

  pub data KnownFile : Option File → Type 0 where
    no_file : KnownFile None
    a_file : {a : File} → AllKnown a → KnownFile (Some a)

  put_if_known : (b : Bool) (r : Reg) (v : Value) {o : Option File} → IsRegister m r → KnownFile o → KnownFile (put_if b r v o)
  put_if_known true r v is no_file = no_file
  put_if_known true r v is (a_file {a = a} k) = a_file (put_known r v a is k)
  put_if_known false r v is no_file = no_file
  put_if_known false r v is (a_file k) = no_file

  pub put_all_known : (end : ℕ) (rs : List Reg) (vs : List Value) (a : File) → ((r : Reg) → Contains rs r → IsRegister m r) → AllKnown a → KnownFile (put_all end rs vs a)
  put_all_known end [] [] a is k = a_file k
  put_all_known end [] (v ∷ vs) a is k = no_file
  put_all_known end (r ∷ rs) [] a is k = no_file
  put_all_known end (r ∷ rs) (v ∷ vs) a is k = put_if_known (fits end (type_of_comp r.comp) v) r v (is r (contains_head r rs)) (put_all_known end rs vs a (λ q x. is q (contains_tail r rs q x)) k)

  pub known_of : {o : Option File} {a : File} → KnownFile o → o ≡ Some a → AllKnown a
  known_of {a = a} no_file e = absurd (none_file a e)
    where
      none_file : (a : File) → None ≡ Some a → ⊥
      none_file a e = cc
  known_of {a = a} (a_file {a = b} k) e = subst (λ z. AllKnown z) (some_file b a e) k
    where
      some_file : (x y : File) → Some x ≡ Some y → x ≡ y
      some_file x y e = cc

  -- such a mark writes nothing, and no colour is destroyed by it
  pub bare_free : Steady → {i : Instr} {next : List Instr} → StandsAsInstr i next m.code → IsBare i.op → (n : ℕ) → Writes m i n → ⊥
  bare_free steady {i} {next} stands is n w = none_killed i.op is (subst (λ rs. AmongRegisters n (rs ++ killed m i)) (steady.bare i next stands is) w)
    where
      none_killed : (f : MachOp) → IsBare f → AmongRegisters n (killed_by m.colours (destroyed_by f) i.results) → ⊥
      none_killed (mach.Op f) z w = elim z [ ]
      none_killed (mach.Mark (mark.Handler l)) z w = elim z [ ]
      none_killed (mach.Mark (mark.Exit l k)) z w = elim w [ ]
      none_killed (mach.Mark (mark.If t l)) z w = elim w [ ]
      none_killed (mach.Mark (mark.Else l end)) z w = elim w [ ]
      none_killed (mach.Mark (mark.Switch labels)) z w = elim w [ ]
      none_killed (mach.Mark (mark.Case indexes l end)) z w = elim w [ ]
      none_killed (mach.Mark mark.Catch) z w = elim w [ ]
      none_killed (mach.Mark (mark.With l end)) z w = elim w [ ]
      none_killed (mach.Mark (mark.Try l)) z w = elim w [ ]
      none_killed (mach.Mark (mark.Leave l end)) z w = elim w [ ]
      none_killed (mach.Mark (mark.End l)) z w = elim w [ ]

  module _ (steady : Steady) (i : Instr) (next : List Instr) (a b : File) (rel : Agree (i ∷ next) a b) where
    abbrev b' : File
    b' = past_frame (passes_frame i.op) b

    reached_here : Reached m (i ∷ next)
    reached_here = by rel.reached
      where
        not_end : i ∷ next ≡ [] → ⊥
        not_end e = cc

        by : Stood (i ∷ next) → Reached m (i ∷ next)
        by (comes r) = r
        by (at_end e) = absurd (not_end e)

    stays : (n : ℕ) → LiveAcross m n i next → b' n ≡ a n
    stays n v =
        let same : b n ≡ a n = rel.agree n (live_in n i next v) in
        frame_keeps (passes_frame i.op) b n (λ x e pf. plain x (rel.known n x (sym same ∙ e)) pf) ∙ same
      where
        plain : (x : Held) → Known n x → passes_frame i.op ≡ true → is_addr x.comp ≡ false
        plain x k pf =
            let none' = steady.no_addr in
            not_addr x.comp (λ e. none'.none i next reached_here pf k.reg k.is_register (k.its_comp ∙ e) (subst (λ q. LiveAcross m q i next) (sym k.number) v))

    ending_at : (t : Target) → Ending (code_at m.code next t) m.code
    ending_at On = ending_next rel.ending
    ending_at (At l) = ending_label l m.code

    -- a register that is killed holds nothing in both
    cleared : (n : ℕ) (ks : List Reg) → ((AmongRegisters n ks → ⊥) → b' n ≡ a n) → clear_registers ks b' n ≡ clear_registers ks a n
    cleared n [] e = e (λ i. elim i [ ])
    cleared n (k ∷ ks) e = by (nat_eq k.number n) refl (λ q. cleared n ks (λ free. e (λ i. not_first q free i)))
      where
        by : (x : Bool) → nat_eq k.number n ≡ x → (nat_eq k.number n ≡ false → clear_registers ks b' n ≡ clear_registers ks a n) → cond x None (clear_registers ks b' n) ≡ cond x None (clear_registers ks a n)
        by true q more' = refl
        by false q more' = more' q

    results_known : (r : Reg) → Contains i.results r → IsRegister m r
    results_known r x = is_in_code (results_in (stands_of rel.ending) x)

    put_agree : (vs : List Value) (t : Target) (after : Around) → OneOf t (targets i.op) →
        AgreeStep (wrote (code_at m.code next t) after (put_all c.setting.end i.results vs (clear_registers (killed m i) a))) (wrote (code_at m.code next t) after (put_all c.setting.end i.results vs (clear_registers (killed m i) b')))
    put_agree vs t after o =
        by (put_all c.setting.end i.results vs (clear_registers (killed m i) a)) (put_all c.setting.end i.results vs (clear_registers (killed m i) b')) refl
        (put_both c.setting.end i.results vs {L = λ n. Live m n (code_at m.code next t)} (clear_registers (killed m i) a) (clear_registers (killed m i) b')
        (λ n w free. cleared n (killed m i) (λ unkilled. stays n (across_step (free_both i free unkilled) (goes t o) w))))
      where
        by : (x y : Option File) → put_all c.setting.end i.results vs (clear_registers (killed m i) a) ≡ x → Both (λ n. Live m n (code_at m.code next t)) x y →
            AgreeStep (wrote (code_at m.code next t) after x) (wrote (code_at m.code next t) after y)
        by x y e both_none = two_halt
        by x y e (both_some {a = d} q) =
            two_walk (record {
              ending = ending_at t;
              reached = comes (by_step reached_here (goes t o));
              agree = q;
              known = known_of (put_all_known c.setting.end i.results vs (clear_registers (killed m i) a) results_known (clear_known (killed m i) a rel.known)) e;
            })

    land_agree : (to : Landing) → MayLand i.op to → Agree (landing_code m.code (i ∷ next) to) a b'
    land_agree to l = record { ending = ending_land to (i ∷ next) m.code; reached = comes_to to l; agree = λ n v. stays n (by to l n v); known = rel.known }
      where
        caught : (ts : List ℕ) → tries_at (i ∷ next) ≡ ts → may_raise i.op ≡ true → (n : ℕ) → Live m n (at_handler m.code ts) → LiveAcross m n i next
        caught [] e r n v = elim v [ ]
        caught (l ∷ ts) e r n v = across_raise (raises r e) v

        caught_at : (ts : List ℕ) → tries_at (i ∷ next) ≡ ts → may_raise i.op ≡ true → Stood (at_handler m.code ts)
        caught_at [] e r = at_end refl
        caught_at (l ∷ ts) e r = comes (by_raise reached_here (raises r e))

        comes_to : (to : Landing) → MayLand i.op to → Stood (landing_code m.code (i ∷ next) to)
        comes_to (AtLabel l) (lands_at_label o) = comes (by_step reached_here (goes (At l) o))
        comes_to AtHandler (lands_at_handler r) = caught_at (tries_at (i ∷ next)) refl r

        by : (to : Landing) → MayLand i.op to → (n : ℕ) → Live m n (landing_code m.code (i ∷ next) to) → LiveAcross m n i next
        by (AtLabel l) (lands_at_label o) n v = across_step (bare_free steady (stands_of rel.ending) (bare_at i.op l o) n) (goes (At l) o) v
        by AtHandler (lands_at_handler r) n v = caught (tries_at (i ∷ next)) refl r n v

    try_agree : IsTry i.op → Agree next a b'
    try_agree z =
        let o = next_try z in
        record { ending = ending_next rel.ending; reached = comes (by_step reached_here (goes On o)); agree = λ n v. stays n (across_step (bare_free steady (stands_of rel.ending) (bare_try z) n) (goes On o) v); known = rel.known }

    act_agree : (around : Around) (x : Act) → Within i.op x → AgreeStep (on_act c m i next a around x) (on_act c m i next b' around x)
    act_agree around (Goes vs to after) (goes_in o) = put_agree vs to after o
    act_agree around (Jumps to after) (jumps_in l) = two_leap (land_agree to l)
    act_agree around (Unwinds after) (unwinds_in r) = two_walk (land_agree AtHandler (lands_at_handler r))
    act_agree around (Pushes after) (pushes_in z) = two_deep (try_agree z)
    act_agree around (Asks whom vs go) (asks_in g) = two_wait (λ d. act_agree around (go d) (g d))
    act_agree around (Replaces whom vs kept) l = two_place
    act_agree around (Ends d) l = two_over
    act_agree around (EndsRaising d) l = two_raise
    act_agree around Stuck l = two_halt

    instr_agree : (around : Around) (o : Option (List Value)) → AgreeStep (kept.on_lossless_values c m i next a around o) (on_values c m i next b around o)
    instr_agree around None = two_halt
    instr_agree around (Some vs) = act_agree around (mach_act c.setting i.op vs around) (within c.setting i.op vs around)

  step_agree : Steady → (rest : List Instr) (a b : File) (around : Around) → Agree rest a b → AgreeStep (kept.at_lossless_code c m rest a around) (at_code c m rest b around)
  step_agree steady [] a b around rel = two_halt
  step_agree steady (i ∷ next) a b around rel =
      subst (λ o. AgreeStep (kept.on_lossless_values c m i next a around (values a i.args)) (on_values c m i next b around o)) (sym (values_both a b i.args (λ n z. rel.agree n (read z))))
      (instr_agree steady i next a b rel around (values a i.args))

  -- ---- runs

  -- the same is said of both
  pub data Twin : RunProgress State → RunProgress State → Type 0 where
    both_running : {s u : State} {t : Tally} → s.around ≡ u.around → Twin (Running s t) (Running u t)
    both_asking : {call : Asked} {t : Tally} → Twin (Asking call t) (Asking call t)
    both_ended : {d : Doing} {t : Tally} → Twin (Ended d t) (Ended d t)
    both_wrong : Twin Wrong Wrong

  abbrev Runs : ℕ → Type 0
  Runs k = (rest : List Instr) (a b : File) (around : Around) (t : Tally) → Agree rest a b → Twin (kept.run_of_selected c m k (record { rest = rest; file = a; around = around }) t) (run_of_mach c m k (record { rest = rest; file = b; around = around }) t)

  handed_runs : (k : ℕ) (call : Asked) (x y : Doing → Step State) (ds : List Doing) (t : Tally) → ((d : Doing) (t : Tally) → Twin (run_onward (kept.run_of_selected c m k) (x d) t) (run_onward (run_of_mach c m k) (y d) t)) →
      Twin (handed (λ d t. run_onward (kept.run_of_selected c m k) (x d) t) call ds t) (handed (λ d t. run_onward (run_of_mach c m k) (y d) t) call ds t)
  handed_runs k call x y [] t more' = both_asking
  handed_runs k call x y (d ∷ ds) t more' = more' d (came_back call ds t)

  placed_runs : (call : Asked) (kept : Ret) (ds : List Doing) (t : Tally) → Twin (handed (λ d t. Ended (kept_of kept d) t) call ds t) (handed (λ d t. Ended (kept_of kept d) t) call ds t)
  placed_runs call kept [] t = both_asking
  placed_runs call kept (d ∷ ds) t = both_ended

  step_runs : (k : ℕ) → Runs k → {x y : Step State} → AgreeStep x y → (t : Tally) → Twin (run_onward (kept.run_of_selected c m k) x t) (run_onward (run_of_mach c m k) y t)
  step_runs k ih (two_walk rel) t = ih _ _ _ _ t rel
  step_runs k ih (two_leap rel) t = ih _ _ _ _ (paid t) rel
  step_runs k ih (two_deep rel) t = ih _ _ _ _ _ rel
  step_runs k ih (two_wait {call = call} {x = x} {y = y} g) t = handed_runs k call x y t.doings t (λ d t. step_runs k ih (g d) t)
  step_runs k ih (two_place {call = call} {kept = kept}) t = placed_runs call kept t.doings t
  step_runs k ih two_over t = both_ended
  step_runs k ih two_raise t = both_ended
  step_runs k ih two_halt t = both_wrong

  runs_agree : Steady → (k : ℕ) → Runs k
  runs_agree steady zero = λ rest a b around t rel. both_running refl
  runs_agree steady (suc k) = λ rest a b around t rel. step_runs k (runs_agree steady k) (step_agree steady rest a b around rel) t

  start_agree : (arguments : List Value) (memory : Memory) (s : State) → mach_start c m arguments memory ≡ Some s → Agree s.rest s.file s.file
  start_agree arguments memory s is = by (put_all c.setting.end m.params arguments (λ n. None)) refl is
    where
      no_state : (s : State) → None ≡ Some s → ⊥
      no_state s e = cc

      some_state : (x y : State) → Some x ≡ Some y → x ≡ y
      some_state x y e = cc

      by : (o : Option File) → put_all c.setting.end m.params arguments (λ n. None) ≡ o → begin_mach m memory o ≡ Some s → Agree s.rest s.file s.file
      by None e b = absurd (no_state s b)
      by (Some a) e b =
          subst (λ (x : State). Agree x.rest x.file x.file)
          (some_state (record { rest = m.code; file = a; around = entry_around memory }) s b)
          (record {
            ending = all;
            reached = comes at_entry;
            agree = λ n v. refl;
            known = known_of (put_all_known c.setting.end m.params arguments (λ n. None) (λ r x. is_param x) (λ n x q. absurd (none_not x q))) e;
          })

  -- each run is that of the machine that loses nothing
  pub losing : Steady → (arguments : List Value) (memory : Memory) (doings : List Doing) (s : State) → mach_start c m arguments memory ≡ Some s → (n : ℕ) →
      Twin (kept.run_of_selected c m n s (first_tally c doings)) (run_of_mach c m n s (first_tally c doings))
  losing steady arguments memory doings s is n = runs_agree steady n s.rest s.file s.file s.around (first_tally c doings) (start_agree arguments memory s is)
