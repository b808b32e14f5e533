-- A function whose constants are made at the entry does what it did: the registers of those hold them from there on, and
-- every other one holds the same.
use Rattle.std.proofs.Common.{◌≡◌, ℕ, Bool, true, false, cond, inl, inr, ◌⊎◌, ⊎_elim, List, [], ◌∷◌, length, Option, Some, None, refl, sym, ap, ◌∙◌, subst}
use Rattle.std.proofs.lemmas.Bool.{cases_Bool, eqb-true, eq-eqb, both_ways}
use Rattle.std.specs.Prelude.{nat_eq}
use Rattle.std.proofs.lemmas.Option.{none-some, same_Some}
use Rattle.std.proofs.lemmas.List.Elements.{All-contains}
use Rattle.bs_words.specs.Memory.{Memory}
use Rattle.bs_words.specs.declared.values.Value.{Value}
use Rattle.bs_words.specs.declared.values.Value.TheVariants as value
use Rattle.bs_words.proofs.Lists.{head_same, tail_same}
use Rattle.cmm_meaning.specs.State.{Doing}
use Rattle.mach_ir.specs.Acts.{Around, Target, On, At, Landing, Goes, Stuck}
use Rattle.mach_ir.specs.Formed.{IsFormedInstruction, WellFormed}
use Rattle.mach_ir.specs.Runs.{ActivationSetting, entry_around}
use Rattle.mach_ir.specs.Meaning.{Held, State, File, unless_addr, with_held, assign_register, put_all, clear_registers, killed, registers_written, values, past_frame, passes_frame, mach_act, after_label, landing_code, mach_start}
use Rattle.mach_ir.specs.Walks.{AmongRegisters, OneOf, targets, IsRegister, Live, LiveAcross}
use Rattle.mach_ir.specs.Keeps.{ValsWritten, wrote_unless, Begins, MachSimulation}
use Rattle.mach_ir.specs.declared.reg.Reg.{Reg}
use Rattle.mach_ir.specs.declared.mach.Instr.{Instr}
use Rattle.mach_ir.specs.declared.mach.Mach.{Mach}
use Rattle.mach_laws.specs.Expand.{Ending, expand}
use Rattle.mach_laws.proofs.General as general
use Rattle.mach_laws.proofs.General.{at}
use Rattle.mach_laws.proofs.Leads.{MayLand}
use Rattle.mach_laws.proofs.Level as level
use Rattle.mach_laws.proofs.Places.{ending_next, ending_label, ending_land, stands_of, land_expand, contains_of}
use Rattle.mach_laws.proofs.Simulate.{Agrees}
use Rattle.mach_laws.proofs.Among.{left_among, right_among, among_or_not}
use Rattle.mach_laws.proofs.Files.{put_other}
use Rattle.mach_laws.proofs.Raised.{IsSilent, told}
use Rattle.colouring_rules.proofs.Files.{past_same, cleared, not_cleared, put_here, PutsBoth, put_both}
use Rattle.deadcode_rules.specs.Dropped.{may_go, unless_dropped}
use Rattle.deadcode_rules.proofs.Left.{tries_here, label_is}
use Rattle.deadcode_rules.proofs.Text.{pure_of, pure_no_frame, Fate, falls, remains, fate, keeps_marks}
use Rattle.hoist_rules.specs.Hoisted.{MayMove, hoisted, MayAllMove}
use Rattle.hoist_rules.proofs.Moved as at_entry_of
use Rattle.hoist_rules.proofs.Live as live
use Rattle.hoist_rules.proofs.Entry as entry
use Rattle.hoist_rules.proofs.Entry.{puts_one, never_addr}

-- what one file gives, another that holds no less gives too
values_more : (a b : File) (rs : List Reg) → ((n : ℕ) → (a n ≡ b n) ⊎ (a n ≡ None)) → (vs : List Value) →
    values a rs ≡ Some vs → values b rs ≡ Some vs
values_more a b [] h vs e = e
values_more a b (r ∷ rs) h vs e = by (h r.number) (values a rs) refl e (λ us e. values_more a b rs h us e)
  where
    not_none : (o : Option (List Value)) → with_held None o ≡ Some vs → ⊥
    not_none o e = cc

    no_rest : (o : Option Held) → with_held o None ≡ Some vs → ⊥
    no_rest None e = cc
    no_rest (Some x) e = cc

    by : (a r.number ≡ b r.number) ⊎ (a r.number ≡ None) → (o : Option (List Value)) → values a rs ≡ o →
        with_held (a r.number) (values a rs) ≡ Some vs →
        ((us : List Value) → values a rs ≡ Some us → values b rs ≡ Some us) →
        with_held (b r.number) (values b rs) ≡ Some vs
    by (inr z) o t e again =
        absurd (not_none (values a rs) (ap (λ h. with_held h (values a rs)) (sym z) ∙ e))
    by (inl z) None t e again = absurd (no_rest (a r.number) (ap (with_held (a r.number)) (sym t) ∙ e))
    by (inl z) (Some us) t e again =
        ap (λ h. with_held h (values b rs)) (sym z)
        ∙ ap (with_held (a r.number)) (again us t ∙ sym t) ∙ e

module _ (m : Mach) (moves : ℕ → Bool) (may : MayAllMove m moves) (formed : WellFormed m) where
  abbrev q : Mach
  q = hoisted moves m

  abbrev rest_of : Mach
  rest_of = at_entry_of.rest_of m moves may

  abbrev f : ℕ → Instr → List Instr
  f = unless_dropped moves

  abbrev IsMade : ℕ → Type 0
  IsMade = entry.IsMade m moves may

  abbrev held : {n : ℕ} → IsMade n → Held
  held = entry.held m moves may

  -- The second holds the constants, and all that the first does.
  record Same (a b : File) : Type 0 where
    each : (n : ℕ) → (a n ≡ b n) ⊎ ((a n ≡ None) × IsMade n)
    made : (n : ℕ) (h : IsMade n) → b n ≡ Some (held h)

  same_free : {a b : File} → Same a b → (n : ℕ) → (IsMade n → ⊥) → a n ≡ b n
  same_free s n free = ⊎_elim (λ e. e) (λ z. absurd (free z.1)) (s.each n)

  past_none : (t : Bool) (a : File) (n : ℕ) → a n ≡ None → past_frame t a n ≡ None
  past_none false a n e = e
  past_none true a n e = ap unless_addr e

  past_held : (t : Bool) (b : File) (n : ℕ) (h : IsMade n) → b n ≡ Some (held h) → past_frame t b n ≡ Some (held h)
  past_held false b n h e = e
  past_held true b n h e =
      ap unless_addr e
      ∙ ap (λ b. cond b None (Some (held h))) (never_addr (at_entry_of.move_of m moves may h).fits)

  past_kept : (t : Bool) {a b : File} → Same a b → Same (past_frame t a) (past_frame t b)
  past_kept t {a} {b} s =
      record {
        each = λ n. ⊎_elim (λ e. inl (past_same t a b n n e)) (λ z. inr (past_none t a n z.0, z.1)) (s.each n);
        made = λ n h. past_held t b n h (s.made n h);
      }

  -- ---- where registers of one origin agree

  agrees_by : (rest : List Instr) → Ending rest m.code → (a b : File) (y : Around) (ws : List Reg) → Same a b →
      Agrees m ws (at rest a y) → Agrees rest_of ws (at (expand f rest) b y)
  agrees_by rest ending a b y ws same known =
      record {
        agree = λ r k i j origin l e u v s t.
            by r k (live.rest_register m moves may r i) (live.rest_register m moves may k j) origin l e u v s t
            (at_entry_of.made_or_not m moves may r.number) (at_entry_of.made_or_not m moves may k.number);
      }
    where
      Here : Reg → Type 0
      Here r = Live rest_of r.number (expand f rest) ⊎ AmongRegisters r.number (wrote_unless y.raised ws)

      was : (r : Reg) → (IsMade r.number → ⊥) → Here r → Live m r.number rest ⊎ AmongRegisters r.number (wrote_unless y.raised ws)
      was r free l = ⊎_elim (λ v. inl (live.live_back m moves may v free rest ending refl)) inr l

      by : (r k : Reg) → IsRegister m r → IsRegister m k → r.origin ≡ k.origin → Here r → Here k → (u v : Held) →
          b r.number ≡ Some u → b k.number ≡ Some v → IsMade r.number ⊎ (IsMade r.number → ⊥) →
          IsMade k.number ⊎ (IsMade k.number → ⊥) → u.value ≡ v.value
      by r k i j origin l e u v s t (inl h) z =
          entry.same_value m moves may formed b (entry.same_origin m moves may formed r k i j origin h) s t
      by r k i j origin l e u v s t (inr z) (inl h) =
          sym (entry.same_value m moves may formed b (entry.same_origin m moves may formed k r j i (sym origin) h) t s)
      by r k i j origin l e u v s t (inr x) (inr z) =
          known.agree r k i j origin (was r x l) (was k z e) u v (same_free same r.number x ∙ s)
          (same_free same k.number z ∙ t)

  -- ---- values that are read

  vals_before : (i : Instr) (next : List Instr) (a b : File) (y : Around) → Ending (i ∷ next) m.code → Same a b →
      ValsWritten m (at (i ∷ next) a y) → ValsWritten rest_of (at (i ∷ expand f next) b y)
  vals_before i next a b y ending same known =
      record {
        written = λ j ys e frame r one val v none.
            let head = head_same e in
            ⊎_elim (λ h. none-some _ (sym none ∙ same.made r.number h))
            (λ free.
            known.written i next refl (subst (λ (j : Instr). passes_frame j.op ≡ true) (sym head) frame) r
            (live.rest_register m moves may r one) val
            (live.across_back m moves may next free ending (sym (tail_same e))
            (subst (λ (j : Instr). LiveAcross rest_of r.number j ys) (sym head) v))
            (same_free same r.number free ∙ none))
            (at_entry_of.made_or_not m moves may r.number);
      }

  -- the relation does not depend on the place
  abbrev Rel : List Instr → File → File → Type 0
  Rel rest a b = Same a b

  -- ---- each instruction

  module _ (c : ActivationSetting) (Suit : Around → Around → Type 0) (i : Instr) (next : List Instr) (a b : File)
      (ending : Ending (i ∷ next) m.code) (same : Same a b) where
    abbrev Round : List Instr → Around → Around → File → File → Type 0
    Round = level.Level c m rest_of f (keeps_marks moves) refl Rel

    abbrev a' : File
    a' = past_frame (passes_frame i.op) a

    abbrev b' : File
    b' = past_frame (passes_frame i.op) b

    past : Same a' b'
    past = past_kept (passes_frame i.op) same

    abbrev Puts : List Value → File → Type 0
    Puts vs d = PutsBoth c.setting.end i.results vs (clear_registers (killed m i) a') (clear_registers (killed m i) b') d

    after_same : (may_go i.op ≡ true → moves (length next) ≡ false) → (vs : List Value) (d : File) (p : Puts vs d) → Same d p.file
    after_same kept vs d p = record { each = each_by; made = made_by }
      where
        each_by : (n : ℕ) → (d n ≡ p.file n) ⊎ ((d n ≡ None) × IsMade n)
        each_by n =
            ⊎_elim (λ z. inl (p.same n z))
            (λ free.
            ⊎_elim
            (λ z.
            inl
            (p.others n free ∙ cleared (killed m i) a' n z ∙ sym (p.others_new n free ∙ cleared (killed m i) b' n z)))
            (λ h.
            ⊎_elim
            (λ e.
            inl
            (p.others n free ∙ not_cleared (killed m i) a' n h ∙ e
            ∙ sym (p.others_new n free ∙ not_cleared (killed m i) b' n h)))
            (λ z. inr (p.others n free ∙ not_cleared (killed m i) a' n h ∙ z.0, z.1)) (past.each n))
            (among_or_not n (killed m i)))
            (among_or_not n i.results)

        made_by : (n : ℕ) (h : IsMade n) → p.file n ≡ Some (held h)
        made_by n h =
            let no = at_entry_of.left_writes_none m moves may i next (stands_of ending) kept h in
            p.others_new n (λ z. no (left_among i.results (killed m i) z))
            ∙ not_cleared (killed m i) b' n (λ z. no (right_among i.results (killed m i) z))
            ∙ past.made n h

    module _ (kept : may_go i.op ≡ true → moves (length next) ≡ false) where
      past_to : (vs : List Value) (d : File) (p : Puts vs d) (y : Around) (t : Target) → OneOf t (targets i.op) →
          general.Past c m rest_of f (keeps_marks moves) refl Suit Round i i next [] y y d p.file t
      past_to vs d p y On o =
          let s = after_same kept vs d p in
          general.on (λ w. agrees_by next (ending_next ending) d p.file y (registers_written m i) s w) general.passed (λ w. (refl, s))
      past_to vs d p y (At l) o =
          let s = after_same kept vs d p in
          general.elsewhere refl
          (λ w. (
            (refl, s),
            subst (λ code. Agrees rest_of (registers_written m i) (at code p.file y)) (sym (label_is m moves l))
                (agrees_by (after_label l m.code) (ending_label l m.code) d p.file y (registers_written m i) s w),
          ))

      lands : (to : Landing) → MayLand i.op to → (y : Around) →
          general.Lands c m rest_of f (keeps_marks moves) refl Suit Round i i next [] to y y a' b'
      lands to l y w = (
        (refl, past),
        subst (λ code. Agrees rest_of (registers_written m i) (at code b' y))
            (sym (land_expand f (keeps_marks moves) m.code (i ∷ next) (i ∷ expand f next) to (tries_here moves i next refl)))
            (agrees_by (landing_code m.code (i ∷ next) to) (ending_land to (i ∷ next) m.code) a' b' y (registers_written m i) past w),
      )

      same_operation : level.SameOperation c m rest_of f (keeps_marks moves) refl Suit Rel (IsSilent m i) i i next [] a' b'
      same_operation =
          record {
            goes = λ vs d e.
                let p = put_both c.setting.end i.results vs (clear_registers (killed m i) a') (clear_registers (killed m i) b') d e in
                (p.file, p.puts, λ y to o. past_to vs d p y to o);
            lands = λ y to l s. lands to l y;
            tries = tries_here moves i next refl;
            pushes = λ t. (refl, λ y w. ((refl, past), agrees_by next (ending_next ending) a' b' y (registers_written m i) past w));
          }

      -- an instruction that is left
      left_there : (y : Around) (vs : List Value) → values a i.args ≡ Some vs → f (length next) i ≡ i ∷ [] →
          general.Replaces c m rest_of f (keeps_marks moves) refl Suit Round i next y y a b vs
      left_there y vs e shape =
          level.replaces c m rest_of f (keeps_marks moves) refl Suit Rel y
          (record {
            pre = [];
            main = i;
            post = [];
            shape = shape;
            same_op = refl;
            between = b;
            passing = general.passed;
            vals = λ known. vals_before i next a b y ending same known;
            reads = values_more a b i.args (λ n. ⊎_elim inl (λ z. inr z.0) (same.each n)) vs e;
            told = told m (All-contains IsFormedInstruction m.code i formed.instrs (contains_of (stands_of ending))) c.setting vs y;
            same = same_operation;
          })

    -- one that has moved
    moved_away : (y : Around) (vs : List Value) → f (length next) i ≡ [] → moves (length next) ≡ true →
        general.StandsFor c m rest_of f (keeps_marks moves) refl Suit Round i next y y a b vs
    moved_away y vs shape h = record { code = []; shape = shape; skips = by vs }
      where
        v : MayMove m i next
        v = may i next (stands_of ending) h

        r : Reg
        r = (may i next (stands_of ending) h).register

        w : Value
        w = value.Word (may i next (stands_of ending) h).word

        g : File
        g = clear_registers (killed m i) a'

        made_one : (n : ℕ) → r.number ≡ n → IsMade n
        made_one n e = entry.made_by_it m moves may (stands_of ending) h v e

        unmoved : (n : ℕ) → g n ≡ a n
        unmoved n =
            not_cleared (killed m i) a' n (at_entry_of.none_killed m moves may n v)
            ∙ ap (λ t. past_frame t a n) (pure_no_frame (pure_of i.op (at_entry_of.may_go_so m moves may v)))

        put_there : (d : File) → put_all c.setting.end i.results (w ∷ []) g ≡ Some d → assign_register r w g ≡ d
        put_there d e =
            same_Some _ _ (sym (puts_one c.setting.end r v.word g v.fits)
            ∙ ap (λ (j : Instr). put_all c.setting.end j.results (w ∷ []) g) (sym v.is) ∙ e)

        still : (d : File) → assign_register r w g ≡ d → Same d b
        still d e =
            record {
              each = λ n.
                  ⊎_elim
                  (λ t.
                  let k = eqb-true r.number n t in
                  inl (ap (λ (x : File). x n) (sym e) ∙ put_here r w g n k ∙ sym (same.made n (made_one n k))))
                  (λ t.
                  let k : d n ≡ a n =
                  ap (λ (x : File). x n) (sym e)
                  ∙ put_other r w g n (λ k. both_ways (nat_eq r.number n) t (eq-eqb r.number n k)) ∙ unmoved n in
                  ⊎_elim (λ z. inl (k ∙ z)) (λ z. inr (k ∙ z.0, z.1)) (same.each n))
                  (cases_Bool (nat_eq r.number n));
              made = same.made;
            }

        by : (vs : List Value) → (mach_act c.setting i.op vs y ≡ Stuck)
            ⊎ ((results : List Value) × (after : Around) × (mach_act c.setting i.op vs y ≡ Goes results On after)
            × ((d : File) → put_all c.setting.end i.results results (clear_registers (killed m i) a') ≡ Some d →
            general.Skips c m rest_of f (keeps_marks moves) refl Suit Round i next [] after y b d))
        by [] =
            inr (
              w ∷ [],
              y,
              ap (λ (j : Instr). mach_act c.setting j.op [] y) v.is,
              λ d e.
                  record { after = b; passing = general.passed; rel = λ z. (refl, still d (put_there d e)) },
            )
        by (x ∷ xs) = inl (ap (λ (j : Instr). mach_act c.setting j.op (x ∷ xs) y) v.is)

  abbrev Level : ActivationSetting → List Instr → Around → Around → File → File → Type 0
  Level c = level.Level c m rest_of f (keeps_marks moves) refl Rel

  module _ (c : ActivationSetting) where
    serves : (Suit : Around → Around → Type 0) → ((x y : Around) → x ≡ y → Suit x y) →
        level.Serves c m rest_of f (keeps_marks moves) refl Rel Suit
    serves Suit suits =
        record {
          suits = λ rest x y a b l. suits x y l.0;
          each = λ i next x y a b ending l vs e. each i next x y a b ending l vs e (fate moves i next);
        }
      where
        each : (i : Instr) (next : List Instr) (x y : Around) (a b : File) → Ending (i ∷ next) m.code →
            Level c (i ∷ next) x y a b → (vs : List Value) → values a i.args ≡ Some vs → Fate moves i next →
            general.Replaces c m rest_of f (keeps_marks moves) refl Suit (Level c) i next x y a b vs
            ⊎ general.StandsFor c m rest_of f (keeps_marks moves) refl Suit (Level c) i next x y a b vs
        each i next x y a b ending l vs e (falls g d s h) =
            inr
            (subst (λ y. general.StandsFor c m rest_of f (keeps_marks moves) refl Suit (Level c) i next x y a b vs) l.0
            (moved_away c Suit i next a b ending l.1 x vs s d))
        each i next x y a b ending l vs e (remains k s h) =
            inl
            (subst (λ y. general.Replaces c m rest_of f (keeps_marks moves) refl Suit (Level c) i next x y a b vs) l.0
            (left_there c Suit i next a b ending l.1 k x vs e s))

    -- ---- from the entry

    module _ (arguments : List Value) (a : File) (e : put_all c.setting.end m.params arguments (λ n. None) ≡ Some a) where
      unwritten : (n : ℕ) → (AmongRegisters n m.params → ⊥) → a n ≡ None
      unwritten n free = (put_both c.setting.end m.params arguments (λ n. None) (λ n. None) a e).others n free

      holds : entry.Holds m moves may formed a
      holds n = ⊎_elim (λ p. inr (inl p)) (λ free. inl (unwritten n free)) (among_or_not n m.params)

      same_there : Same a (entry.entry_file m moves may a)
      same_there =
          record {
            each = λ n.
                ⊎_elim (λ h. inr (unwritten n (at_entry_of.no_param m moves may h), h))
                (λ free.
                inl (sym (entry.filled_other m moves may (at_entry_of.whole_front m moves may) a n free)))
                (at_entry_of.made_or_not m moves may n);
            made = λ n h. entry.entry_made m moves may a h;
          }

    does_at : (arguments : List Value) (memory : Memory) (doings : List Doing) (s : State) →
        mach_start c m arguments memory ≡ Some s → Begins c m q arguments memory doings s
    does_at =
        level.begins_at c m q refl
        (λ arguments memory a t n e proper.
        let both =
        level.follows_from c m rest_of f (keeps_marks moves) refl Rel serves a (entry.entry_file m moves may a)
        (entry_around memory) (same_there arguments a e) n t proper in
        let front = at_entry_of.whole_front m moves may in
        record {
          no_less = entry.comes_through m moves may formed c front a (entry_around memory) (holds arguments a e)
              (entry.comes_same m moves may formed c both.no_less);
          no_more = entry.comes_through m moves may formed c front a (entry_around memory) (holds arguments a e)
              (entry.comes_same m moves may formed c both.no_more);
        })

  -- The function whose constants are made at the entry does what it did.
  pub does_hoisted : MachSimulation m (hoisted moves m)
  does_hoisted = λ c arguments memory doings s e. does_at c arguments memory doings s e
