-- A function without its dead instructions does what it did: what is used holds the same.
use Rattle.std.proofs.Common.{◌≡◌, ℕ, Bool, true, false, inl, inr, ◌⊎◌, ⊎_elim, List, [], ◌∷◌, length, Option, Some, None, refl, sym, ap, ◌∙◌, subst}
use Rattle.bs_words.specs.Memory.{Memory}
use Rattle.bs_words.specs.declared.values.Value.{Value}
use Rattle.bs_words.proofs.Lists.{head_same, tail_same}
use Rattle.cmm_meaning.specs.State.{Doing}
use Rattle.mach_ir.specs.Acts.{Around, Target, On, At, Landing, AtLabel, AtHandler}
use Rattle.mach_ir.specs.Formed.{WellFormed}
use Rattle.mach_ir.specs.Runs.{ActivationSetting, entry_around}
use Rattle.mach_ir.specs.Meaning.{State, File, put_all, clear_registers, killed, registers_written, values, past_frame, passes_frame, after_label, at_handler, code_at, tries_at, landing_code, mach_start}
use Rattle.mach_ir.specs.Walks.{AmongRegisters, OneOf, targets, may_raise, goes, raises, Live, LiveAcross}
use Rattle.mach_ir.specs.Keeps.{ValsWritten, wrote_unless, Begins, MachSimulation}
use Rattle.mach_ir.specs.declared.reg.Reg.{Reg}
use Rattle.mach_ir.specs.declared.mach.Instr.{Instr}
use Rattle.mach_ir.specs.declared.mach.Mach.{Mach}
use Rattle.mach_laws.specs.Expand.{Ending, expand}
use Rattle.mach_laws.proofs.General as general
use Rattle.mach_laws.proofs.General.{at}
use Rattle.mach_laws.proofs.Leads.{IsTry, MayLand, lands_at_label, lands_at_handler, try_on}
use Rattle.mach_laws.proofs.Level as level
use Rattle.mach_laws.proofs.Places.{ending_next, ending_label, ending_land, stands_of, land_expand, form_of}
use Rattle.mach_laws.proofs.Simulate.{Agrees}
use Rattle.mach_laws.proofs.Among.{split_among, among_or_not}
use Rattle.mach_laws.proofs.Raised.{IsRaised, IsSilent, label_silent, try_silent, told}
use Rattle.colouring_rules.proofs.Files.{values_same, past_same, cleared, not_cleared, PutsBoth, put_both}
use Rattle.deadcode_rules.specs.Dropped.{may_go, IsUsed, on, aside, unless_dropped, dropped, AreDead}
use Rattle.deadcode_rules.proofs.Live.{used_live, none_killed, lift, live_back, across_back, was_register, used_by}
use Rattle.deadcode_rules.proofs.Left.{tries_here, label_is}
use Rattle.deadcode_rules.proofs.Text.{pure_of, pure_no_frame, goes_on, Fate, falls, remains, fate, keeps_marks}

module _ (m : Mach) (drops : ℕ → Bool) (dead : AreDead m drops) (formed : WellFormed m) where
  abbrev q : Mach
  q = dropped drops m

  abbrev f : ℕ → Instr → List Instr
  f = unless_dropped drops

  -- what is used holds the same
  abbrev Same : List Instr → File → File → Type 0
  Same rest a b = (n : ℕ) → IsUsed m n rest → a n ≡ b n

  -- ---- where registers of one origin agree

  -- what has just been written holds the same
  abbrev WroteSame : Option Value → List Reg → File → File → Type 0
  WroteSame raised ws a b = (n : ℕ) → AmongRegisters n (wrote_unless raised ws) → a n ≡ b n

  agrees_by : (rest : List Instr) → Ending rest m.code → (a b : File) (y : Around) (ws : List Reg) → Same rest a b →
      WroteSame y.raised ws a b → Agrees m ws (at rest a y) → Agrees q ws (at (expand f rest) b y)
  agrees_by rest ending a b y ws same wrote agree =
      record {
        agree = λ r k i j origin l e h g s t.
            let one = was_there r l in
            let two = was_there k e in
            agree.agree r k (was_register m drops dead r i) (was_register m drops dead k j) origin one.0 two.0 h g
            (one.1 ∙ s) (two.1 ∙ t);
      }
    where
      was_there : (r : Reg) → Live q r.number (expand f rest) ⊎ AmongRegisters r.number (wrote_unless y.raised ws) →
          (Live m r.number rest ⊎ AmongRegisters r.number (wrote_unless y.raised ws)) × (a r.number ≡ b r.number)
      was_there r l =
          ⊎_elim
          (λ v. let u = live_back m drops dead v rest ending refl in (inl (used_live u), same r.number u))
          (λ z. (inr z, wrote r.number z)) l

  silent_wrote : (i : Instr) (o : Option Value) (a b : File) → IsSilent m i ⊎ IsRaised o → WroteSame o (registers_written m i) a b
  silent_wrote i None a b (inl s) n z = absurd (s n z)
  silent_wrote i None a b (inr r) n z = elim r [ ]
  silent_wrote i (Some v) a b s n z = elim z [ ]

  -- ---- values that are read

  vals_before : (i : Instr) (next : List Instr) (a b : File) (y : Around) → Ending (i ∷ next) m.code → Same (i ∷ next) a b →
      ValsWritten m (at (i ∷ next) a y) → ValsWritten q (at (i ∷ expand f next) b y)
  vals_before i next a b y ending same known =
      record {
        written = λ j ys e frame r one val v none.
            let head = head_same e in
            let old =
            across_back m drops dead next ending (sym (tail_same e))
            (subst (λ (j : Instr). LiveAcross q r.number j ys) (sym head) v) in
            known.written i next refl (subst (λ (j : Instr). passes_frame j.op ≡ true) (sym head) frame) r
            (was_register m drops dead r one) val old.0 (same r.number old.1 ∙ none);
      }

  -- ---- where it goes

  caught : {n : ℕ} {i : Instr} {next : List Instr} → may_raise i.op ≡ true → (tries : List ℕ) → tries_at (i ∷ next) ≡ tries →
      IsUsed m n (at_handler m.code tries) → IsUsed m n (i ∷ next)
  caught r [] e u = elim u [ ]
  caught r (l ∷ tries) e u = aside (raises r e) u

  -- ---- each instruction

  module _ (c : ActivationSetting) (Suit : Around → Around → Type 0) (i : Instr) (next : List Instr) (a b : File)
      (ending : Ending (i ∷ next) m.code) (same : Same (i ∷ next) a b) where
    abbrev Round : List Instr → Around → Around → File → File → Type 0
    Round = level.Level c m q f (keeps_marks drops) refl Same

    abbrev a' : File
    a' = past_frame (passes_frame i.op) a

    abbrev b' : File
    b' = past_frame (passes_frame i.op) b

    still : (n : ℕ) → IsUsed m n (i ∷ next) → a' n ≡ b' n
    still n u = past_same (passes_frame i.op) a b n n (same n u)

    abbrev Puts : List Value → File → Type 0
    Puts vs d = PutsBoth c.setting.end i.results vs (clear_registers (killed m i) a') (clear_registers (killed m i) b') d

    gone : (vs : List Value) (d : File) (p : Puts vs d) (n : ℕ) → (AmongRegisters n i.results → ⊥) → AmongRegisters n (killed m i) → d n ≡ p.file n
    gone vs d p n free z =
        p.others n free ∙ cleared (killed m i) a' n z ∙ sym (p.others_new n free ∙ cleared (killed m i) b' n z)

    after_same : (vs : List Value) (d : File) (p : Puts vs d) (t : Target) → OneOf t (targets i.op) →
        Same (code_at m.code next t) d p.file
    after_same vs d p t o n u =
        ⊎_elim (λ z. p.same n z)
        (λ free. ⊎_elim (λ z. gone vs d p n free z) (λ h. kept free h) (among_or_not n (killed m i)))
        (among_or_not n i.results)
      where
        kept : (AmongRegisters n i.results → ⊥) → (AmongRegisters n (killed m i) → ⊥) → d n ≡ p.file n
        kept free h =
            p.others n free ∙ not_cleared (killed m i) a' n h
            ∙ still n (on (λ w. ⊎_elim free h (split_among n i.results (killed m i) w)) (goes t o) u)
            ∙ sym (p.others_new n free ∙ not_cleared (killed m i) b' n h)

    put_wrote : (vs : List Value) (d : File) (p : Puts vs d) (o : Option Value) → WroteSame o (registers_written m i) d p.file
    put_wrote vs d p None n z =
        ⊎_elim (λ r. p.same n r)
        (λ free.
        ⊎_elim (λ r. absurd (free r)) (λ k. gone vs d p n free k) (split_among n i.results (killed m i) z))
        (among_or_not n i.results)
    put_wrote vs d p (Some v) n z = elim z [ ]

    past_to : (vs : List Value) (d : File) (p : Puts vs d) (y : Around) (t : Target) → OneOf t (targets i.op) →
        general.Past c m q f (keeps_marks drops) refl Suit Round i i next [] y y d p.file t
    past_to vs d p y On o =
        general.on
        (λ w.
        agrees_by next (ending_next ending) d p.file y (registers_written m i) (after_same vs d p On o) (put_wrote vs d p y.raised) w)
        general.passed (λ w. (refl, after_same vs d p On o))
    past_to vs d p y (At l) o =
        general.elsewhere refl
        (λ w. (
          (refl, after_same vs d p (At l) o),
          subst (λ code. Agrees q (registers_written m i) (at code p.file y)) (sym (label_is m drops l))
              (agrees_by (after_label l m.code) (ending_label l m.code) d p.file y (registers_written m i) (after_same vs d p (At l) o)
              (put_wrote vs d p y.raised) w),
        ))

    landed : (to : Landing) → MayLand i.op to → Same (landing_code m.code (i ∷ next) to) a' b'
    landed (AtLabel l) (lands_at_label o) n u = still n (on (label_silent m (form_of formed ending) l o n) (goes (At l) o) u)
    landed AtHandler (lands_at_handler r) n u = still n (caught r (tries_at (i ∷ next)) refl u)

    lands : (to : Landing) → MayLand i.op to → (y : Around) → IsSilent m i ⊎ IsRaised y.raised →
        general.Lands c m q f (keeps_marks drops) refl Suit Round i i next [] to y y a' b'
    lands to may y s w = (
      (refl, landed to may),
      subst (λ code. Agrees q (registers_written m i) (at code b' y))
          (sym (land_expand f (keeps_marks drops) m.code (i ∷ next) (i ∷ expand f next) to (tries_here drops i next refl)))
          (agrees_by (landing_code m.code (i ∷ next) to) (ending_land to (i ∷ next) m.code) a' b' y (registers_written m i)
          (landed to may) (silent_wrote i y.raised a' b' s) w),
    )

    pushed : IsTry i.op → Same next a' b'
    pushed t n u = still n (on (try_silent m (form_of formed ending) t n) (goes On (try_on i.op t)) u)

    same_operation : level.SameOperation c m q f (keeps_marks drops) refl Suit Same (IsSilent m i) i i next [] a' b'
    same_operation =
        record {
          goes = λ vs d e.
              let p = put_both c.setting.end i.results vs (clear_registers (killed m i) a') (clear_registers (killed m i) b') d e in
              (p.file, p.puts, λ y to o. past_to vs d p y to o);
          lands = λ y to l s. lands to l y s;
          tries = tries_here drops i next refl;
          pushes = λ t. (
            refl,
            λ y w. (
              (refl, pushed t),
              agrees_by next (ending_next ending) a' b' y (registers_written m i) (pushed t)
                  (silent_wrote i y.raised a' b' (inl (try_silent m (form_of formed ending) t))) w,
            ),
          );
        }

    -- an instruction that is left
    left_there : (y : Around) (vs : List Value) → values a i.args ≡ Some vs → f (length next) i ≡ i ∷ [] →
        (may_go i.op ≡ true → drops (length next) ≡ false) →
        general.Replaces c m q f (keeps_marks drops) refl Suit Round i next y y a b vs
    left_there y vs e shape kept =
        level.replaces c m q f (keeps_marks drops) refl Suit Same y
        (record {
          pre = [];
          main = i;
          post = [];
          shape = shape;
          same_op = refl;
          between = b;
          passing = general.passed;
          vals = λ known. vals_before i next a b y ending same known;
          reads = sym (values_same a b i.args (λ n z. same n (used_by m drops dead ending kept z))) ∙ e;
          told = told m (form_of formed ending) c.setting vs y;
          same = same_operation;
        })

    -- one that goes
    left_out : (y : Around) (vs : List Value) → f (length next) i ≡ [] → may_go i.op ≡ true → drops (length next) ≡ true →
        general.StandsFor c m q f (keeps_marks drops) refl Suit Round i next y y a b vs
    left_out y vs shape g d =
        record {
          code = [];
          shape = shape;
          skips = ⊎_elim inl
              (λ h. inr (
                h.0,
                y,
                h.1,
                λ e t.
                    record { after = b; passing = general.passed; rel = λ w. (refl, unchanged h.0 e t) },
              ))
              (goes_on c.setting vs y (pure_of i.op g));
        }
      where
        unchanged : (results : List Value) (e : File) →
            put_all c.setting.end i.results results (clear_registers (killed m i) a') ≡ Some e → Same next e b
        unchanged results e t n u =
            let p = put_both c.setting.end i.results results (clear_registers (killed m i) a') (clear_registers (killed m i) a') e t in
            p.others n
            (λ z. dead.dead i next (stands_of ending) g d (record { number = n; among = z; used = u }))
            ∙ not_cleared (killed m i) a' n (none_killed m drops dead i n g)
            ∙ ap (λ t. past_frame t a n) (pure_no_frame (pure_of i.op g))
            ∙ same n (lift m drops dead (stands_of ending) g d u)

  abbrev Level : ActivationSetting → List Instr → Around → Around → File → File → Type 0
  Level c = level.Level c m q f (keeps_marks drops) refl Same

  module _ (c : ActivationSetting) where
    serves : (Suit : Around → Around → Type 0) → ((x y : Around) → x ≡ y → Suit x y) →
        level.Serves c m q f (keeps_marks drops) refl Same Suit
    serves Suit suits =
        record {
          suits = λ rest x y a b l. suits x y l.0;
          each = λ i next x y a b ending l vs e. each i next x y a b ending l vs e (fate drops i next);
        }
      where
        each : (i : Instr) (next : List Instr) (x y : Around) (a b : File) → Ending (i ∷ next) m.code →
            Level c (i ∷ next) x y a b → (vs : List Value) → values a i.args ≡ Some vs → Fate drops i next →
            general.Replaces c m q f (keeps_marks drops) refl Suit (Level c) i next x y a b vs
            ⊎ general.StandsFor c m q f (keeps_marks drops) refl Suit (Level c) i next x y a b vs
        each i next x y a b ending l vs e (falls g d s h) =
            inr
            (subst (λ y. general.StandsFor c m q f (keeps_marks drops) refl Suit (Level c) i next x y a b vs) l.0
            (left_out c Suit i next a b ending l.1 x vs s g d))
        each i next x y a b ending l vs e (remains k s h) =
            inl
            (subst (λ y. general.Replaces c m q f (keeps_marks drops) refl Suit (Level c) i next x y a b vs) l.0
            (left_there c Suit i next a b ending l.1 x vs e s k))

    does_at : (arguments : List Value) (memory : Memory) (doings : List Doing) (s : State) →
        mach_start c m arguments memory ≡ Some s → Begins c m q arguments memory doings s
    does_at =
        level.begins_at c m q refl
        (λ arguments memory a t n e proper.
        level.follows_from c m q f (keeps_marks drops) refl Same serves a a (entry_around memory) (λ n u. refl) n t proper)

  -- The function without its dead instructions does what it did.
  pub does_dropped : MachSimulation m (dropped drops m)
  does_dropped = λ c arguments memory doings s e. does_at c arguments memory doings s e
