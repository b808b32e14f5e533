-- A function whose registers have other numbers does what it did: a number that stands for a live register holds what it held.
use Rattle.std.proofs.Common.{◌≡◌, ◌≢◌, ℕ, true, inl, inr, ◌⊎◌, ⊎_elim, List, [], ◌∷◌, length, Option, Some, None, refl, sym, ap, ◌∙◌, subst}
use Rattle.std.specs.List.{Contains}
use Rattle.std.proofs.lemmas.Option.{none-some}
use Rattle.bs_words.specs.Memory.{Memory}
use Rattle.bs_words.specs.declared.types.Loc.TheVariants as loc
use Rattle.bs_words.specs.declared.values.Value.{Value}
use Rattle.bs_words.proofs.Lists.{head_same, tail_same}
use Rattle.cmm_meaning.specs.State.{Doing}
use Rattle.mach_ir.specs.Acts.{Around, Target, On, At, Landing, AtLabel, AtHandler}
use Rattle.mach_ir.specs.Formed.{WellFormed}
use Rattle.mach_ir.specs.Runs.{ActivationSetting, entry_around}
use Rattle.mach_ir.specs.Meaning.{Held, State, File, put_all, clear_registers, killed, registers_written, with_held, values, past_frame, passes_frame, after_label, at_handler, code_at, tries_at, landing_code, mach_start}
use Rattle.mach_ir.specs.Walks.{AmongRegisters, first, later, OneOf, targets, may_raise, goes, raises, Live, read, on, aside, LiveAcross, is_param, StandsAsInstr, Writes}
use Rattle.mach_ir.specs.Keeps.{ValsWritten, wrote_unless, Begins, MachSimulation}
use Rattle.mach_ir.specs.declared.reg.Reg.{Reg}
use Rattle.mach_ir.specs.declared.mach.Instr.{Instr}
use Rattle.mach_ir.specs.declared.mach.Mach.{Mach}
use Rattle.mach_laws.specs.Expand.{Ending, expand}
use Rattle.mach_laws.proofs.General as general
use Rattle.mach_laws.proofs.General.{at}
use Rattle.mach_laws.proofs.Leads.{IsTry, MayLand, lands_at_label, lands_at_handler, try_on}
use Rattle.mach_laws.proofs.Level as level
use Rattle.mach_laws.proofs.Places.{ending_next, ending_label, ending_land, stands_of, land_expand, form_of}
use Rattle.mach_laws.proofs.Simulate.{Agrees}
use Rattle.mach_laws.proofs.Among.{left_among, right_among, split_among, number_among, among_or_not}
use Rattle.mach_laws.proofs.Raised.{IsRaised, IsSilent, label_silent, try_silent, told}
use Rattle.mach_laws.proofs.Walking.{across_live}
use Rattle.colouring_rules.proofs.Files.{past_same, cleared, not_cleared, PutsToo, put_twice, put_both}
use Rattle.split_rules.specs.Renamed.{Naming, all_numbered, renamed_code, renamed}
use Rattle.split_rules.specs.Split.{IsNaming}
use Rattle.split_rules.specs.Writes.{from_entry, from_write}
use Rattle.split_rules.proofs.Text.{same_label, same_tries, alone, as_expanded, keeps_marks, was_register, among_named}
use Rattle.split_rules.proofs.Walked.{new, killed_same, killed_stays, result_back, arg_back, wrote_old, StandsFor, stands_on, stands_aside, live_before, across_back}

-- ---- files

values_same : (f' : ℕ → ℕ) (a b : File) (rs : List Reg) → ((n : ℕ) → AmongRegisters n rs → a n ≡ b (f' n)) →
    values a rs ≡ values b (all_numbered f' rs)
values_same f' a b [] h = refl
values_same f' a b (r ∷ rs) h =
    ap (λ o. with_held o (values a rs)) (h r.number (first refl))
    ∙ ap (with_held (b (f' r.number))) (values_same f' a b rs (λ n z. h n (later z)))

module _ (m : Mach) (names : Naming) (is : IsNaming m names) (formed : WellFormed m)
    (colour_fixed : (r : Reg) → Contains m.colours r → r.loc ≢ loc.Unset) where
  abbrev q : Mach
  q = renamed names m

  abbrev Stand : ℕ → ℕ → List Instr → Type 0
  Stand = StandsFor m names is colour_fixed

  abbrev made : List Instr → Instr → Instr
  made = new m names is colour_fixed

  -- a number that stands for a live register holds what it holds
  abbrev Same : List Instr → File → File → Type 0
  Same rest a b = (n x : ℕ) → Live m n rest → is.back x ≡ n → Stand x n rest → a n ≡ b x

  -- ---- where registers of one origin agree

  -- what the second has just written, and holds a value, the first has written with that value
  abbrev WroteSame : Option Value → List Reg → List Reg → File → File → Type 0
  WroteSame raised ws us a b =
      (x : ℕ) (u : Held) → AmongRegisters x (wrote_unless raised us) → b x ≡ Some u →
      AmongRegisters (is.back x) (wrote_unless raised ws) × (a (is.back x) ≡ b x)

  agrees_by : (rest : List Instr) → Ending rest m.code → (a b : File) (y : Around) (ws us : List Reg) → Same rest a b →
      WroteSame y.raised ws us a b → Agrees m ws (at rest a y) → Agrees q us (at (renamed_code names rest) b y)
  agrees_by rest ending a b y ws us same wrote agree =
      record {
        agree = λ r k i j origin l e h g s t.
            let w = was_register m names is colour_fixed r i in
            let v = was_register m names is colour_fixed k j in
            let one = was_there w.register r w.back h l s in
            let two = was_there v.register k v.back g e t in
            agree.agree w.register v.register w.among v.among
            (ap (λ (r : Reg). r.origin) w.same ∙ origin ∙ sym (ap (λ (r : Reg). r.origin) v.same))
            one.0 two.0 h g (one.1 ∙ s) (two.1 ∙ t);
      }
    where
      was_there : (w r : Reg) → is.back r.number ≡ w.number → (u : Held) →
          Live q r.number (renamed_code names rest) ⊎ AmongRegisters r.number (wrote_unless y.raised us) → b r.number ≡ Some u →
          (Live m w.number rest ⊎ AmongRegisters w.number (wrote_unless y.raised ws)) × (a w.number ≡ b r.number)
      was_there w r e u l s =
          subst (λ n. (Live m n rest ⊎ AmongRegisters n (wrote_unless y.raised ws)) × (a n ≡ b r.number)) e
          (⊎_elim
          (λ v.
          let old = live_before m names is colour_fixed ending v in
          (inl old.live, same (is.back r.number) r.number old.live refl old.stands))
          (λ z. let h = wrote r.number u z s in (inr h.0, h.1)) l)

  silent_wrote : {i : Instr} {next : List Instr} → Ending (i ∷ next) m.code → (o : Option Value) (a b : File) →
      IsSilent m i ⊎ IsRaised o → WroteSame o (registers_written m i) (registers_written q (made next i)) a b
  silent_wrote {i} {next} e None a b (inl s) x u z h =
      absurd (s (is.back x) (wrote_old m names is colour_fixed (stands_of e) z))
  silent_wrote e None a b (inr r) x u z h = elim r [ ]
  silent_wrote e (Some v) a b s x u z h = elim z [ ]

  -- ---- values that are read

  vals_before : (i : Instr) (next : List Instr) (a b : File) (y : Around) → Ending (i ∷ next) m.code → Same (i ∷ next) a b →
      ValsWritten m (at (i ∷ next) a y) → ValsWritten q (at (renamed_code names (i ∷ next)) b y)
  vals_before i next a b y ending same known =
      record {
        written = λ j ys e frame r one val v none.
            let w = was_register m names is colour_fixed r one in
            let head = head_same e in
            let old = across_back m names is colour_fixed i next ending head (tail_same e) v in
            known.written i next refl (subst (λ (j : Instr). passes_frame j.op ≡ true) (sym head) frame) w.register w.among
            (ap (λ (r : Reg). r.comp) w.same ∙ val)
            (subst (λ n. LiveAcross m n i next) w.back old.across)
            (ap a (sym w.back) ∙ same (is.back r.number) r.number (across_live old.across) refl old.stands ∙ none);
      }

  -- ---- where it goes

  is_code : q.code ≡ expand (alone names) m.code
  is_code = as_expanded names m.code

  lands_same : (this_code that_code : List Instr) (to : Landing) → tries_at that_code ≡ tries_at this_code →
      landing_code q.code that_code to ≡ renamed_code names (landing_code m.code this_code to)
  lands_same this_code that_code to e =
      ap (λ code. landing_code code that_code to) is_code ∙ land_expand (alone names) (keeps_marks names) m.code this_code that_code to e
      ∙ sym (as_expanded names (landing_code m.code this_code to))

  moved : (P : List Instr → Type 0) (next : List Instr) → P (renamed_code names next) → P (expand (alone names) next)
  moved P next = subst P (as_expanded names next)

  tries_same : (i : Instr) (next : List Instr) →
      tries_at (made next i ∷ expand (alone names) next) ≡ tries_at (i ∷ next)
  tries_same i next =
      moved (λ code. tries_at (made next i ∷ code) ≡ tries_at (i ∷ next)) next (same_tries names (i ∷ next))

  caught : {n x : ℕ} {i : Instr} {next : List Instr} → may_raise i.op ≡ true → (tries : List ℕ) → tries_at (i ∷ next) ≡ tries →
      Live m n (at_handler m.code tries) → Stand x n (at_handler m.code tries) →
      Live m n (i ∷ next) × Stand x n (i ∷ next)
  caught r [] e v s = elim v [ ]
  caught r (l ∷ tries) e v s = (aside (raises r e) v, stands_aside m names is colour_fixed (raises r e) s)

  -- ---- each instruction

  module _ (c : ActivationSetting) (Suit : Around → Around → Type 0) (i : Instr) (next : List Instr) (a b : File)
      (ending : Ending (i ∷ next) m.code) (same : Same (i ∷ next) a b) where
    abbrev Round : List Instr → Around → Around → File → File → Type 0
    Round = level.Level c m q (alone names) (keeps_marks names) is_code Same

    abbrev a' : File
    a' = past_frame (passes_frame i.op) a

    abbrev b' : File
    b' = past_frame (passes_frame i.op) b

    abbrev main : Instr
    main = made next i

    abbrev write : ℕ → ℕ
    write = names.write (length next)

    abbrev killed_new : List Reg
    killed_new = killed q main

    stands : StandsAsInstr i next m.code
    stands = stands_of ending

    still : (n x : ℕ) → Live m n (i ∷ next) → is.back x ≡ n → Stand x n (i ∷ next) → a' n ≡ b' x
    still n x v e s = past_same (passes_frame i.op) a b n x (same n x v e s)

    -- ---- what is killed is the same

    killed_old : {x : ℕ} → AmongRegisters x killed_new → AmongRegisters x (killed m i)
    killed_old {x} z = subst (λ ks. AmongRegisters x ks) (killed_same m names is colour_fixed next i) z

    killed_now : {x : ℕ} → AmongRegisters x (killed m i) → AmongRegisters x killed_new
    killed_now {x} z = subst (λ ks. AmongRegisters x ks) (sym (killed_same m names is colour_fixed next i)) z

    result_of : {x : ℕ} → AmongRegisters x main.results → AmongRegisters (is.back x) i.results
    result_of {x} z =
        let o = among_named write i.results z in
        subst (λ n. AmongRegisters n i.results)
        (sym (result_back m names is colour_fixed stands o.1 (length next)) ∙ ap is.back o.2) o.1

    abbrev Puts : List Value → File → Type 0
    Puts vs d = PutsToo write is.back c.setting.end i.results vs (clear_registers (killed m i) a') (clear_registers killed_new b') d

    after_same : (vs : List Value) (d : File) (p : Puts vs d) (t : Target) → OneOf t (targets i.op) →
        Same (code_at m.code next t) d p.file
    after_same vs d p t o n x v e s =
        ⊎_elim
        (λ z.
        p.same n z
        ∙ ap p.file (s next (from_write stands (left_among i.results (killed m i) z) (goes t o))))
        (λ free. ⊎_elim (λ z. gone free z) (λ h. kept free h) (among_or_not n (killed m i)))
        (among_or_not n i.results)
      where
        not_named : (AmongRegisters n i.results → ⊥) → AmongRegisters x main.results → ⊥
        not_named free z = free (subst (λ n. AmongRegisters n i.results) e (result_of z))

        gone : (AmongRegisters n i.results → ⊥) → AmongRegisters n (killed m i) → d n ≡ p.file x
        gone free z =
            let x_is : n ≡ x =
            sym (killed_stays m names is colour_fixed i (length next) z).0
            ∙ s next (from_write stands (right_among i.results (killed m i) z) (goes t o)) in
            p.others n free ∙ cleared (killed m i) a' n z
            ∙ sym (p.others_new x (not_named free) ∙ cleared killed_new b' x (killed_now (subst (λ y. AmongRegisters y (killed m i)) x_is z)))

        kept : (AmongRegisters n i.results → ⊥) → (AmongRegisters n (killed m i) → ⊥) → d n ≡ p.file x
        kept free h =
            let silent : Writes m i n → ⊥ = λ w. ⊎_elim free h (split_among n i.results (killed m i) w) in
            p.others n free ∙ not_cleared (killed m i) a' n h
            ∙ still n x (on silent (goes t o) v) e (stands_on m names is colour_fixed silent (goes t o) s)
            ∙ sym (p.others_new x (not_named free)
            ∙ not_cleared killed_new b' x
            (λ z.
            let old = killed_old z in
            h (subst (λ y. AmongRegisters y (killed m i)) (sym (killed_stays m names is colour_fixed i 0 old).1 ∙ e) old)))

    put_wrote : (vs : List Value) (d : File) (p : Puts vs d) (o : Option Value) →
        WroteSame o (registers_written m i) (registers_written q main) d p.file
    put_wrote vs d p None x u z h =
        ⊎_elim
        (λ r.
        let w = among_named write i.results r in
        let back : is.back x ≡ w.0 = ap is.back (sym w.2) ∙ result_back m names is colour_fixed stands w.1 (length next) in (
          left_among i.results (killed m i) (result_of r),
          ap d back ∙ p.same w.0 w.1 ∙ ap p.file w.2,
        ))
        (λ free.
        ⊎_elim (λ r. absurd (free r))
        (λ k. absurd (none-some _ (sym (cleared killed_new b' x k) ∙ sym (p.others_new x free) ∙ h)))
        (split_among x main.results killed_new z))
        (among_or_not x main.results)
    put_wrote vs d p (Some v) x u z h = elim z [ ]

    abbrev Past : Around → File → File → Target → Type 0
    Past y d e to =
        general.Past c m q (alone names) (keeps_marks names) is_code Suit Round i main next [] y y d e to

    past_to : (vs : List Value) (d : File) (p : Puts vs d) (y : Around) (t : Target) → OneOf t (targets i.op) → Past y d p.file t
    past_to vs d p y On o =
        general.on
        (λ w.
        moved (λ code. Agrees q (registers_written q main) (at code p.file y)) next
        (agrees_by next (ending_next ending) d p.file y (registers_written m i) (registers_written q main) (after_same vs d p On o)
        (put_wrote vs d p y.raised) w))
        general.passed (λ w. (refl, after_same vs d p On o))
    past_to vs d p y (At l) o =
        general.elsewhere refl
        (λ w. (
          (refl, after_same vs d p (At l) o),
          subst (λ code. Agrees q (registers_written q main) (at code p.file y)) (sym (same_label names l m.code))
              (agrees_by (after_label l m.code) (ending_label l m.code) d p.file y (registers_written m i) (registers_written q main)
              (after_same vs d p (At l) o) (put_wrote vs d p y.raised) w),
        ))

    landed : (to : Landing) → MayLand i.op to → Same (landing_code m.code (i ∷ next) to) a' b'
    landed (AtLabel l) (lands_at_label o) n x v e s =
        let silent = label_silent m (form_of formed ending) l o n in
        still n x (on silent (goes (At l) o) v) e (stands_on m names is colour_fixed silent (goes (At l) o) s)
    landed AtHandler (lands_at_handler r) n x v e s =
        let g = caught r (tries_at (i ∷ next)) refl v s in still n x g.0 e g.1

    lands : (to : Landing) → MayLand i.op to → (y : Around) → IsSilent m i ⊎ IsRaised y.raised →
        general.Lands c m q (alone names) (keeps_marks names) is_code Suit Round i main next [] to y y a' b'
    lands to may y s w = (
      (refl, landed to may),
      subst (λ code. Agrees q (registers_written q main) (at code b' y))
          (sym (lands_same (i ∷ next) (main ∷ expand (alone names) next) to (tries_same i next)))
          (agrees_by (landing_code m.code (i ∷ next) to) (ending_land to (i ∷ next) m.code) a' b' y (registers_written m i)
          (registers_written q main) (landed to may) (silent_wrote ending y.raised a' b' s) w),
    )

    pushed : IsTry i.op → Same next a' b'
    pushed t n x v e s =
        let silent = try_silent m (form_of formed ending) t n in
        still n x (on silent (goes On (try_on i.op t)) v) e (stands_on m names is colour_fixed silent (goes On (try_on i.op t)) s)

    same_operation : level.SameOperation c m q (alone names) (keeps_marks names) is_code Suit Same (IsSilent m i) i main next [] a' b'
    same_operation =
        record {
          goes = λ vs d e.
              let p = put_twice write is.back c.setting.end i.results vs (clear_registers (killed m i) a') (clear_registers killed_new b') d
              (λ n z. result_back m names is colour_fixed stands z (length next)) e in
              (p.file, p.puts, λ y to o. past_to vs d p y to o);
          lands = λ y to l s. lands to l y s;
          tries = tries_same i next;
          pushes = λ t. (
            refl,
            λ y w. (
              (refl, pushed t),
              moved (λ code. Agrees q (registers_written q main) (at code b' y)) next
                  (agrees_by next (ending_next ending) a' b' y (registers_written m i) (registers_written q main) (pushed t)
                  (silent_wrote ending y.raised a' b' (inl (try_silent m (form_of formed ending) t))) w),
            ),
          );
        }

    read_same : (n : ℕ) → AmongRegisters n i.args → a n ≡ b (names.read (length next) n)
    read_same n z =
        same n (names.read (length next) n) (read z) (arg_back m names is colour_fixed stands z (length next))
        (λ from comes. sym (is.agree i next from n stands z comes))

    one : (y : Around) (vs : List Value) → values a i.args ≡ Some vs →
        general.Replaces c m q (alone names) (keeps_marks names) is_code Suit Round i next y y a b vs
    one y vs e =
        level.replaces c m q (alone names) (keeps_marks names) is_code Suit Same y
        (record {
          pre = [];
          main = main;
          post = [];
          shape = refl;
          same_op = refl;
          between = b;
          passing = general.passed;
          vals = λ known. moved (λ code. ValsWritten q (at (main ∷ code) b y)) next (vals_before i next a b y ending same known);
          reads = sym (values_same (names.read (length next)) a b i.args read_same) ∙ e;
          told = told m (form_of formed ending) c.setting vs y;
          same = same_operation;
        })

  module _ (c : ActivationSetting) where
    serves : (Suit : Around → Around → Type 0) → ((x y : Around) → x ≡ y → Suit x y) →
        level.Serves c m q (alone names) (keeps_marks names) is_code Same Suit
    serves Suit suits =
        record {
          suits = λ rest x y a b l. suits x y l.0;
          each = λ i next x y a b ending l vs e. inl
              (subst
              (λ y. general.Replaces c m q (alone names) (keeps_marks names) is_code Suit
              (level.Level c m q (alone names) (keeps_marks names) is_code Same) i next x y a b vs)
              l.0 (one c Suit i next a b ending l.1 x vs e));
        }

    -- at the entry the parameters have their numbers, and nothing else is written
    at_entry : (vs : List Value) (a : File) → put_all c.setting.end m.params vs (λ n. None) ≡ Some a → Same m.code a a
    at_entry vs a e n x v b s =
        ⊎_elim
        (λ z. ap a (sym (is.entry n z) ∙ s m.code (from_entry z)))
        (λ free.
        unwritten m.params vs a n free e
        ∙ sym (unwritten m.params vs a x
        (λ z.
        let r = number_among m.params z in
        let stays : is.back x ≡ x =
        subst (λ y. is.back y ≡ y) r.2
        (ap is.back (sym (is.entry r.0.number (subst (λ y. AmongRegisters y m.params) (sym r.2) z)))
        ∙ is.write_back r.0 (is_param r.1) (length m.code)) in
        free (subst (λ y. AmongRegisters y m.params) (sym stays ∙ b) z)) e))
        (among_or_not n m.params)
      where
        unwritten : (rs : List Reg) (vs : List Value) (d : File) (n : ℕ) → (AmongRegisters n rs → ⊥) →
            put_all c.setting.end rs vs (λ n. None) ≡ Some d → d n ≡ None
        unwritten rs vs d n free e =
            (put_both c.setting.end rs vs (λ n. None) (λ n. None) d e).others n free

    pub does_renamed_at : (arguments : List Value) (memory : Memory) (doings : List Doing) (s : State) →
        mach_start c m arguments memory ≡ Some s → Begins c m q arguments memory doings s
    does_renamed_at =
        level.begins_at c m q refl
        (λ arguments memory a t n e proper.
        level.follows_from c m q (alone names) (keeps_marks names) is_code Same serves a a (entry_around memory)
        (at_entry arguments a e) n t proper)

  -- The function with other numbers does what it did.
  pub does_renamed : MachSimulation m (renamed names m)
  does_renamed = λ c arguments memory doings s e. does_renamed_at c arguments memory doings s e
