-- A function whose open registers have been given places, joined ones apart, does what it did: what is live holds the same.
use Rattle.std.proofs.Common.{◌≡◌, ℕ, true, inl, inr, ◌⊎◌, ⊎_elim, List, [], ◌∷◌, Option, Some, None, refl, sym, ap, ◌∙◌, subst}
use Rattle.std.proofs.lemmas.Option.{none-some}
use Rattle.bs_words.specs.Memory.{Memory}
use Rattle.bs_words.specs.declared.values.Value.{Value}
use Rattle.bs_words.proofs.Lists.{head_same, tail_same}
use Rattle.mach_ir.specs.Known.{Doing}
use Rattle.mach_ir.specs.Acts.{Around, Target, On, At, Landing, AtLabel, AtHandler, Replaces}
use Rattle.mach_ir.specs.Formed.{WellFormed}
use Rattle.mach_ir.specs.Runs.{ActivationSetting, entry_around}
use Rattle.mach_ir.specs.Meaning.{Held, State, File, clear_registers, killed, registers_written, values, past_frame, passes_frame, after_label, at_handler, code_at, tries_at, landing_code, mach_start}
use Rattle.mach_ir.specs.Placed.{WellPlaced}
use Rattle.mach_ir.specs.Walks.{AmongRegisters, OneOf, targets, may_raise, goes, raises, Live, read, on, aside, after_step, LiveAcross}
use Rattle.mach_ir.specs.Keeps.{ValsWritten, wrote_unless, Begins, MachSimulation}
use Rattle.mach_ir.specs.declared.reg.Reg.{Reg}
use Rattle.mach_ir.specs.declared.mach.Instr.{Instr}
use Rattle.mach_ir.specs.declared.mach.Mach.{Mach}
use Rattle.mach_laws.specs.Expand.{Ending, expand}
use Rattle.mach_laws.proofs.General as general
use Rattle.mach_laws.proofs.General.{at}
use Rattle.mach_laws.proofs.Leads.{IsTry, MayLand, lands_at_label, lands_at_handler, try_on}
use Rattle.mach_laws.proofs.Level as level
use Rattle.mach_laws.proofs.Places.{ending_next, ending_label, ending_land, stands_of, land_expand, form_of}
use Rattle.mach_laws.proofs.Simulate.{Agrees}
use Rattle.mach_laws.proofs.Among.{left_among, right_among, split_among, among_or_not}
use Rattle.mach_laws.proofs.Raised.{IsRaised, IsSilent, label_silent, try_silent, told}
use Rattle.mach_laws.proofs.Walking.{across_live}
use Rattle.colouring_rules.specs.Places.{LocationAssignment, IsProperAssignment, located_register, all_placed, placed_instr, placed_code, with_places}
use Rattle.colouring_rules.proofs.Files.{values_same, past_same, cleared, not_cleared, PutsBoth, put_both}
use Rattle.colouring_rules.proofs.Walked.{fewer_killed, fewer_written, still_written, live_before, across_back}
use Rattle.colouring_rules.proofs.Instructions.{among_back, same_values, same_put, alone, as_expanded, keeps_marks}
use Rattle.colouring_rules.proofs.Text.{same_label, same_tries, was_register}

module _ (m : Mach) (place : LocationAssignment) (formed : WellFormed m) (well : WellPlaced m) (is : IsProperAssignment m place) where
  abbrev q : Mach
  q = with_places place m

  -- what is live holds the same
  abbrev Same : List Instr → File → File → Type 0
  Same rest a b = (n : ℕ) → Live m n rest → a n ≡ b n

  -- ---- where registers of one origin agree

  -- what the second has just written, and holds a value, the first has written with that value
  abbrev WroteSame : Option Value → List Reg → List Reg → File → File → Type 0
  WroteSame raised ws us a b =
      (n : ℕ) (u : Held) → AmongRegisters n (wrote_unless raised us) → b n ≡ Some u → AmongRegisters n (wrote_unless raised ws) × (a n ≡ b n)

  agrees_by : (rest : List Instr) → Ending rest m.code → (a b : File) (x : Around) (ws us : List Reg) → Same rest a b →
      WroteSame x.raised ws us a b → Agrees m ws (at rest a x) → Agrees q us (at (placed_code place rest) b x)
  agrees_by rest ending a b x ws us same wrote agree =
      record {
        agree = λ r k i j origin l e h g s t.
            let w = was_register place m r i in
            let v = was_register place m k j in
            let one = was_there w.register r w.same h l s in
            let two = was_there v.register k v.same g e t in
            agree.agree w.register v.register w.among v.among
            (ap (λ (r : Reg). r.origin) w.same ∙ origin ∙ sym (ap (λ (r : Reg). r.origin) v.same))
            one.0 two.0 h g (one.1 ∙ s) (two.1 ∙ t);
      }
    where
      was_there : (w r : Reg) → located_register place w ≡ r → (u : Held) →
          Live q r.number (placed_code place rest) ⊎ AmongRegisters r.number (wrote_unless x.raised us) → b r.number ≡ Some u →
          (Live m w.number rest ⊎ AmongRegisters w.number (wrote_unless x.raised ws)) × (a w.number ≡ b r.number)
      was_there w r e u l s =
          subst (λ n. (Live m n rest ⊎ AmongRegisters n (wrote_unless x.raised ws)) × (a n ≡ b r.number))
          (sym (ap (λ (r : Reg). r.number) e))
          (⊎_elim (λ v. let v = live_before m place well is ending v in (inl v, same r.number v))
          (λ z. let h = wrote r.number u z s in (inr h.0, h.1)) l)

  silent_wrote : {i : Instr} {next : List Instr} → Ending (i ∷ next) m.code → (o : Option Value) (a b : File) →
      IsSilent m i ⊎ IsRaised o → WroteSame o (registers_written m i) (registers_written q (placed_instr place i)) a b
  silent_wrote {i} e None a b (inl s) n u z h = absurd (s n (fewer_written m place well is (stands_of e) z))
  silent_wrote e None a b (inr r) n u z h = elim r [ ]
  silent_wrote e (Some v) a b s n u z h = elim z [ ]

  -- ---- values that are read

  vals_before : (i : Instr) (next : List Instr) (a b : File) (x : Around) → Ending (i ∷ next) m.code → Same (i ∷ next) a b →
      ValsWritten m (at (i ∷ next) a x) → ValsWritten q (at (placed_code place (i ∷ next)) b x)
  vals_before i next a b x ending same known =
      record {
        written = λ j ys e frame r is_one val v none.
            let w = was_register place m r is_one in
            let number = ap (λ (r : Reg). r.number) w.same in
            let head = head_same e in
            let live : LiveAcross m r.number i next =
            across_back m place well is i next ending head (tail_same e) v in
            known.written i next refl (subst (λ (j : Instr). passes_frame j.op ≡ true) (sym head) frame) w.register w.among
            (ap (λ (r : Reg). r.comp) w.same ∙ val)
            (subst (λ n. LiveAcross m n i next) (sym number) live)
            (ap a number ∙ same r.number (across_live live) ∙ none);
      }

  -- ---- where it goes

  is_code : q.code ≡ expand (alone place) m.code
  is_code = as_expanded place m.code

  lands_same : (this_code that_code : List Instr) (to : Landing) → tries_at that_code ≡ tries_at this_code →
      landing_code q.code that_code to ≡ placed_code place (landing_code m.code this_code to)
  lands_same this_code that_code to e =
      ap (λ code. landing_code code that_code to) is_code ∙ land_expand (alone place) (keeps_marks place) m.code this_code that_code to e
      ∙ sym (as_expanded place (landing_code m.code this_code to))

  moved : (P : List Instr → Type 0) (next : List Instr) → P (placed_code place next) → P (expand (alone place) next)
  moved P next = subst P (as_expanded place next)

  tries_same : (i : Instr) (next : List Instr) →
      tries_at (placed_instr place i ∷ expand (alone place) next) ≡ tries_at (i ∷ next)
  tries_same i next =
      moved (λ code. tries_at (placed_instr place i ∷ code) ≡ tries_at (i ∷ next)) next (same_tries place (i ∷ next))

  caught : {n : ℕ} {i : Instr} {next : List Instr} → may_raise i.op ≡ true → (tries : List ℕ) → tries_at (i ∷ next) ≡ tries →
      Live m n (at_handler m.code tries) → Live m n (i ∷ next)
  caught r [] e v = elim v [ ]
  caught r (l ∷ tries) e v = aside (raises r e) v

  -- ---- each instruction

  module _ (c : ActivationSetting) (Suit : Around → Around → Type 0) (i : Instr) (next : List Instr) (a b : File)
      (ending : Ending (i ∷ next) m.code) (same : Same (i ∷ next) a b) where
    abbrev Round : List Instr → Around → Around → File → File → Type 0
    Round = level.Level c m q (alone place) (keeps_marks place) is_code Same

    abbrev a' : File
    a' = past_frame (passes_frame i.op) a

    abbrev b' : File
    b' = past_frame (passes_frame i.op) b

    abbrev main : Instr
    main = placed_instr place i

    still : (n : ℕ) → Live m n (i ∷ next) → a' n ≡ b' n
    still n v = past_same (passes_frame i.op) a b n n (same n v)

    -- what is live where it goes, and is no result
    base : (t : Target) → OneOf t (targets i.op) → (n : ℕ) → Live m n (code_at m.code next t) → (AmongRegisters n i.results → ⊥) →
        clear_registers (killed m i) a' n ≡ clear_registers (killed q main) b' n
    base t o n v free =
        ⊎_elim
        (λ k.
        ⊎_elim (λ z. absurd (free (among_back place i.results z)))
        (λ z. cleared (killed m i) a' n k ∙ sym (cleared (killed q main) b' n z))
        (split_among n (all_placed place i.results) (killed q main)
        (still_written m place well is (stands_of ending) (after_step (goes t o) v) (right_among i.results (killed m i) k))))
        (λ h.
        not_cleared (killed m i) a' n h
        ∙ still n (on (λ w. ⊎_elim free h (split_among n i.results (killed m i) w)) (goes t o) v)
        ∙ sym (not_cleared (killed q main) b' n (λ z. h (fewer_killed m place well is (stands_of ending) z))))
        (among_or_not n (killed m i))

    abbrev Puts : List Value → File → Type 0
    Puts vs d = PutsBoth c.setting.end i.results vs (clear_registers (killed m i) a') (clear_registers (killed q main) b') d

    after_same : (vs : List Value) (d : File) (p : Puts vs d) (t : Target) → OneOf t (targets i.op) →
        Same (code_at m.code next t) d p.file
    after_same vs d p t o n v =
        ⊎_elim (λ z. p.same n z)
        (λ h. p.others n h ∙ base t o n v h ∙ sym (p.others_new n h))
        (among_or_not n i.results)

    put_wrote : (vs : List Value) (d : File) (p : Puts vs d) (o : Option Value) →
        WroteSame o (registers_written m i) (registers_written q main) d p.file
    put_wrote vs d p None n u z h =
        ⊎_elim (λ r. (left_among i.results (killed m i) r, p.same n r))
        (λ free.
        ⊎_elim (λ r. absurd (free (among_back place i.results r)))
        (λ k. absurd (none-some _ (sym (cleared (killed q main) b' n k) ∙ sym (p.others_new n free) ∙ h)))
        (split_among n (all_placed place i.results) (killed q main) z))
        (among_or_not n i.results)
    put_wrote vs d p (Some v) n u z h = elim z [ ]

    abbrev Past : Around → File → File → Target → Type 0
    Past x d e to =
        general.Past c m q (alone place) (keeps_marks place) is_code Suit Round i main next [] x x d e to

    past : (vs : List Value) (d : File) (p : Puts vs d) (x : Around) (t : Target) → OneOf t (targets i.op) → Past x d p.file t
    past vs d p x On o =
        general.on
        (λ w.
        moved (λ code. Agrees q (registers_written q main) (at code p.file x)) next
        (agrees_by next (ending_next ending) d p.file x (registers_written m i) (registers_written q main) (after_same vs d p On o)
        (put_wrote vs d p x.raised) w))
        general.passed (λ w. (refl, after_same vs d p On o))
    past vs d p x (At l) o =
        general.elsewhere refl
        (λ w. (
          (refl, after_same vs d p (At l) o),
          subst (λ code. Agrees q (registers_written q main) (at code p.file x)) (sym (same_label place l m.code))
              (agrees_by (after_label l m.code) (ending_label l m.code) d p.file x (registers_written m i) (registers_written q main)
              (after_same vs d p (At l) o) (put_wrote vs d p x.raised) w),
        ))

    landed : (to : Landing) → MayLand i.op to → Same (landing_code m.code (i ∷ next) to) a' b'
    landed (AtLabel l) (lands_at_label o) n v =
        still n (on (label_silent m (form_of formed ending) l o n) (goes (At l) o) v)
    landed AtHandler (lands_at_handler r) n v = still n (caught r (tries_at (i ∷ next)) refl v)

    lands : (to : Landing) → MayLand i.op to → (x : Around) → IsSilent m i ⊎ IsRaised x.raised →
        general.Lands c m q (alone place) (keeps_marks place) is_code Suit Round i main next [] to x x a' b'
    lands to may x s w = (
      (refl, landed to may),
      subst (λ code. Agrees q (registers_written q main) (at code b' x))
          (sym (lands_same (i ∷ next) (main ∷ expand (alone place) next) to (tries_same i next)))
          (agrees_by (landing_code m.code (i ∷ next) to) (ending_land to (i ∷ next) m.code) a' b' x (registers_written m i)
          (registers_written q main) (landed to may) (silent_wrote ending x.raised a' b' s) w),
    )

    pushed : IsTry i.op → Same next a' b'
    pushed t n v = still n (on (try_silent m (form_of formed ending) t n) (goes On (try_on i.op t)) v)

    same_operation : level.SameOperation c m q (alone place) (keeps_marks place) is_code Suit Same (IsSilent m i) i main next [] a' b'
    same_operation =
        record {
          goes = λ vs d e.
              let p = put_both c.setting.end i.results vs (clear_registers (killed m i) a') (clear_registers (killed q main) b') d e in (
                p.file,
                same_put place c.setting.end i.results vs (clear_registers (killed q main) b') ∙ p.puts,
                λ x to o. past vs d p x to o,
              );
          lands = λ x to l s. lands to l x s;
          tries = tries_same i next;
          pushes = λ t. (
            refl,
            λ x w. (
              (refl, pushed t),
              moved (λ code. Agrees q (registers_written q main) (at code b' x)) next
                  (agrees_by next (ending_next ending) a' b' x (registers_written m i) (registers_written q main) (pushed t)
                  (silent_wrote ending x.raised a' b' (inl (try_silent m (form_of formed ending) t))) w),
            ),
          );
        }

    one : (x : Around) (vs : List Value) → values a i.args ≡ Some vs →
        general.Replaces c m q (alone place) (keeps_marks place) is_code Suit Round i next x x a b vs
    one x vs e =
        level.replaces c m q (alone place) (keeps_marks place) is_code Suit Same x
        (record {
          pre = [];
          main = main;
          post = [];
          shape = refl;
          same_op = refl;
          between = b;
          passing = general.passed;
          vals = λ known. moved (λ code. ValsWritten q (at (main ∷ code) b x)) next (vals_before i next a b x ending same known);
          reads = same_values place b i.args ∙ sym (values_same a b i.args (λ n z. same n (read z))) ∙ e;
          told = told m (form_of formed ending) c.setting vs x;
          same = same_operation;
        })

  module _ (c : ActivationSetting) where
    serves : (Suit : Around → Around → Type 0) → ((x y : Around) → x ≡ y → Suit x y) →
        level.Serves c m q (alone place) (keeps_marks place) is_code Same Suit
    serves Suit suits =
        record {
          suits = λ rest x y a b l. suits x y l.0;
          each = λ i next x y a b ending l vs e. inl
              (subst
              (λ y. general.Replaces c m q (alone place) (keeps_marks place) is_code Suit
              (level.Level c m q (alone place) (keeps_marks place) is_code Same) i next x y a b vs)
              l.0 (one c Suit i next a b ending l.1 x vs e));
        }

    begins_placed : (arguments : List Value) (memory : Memory) (doings : List Doing) (s : State) →
        mach_start c m arguments memory ≡ Some s → Begins c m q arguments memory doings s
    begins_placed =
        level.begins_by c m q (λ vs. same_put place c.setting.end m.params vs (λ n. None))
        (λ arguments memory a t n e proper.
        level.follows_from c m q (alone place) (keeps_marks place) is_code Same serves a a (entry_around memory) (λ k v. refl) n t proper)

  -- The function with its open registers placed does what it did.
  pub does_placed : MachSimulation m (with_places place m)
  does_placed = λ c arguments memory doings s e. begins_placed c arguments memory doings s e
