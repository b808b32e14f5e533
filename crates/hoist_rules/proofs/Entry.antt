-- The code at the entry: each of its steps makes a constant, and after the last each register of those holds its own.
use Rattle.std.proofs.Common.{◌≡◌, ℕ, zero, suc, ◌<◌, Bool, true, false, inl, inr, ◌⊎◌, ⊎_elim, List, [], ◌∷◌, ◌++◌, length, Option, Some, None, refl, sym, ap, ◌∙◌, subst, arith}
use Rattle.std.proofs.Math.Path.{fun_ext}
use Rattle.std.proofs.lemmas.Bool.{cases_Bool, eqb-true, eq-eqb, both_ways}
use Rattle.std.specs.List.{Contains}
use Rattle.std.specs.Prelude.{nat_eq, nat_le, ◌==◌, ◌||◌, ◌&&◌}
use Rattle.std.proofs.lemmas.Option.{none-some, same_Some}
use Rattle.std.proofs.lemmas.List.Elements.{All-contains}
use Rattle.bs_words.specs.Fits.{fits, type_of_comp, data_start}
use Rattle.bs_words.specs.declared.types.Comp.{Comp}
use Rattle.bs_words.specs.declared.values.Value.{Value}
use Rattle.bs_words.specs.declared.values.Value.TheVariants as value
use Rattle.bs_words.proofs.Lists.{first_in, head_same}
use Rattle.mach_ir.specs.Acts.{Around, AtHandler, Act, Goes, Pushes, Jumps, Unwinds, Asks, Replaces, Ends, EndsRaising, Stuck}
use Rattle.mach_ir.specs.Formed.{WellFormed}
use Rattle.mach_ir.specs.Runs.{ActivationSetting, asked_call, Continues, Pays, Waits, Tally, RunProgress, Running, runs, run_onward}
use Rattle.mach_ir.specs.Meaning.{is_addr, Held, State, File, assign_register, put_if, put_all, clear_registers, killed, registers_written, values, past_frame, passes_frame, mach_act, wrote, on_act, on_values, step, run_of_mach}
use Rattle.mach_ir.specs.Walks.{AmongRegisters, first, Live, IsRegister, in_results, is_in_code, is_param, StandsAsInstr, here, below}
use Rattle.mach_ir.specs.Keeps.{ValsWritten, OriginsAgree, wrote_unless, wrote_at, just_written, RunsAlike, SuitRound, Comes}
use Rattle.mach_ir.specs.declared.op.Op.TheVariants as op
use Rattle.mach_ir.specs.declared.op.Pure.TheVariants as pure
use Rattle.mach_ir.specs.declared.reg.Reg.{Reg}
use Rattle.mach_ir.specs.declared.mach.MachOp.{MachOp}
use Rattle.mach_ir.specs.declared.mach.MachOp.TheVariants as mach
use Rattle.mach_ir.specs.declared.mach.Instr.{Instr}
use Rattle.mach_ir.specs.declared.mach.Mach.{Mach}
use Rattle.mach_laws.proofs.General.{at}
use Rattle.mach_laws.proofs.Simulate.{Agrees}
use Rattle.mach_laws.proofs.Runs.{running_same}
use Rattle.mach_laws.proofs.Files.{put_other}
use Rattle.colouring_rules.proofs.Files.{put_here}
use Rattle.hoist_rules.specs.Hoisted.{FitsAlways, an_int, an_odd_val, MayMove, hoisted, MayAllMove}
use Rattle.hoist_rules.proofs.Moved as at_entry_of
use Rattle.hoist_rules.proofs.Moved.{member}
use Rattle.hoist_rules.proofs.Live as live

abbrev word_in : MachOp → ℕ
word_in (mach.Op (op.Pure (pure.Constant w))) = w
word_in _ = 0

always_fits : {t : Comp} {w : ℕ} (end : ℕ) → FitsAlways t w → fits end (type_of_comp t) (value.Word w) ≡ true
always_fits end an_int = refl
always_fits {w = w} end (an_odd_val e) = ap (λ n. (n == 1) || (nat_le data_start w && nat_le w end)) e

-- a write of a word that fits
pub puts_one : (end : ℕ) (r : Reg) (w : ℕ) (g : File) → FitsAlways r.comp w →
    put_all end (r ∷ []) (value.Word w ∷ []) g ≡ Some (assign_register r (value.Word w) g)
puts_one end r w g h = ap (λ b. put_if b r (value.Word w) (Some g)) (always_fits end h)

pub never_addr : {t : Comp} {w : ℕ} → FitsAlways t w → is_addr t ≡ false
never_addr an_int = refl
never_addr (an_odd_val e) = refl

module _ (m : Mach) (moves : ℕ → Bool) (may : MayAllMove m moves) where
  abbrev q : Mach
  q = hoisted moves m

  abbrev rest_of : Mach
  rest_of = at_entry_of.rest_of m moves may

  abbrev pub IsMade : ℕ → Type 0
  IsMade = at_entry_of.IsMade m moves may

  abbrev Front : List Instr → Type 0
  Front = at_entry_of.Front m moves may

  -- ---- what is held

  abbrev pub held_by : {i : Instr} {next : List Instr} → MayMove m i next → Held
  held_by v = record { comp = (v.register).comp; value = value.Word v.word }

  abbrev pub held : {n : ℕ} → IsMade n → Held
  held a = held_by (at_entry_of.move_of m moves may a)

  pub same_held : {i j : Instr} {next others : List Instr} (v : MayMove m i next) (u : MayMove m j others) → i ≡ j →
      held_by v ≡ held_by u
  same_held v u e =
      let t = sym v.is ∙ e ∙ u.is in
      let word : v.word ≡ u.word = ap (λ (i : Instr). word_in i.op) t in
      let reg : v.register ≡ u.register = head_same (ap (λ (i : Instr). i.results) t) in
      ap (λ (r : Reg). held_with r.comp v.word) reg ∙ ap (λ w. held_with (u.register).comp w) word
    where
      held_with : Comp → ℕ → Held
      held_with c w = record { comp = c; value = value.Word w }

  abbrev pub made_by_it : {n : ℕ} {i : Instr} {next : List Instr} → StandsAsInstr i next m.code → (h : moves (length next) ≡ true) →
      (v : MayMove m i next) → (v.register).number ≡ n → IsMade n
  made_by_it {n} {i} {next} s h v e =
      record {
        instr = i;
        next = next;
        stands = s;
        moves_so = h;
        among = subst (λ (i : Instr). AmongRegisters n i.results) (sym v.is) (first e);
      }

  -- the file after so much of the entry
  abbrev pub filled : {xs : List Instr} → Front xs → File → File
  filled at_entry_of.front_end b = b
  filled (at_entry_of.front_one {i = i} {next = next} s h k) b =
      filled k (assign_register (may i next s h).register (value.Word (may i next s h).word) b)

  pub filled_other : {xs : List Instr} (k : Front xs) (b : File) (n : ℕ) → (IsMade n → ⊥) → filled k b n ≡ b n
  filled_other at_entry_of.front_end b n free = refl
  filled_other (at_entry_of.front_one {i = i} {next = next} s h k) b n free =
      let v = may i next s h in
      filled_other k (assign_register v.register (value.Word v.word) b) n free
      ∙ put_other v.register (value.Word v.word) b n (λ e. free (made_by_it s h v e))

  put_stays : {n : ℕ} {i : Instr} {next : List Instr} → StandsAsInstr i next m.code → (h : moves (length next) ≡ true) →
      (v : MayMove m i next) (b : File) (a : IsMade n) → b n ≡ Some (held a) →
      assign_register v.register (value.Word v.word) b n ≡ Some (held a)
  put_stays {n} s h v b a e =
      ⊎_elim
      (λ t.
      let k = eqb-true (v.register).number n t in
      put_here v.register (value.Word v.word) b n k
      ∙ ap Some
      (same_held v (at_entry_of.move_of m moves may a) (at_entry_of.one_maker m moves may (made_by_it s h v k) a)))
      (λ t. put_other v.register (value.Word v.word) b n (λ k. both_ways (nat_eq (v.register).number n) t (eq-eqb (v.register).number n k)) ∙ e)
      (cases_Bool (nat_eq (v.register).number n))

  filled_stays : {n : ℕ} {xs : List Instr} (k : Front xs) (b : File) (a : IsMade n) → b n ≡ Some (held a) →
      filled k b n ≡ Some (held a)
  filled_stays at_entry_of.front_end b a e = e
  filled_stays (at_entry_of.front_one {i = i} {next = next} s h k) b a e =
      let v = may i next s h in
      filled_stays k (assign_register v.register (value.Word v.word) b) a (put_stays s h v b a e)

  filled_at : {n : ℕ} {j : Instr} {xs ys : List Instr} (k : Front xs) (b : File) (a : IsMade n) → a.instr ≡ j → StandsAsInstr j ys xs →
      filled k b n ≡ Some (held a)
  filled_at at_entry_of.front_end b a e t = elim t [ ]
  filled_at {n} (at_entry_of.front_one {i = i} {next = next} s h k) b a e here =
      let v = may i next s h in
      filled_stays k (assign_register v.register (value.Word v.word) b) a
      (put_here v.register (value.Word v.word) b n
      (at_entry_of.number_of m moves may v (subst (λ (i : Instr). AmongRegisters n i.results) e a.among))
      ∙ ap Some (same_held v (at_entry_of.move_of m moves may a) (sym e)))
  filled_at (at_entry_of.front_one {i = i} {next = next} s h k) b a e (below t) =
      let v = may i next s h in filled_at k (assign_register v.register (value.Word v.word) b) a e t

  abbrev pub entry_file : File → File
  entry_file b = filled (at_entry_of.whole_front m moves may) b

  pub entry_made : {n : ℕ} (b : File) (a : IsMade n) → entry_file b n ≡ Some (held a)
  entry_made b a =
      let t = at_entry_of.moved_there m moves may a.stands a.moves_so in
      filled_at (at_entry_of.whole_front m moves may) b a refl t.1

  -- ---- one origin

  pub made_register : {n : ℕ} (a : IsMade n) → IsRegister m (at_entry_of.move_of m moves may a).register
  made_register a =
      let v = at_entry_of.move_of m moves may a in
      is_in_code
      (live.stands_in_code m moves may a.stands
      (in_results (subst (λ (i : Instr). Contains i.results v.register) (sym v.is) (first_in v.register []))))

  module _ (formed : WellFormed m) where
    -- a register that is made at the entry has an origin of its own
    pub same_origin : (r k : Reg) → IsRegister m r → IsRegister m k → r.origin ≡ k.origin → IsMade r.number → r ≡ k
    same_origin r k i j e a =
        let v = at_entry_of.move_of m moves may a in
        let t : r ≡ v.register =
        formed.numbers r v.register i (made_register a) (sym (at_entry_of.made_number m moves may a)) in
        t ∙ sym (v.own k j (sym e ∙ ap (λ (r : Reg). r.origin) t))

    pub same_value : {r k : Reg} {x y : Held} (b : File) → r ≡ k → b r.number ≡ Some x → b k.number ≡ Some y → x.value ≡ y.value
    same_value b e s t = ap (λ (h : Held). h.value) (same_Some _ _ (sym s ∙ ap (λ (r : Reg). b r.number) e ∙ t))

    -- ---- with the entry, what is left does the same

    vals_same : (s : State) → ValsWritten rest_of s → ValsWritten q s
    vals_same s known =
        record {
          written = λ i next e frame r one val v none.
              known.written i next e frame r (live.to_rest m moves may r one) val (live.across_same m moves may v) none;
        }

    agree_same : (ws : List Reg) (s : State) → OriginsAgree rest_of ws s → OriginsAgree q ws s
    agree_same ws s known =
        record {
          agree = λ r k i j origin l e u v x y.
              known.agree r k (live.to_rest m moves may r i) (live.to_rest m moves may k j) origin (lived r l) (lived k e) u v x y;
        }
      where
        lived : (r : Reg) → Live q r.number s.rest ⊎ AmongRegisters r.number ws → Live rest_of r.number s.rest ⊎ AmongRegisters r.number ws
        lived r l = ⊎_elim (λ v. inl (live.live_same m moves may v)) inr l

    module _ (c : ActivationSetting) where
      act_same : (i : Instr) (next : List Instr) (g : File) (a : Around) (act : Act) →
          on_act c q i next g a act ≡ on_act c rest_of i next g a act
      act_same i next g a (Goes vs to after) =
          ap (λ code. wrote code after (put_all c.setting.end i.results vs (clear_registers (killed m i) g)))
          (at_entry_of.code_same m moves may next to)
      act_same i next g a (Pushes after) = refl
      act_same i next g a (Jumps to after) =
          ap (λ code. Pays (at code g after)) (at_entry_of.land_same m moves may (i ∷ next) to)
      act_same i next g a (Unwinds after) =
          ap (λ code. Continues (at code g after)) (at_entry_of.land_same m moves may (i ∷ next) AtHandler)
      act_same i next g a (Asks callee vs go) =
          ap (λ go. Waits (asked_call c callee vs false a) go) (fun_ext (λ d. act_same i next g a (go d)))
      act_same i next g a (Replaces callee vs kept) = refl
      act_same i next g a (Ends d) = refl
      act_same i next g a (EndsRaising d) = refl
      act_same i next g a Stuck = refl

      values_same : (i : Instr) (next : List Instr) (g : File) (a : Around) (o : Option (List Value)) →
          on_values c q i next g a o ≡ on_values c rest_of i next g a o
      values_same i next g a None = refl
      values_same i next g a (Some vs) =
          act_same i next (past_frame (passes_frame i.op) g) a (mach_act c.setting i.op vs a)

      step_at : (rest : List Instr) (g : File) (a : Around) → step c q (at rest g a) ≡ step c rest_of (at rest g a)
      step_at [] g a = refl
      step_at (i ∷ next) g a = values_same i next g a (values g i.args)

      step_same : (s : State) → step c q s ≡ step c rest_of s
      step_same s = step_at s.rest s.file s.around

      run_same : (n : ℕ) (s : State) (t : Tally) → run_of_mach c q n s t ≡ run_of_mach c rest_of n s t
      run_same n s t = ap (λ go. runs go n s t) (fun_ext step_same)

      wrote_same : (rest : List Instr) → wrote_at rest_of rest ≡ wrote_at q rest
      wrote_same [] = refl
      wrote_same (i ∷ next) = refl

      pub comes_same : {Suit : Around → Around → Type 0} {r : RunProgress State} {s : State} {t : Tally} →
          Comes Suit r c rest_of s t → Comes Suit r c q s t
      comes_same {Suit} {r} {s} {t} h =
          record {
            steps = h.steps;
            alike = subst (RunsAlike (SuitRound Suit) r) (sym (run_same h.steps s t)) h.alike;
            proper = record {
              goes = λ e. (h.proper).goes (sym (run_same h.steps s t) ∙ e);
              vals = λ k lt u y e. vals_same u ((h.proper).vals k lt u y (sym (run_same k s t) ∙ e));
              origins = λ k lt u v y z e f.
                  agree_same (just_written q u v) v
                  (subst (λ ws. OriginsAgree rest_of (wrote_unless v.around.raised ws) v) (wrote_same u.rest)
                  ((h.proper).origins k lt u v y z (sym (run_same k s t) ∙ e) (sym (run_same (suc k) s t) ∙ f)));
            };
          }

      -- ---- one step more before it

      comes_after : {Suit : Around → Around → Type 0} {r : RunProgress State} {s u : State} {t : Tally} → step c q s ≡ Continues u →
          ValsWritten q s → Agrees q (wrote_at q s.rest) u → Comes Suit r c q u t → Comes Suit r c q s t
      comes_after {Suit} {r} {s} {u} {t} e known agree h =
          record {
            steps = suc h.steps;
            alike = subst (RunsAlike (SuitRound Suit) r) (sym (shift h.steps)) h.alike;
            proper = record { goes = λ w. (h.proper).goes (sym (shift h.steps) ∙ w); vals = vals_by; origins = origins_by };
          }
        where
          shift : (k : ℕ) → run_of_mach c q (suc k) s t ≡ run_of_mach c q k u t
          shift k = ap (λ x. run_onward (run_of_mach c q k) x t) e

          vals_by : (k : ℕ) → k < suc h.steps → (v : State) (y : Tally) → run_of_mach c q k s t ≡ Running v y → ValsWritten q v
          vals_by zero lt v y w = subst (ValsWritten q) (running_same s v t y w) known
          vals_by (suc k) lt v y w = (h.proper).vals k (omega (arith, lt)) v y (sym (shift k) ∙ w)

          first_by : (v w : State) → s ≡ v → u ≡ w → OriginsAgree q (just_written q v w) w
          first_by v w a b =
              subst (λ (x : State). OriginsAgree q (just_written q x w) w) a
              (subst (λ (x : State). OriginsAgree q (just_written q s x) x) b agree)

          origins_by : (k : ℕ) → k < suc h.steps → (v w : State) (y z : Tally) → run_of_mach c q k s t ≡ Running v y →
              run_of_mach c q (suc k) s t ≡ Running w z → OriginsAgree q (just_written q v w) w
          origins_by zero lt v w y z a b = first_by v w (running_same s v t y a) (running_same u w t z (sym (shift 0) ∙ b))
          origins_by (suc k) lt v w y z a b =
              (h.proper).origins k (omega (arith, lt)) v w y z (sym (shift k) ∙ a) (sym (shift (suc k)) ∙ b)

    -- ---- the entry

    -- parameters alone hold something, and what has been made
    abbrev pub Holds : File → Type 0
    Holds b = (n : ℕ) → (b n ≡ None) ⊎ (AmongRegisters n m.params ⊎ IsMade n)

    param_origin : (r : Reg) → IsRegister m r → AmongRegisters r.number m.params → r.origin ≡ r.number
    param_origin r i a =
        let k = member m.params a in
        subst (λ (r : Reg). r.origin ≡ r.number) (formed.numbers k.reg r (is_param k.among) i k.number)
        (All-contains (λ (r : Reg). r.origin ≡ r.number) m.params k.reg formed.params k.among)

    agree_so : (ws : List Reg) (rest : List Instr) (b : File) (y : Around) → Holds b → OriginsAgree q ws (at rest b y)
    agree_so ws rest b y known =
        record {
          agree = λ r k i j origin l e u v s t.
              by r k (live.was_register m moves may r i) (live.was_register m moves may k j) origin u v s t
              (known r.number) (known k.number);
        }
      where
        by : (r k : Reg) → IsRegister m r → IsRegister m k → r.origin ≡ k.origin → (u v : Held) → b r.number ≡ Some u →
            b k.number ≡ Some v → (b r.number ≡ None) ⊎ (AmongRegisters r.number m.params ⊎ IsMade r.number) →
            (b k.number ≡ None) ⊎ (AmongRegisters k.number m.params ⊎ IsMade k.number) → u.value ≡ v.value
        by r k i j origin u v s t (inl e) z = absurd (none-some _ (sym e ∙ s))
        by r k i j origin u v s t (inr z) (inl e) = absurd (none-some _ (sym e ∙ t))
        by r k i j origin u v s t (inr (inr a)) (inr z) = same_value b (same_origin r k i j origin a) s t
        by r k i j origin u v s t (inr (inl p)) (inr (inr a)) = sym (same_value b (same_origin k r j i (sym origin) a) t s)
        by r k i j origin u v s t (inr (inl p)) (inr (inl o)) =
            same_value b
            (formed.numbers r k i j (sym (param_origin r i p) ∙ origin ∙ param_origin k j o)) s t

    holds_put : {i : Instr} {next : List Instr} → StandsAsInstr i next m.code → (h : moves (length next) ≡ true) →
        (v : MayMove m i next) (b : File) → Holds b → Holds (assign_register v.register (value.Word v.word) b)
    holds_put s h v b known n =
        ⊎_elim (λ t. inr (inr (made_by_it s h v (eqb-true (v.register).number n t))))
        (λ t.
        subst (λ o. (o ≡ None) ⊎ (AmongRegisters n m.params ⊎ IsMade n))
        (sym
        (put_other v.register (value.Word v.word) b n
        (λ k. both_ways (nat_eq (v.register).number n) t (eq-eqb (v.register).number n k))))
        (known n))
        (cases_Bool (nat_eq (v.register).number n))

    module _ (c : ActivationSetting) where
      step_makes : {i : Instr} {next : List Instr} (v : MayMove m i next) (zs : List Instr) (b : File) (y : Around) →
          step c q (at (i ∷ zs) b y) ≡ Continues (at zs (assign_register v.register (value.Word v.word) b) y)
      step_makes v zs b y =
          ap (λ (i : Instr). step c q (at (i ∷ zs) b y)) v.is
          ∙ ap (wrote zs y) (puts_one c.setting.end v.register v.word b v.fits)

      no_frame : {i : Instr} {next : List Instr} (v : MayMove m i next) (zs : List Instr) (b : File) (y : Around) →
          ValsWritten q (at (i ∷ zs) b y)
      no_frame v zs b y =
          record {
            written = λ j others e frame r one val live.
                absurd
                (both_ways (passes_frame j.op) (ap (λ (i : Instr). passes_frame i.op) (sym (head_same e) ∙ v.is)) frame);
          }

      pub comes_through : {Suit : Around → Around → Type 0} {r : RunProgress State} {t : Tally} {xs : List Instr} (k : Front xs) (b : File)
          (y : Around) → Holds b → Comes Suit r c q (at rest_of.code (filled k b) y) t →
          Comes Suit r c q (at (xs ++ rest_of.code) b y) t
      comes_through at_entry_of.front_end b y known h = h
      comes_through (at_entry_of.front_one {i = i} {next = next} {xs = xs} s e k) b y known h =
          let v = may i next s e in
          let more = holds_put s e v b known in
          comes_after c (step_makes v (xs ++ rest_of.code) b y) (no_frame v (xs ++ rest_of.code) b y)
          (agree_so (wrote_unless y.raised (registers_written q i)) (xs ++ rest_of.code) (assign_register v.register (value.Word v.word) b) y more)
          (comes_through k (assign_register v.register (value.Word v.word) b) y more h)
