-- What is live in a function whose repeats are moves was live, or is a result that still stands.
use Rattle.std.proofs.Common.{◌≡◌, ◌≢◌, ℕ, true, false, ◌⊎◌, inl, inr, ⊎_elim, List, [], ◌∷◌, length, Option, Some, refl, sym, ap, ◌∙◌, subst}
use Rattle.std.specs.List.{Contains}
use Rattle.std.proofs.lemmas.Bool.{both_ways}
use Rattle.std.proofs.lemmas.List.Elements.{Contains-append_left}
use Rattle.bs_words.specs.declared.types.Comp.TheVariants as comp
use Rattle.bs_words.proofs.Lists.{first_in}
use Rattle.mach_ir.specs.Meaning.{killed, registers_written, passes_frame}
use Rattle.mach_ir.specs.Placed.{is_straight}
use Rattle.mach_ir.specs.Walks.{AmongRegisters, first, later, Writes, Live, read, LiveAfter, LiveAcross, IsRegister, is_in_code, NoAddrLive, StandsAsInstr, IsMove, is_move, Meets, at_write, at_params}
use Rattle.mach_ir.specs.declared.reg.Reg.{Reg}
use Rattle.mach_ir.specs.declared.mach.Instr.{Instr}
use Rattle.mach_ir.specs.declared.mach.Mach.{Mach}
use Rattle.mach_laws.specs.Expand.{Ending, all, expand}
use Rattle.mach_laws.proofs.Places.{stands_of, ending_of, results_in}
use Rattle.mach_laws.proofs.Among.{none_among, left_among, split_among, number_among, among_of}
use Rattle.cse_repeat_rules.specs.Repeated.{is_operator, allocates, EndsHeldValue, RepeatsEarlier, instr_with_earlier, alone_with_earlier, with_moves, IsRepeatedBefore}
use Rattle.cse_repeat_rules.proofs.OneForOne as one
use Rattle.mach_laws.proofs.InPlace.{was_main}
use Rattle.cse_repeat_rules.proofs.OneForOne.{in_append, written_same}
use Rattle.cse_repeat_rules.proofs.Form.{Fate, unchanged, moved, fate, alike, operator_result, was_register}
use Rattle.cse_repeat_rules.proofs.Standing.{operator_straight, straight_kills, straight_frame, Standing, Earlier, just_now, earlier, earlier_of, not_at_entry, not_at_label, not_at_handler, repeated}

among_one : {n : ℕ} {r : Reg} → AmongRegisters n (r ∷ []) → r.number ≡ n
among_one (first e) = e
among_one (later a) = absurd (none_among a)

module _ (m : Mach) (plan : ℕ → Option Reg)
    (moves : (i : Instr) (next made : List Instr) → IsRepeatedBefore plan m i next made → is_operator i.op ≡ true → (r : Reg) →
    plan (length next) ≡ Some r → RepeatsEarlier made i r) where
  abbrev pub q : Mach
  q = record m { code = with_moves plan m.code }

  abbrev pub f : ℕ → Instr → List Instr
  f = alone_with_earlier plan

  -- the result of an operator that stands is a register of both
  pub standing_register : {rest : List Instr} (j : Instr) (r : Reg) → Standing m plan rest j r → IsRegister m r
  standing_register {rest} j r w =
      let t = w.stands in
      operator_result m plan moves j r
      (subst (λ xs. Contains xs j) (sym w.whole)
      (Contains-append_left w.made (expand f rest) j
      (subst (λ xs. Contains xs j) (sym t.within) (in_append t.others j t.run))))
      t.operates (subst (λ rs. Contains rs r) (sym t.result) (first_in r []))

  -- ---- what is live

  -- the result of an operator that stands where a code is left
  pub record Result (n : ℕ) (rest : List Instr) : Type 0 where
    pub instr : Instr
    pub register : Reg
    pub standing : Standing m plan rest instr register
    pub number : register.number ≡ n

  abbrev Was : ℕ → List Instr → Type 0
  Was n rest = Live m n rest ⊎ Result n rest

  -- one that an instruction leaves
  pub record Stood (n : ℕ) (i : Instr) (next : List Instr) : Type 0 where
    pub before : Result n (i ∷ next)
    pub straight : is_straight i.op ≡ true
    pub kept : (before.register).comp ≡ comp.Addr → allocates i.op ≡ false

  stood_before : {n : ℕ} {i : Instr} {next : List Instr} → Ending (i ∷ next) m.code → (Writes m i n → ⊥) → Result n next →
      Stood n i next
  stood_before {n} {i} {next} ending free x = by (earlier_of m plan ending x.instr x.register x.standing)
    where
      by : Earlier m plan i next x.instr x.register → Stood n i next
      by (just_now e) =
          absurd
          (free
          (left_among i.results (killed m i)
          (subst (λ k. AmongRegisters k i.results) x.number
          (among_of x.register i.results
          (subst (λ (j : Instr). Contains j.results x.register) e
          (subst (λ rs. Contains rs x.register) (sym ((x.standing).stands).result) (first_in x.register [])))))))
      by (earlier w st apart ends kept) =
          record {
            before = record { instr = x.instr; register = x.register; standing = w; number = x.number };
            straight = st;
            kept = kept;
          }

  read_back : {n : ℕ} (i : Instr) (next : List Instr) → Ending (i ∷ next) m.code →
      AmongRegisters n (instr_with_earlier plan (length next) i).args → Was n (i ∷ next)
  read_back {n} i next ending a = by (fate plan (length next) i)
    where
      by : Fate plan (length next) i → Was n (i ∷ next)
      by (unchanged e s) = inl (read (subst (λ (x : Instr). AmongRegisters n x.args) e a))
      by (moved r g s e) =
          let w = repeated m plan moves (stands_of ending) g s in
          inr
          (record {
            instr = w.instr;
            register = r;
            standing = w.standing;
            number = among_one (subst (λ (x : Instr). AmongRegisters n x.args) e a);
          })

  extra : one.IsExtra (instr_with_earlier plan) (alike plan) m Result Stood
  extra =
      record {
        reads = λ n i next ending a. read_back i next ending a;
        left = λ n i next ending free x. stood_before ending free x;
        before = λ n i next ending s. inr s.before;
        at_label = λ n l x. not_at_label m plan l x.instr x.register x.standing;
        at_handler = λ n l x. not_at_handler m plan l x.instr x.register x.standing;
      }

  pub across_back : {n : ℕ} {i : Instr} {next : List Instr} → Ending (i ∷ next) m.code →
      LiveAcross q n (instr_with_earlier plan (length next) i) (expand f next) → LiveAcross m n i next ⊎ Stood n i next
  across_back ending v = one.across_back (instr_with_earlier plan) (alike plan) m Result Stood extra ending v

  -- ---- the graph

  -- registers of these numbers, of which a write of the one does not end what the other holds
  pub record Apart (n k : ℕ) : Type 0 where
    pub one : Reg
    pub other : Reg
    pub is_one : IsRegister m one
    pub is_other : IsRegister m other
    pub number : one.number ≡ n
    pub other_number : other.number ≡ k
    pub stands : EndsHeldValue other one → ⊥

  move_plain : {n k : ℕ} {i : Instr} → IsMove n k i → is_operator i.op ≡ false
  move_plain (is_move e h) = refl

  meets_write : {n k : ℕ} (i : Instr) (next : List Instr) → n ≢ k → Ending (i ∷ next) m.code → StandsAsInstr i next m.code →
      Writes m i n → Result k next → Apart n k
  meets_write {n} {k} i next differs ending s w x = by (earlier_of m plan ending x.instr x.register x.standing)
    where
      in_results_of : is_straight i.op ≡ true → AmongRegisters n i.results
      in_results_of st =
          ⊎_elim (λ a. a) (λ a. absurd (none_among (subst (AmongRegisters n) (straight_kills m i st) a)))
          (split_among n i.results (killed m i) w)

      by : Earlier m plan i next x.instr x.register → Apart n k
      by (just_now e) =
          let st = subst (λ (j : Instr). is_straight j.op ≡ true) e
          (operator_straight (x.instr).op ((x.standing).stands).operates) in
          absurd
          (differs
          (sym
          (among_one
          (subst (AmongRegisters n) (ap (λ (j : Instr). j.results) (sym e) ∙ ((x.standing).stands).result) (in_results_of st)))
          ∙ x.number))
      by (earlier v st apart ends kept) =
          let r = number_among i.results (in_results_of st) in
          record {
            one = r.0;
            other = x.register;
            is_one = is_in_code (results_in s r.1);
            is_other = standing_register x.instr x.register x.standing;
            number = r.2;
            other_number = x.number;
            stands = ends r.0 r.1;
          }

  pub meets_back : {n k : ℕ} → n ≢ k → Meets q n k → Meets m n k ⊎ Apart n k
  meets_back {n} {k} differs (at_write j zs s w v apart) =
      let o = was_main (instr_with_earlier plan) m.code j zs s in
      by o.instr o.next o.stands
      (subst (AmongRegisters n) (written_same (instr_with_earlier plan) (alike plan) m (length o.next) o.instr) (subst (λ x. AmongRegisters n (registers_written m x)) (sym o.same) w))
      (subst (λ ys. LiveAfter q k (instr_with_earlier plan (length o.next) o.instr) ys) o.same_next
      (subst (λ (x : Instr). LiveAfter q k x zs) (sym o.same) v))
      (λ x. not_move o.instr (length o.next) (subst (λ (y : Instr). IsMove k n y → ⊥) (sym o.same) apart) x)
    where
      not_move : (i : Instr) (p : ℕ) → (IsMove k n (instr_with_earlier plan p i) → ⊥) → IsMove k n i → ⊥
      not_move i p h x = of_fate (fate plan p i)
        where
          of_fate : Fate plan p i → ⊥
          of_fate (unchanged e s) = h (subst (IsMove k n) (sym e) x)
          of_fate (moved r g s e) = both_ways (is_operator i.op) (move_plain x) g

      by : (i : Instr) (next : List Instr) → StandsAsInstr i next m.code → Writes m i n →
          LiveAfter q k (instr_with_earlier plan (length next) i) (expand f next) → (IsMove k n i → ⊥) → Meets m n k ⊎ Apart n k
      by i next s w v free =
          ⊎_elim (λ l. inl (at_write i next s w l free)) (λ x. inr (meets_write i next differs (ending_of s) s w x))
          (one.after_back (instr_with_earlier plan) (alike plan) m Result Stood extra (ending_of s) v)
  meets_back differs (at_params a v) =
      ⊎_elim (λ l. inl (at_params a l)) (λ x. absurd (not_at_entry m plan x.instr x.register x.standing))
      (one.live_back (instr_with_earlier plan) (alike plan) m Result Stood extra v m.code all refl)

  module _ (numbers : (r k : Reg) → IsRegister m r → IsRegister m k → r.number ≡ k.number → r ≡ k) where
    -- a result that an instruction leaves is lost at no frame point
    stood_frame : {i : Instr} {next : List Instr} (r : Reg) → IsRegister m r → r.comp ≡ comp.Addr → passes_frame i.op ≡ true →
        Stood r.number i next → ⊥
    stood_frame {i} r one addr frame s =
        let b = s.before in
        let same : r ≡ b.register =
        numbers r b.register one (standing_register b.instr b.register b.standing) (sym b.number) in
        both_ways (passes_frame i.op) (straight_frame i.op s.straight ∙ s.kept (ap (λ (x : Reg). x.comp) (sym same) ∙ addr)) frame

    pub no_addr_back : NoAddrLive m → NoAddrLive (record m { code = with_moves plan m.code })
    no_addr_back none =
        one.no_addr_back (instr_with_earlier plan) (alike plan) m Result Stood extra (was_register m plan moves)
        (λ i next r known addr frame s. stood_frame r known addr frame s) none
