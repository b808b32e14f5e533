-- What is live in a function whose copies are propagated was live, or is the source of a copy that stands.
use Rattle.std.proofs.Common.{◌≡◌, ℕ, true, false, ◌⊎◌, inl, inr, ⊎_elim, List, [], ◌∷◌, length, map, refl, sym, ap, ◌∙◌, subst}
use Rattle.std.proofs.lemmas.Bool.{cases_eq, both_ways}
use Rattle.std.specs.List.{Contains}
use Rattle.std.proofs.lemmas.List.Elements.{All-contains, Contains-append_left}
use Rattle.bs_words.specs.declared.types.Comp.TheVariants as comp
use Rattle.bs_words.specs.declared.types.Loc.TheVariants as loc
use Rattle.bs_words.proofs.Lists.{first_in}
use Rattle.cse_copy_rules.specs.Propagated.{move_instruction, ReadFor, instr_with_sources, alone_with_sources, with_sources, IsPropagatedBefore}
use Rattle.mach_ir.specs.Formed.{IsFormedInstruction, WellFormed}
use Rattle.mach_ir.specs.Meaning.{passes_frame}
use Rattle.mach_ir.specs.Placed.{is_straight}
use Rattle.mach_ir.specs.Walks.{AmongRegisters, Writes, Live, read, LiveAfter, LiveAcross, IsRegister, is_in_code, NoAddrLive, IsMove, is_move, Meets, at_write, at_params}
use Rattle.mach_ir.specs.declared.reg.Reg.{Reg}
use Rattle.mach_ir.specs.declared.mach.MachOp.{MachOp}
use Rattle.mach_ir.specs.declared.mach.Instr.{Instr}
use Rattle.mach_ir.specs.declared.mach.Mach.{Mach}
use Rattle.mach_laws.specs.Expand.{Ending, all, expand}
use Rattle.mach_laws.proofs.Places.{stands_of, ending_of, args_in, contains_of, stands_in}
use Rattle.mach_laws.proofs.Among.{number_among, among_of}
use Rattle.cse_repeat_rules.specs.Repeated.{allocates}
use Rattle.cse_repeat_rules.proofs.OneForOne as one
use Rattle.mach_laws.proofs.InPlace.{both}
use Rattle.cse_repeat_rules.proofs.OneForOne.{in_append}
use Rattle.cse_repeat_rules.proofs.Standing.{straight_frame}
use Rattle.cse_copy_rules.proofs.Form.{alike, in_map, was_register}
use Rattle.cse_copy_rules.proofs.Standing.{Standing, Earlier, just_now, earlier, earlier_of, not_at_label, not_at_handler, ReadAt, from_source, as_it_is, read_at}

module _ (m : Mach) (plan : ℕ → Reg → Reg) (formed : WellFormed m)
    (reads : (i : Instr) (next made : List Instr) → IsPropagatedBefore plan m i next made → (r : Reg) → Contains i.args r →
    ReadFor made r (plan (length next) r)) where
  abbrev pub q : Mach
  q = record m { code = with_sources plan m.code }

  abbrev pub f : ℕ → Instr → List Instr
  f = alone_with_sources plan

  form_of : (i : Instr) → Contains m.code i → IsFormedInstruction i
  form_of i c = All-contains IsFormedInstruction m.code i formed.instrs c

  pub read_here : {i : Instr} {next : List Instr} → Ending (i ∷ next) m.code → (r : Reg) → Contains i.args r →
      ReadAt m plan (i ∷ next) r (plan (length next) r)
  read_here {i} {next} ending r c =
      let s = stands_of ending in read_at m plan reads i next s (form_of i (contains_of s)) r c

  -- the move that made a copy is in the second too
  move_there : {rest : List Instr} (c s : Reg) → Standing m plan rest c s → Contains q.code (move_instruction s c)
  move_there {rest} c s w =
      let t = w.copies in
      subst (λ xs. Contains xs (move_instruction s c)) (sym w.whole)
      (Contains-append_left w.made (expand f rest) (move_instruction s c)
      (subst (λ xs. Contains xs (move_instruction s c)) (sym t.within) (in_append t.others (move_instruction s c) t.run)))

  -- the source of a copy that stands is a register of both
  pub standing_register : {rest : List Instr} (c s : Reg) → Standing m plan rest c s → IsRegister m s
  standing_register c s w =
      let t = stands_in q.code (move_instruction s c) (move_there c s w) in
      was_register m plan reads s (is_in_code (args_in t.1 (first_in s [])))

  -- ---- what is live

  -- the source of a copy that stands where a code is left
  pub record Source (n : ℕ) (rest : List Instr) : Type 0 where
    pub copy : Reg
    pub register : Reg
    pub standing : Standing m plan rest copy register
    pub number : register.number ≡ n

  abbrev Was : ℕ → List Instr → Type 0
  Was n rest = Live m n rest ⊎ Source n rest

  -- Where one stands after an instruction, that reads it for a move, or leaves it.
  pub data Stood (n : ℕ) (i : Instr) (next : List Instr) : Type 0 where
    moved : passes_frame i.op ≡ false → AmongRegisters n (instr_with_sources plan (length next) i).args → Stood n i next
    left : (before : Source n (i ∷ next)) → is_straight i.op ≡ true →
        ((before.register).comp ≡ comp.Addr → allocates i.op ≡ false) → Stood n i next

  stood_before : {n : ℕ} {i : Instr} {next : List Instr} → Ending (i ∷ next) m.code → Source n next → Stood n i next
  stood_before {n} {i} {next} ending x = by (earlier_of m plan ending x.copy x.register x.standing)
    where
      by : Earlier m plan i next x.copy x.register → Stood n i next
      by (just_now e) =
          moved (ap (λ (y : Instr). passes_frame y.op) e)
          (subst (λ (y : Instr). AmongRegisters n y.args) (sym e)
          (subst (λ k. AmongRegisters k (x.register ∷ [])) x.number (among_of x.register (x.register ∷ []) (first_in x.register []))))
      by (earlier w st apart ends kept) =
          left (record { copy = x.copy; register = x.register; standing = w; number = x.number }) st kept

  read_back : {n : ℕ} (i : Instr) (next : List Instr) → Ending (i ∷ next) m.code →
      AmongRegisters n (instr_with_sources plan (length next) i).args → Was n (i ∷ next)
  read_back {n} i next ending a =
      let k = number_among (map (plan (length next)) i.args) a in
      let w = in_map (plan (length next)) i.args k.0 k.1 in
      by (read_here ending w.register w.among) w.among (ap (λ (r : Reg). r.number) w.same ∙ k.2)
    where
      by : {r s : Reg} → ReadAt m plan (i ∷ next) r s → Contains i.args r → s.number ≡ n → Was n (i ∷ next)
      by {r} {s} (from_source t) c e = inr (record { copy = r; register = s; standing = t; number = e })
      by {r} as_it_is c e = inl (read (subst (λ k. AmongRegisters k i.args) e (among_of r i.args c)))

  of_stood : {n : ℕ} (i : Instr) (next : List Instr) → Ending (i ∷ next) m.code → Stood n i next → Was n (i ∷ next)
  of_stood i next ending (moved frame a) = read_back i next ending a
  of_stood i next ending (left before st kept) = inr before

  extra : one.IsExtra (instr_with_sources plan) (alike plan) m Source Stood
  extra =
      record {
        reads = λ n i next ending a. read_back i next ending a;
        left = λ n i next ending free x. stood_before ending x;
        before = λ n i next ending s. of_stood i next ending s;
        at_label = λ n l x. not_at_label m plan l x.copy x.register x.standing;
        at_handler = λ n l x. not_at_handler m plan l x.copy x.register x.standing;
      }

  pub across_back : {n : ℕ} {i : Instr} {next : List Instr} → Ending (i ∷ next) m.code →
      LiveAcross q n (instr_with_sources plan (length next) i) (expand f next) → LiveAcross m n i next ⊎ Stood n i next
  across_back ending v = one.across_back (instr_with_sources plan) (alike plan) m Source Stood extra ending v

  -- a register of this number, whose place is open
  pub record IsOpen (n : ℕ) : Type 0 where
    pub register : Reg
    pub among : IsRegister m register
    pub number : register.number ≡ n
    pub is_open : register.loc ≡ loc.Unset

  source_open : {n : ℕ} {rest : List Instr} → Source n rest → IsOpen n
  source_open x =
      record {
        register = x.register;
        among = standing_register x.copy x.register x.standing;
        number = x.number;
        is_open = ((x.standing).copies).source_open;
      }

  -- ---- the graph

  -- an instruction is a move where it is one with its sources, or what it moves is a copy
  module _ (n k : ℕ) (i : Instr) (next : List Instr) (ending : Ending (i ∷ next) m.code) where
    was_move : (IsMove k n (instr_with_sources plan (length next) i) → ⊥) → (IsMove k n i → ⊥) ⊎ IsOpen k
    was_move free = by i.args refl
      where
        none : (g : MachOp) (rs : List Reg) → IsMove k n (record { op = g; args = []; results = rs }) → ⊥
        none g rs x = elim x [ ]

        two : (g : MachOp) (a b : Reg) (as' rs : List Reg) → IsMove k n (record { op = g; args = a ∷ b ∷ as'; results = rs }) → ⊥
        two g a b as' rs x = elim x [ ]

        moves_it : (g : MachOp) (r : Reg) (rs : List Reg) → IsMove k n (record { op = g; args = r ∷ []; results = rs }) →
            r.number ≡ k
        moves_it g r rs (is_move e h) = e

        one : (r s : Reg) → i.args ≡ r ∷ [] → ReadAt m plan (i ∷ next) r s → plan (length next) r ≡ s →
            (IsMove k n i → ⊥) ⊎ IsOpen k
        one r s e (from_source t) h =
            ⊎_elim
            (λ z.
            inr
            (record {
              register = r;
              among = is_in_code (args_in (stands_of ending) (subst (λ rs. Contains rs r) (sym e) (first_in r [])));
              number = z;
              is_open = (t.copies).copy_open;
            }))
            (λ z. inl (λ x. z (moves_it i.op r i.results (subst (λ rs. IsMove k n (record i { args = rs })) e x))))
            (cases_eq r.number k)
        one r s e as_it_is h =
            inl
            (λ x.
            free
            (subst (λ rs. IsMove k n (record i { args = map (plan (length next)) rs })) (sym e)
            (subst (λ z. IsMove k n (record i { args = z ∷ [] })) (sym h)
            (subst (λ rs. IsMove k n (record i { args = rs })) e x))))

        by : (rs : List Reg) → i.args ≡ rs → (IsMove k n i → ⊥) ⊎ IsOpen k
        by [] e = inl (λ x. none i.op i.results (subst (λ rs. IsMove k n (record i { args = rs })) e x))
        by (r ∷ []) e =
            one r (plan (length next) r) e (read_here ending r (subst (λ rs. Contains rs r) (sym e) (first_in r []))) refl
        by (a ∷ b ∷ others) e =
            inl (λ x. two i.op a b others i.results (subst (λ rs. IsMove k n (record i { args = rs })) e x))

  pub meets_back : {n k : ℕ} → Meets q n k → Meets m n k ⊎ IsOpen k
  meets_back {n} {k} (at_write j zs s w v apart) =
      both (instr_with_sources plan) m.code
      (λ j zs. Writes q j n → LiveAfter q k j zs → (IsMove k n j → ⊥) → Meets m n k ⊎ IsOpen k)
      (λ i next s w v apart.
      ⊎_elim
      (λ l.
      ⊎_elim (λ free. inl (at_write i next s w l free)) (λ x. inr x) (was_move n k i next (ending_of s) apart))
      (λ x. inr (source_open x)) (one.after_back (instr_with_sources plan) (alike plan) m Source Stood extra (ending_of s) v))
      j zs s w v apart
  meets_back (at_params a v) =
      ⊎_elim (λ l. inl (at_params a l)) (λ x. inr (source_open x)) (one.live_back (instr_with_sources plan) (alike plan) m Source Stood extra v m.code all refl)

  -- ---- frame points

  -- a source that an instruction leaves is lost at no frame point
  stood_frame : {i : Instr} {next : List Instr} (r : Reg) → IsRegister m r → r.comp ≡ comp.Addr → passes_frame i.op ≡ true →
      Stood r.number i next → ⊥
  stood_frame {i} r one addr frame (moved quiet a) = both_ways (passes_frame i.op) quiet frame
  stood_frame {i} r one addr frame (left b straight kept) =
      let same : r ≡ b.register =
      formed.numbers r b.register one (standing_register b.copy b.register b.standing) (sym b.number) in
      both_ways (passes_frame i.op) (straight_frame i.op straight ∙ kept (ap (λ (x : Reg). x.comp) (sym same) ∙ addr)) frame

  pub no_addr_back : NoAddrLive m → NoAddrLive (record m { code = with_sources plan m.code })
  no_addr_back none =
      one.no_addr_back (instr_with_sources plan) (alike plan) m Source Stood extra (was_register m plan reads)
      (λ i next r known addr frame s. stood_frame r known addr frame s) none
