-- A copy that stands and its source hold one value.
use Rattle.std.proofs.Common.{◌≡◌, ℕ, Bool, true, false, cond, ⊎_elim, List, [], ◌∷◌, length, map, Option, Some, None, refl, sym, ap, ◌∙◌, subst}
use Rattle.std.proofs.lemmas.Bool.{cases_eq}
use Rattle.std.specs.List.{Contains}
use Rattle.std.specs.Prelude.{nat_eq}
use Rattle.std.proofs.lemmas.Option.{none-some, same_Some}
use Rattle.bs_words.specs.declared.types.Comp.TheVariants as comp
use Rattle.bs_words.specs.declared.values.Value.{Value}
use Rattle.bs_words.proofs.Lists.{first_in, later_in}
use Rattle.cse_repeat_rules.proofs.Known.{frame_loses}
use Rattle.cse_copy_rules.specs.Propagated.{move_instruction, ReadFor, instr_with_sources, IsPropagatedBefore}
use Rattle.mach_ir.specs.Acts.{Around, On, Goes}
use Rattle.mach_ir.specs.Formed.{WellFormed}
use Rattle.mach_ir.specs.Meaning.{Held, File, assign_register, put_all, clear_registers, killed, values, with_held, past_frame, passes_frame, mach_act}
use Rattle.mach_ir.specs.Placed.{is_straight}
use Rattle.mach_ir.specs.Runs.{ActivationSetting}
use Rattle.mach_ir.specs.Walks.{IsRegister, AmongRegisters}
use Rattle.mach_ir.specs.declared.reg.Reg.{Reg}
use Rattle.mach_ir.specs.declared.mach.Instr.{Instr}
use Rattle.mach_ir.specs.declared.mach.Mach.{Mach}
use Rattle.mach_laws.specs.Expand.{Ending}
use Rattle.mach_laws.proofs.Among.{number_among}
use Rattle.mach_laws.proofs.Files.{PutAll, nil, cons, put_other, put_same, put_of}
use Rattle.cse_repeat_rules.specs.Repeated.{allocates, itself}
use Rattle.cse_repeat_rules.proofs.Held.{Fresh, stays, past_kept}
use Rattle.cse_repeat_rules.proofs.Standing.{straight_kills, straight_frame}
use Rattle.cse_copy_rules.proofs.Live.{standing_register, read_here}
use Rattle.cse_copy_rules.proofs.Standing.{Standing, Earlier, just_now, earlier, earlier_of, ReadAt, from_source, as_it_is}

-- ---- files

-- one that holds something else for each of these registers, of the same value
abbrev HoldsSo : File → Reg → Reg → Type 0
HoldsSo a r s = (h : Held) → a r.number ≡ Some h → (k : Held) × (a s.number ≡ Some k) × (k.value ≡ h.value)

-- what is read from others, where they hold the same values
pub read_so : (a : File) (p : Reg → Reg) (rs : List Reg) → ((r : Reg) → Contains rs r → HoldsSo a r (p r)) → (vs : List Value) →
    values a rs ≡ Some vs → values a (map p rs) ≡ Some vs
read_so a p [] same vs e = e
read_so a p (r ∷ rs) same vs e =
    by (a r.number) (values a rs) refl refl e (λ us. read_so a p rs (λ k c. same k (later_in r k rs c)) us)
  where
    by : (o : Option Held) (x : Option (List Value)) → a r.number ≡ o → values a rs ≡ x → with_held o x ≡ Some vs →
        ((us : List Value) → values a rs ≡ Some us → values a (map p rs) ≡ Some us) →
        with_held (a (p r).number) (values a (map p rs)) ≡ Some vs
    by None x g h e ih = absurd (none-some _ e)
    by (Some held) None g h e ih = absurd (none-some _ e)
    by (Some held) (Some us) g h e ih =
        let k = same r (first_in r rs) held g in
        ap (λ o. with_held o (values a (map p rs))) k.1 ∙ ap (with_held (Some k.0)) (ih us h)
        ∙ ap (λ v. Some (v ∷ us)) k.2 ∙ e

put_is : {end : ℕ} {a : File} {r : Reg} {v : Value} {d : File} → PutAll end a (r ∷ []) (v ∷ []) d → d ≡ assign_register r v a
put_is (cons e nil) = refl

-- what one register is read as
record ReadOne (a : File) (r : Reg) (vs : List Value) : Type 0 where
  held : Held
  holds : a r.number ≡ Some held
  one : vs ≡ held.value ∷ []

read_one : (a : File) (r : Reg) (vs : List Value) → values a (r ∷ []) ≡ Some vs → ReadOne a r vs
read_one a r vs e = by (a r.number) refl e
  where
    by : (o : Option Held) → a r.number ≡ o → with_held o (Some []) ≡ Some vs → ReadOne a r vs
    by None g e = absurd (none-some _ e)
    by (Some h) g e = record { held = h; holds = g; one = sym (same_Some _ _ e) }

clear_loses : (ks : List Reg) (a : File) (n : ℕ) (h : Held) → clear_registers ks a n ≡ Some h → a n ≡ Some h
clear_loses [] a n h e = e
clear_loses (k ∷ ks) a n h e = by (nat_eq k.number n) e (λ g. clear_loses ks a n h g)
  where
    by : (b : Bool) → cond b None (clear_registers ks a n) ≡ Some h → (clear_registers ks a n ≡ Some h → a n ≡ Some h) → a n ≡ Some h
    by true e ih = absurd (none-some _ e)
    by false e ih = ih e

module _ (m : Mach) (formed : WellFormed m) where
  -- what a register holds is of its component
  abbrev pub Typed : File → Type 0
  Typed a = (r : Reg) → IsRegister m r → (h : Held) → a r.number ≡ Some h → h.comp ≡ r.comp

  pub nothing_typed : Typed (λ n. None)
  nothing_typed r i h e = absurd (none-some _ e)

  put_typed : {end : ℕ} {a : File} {rs : List Reg} {vs : List Value} {d : File} → PutAll end a rs vs d →
      ((r : Reg) → Contains rs r → IsRegister m r) → Typed a → Typed d
  put_typed nil known typed k i h g = typed k i h g
  put_typed (cons {r = r} {v = v} {rs = rs} {d = d} e p) known typed k i h g =
      ⊎_elim
      (λ s.
      let same : r ≡ k = formed.numbers r k (known r (first_in r rs)) i s in
      let here : Fresh r v ≡ Some h =
      sym (put_same r v d) ∙ ap (assign_register r v d) s ∙ g in
      sym (ap (λ (x : Held). x.comp) (same_Some _ _ here)) ∙ ap (λ (x : Reg). x.comp) same)
      (λ s.
      put_typed p (λ x c. known x (later_in r x rs c)) typed k i h (sym (put_other r v d k.number s) ∙ g))
      (cases_eq r.number k.number)

  pub written_typed : (end : ℕ) (rs ks : List Reg) (vs : List Value) (a d : File) → ((r : Reg) → Contains rs r → IsRegister m r) →
      Typed a → put_all end rs vs (clear_registers ks a) ≡ Some d → Typed d
  written_typed end rs ks vs a d known typed e =
      put_typed (put_of end rs vs (clear_registers ks a) d e) known
      (λ r i h g. typed r i h (clear_loses ks a r.number h g))

  pub past_typed : (t : Bool) (a : File) → Typed a → Typed (past_frame t a)
  past_typed t a typed r i h e = typed r i h (frame_loses t a r.number h e)

  module _ (plan : ℕ → Reg → Reg)
      (reads : (i : Instr) (next made : List Instr) → IsPropagatedBefore plan m i next made → (r : Reg) → Contains i.args r →
      ReadFor made r (plan (length next) r)) (c : ActivationSetting) where
    pub record Holding (a : File) (copy source : Reg) : Type 0 where
      pub value : Value
      pub of_copy : a copy.number ≡ Fresh copy value
      pub of_source : a source.number ≡ Fresh source value

    abbrev pub Holds : List Instr → File → Type 0
    Holds rest a = (copy source : Reg) → Standing m plan rest copy source → Holding a copy source

    -- the sources hold what the operands do
    pub reads_same : {i : Instr} {next : List Instr} → Ending (i ∷ next) m.code → (a : File) → Holds (i ∷ next) a →
        (vs : List Value) → values a i.args ≡ Some vs → values a (instr_with_sources plan (length next) i).args ≡ Some vs
    reads_same {i} {next} ending a holds vs e =
        read_so a (plan (length next)) i.args (λ r z. by (read_here m plan formed reads ending r z)) vs e
      where
        by : {r s : Reg} → ReadAt m plan (i ∷ next) r s → HoldsSo a r s
        by {r} {s} (from_source t) h g =
            let w = holds r s t in (
              record { comp = s.comp; value = w.value },
              w.of_source,
              ap (λ (x : Held). x.value) (same_Some _ _ (sym w.of_copy ∙ g)),
            )
        by as_it_is h g = (h, g, refl)

    -- what straight code goes on with
    calm : (i : Instr) (a : File) → is_straight i.op ≡ true → clear_registers (killed m i) a ≡ a
    calm i a st = ap (λ ks. clear_registers ks a) (straight_kills m i st)

    -- a move has just made a copy
    now : (copy source : Reg) → source.comp ≡ copy.comp → IsRegister m source → (a d : File) (x after : Around) (vs ws : List Value) →
        Typed a → values a (source ∷ []) ≡ Some vs → mach_act c.setting (move_instruction source copy).op vs x ≡ Goes ws On after →
        put_all c.setting.end (copy ∷ []) ws a ≡ Some d → Holding d copy source
    now copy source same_comp one a d x after vs ws typed e acts puts =
        by (read_one a source vs e)
      where
        given : (v : Value) (us : List Value) → Goes (v ∷ []) On x ≡ Goes us On after → us ≡ v ∷ []
        given v us e = cc

        by : ReadOne a source vs → Holding d copy source
        by w =
            let v : Value = w.held.value in
            let known : ws ≡ v ∷ [] =
            given v ws (sym (ap (λ us. mach_act c.setting (move_instruction source copy).op us x) w.one) ∙ acts) in
            let is : d ≡ assign_register copy v a =
            put_is
            (subst (λ us. PutAll c.setting.end a (copy ∷ []) us d) known
            (put_of c.setting.end (copy ∷ []) ws a d puts)) in
            let of_copy : d copy.number ≡ Fresh copy v = ap (λ (file : File). file copy.number) is ∙ put_same copy v a in
            record {
              value = v;
              of_copy = of_copy;
              of_source =
                  ⊎_elim
                  (λ s. ap d (sym s) ∙ of_copy ∙ ap (λ t. Some (record { comp = t; value = v })) (sym same_comp))
                  (λ s.
                  ap (λ (file : File). file source.number) is ∙ put_other copy v a source.number s
                  ∙ w.holds
                  ∙ ap (λ t. Some (record { comp = t; value = v })) (typed source one w.held w.holds))
                  (cases_eq copy.number source.number);
            }

    -- what is not written stays, past an instruction of straight code
    still : (i : Instr) (r : Reg) (v : Value) → is_straight i.op ≡ true → (AmongRegisters r.number i.results → ⊥) →
        (r.comp ≡ comp.Addr → allocates i.op ≡ false) → (a d : File) (ws : List Value) →
        put_all c.setting.end i.results ws (clear_registers (killed m i) (past_frame (passes_frame i.op) a)) ≡ Some d →
        a r.number ≡ Fresh r v → d r.number ≡ Fresh r v
    still i r v st free kept a d ws puts e =
        stays (put_of c.setting.end i.results ws (clear_registers (killed m i) a') d puts) r.number free
        ∙ ap (λ (file : File). file r.number) (calm i a' st)
        ∙ past_kept (passes_frame i.op) r v a (λ s. straight_frame i.op st ∙ kept s) e
      where
        a' : File
        a' = past_frame (passes_frame i.op) a

    -- What stands after an instruction holds what it should, where that before it did.
    pub holds_next : {i : Instr} {next : List Instr} → Ending (i ∷ next) m.code → is_straight i.op ≡ true →
        (a d : File) (x after : Around) (vs ws : List Value) → Typed a → values a i.args ≡ Some vs →
        mach_act c.setting i.op vs x ≡ Goes ws On after →
        put_all c.setting.end i.results ws (clear_registers (killed m i) (past_frame (passes_frame i.op) a)) ≡ Some d →
        Holds (i ∷ next) a → Holds next d
    holds_next {i} {next} ending st a d x after vs ws typed e acts puts known copy source w =
        by (earlier_of m plan ending copy source w)
      where
        by : Earlier m plan i next copy source → Holding d copy source
        by (just_now h) =
            now copy source (w.copies).same_comp (standing_register m plan formed reads copy source w) a d x after vs ws typed
            (ap (λ (y : Instr). values a y.args) (sym h) ∙ reads_same ending a known vs e)
            (ap (λ (y : Instr). mach_act c.setting y.op vs x) (sym h) ∙ acts)
            (ap (λ (y : Instr). put_all c.setting.end y.results ws a) (sym h)
            ∙ ap (put_all c.setting.end i.results ws)
            (sym (calm i a st)
            ∙ ap (λ t. clear_registers (killed m i) (past_frame t a)) (ap (λ (y : Instr). passes_frame y.op) (sym h)))
            ∙ puts)
        by (earlier s straight apart ends kept) =
            let h = known copy source s in
            record {
              value = h.value;
              of_copy = still i copy h.value st (λ z. let k = number_among i.results z in apart k.0 k.1 k.2)
                  (λ t. kept ((w.copies).same_comp ∙ t)) a d ws puts h.of_copy;
              of_source = still i source h.value st (λ z. let k = number_among i.results z in ends k.0 k.1 (itself k.2))
                  kept a d ws puts h.of_source;
            }
