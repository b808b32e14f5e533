-- A result that still stands holds what its operator would give now.
use Rattle.std.proofs.Common.{◌≡◌, ◌≢◌, ℕ, Bool, true, false, cond, List, [], ◌∷◌, Option, Some, None, refl, sym, ap, ◌∙◌, subst}
use Rattle.std.specs.List.{Contains}
use Rattle.std.proofs.lemmas.Bool.{both_ways}
use Rattle.std.proofs.lemmas.Option.{same_Some}
use Rattle.bs_words.specs.declared.types.Comp.{Comp}
use Rattle.bs_words.specs.declared.types.Comp.TheVariants as comp
use Rattle.bs_words.specs.declared.values.Value.{Value}
use Rattle.bs_words.proofs.Lists.{first_in}
use Rattle.comballoc_rules.proofs.Files.{values_has, frame_loses}
use Rattle.mach_ir.specs.Acts.{Around, On, Goes}
use Rattle.mach_ir.specs.Meaning.{Held, File, assign_register, put_all, clear_registers, killed, values, past_frame, unless_addr, is_addr, passes_frame, mach_act}
use Rattle.mach_ir.specs.Placed.{is_straight}
use Rattle.mach_ir.specs.Runs.{ActivationSetting}
use Rattle.mach_ir.specs.Walks.{AmongRegisters, first, later}
use Rattle.mach_ir.specs.declared.reg.Reg.{Reg}
use Rattle.mach_ir.specs.declared.mach.Instr.{Instr}
use Rattle.mach_ir.specs.declared.mach.Mach.{Mach}
use Rattle.mach_laws.specs.Expand.{Ending}
use Rattle.mach_laws.proofs.Among.{number_among}
use Rattle.mach_laws.proofs.Files.{PutAll, nil, cons, put_other, put_same, put_of}
use Rattle.cse_repeat_rules.specs.Repeated.{is_operator, allocates, EndsHeldValue, itself}
use Rattle.cse_repeat_rules.proofs.Acting.{Grown, gives_value, gives_still}
use Rattle.cse_repeat_rules.proofs.Standing.{operator_straight, operator_same, straight_kills, straight_frame, Standing, Earlier, just_now, earlier, earlier_of}

-- ---- files

abbrev pub Fresh : Reg → Value → Option Held
Fresh r v = Some (record { comp = r.comp; value = v })

-- what is not written stays
pub stays : {end : ℕ} {a : File} {rs : List Reg} {vs : List Value} {d : File} → PutAll end a rs vs d → (n : ℕ) →
    (AmongRegisters n rs → ⊥) → d n ≡ a n
stays nil n free = refl
stays (cons {r = r} {v = v} {d = d} e p) n free =
    put_other r v d n (λ s. free (first s)) ∙ stays p n (λ z. free (later z))

record PutOne (r : Reg) (vs : List Value) (a d : File) : Type 0 where
  value : Value
  is : vs ≡ value ∷ []
  file : d ≡ assign_register r value a

put_one : {end : ℕ} {a : File} {r : Reg} {vs : List Value} {d : File} → PutAll end a (r ∷ []) vs d → PutOne r vs a d
put_one (cons {v = v} e nil) = record { value = v; is = refl; file = refl }

values_stay : (a d : File) (rs : List Reg) → ((n : ℕ) → AmongRegisters n rs → d n ≡ a n) → (vs : List Value) →
    values d rs ≡ Some vs → values a rs ≡ Some vs
values_stay a d rs h vs e = values_has d a rs (λ n z v g. sym (h n z) ∙ g) vs e

-- a frame point loses nothing but addrs
pub past_kept : (t : Bool) (r : Reg) (v : Value) (a : File) → (r.comp ≡ comp.Addr → t ≡ false) → a r.number ≡ Fresh r v →
    past_frame t a r.number ≡ Fresh r v
past_kept false r v a h e = e
past_kept true r v a h e = ap unless_addr e ∙ by r.comp refl
  where
    by : (t : Comp) → r.comp ≡ t → cond (is_addr r.comp) None (Fresh r v) ≡ Fresh r v
    by comp.Addr s = absurd (both_ways true (h s) refl)
    by comp.Int s = ap (λ t. cond (is_addr t) None (Fresh r v)) s
    by comp.Val s = ap (λ t. cond (is_addr t) None (Fresh r v)) s
    by comp.Float s = ap (λ t. cond (is_addr t) None (Fresh r v)) s

module _ (m : Mach) (plan : ℕ → Option Reg) (c : ActivationSetting) where
  -- its operands may have been lost since
  pub record Holding (x : Around) (a : File) (j : Instr) (r : Reg) : Type 0 where
    pub value : Value
    pub holds : a r.number ≡ Some (record { comp = r.comp; value = value })
    pub gives : (vs : List Value) → values a j.args ≡ Some vs → mach_act c.setting j.op vs x ≡ Goes (value ∷ []) On x

  abbrev pub Holds : List Instr → Around → File → Type 0
  Holds rest x a = (j : Instr) (r : Reg) → Standing m plan rest j r → Holding x a j r

  -- what straight code goes on with
  pub calm : (i : Instr) (a : File) → is_straight i.op ≡ true → allocates i.op ≡ false →
      clear_registers (killed m i) (past_frame (passes_frame i.op) a) ≡ a
  calm i a st none =
      ap (λ ks. clear_registers ks (past_frame (passes_frame i.op) a)) (straight_kills m i st)
      ∙ ap (λ t. past_frame t a) (straight_frame i.op st ∙ none)

  -- an operator has just been done
  now : (j : Instr) (r : Reg) → is_operator j.op ≡ true → j.results ≡ r ∷ [] →
      ((k : Reg) → Contains j.args k → r.number ≢ k.number) → (a d : File) (x after : Around) (vs ws : List Value) →
      values a j.args ≡ Some vs → mach_act c.setting j.op vs x ≡ Goes ws On after →
      put_all c.setting.end j.results ws (clear_registers (killed m j) (past_frame (passes_frame j.op) a)) ≡ Some d → Holding after d j r
  now j r o one apart a d x after vs ws e acts puts = by (put_one written)
    where
      written : PutAll c.setting.end a (r ∷ []) ws d
      written =
          put_of c.setting.end (r ∷ []) ws a d
          (ap (λ rs. put_all c.setting.end rs ws a) (sym one)
          ∙ ap (put_all c.setting.end j.results ws)
          (sym (calm j a (operator_straight j.op o) (operator_same allocates false (λ f. refl) j.op o)))
          ∙ puts)

      kept : (n : ℕ) → AmongRegisters n j.args → d n ≡ a n
      kept n z =
          stays written n (λ w. by_one w)
        where
          by_one : AmongRegisters n (r ∷ []) → ⊥
          by_one (first s) = let k = number_among j.args z in apart k.0 k.1 (s ∙ sym k.2)
          by_one (later w) = elim w [ ]

      by : PutOne r ws a d → Holding after d j r
      by p =
          let g = gives_value c.setting j.op o vs ws x after acts in
          record {
            value = p.value;
            holds = ap (λ (file : File). file r.number) p.file ∙ put_same r p.value a;
            gives = λ us h.
                let same : us ≡ vs = same_Some _ _ (sym (values_stay a d j.args kept us h) ∙ e) in
                ap (λ zs. mach_act c.setting j.op zs after) same ∙ ap (mach_act c.setting j.op vs) g.same ∙ acts
                ∙ ap (λ zs. Goes zs On after) p.is;
          }

  -- one that stood holds what it held
  still : (i j : Instr) (r : Reg) → is_operator j.op ≡ true → is_straight i.op ≡ true →
      ((w k : Reg) → Contains i.results w → Contains j.args k → w.number ≢ k.number) →
      ((w : Reg) → Contains i.results w → EndsHeldValue r w → ⊥) → (r.comp ≡ comp.Addr → allocates i.op ≡ false) →
      (a d : File) (x after : Around) (ws : List Value) → Grown x after →
      put_all c.setting.end i.results ws (clear_registers (killed m i) (past_frame (passes_frame i.op) a)) ≡ Some d →
      Holding x a j r → Holding after d j r
  still i j r o st apart ends kept a d x after ws grown puts h =
      record {
        value = h.value;
        holds = there r.number (λ z. let w = number_among i.results z in ends w.0 w.1 (itself w.2))
            ∙ past_kept (passes_frame i.op) r h.value a (λ s. straight_frame i.op st ∙ kept s) h.holds;
        gives = λ vs e. gives_still c.setting j.op o vs h.value x after grown (h.gives vs (before vs e));
      }
    where
      a' : File
      a' = past_frame (passes_frame i.op) a

      there : (n : ℕ) → (AmongRegisters n i.results → ⊥) → d n ≡ a' n
      there n free =
          stays (put_of c.setting.end i.results ws (clear_registers (killed m i) a') d puts) n free
          ∙ ap (λ ks. clear_registers ks a' n) (straight_kills m i st)

      not_written : (n : ℕ) → AmongRegisters n j.args → AmongRegisters n i.results → ⊥
      not_written n z w =
          let k = number_among j.args z in let l = number_among i.results w in apart l.0 k.0 l.1 k.1 (l.2 ∙ sym k.2)

      before : (vs : List Value) → values d j.args ≡ Some vs → values a j.args ≡ Some vs
      before vs e =
          values_has d a j.args
          (λ n z v g. frame_loses (passes_frame i.op) a n v (sym (there n (not_written n z)) ∙ g)) vs e

  -- What stands after an instruction holds what it should, where that before it did.
  pub holds_next : {i : Instr} {next : List Instr} → Ending (i ∷ next) m.code → is_straight i.op ≡ true →
      (a d : File) (x after : Around) (vs ws : List Value) → values a i.args ≡ Some vs →
      mach_act c.setting i.op vs x ≡ Goes ws On after → Grown x after →
      put_all c.setting.end i.results ws (clear_registers (killed m i) (past_frame (passes_frame i.op) a)) ≡ Some d →
      Holds (i ∷ next) x a → Holds next after d
  holds_next {i} {next} ending st a d x after vs ws e acts grown puts known j r w = by (earlier_of m plan ending j r w)
    where
      by : Earlier m plan i next j r → Holding after d j r
      by (just_now h) =
          now j r (w.stands).operates (w.stands).result
          (λ k z.
          (w.stands).operands j (first_in j (w.stands).run) r k
          (subst (λ rs. Contains rs r) (sym (w.stands).result) (first_in r [])) z)
          a d x after vs ws (ap (λ (y : Instr). values a y.args) h ∙ e)
          (ap (λ (y : Instr). mach_act c.setting y.op vs x) h ∙ acts)
          (ap (λ (y : Instr). put_all c.setting.end y.results ws (clear_registers (killed m y) (past_frame (passes_frame y.op) a))) h ∙ puts)
      by (earlier s straight apart ends kept) =
          still i j r (w.stands).operates straight apart ends kept a d x after ws grown puts (known j r s)
