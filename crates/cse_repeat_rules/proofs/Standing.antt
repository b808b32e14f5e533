-- Which results still stand where a code is left, and what an instruction leaves of them.
use Rattle.std.proofs.Common.{◌≡◌, ◌≢◌, ℕ, true, false, ⊎_elim, List, [], ◌∷◌, ◌++◌, length, Option, Some, refl, sym, ap, ◌∙◌, subst}
use Rattle.std.proofs.lemmas.List.{append_cancel_right}
use Rattle.std.proofs.lemmas.List.Elements.{All-contains, Contains-append_left}
use Rattle.std.specs.List.{Contains}
use Rattle.std.proofs.lemmas.Bool.{both_ways}
use Rattle.bs_words.specs.declared.types.Comp.TheVariants as comp
use Rattle.bs_words.proofs.Lists.{first_in, later_in, in_cons}
use Rattle.mach_ir.specs.Acts.{Landing}
use Rattle.mach_ir.specs.Meaning.{Nothing, is_handler_of, after_label, from_handler, landing_code, destroyed_by, killed_by, killed, passes_frame}
use Rattle.mach_ir.specs.Placed.{is_straight}
use Rattle.mach_ir.specs.Walks.{StandsAsInstr}
use Rattle.mach_ir.specs.declared.op.Access.TheVariants as access
use Rattle.mach_ir.specs.declared.op.Op.TheVariants as op
use Rattle.mach_ir.specs.declared.op.Pure.{Pure}
use Rattle.mach_ir.specs.declared.reg.Reg.{Reg}
use Rattle.mach_ir.specs.declared.mach.MachOp.{MachOp}
use Rattle.mach_ir.specs.declared.mach.MachOp.TheVariants as mach
use Rattle.mach_ir.specs.declared.mach.Instr.{Instr}
use Rattle.mach_ir.specs.declared.mach.Mach.{Mach}
use Rattle.mach_laws.specs.Expand.{Ending, expand}
use Rattle.cse_repeat_rules.specs.Repeated.{is_operator, allocates, EndsHeldValue, StillStands, RepeatsEarlier, instr_with_earlier, alone_with_earlier, with_moves, IsRepeatedBefore}
use Rattle.mach_laws.proofs.InPlace.{of_pure, op_same}
use Rattle.cse_repeat_rules.proofs.OneForOne.{in_append, Made, before_of, made_past}
use Rattle.cse_repeat_rules.proofs.Form.{operator_pure, Fate, unchanged, moved, fate, alike, same_ops}
use Rattle.cse_repeat_rules.proofs.Runs as run
use Rattle.cse_repeat_rules.proofs.Runs.{straight_front, Last, it_is, in_run, last_of, none_before, IsWithin}

-- ---- operators

pub operator_same : {B : Type 0} (F : MachOp → B) (b : B) → ((f : Pure) → F (mach.Op (op.Pure f)) ≡ b) → (g : MachOp) →
    is_operator g ≡ true → F g ≡ b
operator_same F b h g o = of_pure F b h (operator_pure g o)

pub operator_straight : (g : MachOp) → is_operator g ≡ true → is_straight g ≡ true
operator_straight g o = operator_same is_straight true (λ f. refl) g o

handler_crooked : (l : ℕ) (g : MachOp) → is_handler_of l g ≡ true → is_straight g ≡ false
handler_crooked l (mach.Op g) e = absurd (both_ways false refl e)
handler_crooked l (mach.Mark g) e = refl

-- nothing that may be in a straight run destroys a register, and only an allocation is a frame point
pub straight_destroys : (g : MachOp) → is_straight g ≡ true → destroyed_by g ≡ Nothing
straight_destroys (mach.Op (op.Pure f)) e = refl
straight_destroys (mach.Op (op.Access f)) e = refl
straight_destroys (mach.Op (op.Calling f)) e = absurd (both_ways false refl e)
straight_destroys (mach.Op (op.Leaving f)) e = absurd (both_ways false refl e)
straight_destroys (mach.Mark f) e = absurd (both_ways false refl e)

pub straight_kills : (m : Mach) (i : Instr) → is_straight i.op ≡ true → killed m i ≡ []
straight_kills m i e = ap (λ d. killed_by m.colours d i.results) (straight_destroys i.op e)

pub straight_frame : (g : MachOp) → is_straight g ≡ true → passes_frame g ≡ allocates g
straight_frame (mach.Op (op.Pure f)) e = refl
straight_frame (mach.Op (op.Access (access.Load k n))) e = refl
straight_frame (mach.Op (op.Access (access.Store k n))) e = refl
straight_frame (mach.Op (op.Access (access.Alloc blocks))) e = refl
straight_frame (mach.Op (op.Calling f)) e = absurd (both_ways false refl e)
straight_frame (mach.Op (op.Leaving f)) e = absurd (both_ways false refl e)
straight_frame (mach.Mark f) e = absurd (both_ways false refl e)

-- ---- one instruction more

-- what stands after an instruction stood before it, or is its result
pub data Since (made : List Instr) (x j : Instr) (r : Reg) : Type 0 where
  just_there : j ≡ x → Since made x j r
  stood : StillStands made j r → is_straight x.op ≡ true →
      ((w k : Reg) → Contains x.results w → Contains j.args k → w.number ≢ k.number) →
      ((w : Reg) → Contains x.results w → EndsHeldValue r w → ⊥) → (r.comp ≡ comp.Addr → allocates x.op ≡ false) → Since made x j r

-- an operator that stands stood earlier in its run too
pub restricted : {made : List Instr} (j : Instr) (r : Reg) (s : StillStands made j r) (ys zs : List Instr) → s.run ≡ ys ++ zs →
    StillStands (s.others ++ j ∷ ys) j r
restricted j r s ys zs e =
    record {
      others = s.others;
      run = ys;
      within = refl;
      straight = straight_front s.run ys zs e s.straight;
      operates = s.operates;
      result = s.result;
      operands = λ i c w k. s.operands i (to_all i c) w k;
      stands = λ i c. s.stands i (to_run i c);
      kept = λ e i c. s.kept e i (to_run i c);
    }
  where
    to_run : (i : Instr) → Contains ys i → Contains s.run i
    to_run i c = subst (λ xs. Contains xs i) (sym e) (Contains-append_left ys zs i c)

    to_all : (i : Instr) → Contains (j ∷ ys) i → Contains (j ∷ s.run) i
    to_all i c =
        ⊎_elim (λ h. subst (Contains (j ∷ s.run)) h (first_in j s.run)) (λ d. later_in j i s.run (to_run i d))
        (in_cons j i ys c)

pub since : (made : List Instr) (x j : Instr) (r : Reg) → StillStands (made ++ x ∷ []) j r → Since made x j r
since made x j r s = by (last_of made x s.others j s.run s.within)
  where
    by : Last made x s.others j s.run → Since made x j r
    by (it_is e) = just_there (sym e)
    by (in_run ys e h) =
        stood
        (subst (λ xs. StillStands xs j r) (sym h) (restricted j r s ys (x ∷ []) e))
        (All-contains (λ (i : Instr). is_straight i.op ≡ true) s.run x s.straight x_in)
        (λ w k c d. s.operands x (later_in j x s.run x_in) w k c d)
        (λ w c. s.stands x x_in w c)
        (λ e. s.kept e x x_in)
      where
        x_in : Contains s.run x
        x_in = subst (λ zs. Contains zs x) (sym e) (in_append ys x [])

-- this code begins with what may be in a straight run
pub data StartsStraight : List Instr → Type 0 where
  starts_straight : {i : Instr} {next : List Instr} → is_straight i.op ≡ true → StartsStraight (i ∷ next)

starts_with : {i : Instr} {next : List Instr} → StartsStraight (i ∷ next) → is_straight i.op ≡ true
starts_with (starts_straight e) = e

not_nothing : StartsStraight [] → ⊥
not_nothing s = elim s [ ]

module _ (m : Mach) (plan : ℕ → Option Reg) where
  abbrev pub q : Mach
  q = record m { code = with_moves plan m.code }

  abbrev pub f : ℕ → Instr → List Instr
  f = alone_with_earlier plan

  -- ---- what stands

  -- The result of an operator of the second still stands where this code of the first is left, within its straight run.
  pub record Standing (rest : List Instr) (j : Instr) (r : Reg) : Type 0 where
    pub made : List Instr
    pub whole : q.code ≡ made ++ expand f rest
    pub stands : StillStands made j r
    pub begins : StartsStraight rest

  pub data Earlier (i : Instr) (next : List Instr) (j : Instr) (r : Reg) : Type 0 where
    just_now : j ≡ i → Earlier i next j r
    earlier : Standing (i ∷ next) j r → is_straight i.op ≡ true →
        ((w k : Reg) → Contains i.results w → Contains j.args k → w.number ≢ k.number) →
        ((w : Reg) → Contains i.results w → EndsHeldValue r w → ⊥) → (r.comp ≡ comp.Addr → allocates i.op ≡ false) →
        Earlier i next j r

  -- what stands after an instruction
  pub earlier_of : {i : Instr} {next : List Instr} → Ending (i ∷ next) m.code → (j : Instr) (r : Reg) → Standing next j r →
      Earlier i next j r
  earlier_of {i} {next} ending j r w =
      of_since (since b.made x j r (subst (λ made. StillStands made j r) past.1 w.stands))
    where
      x : Instr
      x = instr_with_earlier plan (length next) i

      past : (b : Made (instr_with_earlier plan) (i ∷ next) m.code) × (w.made ≡ b.made ++ x ∷ [])
      past = made_past (instr_with_earlier plan) w.made ending w.whole

      b : Made (instr_with_earlier plan) (i ∷ next) m.code
      b = past.0

      of_since : Since b.made x j r → Earlier i next j r
      of_since (just_there e) = by (fate plan (length next) i)
        where
          by : Fate plan (length next) i → Earlier i next j r
          by (unchanged h s) = just_now (e ∙ h)
          by (moved k g s h) =
              absurd
              (both_ways (is_operator j.op) (ap (λ (y : Instr). is_operator y.op) (e ∙ h)) (w.stands).operates)
      of_since (stood s st apart ends kept) =
          let straight : is_straight i.op ≡ true = sym (op_same (instr_with_earlier plan) (same_ops plan) is_straight true (λ f. refl) (length next) i) ∙ st in
          let results : x.results ≡ i.results = (alike plan (length next) i).results in
          earlier (record { made = b.made; whole = b.whole; stands = s; begins = starts_straight straight }) straight
          (λ v k c. apart v k (subst (λ rs. Contains rs v) (sym results) c))
          (λ v c. ends v (subst (λ rs. Contains rs v) (sym results) c))
          (λ e. sym (op_same (instr_with_earlier plan) (same_ops plan) allocates false (λ f. refl) (length next) i) ∙ kept e)

  -- nothing stands after what ends a straight run
  pub not_past : {i : Instr} {next : List Instr} → Ending (i ∷ next) m.code → is_straight i.op ≡ false → (j : Instr) (r : Reg) →
      Standing next j r → ⊥
  not_past {i} {next} ending e j r w = by (earlier_of ending j r w)
    where
      by : Earlier i next j r → ⊥
      by (just_now h) =
          both_ways (is_straight j.op) (ap (λ (x : Instr). is_straight x.op) h ∙ e) (operator_straight j.op (w.stands).operates)
      by (earlier s st apart ends kept) = both_ways (is_straight i.op) e st

  pub not_at_entry : (j : Instr) (r : Reg) → Standing m.code j r → ⊥
  not_at_entry j r w =
      let s : StillStands [] j r = subst (λ made. StillStands made j r) (append_cancel_right w.made [] q.code (sym w.whole)) w.stands in
      none_before s.others j s.run s.within

  within : (j : Instr) (r : Reg) → IsWithin m (λ rest. Standing rest j r)
  within j r =
      record {
        nothing = λ w. not_nothing w.begins;
        past = λ i next ending e w. not_past ending e j r w;
        handler = λ l i next e w. both_ways (is_straight i.op) (handler_crooked l i.op e) (starts_with w.begins);
      }

  pub not_at_label : (l : ℕ) (j : Instr) (r : Reg) → Standing (after_label l m.code) j r → ⊥
  not_at_label l j r w = run.not_at_label m (λ rest. Standing rest j r) (within j r) l w

  pub not_at_handler : (l : ℕ) (j : Instr) (r : Reg) → Standing (from_handler l m.code) j r → ⊥
  not_at_handler l j r w = run.not_at_handler m (λ rest. Standing rest j r) (within j r) l w

  pub not_landed : (to : Landing) (from : List Instr) (j : Instr) (r : Reg) → Standing (landing_code m.code from to) j r → ⊥
  not_landed to from j r w = run.not_landed m (λ rest. Standing rest j r) (within j r) to from w

  -- ---- what is repeated

  -- the earlier operator that an operator repeats
  pub record Repeated (i : Instr) (next : List Instr) (r : Reg) : Type 0 where
    pub instr : Instr
    pub standing : Standing (i ∷ next) instr r
    pub same_op : instr.op ≡ i.op
    pub same_args : instr.args ≡ i.args

  module _ (moves : (i : Instr) (next made : List Instr) → IsRepeatedBefore plan m i next made → is_operator i.op ≡ true → (r : Reg) →
      plan (length next) ≡ Some r → RepeatsEarlier made i r) where
    pub repeated : {i : Instr} {next : List Instr} {r : Reg} → StandsAsInstr i next m.code → is_operator i.op ≡ true →
        plan (length next) ≡ Some r → Repeated i next r
    repeated {i} {next} {r} s o e =
        let b = before_of (instr_with_earlier plan) s in
        let w = moves i next b.made (record { before = b.before; whole = b.whole; made_so = b.made_so }) o r e in
        record {
          instr = w.earlier;
          standing = record {
            made = b.made;
            whole = b.made_so;
            stands = w.stands;
            begins = starts_straight (operator_straight i.op o);
          };
          same_op = w.same_op;
          same_args = w.same_args;
        }
