-- What is live in the lines is the place of what is live in the Mach code, with its component; and where walks of the
-- lines come, those of the Mach code do.
use Rattle.std.proofs.Common.{◌≡◌, ℕ, Bool, true, false, inl, inr, ⊎_elim, List, [], ◌∷◌, nat_eq, refl, sym, ap, ◌∙◌, subst}
use Rattle.std.proofs.lemmas.Bool.{true≢false, eq-eqb, eqb-true}
use Rattle.bs_words.specs.declared.types.Comp.{Comp}
use Rattle.bs_words.specs.declared.types.Loc.{Loc}
use Rattle.bs_words.specs.declared.types.Loc.TheVariants as loc
use Rattle.bs_words.proofs.Lists.{none_in}
use Rattle.mach_ir.specs.Acts.{Target, On, At}
use Rattle.mach_ir.specs.Formed.{LabelOccursIn, tries_left, WellFormed}
use Rattle.mach_ir.specs.Meaning.{after_label, from_handler, code_at, tries_past, tries_at, Destroyed, Nothing, Temporaries, Everything, destroyed_by, is_destroyed, killed_by}
use Rattle.mach_ir.specs.Walks.{AmongRegisters, first, later, Writes, OneOf, this, other, targets, may_raise, goes, raises, Reached, at_entry, by_step, by_raise, Live, read, LiveAcross, across_step, across_raise, IsRegister, is_in_code, is_colour}
use Rattle.mach_ir.specs.Walks as mach_walks
use Rattle.mach_ir.specs.Placed.{FullyPlaced}
use Rattle.mach_ir.specs.declared.reg.Reg.{Reg}
use Rattle.mach_ir.specs.declared.mach.MachOp.{MachOp}
use Rattle.mach_ir.specs.declared.mach.Instr.{Instr}
use Rattle.mach_ir.specs.declared.mach.Mach.{Mach}
use Rattle.mach_laws.specs.Expand.{Ending, all}
use Rattle.mach_laws.proofs.Places.{ending_label, stands_of}
use Rattle.mach_laws.proofs.Walking.{ending_at}
use Rattle.mach_laws.proofs.Among.{split_among}
use Rattle.lin_ir.specs.Meaning as lines
use Rattle.lin_ir.specs.Walks as walks
use Rattle.lin_ir.specs.declared.lin.LinOp.{LinOp}
use Rattle.lin_ir.specs.declared.lin.Line.{Line}
use Rattle.lin_ir.specs.declared.lin.Spot.{Spot}
use Rattle.lin_ir.specs.declared.lin.Lin.{Lin}
use Rattle.linearise_rules.specs.Lowered.{home, spot_of_register, spots, line_of, lowered_code}
use Rattle.linearise_rules.proofs.Homes.{IsIn, is_first, in_of, contains_of, in_among, number_in, killed_of, spot_of, in_spots}
use Rattle.linearise_rules.proofs.Marks.{args_in_code, results_in_code, AsLine, op_line, if_line, switch_line, try_line, handler_line, is_bare, IsIdle, idles, bare_empty, bare_kills}
use Rattle.linearise_rules.proofs.Standing.{same_targets, same_raises, same_destroyed, q, formed_at, label_q, at_target, handler_of, marked, StandsFor, one_line, via, onto, idle_before, label_before, pop_before, exit_to, jump_to, is_at, stands_at, stands_entry}

module _ (number : ℕ → ℕ) (slots : ℕ) (p : Mach) (well : WellFormed p) (full : FullyPlaced p) where
  abbrev L : List Instr → List Line
  L = lowered_code number

  abbrev Q : Lin
  Q = q number slots p well

  abbrev Stand : List Instr → List Line → List ℕ → Type 0
  Stand = StandsFor number slots p well

  abbrev at_home : Reg → Loc
  at_home r = home number r.loc

  -- a live register with this place and component
  pub record IsMet (l : Loc) (t : Comp) (rest : List Instr) : Type 0 where
    pub reg : Reg
    pub is : IsRegister p reg
    pub place : home number reg.loc ≡ l
    pub type : reg.comp ≡ t
    pub live : Live p reg.number rest

  pub bare_writes : {i : Instr} {next : List Instr} → Ending (i ∷ next) p.code → is_bare i.op ≡ true → (n : ℕ) → Writes p i n → ⊥
  bare_writes {i} e b n w =
      ⊎_elim (λ z. none (subst (AmongRegisters n) (bare_empty (formed_at number slots p well e) b).1 z)) (λ z. none (subst (AmongRegisters n) (bare_kills i.op p.colours i.results b) z)) (split_among n i.results (killed_by p.colours (destroyed_by i.op) i.results) w)
    where
      none : AmongRegisters n [] → ⊥
      none z = elim z [ ]

  -- a line writes the places of what its instruction writes
  pub at_place : {i : Instr} {next : List Instr} (f : LinOp) → Ending (i ∷ next) p.code → AsLine i.op f → (r : Reg) → IsRegister p r → (walks.Writes (line_of number f i) (home number r.loc) → ⊥) → Writes p i r.number → ⊥
  at_place {i} f e z r is free w =
      ⊎_elim in_results of_colours (split_among r.number i.results (killed_by p.colours (destroyed_by i.op) i.results) w)
    where
      in_results : AmongRegisters r.number i.results → ⊥
      in_results a =
          let h = number_in a in
          let same : h.reg ≡ r = well.numbers h.reg r (is_in_code (results_in_code e h.inside)) is h.same in
          free (inl (r.comp, contains_of (subst (λ (k : Reg). IsIn (spot_of_register number k) (spots number i.results)) same (in_spots number h.inside))))

      of_colours : AmongRegisters r.number (killed_by p.colours (destroyed_by i.op) i.results) → ⊥
      of_colours a =
          let k = killed_of r.number p.colours (destroyed_by i.op) i.results a in
          let same : k.reg ≡ r = well.numbers k.reg r (is_colour (contains_of k.inside)) is k.number in
          free (inr (subst (λ d. is_destroyed d (home number r.loc) ≡ true) (sym (same_destroyed z)) (home_destroyed r.loc (subst (λ (k : Reg). is_destroyed (destroyed_by i.op) k.loc ≡ true) same k.destroyed))))
        where
          home_destroyed : (l : Loc) → is_destroyed (destroyed_by i.op) l ≡ true → is_destroyed (destroyed_by i.op) (home number l) ≡ true
          home_destroyed (loc.Machine n) s = s
          home_destroyed (loc.Slot n) s = by (destroyed_by i.op) s
            where
              by : (d : Destroyed) → is_destroyed d (loc.Slot n) ≡ true → is_destroyed d (loc.Slot (number n)) ≡ true
              by Everything s = s
              by Temporaries s = s
              by Nothing s = s
          home_destroyed loc.Unset s = s

  read_of : {l : Loc} {t : Comp} (rs : List Reg) → ((r : Reg) → IsIn r rs → IsRegister p r) → IsIn (record { loc = l; comp = t }) (spots number rs) →
      (r : Reg) × IsRegister p r × (home number r.loc ≡ l) × (r.comp ≡ t) × AmongRegisters r.number rs
  read_of {l} {t} rs regs z =
      let y = spot_of number (record { loc = l; comp = t }) rs z in
      (y.reg, regs y.reg y.inside, ap (λ (s : Spot). s.loc) y.same, ap (λ (s : Spot). s.comp) y.same, in_among y.inside)

  pub idle_on : {f : MachOp} {args results : List Reg} → IsIdle f args results → OneOf On (targets f)
  idle_on (idles e u) = this

  idle_kills : {f : MachOp} {args results : List Reg} (n : ℕ) (rs ks : List Reg) → IsIdle f args results → AmongRegisters n (killed_by ks (destroyed_by f) rs) → ⊥
  idle_kills n rs ks (idles e u) z = elim z [ ]

  record IdleRegs (args results : List Reg) : Type 0 where
    from : Reg
    to : Reg
    args_are : args ≡ from ∷ []
    results_are : results ≡ to ∷ []
    place : from.loc ≡ to.loc
    type : from.comp ≡ to.comp

  idle_regs : {f : MachOp} {args results : List Reg} → IsIdle f args results → IdleRegs args results
  idle_regs (idles {x = x} {d = d} e u) = record { from = x; to = d; args_are = refl; results_are = refl; place = e; type = u }

  -- what is live after a copy from a place to itself is live before it there
  idle_met : {l : Loc} {t : Comp} {i : Instr} {next : List Instr} → Ending (i ∷ next) p.code → IsIdle i.op i.args i.results → IsMet l t next → IsMet l t (i ∷ next)
  idle_met {l} {t} {i} {next} e w m = by (idle_regs w)
    where
      by : IdleRegs i.args i.results → IsMet l t (i ∷ next)
      by r = two (nat_eq r.to.number m.reg.number) refl
        where
          arg : IsRegister p r.from
          arg = is_in_code (args_in_code e (subst (IsIn r.from) (sym r.args_are) is_first))

          result : IsRegister p r.to
          result = is_in_code (results_in_code e (subst (IsIn r.to) (sym r.results_are) is_first))

          two : (b : Bool) → nat_eq r.to.number m.reg.number ≡ b → IsMet l t (i ∷ next)
          two true s =
              let same : r.to ≡ m.reg = well.numbers r.to m.reg result m.is (eqb-true r.to.number m.reg.number s) in
              record {
                reg = r.from;
                is = arg;
                place = ap (home number) r.place ∙ ap (λ (k : Reg). home number k.loc) same ∙ m.place;
                type = r.type ∙ ap (λ (k : Reg). k.comp) same ∙ m.type;
                live = read (subst (AmongRegisters r.from.number) (sym r.args_are) (first refl));
              }
          two false s =
              record {
                reg = m.reg;
                is = m.is;
                place = m.place;
                type = m.type;
                live = mach_walks.on
                    (λ z. ⊎_elim (λ x. out (subst (AmongRegisters m.reg.number) r.results_are x)) (idle_kills m.reg.number i.results p.colours w)
                    (split_among m.reg.number i.results (killed_by p.colours (destroyed_by i.op) i.results) z))
                    (goes On (idle_on w)) m.live;
              }
            where
              out : AmongRegisters m.reg.number (r.to ∷ []) → ⊥
              out (first u) = true≢false (sym (eq-eqb r.to.number m.reg.number u) ∙ s)
              out (later z) = elim z [ ]

  via_met : {l : Loc} {t : Comp} {i : Instr} {next : List Instr} (k : ℕ) → Ending (i ∷ next) p.code → is_bare i.op ≡ true → OneOf (At k) (targets i.op) → IsMet l t (after_label k p.code) → IsMet l t (i ∷ next)
  via_met k e b o m = record { reg = m.reg; is = m.is; place = m.place; type = m.type; live = mach_walks.on (bare_writes e b m.reg.number) (goes (At k) o) m.live }

  onto_met : {l : Loc} {t : Comp} {i : Instr} {next : List Instr} → Ending (i ∷ next) p.code → is_bare i.op ≡ true → OneOf On (targets i.op) → IsMet l t next → IsMet l t (i ∷ next)
  onto_met e b o m = record { reg = m.reg; is = m.is; place = m.place; type = m.type; live = mach_walks.on (bare_writes e b m.reg.number) (goes On o) m.live }

  -- ---- traps

  -- the traps after a line of its own
  pub traps_on : {i : Instr} {next : List Instr} (f : LinOp) → Ending (i ∷ next) p.code → AsLine i.op f → walks.tries_after f (tries_at (i ∷ next)) ≡ tries_at next
  traps_on {i} {next} f e z = by i.op f refl z
    where
      by : (g : MachOp) (f : LinOp) → i.op ≡ g → AsLine g f → walks.tries_after f (tries_past g (tries_at next)) ≡ tries_at next
      by g f same op_line = refl
      by g f same if_line = refl
      by g f same switch_line = refl
      by g f same (try_line {l = l}) = ap (λ g. l ∷ tries_past g (tries_at next)) (sym same) ∙ sym (well.nested.at_try i next (stands_of e) l same)
      by g f same handler_line = refl

  pub traps_at : {i : Instr} {next : List Instr} (f : LinOp) → Ending (i ∷ next) p.code → AsLine i.op f → (l : ℕ) → OneOf (At l) (targets i.op) → walks.tries_after f (tries_at (i ∷ next)) ≡ tries_at (after_label l p.code)
  traps_at {i} {next} f e z l o = by i.op f z o ∙ sym (marked number slots p well e l o)
    where
      none : OneOf (At l) [] → ⊥
      none z = elim z [ ]

      on_alone : OneOf (At l) (On ∷ []) → ⊥
      on_alone (other o) = none o

      by : (g : MachOp) (f : LinOp) → AsLine g f → OneOf (At l) (targets g) → walks.tries_after f (tries_at (i ∷ next)) ≡ tries_left g (tries_at (i ∷ next))
      by g f op_line o = refl
      by g f if_line o = refl
      by g f switch_line o = refl
      by g f try_line o = absurd (on_alone o)
      by g f handler_line o = refl

  pub traps_to : {i : Instr} {next : List Instr} (f : LinOp) → Ending (i ∷ next) p.code → AsLine i.op f → (t : Target) → OneOf t (targets i.op) →
      walks.tries_after f (tries_at (i ∷ next)) ≡ tries_at (code_at p.code next t)
  traps_to f e z On o = traps_on f e z
  traps_to f e z (At l) o = traps_at f e z l o

  -- ---- walks

  -- where a line goes, the lines stand for code that a walk of the Mach code comes to
  pub stand_to : {i : Instr} {next : List Instr} {tries : List ℕ} (f : LinOp) → Ending (i ∷ next) p.code → AsLine i.op f → tries ≡ tries_at (i ∷ next) → (t : Target) → OneOf t (targets i.op) →
      Stand (code_at p.code next t) (lines.code_at Q.code (L next) t) (walks.tries_after f tries)
  stand_to {next = next} f e z same t o =
      stands_at number slots p well (code_at p.code next t) _ _ (ending_at t e) (at_target number slots p well e t o) (ap (walks.tries_after f) same ∙ traps_to f e z t o)

  pub stand_label : (l : ℕ) {tries : List ℕ} → LabelOccursIn l p.code → tries ≡ tries_at (after_label l p.code) → Stand (after_label l p.code) (lines.after_label l Q.code) tries
  stand_label l h same = stands_at number slots p well (after_label l p.code) _ _ (ending_label l p.code) (label_q number slots p well l h) same

  pub stand_handler : {i : Instr} {next : List Instr} {tries left : List ℕ} {h : ℕ} → Ending (i ∷ next) p.code → tries ≡ tries_at (i ∷ next) → tries ≡ h ∷ left → may_raise i.op ≡ true →
      Stand (from_handler h p.code) (lines.after_label h Q.code) left
  stand_handler {i} {next} {left = left} {h = h} e same t r =
      stands_entry number slots p well h (handler_of number slots p well (i ∷ next) e (sym same ∙ t)) left (sym (well.nested.at_handler i next (stands_of e) r h left (sym same ∙ t)))

  read_met : {l : Loc} {t : Comp} {j : Line} {rest : List Instr} {ys : List Line} {tries : List ℕ} → Stand rest (j ∷ ys) tries → walks.ReadsLocationAs l t j → IsMet l t rest
  read_met {l} {t} (one_line {i = i} f e z same u) r =
      let y = read_of i.args (λ k c. is_in_code (args_in_code e c)) (in_of (record { loc = l; comp = t }) (spots number i.args) r) in
      record { reg = y.0; is = y.1; place = y.2; type = y.3; live = read y.4 }
  read_met (via k e b o s) r = via_met k e b o (read_met s r)
  read_met (onto e b o s) r = onto_met e b o (read_met s r)
  read_met (idle_before e w s) r = idle_met e w (read_met s r)
  read_met {l} {t} (label_before u s) r = absurd (none_in (record { loc = l; comp = t }) r)
  read_met {l} {t} (pop_before u w s) r = absurd (none_in (record { loc = l; comp = t }) r)
  read_met {l} {t} (exit_to h same u) r = absurd (none_in (record { loc = l; comp = t }) r)
  read_met {l} {t} (jump_to h same u) r = absurd (none_in (record { loc = l; comp = t }) r)

  pub as_targets : {f : MachOp} {g : LinOp} {to : Target} → AsLine f g → OneOf to (walks.targets g) → OneOf to (targets f)
  as_targets {to = to} z o = subst (OneOf to) (same_targets z) o

  none_at : {to : Target} → OneOf to [] → ⊥
  none_at o = elim o [ ]

  on_met : {l : Loc} {t : Comp} {j : Line} {rest : List Instr} {ys : List Line} {tries : List ℕ} → Stand rest (j ∷ ys) tries → (to : Target) → (walks.Writes j l → ⊥) → OneOf to (walks.targets j.op) →
      ((rest : List Instr) → Stand rest (lines.code_at Q.code ys to) (walks.tries_after j.op tries) → IsMet l t rest) → IsMet l t rest
  on_met {l} {t} (one_line {i = i} {next = next} f e z same u) to free o ih =
      let m = ih (code_at p.code next to) (stand_to f e z same to (as_targets z o)) in
      record {
        reg = m.reg;
        is = m.is;
        place = m.place;
        type = m.type;
        live = mach_walks.on (at_place f e z m.reg m.is (λ w. free (subst (walks.Writes (line_of number f i)) m.place w))) (goes to (as_targets z o)) m.live;
      }
  on_met (via k e b o s) to free u ih = via_met k e b o (on_met s to free u ih)
  on_met (onto e b o s) to free u ih = onto_met e b o (on_met s to free u ih)
  on_met (idle_before e w s) to free u ih = idle_met e w (on_met s to free u ih)
  on_met (label_before {rest = rest} u s) On free o ih = ih rest s
  on_met (label_before u s) (At k) free (other o) ih = absurd (none_at o)
  on_met (pop_before {rest = rest} u w s) On free o ih = ih rest s
  on_met (pop_before u w s) (At k) free (other o) ih = absurd (none_at o)
  on_met (exit_to {l = k} h same u) to free this ih = ih (after_label k p.code) (stand_label k h same)
  on_met (exit_to h same u) to free (other o) ih = absurd (none_at o)
  on_met (jump_to {l = k} h same u) to free this ih = ih (after_label k p.code) (stand_label k h same)
  on_met (jump_to h same u) to free (other o) ih = absurd (none_at o)

  aside_met : {l : Loc} {t : Comp} {j : Line} {rest : List Instr} {ys : List Line} {h : ℕ} {left tries : List ℕ} → Stand rest (j ∷ ys) tries → tries ≡ h ∷ left → walks.may_raise j.op ≡ true →
      ((rest : List Instr) → Stand rest (lines.after_label h Q.code) left → IsMet l t rest) → IsMet l t rest
  aside_met {h = h} {left = left} (one_line {i = i} {next = next} f e z same u) t r ih =
      let r' : may_raise i.op ≡ true = sym (same_raises z) ∙ r in
      let m = ih (from_handler h p.code) (stand_handler e same t r') in
      record { reg = m.reg; is = m.is; place = m.place; type = m.type; live = mach_walks.aside (raises r' (sym same ∙ t)) m.live }
  aside_met (via k e b o s) t r ih = via_met k e b o (aside_met s t r ih)
  aside_met (onto e b o s) t r ih = onto_met e b o (aside_met s t r ih)
  aside_met (idle_before e w s) t r ih = idle_met e w (aside_met s t r ih)
  aside_met (label_before u s) t r ih = absurd (true≢false (sym r))
  aside_met (pop_before u w s) t r ih = absurd (true≢false (sym r))
  aside_met (exit_to h same u) t r ih = absurd (true≢false (sym r))
  aside_met (jump_to h same u) t r ih = absurd (true≢false (sym r))

  -- what is live in the lines is the place of what is live in the Mach code, with its component
  pub meet : {l : Loc} {t : Comp} {ys : List Line} {tries : List ℕ} → walks.Live Q l t ys tries → (rest : List Instr) → Stand rest ys tries → IsMet l t rest
  meet (walks.read r) rest s = read_met s r
  meet (walks.on free (walks.goes to o) v) rest s = on_met s to free o (λ rest s. meet v rest s)
  meet (walks.aside (walks.raises r) v) rest s = aside_met s refl r (λ rest s. meet v rest s)

  -- ---- reached places

  pub record Comes (ys : List Line) (tries : List ℕ) : Type 0 where
    pub rest : List Instr
    pub stands : Stand rest ys tries
    pub reached : Reached p rest

  on_comes : {j : Line} {rest : List Instr} {ys : List Line} {tries : List ℕ} → Stand rest (j ∷ ys) tries → Reached p rest → (to : Target) → OneOf to (walks.targets j.op) →
      Comes (lines.code_at Q.code ys to) (walks.tries_after j.op tries)
  on_comes (one_line {i = i} {next = next} f e z same u) r to o =
      record { rest = code_at p.code next to; stands = stand_to f e z same to (as_targets z o); reached = by_step r (goes to (as_targets z o)) }
  on_comes (via k e b o s) r to u = on_comes s (by_step r (goes (At k) o)) to u
  on_comes (onto e b o s) r to u = on_comes s (by_step r (goes On o)) to u
  on_comes (idle_before e w s) r to u = on_comes s (by_step r (goes On (idle_on w))) to u
  on_comes (label_before {rest = rest} u s) r On o = record { rest = rest; stands = s; reached = r }
  on_comes (label_before u s) r (At k) (other o) = absurd (none_at o)
  on_comes (pop_before {rest = rest} u w s) r On o = record { rest = rest; stands = s; reached = r }
  on_comes (pop_before u w s) r (At k) (other o) = absurd (none_at o)
  on_comes (exit_to {l = k} h same u) r to this = record { rest = after_label k p.code; stands = stand_label k h same; reached = r }
  on_comes (exit_to h same u) r to (other o) = absurd (none_at o)
  on_comes (jump_to {l = k} h same u) r to this = record { rest = after_label k p.code; stands = stand_label k h same; reached = r }
  on_comes (jump_to h same u) r to (other o) = absurd (none_at o)

  aside_comes : {j : Line} {rest : List Instr} {ys : List Line} {h : ℕ} {left tries : List ℕ} → Stand rest (j ∷ ys) tries → Reached p rest → tries ≡ h ∷ left → walks.may_raise j.op ≡ true →
      Comes (lines.after_label h Q.code) left
  aside_comes {h = h} (one_line {i = i} {next = next} f e z same u) r t raise =
      let raise' : may_raise i.op ≡ true = sym (same_raises z) ∙ raise in
      record { rest = from_handler h p.code; stands = stand_handler e same t raise'; reached = by_raise r (raises raise' (sym same ∙ t)) }
  aside_comes (via k e b o s) r t raise = aside_comes s (by_step r (goes (At k) o)) t raise
  aside_comes (onto e b o s) r t raise = aside_comes s (by_step r (goes On o)) t raise
  aside_comes (idle_before e w s) r t raise = aside_comes s (by_step r (goes On (idle_on w))) t raise
  aside_comes (label_before u s) r t raise = absurd (true≢false (sym raise))
  aside_comes (pop_before u w s) r t raise = absurd (true≢false (sym raise))
  aside_comes (exit_to h same u) r t raise = absurd (true≢false (sym raise))
  aside_comes (jump_to h same u) r t raise = absurd (true≢false (sym raise))

  -- where walks of the lines come, walks of the Mach code come
  pub comes : {ys : List Line} {tries : List ℕ} → walks.Reached Q ys tries → Comes ys tries
  comes walks.at_entry =
      record { rest = p.code; stands = stands_at number slots p well p.code _ _ all refl (sym well.nested.at_entry); reached = at_entry }
  comes (walks.by_step r (walks.goes to o)) = let y = comes r in on_comes y.stands y.reached to o
  comes (walks.by_raise r (walks.raises raise)) = let y = comes r in aside_comes y.stands y.reached refl raise

  -- every walk comes to a place with the same traps
  pub traps_same : {ys : List Line} {tries others : List ℕ} → walks.Reached Q ys tries → walks.Reached Q ys others → tries ≡ others
  traps_same r s = is_at number slots p well (comes r).stands ∙ sym (is_at number slots p well (comes s).stands)

  -- ---- across an instruction

  pub record IsMetAcross (l : Loc) (t : Comp) (i : Instr) (next : List Instr) : Type 0 where
    pub reg : Reg
    pub is : IsRegister p reg
    pub place : home number reg.loc ≡ l
    pub type : reg.comp ≡ t
    pub live : LiveAcross p reg.number i next

  -- what is live after a line of its own is the place of what is live after its instruction
  pub met_across : {i : Instr} {next : List Instr} {l : Loc} {t : Comp} {tries : List ℕ} (f : LinOp) → Ending (i ∷ next) p.code → AsLine i.op f → tries ≡ tries_at (i ∷ next) →
      walks.LiveAcross Q l t (line_of number f i) (L next) tries → IsMetAcross l t i next
  met_across {i} {next} f e z same (walks.across_step free (walks.goes to o) v) =
      let o' = as_targets z o in
      let m = meet v (code_at p.code next to) (stand_to f e z same to o') in
      record {
        reg = m.reg;
        is = m.is;
        place = m.place;
        type = m.type;
        live = across_step (at_place f e z m.reg m.is (λ w. free (subst (walks.Writes (line_of number f i)) m.place w))) (goes to o') m.live;
      }
  met_across {i} {next} f e z same (walks.across_raise (walks.raises {h = h} {tries = left} r) v) =
      let r' : may_raise i.op ≡ true = sym (same_raises z) ∙ r in
      let m = meet v (from_handler h p.code) (stand_handler e same refl r') in
      record { reg = m.reg; is = m.is; place = m.place; type = m.type; live = across_raise (raises r' (sym same)) m.live }
