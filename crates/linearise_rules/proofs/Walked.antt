-- The lowered function is well formed, goes forward, and keeps the Mach function where walks come.
use Rattle.std.proofs.Common.{◌≡◌, ℕ, zero, suc, ◌<◌, Bool, true, false, cond, ◌||◌, ◌⊎◌, inl, inr, ⊎_elim, List, [], ◌∷◌, ◌++◌, length, nat_eq, All, AllPairs, refl, sym, ap, ◌∙◌, subst, arith}
use Rattle.std.specs.List.{Contains}
use Rattle.std.proofs.lemmas.Bool.{true≢false, eq-eqb, eqb-true}
use Rattle.bs_words.specs.declared.types.Comp.{Comp}
use Rattle.bs_words.specs.declared.types.Comp.TheVariants as comp
use Rattle.bs_words.specs.declared.types.Loc.{Loc}
use Rattle.bs_words.specs.declared.types.Loc.TheVariants as loc
use Rattle.mach_ir.specs.Acts.{Target, On, At}
use Rattle.mach_ir.specs.Formed as mach_formed
use Rattle.mach_ir.specs.Formed.{LabelOccursIn, HasHandler, WellFormed}
use Rattle.mach_ir.specs.Forms.{results_of_type}
use Rattle.mach_ir.specs.Meaning.{tries_at, tries_past, is_handler_of, passes_frame}
use Rattle.mach_ir.specs.Placed.{FullyPlaced, colour_numbers}
use Rattle.mach_ir.specs.Walks.{OneOf, other, targets, IsRegister, is_in_code, is_param, is_colour, InCode, Reached, by_step, goes, LiveAcross}
use Rattle.mach_ir.specs.Walks as mach_walks
use Rattle.mach_ir.specs.declared.op.Leaving.TheVariants as leaving
use Rattle.mach_ir.specs.declared.op.Op.{Op}
use Rattle.mach_ir.specs.declared.op.Op.TheVariants as op
use Rattle.mach_ir.specs.declared.reg.Reg.{Reg}
use Rattle.mach_ir.specs.declared.mach.Mark.TheVariants as mark
use Rattle.mach_ir.specs.declared.mach.MachOp.{MachOp}
use Rattle.mach_ir.specs.declared.mach.MachOp.TheVariants as mach
use Rattle.mach_ir.specs.declared.mach.Instr.{Instr}
use Rattle.mach_ir.specs.declared.mach.Mach.{Mach}
use Rattle.mach_laws.specs.Expand.{Ending, all, more}
use Rattle.mach_laws.proofs.Places.{ending_next, stands_of}
use Rattle.mach_laws.proofs.Instructions.{instr}
use Rattle.lin_ir.specs.Formed as formed
use Rattle.lin_ir.specs.Formed.{IsHome, IsLocation, is_home, Locates, SpareIsPassing, NamesLabel, goes_to, pushes, EntersAt, enters_here, enters_below, labels_in, is_exit, bare_flow}
use Rattle.lin_ir.specs.Meaning as lines
use Rattle.lin_ir.specs.Walks as walks
use Rattle.lin_ir.specs.Walks.{StandsAsLine, here, below, Traps, by_walk, unreached, TrapsBalance}
use Rattle.lin_ir.specs.declared.lin.Flow.{Flow}
use Rattle.lin_ir.specs.declared.lin.Flow.TheVariants as flow
use Rattle.lin_ir.specs.declared.lin.LinOp.{LinOp}
use Rattle.lin_ir.specs.declared.lin.LinOp.TheVariants as lin
use Rattle.lin_ir.specs.declared.lin.Line.{Line}
use Rattle.lin_ir.specs.declared.lin.Lin.{Lin}
use Rattle.lin_ir.specs.declared.lin.Spot.{Spot}
use Rattle.lin_laws.proofs.Forms.{same_machine}
use Rattle.linearise_rules.specs.Forward.{GoesForward}
use Rattle.linearise_rules.specs.Keeps.{NoAddrReached, OneTraps}
use Rattle.linearise_rules.specs.Lowered.{is_among_numbers, home, spots, is_idle, line_of, pops, lines_of, lowered_code}
use Rattle.linearise_rules.proofs.Homes.{IsIn, is_first, is_later, in_of, contains_of, spot_of, split_in, in_right}
use Rattle.linearise_rules.proofs.Marks.{Differ, AsLine, op_line, if_line, switch_line, try_line, handler_line, idle_of, idle_handler, place_label, handler_label, handler_split}
use Rattle.linearise_rules.proofs.Standing.{q, handler_round, handler_ending, StandsFor, one_line, via, onto, idle_before, label_before, pop_before, exit_to, jump_to}
use Rattle.linearise_rules.proofs.Meeting.{as_targets, idle_on, comes, traps_same, met_across}
use Rattle.linearise_rules.proofs.Lines.{all_of, IsBare, a_label, a_jump, an_exit, a_pop, Source, own_line, bare_line, source, comps_same, source_formed, labels_same}

ending_of : {i : Instr} {code : List Instr} → IsIn i code → (next : List Instr) × Ending (i ∷ next) code
ending_of (is_first {xs = xs}) = (xs, all)
ending_of (is_later z) = let y = ending_of z in (y.0, more y.1)

-- ---- ends of lines

pub data Tail (ys : List Line) : List Line → Type 0 where
  tail_all : Tail ys ys
  tail_more : {j : Line} {zs : List Line} → Tail ys zs → Tail ys (j ∷ zs)

pub tail_next : {j : Line} {ys zs : List Line} → Tail (j ∷ ys) zs → Tail ys zs
tail_next tail_all = tail_more tail_all
tail_next (tail_more t) = tail_more (tail_next t)

tail_cond : {xs ys zs : List Line} (b : Bool) → Tail xs zs → Tail ys zs → Tail (cond b xs ys) zs
tail_cond true x y = x
tail_cond false x y = y

pub tail_label : (l : ℕ) (code : List Line) → Tail (lines.after_label l code) code
tail_label l [] = tail_all
tail_label l (j ∷ js) = tail_cond (lines.has_label l j.op) (tail_more tail_all) (tail_more (tail_label l js))

pub tail_in : {j : Line} {ys zs : List Line} → Tail (j ∷ ys) zs → IsIn j zs
tail_in tail_all = is_first
tail_in (tail_more t) = is_later (tail_in t)

pub tail_stands : {j : Line} {ys zs : List Line} → Tail (j ∷ ys) zs → StandsAsLine j ys zs
tail_stands tail_all = here
tail_stands (tail_more t) = below (tail_stands t)

pub stands_tail : {j : Line} {ys zs : List Line} → StandsAsLine j ys zs → Tail (j ∷ ys) zs
stands_tail here = tail_all
stands_tail (below s) = tail_more (stands_tail s)

-- a label after a line is one of the code
pub later_label : {l : ℕ} {ys zs : List Line} → Tail ys zs → IsIn l (labels_in ys) → IsIn l (labels_in zs)
later_label tail_all z = z
later_label (tail_more {j = j} t) z = in_right (formed.label_of j.op) (later_label t z)

module _ (m : Lin) where
  pub tail_target : {j : Line} {ys : List Line} → Tail (j ∷ ys) m.code → (t : Target) → Tail (lines.code_at m.code ys t) m.code
  tail_target t On = tail_next t
  tail_target t (At l) = tail_label l m.code

  pub reached_tail : {ys : List Line} {tries : List ℕ} → walks.Reached m ys tries → Tail ys m.code
  reached_tail walks.at_entry = tail_all
  reached_tail (walks.by_step r (walks.goes t o)) = tail_target (reached_tail r) t
  reached_tail (walks.by_raise r (walks.raises {h = h} e)) = tail_label h m.code

  pub reached_stands : {j : Line} {ys : List Line} {tries : List ℕ} → walks.Reached m (j ∷ ys) tries → StandsAsLine j ys m.code
  reached_stands r = tail_stands (reached_tail r)

  pub record IsRead (l : Loc) (t : Comp) : Type 0 where
    pub line : Line
    pub inside : IsIn line m.code
    pub reads : walks.ReadsLocationAs l t line

  -- what is live is read by some line
  pub live_read : {l : Loc} {t : Comp} {ys : List Line} {tries : List ℕ} → walks.Live m l t ys tries → Tail ys m.code → IsRead l t
  live_read (walks.read {i = i} r) w = record { line = i; inside = tail_in w; reads = r }
  live_read (walks.on free (walks.goes t o) v) w = live_read v (tail_target w t)
  live_read (walks.aside (walks.raises {h = h} e) v) w = live_read v (tail_label h m.code)

in_is_among : {k : ℕ} {ks : List ℕ} → IsIn k ks → is_among_numbers k ks ≡ true
in_is_among {k} (is_first {xs = xs}) = ap (λ t. t || is_among_numbers k xs) (eq-eqb k k refl)
in_is_among {k} (is_later {y = y} {xs = xs} i) = or_right (nat_eq y k) (is_among_numbers k xs) (in_is_among i)
  where
    or_right : (t b : Bool) → b ≡ true → t || b ≡ true
    or_right true b e = refl
    or_right false b e = e

not_machine : (k n : ℕ) → loc.Slot k ≡ loc.Machine n → ⊥
not_machine k n e = cc

-- t0 is no home
pub not_spare : {m : Lin} {l : Loc} → IsHome m l → l ≡ formed.spare → ⊥
not_spare (formed.is_colour {n = n} c) e =
    true≢false (sym (in_is_among (subst (λ n. IsIn n colour_numbers) (same_machine n 5 e) (in_of n colour_numbers c))))
not_spare (formed.is_slot {k = k} lt) e = not_machine k 5 e

module _ (number : ℕ → ℕ) (slots : ℕ) (p : Mach) (well : WellFormed p) (full : FullyPlaced p) where
  abbrev Q : Lin
  Q = q number slots p well

  abbrev L : List Instr → List Line
  L = lowered_code number

  -- ---- labels

  -- A label that a line names comes later; or the line is an exit.
  data Leading (l : ℕ) (j : Line) (ys : List Line) : Type 0 where
    comes_later : IsIn l (labels_in ys) → Leading l j ys
    by_exit : is_exit j.op ≡ true → LabelOccursIn l p.code → Leading l j ys

  pop_names : {l : ℕ} {A : Type 0} → NamesLabel l (lin.Flow flow.PopTrap) → A
  pop_names (goes_to (other o)) = elim o [ ]
  pop_names {l} (pushes e) = absurd (out l e)
    where
      out : (l : ℕ) → lin.Flow flow.PopTrap ≡ lin.Flow (flow.PushTrap l) → ⊥
      out l e = cc

  label_names : {k l : ℕ} {A : Type 0} → NamesLabel l (lin.Flow (flow.Label k)) → A
  label_names (goes_to (other o)) = elim o [ ]
  label_names {k} {l} (pushes e) = absurd (out k l e)
    where
      out : (k l : ℕ) → lin.Flow (flow.Label k) ≡ lin.Flow (flow.PushTrap l) → ⊥
      out k l e = cc

  jump_to_label : (k l : ℕ) → NamesLabel l (lin.Flow (flow.Jump k)) → OneOf (At l) (At k ∷ [])
  jump_to_label k l (goes_to o) = o
  jump_to_label k l (pushes e) = absurd (out k l e)
    where
      out : (k l : ℕ) → lin.Flow (flow.Jump k) ≡ lin.Flow (flow.PushTrap l) → ⊥
      out k l e = cc

  exit_to_label : (k l : ℕ) → NamesLabel l (lin.Flow (flow.Exit k)) → OneOf (At l) (At k ∷ [])
  exit_to_label k l (goes_to o) = o
  exit_to_label k l (pushes e) = absurd (out k l e)
    where
      out : (k l : ℕ) → lin.Flow (flow.Exit k) ≡ lin.Flow (flow.PushTrap l) → ⊥
      out k l e = cc

  place_in_lines : {l : ℕ} (next : List Instr) → LabelOccursIn l next → IsIn l (labels_in (L next))
  place_in_lines {l} next h = subst (IsIn l) (sym (labels_same number next)) (place_label next h)

  handler_in_lines : {l : ℕ} (next : List Instr) → HasHandler l next → IsIn l (labels_in (L next))
  handler_in_lines {l} next h = subst (IsIn l) (sym (labels_same number next)) (handler_label next h)

  -- a try's handler comes later
  try_handler : {l : ℕ} {i : Instr} {next : List Instr} → Ending (i ∷ next) p.code → i.op ≡ mach.Mark (mark.Try l) → HasHandler l next
  try_handler {l} {i} {next} e same =
      handler_round number slots p well l next (ending_next e) (subst (IsIn l) (sym (well.nested.at_try i next (stands_of e) l same)) is_first)

  push_is : (k l : ℕ) → lin.Flow (flow.PushTrap k) ≡ lin.Flow (flow.PushTrap l) → k ≡ l
  push_is k l e = cc

  -- a line of its own names what its instruction does
  own_leads : {i : Instr} {next : List Instr} {l : ℕ} (f : LinOp) → Ending (i ∷ next) p.code → AsLine i.op f → mach_formed.is_exit i.op ≡ false → NamesLabel l f → IsIn l (labels_in (L next))
  own_leads {i} {next} {l} f e z not_exit (goes_to o) =
      place_in_lines next (well.labels.forward i next (stands_of e) l (as_targets number slots p well full z o) not_exit)
  own_leads {i} {next} {l} f e z not_exit (pushes s) = handler_in_lines next (by i.op f z refl s)
    where
      by : (g : MachOp) (f : LinOp) → AsLine g f → i.op ≡ g → f ≡ lin.Flow (flow.PushTrap l) → HasHandler l next
      by g f (op_line {f = h}) same s = absurd (out h s)
        where
          out : (h : Op) → lin.Op h ≡ lin.Flow (flow.PushTrap l) → ⊥
          out h s = cc
      by g f (if_line {t = t} {l = k}) same s = absurd (out _ s)
        where
          out : (h : _) → lin.Flow (flow.Branch h k) ≡ lin.Flow (flow.PushTrap l) → ⊥
          out h s = cc
      by g f (switch_line {ls = ls}) same s = absurd (out s)
        where
          out : lin.Flow (flow.Switch ls) ≡ lin.Flow (flow.PushTrap l) → ⊥
          out s = cc
      by g f (try_line {l = k}) same s = try_handler e (same ∙ ap (λ k. mach.Mark (mark.Try k)) (push_is k l s))
      by g f handler_line same s = absurd (out s)
        where
          out : lin.Flow flow.EnterTrap ≡ lin.Flow (flow.PushTrap l) → ⊥
          out s = cc

  line_not_exit : {g : MachOp} {f : LinOp} → AsLine g f → mach_formed.is_exit g ≡ false
  line_not_exit op_line = refl
  line_not_exit if_line = refl
  line_not_exit switch_line = refl
  line_not_exit try_line = refl
  line_not_exit handler_line = refl

  own_stands : {i : Instr} {next : List Instr} {l : ℕ} {j : Line} {ys : List Line} (f : LinOp) → Ending (i ∷ next) p.code → AsLine i.op f → StandsAsLine j ys (line_of number f i ∷ L next) → NamesLabel l j.op →
      (StandsAsLine j ys (L next) → NamesLabel l j.op → Leading l j ys) → Leading l j ys
  own_stands f e z here n go = comes_later (own_leads f e z (line_not_exit z) n)
  own_stands f e z (below s) n go = go s n

  label_stands : {k l : ℕ} {j : Line} {ys xs : List Line} → StandsAsLine j ys (bare_flow (flow.Label k) ∷ xs) → NamesLabel l j.op → (StandsAsLine j ys xs → NamesLabel l j.op → Leading l j ys) → Leading l j ys
  label_stands here n go = label_names n
  label_stands (below s) n go = go s n

  pop_stands : {l : ℕ} {j : Line} {ys xs : List Line} → StandsAsLine j ys (bare_flow flow.PopTrap ∷ xs) → NamesLabel l j.op → (StandsAsLine j ys xs → NamesLabel l j.op → Leading l j ys) → Leading l j ys
  pop_stands here n go = pop_names n
  pop_stands (below s) n go = go s n

  pops_stands : {l : ℕ} {j : Line} {ys : List Line} (k : ℕ) (xs : List Line) → StandsAsLine j ys (pops number k xs) → NamesLabel l j.op → (StandsAsLine j ys xs → NamesLabel l j.op → Leading l j ys) → Leading l j ys
  pops_stands zero xs s n go = go s n
  pops_stands (suc k) xs s n go = pop_stands s n (λ s n. pops_stands k xs s n go)

  -- a jump whose label comes later
  jump_stands : {k l : ℕ} {j : Line} {ys xs : List Line} → ((l : ℕ) → OneOf (At l) (At k ∷ []) → IsIn l (labels_in xs)) → StandsAsLine j ys (bare_flow (flow.Jump k) ∷ xs) → NamesLabel l j.op →
      (StandsAsLine j ys xs → NamesLabel l j.op → Leading l j ys) → Leading l j ys
  jump_stands {k} {l} forward here n go = comes_later (forward l (jump_to_label k l n))
  jump_stands forward (below s) n go = go s n

  exit_stands : {k l : ℕ} {j : Line} {ys xs : List Line} → ((l : ℕ) → OneOf (At l) (At k ∷ []) → LabelOccursIn l p.code) → StandsAsLine j ys (bare_flow (flow.Exit k) ∷ xs) → NamesLabel l j.op →
      (StandsAsLine j ys xs → NamesLabel l j.op → Leading l j ys) → Leading l j ys
  exit_stands {k} {l} place here n go = by_exit refl (place l (exit_to_label k l n))
  exit_stands place (below s) n go = go s n

  ahead : {i : Instr} {next : List Instr} → Ending (i ∷ next) p.code → mach_formed.is_exit i.op ≡ false → (l : ℕ) → OneOf (At l) (targets i.op) → IsIn l (labels_in (L next))
  ahead {i} {next} e alone l o = place_in_lines next (well.labels.forward i next (stands_of e) l o alone)

  leading : (rest : List Instr) → Ending rest p.code → (j : Line) (ys : List Line) (l : ℕ) → StandsAsLine j ys (L rest) → NamesLabel l j.op → Leading l j ys
  leading [] e j ys l s n = elim s [ ]
  leading (i ∷ next) e j ys l s n = self (is_idle i.op i.args i.results) s n (λ s n. leading next (ending_next e) j ys l s n)
    where
      by : (g : MachOp) (args results : List Reg) → Ending (instr g args results ∷ next) p.code → StandsAsLine j ys (lines_of number g (instr g args results) (L next)) → NamesLabel l j.op →
          (StandsAsLine j ys (L next) → NamesLabel l j.op → Leading l j ys) → Leading l j ys
      by (mach.Op f) args results e s n go = own_stands (lin.Op f) e op_line s n go
      by (mach.Mark (mark.Exit m k)) args results e s n go =
          pops_stands k (bare_flow (flow.Exit m) ∷ L next) s n
          (λ s n. exit_stands (λ l o. well.labels.named (instr (mach.Mark (mark.Exit m k)) args results) next (stands_of e) l o) s n go)
      by (mach.Mark (mark.If t m)) args results e s n go = own_stands _ e if_line s n go
      by (mach.Mark (mark.Else k m)) args results e s n go = jump_stands (λ l o. is_later (ahead e refl l o)) s n (λ s n. label_stands s n go)
      by (mach.Mark (mark.Switch ls)) args results e s n go = own_stands _ e switch_line s n go
      by (mach.Mark (mark.Case ns k m)) args results e s n go = jump_stands (λ l o. is_later (ahead e refl l o)) s n (λ s n. label_stands s n go)
      by (mach.Mark mark.Catch) args results e s n go = go s n
      by (mach.Mark (mark.With k m)) args results e s n go = jump_stands (λ l o. is_later (ahead e refl l o)) s n (λ s n. label_stands s n go)
      by (mach.Mark (mark.Try m)) args results e s n go = own_stands _ e try_line s n go
      by (mach.Mark (mark.Leave k m)) args results e s n go = pop_stands s n (λ s n. jump_stands (λ l o. ahead e refl l o) s n go)
      by (mach.Mark (mark.Handler m)) args results e s n go = label_stands s n (λ s n. own_stands (lin.Flow flow.EnterTrap) e handler_line s n go)
      by (mach.Mark (mark.End m)) args results e s n go = label_stands s n go

      self : (t : Bool) → StandsAsLine j ys (cond t (L next) (lines_of number i.op i (L next))) → NamesLabel l j.op → (StandsAsLine j ys (L next) → NamesLabel l j.op → Leading l j ys) → Leading l j ys
      self true s n go = go s n
      self false s n go = by i.op i.args i.results e s n go

  -- ---- handlers

  pops_enter : {h : ℕ} (n : ℕ) (xs : List Line) → EntersAt h xs → EntersAt h (pops number n xs)
  pops_enter zero xs z = z
  pops_enter (suc n) xs z = enters_below (pops_enter n xs z)

  enters : {h : ℕ} (code : List Instr) → HasHandler h code → EntersAt h (L code)
  enters {h} [] z = elim z [ ]
  enters {h} (i ∷ is) z = self (is_idle i.op i.args i.results) refl (handler_split z) (λ z. enters is z)
    where
      skips : {A : Type 0} (P : Type 0) → (false ≡ true) ⊎ P → (P → A) → A
      skips P h go = ⊎_elim (λ e. absurd (true≢false (sym e))) go h

      by : (g : MachOp) (args results : List Reg) → (is_handler_of h g ≡ true) ⊎ HasHandler h is → (HasHandler h is → EntersAt h (L is)) → EntersAt h (lines_of number g (instr g args results) (L is))
      by (mach.Op f) args results z go = skips (HasHandler h is) z (λ z. enters_below (go z))
      by (mach.Mark (mark.Exit l k)) args results z go = skips (HasHandler h is) z (λ z. pops_enter k (bare_flow (flow.Exit l) ∷ L is) (enters_below (go z)))
      by (mach.Mark (mark.If t l)) args results z go = skips (HasHandler h is) z (λ z. enters_below (go z))
      by (mach.Mark (mark.Else l m)) args results z go = skips (HasHandler h is) z (λ z. enters_below (enters_below (go z)))
      by (mach.Mark (mark.Switch ls)) args results z go = skips (HasHandler h is) z (λ z. enters_below (go z))
      by (mach.Mark (mark.Case ns l m)) args results z go = skips (HasHandler h is) z (λ z. enters_below (enters_below (go z)))
      by (mach.Mark mark.Catch) args results z go = skips (HasHandler h is) z go
      by (mach.Mark (mark.With l m)) args results z go = skips (HasHandler h is) z (λ z. enters_below (enters_below (go z)))
      by (mach.Mark (mark.Try l)) args results z go = skips (HasHandler h is) z (λ z. enters_below (go z))
      by (mach.Mark (mark.Leave l m)) args results z go = skips (HasHandler h is) z (λ z. enters_below (enters_below (go z)))
      by (mach.Mark (mark.Handler l)) args results z go =
          ⊎_elim (λ e. enters_here (ap (λ k. lin.Flow (flow.Label k)) (eqb-true l h e)) refl) (λ z. enters_below (enters_below (go z))) z
      by (mach.Mark (mark.End l)) args results z go = skips (HasHandler h is) z (λ z. enters_below (go z))

      self : (t : Bool) → is_idle i.op i.args i.results ≡ t → (is_handler_of h i.op ≡ true) ⊎ HasHandler h is → (HasHandler h is → EntersAt h (L is)) → EntersAt h (cond t (L is) (lines_of number i.op i (L is)))
      self true w z go = ⊎_elim (λ s. absurd (true≢false (sym s ∙ idle_handler h (idle_of i.op i.args i.results w)))) go z
      self false w z go = by i.op i.args i.results z go

  -- ---- reached places

  op_tries : {g : MachOp} {f : LinOp} (ts : List ℕ) → AsLine g f → walks.may_raise f ≡ true → tries_past g ts ≡ ts
  op_tries ts op_line r = refl
  op_tries ts if_line r = refl
  op_tries ts switch_line r = refl
  op_tries ts try_line r = absurd (true≢false (sym r))
  op_tries ts handler_line r = refl

  raise_later : {rest : List Instr} {j : Line} {ys : List Line} {l : ℕ} {left tries : List ℕ} → StandsFor number slots p well rest (j ∷ ys) tries → tries ≡ l ∷ left → walks.may_raise j.op ≡ true → IsIn l (labels_in ys)
  raise_later {l = l} {left = left} (one_line {i = i} {next = next} f e z same u) t r =
      handler_in_lines next (handler_round number slots p well l next (ending_next e) (subst (IsIn l) (sym t ∙ same ∙ op_tries (tries_at next) z r) is_first))
  raise_later (via k e b o s) t r = raise_later s t r
  raise_later (onto e b o s) t r = raise_later s t r
  raise_later (idle_before e w s) t r = raise_later s t r
  raise_later (label_before u s) t r = absurd (true≢false (sym r))
  raise_later (pop_before u w s) t r = absurd (true≢false (sym r))
  raise_later (exit_to h same u) t r = absurd (true≢false (sym r))
  raise_later (jump_to h same u) t r = absurd (true≢false (sym r))

  pub goes_forward : GoesForward Q
  goes_forward =
      record {
        labels = λ j ys s alone l n. by (leading p.code all j ys l s n) alone;
        handlers = λ j ys l tries r raise. contains_of (raise_later (comes number slots p well full r).stands refl raise);
      }
    where
      by : {l : ℕ} {j : Line} {ys : List Line} → Leading l j ys → is_exit j.op ≡ false → Contains (labels_in ys) l
      by (comes_later z) alone = contains_of z
      by (by_exit e h) alone = absurd (true≢false (sym e ∙ alone))

  leaves_line : {g : MachOp} {f : LinOp} → AsLine g f → walks.leaves f ≡ true → mach_formed.leaves g ≡ true
  leaves_line op_line e = e
  leaves_line if_line e = absurd (true≢false (sym e))
  leaves_line switch_line e = absurd (true≢false (sym e))
  leaves_line try_line e = absurd (true≢false (sym e))
  leaves_line handler_line e = absurd (true≢false (sym e))

  leaves_none : {rest : List Instr} {j : Line} {ys : List Line} {tries : List ℕ} → StandsFor number slots p well rest (j ∷ ys) tries → walks.leaves j.op ≡ true → tries ≡ []
  leaves_none (one_line {i = i} {next = next} f e z same u) r = same ∙ well.nested.at_end i next (stands_of e) (leaves_line z r)
  leaves_none (via k e b o s) r = leaves_none s r
  leaves_none (onto e b o s) r = leaves_none s r
  leaves_none (idle_before e w s) r = leaves_none s r
  leaves_none (label_before u s) r = absurd (true≢false (sym r))
  leaves_none (pop_before u w s) r = absurd (true≢false (sym r))
  leaves_none (exit_to h same u) r = absurd (true≢false (sym r))
  leaves_none (jump_to h same u) r = absurd (true≢false (sym r))

  line_not_pop : {g : MachOp} {f : LinOp} → AsLine g f → f ≡ lin.Flow flow.PopTrap → ⊥
  line_not_pop (op_line {f = h}) e = out h e
    where
      out : (h : Op) → lin.Op h ≡ lin.Flow flow.PopTrap → ⊥
      out h e = cc
  line_not_pop (if_line {t = t} {l = l}) e = out _ l e
    where
      out : (t : _) (l : ℕ) → lin.Flow (flow.Branch t l) ≡ lin.Flow flow.PopTrap → ⊥
      out t l e = cc
  line_not_pop (switch_line {ls = ls}) e = out ls e
    where
      out : (ls : List ℕ) → lin.Flow (flow.Switch ls) ≡ lin.Flow flow.PopTrap → ⊥
      out ls e = cc
  line_not_pop (try_line {l = l}) e = out l e
    where
      out : (l : ℕ) → lin.Flow (flow.PushTrap l) ≡ lin.Flow flow.PopTrap → ⊥
      out l e = cc
  line_not_pop handler_line e = out e
    where
      out : lin.Flow flow.EnterTrap ≡ lin.Flow flow.PopTrap → ⊥
      out e = cc

  pops_some : {rest : List Instr} {j : Line} {ys : List Line} {tries : List ℕ} → StandsFor number slots p well rest (j ∷ ys) tries → j.op ≡ lin.Flow flow.PopTrap → 0 < length tries
  pops_some (one_line f e z same u) r = absurd (line_not_pop z r)
  pops_some (via k e b o s) r = pops_some s r
  pops_some (onto e b o s) r = pops_some s r
  pops_some (idle_before e w s) r = pops_some s r
  pops_some (label_before {l = l} u s) r = absurd (out l r)
    where
      out : (l : ℕ) → lin.Flow (flow.Label l) ≡ lin.Flow flow.PopTrap → ⊥
      out l e = cc
  pops_some (pop_before u w s) r = w
  pops_some (exit_to {l = l} h same u) r = absurd (out l r)
    where
      out : (l : ℕ) → lin.Flow (flow.Exit l) ≡ lin.Flow flow.PopTrap → ⊥
      out l e = cc
  pops_some (jump_to {l = l} h same u) r = absurd (out l r)
    where
      out : (l : ℕ) → lin.Flow (flow.Jump l) ≡ lin.Flow flow.PopTrap → ⊥
      out l e = cc

  none_is_not_some : (k : ℕ) → 0 < k → k ≡ 0 → ⊥
  none_is_not_some k lt e = omega (arith, lt, e)

  -- every place has one number of pushed traps, and pushes and pops balance
  pub balance : TrapsBalance Q
  balance =
      record {
        depth = record { one = λ code tries others a b. one code tries others a b };
        pops = λ j ys tries r e none. none_is_not_some (length tries) (pops_some (comes number slots p well full r).stands e) none;
        leaves = λ j ys tries r e. leaves_none (comes number slots p well full r).stands e;
      }
    where
      one : (code : List Line) (tries others : List ℕ) → Traps Q code tries → Traps Q code others → length tries ≡ length others
      one code tries others (by_walk r) (by_walk s) = ap length (traps_same number slots p well full r s)
      one code tries others (by_walk {tries = ts} r) (unreached out) = absurd (out ts r)
      one code tries others (unreached out) (by_walk {tries = ts} r) = absurd (out ts r)
      one code tries others (unreached out) (unreached more') = refl

  -- ---- no addr

  frame_line : {g : MachOp} {f : LinOp} → AsLine g f → lines.passes_frame f ≡ true → passes_frame g ≡ true
  frame_line op_line e = e
  frame_line if_line e = e
  frame_line switch_line e = e
  frame_line try_line e = e
  frame_line handler_line e = e

  addr_free : mach_walks.NoAddrLive p → {rest : List Instr} {j : Line} {ys : List Line} {tries : List ℕ} → StandsFor number slots p well rest (j ∷ ys) tries → Reached p rest → lines.passes_frame j.op ≡ true → (l : Loc) →
      walks.LiveAcross Q l comp.Addr j ys tries → ⊥
  addr_free h (one_line {i = i} {next = next} f e z same u) r frame l w =
      let m = met_across number slots p well full f e z same w in
      h.none i next r (frame_line z frame) m.reg m.is m.type m.live
  addr_free h (via k e b o s) r frame l w = addr_free h s (by_step r (goes (At k) o)) frame l w
  addr_free h (onto e b o s) r frame l w = addr_free h s (by_step r (goes On o)) frame l w
  addr_free h (idle_before e z s) r frame l w = addr_free h s (by_step r (goes On (idle_on number slots p well full z))) frame l w
  addr_free h (label_before u s) r frame l w = true≢false (sym frame)
  addr_free h (pop_before u x s) r frame l w = true≢false (sym frame)
  addr_free h (exit_to k same u) r frame l w = true≢false (sym frame)
  addr_free h (jump_to k same u) r frame l w = true≢false (sym frame)

  pub no_addr : mach_walks.NoAddrLive p → NoAddrReached Q
  no_addr h = record { none = λ j ys tries r frame l w. let y = comes number slots p well full r in addr_free h y.stands y.reached frame l w }

  -- the traps round an instruction are those that any walk reaches its lines with
  pub one_traps : OneTraps Q
  one_traps = record { one = λ code tries others r s. traps_same number slots p well full r s }

  -- ---- well formed

  module _ (homes : (r : Reg) → IsRegister p r → IsHome Q (home number r.loc)) where
    locates : (rs : List Reg) → ((r : Reg) → IsIn r rs → IsRegister p r) → (s : Spot) → IsIn s (spots number rs) → IsHome Q s.loc
    locates rs regs s z =
        let y = spot_of number s rs z in subst (λ (s : Spot). IsHome Q s.loc) y.same (homes y.reg (regs y.reg y.inside))

    source_homes : {j : Line} → Source number p.code j → (s : Spot) → IsIn s j.args ⊎ IsIn s j.results → IsHome Q s.loc
    source_homes (own_line {i = i} f z a) s at =
        ⊎_elim (λ u. locates i.args (λ r x. is_in_code (in_args_of z x)) s u) (λ u. locates i.results (λ r x. is_in_code (in_results_of z x)) s u) at
      where
        in_args_of : {i : Instr} {code : List Instr} {r : Reg} → IsIn i code → IsIn r i.args → InCode r code
        in_args_of is_first x = mach_walks.in_args (contains_of x)
        in_args_of (is_later z) x = mach_walks.further (in_args_of z x)

        in_results_of : {i : Instr} {code : List Instr} {r : Reg} → IsIn i code → IsIn r i.results → InCode r code
        in_results_of is_first x = mach_walks.in_results (contains_of x)
        in_results_of (is_later z) x = mach_walks.further (in_results_of z x)
    source_homes (bare_line b) s at = ⊎_elim (λ u. absurd (nothing u)) (λ u. absurd (nothing u)) at
      where
        nothing : {s : Spot} → IsIn s [] → ⊥
        nothing u = elim u [ ]

    -- every location is a colour or a slot
    pub homes_lines : All (λ (j : Line). All (λ (s : Spot). IsHome Q s.loc) j.args × All (λ (s : Spot). IsHome Q s.loc) j.results) Q.code
    homes_lines =
        all_of (λ (j : Line). All (λ (s : Spot). IsHome Q s.loc) j.args × All (λ (s : Spot). IsHome Q s.loc) j.results) Q.code
        (λ j z. (
          all_of (λ (s : Spot). IsHome Q s.loc) j.args (λ s u. source_homes (source number p.code z) s (inl u)),
          all_of (λ (s : Spot). IsHome Q s.loc) j.results (λ s u. source_homes (source number p.code z) s (inr u)),
        ))

    line_source : {j : Line} → Contains Q.code j → Source number p.code j
    line_source {j} c = source number p.code (in_of j (L p.code) c)

    -- no line has t0
    no_spare : (t : Comp) {j : Line} → IsIn j Q.code → IsIn (record { loc = formed.spare; comp = t }) j.args ⊎ IsIn (record { loc = formed.spare; comp = t }) j.results → ⊥
    no_spare t z at = not_spare {m = Q} (source_homes (source number p.code z) (record { loc = formed.spare; comp = t }) at) refl

    read_none : (t : Comp) → IsRead Q formed.spare t → ⊥
    read_none t y = no_spare t y.inside (inl (in_of (record { loc = formed.spare; comp = t }) y.line.args y.reads))

    after_tail : {l : Loc} {t : Comp} {j : Line} {ys : List Line} {tries : List ℕ} → walks.LiveAfter Q l t j ys tries → Tail (j ∷ ys) Q.code → IsRead Q l t
    after_tail (walks.after_step (walks.goes t o) v) w = live_read Q v (tail_target Q w t)

    pub spare_passing : SpareIsPassing Q
    spare_passing =
        record {
          copies = λ j c t at. absurd (no_spare t (in_of j Q.code c) (split_in j.args j.results (in_of (record { loc = formed.spare; comp = t }) (j.args ++ j.results) at)));
          entry = λ t v. read_none t (live_read Q v tail_all);
          written = λ j ys tries s at t v. absurd (read_none t (after_tail v (stands_tail s)));
        }

    returns_same : {g : MachOp} {f : LinOp} → AsLine g f → f ≡ lin.Op (op.Leaving leaving.Return) → g ≡ mach.Op (op.Leaving leaving.Return)
    returns_same (op_line {f = f}) e = ap mach.Op (same f e)
      where
        same : (f : Op) → lin.Op f ≡ lin.Op (op.Leaving leaving.Return) → f ≡ op.Leaving leaving.Return
        same f e = cc
    returns_same (if_line {t = t} {l = l}) e = absurd (flow_not _ e)
      where
        flow_not : (f : Flow) → lin.Flow f ≡ lin.Op (op.Leaving leaving.Return) → ⊥
        flow_not f e = cc
    returns_same switch_line e = absurd (flow_not _ e)
      where
        flow_not : (f : Flow) → lin.Flow f ≡ lin.Op (op.Leaving leaving.Return) → ⊥
        flow_not f e = cc
    returns_same try_line e = absurd (flow_not _ e)
      where
        flow_not : (f : Flow) → lin.Flow f ≡ lin.Op (op.Leaving leaving.Return) → ⊥
        flow_not f e = cc
    returns_same handler_line e = absurd (flow_not _ e)
      where
        flow_not : (f : Flow) → lin.Flow f ≡ lin.Op (op.Leaving leaving.Return) → ⊥
        flow_not f e = cc

    source_returns : {j : Line} → Source number p.code j → j.op ≡ lin.Op (op.Leaving leaving.Return) → formed.comps j.args ≡ results_of_type p.result
    source_returns (own_line {i = i} f z a) e = comps_same number i.args ∙ well.returns i (contains_of z) (returns_same a e)
    source_returns (bare_line {f = f} b) e = absurd (flow_not f e)
      where
        flow_not : (f : Flow) → lin.Flow f ≡ lin.Op (op.Leaving leaving.Return) → ⊥
        flow_not f e = cc

    named_label : (j : Line) → Contains Q.code j → (l : ℕ) → NamesLabel l j.op → Contains (labels_in Q.code) l
    named_label j c l n = by (somewhere j Q.code (in_of j Q.code c))
      where
        somewhere : (j : Line) (code : List Line) → IsIn j code → (ys : List Line) × StandsAsLine j ys code
        somewhere j (k ∷ ks) is_first = (ks, here)
        somewhere j (k ∷ ks) (is_later z) = let y = somewhere j ks z in (y.0, below y.1)
        somewhere j [] z = elim z [ ]

        by : (ys : List Line) × StandsAsLine j ys Q.code → Contains (labels_in Q.code) l
        by y = two (leading p.code all j y.0 l y.1 n)
          where
            two : Leading l j y.0 → Contains (labels_in Q.code) l
            two (comes_later z) = contains_of (later_label (tail_next (stands_tail y.1)) z)
            two (by_exit e h) = contains_of (place_in_lines p.code h)

    push_line : {g : MachOp} {f : LinOp} (l : ℕ) → AsLine g f → f ≡ lin.Flow (flow.PushTrap l) → g ≡ mach.Mark (mark.Try l)
    push_line l (op_line {f = h}) s = absurd (out h s)
      where
        out : (h : Op) → lin.Op h ≡ lin.Flow (flow.PushTrap l) → ⊥
        out h s = cc
    push_line l (if_line {t = t} {l = k}) s = absurd (out _ s)
      where
        out : (h : _) → lin.Flow (flow.Branch h k) ≡ lin.Flow (flow.PushTrap l) → ⊥
        out h s = cc
    push_line l (switch_line {ls = ls}) s = absurd (out s)
      where
        out : lin.Flow (flow.Switch ls) ≡ lin.Flow (flow.PushTrap l) → ⊥
        out s = cc
    push_line l (try_line {l = k}) s = ap (λ k. mach.Mark (mark.Try k)) (push_is k l s)
    push_line l handler_line s = absurd (out s)
      where
        out : lin.Flow flow.EnterTrap ≡ lin.Flow (flow.PushTrap l) → ⊥
        out s = cc

    handlers_enter : {j : Line} (l : ℕ) → Source number p.code j → j.op ≡ lin.Flow (flow.PushTrap l) → EntersAt l Q.code
    handlers_enter l (own_line {i = i} f z a) s = by (ending_of z)
      where
        by : (next : List Instr) × Ending (i ∷ next) p.code → EntersAt l Q.code
        by y = enters p.code (handler_ending (ending_next y.1) (try_handler y.1 (push_line l a s)))
    handlers_enter l (bare_line b) s = out b s
      where
        out : {f : Flow} {A : Type 0} → IsBare number f → lin.Flow f ≡ lin.Flow (flow.PushTrap l) → A
        out (a_label {l = k}) s = absurd (no_push (flow.Label k) s)
          where
            no_push : (f : Flow) → lin.Flow (flow.Label k) ≡ lin.Flow (flow.PushTrap l) → ⊥
            no_push f s = cc
        out (a_jump {l = k}) s = absurd (no_push s)
          where
            no_push : lin.Flow (flow.Jump k) ≡ lin.Flow (flow.PushTrap l) → ⊥
            no_push s = cc
        out (an_exit {l = k}) s = absurd (no_push s)
          where
            no_push : lin.Flow (flow.Exit k) ≡ lin.Flow (flow.PushTrap l) → ⊥
            no_push s = cc
        out a_pop s = absurd (no_push s)
          where
            no_push : lin.Flow flow.PopTrap ≡ lin.Flow (flow.PushTrap l) → ⊥
            no_push s = cc

    pub well_formed : formed.WellFormed Q
    well_formed =
        record {
          forms = all_of formed.IsFormedLine Q.code (λ j z. source_formed number well.instrs (source number p.code z));
          returns = λ j c e. source_returns (line_source c) e;
          params = all_of (λ (s : Spot). IsHome Q s.loc) Q.params (λ s z. locates p.params (λ r u. is_param (contains_of u)) s z);
          locations = all_of (λ (j : Line). Locates Q j.args × Locates Q j.results) Q.code
              (λ j z. (
                all_of (λ (s : Spot). IsLocation Q s.loc) j.args (λ s u. is_home (source_homes (source number p.code z) s (inl u))),
                all_of (λ (s : Spot). IsLocation Q s.loc) j.results (λ s u. is_home (source_homes (source number p.code z) s (inr u))),
              ));
          spare = spare_passing;
          labels = subst (AllPairs Differ) (sym (labels_same number p.code)) well.labels_once;
          named = named_label;
          handlers = λ j c l e. handlers_enter l (line_source c) e;
          traps = balance;
        }
