-- Which place of the Mach code each reached place of the lines stands for; what is live there is live in both.
use Rattle.std.proofs.Common.{◌≡◌, ℕ, zero, suc, ◌+◌, ◌-◌, ◌<◌, ◌≤◌, Bool, true, false, cond, List, [], ◌∷◌, length, refl, sym, ap, ◌∙◌, subst, arith}
use Rattle.mach_ir.specs.Acts.{Target, On, At, drop_tries}
use Rattle.mach_ir.specs.Formed.{IsFormedInstruction, LabelOccursIn, HasHandler, handler_below, tries_left, WellFormed}
use Rattle.mach_ir.specs.Meaning.{after_label, from_handler, code_at, tries_past, tries_at, destroyed_by}
use Rattle.mach_ir.specs.Walks.{OneOf, this, targets, may_raise}
use Rattle.mach_ir.specs.declared.reg.Reg.{Reg}
use Rattle.mach_ir.specs.declared.mach.Mark.TheVariants as mark
use Rattle.mach_ir.specs.declared.mach.MachOp.{MachOp}
use Rattle.mach_ir.specs.declared.mach.MachOp.TheVariants as mach
use Rattle.mach_ir.specs.declared.mach.Instr.{Instr}
use Rattle.mach_ir.specs.declared.mach.Mach.{Mach}
use Rattle.mach_laws.specs.Expand.{Ending, all, more}
use Rattle.mach_laws.proofs.Places.{ending_next, ending_from_handler, stands_of}
use Rattle.mach_laws.proofs.Instructions.{instr}
use Rattle.lin_ir.specs.Formed.{bare_flow}
use Rattle.lin_ir.specs.Meaning as lines
use Rattle.lin_ir.specs.Walks as walks
use Rattle.lin_ir.specs.declared.lin.Flow.TheVariants as flow
use Rattle.lin_ir.specs.declared.lin.LinOp.{LinOp}
use Rattle.lin_ir.specs.declared.lin.LinOp.TheVariants as lin
use Rattle.lin_ir.specs.declared.lin.Line.{Line}
use Rattle.lin_ir.specs.declared.lin.Lin.{Lin}
use Rattle.linearise_rules.specs.Lowered.{is_idle, line_of, pops, lines_of, lowered_code, lowered_with_numbers}
use Rattle.linearise_rules.proofs.Homes.{IsIn, is_first, is_later}
use Rattle.linearise_rules.proofs.Marks.{all_in, in_ending, AsLine, op_line, if_line, switch_line, try_line, handler_line, is_bare, IsIdle, idle_of, idle_tries, label_lowered, EntryOf, entry_of}
use Rattle.linearise_rules.proofs.Places.{drop_more, place_tries, before_place, at_left, pops_length}

pub handler_ending : {h : ℕ} {rest code : List Instr} → Ending rest code → HasHandler h rest → HasHandler h code
handler_ending all z = z
handler_ending (more e) z = handler_below (handler_ending e z)

-- its own line goes where it goes
pub same_targets : {f : MachOp} {g : LinOp} → AsLine f g → walks.targets g ≡ targets f
same_targets op_line = refl
same_targets if_line = refl
same_targets switch_line = refl
same_targets try_line = refl
same_targets handler_line = refl

pub same_raises : {f : MachOp} {g : LinOp} → AsLine f g → walks.may_raise g ≡ may_raise f
same_raises op_line = refl
same_raises if_line = refl
same_raises switch_line = refl
same_raises try_line = refl
same_raises handler_line = refl

pub same_destroyed : {f : MachOp} {g : LinOp} → AsLine f g → lines.destroyed_by g ≡ destroyed_by f
same_destroyed op_line = refl
same_destroyed if_line = refl
same_destroyed switch_line = refl
same_destroyed try_line = refl
same_destroyed handler_line = refl

-- how many lines a bare instruction has, and which tries are round each
module _ (number : ℕ → ℕ) (slots : ℕ) (p : Mach) (well : WellFormed p) where
  abbrev pub q : Lin
  q = lowered_with_numbers number slots p

  abbrev L : List Instr → List Line
  L = lowered_code number

  pub formed_at : {i : Instr} {next : List Instr} → Ending (i ∷ next) p.code → IsFormedInstruction i
  formed_at e = all_in IsFormedInstruction well.instrs (in_ending e)

  pub label_of : {i : Instr} {next : List Instr} → Ending (i ∷ next) p.code → (l : ℕ) → OneOf (At l) (targets i.op) → LabelOccursIn l p.code
  label_of {i} {next} e l o = well.labels.named i next (stands_of e) l o

  pub label_q : (l : ℕ) → LabelOccursIn l p.code → lines.after_label l q.code ≡ L (after_label l p.code)
  label_q l h = label_lowered number l p.code h well.labels_once

  pub at_target : {i : Instr} {next : List Instr} → Ending (i ∷ next) p.code → (t : Target) → OneOf t (targets i.op) → lines.code_at q.code (L next) t ≡ L (code_at p.code next t)
  at_target e On o = refl
  at_target e (At l) o = label_q l (label_of e l o)

  -- the handlers of tries that are round a place are after it
  pub handler_round : (h : ℕ) (rest : List Instr) → Ending rest p.code → IsIn h (tries_at rest) → HasHandler h rest
  handler_round h [] e z = elim z [ ]
  handler_round h (i ∷ is) e z = by i.op i.args i.results e z (λ z. handler_round h is (ending_next e) z)
    where
      dropped : (ts : List ℕ) → IsIn h (drop_tries 1 ts) → IsIn h ts
      dropped [] z = elim z [ ]
      dropped (t ∷ ts) z = is_later z

      at_leave : (l end : ℕ) (args results : List Reg) → Ending (instr (mach.Mark (mark.Leave l end)) args results ∷ is) p.code → IsIn h (l ∷ tries_at is) → (IsIn h (tries_at is) → HasHandler h is) → HasHandler h is
      at_leave l end args results e is_first go = well.labels.handlers (instr (mach.Mark (mark.Leave l end)) args results) is (stands_of e) l end refl
      at_leave l end args results e (is_later z) go = go z

      by : (f : MachOp) (args results : List Reg) → Ending (instr f args results ∷ is) p.code → IsIn h (tries_past f (tries_at is)) → (IsIn h (tries_at is) → HasHandler h is) → HasHandler h (instr f args results ∷ is)
      by (mach.Op f) args results e z go = handler_below (go z)
      by (mach.Mark (mark.Exit l k)) args results e z go = handler_below (go z)
      by (mach.Mark (mark.If t l)) args results e z go = handler_below (go z)
      by (mach.Mark (mark.Else l end)) args results e z go = handler_below (go z)
      by (mach.Mark (mark.Switch ls)) args results e z go = handler_below (go z)
      by (mach.Mark (mark.Case ns l end)) args results e z go = handler_below (go z)
      by (mach.Mark mark.Catch) args results e z go = handler_below (go z)
      by (mach.Mark (mark.With l end)) args results e z go = handler_below (go z)
      by (mach.Mark (mark.Try l)) args results e z go = handler_below (go (dropped (tries_at is) z))
      by (mach.Mark (mark.Leave l end)) args results e z go = handler_below (at_leave l end args results e z go)
      by (mach.Mark (mark.Handler l)) args results e z go = handler_below (go z)
      by (mach.Mark (mark.End l)) args results e z go = handler_below (go z)

  pub handler_of : {h : ℕ} {tries : List ℕ} (rest : List Instr) → Ending rest p.code → tries_at rest ≡ h ∷ tries → HasHandler h p.code
  handler_of {h} {tries} rest e same = handler_ending e (handler_round h rest e (subst (IsIn h) (sym same) is_first))

  -- so many traps are pushed at the place with this number
  abbrev pub IsAt : List Line → List ℕ → Type 0
  IsAt ys tries = tries ≡ place_tries number p.code (length ys)

  -- Where lines stand for code: a structure that only goes on has none of its own.
  pub data StandsFor : List Instr → List Line → List ℕ → Type 0 where
    at_end : {tries : List ℕ} → IsAt [] tries → StandsFor [] [] tries
    one_line : {i : Instr} {next : List Instr} {tries : List ℕ} (f : LinOp) → Ending (i ∷ next) p.code → AsLine i.op f → tries ≡ tries_at (i ∷ next) →
        IsAt (line_of number f i ∷ L next) tries → StandsFor (i ∷ next) (line_of number f i ∷ L next) tries
    via : {i : Instr} {next : List Instr} {ys : List Line} {tries : List ℕ} (l : ℕ) → Ending (i ∷ next) p.code → is_bare i.op ≡ true → OneOf (At l) (targets i.op) →
        StandsFor (after_label l p.code) ys tries → StandsFor (i ∷ next) ys tries
    onto : {i : Instr} {next : List Instr} {ys : List Line} {tries : List ℕ} → Ending (i ∷ next) p.code → is_bare i.op ≡ true → OneOf On (targets i.op) →
        StandsFor next ys tries → StandsFor (i ∷ next) ys tries
    idle_before : {i : Instr} {next : List Instr} {ys : List Line} {tries : List ℕ} → Ending (i ∷ next) p.code → IsIdle i.op i.args i.results →
        StandsFor next ys tries → StandsFor (i ∷ next) ys tries
    label_before : {l : ℕ} {rest : List Instr} {ys : List Line} {tries : List ℕ} → IsAt (bare_flow (flow.Label l) ∷ ys) tries → StandsFor rest ys tries →
        StandsFor rest (bare_flow (flow.Label l) ∷ ys) tries
    pop_before : {rest : List Instr} {ys : List Line} {tries : List ℕ} → IsAt (bare_flow flow.PopTrap ∷ ys) tries → 0 < length tries → StandsFor rest ys (drop_tries 1 tries) →
        StandsFor rest (bare_flow flow.PopTrap ∷ ys) tries
    exit_to : {l : ℕ} {ys : List Line} {tries : List ℕ} → LabelOccursIn l p.code → tries ≡ tries_at (after_label l p.code) → IsAt (bare_flow (flow.Exit l) ∷ ys) tries →
        StandsFor (after_label l p.code) (bare_flow (flow.Exit l) ∷ ys) tries
    jump_to : {l : ℕ} {ys : List Line} {tries : List ℕ} → LabelOccursIn l p.code → tries ≡ tries_at (after_label l p.code) → IsAt (bare_flow (flow.Jump l) ∷ ys) tries →
        StandsFor (after_label l p.code) (bare_flow (flow.Jump l) ∷ ys) tries

  pub is_at : {rest : List Instr} {ys : List Line} {tries : List ℕ} → StandsFor rest ys tries → IsAt ys tries
  is_at (at_end e) = e
  is_at (one_line f e z t u) = u
  is_at (via l e b o s) = is_at s
  is_at (onto e b o s) = is_at s
  is_at (idle_before e w s) = is_at s
  is_at (label_before u s) = u
  is_at (pop_before u w s) = u
  is_at (exit_to h t u) = u
  is_at (jump_to h t u) = u

  -- where control goes on at a label
  pub marked : {i : Instr} {next : List Instr} → Ending (i ∷ next) p.code → (l : ℕ) → OneOf (At l) (targets i.op) → tries_at (after_label l p.code) ≡ tries_left i.op (tries_at (i ∷ next))
  marked {i} {next} e l o = well.nested.at_label i next (stands_of e) l o

  minus_zero : (n : ℕ) → n - n ≡ 0
  minus_zero n = omega arith

  minus_suc : (n k : ℕ) → k ≤ n → suc n - k ≡ suc (n - k)
  minus_suc n k le = omega (arith, le)

  some_left : (n k : ℕ) → suc n ≤ k → 0 < k
  some_left n k le = omega (arith, le)

  one_less : (n : ℕ) (ts : List ℕ) → suc n ≤ length ts → n ≤ length (drop_tries 1 ts)
  one_less n [] le = absurd (omega (arith, le))
  one_less n (t ∷ ts) le = omega (arith, le)

  pops_stand : (n : ℕ) {rest : List Instr} {ys : List Line} (tries : List ℕ) → ((k : ℕ) → k ≤ n → IsAt (pops number k ys) (drop_tries (n - k) tries)) →
      n ≤ length tries → StandsFor rest ys (drop_tries n tries) → StandsFor rest (pops number n ys) tries
  pops_stand zero tries at enough s = s
  pops_stand (suc n) {rest} {ys} tries at enough s =
      pop_before (sym (ap (λ k. drop_tries k tries) (minus_zero (suc n))) ∙ at (suc n) (omega arith)) (some_left n (length tries) enough)
      (pops_stand n (drop_tries 1 tries)
      (λ k le. sym (drop_more (n - k) tries) ∙ ap (λ k. drop_tries k tries) (sym (minus_suc n k le)) ∙ at k (omega (arith, le))) (one_less n tries enough)
      (subst (StandsFor rest ys) (drop_more n tries) s))

  pub stands : (rest : List Instr) → Ending rest p.code → StandsFor rest (L rest) (tries_at rest)
  stands [] e = at_end (sym (before_place number [] p.code e))
  stands (i ∷ next) e = self (is_idle i.op i.args i.results) refl (stands next (ending_next e))
    where
      here_at : IsAt (L (i ∷ next)) (tries_at (i ∷ next))
      here_at = sym (before_place number (i ∷ next) p.code e)

      by : (f : MachOp) (args results : List Reg) → Ending (instr f args results ∷ next) p.code → is_idle f args results ≡ false → IsAt (L (instr f args results ∷ next)) (tries_past f (tries_at next)) →
          StandsFor next (L next) (tries_at next) → StandsFor (instr f args results ∷ next) (lines_of number f (instr f args results) (L next)) (tries_past f (tries_at next))
      by (mach.Op f) args results e w at s =
          one_line (lin.Op f) e op_line refl (subst (λ t. IsAt (cond t (L next) (line_of number (lin.Op f) (instr (mach.Op f) args results) ∷ L next)) (tries_at next)) w at)
      by (mach.Mark (mark.Exit l k)) args results e w at s =
          via l e refl this
          (pops_stand k (tries_at next) (λ m le. left m le) (well.nested.at_exit (instr (mach.Mark (mark.Exit l k)) args results) next (stands_of e) l k refl)
          (exit_to (label_of e l this) (sym (marked e l this))
          (ap (λ n. drop_tries n (tries_at next)) (sym (minus_k k)) ∙ left 0 (omega arith))))
        where
          minus_k : (k : ℕ) → k - 0 ≡ k
          minus_k k = omega arith

          minus_both : (k m : ℕ) → suc k - suc m ≡ k - m
          minus_both k m = omega arith

          shifted : (m n : ℕ) → m + suc n ≡ suc m + n
          shifted m n = omega arith

          shorter : (m k a b c : ℕ) → m ≤ k → a ≡ m + suc c → b ≡ k + suc c → a ≤ b
          shorter m k a b c le x y = omega (arith, le, x, y)

          xs : List Line
          xs = bare_flow (flow.Exit l) ∷ L next

          left : (m : ℕ) → m ≤ k → IsAt (pops number m (bare_flow (flow.Exit l) ∷ L next)) (drop_tries (k - m) (tries_at next))
          left m le =
              ap (λ n. drop_tries n (tries_at next)) (sym (minus_both k m))
              ∙ sym (at_left number e (suc m) (length (pops number m (bare_flow (flow.Exit l) ∷ L next)))
              (pops_length number m (bare_flow (flow.Exit l) ∷ L next) ∙ shifted m (length (L next))) (omega arith)
              (shorter m k (length (pops number m (bare_flow (flow.Exit l) ∷ L next))) (length (pops number k (bare_flow (flow.Exit l) ∷ L next))) (length (L next)) le
              (pops_length number m (bare_flow (flow.Exit l) ∷ L next)) (pops_length number k (bare_flow (flow.Exit l) ∷ L next))))
      by (mach.Mark (mark.If t l)) args results e w at s = one_line _ e if_line refl at
      by (mach.Mark (mark.Else l end)) args results e w at s = via end e refl this (jump_to (label_of e end this) (sym (marked e end this)) at)
      by (mach.Mark (mark.Switch ls)) args results e w at s = one_line _ e switch_line refl at
      by (mach.Mark (mark.Case ns l end)) args results e w at s = via end e refl this (jump_to (label_of e end this) (sym (marked e end this)) at)
      by (mach.Mark mark.Catch) args results e w at s = onto e refl this s
      by (mach.Mark (mark.With l end)) args results e w at s = via end e refl this (jump_to (label_of e end this) (sym (marked e end this)) at)
      by (mach.Mark (mark.Try l)) args results e w at s = one_line _ e try_line refl at
      by (mach.Mark (mark.Leave l end)) args results e w at s =
          via end e refl this
          (pop_before at (some_one (length (tries_at next)))
          (jump_to (label_of e end this) (sym (marked e end this))
          (sym (at_left number e 1 (length (bare_flow (flow.Jump end) ∷ L next)) (one (length (L next))) (omega arith) (less (length (L next)))))))
        where
          some_one : (k : ℕ) → 0 < suc k
          some_one k = omega arith

          one : (k : ℕ) → suc k ≡ 1 + k
          one k = omega arith

          less : (k : ℕ) → suc k ≤ suc (suc k)
          less k = omega arith
      by (mach.Mark (mark.Handler l)) args results e w at s =
          label_before at
          (one_line _ e handler_line refl
          (sym (at_left number e 1 (length (line_of number (lin.Flow flow.EnterTrap) (instr (mach.Mark (mark.Handler l)) args results) ∷ L next)) (one (length (L next))) (omega arith) (less (length (L next))))))
        where
          one : (k : ℕ) → suc k ≡ 1 + k
          one k = omega arith

          less : (k : ℕ) → suc k ≤ suc (suc k)
          less k = omega arith
      by (mach.Mark (mark.End l)) args results e w at s = label_before at (onto e refl this s)

      self : (t : Bool) → is_idle i.op i.args i.results ≡ t → StandsFor next (L next) (tries_at next) → StandsFor (i ∷ next) (cond t (L next) (lines_of number i.op i (L next))) (tries_past i.op (tries_at next))
      self true w s =
          let z = idle_of i.op i.args i.results w in subst (StandsFor (i ∷ next) (L next)) (sym (idle_tries (tries_at next) z)) (idle_before e z s)
      self false w s = by i.op i.args i.results e w here_at s

  pub stands_at : (rest : List Instr) (ys : List Line) (tries : List ℕ) → Ending rest p.code → ys ≡ L rest → tries ≡ tries_at rest → StandsFor rest ys tries
  stands_at rest ys tries e same t = subst (StandsFor rest ys) (sym t) (subst (λ ys. StandsFor rest ys (tries_at rest)) (sym same) (stands rest e))

  -- at the entry of a handler
  pub stands_entry : (h : ℕ) → HasHandler h p.code → (ts : List ℕ) → ts ≡ tries_at (from_handler h p.code) → StandsFor (from_handler h p.code) (lines.after_label h q.code) ts
  stands_entry h z ts same = by (entry_of number h p.code z well.labels_once)
    where
      by : EntryOf number h p.code → StandsFor (from_handler h p.code) (lines.after_label h q.code) ts
      by y =
          let e : Ending (y.entry ∷ y.next) p.code = subst (λ rest. Ending rest p.code) y.found (ending_from_handler h p.code) in
          subst (λ rest. StandsFor rest (lines.after_label h q.code) ts) (sym y.found)
          (subst (λ ys. StandsFor (y.entry ∷ y.next) ys ts) (sym y.lines)
          (one_line (lin.Flow flow.EnterTrap) e (subst (λ f. AsLine f (lin.Flow flow.EnterTrap)) (sym y.is) handler_line) (same ∙ ap tries_at y.found)
          (same ∙ ap tries_at y.found ∙ entry_at y e)))
        where
          one : (k : ℕ) → suc k ≡ 1 + k
          one k = omega arith

          entry_at : (y : EntryOf number h p.code) → Ending (y.entry ∷ y.next) p.code → tries_at (y.entry ∷ y.next) ≡ place_tries number p.code (length (line_of number (lin.Flow flow.EnterTrap) y.entry ∷ L y.next))
          entry_at y e = two y.entry.op y.entry.args y.entry.results y.is e
            where
              less : (k : ℕ) → suc k ≤ suc (suc k)
              less k = omega arith

              three : (args results : List Reg) → Ending (instr (mach.Mark (mark.Handler h)) args results ∷ y.next) p.code → tries_at y.next ≡ place_tries number p.code (suc (length (L y.next)))
              three args results e = sym (at_left number e 1 (suc (length (L y.next))) (one (length (L y.next))) (omega arith) (less (length (L y.next))))

              two : (f : MachOp) (args results : List Reg) → f ≡ mach.Mark (mark.Handler h) → Ending (instr f args results ∷ y.next) p.code → tries_past f (tries_at y.next) ≡ place_tries number p.code (suc (length (L y.next)))
              two f args results same e =
                  ap (λ f. tries_past f (tries_at y.next)) same ∙ three args results (subst (λ f. Ending (instr f args results ∷ y.next) p.code) same e)
