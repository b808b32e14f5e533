-- What an instruction and the line of its own have alike, and what a move copies.
use Rattle.std.proofs.Common.{◌≡◌, ℕ, Bool, true, false, ◌⊎◌, inl, inr, List, [], ◌∷◌, Option, None, nat_eq, refl, sym, ap, ◌∙◌}
use Rattle.std.proofs.lemmas.Bool.{true≢false, eq-eqb, eqb-true}
use Rattle.bs_words.specs.Memory.{sizes}
use Rattle.bs_words.specs.declared.values.Value.{Value}
use Rattle.bs_words.proofs.Lists.{head_same}
use Rattle.lin_ir.specs.Known.{Setting}
use Rattle.mach_ir.specs.Acts.{Around, On, At, truth_of, goes_by_test}
use Rattle.mach_ir.specs.Runs.{ActivationSetting}
use Rattle.mach_ir.specs.Meaning.{passes_frame, mach_act}
use Rattle.mach_ir.specs.Walks.{IsMove, is_move}
use Rattle.mach_ir.specs.declared.op.CopyKind.TheVariants as copy
use Rattle.mach_ir.specs.declared.op.Op.TheVariants as op
use Rattle.mach_ir.specs.declared.op.Pure.TheVariants as pure
use Rattle.mach_ir.specs.declared.reg.Reg.{Reg}
use Rattle.mach_ir.specs.declared.mach.Mark.TheVariants as mark
use Rattle.mach_ir.specs.declared.mach.MachOp.{MachOp}
use Rattle.mach_ir.specs.declared.mach.MachOp.TheVariants as mach
use Rattle.mach_ir.specs.declared.mach.Instr.{Instr}
use Rattle.mach_laws.proofs.Instructions.{instr}
use Rattle.lin_ir.specs.Meaning as lines
use Rattle.lin_ir.specs.Meaning.{Locations}
use Rattle.lin_ir.specs.Walks as walks
use Rattle.lin_ir.specs.declared.lin.LinOp.{LinOp}
use Rattle.lin_ir.specs.declared.lin.Line.{Line}
use Rattle.lin_ir.specs.declared.lin.Lin.{Lin}
use Rattle.linearise_rules.specs.Kept.{ValsHeld}
use Rattle.linearise_rules.proofs.Marks.{AsLine, op_line, if_line, switch_line, try_line, handler_line, is_bare}
use Rattle.linearise_rules.proofs.Opposite.{truth_opposite, branch_opposite}
use Rattle.mach_laws.proofs.Turns.{tries_on, raised_on}

-- no value is asked for where a line is no frame point
pub calm_at : (c : ActivationSetting) (m : Lin) (j : Line) (ys : List Line) (b : Locations) (around : Around) → lines.passes_frame j.op ≡ false →
    ValsHeld c m (record { rest = j ∷ ys; file = b; around = around })
calm_at c m j ys b around e =
    record {
      held = λ k ks same frame l w.
          absurd (true≢false (sym frame ∙ ap (λ (x : Line). lines.passes_frame x.op) (sym (head_same same)) ∙ e));
    }

-- ---- what is the same of a line of its own

pub same_frame : {g : MachOp} {f : LinOp} → AsLine g f → lines.passes_frame f ≡ passes_frame g
same_frame op_line = refl
same_frame if_line = refl
same_frame switch_line = refl
same_frame try_line = refl
same_frame handler_line = refl

pub same_tries : {g : MachOp} {f : LinOp} (ts : List ℕ) → AsLine g f → tries_on g ts ≡ walks.tries_after f ts
same_tries ts op_line = refl
same_tries ts if_line = refl
same_tries ts switch_line = refl
same_tries ts try_line = refl
same_tries ts handler_line = refl

pub same_act : {g : MachOp} {f : LinOp} (c : Setting) (vs : List Value) (a : Around) → AsLine g f → mach_act c g vs a ≡ lines.lin_act c f vs a
same_act c vs a op_line = refl
same_act c vs a (if_line {t = t} {l = l}) =
    sym (branch_opposite a On (At l) (truth_of (sizes a.memory) t vs)) ∙ ap (goes_by_test a (At l) On) (sym (truth_opposite (sizes a.memory) t vs))
same_act c vs a switch_line = refl
same_act c [] a try_line = refl
same_act c (v ∷ vs) a try_line = refl
same_act c [] a handler_line = refl
same_act c (v ∷ vs) a handler_line = refl

abbrev pub is_handler : MachOp → Bool
is_handler (mach.Mark (mark.Handler l)) = true
is_handler _ = false

-- at the mark of a handler
abbrev pub is_entry : List Instr → Bool
is_entry [] = false
is_entry (i ∷ is) = is_handler i.op

pub none_raised : {g : MachOp} {f : LinOp} (o : Option Value) → AsLine g f → (is_handler g ≡ false → o ≡ None) → raised_on g o ≡ None
none_raised o op_line calm = calm refl
none_raised o if_line calm = calm refl
none_raised o switch_line calm = calm refl
none_raised o try_line calm = calm refl
none_raised o handler_line calm = refl

pub bare_calm : (f : MachOp) → is_bare f ≡ true → is_handler f ≡ false
bare_calm (mach.Op f) e = refl
bare_calm (mach.Mark (mark.Exit l n)) e = refl
bare_calm (mach.Mark (mark.If t l)) e = refl
bare_calm (mach.Mark (mark.Else l end)) e = refl
bare_calm (mach.Mark (mark.Switch ls)) e = refl
bare_calm (mach.Mark (mark.Case ns l end)) e = refl
bare_calm (mach.Mark mark.Catch) e = refl
bare_calm (mach.Mark (mark.With l end)) e = refl
bare_calm (mach.Mark (mark.Try l)) e = refl
bare_calm (mach.Mark (mark.Leave l end)) e = refl
bare_calm (mach.Mark (mark.Handler l)) e = absurd (true≢false (sym e))
bare_calm (mach.Mark (mark.End l)) e = refl

-- ---- moves

-- it copies one register into another
pub record Copies (i : Instr) (k : ℕ) : Type 0 where
  pub op_is : i.op ≡ mach.Op (op.Pure (pure.Copy copy.Move))
  pub from : Reg
  pub args_are : i.args ≡ from ∷ []
  pub number : from.number ≡ k

pub copies_of : {k n : ℕ} {i : Instr} → IsMove k n i → Copies i k
copies_of (is_move {r = r} e u) = record { op_is = refl; from = r; args_are = refl; number = e }

pub move_of : (k n : ℕ) (f : MachOp) (args results : List Reg) → IsMove k n (instr f args results) ⊎ (IsMove k n (instr f args results) → ⊥)
move_of k n (mach.Op (op.Pure (pure.Copy copy.Move))) (x ∷ []) (d ∷ []) = by (nat_eq x.number k) (nat_eq d.number n) refl refl
  where
    by : (s t : Bool) → nat_eq x.number k ≡ s → nat_eq d.number n ≡ t →
        IsMove k n (instr (mach.Op (op.Pure (pure.Copy copy.Move))) (x ∷ []) (d ∷ [])) ⊎ (IsMove k n (instr (mach.Op (op.Pure (pure.Copy copy.Move))) (x ∷ []) (d ∷ [])) → ⊥)
    by true true s t = inl (is_move (eqb-true x.number k s) (eqb-true d.number n t))
    by false t s u = inr (λ m. out m)
      where
        out : IsMove k n (instr (mach.Op (op.Pure (pure.Copy copy.Move))) (x ∷ []) (d ∷ [])) → ⊥
        out (is_move e v) = true≢false (sym (eq-eqb x.number k e) ∙ s)
    by true false s u = inr (λ m. out m)
      where
        out : IsMove k n (instr (mach.Op (op.Pure (pure.Copy copy.Move))) (x ∷ []) (d ∷ [])) → ⊥
        out (is_move e v) = true≢false (sym (eq-eqb d.number n v) ∙ u)
move_of k n (mach.Op (op.Pure (pure.Copy copy.Move))) [] results = inr (λ m. elim m [ ])
move_of k n (mach.Op (op.Pure (pure.Copy copy.Move))) (x ∷ []) [] = inr (λ m. elim m [ ])
move_of k n (mach.Op (op.Pure (pure.Copy copy.Move))) (x ∷ []) (d ∷ e ∷ ds) = inr (λ m. elim m [ ])
move_of k n (mach.Op (op.Pure (pure.Copy copy.Move))) (x ∷ y ∷ ys) results = inr (λ m. elim m [ ])
move_of k n (mach.Op (op.Pure (pure.Copy copy.Spill))) args results = inr (λ m. elim m [ ])
move_of k n (mach.Op (op.Pure (pure.Copy copy.Reload))) args results = inr (λ m. elim m [ ])
move_of k n (mach.Op (op.Pure (pure.Constant w))) args results = inr (λ m. elim m [ ])
move_of k n (mach.Op (op.Pure (pure.Symbol w))) args results = inr (λ m. elim m [ ])
move_of k n (mach.Op (op.Pure (pure.Operator f r))) args results = inr (λ m. elim m [ ])
move_of k n (mach.Op (op.Access f)) args results = inr (λ m. elim m [ ])
move_of k n (mach.Op (op.Calling f)) args results = inr (λ m. elim m [ ])
move_of k n (mach.Op (op.Leaving f)) args results = inr (λ m. elim m [ ])
move_of k n (mach.Mark f) args results = inr (λ m. elim m [ ])
