-- What may go is no mark, raises nothing and goes on: labels, handlers and tries are where they were.
use Rattle.std.proofs.Common.{◌≡◌, ℕ, Bool, true, false, cond, ◌&&◌, ◌⊎◌, inl, inr, List, [], ◌∷◌, ◌++◌, length, Option, Some, None, Result, Ok, Err, refl, sym, ap, ◌∙◌}
use Rattle.std.proofs.lemmas.Bool.{both_ways}
use Rattle.bs_words.specs.Memory.{sizes}
use Rattle.bs_words.specs.Operators.{apply}
use Rattle.bs_words.specs.declared.values.Kind.{Kind}
use Rattle.bs_words.specs.declared.values.Value.{Value}
use Rattle.bs_words.specs.declared.values.Value.TheVariants as value
use Rattle.cmm_meaning.specs.Setting.{Setting}
use Rattle.mach_ir.specs.Acts.{Around, On, Act, Goes, Stuck, pure_act, one_result, if_known}
use Rattle.mach_ir.specs.Formed.{labels_in}
use Rattle.mach_ir.specs.Meaning.{has_label, is_handler_of, destroyed_by, killed_by, mach_act, passes_frame}
use Rattle.mach_ir.specs.Placed.{is_straight}
use Rattle.mach_ir.specs.Walks.{OneOf, this, other, targets, may_raise}
use Rattle.mach_ir.specs.declared.op.Op.TheVariants as op
use Rattle.mach_ir.specs.declared.op.Pure.{Pure}
use Rattle.mach_ir.specs.declared.op.Pure.TheVariants as pure
use Rattle.mach_ir.specs.declared.op.Right.TheVariants as right
use Rattle.mach_ir.specs.declared.reg.Reg.{Reg}
use Rattle.mach_ir.specs.declared.mach.MachOp.{MachOp}
use Rattle.mach_ir.specs.declared.mach.MachOp.TheVariants as mach
use Rattle.mach_ir.specs.declared.mach.Instr.{Instr}
use Rattle.mach_laws.specs.Expand.{expand, KeepsMarks, NoLabel, no_label, not_labelled, NoHandler, no_handler, not_handled, bounds_try, NoBound, no_bound, not_bound}
use Rattle.mach_laws.proofs.InPlace.{same_head, IsPure, is_pure}
use Rattle.deadcode_rules.specs.Dropped.{may_go, unless_dropped}

-- ---- what may go

pub pure_of : (g : MachOp) → may_go g ≡ true → IsPure g
pure_of (mach.Op (op.Pure f)) e = is_pure
pure_of (mach.Op (op.Access f)) e = absurd (both_ways false refl e)
pure_of (mach.Op (op.Calling f)) e = absurd (both_ways false refl e)
pure_of (mach.Op (op.Leaving f)) e = absurd (both_ways false refl e)
pure_of (mach.Mark f) e = absurd (both_ways false refl e)

pub pure_on : {g : MachOp} → IsPure g → OneOf On (targets g)
pure_on is_pure = this

pub pure_only : {g : MachOp} {t : _} → IsPure g → OneOf t (targets g) → t ≡ On
pure_only is_pure this = refl
pure_only is_pure (other o) = elim o [ ]

pub pure_quiet : {g : MachOp} → IsPure g → may_raise g ≡ false
pure_quiet is_pure = refl

pub pure_no_frame : {g : MachOp} → IsPure g → passes_frame g ≡ false
pure_no_frame is_pure = refl

pub pure_kills : {g : MachOp} (cs results : List Reg) → IsPure g → killed_by cs (destroyed_by g) results ≡ []
pure_kills cs results is_pure = refl

pub pure_straight : {g : MachOp} → IsPure g → is_straight g ≡ true
pure_straight is_pure = refl

-- it goes on, with nothing changed round it, or is stuck
abbrev pub GoesOn : Around → Act → Type 0
GoesOn a x = (x ≡ Stuck) ⊎ ((results : List Value) × (x ≡ Goes results On a))

one_goes : (a : Around) (r : Result Value Kind) → GoesOn a (one_result a r)
one_goes a (Ok v) = inr (v ∷ [], refl)
one_goes a (Err kind) = inl refl

known_goes : (a : Around) (o : Option Value) → GoesOn a (if_known a o)
known_goes a (Some v) = inr (v ∷ [], refl)
known_goes a None = inl refl

pure_goes : (c : Setting) (f : Pure) (vs : List Value) (a : Around) → GoesOn a (pure_act c f vs a)
pure_goes c (pure.Copy kind) [] a = inl refl
pure_goes c (pure.Copy kind) (x ∷ []) a = inr (x ∷ [], refl)
pure_goes c (pure.Copy kind) (x ∷ y ∷ vs) a = inl refl
pure_goes c (pure.Constant w) [] a = inr (_, refl)
pure_goes c (pure.Constant w) (x ∷ vs) a = inl refl
pure_goes c (pure.Symbol s) [] a = known_goes a (c.symbol s)
pure_goes c (pure.Symbol s) (x ∷ vs) a = inl refl
pure_goes c (pure.Operator f right.Register) [] a = inl refl
pure_goes c (pure.Operator f right.Register) (x ∷ []) a = inl refl
pure_goes c (pure.Operator f right.Register) (x ∷ y ∷ []) a = one_goes a (apply f (sizes a.memory) x y)
pure_goes c (pure.Operator f right.Register) (x ∷ y ∷ z ∷ vs) a = inl refl
pure_goes c (pure.Operator f (right.Constant w)) [] a = inl refl
pure_goes c (pure.Operator f (right.Constant w)) (x ∷ []) a = one_goes a (apply f (sizes a.memory) x (value.Word w))
pure_goes c (pure.Operator f (right.Constant w)) (x ∷ y ∷ vs) a = inl refl

pub goes_on : {g : MachOp} (c : Setting) (vs : List Value) (a : Around) → IsPure g → GoesOn a (mach_act c g vs a)
goes_on c vs a (is_pure {f = f}) = pure_goes c f vs a

-- what marks a place stays
pub label_stays : (l : ℕ) (g : MachOp) → has_label l g ≡ true → may_go g ≡ false
label_stays l (mach.Op g) e = absurd (both_ways false refl e)
label_stays l (mach.Mark g) e = refl

pub handler_stays : (l : ℕ) (g : MachOp) → is_handler_of l g ≡ true → may_go g ≡ false
handler_stays l (mach.Op g) e = absurd (both_ways false refl e)
handler_stays l (mach.Mark g) e = refl

bound_stays : (g : MachOp) → bounds_try g ≡ true → may_go g ≡ false
bound_stays (mach.Op g) e = absurd (both_ways false refl e)
bound_stays (mach.Mark g) e = refl

pub mark_stays : (f : _) (g : MachOp) → g ≡ mach.Mark f → may_go g ≡ false
mark_stays f g e = ap may_go e

-- it has no label
pub pure_labels : (i : Instr) (is : List Instr) → IsPure i.op → labels_in (i ∷ is) ≡ labels_in is
pure_labels i is p = by i.op i.args i.results p
  where
    by : (g : MachOp) (args results : List Reg) → IsPure g →
        labels_in (record { op = g; args = args; results = results } ∷ is) ≡ labels_in is
    by g args results is_pure = refl

module _ (drops : ℕ → Bool) where
  abbrev pub f : ℕ → Instr → List Instr
  f = unless_dropped drops

  -- ---- what becomes of an instruction

  pub data Fate (i : Instr) (next : List Instr) : Type 0 where
    falls : may_go i.op ≡ true → drops (length next) ≡ true → f (length next) i ≡ [] →
        expand f (i ∷ next) ≡ expand f next → Fate i next
    remains : (may_go i.op ≡ true → drops (length next) ≡ false) → f (length next) i ≡ i ∷ [] →
        expand f (i ∷ next) ≡ i ∷ expand f next → Fate i next

  alone : (k : ℕ) (i : Instr) → may_go i.op ≡ false → f k i ≡ i ∷ []
  alone k i e = ap (λ b. cond (b && drops k) [] (i ∷ [])) e

  by_table : (k : ℕ) (i : Instr) (b : Bool) → may_go i.op ≡ true → drops k ≡ b → f k i ≡ cond b [] (i ∷ [])
  by_table k i b e h = ap (λ t. cond (t && drops k) [] (i ∷ [])) e ∙ ap (λ t. cond (true && t) [] (i ∷ [])) h

  pub fate : (i : Instr) (next : List Instr) → Fate i next
  fate i next = by (may_go i.op) (drops (length next)) refl refl
    where
      stays : (may_go i.op ≡ true → drops (length next) ≡ false) → f (length next) i ≡ i ∷ [] → Fate i next
      stays h e = remains h e (ap (λ xs. xs ++ expand f next) e)

      by : (b d : Bool) → may_go i.op ≡ b → drops (length next) ≡ d → Fate i next
      by true true e h =
          let g : f (length next) i ≡ [] = by_table (length next) i true e h in
          falls e h g (ap (λ xs. xs ++ expand f next) g)
      by true false e h = stays (λ g. h) (by_table (length next) i false e h)
      by false d e h = stays (λ g. absurd (both_ways (may_go i.op) e g)) (alone (length next) i e)

  kept_if : (P : List Instr → Type 0) (i : Instr) (b : Bool) → P [] → P (i ∷ []) → P (cond b [] (i ∷ []))
  kept_if P i true x y = x
  kept_if P i false x y = y

  pub keeps_marks : KeepsMarks (unless_dropped drops)
  keeps_marks =
      record {
        mark = λ l n i e. (i, alone n i (label_stays l i.op e), refl);
        none = λ l n i e. kept_if (NoLabel l) i (may_go i.op && drops n) no_label (not_labelled e no_label);
        handler = λ l n i e. (i, [], alone n i (handler_stays l i.op e), refl);
        no_other = λ l n i e. kept_if (NoHandler l) i (may_go i.op && drops n) no_handler (not_handled e no_handler);
        bound = λ n i e. (i, alone n i (bound_stays i.op e), refl);
        unbound = λ n i e. kept_if NoBound i (may_go i.op && drops n) no_bound (not_bound e no_bound);
      }

  -- labels stay
  pub same_labels : (code : List Instr) → labels_in (expand f code) ≡ labels_in code
  same_labels [] = refl
  same_labels (i ∷ is) = by (fate i is) (same_labels is)
    where
      by : Fate i is → labels_in (expand f is) ≡ labels_in is → labels_in (expand f (i ∷ is)) ≡ labels_in (i ∷ is)
      by (falls e d s h) ih = ap labels_in h ∙ ih ∙ sym (pure_labels i is (pure_of i.op e))
      by (remains e s h) ih = ap labels_in h ∙ same_head i (expand f is) is ih
