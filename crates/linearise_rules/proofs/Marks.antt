-- The marks of a Mach function, and where their labels are in its lines.
use Rattle.std.proofs.Common.{◌≡◌, ◌≢◌, ℕ, zero, suc, Bool, true, false, cond, ◌⊎◌, inl, inr, ⊎_elim, List, [], ◌∷◌, nat_eq, All, AllPairs, refl, sym, ap, ◌∙◌, subst}
use Rattle.std.proofs.lemmas.Bool.{true≢false, eqb-true, and_parts}
use Rattle.std.proofs.lemmas.List.Elements.{All-head, All-tail}
use Rattle.bs_words.specs.declared.types.Comp.{Comp}
use Rattle.bs_words.proofs.Lists.{pairs_here, pairs_later}
use Rattle.mach_ir.specs.Formed.{MarkHasForm, exit_form, if_form, else_form, switch_form, case_form, catch_form, with_form, try_form, leave_form, handler_form, end_form, IsFormedInstruction, formed_op, formed_mark, labels_in, LabelOccursIn, place_here, place_below, HasHandler, handler_here, handler_below}
use Rattle.mach_ir.specs.Meaning.{has_label, is_handler_of, after_label, from_handler, tries_past, destroyed_by, killed_by}
use Rattle.mach_ir.specs.Walks.{InCode, in_args, in_results, further}
use Rattle.mach_ir.specs.declared.op.Op.TheVariants as op
use Rattle.mach_ir.specs.declared.op.CopyKind.{CopyKind}
use Rattle.mach_ir.specs.declared.op.Pure.TheVariants as pure
use Rattle.mach_ir.specs.declared.reg.Reg.{Reg}
use Rattle.mach_ir.specs.declared.mach.Mark.{Mark}
use Rattle.mach_ir.specs.declared.mach.Mark.TheVariants as mark
use Rattle.mach_ir.specs.declared.mach.MachOp.{MachOp}
use Rattle.mach_ir.specs.declared.mach.MachOp.TheVariants as mach
use Rattle.mach_ir.specs.declared.mach.Instr.{Instr}
use Rattle.mach_laws.specs.Expand.{Ending, all, more}
use Rattle.mach_laws.proofs.Instructions.{instr, no_comps}
use Rattle.mach_laws.proofs.Places.{comp_is}
use Rattle.lin_ir.specs.Formed.{bare_flow}
use Rattle.lin_ir.specs.Meaning as lines
use Rattle.lin_ir.specs.declared.lin.Flow.TheVariants as flow
use Rattle.lin_ir.specs.declared.lin.LinOp.{LinOp}
use Rattle.lin_ir.specs.declared.lin.LinOp.TheVariants as lin
use Rattle.lin_ir.specs.declared.lin.Line.{Line}
use Rattle.lin_laws.proofs.Forms.{same_loc_is}
use Rattle.linearise_rules.specs.Lowered.{opposite_test, is_idle, line_of, pops, lines_of, lowered_code}
use Rattle.linearise_rules.proofs.Homes.{IsIn, is_first, is_later, contains_of}

-- ---- lists

pub all_in : {A : Type 0} (P : A → Type 0) {x : A} {xs : List A} → All P xs → IsIn x xs → P x
all_in P {x} h (is_first {xs = xs}) = All-head P x xs h
all_in P h (is_later {y = y} {xs = xs} i) = all_in P (All-tail P y xs h) i

abbrev pub Differ : ℕ → ℕ → Type 0
Differ k l = k ≢ l

-- ---- what a code ends with

pub in_ending : {i : Instr} {next code : List Instr} → Ending (i ∷ next) code → IsIn i code
in_ending all = is_first
in_ending (more e) = is_later (in_ending e)

pub args_in_code : {i : Instr} {next code : List Instr} {r : Reg} → Ending (i ∷ next) code → IsIn r i.args → InCode r code
args_in_code all c = in_args (contains_of c)
args_in_code (more e) c = further (args_in_code e c)

pub results_in_code : {i : Instr} {next code : List Instr} {r : Reg} → Ending (i ∷ next) code → IsIn r i.results → InCode r code
results_in_code all c = in_results (contains_of c)
results_in_code (more e) c = further (results_in_code e c)

-- ---- kinds of instructions

-- one line with its operands and results stands for it
pub data AsLine : MachOp → LinOp → Type 0 where
  op_line : {f : _} → AsLine (mach.Op f) (lin.Op f)
  if_line : {t : _} {l : ℕ} → AsLine (mach.Mark (mark.If t l)) (lin.Flow (flow.Branch (opposite_test t) l))
  switch_line : {ls : List ℕ} → AsLine (mach.Mark (mark.Switch ls)) (lin.Flow (flow.Switch ls))
  try_line : {l : ℕ} → AsLine (mach.Mark (mark.Try l)) (lin.Flow (flow.PushTrap l))
  handler_line : {l : ℕ} → AsLine (mach.Mark (mark.Handler l)) (lin.Flow flow.EnterTrap)

-- what a structure is, that neither reads nor writes
abbrev pub is_bare : MachOp → Bool
is_bare (mach.Mark (mark.Exit l n)) = true
is_bare (mach.Mark (mark.Else l end)) = true
is_bare (mach.Mark (mark.Case indexes l end)) = true
is_bare (mach.Mark mark.Catch) = true
is_bare (mach.Mark (mark.With l end)) = true
is_bare (mach.Mark (mark.Try l)) = true
is_bare (mach.Mark (mark.Leave l end)) = true
is_bare (mach.Mark (mark.End l)) = true
is_bare _ = false

-- a copy from a place to itself, of one component
pub data IsIdle : MachOp → List Reg → List Reg → Type 0 where
  idles : {kind : CopyKind} {x d : Reg} → x.loc ≡ d.loc → x.comp ≡ d.comp → IsIdle (mach.Op (op.Pure (pure.Copy kind))) (x ∷ []) (d ∷ [])

pub idle_of : (f : MachOp) (args results : List Reg) → is_idle f args results ≡ true → IsIdle f args results
idle_of (mach.Op (op.Pure (pure.Copy kind))) (x ∷ []) (d ∷ []) e =
    let y = and_parts _ _ e in idles (same_loc_is x.loc d.loc y.0) (comp_is x.comp d.comp y.1)
idle_of (mach.Op (op.Pure (pure.Copy kind))) [] results e = absurd (true≢false (sym e))
idle_of (mach.Op (op.Pure (pure.Copy kind))) (x ∷ []) [] e = absurd (true≢false (sym e))
idle_of (mach.Op (op.Pure (pure.Copy kind))) (x ∷ []) (d ∷ k ∷ ks) e = absurd (true≢false (sym e))
idle_of (mach.Op (op.Pure (pure.Copy kind))) (x ∷ y ∷ ys) results e = absurd (true≢false (sym e))
idle_of (mach.Op (op.Pure (pure.Constant w))) args results e = absurd (true≢false (sym e))
idle_of (mach.Op (op.Pure (pure.Symbol w))) args results e = absurd (true≢false (sym e))
idle_of (mach.Op (op.Pure (pure.Operator f r))) args results e = absurd (true≢false (sym e))
idle_of (mach.Op (op.Access f)) args results e = absurd (true≢false (sym e))
idle_of (mach.Op (op.Calling f)) args results e = absurd (true≢false (sym e))
idle_of (mach.Op (op.Leaving f)) args results e = absurd (true≢false (sym e))
idle_of (mach.Mark f) args results e = absurd (true≢false (sym e))

pub idle_label : (l : ℕ) {f : MachOp} {args results : List Reg} → IsIdle f args results → has_label l f ≡ false
idle_label l (idles e u) = refl

pub idle_handler : (l : ℕ) {f : MachOp} {args results : List Reg} → IsIdle f args results → is_handler_of l f ≡ false
idle_handler l (idles e u) = refl

pub idle_tries : {f : MachOp} {args results : List Reg} (ts : List ℕ) → IsIdle f args results → tries_past f ts ≡ ts
idle_tries ts (idles e u) = refl

pub idle_labels : {i : Instr} (is : List Instr) → IsIdle i.op i.args i.results → labels_in (i ∷ is) ≡ labels_in is
idle_labels {i} is w = by i.op i.args i.results w
  where
    by : (f : MachOp) (args results : List Reg) → IsIdle f args results → labels_in (instr f args results ∷ is) ≡ labels_in is
    by f args results (idles e u) = refl

-- ---- forms

bare_form : {f : Mark} {args results : List Comp} → MarkHasForm f args results → is_bare (mach.Mark f) ≡ true → (args ≡ []) × (results ≡ [])
bare_form exit_form e = (refl, refl)
bare_form (if_form t) e = absurd (true≢false (sym e))
bare_form else_form e = (refl, refl)
bare_form switch_form e = absurd (true≢false (sym e))
bare_form case_form e = (refl, refl)
bare_form catch_form e = (refl, refl)
bare_form with_form e = (refl, refl)
bare_form try_form e = (refl, refl)
bare_form leave_form e = (refl, refl)
bare_form handler_form e = absurd (true≢false (sym e))
bare_form end_form e = (refl, refl)

pub bare_empty : {i : Instr} → IsFormedInstruction i → is_bare i.op ≡ true → (i.args ≡ []) × (i.results ≡ [])
bare_empty (formed_op h) e = absurd (true≢false (sym e))
bare_empty (formed_mark {args = args} {results = results} h) e =
    let y = bare_form h e in (no_comps args y.0, no_comps results y.1)

pub bare_kills : (f : MachOp) (rs results : List Reg) → is_bare f ≡ true → killed_by rs (destroyed_by f) results ≡ []
bare_kills (mach.Op f) rs results e = absurd (true≢false (sym e))
bare_kills (mach.Mark (mark.Exit l n)) rs results e = refl
bare_kills (mach.Mark (mark.If t l)) rs results e = absurd (true≢false (sym e))
bare_kills (mach.Mark (mark.Else l end)) rs results e = refl
bare_kills (mach.Mark (mark.Switch ls)) rs results e = absurd (true≢false (sym e))
bare_kills (mach.Mark (mark.Case indexes l end)) rs results e = refl
bare_kills (mach.Mark mark.Catch) rs results e = refl
bare_kills (mach.Mark (mark.With l end)) rs results e = refl
bare_kills (mach.Mark (mark.Try l)) rs results e = refl
bare_kills (mach.Mark (mark.Leave l end)) rs results e = refl
bare_kills (mach.Mark (mark.Handler l)) rs results e = absurd (true≢false (sym e))
bare_kills (mach.Mark (mark.End l)) rs results e = refl

-- ---- labels

pub place_split : {l : ℕ} {i : Instr} {is : List Instr} → LabelOccursIn l (i ∷ is) → (has_label l i.op ≡ true) ⊎ LabelOccursIn l is
place_split (place_here e) = inl e
place_split (place_below h) = inr h

pub handler_split : {l : ℕ} {i : Instr} {is : List Instr} → HasHandler l (i ∷ is) → (is_handler_of l i.op ≡ true) ⊎ HasHandler l is
handler_split (handler_here e) = inl e
handler_split (handler_below h) = inr h

is_at : (k l : ℕ) (ls : List ℕ) → nat_eq k l ≡ true → IsIn l (k ∷ ls)
is_at k l ls e = subst (λ m. IsIn l (m ∷ ls)) (sym (eqb-true k l e)) is_first

-- labels in what follows are labels here
pub labels_more : {l : ℕ} (f : MachOp) (args results : List Reg) (is : List Instr) → IsIn l (labels_in is) → IsIn l (labels_in (instr f args results ∷ is))
labels_more (mach.Op f) args results is h = h
labels_more (mach.Mark (mark.Exit l n)) args results is h = h
labels_more (mach.Mark (mark.If t l)) args results is h = h
labels_more (mach.Mark (mark.Else l end)) args results is h = is_later h
labels_more (mach.Mark (mark.Switch ls)) args results is h = h
labels_more (mach.Mark (mark.Case indexes l end)) args results is h = is_later h
labels_more (mach.Mark mark.Catch) args results is h = h
labels_more (mach.Mark (mark.With l end)) args results is h = is_later h
labels_more (mach.Mark (mark.Try l)) args results is h = h
labels_more (mach.Mark (mark.Leave l end)) args results is h = h
labels_more (mach.Mark (mark.Handler l)) args results is h = is_later h
labels_more (mach.Mark (mark.End l)) args results is h = is_later h

label_first : (l : ℕ) (f : MachOp) (args results : List Reg) (is : List Instr) → has_label l f ≡ true → IsIn l (labels_in (instr f args results ∷ is))
label_first l (mach.Op f) args results is e = absurd (true≢false (sym e))
label_first l (mach.Mark (mark.Exit k n)) args results is e = absurd (true≢false (sym e))
label_first l (mach.Mark (mark.If t k)) args results is e = absurd (true≢false (sym e))
label_first l (mach.Mark (mark.Else k end)) args results is e = is_at k l (labels_in is) e
label_first l (mach.Mark (mark.Switch ls)) args results is e = absurd (true≢false (sym e))
label_first l (mach.Mark (mark.Case indexes k end)) args results is e = is_at k l (labels_in is) e
label_first l (mach.Mark mark.Catch) args results is e = absurd (true≢false (sym e))
label_first l (mach.Mark (mark.With k end)) args results is e = is_at k l (labels_in is) e
label_first l (mach.Mark (mark.Try k)) args results is e = absurd (true≢false (sym e))
label_first l (mach.Mark (mark.Leave k end)) args results is e = absurd (true≢false (sym e))
label_first l (mach.Mark (mark.Handler k)) args results is e = absurd (true≢false (sym e))
label_first l (mach.Mark (mark.End k)) args results is e = is_at k l (labels_in is) e

handler_first : (l : ℕ) (f : MachOp) (args results : List Reg) (is : List Instr) → is_handler_of l f ≡ true → IsIn l (labels_in (instr f args results ∷ is))
handler_first l (mach.Op f) args results is e = absurd (true≢false (sym e))
handler_first l (mach.Mark (mark.Exit k n)) args results is e = absurd (true≢false (sym e))
handler_first l (mach.Mark (mark.If t k)) args results is e = absurd (true≢false (sym e))
handler_first l (mach.Mark (mark.Else k end)) args results is e = absurd (true≢false (sym e))
handler_first l (mach.Mark (mark.Switch ls)) args results is e = absurd (true≢false (sym e))
handler_first l (mach.Mark (mark.Case indexes k end)) args results is e = absurd (true≢false (sym e))
handler_first l (mach.Mark mark.Catch) args results is e = absurd (true≢false (sym e))
handler_first l (mach.Mark (mark.With k end)) args results is e = absurd (true≢false (sym e))
handler_first l (mach.Mark (mark.Try k)) args results is e = absurd (true≢false (sym e))
handler_first l (mach.Mark (mark.Leave k end)) args results is e = absurd (true≢false (sym e))
handler_first l (mach.Mark (mark.Handler k)) args results is e = is_at k l (labels_in is) e
handler_first l (mach.Mark (mark.End k)) args results is e = absurd (true≢false (sym e))

pub place_label : {l : ℕ} (code : List Instr) → LabelOccursIn l code → IsIn l (labels_in code)
place_label {l} (i ∷ is) (place_here e) = label_first l i.op i.args i.results is e
place_label (i ∷ is) (place_below h) = labels_more i.op i.args i.results is (place_label is h)
place_label [] h = elim h [ ]

pub handler_label : {l : ℕ} (code : List Instr) → HasHandler l code → IsIn l (labels_in code)
handler_label {l} (i ∷ is) (handler_here e) = handler_first l i.op i.args i.results is e
handler_label (i ∷ is) (handler_below h) = labels_more i.op i.args i.results is (handler_label is h)
handler_label [] h = elim h [ ]

-- labels that differ still do in what follows
pub once_later : (f : MachOp) (args results : List Reg) (is : List Instr) → AllPairs Differ (labels_in (instr f args results ∷ is)) → AllPairs Differ (labels_in is)
once_later (mach.Op f) args results is h = h
once_later (mach.Mark (mark.Exit l n)) args results is h = h
once_later (mach.Mark (mark.If t l)) args results is h = h
once_later (mach.Mark (mark.Else l end)) args results is h = pairs_later Differ l (labels_in is) h
once_later (mach.Mark (mark.Switch ls)) args results is h = h
once_later (mach.Mark (mark.Case indexes l end)) args results is h = pairs_later Differ l (labels_in is) h
once_later (mach.Mark mark.Catch) args results is h = h
once_later (mach.Mark (mark.With l end)) args results is h = pairs_later Differ l (labels_in is) h
once_later (mach.Mark (mark.Try l)) args results is h = h
once_later (mach.Mark (mark.Leave l end)) args results is h = h
once_later (mach.Mark (mark.Handler l)) args results is h = pairs_later Differ l (labels_in is) h
once_later (mach.Mark (mark.End l)) args results is h = pairs_later Differ l (labels_in is) h

differ_test : (k l : ℕ) (ls : List ℕ) → AllPairs Differ (k ∷ ls) → IsIn l ls → nat_eq k l ≡ false
differ_test k l ls h i = by (nat_eq k l) refl
  where
    by : (t : Bool) → nat_eq k l ≡ t → nat_eq k l ≡ false
    by true e = absurd (all_in (Differ k) (pairs_here Differ k ls h) i (eqb-true k l e))
    by false e = e

-- ---- their lines

module _ (number : ℕ → ℕ) where
  abbrev L : List Instr → List Line
  L = lowered_code number

  pops_label : (l n : ℕ) (xs : List Line) → lines.after_label l (pops number n xs) ≡ lines.after_label l xs
  pops_label l zero xs = refl
  pops_label l (suc n) xs = pops_label l n xs

  label_at : (t : Bool) (P : Type 0) (is js : List Instr) (xs : List Line) → (t ≡ true) ⊎ P → (P → xs ≡ L js) → cond t (L is) xs ≡ L (cond t is js)
  label_at true P is js xs h go = refl
  label_at false P is js xs h go = ⊎_elim (λ e. absurd (true≢false (sym e))) go h

  skips : {A : Type 0} (P : Type 0) → (false ≡ true) ⊎ P → (P → A) → A
  skips P h go = ⊎_elim (λ e. absurd (true≢false (sym e))) go h

  -- the place of a label is that of its line
  pub label_lowered : (l : ℕ) (code : List Instr) → LabelOccursIn l code → AllPairs Differ (labels_in code) → lines.after_label l (L code) ≡ L (after_label l code)
  label_lowered l [] h once = elim h [ ]
  label_lowered l (i ∷ is) h once =
      self (is_idle i.op i.args i.results) refl (place_split h) (λ h. label_lowered l is h (once_later i.op i.args i.results is once))
    where
      by : (f : MachOp) (args results : List Reg) → AllPairs Differ (labels_in (instr f args results ∷ is)) → (has_label l f ≡ true) ⊎ LabelOccursIn l is →
          (LabelOccursIn l is → lines.after_label l (L is) ≡ L (after_label l is)) →
          lines.after_label l (lines_of number f (instr f args results) (L is)) ≡ L (cond (has_label l f) is (after_label l is))
      by (mach.Op f) args results once h go = skips (LabelOccursIn l is) h go
      by (mach.Mark (mark.Exit k n)) args results once h go = pops_label l n (bare_flow (flow.Exit k) ∷ L is) ∙ skips (LabelOccursIn l is) h go
      by (mach.Mark (mark.If t k)) args results once h go = skips (LabelOccursIn l is) h go
      by (mach.Mark (mark.Else k end)) args results once h go = label_at (nat_eq k l) (LabelOccursIn l is) is (after_label l is) (lines.after_label l (L is)) h go
      by (mach.Mark (mark.Switch ks)) args results once h go = skips (LabelOccursIn l is) h go
      by (mach.Mark (mark.Case ns k end)) args results once h go = label_at (nat_eq k l) (LabelOccursIn l is) is (after_label l is) (lines.after_label l (L is)) h go
      by (mach.Mark mark.Catch) args results once h go = skips (LabelOccursIn l is) h go
      by (mach.Mark (mark.With k end)) args results once h go = label_at (nat_eq k l) (LabelOccursIn l is) is (after_label l is) (lines.after_label l (L is)) h go
      by (mach.Mark (mark.Try k)) args results once h go = skips (LabelOccursIn l is) h go
      by (mach.Mark (mark.Leave k end)) args results once h go = skips (LabelOccursIn l is) h go
      by (mach.Mark (mark.Handler k)) args results once h go =
          skips (LabelOccursIn l is) h
          (λ h. ap (λ t. cond t (line_of number (lin.Flow flow.EnterTrap) (instr (mach.Mark (mark.Handler k)) args results) ∷ L is) (lines.after_label l (L is)))
          (differ_test k l (labels_in is) once (place_label is h)) ∙ go h)
      by (mach.Mark (mark.End k)) args results once h go = label_at (nat_eq k l) (LabelOccursIn l is) is (after_label l is) (lines.after_label l (L is)) h go

      self : (t : Bool) → is_idle i.op i.args i.results ≡ t → (has_label l i.op ≡ true) ⊎ LabelOccursIn l is → (LabelOccursIn l is → lines.after_label l (L is) ≡ L (after_label l is)) →
          lines.after_label l (cond t (L is) (lines_of number i.op i (L is))) ≡ L (cond (has_label l i.op) is (after_label l is))
      self true e h go =
          let w = idle_label l (idle_of i.op i.args i.results e) in
          ⊎_elim (λ s. absurd (true≢false (sym s ∙ w))) (λ h. go h ∙ ap (λ t. L (cond t is (after_label l is))) (sym w)) h
      self false e h go = by i.op i.args i.results once h go

  -- where a handler's label is, its entry comes next
  pub record EntryOf (h : ℕ) (code : List Instr) : Type 0 where
    pub entry : Instr
    pub next : List Instr
    pub is : entry.op ≡ mach.Mark (mark.Handler h)
    pub found : from_handler h code ≡ entry ∷ next
    pub lines : lines.after_label h (L code) ≡ line_of number (lin.Flow flow.EnterTrap) entry ∷ L next

  further_entry : {h : ℕ} {i : Instr} {is : List Instr} → is_handler_of h i.op ≡ false → lines.after_label h (L (i ∷ is)) ≡ lines.after_label h (L is) → EntryOf h is → EntryOf h (i ∷ is)
  further_entry {h} {i} {is} e same y =
      record {
        entry = y.entry;
        next = y.next;
        is = y.is;
        found = ap (λ t. cond t (i ∷ is) (from_handler h is)) e ∙ y.found;
        lines = same ∙ y.lines;
      }

  past_label : (k h : ℕ) (is : List Instr) → nat_eq k h ≡ false → cond (nat_eq k h) (L is) (lines.after_label h (L is)) ≡ lines.after_label h (L is)
  past_label k h is e = ap (λ t. cond t (L is) (lines.after_label h (L is))) e

  pub entry_of : (h : ℕ) (code : List Instr) → HasHandler h code → AllPairs Differ (labels_in code) → EntryOf h code
  entry_of h [] z once = elim z [ ]
  entry_of h (i ∷ is) z once =
      self (is_idle i.op i.args i.results) refl (handler_split z) (λ z. entry_of h is z (once_later i.op i.args i.results is once))
    where
      by : (f : MachOp) (args results : List Reg) → is_idle f args results ≡ false → AllPairs Differ (labels_in (instr f args results ∷ is)) → (is_handler_of h f ≡ true) ⊎ HasHandler h is →
          (HasHandler h is → EntryOf h is) → EntryOf h (instr f args results ∷ is)
      by (mach.Op f) args results e once z go =
          skips (HasHandler h is) z (λ z. further_entry refl (ap (λ t. lines.after_label h (cond t (L is) (line_of number (lin.Op f) (instr (mach.Op f) args results) ∷ L is))) e) (go z))
      by (mach.Mark (mark.Exit k n)) args results e once z go = skips (HasHandler h is) z (λ z. further_entry refl (pops_label h n (bare_flow (flow.Exit k) ∷ L is)) (go z))
      by (mach.Mark (mark.If t k)) args results e once z go = skips (HasHandler h is) z (λ z. further_entry refl refl (go z))
      by (mach.Mark (mark.Else k end)) args results e once z go =
          skips (HasHandler h is) z (λ z. further_entry refl (past_label k h is (differ_test k h (labels_in is) once (handler_label is z))) (go z))
      by (mach.Mark (mark.Switch ks)) args results e once z go = skips (HasHandler h is) z (λ z. further_entry refl refl (go z))
      by (mach.Mark (mark.Case ns k end)) args results e once z go =
          skips (HasHandler h is) z (λ z. further_entry refl (past_label k h is (differ_test k h (labels_in is) once (handler_label is z))) (go z))
      by (mach.Mark mark.Catch) args results e once z go = skips (HasHandler h is) z (λ z. further_entry refl refl (go z))
      by (mach.Mark (mark.With k end)) args results e once z go =
          skips (HasHandler h is) z (λ z. further_entry refl (past_label k h is (differ_test k h (labels_in is) once (handler_label is z))) (go z))
      by (mach.Mark (mark.Try k)) args results e once z go = skips (HasHandler h is) z (λ z. further_entry refl refl (go z))
      by (mach.Mark (mark.Leave k end)) args results e once z go = skips (HasHandler h is) z (λ z. further_entry refl refl (go z))
      by (mach.Mark (mark.Handler k)) args results e once z go = two (nat_eq k h) refl z
        where
          two : (t : Bool) → nat_eq k h ≡ t → (nat_eq k h ≡ true) ⊎ HasHandler h is → EntryOf h (instr (mach.Mark (mark.Handler k)) args results ∷ is)
          two true s z =
              record {
                entry = instr (mach.Mark (mark.Handler k)) args results;
                next = is;
                is = ap (λ k. mach.Mark (mark.Handler k)) (eqb-true k h s);
                found = ap (λ t. cond t (instr (mach.Mark (mark.Handler k)) args results ∷ is) (from_handler h is)) s;
                lines = ap (λ t. cond t (line_of number (lin.Flow flow.EnterTrap) (instr (mach.Mark (mark.Handler k)) args results) ∷ L is) (lines.after_label h (L is))) s;
              }
          two false s z =
              further_entry s (ap (λ t. cond t (line_of number (lin.Flow flow.EnterTrap) (instr (mach.Mark (mark.Handler k)) args results) ∷ L is) (lines.after_label h (L is))) s)
              (⊎_elim (λ e. absurd (true≢false (sym e ∙ s))) go z)
      by (mach.Mark (mark.End k)) args results e once z go =
          skips (HasHandler h is) z (λ z. further_entry refl (past_label k h is (differ_test k h (labels_in is) once (handler_label is z))) (go z))

      self : (t : Bool) → is_idle i.op i.args i.results ≡ t → (is_handler_of h i.op ≡ true) ⊎ HasHandler h is → (HasHandler h is → EntryOf h is) → EntryOf h (i ∷ is)
      self true e z go =
          let w = idle_handler h (idle_of i.op i.args i.results e) in
          ⊎_elim (λ s. absurd (true≢false (sym s ∙ w)))
          (λ z. further_entry w (ap (λ t. lines.after_label h (cond t (L is) (lines_of number i.op i (L is)))) e) (go z)) z
      self false e z go = by i.op i.args i.results e once z go
