-- Each label of selected code occurs once, and is below the number of its labels. A parameter is made from no other
-- register, and no two have one number.
use Rattle.std.proofs.Common.{◌≡◌, ℕ, suc, ◌+◌, ◌<◌, ◌≤◌, ◌⊎◌, inl, inr, List, [], ◌∷◌, ◌++◌, All, AllPairs, refl, sym, ◌∙◌, subst, arith}
use Rattle.std.specs.Prelude.{◌≢◌, nat_eq, length}
use Rattle.std.proofs.lemmas.Bool.{true≢false, cases_lt, eq-eqb}
use Rattle.std.proofs.lemmas.List.Elements.{All-nil, All-cons}
use Rattle.std.proofs.lemmas.List.Kept.{AllPairs-cons}
use Rattle.cmm_tree.specs.Tree.{FunctionTree}
use Rattle.mach_ir.specs.Formed.{AreDistinct, labels_of_mark, labels_in}
use Rattle.mach_ir.specs.declared.mach.Instr.{Instr}
use Rattle.mach_ir.specs.declared.mach.Mark.TheVariants as mark
use Rattle.mach_ir.specs.declared.mach.MachOp.{MachOp}
use Rattle.mach_ir.specs.declared.mach.MachOp.TheVariants as mach
use Rattle.mach_ir.specs.declared.reg.Reg.{Reg}
use Rattle.selection_rules.specs.Select.{selected, first_after_colours, params_from, seats}
use Rattle.selection_rules.proofs.Once.{marks, labelled, NoMark, none, one, Distinct, nil, cons, selected_once, selected_below}
use Rattle.std.proofs.Math.Bool.{or-false}

-- the label that an instruction marks, if it marks one
data Marking (f : MachOp) : List ℕ → Type 0 where
  marks_none : Marking f []
  marks_one : {l : ℕ} → ((k : ℕ) → marks k f ≡ nat_eq l k) → Marking f (l ∷ [])

abbrev labels_marked : MachOp → List ℕ
labels_marked (mach.Op f) = []
labels_marked (mach.Mark f) = labels_of_mark f

marking : (f : MachOp) → Marking f (labels_marked f)
marking (mach.Op f) = marks_none
marking (mach.Mark (mark.Else l end)) = marks_one (λ k. refl)
marking (mach.Mark (mark.Case indexes l end)) = marks_one (λ k. refl)
marking (mach.Mark (mark.With l end)) = marks_one (λ k. refl)
marking (mach.Mark (mark.Handler l)) = marks_one (λ k. or-false (nat_eq l k))
marking (mach.Mark (mark.End l)) = marks_one (λ k. refl)
marking (mach.Mark (mark.Exit l n)) = marks_none
marking (mach.Mark (mark.If t l)) = marks_none
marking (mach.Mark (mark.Switch labels)) = marks_none
marking (mach.Mark mark.Catch) = marks_none
marking (mach.Mark (mark.Try l)) = marks_none
marking (mach.Mark (mark.Leave l end)) = marks_none

labels_there : (f : MachOp) (i : Instr) (is : List Instr) → i.op ≡ f → labels_in (i ∷ is) ≡ labels_marked f ++ labels_in is
labels_there (mach.Op f) i is e = subst (λ g. labels_in (record { op = g; args = i.args; results = i.results } ∷ is) ≡ labels_marked (mach.Op f) ++ labels_in is) (sym e) refl
labels_there (mach.Mark f) i is e = subst (λ g. labels_in (record { op = g; args = i.args; results = i.results } ∷ is) ≡ labels_marked (mach.Mark f) ++ labels_in is) (sym e) refl

-- a label of a code is one that some instruction marks
unmarked : {l : ℕ} {code : List Instr} → NoMark labelled l code → All (λ k. l ≢ k) (labels_in code)
unmarked {l} none = All-nil (λ k. l ≢ k)
unmarked {l} (one {i = i} {is = is} e n) = subst (All (λ k. l ≢ k)) (sym (labels_there i.op i is refl)) (by (marking i.op) (unmarked n))
  where
    apart : (k : ℕ) → ((n : ℕ) → marks n i.op ≡ nat_eq k n) → l ≢ k
    apart k is same = true≢false (sym (eq-eqb k l (sym same)) ∙ sym (is l) ∙ e)

    by : {ls : List ℕ} → Marking i.op ls → All (λ k. l ≢ k) (labels_in is) → All (λ k. l ≢ k) (ls ++ labels_in is)
    by marks_none others = others
    by (marks_one {l = k} same) others = All-cons (λ k. l ≢ k) k (labels_in is) (apart k same) others

once : {code : List Instr} → Distinct labelled code → AllPairs (λ k l. k ≢ l) (labels_in code)
once nil = λ i j d less within. absurd (omega arith)
once (cons {i = i} {is = is} apart rest) = subst (AllPairs (λ k l. k ≢ l)) (sym (labels_there i.op i is refl)) (by (marking i.op) (once rest))
  where
    by : {ls : List ℕ} → Marking i.op ls → AllPairs (λ k l. k ≢ l) (labels_in is) → AllPairs (λ k l. k ≢ l) (ls ++ labels_in is)
    by marks_none others = others
    by (marks_one {l = k} same) others = AllPairs-cons (λ k l. k ≢ l) k (labels_in is) (unmarked (apart k (same k ∙ eq-eqb k k refl))) others

-- Each label occurs once.
pub selected_labels_once : (f : FunctionTree) → AllPairs (λ k l. k ≢ l) (labels_in (selected f).code)
selected_labels_once f = once (selected_once f)

below : (n : ℕ) (ls : List ℕ) → ((l : ℕ) → (l < n → ⊥) → All (λ k. l ≢ k) ls) → All (λ l. l < n) ls
below n [] outside = All-nil (λ l. l < n)
below n (k ∷ ls) outside =
    All-cons (λ l. l < n) k ls (by (cases_lt k n))
    (below n ls (λ l above j d within. outside l above (suc j) d (omega (arith, within))))
  where
    by : (k < n) ⊎ (n ≤ k) → k < n
    by (inl less) = less
    by (inr le) = absurd (outside k (λ less. omega (arith, less, le)) 0 k (omega arith) refl)

-- Each label is below the number of labels.
pub selected_labels_below : (f : FunctionTree) → All (λ l. l < (selected f).labels) (labels_in (selected f).code)
selected_labels_below f = below (selected f).labels (labels_in (selected f).code) (λ l above. unmarked (selected_below f l above))

-- ---- parameters

own_origins : (i n : ℕ) (rs : List Reg) → All (λ (r : Reg). r.origin ≡ r.number) (seats i n rs)
own_origins i n [] = All-nil (λ (r : Reg). r.origin ≡ r.number)
own_origins i n (r ∷ rs) = All-cons (λ (r : Reg). r.origin ≡ r.number) _ (seats (suc i) (suc n) rs) refl (own_origins (suc i) (suc n) rs)

seats_above : (k i n : ℕ) (rs : List Reg) → k < n → All (λ (r : Reg). k ≢ r.number) (seats i n rs)
seats_above k i n [] less = All-nil (λ (r : Reg). k ≢ r.number)
seats_above k i n (r ∷ rs) less = All-cons (λ (r : Reg). k ≢ r.number) _ (seats (suc i) (suc n) rs) (λ e. omega (arith, e, less)) (seats_above k (suc i) (suc n) rs (omega (arith, less)))

seats_distinct : (i n : ℕ) (rs : List Reg) → AreDistinct (seats i n rs)
seats_distinct i n [] = λ i j d less within. absurd (omega arith)
seats_distinct i n (r ∷ rs) = AllPairs-cons (λ (r q : Reg). r.number ≢ q.number) _ (seats (suc i) (suc n) rs) (seats_above n (suc i) (suc n) rs (omega arith)) (seats_distinct (suc i) (suc n) rs)

-- A parameter is made from no other register.
pub selected_params : (f : FunctionTree) → All (λ (r : Reg). r.origin ≡ r.number) (selected f).params
selected_params f = own_origins 0 first_after_colours (params_from (first_after_colours + length f.params) f.params)

-- No two parameters have one number.
pub selected_params_distinct : (f : FunctionTree) → AreDistinct (selected f).params
selected_params_distinct f = seats_distinct 0 first_after_colours (params_from (first_after_colours + length f.params) f.params)
