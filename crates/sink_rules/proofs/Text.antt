-- The code with its moves: they are before operations alone, so that labels, handlers and tries are where they were.
use Rattle.std.proofs.Common.{◌≡◌, ℕ, Bool, true, false, cond, List, [], ◌∷◌, ◌++◌, length, ◌⊎◌, inl, inr, refl, sym, ap, ◌∙◌, subst}
use Rattle.std.specs.List.{Contains}
use Rattle.std.proofs.lemmas.Bool.{both_ways}
use Rattle.mach_ir.specs.Formed.{labels_in, LabelOccursIn, place_here, place_below, HasHandler, handler_here, handler_below}
use Rattle.mach_ir.specs.Meaning.{has_label, is_handler_of, tries_at, tries_past}
use Rattle.mach_ir.specs.Walks.{AmongRegisters, first, later, StandsAsInstr, here, below, InCode, in_args, in_results, further, IsRegister, is_param, is_colour, is_in_code}
use Rattle.mach_ir.specs.declared.op.Op.{Op}
use Rattle.mach_ir.specs.declared.mach.Mark.{Mark}
use Rattle.mach_ir.specs.declared.reg.Reg.{Reg}
use Rattle.mach_ir.specs.declared.mach.MachOp.{MachOp}
use Rattle.mach_ir.specs.declared.mach.MachOp.TheVariants as mach
use Rattle.mach_ir.specs.declared.mach.Instr.{Instr}
use Rattle.mach_ir.specs.declared.mach.Mach.{Mach}
use Rattle.mach_laws.specs.Expand.{expand, Ending, all, KeepsMarks, NoLabel, no_label, not_labelled, NoHandler, no_handler, not_handled, bounds_try, NoBound, no_bound, not_bound}
use Rattle.mach_laws.proofs.Places.{ending_next, stands_of, args_in, results_in}
use Rattle.mach_laws.proofs.InPlace.{same_head}
use Rattle.bs_words.proofs.Lists.{none_in, first_in, later_in, in_cons}
use Rattle.sink_rules.specs.Sunk.{SinkPlan, to_itself, planned_moves, sunk_instr, sunk, IsSinkPlan}

pub of_one : {r : Reg} {n : ℕ} → AmongRegisters n (r ∷ []) → r.number ≡ n
of_one (first e) = e
of_one (later a) = elim a [ ]

-- ---- moves before operations alone

-- what is before an operation
abbrev pub before : SinkPlan → ℕ → MachOp → List Instr
before plan k (mach.Op f) = planned_moves plan k plan.registers
before plan k (mach.Mark f) = []

abbrev pub laid_instr : SinkPlan → ℕ → Instr → List Instr
laid_instr plan k i = before plan k i.op ++ i ∷ []

module _ (plan : SinkPlan) where
  unlabelled : (l k : ℕ) (rs : List Reg) (ys : List Instr) → NoLabel l ys → NoLabel l (planned_moves plan k rs ++ ys)
  unlabelled l k [] ys h = h
  unlabelled l k (r ∷ rs) ys h = by (plan.moves k r.number) (unlabelled l k rs ys h)
    where
      by : (b : Bool) → NoLabel l (planned_moves plan k rs ++ ys) →
          NoLabel l (cond b (to_itself r ∷ planned_moves plan k rs) (planned_moves plan k rs) ++ ys)
      by true h = not_labelled refl h
      by false h = h

  unhandled : (l k : ℕ) (rs : List Reg) (ys : List Instr) → NoHandler l ys → NoHandler l (planned_moves plan k rs ++ ys)
  unhandled l k [] ys h = h
  unhandled l k (r ∷ rs) ys h = by (plan.moves k r.number) (unhandled l k rs ys h)
    where
      by : (b : Bool) → NoHandler l (planned_moves plan k rs ++ ys) →
          NoHandler l (cond b (to_itself r ∷ planned_moves plan k rs) (planned_moves plan k rs) ++ ys)
      by true h = not_handled refl h
      by false h = h

  unbound : (k : ℕ) (rs : List Reg) (ys : List Instr) → NoBound ys → NoBound (planned_moves plan k rs ++ ys)
  unbound k [] ys h = h
  unbound k (r ∷ rs) ys h = by (plan.moves k r.number) (unbound k rs ys h)
    where
      by : (b : Bool) → NoBound (planned_moves plan k rs ++ ys) →
          NoBound (cond b (to_itself r ∷ planned_moves plan k rs) (planned_moves plan k rs) ++ ys)
      by true h = not_bound refl h
      by false h = h

  before_unlabelled : (l k : ℕ) (g : MachOp) (ys : List Instr) → NoLabel l ys → NoLabel l (before plan k g ++ ys)
  before_unlabelled l k (mach.Op f) ys h = unlabelled l k plan.registers ys h
  before_unlabelled l k (mach.Mark f) ys h = h

  before_unhandled : (l k : ℕ) (g : MachOp) (ys : List Instr) → NoHandler l ys → NoHandler l (before plan k g ++ ys)
  before_unhandled l k (mach.Op f) ys h = unhandled l k plan.registers ys h
  before_unhandled l k (mach.Mark f) ys h = h

  before_unbound : (k : ℕ) (g : MachOp) (ys : List Instr) → NoBound ys → NoBound (before plan k g ++ ys)
  before_unbound k (mach.Op f) ys h = unbound k plan.registers ys h
  before_unbound k (mach.Mark f) ys h = h

  -- nothing is before what no operation is
  alone : (F : MachOp → Bool) → ((f : Op) → F (mach.Op f) ≡ false) → (k : ℕ) (g : MachOp) → F g ≡ true → before plan k g ≡ []
  alone F none k (mach.Op f) e = absurd (both_ways (F (mach.Op f)) (none f) e)
  alone F none k (mach.Mark f) e = refl

  stands_alone : (F : MachOp → Bool) → ((f : Op) → F (mach.Op f) ≡ false) → (k : ℕ) (i : Instr) → F i.op ≡ true →
      laid_instr plan k i ≡ i ∷ []
  stands_alone F none k i e = ap (λ xs. xs ++ i ∷ []) (alone F none k i.op e)

  pub keeps_marks : KeepsMarks (laid_instr plan)
  keeps_marks =
      record {
        mark = λ l n i e. (i, stands_alone (has_label l) (λ f. refl) n i e, refl);
        none = λ l n i e. before_unlabelled l n i.op (i ∷ []) (not_labelled e no_label);
        handler = λ l n i e. (i, [], stands_alone (is_handler_of l) (λ f. refl) n i e, refl);
        no_other = λ l n i e. before_unhandled l n i.op (i ∷ []) (not_handled e no_handler);
        bound = λ n i e. (i, stands_alone bounds_try (λ f. refl) n i e, refl);
        unbound = λ n i e. before_unbound n i.op (i ∷ []) (not_bound e no_bound);
      }

  -- none of these is moved there
  none_moved : (k : ℕ) (rs : List Reg) → ((r : Reg) → Contains rs r → plan.moves k r.number ≡ true → ⊥) → planned_moves plan k rs ≡ []
  none_moved k [] h = refl
  none_moved k (r ∷ rs) h = by (plan.moves k r.number) refl (none_moved k rs (λ q c. h q (later_in r q rs c)))
    where
      by : (b : Bool) → plan.moves k r.number ≡ b → planned_moves plan k rs ≡ [] →
          cond b (to_itself r ∷ planned_moves plan k rs) (planned_moves plan k rs) ≡ []
      by true t e = absurd (h r (first_in r rs) t)
      by false t e = e

module _ (m : Mach) (plan : SinkPlan) (is : IsSinkPlan m plan) where
  -- the function with moves before operations alone
  abbrev pub laid : Mach
  laid = record m { code = expand (laid_instr plan) m.code }

  abbrev f : ℕ → Instr → List Instr
  f = laid_instr plan

  same_instr : (i : Instr) (next : List Instr) → StandsAsInstr i next m.code →
      sunk_instr plan (length next) i ≡ laid_instr plan (length next) i
  same_instr i next s = by i.op refl
    where
      no_mark : (f : Op) (g : Mark) → mach.Mark g ≡ mach.Op f → ⊥
      no_mark f g e = cc

      by : (g : MachOp) → i.op ≡ g →
          planned_moves plan (length next) plan.registers ++ i ∷ [] ≡ before plan (length next) g ++ i ∷ []
      by (mach.Op f) e = refl
      by (mach.Mark g) e =
          ap (λ xs. xs ++ i ∷ [])
          (none_moved plan (length next) plan.registers
          (λ r c t. let h = is.operations i next r s c t in no_mark h.0 g (sym e ∙ h.1)))

  same_code : (code : List Instr) → ((i : Instr) (next : List Instr) → StandsAsInstr i next code → StandsAsInstr i next m.code) →
      expand (sunk_instr plan) code ≡ expand (laid_instr plan) code
  same_code [] known = refl
  same_code (i ∷ is) known =
      ap (λ xs. xs ++ expand (sunk_instr plan) is) (same_instr i is (known i is here))
      ∙ ap (λ xs. laid_instr plan (length is) i ++ xs) (same_code is (λ j next s. known j next (below s)))

  pub sunk_is_laid : sunk plan m ≡ laid
  sunk_is_laid = ap (λ xs. record m { code = xs }) (same_code m.code (λ i next s. s))

  -- ---- the code, part by part

  -- a register is moved before an instruction that so many come after
  pub record IsMoved (r : Reg) (next : List Instr) : Type 0 where
    pub among : Contains plan.registers r
    pub told : plan.moves (length next) r.number ≡ true

  -- the second's code, for what is left of the first's
  pub data Laid : List Instr → List Instr → Type 0 where
    laid_end : Laid [] []
    moves : {i : Instr} {next ys : List Instr} (r : Reg) → Ending (i ∷ next) m.code → IsMoved r next → Laid (i ∷ next) ys →
        Laid (i ∷ next) (to_itself r ∷ ys)
    main : {i : Instr} {next ys : List Instr} → Ending (i ∷ next) m.code → Laid next ys → Laid (i ∷ next) (i ∷ ys)

  pub laid_moves : (i : Instr) (next : List Instr) → Ending (i ∷ next) m.code → (rs : List Reg) →
      ((r : Reg) → Contains rs r → Contains plan.registers r) → (ys : List Instr) → Laid (i ∷ next) ys →
      Laid (i ∷ next) (planned_moves plan (length next) rs ++ ys)
  laid_moves i next ending [] known ys h = h
  laid_moves i next ending (r ∷ rs) known ys h =
      by (plan.moves (length next) r.number) refl (laid_moves i next ending rs (λ q c. known q (later_in r q rs c)) ys h)
    where
      by : (b : Bool) → plan.moves (length next) r.number ≡ b → Laid (i ∷ next) (planned_moves plan (length next) rs ++ ys) →
          Laid (i ∷ next) (cond b (to_itself r ∷ planned_moves plan (length next) rs) (planned_moves plan (length next) rs) ++ ys)
      by true t h = moves r ending (record { among = known r (first_in r rs); told = t }) h
      by false t h = h

  laid_before : (i : Instr) (next : List Instr) → Ending (i ∷ next) m.code → (g : MachOp) (ys : List Instr) → Laid (i ∷ next) ys →
      Laid (i ∷ next) (before plan (length next) g ++ ys)
  laid_before i next ending (mach.Op f) ys h = laid_moves i next ending plan.registers (λ r c. c) ys h
  laid_before i next ending (mach.Mark f) ys h = h

  one_more : (xs : List Instr) (i : Instr) (ys : List Instr) → (xs ++ i ∷ []) ++ ys ≡ xs ++ i ∷ ys
  one_more [] i ys = refl
  one_more (x ∷ xs) i ys = ap (λ zs. x ∷ zs) (one_more xs i ys)

  pub laid_of : (rest : List Instr) → Ending rest m.code → Laid rest (expand f rest)
  laid_of [] ending = laid_end
  laid_of (i ∷ next) ending =
      subst (Laid (i ∷ next)) (sym (one_more (before plan (length next) i.op) i (expand f next)))
      (laid_before i next ending i.op (i ∷ expand f next) (main ending (laid_of next (ending_next ending))))

  pub whole_laid : Laid m.code (laid).code
  whole_laid = laid_of m.code all

  -- ---- what is in it

  -- a move, or an instruction of the first
  pub data Whence (j : Instr) (zs : List Instr) : Type 0 where
    itself : {i : Instr} {next : List Instr} (r : Reg) → StandsAsInstr i next m.code → IsMoved r next → j ≡ to_itself r →
        Laid (i ∷ next) zs → Whence j zs
    left : {next : List Instr} → StandsAsInstr j next m.code → Laid next zs → Whence j zs

  pub whence_in : {rest ys zs : List Instr} {j : Instr} → Laid rest ys → StandsAsInstr j zs ys → Whence j zs
  whence_in laid_end s = elim s [ ]
  whence_in (moves r e k h) here = itself r (stands_of e) k refl h
  whence_in (moves r e k h) (below s) = whence_in h s
  whence_in (main e h) here = left (stands_of e) h
  whence_in (main e h) (below s) = whence_in h s

  pub whence : {j : Instr} {zs : List Instr} → StandsAsInstr j zs (laid).code → Whence j zs
  whence s = whence_in whole_laid s

  pub laid_tries : {rest ys : List Instr} → Laid rest ys → tries_at ys ≡ tries_at rest
  laid_tries laid_end = refl
  laid_tries (moves r e k h) = laid_tries h
  laid_tries (main {i = i} e h) = ap (tries_past i.op) (laid_tries h)

  pub laid_labels : {rest ys : List Instr} → Laid rest ys → labels_in ys ≡ labels_in rest
  laid_labels laid_end = refl
  laid_labels (moves r e k h) = laid_labels h
  laid_labels (main {i = i} {next = next} {ys = ys} e h) = same_head i ys next (laid_labels h)

  pub place_there : {l : ℕ} {rest ys : List Instr} → Laid rest ys → LabelOccursIn l rest → LabelOccursIn l ys
  place_there laid_end p = elim p [ ]
  place_there (moves r e k h) p = place_below (place_there h p)
  place_there (main e h) (place_here t) = place_here t
  place_there (main e h) (place_below p) = place_below (place_there h p)

  pub handler_there : {l : ℕ} {rest ys : List Instr} → Laid rest ys → HasHandler l rest → HasHandler l ys
  handler_there laid_end p = elim p [ ]
  handler_there (moves r e k h) p = handler_below (handler_there h p)
  handler_there (main e h) (handler_here t) = handler_here t
  handler_there (main e h) (handler_below p) = handler_below (handler_there h p)

  pub contains_there : {rest ys : List Instr} → Laid rest ys → (i : Instr) → Contains rest i → Contains ys i
  contains_there laid_end i c = absurd (none_in i c)
  contains_there (moves {ys = ys} r e k h) i c = later_in (to_itself r) i ys (contains_there h i c)
  contains_there (main {i = j} {next = next} {ys = ys} e h) i c = by (in_cons j i next c) (λ d. contains_there h i d)
    where
      by : (j ≡ i) ⊎ Contains next i → (Contains next i → Contains ys i) → Contains (j ∷ ys) i
      by (inl s) again = subst (Contains (j ∷ ys)) s (first_in j ys)
      by (inr d) again = later_in j i ys (again d)

  -- ---- registers

  only_in : (x y : Reg) → Contains (x ∷ []) y → x ≡ y
  only_in x y c = by (in_cons x y [] c)
    where
      by : (x ≡ y) ⊎ Contains [] y → x ≡ y
      by (inl e) = e
      by (inr d) = absurd (none_in y d)

  code_register : {r : Reg} {rest ys : List Instr} → Laid rest ys → InCode r ys → IsRegister m r
  code_register laid_end c = elim c [ ]
  code_register {r} (moves q e k h) (in_args c) = subst (IsRegister m) (only_in q r c) (is.registers q k.among)
  code_register {r} (moves q e k h) (in_results c) = subst (IsRegister m) (only_in q r c) (is.registers q k.among)
  code_register (moves q e k h) (further c) = code_register h c
  code_register (main e h) (in_args c) = is_in_code (args_in (stands_of e) c)
  code_register (main e h) (in_results c) = is_in_code (results_in (stands_of e) c)
  code_register (main e h) (further c) = code_register h c

  pub was_register : (r : Reg) → IsRegister laid r → IsRegister m r
  was_register r (is_param c) = is_param c
  was_register r (is_colour c) = is_colour c
  was_register r (is_in_code c) = code_register whole_laid c
