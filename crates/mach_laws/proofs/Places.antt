-- The places of code that is replaced instruction by instruction.
use Rattle.std.proofs.Common.{◌≡◌, ℕ, Bool, true, false, cond, ⊎_elim, List, [], ◌∷◌, ◌++◌, length, refl, sym, ap, ◌∙◌, subst, ◌≤◌, arith, ◌<◌}
use Rattle.std.proofs.lemmas.Bool.{cases_Bool, true≢false}
use Rattle.std.proofs.lemmas.List.Elements.{All-head, All-tail, All-cons, All-nil, All-contains}
use Rattle.std.specs.List.{Contains}
use Rattle.bs_words.specs.declared.types.Comp.{Comp}
use Rattle.bs_words.specs.declared.types.Comp.TheVariants as comp
use Rattle.bs_words.specs.declared.types.Loc.{Loc}
use Rattle.bs_words.specs.declared.types.Loc.TheVariants as loc
use Rattle.mach_ir.specs.Acts.{Landing, AtLabel, AtHandler}
use Rattle.mach_ir.specs.Formed.{IsFormedInstruction, WellFormed, LabelOccursIn, place_below, HasHandler, handler_below}
use Rattle.mach_ir.specs.Meaning.{has_label, is_handler_of, after_label, from_handler, at_handler, landing_code, tries_at, tries_past}
use Rattle.mach_ir.specs.declared.mach.Mark.TheVariants as mark
use Rattle.mach_ir.specs.declared.mach.MachOp.{MachOp}
use Rattle.mach_ir.specs.declared.mach.MachOp.TheVariants as mach
use Rattle.mach_ir.specs.declared.mach.Instr.{Instr}
use Rattle.mach_ir.specs.declared.mach.Mach.{Mach}
use Rattle.mach_ir.specs.Walks.{StandsAsInstr, here, below, InCode, in_args, further, in_results}
use Rattle.mach_ir.specs.Places.{is_unset_location, same_comp}
use Rattle.mach_ir.specs.Placed.{is_straight, AreStraight}
use Rattle.mach_ir.specs.declared.reg.Reg.{Reg}
use Rattle.bs_words.proofs.Lists.{none_in, first_in, later_in, in_cons}
use Rattle.mach_laws.specs.Expand.{expand, NoLabel, no_label, not_labelled, NoHandler, no_handler, not_handled, bounds_try, NoBound, no_bound, not_bound, KeepsMarks, Ending, all, more}

label_past : (l : ℕ) (xs ys : List Instr) → NoLabel l xs → after_label l (xs ++ ys) ≡ after_label l ys
label_past l [] ys no_label = refl
label_past l (x ∷ xs) ys (not_labelled e n) =
    ap (λ b. cond b (xs ++ ys) (after_label l (xs ++ ys))) e ∙ label_past l xs ys n

handler_past : (l : ℕ) (xs ys : List Instr) → NoHandler l xs → from_handler l (xs ++ ys) ≡ from_handler l ys
handler_past l [] ys no_handler = refl
handler_past l (x ∷ xs) ys (not_handled e n) =
    ap (λ b. cond b (x ∷ (xs ++ ys)) (from_handler l (xs ++ ys))) e ∙ handler_past l xs ys n

module _ (f : ℕ → Instr → List Instr) (m : KeepsMarks f) (l : ℕ) where
  pub label_expand : (code : List Instr) → after_label l (expand f code) ≡ expand f (after_label l code)
  label_expand [] = refl
  label_expand (i ∷ is) =
      ⊎_elim
      (λ e.
      let h = m.mark l (length is) i e in
      ap (λ xs. after_label l (xs ++ expand f is)) h.1
      ∙ ap (λ b. cond b (expand f is) (after_label l (expand f is))) (ap (has_label l) h.2 ∙ e)
      ∙ ap (λ b. expand f (cond b is (after_label l is))) (sym e))
      (λ e.
      label_past l (f (length is) i) (expand f is) (m.none l (length is) i e)
      ∙ label_expand is ∙ ap (λ b. expand f (cond b is (after_label l is))) (sym e))
      (cases_Bool (has_label l i.op))

  pub handler_expand : (code : List Instr) → from_handler l (expand f code) ≡ expand f (from_handler l code)
  handler_expand [] = refl
  handler_expand (i ∷ is) =
      ⊎_elim
      (λ e.
      let h = m.handler l (length is) i e in
      ap (λ xs. from_handler l (xs ++ expand f is)) h.2
      ∙ ap (λ b. cond b (h.0 ∷ (h.1 ++ expand f is)) (from_handler l (h.1 ++ expand f is)))
      (ap (is_handler_of l) h.3 ∙ e)
      ∙ ap (λ xs. xs ++ expand f is) (sym h.2) ∙ ap (λ b. expand f (cond b (i ∷ is) (from_handler l is))) (sym e))
      (λ e.
      handler_past l (f (length is) i) (expand f is) (m.no_other l (length is) i e)
      ∙ handler_expand is ∙ ap (λ b. expand f (cond b (i ∷ is) (from_handler l is))) (sym e))
      (cases_Bool (is_handler_of l i.op))

module _ (f : ℕ → Instr → List Instr) (m : KeepsMarks f) (code : List Instr) where
  handlers_expand : (tries : List ℕ) → at_handler (expand f code) tries ≡ expand f (at_handler code tries)
  handlers_expand [] = refl
  handlers_expand (l ∷ tries) = handler_expand f m l code

  -- It lands at the same place, where the tries are the same.
  pub land_expand : (this that : List Instr) (to : Landing) → tries_at that ≡ tries_at this →
      landing_code (expand f code) that to ≡ expand f (landing_code code this to)
  land_expand this that (AtLabel l) e = label_expand f m l code
  land_expand this that AtHandler e = ap (at_handler (expand f code)) e ∙ handlers_expand (tries_at this)

-- what bounds no try leaves the tries as they are
tries_stay : (op : MachOp) → bounds_try op ≡ false → (ts : List ℕ) → tries_past op ts ≡ ts
tries_stay (mach.Op g) e ts = refl
tries_stay (mach.Mark (mark.Exit l n)) e ts = refl
tries_stay (mach.Mark (mark.If t l)) e ts = refl
tries_stay (mach.Mark (mark.Else l end)) e ts = refl
tries_stay (mach.Mark (mark.Switch ls)) e ts = refl
tries_stay (mach.Mark (mark.Case ns l end)) e ts = refl
tries_stay (mach.Mark mark.Catch) e ts = refl
tries_stay (mach.Mark (mark.With l end)) e ts = refl
tries_stay (mach.Mark (mark.Try l)) e ts = absurd (true≢false e)
tries_stay (mach.Mark (mark.Leave l end)) e ts = absurd (true≢false e)
tries_stay (mach.Mark (mark.Handler l)) e ts = refl
tries_stay (mach.Mark (mark.End l)) e ts = refl

tries_over : (xs ys : List Instr) → NoBound xs → tries_at (xs ++ ys) ≡ tries_at ys
tries_over [] ys no_bound = refl
tries_over (x ∷ xs) ys (not_bound e n) = ap (tries_past x.op) (tries_over xs ys n) ∙ tries_stay x.op e (tries_at ys)

-- The tries round a place stay.
pub tries_expand : (f : ℕ → Instr → List Instr) → KeepsMarks f → (code : List Instr) → tries_at (expand f code) ≡ tries_at code
tries_expand f m [] = refl
tries_expand f m (i ∷ is) =
    ⊎_elim
    (λ e.
    let h = m.bound (length is) i e in
    ap (λ xs. tries_at (xs ++ expand f is)) h.1 ∙ ap (λ op. tries_past op (tries_at (expand f is))) h.2
    ∙ ap (tries_past i.op) (tries_expand f m is))
    (λ e.
    tries_over (f (length is) i) (expand f is) (m.unbound (length is) i e)
    ∙ tries_expand f m is ∙ sym (tries_stay i.op e (tries_at is)))
    (cases_Bool (bounds_try i.op))

-- ---- what a code ends with

pub ending_next : {i : Instr} {rest code : List Instr} → Ending (i ∷ rest) code → Ending rest code
ending_next all = more all
ending_next (more e) = more (ending_next e)

ending_cond : {xs ys code : List Instr} (b : Bool) → Ending xs code → Ending ys code → Ending (cond b xs ys) code
ending_cond true x y = x
ending_cond false x y = y

pub ending_label : (l : ℕ) (code : List Instr) → Ending (after_label l code) code
ending_label l [] = all
ending_label l (i ∷ is) = ending_cond (has_label l i.op) (more all) (more (ending_label l is))

pub ending_from_handler : (l : ℕ) (code : List Instr) → Ending (from_handler l code) code
ending_from_handler l [] = all
ending_from_handler l (i ∷ is) = ending_cond (is_handler_of l i.op) all (more (ending_from_handler l is))

pub ending_handler : (tries : List ℕ) (code : List Instr) → Ending (at_handler code tries) code
ending_handler [] [] = all
ending_handler [] (i ∷ is) = more (ending_handler [] is)
ending_handler (l ∷ tries) code = ending_from_handler l code

pub ending_land : (to : Landing) (rest code : List Instr) → Ending (landing_code code rest to) code
ending_land (AtLabel l) rest code = ending_label l code
ending_land AtHandler rest code = ending_handler (tries_at rest) code

pub ending_short : {rest code : List Instr} → Ending rest code → length rest ≤ length code
ending_short all = omega arith
ending_short (more e) = let le = ending_short e in omega (arith, le)

-- a code that another ends with is in it
pub stands_of : {i : Instr} {next code : List Instr} → Ending (i ∷ next) code → StandsAsInstr i next code
stands_of all = here
stands_of (more e) = below (stands_of e)

pub ending_of : {i : Instr} {next code : List Instr} → StandsAsInstr i next code → Ending (i ∷ next) code
ending_of here = all
ending_of (below s) = more (ending_of s)

pub shorter : {i : Instr} {next code : List Instr} → StandsAsInstr i next code → length next < length code
shorter here = omega arith
shorter (below s) = let lt = shorter s in omega (arith, lt)

pub stands_behind : (run : List Instr) (i : Instr) (next : List Instr) → StandsAsInstr i next (run ++ i ∷ next)
stands_behind [] i next = here
stands_behind (x ∷ run) i next = below (stands_behind run i next)

pub stands_within : {i j : Instr} {next rest code : List Instr} → StandsAsInstr j rest code → StandsAsInstr i next rest → StandsAsInstr i next code
stands_within here s = below s
stands_within (below t) s = below (stands_within t s)

pub contains_of : {i : Instr} {next code : List Instr} → StandsAsInstr i next code → Contains code i
contains_of {i} {next = next} here = first_in i next
contains_of {i} (below {j = j} {is = xs} s) = later_in j i xs (contains_of s)

-- where a function is formed, each of its instructions is
pub form_of : {m : Mach} {i : Instr} {next : List Instr} → WellFormed m → Ending (i ∷ next) m.code → IsFormedInstruction i
form_of {m} {i} formed e = All-contains IsFormedInstruction m.code i formed.instrs (contains_of (stands_of e))

pub stands_in : (code : List Instr) (i : Instr) → Contains code i → (next : List Instr) × StandsAsInstr i next code
stands_in [] i c = absurd (none_in i c)
stands_in (j ∷ is) i c =
    ⊎_elim (λ e. (is, subst (λ (i : Instr). StandsAsInstr i is (j ∷ is)) e here)) (λ d. let s = stands_in is i d in (s.0, below s.1))
    (in_cons j i is c)

-- ---- what is after other code

pub place_behind : {l : ℕ} (xs ys : List Instr) → LabelOccursIn l ys → LabelOccursIn l (xs ++ ys)
place_behind [] ys h = h
place_behind (x ∷ xs) ys h = place_below (place_behind xs ys h)

pub handler_behind : {l : ℕ} (xs ys : List Instr) → HasHandler l ys → HasHandler l (xs ++ ys)
handler_behind [] ys h = h
handler_behind (x ∷ xs) ys h = handler_below (handler_behind xs ys h)

-- ---- straight code

pub head_of : (x : Instr) (xs : List Instr) → AreStraight (x ∷ xs) → is_straight x.op ≡ true
head_of = All-head (λ (i : Instr). is_straight i.op ≡ true)

pub tail_of : (x : Instr) (xs : List Instr) → AreStraight (x ∷ xs) → AreStraight xs
tail_of = All-tail (λ (i : Instr). is_straight i.op ≡ true)

pub straight_cons : (x : Instr) (xs : List Instr) → is_straight x.op ≡ true → AreStraight xs → AreStraight (x ∷ xs)
straight_cons = All-cons (λ (i : Instr). is_straight i.op ≡ true)

pub straight_none : AreStraight []
straight_none = All-nil (λ (i : Instr). is_straight i.op ≡ true)

pub args_in : {i : Instr} {next code : List Instr} {r : Reg} → StandsAsInstr i next code → Contains i.args r → InCode r code
args_in here c = in_args c
args_in (below s) c = further (args_in s c)

pub results_in : {i : Instr} {next code : List Instr} {r : Reg} → StandsAsInstr i next code → Contains i.results r → InCode r code
results_in here c = in_results c
results_in (below s) c = further (results_in s c)

-- what an instruction of a code has is in the code
pub args_in_code : (code : List Instr) (i : Instr) (r : Reg) → Contains code i → Contains i.args r → InCode r code
args_in_code [] i r c d = absurd (none_in i c)
args_in_code (j ∷ is) i r c d =
    ⊎_elim (λ e. in_args (subst (λ (i : Instr). Contains i.args r) (sym e) d)) (λ h. further (args_in_code is i r h d))
    (in_cons j i is c)

pub results_in_code : (code : List Instr) (i : Instr) (r : Reg) → Contains code i → Contains i.results r → InCode r code
results_in_code [] i r c d = absurd (none_in i c)
results_in_code (j ∷ is) i r c d =
    ⊎_elim (λ e. in_results (subst (λ (i : Instr). Contains i.results r) (sym e) d))
    (λ h. further (results_in_code is i r h d)) (in_cons j i is c)

-- an open place is no machine register and no slot
pub is_unset : (l : Loc) → is_unset_location l ≡ true → l ≡ loc.Unset
is_unset loc.Unset e = refl
is_unset (loc.Machine n) e = absurd (true≢false (sym e))
is_unset (loc.Slot n) e = absurd (true≢false (sym e))

pub comp_is : (a b : Comp) → same_comp a b ≡ true → a ≡ b
comp_is comp.Int comp.Int e = refl
comp_is comp.Val comp.Val e = refl
comp_is comp.Addr comp.Addr e = refl
comp_is comp.Float comp.Float e = refl
comp_is comp.Int comp.Val e = absurd (true≢false (sym e))
comp_is comp.Int comp.Addr e = absurd (true≢false (sym e))
comp_is comp.Int comp.Float e = absurd (true≢false (sym e))
comp_is comp.Val comp.Int e = absurd (true≢false (sym e))
comp_is comp.Val comp.Addr e = absurd (true≢false (sym e))
comp_is comp.Val comp.Float e = absurd (true≢false (sym e))
comp_is comp.Addr comp.Int e = absurd (true≢false (sym e))
comp_is comp.Addr comp.Val e = absurd (true≢false (sym e))
comp_is comp.Addr comp.Float e = absurd (true≢false (sym e))
comp_is comp.Float comp.Int e = absurd (true≢false (sym e))
comp_is comp.Float comp.Val e = absurd (true≢false (sym e))
comp_is comp.Float comp.Addr e = absurd (true≢false (sym e))

pub same_comp_is : (t : Comp) → same_comp t t ≡ true
same_comp_is comp.Int = refl
same_comp_is comp.Val = refl
same_comp_is comp.Addr = refl
same_comp_is comp.Float = refl
