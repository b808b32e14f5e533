-- What can be read off the lowered lines: forms, places, seats, labels, and how many lines there are.
use Rattle.std.proofs.Common.{◌≡◌, ℕ, zero, suc, ◌+◌, ◌*◌, ◌≤◌, Bool, true, false, cond, ◌&&◌, List, [], ◌∷◌, ◌++◌, map, length, All, refl, sym, ap, ◌∙◌, subst, arith}
use Rattle.std.specs.List.{Contains}
use Rattle.std.proofs.lemmas.Bool.{true≢false}
use Rattle.bs_words.specs.declared.types.Comp.{Comp}
use Rattle.bs_words.specs.declared.types.Loc.{Loc}
use Rattle.bs_words.specs.declared.types.Loc.TheVariants as loc
use Rattle.mach_ir.specs.Formed as mach_formed
use Rattle.mach_ir.specs.Formed.{MarkHasForm, if_form, switch_form, try_form, handler_form, formed_op, formed_mark}
use Rattle.mach_ir.specs.Forms.{HasForm}
use Rattle.mach_ir.specs.Keeps as kept
use Rattle.mach_ir.specs.Seats as seats
use Rattle.mach_ir.specs.Seats.{Seats, Anywhere, InOrder, AfterFirst, AreSeated, in_order, after_first, argument_locations, operand_seats, result_seats}
use Rattle.mach_ir.specs.declared.op.Callee.TheVariants as callee
use Rattle.mach_ir.specs.declared.op.Calling.TheVariants as calling
use Rattle.mach_ir.specs.declared.op.Leaving.TheVariants as leaving
use Rattle.mach_ir.specs.declared.op.Op.{Op}
use Rattle.mach_ir.specs.declared.op.Op.TheVariants as op
use Rattle.mach_ir.specs.declared.reg.Reg.{Reg}
use Rattle.mach_ir.specs.declared.mach.Mark.TheVariants as mark
use Rattle.mach_ir.specs.declared.mach.MachOp.{MachOp}
use Rattle.mach_ir.specs.declared.mach.MachOp.TheVariants as mach
use Rattle.mach_ir.specs.declared.mach.Instr.{Instr}
use Rattle.mach_ir.specs.declared.mach.Mach.{Mach}
use Rattle.lin_ir.specs.Formed as formed
use Rattle.lin_ir.specs.Formed.{FlowHasForm, labels_in, lin_operand_seats, lin_result_seats, bare_flow}
use Rattle.lin_ir.specs.Keeps.{IsNamedIn}
use Rattle.lin_ir.specs.declared.lin.Flow.{Flow}
use Rattle.lin_ir.specs.declared.lin.Flow.TheVariants as flow
use Rattle.lin_ir.specs.declared.lin.LinOp.{LinOp}
use Rattle.lin_ir.specs.declared.lin.LinOp.TheVariants as lin
use Rattle.lin_ir.specs.declared.lin.Line.{Line}
use Rattle.lin_ir.specs.declared.lin.Lin.{Lin}
use Rattle.lin_ir.specs.declared.lin.Spot.{Spot}
use Rattle.mach_laws.proofs.Instructions.{instr}
use Rattle.linearise_rules.specs.Lowered.{home, spots, is_idle, line_of, pops, lines_of, lowered_code}
use Rattle.linearise_rules.specs.Sizes.{tries_ended_by, tries_ended}
use Rattle.linearise_rules.proofs.Homes.{IsIn, is_first, is_later, in_of, contains_of}
use Rattle.linearise_rules.proofs.Marks.{all_in, AsLine, op_line, if_line, switch_line, try_line, handler_line, idle_of, idle_labels}
use Rattle.linearise_rules.proofs.Places.{pops_length}
use Rattle.linearise_rules.proofs.Opposite.{tested_opposite}

-- ---- lists

pub all_of : {A : Type 0} (P : A → Type 0) (xs : List A) → ((x : A) → IsIn x xs → P x) → All P xs
all_of P [] h = λ k d lt. absurd (omega (arith, lt))
all_of P (x ∷ xs) h = by (h x is_first) (all_of P xs (λ y i. h y (is_later i)))
  where
    by : P x → All P xs → All P (x ∷ xs)
    by p ps zero d lt = p
    by p ps (suc k) d lt = ps k d (omega (arith, lt))

module _ (number : ℕ → ℕ) where
  abbrev L : List Instr → List Line
  L = lowered_code number

  -- ---- where a line comes from

  -- lines that are Linear's own, with no operands
  pub data IsBare : Flow → Type 0 where
    a_label : {l : ℕ} → IsBare (flow.Label l)
    a_jump : {l : ℕ} → IsBare (flow.Jump l)
    an_exit : {l : ℕ} → IsBare (flow.Exit l)
    a_pop : IsBare flow.PopTrap

  pub data Source (code : List Instr) : Line → Type 0 where
    own_line : {i : Instr} (f : LinOp) → IsIn i code → AsLine i.op f → Source code (line_of number f i)
    bare_line : {f : Flow} → IsBare f → Source code (bare_flow f)

  source_later : {i : Instr} {code : List Instr} {j : Line} → Source code j → Source (i ∷ code) j
  source_later (own_line f z a) = own_line f (is_later z) a
  source_later (bare_line b) = bare_line b

  pops_source : {code : List Instr} {j : Line} (n : ℕ) (xs : List Line) → IsIn j (pops number n xs) → (IsIn j xs → Source code j) → Source code j
  pops_source zero xs z go = go z
  pops_source (suc n) xs is_first go = bare_line a_pop
  pops_source (suc n) xs (is_later z) go = pops_source n xs z go

  bare_one : {code : List Instr} {j : Line} {f : Flow} {xs : List Line} → IsBare f → IsIn j (bare_flow f ∷ xs) → (IsIn j xs → Source code j) → Source code j
  bare_one b is_first go = bare_line b
  bare_one b (is_later z) go = go z

  own_one : {code : List Instr} {j : Line} {i : Instr} {xs : List Line} (f : LinOp) → IsIn i code → AsLine i.op f → IsIn j (line_of number f i ∷ xs) → (IsIn j xs → Source code j) → Source code j
  own_one f at a is_first go = own_line f at a
  own_one f at a (is_later z) go = go z

  pub source : (code : List Instr) {j : Line} → IsIn j (L code) → Source code j
  source [] z = elim z [ ]
  source (i ∷ is) {j} z = self (is_idle i.op i.args i.results) z (λ z. source_later (source is z))
    where
      by : (g : MachOp) (args results : List Reg) → IsIn j (lines_of number g (instr g args results) (L is)) → (IsIn j (L is) → Source (instr g args results ∷ is) j) → Source (instr g args results ∷ is) j
      by (mach.Op f) args results z go = own_one (lin.Op f) is_first op_line z go
      by (mach.Mark (mark.Exit l k)) args results z go = pops_source k (bare_flow (flow.Exit l) ∷ L is) z (λ z. bare_one an_exit z go)
      by (mach.Mark (mark.If t l)) args results z go = own_one _ is_first if_line z go
      by (mach.Mark (mark.Else l m)) args results z go = bare_one a_jump z (λ z. bare_one a_label z go)
      by (mach.Mark (mark.Switch ls)) args results z go = own_one _ is_first switch_line z go
      by (mach.Mark (mark.Case ns l m)) args results z go = bare_one a_jump z (λ z. bare_one a_label z go)
      by (mach.Mark mark.Catch) args results z go = go z
      by (mach.Mark (mark.With l m)) args results z go = bare_one a_jump z (λ z. bare_one a_label z go)
      by (mach.Mark (mark.Try l)) args results z go = own_one _ is_first try_line z go
      by (mach.Mark (mark.Leave l m)) args results z go = bare_one a_pop z (λ z. bare_one a_jump z go)
      by (mach.Mark (mark.Handler l)) args results z go = bare_one a_label z (λ z. own_one (lin.Flow flow.EnterTrap) is_first handler_line z go)
      by (mach.Mark (mark.End l)) args results z go = bare_one a_label z go

      self : (t : Bool) → IsIn j (cond t (L is) (lines_of number i.op i (L is))) → (IsIn j (L is) → Source (i ∷ is) j) → Source (i ∷ is) j
      self true z go = go z
      self false z go = by i.op i.args i.results z go

  -- ---- forms

  pub comps_same : (rs : List Reg) → formed.comps (spots number rs) ≡ mach_formed.comps rs
  comps_same [] = refl
  comps_same (r ∷ rs) = ap (λ ts. r.comp ∷ ts) (comps_same rs)

  data FormsLine : LinOp → List Comp → List Comp → Type 0 where
    forms_op : {f : Op} {args results : List Comp} → HasForm f args results → FormsLine (lin.Op f) args results
    forms_flow : {f : Flow} {args results : List Comp} → FlowHasForm f args results → FormsLine (lin.Flow f) args results

  forms_mark : {f : _} {g : LinOp} {args results : List Comp} → MarkHasForm f args results → AsLine (mach.Mark f) g → FormsLine g args results
  forms_mark (if_form t) if_line = forms_flow (formed.branch_form (tested_opposite t))
  forms_mark switch_form switch_line = forms_flow formed.switch_form
  forms_mark try_form try_line = forms_flow formed.push_form
  forms_mark handler_form handler_line = forms_flow formed.enter_form
  forms_mark mach_formed.exit_form z = elim z [ ]
  forms_mark mach_formed.else_form z = elim z [ ]
  forms_mark mach_formed.case_form z = elim z [ ]
  forms_mark mach_formed.catch_form z = elim z [ ]
  forms_mark mach_formed.with_form z = elim z [ ]
  forms_mark mach_formed.leave_form z = elim z [ ]
  forms_mark mach_formed.end_form z = elim z [ ]

  forms_line : {i : Instr} {f : LinOp} → mach_formed.IsFormedInstruction i → AsLine i.op f → FormsLine f (mach_formed.comps i.args) (mach_formed.comps i.results)
  forms_line (formed_op h) op_line = forms_op h
  forms_line (formed_mark h) z = forms_mark h z

  line_formed : {f : LinOp} {args results : List Comp} (xs rs : List Spot) → FormsLine f args results → formed.comps xs ≡ args → formed.comps rs ≡ results → formed.IsFormedLine (record { op = f; args = xs; results = rs })
  line_formed xs rs (forms_op {f = f} h) e u = formed.formed_op (subst (λ ts. HasForm f ts (formed.comps rs)) (sym e) (subst (HasForm f _) (sym u) h))
  line_formed xs rs (forms_flow {f = f} h) e u = formed.formed_flow (subst (λ ts. FlowHasForm f ts (formed.comps rs)) (sym e) (subst (FlowHasForm f _) (sym u) h))

  bare_formed : {f : Flow} → IsBare f → formed.IsFormedLine (bare_flow f)
  bare_formed a_label = formed.formed_flow formed.label_form
  bare_formed a_jump = formed.formed_flow formed.jump_form
  bare_formed an_exit = formed.formed_flow formed.exit_form
  bare_formed a_pop = formed.formed_flow formed.pop_form

  pub source_formed : {code : List Instr} {j : Line} → All mach_formed.IsFormedInstruction code → Source code j → formed.IsFormedLine j
  source_formed forms (own_line {i = i} f z a) =
      line_formed (spots number i.args) (spots number i.results) (forms_line (all_in mach_formed.IsFormedInstruction forms z) a) (comps_same i.args) (comps_same i.results)
  source_formed forms (bare_line b) = bare_formed b

  -- ---- seats

  places_same : (rs : List Reg) → formed.places_of (spots number rs) ≡ map (home number) (seats.places_of rs)
  places_same [] = refl
  places_same (r ∷ rs) = ap (λ ls. home number r.loc ∷ ls) (places_same rs)

  abbrev is_machine : Loc → Bool
  is_machine (loc.Machine n) = true
  is_machine (loc.Slot k) = false
  is_machine loc.Unset = false

  abbrev all_machine : List Loc → Bool
  all_machine [] = true
  all_machine (l ∷ ls) = is_machine l && all_machine ls

  machine_home : (l : Loc) → is_machine l ≡ true → home number l ≡ l
  machine_home (loc.Machine n) e = refl
  machine_home (loc.Slot k) e = absurd (true≢false (sym e))
  machine_home loc.Unset e = absurd (true≢false (sym e))

  and_both : (x y : Bool) → x && y ≡ true → (x ≡ true) × (y ≡ true)
  and_both true y e = (refl, e)
  and_both false y e = absurd (true≢false (sym e))

  fixed_homes : (ls others : List Loc) → all_machine (ls ++ others) ≡ true → map (home number) ls ≡ ls
  fixed_homes [] others e = refl
  fixed_homes (l ∷ ls) others e =
      let y = and_both (is_machine l) (all_machine (ls ++ others)) e in
      ap (λ k. k ∷ map (home number) ls) (machine_home l y.0) ∙ ap (λ ks. l ∷ ks) (fixed_homes ls others y.1)

  abbrev seats_machine : Seats → Bool
  seats_machine Anywhere = true
  seats_machine (InOrder places) = all_machine places
  seats_machine (AfterFirst places) = all_machine places

  seated_home : {s : Seats} {ls : List Loc} → seats_machine s ≡ true → AreSeated s ls → AreSeated s (map (home number) ls)
  seated_home m seats.anywhere = seats.anywhere
  seated_home m (in_order {places = places} {ls = ls} others e) =
      in_order others (ap (λ ks. ks ++ others) (fixed_homes ls others (ap all_machine e ∙ m)) ∙ e)
  seated_home m (after_first {places = places} {ls = ls} {l = l} others e) =
      after_first others (ap (λ ks. ks ++ others) (fixed_homes ls others (ap all_machine e ∙ m)) ∙ e)

  operands_machine : (f : Op) → seats_machine (operand_seats f) ≡ true
  operands_machine (op.Pure f) = refl
  operands_machine (op.Access f) = refl
  operands_machine (op.Calling (calling.Call (callee.Symbol name) result)) = refl
  operands_machine (op.Calling (calling.Call callee.Register result)) = refl
  operands_machine (op.Calling (calling.TailCall (callee.Symbol name) result)) = refl
  operands_machine (op.Calling (calling.TailCall callee.Register result)) = refl
  operands_machine (op.Calling (calling.External row frame)) = refl
  operands_machine (op.Leaving leaving.Raise) = refl
  operands_machine (op.Leaving leaving.Return) = refl
  operands_machine (op.Leaving (leaving.Checkbound r)) = refl

  results_machine : (f : Op) → seats_machine (result_seats f) ≡ true
  results_machine (op.Pure f) = refl
  results_machine (op.Access f) = refl
  results_machine (op.Calling f) = refl
  results_machine (op.Leaving f) = refl

  pub params_seated : (rs : List Reg) → AreSeated (InOrder argument_locations) (seats.places_of rs) → AreSeated (InOrder argument_locations) (formed.places_of (spots number rs))
  params_seated rs h = subst (AreSeated (InOrder argument_locations)) (sym (places_same rs)) (seated_home refl h)

  operands_line : {g : MachOp} {f : LinOp} (ls : List Loc) → AsLine g f → AreSeated (seats.mach_operand_seats g) ls → AreSeated (lin_operand_seats f) (map (home number) ls)
  operands_line ls (op_line {f = f}) h = seated_home (operands_machine f) h
  operands_line ls if_line h = seats.anywhere
  operands_line ls switch_line h = seats.anywhere
  operands_line ls try_line h = seats.anywhere
  operands_line ls handler_line h = seats.anywhere

  results_line : {g : MachOp} {f : LinOp} (ls : List Loc) → AsLine g f → AreSeated (seats.mach_result_seats g) ls → AreSeated (lin_result_seats f) (map (home number) ls)
  results_line ls (op_line {f = f}) h = seated_home (results_machine f) h
  results_line ls if_line h = seats.anywhere
  results_line ls switch_line h = seats.anywhere
  results_line ls try_line h = seats.anywhere
  results_line ls handler_line h = seated_home refl h

  bare_operands : {f : Flow} → IsBare f → AreSeated (lin_operand_seats (lin.Flow f)) []
  bare_operands b = seats.anywhere

  bare_results : {f : Flow} → IsBare f → AreSeated (lin_result_seats (lin.Flow f)) []
  bare_results a_label = seats.anywhere
  bare_results a_jump = seats.anywhere
  bare_results an_exit = seats.anywhere
  bare_results a_pop = seats.anywhere

  pub source_operands : {p : Mach} {j : Line} → seats.Seated p → Source p.code j → AreSeated (lin_operand_seats j.op) (formed.places_of j.args)
  source_operands h (own_line {i = i} f z a) =
      subst (AreSeated (lin_operand_seats f)) (sym (places_same i.args)) (operands_line (seats.places_of i.args) a (h.operands i (contains_of z)))
  source_operands h (bare_line b) = bare_operands b

  pub source_results : {p : Mach} {j : Line} → seats.Seated p → Source p.code j → AreSeated (lin_result_seats j.op) (formed.places_of j.results)
  source_results h (own_line {i = i} f z a) =
      subst (AreSeated (lin_result_seats f)) (sym (places_same i.results)) (results_line (seats.places_of i.results) a (h.results i (contains_of z)))
  source_results h (bare_line b) = bare_results b

  -- ---- names

  record FromOp (code : List Instr) (f : Op) : Type 0 where
    from : Instr
    inside : IsIn from code
    same : from.op ≡ mach.Op f

  op_same : (f g : Op) → lin.Op f ≡ lin.Op g → f ≡ g
  op_same f g e = cc

  flow_not : (f : Flow) (g : Op) → lin.Flow f ≡ lin.Op g → ⊥
  flow_not f g e = cc

  op_of_line : {g : MachOp} {f : LinOp} (h : Op) → AsLine g f → f ≡ lin.Op h → g ≡ mach.Op h
  op_of_line h (op_line {f = f}) e = ap mach.Op (op_same f h e)
  op_of_line h if_line e = absurd (flow_not _ h e)
  op_of_line h switch_line e = absurd (flow_not _ h e)
  op_of_line h try_line e = absurd (flow_not _ h e)
  op_of_line h handler_line e = absurd (flow_not _ h e)

  from_op : {code : List Instr} {j : Line} (f : Op) → Source code j → j.op ≡ lin.Op f → FromOp code f
  from_op f (own_line {i = i} g z a) e = record { from = i; inside = z; same = op_of_line f a e }
  from_op f (bare_line {f = g} b) e = absurd (flow_not g f e)

  pub named_from : (Named : MachOp → Type 0) (p : Mach) (q : Lin) → q.code ≡ L p.code → IsNamedIn Named q → kept.IsNamedIn Named p
  named_from Named p q same n =
      let y = from_op n.op (source p.code (in_of n.line (L p.code) (subst (λ xs. Contains xs n.line) same n.among))) n.is in
      record { instr = y.from; among = contains_of y.inside; named = subst Named (sym y.same) n.named }

  -- ---- labels

  pops_labels : (n : ℕ) (xs : List Line) → labels_in (pops number n xs) ≡ labels_in xs
  pops_labels zero xs = refl
  pops_labels (suc n) xs = pops_labels n xs

  pub labels_same : (code : List Instr) → labels_in (L code) ≡ mach_formed.labels_in code
  labels_same [] = refl
  labels_same (i ∷ is) = self (is_idle i.op i.args i.results) refl (labels_same is)
    where
      by : (g : MachOp) (args results : List Reg) → labels_in (L is) ≡ mach_formed.labels_in is → labels_in (lines_of number g (instr g args results) (L is)) ≡ mach_formed.labels_in (instr g args results ∷ is)
      by (mach.Op f) args results h = h
      by (mach.Mark (mark.Exit l k)) args results h = pops_labels k (bare_flow (flow.Exit l) ∷ L is) ∙ h
      by (mach.Mark (mark.If t l)) args results h = h
      by (mach.Mark (mark.Else l m)) args results h = ap (λ ls. l ∷ ls) h
      by (mach.Mark (mark.Switch ls)) args results h = h
      by (mach.Mark (mark.Case ns l m)) args results h = ap (λ ls. l ∷ ls) h
      by (mach.Mark mark.Catch) args results h = h
      by (mach.Mark (mark.With l m)) args results h = ap (λ ls. l ∷ ls) h
      by (mach.Mark (mark.Try l)) args results h = h
      by (mach.Mark (mark.Leave l m)) args results h = h
      by (mach.Mark (mark.Handler l)) args results h = ap (λ ls. l ∷ ls) h
      by (mach.Mark (mark.End l)) args results h = ap (λ ls. l ∷ ls) h

      self : (t : Bool) → is_idle i.op i.args i.results ≡ t → labels_in (L is) ≡ mach_formed.labels_in is → labels_in (cond t (L is) (lines_of number i.op i (L is))) ≡ mach_formed.labels_in (i ∷ is)
      self true w h = h ∙ sym (idle_labels {i = i} is (idle_of i.op i.args i.results w))
      self false w h = by i.op i.args i.results h

  -- ---- how many lines

  abbrev lines_bound : List Instr → ℕ
  lines_bound code = 2 * length code + tries_ended code

  at_most : (x y a b k : ℕ) → y ≤ 2 * a + b → x ≤ 2 + k + y → x ≤ 2 * suc a + (k + b)
  at_most x y a b k le lt = omega (arith, le, lt)

  pub lines_few : (code : List Instr) → length (L code) ≤ 2 * length code + tries_ended code
  lines_few [] = omega arith
  lines_few (i ∷ is) = at_most (length (L (i ∷ is))) (length (L is)) (length is) (tries_ended is) (tries_ended_by i.op) (lines_few is) (one_few i)
    where
      pops_few : (n k a : ℕ) → a ≡ n + suc k → a ≤ 2 + n + k
      pops_few n k a e = omega (arith, e)

      by : (g : MachOp) (args results : List Reg) → length (lines_of number g (instr g args results) (L is)) ≤ 2 + tries_ended_by g + length (L is)
      by (mach.Op f) args results = omega arith
      by (mach.Mark (mark.Exit l k)) args results =
          pops_few k (length (L is)) (length (pops number k (bare_flow (flow.Exit l) ∷ L is))) (pops_length number k (bare_flow (flow.Exit l) ∷ L is))
      by (mach.Mark (mark.If t l)) args results = omega arith
      by (mach.Mark (mark.Else l m)) args results = omega arith
      by (mach.Mark (mark.Switch ls)) args results = omega arith
      by (mach.Mark (mark.Case ns l m)) args results = omega arith
      by (mach.Mark mark.Catch) args results = omega arith
      by (mach.Mark (mark.With l m)) args results = omega arith
      by (mach.Mark (mark.Try l)) args results = omega arith
      by (mach.Mark (mark.Leave l m)) args results = omega arith
      by (mach.Mark (mark.Handler l)) args results = omega arith
      by (mach.Mark (mark.End l)) args results = omega arith

      none_few : (k n : ℕ) → n ≤ 2 + k + n
      none_few k n = omega arith

      one_few : (i : Instr) → length (L (i ∷ is)) ≤ 2 + tries_ended_by i.op + length (L is)
      one_few i = two (is_idle i.op i.args i.results)
        where
          two : (t : Bool) → length (cond t (L is) (lines_of number i.op i (L is))) ≤ 2 + tries_ended_by i.op + length (L is)
          two true = none_few (tries_ended_by i.op) (length (L is))
          two false = by i.op i.args i.results
