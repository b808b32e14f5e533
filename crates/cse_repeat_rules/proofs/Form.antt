-- A function whose repeats are moves is well-formed, and is where it was.
use Rattle.std.proofs.Common.{◌≡◌, ◌≢◌, ℕ, ◌≤◌, Bool, true, false, cond, ◌⊎◌, inl, inr, ⊎_elim, List, [], ◌∷◌, ◌++◌, length, Option, Some, None, refl, sym, ap, ◌∙◌, subst, arith}
use Rattle.std.specs.List.{Contains}
use Rattle.std.proofs.lemmas.Bool.{both_ways}
use Rattle.std.proofs.lemmas.List.Elements.{All-contains, Contains-append_left}
use Rattle.bs_words.specs.declared.types.Comp.{Comp}
use Rattle.bs_words.proofs.Lists.{none_in, first_in, later_in, in_cons, head_same, tail_same, none_there}
use Rattle.mach_ir.specs.Forms as form
use Rattle.mach_ir.specs.Forms.{HasForm, results_of_type}
use Rattle.mach_ir.specs.Formed.{comps, IsFormedInstruction, formed_op, formed_mark, WellFormed}
use Rattle.mach_ir.specs.Seats.{AreSeated, anywhere, mach_operand_seats, mach_result_seats, places_of, Seated}
use Rattle.mach_ir.specs.Sizes.{operand_count}
use Rattle.mach_ir.specs.Walks.{IsRegister, is_param, is_colour, is_in_code, StandsAsInstr}
use Rattle.mach_ir.specs.declared.op.CopyKind.TheVariants as copy
use Rattle.mach_ir.specs.declared.op.Leaving.TheVariants as leaving
use Rattle.mach_ir.specs.declared.op.Op.TheVariants as op
use Rattle.mach_ir.specs.declared.op.Pure.TheVariants as pure
use Rattle.mach_ir.specs.declared.reg.Reg.{Reg}
use Rattle.mach_ir.specs.declared.mach.MachOp.{MachOp}
use Rattle.mach_ir.specs.declared.mach.MachOp.TheVariants as mach
use Rattle.mach_ir.specs.declared.mach.Instr.{Instr}
use Rattle.mach_ir.specs.declared.mach.Mach.{Mach}
use Rattle.mach_laws.specs.Expand.{expand, KeepsMarks}
use Rattle.mach_laws.proofs.Places.{args_in, results_in, contains_of, stands_in}
use Rattle.cse_repeat_rules.specs.Repeated.{is_operator, RepeatsEarlier, from_earlier, instr_with_earlier, alone_with_earlier, IsRepeatedBefore, IsRepeated, IsFormKept}
use Rattle.mach_laws.proofs.InPlace as text
use Rattle.mach_laws.proofs.InPlace.{AreAlike, IsPure, is_pure, same_op, both_pure, IsMain, was_main, each_in}
use Rattle.cse_repeat_rules.proofs.OneForOne.{in_append, in_code_stands, StandsFor, before_of}
use Rattle.cse_repeat_rules.proofs.OneForOne as one

-- ---- operators

pub operator_pure : (g : MachOp) → is_operator g ≡ true → IsPure g
operator_pure (mach.Op (op.Pure f)) e = is_pure
operator_pure (mach.Op (op.Access f)) e = absurd (both_ways false refl e)
operator_pure (mach.Op (op.Calling f)) e = absurd (both_ways false refl e)
operator_pure (mach.Op (op.Leaving f)) e = absurd (both_ways false refl e)
operator_pure (mach.Mark f) e = absurd (both_ways false refl e)

-- the components of an operator
one_result : (f : _) (r : _) (cs ds : List Comp) → HasForm (op.Pure (pure.Operator f r)) cs ds → (to : Comp) × (ds ≡ to ∷ [])
one_result f r cs ds (form.operates {to = to} h) = (to, refl)

some_operand : (f : _) (r : _) (cs ds : List Comp) → HasForm (op.Pure (pure.Operator f r)) cs ds → cs ≢ []
some_operand f r cs ds (form.operates {rest = rest} {left = left} h) = λ e. none left rest e
  where
    none : (c : Comp) (cs : List Comp) → c ∷ cs ≡ [] → ⊥
    none c cs e = cc

-- an operator has a result and operands
record OperatorForm (i : Instr) : Type 0 where
  to : Comp
  result : comps i.results ≡ to ∷ []
  operands : comps i.args ≢ []

operator_form : {i : Instr} → IsFormedInstruction i → is_operator i.op ≡ true → OperatorForm i
operator_form (formed_op {f = op.Pure (pure.Operator f r)} {args = args} {results = results} h) e =
    let t = one_result f r (comps args) (comps results) h in
    record { to = t.0; result = t.1; operands = some_operand f r (comps args) (comps results) h }
operator_form (formed_op {f = op.Pure (pure.Copy kind)} h) e = absurd (both_ways false refl e)
operator_form (formed_op {f = op.Pure (pure.Constant w)} h) e = absurd (both_ways false refl e)
operator_form (formed_op {f = op.Pure (pure.Symbol name)} h) e = absurd (both_ways false refl e)
operator_form (formed_op {f = op.Access f} h) e = absurd (both_ways false refl e)
operator_form (formed_op {f = op.Calling f} h) e = absurd (both_ways false refl e)
operator_form (formed_op {f = op.Leaving f} h) e = absurd (both_ways false refl e)
operator_form (formed_mark h) e = absurd (both_ways false refl e)

some_length : (rs : List Reg) → comps rs ≢ [] → 1 ≤ length rs
some_length [] h = absurd (h refl)
some_length (r ∷ rs) h = omega arith

module _ (plan : ℕ → Option Reg) where
  abbrev pub f : ℕ → Instr → List Instr
  f = alone_with_earlier plan

  -- ---- what becomes of an instruction

  pub data Fate (k : ℕ) (i : Instr) : Type 0 where
    unchanged : instr_with_earlier plan k i ≡ i → (is_operator i.op ≡ true → plan k ≡ None) → Fate k i
    moved : (r : Reg) → is_operator i.op ≡ true → plan k ≡ Some r → instr_with_earlier plan k i ≡ from_earlier (Some r) i → Fate k i

  pub alone : (k : ℕ) (i : Instr) → is_operator i.op ≡ false → instr_with_earlier plan k i ≡ i
  alone k i e = ap (λ b. cond b (from_earlier (plan k) i) i) e

  pub fate : (k : ℕ) (i : Instr) → Fate k i
  fate k i = by (is_operator i.op) (plan k) refl refl
    where
      by : (b : Bool) (o : Option Reg) → is_operator i.op ≡ b → plan k ≡ o → Fate k i
      by false o e h = unchanged (alone k i e) (λ g. absurd (both_ways (is_operator i.op) e g))
      by true None e h =
          unchanged (ap (λ b. cond b (from_earlier (plan k) i) i) e ∙ ap (λ o. from_earlier o i) h) (λ g. h)
      by true (Some r) e h =
          moved r e h (ap (λ b. cond b (from_earlier (plan k) i) i) e ∙ ap (λ o. from_earlier o i) h)

  -- what holds of an instruction, and of moves
  pub either_way : (P : Instr → Type 0) (k : ℕ) (i : Instr) → P i → ((r : Reg) → P (from_earlier (Some r) i)) → P (instr_with_earlier plan k i)
  either_way P k i x y = by (fate k i)
    where
      by : Fate k i → P (instr_with_earlier plan k i)
      by (unchanged e h) = subst P (sym e) x
      by (moved r g h e) = subst P (sym e) (y r)

  -- an operator and a move from a result only compute, and write the same
  pub alike : (k : ℕ) (i : Instr) → StandsFor i (instr_with_earlier plan k i)
  alike k i = by (fate k i)
    where
      by : Fate k i → StandsFor i (instr_with_earlier plan k i)
      by (unchanged e h) = subst (StandsFor i) (sym e) (record { op = same_op refl; results = refl })
      by (moved r g h e) = subst (StandsFor i) (sym e) (record { op = both_pure (operator_pure i.op g) is_pure; results = refl })

  pub same_ops : (k : ℕ) (i : Instr) → AreAlike i.op (instr_with_earlier plan k i).op
  same_ops k i = (alike k i).op

  pub keeps_marks : KeepsMarks (alone_with_earlier plan)
  keeps_marks = text.keeps_marks (instr_with_earlier plan) same_ops

  -- ---- sizes

  fewer : (code : List Instr) → ((i : Instr) → Contains code i → IsFormedInstruction i) → operand_count (expand f code) ≤ operand_count code
  fewer [] formed = omega arith
  fewer (i ∷ is) formed =
      by (fate (length is) i) (fewer is (λ j c. formed j (later_in i j is c)))
    where
      by : Fate (length is) i → operand_count (expand f is) ≤ operand_count is →
          operand_count (expand f (i ∷ is)) ≤ operand_count (i ∷ is)
      by (unchanged e h) ih =
          let x = ap (λ (j : Instr). length j.args) e in
          let y = ap (λ (j : Instr). length j.results) e in omega (arith, x, y, ih)
      by (moved r g h e) ih =
          let x = ap (λ (j : Instr). length j.args) e in
          let y = ap (λ (j : Instr). length j.results) e in
          let z = some_length i.args (operator_form (formed i (first_in i is)) g).operands in omega (arith, x, y, z, ih)

module _ (m : Mach) (plan : ℕ → Option Reg) where
  abbrev q : Mach
  q = record m { code = expand (alone_with_earlier plan) m.code }

  abbrev g : ℕ → Instr → List Instr
  g = alone_with_earlier plan

  module _ (moves : (i : Instr) (next made : List Instr) → IsRepeatedBefore plan m i next made → is_operator i.op ≡ true → (r : Reg) →
      plan (length next) ≡ Some r → RepeatsEarlier made i r) where
    -- the result of an operator of the second
    pub operator_result : (j : Instr) (r : Reg) → Contains q.code j → is_operator j.op ≡ true → Contains j.results r → IsRegister m r
    operator_result j r c o d =
        let s = stands_in q.code j c in of_main (was_main (instr_with_earlier plan) m.code j s.0 s.1)
      where
        of_main : {zs : List Instr} → IsMain (instr_with_earlier plan) j zs m.code → IsRegister m r
        of_main w = of_fate (fate plan (length w.next) w.instr)
          where
            of_fate : Fate plan (length w.next) w.instr → IsRegister m r
            of_fate (unchanged e h) =
                is_in_code (results_in w.stands (subst (λ (x : Instr). Contains x.results r) (sym (sym e ∙ w.same)) d))
            of_fate (moved k g h e) =
                absurd (both_ways (is_operator j.op) (ap (λ (x : Instr). is_operator x.op) (sym (sym e ∙ w.same))) o)

    -- what is moved from
    pub moved_from : (i : Instr) (next : List Instr) (r : Reg) → StandsAsInstr i next m.code → is_operator i.op ≡ true → plan (length next) ≡ Some r →
        IsRegister m r
    moved_from i next r s o e =
        let b = before_of (instr_with_earlier plan) s in
        let w = moves i next b.made (record { before = b.before; whole = b.whole; made_so = b.made_so }) o r e in
        let t = w.stands in
        operator_result w.earlier r
        (subst (λ xs. Contains xs w.earlier) (sym b.made_so)
        (Contains-append_left b.made (instr_with_earlier plan (length next) i ∷ expand g next) w.earlier
        (subst (λ xs. Contains xs w.earlier) (sym t.within) (in_append t.others w.earlier t.run))))
        t.operates (subst (λ rs. Contains rs r) (sym t.result) (first_in r []))

    pub was_register : (r : Reg) → IsRegister q r → IsRegister m r
    was_register r (is_param c) = is_param c
    was_register r (is_colour c) = is_colour c
    was_register r (is_in_code c) = let w = in_code_stands q.code c in of_main (was_main (instr_with_earlier plan) m.code w.0 w.1 w.2) w.3
      where
        only_one : (k r : Reg) → Contains (k ∷ []) r → k ≡ r
        only_one k r c = ⊎_elim (λ e. e) (λ d. absurd (none_in r d)) (in_cons k r [] c)

        of_main : {j : Instr} {zs : List Instr} → IsMain (instr_with_earlier plan) j zs m.code → Contains j.args r ⊎ Contains j.results r → IsRegister m r
        of_main {j} w d = of_fate (fate plan (length w.next) w.instr) d
          where
            of_fate : Fate plan (length w.next) w.instr → Contains j.args r ⊎ Contains j.results r → IsRegister m r
            of_fate (unchanged e h) (inl a) =
                is_in_code (args_in w.stands (subst (λ (x : Instr). Contains x.args r) (sym (sym e ∙ w.same)) a))
            of_fate (moved k g h e) (inl a) =
                subst (IsRegister m)
                (only_one k r (subst (λ (x : Instr). Contains x.args r) (sym (sym e ∙ w.same)) a))
                (moved_from w.instr w.next k w.stands g h)
            of_fate (unchanged e h) (inr a) =
                is_in_code (results_in w.stands (subst (λ (x : Instr). Contains x.results r) (sym (sym e ∙ w.same)) a))
            of_fate (moved k g h e) (inr a) =
                is_in_code (results_in w.stands (subst (λ (x : Instr). Contains x.results r) (sym (sym e ∙ w.same)) a))

  module _ (stays : (i : Instr) (next made : List Instr) → IsRepeatedBefore plan m i next made → plan (length next) ≡ None → (r : Reg) →
      RepeatsEarlier made i r → ⊥) where
    -- ---- none is left

    -- an instruction of the second, by the code before it
    record Split (code made : List Instr) (j : Instr) : Type 0 where
      instr : Instr
      next : List Instr
      before : List Instr
      stands : code ≡ before ++ instr ∷ next
      same : instr_with_earlier plan (length next) instr ≡ j
      whole : expand g code ≡ made ++ instr_with_earlier plan (length next) instr ∷ expand g next

    split_at : (code made : List Instr) (j : Instr) (zs : List Instr) → expand g code ≡ made ++ j ∷ zs → Split code made j
    split_at [] [] j zs e = absurd (none_there e)
    split_at [] (x ∷ made) j zs e = absurd (none_there e)
    split_at (i ∷ is) [] j zs e =
        record { instr = i; next = is; before = []; stands = refl; same = head_same e; whole = refl }
    split_at (i ∷ is) (x ∷ made) j zs e =
        let w = split_at is made j zs (tail_same e) in
        record {
          instr = w.instr;
          next = w.next;
          before = i ∷ w.before;
          stands = ap (λ xs. i ∷ xs) w.stands;
          same = w.same;
          whole = ap (λ y. y ∷ expand g is) (head_same e) ∙ ap (λ xs. x ∷ xs) w.whole;
        }

    pub left_none : (made : List Instr) (j : Instr) (zs : List Instr) → q.code ≡ made ++ j ∷ zs → (r : Reg) → RepeatsEarlier made j r → ⊥
    left_none made j zs e r w = of_split (split_at m.code made j zs e)
      where
        operates : is_operator j.op ≡ true
        operates = ap is_operator (sym w.same_op) ∙ (w.stands).operates

        of_split : Split m.code made j → ⊥
        of_split t = of_fate (fate plan (length t.next) t.instr)
          where
            of_fate : Fate plan (length t.next) t.instr → ⊥
            of_fate (unchanged h k) =
                let same : t.instr ≡ j = sym h ∙ t.same in
                stays t.instr t.next made (record { before = t.before; whole = t.stands; made_so = t.whole })
                (k (ap (λ (x : Instr). is_operator x.op) same ∙ operates)) r
                (subst (λ x. RepeatsEarlier made x r) (sym same) w)
            of_fate (moved k g h d) =
                both_ways (is_operator j.op) (ap (λ (x : Instr). is_operator x.op) (sym (sym d ∙ t.same))) operates

  module _ (formed : WellFormed m)
      (moves : (i : Instr) (next made : List Instr) → IsRepeatedBefore plan m i next made → is_operator i.op ≡ true → (r : Reg) →
      plan (length next) ≡ Some r → RepeatsEarlier made i r)
      (stays : (i : Instr) (next made : List Instr) → IsRepeatedBefore plan m i next made → plan (length next) ≡ None → (r : Reg) →
      RepeatsEarlier made i r → ⊥) where
    was : (r : Reg) → IsRegister q r → IsRegister m r
    was r i = was_register moves r i

    form_of : (i : Instr) → Contains m.code i → IsFormedInstruction i
    form_of i c = All-contains IsFormedInstruction m.code i formed.instrs c

    formed_again : (k : ℕ) (i : Instr) → Contains m.code i → IsFormedInstruction (instr_with_earlier plan k i)
    formed_again k i c = by (fate plan k i)
      where
        by : Fate plan k i → IsFormedInstruction (instr_with_earlier plan k i)
        by (unchanged e h) = subst IsFormedInstruction (sym e) (form_of i c)
        by (moved r g h e) =
            let t = operator_form (form_of i c) g in
            subst IsFormedInstruction (sym e)
            (formed_op (subst (λ cs. HasForm (op.Pure (pure.Copy copy.Move)) (r.comp ∷ []) cs) (sym t.result) form.copies))

    returns_same : (k : ℕ) (i : Instr) → Contains m.code i → (instr_with_earlier plan k i).op ≡ mach.Op (op.Leaving leaving.Return) →
        comps (instr_with_earlier plan k i).args ≡ results_of_type m.result
    returns_same k i c = by (fate plan k i)
      where
        no_move : mach.Op (op.Pure (pure.Copy copy.Move)) ≡ mach.Op (op.Leaving leaving.Return) → ⊥
        no_move e = cc

        by : Fate plan k i → (instr_with_earlier plan k i).op ≡ mach.Op (op.Leaving leaving.Return) → comps (instr_with_earlier plan k i).args ≡ results_of_type m.result
        by (unchanged h s) e =
            ap (λ (x : Instr). comps x.args) h ∙ formed.returns i c (ap (λ (x : Instr). x.op) (sym h) ∙ e)
        by (moved r g s h) e = absurd (no_move (ap (λ (x : Instr). x.op) (sym h) ∙ e))

    still_formed : WellFormed q
    still_formed =
        one.still_formed (instr_with_earlier plan) (alike plan) m formed was (λ i next s. formed_again (length next) i (contains_of s))
        (λ i next s. returns_same (length next) i (contains_of s))

    still_seated : Seated m → Seated q
    still_seated seated =
        record {
          params = seated.params;
          operands = each_in (instr_with_earlier plan) m.code (λ (i : Instr). AreSeated (mach_operand_seats i.op) (places_of i.args))
              (λ i next s.
              either_way plan (λ (i : Instr). AreSeated (mach_operand_seats i.op) (places_of i.args)) (length next) i
              (seated.operands i (contains_of s)) (λ r. anywhere));
          results = each_in (instr_with_earlier plan) m.code (λ (i : Instr). AreSeated (mach_result_seats i.op) (places_of i.results))
              (λ i next s.
              either_way plan (λ (i : Instr). AreSeated (mach_result_seats i.op) (places_of i.results)) (length next) i
              (seated.results i (contains_of s)) (λ r. anywhere));
        }

    pub kept_by : IsFormKept m (record m { code = expand (alone_with_earlier plan) m.code })
    kept_by =
        record {
          formed = still_formed;
          seated = still_seated;
          no_larger = record {
            params = refl;
            registers = was;
            size = one.still_small (instr_with_earlier plan) (alike plan) m was (fewer plan m.code form_of);
          };
          none_left = left_none stays;
        }

pub form_kept : (m q : Mach) → WellFormed m → IsRepeated m q → IsFormKept m q
form_kept m q formed r = subst (IsFormKept m) (sym r.is) (kept_by m r.plan formed r.moves r.stays)
