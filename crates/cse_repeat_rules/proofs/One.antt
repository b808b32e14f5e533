-- The repeats of a function are moves in one way: of two operators that are left, and both stand, the later one would
-- repeat the earlier.
use Rattle.std.proofs.Common.{◌≡◌, ℕ, Bool, true, false, cond, List, [], ◌∷◌, ◌++◌, length, Option, Some, None, refl, sym, ap, ◌∙◌, append_assoc}
use Rattle.mach_ir.specs.declared.reg.Reg.{Reg}
use Rattle.mach_ir.specs.declared.mach.Instr.{Instr}
use Rattle.mach_ir.specs.declared.mach.Mach.{Mach}
use Rattle.cse_repeat_rules.specs.Repeated.{is_operator, StillStands, RepeatsEarlier, from_earlier, instr_with_earlier, with_moves, IsRepeatedBefore, IsRepeated}
use Rattle.cse_repeat_rules.proofs.OneForOne as same
use Rattle.cse_repeat_rules.proofs.Form.{alone, left_none}
use Rattle.cse_repeat_rules.proofs.Runs.{Order, together, first_one, first_other, order}
use Rattle.cse_repeat_rules.proofs.Standing.{restricted}

pub only_same : {r s : Reg} → r ∷ [] ≡ s ∷ [] → r ≡ s
only_same e = cc

-- no operator of this code repeats one before it
abbrev NoneRepeats : List Instr → Type 0
NoneRepeats made =
    (before : List Instr) (j : Instr) (after : List Instr) → made ≡ before ++ j ∷ after → (r : Reg) → RepeatsEarlier before j r → ⊥

-- the later of two that do the same repeats the earlier
later_repeats : {made : List Instr} → NoneRepeats made → (j k : Instr) (r s : Reg) (x : StillStands made j r)
    (y : StillStands made k s) → j.op ≡ k.op → j.args ≡ k.args → (mid : List Instr) → x.run ≡ mid ++ k ∷ y.run → ⊥
later_repeats none j k r s x y ops args mid e =
    none (x.others ++ j ∷ mid) k y.run
    (x.within ∙ ap (λ zs. x.others ++ j ∷ zs) e ∙ sym (append_assoc x.others (j ∷ mid) (k ∷ y.run))) r
    (record { earlier = j; stands = restricted j r x mid (k ∷ y.run) e; same_op = ops; same_args = args })

one_result : {made : List Instr} → NoneRepeats made → (j k : Instr) (r s : Reg) → StillStands made j r → StillStands made k s →
    j.op ≡ k.op → j.args ≡ k.args → r ≡ s
one_result none j k r s x y ops args = by (order x.others y.others j k x.run y.run (sym x.within ∙ y.within))
  where
    by : Order j k x.run y.run → r ≡ s
    by (together e) = only_same (sym x.result ∙ ap (λ (i : Instr). i.results) e ∙ y.result)
    by (first_one mid e) = absurd (later_repeats none j k r s x y ops args mid e)
    by (first_other mid e) = absurd (later_repeats none k j s r y x (sym ops) (sym args) mid e)

module _ (m : Mach) (p w : ℕ → Option Reg)
    (moves_p : (i : Instr) (next made : List Instr) → IsRepeatedBefore p m i next made → is_operator i.op ≡ true → (r : Reg) →
    p (length next) ≡ Some r → RepeatsEarlier made i r)
    (stays_p : (i : Instr) (next made : List Instr) → IsRepeatedBefore p m i next made → p (length next) ≡ None → (r : Reg) →
    RepeatsEarlier made i r → ⊥)
    (moves_w : (i : Instr) (next made : List Instr) → IsRepeatedBefore w m i next made → is_operator i.op ≡ true → (r : Reg) →
    w (length next) ≡ Some r → RepeatsEarlier made i r)
    (stays_w : (i : Instr) (next made : List Instr) → IsRepeatedBefore w m i next made → w (length next) ≡ None → (r : Reg) →
    RepeatsEarlier made i r → ⊥) where
  none_before : (made rest : List Instr) → with_moves p m.code ≡ made ++ rest → NoneRepeats made
  none_before made rest whole before j after e r x =
      left_none m p stays_p before j (after ++ rest)
      (whole ∙ ap (λ xs. xs ++ rest) e ∙ append_assoc before (j ∷ after) rest) r x

  one_choice : (i : Instr) (next made : List Instr) → IsRepeatedBefore p m i next made → IsRepeatedBefore w m i next made →
      is_operator i.op ≡ true → p (length next) ≡ w (length next)
  one_choice i next made bp bw o = by (p (length next)) (w (length next)) refl refl
    where
      by : (x y : Option Reg) → p (length next) ≡ x → w (length next) ≡ y → p (length next) ≡ w (length next)
      by None None e h = e ∙ sym h
      by (Some r) None e h = absurd (stays_w i next made bw h r (moves_p i next made bp o r e))
      by None (Some s) e h = absurd (stays_p i next made bp e s (moves_w i next made bw o s h))
      by (Some r) (Some s) e h =
          let x = moves_p i next made bp o r e in
          let y = moves_w i next made bw o s h in
          let same : r ≡ s =
          one_result (none_before made _ bp.made_so) x.earlier y.earlier r s x.stands y.stands
          (x.same_op ∙ sym y.same_op) (x.same_args ∙ sym y.same_args) in
          e ∙ ap Some same ∙ sym h

  one_instr : (i : Instr) (next made : List Instr) → IsRepeatedBefore p m i next made → IsRepeatedBefore w m i next made →
      instr_with_earlier p (length next) i ≡ instr_with_earlier w (length next) i
  one_instr i next made bp bw = by (is_operator i.op) refl
    where
      by : (b : Bool) → is_operator i.op ≡ b → instr_with_earlier p (length next) i ≡ instr_with_earlier w (length next) i
      by false e = alone p (length next) i e ∙ sym (alone w (length next) i e)
      by true e =
          ap (λ o. cond (is_operator i.op) (from_earlier o i) i) (one_choice i next made bp bw e)

  pub one_code : with_moves p m.code ≡ with_moves w m.code
  one_code =
      same.one_code (instr_with_earlier p) (instr_with_earlier w) m.code
      (λ i next before made whole e h.
      one_instr i next made (record { before = before; whole = whole; made_so = e }) (record { before = before; whole = whole; made_so = h }))
      m.code [] [] refl refl refl

-- The repeats of a function are moves in one way.
pub one_repeated : (m q k : Mach) → IsRepeated m q → IsRepeated m k → q ≡ k
one_repeated m q k a b =
    a.is
    ∙ ap (λ code. record m { code = code }) (one_code m a.plan b.plan a.moves a.stays b.moves b.stays)
    ∙ sym b.is
