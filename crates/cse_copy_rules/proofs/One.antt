-- The copies of a function are propagated in one way: of two moves that made a register a copy, the later one would write it.
use Rattle.std.proofs.Common.{◌≡◌, ℕ, List, [], ◌∷◌, ◌++◌, length, map, refl, sym, ap, ◌∙◌, subst}
use Rattle.std.specs.List.{Contains}
use Rattle.bs_words.proofs.Lists.{first_in, later_in}
use Rattle.cse_copy_rules.specs.Propagated.{move_instruction, IsCopyOf, ReadFor, source, itself, instr_with_sources, with_sources, IsPropagatedBefore, IsPropagated}
use Rattle.mach_ir.specs.declared.reg.Reg.{Reg}
use Rattle.mach_ir.specs.declared.mach.Instr.{Instr}
use Rattle.mach_ir.specs.declared.mach.Mach.{Mach}
use Rattle.cse_repeat_rules.proofs.OneForOne as same
use Rattle.cse_repeat_rules.proofs.OneForOne.{in_append}
use Rattle.cse_repeat_rules.proofs.Runs.{Order, together, first_one, first_other, order}
use Rattle.cse_repeat_rules.proofs.One.{only_same}

-- none writes the copy after the move that made it one
written_later : {made : List Instr} (c s : Reg) (w : IsCopyOf made c s) (k : Reg) (mid after : List Instr) →
    w.run ≡ mid ++ move_instruction k c ∷ after → ⊥
written_later c s w k mid after e =
    w.stays (move_instruction k c) (subst (λ xs. Contains xs (move_instruction k c)) (sym e) (in_append mid (move_instruction k c) after)) c (first_in c []) refl

one_source : {made : List Instr} (c r s : Reg) → IsCopyOf made c r → IsCopyOf made c s → r ≡ s
one_source c r s x y = by (order x.others y.others (move_instruction r c) (move_instruction s c) x.run y.run (sym x.within ∙ y.within))
  where
    by : Order (move_instruction r c) (move_instruction s c) x.run y.run → r ≡ s
    by (together e) = only_same (ap (λ (i : Instr). i.args) e)
    by (first_one mid e) = absurd (written_later c r x s mid y.run e)
    by (first_other mid e) = absurd (written_later c s y r mid x.run e)

one_read : {made : List Instr} {c r s : Reg} → ReadFor made c r → ReadFor made c s → r ≡ s
one_read {c = c} {r = r} {s = s} (source x) (source y) = one_source c r s x y
one_read {r = r} (source x) (itself h) = absurd (h r x)
one_read {s = s} (itself h) (source y) = absurd (h s y)
one_read (itself h) (itself k) = refl

same_map : (p w : Reg → Reg) (rs : List Reg) → ((r : Reg) → Contains rs r → p r ≡ w r) → map p rs ≡ map w rs
same_map p w [] h = refl
same_map p w (r ∷ rs) h =
    ap (λ x. x ∷ map p rs) (h r (first_in r rs))
    ∙ ap (λ xs. w r ∷ xs) (same_map p w rs (λ k c. h k (later_in r k rs c)))

module _ (m : Mach) (p w : ℕ → Reg → Reg)
    (reads_p : (i : Instr) (next made : List Instr) → IsPropagatedBefore p m i next made → (r : Reg) → Contains i.args r →
    ReadFor made r (p (length next) r))
    (reads_w : (i : Instr) (next made : List Instr) → IsPropagatedBefore w m i next made → (r : Reg) → Contains i.args r →
    ReadFor made r (w (length next) r)) where
  one_instr : (i : Instr) (next made : List Instr) → IsPropagatedBefore p m i next made → IsPropagatedBefore w m i next made →
      instr_with_sources p (length next) i ≡ instr_with_sources w (length next) i
  one_instr i next made bp bw =
      ap (λ rs. record i { args = rs })
      (same_map (p (length next)) (w (length next)) i.args
      (λ r c. one_read (reads_p i next made bp r c) (reads_w i next made bw r c)))

  pub one_code : with_sources p m.code ≡ with_sources w m.code
  one_code =
      same.one_code (instr_with_sources p) (instr_with_sources w) m.code
      (λ i next before made whole e h.
      one_instr i next made (record { before = before; whole = whole; made_so = e }) (record { before = before; whole = whole; made_so = h }))
      m.code [] [] refl refl refl

-- The copies of a function are propagated in one way.
pub one_propagated : (m q k : Mach) → IsPropagated m q → IsPropagated m k → q ≡ k
one_propagated m q k a b =
    a.is
    ∙ ap (λ code. record m { code = code }) (one_code m a.plan b.plan a.reads b.reads)
    ∙ sym b.is
