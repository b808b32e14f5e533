-- Propagating copies carries: operands are read from registers of the same component and place, and no operation changes.
use Rattle.std.proofs.Common.{◌≡◌, ◌+◌, cond, List, [], ◌∷◌, length, map, refl, sym, ap, ◌∙◌, subst, arith}
use Rattle.std.proofs.lemmas.List.{length-map}
use Rattle.std.specs.List.{Contains}
use Rattle.cse_copy_rules.proofs.Form.{Fits, fits, same_ops}
use Rattle.cse_copy_rules.specs.Kept.{IsCopyKept}
use Rattle.cse_copy_rules.specs.Propagated.{instr_with_sources, IsPropagated}
use Rattle.pass_rules.specs.Known.{same_spot}
use Rattle.pass_rules.specs.Carried.{IsCarried}
use Rattle.pass_rules.specs.Measures.{copy_words, words_for_instr, operands_with}
use Rattle.mach_ir.specs.Walks.{IsRegister}
use Rattle.mach_ir.specs.declared.op.Op.TheVariants as op
use Rattle.mach_ir.specs.declared.op.Pure.TheVariants as pure
use Rattle.mach_ir.specs.declared.reg.Reg.{Reg}
use Rattle.mach_ir.specs.declared.mach.Instr.{Instr}
use Rattle.mach_ir.specs.declared.mach.Mach.{Mach}
use Rattle.mach_ir.specs.declared.mach.MachOp.{MachOp}
use Rattle.mach_ir.specs.declared.mach.MachOp.TheVariants as mach
use Rattle.mach_laws.proofs.InPlace.{tries_same}
use Rattle.bs_words.proofs.Lists.{first_in}
use Rattle.prepare_rules.proofs.Replaced.{Replaces, replaced_carried}

-- ---- one instruction

same_spots : (p : Reg → Reg) (args results : List Reg) → ((r : Reg) → Contains args r → Fits r (p r)) →
    same_spot (map p args) results ≡ same_spot args results
same_spots p [] results h = refl
same_spots p (r ∷ []) [] h = refl
same_spots p (r ∷ []) (q ∷ []) h =
    let w = h r (first_in r []) in
    ap (λ l. same_spot (record r { comp = (p r).comp; loc = l } ∷ []) (q ∷ [])) w.place
    ∙ ap (λ c. same_spot (record r { comp = c } ∷ []) (q ∷ [])) w.comp
same_spots p (r ∷ []) (q ∷ k ∷ results) h = refl
same_spots p (r ∷ s ∷ args) results h = refl

same_words : (g : MachOp) (p : Reg → Reg) (args results : List Reg) → ((r : Reg) → Contains args r → Fits r (p r)) →
    words_for_instr g (map p args) results ≡ words_for_instr g args results
same_words (mach.Op (op.Pure (pure.Copy kind))) p args results h = ap (λ b. cond b 0 copy_words) (same_spots p args results h)
same_words (mach.Op (op.Pure (pure.Operator f r))) p args results h = refl
same_words (mach.Op (op.Pure (pure.Constant w))) p args results h = refl
same_words (mach.Op (op.Pure (pure.Symbol name))) p args results h = refl
same_words (mach.Op (op.Access f)) p args results h = refl
same_words (mach.Op (op.Calling f)) p args results h = refl
same_words (mach.Op (op.Leaving f)) p args results h = refl
same_words (mach.Mark f) p args results h = refl

same_operands : (g : MachOp) (p : Reg → Reg) (args results : List Reg) →
    operands_with g (map p args) results ≡ operands_with g args results
same_operands (mach.Op (op.Pure (pure.Copy kind))) p args results = refl
same_operands (mach.Op (op.Pure (pure.Operator f r))) p args results = ap (λ n. n + length results) (length-map args p)
same_operands (mach.Op (op.Pure (pure.Constant w))) p args results = ap (λ n. n + length results) (length-map args p)
same_operands (mach.Op (op.Pure (pure.Symbol name))) p args results = ap (λ n. n + length results) (length-map args p)
same_operands (mach.Op (op.Access f)) p args results = ap (λ n. n + length results) (length-map args p)
same_operands (mach.Op (op.Calling f)) p args results = ap (λ n. n + length results) (length-map args p)
same_operands (mach.Op (op.Leaving f)) p args results = ap (λ n. n + length results) (length-map args p)
same_operands (mach.Mark f) p args results = ap (λ n. n + length results) (length-map args p)

replaces : {i : Instr} (p : Reg → Reg) → ((r : Reg) → Contains i.args r → Fits r (p r)) → Replaces i (record i { args = map p i.args })
replaces {i} p h =
    let words = same_words i.op p i.args i.results h in
    let operands = same_operands i.op p i.args i.results in
    record {
      words = omega (arith, words);
      points = omega arith;
      operands = omega (arith, operands);
      exit = refl;
      fits = λ f. f;
      returns = λ e. e;
    }

-- Propagating copies carries.
pub propagated_carried : {m q : Mach} → IsCopyKept m q → IsPropagated m q → IsCarried 0 m q
propagated_carried {m} {q} kept s =
    subst (IsCarried 0 m) (sym s.is)
    (replaced_carried (instr_with_sources s.plan) m (λ i next at. replaces (s.plan (length next)) (fits m s.plan s.reads i next at))
    (tries_same (instr_with_sources s.plan) (same_ops s.plan))
    (λ low r k c i u. low r k c ((kept.no_larger).registers k (subst (λ (x : Mach). IsRegister x k) (sym s.is) i)) u))
