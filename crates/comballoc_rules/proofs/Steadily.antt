-- What may be in a straight run does the same where blocks have been allocated ahead of it.
use Rattle.std.proofs.Common.{◌≡◌, true, List, [], ◌∷◌, length, map, sym, ap}
use Rattle.std.proofs.lemmas.Bool.{true≢false}
use Rattle.bs_words.specs.declared.values.Value.{Value}
use Rattle.cmm_meaning.specs.Extends.{shape_of}
use Rattle.cmm_meaning.specs.Setting.{Setting}
use Rattle.comballoc_rules.proofs.Steady as one
use Rattle.comballoc_rules.proofs.Steady.{Steadies, steady}
use Rattle.mach_ir.specs.Acts.{Around, On, Act, Goes, Stuck, with_block}
use Rattle.mach_ir.specs.Keeps.{ahead}
use Rattle.mach_ir.specs.Meaning.{mach_act}
use Rattle.mach_ir.specs.Placed.{is_straight}
use Rattle.mach_ir.specs.declared.blocks.NewBlock.{NewBlock}
use Rattle.mach_ir.specs.declared.op.Access.TheVariants as access
use Rattle.mach_ir.specs.declared.op.Op.{Op}
use Rattle.mach_ir.specs.declared.op.Op.TheVariants as op
use Rattle.mach_ir.specs.declared.mach.MachOp.{MachOp}
use Rattle.mach_ir.specs.declared.mach.MachOp.TheVariants as mach

-- where the first goes on, with as many blocks as before, the second goes on ahead of it
pub data AllSteady (bs : List NewBlock) (a : Around) : Act → Act → Type 0 where
  is_lost : {x : Act} → AllSteady bs a Stuck x
  goes_ahead : {vs : List Value} {after : Around} → length after.memory.blocks ≡ length a.memory.blocks →
      map shape_of after.memory.blocks ≡ map shape_of a.memory.blocks → after.tries ≡ a.tries →
      AllSteady bs a (Goes vs On after) (Goes vs On (ahead bs after))

joined : (b : NewBlock) (bs : List NewBlock) (a : Around) {x y z : Act} → Steadies b a x y → AllSteady bs (with_block b a) y z →
    AllSteady (b ∷ bs) a x z
joined b bs a one.is_lost t = is_lost
joined b bs a (one.goes_ahead same shapes tries) (goes_ahead others kept left) = goes_ahead same shapes tries

module _ (c : Setting) (vs : List Value) where
  -- with none ahead: an act goes on here, or is stuck
  level : (f : Op) → is_straight (mach.Op f) ≡ true → ((blocks : List NewBlock) → f ≡ op.Access (access.Alloc blocks) → ⊥) →
      (a : Around) → AllSteady [] a (mach_act c (mach.Op f) vs a) (mach_act c (mach.Op f) vs a)
  level f s apart a = by (steady (record { header = 0; cells = 0 }) a c f vs s apart)
    where
      by : {x y : Act} → Steadies (record { header = 0; cells = 0 }) a x y → AllSteady [] a x x
      by one.is_lost = is_lost
      by (one.goes_ahead same shapes tries) = goes_ahead same shapes tries

  steadies : (f : Op) → is_straight (mach.Op f) ≡ true → ((blocks : List NewBlock) → f ≡ op.Access (access.Alloc blocks) → ⊥) →
      (bs : List NewBlock) (a : Around) → AllSteady bs a (mach_act c (mach.Op f) vs a) (mach_act c (mach.Op f) vs (ahead bs a))
  steadies f s apart [] a = level f s apart a
  steadies f s apart (b ∷ bs) a = joined b bs a (steady b a c f vs s apart) (steadies f s apart bs (with_block b a))

  pub all_steady : (f : MachOp) → is_straight f ≡ true →
      ((blocks : List NewBlock) → f ≡ mach.Op (op.Access (access.Alloc blocks)) → ⊥) → (bs : List NewBlock) (a : Around) →
      AllSteady bs a (mach_act c f vs a) (mach_act c f vs (ahead bs a))
  all_steady (mach.Op f) s apart bs a = steadies f s (λ blocks e. apart blocks (ap mach.Op e)) bs a
  all_steady (mach.Mark f) s apart bs a = absurd (true≢false (sym s))
