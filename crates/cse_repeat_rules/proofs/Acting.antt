-- What an operator gives, and what straight code leaves of it: blocks are only added.
use Rattle.std.proofs.Common.{◌≡◌, ℕ, Bool, true, false, List, [], ◌∷◌, ◌++◌, length, map, Result, refl, sym, ap, ◌∙◌, subst, append_assoc}
use Rattle.std.proofs.lemmas.List.{append-nil, map-append}
use Rattle.std.proofs.lemmas.Bool.{both_ways}
use Rattle.bs_words.specs.Memory.{HeapBlock, sizes}
use Rattle.bs_words.specs.Operators.{apply}
use Rattle.bs_words.specs.declared.values.Kind.{Kind}
use Rattle.bs_words.specs.declared.values.Value.{Value}
use Rattle.bs_words.specs.declared.values.Value.TheVariants as value
use Rattle.cmm_meaning.specs.Extends.{Shape, shape_of}
use Rattle.cmm_meaning.specs.Setting.{Setting}
use Rattle.comballoc_rules.proofs.Steady.{Firm, no_value, a_value, apply_firm}
use Rattle.comballoc_rules.proofs.Steadily.{AllSteady, is_lost, goes_ahead, all_steady}
use Rattle.mach_ir.specs.Acts.{Around, On, Act, Goes, Stuck, stuck_unless, one_result, new_blocks, with_block, fresh_block, is_complete}
use Rattle.mach_ir.specs.Meaning.{mach_act}
use Rattle.mach_ir.specs.Placed.{is_straight}
use Rattle.mach_ir.specs.declared.blocks.NewBlock.{NewBlock}
use Rattle.mach_ir.specs.declared.op.Access.TheVariants as access
use Rattle.mach_ir.specs.declared.op.Op.TheVariants as op
use Rattle.mach_ir.specs.declared.op.Pure.TheVariants as pure
use Rattle.mach_ir.specs.declared.op.Right.TheVariants as right
use Rattle.mach_ir.specs.declared.mach.MachOp.{MachOp}
use Rattle.mach_ir.specs.declared.mach.MachOp.TheVariants as mach
use Rattle.cse_repeat_rules.specs.Repeated.{is_operator}

-- ---- surroundings with more blocks

-- the second has the blocks of the first, of their sizes, and maybe others after them
pub record Grown (x y : Around) : Type 0 where
  pub further : List ℕ
  pub same : sizes y.memory ≡ sizes x.memory ++ further

pub as_it_was : (x : Around) → Grown x x
as_it_was x = record { further = []; same = sym (append-nil (sizes x.memory)) }

grown_on : {x y z : Around} → Grown x y → Grown y z → Grown x z
grown_on {x} g h =
    record {
      further = g.further ++ h.further;
      same = h.same ∙ ap (λ xs. xs ++ h.further) g.same ∙ append_assoc (sizes x.memory) g.further h.further;
    }

one_block : (b : NewBlock) (x : Around) → Grown x (with_block b x)
one_block b x =
    record {
      further = length (fresh_block b).cells ∷ [];
      same = map-append (λ (block : HeapBlock). length block.cells) x.memory.blocks (fresh_block b ∷ []);
    }

sizes_of_shapes : (bs : List HeapBlock) → map (λ (block : HeapBlock). length block.cells) bs ≡ map (λ (s : Shape). s.cells) (map shape_of bs)
sizes_of_shapes [] = refl
sizes_of_shapes (b ∷ bs) = ap (λ xs. length b.cells ∷ xs) (sizes_of_shapes bs)

same_shapes : (x y : Around) → map shape_of y.memory.blocks ≡ map shape_of x.memory.blocks → Grown x y
same_shapes x y e =
    record {
      further = [];
      same = sizes_of_shapes y.memory.blocks ∙ ap (map (λ (s : Shape). s.cells)) e ∙ sym (sizes_of_shapes x.memory.blocks)
          ∙ sym (append-nil (sizes x.memory));
    }

-- ---- straight code

-- it is stuck, or goes on where blocks have been added at most
pub data GoesOn (x : Around) (act : Act) : Type 0 where
  is_stuck : act ≡ Stuck → GoesOn x act
  goes_on : (vs : List Value) (after : Around) → act ≡ Goes vs On after → Grown x after → GoesOn x act

blocks_on : (blocks : List NewBlock) (so_far : List Value) (x : Around) → GoesOn x (new_blocks blocks so_far x)
blocks_on [] so_far x = goes_on so_far x refl (as_it_was x)
blocks_on (b ∷ blocks) so_far x = by (blocks_on blocks (so_far ++ value.Block (length x.memory.blocks) 0 ∷ []) (with_block b x))
  where
    by : {act : Act} → GoesOn (with_block b x) act → GoesOn x act
    by (is_stuck e) = is_stuck e
    by (goes_on vs after e g) = goes_on vs after e (grown_on (one_block b x) g)

only_on : (x : Around) (b : Bool) {act : Act} → GoesOn x act → GoesOn x (stuck_unless b act)
only_on x true g = g
only_on x false g = is_stuck refl

module _ (c : Setting) where
  steady_on : (g : MachOp) → is_straight g ≡ true →
      ((blocks : List NewBlock) → g ≡ mach.Op (op.Access (access.Alloc blocks)) → ⊥) → (vs : List Value) (x : Around) →
      GoesOn x (mach_act c g vs x)
  steady_on g st none vs x = by (all_steady c vs g st none [] x) refl
    where
      by : {a b : Act} → AllSteady [] x a b → mach_act c g vs x ≡ a → GoesOn x (mach_act c g vs x)
      by is_lost e = is_stuck e
      by (goes_ahead {vs = ws} {after = after} long shapes tries) e = goes_on ws after e (same_shapes x after shapes)

  no_alloc_pure : (f : _) (blocks : List NewBlock) → mach.Op (op.Pure f) ≡ mach.Op (op.Access (access.Alloc blocks)) → ⊥
  no_alloc_pure f blocks e = cc

  no_alloc_load : (k : _) (n : ℕ) (blocks : List NewBlock) →
      mach.Op (op.Access (access.Load k n)) ≡ mach.Op (op.Access (access.Alloc blocks)) → ⊥
  no_alloc_load k n blocks e = cc

  no_alloc_store : (k : _) (n : ℕ) (blocks : List NewBlock) →
      mach.Op (op.Access (access.Store k n)) ≡ mach.Op (op.Access (access.Alloc blocks)) → ⊥
  no_alloc_store k n blocks e = cc

  pub straight_on : (g : MachOp) → is_straight g ≡ true → (vs : List Value) (x : Around) → GoesOn x (mach_act c g vs x)
  straight_on (mach.Op (op.Pure f)) st vs x = steady_on (mach.Op (op.Pure f)) refl (no_alloc_pure f) vs x
  straight_on (mach.Op (op.Access (access.Load k n))) st vs x =
      steady_on (mach.Op (op.Access (access.Load k n))) refl (no_alloc_load k n) vs x
  straight_on (mach.Op (op.Access (access.Store k n))) st vs x =
      steady_on (mach.Op (op.Access (access.Store k n))) refl (no_alloc_store k n) vs x
  straight_on (mach.Op (op.Access (access.Alloc blocks))) st [] x = only_on x (is_complete x) (blocks_on blocks [] x)
  straight_on (mach.Op (op.Access (access.Alloc blocks))) st (v ∷ vs) x = is_stuck refl
  straight_on (mach.Op (op.Calling f)) st vs x = absurd (both_ways false refl st)
  straight_on (mach.Op (op.Leaving f)) st vs x = absurd (both_ways false refl st)
  straight_on (mach.Mark f) st vs x = absurd (both_ways false refl st)

  -- ---- operators

  -- an operator is stuck in the first, or gives one value there, and so in the second
  pub data Gives (x y : Around) : Act → Act → Type 0 where
    stuck_there : {act : Act} → Gives x y Stuck act
    gives_one : {v : Value} → Gives x y (Goes (v ∷ []) On x) (Goes (v ∷ []) On y)

  one_firm : (x y : Around) {r s : Result Value Kind} → Firm r s → Gives x y (one_result x r) (one_result y s)
  one_firm x y no_value = stuck_there
  one_firm x y a_value = gives_one

  apply_grown : (x y : Around) → Grown x y → (f : _) (a b : Value) →
      Gives x y (one_result x (apply f (sizes x.memory) a b)) (one_result y (apply f (sizes y.memory) a b))
  apply_grown x y g f a b =
      subst (λ ss. Gives x y (one_result x (apply f (sizes x.memory) a b)) (one_result y (apply f ss a b))) (sym g.same)
      (one_firm x y (apply_firm (sizes x.memory) g.further f a b))

  pub operator_grown : (g : MachOp) → is_operator g ≡ true → (vs : List Value) (x y : Around) → Grown x y →
      Gives x y (mach_act c g vs x) (mach_act c g vs y)
  operator_grown (mach.Op (op.Pure (pure.Operator f right.Register))) o [] x y g = stuck_there
  operator_grown (mach.Op (op.Pure (pure.Operator f right.Register))) o (a ∷ []) x y g = stuck_there
  operator_grown (mach.Op (op.Pure (pure.Operator f right.Register))) o (a ∷ b ∷ []) x y g = apply_grown x y g f a b
  operator_grown (mach.Op (op.Pure (pure.Operator f right.Register))) o (a ∷ b ∷ d ∷ vs) x y g = stuck_there
  operator_grown (mach.Op (op.Pure (pure.Operator f (right.Constant w)))) o [] x y g = stuck_there
  operator_grown (mach.Op (op.Pure (pure.Operator f (right.Constant w)))) o (a ∷ []) x y g =
      apply_grown x y g f a (value.Word w)
  operator_grown (mach.Op (op.Pure (pure.Operator f (right.Constant w)))) o (a ∷ b ∷ vs) x y g = stuck_there
  operator_grown (mach.Op (op.Pure (pure.Copy kind))) o vs x y g = absurd (both_ways false refl o)
  operator_grown (mach.Op (op.Pure (pure.Constant w))) o vs x y g = absurd (both_ways false refl o)
  operator_grown (mach.Op (op.Pure (pure.Symbol name))) o vs x y g = absurd (both_ways false refl o)
  operator_grown (mach.Op (op.Access f)) o vs x y g = absurd (both_ways false refl o)
  operator_grown (mach.Op (op.Calling f)) o vs x y g = absurd (both_ways false refl o)
  operator_grown (mach.Op (op.Leaving f)) o vs x y g = absurd (both_ways false refl o)
  operator_grown (mach.Mark f) o vs x y g = absurd (both_ways false refl o)

  stuck_goes : {A : Type 0} (ws : List Value) (t : _) (after : Around) → Stuck ≡ Goes ws t after → A
  stuck_goes {A} ws t after e = absurd (never e)
    where
      never : Stuck ≡ Goes ws t after → ⊥
      never e = cc

  -- what an operator gave it gives where blocks have been added
  pub gives_still : (g : MachOp) → is_operator g ≡ true → (vs : List Value) (v : Value) (x y : Around) → Grown x y →
      mach_act c g vs x ≡ Goes (v ∷ []) On x → mach_act c g vs y ≡ Goes (v ∷ []) On y
  gives_still g o vs v x y grown e = by (operator_grown g o vs x y grown) e refl
    where
      by : {a b : Act} → Gives x y a b → a ≡ Goes (v ∷ []) On x → mach_act c g vs y ≡ b → mach_act c g vs y ≡ Goes (v ∷ []) On y
      by stuck_there e h = stuck_goes (v ∷ []) On x e
      by (gives_one {v = u}) e h = h ∙ ap (λ z. Goes (z ∷ []) On y) (same u e)
        where
          same : (u : Value) → Goes (u ∷ []) On x ≡ Goes (v ∷ []) On x → u ≡ v
          same u e = cc

  pub record OneValue (x : Around) (ws : List Value) (after : Around) : Type 0 where
    pub value : Value
    pub is : ws ≡ value ∷ []
    pub same : after ≡ x

  -- an operator gives one value, and changes nothing round it
  pub gives_value : (g : MachOp) → is_operator g ≡ true → (vs ws : List Value) (x after : Around) →
      mach_act c g vs x ≡ Goes ws On after → OneValue x ws after
  gives_value g o vs ws x after e = by (operator_grown g o vs x x (as_it_was x)) e
    where
      by : {a b : Act} → Gives x x a b → a ≡ Goes ws On after → OneValue x ws after
      by stuck_there e = stuck_goes ws On after e
      by (gives_one {v = u}) e = record { value = u; is = one u e; same = there u e }
        where
          one : (u : Value) → Goes (u ∷ []) On x ≡ Goes ws On after → ws ≡ u ∷ []
          one u e = cc

          there : (u : Value) → Goes (u ∷ []) On x ≡ Goes ws On after → after ≡ x
          there u e = cc
