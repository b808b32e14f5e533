-- The opposite of a test holds where the test fails, and fails where it holds; it has the same operands.
use Rattle.std.proofs.Common.{◌≡◌, ℕ, suc, ◌≤◌, ◌<◌, Bool, true, false, not, ⊎_elim, List, [], ◌∷◌, Option, Some, None, Result, Ok, Err, ℤ, pos, negsuc, int_lt, int_le, nat_lt, nat_le, leb, refl, sym, ap, ◌∙◌, arith}
use Rattle.std.proofs.lemmas.Bool.Decides.{leb_tells}
use Rattle.std.proofs.Math.Bool.{not-not}
use Rattle.bs_words.specs.Memory.{sizes}
use Rattle.bs_words.specs.Operators.{truth, signed_holds, unsigned_holds, equality_of, order_of, as_value, comparison_of}
use Rattle.bs_words.specs.Operators as operators
use Rattle.bs_words.specs.Word.{signed_of}
use Rattle.bs_words.specs.declared.operators.CmpOp.{CmpOp}
use Rattle.bs_words.specs.declared.operators.CmpOp.TheVariants as compare
use Rattle.bs_words.specs.declared.operators.IntOp.TheVariants as operator
use Rattle.bs_words.specs.declared.types.Comp.{Comp}
use Rattle.bs_words.specs.declared.values.Kind.{Kind}
use Rattle.bs_words.specs.declared.values.Kind.TheVariants as kind
use Rattle.bs_words.specs.declared.values.Value.{Value}
use Rattle.bs_words.specs.declared.values.Value.TheVariants as value
use Rattle.mach_ir.specs.Acts.{Around, Target, opposite, as_condition, truth_of, goes_by_test}
use Rattle.mach_ir.specs.Forms as forms
use Rattle.mach_ir.specs.Forms.{IsRight, IsTested}
use Rattle.mach_ir.specs.declared.op.Right.{Right}
use Rattle.mach_ir.specs.declared.op.Right.TheVariants as right
use Rattle.mach_ir.specs.declared.mach.Test.{Test}
use Rattle.mach_ir.specs.declared.mach.Test.TheVariants as test
use Rattle.linearise_rules.specs.Lowered.{opposite_compare, opposite_test}

not_lt : (x y : ℕ) → nat_le y x ≡ not (nat_lt x y)
not_lt x y = ⊎_elim (λ a. ⊎_elim (λ b. both a b) (λ b. a.0 ∙ ap not (sym b.0)) (leb_tells (suc x) y))
    (λ a. ⊎_elim (λ b. a.0 ∙ ap not (sym b.0)) (λ b. neither a b) (leb_tells (suc x) y)) (leb_tells y x)
  where
    both : ((leb y x ≡ true) × (y ≤ x)) → ((leb (suc x) y ≡ true) × (suc x ≤ y)) → nat_le y x ≡ not (nat_lt x y)
    both a b = let u = a.1 in let v = b.1 in absurd (omega (arith, u, v))

    neither : ((leb y x ≡ false) × (x < y)) → ((leb (suc x) y ≡ false) × (y < suc x)) → nat_le y x ≡ not (nat_lt x y)
    neither a b = let u = a.1 in let v = b.1 in absurd (omega (arith, u, v))

lt_by : (x y : ℕ) → nat_lt x y ≡ not (nat_le y x)
lt_by x y = sym (not-not (nat_lt x y)) ∙ ap not (sym (not_lt x y))

not_lt_z : (x y : ℤ) → int_le y x ≡ not (int_lt x y)
not_lt_z (pos a) (pos b) = not_lt a b
not_lt_z (pos a) (negsuc b) = refl
not_lt_z (negsuc a) (pos b) = refl
not_lt_z (negsuc a) (negsuc b) = not_lt b a

lt_z_by : (x y : ℤ) → int_lt x y ≡ not (int_le y x)
lt_z_by x y = sym (not-not (int_lt x y)) ∙ ap not (sym (not_lt_z x y))

signed_opposite : (f : CmpOp) (a b : ℕ) → signed_holds (opposite_compare f) a b ≡ not (signed_holds f a b)
signed_opposite compare.Eq a b = refl
signed_opposite compare.Ne a b = sym (not-not _)
signed_opposite compare.Lt a b = not_lt_z (signed_of a) (signed_of b)
signed_opposite compare.Le a b = lt_z_by (signed_of b) (signed_of a)
signed_opposite compare.Gt a b = not_lt_z (signed_of b) (signed_of a)
signed_opposite compare.Ge a b = lt_z_by (signed_of a) (signed_of b)

unsigned_opposite : (f : CmpOp) (a b : ℕ) → unsigned_holds (opposite_compare f) a b ≡ not (unsigned_holds f a b)
unsigned_opposite compare.Eq a b = refl
unsigned_opposite compare.Ne a b = sym (not-not _)
unsigned_opposite compare.Lt a b = not_lt a b
unsigned_opposite compare.Le a b = lt_by b a
unsigned_opposite compare.Gt a b = not_lt b a
unsigned_opposite compare.Ge a b = lt_by a b

-- what a comparison says of a truth
known : (sizes : List ℕ) (b : Bool) → as_condition sizes (Ok (truth b)) ≡ Some b
known sizes true = refl
known sizes false = refl

known_not : (sizes : List ℕ) (b d : Bool) → d ≡ not b → as_condition sizes (Ok (truth d)) ≡ opposite (as_condition sizes (Ok (truth b)))
known_not sizes b d e = known sizes d ∙ ap Some e ∙ ap opposite (sym (known sizes b))

only_opposite : (ns : List ℕ) (t : Bool) (b d : Bool) → d ≡ not b →
    as_condition ns (operators.only_if t kind.PointerOrder (truth d)) ≡ opposite (as_condition ns (operators.only_if t kind.PointerOrder (truth b)))
only_opposite ns true b d e = known_not ns b d e
only_opposite ns false b d e = refl

equal_opposite : (ns : List ℕ) (r : Result Bool Kind) → as_condition ns (as_value not r) ≡ opposite (as_condition ns (as_value (λ e. e) r))
equal_opposite ns (Ok b) = known_not ns b (not b) refl
equal_opposite ns (Err k) = refl

unequal_opposite : (ns : List ℕ) (r : Result Bool Kind) → as_condition ns (as_value (λ e. e) r) ≡ opposite (as_condition ns (as_value not r))
unequal_opposite ns (Ok b) = known_not ns (not b) b (sym (not-not b))
unequal_opposite ns (Err k) = refl

module _ (holds : CmpOp → ℕ → ℕ → Bool) (ns : List ℕ) where
  order_opposite : (f g : CmpOp) → ((a b : ℕ) → holds g a b ≡ not (holds f a b)) → ((a b : ℕ) → signed_holds g a b ≡ not (signed_holds f a b)) → (x y : Value) →
      as_condition ns (order_of holds g ns x y) ≡ opposite (as_condition ns (order_of holds f ns x y))
  order_opposite f g h s (value.Word a) (value.Word b) = known_not ns (holds f a b) (holds g a b) (h a b)
  order_opposite f g h s (value.Block a m) (value.Block b n) = only_opposite ns _ (signed_holds f m n) (signed_holds g m n) (s m n)
  order_opposite f g h s (value.Word a) (value.Block b n) = refl
  order_opposite f g h s (value.Word a) (value.Function b) = refl
  order_opposite f g h s (value.Block a m) (value.Word b) = refl
  order_opposite f g h s (value.Block a m) (value.Function b) = refl
  order_opposite f g h s (value.Function a) y = refl

  compare_opposite : ((f : CmpOp) (a b : ℕ) → holds (opposite_compare f) a b ≡ not (holds f a b)) → (f : CmpOp) (x y : Value) →
      as_condition ns (comparison_of holds (opposite_compare f) ns x y) ≡ opposite (as_condition ns (comparison_of holds f ns x y))
  compare_opposite h compare.Eq x y = equal_opposite ns (equality_of ns x y)
  compare_opposite h compare.Ne x y = unequal_opposite ns (equality_of ns x y)
  compare_opposite h compare.Lt x y = order_opposite compare.Lt compare.Ge (h compare.Lt) (signed_opposite compare.Lt) x y
  compare_opposite h compare.Le x y = order_opposite compare.Le compare.Gt (h compare.Le) (signed_opposite compare.Le) x y
  compare_opposite h compare.Gt x y = order_opposite compare.Gt compare.Le (h compare.Gt) (signed_opposite compare.Gt) x y
  compare_opposite h compare.Ge x y = order_opposite compare.Ge compare.Lt (h compare.Ge) (signed_opposite compare.Ge) x y

twice : (o : Option Bool) → o ≡ opposite (opposite o)
twice (Some true) = refl
twice (Some false) = refl
twice None = refl

pub truth_opposite : (ns : List ℕ) (t : Test) (vs : List Value) → truth_of ns (opposite_test t) vs ≡ opposite (truth_of ns t vs)
truth_opposite ns test.Holds [] = refl
truth_opposite ns test.Holds (v ∷ []) = refl
truth_opposite ns test.Holds (v ∷ w ∷ vs) = refl
truth_opposite ns test.Fails [] = refl
truth_opposite ns test.Fails (v ∷ []) = twice _
truth_opposite ns test.Fails (v ∷ w ∷ vs) = refl
truth_opposite ns (test.Signed f right.Register) [] = refl
truth_opposite ns (test.Signed f right.Register) (x ∷ []) = refl
truth_opposite ns (test.Signed f right.Register) (x ∷ y ∷ []) = compare_opposite signed_holds ns signed_opposite f x y
truth_opposite ns (test.Signed f right.Register) (x ∷ y ∷ z ∷ vs) = refl
truth_opposite ns (test.Signed f (right.Constant w)) [] = refl
truth_opposite ns (test.Signed f (right.Constant w)) (x ∷ []) = compare_opposite signed_holds ns signed_opposite f x (value.Word w)
truth_opposite ns (test.Signed f (right.Constant w)) (x ∷ y ∷ vs) = refl
truth_opposite ns (test.Unsigned f right.Register) [] = refl
truth_opposite ns (test.Unsigned f right.Register) (x ∷ []) = refl
truth_opposite ns (test.Unsigned f right.Register) (x ∷ y ∷ []) = compare_opposite unsigned_holds ns unsigned_opposite f x y
truth_opposite ns (test.Unsigned f right.Register) (x ∷ y ∷ z ∷ vs) = refl
truth_opposite ns (test.Unsigned f (right.Constant w)) [] = refl
truth_opposite ns (test.Unsigned f (right.Constant w)) (x ∷ []) = compare_opposite unsigned_holds ns unsigned_opposite f x (value.Word w)
truth_opposite ns (test.Unsigned f (right.Constant w)) (x ∷ y ∷ vs) = refl

-- a branch on the opposite test goes where the test says
pub branch_opposite : (a : Around) (holds fails : Target) (o : Option Bool) → goes_by_test a fails holds (opposite o) ≡ goes_by_test a holds fails o
branch_opposite a holds fails (Some true) = refl
branch_opposite a holds fails (Some false) = refl
branch_opposite a holds fails None = refl

-- ---- its form

signed_right : {f g : CmpOp} {r : Right} {rest : List Comp} → IsRight (operator.Cmp f) r rest → IsRight (operator.Cmp g) r rest
signed_right forms.a_register = forms.a_register
signed_right (forms.a_constant e) = forms.a_constant e

unsigned_right : {f g : CmpOp} {r : Right} {rest : List Comp} → IsRight (operator.CmpU f) r rest → IsRight (operator.CmpU g) r rest
unsigned_right forms.a_register = forms.a_register
unsigned_right (forms.a_constant e) = forms.a_constant e

pub tested_opposite : {t : Test} {args : List Comp} → IsTested t args → IsTested (opposite_test t) args
tested_opposite forms.holds = forms.fails
tested_opposite forms.fails = forms.holds
tested_opposite (forms.signed r) = forms.signed (signed_right r)
tested_opposite (forms.unsigned r) = forms.unsigned (unsigned_right r)
