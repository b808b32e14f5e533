-- Pieces that leave no return address.
use Rattle.std.proofs.Common.{◌≡◌, ℕ, ◌+◌, Bool, true, false, cond, nat_le, nat_lt, ◌||◌, List, [], ◌∷◌, ◌++◌, refl, ◌∙◌, ap}
use Rattle.std.proofs.lemmas.Bool.{or_parts}
use Rattle.bs_words.specs.declared.types.Loc.{Loc}
use Rattle.bs_words.specs.declared.types.Loc.TheVariants as loc
use Rattle.mach_ir.specs.Blocks.{total_block_bytes}
use Rattle.mach_ir.specs.declared.blocks.NewBlock.{NewBlock}
use Rattle.lin_ir.specs.declared.lin.Spot.{Spot}
use Rattle.rv_isa.specs.declared.register.Register.{Register}
use Rattle.rv_isa.specs.declared.register.Register.TheVariants.{T1, T2, S10}
use Rattle.rv_pieces.specs.declared.piece.Piece.{Piece}
use Rattle.rv_emit_rules.specs.Constants.{constant_pieces, sum_to, bytes_taken_off}
use Rattle.rv_emit_rules.specs.Memory.{addresses}
use Rattle.rv_emit_rules.specs.Slots.{stack_load, stack_store, slot_offset, fetch_pieces, target, keep_pieces}
use Rattle.rv_emit_rules.specs.Traversal.{EachPiece, each_none, each_more}
use Rattle.rv_emit_rules.specs.Values.{Makes, makes_first, makes_upper, makes_lower, makes_sum, makes_shift}
use Rattle.rv_emit_rules.proofs.Values.{constant_is_made}
use Rattle.laid_parts.specs.Laid.{comes_back, some_comes_back}

pub record GoOn (ps : List Piece) : Type 0 where
  pub none : some_comes_back ps ≡ false

pub goes_on : {ps : List Piece} → some_comes_back ps ≡ false → GoOn ps
goes_on e = record { none = e }

joined-none : (xs ys : List Piece) → some_comes_back xs ≡ false → some_comes_back ys ≡ false → some_comes_back (xs ++ ys) ≡ false
joined-none [] ys e g = g
joined-none (x ∷ xs) ys e g =
    let h = or_parts (comes_back x) (some_comes_back xs) e in
    ap (λ (z : Bool). z || some_comes_back (xs ++ ys)) h.0 ∙ joined-none xs ys h.1 g

pub all_on : {xs ys : List Piece} → GoOn xs → GoOn ys → GoOn (xs ++ ys)
all_on {xs} {ys} x y = goes_on (joined-none xs ys x.none y.none)

either_on : (b : Bool) {xs ys : List Piece} → GoOn xs → GoOn ys → GoOn (cond b xs ys)
either_on true x y = x
either_on false x y = y

made-none : (r : Register) {ps : List Piece} → EachPiece (Makes r) ps → some_comes_back ps ≡ false
made-none r each_none = refl
made-none r (each_more (makes_first w) rest) = made-none r rest
made-none r (each_more (makes_upper w) rest) = made-none r rest
made-none r (each_more (makes_lower w) rest) = made-none r rest
made-none r (each_more (makes_sum w) rest) = made-none r rest
made-none r (each_more (makes_shift amount) rest) = made-none r rest

pub constant_on : (r : Register) (w : ℕ) → GoOn (constant_pieces r w)
constant_on r w = goes_on (made-none r (constant_is_made r w))

stack_load-on : (scratch to : Register) (w : ℕ) → GoOn (stack_load scratch to w)
stack_load-on scratch to w = either_on (nat_lt w 2048) (goes_on refl) (goes_on refl)

stack_store-on : (scratch from : Register) (w : ℕ) → GoOn (stack_store scratch from w)
stack_store-on scratch from w = either_on (nat_lt w 2048) (goes_on refl) (goes_on refl)

pub fetched-on : (t : ℕ) (scratch : Register) (l : Loc) → GoOn (fetch_pieces t scratch l)
fetched-on t scratch (loc.Machine r) = goes_on refl
fetched-on t scratch (loc.Slot k) = stack_load-on scratch scratch (slot_offset t k)
fetched-on t scratch loc.Unset = goes_on refl

kept-on : (t : ℕ) (l : Loc) → GoOn (keep_pieces t l)
kept-on t (loc.Machine r) = goes_on refl
kept-on t (loc.Slot k) = stack_store-on T2 T1 (slot_offset t k)
kept-on t loc.Unset = goes_on refl

sum_to-on : (to from : Register) (n : ℕ) → GoOn (sum_to T1 to from n)
sum_to-on to from n = either_on (nat_lt n 2048) (goes_on refl) (all_on (constant_on T1 n) (goes_on refl))

pub lowered-on : (n : ℕ) → GoOn (bytes_taken_off T1 S10 n)
lowered-on n = either_on (nat_le n 2048) (goes_on refl) (all_on (constant_on T1 n) (goes_on refl))

pub addresses-on : (t : ℕ) (blocks : List NewBlock) (results : List Spot) → GoOn (addresses t blocks results)
addresses-on t [] [] = goes_on refl
addresses-on t [] (s ∷ ss) = goes_on refl
addresses-on t (n ∷ ns) [] = goes_on refl
addresses-on t (n ∷ ns) (s ∷ ss) =
    all_on (all_on (addresses-on t ns ss) (sum_to-on (target s.loc) S10 (total_block_bytes ns + 8))) (kept-on t s.loc)
