-- The registers that chunks of a part name, but for the reserved ones.
use Rattle.std.proofs.Common.{◌≡◌, ℕ, zero, suc, ◌+◌, ◌-◌, ◌%◌, Bool, true, false, cond, nat_eq, nat_lt, nat_le, not, ◌||◌, ◌&&◌, List, [], ◌∷◌, ◌++◌, refl, ◌∙◌, ap}
use Rattle.std.proofs.lemmas.Bool.{or_parts}
use Rattle.std.proofs.Math.Bool.{and-false, or-false, or_self}
use Rattle.bs_words.specs.declared.types.Loc.{Loc}
use Rattle.bs_words.specs.declared.types.Loc.TheVariants as loc
use Rattle.mach_ir.specs.Forms.{is_immediate_12}
use Rattle.rv_isa.specs.Registers.{register_number}
use Rattle.rv_isa.specs.declared.instr.AluImmOp.{AluImmOp}
use Rattle.rv_isa.specs.declared.instr.AluOp.{AluOp}
use Rattle.rv_isa.specs.declared.instr.AluOp.TheVariants as alu
use Rattle.rv_isa.specs.declared.instr.LoadWidth.{LoadWidth}
use Rattle.rv_isa.specs.declared.instr.LoadWidth.TheVariants as loads
use Rattle.rv_isa.specs.declared.instr.ShiftOp.{ShiftOp}
use Rattle.rv_isa.specs.declared.instr.ShiftOp.TheVariants as shifts
use Rattle.rv_isa.specs.declared.instr.StoreWidth.{StoreWidth}
use Rattle.rv_isa.specs.declared.instr.StoreWidth.TheVariants as stores
use Rattle.rv_isa.specs.declared.register.Register.{Register}
use Rattle.rv_isa.specs.declared.register.Register.TheVariants.{Zero, Ra, Sp, T0, T1, T2, S1, S10, S11}
use Rattle.rv_pieces.specs.declared.piece.Piece.{Piece}
use Rattle.rv_emit_rules.specs.Instructions.{low_12, with_immediate, addi, alu_operation, shift_piece, lui, addiw, load_piece, store_piece}
use Rattle.rv_emit_rules.specs.Constants.{is_word_32, above_12, constant_32, upper_constant, shifted, constant_shifted, constant_pieces, sum_to, bytes_taken_off}
use Rattle.rv_emit_rules.specs.Slots.{far_stack, stack_load, stack_store, slot_offset, fetch_pieces, keep_pieces}
use Rattle.linearise_rules.specs.Lowered.{is_among_numbers}
use Rattle.laid_parts.specs.Named.{piece_sources, piece_targets, is_source, is_target}
use Rattle.laid_parts.specs.Laid.{is_reserved}

-- ---- truth values

pub not_both : (b : Bool) → (not b && b) ≡ false
not_both true = refl
not_both false = refl

pub or_turned : (a b : Bool) → (a || b) ≡ (b || a)
or_turned true true = refl
or_turned true false = refl
or_turned false true = refl
or_turned false false = refl

pub regroup : (a t s u y : Bool) → (a || (not t && (s || (not u && y)))) ≡ ((a || (not t && s)) || (not (t || u) && y))
regroup true t s u y = refl
regroup false true s u y = refl
regroup false false s u y = refl

pub or_grouped : (a b c : Bool) → (a || (b || c)) ≡ ((a || b) || c)
or_grouped true b c = refl
or_grouped false b c = refl

-- ---- what pieces name

pub record Names (n : ℕ) (ps : List Piece) (R S : Bool) : Type 0 where
  pub reads : is_source n ps ≡ R
  pub sets : is_target n ps ≡ S

pub same : {n : ℕ} {ps : List Piece} {R S Q T : Bool} → Names n ps R S → R ≡ Q → S ≡ T → Names n ps Q T
same x e f = record { reads = x.reads ∙ e; sets = x.sets ∙ f }

source-append : (n : ℕ) (xs ys : List Piece) → is_source n (xs ++ ys) ≡ (is_source n xs || (not (is_target n xs) && is_source n ys))
source-append n [] ys = refl
source-append n (p ∷ xs) ys =
    ap (λ (z : Bool). is_among_numbers n (piece_sources p) || (not (is_among_numbers n (piece_targets p)) && z)) (source-append n xs ys)
    ∙ regroup (is_among_numbers n (piece_sources p)) (is_among_numbers n (piece_targets p)) (is_source n xs) (is_target n xs) (is_source n ys)

target-append : (n : ℕ) (xs ys : List Piece) → is_target n (xs ++ ys) ≡ (is_target n xs || is_target n ys)
target-append n [] ys = refl
target-append n (p ∷ xs) ys =
    ap (λ (z : Bool). is_among_numbers n (piece_targets p) || z) (target-append n xs ys)
    ∙ or_grouped (is_among_numbers n (piece_targets p)) (is_target n xs) (is_target n ys)

pub joined : {n : ℕ} {xs ys : List Piece} {R S Q T : Bool} → Names n xs R S → Names n ys Q T → Names n (xs ++ ys) (R || (not S && Q)) (S || T)
joined {n} {xs} {ys} {R} {S} {Q} {T} x y = record {
  reads = source-append n xs ys
      ∙ (ap (λ (z : Bool). z || (not (is_target n xs) && is_source n ys)) x.reads
      ∙ (ap (λ (z : Bool). R || (not z && is_source n ys)) x.sets ∙ ap (λ (z : Bool). R || (not S && z)) y.reads));
  sets = target-append n xs ys ∙ (ap (λ (z : Bool). z || is_target n ys) x.sets ∙ ap (λ (z : Bool). S || z) y.sets);
}

-- what is last and names none
pub then_none : {n : ℕ} {xs ys : List Piece} {R S : Bool} → Names n xs R S → Names n ys false false → Names n (xs ++ ys) R S
then_none {n} {xs} {ys} {R} {S} x y = same (joined x y) (ap (λ (z : Bool). R || z) (and-false (not S)) ∙ or-false R) (or-false S)

pub either : {n : ℕ} (b : Bool) {xs ys : List Piece} {R S : Bool} → Names n xs R S → Names n ys R S → Names n (cond b xs ys) R S
either true x y = x
either false x y = y

pub nothing : {n : ℕ} → Names n [] false false
nothing = record { reads = refl; sets = refl }

pub alone : (n : ℕ) (p : Piece) → Names n (p ∷ []) (is_among_numbers n (piece_sources p)) (is_among_numbers n (piece_targets p))
alone n p = record {
  reads = ap (λ (z : Bool). is_among_numbers n (piece_sources p) || z) (and-false (not (is_among_numbers n (piece_targets p)))) ∙ or-false (is_among_numbers n (piece_sources p));
  sets = or-false (is_among_numbers n (piece_targets p));
}

-- the register has this number
abbrev pub hits : ℕ → Register → Bool
hits n r = nat_eq (register_number r) n

pub record IsApart (n : ℕ) : Type 0 where
  pub zero : hits n Zero ≡ false
  pub ra : hits n Ra ≡ false
  pub sp : hits n Sp ≡ false
  pub t0 : hits n T0 ≡ false
  pub t1 : hits n T1 ≡ false
  pub t2 : hits n T2 ≡ false
  pub s1 : hits n S1 ≡ false
  pub s10 : hits n S10 ≡ false
  pub s11 : hits n S11 ≡ false

pub is-apart : (n : ℕ) → is_reserved n ≡ false → IsApart n
is-apart n e =
    let p0 = or_parts _ _ e in
    let p1 = or_parts _ _ p0.1 in
    let p2 = or_parts _ _ p1.1 in
    let p3 = or_parts _ _ p2.1 in
    let p4 = or_parts _ _ p3.1 in
    let p5 = or_parts _ _ p4.1 in
    let p6 = or_parts _ _ p5.1 in
    let p7 = or_parts _ _ p6.1 in
    let p8 = or_parts _ _ p7.1 in
    record { zero = p0.0; ra = p1.0; sp = p2.0; t0 = p3.0; t1 = p4.0; t2 = p5.0; s1 = p6.0; s10 = p7.0; s11 = p8.0 }

module _ (n : ℕ) (apart : IsApart n) where
  -- ---- single instructions

  pub with_immediate-names : (f : AluImmOp) (to from : Register) (w : ℕ) → Names n (with_immediate f to from w ∷ []) (hits n from) (hits n to)
  with_immediate-names f to from w = same (alone n (with_immediate f to from w)) (or-false (hits n from)) (or-false (hits n to))

  pub addi-names : (to from : Register) (w : ℕ) → Names n (addi to from w ∷ []) (hits n from) (hits n to)
  addi-names to from w = same (alone n (addi to from w)) (or-false (hits n from)) (or-false (hits n to))

  pub operation-names : (f : AluOp) (to a b : Register) → Names n (alu_operation f to a b ∷ []) (hits n a || hits n b) (hits n to)
  operation-names f to a b =
      same (alone n (alu_operation f to a b)) (ap (λ (z : Bool). hits n a || z) (or-false (hits n b))) (or-false (hits n to))

  pub shift-names : (f : ShiftOp) (to from : Register) (amount : ℕ) → Names n (shift_piece f to from amount ∷ []) (hits n from) (hits n to)
  shift-names f to from amount = same (alone n (shift_piece f to from amount)) (or-false (hits n from)) (or-false (hits n to))

  pub lui-names : (to : Register) (w : ℕ) → Names n (lui to w ∷ []) false (hits n to)
  lui-names to w = same (alone n (lui to w)) refl (or-false (hits n to))

  pub addiw-names : (to from : Register) (w : ℕ) → Names n (addiw to from w ∷ []) (hits n from) (hits n to)
  addiw-names to from w = same (alone n (addiw to from w)) (or-false (hits n from)) (or-false (hits n to))

  pub load-names : (k : LoadWidth) (to address : Register) (w : ℕ) → Names n (load_piece k to address w ∷ []) (hits n address) (hits n to)
  load-names k to address w = same (alone n (load_piece k to address w)) (or-false (hits n address)) (or-false (hits n to))

  pub store-names : (k : StoreWidth) (from address : Register) (w : ℕ) → Names n (store_piece k from address w ∷ []) (hits n address || hits n from) false
  store-names k from address w = same (alone n (store_piece k from address w)) (ap (λ (z : Bool). hits n address || z) (or-false (hits n from))) refl

  -- ---- constants

  -- what changes a register that was set before
  pub over : {xs ys : List Piece} (r : Register) → Names n xs false (hits n r) → Names n ys (hits n r) (hits n r) → Names n (xs ++ ys) false (hits n r)
  over r x y = same (joined x y) (not_both (hits n r)) (or_self (hits n r))

  over_if : (b : Bool) {xs ys : List Piece} (r : Register) → Names n xs false (hits n r) → Names n ys (hits n r) (hits n r) →
      Names n (xs ++ cond b [] ys) false (hits n r)
  over_if true r x y = then_none x nothing
  over_if false r x y = over r x y

  constant_32-names : (r : Register) (w : ℕ) → Names n (constant_32 r w) false (hits n r)
  constant_32-names r w =
      either (is_immediate_12 w) (same (addi-names r Zero w) apart.zero refl)
      (over_if (nat_eq (low_12 w) 0) {xs = lui r (above_12 w) ∷ []} r (lui-names r (above_12 w)) (addiw-names r r w))

  shifted-names : {xs : List Piece} (r : Register) (amount : ℕ) → Names n xs false (hits n r) → Names n (xs ++ shifted r amount) false (hits n r)
  shifted-names r zero x = then_none x nothing
  shifted-names r (suc k) x = over r x (shift-names shifts.Slli r r (suc k))

  both : {xs ys : List Piece} (r : Register) → Names n xs (hits n r) (hits n r) → Names n ys (hits n r) (hits n r) →
      Names n (xs ++ ys) (hits n r) (hits n r)
  both r x y = same (joined x y) (ap (λ (z : Bool). hits n r || z) (not_both (hits n r)) ∙ or-false (hits n r)) (or_self (hits n r))

  sum_shifted-names : (r : Register) (w amount : ℕ) → Names n (addi r r w ∷ shifted r amount) (hits n r) (hits n r)
  sum_shifted-names r w zero = addi-names r r w
  sum_shifted-names r w (suc k) = both {xs = addi r r w ∷ []} r (addi-names r r w) (shift-names shifts.Slli r r (suc k))

  constant_shifted-names : (k : ℕ) (r : Register) (w amount : ℕ) → Names n (constant_shifted k r w amount) false (hits n r)
  constant_shifted-names zero r w amount = shifted-names r amount (constant_32-names r w)
  constant_shifted-names (suc k) r w amount =
      either (is_word_32 w) (shifted-names r amount (constant_32-names r w))
      (either (nat_eq (low_12 w) 0) (constant_shifted-names k r (upper_constant w) (amount + 12))
      (over r (constant_shifted-names k r (upper_constant w) 12) (sum_shifted-names r w amount)))

  pub constant-names : (r : Register) (w : ℕ) → Names n (constant_pieces r w) false (hits n r)
  unfolding constant_pieces
  constant-names r w = constant_shifted-names 3 r w 0

  -- into a reserved register
  pub constant-none : (r : Register) (w : ℕ) → hits n r ≡ false → Names n (constant_pieces r w) false false
  constant-none r w e = same (constant-names r w) refl e

  pub last_none : (a b : Bool) → b ≡ false → (a || b) ≡ a
  last_none a b e = ap (λ (z : Bool). a || z) e ∙ or-false a

  pub first_none : (a b : Bool) → a ≡ false → (a || b) ≡ b
  first_none a b e = ap (λ (z : Bool). z || b) e

  pub sum_to-names : (scratch to from : Register) (w : ℕ) → hits n scratch ≡ false → Names n (sum_to scratch to from w) (hits n from) (hits n to)
  sum_to-names scratch to from w e =
      either (nat_lt w 2048) (addi-names to from w)
      (joined (constant-none scratch w e) (same (operation-names alu.Add to from scratch) (last_none (hits n from) (hits n scratch) e) refl))

  pub lowered-names : (scratch r : Register) (w : ℕ) → hits n scratch ≡ false → Names n (bytes_taken_off scratch r w) (hits n r) (hits n r)
  lowered-names scratch r w e =
      either (nat_le w 2048) (addi-names r r (4096 - w % 4096))
      (joined (constant-none scratch w e) (same (operation-names alu.Sub r r scratch) (last_none (hits n r) (hits n scratch) e) refl))

  -- ---- slots

  far_stack-names : (scratch : Register) (w : ℕ) → hits n scratch ≡ false → Names n (far_stack scratch w) false false
  far_stack-names scratch w e =
      joined {xs = lui scratch (above_12 w) ∷ []} (same (lui-names scratch (above_12 w)) refl e)
      (same (operation-names alu.Add scratch scratch Sp) (last_none (hits n scratch) (hits n Sp) apart.sp ∙ e) e)

  pub stack_load-names : (scratch to : Register) (w : ℕ) → hits n scratch ≡ false → Names n (stack_load scratch to w) false (hits n to)
  stack_load-names scratch to w e =
      either (nat_lt w 2048) (same (load-names loads.Ld to Sp w) apart.sp refl)
      (joined (far_stack-names scratch w e) (same (load-names loads.Ld to scratch w) e refl))

  pub stack_store-names : (scratch from : Register) (w : ℕ) → hits n scratch ≡ false → Names n (stack_store scratch from w) (hits n from) false
  stack_store-names scratch from w e =
      either (nat_lt w 2048) (same (store-names stores.Sd from Sp w) (first_none (hits n Sp) (hits n from) apart.sp) refl)
      (joined (far_stack-names scratch w e) (same (store-names stores.Sd from scratch w) (first_none (hits n scratch) (hits n from) e) refl))

  pub fetched-names : (t : ℕ) (scratch : Register) (l : Loc) → hits n scratch ≡ false → Names n (fetch_pieces t scratch l) false false
  fetched-names t scratch (loc.Machine r) e = nothing
  fetched-names t scratch (loc.Slot k) e = same (stack_load-names scratch scratch (slot_offset t k) e) refl e
  fetched-names t scratch loc.Unset e = nothing

  pub kept-names : (t : ℕ) (l : Loc) → Names n (keep_pieces t l) false false
  kept-names t (loc.Machine r) = nothing
  kept-names t (loc.Slot k) = same (stack_store-names T2 T1 (slot_offset t k) apart.t2) apart.t1 refl
  kept-names t loc.Unset = nothing
