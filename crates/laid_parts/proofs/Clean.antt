-- Chunks of a part after which no register but sp holds an address of the stack.
use Rattle.std.proofs.Common.{◌≡◌, ℕ, ◌<◌, Bool, true, false, cond, nat_eq, nat_lt, ◌||◌, List, [], ◌∷◌, ◌++◌, refl, ap, ◌∙◌}
use Rattle.std.proofs.lemmas.Bool.{ltb-true}
use Rattle.rv_isa.specs.Registers.{register_number}
use Rattle.rv_isa.specs.declared.instr.AluOp.TheVariants as alu
use Rattle.rv_isa.specs.declared.instr.LoadWidth.{LoadWidth}
use Rattle.rv_isa.specs.declared.instr.LoadWidth.TheVariants as loads
use Rattle.rv_isa.specs.declared.instr.ShiftOp.TheVariants as shifts
use Rattle.rv_isa.specs.declared.instr.StoreWidth.{StoreWidth}
use Rattle.rv_isa.specs.declared.register.Register.{Register}
use Rattle.rv_isa.specs.declared.register.Register.TheVariants.{Zero, Sp, T1, T2}
use Rattle.rv_pieces.specs.declared.piece.Piece.{Piece}
use Rattle.rv_emit_rules.specs.Instructions.{addi, alu_operation, shift_piece, lui, addiw, load_piece, store_piece}
use Rattle.rv_emit_rules.specs.Constants.{constant_pieces}
use Rattle.rv_emit_rules.specs.Slots.{far_stack, stack_load}
use Rattle.rv_emit_rules.specs.Traversal.{EachPiece, each_none, each_more}
use Rattle.rv_emit_rules.specs.Values.{Makes, makes_first, makes_upper, makes_lower, makes_sum, makes_shift}
use Rattle.rv_emit_rules.proofs.Values.{constant_is_made}
use Rattle.linearise_rules.specs.Lowered.{is_among_numbers}
use Rattle.laid_parts.specs.Named.{piece_targets}
use Rattle.laid_parts.specs.Stack.{KnownWord, Unknown, Is, FromSp, RegisterForms, plus, form_difference, changed, load_address, store_address, piece_made, word_at, at_first}
use Rattle.laid_parts.proofs.Words.{Clear, later, joined, nothing, one_still, IsFree, is_unknown, is_constant, IsClean, IsScratch, is_t1, is_t2, is_sp, near_load, far_load}

-- ---- what is no address of the stack

pub free_names_none : {f : KnownWord} → IsFree f → (w : ℕ) → word_at f w ≡ []
free_names_none is_unknown w = refl
free_names_none is_constant w = refl

pub plus_free : {f g : KnownWord} → IsFree f → IsFree g → IsFree (plus f g)
plus_free is_unknown is_unknown = is_unknown
plus_free is_unknown is_constant = is_unknown
plus_free is_constant is_unknown = is_unknown
plus_free is_constant is_constant = is_constant

pub minus_free : {f g : KnownWord} → IsFree f → IsFree g → IsFree (form_difference f g)
minus_free is_unknown is_unknown = is_unknown
minus_free is_unknown is_constant = is_unknown
minus_free is_constant is_unknown = is_unknown
minus_free is_constant is_constant = is_constant

changed_free : (f : ℕ → ℕ) (g : KnownWord) → IsFree (changed f g)
changed_free f Unknown = is_unknown
changed_free f (Is w) = is_constant
changed_free f (FromSp w) = is_unknown

chosen_free : (b : Bool) {f g : KnownWord} → IsFree f → IsFree g → IsFree (cond b f g)
chosen_free true x y = x
chosen_free false x y = y

pub at_first_clean : IsClean at_first
at_first_clean = record { sp = refl; others = λ r e. by (nat_eq r 2) (nat_eq r 0) e }
  where
    by : (a b : Bool) → a ≡ false → IsFree (cond a (FromSp 0) (cond b (Is 0) Unknown))
    by true b e = absurd (cc)
    by false true e = is_constant
    by false false e = is_unknown

-- ---- single instructions

module _ (c : ℕ) where
  pub steady : (p : Piece) → ((h : RegisterForms) → IsClean h → load_address h p ≡ []) → ((h : RegisterForms) → IsClean h → store_address h p ≡ []) →
      ((h : RegisterForms) → IsClean h → IsFree (piece_made h p)) → is_among_numbers 2 (piece_targets p) ≡ false → Clear c (p ∷ []) false false
  steady p a b f t =
      one_still c p a b
      (λ h k. record {
        sp = ap (λ (z : Bool). cond z (piece_made h p) (h 2)) t ∙ k.sp;
        others = λ r e. chosen_free (nat_eq r 0) (k.others r e) (chosen_free (is_among_numbers r (piece_targets p)) (f h k) (k.others r e));
      })

  pub immediate-clear : (to from : Register) (w : ℕ) → is_sp to ≡ false → is_sp from ≡ false → Clear c (addi to from w ∷ []) false false
  immediate-clear to from w t e =
      steady (addi to from w) (λ h k. refl) (λ h k. refl) (λ h k. plus_free (k.others (register_number from) e) is_constant) (ap (λ (z : Bool). z || false) t)

  pub add-clear : (to a b : Register) → is_sp to ≡ false → is_sp a ≡ false → is_sp b ≡ false → Clear c (alu_operation alu.Add to a b ∷ []) false false
  add-clear to a b t e g =
      steady (alu_operation alu.Add to a b) (λ h k. refl) (λ h k. refl) (λ h k. plus_free (k.others (register_number a) e) (k.others (register_number b) g))
      (ap (λ (z : Bool). z || false) t)

  pub subtract-clear : (to a b : Register) → is_sp to ≡ false → is_sp a ≡ false → is_sp b ≡ false → Clear c (alu_operation alu.Sub to a b ∷ []) false false
  subtract-clear to a b t e g =
      steady (alu_operation alu.Sub to a b) (λ h k. refl) (λ h k. refl) (λ h k. minus_free (k.others (register_number a) e) (k.others (register_number b) g))
      (ap (λ (z : Bool). z || false) t)

  pub load-clear : (k : LoadWidth) (to base : Register) (w : ℕ) → is_sp to ≡ false → is_sp base ≡ false → Clear c (load_piece k to base w ∷ []) false false
  load-clear k to base w t e =
      steady (load_piece k to base w) (λ h y. free_names_none (y.others (register_number base) e) _) (λ h y. refl) (λ h y. is_unknown) (ap (λ (z : Bool). z || false) t)

  pub store-clear : (k : StoreWidth) (from base : Register) (w : ℕ) → is_sp base ≡ false → Clear c (store_piece k from base w ∷ []) false false
  store-clear k from base w e =
      steady (store_piece k from base w) (λ h y. refl) (λ h y. free_names_none (y.others (register_number base) e) _) (λ h y. is_unknown) refl

  -- ---- constants

  made-clear : (r : Register) {p : Piece} → is_sp r ≡ false → Makes r p → Clear c (p ∷ []) false false
  made-clear r e (makes_first w) = immediate-clear r Zero w e refl
  made-clear r e (makes_upper w) =
      steady (lui r w) (λ h k. refl) (λ h k. refl) (λ h k. is_constant) (ap (λ (z : Bool). z || false) e)
  made-clear r e (makes_lower w) =
      steady (addiw r r w) (λ h k. refl) (λ h k. refl) (λ h k. changed_free _ (h (register_number r))) (ap (λ (z : Bool). z || false) e)
  made-clear r e (makes_sum w) = immediate-clear r r w e e
  made-clear r e (makes_shift amount) =
      steady (shift_piece shifts.Slli r r amount) (λ h k. refl) (λ h k. refl) (λ h k. changed_free _ (h (register_number r))) (ap (λ (z : Bool). z || false) e)

  each-clear : (r : Register) {ps : List Piece} → is_sp r ≡ false → EachPiece (Makes r) ps → Clear c ps false false
  each-clear r e each_none = nothing c
  each-clear r e (each_more {p} {ps} made rest) = joined c {xs = p ∷ []} (made-clear r e made) (each-clear r e rest)

  pub constant-clear : (r : Register) (w : ℕ) → is_sp r ≡ false → Clear c (constant_pieces r w) false false
  constant-clear r w e = each-clear r e (constant_is_made r w)

  -- ---- slots

  -- the register through which the address went holds what was loaded
  loads_near : (z b : Bool) {f : KnownWord} → IsFree f → IsFree (cond z f (cond b Unknown f))
  loads_near true b x = x
  loads_near false true x = is_unknown
  loads_near false false x = x

  loads_far : (z b : Bool) {f : KnownWord} (g k : KnownWord) → IsFree f →
      IsFree (cond z (cond z (cond z f (cond b k f)) (cond b g (cond z f (cond b k f))))
      (cond b Unknown (cond z (cond z f (cond b k f)) (cond b g (cond z f (cond b k f))))))
  loads_far true b g k x = x
  loads_far false true g k x = is_unknown
  loads_far false false g k x = x

  pub stack_load-clear : (scratch : Register) (w : ℕ) → IsScratch scratch → w < 1073741824 → Clear c (stack_load scratch scratch w) (nat_eq w c) false
  unfolding later
  stack_load-clear scratch w s l = by scratch s (nat_lt w 2048) refl
    where
      by : (r : Register) → IsScratch r → (b : Bool) → nat_lt w 2048 ≡ b →
          Clear c (cond b (load_piece loads.Ld r Sp w ∷ []) (far_stack r w ++ load_piece loads.Ld r r w ∷ [])) (nat_eq w c) false
      by r is_t1 true e = record {
        each = λ h k. let a = (near_load c T1 w (ltb-true w 2048 e) refl).each h k.sp in
            record {
              loads = a.loads;
              stores = a.stores;
              left = record { sp = a.left; others = λ n g. loads_near (nat_eq n 0) (nat_eq 6 n || false) (k.others n g) };
            };
      }
      by r is_t2 true e = record {
        each = λ h k. let a = (near_load c T2 w (ltb-true w 2048 e) refl).each h k.sp in
            record {
              loads = a.loads;
              stores = a.stores;
              left = record { sp = a.left; others = λ n g. loads_near (nat_eq n 0) (nat_eq 7 n || false) (k.others n g) };
            };
      }
      by r is_t1 false e = record {
        each = λ h k. let a = (far_load c T1 T1 w is_t1 l refl).each h k.sp in
            record {
              loads = a.loads;
              stores = a.stores;
              left = record { sp = a.left; others = λ n g. loads_far (nat_eq n 0) (nat_eq 6 n || false) _ _ (k.others n g) };
            };
      }
      by r is_t2 false e = record {
        each = λ h k. let a = (far_load c T2 T2 w is_t2 l refl).each h k.sp in
            record {
              loads = a.loads;
              stores = a.stores;
              left = record { sp = a.left; others = λ n g. loads_far (nat_eq n 0) (nat_eq 7 n || false) _ _ (k.others n g) };
            };
      }
