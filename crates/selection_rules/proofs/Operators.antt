-- The code of an operator whose operands are in place: one instruction, or the shifts of a division by a power of two.
use Rattle.std.proofs.Common.{◌≡◌, ℕ, zero, suc, ◌-◌, ◌^◌, ◌<◌, ◌≤◌, Bool, true, false, cond, List, [], ◌∷◌, Some, Result, Ok, Err, refl, sym, ap, ◌∙◌, subst, arith}
use Rattle.std.specs.Prelude.{nat_lt}
use Rattle.std.proofs.lemmas.Bool.{ltb-true}
use Rattle.std.proofs.Math.Pow.{pow_pos}
use Rattle.bs_words.specs.Fits.{fits, type_of_comp}
use Rattle.bs_words.specs.Memory.{sizes}
use Rattle.bs_words.specs.Operators.{apply, on_words, quotient_of, shift_of}
use Rattle.bs_words.specs.Word.{div_word, rem_word, shl_word, shr_word, sar_word}
use Rattle.bs_words.specs.declared.operators.IntOp.{IntOp}
use Rattle.bs_words.specs.declared.operators.IntOp.TheVariants as operators
use Rattle.bs_words.specs.declared.types.Comp.{Comp}
use Rattle.bs_words.specs.declared.types.Comp.TheVariants as comp
use Rattle.bs_words.specs.declared.values.Kind.{Kind}
use Rattle.bs_words.specs.declared.values.Kind.TheVariants.{PointerArithmetic, ShiftRange}
use Rattle.bs_words.specs.declared.values.Value.{Value}
use Rattle.bs_words.specs.declared.values.Value.TheVariants.{Word, Block, Function}
use Rattle.meaning_laws.specs.Does.{Does}
use Rattle.mach_ir.specs.declared.reg.Reg.{Reg}
use Rattle.mach_ir.specs.declared.mach.Instr.{Instr}
use Rattle.mach_ir.specs.declared.mach.Mach.{Mach}
use Rattle.mach_ir.specs.declared.op.Pure.TheVariants as pure
use Rattle.mach_ir.specs.declared.op.Right.{Right}
use Rattle.mach_ir.specs.declared.op.Right.TheVariants as right
use Rattle.mach_ir.specs.Acts.{Around, pure_act, one_result}
use Rattle.mach_ir.specs.Runs.{ActivationSetting, Step, Continues, IsStuck}
use Rattle.mach_ir.specs.Meaning.{State, File, values, on_act, wrote, assign_register, put_if}
use Rattle.selection_rules.specs.Bounded.{BoundedState}
use Rattle.selection_rules.specs.Kept.{on_lossless_values, lossless_step}
use Rattle.selection_rules.specs.Select.{OperandShape, operator_code, power_code, rounded}
use Rattle.selection_rules.specs.Follow.{FollowsText, walks, no_words}
use Rattle.selection_rules.specs.Instructions as emit
use Rattle.selection_rules.proofs.Files.{Holds, put_same, holds_put}
use Rattle.selection_rules.proofs.Commuting.{not_far}
use Rattle.selection_rules.proofs.Powers.{rounding, quotient, remainder}
use Rattle.selection_rules.proofs.Shapes.{IsDivision, is_div, is_mod, Operands, both_stand, left_stands, right_stands, a_power, one_value, two_values}

-- ---- what the operators give

shift_is : (f : ℕ → ℕ → ℕ) (a k : ℕ) → k < 64 → shift_of f (Word a) (Word k) ≡ Ok (Word (f a k))
shift_is f a k less = ap (λ b. cond b (Err ShiftRange) (on_words f (Word a) (Word k))) (not_far k less)

-- a divisor that is not 0
quotient_some : (f : ℕ → ℕ → ℕ) (v : Value) (w : ℕ) → 0 < w → quotient_of f v (Word w) ≡ on_words f v (Word w)
quotient_some f v zero some = absurd (omega (arith, some))
quotient_some f (Word a) (suc w) some = refl
quotient_some f (Block s o) (suc w) some = refl
quotient_some f (Function g) (suc w) some = refl

-- what a division gives by a power of two
abbrev division : {op : IntOp} → IsDivision op → ℕ → ℕ → ℕ
division is_div = div_word
division is_mod = rem_word

divides : {op : IntOp} (d : IsDivision op) (s : List ℕ) (v : Value) (k w : ℕ) → 2 ^ k ≡ w → apply op s v (Word w) ≡ on_words (division d) v (Word w)
divides is_div s v k w e = quotient_some div_word v w (subst (λ n. 0 < n) e (pow_pos k))
divides is_mod s v k w e = quotient_some rem_word v w (subst (λ n. 0 < n) e (pow_pos k))

-- writes to one register
pub data Reached (y : Reg) (f : File) : File → Type 0 where
  same : Reached y f f
  wrote_to : {g : File} (v : Value) → Reached y f g → Reached y f (assign_register y v g)

pub reached : {y : Reg} {f g : File} (P : File → Type 0) → ((v : Value) (g : File) → P g → P (assign_register y v g)) → P f → Reached y f g → P g
reached P more p same = p
reached P more p (wrote_to {g = g} v r) = more v g (reached P more p r)

-- a relation that the steps of the machine keep
pub record Stepping (c : ActivationSetting) (m : Mach) (F : Does → Step State → Type 0) : Type 0 where
  pub walks : (d : Does) (s : State) → F d (lossless_step c m s) → F d (Continues s)
  pub no_words : (d : Does) (s : State) → (BoundedState s → ⊥) → F d (Continues s)

pub follows_stepping : (c : ActivationSetting) (m : Mach) → Stepping c m (FollowsText c m)
follows_stepping c m = record { walks = λ d s f. walks f; no_words = λ d s out. no_words out }

module _ (c : ActivationSetting) (m : Mach) (a : Around) where
  abbrev pub now : List Instr → File → State
  now rest f = record { rest = rest; file = f; around = a }

  -- the result of the operator is written
  abbrev pub finished : Reg → List Instr → File → Result Value Kind → Step State
  finished d next g (Ok v) = wrote next a (put_if (fits c.setting.end (type_of_comp d.comp) v) d v (Some g))
  finished d next g (Err kind) = IsStuck

module _ (c : ActivationSetting) (m : Mach) (F : Does → Step State → Type 0) (goes : Stepping c m F) (a : Around) where
  finish : {x : Does} (f : IntOp) (r : Right) (args : List Reg) (d : Reg) (next : List Instr) (g : File) (o : Result Value Kind) →
      F x (finished c m a d next g o) → F x (on_act c m (emit.operator f r args d) next g a (one_result a o))
  finish f r args d next g (Ok v) z = z
  finish f r args d next g (Err kind) z = z

  -- an operator instruction
  one_step : {x : Does} (f : IntOp) (r : Right) (args : List Reg) (d : Reg) (next : List Instr) (g : File) (vs : List Value) (o : Result Value Kind) →
      values g args ≡ Some vs → pure_act c.setting (pure.Operator f r) vs a ≡ one_result a o →
      F x (finished c m a d next g o) → F x (Continues (now c m a (emit.operator f r args d ∷ next) g))
  one_step {x} f r args d next g vs o read acts z =
      goes.walks x (now c m a (emit.operator f r args d ∷ next) g) (subst (λ q. F x (on_lossless_values c m (emit.operator f r args d) next g a q)) (sym read)
      (subst (λ q. F x (on_act c m (emit.operator f r args d) next g a q)) (sym acts) (finish f r args d next g o z)))

  -- a word comes to an int register
  comes : {x : Does} (y : Reg) (next : List Instr) (g : File) (n : ℕ) → y.comp ≡ comp.Int → F x (Continues (now c m a next (assign_register y (Word n) g))) → F x (finished c m a y next g (Ok (Word n)))
  comes {x} y next g n e z = subst (λ (t : Comp). F x (wrote next a (put_if (fits c.setting.end (type_of_comp t) (Word n)) y (Word n) (Some g)))) (sym e) z

  past : {x : Does} {s : State} (q : Reg) (n : ℕ) (g : File) → Holds q (Word n) g → s.file ≡ g → (n < 2 ^ 64 → ⊥) → F x (Continues s)
  past {x} {s} q n g h e not' = goes.no_words x s (λ b. not' (b.file.each q.number (record { comp = q.comp; value = Word n }) (ap (λ (f : File). f q.number) e ∙ h.is)))

  module _ (k n : ℕ) (x y d : Reg) (next : List Instr) (apart : x.number ≡ y.number → ⊥) (whole : y.comp ≡ comp.Int) (low : 1 ≤ k) (top : k < 63) where
    other : {u : ℕ} (v : Value) {g : File} → Holds x (Word u) g → Holds x (Word u) (assign_register y v g)
    other v h = holds_put y v (λ e. apart (sym e)) h

    rounds : {z : Does} (rest : List Instr) (f : File) → Holds x (Word n) f →
        ((g : File) → Reached y f g → Holds x (Word n) g → Holds y (Word (rounding n k)) g → F z (Continues (now c m a rest g))) →
        F z (Continues (now c m a (rounded k x y rest) f))
    rounds rest f h on =
        let s1 : ℕ = sar_word n 63 in
        let s2 : ℕ = shr_word s1 (64 - k) in
        let f1 : File = assign_register y (Word s1) f in
        let f2 : File = assign_register y (Word s2) f1 in
        let f3 : File = assign_register y (Word (rounding n k)) f2 in
        let h2 : Holds x (Word n) f2 = other (Word s2) (other (Word s1) h) in
        one_step operators.Sar (right.Constant 63) (x ∷ []) y _ f (Word n ∷ []) (Ok (Word s1)) (one_value h) refl
        (comes y _ f s1 whole
        (one_step operators.Shr (right.Constant (64 - k)) (y ∷ []) y _ f1 (Word s1 ∷ []) (Ok (Word s2)) (one_value (put_same y (Word s1) f)) (ap (one_result a) (shift_is shr_word s1 (64 - k) (omega (arith, low))))
        (comes y _ f1 s2 whole
        (one_step operators.Add right.Register (x ∷ y ∷ []) y _ f2 (Word n ∷ Word s2 ∷ []) (Ok (Word (rounding n k))) (two_values h2 (put_same y (Word s2) f1)) refl
        (comes y _ f2 (rounding n k) whole
        (on f3 (wrote_to (Word (rounding n k)) (wrote_to (Word s2) (wrote_to (Word s1) same))) (other (Word (rounding n k)) h2) (put_same y (Word (rounding n k)) f2)))))))

    divided : {z : Does} (op : IntOp) (w : ℕ) (q : IsDivision op) → 2 ^ k ≡ w → n < 2 ^ 64 → (f : File) → Holds x (Word n) f →
        ((g : File) → Reached y f g → F z (finished c m a d next g (Ok (Word (division q n w))))) → F z (Continues (now c m a (power_code op k x y d next) f))
    divided {z} op w is_div e small f h on =
        rounds _ f h
        (λ g r hx hy.
        one_step operators.Sar (right.Constant k) (y ∷ []) d next g (Word (rounding n k) ∷ []) (Ok (Word (div_word n w))) (one_value hy)
        (ap (one_result a) (shift_is sar_word (rounding n k) k (omega (arith, top)) ∙ ap (λ u. Ok (Word u)) (quotient n k small top ∙ ap (λ u. div_word n u) e))) (on g r))
    divided {z} op w is_mod e small f h on =
        rounds _ f h
        (λ g r hx hy.
        let s1 : ℕ = sar_word (rounding n k) k in
        let s2 : ℕ = shl_word s1 k in
        let g1 : File = assign_register y (Word s1) g in
        let g2 : File = assign_register y (Word s2) g1 in
        one_step operators.Sar (right.Constant k) (y ∷ []) y _ g (Word (rounding n k) ∷ []) (Ok (Word s1)) (one_value hy) (ap (one_result a) (shift_is sar_word (rounding n k) k (omega (arith, top))))
        (comes y _ g s1 whole
        (one_step operators.Shl (right.Constant k) (y ∷ []) y _ g1 (Word s1 ∷ []) (Ok (Word s2)) (one_value (put_same y (Word s1) g)) (ap (one_result a) (shift_is shl_word s1 k (omega (arith, top))))
        (comes y _ g1 s2 whole
        (one_step operators.Sub right.Register (x ∷ y ∷ []) d next g2 (Word n ∷ Word s2 ∷ []) (Ok (Word (rem_word n w))) (two_values (other (Word s2) (other (Word s1) hx)) (put_same y (Word s2) g1))
        (ap (λ u. one_result a (Ok (Word u))) (remainder n k small top ∙ ap (λ u. rem_word n u) e)) (on g2 (wrote_to (Word s2) (wrote_to (Word s1) r))))))))

  -- the code of an operator writes what the operator gives, and on the way the register of its right operand
  pub operator_follows : {op : IntOp} {s : OperandShape} {x y : Reg} {v w : Value} {f : File} (d : Reg) (next : List Instr) (go : Result Value Kind → Does) →
      ((kind : Kind) (z : Step State) → F (go (Err kind)) z) → (x.number ≡ y.number → ⊥) → Operands op x y f s v w →
      ((g : File) → Reached y f g → (o : Result Value Kind) → F (go o) (finished c m a d next g o)) →
      F (go (apply op (sizes a.memory) v w)) (Continues (now c m a (operator_code s op x y d next) f))
  operator_follows {op} {s} {x} {y} {v} {w} {f} d next go wrong apart (both_stand hv hw) on =
      one_step op right.Register (x ∷ y ∷ []) d next f (v ∷ w ∷ []) (apply op (sizes a.memory) v w) (two_values hv hw) refl (on f same (apply op (sizes a.memory) v w))
  operator_follows {op} {s} {x} {y} {v} {w} {f} d next go wrong apart (left_stands {w = n} {i = i} q hv) on =
      one_step i.op (right.Constant i.word) (x ∷ []) d next f (v ∷ []) (apply op (sizes a.memory) v (Word n)) (one_value hv) (sym (ap (one_result a) (q.is (sizes a.memory) v))) (on f same (apply op (sizes a.memory) v (Word n)))
  operator_follows {op} {s} {x} {y} {v} {w} {f} d next go wrong apart (right_stands {v = u} {w = n} {i = i} q hw) on =
      one_step i.op (right.Constant i.word) (y ∷ []) d next f (u ∷ []) (apply op (sizes a.memory) (Word n) u) (one_value hw) (sym (ap (one_result a) (q.is (sizes a.memory) u))) (on f same (apply op (sizes a.memory) (Word n) u))
  operator_follows {op} {s} {x} {y} {v} {w} {f} d next go wrong apart (a_power {w = n} {k = k} q low top e whole hv) on =
      subst (λ o. F (go o) (Continues (now c m a (power_code op k x y d next) f))) (sym (divides q (sizes a.memory) v k n e)) (by v hv)
    where
      by : (v : Value) → Holds x v f → F (go (on_words (division q) v (Word n))) (Continues (now c m a (power_code op k x y d next) f))
      by (Block t o) h = wrong PointerArithmetic (Continues (now c m a (power_code op k x y d next) f))
      by (Function t) h = wrong PointerArithmetic (Continues (now c m a (power_code op k x y d next) f))
      by (Word u) h = bounded (nat_lt u (2 ^ 64)) refl
        where
          bounded : (b : Bool) → nat_lt u (2 ^ 64) ≡ b → F (go (Ok (Word (division q u n)))) (Continues (now c m a (power_code op k x y d next) f))
          bounded true t = divided k u x y d next apart whole low top op n q e (ltb-true u (2 ^ 64) t) f h (λ g r. on g r (Ok (Word (division q u n))))
          bounded false t = past x u f h refl (λ less. let le : 2 ^ 64 ≤ u = grind (arith, t) in omega (arith, less, le))
