-- What the generator draws nests no deeper than a text that is read.
use Rattle.std.proofs.Common.{◌≡◌, ℕ, zero, suc, ◌%◌, ◌==◌, ◌<◌, Bool, true, false, cond, length, refl, ap, arith}
use Rattle.std.proofs.lemmas.Bool.{eqb-false}
use Rattle.rand_pcg.specs.Lcg.{Lcg}
use Rattle.cmm_gen.proofs.Within as within
use Rattle.cmm_gen.specs.Drawn.{Drawn, Number, Sum, Difference, Product, Choice, Cell, Attempt, text_of}
use Rattle.cmm_gen.proofs.Within.{IsWithin}
use Rattle.cmm_gen.specs.Drawing as drawing
use Rattle.cmm_gen.specs.Drawing.{Draw, draw_word, draw_two, four, draw_form, draw_expression, function, generator}
use Rattle.cmm_gen.proofs.ReadingFile.{IsFunctionWithin, AreWithin, none_within, more_within, ReadAs, text-reads}

number-within : (d w : ℕ) → IsWithin d (Number (w % 201))
number-within d w = within.number d (w % 201) (omega arith)

-- one of the first two forms
leaf-within : (d r : ℕ) (part : Draw Drawn) (g : Lcg) → r < 2 → IsWithin d (draw_form r part g).0
leaf-within d r part g small = at_test (r == 0) (r == 1) refl refl
  where
    at_test : (s t : Bool)
        → (r == 0) ≡ s
        → (r == 1) ≡ t
        → IsWithin d (cond s (drawing.draw_number g) (cond t (drawing.variable g)
        (cond (r == 2) (draw_two part Sum g)
        (cond (r == 3) (draw_two part Difference g)
        (cond (r == 4) (draw_two part Product g)
        (cond (r == 5) (four part Choice g)
        (cond (r == 6) (draw_two part Cell g) (four part Attempt g)))))))).0
    at_test true t is_s is_t = number-within d (draw_word g).0
    at_test false true is_s is_t = within.variable d _
    at_test false false is_s is_t =
        let not_zero = eqb-false r 0 is_s in
        let not_one = eqb-false r 1 is_t in
        absurd (none not_zero not_one)
      where
        none : (r ≡ 0 → ⊥) → (r ≡ 1 → ⊥) → ⊥
        none a b = omega (arith, a, b, small)

-- any form, of parts that nest one level less
form-within : (d r : ℕ) (part : Draw Drawn) → ((g : Lcg) → IsWithin d (part g).0) → (g : Lcg) → IsWithin (suc d) (draw_form r part g).0
form-within d r part h g = at_test (r == 0) (r == 1) (r == 2) (r == 3) (r == 4) (r == 5) (r == 6)
  where
    at_test : (a b c e i j k : Bool)
        → IsWithin (suc d) (cond a (drawing.draw_number g) (cond b (drawing.variable g)
        (cond c (draw_two part Sum g)
        (cond e (draw_two part Difference g)
        (cond i (draw_two part Product g)
        (cond j (four part Choice g)
        (cond k (draw_two part Cell g) (four part Attempt g)))))))).0
    at_test true b c e i j k = number-within (suc d) (draw_word g).0
    at_test false true c e i j k = within.variable (suc d) _
    at_test false false true e i j k = within.sum d _ _ (h _) (h _)
    at_test false false false true i j k = within.difference d _ _ (h _) (h _)
    at_test false false false false true j k = within.product d _ _ (h _) (h _)
    at_test false false false false false true k = within.choice d _ _ _ _ (h _) (h _) (h _) (h _)
    at_test false false false false false false true = within.cell d _ _ (h _) (h _)
    at_test false false false false false false false = within.attempt d _ _ _ _ (h _) (h _) (h _) (h _)

expression-within : (d : ℕ) (g : Lcg) → IsWithin d (draw_expression d g).0
unfolding draw_expression
expression-within zero g = leaf-within zero ((draw_word g).0 % 2) drawing.draw_number (draw_word g).1 (omega arith)
expression-within (suc d) g = form-within d ((draw_word g).0 % 8) (draw_expression d) (expression-within d) (draw_word g).1

function-within : (g : Lcg) → IsFunctionWithin (function g).0
unfolding function
function-within g = record { p = expression-within 3 _; q = expression-within 3 _; b = expression-within 3 _ }

drawn-within : (count : ℕ) (g : Lcg) → AreWithin (drawing.drawn count g)
unfolding drawing.drawn
drawn-within zero g = none_within
drawn-within (suc count) g = more_within _ _ (function-within g) (drawn-within count (function g).1)

pub drawn-count : (count : ℕ) (g : Lcg) → length (drawing.drawn count g) ≡ count
unfolding drawing.drawn
drawn-count zero g = refl
drawn-count (suc count) g = ap suc (drawn-count count (function g).1)

-- The text of up to 1,000 functions of a seed is read as their file.
pub generated-reads : (seed count : ℕ) → count < 1001 → ReadAs (drawing.drawn count (generator seed)) (text_of (drawing.drawn count (generator seed)))
generated-reads seed count few =
    let same = drawn-count count (generator seed) in
    text-reads (drawing.drawn count (generator seed)) (omega arith) (drawn-within count (generator seed))
