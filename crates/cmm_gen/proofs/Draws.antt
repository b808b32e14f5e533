-- What is drawn, by the word that is drawn first.
use Rattle.std.proofs.Common.{◌≡◌, ℕ, zero, suc, ◌+◌, ◌-◌, ◌%◌, ◌<◌, ◌≤◌, List, ◌++◌, codes, append_assoc, append-nil, Result, Ok, Err, OnOk, is_ok, if◌then◌else◌, refl, ap, sym, ◌∙◌, subst, arith}
use Rattle.std.specs.Fmt.{decimal}
use Rattle.rand_pcg.specs.Lcg.{Lcg}
use Rattle.rand_pcg.specs.Pcg.{pcg32}
use Rattle.cmm_gen.specs.Drawn.{Drawn, Attempt, DrawnFunction, drawn_text, body_text, function_text, text_from}
use Rattle.cmm_gen.specs.Drawing.{draw_number, four, draw_form, draw_expression, deepest, function, drawn}

-- at depth 0
pub leaf : (d r w : ℕ) (g after : Lcg) → d ≡ 0 → (w, after) ≡ pcg32 g → w % 2 ≡ r → draw_expression d g ≡ draw_form r draw_number after
unfolding draw_expression
leaf d r w g after none drawn is =
    ap (λ k. draw_expression k g) none
    ∙ ap (λ (p : ℕ × Lcg). draw_form (p.0 % 2) draw_number p.1) (sym drawn)
    ∙ ap (λ x. draw_form x draw_number after) is

-- and above it
pub above : (d r w : ℕ) (g after : Lcg) → (d ≡ 0 → ⊥) → (w, after) ≡ pcg32 g → w % 8 ≡ r → draw_expression d g ≡ draw_form r (draw_expression (d - 1)) after
unfolding draw_expression
above zero r w g after some drawn is = absurd (some refl)
above (suc k) r w g after some drawn is =
    let one_less : k ≡ suc k - 1 = omega arith in
    ap (λ (p : ℕ × Lcg). draw_form (p.0 % 8) (draw_expression k) p.1) (sym drawn)
    ∙ ap (λ x. draw_form x (draw_expression k) after) is
    ∙ ap (λ n. draw_form r (draw_expression n) after) one_less

module _ {A E : Type 0} (r : Result A E) (x y : Drawn × Lcg) (same : x ≡ y) where
  pub text_of_same : (old new : List ℕ) → OnOk r (new ≡ old ++ drawn_text y.0) → OnOk r (new ≡ old ++ drawn_text x.0)
  text_of_same old new ok =
      let P : Drawn × Lcg → Type 0 = λ z. OnOk r (new ≡ old ++ drawn_text z.0) in
      subst P (sym same) ok

  pub words_of_same : (words : Lcg) → OnOk r (words ≡ y.1) → OnOk r (words ≡ x.1)
  words_of_same words ok =
      let P : Drawn × Lcg → Type 0 = λ z. OnOk r (words ≡ z.1) in
      subst P (sym same) ok

  pub words_drawn : (words : Lcg) → words ≡ y.1 → OnOk r (words ≡ x.1)
  words_drawn words e = ok r
    where
      ok : (r : Result A E) → OnOk r (words ≡ x.1)
      ok (Ok a) = e ∙ ap (λ (z : Drawn × Lcg). z.1) (sym same)
      ok (Err e) = tt

-- ---- a try, piece by piece

pieces : (a b c d before s1 s2 s3 s4 s5 opening between middle behind closing : List ℕ)
    → s1 ≡ before ++ (opening ++ a ++ between ++ b ++ middle)
    → s2 ≡ s1 ++ c
    → s3 ≡ s2 ++ behind
    → s4 ≡ s3 ++ d
    → s5 ≡ s4 ++ closing
    → s5 ≡ before ++ (opening ++ a ++ between ++ b ++ middle ++ c ++ behind ++ d ++ closing)
pieces a b c d before s1 s2 s3 s4 s5 opening between middle behind closing e1 e2 e3 e4 e5 = rw (e5, e4, e3, e2, e1) (simp append_assoc)

pub attempt_text : {A E : Type 0} (r : Result A E) (k : ℕ) (g g2 g3 : Lcg) (before s1 s2 s3 s4 s5 : List ℕ)
    → s1 ≡ before ++ (codes "(try (if (< " ++ drawn_text (draw_expression k g).0 ++ codes " " ++ drawn_text (draw_expression k (draw_expression k g).1).0 ++ codes ") (raise 1) ")
    → g2 ≡ (draw_expression k (draw_expression k g).1).1
    → s2 ≡ s1 ++ drawn_text (draw_expression k g2).0
    → g3 ≡ (draw_expression k g2).1
    → s3 ≡ s2 ++ codes ") with z "
    → s4 ≡ s3 ++ drawn_text (draw_expression k g3).0
    → s5 ≡ (if is_ok r then s4 ++ codes ")" else s4)
    → OnOk r (s5 ≡ before ++ drawn_text (four (draw_expression k) Attempt g).0)
attempt_text (Err e) k g g2 g3 before s1 s2 s3 s4 s5 e1 w2 e2 w3 e3 e4 e5 = tt
attempt_text (Ok a) k g g2 g3 before s1 s2 s3 s4 s5 e1 w2 e2 w3 e3 e4 e5 =
    let third : s2 ≡ s1 ++ drawn_text (draw_expression k (draw_expression k (draw_expression k g).1).1).0 =
    e2 ∙ ap (λ (h : Lcg). s1 ++ drawn_text (draw_expression k h).0) w2 in
    let last : g3 ≡ (draw_expression k (draw_expression k (draw_expression k g).1).1).1 = w3 ∙ ap (λ (h : Lcg). (draw_expression k h).1) w2 in
    let fourth : s4 ≡ s3 ++ drawn_text (draw_expression k (draw_expression k (draw_expression k (draw_expression k g).1).1).1).0 =
    e4 ∙ ap (λ (h : Lcg). s3 ++ drawn_text (draw_expression k h).0) last in
    pieces _ _ _ _ before s1 s2 s3 s4 s5 (codes "(try (if (< ") (codes " ") (codes ") (raise 1) ") (codes ") with z ") (codes ")") e1 third e3 fourth e5

-- ---- functions, piece by piece

line : (p q b before s1 s2 s3 s4 s5 s6 s7 opening draw_number behind between gap closing : List ℕ)
    → s1 ≡ before ++ (opening ++ draw_number ++ behind)
    → s2 ≡ s1 ++ p
    → s3 ≡ s2 ++ between
    → s4 ≡ s3 ++ q
    → s5 ≡ s4 ++ gap
    → s6 ≡ s5 ++ b
    → s7 ≡ s6 ++ closing
    → s7 ≡ before ++ (opening ++ draw_number ++ behind ++ p ++ between ++ q ++ gap ++ b ++ closing)
line p q b before s1 s2 s3 s4 s5 s6 s7 opening draw_number behind between gap closing e1 e2 e3 e4 e5 e6 e7 =
    rw (e7, e6, e5, e4, e3, e2, e1) (simp append_assoc)

pub function_text_written : {A E : Type 0} (r : Result A E) (j : ℕ) (g g2 g3 : Lcg) (before s1 s2 s3 s4 s5 s6 s7 : List ℕ)
    → s1 ≡ before ++ (codes "(function \"g" ++ decimal j ++ codes "\" (x:int y:int) (let p ")
    → s2 ≡ s1 ++ drawn_text (draw_expression deepest g).0
    → g2 ≡ (draw_expression deepest g).1
    → s3 ≡ s2 ++ codes " (let q "
    → s4 ≡ s3 ++ drawn_text (draw_expression deepest g2).0
    → g3 ≡ (draw_expression deepest g2).1
    → s5 ≡ s4 ++ codes " "
    → s6 ≡ s5 ++ body_text j (draw_expression deepest g3).0
    → s7 ≡ (if is_ok r then s6 ++ codes ")))\n" else s6)
    → OnOk r (s7 ≡ before ++ function_text j (function g).0)
unfolding function
function_text_written (Err e) j g g2 g3 before s1 s2 s3 s4 s5 s6 s7 e1 e2 w2 e3 e4 w3 e5 e6 e7 = tt
function_text_written (Ok a) j g g2 g3 before s1 s2 s3 s4 s5 s6 s7 e1 e2 w2 e3 e4 w3 e5 e6 e7 =
    let second : s4 ≡ s3 ++ drawn_text (draw_expression deepest (draw_expression deepest g).1).0 =
    e4 ∙ ap (λ (h : Lcg). s3 ++ drawn_text (draw_expression deepest h).0) w2 in
    let last : g3 ≡ (draw_expression deepest (draw_expression deepest g).1).1 = w3 ∙ ap (λ (h : Lcg). (draw_expression deepest h).1) w2 in
    let third : s6 ≡ s5 ++ body_text j (draw_expression deepest (draw_expression deepest (draw_expression deepest g).1).1).0 =
    e6 ∙ ap (λ (h : Lcg). s5 ++ body_text j (draw_expression deepest h).0) last in
    line _ _ _ before s1 s2 s3 s4 s5 s6 s7 (codes "(function \"g") (decimal j) (codes "\" (x:int y:int) (let p ") (codes " (let q ") (codes " ") (codes ")))\n") e1 e2 e3 second e5 third e7

pub function_words : {A E : Type 0} (r : Result A E) (g g2 g3 g4 : Lcg)
    → g2 ≡ (draw_expression deepest g).1
    → g3 ≡ (draw_expression deepest g2).1
    → g4 ≡ (draw_expression deepest g3).1
    → OnOk r (g4 ≡ (function g).1)
unfolding function
function_words (Err e) g g2 g3 g4 w2 w3 w4 = tt
function_words (Ok a) g g2 g3 g4 w2 w3 w4 =
    w4 ∙ ap (λ (h : Lcg). (draw_expression deepest h).1) (w3 ∙ ap (λ (h : Lcg). (draw_expression deepest h).1) w2)

-- ---- files, function by function

pub one_line_more : (n draw_number : ℕ) (g g2 : Lcg) (before s whole : List ℕ) → draw_number < n
    → s ≡ before ++ function_text draw_number (function g).0
    → g2 ≡ (function g).1
    → before ++ text_from draw_number (drawn (n - draw_number) g) ≡ whole
    → s ++ text_from (draw_number + 1) (drawn (n - (draw_number + 1)) g2) ≡ whole
unfolding drawn
one_line_more n draw_number g g2 before s whole less e w is =
    let left : n - draw_number ≡ suc (n - (draw_number + 1)) = omega arith in
    let next : draw_number + 1 ≡ suc draw_number = omega arith in
    let f : DrawnFunction = (function g).0 in
    let rest : List DrawnFunction = drawn (n - (draw_number + 1)) (function g).1 in
    let here : before ++ (function_text draw_number f ++ text_from (suc draw_number) rest) ≡ whole =
    sym (ap (λ k. before ++ text_from draw_number (drawn k g)) left) ∙ is in
    ap (λ (h : Lcg). s ++ text_from (draw_number + 1) (drawn (n - (draw_number + 1)) h)) w
    ∙ ap (λ k. s ++ text_from k rest) next
    ∙ ap (λ (x : List ℕ). x ++ text_from (suc draw_number) rest) e
    ∙ append_assoc before (function_text draw_number f) (text_from (suc draw_number) rest)
    ∙ here

pub all_lines : (n draw_number : ℕ) (g : Lcg) (s whole : List ℕ) → n ≤ draw_number → s ++ text_from draw_number (drawn (n - draw_number) g) ≡ whole → s ≡ whole
unfolding drawn
all_lines n draw_number g s whole past is =
    let none : n - draw_number ≡ 0 = omega arith in
    sym (append-nil s) ∙ (sym (ap (λ k. s ++ text_from draw_number (drawn k g)) none) ∙ is)
