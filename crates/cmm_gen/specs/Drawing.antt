-- How the generator draws: by the words of PCG XSH RR 64/32, in the order in which a text is written.
use Rattle.std.specs.Prelude.{ℕ, zero, suc, ◌%◌, ◌==◌, cond, List, [], ◌∷◌}
use Rattle.rand_core.specs.Pcg32Seed.{pcg32_seed}
use Rattle.rand_pcg.specs.Lcg.{Lcg}
use Rattle.rand_pcg.specs.Pcg.{pcg32, pcg32_of_seed}
use Rattle.cmm_gen.specs.Drawn.{Drawn, Number, Variable, Sum, Difference, Product, Choice, Cell, Attempt, DrawnFunction}

-- what is drawn, and the generator after it
abbrev pub Draw : Type 0 → Type 0
Draw A = Lcg → A × Lcg

-- the generator of a seed, before its first word
abbrev pub generator : ℕ → Lcg
generator seed = pcg32_of_seed (pcg32_seed 16 seed)

-- the next word
abbrev pub draw_word : Draw ℕ
draw_word g = pcg32 g

abbrev pub draw_number : Draw Drawn
draw_number g = let w = draw_word g in (Number (w.0 % 201), w.1)

abbrev pub variable : Draw Drawn
variable g = let w = draw_word g in (Variable (w.0 % 2 == 0), w.1)

-- two of these, and what they are put together to
abbrev pub draw_two : Draw Drawn → (Drawn → Drawn → Drawn) → Draw Drawn
draw_two part made g = let a = part g in let b = part a.1 in (made a.0 b.0, b.1)

abbrev pub four : Draw Drawn → (Drawn → Drawn → Drawn → Drawn → Drawn) → Draw Drawn
four part made g =
    let a = part g in
    let b = part a.1 in
    let c = part b.1 in
    let d = part c.1 in
    (made a.0 b.0 c.0 d.0, d.1)

-- number r of the forms, whose parts are drawn so
abbrev pub draw_form : ℕ → Draw Drawn → Draw Drawn
draw_form r part g =
    cond (r == 0) (draw_number g)
    (cond (r == 1) (variable g)
    (cond (r == 2) (draw_two part Sum g)
    (cond (r == 3) (draw_two part Difference g)
    (cond (r == 4) (draw_two part Product g)
    (cond (r == 5) (four part Choice g)
    (cond (r == 6) (draw_two part Cell g) (four part Attempt g)))))))

-- an expression of this depth: at depth 0 it is one of the first two forms, and else one of all eight, whose
-- parts have a depth less
unfoldable pub draw_expression : ℕ → Draw Drawn
draw_expression zero g = let r = draw_word g in draw_form (r.0 % 2) draw_number r.1
draw_expression (suc d) g = let r = draw_word g in draw_form (r.0 % 8) (draw_expression d) r.1

-- the depth of the expressions in functions
abbrev pub deepest : ℕ
deepest = 3

unfoldable pub function : Draw DrawnFunction
function g =
    let p = draw_expression deepest g in
    let q = draw_expression deepest p.1 in
    let b = draw_expression deepest q.1 in
    (record { p = p.0; q = q.0; b = b.0 }, b.1)

-- so many functions
unfoldable pub drawn : ℕ → Lcg → List DrawnFunction
drawn zero g = []
drawn (suc count) g = let f = function g in f.0 ∷ drawn count f.1
