-- The code of a function with its moves, made from its end.
use Rattle.std.proofs.Common.{◌≡◌, ℕ, ◌+◌, ◌-◌, ◌≤◌, Bool, List, [], ◌∷◌, ◌++◌, length, sym, ap, ◌∙◌, append_assoc, arith}
use Rattle.std.proofs.lemmas.List.{append-nil, length-append}
use Rattle.mach_ir.specs.declared.mach.Instr.{Instr}
use Rattle.sink.specs.Runs.{straight_run_begins}
use Rattle.sink.specs.Moves.{instr_after_moves, sunk_code}
use Rattle.sink.specs.declared.chosen.Move.{Move}
use Rattle.sink.proofs.Running.{begins_within}

-- what is left of the code, and what has been made of the rest
pub record Copying (t : List Move) (code items made : List Instr) : Type 0 where
  pub done : List Instr
  pub whole : items ++ done ≡ code
  pub made_so : made ≡ sunk_code t code done

pub copying_begun : (t : List Move) (code items made : List Instr) → items ≡ code → made ≡ [] → Copying t code items made
copying_begun t code items made e h = record { done = []; whole = append-nil items ∙ e; made_so = h }

pub copying_more : (t : List Move) (code items rest : List Instr) (i : Instr) (begins : Bool) (place : ℕ) (made new : List Instr) →
    items ≡ rest ++ i ∷ [] → place ≡ length rest → begins ≡ straight_run_begins rest place → Copying t code items made →
    new ≡ instr_after_moves t begins place i ++ made → Copying t code rest new
copying_more t code items rest i begins place made new popped at first c e =
    record {
      done = i ∷ c.done;
      whole = whole;
      made_so = e ∙ ap (λ xs. instr_after_moves t begins place i ++ xs) c.made_so
          ∙ ap (λ b. instr_after_moves t b place i ++ sunk_code t code c.done) begins_so
          ∙ ap (λ p. instr_after_moves t (straight_run_begins code p) p i ++ sunk_code t code c.done) (at ∙ place_is);
    }
  where
    whole : rest ++ i ∷ c.done ≡ code
    whole = sym (append_assoc rest (i ∷ []) c.done) ∙ ap (λ xs. xs ++ c.done) (sym popped) ∙ c.whole

    begins_so : begins ≡ straight_run_begins code place
    begins_so =
        first ∙ sym (begins_within rest (i ∷ c.done) place (same_le place (length rest) at)) ∙ ap (λ xs. straight_run_begins xs place) whole
      where
        same_le : (a b : ℕ) → a ≡ b → a ≤ b
        same_le a b e = omega (arith, e)

    all : length items + length c.done ≡ length code
    all = sym (length-append items c.done) ∙ ap length c.whole

    some : length items ≡ length rest + 1
    some = ap length popped ∙ length-append rest (i ∷ [])

    place_is : length rest ≡ length code - 1 - length c.done
    place_is = let a = all in let b = some in omega (arith, a, b)

pub copying_done : (t : List Move) (code items made all : List Instr) → Copying t code items made → items ≡ [] → all ≡ made →
    all ≡ sunk_code t code code
copying_done t code items made all c none e =
    e ∙ c.made_so ∙ ap (sunk_code t code) (ap (λ xs. xs ++ c.done) (sym none) ∙ c.whole)
