-- A code that is made instruction by instruction, by a plan of what is put in place of each.
use Rattle.std.proofs.Common.{◌≡◌, ◌∙◌, ℕ, suc, ◌+◌, ◌-◌, List, [], ◌∷◌, ◌++◌, length, take, drop, refl, sym, ap, append_assoc, arith}
use Rattle.std.proofs.lemmas.List.{length-append, append-nil, append_cancel_right}
use Rattle.mach_ir.specs.declared.mach.Instr.{Instr}
use Rattle.mach_laws.specs.Expand.{expand}
use Rattle.cse_deadcode.specs.Made.{Making, remade, made_by}

take_front : {A : Type 0} (xs ys : List A) → take (length xs) (xs ++ ys) ≡ xs
take_front [] [] = refl
take_front [] (y ∷ ys) = refl
take_front (x ∷ xs) ys = ap (λ zs. x ∷ zs) (take_front xs ys)

drop_front : {A : Type 0} (xs ys : List A) → drop (length xs) (xs ++ ys) ≡ ys
drop_front [] [] = refl
drop_front [] (y ∷ ys) = refl
drop_front (x ∷ xs) ys = drop_front xs ys

pub after_more : (make : Making) (made done rest : List Instr) → made_by make made (done ++ rest) ≡ made_by make (made_by make made done) rest
after_more make made [] rest = refl
after_more make made (i ∷ done) rest = after_more make (made ++ remade make made i ∷ []) done rest

-- what is put in place of an instruction of the code is known by what is made of the code before it
module _ {P : Type 0} (make : Making) (choice : List Instr → Instr → P) (other : P) (code : List Instr) where
  abbrev after : List Instr → List Instr
  after done = made_by make [] done

  abbrev plan_at : List Instr → List Instr → P
  plan_at done [] = other
  plan_at done (i ∷ next) = choice (after done) i

  -- the same by how many instructions come after it
  abbrev pub plan : ℕ → P
  plan k = plan_at (take (length code - suc k) code) (drop (length code - suc k) code)

  pub planned : (done : List Instr) (i : Instr) (next : List Instr) → code ≡ done ++ i ∷ next → plan (length next) ≡ choice (after done) i
  planned done i next e =
      ap (λ k. plan_at (take k code) (drop k code)) count
      ∙ ap (λ code. plan_at (take (length done) code) (drop (length done) code)) e
      ∙ ap (λ xs. plan_at xs (drop (length done) (done ++ i ∷ next))) (take_front done (i ∷ next))
      ∙ ap (plan_at done) (drop_front done (i ∷ next))
    where
      count : length code - suc (length next) ≡ length done
      count =
          let all : length code ≡ length done + length (i ∷ next) = ap length e ∙ length-append done (i ∷ next) in
          omega (arith, all)

  module _ (put : P → Instr → Instr) (is : (made : List Instr) (i : Instr) → put (choice made i) i ≡ remade make made i) where
    abbrev pub in_place : ℕ → Instr → List Instr
    in_place k i = put (plan k) i ∷ []

    with_plan : (done rest : List Instr) → code ≡ done ++ rest → made_by make (after done) rest ≡ after done ++ expand in_place rest
    with_plan done [] e = sym (append-nil (after done))
    with_plan done (i ∷ next) e =
        ap (λ made. made_by make made next) (sym one) ∙ with_plan (done ++ i ∷ []) next (e ∙ sym (append_assoc done (i ∷ []) next))
        ∙ ap (λ made. made ++ expand in_place next) one
        ∙ append_assoc (after done) (remade make (after done) i ∷ []) (expand in_place next)
        ∙ ap (λ j. after done ++ j ∷ expand in_place next) (sym same)
      where
        one : after (done ++ i ∷ []) ≡ after done ++ remade make (after done) i ∷ []
        one = after_more make [] done (i ∷ [])

        same : put (plan (length next)) i ≡ remade make (after done) i
        same = ap (λ p. put p i) (planned done i next e) ∙ is (after done) i

    pub made_so : made_by make [] code ≡ expand in_place code
    made_so = with_plan [] code refl

    pub made_before : (before : List Instr) (i : Instr) (next made : List Instr) → code ≡ before ++ i ∷ next →
        expand in_place code ≡ made ++ put (plan (length next)) i ∷ expand in_place next → made ≡ made_by make [] before
    made_before before i next made whole e =
        append_cancel_right made (after before) (put (plan (length next)) i ∷ expand in_place next)
        (sym e ∙ sym made_so ∙ ap after whole ∙ after_more make [] before (i ∷ next) ∙ with_plan before (i ∷ next) whole)
