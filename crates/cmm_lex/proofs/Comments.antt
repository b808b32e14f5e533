-- One step inside comments.
use Rattle.std.proofs.Common.{◌≡◌, ℕ, ◌+◌, ◌-◌, ◌≤◌, ◌<◌, suc, zero, Bool, true, false, cond, ◌&&◌, ◌==◌, List, [], ◌∷◌, length, Option, Some, None, refl, ap, arith}
use Rattle.cmm_lex.specs.Scanning.{behind_comments, comment_step}
use Rattle.cmm_lex.proofs.Pairs.{some_pair}

-- what is after the comments, and what is left and open
pub record StepTo (n : ℕ) (bytes : List ℕ) (m : ℕ) (rest : List ℕ) : Type 0 where
  pub same : behind_comments n bytes ≡ behind_comments m rest
  pub shorter : length rest < length bytes
  pub room : m + length rest ≤ n + length bytes

step-two : (n b c : ℕ) (bs : List ℕ) (opens closes : Bool) (m : ℕ) (rest : List ℕ)
    → cond {A = Option (ℕ × List ℕ)} opens (Some (suc n + 1, bs)) (cond {A = Option (ℕ × List ℕ)} closes (Some (suc n - 1, bs)) (Some (suc n, c ∷ bs))) ≡ Some (m, rest)
    → (b == 40 && c == 42) ≡ opens
    → (b == 42 && c == 41) ≡ closes
    → StepTo (suc n) (b ∷ c ∷ bs) m rest
step-two n b c bs true closes m rest e is_open is_close =
    let p = some_pair (suc n + 1) m bs rest e in
    let d = p.0 in
    let r = p.1 in
    let two : suc n + 1 ≡ suc (suc n) = omega arith in
    record {
      same = rw (is_open, ← d, ← r, two) refl;
      shorter = let l : length bs ≡ length rest = ap length r in omega arith;
      room = let l : length bs ≡ length rest = ap length r in omega arith;
    }
step-two n b c bs false true m rest e is_open is_close =
    let p = some_pair (suc n - 1) m bs rest e in
    let d = p.0 in
    let r = p.1 in
    let one : suc n - 1 ≡ n = omega arith in
    record {
      same = rw (is_open, is_close, ← d, ← r, one) refl;
      shorter = let l : length bs ≡ length rest = ap length r in omega arith;
      room = let l : length bs ≡ length rest = ap length r in omega arith;
    }
step-two n b c bs false false m rest e is_open is_close =
    let p = some_pair (suc n) m (c ∷ bs) rest e in
    let d = p.0 in
    let r = p.1 in
    record {
      same = rw (is_open, is_close, ← d, ← r) refl;
      shorter = let l : length (c ∷ bs) ≡ length rest = ap length r in omega arith;
      room = let l : length (c ∷ bs) ≡ length rest = ap length r in omega arith;
    }

pub step-to : (n : ℕ) (bytes : List ℕ) (m : ℕ) (rest : List ℕ) → 0 < n → comment_step n bytes ≡ Some (m, rest) → StepTo n bytes m rest
step-to zero bytes m rest some e = absurd (omega arith)
step-to (suc n) [] m rest some e = cc
step-to (suc n) (b ∷ []) m rest some e =
    let p = some_pair (suc n) m [] rest e in
    let d = p.0 in
    let r = p.1 in
    record {
      same = rw (← d, ← r) refl;
      shorter = let l : length {A = ℕ} [] ≡ length rest = ap length r in omega arith;
      room = let l : length {A = ℕ} [] ≡ length rest = ap length r in omega arith;
    }
step-to (suc n) (b ∷ c ∷ bs) m rest some e = step-two n b c bs _ _ m rest e refl refl

step-none-two : (n c : ℕ) (bs : List ℕ) (opens closes : Bool)
    → cond {A = Option (ℕ × List ℕ)} opens (Some (n + 1, bs)) (cond {A = Option (ℕ × List ℕ)} closes (Some (n - 1, bs)) (Some (n, c ∷ bs))) ≡ None
    → ⊥
step-none-two n c bs true closes e = cc
step-none-two n c bs false true e = cc
step-none-two n c bs false false e = cc

pub step-none : (n : ℕ) (bytes : List ℕ) → 0 < n → comment_step n bytes ≡ None → behind_comments n bytes ≡ None
step-none zero bytes some e = absurd (omega arith)
step-none (suc n) [] some e = refl
step-none (suc n) (b ∷ []) some e = cc
step-none (suc n) (b ∷ c ∷ bs) some e = absurd (step-none-two (suc n) c bs (b == 40 && c == 42) (b == 42 && c == 41) e)
