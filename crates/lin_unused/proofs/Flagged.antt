-- Lines by their flags.
use Rattle.std.proofs.Common.{◌≡◌, ℕ, suc, ◌+◌, ◌-◌, ◌<◌, ◌≤◌, Bool, true, false, cond, ⊎_elim, List, [], ◌∷◌, ◌++◌, length, drop, get_or, refl, sym, ap, ◌∙◌, subst, arith, append_assoc}
use Rattle.std.proofs.lemmas.Bool.{cases_lt}
use Rattle.std.proofs.lemmas.List.{length-drop, append-nil, get_or_append_left, get_or_push, length_push}
use Rattle.std.specs.Prelude.{slice_index_or, IsTrue}
use Rattle.lin_ir.specs.declared.lin.Line.{Line}
use Rattle.lin_ir.specs.declared.lin.Lin.{Lin}
use Rattle.lin_tidy_rules.specs.Leaving.{without_lines}
use Rattle.bs_words.proofs.Lists.{head_same}
use Rattle.lin_unused.proofs.Between.{drop_line}
use Rattle.lin_unused.specs.Forms.{IsNoSelfMove}
use Rattle.lin_unused.specs.Flags.{TellsUse, AreUseFlags, NoMoveGoes, is_flagged_unused, unflagged_lines, unless_gone}

-- ---- flags so far

pub record FlagsSoFar (m : Lin) (flags : List Bool) (k : ℕ) : Type 0 where
  pub len : length flags ≡ k
  pub each : (p : ℕ) → p < k → TellsUse m p (slice_index_or flags p false)

pub flags_none : (m : Lin) (flags : List Bool) → flags ≡ [] → FlagsSoFar m flags 0
flags_none m flags e = record { len = ap length e; each = λ p lt. absurd (omega (arith, lt)) }

pub flags_more : (m : Lin) (flags more : List Bool) (k : ℕ) (b : Bool) → FlagsSoFar m flags k → TellsUse m k b → more ≡ flags ++ b ∷ [] →
    FlagsSoFar m more (k + 1)
flags_more m flags more k b h tells e =
    let len = h.len in
    let len_more : length more ≡ length flags + 1 = ap length e ∙ length_push flags b in
    record {
      len = omega (arith, len, len_more);
      each = λ p lt.
          ⊎_elim
          (λ (less : p < k).
          let lt_flags : p < length flags = omega (arith, less, len) in
          subst (TellsUse m p) (sym (ap (λ xs. get_or xs p false) e ∙ get_or_append_left flags (b ∷ []) false p lt_flags)) (h.each p less))
          (λ (le : k ≤ p).
          let at : length flags ≡ p = omega (arith, lt, le, len) in
          let same : k ≡ p = omega (arith, lt, le) in
          subst (TellsUse m p) (sym (ap (λ xs. get_or xs p false) e ∙ get_or_push flags b false p at)) (subst (λ j. TellsUse m j b) same tells))
          (cases_lt p k);
    }

pub flags_all : (m : Lin) (flags : List Bool) (k : ℕ) → k ≡ length m.code → FlagsSoFar m flags k → AreUseFlags m flags
flags_all m flags k e h = record { len = h.len ∙ e; each = λ p lt. h.each p (omega (arith, lt, e)) }

-- ---- the lines that are kept

pub kept_next : (b : Bool) (flags : List Bool) (i : Line) (old new rest : List Line) → new ≡ old ++ unless_gone b i →
    new ++ unflagged_lines flags rest ≡ old ++ unflagged_lines (b ∷ flags) (i ∷ rest)
kept_next true flags i old new rest e = ap (λ xs. xs ++ unflagged_lines flags rest) (e ∙ append-nil old)
kept_next false flags i old new rest e = ap (λ xs. xs ++ unflagged_lines flags rest) e ∙ append_assoc old (i ∷ []) (unflagged_lines flags rest)

pub kept_rest : (i : Line) (old new rest : List Line) → new ≡ old ++ unless_gone false i → new ++ unflagged_lines [] rest ≡ old ++ unflagged_lines [] (i ∷ rest)
kept_rest i old new rest e = ap (λ xs. xs ++ rest) e ∙ append_assoc old (i ∷ []) rest

pub kept_none : (flags : List Bool) → unflagged_lines flags [] ≡ []
kept_none [] = refl
kept_none (b ∷ flags) = refl

-- ---- by the number of lines after a line

without_same : (g h : ℕ → Bool) (code : List Line) → ((n : ℕ) → n < length code → g n ≡ h n) → without_lines g code ≡ without_lines h code
without_same g h [] same = refl
without_same g h (i ∷ next) same =
    ap (λ b. cond b (without_lines g next) (i ∷ without_lines g next)) (same (length next) (omega arith))
    ∙ ap (λ xs. cond (h (length next)) xs (i ∷ xs)) (without_same g h next (λ n lt. same n (omega (arith, lt))))

zero_left : (n k : ℕ) → n ≡ k → suc n - suc k ≡ 0
zero_left n k e = omega (arith, e)

one_left : (n k : ℕ) → k < n → suc n - suc k ≡ suc (n - suc k)
one_left n k lt = omega (arith, lt)

pub kept_without : (flags : List Bool) (code : List Line) → length flags ≡ length code → unflagged_lines flags code ≡ without_lines (is_flagged_unused flags) code
kept_without [] [] len = refl
kept_without [] (i ∷ next) len = absurd (omega (arith, len))
kept_without (b ∷ flags) [] len = absurd (omega (arith, len))
kept_without (b ∷ flags) (i ∷ next) len =
    let same : length flags ≡ length next = omega (arith, len) in
    let first : is_flagged_unused (b ∷ flags) (length next) ≡ b = ap (λ k. get_or (b ∷ flags) k false) (zero_left (length flags) (length next) same) in
    let rest : unflagged_lines flags next ≡ without_lines (is_flagged_unused (b ∷ flags)) next =
    kept_without flags next same
    ∙ without_same (is_flagged_unused flags) (is_flagged_unused (b ∷ flags)) next
    (λ n lt. sym (ap (λ k. get_or (b ∷ flags) k false) (one_left (length flags) n (omega (arith, lt, same))))) in
    by b ∙ ap (λ xs. cond b xs (i ∷ xs)) rest ∙ ap (λ c. cond c (without_lines (is_flagged_unused (b ∷ flags)) next) (i ∷ without_lines (is_flagged_unused (b ∷ flags)) next)) (sym first)
  where
    by : (c : Bool) → unflagged_lines (c ∷ flags) (i ∷ next) ≡ cond c (unflagged_lines flags next) (i ∷ unflagged_lines flags next)
    by true = refl
    by false = refl

-- ---- no move goes

pub record NoMoveSoFar (flags : List Bool) (code : List Line) (k : ℕ) : Type 0 where
  pub each : (p : ℕ) → p < k → (i : Line) (next : List Line) → drop p code ≡ i ∷ next → IsTrue (slice_index_or flags p false) → IsNoSelfMove i

pub none_yet : (flags : List Bool) (code : List Line) → NoMoveSoFar flags code 0
none_yet flags code = record { each = λ p lt. absurd (omega (arith, lt)) }

pub none_more : (flags : List Bool) (code : List Line) (k : ℕ) (b : Bool) (i : Line) → k < length code → b ≡ get_or flags k false → i ≡ get_or code k i →
    (IsTrue b → IsNoSelfMove i) → NoMoveSoFar flags code k → NoMoveSoFar flags code (k + 1)
none_more flags code k b i lt e at still h =
    record {
      each = λ p less j next d t.
          ⊎_elim (λ (before : p < k). h.each p before j next d t)
          (λ (le : k ≤ p).
          let same : p ≡ k = omega (arith, less, le) in
          let here : drop k code ≡ j ∷ next = sym (ap (λ n. drop n code) same) ∙ d in
          let line : i ≡ j = head_same (sym (drop_line code k i lt at) ∙ here) in
          subst IsNoSelfMove line (still (e ∙ sym (ap (λ n. get_or flags n false) same) ∙ t)))
          (cases_lt p k);
    }

none_past : (code : List Line) (i : Line) (next : List Line) (p : ℕ) → drop p code ≡ i ∷ next → p < length code
none_past code i next p d = let e = ap length d in let n = length-drop p code in omega (arith, e, n)

pub none_all : (flags : List Bool) (code : List Line) (k : ℕ) → length code ≤ k → NoMoveSoFar flags code k → NoMoveGoes flags code
none_all flags code k le h =
    record { each = λ p i next d. (let lt = none_past code i next p d in h.each p (omega (arith, lt, le)) i next d) }
