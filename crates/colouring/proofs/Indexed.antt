-- The table of the first nodes of a graph.
use Rattle.std.proofs.Common.{◌≡◌, ℕ, zero, suc, ◌+◌, ◌-◌, ◌<◌, ◌≤◌, ⊎_elim, List, [], ◌∷◌, ◌++◌, Option, Some, None, length, get_or, length-append, refl, sym, ap, ◌∙◌, subst, arith}
use Rattle.std.proofs.Math.ListN.{replicate, length-replicate}
use Rattle.std.proofs.Math.Seq.{get_or-append_seam}
use Rattle.std.proofs.lemmas.Bool.{cases_eq, cases_lt}
use Rattle.std.proofs.lemmas.Option.{slice_get_cases}
use Rattle.mach_ir.specs.declared.graph.Node.{Node}
use Rattle.colouring.specs.Chosen.{node_at}
use Rattle.colouring.specs.Tables.{node_by, IsNodeIndex}
use Rattle.colouring.proofs.Found.{Rising, found_at, missing}

-- what the table has of the first nodes
pub record IsIndexed (nodes : List Node) (i : ℕ) (indices : List (Option ℕ)) : Type 0 where
  pub within : (n k : ℕ) → get_or indices n None ≡ Some k → k < i
  pub hit : (n k : ℕ) (d : Node) → get_or indices n None ≡ Some k → (get_or nodes k d).reg.number ≡ n
  pub miss : (k : ℕ) (d : Node) → k < i → get_or indices (get_or nodes k d).reg.number None ≡ Some k
  pub below : (k : ℕ) (d : Node) → k < i → (get_or nodes k d).reg.number < length indices
  pub next : (d : Node) → i < length nodes → length indices ≤ (get_or nodes i d).reg.number

pub none_indexed : (nodes : List Node) → IsIndexed nodes 0 []
none_indexed nodes = record {
  within = λ n k e. cc;
  hit = λ n k d e. cc;
  miss = λ k d lt. absurd (omega (arith, lt));
  below = λ k d lt. absurd (omega (arith, lt));
  next = λ d lt. omega arith;
}

-- a table that is filled up says the same
padded : (xs : List (Option ℕ)) (m n : ℕ) → get_or (xs ++ replicate m None) n None ≡ get_or xs n None
padded [] zero n = refl
padded [] (suc m) zero = refl
padded [] (suc m) (suc n) = padded [] m n
padded (x ∷ xs) m zero = refl
padded (x ∷ xs) m (suc n) = padded xs m n

past : (xs : List (Option ℕ)) (n : ℕ) → length xs ≤ n → get_or xs n None ≡ None
past [] n le = refl
past (x ∷ xs) zero le = absurd (omega (arith, le))
past (x ∷ xs) (suc n) le = past xs n (omega (arith, le))

behind : (xs : List (Option ℕ)) (v : Option ℕ) (n : ℕ) → (n ≡ length xs → ⊥) →
    get_or (xs ++ v ∷ []) n None ≡ get_or xs n None
behind [] v zero ne = absurd (ne refl)
behind [] v (suc n) ne = refl
behind (x ∷ xs) v zero ne = refl
behind (x ∷ xs) v (suc n) ne = behind xs v n (λ e. ne (ap suc e))

pub one_indexed : (nodes : List Node) (i : ℕ) (before padding after : List (Option ℕ)) (x : Node) → Rising nodes →
    i < length nodes →
    ((d : Node) → get_or nodes i d ≡ x) → length before ≤ x.reg.number →
    padding ≡ before ++ replicate (x.reg.number - length before) None → after ≡ padding ++ Some i ∷ [] →
    IsIndexed nodes i before → IsIndexed nodes (i + 1) after
one_indexed nodes i before padding after x up within is le pad end t =
    let size : length padding ≡ x.reg.number =
    ap length pad ∙ length-append before (replicate (x.reg.number - length before) None) ∙
    ap (λ n. length before + n) (length-replicate (x.reg.number - length before) None) ∙
    omega (arith, le) in
    let whole : length after ≡ x.reg.number + 1 =
    ap length end ∙ length-append padding (Some i ∷ []) ∙ ap (λ n. n + 1) size in
    let same : (n : ℕ) → (n ≡ x.reg.number → ⊥) → get_or after n None ≡ get_or before n None = λ n ne.
    ap (λ l. get_or l n None) end ∙ behind padding (Some i) n (λ e. ne (e ∙ size)) ∙
    ap (λ l. get_or l n None) pad ∙ padded before (x.reg.number - length before) n in
    let here : get_or after x.reg.number None ≡ Some i =
    subst (λ n. get_or after n None ≡ Some i) size
    (ap (λ l. get_or l (length padding) None) end ∙ get_or-append_seam padding (Some i) [] None) in
    let lower : (k : ℕ) (d : Node) → k < i → (get_or nodes k d).reg.number < x.reg.number = λ k d lt.
    subst (λ (y : Node). (get_or nodes k d).reg.number < y.reg.number) (is d) (up k i d lt within) in
    record {
      within = λ n k e. ⊎_elim
          (λ (eq : n ≡ x.reg.number).
          let at : get_or after n None ≡ Some i = subst (λ m. get_or after m None ≡ Some i) (sym eq) here in
          let k_is : i ≡ k = cc in
          omega (arith, k_is))
          (λ ne. let lt = t.within n k (sym (same n ne) ∙ e) in omega (arith, lt))
          (cases_eq n x.reg.number);
      hit = λ n k d e. ⊎_elim
          (λ (eq : n ≡ x.reg.number).
          let at : get_or after n None ≡ Some i = subst (λ m. get_or after m None ≡ Some i) (sym eq) here in
          let k_is : i ≡ k = cc in
          subst (λ j. (get_or nodes j d).reg.number ≡ n) k_is (ap (λ (y : Node). y.reg.number) (is d) ∙ sym eq))
          (λ ne. t.hit n k d (sym (same n ne) ∙ e))
          (cases_eq n x.reg.number);
      miss = λ k d lt. ⊎_elim
          (λ (less : k < i).
          let under = lower k d less in
          same (get_or nodes k d).reg.number (λ e. absurd (omega (arith, under, e))) ∙ t.miss k d less)
          (λ (not_less : i ≤ k).
          let eq : i ≡ k = omega (arith, lt, not_less) in
          subst (λ j. get_or after (get_or nodes j d).reg.number None ≡ Some j) eq
          (ap (λ (y : Node). get_or after y.reg.number None) (is d) ∙ here))
          (cases_lt k i);
      below = λ k d lt. ⊎_elim
          (λ (less : k < i). let under = lower k d less in omega (arith, under, whole))
          (λ (not_less : i ≤ k).
          let eq : i ≡ k = omega (arith, lt, not_less) in
          let e : (get_or nodes k d).reg.number ≡ x.reg.number = ap (λ j. (get_or nodes j d).reg.number) (sym eq) ∙
          ap (λ (y : Node). y.reg.number) (is d) in
          omega (arith, e, whole))
          (cases_lt k i);
      next = λ d lt.
          let more : x.reg.number < (get_or nodes (i + 1) d).reg.number =
          subst (λ (y : Node). y.reg.number < (get_or nodes (i + 1) d).reg.number) (is d)
          (up i (i + 1) d (omega arith) lt) in
          omega (arith, more, whole);
    }

-- ---- all nodes

pub all_indexed : (nodes : List Node) (indices : List (Option ℕ)) → Rising nodes →
    IsIndexed nodes (length nodes) indices → IsNodeIndex nodes indices
all_indexed nodes indices up t = record {
  each = λ n. by n (get_or indices n None) refl;
  has = λ k d lt. t.below k d lt;
} where
  by : (n : ℕ) (o : Option ℕ) → get_or indices n None ≡ o → node_by nodes o ≡ node_at nodes n
  by n None e = sym (missing nodes n (λ x c same.
      let m : get_or indices (get_or nodes c.0 x).reg.number None ≡ Some c.0 = t.miss c.0 x c.1 in
      let same_number : (get_or nodes c.0 x).reg.number ≡ n = ap (λ (y : Node). y.reg.number) c.2 ∙ same in
      let k : get_or indices n None ≡ Some c.0 = subst (λ j. get_or indices j None ≡ Some c.0) same_number m in
      cc))
  by n (Some k) e =
      ⊎_elim
      (λ w.
      let x : Node = w.0 in
      let h = t.hit n k x e in
      let is : get_or nodes k x ≡ x = w.3 in
      let number : x.reg.number ≡ n = ap (λ (y : Node). y.reg.number) (sym is) ∙ h in
      let found : node_at nodes x.reg.number ≡ Some x = found_at nodes x up (k, w.1, is) in
      w.2 ∙ sym found ∙ ap (node_at nodes) number)
      (λ w. let lt = t.within n k e in let le = w.0 in absurd (omega (arith, lt, le)))
      (slice_get_cases nodes k).1
