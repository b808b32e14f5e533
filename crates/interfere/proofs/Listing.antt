-- The members of a set, one after the other.
use Rattle.std.proofs.Common.{◌≡◌, ℕ, ◌+◌, ◌<◌, ◌≤◌, Bool, true, false, ◌⊎◌, inl, inr, ⊎_elim, List, [], ◌∷◌, ◌++◌}
use Rattle.std.proofs.Common.{length, get_or, sym, subst, arith}
use Rattle.std.specs.List.{AllPairs, Contains}
use Rattle.std.proofs.lemmas.Bool.{cases_lt}
use Rattle.std.proofs.lemmas.List.{get_or_past}
use Rattle.std.proofs.lemmas.List.Elements.{Contains-get_or, Contains-append_left, Contains-append_right, Contains-append_cases}
use Rattle.std.proofs.lemmas.List.Quantifiers.{all_pairs_push}
use Rattle.bs_bits.specs.Set.{has, IsNext, HasNoneFrom}
use Rattle.bs_words.proofs.Lists.{none_in, first_in, in_cons}
use Rattle.interfere.specs.Members.{AreMembers}

-- the members below a number
pub record AreMembersBelow (set : List Bool) (from : ℕ) (members : List ℕ) : Type 0 where
  pub sorted : AllPairs ◌<◌ members
  pub sound : (k : ℕ) → Contains members k → (k < from) × (has set k ≡ true)
  pub whole : (k : ℕ) → k < from → has set k ≡ true → Contains members k

-- a number that is a member is below the size
pub member_below : (set : List Bool) (k : ℕ) → has set k ≡ true → k < length set
member_below set k e =
    ⊎_elim (λ lt. lt) (λ le. let f : has set k ≡ false = get_or_past set k false le in absurd (cc)) (cases_lt k (length set))

pub below_more : (set : List Bool) (from next : ℕ) (old new : List ℕ) → new ≡ old ++ next ∷ [] → IsNext set from next →
    AreMembersBelow set from old → AreMembersBelow set (next + 1) new
below_more set from next old new made is before =
    subst (AreMembersBelow set (next + 1)) (sym made)
    (record {
      sorted = all_pairs_push ◌<◌ old next before.sorted
          (λ k d lt. let s = (before.sound (get_or old k d) (Contains-get_or old k d lt)).0 in let up = is.not_below in omega (arith, s, up));
      sound = λ k c. by k (Contains-append_cases old (next ∷ []) k c);
      whole = λ k lt h. ⊎_elim (λ l. Contains-append_left old (next ∷ []) k (before.whole k l h))
          (λ l. ⊎_elim (λ l2. absurd (let f : has set k ≡ false = is.least k l l2 in cc))
          (λ l2. let e : next ≡ k = omega (arith, lt, l2) in subst (Contains (old ++ next ∷ [])) e (Contains-append_right old (next ∷ []) next (first_in next [])))
          (cases_lt k next)) (cases_lt k from);
    })
  where
    by : (k : ℕ) → Contains old k ⊎ Contains (next ∷ []) k → (k < next + 1) × (has set k ≡ true)
    by k (inl c) = let s = before.sound k c in let up = is.not_below in let lt = s.0 in (omega (arith, lt, up), s.1)
    by k (inr c) =
        ⊎_elim (λ e. subst (λ k. (k < next + 1) × (has set k ≡ true)) e (omega arith, is.member)) (λ z. absurd (none_in k z))
        (in_cons next k [] c)

-- no member is left
pub below_end : (set : List Bool) (from size : ℕ) (members : List ℕ) → from ≤ size → HasNoneFrom set from →
    AreMembersBelow set from members → AreMembersBelow set size members
below_end set from size members le none before =
    record {
      sorted = before.sorted;
      sound = λ k c. let s = before.sound k c in let lt = s.0 in (omega (arith, lt, le), s.1);
      whole = λ k lt h. ⊎_elim (λ l. before.whole k l h) (λ l. absurd (let f : has set k ≡ false = none k l in cc)) (cases_lt k from);
    }

pub below_all : (set : List Bool) (from : ℕ) (members : List ℕ) → length set ≤ from → AreMembersBelow set from members → AreMembers set members
below_all set from members le are =
    record {
      sorted = are.sorted;
      each = λ k. (
        λ c. (are.sound k c).1,
        λ h. let lt = member_below set k h in are.whole k (omega (arith, lt, le)) h,
      );
    }
