-- How a machine comes to a state, one stretch after the other.
use Rattle.std.proofs.Common.{◌≡◌, ◌⊎◌, inl, inr, ℕ, zero, suc, ◌+◌, ◌≤◌, List, [], ◌++◌, sym, ap, subst, ◌∙◌, append_assoc, append-nil, arith}
use Rattle.bs_words.specs.Observed.{Made}
use Rattle.machine_laws.specs.Steps.{moments, IsFrontOf}
use Rattle.meaning_laws.specs.Units.{IsPrefixOf}
use Rattle.rv_machine.specs.Run.{Seen}
use Rattle.linking.specs.Carries.{Out, no_stack, no_heap, EventuallyHolds}

pub front_same : (made : List Made) → IsFrontOf made made
front_same made = ([], sym (append-nil made))

pub front_begins : (a b c : List Made) → IsFrontOf a b → IsPrefixOf b c → IsFrontOf a c
front_begins a b c p q = (p.0 ++ q.further, q.is ∙ ap (λ (l : List Made). l ++ q.further) p.1 ∙ append_assoc a p.0 q.further)

pub front_trans : (a b c : List Made) → IsFrontOf a b → IsFrontOf b c → IsFrontOf a c
front_trans a b c p q = (p.0 ++ q.0, q.1 ∙ ap (λ (l : List Made). l ++ q.0) p.1 ∙ append_assoc a p.0 q.0)

module _ (X : Type 0) (next : X → X) where
  pub moments_add : (m n : ℕ) (x : X) → moments next (m + n) x ≡ moments next n (moments next m x)
  moments_add zero n x = let e : 0 + n ≡ n = omega arith in ap (λ k. moments next k x) e
  moments_add (suc m) n x = let e : suc m + n ≡ suc (m + n) = omega arith in ap (λ k. moments next k x) e ∙ moments_add m n (next x)

module _ (X : Type 0) (next : X → X) (see : X → Seen) (stack heap : ℕ) where
  pub out_more : {s h t i : ℕ} {made more : List Made} → s ≤ t → h ≤ i → IsPrefixOf made more → (x : X) →
      Out X next see stack heap s h made x → Out X next see stack heap t i more x
  out_more {made = made} {more = more} st hp b x (no_stack lt end calls) = no_stack (omega (arith, st, lt)) end (front_begins _ made more calls b)
  out_more {made = made} {more = more} st hp b x (no_heap lt end calls) = no_heap (omega (arith, hp, lt)) end (front_begins _ made more calls b)

  -- first to P, and from there to Q
  pub comes_on : {s h t i : ℕ} {made more : List Made} {P Q : ℕ → X → Type 0} (x : X) → s ≤ t → h ≤ i → IsPrefixOf made more →
      EventuallyHolds X next see stack heap s h made P x →
      ((c : ℕ) (y : X) → P c y → EventuallyHolds X next see stack heap t i more (λ d z. Q (c + d) z) y) → EventuallyHolds X next see stack heap t i more Q x
  comes_on {s} {h} {t} {i} {made} {more} {P} {Q} x st hp b c on = by c.at
    where
      by : P c.count (moments next c.count x) ⊎ Out X next see stack heap s h made (moments next c.count x) → EventuallyHolds X next see stack heap t i more Q x
      by (inl p) =
          let d = on c.count (moments next c.count x) p in
          let e = moments_add X next c.count d.count x in
          record {
            count = c.count + d.count;
            at = subst (λ y. Q (c.count + d.count) y ⊎ Out X next see stack heap t i more y) (sym e) d.at;
          }
      by (inr o) = record { count = c.count; at = inr (out_more st hp b (moments next c.count x) o) }

  pub comes_map : {s h t i : ℕ} {made more : List Made} {P Q : ℕ → X → Type 0} (x : X) → s ≤ t → h ≤ i → IsPrefixOf made more →
      EventuallyHolds X next see stack heap s h made P x → ((c : ℕ) (y : X) → P c y → Q c y) → EventuallyHolds X next see stack heap t i more Q x
  comes_map {s} {h} {t} {i} {made} {more} {P} {Q} x st hp b c on = by c.at
    where
      by : P c.count (moments next c.count x) ⊎ Out X next see stack heap s h made (moments next c.count x) → EventuallyHolds X next see stack heap t i more Q x
      by (inl p) = record { count = c.count; at = inl (on c.count (moments next c.count x) p) }
      by (inr o) = record { count = c.count; at = inr (out_more st hp b (moments next c.count x) o) }

  pub comes_now : {s h : ℕ} {made : List Made} {P : ℕ → X → Type 0} (x : X) → P 0 x → EventuallyHolds X next see stack heap s h made P x
  comes_now x p = record { count = 0; at = inl p }
