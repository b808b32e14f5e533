-- The moves of all numbers.
use Rattle.std.proofs.Common.{◌≡◌, ℕ, zero, suc, ◌+◌, ◌<◌, Bool, true, false, cond, not, ◌&&◌, ⊎_elim, List, [], ◌∷◌, ◌++◌, Some, None, length, refl, sym, ap, ◌∙◌, subst, arith}
use Rattle.std.proofs.lemmas.Bool.{and_parts, not-true}
use Rattle.std.specs.List.{All, AllPairs, Contains}
use Rattle.std.specs.Prelude.{Option, option_to_list, slice_get, slice_index_or}
use Rattle.bs_bits.specs.Set.{has}
use Rattle.dataflow.specs.Rows.{set_in_row}
use Rattle.mach_ir.specs.declared.reg.Reg.{Reg}
use Rattle.mach_ir.specs.declared.mach.Instr.{Instr}
use Rattle.bs_words.proofs.Lists.{none_in, first_in, later_in, in_cons}
use Rattle.sink.specs.Chosen.{some_call, is_sure, move_before, move_at, all_moves}
use Rattle.sink.specs.Runs.{run_start}
use Rattle.sink.specs.declared.chosen.Move.{Move}
use Rattle.sink.specs.declared.sights.Sight.{Sight}
use Rattle.sink.specs.declared.sights.Sight.TheVariants.{Unseen, Once, Often}
use Rattle.liveness.proofs.Steps.{each}
use Rattle.mach_ir.specs.Places.{is_unset_location}

-- ---- lists in order

module _ {A : Type 0} (R : A → A → Type 0) where
  pub pairs_none : AllPairs R []
  pairs_none = λ i j d lt within. absurd (omega (arith, within))

  pub pairs_more : (x : A) (xs : List A) → ((y : A) → Contains xs y → R x y) → AllPairs R xs → AllPairs R (x ∷ xs)
  pairs_more x xs first rest = λ i j d lt within. by i j d lt within
    where
      all : All (R x) xs
      all = each (R x) xs first

      by : (i j : ℕ) (d : A) → i < j → j < length (x ∷ xs) → R (slice_index_or (x ∷ xs) i d) (slice_index_or (x ∷ xs) j d)
      by zero zero d lt within = absurd (omega (arith, lt))
      by zero (suc j) d lt within = all j d (omega (arith, within))
      by (suc i) zero d lt within = absurd (omega (arith, lt))
      by (suc i) (suc j) d lt within = rest i j d (omega (arith, lt)) (omega (arith, within))

  pub pairs_rest : (x : A) (xs : List A) → AllPairs R (x ∷ xs) → AllPairs R xs
  pairs_rest x xs all = λ i j d lt within. all (suc i) (suc j) d (omega (arith, lt)) (omega (arith, within))

  pub pairs_first : (x y : A) (xs : List A) → AllPairs R (x ∷ xs) → Contains xs y → R x y
  pairs_first x y xs all c = subst (R x) c.2 (let within = c.1 in all 0 (suc c.0) y (omega arith) (omega (arith, within)))

-- ---- one move

pub record Moved (code : List Instr) (stale : List (List Bool)) (mixed : List Bool) (o : Option Reg) (s : Sight) (move : Move) : Type 0 where
  pub call : ℕ
  pub reg : o ≡ Some move.reg
  pub sight : s ≡ Once call
  pub open_place : is_unset_location move.reg.loc ≡ true
  pub calls : some_call (slice_get code call) ≡ true
  pub surely : has (set_in_row stale call) move.reg.number ≡ false
  pub unmixed : has mixed move.reg.number ≡ false
  pub begins : run_start code move.reg.number call ≡ Some move.place

module _ (code : List Instr) (stale : List (List Bool)) (mixed : List Bool) where
  abbrev test : Reg → ℕ → Bool
  test r p = is_sure code stale mixed r p

  none_some : (move : Move) → None ≡ Some move → ⊥
  none_some move e = cc

  some_same : (a b : Move) → Some a ≡ Some b → a ≡ b
  some_same a b e = cc

  pub moved : (o : Option Reg) (s : Sight) (move : Move) → move_at code stale mixed o s ≡ Some move → Moved code stale mixed o s move
  moved None s move e = absurd (none_some move e)
  moved (Some r) Unseen move e = absurd (none_some move e)
  moved (Some r) Often move e = absurd (none_some move e)
  moved (Some r) (Once p) move e = by (test r p) refl e
    where
      by : (b : Bool) → test r p ≡ b → cond b (move_before r (run_start code r.number p)) None ≡ Some move →
          Moved code stale mixed (Some r) (Once p) move
      by false t e = absurd (none_some move e)
      by true t e = begun (run_start code r.number p) refl e
        where
          begun : (o : Option ℕ) → run_start code r.number p ≡ o → move_before r o ≡ Some move → Moved code stale mixed (Some r) (Once p) move
          begun None s e = absurd (none_some move e)
          begun (Some q) s e =
              let same : record { reg = r; place = q } ≡ move = some_same (record { reg = r; place = q }) move e in
              let x = and_parts (is_unset_location r.loc) (some_call (slice_get code p) && (not (has (set_in_row stale p) r.number) && not (has mixed r.number))) t in
              let y = and_parts (some_call (slice_get code p)) (not (has (set_in_row stale p) r.number) && not (has mixed r.number)) x.1 in
              let z = and_parts (not (has (set_in_row stale p) r.number)) (not (has mixed r.number)) y.1 in
              subst (Moved code stale mixed (Some r) (Once p)) same
              (record {
                call = p;
                reg = refl;
                sight = refl;
                open_place = x.0;
                calls = y.0;
                surely = not-true (has (set_in_row stale p) r.number) z.0;
                unmixed = not-true (has mixed r.number) z.1;
                begins = s;
              })

  sure_from : (a b c d : Bool) → a ≡ true → b ≡ true → c ≡ false → d ≡ false → a && (b && (not c && not d)) ≡ true
  sure_from a b c d e f g h = cc

  pub moves_at : (r : Reg) (p q : ℕ) → is_unset_location r.loc ≡ true → some_call (slice_get code p) ≡ true → has (set_in_row stale p) r.number ≡ false →
      has mixed r.number ≡ false → run_start code r.number p ≡ Some q →
      move_at code stale mixed (Some r) (Once p) ≡ Some (record { reg = r; place = q })
  moves_at r p q a b c d e =
      ap (λ x. cond x (move_before r (run_start code r.number p)) None)
      (sure_from (is_unset_location r.loc) (some_call (slice_get code p)) (has (set_in_row stale p) r.number) (has mixed r.number) a b c d)
      ∙ ap (move_before r) e

  -- ---- all moves

  pub in_moves : (rs : List (Option Reg)) (ss : List Sight) (move : Move) → Contains (all_moves code stale mixed rs ss) move →
      (k : ℕ) × (k < length ss) × (move_at code stale mixed (slice_index_or rs k None) (slice_index_or ss k Unseen) ≡ Some move)
  in_moves [] ss move c = absurd (none_in move c)
  in_moves (r ∷ rs) [] move c = absurd (none_in move c)
  in_moves (r ∷ rs) (s ∷ ss) move c = by (in_moves rs ss move) (move_at code stale mixed r s) refl c
    where
      by : (Contains (all_moves code stale mixed rs ss) move →
          (k : ℕ) × (k < length ss) × (move_at code stale mixed (slice_index_or rs k None) (slice_index_or ss k Unseen) ≡ Some move)) →
          (o : Option Move) → move_at code stale mixed r s ≡ o → Contains (option_to_list o ++ all_moves code stale mixed rs ss) move →
          (k : ℕ) × (k < length (s ∷ ss)) × (move_at code stale mixed (slice_index_or (r ∷ rs) k None) (slice_index_or (s ∷ ss) k Unseen) ≡ Some move)
      by known None e c = let x = known c in let lt = x.1 in (suc x.0, omega (arith, lt), x.2)
      by known (Some x) e c =
          ⊎_elim (λ same. (0, omega arith, e ∙ ap Some same)) (λ d. let x = known d in let lt = x.1 in (suc x.0, omega (arith, lt), x.2))
          (in_cons x move (all_moves code stale mixed rs ss) c)

  pub moves_in : (rs : List (Option Reg)) (ss : List Sight) (k : ℕ) (move : Move) → k < length rs → k < length ss →
      move_at code stale mixed (slice_index_or rs k None) (slice_index_or ss k Unseen) ≡ Some move → Contains (all_moves code stale mixed rs ss) move
  moves_in [] ss k move lt small e = absurd (omega (arith, lt))
  moves_in (r ∷ rs) [] k move lt small e = absurd (omega (arith, small))
  moves_in (r ∷ rs) (s ∷ ss) zero move lt small e =
      subst (λ o. Contains (option_to_list o ++ all_moves code stale mixed rs ss) move) (sym e) (first_in move (all_moves code stale mixed rs ss))
  moves_in (r ∷ rs) (s ∷ ss) (suc k) move lt small e =
      by (move_at code stale mixed r s) (moves_in rs ss k move (omega (arith, lt)) (omega (arith, small)) e)
    where
      by : (o : Option Move) → Contains (all_moves code stale mixed rs ss) move → Contains (option_to_list o ++ all_moves code stale mixed rs ss) move
      by None c = c
      by (Some x) c = later_in x move (all_moves code stale mixed rs ss) c

  abbrev Rises : Move → Move → Type 0
  Rises x y = x.reg.number < y.reg.number

  further : (b n k : ℕ) → n ≡ b + suc k → n ≡ suc b + k
  further b n k e = omega (arith, e)

  above : (b n l k : ℕ) → n ≡ b + 0 → l ≡ b + suc k → n < l
  above b n l k e h = omega (arith, e, h)

  pub moves_rise : (rs : List (Option Reg)) (ss : List Sight) (b : ℕ) →
      ((k : ℕ) (r : Reg) → slice_index_or rs k None ≡ Some r → r.number ≡ b + k) → AllPairs Rises (all_moves code stale mixed rs ss)
  moves_rise [] ss b known = pairs_none Rises
  moves_rise (r ∷ rs) [] b known = pairs_none Rises
  moves_rise (r ∷ rs) (s ∷ ss) b known =
      by (moves_rise rs ss (suc b) (λ k r e. further b r.number k (known (suc k) r e))) (move_at code stale mixed r s) refl
    where
      by : AllPairs Rises (all_moves code stale mixed rs ss) → (o : Option Move) → move_at code stale mixed r s ≡ o →
          AllPairs Rises (option_to_list o ++ all_moves code stale mixed rs ss)
      by others None e = others
      by others (Some x) e =
          let mine = moved r s x e in
          pairs_more Rises x (all_moves code stale mixed rs ss)
          (λ y c.
          let z = in_moves rs ss y c in
          let theirs = moved (slice_index_or rs z.0 None) (slice_index_or ss z.0 Unseen) y z.2 in
          above b x.reg.number y.reg.number z.0 (known 0 x.reg mine.reg) (known (suc z.0) y.reg theirs.reg)) others
