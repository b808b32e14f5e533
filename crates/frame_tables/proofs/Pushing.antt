-- The table of pushed traps is that of the walks.
use Rattle.std.proofs.Common.{◌≡◌, ◌≢◌, ℕ, suc, ◌+◌, ◌-◌, ◌<◌, ◌≤◌, ◌⊎◌, inl, inr, ⊎_elim, List, ◌∷◌, Some, length, drop, slice_index, slice_set, sym, ap, ◌∙◌, subst, arith, get_or-set_same, get_or-set_other, length-set, replicate}
use Rattle.std.specs.Prelude.{slice_get}
use Rattle.std.proofs.lemmas.Bool.{cases_lt}
use Rattle.std.proofs.lemmas.List.{get_or_past, get_or-replicate, length-replicate}
use Rattle.std.proofs.lemmas.Option.{slice_get_within}
use Rattle.lin_ir.specs.Walks.{Reached, StandsAsLine, here, below, OneDepth, by_walk}
use Rattle.lin_ir.specs.declared.lin.Line.{Line}
use Rattle.lin_ir.specs.declared.lin.Lin.{Lin}
use Rattle.lin_laws.specs.Graph.{line_index, position, AreReached}
use Rattle.lin_laws.specs.declared.position.Position.{Position}
use Rattle.lin_flow.specs.Nodes.{AreWalkedTo}
use Rattle.frame_tables.specs.Pushed.{AreTabled, AreCounted}
use Rattle.bs_words.proofs.Lists.{same_some}

module _ (m : Lin) (all : List Position) where
  zeros : (n left : ℕ) → slice_index (replicate n 0) left ≡ 0
  zeros n left = ⊎_elim (λ lt. get_or-replicate n left 0 0 lt) (λ le. get_or_past (replicate n 0) left 0 (omega (arith, le, length-replicate {A = ℕ} n 0))) (cases_lt left n)

  pub tabled_none : (lines : ℕ) (table : List ℕ) → table ≡ replicate lines 0 → lines ≡ length m.code → AreTabled m all 0 table
  tabled_none lines table is e =
      record {
        len = ap length is ∙ length-replicate lines 0 ∙ e;
        each = λ q x lt at within. absurd (omega (arith, lt));
        none = λ left out. ap (λ ts. slice_index ts left) is ∙ zeros lines left;
      }

  -- the place after the last line is that of no line
  pub tabled_past : (k : ℕ) (x : Position) (table : List ℕ) → slice_get all k ≡ Some x → (x.place < length m.code → ⊥) →
      AreTabled m all k table → AreTabled m all (k + 1) table
  tabled_past k x table at past t =
      record {
        len = t.len;
        each = λ q y lt is within.
            ⊎_elim (λ less. t.each q y less is within)
            (λ more.
            let same : q ≡ k = omega (arith, lt, more) in
            let one : x ≡ y = same_some x y (sym at ∙ ap (slice_get all) (sym same) ∙ is) in
            absurd (past (subst (λ (y : Position). y.place < length m.code) (sym one) within))) (cases_lt q k);
        none = t.none;
      }

  pub tabled_more : OneDepth m → AreWalkedTo m all → (k : ℕ) (x : Position) (table new : List ℕ) (index count : ℕ) → slice_get all k ≡ Some x →
      x.place < length m.code → index ≡ length m.code - suc x.place → count ≡ length x.tries → new ≡ slice_set table index count →
      AreTabled m all k table → AreTabled m all (k + 1) new
  tabled_more depth walked k x table new index count at within where_at is_count made t =
      record {
        len = ap length made ∙ length-set table index count ∙ t.len;
        each = λ q y lt is fits.
            ap (λ ts. slice_index ts (length m.code - suc y.place)) made
            ∙ by q y lt is fits;
        none = λ left out.
            ap (λ ts. slice_index ts left) made
            ∙ get_or-set_other table index left count 0 (λ e. out k x at within (sym (e ∙ where_at)))
            ∙ t.none left out;
      }
    where
      -- both are come to at one place
      one_place : (q : ℕ) (y : Position) → slice_get all q ≡ Some y → x.place ≡ y.place → length x.tries ≡ length y.tries
      one_place q y is same =
          let here_x : Reached m (drop x.place m.code) x.tries = walked.each k x at in
          let here_y : Reached m (drop y.place m.code) y.tries = walked.each q y is in
          depth.one (drop y.place m.code) x.tries y.tries (by_walk (subst (λ p. Reached m (drop p m.code) x.tries) same here_x)) (by_walk here_y)

      stored : (y : Position) → x.place ≡ y.place → slice_index (slice_set table index count) (length m.code - suc y.place) ≡ count
      stored y same =
          let e : length m.code - suc y.place ≡ index = ap (λ p. length m.code - suc p) (sym same) ∙ sym where_at in
          let len = t.len in
          let lt : index < length table = omega (arith, where_at, within, len) in
          ap (slice_index (slice_set table index count)) e ∙ get_or-set_same table index count 0 lt

      apart : (a b n : ℕ) → a < n → b < n → n - suc a ≡ n - suc b → a ≡ b
      apart a b n la lb e = omega (arith, la, lb, e)

      here_again : (q : ℕ) (y : Position) → slice_get all q ≡ Some y → x.place ≡ y.place →
          slice_index (slice_set table index count) (length m.code - suc y.place) ≡ length y.tries
      here_again q y is same = stored y same ∙ is_count ∙ one_place q y is same

      elsewhere : (q : ℕ) (y : Position) → q < k + 1 → slice_get all q ≡ Some y → y.place < length m.code → x.place ≢ y.place →
          slice_index (slice_set table index count) (length m.code - suc y.place) ≡ length y.tries
      elsewhere q y lt is fits differ =
          get_or-set_other table index (length m.code - suc y.place) count 0
          (λ e. differ (sym (apart y.place x.place (length m.code) fits within (e ∙ where_at))))
          ∙ t.each q y (earlier (cases_lt q k)) is fits
        where
          earlier : (q < k) ⊎ (k ≤ q) → q < k
          earlier (inl less) = less
          earlier (inr more) =
              let same : q ≡ k = omega (arith, lt, more) in
              let one : x ≡ y = same_some x y (sym at ∙ ap (slice_get all) (sym same) ∙ is) in
              absurd (differ (ap (λ (y : Position). y.place) one))

      by : (q : ℕ) (y : Position) → q < k + 1 → slice_get all q ≡ Some y → y.place < length m.code →
          slice_index (slice_set table index count) (length m.code - suc y.place) ≡ length y.tries
      by q y lt is fits =
          ⊎_elim (λ less. elsewhere q y lt is fits (λ e. no_less x.place y.place less e))
          (λ le. ⊎_elim (λ less. elsewhere q y lt is fits (λ e. no_less y.place x.place less (sym e)))
          (λ ge. here_again q y is (omega (arith, le, ge))) (cases_lt y.place x.place)) (cases_lt x.place y.place)
        where
          no_less : (a b : ℕ) → a < b → a ≡ b → ⊥
          no_less a b less e = omega (arith, less, e)

  -- the table is that of the walks
  pub counted_by : AreReached m all → (table : List ℕ) → AreTabled m all (length all) table → AreCounted m (λ left. slice_index table left)
  counted_by all_walks table t =
      record {
        pushed = record {
          pushed = λ i next s tries r.
              let h = all_walks.complete (i ∷ next) tries r in
              let p : ℕ = line_index m (i ∷ next) in
              let lt : h.0 < length all = slice_get_within all h.0 (position p tries) h.1 in
              let le : suc (length next) ≤ length m.code = fits s in
              let within : p < length m.code = omega (arith, le) in
              let back : length next ≡ length m.code - suc p = omega (arith, le) in
              ap (slice_index table) back ∙ t.each h.0 (position p tries) lt h.1 within;
        };
        unreached = λ i next s out.
            t.none (length next)
            (λ q x at within same.
            let there : x.place ≡ length m.code - suc (length next) = omega (arith, within, same) in
            out x.tries (subst (λ xs. Reached m xs x.tries) (ap (λ p. drop p m.code) there ∙ standing s) (all_walks.sound q x at)));
      }
    where
      fits : {i : Line} {next code : List Line} → StandsAsLine i next code → suc (length next) ≤ length code
      fits here = omega arith
      fits (below s) = let le = fits s in omega (arith, le)

      first : (n : ℕ) → suc n - suc n ≡ 0
      first n = omega arith

      later : (a n : ℕ) → suc n ≤ a → suc a - suc n ≡ suc (a - suc n)
      later a n le = omega (arith, le)

      standing : {i : Line} {next code : List Line} → StandsAsLine i next code → drop (length code - suc (length next)) code ≡ i ∷ next
      standing {i} {next} here = ap (λ k. drop k (i ∷ next)) (first (length next))
      standing {next = next} (below {j = j} {is = is} s) = ap (λ k. drop k (j ∷ is)) (later (length is) (length next) (fits s)) ∙ standing s
