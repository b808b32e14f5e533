-- The lines of a run as they are taken from its end.
use Rattle.std.proofs.Common.{◌≡◌, ℕ, ◌+◌, List, [], ◌∷◌, ◌++◌, map, refl, sym, ap, ◌∙◌, subst, append_assoc, append-nil}
use Rattle.std.specs.Prelude.{reverse}
use Rattle.std.proofs.lemmas.List.{map-append, reverse-append}
use Rattle.lin_ir.specs.declared.lin.Line.{Line}
use Rattle.schedule_rules.specs.Straight.{weight_of_line, Ranked, highest_after, ranked}
use Rattle.schedule_rules.specs.Orders.{rank_line}
use Rattle.schedule.specs.Heights.{ranked_as, IsLater}
use Rattle.schedule.specs.Order.{rank_of, ranks_back, lines_back}
use Rattle.schedule.specs.declared.heights.Later.{Later}
use Rattle.schedule.specs.declared.order.RankedLine.{RankedLine}

ranks_pushed : (xs : List RankedLine) (x : RankedLine) → ranks_back (xs ++ x ∷ []) ≡ rank_of x ∷ ranks_back xs
ranks_pushed xs x =
    ap (λ l. reverse l) (map-append rank_of xs (x ∷ [])) ∙ reverse-append (map rank_of xs) (rank_of x ∷ [])

lines_pushed : (xs : List RankedLine) (x : RankedLine) → lines_back (xs ++ x ∷ []) ≡ x.line ∷ lines_back xs
lines_pushed xs x = ap (λ l. map rank_line l) (ranks_pushed xs x)

-- what is left of a run, the lines that were taken from its end, and what is known of them
pub record AreRanked (run left : List Line) (known : Later) (lines : List RankedLine) : Type 0 where
  pub whole : left ++ lines_back lines ≡ run
  pub ranks : ranks_back lines ≡ ranked (lines_back lines)
  pub later : IsLater (ranks_back lines) known

pub ranked_begun : (run : List Line) (later : Later) (lines : List RankedLine) → lines ≡ [] → IsLater [] later → AreRanked run run later lines
ranked_begun run later lines none h =
    subst (AreRanked run run later) (sym none) (record { whole = append-nil run; ranks = refl; later = h })

pub ranked_more : (run old new : List Line) (i : Line) (height : ℕ) (before after : Later) (xs ys : List RankedLine) →
    old ≡ new ++ i ∷ [] → ys ≡ xs ++ record { line = i; height = height } ∷ [] →
    ((rs : List Ranked) → IsLater rs before → height ≡ weight_of_line i.op + highest_after i rs) →
    ((rs : List Ranked) → IsLater rs before → IsLater (ranked_as i height ∷ rs) after) →
    AreRanked run old before xs → AreRanked run new after ys
ranked_more run old new i height before after xs ys cut made high next h =
    subst (AreRanked run new after) (sym made)
    (record {
      whole = ap (λ l. new ++ l) (lines_pushed xs x) ∙ sym (append_assoc new (i ∷ []) (lines_back xs)) ∙ ap (λ l. l ++ lines_back xs) (sym cut)
          ∙ h.whole;
      ranks = ranks_pushed xs x ∙ ap (λ n. ranked_as i n ∷ ranks_back xs) (high (ranks_back xs) h.later)
          ∙ ap (λ l. ranked_as i (weight_of_line i.op + highest_after i l) ∷ l) h.ranks ∙ sym (ap ranked (lines_pushed xs x));
      later = subst (λ l. IsLater l after) (sym (ranks_pushed xs x)) (next (ranks_back xs) h.later);
    })
  where
    x : RankedLine
    x = record { line = i; height = height }
