-- Lines in another order are as well formed as they were.
use Rattle.std.proofs.Common.{◌≡◌, ◌≢◌, ℕ, true, List, All, AllPairs, refl, sym, ap, ◌∙◌, subst}
use Rattle.std.proofs.lemmas.Bool.{true≢false}
use Rattle.std.specs.List.{Contains}
use Rattle.bs_words.specs.declared.types.Loc.{Loc}
use Rattle.lin_ir.specs.Formed.{IsFormedLine, IsHome, is_colour, is_slot, EntersAt, enters_here, enters_below, Seated, WellFormed, labels_in}
use Rattle.lin_ir.specs.declared.lin.Line.{Line}
use Rattle.lin_ir.specs.declared.lin.Lin.{Lin}
use Rattle.lin_ir.specs.declared.lin.Spot.{Spot}
use Rattle.linearise_rules.proofs.Homes.{in_of, contains_of}
use Rattle.linearise_rules.proofs.Lines.{all_of}
use Rattle.linearise_rules.proofs.Marks.{all_in}
use Rattle.lin_tidy_rules.specs.Leaving.{with_code}
use Rattle.lin_tidy_rules.specs.Regular.{AtHomes, IsRegular}
use Rattle.lin_tidy_rules.proofs.Shape.{spare_free}
use Rattle.schedule_rules.specs.Straight.{is_plain}
use Rattle.schedule_rules.specs.Orders.{Ordered}
use Rattle.schedule_rules.proofs.Lines.{ordered_lines}
use Rattle.schedule_rules.proofs.Located.{located_kept}
use Rattle.schedule_rules.proofs.Sums.{ordered_labels}
use Rattle.scheduled_lines.proofs.InStep.{InStep, both_plain, same_line, in_step}
use Rattle.scheduled_lines.proofs.Walks.{balance, down, one_traps}

-- A handler's entry is right after its label: neither is of a run.
enters : {l : ℕ} {code other : List Line} → EntersAt l code → InStep code other → EntersAt l other
enters (enters_here e u) (both_plain p q s) = absurd (true≢false (sym p ∙ ap is_plain e))
enters (enters_here e u) (same_line (both_plain p q s)) = absurd (true≢false (sym p ∙ ap is_plain u))
enters (enters_here e u) (same_line (same_line s)) = enters_here e u
enters (enters_below h) (both_plain p q s) = enters_below (enters h s)
enters (enters_below h) (same_line s) = enters_below (enters h s)

module _ (m : Lin) (code : List Line) (order : Ordered m.code code) where
  abbrev pub R : Lin
  R = with_code m code

  pub was_in : (i : Line) → Contains code i → Contains m.code i
  was_in i c = (ordered_lines m.code code order i).0 c

  -- what holds of each line still does
  pub all_kept : (P : Line → Type 0) → All P m.code → All P code
  all_kept P h = all_of P code (λ i z. all_in P h (in_of i m.code (was_in i (contains_of z))))

  home_kept : {l : Loc} → IsHome m l → IsHome R l
  home_kept (is_colour z) = is_colour z
  home_kept (is_slot lt) = is_slot lt

  spots_kept : (ss : List Spot) → AtHomes m ss → AtHomes R ss
  spots_kept ss h = all_of (λ (s : Spot). IsHome R s.loc) ss (λ s z. home_kept (all_in (λ (s : Spot). IsHome m s.loc) h z))

  abbrev HomesOf : Line → Type 0
  HomesOf i = AtHomes R i.args × AtHomes R i.results

  module _ (regular : IsRegular m) where
    homes : All HomesOf code
    homes =
        all_of HomesOf code
        (λ i z.
        let h = all_in (λ (i : Line). AtHomes m i.args × AtHomes m i.results) regular.homes (in_of i m.code (was_in i (contains_of z))) in
        (spots_kept i.args h.0, spots_kept i.results h.1))

    well : WellFormed R
    well =
        let old = regular.well in
        let labels : labels_in code ≡ labels_in m.code = ordered_labels m.code code order in
        record {
          forms = all_kept IsFormedLine old.forms;
          returns = λ i c. old.returns i (was_in i c);
          params = spots_kept m.params old.params;
          locations = located_kept m R order refl old.locations;
          spare = spare_free R homes;
          labels = subst (λ ls. AllPairs (λ k l. k ≢ l) ls) (sym labels) old.labels;
          named = λ i c l n. subst (λ ls. Contains ls l) (sym labels) (old.named i (was_in i c) l n);
          handlers = λ i c l e. enters (old.handlers i (was_in i c) l e) (in_step order);
          traps = balance m R (in_step order) regular.traps old.traps;
        }

    seated : Seated R
    seated =
        record {
          params = regular.seated.params;
          operands = λ i c. regular.seated.operands i (was_in i c);
          results = λ i c. regular.seated.results i (was_in i c);
        }

    pub regular_kept : IsRegular R
    regular_kept =
        record {
          well = well;
          homes = homes;
          traps = one_traps m R (in_step order) regular.traps;
          down = down m R (in_step order) regular.down;
          seated = seated;
          changes = λ i c from to z. regular.changes i (was_in i c) from to z;
        }
