-- What is live at a place of a function all of whose locations are its own is at a location.
use Rattle.std.proofs.Common.{◌≡◌, ◌≢◌, ℕ, Bool, true, false, cond, List, [], ◌∷◌, ◌++◌, refl, sym, ◌∙◌, subst, ◌<◌}
use Rattle.std.proofs.lemmas.List.Elements.{Contains-get_or}
use Rattle.std.specs.List.{Contains}
use Rattle.std.specs.Prelude.{slice_index_or}
use Rattle.bs_words.proofs.Lists.{first_in, later_in}
use Rattle.bs_words.specs.declared.types.Comp.{Comp}
use Rattle.bs_words.specs.declared.types.Loc.{Loc}
use Rattle.bs_words.specs.declared.types.Loc.TheVariants as loc
use Rattle.mach_ir.specs.Acts.{Target, On, At}
use Rattle.lin_ir.specs.Formed.{IsHome, is_colour, is_slot, IsLocation, is_home, is_spare, spare, Locates, AreLocated}
use Rattle.lin_ir.specs.Meaning.{has_label, after_label, code_at}
use Rattle.lin_ir.specs.Walks.{LineWalkStep, Raises, ReadsLocationAs, Live, read, on, aside, LiveAcross, across_step, across_raise, StandsAsLine, here, below, Reached, at_entry, by_step, by_raise}
use Rattle.lin_ir.specs.Walks as walks
use Rattle.lin_ir.specs.declared.lin.Line.{Line}
use Rattle.lin_ir.specs.declared.lin.Lin.{Lin}
use Rattle.lin_ir.specs.declared.lin.Spot.{Spot}
use Rattle.schedule_rules.specs.Orders.{Ordered}
use Rattle.schedule_rules.proofs.Lines.{ordered_lines}
use Rattle.schedule_rules.proofs.Walked.{EndOf, all_of_it, less}

-- ---- ends of code

pub label_end : (l : ℕ) (whole code : List Line) → EndOf whole code → EndOf whole (after_label l code)
label_end l whole [] e = e
label_end l whole (i ∷ is) e = by (has_label l i.op) (label_end l whole is (less e))
  where
    by : (b : Bool) → EndOf whole (after_label l is) → EndOf whole (cond b is (after_label l is))
    by true z = less e
    by false z = z

pub goes_end : (whole next : List Line) (t : Target) → EndOf whole next → EndOf whole (code_at whole next t)
goes_end whole next On e = e
goes_end whole next (At l) e = label_end l whole whole all_of_it

pub rest_end : (whole xs rest : List Line) → EndOf whole (xs ++ rest) → EndOf whole rest
rest_end whole [] rest e = e
rest_end whole (x ∷ xs) rest e = rest_end whole xs rest (less e)

next_stands : {x i : Line} {next whole : List Line} → StandsAsLine x (i ∷ next) whole → StandsAsLine i next whole
next_stands here = below here
next_stands (below s) = below (next_stands s)

end_is : (whole code : List Line) → EndOf whole code → (i : Line) (next : List Line) → code ≡ i ∷ next → StandsAsLine i next whole
end_is whole _ all_of_it i next e = subst (StandsAsLine i next) (sym e) here
end_is whole _ (less {x = x} {xs = xs} z) i next e = next_stands (subst (λ k. StandsAsLine x k whole) e (end_is whole (x ∷ xs) z x xs refl))

pub end_stands : (whole : List Line) (i : Line) (next : List Line) → EndOf whole (i ∷ next) → StandsAsLine i next whole
end_stands whole i next e = end_is whole (i ∷ next) e i next refl

-- ---- walks stay in the code

pub step_end : (m : Lin) (i : Line) (next to : List Line) (tries left : List ℕ) → LineWalkStep m i next tries to left → EndOf m.code (i ∷ next) → EndOf m.code to
step_end m i next _ tries _ (walks.goes k z) end = goes_end m.code next k (less end)

pub raise_end : (m : Lin) (i : Line) (to : List Line) (tries left : List ℕ) → Raises m i tries to left → EndOf m.code to
raise_end m i _ _ left (walks.raises {h = h} x) = label_end h m.code m.code all_of_it

pub reached_end : (m : Lin) {code : List Line} {tries : List ℕ} → Reached m code tries → EndOf m.code code
reached_end m at_entry = all_of_it
reached_end m (by_step {i = i} {next = next} {to = to} {tries = tries} {left = left} x z) = step_end m i next to tries left z (reached_end m x)
reached_end m (by_raise {i = i} {next = next} {to = to} {tries = tries} {left = left} x z) = raise_end m i to tries left z

-- ---- what the code reads

stands_among : {i : Line} {next code : List Line} → StandsAsLine i next code → Contains code i
stands_among {i = i} {next = next} here = first_in i next
stands_among {i = i} (below {j = j} {is = is} s) = later_in j i is (stands_among s)

location_set : (m : Lin) (l : Loc) → IsLocation m l → l ≢ loc.Unset
location_set m l (is_home h) = home_set l h
  where
    colour_unset : (n : ℕ) → loc.Machine n ≡ loc.Unset → ⊥
    colour_unset n e = cc

    slot_unset : (n : ℕ) → loc.Slot n ≡ loc.Unset → ⊥
    slot_unset n e = cc

    home_set : (l : Loc) → IsHome m l → l ≡ loc.Unset → ⊥
    home_set _ (is_colour {n = n} c) e = colour_unset n e
    home_set _ (is_slot {k = k} c) e = slot_unset k e
location_set m l (is_spare e) = λ u. no (sym e ∙ u)
  where
    no : spare ≡ loc.Unset → ⊥
    no e = cc

module _ (m : Lin) (located : AreLocated m) (l : Loc) (t : Comp) where
  reads_set : (i : Line) (next : List Line) → EndOf m.code (i ∷ next) → ReadsLocationAs l t i → l ≢ loc.Unset
  reads_set i next end r =
      let c = stands_among (end_stands m.code i next end) in
      let both = subst (λ (k : Line). Locates m k.args × Locates m k.results) c.2 (located c.0 i c.1) in
      location_set m l (subst (λ (s : Spot). IsLocation m s.loc) r.2 (both.0 r.0 (record { loc = l; comp = t }) r.1))

  live_set : {code : List Line} {tries : List ℕ} → Live m l t code tries → EndOf m.code code → l ≢ loc.Unset
  live_set (read {i = i} {next = next} x) end = reads_set i next end x
  live_set (on {i = i} {next = next} {to = to} {tries = tries} {left = left} w z v) end = live_set v (step_end m i next to tries left z end)
  live_set (aside {i = i} {next = next} {to = to} {tries = tries} {left = left} z v) end = live_set v (raise_end m i to tries left z)

  pub across_set : (i : Line) (next : List Line) (tries : List ℕ) → EndOf m.code (i ∷ next) → LiveAcross m l t i next tries → l ≢ loc.Unset
  across_set i next tries end (across_step {to = to} {left = left} w z v) = live_set v (step_end m i next to tries left z end)
  across_set i next tries end (across_raise {to = to} {left = left} z v) = live_set v (raise_end m i to tries left z)

-- ---- the function with its runs reordered

home_moved : (m r : Lin) → m.slots ≡ r.slots → (l : Loc) → IsHome m l → IsHome r l
home_moved m r e _ (is_colour {n = n} c) = is_colour c
home_moved m r e _ (is_slot {k = k} lt) = is_slot (subst (λ n. k < n) e lt)

location_moved : (m r : Lin) → m.slots ≡ r.slots → (l : Loc) → IsLocation m l → IsLocation r l
location_moved m r e l (is_home h) = is_home (home_moved m r e l h)
location_moved m r e l (is_spare q) = is_spare q

locates_moved : (m r : Lin) → m.slots ≡ r.slots → (ss : List Spot) → Locates m ss → Locates r ss
locates_moved m r e ss z = λ k d lt. location_moved m r e (slice_index_or ss k d).loc (z k d lt)

pub located_kept : (m r : Lin) → Ordered m.code r.code → m.slots ≡ r.slots → AreLocated m → AreLocated r
located_kept m r o e located = λ k d lt. by (slice_index_or r.code k d) (Contains-get_or r.code k d lt)
  where
    by : (i : Line) → Contains r.code i → Locates r i.args × Locates r i.results
    by i c =
        let b = (ordered_lines m.code r.code o i).0 c in
        let own = subst (λ (k : Line). Locates m k.args × Locates m k.results) b.2 (located b.0 i b.1) in
        (locates_moved m r e i.args own.0, locates_moved m r e i.results own.1)
