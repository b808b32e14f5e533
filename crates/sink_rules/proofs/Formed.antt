-- A well-formed function is so with its moves, is as well placed, and what the conventions put at fixed places is there.
use Rattle.std.proofs.Common.{◌≡◌, ◌≢◌, ℕ, true, inl, inr, ◌⊎◌, List, ◌∷◌, refl, sym, ap, ◌∙◌, subst}
use Rattle.std.proofs.lemmas.List.Elements.{All-contains}
use Rattle.std.specs.List.{All, Contains}
use Rattle.bs_words.specs.declared.types.Loc.TheVariants as loc
use Rattle.mach_ir.specs.Forms as form
use Rattle.mach_ir.specs.Formed.{IsFormedInstruction, formed_op, AreDistinct, WellFormed}
use Rattle.mach_ir.specs.Keeps.{Keeps, NamesSymbol, NamesExternal, IsNamedIn}
use Rattle.mach_ir.specs.Meaning.{tries_at, tries_past}
use Rattle.mach_ir.specs.Placed.{is_straight, WellPlaced}
use Rattle.mach_ir.specs.Seats.{AreSeated, anywhere, places_of, mach_operand_seats, mach_result_seats, Seated}
use Rattle.mach_ir.specs.Walks.{IsRegister, StandsAsInstr}
use Rattle.mach_ir.specs.declared.mach.MachOp.{MachOp}
use Rattle.mach_ir.specs.declared.reg.Reg.{Reg}
use Rattle.mach_ir.specs.declared.mach.Instr.{Instr}
use Rattle.mach_ir.specs.declared.mach.Mach.{Mach}
use Rattle.spill_rules.proofs.Formed.{one_distinct}
use Rattle.mach_laws.proofs.Places.{contains_of, stands_in}
use Rattle.pass_rules.proofs.Formed.{all_in, ComesFrom, is_new, stood, KeepsPlaces}
use Rattle.pass_rules.proofs.Formed as places
use Rattle.sink_rules.specs.Sunk.{SinkPlan, to_itself, IsSinkPlan}
use Rattle.sink_rules.proofs.Kept.{does_sunk}
use Rattle.sink_rules.proofs.Live.{laid_label, laid_handler, MovedNumber, moved_number, joined_back, no_addr_back}
use Rattle.sink_rules.proofs.Text as text

module _ (m : Mach) (plan : SinkPlan) (formed : WellFormed m) (is : IsSinkPlan m plan) where
  abbrev q : Mach
  q = text.laid m plan is

  abbrev Laid : List Instr → List Instr → Type 0
  Laid = text.Laid m plan is

  abbrev Whence : Instr → List Instr → Type 0
  Whence = text.Whence m plan is

  whence : {i : Instr} {zs : List Instr} → StandsAsInstr i zs q.code → Whence i zs
  whence s = text.whence m plan is s

  was : (r : Reg) → IsRegister q r → IsRegister m r
  was = text.was_register m plan is

  -- what holds of instructions of the first and of moves holds of all
  pub each_one : (P : Instr → Type 0) → ((r : Reg) → Contains plan.registers r → P (to_itself r)) → ((i : Instr) → Contains m.code i → P i) →
      (i : Instr) → Contains q.code i → P i
  each_one P moves_so mains i c = let s = stands_in q.code i c in by (whence s.1)
    where
      by : {zs : List Instr} → Whence i zs → P i
      by (text.itself r t k e h) = subst P (sym e) (moves_so r k.among)
      by (text.left t h) = mains i (contains_of t)

  pub each_in : (P : Instr → Type 0) → ((r : Reg) → Contains plan.registers r → P (to_itself r)) → ((i : Instr) → Contains m.code i → P i) →
      All P q.code
  each_in P moves_so mains = all_in P q.code (each_one P moves_so mains)

  -- ---- tries

  pub tries_so : {rest ys : List Instr} → Laid rest ys → tries_at ys ≡ tries_at rest
  tries_so h = text.laid_tries m plan is h

  pub main_tries : (i : Instr) {next zs : List Instr} → Laid next zs → tries_at (i ∷ zs) ≡ tries_at (i ∷ next)
  main_tries i h = ap (tries_past i.op) (tries_so h)

  -- ---- what it still is

  keeps_places : KeepsPlaces m q.code
  keeps_places =
      record {
        whence = λ i zs s. comes (whence s);
        among = each_one (λ (i : Instr). (is_straight i.op ≡ true) ⊎ Contains m.code i) (λ r k. inl refl) (λ i c. inr c);
        marks = λ i g e c. text.contains_there m plan is (text.whole_laid m plan is) i c;
        places = λ l p. text.place_there m plan is (text.whole_laid m plan is) p;
        labels = text.laid_labels m plan is (text.whole_laid m plan is);
        tries = tries_so (text.whole_laid m plan is);
        label_tries = λ l. tries_so (laid_label m plan is l);
        handler_tries = λ l. tries_so (laid_handler m plan is l);
        registers = was;
      }
    where
      comes : {i : Instr} {zs : List Instr} → Whence i zs → ComesFrom m q.code i zs
      comes (text.itself r t k e h) = is_new (ap (λ (i : Instr). is_straight i.op) e)
      comes (text.left t h) =
          stood t (tries_so h) (λ l p. text.place_there m plan is h p) (λ l p. text.handler_there m plan is h p)

  pub still_formed : WellFormed q
  still_formed =
      places.still_formed m q.code formed keeps_places
      (each_in IsFormedInstruction (λ r k. formed_op form.copies) (λ i c. All-contains IsFormedInstruction m.code i formed.instrs c))
      (each_in (λ (i : Instr). AreDistinct i.results) (λ r k. one_distinct r)
      (λ i c. All-contains (λ (i : Instr). AreDistinct i.results) m.code i formed.distinct c))

  -- ---- places

  -- what is moved is open
  fixed_stays : (r : Reg) → IsRegister m r → r.loc ≢ loc.Unset → MovedNumber m plan is r.number → ⊥
  fixed_stays r i fixed (moved_number k c e) =
      let same : k ≡ r = formed.numbers k r (is.registers k c) i e in
      fixed (ap (λ (r : Reg). r.loc) (sym same) ∙ is.open_places k c)

  pub still_placed : WellPlaced m → WellPlaced q
  still_placed =
      places.still_placed m q.code was
      (λ r k i j joined fixed e.
      joined_back m plan is (λ h. fixed_stays r (was r i) fixed h) (λ h. fixed_stays k (was k j) (λ u. fixed (e ∙ u)) h)
      joined)

  pub still_seated : Seated m → Seated q
  still_seated seated =
      record {
        params = seated.params;
        operands = each_one (λ (i : Instr). AreSeated (mach_operand_seats i.op) (places_of i.args)) (λ r k. anywhere) seated.operands;
        results = each_one (λ (i : Instr). AreSeated (mach_result_seats i.op) (places_of i.results)) (λ r k. anywhere) seated.results;
      }

  -- ---- names

  named_before : (Named : MachOp → Type 0) → ((r : Reg) → Named (to_itself r).op → ⊥) → IsNamedIn Named q → IsNamedIn Named m
  named_before Named none n =
      each_one (λ (i : Instr). Named i.op → IsNamedIn Named m) (λ r k h. absurd (none r h))
      (λ i c h. record { instr = i; among = c; named = h }) n.instr n.among n.named

  no_symbol : (name : List ℕ) (r : Reg) → NamesSymbol name (to_itself r).op → ⊥
  no_symbol name r n = elim n [ ]

  no_external : (row : _) (r : Reg) → NamesExternal row (to_itself r).op → ⊥
  no_external row r n = elim n [ ]

  pub still_keeps : Keeps m q
  still_keeps =
      record {
        name = refl;
        result = refl;
        does = does_sunk m plan formed is;
        origins = λ r i loose. record { register = r; among = was r i; loose = loose; same = refl };
        slots = λ r k i s. inl (record { register = r; among = was r i; stands = s; same = refl });
        symbols = λ name n. named_before (NamesSymbol name) (no_symbol name) n;
        externals = λ row n. named_before (NamesExternal row) (no_external row) n;
        addrs = no_addr_back m plan is;
      }
