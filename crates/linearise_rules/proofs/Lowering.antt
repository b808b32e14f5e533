-- What holds of the lowered function: the laws of linearisation.
use Rattle.std.proofs.Common.{◌≡◌, ◌≢◌, ℕ, ◌+◌, ◌*◌, ◌<◌, ◌≤◌, true, List, [], ◌∷◌, map, length, All, refl, sym, ap, ◌∙◌, subst, arith}
use Rattle.std.specs.List.{Contains}
use Rattle.bs_words.specs.declared.types.Comp.TheVariants as comp
use Rattle.bs_words.specs.declared.types.Loc.{Loc}
use Rattle.bs_words.specs.declared.types.Loc.TheVariants as loc
use Rattle.mach_ir.specs.Formed as mach_formed
use Rattle.mach_ir.specs.Formed.{WellFormed}
use Rattle.mach_ir.specs.Keeps.{NamesSymbol, NamesExternal}
use Rattle.mach_ir.specs.Placed.{HasColourOrSlot, in_colour, in_slot, FullyPlaced, colour_numbers}
use Rattle.mach_ir.specs.Seats as seats
use Rattle.mach_ir.specs.Sizes.{Size, HasSize}
use Rattle.mach_ir.specs.Walks.{IsRegister, is_param, is_colour, is_in_code}
use Rattle.mach_ir.specs.Walks as mach_walks
use Rattle.mach_ir.specs.declared.reg.Reg.{Reg}
use Rattle.mach_ir.specs.declared.mach.Mach.{Mach}
use Rattle.lin_ir.specs.Descriptors.{NoAddrLive}
use Rattle.lin_ir.specs.Formed as formed
use Rattle.lin_ir.specs.Formed.{IsHome, IsSelfMove, labels_in}
use Rattle.lin_ir.specs.Meaning.{passes_frame}
use Rattle.lin_ir.specs.Walks.{StandsAsLine, Traps, by_walk, unreached, Reached, LiveAcross, TrapsBalance}
use Rattle.lin_ir.specs.declared.lin.Line.{Line}
use Rattle.lin_ir.specs.declared.lin.Lin.{Lin}
use Rattle.lin_ir.specs.declared.lin.Spot.{Spot}
use Rattle.lin_laws.proofs.Forms.{not_slot}
use Rattle.linearise_rules.specs.Forward.{GoesForward}
use Rattle.linearise_rules.specs.Keeps.{NoAddrReached, OneTraps, KeepsReached}
use Rattle.linearise_rules.specs.Kept.{LoweringSimulation}
use Rattle.linearise_rules.specs.Lowered.{home, is_among_numbers, slots_of_function, limit_above, slot_number, slot_count, lowered}
use Rattle.linearise_rules.specs.Sizes.{tries_ended}
use Rattle.linearise_rules.proofs.Homes.{IsIn, is_first, is_later, in_of, in_map}
use Rattle.linearise_rules.proofs.Slots.{slot_occurs_in_code, slot_occurs_in_params, numbers_apart, numbers_below, count_within, slots_low}
use Rattle.linearise_rules.proofs.Lines.{source, params_seated, source_operands, source_results, named_from, labels_same, lines_few}
use Rattle.linearise_rules.proofs.Does.{begins}
use Rattle.linearise_rules.proofs.Moves.{changes}
use Rattle.linearise_rules.proofs.Walked.{goes_forward, balance, one_traps, no_addr, homes_lines, well_formed}
use Rattle.bs_words.proofs.Places.{same_slot}

colour_machine : {l : Loc} (ns : List ℕ) → IsIn l (map loc.Machine ns) → (n : ℕ) × (l ≡ loc.Machine n)
colour_machine [] z = elim z [ ]
colour_machine (n ∷ ns) is_first = (n, refl)
colour_machine (n ∷ ns) (is_later z) = colour_machine ns z

module _ (p : Mach) (well : WellFormed p) (full : FullyPlaced p) where
  -- the slot of a register occurs
  slot_occurs : (k : ℕ) (r : Reg) → IsRegister p r → r.loc ≡ loc.Slot k → is_among_numbers k (slots_of_function p) ≡ true
  slot_occurs k r (is_param c) e = slot_occurs_in_params p k r c e
  slot_occurs k r (is_in_code c) e = slot_occurs_in_code p k r c e
  slot_occurs k r (is_colour c) e =
      let z : IsIn r.loc (map loc.Machine colour_numbers) = subst (IsIn r.loc) full.well.colours.each (in_map (λ (r : Reg). r.loc) (in_of r p.colours c)) in
      let y = colour_machine colour_numbers z in absurd (not_slot y.0 k (sym y.1 ∙ e))

  -- registers whose homes are the same are at one place
  homes_apart : (r k : Reg) → IsRegister p r → IsRegister p k → home (slot_number p) r.loc ≡ home (slot_number p) k.loc → r.loc ≡ k.loc
  homes_apart r k ri ki same = by (full.places r ri) (full.places k ki)
    where
      by : HasColourOrSlot r → HasColourOrSlot k → r.loc ≡ k.loc
      by (in_colour m c e) (in_colour n d u) = e ∙ sym (ap (home (slot_number p)) e) ∙ same ∙ ap (home (slot_number p)) u ∙ sym u
      by (in_colour m c e) (in_slot u) = absurd (not_slot m (slot_number p k.origin) (sym (ap (home (slot_number p)) e) ∙ same ∙ ap (home (slot_number p)) u))
      by (in_slot e) (in_colour n d u) = absurd (not_slot n (slot_number p r.origin) (sym (ap (home (slot_number p)) u) ∙ sym same ∙ ap (home (slot_number p)) e))
      by (in_slot e) (in_slot u) =
          e
          ∙ ap loc.Slot (numbers_apart p r.origin k.origin (slot_occurs r.origin r ri e) (slot_occurs k.origin k ki u)
          (same_slot refl (sym (ap (home (slot_number p)) e) ∙ same ∙ ap (home (slot_number p)) u)))
          ∙ sym u

  -- the home of a register is a colour, or one of the function's slots
  homes : (r : Reg) → IsRegister p r → IsHome (lowered p) (home (slot_number p) r.loc)
  homes r ri = by (full.places r ri)
    where
      by : HasColourOrSlot r → IsHome (lowered p) (home (slot_number p) r.loc)
      by (in_colour n c e) = subst (λ l. IsHome (lowered p) (home (slot_number p) l)) (sym e) (formed.is_colour c)
      by (in_slot e) = subst (λ l. IsHome (lowered p) (home (slot_number p) l)) (sym e) (formed.is_slot (numbers_below p r.origin (slot_occurs r.origin r ri e)))

  -- The lowered function does what the Mach function does, wherever that is not stuck.
  pub lowered_does : LoweringSimulation p (lowered p)
  lowered_does c arguments memory doings s e =
      begins c (slot_number p) (slot_count p) p well full homes_apart arguments memory doings s e

  -- It keeps the Mach function where walks come.
  pub lowered_keeps_reached : KeepsReached p (lowered p)
  lowered_keeps_reached =
      record {
        name = refl;
        result = refl;
        does = lowered_does;
        symbols = λ name n. named_from (slot_number p) (NamesSymbol name) p (lowered p) refl n;
        externals = λ row n. named_from (slot_number p) (NamesExternal row) p (lowered p) refl n;
        addrs = no_addr (slot_number p) (slot_count p) p well full;
      }

  pub lowered_no_addr : mach_walks.NoAddrLive p → NoAddrReached (lowered p)
  lowered_no_addr h = no_addr (slot_number p) (slot_count p) p well full h

  pub lowered_well_formed : formed.WellFormed (lowered p)
  lowered_well_formed = well_formed (slot_number p) (slot_count p) p well full homes

  pub lowered_homes : All (λ (j : Line). All (λ (s : Spot). IsHome (lowered p) s.loc) j.args × All (λ (s : Spot). IsHome (lowered p) s.loc) j.results) (lowered p).code
  lowered_homes = homes_lines (slot_number p) (slot_count p) p well full homes

  -- a move of a location to itself changes the component
  pub lowered_changes : (j : Line) → Contains (lowered p).code j → (from to : Spot) → IsSelfMove j from to → from.comp ≢ to.comp
  lowered_changes j c from to z e = changes (slot_number p) p.code (λ r k ri ki same. homes_apart r k (is_in_code ri) (is_in_code ki) same) (λ r ri. full.places r (is_in_code ri)) j (in_of j (lowered p).code c) from to z e

  pub lowered_forward : GoesForward (lowered p)
  lowered_forward = goes_forward (slot_number p) (slot_count p) p well full

  pub lowered_balance : TrapsBalance (lowered p)
  lowered_balance = balance (slot_number p) (slot_count p) p well full

  pub lowered_traps : OneTraps (lowered p)
  lowered_traps = one_traps (slot_number p) (slot_count p) p well full

  pub lowered_seated : seats.Seated p → formed.Seated (lowered p)
  lowered_seated h =
      record {
        params = params_seated (slot_number p) p.params h.params;
        operands = λ j c. source_operands (slot_number p) h (source (slot_number p) p.code (in_of j (lowered p).code c));
        results = λ j c. source_results (slot_number p) h (source (slot_number p) p.code (in_of j (lowered p).code c));
      }

-- where each frame point is reached by some walk, no addr is live after any
pub no_addr_live : (m : Lin) → ((i : Line) (next : List Line) → StandsAsLine i next m.code → passes_frame i.op ≡ true → (tries : List ℕ) × Reached m (i ∷ next) tries) → NoAddrReached m → NoAddrLive m
no_addr_live m reached h = record { none = λ i next s frame l v. by (reached i next s frame) h.none frame v.traps v.across }
  where
    by : {i : Line} {next : List Line} {l : Loc} {tries : List ℕ} → (tries : List ℕ) × Reached m (i ∷ next) tries →
        ((i : Line) (next : List Line) (tries : List ℕ) → Reached m (i ∷ next) tries → passes_frame i.op ≡ true → (l : Loc) → LiveAcross m l comp.Addr i next tries → ⊥) →
        passes_frame i.op ≡ true → Traps m (i ∷ next) tries → LiveAcross m l comp.Addr i next tries → ⊥
    by {i} {next} {l} {tries} r none frame (by_walk s) w = none i next tries s frame l w
    by r none frame (unreached out) w = out r.0 r.1

-- ---- sizes

-- every slot is below the bound on origins
pub slots_below : (p : Mach) → FullyPlaced p → (s : Size) → HasSize p s → limit_above (slots_of_function p) ≤ s.registers
slots_below p full s size = slots_low p s.registers (λ k r ri e. by k r (full.places r ri) e (size.origins r ri))
  where
    by : (k : ℕ) (r : Reg) → HasColourOrSlot r → r.loc ≡ loc.Slot k → r.origin < s.registers → k < s.registers
    by k r (in_colour n c e) u lt = absurd (not_slot n k (sym e ∙ u))
    by k r (in_slot e) u lt = subst (λ n. n < s.registers) (same_slot e u) lt

-- and so are their numbers
pub lowered_slots : (p : Mach) → FullyPlaced p → (s : Size) → HasSize p s → slot_count p ≤ s.registers
lowered_slots p full s size =
    let a = count_within p in
    let b = slots_below p full s size in
    omega (arith, a, b)

pub lowered_lines : (p : Mach) → length (lowered p).code ≤ 2 * length p.code + tries_ended p.code
lowered_lines p = lines_few (slot_number p) p.code

pub lowered_labels : (p : Mach) → labels_in (lowered p).code ≡ mach_formed.labels_in p.code
lowered_labels p = labels_same (slot_number p) p.code
