-- Registers at fixed places meet in the result only where they met in the function: so it is well placed.
use Rattle.std.proofs.Common.{◌≡◌, ◌≢◌, ◌⊎◌, inl, inr, ⊎_elim, ℕ, length, List, [], ◌∷◌, ◌++◌, None, refl, sym, ap, ◌∙◌, subst}
use Rattle.bs_words.specs.declared.types.Loc.TheVariants as loc
use Rattle.comballoc_rules.specs.Combined.{Scanned, combined}
use Rattle.comballoc_rules.specs.Kept.{IsCombinable}
use Rattle.comballoc_rules.proofs.Awaited.{fresh_of, awaited_number}
use Rattle.comballoc_rules.proofs.Live.{View, runs, ends, opened, not_long, view, label_is, live_before}
use Rattle.comballoc_rules.proofs.Places.{open_at, scanned, merged, is_code}
use Rattle.comballoc_rules.proofs.Registers.{Awaits, awaits_here, awaits_in}
use Rattle.comballoc_rules.proofs.Sizes.{register_before}
use Rattle.mach_ir.specs.Acts.{On, At}
use Rattle.mach_ir.specs.Placed.{WellPlaced}
use Rattle.mach_ir.specs.Walks.{AmongRegisters, goes, Writes, Live, LiveAfter, after_step, InCode, further, IsRegister, is_in_code, StandsAsInstr, here, below, IsMove, Meets, at_write, at_params, Joined, one_way, other_way}
use Rattle.mach_ir.specs.declared.reg.Reg.{Reg}
use Rattle.mach_ir.specs.declared.mach.Instr.{Instr}
use Rattle.mach_ir.specs.declared.mach.Mach.{Mach}
use Rattle.pass_rules.proofs.Formed as places
use Rattle.mach_laws.specs.Expand.{expand, Ending, all, more}
use Rattle.mach_laws.proofs.Places.{ending_next, ending_label, stands_of}
use Rattle.mach_laws.proofs.Among.{none_among, split_among, number_among}

in_ending : {r : Reg} {rest code : List Instr} → Ending rest code → InCode r rest → InCode r code
in_ending all o = o
in_ending (more e) o = further (in_ending e o)

module _ (m : Mach) (is : IsCombinable m) where
  abbrev q : Mach
  q = combined m

  abbrev f : ℕ → Instr → List Instr
  f = merged m.code

  -- ---- what is in the result

  -- an instruction of the result, by the one that it stands for
  record Main (j : Instr) (zs : List Instr) : Type 0 where
    instr : Instr
    next : List Instr
    ending : Ending (instr ∷ next) m.code
    rest : zs ≡ expand f next
    after : Scanned
    view : View instr (scanned m.code next) after (j ∷ [])

  main_of : (j : Instr) (zs rest : List Instr) → Ending rest m.code → StandsAsInstr j zs (expand f rest) → Main j zs
  main_of j zs [] e s = elim s [ ]
  main_of j zs (i ∷ next) e s =
      at (f (length next) i) (expand f next) refl (view m.code i next e) s (λ t. main_of j zs next (ending_next e) t)
    where
      at : (xs ys : List Instr) → ys ≡ expand f next → View i (scanned m.code next) (scanned m.code (i ∷ next)) xs →
          StandsAsInstr j zs (xs ++ ys) → (StandsAsInstr j zs (expand f next) → Main j zs) → Main j zs
      at [] ys h v s again = again (subst (StandsAsInstr j zs) h s)
      at (x ∷ []) ys h v here again =
          record { instr = i; next = next; ending = e; rest = h; after = scanned m.code (i ∷ next); view = v }
      at (x ∷ []) ys h v (below s) again = again (subst (StandsAsInstr j zs) h s)
      at (x ∷ y ∷ xs) ys h v s again = absurd (not_long v x y xs refl)

  -- ---- a register at a fixed place

  module _ (k : Reg) (one : IsRegister m k) (fixed : k.loc ≢ loc.Unset) where
    -- it goes to no open allocation
    not_awaited : {x : Reg} {rest : List Instr} → Ending rest m.code → Awaits x rest → x.number ≡ k.number → ⊥
    not_awaited {x} e a same =
        let same_reg = (is.formed).numbers k x one (is_in_code (in_ending e (awaits_in a))) (sym same) in
        fixed (ap (λ (r : Reg). r.loc) same_reg ∙ ((fresh_of m is e a).fresh).open_place)

    live_back : {rest : List Instr} → Ending rest m.code → Live q k.number (expand f rest) → Live m k.number rest
    live_back {rest} e v =
        ⊎_elim
        (λ a. let w = awaited_number m is (open_at (length rest) None m.code) rest a in absurd (not_awaited e w.1 w.2))
        (λ v. v) (live_before m e v)

    after_back : (i : Instr) (next : List Instr) → Ending (i ∷ next) m.code → LiveAfter q k.number i (expand f next) →
        LiveAfter m k.number i next
    after_back i next e (after_step (goes On o) v) = after_step (goes On o) (live_back (ending_next e) v)
    after_back i next e (after_step (goes (At l) o) v) =
        after_step (goes (At l) o) (live_back (ending_label l m.code) (subst (Live q k.number) (label_is m l) v))

    -- no allocation writes it
    not_allocated : (i : Instr) (next : List Instr) → Ending (i ∷ next) m.code → {s : Scanned} (j : Instr) →
        View i (scanned m.code next) s (j ∷ []) → (j ≡ i) ⊎ (Writes q j k.number → ⊥)
    not_allocated i next e j (runs x) = inl refl
    not_allocated i next e j (ends x b z) = inl refl
    not_allocated i next e j (opened blocks al) = inr none
      where
        rest_results : List Reg
        rest_results = (scanned m.code next).results

        own : AmongRegisters k.number i.results → ⊥
        own a = let x = number_among i.results a in not_awaited e (awaits_here blocks al x.1) x.2

        others : AmongRegisters k.number rest_results → ⊥
        others a =
            let w = awaited_number m is (open_at (length next) None m.code) next a in not_awaited (ending_next e) w.1 w.2

        none : AmongRegisters k.number ((i.results ++ rest_results) ++ []) → ⊥
        none a =
            ⊎_elim (λ b. ⊎_elim own others (split_among k.number i.results rest_results b)) none_among
            (split_among k.number (i.results ++ rest_results) [] a)

  -- ---- the graph

  meets_back : (r k : Reg) → IsRegister m r → IsRegister m k → r.loc ≢ loc.Unset → k.loc ≢ loc.Unset → Meets q r.number k.number →
      Meets m r.number k.number
  meets_back r k i j x y (at_params a v) = at_params a (live_back k j y all (subst (Live q k.number) (is_code m) v))
  meets_back r k i j x y (at_write g zs s w v apart) =
      let h = main_of g zs m.code all (subst (StandsAsInstr g zs) (is_code m) s) in
      by h.instr h.next h.ending g (not_allocated r i x h.instr h.next h.ending g h.view) w
      (subst (LiveAfter q k.number g) h.rest v) apart
    where
      by : (u : Instr) (next : List Instr) → Ending (u ∷ next) m.code → (g : Instr) → (g ≡ u) ⊎ (Writes q g r.number → ⊥) →
          Writes q g r.number → LiveAfter q k.number g (expand f next) → (IsMove k.number r.number g → ⊥) → Meets m r.number k.number
      by u next e g (inr none) w v apart = absurd (none w)
      by u next e g (inl same) w v apart =
          at_write u next (stands_of e) (subst (λ g. Writes m g r.number) same w)
          (after_back k j y u next e (subst (λ g. LiveAfter q k.number g (expand f next)) same v))
          (subst (λ g. IsMove k.number r.number g → ⊥) same apart)

  joined_back : (r k : Reg) → IsRegister m r → IsRegister m k → r.loc ≢ loc.Unset → k.loc ≢ loc.Unset → Joined q r.number k.number →
      Joined m r.number k.number
  joined_back r k i j x y (one_way n h) = one_way n (meets_back r k i j x y h)
  joined_back r k i j x y (other_way n h) = other_way n (meets_back k r j i y x h)

  -- Where the function is well placed, the result is.
  pub combined_placed : WellPlaced m → WellPlaced (combined m)
  combined_placed =
      places.still_placed m q.code (register_before m)
      (λ r k i j joined fixed e.
      joined_back r k (register_before m r i) (register_before m k j) fixed (λ z. fixed (e ∙ z)) joined)
