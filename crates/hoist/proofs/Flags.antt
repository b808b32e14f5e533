-- Which instructions move, by the flags that were found.
use Rattle.std.proofs.Common.{◌≡◌, ◌↔◌, ◌∙◌, ℕ, zero, suc, ◌-◌, ◌<◌, ◌≤◌, Bool, true, false, ◌&&◌, ◌||◌, List, [], ◌∷◌, ◌++◌, Some, length, take, refl, sym, ap, ⊎_elim, arith}
use Rattle.std.specs.Prelude.{slice_get, nat_eq}
use Rattle.std.specs.List.{list_any, list_all}
use Rattle.std.proofs.lemmas.Bool.{cases_lt, true≢false, and_parts}
use Rattle.std.proofs.lemmas.List.{get_or_past}
use Rattle.mach_ir.specs.Formed.{WellFormed}
use Rattle.mach_ir.specs.Walks.{StandsAsInstr, IsRegister}
use Rattle.mach_ir.specs.declared.reg.Reg.{Reg}
use Rattle.mach_ir.specs.declared.mach.Instr.{Instr}
use Rattle.mach_ir.specs.declared.mach.Mach.{Mach}
use Rattle.mach_laws.specs.Expand.{expand}
use Rattle.deadcode_rules.specs.Dropped.{may_go}
use Rattle.hoist_rules.specs.Hoisted.{hoisted_instruction}
use Rattle.hoist_rules.specs.Chosen.{AreChosen, HasConstantsFirst}
use Rattle.hoist.specs.Constants.{makes_wide}
use Rattle.hoist.specs.Loops.{IsFirstCall, IsCalmWide, flag_at, AreFlags}
use Rattle.hoist.specs.Moves.{none_moves, flag_stays, StaysAt, moves_by, left}
use Rattle.hoist.specs.Written.{times, is_once}
use Rattle.hoist.proofs.Reaching.{same_item}
use Rattle.hoist.proofs.Moving.{at_of, place_of, calm_of, once_of, moved_of}
use Rattle.hoist.proofs.Rebuilt.{left_without, none_moved, all_stay}

-- ---- flags

pub no_flag : (flags : List Bool) → none_moves flags ≡ true → (p : ℕ) → flag_at flags p ≡ false
no_flag [] e p = refl
no_flag (false ∷ flags) e zero = refl
no_flag (true ∷ flags) e zero = absurd (true≢false (sym e))
no_flag (false ∷ flags) e (suc p) = no_flag flags e p
no_flag (true ∷ flags) e (suc p) = absurd (true≢false (sym e))

pub none_wide : (code : List Instr) (calls : ℕ) → list_any makes_wide (take calls code) ≡ false → (p : ℕ) (i : Instr) → p < calls →
    slice_get code p ≡ Some i → makes_wide i ≡ true → ⊥
none_wide [] calls none p i lt e w = absurd cc
none_wide (x ∷ xs) zero none p i lt e w = omega (arith, lt)
none_wide (x ∷ xs) (suc calls) none zero i lt e w =
    let same : x ≡ i = cc in
    true≢false (sym (ap makes_wide same ∙ w) ∙ first_false (makes_wide x) (list_any makes_wide (take calls xs)) none)
  where
    first_false : (a b : Bool) → (a || b) ≡ false → a ≡ false
    first_false true b e = e
    first_false false b e = refl
none_wide (x ∷ xs) (suc calls) none (suc p) i lt e w =
    none_wide xs calls (later_false (makes_wide x) (list_any makes_wide (take calls xs)) none) p i (omega (arith, lt)) e w
  where
    later_false : (a b : Bool) → (a || b) ≡ false → b ≡ false
    later_false true b e = absurd (true≢false e)
    later_false false b e = e

pub stays_is : (flags : List Bool) (code : List Instr) (writes : ℕ → ℕ) (p : ℕ) (i : Instr) (flag b : Bool) → flag ≡ flag_at flags p →
    slice_get code p ≡ Some i → b ≡ flag_stays flag writes i → (b ≡ true) ↔ StaysAt flags code writes p
stays_is flags code writes p i flag b f at e = (λ t. stay (sym e ∙ t), λ s. e ∙ holds s)
  where
    stay : flag_stays flag writes i ≡ true → StaysAt flags code writes p
    stay t =
        let x = and_parts flag (is_once writes i) t in
        record { flagged = sym f ∙ x.0; instr = i; at = at; once = x.1 }

    holds : StaysAt flags code writes p → flag_stays flag writes i ≡ true
    holds s =
        ap (λ b. b && is_once writes i) (f ∙ s.flagged) ∙ ap (is_once writes) (same_item (slice_get code p) i s.instr at s.at) ∙ s.once

within_flags : (P : ℕ → Type 0) (count : ℕ) (flags : List Bool) (p : ℕ) → AreFlags P count flags → flag_at flags p ≡ true → p < count
within_flags P count flags p are t = ⊎_elim (λ lt. lt) (λ le. past le) (cases_lt p count)
  where
    past : count ≤ p → p < count
    past le =
        let k = are.len in
        let e = get_or_past flags p false (omega (arith, le, k)) in
        absurd (true≢false (sym t ∙ e))

-- ---- which move

module _ (m : Mach) (formed : WellFormed m) (origins : (r : Reg) → IsRegister m r → r.origin ≡ r.number) (calls : ℕ)
    (known : IsFirstCall m.code calls) where
  -- the flags say of each place whether a wide constant moves from there
  abbrev AreMoves : List Bool → Type 0
  AreMoves flags =
      (p : ℕ) (i : Instr) → slice_get m.code p ≡ Some i →
      (flag_at flags p ≡ true) ↔ (IsCalmWide m.code calls p × (is_once (times m) i ≡ true))

  by_flags : (flags : List Bool) → AreMoves flags → AreChosen m (moves_by flags (length m.code))
  by_flags flags are i next s =
      let place = place_of s in
      let p = length m.code - suc (length next) in
      let at = at_of s p place in (
        λ t. let x = (are p i at).0 t in moved_of m calls known formed origins p s place x.0 x.1,
        λ v. (are p i at).1 (calm_of m calls known p s place v, once_of m calls known s v.may),
      )

  inside_calls : (p : ℕ) → IsCalmWide m.code calls p → p < calls
  inside_calls p w =
      let lt = w.calm w.end w.round in
      let le = w.inside in
      omega (arith, lt, le)

  pub chosen_none : (flags : List Bool) → flags ≡ [] → list_any makes_wide (take calls m.code) ≡ false →
      AreChosen m (moves_by flags (length m.code))
  chosen_none flags e none =
      by_flags flags
      (λ p i at. (
        λ t. absurd (true≢false (sym t ∙ ap (λ fs. flag_at fs p) e)),
        λ w. absurd (none_wide m.code calls none p (w.0).instr (inside_calls p w.0) (w.0).at (w.0).wide),
      ))

  pub chosen_quiet : (flags : List Bool) → AreFlags (IsCalmWide m.code calls) calls flags → none_moves flags ≡ true →
      AreChosen m (moves_by flags (length m.code))
  chosen_quiet flags are none =
      by_flags flags
      (λ p i at. (
        λ t. absurd (true≢false (sym t ∙ no_flag flags none p)),
        λ w. (are.each p (inside_calls p w.0)).1 w.0,
      ))

  pub chosen_once : (flags kept : List Bool) (writes : ℕ → ℕ) → ((n : ℕ) → writes n ≡ times m n) →
      AreFlags (IsCalmWide m.code calls) calls flags → AreFlags (StaysAt flags m.code writes) (length flags) kept →
      AreChosen m (moves_by kept (length m.code))
  chosen_once flags kept writes same are stay =
      by_flags kept (λ p i at. (λ t. told p i at t, λ w. says p i at w))
    where
      once_same : (rs : List Reg) → list_all (λ (r : Reg). nat_eq (writes r.number) 1) rs ≡ list_all (λ (r : Reg). nat_eq (times m r.number) 1) rs
      once_same [] = refl
      once_same (r ∷ rs) =
          ap (λ n. nat_eq n 1 && list_all (λ (r : Reg). nat_eq (writes r.number) 1) rs) (same r.number)
          ∙ ap (λ b. nat_eq (times m r.number) 1 && b) (once_same rs)

      told : (p : ℕ) (i : Instr) → slice_get m.code p ≡ Some i → flag_at kept p ≡ true →
          IsCalmWide m.code calls p × (is_once (times m) i ≡ true)
      told p i at t =
          let lt = within_flags (StaysAt flags m.code writes) (length flags) kept p stay t in
          let s = (stay.each p lt).0 t in
          let k = are.len in (
            (are.each p (omega (arith, lt, k))).0 s.flagged,
            sym (once_same i.results) ∙ ap (is_once writes) (same_item (slice_get m.code p) i s.instr at s.at) ∙ s.once,
          )

      says : (p : ℕ) (i : Instr) → slice_get m.code p ≡ Some i → IsCalmWide m.code calls p × (is_once (times m) i ≡ true) →
          flag_at kept p ≡ true
      says p i at w =
          let lt = inside_calls p w.0 in
          let k = are.len in
          (stay.each p (omega (arith, lt, k))).1
          (record { flagged = (are.each p lt).1 w.0; instr = i; at = at; once = once_same i.results ∙ w.1 })

-- ---- whole

goes : (m : Mach) (moves : ℕ → Bool) → AreChosen m moves → (i : Instr) (next : List Instr) → StandsAsInstr i next m.code →
    moves (length next) ≡ true → may_go i.op ≡ true
goes m moves are i next s t = ap (λ (i : Instr). may_go i.op) (((are i next s).0 t).may).is

pub first_by : (m q : Mach) (flags : List Bool) → AreChosen m (moves_by flags (length m.code)) →
    q ≡ record m {
      code = expand (hoisted_instruction (moves_by flags (length m.code))) m.code ++ expand (left (moves_by flags (length m.code))) m.code;
    } → HasConstantsFirst m q
first_by m q flags are e =
    record {
      moves = moves_by flags (length m.code);
      chosen = are;
      is = e
          ∙ ap (λ xs. record m { code = expand (hoisted_instruction (moves_by flags (length m.code))) m.code ++ xs })
          (left_without (moves_by flags (length m.code)) m.code (goes m (moves_by flags (length m.code)) are));
    }

pub as_it_is : (m : Mach) (flags : List Bool) → AreChosen m (moves_by flags (length m.code)) → none_moves flags ≡ true → HasConstantsFirst m m
as_it_is m flags are none =
    first_by m m flags are
    (sym
    (ap (λ xs. record m { code = xs ++ expand (left (moves_by flags (length m.code))) m.code }) (none_moved moves quiet m.code)
    ∙ ap (λ xs. record m { code = xs }) (all_stay moves quiet m.code)))
  where
    moves : ℕ → Bool
    moves = moves_by flags (length m.code)

    quiet : (k : ℕ) → moves_by flags (length m.code) k ≡ false
    quiet k = no_flag flags none (length m.code - suc k)
