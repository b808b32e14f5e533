-- Places of a function and where they lead, as numbers.
use Rattle.std.proofs.Common.{◌≡◌, ℕ, zero, suc, ◌-◌, ◌≤◌, Bool, true, false, ⊎_elim, List, [], ◌∷◌, length, map, drop, refl, sym, ap, ◌∙◌, subst, arith}
use Rattle.std.proofs.lemmas.List.{length-drop}
use Rattle.std.specs.List.{Contains}
use Rattle.mach_ir.specs.Acts.{Target, On, At}
use Rattle.mach_ir.specs.Meaning.{code_at, from_handler}
use Rattle.mach_ir.specs.Walks.{AmongRegisters, first, later, OneOf, this, other, WalkStep, goes, Raises, raises, Live, on, aside, LiveAcross, across_step, across_raise}
use Rattle.mach_ir.specs.declared.reg.Reg.{Reg}
use Rattle.mach_ir.specs.declared.mach.Instr.{Instr}
use Rattle.mach_ir.specs.declared.mach.Mach.{Mach}
use Rattle.bs_words.proofs.Lists.{none_in, first_in, later_in, in_cons, drop_none}
use Rattle.mach_laws.specs.Expand.{Ending, all, more}
use Rattle.mach_laws.specs.Graph.{code_index, numbers_of_registers, handler_places}
use Rattle.mach_laws.proofs.Places.{ending_next, ending_label, ending_short, ending_from_handler}

-- ---- numbers of places

minus_self : (k : ℕ) → k - k ≡ 0
minus_self k = omega arith

suc_minus : (a b : ℕ) → b ≤ a → suc a - b ≡ suc (a - b)
suc_minus a b le = omega (arith, le)

drop_suc : (k : ℕ) (x : Instr) (xs : List Instr) → drop (suc k) (x ∷ xs) ≡ drop k xs
drop_suc k x xs = refl

pub drop_ending : {rest code : List Instr} → Ending rest code → drop (length code - length rest) code ≡ rest
drop_ending {rest} all = ap (λ k. drop k rest) (minus_self (length rest)) ∙ drop_none rest
drop_ending {rest} (more {i = i} {code = code} e) =
    ap (λ k. drop k (i ∷ code)) (suc_minus (length code) (length rest) (ending_short e))
    ∙ drop_suc (length code - length rest) i code ∙ drop_ending e

pub ending_drop : (p : ℕ) (code : List Instr) → Ending (drop p code) code
ending_drop zero [] = all
ending_drop zero (i ∷ is) = all
ending_drop (suc p) [] = all
ending_drop (suc p) (i ∷ is) = more (ending_drop p is)

pub ending_at : {i : Instr} {next code : List Instr} (t : Target) → Ending (i ∷ next) code → Ending (code_at code next t) code
ending_at On e = ending_next e
ending_at {code = code} (At l) e = ending_label l code

pub ending_leads : {m : Mach} {i : Instr} {next to : List Instr} → WalkStep m i next to → Ending (i ∷ next) m.code → Ending to m.code
ending_leads (goes t o) e = ending_at t e

pub ending_raises : {m : Mach} {i : Instr} {next to : List Instr} → Raises m i next to → Ending to m.code
ending_raises {m} (raises {l = l} b e) = ending_from_handler l m.code

-- what only goes on
pub only_on : (t : Target) → OneOf t (On ∷ []) → t ≡ On
only_on t this = refl
only_on t (other o) = elim o [ ]

-- ---- what is live

pub across_live : {m : Mach} {n : ℕ} {i : Instr} {next : List Instr} → LiveAcross m n i next → Live m n (i ∷ next)
across_live (across_step w l v) = on w l v
across_live (across_raise r v) = aside r v

-- ---- numbers of registers

pub among_numbers : (n : ℕ) (rs : List Reg) → Contains (numbers_of_registers rs) n → AmongRegisters n rs
among_numbers n [] c = absurd (none_in n c)
among_numbers n (r ∷ rs) c = ⊎_elim (λ e. first e) (λ d. later (among_numbers n rs d)) (in_cons r.number n (numbers_of_registers rs) c)

pub in_numbers : {n : ℕ} {rs : List Reg} → AmongRegisters n rs → Contains (numbers_of_registers rs) n
in_numbers {n} (first {r = r} {rs = rs} e) = subst (Contains (r.number ∷ numbers_of_registers rs)) e (first_in r.number (numbers_of_registers rs))
in_numbers {n} (later {r = r} {rs = rs} a) = later_in r.number n (numbers_of_registers rs) (in_numbers a)

-- ---- the places of a function

module _ (m : Mach) where
  pub place_is : {rest : List Instr} → Ending rest m.code → drop (code_index m rest) m.code ≡ rest
  place_is e = drop_ending e

  -- the code at the place of a rest is that rest
  pub place_at : {rest : List Instr} {q : ℕ} → Ending rest m.code → code_index m rest ≡ q → drop q m.code ≡ rest
  place_at e s = sym (ap (λ k. drop k m.code) s) ∙ place_is e

  pub place_back : (p : ℕ) (rest : List Instr) → p ≤ length m.code → drop p m.code ≡ rest → code_index m rest ≡ p
  place_back p rest le e =
      let long : length (drop p m.code) ≡ length m.code - p = length-drop p m.code in
      let same : length (drop p m.code) ≡ length rest = ap length e in
      omega (arith, le, long, same)

  pub place_within : (rest : List Instr) → code_index m rest ≤ length m.code
  place_within rest = by (length m.code) (length rest)
    where
      by : (a b : ℕ) → a - b ≤ a
      by a b = omega arith

  pub ending_place : (p : ℕ) {rest : List Instr} → drop p m.code ≡ rest → Ending rest m.code
  ending_place p e = subst (λ rest. Ending rest m.code) e (ending_drop p m.code)

  -- ---- where a step leads

  pub target_of : (next : List Instr) (ts : List Target) (q : ℕ) → Contains (map (λ t. code_index m (code_at m.code next t)) ts) q →
      (t : Target) × OneOf t ts × (code_index m (code_at m.code next t) ≡ q)
  target_of next [] q c = absurd (none_in q c)
  target_of next (t ∷ ts) q c =
      ⊎_elim (λ e. (t, this, e)) (λ d. let g = target_of next ts q d in (g.0, other g.1, g.2))
      (in_cons (code_index m (code_at m.code next t)) q (map (λ t. code_index m (code_at m.code next t)) ts) c)

  pub in_targets : (next : List Instr) {t : Target} {ts : List Target} → OneOf t ts →
      Contains (map (λ t. code_index m (code_at m.code next t)) ts) (code_index m (code_at m.code next t))
  in_targets next {t} (this {ts = ts}) = first_in (code_index m (code_at m.code next t)) _
  in_targets next {t} (other {u = u} {ts = ts} o) =
      later_in (code_index m (code_at m.code next u)) (code_index m (code_at m.code next t)) _ (in_targets next o)

  pub handler_of : (b : Bool) (tries : List ℕ) (q : ℕ) → Contains (handler_places m b tries) q →
      (l : ℕ) × (others : List ℕ) × (b ≡ true) × (tries ≡ l ∷ others) × (code_index m (from_handler l m.code) ≡ q)
  handler_of false tries q c = absurd (none_in q c)
  handler_of true [] q c = absurd (none_in q c)
  handler_of true (l ∷ tries) q c =
      ⊎_elim (λ e. (l, tries, refl, refl, e)) (λ d. absurd (none_in q d))
      (in_cons (code_index m (from_handler l m.code)) q [] c)

  pub in_handlers : (b : Bool) (tries : List ℕ) (l : ℕ) (others : List ℕ) → b ≡ true → tries ≡ l ∷ others →
      Contains (handler_places m b tries) (code_index m (from_handler l m.code))
  in_handlers b tries l others e h =
      subst (λ b. Contains (handler_places m b tries) (code_index m (from_handler l m.code))) (sym e)
      (subst (λ ts. Contains (handler_places m true ts) (code_index m (from_handler l m.code))) (sym h)
      (first_in (code_index m (from_handler l m.code)) []))
