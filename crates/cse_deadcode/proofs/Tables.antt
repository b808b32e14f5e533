-- What is dropped by the table is dead, and the code that is left, from its end.
use Rattle.std.proofs.Common.{◌≡◌, ℕ, ◌+◌, ◌-◌, Bool, true, false, not, cond, ◌&&◌, inl, inr, List, [], ◌∷◌, ◌++◌, length, refl, sym, ap, ◌∙◌, subst, append_assoc, arith}
use Rattle.std.proofs.lemmas.Bool.{or_cases}
use Rattle.std.proofs.lemmas.List.{length-append}
use Rattle.bs_bits.specs.Set.{has}
use Rattle.dataflow.specs.Rows.{set_in_row}
use Rattle.mach_ir.specs.Walks.{AmongRegisters, first, later}
use Rattle.mach_ir.specs.declared.reg.Reg.{Reg}
use Rattle.mach_ir.specs.declared.mach.Instr.{Instr}
use Rattle.mach_ir.specs.declared.mach.Mach.{Mach}
use Rattle.mach_laws.specs.Expand.{expand, Ending, all, more}
use Rattle.mach_laws.specs.Graph.{code_index}
use Rattle.mach_laws.proofs.Places.{ending_next, ending_of}
use Rattle.mach_laws.proofs.Walking.{drop_ending, place_is}
use Rattle.deadcode_rules.specs.Dropped.{may_go, IsUsed, unless_dropped, dropped, AreDead, IsDropped}
use Rattle.cse_deadcode.specs.Uses.{AreUses, is_one_used, is_dead_instruction, is_first_dead, drops_by}
use Rattle.dataflow.proofs.Steps.{or_left, or_right}
use Rattle.bs_words.proofs.Truths.{not_both}

-- ---- registers that are used

one_used : (rows : List (List Bool)) (p : ℕ) (rs : List Reg) (n : ℕ) → AmongRegisters n rs → has (set_in_row rows p) n ≡ true →
    is_one_used rows p rs ≡ true
one_used rows p [] n a e = elim a [ ]
one_used rows p (r ∷ rs) n (first h) e =
    or_left (has (set_in_row rows p) r.number) (is_one_used rows p rs) (ap (has (set_in_row rows p)) h ∙ e)
one_used rows p (r ∷ rs) n (later a) e =
    or_right (has (set_in_row rows p) r.number) (is_one_used rows p rs) (one_used rows p rs n a e)

record UsedOne (rows : List (List Bool)) (p : ℕ) (rs : List Reg) : Type 0 where
  number : ℕ
  among : AmongRegisters number rs
  used : has (set_in_row rows p) number ≡ true

some_used : (rows : List (List Bool)) (p : ℕ) (rs : List Reg) → is_one_used rows p rs ≡ true → UsedOne rows p rs
some_used rows p [] e = absurd (not_both false e refl)
some_used rows p (r ∷ rs) e =
    elim (or_cases (has (set_in_row rows p) r.number) (is_one_used rows p rs) e) [
      | inl h ↦ record { number = r.number; among = first refl; used = h }
      | inr h ↦ let w = some_used rows p rs h in record { number = w.number; among = later w.among; used = w.used }
    ]

-- ---- the table

-- what is said of an instruction is said by its place
dead_at : (rows : List (List Bool)) (code : List Instr) (i : Instr) (next : List Instr) → Ending (i ∷ next) code →
    drops_by rows code (length next) ≡ is_dead_instruction rows (length code - length next) i
dead_at rows code i next e = ap (is_first_dead rows (length code - length next)) (drop_ending e)

other_false : (g b : Bool) → g ≡ true → g && not b ≡ true → b ≡ false
other_false true true e h = absurd (not_both false h refl)
other_false true false e h = refl
other_false false b e h = absurd (not_both false e refl)

not_none : (g b : Bool) → g ≡ true → g && not b ≡ false → b ≡ true
not_none true true e h = refl
not_none true false e h = absurd (not_both true refl h)
not_none false b e h = absurd (not_both false e refl)

module _ (m : Mach) (rows : List (List Bool)) (uses : AreUses m rows) where
  abbrev drops : ℕ → Bool
  drops = drops_by rows m.code

  used_at : {next : List Instr} (n : ℕ) → Ending next m.code → IsUsed m n next → has (set_in_row rows (code_index m next)) n ≡ true
  used_at {next} n e u = (uses.exact (code_index m next) n).1 (subst (IsUsed m n) (sym (place_is m e)) u)

  used_by : {next : List Instr} (n : ℕ) → Ending next m.code → has (set_in_row rows (code_index m next)) n ≡ true → IsUsed m n next
  used_by {next} n e h = subst (IsUsed m n) (place_is m e) ((uses.exact (code_index m next) n).0 h)

  pub are_dead : AreDead m (drops_by rows m.code)
  are_dead =
      record {
        dead = λ i next s g d it.
            let e = ending_of s in
            not_both (is_one_used rows (code_index m next) i.results)
            (one_used rows (code_index m next) i.results it.number it.among (used_at it.number (ending_next e) it.used))
            (other_false (may_go i.op) (is_one_used rows (code_index m next) i.results) g (sym (dead_at rows m.code i next e) ∙ d));
        wanted = λ i next s g d.
            let e = ending_of s in
            let w =
            some_used rows (code_index m next) i.results
            (not_none (may_go i.op) (is_one_used rows (code_index m next) i.results) g (sym (dead_at rows m.code i next e) ∙ d)) in
            record { number = w.number; among = w.among; used = used_by w.number (ending_next e) w.used };
      }

pub is_dropped : (m q : Mach) (rows : List (List Bool)) → AreUses m rows → q ≡ dropped (drops_by rows m.code) m → IsDropped m q
is_dropped m q rows uses e = record { drops = drops_by rows m.code; dead = are_dead m rows uses; is = e }

-- ---- the loop

-- what is still to be looked at, and what is left of the code after it
pub record Dropping (rows : List (List Bool)) (code items left : List Instr) : Type 0 where
  pub done : List Instr
  pub whole : items ++ done ≡ code
  pub left_so : left ≡ expand (unless_dropped (drops_by rows code)) done

ending_past : (xs ys : List Instr) → Ending ys (xs ++ ys)
ending_past [] ys = all
ending_past (x ∷ xs) ys = more (ending_past xs ys)

again_and : (g b : Bool) → g && (g && b) ≡ g && b
again_and true b = refl
again_and false b = refl

pub dropping_more : (rows : List (List Bool)) (code items rest left new : List Instr) (i : Instr) (after : ℕ) → items ≡ rest ++ i ∷ [] →
    after ≡ length rest + 1 → new ≡ cond (is_dead_instruction rows after i) [] (i ∷ []) ++ left → Dropping rows code items left →
    Dropping rows code rest new
dropping_more rows code items rest left new i after popped here e r =
    record {
      done = i ∷ r.done;
      whole = whole;
      left_so = e
          ∙ ap (λ b. cond b [] (i ∷ []) ++ left) (sym same)
          ∙ ap (λ xs. unless_dropped (drops_by rows code) (length r.done) i ++ xs) r.left_so;
    }
  where
    whole : rest ++ i ∷ r.done ≡ code
    whole = sym (append_assoc rest (i ∷ []) r.done) ∙ ap (λ xs. xs ++ r.done) (sym popped) ∙ r.whole

    ending : Ending (i ∷ r.done) code
    ending = subst (λ xs. Ending (i ∷ r.done) xs) whole (ending_past rest (i ∷ r.done))

    place : length code - length r.done ≡ after
    place =
        let count : length rest + length (i ∷ r.done) ≡ length code = sym (length-append rest (i ∷ r.done)) ∙ ap length whole in
        omega (arith, count, here)

    same : may_go i.op && drops_by rows code (length r.done) ≡ is_dead_instruction rows after i
    same =
        ap (λ b. may_go i.op && b) (dead_at rows code i r.done ending ∙ ap (λ k. is_dead_instruction rows k i) place)
        ∙ again_and (may_go i.op) (not (is_one_used rows after i.results))
