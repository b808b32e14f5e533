-- What splitting carries: only numbers of open registers change.
use Rattle.std.proofs.Common.{◌≡◌, ℕ, ◌+◌, ◌*◌, ◌<◌, Bool, true, false, cond, List, [], ◌∷◌, length, refl, sym, ap, ◌∙◌, subst, arith}
use Rattle.std.proofs.lemmas.Bool.{lt-ltb, ltb-true, both_ways}
use Rattle.std.specs.List.{Contains}
use Rattle.std.specs.Prelude.{nat_lt}
use Rattle.std.proofs.lemmas.List.{length-map}
use Rattle.bs_words.specs.declared.types.Loc.TheVariants as loc
use Rattle.pass_rules.specs.Known.{same_spot}
use Rattle.pass_rules.specs.Carried.{IsCarried}
use Rattle.pass_rules.specs.Measures.{copy_words, mark_words, words_for_instr, operands_with}
use Rattle.mach_ir.specs.Formed.{WellFormed}
use Rattle.mach_ir.specs.Meaning.{killed, tries_at}
use Rattle.mach_ir.specs.Placed.{WellPlaced}
use Rattle.mach_ir.specs.Walks.{InCode, in_args, in_results, further, IsRegister, is_param, is_colour, is_in_code, StandsAsInstr, here, below}
use Rattle.mach_ir.specs.declared.op.Op.TheVariants as op
use Rattle.mach_ir.specs.declared.op.Pure.TheVariants as pure
use Rattle.mach_ir.specs.declared.reg.Reg.{Reg}
use Rattle.mach_ir.specs.declared.mach.MachOp.{MachOp}
use Rattle.mach_ir.specs.declared.mach.MachOp.TheVariants as mach
use Rattle.mach_ir.specs.declared.mach.Instr.{Instr}
use Rattle.mach_ir.specs.declared.mach.Mach.{Mach}
use Rattle.mach_laws.specs.Expand.{expand}
use Rattle.mach_laws.proofs.Among.{left_among, among_of}
use Rattle.mach_laws.proofs.Places.{args_in, results_in}
use Rattle.colouring_rules.proofs.Lists.{was}
use Rattle.colouring_rules.specs.Places.{ColoursLow}
use Rattle.mach_laws.proofs.InPlace.{one_each}
use Rattle.split_rules.specs.Order.{IsByFirst, kept, given}
use Rattle.split_rules.specs.Renamed.{Naming, register_renumbered, all_numbered, renamed_instr, renamed_code, renamed}
use Rattle.split_rules.specs.Split.{IsNaming, AreByFirst, IsSplit}
use Rattle.split_rules.specs.Writes.{WriteReaches, IsWrite, by_instr}
use Rattle.split_rules.proofs.Result.{comes_write}
use Rattle.split_rules.proofs.Text.{same_tries}
use Rattle.prepare_rules.proofs.Replaced.{Replaces, replaced_carried}

module _ (names : Naming) where
  -- ---- measures

  -- A place has the same components and is where it was.
  spot_same : (f g : ℕ → ℕ) (args results : List Reg) → same_spot (all_numbered f args) (all_numbered g results) ≡ same_spot args results
  spot_same f g [] results = refl
  spot_same f g (r ∷ []) [] = refl
  spot_same f g (r ∷ []) (q ∷ []) = refl
  spot_same f g (r ∷ []) (q ∷ k ∷ ks) = refl
  spot_same f g (r ∷ q ∷ rs) results = refl

  results_same : (most : ℕ) (g : ℕ → ℕ) (results : List Reg) → most + 16 * length (all_numbered g results) ≡ most + 16 * length results
  results_same most g results = ap (λ n. most + 16 * n) (length-map results (register_renumbered g))

  words_same : (h : MachOp) (f g : ℕ → ℕ) (args results : List Reg) →
      words_for_instr h (all_numbered f args) (all_numbered g results) ≡ words_for_instr h args results
  words_same (mach.Op (op.Pure (pure.Copy kind))) f g args results = ap (λ b. cond b 0 copy_words) (spot_same f g args results)
  words_same (mach.Op (op.Pure (pure.Constant w))) f g args results = results_same 32 g results
  words_same (mach.Op (op.Pure (pure.Symbol name))) f g args results = results_same 32 g results
  words_same (mach.Op (op.Pure (pure.Operator h r))) f g args results = results_same 32 g results
  words_same (mach.Op (op.Access h)) f g args results = results_same 32 g results
  words_same (mach.Op (op.Calling h)) f g args results = results_same 32 g results
  words_same (mach.Op (op.Leaving h)) f g args results = results_same 32 g results
  words_same (mach.Mark h) f g args results = results_same (mark_words h) g results

  both_same : (f g : ℕ → ℕ) (args results : List Reg) → length (all_numbered f args) + length (all_numbered g results) ≡ length args + length results
  both_same f g args results =
      ap (λ n. n + length (all_numbered g results)) (length-map args (register_renumbered f))
      ∙ ap (λ n. length args + n) (length-map results (register_renumbered g))

  operands_same : (h : MachOp) (f g : ℕ → ℕ) (args results : List Reg) →
      operands_with h (all_numbered f args) (all_numbered g results) ≡ operands_with h args results
  operands_same (mach.Op (op.Pure (pure.Copy kind))) f g args results = refl
  operands_same (mach.Op (op.Pure (pure.Constant w))) f g args results = both_same f g args results
  operands_same (mach.Op (op.Pure (pure.Symbol name))) f g args results = both_same f g args results
  operands_same (mach.Op (op.Pure (pure.Operator h r))) f g args results = both_same f g args results
  operands_same (mach.Op (op.Access h)) f g args results = both_same f g args results
  operands_same (mach.Op (op.Calling h)) f g args results = both_same f g args results
  operands_same (mach.Op (op.Leaving h)) f g args results = both_same f g args results
  operands_same (mach.Mark h) f g args results = both_same f g args results

  replaces : (k : ℕ) (i : Instr) → Replaces i (renamed_instr names k i)
  replaces k i =
      let words = words_same i.op (names.read k) (names.write k) i.args i.results in
      let operands = operands_same i.op (names.read k) (names.write k) i.args i.results in
      record {
        words = omega (arith, words);
        points = omega arith;
        operands = omega (arith, operands);
        exit = refl;
        fits = λ f. f;
        returns = λ e. e;
      }

  -- ---- the code

  as_each : (code : List Instr) → renamed_code names code ≡ expand (one_each (renamed_instr names)) code
  as_each [] = refl
  as_each (i ∷ is) = ap (λ js. renamed_instr names (length is) i ∷ js) (as_each is)

-- ---- numbers of colours

module _ (m : Mach) (names : Naming) (is : IsNaming m names) (firsts : AreByFirst m names) (low : ColoursLow m) where
  by_web : {n w x : ℕ} (b : ℕ) → b < firsts.free → b < n → IsByFirst m firsts.free n w x → b < x
  by_web b le lt (kept a) = lt
  by_web {w = w} b le lt (given a) = omega (arith, le)

  -- the number that an open register has as a result
  write_low : (b r : Reg) → Contains m.colours b → IsRegister m r → r.loc ≡ loc.Unset → (from : List Instr) → IsWrite m r.number from →
      b.number < names.write (length from) r.number
  write_low b r c i u from w = by_web b.number (firsts.above b (is_colour c)) (low b r c i u) (firsts.written r i u from w).by_first

  -- and as an operand
  read_low : (b r : Reg) → Contains m.colours b → r.loc ≡ loc.Unset → (i : Instr) (next : List Instr) → StandsAsInstr i next m.code → Contains i.args r →
      b.number < names.read (length next) r.number
  read_low b r c u i next s a = by (nat_lt b.number (names.read (length next) r.number)) refl
    where
      one : IsRegister m r
      one = is_in_code (args_in s a)

      none : nat_lt b.number (names.read (length next) r.number) ≡ false → (from : List Instr) → WriteReaches m r.number from (i ∷ next) → ⊥
      none e from z =
          let lt : b.number < names.read (length next) r.number =
          subst (λ n. b.number < n) (sym (is.agree i next from r.number s (among_of r i.args a) z))
          (write_low b r c one u from (comes_write m z)) in
          both_ways _ e (lt-ltb b.number (names.read (length next) r.number) lt)

      by : (t : Bool) → nat_lt b.number (names.read (length next) r.number) ≡ t → b.number < names.read (length next) r.number
      by true e = ltb-true b.number (names.read (length next) r.number) e
      by false e =
          subst (λ n. b.number < n) (sym (firsts.unwritten i next r.number s (among_of r i.args a) (none e))) (low b r c one u)

  low_in : (b q : Reg) → Contains m.colours b → q.loc ≡ loc.Unset → (code : List Instr) →
      ((i : Instr) (next : List Instr) → StandsAsInstr i next code → StandsAsInstr i next m.code) → InCode q (renamed_code names code) → b.number < q.number
  low_in b q c u [] there d = elim d [ ]
  low_in b q c u (i ∷ is) there (in_args d) =
      let w = was (register_renumbered (names.read (length is))) i.args q d in
      subst (λ (q : Reg). b.number < q.number) w.same
      (read_low b w.what c (ap (λ (r : Reg). r.loc) w.same ∙ u) i is (there i is here) w.among)
  low_in b q c u (i ∷ is) there (in_results d) =
      let w = was (register_renumbered (names.write (length is))) i.results q d in
      let s = there i is here in
      subst (λ (q : Reg). b.number < q.number) w.same
      (write_low b w.what c (is_in_code (results_in s w.among)) (ap (λ (r : Reg). r.loc) w.same ∙ u) is
      (by_instr s (left_among i.results (killed m i) (among_of w.what i.results w.among))))
  low_in b q c u (i ∷ is) there (further d) = low_in b q c u is (λ j next s. there j next (below s)) d

  still_low : ColoursLow (renamed names m)
  still_low b q c (is_param d) u = low b q c (is_param d) u
  still_low b q c (is_colour d) u = low b q c (is_colour d) u
  still_low b q c (is_in_code d) u = low_in b q c u m.code (λ i next s. s) d

renamed_carried : (m : Mach) (names : Naming) → IsNaming m names → AreByFirst m names → IsCarried 0 m (renamed names m)
renamed_carried m names is firsts =
    let e = as_each names m.code in
    subst (λ code. IsCarried 0 m (record m { code = code })) (sym e)
    (replaced_carried (renamed_instr names) m (λ i next at. replaces names (length next) i)
    (λ code. ap tries_at (sym (as_each names code)) ∙ same_tries names code)
    (λ low. subst (λ code. ColoursLow (record m { code = code })) e (still_low m names is firsts low)))

-- Splitting changes no word of the code, and gives no register a number of the colours.
pub split_carried : {m q : Mach} → WellFormed m → WellPlaced m → IsSplit m q → IsCarried 0 m q
split_carried {m} formed placed split =
    subst (IsCarried 0 m) (sym split.is) (renamed_carried m split.names split.naming split.by_first)
