-- A well-formed function is so whose registers have other numbers.
use Rattle.std.proofs.Common.{◌≡◌, ◌≢◌, ℕ, zero, suc, ◌<◌, List, [], ◌∷◌, map, length, refl, sym, ap, ◌∙◌, subst, arith}
use Rattle.std.specs.List.{All, AllPairs, Contains}
use Rattle.std.specs.Prelude.{slice_index_or}
use Rattle.std.proofs.lemmas.List.Elements.{Contains-get_or, All-contains}
use Rattle.std.proofs.lemmas.List.{length-map}
use Rattle.bs_words.specs.declared.types.Loc.TheVariants as loc
use Rattle.mach_ir.specs.Forms.{HasForm, results_of_type}
use Rattle.mach_ir.specs.Formed.{comps, MarkHasForm, IsFormedInstruction, formed_op, formed_mark, AreDistinct, WellFormed}
use Rattle.mach_ir.specs.Walks.{StandsAsInstr, is_in_code}
use Rattle.mach_ir.specs.declared.reg.Reg.{Reg}
use Rattle.mach_ir.specs.declared.mach.MachOp.{MachOp}
use Rattle.mach_ir.specs.declared.mach.Instr.{Instr}
use Rattle.mach_ir.specs.declared.mach.Mach.{Mach}
use Rattle.mach_laws.proofs.InPlace as text
use Rattle.mach_laws.proofs.InPlace.{all_in}
use Rattle.mach_laws.proofs.Places.{results_in, contains_of, stands_in}
use Rattle.split_rules.specs.Renamed.{Naming, register_renumbered, all_numbered, renamed_instr, renamed_code, renamed}
use Rattle.split_rules.specs.Split.{IsNaming}
use Rattle.split_rules.proofs.Text.{same_labels, same_comps, was_at, was_register, again, same_ops, as_expanded}

-- ---- lists

at_mapped : {A B : Type 0} (f : A → B) (xs : List A) (k : ℕ) (d : A) (z : B) → k < length xs →
    slice_index_or (map f xs) k z ≡ f (slice_index_or xs k d)
at_mapped f [] k d z lt = absurd (omega (arith, lt))
at_mapped f (x ∷ xs) zero d z lt = refl
at_mapped f (x ∷ xs) (suc k) d z lt = at_mapped f xs k d z (omega (arith, lt))

distinct_named : (f back : ℕ → ℕ) (rs : List Reg) → ((r : Reg) → Contains rs r → back (f r.number) ≡ r.number) → AreDistinct rs →
    AreDistinct (all_numbered f rs)
distinct_named f back rs known h = λ i j d lt within.
    let le : j < length rs = subst (λ n. j < n) (length-map rs (register_renumbered f)) within in
    let under : i < length rs = omega (arith, lt, le) in
    let one : Reg = slice_index_or rs i d in
    let other : Reg = slice_index_or rs j d in
    let a : slice_index_or (all_numbered f rs) i d ≡ register_renumbered f one = at_mapped (register_renumbered f) rs i d d under in
    let b : slice_index_or (all_numbered f rs) j d ≡ register_renumbered f other = at_mapped (register_renumbered f) rs j d d le in
    λ e.
    h i j d lt le
    (sym (known one (Contains-get_or rs i d under))
    ∙ ap back (ap (λ (r : Reg). r.number) (sym a) ∙ e ∙ ap (λ (r : Reg). r.number) b)
    ∙ known other (Contains-get_or rs j d le))

module _ (names : Naming) where
  -- what holds of each instruction, of each renamed
  pub each_renamed : (P : Instr → Type 0) (code : List Instr) →
      ((i : Instr) (next : List Instr) → StandsAsInstr i next code → P (renamed_instr names (length next) i)) →
      All P (renamed_code names code)
  each_renamed P code h = subst (All P) (sym (as_expanded names code)) (all_in (again names) code P h)

  -- an instruction of the new code was one of the old
  pub record Was (code : List Instr) (j : Instr) : Type 0 where
    pub instr : Instr
    pub after : List Instr
    pub stands : StandsAsInstr instr after code
    pub same : renamed_instr names (length after) instr ≡ j

  pub was_instr : (code : List Instr) (j : Instr) → Contains (renamed_code names code) j → Was code j
  was_instr code j c =
      let s = stands_in (renamed_code names code) j c in
      let w = was_at names code s.1 in
      record { instr = w.instr; after = w.after; stands = w.stands; same = w.same }

  formed : {i : Instr} (k : ℕ) → IsFormedInstruction i → IsFormedInstruction (renamed_instr names k i)
  formed k (formed_op {f = f} {args = args} {results = results} h) =
      formed_op
      (subst (λ cs. HasForm f cs (comps (all_numbered (names.write k) results))) (sym (same_comps names (names.read k) args))
      (subst (λ cs. HasForm f (comps args) cs) (sym (same_comps names (names.write k) results)) h))
  formed k (formed_mark {f = f} {args = args} {results = results} h) =
      formed_mark
      (subst (λ cs. MarkHasForm f cs (comps (all_numbered (names.write k) results))) (sym (same_comps names (names.read k) args))
      (subst (λ cs. MarkHasForm f (comps args) cs) (sym (same_comps names (names.write k) results)) h))

  op_of : (k : ℕ) (i : Instr) {j : Instr} {f : MachOp} → renamed_instr names k i ≡ j → j.op ≡ f → i.op ≡ f
  op_of k i e h = ap (λ (i : Instr). i.op) e ∙ h

module _ (m : Mach) (names : Naming) (is : IsNaming m names) (well : WellFormed m)
    (colour_fixed : (r : Reg) → Contains m.colours r → r.loc ≢ loc.Unset) where
  abbrev q : Mach
  q = renamed names m

  -- A well-formed function is so by whatever numbers.
  pub renamed_formed : WellFormed (renamed names m)
  renamed_formed =
      record {
        numbers = λ r k i j e.
            let w = was_register m names is colour_fixed r i in
            let v = was_register m names is colour_fixed k j in
            let old : w.register ≡ v.register =
            well.numbers w.register v.register w.among v.among (sym w.back ∙ ap is.back e ∙ v.back) in
            sym w.same ∙ ap (λ (x : Reg). record x { number = r.number }) old
            ∙ ap (λ n. record v.register { number = n }) e ∙ v.same;
        params = well.params;
        params_distinct = well.params_distinct;
        instrs = each_renamed names IsFormedInstruction m.code
            (λ i next s. formed names (length next) (All-contains IsFormedInstruction m.code i well.instrs (contains_of s)));
        distinct = each_renamed names (λ (i : Instr). AreDistinct i.results) m.code
            (λ i next s.
            distinct_named (names.write (length next)) is.back i.results
            (λ r c. is.write_back r (is_in_code (results_in s c)) (length next))
            (All-contains (λ (i : Instr). AreDistinct i.results) m.code i well.distinct (contains_of s)));
        returns = λ i c e.
            let w = was_instr names m.code i c in
            subst (λ (i : Instr). comps i.args ≡ results_of_type m.result) w.same
            (same_comps names (names.read (length w.after)) (w.instr).args
            ∙ well.returns w.instr (contains_of w.stands) (op_of names (length w.after) w.instr w.same e));
        labels_once = subst (λ ls. AllPairs (λ k l. k ≢ l) ls) (sym (same_labels names m.code)) well.labels_once;
        labels_below = subst (λ ls. All (λ l. l < m.labels) ls) (sym (same_labels names m.code)) well.labels_below;
        labels = text.labels_stand (again names) (same_ops names) m q (as_expanded names m.code) well.labels;
        nested = text.nested (again names) (same_ops names) m q (as_expanded names m.code) well.nested;
        cases = text.cases (again names) (same_ops names) m q (as_expanded names m.code) well.cases;
      }
