-- What is live, joined and reached in a function whose registers have other numbers was so before, by their old numbers.
use Rattle.std.proofs.Common.{◌≡◌, ◌≢◌, ℕ, cond, not, ◌&&◌, ◌||◌, ⊎_elim, List, [], ◌∷◌, length, refl, sym, ap, ◌∙◌, subst}
use Rattle.std.specs.List.{Contains}
use Rattle.bs_words.specs.declared.types.Loc.{Loc}
use Rattle.bs_words.specs.declared.types.Loc.TheVariants as loc
use Rattle.mach_ir.specs.Meaning.{Destroyed, Nothing, Temporaries, Everything, destroyed_by, is_destroyed, same_colour, is_at_one_of, killed_among, killed_by, killed}
use Rattle.mach_ir.specs.Walks.{AmongRegisters, goes, WalkStep, Raises, Writes, Live, read, on, aside, LiveAfter, after_step, LiveAcross, across_step, across_raise, is_colour, is_in_code, StandsAsInstr, NoAddrLive, IsMove, is_move, Meets, at_write, at_params, Joined, one_way, other_way}
use Rattle.mach_ir.specs.declared.reg.Reg.{Reg}
use Rattle.mach_ir.specs.declared.mach.Instr.{Instr}
use Rattle.mach_ir.specs.declared.mach.Mach.{Mach}
use Rattle.mach_laws.specs.Expand.{expand, Ending, all}
use Rattle.mach_laws.proofs.InPlace as text
use Rattle.mach_laws.proofs.Places.{stands_of, ending_of, args_in, results_in}
use Rattle.mach_laws.proofs.Among.{left_among, right_among, split_among, number_among}
use Rattle.mach_laws.proofs.Colouring.{of_killed_by}
use Rattle.split_rules.specs.Renamed.{Naming, all_numbered, renamed_instr, renamed_code, renamed}
use Rattle.split_rules.specs.Split.{IsNaming}
use Rattle.split_rules.specs.Writes.{WriteReaches, from_write, past, past_raise}
use Rattle.split_rules.proofs.Text.{again, same_ops, alone, as_expanded, was_at, was_register, named_among, among_named}

-- ---- what is destroyed is known by places

at_same : (f : ℕ → ℕ) (l : Loc) (rs : List Reg) → is_at_one_of l (all_numbered f rs) ≡ is_at_one_of l rs
at_same f l [] = refl
at_same f l (r ∷ rs) = ap (λ b. same_colour l r.loc || b) (at_same f l rs)

among_same : (f : ℕ → ℕ) (cs : List Reg) (d : Destroyed) (rs : List Reg) →
    killed_among cs d (all_numbered f rs) ≡ killed_among cs d rs
among_same f [] d rs = refl
among_same f (x ∷ cs) d rs =
    ap
    (λ b. cond (is_destroyed d x.loc && not b) (x ∷ killed_among cs d (all_numbered f rs))
    (killed_among cs d (all_numbered f rs)))
    (at_same f x.loc rs)
    ∙ ap (λ ks. cond (is_destroyed d x.loc && not (is_at_one_of x.loc rs)) (x ∷ ks) ks) (among_same f cs d rs)

by_same : (f : ℕ → ℕ) (cs : List Reg) (d : Destroyed) (rs : List Reg) →
    killed_by cs d (all_numbered f rs) ≡ killed_by cs d rs
by_same f cs Nothing rs = refl
by_same f cs Temporaries rs = among_same f cs Temporaries rs
by_same f cs Everything rs = among_same f cs Everything rs

module _ (m : Mach) (names : Naming) (is : IsNaming m names)
    (colour_fixed : (r : Reg) → Contains m.colours r → r.loc ≢ loc.Unset) where
  abbrev q : Mach
  q = renamed names m

  -- the instruction before this code, renamed
  abbrev pub new : List Instr → Instr → Instr
  new next i = renamed_instr names (length next) i

  pub killed_same : (next : List Instr) (i : Instr) → killed q (new next i) ≡ killed m i
  killed_same next i = by_same (names.write (length next)) m.colours (destroyed_by i.op) i.results

  -- what is destroyed keeps its number
  pub killed_stays : {n : ℕ} (i : Instr) (k : ℕ) → AmongRegisters n (killed m i) → (names.write k n ≡ n) × (is.back n ≡ n)
  killed_stays {n} i k a =
      let r = number_among m.colours (of_killed_by n m.colours (destroyed_by i.op) i.results a) in
      let fixed = colour_fixed r.0 r.1 in
      let stays : names.write k n ≡ n =
      subst (λ n. names.write k n ≡ n) r.2 (is.write_fixed r.0 (is_colour r.1) fixed k) in (
        stays,
        subst (λ n. is.back n ≡ n) r.2
            (ap is.back (sym (is.write_fixed r.0 (is_colour r.1) fixed k)) ∙ is.write_back r.0 (is_colour r.1) k),
      )

  pub result_back : {n : ℕ} {i : Instr} {next : List Instr} → StandsAsInstr i next m.code → AmongRegisters n i.results → (k : ℕ) →
      is.back (names.write k n) ≡ n
  result_back {n} {i} s a k =
      let r = number_among i.results a in
      subst (λ n. is.back (names.write k n) ≡ n) r.2 (is.write_back r.0 (is_in_code (results_in s r.1)) k)

  pub arg_back : {n : ℕ} {i : Instr} {next : List Instr} → StandsAsInstr i next m.code → AmongRegisters n i.args → (k : ℕ) →
      is.back (names.read k n) ≡ n
  arg_back {n} {i} s a k =
      let r = number_among i.args a in
      subst (λ n. is.back (names.read k n) ≡ n) r.2 (is.read_back r.0 (is_in_code (args_in s r.1)) k)

  -- a write by the new number is one by the old
  pub wrote_new : {n : ℕ} (i : Instr) (next : List Instr) → Writes m i n → Writes q (new next i) (names.write (length next) n)
  wrote_new {n} i next w =
      ⊎_elim
      (λ a. left_among (new next i).results (killed q (new next i)) (named_among (names.write (length next)) i.results a))
      (λ a.
      right_among (new next i).results (killed q (new next i))
      (subst (λ ks. AmongRegisters (names.write (length next) n) ks) (sym (killed_same next i))
      (subst (λ x. AmongRegisters x (killed m i)) (sym (killed_stays i (length next) a).0) a)))
      (split_among n i.results (killed m i) w)

  pub wrote_old : {x : ℕ} {i : Instr} {next : List Instr} → StandsAsInstr i next m.code → Writes q (new next i) x →
      Writes m i (is.back x)
  wrote_old {x} {i} {next} s w =
      ⊎_elim
      (λ a.
      let o = among_named (names.write (length next)) i.results a in
      left_among i.results (killed m i)
      (subst (λ n. AmongRegisters n i.results)
      (sym (result_back s o.1 (length next)) ∙ ap is.back o.2) o.1))
      (λ a.
      let k : AmongRegisters x (killed m i) = subst (λ ks. AmongRegisters x ks) (killed_same next i) a in
      right_among i.results (killed m i) (subst (λ n. AmongRegisters n (killed m i)) (sym (killed_stays i 0 k).1) k))
      (split_among x (new next i).results (killed q (new next i)) w)

  -- ---- walks

  -- this number stands for a register here: every write of it that comes here has it
  abbrev pub StandsFor : ℕ → ℕ → List Instr → Type 0
  StandsFor x n rest = (from : List Instr) → WriteReaches m n from rest → names.write (length from) n ≡ x

  pub stands_on : {x n : ℕ} {i : Instr} {next to : List Instr} → (Writes m i n → ⊥) → WalkStep m i next to → StandsFor x n to →
      StandsFor x n (i ∷ next)
  stands_on w l s = λ from c. s from (past c w l)

  pub stands_aside : {x n : ℕ} {i : Instr} {next to : List Instr} → Raises m i next to → StandsFor x n to →
      StandsFor x n (i ∷ next)
  stands_aside r s = λ from c. s from (past_raise c r)

  -- what it wrote is known by where it goes on
  pub not_written : {x n : ℕ} {i : Instr} {next to : List Instr} → StandsAsInstr i next m.code → WalkStep m i next to → StandsFor x n to →
      (Writes q (new next i) x → ⊥) → Writes m i n → ⊥
  not_written {x} {n} {i} {next} s l h free w =
      free (subst (Writes q (new next i)) (h next (from_write s w l)) (wrote_new i next w))

  code_is : (renamed names m).code ≡ expand (alone names) m.code
  code_is = as_expanded names m.code

  -- the register of this number was live there by its old one, that this one stands for
  pub record WasLive (x : ℕ) (rest : List Instr) : Type 0 where
    pub live : Live m (is.back x) rest
    pub stands : StandsFor x (is.back x) rest

  carries : text.Carries (again names) (same_ops names) m q code_is WasLive
  carries =
      record {
        reads = λ x i next e a.
            let o = among_named (names.read (length next)) i.args a in
            let old : is.back x ≡ o.0 = ap is.back (sym o.2) ∙ arg_back (stands_of e) o.1 (length next) in
            let among : AmongRegisters (is.back x) i.args = subst (λ n. AmongRegisters n i.args) (sym old) o.1 in
            record {
              live = read among;
              stands = λ from c.
                  sym (is.agree i next from (is.back x) (stands_of e) among c) ∙ ap (names.read (length next)) old ∙ o.2;
            };
        steps = λ x i next t e w o v.
            let free = not_written (stands_of e) (goes t o) v.stands w in
            record { live = on free (goes t o) v.live; stands = stands_on free (goes t o) v.stands };
        rises = λ x i next l r v. record { live = aside r v.live; stands = stands_aside r v.stands };
      }

  -- what is live there was live
  pub live_before : {x : ℕ} {code : List Instr} → Ending code m.code → Live q x (renamed_code names code) → WasLive x code
  live_before {code = code} e v =
      text.live_back (again names) (same_ops names) m q code_is WasLive carries v code e (as_expanded names code)

  -- the same of what follows an instruction
  there : (P : Instr → List Instr → Type 0) {j : Instr} {ys : List Instr} (i : Instr) (next : List Instr) → new next i ≡ j →
      renamed_code names next ≡ ys → P j ys → P (new next i) (expand (alone names) next)
  there P {j} i next e h p =
      subst (λ (j : Instr). P j (expand (alone names) next)) (sym e)
      (subst (P j) (sym h ∙ as_expanded names next) p)

  after_back : {x : ℕ} {j : Instr} {ys : List Instr} (i : Instr) (next : List Instr) → Ending (i ∷ next) m.code →
      new next i ≡ j → renamed_code names next ≡ ys → LiveAfter q x j ys → LiveAfter m (is.back x) i next
  after_back {x} i next ending e h v =
      text.after_back (again names) (same_ops names) m q code_is WasLive carries ending (λ t o v. after_step (goes t o) v.live)
      (there (LiveAfter q x) i next e h v)

  -- the same across an instruction
  pub record WasAcross (x : ℕ) (i : Instr) (next : List Instr) : Type 0 where
    pub across : LiveAcross m (is.back x) i next
    pub stands : StandsFor x (is.back x) (i ∷ next)

  pub across_back : {x : ℕ} {j : Instr} {ys : List Instr} (i : Instr) (next : List Instr) → Ending (i ∷ next) m.code →
      new next i ≡ j → renamed_code names next ≡ ys → LiveAcross q x j ys → WasAcross x i next
  across_back {x} i next ending e h v =
      text.across_back (again names) (same_ops names) m q code_is WasLive carries ending
      (λ t w o old.
      let free = not_written (stands_of ending) (goes t o) old.stands w in
      record { across = across_step free (goes t o) old.live; stands = stands_on free (goes t o) old.stands })
      (λ l r old. record { across = across_raise r old.live; stands = stands_aside r old.stands })
      (there (LiveAcross q x) i next e h v)

  -- ---- the graph

  -- a register that has kept its number
  pub record Stays (n : ℕ) : Type 0 where
    pub back : is.back n ≡ n
    pub read : (k : ℕ) → names.read k n ≡ n
    pub write : (k : ℕ) → names.write k n ≡ n

  move_there : {k n : ℕ} {i : Instr} (next : List Instr) → Stays k → Stays n → IsMove k n i → IsMove k n (new next i)
  move_there next a b (is_move e h) =
      is_move (ap (names.read (length next)) e ∙ a.read (length next)) (ap (names.write (length next)) h ∙ b.write (length next))

  meets_back : {n k : ℕ} → Stays n → Stays k → Meets q n k → Meets m n k
  meets_back {n} {k} a b (at_write j ys s w v apart) =
      let o = was_at names m.code s in
      at_write o.instr o.after o.stands
      (subst (Writes m o.instr) a.back (wrote_old o.stands (subst (λ (j : Instr). Writes q j n) (sym o.same) w)))
      (subst (λ k. LiveAfter m k o.instr o.after) b.back
      (after_back o.instr o.after (ending_of o.stands) o.same o.same_after v))
      (λ move. apart (subst (IsMove k n) o.same (move_there o.after b a move)))
  meets_back {n} {k} a b (at_params z v) = at_params z (subst (λ k. Live m k m.code) b.back (live_before all v).live)

  -- fixed registers that are joined were joined
  pub joined_before : {n k : ℕ} → Stays n → Stays k → Joined q n k → Joined m n k
  joined_before a b (one_way e h) = one_way e (meets_back a b h)
  joined_before a b (other_way e h) = other_way e (meets_back b a h)

  -- ---- places that are reached

  pub no_addr_before : NoAddrLive m → NoAddrLive (renamed names m)
  no_addr_before none =
      text.no_addr_back (again names) (same_ops names) m q code_is
      (λ i next ending reached frame r one addr v.
      let x = was_register m names is colour_fixed r one in
      none.none i next reached frame x.register x.among (ap (λ (r : Reg). r.comp) x.same ∙ addr)
      (subst (λ n. LiveAcross m n i next) x.back (across_back i next ending refl (as_expanded names next) v).across))
