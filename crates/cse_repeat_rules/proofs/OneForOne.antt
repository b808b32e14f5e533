-- Code in which one instruction is in the place of each, and writes what that one did.
use Rattle.std.proofs.Common.{◌≡◌, ◌≢◌, ℕ, suc, true, ◌⊎◌, inl, inr, ⊎_elim, List, [], ◌∷◌, ◌++◌, length, refl, sym, ap, ◌∙◌, subst, append_assoc}
use Rattle.std.proofs.lemmas.List.{append_cancel_right}
use Rattle.std.proofs.lemmas.List.Elements.{All-contains}
use Rattle.std.specs.List.{All, AllPairs, Contains}
use Rattle.std.specs.Prelude.{◌<◌, ◌≤◌}
use Rattle.std.proofs.Math.Nat.{le_trans}
use Rattle.std.proofs.lemmas.Option.{same_Some}
use Rattle.bs_words.specs.declared.types.Comp.TheVariants as comp
use Rattle.bs_words.specs.declared.types.Loc.TheVariants as loc
use Rattle.bs_words.proofs.Lists.{first_in, later_in}
use Rattle.mach_ir.specs.Acts.{Target, On, At}
use Rattle.mach_ir.specs.Placed.{MayShare, WellPlaced}
use Rattle.mach_ir.specs.Meaning.{Held, State, Nothing, after_label, from_handler, code_at, destroyed_by, killed_by, registers_written, passes_frame}
use Rattle.mach_ir.specs.Walks.{AmongRegisters, goes, Writes, Live, on, aside, LiveAfter, after_step, LiveAcross, across_step, across_raise, InCode, in_args, in_results, further, IsRegister, NoAddrLive, StandsAsInstr, here, below, Meets, Joined, one_way, other_way}
use Rattle.mach_ir.specs.Formed.{comps, IsFormedInstruction, AreDistinct, WellFormed}
use Rattle.mach_ir.specs.Forms.{results_of_type}
use Rattle.mach_ir.specs.Sizes.{operand_count, Size, HasSize}
use Rattle.mach_ir.specs.declared.op.Leaving.TheVariants as leaving
use Rattle.mach_ir.specs.declared.op.Op.TheVariants as op
use Rattle.mach_ir.specs.declared.mach.MachOp.TheVariants as mach
use Rattle.mach_ir.specs.declared.reg.Reg.{Reg}
use Rattle.mach_ir.specs.declared.mach.Instr.{Instr}
use Rattle.mach_ir.specs.declared.mach.Mach.{Mach}
use Rattle.mach_laws.specs.Expand.{expand, Ending, all, more}
use Rattle.mach_laws.proofs.Places.{contains_of}
use Rattle.mach_laws.proofs.Simulate.{Agrees}
use Rattle.mach_laws.proofs.InPlace as text
use Rattle.mach_laws.proofs.InPlace.{AreAlike, one_each, op_same}
use Rattle.cse_repeat_rules.specs.Kept.{OwnOrigins}

-- ---- lists

pub in_append : (xs : List Instr) (y : Instr) (ys : List Instr) → Contains (xs ++ y ∷ ys) y
in_append [] y ys = first_in y ys
in_append (x ∷ xs) y ys = later_in x y (xs ++ y ∷ ys) (in_append xs y ys)

-- ---- what is in code

pub in_code_stands : {r : Reg} (code : List Instr) → InCode r code →
    (j : Instr) × (zs : List Instr) × StandsAsInstr j zs code × (Contains j.args r ⊎ Contains j.results r)
in_code_stands [] c = elim c [ ]
in_code_stands (i ∷ is) (in_args c) = (i, is, here, inl c)
in_code_stands (i ∷ is) (in_results c) = (i, is, here, inr c)
in_code_stands (i ∷ is) (further c) = let w = in_code_stands is c in (w.0, w.1, below w.2, w.3)

-- what stands for an instruction
pub record StandsFor (i j : Instr) : Type 0 where
  pub op : AreAlike i.op j.op
  pub results : j.results ≡ i.results

-- ---- the code

module _ (again : ℕ → Instr → Instr) where
  abbrev f : ℕ → Instr → List Instr
  f = one_each again

  -- the code before an instruction
  pub record Before (i : Instr) (next code : List Instr) : Type 0 where
    pub before : List Instr
    pub made : List Instr
    pub whole : code ≡ before ++ i ∷ next
    pub made_so : expand f code ≡ made ++ again (length next) i ∷ expand f next

  pub before_of : {i : Instr} {next code : List Instr} → StandsAsInstr i next code → Before i next code
  before_of here = record { before = []; made = []; whole = refl; made_so = refl }
  before_of (below {j = j} {is = is} s) =
      let w = before_of s in
      record {
        before = j ∷ w.before;
        made = again (length is) j ∷ w.made;
        whole = ap (λ xs. j ∷ xs) w.whole;
        made_so = ap (λ xs. again (length is) j ∷ xs) w.made_so;
      }

  pub record Made (rest code : List Instr) : Type 0 where
    pub made : List Instr
    pub whole : expand f code ≡ made ++ expand f rest

  pub made_to : {rest code : List Instr} → Ending rest code → Made rest code
  made_to all = record { made = []; whole = refl }
  made_to (more {i = i} {code = code} e) =
      let w = made_to e in
      record {
        made = again (length code) i ∷ w.made;
        whole = ap (λ xs. again (length code) i ∷ xs) w.whole;
      }

  -- what is before the code after an instruction ends with what stands for that instruction
  pub made_past : {i : Instr} {next code : List Instr} (made : List Instr) → Ending (i ∷ next) code → expand f code ≡ made ++ expand f next →
      (b : Made (i ∷ next) code) × (made ≡ b.made ++ again (length next) i ∷ [])
  made_past {i} {next} {code} made ending whole = (
    b,
    append_cancel_right made (b.made ++ x ∷ []) (expand f next)
        (sym whole ∙ b.whole ∙ sym (append_assoc b.made (x ∷ []) (expand f next))),
  )
    where
      x : Instr
      x = again (length next) i

      b : Made (i ∷ next) code
      b = made_to ending

  pub same_length : (code : List Instr) → length (expand f code) ≡ length code
  same_length [] = refl
  same_length (i ∷ is) = ap suc (same_length is)

-- Of two ways to replace the instructions of a code there is one, where after the same code they give the same.
module _ (p w : ℕ → Instr → Instr) (whole : List Instr)
    (one : (i : Instr) (next before made : List Instr) → whole ≡ before ++ i ∷ next →
    expand (one_each p) whole ≡ made ++ p (length next) i ∷ expand (one_each p) next →
    expand (one_each w) whole ≡ made ++ w (length next) i ∷ expand (one_each w) next → p (length next) i ≡ w (length next) i) where
  pub one_code : (code before made : List Instr) → whole ≡ before ++ code → expand (one_each p) whole ≡ made ++ expand (one_each p) code →
      expand (one_each w) whole ≡ made ++ expand (one_each w) code → expand (one_each p) code ≡ expand (one_each w) code
  one_code [] before made is e h = refl
  one_code (i ∷ next) before made is e h =
      let x : Instr = p (length next) i in
      let same : p (length next) i ≡ w (length next) i = one i next before made is e h in
      ap (λ z. z ∷ expand (one_each p) next) same
      ∙ ap (λ xs. w (length next) i ∷ xs)
      (one_code next (before ++ i ∷ []) (made ++ x ∷ []) (is ∙ sym (append_assoc before (i ∷ []) next))
      (e ∙ sym (append_assoc made (x ∷ []) (expand (one_each p) next)))
      (h ∙ ap (λ z. made ++ z ∷ expand (one_each w) next) (sym same) ∙ sym (append_assoc made (x ∷ []) (expand (one_each w) next))))

-- ---- where results stay too

module _ (again : ℕ → Instr → Instr) (alike : (k : ℕ) (i : Instr) → StandsFor i (again k i)) where
  abbrev g : ℕ → Instr → List Instr
  g = one_each again

  ops : (k : ℕ) (i : Instr) → AreAlike i.op (again k i).op
  ops k i = (alike k i).op

  abbrev now : Mach → Mach
  now m = record m { code = expand g m.code }

  -- ---- form and sizes

  -- where each that stands for an instruction is formed, and returns what the function gives
  pub still_formed : (m : Mach) → WellFormed m →
      ((r : Reg) → IsRegister (record m { code = expand (one_each again) m.code }) r → IsRegister m r) →
      ((i : Instr) (next : List Instr) → StandsAsInstr i next m.code → IsFormedInstruction (again (length next) i)) →
      ((i : Instr) (next : List Instr) → StandsAsInstr i next m.code → (again (length next) i).op ≡ mach.Op (op.Leaving leaving.Return) →
      comps (again (length next) i).args ≡ results_of_type m.result) →
      WellFormed (record m { code = expand (one_each again) m.code })
  still_formed m formed was_register instrs returns =
      record {
        numbers = λ r k i j e. formed.numbers r k (was_register r i) (was_register k j) e;
        params = formed.params;
        params_distinct = formed.params_distinct;
        instrs = text.all_in again m.code IsFormedInstruction instrs;
        distinct = text.all_in again m.code (λ (i : Instr). AreDistinct i.results)
            (λ i next s.
            subst AreDistinct (sym (alike (length next) i).results)
            (All-contains (λ (i : Instr). AreDistinct i.results) m.code i formed.distinct (contains_of s)));
        returns = text.each_in again m.code (λ (j : Instr). j.op ≡ mach.Op (op.Leaving leaving.Return) → comps j.args ≡ results_of_type m.result)
            returns;
        labels_once = subst (λ ls. AllPairs (λ k l. k ≢ l) ls) (sym (text.same_labels again ops m.code)) formed.labels_once;
        labels_below = subst (λ ls. All (λ l. l < m.labels) ls) (sym (text.same_labels again ops m.code)) formed.labels_below;
        labels = text.labels_stand again ops m (now m) refl formed.labels;
        nested = text.nested again ops m (now m) refl formed.nested;
        cases = text.cases again ops m (now m) refl formed.cases;
      }

  -- with no more operands it has the sizes that it had
  pub still_small : (m : Mach) → ((r : Reg) → IsRegister (record m { code = expand (one_each again) m.code }) r → IsRegister m r) →
      operand_count (expand (one_each again) m.code) ≤ operand_count m.code → (s : Size) → HasSize m s →
      HasSize (record m { code = expand (one_each again) m.code }) s
  still_small m was_register fewer s h =
      record {
        instrs = subst (λ n. n ≤ s.instrs) (sym (same_length again m.code)) h.instrs;
        operands = le_trans fewer h.operands;
        numbers = λ r i. h.numbers r (was_register r i);
        origins = λ r i. h.origins r (was_register r i);
        labels = h.labels;
      }

  -- ---- walks

  module _ (m : Mach) where
    pub written_same : (k : ℕ) (i : Instr) → registers_written m (again k i) ≡ registers_written m i
    written_same k i =
        ap (λ rs. rs ++ killed_by m.colours (destroyed_by (again k i).op) rs) (alike k i).results
        ∙ ap (λ d. i.results ++ killed_by m.colours d i.results) (op_same again ops destroyed_by Nothing (λ f. refl) k i)

    free_there : {n : ℕ} (i : Instr) (k : ℕ) → (Writes (now m) (again k i) n → ⊥) → Writes m i n → ⊥
    free_there {n} i k free w = free (subst (AmongRegisters n) (sym (written_same k i)) w)

    -- ---- places

    module _ (was : (r : Reg) → IsRegister (now m) r → IsRegister m r) where
      -- registers of one origin are one
      pub agreed : OwnOrigins m → (ws : List Reg) (s : State) → Agrees (record m { code = expand (one_each again) m.code }) ws s
      agreed own ws s =
          record {
            agree = λ r k i j origin l e x y h t.
                let same : r.number ≡ k.number = sym (own r (was r i)) ∙ origin ∙ own k (was k j) in
                ap (λ (z : Held). z.value) (same_Some _ _ (sym h ∙ ap s.file same ∙ t));
          }

      -- Where more registers meet, they are not at one place.
      pub still_placed : (Meet : ℕ → ℕ → Type 0) → ((n k : ℕ) → n ≢ k → Meets (now m) n k → Meets m n k ⊎ Meet n k) →
          ((r k : Reg) → IsRegister m r → IsRegister m k → k.loc ≢ loc.Unset → r.loc ≡ k.loc → Meet r.number k.number → ⊥) →
          WellPlaced m → WellPlaced (record m { code = expand (one_each again) m.code })
      still_placed Meet meets none placed =
          record {
            colours = record {
              each = (placed.colours).each;
              least = λ r k c i e. (placed.colours).least r k c (was k i) e;
            };
            agree = record {
              places = λ r i. (placed.agree).places r (was r i);
              apart = λ r k i j joined fixed e. by r k (was r i) (was k j) joined fixed e;
            };
          }
        where
          by : (r k : Reg) → IsRegister m r → IsRegister m k → Joined (now m) r.number k.number → r.loc ≢ loc.Unset → r.loc ≡ k.loc →
              MayShare r k
          by r k i j (one_way n h) fixed e =
              ⊎_elim (λ x. (placed.agree).apart r k i j (one_way n x) fixed e)
              (λ w. absurd (none r k i j (λ u. fixed (e ∙ u)) e w)) (meets r.number k.number n h)
          by r k i j (other_way n h) fixed e =
              ⊎_elim (λ x. (placed.agree).apart r k i j (other_way n x) fixed e)
              (λ w. absurd (none k r j i fixed (sym e) w)) (meets k.number r.number (λ s. n (sym s)) h)

    -- ---- what is live

    -- More is live in the second: what is so at a code, and what an instruction leaves of it.
    module _ (Extra : ℕ → List Instr → Type 0) (Left : ℕ → Instr → List Instr → Type 0) where
      abbrev pub Was : ℕ → List Instr → Type 0
      Was n rest = Live m n rest ⊎ Extra n rest

      pub record IsExtra : Type 0 where
        pub reads : (n : ℕ) (i : Instr) (next : List Instr) → Ending (i ∷ next) m.code → AmongRegisters n (again (length next) i).args → Was n (i ∷ next)
        pub left : (n : ℕ) (i : Instr) (next : List Instr) → Ending (i ∷ next) m.code → (Writes m i n → ⊥) → Extra n next → Left n i next
        pub before : (n : ℕ) (i : Instr) (next : List Instr) → Ending (i ∷ next) m.code → Left n i next → Was n (i ∷ next)
        pub at_label : (n l : ℕ) → Extra n (after_label l m.code) → ⊥
        pub at_handler : (n l : ℕ) → Extra n (from_handler l m.code) → ⊥

      module _ (extra : IsExtra) where
        next_extra : {n : ℕ} {next : List Instr} (t : Target) → Extra n (code_at m.code next t) → Extra n next
        next_extra On x = x
        next_extra {n} (At l) x = absurd (extra.at_label n l x)

        carries : text.Carries again ops m (now m) refl Was
        carries =
            record {
              reads = extra.reads;
              steps = λ n i next t end free o.
                  let free' = free_there i (length next) free in
                  ⊎_elim (λ l. inl (on free' (goes t o) l)) (λ x. extra.before n i next end (extra.left n i next end free' (next_extra t x)));
              rises = λ n i next l r. ⊎_elim (λ v. inl (aside r v)) (λ x. absurd (extra.at_handler n l x));
            }

        pub live_back : {n : ℕ} {ys : List Instr} → Live (now m) n ys → (rest : List Instr) → Ending rest m.code → ys ≡ expand g rest → Was n rest
        live_back = text.live_back again ops m (now m) refl Was carries

        pub across_back : {n : ℕ} {i : Instr} {next : List Instr} → Ending (i ∷ next) m.code →
            LiveAcross (now m) n (again (length next) i) (expand g next) → LiveAcross m n i next ⊎ Left n i next
        across_back {n} {i} {next} ending =
            text.across_back again ops m (now m) refl Was carries ending
            (λ t free o.
            let free' = free_there i (length next) free in
            ⊎_elim (λ l. inl (across_step free' (goes t o) l)) (λ x. inr (extra.left n i next ending free' (next_extra t x))))
            (λ l r. ⊎_elim (λ x. inl (across_raise r x)) (λ x. absurd (extra.at_handler n l x)))

        pub after_back : {n : ℕ} {i : Instr} {next : List Instr} → Ending (i ∷ next) m.code →
            LiveAfter (now m) n (again (length next) i) (expand g next) → LiveAfter m n i next ⊎ Extra n next
        after_back ending =
            text.after_back again ops m (now m) refl Was carries ending
            (λ t o. ⊎_elim (λ l. inl (after_step (goes t o) l)) (λ x. inr (next_extra t x)))

        -- No addr is live after a frame point where none was, if what an instruction leaves is lost at none.
        pub no_addr_back : ((r : Reg) → IsRegister (now m) r → IsRegister m r) →
            ((i : Instr) (next : List Instr) (r : Reg) → IsRegister m r → r.comp ≡ comp.Addr → passes_frame i.op ≡ true →
            Left r.number i next → ⊥) → NoAddrLive m → NoAddrLive (record m { code = expand (one_each again) m.code })
        no_addr_back was lost none =
            text.no_addr_back again ops m (now m) refl
            (λ i next ending there frame r one addr v.
            ⊎_elim (λ l. none.none i next there frame r (was r one) addr l) (λ s. lost i next r (was r one) addr frame s)
            (across_back ending v))
