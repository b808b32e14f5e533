-- What is live in the graph of wanted registers is what is wanted.
use Rattle.std.proofs.Common.{◌≡◌, ℕ, zero, suc, ◌<◌, Bool, true, false, cond, ◌&&◌, inl, inr, ⊎_elim, List, [], ◌∷◌, length, drop, refl, sym, ap, ◌∙◌, subst, arith}
use Rattle.std.proofs.lemmas.List.Elements.{All-contains, All-nil}
use Rattle.std.specs.List.{All, Contains}
use Rattle.std.proofs.lemmas.Bool.{and_parts}
use Rattle.bs_bits.specs.Set.{has}
use Rattle.bs_words.specs.Contents.{contents}
use Rattle.bs_words.proofs.Lists.{none_in, first_in, later_in, in_cons}
use Rattle.dataflow.specs.Flow.{Graph, graph, ReadsIn, LiveBefore}
use Rattle.dataflow.specs.Flow as flows
use Rattle.dataflow.specs.Live.{IsLiveness}
use Rattle.dataflow.specs.Rows.{set_in_row}
use Rattle.dataflow.specs.declared.flow.Flow as flow
use Rattle.mach_ir.specs.Meaning.{registers_written}
use Rattle.mach_ir.specs.Walks.{goes}
use Rattle.mach_ir.specs.declared.reg.Reg.{Reg}
use Rattle.mach_ir.specs.declared.mach.Instr.{Instr}
use Rattle.mach_ir.specs.declared.mach.Mach.{Mach}
use Rattle.mach_laws.specs.Expand.{Ending}
use Rattle.mach_laws.specs.Graph.{code_index, numbers_of_registers, next_places, raise_places, numbers_read, numbers_written, IsFlowOf}
use Rattle.mach_laws.proofs.Walking.{place_is, among_numbers, in_numbers, place_within, ending_place, ending_leads, ending_raises}
use Rattle.mach_laws.proofs.Places.{stands_of, ending_of, is_unset}
use Rattle.mach_laws.proofs.Among.{among_of}
use Rattle.liveness.specs.Nodes.{Uses, AreLivenessNodes}
use Rattle.liveness.proofs.Graph.{count_is, part_is, nodes_within}
use Rattle.spill_rules.specs.Chosen.{Lost, IsReloaded}
use Rattle.spill.specs.Graphs.{reloaded_among, reloaded_before, wanted_uses}
use Rattle.spill.specs.Tables.{Wanted, here, on, aside, AreLost, AreWanted}
use Rattle.liveness.proofs.Steps.{each, Steps, steps_of, steps_to, Raised, raised_of, raises_to, reads_small, writes_small}
use Rattle.mach_ir.specs.Places.{is_unset_location}

-- ---- operands that are reloaded

pub record IsReloadedAmong (lost : List (List Bool)) (p : ℕ) (rs : List Reg) (n : ℕ) : Type 0 where
  pub register : Reg
  pub operand : Contains rs register
  pub number : register.number ≡ n
  pub tested : (is_unset_location register.loc && has (set_in_row lost p) register.number) ≡ true

module _ (lost : List (List Bool)) (p n : ℕ) where
  pub in_reloaded : (rs : List Reg) → Contains (reloaded_among lost p rs) n → IsReloadedAmong lost p rs n
  in_reloaded [] c = absurd (none_in n c)
  in_reloaded (r ∷ rs) c = by (is_unset_location r.loc && has (set_in_row lost p) r.number) refl (λ d. further (in_reloaded rs d)) c
    where
      further : IsReloadedAmong lost p rs n → IsReloadedAmong lost p (r ∷ rs) n
      further h =
          record { register = h.register; operand = later_in r h.register rs h.operand; number = h.number; tested = h.tested }

      by : (b : Bool) → (is_unset_location r.loc && has (set_in_row lost p) r.number) ≡ b →
          (Contains (reloaded_among lost p rs) n → IsReloadedAmong lost p (r ∷ rs) n) →
          Contains (cond b (r.number ∷ reloaded_among lost p rs) (reloaded_among lost p rs)) n → IsReloadedAmong lost p (r ∷ rs) n
      by true e more c =
          ⊎_elim (λ s. record { register = r; operand = first_in r rs; number = s; tested = e }) more
          (in_cons r.number n (reloaded_among lost p rs) c)
      by false e more c = more c

  pub reloaded_in : (rs : List Reg) (r : Reg) → Contains rs r → r.number ≡ n → (is_unset_location r.loc && has (set_in_row lost p) r.number) ≡ true →
      Contains (reloaded_among lost p rs) n
  reloaded_in [] r c s e = absurd (none_in r c)
  reloaded_in (x ∷ rs) r c s e =
      ⊎_elim (λ h. here_is h)
      (λ d. by (is_unset_location x.loc && has (set_in_row lost p) x.number) (reloaded_in rs r d s e)) (in_cons x r rs c)
    where
      by : (b : Bool) → Contains (reloaded_among lost p rs) n → Contains (cond b (x.number ∷ reloaded_among lost p rs) (reloaded_among lost p rs)) n
      by true d = later_in x.number n (reloaded_among lost p rs) d
      by false d = d

      here_is : x ≡ r → Contains (reloaded_among lost p (x ∷ rs)) n
      here_is h =
          let t : (is_unset_location x.loc && has (set_in_row lost p) x.number) ≡ true =
          ap (λ (r : Reg). is_unset_location r.loc && has (set_in_row lost p) r.number) h ∙ e in
          subst (λ b. Contains (cond b (x.number ∷ reloaded_among lost p rs) (reloaded_among lost p rs)) n) (sym t)
          (subst (Contains (x.number ∷ reloaded_among lost p rs)) (ap (λ (r : Reg). r.number) h ∙ s)
          (first_in x.number (reloaded_among lost p rs)))

-- ---- one place

module _ (m : Mach) (lost : List (List Bool)) (are : AreLost m lost) where
  pub reloaded_here : {i : Instr} {next : List Instr} {n : ℕ} → Ending (i ∷ next) m.code →
      Contains (reloaded_among lost (code_index m (i ∷ next)) i.args) n → IsReloaded m i next n
  reloaded_here {i} {next} {n} ending c =
      let p = code_index m (i ∷ next) in
      let x = in_reloaded lost p n i.args c in
      let t = and_parts (is_unset_location (x.register).loc) (has (set_in_row lost p) (x.register).number) x.tested in
      record {
        stands = stands_of ending;
        register = x.register;
        operand = x.operand;
        number = x.number;
        unset = is_unset (x.register).loc t.0;
        lost = subst (Lost m n) (place_is m ending)
            ((are.exact p n (place_within m (i ∷ next))).0 (subst (λ n. has (set_in_row lost p) n ≡ true) x.number t.1));
      }

  pub here_reloaded : {i : Instr} {next : List Instr} {n : ℕ} → IsReloaded m i next n →
      Contains (reloaded_among lost (code_index m (i ∷ next)) i.args) n
  here_reloaded {i} {next} {n} h =
      let p = code_index m (i ∷ next) in
      let r = h.register in
      let ending = ending_of h.stands in
      let at : has (set_in_row lost p) n ≡ true = (are.exact p n (place_within m (i ∷ next))).1 (subst (Lost m n) (sym (place_is m ending)) h.lost) in
      reloaded_in lost p n i.args r h.operand h.number
      (ap (λ l. is_unset_location l && has (set_in_row lost p) r.number) h.unset ∙ ap (has (set_in_row lost p)) h.number ∙ at)

module _ (m : Mach) (lost : List (List Bool)) (are : AreLost m lost) (old : flow.Flow) (is : IsFlowOf m old) (formed : flows.IsFlowFormed old)
    (f : flow.Flow) (nodes : AreLivenessNodes m (wanted_uses m lost) m.code (contents f.places)) (bound : f.bound ≡ old.bound) where
  abbrev g : Graph
  g = graph f

  abbrev uses : Uses
  uses = wanted_uses m lost

  next_at : (p : ℕ) → g.next p ≡ next_places m (drop p m.code)
  next_at p = part_is m uses (λ x. contents x.next) (next_places m) refl (λ rest node n. n.next) nodes p

  aside_at : (p : ℕ) → g.aside p ≡ raise_places m (drop p m.code)
  aside_at p = part_is m uses (λ x. contents x.aside) (raise_places m) refl (λ rest node n. n.aside) nodes p

  reads_at : (p : ℕ) → g.reads p ≡ reloaded_before m lost (drop p m.code)
  reads_at p = part_is m uses (λ x. contents x.reads) (reloaded_before m lost) refl (λ rest node n. n.reads) nodes p

  writes_at : (p : ℕ) → g.writes p ≡ numbers_written m (drop p m.code)
  writes_at p = part_is m uses (λ x. contents x.writes) (numbers_written m) refl (λ rest node n. n.writes) nodes p

  -- ---- from the graph

  abbrev Known : ℕ → ℕ → Type 0
  Known n k = (p : ℕ) → ReadsIn g n k p → Wanted m n (drop p m.code)

  read_wanted : (n p : ℕ) (rest : List Instr) → drop p m.code ≡ rest → Contains (reloaded_before m lost rest) n → Wanted m n rest
  read_wanted n p [] e c = absurd (none_in n c)
  read_wanted n p (i ∷ next) e c = here (reloaded_here m lost are (ending_place m p e) c)

  stepped : (n k p q : ℕ) → Known n k → Steps m p q → (Contains (g.writes p) n → ⊥) → ReadsIn g n k q → Wanted m n (drop p m.code)
  stepped n k p q known s w h =
      let i = s.instr in
      subst (Wanted m n) (sym s.is)
      (on (λ a. w (subst (λ xs. Contains xs n) (sym (writes_at p ∙ ap (numbers_written m) s.is)) (in_numbers a)))
      (goes s.target s.one) (subst (Wanted m n) s.to (known q h)))

  raised : (n k p q : ℕ) → Known n k → Raised m p q → ReadsIn g n k q → Wanted m n (drop p m.code)
  raised n k p q known s h = subst (Wanted m n) (sym s.is) (aside s.raise (subst (Wanted m n) s.lands_at (known q h)))

  to_wanted : (n k : ℕ) → Known n k
  to_wanted n zero = λ p h. read_wanted n p (drop p m.code) refl (subst (λ xs. Contains xs n) (reads_at p) h)
  to_wanted n (suc k) = λ p h.
      ⊎_elim
      (λ s.
      let q = (s.1).0 in
      stepped n k p q (to_wanted n k) (steps_of m p q (drop p m.code) refl (subst (λ xs. Contains xs q) (next_at p) (s.1).1)) s.0 (s.1).2)
      (λ s.
      raised n k p s.0 (to_wanted n k) (raised_of m p s.0 (drop p m.code) refl (subst (λ xs. Contains xs s.0) (aside_at p) s.1)) s.2) h

  -- ---- and back

  wanted_to : {n : ℕ} {rest : List Instr} → Wanted m n rest → (p : ℕ) → drop p m.code ≡ rest → LiveBefore g p n
  wanted_to {n} (here h) p e = (
    0,
    subst (λ xs. Contains xs n) (sym (reads_at p ∙ ap (reloaded_before m lost) e)) (here_reloaded m lost are h),
  )
  wanted_to {n} (on {i = i} {next = next} {to = to} w l v) p e =
      let h = wanted_to v (code_index m to) (place_is m (ending_leads l (ending_place m p e))) in (
        suc h.0,
        inl (
          λ c. w (among_numbers n (registers_written m i) (subst (λ xs. Contains xs n) (writes_at p ∙ ap (numbers_written m) e) c)),
          (
            code_index m to,
            subst (λ xs. Contains xs (code_index m to)) (sym (next_at p ∙ ap (next_places m) e)) (steps_to m l),
            h.1,
          ),
        ),
      )
  wanted_to {n} (aside {i = i} {next = next} {to = to} r v) p e =
      let h = wanted_to v (code_index m to) (place_is m (ending_raises r)) in (
        suc h.0,
        inr (
          code_index m to,
          subst (λ xs. Contains xs (code_index m to)) (sym (aside_at p ∙ ap (raise_places m) e)) (raises_to m r),
          h.1,
        ),
      )

  pub are_wanted : (found : List (List Bool)) → IsLiveness f found → AreWanted m found
  are_wanted found h =
      record {
        exact = λ p n le. (
          λ e. let x = (h.exact p n).0 e in to_wanted n x.0 p x.1,
          λ v. (h.exact p n).1 (wanted_to v p refl),
        );
      }

  -- ---- the graph is one

  reloaded_small : (rest : List Instr) → All (λ n. n < old.bound) (numbers_read rest) → All (λ n. n < old.bound) (reloaded_before m lost rest)
  reloaded_small [] h = All-nil (λ n. n < old.bound)
  reloaded_small (i ∷ next) h =
      each (λ n. n < old.bound) (reloaded_among lost (code_index m (i ∷ next)) i.args)
      (λ n c.
      let x = in_reloaded lost (code_index m (i ∷ next)) n i.args c in
      All-contains (λ n. n < old.bound) (numbers_of_registers i.args) n h
      (subst (Contains (numbers_of_registers i.args)) x.number (in_numbers (among_of x.register i.args x.operand))))

  pub wanted_formed : flows.IsFlowFormed f
  wanted_formed =
      let count : length (contents f.places) ≡ suc (length m.code) = count_is m uses nodes in
      nodes_within m uses (length (contents f.places)) f.bound (omega (arith, count)) nodes
      (λ p. (
        subst (λ b. All (λ n. n < b) (reloaded_before m lost (drop p m.code))) (sym bound)
            (reloaded_small (drop p m.code) (reads_small m old is formed p)),
        subst (λ b. All (λ n. n < b) (numbers_written m (drop p m.code))) (sym bound) (writes_small m old is formed p),
      ))
