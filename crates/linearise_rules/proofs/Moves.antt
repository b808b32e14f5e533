-- Moves of a location to itself among the lines: each changes the component.
use Rattle.std.proofs.Common.{◌≡◌, ◌≢◌, ℕ, zero, suc, Bool, true, false, cond, ◌&&◌, ◌⊎◌, inl, inr, ⊎_elim, List, [], ◌∷◌, refl, sym, ap, ◌∙◌, subst}
use Rattle.std.proofs.lemmas.Bool.{true≢false, eq-eqb}
use Rattle.std.specs.List.{Contains}
use Rattle.bs_words.specs.declared.types.Loc.TheVariants as loc
use Rattle.bs_words.proofs.Lists.{head_same}
use Rattle.mach_ir.specs.Placed.{HasColourOrSlot, in_colour, in_slot}
use Rattle.mach_ir.specs.Walks.{InCode, in_args, in_results, further}
use Rattle.mach_ir.specs.declared.op.CopyKind.{CopyKind}
use Rattle.mach_ir.specs.declared.op.Op.{Op}
use Rattle.mach_ir.specs.declared.op.Op.TheVariants as op
use Rattle.mach_ir.specs.declared.op.Pure.TheVariants as pure
use Rattle.mach_ir.specs.declared.reg.Reg.{Reg}
use Rattle.mach_ir.specs.declared.mach.Mark.{Mark}
use Rattle.mach_ir.specs.declared.mach.Mark.TheVariants as mark
use Rattle.mach_ir.specs.declared.mach.MachOp.{MachOp}
use Rattle.mach_ir.specs.declared.mach.MachOp.TheVariants as mach
use Rattle.mach_ir.specs.declared.mach.Instr.{Instr}
use Rattle.mach_laws.proofs.Places.{same_comp_is}
use Rattle.lin_ir.specs.Formed.{IsSelfMove, is_self_move}
use Rattle.lin_ir.specs.Meaning.{same_loc}
use Rattle.lin_ir.specs.declared.lin.Flow.{Flow}
use Rattle.lin_ir.specs.declared.lin.LinOp.TheVariants as lin
use Rattle.lin_ir.specs.declared.lin.Line.{Line}
use Rattle.lin_ir.specs.declared.lin.Spot.{Spot}
use Rattle.linearise_rules.specs.Lowered.{home, spots, is_idle, line_of, pops, lines_of_mark, lines_of, lowered_code}
use Rattle.linearise_rules.proofs.Homes.{IsIn, is_first, is_later, contains_of}
use Rattle.mach_ir.specs.Places.{same_comp}

-- ---- which line is such a move

record Copies (j : Line) (from to : Spot) : Type 0 where
  kind : CopyKind
  op : j.op ≡ lin.Op (op.Pure (pure.Copy kind))
  args : j.args ≡ from ∷ []
  results : j.results ≡ to ∷ []
  same : from.loc ≡ to.loc

copies_of : {j : Line} {from to : Spot} → IsSelfMove j from to → Copies j from to
copies_of (is_self_move {kind = kind} same) = record { kind = kind; op = refl; args = refl; results = refl; same = same }

no_move : {j : Line} {from to : Spot} (f : Flow) → j.op ≡ lin.Flow f → IsSelfMove j from to → ⊥
no_move f e z = let c = copies_of z in out f (op.Pure (pure.Copy c.kind)) (sym e ∙ c.op)
  where
    out : (f : Flow) (g : Op) → lin.Flow f ≡ lin.Op g → ⊥
    out f g e = cc

more_spots : (s t u : Spot) (ss : List Spot) → s ∷ t ∷ ss ≡ u ∷ [] → ⊥
more_spots s t u ss e = cc

no_spots : (u : Spot) → [] ≡ u ∷ [] → ⊥
no_spots u e = cc

first_of : (r : Reg) (rs : List Reg) → IsIn r (r ∷ rs)
first_of r rs = is_first

module _ (number : ℕ → ℕ) where
  abbrev L : List Instr → List Line
  L = lowered_code number

  -- a line that a mark adds is one of its own
  abbrev Adds : Line → List Line → Type 0
  Adds j next = ((f : Flow) × (j.op ≡ lin.Flow f)) ⊎ IsIn j next

  one_more : (k : Line) (f : Flow) {j : Line} {next ks : List Line} → k.op ≡ lin.Flow f → IsIn j (k ∷ ks) → (IsIn j ks → Adds j next) → Adds j next
  one_more k f e is_first go = inl (f, e)
  one_more k f e (is_later z) go = go z

  pops_add : {j : Line} (n : ℕ) (next : List Line) → IsIn j (pops number n next) → Adds j next
  pops_add zero next z = inr z
  pops_add (suc n) next z = one_more _ _ refl z (λ u. pops_add n next u)

  mark_adds : {j : Line} (g : Mark) (i : Instr) (next : List Line) → IsIn j (lines_of_mark number g i next) → Adds j next
  mark_adds (mark.Exit l n) i next z = ⊎_elim (λ u. inl u) (λ u. one_more _ _ refl u (λ v. inr v)) (pops_add n _ z)
  mark_adds (mark.If t l) i next z = one_more _ _ refl z (λ u. inr u)
  mark_adds (mark.Else l end) i next z = one_more _ _ refl z (λ u. one_more _ _ refl u (λ v. inr v))
  mark_adds (mark.Switch labels) i next z = one_more _ _ refl z (λ u. inr u)
  mark_adds (mark.Case indexes l end) i next z = one_more _ _ refl z (λ u. one_more _ _ refl u (λ v. inr v))
  mark_adds mark.Catch i next z = inr z
  mark_adds (mark.With l end) i next z = one_more _ _ refl z (λ u. one_more _ _ refl u (λ v. inr v))
  mark_adds (mark.Try l) i next z = one_more _ _ refl z (λ u. inr u)
  mark_adds (mark.Leave l end) i next z = one_more _ _ refl z (λ u. one_more _ _ refl u (λ v. inr v))
  mark_adds (mark.Handler l) i next z = one_more _ _ refl z (λ u. one_more _ _ refl u (λ v. inr v))
  mark_adds (mark.End l) i next z = one_more _ _ refl z (λ u. inr u)

  -- ---- an operation's line

  placed_same : (r k : Reg) → HasColourOrSlot r → r.loc ≡ k.loc → same_loc r.loc k.loc ≡ true
  placed_same r k (in_colour n c e) same = ap (λ l. same_loc l k.loc) e ∙ ap (same_loc (loc.Machine n)) (sym same ∙ e) ∙ eq-eqb n n refl
  placed_same r k (in_slot e) same = ap (λ l. same_loc l k.loc) e ∙ ap (same_loc (loc.Slot r.origin)) (sym same ∙ e) ∙ eq-eqb r.origin r.origin refl

  pub changes : (code : List Instr) → ((r k : Reg) → InCode r code → InCode k code → home number r.loc ≡ home number k.loc → r.loc ≡ k.loc) → ((r : Reg) → InCode r code → HasColourOrSlot r) →
      (j : Line) → IsIn j (L code) → (from to : Spot) → IsSelfMove j from to → from.comp ≢ to.comp
  changes [] apart placed j z from to m e = elim z [ ]
  changes (i ∷ is) apart placed j z from to m e =
      by (is_idle i.op i.args i.results) refl z (λ u. changes is (λ r k ri ki same. apart r k (further ri) (further ki) same) (λ r ri. placed r (further ri)) j u from to m e)
    where
      moved : (f : Op) (c : Copies j from to) → j ≡ line_of number (lin.Op f) i → (args results : List Reg) → i.args ≡ args → i.results ≡ results → is_idle (mach.Op (op.Pure (pure.Copy c.kind))) args results ≡ false → ⊥
      moved f c same [] results u v idle = no_spots from (ap (spots number) (sym u) ∙ sym (ap (λ (j : Line). j.args) same) ∙ c.args)
      moved f c same (r ∷ s ∷ rs) results u v idle = more_spots _ _ from _ (ap (spots number) (sym u) ∙ sym (ap (λ (j : Line). j.args) same) ∙ c.args)
      moved f c same (r ∷ []) [] u v idle = no_spots to (ap (spots number) (sym v) ∙ sym (ap (λ (j : Line). j.results) same) ∙ c.results)
      moved f c same (r ∷ []) (q ∷ s ∷ qs) u v idle = more_spots _ _ to _ (ap (spots number) (sym v) ∙ sym (ap (λ (j : Line). j.results) same) ∙ c.results)
      moved f c same (r ∷ []) (q ∷ []) u v idle =
          let x = head_same (ap (spots number) (sym u) ∙ sym (ap (λ (j : Line). j.args) same) ∙ c.args) in
          let y = head_same (ap (spots number) (sym v) ∙ sym (ap (λ (j : Line). j.results) same) ∙ c.results) in
          let ri : InCode r (i ∷ is) = in_args (subst (λ rs. Contains rs r) (sym u) (contains_of (first_of r []))) in
          let qi : InCode q (i ∷ is) = in_results (subst (λ rs. Contains rs q) (sym v) (contains_of (first_of q []))) in
          let here : r.loc ≡ q.loc = apart r q ri qi (ap (λ (s : Spot). s.loc) x ∙ c.same ∙ sym (ap (λ (s : Spot). s.loc) y)) in
          let comps : r.comp ≡ q.comp = ap (λ (s : Spot). s.comp) x ∙ e ∙ sym (ap (λ (s : Spot). s.comp) y) in
          true≢false
          (sym (ap (λ b. b && same_comp r.comp q.comp) (placed_same r q (placed r ri) here) ∙ ap (same_comp r.comp) (sym comps) ∙ same_comp_is r.comp) ∙ idle)

      op_same : (f g : Op) → lin.Op f ≡ lin.Op g → f ≡ g
      op_same f g e = cc

      op_line : (f : Op) → i.op ≡ mach.Op f → is_idle i.op i.args i.results ≡ false → j ≡ line_of number (lin.Op f) i → ⊥
      op_line f o idle same =
          let c = copies_of m in
          let g : f ≡ op.Pure (pure.Copy c.kind) = op_same f (op.Pure (pure.Copy c.kind)) (sym (ap (λ (j : Line). j.op) same) ∙ c.op) in
          moved f c same i.args i.results refl refl (subst (λ g. is_idle g i.args i.results ≡ false) (o ∙ ap mach.Op g) idle)

      first_or : (k : Line) (ks : List Line) → IsIn j (k ∷ ks) → (j ≡ k) ⊎ IsIn j ks
      first_or k ks is_first = inl refl
      first_or k ks (is_later z) = inr z

      added : (g : MachOp) → i.op ≡ g → is_idle i.op i.args i.results ≡ false → IsIn j (lines_of number g i (L is)) → (IsIn j (L is) → ⊥) → ⊥
      added (mach.Op f) o idle z ih = ⊎_elim (λ same. op_line f o idle same) ih (first_or (line_of number (lin.Op f) i) (L is) z)
      added (mach.Mark g) o idle z ih = ⊎_elim (λ f. no_move f.0 f.1 m) ih (mark_adds g i (L is) z)

      by : (b : Bool) → is_idle i.op i.args i.results ≡ b → IsIn j (cond b (L is) (lines_of number i.op i (L is))) → (IsIn j (L is) → ⊥) → ⊥
      by true s z ih = ih z
      by false s z ih = added i.op refl s z ih
