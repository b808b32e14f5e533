-- The addresses of an allocation's blocks come to their locations.
use Rattle.std.proofs.Common.{◌≡◌, ℕ, suc, ◌+◌, ◌≤◌, inl, inr, cond, List, [], ◌∷◌, ◌++◌, length, Some, None, slice_index, refl, ap, arith, ◌∙◌, sym, subst, ⊎_elim}
use Rattle.std.proofs.lemmas.List.Elements.{All-head, All-tail}
use Rattle.bs_words.specs.declared.types.Loc.{Loc}
use Rattle.bs_words.specs.declared.values.Value.{Value}
use Rattle.rv_emit_rules.specs.Constants.{sum_to}
use Rattle.rv_emit_rules.specs.Memory.{addresses}
use Rattle.rv_emit_rules.specs.Slots.{keep_pieces, target}
use Rattle.rv_layout_rules.specs.Forms.{total_words}
use Rattle.rv_layout_rules.specs.Words.{NameAddresses}
use Rattle.lin_ir.specs.Formed.{IsLocation, Locates}
use Rattle.lin_ir.specs.Meaning.{Locations, assign_spot, same_loc}
use Rattle.lin_ir.specs.declared.lin.Lin.{Lin}
use Rattle.lin_ir.specs.declared.lin.Spot.{Spot}
use Rattle.mach_ir.specs.Acts.{Around}
use Rattle.mach_ir.specs.Blocks.{total_block_bytes}
use Rattle.mach_ir.specs.declared.blocks.NewBlock.{NewBlock}
use Rattle.rv_isa.specs.declared.register.Register.TheVariants.{S10, T1}
use Rattle.rv_machine.specs.Hart.{Placed}
use Rattle.lin_machine.specs.Relation.{Below, Laid, StandsFor, Within, blocks_by_serial}
use Rattle.lin_machine.specs.Straight.{Changes, LeadsFurther}
use Rattle.lin_machine.specs.View.{Fixed, View}
use Rattle.lin_machine.proofs.Moving.{rises_top}
use Rattle.lin_machine.proofs.Operating.{worked}
use Rattle.lin_machine.proofs.Parts.{comes_here, comes_then}
use Rattle.lin_machine.proofs.Sequences.{widened}
use Rattle.line_stands.specs.Parts.{PartStands}
use Rattle.line_stands.proofs.Parts.{nothing_more, splits}
use Rattle.line_values.proofs.Operands.{targeted}
use Rattle.line_calls.proofs.Blocks.{AllStand, rises_same}
use Rattle.line_calls.proofs.Numbers.{sum_reaches}

-- values are written, the last one first
abbrev pub put_values : List Spot → List Value → Locations → Locations
put_values [] xs f = f
put_values (r ∷ rs) [] f = f
put_values (r ∷ rs) (x ∷ xs) f = assign_spot r x (put_values rs xs f)

pub put_values_same : (rs : List Spot) (xs : List Value) (f g : Locations) (l : Loc) → f l ≡ g l → put_values rs xs f l ≡ put_values rs xs g l
put_values_same [] xs f g l e = e
put_values_same (r ∷ rs) [] f g l e = e
put_values_same (r ∷ rs) (x ∷ xs) f g l e = ap (cond (same_loc r.loc l) (Some x)) (put_values_same rs xs f g l e)

-- words that lead to a place
pub record ComesTo (s : Fixed) (w : View) (to : ℕ) (P : View → Type 0) : Type 0 where
  pub count : ℕ
  pub lands : w.place + count ≡ to
  pub comes : LeadsFurther s w count P

module _ (s : Fixed) (n : NameAddresses) (laid : Laid) (m : Lin) (slots : m.slots ≡ laid.slots) (new : List Placed) (a : Around) (c : Below) (none : a.raised ≡ None)
    (base : ℕ) where
  pub addresses_come :
      (bs : List NewBlock) (rs : List Spot) (xs : List Value) (held : Locations) → length rs ≡ length bs → Locates m rs → total_block_bytes bs ≤ 2056 →
      AllStand s new (length a.memory.blocks) base bs xs → (to : ℕ) (w : View) → Within s laid w new 0 held a c → base ≡ slice_index w.registers 26 →
      PartStands s n w.place to (addresses (length a.tries) bs rs) →
      ComesTo s w to (λ u. Within s laid u new 0 (put_values rs xs held) a c)
  addresses_come [] [] xs held e is small st to w within at part =
      let z = nothing_more s n w.place to part in
      record { count = 0; lands = omega (arith, z); comes = comes_here s w (λ u. Within s laid u new 0 held a c) within }
  addresses_come [] (r ∷ rs) xs held e is small st to w within at part = absurd (omega (arith, e))
  addresses_come (b ∷ bs) [] xs held e is small st to w within at part = absurd (omega (arith, e))
  addresses_come (b ∷ bs) (r ∷ rs) [] held e is small st to w within at part = absurd st
  addresses_come (b ∷ bs) (r ∷ rs) (x ∷ xs) held e is small st to w within at part =
      let ends = splits s n w.place to (addresses (length a.tries) bs rs ++ sum_to T1 (target r.loc) S10 (total_block_bytes bs + 8)) (keep_pieces
      (length a.tries) r.loc) part in
      let parts = splits s n w.place ends.middle (addresses (length a.tries) bs rs) (sum_to T1 (target r.loc) S10 (total_block_bytes bs + 8)) ends.first in
      let first = addresses_come bs rs xs held (omega (arith, e)) (All-tail (λ (p : Spot). IsLocation m p.loc) r rs is) (omega
      (arith, small)) st.1 parts.middle w within at parts.first in
      let u = first.comes.view in
      let c1 = first.comes.place in
      let l1 = first.lands in
      let here : u.place ≡ parts.middle = omega (arith, c1, l1) in
      let second = one r x (put_values rs xs held) (total_block_bytes bs + 8) (All-head (λ (p : Spot). IsLocation m p.loc) r rs is) u first.comes.holds
      (let q = rises_same (slice_index w.registers 26 + 0) (slice_index u.registers 26 + 0) new within.own.rises first.comes.holds.own.rises in omega
      (arith, q, at)) (omega (arith, small))
      ends.middle to (st.0.by u.blocks first.comes.holds.heap.stand.count)
      (subst (λ p. PartStands s n p ends.middle (sum_to T1 (target r.loc) S10 (total_block_bytes bs + 8))) (sym here) parts.second) ends.second in
      let l2 = second.lands in
      record {
        count = first.count + second.count;
        lands = omega (arith, l1, l2, here);
        comes = comes_then s w first.count second.count (λ z. z ≡ u) (λ z. Within s laid z new 0 (assign_spot r x (put_values rs xs held)) a c)
            (record { view = u; leads = first.comes.leads; place = first.comes.place; holds = refl })
            (λ z p f. subst (λ z. LeadsFurther s z second.count (λ y. Within s laid y new 0 (assign_spot r x (put_values rs xs held)) a c)) (sym f) second.comes);
      }
    where
      one :
          (r : Spot) (x : Value) (held : Locations) (bytes : ℕ) → IsLocation m r.loc → (u : View) → Within s laid u new 0 held a c →
          base ≡ slice_index u.registers 26 → bytes ≤ 2056 → (middle to : ℕ) →
          StandsFor s (blocks_by_serial u new) (base + bytes) x → PartStands s n u.place middle (sum_to T1 (target r.loc) S10 bytes) →
          PartStands s n middle to (keep_pieces (length a.tries) r.loc) → ComesTo s u to (λ z. Within s laid z new 0 (assign_spot r x held) a c)
      one r x held bytes is u within at small middle to stands sum part =
          let g = targeted s n laid m slots u new held a c none within r.loc is in
          let top = rises_top (slice_index u.registers 26 + 0) new within.own.rises in
          let reach = sum_reaches s n T1 (target r.loc) S10 5 g.t 25 refl g.is refl (omega arith) g.fits (λ q. omega (arith, q)) (λ q. omega
          (arith, q)) u middle bytes sum
          within.own.are (omega (arith, top, small)) (inl g.no_sp) in
          let there : Changes s u reach.count (suc g.t ∷ 6 ∷ []) u.memory (λ w. StandsFor s (blocks_by_serial u new) (slice_index w.registers (suc g.t)) x) =
          widened s u reach.count (suc g.t ∷ 6 ∷ []) (suc g.t ∷ 6 ∷ []) u.memory _ _ (λ q i. i)
          (λ w p h. subst (λ z. StandsFor s (blocks_by_serial u new) z x) (ap (λ z. z + bytes) at ∙ sym h) stands) reach.changes in
          let k : ℕ = total_words (keep_pieces (length a.tries) r.loc) part.forms in
          let l1 = reach.lands in
          let e1 = part.past in
          let here : middle ≡ u.place + reach.count = omega (arith, l1) in
          let last : PartStands s n (u.place + reach.count) (u.place + reach.count + k) (keep_pieces (length a.tries) r.loc) =
          subst (λ p. PartStands s n p (p + k) (keep_pieces (length a.tries) r.loc)) here (subst (λ z. PartStands s n middle z (keep_pieces
          (length a.tries) r.loc)) e1 part) in
          record {
            count = reach.count + k;
            lands = omega (arith, l1, e1);
            comes = worked s laid new a c none held g.rest (assign_spot r x held) u.place reach.count (suc g.t) (suc g.t ∷ 6 ∷ []) x g.makes
                (λ q i. ⊎_elim (λ e. inl e) (λ j. ⊎_elim (λ e. inr (inl e)) (λ f. absurd f) j) i) k (g.keeps r refl x
                (u.place + reach.count) k last) u refl within there;
          }
