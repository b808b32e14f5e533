-- The lines that allocate blocks.
use Rattle.std.proofs.Common.{◌≡◌, ℕ, ◌+◌, ◌/◌, ◌%◌, ◌≤◌, Bool, true, false, cond, ◌==◌, nat_le, List, [], ◌∷◌, ◌++◌, length, map, Option, Some, None, slice_index, refl, ap, arith, ◌∙◌, sym, subst}
use Rattle.std.specs.List.{All, fold}
use Rattle.std.proofs.lemmas.Bool.{and_parts, eqb-true, leb-true}
use Rattle.std.proofs.lemmas.List.{map-append}
use Rattle.std.proofs.lemmas.List.Elements.{All-head, All-tail}
use Rattle.bs_words.specs.Fits.{data_start, fits}
use Rattle.bs_words.specs.Memory.{block_bytes, heap_need}
use Rattle.bs_words.specs.declared.types.Loc.{Loc}
use Rattle.bs_words.specs.declared.types.Loc.TheVariants as loc
use Rattle.bs_words.specs.declared.values.Value.{Value}
use Rattle.rv_emit_rules.specs.Memory.{addresses, alloc_part, reserved}
use Rattle.rv_layout_rules.specs.Laid.{descriptor_laid_at}
use Rattle.rv_layout_rules.specs.Forms.{total_words}
use Rattle.rv_layout_rules.specs.Words.{NameAddresses}
use Rattle.lin_ir.specs.Formed.{Locates, spare}
use Rattle.lin_ir.specs.Meaning.{Locations, NamedAt, are_vals, is_named_location, on_act, poisoned, assign_spot, put_all, same_loc, step, unless_misnamed, wrote}
use Rattle.lin_ir.specs.declared.descr.Descr.{Descr}
use Rattle.lin_ir.specs.declared.lin.Lin.{Lin}
use Rattle.lin_ir.specs.declared.lin.Line.{Line}
use Rattle.lin_ir.specs.declared.lin.LinOp.TheVariants as lin
use Rattle.lin_ir.specs.declared.lin.Spot.{Spot}
use Rattle.mach_ir.specs.Acts.{Around, fresh_block, is_complete, new_blocks, stuck_unless, with_block}
use Rattle.mach_ir.specs.Blocks.{total_block_bytes}
use Rattle.mach_ir.specs.Forms.{IsBlock}
use Rattle.mach_ir.specs.Runs.{ActivationSetting}
use Rattle.mach_ir.specs.declared.blocks.NewBlock.{NewBlock}
use Rattle.mach_ir.specs.declared.op.Access.TheVariants as access
use Rattle.mach_ir.specs.declared.op.Op.TheVariants as op
use Rattle.rv_machine.specs.Hart.{Placed}
use Rattle.rv_pieces.specs.declared.piece.Piece.TheVariants.{Descriptor}
use Rattle.lin_machine.specs.Arrival.{ArrivesIn}
use Rattle.lin_machine.specs.Files.{HoldsLess}
use Rattle.lin_machine.specs.Follows.{Agrees, FollowsStep, IsAt, needs_of}
use Rattle.lin_machine.specs.Relation.{Below, IsDescribed, Laid, Within}
use Rattle.lin_machine.specs.View.{Fixed, View}
use Rattle.lin_machine.proofs.Arriving.{at_least, leads_in, then_arrives}
use Rattle.lin_machine.proofs.Following.{same_loc-true}
use Rattle.lin_machine.proofs.Operating.{dropped}
use Rattle.lin_machine.proofs.Standing.{within_less}
use Rattle.line_stands.specs.Parts.{PartStands}
use Rattle.line_calls.specs.Points.{AreMarked}
use Rattle.line_calls.proofs.Addresses.{addresses_come, put_values, put_values_same}
use Rattle.line_calls.proofs.Blocks.{AreNew, all_made, around_made, blocks_are_made, raised_made, tries_made, values_made}
use Rattle.line_calls.proofs.Calling.{poisoned_same, vals_held}
use Rattle.line_calls.proofs.Marks.{marked_between}
use Rattle.line_calls.proofs.Reserving.{IsRequest, IsReserved, reserve_arrives}
use Rattle.line_calls.proofs.Seats.{was_put}

-- ---- the blocks of a line that is formed

pub are_new : (bs : List NewBlock) → All IsBlock bs → AreNew bs
are_new [] all = tt
are_new (b ∷ bs) all =
    let h = and_parts (b.header / 1024 == b.cells) _ (All-head IsBlock b bs all) in
    let i = and_parts (nat_le 1 b.cells) _ h.1 in
    let j = and_parts (nat_le b.cells 256) _ i.1 in
    let e = eqb-true (b.header / 1024) b.cells h.0 in (
      record { some = leb-true 1 b.cells i.0; most = leb-true b.cells 256 j.0; head = e },
      are_new bs (All-tail IsBlock b bs all),
    )

bytes_even : (bs : List NewBlock) → total_block_bytes bs % 8 ≡ 0
bytes_even [] = refl
bytes_even (b ∷ bs) = let e = bytes_even bs in omega (arith, e)

is_request : (bs : List NewBlock) → (bs ≡ [] → ⊥) → AreNew bs → total_block_bytes bs ≤ 2056 → IsRequest (total_block_bytes bs)
is_request [] some new most = absurd (some refl)
is_request (b ∷ bs) some new most = let l = new.0.some in record { even = bytes_even (b ∷ bs); some = omega (arith, l); most = most }

-- ---- the heap grows

fold_up : (k : ℕ) (xs : List ℕ) → k ≤ fold ◌+◌ k xs
fold_up k [] = omega arith
fold_up k (x ∷ xs) = let l = fold_up (k + x) xs in omega (arith, l)

fold_more : (k : ℕ) (xs ys : List ℕ) → fold ◌+◌ k xs ≤ fold ◌+◌ k (xs ++ ys)
fold_more k [] ys = fold_up k ys
fold_more k (x ∷ xs) ys = fold_more (k + x) xs ys

need_more : (bs : List NewBlock) (a : Around) → heap_need a.memory ≤ heap_need (around_made bs a).memory
need_more [] a = omega arith
need_more (b ∷ bs) a =
    let later = need_more bs (with_block b a) in
    let e = map-append block_bytes a.memory.blocks (fresh_block b ∷ []) in
    let l = fold_more 0 (map block_bytes a.memory.blocks) (map block_bytes (fresh_block b ∷ [])) in
    let one : heap_need a.memory ≤ heap_need (with_block b a).memory = subst (λ z. heap_need a.memory ≤ fold ◌+◌ 0 z) (sym e) l in
    omega (arith, later, one)

-- ---- what is written

put_all_is : (end : ℕ) (rs : List Spot) (xs : List Value) (f g : Locations) → put_all end rs xs f ≡ Some g → g ≡ put_values rs xs f
put_all_is end [] [] f g e = (let h : f ≡ g = cc in sym h)
put_all_is end [] (x ∷ xs) f g e = absurd (cc)
put_all_is end (r ∷ rs) [] f g e = absurd (cc)
put_all_is end (r ∷ rs) (x ∷ xs) f g e =
    let w = was_put end r x (put_all end rs xs f) g e in
    w.is ∙ ap (assign_spot r x) (put_all_is end rs xs f w.before w.was)

-- t0 is none of what is held
pub no_t0 : (held : Locations) (x : Value) → dropped 5 held (loc.Machine 5) ≡ Some x → ⊥
no_t0 held x h = absurd (cc)

pub dropped_less : (held : Locations) → HoldsLess (dropped 5 held) held
dropped_less held = record { each = λ l x h. by_test l x (same_loc (loc.Machine 5) l) h }
  where
    by_test : (l : Loc) (x : Value) (t : Bool) → cond t None (held l) ≡ Some x → held l ≡ Some x
    by_test l x true h = absurd (cc)
    by_test l x false h = h

pub dropped_others : (held : Locations) (l : Loc) → (l ≡ spare → ⊥) → dropped 5 held l ≡ held l
dropped_others held l n = by_test (same_loc (loc.Machine 5) l) refl
  where
    by_test : (t : Bool) → same_loc (loc.Machine 5) l ≡ t → cond t None (held l) ≡ held l
    by_test true e = absurd (n (same_loc-true (loc.Machine 5) l e))
    by_test false e = refl

module _ (s : Fixed) (n : NameAddresses) (laid : Laid) (live : List Line → Type 0) (entry : ℕ → ℕ) (c : Below) (place : ActivationSetting) (named : NamedAt) (m : Lin)
    (slots_are : m.slots ≡ laid.slots) (next : List Line)
    (v : View) (young : List Placed) (held file : Locations) (a : Around) (within : Within s laid v young 0 held a c) (before : Type 0)
    (agrees : Agrees before held file) (k : ℕ) (none : a.raised ≡ None) (behind : laid.part (length next) ≡ v.place + k) (saves : laid.saves ≡ true)
    (e : Descr) (is : (at : ℕ) → IsDescribed laid (length a.tries) (named (length next)) (descriptor_laid_at at e))
    (end_is : place.setting.end ≡ data_start + length s.image.bytes) (spared : is_named_location spare (named (length next)) ≡ false) (dead : live next → ⊥)
    (blocks : List NewBlock) (some : blocks ≡ [] → ⊥) (all : All IsBlock blocks) (most : total_block_bytes blocks ≤ 2056) (rs : List Spot)
    (as_many : length rs ≡ length blocks) (located : Locates m rs)
    (part : PartStands s n v.place (v.place + k) (alloc_part (length a.tries) (Descriptor e ∷ []) blocks rs))
    (marks : AreMarked s v.place (alloc_part (length a.tries) (Descriptor e ∷ []) blocks rs) part.forms) where
  abbrev line : Line
  line = record { op = lin.Op (op.Access (access.Alloc blocks)); args = []; results = rs }

  abbrev point : List Loc
  point = named (length next)

  agrees_less : Agrees ⊥ (dropped 5 held) file
  agrees_less = record { others = λ l q. dropped_others held l q ∙ agrees.others l q; spare_too = λ f. absurd f }

  after : Locations
  after = put_values rs (values_made blocks a) (poisoned (named (length next)) (dropped 5 held))

  arrives : are_vals place.setting.end (named (length next)) file ≡ true → is_complete a ≡ true → (new : Locations) →
      new ≡ put_values rs (values_made blocks a) (poisoned (named (length next)) file) →
      ArrivesIn 0 k s (needs_of laid c (record { rest = next; file = new; around = around_made blocks a })) v
      (IsAt s laid live c (record { rest = next; file = new; around = around_made blocks a }))
  arrives fits whole new is_new =
      let cut = marked_between s n v.place (v.place + k) (reserved (total_block_bytes blocks)) (addresses (length a.tries) blocks rs) e part marks in
      let fit : are_vals (data_start + length s.image.bytes) (named (length next)) (dropped 5 held) ≡ true =
      subst (λ z. are_vals z (named (length next)) (dropped 5 held) ≡ true) end_is
      (vals_held place.setting.end ⊥ (dropped 5 held) file (named (length next)) agrees_less spared ∙ fits) in
      let need = need_more blocks a in
      let e1 = cut.first.past in
      let e2 = cut.second.past in
      let k1 : ℕ = total_words (reserved (total_block_bytes blocks)) cut.first.forms in
      let k2 : ℕ = total_words (addresses (length a.tries) blocks rs) cut.second.forms in
      let sum : k1 + k2 ≤ k = omega (arith, e1, e2) in
      at_least 0 0 (k1 + k2) k s v (IsAt s laid live c (record { rest = next; file = new; around = around_made blocks a })) (omega arith) sum
      (then_arrives k1 k2 s v
      (λ w. (w.place ≡ cut.middle) × IsReserved s laid (total_block_bytes blocks) (poisoned (named (length next)) (dropped 5 held)) a c w)
      (IsAt s laid live c (record { rest = next; file = new; around = around_made blocks a }))
      (reserve_arrives s n laid v young (dropped 5 held) a c (within_less s laid v young 0 held (dropped 5 held) a c (dropped_less held) within) none whole
      (total_block_bytes blocks) (is_request blocks some (are_new blocks all) most) (named (length next)) (descriptor_laid_at cut.middle e) (is cut.middle) saves fit (no_t0 held)
      cut.middle cut.there (needs_of laid c (record { rest = next; file = new; around = around_made blocks a })) need k1 e1 cut.first)
      (λ w h. lands new is_new cut.middle w h.0 h.1 cut.second k2 e2))
    where
      lands : (new : Locations) → new ≡ put_values rs (values_made blocks a) (poisoned (named (length next)) file) → (middle : ℕ) (w : View) →
          w.place ≡ middle →
          IsReserved s laid (total_block_bytes blocks) (poisoned (named (length next)) (dropped 5 held)) a c w →
          PartStands s n middle (v.place + k) (addresses (length a.tries) blocks rs) → (k2 : ℕ) → v.place + k ≡ middle + k2 →
          ArrivesIn 0 k2 s (needs_of laid c (record { rest = next; file = new; around = around_made blocks a })) w
          (IsAt s laid live c (record { rest = next; file = new; around = around_made blocks a }))
      lands new is_new middle w at reserved st k2 e2 =
          let made = all_made s laid w (poisoned (named (length next)) (dropped 5 held)) c reserved.young blocks a (are_new blocks all) reserved.room
          reserved.within in
          let words : PartStands s n w.place (v.place + k) (addresses (length (around_made blocks a).tries) blocks rs) =
          subst (λ ts. PartStands s n w.place (v.place + k) (addresses (length ts) blocks rs)) (sym (tries_made blocks a))
          (subst (λ p. PartStands s n p (v.place + k) (addresses (length a.tries) blocks rs)) (sym at) st) in
          let come = addresses_come s n laid m slots_are made.new (around_made blocks a) c (raised_made blocks a ∙ none)
          (slice_index w.registers 26) blocks rs
          (values_made blocks a) (poisoned (named (length next)) (dropped 5 held)) as_many located most made.stand (v.place + k) w made.within refl words in
          let u = come.comes.view in
          let l = come.lands in
          let p = come.comes.place in
          let b = behind in
          leads_in 0 k2 s come.count (omega arith) (omega (arith, l, at, e2)) w u
          (IsAt s laid live c (record { rest = next; file = new; around = around_made blocks a })) come.comes.leads (
            made.new,
            put_values rs (values_made blocks a) (poisoned (named (length next)) (dropped 5 held)),
            record {
              others = λ q no. put_values_same rs (values_made blocks a) _ _ q
                  (poisoned_same (named (length next)) (dropped 5 held) file q (agrees_less.others q no)) ∙ ap (λ f. f q) (sym is_new);
              spare_too = λ q. absurd (dead q);
            },
            record { place = omega (arith, p, l, b); within = come.comes.holds },
          )

  -- ---- the line

  put_follows : are_vals place.setting.end (named (length next)) file ≡ true → is_complete a ≡ true → (o : Option Locations) →
      put_all place.setting.end rs (values_made blocks a) (poisoned (named (length next)) file) ≡ o →
      FollowsStep k s laid live entry c v (wrote next (around_made blocks a) o)
  put_follows fits whole None h = tt
  put_follows fits whole (Some new) h =
      arrives fits whole new (put_all_is place.setting.end rs (values_made blocks a) (poisoned (named (length next)) file) new h)

  by_complete : are_vals place.setting.end (named (length next)) file ≡ true → (t : Bool) → is_complete a ≡ t →
      FollowsStep k s laid live entry c v (on_act place m line next (poisoned (named (length next)) file) a (stuck_unless t (new_blocks blocks [] a)))
  by_complete fits false h = tt
  by_complete fits true h =
      subst (λ act. FollowsStep k s laid live entry c v (on_act place m line next (poisoned (named (length next)) file) a act)) (sym
      (blocks_are_made blocks [] a))
      (put_follows fits h (put_all place.setting.end rs (values_made blocks a) (poisoned (named (length next)) file)) refl)

  by_fit : (t : Bool) → are_vals place.setting.end (named (length next)) file ≡ t →
      FollowsStep k s laid live entry c v (unless_misnamed t (on_act place m line next (poisoned (named (length next)) file) a
      (stuck_unless (is_complete a) (new_blocks blocks [] a))))
  by_fit false h = tt
  by_fit true h = by_complete h (is_complete a) refl

  pub alloc_line : FollowsStep k s laid live entry c v (step place named m (record {
    rest = record { op = lin.Op (op.Access (access.Alloc blocks)); args = []; results = rs } ∷ next;
    file = file;
    around = a;
  }))
  alloc_line = by_fit (are_vals place.setting.end (named (length next)) file) refl
