-- A callee takes a function's place: it begins where the function began.
use Rattle.std.proofs.Common.{◌≡◌, ◌≢◌, ℕ, ◌+◌, ◌*◌, ◌^◌, ◌<◌, inl, inr, true, List, [], ◌∷◌, ◌++◌, length, map, Some, None, slice_get, slice_index, refl, ap, arith, ◌∙◌, sym, subst, ⊎_elim}
use Rattle.std.proofs.lemmas.Option.{slice_get_within}
use Rattle.bs_words.specs.Word.{add_word}
use Rattle.bs_words.proofs.Below.{add_word-below, sext_word-below}
use Rattle.bs_words.specs.declared.types.Loc.TheVariants as loc
use Rattle.bs_words.specs.declared.values.Value.{Value}
use Rattle.rv_emit_rules.specs.Entry.{frame_release}
use Rattle.rv_layout_rules.specs.Laid.{address_of_place}
use Rattle.rv_layout_rules.specs.Words.{NameAddresses, call_code, distance, upper}
use Rattle.rv_layout_rules.specs.declared.form.Form.{Form}
use Rattle.rv_layout_rules.specs.declared.form.Form.TheVariants.{Near, Middle, Far}
use Rattle.rv_layout_rules.specs.Forms.{words_of_call}
use Rattle.rv_emit_rules.specs.Instructions.{low_12}
use Rattle.rv_layout_rules.proofs.Offsets.{far_lands, number_lands}
use Rattle.lin_ir.specs.Meaning.{Locations}
use Rattle.mach_ir.specs.Acts.{Around, is_complete}
use Rattle.mach_ir.specs.Runs.{entry_around}
use Rattle.rv_isa.specs.Encoding.{encoded}
use Rattle.rv_isa.specs.declared.instr.Instr.{Instr}
use Rattle.rv_isa.specs.declared.instr.Instr.TheVariants.{Auipc, Jalr, Lui, OpImm}
use Rattle.rv_isa.specs.declared.instr.AluImmOp.TheVariants.{Addi}
use Rattle.rv_machine.specs.Arithmetic.{imm_i, imm_u}
use Rattle.rv_machine.specs.Hart.{Placed}
use Rattle.rv_machine.specs.Memory.{code_start}
use Rattle.rv_pieces.specs.declared.piece.Piece.TheVariants.{TailCall}
use Rattle.moving_laws.specs.Stands.{AmongNumbers}
use Rattle.moving_laws.specs.Values.{function_at}
use Rattle.moving_laws.specs.Waiting.{traps_at}
use Rattle.lin_machine.specs.Moments.{AtEntry}
use Rattle.lin_machine.specs.Relation.{AreCarried, Below, HeapStands, Laid, StandsFor, TrapsStand, Waits, Within, blocks_by_serial}
use Rattle.lin_machine.specs.Straight.{Differs}
use Rattle.lin_machine.specs.View.{Fixed, HasCode, IsInstructionAt, View}
use Rattle.lin_machine.proofs.Formats.{sets_auipc, sets_imm, sets_lui}
use Rattle.lin_machine.proofs.Frames.{heap_whole}
use Rattle.lin_machine.proofs.Sequences.{sets_as}
use Rattle.lin_machine.proofs.Standing.{own_past}
use Rattle.lin_machine.proofs.Steps.{at_place}
use Rattle.lin_machine.proofs.Turning.{placed_past, usable_past}
use Rattle.line_stands.specs.Parts.{PartStands}
use Rattle.line_stands.proofs.Parts.{begins, nothing_more, splits}
use Rattle.line_calls.specs.Leading.{LeadsUpTo}
use Rattle.line_calls.specs.Points.{EntriesStand}
use Rattle.line_calls.specs.Reaches.{Reaches}
use Rattle.line_calls.specs.Laws.{frame_in}
use Rattle.line_calls.proofs.Leaving.{given_back_reaches, jump_behind, no_offset}
use Rattle.line_calls.proofs.Reaching.{arrived, reaches_as, reaches_more, reaches_set}

-- ---- places of the code

-- an instruction is below the data
pub place_near : (s : Fixed) (p : ℕ) (i : Instr) → IsInstructionAt s p i → code_start + 4 * p < 2 ^ 28
place_near s p i c =
    let l = slice_get_within s.image.code p (encoded i) c.there in
    let short = s.functions.tables.code.short in
    omega (arith, l, short)

-- so does the entry of a function
pub entry_near : (s : Fixed) (entry : ℕ → ℕ) (f : ℕ) → EntriesStand s entry → f < length s.image.funcs → code_start + 4 * entry f < 2 ^ 28
entry_near s entry f at l =
    let e = at.is f l in
    let i = s.functions.inside f l in
    let short = s.functions.tables.code.short in
    omega (arith, e, i, short)

-- ---- the callee is about to begin

module _ (s : Fixed) (laid : Laid) (v w : View) (young : List Placed) (held : Locations) (a : Around) (c : Below) (within : Within s laid v young 0 held a c)
    (differs : Differs (1 ∷ 2 ∷ 6 ∷ 7 ∷ []) v.memory v w) (top : slice_index w.registers 2 ≡ c.top) (back : slice_index w.registers 1 ≡ c.back)
    (none : a.raised ≡ None) (left : a.tries ≡ []) (whole : is_complete a ≡ true) where
  off : (q : ℕ) → q ≢ 1 → q ≢ 2 → q ≢ 6 → q ≢ 7 → slice_index w.registers q ≡ slice_index v.registers q
  off q n1 n2 n6 n7 = differs.others q (λ i. ⊎_elim n1 (λ j. ⊎_elim n2 (λ k. ⊎_elim n6 (λ l. ⊎_elim n7 (λ f. f) l) k) j) i)

  pub replaces :
      (to : ℕ) (arguments : List Value) → w.place ≡ to →
      ((k : ℕ) (x : Value) → slice_get arguments k ≡ Some x → (k < 16) × (held (loc.Machine (10 + k)) ≡ Some x)) →
      AtEntry s w young to arguments a.memory c
  replaces to arguments place args =
      let same = placed_past v w young differs.blocks in
      let e9 = off 9 (λ e. omega (arith, e)) (λ e. omega (arith, e)) (λ e. omega (arith, e)) (λ e. omega (arith, e)) in
      record {
        place = place;
        own = own_past v.registers w.registers young 0 differs.are (off 26 (λ e. omega (arith, e)) (λ e. omega (arith, e)) (λ e. omega (arith, e))
            (λ e. omega (arith, e)))
            (off 27 (λ e. omega (arith, e)) (λ e. omega (arith, e)) (λ e. omega (arith, e)) (λ e. omega (arith, e))) within.own;
        usable = usable_past s v w v.memory differs.memory differs.blocks within.usable.regions within.usable;
        top = top;
        back = back;
        arguments_in = λ k x h.
            let g = args k x h in
            let p = (subst (λ o. AreCarried s (blocks_by_serial v young) v.registers held o) none within.carried) (10 + k) x g.1 in (
              g.0,
              subst (λ b. StandsFor s b (slice_index w.registers (10 + k)) x) (sym same)
                  (subst (λ z. StandsFor s (blocks_by_serial v young) z x)
                  (sym (off (10 + k) (λ e. omega (arith, e)) (λ e. omega (arith, e)) (λ e. omega (arith, e)) (λ e. omega (arith, e)))) p.1),
            );
        waits = subst (λ b. Waits s b w.memory c) (sym same) (subst (λ m. Waits s (blocks_by_serial v young) m c) (sym differs.memory) within.waits);
        traps = subst (λ m. TrapsStand s m (slice_index w.registers 9) [] c) (sym differs.memory)
            (subst (λ t. TrapsStand s v.memory t [] c) (sym e9)
            (subst (λ ts. TrapsStand s v.memory (slice_index v.registers 9) (traps_at (slice_index v.registers 2)
            (map laid.handler ts)) c) left within.traps));
        heap = subst (λ b. HeapStands s b w.memory (entry_around a.memory)) (sym same)
            (subst (λ m. HeapStands s (blocks_by_serial v young) m (entry_around a.memory)) (sym differs.memory) (heap_whole s
            (blocks_by_serial v young) v.memory a whole within.heap));
      }

-- ---- its frame is given back, and then it goes to the callee

module _ (s : Fixed) (n : NameAddresses) (laid : Laid) (v : View) (young : List Placed) (held : Locations) (a : Around) (c : Below)
    (within : Within s laid v young 0 held a c) (left : a.tries ≡ []) (none : a.raised ≡ None) (whole : is_complete a ≡ true) (arguments : List Value)
    (args : (k : ℕ) (x : Value) → slice_get arguments k ≡ Some x → (k < 16) × (held (loc.Machine (10 + k)) ≡ Some x))
    (entry : ℕ → ℕ) (f : ℕ) (entries : EntriesStand s entry) (inside : f < length s.image.funcs) where
  -- ---- by name

  abbrev rs : List ℕ
  rs = 1 ∷ 2 ∷ 6 ∷ 7 ∷ []

  -- the frame is given back, at a place
  abbrev Given : View → Type 0
  Given w = (slice_index w.registers 2 ≡ c.top) × (slice_index w.registers 1 ≡ c.back)

  -- t1 holds where the callee is, but for what the jump adds
  abbrev Holds : ℕ → View → Type 0
  Holds imm w = (add_word (slice_index w.registers 6) (imm_i imm) ≡ code_start + 4 * entry f) × Given w

  record Jumps (to : ℕ) : Type 0 where
    at : ℕ
    past : to ≡ at + 1
    imm : ℕ
    reaches : Reaches s v at rs v.memory (Holds imm)
    code : IsInstructionAt s at (Jalr 0 6 imm)

  module _ (middle to address : ℕ) (wide : Reaches s v middle rs v.memory Given) (is : address ≡ code_start + 4 * entry f) where
    low : code_start + 4 * entry f < 2 ^ 28
    low = entry_near s entry f entries inside

    abbrev u : View
    u = wide.changes.view

    here : u.place ≡ middle
    here = arrived s v middle rs v.memory _ wide

    -- t1 gets a value by one more instruction
    abbrev Sixth : ℕ → View → View → Type 0
    Sixth value z w = (slice_index w.registers 6 ≡ value) × ((q : ℕ) → (AmongNumbers q (6 ∷ []) → ⊥) → slice_index w.registers q ≡ slice_index z.registers q)

    apart_six : (q : ℕ) → q ≢ 6 → AmongNumbers q (6 ∷ []) → ⊥
    apart_six q n i = ⊎_elim n (λ z. z) i

    among_six : (q : ℕ) → AmongNumbers q (6 ∷ []) → AmongNumbers q rs
    among_six q i = ⊎_elim (λ h. inr (inr (inl h))) (λ z. absurd z) i

    -- ---- by the distance

    by_distance : HasCode s middle (call_code Near 0 6 (address_of_place middle) address) → to ≡ middle + 2 → Jumps to
    by_distance code past =
        let near = place_near s middle _ code.0 in
        let d : ℕ = distance (address_of_place middle) address in
        let half : ℕ = add_word (code_start + 4 * middle) (imm_u (upper d)) in
        let same : add_word (code_start + 4 * u.place) (imm_u (upper d)) ≡ half = ap (λ p. add_word (code_start + 4 * p) (imm_u (upper d))) here in
        let both : Reaches s v (middle + 1) rs v.memory (Sixth half u) =
        reaches_more s v middle (middle + 1) rs (6 ∷ []) v.memory _ _ wide among_six
        (reaches_set s u (middle + 1) (Auipc 6 (upper d)) 5 half (subst (λ p. IsInstructionAt s p (Auipc 6 (upper d))) (sym here) code.0) (omega
        (arith, here))
        (inl (λ q. omega (arith, q))) (sets_as s u (Auipc 6 (upper d)) 6 _ half same (sets_auipc s u 6 (upper d))) wide.changes.past.are (omega arith)
        (add_word-below _ _)) in
        let lands : add_word half (imm_i (low_12 d)) ≡ code_start + 4 * entry f =
        far_lands (address_of_place middle) address (omega (arith, near)) (omega (arith, is, low)) ∙ is in
        record {
          at = middle + 1;
          past = omega (arith, past);
          imm = low_12 d;
          reaches = reaches_as s v (middle + 1) rs rs v.memory (Sixth half u) (Holds (low_12 d)) (λ q i. i)
              (λ w n p h. (
                ap (λ x. add_word x (imm_i (low_12 d))) h.0 ∙ lands,
                (h.1 2 (apart_six 2 (λ q. omega (arith, q))) ∙ wide.changes.holds.0, h.1 1 (apart_six 1 (λ q. omega (arith, q))) ∙ wide.changes.holds.1),
              )) both;
          code = code.1.0;
        }

    -- ---- by the address

    abbrev Sixes : ℕ → View → Type 0
    Sixes value w = (slice_index w.registers 6 ≡ value) × Given w

    high_there : IsInstructionAt s middle (Lui 6 (upper address)) → Reaches s v (middle + 1) rs v.memory (Sixes (imm_u (upper address)))
    high_there code =
        let high : ℕ = imm_u (upper address) in
        let first : Reaches s v (middle + 1) rs v.memory (Sixth high u) =
        reaches_more s v middle (middle + 1) rs (6 ∷ []) v.memory _ _ wide among_six
        (reaches_set s u (middle + 1) (Lui 6 (upper address)) 5 high (subst (λ p. IsInstructionAt s p (Lui 6 (upper address))) (sym here) code) (omega
        (arith, here))
        (inl (λ q. omega (arith, q))) (sets_lui s u 6 (upper address)) wide.changes.past.are (omega arith) (sext_word-below _ 32)) in
        reaches_as s v (middle + 1) rs rs v.memory (Sixth high u) (Sixes high) (λ q i. i)
        (λ w n p h. (
          h.0,
          (h.1 2 (apart_six 2 (λ q. omega (arith, q))) ∙ wide.changes.holds.0, h.1 1 (apart_six 1 (λ q. omega (arith, q))) ∙ wide.changes.holds.1),
        )) first

    by_address : HasCode s middle (call_code Far 0 6 (address_of_place middle) address) → to ≡ middle + 3 → Jumps to
    by_address code past =
        let high : ℕ = imm_u (upper address) in
        let first = high_there code.0 in
        let z = first.changes.view in
        let there : z.place ≡ middle + 1 = arrived s v (middle + 1) rs v.memory _ first in
        let value : add_word (slice_index z.registers 6) (imm_i (low_12 address)) ≡ address =
        ap (λ x. add_word x (imm_i (low_12 address))) first.changes.holds.0 ∙ number_lands address (omega (arith, is, low)) in
        let both : Reaches s v (middle + 2) rs v.memory (Sixth address z) =
        reaches_more s v (middle + 1) (middle + 2) rs (6 ∷ []) v.memory _ _ first among_six
        (reaches_set s z (middle + 2) (OpImm Addi 6 6 (low_12 address)) 5 address (subst (λ p. IsInstructionAt s p (OpImm Addi 6 6 (low_12 address))) (sym there)
        code.1.0) (omega (arith, there))
        (inl (λ q. omega (arith, q)))
        (sets_as s z (OpImm Addi 6 6 (low_12 address)) 6 _ address value (sets_imm s z Addi 6 6 (low_12 address))) first.changes.past.are (omega arith)
        (omega (arith, is, low))) in
        let e : middle + 1 + 1 ≡ middle + 2 = omega arith in
        record {
          at = middle + 2;
          past = omega (arith, past);
          imm = 0;
          reaches = reaches_as s v (middle + 2) rs rs v.memory (Sixth address z) (Holds 0) (λ q i. i)
              (λ w n p h. (
                no_offset (slice_index w.registers 6) (code_start + 4 * entry f) (h.0 ∙ is) (omega (arith, low)),
                (h.1 2 (apart_six 2 (λ q. omega (arith, q))) ∙ first.changes.holds.1.0, h.1 1 (apart_six 1 (λ q. omega (arith, q))) ∙ first.changes.holds.1.1),
              )) both;
          code = subst (λ p. IsInstructionAt s p (Jalr 0 6 0)) e code.1.1.0;
        }

    by_form : (g : Form) → HasCode s middle (call_code g 0 6 (address_of_place middle) address) → to ≡ middle + words_of_call g → Jumps to
    by_form Near code past = by_distance code past
    by_form Middle code past = by_address code past
    by_form Far code past = by_address code past

  pub named_replaces :
      (name : List ℕ) (to : ℕ) → n.symbol name ≡ function_at s.image.funcs f → PartStands s n v.place to (frame_release (frame_in laid) ++ TailCall name ∷ []) →
      LeadsUpTo s v to (λ w. AtEntry s w young (entry f) arguments a.memory c)
  named_replaces name to is st =
      let parts = splits s n v.place to (frame_release (frame_in laid)) (TailCall name ∷ []) st in
      let call = begins s n parts.middle to (TailCall name) [] parts.second in
      let past = nothing_more s n (parts.middle + words_of_call call.form) to call.rest in
      let first = given_back_reaches s n laid v young held a c within left parts.middle parts.first in
      let wide : Reaches s v parts.middle rs v.memory Given =
      reaches_as s v parts.middle (1 ∷ 2 ∷ 7 ∷ []) rs v.memory _ _
      (λ q i. ⊎_elim (λ h. inl h) (λ j. ⊎_elim (λ h. inr (inl h)) (λ h. inr (inr (inr h))) j) i) (λ w m p h. h) first in
      let j = by_form parts.middle to (n.symbol name) wide (is ∙ entries.is f inside) call.form call.code past in
      let both = j.reaches in
      let z = both.changes.view in
      let k = both.lands in
      let p = j.past in
      record {
        count = both.count + 1;
        lands = omega (arith, p, k);
        some = omega arith;
        view = at_place (entry f) z;
        leads = jump_behind s v j.at rs v.memory _ both 6 j.imm (entry f) j.code both.changes.holds.0;
        holds = replaces s laid v (at_place (entry f) z) young held a c within
            (record {
              are = both.changes.past.are;
              others = both.changes.past.others;
              memory = both.changes.past.memory;
              blocks = both.changes.past.blocks;
            })
            both.changes.holds.1.0 both.changes.holds.1.1 none left whole (entry f) arguments refl args;
      }
