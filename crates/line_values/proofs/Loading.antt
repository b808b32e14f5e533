-- Loads of every chunk follow their lines.
use Rattle.std.proofs.Common.{◌≡◌, ℕ, suc, ◌+◌, ◌*◌, ◌/◌, ◌%◌, ◌^◌, ◌<◌, ◌≤◌, ◌⊎◌, inl, inr, Bool, true, false, cond, List, [], ◌∷◌, ◌++◌, length, Option, Some, None, Result, Ok, Err, slice_index, refl, ap, arith, ◌∙◌, sym, subst, ⊎_elim, append_assoc}
use Rattle.bs_words.specs.Memory.{Cell, cell_at, end_of_data, extended, loaded_as, loaded_from, offset_in_cell, part, value_in_cell, width, IsWidth}
use Rattle.bs_words.specs.Memory as memory
use Rattle.bs_words.specs.declared.types.Chunk.{Chunk}
use Rattle.bs_words.specs.declared.types.Chunk.TheVariants as chunk
use Rattle.bs_words.specs.declared.types.Ty.TheVariants as ty
use Rattle.bs_words.specs.declared.values.Kind.{Kind}
use Rattle.bs_words.specs.declared.values.Value.{Value}
use Rattle.bs_words.specs.declared.values.Value.TheVariants.{Word, Block, Function}
use Rattle.rv_emit_rules.specs.Instructions.{load_piece}
use Rattle.rv_emit_rules.specs.Memory.{address_offset, address_register, address_words, load_from, load_part, load_width}
use Rattle.rv_emit_rules.specs.Slots.{fetch_pieces, keep_pieces, register_of, target}
use Rattle.rv_layout_rules.specs.Words.{NameAddresses}
use Rattle.lin_ir.specs.Formed.{IsLocation}
use Rattle.lin_ir.specs.Meaning.{Locations, NamedAt, on_act, on_values, assign_spot, step}
use Rattle.lin_ir.specs.declared.lin.Lin.{Lin}
use Rattle.lin_ir.specs.declared.lin.Line.{Line}
use Rattle.lin_ir.specs.declared.lin.LinOp.TheVariants as lin
use Rattle.lin_ir.specs.declared.lin.Spot.{Spot}
use Rattle.mach_ir.specs.Acts.{Around, Stuck, is_among_cells, loaded_act, moved_by, one_result}
use Rattle.mach_ir.specs.Runs.{ActivationSetting}
use Rattle.mach_ir.specs.declared.op.Access.TheVariants as access
use Rattle.mach_ir.specs.declared.op.Op.TheVariants as op
use Rattle.moving_laws.specs.Stands.{AmongNumbers}
use Rattle.moving_laws.specs.Words.{held_word}
use Rattle.moving_laws.proofs.Held.{IsHeld, held_below}
use Rattle.rv_isa.specs.Registers.{register_number}
use Rattle.rv_isa.specs.declared.instr.Instr.TheVariants.{Load}
use Rattle.rv_isa.specs.declared.register.Register.{Register}
use Rattle.rv_isa.specs.declared.register.Register.TheVariants.{T1}
use Rattle.rv_machine.specs.Hart.{Placed, bytes_loaded, register_loaded}
use Rattle.machine_laws.proofs.Values.{loaded_word}
use Rattle.rv_pieces.specs.declared.piece.Piece.{Piece}
use Rattle.lin_machine.specs.Follows.{Agrees, FollowsStep}
use Rattle.lin_machine.specs.Relation.{Below, Laid, StandsFor, Within, blocks_by_serial}
use Rattle.lin_machine.specs.Straight.{Changes, LeadsFurther}
use Rattle.lin_machine.specs.View.{Fixed, View, IsInstructionAt}
use Rattle.lin_machine.proofs.Following.{PassesSpare, result_follows}
use Rattle.lin_machine.proofs.Pure.{Reads, reads_held}
use Rattle.lin_machine.proofs.Reading.{reads_one}
use Rattle.lin_machine.proofs.Sequences.{set_then, sets_as, widened}
use Rattle.line_stands.specs.Parts.{PartStands}
use Rattle.line_stands.proofs.Parts.{counts, last}
use Rattle.line_values.proofs.Bytes.{sets_load_part}
use Rattle.line_values.proofs.Cells.{reached}
use Rattle.line_values.proofs.Operands.{fetches, targeted}
use Rattle.std.proofs.Math.Nat.{mod-lt}
use Rattle.std.proofs.lemmas.Nat.{pow_pos}
use Rattle.lin_machine.proofs.Operating.{unary}
use Rattle.lin_machine.proofs.Standing.{IsScratch}
use Rattle.lin_machine.proofs.Operators.{ok_is}
use Rattle.lin_machine.proofs.Loads.{fit_is}
use Rattle.line_values.proofs.Addresses.{addresses, no_function}

-- ---- chunks

pub chunk_width : (k : Chunk) → IsWidth (width k)
chunk_width chunk.U8 = inl refl
chunk_width chunk.I8 = inl refl
chunk_width chunk.U16 = inr (inl refl)
chunk_width chunk.I16 = inr (inl refl)
chunk_width chunk.U32 = inr (inr (inl refl))
chunk_width chunk.I32 = inr (inr (inl refl))
chunk_width chunk.Int = inr (inr (inr refl))
chunk_width chunk.Val = inr (inr (inr refl))

load_bytes : (k : Chunk) → bytes_loaded (load_width k) ≡ width k
load_bytes chunk.U8 = refl
load_bytes chunk.I8 = refl
load_bytes chunk.U16 = refl
load_bytes chunk.I16 = refl
load_bytes chunk.U32 = refl
load_bytes chunk.I32 = refl
load_bytes chunk.Int = refl
load_bytes chunk.Val = refl

part_below : (word from bytes : ℕ) → part word from bytes < 2 ^ (8 * bytes)
part_below word from bytes = mod-lt (word / 2 ^ (8 * from)) (pow_pos (8 * bytes))

whole_part : (word from : ℕ) → word < 2 ^ 64 → from + 8 ≤ 8 → part word from 8 ≡ word
whole_part word from small l =
    let z : from ≡ 0 = omega (arith, l) in
    ap (λ b. part word b 8) z ∙ at_zero word small
  where
    at_zero : (word : ℕ) → word < 2 ^ 64 → part word 0 8 ≡ word
    at_zero word small = omega (arith, small)

module _ (s : Fixed) (placed : List Placed) (end w from : ℕ) (small : w < 2 ^ 64) where
  -- what is loaded stands for the loaded value
  pub loaded_stands : (k : Chunk) (old z : Value) → StandsFor s placed w old → from + width k ≤ 8 → loaded_as k end from old ≡ Ok z →
      StandsFor s placed (register_loaded (load_width k) (part w from (width k))) z
  loaded_stands chunk.Int old z st l e =
      subst (λ x. StandsFor s placed x z) (sym (whole_part w from small l)) (subst (StandsFor s placed w) (fit_is end ty.Int old z e) st)
  loaded_stands chunk.Val old z st l e =
      subst (λ x. StandsFor s placed x z) (sym (whole_part w from small l)) (subst (StandsFor s placed w) (fit_is end ty.Val old z e) st)
  loaded_stands chunk.U8 (Word x) z st l e =
      subst (StandsFor s placed (register_loaded (load_width chunk.U8) (part w from 1))) (ok_is _ _ e)
      (record { is = ap (λ y. extended chunk.U8 (part y from 1)) st.is; known = tt })
  loaded_stands chunk.I8 (Word x) z st l e =
      subst (StandsFor s placed (register_loaded (load_width chunk.I8) (part w from 1))) (ok_is _ _ e)
      (record { is = ap (λ y. extended chunk.I8 (part y from 1)) st.is; known = tt })
  loaded_stands chunk.U16 (Word x) z st l e =
      subst (StandsFor s placed (register_loaded (load_width chunk.U16) (part w from 2))) (ok_is _ _ e)
      (record { is = ap (λ y. extended chunk.U16 (part y from 2)) st.is; known = tt })
  loaded_stands chunk.I16 (Word x) z st l e =
      subst (StandsFor s placed (register_loaded (load_width chunk.I16) (part w from 2))) (ok_is _ _ e)
      (record { is = ap (λ y. extended chunk.I16 (part y from 2)) st.is; known = tt })
  loaded_stands chunk.U32 (Word x) z st l e =
      subst (StandsFor s placed (register_loaded (load_width chunk.U32) (part w from 4))) (ok_is _ _ e)
      (record { is = ap (λ y. extended chunk.U32 (part y from 4)) st.is; known = tt })
  loaded_stands chunk.I32 (Word x) z st l e =
      subst (StandsFor s placed (register_loaded (load_width chunk.I32) (part w from 4))) (ok_is _ _ e)
      (record { is = ap (λ y. extended chunk.I32 (part y from 4)) st.is; known = tt })
  loaded_stands chunk.U8 (Block k o) z st l e = absurd (cc)
  loaded_stands chunk.I8 (Block k o) z st l e = absurd (cc)
  loaded_stands chunk.U16 (Block k o) z st l e = absurd (cc)
  loaded_stands chunk.I16 (Block k o) z st l e = absurd (cc)
  loaded_stands chunk.U32 (Block k o) z st l e = absurd (cc)
  loaded_stands chunk.I32 (Block k o) z st l e = absurd (cc)
  loaded_stands chunk.U8 (Function f) z st l e = absurd (cc)
  loaded_stands chunk.I8 (Function f) z st l e = absurd (cc)
  loaded_stands chunk.U16 (Function f) z st l e = absurd (cc)
  loaded_stands chunk.I16 (Function f) z st l e = absurd (cc)
  loaded_stands chunk.U32 (Function f) z st l e = absurd (cc)
  loaded_stands chunk.I32 (Function f) z st l e = absurd (cc)

-- ---- lines

module _ (s : Fixed) (n : NameAddresses) (laid : Laid) (m : Lin) (slots : m.slots ≡ laid.slots) (live : List Line → Type 0) (entry : ℕ → ℕ) (c : Below)
    (place : ActivationSetting) (named : NamedAt) (next : List Line) (v : View) (young : List Placed) (held file : Locations) (a : Around) (none : a.raised ≡ None)
    (within : Within s laid v young 0 held a c) (before : Type 0) (agrees : Agrees before held file) (k : ℕ) (behind : laid.part (length next) ≡ v.place + k)
    (r : Spot) (at_r : IsLocation m r.loc) (passes : PassesSpare before (live next) r.loc)
    (ch : Chunk) (offset : ℕ) (fits_64 : offset < 2 ^ 64) (p : Spot) (at_p : IsLocation m p.loc) (reads : Reads before p.loc)
    (part_is : PartStands s n v.place (v.place + k) (load_part (length a.tries) ch offset (p ∷ []) (r ∷ []))) where
  target_or_scratch : (t q : ℕ) → AmongNumbers q (t ∷ 6 ∷ 7 ∷ []) → (q ≡ t) ⊎ IsScratch q
  target_or_scratch t q i =
      ⊎_elim (λ e. inl e) (λ f. ⊎_elim (λ e. inr (inl e)) (λ g. ⊎_elim (λ e. inr (inr e)) (λ z. absurd z) g) f) i

  loads : (x z : Value) (cell : Cell) → held p.loc ≡ Some x → cell_at a.memory (width ch) (moved_by offset x) ≡ Some cell → is_among_cells cell a.unwritten ≡ false →
      loaded_as ch (end_of_data a.memory) (offset_in_cell (moved_by offset x)) (value_in_cell a.memory cell) ≡ Ok z →
      LeadsFurther s v k (λ w. Within s laid w young 0 (assign_spot r z held) a c)
  loads x z cell h there written e =
      let base : Register = register_of T1 p.loc in
      let one : List Piece = fetch_pieces (length a.tries) T1 p.loc in
      let work : List Piece = load_from ch offset (register_of T1 p.loc) (target r.loc) in
      let keep : List Piece = keep_pieces (length a.tries) r.loc in
      let turned : PartStands s n v.place (v.place + k) (one ++ (work ++ keep)) =
      subst (PartStands s n v.place (v.place + k)) (append_assoc one work keep) part_is in
      let g1 = counts s n v.place k one (work ++ keep) turned in
      let g2 = counts s n (v.place + g1.own) g1.others work keep g1.second in
      let g3 = counts s n (v.place + g1.own) g2.own (address_words (register_of T1 p.loc) offset)
      (load_piece (load_width ch) (target r.loc) (address_register (register_of T1 p.loc) offset) (address_offset offset) ∷ []) g2.first in
      let f1 = fetches s n laid m slots v young held a c none within T1 5 refl (inl refl) v.place g1.own p.loc at_p g1.first in
      let tg = targeted s n laid m slots v young held a c none within r.loc at_r in
      let ad = addresses s n laid young held a c (register_of T1 p.loc) f1.r f1.is f1.apart offset fits_64 (v.place + g1.own) g3.own g3.first in
      let l = last s n (v.place + g1.own + g3.own) g3.others
      (Load (load_width ch) (register_number (target r.loc)) (register_number (address_register (register_of T1 p.loc) offset)) (address_offset offset % 4096)) g3.second in
      let e1 = g1.sum in
      let e2 = g2.sum in
      let e3 = g3.sum in
      let e4 = l.1 in
      let all : k ≡ g1.own + (g2.own + g2.others) = omega (arith, e1, e2) in
      let two : g2.own ≡ g3.own + 1 = omega (arith, e3, e4) in
      let rs : List ℕ = suc tg.t ∷ 6 ∷ 7 ∷ [] in
      subst (λ j. LeadsFurther s v j (λ w. Within s laid w young 0 (assign_spot r z held) a c)) (sym all)
      (unary s laid young a c none held tg.rest (assign_spot r z held) v.place g1.own g2.own g2.others (suc f1.r) (suc tg.t) f1.list (suc tg.t ∷ 6 ∷ 7 ∷ []) x z
      (f1.gets x h) tg.makes (target_or_scratch (suc tg.t)) (tg.keeps r refl z (v.place + g1.own + g2.own) g2.others g2.second)
      (λ u at w sx.
      let reach = reached s (blocks_by_serial u young) u.memory w.usable.regions a w.heap (width ch) (chunk_width ch) (moved_by offset x) cell there in
      let lies = reach.is written in
      let from : ℕ = reach.byte in
      let value : ℕ = register_loaded (load_width ch) (part (held_word u.memory reach.at) reach.byte (width ch)) in
      let stands : StandsFor s (blocks_by_serial u young) (register_loaded (load_width ch) (part (held_word u.memory reach.at) reach.byte (width ch))) z =
      loaded_stands s (blocks_by_serial u young) (end_of_data a.memory) (held_word u.memory reach.at) reach.byte (held_below u.memory reach.at w.usable.regions.each) ch (value_in_cell a.memory cell) z
      lies reach.inside (subst (λ b. loaded_as ch (end_of_data a.memory) b (value_in_cell a.memory cell) ≡ Ok z) reach.offset e) in
      let first = ad.gets x (no_function a (width ch) offset x cell there) u at w sx in
      let code : IsInstructionAt s (u.place + g3.own) (Load (load_width ch) (suc tg.t) (suc ad.r) (address_offset offset % 4096)) =
      subst (λ y. IsInstructionAt s (y + g3.own) (Load (load_width ch) (suc tg.t) (suc ad.r) (address_offset offset % 4096))) (sym at)
      (subst (λ y. IsInstructionAt s (v.place + g1.own + g3.own) (Load (load_width ch) y (suc ad.r) (address_offset offset % 4096))) tg.is
      (subst (λ y. IsInstructionAt s (v.place + g1.own + g3.own) (Load (load_width ch) (register_number (target r.loc)) y (address_offset offset % 4096))) ad.is l.0)) in
      subst (λ j. Changes s u j (suc tg.t ∷ 6 ∷ 7 ∷ []) u.memory (λ o. StandsFor s (blocks_by_serial u young) (slice_index o.registers (suc tg.t)) z)) (sym two)
      (widened s u (g3.own + 1) (suc tg.t ∷ 6 ∷ 7 ∷ []) (suc tg.t ∷ 6 ∷ 7 ∷ []) u.memory
      (λ o. slice_index o.registers (suc tg.t) ≡ register_loaded (load_width ch) (part (held_word u.memory reach.at) reach.byte (width ch))) _ (λ q i. i)
      (λ o past f. subst (λ y. StandsFor s (blocks_by_serial u young) y z) (sym f) stands)
      (set_then s u g3.own (suc tg.t ∷ 6 ∷ 7 ∷ []) u.memory _
      (Load (load_width ch) (suc tg.t) (suc ad.r) (address_offset offset % 4096)) tg.t value
      (widened s u g3.own ad.list (suc tg.t ∷ 6 ∷ 7 ∷ []) u.memory _ _
      (λ q i. ⊎_elim (λ f. inr (inl f)) (λ f. inr (inr (inl f))) (ad.scratch q i)) (λ o past f. f) first)
      (inl refl)
      (λ o past f.
      sets_as s o (Load (load_width ch) (suc tg.t) (suc ad.r) (address_offset offset % 4096)) (suc tg.t) _ value
      (ap (λ y. register_loaded (load_width ch) (part (held_word y reach.at) reach.byte (width ch))) past.memory)
      (sets_load_part s o reach.at reach.byte reach.even reach.low reach.no_limit
      (subst (λ y. IsHeld y reach.at) (sym past.memory) reach.held) (width ch) (chunk_width ch) reach.inside reach.area reach.aligned (load_width ch)
      (load_bytes ch)
      (suc tg.t) (suc ad.r) (address_offset offset % 4096) (f ∙ reach.address)))
      code (inl tg.no_sp) tg.fits
      (loaded_word (load_width ch) (part (held_word u.memory reach.at) reach.byte (width ch))
      (subst (λ y. part (held_word u.memory reach.at) reach.byte (width ch) < 2 ^ (8 * y)) (sym (load_bytes ch))
      (part_below (held_word u.memory reach.at) reach.byte (width ch)))))))
      v refl within)

  pub load_line : FollowsStep k s laid live entry c v (step place named m (record {
    rest = record { op = lin.Op (op.Access (access.Load ch offset)); args = p ∷ []; results = r ∷ [] } ∷ next;
    file = file;
    around = a;
  }))
  load_line =
      reads_one place.setting.end file
      (λ vs. FollowsStep k s laid live entry c v (on_values place (named (length next)) m (record {
        op = lin.Op (op.Access (access.Load ch offset));
        args = p ∷ [];
        results = r ∷ [];
      }) next file a vs)) tt p
      (λ x h e. by_cell x (cell_at a.memory (width ch) (moved_by offset x)) refl h)
    where
      by_result : (x : Value) (cell : Cell) (o : Result Value Kind) → cell_at a.memory (width ch) (moved_by offset x) ≡ Some cell →
          is_among_cells cell a.unwritten ≡ false → memory.loaded ch a.memory (moved_by offset x) ≡ o →
          file p.loc ≡ Some x → FollowsStep k s laid live entry c v
          (on_act place m (record { op = lin.Op (op.Access (access.Load ch offset)); args = p ∷ []; results = r ∷ [] }) next file a (one_result a o))
      by_result x cell (Err kind) e w f h = tt
      by_result x cell (Ok z) e w f h =
          result_follows s laid live entry c v next before k place.setting.end r z young held file a behind agrees passes
          (λ fit. loads x z cell (reads_held before held file p.loc agrees reads ∙ h) e w
          (ap (loaded_from ch a.memory (offset_in_cell (moved_by offset x))) (sym e) ∙ f))

      by_written : (x : Value) (cell : Cell) (b : Bool) → is_among_cells cell a.unwritten ≡ b → cell_at a.memory (width ch) (moved_by offset x) ≡ Some cell →
          file p.loc ≡ Some x →
          FollowsStep k s laid live entry c v
          (on_act place m (record {
            op = lin.Op (op.Access (access.Load ch offset));
            args = p ∷ [];
            results = r ∷ [];
          }) next file a (cond b Stuck (one_result a (memory.loaded ch a.memory (moved_by offset x)))))
      by_written x cell true w e h = tt
      by_written x cell false w e h = by_result x cell (memory.loaded ch a.memory (moved_by offset x)) e w refl h

      by_cell : (x : Value) (o : Option Cell) → cell_at a.memory (width ch) (moved_by offset x) ≡ o → file p.loc ≡ Some x →
          FollowsStep k s laid live entry c v
          (on_act place m (record {
            op = lin.Op (op.Access (access.Load ch offset));
            args = p ∷ [];
            results = r ∷ [];
          }) next file a (loaded_act a o (memory.loaded ch a.memory (moved_by offset x))))
      by_cell x None e h = tt
      by_cell x (Some cell) e h = by_written x cell (is_among_cells cell a.unwritten) refl e h
