-- Allocations: a block is made with nothing written, and then its header and its cells are stored.
use Rattle.std.proofs.Common.{◌≡◌, ℕ, zero, suc, ◌+◌, ◌*◌, ◌/◌, ◌%◌, ◌^◌, ◌<◌, ◌≤◌, Bool, true, false, cond, ◌&&◌, ◌||◌, List, [], ◌∷◌, ◌++◌, Option, Some, None, Ok, Err, map, length, refl, sym, ap, ◌∙◌, subst, arith, le_refl, append_assoc}
use Rattle.std.specs.Prelude.{nat_eq, nat_le, slice_get, slice_set, slice_index_or, replicate}
use Rattle.std.proofs.lemmas.Bool.{true≢false, eq-eqb, eqb-true, le-leb}
use Rattle.std.proofs.lemmas.List.{append-nil, length-append}
use Rattle.std.proofs.Math.Seq.{get_or-append_seam, set-append_seam}
use Rattle.bs_words.specs.Fits.{fits, misfit}
use Rattle.bs_words.specs.Memory.{Memory, HeapBlock, Cell, InHeader, InBlock, sizes, cell_at, cell_of_block, in_block, stored, stored_in, put_whole, put_in, with_cell_value, type_in, type_of_cells, offset_in_cell, end_of_data, all_fit, allocated, next_block}
use Rattle.bs_words.specs.declared.types.Chunk.{Chunk}
use Rattle.bs_words.specs.declared.types.Ty.{Ty}
use Rattle.bs_words.specs.declared.values.Value.{Value}
use Rattle.bs_words.specs.declared.values.Value.TheVariants.{Word, Block}
use Rattle.cmm_tree.specs.Tree.{Alloc, Expressions}
use Rattle.cmm_types.specs.Types.{type_of}
use Rattle.cmm_meaning.specs.State.{Here}
use Rattle.meaning_laws.specs.Does.{Leaves, Giving, Does}
use Rattle.meaning_laws.specs.Interaction.{onward, of_type, proper, does, waiting, filled}
use Rattle.mach_ir.specs.declared.reg.Reg.{Reg}
use Rattle.mach_ir.specs.declared.mach.Instr.{Instr}
use Rattle.mach_ir.specs.declared.mach.Mach.{Mach}
use Rattle.mach_ir.specs.Runs.{ActivationSetting, Continues}
use Rattle.mach_ir.specs.Meaning.{State, File, with_held, on_act, assign_register}
use Rattle.mach_ir.specs.Acts.{Around, Goes, On, moved_by, access_act, stored_act, first_written, header_written, after_store, stuck_unless, is_among_cells, without, same_cell, cells_from}
use Rattle.selection_rules.specs.Kept.{on_lossless_values}
use Rattle.selection_rules.specs.Select.{NamedRegister, Label, scopes, fresh_register, inner_valued, inner_dest, regs_of, chunk_for, cell_stores, select, select_filled, width, header_offset}
use Rattle.cmm_tree.specs.Measures.{count_of}
use Rattle.selection_rules.specs.Follow.{FollowsText, walks, fails}
use Rattle.selection_rules.proofs.Files.{Holds, put_same, holds_put, under_more, named_under, IsNamed, Stands, stands_put}
use Rattle.selection_rules.proofs.Parts.{Placed, lower_more, Stable, stable_inner, new, And, stable_and, at, Level, any, After, after_typed, node_follows, Ready, lands}
use Rattle.selection_rules.proofs.Leaves.{ready_inner, stable_dest, move_follows}
use Rattle.selection_rules.proofs.Rows.{Row, early, regs_length, count_width, between_regs, row_put, SelectedWaiting}
use Rattle.selection_rules.proofs.LightOnes.{Late, late_walks, in_time, settled, light_filled}
use Rattle.bs_words.specs.Memory as memory_of
use Rattle.bs_words.specs.declared.types.Chunk.TheVariants as chunk
use Rattle.bs_words.specs.declared.types.Ty.TheVariants as ty
use Rattle.mach_ir.specs.declared.op.Access.TheVariants as access
use Rattle.meaning_laws.specs.Interaction as part
use Rattle.selection_rules.proofs.Rows as rows
use Rattle.selection_rules.specs.Instructions as emit
use Rattle.selection_rules.specs.Follow.{text_setting}

-- ---- blocks

sizes_seam : (bs : List HeapBlock) (b : HeapBlock) → slice_get (map (λ (block : HeapBlock). length block.cells) (bs ++ b ∷ [])) (length bs) ≡ Some (length b.cells)
sizes_seam [] b = refl
sizes_seam (x ∷ bs) b = sizes_seam bs b

same_nat : (n : ℕ) → nat_eq n n ≡ true
same_nat n = eq-eqb n n refl

same_block : (s i : ℕ) → same_cell (InBlock s i) (InBlock s i) ≡ true
same_block s i = ap (λ b. b && nat_eq i i) (same_nat s) ∙ same_nat i

not_same : (i j : ℕ) → (i ≡ j → ⊥) → nat_eq i j ≡ false
not_same i j apart = by (nat_eq i j) refl
  where
    by : (b : Bool) → nat_eq i j ≡ b → b ≡ false
    by true e = absurd (apart (eqb-true i j e))
    by false e = refl

other_block : (s i j : ℕ) → (i ≡ j → ⊥) → same_cell (InBlock s i) (InBlock s j) ≡ false
other_block s i j apart = ap (λ b. b && nat_eq i j) (same_nat s) ∙ not_same i j apart

no_header : (s i k : ℕ) → is_among_cells (InHeader s) (cells_from s i k) ≡ false
no_header s i zero = refl
no_header s i (suc k) = no_header s (suc i) k

without_header : (s i k : ℕ) → without (InHeader s) (cells_from s i k) ≡ cells_from s i k
without_header s i zero = refl
without_header s i (suc k) = ap (λ cs. InBlock s i ∷ cs) (without_header s (suc i) k)

without_lower : (s i j k : ℕ) → i < j → without (InBlock s i) (cells_from s j k) ≡ cells_from s j k
without_lower s i j zero less = refl
without_lower s i j (suc k) less =
    ap (λ b. cond b (without (InBlock s i) (cells_from s (suc j) k)) (InBlock s j ∷ without (InBlock s i) (cells_from s (suc j) k))) (other_block s i j (λ e. omega (arith, e, less)))
    ∙ ap (λ cs. InBlock s j ∷ cs) (without_lower s i (suc j) k (omega (arith, less)))

moved_small : (s k : ℕ) → k < 2 ^ 64 → moved_by k (Block s 0) ≡ Block s k
moved_small s zero less = refl
moved_small s (suc k) less = let e : (0 + suc k) % 2 ^ 64 ≡ suc k = omega (arith, less) in ap (Block s) e

row_length : {end : ℕ} {f : File} {rs : List Reg} (vs : List Value) → Row end f rs (map Some vs) → length vs ≡ length rs
row_length [] rows.none = refl
row_length (v ∷ vs) (early e h row) = ap suc (row_length vs row)

zeros_length : (k : ℕ) → length (replicate k (Word 0)) ≡ k
zeros_length zero = refl
zeros_length (suc k) = ap suc (zeros_length k)

module _ (m0 : Memory) (header : ℕ) where
  abbrev s : ℕ
  s = length m0.blocks

  abbrev block_of : List Value → HeapBlock
  block_of cells = record { header = header; cells = cells }

  abbrev mem : List Value → Memory
  mem cells = record m0 { blocks = m0.blocks ++ block_of cells ∷ [] }

  block_is : (cells : List Value) → slice_index_or (mem cells).blocks s (record { header = 0; cells = [] }) ≡ block_of cells
  block_is cells = get_or-append_seam m0.blocks (block_of cells) [] (record { header = 0; cells = [] })

  cell_is : (cells : List Value) (i : ℕ) → i < length cells → 8 * length cells < 2 ^ 63 → cell_at (mem cells) 8 (Block s (8 * i)) ≡ Some (InBlock s i)
  cell_is cells i less small =
      let n = length cells in
      let e1 : (8 * i) % 8 ≡ 0 = omega arith in
      let e3 : (8 * i + 8) % 2 ^ 64 ≡ 8 * i + 8 = omega (arith, less, small) in
      let e4 : 8 * i + 8 + 8 ≤ 8 * (n + 1) = omega (arith, less) in
      let e5 : (8 * i + 8) / 8 ≡ suc i = omega arith in
      ap (λ b. cond b (in_block s (slice_get (sizes (mem cells)) s) ((8 * i + 8) % 2 ^ 64) 8) None) (eq-eqb ((8 * i) % 8) 0 e1)
      ∙ ap (λ o. in_block s o ((8 * i + 8) % 2 ^ 64) 8) (sizes_seam m0.blocks (block_of cells))
      ∙ ap (λ w. in_block s (Some n) w 8) e3
      ∙ ap (λ b. cond b (Some (cell_of_block s ((8 * i + 8) / 8))) None) (le-leb (8 * i + 8 + 8) (8 * (n + 1)) e4)
      ∙ ap (λ j. Some (cell_of_block s j)) e5

  with_is : (done zs : List Value) (v : Value) → with_cell_value (mem (done ++ Word 0 ∷ zs)) (InBlock s (length done)) v ≡ mem (done ++ v ∷ zs)
  with_is done zs v =
      let cells = done ++ Word 0 ∷ zs in
      ap (λ (b : HeapBlock). record m0 { blocks = slice_set (mem cells).blocks s (record { header = b.header; cells = slice_set b.cells (length done) v }) }) (block_is cells)
      ∙ ap (λ bs. record m0 { blocks = bs }) (set-append_seam m0.blocks (block_of cells) [] (block_of (slice_set cells (length done) v)))
      ∙ ap mem (set-append_seam done (Word 0) zs v)

  module _ (k : Chunk) (T : Ty) (wide : memory_of.width k ≡ 8) (cells_type : type_of_cells header ≡ T)
      (whole : (memory : Memory) (o i : ℕ) (v : Value) → stored_in k memory o (Some (InBlock s i)) v ≡ put_whole T (end_of_data memory) memory (InBlock s i) v) where
    stored_is : (done zs : List Value) (v : Value) → 8 * length (done ++ Word 0 ∷ zs) < 2 ^ 63 → length done < length (done ++ Word 0 ∷ zs) → fits (end_of_data m0) T v ≡ true →
        stored k (mem (done ++ Word 0 ∷ zs)) (Block s (8 * length done)) v ≡ Ok (mem (done ++ v ∷ zs))
    stored_is done zs v small less fv =
        let cells = done ++ Word 0 ∷ zs in
        let i = length done in
        let end = end_of_data m0 in
        let type_is : type_in (mem cells) (InBlock s i) ≡ T = ap (λ (b : HeapBlock). type_of_cells b.header) (block_is cells) ∙ cells_type in
        ap (λ w. stored_in k (mem cells) (offset_in_cell (Block s (8 * i))) (cell_at (mem cells) w (Block s (8 * i))) v) wide
        ∙ ap (λ o. stored_in k (mem cells) (offset_in_cell (Block s (8 * i))) o v) (cell_is cells i less small)
        ∙ whole (mem cells) (offset_in_cell (Block s (8 * i))) i v
        ∙ ap (λ b. cond b (put_in end (mem cells) (InBlock s i) v) (Err (misfit T))) fv
        ∙ ap (λ (U : Ty). cond (fits end U v) (Ok (with_cell_value (mem cells) (InBlock s i) v)) (Err (misfit U))) type_is
        ∙ ap (λ b. cond b (Ok (with_cell_value (mem cells) (InBlock s i) v)) (Err (misfit T))) fv
        ∙ ap Ok (with_is done zs v)

    module _ (c : ActivationSetting) (m : Mach) (turns : ℕ) (ts : List ℕ) (x : Does) (next : List Instr) (f : File) (p : Reg) (its : Holds p (Block s 0) f) where
      abbrev round : List Value → List Cell → Around
      round cells unwritten = record { memory = mem cells; unwritten = unwritten; tries = ts; raised = None }

      store_act : (done zs : List Value) (v : Value) (n : ℕ) → 8 * length (done ++ Word 0 ∷ zs) < 2 ^ 63 → length done < length (done ++ Word 0 ∷ zs) → fits (end_of_data m0) T v ≡ true →
          access_act (access.Store k (8 * length done)) (Block s 0 ∷ v ∷ []) (round (done ++ Word 0 ∷ zs) (cells_from s (length done) (suc n)))
          ≡ Goes [] On (round (done ++ v ∷ zs) (cells_from s (suc (length done)) n))
      store_act done zs v n small less fv =
          let cells = done ++ Word 0 ∷ zs in
          let i = length done in
          let u = cells_from s (suc i) n in
          let a = round cells (InBlock s i ∷ u) in
          let place = Block s (8 * i) in
          ap (λ y. stored_act k a (cell_at (mem cells) (memory_of.width k) y) y v) (moved_small s (8 * i) (omega (arith, small, less)))
          ∙ ap (λ w. stored_act k a (cell_at (mem cells) w place) place v) wide
          ∙ ap (λ o. stored_act k a o place v) (cell_is cells i less small)
          ∙ ap (λ b. cond (b || is_among_cells (InBlock s i) u) (first_written k a (InBlock s i) place v) (after_store a (InBlock s i ∷ u) (stored k (mem cells) place v))) (same_block s i)
          ∙ ap (λ w. stuck_unless (nat_eq w 8) (after_store a (without (InBlock s i) (InBlock s i ∷ u)) (stored k (mem cells) place v))) wide
          ∙ ap (λ b. after_store a (cond b (without (InBlock s i) u) (InBlock s i ∷ without (InBlock s i) u)) (stored k (mem cells) place v)) (same_block s i)
          ∙ ap (λ w. after_store a w (stored k (mem cells) place v)) (without_lower s i (suc i) n (omega arith))
          ∙ ap (λ r. after_store a u r) (stored_is done zs v small less fv)

      stores_follow : (rs : List Reg) (vs done : List Value) → Row c.setting.end f rs (map Some vs) → all_fit (end_of_data m0) T vs ≡ true → 8 * (length done + length vs) < 2 ^ 63 →
          FollowsText c m x (Continues (record { rest = next; file = f; around = round (done ++ vs) [] })) →
          FollowsText c m x (Continues (record { rest = cell_stores k p (length done) rs next; file = f; around = round (done ++ replicate (length vs) (Word 0)) (cells_from s (length done) (length vs)) }))
      stores_follow [] [] done row fit small follows = follows
      stores_follow [] (v ∷ vs) done row fit small follows = elim row [ ]
      stores_follow (r ∷ rs) [] done row fit small follows = elim row [ ]
      stores_follow (r ∷ rs) (v ∷ vs) done (early fr hr row) fit small follows =
          let zs = replicate (length vs) (Word 0) in
          let long : length (done ++ Word 0 ∷ zs) ≡ length done + suc (length vs) = length-append done (Word 0 ∷ zs) ∙ ap (λ n. length done + suc n) (zeros_length (length vs)) in
          let done' = done ++ v ∷ [] in
          let longer : length done' ≡ suc (length done) = (let e = length-append done (v ∷ []) in omega (arith, e)) in
          let cells : done' ++ zs ≡ done ++ v ∷ zs = append_assoc done (v ∷ []) zs in
          let rest : FollowsText c m x (Continues (record { rest = cell_stores k p (length done') rs next; file = f; around = round (done' ++ zs) (cells_from s (length done') (length vs)) })) =
          stores_follow rs vs done' row (both_right (fits (end_of_data m0) T v) (all_fit (end_of_data m0) T vs) fit) (omega (arith, small, longer))
          (subst (λ cs. FollowsText c m x (Continues (record { rest = next; file = f; around = round cs [] }))) (sym (append_assoc done (v ∷ []) vs)) follows) in
          let instr : Instr = emit.store k (8 * length done) p r in
          let code = cell_stores k p (suc (length done)) rs next in
          let a = round (done ++ Word 0 ∷ zs) (cells_from s (length done) (suc (length vs))) in
          walks (subst (λ o. FollowsText c m x (on_lossless_values c m instr code f a (with_held o (with_held (f r.number) (Some []))))) (sym its.is)
          (subst (λ o. FollowsText c m x (on_lossless_values c m instr code f a (with_held (Some (record { comp = p.comp; value = Block s 0 })) (with_held o (Some []))))) (sym hr.is)
          (subst (λ y. FollowsText c m x (on_act c m instr code f a y))
          (sym (store_act done zs v (length vs) (omega (arith, small, long)) (omega (arith, long)) (both_left (fits (end_of_data m0) T v) (all_fit (end_of_data m0) T vs) fit)))
          (subst (λ cs. FollowsText c m x (Continues (record { rest = code; file = f; around = round cs (cells_from s (suc (length done)) (length vs)) }))) cells
          (subst (λ n. FollowsText c m x (Continues (record { rest = cell_stores k p n rs next; file = f; around = round (done' ++ zs) (cells_from s n (length vs)) }))) longer rest)))))
        where
          both_left : (a b : Bool) → a && b ≡ true → a ≡ true
          both_left true b e = refl
          both_left false b e = e

          both_right : (a b : Bool) → a && b ≡ true → b ≡ true
          both_right true b e = e
          both_right false b e = absurd (true≢false (sym e))

-- ---- the header

module _ (m0 : Memory) (header : ℕ) (ts : List ℕ) where
  abbrev its : ℕ
  its = length m0.blocks

  abbrev around_of : Memory → List Cell → Around
  around_of memory unwritten = record { memory = memory; unwritten = unwritten; tries = ts; raised = None }

  header_cell : (cells : List Value) → 8 * length cells < 2 ^ 63 → cell_at (mem m0 header cells) 8 (Block its header_offset) ≡ Some (InHeader its)
  header_cell cells small =
      let n = length cells in
      let e4 : 0 + 8 ≤ 8 * (n + 1) = omega arith in
      ap (λ o. in_block its o 0 8) (sizes_seam m0.blocks (block_of m0 header cells))
      ∙ ap (λ b. cond b (Some (cell_of_block its 0)) None) (le-leb (0 + 8) (8 * (n + 1)) e4)

  header_act : (cells : List Value) (n : ℕ) → 8 * length cells < 2 ^ 63 →
      access_act (access.Store chunk.Int header_offset) (Block its 0 ∷ Word header ∷ []) (around_of (mem m0 header cells) (InHeader its ∷ cells_from its 0 n))
      ≡ Goes [] On (around_of (mem m0 header cells) (cells_from its 0 n))
  header_act cells n small =
      let u = cells_from its 0 n in
      let a = around_of (mem m0 header cells) (InHeader its ∷ u) in
      let place = Block its header_offset in
      let v = Word header in
      ap (λ y. stored_act chunk.Int a (cell_at (mem m0 header cells) 8 y) y v) (moved_small its header_offset (omega arith))
      ∙ ap (λ o. stored_act chunk.Int a o place v) (header_cell cells small)
      ∙ ap (λ b. cond (b || is_among_cells (InHeader its) u) (first_written chunk.Int a (InHeader its) place v) (after_store a (InHeader its ∷ u) (stored chunk.Int (mem m0 header cells) place v))) (same_nat its)
      ∙ ap (λ (b : HeapBlock). header_written chunk.Int a its (Word b.header) v) (block_is m0 header cells)
      ∙ ap (λ b. stuck_unless b (Goes [] On (around_of (mem m0 header cells) (without (InHeader its) (InHeader its ∷ u))))) (same_nat header)
      ∙ ap (λ b. Goes [] On (around_of (mem m0 header cells) (cond b (without (InHeader its) u) (InHeader its ∷ without (InHeader its) u)))) (same_nat its)
      ∙ ap (λ w. Goes [] On (around_of (mem m0 header cells) w)) (without_header its 0 n)

-- ---- the form

module _ (c : ActivationSetting) (m : Mach) (turns : ℕ) (ts : List ℕ) where
  module _ (place header_at header : ℕ) (operands : Expressions) (env : List NamedRegister) (labels : List Label) (valued tail : Bool) (d : Reg) (b : ℕ) (next : List Instr) (P : File → Type 0) (k : Leaves (Option Value) → Does) where
    abbrev T : Ty
    T = type_of (scopes env) (Alloc place header_at header operands)

    abbrev kk : Leaves (Option Value) → Does
    kk = λ l. onward (λ v h memory. of_type c.setting.end T v h memory) l k

    abbrev p : Reg
    p = fresh_register (suc b) ty.Val

    abbrev q : Reg
    q = fresh_register (suc (suc b)) ty.Int

    abbrev row : ℕ
    row = suc (suc (suc b))

    abbrev base : ℕ
    base = row + count_of operands

    abbrev regs : List Reg
    regs = regs_of env row operands

    abbrev last_code : List Instr
    last_code = emit.move p (inner_dest T b d) ∷ next

    abbrev cells_code : List Instr
    cells_code = cell_stores (chunk_for (nat_le (header % 256) 250)) p 0 regs last_code

    abbrev filled_part : List Instr
    filled_part = select_filled env labels row base operands cells_code

    abbrev alloc_instr : Instr
    alloc_instr = emit.alloc (record { header = header; cells = count_of operands }) (p)

    abbrev constant_instr : Instr
    constant_instr = emit.constant header (q)

    abbrev alloc_code : List Instr
    alloc_code = alloc_instr ∷ constant_instr ∷ emit.store chunk.Int header_offset p q ∷ filled_part

    abbrev zeros : List Value
    zeros = replicate (count_of operands) (Word 0)

    -- the cells are stored, and the block's address comes to its destination
    cells_follow : (chosen : Bool) → type_of_cells header ≡ cond chosen ty.Val ty.Int → Ready c m turns ts env labels b d → Stable env b d.number P → After c m turns ts None env labels (inner_valued valued T) tail (inner_dest T b d) next P kk →
        8 * count_of operands < 2 ^ 63 → (vs : List Value) (h : Here) (f : File) (memory : Memory) → Level c m turns ts h → Stands env h.names f → P f → Holds p (Block (length memory.blocks) 0) f → Row c.setting.end f regs (map Some vs) →
        length vs ≡ count_of operands → (g : Bool) → all_fit (end_of_data memory) (type_of_cells header) vs ≡ g →
        FollowsText c m (proper (cond g (Ok (mem memory header vs)) (Err (misfit (type_of_cells header)))) memory (λ after. part.gives (Some (next_block memory)) h after) kk)
        (Continues (record {
          rest = cell_stores (chunk_for chosen) p 0 regs last_code;
          file = f;
          around = record { memory = mem memory header (replicate (length vs) (Word 0)); unwritten = cells_from (length memory.blocks) 0 (length vs); tries = ts; raised = None };
        }))
    cells_follow chosen ct ready stable a small vs h f memory level s z hp row' long false fit = fails
    cells_follow chosen ct ready stable a small vs h f memory level s z hp row' long true fit = by chosen ct
      where
        landed : FollowsText c m (kk (Giving (Some (next_block memory)) h (mem memory header vs))) (Continues (record { rest = last_code; file = f; around = record { memory = mem memory header vs; unwritten = []; tries = ts; raised = None } }))
        landed = move_follows c m turns ts hp (lands c m turns ts (ready_inner c m turns ts T ready) (stable_dest c m turns ts d T stable) a (next_block memory) h f (mem memory header vs) level s z any)

        by : (chosen : Bool) → type_of_cells header ≡ cond chosen ty.Val ty.Int → FollowsText c m (kk (Giving (Some (next_block memory)) h (mem memory header vs)))
            (Continues (record {
              rest = cell_stores (chunk_for chosen) p 0 regs last_code;
              file = f;
              around = record { memory = mem memory header (replicate (length vs) (Word 0)); unwritten = cells_from (length memory.blocks) 0 (length vs); tries = ts; raised = None };
            }))
        by true ct =
            stores_follow memory header chunk.Val ty.Val refl ct (λ memory o i v. refl) c m turns ts (kk (Giving (Some (next_block memory)) h (mem memory header vs))) last_code f p hp regs vs [] row'
            (subst (λ (U : Ty). all_fit (end_of_data memory) U vs ≡ true) ct fit) (omega (arith, small, long)) landed
        by false ct =
            stores_follow memory header chunk.Int ty.Int refl ct (λ memory o i v. refl) c m turns ts (kk (Giving (Some (next_block memory)) h (mem memory header vs))) last_code f p hp regs vs [] row'
            (subst (λ (U : Ty). all_fit (end_of_data memory) U vs ≡ true) ct fit) (omega (arith, small, long)) landed

    -- from the allocation on
    block_follows : width (Alloc place header_at header operands) < 2 ^ 60 → Ready c m turns ts env labels b d → Stable env b d.number P → After c m turns ts None env labels (inner_valued valued T) tail (inner_dest T b d) next P kk →
        (before : List (Option Value)) (h : Here) (f : File) (memory : Memory) → Level c m turns ts h → Stands env h.names f → P f → Row c.setting.end f regs before → rows.Matches env operands before →
        FollowsText c m (part.and_then (filled (text_setting c) turns operands before h memory) (λ vs h memory. proper (allocated memory header vs) memory (λ after. part.gives (Some (next_block memory)) h after)) kk)
        (Continues (at c m turns ts alloc_code f memory))
    block_follows fine ready stable a before h f memory level s z row' matches =
        let first : 21 ≤ b = let less = ready.below in let le = ready.first in omega (arith, less, le) in
        let small : 8 * count_of operands < 2 ^ 63 = (let le = count_width operands in omega (arith, le, fine)) in
        let block : Value = Block (length memory.blocks) 0 in
        let n = count_of operands in
        let f1 : File = assign_register p block f in
        let f2 : File = assign_register q (Word header) f1 in
        let unnamed : (j : ℕ) → b ≤ j → IsNamed j env → ⊥ = λ j le i. let low = named_under ready.under i in omega (arith, low, le) in
        let s2 = stands_put q (Word header) (unnamed (suc (suc b)) (omega arith)) (stands_put p block (unnamed (suc b) (omega arith)) s) in
        let z2 = stable.puts q (Word header) f1 (new (omega arith)) (stable.puts p block f (new (omega arith)) z) in
        let hp : Holds p block f2 = holds_put q (Word header) (λ e. omega (arith, e)) (put_same p block f) in
        let hq : Holds q (Word header) f2 = put_same q (Word header) f1 in
        let between = between_regs env row base operands (le_refl base) in
        let row2 = row_put {b = row} {i = base} q (Word header) (λ j low high e. omega (arith, low, e)) between (row_put {b = row} {i = base} p block (λ j low high e. omega (arith, low, e)) between row') in
        let a1 : Around = record { memory = mem memory header zeros; unwritten = cells_from (length memory.blocks) 0 n; tries = ts; raised = None } in
        let x : Does = part.and_then (filled (text_setting c) turns operands before h memory) (λ vs h memory. proper (allocated memory header vs) memory (λ after. part.gives (Some (next_block memory)) h after)) kk in
        let zl : 8 * length zeros < 2 ^ 63 = (let e = zeros_length n in omega (arith, e, small)) in
        let begun : State = at c m turns ts alloc_code f memory in
        let from_filled : Late c m begun x (Continues (record { rest = filled_part; file = f2; around = a1 })) =
        light_filled c m turns ts h memory a1 begun refl operands env labels row base cells_code (And P p block) _ before (under_more row (omega arith) ready.under) (omega (arith, first))
        (stable_and p block (omega arith) (λ e. omega (arith, e)) (unnamed (suc b) (omega arith)) (omega (arith, first)) (stable_inner row row (omega arith) (omega arith) stable)) (le_refl base)
        f2 s2 (record { rest = z2; holds = hp }) row2 matches
        (λ vs f s y row3.
        let long : length vs ≡ n = row_length vs row3 ∙ regs_length env row operands in
        in_time (subst (λ k. FollowsText c m (proper (allocated memory header vs) memory (λ after. part.gives (Some (next_block memory)) h after) kk)
        (Continues (record { rest = cells_code; file = f; around = record { memory = mem memory header (replicate k (Word 0)); unwritten = cells_from (length memory.blocks) 0 k; tries = ts; raised = None } }))) long
        (cells_follow (nat_le (header % 256) 250) refl ready stable a small vs h f memory level s y.rest y.holds row3 long (all_fit (end_of_data memory) (type_of_cells header) vs) refl))) in
        let from_header : Late c m begun x (Continues (record {
          rest = emit.store chunk.Int header_offset p q ∷ filled_part;
          file = f2;
          around = record { memory = mem memory header zeros; unwritten = InHeader (length memory.blocks) ∷ cells_from (length memory.blocks) 0 n; tries = ts; raised = None };
        })) =
        late_walks (subst (λ o. Late c m begun x (on_lossless_values c m (emit.store chunk.Int header_offset p q) filled_part f2 (around_of memory header ts (mem memory header zeros) (InHeader (length memory.blocks) ∷ cells_from (length memory.blocks) 0 n))
        (with_held o (with_held (f2 q.number) (Some []))))) (sym hp.is)
        (subst (λ o. Late c m begun x (on_lossless_values c m (emit.store chunk.Int header_offset p q) filled_part f2 (around_of memory header ts (mem memory header zeros) (InHeader (length memory.blocks) ∷ cells_from (length memory.blocks) 0 n))
        (with_held (Some (record { comp = p.comp; value = block })) (with_held o (Some []))))) (sym hq.is)
        (subst (λ y. Late c m begun x (on_act c m (emit.store chunk.Int header_offset p q) filled_part f2 (around_of memory header ts (mem memory header zeros) (InHeader (length memory.blocks) ∷ cells_from (length memory.blocks) 0 n)) y))
        (sym (header_act memory header ts zeros n zl)) from_filled))) in
        settled (late_walks (late_walks (subst (λ cs. Late c m begun x (Continues (record { rest = emit.store chunk.Int header_offset p q ∷ filled_part; file = f2; around = record { memory = mem memory header zeros; unwritten = InHeader (length memory.blocks) ∷ cs; tries = ts; raised = None } })))
        (sym (append-nil (cells_from (length memory.blocks) 0 n))) from_header))) (λ d f. f)

    pub selected_alloc : SelectedWaiting c m turns ts operands → width (Alloc place header_at header operands) < 2 ^ 60 →
        Ready c m turns ts env labels b d → Stable env b d.number P → Placed m ts (select env labels valued tail d b (Alloc place header_at header operands) next) →
        After c m turns ts (Some T) env labels valued tail d next P k → (h : Here) (f : File) (memory : Memory) → Level c m turns ts h → Stands env h.names f → P f →
        FollowsText c m (does (text_setting c) turns (Alloc place header_at header operands) tail h memory k) (Continues (at c m turns ts (select env labels valued tail d b (Alloc place header_at header operands) next) f memory))
    selected_alloc sw fine ready stable ending after h f memory level s z =
        let first : 21 ≤ b = let less = ready.below in let le = ready.first in omega (arith, less, le) in
        let a = after_typed c m turns ts T b after in
        let o = a.outs in
        node_follows c m turns ts (Alloc place header_at header operands) h memory
        (part.and_then (waiting (text_setting c) turns operands h memory) (λ before h memory. part.and_then (filled (text_setting c) turns operands before h memory) (λ vs h memory.
        proper (allocated memory header vs) memory (λ after. part.gives (Some (next_block memory)) h after)))) k _ s
        (sw env labels row base alloc_code P _ (omega (arith, fine)) (lower_more row (omega arith) ready.lower) (under_more row (omega arith) ready.under) (omega (arith, first))
        (stable_inner row row (omega arith) (omega arith) stable) (le_refl base) ending
        (record { exit = λ l values h f memory level r p. o.exit l values h f memory level r p; raising = λ v fv h f memory level r p. o.raising v fv h f memory level r p }) h f memory level s z
        (λ before h f memory level s z row' matches. block_follows fine ready stable a before h f memory level s z row' matches))
