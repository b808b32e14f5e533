-- A chained function lies in the image of its file.
use Rattle.std.proofs.Common.{◌≡◌, ℕ, zero, suc, ◌+◌, ◌*◌, ◌^◌, ◌<◌, ◌≤◌, Bool, true, false, List, [], ◌∷◌, ◌++◌, length, drop, take, Option, Some, refl, sym, ap, ◌∙◌, subst, arith}
use Rattle.std.specs.Prelude.{slice_get, slice_index}
use Rattle.std.specs.List.{Contains}
use Rattle.std.proofs.lemmas.Option.{none-some, same_Some}
use Rattle.bs_words.specs.Fits.{data_start}
use Rattle.bs_words.specs.declared.values.Value.{Value}
use Rattle.bs_words.specs.declared.values.Value.TheVariants.{Word, Block, Function}
use Rattle.cmm_data.specs.Placement.{value_of_symbol}
use Rattle.cmm_meaning.specs.Setting.{Setting}
use Rattle.cmm_tree.specs.Tree.{FileTree, FunctionTree, functions}
use Rattle.rv_emit_rules.specs.Emitted.{emitted, part_of_line, parts_of_lines}
use Rattle.rv_emit_rules.specs.Entry.{FrameLayout, entry_pieces, frame_of}
use Rattle.rv_emit_rules.specs.Named.{IsExternalOf}
use Rattle.rv_emit_rules.specs.Units.{is_free_exit, tests_first}
use Rattle.image_form.specs.Image.{stub_words, code_limit}
use Rattle.image_form.specs.Tables.{Desc, Tables}
use Rattle.rv_layout_rules.specs.declared.form.Form.{Form}
use Rattle.rv_layout_rules.specs.Conditions.{IsFunctionLaid, AreNamesPresent}
use Rattle.rv_layout_rules.specs.Externals.{externals}
use Rattle.rv_layout_rules.specs.Forms.{ReachFrom, label_from, label_word_offset, place_or_entry, total_words}
use Rattle.rv_layout_rules.specs.Laid.{address_of_place, address_of_value, descs_in, function_entries_from, addresses_named_at}
use Rattle.rv_layout_rules.specs.Stands as layout
use Rattle.rv_layout_rules.specs.Stands.{HasPieces}
use Rattle.rv_layout_rules.specs.Words.{NameAddresses}
use Rattle.rv_layout_rules.proofs.Functions.{stands}
use Rattle.lin_ir.specs.Descriptors.{IsDescr, NamesLives, frame_bytes, has_frame_point}
use Rattle.lin_ir.specs.Formed.{IsFormedLine, Locates, WellFormed, labels_in}
use Rattle.lin_ir.specs.Meaning.{NamedAt, after_label, passes_frame}
use Rattle.lin_ir.specs.Walks.{Reached, StandsAsLine, at_entry, by_step, by_walk, goes}
use Rattle.lin_ir.specs.declared.descr.Descr.{Descr}
use Rattle.lin_ir.specs.declared.lin.Lin.{Lin}
use Rattle.lin_ir.specs.declared.lin.Line.{Line}
use Rattle.line_calls.specs.Points.{AreMarked, EntriesStand, IsTurn, PointStands}
use Rattle.line_calls.proofs.Shown.{each_at}
use Rattle.line_calls.specs.Known.{FreeStands, LineStands, Nowhere, OffsetFits, IsRowAt, NamesStand, PartStands, label_place}
use Rattle.lin_machine.specs.Relation.{Laid, StandsFor}
use Rattle.lin_machine.specs.View.{Fixed}
use Rattle.linearise_rules.proofs.Homes.{IsIn, in_of}
use Rattle.linearise_rules.proofs.Marks.{all_in}
use Rattle.rv_emit_rules.proofs.Names.{stands-contains}
use Rattle.rv_emit_rules.proofs.Units.{free_is_exit, part_unless_free, falls_tests}
use Rattle.linearise_rules.proofs.Walked.{Tail, stands_tail, tail_next}
use Rattle.mach_ir.specs.Acts.{On, external_row}
use Rattle.mach_ir.specs.declared.op.External.{External}
use Rattle.laid_files.specs.Known.{IsChained}
use Rattle.laid_files.proofs.Functions.{point_among}
use Rattle.moving_laws.specs.Values.{HasFunctions, IsKnown, function_at, value_word}
use Rattle.rv_pieces.specs.declared.piece.Piece.{Piece}
use Rattle.rv_pieces.specs.declared.piece.Pieces.{Pieces}
use Rattle.function_stands.specs.Compiled.{IsImageOfPieces}
use Rattle.function_stands.specs.Functions.{FunctionStands, LineAt, entry_place}
use Rattle.function_stands.proofs.Described.{is_described, none_over_calls}
use Rattle.function_stands.proofs.Ending.{place_before, points_go_on}
use Rattle.function_stands.proofs.Entries.{as_many, entry_address, entry_is, frame_at, rows_are}
use Rattle.function_stands.proofs.Exact.{Described, described}
use Rattle.function_stands.proofs.Found.{all_found, shares}
use Rattle.function_stands.proofs.Free.{falls_in, free_place}
use Rattle.function_stands.proofs.Handlers.{pushed, pushed_stands}
use Rattle.function_stands.proofs.Labels.{entry_past, label_past, label_place_is}
use Rattle.function_stands.proofs.Parts.{AreFound, PartFound, found_second, Place, descriptor_of, line_part, place_first, place_moved, place_rises, place_within}
use Rattle.function_stands.proofs.Points.{external_in, found_marked, no_descriptor, none_marked}
use Rattle.function_stands.proofs.Reaching.{reach_moved}
use Rattle.function_stands.proofs.Rows.{row_found}
use Rattle.function_stands.proofs.Splitting.{has_first, has_second, reach_first, reach_second, words_both, words_first}
use Rattle.function_stands.proofs.Symbols.{IsInFile, of_data, of_function, symbol_placed}
use Rattle.function_stands.proofs.Unnamed.{spare_passes, spare_unnamed, unwritten}

index_is : (xs : List ℕ) (k x : ℕ) → slice_get xs k ≡ Some x → slice_index xs k ≡ x
index_is [] k x e = cc
index_is (y ∷ xs) zero x e = same_Some y x e
index_is (y ∷ xs) (suc k) x e = index_is xs k x e

module _ (image : Tables) (file : FileTree) (ps : List Pieces) (c : Setting) (k : ℕ) (tree : FunctionTree) (m : Lin) (ds : List Descr)
    (p : Pieces) (named : NamedAt) (of : IsImageOfPieces image file ps c) (is_there : slice_get ps k ≡ Some p) (it : IsChained tree m ds p)
    (lives : NamesLives m named) (functions_are : HasFunctions image) where
  -- ---- the function in the image

  abbrev forms : List (List Form)
  forms = of.laid.forms

  abbrev entries : List ℕ
  entries = function_entries_from stub_words ps forms

  abbrev traps : ℕ → ℕ
  traps = it.emitted.traps

  abbrev pieces : Pieces
  pieces = emitted m traps ds

  abbrev well : WellFormed m
  well = it.lines.regular.well

  there : slice_get ps k ≡ Some pieces
  there = is_there ∙ ap Some it.emitted.is

  placed : layout.IsFunctionInImage file entries forms image k pieces
  placed =
      let is = of.laid.is in
      let short = subst (λ (t : Tables). 4 * length t.code ≤ code_limit) is of.short in
      subst (λ (t : Tables). layout.IsFunctionInImage file entries forms t k pieces) (sym is) (stands file ps forms k pieces of.can of.laid.reach short there)

  abbrev place : ℕ
  place = placed.place

  abbrev fs : List Form
  fs = placed.forms

  abbrev n : NameAddresses
  n = addresses_named_at file entries place pieces.code fs

  same_label : (l : ℕ) → label_place n l ≡ place + label_word_offset pieces.code fs l
  same_label l = omega arith

  has : HasPieces image.code n place pieces.code fs
  has = placed.stands.has

  reach : ReachFrom (label_place n) place pieces.code fs
  reach =
      let e : place + 0 ≡ place = omega arith in
      subst (λ at. ReachFrom (label_place n) at pieces.code fs) e
      (reach_moved (label_word_offset pieces.code fs) (label_place n) place same_label 0 pieces.code fs placed.reach)

  among : (d : Desc) → IsIn d (descs_in place pieces.code fs) → IsIn d image.descs
  among d z =
      let share = shares stub_words ps forms k pieces of.laid.reach there in
      let same_forms : share.of ≡ placed.forms = same_Some share.of placed.forms (sym share.chosen ∙ placed.chosen) in
      let same_place : share.place ≡ placed.place = same_Some share.place placed.place (sym share.entry ∙ placed.entry) in
      let z' = subst (λ at. IsIn d (descs_in at pieces.code placed.forms)) (sym same_place) z in
      let z'' = subst (λ gs. IsIn d (descs_in share.place pieces.code gs)) (sym same_forms) z' in
      subst (λ (t : Tables). IsIn d t.descs) (sym of.laid.is) (share.among d z'')

  found : AreFound image place pieces.code fs
  found = all_found image functions_are.tables.descs.rising place pieces.code fs among

  -- ---- the entry, and the parts of the lines

  abbrev f : FrameLayout
  f = frame_of m

  abbrev body : List Piece
  body = parts_of_lines traps f ds m.code

  abbrev start : ℕ
  start = place + total_words (entry_pieces f) fs

  abbrev left : List Form
  left = drop (length (entry_pieces f)) fs

  body_has : HasPieces image.code n start body left
  body_has = has_second image.code n place (entry_pieces f) body fs has

  body_reach : ReachFrom (label_place n) start body left
  body_reach = reach_second (label_place n) place (entry_pieces f) body fs reach

  body_found : AreFound image start body left
  body_found = found_second image place (entry_pieces f) body fs found

  abbrev part_place : ℕ → ℕ
  part_place q = Place traps f ds m.code left start q

  laid : Laid
  laid = record {
    part = part_place;
    frame = frame_bytes m;
    saves = has_frame_point m.code;
    slots = m.slots;
    handler = n.label;
    even = omega arith;
    room = omega arith;
  }

  part_within : (q : ℕ) → part_place q ≤ length image.code
  part_within q =
      let high = (place_within traps f ds m.code left start q).1 in
      let both = words_both (entry_pieces f) body fs in
      let within = placed.stands.within in
      omega (arith, high, both, within)

  -- what has a line after it to which a walk comes is no end of the code
  part_before : (q : ℕ) {suffix : List Line} {tries : List ℕ} → Reached m suffix tries → Tail suffix m.code → length suffix ≤ q →
      part_place q < length image.code
  part_before q reached tail h =
      let high = place_before image.code n traps f m it.lines.unended ds m.code left start start q reached tail h body_has in
      let both = words_both (entry_pieces f) body fs in
      let within = placed.stands.within in
      omega (arith, high, both, within)

  entry_stands : (s : Fixed) → s.image ≡ image → PartStands s n place start (entry_pieces f)
  entry_stands s e = record {
    forms = take (length (entry_pieces f)) fs;
    has = subst (λ (t : Tables). HasPieces t.code n place (entry_pieces f) (take (length (entry_pieces f)) fs)) (sym e)
        (has_first image.code n place (entry_pieces f) body fs has);
    reach = reach_first (label_place n) place (entry_pieces f) body fs reach;
    past = ap (λ q. place + q) (sym (words_first (entry_pieces f) fs));
  }

  -- ---- names

  label_is : (l : ℕ) → Contains (labels_in m.code) l → n.label l ≡ address_of_place (part_place (length (after_label l m.code)))
  label_is l among =
      let q = length (after_label l m.code) in
      let zero_on : ℕ = 0 + total_words (entry_pieces f) fs in
      let by : label_from l 0 (entry_pieces f ++ body) fs ≡ Some (Place traps f ds m.code left zero_on q) =
      label_past l 0 (entry_pieces f) body fs (entry_past l f) ∙ label_place_is image.code n traps f l zero_on start ds m.code left among body_has in
      let moved = place_moved traps f ds m.code left place zero_on q in
      let same : place + zero_on ≡ start = omega arith in
      let at : place + label_word_offset pieces.code fs l ≡ part_place q =
      ap (λ (o : Option ℕ). place + place_or_entry o) by ∙ sym moved ∙ ap (λ b. Place traps f ds m.code left b q) same in
      ap address_of_place at

  -- the word of a value, where no block is there
  abbrev IsOf : Tables → ℕ → Value → Type 0
  IsOf t w v = (w ≡ value_word t [] v) × IsKnown t 0 v × (w < 2 ^ 30)

  value_is : (v : Value) → IsInFile (length (functions file)) v → IsOf image (address_of_value entries (Some v)) v
  value_is (Word a) (of_data h) = (refl, tt, omega (arith, h))
  value_is (Function g) (of_function h) =
      let inside : g < length image.funcs = omega (arith, h, as_many image file ps c of) in
      let below = functions_are.inside g inside in
      let short = of.short in
      let e = rows_are image file ps c of g in
      (sym e, inside, omega (arith, below, short, e))
  value_is (Block serial offset) of = elim of [ ]

  symbol_is : (name : List ℕ) (v : Value) → c.symbol name ≡ Some v → IsOf image (n.symbol name) v
  symbol_is name v e =
      let of_file : value_of_symbol file name ≡ Some v = sym (of.symbols name) ∙ e in
      let stands = value_is v (symbol_placed file name v of.can.of_file.no_fault of_file) in
      subst (λ (o : Option Value). IsOf image (address_of_value entries o) v) (sym of_file) stands

  -- ---- in a run

  module _ (s : Fixed) (same : s.image ≡ image) where
    symbol_stands : (name : List ℕ) (v : Value) → c.symbol name ≡ Some v → StandsFor s [] (n.symbol name) v × (n.symbol name < 2 ^ 30)
    symbol_stands name v e =
        let own = subst (λ t. IsOf t (n.symbol name) v) (sym same) (symbol_is name v e) in
        (record { is = own.0; known = own.1 }, own.2)

    external_stands : (row : External) → IsExternalOf m row → IsRowAt s row (n.external (external_row row))
    external_stands row is =
        let laid_one = each_at (IsFunctionLaid file) ps k pieces of.can.each there in
        let line = in_of is.line m.code is.among in
        let named_one = external_in (AreNamesPresent file pieces.code) traps f (entry_pieces f) ds m.code is.line row is.frame laid_one.named line is.is in
        let at = row_found (externals file) (external_row row) (in_of (external_row row) (externals file) (named_one.external row refl)) in
        record {
          ext = at.0;
          there = ap (λ (t : Tables). slice_get t.extcs (n.external (external_row row))) (same ∙ of.laid.is) ∙ at.1;
          name = at.2;
          params = at.3;
          result = at.4;
        }

    names_stand : NamesStand s laid n m c
    unfolding laid
    names_stand = record {
      label = label_is;
      within = λ l among. subst (λ (t : Tables). part_place (length (after_label l m.code)) ≤ length t.code) (sym same) (part_within (length (after_label l m.code)));
      handler = λ l. refl;
      symbol = symbol_stands;
      external = external_stands;
    }

    entries_stand : EntriesStand s (entry_place s.image)
    entries_stand = record {
      is = λ g inside. subst (λ (t : Tables). function_at t.funcs g ≡ address_of_place (entry_place t g)) (sym same) (entry_address image file ps c of g);
    }

    -- ---- lines

    abbrev descr_of : List Line → Option Descr
    descr_of next = descriptor_of ds m.code (length next)

    module _ (i : Line) (next : List Line) (tries : List ℕ) (stands : StandsAsLine i next m.code) (reached : Reached m (i ∷ next) tries)
        (unless : is_free_exit i.op next ≡ false) where
      line_found : PartFound s n (part_place (suc (length next))) (part_place (length next)) (part_of_line (length tries) f (descr_of next) i)
      line_found =
          let has' = subst (λ (t : Tables). HasPieces t.code n start body left) (sym same) body_has in
          let found' = subst (λ t. AreFound t start body left) (sym same) body_found in
          let before = line_part s n traps f ds m.code left start stands has' body_reach found' in
          let own = subst (PartFound s n (part_place (suc (length next))) (part_place (length next)))
          (part_unless_free (traps (length next)) f (descr_of next) i next unless) before in
          subst (λ t. PartFound s n (part_place (suc (length next))) (part_place (length next)) (part_of_line t f (descr_of next) i))
          (it.emitted.pushed.pushed i next stands tries reached) own

      line_among : Contains m.code i
      line_among = stands-contains m.code stands

      line_in : IsIn i m.code
      line_in = in_of i m.code line_among

      line_stands : LineStands s laid n m c Nowhere tries f (descr_of next) i next
      unfolding laid
      line_stands = record {
        part = line_found.part;
        names = names_stand;
        frame = refl;
        saves = refl;
        slots = refl;
        among = line_among;
        formed = all_in IsFormedLine well.forms line_in;
        offset = all_in (λ (j : Line). OffsetFits j.op) it.lines.offsets line_in;
        args = (all_in (λ (j : Line). Locates m j.args × Locates m j.results) well.locations line_in).0;
        results = (all_in (λ (j : Line). Locates m j.args × Locates m j.results) well.locations line_in).1;
        operand_seats = it.lines.regular.seated.operands i line_among;
        result_seats = it.lines.regular.seated.results i line_among;
        named = well.named i line_among;
        handlers = λ l among. pushed_stands m well l (pushed m reached l (in_of l tries among));
        spare = spare_passes m it.lines.regular.homes i line_in next tries;
      }

      -- a walk comes to what is after a frame point
      point_before : passes_frame i.op ≡ true → part_place (length next) < length s.image.code
      point_before point =
          subst (λ (t : Tables). part_place (length next) < length t.code) (sym same)
          (part_before (length next) (by_step reached (goes On (points_go_on i.op point))) (tail_next (stands_tail stands)) (omega arith))

      line_marked : (b : Bool) → passes_frame i.op ≡ b →
          AreMarked s (part_place (suc (length next))) (part_of_line (length tries) f (descr_of next) i) line_found.part.forms
      line_marked true point =
          let past = line_found.part.past in
          let before = point_before point in
          found_marked s (part_place (suc (length next))) (part_of_line (length tries) f (descr_of next) i) line_found.part.forms line_found.found
          (omega (arith, past, before))
      line_marked false none =
          let no_descr = no_descriptor ds m.code stands none in
          subst (λ d. AreMarked s (part_place (suc (length next))) (part_of_line (length tries) f d i) line_found.part.forms) (sym no_descr)
          (none_marked s (length tries) f i (part_place (suc (length next))) line_found.part.forms)

      point_described : passes_frame i.op ≡ true → Described m ds it.exact it.count i next tries
      point_described point = described m ds it.exact it.count i next tries stands point (by_walk reached)

      -- its descriptor is exact
      own_descr : (e : Descr) → descr_of next ≡ Some e → (passes_frame i.op ≡ true) × IsDescr m i next tries e
      own_descr e is = by (passes_frame i.op) refl
        where
          by : (b : Bool) → passes_frame i.op ≡ b → (passes_frame i.op ≡ true) × IsDescr m i next tries e
          by true point =
              let d = point_described point in
              (point, subst (IsDescr m i next tries) (same_Some d.of e (sym d.is ∙ is)) d.describes)
          by false none = absurd (none-some e (sym (no_descriptor ds m.code stands none) ∙ is))

      line_point : IsTurn i.op → PointStands s laid m c named (entry_place s.image) (length tries) f (descr_of next) i next line_found.part.forms
      unfolding laid
      line_point turn = record {
        entries = entries_stand;
        end = subst (λ (t : Tables). c.end ≡ data_start + length t.bytes) (sym same) of.end;
        marks = line_marked (passes_frame i.op) refl;
        mark = λ point. let d = point_described point in (d.of, d.is);
        saves = λ point. point_among _ _ m.code stands point;
        described = λ e is at.
            let own = own_descr e is in
            is_described m well named lives laid refl refl i next tries e at stands own.0 own.1;
        unnamed = λ e is whom result o. none_over_calls m well i next tries e whom result (own_descr e is).1 o;
        spared = λ point. spare_unnamed m named lives it.lines.spare_dead i next stands point;
        unwritten = λ t among. unwritten m it.lines.regular.homes i line_in t among;
        pushes = λ l o. subst (λ (t : Tables). part_place (length (after_label l m.code)) ≤ length t.code) (sym same) (part_within (length (after_label l m.code)));
      }

      line_at : LineAt s laid n m c named tries i next
      unfolding line_stands
      line_at = record { descr = descr_of next; stands = line_stands; point = line_point }

  -- ---- exits that have no words

  free_stands : (i : Line) (next : List Line) → StandsAsLine i next m.code → is_free_exit i.op next ≡ true → FreeStands laid m i next
  unfolding laid
  free_stands i next stands e =
      let exit = free_is_exit i.op next e in
      let after = falls_in m well stands exit.falls in
      record {
        label = exit.to;
        is = exit.is;
        place = ap (λ code. part_place (length code)) after ∙ free_place traps f ds m.code left start exit.to stands e exit.falls;
        tests = ap tests_first after ∙ falls_tests exit.falls;
      }

  -- ---- the whole

  place_is : entry_place image k ≡ place
  place_is = entry_is image file ps c of k ∙ index_is entries k place placed.entry

  first_part : part_place (length m.code) ≡ start
  first_part = place_first traps f ds m.code left start

  ends_within : part_place 0 + stub_words ≤ entry_place image k + length image.code
  ends_within =
      let within = part_within 0 in
      let behind = placed.stands.behind in
      let e = place_is in
      omega (arith, within, behind, e)

  pub function_stands : FunctionStands image m c named k
  unfolding laid
  function_stands =
      let small = it.lines.within.frame m.code [] (by_walk at_entry) in
      record {
        laid = laid;
        names = n;
        frame = sym (frame_at image k placed.row placed.row_is ∙ placed.stands.frame);
        small = omega (arith, small);
        rises = λ fewer more h. place_rises traps f ds m.code left start fewer more h;
        begins = let e = place_is in let first = first_part in omega (arith, e, first);
        ends = ends_within;
        entered = λ s e.
            subst (λ at. PartStands s n at (part_place (length m.code)) (entry_pieces f)) (sym place_is)
            (subst (λ to. PartStands s n place to (entry_pieces f)) (sym first_part) (entry_stands s e));
        line = line_at;
        free = free_stands;
      }
