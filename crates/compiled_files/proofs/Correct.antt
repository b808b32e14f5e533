-- The image of an accepted file, whose functions were compiled, is correct for it, and asks for allocations only in need.
use Rattle.std.proofs.Common.{◌≡◌, ◌⊎◌, inl, inr, ℕ, zero, suc, ◌+◌, ◌-◌, ◌≤◌, Bool, true, false, cond, List, [], ◌∷◌, Option, Some, None, length, refl, sym, ◌∙◌, subst, arith}
use Rattle.std.specs.Prelude.{slice_get, slice_index}
use Rattle.bs_words.specs.Fits.{data_start}
use Rattle.bs_words.specs.Memory.{Memory}
use Rattle.bs_words.specs.declared.types.Comp.TheVariants as comp
use Rattle.bs_words.specs.declared.types.Loc.TheVariants as loc
use Rattle.bs_words.specs.declared.types.Ret.TheVariants as ret
use Rattle.bs_words.specs.declared.values.Value.{Value}
use Rattle.cmm_data.specs.Placement.{data_end}
use Rattle.cmm_front.specs.FileOf.{IsFileOf}
use Rattle.cmm_lex.proofs.Languages.{AreBytes}
use Rattle.cmm_meaning.specs.Setting.{Setting}
use Rattle.cmm_tree.specs.Tree.{FileTree, FunctionTree, functions}
use Rattle.correctness.specs.Correct.{IsCorrect}
use Rattle.correctness.specs.InNeed.{AsksInNeed}
use Rattle.correctness.specs.Setting.{layout_of}
use Rattle.image_form.specs.Image.{AreTables}
use Rattle.image_form.specs.Tables.{Tables}
use Rattle.rv_layout_rules.specs.Conditions.{CanBeLaid}
use Rattle.rv_layout_rules.specs.Laid.{IsLaid}
use Rattle.lin_ir.specs.Descriptors.{NamesLives}
use Rattle.lin_ir.specs.Formed.{GoesDown, WellFormed}
use Rattle.lin_ir.specs.Keeps.{LinearKeeps}
use Rattle.lin_ir.specs.Meaning.{Locations, NamedAt, State, put_all, linear_start, step}
use Rattle.lin_ir.specs.Walks.{Reached}
use Rattle.lin_ir.specs.declared.descr.Descr.{Descr}
use Rattle.lin_ir.specs.declared.lin.Lin.{Lin}
use Rattle.lin_ir.specs.declared.lin.Line.{Line}
use Rattle.lin_ir.specs.declared.lin.Spot.{Spot}
use Rattle.linearise_rules.proofs.Walked.{Tail, reached_tail, tail_stands}
use Rattle.function_stands.specs.Known.{IsChained, frame_in, IsReadyFor, before_service}
use Rattle.mach_ir.specs.Acts.{Around}
use Rattle.mach_ir.specs.Runs.{ActivationSetting}
use Rattle.moving_laws.specs.Values.{HasFunctions}
use Rattle.rv_pieces.specs.declared.piece.Pieces.{Pieces}
use Rattle.selection_rules.specs.Select.{selected}
use Rattle.line_stands.specs.Lines.{Nowhere}
use Rattle.line_stands.specs.Parts.{PartStands}
use Rattle.function_stands.proofs.Known.{every_branch, every_entry, every_line, has_functions}
use Rattle.rv_emit_rules.specs.Entry.{entry_pieces, frame_of}
use Rattle.rv_emit_rules.specs.Units.{is_branch, is_free_exit, owed_before}
use Rattle.lin_machine.specs.Arrival.{ArrivesIn}
use Rattle.lin_machine.specs.Follows.{IsAt, IsEntered, needs_of, used}
use Rattle.lin_machine.specs.Relation.{Below, Laid}
use Rattle.lin_machine.specs.View.{Fixed, View}
use Rattle.linking.specs.Assembled.{Setup}
use Rattle.linking.specs.Pace.{IsReached, Words, at_start, by_step}
use Rattle.linking.specs.Program.{activation_in, setting_in}
use Rattle.linking_machine.specs.Compiled.{IsCompiled}
use Rattle.linking_machine.specs.Emitted.{BeginsFree, FollowsLine, IsImageEmitted}
use Rattle.linking_machine.specs.Standing.{fixed_of}
use Rattle.linking_machine.proofs.Compiled.{bases_hold, compiled_correct, compiled_in_need}
use Rattle.linking_machine.specs.Known.{linear_program}
use Rattle.function_stands.specs.Compiled.{IsImageOfPieces}
use Rattle.function_stands.specs.Functions.{FunctionStands, entry_place}
use Rattle.function_stands.proofs.Acting.{some_word}
use Rattle.function_stands.proofs.Entries.{entry_offset}
use Rattle.function_stands.proofs.Whole.{function_stands}
use Rattle.first_statics.proofs.Known.{given_data}
use Rattle.first_statics.proofs.First.{data_ends, first_lies, first_stands}
use Rattle.frame_tables_rules.specs.Names.{locations_named_by}
use Rattle.frame_tables_rules.proofs.Names.{exact_names}
use Rattle.compiled_files.specs.Forward.{LiesForward, first_part, laid_words}
use Rattle.compiled_files.specs.Image.{function_word_count}
use Rattle.compiled_files.specs.Stages.{AreChained, most_nodes, selected_in}
use Rattle.compiled_files.proofs.Bytes.{bytes_small}
use Rattle.compiled_files.proofs.Forward.{forward}
use Rattle.compiled_files.proofs.Ready.{ready}
use Rattle.compiled_files.proofs.Rows.{few, no_frame, rows, words_fit}
use Rattle.compiled_files.proofs.Serving.{served}
use Rattle.compiled_files.proofs.Stages.{holds, lowered_so, selected_so}
use Rattle.compiled_files.proofs.Stub.{stub_so}

-- ---- past the last function

-- No value fits its parameter, so that it never begins.
abbrev unfit : Spot
unfit = record { loc = loc.Machine 10; comp = comp.Float }

abbrev no_lines : Lin
no_lines = record { name = []; params = unfit ∷ []; result = ret.Unit; slots = 0; code = [] }

never_put : (end : ℕ) (arguments : List Value) (f : Locations) → put_all end (unfit ∷ []) arguments f ≡ None
never_put end [] f = refl
never_put end (v ∷ []) f = refl
never_put end (v ∷ w ∷ vs) f = refl

never_begins : (c : ActivationSetting) (arguments : List Value) (memory : Memory) (u : State) → linear_start c no_lines arguments memory ≡ Some u → ⊥
never_begins c [] memory u e = absurd (cc)
never_begins c (v ∷ []) memory u e = absurd (cc)
never_begins c (v ∷ w ∷ vs) memory u e = absurd (cc)

abbrev nowhere_laid : ℕ → Laid
nowhere_laid at = record {
  part = λ n. at;
  frame = 0;
  saves = false;
  slots = 0;
  handler = λ l. 0;
  even = refl;
  room = omega arith;
}

no_tail : {i : Line} {next : List Line} → Tail (i ∷ next) [] → ⊥
no_tail t = elim t [ ]

no_lines_down : GoesDown no_lines
no_lines_down = record {
  order = λ k. k;
  labels = λ i next tries reached. absurd (no_tail (reached_tail no_lines reached));
  steps = λ i next to tries left reached. absurd (no_tail (reached_tail no_lines reached));
  raises = λ i next to tries left reached. absurd (no_tail (reached_tail no_lines reached));
}

no_lines_lie : (at words : ℕ) → LiesForward no_lines (nowhere_laid at) at words
no_lines_lie at words = record {
  down = no_lines_down;
  rises = λ fewer more h. omega arith;
  begins = omega arith;
  ends = omega arith;
}

past_end : (fs : List FunctionTree) (f : ℕ) → slice_get fs f ≡ None → length fs ≤ f
past_end [] f e = omega arith
past_end (g ∷ fs) zero e = absurd (cc)
past_end (g ∷ fs) (suc f) e = let h = past_end fs f e in omega (arith, h)

-- what is owed before a line, by whether it is a branch
abbrev owed_if : Bool → ℕ
owed_if t = cond t 1 0

owes_or : {X : Type 0} (t : Bool) → (t ≡ true → X) → (owed_if t ≡ 0) ⊎ X
owes_or true x = inr (x refl)
owes_or false x = inl refl

-- ---- where a run begins

record HasBegun (m : Lin) : Type 0 where
  place : ActivationSetting
  arguments : List Value
  memory : Memory
  state : State
  begins : linear_start place m arguments memory ≡ Some state

has_begun : (lins : ℕ → Lin) (named : ℕ → NamedAt) (f : ℕ) (c : ActivationSetting) {u : State} → IsReached State (linear_program lins named) f c u → HasBegun (lins f)
has_begun lins named f c (at_start {arguments = arguments} {memory = memory} {s = s} e) =
    record { place = c; arguments = arguments; memory = memory; state = s; begins = e }
has_begun lins named f c (by_step r l) = has_begun lins named f c r

-- ---- the whole

module _ (text : List ℕ) (file : FileTree) (is : IsFileOf text file) (bytes : AreBytes text) (image : Tables) (ps : List Pieces)
    (can : CanBeLaid file ps) (laid_out : IsLaid file ps image) (tables : AreTables image)
    (chained : AreChained file ps) where
  abbrev setting : Setting
  setting = setting_in file

  end : data_end file ≡ data_start + length image.bytes
  end = data_ends file ps image laid_out

  image_of : IsImageOfPieces image file ps setting
  image_of = record { can = can; laid = laid_out; short = tables.code.short; symbols = λ name. refl; end = end }

  has : HasFunctions image
  has = has_functions file ps image laid_out can tables

  abbrev entry_at : ℕ → ℕ
  entry_at f = entry_place image f

  abbrev words : ℕ
  words = function_word_count image

  -- ---- each function

  data Function (f : ℕ) : Type 0 where
    of_file : (tree : FunctionTree) → slice_get (functions file) f ≡ Some tree → (m : Lin) (ds : List Descr) (p : Pieces) → IsChained tree m ds p →
        (named : NamedAt) → NamesLives m named → FunctionStands image m setting named f → Function f
    past : length (functions file) ≤ f → slice_get (functions file) f ≡ None → Function f

  functions_are : (f : ℕ) → Function f
  functions_are f = by (slice_get (functions file) f) refl
    where
      by : (o : Option FunctionTree) → slice_get (functions file) f ≡ o → Function f
      by (Some tree) there =
          let it = chained f tree there in
          let named = locations_named_by it.descrs it.lin in
          let names = exact_names it.chained.lines.regular it.chained.exact in
          of_file tree there it.lin it.descrs it.pieces it.chained named names
          (function_stands image file ps setting f tree it.lin it.descrs it.pieces named image_of it.there it.chained names has)
      by None none = past (past_end (functions file) f none) none

  abbrev lin_of : {f : ℕ} → Function f → Lin
  lin_of (of_file tree there m ds p c named names stands) = m
  lin_of (past long none) = no_lines

  abbrev named_of : {f : ℕ} → Function f → NamedAt
  named_of (of_file tree there m ds p c named names stands) = named
  named_of (past long none) = λ n. []

  abbrev laid_of : {f : ℕ} → Function f → Laid
  laid_of (of_file tree there m ds p c named names stands) = stands.laid
  laid_of {f} (past long none) = nowhere_laid (entry_at f)

  abbrev lins : ℕ → Lin
  lins f = lin_of (functions_are f)

  abbrev named_in : ℕ → NamedAt
  named_in f = named_of (functions_are f)

  abbrev laid_in : ℕ → Laid
  laid_in f = laid_of (functions_are f)

  frame_is : (f : ℕ) (x : Function f) → (laid_of x).frame ≡ slice_index (layout_of image).frames f
  frame_is f (of_file tree there m ds p c named names stands) = stands.frame
  frame_is f (past long none) =
      let many = can.each_one in
      sym (no_frame file image ps can laid_out f (omega (arith, many, long)))

  lies : (f : ℕ) (x : Function f) → LiesForward (lin_of x) (laid_of x) (entry_at f) words
  lies f (of_file tree there m ds p c named names stands) =
      let e = stands.ends in
      record {
        down = c.lines.regular.down;
        rises = stands.rises;
        begins = stands.begins;
        ends = omega (arith, e);
      }
  lies f (past long none) = no_lines_lie (entry_at f) words

  keeps : (f : ℕ) (x : Function f) (tree : FunctionTree) → slice_get (functions file) f ≡ Some tree → LinearKeeps (selected tree) (lin_of x) (named_of x)
  keeps f (of_file of there m ds p c named names stands) tree e =
      let both : Some of ≡ Some tree = sym there ∙ e in
      let same : of ≡ tree = cc in
      subst (λ (t : FunctionTree). LinearKeeps (selected t) m named) same (c.lines.keeps named names)
  keeps f (past long none) tree e = absurd (let both : None ≡ Some tree = sym none ∙ e in cc)

  formed : (f : ℕ) (x : Function f) → HasBegun (lin_of x) → WellFormed (lin_of x)
  formed f (of_file tree there m ds p c named names stands) begun = c.lines.regular.well
  formed f (past long none) begun = absurd (never_begins begun.place begun.arguments begun.memory begun.state begun.begins)

  -- ---- its lines and its entry

  module _ (run : Setup) (f below : ℕ) (c : Below) (v : View) where
    abbrev s : Fixed
    s = fixed_of image has bases_hold run

    abbrev place : ActivationSetting
    place = activation_in file (layout_of image) f below

    line_at : (x : Function f) (rest : List Line) (held : Locations) (a : Around) → Reached (lin_of x) rest a.tries →
        ((i : Line) (next : List Line) → rest ≡ i ∷ next → IsReadyFor i a) →
        IsAt s (laid_of x) Nowhere c (record { rest = rest; file = held; around = a }) v →
        FollowsLine (owed_before rest) (first_part (laid_of x) rest) s (laid_of x) Nowhere entry_at c v
        (used (laid_of x) (record { rest = rest; file = held; around = a }))
        (step place (named_of x) (lin_of x) (record { rest = rest; file = held; around = a }))
        ⊎ BeginsFree (laid_of x) (lin_of x) Nowhere rest
    line_at x [] held a reached finds at = inl (record { words = 0; few = omega arith; so = record { follows = tt; calls = tt }; takes = inl refl })
    line_at (past long none) (i ∷ next) held a reached finds at = absurd (no_tail (reached_tail no_lines reached))
    line_at (of_file tree there m ds p ch named names stands) (i ∷ next) held a reached finds at = by_free (is_free_exit i.op next) refl
      where
        by_free : (t : Bool) → is_free_exit i.op next ≡ t →
            FollowsLine (owed_before (i ∷ next)) (first_part stands.laid (i ∷ next)) s stands.laid Nowhere entry_at c v
            (used stands.laid (record { rest = i ∷ next; file = held; around = a }))
            (step place named m (record { rest = i ∷ next; file = held; around = a }))
            ⊎ BeginsFree stands.laid m Nowhere (i ∷ next)
        by_free true e = inr (record {
          line = i;
          next = next;
          is = refl;
          free = stands.free i next (tail_stands (reached_tail m reached)) e;
          passes = λ none. absurd none;
        })
        by_free false e =
            let laid : Laid = stands.laid in
            let it = stands.line s refl i next a.tries (tail_stands (reached_tail m reached)) reached e in
            let up = stands.rises (length next) (suc (length next)) (omega arith) in
            let k = laid.part (length next) - laid.part (suc (length next)) in
            let behind : laid.part (length next) ≡ laid.part (suc (length next)) + k = omega (arith, up) in
            inl (record {
              words = before_service i.op k;
              few = served place named m i next held a k
                  (λ acts.
                  let some = some_word s laid stands.names m setting Nowhere a.tries (frame_of m) it.descr i next it.stands acts in
                  omega (arith, behind, some));
              so = every_line Nowhere s stands.names laid entry_at c place named m (frame_of m) it.descr i next v held a k it.stands it.point
                  (finds i next refl) behind at;
              takes = owes_or (is_branch i.op)
                  (λ b. every_branch Nowhere s stands.names laid c place named m (frame_of m) it.descr i next v held a k b it.stands (finds i next refl)
                  behind at);
            })

    entry_follows : (x : Function f) (arguments : List Value) (memory : Memory) (u : State) → linear_start place (lin_of x) arguments memory ≡ Some u →
        IsEntered s entry_at f arguments memory c v →
        ArrivesIn 0 ((laid_of x).part (length (lin_of x).code) - entry_at f) s (needs_of (laid_of x) c u) v (IsAt s (laid_of x) Nowhere c u)
    entry_follows (past long none) arguments memory u e entered = absurd (never_begins place arguments memory u e)
    entry_follows (of_file tree there m ds p ch named names stands) arguments memory u e entered =
        let laid : Laid = stands.laid in
        let low = stands.begins in
        let k = laid.part (length m.code) - entry_at f in
        let behind : laid.part (length m.code) ≡ entry_at f + k = omega (arith, low) in
        every_entry Nowhere s stands.names laid entry_at f c place m v arguments memory k stands.small
        (subst (λ (to : ℕ). PartStands s stands.names (entry_at f) to (entry_pieces (frame_in laid))) behind (stands.entered s refl)) behind
        ch.lines.regular.seated.params entered u e

  -- ---- and all

  abbrev paced : Words State
  paced = laid_words lins laid_in entry_at (λ f. (lies f (functions_are f)).down.order)

  emitted : IsImageEmitted file image lins named_in paced laid_in entry_at (λ f. Nowhere) has bases_hold
  emitted = record {
    frames = λ f. frame_is f (functions_are f);
    owed = λ f u. refl;
    lines = λ run f below c v u reached walk low at.
        line_at run f below c v (functions_are f) u.rest u.file u.around walk
        (λ i next e. ready lins named_in f (activation_in file (layout_of image) f below)
        (formed f (functions_are f) (has_begun lins named_in f (activation_in file (layout_of image) f below) reached)) u i next reached e) at;
    begins = λ run f below c v arguments memory u e low entered. entry_follows run f below c v (functions_are f) arguments memory u e entered;
    entries = record {
      places = entry_offset image file ps setting image_of;
      few = λ f tree there. few file image ps can laid_out f tree there;
      bytes = bytes_small file image ps laid_out;
      statics = λ stack heap s h. first_stands file ps image laid_out tables.code.short can.each_one can.of_file (given_data text file is bytes) stack heap;
      lies = first_lies file ps image laid_out;
    };
    stub = λ run f row. stub_so file image ps has bases_hold laid_in entry_at (λ f. Nowhere) laid_out end run f row;
  }

  compiled : IsCompiled file image (selected_in file) lins named_in paced (most_nodes (functions file)) words laid_in entry_at has bases_hold
  compiled = record {
    rows = rows file image ps can laid_out;
    words_fit = words_fit file image ps can laid_out;
    holds = holds text file is bytes;
    selected = selected_so text file is (layout_of image);
    lowered = lowered_so file lins named_in (λ f tree there. keeps f (functions_are f) tree there);
    forward = forward lins named_in laid_in entry_at words (λ f. lies f (functions_are f));
    emitted = emitted;
  }

  -- The image is correct for the file.
  pub correct : IsCorrect file image
  correct = compiled_correct file image (selected_in file) lins named_in paced (most_nodes (functions file)) words laid_in entry_at has bases_hold compiled

  -- It asks for allocations only in need.
  pub in_need : AsksInNeed file image
  in_need = compiled_in_need file image (selected_in file) lins named_in paced (most_nodes (functions file)) words laid_in entry_at has bases_hold compiled
