-- What was made of a function of an accepted text is known whole.
use Rattle.std.proofs.Common.{◌≡◌, ℕ, ◌+◌, ◌*◌, ◌<◌, ◌≤◌, List, [], ◌∷◌, length, All, Option, refl, ap, ◌∙◌, subst, arith}
use Rattle.std.proofs.Math.Nat.{mul-le-mul_right, suc-mul}
use Rattle.choices.specs.declared.choices.Choices.{Choices}
use Rattle.choices.specs.declared.choices.Order.{Order}
use Rattle.cmm_tree.specs.Symbols.{DefinedSymbol}
use Rattle.cmm_tree.specs.Tree.{FunctionTree}
use Rattle.correctness.specs.Measures.{tries}
use Rattle.mach_ir.specs.Keeps as kept
use Rattle.mach_ir.specs.Walks as mach_walks
use Rattle.mach_ir.specs.declared.op.Access.TheVariants as access
use Rattle.mach_ir.specs.declared.op.Op.{Op}
use Rattle.mach_ir.specs.declared.op.Op.TheVariants as op
use Rattle.mach_ir.specs.declared.reg.Reg.{Reg}
use Rattle.mach_ir.specs.declared.mach.Mark.TheVariants as mark
use Rattle.mach_ir.specs.declared.mach.MachOp.{MachOp}
use Rattle.mach_ir.specs.declared.mach.MachOp.TheVariants as mach
use Rattle.mach_ir.specs.declared.mach.Instr.{Instr}
use Rattle.mach_ir.specs.declared.mach.Mach.{Mach}
use Rattle.lin_ir.specs.Descriptors.{FitsDescriptors, frame_bytes}
use Rattle.lin_ir.specs.Keeps.{IsNamedIn}
use Rattle.lin_ir.specs.Walks.{Traps, by_walk, unreached}
use Rattle.lin_ir.specs.declared.descr.Descr.{Descr}
use Rattle.lin_ir.specs.declared.lin.LinOp.{LinOp}
use Rattle.lin_ir.specs.declared.lin.LinOp.TheVariants as lin
use Rattle.lin_ir.specs.declared.lin.Line.{Line}
use Rattle.lin_ir.specs.declared.lin.Lin.{Lin}
use Rattle.lin_ir.proofs.Keeping.{keeps_then}
use Rattle.pass_rules.specs.Measures.{exit_count}
use Rattle.pass_rules.specs.Carried.{OffsetFits}
use Rattle.linearise_rules.specs.Lowered.{slot_number, lowered}
use Rattle.linearise_rules.specs.Sizes.{tries_ended}
use Rattle.linearise_rules.proofs.Homes.{IsIn, in_of, contains_of}
use Rattle.linearise_rules.proofs.Lines.{all_of, named_from}
use Rattle.linearise_rules.proofs.Marks.{all_in}
use Rattle.lin_tidy_rules.specs.Redirecting.{Tidies}
use Rattle.lin_tidy_rules.proofs.Following.{tidied_tidies}
use Rattle.lin_tidy_rules.specs.Regular.{IsRegular}
use Rattle.lin_tidy_rules.proofs.Lowered.{lowered_regular}
use Rattle.made_functions.specs.Known.{IsLinearOf}
use Rattle.made_functions.proofs.Known.{all_homes}
use Rattle.line_stands.specs.Lines as line
use Rattle.rv_pieces.specs.declared.piece.Pieces.{Pieces}
use Rattle.selection_rules.specs.Select.{selected}
use Rattle.placed_functions.specs.Known.{IsAccepted}
use Rattle.placed_functions.proofs.Known.{few_tokens}
use Rattle.placed_functions.specs.Placed.{IsPlacedFor}
use Rattle.placed_functions.proofs.Exits.{selected_exits}
use Rattle.placed_functions.proofs.Placed.{placed_for}
use Rattle.placed_functions.proofs.Tries.{few_nest}
use Rattle.made_functions.specs.Chained.{AreLinesOf, IsChained}
use Rattle.made_functions.specs.Made.{IsMadeOf, in_order}
use Rattle.mach_laws.proofs.Instructions.{instr}
use Rattle.chained_functions.proofs.Carried.{lowered_shallow, tidied_shallow, tidied_named, lowered_unended, tidied_unended}
use Rattle.chained_functions.proofs.Ordered.{frame_in_order, traps_in_order, lines_in_order}

-- ---- how many lines

-- an exit ends at most so many tries
pub ended_few : (k : ℕ) (code : List Instr) → ((i : Instr) (next : List Instr) → mach_walks.StandsAsInstr i next code → (l n : ℕ) → i.op ≡ mach.Mark (mark.Exit l n) → n ≤ k) → tries_ended code ≤ exit_count code * k
ended_few k [] h = omega arith
ended_few k (i ∷ is) h = by i.op i.args i.results (λ l n e. h i is mach_walks.here l n e) (ended_few k is (λ j next s l n e. h j next (mach_walks.below s) l n e))
  where
    by : (f : MachOp) (args results : List Reg) → ((l n : ℕ) → f ≡ mach.Mark (mark.Exit l n) → n ≤ k) → tries_ended is ≤ exit_count is * k → tries_ended (instr f args results ∷ is) ≤ exit_count (instr f args results ∷ is) * k
    by (mach.Op f) args results own ih = omega (arith, ih)
    by (mach.Mark (mark.Exit l n)) args results own ih = let le = own l n refl in let e = suc-mul (exit_count is) k in omega (arith, ih, le, e)
    by (mach.Mark (mark.If t l)) args results own ih = omega (arith, ih)
    by (mach.Mark (mark.Else l end)) args results own ih = omega (arith, ih)
    by (mach.Mark (mark.Switch ls)) args results own ih = omega (arith, ih)
    by (mach.Mark (mark.Case ns l end)) args results own ih = omega (arith, ih)
    by (mach.Mark mark.Catch) args results own ih = omega (arith, ih)
    by (mach.Mark (mark.With l end)) args results own ih = omega (arith, ih)
    by (mach.Mark (mark.Try l)) args results own ih = omega (arith, ih)
    by (mach.Mark (mark.Leave l end)) args results own ih = omega (arith, ih)
    by (mach.Mark (mark.Handler l)) args results own ih = omega (arith, ih)
    by (mach.Mark (mark.End l)) args results own ih = omega (arith, ih)

few_product : (n k : ℕ) → n ≤ 64000 → k ≤ 32000 → n * k ≤ 2048000000
few_product n k one two =
    let a : n * k ≤ 64000 * k = mul-le-mul_right k one in
    omega (arith, a, two)

-- ---- offsets

-- the offset of a line is that of its operation
offset_of_line : (f : LinOp) → ((g : Op) → f ≡ lin.Op g → OffsetFits (mach.Op g)) → line.OffsetFits f
offset_of_line (lin.Op (op.Access (access.Load k offset))) h = h (op.Access (access.Load k offset)) refl
offset_of_line (lin.Op (op.Access (access.Store k offset))) h = h (op.Access (access.Store k offset)) refl
offset_of_line (lin.Op (op.Access (access.Alloc blocks))) h = tt
offset_of_line (lin.Op (op.Pure f)) h = tt
offset_of_line (lin.Op (op.Calling f)) h = tt
offset_of_line (lin.Op (op.Leaving f)) h = tt
offset_of_line (lin.Flow f) h = tt

-- ---- whole

module _ {defined : List ℕ → Option DefinedSymbol} {tree : FunctionTree} (accepted : IsAccepted defined tree) {q : Mach} (is : IsPlacedFor tree q) {m : Lin}
    (linear : IsLinearOf q m) where
  -- the lowered function
  first : IsRegular (lowered q)
  first = lowered_regular q is.formed is.placed is.seated

  tidies : Tidies (lowered q) m
  tidies = tidied_tidies first linear.made

  -- No more traps are pushed at a place than tries are round one of the text.
  depth : (code : List Line) (traps : List ℕ) → Traps m code traps → length traps ≤ tries tree
  depth code traps (by_walk r) = tidied_shallow (tries tree) first tidies (lowered_shallow q is.formed is.placed (tries tree) is.tries) code traps r
  depth code traps (unreached out) = omega arith

  offsets_fit : All (λ (i : Line). line.OffsetFits i.op) m.code
  offsets_fit = all_of (λ (i : Line). line.OffsetFits i.op) m.code (λ j z. offset_of_line j.op (λ g e. fits j z g e))
    where
      fits : (j : Line) → IsIn j m.code → (g : Op) → j.op ≡ lin.Op g → OffsetFits (mach.Op g)
      fits j z g e =
          let here : IsNamedIn (λ f. f ≡ mach.Op g) m = record { line = j; among = contains_of z; op = g; is = e; named = refl } in
          let was : kept.IsNamedIn (λ f. f ≡ mach.Op g) q =
          named_from (slot_number q) (λ f. f ≡ mach.Op g) q (lowered q) refl (tidied_named (λ f. f ≡ mach.Op g) first tidies here) in
          subst OffsetFits was.named
          (all_in (λ (i : Instr). OffsetFits i.op) is.offsets (in_of was.instr q.code was.among))

  lines_few : length m.code < 4294967296
  lines_few =
      let own : (i : Instr) (next : List Instr) → mach_walks.StandsAsInstr i next q.code → (l n : ℕ) → i.op ≡ mach.Mark (mark.Exit l n) → n ≤ tries tree =
      λ i next s l n e. let ended = (is.formed).nested.at_exit i next s l n e in let le = is.tries i next s in omega (arith, ended, le) in
      let ended = ended_few (tries tree) q.code own in
      let tokens = few_tokens tree accepted.checked.limits_kept in
      let cover = accepted.covered.tokens_cover in
      let rarely = selected_exits tree in
      let same = is.exits in
      let nest = few_nest tree.body in
      let product = few_product (exit_count q.code) (tries tree) (omega (arith, same, rarely, cover, tokens)) (omega (arith, nest, cover, tokens)) in
      let lines = linear.lines in
      let instrs = is.instrs in
      omega (arith, lines, ended, product, instrs, tokens)

  -- What descriptors ask of a Linear function, whose frame and traps fit.
  within : frame_bytes m + 16 * tries tree ≤ 1048576 → FitsDescriptors m
  within fit =
      record {
        lines = lines_few;
        frame = λ code traps at. let le = depth code traps at in omega (arith, fit, le);
      }

  -- What is known of its lines.
  lines : frame_bytes m + 16 * tries tree ≤ 1048576 → AreLinesOf tree m
  lines fit =
      record {
        keeps = λ named exact. keeps_then (selected tree) q m named is.keeps (linear.keeps is.no_addr named exact);
        regular = linear.regular;
        tidy = linear.tidy;
        tight = linear.tight;
        no_addr = linear.no_addr is.no_addr;
        spare_dead = linear.spare_dead;
        within = within fit;
        offsets = offsets_fit;
        unended = tidied_unended first tidies (lowered_unended q first is.ends);
      }

-- ---- in the order that is chosen

module _ {defined : List ℕ → Option DefinedSymbol} {tree : FunctionTree} (accepted : IsAccepted defined tree) {q : Mach} (is : IsPlacedFor tree q) {l : Lin}
    (linear : IsLinearOf q l) (chosen : Order) {m : Lin} (same : m ≡ in_order chosen l) where
  -- As few traps are pushed at a place.
  pub ordered_depth : (code : List Line) (traps : List ℕ) → Traps m code traps → length traps ≤ tries tree
  ordered_depth code traps at =
      let was = traps_in_order chosen l (subst (λ (m : Lin). Traps m code traps) same at) in
      depth accepted is linear was.0 traps was.1

  -- As much is known of the lines.
  pub ordered_lines : frame_bytes m + 16 * tries tree ≤ 1048576 → AreLinesOf tree m
  ordered_lines fit =
      let frame = ap frame_bytes same ∙ frame_in_order chosen l in
      lines_in_order chosen same tree q is.keeps linear.reached (lines accepted is linear (omega (arith, fit, frame)))

-- Lines of which all is known, with what is made of them.
whole : {choices : Choices} {tree : FunctionTree} {m : Lin} {ds : List Descr} {pieces : Pieces} → AreLinesOf tree m → (made : IsMadeOf choices tree m ds pieces) →
    IsChained tree m ds pieces
whole {m = m} {ds = ds} lines made =
    record {
      lines = lines;
      exact = made.exact;
      count = made.count;
      homes = all_homes m lines.regular.homes ds made.exact;
      emitted = made.emitted;
    }

-- What was made of a function of an accepted text is known whole, where its frame and its traps fit.
pub chained : {choices : Choices} {defined : List ℕ → Option DefinedSymbol} {tree : FunctionTree} {m : Lin} {ds : List Descr} {pieces : Pieces} → IsAccepted defined tree →
    IsMadeOf choices tree m ds pieces →
    frame_bytes m + 16 * tries tree ≤ 1048576 → IsChained tree m ds pieces
chained {choices} accepted made fit =
    whole (ordered_lines accepted (placed_for accepted made.is_prepared made.allocated) made.linear choices.order made.ordered fit) made
