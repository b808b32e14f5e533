-- What layout asks of the pieces of a function, of one that is known as chained functions are.
use Rattle.std.proofs.Common.{◌≡◌, ℕ, zero, suc, ◌+◌, ◌*◌, ◌/◌, ◌<◌, ◌≤◌, Bool, true, false, cond, ◌||◌, List, [], ◌∷◌, length, refl, sym, ap, ◌∙◌, subst, inl, inr, arith}
use Rattle.std.specs.Prelude.{All, AllPairs, Contains, count_by, slice_index_or}
use Rattle.std.specs.List.{AllByRecursion}
use Rattle.std.proofs.lemmas.List.Sums.{sum_by-cons}
use Rattle.std.proofs.lemmas.List.Elements.{Contains-append_right, recursion_from_All}
use Rattle.bs_words.specs.declared.types.Loc.{Loc}
use Rattle.rv_emit_rules.specs.Emitted.{part_before, parts_of_lines, descriptor, left_after, emitted}
use Rattle.rv_emit_rules.specs.Entry.{FrameLayout, frame_of, entry_pieces}
use Rattle.rv_emit_rules.specs.Sizes.{least_words, words_at_least}
use Rattle.rv_emit_rules.specs.Units.{is_free_exit}
use Rattle.rv_emit_rules.proofs.Acts.{ActsAt, part_acts, falls_act}
use Rattle.rv_emit_rules.proofs.Units.{free_is_exit, part_unless_free}
use Rattle.image_form.specs.Image.{First, EachNext, IsEntry, IsNextEntry}
use Rattle.rv_layout_rules.specs.Conditions.{IsDescriptor}
use Rattle.lin_ir.specs.Descriptors.{AreExact, ComesBefore, Describes, FitsDescriptors, frame_bytes, has_frame_point, of_register, of_slot, register_first, rising}
use Rattle.lin_ir.specs.Descriptors as descriptors
use Rattle.lin_ir.specs.Formed.{IsHome, is_colour, is_slot}
use Rattle.lin_ir.specs.Meaning.{passes_frame}
use Rattle.lin_ir.specs.Walks.{targets, Reached, at_entry, by_step, goes, StandsAsLine, here, below}
use Rattle.lin_ir.specs.declared.descr.Descr.{Descr}
use Rattle.lin_ir.specs.declared.lin.Flow.TheVariants as flow
use Rattle.lin_ir.specs.declared.lin.Lin.{Lin}
use Rattle.lin_ir.specs.declared.lin.Line.{Line}
use Rattle.lin_ir.specs.declared.lin.LinOp.{LinOp}
use Rattle.lin_ir.specs.declared.lin.LinOp.TheVariants as lin
use Rattle.made_functions.specs.Known.{NamesHomes}
use Rattle.lin_tidy_rules.proofs.Living.{live_home}
use Rattle.mach_ir.specs.Acts.{On}
use Rattle.mach_ir.specs.Placed.{colour_numbers}
use Rattle.mach_ir.specs.Walks.{OneOf, this}
use Rattle.mach_ir.specs.declared.op.Op.TheVariants as op
use Rattle.mach_ir.specs.declared.op.Pure.TheVariants as pure
use Rattle.rv_pieces.specs.Named.{has_words}
use Rattle.rv_pieces.specs.declared.piece.Piece.{Piece}
use Rattle.rv_pieces.specs.declared.piece.Piece.TheVariants as piece
use Rattle.lin_tidy_rules.specs.Regular.{IsRegular}
use Rattle.laid_files.proofs.Marks.{words_both}

-- ---- some instruction

one_counts : (p : Piece) → least_words p ≡ cond (has_words p) 1 0
one_counts (piece.Known j) = refl
one_counts (piece.Label l) = refl
one_counts (piece.Branch c a b l) = refl
one_counts (piece.Jump l) = refl
one_counts (piece.Row l) = refl
one_counts (piece.LabelAddress r l) = refl
one_counts (piece.Call name) = refl
one_counts (piece.TailCall name) = refl
one_counts (piece.SymbolAddress r name) = refl
one_counts (piece.ExternalNumber r row) = refl
one_counts (piece.Descriptor d) = refl

pub words_count : (ps : List Piece) → words_at_least ps ≡ count_by has_words ps
words_count [] = refl
words_count (p ∷ ps) = omega (arith, one_counts p, words_count ps, sum_by-cons (λ (q : Piece). cond (has_words q) 1 0) p ps)

module _ (m : Lin) (unended : (tries : List ℕ) → Reached m [] tries → ⊥) (traps : ℕ → ℕ) (f : FrameLayout) where
  -- a line that has no instruction of its own goes on to the next one
  later_acts : (i : Line) (next : List Line) (ds : List Descr) → ((ds : List Descr) → 1 ≤ words_at_least (parts_of_lines traps f ds next)) → 1 ≤ words_at_least (parts_of_lines traps f ds (i ∷ next))
  later_acts i next ds later =
      let more = later (left_after (passes_frame i.op) ds) in
      omega (arith, more, words_both (part_before (traps (length next)) f (descriptor (passes_frame i.op) ds) i next) (parts_of_lines traps f (left_after (passes_frame i.op) ds) next))

  here_acts : (i : Line) (next : List Line) (ds : List Descr) → is_free_exit i.op next ≡ false → ActsAt i.op i.args i.results →
      1 ≤ words_at_least (parts_of_lines traps f ds (i ∷ next))
  here_acts i next ds unless acts =
      let t = traps (length next) in
      let d = descriptor (passes_frame i.op) ds in
      let own = part_acts t f d i.op i.args i.results acts in
      let same = ap words_at_least (part_unless_free t f d i next unless) in
      omega (arith, own, same, words_both (part_before t f d i next) (parts_of_lines traps f (left_after (passes_frame i.op) ds) next))

  -- an exit has one, or the branch to which it goes
  exit_acts : (i : Line) (next : List Line) (ds : List Descr) → ActsAt i.op i.args i.results → 1 ≤ words_at_least (parts_of_lines traps f ds (i ∷ next))
  exit_acts i next ds acts = by (is_free_exit i.op next) refl
    where
      by : (b : Bool) → is_free_exit i.op next ≡ b → 1 ≤ words_at_least (parts_of_lines traps f ds (i ∷ next))
      by true e = let exit = free_is_exit i.op next e in later_acts i next ds (λ ds. falls_act traps f ds exit.to next exit.falls)
      by false e = here_acts i next ds e acts

  by_op : (g : LinOp) (i : Line) (next : List Line) (tries : List ℕ) (ds : List Descr) → i.op ≡ g → Reached m (i ∷ next) tries →
      ((left : List ℕ) → Reached m next left → (ds : List Descr) → 1 ≤ words_at_least (parts_of_lines traps f ds next)) → 1 ≤ words_at_least (parts_of_lines traps f ds (i ∷ next))
  by_op (lin.Flow (flow.Label l)) i next tries ds e r later = later_acts i next ds (later _ (by_step r (goes On (subst (λ g. OneOf On (targets g)) (sym e) this))))
  by_op (lin.Flow flow.EnterTrap) i next tries ds e r later = later_acts i next ds (later _ (by_step r (goes On (subst (λ g. OneOf On (targets g)) (sym e) this))))
  by_op (lin.Op (op.Pure (pure.Copy kind))) i next tries ds e r later = later_acts i next ds (later _ (by_step r (goes On (subst (λ g. OneOf On (targets g)) (sym e) this))))
  by_op (lin.Flow (flow.Exit l)) i next tries ds e r later = exit_acts i next ds (subst (λ g. ActsAt g i.args i.results) (sym e) tt)
  by_op _ i next tries ds e r later =
      here_acts i next ds (subst (λ g. is_free_exit g next ≡ false) (sym e) refl) (subst (λ g. ActsAt g i.args i.results) (sym e) tt)

  acts_from : (code : List Line) (tries : List ℕ) → Reached m code tries → (ds : List Descr) → 1 ≤ words_at_least (parts_of_lines traps f ds code)
  acts_from [] tries r ds = absurd (unended tries r)
  acts_from (i ∷ next) tries r ds = by_op i.op i next tries ds refl r (λ left r ds. acts_from next left r ds)

-- The pieces of a function have an instruction.
pub some_words : (m : Lin) → ((tries : List ℕ) → Reached m [] tries → ⊥) → (traps : ℕ → ℕ) (ds : List Descr) → 0 < count_by has_words (emitted m traps ds).code
some_words m unended traps ds =
    let some = acts_from m unended traps (frame_of m) m.code [] at_entry ds in
    omega (arith, some, words_both (entry_pieces (frame_of m)) (parts_of_lines traps (frame_of m) ds m.code), words_count (emitted m traps ds).code)

-- ---- descriptors

all_of : {A : Type 0} (P : A → Type 0) (xs : List A) → ((x : A) → Contains xs x → P x) → AllByRecursion P xs
all_of P [] each = tt
all_of P (x ∷ xs) each = (each x (0, omega arith, refl), all_of P xs (λ y c. each y (Contains-append_right (x ∷ []) xs y c)))

next_entry : (a b : ℕ) → ComesBefore a b → IsNextEntry a b
next_entry a b (register_first p q) = inr (p, q)
next_entry a b (rising p q) = inl (p, q)

in_order : (xs : List ℕ) → AllPairs ComesBefore xs → EachNext IsNextEntry xs
in_order [] pairs = tt
in_order (x ∷ xs) pairs = (first xs pairs, in_order xs (λ i j d lt within. pairs (suc i) (suc j) d (omega (arith, lt)) (omega (arith, within))))
  where
    first : (xs : List ℕ) → AllPairs ComesBefore (x ∷ xs) → First (IsNextEntry x) xs
    first [] pairs = tt
    first (y ∷ ys) pairs = next_entry x y (pairs 0 1 0 (omega arith) (omega arith))

pub point_among : (i : Line) (next code : List Line) → StandsAsLine i next code → passes_frame i.op ≡ true → has_frame_point code ≡ true
point_among i next _ here e = ap (λ b. b || has_frame_point next) e
point_among i next _ (below {j} {is} s) e = ap (λ b. passes_frame j.op || b) (point_among i next is s e) ∙ or_true (passes_frame j.op)
  where
    or_true : (b : Bool) → (b || true) ≡ true
    or_true true = refl
    or_true false = refl

all_below : (xs : List ℕ) (x n : ℕ) → AllByRecursion (λ y. y < n) xs → Contains xs x → x < n
all_below xs x n all c = by xs all c.0 c.1 c.2
  where
    by : (xs : List ℕ) → AllByRecursion (λ y. y < n) xs → (k : ℕ) → k < length xs → slice_index_or xs k x ≡ x → x < n
    by [] all k lt e = absurd (omega (arith, lt))
    by (y ∷ ys) all zero lt e = let own = all.0 in omega (arith, own, e)
    by (y ∷ ys) all (suc k) lt e = by ys all.1 k (omega (arith, lt)) e

colour_low : (r : ℕ) → Contains colour_numbers r → r < 32
colour_low r c = all_below colour_numbers r 32 (omega arith, (omega arith, (omega arith, (omega arith, (omega arith, (omega arith, (omega arith, (omega arith, (omega arith, (omega arith, (omega arith, (omega arith, (omega arith, (omega arith, (omega arith, (omega arith, (omega arith, (omega arith, (omega arith, (omega arith, (omega arith, tt))))))))))))))))))))) c

module _ (m : Lin) (regular : IsRegular m) (within : FitsDescriptors m) where
  frame_is : has_frame_point m.code ≡ true → frame_bytes m ≡ (8 * m.slots + 8 + 15) / 16 * 16
  frame_is e = ap (λ b. (8 * m.slots + cond b 8 0 + 15) / 16 * 16) e

  entry_is : (l : Loc) (traps e size : ℕ) → IsHome m l → descriptors.IsDescriptorEntry traps l e → size ≡ frame_bytes m + 16 * traps → frame_bytes m ≡ (8 * m.slots + 8 + 15) / 16 * 16 → IsEntry size e
  entry_is _ traps e size (is_colour c) of_register is frame = inl (omega arith, (let low = colour_low _ c in omega (arith, low)))
  entry_is _ traps e size (is_slot lt) of_slot is frame = inr (omega arith, omega (arith, lt, is, frame))

  descriptor_is : (d : Descr) → Describes m d → NamesHomes m d → IsDescriptor d
  descriptor_is d h homes =
      let size = h.is.size in
      let frame = frame_is (point_among h.line h.next m.code h.stands h.point) in
      let fits = within.frame (h.line ∷ h.next) h.tries h.traps in
      let few = homes.few in
      record {
        size_aligned = omega (arith, size, frame);
        nonempty = omega (arith, size, frame);
        size_fits = omega (arith, size, fits);
        few = omega (arith, few, frame, fits);
        entries = all_of (IsEntry d.size) d.entries (λ e c.
            let n = (h.is.exact e).0 c in
            entry_is n.location (length h.tries) e d.size (live_home m regular.homes h.stands n.live) n.entry size frame);
        in_order = in_order d.entries h.is.order;
      }

  pub descriptors_are : (ds : List Descr) → AreExact m ds → All (NamesHomes m) ds → AllByRecursion IsDescriptor ds
  descriptors_are ds exact homes = both ds (recursion_from_All (Describes m) ds exact.others) (recursion_from_All (NamesHomes m) ds homes)
    where
      both : (ds : List Descr) → AllByRecursion (Describes m) ds → AllByRecursion (NamesHomes m) ds → AllByRecursion IsDescriptor ds
      both [] p q = tt
      both (d ∷ ds) p q = (descriptor_is d p.0 q.0, both ds p.1 q.1)
