-- With one block more in the young area, what stood for values stands for them still.
use Rattle.std.proofs.Common.{◌≡◌, ℕ, zero, suc, ◌<◌, ◌≤◌, Bool, true, false, List, [], ◌∷◌, ◌++◌, append_assoc, length, reverse, refl, ap, arith, ◌∙◌, sym, length-append}
use Rattle.std.specs.List.{AllByRecursion}
use Rattle.std.proofs.lemmas.List.{reverse-append}
use Rattle.bs_words.specs.Word.{add_word}
use Rattle.bs_words.specs.declared.values.Value.{Value}
use Rattle.bs_words.specs.declared.values.Value.TheVariants.{Word, Block, Function}
use Rattle.image_form.specs.Tables.{Tables}
use Rattle.rv_machine.specs.Frames.{Frame}
use Rattle.rv_machine.specs.Hart.{Placed}
use Rattle.rv_machine.specs.Memory.{Region}
use Rattle.moving_laws.specs.Heap.{AllApart, AreApart, AreBlocks, IsInHeap}
use Rattle.moving_laws.specs.Values.{FitsCell, IsKnown, IsVal, start_of, value_word, cells_of_block}
use Rattle.moving_laws.specs.Waiting.{AllWait, IsWaiting, WaitingActivation}
use Rattle.moving_laws.proofs.Fitting.{known_more}
use Rattle.lin_machine.specs.Relation.{StandsFor}
use Rattle.lin_machine.specs.View.{Fixed}

-- ---- the blocks before it

pub start_before : (bs : List Placed) (b : Placed) (k : ℕ) → k < length bs → start_of (bs ++ b ∷ []) k ≡ start_of bs k
start_before [] b k l = absurd (omega (arith, l))
start_before (x ∷ bs) b zero l = refl
start_before (x ∷ bs) b (suc k) l = start_before bs b k (omega (arith, l))

pub words_before : (bs : List Placed) (b : Placed) (k : ℕ) → k < length bs → cells_of_block (bs ++ b ∷ []) k ≡ cells_of_block bs k
words_before [] b k l = absurd (omega (arith, l))
words_before (x ∷ bs) b zero l = refl
words_before (x ∷ bs) b (suc k) l = words_before bs b k (omega (arith, l))

pub start_last : (bs : List Placed) (b : Placed) → start_of (bs ++ b ∷ []) (length bs) ≡ b.start
start_last [] b = refl
start_last (x ∷ bs) b = start_last bs b

pub words_last : (bs : List Placed) (b : Placed) → cells_of_block (bs ++ b ∷ []) (length bs) ≡ b.words
words_last [] b = refl
words_last (x ∷ bs) b = words_last bs b

-- the young area's lowest block comes last
pub placed_more : (blocks young : List Placed) (b : Placed) → blocks ++ reverse (b ∷ young) ≡ (blocks ++ reverse young) ++ b ∷ []
placed_more blocks young b = ap (λ xs. blocks ++ xs) (reverse-append (b ∷ []) young) ∙ sym (append_assoc blocks (reverse young) (b ∷ []))

-- ---- values

module _ (image : Tables) (bs : List Placed) (b : Placed) where
  more : length bs ≤ length (bs ++ b ∷ [])
  more = let n = length-append bs (b ∷ []) in omega (arith, n)

  pub word_before : (v : Value) → IsKnown image (length bs) v → value_word image (bs ++ b ∷ []) v ≡ value_word image bs v
  word_before (Word w) known = refl
  word_before (Block k o) known = ap (λ n. add_word n o) (start_before bs b k known.0)
  word_before (Function f) known = refl

  pub known_before : (v : Value) → IsKnown image (length bs) v → IsKnown image (length (bs ++ b ∷ [])) v
  known_before v known = known_more image (length bs) (length (bs ++ b ∷ [])) v more known

  pub val_before : (v : Value) → IsVal image (length bs) v → IsVal image (length (bs ++ b ∷ [])) v
  val_before (Word w) fit = fit
  val_before (Block k o) fit = (fit.0, (let l = fit.1 in let n = more in omega (arith, l, n)))
  val_before (Function f) fit = fit

  pub fits_before : (scanned : Bool) (v : Value) → FitsCell image (length bs) scanned v → FitsCell image (length (bs ++ b ∷ [])) scanned v
  fits_before true v fit = val_before v fit
  fits_before false v fit = fit

  -- ---- the frames that wait

  waits_one : (m : List Region) (x : WaitingActivation) (f : Frame) → IsWaiting image bs m x f → IsWaiting image (bs ++ b ∷ []) m x f
  waits_one m x f w = record {
    room = w.room;
    back = w.back;
    slot = λ k v l h. w.slot k v l h ∙ sym (word_before v (w.known k v l h));
    known = λ k v l h. known_before v (w.known k v l h);
    value = w.value;
    named = λ e i ev. let n = w.named e i ev in (n.0, n.1, n.2, n.3, n.4, val_before n.1 n.5);
  }

  pub waits_more : (m : List Region) (xs : List WaitingActivation) (fs : List Frame) → AllWait image bs m xs fs → AllWait image (bs ++ b ∷ []) m xs fs
  waits_more m [] [] w = w
  waits_more m [] (f ∷ fs) w = w
  waits_more m (x ∷ xs) [] w = w
  waits_more m (x ∷ xs) (f ∷ fs) w = (waits_one m x f w.0, waits_more m xs fs w.1)

pub stands_more : (s : Fixed) (bs : List Placed) (b : Placed) (w : ℕ) (v : Value) → StandsFor s bs w v → StandsFor s (bs ++ b ∷ []) w v
stands_more s bs b w v st = record { is = st.is ∙ sym (word_before s.image bs b v st.known); known = known_before s.image bs b v st.known }

-- ---- blocks that lie apart

inside_more : (bs : List Placed) (b : Placed) → AllByRecursion IsInHeap bs → IsInHeap b → AllByRecursion IsInHeap (bs ++ b ∷ [])
inside_more [] b all is = (is, tt)
inside_more (x ∷ bs) b all is = (all.0, inside_more bs b all.1 is)

far_more : (x : Placed) (bs : List Placed) (b : Placed) → AllByRecursion (AreApart x) bs → AreApart x b → AllByRecursion (AreApart x) (bs ++ b ∷ [])
far_more x [] b all is = (is, tt)
far_more x (y ∷ bs) b all is = (all.0, far_more x bs b all.1 is)

apart_more : (bs : List Placed) (b : Placed) → AllApart bs → AllByRecursion (λ x. AreApart x b) bs → AllApart (bs ++ b ∷ [])
apart_more [] b far all = (tt, tt)
apart_more (x ∷ bs) b far all = (far_more x bs b far.0 all.0, apart_more bs b far.1 all.1)

pub blocks_more : (bs : List Placed) (b : Placed) → AreBlocks bs → IsInHeap b → AllByRecursion (λ x. AreApart x b) bs → AreBlocks (bs ++ b ∷ [])
blocks_more bs b are is all = record { inside = inside_more bs b are.inside is; apart = apart_more bs b are.apart all }
