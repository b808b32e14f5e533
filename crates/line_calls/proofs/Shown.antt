-- What is observed of the arguments of an external call: it does not depend on where the blocks lie.
use Rattle.std.proofs.Common.{◌≡◌, ◌≢◌, ℕ, zero, suc, ◌+◌, ◌^◌, ◌<◌, ◌≤◌, inl, true, ◌==◌, List, [], ◌∷◌, ◌++◌, length, map, reverse, Some, None, slice_get, slice_index, refl, ap, ap₂, arith, ◌∙◌, sym, subst, ⊎_elim, length-append}
use Rattle.std.specs.Prelude.{option_map}
use Rattle.std.specs.List.{AllByRecursion, flat_map}
use Rattle.std.proofs.lemmas.Bool.{eq-eqb, ne_eqb, cond-true, cond-false}
use Rattle.std.proofs.lemmas.Option.{slice_get_within}
use Rattle.bs_words.specs.External.{External}
use Rattle.bs_words.specs.Fits.{data_start, fits, type_of_comp}
use Rattle.bs_words.specs.declared.types.Comp.{Comp}
use Rattle.bs_words.specs.declared.types.Comp.TheVariants as comp
use Rattle.bs_words.specs.declared.types.Loc.{Loc}
use Rattle.bs_words.specs.declared.types.Loc.TheVariants as loc
use Rattle.bs_words.specs.declared.values.Obs.TheVariants as obs
use Rattle.bs_words.specs.declared.values.Value.{Value}
use Rattle.bs_words.specs.declared.values.Value.TheVariants.{Word, Block, Function}
use Rattle.image_form.specs.Image.{IsArgument, ext_bytes, le32, table_bytes}
use Rattle.image_form.specs.Tables.{Tables}
use Rattle.image_form.proofs.Lengths.{Nonempty, ext_nonempty}
use Rattle.lin_ir.specs.Formed.{comps, places_of}
use Rattle.lin_ir.specs.Meaning.{Locations, values}
use Rattle.lin_ir.specs.declared.lin.Spot.{Spot}
use Rattle.mach_ir.specs.Acts.{Around, is_complete}
use Rattle.rv_machine.specs.Hart.{Hart, Placed}
use Rattle.rv_machine.specs.Observation.{all_blocks, block_or_word, blocks_or, observed_word, serial_from}
use Rattle.rv_machine.specs.Services.{arguments_from}
use Rattle.moving_laws.specs.Heap.{AllApart, AreApart, AreBlocks}
use Rattle.moving_laws.specs.Values.{HasFunctions, IsKnown, IsVal, function_at, start_of, value_word}
use Rattle.moving_laws.specs.Young.{Rises}
use Rattle.moving_laws.proofs.Fitting.{val_fits}
use Rattle.moving_laws.proofs.Rewriting.{NoStart, at_start, far_no_start, odd_no_start, start_inside}
use Rattle.moving_laws.proofs.Usable.{young_readable}
use Rattle.moving_laws.proofs.Young.{found}
use Rattle.lin_machine.specs.Outside.{observed_argument}
use Rattle.lin_machine.specs.Relation.{Below, Laid, StandsFor, Within, blocks_by_serial}
use Rattle.lin_machine.specs.View.{Fixed, View}
use Rattle.lin_machine.proofs.Moving.{hart_of, heads_of}
use Rattle.line_calls.specs.Calls.{IsInTable}
use Rattle.line_calls.proofs.Seats.{Rising, same_place, was_read}

-- ---- serials

no_serial : (k : ℕ) (bs : List Placed) (w : ℕ) → NoStart w bs → serial_from k bs w ≡ None
no_serial k [] w none = refl
no_serial k (b ∷ bs) w none = cond-false (b.start == w) _ _ (ne_eqb b.start w (λ e. none.0 (sym e))) ∙ no_serial (suc k) bs w none.1

other_start : (b : Placed) (bs : List Placed) (q : ℕ) → AllByRecursion (AreApart b) bs → q < length bs → b.start ≢ start_of bs q
other_start b [] q far l = absurd (omega (arith, l))
other_start b (x ∷ xs) zero far l = λ e. ⊎_elim (λ d. omega (arith, d, e)) (λ d. omega (arith, d, e)) far.0
other_start b (x ∷ xs) (suc q) far l = other_start b xs q far.1 (omega (arith, l))

serial_is : (k q r : ℕ) (bs : List Placed) → AllApart bs → q < length bs → r ≡ k + q → serial_from k bs (start_of bs q) ≡ Some r
serial_is k q r [] apart l e = absurd (omega (arith, l))
serial_is k zero r (b ∷ bs) apart l e = let h : k ≡ r = omega (arith, e) in cond-true (b.start == b.start) _ _ (eq-eqb b.start b.start refl) ∙ ap Some h
serial_is k (suc q) r (b ∷ bs) apart l e =
    cond-false (b.start == start_of bs q) _ _ (ne_eqb b.start (start_of bs q) (other_start b bs q apart.0 (omega (arith, l))))
    ∙ serial_is (suc k) q r bs apart.1 (omega (arith, l)) (omega (arith, e))

-- a val is shown as its block or as its word
pub val_shown : (image : Tables) (bs : List Placed) (v : Value) → HasFunctions image → AreBlocks bs → IsVal image (length bs) v →
    block_or_word (serial_from 0 bs (value_word image bs v)) (value_word image bs v) ≡ observed_argument image v
val_shown image bs (Word w) has are fit =
    let d = has.tables.bytes.short in
    ap (λ o. block_or_word o w) (no_serial 0 bs w (⊎_elim (λ odd. odd_no_start w bs odd are.inside)
    (λ l. let up = l.1 in far_no_start w bs (inl (omega (arith, up, d))) are.inside) fit))
val_shown image bs (Block k o) has are fit =
    let at = start_inside bs k are.inside fit.1 in
    let word : value_word image bs (Block k o) ≡ start_of bs k = at_start (start_of bs k) o fit.0 (omega (arith, at)) in
    ap (λ w. block_or_word (serial_from 0 bs w) w) word ∙ ap (λ x. block_or_word x (start_of bs k)) (serial_is 0 k k bs are.apart fit.1 (omega arith))
val_shown image bs (Function f) has are fit =
    let c = has.tables.code.short in
    let inside = has.inside f fit in
    ap (λ o. block_or_word o (function_at image.funcs f))
    (no_serial 0 bs (function_at image.funcs f) (far_no_start (function_at image.funcs f) bs (inl (omega (arith, inside, c))) are.inside))

-- ---- the number of a row

rows_many : {A : Type 0} (row : A → List ℕ) (rows : List A) → Nonempty row → length rows ≤ length (flat_map row rows)
rows_many row [] some = omega arith
rows_many row (x ∷ rows) some = omega (arith, length-append (row x) (flat_map row rows), some x, rows_many row rows some)

pub few_externals : (s : Fixed) (k : ℕ) (e : External) → slice_get s.image.extcs k ≡ Some e → k < 2 ^ 27
unfolding table_bytes
few_externals s k e there =
    let short = s.functions.tables.extcs.short in
    let l = slice_get_within s.image.extcs k e there in
    let many = rows_many ext_bytes s.image.extcs ext_nonempty in
    omega (arith, l, many, short, length-append (le32 (length s.image.extcs)) (flat_map ext_bytes s.image.extcs))

pub each_at : {X : Type 0} (P : X → Type 0) (xs : List X) (k : ℕ) (x : X) → AllByRecursion P xs → slice_get xs k ≡ Some x → P x
each_at P [] k x all e = absurd (cc)
each_at P (y ∷ ys) zero x all e = subst P (let h : y ≡ x = cc in h) all.0
each_at P (y ∷ ys) (suc k) x all e = each_at P ys k x all.1 e

-- ---- arguments

module _ (s : Fixed) (laid : Laid) (u : View) (young : List Placed) (held : Locations) (a : Around) (c : Below) (within : Within s laid u young 0 held a c)
    (whole : is_complete a ≡ true) (h : Hart) where
  -- the machine finds the blocks, young ones too
  blocks_are : all_blocks (hart_of s u h) ≡ blocks_by_serial u young
  blocks_are =
      let same : slice_index u.registers 26 + 0 ≡ slice_index u.registers 26 = omega arith in
      let even = within.own.from_even in
      let low = within.own.from_low in
      ap (λ o. blocks_or u.blocks (option_map (λ young. u.blocks ++ reverse young) o))
      (found u.memory (λ x e lo hi. young_readable s.image s.heap s.base u.memory within.usable.regions x e lo hi) (slice_index u.registers 26) young
      (omega (arith, even)) (omega (arith, low)) (subst (λ x. Rises x young) same within.own.rises) (heads_of s u young u.memory a whole within.heap))

  shown_one : (t : Comp) (x : Value) (w : ℕ) → fits (data_start + length s.image.bytes) (type_of_comp t) x ≡ true → IsArgument t →
      StandsFor s (blocks_by_serial u young) w x →
      observed_word (hart_of s u h) t w ≡ observed_argument s.image x
  shown_one comp.Int (Word b) w fit is st = ap obs.Word st.is
  shown_one comp.Int (Block k o) w fit is st = absurd (cc)
  shown_one comp.Int (Function f) w fit is st = ap obs.Word st.is
  shown_one comp.Val x w fit is st =
      ap (λ bs. block_or_word (serial_from 0 bs w) w) blocks_are
      ∙ ap (λ y. block_or_word (serial_from 0 (blocks_by_serial u young) y) y) st.is
      ∙ val_shown s.image (blocks_by_serial u young) x s.functions within.heap.old (val_fits s.image (length (blocks_by_serial u young)) x fit st.known)
  shown_one comp.Addr x w fit is st = absurd is
  shown_one comp.Float x w fit is st = absurd is

  pub shown_from :
      (file : Locations) (hold : (r : ℕ) (x : Value) → 10 ≤ r → file (loc.Machine r) ≡ Some x → StandsFor s (blocks_by_serial u young) (slice_index u.registers r) x)
      (ps : List Spot) (xs : List Value) (r : ℕ) (rs : List ℕ) (more : List Loc) → 9 ≤ r → places_of ps ++ more ≡ map loc.Machine rs → Rising (suc r) rs →
      values (data_start + length s.image.bytes) file ps ≡ Some xs → AllByRecursion IsArgument (comps ps) →
      arguments_from (suc r) (comps ps) (hart_of s u h) ≡ map (observed_argument s.image) xs
  shown_from file hold [] xs r rs more low e up g is = (let q : [] ≡ xs = cc in ap (map (observed_argument s.image)) q)
  shown_from file hold (p ∷ ps) xs r [] more low e up g is = absurd (cc)
  shown_from file hold (p ∷ ps) xs r (q ∷ rs) more low e up g is =
      let w = was_read (data_start + length s.image.bytes) p.comp (file p.loc) (values (data_start + length s.image.bytes) file ps) xs g in
      let at = same_place p.loc q (places_of ps ++ more) (map loc.Machine rs) e in
      let there : p.loc ≡ loc.Machine (suc r) = at.0 ∙ ap loc.Machine up.0 in
      let stands = hold (suc r) w.value (omega (arith, low)) (subst (λ l. file l ≡ Some w.value) there w.held) in
      ap₂ (λ y ys. y ∷ ys) (shown_one p.comp w.value (slice_index u.registers (suc r)) w.fit is.0 stands)
      (shown_from file hold ps w.others (suc r) rs more (omega (arith, low)) at.1 up.1 w.rest is.1)
      ∙ ap (map (observed_argument s.image)) (sym w.are)

-- a value that is known points to a function that is there
pub in_table : (image : Tables) (count : ℕ) (x : Value) → IsKnown image count x → IsInTable image x
in_table image count (Word w) known = tt
in_table image count (Block k o) known = tt
in_table image count (Function f) known = known

pub tabled_from :
    (s : Fixed) (placed : List Placed) (registers : List ℕ) (end : ℕ) (file : Locations) →
    ((r : ℕ) (x : Value) → 10 ≤ r → file (loc.Machine r) ≡ Some x → StandsFor s placed (slice_index registers r) x) →
    (ps : List Spot) (xs : List Value) (r : ℕ) (rs : List ℕ) (more : List Loc) → 9 ≤ r → places_of ps ++ more ≡ map loc.Machine rs → Rising (suc r) rs →
    values end file ps ≡ Some xs → AllByRecursion (IsInTable s.image) xs
tabled_from s placed registers end file hold [] xs r rs more low e up g = subst (AllByRecursion (IsInTable s.image)) (let q : [] ≡ xs = cc in q) tt
tabled_from s placed registers end file hold (p ∷ ps) xs r [] more low e up g = absurd (cc)
tabled_from s placed registers end file hold (p ∷ ps) xs r (q ∷ rs) more low e up g =
    let w = was_read end p.comp (file p.loc) (values end file ps) xs g in
    let at = same_place p.loc q (places_of ps ++ more) (map loc.Machine rs) e in
    let there : p.loc ≡ loc.Machine (suc r) = at.0 ∙ ap loc.Machine up.0 in
    let stands = hold (suc r) w.value (omega (arith, low)) (subst (λ l. file l ≡ Some w.value) there w.held) in
    subst (AllByRecursion (IsInTable s.image)) (sym w.are) (
      in_table s.image (length placed) w.value stands.known,
      tabled_from s placed registers end file hold ps w.others (suc r) rs more (omega (arith, low)) at.1 up.1 w.rest,
    )
