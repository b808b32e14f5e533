-- The stub ends a run: after the return of its entry, or a raise that none has caught, two instructions tell the outside.
use Rattle.std.proofs.Common.{◌≡◌, ℕ, ◌+◌, ◌-◌, ◌*◌, ◌<◌, inl, ⊎_elim, true, List, [], ◌∷◌, ◌++◌, length, reverse, Option, Some, None, slice_get, slice_index, refl, ap, sym, subst, ◌∙◌, arith}
use Rattle.std.specs.Prelude.{option_map}
use Rattle.bs_words.specs.Fits.{data_start, fits, type_of_comp}
use Rattle.bs_words.specs.Memory.{Memory}
use Rattle.bs_words.specs.Word.{add_word}
use Rattle.bs_words.specs.declared.types.Comp.{Comp}
use Rattle.bs_words.specs.declared.types.Comp.TheVariants as comp
use Rattle.bs_words.specs.declared.types.Ret.{Ret}
use Rattle.bs_words.specs.declared.types.Ret.TheVariants as ret
use Rattle.bs_words.specs.declared.types.Ty.TheVariants as ty
use Rattle.bs_words.specs.declared.values.Obs.TheVariants as obs
use Rattle.bs_words.specs.declared.values.Value.{Value}
use Rattle.bs_words.specs.declared.values.Value.TheVariants.{Word, Block, Function}
use Rattle.bs_words.proofs.Lists.{head_same}
use Rattle.cmm_data.specs.Placement.{data_end}
use Rattle.cmm_meaning.specs.Layout.{observed}
use Rattle.cmm_meaning.specs.State.{Doing, Gave, Threw}
use Rattle.cmm_tree.specs.Tree.{FileTree}
use Rattle.correctness.specs.Setting.{layout_of}
use Rattle.image_form.specs.Image.{IsFunc, IsResult, stub, stub_words}
use Rattle.guarded_machine.specs.Guarded.{guarded_after, guarded_of}
use Rattle.image_form.specs.Tables.{Tables}
use Rattle.rv_layout_rules.specs.Laid.{IsLaid, code_from, function_entries_from}
use Rattle.lin_ir.specs.declared.lin.Line.{Line}
use Rattle.mach_ir.specs.Runs.{entry_around}
use Rattle.machine_laws.specs.Steps.{moments}
use Rattle.meaning_laws.specs.Fitting.{FitsResult, nothing, value}
use Rattle.moving_laws.specs.Values.{HasFunctions, IsKnown}
use Rattle.moving_laws.specs.Young.{Rises}
use Rattle.moving_laws.proofs.Fitting.{val_fits}
use Rattle.moving_laws.proofs.Usable.{young_readable}
use Rattle.moving_laws.proofs.Young.{found}
use Rattle.rv_isa.specs.Encoding.{encoded}
use Rattle.rv_isa.specs.declared.instr.AluImmOp.TheVariants.{Addi}
use Rattle.rv_isa.specs.declared.instr.Instr.TheVariants.{OpImm, Ecall}
use Rattle.rv_machine.specs.Arithmetic.{imm_i}
use Rattle.rv_machine.specs.Hart.{Hart, Placed, register}
use Rattle.rv_machine.specs.Hart as hart
use Rattle.rv_machine.specs.Loading.{IsRoom}
use Rattle.rv_machine.specs.Memory.{code_start}
use Rattle.rv_machine.specs.Observation.{all_blocks, block_or_word, blocks_or, serial_from}
use Rattle.rv_machine.specs.Observation as observation
use Rattle.rv_machine.specs.Run.{seen}
use Rattle.rv_machine.specs.Services.{Machine, Now, Going, Over, End, served, value_returned}
use Rattle.rv_machine.specs.Services as machine
use Rattle.rv_machine.specs.Places.{stack_bottom}
use Rattle.rv_machine.specs.Sound.{IsStackBase}
use Rattle.rv_pieces.specs.declared.piece.Pieces.{Pieces}
use Rattle.lin_machine.specs.Follows.{IsDone}
use Rattle.lin_machine.specs.Outside.{observed_argument}
use Rattle.lin_machine.specs.Relation.{HeapStands, IsUsable, OwnRegisters, Laid, StandsFor, blocks_by_serial, nothing_below}
use Rattle.lin_machine.specs.Straight.{Changes}
use Rattle.lin_machine.specs.View.{Fixed, IsInstructionAt, HasView, View}
use Rattle.lin_machine.proofs.Formats.{sets_imm}
use Rattle.machine_laws.proofs.Immediates.{low_12, up}
use Rattle.lin_machine.proofs.Keeping.{heap_kept}
use Rattle.lin_machine.proofs.Likes.{like_readable}
use Rattle.lin_machine.proofs.Moving.{hart_of, heads_of}
use Rattle.lin_machine.proofs.Sequences.{set_changes, sets_as}
use Rattle.lin_machine.proofs.Serving.{hart_is, with_memory}
use Rattle.lin_machine.proofs.Standing.{own_past}
use Rattle.lin_machine.proofs.Steps.{one_step, ready, ready_stands, other_number}
use Rattle.function_stands.proofs.Known.{each_at, val_shown, in_table}
use Rattle.linking.specs.Assembled.{IsStub, Setup}
use Rattle.linking.specs.Carries.{EventuallyHolds, Near, Outer}
use Rattle.linking_machine.specs.Standing.{Back, Shows, fixed_of}
use Rattle.linking_machine.proofs.Carrying.{values_shown}

-- what the machine shows of a value is what the text shows
shown_is : (image : Tables) (count : ℕ) (v : Value) → IsKnown image count v → observed_argument image v ≡ observed (layout_of image) v
shown_is image count v k =
    head_same (values_shown image (v ∷ []) (in_table image count v k, tt))

module _ (s : Fixed) (end : ℕ) (end_is : end ≡ data_start + length s.image.bytes) (n : ℕ) (small : n < 3) (v : View)
    (first : IsInstructionAt s v.place (OpImm Addi 7 0 n)) (second : IsInstructionAt s (v.place + 1) Ecall) (young : List Placed) (memory : Memory)
    (own : OwnRegisters v.registers young 0) (usable : IsUsable s v) (heap : HeapStands s (blocks_by_serial v young) v.memory (entry_around memory))
    (m : Machine) (st : HasView s m v) where
  clears : Changes s v 1 (7 ∷ []) v.memory (λ w. slice_index w.registers 7 ≡ n)
  clears =
      let sum : add_word 0 (imm_i n) ≡ n = ap (add_word 0) (low_12 n (omega (arith, small))) ∙ up 0 n n (omega arith) (omega (arith, small)) in
      set_changes s v (OpImm Addi 7 0 n) 6 n first (inl (λ q. omega (arith, q))) (sets_as s v (OpImm Addi 7 0 n) 7 _ _ sum (sets_imm s v Addi 7 0 n)) own.are
      (omega arith) (omega (arith, small))

  abbrev u : View
  u = clears.view

  abbrev led : Machine
  led = (clears.leads.by m st).0

  led_stands : HasView s led u
  led_stands = (clears.leads.by m st).1

  abbrev b : Machine
  b = ready s led

  ok : HasView s b u
  ok = ready_stands s led u led_stands

  over : guarded_after s.schedule 2 (Going m) ≡ served s.schedule.plan n b
  over =
      let here = clears.past.place in
      (clears.leads.by m st).2 2 1 refl
      ∙ one_step s led u Ecall (hart.Service b.hart) led_stands (subst (λ p. IsInstructionAt s p Ecall) (sym here) second)
      (other_number s led u n led_stands clears.holds (λ e. omega (arith, e, small))) refl 1 0 refl
      ∙ ap (λ k. served s.schedule.plan k b) (ap (λ xs. slice_index xs 7) ok.registers ∙ clears.holds)

  abbrev w : View
  w = with_memory u b.hart

  same_blocks : blocks_by_serial w young ≡ blocks_by_serial v young
  same_blocks = ap (λ bs. bs ++ reverse young) clears.past.blocks

  heap_u : HeapStands s (blocks_by_serial u young) u.memory (entry_around memory)
  heap_u =
      subst (λ bs. HeapStands s (bs ++ reverse young) u.memory (entry_around memory)) (sym clears.past.blocks)
      (subst (λ k. HeapStands s (blocks_by_serial v young) k (entry_around memory)) (sym clears.past.memory) heap)

  heap_w : HeapStands s (blocks_by_serial w young) w.memory (entry_around memory)
  heap_w =
      heap_kept s (blocks_by_serial u young) u.memory b.hart.memory (entry_around memory) (λ y q ne. ok.memory.words y ne)
      (λ y e q. ok.memory.held y e (λ t. omega (arith, t, q))) (λ y r. like_readable u.memory b.hart.memory y ok.memory r) heap_u

  own_w : OwnRegisters w.registers young 0
  own_w =
      own_past v.registers u.registers young 0 clears.past.are (clears.past.others 26 (λ i. ⊎_elim (λ q. omega (arith, q)) (λ f. f) i))
      (clears.past.others 27 (λ i. ⊎_elim (λ q. omega (arith, q)) (λ f. f) i)) own

  -- the machine finds the blocks, young ones too
  blocks_are : all_blocks (hart_of s w b.hart) ≡ blocks_by_serial v young
  blocks_are =
      let same : slice_index w.registers 26 + 0 ≡ slice_index w.registers 26 = omega arith in
      let even = own_w.from_even in
      let low = own_w.from_low in
      ap (λ o. blocks_or w.blocks (option_map (λ young. w.blocks ++ reverse young) o))
      (found w.memory (λ x e lo hi. young_readable s.image s.heap s.base w.memory ok.regions x e lo hi) (slice_index w.registers 26) young
      (omega (arith, even)) (omega (arith, low)) (subst (λ x. Rises x young) same own_w.rises) (heads_of s w young w.memory (entry_around memory) refl heap_w))
      ∙ same_blocks

  -- a value in a0 is read as the text reads it
  told : (c : Comp) (x : Value) → fits end (type_of_comp c) x ≡ true → (c ≡ comp.Addr → ⊥) →
      StandsFor s (blocks_by_serial v young) (slice_index v.registers 10) x → observation.observed_word b.hart c (register b.hart 10) ≡ observed (layout_of s.image) x
  told c x fit no_addr stands =
      ap (λ (h : Hart). observation.observed_word h c (register h 10)) (hart_is s b u ok)
      ∙ ap (observation.observed_word (hart_of s w b.hart) c) (clears.past.others 10 (λ i. ⊎_elim (λ q. omega (arith, q)) (λ f. f) i))
      ∙ by c x (slice_index v.registers 10) fit no_addr stands
    where
      by : (c : Comp) (x : Value) (word : ℕ) → fits end (type_of_comp c) x ≡ true → (c ≡ comp.Addr → ⊥) → StandsFor s (blocks_by_serial v young) word x →
          observation.observed_word (hart_of s w b.hart) c word ≡ observed (layout_of s.image) x
      by comp.Val x word fit na st =
          ap (λ bs. block_or_word (serial_from 0 bs word) word) blocks_are
          ∙ ap (λ y. block_or_word (serial_from 0 (blocks_by_serial v young) y) y) st.is
          ∙ val_shown s.image (blocks_by_serial v young) x s.functions heap.old
          (val_fits s.image (length (blocks_by_serial v young)) x (subst (λ e. fits e ty.Val x ≡ true) end_is fit) st.known)
          ∙ shown_is s.image (length (blocks_by_serial v young)) x st.known
      by comp.Int (Word q) word fit na st = ap obs.Word st.is
      by comp.Int (Block q o) word fit na st = absurd (cc)
      by comp.Int (Function f) word fit na st = ap obs.Word st.is ∙ shown_is s.image (length (blocks_by_serial v young)) (Function f) st.known
      by comp.Addr x word fit na st = absurd (na refl)
      by comp.Float x word fit na st = absurd (cc)

  -- so the run ends
  ends_so : (stack heap : ℕ) (o : Outer) (x : Now) → x ≡ Going m → v.calls ≡ o.made → (wanted : End) → served s.schedule.plan n b ≡ Over b.calls wanted →
      EventuallyHolds Now (guarded_of s.schedule) seen stack heap 0 0 o.made (Near 0 2 (λ y. seen y ≡ record { calls = o.made; end = wanted })) x
  ends_so stack heap o x is calls wanted comes =
      let there : moments (guarded_of s.schedule) 2 x ≡ Over b.calls wanted =
      ap (moments (guarded_of s.schedule) 2) is ∙ over ∙ comes in
      let made : b.calls ≡ o.made = ok.calls ∙ clears.leads.calls ∙ calls in
      record {
        count = 2;
        at = inl (record {
          lower = omega arith;
          upper = omega arith;
          at = ap seen there ∙ ap (λ cs. record { calls = cs; end = wanted }) made;
        });
      }

-- ---- the stub

-- its words are at the beginning of the code
pub record HasStub (s : Fixed) : Type 0 where
  pub returns : IsInstructionAt s 0 (OpImm Addi 7 0 0)
  pub tells : IsInstructionAt s 1 Ecall
  pub raises : IsInstructionAt s 2 (OpImm Addi 7 0 1)
  pub tells_raise : IsInstructionAt s 3 Ecall

result_told : (end : ℕ) (image : Tables) (h : Hart) (result : Ret) (v : Option Value) → IsResult result → FitsResult end result v →
    ((c : Comp) (x : Value) → fits end (type_of_comp c) x ≡ true → (c ≡ comp.Addr → ⊥) → v ≡ Some x →
    observation.observed_word h c (register h 10) ≡ observed (layout_of image) x) →
    value_returned result h ≡ option_map (observed (layout_of image)) v
result_told end image h ret.Unit None is nothing told = refl
result_told end image h ret.Unit (Some x) is fit told = elim fit [ ]
result_told end image h (ret.Comp c) None is fit told = elim fit [ ]
result_told end image h (ret.Comp c) (Some x) is (value fit) told = ap Some (told c x fit (λ q. subst (λ c. IsResult (ret.Comp c)) q is) refl)

module _ (s : Fixed) (end : ℕ) (end_is : end ≡ data_start + length s.image.bytes) (has : HasStub s) (result : IsResult s.result) (stack heap : ℕ) where
  abbrev pub Came : Doing → Outer → Now → Type 0
  Came d o x = Shows s o (IsDone s nothing_below d) x

  -- The stub ends a run whose entry has returned, or whose raise none has caught.
  pub stub_ends : IsStub Now (guarded_of s.schedule) seen stack heap (layout_of s.image) end s.result Came
  stub_ends = record { returned = returned; raised = raised }
    where
      returned : (v : Option Value) (memory : Memory) (o : Outer) (x : Now) → FitsResult end s.result v → Came (Gave v memory) o x →
          EventuallyHolds Now (guarded_of s.schedule) seen stack heap 0 0 o.made
          (Near 0 2 (λ y. seen y ≡ record { calls = o.made; end = machine.Returned (option_map (observed (layout_of s.image)) v) })) x
      returned v memory o x fit sh =
          let young = sh.holds.0 in
          let r = sh.holds.1 in
          let at = r.place in
          let here : sh.view.place ≡ 0 = omega (arith, at) in
          let there : sh.view.place + 1 ≡ 1 = omega (arith, here) in
          let one = subst (λ p. IsInstructionAt s p (OpImm Addi 7 0 0)) (sym here) has.returns in
          let two = subst (λ p. IsInstructionAt s p Ecall) (sym there) has.tells in
          let low : 0 < 3 = omega arith in
          let bm = b s end end_is 0 low sh.view one two young memory r.own r.usable r.heap sh.machine sh.stands in
          let stands = ok s end end_is 0 low sh.view one two young memory r.own r.usable r.heap sh.machine sh.stands in
          ends_so s end end_is 0 low sh.view one two young memory r.own r.usable r.heap sh.machine sh.stands stack heap o x sh.is sh.calls
          (machine.Returned (option_map (observed (layout_of s.image)) v))
          (ap (λ z. Over bm.calls (machine.Returned (value_returned z bm.hart))) stands.result
          ∙ ap (λ z. Over bm.calls (machine.Returned z)) (result_told end s.image bm.hart s.result v result fit
          (λ c y fi na is. told s end end_is 0 low sh.view one two young memory r.own r.usable r.heap sh.machine sh.stands c y fi na (r.value_in y is))))

      raised : (v : Value) (memory : Memory) (o : Outer) (x : Now) → fits end ty.Val v ≡ true → Came (Threw v memory) o x →
          EventuallyHolds Now (guarded_of s.schedule) seen stack heap 0 0 o.made
          (Near 0 2 (λ y. seen y ≡ record { calls = o.made; end = machine.Raised (observed (layout_of s.image) v) })) x
      raised v memory o x fit sh =
          let young = sh.holds.0 in
          let r = sh.holds.1 in
          let at : code_start + 4 * sh.view.place ≡ code_start + 8 = r.thrown in
          let here : sh.view.place ≡ 2 = omega (arith, at) in
          let there : sh.view.place + 1 ≡ 3 = omega (arith, here) in
          let one = subst (λ p. IsInstructionAt s p (OpImm Addi 7 0 1)) (sym here) has.raises in
          let two = subst (λ p. IsInstructionAt s p Ecall) (sym there) has.tells_raise in
          let low : 1 < 3 = omega arith in
          let bm = b s end end_is 1 low sh.view one two young memory r.own r.usable r.heap sh.machine sh.stands in
          ends_so s end end_is 1 low sh.view one two young memory r.own r.usable r.heap sh.machine sh.stands stack heap o x sh.is sh.calls
          (machine.Raised (observed (layout_of s.image) v))
          (ap (λ z. Over bm.calls (machine.Raised z))
          (told s end end_is 1 low sh.view one two young memory r.own r.usable r.heap sh.machine sh.stands comp.Val v fit (λ q. absurd (cc)) r.value_in))

-- ---- the stub of an image

clear_word : encoded (OpImm Addi 7 0 0) ≡ 0x00000393
unfolding encoded
clear_word = refl

raise_word : encoded (OpImm Addi 7 0 1) ≡ 0x00100393
unfolding encoded
raise_word = refl

service_word : encoded Ecall ≡ 0x00000073
unfolding encoded
service_word = refl

module _ (file : FileTree) (ps : List Pieces) (s : Fixed) (laid : IsLaid file ps s.image) where
  code_is : s.image.code ≡ stub ++ code_from file (function_entries_from stub_words ps laid.forms) stub_words ps laid.forms
  code_is = ap (λ (t : Tables). t.code) laid.is

  stub_there : HasStub s
  stub_there = record {
    returns = record {
      there = ap (λ (code : List ℕ). slice_get code 0) code_is ∙ ap Some (sym clear_word);
      fits = (omega arith, omega arith, omega arith);
    };
    tells = record { there = ap (λ (code : List ℕ). slice_get code 1) code_is ∙ ap Some (sym service_word); fits = tt };
    raises = record {
      there = ap (λ (code : List ℕ). slice_get code 2) code_is ∙ ap Some (sym raise_word);
      fits = (omega arith, omega arith, omega arith);
    };
    tells_raise = record { there = ap (λ (code : List ℕ). slice_get code 3) code_is ∙ ap Some (sym service_word); fits = tt };
  }

-- The stub ends each run of an image.
pub stub_so : (file : FileTree) (image : Tables) (ps : List Pieces) (has : HasFunctions image)
    (bases : (stack : ℕ) → IsRoom stack → IsStackBase (stack_bottom - stack)) (laid : ℕ → Laid) (entry : ℕ → ℕ) (live : ℕ → List Line → Type 0) →
    IsLaid file ps image → data_end file ≡ data_start + length image.bytes → (run : Setup) (f : ℕ) → slice_get image.funcs f ≡ Some run.row →
    IsStub Now (guarded_of run.schedule) seen run.stack run.heap (layout_of image) (data_end file) run.row.result
    (λ d o x. Back image has bases laid entry live run nothing_below d o x)
stub_so file image ps has bases laid entry live it end run f row =
    let s = fixed_of image has bases run in
    stub_ends s (data_end file) end (stub_there file ps s it) (each_at IsFunc image.funcs f run.row has.tables.funcs.each row).result run.stack run.heap
