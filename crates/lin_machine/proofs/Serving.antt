-- The services that move the blocks, from their ECALL on, under every schedule.
use Rattle.std.proofs.Common.{◌≡◌, ℕ, ◌+◌, ◌*◌, ◌<◌, ◌≤◌, inl, inr, true, List, [], ◌++◌, length, reverse, Some, None, slice_index, refl, ap, arith, ◌∙◌, subst, ⊎_elim}
use Rattle.std.proofs.lemmas.Bool.{cases_lt}
use Rattle.bs_words.specs.Word.{add_word}
use Rattle.bs_words.specs.declared.types.Loc.{Loc}
use Rattle.guarded_machine.specs.Guarded.{guarded_after}
use Rattle.image_form.specs.Tables.{Desc}
use Rattle.lin_ir.specs.Meaning.{Locations, are_vals, poisoned}
use Rattle.mach_ir.specs.Acts.{Around, is_complete}
use Rattle.rv_isa.specs.declared.instr.Instr.TheVariants.{Ecall}
use Rattle.rv_machine.specs.Allocation.{allocation_served, is_request, young_from}
use Rattle.rv_machine.specs.FrameCalls.{collected}
use Rattle.rv_machine.specs.Frames.{descriptor_at}
use Rattle.rv_machine.specs.Hart.{Hart, Placed}
use Rattle.rv_machine.specs.Hart as next
use Rattle.rv_machine.specs.Memory.{code_start}
use Rattle.rv_machine.specs.Placement.{bytes_used}
use Rattle.bs_words.specs.Fits.{data_start}
use Rattle.rv_machine.specs.Relocation.{Goes, NoHeap}
use Rattle.rv_machine.specs.Services.{Going, HeapOut, Machine, Over, after_allocation, served}
use Rattle.moving_laws.specs.Service.{IsAllocationServed, IsCollected, IsRestored}
use Rattle.moving_laws.proofs.Moving.{allocates, allocates_not, collects, collects_not}
use Rattle.moving_laws.proofs.Walk.{sum_small}
use Rattle.lin_machine.specs.Arrival.{Arrives, Needs}
use Rattle.lin_machine.specs.Relation.{Below, IsDescribed, Laid, Within}
use Rattle.lin_machine.specs.View.{EndsRunAfter, Fixed, IsInstructionAt, HasView, View}
use Rattle.lin_machine.proofs.Arriving.{ends_arrives}
use Rattle.lin_machine.proofs.Likes.{like_refl}
use Rattle.lin_machine.proofs.Limits.{NeedsMore, in_need_there}
use Rattle.lin_machine.proofs.Moving.{contents, hart_of, knows_of, left, left_is, own_frame_of, ready_of, rises_top, view_after, within_after, within_like}
use Rattle.lin_machine.proofs.Steps.{one_step, ready, ready_stands, with_hart}

-- ---- the hart, by its view

-- what the machine has in its memory, the limit word too
abbrev pub with_memory : View → Hart → View
with_memory v h = record v { memory = h.memory }

pub hart_is : (s : Fixed) (a : Machine) (v : View) → HasView s a v → a.hart ≡ hart_of s (with_memory v a.hart) a.hart
hart_is s a v st =
    let h = a.hart in
    let e1 : h ≡ record h { image = s.image } = ap (λ x. record h { image = x }) st.image in
    let e2 : record h { image = s.image } ≡ record h {
      image = s.image;
      registers = v.registers;
    } = ap (λ x. record h { image = s.image; registers = x }) st.registers in
    let e3 : record h { image = s.image; registers = v.registers } ≡ record h { image = s.image; registers = v.registers; pc = code_start + 4 * v.place } =
    ap (λ x. record h { image = s.image; registers = v.registers; pc = x }) st.pc in
    let e4 : record h { image = s.image; registers = v.registers; pc = code_start + 4 * v.place } ≡ record h {
      image = s.image;
      registers = v.registers;
      pc = code_start + 4 * v.place;
      stack_base = s.base;
    } =
    ap (λ x. record h { image = s.image; registers = v.registers; pc = code_start + 4 * v.place; stack_base = x }) st.stack_base in
    let e5 : record h { image = s.image; registers = v.registers; pc = code_start + 4 * v.place; stack_base = s.base }
    ≡ record h { image = s.image; registers = v.registers; pc = code_start + 4 * v.place; stack_base = s.base; heap = s.heap } =
    ap (λ x. record h { image = s.image; registers = v.registers; pc = code_start + 4 * v.place; stack_base = s.base; heap = x }) st.heap in
    let e6 : record h {
      image = s.image;
      registers = v.registers;
      pc = code_start + 4 * v.place;
      stack_base = s.base;
      heap = s.heap;
    } ≡ hart_of s (with_memory v h) h =
    ap (λ x. record h { image = s.image; registers = v.registers; pc = code_start + 4 * v.place; stack_base = s.base; heap = s.heap; blocks = x }) st.blocks in
    e1 ∙ e2 ∙ e3 ∙ e4 ∙ e5 ∙ e6

module _ (s : Fixed) (laid : Laid) (v : View) (young : List Placed) (taken : ℕ) (held : Locations) (a : Around) (c : Below)
    (within : Within s laid v young taken held a c)
    (named : List Loc) (d : Desc) (is : IsDescribed laid (length a.tries) named d) (saves : laid.saves ≡ true)
    (fit : are_vals (data_start + length s.image.bytes) named held ≡ true)
    (whole : is_complete a ≡ true) (none : a.raised ≡ None) (there : descriptor_at s.image.descs (code_start + 4 * v.place + 4) ≡ Some d) where
  -- the same where the machine has its own limit word
  pub within_there : (b : Machine) → HasView s b v → Within s laid (with_memory v b.hart) young taken held a c
  within_there b st = within_like s laid v young taken held a c b.hart.memory st.memory within

  -- ---- the allocation service

  module _ (asked : slice_index v.registers 5 ≡ taken) (request : is_request taken ≡ true) (ecall : IsInstructionAt s v.place Ecall)
      (number : slice_index v.registers 7 ≡ 3) (needs : NeedsMore v) where
    to_allocation : (b : Machine) → HasView s b v → (j k : ℕ) → j ≡ 1 + k →
        guarded_after s.schedule j (Going b) ≡ guarded_after s.schedule k (after_allocation (allocation_served (s.schedule.plan (ready s b).hart.services) (ready s b).hart)
        (ready s b))
    to_allocation b st j k e =
        let r = ready s b in
        let ok = ready_stands s b v st in
        let t : slice_index r.hart.registers 7 ≡ 3 = ap (λ xs. slice_index xs 7) ok.registers ∙ number in
        one_step s b v Ecall (next.Service r.hart) st ecall (in_need_there s b v st needs) refl j k e
        ∙ ap (λ x. guarded_after s.schedule k (served s.schedule.plan x r)) t

    from_is : (h : Hart) → young_from (hart_of s v h) ≡ slice_index v.registers 26 + taken
    from_is h =
        let top = rises_top (slice_index v.registers 26 + taken) young within.own.rises in
        ap (add_word (slice_index v.registers 26)) asked ∙ sum_small (slice_index v.registers 26) taken (omega (arith, top))

    allocation : (b : Machine) (st : HasView s b v) → bytes_used (v.blocks ++ reverse young) ≤ s.heap →
        IsAllocationServed (s.schedule.plan b.hart.services) (hart_of s (with_memory v b.hart) b.hart) (record { at = slice_index v.registers 2; desc = d }) c.frames
        (contents s laid (with_memory v b.hart) young taken held a c (within_there b st) named d is saves fit whole none there)
    allocation b st fits =
        let u : View = with_memory v b.hart in
        let w = within_there b st in
        allocates (hart_of s u b.hart) young (own_frame_of s laid u young taken held a c w named d is saves fit whole none there) c.frames
        (contents s laid u young taken held a c w named d is saves fit whole none there)
        (knows_of s laid u young taken held a c w named d is saves fit whole none there b.hart)
        (s.schedule.plan b.hart.services) (ap is_request asked ∙ request)
        (ready_of s laid u young taken held a c w named d is saves fit whole none there b.hart (young_from (hart_of s u b.hart)) (from_is b.hart)) fits

    -- there is room: the service goes on, with the same state under its new placement
    pub allocation_arrives : {q : Needs} → bytes_used (v.blocks ++ reverse young) ≤ s.heap →
        Arrives 1 s q v (λ w. (w.place ≡ v.place + 1) × Within s laid w [] taken (poisoned named held) a c)
    allocation_arrives fits = record {
      from = λ b0 st0.
          let b = ready s b0 in
          let st = ready_stands s b0 v st0 in
          let u : View = with_memory v b.hart in
          let w = within_there b st in
          let done = allocation b st fits in
          let restored : IsRestored taken (hart_of s u b.hart) (own_frame_of s laid u young taken held a c w named d is saves fit whole none there) c.frames
          (contents s laid u young taken held a c w named d is saves fit whole none there) done.new =
          subst (λ n. IsRestored n (hart_of s u b.hart) (own_frame_of s laid u young taken held a c w named d is saves fit whole none there) c.frames
          (contents s laid u young taken held a c w named d is saves fit whole none there) done.new) asked done.restored in
          let h' : Hart = left s laid u young taken held a c w named d is saves fit whole none there b.hart done.new (v.place + 1) restored in
          let same : done.new ≡ h' = left_is s laid u young taken held a c w named d is saves fit whole none there b.hart done.new (v.place + 1) restored in
          let after_it = within_after s laid u young taken held a c w named d is saves fit whole none there b.hart done.new (v.place + 1) restored in
          let pc = done.pc in
          inl (record {
            count = 1;
            some = omega arith;
            few = omega arith;
            answers = refl;
            calls = refl;
            view = view_after s laid u young taken held a c w named d is saves fit whole none there b.hart done.new (v.place + 1) restored;
            machine = with_hart b h';
            stands = record {
              image = refl;
              pc = omega (arith, pc);
              registers = refl;
              memory = like_refl done.new.memory after_it.usable.regions.each;
              regions = after_it.usable.regions;
              limit = inl restored.limit;
              stack_base = refl;
              heap = refl;
              blocks = refl;
              result = st.result;
              answers = st.answers;
              calls = st.calls;
            };
            by = λ j k e. to_allocation b0 st0 j k e
                ∙ ap (λ x. guarded_after s.schedule k (after_allocation x b))
                (ap (allocation_served (s.schedule.plan b.hart.services)) (hart_is s b v st) ∙ done.is ∙ ap Goes same);
            holds = (refl, after_it);
          });
    }

    -- there is none
    pub allocation_ends : s.heap < bytes_used (v.blocks ++ reverse young) → EndsRunAfter s 1 v HeapOut
    allocation_ends full = record {
      by = λ b0 st0 j k e.
          let b = ready s b0 in
          let st = ready_stands s b0 v st0 in
          let u : View = with_memory v b.hart in
          let w = within_there b st in
          to_allocation b0 st0 j k e
          ∙ ap (λ x. guarded_after s.schedule k (after_allocation x b))
          (ap (allocation_served (s.schedule.plan b.hart.services)) (hart_is s b v st)
          ∙ allocates_not (hart_of s u b.hart) young (own_frame_of s laid u young taken held a c w named d is saves fit whole none there) c.frames
          (contents s laid u young taken held a c w named d is saves fit whole none there)
          (knows_of s laid u young taken held a c w named d is saves fit whole none there b.hart)
          (s.schedule.plan b.hart.services) (ap is_request asked ∙ request)
          (ready_of s laid u young taken held a c w named d is saves fit whole none there b.hart (young_from (hart_of s u b.hart)) (from_is b.hart)) full)
          ∙ ap (λ x. guarded_after s.schedule k (Over x HeapOut)) st.calls;
    }

    pub allocation_any : (q : Needs) → bytes_used (v.blocks ++ reverse young) ≤ q.heap →
        Arrives 1 s q v (λ w. (w.place ≡ v.place + 1) × Within s laid w [] taken (poisoned named held) a c)
    allocation_any q need =
        ⊎_elim
        (λ full. ends_arrives s q 1 v (λ w. (w.place ≡ v.place + 1)
        × Within s laid w [] taken (poisoned named held) a c) HeapOut (inr (refl, omega (arith, full, need))) (allocation_ends full))
        (λ fits. allocation_arrives fits)
        (cases_lt s.heap (bytes_used (v.blocks ++ reverse young)))

  -- ---- the move of a frame call, where no bytes are taken

  module _ (nothing_taken : taken ≡ 0) where
    pub collection : (b : Machine) (st : HasView s b v) → bytes_used (v.blocks ++ reverse young) ≤ s.heap →
        IsCollected (s.schedule.plan b.hart.services) (hart_of s (with_memory v b.hart) b.hart) (record { at = slice_index v.registers 2; desc = d }) c.frames
        (contents s laid (with_memory v b.hart) young taken held a c (within_there b st) named d is saves fit whole none there)
    collection b st fits =
        let u : View = with_memory v b.hart in
        let w = within_there b st in
        collects (hart_of s u b.hart) young (own_frame_of s laid u young taken held a c w named d is saves fit whole none there) c.frames
        (contents s laid u young taken held a c w named d is saves fit whole none there)
        (knows_of s laid u young taken held a c w named d is saves fit whole none there b.hart)
        (s.schedule.plan b.hart.services)
        (ready_of s laid u young taken held a c w named d is saves fit whole none there b.hart (slice_index v.registers 26) (omega (arith, nothing_taken))) fits

    pub collection_not : (b : Machine) (st : HasView s b v) → s.heap < bytes_used (v.blocks ++ reverse young) →
        collected (s.schedule.plan b.hart.services) (hart_of s (with_memory v b.hart) b.hart) ≡ NoHeap
    collection_not b st full =
        let u : View = with_memory v b.hart in
        let w = within_there b st in
        collects_not (hart_of s u b.hart) young (own_frame_of s laid u young taken held a c w named d is saves fit whole none there) c.frames
        (contents s laid u young taken held a c w named d is saves fit whole none there)
        (knows_of s laid u young taken held a c w named d is saves fit whole none there b.hart)
        (s.schedule.plan b.hart.services)
        (ready_of s laid u young taken held a c w named d is saves fit whole none there b.hart (slice_index v.registers 26) (omega (arith, nothing_taken))) full
