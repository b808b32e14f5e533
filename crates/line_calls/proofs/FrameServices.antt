-- The service of a frame call: the blocks move, and then the call gives a value or raises one.
use Rattle.std.proofs.Common.{◌≡◌, ℕ, zero, suc, ◌+◌, ◌-◌, ◌*◌, ◌/◌, ◌%◌, ◌^◌, ◌<◌, ◌≤◌, ◌⊎◌, inl, inr, true, false, List, [], ◌∷◌, ◌++◌, length, reverse, Some, None, slice_get, slice_index, refl, ap, arith, ◌∙◌, sym, subst, ⊎_elim, get_or-set_same}
use Rattle.std.proofs.lemmas.Bool.{and_from, cases_lt, cond-true, eq-eqb, le-leb}
use Rattle.bs_words.specs.External.{External}
use Rattle.bs_words.specs.Fits.{data_start}
use Rattle.bs_words.specs.Memory.{Memory, heap_need}
use Rattle.bs_words.specs.Observed.{Made}
use Rattle.bs_words.specs.declared.types.Comp.TheVariants as comp
use Rattle.bs_words.specs.declared.types.Loc.{Loc}
use Rattle.bs_words.specs.declared.types.Ret.{Ret}
use Rattle.bs_words.specs.declared.types.Ret.TheVariants as ret
use Rattle.bs_words.specs.declared.values.Value.TheVariants.{Word}
use Rattle.cmm_meaning.specs.State.{Gave, Threw}
use Rattle.guarded_machine.specs.Guarded.{guarded_after}
use Rattle.image_form.specs.Tables.{Desc, Tables}
use Rattle.lin_ir.specs.Meaning.{Locations, are_vals, clear_destroyed, poisoned}
use Rattle.mach_ir.specs.Acts.{Around, is_complete}
use Rattle.mach_ir.specs.Meaning.{Temporaries}
use Rattle.rv_isa.specs.declared.instr.Instr.TheVariants.{Ecall}
use Rattle.rv_machine.specs.FrameCalls.{collected, has_trap_frame, raised, with_answer}
use Rattle.rv_machine.specs.Frames.{descriptor_at}
use Rattle.rv_machine.specs.Hart.{Hart, Placed, past_ecall, with_register}
use Rattle.rv_machine.specs.Hart as next
use Rattle.rv_machine.specs.Memory.{code_start, memory_word}
use Rattle.rv_machine.specs.Placement.{bytes_used}
use Rattle.rv_machine.specs.Places.{stack_end}
use Rattle.rv_machine.specs.Relocation.{Goes}
use Rattle.rv_machine.specs.Services.{HeapOut, Machine, Going, Over, after_collection, call_made, cleared, concluded, destroyed, filled_registers, machine_frame_answered, frame_call, served}
use Rattle.rv_machine.specs.Sound.{AllWords}
use Rattle.machine_laws.proofs.Memory.{word_below}
use Rattle.machine_laws.proofs.Words.{other_register, with_registers}
use Rattle.machine_laws.proofs.Serving.{filled_are}
use Rattle.moving_laws.proofs.Words.{same_or_not}
use Rattle.lin_machine.specs.Arrival.{Gone, Needs}
use Rattle.lin_machine.specs.Outside.{GoesOn, Taken, taken_moving}
use Rattle.cmm_meaning.specs.Run.{given_back}
use Rattle.lin_machine.specs.Relation.{Below, IsDescribed, Laid, Within, blocks_by_serial}
use Rattle.lin_machine.specs.Straight.{Differs}
use Rattle.lin_machine.specs.View.{Fixed, IsInstructionAt, HasView, View}
use Rattle.lin_machine.proofs.Jumps.{back_place}
use Rattle.lin_machine.proofs.Likes.{like_refl}
use Rattle.lin_machine.proofs.Moving.{left, left_is, within_after}
use Rattle.lin_machine.proofs.Serving.{collection, collection_not, hart_is, with_memory, within_there}
use Rattle.lin_machine.proofs.Steps.{one_step, other_number, ready, ready_stands}
use Rattle.lin_machine.proofs.Storing.{bytes_need}
use Rattle.line_calls.proofs.Outside.{behind, behind_are, behind_others, behind_result, within_behind}
use Rattle.line_calls.proofs.Traps.{IsTrap, is_trap}

answer_is : (r : Ret) (x : ℕ) (registers : List ℕ) → with_answer r x (filled_registers destroyed registers) ≡ behind r x registers
answer_is ret.Unit x registers = refl
answer_is (ret.Comp t) x registers = refl

-- ---- what the machine does

module _ (s : Fixed) (w : View) (code : IsInstructionAt s w.place Ecall) (service : slice_index w.registers 7 ≡ 4) (e : External)
    (there : slice_get s.image.extcs (slice_index w.registers 5) ≡ Some e) (call : Made)
    (shows : (a : Machine) → HasView s a w → call_made e a.hart ≡ call) where
  pub to_collected : (a : Machine) → HasView s a w → (j k : ℕ) → j ≡ 1 + k →
      guarded_after s.schedule j (Going a) ≡ guarded_after s.schedule k (machine_frame_answered (s.schedule.plan (ready s a).hart.services) e.result call w.answers (ready s a))
  to_collected a st j k q =
      let b = ready s a in
      let ok = ready_stands s a w st in
      let t : slice_index b.hart.registers 7 ≡ 4 = ap (λ xs. slice_index xs 7) ok.registers ∙ service in
      let row : slice_get b.hart.image.extcs (slice_index b.hart.registers 5) ≡ Some e =
      ap (λ (i : Tables). slice_get i.extcs (slice_index b.hart.registers 5)) ok.image ∙ ap (λ xs. slice_get s.image.extcs
      (slice_index xs 5)) ok.registers ∙ there in
      one_step s a w Ecall (next.Service b.hart) st code (other_number s a w 4 st service (λ e. omega (arith, e))) refl j k q
      ∙ ap (λ y. guarded_after s.schedule k (served s.schedule.plan y b)) t
      ∙ ap (λ o. guarded_after s.schedule k (frame_call (s.schedule.plan b.hart.services) o b)) row
      ∙ ap (λ y. guarded_after s.schedule k (machine_frame_answered (s.schedule.plan b.hart.services) e.result y b.answers b)) (shows b ok)
      ∙ ap (λ y. guarded_after s.schedule k (machine_frame_answered (s.schedule.plan b.hart.services) e.result call y b)) ok.answers

  module _ (laid : Laid) (young : List Placed) (held : Locations) (a : Around) (c : Below) (within : Within s laid w young 0 held a c) (point : List Loc)
      (d : Desc)
      (is : IsDescribed laid (length a.tries) point d) (saves : laid.saves ≡ true) (fit : are_vals (data_start + length s.image.bytes) point held ≡ true)
      (whole : is_complete a ≡ true) (none : a.raised ≡ None) (marked : descriptor_at s.image.descs (code_start + 4 * w.place + 4) ≡ Some d) where
    -- the blocks have moved, and nothing else has happened
    pub record Moved (b : Machine) : Type 0 where
      pub new : Hart
      pub is_new : collected (s.schedule.plan b.hart.services) b.hart ≡ Goes new
      pub pc : new.pc ≡ code_start + 4 * w.place
      pub image : new.image ≡ s.image
      pub stack_base : new.stack_base ≡ s.base
      pub heap : new.heap ≡ s.heap
      pub stands : Within s laid (record {
        place = w.place;
        registers = new.registers;
        memory = new.memory;
        blocks = new.blocks;
        answers = w.answers;
        calls = w.calls;
        asked = false;
      }) [] 0 (poisoned point held) a c
      pub limit : memory_word new.memory 0x20000000 ≡ 0x38000000

    moves : (b : Machine) → HasView s b w → bytes_used (w.blocks ++ reverse young) ≤ s.heap → Moved b
    moves b st fits =
        let u : View = with_memory w b.hart in
        let wu = within_there s laid w young 0 held a c within point d is saves fit whole none marked b st in
        let done = collection s laid w young 0 held a c within point d is saves fit whole none marked refl b st fits in
        let same : done.new ≡ left s laid u young 0 held a c wu point d is saves fit whole none marked b.hart done.new w.place done.restored =
        left_is s laid u young 0 held a c wu point d is saves fit whole none marked b.hart done.new w.place done.restored in
        record {
          new = done.new;
          is_new = ap (collected (s.schedule.plan b.hart.services)) (hart_is s b w st) ∙ done.is;
          pc = done.pc;
          image = done.restored.image;
          stack_base = done.restored.stack_base;
          heap = done.restored.heap;
          stands = within_after s laid u young 0 held a c wu point d is saves fit whole none marked b.hart done.new w.place done.restored;
          limit = done.restored.limit;
        }

    -- ---- after it

    -- the call gives a value
    gives_at :
        (b : Machine) → HasView s b w → (m : Moved b) (t : Ret) (x : ℕ) (answers : List ℕ) (P : View → Type 0) (first : Machine) → x < 2 ^ 64 →
        ((j k : ℕ) → j ≡ 1 + k → guarded_after s.schedule j (Going first) ≡ guarded_after s.schedule k (concluded t call 0 x answers m.new b)) →
        ((u : View) → Within s laid u [] 0 (clear_destroyed Temporaries (poisoned point held)) a c → u.place ≡ w.place + 1 →
        slice_index u.registers 10 ≡ slice_index (behind t x m.new.registers) 10 → P u) →
        GoesOn s first (w.calls ++ call ∷ []) answers P
    gives_at b st m t x answers P first small by holds =
        let regs : List ℕ = behind t x m.new.registers in
        let pc = m.pc in
        let wm = m.stands in
        let view : View = record {
          place = w.place + 1;
          registers = behind t x m.new.registers;
          memory = m.new.memory;
          blocks = m.new.blocks;
          answers = answers;
          calls = w.calls ++ call ∷ [];
          asked = false;
        } in
        record {
          view = view;
          machine = record b {
            hart = past_ecall (record (m.new) { registers = with_answer t x (filled_registers destroyed m.new.registers) });
            answers = answers;
            calls = b.calls ++ call ∷ [];
          };
          stands = record {
            image = m.image;
            pc = omega (arith, pc);
            registers = answer_is t x m.new.registers;
            memory = like_refl m.new.memory wm.usable.regions.each;
            regions = wm.usable.regions;
            limit = inl m.limit;
            stack_base = m.stack_base;
            heap = m.heap;
            blocks = refl;
            result = st.result;
            answers = refl;
            calls = ap (λ cs. cs ++ call ∷ []) st.calls;
          };
          answers_are = refl;
          calls_are = refl;
          by = by;
          holds = holds view
              (within_behind s laid _ [] (poisoned point held) a c wm none (w.place + 1) (behind t x m.new.registers) answers (w.calls ++ call ∷ [])
              (behind_are t x m.new.registers small wm.own.are) (λ q i. behind_others t x m.new.registers q i)) refl refl;
        }

    -- there is a trap frame
    frame_there : (b : Machine) (m : Moved b) → has_trap_frame m.new ≡ true
    frame_there b m =
        let wm = m.stands in
        let at = is_trap s m.new.memory _ _ wm.waits.bottom wm.traps in
        let even = at.even in
        let low = at.low in
        let high = at.high in
        let base = m.stack_base in
        and_from _ _ (and_from _ _ (eq-eqb (slice_index m.new.registers 9 % 8) 0 even)
        (le-leb m.new.stack_base (slice_index m.new.registers 9) (omega (arith, base, low)))) (le-leb (slice_index m.new.registers 9 + 16) stack_end high)

    -- it raises one
    raises_at :
        (b : Machine) → HasView s b w → (m : Moved b) (t : Ret) (k1 x : ℕ) (answers : List ℕ) (P : View → Type 0) (first : Machine) → x < 2 ^ 64 →
        ((j k : ℕ) → j ≡ 1 + k → guarded_after s.schedule j (Going first) ≡ guarded_after s.schedule k (concluded t call (suc k1) x answers m.new b)) →
        ((v u : View) → Within s laid v [] 0 (clear_destroyed Temporaries (poisoned point held)) a c → Differs (2 ∷ 6 ∷ 7 ∷ 9 ∷ []) v.memory v u →
        slice_index u.registers 2 ≡ slice_index v.registers 9 + 16 → slice_index u.registers 9 ≡ memory_word v.memory (slice_index v.registers 9 + 8) →
        code_start + 4 * u.place ≡ memory_word v.memory (slice_index v.registers 9) → slice_index u.registers 10 ≡ x → P u) →
        GoesOn s first (w.calls ++ call ∷ []) answers P
    raises_at b st m t k1 x answers P first small by holds =
        let wm = m.stands in
        let is_lost = filled_are destroyed m.new.registers wm.own.are in
        let count = is_lost.count in
        let v : View = record {
          place = w.place + 1;
          registers = with_register 10 x (filled_registers destroyed m.new.registers);
          memory = m.new.memory;
          blocks = m.new.blocks;
          answers = answers;
          calls = w.calls ++ call ∷ [];
          asked = false;
        } in
        let wv : Within s laid v [] 0 (clear_destroyed Temporaries (poisoned point held)) a c =
        within_behind s laid _ [] (poisoned point held) a c wm none (w.place + 1) (with_register 10 x (filled_registers destroyed m.new.registers)) answers
        (w.calls ++ call ∷ []) (with_registers (filled_registers destroyed m.new.registers) 10 x is_lost small)
        (λ q i. behind_others (ret.Comp comp.Int) x m.new.registers q i) in
        let nine : slice_index (with_register 10 x (filled_registers destroyed m.new.registers)) 9 ≡ slice_index (filled_registers destroyed m.new.registers) 9 =
        other_register (filled_registers destroyed m.new.registers) 10 9 x (λ e. omega (arith, e)) in
        let at : IsTrap s m.new.memory (slice_index (filled_registers destroyed m.new.registers) 9) =
        subst (IsTrap s m.new.memory) nine (is_trap s m.new.memory _ _ wv.waits.bottom wv.traps) in
        let high = at.high in
        let sp_set : List ℕ = with_register 2 (slice_index (filled_registers destroyed m.new.registers) 9 + 16) (filled_registers destroyed m.new.registers) in
        let both_set : List ℕ = with_register 9 (memory_word m.new.memory (slice_index (filled_registers destroyed m.new.registers) 9 + 8))
        (with_register 2 (slice_index (filled_registers destroyed m.new.registers) 9 + 16) (filled_registers destroyed m.new.registers)) in
        let are_sp = with_registers (filled_registers destroyed m.new.registers) 2 (slice_index (filled_registers destroyed m.new.registers) 9 + 16) is_lost (omega
        (arith, high)) in
        let are_both = with_registers sp_set 9 (memory_word m.new.memory (slice_index (filled_registers destroyed m.new.registers) 9 + 8)) are_sp
        (word_below m.new.memory _) in
        let are_all = with_registers both_set 10 x are_both small in
        let count_sp = are_sp.count in
        let count_both = are_both.count in
        let u : View = record {
          place = (memory_word m.new.memory (slice_index (filled_registers destroyed m.new.registers) 9) - 0x10000) / 4;
          registers = with_register 10 x (with_register 9 (memory_word m.new.memory (slice_index (filled_registers destroyed m.new.registers) 9 + 8))
              (with_register 2 (slice_index (filled_registers destroyed m.new.registers) 9 + 16) (filled_registers destroyed m.new.registers)));
          memory = m.new.memory;
          blocks = m.new.blocks;
          answers = answers;
          calls = w.calls ++ call ∷ [];
          asked = false;
        } in
        let place : code_start + 4 * ((memory_word m.new.memory (slice_index (filled_registers destroyed m.new.registers) 9) - 0x10000) / 4)
        ≡ memory_word m.new.memory (slice_index (filled_registers destroyed m.new.registers) 9) = back_place _ at.back in
        let ten : slice_index (with_register 10 x both_set) 10 ≡ x = get_or-set_same both_set 10 x 0 (omega (arith, count_both)) in
        let differs : Differs (2 ∷ 6 ∷ 7 ∷ 9 ∷ []) m.new.memory v u = record {
          are = are_all;
          others = λ q none. ⊎_elim
              (λ (e : q ≡ 10). subst (λ z. slice_index (with_register 10 x both_set) z ≡ slice_index (with_register 10 x
              (filled_registers destroyed m.new.registers)) z) (sym e)
              (ten ∙ sym (get_or-set_same (filled_registers destroyed m.new.registers) 10 x 0 (omega (arith, count)))))
              (λ no. other_register both_set 10 q x (λ e. no (sym e))
              ∙ other_register sp_set 9 q (memory_word m.new.memory (slice_index (filled_registers destroyed m.new.registers) 9 + 8)) (λ e. none (inr (inr (inr (inl
              (sym e))))))
              ∙ other_register (filled_registers destroyed m.new.registers) 2 q (slice_index (filled_registers destroyed m.new.registers) 9 + 16) (λ e. none (inl (sym e)))
              ∙ sym (other_register (filled_registers destroyed m.new.registers) 10 q x (λ e. no (sym e))))
              (same_or_not q 10);
          memory = refl;
          blocks = refl;
        } in
        let two : slice_index (with_register 10 x both_set) 2 ≡ slice_index (filled_registers destroyed m.new.registers) 9 + 16 =
        other_register both_set 10 2 x (λ e. omega (arith, e))
        ∙ other_register sp_set 9 2 (memory_word m.new.memory (slice_index (filled_registers destroyed m.new.registers) 9 + 8)) (λ e. omega (arith, e))
        ∙ get_or-set_same (filled_registers destroyed m.new.registers) 2 (slice_index (filled_registers destroyed m.new.registers) 9 + 16) 0 (omega (arith, count)) in
        let nine_now : slice_index (with_register 10 x both_set) 9 ≡ memory_word m.new.memory (slice_index (filled_registers destroyed m.new.registers) 9 + 8) =
        other_register both_set 10 9 x (λ e. omega (arith, e))
        ∙ get_or-set_same sp_set 9 (memory_word m.new.memory (slice_index (filled_registers destroyed m.new.registers) 9 + 8)) 0 (omega (arith, count_sp)) in
        let old_trap : slice_index (filled_registers destroyed m.new.registers) 9 ≡ slice_index v.registers 9 = sym nine in
        record {
          view = u;
          machine = record b { hart = raised x (cleared m.new); answers = answers; calls = b.calls ++ call ∷ [] };
          stands = record {
            image = m.image;
            pc = sym place;
            registers = refl;
            memory = like_refl m.new.memory wm.usable.regions.each;
            regions = wm.usable.regions;
            limit = inl m.limit;
            stack_base = m.stack_base;
            heap = m.heap;
            blocks = refl;
            result = st.result;
            answers = refl;
            calls = ap (λ cs. cs ++ call ∷ []) st.calls;
          };
          answers_are = refl;
          calls_are = refl;
          by = λ j k q. by j k q
              ∙ ap (guarded_after s.schedule k) (cond-true (has_trap_frame m.new) _ _ (frame_there b m));
          holds = holds v u wv differs (two ∙ ap (λ z. z + 16) old_trap) (nine_now ∙ ap (λ z. memory_word m.new.memory (z + 8)) old_trap)
              (place ∙ ap (memory_word m.new.memory) old_trap) ten;
        }

    -- ---- by the answers

    pub frame_goes :
        (needs : Needs) → needs.heap ≡ heap_need a.memory → (memory : Memory) (P : Taken → View → Type 0) → AllWords w.answers →
        ((x : ℕ) (answers : List ℕ) (u : View) → Within s laid u [] 0 (clear_destroyed Temporaries (poisoned point held)) a c → u.place ≡ w.place + 1 →
        ((t : _) → e.result ≡ ret.Comp t → slice_index u.registers 10 ≡ x) → P (record { doing = Gave (given_back e.result x) memory; answers = answers }) u) →
        ((x : ℕ) (answers : List ℕ) (v u : View) → Within s laid v [] 0 (clear_destroyed Temporaries (poisoned point held)) a c →
        Differs (2 ∷ 6 ∷ 7 ∷ 9 ∷ []) v.memory v u →
        slice_index u.registers 2 ≡ slice_index v.registers 9 + 16 → slice_index u.registers 9 ≡ memory_word v.memory (slice_index v.registers 9 + 8) →
        code_start + 4 * u.place ≡ memory_word v.memory (slice_index v.registers 9) → slice_index u.registers 10 ≡ x →
        P (record { doing = Threw (Word x) memory; answers = answers }) u) →
        (first : Machine) (t : Taken) → HasView s first w → taken_moving memory e.result w.answers ≡ Some t →
        GoesOn s first (w.calls ++ call ∷ []) t.answers (P t) ⊎ Gone s needs w first
    frame_goes needs need memory P words gives throws first t st taken = by_answers w.answers refl words taken
      where
        b : Machine
        b = ready s first

        full : (k1 x : ℕ) (answers : List ℕ) → w.answers ≡ k1 ∷ x ∷ answers → s.heap < bytes_used (w.blocks ++ reverse young) → Gone s needs w first
        full k1 x answers g lack =
            let ok = ready_stands s first w st in
            let used = bytes_need s (blocks_by_serial w young) w.memory a within.heap in
            record {
              count = 1;
              end = HeapOut;
              want = inr (refl, omega (arith, lack, used, need));
              by = λ j k q. to_collected first st j k q
                  ∙ ap (λ y. guarded_after s.schedule k (machine_frame_answered (s.schedule.plan (ready s first).hart.services) e.result call y (ready s first))) g
                  ∙ ap (λ z. guarded_after s.schedule k (after_collection e.result call k1 x answers z (ready s first)))
                  (ap (collected (s.schedule.plan (ready s first).hart.services)) (hart_is s (ready s first) w ok)
                  ∙ collection_not s laid w young 0 held a c within point d is saves fit whole none marked refl (ready s first) ok lack)
                  ∙ ap (λ cs. guarded_after s.schedule k (Over cs HeapOut)) ok.calls;
            }

        concludes :
            (k1 x : ℕ) (answers : List ℕ) → w.answers ≡ k1 ∷ x ∷ answers → (m : Moved (ready s first)) → (j k : ℕ) → j ≡ 1 + k →
            guarded_after s.schedule j (Going first) ≡ guarded_after s.schedule k (concluded e.result call k1 x answers m.new (ready s first))
        concludes k1 x answers g m j k q =
            to_collected first st j k q
            ∙ ap (λ y. guarded_after s.schedule k (machine_frame_answered (s.schedule.plan (ready s first).hart.services) e.result call y (ready s first))) g
            ∙ ap (λ z. guarded_after s.schedule k (after_collection e.result call k1 x answers z (ready s first))) m.is_new

        by_answers : (answers : List ℕ) → w.answers ≡ answers → AllWords answers → taken_moving memory e.result answers ≡ Some t →
            GoesOn s first (w.calls ++ call ∷ []) t.answers (P t) ⊎ Gone s needs w first
        by_answers [] g all taken = absurd (cc)
        by_answers (k1 ∷ []) g all taken = absurd (cc)
        by_answers (zero ∷ x ∷ answers) g all taken =
            let same : record { doing = Gave (given_back e.result x) memory; answers = answers } ≡ t = cc in
            let ok = ready_stands s first w st in
            ⊎_elim (λ lack. inr (full 0 x answers g lack))
            (λ fits.
            let m = moves (ready s first) ok fits in
            inl (subst (λ t. GoesOn s first (w.calls ++ call ∷ []) t.answers (P t)) same
            (gives_at (ready s first) ok m e.result x answers (P (record { doing = Gave (given_back e.result x) memory; answers = answers })) first (all 1)
            (concludes 0 x answers g m)
            (λ u wu at ten. gives x answers u wu at (λ q f. ten ∙ ap (λ r. slice_index (behind r x m.new.registers) 10) f
            ∙ behind_result q x m.new.registers m.stands.own.are)))))
            (cases_lt s.heap (bytes_used (w.blocks ++ reverse young)))
        by_answers (suc k1 ∷ x ∷ answers) g all taken =
            let same : record { doing = Threw (Word x) memory; answers = answers } ≡ t = cc in
            let ok = ready_stands s first w st in
            ⊎_elim (λ lack. inr (full (suc k1) x answers g lack))
            (λ fits.
            let m = moves (ready s first) ok fits in
            inl (subst (λ t. GoesOn s first (w.calls ++ call ∷ []) t.answers (P t)) same
            (raises_at (ready s first) ok m e.result k1 x answers (P (record { doing = Threw (Word x) memory; answers = answers })) first (all 1)
            (concludes (suc k1) x answers g m) (λ v u wv df h2 h9 hp h10. throws x answers v u wv df h2 h9 hp h10))))
            (cases_lt s.heap (bytes_used (w.blocks ++ reverse young)))
