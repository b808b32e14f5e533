-- The service of an external call, and where the machine is after it.
use Rattle.std.proofs.Common.{◌≡◌, ◌≢◌, ℕ, ◌+◌, ◌^◌, ◌<◌, ◌≤◌, inl, inr, Bool, true, false, cond, List, [], ◌∷◌, ◌++◌, Some, None, slice_get, slice_index, refl, ap, arith, ◌∙◌, sym, subst, get_or-set_same}
use Rattle.std.specs.List.{AllByRecursion}
use Rattle.bs_words.specs.External.{External}
use Rattle.bs_words.specs.Memory.{Memory}
use Rattle.bs_words.specs.Observed.{Made}
use Rattle.bs_words.specs.declared.types.Loc.{Loc}
use Rattle.bs_words.specs.declared.types.Loc.TheVariants as loc
use Rattle.bs_words.specs.declared.types.Ret.{Ret}
use Rattle.bs_words.specs.declared.types.Ret.TheVariants as ret
use Rattle.bs_words.specs.declared.values.Value.{Value}
use Rattle.bs_words.specs.declared.values.Value.TheVariants.{Word}
use Rattle.cmm_meaning.specs.State.{Gave}
use Rattle.guarded_machine.specs.Guarded.{guarded_after}
use Rattle.image_form.specs.Tables.{Tables}
use Rattle.lin_ir.specs.Meaning.{Locations, clear_destroyed}
use Rattle.mach_ir.specs.Acts.{Around}
use Rattle.mach_ir.specs.Meaning.{Temporaries, is_temporary}
use Rattle.rv_isa.specs.declared.instr.Instr.TheVariants.{Ecall}
use Rattle.rv_machine.specs.Hart.{Placed, past_ecall, with_register}
use Rattle.rv_machine.specs.Hart as next
use Rattle.rv_machine.specs.Services.{Machine, Going, machine_answered, call_made, called, destroyed, external, filled_registers, served}
use Rattle.rv_machine.specs.Sound.{AllWords, AreRegisters}
use Rattle.machine_laws.proofs.Words.{other_register, with_registers}
use Rattle.machine_laws.proofs.Serving.{filled_are}
use Rattle.moving_laws.specs.Stands.{AmongNumbers}
use Rattle.lin_machine.specs.Files.{HoldsLess}
use Rattle.lin_machine.specs.Outside.{GoesOn, Taken, taken_alone}
use Rattle.cmm_meaning.specs.Run.{given_back}
use Rattle.lin_machine.specs.Relation.{Below, Laid, ReturnStands, Within}
use Rattle.lin_machine.specs.View.{Fixed, IsInstructionAt, HasView, View}
use Rattle.lin_machine.proofs.Standing.{IsFree, within_changed}
use Rattle.lin_machine.proofs.Likes.{known_either}
use Rattle.lin_machine.proofs.Steps.{one_step, other_number, ready, ready_stands}

-- ---- what it destroys

pub filled_others : (rs xs : List ℕ) (q : ℕ) → (AmongNumbers q rs → ⊥) → slice_index (filled_registers rs xs) q ≡ slice_index xs q
filled_others [] xs q none = refl
filled_others (r ∷ rs) xs q none =
    filled_others rs (with_register r 0x5A5A5A5A5A5A5A5A xs) q (λ i. none (inr i)) ∙ other_register xs r q 0x5A5A5A5A5A5A5A5A (λ e. none (inl (sym e)))

-- a0 to a7 and t3 to t6
pub record IsLost (q : ℕ) : Type 0 where
  pub low : 10 ≤ q
  pub no_young : q ≢ 26
  pub no_domain : q ≢ 27
  pub temporary : is_temporary q ≡ true

all_among : (P : ℕ → Type 0) (rs : List ℕ) (q : ℕ) → AllByRecursion P rs → AmongNumbers q rs → P q
all_among P [] q all i = absurd i
all_among P (r ∷ rs) q all (inl e) = subst P (sym e) all.0
all_among P (r ∷ rs) q all (inr i) = all_among P rs q all.1 i

lost_one : (q : ℕ) → 10 ≤ q → q ≢ 26 → q ≢ 27 → is_temporary q ≡ true → IsLost q
lost_one q l a b t = record { low = l; no_young = a; no_domain = b; temporary = t }

all_lost : AllByRecursion IsLost destroyed
all_lost = (
  lost_one 10 (omega arith) (λ e. omega (arith, e)) (λ e. omega (arith, e)) refl,
  (
    lost_one 11 (omega arith) (λ e. omega (arith, e)) (λ e. omega
        (arith, e)) refl,
    (
      lost_one 12 (omega arith) (λ e. omega (arith, e)) (λ e. omega (arith, e)) refl,
      (
        lost_one 13 (omega arith) (λ e. omega (arith, e))
            (λ e. omega (arith, e)) refl,
        (
          lost_one 14 (omega arith) (λ e. omega (arith, e)) (λ e. omega (arith, e)) refl,
          (
            lost_one 15 (omega arith)
                (λ e. omega (arith, e)) (λ e. omega (arith, e)) refl,
            (
              lost_one 16 (omega arith) (λ e. omega (arith, e)) (λ e. omega (arith, e)) refl,
              (
                lost_one 17 (omega arith) (λ e. omega (arith, e)) (λ e. omega (arith, e)) refl,
                (
                  lost_one 28 (omega arith) (λ e. omega (arith, e))
                      (λ e. omega (arith, e)) refl,
                  (
                    lost_one 29 (omega arith) (λ e. omega (arith, e)) (λ e. omega (arith, e)) refl,
                    (
                      lost_one 30
                          (omega arith) (λ e. omega (arith, e)) (λ e. omega (arith, e)) refl,
                      (
                        lost_one 31 (omega arith) (λ e. omega (arith, e)) (λ e. omega
                            (arith, e)) refl,
                        tt,
                      ),
                    ),
                  ),
                ),
              ),
            ),
          ),
        ),
      ),
    ),
  ),
)

pub lost : (q : ℕ) → AmongNumbers q destroyed → IsLost q
lost q i = all_among IsLost destroyed q all_lost i

lost_free : (q : ℕ) → AmongNumbers q destroyed → IsFree q
lost_free q i =
    let g = lost q i in
    let low = g.low in
    record { some = omega (arith, low); no_trap = λ e. omega (arith, e, low); no_young = g.no_young; no_domain = g.no_domain }

-- what is left of a file
pub cleared_less : (held : Locations) → HoldsLess (clear_destroyed Temporaries held) held
cleared_less held = record { each = λ l x h. by_loc l x h }
  where
    by_test : (r : ℕ) (x : Value) (t : Bool) → cond t None (held (loc.Machine r)) ≡ Some x → held (loc.Machine r) ≡ Some x
    by_test r x true h = absurd (cc)
    by_test r x false h = h

    by_loc : (l : Loc) (x : Value) → clear_destroyed Temporaries held l ≡ Some x → held l ≡ Some x
    by_loc (loc.Machine r) x h = by_test r x (is_temporary r) h
    by_loc (loc.Slot j) x h = h
    by_loc loc.Unset x h = h

cleared_lost : (held : Locations) (q : ℕ) (x : Value) → AmongNumbers q destroyed → clear_destroyed Temporaries held (loc.Machine q) ≡ Some x → ⊥
cleared_lost held q x i h = let e = (lost q i).temporary in absurd (none (is_temporary q) e h)
  where
    none : (t : Bool) → t ≡ true → cond t None (held (loc.Machine q)) ≡ Some x → ⊥
    none true e h = absurd (cc)
    none false e h = absurd (cc)

-- ---- the registers after it

-- the answer is in a0, where one is wanted
abbrev pub behind : Ret → ℕ → List ℕ → List ℕ
behind ret.Unit x registers = filled_registers destroyed registers
behind (ret.Comp t) x registers = with_register 10 x (filled_registers destroyed registers)

pub behind_are : (result : Ret) (x : ℕ) (registers : List ℕ) → x < 2 ^ 64 → AreRegisters registers → AreRegisters (behind result x registers)
behind_are ret.Unit x registers small are = filled_are destroyed registers are
behind_are (ret.Comp t) x registers small are = with_registers (filled_registers destroyed registers) 10 x (filled_are destroyed registers are) small

pub behind_others : (result : Ret) (x : ℕ) (registers : List ℕ) (q : ℕ) → (AmongNumbers q destroyed → ⊥) →
    slice_index (behind result x registers) q ≡ slice_index registers q
behind_others ret.Unit x registers q none = filled_others destroyed registers q none
behind_others (ret.Comp t) x registers q none =
    other_register (filled_registers destroyed registers) 10 q x (λ e. none (inl (sym e))) ∙ filled_others destroyed registers q none

pub behind_result : (t : _) (x : ℕ) (registers : List ℕ) → AreRegisters registers → slice_index (behind (ret.Comp t) x registers) 10 ≡ x
behind_result t x registers are = let n = (filled_are destroyed registers are).count in get_or-set_same (filled_registers destroyed registers) 10 x 0 (omega (arith, n))

-- the function is after it with what is not destroyed
pub within_behind :
    (s : Fixed) (laid : Laid) (v : View) (young : List Placed) (held : Locations) (a : Around) (c : Below) → Within s laid v young 0 held a c →
    a.raised ≡ None →
    (place : ℕ) (registers answers : List ℕ) (calls : List Made) → AreRegisters registers →
    ((q : ℕ) → (AmongNumbers q destroyed → ⊥) → slice_index registers q ≡ slice_index v.registers q) →
    Within s laid (record { place = place; registers = registers; memory = v.memory; blocks = v.blocks; answers = answers; calls = calls; asked = false }) young 0
    (clear_destroyed Temporaries held) a c
within_behind s laid v young held a c within none place registers answers calls are others =
    let w : View = record { place = v.place + 0; registers = registers; memory = v.memory; blocks = v.blocks; answers = answers; calls = calls; asked = false } in
    let there = within_changed s laid v w young 0 held (clear_destroyed Temporaries held) a c 0 destroyed
    (record { place = refl; are = are; others = others; memory = refl; blocks = refl }) lost_free (cleared_less held)
    (λ e q x i h. cleared_lost held q x i h) (inl none) within in
    record {
      own = there.own;
      usable = record { regions = there.usable.regions; heap = there.usable.heap; apart = there.usable.apart };
      frame = there.frame;
      low = there.low;
      carried = there.carried;
      slots = there.slots;
      back = return_same laid.saves there.back;
      waits = there.waits;
      traps = there.traps;
      heap = there.heap;
    }
  where
    return_same : (b : Bool) →
        ReturnStands b (record { place = v.place + 0; registers = registers; memory = v.memory; blocks = v.blocks; answers = answers; calls = calls; asked = false }) c →
        ReturnStands b (record { place = place; registers = registers; memory = v.memory; blocks = v.blocks; answers = answers; calls = calls; asked = false }) c
    return_same true h = h
    return_same false h = h

-- ---- the service that moves no block

module _ (s : Fixed) (w : View) (code : IsInstructionAt s w.place Ecall) (service : slice_index w.registers 7 ≡ 2) (e : External)
    (there : slice_get s.image.extcs (slice_index w.registers 5) ≡ Some e) (call : Made)
    (shows : (a : Machine) → HasView s a w → call_made e a.hart ≡ call) where
  to_answered : (a : Machine) → HasView s a w → (j k : ℕ) → j ≡ 1 + k →
      guarded_after s.schedule j (Going a) ≡ guarded_after s.schedule k (machine_answered e.result call w.answers (ready s a))
  to_answered a st j k q =
      let b = ready s a in
      let ok = ready_stands s a w st in
      let t : slice_index b.hart.registers 7 ≡ 2 = ap (λ xs. slice_index xs 7) ok.registers ∙ service in
      let row : slice_get b.hart.image.extcs (slice_index b.hart.registers 5) ≡ Some e =
      ap (λ (i : Tables). slice_get i.extcs (slice_index b.hart.registers 5)) ok.image ∙ ap (λ xs. slice_get s.image.extcs
      (slice_index xs 5)) ok.registers ∙ there in
      one_step s a w Ecall (next.Service b.hart) st code (other_number s a w 2 st service (λ e. omega (arith, e))) refl j k q
      ∙ ap (λ y. guarded_after s.schedule k (served s.schedule.plan y b)) t
      ∙ ap (λ o. guarded_after s.schedule k (external o b)) row
      ∙ ap (λ y. guarded_after s.schedule k (machine_answered e.result y b.answers b)) (shows b ok)
      ∙ ap (λ y. guarded_after s.schedule k (machine_answered e.result call y b)) ok.answers

  -- the view after it
  abbrev pub view_behind : (registers answers : List ℕ) → View
  view_behind registers answers = record {
    place = w.place + 1;
    registers = registers;
    memory = w.memory;
    blocks = w.blocks;
    answers = answers;
    calls = w.calls ++ call ∷ [];
    asked = false;
  }

  goes_behind :
      (a : Machine) (st : HasView s a w) (r : Ret) (x : ℕ) (answers : List ℕ) (P : View → Type 0) →
      ((j k : ℕ) → j ≡ 1 + k → guarded_after s.schedule j (Going a) ≡ guarded_after s.schedule k (called call (past_ecall (record ((ready s a).hart) {
        registers = behind r x (ready s a).hart.registers;
      })) answers (ready s a))) → P (view_behind (behind r x w.registers) answers) → GoesOn s a (w.calls ++ call ∷ []) answers P
  goes_behind a st r x answers P by p =
      let b = ready s a in
      let ok = ready_stands s a w st in
      let pc = ok.pc in
      record {
        view = view_behind (behind r x w.registers) answers;
        machine = record b {
          hart = past_ecall (record (b.hart) { registers = behind r x b.hart.registers });
          answers = answers;
          calls = b.calls ++ call ∷ [];
        };
        stands = record {
          image = ok.image;
          pc = omega (arith, pc);
          registers = ap (behind r x) ok.registers;
          memory = ok.memory;
          regions = ok.regions;
          limit = known_either w.asked b.hart.memory ok.limit;
          stack_base = ok.stack_base;
          heap = ok.heap;
          blocks = ok.blocks;
          result = ok.result;
          answers = refl;
          calls = ap (λ cs. cs ++ call ∷ []) ok.calls;
        };
        answers_are = refl;
        calls_are = refl;
        by = by;
        holds = p;
      }

  -- Whatever answers there are, it goes on with what they say.
  pub alone_goes :
      (memory : Memory) (P : Taken → View → Type 0) →
      ((x : ℕ) (answers : List ℕ) → x < 2 ^ 64 → P (record { doing = Gave (given_back e.result x) memory; answers = answers })
      (view_behind (behind e.result x w.registers) answers)) → AllWords w.answers →
      (a : Machine) (t : Taken) → HasView s a w → taken_alone memory e.result w.answers ≡ Some t → GoesOn s a (w.calls ++ call ∷ []) t.answers (P t)
  alone_goes memory P holds words a t st taken = by_result e.result refl w.answers refl words taken
    where
      by_result : (r : Ret) → e.result ≡ r → (answers : List ℕ) → w.answers ≡ answers → AllWords answers → taken_alone memory r answers ≡ Some t →
          GoesOn s a (w.calls ++ call ∷ []) t.answers (P t)
      by_result ret.Unit f answers g all taken =
          let same : record { doing = Gave None memory; answers = answers } ≡ t = cc in
          subst (λ t. GoesOn s a (w.calls ++ call ∷ []) t.answers (P t)) same
          (goes_behind a st ret.Unit 0 answers (P (record { doing = Gave None memory; answers = answers }))
          (λ j k q. to_answered a st j k q ∙ ap (λ r. guarded_after s.schedule k (machine_answered r call w.answers (ready s a))) f
          ∙ ap (λ y. guarded_after s.schedule k (machine_answered ret.Unit call y (ready s a))) g)
          (subst (λ r. P (record { doing = Gave (given_back r 0) memory; answers = answers }) (view_behind (behind r 0 w.registers) answers)) f
          (holds 0 answers (omega arith))))
      by_result (ret.Comp c) f [] g all taken = absurd (cc)
      by_result (ret.Comp c) f (x ∷ answers) g all taken =
          let same : record { doing = Gave (Some (Word x)) memory; answers = answers } ≡ t = cc in
          subst (λ t. GoesOn s a (w.calls ++ call ∷ []) t.answers (P t)) same
          (goes_behind a st (ret.Comp c) x answers (P (record { doing = Gave (Some (Word x)) memory; answers = answers }))
          (λ j k q. to_answered a st j k q ∙ ap (λ r. guarded_after s.schedule k (machine_answered r call w.answers (ready s a))) f
          ∙ ap (λ y. guarded_after s.schedule k (machine_answered (ret.Comp c) call y (ready s a))) g)
          (subst (λ r. P (record { doing = Gave (given_back r x) memory; answers = answers }) (view_behind (behind r x w.registers) answers)) f
          (holds x answers (all 0))))
