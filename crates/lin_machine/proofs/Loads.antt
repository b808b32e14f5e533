-- Lines that load 8 bytes.
use Rattle.std.proofs.Common.{◌≡◌, ◌≢◌, ℕ, zero, suc, ◌+◌, ◌^◌, ◌<◌, ◌⊎◌, inl, Bool, true, false, cond, List, [], ◌∷◌, length, Option, Some, None, Result, Ok, Err, slice_index, refl, ap, ◌∙◌, sym, subst}
use Rattle.bs_words.specs.Fits.{fits, misfit}
use Rattle.bs_words.specs.Memory.{Cell, cell_at, end_of_data, loaded_from, value_of_type, type_of_chunk, value_in_cell, width}
use Rattle.bs_words.specs.Memory as memory
use Rattle.bs_words.specs.Word.{add_word}
use Rattle.bs_words.specs.declared.types.Chunk.{Chunk}
use Rattle.bs_words.specs.declared.types.Chunk.TheVariants as chunk
use Rattle.bs_words.specs.declared.types.Ty.{Ty}
use Rattle.bs_words.specs.declared.values.Kind.{Kind}
use Rattle.bs_words.specs.declared.values.Value.{Value}
use Rattle.bs_words.specs.declared.values.Value.TheVariants.{Function}
use Rattle.mach_ir.specs.Acts.{Around, Stuck, is_among_cells, loaded_act, moved_by, one_result}
use Rattle.mach_ir.specs.Runs.{ActivationSetting}
use Rattle.mach_ir.specs.declared.op.Access.TheVariants as access
use Rattle.mach_ir.specs.declared.op.Op.TheVariants as op
use Rattle.rv_isa.specs.declared.instr.Instr.TheVariants.{Load}
use Rattle.rv_isa.specs.declared.instr.LoadWidth.TheVariants.{Ld}
use Rattle.rv_machine.specs.Arithmetic.{imm_i}
use Rattle.rv_machine.specs.Hart.{Placed}
use Rattle.rv_machine.specs.Memory.{memory_word}
use Rattle.machine_laws.proofs.Memory.{word_below}
use Rattle.lin_ir.specs.Meaning.{Locations, NamedAt, on_act, on_values, assign_spot, step}
use Rattle.lin_ir.specs.declared.lin.LinOp.TheVariants as lin
use Rattle.lin_ir.specs.declared.lin.Lin.{Lin}
use Rattle.lin_ir.specs.declared.lin.Line.{Line}
use Rattle.lin_ir.specs.declared.lin.Spot.{Spot}
use Rattle.moving_laws.specs.Stands.{AmongNumbers}
use Rattle.moving_laws.specs.Values.{value_word}
use Rattle.lin_machine.specs.Follows.{Agrees, FollowsStep}
use Rattle.lin_machine.specs.Relation.{Below, Laid, StandsFor, Within, blocks_by_serial}
use Rattle.lin_machine.specs.Straight.{Changes}
use Rattle.lin_machine.specs.View.{Fixed, View, IsInstructionAt}
use Rattle.lin_machine.proofs.Following.{PassesSpare, result_follows}
use Rattle.lin_machine.proofs.Formats.{sets_load}
use Rattle.lin_machine.proofs.Loading.{cell_there, moved_word}
use Rattle.lin_machine.proofs.Operating.{IsTarget, unary}
use Rattle.lin_machine.proofs.Parts.{Fetches, Keeps}
use Rattle.lin_machine.proofs.Pure.{Reads, reads_held}
use Rattle.lin_machine.proofs.Reading.{reads_one}
use Rattle.lin_machine.proofs.Sequences.{set_changes, widened}
use Rattle.lin_machine.proofs.Standing.{IsScratch}

-- a chunk of 8 bytes
pub data IsWhole : Chunk → Type 0 where
  whole_int : IsWhole chunk.Int
  whole_val : IsWhole chunk.Val

whole_width : {k : Chunk} → IsWhole k → width k ≡ 8
whole_width whole_int = refl
whole_width whole_val = refl

pub fit_is : (end : ℕ) (t : Ty) (v z : Value) → value_of_type end t v ≡ Ok z → v ≡ z
fit_is end t v z e = by_test (fits end t v) e
  where
    by_test : (b : Bool) → cond b (Ok v) (Err (misfit t)) ≡ Ok z → v ≡ z
    by_test true e = cc
    by_test false e = absurd (cc)

-- what is loaded is the cell's value
pub loaded_value : {k : Chunk} → IsWhole k → (a : Around) (cell : Cell) (offset : ℕ) (z : Value) → loaded_from k a.memory offset (Some cell) ≡ Ok z →
    value_in_cell a.memory cell ≡ z
loaded_value whole_int a cell offset z e = fit_is (end_of_data a.memory) (type_of_chunk chunk.Int) (value_in_cell a.memory cell) z e
loaded_value whole_val a cell offset z e = fit_is (end_of_data a.memory) (type_of_chunk chunk.Val) (value_in_cell a.memory cell) z e

module _ (s : Fixed) (laid : Laid) (live : List Line → Type 0) (entry : ℕ → ℕ) (c : Below) (place : ActivationSetting) (named : NamedAt) (code : Lin) (next : List Line)
    (v : View) (young : List Placed) (held file : Locations) (a : Around) (none : a.raised ≡ None) (within : Within s laid v young 0 held a c)
    (before : Type 0) (agrees : Agrees before held file) (r : Spot) (passes : PassesSpare before (live next) r.loc)
    (t : ℕ) (rest : Locations) (target : IsTarget held rest t) (rs : List ℕ) (only : (q : ℕ) → AmongNumbers q rs → (q ≡ t) ⊎ IsScratch q) where
  -- The address is in a register, and the words bring what lies so many bytes further into the
  -- target.
  pub load_follows :
      (k : Chunk) → IsWhole k → (offset : ℕ) (p : Spot) (n1 n m ra : ℕ) (scratch : List ℕ) → laid.part (length next) ≡ v.place + (n1 + (n + m)) →
      Reads before p.loc →
      ((x : Value) → held p.loc ≡ Some x → Fetches s laid young a c held v.place n1 scratch ra x) →
      ((z : Value) → Keeps s laid young a c rest (assign_spot r z held) (v.place + n1 + n) m t z) →
      ((x z : Value) (cell : Cell) (u : View) → cell_at a.memory 8 (moved_by offset x) ≡ Some cell → is_among_cells cell a.unwritten ≡ false →
      value_in_cell a.memory cell ≡ z →
      u.place ≡ v.place + n1 → Within s laid u young 0 held a c → StandsFor s (blocks_by_serial u young) (slice_index u.registers ra) x →
      Changes s u n rs u.memory (λ w. StandsFor s (blocks_by_serial u young) (slice_index w.registers t) z)) →
      FollowsStep (n1 + (n + m)) s laid live entry c v
      (step place named code (record {
        rest = record { op = lin.Op (op.Access (access.Load k offset)); args = p ∷ []; results = r ∷ [] } ∷ next;
        file = file;
        around = a;
      }))
  load_follows k whole offset p n1 n m ra scratch laid_next reads_p first keeps work =
      reads_one place.setting.end file (λ vs. FollowsStep (n1 + (n + m)) s laid live entry c v (on_values place (named
      (length next)) code line next file a vs)) tt p
      (λ x h e. by_cell x (cell_at a.memory (width k) (moved_by offset x)) refl h)
    where
      line : Line
      line = record { op = lin.Op (op.Access (access.Load k offset)); args = p ∷ []; results = r ∷ [] }

      by_result : (x : Value) (cell : Cell) (o : Result Value Kind) → cell_at a.memory (width k) (moved_by offset x) ≡ Some cell →
          is_among_cells cell a.unwritten ≡ false → memory.loaded k a.memory (moved_by offset x) ≡ o →
          file p.loc ≡ Some x → FollowsStep (n1 + (n + m)) s laid live entry c v
          (on_act place code (record { op = lin.Op (op.Access (access.Load k offset)); args = p ∷ []; results = r ∷ [] }) next file a (one_result a o))
      by_result x cell (Err kind) e w f h = tt
      by_result x cell (Ok z) e w f h =
          let same : value_in_cell a.memory cell ≡ z =
          loaded_value whole a cell (memory.offset_in_cell (moved_by offset x)) z (ap (loaded_from k a.memory (memory.offset_in_cell (moved_by offset x)))
          (sym e) ∙ f) in
          let there : cell_at a.memory 8 (moved_by offset x) ≡ Some cell = subst (λ b. cell_at a.memory b (moved_by offset x) ≡ Some cell)
          (whole_width whole) e in
          result_follows s laid live entry c v next before (n1 + (n + m)) place.setting.end r z young held file a laid_next agrees passes
          (λ fit. unary s laid young a c none held rest (assign_spot r z held) v.place n1 n m ra t scratch rs x z
          (first x (reads_held before held file p.loc agrees reads_p ∙ h)) target only (keeps z)
          (λ u pl i sx. work x z cell u there w same pl i sx) v refl within)

      by_written : (x : Value) (cell : Cell) (b : Bool) → is_among_cells cell a.unwritten ≡ b → cell_at a.memory (width k) (moved_by offset x) ≡ Some cell →
          file p.loc ≡ Some x →
          FollowsStep (n1 + (n + m)) s laid live entry c v
          (on_act place code (record {
            op = lin.Op (op.Access (access.Load k offset));
            args = p ∷ [];
            results = r ∷ [];
          }) next file a (cond b Stuck (one_result a (memory.loaded k a.memory (moved_by offset x)))))
      by_written x cell true w e h = tt
      by_written x cell false w e h = by_result x cell (memory.loaded k a.memory (moved_by offset x)) e w refl h

      by_cell : (x : Value) (o : Option Cell) → cell_at a.memory (width k) (moved_by offset x) ≡ o → file p.loc ≡ Some x →
          FollowsStep (n1 + (n + m)) s laid live entry c v
          (on_act place code (record {
            op = lin.Op (op.Access (access.Load k offset));
            args = p ∷ [];
            results = r ∷ [];
          }) next file a (loaded_act a o (memory.loaded k a.memory (moved_by offset x))))
      by_cell x None e h = tt
      by_cell x (Some cell) e h = by_written x cell (is_among_cells cell a.unwritten) refl e h

-- one instruction loads what lies at a number of bytes from an address, where its immediate says so
-- many
pub load_works :
    (s : Fixed) (laid : Laid) (u : View) (young : List Placed) (held : Locations) (a : Around) (c : Below) → Within s laid u young 0 held a c →
    (t ra offset imm : ℕ) → suc t < 32 → suc t ≢ 2 → offset < 2 ^ 64 →
    (x z : Value) (cell : Cell) → cell_at a.memory 8 (moved_by offset x) ≡ Some cell → is_among_cells cell a.unwritten ≡ false → value_in_cell a.memory cell ≡ z →
    imm_i imm ≡ offset →
    StandsFor s (blocks_by_serial u young) (slice_index u.registers (suc ra)) x → IsInstructionAt s u.place (Load Ld (suc t) (suc ra) imm) →
    Changes s u 1 (suc t ∷ []) u.memory (λ w. StandsFor s (blocks_by_serial u young) (slice_index w.registers (suc t)) z)
load_works s laid u young held a c within t ra offset imm fits other small x z cell there written same e sx code =
    let at : ℕ = value_word s.image (blocks_by_serial u young) (moved_by offset x) in
    let sum : add_word (slice_index u.registers (suc ra)) (imm_i imm) ≡ value_word s.image (blocks_by_serial u young) (moved_by offset x) =
    ap (add_word (slice_index u.registers (suc ra))) e
    ∙ moved_word s (blocks_by_serial u young) offset (slice_index u.registers (suc ra)) x small (within.own.are.words (suc ra)) (no_function x there) sx.is in
    let is = cell_there s (blocks_by_serial u young) u.memory within.usable.regions a within.heap (moved_by offset x) cell there written in
    widened s u 1 (suc t ∷ []) (suc t ∷ []) u.memory (λ w. slice_index w.registers (suc t) ≡ memory_word u.memory (value_word s.image (blocks_by_serial u young)
    (moved_by offset x))) _ (λ q i. i)
    (λ w p h. subst (λ k. StandsFor s (blocks_by_serial u young) k z) (sym h) (subst (StandsFor s (blocks_by_serial u young) (memory_word u.memory at)) same is.stands))
    (set_changes s u (Load Ld (suc t) (suc ra) imm) t (memory_word u.memory at) code (inl other)
    (sets_load s u (suc t) (suc ra) imm at sum is.no_limit is.low is.readable) within.own.are fits (word_below u.memory at))
  where
    moved_function : (o f : ℕ) → moved_by o (Function f) ≡ Function f
    moved_function zero f = refl
    moved_function (suc o) f = refl

    no_function : (x : Value) → cell_at a.memory 8 (moved_by offset x) ≡ Some cell → (f : ℕ) → x ≡ Function f → ⊥
    no_function x e f q = let g : cell_at a.memory 8 (Function f) ≡ Some cell = subst (λ y. cell_at a.memory 8 y ≡ Some cell)
        (ap (moved_by offset) q ∙ moved_function offset f) e in cc
