-- The blocks of one allocation, and their addresses.
use Rattle.std.proofs.Common.{◌≡◌, ℕ, suc, ◌+◌, ◌*◌, ◌^◌, ◌<◌, ◌≤◌, List, [], ◌∷◌, ◌++◌, append_assoc, length, reverse, slice_index, refl, ap, arith, ◌∙◌, sym, subst, append-nil, length-append}
use Rattle.bs_words.specs.declared.values.Value.{Value}
use Rattle.bs_words.specs.declared.values.Value.TheVariants.{Block}
use Rattle.lin_ir.specs.Meaning.{Locations}
use Rattle.mach_ir.specs.Acts.{Around, Goes, On, fresh_block, new_blocks, with_block}
use Rattle.mach_ir.specs.Blocks.{total_block_bytes}
use Rattle.mach_ir.specs.declared.blocks.NewBlock.{NewBlock}
use Rattle.rv_machine.specs.Hart.{Placed}
use Rattle.rv_machine.specs.Observation.{cells_of_header, young_start}
use Rattle.moving_laws.specs.Values.{start_of}
use Rattle.moving_laws.specs.Young.{Rises}
use Rattle.moving_laws.proofs.Rewriting.{at_start}
use Rattle.lin_machine.specs.Relation.{Below, Laid, StandsFor, Within}
use Rattle.lin_machine.specs.View.{Fixed, View}
use Rattle.lin_machine.proofs.Fresh.{placed_more, stands_more, start_last}
use Rattle.lin_machine.proofs.Making.{made, within_made}
use Rattle.lin_machine.proofs.Moving.{rises_top}

-- ---- what an allocation does

abbrev pub around_made : List NewBlock → Around → Around
around_made [] a = a
around_made (b ∷ bs) a = around_made bs (with_block b a)

abbrev pub values_made : List NewBlock → Around → List Value
values_made [] a = []
values_made (b ∷ bs) a = Block (length a.memory.blocks) 0 ∷ values_made bs (with_block b a)

pub blocks_are_made : (bs : List NewBlock) (before : List Value) (a : Around) → new_blocks bs before a ≡ Goes (before ++ values_made bs a) On
    (around_made bs a)
blocks_are_made [] before a = ap (λ xs. Goes xs On a) (sym (append-nil before))
blocks_are_made (b ∷ bs) before a =
    let x : Value = Block (length a.memory.blocks) 0 in
    blocks_are_made bs (before ++ x ∷ []) (with_block b a)
    ∙ ap (λ xs. Goes xs On (around_made bs (with_block b a))) (append_assoc before (x ∷ []) (values_made bs (with_block b a)))

-- blocks leave the tries and the raised value
pub tries_made : (bs : List NewBlock) (a : Around) → (around_made bs a).tries ≡ a.tries
tries_made [] a = refl
tries_made (b ∷ bs) a = tries_made bs (with_block b a)

pub raised_made : (bs : List NewBlock) (a : Around) → (around_made bs a).raised ≡ a.raised
raised_made [] a = refl
raised_made (b ∷ bs) a = raised_made bs (with_block b a)

-- ---- blocks that may be made

pub record IsNew (b : NewBlock) : Type 0 where
  pub some : 1 ≤ b.cells
  pub most : b.cells ≤ 256
  pub head : cells_of_header b.header ≡ b.cells

abbrev pub AreNew : List NewBlock → Type 0
AreNew [] = Unit {0}
AreNew (b ∷ bs) = IsNew b × AreNew bs

-- ---- what holds of addresses wherever the other blocks lie

pub record StandsAnywhere (s : Fixed) (young : List Placed) (count w : ℕ) (x : Value) : Type 0 where
  pub by : (table : List Placed) → count ≡ length (table ++ reverse young) → StandsFor s (table ++ reverse young) w x

-- the blocks lie one below the other: the address of each is that of the cell after its header
abbrev pub AllStand : Fixed → (young : List Placed) → (count at : ℕ) → List NewBlock → List Value → Type 0
AllStand s young count at [] [] = Unit {0}
AllStand s young count at [] (x ∷ xs) = ⊥
AllStand s young count at (b ∷ bs) [] = ⊥
AllStand s young count at (b ∷ bs) (x ∷ xs) = StandsAnywhere s young count (at + (total_block_bytes bs + 8)) x × AllStand s young count at bs xs

-- where young blocks begin is known by them
pub rises_same : (a b : ℕ) (bs : List Placed) → Rises a bs → Rises b bs → a ≡ b
rises_same a b [] r q = omega (arith, r, q)
rises_same a b (x ∷ bs) r q = let e = r.0 in let f = q.0 in omega (arith, e, f)

module _ (s : Fixed) (table young : List Placed) (p : Placed) where
  length_one_more : length (table ++ reverse (p ∷ young)) ≡ suc (length (table ++ reverse young))
  length_one_more = let e = length-append (table ++ reverse young) (p ∷ []) in ap length (placed_more table young p) ∙ omega (arith, e)

-- what held holds with one block more
pub anywhere_more : (s : Fixed) (young : List Placed) (p : Placed) (count w : ℕ) (x : Value) → StandsAnywhere s young count w x →
    StandsAnywhere s (p ∷ young) (suc count) w x
anywhere_more s young p count w x st = record {
  by = λ table e.
      let n = length_one_more s table young p in
      subst (λ bs. StandsFor s bs w x) (sym (placed_more table young p)) (stands_more s (table ++ reverse young) p w x (st.by table (omega (arith, e, n))));
}

-- and the new one does
pub anywhere_new : (s : Fixed) (young : List Placed) (p : Placed) (count : ℕ) → p.start < 2 ^ 64 →
    StandsAnywhere s (p ∷ young) (suc count) p.start (Block count 0)
anywhere_new s young p count small = record {
  by = λ table e.
      let n = length_one_more s table young p in
      let len = length-append (table ++ reverse young) (p ∷ []) in
      let here : count ≡ length (table ++ reverse young) = omega (arith, e, n) in
      let start : start_of ((table ++ reverse young) ++ p ∷ []) count ≡ p.start =
      ap (start_of ((table ++ reverse young) ++ p ∷ [])) here ∙ start_last (table ++ reverse young) p in
      subst (λ bs. StandsFor s bs p.start (Block count 0)) (sym (placed_more table young p))
      (record {
        is = sym start ∙ sym (at_start (start_of ((table ++ reverse young) ++ p ∷ []) count) 0 refl (omega (arith, start, small)));
        known = (omega (arith, here, len), omega arith);
      });
}

-- ---- all blocks of an allocation

pub record AllMade (s : Fixed) (laid : Laid) (v : View) (held : Locations) (c : Below) (young : List Placed) (bs : List NewBlock) (a : Around) : Type 0 where
  pub new : List Placed
  pub within : Within s laid v new 0 held (around_made bs a) c
  pub stand : AllStand s new (length (around_made bs a).memory.blocks) (slice_index v.registers 26) bs (values_made bs a)
  -- what held before holds
  pub keeps : (w : ℕ) (x : Value) → StandsAnywhere s young (length a.memory.blocks) w x →
      StandsAnywhere s new (length (around_made bs a).memory.blocks) w x

block_count : (b : NewBlock) (a : Around) → length (with_block b a).memory.blocks ≡ suc (length a.memory.blocks)
block_count b a = let n = length-append a.memory.blocks (fresh_block b ∷ []) in omega (arith, n)

pub all_made :
    (s : Fixed) (laid : Laid) (v : View) (held : Locations) (c : Below) (young : List Placed) (bs : List NewBlock) (a : Around) → AreNew bs →
    young_start ≤ slice_index v.registers 26 → Within s laid v young (total_block_bytes bs) held a c → AllMade s laid v held c young bs a
all_made s laid v held c young [] a new room within = record { new = young; within = within; stand = tt; keeps = λ w x st. st }
all_made s laid v held c young (b ∷ bs) a new room within =
    let is = new.0 in
    let low : young_start ≤ slice_index v.registers 26 + total_block_bytes bs = omega (arith, room) in
    let bytes : total_block_bytes (b ∷ bs) ≡ total_block_bytes bs + 8 * (b.cells + 1) = omega arith in
    let p : Placed = made s laid v young (total_block_bytes (b ∷ bs)) (total_block_bytes bs) held a c within b is.some is.most is.head bytes low in
    let one = within_made s laid v young (total_block_bytes (b ∷ bs)) (total_block_bytes bs) held a c within b is.some is.most is.head bytes low in
    let rest = all_made s laid v held c (p ∷ young) bs (with_block b a) new.1 room one in
    let count = block_count b a in
    let top = rises_top (slice_index v.registers 26 + total_block_bytes (b ∷ bs)) young within.own.rises in
    let address : p.start ≡ slice_index v.registers 26 + (total_block_bytes bs + 8) = omega arith in
    let first : StandsAnywhere s (p ∷ young) (length (with_block b a).memory.blocks) (slice_index v.registers 26 + (total_block_bytes bs + 8)) (Block
    (length a.memory.blocks) 0) =
    subst (λ z. StandsAnywhere s (p ∷ young) z (slice_index v.registers 26 + (total_block_bytes bs + 8)) (Block (length a.memory.blocks) 0)) (sym count)
    (subst (λ z. StandsAnywhere s (p ∷ young) (suc (length a.memory.blocks)) z (Block (length a.memory.blocks) 0)) address
    (anywhere_new s young p (length a.memory.blocks) (omega (arith, top)))) in
    record {
      new = rest.new;
      within = rest.within;
      stand = (rest.keeps (slice_index v.registers 26 + (total_block_bytes bs + 8)) (Block (length a.memory.blocks) 0) first, rest.stand);
      keeps = λ w x st. rest.keeps w x (subst (λ z. StandsAnywhere s (p ∷ young) z w x) (sym count)
          (anywhere_more s young p (length a.memory.blocks) w x st));
    }
