-- What the passes and register allocation make of a function of an accepted text is known.
use Rattle.std.proofs.Common.{ℕ, ◌+◌, ◌-◌, ◌*◌, ◌≤◌, List, length, Option, ap, arith}
use Rattle.std.proofs.lemmas.List.{length-map}
use Rattle.bs_words.specs.declared.types.Comp.{Comp}
use Rattle.choices.specs.declared.choices.Alloc.{Alloc}
use Rattle.cmm_tree.specs.Measures.{all_tries}
use Rattle.cmm_tree.specs.Symbols.{DefinedSymbol}
use Rattle.cmm_tree.specs.Tree.{Parameter, FunctionTree}
use Rattle.comballoc_rules.specs.Kept.{holds_block}
use Rattle.correctness.specs.Measures.{tries}
use Rattle.mach_ir.specs.Sizes.{operand_count, HasRoom}
use Rattle.mach_ir.specs.declared.mach.Mach.{Mach}
use Rattle.mach_ir.specs.declared.reg.Reg.{Reg}
use Rattle.mach_ir.proofs.Keeping.{keeps_then}
use Rattle.prepare_rules.specs.Prepared.{IsPreparable, IsPreparedMach, prepared_size}
use Rattle.prepare_rules.specs.Prepared as prepared
use Rattle.prepare_rules.proofs.Whole.{prepared_kept}
use Rattle.pass_rules.specs.Carried.{IsCarried}
use Rattle.pass_rules.proofs.Operands.{others_few}
use Rattle.pass_rules.specs.Measures.{copy_words}
use Rattle.reg_rounds_rules.specs.Rounds.{IsRegisterAllocated, allocated_size}
use Rattle.reg_rounds_rules.specs.Rounds as rounds
use Rattle.reg_rounds_rules.proofs.Kept.{allocated_kept}
use Rattle.selection_places.proofs.Placed.{selected_low}
use Rattle.selection_promise.specs.Selects.{IsAccepted, Selects, size_by}
use Rattle.selection_promise.proofs.Promised.{promised, few_tokens, narrow_body}
use Rattle.selection_rules.specs.Select.{selected}
use Rattle.placed_functions.specs.Placed.{IsPlacedFor}
use Rattle.placed_functions.proofs.Ends.{selected_end}
use Rattle.placed_functions.proofs.Slots.{slots_of_open}

module _ {defined : List ℕ → Option DefinedSymbol} {tree : FunctionTree} (accepted : IsAccepted defined tree) where
  promise : Selects tree (selected tree)
  promise = promised defined tree accepted

  -- selection gives what the passes ask
  pub selected_preparable : IsPreparable (selected tree)
  selected_preparable = record {
    combinable = record {
      formed = promise.formed;
      allocates = promise.allocates;
      starts = λ i blocks among allocates r c. ap holds_block (promise.starts i blocks among allocates r c);
      origins = promise.origins;
    };
    placed = promise.placed;
    seated = promise.seated;
    colours_low = selected_low tree;
    no_addr = promise.no_addr;
  }

  few : tree.tokens ≤ 32000
  few = few_tokens tree (accepted.checked).limits_kept

  few_params : length (selected tree).params ≤ 23 * tree.tokens
  few_params =
      let narrow = narrow_body tree accepted.covered in
      let same = ap (λ (cs : List Comp). length cs) promise.params in
      omega (arith, narrow, same, length-map (selected tree).params (λ (r : Reg). r.comp), length-map tree.params (λ (x : Parameter). x.comp))

  -- with numbers for all that they add
  pub selected_room : HasRoom (prepared_size (length (selected tree).params)) (selected tree)
  selected_room =
      record {
        size = size_by tree.tokens;
        within = promise.size;
        small = record {
          places = omega (arith, few);
          operands = omega (arith, few);
          registers = omega (arith, few, few_params);
          labels = omega (arith, few);
        };
      }

  -- and what they make is ready for allocation
  pub ready : {p : Mach} → IsPreparedMach (selected tree) p → prepared.IsPreparedKept (selected tree) p
  ready {p} is = prepared_kept (selected tree) p selected_preparable is

  -- what it carries, by the open registers of the text
  pub carried : {p : Mach} → prepared.IsPreparedKept (selected tree) p →
      IsCarried (copy_words * (operand_count (selected tree).code + 3 * (2 * (tree.tokens - all_tries tree.body)))) (selected tree) p
  carried made = made.carried (2 * (tree.tokens - all_tries tree.body)) promise.open_registers

  -- which has numbers too
  pub prepared_room : {p : Mach} → IsPreparedMach (selected tree) p → HasRoom allocated_size p
  prepared_room {p} is =
      record {
        size = prepared_size (length (selected tree).params) (size_by tree.tokens);
        within = (ready is).size (size_by tree.tokens) promise.size;
        small = record {
          places = omega (arith, few);
          operands = omega (arith, few);
          registers = omega (arith, few, few_params);
          labels = omega (arith, few);
        };
      }

  module _ {alloc : Alloc} {p q : Mach} (is : IsPreparedMach (selected tree) p) (allocated : IsRegisterAllocated alloc p q) where
    kept : rounds.IsAllocationKept p q
    kept =
        let made = ready is in
        allocated_kept p q made.formed made.placed ((carried made).colours_low (selected_low tree)) allocated

    -- what is made of the function
    pub placed_for : IsPlacedFor tree q
    placed_for =
        let made = ready is in
        let one = carried made in
        let two = kept.carried in
        let others = others_few (selected tree).code in
        let size = promise.size in
        let instrs = size.instrs in
        let operands = size.operands in
        let ready_size = made.size (size_by tree.tokens) size in
        let ready_instrs = ready_size.instrs in
        let ready_labels = ready_size.labels in
        let long = kept.instrs in
        let labels = kept.labels in
        let words_one = one.words in
        let words_two = two.words in
        let operands_one = one.operands in
        let points_one = one.points in
        let points_two = two.points in
        let exits_one = one.exits in
        let exits_two = two.exits in
        let whole = keeps_then made.keeps kept.keeps in
        record {
          keeps = whole;
          formed = kept.formed;
          placed = kept.placed;
          seated = kept.seated made.seated;
          no_addr = whole.addrs promise.no_addr;
          tries = two.tries (tries tree) (one.tries (tries tree) promise.tries);
          offsets = two.offsets (one.offsets promise.offsets);
          ends = two.ends (one.ends (selected_end tree));
          words = omega (arith, words_one, words_two, operands_one, others);
          points = omega (arith, points_one, points_two);
          exits = omega (arith, exits_one, exits_two);
          instrs = omega (arith, ready_instrs, long, operands_one, others, operands);
          labels = omega (arith, ready_labels, labels);
          slots = slots_of_open whole promise.no_slot promise.origins _ promise.open_registers;
        }
