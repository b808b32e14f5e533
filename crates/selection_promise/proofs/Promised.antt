-- Selection keeps its promise.
use Rattle.std.proofs.Common.{◌≡◌, ℕ, suc, ◌+◌, ◌*◌, ◌≤◌, List, [], ◌∷◌, length, Option, refl, arith}
use Rattle.std.specs.Prelude.{nat_le, map}
use Rattle.std.proofs.lemmas.Bool.{leb-true}
use Rattle.bs_fault.specs.declared.fault.Fault.TheVariants as fault
use Rattle.bs_fault.specs.Limits.{most_tokens}
use Rattle.bs_fault.specs.Reported.{Faultless, here}
use Rattle.bs_words.specs.Fits.{type_of_comp}
use Rattle.bs_words.specs.declared.types.Comp.{Comp}
use Rattle.bs_words.specs.declared.types.Comp.TheVariants as comp
use Rattle.cmm_grammar.specs.Covered.{IsCovered}
use Rattle.cmm_limits.specs.Limits as limits
use Rattle.cmm_tree.specs.Symbols.{DefinedSymbol}
use Rattle.cmm_tree.specs.Tree.{FunctionTree, Parameter}
use Rattle.cmm_types.specs.Gathered.{comp_faults, params_faults}
use Rattle.mach_ir.specs.Formed.{comps}
use Rattle.mach_ir.specs.Sizes.{HasSize, IsSmallSize}
use Rattle.selection_rules.specs.Select.{selected, first_after_colours, comp_of_type, params_from, seats, width}
use Rattle.selection_walks.proofs.Known.{left, right, accepted_fits, holds_if, selected_seated, few_numbers, selected_well_formed, selected_allocates, selected_starts, selected_symbols, selected_externals, selected_open_by_tokens, selected_placed, selected_small, selected_no_slot, selected_origin}
use Rattle.selection_walks.proofs.Keeps.{accepted_no_addr}
use Rattle.selection_promise.specs.Selects.{IsAccepted, Selects, size_by}
use Rattle.selection_promise.proofs.Bounds.{selected_offsets, selected_tries}
use Rattle.selection_promise.proofs.Played.{plays_as}

-- ---- limits

pub few_tokens : (f : FunctionTree) → Faultless (limits.function_limit_faults f) → f.tokens ≤ 32000
few_tokens f none = leb-true f.tokens 32000 (holds_if (nat_le f.tokens most_tokens) _ (left (right none)))

-- ---- parameters

no_float : (c : Comp) (at : ℕ) → Faultless (comp_faults c at) → comp_of_type (type_of_comp c) ≡ c
no_float comp.Int at none = refl
no_float comp.Val at none = refl
no_float comp.Addr at none = refl
no_float comp.Float at none = absurd (none (fault.Float at) here)

params_comps : (i n b : ℕ) (ps : List Parameter) → Faultless (params_faults ps) → comps (seats i n (params_from b ps)) ≡ map (λ (p : Parameter). p.comp) ps
params_comps i n b [] none = refl
params_comps i n b (p ∷ ps) none =
    let own = no_float p.comp p.comp_at (left none) in
    let others = params_comps (suc i) (suc n) (suc b) ps (right none) in
    cons_same own others
  where
    cons_same : {x y : Comp} {xs ys : List Comp} → x ≡ y → xs ≡ ys → x ∷ xs ≡ y ∷ ys
    cons_same e q = cc

-- ---- sizes

-- By its tokens a body is narrow.
pub narrow_body : (f : FunctionTree) → IsCovered f → width f.body + 2 * length f.params + 60 ≤ 23 * f.tokens
narrow_body f covered =
    let nodes = covered.nodes_covered in
    let values = covered.tokens_cover in
    let numbers = few_numbers f.body in
    omega (arith, nodes, values, numbers)

sized : (f : FunctionTree) → IsCovered f → HasSize (selected f) (size_by f.tokens)
sized f covered =
    let s = selected_small f in
    let narrow = narrow_body f covered in
    let instrs = s.instrs in
    let operands = s.operands in
    let labels = s.labels in
    record {
      instrs = omega (arith, instrs, narrow);
      operands = omega (arith, operands, narrow);
      numbers = λ r x. let less = s.numbers r x in omega (arith, less, narrow);
      origins = λ r x. let less = s.origins r x in omega (arith, less, narrow);
      labels = omega (arith, labels, narrow);
    }

size_small : (tokens : ℕ) → tokens ≤ 32000 → IsSmallSize (size_by tokens)
size_small tokens few = record { places = omega (arith, few); operands = omega (arith, few); registers = omega (arith, few); labels = omega (arith, few) }

-- ---- the promise

pub promised : (defined : List ℕ → Option DefinedSymbol) (f : FunctionTree) → IsAccepted defined f → Selects f (selected f)
promised defined f is =
    let fits = accepted_fits defined f is.checked in
    let typed = is.checked.typed in
    let covered = is.covered in
    let few = few_tokens f is.checked.limits_kept in
    let narrow = narrow_body f covered in
    record {
      name = refl;
      params = params_comps 0 first_after_colours (first_after_colours + length f.params) f.params (left typed);
      result = refl;
      plays = plays_as defined f (omega (arith, narrow, few)) fits typed is.settled;
      formed = selected_well_formed f fits;
      seated = selected_seated f fits;
      placed = selected_placed f;
      no_slot = selected_no_slot f;
      origins = selected_origin f;
      allocates = selected_allocates f;
      starts = selected_starts f;
      open_registers = selected_open_by_tokens defined f fits typed covered.tokens_cover;
      no_addr = accepted_no_addr defined f fits typed is.settled;
      tries = selected_tries f;
      offsets = selected_offsets f (omega (arith, narrow, few));
      size = sized f covered;
      small = size_small f.tokens few;
      symbols = selected_symbols f;
      externals = selected_externals f;
    }
