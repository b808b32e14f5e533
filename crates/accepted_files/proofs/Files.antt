-- What layout asks of a file, of one that the front accepts.
use Rattle.std.proofs.Common.{◌≡◌, ◌≢◌, ℕ, ◌+◌, ◌*◌, ◌%◌, ◌≤◌, Bool, true, false, cond, ◌==◌, List, [], ◌∷◌, ◌++◌, length, map, Option, Some, None, Ok, refl, sym, ap, subst, ◌⊎◌, inl, inr, length-append, arith}
use Rattle.std.specs.Prelude.{IsSome, Contains, flat_map}
use Rattle.std.specs.List.{AllByRecursion}
use Rattle.std.proofs.lemmas.Bool.{and_parts, eqb-true}
use Rattle.std.proofs.lemmas.List.{length-map}
use Rattle.std.proofs.lemmas.List.Elements.{All-contains}
use Rattle.std.proofs.lemmas.Grind.{flat_map-append}
use Rattle.bs_fault.specs.declared.fault.Fault.TheVariants as fault
use Rattle.bs_fault.specs.Limits.{longest_text}
use Rattle.bs_fault.specs.Reported.{here, one_if, Faultless}
use Rattle.bs_fault.proofs.Reported.{no_fault}
use Rattle.bs_words.specs.External.{External}
use Rattle.bs_words.specs.Fits.{data_limit, data_start}
use Rattle.bs_words.specs.Symbol.{IsSymbol, caml_bound_error}
use Rattle.bs_words.specs.declared.types.Comp.{Comp}
use Rattle.bs_words.specs.declared.types.Comp.TheVariants as comp
use Rattle.bs_words.specs.declared.types.Ty.{Ty}
use Rattle.bs_words.specs.declared.types.Ty.TheVariants as ty
use Rattle.cmm_data.specs.Contents.{root_of_item, roots_among}
use Rattle.cmm_data.specs.Faults.{keeps_rule, first_fault}
use Rattle.cmm_data.specs.Placement.{PlacedItem, DataSymbolTree, size_at, items_from, start_behind, end_behind, lists_behind, lists_of, items_of_lists, symbols_of}
use Rattle.cmm_data.proofs.Steps.{end-within}
use Rattle.cmm_data.proofs.Walk.{sound-first, sound-list, start-within}
use Rattle.cmm_front.specs.FileOf.{IsFileOf}
use Rattle.cmm_front.proofs.Readings.{is_placed}
use Rattle.cmm_grammar.specs.Covered.{IsCovered}
use Rattle.cmm_grammar.specs.Spelling.{AreItems, nesting}
use Rattle.cmm_grammar.specs.Words.{is_integer_kind}
use Rattle.cmm_lex.specs.Integers.{integer_value}
use Rattle.cmm_lex.specs.Lexing.{first_range, is_out_of_range, none_of}
use Rattle.cmm_lex.specs.Token.{TokenTree}
use Rattle.cmm_lex.specs.declared.token.TokenKind.{TokenKind}
use Rattle.cmm_lex.specs.declared.token.TokenKind.TheVariants as kind
use Rattle.cmm_lex.proofs.TokenFacts as rise
use Rattle.cmm_lex.proofs.TokenFacts.{Rising, splits-rise}
use Rattle.cmm_reader.specs.Text as said
use Rattle.cmm_reader.specs.Text.{ReadsAs}
use Rattle.cmm_reader.proofs.Measured.{read_measured}
use Rattle.cmm_tree.specs.Symbols.{DefinedSymbol, data_symbols}
use Rattle.cmm_tree.specs.Symbols as defined
use Rattle.cmm_tree.specs.Tree.{DatumTree, Define, Val, Address, DataItemTree, DataListTree, Parameter, FunctionTree, ItemTree, AFunction, AData, FileTree, functions, functions_among, data_among, data_lists}
use Rattle.cmm_types.specs.Gathered.{comp_faults, params_faults}
use Rattle.cmm_types.specs.Types.{body_type, result_of, with_parameters, is_address}
use Rattle.cmm_types.proofs.Containing.{contains_none, contains_cases, contains_head, contains_tail}
use Rattle.image_form.proofs.Differ.{AllDiffer, apart}
use Rattle.image_form.specs.Image.{IsParam, IsResult, IsExt}
use Rattle.rv_layout_rules.specs.Conditions.{IsRowLaid, IsFileLaid}
use Rattle.rv_layout_rules.specs.Externals.{calls_in_function, all_calls, is_among_externals, firsts_behind}
use Rattle.rv_layout_rules.proofs.Rules.{all_append}
use Rattle.selection_accepted.proofs.Selecting.{definitions, front_accepts, selectable}
use Rattle.selection_laws.proofs.Accepting.{left, right}
use Rattle.accepted_files.proofs.Calls.{AreLaid, laid_all, both, nothing_laid, calls_laid}
use Rattle.accepted_files.proofs.Counted.{tokens_among, items_among, AreFew, items_few}
use Rattle.accepted_files.proofs.Differ.{names, names_append, list_symbols, list_names, data_names, function_names, all_parted, all_apart, each_apart, differ_both, differ_from}
use Rattle.accepted_files.proofs.Few.{calls_few}
use Rattle.cmm_grammar.proofs.Giving.{AllKnown}
use Rattle.bs_words.proofs.Symbols.{symbol_decides}
use Rattle.accepted_files.proofs.Spelled.{IsInRange, IsFine, AreFine, IsNamed, items_named}

-- ---- what was read

pub record Read (file : FileTree) : Type 0 where
  pub tokens : List TokenTree
  pub short : length tokens ≤ longest_text
  pub are : AreItems nesting file.items tokens
  pub in_range : AllKnown IsInRange tokens

-- each token has a byte of its own
rising_count : (last first : ℕ) (ts : List TokenTree) → Rising last first ts → first + length ts ≤ last
rising_count last first ts (rise.none f h) = omega arith
rising_count last first ts (rise.one f t us from some is rest) =
    let n = rising_count last (t.at + length t.text) us rest in omega arith

in_range_of : (o : Option ℕ) → none_of o ≡ false → IsSome o
in_range_of None e = absurd (let z : true ≡ false = e in cc)
in_range_of (Some w) e = refl

kind_in_range : (k : TokenKind) (text : List ℕ) → is_out_of_range k text ≡ false → is_integer_kind k ≡ true → IsSome (integer_value text)
kind_in_range kind.Integer text e h = in_range_of (integer_value text) e
kind_in_range _ text e h = absurd (let z : false ≡ true = h in cc)

all_in_range : (ts : List TokenTree) → first_range ts ≡ None → AllKnown IsInRange ts
all_in_range [] e = tt
all_in_range (t ∷ ts) e = by (is_out_of_range t.kind t.text) refl e (λ e. all_in_range ts e)
  where
    by : (b : Bool) → is_out_of_range t.kind t.text ≡ b → cond b (Some (fault.IntRange t.at)) (first_range ts) ≡ None → (first_range ts ≡ None → AllKnown IsInRange ts) → AllKnown IsInRange (t ∷ ts)
    by true is e later = absurd (let z : Some (fault.IntRange t.at) ≡ None = e in cc)
    by false is e later = (record { some = kind_in_range t.kind t.text is }, later e)

pub read_of : (text : List ℕ) (file : FileTree) → ReadsAs text (Ok file) → Read file
read_of text _ (said.file tokens items short cut are faultless) =
    let count = rising_count (0 + length text) 0 tokens (splits-rise 0 text tokens None cut) in
    record {
      tokens = tokens;
      short = omega (arith, short, count);
      are = are;
      in_range = all_in_range tokens (no_fault _ (left (right faultless)));
    }

-- ---- names

all_symbols : (ss : List DataSymbolTree) → AllByRecursion IsSymbol (data_names ss) → AllByRecursion (λ (s : DataSymbolTree). IsSymbol s.name) ss
all_symbols [] all = tt
all_symbols (s ∷ ss) all = (all.0, all_symbols ss all.1)

one_symbol : (at : ℕ) (d : DatumTree) (more : List DefinedSymbol) → IsFine d → AllByRecursion IsSymbol (names more) → AllByRecursion IsSymbol (names (defined.datum_symbols at d ++ more))
one_symbol at (Define name) more fine all = (fine, all)
one_symbol at d more fine all = all

item_symbols : (items : List DataItemTree) → AreFine items → AllByRecursion IsSymbol (names (data_symbols items))
item_symbols [] fine = tt
item_symbols (i ∷ items) fine = one_symbol i.at i.datum (data_symbols items) fine.0 (item_symbols items fine.1)

list_are_symbols : (items : List ItemTree) → AllByRecursion IsNamed items → AllByRecursion IsSymbol (names (list_symbols (data_among items)))
list_are_symbols [] named = tt
list_are_symbols (AFunction f ∷ items) named = list_are_symbols items named.1
list_are_symbols (AData d ∷ items) named =
    subst (AllByRecursion IsSymbol) (sym (names_append (data_symbols d.items) (list_symbols (data_among items))))
    (all_append IsSymbol (names (data_symbols d.items)) (names (list_symbols (data_among items))) (item_symbols d.items named.0) (list_are_symbols items named.1))

named_at : (items : List ItemTree) (f : FunctionTree) → AllByRecursion IsNamed items → Contains (functions_among items) f → IsNamed (AFunction f)
named_at [] f named c = absurd (contains_none f c)
named_at (AFunction g ∷ items) f named c = by (contains_cases g (functions_among items) f c) (λ c. named_at items f named.1 c)
  where
    by : (g ≡ f) ⊎ Contains (functions_among items) f → (Contains (functions_among items) f → IsNamed (AFunction f)) → IsNamed (AFunction f)
    by (inl same) later = subst (λ (g : FunctionTree). IsNamed (AFunction g)) same named.0
    by (inr c) later = later c
named_at (AData d ∷ items) f named c = named_at items f named.1 c

bound_error_symbol : IsSymbol caml_bound_error
bound_error_symbol = (symbol_decides caml_bound_error).0 refl

-- ---- counts

symbols_few : (ds : List DataListTree) → length (names (list_symbols ds)) ≤ items_among ds
symbols_few [] = omega arith
symbols_few (d ∷ ds) =
    let own = of_items d.items in
    let later = symbols_few ds in
    let whole = ap (λ (ns : List (List ℕ)). length ns) (names_append (data_symbols d.items) (list_symbols ds)) in
    omega (arith, own, later, whole, length-append (names (data_symbols d.items)) (names (list_symbols ds)))
  where
    one : (at : ℕ) (x : DatumTree) (more : List DefinedSymbol) → length (names (defined.datum_symbols at x ++ more)) ≤ 1 + length (names more)
    one at (Define name) more = omega arith
    one at x more = omega arith

    of_items : (items : List DataItemTree) → length (names (data_symbols items)) ≤ length items
    of_items [] = omega arith
    of_items (i ∷ items) = let later = of_items items in let here = one i.at i.datum (data_symbols items) in omega (arith, later, here)

functions_few : (fs : List FunctionTree) → ((f : FunctionTree) → Contains fs f → IsCovered f) → 7 * length fs ≤ tokens_among fs
functions_few [] covered = omega arith
functions_few (f ∷ fs) covered =
    let own = (covered f (contains_head f fs)).nodes_covered in
    let later = functions_few fs (λ g c. covered g (contains_tail f fs g c)) in
    omega (arith, own, later)

calls_all_few : (fs : List FunctionTree) → ((f : FunctionTree) → Contains fs f → IsCovered f) → length (flat_map calls_in_function fs) ≤ 3 * tokens_among fs
calls_all_few [] covered = omega arith
calls_all_few (f ∷ fs) covered =
    let own = (covered f (contains_head f fs)).nodes_covered in
    let few = calls_few (with_parameters f.params []) f.body in
    let later = calls_all_few fs (λ g c. covered g (contains_tail f fs g c)) in
    omega (arith, own, few, later, length-append (calls_in_function f) (flat_map calls_in_function fs))

firsts_few : (before es : List External) → length (firsts_behind before es) ≤ length before + length es
firsts_few before [] = omega arith
firsts_few before (e ∷ es) = by (is_among_externals before e) (firsts_few before es) (firsts_few (before ++ e ∷ []) es)
  where
    by : (b : Bool) → length (firsts_behind before es) ≤ length before + length es → length (firsts_behind (before ++ e ∷ []) es) ≤ length (before ++ e ∷ []) + length es →
        length (firsts_behind (cond b before (before ++ e ∷ [])) es) ≤ length before + length (e ∷ es)
    by true known new = omega (arith, known)
    by false known new = omega (arith, new, length-append before (e ∷ []))

-- ---- calls

firsts_laid : (before es : List External) → AllByRecursion IsExt before → AllByRecursion IsExt es → AllByRecursion IsExt (firsts_behind before es)
firsts_laid before [] p q = p
firsts_laid before (e ∷ es) p q = firsts_laid (cond (is_among_externals before e) before (before ++ e ∷ [])) es (by (is_among_externals before e)) q.1
  where
    by : (b : Bool) → AllByRecursion IsExt (cond b before (before ++ e ∷ []))
    by true = p
    by false = all_append IsExt before (e ∷ []) p (q.0, tt)

all_laid : (fs : List FunctionTree) → ((f : FunctionTree) → Contains fs f → AreLaid (calls_in_function f)) → AreLaid (flat_map calls_in_function fs)
all_laid [] each = nothing_laid
all_laid (f ∷ fs) each = both (calls_in_function f) (flat_map calls_in_function fs) (each f (contains_head f fs)) (all_laid fs (λ g c. each g (contains_tail f fs g c)))

-- ---- rows

param_is : (c : Comp) (at : ℕ) → Faultless (comp_faults c at) → IsParam c
param_is comp.Int at none = tt
param_is comp.Val at none = tt
param_is comp.Addr at none = tt
param_is comp.Float at none = absurd (none (fault.Float at) here)

params_are : (ps : List Parameter) → Faultless (params_faults ps) → AllByRecursion IsParam (map (λ (p : Parameter). p.comp) ps)
params_are [] none = tt
params_are (p ∷ ps) none = (param_is p.comp p.comp_at (left none), params_are ps (right none))

result_fits : (t : Ty) (at : ℕ) → Faultless (one_if (is_address t) (fault.AddrArgument at)) → IsResult (result_of t)
result_fits ty.Int at none = tt
result_fits ty.Val at none = tt
result_fits ty.Addr at none = absurd (none (fault.AddrArgument at) here)
result_fits ty.NoValue at none = tt
result_fits ty.Never at none = tt

all_rows : (fs : List FunctionTree) → ((f : FunctionTree) → Contains fs f → IsRowLaid f) → AllByRecursion IsRowLaid fs
all_rows [] each = tt
all_rows (f ∷ fs) each = (each f (contains_head f fs), all_rows fs (λ g c. each g (contains_tail f fs g c)))

-- ---- root cells

root_even : (address : ℕ) (d : DatumTree) → keeps_rule address d ≡ true → IsFine d → AllByRecursion (λ address. address % 8 ≡ 0) (root_of_item address d)
root_even address (Val (Some w)) keeps fine = (eqb-true (address % 8) 0 (and_parts (address % 8 == 0) (w % 2 == 1) keeps).0, tt)
root_even address (Val None) keeps fine = absurd (let z : false ≡ true = fine in cc)
root_even address (Address true name_at name) keeps fine = (eqb-true (address % 8) 0 keeps, tt)
root_even address (Address false name_at name) keeps fine = tt
root_even address _ keeps fine = tt

item_roots : (address : ℕ) (items : List DataItemTree) → address ≤ data_start + data_limit → first_fault (items_from address items) ≡ None → AreFine items →
    AllByRecursion (λ address. address % 8 ≡ 0) (roots_among (items_from address items))
item_roots address [] within none fine = tt
item_roots address (i ∷ items) within none fine =
    let sound = sound-first address i items within none in
    let next = address + size_at address i.datum in
    all_append (λ address. address % 8 ≡ 0) (root_of_item address i.datum) (roots_among (items_from next items))
    (root_even address i.datum sound.rule fine.0) (item_roots next items sound.within sound.behind fine.1)

list_roots : (end : ℕ) (ds : List DataListTree) → end ≤ data_start + data_limit → first_fault (items_of_lists (lists_behind end ds)) ≡ None →
    AllByRecursion (λ (d : DataListTree). AreFine d.items) ds → AllByRecursion (λ address. address % 8 ≡ 0) (roots_among (items_of_lists (lists_behind end ds)))
list_roots end [] within none fine = tt
list_roots end (d ∷ ds) within none fine =
    let sound = sound-list end d ds none in
    let start = start-within end within in
    let own = items_from (start_behind end) d.items in
    let later = items_of_lists (lists_behind (end_behind end d) ds) in
    subst (AllByRecursion (λ address. address % 8 ≡ 0)) (sym (flat_map-append (λ (i : PlacedItem). root_of_item i.address i.datum) own later))
    (all_append (λ address. address % 8 ≡ 0) (roots_among own) (roots_among later)
    (item_roots (start_behind end) d.items start sound.0 fine.0)
    (list_roots (end_behind end d) ds (end-within (start_behind end) d.items start sound.0).1 sound.1 fine.1))

pub lists_fine : (items : List ItemTree) → AllByRecursion IsNamed items → AllByRecursion (λ (d : DataListTree). AreFine d.items) (data_among items)
lists_fine [] named = tt
lists_fine (AFunction f ∷ items) named = lists_fine items named.1
lists_fine (AData d ∷ items) named = (named.0, lists_fine items named.1)

-- ---- the whole

module _ (text : List ℕ) (file : FileTree) (is : IsFileOf text file) where
  read : Read file
  read = read_of text file is.read

  named : AllByRecursion IsNamed file.items
  named = items_named file.items read.tokens read.are read.in_range

  covered : (f : FunctionTree) → Contains (functions file) f → IsCovered f
  covered f c = All-contains IsCovered (functions file) f (read_measured text file is.read).functions_covered c

  row : (f : FunctionTree) → Contains (functions file) f → IsRowLaid f
  row f c =
      let a = front_accepts text file is f c in
      record {
        name = (named_at file.items f named c).0;
        few = (selectable text file is f c).fits.params;
        params = params_are f.params (left a.typed);
        result = result_fits (body_type f) f.at (right (right a.typed));
      }

  function_laid : (f : FunctionTree) → Contains (functions file) f → AreLaid (calls_in_function f)
  function_laid f c =
      calls_laid (definitions file) (with_parameters f.params []) [] f.body (named_at file.items f named c).1 (selectable text file is f c).fits.body
      (left (right (front_accepts text file is f c).typed))

  data_named : data_names (symbols_of file) ≡ caml_bound_error ∷ names (list_symbols (data_lists file))
  data_named = list_names data_start (lists_of file)

  differ : AllDiffer (function_names file.items ++ data_names (symbols_of file))
  differ =
      let all = differ_from file is.typed [] (defined.symbols file) refl in
      let m = all_apart file.items all.1 in
      let parted = all_parted (λ name. caml_bound_error ≢ name) file.items all.0 in
      subst (λ (ns : List (List ℕ)). AllDiffer (function_names file.items ++ ns)) (sym data_named)
      (differ_both (function_names file.items) (caml_bound_error ∷ names (list_symbols (data_lists file))) m.of_functions (parted.of_data, m.of_data)
      (each_apart (function_names file.items) (caml_bound_error ∷ []) (names (list_symbols (data_lists file))) m.apart (parted.of_functions, tt)))

  few : AreFew file.items (length read.tokens)
  few = items_few nesting file.items read.tokens read.are

  -- What layout asks of the file.
  pub file_can : IsFileLaid file
  file_can =
      let short = read.short in
      let all = few.few in
      record {
        rows = all_rows (functions file) row;
        symbols = all_symbols (symbols_of file) (subst (AllByRecursion IsSymbol) (sym data_named) (bound_error_symbol, list_are_symbols file.items named));
        differ = apart (function_names file.items ++ data_names (symbols_of file)) differ;
        calls = firsts_laid [] (all_calls file) tt (laid_all (all_calls file) (all_laid (functions file) function_laid));
        no_fault = is_placed text file is.read;
        roots = list_roots data_start (lists_of file) (omega arith) (is_placed text file is.read) ((bound_error_symbol, (tt, tt)), lists_fine file.items named);
        few_functions = omega (arith, all, short, functions_few (functions file) covered);
        few_symbols =
            omega (arith, all, short, symbols_few (data_lists file), length-map (symbols_of file) (λ (s : DataSymbolTree). s.name), ap (λ (ns : List (List ℕ)). length ns) data_named);
        few_externals = omega (arith, all, short, firsts_few [] (all_calls file), calls_all_few (functions file) covered);
      }
