-- The fault that is reported of a file is its leftmost one, and none is reported where it has none.
use Rattle.std.proofs.Common.{◌≡◌, ℕ, true, List, [], ◌∷◌, ◌++◌, Option, Some, None, is_none, ◌⊎◌, inl, inr, refl, ap, sym, ◌∙◌, subst}
use mathlib.Core.Path.{fun_ext}
use Rattle.std.specs.List.{Contains}
use Rattle.bs_words.specs.declared.types.Ty.{Ty}
use Rattle.bs_words.specs.declared.types.Ty.TheVariants as ty
use Rattle.bs_fault.specs.declared.fault.Fault.{Fault}
use Rattle.bs_fault.specs.declared.fault.Fault.TheVariants as fault
use Rattle.cmm_tree.specs.Tree.{FunctionTree, DatumTree, DataItemTree, DataListTree, ItemTree, AFunction, AData, FileTree, functions, functions_among, data_lists, data_among}
use Rattle.cmm_tree.specs.Tree as tree
use Rattle.cmm_types.specs.Types.{with_parameters, body_type, is_address}
use Rattle.cmm_types.specs.Standing
use Rattle.cmm_tree.specs.Symbols.{DefinedSymbol, built_in, definition_of, symbols, symbols_among}
use Rattle.cmm_types.specs.Faults
use Rattle.cmm_types.specs.Faults.{TypeFault}
use Rattle.bs_fault.specs.Order.{IsLeftmost, Precedes}
use Rattle.cmm_types.specs.Gathered.{function_faults, datum_faults, data_faults, items_faults, first_symbols, file_faults}
use Rattle.bs_fault.specs.Reported.{noted_all}
use Rattle.cmm_types.proofs.Among.{Among, here, first, second, one_if-from, one_if-among, one-from, noted_all-meets, noted_all-from, ToldBy, AtMost-not}
use Rattle.cmm_types.proofs.Containing.{contains_none, contains_cases, contains_head, contains_tail}
use Rattle.cmm_types.proofs.Complete.{stands_below, fault_below, params_below, is_none-of}
use Rattle.cmm_types.proofs.Sound.{node_from, params-from, none-from}
use Rattle.cmm_types.proofs.FirstSymbols.{agree-from, agree-at, with_symbols-agrees, twice_below, twice-from, with_symbols-all}

abbrev Definitions : Type 0
Definitions = List ℕ → Option DefinedSymbol

-- ---- what is gathered of parts is gathered of the whole

function_below : (told : Fault) (d : Definitions) (items : List ItemTree) (f : FunctionTree) → Contains (functions_among items) f → Among told (function_faults d f) → Among told (items_faults d items)
function_below told d [] f c m = absurd (contains_none f c)
function_below told d (AFunction g ∷ items) f c m = go (contains_cases g (functions_among items) f c) (λ c. function_below told d items f c m)
  where
    go : (g ≡ f) ⊎ Contains (functions_among items) f → (Contains (functions_among items) f → Among told (items_faults d items)) → Among told (items_faults d (AFunction g ∷ items))
    go (inl same) rest = first (rw same m)
    go (inr c) rest = second (rest c)
function_below told d (AData l ∷ items) f c m = second (function_below told d items f c m)

list_below : (told : Fault) (d : Definitions) (items : List ItemTree) (l : DataListTree) → Contains (data_among items) l → Among told (data_faults d l.items) → Among told (items_faults d items)
list_below told d [] l c m = absurd (contains_none l c)
list_below told d (AData k ∷ items) l c m = go (contains_cases k (data_among items) l c) (λ c. list_below told d items l c m)
  where
    go : (k ≡ l) ⊎ Contains (data_among items) l → (Contains (data_among items) l → Among told (items_faults d items)) → Among told (items_faults d (AData k ∷ items))
    go (inl same) rest = first (rw same m)
    go (inr c) rest = second (rest c)
list_below told d (AFunction f ∷ items) l c m = second (list_below told d items l c m)

datum_below : (told : Fault) (d : Definitions) (items : List DataItemTree) (i : DataItemTree) → Contains items i → Among told (datum_faults d i.at i.datum) → Among told (data_faults d items)
datum_below told d [] i c m = absurd (contains_none i c)
datum_below told d (j ∷ items) i c m = go (contains_cases j items i c) (λ c. datum_below told d items i c m)
  where
    go : (j ≡ i) ⊎ Contains items i → (Contains items i → Among told (data_faults d items)) → Among told (data_faults d (j ∷ items))
    go (inl same) rest = first (rw same m)
    go (inr c) rest = second (rest c)

item_datum : (told : Fault) (d : Definitions) (items : List ItemTree) (l : DataListTree) (i : DataItemTree) (x : DatumTree) → Contains (data_among items) l → Contains l.items i → i.datum ≡ x → Among told (datum_faults d i.at x) → Among told (items_faults d items)
item_datum told d items l i x c k e m =
    let P : DatumTree → Type 0 = λ y. Among told (datum_faults d i.at y) in
    list_below told d items l c (datum_below told d l.items i k (subst P (sym e) m))

-- ---- a file

module _ (file : FileTree) where
  lookups : definition_of (first_symbols file) ≡ definition_of (symbols file)
  lookups = fun_ext (λ (name : List ℕ). agree-at _ _ (with_symbols-agrees (built_in ∷ []) (built_in ∷ []) (symbols_among file.items) (agree-from _ _ (λ n. refl))) name)

  of_items : (told : Fault) → Among told (items_faults (definition_of (symbols file)) file.items) → Among told (file_faults file)
  of_items told m =
      let P : Definitions → Type 0 = λ d. Among told (items_faults d file.items) in
      second (subst P (sym lookups) m)

  of_symbols : (before behind : List DefinedSymbol) (s e : DefinedSymbol) → built_in ∷ symbols_among file.items ≡ before ++ s ∷ behind → definition_of before s.name ≡ Some e → Among (fault.DuplicateSymbol s.at) (file_faults file)
  of_symbols [] behind s e split d = cc
  of_symbols (x ∷ early) behind s e split d =
      let alike : built_in ≡ x = cc in
      let after : symbols_among file.items ≡ early ++ s ∷ behind = cc in
      first (twice_below (built_in ∷ []) (built_in ∷ []) (symbols_among file.items) early behind s e (agree-from _ _ (λ n. refl)) after (ap (λ (y : DefinedSymbol). definition_of (y ∷ early) s.name) alike ∙ d))

  pub below : (told : Fault) → TypeFault file told → Among told (file_faults file)
  below told (Faults.of_node f names labels e _ c s x) =
      of_items told (function_below told _ file.items f c (second (first (stands_below told (definition_of (symbols file)) f names labels e s (fault_below (symbols file) names labels e told x)))))
  below _ (Faults.float_parameter f p c k e) = of_items _ (function_below _ _ file.items f c (first (params_below (definition_of (symbols file)) f.params p k e)))
  below _ (Faults.address_result f c e) = of_items _ (function_below _ _ file.items f c (second (second (one_if-among _ _ (ap is_address e)))))
  below _ (Faults.repeated_symbol before behind s earlier split d) = of_symbols before behind s earlier split d
  below _ (Faults.unknown_address l i root name_at name c k e u) = of_items _ (item_datum _ _ file.items l i (tree.Address root name_at name) c k e (one_if-among _ _ (is_none-of _ u)))
  below _ (Faults.unknown_global l i name_at name c k e u) = of_items _ (item_datum _ _ file.items l i (tree.Global name_at name) c k e (one_if-among _ _ (is_none-of _ u)))
  below _ (Faults.float_item l i c k e) = of_items _ (item_datum _ _ file.items l i tree.AFloat c k e here)

  -- ---- and back

  given : (told other : Fault) → told ≡ other → TypeFault file other → TypeFault file told
  given told other same t = let P : Fault → Type 0 = λ x. TypeFault file x in subst P (sym same) t

  address-from : (t : Ty) → is_address t ≡ true → t ≡ ty.Addr
  address-from ty.Addr e = refl
  address-from ty.Never e = cc
  address-from ty.NoValue e = cc
  address-from ty.Int e = cc
  address-from ty.Val e = cc

  from_function : (told : Fault) (f : FunctionTree) → Contains (functions file) f → Among told (function_faults (definition_of (symbols file)) f) → TypeFault file told
  from_function told f c (first m) =
      let p = params-from f.params told m in
      given told _ p.is (Faults.float_parameter f p.param c p.within p.float)
  from_function told f c (second (first m)) =
      node_from told (symbols file) f (TypeFault file told) (λ names labels e s x. Faults.of_node f names labels e told c s x) (with_parameters f.params []) [] f.body Standing.the_body m
  from_function told f c (second (second m)) =
      let both = one_if-from (is_address (body_type f)) (fault.AddrArgument f.at) told m in
      given told _ both.1 (Faults.address_result f c (address-from (body_type f) both.0))

  from_datum : (told : Fault) (l : DataListTree) (i : DataItemTree) (x : DatumTree) → Contains (data_lists file) l → Contains l.items i → i.datum ≡ x → Among told (datum_faults (definition_of (symbols file)) i.at x) → TypeFault file told
  from_datum told l i (tree.Address root name_at name) c k e m =
      let both = one_if-from (is_none (definition_of (symbols file) name)) (fault.UnknownSymbol name_at) told m in
      given told _ both.1 (Faults.unknown_address l i root name_at name c k e (none-from _ both.0))
  from_datum told l i (tree.Global name_at name) c k e m =
      let both = one_if-from (is_none (definition_of (symbols file) name)) (fault.UnknownSymbol name_at) told m in
      given told _ both.1 (Faults.unknown_global l i name_at name c k e (none-from _ both.0))
  from_datum told l i tree.AFloat c k e m = given told _ (one-from told _ m) (Faults.float_item l i c k e)
  from_datum told l i (tree.Define name) c k e m = elim m [ ]
  from_datum told l i (tree.Byte w) c k e m = elim m [ ]
  from_datum told l i (tree.Half w) c k e m = elim m [ ]
  from_datum told l i (tree.Int w) c k e m = elim m [ ]
  from_datum told l i (tree.Val w) c k e m = elim m [ ]
  from_datum told l i (tree.Skip w) c k e m = elim m [ ]
  from_datum told l i (tree.Align w) c k e m = elim m [ ]
  from_datum told l i (tree.Text b) c k e m = elim m [ ]

  from_data : (told : Fault) (l : DataListTree) (items : List DataItemTree) → ((i : DataItemTree) → Contains items i → Contains l.items i) → Contains (data_lists file) l → Among told (data_faults (definition_of (symbols file)) items) → TypeFault file told
  from_data told l [] k c m = elim m [ ]
  from_data told l (i ∷ items) k c (first m) = from_datum told l i i.datum c (k i (contains_head i items)) refl m
  from_data told l (i ∷ items) k c (second m) = from_data told l items (λ j w. k j (contains_tail i items j w)) c m

  from_items : (told : Fault) (items : List ItemTree) → ((f : FunctionTree) → Contains (functions_among items) f → Contains (functions file) f) → ((l : DataListTree) → Contains (data_among items) l → Contains (data_lists file) l) → Among told (items_faults (definition_of (symbols file)) items) → TypeFault file told
  from_items told [] fs ls m = elim m [ ]
  from_items told (AFunction f ∷ items) fs ls (first m) = from_function told f (fs f (contains_head f (functions_among items))) m
  from_items told (AFunction f ∷ items) fs ls (second m) = from_items told items (λ g c. fs g (contains_tail f (functions_among items) g c)) ls m
  from_items told (AData l ∷ items) fs ls (first m) = from_data told l l.items (λ i c. c) (ls l (contains_head l (data_among items))) m
  from_items told (AData l ∷ items) fs ls (second m) = from_items told items fs (λ k c. ls k (contains_tail l (data_among items) k c)) m

  pub from : (told : Fault) → Among told (file_faults file) → TypeFault file told
  from told (first m) =
      let t = twice-from (built_in ∷ []) (built_in ∷ []) (symbols_among file.items) told (agree-from _ _ (λ n. refl)) m in
      given told _ t.is (Faults.repeated_symbol (built_in ∷ t.early) t.behind t.symbol t.earlier (ap (λ (l : List DefinedSymbol). built_in ∷ l) t.split) t.found)
  from told (second m) =
      let P : Definitions → Type 0 = λ d. Among told (items_faults d file.items) in
      from_items told file.items (λ f c. c) (λ l c. c) (subst P lookups m)

  -- what is reported is exact
  pub told_is_leftmost : (told : Fault) → noted_all (file_faults file) None ≡ Some told → IsLeftmost (TypeFault file) told
  told_is_leftmost told e =
      record {
        is_fault = from told (gathered (noted_all-from (file_faults file) None told e));
        none_before = λ other t. earliest other (noted_all-meets (file_faults file) None other (below other t));
      }
    where
      gathered : (None ≡ Some told) ⊎ Among told (file_faults file) → Among told (file_faults file)
      gathered (inl never) = cc
      gathered (inr m) = m

      earliest : (other : Fault) → ToldBy (noted_all (file_faults file) None) other → ¬ Precedes other told
      earliest other t =
          let same : t.told ≡ told = some-is (sym t.is ∙ e) in
          let P : Fault → Type 0 = λ x. ¬ Precedes other x in
          subst P same (AtMost-not t.told other t.no_later)
        where
          some-is : {x y : Fault} → Some x ≡ Some y → x ≡ y
          some-is e = cc

  pub none_told : noted_all (file_faults file) None ≡ None → (told : Fault) → ¬ TypeFault file told
  none_told e told t = never (noted_all-meets (file_faults file) None told (below told t))
    where
      never : ToldBy (noted_all (file_faults file) None) told → ⊥
      never by = differ (sym e ∙ by.is)
        where
          differ : {x : Fault} → None ≡ Some x → ⊥
          differ e = cc

  -- where no symbol is defined twice the first definitions are all
  pub first_is_all : ((told : Fault) → ¬ TypeFault file told) → first_symbols file ≡ symbols file
  first_is_all none = with_symbols-all (built_in ∷ []) (symbols_among file.items) (λ told m. none told (from told (first m)))
