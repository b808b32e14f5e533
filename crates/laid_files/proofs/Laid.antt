-- The pieces of a function of an accepted file can be laid out.
use Rattle.std.proofs.Common.{◌≡◌, ◌≢◌, ℕ, suc, ◌+◌, Bool, true, false, cond, ◌&&◌, ◌||◌, ◌==◌, List, [], ◌∷◌, ◌++◌, map, bytes_eq, refl, sym, ap, ◌∙◌, subst, ◌⊎◌, inl, inr, ⊎_elim, eq-eqb, ne_eqb, arith}
use Rattle.std.specs.Prelude.{AllPairs, Contains, IsSome, count_by, flat_map}
use Rattle.std.specs.List.{AllByRecursion}
use Rattle.std.proofs.lemmas.Bool.{eqb-true}
use Rattle.std.proofs.lemmas.List.Sums.{sum_by-cons}
use Rattle.std.proofs.lemmas.List.Elements.{Contains-append_left, Contains-append_right, recursion_from_All}
use Rattle.std.proofs.lemmas.Slice.Eq.{bytes_eq-Decides}
use Rattle.bs_words.specs.External.{External}
use Rattle.bs_words.specs.declared.types.Comp.{Comp}
use Rattle.bs_words.specs.declared.types.Comp.TheVariants as comp
use Rattle.bs_words.specs.declared.types.Ret.{Ret}
use Rattle.bs_words.specs.declared.types.Ret.TheVariants as ret
use Rattle.accepted_files.proofs.Calls.{named_defined, named_called}
use Rattle.accepted_files.proofs.Defined.{first_valued}
use Rattle.cmm_data.specs.Placement.{value_of_symbol}
use Rattle.cmm_front.specs.FileOf.{IsFileOf}
use Rattle.cmm_tree.specs.Tree.{FunctionTree, FileTree, functions}
use Rattle.cmm_types.specs.Types.{with_parameters}
use Rattle.cmm_types.proofs.Containing.{contains_none, contains_cases}
use Rattle.rv_emit_rules.specs.Emitted.{emitted}
use Rattle.rv_emit_rules.specs.Named.{IsLabelOf, IsExternalOf}
use Rattle.rv_emit_rules.specs.Traversal.{EachPiece, each_more}
use Rattle.rv_emit_rules.proofs.Names.{numbers_fit, labels_are_named, symbols_are_named, externals_are_named, places_are_labels, named_labels_stand}
use Rattle.image_form.specs.Image.{comp_byte, ret_byte}
use Rattle.rv_layout_rules.specs.Conditions.{AreNamesPresent, IsFunctionLaid}
use Rattle.rv_layout_rules.specs.Externals.{calls_in_function, all_calls, same_row, is_among_externals, firsts_behind, externals}
use Rattle.rv_layout_rules.specs.Forms.{is_label_piece}
use Rattle.lin_ir.specs.Descriptors.{NamesLives}
use Rattle.lin_ir.specs.Keeps.{IsNamedIn, LinearKeeps}
use Rattle.lin_ir.specs.Meaning.{NamedAt}
use Rattle.lin_ir.specs.Walks.{at_entry, by_walk}
use Rattle.lin_ir.specs.declared.descr.Descr.{Descr}
use Rattle.lin_ir.specs.declared.lin.Lin.{Lin}
use Rattle.made_functions.specs.Chained.{IsChained}
use Rattle.mach_ir.specs.Acts.{external_row}
use Rattle.mach_ir.specs.Keeps.{NamesSymbol, NamesExternal, calls_out}
use Rattle.mach_ir.specs.declared.op.Calling.TheVariants as calling
use Rattle.mach_ir.specs.declared.op.External as declared
use Rattle.mach_ir.specs.declared.op.Op.TheVariants as op
use Rattle.rv_pieces.specs.Named.{labels_of_piece, places_in}
use Rattle.rv_pieces.specs.declared.piece.Piece.{Piece}
use Rattle.rv_pieces.specs.declared.piece.Piece.TheVariants as piece
use Rattle.rv_pieces.specs.declared.piece.Pieces.{Pieces}
use Rattle.accepted_files.proofs.Known.{front_selects, definitions, front_accepts}
use Rattle.selection_rules.specs.Select.{selected}
use Rattle.selection_laws.proofs.Accepting.{left, right}
use Rattle.laid_files.proofs.Functions.{descriptors_are, some_words}
use Rattle.laid_files.proofs.Marks.{descriptors_stand}

-- ---- labels occur once

occurs : ℕ → List ℕ → ℕ
occurs l [] = 0
occurs l (x ∷ xs) = cond (x == l) 1 0 + occurs l xs

one_place : (l : ℕ) (p : Piece) (rest : List ℕ) → cond (is_label_piece l p) 1 0 + occurs l rest ≡ occurs l (labels_of_piece p ++ rest)
unfolding occurs
one_place l (piece.Known j) rest = omega arith
one_place l (piece.Label k) rest = refl
one_place l (piece.Branch c a b k) rest = omega arith
one_place l (piece.Jump k) rest = omega arith
one_place l (piece.Row k) rest = omega arith
one_place l (piece.LabelAddress r k) rest = omega arith
one_place l (piece.Call name) rest = omega arith
one_place l (piece.TailCall name) rest = omega arith
one_place l (piece.SymbolAddress r name) rest = omega arith
one_place l (piece.ExternalNumber r row) rest = omega arith
one_place l (piece.Descriptor d) rest = omega arith

label_count : (l : ℕ) (ps : List Piece) → count_by (is_label_piece l) ps ≡ occurs l (places_in ps)
unfolding occurs
label_count l [] = refl
label_count l (p ∷ ps) =
    let later = label_count l ps in
    let own = one_place l p (places_in ps) in
    omega (arith, later, own, sum_by-cons (λ (q : Piece). cond (is_label_piece l q) 1 0) p ps)

none_occurs : (l x : ℕ) (xs : List ℕ) → x ≡ l → AllByRecursion (λ y. x ≢ y) xs → occurs l xs ≡ 0
unfolding occurs
none_occurs l x [] e all = refl
none_occurs l x (y ∷ xs) e all =
    let apart : (y == l) ≡ false = ne_eqb y l (λ same. all.0 (e ∙ sym same)) in
    ap (λ b. cond b 1 0 + occurs l xs) apart ∙ (let later = none_occurs l x xs e all.1 in omega (arith, later))

all_in : {A : Type 0} (P : A → Type 0) (xs : List A) (y : A) → AllByRecursion P xs → Contains xs y → P y
all_in P [] y all c = absurd (contains_none y c)
all_in P (x ∷ xs) y all c = ⊎_elim (λ same. subst P same all.0) (λ c. all_in P xs y all.1 c) (contains_cases x xs y c)

once : (l : ℕ) (xs : List ℕ) → AllPairs (λ j k. j ≢ k) xs → Contains xs l → occurs l xs ≡ 1
unfolding occurs
once l [] pairs c = absurd (contains_none l c)
once l (x ∷ xs) pairs c = by (contains_cases x xs l c) (λ c. once l xs (λ i j d lt within. pairs (suc i) (suc j) d (omega (arith, lt)) (omega (arith, within))) c)
  where
    others : AllByRecursion (λ y. x ≢ y) xs
    others = recursion_from_All (λ y. x ≢ y) xs (λ k d lt. pairs 0 (suc k) d (omega arith) (omega (arith, lt)))

    by : (x ≡ l) ⊎ Contains xs l → (Contains xs l → occurs l xs ≡ 1) → cond (x == l) 1 0 + occurs l xs ≡ 1
    by (inl e) later = ap (λ b. cond b 1 0 + occurs l xs) (eq-eqb x l e) ∙ (let none = none_occurs l x xs e others in omega (arith, none))
    by (inr c) later = ap (λ b. cond b 1 0 + occurs l xs) (ne_eqb x l (all_in (λ y. x ≢ y) xs l others c)) ∙ (let own = later c in omega (arith, own))

-- ---- rows of external calls

three : (a b c : Bool) → (a && b && c) ≡ true → (a ≡ true) × (b ≡ true) × (c ≡ true)
three true true true e = (refl, refl, refl)
three false b c e = absurd (let z : false ≡ true = e in cc)
three true false c e = absurd (let z : false ≡ true = e in cc)
three true true false e = absurd (let z : false ≡ true = e in cc)

pub comp_same : (a b : Comp) → comp_byte a ≡ comp_byte b → a ≡ b
comp_same comp.Int comp.Int e = refl
comp_same comp.Int comp.Val e = absurd (omega (arith, e))
comp_same comp.Int comp.Addr e = absurd (omega (arith, e))
comp_same comp.Int comp.Float e = absurd (omega (arith, e))
comp_same comp.Val comp.Int e = absurd (omega (arith, e))
comp_same comp.Val comp.Val e = refl
comp_same comp.Val comp.Addr e = absurd (omega (arith, e))
comp_same comp.Val comp.Float e = absurd (omega (arith, e))
comp_same comp.Addr comp.Int e = absurd (omega (arith, e))
comp_same comp.Addr comp.Val e = absurd (omega (arith, e))
comp_same comp.Addr comp.Addr e = refl
comp_same comp.Addr comp.Float e = absurd (omega (arith, e))
comp_same comp.Float comp.Int e = absurd (omega (arith, e))
comp_same comp.Float comp.Val e = absurd (omega (arith, e))
comp_same comp.Float comp.Addr e = absurd (omega (arith, e))
comp_same comp.Float comp.Float e = refl

pub no_unit : (c : Comp) → comp_byte c ≡ 3 → ⊥
no_unit comp.Int e = omega (arith, e)
no_unit comp.Val e = omega (arith, e)
no_unit comp.Addr e = omega (arith, e)
no_unit comp.Float e = omega (arith, e)

pub ret_same : (a b : Ret) → ret_byte a ≡ ret_byte b → a ≡ b
ret_same ret.Unit ret.Unit e = refl
ret_same ret.Unit (ret.Comp c) e = absurd (no_unit c (sym e))
ret_same (ret.Comp c) ret.Unit e = absurd (no_unit c e)
ret_same (ret.Comp c) (ret.Comp d) e = ap ret.Comp (comp_same c d e)

pub comps_same : (xs ys : List Comp) → map comp_byte xs ≡ map comp_byte ys → xs ≡ ys
comps_same [] [] e = refl
comps_same [] (y ∷ ys) e = absurd (cc)
comps_same (x ∷ xs) [] e = absurd (cc)
comps_same (x ∷ xs) (y ∷ ys) e =
    let own : comp_byte x ≡ comp_byte y = cc in
    let later : map comp_byte xs ≡ map comp_byte ys = cc in
    let first : x ≡ y = comp_same x y own in
    let rest : xs ≡ ys = comps_same xs ys later in
    λ i. first i ∷ rest i

row_is : (a b : External) → same_row a b ≡ true → a ≡ b
row_is a b e =
    let parts = three (bytes_eq a.name b.name) (bytes_eq (map comp_byte a.params) (map comp_byte b.params)) (ret_byte a.result == ret_byte b.result) e in
    let name : a.name ≡ b.name = (bytes_eq-Decides a.name b.name).0 parts.0 in
    let params : a.params ≡ b.params = comps_same a.params b.params ((bytes_eq-Decides (map comp_byte a.params) (map comp_byte b.params)).0 parts.1) in
    let result : a.result ≡ b.result = ret_same a.result b.result (eqb-true (ret_byte a.result) (ret_byte b.result) parts.2) in
    λ i. record { name = name i; params = params i; result = result i }

among_in : (rows : List External) (e : External) → is_among_externals rows e ≡ true → Contains rows e
among_in [] e h = absurd (let z : false ≡ true = h in cc)
among_in (x ∷ rows) e h = by (same_row x e) refl h (λ h. among_in rows e h)
  where
    by : (b : Bool) → same_row x e ≡ b → (b || is_among_externals rows e) ≡ true → (is_among_externals rows e ≡ true → Contains rows e) → Contains (x ∷ rows) e
    by true is h later = (0, omega arith, row_is x e is)
    by false is h later = Contains-append_right (x ∷ []) rows e (later h)

kept_in : (before es : List External) (x : External) → Contains before x → Contains (firsts_behind before es) x
kept_in before [] x c = c
kept_in before (e ∷ es) x c = kept_in (cond (is_among_externals before e) before (before ++ e ∷ [])) es x (by (is_among_externals before e))
  where
    by : (b : Bool) → Contains (cond b before (before ++ e ∷ [])) x
    by true = c
    by false = Contains-append_left before (e ∷ []) x c

first_in : (before es : List External) (x : External) → Contains es x → Contains (firsts_behind before es) x
first_in before [] x c = absurd (contains_none x c)
first_in before (e ∷ es) x c =
    ⊎_elim (λ same. kept_in (cond (is_among_externals before e) before (before ++ e ∷ [])) es x (subst (λ y. Contains (cond (is_among_externals before e) before (before ++ e ∷ [])) y) same (by (is_among_externals before e) refl)))
    (λ c. first_in (cond (is_among_externals before e) before (before ++ e ∷ [])) es x c) (contains_cases e es x c)
  where
    by : (b : Bool) → is_among_externals before e ≡ b → Contains (cond b before (before ++ e ∷ [])) e
    by true is = among_in before e is
    by false is = Contains-append_right before (e ∷ []) e (0, omega arith, refl)

called_in : (fs : List FunctionTree) (f : FunctionTree) (x : External) → Contains fs f → Contains (calls_in_function f) x → Contains (flat_map calls_in_function fs) x
called_in [] f x c h = absurd (contains_none f c)
called_in (g ∷ fs) f x c h =
    ⊎_elim (λ same. Contains-append_left (calls_in_function g) (flat_map calls_in_function fs) x (subst (λ g. Contains (calls_in_function g) x) (sym same) h))
    (λ c. Contains-append_right (calls_in_function g) (flat_map calls_in_function fs) x (called_in fs f x c h)) (contains_cases g fs f c)

-- ---- the whole

each_is : {P : Piece → Type 0} (ps : List Piece) → EachPiece P ps → AllByRecursion P ps
each_is [] all = tt
each_is (p ∷ ps) (each_more h hs) = (h, each_is ps hs)

all_named : (file : FileTree) (whole : List Piece) {A B C : Piece → Type 0} (ps : List Piece) → ((p : Piece) → A p → B p → C p → AreNamesPresent file whole p) → EachPiece A ps → EachPiece B ps → EachPiece C ps →
    AllByRecursion (AreNamesPresent file whole) ps
all_named file whole [] make a b c = tt
all_named file whole (p ∷ ps) make (each_more a as') (each_more b bs) (each_more c cs) = (make p a b c, all_named file whole ps make as' bs cs)

module _ (text : List ℕ) (file : FileTree) (is : IsFileOf text file) (tree : FunctionTree) (among : Contains (functions file) tree) (m : Lin) (ds : List Descr) (pieces : Pieces)
    (chained : IsChained tree m ds pieces) (named : NamedAt) (lives : NamesLives m named) where
  kept : LinearKeeps (selected tree) m named
  kept = chained.lines.keeps named lives

  symbol_known : (name : List ℕ) → IsNamedIn (NamesSymbol name) m → IsSome (value_of_symbol file name)
  symbol_known name n =
      first_valued file name
      (named_defined (definitions file) (with_parameters tree.params []) [] tree.body name (left (right (front_accepts text file is tree among).typed))
      ((front_selects text file is tree among).symbols name (kept.symbols name n)))

  external_known : (row : declared.External) → IsExternalOf m row → Contains (externals file) (external_row row)
  external_known row n =
      let calls : IsNamedIn (NamesExternal (external_row row)) m =
      record { line = n.line; among = n.among; op = op.Calling (calling.External row n.frame); is = n.is; named = calls_out refl } in
      first_in [] (all_calls file) (external_row row)
      (called_in (functions file) tree (external_row row) among
      (named_called (with_parameters tree.params []) tree.body (external_row row) ((front_selects text file is tree among).externals (external_row row) (kept.externals (external_row row) calls))))

  label_once : (traps : ℕ → ℕ) (l : ℕ) → IsLabelOf m l → count_by (is_label_piece l) (emitted m traps ds).code ≡ 1
  label_once traps l n =
      label_count l (emitted m traps ds).code
      ∙ once l (places_in (emitted m traps ds).code) (subst (AllPairs (λ j k. j ≢ k)) (sym (places_are_labels m traps ds)) chained.lines.regular.well.labels)
      (named_labels_stand m chained.lines.regular.well traps ds l n)

  laid : (traps : ℕ → ℕ) → IsFunctionLaid file (emitted m traps ds)
  laid traps =
      let fits = chained.lines.within.frame m.code [] (by_walk at_entry) in
      record {
        nonempty = some_words m chained.lines.unended traps ds;
        fits = each_is (emitted m traps ds).code (numbers_fit m traps ds);
        named = all_named file (emitted m traps ds).code (emitted m traps ds).code
            (λ p a b c. record { label = λ l e. label_once traps l (a l e); symbol = λ name e. symbol_known name (b name e); external = λ row e. external_known row (c row e) })
            (labels_are_named m traps ds) (symbols_are_named m traps ds) (externals_are_named m traps ds);
        frame = omega arith;
        frame_fits = omega (arith, fits);
        descriptors = descriptors_stand m traps ds (descriptors_are m chained.lines.regular chained.lines.within ds chained.exact chained.homes);
      }

  -- The pieces of the function can be laid out.
  pub function_can : IsFunctionLaid file pieces
  function_can = subst (IsFunctionLaid file) (sym chained.emitted.is) (laid chained.emitted.traps)
