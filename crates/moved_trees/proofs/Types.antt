-- Types, lightness and widths of a tree are those of the tree without its places.
use Rattle.std.proofs.Common.{◌≡◌, suc, ◌+◌, false, not, ◌&&◌, ◌||◌, List, [], ◌∷◌, Option, Some, None, length, refl}
use Rattle.bs_words.specs.declared.types.Ty.{Ty}
use Rattle.bs_words.specs.declared.types.Ty.TheVariants as ty
use Rattle.bs_words.specs.Fits.{type_of_comp}
use Rattle.bs_words.specs.declared.operators.IntOp.TheVariants as operator
use Rattle.cmm_tree.specs.Measures.{count_of}
use Rattle.cmm_tree.specs.Tree.{Parameter, Declaration, Expression, Integer, Pointer, Symbol, Name, Nothing, Float, Let, Assign, Operator, Load, Store, Alloc, App, Extcall, Checkbound, Raise, Seq, If, Switch, Catch, Exit, Try, Expressions, NoMore, More, Bindings, NoBinding, Bind, Cases, NoCase, Choose, Handlers, NoHandler, Handle}
use Rattle.cmm_types.specs.Light.{is_light, is_light_address, is_light_operator}
use Rattle.cmm_types.specs.Types.{Scoped, holds_float, row_holds_float, bindings_hold_float, cases_hold_float, handlers_hold_float, has_float_parameter, is_declared_float, is_float, is_float_result, type_without_float, type_of_last, with_bindings, type_of_cases, type_of_handlers, with_parameters, type_bound, is_mutable, type_of, unless_float, join, comp_of_argument}
use Rattle.cmm_meaning.specs.Evaluation.{is_left_first, comps_of_arguments}
use Rattle.moved_texts.specs.Unplaced.{unplaced, unplaced_row, unplaced_bindings, unplaced_cases, unplaced_handlers, unplaced_parameters, unplaced_declared}
use Rattle.selection_rules.specs.Select.{width, width_cases, width_row, width_bound, width_handlers, width_labels, count_cases}

-- ---- floats

declared_float : (d : Option Declaration) → is_declared_float (unplaced_declared d) ≡ is_declared_float d
declared_float None = refl
declared_float (Some d) = refl

params_float : (ps : List Parameter) → has_float_parameter (unplaced_parameters ps) ≡ has_float_parameter ps
params_float [] = refl
params_float (p ∷ ps) = λ i. is_float p.comp || params_float ps i

mutual
  pub floats : (e : Expression) → holds_float (unplaced e) ≡ holds_float e
  floats (Integer at word) = refl
  floats (Pointer at word) = refl
  floats (Symbol at name) = refl
  floats (Name at name) = refl
  floats (Nothing at) = refl
  floats (Float at word_at operands) = refl
  floats (Let at bindings body) = λ i. bindings_float bindings i || floats body i
  floats (Assign at name_at name value) = floats value
  floats (Operator at op left right) = λ i. floats left i || floats right i
  floats (Load at chunk address) = floats address
  floats (Store at chunk address value) = λ i. floats address i || floats value i
  floats (Alloc at header_at header operands) = row_floats operands
  floats (App at callee arguments result result_at) = λ i. floats callee i || row_floats arguments i || is_float_result result
  floats (Extcall at frame name arguments result result_at) = λ i. row_floats arguments i || is_float_result result
  floats (Checkbound at bound index) = λ i. floats bound i || floats index i
  floats (Raise at value) = floats value
  floats (Seq at elements) = row_floats elements
  floats (If at condition on_true on_false) = λ i. floats condition i || floats on_true i || floats on_false i
  floats (Switch at size_at size selector cases) = λ i. floats selector i || cases_float cases i
  floats (Catch at body handlers) = λ i. floats body i || handlers_float handlers i
  floats (Exit at label_at label arguments) = row_floats arguments
  floats (Try at body name_at name handler) = λ i. floats body i || floats handler i

  row_floats : (r : Expressions) → row_holds_float (unplaced_row r) ≡ row_holds_float r
  row_floats NoMore = refl
  row_floats (More e rest) = λ i. floats e i || row_floats rest i

  bindings_float : (b : Bindings) → bindings_hold_float (unplaced_bindings b) ≡ bindings_hold_float b
  bindings_float NoBinding = refl
  bindings_float (Bind at name declared value rest) = λ i. declared_float declared i || floats value i || bindings_float rest i

  cases_float : (c : Cases) → cases_hold_float (unplaced_cases c) ≡ cases_hold_float c
  cases_float NoCase = refl
  cases_float (Choose indexes body rest) = λ i. floats body i || cases_float rest i

  handlers_float : (h : Handlers) → handlers_hold_float (unplaced_handlers h) ≡ handlers_hold_float h
  handlers_float NoHandler = refl
  handlers_float (Handle at label params body rest) = λ i. params_float params i || floats body i || handlers_float rest i

-- ---- types

pub bound_type : (d : Option Declaration) (t : Ty) → type_bound (unplaced_declared d) t ≡ type_bound d t
bound_type None t = refl
bound_type (Some d) t = refl

pub bound_mutable : (d : Option Declaration) → is_mutable (unplaced_declared d) ≡ is_mutable d
bound_mutable None = refl
bound_mutable (Some d) = refl

pub parameters : (ps : List Parameter) (scope : List Scoped) → with_parameters (unplaced_parameters ps) scope ≡ with_parameters ps scope
parameters [] scope = refl
parameters (p ∷ ps) scope = parameters ps (record { name = p.name; type = type_of_comp p.comp; mutable = false } ∷ scope)

mutual
  pub bare_types : (e : Expression) (s : List Scoped) → type_without_float s (unplaced e) ≡ type_without_float s e
  bare_types (Integer at word) s = refl
  bare_types (Pointer at word) s = refl
  bare_types (Symbol at name) s = refl
  bare_types (Name at name) s = refl
  bare_types (Nothing at) s = refl
  bare_types (Float at word_at operands) s = refl
  bare_types (Let at bindings body) s = λ i. bare_types body (bindings_scope bindings s i) i
  bare_types (Assign at name_at name value) s = refl
  bare_types (Operator at op left right) s = refl
  bare_types (Load at chunk address) s = refl
  bare_types (Store at chunk address value) s = refl
  bare_types (Alloc at header_at header operands) s = refl
  bare_types (App at callee arguments result result_at) s = refl
  bare_types (Extcall at frame name arguments result result_at) s = refl
  bare_types (Checkbound at bound index) s = refl
  bare_types (Raise at value) s = refl
  bare_types (Seq at elements) s = last_types elements s
  bare_types (If at condition on_true on_false) s = λ i. join (bare_types on_true s i) (bare_types on_false s i)
  bare_types (Switch at size_at size selector cases) s = case_types cases s
  bare_types (Catch at body handlers) s = λ i. join (bare_types body s i) (handler_types handlers s i)
  bare_types (Exit at label_at label arguments) s = refl
  bare_types (Try at body name_at name handler) s = λ i. join (bare_types body s i) (bare_types handler (record { name = name; type = ty.Val; mutable = false } ∷ s) i)

  last_types : (r : Expressions) (s : List Scoped) → type_of_last s (unplaced_row r) ≡ type_of_last s r
  last_types NoMore s = refl
  last_types (More e NoMore) s = bare_types e s
  last_types (More e (More g rest)) s = last_types (More g rest) s

  pub bindings_scope : (b : Bindings) (s : List Scoped) → with_bindings s (unplaced_bindings b) ≡ with_bindings s b
  bindings_scope NoBinding s = refl
  bindings_scope (Bind at name declared value rest) s =
      λ i.
      bindings_scope rest
      (record {
        name = name;
        type = bound_type declared (unless_float (floats value i) (bare_types value s i)) i;
        mutable = bound_mutable declared i;
      } ∷ s) i

  case_types : (c : Cases) (s : List Scoped) → type_of_cases s (unplaced_cases c) ≡ type_of_cases s c
  case_types NoCase s = refl
  case_types (Choose indexes body rest) s = λ i. join (bare_types body s i) (case_types rest s i)

  handler_types : (h : Handlers) (s : List Scoped) → type_of_handlers s (unplaced_handlers h) ≡ type_of_handlers s h
  handler_types NoHandler s = refl
  handler_types (Handle at label params body rest) s =
      λ i. join (bare_types body (parameters params s i) i) (handler_types rest s i)

pub types : (e : Expression) (s : List Scoped) → type_of s (unplaced e) ≡ type_of s e
types e s = λ i. unless_float (floats e i) (bare_types e s i)

-- ---- what waits

pub lights : (e : Expression) (s : List Scoped) → is_light s (unplaced e) ≡ is_light s e
lights (Integer at word) s = refl
lights (Pointer at word) s = refl
lights (Symbol at name) s = refl
lights (Name at name) s = refl
lights (Nothing at) s = refl
lights (Float at word_at operands) s = refl
lights (Let at bindings body) s = refl
lights (Assign at name_at name value) s = refl
lights (Operator at op left right) s = λ i. is_light_operator op && (lights left s i && lights right s i)
lights (Load at chunk address) s = refl
lights (Store at chunk address value) s = refl
lights (Alloc at header_at header operands) s = refl
lights (App at callee arguments result result_at) s = refl
lights (Extcall at frame name arguments result result_at) s = refl
lights (Checkbound at bound index) s = refl
lights (Raise at value) s = refl
lights (Seq at elements) s = refl
lights (If at condition on_true on_false) s = refl
lights (Switch at size_at size selector cases) s = refl
lights (Catch at body handlers) s = refl
lights (Exit at label_at label arguments) s = refl
lights (Try at body name_at name handler) s = refl

pub light_addresses : (e : Expression) (s : List Scoped) → is_light_address s (unplaced e) ≡ is_light_address s e
light_addresses (Integer at word) s = refl
light_addresses (Pointer at word) s = refl
light_addresses (Symbol at name) s = refl
light_addresses (Name at name) s = refl
light_addresses (Nothing at) s = refl
light_addresses (Float at word_at operands) s = refl
light_addresses (Let at bindings body) s = refl
light_addresses (Assign at name_at name value) s = refl
light_addresses (Operator at operator.Add left right) s = refl
light_addresses (Operator at operator.Sub left right) s = refl
light_addresses (Operator at operator.Mul left right) s = refl
light_addresses (Operator at operator.Mulh left right) s = refl
light_addresses (Operator at operator.Div left right) s = refl
light_addresses (Operator at operator.Mod left right) s = refl
light_addresses (Operator at operator.And left right) s = refl
light_addresses (Operator at operator.Or left right) s = refl
light_addresses (Operator at operator.Xor left right) s = refl
light_addresses (Operator at operator.Shl left right) s = refl
light_addresses (Operator at operator.Shr left right) s = refl
light_addresses (Operator at operator.Sar left right) s = refl
light_addresses (Operator at (operator.Cmp f) left right) s = refl
light_addresses (Operator at (operator.CmpU f) left right) s = refl
light_addresses (Operator at operator.AddV left right) s = refl
light_addresses (Operator at operator.AddA left right) s = λ i. lights left s i && lights right s i
light_addresses (Load at chunk address) s = refl
light_addresses (Store at chunk address value) s = refl
light_addresses (Alloc at header_at header operands) s = refl
light_addresses (App at callee arguments result result_at) s = refl
light_addresses (Extcall at frame name arguments result result_at) s = refl
light_addresses (Checkbound at bound index) s = refl
light_addresses (Raise at value) s = refl
light_addresses (Seq at elements) s = refl
light_addresses (If at condition on_true on_false) s = refl
light_addresses (Switch at size_at size selector cases) s = refl
light_addresses (Catch at body handlers) s = refl
light_addresses (Exit at label_at label arguments) s = refl
light_addresses (Try at body name_at name handler) s = refl

pub left_first : (s : List Scoped) (l r : Expression) → is_left_first s (unplaced l) (unplaced r) ≡ is_left_first s l r
left_first s l r = λ i. light_addresses r s i && not (light_addresses l s i)

-- ---- counts and widths

pub counts : (r : Expressions) → count_of (unplaced_row r) ≡ count_of r
counts NoMore = refl
counts (More e rest) = λ i. suc (counts rest i)

pub lengths : (ps : List Parameter) → length (unplaced_parameters ps) ≡ length ps
lengths [] = refl
lengths (p ∷ ps) = λ i. suc (lengths ps i)

pub label_widths : (h : Handlers) → width_labels (unplaced_handlers h) ≡ width_labels h
label_widths NoHandler = refl
label_widths (Handle at label params body rest) = λ i. suc (lengths params i) + label_widths rest i

pub case_counts : (c : Cases) → count_cases (unplaced_cases c) ≡ count_cases c
case_counts NoCase = refl
case_counts (Choose indexes body rest) = λ i. suc (case_counts rest i)

mutual
  pub widths : (e : Expression) → width (unplaced e) ≡ width e
  widths (Integer at word) = refl
  widths (Pointer at word) = refl
  widths (Symbol at name) = refl
  widths (Name at name) = refl
  widths (Nothing at) = refl
  widths (Float at word_at operands) = refl
  widths (Let at bindings body) = λ i. suc (bound_widths bindings i + widths body i)
  widths (Assign at name_at name value) = λ i. suc (suc (widths value i))
  widths (Operator at op left right) = λ i. suc (suc (suc (widths left i + widths right i)))
  widths (Load at chunk address) = λ i. suc (suc (widths address i))
  widths (Store at chunk address value) = λ i. suc (suc (suc (widths address i + widths value i)))
  widths (Alloc at header_at header operands) = λ i. suc (suc (suc (row_widths operands i)))
  widths (App at callee arguments result result_at) = λ i. suc (suc (suc (widths callee i + (row_widths arguments i + counts arguments i))))
  widths (Extcall at frame name arguments result result_at) = λ i. suc (suc (row_widths arguments i + counts arguments i))
  widths (Checkbound at bound index) = λ i. suc (suc (suc (widths bound i + widths index i)))
  widths (Raise at value) = λ i. suc (suc (suc (widths value i)))
  widths (Seq at elements) = λ i. suc (row_widths elements i)
  widths (If at condition on_true on_false) = λ i. suc (suc (suc (suc (widths condition i + (widths on_true i + widths on_false i)))))
  widths (Switch at size_at size selector cases) = λ i. suc (suc (suc (case_counts cases i + (widths selector i + case_widths cases i))))
  widths (Catch at body handlers) = λ i. suc (suc (label_widths handlers i + (widths body i + handler_widths handlers i)))
  widths (Exit at label_at label arguments) = λ i. suc (row_widths arguments i)
  widths (Try at body name_at name handler) = λ i. suc (suc (suc (suc (suc (widths body i + widths handler i)))))

  pub case_widths : (c : Cases) → width_cases (unplaced_cases c) ≡ width_cases c
  case_widths NoCase = refl
  case_widths (Choose indexes body rest) = λ i. widths body i + case_widths rest i

  pub row_widths : (r : Expressions) → width_row (unplaced_row r) ≡ width_row r
  row_widths NoMore = refl
  row_widths (More e rest) = λ i. suc (widths e i + row_widths rest i)

  pub bound_widths : (b : Bindings) → width_bound (unplaced_bindings b) ≡ width_bound b
  bound_widths NoBinding = refl
  bound_widths (Bind at name declared e rest) = λ i. suc (widths e i + bound_widths rest i)

  pub handler_widths : (h : Handlers) → width_handlers (unplaced_handlers h) ≡ width_handlers h
  handler_widths NoHandler = refl
  handler_widths (Handle at label params body rest) = λ i. widths body i + handler_widths rest i

pub arguments_comps : (r : Expressions) (s : List Scoped) → comps_of_arguments s (unplaced_row r) ≡ comps_of_arguments s r
arguments_comps NoMore s = refl
arguments_comps (More e rest) s = λ i. comp_of_argument (types e s i) ∷ arguments_comps rest s i
