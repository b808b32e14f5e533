-- The external calls of a function, and its row in an image, are those of the function without its places.
use Rattle.std.proofs.Common.{◌≡◌, ℕ, ◌*◌, false, List, [], ◌∷◌, ◌++◌, map, refl, sym, ap, ◌∙◌}
use Rattle.bs_words.specs.External.{External}
use Rattle.bs_words.specs.declared.types.Comp.{Comp}
use Rattle.bs_words.specs.declared.types.Ret.{Ret}
use Rattle.bs_words.specs.declared.types.Ty.TheVariants as ty
use Rattle.cmm_tree.specs.Tree.{FunctionTree, Parameter, Expression, Integer, Pointer, Symbol, Name, Nothing, Float, Let, Assign, Operator, Load, Store, Alloc, App, Extcall, Checkbound, Raise, Seq, If, Switch, Catch, Exit, Try, Expressions, NoMore, More, Bindings, NoBinding, Bind, Cases, NoCase, Choose, Handlers, NoHandler, Handle}
use Rattle.cmm_types.specs.Types.{Scoped, result_of}
use Rattle.moved_texts.specs.Unplaced.{unplaced, unplaced_row, unplaced_bindings, unplaced_cases, unplaced_handlers, unplaced_parameters, unplaced_function, DifferInPlaces}
use Rattle.moved_trees.proofs.Codes.{body_types}
use Rattle.moved_trees.proofs.Types.{arguments_comps, bindings_scope, parameters}
use Rattle.rv_layout_rules.specs.Externals.{calls_in, calls_in_row, calls_in_bindings, calls_in_cases, calls_in_handlers, calls_in_function}
use Rattle.rv_layout_rules.specs.Forms.{total_words}
use Rattle.rv_layout_rules.specs.Laid.{row_at}
use Rattle.rv_layout_rules.specs.declared.form.Form.{Form}
use Rattle.rv_pieces.specs.declared.piece.Pieces.{Pieces}

-- ---- external calls

abbrev external : List ℕ → List Comp → Ret → External
external name params result = record { name = name; params = params; result = result }

mutual
  calls : (e : Expression) (s : List Scoped) → calls_in s (unplaced e) ≡ calls_in s e
  calls (Integer at word) s = refl
  calls (Pointer at word) s = refl
  calls (Symbol at name) s = refl
  calls (Name at name) s = refl
  calls (Nothing at) s = refl
  calls (Float at word_at operands) s = row_calls operands s
  calls (Let at bindings body) s = λ i. bindings_calls bindings s i ++ calls body (bindings_scope bindings s i) i
  calls (Assign at name_at name value) s = calls value s
  calls (Operator at op left right) s = λ i. calls left s i ++ calls right s i
  calls (Load at chunk address) s = calls address s
  calls (Store at chunk address value) s = λ i. calls address s i ++ calls value s i
  calls (Alloc at header_at header operands) s = row_calls operands s
  calls (App at callee arguments result result_at) s = λ i. calls callee s i ++ row_calls arguments s i
  calls (Extcall at frame name arguments result result_at) s = λ i. external name (arguments_comps arguments s i) result ∷ row_calls arguments s i
  calls (Checkbound at bound index) s = λ i. calls bound s i ++ calls index s i
  calls (Raise at value) s = calls value s
  calls (Seq at elements) s = row_calls elements s
  calls (If at condition on_true on_false) s = λ i. calls condition s i ++ (calls on_true s i ++ calls on_false s i)
  calls (Switch at size_at size selector cases) s = λ i. calls selector s i ++ cases_calls cases s i
  calls (Catch at body handlers) s = λ i. calls body s i ++ handlers_calls handlers s i
  calls (Exit at label_at label arguments) s = row_calls arguments s
  calls (Try at body name_at name handler) s = λ i. calls body s i ++ calls handler (record { name = name; type = ty.Val; mutable = false } ∷ s) i

  row_calls : (r : Expressions) (s : List Scoped) → calls_in_row s (unplaced_row r) ≡ calls_in_row s r
  row_calls NoMore s = refl
  row_calls (More e rest) s = λ i. calls e s i ++ row_calls rest s i

  bindings_calls : (b : Bindings) (s : List Scoped) → calls_in_bindings s (unplaced_bindings b) ≡ calls_in_bindings s b
  bindings_calls NoBinding s = refl
  bindings_calls (Bind at name declared value rest) s =
      λ i. calls value s i ++ bindings_calls rest (bindings_scope (Bind at name declared value NoBinding) s i) i

  cases_calls : (c : Cases) (s : List Scoped) → calls_in_cases s (unplaced_cases c) ≡ calls_in_cases s c
  cases_calls NoCase s = refl
  cases_calls (Choose indexes body rest) s = λ i. calls body s i ++ cases_calls rest s i

  handlers_calls : (h : Handlers) (s : List Scoped) → calls_in_handlers s (unplaced_handlers h) ≡ calls_in_handlers s h
  handlers_calls NoHandler s = refl
  handlers_calls (Handle at label params body rest) s = λ i. calls body (parameters params s i) i ++ handlers_calls rest s i

unplaced_calls : (f : FunctionTree) → calls_in_function (unplaced_function f) ≡ calls_in_function f
unplaced_calls f = λ i. calls f.body (parameters f.params [] i) i

-- Of two functions that differ in places alone the external calls are the same.
pub calls_once : (f g : FunctionTree) → DifferInPlaces f g → calls_in_function f ≡ calls_in_function g
calls_once f g d = sym (unplaced_calls f) ∙ ap calls_in_function d.same ∙ unplaced_calls g

-- ---- rows

components : (ps : List Parameter) → map (λ (p : Parameter). p.comp) (unplaced_parameters ps) ≡ map (λ (p : Parameter). p.comp) ps
components [] = refl
components (p ∷ ps) = λ i. p.comp ∷ components ps i

unplaced_row_at : (at : ℕ) (f : FunctionTree) (p : Pieces) (forms : List Form) → row_at at (unplaced_function f) p forms ≡ row_at at f p forms
unplaced_row_at at f p forms =
    λ i. record {
      name = f.name;
      offset = 4 * at;
      words = total_words p.code forms;
      frame = p.frame;
      params = components f.params i;
      result = result_of (body_types f i);
    }

-- Two functions that differ in places alone have the same row.
pub row_once : (at : ℕ) (f g : FunctionTree) (p : Pieces) (forms : List Form) → DifferInPlaces f g → row_at at f p forms ≡ row_at at g p forms
row_once at f g p forms d = sym (unplaced_row_at at f p forms) ∙ ap (λ (h : FunctionTree). row_at at h p forms) d.same ∙ unplaced_row_at at g p forms
