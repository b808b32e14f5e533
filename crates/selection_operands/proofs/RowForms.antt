-- The code of forms that take a row of operands, where each part of it is given by an equation.
use Rattle.std.proofs.Common.{◌≡◌, ℕ, suc, ◌+◌, ◌-◌, ◌&&◌, Bool, false, not, List, ◌∷◌, Option, length, ap, ◌∙◌, nat_le, ◌%◌, arith}
use Rattle.bs_words.specs.declared.types.Chunk.{Chunk}
use Rattle.bs_words.specs.declared.types.Chunk.TheVariants as chunk
use Rattle.bs_words.specs.declared.types.Comp.{Comp}
use Rattle.bs_words.specs.declared.types.Ret.{Ret}
use Rattle.bs_words.specs.declared.types.Ty.{Ty}
use Rattle.bs_words.specs.declared.types.Ty.TheVariants as ty
use Rattle.cmm_tree.specs.Rows.{expressions_of}
use Rattle.cmm_tree.specs.Tree.{LabelTree, App, Extcall, Exit, Alloc}
use Rattle.cmm_tree.specs.View.{expr_view}
use Rattle.cmm_tree.specs.declared.expr.Expr.{Expr}
use Rattle.cmm_types.specs.Annotated.{IsAnnotated}
use Rattle.cmm_types.specs.Light.{is_light_address}
use Rattle.cmm_types.specs.Types.{type_of}
use Rattle.cmm_meaning.specs.Evaluation.{comps_of_arguments}
use Rattle.mach_ir.specs.declared.mach.Instr.{Instr}
use Rattle.mach_ir.specs.declared.reg.Reg.{Reg}
use Rattle.selection_rules.specs.Instructions as emit
use Rattle.selection_rules.specs.Select.{Label, Code, fresh_register, inner_dest, inner_valued, select, select_waiting, select_filled, only_when, unless_symbol, called_symbol, call_of, moves_all, seats, result_seat, from_seat, regs_of, visible_label, exit_to_handler, cell_stores, chunk_for, header_offset, width}
use Rattle.cmm_tree.specs.Measures.{count_of}
use Rattle.selection_scope.proofs.Counts.{count-row}
use Rattle.selection_operands.proofs.Waiting.{called-here}
use Rattle.selection_operands.specs.Below.{node_code}
use Rattle.selection_operands.specs.Operands.{lacks}
use Rattle.selection_scope.specs.Scoping.{LexicalScope, scoped_names}
use Rattle.selection_scope.specs.declared.place.Place.{Place}

pub exit-is : (scope : LexicalScope) (place : Place) (label : LabelTree) (arguments : List Expr) (row base : ℕ) (regs : List Reg) (target : Option Label) (next left filled made : List Instr) (at label_at : ℕ)
    → row ≡ place.base + 1
    → base ≡ row + length arguments
    → regs ≡ regs_of scope.names row (expressions_of arguments)
    → target ≡ visible_label scope.labels label
    → left ≡ exit_to_handler target regs next
    → filled ≡ select_filled scope.names scope.labels row base (expressions_of arguments) left
    → made ≡ select_waiting scope.names scope.labels row base (expressions_of arguments) filled
    → made ≡ node_code scope place (Exit at label_at label (expressions_of arguments)) next
exit-is scope place label arguments row base regs target next left filled made at label_at re be rs ta l f m =
    let env = scope.names in
    let labels = scope.labels in
    let b = place.base in
    let es = expressions_of arguments in
    let count : count_of es ≡ length arguments = count-row arguments in
    let row-is : row ≡ suc b = omega arith in
    let base-is : base ≡ suc b + count_of es = omega (arith, count) in
    let whole : ℕ → ℕ → List Reg → Option Label → List Instr = λ r i x t. select_waiting env labels r i es (select_filled env labels r i es (exit_to_handler t x next)) in
    let T : Option Label = visible_label labels label in
    m
    ∙ ap (select_waiting env labels row base es) (f ∙ ap (select_filled env labels row base es) l)
    ∙ ap (whole row base regs) ta
    ∙ ap (λ x. whole row base x T) rs
    ∙ ap (λ k. whole k base (regs_of env k es) T) row-is
    ∙ ap (λ k. whole (suc b) k (regs_of env (suc b) es) T) base-is

pub extcall-is : (scope : LexicalScope) (place : Place) (type : Ty) (frame : Bool) (name : List ℕ) (arguments : List Expr) (result : Ret) (row count seated given base : ℕ) (regs args results : List Reg) (comps : List Comp) (d : Reg)
    (next taken called moved filled made : List Instr) (at result_at : ℕ)
    → row ≡ place.base + 1
    → count ≡ length arguments
    → seated ≡ row + count
    → given ≡ seated + count
    → base ≡ given + 1
    → regs ≡ regs_of scope.names row (expressions_of arguments)
    → args ≡ seats 0 seated regs
    → comps ≡ comps_of_arguments (scoped_names scope) (expressions_of arguments)
    → results ≡ result_seat given result
    → type ≡ type_of (scoped_names scope) (Extcall at frame name (expressions_of arguments) result result_at)
    → d ≡ inner_dest type place.base place.dest
    → taken ≡ from_seat given result d next
    → called ≡ emit.external_instruction name comps result frame args results ∷ taken
    → moved ≡ moves_all regs args called
    → filled ≡ select_filled scope.names scope.labels row base (expressions_of arguments) moved
    → made ≡ select_waiting scope.names scope.labels row base (expressions_of arguments) filled
    → made ≡ node_code scope place (Extcall at frame name (expressions_of arguments) result result_at) next
extcall-is scope place type frame name arguments result row count seated given base regs args results comps d next taken called moved filled made at result_at re ce se ge be rs ar cs us te de t c v f m =
    let env = scope.names in
    let labels = scope.labels in
    let b = place.base in
    let es = expressions_of arguments in
    let size : count_of es ≡ length arguments = count-row arguments in
    let row-is : row ≡ suc b = omega arith in
    let seated-is : seated ≡ suc b + count_of es = omega (arith, size) in
    let given-is : given ≡ suc b + count_of es + count_of es = omega (arith, size) in
    let base-is : base ≡ suc (suc b + count_of es + count_of es) = omega (arith, size) in
    let own : Reg = inner_dest (type_of (scoped_names scope) (Extcall at frame name es result result_at)) b place.dest in
    let own-is : d ≡ own = de ∙ ap (λ k. inner_dest k b place.dest) te in
    let inside : List Reg → List Reg → List Comp → List Reg → List Instr → List Instr = λ x y z u rest. moves_all x y (emit.external_instruction name z result frame y u ∷ rest) in
    let put : ℕ → ℕ → List Instr → List Instr = λ r i rest. select_waiting env labels r i es (select_filled env labels r i es rest) in
    let C : List Comp = comps_of_arguments (scoped_names scope) es in
    let whole : ℕ → ℕ → ℕ → ℕ → List Reg → List Instr = λ r s g i x. put r i (inside x (seats 0 s x) C (result_seat g result) (from_seat g result own next)) in
    m
    ∙ ap (select_waiting env labels row base es) (f ∙ ap (select_filled env labels row base es) (v ∙ ap (moves_all regs args) c))
    ∙ ap (λ rest. put row base (inside regs args comps results rest)) (t ∙ ap (λ k. from_seat given result k next) own-is)
    ∙ ap (λ u. put row base (inside regs args comps u (from_seat given result own next))) us
    ∙ ap (λ z. put row base (inside regs args z (result_seat given result) (from_seat given result own next))) cs
    ∙ ap (λ y. put row base (inside regs y C (result_seat given result) (from_seat given result own next))) ar
    ∙ ap (whole row seated given base) rs
    ∙ ap (λ k. whole k seated given base (regs_of env k es)) row-is
    ∙ ap (λ k. whole (suc b) k given base (regs_of env (suc b) es)) seated-is
    ∙ ap (λ k. whole (suc b) (suc b + count_of es) k base (regs_of env (suc b) es)) given-is
    ∙ ap (λ k. whole (suc b) (suc b + count_of es) (suc b + count_of es + count_of es) k (regs_of env (suc b) es)) base-is

pub app-is : (scope : LexicalScope) (place : Place) (type : Ty) (callee : Expr) (arguments : List Expr) (result : Ret) (row count seated given base inner : ℕ) (light called early wants : Bool) (f d : Reg) (regs args : List Reg)
    (next left moved late filled now made : List Instr) (at result_at : ℕ)
    → row ≡ place.base + 2
    → count ≡ length arguments
    → seated ≡ row + count
    → given ≡ seated + count
    → base ≡ given + 1
    → inner ≡ base + width (expr_view callee)
    → IsAnnotated (scoped_names scope) callee
    → f ≡ fresh_register (row - 1) callee.ty
    → light ≡ is_light_address (scoped_names scope) (expr_view callee)
    → called ≡ lacks (called_symbol (expr_view callee))
    → early ≡ not light && called
    → regs ≡ regs_of scope.names row (expressions_of arguments)
    → args ≡ seats 0 seated regs
    → type ≡ type_of (scoped_names scope) (App at (expr_view callee) (expressions_of arguments) result result_at)
    → wants ≡ inner_valued place.valued type
    → d ≡ inner_dest type place.base place.dest
    → left ≡ call_of place.tail wants result (called_symbol (expr_view callee)) f args given d next
    → moved ≡ moves_all regs args left
    → late ≡ only_when light (select scope.names scope.labels false false f base (expr_view callee)) moved
    → filled ≡ select_filled scope.names scope.labels row inner (expressions_of arguments) late
    → now ≡ only_when early (select scope.names scope.labels false false f base (expr_view callee)) filled
    → made ≡ select_waiting scope.names scope.labels row inner (expressions_of arguments) now
    → made ≡ node_code scope place (App at (expr_view callee) (expressions_of arguments) result result_at) next
app-is scope place type callee arguments result row count seated given base inner light called early wants f d regs args next left moved late filled now made at result_at re ce se ge be ie typed fe le ca ea rs ar te we de l v w fi n m =
    let env = scope.names in
    let labels = scope.labels in
    let b = place.base in
    let es = expressions_of arguments in
    let e = expr_view callee in
    let name = called_symbol e in
    let size : count_of es ≡ length arguments = count-row arguments in
    let G : ℕ = suc (suc b) + count_of es + count_of es in
    let row-is : row ≡ suc (suc b) = omega arith in
    let number : row - 1 ≡ suc b = omega arith in
    let seated-is : seated ≡ suc (suc b) + count_of es = omega (arith, size) in
    let given-is : given ≡ G = omega (arith, size) in
    let base-is : base ≡ suc G = omega (arith, size) in
    let inner-is : inner ≡ suc G + width e = omega (arith, size) in
    let type' : Ty = type_of (scoped_names scope) (App at e es result result_at) in
    let own : Reg = inner_dest type' b place.dest in
    let own-is : d ≡ own = de ∙ ap (λ k. inner_dest k b place.dest) te in
    let W : Bool = inner_valued place.valued type' in
    let wants-is : wants ≡ W = we ∙ ap (inner_valued place.valued) te in
    let F : Reg = fresh_register (suc b) (type_of (scoped_names scope) e) in
    let register-is : f ≡ F = fe ∙ ap (λ k. fresh_register k callee.ty) number ∙ ap (fresh_register (suc b)) typed.type in
    let K : Bool = is_light_address (scoped_names scope) e in
    let own-code : ℕ → Reg → Code = λ i r. select env labels false false r i e in
    let early-is : early ≡ not K && lacks name = ea ∙ ap (λ z. not z && called) le ∙ ap (λ z. not K && z) ca in
    let inside : ℕ → ℕ → ℕ → ℕ → Reg → List Reg → List Reg → List Instr = λ r g i j x y z. select_filled env labels r j es (only_when K (own-code i x) (moves_all y z (call_of place.tail W result name x z g own next))) in
    let whole : ℕ → ℕ → ℕ → ℕ → ℕ → Reg → List Reg → List Instr = λ r s g i j x y. select_waiting env labels r j es (only_when (not K) (unless_symbol name (own-code i x)) (inside r g i j x y (seats 0 s y))) in
    let inside-is : filled ≡ inside row given base inner f regs args =
    fi
    ∙ ap (select_filled env labels row inner es)
    (w
    ∙ ap (λ z. only_when z (own-code base f) moved) le
    ∙ ap (only_when K (own-code base f))
    (v
    ∙ ap (moves_all regs args)
    (l ∙ ap (λ z. call_of place.tail z result name f args given d next) wants-is ∙ ap (λ z. call_of place.tail W result name f args given z next) own-is))) in
    let now-is : now ≡ only_when (not K) (unless_symbol name (own-code base f)) (inside row given base inner f regs args) =
    n
    ∙ ap (λ z. only_when z (own-code base f) filled) early-is
    ∙ ap (only_when (not K && lacks name) (own-code base f)) inside-is
    ∙ called-here K name (own-code base f) _ in
    m
    ∙ ap (select_waiting env labels row inner es) now-is
    ∙ ap (λ z. select_waiting env labels row inner es (only_when (not K) (unless_symbol name (own-code base f)) (inside row given base inner f regs z))) ar
    ∙ ap (whole row seated given base inner f) rs
    ∙ ap (λ x. whole row seated given base inner x (regs_of env row es)) register-is
    ∙ ap (λ k. whole k seated given base inner F (regs_of env k es)) row-is
    ∙ ap (λ k. whole (suc (suc b)) k given base inner F (regs_of env (suc (suc b)) es)) seated-is
    ∙ ap (λ k. whole (suc (suc b)) (suc (suc b) + count_of es) k base inner F (regs_of env (suc (suc b)) es)) given-is
    ∙ ap (λ k. whole (suc (suc b)) (suc (suc b) + count_of es) G k inner F (regs_of env (suc (suc b)) es)) base-is
    ∙ ap (λ k. whole (suc (suc b)) (suc (suc b) + count_of es) G (suc G) k F (regs_of env (suc (suc b)) es)) inner-is

pub alloc-is : (scope : LexicalScope) (place : Place) (type : Ty) (header : ℕ) (operands : List Expr) (row cells base : ℕ) (block word d : Reg) (regs : List Reg) (kind : Chunk)
    (next moved stored filled headed named made_block made : List Instr) (at header_at : ℕ)
    → row ≡ place.base + 3
    → cells ≡ length operands
    → base ≡ row + cells
    → block ≡ fresh_register (row - 2) ty.Val
    → word ≡ fresh_register (row - 1) ty.Int
    → regs ≡ regs_of scope.names row (expressions_of operands)
    → kind ≡ chunk_for (nat_le (header % 256) 250)
    → type ≡ type_of (scoped_names scope) (Alloc at header_at header (expressions_of operands))
    → d ≡ inner_dest type place.base place.dest
    → moved ≡ emit.move block d ∷ next
    → stored ≡ cell_stores kind block 0 regs moved
    → filled ≡ select_filled scope.names scope.labels row base (expressions_of operands) stored
    → headed ≡ emit.store chunk.Int header_offset block word ∷ filled
    → named ≡ emit.constant header word ∷ headed
    → made_block ≡ emit.alloc (record { header = header; cells = cells }) block ∷ named
    → made ≡ select_waiting scope.names scope.labels row base (expressions_of operands) made_block
    → made ≡ node_code scope place (Alloc at header_at header (expressions_of operands)) next
alloc-is scope place type header operands row cells base block word d regs kind next moved stored filled headed named made_block made at header_at re ce be bl wo rs ke te de mo so fi he na bo m =
    let env = scope.names in
    let labels = scope.labels in
    let b = place.base in
    let es = expressions_of operands in
    let size : count_of es ≡ length operands = count-row operands in
    let row-is : row ≡ suc (suc (suc b)) = omega arith in
    let cells-is : cells ≡ count_of es = omega (arith, size) in
    let base-is : base ≡ suc (suc (suc b)) + count_of es = omega (arith, size) in
    let p-number : row - 2 ≡ suc b = omega arith in
    let q-number : row - 1 ≡ suc (suc b) = omega arith in
    let own : Reg = inner_dest (type_of (scoped_names scope) (Alloc at header_at header es)) b place.dest in
    let own-is : d ≡ own = de ∙ ap (λ k. inner_dest k b place.dest) te in
    let P : Reg = fresh_register (suc b) ty.Val in
    let Q : Reg = fresh_register (suc (suc b)) ty.Int in
    let p-is : block ≡ P = bl ∙ ap (λ k. fresh_register k ty.Val) p-number in
    let q-is : word ≡ Q = wo ∙ ap (λ k. fresh_register k ty.Int) q-number in
    let K : Chunk = chunk_for (nat_le (header % 256) 250) in
    let whole : ℕ → ℕ → ℕ → Reg → Reg → List Reg → List Instr = λ r n i p q x.
    select_waiting env labels r i es
    (emit.alloc (record { header = header; cells = n }) p
    ∷ emit.constant header q
    ∷ emit.store chunk.Int header_offset p q
    ∷ select_filled env labels r i es (cell_stores K p 0 x (emit.move p own ∷ next))) in
    let stored-is : stored ≡ cell_stores K block 0 regs (emit.move block own ∷ next) =
    so ∙ ap (λ z. cell_stores z block 0 regs moved) ke ∙ ap (cell_stores K block 0 regs) (mo ∙ ap (λ z. emit.move block z ∷ next) own-is) in
    let headed-is : headed ≡ emit.store chunk.Int header_offset block word ∷ select_filled env labels row base es (cell_stores K block 0 regs (emit.move block own ∷ next)) =
    he ∙ ap (λ l. emit.store chunk.Int header_offset block word ∷ l) (fi ∙ ap (select_filled env labels row base es) stored-is) in
    m
    ∙ ap (select_waiting env labels row base es) (bo ∙ ap (λ l. emit.alloc (record { header = header; cells = cells }) block ∷ l) (na ∙ ap (λ l. emit.constant header word ∷ l) headed-is))
    ∙ ap (whole row cells base block word) rs
    ∙ ap (λ k. whole k cells base block word (regs_of env k es)) row-is
    ∙ ap (λ k. whole (suc (suc (suc b))) k base block word (regs_of env (suc (suc (suc b))) es)) cells-is
    ∙ ap (λ k. whole (suc (suc (suc b))) (count_of es) k block word (regs_of env (suc (suc (suc b))) es)) base-is
    ∙ ap (λ k. whole (suc (suc (suc b))) (count_of es) (suc (suc (suc b)) + count_of es) k word (regs_of env (suc (suc (suc b))) es)) p-is
    ∙ ap (λ k. whole (suc (suc (suc b))) (count_of es) (suc (suc (suc b)) + count_of es) P k (regs_of env (suc (suc (suc b))) es)) q-is
