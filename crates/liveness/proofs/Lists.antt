-- Places of labels and of handlers, as far as a function is read.
use Rattle.std.proofs.Common.{◌≡◌, ℕ, suc, ◌-◌, Bool, true, false, cond, List, ◌∷◌, [], length, map, drop, refl, sym, ap, ◌∙◌, subst, arith}
use Rattle.std.proofs.lemmas.List.{length-drop}
use Rattle.mach_ir.specs.Acts.{Target, On, At}
use Rattle.mach_ir.specs.Meaning.{after_label, from_handler, has_label, is_handler_of, code_at}
use Rattle.bs_words.specs.Contents.{contents}
use Rattle.mach_ir.specs.Walks.{targets, may_raise}
use Rattle.mach_ir.specs.declared.mach.Mark.{Mark}
use Rattle.mach_ir.specs.declared.mach.Mark.TheVariants as mark
use Rattle.mach_ir.specs.declared.mach.MachOp.TheVariants as mach
use Rattle.mach_ir.specs.declared.mach.Instr.{Instr}
use Rattle.mach_ir.specs.declared.mach.Mach.{Mach}
use Rattle.mach_laws.specs.Graph.{code_index, handler_places}
use Rattle.mach_ir.specs.Labels.{place_to}
use Rattle.liveness.specs.Labels.{instruction_of_label, handler_places_in, AreLabelsOf}
use Rattle.liveness.specs.Nodes.{AreEdgesAt}
use Rattle.liveness.specs.declared.edges.Edges.{Edges}
use Rattle.liveness.specs.declared.labels.InstructionLabels.{InstructionLabels}

-- the place of the code after an instruction
pub place_next : (m : Mach) (p : ℕ) (i : Instr) (next : List Instr) → drop p m.code ≡ i ∷ next → code_index m next ≡ suc p
place_next m p i next e =
    let long : length (drop p m.code) ≡ length m.code - p = length-drop p m.code in
    let same : length (drop p m.code) ≡ suc (length next) = ap length e in
    omega (arith, long, same)

-- the place of that instruction
pub place_here : (m : Mach) (p : ℕ) (i : Instr) (next : List Instr) → drop p m.code ≡ i ∷ next → code_index m (i ∷ next) ≡ p
place_here m p i next e =
    let long : length (drop p m.code) ≡ length m.code - p = length-drop p m.code in
    let same : length (drop p m.code) ≡ suc (length next) = ap length e in
    omega (arith, long, same)

-- the first label, of those of an instruction and of the code after it
pub label_more : (m : Mach) (l p : ℕ) (i : Instr) (next : List Instr) → drop p m.code ≡ i ∷ next →
    code_index m (after_label l (i ∷ next)) ≡ cond (has_label l i.op) (suc p) (code_index m (after_label l next))
label_more m l p i next e = by (has_label l i.op)
  where
    by : (b : Bool) → code_index m (cond b next (after_label l next)) ≡ cond b (suc p) (code_index m (after_label l next))
    by true = place_next m p i next e
    by false = refl

pub handler_more : (m : Mach) (l p : ℕ) (i : Instr) (next : List Instr) → drop p m.code ≡ i ∷ next →
    code_index m (from_handler l (i ∷ next)) ≡ cond (is_handler_of l i.op) p (code_index m (from_handler l next))
handler_more m l p i next e = by (is_handler_of l i.op)
  where
    by : (b : Bool) → code_index m (cond b (i ∷ next) (from_handler l next)) ≡ cond b p (code_index m (from_handler l next))
    by true = place_here m p i next e
    by false = refl

-- the places of labels
pub switch_done : (labels : InstructionLabels) (p : ℕ) (places ls slice : List ℕ) (f : Mark) → f ≡ mark.Switch ls → slice ≡ ls →
    ((p : ℕ) → places ≡ map (place_to (instruction_of_label labels) p) (map At slice)) → places ≡ map (place_to (instruction_of_label labels) p) (targets (mach.Mark f))
switch_done labels p places ls slice f e s h =
    subst (λ (g : Mark). places ≡ map (place_to (instruction_of_label labels) p) (targets (mach.Mark g))) (sym e)
    (subst (λ xs. places ≡ map (place_to (instruction_of_label labels) p) (map At xs)) s (h p))

-- where an instruction goes on, by the table and by the text
pub places_to : (m : Mach) (labels : InstructionLabels) (p : ℕ) (i : Instr) (next : List Instr) → AreLabelsOf m labels → drop p m.code ≡ i ∷ next →
    (ts : List Target) → map (place_to (instruction_of_label labels) p) ts ≡ map (λ t. code_index m (code_at m.code next t)) ts
places_to m labels p i next are e [] = refl
places_to m labels p i next are e (t ∷ ts) =
    ap (λ q. q ∷ map (place_to (instruction_of_label labels) p) ts) (one t)
    ∙ ap (λ qs. code_index m (code_at m.code next t) ∷ qs) (places_to m labels p i next are e ts)
  where
    one : (t : Target) → place_to (instruction_of_label labels) p t ≡ code_index m (code_at m.code next t)
    one On = sym (place_next m p i next e)
    one (At l) = are.places l

pub handlers_to : (m : Mach) (labels : InstructionLabels) → AreLabelsOf m labels → (b : Bool) (tries : List ℕ) →
    handler_places_in labels b tries ≡ handler_places m b tries
handlers_to m labels are false tries = refl
handlers_to m labels are true [] = refl
handlers_to m labels are true (l ∷ tries) = ap (λ q. q ∷ []) (are.handlers l)

pub edges_made : (m : Mach) (labels : InstructionLabels) (p : ℕ) (i : Instr) (tries : List ℕ) (edges : Edges) → AreLabelsOf m labels →
    contents edges.next ≡ map (place_to (instruction_of_label labels) p) (targets i.op) →
    contents edges.aside ≡ handler_places_in labels (may_raise i.op) tries → AreEdgesAt m p i tries edges
edges_made m labels p i tries edges are e h =
    record {
      there = λ next at same.
          record {
            next = e ∙ places_to m labels p i next are at (targets i.op);
            aside = h ∙ handlers_to m labels are (may_raise i.op) tries ∙ ap (handler_places m (may_raise i.op)) same;
          };
    }
