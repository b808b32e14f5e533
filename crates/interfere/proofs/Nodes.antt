-- What the flow graph has for the instruction at a place.
use Rattle.std.proofs.Common.{◌≡◌, ℕ, suc, ◌<◌, ◌≤◌, List, [], ◌∷◌, length, map, drop, get_or, sym, ap, ◌∙◌, subst, arith}
use Rattle.std.specs.List.{All}
use Rattle.std.proofs.Math.Seq.{drop-cons}
use Rattle.std.proofs.lemmas.List.{get_or-map}
use Rattle.bs_words.specs.Contents.{contents}
use Rattle.dataflow.specs.Flow.{IsPlace, IsFlowFormed}
use Rattle.dataflow.specs.declared.flow.Flow as flow
use Rattle.dataflow.specs.declared.flow.Place as place
use Rattle.mach_ir.specs.Meaning.{registers_written}
use Rattle.mach_ir.specs.declared.mach.Instr.{Instr}
use Rattle.mach_ir.specs.declared.mach.Mach.{Mach}
use Rattle.mach_laws.specs.Graph.{numbers_of_registers, numbers_written, next_places, IsFlowOf}

-- the node of the instruction at a place
pub record IsNodeOf (m : Mach) (f : flow.Flow) (p : ℕ) (i : Instr) (node : place.Place) : Type 0 where
  pub at : drop p m.code ≡ i ∷ drop (suc p) m.code
  pub next : contents node.next ≡ next_places m (i ∷ drop (suc p) m.code)
  pub writes : contents node.writes ≡ numbers_of_registers (registers_written m i)
  pub formed : IsPlace (length (contents f.places)) f.bound node

pub node_read : (m : Mach) (f : flow.Flow) (p : ℕ) (code : List Instr) (i : Instr) (node : place.Place) → IsFlowOf m f → IsFlowFormed f →
    code ≡ m.code → p < length code → i ≡ get_or code p i → node ≡ get_or (contents f.places) p node → IsNodeOf m f p i node
node_read m f p code i node is formed same lt read there =
    record {
      at = at;
      next = of_node (λ x. contents x.next)
          ∙ is.next p ∙ ap (next_places m) at;
      writes = of_node (λ x. contents x.writes)
          ∙ is.writes p ∙ ap (numbers_written m) at;
      formed = subst (IsPlace (length (contents f.places)) f.bound) (sym there) (formed p node within);
    }
  where
    within : p < length (contents f.places)
    within = let count = is.places in let len : length code ≡ length m.code = ap length same in omega (arith, count, len, lt)

    of_node : (part : place.Place → List ℕ) → part node ≡ get_or (map part (contents f.places)) p []
    of_node part = sym (get_or-map part (contents f.places) p node [] within ∙ ap part (sym there))

    at : drop p m.code ≡ i ∷ drop (suc p) m.code
    at =
        let len : length code ≡ length m.code = ap length same in
        drop-cons m.code p i (omega (arith, len, lt))
        ∙ ap (λ x. x ∷ drop (suc p) m.code) (sym (read ∙ ap (λ (xs : List Instr). get_or xs p i) same))

pub places_small : (m : Mach) (f : flow.Flow) (p : ℕ) (i : Instr) (node : place.Place) (count : ℕ) → IsFlowOf m f →
    IsNodeOf m f p i node → count ≡ suc (length m.code) → All (λ q. q < count) (contents node.next)
places_small m f p i node count is here e =
    let places = is.places in
    let same : length (contents f.places) ≡ count = omega (arith, places, e) in
    subst (λ k. All (λ q. q < k) (contents node.next)) same here.formed.next

pub within : (m : Mach) (code : List Instr) (p : ℕ) → code ≡ m.code → length code ≤ p → length m.code ≤ p
within m code p same le = let len : length code ≡ length m.code = ap length same in omega (arith, len, le)
