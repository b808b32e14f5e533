-- Code in which each instruction of another code has been replaced.
use Rattle.std.specs.Prelude.{◌≡◌, ℕ, Bool, true, false, List, [], ◌∷◌, ◌++◌, length}
use Rattle.mach_ir.specs.Meaning.{has_label, is_handler_of}
use Rattle.mach_ir.specs.declared.mach.Mark.TheVariants as mark
use Rattle.mach_ir.specs.declared.mach.MachOp.{MachOp}
use Rattle.mach_ir.specs.declared.mach.MachOp.TheVariants as mach
use Rattle.mach_ir.specs.declared.mach.Instr.{Instr}

-- each instruction, with the number of those after it, replaced
abbrev pub expand : (ℕ → Instr → List Instr) → List Instr → List Instr
expand f [] = []
expand f (i ∷ is) = f (length is) i ++ expand f is

-- no instruction here marks the label
pub data NoLabel (l : ℕ) : List Instr → Type 0 where
  no_label : NoLabel l []
  not_labelled : {i : Instr} {is : List Instr} → has_label l i.op ≡ false → NoLabel l is →
      NoLabel l (i ∷ is)

-- none here is its handler
pub data NoHandler (l : ℕ) : List Instr → Type 0 where
  no_handler : NoHandler l []
  not_handled : {i : Instr} {is : List Instr} → is_handler_of l i.op ≡ false → NoHandler l is →
      NoHandler l (i ∷ is)

-- the marks that bound the body of a try
abbrev pub bounds_try : MachOp → Bool
bounds_try (mach.Mark (mark.Try l)) = true
bounds_try (mach.Mark (mark.Leave l end)) = true
bounds_try _ = false

-- none here is one
pub data NoBound : List Instr → Type 0 where
  no_bound : NoBound []
  not_bound : {i : Instr} {is : List Instr} → bounds_try i.op ≡ false → NoBound is →
      NoBound (i ∷ is)

-- For a mark with a label, and for one that bounds a try, there is that mark alone, for a handler it
-- comes first, and nothing else becomes one.
pub record KeepsMarks (f : ℕ → Instr → List Instr) : Type 0 where
  pub mark : (l n : ℕ) (i : Instr) → has_label l i.op ≡ true →
      (j : Instr) × (f n i ≡ j ∷ []) × (j.op ≡ i.op)
  pub none : (l n : ℕ) (i : Instr) → has_label l i.op ≡ false → NoLabel l (f n i)
  pub handler : (l n : ℕ) (i : Instr) → is_handler_of l i.op ≡ true →
      (j : Instr) × (post : List Instr) × (f n i ≡ j ∷ post) × (j.op ≡ i.op)
  pub no_other : (l n : ℕ) (i : Instr) → is_handler_of l i.op ≡ false → NoHandler l (f n i)
  pub bound : (n : ℕ) (i : Instr) → bounds_try i.op ≡ true →
      (j : Instr) × (f n i ≡ j ∷ []) × (j.op ≡ i.op)
  pub unbound : (n : ℕ) (i : Instr) → bounds_try i.op ≡ false → NoBound (f n i)

-- the second list ends with the first
pub data Ending (rest : List Instr) : List Instr → Type 0 where
  all : Ending rest rest
  more : {i : Instr} {code : List Instr} → Ending rest code → Ending rest (i ∷ code)
