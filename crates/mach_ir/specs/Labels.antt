-- The labels of marks, and where control goes on by a table of the places of labels, in Mach and in
-- Linear.
use Rattle.std.specs.Prelude.{ℕ, suc, Bool, true, false, nat_eq, List, [], ◌∷◌, Option, Some, None}
use Rattle.std.specs.BTreeMap as tree
use Rattle.std.specs.Option.{unwrap_or}
use Rattle.std.specs.Ordering.{nat_cmp}
use Rattle.mach_ir.specs.Acts.{Target, On, At}
use Rattle.mach_ir.specs.declared.mach.Mark.TheVariants as mark
use Rattle.mach_ir.specs.declared.mach.MachOp.{MachOp}
use Rattle.mach_ir.specs.declared.mach.MachOp.TheVariants as mach
use Rattle.mach_ir.specs.declared.places.LabelPlaces.{LabelPlaces}

-- the label that is here
abbrev pub label_of : MachOp → Option ℕ
label_of (mach.Op f) = None
label_of (mach.Mark (mark.Exit l n)) = None
label_of (mach.Mark (mark.If t l)) = None
label_of (mach.Mark (mark.Else l end)) = Some l
label_of (mach.Mark (mark.Switch labels)) = None
label_of (mach.Mark (mark.Case indexes l end)) = Some l
label_of (mach.Mark mark.Catch) = None
label_of (mach.Mark (mark.With l end)) = Some l
label_of (mach.Mark (mark.Try l)) = None
label_of (mach.Mark (mark.Leave l end)) = None
label_of (mach.Mark (mark.Handler l)) = None
label_of (mach.Mark (mark.End l)) = Some l

-- whether it is this label
abbrev pub is_that_label : Option ℕ → ℕ → Bool
is_that_label None l = false
is_that_label (Some k) l = nat_eq k l

-- the place of a label that was entered; of any other the end
abbrev pub place_of_label : LabelPlaces → ℕ → ℕ
place_of_label labels l = unwrap_or (tree.get nat_cmp labels.places l) labels.end

-- where what is at this place goes on, by the table
abbrev pub place_to : (ℕ → ℕ) → ℕ → Target → ℕ
place_to places p On = suc p
place_to places p (At l) = places l

-- the next place, where control goes on
abbrev pub next_place : Bool → ℕ → List ℕ
next_place true p = suc p ∷ []
next_place false p = []
