-- Linear functions made by hand.
use Rattle.std.specs.Prelude.{ℕ, cond, nat_eq, List, [], ◌∷◌, ◌++◌, codes}
use Rattle.bs_words.specs.declared.operators.CmpOp.TheVariants as compare
use Rattle.bs_words.specs.declared.operators.IntOp.TheVariants as operator
use Rattle.bs_words.specs.declared.types.Chunk.TheVariants as chunk
use Rattle.bs_words.specs.declared.types.Comp.{Comp}
use Rattle.bs_words.specs.declared.types.Comp.TheVariants as comp
use Rattle.bs_words.specs.declared.types.Loc.{Loc}
use Rattle.bs_words.specs.declared.types.Loc.TheVariants as loc
use Rattle.bs_words.specs.declared.types.Ret.TheVariants as ret
use Rattle.mach_ir.specs.declared.op.Op.{Op}
use Rattle.mach_ir.specs.declared.op.Right.TheVariants as right
use Rattle.mach_ir.specs.declared.mach.Test.TheVariants as test
use Rattle.lin_ir.specs.Meaning.{NamedAt}
use Rattle.lin_ir.specs.declared.lin.Spot.{Spot}
use Rattle.lin_ir.specs.declared.lin.Flow.{Flow}
use Rattle.lin_ir.specs.declared.lin.Flow.TheVariants as flow
use Rattle.lin_ir.specs.declared.lin.LinOp.TheVariants as lin
use Rattle.lin_ir.specs.declared.lin.Line.{Line}
use Rattle.lin_ir.specs.declared.lin.Lin.{Lin}
use Rattle.rv_isa.specs.Registers.{register_number}
use Rattle.rv_isa.specs.declared.register.Register.TheVariants.{T1, A0, S2}
use Rattle.stage_examples.specs.Registers.{move_operation, constant_operation, computes, load_operation, store_operation, allocate, example_call, raise, return_operation, header, minus_eight}

abbrev pub spot_of_location : Loc → Comp → Spot
spot_of_location l c = record { loc = l; comp = c }

-- a0, where arguments, results and raised values are
abbrev pub location_of_a0 : Loc
location_of_a0 = loc.Machine (register_number A0)

abbrev pub s2 : Loc
s2 = loc.Machine (register_number S2)

abbrev pub line : Op → List Spot → List Spot → Line
line f args results = record { op = lin.Op f; args = args; results = results }

abbrev pub goes : Flow → List Spot → List Spot → Line
goes f args results = record { op = lin.Flow f; args = args; results = results }

abbrev pub linear_example : List Line → Lin
linear_example code =
    record {
      name = codes "g";
      params = spot_of_location location_of_a0 comp.Int ∷ [];
      result = ret.Comp comp.Int;
      slots = 2;
      code = code;
    }

-- frame points that name nothing, but for one, with so many lines after it, that names a location
abbrev pub names_nothing : NamedAt
names_nothing left = []

abbrev pub named_only_at : ℕ → Loc → NamedAt
named_only_at n l left = cond (nat_eq left n) (l ∷ []) []

-- the sum of the numbers up to n
abbrev pub sum : Lin
sum =
    linear_example
    (line (constant_operation 0) [] (spot_of_location s2 comp.Int ∷ [])
    ∷ goes (flow.Label 1) [] []
    ∷ goes (flow.Branch (test.Signed compare.Le (right.Constant 0)) 2) (spot_of_location location_of_a0 comp.Int ∷ []) []
    ∷ line (computes operator.Add right.Register) (spot_of_location s2 comp.Int ∷ spot_of_location location_of_a0 comp.Int ∷ [])
    (spot_of_location s2 comp.Int ∷ [])
    ∷ line (computes operator.Sub (right.Constant 1)) (spot_of_location location_of_a0 comp.Int ∷ [])
    (spot_of_location location_of_a0 comp.Int ∷ [])
    ∷ goes (flow.Exit 1) [] []
    ∷ goes (flow.Label 2) [] []
    ∷ line move_operation (spot_of_location s2 comp.Int ∷ []) (spot_of_location location_of_a0 comp.Int ∷ [])
    ∷ line return_operation (spot_of_location location_of_a0 comp.Int ∷ []) [] ∷ [])

-- a block at s2, whole
abbrev pub block : List Line
block =
    line allocate [] (spot_of_location s2 comp.Val ∷ [])
    ∷ line (constant_operation header) [] (spot_of_location (loc.Machine (register_number T1)) comp.Int ∷ [])
    ∷ line (store_operation chunk.Int minus_eight)
    (spot_of_location s2 comp.Val ∷ spot_of_location (loc.Machine (register_number T1)) comp.Int ∷ []) []
    ∷ line (store_operation chunk.Val 0) (spot_of_location s2 comp.Val ∷ spot_of_location location_of_a0 comp.Int ∷ []) []
    ∷ line (store_operation chunk.Val 8) (spot_of_location s2 comp.Val ∷ spot_of_location location_of_a0 comp.Int ∷ []) [] ∷ []

-- it is kept in a slot over a call, and its second cell is given
abbrev pub keeps_block : Lin
keeps_block =
    linear_example
    (block
    ++ (line move_operation (spot_of_location s2 comp.Val ∷ []) (spot_of_location (loc.Slot 1) comp.Val ∷ [])
    ∷ line example_call (spot_of_location location_of_a0 comp.Int ∷ []) (spot_of_location location_of_a0 comp.Int ∷ [])
    ∷ line (load_operation chunk.Val 8) (spot_of_location (loc.Slot 1) comp.Val ∷ []) (spot_of_location location_of_a0 comp.Val ∷ [])
    ∷ line return_operation (spot_of_location location_of_a0 comp.Val ∷ []) [] ∷ []))

-- a word is kept so
abbrev pub keeps_word : Lin
keeps_word =
    linear_example
    (line move_operation (spot_of_location location_of_a0 comp.Int ∷ []) (spot_of_location (loc.Slot 1) comp.Int ∷ [])
    ∷ line example_call (spot_of_location location_of_a0 comp.Int ∷ []) (spot_of_location location_of_a0 comp.Int ∷ [])
    ∷ line return_operation (spot_of_location (loc.Slot 1) comp.Int ∷ []) [] ∷ [])

-- the block is read as an int
abbrev pub hides_pointer : Lin
hides_pointer = linear_example (block ++ (line return_operation (spot_of_location s2 comp.Int ∷ []) [] ∷ []))

-- in a try, whose handler gives what was raised
abbrev pub guarded : List Line → Lin
guarded body =
    linear_example
    (goes (flow.PushTrap 1) [] []
    ∷ (body
    ++ (goes flow.PopTrap [] []
    ∷ line return_operation (spot_of_location location_of_a0 comp.Int ∷ []) []
    ∷ goes (flow.Label 1) [] []
    ∷ goes flow.EnterTrap [] (spot_of_location location_of_a0 comp.Val ∷ [])
    ∷ line return_operation (spot_of_location location_of_a0 comp.Val ∷ []) [] ∷ [])))

abbrev pub guards_call : Lin
guards_call = guarded (line example_call (spot_of_location location_of_a0 comp.Int ∷ []) (spot_of_location location_of_a0 comp.Int ∷ []) ∷ [])

abbrev pub guards_raise : Lin
guards_raise =
    guarded
    (line move_operation (spot_of_location location_of_a0 comp.Int ∷ []) (spot_of_location location_of_a0 comp.Val ∷ [])
    ∷ line raise (spot_of_location location_of_a0 comp.Val ∷ []) [] ∷ [])

-- the handler reads what a register held in the body
abbrev pub reads_register : Lin
reads_register =
    linear_example
    (goes (flow.PushTrap 1) [] []
    ∷ line move_operation (spot_of_location location_of_a0 comp.Int ∷ []) (spot_of_location s2 comp.Int ∷ [])
    ∷ line move_operation (spot_of_location location_of_a0 comp.Int ∷ []) (spot_of_location location_of_a0 comp.Val ∷ [])
    ∷ line raise (spot_of_location location_of_a0 comp.Val ∷ []) []
    ∷ goes (flow.Label 1) [] []
    ∷ goes flow.EnterTrap [] (spot_of_location location_of_a0 comp.Val ∷ [])
    ∷ line return_operation (spot_of_location s2 comp.Int ∷ []) [] ∷ [])
