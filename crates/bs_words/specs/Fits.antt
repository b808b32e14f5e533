-- Which values fit a type. `end` is the first address past the data, whose range has its end in it.
use Rattle.std.specs.Prelude.{ℕ, ◌%◌, Bool, true, false, ◌&&◌, ◌||◌, ◌==◌, nat_le}
use Rattle.bs_words.specs.declared.types.Comp.{Comp}
use Rattle.bs_words.specs.declared.types.Comp.TheVariants as comp
use Rattle.bs_words.specs.declared.types.Ty.{Ty}
use Rattle.bs_words.specs.declared.types.Ty.TheVariants.{Never, NoValue, Int, Val, Addr}
use Rattle.bs_words.specs.declared.values.Kind.{Kind}
use Rattle.bs_words.specs.declared.values.Kind.TheVariants.{HiddenPointer, BadValue}
use Rattle.bs_words.specs.declared.values.Value.{Value}
use Rattle.bs_words.specs.declared.values.Value.TheVariants.{Word, Block, Function}

-- where static data begins
abbrev pub data_start : ℕ
data_start = 0x10000000

-- the most bytes of it, the built-in list counted
abbrev pub data_limit : ℕ
data_limit = 16777216

-- a word that the mover takes for no block: an odd one, or an address of static data
abbrev pub is_still : ℕ → ℕ → Bool
is_still end w = (w % 2 == 1) || (nat_le data_start w && nat_le w end)

-- an int is a word or a function; a val is a still word, the start of a block, or a function; an
-- address is anything
abbrev pub fits : ℕ → Ty → Value → Bool
fits end Int (Word w) = true
fits end Int (Block serial offset) = false
fits end Int (Function f) = true
fits end Val (Word w) = is_still end w
fits end Val (Block serial offset) = offset == 0
fits end Val (Function f) = true
fits end Addr value = true
fits end Never value = false
fits end NoValue value = false

-- why a value that does not fit makes a run improper
abbrev pub misfit : Ty → Kind
misfit Int = HiddenPointer
misfit Val = BadValue
misfit Addr = BadValue
misfit Never = BadValue
misfit NoValue = BadValue

-- the type of what a component holds; no value is read as a float
abbrev pub type_of_comp : Comp → Ty
type_of_comp comp.Int = Int
type_of_comp comp.Val = Val
type_of_comp comp.Addr = Addr
type_of_comp comp.Float = Never
