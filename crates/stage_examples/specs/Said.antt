-- What is said of a run of one function.
use Rattle.std.specs.Prelude.{ℕ, ◌∷◌, [], List, length, Option, Some, None}
use Rattle.bs_words.specs.Memory.{Memory}
use Rattle.bs_words.specs.declared.types.Comp.TheVariants as comp
use Rattle.bs_words.specs.declared.values.Value.{Value}
use Rattle.bs_words.specs.declared.values.Value.TheVariants as value
use Rattle.cmm_meaning.specs.State.{Doing, Asked}
use Rattle.mach_ir.specs.Meaning as mach
use Rattle.mach_ir.specs.Runs.{ActivationSetting, RunProgress, Running, Asking, Ended, Wrong, first_tally}
use Rattle.mach_ir.specs.declared.mach.Mach.{Mach}
use Rattle.lin_ir.specs.Meaning as linear
use Rattle.lin_ir.specs.Meaning.{NamedAt}
use Rattle.lin_ir.specs.declared.lin.Lin.{Lin}

-- how it ends, how many calls came back, its units and its stack need
pub data Said : Type 0 where
  EndsBy : (doing : Doing) (calls units need : ℕ) → Said
  AsksFor : (call : Asked) → Said
  GoesOn : Said
  IsWrong : Said

abbrev pub said : {S : Type 0} → RunProgress S → Said
said (Running s t) = GoesOn
said (Asking call t) = AsksFor call
said (Ended doing t) = EndsBy doing (length t.asked) t.units t.need
said Wrong = IsWrong

-- one function of one int is round the function, and each symbol is its; a frame has 32 bytes
abbrev pub place : ActivationSetting
place =
    record {
      setting = record {
        end = 0x10000010;
        symbol = λ name. Some (value.Function 0);
        parameters = (comp.Int ∷ []) ∷ [];
      };
      below = 0;
      frame = 32;
    }

abbrev pub no_memory : Memory
no_memory = record { blocks = []; statics = []; roots = [] }

-- ---- Mach

abbrev pub mach_begun : Mach → List Doing → ℕ → Option mach.State → Said
mach_begun m doings n None = IsWrong
mach_begun m doings n (Some s) = said (mach.run_of_mach place m n s (first_tally place doings))

-- at most so many steps of a function, on arguments and on what its calls do
abbrev pub mach_run : Mach → List Value → List Doing → ℕ → Said
mach_run m arguments doings n =
    mach_begun m doings n (mach.mach_start place m arguments no_memory)

-- ---- Linear

abbrev pub lin_begun : NamedAt → Lin → List Doing → ℕ → Option linear.State → Said
lin_begun named m doings n None = IsWrong
lin_begun named m doings n (Some s) =
    said (linear.run_of_linear place named m n s (first_tally place doings))

abbrev pub lin_run : NamedAt → Lin → List Value → List Doing → ℕ → Said
lin_run named m arguments doings n =
    lin_begun named m doings n (linear.linear_start place m arguments no_memory)
