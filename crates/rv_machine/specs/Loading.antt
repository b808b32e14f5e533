-- What a setup makes of an image: the state in which its run begins, or why there is none.
use Rattle.std.specs.Prelude.{◌≡◌, ◌≤◌, ◌%◌, ℕ, ◌+◌, Bool, cond, List, [], ◌∷◌, length, Option, Some, None, Result, Ok, Err, find, option_map}
use Rattle.std.specs.Str.{bytes_eq}
use Rattle.bs_words.specs.Contents.{contents}
use Rattle.bs_words.specs.Fits.{fits, type_of_comp, data_start}
use Rattle.bs_words.specs.declared.types.Comp.{Comp}
use Rattle.bs_words.specs.declared.values.Value.TheVariants as value
use Rattle.image_form.specs.Tables.{Tables, Func, Sym}
use Rattle.rv_machine.specs.Hart.{Hart}
use Rattle.rv_machine.specs.Places.{most_room}
use Rattle.rv_machine.specs.Start.{start, start_registers, padded}
use Rattle.rv_machine.specs.declared.setup.Setup.{Setup}
use Rattle.rv_machine.specs.declared.setup.Arg.{Arg}
use Rattle.rv_machine.specs.declared.setup.Arg.TheVariants.{Word, Symbol}
use Rattle.rv_machine.specs.declared.setup.LoadError.{LoadError}
use Rattle.rv_machine.specs.declared.setup.LoadError.TheVariants.{UnknownEntry, ArgumentUnfit}

-- the function of a name, and the symbol of a name
abbrev pub func_named : List ℕ → List Func → Option Func
func_named name funcs = find (λ (f : Func). bytes_eq f.name name) funcs

abbrev pub sym_named : List ℕ → List Sym → Option Sym
sym_named name syms = find (λ (s : Sym). bytes_eq s.name name) syms

abbrev pub address_of : Option Sym → Option ℕ
address_of found = option_map (λ (s : Sym). data_start + s.offset) found

-- an argument's word: a symbol's is its address
abbrev pub word_of_arg : Tables → Arg → Option ℕ
word_of_arg image (Word word) = Some word
word_of_arg image (Symbol name) = address_of (sym_named name image.syms)

-- a parameter of this type takes the word
abbrev pub takes_word : Tables → Comp → ℕ → Bool
takes_word image comp word = fits (data_start + length image.bytes) (type_of_comp comp) (value.Word word)

-- a word where the test holds of it
abbrev pub only : (ℕ → Bool) → Option ℕ → Option ℕ
only test None = None
only test (Some word) = cond (test word) (Some word) None

-- the argument's word, where it has one that its parameter takes
abbrev pub suited : Tables → Comp → Arg → Option ℕ
suited image comp arg = only (takes_word image comp) (word_of_arg image arg)

-- a word before the others, where there are all of them
abbrev pub before_words : Option ℕ → Option (List ℕ) → Option (List ℕ)
before_words None words = None
before_words (Some word) words = option_map (λ ws. word ∷ ws) words

-- the words of the arguments, where there is one for each parameter and each has a word that its
-- parameter takes
abbrev pub words_of_args : Tables → List Comp → List Arg → Option (List ℕ)
words_of_args image [] [] = Some []
words_of_args image [] (arg ∷ args) = None
words_of_args image (comp ∷ comps) [] = None
words_of_args image (comp ∷ comps) (arg ∷ args) =
    before_words (suited image comp arg) (words_of_args image comps args)

abbrev pub begins_with : Tables → Setup → Func → Option (List ℕ) → Result Hart LoadError
begins_with image setup entry None = Err ArgumentUnfit
begins_with image setup entry (Some words) = Ok (start image entry words setup.stack setup.heap)

abbrev pub begins_at : Tables → Setup → Option Func → Result Hart LoadError
begins_at image setup None = Err UnknownEntry
begins_at image setup (Some entry) =
    begins_with image setup entry (words_of_args image entry.params (contents setup.args))

-- where the run of a setup begins, or why it does not
abbrev pub beginning : Tables → Setup → Result Hart LoadError
beginning image setup = begins_at image setup (func_named setup.entry image.funcs)

-- the bytes that a stack, and a half of the heap, may have
pub record IsRoom (bytes : ℕ) : Type 0 where
  pub aligned : bytes % 16 ≡ 0
  pub most : bytes ≤ most_room

-- the start of a run at an offset in the code, where these are the words of the argument registers
abbrev pub IsStart : Tables → ℕ → List ℕ → ℕ → ℕ → Hart → Type 0
IsStart image offset words stack heap h =
    (entry : Func) (args : List ℕ) → entry.offset ≡ offset → words ≡ padded 16 args → h ≡ start image entry args stack heap

-- registers of the start, where these are the words of the argument registers
abbrev pub AreStartRegisters : List ℕ → List ℕ → Type 0
AreStartRegisters words registers =
    (args : List ℕ) → words ≡ padded 16 args → registers ≡ start_registers args
