-- The words of generated texts.
use Rattle.std.proofs.Common.{◌≡◌, ℕ, true, false, List, Some, refl, codes}
use Rattle.bs_words.specs.declared.operators.CmpOp.TheVariants as cmp
use Rattle.bs_words.specs.declared.operators.IntOp.TheVariants as op
use Rattle.cmm_lex.specs.declared.state.Shape.{Shape}
use Rattle.cmm_lex.specs.declared.state.Shape.TheVariants as shape
use Rattle.cmm_lex.specs.declared.state.State.TheVariants.{Start}
use Rattle.cmm_lex.specs.declared.token.Keyword.TheVariants as word
use Rattle.cmm_lex.specs.declared.token.TokenKind.{TokenKind}
use Rattle.cmm_lex.specs.declared.token.TokenKind.TheVariants as kind
use Rattle.cmm_lex.specs.Automaton.{run, state_after_byte, after_start, after_name, after_number, after_decimal, after_operator, accepts, accepts_name, accepts_number, accepts_operator}
use Rattle.cmm_lex.specs.Lexing.{is_out_of_range}
use Rattle.cmm_lex.specs.Scanning.{kind_of}
use Rattle.cmm_lex.proofs.Spelled.{token-found}
use Rattle.cmm_gen.proofs.Lexed.{Word, begins_plain}
use Rattle.cmm_gen.proofs.LexedNumerals.{are_bytes, are-bytes, halts, halts-are}

made : (s : Shape) (k : TokenKind) (text : List ℕ)
    → are_bytes text ≡ true
    → accepts (run Start text) ≡ Some s
    → kind_of s text ≡ Some k
    → begins_plain text ≡ true
    → halts (run Start text) ≡ true
    → is_out_of_range k text ≡ false
    → Word k text
made s k text bytes accepted found plain ends in_range = record {
  is = token-found s text k (are-bytes text bytes) accepted found;
  bytes = are-bytes text bytes;
  plain = plain;
  halts = halts-are (run Start text) ends;
  in_range = in_range;
}

pub word-plus : Word (kind.Operator op.Add) (codes "+")
unfolding state_after_byte after_start after_name after_number after_decimal after_operator accepts accepts_name accepts_number accepts_operator kind_of halts
word-plus = made shape.Signs (kind.Operator op.Add) (codes "+") refl refl refl refl refl refl

pub word-minus : Word (kind.Operator op.Sub) (codes "-")
unfolding state_after_byte after_start after_name after_number after_decimal after_operator accepts accepts_name accepts_number accepts_operator kind_of halts
word-minus = made shape.Signs (kind.Operator op.Sub) (codes "-") refl refl refl refl refl refl

pub word-star : Word (kind.Operator op.Mul) (codes "*")
unfolding state_after_byte after_start after_name after_number after_decimal after_operator accepts accepts_name accepts_number accepts_operator kind_of halts
word-star = made shape.Signs (kind.Operator op.Mul) (codes "*") refl refl refl refl refl refl

pub word-less : Word (kind.Operator (op.Cmp cmp.Lt)) (codes "<")
unfolding state_after_byte after_start after_name after_number after_decimal after_operator accepts accepts_name accepts_number accepts_operator kind_of halts
word-less = made shape.Signs (kind.Operator (op.Cmp cmp.Lt)) (codes "<") refl refl refl refl refl refl

pub word-if : Word (kind.Keyword word.If) (codes "if")
unfolding state_after_byte after_start after_name after_number after_decimal after_operator accepts accepts_name accepts_number accepts_operator kind_of halts
word-if = made shape.Word (kind.Keyword word.If) (codes "if") refl refl refl refl refl refl

pub word-load : Word (kind.Keyword word.Load) (codes "load")
unfolding state_after_byte after_start after_name after_number after_decimal after_operator accepts accepts_name accepts_number accepts_operator kind_of halts
word-load = made shape.Word (kind.Keyword word.Load) (codes "load") refl refl refl refl refl refl

pub word-int : Word (kind.Keyword word.Int) (codes "int")
unfolding state_after_byte after_start after_name after_number after_decimal after_operator accepts accepts_name accepts_number accepts_operator kind_of halts
word-int = made shape.Word (kind.Keyword word.Int) (codes "int") refl refl refl refl refl refl

pub word-alloc : Word (kind.Keyword word.Alloc) (codes "alloc")
unfolding state_after_byte after_start after_name after_number after_decimal after_operator accepts accepts_name accepts_number accepts_operator kind_of halts
word-alloc = made shape.Word (kind.Keyword word.Alloc) (codes "alloc") refl refl refl refl refl refl

pub word-header : Word kind.Integer (codes "2299")
unfolding state_after_byte after_start after_name after_number after_decimal after_operator accepts accepts_name accepts_number accepts_operator kind_of halts
word-header = made shape.Integer kind.Integer (codes "2299") refl refl refl refl refl refl

pub word-try : Word (kind.Keyword word.Try) (codes "try")
unfolding state_after_byte after_start after_name after_number after_decimal after_operator accepts accepts_name accepts_number accepts_operator kind_of halts
word-try = made shape.Word (kind.Keyword word.Try) (codes "try") refl refl refl refl refl refl

pub word-raise : Word (kind.Keyword word.Raise) (codes "raise")
unfolding state_after_byte after_start after_name after_number after_decimal after_operator accepts accepts_name accepts_number accepts_operator kind_of halts
word-raise = made shape.Word (kind.Keyword word.Raise) (codes "raise") refl refl refl refl refl refl

pub word-one : Word kind.Integer (codes "1")
unfolding state_after_byte after_start after_name after_number after_decimal after_operator accepts accepts_name accepts_number accepts_operator kind_of halts
word-one = made shape.Integer kind.Integer (codes "1") refl refl refl refl refl refl

pub word-with : Word (kind.Keyword word.With) (codes "with")
unfolding state_after_byte after_start after_name after_number after_decimal after_operator accepts accepts_name accepts_number accepts_operator kind_of halts
word-with = made shape.Word (kind.Keyword word.With) (codes "with") refl refl refl refl refl refl

pub word-z : Word kind.Name (codes "z")
unfolding state_after_byte after_start after_name after_number after_decimal after_operator accepts accepts_name accepts_number accepts_operator kind_of halts
word-z = made shape.Word kind.Name (codes "z") refl refl refl refl refl refl

pub word-x : Word kind.Name (codes "x")
unfolding state_after_byte after_start after_name after_number after_decimal after_operator accepts accepts_name accepts_number accepts_operator kind_of halts
word-x = made shape.Word kind.Name (codes "x") refl refl refl refl refl refl

pub word-y : Word kind.Name (codes "y")
unfolding state_after_byte after_start after_name after_number after_decimal after_operator accepts accepts_name accepts_number accepts_operator kind_of halts
word-y = made shape.Word kind.Name (codes "y") refl refl refl refl refl refl

pub word-p : Word kind.Name (codes "p")
unfolding state_after_byte after_start after_name after_number after_decimal after_operator accepts accepts_name accepts_number accepts_operator kind_of halts
word-p = made shape.Word kind.Name (codes "p") refl refl refl refl refl refl

pub word-q : Word kind.Name (codes "q")
unfolding state_after_byte after_start after_name after_number after_decimal after_operator accepts accepts_name accepts_number accepts_operator kind_of halts
word-q = made shape.Word kind.Name (codes "q") refl refl refl refl refl refl

pub word-function : Word (kind.Keyword word.Function) (codes "function")
unfolding state_after_byte after_start after_name after_number after_decimal after_operator accepts accepts_name accepts_number accepts_operator kind_of halts
word-function = made shape.Word (kind.Keyword word.Function) (codes "function") refl refl refl refl refl refl

pub word-let : Word (kind.Keyword word.Let) (codes "let")
unfolding state_after_byte after_start after_name after_number after_decimal after_operator accepts accepts_name accepts_number accepts_operator kind_of halts
word-let = made shape.Word (kind.Keyword word.Let) (codes "let") refl refl refl refl refl refl

pub word-app : Word (kind.Keyword word.App) (codes "app")
unfolding state_after_byte after_start after_name after_number after_decimal after_operator accepts accepts_name accepts_number accepts_operator kind_of halts
word-app = made shape.Word (kind.Keyword word.App) (codes "app") refl refl refl refl refl refl
