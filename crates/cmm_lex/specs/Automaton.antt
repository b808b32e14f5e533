-- The automaton of tokens: a state says what the bytes read so far may go on to.
use Rattle.std.specs.Prelude.{ℕ, ◌+◌, Bool, true, false, cond, ◌||◌, ◌&&◌, ◌==◌, nat_le, List, [], ◌∷◌, Option, Some, None, if◌then◌else◌}
use Rattle.std.specs.Char.{is_ascii_digit, is_ascii_hexdigit, is_ascii_alphabetic}
use Rattle.cmm_lex.specs.declared.state.Shape.{Shape}
use Rattle.cmm_lex.specs.declared.state.Shape.TheVariants as shape
use Rattle.cmm_lex.specs.declared.state.NamePart.{NamePart}
use Rattle.cmm_lex.specs.declared.state.NamePart.TheVariants.{Body, Slash, Digits}
use Rattle.cmm_lex.specs.declared.state.NumberPart.{NumberPart}
use Rattle.cmm_lex.specs.declared.state.NumberPart.TheVariants.{Zero, Decimal, HexadecimalBase, Hexadecimal, OctalBase, Octal, BinaryBase, Binary, Fraction, Exponent, ExponentSign, ExponentDigits}
use Rattle.cmm_lex.specs.declared.state.OperatorPart.{OperatorPart}
use Rattle.cmm_lex.specs.declared.state.OperatorPart.TheVariants.{Plus, Minus, Product, Less, Greater, Shift, Equal, Comparison}
use Rattle.cmm_lex.specs.declared.state.State.{State}
use Rattle.cmm_lex.specs.declared.state.State.TheVariants.{Start, Name, Number, Operator, Done, Dead}

abbrev pub is_digit : ℕ → Bool
is_digit b = is_ascii_digit b

abbrev pub is_hexadecimal : ℕ → Bool
is_hexadecimal b = is_ascii_hexdigit b

abbrev pub is_octal : ℕ → Bool
is_octal b = nat_le 48 b && nat_le b 55

abbrev pub is_binary : ℕ → Bool
is_binary b = nat_le 48 b && nat_le b 49

abbrev pub is_letter : ℕ → Bool
is_letter b = is_ascii_alphabetic b || (b == 95)

abbrev pub is_word_byte : ℕ → Bool
is_word_byte b = ((is_letter b || is_digit b) || (b == 39)) || (b == 46) || (b == 36)

unfoldable pub after_name : NamePart → ℕ → State
after_name Body b = if is_word_byte b then Name Body else (if b == 47 then Name Slash else Dead)
after_name Slash b = if is_digit b then Name Digits else Dead
after_name Digits b = if is_digit b then Name Digits else Dead

unfoldable pub accepts_name : NamePart → Option Shape
accepts_name Body = Some shape.Word
accepts_name Slash = None
accepts_name Digits = Some shape.Word

unfoldable pub after_decimal : ℕ → State
after_decimal b =
    if nat_le 48 b && nat_le b 57 then Number Decimal
    else (if b == 97 then Done shape.Pointer
    else (if b == 46 then Number Fraction
    else (if b == 101 then Number Exponent
    else (if b == 69 then Number Exponent
    else Dead))))

abbrev pub if_digit : Bool → NumberPart → State
if_digit holds part = cond holds (Number part) Dead

unfoldable pub after_number : NumberPart → ℕ → State
after_number Zero b =
    if b == 120 then Number HexadecimalBase
    else (if b == 111 then Number OctalBase
    else (if b == 98 then Number BinaryBase
    else after_decimal b))
after_number Decimal b = after_decimal b
after_number HexadecimalBase b = if_digit (is_hexadecimal b) Hexadecimal
after_number Hexadecimal b = if_digit (is_hexadecimal b) Hexadecimal
after_number OctalBase b = if_digit (is_octal b) Octal
after_number Octal b = if_digit (is_octal b) Octal
after_number BinaryBase b = if_digit (is_binary b) Binary
after_number Binary b = if_digit (is_binary b) Binary
after_number Fraction b =
    if b == 101 then Number Exponent else (if b == 69 then Number Exponent else if_digit (is_digit b) Fraction)
after_number Exponent b =
    if b == 43 then Number ExponentSign else (if b == 45 then Number ExponentSign else if_digit (is_digit b) ExponentDigits)
after_number ExponentSign b = if_digit (is_digit b) ExponentDigits
after_number ExponentDigits b = if_digit (is_digit b) ExponentDigits

unfoldable pub accepts_number : NumberPart → Option Shape
accepts_number Zero = Some shape.Integer
accepts_number Decimal = Some shape.Integer
accepts_number HexadecimalBase = None
accepts_number Hexadecimal = Some shape.Integer
accepts_number OctalBase = None
accepts_number Octal = Some shape.Integer
accepts_number BinaryBase = None
accepts_number Binary = Some shape.Integer
accepts_number Fraction = Some shape.Float
accepts_number Exponent = None
accepts_number ExponentSign = None
accepts_number ExponentDigits = Some shape.Float

-- a whole operator
abbrev pub sign : State
sign = Done shape.Signs

unfoldable pub after_operator : OperatorPart → ℕ → State
after_operator Plus b = if b == 118 then sign else (if b == 97 then sign else (if b == 102 then sign else Dead))
after_operator Minus b =
    if b == 102 then sign
    else (if b == 48 then Number Zero
    else (if nat_le 49 b && nat_le b 57 then Number Decimal
    else Dead))
after_operator Product b = if b == 102 then sign else Dead
after_operator Less b =
    if b == 60 then sign
    else (if b == 97 then sign
    else (if b == 102 then sign
    else (if b == 61 then Operator Comparison
    else Dead)))
after_operator Greater b =
    if b == 97 then sign
    else (if b == 102 then sign
    else (if b == 62 then Operator Shift
    else (if b == 61 then Operator Comparison
    else Dead)))
after_operator Shift b = if b == 117 then sign else (if b == 115 then sign else Dead)
after_operator Equal b = if b == 61 then Operator Comparison else Dead
after_operator Comparison b = if b == 97 then sign else (if b == 102 then sign else Dead)

unfoldable pub accepts_operator : OperatorPart → Option Shape
accepts_operator Plus = Some shape.Signs
accepts_operator Minus = Some shape.Signs
accepts_operator Product = Some shape.Signs
accepts_operator Less = Some shape.Signs
accepts_operator Greater = Some shape.Signs
accepts_operator Shift = None
accepts_operator Equal = None
accepts_operator Comparison = Some shape.Signs

unfoldable pub after_start : ℕ → State
after_start b =
    if b == 48 then Number Zero
    else (if nat_le 49 b && nat_le b 57 then Number Decimal
    else (if b == 43 then Operator Plus
    else (if b == 45 then Operator Minus
    else (if b == 42 then Operator Product
    else (if b == 47 then Operator Product
    else (if b == 60 then Operator Less
    else (if b == 62 then Operator Greater
    else (if b == 61 then Operator Equal
    else (if b == 33 then Operator Equal
    else (if b == 40 then Done shape.Signs
    else (if b == 41 then Done shape.Signs
    else (if b == 91 then Done shape.Signs
    else (if b == 93 then Done shape.Signs
    else (if b == 58 then Done shape.Signs
    else (if is_letter b then Name Body
    else Dead)))))))))))))))

-- the state when a byte follows
unfoldable pub state_after_byte : State → ℕ → State
state_after_byte Start b = after_start b
state_after_byte (Name part) b = after_name part b
state_after_byte (Number part) b = after_number part b
state_after_byte (Operator part) b = after_operator part b
state_after_byte (Done k) b = Dead
state_after_byte Dead b = Dead

-- what the bytes read are, if they are a token
unfoldable pub accepts : State → Option Shape
accepts Start = None
accepts (Name part) = accepts_name part
accepts (Number part) = accepts_number part
accepts (Operator part) = accepts_operator part
accepts (Done k) = Some k
accepts Dead = None

abbrev pub is_dead : State → Bool
is_dead Start = false
is_dead (Name part) = false
is_dead (Number part) = false
is_dead (Operator part) = false
is_dead (Done k) = false
is_dead Dead = true

-- the state after these bytes
abbrev pub run : State → List ℕ → State
run s [] = s
run s (b ∷ bs) = run (state_after_byte s b) bs

-- the token of n bytes where one ends there, else the one found before
abbrev pub better : Option Shape → ℕ → Option (Shape × ℕ) → Option (Shape × ℕ)
better None n found = found
better (Some k) n found = Some (k, n)

-- the longest token with its length, n bytes having been read and `found` being the longest in them
unfoldable pub scan : State → ℕ → Option (Shape × ℕ) → List ℕ → Option (Shape × ℕ)
scan s n found [] = found
scan s n found (b ∷ bs) =
    if is_dead (state_after_byte s b) then found else scan (state_after_byte s b) (n + 1) (better (accepts (state_after_byte s b)) (n + 1) found) bs
