-- The instructions of pieces, once it is known where everything lies.
use Rattle.std.specs.Prelude.{ℕ, ◌+◌, ◌-◌, ◌*◌, ◌/◌, ◌%◌, ◌^◌, List, [], ◌∷◌, ◌++◌, map}
use Rattle.bs_words.specs.External.{External}
use Rattle.rv_emit_rules.specs.Instructions.{low_12}
use Rattle.rv_layout_rules.specs.declared.form.Form.{Form}
use Rattle.rv_layout_rules.specs.declared.form.Form.TheVariants.{Near, Middle, Far}
use Rattle.rv_layout_rules.specs.Forms.{piece_words}
use Rattle.mach_ir.specs.Acts.{external_row}
use Rattle.rv_isa.specs.Encoding.{encoded}
use Rattle.rv_isa.specs.Registers.{register_number, ra, t1}
use Rattle.rv_isa.specs.declared.register.Register.{Register}
use Rattle.rv_isa.specs.declared.instr.AluImmOp.TheVariants.{Addi}
use Rattle.rv_isa.specs.declared.instr.Condition.{Condition}
use Rattle.rv_isa.specs.declared.instr.Condition.TheVariants.{Beq, Bne, Blt, Bge, Bltu, Bgeu}
use Rattle.rv_isa.specs.declared.instr.Instr.{Instr}
use Rattle.rv_isa.specs.declared.instr.Instr.TheVariants as instr
use Rattle.rv_pieces.specs.declared.piece.Piece.{Piece}
use Rattle.rv_pieces.specs.declared.piece.Piece.TheVariants.{Known, Label, Branch, Jump, Row, LabelAddress, Call, TailCall, SymbolAddress, ExternalNumber, Descriptor}

-- What pieces that name something stand for.
pub record NameAddresses : Type 0 where
  -- the address of a label
  pub label : ℕ → ℕ
  -- the address of a function or of static data
  pub symbol : List ℕ → ℕ
  -- the number of an external call among those of the image
  pub external : External → ℕ

-- ---- offsets

-- the bytes from one address to another, as a number of 32 bits, two's complement
abbrev pub distance : (from to : ℕ) → ℕ
distance from to = (to + (2 ^ 32 - from)) % 2 ^ 32

-- the fields of a branch and of a jal
abbrev pub branch_offset : (from to : ℕ) → ℕ
branch_offset from to = distance from to % 2 ^ 13

abbrev pub jal_offset : (from to : ℕ) → ℕ
jal_offset from to = distance from to % 2 ^ 21

-- a number of 32 bits is the upper part, of 20 bits, shifted by 12, and the lower part, of 12 bits,
-- which is read as signed: where that is negative the upper part is one more
abbrev pub upper : ℕ → ℕ
upper n = (n + 2048) / 4096 % 2 ^ 20

-- ---- instructions

abbrev pub inverted : Condition → Condition
inverted Beq = Bne
inverted Bne = Beq
inverted Blt = Bge
inverted Bge = Blt
inverted Bltu = Bgeu
inverted Bgeu = Bltu

-- goes from one address to another by auipc and jalr, through a register, with the link in another
abbrev pub far_jump : (link through from to : ℕ) → List Instr
far_jump link through from to =
    instr.Auipc through (upper (distance from to))
    ∷ instr.Jalr link through (low_12 (distance from to)) ∷ []

-- a number below 2 ^ 31 into a register
abbrev pub number_into : (rd n : ℕ) → List Instr
number_into rd n = instr.Lui rd (upper n) ∷ instr.OpImm Addi rd rd (low_12 n) ∷ []

-- A branch at an address. The far forms use t1 once the inverted branch has read its operands.
abbrev pub branch_code : Form → Condition → (left right : Register) → (at to : ℕ) → List Instr
branch_code Near c a b at to = instr.Branch c (register_number a) (register_number b) (branch_offset at to) ∷ []
branch_code Middle c a b at to =
    instr.Branch (inverted c) (register_number a) (register_number b) 8
    ∷ instr.Jal 0 (jal_offset (at + 4) to) ∷ []
branch_code Far c a b at to =
    instr.Branch (inverted c) (register_number a) (register_number b) 12 ∷ far_jump 0 t1 (at + 4) to

-- A call by the distance to its callee, or by the address of that.
abbrev pub call_code : Form → (link through at to : ℕ) → List Instr
call_code Near link through at to = far_jump link through at to
call_code Middle link through at to = number_into through to ++ instr.Jalr link through 0 ∷ []
call_code Far link through at to = number_into through to ++ instr.Jalr link through 0 ∷ []

abbrev pub jump_code : Form → (at to : ℕ) → List Instr
jump_code Near at to = instr.Jal 0 (jal_offset at to) ∷ []
jump_code Middle at to = far_jump 0 t1 at to
jump_code Far at to = far_jump 0 t1 at to

-- what the name of a piece stands for: an address, or the number of an external call
abbrev pub target_of : NameAddresses → Piece → ℕ
target_of n (Known i) = 0
target_of n (Label l) = 0
target_of n (Branch c a b l) = n.label l
target_of n (Jump l) = n.label l
target_of n (Row l) = n.label l
target_of n (LabelAddress r l) = n.label l
target_of n (Call name) = n.symbol name
target_of n (TailCall name) = n.symbol name
target_of n (SymbolAddress r name) = n.symbol name
target_of n (ExternalNumber r row) = n.external (external_row row)
target_of n (Descriptor d) = 0

-- the address of a place that is counted from here, into a register
abbrev pub address_into : (rd at to : ℕ) → List Instr
address_into rd at to =
    instr.Auipc rd (upper (distance at to))
    ∷ instr.OpImm Addi rd rd (low_12 (distance at to)) ∷ []

-- the instructions of a piece that is at an address, where its name stands for `to`
abbrev pub code_to : (at to : ℕ) → Piece → Form → List Instr
code_to at to (Known i) form = i ∷ []
code_to at to (Label l) form = []
code_to at to (Branch c a b l) form = branch_code form c a b at to
code_to at to (Jump l) form = jump_code form at to
code_to at to (Row l) form = far_jump 0 t1 at to
code_to at to (LabelAddress r l) form = address_into (register_number r) at to
code_to at to (Call name) form = call_code form ra ra at to
code_to at to (TailCall name) form = call_code form 0 t1 at to
code_to at to (SymbolAddress r name) form = number_into (register_number r) to
code_to at to (ExternalNumber r row) form = number_into (register_number r) to
code_to at to (Descriptor d) form = []

abbrev pub instructions_of_piece : NameAddresses → (at : ℕ) → Piece → Form → List Instr
instructions_of_piece n at p form = code_to at (target_of n p) p form

-- the words of pieces, the first of which is at an address
abbrev pub words_from : NameAddresses → (at : ℕ) → List Piece → List Form → List ℕ
words_from n at [] forms = []
words_from n at (p ∷ ps) [] = []
words_from n at (p ∷ ps) (f ∷ forms) =
    map encoded (instructions_of_piece n at p f) ++ words_from n (at + 4 * piece_words p f) ps forms

-- the words of pieces whose names stand for these
abbrev pub words_to : (at : ℕ) → (targets : List ℕ) → List Piece → List Form → List ℕ
words_to at (to ∷ targets) (p ∷ ps) (f ∷ forms) =
    map encoded (code_to at to p f) ++ words_to (at + 4 * piece_words p f) targets ps forms
words_to at _ _ _ = []
