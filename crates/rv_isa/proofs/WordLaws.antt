-- A word and its fields determine each other.
use Rattle.std.proofs.Common.{◌≡◌, ℕ, ◌<◌, ◌^◌, arith}
use Rattle.rv_isa.specs.declared.word.Fields.{Fields}
use Rattle.rv_isa.specs.Word.{split, word_of_fields, FieldsFit}

-- fields are equal by their parts
pub fields_by_parts :
    (f g : Fields) →
    f.opcode ≡ g.opcode → f.rd ≡ g.rd → f.funct3 ≡ g.funct3 → f.rs1 ≡ g.rs1 → f.rs2 ≡ g.rs2 → f.funct7 ≡ g.funct7 →
    f ≡ g
fields_by_parts f g opcode rd funct3 rs1 rs2 funct7 =
    parts f.opcode g.opcode f.rd g.rd f.funct3 g.funct3 f.rs1 g.rs1 f.rs2 g.rs2 f.funct7 g.funct7 opcode rd funct3 rs1 rs2 funct7
  where
    made : (a b c d e h : ℕ) → Fields
    made a b c d e h = record { opcode = a; rd = b; funct3 = c; rs1 = d; rs2 = e; funct7 = h }

    parts :
        (a a' b b' c c' d d' e e' h h' : ℕ) →
        a ≡ a' → b ≡ b' → c ≡ c' → d ≡ d' → e ≡ e' → h ≡ h' → made a b c d e h ≡ made a' b' c' d' e' h'
    parts a a' b b' c c' d d' e e' h h' p q r s t u = cc

pub split-joined : (f : Fields) → FieldsFit f → split (word_of_fields f) ≡ f
split-joined f fit =
    fields_by_parts (split (word_of_fields f)) f (omega arith) (omega arith) (omega arith) (omega arith) (omega arith) (omega arith)

pub joined-split : (w : ℕ) → word_of_fields (split w) ≡ w
joined-split w = omega arith

pub joined-below : (f : Fields) → FieldsFit f → word_of_fields f < 2 ^ 32
joined-below f fit = omega arith
