-- A word and its six fields.
use Rattle.std.specs.Prelude.{ℕ, ◌+◌, ◌*◌, ◌/◌, ◌%◌, ◌<◌}
use Rattle.rv_isa.specs.declared.word.Fields.{Fields}

-- the fields, from the lowest bit: 7 bits of opcode, 5 of rd, 3 of funct3, 5 of rs1, 5 of rs2, and funct7
abbrev pub split : ℕ → Fields
split w = record {
  opcode = w % 128;
  rd = w / 128 % 32;
  funct3 = w / 4096 % 8;
  rs1 = w / 32768 % 32;
  rs2 = w / 1048576 % 32;
  funct7 = w / 33554432;
}

-- the word with these fields
abbrev pub word_of_fields : Fields → ℕ
word_of_fields f = f.opcode + 128 * (f.rd + 32 * (f.funct3 + 8 * (f.rs1 + 32 * (f.rs2 + 32 * f.funct7))))

-- each field is below its power of two
abbrev pub FieldsFit : Fields → Type 0
FieldsFit f =
    (f.opcode < 128) × (f.rd < 32) × (f.funct3 < 8) × (f.rs1 < 32) × (f.rs2 < 32) × (f.funct7 < 128)
