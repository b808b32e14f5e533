-- The immediates of the manual's formats, as bits of the fields.
use Rattle.std.specs.Prelude.{ℕ, ◌+◌, ◌*◌, ◌/◌, ◌%◌}
use Rattle.rv_isa.specs.declared.word.Fields.{Fields}

-- I: imm[11:5] is funct7, imm[4:0] is rs2
abbrev pub i_raw : Fields → ℕ
i_raw f = f.rs2 + 32 * f.funct7

-- S: imm[11:5] is funct7, imm[4:0] is rd
abbrev pub s_raw : Fields → ℕ
s_raw f = f.rd + 32 * f.funct7

-- B: imm[12|10:5] is funct7, imm[4:1|11] is rd, and imm[0] is 0
abbrev pub b_raw : Fields → ℕ
b_raw f = 2 * (f.rd / 2) + 32 * (f.funct7 % 64) + 2048 * (f.rd % 2) + 4096 * (f.funct7 / 64)

-- U: imm[31:12] is all above rd
abbrev pub u_raw : Fields → ℕ
u_raw f = f.funct3 + 8 * (f.rs1 + 32 * (f.rs2 + 32 * f.funct7))

-- J: imm[20|10:5] is funct7, imm[4:1|11] is rs2, imm[19:12] is rs1 over funct3, and imm[0] is 0
abbrev pub j_raw : Fields → ℕ
j_raw f =
    2 * (f.rs2 / 2) + 32 * (f.funct7 % 64) + 2048 * (f.rs2 % 2) + 4096 * (f.funct3 + 8 * f.rs1)
    + 1048576 * (f.funct7 / 64)

-- the amount of a 64-bit shift: imm[5] is the lowest bit of funct7, imm[4:0] is rs2
abbrev pub amount_raw : Fields → ℕ
amount_raw f = f.rs2 + 32 * (f.funct7 % 2)
