-- The integer registers, x0 to x31, and what compiled code keeps in them.
--
-- Their names are those of the calling convention (RISC-V ELF psABI, "Register Convention"). What they are
-- used for is the convention of this compiler.
use Rattle.std.specs.Prelude.{ℕ, List, [], ◌∷◌, Option, Some, None, slice_get, codes}
use Rattle.rv_isa.specs.declared.register.Register.{Register}
use Rattle.rv_isa.specs.declared.register.Register.TheVariants.{Zero, Ra, Sp, Gp, Tp, T0, T1, T2, S0, S1, A0, A1, A2, A3, A4, A5, A6, A7, S2, S3, S4, S5, S6, S7, S8, S9, S10, S11, T3, T4, T5, T6}

-- the register's number, as the fields of an instruction have it
abbrev pub register_number : Register → ℕ
register_number Zero = 0
register_number Ra = 1
register_number Sp = 2
register_number Gp = 3
register_number Tp = 4
register_number T0 = 5
register_number T1 = 6
register_number T2 = 7
register_number S0 = 8
register_number S1 = 9
register_number A0 = 10
register_number A1 = 11
register_number A2 = 12
register_number A3 = 13
register_number A4 = 14
register_number A5 = 15
register_number A6 = 16
register_number A7 = 17
register_number S2 = 18
register_number S3 = 19
register_number S4 = 20
register_number S5 = 21
register_number S6 = 22
register_number S7 = 23
register_number S8 = 24
register_number S9 = 25
register_number S10 = 26
register_number S11 = 27
register_number T3 = 28
register_number T4 = 29
register_number T5 = 30
register_number T6 = 31

-- all of them, by their numbers
abbrev pub registers : List Register
registers =
    Zero ∷ Ra ∷ Sp ∷ Gp ∷ Tp ∷ T0 ∷ T1 ∷ T2 ∷ S0 ∷ S1 ∷ A0 ∷ A1 ∷ A2 ∷ A3 ∷ A4 ∷ A5 ∷ A6 ∷ A7
    ∷ S2 ∷ S3 ∷ S4 ∷ S5 ∷ S6 ∷ S7 ∷ S8 ∷ S9 ∷ S10 ∷ S11 ∷ T3 ∷ T4 ∷ T5 ∷ T6 ∷ []

abbrev pub register_or_zero : Option Register → Register
register_or_zero (Some r) = r
register_or_zero None = Zero

-- the register of a number; x0 where no register has it
abbrev pub register_at : ℕ → Register
register_at n = register_or_zero (slice_get registers n)

-- its name
abbrev pub machine_name : Register → List ℕ
machine_name Zero = codes "zero"
machine_name Ra = codes "ra"
machine_name Sp = codes "sp"
machine_name Gp = codes "gp"
machine_name Tp = codes "tp"
machine_name T0 = codes "t0"
machine_name T1 = codes "t1"
machine_name T2 = codes "t2"
machine_name S0 = codes "s0"
machine_name S1 = codes "s1"
machine_name A0 = codes "a0"
machine_name A1 = codes "a1"
machine_name A2 = codes "a2"
machine_name A3 = codes "a3"
machine_name A4 = codes "a4"
machine_name A5 = codes "a5"
machine_name A6 = codes "a6"
machine_name A7 = codes "a7"
machine_name S2 = codes "s2"
machine_name S3 = codes "s3"
machine_name S4 = codes "s4"
machine_name S5 = codes "s5"
machine_name S6 = codes "s6"
machine_name S7 = codes "s7"
machine_name S8 = codes "s8"
machine_name S9 = codes "s9"
machine_name S10 = codes "s10"
machine_name S11 = codes "s11"
machine_name T3 = codes "t3"
machine_name T4 = codes "t4"
machine_name T5 = codes "t5"
machine_name T6 = codes "t6"

-- ---- the registers with a use of their own, by number

-- the return address, and the stack pointer
abbrev pub ra : ℕ
ra = register_number Ra

abbrev pub sp : ℕ
sp = register_number Sp

-- scratch registers: t0 has the number of an external call or the bytes asked for, t2 the service
abbrev pub t0 : ℕ
t0 = register_number T0

abbrev pub t1 : ℕ
t1 = register_number T1

abbrev pub t2 : ℕ
t2 = register_number T2

-- the trap pointer: the address of the innermost trap frame
abbrev pub s1 : ℕ
s1 = register_number S1

-- the first argument, the result, and the value that is raised
abbrev pub a0 : ℕ
a0 = register_number A0

-- the allocation pointer, and the address of the domain page
abbrev pub s10 : ℕ
s10 = register_number S10

abbrev pub s11 : ℕ
s11 = register_number S11

-- ---- sets of registers

-- the arguments of a call, in order
abbrev pub argument_registers : List Register
argument_registers =
    A0 ∷ A1 ∷ A2 ∷ A3 ∷ A4 ∷ A5 ∷ A6 ∷ A7 ∷ S2 ∷ S3 ∷ S4 ∷ S5 ∷ S6 ∷ S7 ∷ S8 ∷ S9 ∷ []

-- those that hold the values of a function: the twenty-one colours
abbrev pub colours : List Register
colours =
    A0 ∷ A1 ∷ A2 ∷ A3 ∷ A4 ∷ A5 ∷ A6 ∷ A7 ∷ S2 ∷ S3 ∷ S4 ∷ S5 ∷ S6 ∷ S7 ∷ S8 ∷ S9 ∷ T3 ∷ T4 ∷ T5 ∷ T6 ∷ S0 ∷ []

-- what an external call destroys
abbrev pub destroyed_by_external : List Register
destroyed_by_external = A0 ∷ A1 ∷ A2 ∷ A3 ∷ A4 ∷ A5 ∷ A6 ∷ A7 ∷ T3 ∷ T4 ∷ T5 ∷ T6 ∷ []
