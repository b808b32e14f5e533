-- The code of forms with one or two operands, where each part of it is given by an equation.
use Rattle.std.proofs.Common.{◌≡◌, ℕ, false, List, ap, sym, ◌∙◌}
use Rattle.cmm_tree.specs.Tree.{Expression}
use Rattle.cmm_types.specs.Types.{type_of}
use Rattle.mach_ir.specs.declared.mach.Instr.{Instr}
use Rattle.mach_ir.specs.declared.reg.Reg.{Reg}
use Rattle.selection_rules.specs.Select.{NamedRegister, Label, scopes, fresh_register, select, select_base, base_of}
use Rattle.selection_operands.proofs.Addresses.{based}

-- an expression into a fresh register, which the code that follows reads
pub read-by : (env : List NamedRegister) (labels : List Label) (n b number first : ℕ) (e other : Expression) (r : Reg) (made : List Instr) (follows : Reg → List Instr)
    → number ≡ n → first ≡ b → e ≡ other → r ≡ fresh_register number (type_of (scopes env) e)
    → made ≡ select env labels false false r first e (follows r)
    → made ≡ select env labels false false (fresh_register n (type_of (scopes env) other)) b other (follows (fresh_register n (type_of (scopes env) other)))
read-by env labels n b number first e other r made follows p q s t m =
    m
    ∙ ap (λ x. select env labels false false x first e (follows x)) t
    ∙ ap (λ k. select env labels false false (fresh_register k (type_of (scopes env) e)) first e (follows (fresh_register k (type_of (scopes env) e)))) p
    ∙ ap (λ k. select env labels false false (fresh_register n (type_of (scopes env) e)) k e (follows (fresh_register n (type_of (scopes env) e)))) q
    ∙ ap (λ x. select env labels false false (fresh_register n (type_of (scopes env) x)) b x (follows (fresh_register n (type_of (scopes env) x)))) s

-- the base of an address, which the access after it reads
pub based-by : (env : List NamedRegister) (labels : List Label) (n b number first : ℕ) (address base : Expression) (r : Reg) (made : List Instr) (follows : Reg → List Instr)
    → number ≡ n → first ≡ b → base ≡ base_of address → r ≡ fresh_register number (type_of (scopes env) base)
    → made ≡ select env labels false false r first base (follows r)
    → made ≡ select_base env labels n b address (select env labels false false (fresh_register n (type_of (scopes env) address)) b address) (follows (fresh_register n (type_of (scopes env) (base_of address))))
based-by env labels n b number first address base r made follows p q s t m =
    read-by env labels n b number first base (base_of address) r made follows p q s t m
    ∙ sym (based env labels n b address (follows (fresh_register n (type_of (scopes env) (base_of address)))))
