-- A function splits in one way.
use Rattle.std.proofs.Common.{◌≡◌, ◌≢◌, ℕ, Bool, true, false, List, [], ◌∷◌, length, refl, sym, ap, ◌∙◌, subst, arith}
use Rattle.std.proofs.lemmas.Bool.{eq-eqb, eqb-true, both_ways}
use Rattle.std.specs.List.{Contains}
use Rattle.std.specs.Prelude.{nat_eq}
use Rattle.bs_words.specs.declared.types.Loc.{Loc}
use Rattle.bs_words.specs.declared.types.Loc.TheVariants as loc
use Rattle.bs_words.proofs.Lists.{first_in, later_in}
use Rattle.mach_ir.specs.Walks.{AmongRegisters, is_in_code, StandsAsInstr, here, below, IsRegister}
use Rattle.mach_ir.specs.declared.reg.Reg.{Reg}
use Rattle.mach_ir.specs.declared.mach.Instr.{Instr}
use Rattle.mach_ir.specs.declared.mach.Mach.{Mach}
use Rattle.colouring_rules.proofs.Open.{machine_open, slot_open}
use Rattle.mach_ir.specs.Meaning.{killed}
use Rattle.mach_laws.proofs.Among.{left_among, among_of}
use Rattle.mach_laws.proofs.Places.{args_in, results_in}
use Rattle.split_rules.specs.Order.{IsFirstOfWeb, IsByFirst, kept, given, IsNumberOfWeb}
use Rattle.split_rules.specs.Renamed.{Naming, register_renumbered, all_numbered, renamed_instr, renamed_code}
use Rattle.split_rules.specs.Split.{IsNaming, AreByFirst, IsSplit}
use Rattle.split_rules.specs.Writes.{WriteReaches, IsWrite, by_instr}
use Rattle.split_rules.proofs.Result.{comes_write}

module _ (m : Mach) where
  first_is : {n v w : ℕ} {from : List Instr} → IsFirstOfWeb m n from v → IsFirstOfWeb m n from w → v ≡ w
  first_is {v = v} {w = w} a b =
      let low = a.least b.first w b.joined b.index in
      let high = b.least a.first v a.joined a.index in omega (arith, low, high)

  number_is : {free n w x y : ℕ} → IsByFirst m free n w x → IsByFirst m free n w y → x ≡ y
  number_is (kept a) (kept b) = refl
  number_is (kept a) (given b) = absurd (b a)
  number_is (given a) (kept b) = absurd (a b)
  number_is (given a) (given b) = refl

  web_is : {free n x y : ℕ} {from : List Instr} → IsNumberOfWeb m free n from x → IsNumberOfWeb m free n from y → x ≡ y
  web_is {free} {n} {x} a b = number_is (subst (λ w. IsByFirst m free n w x) (first_is a.is b.is) a.by_first) b.by_first

  module _ (a b : Naming) (na : IsNaming m a) (nb : IsNaming m b) (fa : AreByFirst m a) (fb : AreByFirst m b) where
    free_is : fa.free ≡ fb.free
    free_is = let low = fa.least fb.free fb.above in let high = fb.least fa.free fa.above in omega (arith, low, high)

    write_is : (r : Reg) → IsRegister m r → (from : List Instr) → IsWrite m r.number from →
        a.write (length from) r.number ≡ b.write (length from) r.number
    write_is r i from w = by r.loc refl
      where
        fixed : r.loc ≢ loc.Unset → a.write (length from) r.number ≡ b.write (length from) r.number
        fixed h = na.write_fixed r i h (length from) ∙ sym (nb.write_fixed r i h (length from))

        by : (l : Loc) → r.loc ≡ l → a.write (length from) r.number ≡ b.write (length from) r.number
        by loc.Unset e =
            web_is
            (subst (λ f. IsNumberOfWeb m f r.number from (a.write (length from) r.number)) free_is (fa.written r i e from w))
            (fb.written r i e from w)
        by (loc.Machine n) e = fixed (λ u. machine_open e u)
        by (loc.Slot n) e = fixed (λ u. slot_open e u)

    read_is : (r : Reg) (i : Instr) (next : List Instr) → StandsAsInstr i next m.code → Contains i.args r →
        a.read (length next) r.number ≡ b.read (length next) r.number
    read_is r i next s c = by (nat_eq (a.read (length next) r.number) (b.read (length next) r.number)) refl
      where
        among : AmongRegisters r.number i.args
        among = among_of r i.args c

        -- where a write comes, the numbers are its
        none : nat_eq (a.read (length next) r.number) (b.read (length next) r.number) ≡ false → (from : List Instr) →
            WriteReaches m r.number from (i ∷ next) → ⊥
        none e from z =
            let same =
            na.agree i next from r.number s among z ∙ write_is r (is_in_code (args_in s c)) from (comes_write m z)
            ∙ sym (nb.agree i next from r.number s among z) in
            both_ways _ e (eq-eqb (a.read (length next) r.number) (b.read (length next) r.number) same)

        by : (t : Bool) → nat_eq (a.read (length next) r.number) (b.read (length next) r.number) ≡ t →
            a.read (length next) r.number ≡ b.read (length next) r.number
        by true e = eqb-true (a.read (length next) r.number) (b.read (length next) r.number) e
        by false e =
            fa.unwritten i next r.number s among (none e) ∙ sym (fb.unwritten i next r.number s among (none e))

    regs_are : (f g : ℕ → ℕ) (rs : List Reg) → ((r : Reg) → Contains rs r → f r.number ≡ g r.number) →
        all_numbered f rs ≡ all_numbered g rs
    regs_are f g [] same = refl
    regs_are f g (r ∷ rs) same =
        ap (λ n. (record r { number = n }) ∷ all_numbered f rs) (same r (first_in r rs))
        ∙ ap (λ qs. register_renumbered g r ∷ qs) (regs_are f g rs (λ q c. same q (later_in r q rs c)))

    instr_is : (i : Instr) (next : List Instr) → StandsAsInstr i next m.code →
        renamed_instr a (length next) i ≡ renamed_instr b (length next) i
    instr_is i next s =
        ap (λ xs. record i { args = xs; results = all_numbered (a.write (length next)) i.results })
        (regs_are (a.read (length next)) (b.read (length next)) i.args (λ r c. read_is r i next s c))
        ∙ ap (λ ys. record i { args = all_numbered (b.read (length next)) i.args; results = ys })
        (regs_are (a.write (length next)) (b.write (length next)) i.results
        (λ r c.
        write_is r (is_in_code (results_in s c)) next
        (by_instr s (left_among i.results (killed m i) (among_of r i.results c)))))

    code_is : (code : List Instr) → ((i : Instr) (next : List Instr) → StandsAsInstr i next code → StandsAsInstr i next m.code) →
        renamed_code a code ≡ renamed_code b code
    code_is [] there = refl
    code_is (i ∷ is) there =
        ap (λ j. j ∷ renamed_code a is) (instr_is i is (there i is here))
        ∙ ap (λ js. renamed_instr b (length is) i ∷ js) (code_is is (λ j next s. there j next (below s)))

pub one_split : (m q k : Mach) → IsSplit m q → IsSplit m k → q ≡ k
one_split m q k x y =
    x.is
    ∙ ap (λ code. record m { code = code }) (code_is m x.names y.names x.naming y.naming x.by_first y.by_first m.code (λ i next s. s))
    ∙ sym y.is
