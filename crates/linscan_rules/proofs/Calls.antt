-- At an instruction that destroys every colour, as a call does, each colour has a register there. So what such an instruction reads, as a
-- call by a register does, shares a place with a register at each colour, whether the graph joins them or not.
use Rattle.std.proofs.Common.{◌≡◌, ℕ, Bool, true, false, cond, not, ◌&&◌, ◌||◌, List, [], ◌∷◌, ◌++◌, map, drop, refl, sym, ap, ◌∙◌, subst}
use Rattle.std.proofs.lemmas.Bool.{true≢false, eqb-true}
use Rattle.std.specs.List.{Contains}
use Rattle.bs_words.specs.declared.types.Loc.{Loc}
use Rattle.bs_words.specs.declared.types.Loc.TheVariants as loc
use Rattle.mach_ir.specs.Meaning.{Everything, is_destroyed, destroyed_by, same_colour, is_at_one_of, killed_among, killed_by, killed}
use Rattle.mach_ir.specs.Placed.{HasColourRegisters, colour_numbers}
use Rattle.mach_ir.specs.Walks.{AmongRegisters, first, later, Writes}
use Rattle.mach_ir.specs.declared.op.Callee.TheVariants as callee
use Rattle.mach_ir.specs.declared.op.Calling.TheVariants as calling
use Rattle.mach_ir.specs.declared.op.Op.TheVariants as op
use Rattle.mach_ir.specs.declared.mach.MachOp.TheVariants as mach
use Rattle.mach_ir.specs.declared.reg.Reg.{Reg}
use Rattle.mach_ir.specs.declared.mach.Instr.{Instr}
use Rattle.mach_ir.specs.declared.mach.Mach.{Mach}
use Rattle.linscan_rules.specs.Ranges.{IsAtPlace, reads, writes}
use Rattle.linscan_rules.proofs.Scan.{IsIn, is_first, is_later}
use Rattle.linscan_rules.proofs.Rows.{in_of}

pub among_left : (n : ℕ) (rs qs : List Reg) → AmongRegisters n rs → AmongRegisters n (rs ++ qs)
among_left n _ qs (first e) = first e
among_left n _ qs (later {rs = rs} a) = later (among_left n rs qs a)

among_right : (n : ℕ) (rs qs : List Reg) → AmongRegisters n qs → AmongRegisters n (rs ++ qs)
among_right n [] qs a = a
among_right n (r ∷ rs) qs a = later (among_right n rs qs a)

pub among_it : (r : Reg) (rs : List Reg) → IsIn r rs → AmongRegisters r.number rs
among_it r _ is_first = first refl
among_it r _ (is_later {xs = xs} z) = later (among_it r xs z)

-- a register whose colour is destroyed, and where no result is, is killed
killed_one : (d : _) (results : List Reg) (r : Reg) → is_destroyed d r.loc ≡ true → is_at_one_of r.loc results ≡ false → (rs : List Reg) → IsIn r rs → AmongRegisters r.number (killed_among rs d results)
killed_one d results r e n _ (is_first {xs = xs}) =
    subst (λ b. AmongRegisters r.number (cond b (r ∷ killed_among xs d results) (killed_among xs d results))) (sym hit) (first refl)
  where
    hit : (is_destroyed d r.loc && not (is_at_one_of r.loc results)) ≡ true
    hit = ap (λ b. b && not (is_at_one_of r.loc results)) e ∙ ap not n
killed_one d results r e n _ (is_later {y = y} {xs = xs} z) = by (is_destroyed d y.loc && not (is_at_one_of y.loc results)) (killed_one d results r e n xs z)
  where
    by : (b : Bool) → AmongRegisters r.number (killed_among xs d results) → AmongRegisters r.number (cond b (y ∷ killed_among xs d results) (killed_among xs d results))
    by true a = later a
    by false a = a

pub record At (rs : List Reg) (l : Loc) : Type 0 where
  pub register : Reg
  pub among : IsIn register rs
  pub same : same_colour l register.loc ≡ true

at_one : (l : Loc) (rs : List Reg) → is_at_one_of l rs ≡ true → At rs l
at_one l [] e = absurd (true≢false (sym e))
at_one l (r ∷ rs) e = by (same_colour l r.loc) refl e (λ u. at_one l rs u)
  where
    by : (b : Bool) → same_colour l r.loc ≡ b → (b || is_at_one_of l rs) ≡ true → (is_at_one_of l rs ≡ true → At rs l) → At (r ∷ rs) l
    by true q e ih = record { register = r; among = is_first; same = q }
    by false q e ih = let a = ih e in record { register = a.register; among = is_later a.among; same = a.same }

same_is : (n : ℕ) (l : Loc) → same_colour (loc.Machine n) l ≡ true → l ≡ loc.Machine n
same_is n (loc.Machine k) e = ap loc.Machine (sym (eqb-true n k e))
same_is n (loc.Slot k) e = absurd (true≢false (sym e))
same_is n loc.Unset e = absurd (true≢false (sym e))

-- the register of a colour
colour_reg : (rs : List Reg) (cs : List ℕ) → map (λ (r : Reg). r.loc) rs ≡ map loc.Machine cs → (c : ℕ) → IsIn c cs → (r : Reg) × IsIn r rs × (r.loc ≡ loc.Machine c)
colour_reg [] [] e c z = elim z [ ]
colour_reg [] (d ∷ ds) e c z = absurd (no (loc.Machine d) (map loc.Machine ds) e)
  where
    no : (l : Loc) (ls : List Loc) → [] ≡ l ∷ ls → ⊥
    no l ls e = cc
colour_reg (r ∷ rs) [] e c z = elim z [ ]
colour_reg (r ∷ rs) (d ∷ ds) e c z =
    by c z (heads r.loc (loc.Machine d) (map (λ (q : Reg). q.loc) rs) (map loc.Machine ds) e)
    (λ c y. colour_reg rs ds (tails r.loc (loc.Machine d) (map (λ (q : Reg). q.loc) rs) (map loc.Machine ds) e) c y)
  where
    heads : (a b : Loc) (ks ls : List Loc) → a ∷ ks ≡ b ∷ ls → a ≡ b
    heads a b ks ls e = cc

    tails : (a b : Loc) (ks ls : List Loc) → a ∷ ks ≡ b ∷ ls → ks ≡ ls
    tails a b ks ls e = cc

    by : (c : ℕ) → IsIn c (d ∷ ds) → r.loc ≡ loc.Machine d → ((c : ℕ) → IsIn c ds → (q : Reg) × IsIn q rs × (q.loc ≡ loc.Machine c)) → (q : Reg) × IsIn q (r ∷ rs) × (q.loc ≡ loc.Machine c)
    by _ is_first h ih = (r, is_first, h)
    by c (is_later y) h ih = let x = ih c y in (x.0, is_later x.1, x.2)

-- An instruction that destroys every colour writes a register at each.
pub each_written : (m : Mach) (i : Instr) → HasColourRegisters m → destroyed_by i.op ≡ Everything → (c : ℕ) → Contains colour_numbers c →
    (q : Reg) × (q.loc ≡ loc.Machine c) × Writes m i q.number
each_written m i has all c z =
    let r = colour_reg m.colours colour_numbers has.each c (in_of c colour_numbers z) in
    by r.0 r.1 r.2 (is_at_one_of (r.0).loc i.results) refl
  where
    by : (r : Reg) → IsIn r m.colours → r.loc ≡ loc.Machine c → (b : Bool) → is_at_one_of r.loc i.results ≡ b → (q : Reg) × (q.loc ≡ loc.Machine c) × Writes m i q.number
    by r w e true q =
        let a = at_one r.loc i.results q in (
          a.register,
          same_is c (a.register).loc (subst (λ l. same_colour l (a.register).loc ≡ true) e a.same),
          among_left (a.register).number i.results (killed m i) (among_it a.register i.results a.among),
        )
    by r w e false q =
        let d : is_destroyed Everything r.loc ≡ true = ap (is_destroyed Everything) e in (
          r,
          e,
          among_right r.number i.results (killed m i)
              (subst (λ k. AmongRegisters r.number (killed_by m.colours k i.results)) (sym all) (killed_one Everything i.results r d q m.colours w)),
        )

-- So whatever a call reads is, at the call, beside a register at each colour.
pub call_meets : (m : Mach) (i : Instr) (next : List Instr) (p : ℕ) (n : ℕ) → HasColourRegisters m → destroyed_by i.op ≡ Everything → drop p m.code ≡ i ∷ next → AmongRegisters n i.args →
    IsAtPlace m n p × ((c : ℕ) → Contains colour_numbers c → (q : Reg) × (q.loc ≡ loc.Machine c) × IsAtPlace m q.number p)
call_meets m i next p n has all here read =
    (reads p i next here read, λ c z. let w = each_written m i has all c z in (w.0, w.1, writes p i next here w.2))

-- a call by a register is one
pub calls_destroy : (result : _) (i : Instr) → i.op ≡ mach.Op (op.Calling (calling.Call callee.Register result)) → destroyed_by i.op ≡ Everything
calls_destroy result i e = ap destroyed_by e
