-- What a function whose copies are propagated keeps.
use Rattle.std.proofs.Common.{◌≡◌, ℕ, inl, List, length, refl, sym, ap, ◌∙◌, subst}
use Rattle.std.specs.List.{Contains}
use Rattle.bs_words.specs.declared.types.Loc.TheVariants as loc
use Rattle.cse_copy_rules.specs.Kept.{IsCopyKept}
use Rattle.cse_copy_rules.specs.Propagated.{ReadFor, instr_with_sources, with_sources, IsPropagatedBefore, IsPropagated}
use Rattle.mach_ir.specs.Formed.{WellFormed}
use Rattle.mach_ir.specs.Keeps.{Keeps, NamesSymbol, NamesExternal, IsNamedIn}
use Rattle.mach_ir.specs.Placed.{WellPlaced}
use Rattle.mach_ir.specs.Walks.{IsRegister}
use Rattle.mach_ir.specs.declared.reg.Reg.{Reg}
use Rattle.mach_ir.specs.declared.mach.MachOp.{MachOp}
use Rattle.mach_ir.specs.declared.mach.Instr.{Instr}
use Rattle.mach_ir.specs.declared.mach.Mach.{Mach}
use Rattle.cse_repeat_rules.specs.Kept.{OwnOrigins}
use Rattle.cse_repeat_rules.proofs.OneForOne as one
use Rattle.mach_laws.proofs.InPlace.{both}
use Rattle.mach_laws.proofs.Places.{contains_of, stands_in}
use Rattle.cse_copy_rules.proofs.Form.{alike, was_register, IsFormKept, form_kept}
use Rattle.cse_copy_rules.proofs.Kept.{does_propagated}
use Rattle.cse_copy_rules.proofs.Live.{IsOpen, meets_back, no_addr_back}

module _ (m : Mach) (plan : ℕ → Reg → Reg) (formed : WellFormed m)
    (reads : (i : Instr) (next made : List Instr) → IsPropagatedBefore plan m i next made → (r : Reg) → Contains i.args r →
    ReadFor made r (plan (length next) r)) where
  abbrev q : Mach
  q = record m { code = with_sources plan m.code }

  form : IsFormKept m q
  form = form_kept m plan reads formed

  was : (r : Reg) → IsRegister q r → IsRegister m r
  was r i = was_register m plan reads r i

  -- ---- places

  is_open : (r : Reg) → IsRegister m r → IsOpen m plan formed reads r.number → r.loc ≡ loc.Unset
  is_open r i w = ap (λ (x : Reg). x.loc) (formed.numbers r w.register i w.among (sym w.number)) ∙ w.is_open

  still_placed : WellPlaced m → WellPlaced q
  still_placed placed =
      one.still_placed (instr_with_sources plan) (alike plan) m was (λ n k. IsOpen m plan formed reads k) (λ n k apart h. meets_back m plan formed reads h)
      (λ r k i j fixed e w. fixed (is_open k j w)) placed

  -- ---- names

  named_before : (Named : MachOp → Type 0) → IsNamedIn Named q → IsNamedIn Named m
  named_before Named n =
      let s = stands_in q.code n.instr n.among in
      both (instr_with_sources plan) m.code (λ j zs. Named j.op → IsNamedIn Named m)
      (λ i next t named. record { instr = i; among = contains_of t; named = named }) n.instr s.0 s.1 n.named

  still_keeps : OwnOrigins m → Keeps m q
  still_keeps own =
      record {
        name = refl;
        result = refl;
        does = does_propagated m plan formed own reads;
        origins = λ r i loose. record { register = r; among = was r i; loose = loose; same = refl };
        slots = λ r k i s. inl (record { register = r; among = was r i; stands = s; same = refl });
        symbols = λ name n. named_before (NamesSymbol name) n;
        externals = λ row n. named_before (NamesExternal row) n;
        addrs = no_addr_back m plan formed reads;
      }

  pub kept_from : WellPlaced m → OwnOrigins m → IsCopyKept m (record m { code = with_sources plan m.code })
  kept_from placed own =
      record {
        pass = record { keeps = still_keeps own; formed = form.formed; placed = still_placed; seated = form.seated };
        no_larger = form.no_larger;
      }

pub propagated_kept : (m q : Mach) → WellFormed m → WellPlaced m → OwnOrigins m → IsPropagated m q → IsCopyKept m q
propagated_kept m q formed placed own p =
    subst (IsCopyKept m) (sym p.is) (kept_from m p.plan formed p.reads placed own)
