-- What a function whose repeats are moves keeps.
use Rattle.std.proofs.Common.{◌≡◌, ◌≢◌, ℕ, true, inl, List, length, Option, Some, None, refl, sym, ap, ◌∙◌, subst}
use Rattle.std.specs.List.{Contains}
use Rattle.bs_words.specs.declared.types.Loc.TheVariants as loc
use Rattle.mach_ir.specs.Formed.{WellFormed}
use Rattle.mach_ir.specs.Keeps.{Keeps, NamesSymbol, NamesExternal, IsNamedIn}
use Rattle.mach_ir.specs.Placed.{WellPlaced}
use Rattle.mach_ir.specs.Walks.{IsRegister}
use Rattle.mach_ir.specs.declared.op.CopyKind.TheVariants as copy
use Rattle.mach_ir.specs.declared.op.Op.TheVariants as op
use Rattle.mach_ir.specs.declared.op.Pure.TheVariants as pure
use Rattle.mach_ir.specs.declared.reg.Reg.{Reg}
use Rattle.mach_ir.specs.declared.mach.MachOp.{MachOp}
use Rattle.mach_ir.specs.declared.mach.MachOp.TheVariants as mach
use Rattle.mach_ir.specs.declared.mach.Instr.{Instr}
use Rattle.mach_ir.specs.declared.mach.Mach.{Mach}
use Rattle.cse_repeat_rules.specs.Kept.{OwnOrigins, IsRepeatKept}
use Rattle.cse_repeat_rules.specs.Repeated.{is_operator, same_place, RepeatsEarlier, instr_with_earlier, with_moves, IsRepeatedBefore, IsRepeated, IsFormKept}
use Rattle.cse_repeat_rules.proofs.OneForOne as one
use Rattle.mach_laws.proofs.InPlace.{was_main}
use Rattle.mach_laws.proofs.Places.{contains_of, stands_in}
use Rattle.cse_repeat_rules.proofs.Form.{Fate, unchanged, moved, fate, alike, was_register, kept_by}
use Rattle.cse_repeat_rules.proofs.Kept.{does_repeated}
use Rattle.cse_repeat_rules.proofs.Live.{Apart, meets_back, no_addr_back}

module _ (m : Mach) (plan : ℕ → Option Reg) (formed : WellFormed m)
    (moves : (i : Instr) (next made : List Instr) → IsRepeatedBefore plan m i next made → is_operator i.op ≡ true → (r : Reg) →
    plan (length next) ≡ Some r → RepeatsEarlier made i r)
    (stays : (i : Instr) (next made : List Instr) → IsRepeatedBefore plan m i next made → plan (length next) ≡ None → (r : Reg) →
    RepeatsEarlier made i r → ⊥) where
  abbrev q : Mach
  q = record m { code = with_moves plan m.code }

  form : IsFormKept m q
  form = kept_by m plan formed moves stays

  was : (r : Reg) → IsRegister q r → IsRegister m r
  was r i = was_register m plan moves r i

  -- ---- places

  none_apart : (r k : Reg) → IsRegister m r → IsRegister m k → k.loc ≢ loc.Unset → r.loc ≡ k.loc →
      Apart m plan moves r.number k.number → ⊥
  none_apart r k i j fixed e w =
      let one : w.one ≡ r = formed.numbers w.one r w.is_one i w.number in
      let other : w.other ≡ k = formed.numbers w.other k w.is_other j w.other_number in
      w.stands
      (same_place (ap (λ (x : Reg). x.loc) one ∙ e ∙ ap (λ (x : Reg). x.loc) (sym other))
      (λ u. fixed (ap (λ (x : Reg). x.loc) (sym other) ∙ u)))

  still_placed : WellPlaced m → WellPlaced q
  still_placed placed =
      one.still_placed (instr_with_earlier plan) (alike plan) m was (Apart m plan moves) (λ n k apart h. meets_back m plan moves apart h) none_apart placed

  -- ---- names

  named_before : (Named : MachOp → Type 0) → (Named (mach.Op (op.Pure (pure.Copy copy.Move))) → ⊥) → IsNamedIn Named q →
      IsNamedIn Named m
  named_before Named none n =
      let s = stands_in q.code n.instr n.among in
      let w = was_main (instr_with_earlier plan) m.code n.instr s.0 s.1 in
      by w.instr (length w.next) (contains_of w.stands) (subst (λ (x : Instr). Named x.op) (sym w.same) n.named)
    where
      by : (i : Instr) (k : ℕ) → Contains m.code i → Named (instr_with_earlier plan k i).op → IsNamedIn Named m
      by i k c named = of_fate (fate plan k i)
        where
          of_fate : Fate plan k i → IsNamedIn Named m
          of_fate (unchanged e s) = record { instr = i; among = c; named = subst (λ (x : Instr). Named x.op) e named }
          of_fate (moved r g s e) = absurd (none (subst (λ (x : Instr). Named x.op) e named))

  no_symbol : (name : List ℕ) → NamesSymbol name (mach.Op (op.Pure (pure.Copy copy.Move))) → ⊥
  no_symbol name n = elim n [ ]

  no_external : (row : _) → NamesExternal row (mach.Op (op.Pure (pure.Copy copy.Move))) → ⊥
  no_external row n = elim n [ ]

  still_keeps : OwnOrigins m → Keeps m q
  still_keeps own =
      record {
        name = refl;
        result = refl;
        does = does_repeated m plan own moves;
        origins = λ r i loose. record { register = r; among = was r i; loose = loose; same = refl };
        slots = λ r k i s. inl (record { register = r; among = was r i; stands = s; same = refl });
        symbols = λ name n. named_before (NamesSymbol name) (no_symbol name) n;
        externals = λ row n. named_before (NamesExternal row) (no_external row) n;
        addrs = no_addr_back m plan moves formed.numbers;
      }

  pub kept_from : WellPlaced m → OwnOrigins m → IsRepeatKept m (record m { code = with_moves plan m.code })
  kept_from placed own =
      record {
        pass = record { keeps = still_keeps own; formed = form.formed; placed = still_placed; seated = form.seated };
        no_larger = form.no_larger;
        none_left = form.none_left;
      }

pub repeated_kept : (m q : Mach) → WellFormed m → WellPlaced m → OwnOrigins m → IsRepeated m q → IsRepeatKept m q
repeated_kept m q formed placed own r =
    subst (IsRepeatKept m) (sym r.is) (kept_from m r.plan formed r.moves r.stays placed own)
