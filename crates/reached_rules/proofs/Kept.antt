-- What stays of a function is one, is kept, and each operation of it is reached.
use Rattle.std.proofs.Common.{◌≡◌, List, ◌∷◌, refl, sym, ap, ◌∙◌, subst}
use Rattle.mach_ir.specs.Acts.{On, At}
use Rattle.mach_ir.specs.Formed.{WellFormed}
use Rattle.mach_ir.specs.Meaning.{after_label, from_handler}
use Rattle.mach_ir.specs.Walks.{Reached, at_entry, by_step, by_raise, goes, raises, StandsAsInstr, here, below}
use Rattle.mach_ir.specs.declared.op.Op.{Op}
use Rattle.mach_ir.specs.declared.mach.MachOp.TheVariants as mach
use Rattle.mach_ir.specs.declared.mach.Instr.{Instr}
use Rattle.mach_ir.specs.declared.mach.Mach.{Mach}
use Rattle.reached_rules.specs.Kept.{IsTrimKept}
use Rattle.reached_rules.specs.Trimmed.{Stays, IsTrimmedCode, no_code, stays, left_out, reduced_to, IsTrimmed}
use Rattle.reached_rules.proofs.Doing.{does, no_addr, op_reached}
use Rattle.reached_rules.proofs.Walked.{first_of, label_beside, handler_beside, register_back}

-- ---- one

pub one_code : {m : Mach} {rest xs ys : List Instr} → IsTrimmedCode m rest xs → IsTrimmedCode m rest ys → xs ≡ ys
one_code no_code no_code = refl
one_code (stays {i = i} s h) (stays t g) = ap (λ zs. i ∷ zs) (one_code h g)
one_code (stays s h) (left_out out g) = absurd (out s)
one_code (left_out out h) (stays t g) = absurd (out t)
one_code (left_out out h) (left_out o g) = one_code h g

pub one_trimmed : (m q k : Mach) → IsTrimmed m q → IsTrimmed m k → q ≡ k
one_trimmed m q k a b = a.is ∙ (ap (reduced_to m) (one_code a.trimmed b.trimmed) ∙ sym b.is)

-- ---- what is reached is reached in what stays

-- where an instruction stood that stays
record WhereStays (m : Mach) (i : Instr) (zs : List Instr) : Type 0 where
  next : List Instr
  stay : Stays m i next
  trimmed : IsTrimmedCode m next zs

where_stays : {m : Mach} {i : Instr} {zs rest ys : List Instr} → IsTrimmedCode m rest ys → StandsAsInstr i zs ys → WhereStays m i zs
where_stays (stays {next = next} s h) here = record { next = next; stay = s; trimmed = h }
where_stays (stays s h) (below t) = where_stays h t
where_stays (left_out out h) t = where_stays h t
where_stays no_code t = elim t [ ]

module _ (m : Mach) (formed : WellFormed m) (xs : List Instr) (whole : IsTrimmedCode m m.code xs) where
  abbrev q : Mach
  q = record m { code = xs }

  record ReachedToo (rest : List Instr) : Type 0 where
    code : List Instr
    reached : Reached q code
    trimmed : IsTrimmedCode m rest code

  reached_too : {rest : List Instr} → Reached m rest → ReachedToo rest
  reached_too at_entry = record { code = xs; reached = at_entry; trimmed = whole }
  reached_too (by_step {i = i} {next = next} r (goes On o)) = step_on (reached_too r)
    where
      step_on : ReachedToo (i ∷ next) → ReachedToo next
      step_on h =
          let f = first_of m formed xs whole i next h.code (r, h.trimmed) in
          record { code = f.zs; reached = by_step (subst (Reached q) f.same h.reached) (goes On o); trimmed = f.trimmed }
  reached_too (by_step {i = i} {next = next} r (goes (At l) o)) = step_at (reached_too r)
    where
      step_at : ReachedToo (i ∷ next) → ReachedToo (after_label l m.code)
      step_at h =
          let f = first_of m formed xs whole i next h.code (r, h.trimmed) in
          record {
            code = after_label l xs;
            reached = by_step (subst (Reached q) f.same h.reached) (goes (At l) o);
            trimmed = (label_beside m formed xs whole r o).1;
          }
  reached_too (by_raise {i = i} {next = next} r (raises {l = l} y t)) = step_aside (reached_too r)
    where
      step_aside : ReachedToo (i ∷ next) → ReachedToo (from_handler l m.code)
      step_aside h =
          let f = first_of m formed xs whole i next h.code (r, h.trimmed) in
          record {
            code = from_handler l xs;
            reached = by_raise (subst (Reached q) f.same h.reached) (raises y (f.tries ∙ t));
            trimmed = (handler_beside m formed xs whole r y t).1;
          }

  each_reached : (i : Instr) (zs : List Instr) (f : Op) → StandsAsInstr i zs xs → i.op ≡ mach.Op f → Reached q (i ∷ zs)
  each_reached i zs f t e =
      let w = where_stays whole t in
      let h = reached_too (op_reached m formed xs whole i w.next w.stay f e) in
      subst (Reached q) (one_code h.trimmed (stays w.stay w.trimmed)) h.reached

  kept : IsTrimKept m q
  kept =
      record {
        does = does m formed xs whole;
        addrs = no_addr m formed xs whole;
        registers = register_back m formed xs whole;
        reached = each_reached;
      }

pub trimmed_kept : (m q : Mach) → WellFormed m → IsTrimmed m q → IsTrimKept m q
trimmed_kept m q formed t = subst (IsTrimKept m) (sym t.is) (kept m formed t.code t.trimmed)
