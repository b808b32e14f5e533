-- The instructions after operands, which take them.
use Rattle.std.proofs.Common.{◌≡◌, ℕ, zero, suc, Bool, true, false, ◌⊎◌, inl, inr, List, [], ◌∷◌, ◌++◌, Option, Some, None, refl, sym, ◌∙◌, subst, arith}
use Rattle.std.specs.Prelude.{length}
use Rattle.bs_words.specs.declared.types.Comp.TheVariants as comp
use Rattle.cmm_tree.specs.Tree.{LabelTree}
use Rattle.walk_tables.specs.Walks.{Task, behind_raise, behind_exit, operand_uses}
use Rattle.mach_ir.specs.Acts.{On}
use Rattle.mach_ir.specs.Meaning.{passes_frame, tries_at}
use Rattle.mach_ir.specs.Walks.{AmongRegisters, first, later, targets, may_raise}
use Rattle.mach_ir.specs.declared.mach.Instr.{Instr}
use Rattle.mach_ir.specs.declared.mach.Mach.{Mach}
use Rattle.mach_ir.specs.declared.reg.Reg.{Reg}
use Rattle.selection_rules.specs.Instructions as emit
use Rattle.selection_rules.specs.Select.{Label, moves_all}
use Rattle.selection_rules.proofs.Parts.{Placed, placed_next}
use Rattle.selection_walks.proofs.Phases.{Phase, Early, Bound, Passed, Off, off_less, Flies, Written, here, there, written_among, Addresses, Ahead, Past, read_here, kept_on, wrote_it, Onward, simply, crossed, flew, onward, straight, Leaving, read_last, flew_off, leaves, Told, Kept, grown, bound_none}
use Rattle.selection_walks.proofs.Situations.{raised_at, OutsOf, outs_kept, Sit, sit, go, no_written, one_number, out, ApartFrom, finish, through_takes, taken}
use Rattle.selection_walks.proofs.Operands.{Stood, outs_over}

pub takes_raising : (at slot count : ℕ) (tasks : List Task) → behind_raise (operand_uses at slot count ++ tasks) ≡ behind_raise tasks
takes_raising at slot zero tasks = refl
takes_raising at slot (suc count) tasks = takes_raising at (suc slot) count tasks

pub takes_exiting : (at slot count : ℕ) (tasks : List Task) (label : LabelTree) → behind_exit label (operand_uses at slot count ++ tasks) ≡ behind_exit label tasks
takes_exiting at slot zero tasks label = refl
takes_exiting at slot (suc count) tasks label = takes_exiting at (suc slot) count tasks label

-- an instruction that goes on alone, with these results
pub record IsPlain (i : Instr) : Type 0 where
  pub on : targets i.op ≡ On ∷ []
  pub calm : may_raise i.op ≡ false
  pub inside : passes_frame i.op ≡ false
  pub tries : (next : List Instr) → tries_at (i ∷ next) ≡ tries_at next

module _ (m : Mach) (n : ℕ) where
  pub outs_takes : {k : ℕ} {w : Option ℕ} {ts : List ℕ} {labels : List Label} (tasks : List Task) (at slot count : ℕ) → OutsOf m n k w ts labels tasks →
      OutsOf m n k w ts labels (operand_uses at slot count ++ tasks)
  outs_takes tasks at slot count o = outs_over m n (takes_raising at slot count tasks) (λ label. takes_exiting at slot count tasks label) o

  pub used_by : {v : Option ℕ} (tasks : List Task) (at slot count : ℕ) → Stood v slot count → Told Passed v (operand_uses at slot count ++ tasks)
  used_by tasks at slot count x = taken m n tasks at slot count x.index x.within x.is

  -- the last instruction of a node writes the destination
  pub ended : {k : ℕ} {ts : List ℕ} {labels : List Label} {w v : Option ℕ} {next : List Instr} {tasks : List Task} (want : Bool) (d : Reg) (i : Instr) →
      IsPlain i → i.results ≡ d ∷ [] → (at slot count : ℕ) → Kept w v → (AmongRegisters n i.args → Stood v slot count) → ApartFrom m n d w →
      Sit m n (out m n want d) k w ts labels next tasks →
      Sit m n [] k v ts labels (i ∷ next) (operand_uses at slot count ++ tasks)
  ended {w = w} {v = v} {next = next} {tasks = tasks} want d i plain e at slot count keeps reads apart x =
      sit m n
      (λ placed p z. finish m n want d x apart e (placed_next (plain.tries next) placed) (λ a. used_by tasks at slot count (reads a))
      (λ p t. through_takes m n p at slot count (grown p w v keeps t)) (straight plain.on plain.calm plain.inside z))
      (outs_takes tasks at slot count (outs_kept m n keeps x.outs))

  -- an instruction writes a register that holds no address
  pub apart_sit : {k : ℕ} {ts : List ℕ} {labels : List Label} {v : Option ℕ} {next : List Instr} {tasks : List Task} (q : Reg) (i : Instr) → IsPlain i →
      i.results ≡ q ∷ [] → (q.comp ≡ comp.Addr → ⊥) → (AmongRegisters n i.args → Told Passed v tasks) → OutsOf m n k v ts labels tasks →
      ((n ≡ q.number → ⊥) → Sit m n [] k v ts labels next tasks) → Sit m n [] k v ts labels (i ∷ next) tasks
  apart_sit {k} {ts} {labels} {v = v} {next = next} {tasks = tasks} q i plain e kind reads o f =
      sit m n (λ placed p z. by p (placed_next (plain.tries next) placed) (straight plain.on plain.calm plain.inside z)) o
    where
      by : (p : Phase) → Placed m ts next → Past m n k i next p → Told p v tasks
      by p placed (read_here a) = reads a
      by p placed (kept_on a u z) = let b = subst (Addresses n) e a in go m n (f (λ s. kind (b.0 (sym s)))) placed p z
      by p placed (wrote_it a z) = absurd (no (subst (Written n) e a))
        where
          no : Written n (q ∷ []) → ⊥
          no (here s c) = kind c
          no (there s) = no_written m n s

  -- one that writes nothing
  pub mute_sit : {k : ℕ} {ts : List ℕ} {labels : List Label} {v : Option ℕ} {next : List Instr} {tasks : List Task} (i : Instr) → IsPlain i → i.results ≡ [] →
      (AmongRegisters n i.args → Told Passed v tasks) → Sit m n [] k v ts labels next tasks → Sit m n [] k v ts labels (i ∷ next) tasks
  mute_sit {k} {ts} {v = v} {next = next} {tasks = tasks} i plain e reads x =
      sit m n (λ placed p z. by p (placed_next (plain.tries next) placed) (straight plain.on plain.calm plain.inside z)) x.outs
    where
      by : (p : Phase) → Placed m ts next → Past m n k i next p → Told p v tasks
      by p placed (read_here a) = reads a
      by p placed (kept_on a u z) = go m n x placed p z
      by p placed (wrote_it a z) = absurd (no_written m n (subst (Written n) e a))

  -- ---- moves

  pub plain_move : (a d : Reg) → IsPlain (emit.move a d)
  plain_move a d = record { on = refl; calm = refl; inside = refl; tries = λ next. refl }

  -- a move into one of the registers that are to be written
  pub move_sit : {D : List Reg} {k : ℕ} {ts : List ℕ} {labels : List Label} {w : Option ℕ} {next : List Instr} {tasks : List Task} (a d : Reg) →
      Sit m n (d ∷ D) k w ts labels next tasks → (n ≡ a.number → Told Passed w tasks) → Sit m n D k w ts labels (emit.move a d ∷ next) tasks
  move_sit {D} {k} {ts} {w = w} {next = next} {tasks = tasks} a d x reads =
      record {
        cont = λ placed p f z. of_cont p (placed_next refl placed) f (straight refl refl refl z);
        given = λ placed f z. of_given (placed_next refl placed) f (straight refl refl refl z);
        outs = x.outs;
      }
    where
      either : (AmongRegisters n D → ⊥) → (AmongRegisters n (d ∷ []) → ⊥) → AmongRegisters n (d ∷ D) → ⊥
      either f g (first e) = g (first e)
      either f g (later i) = f i

      apart : (p : Phase) → Off p (AmongRegisters n D) → Off p (AmongRegisters n (d ∷ [])) → Off p (AmongRegisters n (d ∷ D))
      apart Early f g = tt
      apart Bound f g = either f g
      apart Passed f g = either f g

      one : Written n (d ∷ []) → Written n (d ∷ D)
      one (here e c) = here e c
      one (there i) = absurd (no_written m n i)

      of_cont : (p : Phase) → Placed m ts next → Off p (AmongRegisters n D) → Past m n k (emit.move a d) next p → Told p w tasks
      of_cont p placed f (read_here i) = reads (one_number m n i)
      of_cont p placed f (kept_on c g z) = x.cont placed p (apart p f g) z
      of_cont p placed f (wrote_it g z) = x.given placed (one g) z

      of_given : Placed m ts next → Written n D → Past m n k (emit.move a d) next Bound → Told Early w tasks
      of_given placed f (kept_on c g z) = x.given placed (there f) z

  -- moves into registers at once
  pub moves_sit : {k : ℕ} {ts : List ℕ} {labels : List Label} {w : Option ℕ} {tasks : List Task} (from to : List Reg) (next : List Instr) →
      length from ≡ length to → Sit m n to k w ts labels next tasks → (AmongRegisters n from → Told Passed w tasks) →
      Sit m n [] k w ts labels (moves_all from to next) tasks
  moves_sit [] [] next e x reads = x
  moves_sit [] (d ∷ to) next e x reads = absurd (ne e)
    where
      ne : 0 ≡ suc (length to) → ⊥
      ne e = omega (arith, e)
  moves_sit (a ∷ from) [] next e x reads = absurd (ne e)
    where
      ne : suc (length from) ≡ 0 → ⊥
      ne e = omega (arith, e)
  moves_sit (a ∷ from) (d ∷ to) next e x reads = moves_sit from to (emit.move a d ∷ next) (omega (arith, e)) (move_sit a d x (λ q. reads (first (sym q))))
      (λ i. reads (later i))

  -- what is given goes from a register on to the destination
  pub move_on : {k : ℕ} {ts : List ℕ} {labels : List Label} {w : Option ℕ} {next : List Instr} {tasks : List Task} (want : Bool) (s d : Reg) →
      Sit m n (out m n want d) k w ts labels next tasks → ApartFrom m n d w → ApartFrom m n s w → Sit m n (s ∷ []) k w ts labels (emit.move s d ∷ next) tasks
  move_on {k} {ts} {labels} {w = w} {next = next} {tasks = tasks} want s d x away apart =
      record {
        cont = λ placed p f z. of_cont want x p (placed_next refl placed) f (straight refl refl refl z);
        given = λ placed f z. absurd (bound_none w (apart (number f)) (of_given want x (placed_next refl placed) (straight refl refl refl z)));
        outs = x.outs;
      }
    where
      number : Written n (s ∷ []) → n ≡ s.number
      number (here e c) = sym e
      number (there i) = absurd (no_written m n i)

      of_cont : (want : Bool) → Sit m n (out m n want d) k w ts labels next tasks → (p : Phase) → Placed m ts next → Off p (AmongRegisters n (s ∷ [])) →
          Past m n k (emit.move s d) next p → Told p w tasks
      of_cont want x p placed f (read_here i) = absurd (f i)
      of_cont true x p placed f (kept_on c g z) = x.cont placed p g z
      of_cont true x p placed f (wrote_it g z) = x.given placed g z
      of_cont false x p placed f (kept_on c g z) = go m n x placed p z
      of_cont false x p placed f (wrote_it g z) = absurd (bound_none w (away (one_number m n (written_among g))) (go m n x placed Bound z))

      of_given : (want : Bool) → Sit m n (out m n want d) k w ts labels next tasks → Placed m ts next → Past m n k (emit.move s d) next Bound →
          Told Bound w tasks
      of_given true x placed (kept_on c g z) = x.cont placed Bound g z
      of_given false x placed (kept_on c g z) = go m n x placed Bound z

  -- ---- what may raise, and frame points

  -- what an instruction does to the tasks that are left
  pub record Meets (i : Instr) (w : Option ℕ) (tasks more : List Task) : Type 0 where
    pub stays : (p : Phase) → Told p w tasks → Told p w more
    pub crossing : passes_frame i.op ≡ true → Told Passed w tasks → Told Bound w more
    pub flying : may_raise i.op ≡ true → (h : List Task) → behind_raise tasks ≡ Some h → {p q : Phase} → Flies i p q → Told q w h → Told p w more

  pub met : {k : ℕ} {ts : List ℕ} {labels : List Label} {w : Option ℕ} {next : List Instr} {tasks more : List Task} {p : Phase} {D : List Reg} (i : Instr) →
      targets i.op ≡ On ∷ [] → tries_at (i ∷ next) ≡ tries_at next → i.results ≡ D → Sit m n D k w ts labels next tasks → Meets i w tasks more →
      Placed m ts (i ∷ next) →
      Ahead m n k p (i ∷ next) → ((p ≡ Passed) × AmongRegisters n i.args) ⊎ Told p w more
  met {k} {ts} {w = w} {next = next} {tasks = tasks} {more = more} {D = D} i on tr e x meets placed z = by (onward on z)
    where
      below : Placed m ts next
      below = placed_next tr placed

      by : {p : Phase} → Onward m n k i next p → ((p ≡ Passed) × AmongRegisters n i.args) ⊎ Told p w more
      by (simply (read_here a)) = inl (refl, a)
      by (simply (kept_on {p = p} a o y)) = inr (meets.stays p (x.cont below p (off_less p (λ u. subst (AmongRegisters n) (sym e) u) o) y))
      by (simply (wrote_it a y)) = inr (meets.stays Early (x.given below (subst (Written n) e a) y))
      by (crossed e' f y) = inr (meets.crossing e' (x.cont below Passed (λ u. f (subst (AmongRegisters n) (sym e) u)) y))
      by (flew {q = q} {l = l} {tries = tries} mr t f y) = let u = x.outs in let r =
          raised_at m n l tries u.raised (sym placed.caught ∙ t) in inr (meets.flying mr r.0 r.1 f (r.2 q y))

  -- one that takes what is in slots, after the moves into its seats
  pub calling : {k : ℕ} {ts : List ℕ} {labels : List Label} {w v : Option ℕ} {next : List Instr} {tasks more : List Task} {D S : List Reg} (i : Instr) →
      targets i.op ≡ On ∷ [] → ((next : List Instr) → tries_at (i ∷ next) ≡ tries_at next) → i.results ≡ D → Sit m n D k w ts labels next tasks →
      Meets i w tasks more →
      Kept w v → (at slot count : ℕ) → (AmongRegisters n i.args → (AmongRegisters n S → ⊥) → Stood v slot count) → (AmongRegisters n S → w ≡ None) → OutsOf m n k w ts labels more →
      Sit m n S k v ts labels (i ∷ next) (operand_uses at slot count ++ more)
  calling {k} {w = w} {v = v} {next = next} {more = more} {S = S} i on tr e x meets keeps at slot count reads apart o =
      record {
        cont = λ placed p f z. of_cont p f (met i on (tr next) e x meets placed z);
        given = λ placed f z. of_given f (met i on (tr next) e x meets placed z);
        outs = outs_takes more at slot count (outs_kept m n keeps o);
      }
    where
      of_cont : (p : Phase) → Off p (AmongRegisters n S) → ((p ≡ Passed) × AmongRegisters n i.args) ⊎ Told p w more → Told p v (operand_uses at slot count ++ more)
      of_cont p f (inr t) = through_takes m n p at slot count (grown p w v keeps t)
      of_cont Passed f (inl a) = used_by more at slot count (reads a.1 f)
      of_cont Early f (inl a) = absurd (ne a.0)
        where
          ne : Early ≡ Passed → ⊥
          ne e = cc
      of_cont Bound f (inl a) = absurd (ne a.0)
        where
          ne : Bound ≡ Passed → ⊥
          ne e = cc

      of_given : Written n S → ((Bound ≡ Passed) × AmongRegisters n i.args) ⊎ Told Bound w more → Told Early v (operand_uses at slot count ++ more)
      of_given f (inr t) = absurd (bound_none w (apart (written_among f)) t)
      of_given f (inl a) = absurd (ne a.0)
        where
          ne : Bound ≡ Passed → ⊥
          ne e = cc

  -- one that leaves the function, or raises in it
  pub leaving : {k : ℕ} {ts : List ℕ} {labels : List Label} {w v : Option ℕ} {next : List Instr} {more : List Task} {S : List Reg} (i : Instr) →
      targets i.op ≡ [] → passes_frame i.op ≡ false → tries_at (i ∷ next) ≡ tries_at next → Kept w v → (at slot count : ℕ) →
      (AmongRegisters n i.args → (AmongRegisters n S → ⊥) → Stood v slot count) →
      (AmongRegisters n S → w ≡ None) → (may_raise i.op ≡ true → (h : List Task) → behind_raise more ≡ Some h → (p : Phase) → Told p w h → Told p w more) →
      OutsOf m n k w ts labels more → Sit m n S k v ts labels (i ∷ next) (operand_uses at slot count ++ more)
  leaving {k} {ts} {w = w} {v = v} {next = next} {more = more} {S = S} i on pf tr keeps at slot count reads apart flying o =
      record {
        cont = λ placed p f z. of_cont p f (left placed (leaves on pf z));
        given = λ placed f z. of_given f (left placed (leaves on pf z));
        outs = outs_takes more at slot count (outs_kept m n keeps o);
      }
    where
      left : {p : Phase} → Placed m ts (i ∷ next) → Leaving m n k i next p → ((p ≡ Passed) × AmongRegisters n i.args) ⊎ Told p w more
      left placed (read_last a) = inl (refl, a)
      left placed (flew_off {p = p} {l = l} {tries = tries} mr t y) = let r =
          raised_at m n l tries o.raised (sym placed.caught ∙ t) in inr (flying mr r.0 r.1 p (r.2 p y))

      of_cont : (p : Phase) → Off p (AmongRegisters n S) → ((p ≡ Passed) × AmongRegisters n i.args) ⊎ Told p w more → Told p v (operand_uses at slot count ++ more)
      of_cont p f (inr t) = through_takes m n p at slot count (grown p w v keeps t)
      of_cont Passed f (inl a) = used_by more at slot count (reads a.1 f)
      of_cont Early f (inl a) = absurd (ne a.0)
        where
          ne : Early ≡ Passed → ⊥
          ne e = cc
      of_cont Bound f (inl a) = absurd (ne a.0)
        where
          ne : Bound ≡ Passed → ⊥
          ne e = cc

      of_given : Written n S → ((Bound ≡ Passed) × AmongRegisters n i.args) ⊎ Told Bound w more → Told Early v (operand_uses at slot count ++ more)
      of_given f (inr t) = absurd (bound_none w (apart (written_among f)) t)
      of_given f (inl a) = absurd (ne a.0)
        where
          ne : Bound ≡ Passed → ⊥
          ne e = cc
