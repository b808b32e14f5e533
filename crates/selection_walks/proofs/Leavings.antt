-- New blocks; raises and exits, and the parameters of handlers.
use Rattle.std.proofs.Common.{◌≡◌, ℕ, suc, ◌+◌, ◌*◌, ◌<◌, ◌≤◌, Bool, true, false, cond, not, inl, inr, ⊎_elim, List, [], ◌∷◌, ◌++◌, Option, Some, None, refl, sym, ap, ◌∙◌, subst, arith}
use Rattle.std.specs.Prelude.{length, nat_eq, bytes_eq}
use Rattle.std.proofs.lemmas.Bool.{true≢false, cases_Bool, eqb-true}
use Rattle.std.proofs.lemmas.Slice.Eq.{bytes_eq-Decides}
use Rattle.bs_words.specs.Fits.{type_of_comp}
use Rattle.bs_words.specs.declared.types.Chunk.{Chunk}
use Rattle.bs_words.specs.declared.types.Chunk.TheVariants as chunk
use Rattle.bs_words.specs.declared.types.Comp.TheVariants as comp
use Rattle.bs_words.proofs.Truths.{bool_same}
use Rattle.bs_fault.specs.Reported.{Faultless, here as one_here}
use Rattle.cmm_tree.specs.Tree.{LabelTree, Named as named, Bare, Done, Again, same_label, Parameter}
use Rattle.cmm_types.specs.Standing.{Visible, handler_of}
use Rattle.cmm_types.specs.Gathered.{exit_faults}
use Rattle.walk_tables.specs.Walks.{Binds, Passes, Task, Does, Raises, Exits, Slotted, operand_uses, behind_exit, parameters_bound, with_slots}
use Rattle.walk_tables.specs.Walks as walk
use Rattle.mach_ir.specs.Acts.{Target, At}
use Rattle.mach_ir.specs.Meaning.{code_at}
use Rattle.mach_ir.specs.Walks.{AmongRegisters, first, later, OneOf, this, other}
use Rattle.mach_ir.specs.declared.blocks.NewBlock.{NewBlock}
use Rattle.mach_ir.specs.declared.mach.Instr.{Instr}
use Rattle.mach_ir.specs.declared.mach.Mach.{Mach}
use Rattle.mach_ir.specs.declared.mach.Mark.TheVariants as mark
use Rattle.mach_ir.specs.declared.reg.Reg.{Reg}
use Rattle.selection_rules.specs.Instructions as emit
use Rattle.selection_rules.specs.Instructions.{bare_mark}
use Rattle.selection_rules.specs.Select.{NamedRegister, Label, visible_label, params_from, with_params, cell_stores}
use Rattle.selection_rules.proofs.Parts.{Placed, placed_next}
use Rattle.selection_walks.proofs.Phases.{Phase, Early, Bound, Passed, Off, Written, here, there, Addresses, Ahead, read_here, kept_on, wrote_it, Onward, simply, crossed, flew, onward, Marked, read_there, moved_on, marked, Told, skipped, held, past, quietly, any_early, Kept, kept_same, grown, apart_binds, apart_passes}
use Rattle.selection_walks.proofs.Situations.{hold, holds, Low, hold_same, hold_other, hold_kept, low_none, Paired, pair, paired_more, Seen, unseen, seen, Landing, OutsOf, outs_kept, Sit, sit, go, no_among, no_written, one_number, through_takes, address_of, same_or}
use Rattle.selection_walks.proofs.Operands.{Row, Stood}
use Rattle.selection_walks.proofs.Finals.{IsPlain, apart_sit, mute_sit, used_by, outs_takes, move_sit, leaving}
use Rattle.std.proofs.lemmas.Option.{same_Some}

val_address : comp.Val ≡ comp.Addr → ⊥
val_address e = cc

int_address : comp.Int ≡ comp.Addr → ⊥
int_address e = cc

-- ---- labels

pub label_turned : (a b : LabelTree) → same_label a b ≡ same_label b a
label_turned (named x) (named y) =
    bool_same (bytes_eq x y) (bytes_eq y x) (λ e. (bytes_eq-Decides y x).1 (sym ((bytes_eq-Decides x y).0 e)))
    (λ e. (bytes_eq-Decides x y).1 (sym ((bytes_eq-Decides y x).0 e)))
label_turned (named x) Bare = refl
label_turned (named x) Done = refl
label_turned (named x) Again = refl
label_turned Bare (named y) = refl
label_turned Bare Bare = refl
label_turned Bare Done = refl
label_turned Bare Again = refl
label_turned Done (named y) = refl
label_turned Done Bare = refl
label_turned Done Done = refl
label_turned Done Again = refl
label_turned Again (named y) = refl
label_turned Again Bare = refl
label_turned Again Done = refl
label_turned Again Again = refl

pub data LabelSeen : Option Label → Option Visible → Type 0 where
  not_seen : LabelSeen None None
  is_seen : {t : Label} {v : Visible} → length t.params ≡ v.parameters → LabelSeen (Some t) (Some v)

pub label_seen : {labels : List Label} {vis : List Visible} (label : LabelTree) → Seen labels vis → LabelSeen (visible_label labels label) (handler_of vis label)
label_seen label unseen = not_seen
label_seen label (seen {t = t} {v = v} {labels = labels} {vis = vis} e l s) =
    subst (λ b. LabelSeen (visible_label (t ∷ labels) label) (cond b (Some v) (handler_of vis label)))
    (label_turned label t.label ∙ ap (λ x. same_label x label) e) (by (same_label label t.label) (label_seen label s))
  where
    by : (b : Bool) {o : Option Label} {u : Option Visible} → LabelSeen o u → LabelSeen (cond b (Some t) o) (cond b (Some v) u)
    by true x = is_seen l
    by false x = x

-- the handler of an exit, with as many parameters
pub record ExitTo (labels : List Label) (label : LabelTree) (count : ℕ) : Type 0 where
  pub t : Label
  pub is : visible_label labels label ≡ Some t
  pub arity : length t.params ≡ count

pub exit_seen : {labels : List Label} {vis : List Visible} (label : LabelTree) (at label_at count : ℕ) → Seen labels vis →
    Faultless (exit_faults (handler_of vis label) at label_at count) → ExitTo labels label count
exit_seen {labels} {vis} label at label_at count s f = by (visible_label labels label) (handler_of vis label) refl (label_seen label s) f
  where
    same : (a : ℕ) (u : Visible) → Faultless (Rattle.bs_fault.specs.Reported.one_if (not (nat_eq u.parameters count))
        (Rattle.bs_fault.specs.declared.fault.Fault.TheVariants.Arity at)) → u.parameters ≡ count
    same a u f = ⊎_elim (λ e. eqb-true u.parameters count e) (λ e. absurd
        (subst (λ b. Faultless
        (Rattle.bs_fault.specs.Reported.one_if (not b) (Rattle.bs_fault.specs.declared.fault.Fault.TheVariants.Arity at))) e f _ one_here))
        (cases_Bool (nat_eq u.parameters count))

    by : (o : Option Label) (u : Option Visible) → visible_label labels label ≡ o → LabelSeen o u → Faultless (exit_faults u at label_at count) →
        ExitTo labels label count
    by None None e not_seen f = absurd (f _ one_here)
    by None (Some v) e x f = elim x [ ]
    by (Some t) None e x f = elim x [ ]
    by (Some t) (Some v) e (is_seen l) f = record { t = t; is = e; arity = l ∙ same 0 v f }

-- ---- parameters

pub holds_apart : {n : ℕ} (rs : List Reg) (s : ℕ) (w : Option ℕ) → (AmongRegisters n rs → ⊥) → holds n rs s w ≡ w
holds_apart [] s w f = refl
holds_apart {n} (r ∷ rs) s w f = holds_apart rs (suc s) (hold n r.number s w) (λ a. f (later a)) ∙ hold_other n r.number s w (λ e. f (first (sym e)))

pub params_high : {n : ℕ} (b : ℕ) (ps : List Parameter) → AmongRegisters n (params_from b ps) → (b ≤ n) × (n < b + length ps)
params_high b [] a = elim a [ ]
params_high b (p ∷ ps) (first e) = (omega (arith, e), omega (arith, e))
params_high b (p ∷ ps) (later a) = let x = params_high (suc b) ps a in let l = x.0 in let u = x.1 in (omega (arith, l), omega (arith, u))

-- what the parameters hold, over what was held before
pub params_row : (n b slot : ℕ) (ps : List Parameter) → Row n b slot (length ps) (holds n (params_from b ps) slot)
params_row n b slot [] = Rattle.selection_walks.proofs.Operands.row_none n b slot
params_row n b slot (p ∷ ps) = Rattle.selection_walks.proofs.Operands.row_hold (params_row n (suc b) (suc slot) ps)

-- the bindings of parameters leave lower slots as they are
pub past_params : {p : Phase} {w : Option ℕ} {tasks : List Task} (slot : ℕ) (ps : List Parameter) → ((s : ℕ) → w ≡ Some s → s < slot) → Told p w tasks →
    Told p w (parameters_bound slot ps ++ tasks)
past_params slot [] low t = t
past_params {p} {w} slot (q ∷ ps) low t = skipped (apart_binds p w slot _ _ (λ s e z. let l = low s e in omega (arith, l, z))) (past_params (suc slot) ps
    (λ s e. let l = low s e in omega (arith, l)) t)

early_params : {w : Option ℕ} {tasks : List Task} (slot : ℕ) (ps : List Parameter) → Told Early w tasks → Told Early w (parameters_bound slot ps ++ tasks)
early_params slot [] t = t
early_params slot (q ∷ ps) t = skipped tt (early_params (suc slot) ps t)

-- one that is written is bound to its slot
pub params_early : {n : ℕ} {tasks : List Task} (v w : Option ℕ) (b slot : ℕ) (ps : List Parameter) → Written n (params_from b ps) →
    Told Bound (holds n (params_from b ps) slot w) tasks → Told Early v (parameters_bound slot ps ++ tasks)
params_early v w b slot [] z t = elim z [ ]
params_early {n} {tasks} v w b slot (p ∷ ps) (here e a) t =
    subst (λ x. Told Early v (Does (Binds slot x p.at) ∷ (parameters_bound (suc slot) ps ++ tasks))) (sym (address_of (type_of_comp p.comp) a))
    (held (past_params (suc slot) ps (λ s q. let i = same_Some slot s q in omega (arith, i))
    (subst (λ o. Told Bound o tasks)
    (holds_apart (params_from (suc b) ps) (suc slot) (hold n b slot w) (λ i. let x = params_high (suc b) ps i in let l = x.0 in omega (arith, l, e)) ∙
    hold_same n b slot w (sym e)) t)))
params_early {n} v w b slot (p ∷ ps) (there z) t = skipped tt (params_early v (hold n b slot w) (suc b) (suc slot) ps z t)

module _ (m : Mach) (n : ℕ) where
  -- the parameters are in scope, in their registers and their slots
  pub params_paired : (ps : List Parameter) (b slot : ℕ) (w : Option ℕ) (env : List NamedRegister) (scope : List Slotted) → Low n w b slot → Paired n w slot env scope →
      Paired n (holds n (params_from b ps) slot w) (slot + length ps) (with_params ps (params_from b ps) env) (with_slots slot ps scope)
  params_paired [] b slot w env scope low x = paired_more (omega arith) kept_same (λ s e. inl e) x
  params_paired (p ∷ ps) b slot w env scope low x =
      paired_more (omega arith) kept_same (λ s e. inl e)
      (params_paired ps (suc b) (suc slot) (hold n b slot w) _ _ (Rattle.selection_walks.proofs.Operands.hold_next low)
      (pair refl (omega arith) (λ e. hold_same n b slot w (sym e)) (λ e. back (hold_back e)) refl
      (paired_more (omega arith) (hold_kept slot (λ e. low_none low (omega (arith, e))))
      (λ s e. ⊎_elim (λ q. inr (let i = same_Some slot s (sym (hold_same n b slot w q) ∙ e) in omega (arith, i)))
      (λ q. inl (sym (hold_other n b slot w q) ∙ e)) (same_or n b)) x)))
    where
      back : n ≡ b → b ≡ n
      back e = sym e

      hold_back : hold n b slot w ≡ Some slot → n ≡ b
      hold_back e = ⊎_elim (λ q. q) (λ q. let z = low slot (sym (hold_other n b slot w q) ∙ e) in let l = z.1 in absurd (omega (arith, l))) (same_or n b)

  -- ---- exits

  exit_told : {k : ℕ} {w : Option ℕ} {tasks : List Task} (label : LabelTree) (t : Label) (land : Landing m n k w t (behind_exit label tasks)) (p : Phase) →
      Off p (AmongRegisters n t.params) → Told p (holds n t.params land.slot land.base) land.rest → Told p w (Exits label ∷ tasks)
  exit_told {w = w} {tasks = tasks} label t land p f x = grown p land.base w land.keeps (quietly (walk.exits label tasks _ land.leads) (by p f x))
    where
      by : (p : Phase) → Off p (AmongRegisters n t.params) → Told p (holds n t.params land.slot land.base) land.rest →
          Told p land.base (parameters_bound land.slot land.params ++ land.rest)
      by Early f x = early_params land.slot land.params (any_early x)
      by Bound f x = past_params land.slot land.params land.vacant (subst (λ o. Told Bound o land.rest) (holds_apart t.params land.slot land.base f) x)
      by Passed f x = past_params land.slot land.params land.vacant (subst (λ o. Told Passed o land.rest) (holds_apart t.params land.slot land.base f) x)

  exit_written : {k : ℕ} {w : Option ℕ} {tasks : List Task} (label : LabelTree) (t : Label) (land : Landing m n k w t (behind_exit label tasks)) →
      Written n t.params → Told Bound (holds n t.params land.slot land.base) land.rest → Told Early w (Exits label ∷ tasks)
  exit_written {w = w} {tasks = tasks} label t land z x =
      quietly (walk.exits label tasks _ land.leads)
      (params_early w land.base land.number land.slot land.params (subst (Written n) land.regs z)
      (subst (λ rs. Told Bound (holds n rs land.slot land.base) land.rest) land.regs x))

  exit_at : (u : Target) (l : ℕ) → OneOf u (At l ∷ []) → u ≡ At l
  exit_at u l this = refl
  exit_at u l (other o) = elim o [ ]

  pub exit_sit : {k : ℕ} {ts : List ℕ} {labels : List Label} {w : Option ℕ} {next : List Instr} {tasks : List Task} (label : LabelTree) (t : Label) →
      visible_label labels label ≡ Some t → OutsOf m n k w ts labels tasks →
      Sit m n t.params k w ts labels (bare_mark (mark.Exit t.number t.tries) ∷ next) (Exits label ∷ tasks)
  exit_sit {k} {ts} {labels} {w} {next} {tasks} label t e o =
      record {
        cont = λ placed p f z. of_cont k p (o.exits label t e) f (marked refl refl refl z);
        given = λ placed f z. of_given k (o.exits label t e) f (marked refl refl refl z);
        outs = o;
      }
    where
      of_cont : (k : ℕ) (p : Phase) → Landing m n k w t (behind_exit label tasks) → Off p (AmongRegisters n t.params) →
          Marked m n (bare_mark (mark.Exit t.number t.tries)) next k p → Told p w (Exits label ∷ tasks)
      of_cont k p land f (read_there a) = absurd (no_among m n a)
      of_cont k p land f (moved_on {k = j} u q y) = exit_told label t land p f (land.lands j (omega arith) p
          (subst (λ v. Ahead m n j p (code_at m.code next v)) (exit_at u t.number q) y))

      of_given : (k : ℕ) → Landing m n k w t (behind_exit label tasks) → Written n t.params → Marked m n (bare_mark (mark.Exit t.number t.tries)) next k Bound →
          Told Early w (Exits label ∷ tasks)
      of_given k land f (moved_on {k = j} u q y) = exit_written label t land f (land.lands j (omega arith) Bound
          (subst (λ v. Ahead m n j Bound (code_at m.code next v)) (exit_at u t.number q) y))

  -- where more is held, as operands are
  pub takes_sit : {D : List Reg} {k : ℕ} {ts : List ℕ} {labels : List Label} {w v : Option ℕ} {next : List Instr} {tasks : List Task} (at slot count : ℕ) →
      Kept w v → Sit m n D k w ts labels next tasks → Sit m n D k v ts labels next (operand_uses at slot count ++ tasks)
  takes_sit {w = w} {v = v} {tasks = tasks} at slot count keeps x =
      record {
        cont = λ placed p f z. through_takes m n p at slot count (grown p w v keeps (x.cont placed p f z));
        given = λ placed f z. through_takes m n Early at slot count (any_early (x.given placed f z));
        outs = outs_takes m n tasks at slot count (outs_kept m n keeps x.outs);
      }

  -- ---- blocks

  mute_store : (k : Chunk) (offset : ℕ) (p q : Reg) → IsPlain (emit.store k offset p q)
  mute_store k offset p q = record { on = refl; calm = refl; inside = refl; tries = λ next. refl }

  pub plain_constant : (c : ℕ) (q : Reg) → IsPlain (emit.constant c q)
  plain_constant c q = record { on = refl; calm = refl; inside = refl; tries = λ next. refl }

  among_two : {r q : Reg} {Q : Type 0} → (n ≡ r.number → Q) → (n ≡ q.number → Q) → AmongRegisters n (r ∷ q ∷ []) → Q
  among_two f g (first e) = f (sym e)
  among_two f g (later i) = g (one_number m n i)

  pub cells_sit : {k : ℕ} {ts : List ℕ} {labels : List Label} {v : Option ℕ} {next : List Instr} {tasks : List Task} (c : Chunk) (p : Reg) (i : ℕ)
      (rs : List Reg) → (n ≡ p.number → ⊥) → (AmongRegisters n rs → Told Passed v tasks) → Sit m n [] k v ts labels next tasks →
      Sit m n [] k v ts labels (cell_stores c p i rs next) tasks
  cells_sit c p i [] away reads x = x
  cells_sit c p i (r ∷ rs) away reads x = mute_sit m n _ (mute_store c (8 * i) p r) refl (λ a. among_two (λ e. absurd (away e)) (λ e. reads (first (sym e))) a)
      (cells_sit c p (suc i) rs away (λ a. reads (later a)) x)

  pub header_sit : {k : ℕ} {ts : List ℕ} {labels : List Label} {v : Option ℕ} {next : List Instr} {tasks : List Task} (header offset : ℕ) (p q : Reg) →
      (n ≡ p.number → ⊥) → q.comp ≡ comp.Int → Sit m n [] k v ts labels next tasks →
      Sit m n [] k v ts labels (emit.constant header q ∷ emit.store chunk.Int offset p q ∷ next) tasks
  header_sit header offset p q away kind x =
      apart_sit m n q _ (plain_constant header q) refl (λ e. int_address (sym kind ∙ e)) (λ a. absurd (no_among m n a)) x.outs
      (λ apart. mute_sit m n _ (mute_store chunk.Int offset p q) refl (λ a. among_two (λ e. absurd (away e)) (λ e. absurd (apart e)) a) x)

  pub alloc_sit : {k : ℕ} {ts : List ℕ} {labels : List Label} {v : Option ℕ} {next : List Instr} {tasks : List Task} (at : ℕ) (block : NewBlock) (p : Reg) →
      p.comp ≡ comp.Val → OutsOf m n k v ts labels tasks → ((n ≡ p.number → ⊥) → Sit m n [] k v ts labels next tasks) →
      Sit m n [] k v ts labels (emit.alloc block p ∷ next) (Does (Passes at) ∷ tasks)
  alloc_sit {k} {ts} {labels} {v} {next} {tasks} at block r kind o f = sit m n (λ placed p z. by (placed_next refl placed) (onward refl z)) o
    where
      away : Addresses n (r ∷ []) → n ≡ r.number → ⊥
      away a e = val_address (sym kind ∙ a.0 (sym e))

      no : Written n (r ∷ []) → ⊥
      no (here e a) = val_address (sym kind ∙ a)
      no (there i) = no_written m n i

      by : {p : Phase} → Placed m ts next → Onward m n k (emit.alloc block r) next p → Told p v (Does (Passes at) ∷ tasks)
      by placed (simply (read_here a)) = absurd (no_among m n a)
      by placed (simply (kept_on {p = p} a u z)) = skipped (apart_passes p v at) (go m n (f (away a)) placed p z)
      by placed (simply (wrote_it a z)) = absurd (no a)
      by placed (crossed e g z) = past (go m n (f (λ q. g (first (sym q)))) placed Passed z)
      by placed (flew e t g z) = absurd (true≢false (sym e))

  -- ---- raises

  pub raise_sit : {k : ℕ} {ts : List ℕ} {labels : List Label} {w v : Option ℕ} {next : List Instr} {tasks : List Task} (at slot : ℕ) (x y : Reg) → Kept w v →
      (n ≡ x.number → Stood v slot 1) → (n ≡ y.number → w ≡ None) → OutsOf m n k w ts labels tasks →
      Sit m n [] k v ts labels (emit.move x y ∷ emit.raising y ∷ next) (operand_uses at slot 1 ++ (Raises ∷ tasks))
  raise_sit {w = w} {tasks = tasks} at slot x y keeps stands high o =
      move_sit m n x y
      (leaving m n (emit.raising y) refl refl refl keeps at slot 1 (λ a f. absurd (f a)) (λ a. high (one_number m n a))
      (λ e h q p t. quietly (walk.raises tasks h q) t) o)
      (λ e. used_by m n (Raises ∷ tasks) at slot 1 (stands e))
