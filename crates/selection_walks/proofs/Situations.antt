-- What is known of code and of the tasks that it stands for: the register that is followed, and the slot where its
-- value is in the text.
use Rattle.std.proofs.Common.{◌≡◌, ℕ, zero, suc, ◌+◌, ◌<◌, ◌≤◌, Bool, true, false, cond, ◌⊎◌, inl, inr, ⊎_elim, List, [], ◌∷◌, ◌++◌, Option, Some, None, option_map, refl, sym, ap, ◌∙◌, subst, arith}
use Rattle.std.specs.Prelude.{length, nat_eq, bytes_eq}
use Rattle.std.proofs.lemmas.Bool.{true≢false, cases_Bool, eq-eqb, eqb-true}
use Rattle.bs_words.specs.declared.types.Comp.TheVariants as comp
use Rattle.bs_words.specs.declared.types.Ty.{Ty}
use Rattle.bs_words.specs.declared.types.Ty.TheVariants as ty
use Rattle.cmm_tree.specs.Tree.{LabelTree, Parameter}
use Rattle.cmm_types.specs.Types.{Scoped, binding_of, type_bound_by, type_named, is_address}
use Rattle.cmm_types.specs.Standing.{Visible}
use Rattle.walk_tables.specs.Walks.{Binds, Task, Does, Slotted, slotted_as, slot_of, names, behind_raise, behind_exit, parameters_bound, operand_uses}
use Rattle.walk_tables.specs.Walks as walk
use Rattle.mach_ir.specs.Meaning.{after_label, from_handler}
use Rattle.mach_ir.specs.Walks.{AmongRegisters, first, later}
use Rattle.mach_ir.specs.declared.mach.Instr.{Instr}
use Rattle.mach_ir.specs.declared.mach.Mach.{Mach}
use Rattle.mach_ir.specs.declared.reg.Reg.{Reg}
use Rattle.selection_rules.specs.Select.{NamedRegister, Label, scopes, comp_of_type, reg_of, visible_label, inner_dest, params_from}
use Rattle.selection_rules.proofs.Parts.{Placed}
use Rattle.selection_walks.proofs.Phases.{Phase, Early, Bound, Passed, Off, off, off_less, Written, here, there, Ahead, more_steps, Past, read_here, kept_on, wrote_it, Told, used, skipped, held, quietly, any_early, Kept, kept_then, grown, bound_none, written_among, apart_binds, apart_uses}
use Rattle.std.proofs.lemmas.Option.{none-some, same_Some}

-- ---- the slot of the register

-- a value is put into the register of this number, and bound to this slot
abbrev pub hold : ℕ → ℕ → ℕ → Option ℕ → Option ℕ
hold n x s w = cond (nat_eq x n) (Some s) w

-- the same for all of these, in slots from this one on
abbrev pub holds : ℕ → List Reg → ℕ → Option ℕ → Option ℕ
holds n [] s w = w
holds n (r ∷ rs) s w = holds n rs (suc s) (hold n r.number s w)

-- what the registers below a number hold is in the slots below another
abbrev pub Low : ℕ → Option ℕ → ℕ → ℕ → Type 0
Low n w b slot = (s : ℕ) → w ≡ Some s → (n < b) × (s < slot)

pub hold_same : (n x s : ℕ) (w : Option ℕ) → n ≡ x → hold n x s w ≡ Some s
hold_same n x s w e = ap (λ b. cond b (Some s) w) (eq-eqb x n (sym e))

pub hold_other : (n x s : ℕ) (w : Option ℕ) → (n ≡ x → ⊥) → hold n x s w ≡ w
hold_other n x s w f = ⊎_elim (λ e. absurd (f (sym (eqb-true x n e)))) (λ e. ap (λ b. cond b (Some s) w) e) (cases_Bool (nat_eq x n))

pub same_or : (n x : ℕ) → (n ≡ x) ⊎ (n ≡ x → ⊥)
same_or n x = ⊎_elim (λ e. inl (sym (eqb-true x n e))) (λ e. inr (λ q. true≢false (sym (eq-eqb x n (sym q)) ∙ e))) (cases_Bool (nat_eq x n))

pub none_some : (a : ℕ) {Q : Type 0} → None ≡ Some a → Q
none_some a e = absurd (none-some a e)

pub low_none : {n : ℕ} {w : Option ℕ} {b slot : ℕ} → Low n w b slot → b ≤ n → w ≡ None
low_none {w = None} l le = refl
low_none {w = Some s} l le = let q = l s refl in let a = q.0 in absurd (omega (arith, a, le))

pub low_more : {n : ℕ} {w : Option ℕ} {b slot c free : ℕ} → b ≤ c → slot ≤ free → Low n w b slot → Low n w c free
low_more le ls l s e = let q = l s e in let a = q.0 in let z = q.1 in (omega (arith, a, le), omega (arith, z, ls))

pub hold_low : {n x s : ℕ} {w : Option ℕ} {b slot : ℕ} → x < b → s < slot → Low n w b slot → Low n (hold n x s w) b slot
hold_low {n} {x} {s} {w} {b} {slot} lx ls l t e = ⊎_elim same (λ f. l t (sym (hold_other n x s w f) ∙ e)) (same_or n x)
  where
    same : n ≡ x → (n < b) × (t < slot)
    same q = let k = same_Some s t (sym (hold_same n x s w q) ∙ e) in (omega (arith, q, lx), omega (arith, k, ls))

pub hold_kept : {n x : ℕ} (s : ℕ) {w : Option ℕ} → (n ≡ x → w ≡ None) → Kept w (hold n x s w)
hold_kept {n} {x} s {w} f t e = ⊎_elim (λ q. none_some t (sym (f q) ∙ e)) (λ q. hold_other n x s w q ∙ e) (same_or n x)

pub address_of : (t : Ty) → comp_of_type t ≡ comp.Addr → is_address t ≡ true
address_of ty.Addr e = refl
address_of ty.Val e = cc
address_of ty.Int e = cc
address_of ty.NoValue e = cc
address_of ty.Never e = cc

-- ---- names

-- The names in scope, with their registers and their slots: the register that is followed is that of a name just where
-- its slot is.
pub data Paired (n : ℕ) (w : Option ℕ) (bound : ℕ) : List NamedRegister → List Slotted → Type 0 where
  none : Paired n w bound [] []
  pair : {x : NamedRegister} {z : Slotted} {env : List NamedRegister} {scope : List Slotted} → z.scoped ≡ x.scoped → z.slot < bound → (x.reg.number ≡ n → w ≡ Some z.slot) →
      (w ≡ Some z.slot → x.reg.number ≡ n) → x.reg.comp ≡ comp_of_type x.scoped.type →
      Paired n w bound env scope → Paired n w bound (x ∷ env) (z ∷ scope)

pub paired_names : {n : ℕ} {w : Option ℕ} {bound : ℕ} {env : List NamedRegister} {scope : List Slotted} → Paired n w bound env scope → names scope ≡ scopes env
paired_names none = refl
paired_names (pair {x = x} {env = env} {scope = scope} e l p q c r) = ap (λ y. y ∷ names scope) e ∙ ap (λ ys. x.scoped ∷ ys) (paired_names r)

-- what else is bound is in other slots
pub paired_more : {n : ℕ} {w v : Option ℕ} {bound free : ℕ} {env : List NamedRegister} {scope : List Slotted} → bound ≤ free → Kept w v →
    ((s : ℕ) → v ≡ Some s → (w ≡ Some s) ⊎ (bound ≤ s)) → Paired n w bound env scope → Paired n v free env scope
paired_more le k f none = none
paired_more {n} {w} {v} {bound} {free} le k f (pair {z = z} e l p q c r) =
    pair e (omega (arith, l, le)) (λ h. k z.slot (p h)) (λ h. ⊎_elim q (λ high. absurd (omega (arith, high, l))) (f z.slot h)) c (paired_more le k f r)

-- a name that is looked up
pub data Looked (n : ℕ) (w : Option ℕ) (t : Ty) : Option Reg → Option ℕ → Option Scoped → Type 0 where
  nowhere : Looked n w t None None None
  found : {r : Reg} {k : ℕ} {x : Scoped} → (r.number ≡ n → w ≡ Some k) → (w ≡ Some k → r.number ≡ n) → r.comp ≡ comp_of_type t →
      Looked n w t (Some r) (Some k) (Some x)

pub looked : {n : ℕ} {w : Option ℕ} {bound : ℕ} {env : List NamedRegister} {scope : List Slotted} (x : List ℕ) → Paired n w bound env scope →
    Looked n w (type_named (scopes env) x) (reg_of env x) (slot_of scope x) (binding_of (scopes env) x)
looked x none = nowhere
looked {n} {w} x (pair {x = y} {z = z} {env = env} {scope = scope} e l p q c r) =
    subst (λ b. Looked n w (type_named (y.scoped ∷ scopes env) x) (reg_of (y ∷ env) x) (option_map (λ (s : Slotted). s.slot) (cond b (Some z) (slotted_as scope x)))
    (binding_of (y.scoped ∷ scopes env) x)) (ap (λ (t : Scoped). bytes_eq t.name x) (sym e))
    (by (bytes_eq y.scoped.name x) (slotted_as scope x) (binding_of (scopes env) x) (looked x r))
  where
    by : (b : Bool) {o : Option Reg} (s : Option Slotted) (u : Option Scoped) → Looked n w (type_bound_by u) o (option_map (λ (t : Slotted). t.slot) s) u →
        Looked n w (type_bound_by (cond b (Some y.scoped) u)) (cond b (Some y.reg) o) (option_map (λ (t : Slotted). t.slot) (cond b (Some z) s))
        (cond b (Some y.scoped) u)
    by true s u h = found p q c
    by false s u h = h

-- ---- labels

-- the handlers in scope are those that the checks of the front see
pub data Seen : List Label → List Visible → Type 0 where
  unseen : Seen [] []
  seen : {t : Label} {v : Visible} {labels : List Label} {vis : List Visible} → t.label ≡ v.label → length t.params ≡ v.parameters → Seen labels vis →
      Seen (t ∷ labels) (v ∷ vis)

-- ---- what is known

module _ (m : Mach) (n : ℕ) where
  -- where a raise leads
  pub data Raising (k : ℕ) (w : Option ℕ) : List ℕ → Option (List Task) → Type 0 where
    untried : {handler : Option (List Task)} → Raising k w [] handler
    tried : {l : ℕ} {tries : List ℕ} {handler : Option (List Task)} (h : List Task) → handler ≡ Some h →
        ((p : Phase) → Ahead m n k p (from_handler l m.code) → Told p w h) → Raising k w (l ∷ tries) handler

  -- where an exit leads, which is a step
  pub record Landing (k : ℕ) (w : Option ℕ) (t : Label) (handler : Option (List Task)) : Type 0 where
    pub slot : ℕ
    pub number : ℕ
    pub params : List Parameter
    pub base : Option ℕ
    pub rest : List Task
    pub regs : t.params ≡ params_from number params
    pub vacant : (s : ℕ) → base ≡ Some s → s < slot
    pub keeps : Kept base w
    pub leads : handler ≡ Some (parameters_bound slot params ++ rest)
    pub lands : (j : ℕ) → j < k → (p : Phase) → Ahead m n j p (after_label t.number m.code) → Told p (holds n t.params slot base) rest

  pub record Outs (k : ℕ) (w : Option ℕ) (ts : List ℕ) (labels : List Label) (handler : Option (List Task))
      (handlers : LabelTree → Option (List Task)) : Type 0 where
    pub raised : Raising k w ts handler
    pub exits : (label : LabelTree) (t : Label) → visible_label labels label ≡ Some t → Landing k w t (handlers label)

  abbrev pub OutsOf : ℕ → Option ℕ → List ℕ → List Label → List Task → Type 0
  OutsOf k w ts labels tasks = Outs k w ts labels (behind_raise tasks) (λ label. behind_exit label tasks)

  -- What is ahead at the code is ahead before the tasks: from every phase, but for what should have been written into
  -- these registers, and where it has just been written into one of them.
  pub record Sit (D : List Reg) (k : ℕ) (w : Option ℕ) (ts : List ℕ) (labels : List Label) (next : List Instr) (tasks : List Task) : Type 0 where
    pub cont : Placed m ts next → (p : Phase) → Off p (AmongRegisters n D) → Ahead m n k p next → Told p w tasks
    pub given : Placed m ts next → Written n D → Ahead m n k Bound next → Told Early w tasks
    pub outs : OutsOf k w ts labels tasks

  pub no_among : AmongRegisters n [] → ⊥
  no_among a = elim a [ ]

  pub no_written : Written n [] → ⊥
  no_written a = elim a [ ]

  -- where a value is wanted it is in the register
  abbrev pub out : Bool → Reg → List Reg
  out true d = d ∷ []
  out false d = []

  abbrev pub Wanted : Bool → Ty → Type 0
  Wanted true t = t ≡ ty.NoValue → ⊥
  Wanted false t = Unit {0}

  abbrev pub ApartFrom : Reg → Option ℕ → Type 0
  ApartFrom d w = n ≡ d.number → w ≡ None

  pub raising_kept : {k : ℕ} {w v : Option ℕ} {ts : List ℕ} {h : Option (List Task)} → Kept w v → Raising k w ts h → Raising k v ts h
  raising_kept f untried = untried
  raising_kept {w = w} {v = v} f (tried h e r) = tried h e (λ p x. grown p w v f (r p x))

  pub outs_kept : {k : ℕ} {w v : Option ℕ} {ts : List ℕ} {labels : List Label} {h : Option (List Task)} {hs : LabelTree → Option (List Task)} → Kept w v →
      Outs k w ts labels h hs → Outs k v ts labels h hs
  outs_kept f o =
      record {
        raised = raising_kept f o.raised;
        exits = λ label t e. let x = o.exits label t e in
            record {
              slot = x.slot;
              number = x.number;
              params = x.params;
              base = x.base;
              rest = x.rest;
              regs = x.regs;
              vacant = x.vacant;
              keeps = kept_then x.keeps f;
              leads = x.leads;
              lands = x.lands;
            };
      }

  pub raised_at : {k : ℕ} {w : Option ℕ} {ts : List ℕ} {handler : Option (List Task)} (l : ℕ) (tries : List ℕ) → Raising k w ts handler → ts ≡ l ∷ tries →
      (h : List Task) × (handler ≡ Some h) × ((p : Phase) → Ahead m n k p (from_handler l m.code) → Told p w h)
  raised_at l tries untried e = absurd (ne e)
    where
      ne : {l : ℕ} {tries : List ℕ} → [] ≡ l ∷ tries → ⊥
      ne e = cc
  raised_at {k} l tries (tried {l = l'} {tries = us} h g r) e =
      (h, g, λ p y. r p (subst (λ a. Ahead m n k p (from_handler a m.code)) (sym (same l' l us tries e)) y))
    where
      same : (a b : ℕ) (cs bs : List ℕ) → a ∷ cs ≡ b ∷ bs → a ≡ b
      same a b cs bs e = cc

  pub raising_less : {k : ℕ} {w : Option ℕ} {ts : List ℕ} {h : Option (List Task)} → Raising (suc k) w ts h → Raising k w ts h
  raising_less untried = untried
  raising_less (tried h e r) = tried h e (λ p x. r p (more_steps x))

  pub outs_less : {k : ℕ} {w : Option ℕ} {ts : List ℕ} {labels : List Label} {h : Option (List Task)} {hs : LabelTree → Option (List Task)} →
      Outs (suc k) w ts labels h hs → Outs k w ts labels h hs
  outs_less o =
      record {
        raised = raising_less o.raised;
        exits = λ label t e. let x = o.exits label t e in
            record {
              slot = x.slot;
              number = x.number;
              params = x.params;
              base = x.base;
              rest = x.rest;
              regs = x.regs;
              vacant = x.vacant;
              keeps = x.keeps;
              leads = x.leads;
              lands = λ j l p y. x.lands j (omega (arith, l)) p y;
            };
      }

  pub sit_less : {D : List Reg} {k : ℕ} {w : Option ℕ} {ts : List ℕ} {labels : List Label} {next : List Instr} {tasks : List Task} →
      Sit D (suc k) w ts labels next tasks → Sit D k w ts labels next tasks
  sit_less x = record { cont = λ at p o y. x.cont at p o (more_steps y); given = λ at z y. x.given at z (more_steps y); outs = outs_less x.outs }

  -- a task that comes first, and does nothing to the slot
  pub quiet_sit : {D : List Reg} {k : ℕ} {w : Option ℕ} {ts : List ℕ} {labels : List Label} {next : List Instr} {left tasks : List Task} →
      walk.NextTasks tasks [] left → OutsOf k w ts labels tasks → Sit D k w ts labels next left → Sit D k w ts labels next tasks
  quiet_sit y o x = record { cont = λ at p f z. quietly y (x.cont at p f z); given = λ at f z. quietly y (x.given at f z); outs = o }

  -- a sit without exceptions
  pub sit : {k : ℕ} {w : Option ℕ} {ts : List ℕ} {labels : List Label} {next : List Instr} {tasks : List Task} →
      (Placed m ts next → (p : Phase) → Ahead m n k p next → Told p w tasks) → OutsOf k w ts labels tasks → Sit [] k w ts labels next tasks
  sit f o = record { cont = λ at p g x. f at p x; given = λ at z x. absurd (no_written z); outs = o }

  pub go : {k : ℕ} {w : Option ℕ} {ts : List ℕ} {labels : List Label} {next : List Instr} {tasks : List Task} → Sit [] k w ts labels next tasks →
      Placed m ts next → (p : Phase) → Ahead m n k p next → Told p w tasks
  go x at p y = x.cont at p (off p no_among) y

  -- where nothing is to be written, all is so
  pub weak : {k : ℕ} {w : Option ℕ} {ts : List ℕ} {labels : List Label} {next : List Instr} {tasks : List Task} (d : Reg) → Sit [] k w ts labels next tasks →
      ApartFrom d w → Sit (d ∷ []) k w ts labels next tasks
  weak {w = w} d x apart =
      record { cont = λ at p f y. go x at p y; given = λ at z y. absurd (bound_none w (apart (number z)) (go x at Bound y)); outs = x.outs }
    where
      number : Written n (d ∷ []) → n ≡ d.number
      number (here e a) = sym e
      number (there z) = absurd (no_written z)

  pub one_number : {d : Reg} → AmongRegisters n (d ∷ []) → n ≡ d.number
  one_number (first e) = sym e
  one_number (later i) = absurd (no_among i)

  -- an instruction writes the destination, and goes on
  pub finish : {k : ℕ} {w v : Option ℕ} {ts : List ℕ} {labels : List Label} {i : Instr} {next : List Instr} {tasks more : List Task} {p : Phase} (want : Bool)
      (d : Reg) → Sit (out want d) k w ts labels next tasks → ApartFrom d w → i.results ≡ d ∷ [] → Placed m ts next →
      (AmongRegisters n i.args → Told Passed v more) → ((p : Phase) → Told p w tasks → Told p v more) → Past m n k i next p → Told p v more
  finish want d x apart e at reads pre (read_here a) = reads a
  finish true d x apart e at reads pre (kept_on {p = p} a o y) = pre p (x.cont at p (off_less p (λ z. subst (AmongRegisters n) (sym e) z) o) y)
  finish false d x apart e at reads pre (kept_on {p = p} a o y) = pre p (go x at p y)
  finish true d x apart e at reads pre (wrote_it z y) = pre Early (x.given at (subst (Written n) e z) y)
  finish {w = w} false d x apart e at reads pre (wrote_it z y) =
      absurd (bound_none w (apart (one_number (written_among (subst (Written n) e z)))) (go x at Bound y))

  -- a node of no value has another destination
  pub inner : {k : ℕ} {w : Option ℕ} {ts : List ℕ} {labels : List Label} {next : List Instr} {tasks : List Task} (want : Bool) (T : Ty) (b : ℕ) (d : Reg) →
      Wanted want T → Sit (out want d) k w ts labels next tasks → Sit (out want (inner_dest T b d)) k w ts labels next tasks
  inner false T b d g x = x
  inner true ty.NoValue b d g x = absurd (g refl)
  inner true ty.Never b d g x = x
  inner true ty.Int b d g x = x
  inner true ty.Val b d g x = x
  inner true ty.Addr b d g x = x

  pub inner_apart : {w : Option ℕ} {slot : ℕ} (T : Ty) (b : ℕ) (d : Reg) → Low n w b slot → ApartFrom d w → ApartFrom (inner_dest T b d) w
  inner_apart ty.NoValue b d low f e = low_none low (omega (arith, e))
  inner_apart ty.Never b d low f e = f e
  inner_apart ty.Int b d low f e = f e
  inner_apart ty.Val b d low f e = f e
  inner_apart ty.Addr b d low f e = f e

  -- the value of an operand, or of a name, is bound
  pub binding : {k : ℕ} {ts : List ℕ} {labels : List Label} {w v : Option ℕ} {next : List Instr} {tasks : List Task} (x : Reg) (t : Ty) (slot at : ℕ) →
      x.comp ≡ comp_of_type t → ((s : ℕ) → w ≡ Some s → slot ≡ s → ⊥) → ((n ≡ x.number → ⊥) → v ≡ w) → (n ≡ x.number → v ≡ Some slot) → OutsOf k w ts labels tasks →
      Sit [] k v ts labels next tasks → Sit (x ∷ []) k w ts labels next (Does (Binds slot (is_address t) at) ∷ tasks)
  binding {k} {ts} {labels} {w} {v} {next} {tasks} x t slot at kind vacant others same outs y =
      record {
        cont = λ placed p f z. skipped (apart_binds p w slot (is_address t) at vacant) (of_cont p f (go y placed p z));
        given = λ placed f z. of_given f (go y placed Bound z);
        outs = outs;
      }
    where
      of_cont : (p : Phase) → Off p (AmongRegisters n (x ∷ [])) → Told p v tasks → Told p w tasks
      of_cont Early f z = any_early z
      of_cont Bound f z = subst (λ o. Told Bound o tasks) (others (λ e. f (first (sym e)))) z
      of_cont Passed f z = subst (λ o. Told Passed o tasks) (others (λ e. f (first (sym e)))) z

      of_given : Written n (x ∷ []) → Told Bound v tasks → Told Early w (Does (Binds slot (is_address t) at) ∷ tasks)
      of_given (here e a) z = subst (λ q. Told Early w (Does (Binds slot q at) ∷ tasks)) (sym (address_of t (sym kind ∙ a))) (held
          (subst (λ o. Told Bound o tasks) (same (sym e)) z))
      of_given (there i) z = absurd (no_written i)

  -- ---- uses

  pub through_takes : {w : Option ℕ} {tasks : List Task} (p : Phase) (at slot count : ℕ) → Told p w tasks → Told p w (operand_uses at slot count ++ tasks)
  through_takes p at slot zero x = x
  through_takes {w} p at slot (suc count) x = skipped (apart_uses p w slot at) (through_takes p at (suc slot) count x)

  pub taken : {w : Option ℕ} (tasks : List Task) (at slot count i : ℕ) → i < count → w ≡ Some (slot + i) → Told Passed w (operand_uses at slot count ++ tasks)
  taken {w} tasks at slot zero i l e = absurd (omega (arith, l))
  taken {w} tasks at slot (suc count) zero l e = let q : slot ≡ slot + zero =
      omega arith in subst (λ o. Told Passed o (operand_uses at slot (suc count) ++ tasks)) (sym e)
      (subst (λ s. Told Passed (Some s) (operand_uses at slot (suc count) ++ tasks)) q used)
  taken {w} tasks at slot (suc count) (suc i) l e = let q : slot + suc i ≡ suc slot + i =
      omega arith in skipped (apart_uses Passed w slot at) (taken tasks at (suc slot) count i (omega (arith, l)) (e ∙ ap Some q))
