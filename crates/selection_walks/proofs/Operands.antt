-- Operands, from right to left and the light addresses last: what is in their registers is in their slots.
use Rattle.std.proofs.Common.{◌≡◌, ℕ, zero, suc, ◌+◌, ◌<◌, ◌≤◌, Bool, true, false, cond, ◌⊎◌, inl, inr, ⊎_elim, List, [], ◌∷◌, ◌++◌, Option, Some, None, refl, sym, ap, ◌∙◌, subst, arith, append_assoc}
use Rattle.bs_words.specs.declared.types.Ty.{Ty}
use Rattle.bs_words.specs.declared.types.Ty.TheVariants as ty
use Rattle.bs_fault.specs.Reported.{Faultless, here, first}
use Rattle.cmm_tree.specs.Place.{place_of}
use Rattle.cmm_tree.specs.Symbols.{DefinedSymbol}
use Rattle.cmm_tree.specs.Tree.{LabelTree, Expression, Expressions, NoMore, More}
use Rattle.cmm_types.specs.Light.{is_light_address}
use Rattle.cmm_types.specs.Types.{Scoped, type_of, type_without_float, is_address}
use Rattle.selection_walks.proofs.Floats.{has_one}
use Rattle.cmm_types.specs.Standing.{Visible}
use Rattle.cmm_types.specs.Gathered.{faults_in, role_faults}
use Rattle.cmm_types.specs.declared.role.Role.{Role}
use Rattle.cmm_types.specs.declared.role.Role.TheVariants as role
use Rattle.walk_tables.specs.Walks.{Binds, Task, Does, Evaluates, Slotted, names, behind_raise, behind_exit, operand, tasks_of}
use Rattle.walk_tables.specs.Walks as walk
use Rattle.mach_ir.specs.Walks.{AmongRegisters, first, later}
use Rattle.mach_ir.specs.declared.mach.Instr.{Instr}
use Rattle.mach_ir.specs.declared.mach.Mach.{Mach}
use Rattle.mach_ir.specs.declared.reg.Reg.{Reg}
use Rattle.selection_rules.specs.Select.{NamedRegister, Label, scopes, fresh_register, regs_of, select, Code}
use Rattle.cmm_tree.specs.Measures.{count_of}
use Rattle.selection_laws.specs.Fits.{Fits}
use Rattle.selection_walks.proofs.Phases.{Told, skipped, quietly, Kept, kept_same, kept_then, apart_binds}
use Rattle.selection_walks.proofs.Situations.{hold, Low, hold_same, hold_other, hold_low, hold_kept, low_none, low_more, same_or, none_some, Paired, paired_names, paired_more, Seen, Raising, Landing, Outs, OutsOf, outs_kept, Sit, sit, go, quiet_sit, out, Wanted, ApartFrom, binding}
use Rattle.std.proofs.lemmas.Option.{same_Some}

-- what is taken has a value
abbrev pub Takes : Role → Type 0
Takes role.Taken = Unit {0}
Takes role.Outer = Unit {0}
Takes role.Visited = ⊥

pub has_value : (r : Role) → Takes r → (at : ℕ) (t : Ty) → Faultless (role_faults r at t) → t ≡ ty.NoValue → ⊥
has_value role.Taken k at ty.NoValue f e = f _ here
has_value role.Outer k at ty.NoValue f e = f _ here
has_value role.Visited k at t f e = absurd k
has_value role.Taken k at ty.Never f e = cc
has_value role.Taken k at ty.Int f e = cc
has_value role.Taken k at ty.Val f e = cc
has_value role.Taken k at ty.Addr f e = cc
has_value role.Outer k at ty.Never f e = cc
has_value role.Outer k at ty.Int f e = cc
has_value role.Outer k at ty.Val f e = cc
has_value role.Outer k at ty.Addr f e = cc

-- ---- the slots of a row

-- what the operands of a row that do not wait hold, the first of them in this register and this slot
abbrev pub waited : ℕ → List Scoped → ℕ → ℕ → Expressions → Option ℕ → Option ℕ
waited n sc b slot NoMore w = w
waited n sc b slot (More e rest) w = waited n sc (suc b) (suc slot) rest (cond (is_light_address sc e) w (hold n b slot w))

-- and what all of them hold
abbrev pub all_held : ℕ → ℕ → ℕ → Expressions → Option ℕ → Option ℕ
all_held n b slot NoMore w = w
all_held n b slot (More e rest) w = all_held n (suc b) (suc slot) rest (hold n b slot w)

-- what may have been held before, or is in these slots
abbrev pub InRow : ℕ → ℕ → ℕ → ℕ → Option ℕ → ℕ → Type 0
InRow n b slot count w s = (w ≡ Some s) ⊎ ((slot ≤ s) × (s < slot + count) × (b ≤ n) × (n < b + count))

-- a row's slots, over what was held before
pub record Row (n b slot count : ℕ) (f : Option ℕ → Option ℕ) : Type 0 where
  pub kept : (w : Option ℕ) → Low n w b slot → Kept w (f w)
  pub values : (w : Option ℕ) (s : ℕ) → Low n w b slot → f w ≡ Some s → InRow n b slot count w s

pub hold_next : {n b slot : ℕ} {w : Option ℕ} → Low n w b slot → Low n (hold n b slot w) (suc b) (suc slot)
hold_next {n} {b} {slot} low = hold_low (omega arith) (omega arith) (low_more (omega arith) (omega arith) low)

pub next_low : {n b slot : ℕ} {w : Option ℕ} → Low n w b slot → Low n w (suc b) (suc slot)
next_low low = low_more (omega arith) (omega arith) low

hold_values : (n b slot : ℕ) (w : Option ℕ) (s : ℕ) → hold n b slot w ≡ Some s → (w ≡ Some s) ⊎ ((slot ≡ s) × (n ≡ b))
hold_values n b slot w s e = ⊎_elim (λ q. inr (same_Some slot s (sym (hold_same n b slot w q) ∙ e), q)) (λ q. inl (sym (hold_other n b slot w q) ∙ e))
    (same_or n b)

pub row_none : (n b slot : ℕ) → Row n b slot 0 (λ w. w)
row_none n b slot = record { kept = λ w low s e. e; values = λ w s low e. inl e }

pub row_more : {n b slot count : ℕ} {f : Option ℕ → Option ℕ} → Row n (suc b) (suc slot) count f → Row n b slot (suc count) f
row_more {n} {b} {slot} {count} {f} r =
    record {
      kept = λ w low. r.kept w (next_low low);
      values = λ w s low e. ⊎_elim inl (λ z. let p = z.0 in let q = z.1 in let u = z.2 in let v = z.3 in inr
          (omega (arith, p), omega (arith, q), omega (arith, u), omega (arith, v))) (r.values w s (next_low low) e);
    }

pub row_hold : {n b slot count : ℕ} {f : Option ℕ → Option ℕ} → Row n (suc b) (suc slot) count f → Row n b slot (suc count) (λ w. f (hold n b slot w))
row_hold {n} {b} {slot} {count} {f} r =
    record {
      kept = λ w low. kept_then (hold_kept slot (λ e. low_none low (omega (arith, e)))) (r.kept (hold n b slot w) (hold_next low));
      values = λ w s low e.
          ⊎_elim (λ q. ⊎_elim inl (λ z. let p = z.0 in let u = z.1 in inr (omega (arith, p), omega (arith, p), omega (arith, u), omega (arith, u)))
          (hold_values n b slot w s q))
          (λ z. let p = z.0 in let q = z.1 in let u = z.2 in let v = z.3 in inr (omega (arith, p), omega (arith, q), omega (arith, u), omega (arith, v)))
          (r.values (hold n b slot w) s (hold_next low) e);
    }

pub waited_row : (n : ℕ) (sc : List Scoped) (b slot : ℕ) (es : Expressions) → Row n b slot (count_of es) (waited n sc b slot es)
waited_row n sc b slot NoMore = row_none n b slot
waited_row n sc b slot (More e rest) = by (is_light_address sc e) (waited_row n sc (suc b) (suc slot) rest)
  where
    by : (l : Bool) → Row n (suc b) (suc slot) (count_of rest) (waited n sc (suc b) (suc slot) rest) →
        Row n b slot (suc (count_of rest)) (λ w. waited n sc (suc b) (suc slot) rest (cond l w (hold n b slot w)))
    by true r = row_more r
    by false r = row_hold r

pub held_row : (n b slot : ℕ) (es : Expressions) → Row n b slot (count_of es) (all_held n b slot es)
held_row n b slot NoMore = row_none n b slot
held_row n b slot (More e rest) = row_hold (held_row n (suc b) (suc slot) rest)

pub record Stood (v : Option ℕ) (slot count : ℕ) : Type 0 where
  pub index : ℕ
  pub within : index < count
  pub is : v ≡ Some (slot + index)

-- the registers of a row are in its slots
pub row_stands : {n : ℕ} (env : List NamedRegister) (es : Expressions) (b slot : ℕ) (w : Option ℕ) → Low n w b slot → AmongRegisters n (regs_of env b es) →
    Stood (all_held n b slot es w) slot (count_of es)
row_stands env NoMore b slot w low a = elim a [ ]
row_stands {n} env (More e rest) b slot w low (first q) =
    let s = hold_same n b slot w (sym q) in
    let k = (held_row n (suc b) (suc slot) rest).kept (hold n b slot w) (hold_next low) slot s in
    let z : slot ≡ slot + zero = omega arith in
    record { index = zero; within = omega arith; is = k ∙ ap Some z }
row_stands {n} env (More e rest) b slot w low (later a) =
    let x = row_stands env rest (suc b) (suc slot) (hold n b slot w) (hold_next low) a in
    let l = x.within in
    let z : suc slot + x.index ≡ slot + suc x.index = omega arith in
    record { index = suc x.index; within = omega (arith, l); is = x.is ∙ ap Some z }

none_of : (o : Option ℕ) → ((s : ℕ) → o ≡ Some s → ⊥) → o ≡ None
none_of None f = refl
none_of (Some s) f = absurd (f s refl)

module _ (m : Mach) (n : ℕ) where
  -- ---- steps

  -- code, and the tasks that it stands for, before which one slot is known and after which another
  pub record Step (k : ℕ) (ts : List ℕ) (labels : List Label) (w v : Option ℕ) (code : Code) (us : List Task) : Type 0 where
    pub keeps : Kept w v
    pub run : (next : List Instr) (tasks : List Task) → OutsOf m n k w ts labels tasks → Sit m n [] k v ts labels next tasks →
        Sit m n [] k w ts labels (code next) (us ++ tasks)
    pub raising : (tasks : List Task) → behind_raise (us ++ tasks) ≡ behind_raise tasks
    pub exiting : (label : LabelTree) (tasks : List Task) → behind_exit label (us ++ tasks) ≡ behind_exit label tasks

  pub outs_over : {k : ℕ} {w : Option ℕ} {ts : List ℕ} {labels : List Label} {h h' : Option (List Task)} {hs hs' : LabelTree → Option (List Task)} → h' ≡ h →
      ((label : LabelTree) → hs' label ≡ hs label) → Outs m n k w ts labels h hs → Outs m n k w ts labels h' hs'
  outs_over {k} {w} {ts} e f o = record {
    raised = subst (Raising m n k w ts) (sym e) o.raised;
    exits = λ label t q. subst (Landing m n k w t) (sym (f label))
        (o.exits label t q);
  }

  pub joined : {k : ℕ} {ts : List ℕ} {labels : List Label} {w v u : Option ℕ} {c d : Code} {us vs : List Task} → Step k ts labels w v c us →
      Step k ts labels v u d vs → Step k ts labels w u (λ next. c (d next)) (us ++ vs)
  joined {k} {ts} {labels} {w} {v} {u} {c} {d} {us} {vs} x y =
      record {
        keeps = kept_then x.keeps y.keeps;
        run = λ next tasks o z.
            subst (λ os. Sit m n [] k w ts labels (c (d next)) os) (sym (append_assoc us vs tasks))
            (x.run (d next) (vs ++ tasks) (outs_over (y.raising tasks) (λ label. y.exiting label tasks) o) (y.run next tasks (outs_kept m n x.keeps o) z));
        raising = λ tasks. ap behind_raise (append_assoc us vs tasks) ∙ x.raising (vs ++ tasks) ∙ y.raising tasks;
        exiting = λ label tasks. ap (behind_exit label) (append_assoc us vs tasks) ∙ x.exiting label (vs ++ tasks) ∙ y.exiting label tasks;
      }

  pub nothing : {k : ℕ} {ts : List ℕ} {labels : List Label} {w : Option ℕ} → Step k ts labels w w (λ next. next) []
  nothing = record { keeps = kept_same; run = λ next tasks o x. x; raising = λ tasks. refl; exiting = λ label tasks. refl }

  -- the steps of a node, and what is left of it
  pub whole : {k : ℕ} {ts : List ℕ} {labels : List Label} {w v : Option ℕ} {code : Code} {us : List Task} {scope : List Slotted} {slot : ℕ} {next : List Instr}
      {tasks : List Task} (e : Expression) (fs : List Task) → tasks_of scope slot e ≡ us ++ fs → Step k ts labels w v code us →
      OutsOf m n k w ts labels tasks → OutsOf m n k w ts labels (fs ++ tasks) → Sit m n [] k v ts labels next (fs ++ tasks) →
      Sit m n [] k w ts labels (code next) (Evaluates scope slot e ∷ tasks)
  whole {k} {ts} {labels} {w} {code = code} {us = us} {scope = scope} {slot = slot} {next = next} {tasks = tasks} e fs is x o o' z =
      quiet_sit m n (walk.evaluates scope slot e tasks) o
      (subst (λ os. Sit m n [] k w ts labels (code next) os) (sym (append_assoc us fs tasks) ∙ ap (λ os. os ++ tasks) (sym is)) (x.run next (fs ++ tasks) o' z))

  -- ---- operands

  pub record Scene (w : Option ℕ) (b slot : ℕ) (env : List NamedRegister) (scope : List Slotted) (labels : List Label) (vis : List Visible) : Type 0 where
    pub low : Low n w b slot
    pub paired : Paired n w slot env scope
    pub seen : Seen labels vis

  pub at_more : {w : Option ℕ} {b slot c free : ℕ} {env : List NamedRegister} {scope : List Slotted} {labels : List Label} {vis : List Visible} → b ≤ c → slot ≤ free →
      Scene w b slot env scope labels vis → Scene w c free env scope labels vis
  at_more lb ls x = record { low = low_more lb ls x.low; paired = paired_more ls kept_same (λ s e. inl e) x.paired; seen = x.seen }

  -- what a row has bound so far
  pub at_row : {w : Option ℕ} {b slot c free count : ℕ} {f : Option ℕ →
      Option ℕ} {env : List NamedRegister} {scope : List Slotted} {labels : List Label} {vis : List Visible} → Row n b slot count f → b + count ≤ c →
      slot + count ≤ free → Scene w b slot env scope labels vis → Scene (f w) c free env scope labels vis
  at_row {w} {b} {slot} {c} {free} {count} {f} r lb ls x =
      record {
        low = λ s e. ⊎_elim (λ q. let z = x.low s q in let p = z.0 in let u = z.1 in (omega (arith, p, lb), omega (arith, u, ls)))
            (λ z. let p = z.1 in let u = z.3 in (omega (arith, u, lb), omega (arith, p, ls))) (r.values w s x.low e);
        paired = paired_more (omega (arith, ls)) (r.kept w x.low) (λ s e. ⊎_elim inl (λ z. inr z.0) (r.values w s x.low e)) x.paired;
        seen = x.seen;
      }

  pub at_hold : {w : Option ℕ} {b slot : ℕ} {env : List NamedRegister} {scope : List Slotted} {labels : List Label} {vis : List Visible} →
      Scene w b slot env scope labels vis → Scene (hold n b slot w) (suc b) (suc slot) env scope labels vis
  at_hold {w} {b} {slot} x = at_row (row_hold (row_none n (suc b) (suc slot))) (omega arith) (omega arith) x

  module _ (defined : List ℕ → Option DefinedSymbol) where
    -- what is proved of each expression
    abbrev pub Claim : Bool → Expression → Type 0
    Claim want e =
        (k : ℕ) (ts : List ℕ) (w : Option ℕ) (b slot : ℕ) (env : List NamedRegister) (scope : List Slotted) (labels : List Label) (vis : List Visible)
        (next : List Instr) (tasks : List Task) (valued tail : Bool) (d : Reg) → Scene w b slot env scope labels vis →
        Faultless (faults_in defined (scopes env) vis e) → Fits (scopes env) e → Wanted m n want (type_without_float (scopes env) e) → ApartFrom m n d w →
        d.number < b → Sit m n (out m n want d) k w ts labels next tasks →
        Sit m n [] k w ts labels (select env labels valued tail d b e next) (Evaluates scope slot e ∷ tasks)

    pub of_claim : {k : ℕ} {ts : List ℕ} {w : Option ℕ} {b slot : ℕ} {env : List NamedRegister} {scope : List Slotted} {labels : List Label} {vis : List Visible}
        {next : List Instr} {tasks : List Task} (want : Bool) (e : Expression) → Claim want e → (valued tail : Bool) (d : Reg) →
        Scene w b slot env scope labels vis →
        Faultless (faults_in defined (scopes env) vis e) → Fits (scopes env) e → Wanted m n want (type_without_float (scopes env) e) → ApartFrom m n d w →
        d.number < b → Sit m n (out m n want d) k w ts labels next tasks →
        Sit m n [] k w ts labels (select env labels valued tail d b e next) (Evaluates scope slot e ∷ tasks)
    of_claim want e claim valued tail d at ff fits value apart below y = claim _ _ _ _ _ _ _ _ _ _ _ valued tail d at ff fits value apart below y

    -- an operand, the code of which is numbered from `i` on, and its value bound to a slot
    pub operand_step : {k : ℕ} {ts : List ℕ} {w v : Option ℕ} {i free : ℕ} {env : List NamedRegister} {scope : List Slotted} {labels : List Label} {vis : List Visible}
        (e : Expression) → Claim true e → (x slot : ℕ) → x < i → Scene w i free env scope labels vis →
        Faultless (faults_in defined (scopes env) vis e) → Fits (scopes env) e → (type_of (scopes env) e ≡ ty.NoValue → ⊥) → (n ≡ x → w ≡ None) →
        ((s : ℕ) → w ≡ Some s → slot ≡ s → ⊥) → ((n ≡ x → ⊥) → v ≡ w) → (n ≡ x → v ≡ Some slot) →
        Step k ts labels w v (select env labels false false (fresh_register x (type_of (scopes env) e)) i e) (operand scope free slot e)
    operand_step {k} {ts} {w} {v} {i} {free} {env} {scope} {labels} {vis} e claim x slot xi at ff fits value apart vacant others same =
        record {
          keeps = λ s q. ⊎_elim (λ z. none_some s (sym (apart z) ∙ q)) (λ f. others f ∙ q) (same_or n x);
          run = λ next tasks o y. of_claim true e claim false false (fresh_register x (type_of (scopes env) e)) at ff fits
              (has_one defined (scopes env) vis e ff value) apart xi
              (binding m n (fresh_register x (type_of (scopes env) e)) (type_of (names scope) e) slot (place_of e) kind vacant others same o y);
          raising = λ tasks. refl;
          exiting = λ label tasks. refl;
        }
      where
        kind : (fresh_register x (type_of (scopes env) e)).comp ≡ Rattle.selection_rules.specs.Select.comp_of_type (type_of (names scope) e)
        kind = ap (λ sc. Rattle.selection_rules.specs.Select.comp_of_type (type_of sc e)) (sym (paired_names at.paired))

    -- an operand without code
    pub uncoded : {k : ℕ} {ts : List ℕ} {labels : List Label} {w : Option ℕ} (scope : List Slotted) (free slot : ℕ) (e : Expression) →
        tasks_of scope free e ≡ [] → ((s : ℕ) → w ≡ Some s → slot ≡ s → ⊥) → Step k ts labels w w (λ next. next) (operand scope free slot e)
    uncoded {w = w} scope free slot e none vacant =
        record {
          keeps = kept_same;
          run = λ next tasks o y. sit m n (λ at p z. quietly (walk.evaluates scope free e _)
              (subst (λ us. Told p w (us ++ (Does (Binds slot (is_address (type_of (names scope) e)) (place_of e)) ∷ tasks))) (sym none)
              (skipped (apart_binds p w slot _ _ vacant) (go m n y at p z)))) o;
          raising = λ tasks. refl;
          exiting = λ label tasks. refl;
        }

    -- one operand of a row, over what the others hold
    pub row_operand : {k : ℕ} {ts : List ℕ} {w : Option ℕ} {b slot i free count : ℕ} {f : Option ℕ →
        Option ℕ} {env : List NamedRegister} {scope : List Slotted} {labels : List Label} {vis : List Visible} (e : Expression) → Claim true e →
        Row n (suc b) (suc slot) count f → suc b + count ≤ i → suc slot + count ≤ free → Scene w b slot env scope labels vis →
        Faultless (faults_in defined (scopes env) vis e) → Fits (scopes env) e → (type_of (scopes env) e ≡ ty.NoValue → ⊥) →
        Step k ts labels (f w) (f (hold n b slot w)) (select env labels false false (fresh_register b (type_of (scopes env) e)) i e) (operand scope free slot e)
    row_operand {w = w} {b = b} {slot = slot} {f = f} e claim r lb ls at ff fits value =
        operand_step e claim b slot (omega (arith, lb)) (at_row r lb ls (at_more (omega arith) (omega arith) at)) ff fits value
        (λ q. none_of (f w)
        (λ s h. ⊎_elim (λ g. none_some s (sym (low_none at.low (omega (arith, q))) ∙ g)) (λ z. let p = z.2 in omega (arith, p, q))
        (r.values w s (next_low at.low) h)))
        (λ s h g. ⊎_elim (λ u. let z = at.low s u in let p = z.1 in omega (arith, p, g)) (λ z. let p = z.0 in omega (arith, p, g))
        (r.values w s (next_low at.low) h))
        (λ q. ap f (hold_other n b slot w q))
        (λ q. r.kept (hold n b slot w) (hold_next at.low) slot (hold_same n b slot w q))

    pub row_uncoded : {k : ℕ} {ts : List ℕ} {w : Option ℕ} {b slot count : ℕ} {f : Option ℕ →
        Option ℕ} {env : List NamedRegister} {labels : List Label} {vis : List Visible} (scope : List Slotted) (free : ℕ) (e : Expression) →
        Row n (suc b) (suc slot) count f → Scene w b slot env scope labels vis → tasks_of scope free e ≡ [] →
        Step k ts labels (f w) (f w) (λ next. next) (operand scope free slot e)
    row_uncoded {w = w} {slot = slot} scope free e r at none =
        uncoded scope free slot e none (λ s h g. ⊎_elim (λ u. let z = at.low s u in let p = z.1 in omega (arith, p, g))
        (λ z. let p = z.0 in omega (arith, p, g)) (r.values w s (next_low at.low) h))
