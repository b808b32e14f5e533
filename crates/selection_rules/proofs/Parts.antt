-- The code of a part of a function, and what follows it.
use Rattle.std.proofs.Common.{◌≡◌, ℕ, suc, ◌-◌, ◌<◌, ◌≤◌, Bool, true, false, cond, List, [], ◌∷◌, Option, Some, None, length, drop, get_or, refl, sym, ap, ◌∙◌, subst, arith}
use Rattle.std.proofs.lemmas.Bool.{true≢false}
use Rattle.std.proofs.lemmas.List.{length-drop}
use Rattle.std.proofs.Math.Seq.{drop-cons}
use Rattle.bs_words.specs.Fits.{fits, misfit, type_of_comp}
use Rattle.bs_words.specs.Memory.{Memory}
use Rattle.bs_words.specs.declared.types.Ty.{Ty}
use Rattle.bs_words.specs.declared.values.Value.{Value}
use Rattle.cmm_tree.specs.Tree.{LabelTree, Expression}
use Rattle.cmm_types.specs.Types.{type_of}
use Rattle.cmm_meaning.specs.State.{Gave, Threw, Binding, Here, outermost}
use Rattle.meaning_laws.specs.Does.{Leaves, Giving, Exiting, Raising, Does}
use Rattle.meaning_laws.specs.Interaction.{Part, onward, of_type, node_part}
use Rattle.mach_ir.specs.declared.reg.Reg.{Reg}
use Rattle.mach_ir.specs.declared.mach.Instr.{Instr}
use Rattle.mach_ir.specs.declared.mach.Mach.{Mach}
use Rattle.mach_ir.specs.Runs.{ActivationSetting, Step, Continues, Finishes, IsStuck}
use Rattle.mach_ir.specs.Meaning.{State, File, assign_register, put_if, put_all, has_label as marks, after_label, is_handler_of, from_handler, tries_at, wrote}
use Rattle.mach_ir.specs.Acts.{Around, drop_tries}
use Rattle.selection_rules.specs.Select.{NamedRegister, Label, scopes, visible_label, inner_valued, inner_dest}
use Rattle.selection_rules.specs.Follow.{FollowsText, pays, fails}
use Rattle.selection_rules.proofs.Files.{one, Holds, put_same, holds_put, Survives, holds_survives, Under, IsNamed, Stands, stands_put, scope_is, stands_length}
use Rattle.bs_words.specs.declared.values.Value.TheVariants as value
use Rattle.bs_words.specs.declared.types.Ty.TheVariants as ty
use Rattle.meaning_laws.specs.Interaction as part
use Rattle.selection_rules.specs.Follow.{text_setting}
use Rattle.mach_laws.specs.Expand.{Ending, all, more}
use Rattle.mach_laws.proofs.Places.{ending_next}

-- ---- places

pub ending_in : {a b c : List Instr} → Ending a b → Ending b c → Ending a c
ending_in e all = e
ending_in e (more f) = more (ending_in e f)

-- it ends with the first, and each try that is pushed or left in between is both
pub record Within (a b : List Instr) : Type 0 where
  pub ending : Ending a b
  pub tries : tries_at b ≡ tries_at a

pub inside_all : {a : List Instr} → Within a a
inside_all = record { ending = all; tries = refl }

pub inside_more : {i : Instr} {a b : List Instr} → tries_at (i ∷ b) ≡ tries_at b → Within a b → Within a (i ∷ b)
inside_more e x = record { ending = more x.ending; tries = e ∙ x.tries }

pub inside_in : {a b c : List Instr} → Within a b → Within b c → Within a c
inside_in x y = record { ending = ending_in x.ending y.ending; tries = y.tries ∙ x.tries }

-- a piece of the code of a function, round which these tries are
pub record Placed (m : Mach) (ts : List ℕ) (rest : List Instr) : Type 0 where
  pub ending : Ending rest m.code
  pub caught : tries_at rest ≡ ts

pub placed_in : {m : Mach} {ts : List ℕ} {a b : List Instr} → Within a b → Placed m ts b → Placed m ts a
placed_in x p = record { ending = ending_in x.ending p.ending; caught = sym x.tries ∙ p.caught }

pub placed_next : {m : Mach} {ts : List ℕ} {i : Instr} {rest : List Instr} → tries_at (i ∷ rest) ≡ tries_at rest → Placed m ts (i ∷ rest) → Placed m ts rest
placed_next e p = record { ending = ending_next p.ending; caught = sym e ∙ p.caught }

-- each label is that of one mark
pub record WellLabelled (m : Mach) : Type 0 where
  pub behind_is : (l : ℕ) (i : Instr) (rest : List Instr) → Ending (i ∷ rest) m.code → marks l i.op ≡ true → after_label l m.code ≡ rest
  pub onto_is : (l : ℕ) (i : Instr) (rest : List Instr) → Ending (i ∷ rest) m.code → is_handler_of l i.op ≡ true → from_handler l m.code ≡ i ∷ rest

-- ---- what stays as it is

-- a register that code may write: a new one, the destination, or that of a name
pub data May (env : List NamedRegister) (b d n : ℕ) : Type 0 where
  new : b ≤ n → May env b d n
  dest : n ≡ d → May env b d n
  name : IsNamed n env → May env b d n

pub record Stable (env : List NamedRegister) (b d : ℕ) (P : File → Type 0) : Type 0 where
  pub puts : (r : Reg) (v : Value) (f : File) → May env b d r.number → P f → P (assign_register r v f)
  pub calls : (f g : File) → Survives f g → P f → P g

pub stable_inner : {env : List NamedRegister} {b d : ℕ} {P : File → Type 0} (n i : ℕ) → b ≤ n → b ≤ i → Stable env b d P → Stable env i n P
stable_inner {env} {b} {d} {P} n i le less s =
    record { puts = λ r v f may p. s.puts r v f (by r.number may) p; calls = λ f g w p. s.calls f g w p }
  where
    by : (x : ℕ) → May env i n x → May env b d x
    by x (new a) = new (omega (arith, a, less))
    by x (dest e) = new (omega (arith, e, le))
    by x (name q) = name q

pub stable_same : {env : List NamedRegister} {b d : ℕ} {P : File → Type 0} (i : ℕ) → b ≤ i → Stable env b d P → Stable env i d P
stable_same {env} {b} {d} {P} i less s =
    record { puts = λ r v f may p. s.puts r v f (by r.number may) p; calls = λ f g w p. s.calls f g w p }
  where
    by : (x : ℕ) → May env i d x → May env b d x
    by x (new a) = new (omega (arith, a, less))
    by x (dest e) = dest e
    by x (name q) = name q

-- a value that waits in a register
pub record And (P : File → Type 0) (t : Reg) (v : Value) (f : File) : Type 0 where
  pub rest : P f
  pub holds : Holds t v f

pub stable_and : {env : List NamedRegister} {b d : ℕ} {P : File → Type 0} (t : Reg) (v : Value) → t.number < b → (t.number ≡ d → ⊥) → (IsNamed t.number env → ⊥) → 21 ≤ t.number →
    Stable env b d P → Stable env b d (And P t v)
stable_and {env} {b} {d} t v a e i z s =
    record {
      puts = λ r u f may q. record { rest = s.puts r u f may q.rest; holds = holds_put r u (by r.number may) q.holds };
      calls = λ f g w q. record { rest = s.calls f g w q.rest; holds = holds_survives z w q.holds };
    }
  where
    by : (x : ℕ) → May env b d x → x ≡ t.number → ⊥
    by x (new le) same = omega (arith, le, same, a)
    by x (dest q) same = e (sym same ∙ q)
    by x (name n) same = i (subst (λ y. IsNamed y env) same n)

-- ---- labels

-- registers below a number
pub data AllUnder (b : ℕ) : List Reg → Type 0 where
  no_reg : AllUnder b []
  a_reg : {r : Reg} {rs : List Reg} → r.number < b → AllUnder b rs → AllUnder b (r ∷ rs)

pub all_under_more : {b : ℕ} {rs : List Reg} (n : ℕ) → b ≤ n → AllUnder b rs → AllUnder n rs
all_under_more n le no_reg = no_reg
all_under_more n le (a_reg a u) = a_reg (omega (arith, a, le)) (all_under_more n le u)

-- the registers of the parameters of labels, all below a number
pub data Lower (b : ℕ) : List Label → Type 0 where
  no_label : Lower b []
  a_label : {t : Label} {labels : List Label} → AllUnder b t.params → Lower b labels → Lower b (t ∷ labels)

pub lower_more : {b : ℕ} {labels : List Label} (n : ℕ) → b ≤ n → Lower b labels → Lower n labels
lower_more n le no_label = no_label
lower_more n le (a_label u l) = a_label (all_under_more n le u) (lower_more n le l)

-- ---- activations

-- the names of a part's own activation are there, under those of what is inside
abbrev pub Reaching : List NamedRegister → Here → File → Type 0
Reaching env h f = Stands env (outermost (length env) h.names) f

outermost_all : (names : List Binding) (n : ℕ) → length names ≡ n → outermost n names ≡ names
outermost_all names n e = let none' : length names - n ≡ 0 = omega (arith, e) in ap (λ k. drop k names) none'

pub reaching_now : {env : List NamedRegister} (h : Here) {f : File} → Stands env h.names f → Reaching env h f
reaching_now {env} h {f} s = subst (λ ns. Stands env ns f) (sym (outermost_all h.names (length env) (stands_length s))) s

stands_rest : {x : NamedRegister} {env : List NamedRegister} {f : File} (ns : List Binding) → Stands (x ∷ env) ns f → (b : Binding) (rest : List Binding) → ns ≡ b ∷ rest → Stands env rest f
stands_rest [] s b rest e = elim s [ ]
stands_rest {env = env} {f = f} (n ∷ ns) (one q h s) b rest e =
    let same : ns ≡ rest = cc in subst (λ ms. Stands env ms f) same s

pub reaching_out : {x : NamedRegister} {env : List NamedRegister} (h : Here) {f : File} → Reaching (x ∷ env) h f → Reaching env h f
reaching_out {x} {env} h {f} s =
    let names = h.names in
    let l = length env in
    let k = length names - suc l in
    let long : length (drop k names) ≡ suc l = stands_length s in
    let le : suc l ≤ length names = omega (arith, long, length-drop k names) in
    let inside : k < length names = omega (arith, le) in
    let next : length names - l ≡ suc k = omega (arith, le) in
    let d : Binding = get_or names k (record { scoped = record { name = []; type = ty.Int; mutable = false }; value = value.Word 0 }) in
    subst (λ n. Stands env (drop n names) f) (sym next)
    (stands_rest (drop k names) s (get_or names k d) (drop (suc k) names) (drop-cons names k d inside))

-- ---- parts

abbrev pub calm_in : List ℕ → Memory → Around
calm_in ts memory = record { memory = memory; unwritten = []; tries = ts; raised = None }

-- where a raise comes to: the handler of the try that was pushed last, or out of the function
abbrev pub raised_to : Mach → List ℕ → Value → File → Memory → Step State
raised_to m [] v f memory = Finishes (Threw v memory)
raised_to m (l ∷ ts) v f memory = Continues (record { rest = from_handler l m.code; file = f; around = record { memory = memory; unwritten = []; tries = ts; raised = Some v } })

module _ (c : ActivationSetting) (m : Mach) (turns : ℕ) (ts : List ℕ) where
  abbrev pub end : ℕ
  end = c.setting.end

  abbrev pub calm : Memory → Around
  calm memory = calm_in ts memory

  abbrev pub at : List Instr → File → Memory → State
  at rest f memory = record { rest = rest; file = f; around = calm memory }

  -- where an exit comes to: after its label, with its values in the parameters
  abbrev pub arrive : Option Label → List Value → File → Memory → Step State
  arrive None values f memory = IsStuck
  arrive (Some t) values f memory = wrote (after_label t.number m.code) (calm_in (drop_tries t.tries ts) memory) (put_all end t.params values f)

  -- an activation on these stack bytes, in as many tries
  pub record Level (h : Here) : Type 0 where
    pub below : h.below ≡ c.below
    pub frame : h.frame ≡ c.frame
    pub tries : h.tries ≡ length ts

  -- the same where a part is left by an exit or a raise, in however many tries
  pub record Based (h : Here) : Type 0 where
    pub below : h.below ≡ c.below
    pub frame : h.frame ≡ c.frame

  pub based : {h : Here} → Level h → Based h
  based l = record { below = l.below; frame = l.frame }

  -- what follows where a part is left by an exit or a raise
  pub record Outs {A : Type 0} (env : List NamedRegister) (labels : List Label) (P : File → Type 0) (k : Leaves A → Does) : Type 0 where
    pub exit : (l : LabelTree) (values : List Value) (h : Here) (f : File) (memory : Memory) → Based h → Reaching env h f → P f →
        FollowsText c m (k (Exiting l values h memory)) (arrive (visible_label labels l) values f memory)
    pub raising : (v : Value) → fits end ty.Val v ≡ true → (h : Here) (f : File) (memory : Memory) → Based h → Reaching env h f → P f → FollowsText c m (k (Raising v h memory)) (raised_to m ts v f memory)

  -- a value of this type, or any
  pub data Fit : Option Ty → Value → Type 0 where
    any : {v : Value} → Fit None v
    fit : {T : Ty} {v : Value} → fits end T v ≡ true → Fit (Some T) v

  pub data IsNo : Ty → Type 0 where
    is_no : IsNo ty.NoValue

  pub data Gone : Option Ty → Type 0 where
    gone_any : Gone None
    gone : {T : Ty} → IsNo T → Gone (Some T)

  -- what a part gives is in its destination
  pub data Left (o : Option Ty) (d : Reg) (f : File) : Option Value → Type 0 where
    nothing : Gone o → Left o d f None
    holding : {v : Value} → Fit o v → Holds d v f → Left o d f (Some v)

  pub data Shape (o : Option Ty) : Option Value → Type 0 where
    no_shape : Gone o → Shape o None
    a_shape : {v : Value} → Fit o v → Shape o (Some v)

  pub any_shape : (v : Option Value) → Shape None v
  any_shape None = no_shape gone_any
  any_shape (Some v) = a_shape any

  abbrev pub kept : Bool → Option Value → Option Value
  kept true v = v
  kept false v = None

  -- what follows a part whose code leaves its value in `d` and goes on with `next`
  pub record After (o : Option Ty) (env : List NamedRegister) (labels : List Label) (valued tail : Bool) (d : Reg) (next : List Instr) (P : File → Type 0) (k : Leaves (Option Value) → Does) : Type 0 where
    pub outs : Outs env labels P k
    pub giving : (v : Option Value) (h : Here) (f : File) (memory : Memory) → Level h → Stands env h.names f → P f → Left o d f v → FollowsText c m (k (Giving v h memory)) (Continues (at next f memory))
    -- a value that does not fit its destination is improper
    pub lost : (v : Value) (h : Here) (f : File) (memory : Memory) → Stands env h.names f → Fit o v → fits end (type_of_comp d.comp) v ≡ false → FollowsText c m (k (Giving (Some v) h memory)) IsStuck
    -- after a tail call there is nothing left to do, and it is in no try
    pub untried : tail ≡ true → ts ≡ []
    pub tailing : tail ≡ true → (v : Option Value) → Shape o v → (h : Here) (memory : Memory) → FollowsText c m (k (Giving v h memory)) (Finishes (Gave (kept valued v) memory))

  -- ---- types of nodes

  tested_follows : (k : Leaves (Option Value) → Does) (x : Step State) (T : Ty) (v : Value) (h : Here) (memory : Memory) (b : Bool) → fits end T v ≡ b →
      (fits end T v ≡ true → FollowsText c m (k (Giving (Some v) h memory)) x) → FollowsText c m (cond b (part.gives (Some v) h memory) (part.fails (misfit T) memory) k) x
  tested_follows k x T v h memory true e on = on e
  tested_follows k x T v h memory false e on = fails

  pub of_type_some : (k : Leaves (Option Value) → Does) (x : Step State) (T : Ty) (v : Value) (h : Here) (memory : Memory) →
      (fits end T v ≡ true → FollowsText c m (k (Giving (Some v) h memory)) x) → (IsNo T → FollowsText c m (k (Giving None h memory)) x) →
      FollowsText c m (of_type end T (Some v) h memory k) x
  of_type_some k x ty.NoValue v h memory some no' = no' is_no
  of_type_some k x ty.Never v h memory some no' = fails
  of_type_some k x ty.Int v h memory some no' = tested_follows k x ty.Int v h memory (fits end ty.Int v) refl some
  of_type_some k x ty.Val v h memory some no' = tested_follows k x ty.Val v h memory (fits end ty.Val v) refl some
  of_type_some k x ty.Addr v h memory some no' = some refl

  of_type_none : (k : Leaves (Option Value) → Does) (x : Step State) (T : Ty) (h : Here) (memory : Memory) → (IsNo T → FollowsText c m (k (Giving None h memory)) x) →
      FollowsText c m (of_type end T None h memory k) x
  of_type_none k x ty.NoValue h memory no' = no' is_no
  of_type_none k x ty.Never h memory no' = fails
  of_type_none k x ty.Int h memory no' = fails
  of_type_none k x ty.Val h memory no' = fails
  of_type_none k x ty.Addr h memory no' = fails

  -- the destination of a node's parts is its own, where it has a value
  own_dest : (T : Ty) (b : ℕ) (d : Reg) (v : Value) → fits end T v ≡ true → inner_dest T b d ≡ d
  own_dest ty.NoValue b d v e = absurd (true≢false (sym e))
  own_dest ty.Never b d v e = refl
  own_dest ty.Int b d v e = refl
  own_dest ty.Val b d v e = refl
  own_dest ty.Addr b d v e = refl

  own_valued : (T : Ty) (valued : Bool) (v : Value) → fits end T v ≡ true → inner_valued valued T ≡ valued
  own_valued ty.NoValue valued v e = absurd (true≢false (sym e))
  own_valued ty.Never valued v e = refl
  own_valued ty.Int valued v e = refl
  own_valued ty.Val valued v e = refl
  own_valued ty.Addr valued v e = refl

  no_misfits : (T : Ty) (b : ℕ) (d : Reg) (v : Value) → IsNo T → fits end (type_of_comp (inner_dest T b d).comp) v ≡ false → ⊥
  no_misfits T b d v is_no e = true≢false e

  no_valued : (T : Ty) (valued : Bool) (v : Option Value) → IsNo T → kept valued None ≡ kept (inner_valued valued T) v
  no_valued T true v is_no = refl
  no_valued T false v is_no = refl

  -- what follows the parts of a node, which tests what they give
  pub after_typed : {env : List NamedRegister} {labels : List Label} {valued tail : Bool} {d : Reg} {next : List Instr} {P : File → Type 0} {k : Leaves (Option Value) → Does} (T : Ty) (b : ℕ) →
      After (Some T) env labels valued tail d next P k →
      After None env labels (inner_valued valued T) tail (inner_dest T b d) next P (λ l. onward (λ v h memory. of_type end T v h memory) l k)
  after_typed {env} {labels} {valued} {tail} {d} {next} {P} {k} T b a =
      record {
        outs = record { exit = λ l values h f memory level r p. let o = a.outs in o.exit l values h f memory level r p; raising = λ v fv h f memory level r p. let o = a.outs in o.raising v fv h f memory level r p };
        giving = λ v h f memory level s p left. given v h f memory level s p left;
        lost = λ v h f memory s x misfit'.
            of_type_some k IsStuck T v h memory
            (λ e. a.lost v h f memory s (fit e) (subst (λ r. fits end (type_of_comp r.comp) v ≡ false) (own_dest T b d v e) misfit'))
            (λ no'. absurd (no_misfits T b d v no' misfit'));
        untried = a.untried;
        tailing = λ e v shape h memory. tailed e v h memory;
      }
    where
      given : (v : Option Value) (h : Here) (f : File) (memory : Memory) → Level h → Stands env h.names f → P f → Left None (inner_dest T b d) f v →
          FollowsText c m (of_type end T v h memory k) (Continues (at next f memory))
      given None h f memory level s p left = of_type_none k (Continues (at next f memory)) T h memory (λ no'. a.giving None h f memory level s p (nothing (gone no')))
      given (Some v) h f memory level s p (holding x holds) =
          of_type_some k (Continues (at next f memory)) T v h memory
          (λ e. a.giving (Some v) h f memory level s p (holding (fit e) (subst (λ r. Holds r v f) (own_dest T b d v e) holds)))
          (λ no'. a.giving None h f memory level s p (nothing (gone no')))

      tailed : tail ≡ true → (v : Option Value) (h : Here) (memory : Memory) → FollowsText c m (of_type end T v h memory k) (Finishes (Gave (kept (inner_valued valued T) v) memory))
      tailed e None h memory =
          of_type_none k (Finishes (Gave (kept (inner_valued valued T) None) memory)) T h memory
          (λ no'. subst (λ o. FollowsText c m (k (Giving None h memory)) (Finishes (Gave o memory))) (no_valued T valued None no') (a.tailing e None (no_shape (gone no')) h memory))
      tailed e (Some v) h memory =
          of_type_some k (Finishes (Gave (kept (inner_valued valued T) (Some v)) memory)) T v h memory
          (λ q. subst (λ w. FollowsText c m (k (Giving (Some v) h memory)) (Finishes (Gave (kept w (Some v)) memory))) (sym (own_valued T valued v q)) (a.tailing e (Some v) (a_shape (fit q)) h memory))
          (λ no'. subst (λ o. FollowsText c m (k (Giving None h memory)) (Finishes (Gave o memory))) (no_valued T valued (Some v) no') (a.tailing e None (no_shape (gone no')) h memory))

  -- a node pays, and its parts follow
  pub node_follows : {env : List NamedRegister} {f : File} (e : Expression) (h : Here) (memory : Memory) (p : Part (Option Value)) (k : Leaves (Option Value) → Does) (rest : List Instr) → Stands env h.names f →
      FollowsText c m (p (λ l. onward (λ v h memory. of_type end (type_of (scopes env) e) v h memory) l k)) (Continues (at rest f memory)) →
      FollowsText c m (node_part (text_setting c) e h memory p k) (Continues (at rest f memory))
  node_follows {env} {f} e h memory p k rest stands follows =
      pays refl (subst (λ sc. FollowsText c m (p (λ l. onward (λ v h memory. of_type end (type_of sc e) v h memory) l k)) (Continues (at rest f memory))) (sym (scope_is stands)) follows)

  -- ---- a value comes to its destination

  pub record Ready (env : List NamedRegister) (labels : List Label) (b : ℕ) (d : Reg) : Type 0 where
    pub under : Under b env
    pub lower : Lower b labels
    pub off : IsNamed d.number env → ⊥
    pub below : d.number < b
    pub first : 21 ≤ d.number

  pub lands : {o : Option Ty} {env : List NamedRegister} {labels : List Label} {valued tail : Bool} {d : Reg} {next : List Instr} {P : File → Type 0} {k : Leaves (Option Value) → Does} {b : ℕ} →
      Ready env labels b d → Stable env b d.number P → After o env labels valued tail d next P k → (v : Value) (h : Here) (f : File) (memory : Memory) → Level h → Stands env h.names f → P f → Fit o v →
      FollowsText c m (k (Giving (Some v) h memory)) (wrote next (calm memory) (put_if (fits end (type_of_comp d.comp) v) d v (Some f)))
  lands {o} {env} {d = d} {next = next} {P = P} {k = k} ready stable a v h f memory level s p x = by (fits end (type_of_comp d.comp) v) refl
    where
      by : (b : Bool) → fits end (type_of_comp d.comp) v ≡ b → FollowsText c m (k (Giving (Some v) h memory)) (wrote next (calm memory) (put_if b d v (Some f)))
      by true e = a.giving (Some v) h (assign_register d v f) memory level (stands_put d v ready.off s) (stable.puts d v f (dest refl) p) (holding x (put_same d v f))
      by false e = a.lost v h f memory s x e
