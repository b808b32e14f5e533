-- What is in registers, and what writes leave of it.
use Rattle.std.proofs.Common.{◌≡◌, ℕ, suc, ◌<◌, ◌≤◌, Bool, true, false, cond, List, [], ◌∷◌, Option, Some, None, option_map, map, length, refl, sym, ap, ◌∙◌, subst, arith}
use Rattle.std.specs.Prelude.{nat_eq, bytes_eq, not, ◌&&◌}
use Rattle.std.proofs.lemmas.Bool.{eq-eqb, eqb-true, cond-false, false_from_ne_true}
use Rattle.bs_words.specs.declared.types.Ty.{Ty}
use Rattle.bs_words.specs.declared.values.Value.{Value}
use Rattle.cmm_types.specs.Types.{Scoped, binding_of, type_bound_by, type_named}
use Rattle.cmm_meaning.specs.State.{Binding, innermost, value_of, assigned}
use Rattle.mach_ir.specs.declared.reg.Reg.{Reg}
use Rattle.mach_ir.specs.Meaning.{Held, File, assign_register, clear_registers, killed_among, killed_by, Destroyed, Nothing, Temporaries, Everything, is_destroyed, is_at_one_of}
use Rattle.selection_rules.specs.Select.{NamedRegister, scopes, comp_of_type, reg_of}
use Rattle.bs_words.specs.declared.types.Ty.TheVariants as ty
use Rattle.mach_laws.proofs.Files.{put_other}

-- this value is in a register
pub record Holds (r : Reg) (v : Value) (f : File) : Type 0 where
  pub is : f r.number ≡ Some (record { comp = r.comp; value = v })

pub put_same : (r : Reg) (v : Value) (f : File) → Holds r v (assign_register r v f)
put_same r v f = record { is = ap (λ b. cond b (Some (record { comp = r.comp; value = v })) (f r.number)) (eq-eqb r.number r.number refl) }

pub holds_put : {q : Reg} {u : Value} {f : File} (r : Reg) (v : Value) → (r.number ≡ q.number → ⊥) → Holds q u f → Holds q u (assign_register r v f)
holds_put {q = q} {f = f} r v apart h = record { is = put_other r v f q.number apart ∙ h.is }

-- ---- calls

-- a call leaves the registers from `first` on
pub record Survives (f g : File) : Type 0 where
  pub each : (n : ℕ) (h : Held) → 21 ≤ n → f n ≡ Some h → g n ≡ Some h

-- the registers of a list are all below `first`
pub data Low : List Reg → Type 0 where
  none : Low []
  one : {r : Reg} {rs : List Reg} → r.number < 21 → Low rs → Low (r ∷ rs)

low_cond : (x : Bool) (r : Reg) {qs : List Reg} → r.number < 21 → Low qs → Low (cond x (r ∷ qs) qs)
low_cond true r b q = one b q
low_cond false r b q = q

low_among : {rs : List Reg} (d : Destroyed) (results : List Reg) → Low rs → Low (killed_among rs d results)
low_among d results none = none
low_among d results (one {r = r} {rs = rs} b l) = low_cond (is_destroyed d r.loc && not (is_at_one_of r.loc results)) r b (low_among d results l)

pub low_killed : {rs : List Reg} (d : Destroyed) (results : List Reg) → Low rs → Low (killed_by rs d results)
low_killed Nothing results l = none
low_killed Temporaries results l = low_among Temporaries results l
low_killed Everything results l = low_among Everything results l

cleared : {rs : List Reg} (f : File) (n : ℕ) → Low rs → 21 ≤ n → clear_registers rs f n ≡ f n
cleared f n none le = refl
cleared f n (one {r = r} {rs = rs} b l) le =
    cond-false (nat_eq r.number n) None (clear_registers rs f n) (false_from_ne_true _ (λ e. let same : r.number ≡ n = eqb-true r.number n e in omega (arith, same, b, le))) ∙ cleared f n l le

pub survives_call : {rs : List Reg} (d : Destroyed) (results : List Reg) (f : File) → Low rs → Survives f (clear_registers (killed_by rs d results) f)
survives_call d results f low =
    record { each = λ n h le e. cleared f n (low_killed d results low) le ∙ e }

pub holds_survives : {r : Reg} {v : Value} {f g : File} → 21 ≤ r.number → Survives f g → Holds r v f → Holds r v g
holds_survives {r} {v} le s h = record { is = s.each r.number (record { comp = r.comp; value = v }) le h.is }

-- ---- names in scope

-- the registers of names, all below a number, the innermost the highest
pub data Under : ℕ → List NamedRegister → Type 0 where
  none : {b : ℕ} → Under b []
  one : {b : ℕ} {x : NamedRegister} {env : List NamedRegister} → x.reg.number < b → 21 ≤ x.reg.number → x.reg.comp ≡ comp_of_type x.scoped.type →
      Under x.reg.number env → Under b (x ∷ env)

pub under_more : {b : ℕ} {env : List NamedRegister} (n : ℕ) → b ≤ n → Under b env → Under n env
under_more n le none = none
under_more n le (one a z q u) = one (omega (arith, a, le)) z q u

-- the register of a name in scope
pub data IsNamed (n : ℕ) : List NamedRegister → Type 0 where
  here : {x : NamedRegister} {env : List NamedRegister} → x.reg.number ≡ n → IsNamed n (x ∷ env)
  there : {x : NamedRegister} {env : List NamedRegister} → IsNamed n env → IsNamed n (x ∷ env)

pub named_under : {b n : ℕ} {env : List NamedRegister} → Under b env → IsNamed n env → n < b
named_under none i = elim i [ ]
named_under (one a z q u) (here e) = omega (arith, a, e)
named_under (one a z q u) (there i) = let less = named_under u i in omega (arith, less, a)

pub data Stands : List NamedRegister → List Binding → File → Type 0 where
  none : {f : File} → Stands [] [] f
  one : {x : NamedRegister} {env : List NamedRegister} {n : Binding} {names : List Binding} {f : File} →
      n.scoped ≡ x.scoped → Holds x.reg n.value f → Stands env names f → Stands (x ∷ env) (n ∷ names) f

pub scope_is : {env : List NamedRegister} {names : List Binding} {f : File} → Stands env names f → map (λ (b : Binding). b.scoped) names ≡ scopes env
scope_is none = refl
scope_is (one {x = x} {env = env} {n = n} {names = names} e h s) =
    ap (λ (y : Scoped). y ∷ map (λ (b : Binding). b.scoped) names) e ∙ ap (λ ys. x.scoped ∷ ys) (scope_is s)

pub stands_put : {env : List NamedRegister} {names : List Binding} {f : File} (r : Reg) (v : Value) → (IsNamed r.number env → ⊥) → Stands env names f → Stands env names (assign_register r v f)
stands_put r v apart none = none
stands_put r v apart (one e h s) = one e (holds_put r v (λ same. apart (here (sym same))) h) (stands_put r v (λ i. apart (there i)) s)

pub stands_survives : {b : ℕ} {env : List NamedRegister} {names : List Binding} {f g : File} → Under b env → Survives f g → Stands env names f → Stands env names g
stands_survives u s none = none
stands_survives (one a z q u) s (one e h t) = one e (holds_survives z s h) (stands_survives u s t)

-- a name's register holds its value
pub data Looked (env : List NamedRegister) (f : File) : Option Reg → Option Value → Type 0 where
  unknown : Looked env f None None
  known : {r : Reg} {v : Value} → IsNamed r.number env → Holds r v f → Looked env f (Some r) (Some v)

looked_further : (x : NamedRegister) {env : List NamedRegister} {f : File} {o : Option Reg} {p : Option Value} → Looked env f o p → Looked (x ∷ env) f o p
looked_further x unknown = unknown
looked_further x (known i k) = known (there i) k

looked_first : (b : Bool) (x : NamedRegister) {env : List NamedRegister} (n : Binding) {f : File} {o : Option Reg} (p : Option Binding) → Holds x.reg n.value f →
    Looked env f o (option_map (λ (m : Binding). m.value) p) → Looked (x ∷ env) f (cond b (Some x.reg) o) (option_map (λ (m : Binding). m.value) (cond b (Some n) p))
looked_first true x n p h l = known (here refl) h
looked_first false x n p h l = looked_further x l

pub looked_up : {env : List NamedRegister} {names : List Binding} {f : File} (name : List ℕ) → Stands env names f → Looked env f (reg_of env name) (value_of names name)
looked_up name none = unknown
looked_up {f = f} name (one {x = x} {env = env} {n = n} {names = names} e h s) =
    subst (λ (y : Scoped). Looked (x ∷ env) f (cond (bytes_eq x.scoped.name name) (Some x.reg) (reg_of env name))
    (option_map (λ (m : Binding). m.value) (cond (bytes_eq y.name name) (Some n) (innermost names name))))
    (sym e) (looked_first (bytes_eq x.scoped.name name) x n (innermost names name) h (looked_up name s))

-- an assignment writes the register of the innermost binding of its name
pub data Assigns (env : List NamedRegister) (v : Value) (f : File) : Option Reg → List Binding → Ty → Type 0 where
  unbound : {names : List Binding} → Assigns env v f None names ty.Never
  assigns : {r : Reg} {names : List Binding} {T : Ty} → IsNamed r.number env → r.comp ≡ comp_of_type T → Stands env names (assign_register r v f) → Assigns env v f (Some r) names T

assigns_further : (x : NamedRegister) {i : ℕ} {env : List NamedRegister} (n : Binding) {others : List Binding} (v : Value) {f : File} {o : Option Reg} {T : Ty} →
    Under i (x ∷ env) → n.scoped ≡ x.scoped → Holds x.reg n.value f → Assigns env v f o others T → Assigns (x ∷ env) v f o (n ∷ others) T
assigns_further x n v u e h unbound = unbound
assigns_further x n v (one a z q u) e h (assigns {r = r} i c t) =
    assigns (there i) c (one e (holds_put r v (λ same. let less = named_under u i in omega (arith, less, same)) h) t)

assigns_first : (b : Bool) (x : NamedRegister) {i : ℕ} {env : List NamedRegister} (n : Binding) (names : List Binding) {others : List Binding} (v : Value) {f : File} {o : Option Reg} (t : Option Scoped) →
    Under i (x ∷ env) → n.scoped ≡ x.scoped → Holds x.reg n.value f → Stands env names f → Assigns env v f o others (type_bound_by t) →
    Assigns (x ∷ env) v f (cond b (Some x.reg) o) (cond b (record n { value = v } ∷ names) (n ∷ others)) (type_bound_by (cond b (Some x.scoped) t))
assigns_first true x n names v {f = f} t (one a z q u) e h s others =
    assigns (here refl) q (one e (put_same x.reg v f) (stands_put x.reg v (λ i. let less = named_under u i in omega (arith, less)) s))
assigns_first false x n names v t u e h s others = assigns_further x n v u e h others

pub assigning : {i : ℕ} {env : List NamedRegister} {names : List Binding} {f : File} (name : List ℕ) (v : Value) → Under i env → Stands env names f →
    Assigns env v f (reg_of env name) (assigned names name v) (type_named (scopes env) name)
assigning name v u none = unbound
assigning {f = f} name v (one a z q u) (one {x = x} {env = env} {n = n} {names = names} e h s) =
    subst (λ (y : Scoped). Assigns (x ∷ env) v f (cond (bytes_eq x.scoped.name name) (Some x.reg) (reg_of env name))
    (cond (bytes_eq y.name name) (record n { value = v } ∷ names) (n ∷ assigned names name v))
    (type_bound_by (cond (bytes_eq x.scoped.name name) (Some x.scoped) (binding_of (scopes env) name))))
    (sym e) (assigns_first (bytes_eq x.scoped.name name) x n names v (binding_of (scopes env) name) (one a z q u) e h s (assigning name v u s))

pub stands_length : {env : List NamedRegister} {names : List Binding} {f : File} → Stands env names f → length names ≡ length env
stands_length none = refl
stands_length (one e h s) = ap suc (stands_length s)
