-- An expression whose value an operation takes.
use Rattle.std.proofs.Common.{◌≡◌, ℕ, ◌<◌, ◌≤◌, Bool, true, false, List, Option, Some, None, sym, ◌∙◌, arith, ◌^◌}
use Rattle.std.proofs.lemmas.Bool.{true≢false}
use Rattle.bs_words.specs.Fits.{fits, type_of_comp}
use Rattle.bs_words.specs.Memory.{Memory}
use Rattle.bs_words.specs.declared.types.Ty.{Ty}
use Rattle.bs_words.specs.declared.values.Value.{Value}
use Rattle.cmm_tree.specs.Tree.{Expression}
use Rattle.cmm_types.specs.Types.{type_of}
use Rattle.cmm_meaning.specs.State.{Here}
use Rattle.meaning_laws.specs.Does.{Leaves, Does}
use Rattle.meaning_laws.specs.Interaction.{Part, onward, only_value, with_value, both, does}
use Rattle.mach_ir.specs.declared.reg.Reg.{Reg}
use Rattle.mach_ir.specs.declared.mach.Instr.{Instr}
use Rattle.mach_ir.specs.declared.mach.Mach.{Mach}
use Rattle.mach_ir.specs.Runs.{ActivationSetting, Continues}
use Rattle.mach_ir.specs.Meaning.{File}
use Rattle.selection_rules.specs.Select.{NamedRegister, Label, scopes, fresh_register, comp_of_type, ordered, select, width}
use Rattle.selection_rules.specs.Follow.{FollowsText, fails}
use Rattle.selection_rules.proofs.Files.{Holds, Under, under_more, named_under, Stands}
use Rattle.selection_rules.proofs.Parts.{Placed, Within, placed_in, Lower, lower_more, Stable, stable_inner, And, stable_and, at, Level, Outs, Fit, fit, Left, holding, After, Ready}
use Rattle.bs_words.specs.declared.types.Ty.TheVariants as ty
use Rattle.selection_rules.specs.Follow.{text_setting}

module _ (c : ActivationSetting) (m : Mach) (turns : ℕ) (ts : List ℕ) where
  abbrev pub end : ℕ
  end = c.setting.end

  -- the code of an expression follows it, whatever is round it
  abbrev pub Selected : Expression → Type 1
  Selected e =
      (env : List NamedRegister) (labels : List Label) (valued tail : Bool) (d : Reg) (b : ℕ) (next : List Instr) (P : File → Type 0) (k : Leaves (Option Value) → Does) →
      width e < 2 ^ 60 → Ready c m turns ts env labels b d → Stable env b d.number P → Placed m ts (select env labels valued tail d b e next) →
      After c m turns ts (Some (type_of (scopes env) e)) env labels valued tail d next P k →
      (h : Here) (f : File) (memory : Memory) → Level c m turns ts h → Stands env h.names f → P f →
      FollowsText c m (does (text_setting c) turns e tail h memory k) (Continues (at c m turns ts (select env labels valued tail d b e next) f memory))

  pub own_fits : (T : Ty) (v : Value) → fits end T v ≡ true → fits end (type_of_comp (comp_of_type T)) v ≡ true
  own_fits ty.NoValue v e = absurd (true≢false (sym e))
  own_fits ty.Never v e = absurd (true≢false (sym e))
  own_fits ty.Int v e = e
  own_fits ty.Val v e = e
  own_fits ty.Addr v e = e

  pub ready_at : {env : List NamedRegister} {labels : List Label} {b : ℕ} (T : Ty) (n i : ℕ) → Lower b labels → Under b env → 21 ≤ b → b ≤ n → n < i → Ready c m turns ts env labels i (fresh_register n T)
  ready_at T n i lower under first le less =
      record { under = under_more i (omega (arith, le, less)) under; lower = lower_more i (omega (arith, le, less)) lower; off = λ q. let small = named_under under q in omega (arith, small, le); below = less; first = omega (arith, first, le) }

  pub outs_and : {A : Type 0} {env : List NamedRegister} {labels : List Label} {P : File → Type 0} {k : Leaves A → Does} (t : Reg) (v : Value) →
      Outs c m turns ts env labels P k → Outs c m turns ts env labels (And P t v) k
  outs_and t v o = record { exit = λ l values h f memory level r p. o.exit l values h f memory level r p.rest; raising = λ v fv h f memory level r p. o.raising v fv h f memory level r p.rest }

  -- the value of an operand is in a register of its own
  pub operand : {B : Type 0} {env : List NamedRegister} {labels : List Label} {P : File → Type 0} (e : Expression) → Selected e → width e < 2 ^ 60 →
      (n i : ℕ) (next : List Instr) (go : Value → Here → Memory → Part B) (k : Leaves B → Does) → Ready c m turns ts env labels i (fresh_register n (type_of (scopes env) e)) → Stable env i n P →
      Placed m ts (select env labels false false (fresh_register n (type_of (scopes env) e)) i e next) →
      Outs c m turns ts env labels P k → (h : Here) (f : File) (memory : Memory) → Level c m turns ts h → Stands env h.names f → P f →
      ((v : Value) (h : Here) (f : File) (memory : Memory) → Level c m turns ts h → Stands env h.names f → P f → fits end (type_of (scopes env) e) v ≡ true →
      Holds (fresh_register n (type_of (scopes env) e)) v f → FollowsText c m (go v h memory k) (Continues (at c m turns ts next f memory))) →
      FollowsText c m (with_value (does (text_setting c) turns e false h memory) go k) (Continues (at c m turns ts (select env labels false false (fresh_register n (type_of (scopes env) e)) i e next) f memory))
  operand {B} {env} {labels} {P} e selected fine n i next go k ready stable ending outs h f memory level s p on =
      selected env labels false false (fresh_register n (type_of (scopes env) e)) i next P (λ l. onward (λ v h memory. only_value v go h memory) l k)
      fine ready stable ending
      (record {
        outs = record { exit = λ l values h f memory level r p. outs.exit l values h f memory level r p; raising = λ v fv h f memory level r p. outs.raising v fv h f memory level r p };
        giving = λ v h f memory level s p left. given v h f memory level s p left;
        lost = λ v h f memory s x misfit'. absurd (lost v x misfit');
        untried = λ q. absurd (true≢false (sym q));
        tailing = λ q. absurd (true≢false (sym q));
      })
      h f memory level s p
    where
      given : (v : Option Value) (h : Here) (f : File) (memory : Memory) → Level c m turns ts h → Stands env h.names f → P f → Left c m turns ts (Some (type_of (scopes env) e)) (fresh_register n (type_of (scopes env) e)) f v →
          FollowsText c m (only_value v go h memory k) (Continues (at c m turns ts next f memory))
      given None h f memory level s p left = fails
      given (Some v) h f memory level s p (holding (fit x) holds) = on v h f memory level s p x holds

      lost : (v : Value) → Fit c m turns ts (Some (type_of (scopes env) e)) v → fits end (type_of_comp (comp_of_type (type_of (scopes env) e))) v ≡ false → ⊥
      lost v (fit x) misfit' = true≢false (sym (own_fits (type_of (scopes env) e) v x) ∙ misfit')

  -- two operands, in the order in which they are evaluated
  pub two : {B : Type 0} {env : List NamedRegister} {labels : List Label} {b d : ℕ} {P : File → Type 0} (left_first : Bool) (left right : Expression) → Selected left → Selected right → width left < 2 ^ 60 → width right < 2 ^ 60 →
      (nx ny ix iy : ℕ) (next : List Instr) (go : Value → Value → Here → Memory → Part B) (k : Leaves B → Does) → Lower b labels → Under b env → 21 ≤ b → Stable env b d P →
      b ≤ nx → b ≤ ny → nx < ix → ny < iy → nx < iy → ny < ix → (nx ≡ ny → ⊥) →
      ((rest : List Instr) → Within rest (select env labels false false (fresh_register nx (type_of (scopes env) left)) ix left rest)) →
      ((rest : List Instr) → Within rest (select env labels false false (fresh_register ny (type_of (scopes env) right)) iy right rest)) →
      Placed m ts (ordered left_first (select env labels false false (fresh_register nx (type_of (scopes env) left)) ix left) (select env labels false false (fresh_register ny (type_of (scopes env) right)) iy right) next) →
      Outs c m turns ts env labels P k → (h : Here) (f : File) (memory : Memory) → Level c m turns ts h → Stands env h.names f → P f →
      ((v w : Value) (h : Here) (f : File) (memory : Memory) → Level c m turns ts h → Stands env h.names f → P f → fits end (type_of (scopes env) left) v ≡ true → fits end (type_of (scopes env) right) w ≡ true →
      Holds (fresh_register nx (type_of (scopes env) left)) v f → Holds (fresh_register ny (type_of (scopes env) right)) w f → FollowsText c m (go v w h memory k) (Continues (at c m turns ts next f memory))) →
      FollowsText c m (both left_first (does (text_setting c) turns left false) (does (text_setting c) turns right false) h memory go k)
      (Continues (at c m turns ts (ordered left_first (select env labels false false (fresh_register nx (type_of (scopes env) left)) ix left) (select env labels false false (fresh_register ny (type_of (scopes env) right)) iy right) next) f memory))
  two {B} {env} {labels} {b} {d} {P} false left right sl sr fl fr nx ny ix iy next go k lower under first stable bx by' xx yy xy yx apart el er ending outs h f memory level s p on =
      let x = fresh_register nx (type_of (scopes env) left) in
      let y = fresh_register ny (type_of (scopes env) right) in
      operand right sr fr ny iy (select env labels false false x ix left next) (λ w h memory. with_value (does (text_setting c) turns left false h memory) (λ v h memory. go v w h memory)) k
      (ready_at (type_of (scopes env) right) ny iy lower under first by' yy) (stable_inner ny iy by' (omega (arith, by', yy)) stable) ending outs h f memory level s p
      (λ w h f memory level s p fw hw.
      operand {P = And P y w} left sl fl nx ix next (λ v h memory. go v w h memory) k
      (ready_at (type_of (scopes env) left) nx ix lower under first bx xx)
      (stable_and y w yx (λ e. apart (sym e)) (λ q. let small = named_under under q in omega (arith, small, by')) (omega (arith, first, by')) (stable_inner nx ix bx (omega (arith, bx, xx)) stable))
      (placed_in (er (select env labels false false x ix left next)) ending) (outs_and y w outs) h f memory level s (record { rest = p; holds = hw })
      (λ v h f memory level s p fv hv. on v w h f memory level s p.rest fv fw hv p.holds))
  two {B} {env} {labels} {b} {d} {P} true left right sl sr fl fr nx ny ix iy next go k lower under first stable bx by' xx yy xy yx apart el er ending outs h f memory level s p on =
      let x = fresh_register nx (type_of (scopes env) left) in
      let y = fresh_register ny (type_of (scopes env) right) in
      operand left sl fl nx ix (select env labels false false y iy right next) (λ v h memory. with_value (does (text_setting c) turns right false h memory) (λ w h memory. go v w h memory)) k
      (ready_at (type_of (scopes env) left) nx ix lower under first bx xx) (stable_inner nx ix bx (omega (arith, bx, xx)) stable) ending outs h f memory level s p
      (λ v h f memory level s p fv hv.
      operand {P = And P x v} right sr fr ny iy next (λ w h memory. go v w h memory) k
      (ready_at (type_of (scopes env) right) ny iy lower under first by' yy)
      (stable_and x v xy apart (λ q. let small = named_under under q in omega (arith, small, bx)) (omega (arith, first, bx)) (stable_inner ny iy by' (omega (arith, by', yy)) stable))
      (placed_in (el (select env labels false false y iy right next)) ending) (outs_and x v outs) h f memory level s (record { rest = p; holds = hv })
      (λ w h f memory level s p fw hw. on v w h f memory level s p.rest fv fw p.holds hw))
