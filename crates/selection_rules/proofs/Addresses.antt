-- Addresses: a base and a constant offset.
use Rattle.std.proofs.Common.{◌≡◌, ℕ, zero, suc, ◌^◌, ◌<◌, ◌≤◌, Bool, true, false, cond, not, ◌&&◌, List, Option, Some, Result, Ok, Err, refl, sym, arith}
use Rattle.std.specs.Prelude.{nat_eq}
use Rattle.std.proofs.lemmas.Bool.{true≢false}
use Rattle.bs_words.specs.Memory.{Memory, sizes}
use Rattle.bs_words.specs.Operators.{apply, sum_of}
use Rattle.bs_words.specs.Word.{add_word}
use Rattle.bs_words.specs.declared.operators.IntOp.{IntOp}
use Rattle.bs_words.specs.declared.operators.IntOp.TheVariants as operators
use Rattle.bs_words.specs.declared.values.Kind.{Kind}
use Rattle.bs_words.specs.declared.values.Value.{Value}
use Rattle.bs_words.specs.declared.values.Value.TheVariants.{Word, Block, Function}
use Rattle.cmm_tree.specs.Tree.{Expression, Operator, Integer}
use Rattle.cmm_types.specs.Types.{type_of}
use Rattle.cmm_meaning.specs.Evaluation.{is_left_first}
use Rattle.cmm_meaning.specs.State.{Here, scope}
use Rattle.meaning_laws.specs.Does.{Leaves, Does}
use Rattle.meaning_laws.specs.Interaction.{Part, onward, of_type, only_value, with_value, both, proper, does}
use Rattle.meaning_laws.specs.Interaction as part
use Rattle.mach_ir.specs.Acts.{moved_by}
use Rattle.mach_ir.specs.Forms.{is_immediate_12}
use Rattle.mach_ir.specs.Runs.{ActivationSetting, Continues}
use Rattle.mach_ir.specs.Meaning.{File}
use Rattle.mach_ir.specs.declared.mach.Instr.{Instr}
use Rattle.mach_ir.specs.declared.mach.Mach.{Mach}
use Rattle.selection_rules.specs.Select.{NamedRegister, Label, scopes, fresh_register, ordered, width, is_address_sum, is_based, offset_of, base_of, select, select_base}
use Rattle.selection_rules.specs.Follow.{text_setting, FollowsText, fails}
use Rattle.selection_rules.proofs.Files.{Holds, Under, named_under, Stands}
use Rattle.selection_rules.proofs.Parts.{Placed, Within, placed_in, Lower, Stable, stable_inner, And, stable_and, at, Level, Outs, of_type_some, node_follows}
use Rattle.selection_rules.proofs.Operands.{Selected, operand, ready_at, outs_and}
use Rattle.selection_rules.proofs.Constants.{constant_operand}

-- what a sum with a constant comes to
pub data Moved (v : Value) : Result Value Kind → Type 0 where
  moved : Moved v (Ok v)
  improper : {kind : Kind} → Moved v (Err kind)

sum_moves : (w : ℕ) (u : Value) → Moved (moved_by (suc w) u) (sum_of u (Word (suc w)))
unfolding add_word
sum_moves w (Word a) = moved
sum_moves w (Block s o) = moved
sum_moves w (Function f) = improper

based_sum : (op : IntOp) (s : List ℕ) (w : ℕ) (u : Value) → is_address_sum op ≡ true → Moved (moved_by (suc w) u) (apply op s u (Word (suc w)))
based_sum operators.AddA s w u e = sum_moves w u
based_sum operators.AddV s w u e = sum_moves w u
based_sum op s w u e = absurd (true≢false (sym e))

both_true : (a b : Bool) → a && b ≡ true → a ≡ true
both_true true b e = refl
both_true false b e = absurd (true≢false (sym e))

no_zero : (a b : Bool) → a && (b && false) ≡ true → ⊥
no_zero true true e = true≢false (sym e)
no_zero true false e = true≢false (sym e)
no_zero false b e = true≢false (sym e)

pub base_moves : (op : IntOp) (s : List ℕ) (w : ℕ) (u : Value) → is_based op w ≡ true → Moved (moved_by w u) (apply op s u (Word w))
base_moves op s zero u e = absurd (no_zero (is_address_sum op) (is_immediate_12 0) e)
base_moves op s (suc w) u e = based_sum op s w u (both_true (is_address_sum op) (is_immediate_12 (suc w) && not (nat_eq (suc w) 0)) e)

module _ (c : ActivationSetting) (m : Mach) (turns : ℕ) (ts : List ℕ) where
  abbrev pub whole_code : List NamedRegister → List Label → ℕ → ℕ → Expression → List Instr → List Instr
  whole_code env labels t i e = select env labels false false (fresh_register t (type_of (scopes env) e)) i e

  -- the base of an address is in a register
  abbrev pub SelectedAddress : Expression → Type 1
  SelectedAddress e =
      (B : Type 0) (env : List NamedRegister) (labels : List Label) (t b i : ℕ) (next : List Instr) (P : File → Type 0) (go : Value → Here → Memory → Part B) (k : Leaves B → Does) →
      width e < 2 ^ 60 → Lower b labels → Under b env → 21 ≤ b → b ≤ t → t < i → Stable env i t P → Placed m ts (select_base env labels t i e (whole_code env labels t i e) next) →
      Outs c m turns ts env labels P k → (h : Here) (f : File) (memory : Memory) → Level c m turns ts h → Stands env h.names f → P f →
      ((u : Value) (h : Here) (f : File) (memory : Memory) → Level c m turns ts h → Stands env h.names f → P f → Holds (fresh_register t (type_of (scopes env) (base_of e))) u f →
      FollowsText c m (go (moved_by (offset_of e) u) h memory k) (Continues (at c m turns ts next f memory))) →
      FollowsText c m (with_value (does (text_setting c) turns e false h memory) go k) (Continues (at c m turns ts (select_base env labels t i e (whole_code env labels t i e) next) f memory))

  pub whole_address : (e : Expression) → Selected c m turns ts e →
      (B : Type 0) (env : List NamedRegister) (labels : List Label) (t b i : ℕ) (next : List Instr) (P : File → Type 0) (go : Value → Here → Memory → Part B) (k : Leaves B → Does) →
      width e < 2 ^ 60 → Lower b labels → Under b env → 21 ≤ b → b ≤ t → t < i → Stable env i t P → Placed m ts (whole_code env labels t i e next) →
      Outs c m turns ts env labels P k → (h : Here) (f : File) (memory : Memory) → Level c m turns ts h → Stands env h.names f → P f →
      ((u : Value) (h : Here) (f : File) (memory : Memory) → Level c m turns ts h → Stands env h.names f → P f → Holds (fresh_register t (type_of (scopes env) e)) u f → FollowsText c m (go u h memory k) (Continues (at c m turns ts next f memory))) →
      FollowsText c m (with_value (does (text_setting c) turns e false h memory) go k) (Continues (at c m turns ts (whole_code env labels t i e next) f memory))
  whole_address e se B env labels t b i next P go k fine lower under first bt ti stable placed outs h f memory level s p on =
      operand c m turns ts e se fine t i next go k (ready_at c m turns ts (type_of (scopes env) e) t i lower under first bt ti) stable placed outs h f memory level s p
      (λ u h f memory level s p fu hu. on u h f memory level s p hu)

  module _ (place : ℕ) (op : IntOp) (base : Expression) (place' w : ℕ) where
    abbrev sum : Expression
    sum = Operator place op base (Integer place' w)

    based_address : is_based op w ≡ true → Selected c m turns ts base →
        (B : Type 0) (env : List NamedRegister) (labels : List Label) (t b i : ℕ) (next : List Instr) (P : File → Type 0) (go : Value → Here → Memory → Part B) (k : Leaves B → Does) →
        width sum < 2 ^ 60 → Lower b labels → Under b env → 21 ≤ b → b ≤ t → t < i → Stable env i t P → Placed m ts (whole_code env labels t i base next) →
        Outs c m turns ts env labels P k → (h : Here) (f : File) (memory : Memory) → Level c m turns ts h → Stands env h.names f → P f →
        ((u : Value) (h : Here) (f : File) (memory : Memory) → Level c m turns ts h → Stands env h.names f → P f → Holds (fresh_register t (type_of (scopes env) base)) u f →
        FollowsText c m (go (moved_by w u) h memory k) (Continues (at c m turns ts next f memory))) →
        FollowsText c m (with_value (does (text_setting c) turns sum false h memory) go k) (Continues (at c m turns ts (whole_code env labels t i base next) f memory))
    based_address is sb B env labels t b i next P go k fine lower under first bt ti stable placed outs h f memory level s p on =
        node_follows c m turns ts sum h memory
        (both (is_left_first (scope h) base (Integer place' w)) (does (text_setting c) turns base false) (does (text_setting c) turns (Integer place' w) false) h memory step) taking _ s
        (constant_operand c m turns place' w h memory (λ x h memory. with_value (does (text_setting c) turns base false h memory) (λ v h memory. step v x h memory)) kk _ refl
        (operand c m turns ts base sb (omega (arith, fine)) t i next (λ v h memory. step v (Word w) h memory) kk
        (ready_at c m turns ts (type_of (scopes env) base) t i lower under first bt ti) stable placed
        (record { exit = λ l values h f memory level r p. outs.exit l values h f memory level r p; raising = λ v fv h f memory level r p. outs.raising v fv h f memory level r p }) h f memory level s p
        (λ u h f memory level s p fu hu. by u h f memory level s p hu (apply op (sizes memory) u (Word w)) (base_moves op (sizes memory) w u is))))
      where
        taking : Leaves (Option Value) → Does
        taking = λ l. onward (λ v h memory. only_value v go h memory) l k

        kk : Leaves (Option Value) → Does
        kk = λ l. onward (λ v h memory. of_type c.setting.end (type_of (scopes env) (Operator place op base (Integer place' w))) v h memory) l (λ l. onward (λ v h memory. only_value v go h memory) l k)

        step : Value → Value → Here → Memory → Part (Option Value)
        step = λ v x h memory. proper (apply op (sizes memory) v x) memory (λ u. part.gives (Some u) h memory)

        by : (u : Value) (h : Here) (f : File) (memory : Memory) → Level c m turns ts h → Stands env h.names f → P f → Holds (fresh_register t (type_of (scopes env) base)) u f → (r : Result Value Kind) → Moved (moved_by w u) r →
            FollowsText c m (proper r memory (λ v. part.gives (Some v) h memory) kk) (Continues (at c m turns ts next f memory))
        by u h f memory level s p hu r improper = fails
        by u h f memory level s p hu r moved =
            of_type_some c m turns ts taking (Continues (at c m turns ts next f memory)) (type_of (scopes env) sum) (moved_by w u) h memory (λ fit'. on u h f memory level s p hu) (λ none'. fails)

    pub sum_address : Selected c m turns ts base → Selected c m turns ts sum → SelectedAddress sum
    sum_address sb ss B env labels t b i next P go k fine lower under first bt ti stable placed outs h f memory level s p on = by (is_based op w) refl placed on
      where
        by : (q : Bool) → is_based op w ≡ q → Placed m ts (cond q (whole_code env labels t i base next) (whole_code env labels t i sum next)) →
            ((u : Value) (h : Here) (f : File) (memory : Memory) → Level c m turns ts h → Stands env h.names f → P f → Holds (fresh_register t (type_of (scopes env) (cond q base sum))) u f →
            FollowsText c m (go (moved_by (cond q w 0) u) h memory k) (Continues (at c m turns ts next f memory))) →
            FollowsText c m (with_value (does (text_setting c) turns sum false h memory) go k) (Continues (at c m turns ts (cond q (whole_code env labels t i base next) (whole_code env labels t i sum next)) f memory))
        by true is placed on = based_address is sb B env labels t b i next P go k fine lower under first bt ti stable placed outs h f memory level s p on
        by false is placed on = whole_address sum ss B env labels t b i next P go k fine lower under first bt ti stable placed outs h f memory level s p on

  -- an address and another operand, in the order in which they are evaluated
  pub address_two : {B : Type 0} {env : List NamedRegister} {labels : List Label} {b d : ℕ} {P : File → Type 0} (left_first : Bool) (left e : Expression) → SelectedAddress left → Selected c m turns ts e → width left < 2 ^ 60 → width e < 2 ^ 60 →
      (nx ny ix iy : ℕ) (next : List Instr) (go : Value → Value → Here → Memory → Part B) (k : Leaves B → Does) → Lower b labels → Under b env → 21 ≤ b → Stable env b d P →
      b ≤ nx → b ≤ ny → nx < ix → ny < iy → nx < iy → ny < ix → (nx ≡ ny → ⊥) →
      ((rest : List Instr) → Within rest (select_base env labels nx ix left (whole_code env labels nx ix left) rest)) →
      ((rest : List Instr) → Within rest (whole_code env labels ny iy e rest)) →
      Placed m ts (ordered left_first (select_base env labels nx ix left (whole_code env labels nx ix left)) (whole_code env labels ny iy e) next) →
      Outs c m turns ts env labels P k → (h : Here) (f : File) (memory : Memory) → Level c m turns ts h → Stands env h.names f → P f →
      ((u w : Value) (h : Here) (f : File) (memory : Memory) → Level c m turns ts h → Stands env h.names f → P f → Holds (fresh_register nx (type_of (scopes env) (base_of left))) u f → Holds (fresh_register ny (type_of (scopes env) e)) w f →
      FollowsText c m (go (moved_by (offset_of left) u) w h memory k) (Continues (at c m turns ts next f memory))) →
      FollowsText c m (both left_first (does (text_setting c) turns left false) (does (text_setting c) turns e false) h memory go k)
      (Continues (at c m turns ts (ordered left_first (select_base env labels nx ix left (whole_code env labels nx ix left)) (whole_code env labels ny iy e) next) f memory))
  address_two {B} {env} {labels} {b} {d} {P} false left e sl se fl fe nx ny ix iy next go k lower under first stable bx by' xx yy xy yx apart el er placed outs h f memory level s p on =
      let y = fresh_register ny (type_of (scopes env) e) in
      operand c m turns ts e se fe ny iy (select_base env labels nx ix left (whole_code env labels nx ix left) next) (λ w h memory. with_value (does (text_setting c) turns left false h memory) (λ v h memory. go v w h memory)) k
      (ready_at c m turns ts (type_of (scopes env) e) ny iy lower under first by' yy) (stable_inner ny iy by' (omega (arith, by', yy)) stable) placed outs h f memory level s p
      (λ w h f memory level s p fw hw.
      sl B env labels nx b ix next (And P y w) (λ v h memory. go v w h memory) k fl lower under first bx xx
      (stable_and y w yx (λ e. apart (sym e)) (λ q. let small = named_under under q in omega (arith, small, by')) (omega (arith, first, by')) (stable_inner nx ix bx (omega (arith, bx, xx)) stable))
      (placed_in (er (select_base env labels nx ix left (whole_code env labels nx ix left) next)) placed) (outs_and c m turns ts y w outs) h f memory level s (record { rest = p; holds = hw })
      (λ u h f memory level s p hu. on u w h f memory level s p.rest hu p.holds))
  address_two {B} {env} {labels} {b} {d} {P} true left e sl se fl fe nx ny ix iy next go k lower under first stable bx by' xx yy xy yx apart el er placed outs h f memory level s p on =
      let x = fresh_register nx (type_of (scopes env) (base_of left)) in
      sl B env labels nx b ix (whole_code env labels ny iy e next) P (λ v h memory. with_value (does (text_setting c) turns e false h memory) (λ w h memory. go v w h memory)) k fl lower under first bx xx
      (stable_inner nx ix bx (omega (arith, bx, xx)) stable) placed outs h f memory level s p
      (λ u h f memory level s p hu.
      operand c m turns ts {P = And P x u} e se fe ny iy next (λ w h memory. go (moved_by (offset_of left) u) w h memory) k
      (ready_at c m turns ts (type_of (scopes env) e) ny iy lower under first by' yy)
      (stable_and x u xy apart (λ q. let small = named_under under q in omega (arith, small, bx)) (omega (arith, first, bx)) (stable_inner ny iy by' (omega (arith, by', yy)) stable))
      (placed_in (el (whole_code env labels ny iy e next)) placed) (outs_and c m turns ts x u outs) h f memory level s (record { rest = p; holds = hu })
      (λ w h f memory level s p fw hw. on u w h f memory level s p.rest p.holds hw))
