-- Lines that read registers alone: constants, copies and operators.
use Rattle.std.proofs.Common.{◌≡◌, ℕ, ◌+◌, ◌⊎◌, inl, inr, Bool, true, false, cond, List, [], ◌∷◌, length, Some, None, Result, Ok, Err, slice_index, refl, ap, ◌∙◌, sym, subst, ⊎_elim}
use Rattle.bs_words.specs.Memory.{sizes}
use Rattle.bs_words.specs.Operators.{apply}
use Rattle.bs_words.specs.declared.operators.IntOp.{IntOp}
use Rattle.bs_words.specs.declared.types.Loc.{Loc}
use Rattle.bs_words.specs.declared.types.Loc.TheVariants as loc
use Rattle.bs_words.specs.declared.values.Kind.{Kind}
use Rattle.bs_words.specs.declared.values.Value.{Value}
use Rattle.bs_words.specs.declared.values.Value.TheVariants.{Word}
use Rattle.mach_ir.specs.Acts.{Around, one_result}
use Rattle.mach_ir.specs.Runs.{ActivationSetting}
use Rattle.mach_ir.specs.declared.op.CopyKind.{CopyKind}
use Rattle.mach_ir.specs.declared.op.Right.TheVariants as right
use Rattle.mach_ir.specs.declared.op.Pure.TheVariants as pure
use Rattle.mach_ir.specs.declared.op.Op.TheVariants as op
use Rattle.rv_machine.specs.Hart.{Placed}
use Rattle.lin_ir.specs.Formed.{spare}
use Rattle.lin_ir.specs.Meaning.{Locations, NamedAt, step, on_act, on_values, assign_spot, same_loc}
use Rattle.lin_ir.specs.declared.lin.LinOp.TheVariants as lin
use Rattle.lin_ir.specs.declared.lin.Lin.{Lin}
use Rattle.lin_ir.specs.declared.lin.Line.{Line}
use Rattle.lin_ir.specs.declared.lin.Spot.{Spot}
use Rattle.moving_laws.specs.Stands.{AmongNumbers}
use Rattle.lin_laws.proofs.Forms.{same_machine}
use Rattle.lin_machine.specs.Follows.{Agrees, FollowsStep}
use Rattle.lin_machine.specs.Relation.{Below, Laid, StandsFor, Within, blocks_by_serial}
use Rattle.lin_machine.specs.Straight.{Changes, LeadsFurther}
use Rattle.lin_machine.specs.View.{Fixed, View}
use Rattle.lin_machine.proofs.Following.{PassesSpare, result_follows, same_loc-true}
use Rattle.lin_machine.proofs.Operating.{IsTarget, binary, unary, worked}
use Rattle.lin_machine.proofs.Parts.{Fetches, Keeps, comes_here}
use Rattle.lin_machine.proofs.Reading.{reads_one, reads_two}
use Rattle.lin_machine.proofs.Sequences.{widened}
use Rattle.lin_machine.proofs.Standing.{IsScratch, within_less}
use Rattle.moving_laws.proofs.Words.{same_or_not}

-- a location that is read holds in the machine what it holds in the file
abbrev pub Reads : Type 0 → Loc → Type 0
Reads before l = (l ≡ spare) → before

same_or_spare : (l : Loc) → (l ≡ spare) ⊎ (l ≡ spare → ⊥)
same_or_spare (loc.Machine r) = ⊎_elim (λ e. inl (ap loc.Machine e)) (λ n. inr (λ e. n (same_machine r 5 e))) (same_or_not r 5)
same_or_spare (loc.Slot k) = inr (λ e. absurd (cc))
same_or_spare loc.Unset = inr (λ e. absurd (cc))

pub reads_held : (before : Type 0) (held file : Locations) (l : Loc) → Agrees before held file → Reads before l → held l ≡ file l
reads_held before held file l agrees reads =
    ⊎_elim (λ e. subst (λ k. held k ≡ file k) (sym e) (agrees.spare_too (reads e))) (λ n. agrees.others l n) (same_or_spare l)

module _ (s : Fixed) (laid : Laid) (live : List Line → Type 0) (entry : ℕ → ℕ) (c : Below) (place : ActivationSetting) (named : NamedAt) (code : Lin) (next : List Line)
    (v : View) (young : List Placed) (held file : Locations) (a : Around) (none : a.raised ≡ None) (within : Within s laid v young 0 held a c)
    (before : Type 0) (agrees : Agrees before held file) (r : Spot) (passes : PassesSpare before (live next) r.loc)
    (t : ℕ) (rest : Locations) (target : IsTarget held rest t) (rs : List ℕ) (only : (q : ℕ) → AmongNumbers q rs → (q ≡ t) ⊎ IsScratch q) where
  -- ---- constants

  pub constant_follows :
      (w n m : ℕ) → laid.part (length next) ≡ v.place + (n + m) → ((z : Value) → Keeps s laid young a c rest (assign_spot r z held) (v.place + n) m t z) →
      Changes s v n rs v.memory (λ u. slice_index u.registers t ≡ w) →
      FollowsStep (n + m) s laid live entry c v
      (step place named code (record {
        rest = record { op = lin.Op (op.Pure (pure.Constant w)); args = []; results = r ∷ [] } ∷ next;
        file = file;
        around = a;
      }))
  constant_follows w n m laid_next keeps work =
      result_follows s laid live entry c v next before (n + m) place.setting.end r (Word w) young held file a laid_next agrees passes
      (λ fit. worked s laid young a c none held rest (assign_spot r (Word w) held) v.place n t rs (Word w) target only m (keeps (Word w)) v refl within
      (widened s v n rs rs v.memory _ _ (λ q i. i) (λ u past e. record { is = e; known = tt }) work))

  -- ---- operators of two locations

  pub operator_follows :
      (f : IntOp) (p q : Spot) (n1 n2 n m ra rb : ℕ) (scratch1 scratch2 : List ℕ) → laid.part (length next) ≡ v.place + (n1 + (n2 + (n + m))) →
      Reads before p.loc → Reads before q.loc → (AmongNumbers ra scratch2 → ⊥) →
      ((x : Value) → held p.loc ≡ Some x → Fetches s laid young a c held v.place n1 scratch1 ra x) →
      ((y : Value) → held q.loc ≡ Some y → Fetches s laid young a c held (v.place + n1) n2 scratch2 rb y) →
      ((z : Value) → Keeps s laid young a c rest (assign_spot r z held) (v.place + n1 + n2 + n) m t z) →
      ((x y z : Value) (u : View) → apply f (sizes a.memory) x y ≡ Ok z → u.place ≡ v.place + n1 + n2 → Within s laid u young 0 held a c →
      StandsFor s (blocks_by_serial u young) (slice_index u.registers ra) x → StandsFor s (blocks_by_serial u young) (slice_index u.registers rb) y →
      Changes s u n rs u.memory (λ w. StandsFor s (blocks_by_serial u young) (slice_index w.registers t) z)) →
      FollowsStep (n1 + (n2 + (n + m))) s laid live entry c v
      (step place named code (record {
        rest = record { op = lin.Op (op.Pure (pure.Operator f right.Register)); args = p ∷ q ∷ []; results = r ∷ [] } ∷ next;
        file = file;
        around = a;
      }))
  operator_follows f p q n1 n2 n m ra rb scratch1 scratch2 laid_next reads_p reads_q apart first second keeps work =
      reads_two place.setting.end file (λ vs. FollowsStep count s laid live entry c v (on_values place (named (length next)) code line next file a vs)) tt p q
      (λ x y h e k g. by_result x y (apply f (sizes a.memory) x y) refl h k)
    where
      count : ℕ
      count = n1 + (n2 + (n + m))

      line : Line
      line = record { op = lin.Op (op.Pure (pure.Operator f right.Register)); args = p ∷ q ∷ []; results = r ∷ [] }

      by_result : (x y : Value) (o : Result Value Kind) → apply f (sizes a.memory) x y ≡ o → file p.loc ≡ Some x → file q.loc ≡ Some y →
          FollowsStep (n1 + (n2 + (n + m))) s laid live entry c v (on_act place code (record {
            op = lin.Op (op.Pure (pure.Operator f right.Register));
            args = p ∷ q ∷ [];
            results = r ∷ [];
          }) next file a (one_result a o))
      by_result x y (Err kind) e h k = tt
      by_result x y (Ok z) e h k =
          result_follows s laid live entry c v next before (n1 + (n2 + (n + m))) place.setting.end r z young held file a laid_next agrees passes
          (λ fit. binary s laid young a c none held rest (assign_spot r z held) v.place n1 n2 n m ra rb t scratch1 scratch2 rs x y z
          (first x (reads_held before held file p.loc agrees reads_p ∙ h))
          (second y (reads_held before held file q.loc agrees reads_q ∙ k)) apart target only (keeps z)
          (λ u pl w sx sy. work x y z u e pl w sx sy) v refl within)

  -- ---- operators of a location and a constant

  pub operator_with_follows :
      (f : IntOp) (k : ℕ) (p : Spot) (n1 n m ra : ℕ) (scratch : List ℕ) → laid.part (length next) ≡ v.place + (n1 + (n + m)) → Reads before p.loc →
      ((x : Value) → held p.loc ≡ Some x → Fetches s laid young a c held v.place n1 scratch ra x) →
      ((z : Value) → Keeps s laid young a c rest (assign_spot r z held) (v.place + n1 + n) m t z) →
      ((x z : Value) (u : View) → apply f (sizes a.memory) x (Word k) ≡ Ok z → u.place ≡ v.place + n1 → Within s laid u young 0 held a c →
      StandsFor s (blocks_by_serial u young) (slice_index u.registers ra) x →
      Changes s u n rs u.memory (λ w. StandsFor s (blocks_by_serial u young) (slice_index w.registers t) z)) →
      FollowsStep (n1 + (n + m)) s laid live entry c v
      (step place named code (record {
        rest = record { op = lin.Op (op.Pure (pure.Operator f (right.Constant k))); args = p ∷ []; results = r ∷ [] } ∷ next;
        file = file;
        around = a;
      }))
  operator_with_follows f k p n1 n m ra scratch laid_next reads_p first keeps work =
      reads_one place.setting.end file (λ vs. FollowsStep (n1 + (n + m)) s laid live entry c v (on_values place (named
      (length next)) code line next file a vs)) tt p
      (λ x h e. by_result x (apply f (sizes a.memory) x (Word k)) refl h)
    where
      line : Line
      line = record { op = lin.Op (op.Pure (pure.Operator f (right.Constant k))); args = p ∷ []; results = r ∷ [] }

      by_result : (x : Value) (o : Result Value Kind) → apply f (sizes a.memory) x (Word k) ≡ o → file p.loc ≡ Some x →
          FollowsStep (n1 + (n + m)) s laid live entry c v
          (on_act place code (record {
            op = lin.Op (op.Pure (pure.Operator f (right.Constant k)));
            args = p ∷ [];
            results = r ∷ [];
          }) next file a (one_result a o))
      by_result x (Err kind) e h = tt
      by_result x (Ok z) e h =
          result_follows s laid live entry c v next before (n1 + (n + m)) place.setting.end r z young held file a laid_next agrees passes
          (λ fit. unary s laid young a c none held rest (assign_spot r z held) v.place n1 n m ra t scratch rs x z
          (first x (reads_held before held file p.loc agrees reads_p ∙ h)) target only (keeps z) (λ u pl w sx. work x z u e pl w sx) v refl within)

-- ---- copies

-- whatever its words are, they bring the value to its location
pub copy_follows :
    (s : Fixed) (laid : Laid) (live : List Line → Type 0) (entry : ℕ → ℕ) (c : Below) (place : ActivationSetting) (named : NamedAt) (code : Lin) (next : List Line)
    (v : View) (young : List Placed) (held file : Locations) (a : Around) (before : Type 0) → Agrees before held file → (p r : Spot) →
    PassesSpare before (live next) r.loc →
    (kind : CopyKind) (n : ℕ) → laid.part (length next) ≡ v.place + n → Reads before p.loc →
    ((x : Value) → held p.loc ≡ Some x → LeadsFurther s v n (λ w. Within s laid w young 0 (assign_spot r x held) a c)) →
    FollowsStep n s laid live entry c v
    (step place named code (record {
      rest = record { op = lin.Op (op.Pure (pure.Copy kind)); args = p ∷ []; results = r ∷ [] } ∷ next;
      file = file;
      around = a;
    }))
copy_follows s laid live entry c place named code next v young held file a before agrees p r passes kind n laid_next reads_p copies =
    reads_one place.setting.end file
    (λ vs. FollowsStep n s laid live entry c v (on_values place (named (length next)) code (record {
      op = lin.Op (op.Pure (pure.Copy kind));
      args = p ∷ [];
      results = r ∷ [];
    }) next file a vs)) tt p
    (λ x h e.
    result_follows s laid live entry c v next before n place.setting.end r x young held file a laid_next agrees passes
    (λ fit. copies x (reads_held before held file p.loc agrees reads_p ∙ h)))

-- a copy from a location to itself has no words
pub copy_nothing :
    (s : Fixed) (laid : Laid) (v : View) (young : List Placed) (held : Locations) (a : Around) (c : Below) → Within s laid v young 0 held a c → (r : Spot)
    (x : Value) → held r.loc ≡ Some x →
    LeadsFurther s v 0 (λ w. Within s laid w young 0 (assign_spot r x held) a c)
copy_nothing s laid v young held a c within r x h =
    comes_here s v (λ w. Within s laid w young 0 (assign_spot r x held) a c)
    (within_less s laid v young 0 held (assign_spot r x held) a c (record { each = λ l y e. by_test l y (same_loc r.loc l) refl e }) within)
  where
    by_test : (l : Loc) (y : Value) (t : Bool) → same_loc r.loc l ≡ t → cond t (Some x) (held l) ≡ Some y → held l ≡ Some y
    by_test l y true e h2 = subst (λ k. held k ≡ Some y) (sym (same_loc-true r.loc l e)) (h ∙ h2)
    by_test l y false e h2 = h2
