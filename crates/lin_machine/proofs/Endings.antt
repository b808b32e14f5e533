-- Lines that return and raise, and those that push, pop and enter a try.
use Rattle.std.proofs.Common.{◌≡◌, ℕ, ◌≤◌, Bool, true, false, ◌&&◌, List, [], ◌∷◌, length, Some, None, refl, arith, ◌∙◌, sym, subst}
use Rattle.std.proofs.lemmas.Bool.{and_parts}
use Rattle.bs_words.specs.Fits.{fits}
use Rattle.bs_words.specs.declared.types.Loc.TheVariants as loc
use Rattle.bs_words.specs.declared.types.Ty.TheVariants as ty
use Rattle.bs_words.specs.declared.values.Value.{Value}
use Rattle.cmm_meaning.specs.State.{Gave, Threw}
use Rattle.mach_ir.specs.Acts.{Around, Ends, drop_tries, is_complete, stuck_unless, raised_by}
use Rattle.mach_ir.specs.Runs.{ActivationSetting}
use Rattle.mach_ir.specs.declared.op.Leaving.TheVariants as leaving
use Rattle.mach_ir.specs.declared.op.Op.TheVariants as op
use Rattle.rv_machine.specs.Hart.{Placed}
use Rattle.lin_ir.specs.Formed.{spare}
use Rattle.lin_ir.specs.Meaning.{Locations, NamedAt, after_label, at_handler, on_act, on_values, step}
use Rattle.lin_ir.specs.declared.lin.Flow.TheVariants as flow
use Rattle.lin_ir.specs.declared.lin.LinOp.TheVariants as lin
use Rattle.lin_ir.specs.declared.lin.Lin.{Lin}
use Rattle.lin_ir.specs.declared.lin.Line.{Line}
use Rattle.lin_ir.specs.declared.lin.Spot.{Spot}
use Rattle.lin_laws.proofs.Forms.{same_machine}
use Rattle.lin_machine.specs.Arrival.{ArrivesIn}
use Rattle.lin_machine.specs.Follows.{Agrees, FollowsStep, IsAt, IsDone, needs_of}
use Rattle.lin_machine.specs.Moments.{AtReturn, AtThrow}
use Rattle.lin_machine.specs.Relation.{Below, Laid}
use Rattle.lin_machine.specs.View.{Fixed, View, ReachesView}
use Rattle.lin_machine.proofs.Arriving.{leads_in}
use Rattle.lin_machine.proofs.Pure.{reads_held}
use Rattle.lin_machine.proofs.Reading.{reads_one}

module _ (s : Fixed) (laid : Laid) (live : List Line → Type 0) (entry : ℕ → ℕ) (c : Below) (place : ActivationSetting) (named : NamedAt) (code : Lin) (next : List Line)
    (v : View) (young : List Placed) (held file : Locations) (a : Around) (before : Type 0) (agrees : Agrees before held file) where
  -- words that lead to where something holds
  pub record Leading (n : ℕ) (P : View → Type 0) : Type 0 where
    pub view : View
    pub leads : ReachesView s n v view
    pub holds : P view

  -- ---- returns: the value, if there is one, is in a0

  pub return_nothing : (n : ℕ) → (is_complete a ≡ true → Leading n (λ w. AtReturn s w young None a.memory c)) →
      FollowsStep n s laid live entry c v (step place named code (record {
        rest = record {
          op = lin.Op (op.Leaving leaving.Return);
          args = [];
          results = [];
        } ∷ next;
        file = file;
        around = a;
      }))
  return_nothing n words = by_test (is_complete a) refl
    where
      by_test : (t : Bool) → is_complete a ≡ t →
          FollowsStep n s laid live entry c v (on_act place code (record {
            op = lin.Op (op.Leaving leaving.Return);
            args = [];
            results = [];
          }) next file a (stuck_unless t (Ends (Gave None a.memory))))
      by_test false e = tt
      by_test true e = let w = words e in leads_in 0 n s n (omega arith) (omega arith) v w.view (IsDone s c (Gave None a.memory)) w.leads (young, w.holds)

  pub return_value : (p : Spot) (n : ℕ) → p.loc ≡ loc.Machine 10 →
      ((x : Value) → held (loc.Machine 10) ≡ Some x → is_complete a ≡ true → Leading n (λ w. AtReturn s w young (Some x) a.memory c)) →
      FollowsStep n s laid live entry c v (step place named code (record {
        rest = record {
          op = lin.Op (op.Leaving leaving.Return);
          args = p ∷ [];
          results = [];
        } ∷ next;
        file = file;
        around = a;
      }))
  return_value p n seat words =
      reads_one place.setting.end file
      (λ vs. FollowsStep n s laid live entry c v (on_values place (named (length next)) code (record {
        op = lin.Op (op.Leaving leaving.Return);
        args = p ∷ [];
        results = [];
      }) next file a vs)) tt p
      (λ x h e. by_test x (is_complete a) refl (reads_held before held file (loc.Machine 10) agrees (λ q. absurd (not_spare q))
      ∙ subst (λ l. file l ≡ Some x) seat h))
    where
      not_spare : loc.Machine 10 ≡ spare → ⊥
      not_spare q = absurd (let e = same_machine 10 5 q in omega (arith, e))

      by_test : (x : Value) (t : Bool) → is_complete a ≡ t → held (loc.Machine 10) ≡ Some x →
          FollowsStep n s laid live entry c v (on_act place code (record {
            op = lin.Op (op.Leaving leaving.Return);
            args = p ∷ [];
            results = [];
          }) next file a (stuck_unless t (Ends (Gave (Some x) a.memory))))
      by_test x false e h = tt
      by_test x true e h = let w = words x h e in leads_in 0 n s n (omega arith)
          (omega arith) v w.view (IsDone s c (Gave (Some x) a.memory)) w.leads (young, w.holds)

  -- ---- a raise, of a value in a0

  pub raise_follows : (p : Spot) (n : ℕ) → 1 ≤ n → p.loc ≡ loc.Machine 10 →
      ((x : Value) → held (loc.Machine 10) ≡ Some x → is_complete a ≡ true → a.tries ≡ [] → Leading n (λ w. AtThrow s w young x a.memory c)) →
      ((x : Value) (l : ℕ) (tries : List ℕ) → held (loc.Machine 10) ≡ Some x → a.tries ≡ l ∷ tries →
      Leading n (λ w. IsAt s laid live c (record { rest = after_label l code.code; file = file; around = record a { tries = tries; raised = Some x } }) w)) →
      FollowsStep n s laid live entry c v (step place named code (record {
        rest = record {
          op = lin.Op (op.Leaving leaving.Raise);
          args = p ∷ [];
          results = [];
        } ∷ next;
        file = file;
        around = a;
      }))
  raise_follows p n some seat out own =
      reads_one place.setting.end file (λ vs. FollowsStep n s laid live entry c v (on_values place (named (length next)) code line next file a vs)) tt p
      (λ x h e. by_test x (is_complete a && fits place.setting.end ty.Val x) refl (reads_held before held file (loc.Machine 10) agrees (λ q. absurd
      (not_spare q)) ∙ subst (λ l. file l ≡ Some x) seat h))
    where
      line : Line
      line = record { op = lin.Op (op.Leaving leaving.Raise); args = p ∷ []; results = [] }

      not_spare : loc.Machine 10 ≡ spare → ⊥
      not_spare q = absurd (let e = same_machine 10 5 q in omega (arith, e))

      by_tries : (x : Value) (tries : List ℕ) → a.tries ≡ tries → is_complete a ≡ true → held (loc.Machine 10) ≡ Some x →
          FollowsStep n s laid live entry c v (on_act place code (record {
            op = lin.Op (op.Leaving leaving.Raise);
            args = p ∷ [];
            results = [];
          }) next file a (raised_by x a tries))
      by_tries x [] e whole h = let w = out x h whole e in leads_in 1 n s n some (omega arith) v w.view (IsDone s c (Threw x a.memory)) w.leads (young, w.holds)
      by_tries x (l ∷ tries) e whole h =
          let w = own x l tries h e in
          leads_in 1 n s n some (omega arith) v w.view (IsAt s laid live c (record {
            rest = at_handler code.code a.tries;
            file = file;
            around = record a { tries = tries; raised = Some x };
          })) w.leads
          (subst (λ ts. IsAt s laid live c (record {
            rest = at_handler code.code ts;
            file = file;
            around = record a { tries = tries; raised = Some x };
          }) w.view) (sym e) w.holds)

      by_test : (x : Value) (t : Bool) → (is_complete a && fits place.setting.end ty.Val x) ≡ t → held (loc.Machine 10) ≡ Some x →
          FollowsStep n s laid live entry c v (on_act place code (record {
            op = lin.Op (op.Leaving leaving.Raise);
            args = p ∷ [];
            results = [];
          }) next file a (stuck_unless t (raised_by x a a.tries)))
      by_test x false e h = tt
      by_test x true e h = by_tries x a.tries refl (and_parts (is_complete a) (fits place.setting.end ty.Val x) e).0 h

  -- ---- tries

  -- a push may find no stack
  pub push_follows : (l n : ℕ) →
      ArrivesIn 0 n s (needs_of laid c (record { rest = next; file = file; around = record a { tries = l ∷ a.tries } })) v
      (IsAt s laid live c (record { rest = next; file = file; around = record a { tries = l ∷ a.tries } })) →
      FollowsStep n s laid live entry c v (step place named code (record {
        rest = record { op = lin.Flow (flow.PushTrap l); args = []; results = [] } ∷ next;
        file = file;
        around = a;
      }))
  push_follows l n arrives = arrives

  pub pop_follows : (n : ℕ) → Leading n (λ w. IsAt s laid live c (record { rest = next; file = file; around = record a { tries = drop_tries 1 a.tries } }) w) →
      FollowsStep n s laid live entry c v (step place named code (record {
        rest = record { op = lin.Flow flow.PopTrap; args = []; results = [] } ∷ next;
        file = file;
        around = a;
      }))
  pop_follows n words =
      leads_in 0 n s n (omega arith) (omega arith) v words.view (IsAt s laid live c (record {
        rest = next;
        file = file;
        around = record a { tries = drop_tries 1 a.tries };
      })) words.leads words.holds
