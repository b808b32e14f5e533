-- Where the handlers of pushed traps are entered.
use Rattle.std.proofs.Common.{◌≡◌, ℕ, Bool, true, false, cond, List, [], ◌∷◌, ◌++◌, AllPairs, refl, sym, ap, ◌∙◌, subst}
use Rattle.std.specs.List.{Contains}
use Rattle.std.proofs.lemmas.Bool.{eq-eqb}
use Rattle.lin_ir.specs.Formed.{EntersAt, enters_here, enters_below, pushes, WellFormed, label_of, labels_in}
use Rattle.lin_ir.specs.Meaning.{after_label, has_label}
use Rattle.lin_ir.specs.Walks.{goes, raises, Reached, at_entry, by_step, by_raise, tries_after}
use Rattle.lin_ir.specs.declared.lin.Flow.TheVariants as flow
use Rattle.lin_ir.specs.declared.lin.Line.{Line}
use Rattle.lin_ir.specs.declared.lin.Lin.{Lin}
use Rattle.lin_ir.specs.declared.lin.LinOp.{LinOp}
use Rattle.lin_ir.specs.declared.lin.LinOp.TheVariants as lin
use Rattle.linearise_rules.proofs.Homes.{IsIn, contains_of, is_first, is_later}
use Rattle.linearise_rules.proofs.Marks.{all_in, Differ}
use Rattle.linearise_rules.proofs.Walked.{reached_tail, tail_in}
use Rattle.bs_words.proofs.Lists.{pairs_here}
use Rattle.lin_tidy_rules.proofs.Ends.{label_is, pairs_past}

-- ---- traps are pushed by lines

-- the label of a trap that some line pushes
pub record Pushed (m : Lin) (l : ℕ) : Type 0 where
  pub line : Line
  pub among : IsIn line m.code
  pub is : line.op ≡ lin.Flow (flow.PushTrap l)

kept : (m : Lin) (i : Line) (g : LinOp) → IsIn i m.code → i.op ≡ g → (tries : List ℕ) → ((l : ℕ) → IsIn l tries → Pushed m l) →
    (l : ℕ) → IsIn l (tries_after g tries) → Pushed m l
kept m i (lin.Flow (flow.PushTrap k)) among e tries all l is_first = record { line = i; among = among; is = e }
kept m i (lin.Flow (flow.PushTrap k)) among e tries all l (is_later z) = all l z
kept m i (lin.Flow flow.PopTrap) among e [] all l z = all l z
kept m i (lin.Flow flow.PopTrap) among e (t ∷ tries) all l z = all l (is_later z)
kept m i (lin.Flow (flow.Label k)) among e tries all l z = all l z
kept m i (lin.Flow (flow.Jump k)) among e tries all l z = all l z
kept m i (lin.Flow (flow.Exit k)) among e tries all l z = all l z
kept m i (lin.Flow (flow.Branch t k)) among e tries all l z = all l z
kept m i (lin.Flow (flow.Switch ks)) among e tries all l z = all l z
kept m i (lin.Flow flow.EnterTrap) among e tries all l z = all l z
kept m i (lin.Op f) among e tries all l z = all l z

pub pushed : (m : Lin) {code : List Line} {tries : List ℕ} → Reached m code tries → (l : ℕ) → IsIn l tries → Pushed m l
pushed m at_entry l z = elim z [ ]
pushed m (by_step {i} {next} r (goes t o)) l z = kept m i i.op (tail_in (reached_tail m r)) refl _ (pushed m r) l z
pushed m (by_raise r (raises e)) l z = pushed m r l (is_later z)

-- ---- a handler's entry is the first line after its label

-- the line after the label, which enters a handler
pub record Enters (code : List Line) (l : ℕ) : Type 0 where
  pub line : Line
  pub next : List Line
  pub is : after_label l code ≡ line ∷ next
  pub enters : line.op ≡ lin.Flow flow.EnterTrap

label_in : {l : ℕ} (code : List Line) → EntersAt l code → IsIn l (labels_in code)
label_in [] z = elim z [ ]
label_in {l} (i ∷ j ∷ is) (enters_here e u) = subst (λ f. IsIn l (label_of f ++ labels_in (j ∷ is))) (sym e) is_first
label_in {l} (i ∷ is) (enters_below z) = behind (label_of i.op) (label_in is z)
  where
    behind : (ks : List ℕ) → IsIn l (labels_in is) → IsIn l (ks ++ labels_in is)
    behind [] z = z
    behind (k ∷ ks) z = is_later (behind ks z)

pub enters : (l : ℕ) (code : List Line) → AllPairs Differ (labels_in code) → EntersAt l code → Enters code l
enters l [] differ z = elim z [ ]
enters l (i ∷ j ∷ is) differ (enters_here e u) =
    record { line = j; next = is; is = ap (λ b. cond b (j ∷ is) (after_label l (j ∷ is))) (ap (has_label l) e ∙ eq-eqb l l refl); enters = u }
enters l (i ∷ is) differ (enters_below z) = by (has_label l i.op) refl (enters l is (pairs_past (label_of i.op) (labels_in is) differ) z)
  where
    by : (b : Bool) → has_label l i.op ≡ b → Enters is l → Enters (i ∷ is) l
    by true e rest =
        let differ' : AllPairs Differ (l ∷ labels_in is) = subst (λ ks. AllPairs Differ (ks ++ labels_in is)) (label_is l i.op e) differ in
        absurd (all_in (Differ l) (pairs_here Differ l (labels_in is) differ') (label_in is z) refl)
    by false e rest =
        record { line = rest.line; next = rest.next; is = ap (λ b. cond b is (after_label l is)) e ∙ rest.is; enters = rest.enters }

module _ (m : Lin) (formed : WellFormed m) where
  pub pushed_enters : (l : ℕ) → Pushed m l → Enters m.code l
  pushed_enters l p = enters l m.code formed.labels (formed.handlers p.line (contains_of p.among) l p.is)

  -- the label of a pushed trap is there
  pub pushed_stands : (l : ℕ) → Pushed m l → Contains (labels_in m.code) l
  pushed_stands l p = formed.named p.line (contains_of p.among) l (pushes p.is)
