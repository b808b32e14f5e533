-- Straight runs: how the code before a place is taken apart, and that what is within a run alone is nowhere that control
-- comes to from elsewhere.
use Rattle.std.proofs.Common.{◌≡◌, ℕ, Bool, true, false, cond, List, [], ◌∷◌, ◌++◌, refl, sym, ap, ◌∙◌, subst, append_assoc}
use Rattle.std.proofs.lemmas.List.{same_from_push}
use Rattle.std.proofs.lemmas.List.Elements.{Contains-get_or, All-contains, Contains-append_left}
use Rattle.std.specs.List.{Contains}
use Rattle.std.specs.Prelude.{slice_index_or}
use Rattle.std.proofs.lemmas.Bool.{both_ways}
use Rattle.mach_ir.specs.Acts.{Landing, AtLabel, AtHandler}
use Rattle.mach_ir.specs.Meaning.{has_label, is_handler_of, after_label, from_handler, at_handler, tries_at, landing_code}
use Rattle.mach_ir.specs.Placed.{is_straight, AreStraight}
use Rattle.mach_ir.specs.declared.mach.MachOp.{MachOp}
use Rattle.mach_ir.specs.declared.mach.MachOp.TheVariants as mach
use Rattle.mach_ir.specs.declared.mach.Instr.{Instr}
use Rattle.mach_ir.specs.declared.mach.Mach.{Mach}
use Rattle.mach_laws.specs.Expand.{Ending, all, more}
use Rattle.bs_words.proofs.Lists.{head_same, tail_same, none_there}

-- ---- the code before a place

-- one of a list is its last, or is before that
pub data Last (made : List Instr) (x : Instr) (others : List Instr) (j : Instr) (run : List Instr) : Type 0 where
  it_is : x ≡ j → Last made x others j run
  in_run : (ys : List Instr) → run ≡ ys ++ x ∷ [] → made ≡ others ++ j ∷ ys → Last made x others j run

data Snoc (xs : List Instr) : Type 0 where
  is_empty : xs ≡ [] → Snoc xs
  ends_by : (ys : List Instr) (y : Instr) → xs ≡ ys ++ y ∷ [] → Snoc xs

snoc : (xs : List Instr) → Snoc xs
snoc [] = is_empty refl
snoc (x ∷ xs) = by (snoc xs)
  where
    by : Snoc xs → Snoc (x ∷ xs)
    by (is_empty e) = ends_by [] x (ap (λ zs. x ∷ zs) e)
    by (ends_by ys y e) = ends_by (x ∷ ys) y (ap (λ zs. x ∷ zs) e)

pub last_of : (made : List Instr) (x : Instr) (others : List Instr) (j : Instr) (run : List Instr) →
    made ++ x ∷ [] ≡ others ++ j ∷ run → Last made x others j run
last_of made x others j run e = by (snoc run)
  where
    by : Snoc run → Last made x others j run
    by (is_empty h) = it_is (same_from_push made others x j (e ∙ ap (λ ys. others ++ j ∷ ys) h)).1
    by (ends_by ys y h) =
        let t = same_from_push made (others ++ j ∷ ys) x y
        (e ∙ ap (λ zs. others ++ j ∷ zs) h ∙ sym (append_assoc others (j ∷ ys) (y ∷ []))) in
        in_run ys (h ∙ ap (λ z. ys ++ z ∷ []) (sym t.1)) t.0

-- a straight run is straight up to each place
pub straight_front : (run ys zs : List Instr) → run ≡ ys ++ zs → AreStraight run → AreStraight ys
straight_front run ys zs e straight = λ k d lt.
    All-contains (λ (i : Instr). is_straight i.op ≡ true) run (slice_index_or ys k d) straight
    (subst (λ xs. Contains xs (slice_index_or ys k d)) (sym e)
    (Contains-append_left ys zs (slice_index_or ys k d) (Contains-get_or ys k d lt)))

pub none_before : (others : List Instr) (j : Instr) (run : List Instr) → [] ≡ others ++ j ∷ run → ⊥
none_before [] j run e = none_there e
none_before (x ∷ others) j run e = none_there e

-- which of two instructions of a list comes first
pub data Order (j k : Instr) (us vs : List Instr) : Type 0 where
  together : j ≡ k → Order j k us vs
  first_one : (mid : List Instr) → us ≡ mid ++ k ∷ vs → Order j k us vs
  first_other : (mid : List Instr) → vs ≡ mid ++ j ∷ us → Order j k us vs

pub order : (xs ys : List Instr) (j k : Instr) (us vs : List Instr) → xs ++ j ∷ us ≡ ys ++ k ∷ vs → Order j k us vs
order [] [] j k us vs e = together (head_same e)
order [] (y ∷ ys) j k us vs e = first_one ys (tail_same e)
order (x ∷ xs) [] j k us vs e = first_other xs (sym (tail_same e))
order (x ∷ xs) (y ∷ ys) j k us vs e = order xs ys j k us vs (tail_same e)

-- ---- where control comes to

label_crooked : (l : ℕ) (g : MachOp) → has_label l g ≡ true → is_straight g ≡ false
label_crooked l (mach.Op g) e = absurd (both_ways false refl e)
label_crooked l (mach.Mark g) e = refl

-- the code after a label is nothing, or is after the mark that has it
data Labelled (l : ℕ) (code : List Instr) : Type 0 where
  nowhere : after_label l code ≡ [] → Labelled l code
  marked : (i : Instr) → Ending (i ∷ after_label l code) code → has_label l i.op ≡ true → Labelled l code

labelled : (l : ℕ) (code : List Instr) → Labelled l code
labelled l [] = nowhere refl
labelled l (i ∷ is) = by (has_label l i.op) refl (labelled l is)
  where
    by : (b : Bool) → has_label l i.op ≡ b → Labelled l is → Labelled l (i ∷ is)
    by true e w = marked i (subst (λ b. Ending (i ∷ cond b is (after_label l is)) (i ∷ is)) (sym e) all) e
    by false e (nowhere h) = nowhere (ap (λ b. cond b is (after_label l is)) e ∙ h)
    by false e (marked j s h) =
        marked j (subst (λ b. Ending (j ∷ cond b is (after_label l is)) (i ∷ is)) (sym e) (more s)) h

module _ (m : Mach) (Stands : List Instr → Type 0) where
  -- what is within a run: not past what ends one, and neither at a handler nor where no code is left
  pub record IsWithin : Type 0 where
    pub nothing : Stands [] → ⊥
    pub past : (i : Instr) (next : List Instr) → Ending (i ∷ next) m.code → is_straight i.op ≡ false → Stands next → ⊥
    pub handler : (l : ℕ) (i : Instr) (next : List Instr) → is_handler_of l i.op ≡ true → Stands (i ∷ next) → ⊥

  module _ (within : IsWithin) where
    pub not_at_label : (l : ℕ) → Stands (after_label l m.code) → ⊥
    not_at_label l w = by (labelled l m.code)
      where
        by : Labelled l m.code → ⊥
        by (nowhere e) = within.nothing (subst Stands e w)
        by (marked i s e) = within.past i (after_label l m.code) s (label_crooked l i.op e) w

    handler_in : (l : ℕ) (code : List Instr) → Stands (from_handler l code) → ⊥
    handler_in l [] s = within.nothing s
    handler_in l (i ∷ is) s = by (is_handler_of l i.op) refl s (λ t. handler_in l is t)
      where
        by : (b : Bool) → is_handler_of l i.op ≡ b → Stands (cond b (i ∷ is) (from_handler l is)) →
            (Stands (from_handler l is) → ⊥) → ⊥
        by true e s ih = within.handler l i is e s
        by false e s ih = ih s

    pub not_at_handler : (l : ℕ) → Stands (from_handler l m.code) → ⊥
    not_at_handler l w = handler_in l m.code w

    not_at_tries : (tries : List ℕ) → Stands (at_handler m.code tries) → ⊥
    not_at_tries [] w = within.nothing w
    not_at_tries (l ∷ tries) w = not_at_handler l w

    pub not_landed : (to : Landing) (from : List Instr) → Stands (landing_code m.code from to) → ⊥
    not_landed (AtLabel l) from w = not_at_label l w
    not_landed AtHandler from w = not_at_tries (tries_at from) w
