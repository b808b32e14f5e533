-- A function is still well formed and well placed where its code has straight instructions besides or less, and all else
-- is where it was.
use Rattle.std.proofs.Common.{◌≡◌, ◌≢◌, ℕ, ◌<◌, ◌≤◌, true, false, ◌⊎◌, ⊎_elim, List, [], ◌∷◌, length, refl, sym, ap, ◌∙◌, subst}
use Rattle.std.proofs.lemmas.Bool.{both_ways}
use Rattle.std.proofs.lemmas.List.Elements.{Contains-get_or, All-contains}
use Rattle.std.specs.List.{All, AllPairs, Contains}
use Rattle.std.specs.Prelude.{slice_index_or}
use Rattle.bs_words.specs.declared.types.Loc.TheVariants as loc
use Rattle.mach_ir.specs.Acts.{Target, On, At}
use Rattle.mach_ir.specs.Formed.{IsFormedInstruction, AreDistinct, labels_in, LabelOccursIn, HasHandler, TargetsLabel, is_exit, LabelsStand, tries_left, leaves, IsNested, CasesAgree, WellFormed}
use Rattle.mach_ir.specs.Keeps.{IsNamedIn}
use Rattle.mach_ir.specs.Meaning.{after_label, from_handler, code_at, tries_at, tries_past}
use Rattle.mach_ir.specs.Placed.{is_straight, WellPlaced}
use Rattle.mach_ir.specs.Seats.{Seated}
use Rattle.mach_ir.specs.Walks.{OneOf, this, other, may_raise, IsRegister, Joined, StandsAsInstr}
use Rattle.mach_ir.specs.declared.op.Op.TheVariants as op
use Rattle.mach_ir.specs.declared.mach.Mark.{Mark}
use Rattle.mach_ir.specs.declared.mach.Mark.TheVariants as mark
use Rattle.mach_ir.specs.declared.mach.MachOp.{MachOp}
use Rattle.mach_ir.specs.declared.mach.MachOp.TheVariants as mach
use Rattle.mach_ir.specs.declared.reg.Reg.{Reg}
use Rattle.mach_ir.specs.declared.mach.Instr.{Instr}
use Rattle.mach_ir.specs.declared.mach.Mach.{Mach}

-- ---- what may be in a straight run

no_mark : (g : MachOp) → is_straight g ≡ true → (f : Mark) → g ≡ mach.Mark f → ⊥
no_mark g s f e = both_ways false refl (sym (ap is_straight e) ∙ s)

only_on : {t : Target} → OneOf t (On ∷ []) → t ≡ On
only_on this = refl
only_on (other o) = elim o [ ]

-- it leads to no label, raises nothing and leaves nothing
no_leading : (g : MachOp) → is_straight g ≡ true → (l : ℕ) → TargetsLabel g l → ⊥
no_leading (mach.Op (op.Pure f)) s l o = no_label (only_on o)
  where
    no_label : At l ≡ On → ⊥
    no_label e = cc
no_leading (mach.Op (op.Access f)) s l o = no_label (only_on o)
  where
    no_label : At l ≡ On → ⊥
    no_label e = cc
no_leading (mach.Op (op.Calling f)) s l o = both_ways false refl s
no_leading (mach.Op (op.Leaving f)) s l o = both_ways false refl s
no_leading (mach.Mark f) s l o = both_ways false refl s

no_raising : (g : MachOp) → is_straight g ≡ true → may_raise g ≡ true → ⊥
no_raising (mach.Op (op.Pure f)) s e = both_ways false refl e
no_raising (mach.Op (op.Access f)) s e = both_ways false refl e
no_raising (mach.Op (op.Calling f)) s e = both_ways false refl s
no_raising (mach.Op (op.Leaving f)) s e = both_ways false refl s
no_raising (mach.Mark f) s e = both_ways false refl s

no_leaving : (g : MachOp) → is_straight g ≡ true → leaves g ≡ true → ⊥
no_leaving (mach.Op (op.Pure f)) s e = both_ways false refl e
no_leaving (mach.Op (op.Access f)) s e = both_ways false refl e
no_leaving (mach.Op (op.Calling f)) s e = both_ways false refl s
no_leaving (mach.Op (op.Leaving f)) s e = both_ways false refl s
no_leaving (mach.Mark f) s e = both_ways false refl s

-- ---- another code

-- what holds of each instruction that is in it
pub all_in : (P : Instr → Type 0) (code : List Instr) → ((i : Instr) → Contains code i → P i) → All P code
all_in P code h = λ k d lt. h (slice_index_or code k d) (Contains-get_or code k d lt)

module _ (m : Mach) (code : List Instr) where
  abbrev pub q : Mach
  q = record m { code = code }

  -- An instruction of it may be in a straight run, or could in the first: after it are the tries, labels and handlers
  -- that were.
  pub data ComesFrom (i : Instr) (zs : List Instr) : Type 0 where
    is_new : is_straight i.op ≡ true → ComesFrom i zs
    stood : {next : List Instr} → StandsAsInstr i next m.code → tries_at zs ≡ tries_at next →
        ((l : ℕ) → LabelOccursIn l next → LabelOccursIn l zs) → ((l : ℕ) → HasHandler l next → HasHandler l zs) → ComesFrom i zs

  pub record KeepsPlaces : Type 0 where
    pub whence : (i : Instr) (zs : List Instr) → StandsAsInstr i zs code → ComesFrom i zs
    pub among : (i : Instr) → Contains code i → (is_straight i.op ≡ true) ⊎ Contains m.code i
    pub marks : (i : Instr) (g : Mark) → i.op ≡ mach.Mark g → Contains m.code i → Contains code i
    pub places : (l : ℕ) → LabelOccursIn l m.code → LabelOccursIn l code
    pub labels : labels_in code ≡ labels_in m.code
    pub tries : tries_at code ≡ tries_at m.code
    pub label_tries : (l : ℕ) → tries_at (after_label l code) ≡ tries_at (after_label l m.code)
    pub handler_tries : (l : ℕ) → tries_at (from_handler l code) ≡ tries_at (from_handler l m.code)
    pub registers : (r : Reg) → IsRegister q r → IsRegister m r

  module _ (formed : WellFormed m) (keeps : KeepsPlaces) where
    labels_stand : LabelsStand q
    labels_stand =
        record {
          named = λ i zs s l o. named i l o (keeps.whence i zs s);
          forward = λ i zs s l o e. forward i l o e (keeps.whence i zs s);
          handlers = λ i zs s l end e. handlers i l end e (keeps.whence i zs s);
        }
      where
        named : (i : Instr) {zs : List Instr} (l : ℕ) → TargetsLabel i.op l → ComesFrom i zs → LabelOccursIn l code
        named i l o (is_new p) = absurd (no_leading i.op p l o)
        named i l o (stood {next = next} s t h g) = keeps.places l ((formed.labels).named i next s l o)

        forward : (i : Instr) {zs : List Instr} (l : ℕ) → TargetsLabel i.op l → is_exit i.op ≡ false → ComesFrom i zs → LabelOccursIn l zs
        forward i l o e (is_new p) = absurd (no_leading i.op p l o)
        forward i l o e (stood {next = next} s t h g) = h l ((formed.labels).forward i next s l o e)

        handlers : (i : Instr) {zs : List Instr} (l end : ℕ) → i.op ≡ mach.Mark (mark.Leave l end) → ComesFrom i zs → HasHandler l zs
        handlers i l end e (is_new p) = absurd (no_mark i.op p (mark.Leave l end) e)
        handlers i l end e (stood {next = next} s t h g) = g l ((formed.labels).handlers i next s l end e)

    nested : IsNested q
    nested =
        record {
          at_entry = keeps.tries ∙ (formed.nested).at_entry;
          at_label = λ i zs s l o. at_label i l o (keeps.whence i zs s);
          at_try = λ i zs s l e. at_try i l e (keeps.whence i zs s);
          at_handler = λ i zs s b l tries e. at_handler i b l tries e (keeps.whence i zs s);
          at_own_handler = λ i zs s l e. at_own_handler i l e (keeps.whence i zs s);
          at_exit = λ i zs s l n e. at_exit i l n e (keeps.whence i zs s);
          at_end = λ i zs s e. at_end i e (keeps.whence i zs s);
        }
      where
        at_label : (i : Instr) {zs : List Instr} (l : ℕ) → TargetsLabel i.op l → ComesFrom i zs →
            tries_at (code_at code zs (At l)) ≡ tries_left i.op (tries_at (i ∷ zs))
        at_label i l o (is_new p) = absurd (no_leading i.op p l o)
        at_label i l o (stood {next = next} s t h g) =
            keeps.label_tries l ∙ (formed.nested).at_label i next s l o ∙ ap (tries_left i.op) (sym (ap (tries_past i.op) t))

        at_try : (i : Instr) {zs : List Instr} (l : ℕ) → i.op ≡ mach.Mark (mark.Try l) → ComesFrom i zs →
            tries_at zs ≡ l ∷ tries_at (i ∷ zs)
        at_try i l e (is_new p) = absurd (no_mark i.op p (mark.Try l) e)
        at_try i l e (stood {next = next} s t h g) =
            t ∙ (formed.nested).at_try i next s l e ∙ ap (λ ts. l ∷ ts) (sym (ap (tries_past i.op) t))

        at_handler : (i : Instr) {zs : List Instr} → may_raise i.op ≡ true → (l : ℕ) (tries : List ℕ) →
            tries_at (i ∷ zs) ≡ l ∷ tries → ComesFrom i zs → tries_at (from_handler l code) ≡ tries
        at_handler i b l tries e (is_new p) = absurd (no_raising i.op p b)
        at_handler i b l tries e (stood {next = next} s t h g) =
            keeps.handler_tries l ∙ (formed.nested).at_handler i next s b l tries (sym (ap (tries_past i.op) t) ∙ e)

        at_own_handler : (i : Instr) {zs : List Instr} (l : ℕ) → i.op ≡ mach.Mark (mark.Try l) → ComesFrom i zs →
            tries_at (from_handler l code) ≡ tries_at (i ∷ zs)
        at_own_handler i l e (is_new p) = absurd (no_mark i.op p (mark.Try l) e)
        at_own_handler i l e (stood {next = next} s t h g) =
            keeps.handler_tries l ∙ (formed.nested).at_own_handler i next s l e ∙ sym (ap (tries_past i.op) t)

        at_exit : (i : Instr) {zs : List Instr} (l n : ℕ) → i.op ≡ mach.Mark (mark.Exit l n) → ComesFrom i zs →
            n ≤ length (tries_at (i ∷ zs))
        at_exit i l n e (is_new p) = absurd (no_mark i.op p (mark.Exit l n) e)
        at_exit i l n e (stood {next = next} s t h g) =
            subst (λ ts. n ≤ length ts) (sym (ap (tries_past i.op) t)) ((formed.nested).at_exit i next s l n e)

        at_end : (i : Instr) {zs : List Instr} → leaves i.op ≡ true → ComesFrom i zs → tries_at (i ∷ zs) ≡ []
        at_end i e (is_new p) = absurd (no_leaving i.op p e)
        at_end i e (stood {next = next} s t h g) = ap (tries_past i.op) t ∙ (formed.nested).at_end i next s e

    mark_back : (i : Instr) → Contains code i → (g : Mark) → i.op ≡ mach.Mark g → Contains m.code i
    mark_back i c g e = ⊎_elim (λ p. absurd (no_mark i.op p g e)) (λ d. d) (keeps.among i c)

    cases : CasesAgree q
    cases =
        record {
          agree = λ i j c d labels indexes l end e h k.
              (formed.cases).agree i j (mark_back i c (mark.Switch labels) e) (mark_back j d (mark.Case indexes l end) h) labels indexes l end e h
              k;
          none = λ j d indexes l end e h.
              (formed.cases).none j (mark_back j d (mark.Case indexes l end) e) indexes l end e
              (λ i c labels o k. h i (keeps.marks i (mark.Switch labels) o c) labels o k);
        }

    pub still_formed : All IsFormedInstruction code → All (λ (i : Instr). AreDistinct i.results) code → WellFormed q
    still_formed instrs distinct =
        record {
          numbers = λ r k i j e. formed.numbers r k (keeps.registers r i) (keeps.registers k j) e;
          params = formed.params;
          params_distinct = formed.params_distinct;
          instrs = instrs;
          distinct = distinct;
          returns = λ i c e. ⊎_elim (λ p. absurd (both_ways false refl (sym (ap is_straight e) ∙ p))) (λ d. formed.returns i d e) (keeps.among i c);
          labels_once = subst (λ ls. AllPairs (λ k l. k ≢ l) ls) (sym keeps.labels) formed.labels_once;
          labels_below = subst (λ ls. All (λ l. l < m.labels) ls) (sym keeps.labels) formed.labels_below;
          labels = labels_stand;
          nested = nested;
          cases = cases;
        }

  -- where nothing is new
  module _ (back : (i : Instr) → Contains code i → Contains m.code i) where
    pub all_still : (P : Instr → Type 0) → All P m.code → All P code
    all_still P h = all_in P code (λ i c. All-contains P m.code i h (back i c))

    pub still_seated : Seated m → Seated q
    still_seated seated =
        record {
          params = seated.params;
          operands = λ i c. seated.operands i (back i c);
          results = λ i c. seated.results i (back i c);
        }

    pub named_before : (Named : MachOp → Type 0) → IsNamedIn Named q → IsNamedIn Named m
    named_before Named n = record { instr = n.instr; among = back n.instr n.among; named = n.named }

  pub still_placed : ((r : Reg) → IsRegister q r → IsRegister m r) →
      ((r k : Reg) → IsRegister q r → IsRegister q k → Joined q r.number k.number → r.loc ≢ loc.Unset → r.loc ≡ k.loc →
      Joined m r.number k.number) →
      WellPlaced m → WellPlaced q
  still_placed was joined_back placed =
      record {
        colours = record {
          each = (placed.colours).each;
          least = λ r k c i e. (placed.colours).least r k c (was k i) e;
        };
        agree = record {
          places = λ r i. (placed.agree).places r (was r i);
          apart = λ r k i j joined fixed e.
              (placed.agree).apart r k (was r i) (was k j) (joined_back r k i j joined fixed e) fixed e;
        };
      }
