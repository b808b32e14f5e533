-- Branches follow their lines, whatever they test.
use Rattle.std.proofs.Common.{◌≡◌, ℕ, suc, ◌+◌, ◌^◌, ◌<◌, ◌≤◌, inl, inr, Bool, true, false, cond, not, ◌==◌, nat_eq, List, [], ◌∷◌, ◌++◌, length, Option, Some, None, Result, Ok, Err, slice_index, refl, ap, arith, ◌∙◌, sym, subst, ⊎_elim, append_assoc, append-nil}
use Rattle.std.specs.List.{AllByRecursion}
use Rattle.std.proofs.lemmas.Bool.{eqb-true}
use Rattle.std.proofs.lemmas.Option.{same_Some}
use Rattle.bs_words.specs.Memory.{sizes}
use Rattle.bs_words.specs.Operators.{apply, condition_of, signed_holds, truth, unsigned_holds}
use Rattle.bs_words.specs.Word.{signed_of}
use Rattle.bs_words.specs.declared.operators.CmpOp.{CmpOp}
use Rattle.bs_words.specs.declared.operators.CmpOp.TheVariants as compare
use Rattle.bs_words.specs.declared.operators.IntOp.TheVariants as operator
use Rattle.bs_words.specs.declared.types.Loc.{Loc}
use Rattle.bs_words.specs.declared.values.Kind.{Kind}
use Rattle.bs_words.specs.declared.values.Value.{Value}
use Rattle.bs_words.specs.declared.values.Value.TheVariants.{Word}
use Rattle.rv_emit_rules.specs.Constants.{constant_pieces}
use Rattle.rv_emit_rules.specs.Slots.{fetch_pieces, register_of, second}
use Rattle.rv_emit_rules.specs.Tests.{branch_part, constant_register, constant_words, signed_branch, unsigned_branch}
use Rattle.rv_layout_rules.specs.Forms.{branch_form, branch_words, form_rank}
use Rattle.rv_layout_rules.specs.Laid.{address_of_place}
use Rattle.rv_layout_rules.specs.Words.{NameAddresses, branch_code}
use Rattle.rv_layout_rules.specs.declared.form.Form.{Form}
use Rattle.rv_layout_rules.specs.declared.form.Form.TheVariants.{Near, Middle, Far}
use Rattle.lin_ir.specs.Formed.{IsLocation, comps}
use Rattle.lin_ir.specs.Meaning.{Locations, NamedAt, after_label, on_act, on_values, step}
use Rattle.lin_ir.specs.declared.lin.Flow.TheVariants as flow
use Rattle.lin_ir.specs.declared.lin.Lin.{Lin}
use Rattle.lin_ir.specs.declared.lin.Line.{Line}
use Rattle.lin_ir.specs.declared.lin.LinOp.TheVariants as lin
use Rattle.lin_ir.specs.declared.lin.Spot.{Spot}
use Rattle.mach_ir.specs.Acts.{Around, At, On, as_condition, goes_by_test, opposite, proper_condition, truth_of}
use Rattle.mach_ir.specs.Forms.{a_constant, IsTested, is_immediate_12, signed, unsigned}
use Rattle.mach_ir.specs.Runs.{ActivationSetting}
use Rattle.mach_ir.specs.declared.mach.Test.{Test}
use Rattle.mach_ir.specs.declared.mach.Test.TheVariants as test
use Rattle.mach_ir.specs.declared.op.Right.TheVariants as right
use Rattle.moving_laws.specs.Stands.{AmongNumbers}
use Rattle.rv_isa.specs.Registers.{register_number}
use Rattle.rv_isa.specs.declared.instr.Condition.{Condition}
use Rattle.rv_isa.specs.declared.instr.Condition.TheVariants as condition
use Rattle.rv_isa.specs.declared.register.Register.{Register}
use Rattle.rv_isa.specs.declared.register.Register.TheVariants.{Zero, T1, T2}
use Rattle.rv_machine.specs.Arithmetic.{is_taken}
use Rattle.rv_machine.specs.Hart.{Placed}
use Rattle.rv_machine.specs.Sound.{AreRegisters}
use Rattle.rv_pieces.specs.declared.piece.Piece.{Piece}
use Rattle.rv_pieces.specs.declared.piece.Piece.TheVariants as piece
use Rattle.lin_machine.specs.Follows.{Agrees}
use Rattle.lin_machine.specs.Relation.{Below, Laid, StandsFor, Within, blocks_by_serial}
use Rattle.lin_machine.specs.Straight.{Changes, LeadsFurther}
use Rattle.lin_machine.specs.View.{Fixed, View, HasCode}
use Rattle.lin_machine.proofs.Parts.{changes_come, comes_then}
use Rattle.lin_machine.proofs.Pure.{Reads, reads_held}
use Rattle.lin_machine.proofs.Reading.{reads_one, reads_two}
use Rattle.lin_machine.proofs.Rows.{immediate_small}
use Rattle.lin_machine.proofs.Sequences.{no_change, widened}
use Rattle.lin_machine.proofs.Standing.{within_past}
use Rattle.lin_machine.proofs.Steps.{reg, then_leads}
use Rattle.line_stands.specs.Parts.{PartStands}
use Rattle.line_values.specs.Followed.{FollowsBranch}
use Rattle.line_stands.proofs.Parts.{counts, none_left, starts}
use Rattle.line_values.proofs.Agreeing.{compared_words, condition_word, signed_agrees, unsigned_agrees}
use Rattle.line_values.proofs.Chains.{constant_comes}
use Rattle.line_values.proofs.Compared.{int_le_is, le_is}
use Rattle.line_values.proofs.Jumping.{Goes, branch_goes, code_near}
use Rattle.line_values.proofs.Landing.{Lies, lands_in, lies_near, lies_place, within_gone}
use Rattle.line_values.proofs.Operands.{fetches}
use Rattle.line_values.proofs.Operations.{no_second, sized}

-- ---- a branch piece

branch_near : (s : Fixed) (p from to : ℕ) (f : Form) (c : Condition) (a b : Register) → HasCode s p (branch_code f c a b from to) → p + 16384 < 2 ^ 26
branch_near s p from to Near c a b code = code_near s p _ code.0
branch_near s p from to Middle c a b code = code_near s p _ code.0
branch_near s p from to Far c a b code = code_near s p _ code.0

-- It leads to its label where the condition holds, else after it.
pub record BranchLands (s : Fixed) (n : NameAddresses) (u : View) (k to : ℕ) (t : Bool) (ys : List Piece) : Type 0 where
  pub words : ℕ
  pub others : ℕ
  pub sum : k ≡ words + others
  pub count : ℕ
  pub some : 1 ≤ count
  pub few : count ≤ words
  pub goes : Goes s u count (cond t to (u.place + words))
  pub same : t ≡ false → goes.view.registers ≡ u.registers
  pub rest : PartStands s n (u.place + words) (u.place + words + others) ys

pub branch_lands : (s : Fixed) (laid : Laid) (n : NameAddresses) (m : Lin) (u : View) → AreRegisters u.registers → (l : ℕ) → Lies s laid n m l → (c : Condition)
    (a b : Register) (t : Bool) → is_taken c (reg u.registers (register_number a)) (reg u.registers (register_number b)) ≡ t → (k : ℕ) (ys : List Piece) →
    PartStands s n u.place (u.place + k) (piece.Branch c a b l ∷ ys) → BranchLands s n u k (laid.part (length (after_label l m.code))) t ys
branch_lands s laid n m u are l lies c a b t e k ys part =
    let g = starts s n u.place k (piece.Branch c a b l) ys part in
    let to : ℕ = laid.part (length (after_label l m.code)) in
    let code : HasCode s u.place (branch_code g.form c a b (address_of_place u.place) (address_of_place (laid.part (length (after_label l m.code))))) =
    subst (λ z. HasCode s u.place (branch_code g.form c a b (address_of_place u.place) z)) lies.address g.code in
    let reach : form_rank (branch_form u.place (laid.part (length (after_label l m.code)))) ≤ form_rank g.form =
    subst (λ z. form_rank (branch_form u.place z) ≤ form_rank g.form) (lies_place s laid n m l lies) g.reaches in
    let near = branch_near s u.place (address_of_place u.place) (address_of_place to) g.form c a b code in
    let branched = branch_goes s u are to (omega (arith, near)) (lies_near s laid n m l lies) c a b t e g.form reach code in
    record {
      words = branch_words g.form;
      others = g.others;
      sum = g.sum;
      count = branched.count;
      some = branched.some;
      few = branched.few;
      goes = branched.goes;
      same = branched.same;
      rest = g.rest;
    }

-- ---- conditions

-- the piece is a branch whose condition has this truth
pub record Tests (p : Piece) (l : ℕ) (registers : List ℕ) (t : Bool) : Type 0 where
  pub condition : Condition
  pub left : Register
  pub right : Register
  pub is : p ≡ piece.Branch condition left right l
  pub taken : is_taken condition (reg registers (register_number left)) (reg registers (register_number right)) ≡ t

module _ (a b : Register) (l : ℕ) (registers : List ℕ) (t : Bool) where
  abbrev wa : ℕ
  wa = reg registers (register_number a)

  abbrev wb : ℕ
  wb = reg registers (register_number b)

  signed_tests : (f : CmpOp) → signed_holds f (reg registers (register_number a)) (reg registers (register_number b)) ≡ t → Tests (signed_branch f a b l) l registers t
  signed_tests compare.Eq e = record { condition = condition.Beq; left = a; right = b; is = refl; taken = e }
  signed_tests compare.Ne e = record { condition = condition.Bne; left = a; right = b; is = refl; taken = e }
  signed_tests compare.Lt e = record { condition = condition.Blt; left = a; right = b; is = refl; taken = e }
  signed_tests compare.Le e = record { condition = condition.Bge; left = b; right = a; is = refl; taken = sym (int_le_is (signed_of wa) (signed_of wb)) ∙ e }
  signed_tests compare.Gt e = record { condition = condition.Blt; left = b; right = a; is = refl; taken = e }
  signed_tests compare.Ge e = record { condition = condition.Bge; left = a; right = b; is = refl; taken = sym (int_le_is (signed_of wb) (signed_of wa)) ∙ e }

  unsigned_tests : (f : CmpOp) → unsigned_holds f (reg registers (register_number a)) (reg registers (register_number b)) ≡ t → Tests (unsigned_branch f a b l) l registers t
  unsigned_tests compare.Eq e = record { condition = condition.Beq; left = a; right = b; is = refl; taken = e }
  unsigned_tests compare.Ne e = record { condition = condition.Bne; left = a; right = b; is = refl; taken = e }
  unsigned_tests compare.Lt e = record { condition = condition.Bltu; left = a; right = b; is = refl; taken = e }
  unsigned_tests compare.Le e = record { condition = condition.Bgeu; left = b; right = a; is = refl; taken = sym (le_is wa wb) ∙ e }
  unsigned_tests compare.Gt e = record { condition = condition.Bltu; left = b; right = a; is = refl; taken = e }
  unsigned_tests compare.Ge e = record { condition = condition.Bgeu; left = a; right = b; is = refl; taken = sym (le_is wb wa) ∙ e }

-- ---- right operands

module _ (s : Fixed) (n : NameAddresses) (laid : Laid) (m : Lin) (slots : m.slots ≡ laid.slots) (v : View) (young : List Placed) (held : Locations) (a : Around)
    (c : Below) (none : a.raised ≡ None) (within : Within s laid v young 0 held a c) where
  -- From a place on so many words bring a value of this kind into the register, and t2 alone may
  -- change.
  pub record Seconded (holds : Value → Type 0) (at k : ℕ) (right : Register) : Type 0 where
    pub list : List ℕ
    pub only : (p : ℕ) → AmongNumbers p list → p ≡ 7
    pub gets : (y : Value) → holds y → (u : View) → u.place ≡ at → Within s laid u young 0 held a c →
        Changes s u k list u.memory (λ w. StandsFor s (blocks_by_serial u young) (reg w.registers (register_number right)) y)

  pub second_location : (l : Loc) → IsLocation m l → (at k : ℕ) → PartStands s n at (at + k) (fetch_pieces (length a.tries) T2 l) →
      Seconded (λ y. held l ≡ Some y) at k (register_of T2 l)
  second_location l is at k part =
      let f = fetches s n laid m slots v young held a c none within T2 6 refl (inr refl) at k l is part in
      record {
        list = f.list;
        only = f.only;
        gets = λ y h u p w.
            widened s u k f.list f.list u.memory (λ o. StandsFor s (blocks_by_serial u young) (slice_index o.registers (suc f.r)) y) _ (λ q i. i)
            (λ o past st. subst (λ z. StandsFor s (blocks_by_serial u young) (reg o.registers z) y) (sym f.is) st)
            ((f.gets y h).by u p w);
      }

  pub second_constant : (w : ℕ) → w < 2 ^ 64 → (at k : ℕ) → PartStands s n at (at + k) (constant_words w) →
      Seconded (λ y. y ≡ Word w) at k (constant_register w)
  second_constant w small at k part = by_test (nat_eq w 0) refl part
    where
      by_test : (t : Bool) → nat_eq w 0 ≡ t → PartStands s n at (at + k) (cond t [] (constant_pieces T2 w)) → Seconded (λ y. y ≡ Word w) at k (cond t Zero T2)
      by_test true t part =
          let zero : w ≡ 0 = eqb-true w 0 t in
          record {
            list = [];
            only = λ p i. absurd i;
            gets = λ y e u p i.
                subst (λ z. Changes s u z [] u.memory (λ o. StandsFor s (blocks_by_serial u young) 0 y)) (sym (none_left s n at k part))
                (no_change s u [] (λ o. StandsFor s (blocks_by_serial u young) 0 y) i.own.are
                (subst (StandsFor s (blocks_by_serial u young) 0) (sym e) (record { is = sym zero; known = tt })));
          }
      by_test false t part = record {
        list = 7 ∷ [];
        only = λ p i. ⊎_elim (λ e. e) (λ f. absurd f) i;
        gets = λ y e u p i.
            widened s u k (7 ∷ []) (7 ∷ []) u.memory (λ o. slice_index o.registers 7 ≡ w) _ (λ q j. j)
            (λ o past h. subst (StandsFor s (blocks_by_serial u young) (slice_index o.registers 7)) (sym e) (record { is = h; known = tt }))
            (constant_comes s n T2 6 refl (omega arith) (λ q. omega (arith, q)) w small u k
            (subst (λ z. PartStands s n z (z + k) (constant_pieces T2 w)) (sym p) part) i.own.are);
      }

  -- the first operand in its register
  abbrev FirstReady : Register → Value → View → Type 0
  FirstReady left x u = Within s laid u young 0 held a c × StandsFor s (blocks_by_serial u young) (reg u.registers (register_number left)) x

  abbrev BothReady : Register → Register → Value → Value → View → Type 0
  BothReady left right x y u =
      Within s laid u young 0 held a c × StandsFor s (blocks_by_serial u young) (reg u.registers (register_number left)) x
      × StandsFor s (blocks_by_serial u young) (reg u.registers (register_number right)) y

  pub first_comes : (l : Loc) → IsLocation m l → (k : ℕ) → PartStands s n v.place (v.place + k) (fetch_pieces (length a.tries) T1 l) → (x : Value) →
      held l ≡ Some x →
      LeadsFurther s v k (λ u. Within s laid u young 0 held a c × StandsFor s (blocks_by_serial u young) (reg u.registers (register_number (register_of T1 l))) x)
  first_comes l is k part x h =
      let f = fetches s n laid m slots v young held a c none within T1 5 refl (inl refl) v.place k l is part in
      changes_come s v k f.list v.memory _ _
      (λ u past st. (
        within_past s laid v u young 0 held a c k f.list past (λ q i. inl (f.only q i)) within,
        (let same : blocks_by_serial u young ≡ blocks_by_serial v young = ap (λ bs. blocks_by_serial (record v { blocks = bs }) young) past.blocks in
            subst (λ z. StandsFor s (blocks_by_serial u young) (reg u.registers z) x) (sym f.is)
            (subst (λ b. StandsFor s b (slice_index u.registers (suc f.r)) x) (sym same) st)),
      ))
      ((f.gets x h).by v refl within)

  pub both_come : (l : Loc) (is : IsLocation m l) (k1 k2 : ℕ) → PartStands s n v.place (v.place + k1) (fetch_pieces (length a.tries) T1 l) →
      (holds : Value → Type 0) (right : Register) → Seconded holds (v.place + k1) k2 right → (x y : Value) → held l ≡ Some x → holds y →
      LeadsFurther s v (k1 + k2) (λ u. Within s laid u young 0 held a c × StandsFor s (blocks_by_serial u young) (reg u.registers (register_number (register_of T1 l))) x
      × StandsFor s (blocks_by_serial u young) (reg u.registers (register_number right)) y)
  both_come l is k1 k2 part holds right snd x y h hy =
      let f = fetches s n laid m slots v young held a c none within T1 5 refl (inl refl) v.place k1 l is part in
      comes_then s v k1 k2 _ _ (first_comes l is k1 part x h)
      (λ u at both.
      changes_come s u k2 snd.list u.memory _ _
      (λ w past st.
      let same : blocks_by_serial w young ≡ blocks_by_serial u young = ap (λ bs. blocks_by_serial (record u { blocks = bs }) young) past.blocks in
      let kept : slice_index w.registers (suc f.r) ≡ slice_index u.registers (suc f.r) =
      past.others (suc f.r) (λ i. no_second (suc f.r) f.apart (snd.only (suc f.r) i)) in
      let sx : StandsFor s (blocks_by_serial u young) (slice_index u.registers (suc f.r)) x =
      subst (λ z. StandsFor s (blocks_by_serial u young) (reg u.registers z) x) f.is both.1 in (
        within_past s laid u w young 0 held a c k2 snd.list past (λ q i. inr (snd.only q i)) both.0,
        subst (λ z. StandsFor s (blocks_by_serial w young) (reg w.registers z) x) (sym f.is)
            (subst (λ b. StandsFor s b (slice_index w.registers (suc f.r)) x) (sym same)
            (subst (λ z. StandsFor s (blocks_by_serial u young) z x) (sym kept) sx)),
        subst (λ b. StandsFor s b (reg w.registers (register_number right)) y) (sym same) st,
      ))
      (snd.gets y hy u (omega (arith, at)) both.0))

-- ---- what the values say

known_truth : (ns : List ℕ) (b : Bool) → as_condition ns (Ok (truth b)) ≡ Some b
known_truth ns true = refl
known_truth ns false = refl

proper_ok : (r : Result Bool Kind) (b : Bool) → proper_condition r ≡ Some b → r ≡ Ok b
proper_ok (Ok d) b e = ap Ok (same_Some _ _ e)
proper_ok (Err kind) b e = absurd (cc)

opposite_ok : (r : Result Bool Kind) (b : Bool) → opposite (proper_condition r) ≡ Some b → (d : Bool) × (r ≡ Ok d) × (not d ≡ b)
opposite_ok (Ok d) b e = (d, refl, same_Some _ _ e)
opposite_ok (Err kind) b e = absurd (cc)

condition_ok : (ns : List ℕ) (r : Result Value Kind) (b : Bool) → as_condition ns r ≡ Some b → (z : Value) × (r ≡ Ok z) × (as_condition ns (Ok z) ≡ Some b)
condition_ok ns (Ok z) b e = (z, refl, e)
condition_ok ns (Err kind) b e = absurd (cc)

not_twice : (x d b : Bool) → not x ≡ d → not d ≡ b → x ≡ b
not_twice true d b e f = ap not e ∙ f
not_twice false d b e f = ap not e ∙ f

module _ (s : Fixed) (laid : Laid) (u : View) (young : List Placed) (held : Locations) (a : Around) (c : Below) (within : Within s laid u young 0 held a c)
    (l : ℕ) (left : Register) (b : Bool) where
  abbrev placed : List Placed
  placed = blocks_by_serial u young

  holds_tests : (x : Value) → StandsFor s (blocks_by_serial u young) (reg u.registers (register_number left)) x → truth_of (sizes a.memory) test.Holds (x ∷ []) ≡ Some b →
      Tests (piece.Branch condition.Bne left Zero l) l u.registers b
  holds_tests x st e = record {
    condition = condition.Bne;
    left = left;
    right = Zero;
    is = refl;
    taken = condition_word s (blocks_by_serial u young) within.heap.old (sizes a.memory) (sized s (blocks_by_serial u young) u.memory a within.heap) x b
        (reg u.registers (register_number left)) st (proper_ok (condition_of (sizes a.memory) x) b e);
  }

  fails_tests : (x : Value) → StandsFor s (blocks_by_serial u young) (reg u.registers (register_number left)) x → truth_of (sizes a.memory) test.Fails (x ∷ []) ≡ Some b →
      Tests (piece.Branch condition.Beq left Zero l) l u.registers b
  fails_tests x st e =
      let g = opposite_ok (condition_of (sizes a.memory) x) b e in
      record {
        condition = condition.Beq;
        left = left;
        right = Zero;
        is = refl;
        taken = not_twice (reg u.registers (register_number left) == 0) g.0 b
            (condition_word s (blocks_by_serial u young) within.heap.old (sizes a.memory) (sized s (blocks_by_serial u young) u.memory a within.heap) x g.0
            (reg u.registers (register_number left)) st g.1) g.2;
      }

  module _ (right : Register) (x y : Value) (sx : StandsFor s (blocks_by_serial u young) (reg u.registers (register_number left)) x)
      (sy : StandsFor s (blocks_by_serial u young) (reg u.registers (register_number right)) y) (f : CmpOp) where
    signed_says : as_condition (sizes a.memory) (apply (operator.Cmp f) (sizes a.memory) x y) ≡ Some b → Tests (signed_branch f left right l) l u.registers b
    signed_says e =
        let ns : List ℕ = sizes a.memory in
        let are = sized s (blocks_by_serial u young) u.memory a within.heap in
        let g = condition_ok ns (apply (operator.Cmp f) ns x y) b e in
        let z = compared_words s (blocks_by_serial u young) within.heap.old ns are signed_holds (signed_agrees s (blocks_by_serial u young) within.heap.old ns are)
        (reg u.registers (register_number left)) (reg u.registers (register_number right)) f x y g.0 sx sy g.1 in
        signed_tests left right l u.registers b f
        (same_Some _ _ (sym (known_truth ns (signed_holds f (reg u.registers (register_number left)) (reg u.registers (register_number right))))
        ∙ ap (λ q. as_condition ns (Ok q)) (sym z) ∙ g.2))

    unsigned_says : as_condition (sizes a.memory) (apply (operator.CmpU f) (sizes a.memory) x y) ≡ Some b →
        Tests (unsigned_branch f left right l) l u.registers b
    unsigned_says e =
        let ns : List ℕ = sizes a.memory in
        let are = sized s (blocks_by_serial u young) u.memory a within.heap in
        let g = condition_ok ns (apply (operator.CmpU f) ns x y) b e in
        let z = compared_words s (blocks_by_serial u young) within.heap.old ns are unsigned_holds (unsigned_agrees s (blocks_by_serial u young) within.heap.old ns are)
        (reg u.registers (register_number left)) (reg u.registers (register_number right)) f x y g.0 sx sy g.1 in
        unsigned_tests left right l u.registers b f
        (same_Some _ _ (sym (known_truth ns (unsigned_holds f (reg u.registers (register_number left)) (reg u.registers (register_number right))))
        ∙ ap (λ q. as_condition ns (Ok q)) (sym z) ∙ g.2))

-- ---- lines

module _ (s : Fixed) (n : NameAddresses) (laid : Laid) (m : Lin) (slots : m.slots ≡ laid.slots) (live : List Line → Type 0) (entry : ℕ → ℕ) (c : Below)
    (place : ActivationSetting) (named : NamedAt) (next : List Line) (v : View) (young : List Placed) (held file : Locations) (a : Around) (none : a.raised ≡ None)
    (within : Within s laid v young 0 held a c) (before : Type 0) (agrees : Agrees before held file) (k : ℕ) (behind : laid.part (length next) ≡ v.place + k)
    (l : ℕ) (lies : Lies s laid n m l) (passes : (live next → before) × (live (after_label l m.code) → before)) where
  -- where a test of this truth has been made
  module _ (t : Test) (args : List Spot) (p : Piece) (k1 k2 : ℕ) (sum : k ≡ k1 + k2)
      (part : PartStands s n (v.place + k1) (v.place + k1 + k2) (p ∷ [])) where
    branched : (b : Bool) → LeadsFurther s v k1 (λ u. Within s laid u young 0 held a c × Tests p l u.registers b) →
        FollowsBranch k s laid live c v (on_act place m (record {
          op = lin.Flow (flow.Branch t l);
          args = args;
          results = [];
        }) next file a (goes_by_test a (At l) On (Some b)))
    branched b comes =
        let u = comes.view in
        let tests = comes.holds.1 in
        let at = comes.place in
        let there : PartStands s n u.place (u.place + k2) (piece.Branch tests.condition tests.left tests.right l ∷ []) =
        subst (λ q. PartStands s n u.place (u.place + k2) (q ∷ [])) tests.is
        (subst (λ z. PartStands s n z (z + k2) (p ∷ [])) (sym at) part) in
        let g = branch_lands s laid n m u comes.holds.0.own.are l lies tests.condition tests.left tests.right b tests.taken k2 [] there in
        let some = g.some in
        let few = g.few in
        let e = g.sum in
        let z = none_left s n (u.place + g.words) g.others g.rest in
        let on : u.place + g.words ≡ laid.part (length next) = omega (arith, behind, sum, at, e, z) in
        by_truth b g.count g.words some few (omega (arith, e, sum)) on g.goes
      where
        by_truth : (b : Bool) (count words : ℕ) → 1 ≤ count → count ≤ words → k1 + words ≤ k → comes.view.place + words ≡ laid.part (length next) →
            Goes s comes.view count (cond b (laid.part (length (after_label l m.code))) (comes.view.place + words)) →
            FollowsBranch k s laid live c v (on_act place m (record {
              op = lin.Flow (flow.Branch t l);
              args = args;
              results = [];
            }) next file a (goes_by_test a (At l) On (Some b)))
        by_truth true count words some few all on goes =
            lands_in s n laid m live entry c place named next v young held file a within before agrees k 1 (k1 + count)
            (omega (arith, some)) (omega (arith, few, all)) (after_label l m.code) goes.view (then_leads s k1 count v comes.view goes.view comes.leads goes.leads) goes.place
            (within_gone s laid comes.view goes.view young held a c goes.differs comes.holds.0) passes.1
        by_truth false count words some few all on goes =
            lands_in s n laid m live entry c place named next v young held file a within before agrees k 1 (k1 + count)
            (omega (arith, some)) (omega (arith, few, all)) next goes.view (then_leads s k1 count v comes.view goes.view comes.leads goes.leads) (goes.place ∙ on)
            (within_gone s laid comes.view goes.view young held a c goes.differs comes.holds.0) passes.0

    branched_by : (o : Option Bool) → ((b : Bool) → o ≡ Some b → LeadsFurther s v k1 (λ u. Within s laid u young 0 held a c × Tests p l u.registers b)) →
        FollowsBranch k s laid live c v (on_act place m (record {
          op = lin.Flow (flow.Branch t l);
          args = args;
          results = [];
        }) next file a (goes_by_test a (At l) On o))
    branched_by None f = tt
    branched_by (Some b) f = branched b (f b refl)

  -- of one operand
  one_line : (t : Test) (p : Spot) → IsLocation m p.loc → Reads before p.loc → (branch : Piece) →
      PartStands s n v.place (v.place + k) (fetch_pieces (length a.tries) T1 p.loc ++ branch ∷ []) →
      ((b : Bool) (u : View) (x : Value) → Within s laid u young 0 held a c → StandsFor s (blocks_by_serial u young) (reg u.registers (register_number (register_of T1 p.loc))) x →
      truth_of (sizes a.memory) t (x ∷ []) ≡ Some b → Tests branch l u.registers b) →
      FollowsBranch k s laid live c v (step place named m (record {
        rest = record { op = lin.Flow (flow.Branch t l); args = p ∷ []; results = [] } ∷ next;
        file = file;
        around = a;
      }))
  one_line t p at_p reads branch part says =
      let g = counts s n v.place k (fetch_pieces (length a.tries) T1 p.loc) (branch ∷ []) part in
      reads_one place.setting.end file
      (λ vs. FollowsBranch k s laid live c v (on_values place (named (length next)) m (record {
        op = lin.Flow (flow.Branch t l);
        args = p ∷ [];
        results = [];
      }) next file a vs)) tt p
      (λ x h e.
      branched_by t (p ∷ []) branch g.own g.others g.sum g.second (truth_of (sizes a.memory) t (x ∷ []))
      (λ b q.
      let comes = first_comes s n laid m slots v young held a c none within p.loc at_p g.own g.first x (reads_held before held file p.loc agrees reads ∙ h) in
      record { view = comes.view; leads = comes.leads; place = comes.place; holds = (comes.holds.0, says b comes.view x comes.holds.0 comes.holds.1 q) }))

  -- of two, by what is read
  pub two_comes : (p : Spot) → IsLocation m p.loc → Reads before p.loc → (branch : Piece) (words : List Piece) (right : Register) (holds : Value → Type 0) →
      PartStands s n v.place (v.place + k) (fetch_pieces (length a.tries) T1 p.loc ++ words ++ branch ∷ []) →
      ((at j : ℕ) → PartStands s n at (at + j) words → Seconded s n laid m slots v young held a c none within holds at j right) →
      (t : Test) (args : List Spot) (o : Option Bool) (x y : Value) → held p.loc ≡ Some x → holds y →
      ((b : Bool) (u : View) → Within s laid u young 0 held a c → StandsFor s (blocks_by_serial u young) (reg u.registers (register_number (register_of T1 p.loc))) x →
      StandsFor s (blocks_by_serial u young) (reg u.registers (register_number right)) y → o ≡ Some b → Tests branch l u.registers b) →
      FollowsBranch k s laid live c v (on_act place m (record {
        op = lin.Flow (flow.Branch t l);
        args = args;
        results = [];
      }) next file a (goes_by_test a (At l) On o))
  two_comes p at_p reads branch words right holds part second t args o x y h hy says =
      let one : List Piece = fetch_pieces (length a.tries) T1 p.loc in
      let turned : PartStands s n v.place (v.place + k) (one ++ (words ++ branch ∷ [])) =
      subst (PartStands s n v.place (v.place + k)) (append_assoc one words (branch ∷ [])) part in
      let g1 = counts s n v.place k one (words ++ branch ∷ []) turned in
      let g2 = counts s n (v.place + g1.own) g1.others words (branch ∷ []) g1.second in
      let e1 = g1.sum in
      let e2 = g2.sum in
      let q : v.place + g1.own + g2.own ≡ v.place + (g1.own + g2.own) = omega arith in
      branched_by t args branch (g1.own + g2.own) g2.others (omega (arith, e1, e2))
      (subst (λ z. PartStands s n z (z + g2.others) (branch ∷ [])) q g2.second) o
      (λ b e.
      let comes = both_come s n laid m slots v young held a c none within p.loc at_p g1.own g2.own g1.first holds right
      (second (v.place + g1.own) g2.own g2.first) x y h hy in
      record {
        view = comes.view;
        leads = comes.leads;
        place = comes.place;
        holds = (comes.holds.0, says b comes.view comes.holds.0 comes.holds.1 comes.holds.2 e);
      })

  -- ---- every test

  -- the right operand a location
  register_line : (t : Test) (p q : Spot) → IsLocation m p.loc → IsLocation m q.loc → Reads before p.loc → Reads before q.loc → (branch : Piece) →
      PartStands s n v.place (v.place + k) (fetch_pieces (length a.tries) T1 p.loc ++ fetch_pieces (length a.tries) T2 q.loc ++ branch ∷ []) →
      ((b : Bool) (u : View) (x y : Value) → Within s laid u young 0 held a c →
      StandsFor s (blocks_by_serial u young) (reg u.registers (register_number (register_of T1 p.loc))) x →
      StandsFor s (blocks_by_serial u young) (reg u.registers (register_number (register_of T2 q.loc))) y →
      truth_of (sizes a.memory) t (x ∷ y ∷ []) ≡ Some b → Tests branch l u.registers b) →
      FollowsBranch k s laid live c v (step place named m (record {
        rest = record { op = lin.Flow (flow.Branch t l); args = p ∷ q ∷ []; results = [] } ∷ next;
        file = file;
        around = a;
      }))
  register_line t p q at_p at_q reads_p reads_q branch part says =
      reads_two place.setting.end file
      (λ vs. FollowsBranch k s laid live c v (on_values place (named (length next)) m (record {
        op = lin.Flow (flow.Branch t l);
        args = p ∷ q ∷ [];
        results = [];
      }) next file a vs)) tt p q
      (λ x y h e i g.
      two_comes p at_p reads_p branch (fetch_pieces (length a.tries) T2 q.loc) (register_of T2 q.loc) (λ z. held q.loc ≡ Some z) part
      (λ at j pt. second_location s n laid m slots v young held a c none within q.loc at_q at j pt) t (p ∷ q ∷ []) (truth_of (sizes a.memory) t (x ∷ y ∷ []))
      x y (reads_held before held file p.loc agrees reads_p ∙ h) (reads_held before held file q.loc agrees reads_q ∙ i)
      (λ b u w sx sy o. says b u x y w sx sy o))

  -- a constant
  constant_line : (t : Test) (w : ℕ) → w < 2 ^ 64 → (p : Spot) → IsLocation m p.loc → Reads before p.loc → (branch : Piece) →
      PartStands s n v.place (v.place + k) (fetch_pieces (length a.tries) T1 p.loc ++ constant_words w ++ branch ∷ []) →
      ((b : Bool) (u : View) (x : Value) → Within s laid u young 0 held a c →
      StandsFor s (blocks_by_serial u young) (reg u.registers (register_number (register_of T1 p.loc))) x →
      StandsFor s (blocks_by_serial u young) (reg u.registers (register_number (constant_register w))) (Word w) →
      truth_of (sizes a.memory) t (x ∷ []) ≡ Some b → Tests branch l u.registers b) →
      FollowsBranch k s laid live c v (step place named m (record {
        rest = record { op = lin.Flow (flow.Branch t l); args = p ∷ []; results = [] } ∷ next;
        file = file;
        around = a;
      }))
  constant_line t w small p at_p reads_p branch part says =
      reads_one place.setting.end file
      (λ vs. FollowsBranch k s laid live c v (on_values place (named (length next)) m (record {
        op = lin.Flow (flow.Branch t l);
        args = p ∷ [];
        results = [];
      }) next file a vs)) tt p
      (λ x h e.
      two_comes p at_p reads_p branch (constant_words w) (constant_register w) (λ z. z ≡ Word w) part
      (λ at j pt. second_constant s n laid m slots v young held a c none within w small at j pt) t (p ∷ []) (truth_of (sizes a.memory) t (x ∷ []))
      x (Word w) (reads_held before held file p.loc agrees reads_p ∙ h) refl
      (λ b u i sx sy o. says b u x i sx sy o))

  -- Each test of locations and constants.
  pub branch_line : (t : Test) (args : List Spot) → IsTested t (comps args) → AllByRecursion (λ (p : Spot). IsLocation m p.loc × Reads before p.loc) args →
      PartStands s n v.place (v.place + k) (branch_part (length a.tries) t l args) →
      FollowsBranch k s laid live c v (step place named m (record {
        rest = record { op = lin.Flow (flow.Branch t l); args = args; results = [] } ∷ next;
        file = file;
        around = a;
      }))
  branch_line test.Holds [] h at part = elim h [ ]
  branch_line test.Holds (p ∷ []) h at part =
      one_line test.Holds p at.0.0 at.0.1 (piece.Branch condition.Bne (register_of T1 p.loc) Zero l)
      (subst (λ z. PartStands s n v.place (v.place + k) (z ++ piece.Branch condition.Bne (register_of T1 p.loc) Zero l ∷ []))
      (append-nil (fetch_pieces (length a.tries) T1 p.loc)) part)
      (λ b u x w sx e. holds_tests s laid u young held a c w l (register_of T1 p.loc) b x sx e)
  branch_line test.Holds (p ∷ q ∷ qs) h at part = elim h [ ]
  branch_line test.Fails [] h at part = elim h [ ]
  branch_line test.Fails (p ∷ []) h at part =
      one_line test.Fails p at.0.0 at.0.1 (piece.Branch condition.Beq (register_of T1 p.loc) Zero l)
      (subst (λ z. PartStands s n v.place (v.place + k) (z ++ piece.Branch condition.Beq (register_of T1 p.loc) Zero l ∷ []))
      (append-nil (fetch_pieces (length a.tries) T1 p.loc)) part)
      (λ b u x w sx e. fails_tests s laid u young held a c w l (register_of T1 p.loc) b x sx e)
  branch_line test.Fails (p ∷ q ∷ qs) h at part = elim h [ ]
  branch_line (test.Signed f r) [] h at part = elim h [ ]
  branch_line (test.Signed f right.Register) (p ∷ []) h at part = elim h [ signed g ↦ elim g [ ] ]
  branch_line (test.Signed f right.Register) (p ∷ q ∷ []) h at part =
      register_line (test.Signed f right.Register) p q at.0.0 at.1.0.0 at.0.1 at.1.0.1 (signed_branch f (register_of T1 p.loc) (register_of T2 q.loc) l) part
      (λ b u x y w sx sy e. signed_says s laid u young held a c w l (register_of T1 p.loc) b (register_of T2 q.loc) x y sx sy f e)
  branch_line (test.Signed f right.Register) (p ∷ q ∷ o ∷ os) h at part = elim h [ signed g ↦ elim g [ ] ]
  branch_line (test.Signed f (right.Constant w)) (p ∷ []) h at part =
      constant_line (test.Signed f (right.Constant w)) w (immediate_small w h_is) p at.0.0 at.0.1
      (signed_branch f (register_of T1 p.loc) (constant_register w) l) part
      (λ b u x i sx sy e. signed_says s laid u young held a c i l (register_of T1 p.loc) b (constant_register w) x (Word w) sx sy f e)
    where
      h_is : is_immediate_12 w ≡ true
      h_is = elim h [ signed g ↦ elim g [ a_constant e ↦ e ] ]
  branch_line (test.Signed f (right.Constant w)) (p ∷ q ∷ qs) h at part = elim h [ signed g ↦ elim g [ ] ]
  branch_line (test.Unsigned f r) [] h at part = elim h [ ]
  branch_line (test.Unsigned f right.Register) (p ∷ []) h at part = elim h [ unsigned g ↦ elim g [ ] ]
  branch_line (test.Unsigned f right.Register) (p ∷ q ∷ []) h at part =
      register_line (test.Unsigned f right.Register) p q at.0.0 at.1.0.0 at.0.1 at.1.0.1
      (unsigned_branch f (register_of T1 p.loc) (register_of T2 q.loc) l) part
      (λ b u x y w sx sy e. unsigned_says s laid u young held a c w l (register_of T1 p.loc) b (register_of T2 q.loc) x y sx sy f e)
  branch_line (test.Unsigned f right.Register) (p ∷ q ∷ o ∷ os) h at part = elim h [ unsigned g ↦ elim g [ ] ]
  branch_line (test.Unsigned f (right.Constant w)) (p ∷ []) h at part =
      constant_line (test.Unsigned f (right.Constant w)) w (immediate_small w h_is) p at.0.0 at.0.1
      (unsigned_branch f (register_of T1 p.loc) (constant_register w) l) part
      (λ b u x i sx sy e. unsigned_says s laid u young held a c i l (register_of T1 p.loc) b (constant_register w) x (Word w) sx sy f e)
    where
      h_is : is_immediate_12 w ≡ true
      h_is = elim h [ unsigned g ↦ elim g [ a_constant e ↦ e ] ]
  branch_line (test.Unsigned f (right.Constant w)) (p ∷ q ∷ qs) h at part = elim h [ unsigned g ↦ elim g [ ] ]
