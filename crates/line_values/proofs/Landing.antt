-- Labels, jumps and exits follow their lines.
use Rattle.std.proofs.Common.{◌≡◌, ℕ, ◌+◌, ◌^◌, ◌<◌, ◌≤◌, inl, inr, Bool, true, false, List, [], ◌∷◌, length, Some, refl, arith, sym, subst, ⊎_elim}
use Rattle.rv_layout_rules.specs.Forms.{jump_form, jump_words, form_rank, piece_words}
use Rattle.rv_layout_rules.specs.Laid.{address_of_place}
use Rattle.rv_layout_rules.specs.Words.{NameAddresses, jump_code}
use Rattle.rv_layout_rules.specs.declared.form.Form.{Form}
use Rattle.rv_layout_rules.specs.declared.form.Form.TheVariants.{Near, Middle, Far}
use Rattle.lin_ir.specs.Meaning.{Locations, NamedAt, after_label, step, wrote}
use Rattle.lin_ir.specs.declared.lin.Flow.TheVariants as flow
use Rattle.lin_ir.specs.declared.lin.Lin.{Lin}
use Rattle.lin_ir.specs.declared.lin.Line.{Line}
use Rattle.lin_ir.specs.declared.lin.LinOp.TheVariants as lin
use Rattle.mach_ir.specs.Acts.{Around}
use Rattle.mach_ir.specs.Runs.{ActivationSetting}
use Rattle.rv_machine.specs.Hart.{Placed}
use Rattle.rv_machine.specs.Sound.{AreRegisters}
use Rattle.rv_pieces.specs.declared.piece.Piece.{Piece}
use Rattle.rv_pieces.specs.declared.piece.Piece.TheVariants.{Jump, Label}
use Rattle.lin_machine.specs.Arrival.{ArrivesIn}
use Rattle.lin_machine.specs.Follows.{Agrees, FollowsStep, IsAt, needs_of}
use Rattle.lin_machine.specs.Relation.{Below, Laid, ReturnStands, Within}
use Rattle.lin_machine.specs.Straight.{Differs}
use Rattle.lin_machine.specs.View.{Fixed, View, HasCode, ReachesView}
use Rattle.lin_machine.proofs.Arriving.{leads_in}
use Rattle.lin_machine.proofs.Flows.{label_follows}
use Rattle.lin_machine.proofs.Following.{agrees_on}
use Rattle.lin_machine.proofs.Standing.{within_past}
use Rattle.lin_machine.proofs.Steps.{at_place}
use Rattle.line_stands.specs.Parts.{PartStands, label_place}
use Rattle.line_stands.proofs.Parts.{none_left, starts}
use Rattle.line_values.proofs.Jumping.{IsPlace, Jumped, code_near, jump_goes}

-- ---- the relation does not depend on the place

back_at : (b : Bool) (v : View) (p : ℕ) (c : Below) → ReturnStands b v c → ReturnStands b (at_place p v) c
back_at true v p c h = h
back_at false v p c h = h

pub within_at : (s : Fixed) (laid : Laid) (v : View) (young : List Placed) (held : Locations) (a : Around) (c : Below) (p : ℕ) →
    Within s laid v young 0 held a c →
    Within s laid (at_place p v) young 0 held a c
within_at s laid v young held a c p w = record {
  own = w.own;
  usable = record { regions = w.usable.regions; heap = w.usable.heap; apart = w.usable.apart };
  frame = w.frame;
  low = w.low;
  carried = w.carried;
  slots = w.slots;
  back = back_at laid.saves v p c w.back;
  waits = w.waits;
  traps = w.traps;
  heap = w.heap;
}

pub within_gone : (s : Fixed) (laid : Laid) (v w : View) (young : List Placed) (held : Locations) (a : Around) (c : Below) → Differs (6 ∷ 7 ∷ []) v.memory v w →
    Within s laid v young 0 held a c → Within s laid w young 0 held a c
within_gone s laid v w young held a c d within =
    within_at s laid (at_place v.place w) young held a c w.place
    (within_past s laid v (at_place v.place w) young 0 held a c 0 (6 ∷ 7 ∷ [])
    (record { place = omega arith; are = d.are; others = d.others; memory = d.memory; blocks = d.blocks })
    (λ q i. ⊎_elim (λ e. inl e) (λ f. ⊎_elim (λ e. inr e) (λ z. absurd z) f) i) within)

-- ---- where labels lie

-- a label's address is that of the part after it
pub record Lies (s : Fixed) (laid : Laid) (n : NameAddresses) (m : Lin) (l : ℕ) : Type 0 where
  pub address : n.label l ≡ address_of_place (laid.part (length (after_label l m.code)))
  pub inside : laid.part (length (after_label l m.code)) ≤ length s.image.code

pub lies_near : (s : Fixed) (laid : Laid) (n : NameAddresses) (m : Lin) (l : ℕ) → Lies s laid n m l → IsPlace (laid.part (length (after_label l m.code)))
lies_near s laid n m l lies = let i = lies.inside in let short = s.functions.tables.code.short in omega (arith, i, short)

pub lies_place : (s : Fixed) (laid : Laid) (n : NameAddresses) (m : Lin) (l : ℕ) → Lies s laid n m l → label_place n l ≡ laid.part (length (after_label l m.code))
lies_place s laid n m l lies = let e = lies.address in omega (arith, e)

jump_near : (s : Fixed) (p from to : ℕ) (f : Form) → HasCode s p (jump_code f from to) → p + 16384 < 2 ^ 26
jump_near s p from to Near code = code_near s p _ code.0
jump_near s p from to Middle code = code_near s p _ code.0
jump_near s p from to Far code = code_near s p _ code.0

jump_length : (f : Form) → jump_words f ≡ length (jump_code f 0 0)
jump_length Near = refl
jump_length Middle = refl
jump_length Far = refl

-- a jump piece leads to its label
pub jump_lands : (s : Fixed) (laid : Laid) (n : NameAddresses) (m : Lin) (u : View) → AreRegisters u.registers → (l : ℕ) → Lies s laid n m l →
    (k : ℕ) (ys : List Piece) →
    PartStands s n u.place (u.place + k) (Jump l ∷ ys) → Jumped s u k (laid.part (length (after_label l m.code)))
jump_lands s laid n m u are l lies k ys part =
    let g = starts s n u.place k (Jump l) ys part in
    let to : ℕ = laid.part (length (after_label l m.code)) in
    let e = g.sum in
    let code : HasCode s u.place (jump_code g.form (address_of_place u.place) (address_of_place (laid.part (length (after_label l m.code))))) =
    subst (λ z. HasCode s u.place (jump_code g.form (address_of_place u.place) z)) lies.address g.code in
    let reach : form_rank (jump_form u.place (laid.part (length (after_label l m.code)))) ≤ form_rank g.form =
    subst (λ z. form_rank (jump_form u.place z) ≤ form_rank g.form) (lies_place s laid n m l lies) g.reaches in
    let near = jump_near s u.place (address_of_place u.place) (address_of_place to) g.form code in
    let jumped = jump_goes s u are to (omega (arith, near)) (lies_near s laid n m l lies) g.form reach code (jump_words g.form) (jump_length g.form) in
    let few = jumped.few in
    record { count = jumped.count; some = jumped.some; few = omega (arith, few, e); goes = jumped.goes }

module _ (s : Fixed) (n : NameAddresses) (laid : Laid) (m : Lin) (live : List Line → Type 0) (entry : ℕ → ℕ) (c : Below)
    (place : ActivationSetting) (named : NamedAt) (next : List Line) (v : View) (young : List Placed) (held file : Locations) (a : Around)
    (within : Within s laid v young 0 held a c) (before : Type 0) (agrees : Agrees before held file) (k : ℕ) where
  -- it lands before this code in at least so many instructions
  pub lands_in : (least count : ℕ) → least ≤ count → count ≤ k → (rest : List Line) (w : View) → ReachesView s count v w → w.place ≡ laid.part (length rest) →
      Within s laid w young 0 held a c → (live rest → before) →
      ArrivesIn least k s (needs_of laid c (record { rest = rest; file = file; around = a })) v
      (IsAt s laid live c (record { rest = rest; file = file; around = a }))
  lands_in least count some few rest w leads at stands passes =
      leads_in least k s count some few v w (IsAt s laid live c (record { rest = rest; file = file; around = a })) leads
      (young, held, agrees_on before (live rest) held file passes agrees, record { place = at; within = stands })

  -- or in so many or fewer
  pub lands : (count : ℕ) → count ≤ k → (rest : List Line) (w : View) → ReachesView s count v w → w.place ≡ laid.part (length rest) →
      Within s laid w young 0 held a c → (live rest → before) → FollowsStep k s laid live entry c v (wrote rest a (Some file))
  lands count few rest w leads at stands passes = lands_in 0 count (omega arith) few rest w leads at stands passes

  pub label_line : (l : ℕ) → laid.part (length next) ≡ v.place + k → PartStands s n v.place (v.place + k) (Label l ∷ []) → (live next → before) →
      FollowsStep k s laid live entry c v (step place named m (record {
        rest = record { op = lin.Flow (flow.Label l); args = []; results = [] } ∷ next;
        file = file;
        around = a;
      }))
  label_line l behind part passes =
      let g = starts s n v.place k (Label l) [] part in
      let e = g.sum in
      let z = none_left s n (v.place + piece_words (Label l) g.form) g.others g.rest in
      let none : k ≡ 0 = omega (arith, e, z) in
      subst (λ j. FollowsStep j s laid live entry c v (step place named m (record {
        rest = record { op = lin.Flow (flow.Label l); args = []; results = [] } ∷ next;
        file = file;
        around = a;
      }))) (sym none)
      (label_follows s laid live entry c place named m next v young held file a within before agrees l (omega (arith, behind, none)) passes)

  module _ (l : ℕ) (lies : Lies s laid n m l) (part : PartStands s n v.place (v.place + k) (Jump l ∷ [])) (passes : live (after_label l m.code) → before) where
    jumps : Jumped s v k (laid.part (length (after_label l m.code)))
    jumps = jump_lands s laid n m v within.own.are l lies k [] part

    pub jump_line : FollowsStep k s laid live entry c v (step place named m (record {
      rest = record { op = lin.Flow (flow.Jump l); args = []; results = [] } ∷ next;
      file = file;
      around = a;
    }))
    jump_line =
        let j = jumps in
        lands j.count j.few (after_label l m.code) j.goes.view j.goes.leads j.goes.place
        (within_gone s laid v j.goes.view young held a c j.goes.differs within) passes

    -- an exit is a unit, and has an instruction
    pub exit_line : FollowsStep k s laid live entry c v (step place named m (record {
      rest = record { op = lin.Flow (flow.Exit l); args = []; results = [] } ∷ next;
      file = file;
      around = a;
    }))
    exit_line =
        let j = jumps in
        lands_in 1 j.count j.some j.few (after_label l m.code) j.goes.view j.goes.leads j.goes.place
        (within_gone s laid v j.goes.view young held a c j.goes.differs within) passes
