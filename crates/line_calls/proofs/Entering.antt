-- A function begins: its frame is taken, or the run is out of stack, and the return address has its place.
use Rattle.std.proofs.Common.{◌≡◌, ◌≢◌, ℕ, ◌+◌, ◌-◌, ◌*◌, ◌<◌, ◌≤◌, inl, inr, Bool, true, false, cond, nat_eq, List, [], ◌∷◌, length, Option, Some, None, slice_index, refl, ap, arith, ◌∙◌, sym, subst, ⊎_elim}
use Rattle.std.proofs.lemmas.Bool.{cases_lt, eqb-true, eqb-false}
use Rattle.std.specs.List.{AllByRecursion}
use Rattle.bs_words.specs.Memory.{Memory}
use Rattle.bs_words.specs.declared.values.Value.{Value}
use Rattle.rv_emit_rules.specs.Constants.{bytes_taken_off}
use Rattle.rv_emit_rules.specs.Entry.{entry_pieces}
use Rattle.rv_emit_rules.specs.Slots.{stack_store}
use Rattle.rv_layout_rules.specs.Words.{NameAddresses}
use Rattle.lin_ir.specs.Formed.{places_of}
use Rattle.lin_ir.specs.Meaning.{Locations, State, begin_linear, put_all, linear_start}
use Rattle.lin_ir.specs.declared.lin.Line.{Line}
use Rattle.lin_ir.specs.declared.lin.Lin.{Lin}
use Rattle.mach_ir.specs.Runs.{ActivationSetting, entry_around}
use Rattle.mach_ir.specs.Seats.{AreSeated, InOrder, argument_locations}
use Rattle.rv_isa.specs.declared.register.Register.TheVariants.{Ra, Sp, T1}
use Rattle.rv_machine.specs.Hart.{Placed}
use Rattle.rv_machine.specs.Memory.{write}
use Rattle.rv_machine.specs.Services.{StackOut}
use Rattle.rv_machine.specs.Sound.{AreRegisters, IsRegion}
use Rattle.moving_laws.specs.Words.{IsReadable}
use Rattle.moving_laws.proofs.Usable.{stack_readable}
use Rattle.lin_machine.specs.Arrival.{ArrivesIn, Needs}
use Rattle.lin_machine.specs.Follows.{IsAt, IsEntered, needs_of}
use Rattle.lin_machine.specs.Moments.{AtEntry}
use Rattle.lin_machine.specs.Relation.{Below, Laid, Within}
use Rattle.lin_machine.specs.View.{EndsRunAfter, Fixed, IsInstructionAt, View}
use Rattle.lin_machine.proofs.Arriving.{ends_arrives, leads_in}
use Rattle.lin_machine.proofs.Slots.{IsStackWord}
use Rattle.lin_machine.proofs.Steps.{out_step, then_ends}
use Rattle.lin_machine.proofs.Turning.{IsBegun, begins, saved}
use Rattle.line_stands.specs.Parts.{PartStands}
use Rattle.line_stands.proofs.Parts.{nothing_more, splits}
use Rattle.line_calls.specs.Reaches.{Reaches}
use Rattle.line_calls.specs.Laws.{frame_in}
use Rattle.line_calls.proofs.Numbers.{Lowers, lowers}
use Rattle.line_calls.proofs.Reaching.{arrived, arrives_as, reaches_as, reaches_more, reaches_none, reaches_set, reaches_then}
use Rattle.line_calls.proofs.Seats.{parameters_put}
use Rattle.line_calls.proofs.Stack.{store_reaches}

module _ (s : Fixed) (n : NameAddresses) (laid : Laid) (small : laid.frame ≤ 1048576) (v : View) (young : List Placed) (at_place : ℕ) (arguments : List Value)
    (memory : Memory) (c : Below) (at : AtEntry s v young at_place arguments memory c) where
  -- ---- sp is lowered

  frame_low : laid.frame ≤ slice_index v.registers 2
  frame_low = let b = s.stack.low in let l = at.waits.low in let e = at.top in let k = small in omega (arith, b, l, e, k)

  sp_lowers : (to : ℕ) → nat_eq laid.frame 0 ≡ false → PartStands s n v.place to (bytes_taken_off T1 Sp laid.frame) →
      Lowers s n v to 5 1 (slice_index v.registers 2 - laid.frame)
  sp_lowers to e st =
      let some : laid.frame ≢ 0 = eqb-false laid.frame 0 e in
      lowers s n T1 Sp 5 1 refl refl (omega arith) (λ q. omega (arith, q)) (λ q. omega (arith, q)) v to laid.frame st at.own.are (omega
      (arith, some)) frame_low

  taken_by : (to : ℕ) (b : Bool) → nat_eq laid.frame 0 ≡ b → PartStands s n v.place to (cond b [] (bytes_taken_off T1 Sp laid.frame)) → s.base + laid.frame ≤ c.top →
      Reaches s v to (2 ∷ 6 ∷ []) v.memory (λ w. slice_index w.registers 2 ≡ c.top - laid.frame)
  taken_by to true e st fits =
      let none = eqb-true laid.frame 0 e in
      let top = at.top in
      reaches_none s v to (2 ∷ 6 ∷ []) (λ w. slice_index w.registers 2 ≡ c.top - laid.frame) (nothing_more s n v.place to st) at.own.are (omega
      (arith, none, top))
  taken_by to false e st fits =
      let l = sp_lowers to e st in
      let top = at.top in
      let lands = l.lands in
      let word = at.own.are.words 2 in
      let first : Reaches s v l.middle (2 ∷ 6 ∷ []) v.memory _ = reaches_as s v l.middle (6 ∷ []) (2 ∷ 6 ∷ []) v.memory _ _ (λ q i. inr i)
      (λ w m p h. h) l.first in
      let u = first.changes.view in
      let here = arrived s v l.middle (2 ∷ 6 ∷ []) v.memory _ first in
      reaches_as s v to (2 ∷ 6 ∷ []) (2 ∷ 6 ∷ []) v.memory _ _ (λ q i. i) (λ w m p h. let e = h.0 in omega (arith, e, top))
      (reaches_more s v l.middle to (2 ∷ 6 ∷ []) (2 ∷ []) v.memory _ _ first (λ q i. ⊎_elim (λ h. inl h) (λ h. absurd h) i)
      (reaches_set s u to l.last 1 (slice_index v.registers 2 - laid.frame) (subst (λ q. IsInstructionAt s q l.last) (sym here) l.code) (omega (arith, here, lands))
      (inr (omega (arith, fits, top))) first.changes.holds first.changes.past.are (omega arith) (omega (arith, word))))

  -- or the stack is passed
  pub record EndsShort (to : ℕ) : Type 0 where
    pub count : ℕ
    pub few : v.place + count ≤ to
    pub ends : EndsRunAfter s count v StackOut

  out_by : (to : ℕ) (b : Bool) → nat_eq laid.frame 0 ≡ b → PartStands s n v.place to (cond b [] (bytes_taken_off T1 Sp laid.frame)) → c.top < s.base + laid.frame →
      EndsShort to
  out_by to true e st short = let none = eqb-true laid.frame 0 e in let l = at.waits.low in absurd (omega (arith, none, l, short))
  out_by to false e st short =
      let l = sp_lowers to e st in
      let top = at.top in
      let lands = l.lands in
      let k = l.first.lands in
      let low = frame_low in
      let u = l.first.changes.view in
      let here = arrived s v l.middle (6 ∷ []) v.memory _ l.first in
      record {
        count = l.first.count + 1;
        few = omega (arith, k, lands);
        ends = then_ends s l.first.count 1 v u StackOut (sym l.first.changes.leads.calls) l.first.changes.leads
            (out_step s u l.last (slice_index v.registers 2 - laid.frame) (subst (λ q. IsInstructionAt s q l.last) (sym here) l.code) (omega (arith, short, top, low))
            l.first.changes.holds);
      }

  -- ---- the return address is saved

  saved_by : (u : View) (to : ℕ) (b : Bool) → b ≡ laid.saves → AreRegisters u.registers → u.memory ≡ v.memory →
      slice_index u.registers 2 ≡ c.top - laid.frame → slice_index u.registers 1 ≡ c.back →
      PartStands s n u.place to (cond b (stack_store T1 Ra (laid.frame - 8)) []) →
      s.base + laid.frame ≤ c.top →
      Reaches s u to (6 ∷ []) (saved b u.memory (c.top - 8) c.back) (λ w. Unit {0})
  saved_by u to false e are m sp ra st fits = reaches_none s u to (6 ∷ []) (λ w. Unit {0}) (nothing_more s n u.place to st) are tt
  saved_by u to true e are m sp ra st fits =
      let room : 8 * laid.slots + 8 ≤ laid.frame = subst (λ t. 8 * laid.slots + cond t 8 0 ≤ laid.frame) (sym e) laid.room in
      let base = s.stack.low in
      let hi = at.waits.high in
      let ev = at.waits.even in
      let address : slice_index u.registers 2 + (laid.frame - 8) ≡ c.top - 8 = omega (arith, sp, room, fits) in
      let can : IsReadable v.memory (c.top - 8) =
      stack_readable s.image s.heap s.base v.memory at.usable.regions (c.top - 8) (omega (arith, ev, room, fits)) (omega (arith, room, fits)) (omega
      (arith, room, fits, hi)) in
      let there : IsStackWord u (laid.frame - 8) =
      record {
        high = omega (arith, address, hi);
        low = omega (arith, address, fits, room, base);
        readable = subst (λ y. IsReadable u.memory y) (sym address) (subst (λ k. IsReadable k (c.top - 8)) (sym m) can);
      } in
      subst (λ y. Reaches s u to (6 ∷ []) (write u.memory y c.back) (λ w. Unit {0})) address
      (subst (λ y. Reaches s u to (6 ∷ []) (write u.memory (slice_index u.registers 2 + (laid.frame - 8)) y) (λ w. Unit {0})) ra
      (store_reaches s n u are (laid.frame - 8) there (let k = small in omega (arith, k)) T1 Ra 5 0 refl refl (omega arith) (λ q. omega (arith, q))
      (λ q. omega (arith, q))
      (subst (λ k. AllByRecursion IsRegion k) (sym m) at.usable.regions.each) to st))

  entered_reaches : (to : ℕ) → PartStands s n v.place to (entry_pieces (frame_in laid)) → s.base + laid.frame ≤ c.top →
      Reaches s v to (2 ∷ 6 ∷ []) (saved laid.saves v.memory (c.top - 8) c.back) (λ w. slice_index w.registers 2 ≡ c.top - laid.frame)
  entered_reaches to st fits =
      let parts = splits s n v.place to (cond (nat_eq laid.frame 0) [] (bytes_taken_off T1 Sp laid.frame)) (cond laid.saves (stack_store T1 Ra
      (laid.frame - 8)) []) st in
      let first = taken_by parts.middle (nat_eq laid.frame 0) refl parts.first fits in
      let u = first.changes.view in
      let here = arrived s v parts.middle (2 ∷ 6 ∷ []) v.memory _ first in
      let ra : slice_index u.registers 1 ≡ c.back =
      first.changes.past.others 1 (λ i. ⊎_elim (λ q. omega (arith, q)) (λ j. ⊎_elim (λ q. omega (arith, q)) (λ z. z) j) i) ∙ at.back in
      reaches_then s v parts.middle to (2 ∷ 6 ∷ []) v.memory (saved laid.saves v.memory (c.top - 8) c.back) _
      (λ w. slice_index w.registers 2 ≡ c.top - laid.frame) first
      (subst (λ k. Reaches s u to (2 ∷ 6 ∷ []) (saved laid.saves k (c.top - 8) c.back) (λ w. slice_index w.registers 2 ≡ c.top - laid.frame))
      first.changes.past.memory
      (reaches_as s u to (6 ∷ []) (2 ∷ 6 ∷ []) (saved laid.saves u.memory (c.top - 8) c.back) (λ w. Unit {0})
      (λ w. slice_index w.registers 2 ≡ c.top - laid.frame)
      (λ q i. inr i) (λ w k p h. p.others 2 (λ i. ⊎_elim (λ q. omega (arith, q)) (λ z. z) i) ∙ first.changes.holds)
      (saved_by u to laid.saves refl first.changes.past.are first.changes.past.memory first.changes.holds ra
      (subst (λ q. PartStands s n q to (cond laid.saves (stack_store T1 Ra (laid.frame - 8)) [])) (sym here) parts.second) fits)))

  -- ---- the whole

  pub entry_arrives :
      (k : ℕ) → PartStands s n v.place (v.place + k) (entry_pieces (frame_in laid)) → (held : Locations) → IsBegun arguments held → (q : Needs) → q.top ≡ c.top →
      q.stack ≡ laid.frame → ArrivesIn 0 k s q v (λ w. (w.place ≡ v.place + k) × Within s laid w young 0 held (entry_around memory) c)
  entry_arrives k st held begin_linear q top stack = ⊎_elim short enough (cases_lt c.top (s.base + laid.frame))
    where
      short : c.top < s.base + laid.frame → ArrivesIn 0 k s q v (λ w. (w.place ≡ v.place + k) × Within s laid w young 0 held (entry_around memory) c)
      short l =
          let parts = splits s n v.place (v.place + k) (cond (nat_eq laid.frame 0) [] (bytes_taken_off T1 Sp laid.frame))
          (cond laid.saves (stack_store T1 Ra (laid.frame - 8)) []) st in
          let out = out_by parts.middle (nat_eq laid.frame 0) refl parts.first l in
          ends_arrives s q out.count v (λ w. (w.place ≡ v.place + k) × Within s laid w young 0 held (entry_around memory) c) StackOut
          (inl (refl, omega (arith, l, top, stack))) out.ends

      enough : s.base + laid.frame ≤ c.top → ArrivesIn 0 k s q v (λ w. (w.place ≡ v.place + k) × Within s laid w young 0 held (entry_around memory) c)
      enough l =
          let r = entered_reaches (v.place + k) st l in
          let lands = r.lands in
          let w = r.changes.view in
          leads_in 0 k s r.count (omega arith) (omega (arith, lands)) v w (λ w. (w.place ≡ v.place + k) × Within s laid w young 0 held (entry_around memory) c)
          r.changes.leads (
            arrived s v (v.place + k) (2 ∷ 6 ∷ []) _ _ r,
            begins s laid v w young at_place arguments memory c at l
                (record {
                  are = r.changes.past.are;
                  others = λ q i. r.changes.past.others q (λ j. i (⊎_elim (λ h. inl h) (λ j. inr (⊎_elim (λ h. inl h) (λ z. absurd z) j)) j));
                  memory = r.changes.past.memory;
                  blocks = r.changes.past.blocks;
                })
                r.changes.holds held begin_linear,
          )

-- Where a function is entered, it comes to its first line with its arguments in its parameters, or the stack is passed.
pub entry_follows :
    (s : Fixed) (n : NameAddresses) (laid : Laid) → laid.frame ≤ 1048576 → (live : List Line → Type 0) (entries : ℕ → ℕ) (f : ℕ) (c : Below) (place : ActivationSetting) (m : Lin)
    (v : View) (arguments : List Value) (memory : Memory) (k : ℕ) →
    PartStands s n (entries f) (entries f + k) (entry_pieces (frame_in laid)) → laid.part (length m.code) ≡ entries f + k →
    AreSeated (InOrder argument_locations) (places_of m.params) →
    IsEntered s entries f arguments memory c v → (u : State) → linear_start place m arguments memory ≡ Some u →
    ArrivesIn 0 k s (needs_of laid c u) v (IsAt s laid live c u)
entry_follows s n laid small live entries f c place m v arguments memory k st part seats is u e =
    by_option (put_all place.setting.end m.params arguments (λ l. None)) refl e
  where
    by_option : (o : Option Locations) → put_all place.setting.end m.params arguments (λ l. None) ≡ o → begin_linear m memory o ≡ Some u →
        ArrivesIn 0 k s (needs_of laid c u) v (IsAt s laid live c u)
    by_option None h e = absurd (cc)
    by_option (Some file) h e =
        let young = is.0 in
        let at = is.1 in
        let same : record { rest = m.code; file = file; around = entry_around memory } ≡ u = cc in
        let here : entries f ≡ v.place = sym at.place in
        let st' : PartStands s n v.place (v.place + k) (entry_pieces (frame_in laid)) = subst (λ p. PartStands s n p (p + k) (entry_pieces (frame_in laid))) here st in
        subst (λ u. ArrivesIn 0 k s (needs_of laid c u) v (IsAt s laid live c u)) same
        (arrives_as 0 k s v _ _ (λ w h. (
          young,
          file,
          record { others = λ l i. refl; spare_too = λ l. refl },
          record {
            place = h.0 ∙ ap (λ p. p + k) (sym here) ∙ sym part;
            within = h.1;
          },
        ))
        (entry_arrives s n laid small v young (entries f) arguments memory c at k st' file (parameters_put place.setting.end m.params arguments file seats h)
        (needs_of laid c (record { rest = m.code; file = file; around = entry_around memory })) refl (omega arith)))
