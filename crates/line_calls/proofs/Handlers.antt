-- The lines that return, raise, and push, pop and enter a try.
use Rattle.std.proofs.Common.{◌≡◌, ℕ, ◌+◌, ◌*◌, ◌<◌, ◌≤◌, inl, inr, Bool, true, false, cond, List, [], ◌∷◌, length, Option, Some, None, slice_index, refl, ap, arith, ◌∙◌, sym, subst, ⊎_elim}
use Rattle.std.proofs.lemmas.Bool.{cases_lt}
use Rattle.bs_words.specs.declared.types.Loc.{Loc}
use Rattle.bs_words.specs.declared.types.Loc.TheVariants as loc
use Rattle.bs_words.specs.declared.values.Value.{Value}
use Rattle.rv_emit_rules.specs.Calls.{return_part}
use Rattle.rv_emit_rules.specs.Slots.{move_pieces}
use Rattle.rv_emit_rules.specs.Traps.{enter_part, pop_part, push_part, raise_words}
use Rattle.rv_layout_rules.specs.Laid.{address_of_place}
use Rattle.rv_layout_rules.specs.Words.{NameAddresses}
use Rattle.lin_ir.specs.Meaning.{Locations, NamedAt, after_label, clear_destroyed, on_act, assign_spot, same_loc, step}
use Rattle.lin_ir.specs.declared.lin.Flow.TheVariants as flow
use Rattle.lin_ir.specs.declared.lin.Lin.{Lin}
use Rattle.lin_ir.specs.declared.lin.Line.{Line}
use Rattle.lin_ir.specs.declared.lin.LinOp.TheVariants as lin
use Rattle.lin_ir.specs.declared.lin.Spot.{Spot}
use Rattle.mach_ir.specs.Acts.{Around, drop_tries, if_known, is_complete}
use Rattle.mach_ir.specs.Meaning.{Everything}
use Rattle.mach_ir.specs.Runs.{ActivationSetting}
use Rattle.mach_ir.specs.declared.op.Leaving.TheVariants as leaving
use Rattle.mach_ir.specs.declared.op.Op.TheVariants as op
use Rattle.rv_isa.specs.declared.instr.AluImmOp.TheVariants.{Addi}
use Rattle.rv_isa.specs.declared.instr.Instr.TheVariants.{Jalr, Load, OpImm}
use Rattle.rv_isa.specs.declared.instr.LoadWidth.TheVariants.{Ld}
use Rattle.rv_machine.specs.Hart.{Placed}
use Rattle.rv_machine.specs.Memory.{code_start, memory_word}
use Rattle.rv_machine.specs.Services.{StackOut}
use Rattle.moving_laws.specs.Waiting.{IsBack}
use Rattle.moving_laws.specs.Words.{IsReadable}
use Rattle.lin_machine.specs.Follows.{Agrees, FollowsStep, IsAt, needs_of}
use Rattle.lin_machine.specs.Arrival.{ArrivesIn}
use Rattle.lin_machine.specs.Moments.{AtReturn, AtThrow}
use Rattle.lin_machine.specs.Relation.{AreCarried, Below, IsLocationRegister, Laid, RegistersHold, StandsFor, Within, blocks_by_serial}
use Rattle.lin_machine.specs.Straight.{LeadsFurther, Differs}
use Rattle.lin_machine.specs.View.{Fixed, HasCode, ReachesView, View}
use Rattle.lin_machine.proofs.Arriving.{ends_arrives, leads_in}
use Rattle.lin_machine.proofs.Endings.{Leading, pop_follows, push_follows, raise_follows, return_nothing, return_value}
use Rattle.lin_machine.proofs.Following.{result_follows, same_loc-true}
use Rattle.lin_machine.proofs.Frames.{heap_around}
use Rattle.lin_machine.proofs.Jumps.{raise_differs, raise_high, raise_leads, raise_place, raise_points, raise_value, raised_at}
use Rattle.lin_machine.proofs.Parts.{comes_here}
use Rattle.lin_machine.proofs.Standing.{a0_location}
use Rattle.lin_machine.proofs.Trapping.{handler_is, popped, popped_registers, pushes, throws}
use Rattle.lin_machine.proofs.Turning.{placed_past}
use Rattle.line_stands.specs.Parts.{PartStands}
use Rattle.line_stands.proofs.Parts.{nothing_more}
use Rattle.lin_laws.proofs.Forms.{same_machine}
use Rattle.line_calls.specs.Leading.{LeadsUpTo}
use Rattle.line_calls.specs.Laws.{frame_in}
use Rattle.line_calls.proofs.Leaving.{return_leaves}
use Rattle.line_calls.proofs.Reaching.{arrived}
use Rattle.line_calls.proofs.Traps.{IsTrap, can0, can8, own_trap, pop_reaches, pop_words, push_out, push_reaches, raise_code, trap_is}

-- ---- a handler takes the raised value from a0, and no other register holds anything

-- what is held after a result in a0, where every register was cleared before
pub record IsAlone (x : Value) (held after : Locations) : Type 0 where
  pub register : (r : ℕ) (y : Value) → after (loc.Machine r) ≡ Some y → (r ≡ 10) × (x ≡ y)
  pub slot : (k : ℕ) (y : Value) → after (loc.Slot k) ≡ Some y → held (loc.Slot k) ≡ Some y

pub cleared_alone : (p : Spot) (x : Value) (held : Locations) → p.loc ≡ loc.Machine 10 → IsAlone x held (assign_spot p x (clear_destroyed Everything held))
cleared_alone p x held seat = record {
  register = λ r y h. by_register r y (same_loc p.loc (loc.Machine r)) refl h;
  slot = λ k y h. by_slot k y (same_loc p.loc (loc.Slot k)) refl h;
}
  where
    by_register : (r : ℕ) (y : Value) (t : Bool) → same_loc p.loc (loc.Machine r) ≡ t → cond t (Some x) None ≡ Some y → (r ≡ 10) × (x ≡ y)
    by_register r y true e h = (same_machine r 10 (same_loc-true p.loc (loc.Machine r) e ∙ seat), (cc))
    by_register r y false e h = absurd (cc)

    by_slot : (k : ℕ) (y : Value) (t : Bool) → same_loc p.loc (loc.Slot k) ≡ t → cond t (Some x) (held (loc.Slot k)) ≡ Some y → held (loc.Slot k) ≡ Some y
    by_slot k y true e h = absurd (let q : loc.Slot k ≡ loc.Machine 10 = same_loc-true p.loc (loc.Slot k) e ∙ seat in cc)
    by_slot k y false e h = h

module _ (s : Fixed) (laid : Laid) (v : View) (young : List Placed) (held after : Locations) (a : Around) (c : Below) (x : Value)
    (within : Within s laid v young 0 held a c) (raised : a.raised ≡ Some x) (alone : IsAlone x held after) where
  stands_a0 : StandsFor s (blocks_by_serial v young) (slice_index v.registers 10) x
  stands_a0 = subst (λ o. AreCarried s (blocks_by_serial v young) v.registers held o) raised within.carried

  pub within_taken : Within s laid v young 0 after (record a { raised = None }) c
  within_taken = record {
    own = within.own;
    usable = within.usable;
    frame = within.frame;
    low = within.low;
    carried = λ r y h.
        let g = alone.register r y h in (
          subst IsLocationRegister (sym g.0) a0_location,
          subst (λ q. StandsFor s (blocks_by_serial v young) (slice_index v.registers q) y) (sym g.0)
              (subst (λ z. StandsFor s (blocks_by_serial v young) (slice_index v.registers 10) z) g.1 stands_a0),
        );
    slots = λ k y h. within.slots k y (alone.slot k y h);
    back = within.back;
    waits = within.waits;
    traps = within.traps;
    heap = heap_around s (blocks_by_serial v young) v.memory a a.tries None within.heap;
  }

module _ (s : Fixed) (n : NameAddresses) (laid : Laid) (live : List Line → Type 0) (entry : ℕ → ℕ) (c : Below) (place : ActivationSetting) (named : NamedAt) (m : Lin)
    (next : List Line) (v : View) (young : List Placed) (held file : Locations) (a : Around) (within : Within s laid v young 0 held a c) (before : Type 0)
    (agrees : Agrees before held file) (k : ℕ) where
  as_leading : (P : View → Type 0) → LeadsUpTo s v (v.place + k) P → Leading s laid live entry c place named m next v young held file a before agrees k P
  as_leading P l =
      let e = l.lands in
      let same : l.count ≡ k = omega (arith, e) in
      record { view = l.view; leads = subst (λ z. ReachesView s z v l.view) same l.leads; holds = l.holds }

  -- ---- returns

  module _ (none : a.raised ≡ None) (left : a.tries ≡ []) (part : PartStands s n v.place (v.place + k) (return_part (frame_in laid))) where
    pub return_without : FollowsStep k s laid live entry c v (step place named m (record {
      rest = record { op = lin.Op (op.Leaving leaving.Return); args = []; results = [] } ∷ next;
      file = file;
      around = a;
    }))
    return_without =
        return_nothing s laid live entry c place named m next v young held file a before agrees k
        (λ whole. as_leading (λ w. AtReturn s w young None a.memory c)
        (return_leaves s n laid v young held a c within left (v.place + k) part none whole None (λ x e. absurd (cc))))

    pub return_with : (p : Spot) → p.loc ≡ loc.Machine 10 → FollowsStep k s laid live entry c v (step place named m (record {
      rest = record { op = lin.Op (op.Leaving leaving.Return); args = p ∷ []; results = [] } ∷ next;
      file = file;
      around = a;
    }))
    return_with p seat =
        return_value s laid live entry c place named m next v young held file a before agrees p k seat
        (λ x h whole. as_leading (λ w. AtReturn s w young (Some x) a.memory c)
        (return_leaves s n laid v young held a c within left (v.place + k) part none whole (Some x)
        (λ y e. subst (λ z. held (loc.Machine 10) ≡ Some z) (let q : x ≡ y = cc in q) h)))

  -- ---- raises

  module _ (none : a.raised ≡ None) (part : PartStands s n v.place (v.place + k) raise_words)
      (handlers : (l : ℕ) (rest : List ℕ) → a.tries ≡ l ∷ rest → laid.handler l ≡ address_of_place (laid.part (length (after_label l m.code))))
      (dead : (l : ℕ) (rest : List ℕ) → a.tries ≡ l ∷ rest → live (after_label l m.code) → ⊥) where
    code : HasCode s v.place (OpImm Addi 2 9 0 ∷ Load Ld 6 2 0 ∷ Load Ld 9 2 8 ∷ OpImm Addi 2 2 16 ∷ Jalr 0 6 0 ∷ []) × (v.place + k ≡ v.place + 5)
    code = raise_code s n laid v young held a c within (v.place + k) part

    trap : IsTrap s v.memory (slice_index v.registers 9)
    trap = trap_is s n laid v young held a c within

    read0 : IsReadable v.memory (slice_index v.registers 9)
    read0 = can0 s n laid v young held a c within

    read8 : IsReadable v.memory (slice_index v.registers 9 + 8)
    read8 = can8 s n laid v young held a c within

    there : View
    there = raised_at s v within.own.are trap.back trap.low trap.high read0 read8 code.0

    led : ReachesView s k v there
    unfolding there
    led =
        let e = code.1 in
        let same : 5 ≡ k = omega (arith, e) in
        subst (λ z. ReachesView s z v (raised_at s v within.own.are trap.back trap.low trap.high read0 read8 code.0)) same
        (raise_leads s v within.own.are trap.back trap.low trap.high read0 read8 code.0)

    differs : Differs (2 ∷ 6 ∷ 7 ∷ 9 ∷ []) v.memory v there
    unfolding there
    differs = raise_differs s v within.own.are trap.back trap.low trap.high read0 read8 code.0

    high : slice_index there.registers 2 ≡ slice_index v.registers 9 + 16
    unfolding there
    high = raise_high s v within.own.are trap.back trap.low trap.high read0 read8 code.0

    points : slice_index there.registers 9 ≡ memory_word v.memory (slice_index v.registers 9 + 8)
    unfolding there
    points = raise_points s v within.own.are trap.back trap.low trap.high read0 read8 code.0

    value_there : slice_index there.registers 10 ≡ slice_index v.registers 10
    unfolding there
    value_there = raise_value s v within.own.are trap.back trap.low trap.high read0 read8 code.0

    place_there : code_start + 4 * there.place ≡ memory_word v.memory (slice_index v.registers 9)
    unfolding there
    place_there = raise_place s v within.own.are trap.back trap.low trap.high read0 read8 code.0

    stands_there : (x : Value) → held (loc.Machine 10) ≡ Some x → StandsFor s (blocks_by_serial v young) (slice_index there.registers 10) x
    stands_there x h = subst (λ z. StandsFor s (blocks_by_serial v young) z x) (sym value_there)
        ((subst (λ o. AreCarried s (blocks_by_serial v young) v.registers held o) none within.carried) 10 x h).1

    thrown_out : (x : Value) → held (loc.Machine 10) ≡ Some x → is_complete a ≡ true → a.tries ≡ [] →
        Leading s laid live entry c place named m next v young held file a before agrees k (λ w. AtThrow s w young x a.memory c)
    thrown_out x h whole left = record {
      view = there;
      leads = led;
      holds = throws s laid v there young held a c within differs x (stands_there x h) left whole high points place_there;
    }

    caught : (x : Value) (l : ℕ) (rest : List ℕ) → held (loc.Machine 10) ≡ Some x → a.tries ≡ l ∷ rest →
        Leading s laid live entry c place named m next v young held file a before agrees k
        (λ w. IsAt s laid live c (record { rest = after_label l m.code; file = file; around = record a { tries = rest; raised = Some x } }) w)
    caught x l rest h e =
        let own = own_trap s n laid v young held a c within l rest e in
        let up : slice_index there.registers 2 ≡ slice_index v.registers 2 + 16 = high ∙ ap (λ q. q + 16) own in
        let next_trap : slice_index there.registers 9 ≡ memory_word v.memory (slice_index v.registers 2 + 8) = points ∙ ap (λ q. memory_word v.memory (q + 8)) own in
        let goes : code_start + 4 * there.place ≡ code_start + 4 * laid.part (length (after_label l m.code)) =
        place_there ∙ ap (memory_word v.memory) own ∙ handler_is s laid v there young held a c within differs l rest e up next_trap ∙ handlers l rest e in
        record {
          view = there;
          leads = led;
          holds = (
            young,
            held,
            record { others = agrees.others; spare_too = λ q. absurd (dead l rest e q) },
            record {
              place = omega (arith, goes);
              within = popped s laid v there young held a c within differs l rest e up next_trap (Some x) held (stands_there x h) (λ j y q. q);
            },
          );
        }

    pub raise_line : (p : Spot) → p.loc ≡ loc.Machine 10 → FollowsStep k s laid live entry c v (step place named m (record {
      rest = record { op = lin.Op (op.Leaving leaving.Raise); args = p ∷ []; results = [] } ∷ next;
      file = file;
      around = a;
    }))
    raise_line p seat =
        let e = code.1 in
        raise_follows s laid live entry c place named m next v young held file a before agrees p k (omega (arith, e)) seat thrown_out caught

  -- ---- tries

  module _ (none : a.raised ≡ None) (behind : laid.part (length next) ≡ v.place + k) (dead : live next → ⊥) where
    agrees_behind : Agrees (live next) held file
    agrees_behind = record { others = agrees.others; spare_too = λ q. absurd (dead q) }

    -- a try is pushed, or the stack is passed
    pub push_line : (l : ℕ) → n.label l ≡ laid.handler l → IsBack (laid.handler l) → PartStands s n v.place (v.place + k) (push_part l) →
        FollowsStep k s laid live entry c v (step place named m (record {
          rest = record { op = lin.Flow (flow.PushTrap l); args = []; results = [] } ∷ next;
          file = file;
          around = a;
        }))
    push_line l handler back part =
        push_follows s laid live entry c place named m next v young held file a before agrees l k
        (⊎_elim short enough (cases_lt (slice_index v.registers 2) (s.base + 16)))
      where
        short : slice_index v.registers 2 < s.base + 16 →
            ArrivesIn 0 k s (needs_of laid c (record { rest = next; file = file; around = record a { tries = l ∷ a.tries } })) v
            (IsAt s laid live c (record { rest = next; file = file; around = record a { tries = l ∷ a.tries } }))
        short q =
            let f = within.frame in
            ends_arrives s (needs_of laid c (record { rest = next; file = file; around = record a { tries = l ∷ a.tries } }))
            _ v (IsAt s laid live c (record { rest = next; file = file; around = record a { tries = l ∷ a.tries } })) StackOut
            (inl (refl, omega (arith, f, q))) (push_out s n laid v young held a c within l (v.place + k) handler back part q)

        enough : s.base + 16 ≤ slice_index v.registers 2 →
            ArrivesIn 0 k s (needs_of laid c (record { rest = next; file = file; around = record a { tries = l ∷ a.tries } })) v
            (IsAt s laid live c (record { rest = next; file = file; around = record a { tries = l ∷ a.tries } }))
        enough q =
            let r = push_reaches s n laid v young held a c within l (v.place + k) handler back part q in
            let lands = r.lands in
            let w = r.changes.view in
            leads_in 0 k s r.count (omega arith) (omega (arith, lands)) v w
            (IsAt s laid live c (record { rest = next; file = file; around = record a { tries = l ∷ a.tries } })) r.changes.leads (
              young,
              held,
              agrees_behind,
              record {
                place = arrived s v (v.place + k) (2 ∷ 6 ∷ 7 ∷ 9 ∷ []) _ _ r ∙ sym behind;
                within = pushes s laid v w young held a c within l back none q
                    (record { are = r.changes.past.are; others = r.changes.past.others; memory = r.changes.past.memory; blocks = r.changes.past.blocks })
                    r.changes.holds.0 r.changes.holds.1;
              },
            )

    pub pop_line : (l : ℕ) (rest : List ℕ) → a.tries ≡ l ∷ rest → PartStands s n v.place (v.place + k) pop_part →
        FollowsStep k s laid live entry c v (step place named m (record {
          rest = record { op = lin.Flow flow.PopTrap; args = []; results = [] } ∷ next;
          file = file;
          around = a;
        }))
    pop_line l rest e part =
        let r = pop_reaches s n laid v young held a c within l (v.place + k) rest e part in
        let w = r.changes.view in
        let differs : Differs (2 ∷ 6 ∷ 7 ∷ 9 ∷ []) v.memory v w = record {
          are = r.changes.past.are;
          others = r.changes.past.others;
          memory = r.changes.past.memory;
          blocks = r.changes.past.blocks;
        } in
        let hold : RegistersHold s (blocks_by_serial v young) v.registers held = subst (λ o. AreCarried s (blocks_by_serial v young) v.registers held o) none within.carried in
        let same_blocks : blocks_by_serial w young ≡ blocks_by_serial v young = placed_past v w young r.changes.past.blocks in
        let out = popped s laid v w young held a c within differs l rest e r.changes.holds.0 r.changes.holds.1 None held
        (popped_registers s laid v w young held a c within differs hold)
        (λ j y q. q) in
        let left : rest ≡ drop_tries 1 a.tries = ap (drop_tries 1) (sym e) in
        let around : record a { tries = rest; raised = None } ≡ record a { tries = drop_tries 1 a.tries } =
        ap (λ ts. record a { tries = ts; raised = None }) left ∙ ap (λ o. record a { tries = drop_tries 1 a.tries; raised = o }) (sym none) in
        pop_follows s laid live entry c place named m next v young held file a before agrees k
        (as_leading (λ w. IsAt s laid live c (record { rest = next; file = file; around = record a { tries = drop_tries 1 a.tries } }) w) (record {
          count = r.count;
          lands = r.lands;
          some = let lands = r.lands in let two = pop_words s n laid v young held a c within l (v.place + k) rest e part in omega (arith, lands, two);
          view = w;
          leads = r.changes.leads;
          holds = (
            young,
            held,
            agrees_behind,
            record {
              place = arrived s v (v.place + k) (2 ∷ 6 ∷ 7 ∷ 9 ∷ []) _ _ r ∙ sym behind;
              within = subst (λ b. Within s laid w young 0 held b c) around out;
            },
          );
        }))

  -- the entry of a handler has no words
  pub enter_line : (p : Spot) → p.loc ≡ loc.Machine 10 → laid.part (length next) ≡ v.place + k →
      PartStands s n v.place (v.place + k) (enter_part (length a.tries) (p ∷ [])) →
      FollowsStep k s laid live entry c v (step place named m (record {
        rest = record { op = lin.Flow flow.EnterTrap; args = []; results = p ∷ [] } ∷ next;
        file = file;
        around = a;
      }))
  enter_line p seat behind part = by_raised a.raised refl
    where
      nothing : (l : Loc) → l ≡ loc.Machine 10 → PartStands s n v.place (v.place + k) (move_pieces (length a.tries) (loc.Machine 10) l) → v.place + k ≡ v.place
      nothing l e st = nothing_more s n v.place (v.place + k) (subst (λ q. PartStands s n v.place (v.place + k) (move_pieces (length a.tries)
          (loc.Machine 10) q)) e st)

      by_raised : (o : Option Value) → a.raised ≡ o →
          FollowsStep k s laid live entry c v (on_act place m (record { op = lin.Flow flow.EnterTrap; args = []; results = p ∷ [] }) next file a
          (if_known (record a { raised = None }) o))
      by_raised None e = tt
      by_raised (Some x) e =
          let z = nothing p.loc seat part in
          let none : 0 ≡ k = omega (arith, z) in
          result_follows s laid live entry c v next (Unit {0}) k place.setting.end p x young (clear_destroyed Everything held) (clear_destroyed Everything file)
          (record a { raised = None }) behind (record {
            others = λ l q. cleared l q;
            spare_too = λ u. refl;
          }) (λ q. inr tt)
          (λ fit. subst (λ q. LeadsFurther s v q (λ w. Within s laid w young 0 (assign_spot p x (clear_destroyed Everything held)) (record a { raised = None }) c)) none
          (comes_here s v (λ w. Within s laid w young 0 (assign_spot p x (clear_destroyed Everything held)) (record a { raised = None }) c)
          (within_taken s laid v young held (assign_spot p x (clear_destroyed Everything held)) a c x within e (cleared_alone p x held seat))))
        where
          cleared : (l : Loc) → (l ≡ loc.Machine 5 → ⊥) → clear_destroyed Everything held l ≡ clear_destroyed Everything file l
          cleared (loc.Machine r) q = refl
          cleared (loc.Slot j) q = agrees.others (loc.Slot j) q
          cleared loc.Unset q = agrees.others loc.Unset q
