-- The lines do what the Mach code does, and read no poison.
use Rattle.std.proofs.Common.{◌≡◌, ◌≢◌, ℕ, zero, suc, Bool, true, false, cond, ◌⊎◌, inl, inr, ⊎_elim, List, [], ◌∷◌, map, Option, Some, None, nat_eq, refl, sym, ap, ◌∙◌, subst}
use Rattle.std.proofs.lemmas.Bool.{true≢false, eq-eqb, eqb-true, eqb-false}
use Rattle.std.specs.List.{Contains}
use Rattle.std.proofs.lemmas.Option.{none-some, same_Some}
use Rattle.bs_words.specs.Fits.{fits, type_of_comp}
use Rattle.bs_words.specs.Memory.{Memory}
use Rattle.bs_words.specs.declared.types.Comp.{Comp}
use Rattle.bs_words.specs.declared.types.Comp.TheVariants as comp
use Rattle.bs_words.specs.declared.types.Loc.{Loc}
use Rattle.bs_words.specs.declared.types.Loc.TheVariants as loc
use Rattle.bs_words.specs.declared.values.Value.{Value}
use Rattle.bs_words.proofs.Lists.{none_in, pairs_here, pairs_later, head_same, tail_same}
use Rattle.lin_ir.specs.Known.{Doing, Callee}
use Rattle.mach_ir.specs.Acts.{Around, Target, On, At, AtLabel, AtHandler, Act, Goes, Pushes, Jumps, Unwinds, Asks, Replaces, Ends, EndsRaising, Stuck, drop_tries}
use Rattle.mach_ir.specs.Runs.{ActivationSetting, Step, Continues, Pays, entry_around, first_tally}
use Rattle.mach_ir.specs.Meaning.{State, File, Held, put_all, put_if, with_held, clear_registers, killed, registers_written, values, past_frame, passes_frame, is_destroyed, is_at_one_of, destroyed_by, after_label, from_handler, at_handler, code_at, landing_code, tries_at, mach_act, wrote, on_act, on_values, step, begin_mach, mach_start}
use Rattle.mach_ir.specs.Formed.{AreDistinct, tries_left, WellFormed}
use Rattle.mach_ir.specs.Keeps.{ValsWritten, wrote_unless, wrote_at, Ahead, Trails}
use Rattle.mach_ir.specs.Placed.{HasColourOrSlot, in_colour, in_slot, FullyPlaced, colour_numbers}
use Rattle.mach_ir.specs.Walks.{AmongRegisters, first, later, Writes, OneOf, this, targets, may_raise, goes, raises, Live, read, aside, LiveAcross, across_step, across_raise, after_step, IsRegister, is_param, is_colour, is_in_code, IsMove, at_write, at_params, one_way}
use Rattle.mach_ir.specs.Walks as mach_walks
use Rattle.mach_ir.specs.declared.op.CopyKind.TheVariants as copy
use Rattle.mach_ir.specs.declared.op.Op.TheVariants as op
use Rattle.mach_ir.specs.declared.op.Pure.TheVariants as pure
use Rattle.mach_ir.specs.declared.reg.Reg.{Reg}
use Rattle.mach_ir.specs.declared.mach.Mark.TheVariants as mark
use Rattle.mach_ir.specs.declared.mach.MachOp.{MachOp}
use Rattle.mach_ir.specs.declared.mach.MachOp.TheVariants as mach
use Rattle.mach_ir.specs.declared.mach.Instr.{Instr}
use Rattle.mach_ir.specs.declared.mach.Mach.{Mach}
use Rattle.mach_laws.specs.Expand.{Ending, all}
use Rattle.mach_laws.proofs.Places.{ending_next, ending_from_handler, stands_of}
use Rattle.mach_laws.proofs.Simulate.{Agrees}
use Rattle.mach_laws.proofs.Walking.{ending_at}
use Rattle.mach_laws.proofs.Among.{left_among, right_among, split_among}
use Rattle.mach_laws.proofs.Instructions.{instr}
use Rattle.mach_laws.proofs.Files.{put_of, PutAll, nil, cons}
use Rattle.lin_ir.specs.Formed.{bare_flow}
use Rattle.lin_ir.specs.Meaning as lines
use Rattle.lin_ir.specs.Meaning.{Locations, holds_val}
use Rattle.lin_ir.specs.Walks as walks
use Rattle.lin_ir.specs.declared.lin.Flow.TheVariants as flow
use Rattle.lin_ir.specs.declared.lin.LinOp.{LinOp}
use Rattle.lin_ir.specs.declared.lin.LinOp.TheVariants as lin
use Rattle.lin_ir.specs.declared.lin.Line.{Line}
use Rattle.lin_ir.specs.declared.lin.Lin.{Lin}
use Rattle.lin_ir.specs.declared.lin.Spot.{Spot}
use Rattle.lin_laws.proofs.Forms.{not_slot}
use Rattle.linearise_rules.specs.Kept as kept
use Rattle.linearise_rules.specs.Kept.{ValsHeld, LoweringBegins}
use Rattle.linearise_rules.specs.Lowered.{home, spots, is_idle, line_of, pops, lines_of, lowered_code}
use Rattle.linearise_rules.proofs.Alike.{calm_at, same_frame, same_tries, same_act, is_handler, is_entry, none_raised, bare_calm, Copies, move_of, copies_of}
use Rattle.linearise_rules.proofs.Homes.{not_unset, of_map, IsIn, is_first, in_of, contains_of, in_among, number_in, Pair, pair_in, Once, once_none, once_more, values_none, pair_held, single, clear_keeps, past_some, machine_of, one_at, killed_has, in_spots, spot_of, Typed, puts_at, typed_put, reads_all, in_map}
use Rattle.linearise_rules.proofs.Marks.{all_in, in_ending, args_in_code, results_in_code, AsLine, op_line, if_line, switch_line, try_line, handler_line, is_bare, IsIdle, idles, idle_of, bare_empty, EntryOf, entry_of}
use Rattle.linearise_rules.proofs.Places.{drop_more}
use Rattle.linearise_rules.proofs.Standing.{same_targets, same_raises, same_destroyed, q, formed_at, label_of, label_q, at_target, handler_of, marked}
use Rattle.linearise_rules.proofs.Meeting.{bare_writes, traps_to, traps_on, IsMetAcross, met_across}
use Rattle.linearise_rules.proofs.Simulate.{Arrives, both_continue, both_pay, both_deepen, both_wait, both_finish_by, both_finish, both_finish_raising, first_stuck, goes_alone, Closed, simulates}
use Rattle.mach_laws.proofs.Turns.{Turns, goes_in, exits_in, jumps_in, unwinds_in, pushes_in, asks_in, tries_on, IsTry, is_try, IsExit, turns}
use Rattle.mach_laws.proofs.Level.{ahead_of, trails_of}

abbrev Distinct : Reg → Reg → Type 0
Distinct r q = r.number ≢ q.number

once_of : (rs : List Reg) → AreDistinct rs → Once rs
once_of [] h = once_none
once_of (r ∷ rs) h =
    once_more (λ a. let y = number_in a in all_in (Distinct r) (pairs_here Distinct r rs h) y.inside (sym y.same)) (once_of rs (pairs_later Distinct r rs h))

-- ---- the relation

module _ (c : ActivationSetting) (number : ℕ → ℕ) (slots : ℕ) (p : Mach) (well : WellFormed p) (full : FullyPlaced p)
    (apart : (r k : Reg) → IsRegister p r → IsRegister p k → home number r.loc ≡ home number k.loc → r.loc ≡ k.loc) where
  abbrev end : ℕ
  end = c.setting.end

  abbrev Q : Lin
  Q = q number slots p well

  abbrev L : List Instr → List Line
  L = lowered_code number

  placed : (r : Reg) → IsRegister p r → HasColourOrSlot r
  placed r i = full.places r i

  results_are : {i : Instr} {next : List Instr} → Ending (i ∷ next) p.code → (r : Reg) → IsIn r i.results → IsRegister p r
  results_are e r z = is_in_code (results_in_code e z)

  -- what is live in both holds its value at its place
  abbrev Rel : List Instr → List Line → File → Locations → List ℕ → Type 0
  Rel rest ys a b tries =
      (r : Reg) → IsRegister p r → (x : Held) → Live p r.number rest → walks.Live Q (home number r.loc) r.comp ys tries → a r.number ≡ Some x → b (home number r.loc) ≡ Some x.value

  -- the lines of this code, or those of a handler after its label
  data AtLines : List Instr → List Line → Type 0 where
    whole : {rest : List Instr} {ys : List Line} → ys ≡ L rest → AtLines rest ys
    entering : {h : ℕ} {i : Instr} {next : List Instr} {ys : List Line} → i.op ≡ mach.Mark (mark.Handler h) → ys ≡ line_of number (lin.Flow flow.EnterTrap) i ∷ L next → AtLines (i ∷ next) ys

  abbrev at_file : List Instr → File → Around → State
  at_file rest a around = record { rest = rest; file = a; around = around }

  abbrev at_lines : List Line → Locations → Around → lines.State
  at_lines ys b around = record { rest = ys; file = b; around = around }

  data Related : State → lines.State → Type 0 where
    related : {rest : List Instr} {ys : List Line} {a : File} {b : Locations} {around : Around} → Ending rest p.code → AtLines rest ys → around.tries ≡ tries_at rest →
        walks.Reached Q ys around.tries → Typed number p end a → Rel rest ys a b around.tries → (is_entry rest ≡ false → around.raised ≡ None) →
        Related (at_file rest a around) (at_lines ys b around)

  live_here : {n : ℕ} {i : Instr} {next : List Instr} → LiveAcross p n i next → Live p n (i ∷ next)
  live_here (across_step free l v) = mach_walks.on free l v
  live_here (across_raise r v) = aside r v

  line_live_here : {l : Loc} {t : Comp} {j : Line} {ys : List Line} {tries : List ℕ} → walks.LiveAcross Q l t j ys tries → walks.Live Q l t (j ∷ ys) tries
  line_live_here (walks.across_step free l v) = walks.on free l v
  line_live_here (walks.across_raise r v) = walks.aside r v

  -- why a register that is written, and another that is live after the write, have one place
  data Shares (i : Instr) (k : Reg) : Reg → Type 0 where
    moved : {r : Reg} → Copies i k.number → Shares i k r
    one_slot : {r : Reg} → r.origin ≡ k.origin → k.loc ≡ loc.Slot r.origin → Shares i k r

  share_of : {i : Instr} {next : List Instr} → Ending (i ∷ next) p.code → (t : Target) → OneOf t (targets i.op) → (r k : Reg) → IsRegister p r → IsRegister p k → Writes p i r.number →
      Live p k.number (code_at p.code next t) → nat_eq r.number k.number ≡ false → home number r.loc ≡ home number k.loc → Shares i k r
  share_of {i} {next} e t o r k ri ki w v ne same = ⊎_elim (λ m. moved (copies_of m)) joined (move_of k.number r.number i.op i.args i.results)
    where
      joined : (IsMove k.number r.number i → ⊥) → Shares i k r
      joined out =
          let at : r.loc ≡ k.loc = apart r k ri ki same in
          let y = full.well.agree.apart r k ri ki (one_way (eqb-false r.number k.number ne) (at_write i next (stands_of e) w (after_step (goes t o) v) out)) (not_unset r (placed r ri)) at in
          one_slot y.0 (sym at ∙ y.1)

  -- ---- one line with the operands and results of its instruction

  module _ where
    abbrev Arrive : List Reg → Step State → Step lines.State → Type 0
    Arrive = Arrives c p Q Related

    module _ (i : Instr) (next : List Instr) (a : File) (b : Locations) (around : Around) (f : LinOp) (ending : Ending (i ∷ next) p.code) (z : AsLine i.op f)
        (tries : around.tries ≡ tries_at (i ∷ next)) (reached : walks.Reached Q (line_of number f i ∷ L next) around.tries) (typed : Typed number p end a)
        (rel : Rel (i ∷ next) (line_of number f i ∷ L next) a b around.tries) (calm : is_handler i.op ≡ false → around.raised ≡ None) where
      abbrev j : Line
      j = line_of number f i

      abbrev ys : List Line
      ys = L next

      abbrev a' : File
      a' = past_frame (passes_frame i.op) a

      before : (r : Reg) (x : Held) → a' r.number ≡ Some x → a r.number ≡ Some x
      before r x e = by (passes_frame i.op) e
        where
          by : (t : Bool) → past_frame t a r.number ≡ Some x → a r.number ≡ Some x
          by false e = e
          by true e = (past_some (a r.number) x e).0

      -- what is live after, in both, holds its value
      across_value : (r : Reg) → IsRegister p r → (x : Held) → LiveAcross p r.number i next → walks.LiveAcross Q (home number r.loc) r.comp j ys around.tries → a' r.number ≡ Some x →
          b (home number r.loc) ≡ Some x.value
      across_value r ri x v w e = rel r ri x (live_here v) (line_live_here w) (before r x e)

      -- what is live after a frame point as val holds a val
      vals_held : ValsWritten p (at_file (i ∷ next) a around) → ValsHeld c Q (at_lines (j ∷ ys) b around)
      vals_held vals = record { held = λ k ks same frame l w. first_line k ks same frame l w }
        where
          by : lines.passes_frame f ≡ true → (l : Loc) → walks.LiveAcross Q l comp.Val j ys around.tries → IsMetAcross number slots p well full l comp.Val i next → holds_val end (b l) ≡ true
          by t l w m = three (a m.reg.number) refl
            where
              three : (o : Option Held) → a m.reg.number ≡ o → holds_val end (b l) ≡ true
              three None e = absurd (vals.written i next refl (sym (same_frame z) ∙ t) m.reg m.is m.type m.live e)
              three (Some x) e =
                  let y = typed m.reg m.is x e in
                  let w' : walks.LiveAcross Q (home number m.reg.loc) m.reg.comp j ys around.tries =
                  subst (λ k. walks.LiveAcross Q (home number m.reg.loc) k j ys around.tries) (sym m.type) (subst (λ l. walks.LiveAcross Q l comp.Val j ys around.tries) (sym m.place) w) in
                  ap (λ l. holds_val end (b l)) (sym m.place) ∙ ap (holds_val end) (rel m.reg m.is x (live_here m.live) (line_live_here w') e) ∙ ap (λ k. fits end (type_of_comp k) x.value) (sym m.type) ∙ y.1

          first_line : (k : Line) (ks : List Line) → j ∷ ys ≡ k ∷ ks → lines.passes_frame k.op ≡ true → (l : Loc) → walks.LiveAcross Q l comp.Val k ks around.tries → holds_val end (b l) ≡ true
          first_line k ks same frame l w =
              let head : j ≡ k = head_same same in
              let tail : ys ≡ ks = tail_same same in
              let w' : walks.LiveAcross Q l comp.Val j ys around.tries =
              subst (λ x. walks.LiveAcross Q l comp.Val x ys around.tries) (sym head) (subst (λ xs. walks.LiveAcross Q l comp.Val k xs around.tries) (sym tail) w) in
              by (ap (λ (x : Line). lines.passes_frame x.op) head ∙ frame) l w' (met_across number slots p well full f ending z tries w')

      args_read : (vs : List Value) → values a i.args ≡ Some vs → lines.values end b j.args ≡ Some vs
      args_read vs e =
          reads_all number p end a b i.args vs e
          (λ r inside x u.
          let ri : IsRegister p r = is_in_code (args_in_code ending inside) in
          (rel r ri x (read (in_among inside)) (walks.read (contains_of (in_spots number inside))) u, (typed r ri x u).1))

      -- what is live after a write, and not written, is in no destroyed register
      colour_free : (t : Target) → OneOf t (targets i.op) → (k : Reg) → IsRegister p k → Live p k.number (code_at p.code next t) → (AmongRegisters k.number (killed p i) → ⊥) →
          ((r : Reg) → IsIn r i.results → home number r.loc ≡ home number k.loc → ⊥) → is_destroyed (destroyed_by i.op) k.loc ≡ true → ⊥
      colour_free t o k ki v unkilled nowhere e = by (placed k ki)
        where
          by : HasColourOrSlot k → ⊥
          by (in_slot s) = let y = machine_of (destroyed_by i.op) k.loc e in not_slot y.0 k.origin (sym y.1 ∙ s)
          by (in_colour n at s) =
              let inside : IsIn (loc.Machine n) (map (λ (r : Reg). r.loc) p.colours) = subst (IsIn (loc.Machine n)) (sym full.well.colours.each) (in_map loc.Machine (in_of n colour_numbers at)) in
              let y = of_map (λ (r : Reg). r.loc) (loc.Machine n) p.colours inside in
              two y.from y.inside (y.same ∙ sym s)
            where
              two : (r : Reg) → IsIn r p.colours → r.loc ≡ k.loc → ⊥
              two r inside here = three (is_at_one_of r.loc i.results) refl
                where
                  shared : Shares i k r → ⊥
                  shared (moved m) = true≢false (sym e ∙ ap (λ f. is_destroyed (destroyed_by f) k.loc) m.op_is)
                  shared (one_slot same slot) = let y = machine_of (destroyed_by i.op) k.loc e in not_slot y.0 r.origin (sym y.1 ∙ slot)

                  kill : AmongRegisters r.number (killed p i) → (t' : Bool) → nat_eq r.number k.number ≡ t' → ⊥
                  kill w true s' = unkilled (subst (λ m. AmongRegisters m (killed p i)) (eqb-true r.number k.number s') w)
                  kill w false s' = shared (share_of ending t o r k (is_colour (contains_of inside)) ki (right_among i.results _ w) v s' (ap (home number) here))

                  three : (t' : Bool) → is_at_one_of r.loc i.results ≡ t' → ⊥
                  three true s' = let y = one_at r.loc i.results s' in nowhere y.reg y.inside (ap (home number) (sym y.same ∙ here))
                  three false s' =
                      kill (killed_has r p.colours (destroyed_by i.op) i.results inside (subst (λ l. is_destroyed (destroyed_by i.op) l ≡ true) (sym here) e) s') (nat_eq r.number k.number) refl

      -- a copy goes on with the value that it reads
      abbrev Copied : List Value → Type 0
      Copied vs = (k : ℕ) → (m : Copies i k) → (h : Held) × (a' k ≡ Some h) × (vs ≡ h.value ∷ [])

      abbrev Known : State → Type 0
      Known s = Agrees p (registers_written p i) s

      goes_on : (vs : List Value) (to : Target) (after : Around) (d : File) → PutAll end (clear_registers (killed p i) a') i.results vs d → OneOf to (targets i.op) → after.tries ≡ tries_on i.op around.tries →
          after.raised ≡ None → Copied vs →
          Arrive (registers_written p i) (Continues (at_file (code_at p.code next to) d after))
          (lines.wrote (lines.code_at Q.code ys to) after (lines.put_all end j.results vs (lines.clear_destroyed (lines.destroyed_by f) b)))
      goes_on vs to after d puts o left none copied =
          let y = puts_at number p end well.numbers placed (lines.clear_destroyed (lines.destroyed_by f) b) puts (results_are ending) in
          let t : after.tries ≡ walks.tries_after f around.tries = left ∙ same_tries around.tries z in
          let t' : walks.tries_after f around.tries ≡ tries_at (code_at p.code next to) = ap (walks.tries_after f) tries ∙ traps_to number slots p well full f ending z to o in
          subst (λ o. Arrive (registers_written p i) (Continues (at_file (code_at p.code next to) d after)) (lines.wrote (lines.code_at Q.code ys to) after o)) (sym y.puts)
          (both_continue
          (λ agree.
          related (ending_at to ending) (whole (at_target number slots p well ending to o)) (t ∙ t')
          (subst (walks.Reached Q (lines.code_at Q.code ys to)) (sym t) (walks.by_step reached (walks.goes to (subst (OneOf to) (sym (same_targets z)) o))))
          (typed_put number p end well.numbers placed puts (results_are ending) cleared)
          (λ k ki x v u e. y.at k ki x e
          (λ r v' pair ne same. share k ki x r v' v e pair ne agree (share_of ending to o r k (results_are ending r (pair_in pair)) ki (left_among _ (killed p i) (in_among (pair_in pair))) v ne same))
          (λ free nowhere e'. kept k ki x v (subst (walks.Live Q (home number k.loc) k.comp (lines.code_at Q.code ys to)) t u) free nowhere e'))
          (λ w. none)))
        where
          typed' : Typed number p end a'
          typed' r ri x e = by (passes_frame i.op) e
            where
              by : (t : Bool) → past_frame t a r.number ≡ Some x → (x.comp ≡ r.comp) × (fits end (type_of_comp r.comp) x.value ≡ true)
              by false e = typed r ri x e
              by true e = typed r ri x (past_some (a r.number) x e).0

          cleared : Typed number p end (clear_registers (killed p i) a')
          cleared r ri x e = typed' r ri x (clear_keeps (killed p i) a' r.number x e).0

          share : (k : Reg) → IsRegister p k → (x : Held) (r : Reg) (v : Value) → Live p k.number (code_at p.code next to) → d k.number ≡ Some x → Pair r v i.results vs → nat_eq r.number k.number ≡ false →
              Known (at_file (code_at p.code next to) d after) → Shares i k r → v ≡ x.value
          share k ki x r v live e pair ne agree (one_slot same slot) =
              agree.agree r k (results_are ending r (pair_in pair)) ki same
              (inr (subst (λ o. AmongRegisters r.number (wrote_unless o (registers_written p i))) (sym none) (left_among _ (killed p i) (in_among (pair_in pair))))) (inl live)
              (record { comp = r.comp; value = v }) x (pair_held puts (once_of i.results (all_in (λ (i : Instr). AreDistinct i.results) well.distinct (in_ending ending))) r v pair) e
          share k ki x r v live e pair ne agree (moved m) = by (copied k.number m)
            where
              by : (h : Held) × (a' k.number ≡ Some h) × (vs ≡ h.value ∷ []) → v ≡ x.value
              by h =
                  let s = single h.0.value puts h.2 r v pair k.number ne in
                  let old = (clear_keeps (killed p i) a' k.number x (sym s.1 ∙ e)).0 in
                  s.0 ∙ ap (λ (k : Held). k.value) (same_Some h.0 x (sym h.1 ∙ old))

          kept : (k : Reg) → IsRegister p k → (x : Held) → Live p k.number (code_at p.code next to) → walks.Live Q (home number k.loc) k.comp (lines.code_at Q.code ys to) (walks.tries_after f around.tries) →
              (AmongRegisters k.number i.results → ⊥) → ((r : Reg) → IsIn r i.results → home number r.loc ≡ home number k.loc → ⊥) →
              clear_registers (killed p i) a' k.number ≡ Some x → lines.clear_destroyed (lines.destroyed_by f) b (home number k.loc) ≡ Some x.value
          kept k ki x v u free nowhere e = by (is_destroyed (lines.destroyed_by f) (home number k.loc)) refl
            where
              old : (a' k.number ≡ Some x) × (AmongRegisters k.number (killed p i) → ⊥)
              old = clear_keeps (killed p i) a' k.number x e

              unwritten : Writes p i k.number → ⊥
              unwritten w = ⊎_elim free old.1 (split_among k.number i.results (killed p i) w)

              at_colour : is_destroyed (lines.destroyed_by f) (home number k.loc) ≡ true → is_destroyed (destroyed_by i.op) k.loc ≡ true
              at_colour s = back (placed k ki) (subst (λ d. is_destroyed d (home number k.loc) ≡ true) (same_destroyed z) s)
                where
                  back : HasColourOrSlot k → is_destroyed (destroyed_by i.op) (home number k.loc) ≡ true → is_destroyed (destroyed_by i.op) k.loc ≡ true
                  back (in_colour n at e) s = subst (λ l. is_destroyed (destroyed_by i.op) l ≡ true) (sym e) (subst (λ l. is_destroyed (destroyed_by i.op) (home number l) ≡ true) e s)
                  back (in_slot e) s =
                      let y = machine_of (destroyed_by i.op) (home number k.loc) s in absurd (not_slot y.0 (number k.origin) (sym y.1 ∙ ap (home number) e))

              by : (t : Bool) → is_destroyed (lines.destroyed_by f) (home number k.loc) ≡ t → cond t None (b (home number k.loc)) ≡ Some x.value
              by true t = absurd (colour_free to o k ki v old.1 nowhere (at_colour t))
              by false t =
                  across_value k ki x (across_step unwritten (goes to o) v)
                  (walks.across_step (λ w. ⊎_elim (λ s. in_result s.0 s.1) (λ s. true≢false (sym s ∙ t)) w) (walks.goes to (subst (OneOf to) (sym (same_targets z)) o)) u) old.0
                where
                  in_result : (t : Comp) → Contains (spots number i.results) (record { loc = home number k.loc; comp = t }) → ⊥
                  in_result t w =
                      let y = spot_of number (record { loc = home number k.loc; comp = t }) i.results (in_of (record { loc = home number k.loc; comp = t }) (spots number i.results) w) in
                      nowhere y.reg y.inside (ap (λ (s : Spot). s.loc) y.same)

      abbrev CopiedAct : Act → Type 0
      CopiedAct x = (k : ℕ) → (m : Copies i k) → (h : Held) × (a' k ≡ Some h) × (x ≡ Goes (h.value ∷ []) On around)

      goes_same : (vs ws : List Value) (to : Target) (after : Around) → Goes vs to after ≡ Goes ws On around → vs ≡ ws
      goes_same vs ws to after e = cc

      asks_not : (callee : Callee) (vs ws : List Value) (go : Doing → Act) → Asks callee vs go ≡ Goes ws On around → ⊥
      asks_not callee vs ws go e = cc

      typed_past : Typed number p end a'
      typed_past r ri x e = by (passes_frame i.op) e
        where
          by : (t : Bool) → past_frame t a r.number ≡ Some x → (x.comp ≡ r.comp) × (fits end (type_of_comp r.comp) x.value ≡ true)
          by false e = typed r ri x e
          by true e = typed r ri x (past_some (a r.number) x e).0

      -- into a handler
      caught : (h : ℕ) (after : Around) → may_raise i.op ≡ true → around.tries ≡ h ∷ after.tries →
          Related (at_file (landing_code p.code (i ∷ next) AtHandler) a' after) (at_lines (lines.landing_code Q.code around.tries AtHandler) b after)
      caught h after r e =
          let u : tries_at (i ∷ next) ≡ h ∷ after.tries = sym tries ∙ e in
          subst (λ ts. Related (at_file (at_handler p.code ts) a' after) (at_lines (lines.at_handler Q.code around.tries) b after)) (sym u)
          (subst (λ ts. Related (at_file (from_handler h p.code) a' after) (at_lines (lines.at_handler Q.code ts) b after)) (sym e)
          (by u (entry_of number h p.code (handler_of number slots p well (i ∷ next) ending u) well.labels_once)))
        where
          by : tries_at (i ∷ next) ≡ h ∷ after.tries → EntryOf number h p.code → Related (at_file (from_handler h p.code) a' after) (at_lines (lines.after_label h Q.code) b after)
          by u y =
              related (ending_from_handler h p.code)
              (subst (λ rest. AtLines rest (lines.after_label h Q.code)) (sym y.found) (entering y.is y.lines))
              (sym (well.nested.at_handler i next (stands_of ending) r h after.tries u))
              (walks.by_raise (subst (walks.Reached Q (j ∷ ys)) e reached) (walks.raises (same_raises z ∙ r))) typed_past
              (λ k ki x v w s. across_value k ki x (across_raise (raises r u) v)
              (subst (λ ts. walks.LiveAcross Q (home number k.loc) k.comp j ys ts) (sym e) (walks.across_raise (walks.raises (same_raises z ∙ r)) w)) s)
              (λ w. absurd (true≢false (sym (ap is_entry y.found ∙ ap is_handler y.is) ∙ w)))

      try_bare : (g : MachOp) (l : ℕ) → IsTry g l → is_bare g ≡ true
      try_bare g l is_try = refl

      try_on : (g : MachOp) (l : ℕ) → IsTry g l → OneOf On (targets g)
      try_on g l is_try = this

      try_tries : (g : MachOp) (l : ℕ) (ts : List ℕ) → IsTry g l → l ∷ ts ≡ tries_on g ts
      try_tries g l ts is_try = refl

      try_calm : (g : MachOp) (l : ℕ) → IsTry g l → is_handler g ≡ false
      try_calm g l is_try = refl

      try_destroys : (g : MachOp) (l : ℕ) (k : Loc) → IsTry g l → is_destroyed (destroyed_by g) k ≡ false
      try_destroys g l k is_try = refl

      pushed : (l : ℕ) (after : Around) → IsTry i.op l → after.tries ≡ l ∷ around.tries → after.raised ≡ around.raised → Related (at_file next a' after) (at_lines ys b after)
      pushed l after t e same =
          let o = try_on i.op l t in
          let o' = subst (OneOf On) (sym (same_targets z)) o in
          let s : after.tries ≡ walks.tries_after f around.tries = e ∙ try_tries i.op l around.tries t ∙ same_tries around.tries z in
          related (ending_next ending) (whole refl) (s ∙ ap (walks.tries_after f) tries ∙ traps_on number slots p well full f ending z)
          (subst (walks.Reached Q ys) (sym s) (walks.by_step reached (walks.goes On o'))) typed_past
          (λ k ki x v u h. across_value k ki x (across_step (bare_writes number slots p well full ending (try_bare i.op l t) k.number) (goes On o) v)
          (walks.across_step (λ w. ⊎_elim (λ y. nothing_in k y.0 y.1) (λ d. true≢false (sym d ∙ ap (λ d. is_destroyed d (home number k.loc)) (same_destroyed z) ∙ try_destroys i.op l (home number k.loc) t)) w)
          (walks.goes On o') (subst (walks.Live Q (home number k.loc) k.comp ys) s u)) h)
          (λ w. same ∙ calm (try_calm i.op l t))
        where
          nothing_in : (k : Reg) (t' : Comp) → Contains (spots number i.results) (record { loc = home number k.loc; comp = t' }) → ⊥
          nothing_in k t' w =
              none_in (record { loc = home number k.loc; comp = t' })
              (subst (λ rs. Contains (spots number rs) (record { loc = home number k.loc; comp = t' })) (bare_empty (formed_at number slots p well ending) (try_bare i.op l t)).1 w)

      no_exit : {g : MachOp} {l n : ℕ} {f : LinOp} → AsLine g f → IsExit g l n → ⊥
      no_exit op_line x = elim x [ ]
      no_exit if_line x = elim x [ ]
      no_exit switch_line x = elim x [ ]
      no_exit try_line x = elim x [ ]
      no_exit handler_line x = elim x [ ]

      acts : (x : Act) → Turns i.op around.tries around.raised x → CopiedAct x → Arrive (registers_written p i) (on_act c p i next a' around x) (lines.on_act c Q j ys b around x)
      acts (Goes vs to after) (goes_in o left raised) copied = by (put_all end i.results vs (clear_registers (killed p i) a')) refl
        where
          by : (r : Option File) → put_all end i.results vs (clear_registers (killed p i) a') ≡ r →
              Arrive (registers_written p i) (wrote (code_at p.code next to) after r) (lines.wrote (lines.code_at Q.code ys to) after (lines.put_all end j.results vs (lines.clear_destroyed (lines.destroyed_by f) b)))
          by None e = first_stuck
          by (Some d) e =
              goes_on vs to after d (put_of end i.results vs (clear_registers (killed p i) a') d e) o left (raised ∙ none_raised around.raised z calm)
              (λ k m. let h = copied k m in (h.0, h.1, goes_same vs (h.0.value ∷ []) to after h.2))
      acts (Jumps (AtLabel l) after) (exits_in x e u) copied = absurd (no_exit z x)
      acts (Jumps AtHandler after) (jumps_in {h = h} r e) copied = both_pay (λ agree. caught h after r e)
      acts (Unwinds after) (unwinds_in {h = h} r e) copied = both_continue (λ agree. caught h after r e)
      acts (Pushes after) (pushes_in {l = l} t e same) copied = both_deepen (λ agree. pushed l after t e same)
      acts (Asks callee vs go) (asks_in g) copied =
          both_wait (λ d. acts (go d) (g d) (λ k m. let h = copied k m in absurd (asks_not callee vs (h.0.value ∷ []) go h.2)))
      acts (Replaces callee vs kept) t copied = both_finish_by
      acts (Ends d) t copied = both_finish
      acts (EndsRaising d) t copied = both_finish_raising
      acts Stuck t copied = first_stuck

      copied_act : (vs : List Value) → values a i.args ≡ Some vs → CopiedAct (mach_act c.setting i.op vs around)
      copied_act vs e k m = by (a m.from.number) refl (subst (λ rs. values a rs ≡ Some vs) m.args_are e)
        where
          by : (o : Option Held) → a m.from.number ≡ o → with_held o (Some []) ≡ Some vs → (h : Held) × (a' k ≡ Some h) × (mach_act c.setting i.op vs around ≡ Goes (h.value ∷ []) On around)
          by None s u = absurd (values_none vs u)
          by (Some h) s u = (
            h,
            ap (λ g. past_frame (passes_frame g) a k) m.op_is ∙ ap a (sym m.number) ∙ s,
            ap (λ g. mach_act c.setting g vs around) m.op_is ∙ ap (λ vs. mach_act c.setting (mach.Op (op.Pure (pure.Copy copy.Move))) vs around) (sym (two (h.value ∷ []) vs u)),
          )
            where
              two : (ws vs : List Value) → Some ws ≡ Some vs → ws ≡ vs
              two ws vs e = cc

      one_step : Arrive (registers_written p i) (on_values c p i next a around (values a i.args)) (kept.on_lossless_line_values c Q j ys b around (lines.values end b j.args))
      one_step = by (values a i.args) refl
        where
          by : (o : Option (List Value)) → values a i.args ≡ o → Arrive (registers_written p i) (on_values c p i next a around o) (kept.on_lossless_line_values c Q j ys b around (lines.values end b j.args))
          by None e = first_stuck
          by (Some vs) e =
              subst (λ o. Arrive (registers_written p i) (on_act c p i next a' around (mach_act c.setting i.op vs around)) (kept.on_lossless_line_values c Q j ys b around o)) (sym (args_read vs e))
              (subst (λ x. Arrive (registers_written p i) (on_act c p i next a' around (mach_act c.setting i.op vs around)) (lines.on_act c Q j ys b around x)) (same_act c.setting vs around z)
              (acts (mach_act c.setting i.op vs around) (turns c.setting i.op vs around) (copied_act vs e)))

    -- ---- structures

    none_written : (l : Loc) → ((t : Comp) × Contains {X = Spot} [] (record { loc = l; comp = t })) ⊎ (false ≡ true) → ⊥
    none_written l w = ⊎_elim (λ y. none_in (record { loc = l; comp = y.0 }) y.1) (λ e. true≢false (sym e)) w

    pops_run : {ws : List Reg} {x : Step State} (n : ℕ) (xs : List Line) (b : Locations) (around : Around) →
        Arrive ws x (Continues (at_lines xs b (record around { tries = drop_tries n around.tries }))) → Arrive ws x (Continues (at_lines (pops number n xs) b around))
    pops_run zero xs b around r = r
    pops_run {ws} {x} (suc n) xs b around r =
        goes_alone (calm_at c Q (bare_flow flow.PopTrap) (pops number n xs) b around refl)
        (pops_run n xs b (record around { tries = drop_tries 1 around.tries })
        (subst (λ ts. Arrive ws x (Continues (at_lines xs b (record around { tries = ts })))) (drop_more n around.tries) r))

    pops_reached : (n : ℕ) (xs : List Line) (ts : List ℕ) → walks.Reached Q (pops number n xs) ts → walks.Reached Q xs (drop_tries n ts)
    pops_reached zero xs ts r = r
    pops_reached (suc n) xs ts r =
        subst (walks.Reached Q xs) (sym (drop_more n ts)) (pops_reached n xs (drop_tries 1 ts) (walks.by_step r (walks.goes On this)))

    pops_live : {l : Loc} {t : Comp} (n : ℕ) (xs : List Line) (ts : List ℕ) → walks.Live Q l t xs (drop_tries n ts) → walks.Live Q l t (pops number n xs) ts
    pops_live zero xs ts v = v
    pops_live {l} {t} (suc n) xs ts v =
        walks.on (none_written l) (walks.goes On this) (pops_live n xs (drop_tries 1 ts) (subst (walks.Live Q l t xs) (drop_more n ts) v))

    abbrev bare_instr : MachOp → Instr
    bare_instr g = instr g [] []

    -- what is owed of an instruction from where its lines are
    abbrev Owes : Instr → Type 0
    Owes i =
        (next : List Instr) (a : File) (b : Locations) (around : Around) → Ending (i ∷ next) p.code → around.tries ≡ tries_at (i ∷ next) → walks.Reached Q (L (i ∷ next)) around.tries →
        Typed number p end a → Rel (i ∷ next) (L (i ∷ next)) a b around.tries → (is_handler i.op ≡ false → around.raised ≡ None) → ValsWritten p (at_file (i ∷ next) a around) →
        Arrive (registers_written p i) (step c p (at_file (i ∷ next) a around)) (Continues (at_lines (L (i ∷ next)) b around))

    module _ (g : MachOp) (is_bare' : is_bare g ≡ true) (next : List Instr) (a : File) (b : Locations) (around : Around) (ending : Ending (bare_instr g ∷ next) p.code)
        (tries : around.tries ≡ tries_at (bare_instr g ∷ next)) (reached : walks.Reached Q (L (bare_instr g ∷ next)) around.tries) (typed : Typed number p end a)
        (rel : Rel (bare_instr g ∷ next) (L (bare_instr g ∷ next)) a b around.tries) (calm : is_handler g ≡ false → around.raised ≡ None) where
      -- it goes on to a target with these tries
      bare_goes : (to : Target) (ts : List ℕ) → OneOf to (targets g) → ts ≡ tries_at (code_at p.code next to) → walks.Reached Q (L (code_at p.code next to)) ts →
          ((l : Loc) (t : Comp) → walks.Live Q l t (L (code_at p.code next to)) ts → walks.Live Q l t (L (bare_instr g ∷ next)) around.tries) →
          Related (at_file (code_at p.code next to) a (record around { tries = ts })) (at_lines (L (code_at p.code next to)) b (record around { tries = ts }))
      bare_goes to ts o same there back =
          related (ending_at to ending) (whole refl) same there typed
          (λ r ri x v u e. rel r ri x (mach_walks.on (bare_writes number slots p well full ending is_bare' r.number) (goes to o) v) (back (home number r.loc) r.comp u) e)
          (λ w. calm (bare_calm g is_bare'))

      label_tries : (l : ℕ) → OneOf (At l) (targets g) → tries_at (after_label l p.code) ≡ tries_left g around.tries
      label_tries l o = marked number slots p well ending l o ∙ ap (tries_left g) (sym tries)

      found : (l : ℕ) → OneOf (At l) (targets g) → lines.after_label l Q.code ≡ L (after_label l p.code)
      found l o = label_q number slots p well l (label_of number slots p well ending l o)

      -- a jump to a label, and what is live there
      jump_live : (m : ℕ) → OneOf (At m) (targets g) → (zs : List Line) (ts : List ℕ) (l : Loc) (t : Comp) → walks.Live Q l t (L (after_label m p.code)) ts → walks.Live Q l t (bare_flow (flow.Jump m) ∷ zs) ts
      jump_live m o zs ts l t v = walks.on (none_written l) (walks.goes (At m) this) (subst (λ ys. walks.Live Q l t ys ts) (sym (found m o)) v)

      exit_live : (m : ℕ) → OneOf (At m) (targets g) → (zs : List Line) (ts : List ℕ) (l : Loc) (t : Comp) → walks.Live Q l t (L (after_label m p.code)) ts → walks.Live Q l t (bare_flow (flow.Exit m) ∷ zs) ts
      exit_live m o zs ts l t v = walks.on (none_written l) (walks.goes (At m) this) (subst (λ ys. walks.Live Q l t ys ts) (sym (found m o)) v)

      jump_reached : (m : ℕ) → OneOf (At m) (targets g) → (zs : List Line) (ts : List ℕ) → walks.Reached Q (bare_flow (flow.Jump m) ∷ zs) ts → walks.Reached Q (L (after_label m p.code)) ts
      jump_reached m o zs ts r = subst (λ ys. walks.Reached Q ys ts) (found m o) (walks.by_step r (walks.goes (At m) this))

      exit_reached : (m : ℕ) → OneOf (At m) (targets g) → (zs : List Line) (ts : List ℕ) → walks.Reached Q (bare_flow (flow.Exit m) ∷ zs) ts → walks.Reached Q (L (after_label m p.code)) ts
      exit_reached m o zs ts r = subst (λ ys. walks.Reached Q ys ts) (found m o) (walks.by_step r (walks.goes (At m) this))

      -- a structure of which the lines are a jump and a label
      jumps : (m k : ℕ) → OneOf (At m) (targets g) → tries_left g around.tries ≡ around.tries → L (bare_instr g ∷ next) ≡ bare_flow (flow.Jump m) ∷ bare_flow (flow.Label k) ∷ L next →
          Arrive (registers_written p (bare_instr g)) (Continues (at_file (after_label m p.code) a around)) (Continues (at_lines (bare_flow (flow.Jump m) ∷ bare_flow (flow.Label k) ∷ L next) b around))
      jumps m k o same shape =
          goes_alone (calm_at c Q (bare_flow (flow.Jump m)) (bare_flow (flow.Label k) ∷ L next) b around refl)
          (subst (λ ys. Arrive (registers_written p (bare_instr g)) (Continues (at_file (after_label m p.code) a around)) (Continues (at_lines ys b around))) (sym (found m o))
          (both_continue (λ agree. bare_goes (At m) around.tries o (sym (label_tries m o ∙ same))
          (jump_reached m o (bare_flow (flow.Label k) ∷ L next) around.tries (subst (λ ys. walks.Reached Q ys around.tries) shape reached))
          (λ l t v. subst (λ ys. walks.Live Q l t ys around.tries) (sym shape) (jump_live m o (bare_flow (flow.Label k) ∷ L next) around.tries l t v)))))

    else_step : (k m : ℕ) → Owes (bare_instr (mach.Mark (mark.Else k m)))
    else_step k m next a b around ending tries reached typed rel calm vals =
        jumps (mach.Mark (mark.Else k m)) refl next a b around ending tries reached typed rel calm m k this refl refl

    case_step : (ns : List ℕ) (k m : ℕ) → Owes (bare_instr (mach.Mark (mark.Case ns k m)))
    case_step ns k m next a b around ending tries reached typed rel calm vals =
        jumps (mach.Mark (mark.Case ns k m)) refl next a b around ending tries reached typed rel calm m k this refl refl

    with_step : (k m : ℕ) → Owes (bare_instr (mach.Mark (mark.With k m)))
    with_step k m next a b around ending tries reached typed rel calm vals =
        jumps (mach.Mark (mark.With k m)) refl next a b around ending tries reached typed rel calm m k this refl refl

    catch_step : Owes (bare_instr (mach.Mark mark.Catch))
    catch_step next a b around ending tries reached typed rel calm vals =
        both_continue (λ agree. bare_goes (mach.Mark mark.Catch) refl next a b around ending tries reached typed rel calm On around.tries this tries reached (λ l t v. v))

    end_step : (k : ℕ) → Owes (bare_instr (mach.Mark (mark.End k)))
    end_step k next a b around ending tries reached typed rel calm vals =
        goes_alone (calm_at c Q (bare_flow (flow.Label k)) (L next) b around refl)
        (both_continue (λ agree. bare_goes (mach.Mark (mark.End k)) refl next a b around ending tries reached typed rel calm On around.tries this tries (walks.by_step reached (walks.goes On this))
        (λ l t v. walks.on (none_written l) (walks.goes On this) v)))

    leave_step : (k m : ℕ) → Owes (bare_instr (mach.Mark (mark.Leave k m)))
    leave_step k m next a b around ending tries reached typed rel calm vals =
        goes_alone (calm_at c Q (bare_flow flow.PopTrap) (bare_flow (flow.Jump m) ∷ L next) b around refl)
        (goes_alone (calm_at c Q (bare_flow (flow.Jump m)) (L next) b (record around { tries = drop_tries 1 around.tries }) refl)
        (subst (λ ys. Arrive (registers_written p (bare_instr (mach.Mark (mark.Leave k m)))) (Continues (at_file (after_label m p.code) a (record around { tries = drop_tries 1 around.tries })))
        (Continues (at_lines ys b (record around { tries = drop_tries 1 around.tries })))) (sym (found (mach.Mark (mark.Leave k m)) refl next a b around ending tries reached typed rel calm m this))
        (both_continue (λ agree. bare_goes (mach.Mark (mark.Leave k m)) refl next a b around ending tries reached typed rel calm (At m) (drop_tries 1 around.tries) this
        (sym (label_tries (mach.Mark (mark.Leave k m)) refl next a b around ending tries reached typed rel calm m this))
        (jump_reached (mach.Mark (mark.Leave k m)) refl next a b around ending tries reached typed rel calm m this (L next) (drop_tries 1 around.tries) (walks.by_step reached (walks.goes On this)))
        (λ l t v. walks.on (none_written l) (walks.goes On this)
        (jump_live (mach.Mark (mark.Leave k m)) refl next a b around ending tries reached typed rel calm m this (L next) (drop_tries 1 around.tries) l t v))))))

    exit_step : (k n : ℕ) → Owes (bare_instr (mach.Mark (mark.Exit k n)))
    exit_step k n next a b around ending tries reached typed rel calm vals =
        pops_run n (bare_flow (flow.Exit k) ∷ L next) b around
        (goes_alone (calm_at c Q (bare_flow (flow.Exit k)) (L next) b (record around { tries = drop_tries n around.tries }) refl)
        (subst (λ ys. Arrive (registers_written p (bare_instr (mach.Mark (mark.Exit k n)))) (Pays (at_file (after_label k p.code) a (record around { tries = drop_tries n around.tries })))
        (Pays (at_lines ys b (record around { tries = drop_tries n around.tries })))) (sym (found (mach.Mark (mark.Exit k n)) refl next a b around ending tries reached typed rel calm k this))
        (both_pay (λ agree. bare_goes (mach.Mark (mark.Exit k n)) refl next a b around ending tries reached typed rel calm (At k) (drop_tries n around.tries) this
        (sym (label_tries (mach.Mark (mark.Exit k n)) refl next a b around ending tries reached typed rel calm k this))
        (exit_reached (mach.Mark (mark.Exit k n)) refl next a b around ending tries reached typed rel calm k this (L next) (drop_tries n around.tries)
        (pops_reached n (bare_flow (flow.Exit k) ∷ L next) around.tries reached))
        (λ l t v. pops_live n (bare_flow (flow.Exit k) ∷ L next) around.tries
        (exit_live (mach.Mark (mark.Exit k n)) refl next a b around ending tries reached typed rel calm k this (L next) (drop_tries n around.tries) l t v))))))

    -- where nothing is read and nothing written, the instruction is this one
    of_bare : (g : MachOp) → is_bare g ≡ true → Owes (bare_instr g) → (args results : List Reg) → Owes (instr g args results)
    of_bare g b owes args results next a b' around ending tries reached typed rel calm vals =
        let y = bare_empty (formed_at number slots p well ending) b in
        subst Owes (two args results y.0 y.1) owes next a b' around ending tries reached typed rel calm vals
      where
        two : (args results : List Reg) → args ≡ [] → results ≡ [] → bare_instr g ≡ instr g args results
        two args results e u = ap (λ xs. instr g xs []) (sym e) ∙ ap (instr g args) (sym u)

    -- ---- the others

    -- where its line comes first
    line_step : (g : MachOp) (f : LinOp) → AsLine g f → (args results : List Reg) → ((next : List Instr) → L (instr g args results ∷ next) ≡ line_of number f (instr g args results) ∷ L next) → Owes (instr g args results)
    line_step g f z args results shape next a b around ending tries reached typed rel calm vals =
        subst (λ ys. Arrive (registers_written p (instr g args results)) (step c p (at_file (instr g args results ∷ next) a around)) (Continues (at_lines ys b around))) (sym (shape next))
        (goes_alone
        (vals_held (instr g args results) next a b around f ending z tries (subst (λ ys. walks.Reached Q ys around.tries) (shape next) reached) typed
        (subst (λ ys. Rel (instr g args results ∷ next) ys a b around.tries) (shape next) rel) calm vals)
        (one_step (instr g args results) next a b around f ending z tries (subst (λ ys. walks.Reached Q ys around.tries) (shape next) reached) typed
        (subst (λ ys. Rel (instr g args results ∷ next) ys a b around.tries) (shape next) rel) calm))

    -- past the label of a handler
    handler_step : (l : ℕ) (args results : List Reg) → Owes (instr (mach.Mark (mark.Handler l)) args results)
    handler_step l args results next a b around ending tries reached typed rel calm vals =
        let i : Instr = instr (mach.Mark (mark.Handler l)) args results in
        goes_alone (calm_at c Q (bare_flow (flow.Label l)) (line_of number (lin.Flow flow.EnterTrap) i ∷ L next) b around refl)
        (goes_alone (calm_at c Q (line_of number (lin.Flow flow.EnterTrap) i) (L next) b around refl)
        (one_step i next a b around (lin.Flow flow.EnterTrap) ending handler_line tries (walks.by_step reached (walks.goes On this)) typed
        (λ r ri x v u e. rel r ri x v (walks.on (none_written (home number r.loc)) (walks.goes On this) u) e) calm))

    any_step : (g : MachOp) (args results : List Reg) → is_idle g args results ≡ false → Owes (instr g args results)
    any_step (mach.Op f) args results alone =
        line_step (mach.Op f) (lin.Op f) op_line args results (λ next. ap (λ t. cond t (L next) (line_of number (lin.Op f) (instr (mach.Op f) args results) ∷ L next)) alone)
    any_step (mach.Mark (mark.Exit k n)) args results alone = of_bare (mach.Mark (mark.Exit k n)) refl (exit_step k n) args results
    any_step (mach.Mark (mark.If t l)) args results alone = line_step (mach.Mark (mark.If t l)) _ if_line args results (λ next. refl)
    any_step (mach.Mark (mark.Else k m)) args results alone = of_bare (mach.Mark (mark.Else k m)) refl (else_step k m) args results
    any_step (mach.Mark (mark.Switch ls)) args results alone = line_step (mach.Mark (mark.Switch ls)) _ switch_line args results (λ next. refl)
    any_step (mach.Mark (mark.Case ns k m)) args results alone = of_bare (mach.Mark (mark.Case ns k m)) refl (case_step ns k m) args results
    any_step (mach.Mark mark.Catch) args results alone = of_bare (mach.Mark mark.Catch) refl catch_step args results
    any_step (mach.Mark (mark.With k m)) args results alone = of_bare (mach.Mark (mark.With k m)) refl (with_step k m) args results
    any_step (mach.Mark (mark.Try l)) args results alone = line_step (mach.Mark (mark.Try l)) _ try_line args results (λ next. refl)
    any_step (mach.Mark (mark.Leave k m)) args results alone = of_bare (mach.Mark (mark.Leave k m)) refl (leave_step k m) args results
    any_step (mach.Mark (mark.Handler l)) args results alone = handler_step l args results
    any_step (mach.Mark (mark.End k)) args results alone = of_bare (mach.Mark (mark.End k)) refl (end_step k) args results

    -- a copy from a place to itself has no line
    idle_step : (g : MachOp) (args results : List Reg) → IsIdle g args results → (next : List Instr) (a : File) (b : Locations) (around : Around) → Ending (instr g args results ∷ next) p.code →
        around.tries ≡ tries_at (instr g args results ∷ next) → walks.Reached Q (L next) around.tries → Typed number p end a → Rel (instr g args results ∷ next) (L next) a b around.tries →
        (is_handler g ≡ false → around.raised ≡ None) → Arrive (registers_written p (instr g args results)) (step c p (at_file (instr g args results ∷ next) a around)) (Continues (at_lines (L next) b around))
    idle_step g args results (idles {kind = kind} {x = x} {d = d} same type) next a b around ending tries reached typed rel calm = by (a x.number) refl
      where
        i : Instr
        i = instr (mach.Op (op.Pure (pure.Copy kind))) (x ∷ []) (d ∷ [])

        arg : IsRegister p x
        arg = is_in_code (args_in_code ending is_first)

        result : IsRegister p d
        result = is_in_code (results_in_code ending is_first)

        kept : (h : Held) → a x.number ≡ Some h → (k : Reg) → IsRegister p k → (y : Held) → Live p k.number next → walks.Live Q (home number k.loc) k.comp (L next) around.tries → (t : Bool) → nat_eq d.number k.number ≡ t →
            cond t (Some (record { comp = d.comp; value = h.value })) (a k.number) ≡ Some y → b (home number k.loc) ≡ Some y.value
        kept h s k ki y v u true t e =
            let m : d ≡ k = well.numbers d k result ki (eqb-true d.number k.number t) in
            let place : home number x.loc ≡ home number k.loc = ap (home number) same ∙ ap (λ (k : Reg). home number k.loc) m in
            let comps : x.comp ≡ k.comp = type ∙ ap (λ (k : Reg). k.comp) m in
            ap b (sym place)
            ∙ rel x arg h (read (first refl)) (subst (λ l. walks.Live Q l x.comp (L next) around.tries) (sym place) (subst (λ t. walks.Live Q (home number k.loc) t (L next) around.tries) (sym comps) u)) s
            ∙ ap (λ (z : Held). Some z.value) (same_Some (record { comp = d.comp; value = h.value }) y e)
        kept h s k ki y v u false t e = rel k ki y (mach_walks.on (λ w. out w) (goes On this) v) u e
          where
            out : AmongRegisters k.number (d ∷ []) → ⊥
            out (first w) = true≢false (sym (eq-eqb d.number k.number w) ∙ t)
            out (later w) = elim w [ ]

        moves_on : (h : Held) → a x.number ≡ Some h → (t : Bool) → fits end (type_of_comp d.comp) h.value ≡ t →
            Arrive (registers_written p (instr (mach.Op (op.Pure (pure.Copy kind))) (x ∷ []) (d ∷ []))) (wrote next around (put_if t d h.value (Some a))) (Continues (at_lines (L next) b around))
        moves_on h s false t = first_stuck
        moves_on h s true t =
            both_continue (λ agree.
            related (ending_next ending) (whole refl) tries reached
            (typed_put number p end well.numbers placed (cons t nil) (results_are ending) typed)
            (λ k ki y v u e. kept h s k ki y v u (nat_eq d.number k.number) refl e) (λ w. calm refl))

        by : (o : Option Held) → a x.number ≡ o →
            Arrive (registers_written p (instr (mach.Op (op.Pure (pure.Copy kind))) (x ∷ []) (d ∷ []))) (on_values c p (instr (mach.Op (op.Pure (pure.Copy kind))) (x ∷ []) (d ∷ [])) next a around (with_held o (Some [])))
            (Continues (at_lines (L next) b around))
        by None s = first_stuck
        by (Some h) s = moves_on h s (fits end (type_of_comp d.comp) h.value) refl

    closed : Closed c p Q Related
    closed = record { around = around_same; next = λ s t r vals. next_same s t r vals }
      where
        around_same : (s : State) (t : lines.State) → Related s t → s.around ≡ t.around
        around_same s t (related e l tries reached typed rel calm) = refl

        -- from the lines of this code on
        from_lines : (i : Instr) (next : List Instr) (a : File) (b : Locations) (around : Around) → Ending (i ∷ next) p.code → around.tries ≡ tries_at (i ∷ next) →
            (t : Bool) → is_idle i.op i.args i.results ≡ t → walks.Reached Q (cond t (L next) (lines_of number i.op i (L next))) around.tries → Typed number p end a →
            Rel (i ∷ next) (cond t (L next) (lines_of number i.op i (L next))) a b around.tries → (is_handler i.op ≡ false → around.raised ≡ None) → ValsWritten p (at_file (i ∷ next) a around) →
            Arrive (registers_written p i) (step c p (at_file (i ∷ next) a around)) (Continues (at_lines (cond t (L next) (lines_of number i.op i (L next))) b around))
        from_lines i next a b around e tries true idle reached typed rel calm vals =
            idle_step i.op i.args i.results (idle_of i.op i.args i.results idle) next a b around e tries reached typed rel calm
        from_lines i next a b around e tries false idle reached typed rel calm vals =
            let shape : L (i ∷ next) ≡ lines_of number i.op i (L next) = ap (λ t. cond t (L next) (lines_of number i.op i (L next))) idle in
            subst (λ ys. Arrive (registers_written p i) (step c p (at_file (i ∷ next) a around)) (Continues (at_lines ys b around))) shape
            (any_step i.op i.args i.results idle next a b around e tries (subst (λ ys. walks.Reached Q ys around.tries) (sym shape) reached) typed
            (subst (λ ys. Rel (i ∷ next) ys a b around.tries) (sym shape) rel) calm vals)

        entered_at : {h : ℕ} (i : Instr) (next : List Instr) (a : File) (b : Locations) (around : Around) → i.op ≡ mach.Mark (mark.Handler h) → Ending (i ∷ next) p.code → around.tries ≡ tries_at (i ∷ next) →
            walks.Reached Q (line_of number (lin.Flow flow.EnterTrap) i ∷ L next) around.tries → Typed number p end a → Rel (i ∷ next) (line_of number (lin.Flow flow.EnterTrap) i ∷ L next) a b around.tries →
            (is_handler i.op ≡ false → around.raised ≡ None) → ValsWritten p (at_file (i ∷ next) a around) →
            Arrive (registers_written p i) (step c p (at_file (i ∷ next) a around)) (Continues (at_lines (line_of number (lin.Flow flow.EnterTrap) i ∷ L next) b around))
        entered_at i next a b around is e tries reached typed rel calm vals =
            goes_alone (calm_at c Q (line_of number (lin.Flow flow.EnterTrap) i) (L next) b around refl)
            (one_step i next a b around (lin.Flow flow.EnterTrap) e (subst (λ f. AsLine f (lin.Flow flow.EnterTrap)) (sym is) handler_line) tries reached typed rel calm)

        at_end : (around : Around) (a : File) (t : lines.State) → Arrive [] (step c p (at_file [] a around)) (Continues t)
        at_end around a t = first_stuck

        next_same : (s : State) (t : lines.State) → Related s t → ValsWritten p s → Arrive (wrote_at p s.rest) (step c p s) (Continues t)
        next_same s t (related {rest = []} {ys = zs} {a = a} {b = b} {around = around} e l tries reached typed rel calm) vals = at_end around a (at_lines zs b around)
        next_same s t (related {rest = i ∷ next} {ys = ys} {a = a} {b = b} {around = around} e (whole same) tries reached typed rel calm) vals =
            subst (λ ys. Arrive (registers_written p i) (step c p (at_file (i ∷ next) a around)) (Continues (at_lines ys b around))) (sym same)
            (from_lines i next a b around e tries (is_idle i.op i.args i.results) refl (subst (λ ys. walks.Reached Q ys around.tries) same reached) typed
            (subst (λ ys. Rel (i ∷ next) ys a b around.tries) same rel) calm vals)
        next_same s t (related {a = a} {b = b} {around = around} e (entering {i = i} {next = next} is same) tries reached typed rel calm) vals =
            subst (λ ys. Arrive (registers_written p i) (step c p (at_file (i ∷ next) a around)) (Continues (at_lines ys b around))) (sym same)
            (entered_at i next a b around is e tries (subst (λ ys. walks.Reached Q ys around.tries) same reached) typed (subst (λ ys. Rel (i ∷ next) ys a b around.tries) same rel) calm vals)

    -- ---- at the entry

    begun_with : {rs : List Reg} {vs : List Value} {d : File} → PutAll end (λ n. None) rs vs d → (n : ℕ) (x : Held) → d n ≡ Some x → AmongRegisters n rs
    begun_with nil n x e = absurd (none-some x e)
    begun_with (cons {r = r} {v = v} {rs = rs} {d = d} fit ps) n x e = by (nat_eq r.number n) refl e (λ u. begun_with ps n x u)
      where
        by : (t : Bool) → nat_eq r.number n ≡ t → cond t (Some (record { comp = r.comp; value = v })) (d n) ≡ Some x → (d n ≡ Some x → AmongRegisters n rs) → AmongRegisters n (r ∷ rs)
        by true s e go = first (eqb-true r.number n s)
        by false s e go = later (go e)

    params_are : (r : Reg) → IsIn r p.params → IsRegister p r
    params_are r z = is_param (contains_of z)

    -- no two parameters have one place
    params_apart : (r k : Reg) → IsIn r p.params → IsRegister p k → AmongRegisters k.number p.params → Live p k.number p.code → nat_eq r.number k.number ≡ false → home number r.loc ≡ home number k.loc → ⊥
    params_apart r k z ki w v ne same =
        let at : r.loc ≡ k.loc = apart r k (params_are r z) ki same in
        let y = full.well.agree.apart r k (params_are r z) ki (one_way (eqb-false r.number k.number ne) (at_params (in_among z) v)) (not_unset r (placed r (params_are r z))) at in
        let h = number_in w in
        let is_k : h.reg ≡ k = well.numbers h.reg k (params_are h.reg h.inside) ki h.same in
        let own : r.origin ≡ r.number = all_in (λ (r : Reg). r.origin ≡ r.number) well.params z in
        let own_k : h.reg.origin ≡ h.reg.number = all_in (λ (r : Reg). r.origin ≡ r.number) well.params h.inside in
        eqb-false r.number k.number ne (sym own ∙ y.0 ∙ ap (λ (k : Reg). k.origin) (sym is_k) ∙ own_k ∙ h.same)

    pub begins : (arguments : List Value) (memory : Memory) (doings : List Doing) (s : State) → mach_start c p arguments memory ≡ Some s → LoweringBegins c p Q arguments memory doings s
    begins arguments memory doings s is = by (put_all end p.params arguments (λ n. None)) refl is
      where
        no_state : (s : State) → None ≡ Some s → ⊥
        no_state s e = cc

        same_state : (x y : State) → Some x ≡ Some y → x ≡ y
        same_state x y e = cc

        by : (o : Option File) → put_all end p.params arguments (λ n. None) ≡ o → begin_mach p memory o ≡ Some s → LoweringBegins c p Q arguments memory doings s
        by None e g = absurd (no_state s g)
        by (Some a) e g =
            let puts = put_of end p.params arguments (λ n. None) a e in
            let y = puts_at number p end well.numbers placed (λ l. None) puts params_are in
            let r : Related (at_file p.code a (entry_around memory)) (at_lines Q.code y.file (entry_around memory)) =
            related all (whole refl) (sym well.nested.at_entry) walks.at_entry (typed_put number p end well.numbers placed puts params_are (λ r ri x e. absurd (none-some x e)))
            (λ k ki x v w e. y.at k ki x e
            (λ r v' pair ne same. absurd (params_apart r k (pair_in pair) ki (begun_with puts k.number x e) v ne same)) (λ free nowhere e. absurd (none-some x e)))
            (λ w. refl) in
            subst (LoweringBegins c p Q arguments memory doings) (same_state (at_file p.code a (entry_around memory)) s g)
            (record {
              state = at_lines Q.code y.file (entry_around memory);
              begins = ap (lines.begin_linear Q memory) y.puts;
              follows = λ n proper.
                  record {
                    no_less = simulates c p Q Related closed Ahead ahead_of n (at_file p.code a (entry_around memory)) (at_lines Q.code y.file (entry_around memory)) (first_tally c doings) r proper;
                    no_more = simulates c p Q Related closed Trails trails_of n (at_file p.code a (entry_around memory)) (at_lines Q.code y.file (entry_around memory)) (first_tally c doings) r proper;
                  };
            })
