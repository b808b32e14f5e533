-- What is read in place of operands by the times of the code is exactly what they are copies of.
use Rattle.std.proofs.Common.{◌≡◌, ◌∙◌, ℕ, zero, suc, ◌<◌, ◌≤◌, Bool, true, false, cond, ◌&&◌, nat_le, ⊎_elim, List, [], ◌∷◌, ◌++◌, length, slice_get, refl, sym, ap, subst, arith}
use Rattle.std.proofs.lemmas.Bool.{and_parts, and_from, le-leb, or_left}
use Rattle.std.proofs.lemmas.List.{length-map}
use Rattle.std.specs.List.{Contains, list_any}
use Rattle.std.proofs.lemmas.List.Elements.{Contains-append_cases, Contains-append_left, Contains-append_right}
use Rattle.bs_words.specs.declared.types.Comp.{Comp}
use Rattle.bs_words.specs.declared.types.Loc.TheVariants as loc
use Rattle.bs_words.proofs.Lists.{none_in, first_in, later_in, in_cons, head_same}
use Rattle.mach_ir.specs.Forms as form
use Rattle.mach_ir.specs.Forms.{HasForm}
use Rattle.mach_ir.specs.Formed.{comps, IsFormedInstruction, formed_op, formed_mark, WellFormed}
use Rattle.mach_ir.specs.Graph.{is_move}
use Rattle.mach_ir.specs.Placed.{is_straight}
use Rattle.mach_ir.specs.Walks.{IsRegister, is_in_code}
use Rattle.mach_ir.specs.declared.op.CopyKind.TheVariants as kind
use Rattle.mach_ir.specs.declared.op.Op.TheVariants as op
use Rattle.mach_ir.specs.declared.op.Pure.TheVariants as pure
use Rattle.mach_ir.specs.declared.reg.Reg.{Reg}
use Rattle.mach_ir.specs.declared.mach.Instr.{Instr}
use Rattle.mach_ir.specs.declared.mach.Mach.{Mach}
use Rattle.mach_ir.specs.declared.mach.MachOp.TheVariants as mach
use Rattle.mach_laws.proofs.Places.{args_in_code, results_in_code, comp_is, is_unset, same_comp_is}
use Rattle.cse_copy_rules.specs.Propagated.{move_instruction, IsCopyOf, ReadFor, source, itself, IsPropagatedBefore, IsPropagated}
use Rattle.cse_deadcode.specs.declared.events.Event.{Event}
use Rattle.cse_deadcode.specs.declared.events.Event.TheVariants as event
use Rattle.cse_deadcode.specs.Made.{remade, made_by}
use Rattle.cse_deadcode.specs.Times.{Clock, writes, happens, last_time}
use Rattle.cse_deadcode.specs.Repeats.{result_stands}
use Rattle.cse_deadcode.specs.Copies.{is_still_copy, source_first, source_by, source_found, source_at, source_of, read_by, read_from_sources}
use Rattle.cse_deadcode.proofs.Last.{AreQuiet, Found, find, last_from}
use Rattle.cse_deadcode.proofs.Noting.{only_first, number_written, written_number, number_write, unwritten, quiet, ends_run, in_run}
use Rattle.cse_deadcode.proofs.Alike.{one_of}
use Rattle.cse_deadcode.proofs.Parts.{at_seam, Places, one_place, further_on, places}
use Rattle.cse_deadcode.proofs.Planned as step
use Rattle.cse_deadcode.proofs.Standing.{of_each, all_straight, quiet_later, later_quiet, still_holds, holds_still}
use Rattle.mach_ir.specs.Places.{is_unset_location, same_comp}
use Rattle.bs_words.proofs.Truths.{not_both}

-- what makes a register a copy by the times
record Copied (at : Clock) (time : ℕ) (q r : Reg) : Type 0 where
  one : q.comp ≡ r.comp
  source_open : q.loc ≡ loc.Unset
  target_open : r.loc ≡ loc.Unset
  in_run : nat_le (at event.EndsRun) time ≡ true
  stands : result_stands at time q ≡ true

by_parts : (at : Clock) (time : ℕ) (q r : Reg) → Copied at time q r → is_still_copy at time q r ≡ true
by_parts at time q r c =
    and_from (same_comp q.comp r.comp) (is_unset_location q.loc && (is_unset_location r.loc && (nat_le (at event.EndsRun) time && result_stands at time q)))
    (ap (λ a. same_comp a r.comp) c.one ∙ same_comp_is r.comp)
    (and_from (is_unset_location q.loc) (is_unset_location r.loc && (nat_le (at event.EndsRun) time && result_stands at time q)) (ap is_unset_location c.source_open)
    (and_from (is_unset_location r.loc) (nat_le (at event.EndsRun) time && result_stands at time q) (ap is_unset_location c.target_open)
    (and_from (nat_le (at event.EndsRun) time) (result_stands at time q) c.in_run c.stands)))

parts_of : (at : Clock) (time : ℕ) (q r : Reg) → is_still_copy at time q r ≡ true → Copied at time q r
parts_of at time q r e =
    let a = and_parts (same_comp q.comp r.comp)
    (is_unset_location q.loc && (is_unset_location r.loc && (nat_le (at event.EndsRun) time && result_stands at time q))) e in
    let b = and_parts (is_unset_location q.loc) (is_unset_location r.loc && (nat_le (at event.EndsRun) time && result_stands at time q)) a.1 in
    let c = and_parts (is_unset_location r.loc) (nat_le (at event.EndsRun) time && result_stands at time q) b.1 in
    let d = and_parts (nat_le (at event.EndsRun) time) (result_stands at time q) c.1 in
    record {
      one = comp_is q.comp r.comp a.0;
      source_open = is_unset q.loc b.0;
      target_open = is_unset r.loc c.0;
      in_run = d.0;
      stands = d.1;
    }

-- ---- moves

record Moves (i : Instr) : Type 0 where
  from : Reg
  to : Reg
  is : i ≡ move_instruction from to

one_operand : (cs ds : List Comp) → HasForm (op.Pure (pure.Copy kind.Move)) cs ds → length cs ≡ 1
one_operand cs ds form.copies = refl

one_result : (cs ds : List Comp) → HasForm (op.Pure (pure.Copy kind.Move)) cs ds → length ds ≡ 1
one_result cs ds form.copies = refl

a_move : (args results : List Reg) (r w : Reg) → args ≡ r ∷ [] → results ≡ w ∷ [] →
    record { op = mach.Op (op.Pure (pure.Copy kind.Move)); args = args; results = results } ≡ move_instruction r w
a_move args results r w e h =
    ap (λ (xs : List Reg). record { op = mach.Op (op.Pure (pure.Copy kind.Move)); args = xs; results = results }) e
    ∙ ap (λ (xs : List Reg). record { op = mach.Op (op.Pure (pure.Copy kind.Move)); args = r ∷ []; results = xs }) h

moves_of : {i : Instr} → IsFormedInstruction i → is_move i.op ≡ true → Moves i
moves_of (formed_op {f = op.Pure (pure.Copy kind.Move)} {args = args} {results = results} h) e =
    let reads : length args ≡ 1 = sym (length-map args (λ (r : Reg). r.comp)) ∙ one_operand (comps args) (comps results) h in
    let gives : length results ≡ 1 = sym (length-map results (λ (r : Reg). r.comp)) ∙ one_result (comps args) (comps results) h in
    let r = one_of args reads in
    let w = one_of results gives in
    record { from = r.0; to = w.0; is = a_move args results r.0 w.0 r.1 w.1 }
moves_of (formed_op {f = op.Pure (pure.Copy kind.Spill)} h) e = absurd (not_both false e refl)
moves_of (formed_op {f = op.Pure (pure.Copy kind.Reload)} h) e = absurd (not_both false e refl)
moves_of (formed_op {f = op.Pure (pure.Constant w)} h) e = absurd (not_both false e refl)
moves_of (formed_op {f = op.Pure (pure.Symbol name)} h) e = absurd (not_both false e refl)
moves_of (formed_op {f = op.Pure (pure.Operator f r)} h) e = absurd (not_both false e refl)
moves_of (formed_op {f = op.Access f} h) e = absurd (not_both false e refl)
moves_of (formed_op {f = op.Calling f} h) e = absurd (not_both false e refl)
moves_of (formed_op {f = op.Leaving f} h) e = absurd (not_both false e refl)
moves_of (formed_mark h) e = absurd (not_both false e refl)

-- what is written in a move
target_of : (q w : Reg) (n : ℕ) → happens (event.Writes n) (move_instruction q w) ≡ true → w.number ≡ n
target_of q w n e =
    number_written n w
    (only_first (writes (event.Writes n) w) false refl
    (only_first (list_any (writes (event.Writes n)) (w ∷ [])) false refl e))

target_written : (q w : Reg) → happens (event.Writes w.number) (move_instruction q w) ≡ true
target_written q w =
    or_left (list_any (writes (event.Writes w.number)) (w ∷ [])) false
    (or_left (writes (event.Writes w.number) w) false (written_number w.number w refl))

-- ---- the function

module _ (m : Mach) (formed : WellFormed m) where
  -- an instruction of what is made: one of the function's that reads other registers
  record IsMade (j : Instr) : Type 0 where
    from : Instr
    known : Contains m.code from
    read : Reg → Reg
    is : j ≡ read_by read from

  abbrev AreMade : List Instr → Type 0
  AreMade made = (j : Instr) → Contains made j → IsMade j

  -- ---- an operand after what is made

  module _ (made : List Instr) (are : AreMade made) (r : Reg) (known : IsRegister m r) where
    abbrev key : Event
    key = event.Writes r.number

    -- what is written there later than by a move to it
    silent : (q : Reg) (c : IsCopyOf made r q) → AreQuiet (happens key) c.run
    silent q c = quiet key c.run (number_write r.number) (λ i d w g e. c.stays i d w g (number_written r.number w e))

    written_since : (q : Reg) (c : IsCopyOf made r q) → length c.others < last_time made key
    written_since q c =
        subst (λ code. length c.others < last_time code key) (sym c.within)
        (last_from (happens key) c.others c.run (move_instruction q r) (target_written q r))

    -- a copy is one by the times
    copy_is : (q : Reg) (c : IsCopyOf made r q) → is_still_copy (last_time made) (suc (length c.others)) q r ≡ true
    copy_is q c =
        by_parts (last_time made) (suc (length c.others)) q r
        record {
          one = c.same_comp;
          source_open = c.source_open;
          target_open = c.copy_open;
          in_run = later_quiet made c.others (move_instruction q r) c.run q c.within event.EndsRun
              (λ i d. in_run i (of_each (λ (i : Instr). is_straight i.op ≡ true) c.run i c.straight d));
          stands = holds_still made c.others (move_instruction q r) c.run q c.within c.stands c.kept;
        }

    -- no instruction wrote it
    unread : last_time made key ≡ 0 → ReadFor made r (source_of (last_time made) made r)
    unread e =
        subst (ReadFor made r) (sym (ap (λ k. source_at (last_time made) made k r) e))
        (itself (λ q c. let lt = written_since q c in omega (arith, lt, e)))

    -- the instruction that wrote it last
    module _ (n : ℕ) (last : last_time made key ≡ suc n) (f : Found (happens key) made n) where
      abbrev time : ℕ
      time = suc (length f.others)

      at_found : source_of (last_time made) made r ≡ source_by (last_time made) time f.found r
      at_found =
          ap (λ k. source_at (last_time made) made k r) last
          ∙ ap (λ k. source_at (last_time made) made (suc k) r) (sym f.place)
          ∙ ap (λ o. source_found (last_time made) time o r)
          (ap (λ code. slice_get code (length f.others)) f.within ∙ at_seam f.others f.found f.run)

      -- it is the move of a copy
      record IsTheMove (q : Reg) (c : IsCopyOf made r q) : Type 0 where
        is : move_instruction q r ≡ f.found
        place : c.others ≡ f.others

      the_move : (q : Reg) (c : IsCopyOf made r q) → IsTheMove q c
      the_move q c =
          let lt = written_since q c in
          let here = f.place in
          let le : length c.others ≤ length f.others = omega (arith, lt, last, here) in
          by (places c.others (move_instruction q r) c.run f.others f.found f.run (sym c.within ∙ f.within) le)
        where
          by : Places c.others (move_instruction q r) c.run f.others f.found f.run → IsTheMove q c
          by (one_place a b g) = record { is = b; place = a }
          by (further_on mid a b) =
              absurd (not_both (happens key f.found) f.holds
              (silent q c f.found (subst (λ run. Contains run f.found) (sym b) (Contains-append_right mid (f.found ∷ f.run) f.found (first_in f.found f.run)))))

      -- another instruction leaves no copy
      other_last : is_move f.found.op ≡ false → ReadFor made r (source_of (last_time made) made r)
      other_last h =
          subst (ReadFor made r)
          (sym (at_found ∙ ap (λ b. cond b (source_first (last_time made) time (slice_get f.found.args 0) r) r) h))
          (itself (λ q c. not_both (is_move f.found.op) (ap (λ (j : Instr). is_move j.op) (sym (the_move q c).is)) h))

      record MovedTo : Type 0 where
        from : Reg
        is : f.found ≡ move_instruction from r

      moved_to : is_move f.found.op ≡ true → MovedTo
      moved_to h = record { from = g.read s.from; is = whole ∙ ap (move_instruction (g.read s.from)) same }
        where
          g : IsMade f.found
          g = are f.found (subst (λ code. Contains code f.found) (sym f.within) (Contains-append_right f.others (f.found ∷ f.run) f.found (first_in f.found f.run)))

          s : Moves g.from
          s = moves_of (of_each IsFormedInstruction m.code g.from formed.instrs g.known) (ap (λ (j : Instr). is_move j.op) (sym g.is) ∙ h)

          whole : f.found ≡ move_instruction (g.read s.from) s.to
          whole = g.is ∙ ap (read_by g.read) s.is

          target : Contains g.from.results s.to
          target = subst (λ (i : Instr). Contains i.results s.to) (sym s.is) (first_in s.to [])

          same : s.to ≡ r
          same =
              formed.numbers s.to r (is_in_code (results_in_code m.code g.from s.to g.known target)) known
              (target_of (g.read s.from) s.to r.number (sym (ap (happens key) whole) ∙ f.holds))

      by_move : (d : MovedTo) → source_of (last_time made) made r ≡ cond (is_still_copy (last_time made) time d.from r) d.from r
      by_move d = at_found ∙ ap (λ j. source_by (last_time made) time j r) d.is

      copied : (d : MovedTo) → is_still_copy (last_time made) time d.from r ≡ true → IsCopyOf made r d.from
      copied d h =
          let p = parts_of (last_time made) time d.from r h in
          let holds = still_holds made f.others (move_instruction d.from r) f.run d.from within p.stands in
          record {
            others = f.others;
            run = f.run;
            within = within;
            straight = all_straight f.run
                (λ i c. ends_run i (quiet_later made f.others (move_instruction d.from r) f.run d.from within event.EndsRun p.in_run i c));
            same_comp = p.one;
            source_open = p.source_open;
            copy_open = p.target_open;
            stays = λ i c w g e.
                unwritten key f.run (quiet_later made f.others (move_instruction d.from r) f.run d.from within key now) i c w g
                (written_number r.number w e);
            stands = holds.stands;
            kept = holds.kept;
          }
        where
          within : made ≡ f.others ++ move_instruction d.from r ∷ f.run
          within = f.within ∙ ap (λ j. f.others ++ j ∷ f.run) d.is

          now : nat_le (last_time made key) time ≡ true
          now = let here = f.place in let le : last_time made key ≤ time = omega (arith, last, here) in le-leb (last_time made key) time le

      moved_last : is_move f.found.op ≡ true → ReadFor made r (source_of (last_time made) made r)
      moved_last h = by (is_still_copy (last_time made) time d.from r) refl
        where
          d : MovedTo
          d = moved_to h

          same_source : (q : Reg) (c : IsCopyOf made r q) → q ≡ d.from
          same_source q c = head_same (ap (λ (j : Instr). j.args) ((the_move q c).is ∙ d.is))

          by : (b : Bool) → is_still_copy (last_time made) time d.from r ≡ b → ReadFor made r (source_of (last_time made) made r)
          by true e = subst (ReadFor made r) (sym (by_move d ∙ ap (λ b. cond b d.from r) e)) (source (copied d e))
          by false e =
              subst (ReadFor made r) (sym (by_move d ∙ ap (λ b. cond b d.from r) e))
              (itself (λ q c.
              not_both (is_still_copy (last_time made) time d.from r)
              (sym (ap (λ xs. is_still_copy (last_time made) (suc (length xs)) q r) (the_move q c).place
              ∙ ap (λ q. is_still_copy (last_time made) time q r) (same_source q c))
              ∙ copy_is q c) e))

      found_last : ReadFor made r (source_of (last_time made) made r)
      found_last = by (is_move f.found.op) refl
        where
          by : (b : Bool) → is_move f.found.op ≡ b → ReadFor made r (source_of (last_time made) made r)
          by true e = moved_last e
          by false e = other_last e

    read_for : ReadFor made r (source_of (last_time made) made r)
    read_for = by (last_time made key) refl
      where
        by : (n : ℕ) → last_time made key ≡ n → ReadFor made r (source_of (last_time made) made r)
        by zero e = unread e
        by (suc n) e = found_last n e (find (happens key) made n e)

  -- ---- the code

  all_made : (made code : List Instr) → AreMade made → ((i : Instr) → Contains code i → Contains m.code i) →
      AreMade (made_by read_from_sources made code)
  all_made made [] a c = a
  all_made made (i ∷ next) a c =
      all_made (made ++ remade read_from_sources made i ∷ []) next
      (λ j d.
      ⊎_elim (a j)
      (λ d.
      ⊎_elim (λ e. record { from = i; known = c i (first_in i next); read = source_of (last_time made) made; is = sym e })
      (λ n. absurd (none_in j n)) (in_cons (remade read_from_sources made i) j [] d))
      (Contains-append_cases made (remade read_from_sources made i ∷ []) j d))
      (λ j d. c j (later_in i j next d))

  abbrev after : List Instr → List Instr
  after done = made_by read_from_sources [] done

  abbrev choice : List Instr → Instr → Reg → Reg
  choice made i = source_of (last_time made) made

  -- what is read in place of operands of an instruction that so many come after
  abbrev plan : ℕ → Reg → Reg
  plan = step.plan read_from_sources choice (λ r. r) m.code

  made_before : (i : Instr) (next made : List Instr) → (b : IsPropagatedBefore plan m i next made) → made ≡ after b.before
  made_before i next made b =
      step.made_before read_from_sources choice (λ r. r) m.code read_by (λ made i. refl) b.before i next made b.whole b.made_so

  read_after : (before : List Instr) (i : Instr) (next : List Instr) → m.code ≡ before ++ i ∷ next → (r : Reg) →
      Contains i.args r → ReadFor (after before) r (plan (length next) r)
  read_after before i next e r c =
      subst (ReadFor (after before) r) (ap (λ p. p r) (sym (step.planned read_from_sources choice (λ r. r) m.code before i next e)))
      (read_for (after before)
      (all_made [] before (λ j d. absurd (none_in j d)) (λ j d. subst (λ code. Contains code j) (sym e) (Contains-append_left before (i ∷ next) j d)))
      r (is_in_code (args_in_code m.code i r (subst (λ code. Contains code i) (sym e) (Contains-append_right before (i ∷ next) i (first_in i next))) c)))

  pub is_propagated : (q : Mach) → q ≡ record m { code = made_by read_from_sources [] m.code } → IsPropagated m q
  is_propagated q e =
      record {
        plan = plan;
        is = e ∙ ap (λ code. record m { code = code }) (step.made_so read_from_sources choice (λ r. r) m.code read_by (λ made i. refl));
        reads = λ i next made b r c.
            subst (λ code. ReadFor code r (plan (length next) r)) (sym (made_before i next made b))
            (read_after b.before i next b.whole r c);
      }
