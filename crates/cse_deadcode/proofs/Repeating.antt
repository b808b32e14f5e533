-- Moves from what an operator repeats by the times of the code are exactly the repeats.
use Rattle.std.proofs.Common.{◌≡◌, ◌∙◌, ℕ, zero, suc, ◌<◌, ◌≤◌, Bool, true, false, cond, ◌||◌, ⊎_elim, List, [], ◌∷◌, ◌++◌, length, Option, Some, None, slice_get, refl, sym, ap, subst, arith}
use Rattle.std.specs.List.{Contains, list_any}
use Rattle.std.proofs.lemmas.Bool.{or_right}
use Rattle.std.proofs.lemmas.List.Elements.{Contains-append_cases, Contains-append_left, Contains-append_right}
use Rattle.mach_ir.specs.Formed.{IsFormedInstruction, WellFormed}
use Rattle.mach_ir.specs.Placed.{is_straight}
use Rattle.mach_ir.specs.Walks.{is_in_code}
use Rattle.mach_ir.specs.declared.op.Access.TheVariants as access
use Rattle.mach_ir.specs.declared.op.Op.TheVariants as op
use Rattle.mach_ir.specs.declared.op.Pure.TheVariants as pure
use Rattle.mach_ir.specs.declared.op.Right.{Right}
use Rattle.mach_ir.specs.declared.reg.Reg.{Reg}
use Rattle.mach_ir.specs.declared.mach.Instr.{Instr}
use Rattle.mach_ir.specs.declared.mach.Mach.{Mach}
use Rattle.mach_ir.specs.declared.mach.MachOp.{MachOp}
use Rattle.mach_ir.specs.declared.mach.MachOp.TheVariants as mach
use Rattle.mach_laws.proofs.Places.{args_in_code}
use Rattle.cse_repeat_rules.specs.Repeated.{is_operator, StillStands, RepeatsEarlier, from_earlier, IsRepeatedBefore, IsRepeated}
use Rattle.bs_words.specs.declared.operators.IntOp.{IntOp}
use Rattle.bs_words.proofs.Lists.{none_in, first_in, later_in, in_cons, none_there}
use Rattle.cse_deadcode.specs.declared.events.Computed.{Computed}
use Rattle.cse_deadcode.specs.declared.events.Event.{Event}
use Rattle.cse_deadcode.specs.declared.events.Event.TheVariants as event
use Rattle.cse_deadcode.specs.Events.{computation}
use Rattle.cse_deadcode.specs.Made.{remade, made_by}
use Rattle.cse_deadcode.specs.Times.{is_same, writes, happens_by, happens, last_time}
use Rattle.cse_deadcode.specs.Repeats.{repeat_stands, standing_first, standing_result, standing_found, standing_at, repeated_op, repeated, without_repeat}
use Rattle.cse_deadcode.proofs.Last.{Found, find, last_from}
use Rattle.cse_deadcode.proofs.Noting.{any_none, never_written}
use Rattle.cse_deadcode.proofs.Alike.{operator_of, same_itself, OperatorShape, operator_shape, alike}
use Rattle.cse_deadcode.proofs.Parts.{some_same, none_some, some_none, at_seam, Places, one_place, further_on, places, places_end}
use Rattle.cse_deadcode.proofs.Planned as step
use Rattle.cse_deadcode.proofs.Standing.{of_each, all_straight, still_stands, stands_still}
use Rattle.bs_words.proofs.Truths.{not_both}

-- ---- what is done in an operator

computed_by : (f : IntOp) (r : Right) (args : List Reg) (i : Instr) → i.op ≡ operator_of f r → i.args ≡ args →
    happens (event.Computes (computation f r args)) i ≡ true
computed_by f r args i e h =
    or_right (list_any (writes (event.Computes (computation f r args))) i.results) (happens_by (event.Computes (computation f r args)) i.op i.args)
    (ap (λ g. happens_by (event.Computes (computation f r args)) g i.args) e
    ∙ ap (λ xs. happens_by (event.Computes (computation f r args)) (operator_of f r) xs) h
    ∙ same_itself (event.Computes (computation f r args)))

data Computing (c : Computed) : MachOp → List Reg → Type 0 where
  computing : {g : IntOp} {q : Right} {args : List Reg} → is_same (event.Computes (computation g q args)) (event.Computes c) ≡ true →
      Computing c (mach.Op (op.Pure (pure.Operator g q))) args

computing_of : (c : Computed) (f : MachOp) (args : List Reg) → happens_by (event.Computes c) f args ≡ true → Computing c f args
computing_of c (mach.Op (op.Pure (pure.Operator g q))) args e = computing e
computing_of c (mach.Op (op.Pure (pure.Copy kind))) args e = absurd (not_both false e refl)
computing_of c (mach.Op (op.Pure (pure.Constant w))) args e = absurd (not_both false e refl)
computing_of c (mach.Op (op.Pure (pure.Symbol name))) args e = absurd (not_both false e refl)
computing_of c (mach.Op (op.Access (access.Alloc blocks))) args e = absurd (not_both false e refl)
computing_of c (mach.Op (op.Access (access.Load chunk offset))) args e = absurd (not_both false e refl)
computing_of c (mach.Op (op.Access (access.Store chunk offset))) args e = absurd (not_both false e refl)
computing_of c (mach.Op (op.Calling f)) args e = absurd (not_both false e refl)
computing_of c (mach.Op (op.Leaving f)) args e = absurd (not_both false e refl)
computing_of c (mach.Mark f) args e = absurd (not_both false e refl)

computing_operates : (c : Computed) (f : MachOp) (args : List Reg) → Computing c f args → is_operator f ≡ true
computing_operates c f args (computing e) = refl

second_of : (a b : Bool) → a ≡ false → a || b ≡ true → b ≡ true
second_of true b e h = absurd (not_both true refl e)
second_of false b e h = h

computes_in : (c : Computed) (i : Instr) → happens (event.Computes c) i ≡ true → happens_by (event.Computes c) i.op i.args ≡ true
computes_in c i e =
    second_of (list_any (writes (event.Computes c)) i.results) (happens_by (event.Computes c) i.op i.args)
    (any_none (writes (event.Computes c)) i.results (λ w d. never_written c w)) e

-- ---- an instruction and what it repeats

alone : (at : Event → ℕ) (made : List Instr) (f : MachOp) (args : List Reg) → is_operator f ≡ false → repeated_op at made f args ≡ None
alone at made (mach.Op (op.Pure (pure.Operator g q))) args e = absurd (not_both true refl e)
alone at made (mach.Op (op.Pure (pure.Copy kind))) args e = refl
alone at made (mach.Op (op.Pure (pure.Constant w))) args e = refl
alone at made (mach.Op (op.Pure (pure.Symbol name))) args e = refl
alone at made (mach.Op (op.Access f)) args e = refl
alone at made (mach.Op (op.Calling f)) args e = refl
alone at made (mach.Op (op.Leaving f)) args e = refl
alone at made (mach.Mark f) args e = refl

record Chosen (at : Event → ℕ) (time : ℕ) (j : Instr) (r : Reg) : Type 0 where
  first : slice_get j.results 0 ≡ Some r
  stands_so : repeat_stands at time j.args r ≡ true

chosen : (at : Event → ℕ) (time : ℕ) (j : Instr) (r : Reg) → standing_result at time j ≡ Some r → Chosen at time j r
chosen at time j r e = by (slice_get j.results 0) refl e
  where
    told : (q : Reg) (b : Bool) → slice_get j.results 0 ≡ Some q → repeat_stands at time j.args q ≡ b → cond b (Some q) None ≡ Some r →
        Chosen at time j r
    told q true h s e =
        let same : q ≡ r = some_same e in
        record { first = h ∙ ap Some same; stands_so = ap (repeat_stands at time j.args) (sym same) ∙ s }
    told q false h s e = absurd (none_some e)

    by : (o : Option Reg) → slice_get j.results 0 ≡ o → standing_first at time j.args o ≡ Some r → Chosen at time j r
    by None h e = absurd (none_some e)
    by (Some q) h e = told q (repeat_stands at time j.args q) h refl e

module _ (m : Mach) (formed : WellFormed m) where
  form_of : (i : Instr) → Contains m.code i → IsFormedInstruction i
  form_of i c = of_each IsFormedInstruction m.code i formed.instrs c

  told : (i j : Instr) → Contains m.code i → Contains m.code j → (r q : Reg) → Contains i.args r → Contains j.args q →
      r.number ≡ q.number → r ≡ q
  told i j c d r q g h e =
      formed.numbers r q (is_in_code (args_in_code m.code i r c g)) (is_in_code (args_in_code m.code j q d h)) e

  -- what is made of a code: its operators are of the function, and none repeats an earlier one
  pub record Fresh (made : List Instr) : Type 0 where
    pub from : (j : Instr) → Contains made j → is_operator j.op ≡ true → Contains m.code j
    pub once : (others : List Instr) (j : Instr) (run : List Instr) → made ≡ others ++ j ∷ run → (r : Reg) → RepeatsEarlier others j r → ⊥

  module _ (made : List Instr) (fresh : Fresh made) (i : Instr) (known : Contains m.code i) where
    abbrev part : OperatorShape i → Computed
    part s = computation s.f s.r i.args

    abbrev key : OperatorShape i → Event
    key s = event.Computes (part s)

    by_shape : (s : OperatorShape i) → repeated (last_time made) made i ≡ standing_at (last_time made) made (last_time made (key s))
    by_shape s = ap (λ g. repeated_op (last_time made) made g i.args) s.is

    record Earlier (s : OperatorShape i) (j : Instr) : Type 0 where
      operates : is_operator j.op ≡ true
      here : Contains m.code j
      shape : OperatorShape j
      same_op : j.op ≡ i.op
      same_args : j.args ≡ i.args

    earlier : (s : OperatorShape i) (j : Instr) → Contains made j → happens (key s) j ≡ true → Earlier s j
    earlier s j c e =
        let k = computing_of (part s) j.op j.args (computes_in (part s) j e) in
        let operates = computing_operates (part s) j.op j.args k in
        let here = fresh.from j c operates in
        let shape = operator_shape (form_of j here) operates in
        let same : is_same (event.Computes (computation shape.f shape.r j.args)) (key s) ≡ true =
        sym (ap (λ g. happens_by (key s) g j.args) shape.is) ∙ computes_in (part s) j e in
        let both = alike shape.f s.f shape.r s.r j.args i.args shape.few s.few (told j i here known) same in
        record {
          operates = operates;
          here = here;
          shape = shape;
          same_op = shape.is ∙ both.same_op ∙ sym s.is;
          same_args = both.same_args;
        }

    at_found : (s : OperatorShape i) (n : ℕ) → last_time made (key s) ≡ suc n → (f : Found (happens (key s)) made n) →
        standing_at (last_time made) made (last_time made (key s)) ≡ standing_result (last_time made) (suc (length f.others)) f.found
    at_found s n e f =
        ap (standing_at (last_time made) made) e
        ∙ ap (λ k. standing_at (last_time made) made (suc k)) (sym f.place)
        ∙ ap (standing_found (last_time made) (suc (length f.others)))
        (ap (λ code. slice_get code (length f.others)) f.within ∙ at_seam f.others f.found f.run)

    in_made : (others : List Instr) (j : Instr) (run : List Instr) → made ≡ others ++ j ∷ run → Contains made j
    in_made others j run e = subst (λ code. Contains code j) (sym e) (Contains-append_right others (j ∷ run) j (first_in j run))

    -- ---- what is found is repeated

    found_repeats : (s : OperatorShape i) (n : ℕ) → last_time made (key s) ≡ suc n → Found (happens (key s)) made n → (r : Reg) →
        repeated (last_time made) made i ≡ Some r → RepeatsEarlier made i r
    found_repeats s n e f r h =
        let j = f.found in
        let x = earlier s j (in_made f.others j f.run f.within) f.holds in
        let c = chosen (last_time made) (suc (length f.others)) j r (sym (at_found s n e f) ∙ sym (by_shape s) ∙ h) in
        let first : Some x.shape.result ≡ Some r = sym (ap (λ rs. slice_get rs 0) x.shape.results) ∙ c.first in
        let result : j.results ≡ r ∷ [] = x.shape.results ∙ ap (λ q. q ∷ []) (some_same first) in
        record {
          earlier = j;
          stands = still_stands made f.others j f.run r f.within x.operates result c.stands_so;
          same_op = x.same_op;
          same_args = x.same_args;
        }

    pub found_is : is_operator i.op ≡ true → (r : Reg) → repeated (last_time made) made i ≡ Some r → RepeatsEarlier made i r
    found_is o r h = by (last_time made (key s)) refl
      where
        s : OperatorShape i
        s = operator_shape (form_of i known) o

        by : (n : ℕ) → last_time made (key s) ≡ n → RepeatsEarlier made i r
        by zero e = absurd (none_some (sym (ap (standing_at (last_time made) made) e) ∙ sym (by_shape s) ∙ h))
        by (suc n) e = found_repeats s n e (find (happens (key s)) made n e) r h

    -- ---- what is not found is not repeated

    -- an operator that is after later instructions was after fewer
    stood : (others : List Instr) (j : Instr) (mid : List Instr) (k : Instr) (rest : List Instr) (r : Reg) →
        (t : StillStands made j r) → t.others ≡ others → t.run ≡ mid ++ k ∷ rest → StillStands (others ++ j ∷ mid) j r
    stood others j mid k rest r t e h =
        let within : (x : Instr) → Contains mid x → Contains t.run x =
        λ x c. subst (λ code. Contains code x) (sym h) (Contains-append_left mid (k ∷ rest) x c) in
        record {
          others = others;
          run = mid;
          within = refl;
          straight = all_straight mid (λ x c. of_each (λ (x : Instr). is_straight x.op ≡ true) t.run x t.straight (within x c));
          operates = t.operates;
          result = t.result;
          operands = λ x c.
              t.operands x
              (⊎_elim (λ g. subst (Contains (j ∷ t.run)) g (first_in j t.run)) (λ d. later_in j x t.run (within x d)) (in_cons j x mid c));
          stands = λ x c. t.stands x (within x c);
          kept = λ g x c. t.kept g x (within x c);
        }

    missed : (s : OperatorShape i) (r : Reg) (p : RepeatsEarlier made i r) (n : ℕ) → last_time made (key s) ≡ suc n →
        (f : Found (happens (key s)) made n) → length p.stands.others ≤ length f.others →
        repeated (last_time made) made i ≡ None → ⊥
    missed s r p n e f le h =
        by (places p.stands.others p.earlier p.stands.run f.others f.found f.run (sym p.stands.within ∙ f.within) le)
      where
        t : StillStands made p.earlier r
        t = p.stands

        by : Places t.others p.earlier t.run f.others f.found f.run → ⊥
        by (one_place a b c) =
            let stands_so : repeat_stands (last_time made) (suc (length t.others)) p.earlier.args r ≡ true =
            stands_still made t.others p.earlier t.run r t.within t.operates t.straight t.operands t.stands t.kept in
            let same : standing_result (last_time made) (suc (length t.others)) p.earlier ≡ Some r =
            ap (λ rs. standing_first (last_time made) (suc (length t.others)) p.earlier.args (slice_get rs 0)) t.result
            ∙ ap (λ b. cond b (Some r) None) stands_so in
            some_none
            (sym same
            ∙ ap (λ xs. standing_result (last_time made) (suc (length xs)) p.earlier) a
            ∙ ap (standing_result (last_time made) (suc (length f.others))) b
            ∙ sym (at_found s n e f) ∙ sym (by_shape s) ∙ h)
        by (further_on mid a b) =
            let x = earlier s f.found (in_made f.others f.found f.run f.within) f.holds in
            fresh.once f.others f.found f.run f.within r
            record {
              earlier = p.earlier;
              stands = subst (λ code. StillStands code p.earlier r) (sym a) (stood t.others p.earlier mid f.found f.run r t refl b);
              same_op = p.same_op ∙ sym x.same_op;
              same_args = p.same_args ∙ sym x.same_args;
            }

    pub none_is : repeated (last_time made) made i ≡ None → (r : Reg) → RepeatsEarlier made i r → ⊥
    none_is h r p = by (last_time made (key s)) refl
      where
        s : OperatorShape i
        s = operator_shape (form_of i known) (ap is_operator (sym p.same_op) ∙ p.stands.operates)

        after_it : length p.stands.others < last_time made (key s)
        after_it =
            subst (λ code. length p.stands.others < last_time code (key s)) (sym p.stands.within)
            (last_from (happens (key s)) p.stands.others p.stands.run p.earlier
            (computed_by s.f s.r i.args p.earlier (p.same_op ∙ s.is) p.same_args))

        by : (n : ℕ) → last_time made (key s) ≡ n → ⊥
        by zero e = let lt = after_it in omega (arith, lt, e)
        by (suc n) e =
            let f = find (happens (key s)) made n e in
            let lt = after_it in
            let place = f.place in
            let le : length p.stands.others ≤ length f.others = omega (arith, lt, e, place) in
            missed s r p n e f le h

    -- ---- one more instruction

    data Fate : Type 0 where
      same_left : repeated (last_time made) made i ≡ None → remade without_repeat made i ≡ i → Fate
      made_move : is_operator (remade without_repeat made i).op ≡ false → Fate

    fate : Fate
    fate = by (repeated (last_time made) made i) refl
      where
        by : (o : Option Reg) → repeated (last_time made) made i ≡ o → Fate
        by None e = same_left e (ap (λ o. from_earlier o i) e)
        by (Some r) e = made_move (ap (λ o. is_operator (from_earlier o i).op) e)

    pub fresh_more : Fresh (made ++ remade without_repeat made i ∷ [])
    fresh_more =
        record {
          from = λ j c o.
              ⊎_elim (λ d. fresh.from j d o)
              (λ d. ⊎_elim (λ e. last_of j e o fate) (λ n. absurd (none_in j n)) (in_cons (remade without_repeat made i) j [] d))
              (Contains-append_cases made (remade without_repeat made i ∷ []) j c);
          once = λ others j run e r p. by others j run e r p (places_end others j run made (remade without_repeat made i) (sym e));
        }
      where
        last_of : (j : Instr) → remade without_repeat made i ≡ j → is_operator j.op ≡ true → Fate → Contains m.code j
        last_of j e o (same_left n h) = subst (Contains m.code) (sym h ∙ e) known
        last_of j e o (made_move n) = absurd (not_both (is_operator j.op) o (ap (λ (j : Instr). is_operator j.op) (sym e) ∙ n))

        fresh_last : (r : Reg) → Fate → RepeatsEarlier made (remade without_repeat made i) r → ⊥
        fresh_last r (same_left n h) p = none_is n r (subst (λ (i : Instr). RepeatsEarlier made i r) h p)
        fresh_last r (made_move n) p = not_both (is_operator (remade without_repeat made i).op) (ap is_operator (sym p.same_op) ∙ p.stands.operates) n

        by : (others : List Instr) (j : Instr) (run : List Instr) → made ++ remade without_repeat made i ∷ [] ≡ others ++ j ∷ run → (r : Reg) →
            RepeatsEarlier others j r → Places others j run made (remade without_repeat made i) [] → ⊥
        by others j run e r p (one_place a b c) =
            fresh_last r fate (subst (λ code. RepeatsEarlier code (remade without_repeat made i) r) a (subst (λ (j : Instr). RepeatsEarlier others j r) b p))
        by others j run e r p (further_on mid a b) = fresh.once others j mid a r p

  fresh_none : Fresh []
  fresh_none =
      record {
        from = λ j c o. absurd (none_in j c);
        once = λ others j run e r p. nothing others j run e;
      }
    where
      nothing : (others : List Instr) (j : Instr) (run : List Instr) → [] ≡ others ++ j ∷ run → ⊥
      nothing [] j run e = none_there e
      nothing (x ∷ others) j run e = none_there e

  fresh_all : (made code : List Instr) → Fresh made → ((i : Instr) → Contains code i → Contains m.code i) →
      Fresh (made_by without_repeat made code)
  fresh_all made [] f c = f
  fresh_all made (i ∷ next) f c =
      fresh_all (made ++ remade without_repeat made i ∷ []) next (fresh_more made f i (c i (first_in i next)))
      (λ j d. c j (later_in i j next d))

  -- ---- the plan

  abbrev after : List Instr → List Instr
  after done = made_by without_repeat [] done

  abbrev choice : List Instr → Instr → Option Reg
  choice made i = repeated (last_time made) made i

  -- a move, if it is in place of an operator
  abbrev put : Option Reg → Instr → Instr
  put o i = cond (is_operator i.op) (from_earlier o i) i

  same_move : (made : List Instr) (i : Instr) → put (choice made i) i ≡ remade without_repeat made i
  same_move made i = by (is_operator i.op) refl
    where
      by : (b : Bool) → is_operator i.op ≡ b → put (choice made i) i ≡ remade without_repeat made i
      by true h = ap (λ b. cond b (from_earlier (choice made i) i) i) h
      by false h =
          ap (λ b. cond b (from_earlier (choice made i) i) i) h
          ∙ sym (ap (λ o. from_earlier o i) (alone (last_time made) made i.op i.args h))

  -- from what an instruction is a move that so many come after
  abbrev plan : ℕ → Option Reg
  plan = step.plan without_repeat choice None m.code

  planned : (done : List Instr) (i : Instr) (next : List Instr) → m.code ≡ done ++ i ∷ next →
      plan (length next) ≡ repeated (last_time (after done)) (after done) i
  planned = step.planned without_repeat choice None m.code

  made_before : (i : Instr) (next made : List Instr) → (b : IsRepeatedBefore plan m i next made) → made ≡ after b.before
  made_before i next made b =
      step.made_before without_repeat choice None m.code put same_move b.before i next made b.whole b.made_so

  fresh_before : (before : List Instr) (i : Instr) (next : List Instr) → m.code ≡ before ++ i ∷ next → Fresh (after before)
  fresh_before before i next e =
      fresh_all [] before fresh_none (λ j c. subst (λ code. Contains code j) (sym e) (Contains-append_left before (i ∷ next) j c))

  of_code : (before : List Instr) (i : Instr) (next : List Instr) → m.code ≡ before ++ i ∷ next → Contains m.code i
  of_code before i next e = subst (λ code. Contains code i) (sym e) (Contains-append_right before (i ∷ next) i (first_in i next))

  pub is_repeated : (q : Mach) → q ≡ record m { code = made_by without_repeat [] m.code } → IsRepeated m q
  is_repeated q e =
      record {
        plan = plan;
        is = e ∙ ap (λ code. record m { code = code }) (step.made_so without_repeat choice None m.code put same_move);
        moves = λ i next made b o r h.
            subst (λ code. RepeatsEarlier code i r) (sym (made_before i next made b))
            (found_is (after b.before) (fresh_before b.before i next b.whole) i (of_code b.before i next b.whole) o r
            (sym (planned b.before i next b.whole) ∙ h));
        stays = λ i next made b h r p.
            none_is (after b.before) (fresh_before b.before i next b.whole) i (of_code b.before i next b.whole)
            (sym (planned b.before i next b.whole) ∙ h) r
            (subst (λ code. RepeatsEarlier code i r) (made_before i next made b) p);
      }
