-- Control comes back to a place only by an exit, and so a function takes no more instructions between two units than the code has words.
use Rattle.std.proofs.Common.{◌≡◌, ℕ, zero, suc, ◌+◌, ◌-◌, ◌*◌, ◌≤◌, ◌<◌, Bool, true, false, cond, not, ◌||◌, nat_le, ◌⊎◌, inl, inr, List, [], ◌∷◌, length, Option, Some, None, refl, sym, ap, ◌∙◌, subst, arith}
use Rattle.std.proofs.lemmas.Bool.{true≢false, leb-true, le-leb, cases_lt}
use Rattle.std.proofs.Math.Nat.{mul-le-mul_left}
use Rattle.bs_words.specs.Memory.{Memory}
use Rattle.bs_words.specs.declared.types.Loc.{Loc}
use Rattle.bs_words.specs.declared.values.Value.{Value}
use Rattle.cmm_meaning.specs.State.{Callee, Inside, Outside}
use Rattle.mach_ir.specs.Acts.{Act, Around, Target, On}
use Rattle.mach_ir.specs.Runs.{ActivationSetting, Step, entry_around}
use Rattle.mach_ir.specs.Walks.{OneOf, this, other}
use Rattle.lin_ir.specs.Formed.{is_exit, is_label}
use Rattle.lin_ir.specs.Meaning.{Locations, NamedAt, State, after_label, at_code, at_handler, are_vals, begin_linear, clear_destroyed, code_at, destroyed_by, flow_act, lin_act, on_act, on_values, passes_frame, past_frame, put_all, unless_misnamed, values, wrote}
use Rattle.lin_ir.specs.Walks.{Reached, goes, raises, targets, tries_after}
use Rattle.lin_ir.specs.declared.lin.Flow.TheVariants as flow
use Rattle.lin_ir.specs.declared.lin.Lin.{Lin}
use Rattle.lin_ir.specs.declared.lin.Line.{Line}
use Rattle.lin_ir.specs.declared.lin.LinOp.{LinOp}
use Rattle.lin_ir.specs.declared.lin.LinOp.TheVariants as lin
use Rattle.linearise_rules.proofs.Walked.{Tail, tail_label, tail_target, reached_tail}
use Rattle.lin_tidy_rules.proofs.Ends.{tail_length}
use Rattle.lin_tidy_rules.proofs.Turns.{Turns, goes_in, exits_in, jumps_in, unwinds_in, pushes_in, asks_in, replaces_in, ends_in, raising_in, stuck_in, turns}
use Rattle.lin_machine.specs.Relation.{Laid}
use Rattle.linking.specs.Pace.{ProgramGoesForward, StepForward, left_behind}
use Rattle.linking_machine.specs.Known.{linear_program}
use Rattle.linking_machine.proofs.Known.{reached_walks}
use Rattle.linking_machine.proofs.Linked.{owed_once}
use Rattle.compiled_files.specs.Forward.{LiesForward, first_part, line_rank, words_upto, laid_words}

-- ---- words of lines by their rank

module _ (laid : Laid) (rises : (fewer more : ℕ) → fewer ≤ more → laid.part more ≤ laid.part fewer) (r : ℕ → ℕ) where
  abbrev upto : ℕ → ℕ → ℕ
  upto most n = words_upto laid r most n

  -- they are no more than the words of all lines
  upto_all : (most n : ℕ) → upto most n ≤ laid.part 0 - laid.part n
  upto_all most zero = omega arith
  upto_all most (suc k) =
      let up = rises k (suc k) (omega arith) in
      let all = rises 0 k (omega arith) in
      by (nat_le (r (suc k)) most) up all (upto_all most k)
    where
      by : (b : Bool) → laid.part (suc k) ≤ laid.part k → laid.part k ≤ laid.part 0 → upto most k ≤ laid.part 0 - laid.part k →
          cond b (laid.part k - laid.part (suc k)) 0 + upto most k ≤ laid.part 0 - laid.part (suc k)
      by true up all ih = omega (arith, up, all, ih)
      by false up all ih = omega (arith, up, all, ih)

  upto_more : (less more n : ℕ) → less ≤ more → upto less n ≤ upto more n
  upto_more less more zero h = omega arith
  upto_more less more (suc k) h = by (nat_le (r (suc k)) less) (nat_le (r (suc k)) more) refl refl (upto_more less more k h)
    where
      by : (a b : Bool) → nat_le (r (suc k)) less ≡ a → nat_le (r (suc k)) more ≡ b → upto less k ≤ upto more k →
          cond (nat_le (r (suc k)) less) (laid.part k - laid.part (suc k)) 0 + upto less k
          ≤ cond (nat_le (r (suc k)) more) (laid.part k - laid.part (suc k)) 0 + upto more k
      by a true e u ih =
          let own : cond (nat_le (r (suc k)) more) (laid.part k - laid.part (suc k)) 0 ≡ laid.part k - laid.part (suc k) =
          ap (λ b. cond b (laid.part k - laid.part (suc k)) 0) u in
          let few = at_most (nat_le (r (suc k)) less) in
          omega (arith, own, few, ih)
        where
          at_most : (b : Bool) → cond b (laid.part k - laid.part (suc k)) 0 ≤ laid.part k - laid.part (suc k)
          at_most true = omega arith
          at_most false = omega arith
      by true false e u ih = let le = leb-true (r (suc k)) less e in absurd (true≢false (sym (le-leb (r (suc k)) more (omega (arith, le, h))) ∙ u))
      by false false e u ih =
          let own : cond (nat_le (r (suc k)) less) (laid.part k - laid.part (suc k)) 0 ≡ 0 = ap (λ b. cond b (laid.part k - laid.part (suc k)) 0) e in
          omega (arith, own, ih)

  -- a line of greater rank comes on top
  upto_with : (less more k n : ℕ) → less < r (suc k) → r (suc k) ≤ more → suc k ≤ n → upto less n + (laid.part k - laid.part (suc k)) ≤ upto more n
  upto_with less more k zero a b h = absurd (omega (arith, h))
  upto_with less more k (suc n) a b h = by (cases_lt k n) (λ le. upto_with less more k n a b le)
    where
      above : cond (nat_le (r (suc k)) less) (laid.part k - laid.part (suc k)) 0 ≡ 0
      above = out (nat_le (r (suc k)) less) refl
        where
          out : (t : Bool) → nat_le (r (suc k)) less ≡ t → cond (nat_le (r (suc k)) less) (laid.part k - laid.part (suc k)) 0 ≡ 0
          out false e = ap (λ t. cond t (laid.part k - laid.part (suc k)) 0) e
          out true e = let le = leb-true (r (suc k)) less e in absurd (omega (arith, le, a))

      within : cond (nat_le (r (suc k)) more) (laid.part k - laid.part (suc k)) 0 ≡ laid.part k - laid.part (suc k)
      within = ap (λ t. cond t (laid.part k - laid.part (suc k)) 0) (le-leb (r (suc k)) more b)

      last : (j : ℕ) → j ≡ k → cond (nat_le (r (suc j)) less) (laid.part j - laid.part (suc j)) 0 + upto less j + (laid.part k - laid.part (suc k))
          ≤ cond (nat_le (r (suc j)) more) (laid.part j - laid.part (suc j)) 0 + upto more j
      last j e =
          subst (λ j. cond (nat_le (r (suc j)) less) (laid.part j - laid.part (suc j)) 0 + upto less j + (laid.part k - laid.part (suc k))
          ≤ cond (nat_le (r (suc j)) more) (laid.part j - laid.part (suc j)) 0 + upto more j) (sym e)
          (let rest = upto_more less more k (omega (arith, a, b)) in omega (arith, above, within, rest))

      sooner : (j : ℕ) → upto less j + (laid.part k - laid.part (suc k)) ≤ upto more j →
          cond (nat_le (r (suc j)) less) (laid.part j - laid.part (suc j)) 0 + upto less j + (laid.part k - laid.part (suc k))
          ≤ cond (nat_le (r (suc j)) more) (laid.part j - laid.part (suc j)) 0 + upto more j
      sooner j ih = two (nat_le (r (suc j)) less) (nat_le (r (suc j)) more) refl refl
        where
          two : (s t : Bool) → nat_le (r (suc j)) less ≡ s → nat_le (r (suc j)) more ≡ t →
              cond (nat_le (r (suc j)) less) (laid.part j - laid.part (suc j)) 0 + upto less j + (laid.part k - laid.part (suc k))
              ≤ cond (nat_le (r (suc j)) more) (laid.part j - laid.part (suc j)) 0 + upto more j
          two s t e u = at s t e u
            where
              at : (s t : Bool) → nat_le (r (suc j)) less ≡ s → nat_le (r (suc j)) more ≡ t →
                  cond (nat_le (r (suc j)) less) (laid.part j - laid.part (suc j)) 0 + upto less j + (laid.part k - laid.part (suc k))
                  ≤ cond (nat_le (r (suc j)) more) (laid.part j - laid.part (suc j)) 0 + upto more j
              at false t e u =
                  let own : cond (nat_le (r (suc j)) less) (laid.part j - laid.part (suc j)) 0 ≡ 0 = ap (λ b. cond b (laid.part j - laid.part (suc j)) 0) e in
                  omega (arith, own, ih)
              at true true e u =
                  let own : cond (nat_le (r (suc j)) less) (laid.part j - laid.part (suc j)) 0 ≡ laid.part j - laid.part (suc j) =
                  ap (λ b. cond b (laid.part j - laid.part (suc j)) 0) e in
                  let other : cond (nat_le (r (suc j)) more) (laid.part j - laid.part (suc j)) 0 ≡ laid.part j - laid.part (suc j) =
                  ap (λ b. cond b (laid.part j - laid.part (suc j)) 0) u in
                  omega (arith, own, other, ih)
              at true false e u =
                  let le = leb-true (r (suc j)) less e in absurd (true≢false (sym (le-leb (r (suc j)) more (omega (arith, le, a, b))) ∙ u))

      by : (k < n) ⊎ (n ≤ k) → (suc k ≤ n → upto less n + (laid.part k - laid.part (suc k)) ≤ upto more n) →
          upto less (suc n) + (laid.part k - laid.part (suc k)) ≤ upto more (suc n)
      by (inl lt) ih = sooner n (ih (omega (arith, lt)))
      by (inr le) ih = last n (omega (arith, le, h))

  -- its own words are among them
  upto_own : (k n : ℕ) → suc k ≤ n → laid.part k - laid.part (suc k) ≤ upto (r (suc k)) n
  upto_own k zero h = absurd (omega (arith, h))
  upto_own k (suc n) h = by (cases_lt k n) (λ le. upto_own k n le)
    where
      here : (j : ℕ) → j ≡ k → laid.part k - laid.part (suc k) ≤ cond (nat_le (r (suc j)) (r (suc k))) (laid.part j - laid.part (suc j)) 0 + upto (r (suc k)) j
      here j e =
          subst (λ j. laid.part k - laid.part (suc k) ≤ cond (nat_le (r (suc j)) (r (suc k))) (laid.part j - laid.part (suc j)) 0 + upto (r (suc k)) j) (sym e)
          (let own : cond (nat_le (r (suc k)) (r (suc k))) (laid.part k - laid.part (suc k)) 0 ≡ laid.part k - laid.part (suc k) =
          ap (λ t. cond t (laid.part k - laid.part (suc k)) 0) (le-leb (r (suc k)) (r (suc k)) (omega arith)) in
          omega (arith, own))

      by : (k < n) ⊎ (n ≤ k) → (suc k ≤ n → laid.part k - laid.part (suc k) ≤ upto (r (suc k)) n) → laid.part k - laid.part (suc k) ≤ upto (r (suc k)) (suc n)
      by (inl lt) ih = let rest = ih (omega (arith, lt)) in omega (arith, rest)
      by (inr le) ih = here n (omega (arith, le, h))

-- ---- one function

module _ (m : Lin) (laid : Laid) (entry words : ℕ) (lies : LiesForward m laid entry words) where
  abbrev r : ℕ → ℕ
  r = line_rank m lies.down.order

  abbrev place_ahead : List Line → ℕ
  place_ahead code = words_upto laid r (r (length code)) (length m.code)

  abbrev ahead : State → ℕ
  ahead u = place_ahead u.rest

  -- no more are left than all have
  all_ahead : (code : List Line) → place_ahead code ≤ words
  all_ahead code =
      let all = upto_all laid lies.rises r (r (length code)) (length m.code) in
      let low = lies.begins in
      let high = lies.ends in
      let up = lies.rises 0 (length m.code) (omega arith) in
      omega (arith, all, low, high, up)

  less_order : (a b j k : ℕ) → a < b → j ≤ length m.code → suc (length m.code) * a + j < suc (length m.code) * b + k
  less_order a b j k lt few =
      let more : suc (length m.code) * suc a ≤ suc (length m.code) * b = mul-le-mul_left (suc (length m.code)) (omega (arith, lt)) in
      omega (arith, more, few)

  same_order : (a b k : ℕ) → a ≤ b → suc (length m.code) * a + k < suc (length m.code) * b + suc k
  same_order a b k le =
      let more : suc (length m.code) * a ≤ suc (length m.code) * b = mul-le-mul_left (suc (length m.code)) le in
      omega (arith, more)

  module _ (i : Line) (next : List Line) (tries : List ℕ) (here : Reached m (i ∷ next) tries) where
    tail : Tail (i ∷ next) m.code
    tail = reached_tail m here

    on_label : (f : LinOp) (t : Target) → is_label f ≡ true → OneOf t (targets f) → t ≡ On
    on_label (lin.Op f) t e o = absurd (true≢false (sym e))
    on_label (lin.Flow (flow.Label k)) t e this = refl
    on_label (lin.Flow (flow.Label k)) t e (other o) = elim o [ ]
    on_label (lin.Flow (flow.Jump k)) t e o = absurd (true≢false (sym e))
    on_label (lin.Flow (flow.Exit k)) t e o = absurd (true≢false (sym e))
    on_label (lin.Flow (flow.Branch test k)) t e o = absurd (true≢false (sym e))
    on_label (lin.Flow (flow.Switch ls)) t e o = absurd (true≢false (sym e))
    on_label (lin.Flow (flow.PushTrap k)) t e o = absurd (true≢false (sym e))
    on_label (lin.Flow flow.PopTrap) t e o = absurd (true≢false (sym e))
    on_label (lin.Flow flow.EnterTrap) t e o = absurd (true≢false (sym e))

    -- a step that is no exit leads to less rank
    lower : is_exit i.op ≡ false → (t : Target) → OneOf t (targets i.op) → r (length (code_at m.code next t)) < r (suc (length next))
    lower inside t o = by (is_label i.op) refl
      where
        by : (b : Bool) → is_label i.op ≡ b → r (length (code_at m.code next t)) < r (suc (length next))
        by true e =
            subst (λ t. r (length (code_at m.code next t)) < r (suc (length next))) (sym (on_label i.op t e o))
            (same_order (lies.down.order (length next)) (lies.down.order (suc (length next))) (length next) (lies.down.labels i next tries here e))
        by false e =
            less_order (lies.down.order (length (code_at m.code next t))) (lies.down.order (suc (length next))) (length (code_at m.code next t))
            (suc (length next)) (lies.down.steps i next (code_at m.code next t) tries (tries_after i.op tries) here inside e (goes t o))
            (tail_length (tail_target m tail t))

    -- so the words of the line are among those that are left, and the others are left after it
    left_after : (to : List Line) → r (length to) < r (suc (length next)) → place_ahead to + first_part laid (i ∷ next) ≤ place_ahead (i ∷ next)
    left_after to lt =
        let few = tail_length tail in
        upto_with laid lies.rises r (r (length to)) (r (suc (length next))) (length next) (length m.code) lt (omega arith) (omega (arith, few))

  handler_within : (tries : List ℕ) → place_ahead (at_handler m.code tries) ≤ words
  handler_within tries = all_ahead (at_handler m.code tries)

  module _ (c : ActivationSetting) (i : Line) (next : List Line) (a : Around) (here : Reached m (i ∷ next) a.tries) where
    wrote_forward : (left : ℕ) (rest : List Line) (after : Around) (o : Option Locations) → place_ahead rest ≤ left →
        StepForward State words ahead left (wrote rest after o)
    wrote_forward left rest after None h = tt
    wrote_forward left rest after (Some f) h = h

    -- so many are left where a step that is no exit leads
    abbrev Leaves : ℕ → Type 0
    Leaves left = (to : List Line) → r (length to) < r (suc (length next)) → place_ahead to ≤ left

    more_left : (whom : Callee) (left : ℕ) → Leaves left → Leaves (left_behind State words ahead whom left)
    more_left (Inside f) left h to lt = all_ahead to
    more_left (Outside row frame) left h to lt = h to lt

    module _ (inside : is_exit i.op ≡ false) (f : Locations) where
      act_forward : {x : Act} (left : ℕ) → Leaves left → Turns i.op a.tries x → StepForward State words ahead left (on_act c m i next f a x)
      act_forward left h (goes_in {vs = vs} {to = to} {after = after} o e) =
          wrote_forward left (code_at m.code next to) after (put_all c.setting.end i.results vs (clear_destroyed (destroyed_by i.op) f))
          (h (code_at m.code next to) (lower i next a.tries here inside to o))
      act_forward left h (exits_in {l = l} b o e) = all_ahead (after_label l m.code)
      act_forward left h (jumps_in r e) = handler_within a.tries
      act_forward left h (unwinds_in {h = l} {after = after} may e) =
          let s : Reached m (i ∷ next) (l ∷ after.tries) = subst (Reached m (i ∷ next)) e here in
          let lt = less_order (lies.down.order (length (after_label l m.code))) (lies.down.order (suc (length next))) (length (after_label l m.code))
          (suc (length next)) (lies.down.raises i next (after_label l m.code) (l ∷ after.tries) after.tries s (raises may))
          (tail_length (tail_label l m.code)) in
          subst (λ (tries : List ℕ). place_ahead (at_handler m.code tries) ≤ left) (sym e) (h (after_label l m.code) lt)
      act_forward left h (pushes_in b o e) = h next (lower i next a.tries here inside On o)
      act_forward left h (asks_in {whom = whom} w) =
          λ d. act_forward (left_behind State words ahead whom left) (more_left whom left h) (w d)
      act_forward left h replaces_in = tt
      act_forward left h ends_in = tt
      act_forward left h raising_in = tt
      act_forward left h stuck_in = tt

    -- an exit is a unit
    exit_forward : (left l : ℕ) (f : Locations) (vs : List Value) → StepForward State words ahead left (on_act c m i next f a (flow_act (flow.Exit l) vs a))
    exit_forward left l f [] = all_ahead (after_label l m.code)
    exit_forward left l f (v ∷ vs) = tt

    module _ (f : Locations) (vs : List Value) (left : ℕ) (h : Leaves left) where
      not_exit : is_exit i.op ≡ false → StepForward State words ahead left (on_act c m i next f a (lin_act c.setting i.op vs a))
      not_exit e = act_forward e f left h (turns c.setting i.op vs a)

      op_forward : (g : LinOp) → i.op ≡ g → StepForward State words ahead left (on_act c m i next f a (lin_act c.setting g vs a))
      op_forward (lin.Op g) e = subst (λ (g : LinOp). StepForward State words ahead left (on_act c m i next f a (lin_act c.setting g vs a))) e (not_exit (ap is_exit e))
      op_forward (lin.Flow (flow.Exit l)) e = exit_forward left l f vs
      op_forward (lin.Flow (flow.Label l)) e = subst (λ (g : LinOp). StepForward State words ahead left (on_act c m i next f a (lin_act c.setting g vs a))) e (not_exit (ap is_exit e))
      op_forward (lin.Flow (flow.Jump l)) e = subst (λ (g : LinOp). StepForward State words ahead left (on_act c m i next f a (lin_act c.setting g vs a))) e (not_exit (ap is_exit e))
      op_forward (lin.Flow (flow.Branch t l)) e = subst (λ (g : LinOp). StepForward State words ahead left (on_act c m i next f a (lin_act c.setting g vs a))) e (not_exit (ap is_exit e))
      op_forward (lin.Flow (flow.Switch ls)) e = subst (λ (g : LinOp). StepForward State words ahead left (on_act c m i next f a (lin_act c.setting g vs a))) e (not_exit (ap is_exit e))
      op_forward (lin.Flow (flow.PushTrap l)) e = subst (λ (g : LinOp). StepForward State words ahead left (on_act c m i next f a (lin_act c.setting g vs a))) e (not_exit (ap is_exit e))
      op_forward (lin.Flow flow.PopTrap) e = subst (λ (g : LinOp). StepForward State words ahead left (on_act c m i next f a (lin_act c.setting g vs a))) e (not_exit (ap is_exit e))
      op_forward (lin.Flow flow.EnterTrap) e = subst (λ (g : LinOp). StepForward State words ahead left (on_act c m i next f a (lin_act c.setting g vs a))) e (not_exit (ap is_exit e))

    misnamed_forward : (b : Bool) (left : ℕ) (x : Step State) → StepForward State words ahead left x → StepForward State words ahead left (unless_misnamed b x)
    misnamed_forward true left x h = h
    misnamed_forward false left x h = tt

    values_forward : (names : List Loc) (f : Locations) (o : Option (List Value)) (left : ℕ) → Leaves left →
        StepForward State words ahead left (on_values c names m i next f a o)
    values_forward names f None left h = tt
    values_forward names f (Some vs) left h =
        misnamed_forward (not (passes_frame i.op) || are_vals c.setting.end names f) left _
        (op_forward (past_frame (passes_frame i.op) names f) vs left h i.op refl)

  code_forward : (c : ActivationSetting) (named : NamedAt) (rest : List Line) (f : Locations) (a : Around) → Reached m rest a.tries →
      StepForward State words ahead (place_ahead rest - first_part laid rest) (at_code c named m rest f a)
  code_forward c named [] f a here = tt
  code_forward c named (i ∷ next) f a here =
      values_forward c i next a here (named (length next)) f (values c.setting.end f i.args) (place_ahead (i ∷ next) - first_part laid (i ∷ next))
      (λ to lt. let more = left_after i next a.tries here to lt in omega (arith, more))

  cost_within : (rest : List Line) (tries : List ℕ) → Reached m rest tries → first_part laid rest ≤ place_ahead rest
  cost_within [] tries here = omega arith
  cost_within (i ∷ next) tries here =
      let few = tail_length (reached_tail m here) in
      upto_own laid lies.rises r (length next) (length m.code) (omega (arith, few))

  start_within : (memory : Memory) (o : Option Locations) (s : State) → begin_linear m memory o ≡ Some s → laid.part (length m.code) - entry + ahead s ≤ words
  start_within memory None s e = absurd (let no : None ≡ Some s = e in cc)
  start_within memory (Some f) s e =
      let same : record { rest = m.code; file = f; around = entry_around memory } ≡ s = cc in
      let low = lies.begins in
      let high = lies.ends in
      let up = lies.rises 0 (length m.code) (omega arith) in
      let all = upto_all laid lies.rises r (r (length m.code)) (length m.code) in
      let it : laid.part (length m.code) - entry + place_ahead m.code ≤ words = omega (arith, low, high, up, all) in
      subst (λ (z : State). laid.part (length m.code) - entry + ahead z ≤ words) same it

module _ (lins : ℕ → Lin) (named : ℕ → NamedAt) (laid : ℕ → Laid) (entry : ℕ → ℕ) (words : ℕ)
    (lies : (f : ℕ) → LiesForward (lins f) (laid f) (entry f) words) where
  -- A program whose functions lie so goes forward.
  pub forward : ProgramGoesForward State (linear_program lins named) (laid_words lins laid entry (λ f. (lies f).down.order)) words
  forward = record {
    enter = λ f c arguments memory s e.
        start_within (lins f) (laid f) (entry f) words (lies f) memory (put_all c.setting.end (lins f).params arguments (λ l. None)) s e;
    owed = λ f s. owed_once s.rest;
    cost = λ f c s reached. cost_within (lins f) (laid f) (entry f) words (lies f) s.rest s.around.tries (reached_walks lins named f c reached);
    on = λ f c s reached. code_forward (lins f) (laid f) (entry f) words (lies f) c (named f) s.rest s.file s.around (reached_walks lins named f c reached);
  }
