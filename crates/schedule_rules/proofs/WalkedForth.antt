-- Where a walk of a function comes, one of the function with its runs reordered comes, between runs, with the same traps.
use Rattle.std.proofs.Common.{◌≡◌, ℕ, true, false, List, [], ◌∷◌, ◌++◌, refl, sym, ap, ◌∙◌, subst}
use Rattle.std.proofs.lemmas.Bool.{true≢false}
use Rattle.mach_ir.specs.Acts.{Target, On, At}
use Rattle.mach_ir.specs.Walks.{OneOf}
use Rattle.lin_ir.specs.Meaning.{after_label, code_at}
use Rattle.lin_ir.specs.Walks.{targets, may_raise, tries_after, LineWalkStep, Raises, Reached, at_entry, by_step, by_raise}
use Rattle.lin_ir.specs.Walks as walks
use Rattle.lin_ir.specs.declared.lin.Line.{Line}
use Rattle.lin_ir.specs.declared.lin.Lin.{Lin}
use Rattle.schedule_rules.specs.Straight.{is_plain}
use Rattle.schedule_rules.specs.Orders.{are_plain, Reorders, Rest, rest_ends, rest_line, Ordered, ordered}
use Rattle.schedule_rules.proofs.Reorder.{and_left, and_right, reorders_plain}
use Rattle.schedule_rules.proofs.Walked.{through, EndOf, all_of_it, less}
use Rattle.schedule_rules.proofs.Living.{cons_head, cons_tail, cons_nil, plain_only, plain_tries, plain_quiet, ordered_label}

-- r is m with its runs reordered
module _ (m r : Lin) (whole : Ordered m.code r.code) where
  -- some of a run is left in the old function, and a walk of the new comes to the run's beginning
  pub record Came (code : List Line) (tries : List ℕ) : Type 0 where
    pub old_run : List Line
    pub new_run : List Line
    pub later : List Line
    pub old_rest : List Line
    pub new_rest : List Line
    pub plain : are_plain old_run ≡ true
    pub left : are_plain later ≡ true
    pub order : Reorders old_run new_run
    pub ends : EndOf old_run later
    pub rest : Rest old_rest new_rest
    pub here : code ≡ later ++ old_rest
    pub reached : Reached r (new_run ++ new_rest) tries

  start_of : (from to : List Line) (tries : List ℕ) → Ordered from to → Reached r to tries → Came from tries
  start_of _ _ tries (ordered xs ys is js p o rest) reached =
      record {
        old_run = xs;
        new_run = ys;
        later = xs;
        old_rest = is;
        new_rest = js;
        plain = p;
        left = p;
        order = o;
        ends = all_of_it;
        rest = rest;
        here = refl;
        reached = reached;
      }

  -- the line that stays after a run
  at_line : (i : Line) (next to : List Line) (tries left : List ℕ) (c : Came (i ∷ next) tries) → c.later ≡ [] → LineWalkStep m i next tries to left → Came to left
  at_line i next _ tries _ c e (walks.goes t z) = by c.old_rest c.new_rest c.rest (c.here ∙ ap (λ l. l ++ c.old_rest) e) (through r c.new_run c.new_rest tries (reorders_plain c.old_run c.new_run c.order c.plain) c.reached)
    where
      by : (is js : List Line) → Rest is js → i ∷ next ≡ is → Reached r js tries → Came (code_at m.code next t) (tries_after i.op tries)
      by _ _ rest_ends e reached = absurd (cons_nil e)
      by _ _ (rest_line j xs ys {is = is} {js = js} n p o rest) e reached =
          let same : j ≡ i = sym (cons_head e) in
          let old : Reached r (i ∷ ys ++ js) tries = subst (λ (k : Line). Reached r (k ∷ ys ++ js) tries) same reached in
          go t z (cons_tail e) old
        where
          go : (t : Target) → OneOf t (targets i.op) → next ≡ xs ++ is → Reached r (i ∷ ys ++ js) tries → Came (code_at m.code next t) (tries_after i.op tries)
          go On z e old = subst (λ k. Came k (tries_after i.op tries)) (sym e)
              (start_of (xs ++ is) (ys ++ js) (tries_after i.op tries) (ordered xs ys is js p o rest) (by_step old (walks.goes On z)))
          go (At l) z e old = start_of (after_label l m.code) (after_label l r.code) (tries_after i.op tries) (ordered_label l m.code r.code whole) (by_step old (walks.goes (At l) z))

  at_raise : (i : Line) (next to : List Line) (tries left : List ℕ) (c : Came (i ∷ next) tries) → c.later ≡ [] → Raises m i tries to left → Came to left
  at_raise i next _ _ left c e (walks.raises {h = h} x) = by c.old_rest c.new_rest c.rest (c.here ∙ ap (λ l. l ++ c.old_rest) e) (through r c.new_run c.new_rest (h ∷ left) (reorders_plain c.old_run c.new_run c.order c.plain) c.reached)
    where
      by : (is js : List Line) → Rest is js → i ∷ next ≡ is → Reached r js (h ∷ left) → Came (after_label h m.code) left
      by _ _ rest_ends e reached = absurd (cons_nil e)
      by _ _ (rest_line j xs ys {is = is} {js = js} n p o rest) e reached =
          start_of (after_label h m.code) (after_label h r.code) left (ordered_label h m.code r.code whole)
          (by_raise (subst (λ (k : Line). Reached r (k ∷ ys ++ js) (h ∷ left)) (sym (cons_head e)) reached) (walks.raises x))

  -- a line of a run
  in_run : (i : Line) (next to : List Line) (tries left : List ℕ) (c : Came (i ∷ next) tries) (y : Line) (ys : List Line) → c.later ≡ y ∷ ys → LineWalkStep m i next tries to left → Came to left
  in_run i next _ tries _ c y ys e (walks.goes t z) =
      let here : i ∷ next ≡ y ∷ (ys ++ c.old_rest) = c.here ∙ ap (λ l. l ++ c.old_rest) e in
      let plains : are_plain (y ∷ ys) ≡ true = subst (λ l. are_plain l ≡ true) e c.left in
      let py : is_plain i.op ≡ true = subst (λ (k : Line). is_plain k.op ≡ true) (sym (cons_head here)) (and_left _ _ plains) in
      let on : t ≡ On = plain_only i.op t py z in
      subst (λ k. Came (code_at m.code next k) (tries_after i.op tries)) (sym on)
      (subst (Came next) (sym (plain_tries i.op tries py))
      (record {
        old_run = c.old_run;
        new_run = c.new_run;
        later = ys;
        old_rest = c.old_rest;
        new_rest = c.new_rest;
        plain = c.plain;
        left = and_right _ _ plains;
        order = c.order;
        ends = less (subst (EndOf c.old_run) e c.ends);
        rest = c.rest;
        here = cons_tail here;
        reached = c.reached;
      }))

  step : (i : Line) (next to : List Line) (tries left : List ℕ) → Came (i ∷ next) tries → LineWalkStep m i next tries to left → Came to left
  step i next to tries left c z = by c.later refl
    where
      by : (l : List Line) → c.later ≡ l → Came to left
      by [] e = at_line i next to tries left c e z
      by (y ∷ ys) e = in_run i next to tries left c y ys e z

  raise : (i : Line) (next to : List Line) (tries left : List ℕ) → Came (i ∷ next) tries → Raises m i tries to left → Came to left
  raise i next to tries left c z = by c.later refl
    where
      quiet : {tries : List ℕ} {to : List Line} {left : List ℕ} → may_raise i.op ≡ false → Raises m i tries to left → ⊥
      quiet q (walks.raises x) = true≢false (sym x ∙ q)

      by : (l : List Line) → c.later ≡ l → Came to left
      by [] e = at_raise i next to tries left c e z
      by (y ∷ ys) e =
          let here : i ∷ next ≡ y ∷ (ys ++ c.old_rest) = c.here ∙ ap (λ l. l ++ c.old_rest) e in
          let plains : are_plain (y ∷ ys) ≡ true = subst (λ l. are_plain l ≡ true) e c.left in
          absurd (quiet (plain_quiet i.op (subst (λ (k : Line). is_plain k.op ≡ true) (sym (cons_head here)) (and_left _ _ plains))) z)

  -- Where a walk of the old function comes, one of the new comes to the beginning of that run, with the same traps.
  pub reached_forth : {code : List Line} {tries : List ℕ} → Reached m code tries → Came code tries
  reached_forth at_entry = start_of m.code r.code [] whole at_entry
  reached_forth (by_step {i = i} {next = next} {to = to} {tries = tries} {left = left} x z) = step i next to tries left (reached_forth x) z
  reached_forth (by_raise {i = i} {next = next} {to = to} {tries = tries} {left = left} x z) = raise i next to tries left (reached_forth x) z

  -- In front of a line that stays, what comes after it is reordered.
  pub line_forth : (i : Line) (next : List Line) (tries : List ℕ) → is_plain i.op ≡ false → Reached m (i ∷ next) tries →
      (after : List Line) × Ordered next after × Reached r (i ∷ after) tries
  line_forth i next tries stays reached = by c.later refl
    where
      c : Came (i ∷ next) tries
      c = reached_forth reached

      at : (is js : List Line) → Rest is js → i ∷ next ≡ is → Reached r js tries → (after : List Line) × Ordered next after × Reached r (i ∷ after) tries
      at _ _ rest_ends e z = absurd (cons_nil e)
      at _ _ (rest_line j xs ys {is = is} {js = js} n p o rest) e z = (
        ys ++ js,
        subst (λ k. Ordered k (ys ++ js)) (sym (cons_tail e)) (ordered xs ys is js p o rest),
        subst (λ (k : Line). Reached r (k ∷ ys ++ js) tries) (sym (cons_head e)) z,
      )

      by : (l : List Line) → c.later ≡ l → (after : List Line) × Ordered next after × Reached r (i ∷ after) tries
      by [] e =
          at c.old_rest c.new_rest c.rest (c.here ∙ ap (λ l. l ++ c.old_rest) e)
          (through r c.new_run c.new_rest tries (reorders_plain c.old_run c.new_run c.order c.plain) c.reached)
      by (y ∷ ys) e =
          let here : i ∷ next ≡ y ∷ (ys ++ c.old_rest) = c.here ∙ ap (λ l. l ++ c.old_rest) e in
          let plains : are_plain (y ∷ ys) ≡ true = subst (λ l. are_plain l ≡ true) e c.left in
          absurd (true≢false (sym (subst (λ (k : Line). is_plain k.op ≡ true) (sym (cons_head here)) (and_left _ _ plains)) ∙ stays))
