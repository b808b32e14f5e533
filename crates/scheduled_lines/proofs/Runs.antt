-- Where a line stands in code with its runs reordered: it stays, or it is of a run.
use Rattle.std.proofs.Common.{◌≡◌, Bool, true, false, ◌⊎◌, inl, inr, ⊎_elim, List, [], ◌∷◌, ◌++◌, refl, sym, ◌∙◌}
use Rattle.std.proofs.lemmas.Bool.{true≢false}
use Rattle.lin_ir.specs.Walks.{StandsAsLine, here, below}
use Rattle.lin_ir.specs.declared.lin.Line.{Line}
use Rattle.linearise_rules.proofs.Walked.{Tail, tail_all, tail_more}
use Rattle.schedule_rules.specs.Straight.{is_plain}
use Rattle.schedule_rules.specs.Orders.{are_plain, Reorders, Rest, rest_ends, rest_line, Ordered, ordered}
use Rattle.schedule_rules.proofs.Reorder.{and_left, and_right, reorders_plain}

-- ---- among lines one after the other

-- a line among the first ones, and what follows it there
pub record Among (i : Line) (next xs ys : List Line) : Type 0 where
  pub later : List Line
  pub stands : StandsAsLine i later xs
  pub follows : next ≡ later ++ ys

among_later : {i x : Line} {next xs ys : List Line} → Among i next xs ys → Among i next (x ∷ xs) ys
among_later a = record { later = a.later; stands = below a.stands; follows = a.follows }

pub split_stands : (xs : List Line) {ys : List Line} {i : Line} {next : List Line} → StandsAsLine i next (xs ++ ys) → Among i next xs ys ⊎ StandsAsLine i next ys
split_stands [] s = inr s
split_stands (x ∷ xs) here = inl (record { later = xs; stands = here; follows = refl })
split_stands (x ∷ xs) (below s) = ⊎_elim (λ a. inl (among_later a)) inr (split_stands xs s)

pub stands_left : {i : Line} {later xs : List Line} (ys : List Line) → StandsAsLine i later xs → StandsAsLine i (later ++ ys) (xs ++ ys)
stands_left ys here = here
stands_left ys (below s) = below (stands_left ys s)

pub stands_right : {i : Line} {next ys : List Line} (xs : List Line) → StandsAsLine i next ys → StandsAsLine i next (xs ++ ys)
stands_right [] s = s
stands_right (x ∷ xs) s = below (stands_right xs s)

pub plain_stands : {i : Line} {later xs : List Line} → StandsAsLine i later xs → are_plain xs ≡ true → is_plain i.op ≡ true
plain_stands here p = and_left _ _ p
plain_stands (below s) p = plain_stands s (and_right _ _ p)

tail_right : {a ys : List Line} (xs : List Line) → Tail a ys → Tail a (xs ++ ys)
tail_right [] t = t
tail_right (x ∷ xs) t = tail_more (tail_right xs t)

not_both : {b : Bool} → b ≡ true → b ≡ false → {A : Type 0} → A
not_both e f = absurd (true≢false (sym e ∙ f))

-- ---- lines that stay

-- A line of the second code that stays is one of the first, and what follows it there is as here but for the order of runs.
pub record Stays (i : Line) (next code : List Line) : Type 0 where
  pub was : List Line
  pub stands : StandsAsLine i was code
  pub order : Ordered was next

stays_right : {i : Line} {next code : List Line} (xs : List Line) → Stays i next code → Stays i next (xs ++ code)
stays_right xs s = record { was = s.was; stands = stands_right xs s.stands; order = s.order }

stays_rest : {i : Line} {next is js : List Line} → Rest is js → StandsAsLine i next js → is_plain i.op ≡ false → Stays i next is
stays_rest rest_ends s f = elim s [ ]
stays_rest (rest_line k xs ys {is = is} {js = js} n p o t) here f = record { was = xs ++ is; stands = here; order = ordered xs ys is js p o t }
stays_rest (rest_line k xs ys {is = is} n p o t) (below s) f =
    ⊎_elim (λ a. not_both (plain_stands a.stands (reorders_plain xs ys o p)) f) (λ u. stays_right (k ∷ xs) (stays_rest t u f)) (split_stands ys s)

pub stays : {i : Line} {next code other : List Line} → Ordered code other → StandsAsLine i next other → is_plain i.op ≡ false → Stays i next code
stays (ordered xs ys is js p o t) s f =
    ⊎_elim (λ a. not_both (plain_stands a.stands (reorders_plain xs ys o p)) f) (λ u. stays_right xs (stays_rest t u f)) (split_stands ys s)

-- and the other way
pub record Stayed (i : Line) (next other : List Line) : Type 0 where
  pub after : List Line
  pub stands : StandsAsLine i after other
  pub order : Ordered next after

stayed_right : {i : Line} {next other : List Line} (ys : List Line) → Stayed i next other → Stayed i next (ys ++ other)
stayed_right ys s = record { after = s.after; stands = stands_right ys s.stands; order = s.order }

stayed_rest : {i : Line} {next is js : List Line} → Rest is js → StandsAsLine i next is → is_plain i.op ≡ false → Stayed i next js
stayed_rest rest_ends s f = elim s [ ]
stayed_rest (rest_line k xs ys {is = is} {js = js} n p o t) here f = record { after = ys ++ js; stands = here; order = ordered xs ys is js p o t }
stayed_rest (rest_line k xs ys n p o t) (below s) f =
    ⊎_elim (λ a. not_both (plain_stands a.stands p) f) (λ u. stayed_right (k ∷ ys) (stayed_rest t u f)) (split_stands xs s)

pub stayed : {i : Line} {next code other : List Line} → Ordered code other → StandsAsLine i next code → is_plain i.op ≡ false → Stayed i next other
stayed (ordered xs ys is js p o t) s f =
    ⊎_elim (λ a. not_both (plain_stands a.stands p) f) (λ u. stayed_right ys (stayed_rest t u f)) (split_stands xs s)

-- ---- lines of runs

-- A line of a run of the second code, with that run, and the run in the first code.
pub record InRun (i : Line) (next code : List Line) : Type 0 where
  pub old_run : List Line
  pub new_run : List Line
  pub old_rest : List Line
  pub new_rest : List Line
  pub plain : are_plain old_run ≡ true
  pub order : Reorders old_run new_run
  pub rest : Rest old_rest new_rest
  pub among : Among i next new_run new_rest
  pub old : Tail (old_run ++ old_rest) code

run_right : {i : Line} {next code : List Line} (xs : List Line) → InRun i next code → InRun i next (xs ++ code)
run_right xs s =
    record {
      old_run = s.old_run;
      new_run = s.new_run;
      old_rest = s.old_rest;
      new_rest = s.new_rest;
      plain = s.plain;
      order = s.order;
      rest = s.rest;
      among = s.among;
      old = tail_right xs s.old;
    }

run_here : {i : Line} {next : List Line} (xs ys is js : List Line) → are_plain xs ≡ true → Reorders xs ys → Rest is js → Among i next ys js → InRun i next (xs ++ is)
run_here xs ys is js p o t a = record { old_run = xs; new_run = ys; old_rest = is; new_rest = js; plain = p; order = o; rest = t; among = a; old = tail_all }

run_rest : {i : Line} {next is js : List Line} → Rest is js → StandsAsLine i next js → is_plain i.op ≡ true → InRun i next is
run_rest rest_ends s f = elim s [ ]
run_rest (rest_line k xs ys n p o t) here f = not_both f n
run_rest (rest_line k xs ys {is = is} {js = js} n p o t) (below s) f =
    run_right (k ∷ []) (⊎_elim (λ a. run_here xs ys is js p o t a) (λ u. run_right xs (run_rest t u f)) (split_stands ys s))

pub in_run : {i : Line} {next code other : List Line} → Ordered code other → StandsAsLine i next other → is_plain i.op ≡ true → InRun i next code
in_run (ordered xs ys is js p o t) s f =
    ⊎_elim (λ a. run_here xs ys is js p o t a) (λ u. run_right xs (run_rest t u f)) (split_stands ys s)
