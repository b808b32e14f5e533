-- What is live, joined and reached in a function whose constants are made at the entry was so before, the registers of
-- those constants excepted.
use Rattle.std.proofs.Common.{◌≡◌, ℕ, Bool, true, inl, inr, ◌⊎◌, ⊎_elim, List, [], ◌∷◌, ◌++◌, length, refl, sym, ◌∙◌, subst}
use Rattle.std.specs.List.{Contains}
use Rattle.std.proofs.lemmas.Bool.{both_ways}
use Rattle.std.proofs.lemmas.List.Elements.{Contains-append_left, Contains-append_right, Contains-append_cases}
use Rattle.mach_ir.specs.Acts.{Target, On}
use Rattle.bs_words.specs.declared.types.Comp.TheVariants as comp
use Rattle.bs_words.proofs.Lists.{none_in, head_same, tail_same}
use Rattle.mach_ir.specs.Meaning.{after_label, from_handler, code_at, killed, passes_frame, tries_at}
use Rattle.mach_ir.specs.Walks.{AmongRegisters, OneOf, targets, may_raise, goes, raises, Reached, at_entry, by_step, by_raise, Live, read, on, aside, LiveAfter, after_step, LiveAcross, across_step, across_raise, InCode, in_args, in_results, further, IsRegister, is_param, is_colour, is_in_code, StandsAsInstr, here, below, NoAddrLive, Meets, at_write, at_params, Joined, one_way, other_way}
use Rattle.mach_ir.specs.declared.reg.Reg.{Reg}
use Rattle.mach_ir.specs.declared.mach.Instr.{Instr}
use Rattle.mach_ir.specs.declared.mach.Mach.{Mach}
use Rattle.mach_laws.specs.Expand.{expand, Ending, all}
use Rattle.mach_laws.proofs.Places.{ending_of}
use Rattle.mach_laws.proofs.Among.{split_among}
use Rattle.deadcode_rules.specs.Dropped.{may_go, unless_dropped}
use Rattle.deadcode_rules.proofs.Left as what_is_left
use Rattle.deadcode_rules.proofs.Left.{IsMain, was_main, code_back, label_is, handler_is, first_kept, gone_reached, WasReached, reached_on, reached_aside, GoesBack}
use Rattle.deadcode_rules.proofs.Text.{pure_of, pure_on, pure_only, pure_quiet, pure_no_frame}
use Rattle.hoist_rules.specs.Hoisted.{MayMove, hoisted, MayAllMove}
use Rattle.hoist_rules.proofs.Moved as at_entry_of

module _ (m : Mach) (moves : ℕ → Bool) (may : MayAllMove m moves) where
  abbrev q : Mach
  q = hoisted moves m

  abbrev rest_of : Mach
  rest_of = at_entry_of.rest_of m moves may

  abbrev f : ℕ → Instr → List Instr
  f = unless_dropped moves

  abbrev IsMade : ℕ → Type 0
  IsMade = at_entry_of.IsMade m moves may

  -- ---- what is left, without its entry

  lift : {n : ℕ} {i : Instr} {next : List Instr} → StandsAsInstr i next m.code → may_go i.op ≡ true → moves (length next) ≡ true →
      (IsMade n → ⊥) → Live m n next → Live m n (i ∷ next)
  lift {n} {i} {next} s g d free v =
      on
      (λ w.
      ⊎_elim (λ a. free (record { instr = i; next = next; stands = s; moves_so = d; among = a }))
      (at_entry_of.none_killed m moves may n (may i next s d)) (split_among n i.results (killed m i) w))
      (goes On (pure_on (pure_of i.op g))) v

  goes_back : {n : ℕ} → (IsMade n → ⊥) → GoesBack m moves n (Live m n)
  goes_back free =
      record {
        over = λ i next s g d v. lift s g d free v;
        at_read = λ i next s kept a. read a;
        at_step = λ i next to writes l v. on writes l v;
        at_raise = λ i next to r v. aside r v;
        is_live = λ rest v. v;
      }

  pub live_back : {n : ℕ} {ys : List Instr} → Live rest_of n ys → (IsMade n → ⊥) → (rest : List Instr) → Ending rest m.code →
      ys ≡ expand f rest → Live m n rest
  live_back {n} v free = what_is_left.live_back m moves (rest_of).params n (Live m n) (goes_back free) v

  pub across_back : {n : ℕ} {j : Instr} {zs : List Instr} (next : List Instr) → (IsMade n → ⊥) → Ending (j ∷ next) m.code →
      zs ≡ expand f next → LiveAcross rest_of n j zs → LiveAcross m n j next
  across_back {n} next free ending e v =
      (what_is_left.across_back m moves (rest_of).params n (Live m n) (goes_back free) next ending e v).0

  pub after_back : {n : ℕ} {j : Instr} {zs : List Instr} (next : List Instr) → (IsMade n → ⊥) → Ending (j ∷ next) m.code →
      zs ≡ expand f next → LiveAfter rest_of n j zs → LiveAfter m n j next
  after_back {n} next free = what_is_left.after_back m moves (rest_of).params n (Live m n) (goes_back free) next

  -- ---- with its entry, walks are the same

  abbrev label_same : (l : ℕ) → after_label l q.code ≡ after_label l rest_of.code
  label_same = at_entry_of.label_same m moves may

  abbrev code_same : (next : List Instr) (t : Target) → code_at q.code next t ≡ code_at rest_of.code next t
  code_same = at_entry_of.code_same m moves may

  abbrev handler_same : (l : ℕ) → from_handler l q.code ≡ from_handler l rest_of.code
  handler_same = at_entry_of.handler_same m moves may

  pub live_same : {n : ℕ} {ys : List Instr} → Live q n ys → Live rest_of n ys
  live_same {n} (read a) = read a
  live_same {n} (on {i = j} {next = zs} writes (goes t o) v) =
      on writes (goes t o) (subst (Live rest_of n) (code_same zs t) (live_same v))
  live_same {n} (aside {i = j} {next = zs} (raises {l = l} {tries = tries} r h) v) =
      aside (raises r h) (subst (Live rest_of n) (handler_same l) (live_same v))

  pub across_same : {n : ℕ} {j : Instr} {zs : List Instr} → LiveAcross q n j zs → LiveAcross rest_of n j zs
  across_same {n} {j} {zs} (across_step writes (goes t o) v) =
      across_step writes (goes t o) (subst (Live rest_of n) (code_same zs t) (live_same v))
  across_same {n} {j} {zs} (across_raise (raises {l = l} r h) v) =
      across_raise (raises r h) (subst (Live rest_of n) (handler_same l) (live_same v))

  pub after_same : {n : ℕ} {j : Instr} {zs : List Instr} → LiveAfter q n j zs → LiveAfter rest_of n j zs
  after_same {n} {j} {zs} (after_step (goes t o) v) =
      after_step (goes t o) (subst (Live rest_of n) (code_same zs t) (live_same v))

  -- ---- registers

  pub stands_in_code : {r : Reg} {i : Instr} {next code : List Instr} → StandsAsInstr i next code → InCode r (i ∷ []) → InCode r code
  stands_in_code here (in_args a) = in_args a
  stands_in_code here (in_results a) = in_results a
  stands_in_code here (further c) = elim c [ ]
  stands_in_code (below s) c = further (stands_in_code s c)

  front_back : {r : Reg} {xs : List Instr} → at_entry_of.Front m moves may xs → InCode r xs → InCode r m.code
  front_back at_entry_of.front_end c = elim c [ ]
  front_back (at_entry_of.front_one s h k) (in_args a) = stands_in_code s (in_args a)
  front_back (at_entry_of.front_one s h k) (in_results a) = stands_in_code s (in_results a)
  front_back (at_entry_of.front_one s h k) (further c) = front_back k c

  either : {r : Reg} (xs ys : List Instr) → InCode r (xs ++ ys) → InCode r xs ⊎ InCode r ys
  either [] ys c = inr c
  either (x ∷ xs) ys (in_args a) = inl (in_args a)
  either (x ∷ xs) ys (in_results a) = inl (in_results a)
  either (x ∷ xs) ys (further c) = ⊎_elim (λ d. inl (further d)) inr (either xs ys c)

  pub was_register : (r : Reg) → IsRegister q r → IsRegister m r
  was_register r (is_param c) = is_param c
  was_register r (is_colour c) = is_colour c
  was_register r (is_in_code c) =
      is_in_code
      (⊎_elim (λ d. front_back (at_entry_of.whole_front m moves may) d) (λ d. code_back moves m.code d)
      (either (at_entry_of.front m moves may) rest_of.code c))

  results_code : {r : Reg} (xs : List Instr) → Contains (at_entry_of.results_in xs) r → InCode r xs
  results_code {r} [] c = absurd (none_in r c)
  results_code {r} (i ∷ is) c =
      ⊎_elim (λ d. in_results d) (λ d. further (results_code is d)) (Contains-append_cases i.results (at_entry_of.results_in is) r c)

  code_results : {r : Reg} {xs : List Instr} → at_entry_of.Front m moves may xs → InCode r xs → Contains (at_entry_of.results_in xs) r
  code_results at_entry_of.front_end c = elim c [ ]
  code_results {r} (at_entry_of.front_one {i = i} {next = next} s h k) (in_args a) =
      absurd (none_in r (subst (λ (i : Instr). Contains i.args r) (may i next s h).is a))
  code_results {r} (at_entry_of.front_one {i = i} {xs = xs} s h k) (in_results a) = Contains-append_left i.results (at_entry_of.results_in xs) r a
  code_results {r} (at_entry_of.front_one {i = i} {xs = xs} s h k) (further c) =
      Contains-append_right i.results (at_entry_of.results_in xs) r (code_results k c)

  abbrev made_there : List Reg
  made_there = at_entry_of.results_in (at_entry_of.front m moves may)

  pub rest_register : (r : Reg) → IsRegister rest_of r → IsRegister m r
  rest_register r (is_param c) =
      ⊎_elim is_param
      (λ d.
      is_in_code
      (front_back (at_entry_of.whole_front m moves may) (results_code (at_entry_of.front m moves may) d)))
      (Contains-append_cases m.params made_there r c)
  rest_register r (is_colour c) = is_colour c
  rest_register r (is_in_code c) = is_in_code (code_back moves m.code c)

  pub to_rest : (r : Reg) → IsRegister q r → IsRegister rest_of r
  to_rest r (is_param c) = is_param (Contains-append_left m.params made_there r c)
  to_rest r (is_colour c) = is_colour c
  to_rest r (is_in_code c) =
      ⊎_elim (λ d. is_param (Contains-append_right m.params made_there r (code_results (at_entry_of.whole_front m moves may) d)))
      (λ d. is_in_code d)
      (either (at_entry_of.front m moves may) rest_of.code c)

  -- ---- what is in the second

  -- it is made at the entry, or left
  pub data Whence (j : Instr) (zs : List Instr) : Type 0 where
    at_the_entry : {next : List Instr} → StandsAsInstr j next m.code → moves (length next) ≡ true → Whence j zs
    left : IsMain moves j zs m.code → Whence j zs

  from_front : {j : Instr} {zs xs : List Instr} → at_entry_of.Front m moves may xs → {code : List Instr} →
      code ≡ xs ++ rest_of.code → StandsAsInstr j zs code → Whence j zs
  from_front {j} {zs} at_entry_of.front_end e s = left (was_main moves m.code j zs (subst (StandsAsInstr j zs) e s))
  from_front {j} {zs} (at_entry_of.front_one {next = next} s h k) e here =
      at_the_entry (subst (λ (i : Instr). StandsAsInstr i next m.code) (sym (head_same e)) s) h
  from_front (at_entry_of.front_one s h k) e (below t) = from_front k (tail_same e) t

  pub whence : {j : Instr} {zs : List Instr} → StandsAsInstr j zs q.code → Whence j zs
  whence s = from_front (at_entry_of.whole_front m moves may) refl s

  -- ---- what moves goes on alone

  pub only_on : {i : Instr} {next : List Instr} {t : Target} → MayMove m i next → OneOf t (targets i.op) → t ≡ On
  only_on v o = pure_only (pure_of _ (at_entry_of.may_go_so m moves may v)) o

  pub no_raise : {i : Instr} {next : List Instr} → MayMove m i next → may_raise i.op ≡ true → ⊥
  no_raise v r = both_ways _ (pure_quiet (pure_of _ (at_entry_of.may_go_so m moves may v))) r

  pub no_read : {n : ℕ} {i : Instr} {next : List Instr} → MayMove m i next → AmongRegisters n i.args → ⊥
  no_read {n} v a = none_among (subst (λ (i : Instr). AmongRegisters n i.args) v.is a)
    where
      none_among : AmongRegisters n [] → ⊥
      none_among a = elim a [ ]

  -- what is live at the entry, and not made there, is live after it
  front_live : {n : ℕ} {xs zs : List Instr} → at_entry_of.Front m moves may xs → zs ≡ xs ++ rest_of.code → Live q n zs →
      Live q n rest_of.code
  front_live {n} at_entry_of.front_end e v = subst (Live q n) e v
  front_live {n} (at_entry_of.front_one {i = i} {next = next} s h k) e (read a) =
      absurd (no_read (may i next s h) (subst (λ (i : Instr). AmongRegisters n i.args) (head_same e) a))
  front_live {n} (at_entry_of.front_one {i = i} {next = next} s h k) e (on {next = zs} w (goes t o) v) =
      front_live k (tail_same e)
      (subst (λ t. Live q n (code_at q.code zs t))
      (only_on (may i next s h) (subst (λ (i : Instr). OneOf t (targets i.op)) (head_same e) o)) v)
  front_live {n} (at_entry_of.front_one {i = i} {next = next} s h k) e (aside (raises r t) v) =
      absurd (no_raise (may i next s h) (subst (λ (i : Instr). may_raise i.op ≡ true) (head_same e) r))

  -- ---- the graph

  meets_back : {n k : ℕ} → (IsMade n → ⊥) → (IsMade k → ⊥) → Meets q n k → Meets m n k
  meets_back {n} {k} one two (at_write j zs s w v apart) = by (whence s)
    where
      by : Whence j zs → Meets m n k
      by (at_the_entry {next = next} t h) =
          absurd
          (⊎_elim (λ a. one (record { instr = j; next = next; stands = t; moves_so = h; among = a }))
          (at_entry_of.none_killed m moves may n (may j next t h)) (split_among n j.results (killed m j) w))
      by (left o) =
          at_write j o.next o.stands w (after_back o.next two (ending_of o.stands) o.same (after_same v)) apart
  meets_back one two (at_params a v) =
      at_params a
      (live_back (live_same (front_live (at_entry_of.whole_front m moves may) refl v)) two m.code all refl)

  pub joined_back : {n k : ℕ} → (IsMade n → ⊥) → (IsMade k → ⊥) → Joined q n k → Joined m n k
  joined_back one two (one_way e h) = one_way e (meets_back one two h)
  joined_back one two (other_way e h) = other_way e (meets_back two one h)

  -- ---- what is reached

  data Reaches (ys : List Instr) : Type 0 where
    in_front : {xs : List Instr} → at_entry_of.Front m moves may xs → ys ≡ xs ++ rest_of.code → Reaches ys
    behind_it : WasReached m moves ys → Reaches ys

  label_so : (l : ℕ) → after_label l q.code ≡ expand f (after_label l m.code)
  label_so l = label_same l ∙ label_is m moves l

  handler_so : (l : ℕ) → from_handler l q.code ≡ expand f (from_handler l m.code)
  handler_so l = handler_same l ∙ handler_is m moves l

  at_first : {ys : List Instr} → ys ≡ rest_of.code → WasReached m moves ys
  at_first e = record { rest = m.code; ending = all; same = e; reached = at_entry }

  step_on : {j : Instr} {zs : List Instr} → Reaches (j ∷ zs) → (t : Target) → OneOf t (targets j.op) → Reaches (code_at q.code zs t)
  step_on (behind_it b) t o = behind_it (reached_on m moves q.code label_so handler_so b t o)
  step_on (in_front at_entry_of.front_end e) t o = behind_it (reached_on m moves q.code label_so handler_so (at_first e) t o)
  step_on {j} {zs} (in_front (at_entry_of.front_one {i = i} {next = next} s h k) e) t o =
      subst (λ t. Reaches (code_at q.code zs t))
      (sym (only_on (may i next s h) (subst (λ (i : Instr). OneOf t (targets i.op)) (head_same e) o)))
      (in_front k (tail_same e))

  aside_on : {j : Instr} {zs : List Instr} (l : ℕ) (tries : List ℕ) → Reaches (j ∷ zs) → may_raise j.op ≡ true →
      tries_at (j ∷ zs) ≡ l ∷ tries → Reaches (from_handler l q.code)
  aside_on l tries (behind_it b) r h = behind_it (reached_aside m moves q.code label_so handler_so l tries b r h)
  aside_on l tries (in_front at_entry_of.front_end e) r h = behind_it (reached_aside m moves q.code label_so handler_so l tries (at_first e) r h)
  aside_on l tries (in_front (at_entry_of.front_one {i = i} {next = next} s t k) e) r h =
      absurd (no_raise (may i next s t) (subst (λ (i : Instr). may_raise i.op ≡ true) (head_same e) r))

  reached_back : {ys : List Instr} → Reached q ys → Reaches ys
  reached_back at_entry = in_front (at_entry_of.whole_front m moves may) refl
  reached_back (by_step r (goes t o)) = step_on (reached_back r) t o
  reached_back (by_raise r (raises {l = l} {tries = tries} e h)) = aside_on l tries (reached_back r) e h

  pub no_addr_back : ((r : Reg) → IsRegister m r → IsMade r.number → r.comp ≡ comp.Addr → ⊥) → NoAddrLive m →
      NoAddrLive (hoisted moves m)
  no_addr_back apart none =
      record {
        none = λ j zs r frame x one addr v.
            by j zs (reached_back r) frame x (was_register x one) addr v (at_entry_of.made_or_not m moves may x.number);
      }
    where
      main : (j : Instr) (zs : List Instr) → WasReached m moves (j ∷ zs) → passes_frame j.op ≡ true → (x : Reg) → IsRegister m x →
          x.comp ≡ comp.Addr → LiveAcross q x.number j zs → (IsMade x.number → ⊥) → ⊥
      main j zs b frame x one addr v free =
          let w = first_kept m moves b.rest b.ending j zs b.same in
          none.none j w.next (gone_reached m moves w.gone b.reached) frame x one addr (across_back w.next free w.ending w.same (across_same v))

      by : (j : Instr) (zs : List Instr) → Reaches (j ∷ zs) → passes_frame j.op ≡ true → (x : Reg) → IsRegister m x →
          x.comp ≡ comp.Addr → LiveAcross q x.number j zs → IsMade x.number ⊎ (IsMade x.number → ⊥) → ⊥
      by j zs b frame x one addr v (inl h) = apart x one h addr
      by j zs (behind_it b) frame x one addr v (inr free) = main j zs b frame x one addr v free
      by j zs (in_front at_entry_of.front_end e) frame x one addr v (inr free) = main j zs (at_first e) frame x one addr v free
      by j zs (in_front (at_entry_of.front_one {i = i} {next = next} s h k) e) frame x one addr v (inr free) =
          both_ways _ (pure_no_frame (pure_of _ (at_entry_of.may_go_so m moves may (may i next s h)))) (subst (λ (i : Instr). passes_frame i.op ≡ true) (head_same e) frame)
