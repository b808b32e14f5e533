-- Bounds on the numbers of registers.
use Rattle.std.proofs.Common.{◌≡◌, ℕ, zero, suc, ◌+◌, ◌<◌, ◌≤◌, Bool, true, false, cond, not, ◌&&◌, ◌⊎◌, inl, inr, ⊎_elim, List, [], ◌∷◌, ◌++◌, length, max, take, refl, sym, ap, ◌∙◌, subst, arith}
use Rattle.std.specs.List.{All, Contains}
use Rattle.std.specs.Prelude.{slice_index_or}
use Rattle.std.proofs.lemmas.List.{append-nil, map-append, take_more}
use Rattle.std.proofs.lemmas.List.Elements.{Contains-get_or, Contains-append_cases, All-cons, All-nil, Contains-append_left, Contains-append_right}
use Rattle.mach_ir.specs.Meaning.{Destroyed, Nothing, Temporaries, Everything, destroyed_by, is_destroyed, is_at_one_of, killed_among, killed_by, killed, registers_written}
use Rattle.mach_ir.specs.Walks.{InCode, in_args, in_results, further, IsRegister, is_param, is_colour, is_in_code}
use Rattle.mach_ir.specs.declared.reg.Reg.{Reg}
use Rattle.mach_ir.specs.declared.mach.Instr.{Instr}
use Rattle.mach_ir.specs.declared.mach.Mach.{Mach}
use Rattle.mach_laws.specs.Graph.{numbers_of_registers}
use Rattle.bs_words.proofs.Lists.{none_in, first_in, later_in, in_cons}
use Rattle.liveness.specs.Numbers.{IsLeastAbove, IsAboveCode}

-- ---- lists

pub numbers_below : (bound : ℕ) (rs : List Reg) → ((r : Reg) → Contains rs r → r.number < bound) →
    All (λ n. n < bound) (numbers_of_registers rs)
numbers_below bound [] h = All-nil (λ n. n < bound)
numbers_below bound (r ∷ rs) h =
    All-cons (λ n. n < bound) r.number (numbers_of_registers rs) (h r (first_in r rs)) (numbers_below bound rs (λ q c. h q (later_in r q rs c)))

-- ---- what an operation destroys is at a colour

among_killed : (cs : List Reg) (d : Destroyed) (rs : List Reg) (r : Reg) → Contains (killed_among cs d rs) r → Contains cs r
among_killed [] d rs r c = c
among_killed (x ∷ cs) d rs r c =
    by (is_destroyed d x.loc && not (is_at_one_of x.loc rs)) (λ h. among_killed cs d rs r h) c
  where
    by : (b : Bool) → (Contains (killed_among cs d rs) r → Contains cs r) →
        Contains (cond b (x ∷ killed_among cs d rs) (killed_among cs d rs)) r → Contains (x ∷ cs) r
    by true old c =
        ⊎_elim (λ e. subst (Contains (x ∷ cs)) e (first_in x cs)) (λ h. later_in x r cs (old h))
        (in_cons x r (killed_among cs d rs) c)
    by false old c = later_in x r cs (old c)

nothing_killed : (cs rs : List Reg) → killed_among cs Nothing rs ≡ []
nothing_killed [] rs = refl
nothing_killed (x ∷ cs) rs = nothing_killed cs rs

pub nothing_added : (found : List ℕ) (cs : List Reg) (d : Destroyed) (rs : List Reg) → d ≡ Nothing →
    found ≡ found ++ numbers_of_registers (killed_among cs d rs)
nothing_added found cs d rs e =
    sym (ap (λ ks. found ++ numbers_of_registers ks) (ap (λ d. killed_among cs d rs) e ∙ nothing_killed cs rs) ∙ append-nil found)

-- the case of an operation that destroys nothing is no exception
pub killed_is : (cs : List Reg) (d : Destroyed) (rs : List Reg) → killed_by cs d rs ≡ killed_among cs d rs
killed_is cs Nothing rs = sym (nothing_killed cs rs)
killed_is cs Temporaries rs = refl
killed_is cs Everything rs = refl

pub killed_is_colour : (m : Mach) (i : Instr) (r : Reg) → Contains (killed m i) r → Contains m.colours r
killed_is_colour m i r c =
    among_killed m.colours (destroyed_by i.op) i.results r
    (subst (λ rs. Contains rs r) (killed_is m.colours (destroyed_by i.op) i.results) c)

-- ---- one instruction more

pub code_more : (b d : ℕ) (code : List Instr) (k : ℕ) (i : Instr) → k < length code → slice_index_or code k i ≡ i → b ≤ d →
    ((r : Reg) → InCode r (take k code) → r.number < b) → ((r : Reg) → Contains i.args r → r.number < d) →
    ((r : Reg) → Contains i.results r → r.number < d) → (r : Reg) → InCode r (take (suc k) code) → r.number < d
code_more b d [] k i lt e le old args results r c = absurd (omega (arith, lt))
code_more b d (j ∷ is) zero i lt e le old args results r c = by c
  where
    by : InCode r (j ∷ []) → r.number < d
    by (in_args c) = args r (subst (λ (i : Instr). Contains i.args r) e c)
    by (in_results c) = results r (subst (λ (i : Instr). Contains i.results r) e c)
    by (further c) = elim c [ ]
code_more b d (j ∷ is) (suc k) i lt e le old args results r c =
    by (λ h. code_more b d is k i (omega (arith, lt)) e le (λ q h. old q (further h)) args results r h) c
  where
    less : (x : ℕ) → x < b → b ≤ d → x < d
    less x h g = omega (arith, h, g)

    by : (InCode r (take (suc k) is) → r.number < d) → InCode r (j ∷ take (suc k) is) → r.number < d
    by deeper (in_args c) = less r.number (old r (in_args c)) le
    by deeper (in_results c) = less r.number (old r (in_results c)) le
    by deeper (further c) = deeper c

-- ---- what is written

pub written_is : (m : Mach) (i : Instr) (results colours : List Reg) (found all made : List ℕ) → results ≡ i.results →
    colours ≡ m.colours → found ≡ numbers_of_registers results →
    all ≡ found ++ numbers_of_registers (killed_among colours (destroyed_by i.op) results) → made ≡ all → made ≡ numbers_of_registers (registers_written m i)
written_is m i results colours found all made e g f a h =
    h ∙ a
    ∙ ap (λ ns. ns ++ numbers_of_registers (killed_among colours (destroyed_by i.op) results)) (f ∙ ap numbers_of_registers e)
    ∙ ap (λ rs. numbers_of_registers i.results ++ numbers_of_registers rs)
    (ap (λ cs. killed_among cs (destroyed_by i.op) results) g
    ∙ ap (killed_among m.colours (destroyed_by i.op)) e ∙ sym (killed_is m.colours (destroyed_by i.op) i.results))
    ∙ sym (map-append (λ (r : Reg). r.number) i.results (killed m i))

-- ---- the least number above those of registers so far

member : (P : Reg → Type 0) (xs : List Reg) (q : Reg) → All P xs → Contains xs q → P q
member P xs q all c = subst P c.2 (all c.0 q c.1)

pub members : (P : Reg → Type 0) (xs : List Reg) → ((q : Reg) → Contains xs q → P q) → All P xs
members P xs h = λ k d lt. h (slice_index_or xs k d) (Contains-get_or xs k d lt)

pub above_step : (bound old new next k : ℕ) (rs : List Reg) (d : Reg) → k < length rs → IsLeastAbove bound (take k rs) old →
    next ≡ (slice_index_or rs k d).number + 1 → new ≡ max old next → IsLeastAbove bound (take (k + 1) rs) new
above_step bound old new next k rs d lt before e greatest =
    let low = before.above in
    record {
      above = omega (arith, low, greatest);
      all = members (λ (r : Reg). r.number < new) (take (k + 1) rs) (λ q c. by q (Contains-append_cases (take k rs) (x ∷ []) q (subst (λ xs. Contains xs q) taken c)));
      least = λ b le small.
          let here_less : x.number < b = member (λ (r : Reg). r.number < b) (take (k + 1) rs) x small
          (subst (λ xs. Contains xs x) (sym taken) (Contains-append_right (take k rs) (x ∷ []) x (first_in x []))) in
          let was = before.least b le
          (members (λ (r : Reg). r.number < b) (take k rs)
          (λ q c.
          member (λ (r : Reg). r.number < b) (take (k + 1) rs) q small
          (subst (λ xs. Contains xs q) (sym taken) (Contains-append_left (take k rs) (x ∷ []) q c)))) in
          smaller b here_less was;
    }
  where
    x : Reg
    x = slice_index_or rs k d

    taken : take (k + 1) rs ≡ take k rs ++ x ∷ []
    taken = take_more rs k d lt

    next_is : next ≡ x.number + 1
    next_is = e

    less_old : (n : ℕ) → n < old → n < new
    less_old n h = omega (arith, h, greatest)

    less_next : (n : ℕ) → next ≡ n + 1 → n < new
    less_next n h = omega (arith, h, greatest)

    smaller : (b : ℕ) → x.number < b → old ≤ b → new ≤ b
    smaller b h le = by_number x.number h next_is
      where
        by_number : (n : ℕ) → n < b → next ≡ n + 1 → new ≤ b
        by_number n h g = omega (arith, h, g, le, greatest)

    by : (q : Reg) → Contains (take k rs) q ⊎ Contains (x ∷ []) q → q.number < new
    by q (inl c) = less_old q.number (member (λ (r : Reg). r.number < old) (take k rs) q before.all c)
    by q (inr c) =
        ⊎_elim (λ s. subst (λ (q : Reg). q.number < new) s (less_next x.number next_is)) (λ n. absurd (none_in q n)) (in_cons x q [] c)

longer : (code : List Instr) (k : ℕ) (r : Reg) → InCode r (take k code) → InCode r (take (suc k) code)
longer [] zero r c = c
longer [] (suc k) r c = c
longer (i ∷ is) zero r c = elim c [ ]
longer (i ∷ is) (suc k) r c = by c (λ h. longer is k r h)
  where
    by : InCode r (i ∷ take k is) → (InCode r (take k is) → InCode r (take (suc k) is)) → InCode r (i ∷ take (suc k) is)
    by (in_args c) ih = in_args c
    by (in_results c) ih = in_results c
    by (further c) ih = further (ih c)

last_args : (code : List Instr) (k : ℕ) (i : Instr) (r : Reg) → k < length code → slice_index_or code k i ≡ i → Contains i.args r →
    InCode r (take (suc k) code)
last_args [] k i r lt e c = absurd (omega (arith, lt))
last_args (j ∷ is) zero i r lt e c = in_args (subst (λ (i : Instr). Contains i.args r) (sym e) c)
last_args (j ∷ is) (suc k) i r lt e c = further (last_args is k i r (omega (arith, lt)) e c)

last_results : (code : List Instr) (k : ℕ) (i : Instr) (r : Reg) → k < length code → slice_index_or code k i ≡ i → Contains i.results r →
    InCode r (take (suc k) code)
last_results [] k i r lt e c = absurd (omega (arith, lt))
last_results (j ∷ is) zero i r lt e c = in_results (subst (λ (i : Instr). Contains i.results r) (sym e) c)
last_results (j ∷ is) (suc k) i r lt e c = further (last_results is k i r (omega (arith, lt)) e c)

pub code_step : (bound old mid new k : ℕ) (code : List Instr) (i : Instr) (args results : List Reg) → k < length code →
    i ≡ slice_index_or code k i → args ≡ i.args → results ≡ i.results → IsAboveCode bound (take k code) old → IsLeastAbove old args mid →
    IsLeastAbove mid results new → IsAboveCode bound (take (k + 1) code) new
code_step bound old mid new k code i args results lt at e h before one two =
    let same : suc k ≡ k + 1 = omega arith in
    let zero_one = before.above in
    let first = one.above in
    let second = two.above in
    subst (λ k. IsAboveCode bound (take k code) new) same
    (record {
      above = omega (arith, zero_one, first, second);
      all = code_more old new code k i lt (sym at) (omega (arith, first, second)) before.all
          (λ q d. less q.number (member (λ (r : Reg). r.number < mid) args q one.all (subst (λ rs. Contains rs q) (sym e) d)))
          (λ q d. member (λ (r : Reg). r.number < new) results q two.all (subst (λ rs. Contains rs q) (sym h) d));
      least = λ b le small.
          let was = before.least b le (λ r c. small r (longer code k r c)) in
          let then = one.least b was
          (members (λ (r : Reg). r.number < b) args
          (λ q d. small q (last_args code k i q lt (sym at) (subst (λ rs. Contains rs q) e d)))) in
          two.least b then
          (members (λ (r : Reg). r.number < b) results
          (λ q d. small q (last_results code k i q lt (sym at) (subst (λ rs. Contains rs q) h d))));
    })
  where
    less : (x : ℕ) → x < mid → x < new
    less x h = let second = two.above in omega (arith, h, second)

pub above_begun : (bound : ℕ) (rs : List Reg) → IsLeastAbove bound (take 0 rs) bound
above_begun bound rs =
    record {
      above = omega arith;
      all = λ k d lt. absurd (none rs k lt);
      least = λ b le h. le;
    }
  where
    none : (rs : List Reg) (k : ℕ) → k < length (take 0 rs) → ⊥
    none [] k lt = omega (arith, lt)
    none (r ∷ rs) k lt = omega (arith, lt)

pub code_begun : (bound : ℕ) (code : List Instr) → IsAboveCode bound (take 0 code) bound
code_begun bound code =
    record {
      above = omega arith;
      all = λ r c. absurd (none code r c);
      least = λ b le h. le;
    }
  where
    none : (code : List Instr) (r : Reg) → InCode r (take 0 code) → ⊥
    none [] r c = elim c [ ]
    none (i ∷ is) r c = elim c [ ]

-- the number above all of a function, from those of its parts
pub first_least : (m : Mach) (params colours free : ℕ) → IsLeastAbove 0 m.params params → IsLeastAbove params m.colours colours →
    IsAboveCode colours m.code free → (b : ℕ) → ((r : Reg) → IsRegister m r → r.number < b) → free ≤ b
first_least m params colours free one two three b h =
    three.least b
    (two.least b (one.least b (omega arith) (members (λ (r : Reg). r.number < b) m.params (λ q c. h q (is_param c))))
    (members (λ (r : Reg). r.number < b) m.colours (λ q c. h q (is_colour c))))
    (λ r c. h r (is_in_code c))
