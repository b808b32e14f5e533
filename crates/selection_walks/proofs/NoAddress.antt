-- No address is live after a frame point of selected code that is reached, where none is in the text.
use Rattle.std.proofs.Common.{◌≡◌, ℕ, suc, ◌+◌, ◌<◌, Bool, true, false, not, ◌⊎◌, inl, inr, ⊎_elim, List, [], ◌∷◌, ◌++◌, Option, Some, None, refl, sym, ap, ◌∙◌, subst, arith}
use Rattle.std.specs.Prelude.{length, Contains}
use Rattle.std.proofs.lemmas.Bool.{true≢false}
use Rattle.bs_words.specs.declared.types.Comp.TheVariants as comp
use Rattle.bs_words.specs.declared.types.Ty.{Ty}
use Rattle.bs_words.specs.declared.types.Ty.TheVariants as ty
use Rattle.bs_fault.specs.Reported.{Faultless}
use Rattle.cmm_tree.specs.Symbols.{DefinedSymbol}
use Rattle.cmm_tree.specs.Tree.{FunctionTree}
use Rattle.cmm_types.proofs.Containing.{contains_head, contains_tail}
use Rattle.cmm_types.specs.Gathered.{faults_in, function_faults}
use Rattle.cmm_types.specs.Types.{body_type, result_of, type_without_float, with_parameters}
use Rattle.walk_tables.specs.AddrLive.{IsLiveIn}
use Rattle.walk_tables.specs.Walks.{Evaluates, with_slots, walk_tasks}
use Rattle.mach_ir.specs.Meaning.{passes_frame, tries_at}
use Rattle.mach_ir.specs.Walks.{AmongRegisters, first, later, Reached, at_entry, by_step, by_raise, Live, read, on, aside, LiveAcross, across_step, across_raise, IsRegister, is_in_code, NoAddrLive}
use Rattle.mach_ir.specs.declared.mach.Instr.{Instr}
use Rattle.mach_ir.specs.declared.mach.Mach.{Mach}
use Rattle.mach_ir.specs.declared.reg.Reg.{Reg}
use Rattle.selection_rules.specs.Instructions as emit
use Rattle.selection_rules.specs.Select.{NamedRegister, Label, scopes, fresh_register, moves_all, params_from, with_params, seat, seats, return_code, is_no_value, selected, select}
use Rattle.selection_rules.specs.Select as select
use Rattle.mach_laws.specs.Expand.{Ending, all}
use Rattle.mach_laws.proofs.Among.{among_or_not}
use Rattle.mach_laws.proofs.Places.{stands_of, results_in}
use Rattle.mach_laws.proofs.Walking.{ending_leads, ending_raises}
use Rattle.selection_rules.proofs.Parts.{Placed, placed_in}
use Rattle.selection_rules.proofs.Endings.{ending_select, ending_moves}
use Rattle.selection_rules.proofs.Labels.{selected_labelled}
use Rattle.selection_laws.proofs.Accepting.{left, right}
use Rattle.selection_laws.specs.Fits.{Fits, FunctionFits}
use Rattle.selection_laws.proofs.WellFormed.{NumbersTell}
use Rattle.selection_walks.proofs.Phases.{Phase, Early, Bound, Passed, Off, off, not_yet, stays, writes, crosses, the_same, beyond, Written, here, there, written_among, Addresses, Ahead, ends, steps, strays, Past, read_here, kept_on, wrote_it, straight, Leaving, read_last, flew_off, leaves, Told, none_passed, none_bound, LiveEarly, live_early, early_walk}
use Rattle.selection_walks.proofs.Situations.{holds, Low, none_some, paired_more, none, unseen, untried, OutsOf, Sit, go, out, Wanted}
use Rattle.selection_walks.proofs.Floats.{has_one}
use Rattle.selection_walks.proofs.Operands.{Scene, of_claim}
use Rattle.selection_walks.proofs.Leavings.{holds_apart, params_row, params_paired, params_early, past_params}
use Rattle.selection_walks.proofs.Handlers.{scopes_with}
use Rattle.selection_walks.proofs.Claims.{claim}
use Rattle.selection_rules.proofs.Rows.{seats_length}

-- ---- places

addresses_of : (n : ℕ) (rs : List Reg) → ((q : Reg) → Contains rs q → q.number ≡ n → q.comp ≡ comp.Addr) → Addresses n rs
addresses_of n [] f = tt
addresses_of n (r ∷ rs) f = (f r (contains_head r rs), addresses_of n rs (λ q c. f q (contains_tail r rs q c)))

results_among : {n : ℕ} (ks rs : List Reg) → AmongRegisters n rs → AmongRegisters n (rs ++ ks)
results_among ks [] i = elim i [ ]
results_among ks (r ∷ rs) (first e) = first e
results_among ks (r ∷ rs) (later i) = later (results_among ks rs i)

-- ---- from the entry

module _ (m : Mach) (tells : NumbersTell m) (r : Reg) (is : IsRegister m r) (address : r.comp ≡ comp.Addr) where
  own : {i : Instr} {next : List Instr} → Ending (i ∷ next) m.code → Addresses r.number i.results
  own {i} e = addresses_of r.number i.results (λ q c z. ap (λ (x : Reg). x.comp) (sym (tells r q is (is_in_code (results_in (stands_of e) c)) (sym z))) ∙ address)

  record SomeAhead (p : Phase) (code : List Instr) : Type 0 where
    count : ℕ
    ahead : Ahead m r.number count p code

  live_ahead : {code : List Instr} → Live m r.number code → Ending code m.code → SomeAhead Passed code
  live_ahead (read a) e = record { count = 0; ahead = ends a }
  live_ahead (on {i = i} free l w) e = let x = live_ahead w (ending_leads l e) in record {
    count = suc x.count;
    ahead = steps (own e)
        (stays (λ a. free (results_among _ i.results a))) l x.ahead;
  }
  live_ahead (aside z w) e = let x = live_ahead w (ending_raises z) in record { count = suc x.count; ahead = strays the_same z x.ahead }

  reached_ending : {code : List Instr} → Reached m code → Ending code m.code
  reached_ending at_entry = all
  reached_ending (by_step z l) = ending_leads l (reached_ending z)
  reached_ending (by_raise z l) = ending_raises l

  across : {i : Instr} {next : List Instr} → Ending (i ∷ next) m.code → passes_frame i.op ≡ true → LiveAcross m r.number i next → SomeAhead Bound (i ∷ next)
  across {i} e pf (across_step free l w) = let x = live_ahead w (ending_leads l e) in record {
    count = suc x.count;
    ahead = steps (own e)
        (crosses pf (λ a. free (results_among _ i.results a))) l x.ahead;
  }
  across e pf (across_raise z w) = let x = live_ahead w (ending_raises z) in record { count = suc x.count; ahead = strays (beyond pf) z x.ahead }

  from_entry : {code : List Instr} → Reached m code → SomeAhead Bound code ⊎ SomeAhead Early code → SomeAhead Bound m.code ⊎ SomeAhead Early m.code
  from_entry at_entry x = x
  from_entry (by_step z l) (inr x) = from_entry z (inr (record { count = suc x.count; ahead = steps (own (reached_ending z)) not_yet l x.ahead }))
  from_entry (by_step {i = i} z l) (inl x) =
      from_entry z
      (⊎_elim (λ a. inr (record { count = suc x.count; ahead = steps (own (reached_ending z)) (writes a) l x.ahead }))
      (λ f. inl (record { count = suc x.count; ahead = steps (own (reached_ending z)) (stays f) l x.ahead }))
      (among_or_not r.number i.results))
  from_entry (by_raise z l) (inr x) = from_entry z (inr (record { count = suc x.count; ahead = strays the_same l x.ahead }))
  from_entry (by_raise z l) (inl x) = from_entry z (inl (record { count = suc x.count; ahead = strays the_same l x.ahead }))

-- ---- the moves of the entry, which read nothing that is followed in the last phase

data Through (m : Mach) (n k : ℕ) (to : List Reg) (next : List Instr) : Phase → Type 0 where
  through : {p : Phase} → Off p (AmongRegisters n to) → Ahead m n k p next → Through m n k to next p
  wrote : Written n to → Ahead m n k Bound next → Through m n k to next Early

move_through : {m : Mach} {n k : ℕ} {a d : Reg} {to : List Reg} {next : List Instr} {p : Phase} → (p ≡ Passed → n ≡ a.number → ⊥) →
    Through m n k to (emit.move a d ∷ next) p →
    Through m n k (d ∷ to) next p
move_through {m} {n} {k} {a} {d} {to} {next} np (through {p = p} o y) = by np o (straight refl refl refl y)
  where
    either : (AmongRegisters n to → ⊥) → (AmongRegisters n (d ∷ []) → ⊥) → AmongRegisters n (d ∷ to) → ⊥
    either f g (first e) = g (first e)
    either f g (later i) = f i

    one : Written n (d ∷ []) → Written n (d ∷ to)
    one (here e c) = here e c
    one (there i) = elim (written_among i) [ ]

    both_off : (p : Phase) → Off p (AmongRegisters n to) → Off p (AmongRegisters n (d ∷ [])) → Off p (AmongRegisters n (d ∷ to))
    both_off Early f g = tt
    both_off Bound f g = either f g
    both_off Passed f g = either f g

    its_number : AmongRegisters n (a ∷ []) → n ≡ a.number
    its_number (first e) = sym e
    its_number (later i) = elim i [ ]

    by : {p : Phase} → (p ≡ Passed → n ≡ a.number → ⊥) → Off p (AmongRegisters n to) → Past m n k (emit.move a d) next p → Through m n k (d ∷ to) next p
    by np o (read_here i) = absurd (np refl (its_number i))
    by np o (kept_on {p = p} c g z) = through (both_off p o g) z
    by np o (wrote_it g z) = wrote (one g) z
move_through {m} {n} {k} {a} {d} {to} {next} np (wrote w y) = by (straight refl refl refl y)
  where
    by : Past m n k (emit.move a d) next Bound → Through m n k (d ∷ to) next Early
    by (kept_on c g z) = wrote (there w) z

moves_through : {m : Mach} {n k : ℕ} {p : Phase} (from to : List Reg) (next : List Instr) → length from ≡ length to → (p ≡ Passed → AmongRegisters n from → ⊥) →
    Ahead m n k p (moves_all from to next) → Through m n k to next p
moves_through {p = p} [] [] next e np y = through (off p (λ a. elim a [ ])) y
moves_through [] (d ∷ to) next e np y = absurd (ne e)
  where
    ne : 0 ≡ suc (length to) → ⊥
    ne e = omega (arith, e)
moves_through (a ∷ from) [] next e np y = absurd (ne e)
  where
    ne : suc (length from) ≡ 0 → ⊥
    ne e = omega (arith, e)
moves_through (a ∷ from) (d ∷ to) next e np y =
    move_through (λ q z. np q (first (sym z))) (moves_through from to (emit.move a d ∷ next) (omega (arith, e)) (λ q i. np q (later i)) y)

-- ---- the end

end_leaves : {m : Mach} {n k : ℕ} {next : List Instr} {p : Phase} (rs : List Reg) → Off p (AmongRegisters n rs) → Ahead m n k p (emit.give_back rs ∷ next) → ⊥
end_leaves {m} {n} {k} {next} rs o y = by o (leaves refl refl y)
  where
    by : {p : Phase} → Off p (AmongRegisters n rs) → Leaving m n k (emit.give_back rs) next p → ⊥
    by o (read_last a) = o a
    by o (flew_off mr t z) = true≢false (sym mr)

end_bound : {m : Mach} {n k : ℕ} {next : List Instr} (rs : List Reg) → Ahead m n k Bound (emit.give_back rs ∷ next) → ⊥
end_bound {m} {n} {k} {next} rs y = by (leaves refl refl y)
  where
    by : Leaving m n k (emit.give_back rs) next Bound → ⊥
    by (flew_off mr t z) = true≢false (sym mr)

module _ (m : Mach) (n : ℕ) where
  no_outs : {k : ℕ} {w : Option ℕ} → OutsOf m n k w [] [] []
  no_outs = record { raised = untried; exits = λ label t e. absurd (nowhere t e) }
    where
      nowhere : (t : Label) → None ≡ Some t → ⊥
      nowhere t e = cc

  nothing_given : {k : ℕ} {w : Option ℕ} (D : List Reg) → Sit m n D k w [] [] (emit.give_back [] ∷ []) []
  nothing_given D =
      record {
        cont = λ placed p o y. absurd (end_leaves [] (off p (λ a. elim a [ ])) y);
        given = λ placed f y. absurd (end_bound [] y);
        outs = no_outs;
      }

  one_given : {k : ℕ} {w : Option ℕ} (d s : Reg) → Sit m n (d ∷ []) k w [] [] (emit.move d s ∷ emit.give_back (s ∷ []) ∷ []) []
  one_given {k} d s =
      record {
        cont = λ placed p o y. absurd (by o (straight refl refl refl y));
        given = λ placed f y. absurd (by_bound (straight refl refl refl y));
        outs = no_outs;
      }
    where
      by : {p : Phase} → Off p (AmongRegisters n (d ∷ [])) → Past m n k (emit.move d s) (emit.give_back (s ∷ []) ∷ []) p → ⊥
      by o (read_here a) = o a
      by o (kept_on c g z) = end_leaves (s ∷ []) g z
      by o (wrote_it g z) = end_bound (s ∷ []) z

      by_bound : Past m n k (emit.move d s) (emit.give_back (s ∷ []) ∷ []) Bound → ⊥
      by_bound (kept_on c g z) = end_bound (s ∷ []) z

  end_sit : {k : ℕ} {w : Option ℕ} (T : Ty) (d : Reg) (b : ℕ) → Sit m n (out m n (not (is_no_value T)) d) k w [] [] (return_code d b (result_of T)) []
  end_sit ty.NoValue d b = nothing_given []
  end_sit ty.Never d b = nothing_given (d ∷ [])
  end_sit ty.Int d b = one_given d (seat 0 b comp.Int)
  end_sit ty.Val d b = one_given d (seat 0 b comp.Val)
  end_sit ty.Addr d b = one_given d (seat 0 b comp.Addr)

end_tries : (T : Ty) (d : Reg) (b : ℕ) → tries_at (return_code d b (result_of T)) ≡ []
end_tries ty.NoValue d b = refl
end_tries ty.Never d b = refl
end_tries ty.Int d b = refl
end_tries ty.Val d b = refl
end_tries ty.Addr d b = refl

has_type : (T : Ty) (Q : Type 0) → (Q → T ≡ ty.NoValue) → not (is_no_value T) ≡ true → Q → ⊥
has_type ty.NoValue Q f e q = true≢false (sym e)
has_type ty.Never Q f e q = let z = f q in cc
has_type ty.Int Q f e q = let z = f q in cc
has_type ty.Val Q f e q = let z = f q in cc
has_type ty.Addr Q f e q = let z = f q in cc

wanted_if : (want : Bool) (m : Mach) (n : ℕ) (t : Ty) → (want ≡ true → t ≡ ty.NoValue → ⊥) → Wanted m n want t
wanted_if true m n t f = f refl
wanted_if false m n t f = tt

not_early : Early ≡ Passed → ⊥
not_early e = cc

not_bound : Bound ≡ Passed → ⊥
not_bound e = cc

module _ (defined : List ℕ → Option DefinedSymbol) (f : FunctionTree) (fits : FunctionFits f) (faultless : Faultless (function_faults defined f)) (n : ℕ) where
  abbrev m : Mach
  m = selected f

  abbrev T : Ty
  T = body_type f

  abbrev moved : ℕ
  moved = select.first_after_colours + length f.params

  abbrev params : List Reg
  params = params_from moved f.params

  abbrev b : ℕ
  b = moved + length f.params

  abbrev env : List NamedRegister
  env = with_params f.params params []

  abbrev body_code : List Instr
  body_code = select env [] (not (is_no_value T)) true (fresh_register b T) (suc (suc b)) f.body (return_code (fresh_register b T) (suc b) (result_of T))

  abbrev w : Option ℕ
  w = holds n params 0 None

  low_none : Low n None moved 0
  low_none s e = none_some s e

  low : Low n w (suc (suc b)) (length f.params)
  low s e = ⊎_elim (λ q. none_some s q) (λ q. let u = q.1 in let v = q.3 in (omega (arith, v), omega (arith, u)))
      ((params_row n moved 0 f.params).values None s low_none e)

  low_b : n ≡ b → w ≡ None
  low_b q = by w refl
    where
      by : (o : Option ℕ) → w ≡ o → w ≡ None
      by None e = e
      by (Some s) e = ⊎_elim (λ z. none_some s z) (λ z. let v = z.3 in absurd (omega (arith, v, q))) ((params_row n moved 0 f.params).values None s low_none e)

  scene : Scene m n w (suc (suc b)) (length f.params) env (with_slots 0 f.params []) [] []
  scene = record {
    low = low;
    paired = paired_more (omega arith) (λ s e. e) (λ s e. inl e) (params_paired m n f.params moved 0 None [] [] low_none none);
    seen = unseen;
  }

  same : with_parameters f.params [] ≡ scopes env
  same = sym (scopes_with f.params moved [])

  faults : Faultless (faults_in defined (with_parameters f.params []) [] f.body)
  faults = left (right faultless)

  wanted : Wanted m n (not (is_no_value T)) (type_without_float (with_parameters f.params []) f.body)
  wanted = wanted_if (not (is_no_value T)) m n (type_without_float (with_parameters f.params []) f.body)
      (λ e. has_one defined (with_parameters f.params []) [] f.body faults (λ q. has_type T (T ≡ ty.NoValue) (λ z. z) e q))

  body_sit : {k : ℕ} → Sit m n [] k w [] [] body_code (Evaluates (with_slots 0 f.params []) (length f.params) f.body ∷ [])
  body_sit =
      of_claim m n defined (not (is_no_value T)) f.body (claim m n defined (selected_labelled f) f.body (not (is_no_value T))) (not (is_no_value T)) true
      (fresh_register b T) scene (subst (λ sc. Faultless (faults_in defined sc [] f.body)) same faults) (subst (λ sc. Fits sc f.body) same fits.body)
      (subst (λ sc. Wanted m n (not (is_no_value T)) (type_without_float sc f.body)) same wanted) low_b (omega arith) (end_sit m n T (fresh_register b T) (suc b))

  placed : Placed m [] body_code
  placed =
      placed_in (ending_moves (seats 0 select.first_after_colours params) params body_code)
      (record {
        ending = all;
        caught = (ending_moves (seats 0 select.first_after_colours params) params body_code).tries ∙
            (ending_select env [] (not (is_no_value T)) true (fresh_register b T) (suc (suc b)) f.body (return_code (fresh_register b T) (suc b) (result_of T))).tries ∙ end_tries T
            (fresh_register b T) (suc b);
      })

  no_slot : (s : ℕ) → None ≡ Some s → s < 0
  no_slot s e = none_some s e

  through_told : {k : ℕ} {p : Phase} → Through m n k params body_code p → Told p None (walk_tasks f)
  through_told (wrote z y) = params_early None None moved 0 f.params z (go m n body_sit placed Bound y)
  through_told (through {p = Early} o y) = past_params 0 f.params no_slot (Rattle.selection_walks.proofs.Phases.any_early (go m n body_sit placed Early y))
  through_told (through {p = Bound} o y) = past_params 0 f.params no_slot (subst
      (λ v. Told Bound v (Evaluates (with_slots 0 f.params []) (length f.params) f.body ∷ [])) (holds_apart params 0 None o) (go m n body_sit placed Bound y))
  through_told (through {p = Passed} o y) = past_params 0 f.params no_slot (subst
      (λ v. Told Passed v (Evaluates (with_slots 0 f.params []) (length f.params) f.body ∷ [])) (holds_apart params 0 None o) (go m n body_sit placed Passed y))

  pub entry_told : {k : ℕ} (p : Phase) → (p ≡ Passed → AmongRegisters n (selected f).params → ⊥) → Ahead m n k p (selected f).code → Told p None (walk_tasks f)
  entry_told p np y = through_told (moves_through (seats 0 select.first_after_colours params) params body_code (seats_length 0 select.first_after_colours params) np y)

live_in : (f : FunctionTree) → ((b p u : ℕ) → IsLiveIn f b p u → ⊥) → LiveEarly (walk_tasks f) → ⊥
live_in f never (live_early before es fs s b p u w x y) = never b p u
    (record { slot = s; before = before; until_point = es; until_use = fs; walk = w; kept_until_point = x; kept_until_use = y })

-- Where the text has no fault of addresses, no addr is live after a frame point that a walk of its code reaches.
pub selected_no_addr : (defined : List ℕ → Option DefinedSymbol) (f : FunctionTree) → FunctionFits f → Faultless (function_faults defined f) →
    NumbersTell (selected f) → ((b p u : ℕ) → IsLiveIn f b p u → ⊥) → NoAddrLive (selected f)
selected_no_addr defined f fits faultless tells never =
    record {
      none = λ i next reached pf r is address live.
          ⊎_elim (λ x. none_bound (entry_told defined f fits faultless r.number Bound (λ e i. not_bound e) x.ahead))
          (λ x. live_in f never (early_walk (entry_told defined f fits faultless r.number Early (λ e i. not_early e) x.ahead)))
          (from_entry (selected f) tells r is address reached
          (inl (across (selected f) tells r is address (reached_ending (selected f) tells r is address reached) pf live)));
    }

-- ---- what is live at the entry

free_addresses : (n : ℕ) (rs : List Reg) → (AmongRegisters n rs → ⊥) → Addresses n rs
free_addresses n [] free = tt
free_addresses n (r ∷ rs) free = (λ e. absurd (free (first e)), free_addresses n rs (λ i. free (later i)))

-- what is read before it is written is ahead in the last phase, whatever it holds
read_ahead : {m : Mach} {n : ℕ} {code : List Instr} → Live m n code → (k : ℕ) × Ahead m n k Passed code
read_ahead (read a) = (0, ends a)
read_ahead {n = n} (on {i = i} free l live) =
    let x = read_ahead live in
    let kept : AmongRegisters n i.results → ⊥ = λ a. free (results_among _ i.results a) in
    (suc x.0, steps (free_addresses n i.results kept) (stays kept) l x.1)
read_ahead (aside z live) = let x = read_ahead live in (suc x.0, strays the_same z x.1)

-- Only parameters are live at the entry: whatever else is read has been written before, on every walk.
pub selected_starts : (defined : List ℕ → Option DefinedSymbol) (f : FunctionTree) → FunctionFits f → Faultless (function_faults defined f) →
    (n : ℕ) → Live (selected f) n (selected f).code → AmongRegisters n (selected f).params
selected_starts defined f fits faultless n live =
    ⊎_elim (λ a. a) (λ free. absurd (none_passed (entry_told defined f fits faultless n Passed (λ e i. free i) (read_ahead live).1)))
    (among_or_not n (selected f).params)
