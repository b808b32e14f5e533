-- What is live in the result is live in the function, or goes to an open allocation.
use Rattle.std.proofs.Common.{◌≡◌, ℕ, suc, Bool, true, false, cond, ◌⊎◌, inl, inr, ⊎_elim, List, [], ◌∷◌, ◌++◌, length, Option, Some, None, refl, sym, ap, ◌∙◌, subst}
use Rattle.std.proofs.lemmas.Bool.{true≢false}
use Rattle.comballoc_rules.specs.Combined.{joins, bytes_past, open_past, Scanned, allocation, allocation_scanned, scanned_at, scan_for_combining, combined}
use Rattle.comballoc_rules.proofs.Scan.{nothing_goes}
use Rattle.comballoc_rules.proofs.Places.{open_at, piece, scanned, merged, scanned_next, scanned_is, merged_is, keeps_marks, is_code}
use Rattle.mach_ir.specs.Acts.{Target, On, At}
use Rattle.mach_ir.specs.Meaning.{killed, after_label, from_handler, tries_at, tries_past, has_label, is_handler_of, passes_frame}
use Rattle.mach_ir.specs.Placed.{is_straight}
use Rattle.mach_ir.specs.Walks.{AmongRegisters, OneOf, this, other, targets, may_raise, goes, raises, Writes, Live, read, on, aside}
use Rattle.mach_ir.specs.declared.blocks.NewBlock.{NewBlock}
use Rattle.mach_ir.specs.declared.op.Access.TheVariants as access
use Rattle.mach_ir.specs.declared.op.Op.TheVariants as op
use Rattle.mach_ir.specs.declared.op.Pure.{Pure}
use Rattle.bs_words.specs.declared.types.Chunk.{Chunk}
use Rattle.bs_words.proofs.Lists.{head_same, tail_same}
use Rattle.mach_ir.specs.declared.reg.Reg.{Reg}
use Rattle.mach_ir.specs.declared.mach.MachOp.{MachOp}
use Rattle.mach_ir.specs.declared.mach.MachOp.TheVariants as mach
use Rattle.mach_ir.specs.declared.mach.Instr.{Instr}
use Rattle.mach_ir.specs.declared.mach.Mach.{Mach}
use Rattle.mach_laws.specs.Expand.{expand, Ending, all}
use Rattle.mach_laws.proofs.Places.{ending_next, ending_label, ending_from_handler, label_expand, handler_expand, tries_expand}
use Rattle.mach_laws.proofs.Among.{none_among, left_among, right_among, split_among, among_or_not}
use Rattle.mach_laws.proofs.Instructions.{instr}

-- what may be within a straight run, and is no allocation
pub record Runs (i : Instr) : Type 0 where
  pub straight : is_straight i.op ≡ true
  pub label : (l : ℕ) → has_label l i.op ≡ false
  pub handler : (l : ℕ) → is_handler_of l i.op ≡ false
  pub kills : (m : Mach) → killed m i ≡ []
  pub frame : passes_frame i.op ≡ false
  pub apart : (blocks : List NewBlock) → i.op ≡ mach.Op (op.Access (access.Alloc blocks)) → ⊥

-- How an instruction and what stands for it come to each other, by what a scan makes of what is after it and from it on.
pub data View (i : Instr) (after : Scanned) : Scanned → List Instr → Type 0 where
  -- it stays, within its straight run
  runs : Runs i → View i after (record after { code = i ∷ after.code }) (i ∷ [])
  -- it ends the run, and nothing goes further back
  ends : is_straight i.op ≡ false → after.blocks ≡ [] → after.results ≡ [] →
      View i after (record after { code = i ∷ after.code }) (i ∷ [])
  joined : (blocks : List NewBlock) → i.op ≡ mach.Op (op.Access (access.Alloc blocks)) →
      View i after (allocation_scanned true blocks i.results after) []
  opened : (blocks : List NewBlock) → i.op ≡ mach.Op (op.Access (access.Alloc blocks)) →
      View i after (allocation_scanned false blocks i.results after)
      (allocation (blocks ++ after.blocks) (i.results ++ after.results) ∷ [])

one_two : (i k l : Instr) (xs : List Instr) → i ∷ [] ≡ k ∷ l ∷ xs → ⊥
one_two i k l xs e = cc

none_two : (k l : Instr) (xs : List Instr) → [] ≡ k ∷ l ∷ xs → ⊥
none_two k l xs e = cc

-- at most one instruction stands for one
pub not_long : {i : Instr} {after s : Scanned} {ys : List Instr} → View i after s ys → (k l : Instr) (xs : List Instr) →
    ys ≡ k ∷ l ∷ xs → ⊥
not_long {i} (runs x) k l xs e = one_two i k l xs e
not_long {i} (ends x b r) k l xs e = one_two i k l xs e
not_long (joined blocks x) k l xs e = none_two k l xs e
not_long (opened blocks x) k l xs e = one_two (allocation _ _) k l xs e

abbrev Viewed : Option ℕ → Instr → MachOp → List Instr → Type 0
Viewed held i f next =
    View i (scan_for_combining (open_past held f) next) (scanned_at held i f (scan_for_combining (open_past held f) next))
    (piece held i f (scan_for_combining (open_past held f) next))

viewed : (held : Option ℕ) (i : Instr) (next : List Instr) → Viewed held i i.op next
viewed held i next = by i.op i.args i.results
  where
    by_joins : (blocks : List NewBlock) (args results : List Reg) (b : Bool) (after : Scanned) →
        View (instr (mach.Op (op.Access (access.Alloc blocks))) args results) after (allocation_scanned b blocks results after)
        (cond b [] (allocation (blocks ++ after.blocks) (results ++ after.results) ∷ []))
    by_joins blocks args results true after = joined blocks refl
    by_joins blocks args results false after = opened blocks refl

    plain : {i : Instr} → is_straight i.op ≡ true → ((l : ℕ) → has_label l i.op ≡ false) → ((l : ℕ) → is_handler_of l i.op ≡ false) →
        ((m : Mach) → killed m i ≡ []) → passes_frame i.op ≡ false →
        ((blocks : List NewBlock) → i.op ≡ mach.Op (op.Access (access.Alloc blocks)) → ⊥) → Runs i
    plain s l h k p a = record { straight = s; label = l; handler = h; kills = k; frame = p; apart = a }

    no_pure : (f : Pure) (blocks : List NewBlock) → mach.Op (op.Pure f) ≡ mach.Op (op.Access (access.Alloc blocks)) → ⊥
    no_pure f blocks e = cc

    no_load : (k : Chunk) (offset : ℕ) (blocks : List NewBlock) →
        mach.Op (op.Access (access.Load k offset)) ≡ mach.Op (op.Access (access.Alloc blocks)) → ⊥
    no_load k offset blocks e = cc

    no_store : (k : Chunk) (offset : ℕ) (blocks : List NewBlock) →
        mach.Op (op.Access (access.Store k offset)) ≡ mach.Op (op.Access (access.Alloc blocks)) → ⊥
    no_store k offset blocks e = cc

    by : (f : MachOp) (args results : List Reg) → Viewed held (instr f args results) f next
    by (mach.Op (op.Pure f)) args results = runs (plain refl (λ l. refl) (λ l. refl) (λ m. refl) refl (no_pure f))
    by (mach.Op (op.Access (access.Load k offset))) args results =
        runs (plain refl (λ l. refl) (λ l. refl) (λ m. refl) refl (no_load k offset))
    by (mach.Op (op.Access (access.Store k offset))) args results =
        runs (plain refl (λ l. refl) (λ l. refl) (λ m. refl) refl (no_store k offset))
    by (mach.Op (op.Access (access.Alloc blocks))) args results =
        by_joins blocks args results (joins held blocks) (scan_for_combining (Some (bytes_past held blocks)) next)
    by (mach.Op (op.Calling f)) args results = ends refl (nothing_goes next).0 (nothing_goes next).1
    by (mach.Op (op.Leaving f)) args results = ends refl (nothing_goes next).0 (nothing_goes next).1
    by (mach.Mark f) args results = ends refl (nothing_goes next).0 (nothing_goes next).1

module _ (code : List Instr) where
  pub view : (i : Instr) (next : List Instr) → Ending (i ∷ next) code →
      View i (scanned code next) (scanned code (i ∷ next)) (merged code (length next) i)
  view i next e =
      subst (λ xs. View i (scanned code next) (scanned code (i ∷ next)) xs) (sym (merged_is code e))
      (subst
      (λ (s : Scanned). View i s (scanned_at (open_at (suc (length next)) None code) i i.op s)
      (piece (open_at (suc (length next)) None code) i i.op s) → View i (scanned code next) (scanned code (i ∷ next))
      (piece (open_at (suc (length next)) None code) i i.op (scanned code next)))
      (sym (scanned_next code e))
      (λ v. subst (λ (s : Scanned). View i (scanned code next) s (piece (open_at (suc (length next)) None code) i i.op (scanned code next)))
      (sym (scanned_is code e)) v)
      (viewed (open_at (suc (length next)) None code) i next))

  -- ---- where nothing is awaited

  no_alloc_label : (l : ℕ) (i : Instr) (blocks : List NewBlock) → i.op ≡ mach.Op (op.Access (access.Alloc blocks)) →
      has_label l i.op ≡ true → ⊥
  no_alloc_label l i blocks e h = true≢false (sym h ∙ ap (has_label l) e)

  no_alloc_handler : (l : ℕ) (i : Instr) (blocks : List NewBlock) → i.op ≡ mach.Op (op.Access (access.Alloc blocks)) →
      is_handler_of l i.op ≡ true → ⊥
  no_alloc_handler l i blocks e h = true≢false (sym h ∙ ap (is_handler_of l) e)

  pub calm_label : (l : ℕ) (rest : List Instr) → Ending rest code → (scanned code (after_label l rest)).results ≡ []
  calm_label l [] e = refl
  calm_label l (i ∷ is) e = by (has_label l i.op) refl (calm_label l is (ending_next e))
    where
      at_mark : {s t : Scanned} {xs : List Instr} → has_label l i.op ≡ true → View i s t xs → s.results ≡ []
      at_mark h (runs k) = absurd (true≢false (sym h ∙ k.label l))
      at_mark h (ends n b r) = r
      at_mark h (joined blocks g) = absurd (no_alloc_label l i blocks g h)
      at_mark h (opened blocks g) = absurd (no_alloc_label l i blocks g h)

      by : (b : Bool) → has_label l i.op ≡ b → (scanned code (after_label l is)).results ≡ [] →
          (scanned code (cond b is (after_label l is))).results ≡ []
      by true h ih = at_mark h (view i is e)
      by false h ih = ih

  pub calm_handler : (l : ℕ) (rest : List Instr) → Ending rest code → (scanned code (from_handler l rest)).results ≡ []
  calm_handler l [] e = refl
  calm_handler l (i ∷ is) e = by (is_handler_of l i.op) refl (calm_handler l is (ending_next e))
    where
      at_mark : {s t : Scanned} {xs : List Instr} → is_handler_of l i.op ≡ true → View i s t xs → t.results ≡ []
      at_mark h (runs k) = absurd (true≢false (sym h ∙ k.handler l))
      at_mark h (ends n b r) = r
      at_mark h (joined blocks g) = absurd (no_alloc_handler l i blocks g h)
      at_mark h (opened blocks g) = refl

      by : (b : Bool) → is_handler_of l i.op ≡ b → (scanned code (from_handler l is)).results ≡ [] →
          (scanned code (cond b (i ∷ is) (from_handler l is))).results ≡ []
      by true h ih = at_mark h (view i is e)
      by false h ih = ih

-- ---- back

module _ (m : Mach) where
  abbrev f : ℕ → Instr → List Instr
  f = merged m.code

  abbrev q : Mach
  q = combined m

  abbrev after : List Instr → List Reg
  after rest = (scanned m.code rest).results

  -- it goes to an open allocation, or is live
  abbrev pub Told : ℕ → List Instr → Type 0
  Told n rest = AmongRegisters n (after rest) ⊎ Live m n rest

  pub label_is : (l : ℕ) → after_label l q.code ≡ expand f (after_label l m.code)
  label_is l = ap (after_label l) (is_code m) ∙ label_expand f (keeps_marks m.code) l m.code

  pub handler_is : (l : ℕ) → from_handler l q.code ≡ expand f (from_handler l m.code)
  handler_is l = ap (from_handler l) (is_code m) ∙ handler_expand f (keeps_marks m.code) l m.code

  pub tries_here : (i : Instr) (next : List Instr) → tries_at (i ∷ expand f next) ≡ tries_at (i ∷ next)
  tries_here i next = ap (tries_past i.op) (tries_expand f (keeps_marks m.code) next)

  pub calm : {rest : List Instr} {n : ℕ} → after rest ≡ [] → Told n rest → Live m n rest
  calm {n = n} e t = ⊎_elim (λ a. none_among (subst (AmongRegisters n) e a)) (λ v. v) t

  nothing_there : (i : Instr) (xs : List Instr) → i ∷ xs ≡ [] → ⊥
  nothing_there i xs e = cc

  -- what an allocation writes
  pub alloc_writes : {n : ℕ} (i : Instr) (blocks : List NewBlock) → i.op ≡ mach.Op (op.Access (access.Alloc blocks)) →
      Writes m i n → AmongRegisters n i.results
  alloc_writes {n} i blocks e w =
      ⊎_elim (λ a. a) (λ a. none_among (subst (λ f. AmongRegisters n (killed m (instr f i.args i.results))) e a))
      (split_among n i.results (killed m i) w)

  pub alloc_goes : (i : Instr) (blocks : List NewBlock) → i.op ≡ mach.Op (op.Access (access.Alloc blocks)) → OneOf On (targets i.op)
  alloc_goes i blocks e = subst (λ f. OneOf On (targets f)) (sym e) this

  over : {n : ℕ} {i : Instr} {next : List Instr} (blocks : List NewBlock) → i.op ≡ mach.Op (op.Access (access.Alloc blocks)) →
      (AmongRegisters n i.results → ⊥) → Live m n next → Live m n (i ∷ next)
  over {i = i} blocks e free v = on (λ w. free (alloc_writes i blocks e w)) (goes On (alloc_goes i blocks e)) v

  -- before one that joins
  past_joined : {n : ℕ} {i : Instr} {next : List Instr} (blocks : List NewBlock) → i.op ≡ mach.Op (op.Access (access.Alloc blocks)) →
      Told n next → AmongRegisters n (i.results ++ after next) ⊎ Live m n (i ∷ next)
  past_joined {n} {i} {next} blocks e (inl a) = inl (right_among i.results (after next) a)
  past_joined {n} {i} {next} blocks e (inr v) =
      ⊎_elim (λ a. inl (left_among i.results (after next) a)) (λ free. inr (over blocks e free v)) (among_or_not n i.results)

  -- What is known of a walk of the result from an instruction on: what stands for it is that instruction.
  abbrev AtHead : ℕ → Instr → List Instr → Type 0
  AtHead n j zs =
      (i : Instr) (next : List Instr) → Ending (i ∷ next) m.code → zs ≡ expand f next →
      (s : Scanned) → View i (scanned m.code next) s (j ∷ []) → AmongRegisters n s.results ⊎ Live m n (i ∷ next)

  heads : (n : ℕ) (j : Instr) (zs : List Instr) → AtHead n j zs → (rest : List Instr) → Ending rest m.code →
      j ∷ zs ≡ expand f rest → Told n rest
  heads n j zs g [] e same = absurd (nothing_there j zs same)
  heads n j zs g (i ∷ next) e same = by (f (length next) i) refl (view m.code i next e) (λ k. heads n j zs g next (ending_next e) k)
    where
      one : (k : Instr) → (xs : List Instr) → xs ≡ k ∷ [] → f (length next) i ≡ xs →
          View i (scanned m.code next) (scanned m.code (i ∷ next)) xs → Told n (i ∷ next)
      one k xs x e' v =
          let whole : j ∷ zs ≡ k ∷ expand f next = same ∙ ap (λ ys. ys ++ expand f next) (e' ∙ x) in
          g i next e (tail_same whole) (scanned m.code (i ∷ next))
          (subst (λ ys. View i (scanned m.code next) (scanned m.code (i ∷ next)) ys)
          (x ∙ ap (λ k. k ∷ []) (sym (head_same whole))) v)

      by : (xs : List Instr) → f (length next) i ≡ xs → View i (scanned m.code next) (scanned m.code (i ∷ next)) (f (length next) i) →
          (j ∷ zs ≡ expand f next → Told n next) → Told n (i ∷ next)
      by xs e' v ih = at xs e' (subst (λ ys. View i (scanned m.code next) (scanned m.code (i ∷ next)) ys) e' v)
        where
          skipped : {s : Scanned} (ys : List Instr) → ys ≡ [] → View i (scanned m.code next) s ys → Told n next →
              AmongRegisters n s.results ⊎ Live m n (i ∷ next)
          skipped ys y (runs k) t = absurd (nothing_there i [] y)
          skipped ys y (ends x b r) t = absurd (nothing_there i [] y)
          skipped ys y (joined blocks h) t = past_joined blocks h t
          skipped ys y (opened blocks h) t = absurd (nothing_there (allocation _ _) [] y)

          at : (xs : List Instr) → f (length next) i ≡ xs → View i (scanned m.code next) (scanned m.code (i ∷ next)) xs → Told n (i ∷ next)
          at [] e' v = skipped [] refl v (ih (same ∙ ap (λ ys. ys ++ expand f next) e'))
          at (k ∷ []) e' v = one k (k ∷ []) refl e' v
          at (k ∷ l ∷ xs) e' v = absurd (not_long v k l xs refl)

  -- the register is live after the instruction that stands for one, wherever it goes
  at_goes : {n : ℕ} {j : Instr} (t : Target) → OneOf t (targets j.op) → (Writes q j n → ⊥) → {i : Instr} {next : List Instr} → Ending (i ∷ next) m.code →
      (t ≡ On → Told n next) → ((l : ℕ) → t ≡ At l → Live m n (after_label l m.code)) →
      {s : Scanned} → View i (scanned m.code next) s (j ∷ []) → AmongRegisters n s.results ⊎ Live m n (i ∷ next)
  at_goes On o free ending t l (runs k) = ⊎_elim inl (λ v. inr (on free (goes On o) v)) (t refl)
  at_goes On o free ending t l (ends x b r) = inr (on free (goes On o) (calm r (t refl)))
  at_goes {n} On o free {i = i} {next = next} ending t l (opened blocks e) =
      ⊎_elim (λ a. absurd (free (left_among _ [] (right_among i.results (after next) a))))
      (λ v. inr (over blocks e (λ a. free (left_among _ [] (left_among i.results (after next) a))) v)) (t refl)
  at_goes (At k) o free ending t l (runs x) = inr (on free (goes (At k) o) (l k refl))
  at_goes (At k) o free ending t l (ends x b r) = inr (on free (goes (At k) o) (l k refl))
  at_goes (At k) (other o) free ending t l (opened blocks e) = elim o [ ]

  at_raise : {n l : ℕ} {tries : List ℕ} {j : Instr} → may_raise j.op ≡ true → {i : Instr} {next : List Instr} → tries_at (j ∷ next) ≡ l ∷ tries →
      Live m n (from_handler l m.code) →
      {s : Scanned} → View i (scanned m.code next) s (j ∷ []) → AmongRegisters n s.results ⊎ Live m n (i ∷ next)
  at_raise r e v (runs k) = inr (aside (raises r e) v)
  at_raise r e v (ends x b y) = inr (aside (raises r e) v)
  at_raise r e v (opened blocks g) = absurd (true≢false (sym r))

  at_read : {n : ℕ} {j : Instr} → AmongRegisters n j.args → {i : Instr} {next : List Instr} {s : Scanned} →
      View i (scanned m.code next) s (j ∷ []) → AmongRegisters n s.results ⊎ Live m n (i ∷ next)
  at_read a (runs k) = inr (read a)
  at_read a (ends x b r) = inr (read a)
  at_read a (opened blocks e) = none_among a

  back : {n : ℕ} {ys : List Instr} → Live q n ys → (rest : List Instr) → Ending rest m.code → ys ≡ expand f rest → Told n rest
  back {n} (read {i = j} {next = zs} a) rest e same = heads n j zs (λ i next ending z s v. at_read a v) rest e same
  back {n} (on {i = j} {next = zs} free (goes On o) v) rest e same =
      heads n j zs (λ i next ending z s w. at_goes On o free ending (λ g. back v next (ending_next ending) z) (λ l g. absurd (on_at l g)) w) rest e same
    where
      on_at : (l : ℕ) → On ≡ At l → ⊥
      on_at l g = cc
  back {n} (on {i = j} {next = zs} free (goes (At k) o) v) rest e same =
      heads n j zs
      (λ i next ending z s w. at_goes (At k) o free ending (λ g. absurd (at_on g))
      (λ l g. subst (λ l. Live m n (after_label l m.code)) (label_same l g)
      (calm (calm_label m.code k m.code all) (back v (after_label k m.code) (ending_label k m.code) (label_is k)))) w)
      rest e same
    where
      at_on : At k ≡ On → ⊥
      at_on g = cc

      label_same : (l : ℕ) → At k ≡ At l → k ≡ l
      label_same l g = cc
  back {n} (aside {i = j} {next = zs} (raises {l = l} r h) v) rest e same =
      heads n j zs
      (λ i next ending z s w. at_raise r (sym (tries_here j next) ∙ ap (λ xs. tries_at (j ∷ xs)) (sym z) ∙ h)
      (calm (calm_handler m.code l m.code all) (back v (from_handler l m.code) (ending_from_handler l m.code) (handler_is l))) w)
      rest e same

  -- What is live in the result from a place on.
  pub live_before : {n : ℕ} {rest : List Instr} → Ending rest m.code → Live q n (expand f rest) → Told n rest
  live_before {rest = rest} e v = back v rest e refl
