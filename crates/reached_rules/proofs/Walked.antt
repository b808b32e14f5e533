-- Control comes to the same places in what stays, and what is live there was live.
use Rattle.std.proofs.Common.{◌≡◌, ℕ, Bool, true, false, cond, List, ◌∷◌, refl, sym, ap, ◌∙◌, subst}
use Rattle.mach_ir.specs.Acts.{On, At}
use Rattle.mach_ir.specs.Formed.{WellFormed, TargetsLabel}
use Rattle.mach_ir.specs.Meaning.{after_label, from_handler, tries_at, has_label, is_handler_of}
use Rattle.mach_ir.specs.Walks.{OneOf, targets, may_raise, goes, raises, Reached, by_step, by_raise, Live, read, on, aside, LiveAcross, across_step, across_raise, InCode, in_args, in_results, further, IsRegister, is_param, is_colour, is_in_code}
use Rattle.mach_ir.specs.declared.reg.Reg.{Reg}
use Rattle.mach_ir.specs.declared.mach.Instr.{Instr}
use Rattle.mach_ir.specs.declared.mach.Mach.{Mach}
use Rattle.mach_laws.proofs.Places.{stands_of}
use Rattle.reached_rules.specs.Trimmed.{Stays, is_reached, is_place, IsTrimmedCode, no_code, stays, left_out}
use Rattle.reached_rules.proofs.Tries.{reached_ending, same_tries}

module _ (m : Mach) (formed : WellFormed m) (xs : List Instr) (whole : IsTrimmedCode m m.code xs) where
  abbrev q : Mach
  q = record m { code = xs }

  -- from the place of a label on, where that stays
  trimmed_label : (l : ℕ) {rest ys : List Instr} → ((i : Instr) (next : List Instr) → has_label l i.op ≡ true → Stays m i next) →
      IsTrimmedCode m rest ys → IsTrimmedCode m (after_label l rest) (after_label l ys)
  trimmed_label l place no_code = no_code
  trimmed_label l place (stays {i = i} {next = next} {xs = ys} s h) = by (has_label l i.op) (trimmed_label l place h)
    where
      by : (b : Bool) → IsTrimmedCode m (after_label l next) (after_label l ys) → IsTrimmedCode m (cond b next (after_label l next)) (cond b ys (after_label l ys))
      by true ih = h
      by false ih = ih
  trimmed_label l place (left_out {i = i} {next = next} {xs = ys} out h) = by (has_label l i.op) refl (trimmed_label l place h)
    where
      by : (b : Bool) → has_label l i.op ≡ b → IsTrimmedCode m (after_label l next) (after_label l ys) → IsTrimmedCode m (cond b next (after_label l next)) (after_label l ys)
      by true e ih = absurd (out (place i next e))
      by false e ih = ih

  -- from the mark of a handler on, where that stays
  trimmed_handler : (l : ℕ) {rest ys : List Instr} → ((i : Instr) (next : List Instr) → from_handler l rest ≡ i ∷ next → Stays m i next) →
      IsTrimmedCode m rest ys → IsTrimmedCode m (from_handler l rest) (from_handler l ys)
  trimmed_handler l first no_code = no_code
  trimmed_handler l first (stays {i = i} {next = next} {xs = ys} s h) =
      by (is_handler_of l i.op) refl (λ f. trimmed_handler l f h)
    where
      by : (b : Bool) → is_handler_of l i.op ≡ b →
          (((j : Instr) (others : List Instr) → from_handler l next ≡ j ∷ others → Stays m j others) → IsTrimmedCode m (from_handler l next) (from_handler l ys)) →
          IsTrimmedCode m (cond b (i ∷ next) (from_handler l next)) (cond b (i ∷ ys) (from_handler l ys))
      by true e ih = stays s h
      by false e ih = ih (λ j others g. first j others (ap (λ b. cond b (i ∷ next) (from_handler l next)) e ∙ g))
  trimmed_handler l first (left_out {i = i} {next = next} {xs = ys} out h) =
      by (is_handler_of l i.op) refl (λ f. trimmed_handler l f h)
    where
      by : (b : Bool) → is_handler_of l i.op ≡ b →
          (((j : Instr) (others : List Instr) → from_handler l next ≡ j ∷ others → Stays m j others) → IsTrimmedCode m (from_handler l next) (from_handler l ys)) →
          IsTrimmedCode m (cond b (i ∷ next) (from_handler l next)) (from_handler l ys)
      by true e ih = absurd (out (first i next (ap (λ b. cond b (i ∷ next) (from_handler l next)) e)))
      by false e ih = ih (λ j others g. first j others (ap (λ b. cond b (i ∷ next) (from_handler l next)) e ∙ g))

  -- ---- where control goes

  abbrev pub Beside : List Instr → List Instr → Type 0
  Beside rest ys = Reached m rest × IsTrimmedCode m rest ys

  pub label_beside : {i : Instr} {next : List Instr} {l : ℕ} → Reached m (i ∷ next) → TargetsLabel i.op l → Beside (after_label l m.code) (after_label l xs)
  label_beside {l = l} r o =
      (by_step r (goes (At l) o), trimmed_label l (λ j others e. is_place (stands_of (reached_ending r)) (is_reached r) o e) whole)

  pub handler_beside : {i : Instr} {next : List Instr} {l : ℕ} {tries : List ℕ} → Reached m (i ∷ next) → may_raise i.op ≡ true →
      tries_at (i ∷ next) ≡ l ∷ tries → Beside (from_handler l m.code) (from_handler l xs)
  handler_beside {l = l} r h t =
      let to : Reached m (from_handler l m.code) = by_raise r (raises h t) in
      (to, trimmed_handler l (λ j others e. is_reached (subst (Reached m) e to)) whole)

  pub next_beside : {i : Instr} {next ys : List Instr} → Reached m (i ∷ next) → OneOf On (targets i.op) → IsTrimmedCode m next ys → Beside next ys
  next_beside r o h = (by_step r (goes On o), h)

  pub record Head (j : Instr) (zs rest : List Instr) : Type 0 where
    pub next : List Instr
    pub same : rest ≡ j ∷ next
    pub reached : Reached m (j ∷ next)
    pub trimmed : IsTrimmedCode m next zs
    pub tries : tries_at (j ∷ zs) ≡ tries_at (j ∷ next)

  pub head_beside : (j : Instr) (zs rest : List Instr) → Beside rest (j ∷ zs) → Head j zs rest
  head_beside j zs rest b = by b.0 b.1 (same_tries m formed b.0 b.1)
    where
      by : {rest : List Instr} → Reached m rest → IsTrimmedCode m rest (j ∷ zs) → tries_at (j ∷ zs) ≡ tries_at rest → Head j zs rest
      by r (stays {next = next} s h) e = record { next = next; same = refl; reached = r; trimmed = h; tries = e }
      by r (left_out out h) e = absurd (out (is_reached r))

  -- ---- what is live

  pub live_back : {n : ℕ} {ys : List Instr} → Live q n ys → (rest : List Instr) → Beside rest ys → Live m n rest
  live_back {n} (read {i = j} {next = zs} a) rest b = let h = head_beside j zs rest b in subst (Live m n) (sym h.same) (read a)
  live_back {n} (on {i = j} {next = zs} free (goes On o) v) rest b =
      let h = head_beside j zs rest b in
      subst (Live m n) (sym h.same) (on free (goes On o) (live_back v h.next (next_beside h.reached o h.trimmed)))
  live_back {n} (on {i = j} {next = zs} free (goes (At l) o) v) rest b =
      let h = head_beside j zs rest b in
      subst (Live m n) (sym h.same) (on free (goes (At l) o) (live_back v (after_label l m.code) (label_beside h.reached o)))
  live_back {n} (aside {i = j} {next = zs} (raises {l = l} {tries = tries} r t) v) rest b =
      let h = head_beside j zs rest b in
      let u = sym h.tries ∙ t in
      subst (Live m n) (sym h.same) (aside (raises r u) (live_back v (from_handler l m.code) (handler_beside h.reached r u)))

  pub across_back : {n : ℕ} (j : Instr) (next zs : List Instr) → Reached m (j ∷ next) → IsTrimmedCode m next zs → tries_at (j ∷ zs) ≡ tries_at (j ∷ next) →
      LiveAcross q n j zs → LiveAcross m n j next
  across_back j next zs r h e (across_step free (goes On o) v) = across_step free (goes On o) (live_back v next (next_beside r o h))
  across_back j next zs r h e (across_step free (goes (At l) o) v) =
      across_step free (goes (At l) o) (live_back v (after_label l m.code) (label_beside r o))
  across_back j next zs r h e (across_raise (raises {l = l} x t) v) =
      let u = sym e ∙ t in across_raise (raises x u) (live_back v (from_handler l m.code) (handler_beside r x u))

  -- ---- registers

  code_back : {r : Reg} {rest ys : List Instr} → IsTrimmedCode m rest ys → InCode r ys → InCode r rest
  code_back (stays s h) (in_args c) = in_args c
  code_back (stays s h) (in_results c) = in_results c
  code_back (stays s h) (further c) = further (code_back h c)
  code_back (left_out out h) c = further (code_back h c)
  code_back no_code c = elim c [ ]

  pub register_back : (r : Reg) → IsRegister q r → IsRegister m r
  register_back r (is_param c) = is_param c
  register_back r (is_colour c) = is_colour c
  register_back r (is_in_code c) = is_in_code (code_back whole c)

  pub record First (i : Instr) (next ys : List Instr) : Type 0 where
    pub zs : List Instr
    pub same : ys ≡ i ∷ zs
    pub trimmed : IsTrimmedCode m next zs
    pub tries : tries_at (i ∷ zs) ≡ tries_at (i ∷ next)

  pub first_of : (i : Instr) (next ys : List Instr) → Beside (i ∷ next) ys → First i next ys
  first_of i next ys b = by b.0 b.1 (same_tries m formed b.0 b.1)
    where
      by : {ys : List Instr} → Reached m (i ∷ next) → IsTrimmedCode m (i ∷ next) ys → tries_at ys ≡ tries_at (i ∷ next) → First i next ys
      by r (stays {xs = zs} s h) e = record { zs = zs; same = refl; trimmed = h; tries = e }
      by r (left_out out h) e = absurd (out (is_reached r))
