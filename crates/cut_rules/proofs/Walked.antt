-- Control comes to the same places in a function with cuts, and what is live there was live.
use Rattle.std.proofs.Common.{◌≡◌, ℕ, ◌<◌, Bool, true, false, cond, ◌⊎◌, inl, inr, ⊎_elim, List, [], ◌∷◌, ◌++◌, refl, sym, ap, ◌∙◌, subst, arith}
use Rattle.std.specs.Prelude.{nat_eq}
use Rattle.std.proofs.lemmas.Bool.{true≢false, eqb-true}
use Rattle.std.proofs.lemmas.List.Elements.{All-contains}
use Rattle.std.specs.List.{Contains}
use Rattle.bs_words.proofs.Lists.{none_in, first_in, later_in}
use Rattle.mach_ir.specs.Acts.{On, At}
use Rattle.mach_ir.specs.Formed.{WellFormed, TargetsLabel, LabelOccursIn, place_here, place_below, labels_in, labels_of_mark}
use Rattle.mach_ir.specs.Meaning.{after_label, from_handler, tries_at, tries_past, has_label, is_handler_of}
use Rattle.mach_ir.specs.Placed.{is_straight}
use Rattle.mach_ir.specs.Walks.{AmongRegisters, OneOf, other, targets, may_raise, Reached, at_entry, by_step, by_raise, goes, raises, Live, read, on, aside, LiveAcross, across_step, across_raise, InCode, in_args, in_results, further, IsRegister, is_param, is_colour, is_in_code}
use Rattle.mach_ir.specs.declared.mach.Mark.TheVariants as mark
use Rattle.mach_ir.specs.declared.mach.MachOp.{MachOp}
use Rattle.mach_ir.specs.declared.mach.MachOp.TheVariants as mach
use Rattle.mach_ir.specs.declared.reg.Reg.{Reg}
use Rattle.mach_ir.specs.declared.mach.Instr.{Instr}
use Rattle.mach_ir.specs.declared.mach.Mach.{Mach}
use Rattle.mach_laws.specs.Expand.{Ending, all}
use Rattle.mach_laws.proofs.Among.{none_among}
use Rattle.mach_laws.proofs.Places.{ending_next, ending_label, ending_from_handler, stands_of}
use Rattle.cut_rules.specs.Cut.{cut_mark, IsCutCode, no_code, unmarked, marked}

straight_bare : (f : MachOp) → is_straight f ≡ true → ((l : ℕ) → has_label l f ≡ false) × ((l : ℕ) → is_handler_of l f ≡ false)
straight_bare (mach.Op f) e = (λ l. refl, λ l. refl)
straight_bare (mach.Mark f) e = absurd (true≢false (sym e))

straight_tries : (f : MachOp) (ts : List ℕ) → is_straight f ≡ true → tries_past f ts ≡ ts
straight_tries (mach.Op f) ts e = refl
straight_tries (mach.Mark f) ts e = absurd (true≢false (sym e))

cut_tries : {m : Mach} {rest ys : List Instr} → IsCutCode m rest ys → tries_at ys ≡ tries_at rest
cut_tries no_code = refl
cut_tries (unmarked {i = i} h) = ap (tries_past i.op) (cut_tries h)
cut_tries (marked {i = i} s low h) = ap (tries_past i.op) (cut_tries h)

-- ---- labels

behind : (ks ls : List ℕ) (l : ℕ) → Contains ls l → Contains (ks ++ ls) l
behind [] ls l c = c
behind (k ∷ ks) ls l c = later_in k l (ks ++ ls) (behind ks ls l c)

first_label : (k l : ℕ) (ls : List ℕ) → nat_eq k l ≡ true → Contains (k ∷ ls) l
first_label k l ls e = subst (Contains (k ∷ ls)) (eqb-true k l e) (first_in k ls)

label_here : (l : ℕ) (f : MachOp) (args results : List Reg) (is : List Instr) → has_label l f ≡ true →
    Contains (labels_in (record { op = f; args = args; results = results } ∷ is)) l
label_here l (mach.Mark (mark.Else k end)) args results is e = first_label k l (labels_in is) e
label_here l (mach.Mark (mark.Case indexes k end)) args results is e = first_label k l (labels_in is) e
label_here l (mach.Mark (mark.With k end)) args results is e = first_label k l (labels_in is) e
label_here l (mach.Mark (mark.End k)) args results is e = first_label k l (labels_in is) e
label_here l (mach.Op f) args results is e = absurd (true≢false (sym e))
label_here l (mach.Mark (mark.Exit k n)) args results is e = absurd (true≢false (sym e))
label_here l (mach.Mark (mark.If test k)) args results is e = absurd (true≢false (sym e))
label_here l (mach.Mark (mark.Switch labels)) args results is e = absurd (true≢false (sym e))
label_here l (mach.Mark mark.Catch) args results is e = absurd (true≢false (sym e))
label_here l (mach.Mark (mark.Try k)) args results is e = absurd (true≢false (sym e))
label_here l (mach.Mark (mark.Leave k end)) args results is e = absurd (true≢false (sym e))
label_here l (mach.Mark (mark.Handler k)) args results is e = absurd (true≢false (sym e))

label_below : (l : ℕ) (f : MachOp) (args results : List Reg) (is : List Instr) → Contains (labels_in is) l →
    Contains (labels_in (record { op = f; args = args; results = results } ∷ is)) l
label_below l (mach.Op f) args results is c = c
label_below l (mach.Mark f) args results is c = behind (labels_of_mark f) (labels_in is) l c

place_in : {l : ℕ} {code : List Instr} → LabelOccursIn l code → Contains (labels_in code) l
place_in {l} (place_here {i = i} {is = is} e) = label_here l i.op i.args i.results is e
place_in {l} (place_below {i = i} {is = is} h) = label_below l i.op i.args i.results is (place_in h)

module _ (m : Mach) (formed : WellFormed m) (xs : List Instr) (top : ℕ) (whole : IsCutCode m m.code xs) where
  abbrev q : Mach
  q = record m { code = xs; labels = top }

  -- a label that is led to is below those of the cuts
  led_below : {i : Instr} {next : List Instr} {l : ℕ} → Ending (i ∷ next) m.code → TargetsLabel i.op l → l < m.labels
  led_below {i} {next} {l} e o =
      All-contains (λ l. l < m.labels) (labels_in m.code) l formed.labels_below
      (place_in ((formed.labels).named i next (stands_of e) l o))

  cut_label : (l : ℕ) → l < m.labels → {rest ys : List Instr} → IsCutCode m rest ys → IsCutCode m (after_label l rest) (after_label l ys)
  cut_label l lt no_code = no_code
  cut_label l lt (unmarked {i = i} {next = next} {ys = ys} h) = by (has_label l i.op) (cut_label l lt h)
    where
      by : (b : Bool) → IsCutCode m (after_label l next) (after_label l ys) → IsCutCode m (cond b next (after_label l next)) (cond b ys (after_label l ys))
      by true ih = h
      by false ih = ih
  cut_label l lt (marked {i = i} {l = k} {next = next} {ys = ys} s low h) =
      subst (λ b. IsCutCode m (cond b next (after_label l next)) (cond b (cut_mark k ∷ ys) (cond (nat_eq k l) ys (after_label l ys)))) (sym ((straight_bare i.op s).0 l))
      (by (nat_eq k l) refl (cut_label l lt h))
    where
      by : (b : Bool) → nat_eq k l ≡ b → IsCutCode m (after_label l next) (after_label l ys) → IsCutCode m (after_label l next) (cond b ys (after_label l ys))
      by true e ih = let same = eqb-true k l e in absurd (omega (arith, lt, low, same))
      by false e ih = ih

  cut_handler : (l : ℕ) {rest ys : List Instr} → IsCutCode m rest ys → IsCutCode m (from_handler l rest) (from_handler l ys)
  cut_handler l no_code = no_code
  cut_handler l (unmarked {i = i} {next = next} {ys = ys} h) = by (is_handler_of l i.op) (cut_handler l h)
    where
      by : (b : Bool) → IsCutCode m (from_handler l next) (from_handler l ys) → IsCutCode m (cond b (i ∷ next) (from_handler l next)) (cond b (i ∷ ys) (from_handler l ys))
      by true ih = unmarked h
      by false ih = ih
  cut_handler l (marked {i = i} {l = k} {next = next} {ys = ys} s low h) =
      subst (λ b. IsCutCode m (cond b (i ∷ next) (from_handler l next)) (cond b (i ∷ cut_mark k ∷ ys) (from_handler l ys))) (sym ((straight_bare i.op s).1 l))
      (cut_handler l h)

  -- ---- where control goes

  abbrev pub Beside : List Instr → List Instr → Type 0
  Beside rest ys = Ending rest m.code × IsCutCode m rest ys

  pub label_beside : {i : Instr} {next : List Instr} {l : ℕ} → Ending (i ∷ next) m.code → TargetsLabel i.op l → Beside (after_label l m.code) (after_label l xs)
  label_beside {l = l} e o = (ending_label l m.code, cut_label l (led_below e o) whole)

  pub handler_beside : (l : ℕ) → Beside (from_handler l m.code) (from_handler l xs)
  handler_beside l = (ending_from_handler l m.code, cut_handler l whole)

  -- the first function's place and the second's, which may be before a mark
  pub data Places : List Instr → List Instr → Type 0 where
    level : {rest ys : List Instr} → Beside rest ys → Places rest ys
    at_mark : {k : ℕ} {rest ys : List Instr} → Beside rest ys → Places rest (cut_mark k ∷ ys)

  pub record Head (j : Instr) (zs rest : List Instr) : Type 0 where
    pub next : List Instr
    pub same : rest ≡ j ∷ next
    pub ending : Ending (j ∷ next) m.code
    pub places : Places next zs

  pub record Marked (j : Instr) (zs rest : List Instr) : Type 0 where
    pub label : ℕ
    pub same : j ≡ cut_mark label
    pub beside : Beside rest zs

  pub head_beside : {j : Instr} {zs rest : List Instr} → Ending rest m.code → IsCutCode m rest (j ∷ zs) → Head j zs rest
  head_beside e (unmarked {next = next} h) = record { next = next; same = refl; ending = e; places = level (ending_next e, h) }
  head_beside e (marked {l = k} {next = next} {ys = ys} s low h) =
      record { next = next; same = refl; ending = e; places = at_mark (ending_next e, h) }

  pub split : {j : Instr} {zs rest : List Instr} → Places rest (j ∷ zs) → Head j zs rest ⊎ Marked j zs rest
  split (level b) = inl (head_beside b.0 b.1)
  split (at_mark {k = k} b) = inr (record { label = k; same = refl; beside = b })

  pub place_tries : {rest ys : List Instr} → Places rest ys → tries_at ys ≡ tries_at rest
  place_tries (level b) = cut_tries b.1
  place_tries (at_mark b) = cut_tries b.1

  no_label : {A : Type 0} {j : Instr} (k l : ℕ) → j ≡ cut_mark k → OneOf (At l) (targets j.op) → A
  no_label k l e o = none (subst (λ (j : Instr). OneOf (At l) (targets j.op)) e o)
    where
      none : {A : Type 0} {l : ℕ} → OneOf (At l) (On ∷ []) → A
      none (other o) = elim o [ ]

  no_raise : {A : Type 0} {j : Instr} (k : ℕ) → j ≡ cut_mark k → may_raise j.op ≡ true → A
  no_raise k e r = absurd (true≢false (sym r ∙ ap (λ (j : Instr). may_raise j.op) e))

  -- ---- what is reached

  -- what is reached in the second function was reached in the first, if it is no mark
  pub record ReachedBefore (ys : List Instr) : Type 0 where
    pub rest : List Instr
    pub reached : Reached m rest
    pub places : Places rest ys

  pub reached_back : {ys : List Instr} → Reached q ys → ReachedBefore ys
  reached_back at_entry = record { rest = m.code; reached = at_entry; places = level (all, whole) }
  reached_back (by_step {i = j} {next = zs} r (goes On o)) = step_on (reached_back r)
    where
      step_on : ReachedBefore (j ∷ zs) → ReachedBefore zs
      step_on w =
          ⊎_elim
          (λ (h : Head j zs w.rest). record { rest = h.next; reached = by_step (subst (Reached m) h.same w.reached) (goes On o); places = h.places })
          (λ (k : Marked j zs w.rest). record { rest = w.rest; reached = w.reached; places = level k.beside }) (split w.places)
  reached_back (by_step {i = j} {next = zs} r (goes (At l) o)) = step_at (reached_back r)
    where
      step_at : ReachedBefore (j ∷ zs) → ReachedBefore (after_label l xs)
      step_at w =
          ⊎_elim
          (λ (h : Head j zs w.rest).
          record {
            rest = after_label l m.code;
            reached = by_step (subst (Reached m) h.same w.reached) (goes (At l) o);
            places = level (label_beside h.ending o);
          })
          (λ (k : Marked j zs w.rest). no_label k.label l k.same o) (split w.places)
  reached_back (by_raise {i = j} {next = zs} r (raises {l = l} y t)) = step_aside (reached_back r)
    where
      step_aside : ReachedBefore (j ∷ zs) → ReachedBefore (from_handler l xs)
      step_aside w =
          ⊎_elim
          (λ (h : Head j zs w.rest).
          record {
            rest = from_handler l m.code;
            reached = by_raise (subst (Reached m) h.same w.reached) (raises y (sym (ap (tries_past j.op) (place_tries h.places)) ∙ t));
            places = level (handler_beside l);
          })
          (λ (k : Marked j zs w.rest). no_raise k.label k.same y) (split w.places)

  -- ---- what is live

  pub live_back : {n : ℕ} {ys : List Instr} → Live q n ys → (rest : List Instr) → Places rest ys → Live m n rest
  live_back {n} (read {i = j} {next = zs} a) rest p =
      ⊎_elim (λ (h : Head j zs rest). subst (Live m n) (sym h.same) (read a))
      (λ (k : Marked j zs rest). none_among (subst (λ (j : Instr). AmongRegisters n j.args) k.same a)) (split p)
  live_back {n} (on {i = j} {next = zs} free (goes On o) v) rest p =
      ⊎_elim (λ (h : Head j zs rest). subst (Live m n) (sym h.same) (on free (goes On o) (live_back v h.next h.places)))
      (λ (k : Marked j zs rest). live_back v rest (level k.beside)) (split p)
  live_back {n} (on {i = j} {next = zs} free (goes (At l) o) v) rest p =
      ⊎_elim (λ (h : Head j zs rest). subst (Live m n) (sym h.same) (on free (goes (At l) o) (live_back v (after_label l m.code) (level (label_beside h.ending o)))))
      (λ (k : Marked j zs rest). no_label k.label l k.same o) (split p)
  live_back {n} (aside {i = j} {next = zs} (raises {l = l} {tries = tries} r t) v) rest p =
      ⊎_elim
      (λ (h : Head j zs rest).
      let u = sym (ap (tries_past j.op) (place_tries h.places)) ∙ t in
      subst (Live m n) (sym h.same) (aside (raises r u) (live_back v (from_handler l m.code) (level (handler_beside l)))))
      (λ (k : Marked j zs rest). no_raise k.label k.same r) (split p)

  pub across_back : {n : ℕ} (j : Instr) (next zs : List Instr) → Ending (j ∷ next) m.code → Places next zs → LiveAcross q n j zs → LiveAcross m n j next
  across_back j next zs e p (across_step free (goes On o) v) = across_step free (goes On o) (live_back v next p)
  across_back j next zs e p (across_step free (goes (At l) o) v) = across_step free (goes (At l) o) (live_back v (after_label l m.code) (level (label_beside e o)))
  across_back j next zs e p (across_raise (raises {l = l} r t) v) =
      let u = sym (ap (tries_past j.op) (place_tries p)) ∙ t in across_raise (raises r u) (live_back v (from_handler l m.code) (level (handler_beside l)))

  -- ---- registers

  code_back : {r : Reg} {rest ys : List Instr} → IsCutCode m rest ys → InCode r ys → InCode r rest
  code_back (unmarked h) (in_args c) = in_args c
  code_back (unmarked h) (in_results c) = in_results c
  code_back (unmarked h) (further c) = further (code_back h c)
  code_back (marked s low h) (in_args c) = in_args c
  code_back (marked s low h) (in_results c) = in_results c
  code_back {r} (marked s low h) (further (in_args c)) = absurd (none_in r c)
  code_back {r} (marked s low h) (further (in_results c)) = absurd (none_in r c)
  code_back (marked s low h) (further (further c)) = further (code_back h c)
  code_back no_code c = elim c [ ]

  pub register_back : (r : Reg) → IsRegister q r → IsRegister m r
  register_back r (is_param c) = is_param c
  register_back r (is_colour c) = is_colour c
  register_back r (is_in_code c) = is_in_code (code_back whole c)

  -- what stands behind an instruction of the first: its mark only where it goes on
  pub data Behind (i : Instr) (next : List Instr) : List Instr → Type 0 where
    plainly : {zs : List Instr} → IsCutCode m next zs → Behind i next zs
    by_mark : {k : ℕ} {zs : List Instr} → is_straight i.op ≡ true → IsCutCode m next zs → Behind i next (cut_mark k ∷ zs)

  -- the code from an instruction on, with its mark or without
  pub data Firsts (i : Instr) (next : List Instr) : List Instr → Type 0 where
    first_of : {zs : List Instr} → Behind i next zs → Firsts i next (i ∷ zs)

  pub firsts : {i : Instr} {next ys : List Instr} → IsCutCode m (i ∷ next) ys → Firsts i next ys
  firsts (unmarked h) = first_of (plainly h)
  firsts (marked s low h) = first_of (by_mark s h)

  pub behind_places : {i : Instr} {next zs : List Instr} → Ending next m.code → Behind i next zs → Places next zs
  behind_places e (plainly h) = level (e, h)
  behind_places e (by_mark s h) = at_mark (e, h)
