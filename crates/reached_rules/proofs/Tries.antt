-- The tries round a place that is reached are pushed by marks that stay, and are those round it in what stays.
use Rattle.std.proofs.Common.{◌≡◌, ℕ, zero, suc, true, List, [], ◌∷◌, refl, sym, ap, ◌∙◌, subst}
use Rattle.std.proofs.lemmas.Bool.{true≢false}
use Rattle.mach_ir.specs.Acts.{On, At, drop_tries}
use Rattle.mach_ir.specs.Formed.{WellFormed, tries_left}
use Rattle.mach_ir.specs.Meaning.{tries_at, tries_past, has_label}
use Rattle.mach_ir.specs.Walks.{OneOf, other, targets, goes, raises, Reached, at_entry, by_step, by_raise, StandsAsInstr}
use Rattle.mach_ir.specs.declared.mach.Mark.TheVariants as mark
use Rattle.mach_ir.specs.declared.mach.MachOp.{MachOp}
use Rattle.mach_ir.specs.declared.mach.MachOp.TheVariants as mach
use Rattle.mach_ir.specs.declared.mach.Instr.{Instr}
use Rattle.mach_ir.specs.declared.mach.Mach.{Mach}
use Rattle.mach_laws.specs.Expand.{Ending, all}
use Rattle.mach_laws.proofs.Places.{ending_next, stands_of}
use Rattle.mach_laws.proofs.Walking.{ending_leads, ending_raises}
use Rattle.reached_rules.specs.Trimmed.{IsTryMark, begins, leaves, handles, IsCatchMark, is_with, is_end, Stays, is_reached, is_place, is_of_try, is_of_catch, IsTrimmedCode, no_code, stays, left_out}

-- ---- what is reached is in the text

pub reached_ending : {m : Mach} {rest : List Instr} → Reached m rest → Ending rest m.code
reached_ending at_entry = all
reached_ending (by_step r step) = ending_leads step (reached_ending r)
reached_ending (by_raise r step) = ending_raises step

module _ (m : Mach) (formed : WellFormed m) where
  -- a mark that stays pushes it
  pub record Pushed (l : ℕ) : Type 0 where
    pub instr : Instr
    pub next : List Instr
    pub stands : StandsAsInstr instr next m.code
    pub stay : Stays m instr next
    pub is : instr.op ≡ mach.Mark (mark.Try l)

  pub data AllPushed : List ℕ → Type 0 where
    no_tries : AllPushed []
    one_pushed : {l : ℕ} {ls : List ℕ} → Pushed l → AllPushed ls → AllPushed (l ∷ ls)

  fewer : (n : ℕ) (ls : List ℕ) → AllPushed ls → AllPushed (drop_tries n ls)
  fewer zero ls a = a
  fewer (suc n) [] a = a
  fewer (suc n) (l ∷ ls) (one_pushed p a) = fewer n ls a

  fewer_left : (f : MachOp) (ls : List ℕ) → AllPushed ls → AllPushed (tries_left f ls)
  fewer_left (mach.Op f) ls a = a
  fewer_left (mach.Mark (mark.Exit l n)) ls a = fewer n ls a
  fewer_left (mach.Mark (mark.If test l)) ls a = a
  fewer_left (mach.Mark (mark.Else l end)) ls a = a
  fewer_left (mach.Mark (mark.Switch labels)) ls a = a
  fewer_left (mach.Mark (mark.Case indexes l end)) ls a = a
  fewer_left (mach.Mark mark.Catch) ls a = a
  fewer_left (mach.Mark (mark.With l end)) ls a = a
  fewer_left (mach.Mark (mark.Try l)) ls a = a
  fewer_left (mach.Mark (mark.Leave l end)) ls a = fewer 1 ls a
  fewer_left (mach.Mark (mark.Handler l)) ls a = a
  fewer_left (mach.Mark (mark.End l)) ls a = a

  -- past an instruction that goes on
  on_past : (i : Instr) (next : List Instr) → Reached m (i ∷ next) → (f : MachOp) → i.op ≡ f → OneOf On (targets f) →
      AllPushed (tries_at (i ∷ next)) → AllPushed (tries_at next)
  on_past i next r (mach.Mark (mark.Try l)) e o a =
      let s = stands_of (reached_ending r) in
      subst AllPushed (sym ((formed.nested).at_try i next s l e))
      (one_pushed (record { instr = i; next = next; stands = s; stay = is_reached r; is = e }) a)
  on_past i next r (mach.Mark (mark.Leave l end)) e (other o) a = elim o [ ]
  on_past i next r (mach.Op f) e o a = subst AllPushed (ap (λ g. tries_past g (tries_at next)) e) a
  on_past i next r (mach.Mark (mark.Exit l n)) e o a = subst AllPushed (ap (λ g. tries_past g (tries_at next)) e) a
  on_past i next r (mach.Mark (mark.If test l)) e o a = subst AllPushed (ap (λ g. tries_past g (tries_at next)) e) a
  on_past i next r (mach.Mark (mark.Else l end)) e o a = subst AllPushed (ap (λ g. tries_past g (tries_at next)) e) a
  on_past i next r (mach.Mark (mark.Switch labels)) e o a = subst AllPushed (ap (λ g. tries_past g (tries_at next)) e) a
  on_past i next r (mach.Mark (mark.Case indexes l end)) e o a = subst AllPushed (ap (λ g. tries_past g (tries_at next)) e) a
  on_past i next r (mach.Mark mark.Catch) e o a = subst AllPushed (ap (λ g. tries_past g (tries_at next)) e) a
  on_past i next r (mach.Mark (mark.With l end)) e o a = subst AllPushed (ap (λ g. tries_past g (tries_at next)) e) a
  on_past i next r (mach.Mark (mark.Handler l)) e o a = subst AllPushed (ap (λ g. tries_past g (tries_at next)) e) a
  on_past i next r (mach.Mark (mark.End l)) e o a = subst AllPushed (ap (λ g. tries_past g (tries_at next)) e) a

  tail_pushed : {l : ℕ} {ls : List ℕ} → AllPushed (l ∷ ls) → AllPushed ls
  tail_pushed (one_pushed p a) = a

  -- The tries round a reached place are pushed by marks that stay.
  pub all_pushed : {rest : List Instr} → Reached m rest → AllPushed (tries_at rest)
  all_pushed at_entry = subst AllPushed (sym (formed.nested).at_entry) no_tries
  all_pushed (by_step {i = i} {next = next} r (goes On o)) = on_past i next r i.op refl o (all_pushed r)
  all_pushed (by_step {i = i} {next = next} r (goes (At l) o)) =
      subst AllPushed (sym ((formed.nested).at_label i next (stands_of (reached_ending r)) l o))
      (fewer_left i.op (tries_at (i ∷ next)) (all_pushed r))
  all_pushed (by_raise {i = i} {next = next} r (raises {l = l} {tries = tries} h t)) =
      subst AllPushed (sym ((formed.nested).at_handler i next (stands_of (reached_ending r)) h l tries t))
      (tail_pushed (subst AllPushed t (all_pushed r)))

  -- ---- the tries in what stays

  data Picked : List ℕ → List ℕ → Type 0 where
    none_left : Picked [] []
    picks : {l : ℕ} {ts us : List ℕ} → Pushed l → Picked ts us → Picked (l ∷ ts) (l ∷ us)
    leaves_out : {l : ℕ} {ts us : List ℕ} → (Pushed l → ⊥) → Picked ts us → Picked (l ∷ ts) us

  same_picked : {ts us : List ℕ} → AllPushed ts → Picked ts us → us ≡ ts
  same_picked no_tries none_left = refl
  same_picked (one_pushed p a) (picks {l = l} q h) = ap (λ ls. l ∷ ls) (same_picked a h)
  same_picked (one_pushed p a) (leaves_out out h) = absurd (out p)

  pushed_picked : {l : ℕ} {ts us : List ℕ} → Pushed l → Picked (l ∷ ts) us → Picked ts (drop_tries 1 us)
  pushed_picked p (picks q h) = h
  pushed_picked p (leaves_out out h) = absurd (out p)

  unpushed_picked : {l : ℕ} {ts us : List ℕ} → (Pushed l → ⊥) → Picked (l ∷ ts) us → Picked ts us
  unpushed_picked out (picks q h) = absurd (out q)
  unpushed_picked out (leaves_out o h) = h

  no_label_leave : (f : MachOp) (k : ℕ) {l end : ℕ} → f ≡ mach.Mark (mark.Leave l end) → has_label k f ≡ true → ⊥
  no_label_leave f k e h = true≢false (sym h ∙ ap (has_label k) e)

  of_leave : {l k end : ℕ} {f : MachOp} → f ≡ mach.Mark (mark.Leave l end) → IsTryMark k f → k ≡ l
  of_leave e begins = absurd (apart e)
    where
      apart : {k l end : ℕ} → mach.Mark (mark.Try k) ≡ mach.Mark (mark.Leave l end) → ⊥
      apart e = cc
  of_leave e leaves = same e
    where
      same : {k l end last : ℕ} → mach.Mark (mark.Leave k last) ≡ mach.Mark (mark.Leave l end) → k ≡ l
      same e = cc
  of_leave e handles = absurd (apart e)
    where
      apart : {k l end : ℕ} → mach.Mark (mark.Handler k) ≡ mach.Mark (mark.Leave l end) → ⊥
      apart e = cc

  -- the end of a body that stays is that of a try that does
  leave_pushed : (i : Instr) (next : List Instr) (l end : ℕ) → i.op ≡ mach.Mark (mark.Leave l end) → Stays m i next → Pushed l
  leave_pushed i next l end e (is_reached r) =
      head (subst AllPushed (ap (λ g. tries_past g (tries_at next)) e) (all_pushed r))
    where
      head : {l : ℕ} {ls : List ℕ} → AllPushed (l ∷ ls) → Pushed l
      head (one_pushed p a) = p
  leave_pushed i next l end e (is_place {l = k} s h o g) = absurd (no_label_leave i.op k e g)
  leave_pushed i next l end e (is_of_catch s h o p in_it) = absurd (no_part p e)
    where
      no_part : {f : MachOp} {l end : ℕ} → IsCatchMark f → f ≡ mach.Mark (mark.Leave l end) → ⊥
      no_part is_with e = cc
      no_part is_end e = cc
  leave_pushed i next l end e (is_of_try {j = j} {others = others} {l = k} s h is of) =
      record { instr = j; next = others; stands = s; stay = h; is = subst (λ k. j.op ≡ mach.Mark (mark.Try k)) (of_leave e of) is }

  picked : {rest xs : List Instr} → Ending rest m.code → IsTrimmedCode m rest xs → Picked (tries_at rest) (tries_at xs)
  picked e no_code = none_left
  picked e (stays {i = i} {next = next} {xs = xs} s h) = by i.op refl (picked (ending_next e) h)
    where
      plain : {f : MachOp} → i.op ≡ f → tries_past f (tries_at next) ≡ tries_at next → tries_past f (tries_at xs) ≡ tries_at xs →
          Picked (tries_at next) (tries_at xs) → Picked (tries_at (i ∷ next)) (tries_at (i ∷ xs))
      plain e a b p =
          subst (λ ts. Picked ts (tries_past i.op (tries_at xs))) (sym (ap (λ g. tries_past g (tries_at next)) e ∙ a))
          (subst (Picked (tries_at next)) (sym (ap (λ g. tries_past g (tries_at xs)) e ∙ b)) p)

      by : (f : MachOp) → i.op ≡ f → Picked (tries_at next) (tries_at xs) → Picked (tries_at (i ∷ next)) (tries_at (i ∷ xs))
      by (mach.Mark (mark.Try l)) g p =
          subst (λ us. Picked (tries_at (i ∷ next)) us) (sym (ap (λ g. tries_past g (tries_at xs)) g))
          (pushed_picked (record { instr = i; next = next; stands = stands_of e; stay = s; is = g })
          (subst (λ ts. Picked ts (tries_at xs)) ((formed.nested).at_try i next (stands_of e) l g) p))
      by (mach.Mark (mark.Leave l end)) g p =
          subst (λ ts. Picked ts (tries_at (i ∷ xs))) (sym (ap (λ g. tries_past g (tries_at next)) g))
          (subst (Picked (l ∷ tries_at next)) (sym (ap (λ g. tries_past g (tries_at xs)) g))
          (picks (leave_pushed i next l end g s) p))
      by (mach.Op f) g p = plain g refl refl p
      by (mach.Mark (mark.Exit l n)) g p = plain g refl refl p
      by (mach.Mark (mark.If test l)) g p = plain g refl refl p
      by (mach.Mark (mark.Else l end)) g p = plain g refl refl p
      by (mach.Mark (mark.Switch labels)) g p = plain g refl refl p
      by (mach.Mark (mark.Case indexes l end)) g p = plain g refl refl p
      by (mach.Mark mark.Catch) g p = plain g refl refl p
      by (mach.Mark (mark.With l end)) g p = plain g refl refl p
      by (mach.Mark (mark.Handler l)) g p = plain g refl refl p
      by (mach.Mark (mark.End l)) g p = plain g refl refl p
  picked e (left_out {i = i} {next = next} {xs = xs} out h) = by i.op refl (picked (ending_next e) h)
    where
      plain : {f : MachOp} → i.op ≡ f → tries_past f (tries_at next) ≡ tries_at next →
          Picked (tries_at next) (tries_at xs) → Picked (tries_at (i ∷ next)) (tries_at xs)
      plain e a p = subst (λ ts. Picked ts (tries_at xs)) (sym (ap (λ g. tries_past g (tries_at next)) e ∙ a)) p

      by : (f : MachOp) → i.op ≡ f → Picked (tries_at next) (tries_at xs) → Picked (tries_at (i ∷ next)) (tries_at xs)
      by (mach.Mark (mark.Try l)) g p =
          unpushed_picked (λ w. out (is_of_try w.stands w.stay w.is (subst (IsTryMark l) (sym g) begins)))
          (subst (λ ts. Picked ts (tries_at xs)) ((formed.nested).at_try i next (stands_of e) l g) p)
      by (mach.Mark (mark.Leave l end)) g p =
          subst (λ ts. Picked ts (tries_at xs)) (sym (ap (λ g. tries_past g (tries_at next)) g))
          (leaves_out (λ w. out (is_of_try w.stands w.stay w.is (subst (IsTryMark l) (sym g) leaves))) p)
      by (mach.Op f) g p = plain g refl p
      by (mach.Mark (mark.Exit l n)) g p = plain g refl p
      by (mach.Mark (mark.If test l)) g p = plain g refl p
      by (mach.Mark (mark.Else l end)) g p = plain g refl p
      by (mach.Mark (mark.Switch labels)) g p = plain g refl p
      by (mach.Mark (mark.Case indexes l end)) g p = plain g refl p
      by (mach.Mark mark.Catch) g p = plain g refl p
      by (mach.Mark (mark.With l end)) g p = plain g refl p
      by (mach.Mark (mark.Handler l)) g p = plain g refl p
      by (mach.Mark (mark.End l)) g p = plain g refl p

  -- The tries round a reached place are the same in what stays.
  pub same_tries : {rest xs : List Instr} → Reached m rest → IsTrimmedCode m rest xs → tries_at xs ≡ tries_at rest
  same_tries r h = same_picked (all_pushed r) (picked (reached_ending r) h)
