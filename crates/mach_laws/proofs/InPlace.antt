-- Code in which one instruction is in the place of each. It has the operation of that one, or both only compute: so labels,
-- tries and walks are what they were.
use Rattle.std.proofs.Common.{◌≡◌, ℕ, Bool, true, false, ⊎_elim, List, [], ◌∷◌, ◌++◌, length, refl, sym, ap, ◌∙◌, subst}
use Rattle.std.proofs.lemmas.List.Elements.{Contains-get_or}
use Rattle.std.specs.List.{All, Contains}
use Rattle.std.specs.Prelude.{◌≤◌, slice_index_or}
use Rattle.std.proofs.lemmas.Bool.{both_ways}
use Rattle.bs_words.specs.declared.types.Comp.TheVariants as comp
use Rattle.bs_words.proofs.Lists.{none_in, first_in, later_in, in_cons, head_same, tail_same, none_there}
use Rattle.mach_ir.specs.Acts.{Target, On, At}
use Rattle.mach_ir.specs.Formed.{labels_in, labels_of_mark, TargetsLabel, LabelOccursIn, place_here, place_below, HasHandler, handler_here, handler_below, is_exit, LabelsStand, tries_left, leaves, IsNested, CasesAgree}
use Rattle.mach_ir.specs.Meaning.{has_label, is_handler_of, after_label, from_handler, code_at, tries_at, passes_frame}
use Rattle.mach_ir.specs.Walks.{AmongRegisters, OneOf, targets, may_raise, goes, Raises, raises, Reached, at_entry, by_step, by_raise, Writes, Live, read, on, aside, LiveAfter, after_step, LiveAcross, across_step, across_raise, IsRegister, NoAddrLive, StandsAsInstr, here, below}
use Rattle.mach_ir.specs.declared.op.Op.TheVariants as op
use Rattle.mach_ir.specs.declared.op.Pure.{Pure}
use Rattle.mach_ir.specs.declared.reg.Reg.{Reg}
use Rattle.mach_ir.specs.declared.mach.Mark.{Mark}
use Rattle.mach_ir.specs.declared.mach.Mark.TheVariants as mark
use Rattle.mach_ir.specs.declared.mach.MachOp.{MachOp}
use Rattle.mach_ir.specs.declared.mach.MachOp.TheVariants as mach
use Rattle.mach_ir.specs.declared.mach.Instr.{Instr}
use Rattle.mach_ir.specs.declared.mach.Mach.{Mach}
use Rattle.mach_laws.specs.Expand.{expand, Ending, all, KeepsMarks, no_label, not_labelled, no_handler, not_handled, bounds_try, no_bound, not_bound}
use Rattle.mach_laws.proofs.Places.{label_expand, handler_expand, tries_expand, ending_from_handler, contains_of, stands_in}
use Rattle.mach_laws.proofs.Walking.{ending_at}

-- ---- operations

pub data IsPure : MachOp → Type 0 where
  is_pure : {f : Pure} → IsPure (mach.Op (op.Pure f))

-- the same operation, or two that only compute
pub data AreAlike (g h : MachOp) : Type 0 where
  same_op : h ≡ g → AreAlike g h
  both_pure : IsPure g → IsPure h → AreAlike g h

pub of_pure : {B : Type 0} (F : MachOp → B) (b : B) → ((f : Pure) → F (mach.Op (op.Pure f)) ≡ b) → {g : MachOp} → IsPure g → F g ≡ b
of_pure F b e (is_pure {f = f}) = e f

of_alike : {B : Type 0} (F : MachOp → B) (b : B) → ((f : Pure) → F (mach.Op (op.Pure f)) ≡ b) → {g h : MachOp} → AreAlike g h → F h ≡ F g
of_alike F b e (same_op s) = ap F s
of_alike F b e (both_pure p r) = of_pure F b e r ∙ sym (of_pure F b e p)

no_mark : {g : MachOp} (f : Mark) → IsPure g → g ≡ mach.Mark f → ⊥
no_mark f (is_pure {f = p}) e = by p f e
  where
    by : (p : Pure) (f : Mark) → mach.Op (op.Pure p) ≡ mach.Mark f → ⊥
    by p f e = cc

mark_was : {g h : MachOp} (f : Mark) → AreAlike g h → h ≡ mach.Mark f → g ≡ mach.Mark f
mark_was f (same_op s) e = sym s ∙ e
mark_was f (both_pure p r) e = absurd (no_mark f r e)

mark_is : {g h : MachOp} (f : Mark) → AreAlike g h → g ≡ mach.Mark f → h ≡ mach.Mark f
mark_is f (same_op s) e = s ∙ e
mark_is f (both_pure p r) e = absurd (no_mark f p e)

-- what no pure operation is
same_where : (F : MachOp → Bool) → ((f : Pure) → F (mach.Op (op.Pure f)) ≡ false) → {g h : MachOp} → AreAlike g h → F g ≡ true → h ≡ g
same_where F e (same_op s) t = s
same_where F e (both_pure p r) t = absurd (both_ways (F _) (of_pure F false e p) t)

abbrev labels_here : MachOp → List ℕ
labels_here (mach.Op f) = []
labels_here (mach.Mark f) = labels_of_mark f

labels_from : (i : Instr) (is : List Instr) → labels_in (i ∷ is) ≡ labels_here i.op ++ labels_in is
labels_from i is = by i.op i.args i.results
  where
    by : (g : MachOp) (args results : List Reg) →
        labels_in (record { op = g; args = args; results = results } ∷ is) ≡ labels_here g ++ labels_in is
    by (mach.Op g) args results = refl
    by (mach.Mark g) args results = refl

-- code with the same labels has them after any instruction
pub same_head : (i : Instr) (xs ys : List Instr) → labels_in xs ≡ labels_in ys → labels_in (i ∷ xs) ≡ labels_in (i ∷ ys)
same_head i xs ys e = labels_from i xs ∙ ap (λ ls. labels_here i.op ++ ls) e ∙ sym (labels_from i ys)

abbrev pub one_each : (ℕ → Instr → Instr) → ℕ → Instr → List Instr
one_each again k i = again k i ∷ []

-- ---- the code

module _ (again : ℕ → Instr → Instr) where
  abbrev f : ℕ → Instr → List Instr
  f = one_each again

  pub record IsMain (j : Instr) (zs code : List Instr) : Type 0 where
    pub instr : Instr
    pub next : List Instr
    pub stands : StandsAsInstr instr next code
    pub same : again (length next) instr ≡ j
    pub same_next : zs ≡ expand f next

  pub was_main : (code : List Instr) (j : Instr) (zs : List Instr) → StandsAsInstr j zs (expand f code) → IsMain j zs code
  was_main [] j zs s = elim s [ ]
  was_main (i ∷ is) j zs s = by refl refl s (λ t. was_main is j zs t)
    where
      by : {x : Instr} {ys : List Instr} → again (length is) i ≡ x → expand f is ≡ ys → StandsAsInstr j zs (x ∷ ys) →
          (StandsAsInstr j zs (expand f is) → IsMain j zs is) → IsMain j zs (i ∷ is)
      by e h here ih = record { instr = i; next = is; stands = here; same = e; same_next = sym h }
      by e h (below t) ih =
          let w = ih (subst (StandsAsInstr j zs) (sym h) t) in
          record { instr = w.instr; next = w.next; stands = below w.stands; same = w.same; same_next = w.same_next }

  -- what holds of each that stands for an instruction and the code after it
  pub both : (code : List Instr) (P : Instr → List Instr → Type 0) →
      ((i : Instr) (next : List Instr) → StandsAsInstr i next code → P (again (length next) i) (expand f next)) →
      (j : Instr) (zs : List Instr) → StandsAsInstr j zs (expand f code) → P j zs
  both code P h j zs s =
      let w = was_main code j zs s in
      subst (λ x. P x zs) w.same
      (subst (λ ys. P (again (length w.next) w.instr) ys) (sym w.same_next) (h w.instr w.next w.stands))

  pub each_in : (code : List Instr) (P : Instr → Type 0) → ((i : Instr) (next : List Instr) → StandsAsInstr i next code → P (again (length next) i)) →
      (j : Instr) → Contains (expand f code) j → P j
  each_in code P h j c = let s = stands_in (expand f code) j c in both code (λ x zs. P x) h j s.0 s.1

  pub all_in : (code : List Instr) (P : Instr → Type 0) → ((i : Instr) (next : List Instr) → StandsAsInstr i next code → P (again (length next) i)) →
      All P (expand f code)
  all_in code P h = λ k d lt.
      each_in code P h (slice_index_or (expand f code) k d) (Contains-get_or (expand f code) k d lt)

-- ---- labels and tries

module _ (again : ℕ → Instr → Instr) (alike : (k : ℕ) (i : Instr) → AreAlike i.op (again k i).op) where
  abbrev g : ℕ → Instr → List Instr
  g = one_each again

  -- of what is the same for all that only computes
  pub op_same : {B : Type 0} (F : MachOp → B) (b : B) → ((f : Pure) → F (mach.Op (op.Pure f)) ≡ b) → (k : ℕ) (i : Instr) →
      F (again k i).op ≡ F i.op
  op_same F b h k i = of_alike F b h (alike k i)

  pub keeps_marks : KeepsMarks (one_each again)
  keeps_marks =
      record {
        mark = λ l n i e. (again n i, refl, same_where (has_label l) (λ f. refl) (alike n i) e);
        none = λ l n i e. not_labelled (op_same (has_label l) false (λ f. refl) n i ∙ e) no_label;
        handler = λ l n i e. (again n i, [], refl, same_where (is_handler_of l) (λ f. refl) (alike n i) e);
        no_other = λ l n i e. not_handled (op_same (is_handler_of l) false (λ f. refl) n i ∙ e) no_handler;
        bound = λ n i e. (again n i, refl, same_where bounds_try (λ f. refl) (alike n i) e);
        unbound = λ n i e. not_bound (op_same bounds_try false (λ f. refl) n i ∙ e) no_bound;
      }

  pub same_labels : (code : List Instr) → labels_in (expand g code) ≡ labels_in code
  same_labels [] = refl
  same_labels (i ∷ is) =
      labels_from (again (length is) i) (expand g is)
      ∙ ap (λ ls. ls ++ labels_in (expand g is)) (op_same labels_here [] (λ f. refl) (length is) i)
      ∙ ap (λ ls. labels_here i.op ++ ls) (same_labels is) ∙ sym (labels_from i is)

  place_there : {l : ℕ} {code : List Instr} → LabelOccursIn l code → LabelOccursIn l (expand g code)
  place_there {l} (place_here {i = i} {is = is} e) = place_here (op_same (has_label l) false (λ f. refl) (length is) i ∙ e)
  place_there (place_below p) = place_below (place_there p)

  handler_there : {l : ℕ} {code : List Instr} → HasHandler l code → HasHandler l (expand g code)
  handler_there {l} (handler_here {i = i} {is = is} e) = handler_here (op_same (is_handler_of l) false (λ f. refl) (length is) i ∙ e)
  handler_there (handler_below p) = handler_below (handler_there p)

  targets_same : (k : ℕ) (i : Instr) → targets (again k i).op ≡ targets i.op
  targets_same k i = op_same targets (On ∷ []) (λ f. refl) k i

  may_raise_same : (k : ℕ) (i : Instr) → may_raise (again k i).op ≡ may_raise i.op
  may_raise_same k i = op_same may_raise false (λ f. refl) k i

  pub frame_same : (k : ℕ) (i : Instr) → passes_frame (again k i).op ≡ passes_frame i.op
  frame_same k i = op_same passes_frame false (λ f. refl) k i

  target_there : {t : Target} (k : ℕ) (i : Instr) → OneOf t (targets (again k i).op) → OneOf t (targets i.op)
  target_there {t} k i o = subst (OneOf t) (targets_same k i) o

  pub tries_same : (code : List Instr) → tries_at (expand g code) ≡ tries_at code
  tries_same code = tries_expand g keeps_marks code

  -- ---- a function of that code

  module _ (m q : Mach) (is : q.code ≡ expand (one_each again) m.code) where
    label_is : (l : ℕ) → after_label l q.code ≡ expand (one_each again) (after_label l m.code)
    label_is l = ap (after_label l) is ∙ label_expand g keeps_marks l m.code

    handler_is : (l : ℕ) → from_handler l q.code ≡ expand (one_each again) (from_handler l m.code)
    handler_is l = ap (from_handler l) is ∙ handler_expand g keeps_marks l m.code

    code_is : (t : Target) (zs next : List Instr) → zs ≡ expand (one_each again) next →
        code_at q.code zs t ≡ expand (one_each again) (code_at m.code next t)
    code_is On zs next e = e
    code_is (At l) zs next e = label_is l

    -- ---- form

    at_label_same : (l : ℕ) → tries_at (after_label l q.code) ≡ tries_at (after_label l m.code)
    at_label_same l = ap tries_at (label_is l) ∙ tries_same (after_label l m.code)

    at_handler_same : (l : ℕ) → tries_at (from_handler l q.code) ≡ tries_at (from_handler l m.code)
    at_handler_same l = ap tries_at (handler_is l) ∙ tries_same (from_handler l m.code)

    main : (P : Instr → List Instr → Type 0) →
        ((i : Instr) (next : List Instr) → StandsAsInstr i next m.code → P (again (length next) i) (expand g next)) →
        (j : Instr) (zs : List Instr) → StandsAsInstr j zs q.code → P j zs
    main P h j zs s = both again m.code P h j zs (subst (StandsAsInstr j zs) is s)

    was : (i : Instr) (next : List Instr) (f : Mark) → (again (length next) i).op ≡ mach.Mark f → i.op ≡ mach.Mark f
    was i next f e = mark_was f (alike (length next) i) e

    pub labels_stand : LabelsStand m → LabelsStand q
    labels_stand old =
        record {
          named = main (λ j zs. (l : ℕ) → TargetsLabel j.op l → LabelOccursIn l q.code)
              (λ i next s l o. subst (LabelOccursIn l) (sym is) (place_there (old.named i next s l (target_there (length next) i o))));
          forward = main (λ j zs. (l : ℕ) → TargetsLabel j.op l → is_exit j.op ≡ false → LabelOccursIn l zs)
              (λ i next s l o e.
              place_there
              (old.forward i next s l (target_there (length next) i o)
              (sym (op_same is_exit false (λ f. refl) (length next) i) ∙ e)));
          handlers = main (λ j zs. (l end : ℕ) → j.op ≡ mach.Mark (mark.Leave l end) → HasHandler l zs)
              (λ i next s l end e. handler_there (old.handlers i next s l end (was i next (mark.Leave l end) e)));
        }

    pub nested : IsNested m → IsNested q
    nested old =
        record {
          at_entry = ap tries_at is ∙ tries_same m.code ∙ old.at_entry;
          at_label = main
              (λ j zs. (l : ℕ) → TargetsLabel j.op l → tries_at (code_at q.code zs (At l)) ≡ tries_left j.op (tries_at (j ∷ zs)))
              (λ i next s l o.
              at_label_same l ∙ old.at_label i next s l (target_there (length next) i o)
              ∙ ap (tries_left i.op) (sym (tries_same (i ∷ next)))
              ∙ sym (op_same (λ h. tries_left h (tries_at (expand g (i ∷ next)))) _ (λ f. refl) (length next) i));
          at_try = main
              (λ j zs. (l : ℕ) → j.op ≡ mach.Mark (mark.Try l) → tries_at zs ≡ l ∷ tries_at (j ∷ zs))
              (λ i next s l e.
              tries_same next ∙ old.at_try i next s l (was i next (mark.Try l) e)
              ∙ ap (λ ts. l ∷ ts) (sym (tries_same (i ∷ next))));
          at_handler = main
              (λ j zs. may_raise j.op ≡ true → (l : ℕ) (tries : List ℕ) → tries_at (j ∷ zs) ≡ l ∷ tries →
              tries_at (from_handler l q.code) ≡ tries)
              (λ i next s r l tries e.
              at_handler_same l
              ∙ old.at_handler i next s (sym (may_raise_same (length next) i) ∙ r) l tries (sym (tries_same (i ∷ next)) ∙ e));
          at_own_handler = main
              (λ j zs. (l : ℕ) → j.op ≡ mach.Mark (mark.Try l) → tries_at (from_handler l q.code) ≡ tries_at (j ∷ zs))
              (λ i next s l e.
              at_handler_same l ∙ old.at_own_handler i next s l (was i next (mark.Try l) e) ∙ sym (tries_same (i ∷ next)));
          at_exit = main
              (λ j zs. (l n : ℕ) → j.op ≡ mach.Mark (mark.Exit l n) → n ≤ length (tries_at (j ∷ zs)))
              (λ i next s l n e.
              subst (λ ts. n ≤ length ts) (sym (tries_same (i ∷ next)))
              (old.at_exit i next s l n (was i next (mark.Exit l n) e)));
          at_end = main (λ j zs. leaves j.op ≡ true → tries_at (j ∷ zs) ≡ [])
              (λ i next s e.
              tries_same (i ∷ next) ∙ old.at_end i next s (sym (op_same leaves false (λ f. refl) (length next) i) ∙ e));
        }

    -- where an instruction of the second has a mark, one of the first has it
    record Had (f : Mark) : Type 0 where
      instr : Instr
      among : Contains m.code instr
      same : instr.op ≡ mach.Mark f

    had : (j : Instr) → Contains q.code j → (f : Mark) → j.op ≡ mach.Mark f → Had f
    had j c f e =
        each_in again m.code (λ x. x.op ≡ mach.Mark f → Had f)
        (λ i next s h. record { instr = i; among = contains_of s; same = was i next f h }) j (subst (λ xs. Contains xs j) is c) e

    -- and back
    record Has (f : Mark) (code : List Instr) : Type 0 where
      instr : Instr
      among : Contains code instr
      same : instr.op ≡ mach.Mark f

    has : (f : Mark) (code : List Instr) (i : Instr) → Contains code i → i.op ≡ mach.Mark f → Has f (expand g code)
    has f [] i c e = absurd (none_in i c)
    has f (j ∷ is) i c e =
        ⊎_elim
        (λ h.
        record {
          instr = again (length is) j;
          among = first_in (again (length is) j) (expand g is);
          same = mark_is f (alike (length is) j) (ap (λ (x : Instr). x.op) h ∙ e);
        })
        (λ d.
        let w = has f is i d e in
        record { instr = w.instr; among = later_in (again (length is) j) w.instr (expand g is) w.among; same = w.same })
        (in_cons j i is c)

    pub cases : CasesAgree m → CasesAgree q
    cases old =
        record {
          agree = λ i j c d labels indexes l end e h k.
              let a = had i c (mark.Switch labels) e in
              let b = had j d (mark.Case indexes l end) h in
              old.agree a.instr b.instr a.among b.among labels indexes l end a.same b.same k;
          none = λ j d indexes l end e h.
              let b = had j d (mark.Case indexes l end) e in
              old.none b.instr b.among indexes l end b.same
              (λ i c labels o k. let w = has (mark.Switch labels) m.code i c o in h w.instr (subst (λ xs. Contains xs w.instr) (sym is) w.among) labels w.same k);
        }

    -- ---- what is reached

    raise_there : {l : ℕ} {tries : List ℕ} (i : Instr) (next : List Instr) → may_raise (again (length next) i).op ≡ true →
        tries_at (again (length next) i ∷ expand g next) ≡ l ∷ tries → Raises m i next (from_handler l m.code)
    raise_there i next r h = raises (sym (may_raise_same (length next) i) ∙ r) (sym (tries_same (i ∷ next)) ∙ h)

    -- the same code by its head
    by_head : {j : Instr} {zs : List Instr} (Q : List Instr → Type 0) (rest : List Instr) → Ending rest m.code → j ∷ zs ≡ expand g rest →
        ((i : Instr) (next : List Instr) → Ending (i ∷ next) m.code → j ∷ zs ≡ expand g (i ∷ next) → Q (i ∷ next)) → Q rest
    by_head Q [] ending e h = absurd (none_there (sym e))
    by_head Q (i ∷ next) ending e h = h i next ending e

    record WasReached (ys : List Instr) : Type 0 where
      rest : List Instr
      ending : Ending rest m.code
      same : ys ≡ expand g rest
      reached : Reached m rest

    reached_from : {j : Instr} {zs ys : List Instr} → WasReached (j ∷ zs) →
        ((i : Instr) (next : List Instr) → Ending (i ∷ next) m.code → j ∷ zs ≡ expand g (i ∷ next) → Reached m (i ∷ next) →
        WasReached ys) → WasReached ys
    reached_from {ys = ys} b h = by_head (λ rest. Reached m rest → WasReached ys) b.rest b.ending b.same h b.reached

    reached_back : {ys : List Instr} → Reached q ys → WasReached ys
    reached_back at_entry = record { rest = m.code; ending = all; same = is; reached = at_entry }
    reached_back (by_step {i = j} {next = zs} r (goes t o)) =
        reached_from (reached_back r)
        (λ i next end h there.
        record {
          rest = code_at m.code next t;
          ending = ending_at t end;
          same = code_is t zs next (tail_same h);
          reached = by_step there
              (goes t (target_there (length next) i (subst (λ (x : Instr). OneOf t (targets x.op)) (head_same h) o)));
        })
    reached_back (by_raise {i = j} {next = zs} r (raises {l = l} {tries = tries} e h)) =
        reached_from (reached_back r)
        (λ i next end s there.
        record {
          rest = from_handler l m.code;
          ending = ending_from_handler l m.code;
          same = handler_is l;
          reached = by_raise there
              (raise_there i next (subst (λ (x : Instr). may_raise x.op ≡ true) (head_same s) e) (ap tries_at (sym s) ∙ h));
        })

    -- No addr is live after a frame point, if none is so where the first function is reached.
    pub no_addr_back : ((i : Instr) (next : List Instr) → Ending (i ∷ next) m.code → Reached m (i ∷ next) → passes_frame i.op ≡ true →
        (r : Reg) → IsRegister q r → r.comp ≡ comp.Addr →
        LiveAcross q r.number (again (length next) i) (expand (one_each again) next) → ⊥) → NoAddrLive q
    no_addr_back none =
        record {
          none = λ j zs reached frame r one addr v.
              let b = reached_back reached in
              by_head (λ rest. Reached m rest → ⊥) b.rest b.ending b.same
              (λ i next end h there.
              none i next end there
              (sym (frame_same (length next) i) ∙ ap (λ (x : Instr). passes_frame x.op) (sym (head_same h)) ∙ frame) r one addr
              (subst (λ ys. LiveAcross q r.number (again (length next) i) ys) (tail_same h)
              (subst (λ (x : Instr). LiveAcross q r.number x zs) (head_same h) v)))
              b.reached;
        }

    -- ---- what is live

    -- What is so of a number where it is read, and before an instruction that does not write it and leads to where it is so, is so
    -- wherever the number is live.
    pub record Carries (Was : ℕ → List Instr → Type 0) : Type 0 where
      pub reads : (n : ℕ) (i : Instr) (next : List Instr) → Ending (i ∷ next) m.code → AmongRegisters n (again (length next) i).args →
          Was n (i ∷ next)
      pub steps : (n : ℕ) (i : Instr) (next : List Instr) (t : Target) → Ending (i ∷ next) m.code →
          (Writes q (again (length next) i) n → ⊥) → OneOf t (targets i.op) → Was n (code_at m.code next t) → Was n (i ∷ next)
      pub rises : (n : ℕ) (i : Instr) (next : List Instr) (l : ℕ) → Raises m i next (from_handler l m.code) →
          Was n (from_handler l m.code) → Was n (i ∷ next)

    module _ (Was : ℕ → List Instr → Type 0) (carries : Carries Was) where
      pub live_back : {n : ℕ} {ys : List Instr} → Live q n ys → (rest : List Instr) → Ending rest m.code →
          ys ≡ expand (one_each again) rest → Was n rest
      live_back {n} (read {i = j} {next = zs} a) rest ending e =
          by_head (Was n) rest ending e
          (λ i next end h. carries.reads n i next end (subst (λ (x : Instr). AmongRegisters n x.args) (head_same h) a))
      live_back {n} (on {i = j} {next = zs} free (goes t o) v) rest ending e =
          by_head (Was n) rest ending e
          (λ i next end h.
          carries.steps n i next t end (λ w. free (subst (λ (x : Instr). Writes q x n) (sym (head_same h)) w))
          (target_there (length next) i (subst (λ (x : Instr). OneOf t (targets x.op)) (head_same h) o))
          (live_back v (code_at m.code next t) (ending_at t end) (code_is t zs next (tail_same h))))
      live_back {n} (aside {i = j} {next = zs} (raises {l = l} {tries = tries} r s) v) rest ending e =
          by_head (Was n) rest ending e
          (λ i next end h.
          carries.rises n i next l
          (raise_there i next (subst (λ (x : Instr). may_raise x.op ≡ true) (head_same h) r) (ap tries_at (sym h) ∙ s))
          (live_back v (from_handler l m.code) (ending_from_handler l m.code) (handler_is l)))

      pub across_back : {A : Type 0} {n : ℕ} {i : Instr} {next : List Instr} → Ending (i ∷ next) m.code →
          ((t : Target) → (Writes q (again (length next) i) n → ⊥) → OneOf t (targets i.op) → Was n (code_at m.code next t) → A) →
          ((l : ℕ) → Raises m i next (from_handler l m.code) → Was n (from_handler l m.code) → A) →
          LiveAcross q n (again (length next) i) (expand (one_each again) next) → A
      across_back {i = i} {next = next} ending step rise (across_step free (goes t o) v) =
          step t free (target_there (length next) i o)
          (live_back v (code_at m.code next t) (ending_at t ending) (code_is t (expand g next) next refl))
      across_back {i = i} {next = next} ending step rise (across_raise (raises {l = l} {tries = tries} r h) v) =
          rise l (raise_there i next r h) (live_back v (from_handler l m.code) (ending_from_handler l m.code) (handler_is l))

      pub after_back : {A : Type 0} {n : ℕ} {i : Instr} {next : List Instr} → Ending (i ∷ next) m.code →
          ((t : Target) → OneOf t (targets i.op) → Was n (code_at m.code next t) → A) →
          LiveAfter q n (again (length next) i) (expand (one_each again) next) → A
      after_back {i = i} {next = next} ending step (after_step (goes t o) v) =
          step t (target_there (length next) i o)
          (live_back v (code_at m.code next t) (ending_at t ending) (code_is t (expand g next) next refl))
