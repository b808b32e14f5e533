-- What the flow analysis says of writes: which of them come to each place.
use Rattle.std.proofs.Common.{◌≡◌, ◌≢◌, ℕ, zero, suc, ◌+◌, ◌-◌, ◌<◌, ◌≤◌, Bool, true, ◌⊎◌, inl, inr, ⊎_elim, List, [], ◌∷◌, ◌++◌, Option, Some, None, map, length, drop, refl, sym, ap, ◌∙◌, subst, arith}
use Rattle.std.proofs.lemmas.List.Elements.{Contains-append_left, Contains-append_right, All-nil, All-cons, Contains-append_cases}
use Rattle.std.proofs.lemmas.List.{length-drop, length-append}
use Rattle.std.proofs.lemmas.Option.{slice_get_within}
use Rattle.std.specs.List.{All, Contains}
use Rattle.std.specs.Prelude.{slice_get, slice_index_or}
use Rattle.bs_words.specs.Contents.{contents}
use Rattle.bs_words.specs.declared.types.Loc.TheVariants as loc
use Rattle.bs_words.proofs.Lists.{none_in, first_in, later_in, in_cons, drop_none}
use Rattle.dataflow.specs.Flow.{Graph, graph, IsPlace, IsFlowFormed}
use Rattle.dataflow.specs.Reach.{ComesIn, ComesTo, IsReaching}
use Rattle.dataflow.specs.declared.flow.Flow as flow
use Rattle.dataflow.specs.declared.flow.Place as place
use Rattle.mach_ir.specs.Acts.{Target}
use Rattle.mach_ir.specs.Formed as well
use Rattle.mach_ir.specs.Meaning.{code_at, from_handler, killed, tries_at}
use Rattle.mach_ir.specs.Walks.{AmongRegisters, first, later, OneOf, targets, may_raise, goes, raises, Writes}
use Rattle.mach_ir.specs.declared.reg.Reg.{Reg}
use Rattle.mach_ir.specs.declared.mach.Instr.{Instr}
use Rattle.mach_ir.specs.declared.mach.Mach.{Mach}
use Rattle.mach_laws.specs.Expand.{Ending, all, more}
use Rattle.mach_laws.specs.Graph.{code_index, next_places, raise_places}
use Rattle.mach_laws.proofs.Places.{ending_next, ending_from_handler, stands_of, ending_of}
use Rattle.mach_laws.proofs.Walking.{drop_ending, ending_at, place_is, place_at, place_back, place_within, ending_place, target_of, in_targets, handler_of, in_handlers}
use Rattle.mach_laws.proofs.Among.{left_among, split_among}
use Rattle.liveness.specs.Nodes.{AreLivenessNodes}
use Rattle.liveness.proofs.Graph.{count_is, part_is, nodes_within}
use Rattle.split_rules.proofs.Result.{comes_ends}
use Rattle.split_rules.specs.Writes.{WriteReaches, from_entry, from_write, past, past_raise}
use Rattle.split.specs.Reach.{listed, made_at, ended_by, made_before, ended_before, write_uses, IsReachingEntry, AreReaching}
use Rattle.split.specs.Writes.{listed_writes, writes_of_number, find_at, AreWrites, code_after}
use Rattle.split_rules.specs.declared.writes.Write.{Write}
use Rattle.split.specs.declared.writes.Writes as table
use Rattle.split.proofs.Members.{some_is, got_in, IsOpenWrite, open_write, open_not_killed, found_at}

-- ---- lists of lists

at_left : (xs ys : List (List ℕ)) (p : ℕ) → p < length xs → slice_index_or (xs ++ ys) p [] ≡ slice_index_or xs p []
at_left [] ys p lt = absurd (omega (arith, lt))
at_left (x ∷ xs) ys zero lt = refl
at_left (x ∷ xs) ys (suc p) lt = at_left xs ys p (omega (arith, lt))

at_last : (xs : List (List ℕ)) (y : List ℕ) (p : ℕ) → p ≡ length xs → slice_index_or (xs ++ y ∷ []) p [] ≡ y
at_last [] y zero e = refl
at_last [] y (suc p) e = absurd (omega (arith, e))
at_last (x ∷ xs) y zero e = absurd (omega (arith, e))
at_last (x ∷ xs) y (suc p) e = at_last xs y p (omega (arith, e))

at_past : (xs : List (List ℕ)) (p : ℕ) → length xs ≤ p → slice_index_or xs p [] ≡ []
at_past [] p le = refl
at_past (x ∷ xs) zero le = absurd (omega (arith, le))
at_past (x ∷ xs) (suc p) le = at_past xs p (omega (arith, le))

length_map : {A B : Type 0} (f : A → B) (xs : List A) → length (map f xs) ≡ length xs
length_map f [] = refl
length_map f (x ∷ xs) = ap suc (length_map f xs)

map_joined : {A B : Type 0} (f : A → B) (xs ys : List A) → map f (xs ++ ys) ≡ map f xs ++ map f ys
map_joined f [] ys = refl
map_joined f (x ∷ xs) ys = ap (λ zs. f x ∷ zs) (map_joined f xs ys)

all_joined : {A : Type 0} (P : A → Type 0) (xs : List A) (y : A) → All P xs → P y → All P (xs ++ y ∷ [])
all_joined P [] y h e = All-cons P y [] e (All-nil P)
all_joined P (x ∷ xs) y h e =
    All-cons P x (xs ++ y ∷ []) (h 0 x (omega arith))
    (all_joined P xs y (λ k d lt. h (suc k) d (omega (arith, lt))) e)

where_is : (p k : ℕ) → (p ≤ k) ⊎ ((p ≡ suc k) ⊎ (suc k < p))
where_is zero k = inl (omega arith)
where_is (suc zero) zero = inr (inl refl)
where_is (suc (suc p)) zero = inr (inr (omega arith))
where_is (suc p) (suc k) =
    ⊎_elim (λ le. inl (omega (arith, le)))
    (λ h. ⊎_elim (λ e. inr (inl (ap suc e))) (λ lt. inr (inr (omega (arith, lt)))) h) (where_is p k)

-- ---- what is made and ended, by number

made_in : (t : table.Writes) (k : ℕ) (rs : List Reg) (n w : ℕ) → AmongRegisters n rs → find_at (listed_writes t) k (writes_of_number t n) ≡ Some w →
    Contains (made_at t k rs) w
made_in t k [] n w a e = elim a [ ]
made_in t k (r ∷ rs) n w (first s) e =
    Contains-append_left (listed (find_at (listed_writes t) k (writes_of_number t r.number))) (made_at t k rs) w
    (subst (λ o. Contains (listed o) w) (sym (ap (λ n. find_at (listed_writes t) k (writes_of_number t n)) s ∙ e)) (first_in w []))
made_in t k (r ∷ rs) n w (later a) e =
    Contains-append_right (listed (find_at (listed_writes t) k (writes_of_number t r.number))) (made_at t k rs) w (made_in t k rs n w a e)

in_made : (t : table.Writes) (k : ℕ) (rs : List Reg) (w : ℕ) → Contains (made_at t k rs) w →
    (n : ℕ) × AmongRegisters n rs × (find_at (listed_writes t) k (writes_of_number t n) ≡ Some w)
in_made t k [] w c = absurd (none_in w c)
in_made t k (r ∷ rs) w c =
    ⊎_elim (λ h. (r.number, first refl, listed_is (find_at (listed_writes t) k (writes_of_number t r.number)) h))
    (λ h. let g = in_made t k rs w h in (g.0, later g.1, g.2))
    (Contains-append_cases (listed (find_at (listed_writes t) k (writes_of_number t r.number))) (made_at t k rs) w c)
  where
    listed_is : (o : Option ℕ) → Contains (listed o) w → o ≡ Some w
    listed_is None c = absurd (none_in w c)
    listed_is (Some v) c = ⊎_elim (λ e. ap Some e) (λ d. absurd (none_in w d)) (in_cons v w [] c)

ended_in : (t : table.Writes) (rs : List Reg) (n w : ℕ) → AmongRegisters n rs → Contains (writes_of_number t n) w → Contains (ended_by t rs) w
ended_in t [] n w a c = elim a [ ]
ended_in t (r ∷ rs) n w (first s) c =
    Contains-append_left (writes_of_number t r.number) (ended_by t rs) w (subst (λ n. Contains (writes_of_number t n) w) (sym s) c)
ended_in t (r ∷ rs) n w (later a) c = Contains-append_right (writes_of_number t r.number) (ended_by t rs) w (ended_in t rs n w a c)

in_ended : (t : table.Writes) (rs : List Reg) (w : ℕ) → Contains (ended_by t rs) w → (n : ℕ) × AmongRegisters n rs × Contains (writes_of_number t n) w
in_ended t [] w c = absurd (none_in w c)
in_ended t (r ∷ rs) w c =
    ⊎_elim (λ h. (r.number, first refl, h)) (λ h. let g = in_ended t rs w h in (g.0, later g.1, g.2))
    (Contains-append_cases (writes_of_number t r.number) (ended_by t rs) w c)

-- ---- places and targets

module _ (m : Mach) where
  after_next : {next : List Instr} → Ending next m.code → code_after m (length next) ≡ next
  after_next e = drop_ending e

  -- ---- the graph of the analysis

  module _ (t : table.Writes) (f : flow.Flow) (nodes : List place.Place) (entry : place.Place)
      (whole : contents f.places ≡ nodes ++ entry ∷ []) (are : AreLivenessNodes m (write_uses t) m.code nodes)
      (is_entry : IsReachingEntry m t entry) where
    abbrev g : Graph
    g = graph f

    end : ℕ
    end = suc (length m.code)

    module _ (part : place.Place → List ℕ) where
      parts : map part (contents f.places) ≡ map part nodes ++ part entry ∷ []
      parts = ap (map part) whole ∙ map_joined part nodes (entry ∷ [])

      count : length (map part nodes) ≡ suc (length m.code)
      count = length_map part nodes ∙ count_is m (write_uses t) are

      at_place : (p : ℕ) → p ≤ length m.code →
          slice_index_or (map part (contents f.places)) p [] ≡ slice_index_or (map part nodes) p []
      at_place p le =
          let c = count in
          ap (λ xs. slice_index_or xs p []) parts ∙ at_left (map part nodes) (part entry ∷ []) p (omega (arith, le, c))

      at_entry : slice_index_or (map part (contents f.places)) (suc (length m.code)) [] ≡ part entry
      at_entry =
          ap (λ xs. slice_index_or xs (suc (length m.code)) []) parts
          ∙ at_last (map part nodes) (part entry) (suc (length m.code)) (sym count)

      at_none : (p : ℕ) → suc (length m.code) < p → slice_index_or (map part (contents f.places)) p [] ≡ []
      at_none p lt =
          let c = count in
          let long = length-append (map part nodes) (part entry ∷ []) in
          ap (λ xs. slice_index_or xs p []) parts
          ∙ at_past (map part nodes ++ part entry ∷ []) p (omega (arith, lt, c, long))

    next_at : (p : ℕ) → p ≤ length m.code → g.next p ≡ next_places m (drop p m.code)
    next_at p le =
        at_place (λ x. contents x.next) p le
        ∙ part_is m (write_uses t) (λ x. contents x.next) (next_places m) refl (λ rest node n. n.next) are p

    aside_at : (p : ℕ) → p ≤ length m.code → g.aside p ≡ raise_places m (drop p m.code)
    aside_at p le =
        at_place (λ x. contents x.aside) p le
        ∙ part_is m (write_uses t) (λ x. contents x.aside) (raise_places m) refl (λ rest node n. n.aside) are p

    reads_at : (p : ℕ) → p ≤ length m.code → g.reads p ≡ made_before t (drop p m.code)
    reads_at p le =
        at_place (λ x. contents x.reads) p le
        ∙ part_is m (write_uses t) (λ x. contents x.reads) (made_before t) refl (λ rest node n. n.reads) are p

    writes_at : (p : ℕ) → p ≤ length m.code → g.writes p ≡ ended_before t (drop p m.code)
    writes_at p le =
        at_place (λ x. contents x.writes) p le
        ∙ part_is m (write_uses t) (λ x. contents x.writes) (ended_before t) refl (λ rest node n. n.writes) are p

    -- ---- which places lead where

    -- a step leads from a place of the text, or from the entry to the first
    data From (o q : ℕ) : Type 0 where
      by_text : (i : Instr) (next : List Instr) (t : Target) → q ≤ length m.code → o ≤ length m.code → drop o m.code ≡ i ∷ next → OneOf t (targets i.op) →
          drop q m.code ≡ code_at m.code next t → From o q
      by_start : o ≡ suc (length m.code) → q ≡ 0 → From o q

    from_text : (o q : ℕ) → o ≤ length m.code → (rest : List Instr) → drop o m.code ≡ rest → Contains (next_places m rest) q → From o q
    from_text o q le [] e c = absurd (none_in q c)
    from_text o q le (i ∷ next) e c =
        let t = target_of m next (targets i.op) q c in
        by_text i next t.0 (subst (λ q. q ≤ length m.code) t.2 (place_within m (code_at m.code next t.0))) le e t.1
        (place_at m (ending_at t.0 (ending_place m o e)) t.2)

    from_of : (o q : ℕ) → Contains (g.next o) q → From o q
    from_of o q c =
        ⊎_elim (λ le. from_text o q le (drop o m.code) refl (subst (λ xs. Contains xs q) (next_at o le) c))
        (λ more.
        ⊎_elim
        (λ e.
        by_start e
        (⊎_elim (λ z. sym z) (λ d. absurd (none_in q d))
        (in_cons 0 q []
        (subst (λ xs. Contains xs q) (ap g.next e ∙ at_entry (λ x. contents x.next) ∙ is_entry.next) c))))
        (λ lt. absurd (none_in q (subst (λ xs. Contains xs q) (at_none (λ x. contents x.next) o lt) c)))
        more) (where_is o (length m.code))

    -- a raise leads from a place of the text
    record FromRaise (o q : ℕ) : Type 0 where
      instr : Instr
      next : List Instr
      label : ℕ
      tries : List ℕ
      lands : q ≤ length m.code
      within : o ≤ length m.code
      is : drop o m.code ≡ instr ∷ next
      may : may_raise (instr.op) ≡ true
      round : tries_at (instr ∷ next) ≡ label ∷ tries
      to : drop q m.code ≡ from_handler label m.code

    raise_text : (o q : ℕ) → o ≤ length m.code → (rest : List Instr) → drop o m.code ≡ rest → Contains (raise_places m rest) q →
        FromRaise o q
    raise_text o q le [] e c = absurd (none_in q c)
    raise_text o q le (i ∷ next) e c =
        let h = handler_of m (may_raise i.op) (tries_at (i ∷ next)) q c in
        record {
          instr = i;
          next = next;
          label = h.0;
          tries = h.1;
          lands = subst (λ q. q ≤ length m.code) h.4 (place_within m (from_handler h.0 m.code));
          within = le;
          is = e;
          may = h.2;
          round = h.3;
          to = place_at m (ending_from_handler h.0 m.code) h.4;
        }

    raise_of : (o q : ℕ) → Contains (g.aside o) q → FromRaise o q
    raise_of o q c =
        ⊎_elim (λ le. raise_text o q le (drop o m.code) refl (subst (λ xs. Contains xs q) (aside_at o le) c))
        (λ more.
        ⊎_elim
        (λ e. absurd (none_in q (subst (λ xs. Contains xs q) (ap g.aside e ∙ at_entry (λ x. contents x.aside) ∙ is_entry.aside) c)))
        (λ lt. absurd (none_in q (subst (λ xs. Contains xs q) (at_none (λ x. contents x.aside) o lt) c)))
        more) (where_is o (length m.code))

    -- ---- walks

    module _ (free : ℕ) (formed : well.WellFormed m) (writes : AreWrites m free t)
        (colour_fixed : (r : Reg) → Contains m.colours r → r.loc ≢ loc.Unset) where
      open_of : (w : ℕ) (x : Write) → slice_get (listed_writes t) w ≡ Some x → IsOpenWrite m x
      open_of w x e = open_write m x (subst (λ xs. Contains xs x) writes.all (got_in (listed_writes t) w x e))

      -- a write with this index comes to this code
      record Came (w : ℕ) (rest : List Instr) : Type 0 where
        write : Write
        is : slice_get (listed_writes t) w ≡ Some write
        comes : WriteReaches m write.number (code_after m write.left) rest

      came_at : (w : ℕ) (xs ys : List Instr) → xs ≡ ys → Came w xs → Came w ys
      came_at w xs ys e c =
          record { write = c.write; is = c.is; comes = subst (WriteReaches m (c.write).number (code_after m (c.write).left)) e c.comes }

      -- the write that was found among those of a number
      made_is : (k n w : ℕ) → find_at (listed_writes t) k (writes_of_number t n) ≡ Some w →
          (x : Write) × (slice_get (listed_writes t) w ≡ Some x) × (x.left ≡ k) × (x.number ≡ n)
      made_is k n w e =
          let a = found_at (listed_writes t) k (writes_of_number t n) w e in
          let b = (writes.grouped).sound n w a.among in
          (a.write, a.is, a.left, ap (λ (x : Write). x.number) (some_is a.write b.0 (sym a.is ∙ b.1)) ∙ b.2)

      made_comes : (w : ℕ) (i : Instr) (next : List Instr) (t' : Target) → Ending (i ∷ next) m.code → OneOf t' (targets i.op) →
          Contains (made_at t (length next) i.results) w → Came w (code_at m.code next t')
      made_comes w i next t' ending o c =
          let n = in_made t (length next) i.results w c in
          let x = made_is (length next) n.0 w n.2 in
          let after_is : code_after m x.0.left ≡ next = ap (code_after m) x.2 ∙ after_next (ending_next ending) in
          record {
            write = x.0;
            is = x.1;
            comes = subst (λ n. WriteReaches m n (code_after m x.0.left) (code_at m.code next t')) (sym x.3)
                (subst (λ from. WriteReaches m n.0 from (code_at m.code next t')) (sym after_is)
                (from_write (stands_of ending) (left_among i.results (killed m i) n.1) (goes t' o)));
          }

      not_ended : (w : ℕ) (i : Instr) (next : List Instr) (x : Write) → slice_get (listed_writes t) w ≡ Some x →
          (Contains (ended_by t i.results) w → ⊥) → Writes m i x.number → ⊥
      not_ended w i next x e free_of a =
          ⊎_elim (λ r. free_of (ended_in t i.results x.number w r ((writes.grouped).whole w x e)))
          (λ k. open_not_killed m formed colour_fixed x i (open_of w x e) k) (split_among x.number i.results (killed m i) a)

      from_le : {o q : ℕ} → From o q → q ≤ length m.code
      from_le (by_text i next t le within e o to) = le
      from_le (by_start e h) = subst (λ q. q ≤ length m.code) (sym h) (omega arith)

      too_far : suc (length m.code) ≤ length m.code → ⊥
      too_far le = omega (arith, le)

      no_way_in : (k w : ℕ) → ComesIn g w k (suc (length m.code)) → ⊥
      no_way_in zero w h = h
      no_way_in (suc k) w h =
          ⊎_elim (λ s. too_far (from_le (from_of s.0 (suc (length m.code)) s.1)))
          (λ s. too_far (raise_of s.0 (suc (length m.code)) s.1).lands) h

      -- what was known one step before
      abbrev Known : ℕ → ℕ → Type 0
      Known k w = (q : ℕ) → q ≤ length m.code → ComesIn g w k q → Came w (drop q m.code)

      stepped : (k w o q : ℕ) → Known k w → From o q →
          Contains (g.reads o) w ⊎ ((Contains (g.writes o) w → ⊥) × ComesIn g w k o) → Came w (drop q m.code)
      stepped k w o q known (by_text i next t' le within e one to) h =
          let ending = ending_place m o e in
          came_at w (code_at m.code next t') (drop q m.code) (sym to)
          (⊎_elim
          (λ c.
          made_comes w i next t' ending one
          (subst (λ xs. Contains xs w) (reads_at o within ∙ ap (made_before t) e) c))
          (λ c.
          let x = came_at w (drop o m.code) (i ∷ next) e (known o within c.1) in
          record {
            write = x.write;
            is = x.is;
            comes = past x.comes
                (not_ended w i next x.write x.is
                (λ d. c.0 (subst (λ xs. Contains xs w) (sym (writes_at o within ∙ ap (ended_before t) e)) d)))
                (goes t' one);
          }) h)
      stepped k w o q known (by_start e z) h =
          came_at w m.code (drop q m.code) (sym (ap (λ k. drop k m.code) z ∙ drop_none m.code))
          (⊎_elim
          (λ c.
          let made = subst (λ xs. Contains xs w) (ap g.reads e ∙ at_entry (λ x. contents x.reads) ∙ is_entry.reads) c in
          let n = in_made t (length m.code) m.params w made in
          let x = made_is (length m.code) n.0 w n.2 in
          let after_is : code_after m x.0.left ≡ m.code = ap (code_after m) x.2 ∙ drop_ending all in
          record {
            write = x.0;
            is = x.1;
            comes = subst (λ n. WriteReaches m n (code_after m x.0.left) m.code) (sym x.3)
                (subst (λ from. WriteReaches m n.0 from m.code) (sym after_is) (from_entry n.1));
          })
          (λ c. absurd (no_way_in k w (subst (ComesIn g w k) e c.1))) h)

      raised : (k w o q : ℕ) → Known k w → FromRaise o q → ComesIn g w k o → Came w (drop q m.code)
      raised k w o q known r h =
          let x = came_at w (drop o m.code) (r.instr ∷ r.next) r.is (known o r.within h) in
          came_at w (from_handler r.label m.code) (drop q m.code) (sym r.to)
          (record { write = x.write; is = x.is; comes = past_raise x.comes (raises r.may r.round) })

      to_comes : (k w : ℕ) → Known k w
      to_comes zero w = λ q le h. absurd h
      to_comes (suc k) w = λ q le h.
          ⊎_elim (λ s. stepped k w s.0 q (to_comes k w) (from_of s.0 q s.1) s.2)
          (λ s. raised k w s.0 q (to_comes k w) (raise_of s.0 q s.1) s.2) h

      -- ---- and back

      number_found : (n w : ℕ) (from : List Instr) → find_at (listed_writes t) (length from) (writes_of_number t n) ≡ Some w →
          (x : Write) × (slice_get (listed_writes t) w ≡ Some x) × (x.number ≡ n)
      number_found n w from e = let x = made_is (length from) n w e in (x.0, x.1, x.3)

      comes_to : {n : ℕ} {from rest : List Instr} → WriteReaches m n from rest → (p w : ℕ) → p ≤ length m.code → drop p m.code ≡ rest →
          find_at (listed_writes t) (length from) (writes_of_number t n) ≡ Some w → ComesTo g p w
      comes_to {n} (from_entry a) p w le e found =
          let start : p ≡ 0 = by p le e in (
            1,
            inl (
              suc (length m.code),
              subst (λ xs. Contains xs p) (sym (at_entry (λ x. contents x.next) ∙ is_entry.next))
                  (subst (λ p. Contains (0 ∷ []) p) (sym start) (first_in 0 [])),
              inl (subst (λ xs. Contains xs w) (sym (at_entry (λ x. contents x.reads) ∙ is_entry.reads))
                  (made_in t (length m.code) m.params n w a found)),
            ),
          )
        where
          by : (p : ℕ) → p ≤ length m.code → drop p m.code ≡ m.code → p ≡ 0
          by p le e =
              let long : length (drop p m.code) ≡ length m.code - p = length-drop p m.code in
              let same : length (drop p m.code) ≡ length m.code = ap length e in
              omega (arith, le, long, same)
      comes_to {n} (from_write {i = i} {next = next} s a (goes t' o)) p w le e found =
          let ending = ending_of s in
          let at = code_index m (i ∷ next) in
          let here_is : drop at m.code ≡ i ∷ next = place_is m ending in
          let within = place_within m (i ∷ next) in
          let x = number_found n w next found in
          let made : Contains (made_at t (length next) i.results) w =
          ⊎_elim (λ r. made_in t (length next) i.results n w r found)
          (λ k.
          absurd
          (open_not_killed m formed colour_fixed x.0 i (open_of w x.0 x.1) (subst (λ n. AmongRegisters n (killed m i)) (sym x.2) k)))
          (split_among n i.results (killed m i) a) in (
            1,
            inl (
              at,
              subst (λ xs. Contains xs p) (sym (next_at at within ∙ ap (next_places m) here_is))
                  (subst (λ p. Contains (next_places m (i ∷ next)) p) (place_back m p (code_at m.code next t') le e) (in_targets m next o)),
              inl (subst (λ xs. Contains xs w) (sym (reads_at at within ∙ ap (made_before t) here_is)) made),
            ),
          )
      comes_to {n} (past {i = i} {from = from} {next = next} c free_of (goes t' o)) p w le e found =
          let ending = comes_ends m c in
          let at = code_index m (i ∷ next) in
          let here_is : drop at m.code ≡ i ∷ next = place_is m ending in
          let within = place_within m (i ∷ next) in
          let x = number_found n w from found in
          let before = comes_to c at w within here_is found in
          let out : Contains (g.writes at) w → ⊥ =
          λ (d : Contains (g.writes at) w).
          let r = in_ended t i.results w (subst (λ xs. Contains xs w) (writes_at at within ∙ ap (ended_before t) here_is) d) in
          let y = (writes.grouped).sound r.0 w r.2 in
          let same : r.0 ≡ n = sym y.2 ∙ ap (λ (x : Write). x.number) (some_is y.0 x.0 (sym y.1 ∙ x.1)) ∙ x.2 in
          free_of (left_among i.results (killed m i) (subst (λ n. AmongRegisters n i.results) same r.1)) in (
            suc before.0,
            inl (
              at,
              subst (λ xs. Contains xs p) (sym (next_at at within ∙ ap (next_places m) here_is))
                  (subst (λ p. Contains (next_places m (i ∷ next)) p) (place_back m p (code_at m.code next t') le e) (in_targets m next o)),
              inr (out, before.1),
            ),
          )
      comes_to {n} (past_raise {i = i} {from = from} {next = next} c (raises {l = l} {tries = tries} b r)) p w le e found =
          let ending = comes_ends m c in
          let at = code_index m (i ∷ next) in
          let here_is : drop at m.code ≡ i ∷ next = place_is m ending in
          let within = place_within m (i ∷ next) in
          let before = comes_to c at w within here_is found in (
            suc before.0,
            inr (
              at,
              subst (λ xs. Contains xs p) (sym (aside_at at within ∙ ap (raise_places m) here_is))
                  (subst (λ p. Contains (raise_places m (i ∷ next)) p) (place_back m p (from_handler l m.code) le e)
                  (in_handlers m (may_raise i.op) (tries_at (i ∷ next)) l tries b r)),
              before.1,
            ),
          )

      -- the analysis says which writes come to each place
      pub is_reaching : (rows : List (List Bool)) → IsReaching f rows → AreReaching m t rows
      is_reaching rows h =
          record {
            sound = λ p w le e.
                let k = (h.exact p w).0 e in
                let x = to_comes k.0 w p le k.1 in
                (x.write, x.is, x.comes);
            whole = λ p w n from le c found. (h.exact p w).1 (comes_to c p w le refl found);
          }

    -- ---- the graph is one

    module _ (free : ℕ) (writes : AreWrites m free t) (bound : f.bound ≡ length (listed_writes t)) where
      index_below : (n w : ℕ) → Contains (writes_of_number t n) w → w < f.bound
      index_below n w c =
          let x = (writes.grouped).sound n w c in
          let lt : w < length (listed_writes t) = slice_get_within (listed_writes t) w x.0 x.1 in
          omega (arith, lt, bound)

      each_below : (ws : List ℕ) → ((w : ℕ) → Contains ws w → w < f.bound) → All (λ w. w < f.bound) ws
      each_below [] h = All-nil (λ w. w < f.bound)
      each_below (w ∷ ws) h =
          All-cons (λ w. w < f.bound) w ws (h w (first_in w ws)) (each_below ws (λ v c. h v (later_in w v ws c)))

      made_below : (k : ℕ) (rs : List Reg) → All (λ w. w < f.bound) (made_at t k rs)
      made_below k rs =
          each_below (made_at t k rs)
          (λ w c. let n = in_made t k rs w c in index_below n.0 w (found_at (listed_writes t) k (writes_of_number t n.0) w n.2).among)

      ended_below : (rs : List Reg) → All (λ w. w < f.bound) (ended_by t rs)
      ended_below rs = each_below (ended_by t rs) (λ w c. let n = in_ended t rs w c in index_below n.0 w n.2)

      rest_below : (rest : List Instr) → All (λ w. w < f.bound) (made_before t rest) × All (λ w. w < f.bound) (ended_before t rest)
      rest_below [] = (All-nil (λ w. w < f.bound), All-nil (λ w. w < f.bound))
      rest_below (i ∷ next) = (made_below (length next) i.results, ended_below i.results)

      pub flow_formed : IsFlowFormed f
      flow_formed =
          let nodes_count : length nodes ≡ suc (length m.code) = count_is m (write_uses t) are in
          let total : length (contents f.places) ≡ length nodes + 1 = ap length whole ∙ length-append nodes (entry ∷ []) in
          let more : length m.code < length (contents f.places) = omega (arith, nodes_count, total) in
          subst (All (IsPlace (length (contents f.places)) f.bound)) (sym whole)
          (all_joined (IsPlace (length (contents f.places)) f.bound) nodes entry
          (nodes_within m (write_uses t) (length (contents f.places)) f.bound more are (λ p. rest_below (drop p m.code)))
          (record {
            next = subst (All (λ q. q < length (contents f.places))) (sym is_entry.next)
                (All-cons (λ q. q < length (contents f.places)) 0 [] (omega (arith, total)) (All-nil (λ q. q < length (contents f.places))));
            aside = subst (All (λ q. q < length (contents f.places))) (sym is_entry.aside) (All-nil (λ q. q < length (contents f.places)));
            reads = subst (All (λ w. w < f.bound)) (sym is_entry.reads) (made_below (length m.code) m.params);
            writes = subst (All (λ w. w < f.bound)) (sym is_entry.writes) (All-nil (λ w. w < f.bound));
          }))
