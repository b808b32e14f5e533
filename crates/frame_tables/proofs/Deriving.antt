-- From a search to exact descriptors.
use Rattle.std.proofs.Common.{◌≡◌, ℕ, zero, suc, ◌+◌, ◌-◌, ◌<◌, ◌≤◌, Bool, inl, inr, ⊎_elim, List, [], ◌∷◌, Some, length, drop, refl, sym, ap, ◌∙◌, subst, arith}
use Rattle.std.specs.List.{All, Contains}
use Rattle.std.specs.Prelude.{slice_get, slice_index_or}
use Rattle.std.proofs.lemmas.Bool.{cases_lt}
use Rattle.std.proofs.lemmas.List.Elements.{All-nil}
use Rattle.std.proofs.lemmas.Option.{slice_get_within, slice_get-get_or, get_or_from_slice_get}
use Rattle.bs_words.specs.Contents.{contents}
use Rattle.bs_words.proofs.Lists.{got, same_some}
use Rattle.dataflow.specs.Flow.{IsPlace, IsFlowFormed}
use Rattle.dataflow.specs.Live.{IsLiveness}
use Rattle.dataflow.specs.Rows.{set_in_row}
use Rattle.dataflow.specs.declared.flow.Flow as flow
use Rattle.dataflow.specs.declared.flow.Place as place
use Rattle.lin_ir.specs.Descriptors.{frame_bytes, IsDescr, Describes, AreExact}
use Rattle.lin_ir.specs.Walks.{Traps, StandsAsLine, here, below as under, OneDepth}
use Rattle.lin_ir.specs.declared.descr.Descr.{Descr}
use Rattle.lin_ir.specs.declared.lin.Line.{Line}
use Rattle.lin_ir.specs.declared.lin.Lin.{Lin}
use Rattle.lin_laws.proofs.Entries.{is_descr}
use Rattle.lin_laws.proofs.Places.{drop_is}
use Rattle.lin_laws.proofs.Walking.{live_at_by_graph}
use Rattle.lin_laws.specs.Graph.{line_index, position, AreNumbered, IsNodeAfterPoint, IsGraphOf}
use Rattle.lin_laws.specs.declared.position.Position.{Position}
use Rattle.frame_tables.proofs.Pointing.{first_kept}
use Rattle.lin_flow.proofs.Living.{numbers_within, position_place, graph_of}
use Rattle.lin_flow.proofs.Visiting.{AreKept, still_ready}
use Rattle.frame_tables.specs.Described.{described, AreDescribed}
use Rattle.lin_flow.specs.Nodes.{IsSearchReady, SpreadToAll}
use Rattle.lin_flow.specs.Walked.{IsWalked}
use Rattle.frame_tables.specs.Points.{HasRoots, IsSearchedForPoints, IsPoint, ArePoints}
use Rattle.lin_flow.specs.Search.{all_positions}
use Rattle.frame_tables.specs.declared.after.Point.{Point}
use Rattle.lin_flow.specs.declared.search.Search.{Search}

-- ---- the search

module _ (m : Lin) where
  abbrev bound : ℕ
  bound = m.slots + 32

  module _ (s2 s3 s4 : Search) (reached : ℕ) (nodes others : List place.Place) (one : IsWalked m s2 nodes)
      (count : reached ≡ length nodes) (roots : HasRoots m s2 s3 reached (length m.code)) where
    pub rooted_ready : IsSearchReady m s3 nodes
    rooted_ready = still_ready m s2 s3 nodes one.ready one.all roots.kept roots.groups roots.countable

    pub is_searched : SpreadToAll m s3 s4 others → IsSearchedForPoints m s4 reached others
    is_searched two =
        let len : length nodes ≡ length (all_positions s2) = one.all in
        let kept : AreKept (all_positions s2) (all_positions s4) = λ q x e. two.spreads.kept q x (roots.kept q x e) in
        record {
          numbered = one.numbered;
          grouped = two.spreads.grouped (roots.grouped one.grouped);
          walked = λ q x lt e.
              let was = got (all_positions s2) q (omega (arith, lt, count, len)) in
              let same : was.0 ≡ x = same_some was.0 x (sym (kept q was.0 was.1) ∙ e) in
              one.reached.sound q x (was.1 ∙ ap Some same);
          complete = λ rest tries r.
              let h = one.reached.complete rest tries r in
              let lt : h.0 < length (all_positions s2) = slice_get_within (all_positions s2) h.0 (position (line_index m rest) tries) h.1 in
              (h.0, omega (arith, lt, count, len), kept h.0 (position (line_index m rest) tries) h.1);
          roots = λ p f.
              let d = drop_is p m.code f.line f.next f.at in
              ⊎_elim (λ r. inl (r.0, two.spreads.kept r.0 (position p []) r.1))
              (λ r. inr (first_kept m s3 s4 p reached two.spreads.kept r)) (roots.roots p d.0 f);
          len = two.all;
          are = two.spreads.ready.are;
        }

  -- ---- the table is a graph

  module _ (all : List Position) (f : flow.Flow) (points : List Point) (is : ArePoints m all (contents f.places) points (length m.code))
      (at_bound : f.bound ≡ m.slots + 32) where
    enough : length all ≤ length (contents f.places)
    enough = let len = is.len in omega (arith, len)

    point_place : (j : ℕ) (point : Point) (node : place.Place) → IsPoint m all point node → IsPlace (length (contents f.places)) f.bound node
    point_place j point node p =
        record {
          next = numbers_within m all f enough is.are at_bound (contents node.next) (λ k c. let y = p.after.next_is k c in ((y.2).0, (y.2).2));
          aside = numbers_within m all f enough is.are at_bound (contents node.aside) (λ k c. let y = p.after.aside_is k c in ((y.2).0, (y.2).2));
          reads = subst (All (λ k. k < f.bound)) (sym p.after.reads) (All-nil (λ k. k < f.bound));
          writes = subst (λ b. All (λ k. k < b) (contents node.writes)) (sym at_bound) p.after.writes.within;
        }

    node_is_place : (q : ℕ) (node : place.Place) → slice_get (contents f.places) q ≡ Some node →
        IsPlace (length (contents f.places)) f.bound node
    node_is_place q node e =
        let lt : q < length (contents f.places) = slice_get_within (contents f.places) q node e in
        let len = is.len in
        ⊎_elim (λ (b : q < length all). let x = got all q b in position_place m all f enough is.are at_bound q x.0 node x.1 e)
        (λ (b : length all ≤ q).
        let j : ℕ = q - length all in
        let same : q ≡ length all + j = omega (arith, b) in
        let point = got points j (omega (arith, lt, len, b)) in
        point_place j point.0 node
        (is.each j point.0 node point.1 (subst (λ k. slice_get (contents f.places) k ≡ Some node) same e))) (cases_lt q (length all))

    pub well_formed : IsFlowFormed f
    well_formed = λ k d lt.
        node_is_place k (slice_index_or (contents f.places) k d) (slice_get-get_or (contents f.places) k d lt)

    -- ---- descriptors

    is_graph : IsGraphOf m all f
    is_graph = graph_of m all f enough is.are at_bound

    stands_at : (i : Line) (next code : List Line) → StandsAsLine i next code → (p : ℕ) × (drop p code ≡ i ∷ next)
    stands_at i next code here = (0, refl)
    stands_at i next code (under s) = let r = stands_at i next _ s in (suc r.0, r.1)

    at_stands : (p : ℕ) (i : Line) (next code : List Line) → drop p code ≡ i ∷ next → StandsAsLine i next code
    at_stands zero i next [] e = absurd (cc)
    at_stands zero i next (j ∷ js) e =
        let f : j ≡ i = cc in let g : js ≡ next = cc in
        subst (λ k. StandsAsLine i next (k ∷ js)) (sym f) (subst (λ ks. StandsAsLine i next (i ∷ ks)) (sym g) here)
    at_stands (suc p) i next [] e = absurd (cc)
    at_stands (suc p) i next (j ∷ js) e = under (at_stands p i next js e)

    module _ (numbered : AreNumbered m) (depth : OneDepth m) (rows : List (List Bool)) (live : IsLiveness f rows) (ds : List Descr)
        (made : AreDescribed (frame_bytes m) (length all) points rows ds) where
      descr_at : (j : ℕ) (point : Point) → slice_get points j ≡ Some point → (i : Line) (next : List Line) →
          drop point.place m.code ≡ i ∷ next → (tries : List ℕ) → Traps m (i ∷ next) tries →
          IsDescr m i next tries (described (frame_bytes m) point (set_in_row rows (length all + j)))
      descr_at j point e i next at tries traps =
          let lt : j < length points = slice_get_within points j point e in
          let len = is.len in
          let node = got (contents f.places) (length all + j) (omega (arith, lt, len)) in
          let p = is.each j point node.0 e node.1 in
          let pushed : Traps m (i ∷ next) p.tries = subst (λ xs. Traps m xs p.tries) at p.pushed in
          let after = subst (λ b. IsNodeAfterPoint m b all point.place node.0) (sym at_bound) p.after in
          is_descr m numbered i next point.place at point.traps (set_in_row rows (length all + j))
          (λ n.
          let a = live.exact (length all + j) n in
          let b = live_at_by_graph m all f is_graph n point.place i next at (length all + j) node.0 node.1 after in
          (λ k. b.0 (a.0 k), λ k. a.1 (b.1 k))) tries (described (frame_bytes m) point (set_in_row rows (length all + j)))
          (p.traps ∙ depth.one (i ∷ next) p.tries tries pushed traps) refl refl refl

      in_list : (j : ℕ) (d : Descr) → slice_get ds j ≡ Some d → Contains ds d
      in_list j d e = (j, slice_get_within ds j d e, get_or_from_slice_get ds j d d e)

      describes : (j : ℕ) (d : Descr) → slice_get ds j ≡ Some d → Describes m d
      describes j d e =
          let lt : j < length ds = slice_get_within ds j d e in
          let len = made.len in
          let point = got points j (omega (arith, lt, len)) in
          let len_all = is.len in
          let less : j < length points = slice_get_within points j point.0 point.1 in
          let node = got (contents f.places) (length all + j) (omega (arith, less, len_all)) in
          let p = is.each j point.0 node.0 point.1 node.1 in
          let frame = p.frame in
          let pushed : Traps m (frame.line ∷ frame.next) p.tries = subst (λ xs. Traps m xs p.tries) frame.at p.pushed in
          let same : described (frame_bytes m) point.0 (set_in_row rows (length all + j)) ≡ d =
          same_some (described (frame_bytes m) point.0 (set_in_row rows (length all + j))) d (sym (made.each j point.0 point.1) ∙ e) in
          record {
            line = frame.line;
            next = frame.next;
            tries = p.tries;
            stands = at_stands point.0.place frame.line frame.next m.code frame.at;
            point = frame.passes;
            traps = pushed;
            is = subst (IsDescr m frame.line frame.next p.tries) same
                (descr_at j point.0 point.1 frame.line frame.next frame.at p.tries pushed);
          }

      pub are_exact : AreExact m ds
      are_exact =
          record {
            each = λ i next tries stands passes traps.
                let at = stands_at i next m.code stands in
                let d = drop_is at.0 m.code i next at.1 in
                let j = is.every at.0 d.0 (record { line = i; next = next; at = at.1; passes = passes }) in
                let stands_here : drop (j.1).place m.code ≡ i ∷ next = ap (λ k. drop k m.code) j.3 ∙ at.1 in
                let descr : Descr = described (frame_bytes m) j.1 (set_in_row rows (length all + j.0)) in
                (descr, in_list j.0 descr (made.each j.0 j.1 j.2), descr_at j.0 j.1 j.2 i next stands_here tries traps);
            others = λ k d lt. describes k (slice_index_or ds k d) (slice_get-get_or ds k d lt);
            order = λ i j d lt le.
                let len = made.len in
                let x = got points i (omega (arith, lt, le, len)) in
                let y = got points j (omega (arith, le, len)) in
                let less : (x.0).place < (y.0).place =
                subst (λ (a : Point). a.place < (y.0).place) (get_or_from_slice_get points i x.0 x.0 x.1)
                (subst (λ (b : Point). (slice_index_or points i x.0).place < b.place) (get_or_from_slice_get points j y.0 x.0 y.1)
                (is.order i j x.0 lt (omega (arith, le, len)))) in
                subst (λ (a : Descr). a.after < (slice_index_or ds j d).after)
                (sym (get_or_from_slice_get ds i (described (frame_bytes m) x.0 (set_in_row rows (length all + i))) d (made.each i x.0 x.1)))
                (subst (λ (b : Descr). (x.0).place < b.after)
                (sym (get_or_from_slice_get ds j (described (frame_bytes m) y.0 (set_in_row rows (length all + j))) d (made.each j y.0 y.1))) less);
          }
