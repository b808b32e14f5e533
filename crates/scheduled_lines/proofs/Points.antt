-- Frame points of lines in another order: the same is live after them, so descriptors are as exact as they were.
use Rattle.std.proofs.Common.{◌≡◌, ◌↔◌, ℕ, ◌+◌, ◌*◌, true, List, ◌∷◌, length, refl, sym, ap, ◌∙◌, arith}
use Rattle.std.proofs.lemmas.List.Elements.{All-weaker}
use Rattle.bs_words.specs.declared.types.Comp.{Comp}
use Rattle.bs_words.specs.declared.types.Comp.TheVariants as comp
use Rattle.bs_words.specs.declared.types.Loc.{Loc}
use Rattle.lin_ir.specs.Descriptors.{frame_bytes, NamesLive, IsDescr, Describes, AreExact, NoAddrLive}
use Rattle.lin_ir.specs.Formed.{AreLocated}
use Rattle.lin_ir.specs.Meaning.{passes_frame}
use Rattle.lin_ir.specs.Walks.{StandsAsLine, Traps, LiveAt}
use Rattle.lin_ir.specs.declared.descr.Descr.{Descr}
use Rattle.lin_ir.specs.declared.lin.Line.{Line}
use Rattle.lin_ir.specs.declared.lin.Lin.{Lin}
use Rattle.linearise_rules.proofs.Walked.{Tail, tail_all, tail_more, stands_tail}
use Rattle.lin_tidy_rules.specs.Leaving.{with_code}
use Rattle.schedule_rules.specs.Orders.{Ordered}
use Rattle.schedule_rules.proofs.Forth.{across_forth}
use Rattle.schedule_rules.proofs.Located.{across_set, located_kept}
use Rattle.schedule_rules.proofs.Walked.{EndOf, all_of_it, less}
use Rattle.schedule_rules.proofs.Whole.{across_back}
use Rattle.scheduled_lines.proofs.InStep.{same_line, in_step, turned, same_length, traps_there}
use Rattle.scheduled_lines.proofs.Runs.{stays, stayed}
use Rattle.scheduled_lines.proofs.Walks.{point_stays, same_frame}

-- ---- functions with the same frame points

-- a frame point of the first that the second has too, with as many lines after it
pub record Point (m r : Lin) (i : Line) (next : List Line) : Type 0 where
  pub there : List Line
  pub stands : StandsAsLine i there r.code
  pub lines : length there ≡ length next
  pub live : (l : Loc) (t : Comp) → LiveAt m l t i next ↔ LiveAt r l t i there
  pub traps : (tries : List ℕ) → Traps m (i ∷ next) tries ↔ Traps r (i ∷ there) tries

pub record SamePoints (m r : Lin) : Type 0 where
  pub lines : length r.code ≡ length m.code
  pub frame : frame_bytes r ≡ frame_bytes m
  pub forth : (i : Line) (next : List Line) → StandsAsLine i next m.code → passes_frame i.op ≡ true → Point m r i next
  pub back : (i : Line) (next : List Line) → StandsAsLine i next r.code → passes_frame i.op ≡ true → Point r m i next

pub points_turned : {m r : Lin} → SamePoints m r → SamePoints r m
points_turned s = record { lines = sym s.lines; frame = sym s.frame; forth = s.back; back = s.forth }

module _ {m r : Lin} (same : SamePoints m r) where
  pub no_addr : NoAddrLive m → NoAddrLive r
  no_addr safe = record { none = λ i next s e l v. let p = same.back i next s e in safe.none i p.there p.stands e l ((p.live l comp.Addr).0 v) }

  descr_moved : {i : Line} {next there : List Line} {tries : List ℕ} {d : Descr} → length there ≡ length next →
      ((l : Loc) (t : Comp) → LiveAt m l t i next ↔ LiveAt r l t i there) → IsDescr m i next tries d → IsDescr r i there tries d
  descr_moved {i} {next} {there} {tries} {d} lines live is =
      let after = is.after in
      let all = same.lines in
      record {
        after = omega (arith, after, lines, all);
        size = is.size ∙ ap (λ n. n + 16 * length tries) (sym same.frame);
        exact = λ n. let x = is.exact n in (λ c. moved (x.0 c), λ v. x.1 (back v));
        order = is.order;
      }
    where
      moved : {n : ℕ} → NamesLive m i next (length tries) n → NamesLive r i there (length tries) n
      moved v = record { location = v.location; live = (live v.location comp.Val).0 v.live; entry = v.entry }

      back : {n : ℕ} → NamesLive r i there (length tries) n → NamesLive m i next (length tries) n
      back v = record { location = v.location; live = (live v.location comp.Val).1 v.live; entry = v.entry }

  describes_moved : (d : Descr) → Describes m d → Describes r d
  describes_moved d h =
      let p = same.forth h.line h.next h.stands h.point in
      record {
        line = h.line;
        next = p.there;
        tries = h.tries;
        stands = p.stands;
        point = h.point;
        traps = (p.traps h.tries).0 h.traps;
        is = descr_moved p.lines p.live h.is;
      }

  -- descriptors that are exact of the first are exact of the second
  pub exact_moved : (ds : List Descr) → AreExact m ds → AreExact r ds
  exact_moved ds exact =
      record {
        each = λ i next tries s e x.
            let p = same.back i next s e in
            let y = exact.each i p.there tries p.stands e ((p.traps tries).0 x) in
            (y.0, y.1, descr_moved (sym p.lines) (λ l t. let v = p.live l t in (v.1, v.0)) y.2);
        others = All-weaker (Describes m) (Describes r) describes_moved ds exact.others;
        order = exact.order;
      }

-- ---- lines in another order

end_of : {ys zs : List Line} → Tail ys zs → EndOf zs ys
end_of tail_all = all_of_it
end_of (tail_more t) = wider (end_of t)
  where
    wider : {j : Line} {zs ys : List Line} → EndOf zs ys → EndOf (j ∷ zs) ys
    wider all_of_it = less all_of_it
    wider (less e) = less (wider e)

module _ (m : Lin) (code : List Line) (order : Ordered m.code code) (located : AreLocated m) where
  abbrev R : Lin
  R = with_code m code

  module _ {i : Line} {was next : List Line} (old : StandsAsLine i was m.code) (new : StandsAsLine i next code) (o : Ordered was next) where
    live_both : (l : Loc) (t : Comp) → LiveAt m l t i was ↔ LiveAt R l t i next
    live_both l t = (forth, back)
      where
        forth : LiveAt m l t i was → LiveAt R l t i next
        forth v =
            record {
              tries = v.tries;
              traps = traps_there m R (in_step order) (same_line (in_step o)) (stands_tail old) (stands_tail new) v.traps;
              across = across_forth m R order l t (across_set m located l t i was v.tries (end_of (stands_tail old)) v.across) i was next v.tries o v.across;
            }

        back : LiveAt R l t i next → LiveAt m l t i was
        back v =
            record {
              tries = v.tries;
              traps = traps_there R m (turned (in_step order)) (same_line (turned (in_step o))) (stands_tail new) (stands_tail old) v.traps;
              across = across_back m R order l t
                  (across_set R (located_kept m R order refl located) l t i next v.tries (end_of (stands_tail new)) v.across) i was next v.tries o v.across;
            }

    traps_both : (tries : List ℕ) → Traps m (i ∷ was) tries ↔ Traps R (i ∷ next) tries
    traps_both tries = (
      λ x. traps_there m R (in_step order) (same_line (in_step o)) (stands_tail old) (stands_tail new) x,
      λ x. traps_there R m (turned (in_step order)) (same_line (turned (in_step o))) (stands_tail new) (stands_tail old) x,
    )

  pub same_points : SamePoints m R
  same_points =
      record {
        lines = sym (same_length (in_step order));
        frame = same_frame m R (in_step order) refl;
        forth = λ i next s e.
            let y = stayed order s (point_stays i.op e) in
            record {
              there = y.after;
              stands = y.stands;
              lines = sym (same_length (in_step y.order));
              live = live_both s y.stands y.order;
              traps = traps_both s y.stands y.order;
            };
        back = λ i next s e.
            let y = stays order s (point_stays i.op e) in
            record {
              there = y.was;
              stands = y.stands;
              lines = same_length (in_step y.order);
              live = λ l t. let v = live_both y.stands s y.order l t in (v.1, v.0);
              traps = λ tries. let v = traps_both y.stands s y.order tries in (v.1, v.0);
            };
      }
