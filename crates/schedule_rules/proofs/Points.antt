-- Frame points of the function with its runs reordered: exact names stay exact, and no address is live after one.
use Rattle.std.proofs.Common.{◌≡◌, Bool, true, false, length, refl, sym, subst}
use Rattle.std.specs.List.{Contains}
use Rattle.bs_words.specs.declared.types.Comp.TheVariants as comp
use Rattle.lin_ir.specs.Formed.{AreLocated}
use Rattle.lin_ir.specs.Meaning.{NamedAt, passes_frame}
use Rattle.lin_ir.specs.declared.lin.LinOp.{LinOp}
use Rattle.lin_ir.specs.declared.lin.Lin.{Lin}
use Rattle.linearise_rules.specs.Keeps.{NamesReached, NoAddrReached}
use Rattle.schedule_rules.specs.Straight.{is_plain}
use Rattle.schedule_rules.specs.Orders.{Ordered}
use Rattle.schedule_rules.proofs.Doing.{plain_frame}
use Rattle.schedule_rules.proofs.Forth.{across_forth}
use Rattle.schedule_rules.proofs.Located.{reached_end, across_set}
use Rattle.schedule_rules.proofs.Sums.{ordered_length}
use Rattle.schedule_rules.proofs.Walked.{line_back}
use Rattle.schedule_rules.proofs.Whole.{across_back}

frame_stays : (f : LinOp) → passes_frame f ≡ true → is_plain f ≡ false
frame_stays f e = by (is_plain f) refl
  where
    by : (b : Bool) → is_plain f ≡ b → b ≡ false
    by true q = absurd (plain_frame f q e)
    by false q = refl

module _ (m r : Lin) (whole : Ordered m.code r.code) (old : AreLocated m) (new : AreLocated r) where
  pub no_addr : NoAddrReached m → NoAddrReached r
  no_addr safe =
      record {
        none = λ i after tries z frame l v.
            let b = line_back m r whole i after tries (frame_stays i.op frame) z in
            let out = across_set r new l comp.Addr i after tries (reached_end r z) v in
            safe.none i b.0 tries b.2 frame l (across_back m r whole l comp.Addr out i b.0 after tries b.1 v);
      }

  pub names : (named : NamedAt) → NamesReached m named → NamesReached r named
  names named exact =
      record {
        exact = λ i after tries z frame l.
            let b = line_back m r whole i after tries (frame_stays i.op frame) z in
            let x = exact.exact i b.0 tries b.2 frame l in
            let same : length b.0 ≡ length after = sym (ordered_length b.0 after b.1) in (
              λ c.
                  let v = x.0 (subst (λ n. Contains (named n) l) (sym same) c) in
                  across_forth m r whole l comp.Val (across_set m old l comp.Val i b.0 tries (reached_end m b.2) v) i b.0 after tries b.1 v,
              λ v.
                  subst (λ n. Contains (named n) l) same
                  (x.1 (across_back m r whole l comp.Val (across_set r new l comp.Val i after tries (reached_end r z) v) i b.0 after tries b.1 v)),
            );
      }
