-- Lines that move a location to itself.
use Rattle.std.proofs.Common.{◌≡◌, true, List, [], ◌∷◌, Option, Some, None, refl, sym, subst}
use Rattle.std.proofs.lemmas.Bool.{true≢false}
use Rattle.std.specs.Prelude.{IfSome}
use Rattle.bs_words.specs.declared.types.Loc.{Loc}
use Rattle.mach_ir.specs.declared.op.Op.TheVariants as op
use Rattle.mach_ir.specs.declared.op.Pure.TheVariants as pure
use Rattle.lin_ir.specs.Formed.{IsSelfMove, is_self_move}
use Rattle.lin_ir.specs.declared.lin.LinOp.{LinOp}
use Rattle.lin_ir.specs.declared.lin.LinOp.TheVariants as lin
use Rattle.lin_ir.specs.declared.lin.Line.{Line}
use Rattle.lin_ir.specs.declared.lin.Spot.{Spot}
use Rattle.lin_unused.specs.Forms.{copies, IsOnePlace, MovesItself, IsNoSelfMove}

of_parts : (f : LinOp) (args results : List Spot) (l : Loc) → copies f ≡ true → IsOnePlace args results l →
    MovesItself (record { op = f; args = args; results = results }) l
of_parts (lin.Op (op.Pure (pure.Copy kind))) args results l e o =
    let f : LinOp = lin.Op (op.Pure (pure.Copy kind)) in
    let line : List Spot → List Spot → Line = λ xs ys. record { op = f; args = xs; results = ys } in
    record {
      from = o.from;
      to = o.to;
      is = subst (λ xs. IsSelfMove (line xs results) o.from o.to) (sym o.is_from)
          (subst (λ ys. IsSelfMove (line (o.from ∷ []) ys) o.from o.to) (sym o.is_to) (is_self_move o.same));
      at = o.at;
    }
of_parts (lin.Op (op.Pure (pure.Constant x))) args results l e o = absurd (true≢false (sym e))
of_parts (lin.Op (op.Pure (pure.Symbol x))) args results l e o = absurd (true≢false (sym e))
of_parts (lin.Op (op.Pure (pure.Operator x y))) args results l e o = absurd (true≢false (sym e))
of_parts (lin.Op (op.Access x)) args results l e o = absurd (true≢false (sym e))
of_parts (lin.Op (op.Calling x)) args results l e o = absurd (true≢false (sym e))
of_parts (lin.Op (op.Leaving x)) args results l e o = absurd (true≢false (sym e))
of_parts (lin.Flow x) args results l e o = absurd (true≢false (sym e))

pub self_copies : {i : Line} {from to : Spot} → IsSelfMove i from to → copies i.op ≡ true
self_copies (is_self_move same) = refl

pub self_place : {i : Line} {from to : Spot} → IsSelfMove i from to → IsOnePlace i.args i.results to.loc
self_place (is_self_move {from = from} {to = to} same) = record { from = from; to = to; is_from = refl; is_to = refl; same = same; at = refl }

pub moves_itself : (i : Line) (o : Option Loc) → copies i.op ≡ true → IfSome o (λ l. IsOnePlace i.args i.results l) → IfSome o (λ l. MovesItself i l)
moves_itself i None e h = h
moves_itself i (Some l) e h = of_parts i.op i.args i.results l e h

pub none_itself : (i : Line) → ((from to : Spot) → IsSelfMove i from to → None ≡ Some to.loc) → IsNoSelfMove i
none_itself i all from to z = absurd (let e = all from to z in cc)

pub moves_one : (i : Line) (l : Loc) → MovesItself i l → IsNoSelfMove i → ⊥
moves_one i l moves none = none moves.from moves.to moves.is
