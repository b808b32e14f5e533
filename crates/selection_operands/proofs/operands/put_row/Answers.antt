use Rattle.std.proofs.Common.{◌≡◌, suc, ◌+◌, ◌-◌, ◌∷◌, List, length, take, drop, ap, sym, ◌∙◌, subst, arith}
use Rattle.cmm_tree.specs.Rows.{expressions_of}
use Rattle.cmm_tree.specs.declared.expr.Expr.{Expr}
use Rattle.cmm_types.specs.Lists.{AreAnnotated}
use Rattle.selection_operands.proofs.Waiting.{row-more, first-of}
use Rattle.selection_operands.specs.Operands.{row_code}
use Rattle.selection_operands.proofs.Rooms.{row-first, row-room-first}
use Rattle.selection_scope.specs.Scoping.{LexicalScope, scoped_names}
use Rattle.selection_operands.proofs.operands.put_row.Goals as goal

pub loop-rest-preserved : goal.loop-rest-preserved
loop-rest-preserved g c =
    let e = c.expr-item.result in
    let rest = c.loop-rest.rest.now in
    let others = take (length rest - 1) (drop 1 rest) in
    let s = c.loop-rest.scope in
    let reg = c.loop-rest.reg in
    let base = c.loop-rest.base in
    let number = reg + 1 in
    let behind = c.behind-base.result in
    let made = c.put_operand.new.code in
    let timing = c.args.timing in
    let whole : e ∷ others ≡ rest = first-of rest e c.in-len1-up.len_at_least c.expr-item.is in
    let P : List Expr → Type 0 = λ l. AreAnnotated (scoped_names s) l in
    let typed : P (e ∷ others) = subst P (sym whole) c.loop-rest.invariant.typed in
    let Q : LexicalScope → Type 0 = λ v. AreAnnotated (scoped_names v) others in
    let next : number ≡ suc reg = omega arith in
    record {
      code =
          sym (ap (λ (v : LexicalScope). row_code timing v number behind (expressions_of others) made) c.loop-rest.invariant.scope)
          ∙ row-more timing s number behind reg base c.fresh.result c.is_light_address-light.result c.is_due.result e others c.loop-rest.code made next c.behind-base.ensures c.is_light_address-light.ensures c.is_due.ensures typed.0 c.fresh.ensures c.in_ok-put_operand.ensures.code
          ∙ ap (λ l. row_code timing s reg base (expressions_of l) c.loop-rest.code) whole
          ∙ ap (λ (v : LexicalScope). row_code timing v reg base (expressions_of rest) c.loop-rest.code) c.loop-rest.invariant.scope
          ∙ c.loop-rest.invariant.code;
      reg = omega (arith, c.loop-rest.invariant.reg, ap length whole);
      begins = omega (arith, c.loop-rest.invariant.begins, c.behind-base.ensures);
      room = omega (arith, row-first base rest others e whole c.loop-rest.invariant.room, c.behind-base.ensures);
      scope = c.in_ok-put_operand.ensures.scope ∙ c.loop-rest.invariant.scope;
      typed = subst Q (sym c.in_ok-put_operand.ensures.scope) typed.1;
    }

pub put_operand-requires-clause-room : goal.put_operand-requires-clause-room
put_operand-requires-clause-room g c =
    let e = c.expr-item.result in
    let rest = c.loop-rest.rest.now in
    let others = take (length rest - 1) (drop 1 rest) in
    let whole : e ∷ others ≡ rest = first-of rest e c.in-len1-up.len_at_least c.expr-item.is in
    row-room-first c.loop-rest.base rest others e whole c.loop-rest.invariant.room

pub behind-base-requires : goal.behind-base-requires
behind-base-requires g c =
    let e = c.expr-item.result in
    let rest = c.loop-rest.rest.now in
    let others = take (length rest - 1) (drop 1 rest) in
    let whole : e ∷ others ≡ rest = first-of rest e c.in-len1-up.len_at_least c.expr-item.is in
    omega (arith, row-room-first c.loop-rest.base rest others e whole c.loop-rest.invariant.room)
