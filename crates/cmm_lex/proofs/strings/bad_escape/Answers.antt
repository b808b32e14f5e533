use Rattle.std.proofs.Common.{◌≡◌, ℕ, ◌+◌, ◌-◌, length, sym, subst, ◌∙◌, arith}
use Rattle.cmm_lex.specs.Strings.{BadEscape}
use Rattle.cmm_lex.proofs.Escapes.{passed, bad-on, fine-on, passed-shorter, bad-here, fine-end}
use Rattle.cmm_lex.proofs.strings.bad_escape.Goals as goal

pub returns-then-is_bad : goal.returns-then-is_bad
returns-then-is_bad c =
    let all = c.args.bytes.now in
    let rest = c.loop-behind.rest.now in
    let size : 0 + (length all - length rest) ≡ length all - length rest = omega arith in
    subst (λ (m : ℕ). BadEscape m all) size
    (c.loop-behind.invariant.bad 0 (bad-here rest (sym c.is_bad.ensures ∙ c.if-is_bad.true)))

pub loop-behind-preserved : goal.loop-behind-preserved
loop-behind-preserved c =
    let inv = c.loop-behind.invariant in
    let all = c.args.bytes.now in
    let rest = c.loop-behind.rest.now in
    let behind = c.in-Some.behind.now in
    let h = passed rest _ behind (sym c.is_bad.ensures ∙ c.if-is_bad.false) (sym c.in-Some.ensures) in
    let short = passed-shorter rest behind h in
    let shorter = inv.shorter in
    record {
      shorter = omega arith;
      same = sym h.same ∙ inv.same;
      bad = λ n is.
          let size : n + (length rest - length behind) + (length all - length rest) ≡ n + (length all - length behind) = omega arith in
          subst (λ (m : ℕ). BadEscape m all) size (inv.bad (n + (length rest - length behind)) (bad-on rest behind n h is));
      fine = λ tail is. inv.fine tail (fine-on rest behind tail h is);
    }

pub returns : goal.returns
returns c =
    let inv = c.loop-behind.invariant in
    λ tail closed. inv.fine tail (fine-end c.loop-behind.rest.now tail (sym c.in_default.ensures) (inv.same ∙ closed))
