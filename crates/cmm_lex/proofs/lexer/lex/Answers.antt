use Rattle.std.proofs.Common.{ℕ, ◌+◌, ◌-◌, List, [], length, map, Some, None, sym, ap, subst, ◌∙◌, arith, eqb-true}
use Rattle.bs_fault.specs.declared.fault.Fault.TheVariants.{BadToken, Unclosed}
use Rattle.cmm_lex.specs.declared.token.Token as declared
use Rattle.cmm_lex.specs.Lexing.{Splits, stopped, first_range}
use Rattle.cmm_lex.specs.Token.{TokenTree, token_view}
use Rattle.cmm_lex.proofs.Places.{place-on, place-room, cut-length, slice-is, gap-on, token-on, push-view, token-some, bad-token-within, range-on, end-on, ended-on, Ends, ends-push}
use Rattle.cmm_lex.proofs.Scans.{same_parts}
use Rattle.cmm_lex.proofs.lexer.lex.Goals as goal

pub loop-rest-preserved-in-Gap : goal.loop-rest-preserved-in-Gap
loop-rest-preserved-in-Gap c =
    let inv = c.loop-rest.invariant in
    let at = c.loop-rest.at in
    let rest = c.loop-rest.rest.now in
    let behind = c.in-Gap.behind.now in
    let h = c.in-Gap.ensures in
    let size = cut-length rest h.text behind h.whole in
    record {
      place = place-on c.args.text.now at (length rest - length behind) rest h.text behind inv.place h.whole size;
      on = λ ts f s. inv.on ts f (gap-on at (length rest - length behind) rest behind ts f h size s);
      ends = inv.ends;
      range = inv.range;
    }

pub loop-rest-smaller : goal.loop-rest-smaller
loop-rest-smaller c =
    let h = c.in-Token.ensures in
    let some = token-some c.in-Token.kind h.text h.is_token in
    let size = cut-length c.loop-rest.rest.now h.text c.in-Token.behind.now h.whole in
    omega (arith, some, size)

pub loop-rest-preserved : goal.loop-rest-preserved
loop-rest-preserved c =
    let inv = c.loop-rest.invariant in
    let text = c.args.text.now in
    let at = c.loop-rest.at in
    let rest = c.loop-rest.rest.now in
    let kind = c.in-Token.kind in
    let behind = c.in-Token.behind.now in
    let h = c.in-Token.ensures in
    let spelled = c.split_at.result.0.now in
    let n = length spelled in
    let same = same_parts h.text behind spelled c.split_at.result.1.now (sym h.whole ∙ c.split_at.ensures.by_index.0) (cut-length rest h.text behind h.whole ∙ sym c.split_at.ensures.front_len) in
    let size = ap length same.0 in
    let slice = slice-is text at n rest h.text behind inv.place h.whole size in
    let t : declared.Token = record { at = at; «end» = at + n; kind = kind } in
    record {
      place = place-on text at n rest h.text behind inv.place h.whole size;
      on = λ ts f s.
          subst (λ (v : List TokenTree). Splits 0 text v f) (sym (push-view text c.loop-rest.tokens.items _ t ts c.in_ok-push-in-Token.ensures.items))
          (inv.on _ f (token-on at n rest behind _ kind ts f h size slice s));
      ends = ends-push text c.loop-rest.tokens.items _ t c.in_ok-push-in-Token.ensures.items inv.ends (ap (λ (m : ℕ). at + m) (ap length (sym same.0) ∙ ap length (sym slice)));
      range =
          c.or-range.ensures
          ∙ range-on text c.loop-rest.tokens.items _ t spelled c.loop-rest.range c.range_fault.result c.in_ok-push-in-Token.ensures.items (slice ∙ same.0) inv.range c.range_fault.ensures;
    }

pub overflow_cast-fault : goal.overflow_cast-fault
overflow_cast-fault c =
    let within = bad-token-within c.in-BadToken.offset c.loop-rest.rest.now c.in-BadToken.ensures in
    let room = place-room c.args.text.now c.loop-rest.at c.loop-rest.rest.now c.loop-rest.invariant.place in
    let short = c.requires in
    omega arith

pub overflow_add-fault : goal.overflow_add-fault
overflow_add-fault c =
    let within = bad-token-within c.in-BadToken.offset c.loop-rest.rest.now c.in-BadToken.ensures in
    let room = place-room c.args.text.now c.loop-rest.at c.loop-rest.rest.now c.loop-rest.invariant.place in
    let short = c.requires in
    omega arith

pub returns-in-BadToken : goal.returns-in-BadToken
returns-in-BadToken c =
    let inv = c.loop-rest.invariant in
    let at = c.loop-rest.at in
    let fault = Some (BadToken (at + c.in-BadToken.offset)) in
    record {
      cut = end-on c.args.text.now _ c.loop-rest.tokens.items fault c.from_vec.ensures
          (inv.on [] fault (stopped at c.loop-rest.rest.now (BadToken (at + c.in-BadToken.offset)) (c.in-BadToken.ensures at)));
      ends = subst (Ends c.args.text.now) (sym c.from_vec.ensures) inv.ends;
      range = inv.range ∙ ap (λ (v : List declared.Token). first_range (map (token_view c.args.text.now) v)) (sym c.from_vec.ensures);
    }

pub returns-in-Unclosed : goal.returns-in-Unclosed
returns-in-Unclosed c =
    let inv = c.loop-rest.invariant in
    let at = c.loop-rest.at in
    let fault = Some (Unclosed at) in
    record {
      cut = end-on c.args.text.now _ c.loop-rest.tokens.items fault c.from_vec-in-Unclosed.ensures
          (inv.on [] fault (stopped at c.loop-rest.rest.now (Unclosed at) (c.in-Unclosed.ensures at)));
      ends = subst (Ends c.args.text.now) (sym c.from_vec-in-Unclosed.ensures) inv.ends;
      range = inv.range ∙ ap (λ (v : List declared.Token). first_range (map (token_view c.args.text.now) v)) (sym c.from_vec-in-Unclosed.ensures);
    }

pub returns : goal.returns
returns c =
    let inv = c.loop-rest.invariant in
    let empty = eqb-true _ _ (sym c.is_empty.ensures ∙ c.loop-rest-test.false) in
    record {
      cut = end-on c.args.text.now _ c.loop-rest.tokens.items None c.from_vec-2.ensures
          (inv.on [] None (ended-on c.loop-rest.at c.loop-rest.rest.now empty));
      ends = subst (Ends c.args.text.now) (sym c.from_vec-2.ensures) inv.ends;
      range = inv.range ∙ ap (λ (v : List declared.Token). first_range (map (token_view c.args.text.now) v)) (sym c.from_vec-2.ensures);
    }
