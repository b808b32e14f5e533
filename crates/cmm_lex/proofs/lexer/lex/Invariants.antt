use Rattle.std.proofs.Common.{◌≡◌, List, ◌++◌, length, map, Option}
use Rattle.bs_fault.specs.declared.fault.Fault.{Fault}
use Rattle.cmm_lex.specs.Lexing.{Splits, first_range}
use Rattle.cmm_lex.specs.Token.{TokenTree, token_view}
use Rattle.cmm_lex.proofs.Places.{Place, Ends}
use Rattle.cmm_lex.proofs.lexer.lex.Given as goal

-- what the rest is cut into is after the tokens so far
abbrev pub invariant-loop-rest : goal.invariant-loop-rest
invariant-loop-rest l =
    record {
      place : Place l.fn.text l.at l.rest;
      on : (ts : List TokenTree) (f : Option Fault)
          → Splits l.at l.rest ts f
          → Splits 0 l.fn.text (map (token_view l.fn.text) l.tokens.items ++ ts) f;
      ends : Ends l.fn.text l.tokens.items;
      range : l.range ≡ first_range (map (token_view l.fn.text) l.tokens.items);
    }

abbrev pub decreases-loop-rest : goal.decreases-loop-rest
decreases-loop-rest l = length l.rest
