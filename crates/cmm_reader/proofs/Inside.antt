-- Rules in parentheses.
use Rattle.std.proofs.Common.{◌≡◌, ℕ, ◌-◌, ◌<◌, zero, suc, List, ◌∷◌, length, true, cond, sym, ap, ◌∙◌, arith}
use Rattle.cmm_lex.specs.Token.{TokenTree}
use Rattle.cmm_grammar.specs.Words.{is_open}
use Rattle.cmm_grammar.specs.Rule.{Rule, Sort, Inside}
use Rattle.cmm_grammar.specs.Reading.{Stops, Stuck, deeper, reading, forms_below, reads}

pub deeper-one : {s : Sort} (r : Rule s) (d : ℕ) (ts : List TokenTree) → 0 < d → deeper d (reading r) (forms_below d) ts ≡ reads r (d - 1) ts
deeper-one r zero ts e = absurd (omega arith)
deeper-one r (suc d) ts e = let same : suc d - 1 ≡ d = omega arith in ap (λ n. reads r n ts) (sym same)

pub inside-one : {s : Sort} (r : ℕ → Rule s) (d : ℕ) (tokens : List TokenTree) (t : TokenTree) (ts : List TokenTree) → tokens ≡ t ∷ ts → is_open t ≡ true → 0 < d
    → reads (Inside s r) d tokens ≡ reads (r t.at) (d - 1) ts
inside-one {s} r d tokens t ts e o l =
    ap (reads (Inside s r) d) e
    ∙ ap (λ b. cond b (deeper d (reading (r t.at)) (forms_below d) ts) (Stops Stuck (suc (length ts)))) o
    ∙ deeper-one (r t.at) d ts l
