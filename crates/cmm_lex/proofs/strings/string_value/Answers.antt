use Rattle.std.proofs.Common.{◌∷◌, ◌++◌, List, ℕ, [], sym, ap, ◌∙◌, append_assoc}
use Rattle.cmm_lex.specs.Strings.{unescaped}
use Rattle.cmm_lex.proofs.Escapes.{unescaped-on}
use Rattle.cmm_lex.proofs.strings.string_value.Goals as goal

pub loop-byte-preserved : goal.loop-byte-preserved
loop-byte-preserved c =
    let rest = c.loop-byte.rest.now in
    let on = unescaped-on rest c.in-Some-next_byte.byte c.in-Some-next_byte.behind.now (sym c.in-Some-next_byte.ensures) in
    ap (λ (v : List ℕ). v ++ unescaped c.in-Some-next_byte.behind.now) c.in_ok-push.ensures.items
    ∙ append_assoc c.loop-byte.bytes.items (c.in-Some-next_byte.byte ∷ []) (unescaped c.in-Some-next_byte.behind.now)
    ∙ ap (λ (v : List ℕ). c.loop-byte.bytes.items ++ v) (sym on)
    ∙ c.loop-byte.invariant
