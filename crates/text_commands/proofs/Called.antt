-- Of a file a function has a name or none has it, and words suit it or do not.
use Rattle.std.proofs.Common.{◌≡◌, ◌∙◌, ℕ, List, Some, None, sym, subst}
use Rattle.cmm_tree.specs.Tree.{FunctionTree, FileTree}
use Rattle.command_line.specs.Command.{CheckTree}
use Rattle.text_commands.specs.Arguments.{NamesNone, Suit, Unfit, no_argument, misfit, no_answer, IsCall, HasUnfit}

pub named_none : (check : CheckTree) (file : FileTree) (entry : ℕ) (args answers : List ℕ) → IsCall check file entry args answers → NamesNone file check.entry → ⊥
named_none check file entry args answers c none = let e : Some c.f ≡ None = sym c.named.named ∙ none in cc

unsuited : (file : FileTree) (f : FunctionTree) (check : CheckTree) (args answers : List ℕ) → Suit file f check args answers → Unfit file f check → ⊥
unsuited file f check args answers s (no_argument none) = let e : Some args ≡ None = sym s.args ∙ none in cc
unsuited file f check args answers s (misfit other are not) =
    let e : Some args ≡ Some other = sym s.args ∙ are in
    let same : args ≡ other = cc in
    let fit = s.fit in
    cc
unsuited file f check args answers s (no_answer none) = let e : Some answers ≡ None = sym s.answers ∙ none in cc

pub call_unfit : (check : CheckTree) (file : FileTree) (entry : ℕ) (args answers : List ℕ) → IsCall check file entry args answers → HasUnfit check file → ⊥
call_unfit check file entry args answers c u =
    let e : Some c.f ≡ Some u.f = sym c.named.named ∙ u.named.named in
    let same : u.f ≡ c.f = cc in
    unsuited file c.f check args answers c.suit (subst (λ f. Unfit file f check) same u.unfit)
