-- Where the code's tree holds the types of the text, so it does the rows of external calls.
use Rattle.std.proofs.Common.{◌≡◌, List, ◌∷◌, refl, ap, ap₂}
use Rattle.bs_words.specs.declared.types.Comp.{Comp}
use Rattle.cmm_data.specs.Known.{row_view, Row_of-Expr, end_of-Expr, more_of-Expr}
use Rattle.cmm_types.specs.Annotated.{RowTyped}
use Rattle.cmm_types.specs.Types.{Scoped, comp_of_argument}
use Rattle.cmm_meaning.specs.Evaluation.{comps_of_arguments}
use Rattle.cmm_meaning.specs.Held.{comps_held}

pub comps_same : {m : _} (names : List Scoped) (row : Row_of-Expr m) → RowTyped names row → comps_held row ≡ comps_of_arguments names (row_view row)
comps_same names end_of-Expr t = refl
comps_same names (more_of-Expr at type f rest) t = ap₂ (λ (c : Comp) (cs : List Comp). c ∷ cs) (ap comp_of_argument t.0.type) (comps_same names rest t.1)
