-- Selection keeps its promise for each function of a file that the front accepts.
use Rattle.std.proofs.Common.{◌≡◌, ℕ, true, List, subst, sym}
use Rattle.std.specs.Prelude.{Contains}
use Rattle.std.proofs.lemmas.List.Elements.{All-contains}
use Rattle.bs_words.specs.Fits.{fits}
use Rattle.bs_words.specs.declared.types.Ty.TheVariants as ty
use Rattle.cmm_data.specs.Placement.{data_end, value_of_symbol}
use Rattle.cmm_tree.specs.Tree.{FunctionTree, FileTree, functions}
use Rattle.cmm_grammar.specs.Covered.{IsCovered}
use Rattle.cmm_meaning.specs.Evaluation.{bound_error}
use Rattle.cmm_meaning.specs.Setting.{Setting}
use Rattle.cmm_reader.proofs.Measured.{read_measured}
use Rattle.cmm_front.specs.FileOf.{IsFileOf}
use Rattle.meaning_laws.proofs.LinksWhole.{bound_error_fits}
use Rattle.selection_rules.specs.Select.{selected}
use Rattle.selection_promise.specs.Runs.{IsSetting}
use Rattle.selection_promise.specs.Selects.{IsAccepted, Selects}
use Rattle.selection_promise.proofs.Promised.{promised}
use Rattle.selection_accepted.proofs.Selecting.{definitions, front_accepts}
use Rattle.selection_accepted.proofs.Symbols.{front_symbols}

-- What the front has found of each function of a file.
pub function_accepted : (text : List ℕ) (file : FileTree) → IsFileOf text file → (f : FunctionTree) → Contains (functions file) f →
    IsAccepted (definitions file) f
function_accepted text file is f c =
    let m = read_measured text file is.read in
    record {
      checked = front_accepts text file is f c;
      covered = All-contains IsCovered (functions file) f m.functions_covered c;
      settled = λ b p u live. is.settled b p u (record { f = f; of_file = c; live = live });
    }

-- Of each function of a file that the front accepts selection makes what it promises.
pub front_selects : (text : List ℕ) (file : FileTree) → IsFileOf text file → (f : FunctionTree) → Contains (functions file) f → Selects f (selected f)
front_selects text file is f c = promised (definitions file) f (function_accepted text file is f c)

-- And what is round its functions is as the promise wants it.
pub front_setting : (text : List ℕ) (file : FileTree) → IsFileOf text file → (s : Setting) → s.end ≡ data_end file → s.symbol ≡ value_of_symbol file →
    IsSetting s
front_setting text file is s end symbol =
    record {
      symbols = front_symbols text file is s symbol;
      bound_error = subst (λ n. fits n ty.Val bound_error ≡ true) (sym end) (bound_error_fits file);
    }
