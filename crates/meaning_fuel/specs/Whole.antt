-- What is round an expression in the run of a whole file. How deep calls may nest is not asked: a depth
-- past the units that are left is as good as any.
use Rattle.std.specs.Prelude.{suc, map}
use Rattle.cmm_meaning.specs.Known.{data_end, value_of_symbol}
use Rattle.cmm_tree.specs.Tree.{FileTree, functions, comps_of}
use Rattle.cmm_meaning.specs.Layout.{Layout}
use Rattle.cmm_meaning.specs.Evaluation.{Surroundings}
use Rattle.cmm_meaning.specs.Run.{outside, callees}

abbrev pub file_surroundings : FileTree → Layout → Surroundings
file_surroundings file layout =
    record {
      end = data_end file;
      symbol = value_of_symbol file;
      parameters = map comps_of (functions file);
      call = λ call w. callees file layout (suc w.left) call w;
      external = outside (data_end file) layout;
    }
