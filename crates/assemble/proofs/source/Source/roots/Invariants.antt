use Rattle.std.proofs.Common.{◌≡◌, ◌-◌, map, take}
use Rattle.bs_words.specs.Contents.{contents}
use Rattle.bs_words.specs.Fits.{data_start}
use Rattle.assemble.proofs.source.Source.roots.Given as goal

abbrev pub invariant-loop-address : goal.invariant-loop-address
invariant-loop-address l = record {
  items : l.address-items ≡ contents l.self.data.now.roots;
  roots : l.roots.items ≡ map (λ address. address - data_start) (take l.address-index l.address-items);
}
