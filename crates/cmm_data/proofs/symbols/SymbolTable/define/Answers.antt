use Rattle.std.proofs.Common.{◌≡◌, ◌∙◌, sym, false, rules}
use Rattle.std.proofs.lemmas.Map.Text.{btree_map_updates_str}
use Rattle.cmm_data.proofs.Table.{adds-unknown}
use Rattle.cmm_data.proofs.symbols.SymbolTable.define.Goals as goal

pub returns-in_ok-insert : goal.returns-in_ok-insert
returns-in_ok-insert c =
    adds-unknown c.args.self.now (record { values = c.insert.new.self }) c.args.name.now c.args.value
    (let new : c.contains_key.result ≡ false = search rules in sym c.contains_key.ensures ∙ new)
    (λ q. btree_map_updates_str c.args.name.now c.args.self.now.values c.insert.new.self _ c.in_ok-insert.ensures.updates q)
