use Rattle.std.proofs.Common.{arith}
use Rattle.text_commands.proofs.Known.{all_bytes}
use Rattle.commands.proofs.compile.compile_bytes.Goals as goal

pub returns-clause-are_bytes : goal.returns-clause-are_bytes
returns-clause-are_bytes g c = all_bytes c.args.text.now (λ i. omega (arith, c.type_inv.text i))
