use Rattle.line_stands.specs.Lines.{Nowhere}
use Rattle.compiled_files.proofs.Stub.{stub_so}
use Rattle.compiled_files.proofs.stubs_end_runs.Goals as goal

pub returns : goal.returns
returns c = λ file image ps has bases laid entry it end run f row.
    stub_so file image ps has bases laid entry (λ f. Nowhere) it end run f row
