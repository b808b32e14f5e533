-- Pages of text.
use Rattle.std.specs.Prelude.{◌≡◌, ℕ, ◌++◌, List}
use Rattle.mach_ir.specs.declared.page.Page.{Page}

-- the text has been put at the end of the page
abbrev pub AddsText : Page → Page → List ℕ → Type 0
AddsText old new text = new.bytes.items ≡ old.bytes.items ++ text
