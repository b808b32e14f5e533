use Rattle.std.proofs.Common.{◌≡◌, ◌++◌, take}
use Rattle.image_listings.specs.Texts.{entries_text}
use Rattle.image_listings.proofs.frames.put_entries.Given as goal

abbrev pub invariant-loop-entry : goal.invariant-loop-entry
invariant-loop-entry l = l.page.bytes.items ≡ l.fn.page.bytes.items ++ entries_text (take l.entry-index l.entries)
