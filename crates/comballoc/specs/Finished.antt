-- What a scan that has come to a place makes of the code from there on.
use Rattle.std.specs.Prelude.{◌≡◌, ℕ, List, [], ◌∷◌, ◌++◌, Option, Some, None}
use Rattle.comballoc_rules.specs.Combined.{Scanned, allocation, scan_for_combining}
use Rattle.comballoc.specs.declared.combining.Held.{Held}
use Rattle.comballoc.specs.declared.combining.Scan.{Scan}
use Rattle.mach_ir.specs.Blocks.{total_block_bytes}
use Rattle.mach_ir.specs.declared.mach.Instr.{Instr}

-- the bytes of the open allocation
abbrev pub held_bytes : Option Held → Option ℕ
held_bytes None = None
held_bytes (Some h) = Some (total_block_bytes h.blocks)

-- the open allocation and the instructions after it, as they are
abbrev pub closed : Option Held → List Instr
closed None = []
closed (Some h) = allocation h.blocks h.results.items ∷ h.since.items

-- the same where a scan has gone on
abbrev pub closed_by : Option Held → Scanned → List Instr
closed_by None after = after.code
closed_by (Some h) after =
    allocation (h.blocks ++ after.blocks) (h.results.items ++ after.results)
    ∷ (h.since.items ++ after.code)

-- the whole code, where this is left
abbrev pub finished_scan : Scan → List Instr → List Instr
finished_scan s rest = s.done.items ++ closed_by s.held (scan_for_combining (held_bytes s.held) rest)

-- the same where an instruction comes before that, and the run goes on
abbrev pub finished_with_instr : Scan → Instr → List Instr → List Instr
finished_with_instr s i rest =
    let after : Scanned = scan_for_combining (held_bytes s.held) rest in
    s.done.items ++ closed_by s.held (record after { code = i ∷ after.code })

-- the second scan has taken one instruction more
abbrev pub HasTaken : Scan → Scan → Instr → Type 0
HasTaken s t i = (rest : List Instr) → finished_scan t rest ≡ finished_scan s (i ∷ rest)
