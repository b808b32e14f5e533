-- Neighbouring allocations of the result do not fit one reservation together.
use Rattle.std.proofs.Common.{◌≡◌, ℕ, ◌+◌, ◌<◌, Bool, true, false, cond, List, [], ◌∷◌, ◌++◌, Option, Some, None, refl, sym, ap, ◌∙◌, subst, arith, append_assoc}
use Rattle.std.specs.List.{All}
use Rattle.std.proofs.lemmas.Bool.{true≢false, leb-false}
use Rattle.std.proofs.lemmas.List.Elements.{All-head, All-tail}
use Rattle.comballoc_rules.specs.Combined.{joins, bytes_past, open_past, Scanned, allocation_scanned, scanned_at, scan_for_combining, combined}
use Rattle.comballoc_rules.specs.Neighbours.{is_allocation, Allocates, AreNeighbours}
use Rattle.comballoc_rules.proofs.Scan.{bytes_append}
use Rattle.mach_ir.specs.Blocks.{total_block_bytes}
use Rattle.mach_ir.specs.Forms.{reservation_most}
use Rattle.mach_ir.specs.Placed.{is_straight, AreStraight}
use Rattle.mach_ir.specs.declared.blocks.NewBlock.{NewBlock}
use Rattle.mach_ir.specs.declared.op.Access.TheVariants as access
use Rattle.mach_ir.specs.declared.op.Op.TheVariants as op
use Rattle.mach_ir.specs.declared.mach.MachOp.{MachOp}
use Rattle.mach_ir.specs.declared.mach.MachOp.TheVariants as mach
use Rattle.mach_ir.specs.declared.mach.Instr.{Instr}
use Rattle.mach_ir.specs.declared.mach.Mach.{Mach}

-- an allocation of so many bytes does not fit what is open
abbrev Passes : Option ℕ → ℕ → Type 0
Passes None n = Unit {0}
Passes (Some bytes) n = reservation_most < bytes + n

-- no allocation here fits the last one before it in its straight run
data Spaced : Option ℕ → List Instr → Type 0 where
  no_more : {o : Option ℕ} → Spaced o []
  goes_on : {o : Option ℕ} {i : Instr} {is : List Instr} → is_straight i.op ≡ true → is_allocation i.op ≡ false →
      Spaced o is → Spaced o (i ∷ is)
  run_ends : {o : Option ℕ} {i : Instr} {is : List Instr} → is_straight i.op ≡ false → Spaced None is → Spaced o (i ∷ is)
  allocates : {o : Option ℕ} {i : Instr} {is : List Instr} (blocks : List NewBlock) → Allocates i blocks →
      Passes o (total_block_bytes blocks) → Spaced (Some (total_block_bytes blocks)) is → Spaced o (i ∷ is)

-- what is open, with what goes to it
abbrev grown : Option ℕ → ℕ → Option ℕ
grown None n = None
grown (Some bytes) n = Some (bytes + n)

abbrev Done : Option ℕ → Scanned → Type 0
Done o s = Spaced (grown o (total_block_bytes s.blocks)) s.code

scan_spaced : (held : Option ℕ) (is : List Instr) → Spaced (grown held (total_block_bytes (scan_for_combining held is).blocks)) (scan_for_combining held is).code
scan_spaced held [] = no_more
scan_spaced held (i ∷ is) = by i.op refl (λ o. scan_spaced o is)
  where
    alone : (blocks : List NewBlock) (s : Scanned) → Done (Some (total_block_bytes blocks)) s → (o : Option ℕ) → joins o blocks ≡ false →
        Spaced (grown o (total_block_bytes [])) (allocation_scanned false blocks i.results s).code
    alone blocks s h None e =
        allocates (blocks ++ s.blocks) refl tt
        (subst (λ n. Spaced (Some n) s.code) (sym (bytes_append blocks s.blocks)) h)
    alone blocks s h (Some bytes) e =
        let lt : reservation_most < bytes + total_block_bytes blocks = leb-false (bytes + total_block_bytes blocks) reservation_most e in
        let g = bytes_append blocks s.blocks in
        allocates (blocks ++ s.blocks) refl (omega (arith, lt, g))
        (subst (λ n. Spaced (Some n) s.code) (sym (bytes_append blocks s.blocks)) h)

    joined : (blocks : List NewBlock) (bytes : ℕ) (s : Scanned) → Done (Some (bytes + total_block_bytes blocks)) s →
        Done (Some bytes) (allocation_scanned true blocks i.results s)
    joined blocks bytes s h =
        let e = bytes_append blocks s.blocks in
        subst (λ n. Spaced (Some n) s.code) (omega (arith, e)) h

    by_joins : (blocks : List NewBlock) (bytes : ℕ) (b : Bool) → joins (Some bytes) blocks ≡ b →
        ((o : Option ℕ) → Done o (scan_for_combining o is)) →
        Done (Some bytes) (allocation_scanned b blocks i.results (scan_for_combining (Some (cond b (bytes + total_block_bytes blocks) (total_block_bytes blocks))) is))
    by_joins blocks bytes true e ih = joined blocks bytes (scan_for_combining (Some (bytes + total_block_bytes blocks)) is) (ih (Some (bytes + total_block_bytes blocks)))
    by_joins blocks bytes false e ih = alone blocks (scan_for_combining (Some (total_block_bytes blocks)) is) (ih (Some (total_block_bytes blocks))) (Some bytes) e

    by_open : (blocks : List NewBlock) (o : Option ℕ) → ((o : Option ℕ) → Done o (scan_for_combining o is)) →
        Done o (allocation_scanned (joins o blocks) blocks i.results (scan_for_combining (Some (bytes_past o blocks)) is))
    by_open blocks None ih = alone blocks (scan_for_combining (Some (total_block_bytes blocks)) is) (ih (Some (total_block_bytes blocks))) None refl
    by_open blocks (Some bytes) ih = by_joins blocks bytes (joins (Some bytes) blocks) refl ih

    by : (f : MachOp) → i.op ≡ f → ((o : Option ℕ) → Done o (scan_for_combining o is)) → Done held (scanned_at held i f (scan_for_combining (open_past held f) is))
    by (mach.Op (op.Pure f)) e ih = goes_on (ap is_straight e) (ap is_allocation e) (ih held)
    by (mach.Op (op.Access (access.Load k offset))) e ih =
        goes_on (ap is_straight e) (ap is_allocation e) (ih held)
    by (mach.Op (op.Access (access.Store k offset))) e ih =
        goes_on (ap is_straight e) (ap is_allocation e) (ih held)
    by (mach.Op (op.Access (access.Alloc blocks))) e ih = by_open blocks held ih
    by (mach.Op (op.Calling f)) e ih = run_ends (ap is_straight e) (ih None)
    by (mach.Op (op.Leaving f)) e ih = run_ends (ap is_straight e) (ih None)
    by (mach.Mark f) e ih = run_ends (ap is_straight e) (ih None)

-- ---- two neighbours

straight_allocation : (f : MachOp) → is_straight f ≡ false → (blocks : List NewBlock) → f ≡ mach.Op (op.Access (access.Alloc blocks)) → ⊥
straight_allocation f e blocks g = true≢false (sym (ap is_straight g) ∙ e)

same_blocks : (xs ys : List NewBlock) (i : Instr) → Allocates i xs → Allocates i ys → xs ≡ ys
same_blocks xs ys i e g = inside xs ys (sym e ∙ g)
  where
    inside : (xs ys : List NewBlock) → mach.Op (op.Access (access.Alloc xs)) ≡ mach.Op (op.Access (access.Alloc ys)) → xs ≡ ys
    inside xs ys e = cc

-- what is spaced is so from each place on
from_place : (before is : List Instr) {o : Option ℕ} → Spaced o (before ++ is) → (u : Option ℕ) × Spaced u is
from_place [] is {o} s = (o, s)
from_place (j ∷ before) is (goes_on e g s) = from_place before is s
from_place (j ∷ before) is (run_ends e s) = from_place before is s
from_place (j ∷ before) is (allocates blocks e g s) = from_place before is s

-- what comes first from here on in the run fits no longer
to_next : (bytes : ℕ) (between : List Instr) (two : Instr) (after : List Instr) (others : List NewBlock) →
    AreStraight (between ++ two ∷ []) → All (λ (i : Instr). is_allocation i.op ≡ false) between → Allocates two others →
    Spaced (Some bytes) (between ++ (two ∷ after)) → reservation_most < bytes + total_block_bytes others
to_next bytes [] two after others straight none e (goes_on s g h) =
    absurd (true≢false (sym (ap is_allocation e) ∙ g))
to_next bytes [] two after others straight none e (run_ends s h) = absurd (straight_allocation two.op s others e)
to_next bytes [] two after others straight none e (allocates blocks g p h) =
    subst (λ bs. reservation_most < bytes + total_block_bytes bs) (same_blocks blocks others two g e) p
to_next bytes (i ∷ between) two after others straight none e (goes_on s g h) =
    to_next bytes between two after others (All-tail (λ (i : Instr). is_straight i.op ≡ true) i (between ++ two ∷ []) straight) (All-tail (λ (i : Instr). is_allocation i.op ≡ false) i between none) e h
to_next bytes (i ∷ between) two after others straight none e (run_ends s h) =
    absurd (true≢false (sym (All-head (λ (i : Instr). is_straight i.op ≡ true) i (between ++ two ∷ []) straight) ∙ s))
to_next bytes (i ∷ between) two after others straight none e (allocates blocks g p h) =
    absurd (true≢false (sym (ap is_allocation g) ∙ All-head (λ (i : Instr). is_allocation i.op ≡ false) i between none))

at_one : {o : Option ℕ} (one : Instr) (between : List Instr) (two : Instr) (after : List Instr) (blocks others : List NewBlock) →
    AreStraight (one ∷ between ++ two ∷ []) → All (λ (i : Instr). is_allocation i.op ≡ false) between →
    Allocates one blocks → Allocates two others → Spaced o (one ∷ (between ++ (two ∷ after))) →
    reservation_most < total_block_bytes blocks + total_block_bytes others
at_one one between two after blocks others straight none e g (goes_on s t h) = absurd (true≢false (sym (ap is_allocation e) ∙ t))
at_one one between two after blocks others straight none e g (run_ends s h) = absurd (straight_allocation one.op s blocks e)
at_one one between two after blocks others straight none e g (allocates bs t p h) =
    to_next (total_block_bytes blocks) between two after others (All-tail (λ (i : Instr). is_straight i.op ≡ true) one (between ++ two ∷ []) straight) none g
    (subst (λ bs. Spaced (Some (total_block_bytes bs)) (between ++ (two ∷ after))) (same_blocks bs blocks one t e) h)

pub neighbours : (m : Mach) (blocks others : List NewBlock) → AreNeighbours (combined m) blocks others →
    reservation_most < total_block_bytes blocks + total_block_bytes others
neighbours m blocks others n =
    let run : List Instr = n.one ∷ n.between ++ n.two ∷ [] in
    let whole = subst (Spaced None) (n.run).within (scan_spaced None m.code) in
    let here = from_place (n.run).before (run ++ (n.run).after) whole in
    at_one n.one n.between n.two (n.run).after blocks others (n.run).straight n.none n.one_allocates n.two_allocates
    (subst (Spaced here.0) (ap (λ xs. n.one ∷ xs) (append_assoc n.between (n.two ∷ []) (n.run).after)) here.1)
