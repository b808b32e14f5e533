use Rattle.std.proofs.Common.{◌≡◌, ℕ, ◌+◌, ◌-◌, ◌*◌, ◌%◌, ◌<◌, ◌≤◌, ◌⊎◌, inl, inr, true, arith}
use Rattle.std.proofs.lemmas.Bool.{and_parts, leb-true, ltb-true, cases_eq}
use Rattle.rv_machine.specs.Marks.{Marks, mark_at}
use Rattle.alloc_service.specs.Forward.{covers}
use Rattle.machine_laws.proofs.InHeap.{ends_below, unaligned}
use Rattle.alloc_service.proofs.claims.claim_block.Goals as goal

pub overflow_add-end : goal.overflow_add-end
overflow_add-end c =
    let e = ends_below c.args.table.now.heap (record { start = c.args.start; words = c.args.words }) c.requires.most c.requires.inside in
    omega (arith, e)

pub overflow_add-at : goal.overflow_add-at
overflow_add-at c =
    let e = ends_below c.args.table.now.heap (record { start = c.args.start; words = c.args.words }) c.requires.most c.requires.inside in
    omega (arith, e)

-- a fact of each multiple of 8 that a block covers is one of each address
at_all :
    (t : Marks) (start words at : ℕ) → start + 8 * words ≤ at → ((a : ℕ) → a % 8 ≡ 0 → start - 8 ≤ a → a < at → mark_at t a ≡ 0) →
    (a : ℕ) → covers a (record { start = start; words = words }) ≡ true → mark_at t a ≡ 0
at_all t start words at e h a k =
    let p = and_parts _ _ k in
    let low = leb-true (start - 8) a p.0 in
    let high = ltb-true a (start + 8 * words) p.1 in
    by_case low high (cases_eq (a % 8) 0)
  where
    by_case : start - 8 ≤ a → a < start + 8 * words → (a % 8 ≡ 0) ⊎ (a % 8 ≡ 0 → ⊥) → mark_at t a ≡ 0
    by_case low high (inl z) = h a z low (omega arith)
    by_case low high (inr z) = unaligned t a z

pub returns-clause-free : goal.returns-clause-free
returns-clause-free c = λ _ a h. at_all c.args.table.now c.args.start c.args.words c.loop-at.at c.loop-at-test.false c.loop-at.invariant.free a h
