-- A text has one file at most, one fault at most, and not both.
use Rattle.std.proofs.Common.{◌≡◌, inl, inr, ℕ, List, subst, arith}
use Rattle.bs_fault.specs.declared.fault.Fault.{Fault}
use Rattle.bs_fault.specs.declared.fault.Fault.TheVariants.{AddrLive}
use Rattle.cmm_lex.proofs.Languages.{AreBytes}
use Rattle.cmm_tree.specs.Tree.{FileTree}
use Rattle.cmm_types.specs.Faults.{TypeFault}
use Rattle.bs_fault.specs.Order.{IsLeftmost}
use Rattle.walk_tables.specs.AddrLive.{IsLive, Before, IsToldLive}
use Rattle.cmm_front.specs.FileOf.{IsFileOf, HasFault, unread, untyped, unsettled}
use Rattle.cmm_front.proofs.Told.{one_leftmost}
use Rattle.cmm_front.proofs.Readings.{one_file_read, read_or_told, one_fault_told}

-- ---- addresses

same_live : (b p u b' p' u' : ℕ) → Before b p u b' p' u' → Before b' p' u' b p u → AddrLive b p u ≡ AddrLive b' p' u'
same_live b p u b' p' u' (inl h) (inl g) = absurd (omega arith)
same_live b p u b' p' u' (inl h) (inr (inl g)) = absurd (omega (arith, h, g.0))
same_live b p u b' p' u' (inl h) (inr (inr g)) = absurd (omega (arith, h, g.0))
same_live b p u b' p' u' (inr (inl h)) (inl g) = absurd (omega (arith, g, h.0))
same_live b p u b' p' u' (inr (inl h)) (inr (inl g)) = absurd (omega (arith, h.1, g.1))
same_live b p u b' p' u' (inr (inl h)) (inr (inr g)) = absurd (omega (arith, h.1, g.1))
same_live b p u b' p' u' (inr (inr h)) (inl g) = absurd (omega (arith, g, h.0))
same_live b p u b' p' u' (inr (inr h)) (inr (inl g)) = absurd (omega (arith, h.1, g.1))
same_live b p u b' p' u' (inr (inr h)) (inr (inr g)) =
    let bound : b ≡ b' = omega (arith, h.2, g.2) in
    let point : p ≡ p' = h.1 in
    let used : u ≡ u' = h.0 in
    cc

one_live : (file : FileTree) (b p u b' p' u' : ℕ) → IsToldLive file b p u → IsToldLive file b' p' u' → AddrLive b p u ≡ AddrLive b' p' u'
one_live file b p u b' p' u' h g = same_live b p u b' p' u' (h.least b' p' u' g.live) (g.least b p u h.live)

-- ---- texts

-- a text has one file
pub one_file : (text : List ℕ) (file other : FileTree) → AreBytes text → IsFileOf text file → IsFileOf text other → file ≡ other
one_file text file other are h g = one_file_read text file other are h.read g.read

-- a text that has a file has no fault
pub file_or_fault : (text : List ℕ) (file : FileTree) (told : Fault) → AreBytes text → IsFileOf text file → HasFault text told → ⊥
file_or_fault text file _ are h (unread told refused) = read_or_told text file told are h.read refused
file_or_fault text file _ are h (untyped other told read left) =
    h.typed told (subst (λ (v : FileTree). TypeFault v told) (one_file_read text other file are read h.read) left.is_fault)
file_or_fault text file _ are h (unsettled other bound point used read typed live) =
    h.settled bound point used (subst (λ (v : FileTree). IsLive v bound point used) (one_file_read text other file are read h.read) live.live)

-- a text has one fault
pub one_fault : (text : List ℕ) (a b : Fault) → AreBytes text → HasFault text a → HasFault text b → a ≡ b
one_fault text _ _ are (unread a h) (unread b g) = one_fault_told text a b are h g
one_fault text _ _ are (unread a h) (untyped file b read left) = absurd (read_or_told text file a are read h)
one_fault text _ _ are (unread a h) (unsettled file bound point used read typed live) = absurd (read_or_told text file a are read h)
one_fault text _ _ are (untyped file a read left) (unread b g) = absurd (read_or_told text file b are read g)
one_fault text _ _ are (untyped file a read left) (untyped other b read' left') =
    one_leftmost other a b (subst (λ (v : FileTree). IsLeftmost (TypeFault v) a) (one_file_read text file other are read read') left) left'
one_fault text _ _ are (untyped file a read left) (unsettled other bound point used read' typed live) =
    absurd (typed a (subst (λ (v : FileTree). TypeFault v a) (one_file_read text file other are read read') left.is_fault))
one_fault text _ _ are (unsettled file bound point used read typed live) (unread b g) = absurd (read_or_told text file b are read g)
one_fault text _ _ are (unsettled other bound point used read' typed live) (untyped file a read left) =
    absurd (typed a (subst (λ (v : FileTree). TypeFault v a) (one_file_read text file other are read read') left.is_fault))
one_fault text _ _ are (unsettled file b p u read typed live) (unsettled other b' p' u' read' typed' live') =
    one_live other b p u b' p' u' (subst (λ (v : FileTree). IsToldLive v b p u) (one_file_read text file other are read read') live) live'
