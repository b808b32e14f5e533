-- What holds on the way of a whole read and a whole write.
use Rattle.std.proofs.Common.{◌≡◌, ℕ, ◌+◌, ◌-◌, ◌<◌, ◌≤◌, List, [], ◌++◌, length, take, drop, Option, None, Some, refl, sym, ap, subst, ◌∙◌, arith, append-nil, length-drop, take_all, drop_of_length-le, take-append-drop}
use Rattle.std.specs.Io.KnownBytes.{Appends, Consumes, Keeps}
use Rattle.std.proofs.KnownBytes.{Appends-trans, Appends-kept, Consumes-trans}
use Rattle.bs_io.specs.Whole.{AppendsPart}
use Rattle.std.proofs.lemmas.List.{drop-drop, take_rest}
use Rattle.std.proofs.Math.Seq.{take-add}

-- the front of the piece was appended, and the rest is left
pub record Written (old now : Option (List ℕ)) (piece rest : List ℕ) : Type 0 where
  pub count : ℕ
  pub within : count ≤ length piece
  pub left : rest ≡ drop count piece
  pub appended : Appends old now (take count piece)

Appends-none : (a b : Option (List ℕ)) → Appends a b [] → Keeps a b
Appends-none None b h = tt
Appends-none (Some x) None h = absurd h
Appends-none (Some x) (Some y) h = h ∙ append-nil x

Appends-nil : (a : Option (List ℕ)) → Appends a a []
Appends-nil None = tt
Appends-nil (Some x) = sym (append-nil x)

pub Written-none : (a : Option (List ℕ)) (piece : List ℕ) → Written a a piece piece
Written-none a piece = record { count = 0; within = omega arith; left = refl; appended = Appends-nil a }

pub Written-more : (a b c : Option (List ℕ)) (piece rest : List ℕ) (n : ℕ)
    → Written a b piece rest → n ≤ length rest → Appends b c (take n rest) → Written a c piece (drop n rest)
Written-more a b c piece rest n h fits more = record {
  count = h.count + n;
  within = omega (arith, ap length h.left, length-drop h.count piece, h.within);
  left = ap (drop n) h.left ∙ drop-drop n h.count piece;
  appended = subst (Appends a c) (sym (take-add h.count n piece ∙ ap (λ l. take h.count piece ++ take n l) (sym h.left))) (Appends-trans a b c _ _ h.appended more);
}

pub Written-all : (a b : Option (List ℕ)) (piece rest : List ℕ) → Written a b piece rest → length rest ≡ 0 → Appends a b piece
Written-all a b piece rest h empty =
    subst (Appends a b) (take_all h.count piece (omega (arith, ap length h.left, length-drop h.count piece))) h.appended

pub Written-part : (a b c : Option (List ℕ)) (piece rest : List ℕ) → Written a b piece rest → 0 < length rest → Keeps b c → AppendsPart a c piece
Written-part a b c piece rest h some kept =
    (h.count, omega (arith, ap length h.left, length-drop h.count piece), Appends-kept a b c _ h.appended kept)

-- a vector whose slice was written over holds what was written
pub written_over : (size : ℕ) (new old : List ℕ) → length new ≡ size → length old ≡ size → take size (new ++ drop (length new) old) ≡ new
written_over size new old a b =
    ap (λ l. take size (new ++ l)) (drop_of_length-le old (omega arith)) ∙ ap (take size) (append-nil new) ∙ take_all size new (omega arith)

-- the filled front grows by what was read after it
pub Consumes-more : (a b c : Option (List ℕ)) (old new : List ℕ) (filled n : ℕ) → take filled new ≡ take filled old
    → Consumes a b (take filled old) → Consumes b c (take n (drop filled new)) → Consumes a c (take (filled + n) new)
Consumes-more a b c old new filled n front before read =
    subst (Consumes a c) (ap (λ l. l ++ take n (drop filled new)) (sym front) ∙ sym (take-add filled n new)) (Consumes-trans a b c _ _ before read)

-- the same, where the slice of a vector of that size was lent and read into
pub Consumes-over : (a b c : Option (List ℕ)) (before room lent after : List ℕ) (size filled n : ℕ) → length after ≡ size → length room ≡ size
    → take filled after ≡ take filled lent → lent ≡ room → take filled room ≡ take filled before
    → Consumes a b (take filled before) → Consumes b c (take n (drop filled after))
    → Consumes a c (take (filled + n) (take size (after ++ drop (length after) room)))
Consumes-over a b c before room lent after size filled n long was front same kept taken read =
    let whole : take filled after ≡ take filled before = front ∙ ap (take filled) same ∙ kept in
    subst (λ l. Consumes a c (take (filled + n) l)) (sym (written_over size after room long was)) (Consumes-more a b c before after filled n whole taken read)

-- ---- a source over memory

-- the bytes that were copied are the front of what was left, and the rest is after them
pub Consumes-copied : (left bytes slice front : List ℕ) (taken n : ℕ) → left ≡ drop taken bytes → slice ≡ bytes
    → front ≡ take n (take (length slice - taken) (drop taken slice)) → left ≡ front ++ drop (taken + n) bytes
Consumes-copied left bytes slice front taken n was same copied =
    was ∙ sym (take-append-drop n (drop taken bytes))
    ∙ ap (λ l. take n (drop taken l) ++ drop n (drop taken bytes)) (sym same)
    ∙ ap (λ l. l ++ drop n (drop taken bytes)) (sym (copied ∙ ap (take n) (take_rest slice taken)))
    ∙ ap (λ l. front ++ l) (drop-drop n taken bytes)
