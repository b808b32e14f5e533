-- Texts that are written piece after piece.
use Rattle.std.proofs.Common.{ℕ, ◌+◌, ◌<◌, ◌≤◌, List, [], ◌++◌, length, take, Option, Some, None, Result, Ok, Err, ap, arith, ◌∙◌, sym, subst, append_assoc, append-nil, length-append}
use Rattle.std.specs.Prelude.{IsErr}
use Rattle.std.specs.Io.KnownBytes.{Appends}
use Rattle.std.proofs.Math.Seq.{take-append-add}
use Rattle.std.proofs.lemmas.List.{take-append-le}
use Rattle.bs_io.specs.Whole.{AppendsPart}
use Rattle.mover_runtime.specs.Written.{AppendsResult}

pub appends_nothing : (a : Option (List ℕ)) → Appends a a []
appends_nothing None = tt
appends_nothing (Some xs) = sym (append-nil xs)

pub appends_then : (a b c : Option (List ℕ)) (xs ys : List ℕ) → Appends a b xs → Appends b c ys → Appends a c (xs ++ ys)
appends_then None b c xs ys h k = tt
appends_then (Some as') None c xs ys h k = absurd h
appends_then (Some as') (Some bs) None xs ys h k = absurd k
appends_then (Some as') (Some bs) (Some cs) xs ys h k = k ∙ ap (λ t. t ++ ys) h ∙ append_assoc as' xs ys

-- some of the first text is some of both
pub part_of_first : (a b : Option (List ℕ)) (xs ys : List ℕ) → AppendsPart a b xs → AppendsPart a b (xs ++ ys)
part_of_first a b xs ys h =
    let fewer : h.0 < length (xs ++ ys) = omega (arith, h.1, length-append xs ys) in
    let within : h.0 ≤ length xs = omega (arith, h.1) in
    (h.0, fewer, subst (Appends a b) (sym (take-append-le h.0 xs ys within)) h.2)

-- and so is the first and some of the second
pub part_of_second : (a b c : Option (List ℕ)) (xs ys : List ℕ) → Appends a b xs → AppendsPart b c ys → AppendsPart a c (xs ++ ys)
part_of_second a b c xs ys h k =
    let fewer : length xs + k.0 < length (xs ++ ys) = omega (arith, k.1, length-append xs ys) in
    (length xs + k.0, fewer, subst (Appends a c) (sym (take-append-add xs ys k.0)) (appends_then a b c xs (take k.0 ys) h k.2))

-- what is written after a text that was written
pub writes_then : {T E : Type 0} (r : Result T E) (a b c : Option (List ℕ)) (xs ys : List ℕ) → Appends a b xs → AppendsResult r b c ys → AppendsResult r a c (xs ++ ys)
writes_then (Ok t) a b c xs ys h k = appends_then a b c xs ys h k
writes_then (Err e) a b c xs ys h k = part_of_second a b c xs ys h k

-- a fault in the first of two texts
pub writes_first : {T E : Type 0} (r : Result T E) (a b : Option (List ℕ)) (xs ys : List ℕ) → IsErr r → AppendsPart a b xs → AppendsResult r a b (xs ++ ys)
writes_first (Ok t) a b xs ys h k = absurd (cc)
writes_first (Err f) a b xs ys h k = part_of_first a b xs ys k

pub writes_fault : {T E : Type 0} (r : Result T E) (a b : Option (List ℕ)) (text : List ℕ) → IsErr r → AppendsPart a b text → AppendsResult r a b text
writes_fault (Ok t) a b text h k = absurd (cc)
writes_fault (Err f) a b text h k = k
