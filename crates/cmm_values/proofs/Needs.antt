-- A store changes neither the heap need nor where the data ends.
use Rattle.std.proofs.Common.{◌≡◌, ℕ, ◌+◌, ◌*◌, suc, zero, List, [], ◌∷◌, get_or, set, map, length, ap, refl}
use Rattle.std.specs.List.{sum}
use Rattle.std.proofs.Math.ListN.{length-set}
use Rattle.std.proofs.Math.Seq.{map-set_same}
use Rattle.bs_words.specs.Memory.{HeapBlock, StaticList, block_bytes, end_of_statics}
use Rattle.bs_words.specs.declared.values.Value.{Value}

pub need_kept : (blocks : List HeapBlock) (s i : ℕ) (v : Value) (d : HeapBlock) →
    sum (map block_bytes (set blocks s (record (get_or blocks s d) { cells = set (get_or blocks s d).cells i v }))) ≡ sum (map block_bytes blocks)
need_kept blocks s i v d =
    let same : block_bytes (record (get_or blocks s d) { cells = set (get_or blocks s d).cells i v }) ≡ block_bytes (get_or blocks s d) =
    ap (λ n. 8 * (n + 1)) (length-set (get_or blocks s d).cells i v) in
    ap sum (map-set_same block_bytes blocks s _ d same)

pub end_kept : (end : ℕ) (lists : List StaticList) (k i : ℕ) (v : Value) (d : StaticList) →
    end_of_statics end (set lists k (record (get_or lists k d) { cells = set (get_or lists k d).cells i v })) ≡ end_of_statics end lists
end_kept end [] k i v d = refl
end_kept end (l ∷ lists) zero i v d = refl
end_kept end (l ∷ lists) (suc k) i v d = end_kept (l.start + l.size) lists k i v d
