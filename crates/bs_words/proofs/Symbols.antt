-- The test of a symbol's name decides what one is.
use Rattle.std.proofs.Common.{◌≡◌, ℕ, ◌≤◌, Bool, true, nat_le, List, length, slice_index_or, subst, sym}
use Rattle.std.specs.Prelude.{IsTrue, ◌↔◌}
use Rattle.std.proofs.lemmas.Bool.{leb-true, le-leb, and_parts, and_from}
use Rattle.std.proofs.lemmas.List.Sums.{AllPass-from_list_all, list_all-from_AllPass}
use Rattle.std.specs.Bool.{Decides}
use Rattle.std.specs.Char.{is_ascii_graphic}
use Rattle.bs_words.specs.Symbol.{is_symbol, IsSymbol}

in_range : (b : ℕ) → is_ascii_graphic b ≡ true → (0x21 ≤ b) × (b ≤ 0x7E)
in_range b e =
    let parts = and_parts (nat_le 0x21 b) (nat_le b 0x7E) e in
    (leb-true 0x21 b parts.0, leb-true b 0x7E parts.1)

is_graphic : (b : ℕ) → (0x21 ≤ b) × (b ≤ 0x7E) → is_ascii_graphic b ≡ true
is_graphic b r = and_from _ _ (le-leb 0x21 b r.0) (le-leb b 0x7E r.1)

pub symbol_decides : (name : List ℕ) → Decides (is_symbol name) (IsSymbol name)
symbol_decides name = (
  λ e.
      let p = and_parts (nat_le 1 (length name)) _ e in
      let q = and_parts (nat_le (length name) 255) _ p.1 in
      let each = AllPass-from_list_all is_ascii_graphic name q.1 in
      (leb-true 1 (length name) p.0, leb-true (length name) 255 q.0, λ k d less. in_range (slice_index_or name k d) (each k d less)),
  λ s.
      let each = list_all-from_AllPass is_ascii_graphic name (λ k d less. is_graphic (slice_index_or name k d) (s.2 k d less)) in
      and_from _ _ (le-leb 1 (length name) s.0) (and_from _ _ (le-leb (length name) 255 s.1) each),
)

pub symbol_means : (name : List ℕ) (r : Bool) → r ≡ is_symbol name → IsTrue r ↔ IsSymbol name
symbol_means name r e = subst (λ b. IsTrue b ↔ IsSymbol name) (sym e) (symbol_decides name)
