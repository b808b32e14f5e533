-- Entries of descriptors, and the rest of a list.
use Rattle.std.proofs.Common.{◌≡◌, ℕ, suc, ◌+◌, ◌<◌, ◌≤◌, Bool, true, false, List, [], ◌∷◌, ◌++◌, length, drop, sym, ap, ◌∙◌, arith, append_assoc}
use Rattle.std.proofs.lemmas.List.{append-nil, drop_more, drop_all}
use Rattle.bs_bits.specs.Set.{has}
use Rattle.lin_laws.specs.Numbers.{entry_of, trap_entries_from}
use Rattle.frame_tables.specs.Described.{entry_if}

pub entries_yes : (t n : ℕ) (set : List Bool) (items more : List ℕ) → n < length set → has set n ≡ true →
    items ++ trap_entries_from t n (drop n set) ≡ trap_entries_from t 0 set → more ≡ items ++ entry_of t n ∷ [] →
    more ++ trap_entries_from t (n + 1) (drop (n + 1) set) ≡ trap_entries_from t 0 set
entries_yes t n set items more lt is h e =
    let d : drop n set ≡ true ∷ drop (n + 1) set = drop_more set n false lt ∙ ap (λ b. b ∷ drop (n + 1) set) is in
    let next : suc n ≡ n + 1 = omega arith in
    ap (λ xs. xs ++ trap_entries_from t (n + 1) (drop (n + 1) set)) e
    ∙ append_assoc items (entry_of t n ∷ []) (trap_entries_from t (n + 1) (drop (n + 1) set))
    ∙ ap (λ k. items ++ entry_of t n ∷ trap_entries_from t k (drop (n + 1) set)) (sym next)
    ∙ ap (λ xs. items ++ trap_entries_from t n xs) (sym d) ∙ h

pub entries_no : (t n : ℕ) (set : List Bool) (items : List ℕ) → n < length set → has set n ≡ false →
    items ++ trap_entries_from t n (drop n set) ≡ trap_entries_from t 0 set →
    items ++ trap_entries_from t (n + 1) (drop (n + 1) set) ≡ trap_entries_from t 0 set
entries_no t n set items lt is h =
    let d : drop n set ≡ false ∷ drop (n + 1) set = drop_more set n false lt ∙ ap (λ b. b ∷ drop (n + 1) set) is in
    let next : suc n ≡ n + 1 = omega arith in
    ap (λ k. items ++ trap_entries_from t k (drop (n + 1) set)) (sym next) ∙ ap (λ xs. items ++ trap_entries_from t n xs) (sym d) ∙ h

pub entries_step : (t n : ℕ) (set : List Bool) (items more : List ℕ) (b : Bool) → n < length set → b ≡ has set n →
    items ++ trap_entries_from t n (drop n set) ≡ trap_entries_from t 0 set → more ≡ items ++ entry_if b (entry_of t n) →
    more ++ trap_entries_from t (n + 1) (drop (n + 1) set) ≡ trap_entries_from t 0 set
entries_step t n set items more true lt is h e = entries_yes t n set items more lt (sym is) h e
entries_step t n set items more false lt is h e =
    ap (λ xs. xs ++ trap_entries_from t (n + 1) (drop (n + 1) set)) (e ∙ append-nil items) ∙ entries_no t n set items lt (sym is) h

pub entries_done : (t n : ℕ) (set : List Bool) (items : List ℕ) → length set ≤ n →
    items ++ trap_entries_from t n (drop n set) ≡ trap_entries_from t 0 set → items ≡ trap_entries_from t 0 set
entries_done t n set items le h =
    sym (append-nil items) ∙ ap (λ xs. items ++ trap_entries_from t n xs) (sym (drop_all n set le)) ∙ h
