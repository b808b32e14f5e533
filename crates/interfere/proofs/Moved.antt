-- Moves, entered at their registers.
use Rattle.std.proofs.Common.{◌≡◌, ◌≢◌, ℕ, ◌<◌, ⊎_elim, Bool, true, false, cond, nat_eq, List, [], ◌∷◌, ◌++◌, None}
use Rattle.std.proofs.Common.{length, map, set, get_or, sym, ap, ◌∙◌, arith}
use Rattle.std.specs.List.{Contains}
use Rattle.std.proofs.lemmas.Bool.{cases_eq, eq-eqb, ne_eqb}
use Rattle.std.proofs.lemmas.List.{append-nil, length-map, map-set, get_or-map, get_or-set_same, get_or-set_other}
use Rattle.mach_ir.specs.Graph.{is_move, partner}
use Rattle.mach_ir.specs.declared.reg.Reg.{Reg}
use Rattle.mach_ir.specs.declared.mach.Instr.{Instr}
use Rattle.bs_words.proofs.Lists.{first_in}
use Rattle.interfere.specs.Moves.{move_between, move_of}
use Rattle.interfere.specs.Partners.{partners_in, AreSmall, no_move, both}
use Rattle.interfere.specs.declared.partners.Partners.{Partners}

between_small : (bound : ℕ) (args results : List Reg) → ((r : Reg) → Contains args r → r.number < bound) →
    ((r : Reg) → Contains results r → r.number < bound) → AreSmall bound (move_between args results)
between_small bound (r ∷ []) (q ∷ []) a s = both (a r (first_in r [])) (s q (first_in q []))
between_small bound [] results a s = no_move
between_small bound (r ∷ []) [] a s = no_move
between_small bound (r ∷ []) (q ∷ x ∷ xs) a s = no_move
between_small bound (r ∷ x ∷ xs) results a s = no_move

pub move_small : (bound : ℕ) (i : Instr) → ((r : Reg) → Contains i.args r → r.number < bound) →
    ((r : Reg) → Contains i.results r → r.number < bound) → AreSmall bound (move_of i)
move_small bound i a s = by (is_move i.op)
  where
    by : (b : Bool) → AreSmall bound (cond b (move_between i.args i.results) None)
    by true = between_small bound i.args i.results a s
    by false = no_move

-- one partner more
pub partner_added : (old new : List Partners) (k other : ℕ) (x x' : Partners) → k < length old → x ≡ get_or old k x →
    x'.numbers.items ≡ x.numbers.items ++ other ∷ [] → new ≡ set old k x' → (n : ℕ) →
    partners_in new n ≡ partners_in old n ++ partner n k other
partner_added old new k other x x' within read more made n = ⊎_elim (λ e. here e) (λ ne. elsewhere ne) (cases_eq n k)
  where
    f : Partners → List ℕ
    f = λ x. x.numbers.items

    long : k < length (map f old)
    long = omega (arith, length-map old f, within)

    at : partners_in new k ≡ x.numbers.items ++ other ∷ []
    at =
        ap (λ xs. partners_in xs k) made ∙ ap (λ (l : List (List ℕ)). get_or l k []) (map-set f old k x')
        ∙ get_or-set_same (map f old) k (f x') [] long ∙ more

    was : partners_in old k ≡ x.numbers.items
    was = get_or-map f old k x [] within ∙ ap f (sym read)

    here : n ≡ k → partners_in new n ≡ partners_in old n ++ partner n k other
    here e =
        let t : nat_eq n k ≡ true = eq-eqb n k e in
        ap (partners_in new) e ∙ at ∙ ap (λ l. l ++ other ∷ []) (sym (ap (partners_in old) e ∙ was))
        ∙ ap (λ b. partners_in old n ++ cond b (other ∷ []) []) (sym t)

    elsewhere : n ≢ k → partners_in new n ≡ partners_in old n ++ partner n k other
    elsewhere ne =
        let t : nat_eq n k ≡ false = ne_eqb n k ne in
        ap (λ xs. partners_in xs n) made ∙ ap (λ (l : List (List ℕ)). get_or l n []) (map-set f old k x')
        ∙ get_or-set_other (map f old) k n (f x') [] ne
        ∙ sym (append-nil (partners_in old n)) ∙ ap (λ b. partners_in old n ++ cond b (other ∷ []) []) (sym t)
