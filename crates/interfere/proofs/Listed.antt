-- Nodes, one after the other, and the graph that they make.
use Rattle.std.proofs.Common.{◌≡◌, ℕ, zero, suc, ◌+◌, ◌<◌, ◌⊎◌, inl, inr, ⊎_elim, List, [], ◌∷◌, ◌++◌, Some, None}
use Rattle.std.proofs.Common.{length, map, get_or, sym, ap, ◌∙◌, subst, arith}
use Rattle.std.specs.List.{All, AllPairs, Contains}
use Rattle.std.specs.Prelude.{Option}
use Rattle.std.proofs.lemmas.Bool.{cases_lt}
use Rattle.std.proofs.lemmas.List.{get_or_past}
use Rattle.std.proofs.lemmas.List.Elements.{Contains-get_or, Contains-append_left, Contains-append_right, Contains-append_cases}
use Rattle.std.proofs.lemmas.List.Quantifiers.{all_pairs_push}
use Rattle.bs_bits.specs.Set.{has}
use Rattle.mach_ir.specs.Formed.{WellFormed}
use Rattle.mach_ir.specs.Graph.{JoinedIn, IsGraph, moves_of, uses_of}
use Rattle.mach_ir.specs.Walks.{IsRegister, Joined}
use Rattle.mach_ir.specs.declared.graph.Graph.{Graph}
use Rattle.mach_ir.specs.declared.graph.Node.{Node}
use Rattle.mach_ir.specs.declared.reg.Reg.{Reg}
use Rattle.mach_ir.specs.declared.mach.Mach.{Mach}
use Rattle.bs_words.proofs.Lists.{none_in, first_in, later_in, in_cons}
use Rattle.interfere.specs.Registers.{IsRegisterAt}
use Rattle.interfere.specs.Tables.{AreInterferenceTables, AreByNumber, IsInterferenceNode, IsTableNode, HasNode, AreNodesBelow}
use Rattle.interfere.specs.declared.tables.Tables.{Tables}

Rises : Node → Node → Type 0
Rises x y = x.reg.number < y.reg.number

-- what was read at a number is there
read_at : (xs : List (Option Reg)) (n : ℕ) (slot : Option Reg) (r : Reg) → n < length xs → slot ≡ get_or xs n slot →
    slot ≡ Some r → IsRegisterAt xs n r
read_at [] n slot r l e f = absurd (omega (arith, l))
read_at (y ∷ ys) zero slot r l e f = sym e ∙ f
read_at (y ∷ ys) (suc n) slot r l e f = read_at ys n slot r (omega (arith, l)) e f

-- no register has this number
pub nodes_same : (t : Tables) (n : ℕ) (slot : Option Reg) (nodes : List Node) → n < length t.registers.items →
    slot ≡ get_or t.registers.items n slot → slot ≡ None → AreNodesBelow t n nodes → AreNodesBelow t (n + 1) nodes
nodes_same t n slot nodes lt read none before =
    record {
      order = before.order;
      each = before.each;
      below = λ x c. let h = before.below x c in omega (arith, h);
      whole = λ k r l h. ⊎_elim (λ less. before.whole k r less h)
          (λ more. let e : k ≡ n = omega (arith, l, more) in absurd (nothing r (subst (λ k. IsRegisterAt t.registers.items k r) e h))) (cases_lt k n);
    }
  where
    nothing : (r : Reg) → IsRegisterAt t.registers.items n r → ⊥
    nothing r h =
        let f : get_or t.registers.items n None ≡ None = ap (get_or t.registers.items n) (sym none) ∙ sym read ∙ none in cc

-- one node more
pub nodes_more : (t : Tables) (n : ℕ) (slot : Option Reg) (r : Reg) (x : Node) (old new : List Node) → AreByNumber t →
    n < length t.registers.items → slot ≡ get_or t.registers.items n slot → slot ≡ Some r → IsInterferenceNode t r x → new ≡ old ++ x ∷ [] →
    AreNodesBelow t n old → AreNodesBelow t (n + 1) new
nodes_more t n slot r x old new numbers lt read some node made before =
    subst (AreNodesBelow t (n + 1)) (sym made)
    (record {
      order = all_pairs_push (λ (x y : Node). x.reg.number < y.reg.number) old x before.order
          (λ k d l. let h = before.below (get_or old k d) (Contains-get_or old k d l) in subst (λ j. (get_or old k d).reg.number < j) (sym number) h);
      each = λ y c. by (IsTableNode t) (λ y d. before.each y d) here y (Contains-append_cases old (x ∷ []) y c);
      below = λ y c. by (λ (y : Node). y.reg.number < n + 1) (λ y d. let h = before.below y d in omega (arith, h)) last y (Contains-append_cases old (x ∷ []) y c);
      whole = λ k q l h. ⊎_elim (λ less. let y = before.whole k q less h in record { node = y.node; among = Contains-append_left old (x ∷ []) y.node y.among; reg = y.reg })
          (λ more. let e : k ≡ n = omega (arith, l, more) in
          record { node = x; among = Contains-append_right old (x ∷ []) x (first_in x []); reg = node.reg ∙ same q (subst (λ k. IsRegisterAt t.registers.items k q) e h) })
          (cases_lt k n);
    })
  where
    at : IsRegisterAt t.registers.items n r
    at = read_at t.registers.items n slot r lt read some

    number : x.reg.number ≡ n
    number = ap (λ (r : Reg). r.number) node.reg ∙ numbers.number n r at

    here : IsTableNode t x
    here =
        record {
          there = subst (λ (q : Reg). IsRegisterAt t.registers.items q.number q) (sym node.reg)
              (subst (λ k. IsRegisterAt t.registers.items k r) (sym (numbers.number n r at)) at);
          node = subst (λ q. IsInterferenceNode t q x) (sym node.reg) node;
        }

    last : x.reg.number < n + 1
    last = subst (λ k. k < n + 1) (sym number) (omega arith)

    same : (q : Reg) → IsRegisterAt t.registers.items n q → r ≡ q
    same q h = let f : Some r ≡ Some q = sym at ∙ h in cc

    by : (P : Node → Type 0) → ((y : Node) → Contains old y → P y) → P x → (y : Node) → Contains old y ⊎ Contains (x ∷ []) y → P y
    by P all one y (inl c) = all y c
    by P all one y (inr c) = ⊎_elim (λ e. subst P e one) (λ z. absurd (none_in y z)) (in_cons x y [] c)

-- a register of the tables has a row
pub has_row : (t : Tables) (n : ℕ) (slot : Option Reg) (r : Reg) → AreByNumber t → n < length t.registers.items →
    slot ≡ get_or t.registers.items n slot → slot ≡ Some r → r.number < length t.joined
has_row t n slot r numbers lt read some =
    subst (λ k. k < length t.joined) (sym (numbers.number n r (read_at t.registers.items n slot r lt read some)))
    (let len = numbers.len in omega (arith, lt, len))

pub by_number : (m : Mach) (t : Tables) → AreInterferenceTables m t → AreByNumber t
by_number m t are = record { len = are.registers.len; number = λ n r h. (are.registers.sound n r h).0 }

-- ---- the graph

in_map : (nodes : List Node) (x : Node) → Contains nodes x → Contains (map (λ (x : Node). x.reg) nodes) x.reg
in_map [] x c = absurd (none_in x c)
in_map (y ∷ ys) x c =
    ⊎_elim (λ e. subst (λ (x : Node). Contains (y.reg ∷ map (λ (x : Node). x.reg) ys) x.reg) e (first_in y.reg (map (λ (x : Node). x.reg) ys)))
    (λ d. later_in y.reg x.reg (map (λ (x : Node). x.reg) ys) (in_map ys x d)) (in_cons y x ys c)

of_map : (nodes : List Node) (r : Reg) → Contains (map (λ (x : Node). x.reg) nodes) r → HasNode nodes r
of_map [] r c = absurd (none_in r c)
of_map (y ∷ ys) r c =
    ⊎_elim (λ e. record { node = y; among = first_in y ys; reg = e })
    (λ d. let h = of_map ys r d in record { node = h.node; among = later_in y h.node ys h.among; reg = h.reg })
    (in_cons y.reg r (map (λ (x : Node). x.reg) ys) c)

pub is_graph : (m : Mach) (t : Tables) (g : Graph) (nodes : List Node) → WellFormed m → AreInterferenceTables m t →
    AreNodesBelow t (length t.registers.items) nodes → g.nodes ≡ nodes → IsGraph m g
is_graph m t g nodes formed are has made =
    record {
      order = made_of (AllPairs (λ (x y : Node). x.reg.number < y.reg.number)) has.order;
      sorted = made_of (All (λ (x : Node). AllPairs ◌<◌ x.neighbours))
          (λ k d lt. (node_of (get_or nodes k d) (Contains-get_or nodes k d lt)).neighbours.sorted);
      registers = λ r. (
        λ c. let x = of_map nodes r (subst (λ xs. Contains (map (λ (x : Node). x.reg) xs) r) made c) in subst (IsRegister m) x.reg (register x.node x.among),
        λ h. let x = found r h in
            subst (Contains (map (λ (x : Node). x.reg) g.nodes)) x.reg
            (subst (λ xs. Contains (map (λ (x : Node). x.reg) xs) x.node.reg) (sym made) (in_map nodes x.node x.among)),
      );
      edges = λ r h k. (
        λ j. joined_of r.number k j,
        λ j. let x = found r h in
            record {
              node = x.node;
              among = subst (λ xs. Contains xs x.node) (sym made) x.among;
              number = ap (λ (r : Reg). r.number) x.reg;
              joins = ((node_of x.node x.among).neighbours.each k).1
                  ((are.joined x.node.reg.number k).1 (subst (λ (q : Reg). Joined m q.number k) (sym x.reg) j));
            },
      );
      moves = made_of (All (λ (x : Node). x.moves ≡ moves_of x.reg.number m.code))
          (λ k d lt. let x = get_or nodes k d in (node_of x (Contains-get_or nodes k d lt)).moves ∙ are.partners x.reg.number);
      uses = made_of (All (λ (x : Node). x.uses ≡ uses_of x.reg.number m.code))
          (λ k d lt. let x = get_or nodes k d in (node_of x (Contains-get_or nodes k d lt)).uses ∙ are.uses x.reg.number);
    }
  where
    made_of : (P : List Node → Type 0) → P nodes → P g.nodes
    made_of P h = subst P (sym made) h

    node_of : (x : Node) → Contains nodes x → IsInterferenceNode t x.reg x
    node_of x c = (has.each x c).node

    register : (x : Node) → Contains nodes x → IsRegister m x.reg
    register x c = (are.registers.sound x.reg.number x.reg (has.each x c).there).1

    -- the node of a register: what is at its number is the register itself
    found : (r : Reg) → IsRegister m r → HasNode nodes r
    found r h =
        let one = are.registers.whole r h in
        let q = one.register in
        let is = are.registers.sound r.number q one.there in
        let same : q ≡ r = formed.numbers q r is.1 h is.0 in
        let x = has.whole r.number q (below r.number q one.there) one.there in
        record { node = x.node; among = x.among; reg = x.reg ∙ same }
      where
        below : (n : ℕ) (q : Reg) → IsRegisterAt t.registers.items n q → n < length t.registers.items
        below n q at =
            ⊎_elim (λ lt. lt)
            (λ le. let f : get_or t.registers.items n None ≡ None = get_or_past t.registers.items n None le in absurd (cc))
            (cases_lt n (length t.registers.items))

    joined_of : (n k : ℕ) → JoinedIn g n k → Joined m n k
    joined_of n k j =
        let c : Contains nodes j.node = subst (λ xs. Contains xs j.node) made j.among in
        subst (λ n. Joined m n k) j.number
        ((are.joined j.node.reg.number k).0 (((node_of j.node c).neighbours.each k).0 j.joins))
