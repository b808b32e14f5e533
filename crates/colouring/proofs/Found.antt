-- The node of a number, and what is counted among numbers.
use Rattle.std.proofs.Common.{ℕ, eqb-true, None, ◌≡◌, ◌+◌, ◌<◌, ◌⊎◌, inl, inr, ⊎_elim, Bool, true, false, cond, nat_eq, List, [], ◌∷◌, Some, map, refl, sym, ap, ◌∙◌, subst, arith}
use Rattle.std.specs.List.{AllPairs, Contains, count_by, filter}
use Rattle.std.proofs.lemmas.Bool.{eq-eqb, ne_eqb}
use Rattle.std.proofs.lemmas.List.Sums.{sum_by-cons}
use Rattle.mach_ir.specs.declared.reg.Reg.{Reg}
use Rattle.mach_ir.specs.declared.graph.Node.{Node}
use Rattle.bs_words.proofs.Lists.{none_in, first_in, later_in, in_cons, pairs_later}
use Rattle.colouring.specs.Chosen.{node_at}
use Rattle.colouring.proofs.Ordered.{pairs_first}

abbrev pub Rising : List Node → Type 0
Rising xs = AllPairs (λ (x y : Node). x.reg.number < y.reg.number) xs

-- the node of a member's number is that member
pub found_at : (xs : List Node) (x : Node) → Rising xs → Contains xs x → node_at xs x.reg.number ≡ Some x
found_at [] x up c = absurd (none_in x c)
found_at (y ∷ ys) x up c =
    ⊎_elim
    (λ e. ap (λ (b : Bool). cond b (Some y) (node_at ys x.reg.number))
    (eq-eqb y.reg.number x.reg.number (ap (λ (z : Node). z.reg.number) e)) ∙ ap (λ z. Some z) e)
    (λ d.
    let under : y.reg.number < x.reg.number = pairs_first (λ (x y : Node). x.reg.number < y.reg.number) y ys up x d in
    let apart : nat_eq y.reg.number x.reg.number ≡ false =
    ne_eqb y.reg.number x.reg.number (λ e. absurd (omega (arith, under, e))) in
    ap (λ (b : Bool). cond b (Some y) (node_at ys x.reg.number)) apart ∙
    found_at ys x (pairs_later (λ (x y : Node). x.reg.number < y.reg.number) y ys up) d)
    (in_cons y x ys c)

-- so two of one number are one
pub one_of_number : (xs : List Node) (x y : Node) → Rising xs → Contains xs x → Contains xs y →
    x.reg.number ≡ y.reg.number → x ≡ y
one_of_number xs x y up c d e =
    let a : node_at xs x.reg.number ≡ Some x = found_at xs x up c in
    let b : node_at xs y.reg.number ≡ Some y = found_at xs y up d in
    let f : node_at xs x.reg.number ≡ node_at xs y.reg.number = ap (node_at xs) e in
    cc

-- a number that no member has
pub missing : (nodes : List Node) (n : ℕ) → ((x : Node) → Contains nodes x → x.reg.number ≡ n → ⊥) →
    node_at nodes n ≡ None
missing [] n none = refl
missing (x ∷ xs) n none = by (missing xs n (λ y c. none y (later_in x y xs c))) (nat_eq x.reg.number n) refl
  where
    by : node_at xs n ≡ None → (t : Bool) → nat_eq x.reg.number n ≡ t → cond t (Some x) (node_at xs n) ≡ None
    by later true e = absurd (none x (first_in x xs) (eqb-true x.reg.number n e))
    by later false e = later

-- the member that a register of the graph belongs to
pub record Has (xs : List Node) (r : Reg) : Type 0 where
  pub node : Node
  pub among : Contains xs node
  pub same : node.reg ≡ r

pub node_of : (xs : List Node) (r : Reg) → Contains (map (λ (x : Node). x.reg) xs) r → Has xs r
node_of [] r c = absurd (none_in r c)
node_of (x ∷ xs) r c =
    ⊎_elim (λ e. record { node = x; among = first_in x xs; same = e })
    (λ d. let w = node_of xs r d in record { node = w.node; among = later_in x w.node xs w.among; same = w.same })
    (in_cons x.reg r (map (λ (x : Node). x.reg) xs) c)

pub in_graph : (xs : List Node) (x : Node) → Contains xs x → Contains (map (λ (x : Node). x.reg) xs) x.reg
in_graph [] x c = absurd (none_in x c)
in_graph (y ∷ ys) x c =
    ⊎_elim (λ e. subst (λ (z : Node). Contains (y.reg ∷ map (λ (x : Node). x.reg) ys) z.reg) e
    (first_in y.reg (map (λ (x : Node). x.reg) ys)))
    (λ d. later_in y.reg x.reg (map (λ (x : Node). x.reg) ys) (in_graph ys x d)) (in_cons y x ys c)

-- ---- counts

pub none_counted : {A : Type 0} (p : A → Bool) (xs : List A) → count_by p xs ≡ 0 → (x : A) → Contains xs x → p x ≡ false
none_counted p [] z x c = absurd (none_in x c)
none_counted {A = A} p (y ∷ ys) z x c =
    by (none_counted p ys) (p y) refl (sym (sum_by-cons (λ a. cond (p a) 1 0) y ys) ∙ z)
  where
    by : (count_by p ys ≡ 0 → (x : A) → Contains ys x → p x ≡ false) →
        (t : Bool) → p y ≡ t → cond t 1 0 + count_by p ys ≡ 0 → p x ≡ false
    by later true e s = absurd (omega (arith, s))
    by later false e s =
        let less : count_by p ys ≡ 0 = omega (arith, s) in
        ⊎_elim (λ same. subst (λ a. p a ≡ false) same e) (λ d. later less x d) (in_cons y x ys c)

pub record Counted {A : Type 0} (p : A → Bool) (xs : List A) : Type 0 where
  pub what : A
  pub among : Contains xs what
  pub passes : p what ≡ true

pub some_counted : {A : Type 0} (p : A → Bool) (xs : List A) → (count_by p xs ≡ 0 → ⊥) → Counted p xs
some_counted p [] some = absurd (some refl)
some_counted p (y ∷ ys) some = by (some_counted p ys) (p y) refl
  where
    by : ((count_by p ys ≡ 0 → ⊥) → Counted p ys) → (t : Bool) → p y ≡ t → Counted p (y ∷ ys)
    by later true e = record { what = y; among = first_in y ys; passes = e }
    by later false e =
        let w = later (λ z. some
        (sum_by-cons (λ a. cond (p a) 1 0) y ys ∙ ap (λ (t : Bool). cond t 1 0 + count_by p ys) e ∙
        (let s : 0 + count_by p ys ≡ 0 = omega (arith, z) in s))) in
        record { what = w.what; among = later_in y w.what ys w.among; passes = w.passes }

-- ---- filters

pub in_filter : {A : Type 0} (p : A → Bool) (xs : List A) (x : A) → Contains (filter p xs) x →
    Contains xs x × (p x ≡ true)
in_filter p [] x c = absurd (none_in x c)
in_filter p (y ∷ ys) x c = by (in_filter p ys x) (p y) refl c
  where
    by : (Contains (filter p ys) x → Contains ys x × (p x ≡ true)) → (t : Bool) → p y ≡ t →
        Contains (cond t (y ∷ filter p ys) (filter p ys)) x → Contains (y ∷ ys) x × (p x ≡ true)
    by later true e d =
        ⊎_elim (λ same. (subst (λ a. Contains (y ∷ ys) a) same (first_in y ys), subst (λ a. p a ≡ true) same e))
        (λ f. let r = later f in (later_in y x ys r.0, r.1)) (in_cons y x (filter p ys) d)
    by later false e d = let r = later d in (later_in y x ys r.0, r.1)

pub into_filter : {A : Type 0} (p : A → Bool) (xs : List A) (x : A) → Contains xs x → p x ≡ true →
    Contains (filter p xs) x
into_filter p [] x c h = absurd (none_in x c)
into_filter p (y ∷ ys) x c h = by (λ d. into_filter p ys x d h) (p y) refl (in_cons y x ys c)
  where
    by : (Contains ys x → Contains (filter p ys) x) → (t : Bool) → p y ≡ t → (y ≡ x) ⊎ Contains ys x →
        Contains (cond t (y ∷ filter p ys) (filter p ys)) x
    by later true e (inl same) = subst (λ a. Contains (y ∷ filter p ys) a) same (first_in y (filter p ys))
    by later true e (inr d) = later_in y x (filter p ys) (later d)
    by later false e (inl same) = let f : p x ≡ false = subst (λ a. p a ≡ false) same e in cc
    by later false e (inr d) = later d
