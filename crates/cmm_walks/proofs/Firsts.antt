-- The search for the first address.
use Rattle.std.specs.Prelude.{◌||◌, Option, Some, None}
use Rattle.std.proofs.Common.{◌≡◌, ◌⊎◌, ℕ, zero, suc, ◌+◌, ◌<◌, ◌≤◌, Bool, true, false, List, [], ◌∷◌, length, take, get_or, sym, ◌∙◌, ap, inl, inr, arith, refl, subst}
use Rattle.std.specs.List.{All, list_any}
use Rattle.std.proofs.lemmas.List.{take_all}
use Rattle.std.proofs.lemmas.List.Elements.{All-head, All-tail, All-weaker, All-more, All-same}
use Rattle.walk_tables.specs.AddrLive.{Before}
use Rattle.walk_tables.specs.Table.{step_at, LeadsToBinding, slot_below, AreNodes, AreLinked}
use Rattle.cmm_walks.specs.First.{IsWithin, with_part, IsLeast, IsLeastTold, place_within, binds_address, IsFirstLive}
use Rattle.walk_tables.specs.declared.node.Step.{Step}
use Rattle.walk_tables.specs.declared.node.Step.TheVariants as step
use Rattle.walk_tables.specs.declared.node.Node as node
use Rattle.cmm_walks.specs.declared.limits.Limits as limits
use Rattle.cmm_walks.specs.declared.seeds.Goal.{Goal}
use Rattle.cmm_walks.specs.declared.limits.Part.TheVariants as part

-- what holds of each node's step holds of that at any number
step_all : (P : Step → Type 0) → P step.Quiet → (nodes : List node.Node) (p : ℕ) → All (λ (n : node.Node). P n.step) nodes → P (step_at nodes p)
step_all P quiet [] p all = quiet
step_all P quiet (n ∷ nodes) zero all = All-head (λ (m : node.Node). P m.step) n nodes all
step_all P quiet (n ∷ nodes) (suc p) all = step_all P quiet nodes p (All-tail (λ (m : node.Node). P m.step) n nodes all)

pub slot_more : (a b : ℕ) → a ≤ b → (st : Step) → slot_below a st → slot_below b st
slot_more a b le step.Quiet h = tt
slot_more a b le (step.Binds slot address at) h = omega (arith, h, le)
slot_more a b le (step.Uses slot at) h = omega (arith, h, le)
slot_more a b le (step.Passes at) h = tt

pub place_more : (a b : ℕ) → a ≤ b → (st : Step) → place_within a st → place_within b st
place_more a b le step.Quiet h = tt
place_more a b le (step.Binds slot address at) h = omega (arith, h, le)
place_more a b le (step.Uses slot at) h = omega (arith, h, le)
place_more a b le (step.Passes at) h = omega (arith, h, le)

-- a loop that raises a bound over the nodes
pub slots_kept : (a b : ℕ) (nodes : List node.Node) (i : ℕ) (n : node.Node) → a ≤ b → i < length nodes → n ≡ get_or nodes i n → All (λ (m : node.Node). slot_below a m.step) (take i nodes) → slot_below b n.step → All (λ (m : node.Node). slot_below b m.step) (take (i + 1) nodes)
slots_kept a b nodes i n le within read before here =
    let P : node.Node → Type 0 = λ m. slot_below b m.step in
    All-more P nodes i n within
    (All-weaker (λ (m : node.Node). slot_below a m.step) P (λ m h. slot_more a b le m.step h) (take i nodes) before)
    (subst P read here)

pub places_kept : (a b : ℕ) (nodes : List node.Node) (i : ℕ) (n : node.Node) → a ≤ b → i < length nodes → n ≡ get_or nodes i n → All (λ (m : node.Node). place_within a m.step) (take i nodes) → place_within b n.step → All (λ (m : node.Node). place_within b m.step) (take (i + 1) nodes)
places_kept a b nodes i n le within read before here =
    let P : node.Node → Type 0 = λ m. place_within b m.step in
    All-more P nodes i n within
    (All-weaker (λ (m : node.Node). place_within a m.step) P (λ m h. place_more a b le m.step h) (take i nodes) before)
    (subst P read here)

pub are_nodes : (bound : ℕ) (nodes : List node.Node) → AreLinked nodes → All (λ (n : node.Node). slot_below bound n.step) nodes → AreNodes bound nodes
are_nodes bound nodes links slots = λ k d below. record { next = (links k d below).next; slot = slots k d below }

-- ---- no address

or_false : (x y : Bool) → (x || y) ≡ false → (x ≡ false) × (y ≡ false)
or_false false y e = (refl, e)
or_false true y e = absurd (let f : true ≡ false = e in cc)

no_address_at : (nodes : List node.Node) (p : ℕ) → list_any (λ (n : node.Node). binds_address n.step) nodes ≡ false → binds_address (step_at nodes p) ≡ false
no_address_at [] p e = refl
no_address_at (n ∷ nodes) zero e = (or_false (binds_address n.step) (list_any (λ (m : node.Node). binds_address m.step) nodes) e).0
no_address_at (n ∷ nodes) (suc p) e = no_address_at nodes p (or_false (binds_address n.step) (list_any (λ (m : node.Node). binds_address m.step) nodes) e).1

pub no_address : (nodes : List node.Node) (entry b p u : ℕ) → list_any (λ (n : node.Node). binds_address n.step) nodes ≡ false → LeadsToBinding nodes b p u entry → ⊥
no_address nodes entry b p u e l =
    let is : binds_address (step_at nodes l.bound_node) ≡ true = ap binds_address l.binds in
    let none : binds_address (step_at nodes l.bound_node) ≡ false = no_address_at nodes l.bound_node e in
    let f : true ≡ false = sym is ∙ none in cc

-- ---- places are within the greatest

place_at : (nodes : List node.Node) (greatest p : ℕ) → All (λ (n : node.Node). place_within greatest n.step) nodes → place_within greatest (step_at nodes p)
place_at nodes greatest p all = step_all (λ st. place_within greatest st) tt nodes p all

pub within_greatest : (nodes : List node.Node) (greatest entry b p u : ℕ) → All (λ (n : node.Node). place_within greatest n.step) nodes → LeadsToBinding nodes b p u entry → (b ≤ greatest) × (p ≤ greatest) × (u ≤ greatest)
within_greatest nodes greatest entry b p u all l =
    let P : Step → Type 0 = λ st. place_within greatest st in (
      subst P l.binds (place_at nodes greatest l.bound_node all),
      subst P l.on.passes (place_at nodes greatest l.on.point_node all),
      subst P l.on.on.uses (place_at nodes greatest l.on.on.use_node all),
    )

pub none_within : (nodes : List node.Node) (greatest entry : ℕ) → All (λ (n : node.Node). place_within greatest n.step) nodes → (IsWithin nodes (record { bound = greatest; point = greatest; used = greatest }) entry → ⊥) → (b p u : ℕ) → LeadsToBinding nodes b p u entry → ⊥
none_within nodes greatest entry all none b p u l =
    let w = within_greatest nodes greatest entry b p u all l in
    none (record { bound = b; point = p; used = u; bound_within = w.0; point_within = w.1; used_within = w.2; leads = l })

-- ---- the three searches

not_less : (a b : ℕ) → (a < b → ⊥) → b ≤ a
not_less a b h = grind arith

le_refl : (a : ℕ) → a ≤ a
le_refl a = omega arith

less_or_same : (a b : ℕ) → a ≤ b → (a < b) ⊎ (a ≡ b)
less_or_same a b h = grind arith

before : (used point bound u p b : ℕ) → used ≤ u → (u ≤ used → point ≤ p) → (u ≤ used → p ≤ point → bound ≤ b) → Before bound point used b p u
before used point bound u p b hu hp hb =
    elim (less_or_same used u hu) [
      | inl less ↦ inl less
      | inr same ↦
          let le : u ≤ used = omega (arith, same) in
          inr (elim (less_or_same point p (hp le)) [
            | inl less ↦ inl (same, less)
            | inr same' ↦
                let le' : p ≤ point = omega (arith, same') in
                inr (same, same', hb le le')
          ])
    ]

-- the three searches one after the other
pub first_found : (nodes : List node.Node) (entry greatest used point bound : ℕ)
    → All (λ (n : node.Node). place_within greatest n.step) nodes
    → IsLeast nodes entry (record { bound = greatest; point = greatest; used = greatest }) part.Used used
    → IsLeast nodes entry (record { bound = greatest; point = greatest; used = used }) part.Point point
    → IsLeast nodes entry (record { bound = greatest; point = point; used = used }) part.Bound bound
    → IsFirstLive nodes entry (record { bound = bound; point = point; used = used })
first_found nodes entry greatest used point bound all lu lp lb =
    let w = lb.within in
    let least_used : (b p u : ℕ) → LeadsToBinding nodes b p u entry → used ≤ u = λ b p u l.
    let g = within_greatest nodes greatest entry b p u all l in
    not_less u used (λ less. lu.none_below u less (record { bound = b; point = p; used = u; bound_within = g.0; point_within = g.1; used_within = le_refl u; leads = l })) in
    let least_point : (b p u : ℕ) → u ≤ used → LeadsToBinding nodes b p u entry → point ≤ p = λ b p u le l.
    let g = within_greatest nodes greatest entry b p u all l in
    not_less p point (λ less. lp.none_below p less (record { bound = b; point = p; used = u; bound_within = g.0; point_within = le_refl p; used_within = le; leads = l })) in
    let least_bound : (b p u : ℕ) → u ≤ used → p ≤ point → LeadsToBinding nodes b p u entry → bound ≤ b = λ b p u le le' l.
    not_less b bound (λ less. lb.none_below b less (record { bound = b; point = p; used = u; bound_within = le_refl b; point_within = le'; used_within = le; leads = l })) in
    let u_is : w.used ≡ used = omega (arith, w.used_within, least_used w.bound w.point w.used w.leads) in
    let p_is : w.point ≡ point = omega (arith, w.point_within, least_point w.bound w.point w.used w.used_within w.leads) in
    let b_is : w.bound ≡ bound = omega (arith, w.bound_within, least_bound w.bound w.point w.used w.used_within w.point_within w.leads) in
    let B : ℕ → Type 0 = λ n. LeadsToBinding nodes n w.point w.used entry in
    let P : ℕ → Type 0 = λ n. LeadsToBinding nodes bound n w.used entry in
    let U : ℕ → Type 0 = λ n. LeadsToBinding nodes bound point n entry in
    record {
      leads = subst U u_is (subst P p_is (subst B b_is w.leads));
      least = λ b p u l. before used point bound u p b (least_used b p u l) (λ le. least_point b p u le l) (λ le le'. least_bound b p u le le' l);
    }

-- ---- as the code has them

pub all_taken : (P : node.Node → Type 0) (nodes : List node.Node) (i : ℕ) → length nodes ≤ i → All P (take i nodes) → All P nodes
all_taken P nodes i done all = All-same P nodes (take i nodes) (sym (take_all i nodes done)) all

pub first_of : (nodes : List node.Node) (entry greatest used point bound : ℕ) (of_use of_point told : limits.Limits)
    → All (λ (n : node.Node). place_within greatest n.step) nodes
    → of_use ≡ with_part (record { bound = greatest; point = greatest; used = greatest }) part.Used used
    → of_point ≡ with_part of_use part.Point point
    → told ≡ with_part of_point part.Bound bound
    → IsLeast nodes entry (record { bound = greatest; point = greatest; used = greatest }) part.Used used
    → IsLeast nodes entry of_use part.Point point
    → IsLeast nodes entry of_point part.Bound bound
    → IsFirstLive nodes entry told
first_of nodes entry greatest used point bound of_use of_point told all e1 e2 e3 lu lp lb =
    let U : limits.Limits = record { bound = greatest; point = greatest; used = used } in
    let P : limits.Limits = record { bound = greatest; point = point; used = used } in
    let B : limits.Limits = record { bound = bound; point = point; used = used } in
    let p_is : of_point ≡ P = e2 ∙ ap (λ x. with_part x part.Point point) e1 in
    let b_is : told ≡ B = e3 ∙ ap (λ x. with_part x part.Bound bound) p_is in
    let F : limits.Limits → Type 0 = λ x. IsLeast nodes entry x part.Point point in
    let G : limits.Limits → Type 0 = λ x. IsLeast nodes entry x part.Bound bound in
    let H : limits.Limits → Type 0 = λ x. IsFirstLive nodes entry x in
    subst H (sym b_is) (first_found nodes entry greatest used point bound all lu (subst F e1 lp) (subst G p_is lb))

pub no_address_told : (nodes : List node.Node) (entry : ℕ) (some : Bool) → some ≡ list_any (λ (n : node.Node). binds_address n.step) nodes → some ≡ false → (b p u : ℕ) → LeadsToBinding nodes b p u entry → ⊥
no_address_told nodes entry true e h b p u l = let f : true ≡ false = h in cc
no_address_told nodes entry false e h b p u l = no_address nodes entry b p u (sym e) l

-- the search for a use finds none
pub no_first : (nodes : List node.Node) (greatest entry : ℕ) (told : Option ℕ) → All (λ (n : node.Node). place_within greatest n.step) nodes
    → IsLeastTold nodes entry (record { limits = record { bound = greatest; point = greatest; used = greatest }; part = part.Used }) told → told ≡ None
    → (b p u : ℕ) → LeadsToBinding nodes b p u entry → ⊥
no_first nodes greatest entry None all none is = none_within nodes greatest entry all none
no_first nodes greatest entry (Some x) all least is = cc

pub told_least : (nodes : List node.Node) (entry limit : ℕ) (goal : Goal) (told : Option ℕ) → IsLeastTold nodes entry goal told → told ≡ Some limit → IsLeast nodes entry goal.limits goal.part limit
told_least nodes entry limit goal told least is = let P : Option ℕ → Type 0 = λ o. IsLeastTold nodes entry goal o in subst P is least
