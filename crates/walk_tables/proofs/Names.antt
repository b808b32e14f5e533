-- What is found of a name in scope.
use Rattle.std.proofs.Common.{◌≡◌, ℕ, ◌≤◌, Bool, false, not, cond, List, ◌∷◌, length, Option, Some, None, option_map, refl, sym, ap, ◌∙◌, arith}
use Rattle.std.specs.Str.{bytes_eq}
use Rattle.std.proofs.lemmas.Bool.{false_from_ne_true}
use Rattle.std.proofs.lemmas.Slice.Eq.{bytes_eq-Decides}
use Rattle.bs_words.specs.declared.types.Ty.{Ty}
use Rattle.bs_words.specs.declared.types.Ty.TheVariants as ty
use Rattle.cmm_types.specs.Types.{binding_of, type_bound_by, type_named}
use Rattle.cmm_types.proofs.Bindings.{bound_among}
use Rattle.cmm_types.specs.Light.{is_immutable, is_fixed}
use Rattle.walk_tables.specs.Cells.{item_at, scope_at, scope_in}
use Rattle.walk_tables.specs.Found.{found_of, found_in}
use Rattle.walk_tables.specs.Sound.{AreItemsSound, IsScope}
use Rattle.walk_tables.specs.Walks.{Slotted, names, slotted_as, slot_of}
use Rattle.walk_tables.specs.declared.items.Item.{Item}
use Rattle.walk_tables.specs.declared.scopes.Found.{Found}
use Rattle.walk_tables.proofs.Arena.{item-past}
use Rattle.walk_tables.proofs.Pushed.{scope-is}

pub found-same : (n : Slotted) (rest : List Slotted) (name : List ℕ) → n.scoped.name ≡ name → found_in (n ∷ rest) name ≡ Some (found_of n)
found-same n rest name e = ap (λ (b : Bool). option_map found_of (cond b (Some n) (slotted_as rest name))) ((bytes_eq-Decides n.scoped.name name).1 e)

pub found-other : (n : Slotted) (rest : List Slotted) (name : List ℕ) → (n.scoped.name ≡ name → ⊥) → found_in (n ∷ rest) name ≡ found_in rest name
found-other n rest name h =
    ap (λ (b : Bool). option_map found_of (cond b (Some n) (slotted_as rest name)))
    (false_from_ne_true (bytes_eq n.scoped.name name) (λ e. h ((bytes_eq-Decides n.scoped.name name).0 e)))

abbrev pub immutable_of : Option Found → Bool
immutable_of None = false
immutable_of (Some f) = not f.mutable

abbrev pub type_of_found : Option Found → Ty
type_of_found None = ty.Never
type_of_found (Some f) = f.ty

abbrev pub slot_of_found : Option Found → Option ℕ
slot_of_found found = option_map (λ (f : Found). f.slot) found

bound-names : (s : List Slotted) (name : List ℕ) → binding_of (names s) name ≡ option_map (λ (n : Slotted). n.scoped) (slotted_as s name)
bound-names s name = bound_among (λ (n : Slotted). n.scoped) s name

fixed-as : (o : Option Slotted) → is_fixed (option_map (λ (n : Slotted). n.scoped) o) ≡ immutable_of (option_map found_of o)
fixed-as None = refl
fixed-as (Some n) = refl

pub immutable-found : (s : List Slotted) (name : List ℕ) → is_immutable (names s) name ≡ immutable_of (found_in s name)
immutable-found s name = ap is_fixed (bound-names s name) ∙ fixed-as (slotted_as s name)

type-as : (o : Option Slotted) → type_bound_by (option_map (λ (n : Slotted). n.scoped) o) ≡ type_of_found (option_map found_of o)
type-as None = refl
type-as (Some n) = refl

pub type-found : (s : List Slotted) (name : List ℕ) → type_named (names s) name ≡ type_of_found (found_in s name)
type-found s name = ap type_bound_by (bound-names s name) ∙ type-as (slotted_as s name)

slot-as : (o : Option Slotted) → option_map (λ (n : Slotted). n.slot) o ≡ slot_of_found (option_map found_of o)
slot-as None = refl
slot-as (Some n) = refl

pub slot-found : (s : List Slotted) (name : List ℕ) → slot_of s name ≡ slot_of_found (found_in s name)
slot-found s name = slot-as (slotted_as s name)

-- ---- the scope that a cell is

pub cell-scope : (items : List Item) (c : ℕ) (x : Item) (s : List Slotted) → AreItemsSound items → IsScope items c s → item_at items c ≡ Some x → s ≡ scope_in (scope_at items) x
cell-scope items c x s sound scope e = sym scope.is ∙ scope-is items c x sound e

pub no-cell : (items : List Item) (c : ℕ) (s : List Slotted) → IsScope items c s → item_at items c ≡ None → ⊥
no-cell items c s scope e = let h : length items ≤ c = item-past items c e in omega (arith, scope.within)
