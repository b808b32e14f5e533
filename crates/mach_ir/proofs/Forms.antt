-- What the form of an operation says of its components.
use Rattle.std.specs.Prelude.{◌≡◌, ℕ, List, [], ◌∷◌, refl}
use Rattle.bs_words.specs.declared.types.Comp.{Comp}
use Rattle.mach_ir.specs.Forms.{HasForm, symbol, copies, loads, stores, operates, a_register}
use Rattle.mach_ir.specs.declared.op.Op.TheVariants as op
use Rattle.mach_ir.specs.declared.op.Pure.TheVariants as pure
use Rattle.mach_ir.specs.declared.op.Access.TheVariants as access
use Rattle.mach_ir.specs.declared.op.Right.TheVariants as right

pub symbol_inv : (name : List ℕ) (xs ys : List Comp) → HasForm (op.Pure (pure.Symbol name)) xs ys → (xs ≡ []) × ((u : Comp) × (ys ≡ u ∷ []))
symbol_inv name xs ys (symbol {to = u}) = (refl, (u, refl))

pub copy_inv : (kind : _) (xs ys : List Comp) → HasForm (op.Pure (pure.Copy kind)) xs ys → (t : Comp) × (u : Comp) × (xs ≡ t ∷ []) × (ys ≡ u ∷ [])
copy_inv kind xs ys (copies {from = t} {to = u}) = (t, u, refl, refl)

pub load_inv : (k : _) (offset : ℕ) (xs ys : List Comp) → HasForm (op.Access (access.Load k offset)) xs ys →
    (t : Comp) × (u : Comp) × (xs ≡ t ∷ []) × (ys ≡ u ∷ [])
load_inv k offset xs ys (loads {address = t} {to = u}) = (t, u, refl, refl)

pub store_inv : (k : _) (offset : ℕ) (xs ys : List Comp) → HasForm (op.Access (access.Store k offset)) xs ys →
    (t : Comp) × (u : Comp) × (xs ≡ t ∷ u ∷ []) × (ys ≡ [])
store_inv k offset xs ys (stores {address = t} {value = u}) = (t, u, refl, refl)

pub register_inv : (f : _) (xs ys : List Comp) → HasForm (op.Pure (pure.Operator f right.Register)) xs ys →
    (t : Comp) × (u : Comp) × (o : Comp) × (xs ≡ t ∷ u ∷ []) × (ys ≡ o ∷ [])
register_inv f xs ys (operates {left = t} {to = o} (a_register {t = u})) = (t, u, o, refl, refl)
