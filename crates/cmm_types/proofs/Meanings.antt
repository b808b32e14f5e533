-- The type of a name, by its innermost binding.
use Rattle.std.proofs.Common.{◌≡◌, ℕ, List, Option, Some, None, option_map, refl, ap}
use Rattle.bs_words.specs.declared.types.Ty.TheVariants.{Never}
use Rattle.cmm_types.specs.Types.{Scoped, binding_of, type_bound_by, type_named}
use Rattle.cmm_types.specs.Scopes.{meaning_of}
use Rattle.cmm_types.specs.declared.names.Meaning.{Meaning}

none_is : (r : Option Scoped) → None ≡ option_map meaning_of r → Never ≡ type_bound_by r
none_is None e = refl
none_is (Some s) e = cc

some_is : (r : Option Scoped) (m : Meaning) → Some m ≡ option_map meaning_of r → m.ty ≡ type_bound_by r
some_is None m e = cc
some_is (Some s) m e = let f : m ≡ meaning_of s = cc in ap (λ (x : Meaning). x.ty) f

pub unbound_type : (names : List Scoped) (name : List ℕ) → None ≡ option_map meaning_of (binding_of names name) → Never ≡ type_named names name
unbound_type names name e = none_is (binding_of names name) e

pub bound_type : (names : List Scoped) (name : List ℕ) (m : Meaning) → Some m ≡ option_map meaning_of (binding_of names name) → m.ty ≡ type_named names name
bound_type names name m e = some_is (binding_of names name) m e
