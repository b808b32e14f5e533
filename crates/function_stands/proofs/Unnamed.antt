-- A function whose locations are colours and slots names t0 nowhere.
use Rattle.std.proofs.Common.{◌≡◌, ℕ, Bool, true, false, List, length, refl}
use Rattle.std.specs.List.{All, Contains}
use Rattle.bs_words.specs.declared.types.Comp.{Comp}
use Rattle.bs_words.specs.declared.types.Comp.TheVariants as comp
use Rattle.lin_ir.specs.Descriptors.{NamesLives}
use Rattle.lin_ir.specs.Formed.{IsHome, spare}
use Rattle.lin_ir.specs.Meaning.{NamedAt, is_named_location, passes_frame}
use Rattle.lin_ir.specs.Walks.{LiveAt, StandsAsLine}
use Rattle.lin_ir.specs.declared.lin.Line.{Line}
use Rattle.lin_ir.specs.declared.lin.Lin.{Lin}
use Rattle.lin_ir.specs.declared.lin.Spot.{Spot}
use Rattle.line_calls.specs.Known.{Nowhere, SparePasses}
use Rattle.linearise_rules.proofs.Homes.{IsIn, contains_of, in_of, is_one_of}
use Rattle.linearise_rules.proofs.Marks.{all_in}
use Rattle.linearise_rules.proofs.Walked.{not_spare}
use Rattle.lin_tidy_rules.specs.Regular.{AtHomes}

at_no_home : (m : Lin) (spots : List Spot) (t : Comp) → AtHomes m spots → Contains spots (record { loc = spare; comp = t }) → ⊥
at_no_home m spots t homes among = not_spare (all_in (λ (s : Spot). IsHome m s.loc) homes (in_of (record { loc = spare; comp = t }) spots among)) refl

module _ (m : Lin) (homes : All (λ (i : Line). AtHomes m i.args × AtHomes m i.results) m.code) where
  pub unread : (i : Line) → IsIn i m.code → (t : Comp) → Contains i.args (record { loc = spare; comp = t }) → ⊥
  unread i among t c = at_no_home m i.args t (all_in (λ (i : Line). AtHomes m i.args × AtHomes m i.results) homes among).0 c

  pub unwritten : (i : Line) → IsIn i m.code → (t : Comp) → Contains i.results (record { loc = spare; comp = t }) → ⊥
  unwritten i among t c = at_no_home m i.results t (all_in (λ (i : Line). AtHomes m i.args × AtHomes m i.results) homes among).1 c

  pub spare_passes : (i : Line) → IsIn i m.code → (next : List Line) (tries : List ℕ) → SparePasses m Nowhere tries i next
  spare_passes i among next tries = record {
    reads = λ t z. unread i among t z;
    on = λ t o live. absurd live;
    aside = λ e l z live. live;
  }

-- no descriptor names it
pub spare_unnamed : (m : Lin) (named : NamedAt) → NamesLives m named →
    ((i : Line) (next : List Line) (t : Comp) → StandsAsLine i next m.code → LiveAt m spare t i next → ⊥) →
    (i : Line) (next : List Line) → StandsAsLine i next m.code → passes_frame i.op ≡ true → is_named_location spare (named (length next)) ≡ false
spare_unnamed m named names dead i next stands point = by (is_named_location spare (named (length next))) refl
  where
    by : (b : Bool) → is_named_location spare (named (length next)) ≡ b → b ≡ false
    by false e = refl
    by true e =
        absurd (dead i next comp.Val stands ((names.exact i next stands point spare).0 (contains_of (is_one_of spare (named (length next)) e))))
