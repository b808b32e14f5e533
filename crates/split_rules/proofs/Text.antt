-- The text of a function whose registers have other numbers: its labels, tries and forms are as they were.
use Rattle.std.proofs.Common.{◌≡◌, ◌≢◌, ℕ, List, [], ◌∷◌, length, refl, sym, ap, ◌∙◌, subst}
use Rattle.std.specs.List.{Contains}
use Rattle.bs_words.specs.declared.types.Loc.TheVariants as loc
use Rattle.mach_ir.specs.Acts.{Target, On, At}
use Rattle.mach_ir.specs.Formed.{comps, labels_in}
use Rattle.mach_ir.specs.Meaning.{after_label, from_handler, code_at, tries_at}
use Rattle.mach_ir.specs.Walks.{AmongRegisters, first, later, StandsAsInstr, InCode, in_args, in_results, further, IsRegister, is_param, is_colour, is_in_code}
use Rattle.mach_ir.specs.declared.reg.Reg.{Reg}
use Rattle.mach_ir.specs.declared.mach.Instr.{Instr}
use Rattle.mach_ir.specs.declared.mach.Mach.{Mach}
use Rattle.mach_laws.specs.Expand.{KeepsMarks, expand}
use Rattle.mach_laws.proofs.InPlace as text
use Rattle.mach_laws.proofs.InPlace.{AreAlike, same_op, was_main}
use Rattle.mach_laws.proofs.Places.{label_expand, handler_expand, tries_expand}
use Rattle.mach_laws.proofs.Among.{among_of}
use Rattle.colouring_rules.proofs.Lists.{was}
use Rattle.split_rules.specs.Renamed.{Naming, register_renumbered, all_numbered, renamed_instr, renamed_code, renamed}
use Rattle.split_rules.specs.Split.{IsNaming}

module _ (names : Naming) where
  -- ---- the code, instruction by instruction

  abbrev pub again : ℕ → Instr → Instr
  again n i = renamed_instr names n i

  pub same_ops : (n : ℕ) (i : Instr) → AreAlike i.op (again n i).op
  same_ops n i = same_op refl

  abbrev pub alone : ℕ → Instr → List Instr
  alone n i = renamed_instr names n i ∷ []

  pub as_expanded : (code : List Instr) → renamed_code names code ≡ expand alone code
  as_expanded [] = refl
  as_expanded (i ∷ is) = ap (λ xs. renamed_instr names (length is) i ∷ xs) (as_expanded is)

  pub keeps_marks : KeepsMarks alone
  keeps_marks = text.keeps_marks again same_ops

  -- ---- labels and tries

  pub same_label : (l : ℕ) (code : List Instr) →
      after_label l (renamed_code names code) ≡ renamed_code names (after_label l code)
  same_label l code =
      ap (after_label l) (as_expanded code) ∙ label_expand alone keeps_marks l code ∙ sym (as_expanded (after_label l code))

  pub same_handler : (l : ℕ) (code : List Instr) →
      from_handler l (renamed_code names code) ≡ renamed_code names (from_handler l code)
  same_handler l code =
      ap (from_handler l) (as_expanded code) ∙ handler_expand alone keeps_marks l code ∙ sym (as_expanded (from_handler l code))

  pub same_tries : (code : List Instr) → tries_at (renamed_code names code) ≡ tries_at code
  same_tries code = ap tries_at (as_expanded code) ∙ tries_expand alone keeps_marks code

  pub same_at : (code next : List Instr) (t : Target) →
      code_at (renamed_code names code) (renamed_code names next) t ≡ renamed_code names (code_at code next t)
  same_at code next On = refl
  same_at code next (At l) = same_label l code

  pub same_labels : (code : List Instr) → labels_in (renamed_code names code) ≡ labels_in code
  same_labels code = ap labels_in (as_expanded code) ∙ text.same_labels again same_ops code

  pub same_comps : (f : ℕ → ℕ) (rs : List Reg) → comps (all_numbered f rs) ≡ comps rs
  same_comps f [] = refl
  same_comps f (r ∷ rs) = ap (λ cs. r.comp ∷ cs) (same_comps f rs)

  -- ---- places in the text

  -- what an instruction of the new code was
  pub record WasAt (i : Instr) (next code : List Instr) : Type 0 where
    pub instr : Instr
    pub after : List Instr
    pub stands : StandsAsInstr instr after code
    pub same : renamed_instr names (length after) instr ≡ i
    pub same_after : renamed_code names after ≡ next

  pub was_at : {i : Instr} {next : List Instr} (code : List Instr) → StandsAsInstr i next (renamed_code names code) →
      WasAt i next code
  was_at {i} {next} code s =
      let w = was_main again code i next (subst (StandsAsInstr i next) (as_expanded code) s) in
      record {
        instr = w.instr;
        after = w.next;
        stands = w.stands;
        same = w.same;
        same_after = as_expanded w.next ∙ sym w.same_next;
      }

-- ---- members by number

pub named_among : {n : ℕ} (f : ℕ → ℕ) (rs : List Reg) → AmongRegisters n rs → AmongRegisters (f n) (all_numbered f rs)
named_among f [] a = elim a [ ]
named_among f (r ∷ rs) (first e) = first (ap f e)
named_among f (r ∷ rs) (later a) = later (named_among f rs a)

pub among_named : {x : ℕ} (f : ℕ → ℕ) (rs : List Reg) → AmongRegisters x (all_numbered f rs) → (n : ℕ) × AmongRegisters n rs × (f n ≡ x)
among_named f [] a = elim a [ ]
among_named f (r ∷ rs) (first e) = (r.number, first refl, e)
among_named f (r ∷ rs) (later a) = let w = among_named f rs a in (w.0, later w.1, w.2)

-- ---- registers

module _ (m : Mach) (names : Naming) (is : IsNaming m names) where
  -- what a register of the new function was
  pub record WasRegister (r : Reg) : Type 0 where
    pub register : Reg
    pub among : IsRegister m register
    pub same : record register { number = r.number } ≡ r
    pub back : is.back r.number ≡ register.number
    pub fixed : register.loc ≢ loc.Unset → r.number ≡ register.number

  -- the fixed ones, as the colours, and the parameters
  as_it_was : (r : Reg) → IsRegister m r → is.back r.number ≡ r.number → WasRegister r
  as_it_was r i b = record { register = r; among = i; same = refl; back = b; fixed = λ h. refl }

  by_reading : (k : ℕ) (w r : Reg) → IsRegister m w → register_renumbered (names.read k) w ≡ r → WasRegister r
  by_reading k w r i e =
      subst WasRegister e
      (record { register = w; among = i; same = refl; back = is.read_back w i k; fixed = λ h. is.read_fixed w i h k })

  by_writing : (k : ℕ) (w r : Reg) → IsRegister m w → register_renumbered (names.write k) w ≡ r → WasRegister r
  by_writing k w r i e =
      subst WasRegister e
      (record { register = w; among = i; same = refl; back = is.write_back w i k; fixed = λ h. is.write_fixed w i h k })

  was_in : (code : List Instr) (r : Reg) → ((w : Reg) → InCode w code → IsRegister m w) → InCode r (renamed_code names code) →
      WasRegister r
  was_in [] r known c = elim c [ ]
  was_in (i ∷ is) r known (in_args c) =
      let w = was (register_renumbered (names.read (length is))) i.args r c in
      by_reading (length is) w.what r (known w.what (in_args w.among)) w.same
  was_in (i ∷ is) r known (in_results c) =
      let w = was (register_renumbered (names.write (length is))) i.results r c in
      by_writing (length is) w.what r (known w.what (in_results w.among)) w.same
  was_in (i ∷ is) r known (further c) = was_in is r (λ w h. known w (further h)) c

  module _ (colour_fixed : (r : Reg) → Contains m.colours r → r.loc ≢ loc.Unset) where
    pub colour_back : (r : Reg) → Contains m.colours r → is.back r.number ≡ r.number
    colour_back r c =
        ap is.back (sym (is.read_fixed r (is_colour c) (colour_fixed r c) 0)) ∙ is.read_back r (is_colour c) 0

    pub param_back : (r : Reg) → Contains m.params r → is.back r.number ≡ r.number
    param_back r c =
        ap is.back (sym (is.entry r.number (among_of r m.params c))) ∙ is.write_back r (is_param c) (length m.code)

    pub was_register : (r : Reg) → IsRegister (renamed names m) r → WasRegister r
    was_register r (is_param c) = as_it_was r (is_param c) (param_back r c)
    was_register r (is_colour c) = as_it_was r (is_colour c) (colour_back r c)
    was_register r (is_in_code c) = was_in m.code r (λ w h. is_in_code h) c
