-- A function whose copies are propagated is well-formed, and is where it was.
use Rattle.std.proofs.Common.{◌≡◌, ℕ, suc, ◌+◌, ◌⊎◌, ⊎_elim, List, [], ◌∷◌, ◌++◌, length, map, refl, sym, ap, ◌∙◌, subst, append_assoc}
use Rattle.std.proofs.lemmas.List.Elements.{Contains-append_cases, All-contains}
use Rattle.std.proofs.Math.Nat.{le_of_eq}
use Rattle.std.specs.List.{Contains}
use Rattle.bs_words.proofs.Lists.{none_in, first_in, later_in, in_cons}
use Rattle.cse_copy_rules.specs.Propagated.{move_instruction, ReadFor, source, itself, instr_with_sources, alone_with_sources, with_sources, IsPropagatedBefore}
use Rattle.mach_ir.specs.Forms.{HasForm}
use Rattle.mach_ir.specs.Formed.{comps, IsFormedInstruction, MarkHasForm, formed_op, formed_mark, WellFormed}
use Rattle.mach_ir.specs.Seats.{AreSeated, mach_operand_seats, mach_result_seats, places_of, Seated}
use Rattle.mach_ir.specs.Sizes.{operand_count, Size, HasSize}
use Rattle.mach_ir.specs.Walks.{IsRegister, is_param, is_colour, is_in_code, StandsAsInstr, here, below}
use Rattle.mach_ir.specs.declared.reg.Reg.{Reg}
use Rattle.mach_ir.specs.declared.mach.Instr.{Instr}
use Rattle.mach_ir.specs.declared.mach.Mach.{Mach}
use Rattle.mach_laws.specs.Expand.{expand, KeepsMarks}
use Rattle.mach_laws.proofs.Places.{stands_behind, args_in, results_in, contains_of}
use Rattle.mach_laws.proofs.InPlace as text
use Rattle.mach_laws.proofs.InPlace.{AreAlike, same_op, both, each_in}
use Rattle.cse_repeat_rules.proofs.OneForOne.{in_append, in_code_stands, StandsFor, before_of}
use Rattle.cse_repeat_rules.proofs.OneForOne as one
use Rattle.mach_laws.specs.Passes.{IsNoLarger}

-- ---- lists

pub record Mapped (p : Reg → Reg) (rs : List Reg) (s : Reg) : Type 0 where
  pub register : Reg
  pub among : Contains rs register
  pub same : p register ≡ s

pub in_map : (p : Reg → Reg) (rs : List Reg) (s : Reg) → Contains (map p rs) s → Mapped p rs s
in_map p [] s c = absurd (none_in s c)
in_map p (r ∷ rs) s c =
    ⊎_elim (λ e. record { register = r; among = first_in r rs; same = e })
    (λ d. let w = in_map p rs s d in record { register = w.register; among = later_in r w.register rs w.among; same = w.same })
    (in_cons (p r) s (map p rs) c)

pub map_same : {B : Type 0} (F : Reg → B) (p : Reg → Reg) (rs : List Reg) → ((r : Reg) → Contains rs r → F (p r) ≡ F r) →
    map F (map p rs) ≡ map F rs
map_same F p [] h = refl
map_same F p (r ∷ rs) h =
    ap (λ x. x ∷ map F (map p rs)) (h r (first_in r rs))
    ∙ ap (λ xs. F r ∷ xs) (map_same F p rs (λ k c. h k (later_in r k rs c)))

as_many : (p : Reg → Reg) (rs : List Reg) → length (map p rs) ≡ length rs
as_many p [] = refl
as_many p (r ∷ rs) = ap suc (as_many p rs)

pub only_in : {A : Type 0} (x y : A) → Contains (x ∷ []) y → x ≡ y
only_in x y c = ⊎_elim (λ e. e) (λ d. absurd (none_in y d)) (in_cons x y [] c)

-- ---- code with its sources

module _ (plan : ℕ → Reg → Reg) where
  abbrev pub f : ℕ → Instr → List Instr
  f = alone_with_sources plan

  pub alike : (k : ℕ) (i : Instr) → StandsFor i (instr_with_sources plan k i)
  alike k i = record { op = same_op refl; results = refl }

  pub same_ops : (k : ℕ) (i : Instr) → AreAlike i.op (instr_with_sources plan k i).op
  same_ops k i = (alike k i).op

  pub keeps_marks : KeepsMarks (alone_with_sources plan)
  keeps_marks = text.keeps_marks (instr_with_sources plan) same_ops

  same_count : (code : List Instr) → operand_count (expand f code) ≡ operand_count code
  same_count [] = refl
  same_count (i ∷ is) =
      ap (λ n. n + length i.results + operand_count (expand f is)) (as_many (plan (length is)) i.args)
      ∙ ap (λ n. length i.args + length i.results + n) (same_count is)

-- ---- what an operand is read from

pub record Fits (r s : Reg) : Type 0 where
  pub comp : s.comp ≡ r.comp
  pub place : s.loc ≡ r.loc

fits_of : {made : List Instr} {r s : Reg} → ReadFor made r s → Fits r s
fits_of (source w) = record { comp = w.same_comp; place = w.source_open ∙ sym w.copy_open }
fits_of (itself h) = record { comp = refl; place = refl }

formed_again : {i : Instr} (p : Reg → Reg) → IsFormedInstruction i → comps (map p i.args) ≡ comps i.args →
    IsFormedInstruction (record i { args = map p i.args })
formed_again p (formed_op {f = f} {args = args} {results = results} h) e =
    formed_op (subst (λ cs. HasForm f cs (comps results)) (sym e) h)
formed_again p (formed_mark {f = f} {args = args} {results = results} h) e =
    formed_mark (subst (λ cs. MarkHasForm f cs (comps results)) (sym e) h)

-- What is kept of the form of a function.
pub record IsFormKept (m q : Mach) : Type 0 where
  pub formed : WellFormed q
  pub seated : Seated m → Seated q
  pub no_larger : IsNoLarger m q

module _ (m : Mach) (plan : ℕ → Reg → Reg)
    (reads : (i : Instr) (next made : List Instr) → IsPropagatedBefore plan m i next made → (r : Reg) → Contains i.args r →
    ReadFor made r (plan (length next) r)) where
  abbrev q : Mach
  q = record m { code = with_sources plan m.code }

  abbrev g : ℕ → Instr → List Instr
  g = alone_with_sources plan

  pub fits : (i : Instr) (next : List Instr) → StandsAsInstr i next m.code → (r : Reg) → Contains i.args r → Fits r (plan (length next) r)
  fits i next s r c =
      let b = before_of (instr_with_sources plan) s in
      fits_of (reads i next b.made (record { before = b.before; whole = b.whole; made_so = b.made_so }) r c)

  -- ---- registers

  -- what the instructions of this code read
  abbrev AreKnown : List Instr → Type 0
  AreKnown made = (j : Instr) → Contains made j → (r : Reg) → Contains j.args r → IsRegister m r

  known_source : {made : List Instr} {r s : Reg} → AreKnown made → IsRegister m r → ReadFor made r s → IsRegister m s
  known_source {made} {r} {s} known i (source w) =
      known (move_instruction s r) (subst (λ xs. Contains xs (move_instruction s r)) (sym w.within) (in_append w.others (move_instruction s r) w.run)) s (first_in s [])
  known_source known i (itself h) = i

  module _ (i : Instr) (next before made : List Instr) (whole : m.code ≡ before ++ i ∷ next)
      (made_so : with_sources plan m.code ≡ made ++ instr_with_sources plan (length next) i ∷ expand g next) (known : AreKnown made) where
    abbrev x : Instr
    x = instr_with_sources plan (length next) i

    here_known : (r : Reg) → Contains i.args r → IsRegister m (plan (length next) r)
    here_known r c =
        known_source known (is_in_code (args_in (subst (StandsAsInstr i next) (sym whole) (stands_behind before _ _)) c))
        (reads i next made (record { before = before; whole = whole; made_so = made_so }) r c)

    read_known : (r : Reg) → Contains x.args r → IsRegister m r
    read_known r c = let w = in_map (plan (length next)) i.args r c in subst (IsRegister m) w.same (here_known w.register w.among)

    known_on : AreKnown (made ++ x ∷ [])
    known_on j c r d =
        ⊎_elim (λ a. known j a r d) (λ b. read_known r (subst (λ (y : Instr). Contains y.args r) (sym (only_in x j b)) d))
        (Contains-append_cases made (x ∷ []) j c)

  read_from : {i : Instr} {next code : List Instr} → StandsAsInstr i next code → (before made : List Instr) → m.code ≡ before ++ code →
      with_sources plan m.code ≡ made ++ expand g code → AreKnown made → (r : Reg) → Contains (instr_with_sources plan (length next) i).args r →
      IsRegister m r
  read_from {i} {next} here before made whole made_so known r c = read_known i next before made whole made_so known r c
  read_from (below {j = j} {is = is} s) before made whole made_so known r c =
      read_from s (before ++ j ∷ []) (made ++ instr_with_sources plan (length is) j ∷ []) (whole ∙ sym (append_assoc before (j ∷ []) is))
      (made_so ∙ sym (append_assoc made (instr_with_sources plan (length is) j ∷ []) (expand g is)))
      (known_on j is before made whole made_so known) r c

  read_register : (i : Instr) (next : List Instr) → StandsAsInstr i next m.code → (r : Reg) → Contains (instr_with_sources plan (length next) i).args r →
      IsRegister m r
  read_register i next s r c = read_from s [] [] refl refl (λ j d k e. absurd (none_in j d)) r c

  pub was_register : (r : Reg) → IsRegister q r → IsRegister m r
  was_register r (is_param c) = is_param c
  was_register r (is_colour c) = is_colour c
  was_register r (is_in_code c) =
      let w = in_code_stands q.code c in
      both (instr_with_sources plan) m.code (λ j zs. Contains j.args r ⊎ Contains j.results r → IsRegister m r)
      (λ i next s d. ⊎_elim (λ a. read_register i next s r a) (λ a. is_in_code (results_in s a)) d) w.0 w.1 w.2 w.3

  -- ---- form

  module _ (formed : WellFormed m) where
    form_of : (i : Instr) → Contains m.code i → IsFormedInstruction i
    form_of i c = All-contains IsFormedInstruction m.code i formed.instrs c

    same_comps : (i : Instr) (next : List Instr) → StandsAsInstr i next m.code → comps (map (plan (length next)) i.args) ≡ comps i.args
    same_comps i next s = map_same (λ (r : Reg). r.comp) (plan (length next)) i.args (λ r c. (fits i next s r c).comp)

    same_places : (i : Instr) (next : List Instr) → StandsAsInstr i next m.code →
        places_of (map (plan (length next)) i.args) ≡ places_of i.args
    same_places i next s = map_same (λ (r : Reg). r.loc) (plan (length next)) i.args (λ r c. (fits i next s r c).place)

    still_formed : WellFormed q
    still_formed =
        one.still_formed (instr_with_sources plan) (alike plan) m formed was_register
        (λ i next s. formed_again (plan (length next)) (form_of i (contains_of s)) (same_comps i next s))
        (λ i next s e. same_comps i next s ∙ formed.returns i (contains_of s) e)

    still_seated : Seated m → Seated q
    still_seated seated =
        record {
          params = seated.params;
          operands = each_in (instr_with_sources plan) m.code (λ (i : Instr). AreSeated (mach_operand_seats i.op) (places_of i.args))
              (λ i next s.
              subst (AreSeated (mach_operand_seats i.op)) (sym (same_places i next s)) (seated.operands i (contains_of s)));
          results = each_in (instr_with_sources plan) m.code (λ (i : Instr). AreSeated (mach_result_seats i.op) (places_of i.results))
              (λ i next s. seated.results i (contains_of s));
        }

    as_small : (s : Size) → HasSize m s → HasSize q s
    as_small = one.still_small (instr_with_sources plan) (alike plan) m was_register (le_of_eq (same_count plan m.code))

    pub form_kept : IsFormKept m (record m { code = with_sources plan m.code })
    form_kept =
        record {
          formed = still_formed;
          seated = still_seated;
          no_larger = record { params = refl; registers = was_register; size = as_small };
        }
