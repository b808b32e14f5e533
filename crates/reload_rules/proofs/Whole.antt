-- What a function with reloads and spills keeps.
use Rattle.std.proofs.Common.{◌≡◌, ℕ, ◌+◌, suc, ◌<◌, ◌≤◌, Bool, true, false, cond, inl, ⊎_elim, List, [], ◌∷◌, ◌++◌, refl, sym, ap, ◌∙◌, subst, arith}
use Rattle.std.specs.Prelude.{◌||◌}
use Rattle.bs_words.specs.declared.types.Loc.{Loc}
use Rattle.bs_words.specs.declared.types.Loc.TheVariants as loc
use Rattle.std.proofs.lemmas.Bool.{both_ways, false≢true}
use Rattle.mach_ir.specs.Acts.{Target, On, At}
use Rattle.mach_ir.specs.Formed.{WellFormed}
use Rattle.mach_ir.specs.Keeps.{Keeps, IsLoose, is_slot, HasOrigin, NamesSymbol, NamesExternal, IsNamedIn}
use Rattle.mach_ir.specs.Meaning.{after_label, from_handler, code_at, passes_frame, tries_at}
use Rattle.mach_ir.specs.Placed.{WellPlaced}
use Rattle.mach_ir.specs.Sizes.{Size, HasSize}
use Rattle.mach_ir.specs.Walks.{OneOf, this, other, targets, may_raise, goes, raises, Reached, at_entry, by_step, by_raise, LiveAcross, IsRegister, NoAddrLive}
use Rattle.mach_ir.specs.declared.op.CopyKind.{CopyKind}
use Rattle.mach_ir.specs.declared.reg.Reg.{Reg}
use Rattle.mach_ir.specs.declared.mach.MachOp.{MachOp}
use Rattle.mach_ir.specs.declared.mach.Instr.{Instr}
use Rattle.mach_ir.specs.declared.mach.Mach.{Mach}
use Rattle.mach_laws.specs.Expand.{expand, Ending, all}
use Rattle.mach_laws.proofs.Places.{label_expand, handler_expand, ending_label, ending_from_handler, contains_of}
use Rattle.mach_laws.proofs.Walking.{across_live}
use Rattle.pass_rules.specs.Measures.{other_operands}
use Rattle.colouring_rules.specs.Places.{IsSlot}
use Rattle.colouring_rules.proofs.Open.{slot_open}
use Rattle.spill_rules.specs.Spilled.{copy_instruction}
use Rattle.spill_rules.proofs.Holding.{live_register}
use Rattle.spill_rules.proofs.Text.{copy_no_symbol, copy_no_external}
use Rattle.reload_rules.specs.Kept.{with_copies}
use Rattle.reload_rules.specs.Reloaded.{reads_registers, writes_registers, is_in_slot, is_renewed, fresh_stand_in, next_reload_number, renewed, any_renewed, needs_registers, any_needs}
use Rattle.reload_rules.proofs.Copies.{code_instrs, code_operands}
use Rattle.reload_rules.proofs.Kept.{does_reloaded}
use Rattle.reload_rules.proofs.Live.{IsNumbering, reloaded_by, Stage, Before, Reading, Storing, Laid, begins, reload, passes_operand, main, spill, passes_result, ends, laid_of, laid_tries, across_back}
use Rattle.reload_rules.proofs.Parts.{first_operand, first_result, main_for, spills_for, laid_out, IsCopy, is_copy, main_op, part_in}
use Rattle.reload_rules.proofs.Registers.{WasRegister, is_old, is_new, made_register, made_slot, made_top, was_register, old_register}
use Rattle.reload_rules.proofs.Text.{before_reloads, before_spills, laid_instr, keeps_marks}

pub slot_of : (l : Loc) → is_in_slot l ≡ true → (k : ℕ) × (l ≡ loc.Slot k)
slot_of (loc.Slot k) e = (k, refl)
slot_of (loc.Machine n) e = absurd (false≢true e)
slot_of loc.Unset e = absurd (false≢true e)

-- ---- none is left in a slot

none_left : (b : Bool) (n : ℕ) (rs : List Reg) → any_renewed b (renewed b n rs) ≡ false
none_left b n [] = refl
none_left b n (r ∷ rs) =
    ap (λ t. t || any_renewed b (renewed b (next_reload_number b n r) rs)) (by (is_renewed b r) refl)
    ∙ none_left b (next_reload_number b n r) rs
  where
    open_one : (b : Bool) → is_renewed b (fresh_stand_in n r) ≡ false
    open_one true = refl
    open_one false = refl

    by : (t : Bool) → is_renewed b r ≡ t → is_renewed b (cond t (fresh_stand_in n r) r) ≡ false
    by true t = open_one b
    by false t = t

module _ (m : Mach) (s : ℕ → ℕ) (free top : ℕ) (formed : WellFormed m) (placed : WellPlaced m) (is : IsNumbering m s free top) where
  abbrev q : Mach
  q = reloaded_by s m

  abbrev f : ℕ → Instr → List Instr
  f = laid_instr s

  abbrev At_stage : Type 0
  At_stage = Stage m s free top formed placed is

  abbrev Lay : At_stage → List Instr → Type 0
  Lay = Laid m s free top formed placed is

  abbrev over : Instr → List Instr → Instr
  over i next = main_for m s free top formed placed is i next

  old : (r : Reg) → IsRegister q r → WasRegister m s free top formed placed is r
  old r i = was_register m s free top formed placed is r i

  -- ---- what instructions name

  named_before : (Named : MachOp → Type 0) → ((kind : CopyKind) (from to : Reg) → Named (copy_instruction kind from to).op → ⊥) → IsNamedIn Named q →
      IsNamedIn Named m
  named_before Named none n =
      let z = part_in m s free top formed placed is n.instr n.among in
      ⊎_elim (λ c. absurd (of_copy c))
      (λ w.
      record {
        instr = w.instr;
        among = contains_of w.stands;
        named = subst Named (sym (main_op m s free top formed placed is w)) n.named;
      })
      z.1
    where
      of_copy : IsCopy m s free top formed placed is n.instr → ⊥
      of_copy (is_copy kind from to e) = none kind from to (subst (λ (i : Instr). Named i.op) (sym e) n.named)

  -- ---- places that are reached

  abbrev IsReachedAt : At_stage → Type 0
  IsReachedAt (Before rest) = Reached m rest
  IsReachedAt (Reading i next n rs) = Reached m (i ∷ next)
  IsReachedAt (Storing i next n rs) = Reached m next

  record WasReached (ys : List Instr) : Type 0 where
    stage : At_stage
    laid : Lay stage ys
    reached : IsReachedAt stage

  reached_label : (l : ℕ) → Reached m (after_label l m.code) → WasReached (after_label l q.code)
  reached_label l r =
      record {
        stage = Before (after_label l m.code);
        laid = subst (Lay (Before (after_label l m.code))) (sym (label_expand f (keeps_marks s) l m.code))
            (laid_of m s free top formed placed is (after_label l m.code) (ending_label l m.code));
        reached = r;
      }

  reached_handler : (l : ℕ) → Reached m (from_handler l m.code) → WasReached (from_handler l q.code)
  reached_handler l r =
      record {
        stage = Before (from_handler l m.code);
        laid = subst (Lay (Before (from_handler l m.code))) (sym (handler_expand f (keeps_marks s) l m.code))
            (laid_of m s free top formed placed is (from_handler l m.code) (ending_from_handler l m.code));
        reached = r;
      }

  copy_on : (z : At_stage) (ys : List Instr) (t : Target) → Lay z ys → IsReachedAt z → OneOf t (On ∷ []) → WasReached (code_at q.code ys t)
  copy_on z ys t h r this = record { stage = z; laid = h; reached = r }
  copy_on z ys t h r (other o) = elim o [ ]

  step_back : {j : Instr} {ys : List Instr} (z : At_stage) (t : Target) → Lay z (j ∷ ys) → IsReachedAt z → OneOf t (targets j.op) →
      WasReached (code_at q.code ys t)
  step_back z t (begins {i = i} {next = next} ending h) r o =
      step_back (Reading i next (first_operand m s free top formed placed is next) i.args) t h r o
  step_back {ys = ys} z t (reload {i = i} {next = next} {n = n} {rs = rs} k ending g h) r o = copy_on (Reading i next (suc n) rs) ys t h r o
  step_back z t (passes_operand {i = i} {next = next} {n = n} {rs = rs} k h) r o = step_back (Reading i next n rs) t h r o
  step_back {ys = ys} z t (main {i = i} {next = next} ending h) r o = by t o
    where
      by : (t : Target) → OneOf t (targets i.op) → WasReached (code_at q.code ys t)
      by On o =
          record {
            stage = Storing i next (first_result m s free top formed placed is i next) i.results;
            laid = h;
            reached = by_step r (goes On o);
          }
      by (At l) o = reached_label l (by_step r (goes (At l) o))
  step_back {ys = ys} z t (spill {i = i} {next = next} {n = n} {rs = rs} k ending g h) r o = copy_on (Storing i next (suc n) rs) ys t h r o
  step_back z t (passes_result {i = i} {next = next} {n = n} {rs = rs} k e h) r o = step_back (Storing i next n rs) t h r o
  step_back z t (ends {i = i} {next = next} h) r o = step_back (Before next) t h r o

  raise_back : {j : Instr} {ys : List Instr} (z : At_stage) (l : ℕ) (tries : List ℕ) → Lay z (j ∷ ys) → IsReachedAt z →
      may_raise j.op ≡ true → tries_at (j ∷ ys) ≡ l ∷ tries → WasReached (from_handler l q.code)
  raise_back z l tries (begins {i = i} {next = next} ending h) r b e =
      raise_back (Reading i next (first_operand m s free top formed placed is next) i.args) l tries h r b e
  raise_back z l tries (reload k ending g h) r b e = absurd (both_ways false refl b)
  raise_back z l tries (passes_operand {i = i} {next = next} {n = n} {rs = rs} k h) r b e = raise_back (Reading i next n rs) l tries h r b e
  raise_back z l tries (main {i = i} {next = next} ending h) r b e =
      reached_handler l (by_raise r (raises b (sym (laid_tries m s free top formed placed is (main ending h)) ∙ e)))
  raise_back z l tries (spill k ending g h) r b e = absurd (both_ways false refl b)
  raise_back z l tries (passes_result {i = i} {next = next} {n = n} {rs = rs} k t h) r b e = raise_back (Storing i next n rs) l tries h r b e
  raise_back z l tries (ends {i = i} {next = next} h) r b e = raise_back (Before next) l tries h r b e

  was_reached : {ys : List Instr} → Reached q ys → WasReached ys
  was_reached at_entry =
      record { stage = Before m.code; laid = laid_of m s free top formed placed is m.code all; reached = at_entry }
  was_reached (by_step r (goes t o)) = let w = was_reached r in step_back w.stage t w.laid w.reached o
  was_reached (by_raise r (raises {l = l} {tries = tries} b e)) = let w = was_reached r in raise_back w.stage l tries w.laid w.reached b e

  -- a frame point is an instruction of the first
  record IsFrame (j : Instr) (ys : List Instr) : Type 0 where
    instr : Instr
    next : List Instr
    ending : Ending (instr ∷ next) m.code
    same : over instr next ≡ j
    laid : Lay (Storing instr next (first_result m s free top formed placed is instr next) instr.results) ys
    reached : Reached m (instr ∷ next)

  frame_main : {j : Instr} {ys : List Instr} (z : At_stage) → Lay z (j ∷ ys) → IsReachedAt z → passes_frame j.op ≡ true → IsFrame j ys
  frame_main z (begins {i = i} {next = next} ending h) r t =
      frame_main (Reading i next (first_operand m s free top formed placed is next) i.args) h r t
  frame_main z (reload k ending g h) r t = absurd (both_ways false refl t)
  frame_main z (passes_operand {i = i} {next = next} {n = n} {rs = rs} k h) r t = frame_main (Reading i next n rs) h r t
  frame_main z (main {i = i} {next = next} ending h) r t =
      record { instr = i; next = next; ending = ending; same = refl; laid = h; reached = r }
  frame_main z (spill k ending g h) r t = absurd (both_ways false refl t)
  frame_main z (passes_result {i = i} {next = next} {n = n} {rs = rs} k e h) r t = frame_main (Storing i next n rs) h r t
  frame_main z (ends {i = i} {next = next} h) r t = frame_main (Before next) h r t

  pub reloaded_no_addr : NoAddrLive m → NoAddrLive (reloaded_by s m)
  reloaded_no_addr none =
      record {
        none = λ j ys reached frame r one addr v.
            let k = was_reached reached in
            let p = frame_main k.stage k.laid k.reached frame in
            let x = across_back m s free top formed placed is p.instr p.next p.ending p.laid
            (subst (λ j. LiveAcross q r.number j ys) (sym p.same) v) in
            let u = live_register m (across_live x) p.ending in
            none.none p.instr p.next p.reached (subst (λ (j : Instr). passes_frame j.op ≡ true) (sym p.same) frame) r
            (old_register m s free top formed placed is r u.0 one u.1 u.2) addr x;
      }

  -- ---- it keeps

  slot_before : (r : Reg) (k : ℕ) → r.loc ≡ loc.Slot k → WasRegister m s free top formed placed is r → IsRegister m r
  slot_before r k e (is_old a) = a
  slot_before r k e (is_new i next x w t h g) = absurd (slot_open (ap (λ (r : Reg). r.loc) g ∙ e) refl)

  pub reloaded_keeps : Keeps m (reloaded_by s m)
  reloaded_keeps =
      record {
        name = refl;
        result = refl;
        does = does_reloaded m s free top formed placed is;
        origins = λ r i l. origin r l (old r i);
        slots = λ r k i e. inl (record { register = r; among = slot_before r k e (old r i); stands = e; same = refl });
        symbols = λ name n. named_before (NamesSymbol name) (copy_no_symbol name) n;
        externals = λ row n. named_before (NamesExternal row) (copy_no_external row) n;
        addrs = reloaded_no_addr;
      }
    where
      origin : (r : Reg) → IsLoose r → WasRegister m s free top formed placed is r → HasOrigin m r.origin
      origin r l (is_old a) = record { register = r; among = a; loose = l; same = refl }
      origin r l (is_new i next x w t h g) =
          let e = slot_of w.loc (made_slot m s free top formed placed is h) in
          record {
            register = w;
            among = made_register m s free top formed placed is t h;
            loose = is_slot e.1;
            same = ap (λ (r : Reg). r.origin) g;
          }

  -- no slot is new
  pub reloaded_slots : (slot : ℕ) → IsSlot (reloaded_by s m) slot → IsSlot m slot
  reloaded_slots slot h =
      record { register = h.register; among = slot_before h.register slot h.stands (old h.register h.among); stands = h.stands }

  -- ---- sizes

  pub reloaded_size : (size : Size) → HasSize m size → top ≤ size.registers + other_operands m.code →
      HasSize (reloaded_by s m) (with_copies (other_operands m.code) size)
  reloaded_size size h high =
      let instrs = code_instrs s m.code in
      let operands = code_operands s m.code in
      let a = h.instrs in
      let b = h.operands in
      record {
        instrs = omega (arith, instrs, a);
        operands = omega (arith, operands, b);
        numbers = λ r i. number r (old r i);
        origins = λ r i. origin r (old r i);
        labels = h.labels;
      }
    where
      number : (r : Reg) → WasRegister m s free top formed placed is r → r.number < size.registers + other_operands m.code
      number r (is_old a) = let lt = h.numbers r a in omega (arith, lt)
      number r (is_new i next x w t c g) =
          let lt = made_top m s free top formed placed is t c in
          let e : x ≡ r.number = ap (λ (r : Reg). r.number) g in omega (arith, lt, high, e)

      origin : (r : Reg) → WasRegister m s free top formed placed is r → r.origin < size.registers + other_operands m.code
      origin r (is_old a) = let lt = h.origins r a in omega (arith, lt)
      origin r (is_new i next x w t c g) =
          let lt = h.origins w (made_register m s free top formed placed is t c) in
          let e : w.origin ≡ r.origin = ap (λ (r : Reg). r.origin) g in omega (arith, lt, e)

  -- ---- none needs a register

  none_needs : (code : List Instr) → any_needs (expand f code) ≡ false
  none_needs [] = refl
  none_needs (i ∷ next) =
      ap any_needs (laid_out m s free top formed placed is i next (expand f next))
      ∙ before_reloads (λ zs. any_needs zs ≡ false) (over i next ∷ (spills_for m s free top formed placed is i next ++ expand f next))
      (ap (λ t. t || any_needs (spills_for m s free top formed placed is i next ++ expand f next)) main_needs
      ∙ before_spills (λ zs. any_needs zs ≡ false) (expand f next) (none_needs next) (λ kind from to zs h. h) (writes_registers i.op)
      (first_result m s free top formed placed is i next) i.results)
      (λ kind from to zs h. h) (reads_registers i.op) (first_operand m s free top formed placed is next) i.args
    where
      main_needs : needs_registers (over i next) ≡ false
      main_needs =
          ap (λ t. t || any_renewed (writes_registers i.op) (over i next).results)
          (none_left (reads_registers i.op) (first_operand m s free top formed placed is next) i.args)
          ∙ none_left (writes_registers i.op) (first_result m s free top formed placed is i next) i.results

  pub reloaded_registers : any_needs (reloaded_by s m).code ≡ false
  reloaded_registers = none_needs m.code
