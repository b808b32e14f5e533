-- A call: the callee begins above a function that waits, and the function goes on after it.
use Rattle.std.proofs.Common.{◌≡◌, ℕ, ◌+◌, ◌<◌, ◌≤◌, Bool, true, false, cond, ◌&&◌, ◌||◌, List, [], ◌∷◌, length, Option, Some, None, slice_get, slice_index, slice_set, refl, ap, ap₂, arith, ◌∙◌, sym, subst}
use Rattle.bs_words.specs.Fits.{data_start, fits, type_of_comp}
use Rattle.bs_words.specs.Memory.{Memory}
use Rattle.bs_words.specs.declared.types.Loc.{Loc}
use Rattle.bs_words.specs.declared.types.Loc.TheVariants as loc
use Rattle.bs_words.specs.declared.types.Ret.TheVariants as ret
use Rattle.bs_words.specs.declared.types.Ty.TheVariants as ty
use Rattle.bs_words.specs.declared.values.Value.{Value}
use Rattle.cmm_meaning.specs.State.{Doing, Gave, Threw}
use Rattle.image_form.specs.Tables.{Desc}
use Rattle.rv_layout_rules.specs.Laid.{address_of_place}
use Rattle.lin_ir.specs.Formed.{spare}
use Rattle.lin_ir.specs.Meaning.{Locations, NamedAt, after_label, are_vals, at_handler, clear_destroyed, is_named_location, holds_val, on_act, poisoned, assign_spot, put_if, same_loc, unless_pointer, wrote}
use Rattle.lin_ir.specs.declared.lin.Lin.{Lin}
use Rattle.lin_ir.specs.declared.lin.Line.{Line}
use Rattle.lin_ir.specs.declared.lin.LinOp.TheVariants as lin
use Rattle.lin_ir.specs.declared.lin.Spot.{Spot}
use Rattle.mach_ir.specs.Acts.{Around, Goes, On, act_after_call, callee_raises, is_complete, stuck_unless}
use Rattle.mach_ir.specs.Meaning.{Everything}
use Rattle.mach_ir.specs.Runs.{ActivationSetting}
use Rattle.mach_ir.specs.declared.op.Callee.{Callee}
use Rattle.mach_ir.specs.declared.op.Calling.TheVariants as calling
use Rattle.mach_ir.specs.declared.op.Op.TheVariants as op
use Rattle.rv_machine.specs.Frames.{descriptor_at, names_register}
use Rattle.rv_machine.specs.Hart.{Placed}
use Rattle.moving_laws.specs.Waiting.{IsBack}
use Rattle.lin_machine.specs.Follows.{Agrees, IsAfter, IsAt, IsDone, IsEntered}
use Rattle.lin_machine.specs.Relation.{AreCarried, Below, IsDescribed, Laid, Within, blocks_by_serial, pushed}
use Rattle.lin_machine.specs.View.{Fixed, View}
use Rattle.lin_machine.proofs.Calls.{IsCaller, IsFresh, catches, catches_place, comes_back, enters, passes_on}
use Rattle.lin_machine.proofs.Frames.{poisoned_some, none_left}
use Rattle.line_calls.proofs.Handlers.{cleared_alone}

-- ---- what the machine holds of a file, at a frame point

-- poison does to both what it does to one
pub poisoned_same : (named : List Loc) (held file : Locations) (l : Loc) → held l ≡ file l → poisoned named held l ≡ poisoned named file l
poisoned_same named held file l e = ap (λ o. cond (is_named_location l named) o (unless_pointer o)) e

pub vals_held : (end : ℕ) (before : Type 0) (held file : Locations) (ls : List Loc) → Agrees before held file → is_named_location spare ls ≡ false →
    are_vals end ls held ≡ are_vals end ls file
vals_held end before held file [] agrees e = refl
vals_held end before held file (l ∷ ls) agrees e = by_test (same_loc l spare) refl e (vals_held end before held file ls agrees)
  where
    by_test : (t : Bool) → same_loc l spare ≡ t → (t || is_named_location spare ls) ≡ false →
        (is_named_location spare ls ≡ false → are_vals end ls held ≡ are_vals end ls file) → are_vals end (l ∷ ls) held ≡ are_vals end (l ∷ ls) file
    by_test true f e later = absurd (cc)
    by_test false f e later =
        let other : l ≡ spare → ⊥ = λ q. absurd (let g : same_loc spare spare ≡ false = subst (λ z. same_loc z spare ≡ false) q f in cc) in
        ap₂ (λ x y. holds_val end x && y) (agrees.others l other) (later e)

-- a memory in which every block is whole, with no raise on its way
pub around_whole : (a : Around) (memory : Memory) → is_complete a ≡ true → a.raised ≡ None →
    record { memory = memory; unwritten = []; tries = a.tries; raised = None } ≡ record a { memory = memory }
around_whole a memory whole none =
    ap (λ u. record { memory = memory; unwritten = u; tries = a.tries; raised = None }) (sym (none_left a.unwritten whole))
    ∙ ap (λ o. record { memory = memory; unwritten = a.unwritten; tries = a.tries; raised = o }) (sym none)

pub around_raised : (a : Around) (memory : Memory) (rest : List ℕ) (x : Value) → is_complete a ≡ true →
    record { memory = memory; unwritten = []; tries = rest; raised = Some x } ≡ record a { memory = memory; tries = rest; raised = Some x }
around_raised a memory rest x whole =
    ap (λ u. record { memory = memory; unwritten = u; tries = rest; raised = Some x }) (sym (none_left a.unwritten whole))

module _ (s : Fixed) (laid : Laid) (live : List Line → Type 0) (entry : ℕ → ℕ) (c : Below) (place : ActivationSetting) (named : NamedAt) (m : Lin) (next : List Line)
    (v : View) (young : List Placed) (held file : Locations) (a : Around) (before : Type 0) (agrees : Agrees before held file) (k : ℕ)
    (none : a.raised ≡ None) (behind : laid.part (length next) ≡ v.place + k) (saves : laid.saves ≡ true)
    (d : Desc) (is : IsDescribed laid (length a.tries) (named (length next)) d)
    (there : descriptor_at s.image.descs (address_of_place (v.place + k)) ≡ Some d) (inside : v.place + k < length s.image.code)
    (handlers : (l : ℕ) (rest : List ℕ) → a.tries ≡ l ∷ rest → laid.handler l ≡ address_of_place (laid.part (length (after_label l m.code))))
    (dead : (l : ℕ) (rest : List ℕ) → a.tries ≡ l ∷ rest → live (after_label l m.code) → ⊥)
    (fit : are_vals (data_start + length s.image.bytes) (named (length next)) held ≡ true) (whole : is_complete a ≡ true) (w : View)
    (within : Within s laid w young 0 held a c) where
  abbrev point : List Loc
  point = named (length next)

  abbrev slots : Locations
  slots = poisoned (named (length next)) held

  abbrev back : ℕ
  back = address_of_place (v.place + k)

  -- the function while it waits
  abbrev pub below : Below
  below = pushed laid (poisoned (named (length next)) held) a.tries c (slice_index w.registers 2) d (address_of_place (v.place + k))

  caller : IsCaller laid (poisoned (named (length next)) held) d (length a.tries) c (slice_index w.registers 2)
  caller =
      let size = is.size in
      let f = within.frame in
      record {
        bound = λ j x h. (within.slots j x (poisoned_some (named (length next)) held (loc.Slot j) x h).0).0;
        saves = saves;
        size = is.size;
        top = omega (arith, size, f);
        high = within.waits.high;
        even = within.waits.even;
      }

  pub back_is : IsBack (address_of_place (v.place + k))
  back_is =
      let short = s.functions.tables.code.short in
      record { low = omega arith; high = omega (arith, inside, short); even = omega arith }

  -- ---- after the call

  -- what is after a call: no register but a result
  clear_same : (l : Loc) → clear_destroyed Everything (poisoned (named (length next)) held) l ≡ clear_destroyed Everything (poisoned (named (length next)) file) l
  clear_same (loc.Machine r) = refl
  clear_same (loc.Slot j) = poisoned_same (named (length next)) held file (loc.Slot j) (agrees.others (loc.Slot j) (λ e. absurd (cc)))
  clear_same loc.Unset = poisoned_same (named (length next)) held file loc.Unset (agrees.others loc.Unset (λ e. absurd (cc)))

  -- it has come back
  back_at : (u : View) (value : Option Value) (memory : Memory) (after new : Locations) → IsFresh value (poisoned (named (length next)) held) after →
      ((l : Loc) → after l ≡ new l) → IsDone s below (Gave value memory) u →
      IsAt s laid live c (record { rest = next; file = new; around = record a { memory = memory } }) u
  back_at u value memory after new fresh agree r =
      let here = r.1.place in
      let b = behind in (
        r.0,
        after,
        record { others = λ l q. agree l; spare_too = λ q. agree spare },
        record {
          place = omega (arith, here, b);
          within = subst (λ z. Within s laid u r.0 0 after z c) (around_whole a memory whole none)
              (comes_back s laid slots a.tries c (slice_index w.registers 2) d back caller u r.0 value memory after fresh r.1);
        },
      )

  -- its callee has raised
  raised_in : (u : View) (line : Line) (x : Value) (memory : Memory) (tries : List ℕ) → a.tries ≡ tries → IsDone s below (Threw x memory) u →
      IsAfter s laid live c (on_act place m line next (poisoned (named (length next)) file) a (callee_raises x memory a tries)) u
  raised_in u line x memory [] e r =
      (r.0, passes_on s laid slots a.tries c (slice_index w.registers 2) d back caller u r.0 x memory r.1 e)
  raised_in u line x memory (l ∷ rest) e r =
      let goes = catches_place s laid slots a.tries c (slice_index w.registers 2) d back caller u r.0 x memory r.1 l rest e ∙ handlers l rest e in
      subst (λ ts. IsAt s laid live c (record {
        rest = at_handler m.code ts;
        file = poisoned (named (length next)) file;
        around = record a { memory = memory; tries = rest; raised = Some x };
      }) u) (sym e) (
        r.0,
        slots,
        record {
          others = λ q n. poisoned_same (named (length next)) held file q (agrees.others q n);
          spare_too = λ q. absurd (dead l rest e q);
        },
        record {
          place = omega (arith, goes);
          within = subst (λ z. Within s laid u r.0 0 slots z c) (around_raised a memory rest x whole)
              (catches s laid slots a.tries c (slice_index w.registers 2) d back caller u r.0 x memory r.1 l rest e slots (λ j y q. q));
        },
      )

  -- with no result
  pub resumes_without : (whom : Callee) (args : List Spot) (doing : Doing) (u : View) → IsDone s below doing u →
      IsAfter s laid live c (on_act place m (record {
        op = lin.Op (op.Calling (calling.Call whom ret.Unit));
        args = args;
        results = [];
      }) next (poisoned (named (length next)) file) a (act_after_call place.setting ret.Unit a doing)) u
  resumes_without whom args (Gave value memory) u r =
      back_at u value memory (clear_destroyed Everything slots) (clear_destroyed Everything (poisoned (named (length next)) file))
      (record { register = λ q x h. absurd (cc); slot = λ j x h. h }) clear_same r
  resumes_without whom args (Threw x memory) u r = by_test (fits place.setting.end ty.Val x)
    where
      by_test : (t : Bool) → IsAfter s laid live c (on_act place m (record {
        op = lin.Op (op.Calling (calling.Call whom ret.Unit));
        args = args;
        results = [];
      }) next (poisoned (named (length next)) file) a (stuck_unless t (callee_raises x memory a a.tries))) u
      by_test false = tt
      by_test true = raised_in u (record { op = lin.Op (op.Calling (calling.Call whom ret.Unit)); args = args; results = [] }) x memory a.tries refl r

  -- with a result in a0
  pub resumes_with : (whom : Callee) (t : _) (args : List Spot) (p : Spot) → p.loc ≡ loc.Machine 10 → (doing : Doing) (u : View) → IsDone s below doing u →
      IsAfter s laid live c (on_act place m (record {
        op = lin.Op (op.Calling (calling.Call whom (ret.Comp t)));
        args = args;
        results = p ∷ [];
      }) next (poisoned (named (length next)) file) a (act_after_call place.setting (ret.Comp t) a doing)) u
  resumes_with whom t args p seat (Gave None memory) u r = tt
  resumes_with whom t args p seat (Gave (Some x) memory) u r = by_test (fits place.setting.end (type_of_comp t) x)
    where
      line : Line
      line = record { op = lin.Op (op.Calling (calling.Call whom (ret.Comp t))); args = args; results = p ∷ [] }

      put_by : (b : Bool) → IsAfter s laid live c (wrote next (record a { memory = memory })
          (put_if b p x (Some (clear_destroyed Everything (poisoned (named (length next)) file))))) u
      put_by false = tt
      put_by true =
          let alone = cleared_alone p x slots seat in
          back_at u (Some x) memory (assign_spot p x (clear_destroyed Everything slots)) (assign_spot p x (clear_destroyed Everything (poisoned (named (length next)) file)))
          (record { register = λ q y h. let g = alone.register q y h in (g.0, ap Some g.1); slot = alone.slot })
          (λ l. ap (cond (same_loc p.loc l) (Some x)) (clear_same l)) r

      by_test : (b : Bool) → IsAfter s laid live c (on_act place m (record {
        op = lin.Op (op.Calling (calling.Call whom (ret.Comp t)));
        args = args;
        results = p ∷ [];
      }) next (poisoned (named (length next)) file) a (stuck_unless b (Goes (x ∷ []) On (record a { memory = memory })))) u
      by_test false = tt
      by_test true = put_by (fits place.setting.end (type_of_comp p.comp) x)
  resumes_with whom t args p seat (Threw x memory) u r = by_test (fits place.setting.end ty.Val x)
    where
      by_test : (b : Bool) → IsAfter s laid live c (on_act place m (record {
        op = lin.Op (op.Calling (calling.Call whom (ret.Comp t)));
        args = args;
        results = p ∷ [];
      }) next (poisoned (named (length next)) file) a (stuck_unless b (callee_raises x memory a a.tries))) u
      by_test false = tt
      by_test true = raised_in u (record { op = lin.Op (op.Calling (calling.Call whom (ret.Comp t))); args = args; results = p ∷ [] }) x memory a.tries refl r

  -- ---- the callee

  pub callee_begins :
      (f : ℕ) (arguments : List Value) → names_register d.entries ≡ false → 1 ≤ k →
      ((j : ℕ) (x : Value) → slice_get arguments j ≡ Some x → (j < 16) × (held (loc.Machine (10 + j)) ≡ Some x)) →
      IsEntered s entry f arguments a.memory below (record w { place = entry f; registers = slice_set w.registers 1 (address_of_place (v.place + k)) })
  callee_begins f arguments registers some args =
      let hold = subst (λ o. AreCarried s (blocks_by_serial w young) w.registers held o) none within.carried in (
        young,
        enters s laid w young held a c within (named (length next)) d is saves fit (entry f) back arguments back_is (λ e. omega
            (arith, e, some)) there registers whole
            (λ j x h. let g = args j x h in (g.0, (hold (10 + j) x g.1).1)),
      )
