-- The constants that move, by what is found of their places.
use Rattle.std.proofs.Common.{◌≡◌, ◌∙◌, ⊎_elim, ℕ, zero, suc, ◌+◌, ◌-◌, ◌%◌, ◌<◌, ◌≤◌, Bool, true, cond, ◌&&◌, List, [], ◌∷◌, Some, length, refl, sym, ap, subst, arith}
use Rattle.std.specs.Prelude.{nat_eq, nat_le, nat_lt, slice_get, Contains}
use Rattle.std.proofs.lemmas.Bool.{cases_lt, true≢false, eqb-true, eq-eqb, leb-true, le-leb, ltb-true, lt-ltb, and_parts}
use Rattle.bs_words.specs.declared.types.Comp.{Comp}
use Rattle.bs_words.specs.declared.types.Comp.TheVariants as comp
use Rattle.bs_words.specs.declared.types.Loc.TheVariants as loc
use Rattle.bs_words.proofs.Lists.{first_in}
use Rattle.mach_ir.specs.Acts.{Target, At}
use Rattle.mach_ir.specs.Formed.{WellFormed, TargetsLabel, is_exit}
use Rattle.mach_ir.specs.Labels.{label_of}
use Rattle.mach_ir.specs.Meaning.{Everything, destroyed_by, killed, has_label}
use Rattle.mach_ir.specs.Walks.{AmongRegisters, first, OneOf, this, other, StandsAsInstr, here, below, IsRegister, is_in_code}
use Rattle.mach_ir.specs.declared.op.Op.TheVariants as op
use Rattle.mach_ir.specs.declared.op.Pure.TheVariants as pure
use Rattle.mach_ir.specs.declared.reg.Reg.{Reg}
use Rattle.mach_ir.specs.declared.mach.Mark.TheVariants as mark
use Rattle.mach_ir.specs.declared.mach.MachOp.{MachOp}
use Rattle.mach_ir.specs.declared.mach.MachOp.TheVariants as mach
use Rattle.mach_ir.specs.declared.mach.Instr.{Instr}
use Rattle.mach_ir.specs.declared.mach.Mach.{Mach}
use Rattle.hoist_rules.specs.Hoisted.{makes, FitsAlways, an_int, an_odd_val, MayMove}
use Rattle.hoist_rules.specs.Chosen.{IsLoopRound, IsWide, IsMoved}
use Rattle.mach_laws.proofs.Places.{shorter, results_in, is_unset}
use Rattle.mach_laws.proofs.Among.{split_among, left_among}
use Rattle.mach_laws.proofs.Instructions.{instr}
use Rattle.hoist.specs.Constants.{is_wide, fits_always, constant_of, can_hold, holds_wide, makes_wide}
use Rattle.hoist.specs.Loops.{exit_of, EndsFrom, IsFirstCall, IsCalmWide}
use Rattle.hoist.specs.Written.{writes_counted, times, is_once}
use Rattle.hoist.proofs.Reaching.{same_item}
use Rattle.hoist.proofs.Once.{open_stays, no_param, only_here, times_once}
use Rattle.mach_ir.specs.Places.{is_unset_location, are_none}

-- ---- places

-- the place of an instruction, before this code
abbrev pub IsPlace : List Instr → List Instr → ℕ → Type 0
IsPlace code next p = p + suc (length next) ≡ length code

pub at_of : {i : Instr} {next code : List Instr} → StandsAsInstr i next code → (p : ℕ) → IsPlace code next p → slice_get code p ≡ Some i
at_of here zero e = refl
at_of here (suc p) e = absurd (omega (arith, e))
at_of (below s) zero e = let lt = shorter s in absurd (omega (arith, lt, e))
at_of (below s) (suc p) e = at_of s p (omega (arith, e))

pub record IsAt (code : List Instr) (p : ℕ) (i : Instr) : Type 0 where
  pub next : List Instr
  pub stands : StandsAsInstr i next code
  pub place : IsPlace code next p

pub stands_at : (code : List Instr) (p : ℕ) (i : Instr) → slice_get code p ≡ Some i → IsAt code p i
stands_at [] p i e = absurd cc
stands_at (x ∷ xs) zero i e =
    let same : x ≡ i = cc in
    record { next = xs; stands = subst (λ i. StandsAsInstr i xs (x ∷ xs)) same here; place = omega arith }
stands_at (x ∷ xs) (suc p) i e =
    let s = stands_at xs p i e in
    record { next = s.next; stands = below s.stands; place = let k = s.place in omega (arith, k) }

pub place_of : {i : Instr} {next code : List Instr} → StandsAsInstr i next code → IsPlace code next (length code - suc (length next))
place_of s = let lt = shorter s in omega (arith, lt)

-- ---- labels and exits

label_told : (l : ℕ) (f : MachOp) → has_label l f ≡ true → label_of f ≡ Some l
label_told l (mach.Op f) e = absurd (true≢false (sym e))
label_told l (mach.Mark (mark.Exit k n)) e = absurd (true≢false (sym e))
label_told l (mach.Mark (mark.If t k)) e = absurd (true≢false (sym e))
label_told l (mach.Mark (mark.Else k end)) e = ap (λ k. Some k) (eqb-true k l e)
label_told l (mach.Mark (mark.Switch labels)) e = absurd (true≢false (sym e))
label_told l (mach.Mark (mark.Case indexes k end)) e = ap (λ k. Some k) (eqb-true k l e)
label_told l (mach.Mark mark.Catch) e = absurd (true≢false (sym e))
label_told l (mach.Mark (mark.With k end)) e = ap (λ k. Some k) (eqb-true k l e)
label_told l (mach.Mark (mark.Try k)) e = absurd (true≢false (sym e))
label_told l (mach.Mark (mark.Leave k end)) e = absurd (true≢false (sym e))
label_told l (mach.Mark (mark.Handler k)) e = absurd (true≢false (sym e))
label_told l (mach.Mark (mark.End k)) e = ap (λ k. Some k) (eqb-true k l e)

label_says : (l : ℕ) (f : MachOp) → label_of f ≡ Some l → has_label l f ≡ true
label_says l (mach.Op f) e = absurd cc
label_says l (mach.Mark (mark.Exit k n)) e = absurd cc
label_says l (mach.Mark (mark.If t k)) e = absurd cc
label_says l (mach.Mark (mark.Else k end)) e = eq-eqb k l cc
label_says l (mach.Mark (mark.Switch labels)) e = absurd cc
label_says l (mach.Mark (mark.Case indexes k end)) e = eq-eqb k l cc
label_says l (mach.Mark mark.Catch) e = absurd cc
label_says l (mach.Mark (mark.With k end)) e = eq-eqb k l cc
label_says l (mach.Mark (mark.Try k)) e = absurd cc
label_says l (mach.Mark (mark.Leave k end)) e = absurd cc
label_says l (mach.Mark (mark.Handler k)) e = absurd cc
label_says l (mach.Mark (mark.End k)) e = eq-eqb k l cc

only : {t u : Target} → OneOf t (u ∷ []) → t ≡ u
only this = refl
only (other o) = elim o [ ]

exit_told : (l : ℕ) (f : MachOp) → is_exit f ≡ true → TargetsLabel f l → exit_of f ≡ Some l
exit_told l (mach.Mark (mark.Exit k n)) e o = let same = only o in let back : k ≡ l = cc in ap (λ k. Some k) back
exit_told l (mach.Op f) e o = absurd (true≢false (sym e))
exit_told l (mach.Mark (mark.If t k)) e o = absurd (true≢false (sym e))
exit_told l (mach.Mark (mark.Else k end)) e o = absurd (true≢false (sym e))
exit_told l (mach.Mark (mark.Switch labels)) e o = absurd (true≢false (sym e))
exit_told l (mach.Mark (mark.Case indexes k end)) e o = absurd (true≢false (sym e))
exit_told l (mach.Mark mark.Catch) e o = absurd (true≢false (sym e))
exit_told l (mach.Mark (mark.With k end)) e o = absurd (true≢false (sym e))
exit_told l (mach.Mark (mark.Try k)) e o = absurd (true≢false (sym e))
exit_told l (mach.Mark (mark.Leave k end)) e o = absurd (true≢false (sym e))
exit_told l (mach.Mark (mark.Handler k)) e o = absurd (true≢false (sym e))
exit_told l (mach.Mark (mark.End k)) e o = absurd (true≢false (sym e))

exit_says : (l : ℕ) (f : MachOp) → exit_of f ≡ Some l → (is_exit f ≡ true) × TargetsLabel f l
exit_says l (mach.Mark (mark.Exit k n)) e =
    let same : k ≡ l = cc in
    (refl, subst (λ k. OneOf (At l) (At k ∷ [])) (sym same) this)
exit_says l (mach.Op f) e = absurd cc
exit_says l (mach.Mark (mark.If t k)) e = absurd cc
exit_says l (mach.Mark (mark.Else k end)) e = absurd cc
exit_says l (mach.Mark (mark.Switch labels)) e = absurd cc
exit_says l (mach.Mark (mark.Case indexes k end)) e = absurd cc
exit_says l (mach.Mark mark.Catch) e = absurd cc
exit_says l (mach.Mark (mark.With k end)) e = absurd cc
exit_says l (mach.Mark (mark.Try k)) e = absurd cc
exit_says l (mach.Mark (mark.Leave k end)) e = absurd cc
exit_says l (mach.Mark (mark.Handler k)) e = absurd cc
exit_says l (mach.Mark (mark.End k)) e = absurd cc

-- ---- wide constants

wide_told : (w : ℕ) → is_wide w ≡ true → IsWide w
wide_told w e =
    let t = and_parts (nat_le 2048 w) (nat_lt w 18446744073709549568) e in
    let low = leb-true 2048 w t.0 in
    let high = ltb-true w 18446744073709549568 t.1 in
    (low, omega (arith, high))

wide_says : (w : ℕ) → IsWide w → is_wide w ≡ true
wide_says w (low, high) =
    let a = le-leb 2048 w low in
    let b = lt-ltb w 18446744073709549568 (omega (arith, high)) in
    cc

fits_told : (c : Comp) (w : ℕ) → fits_always c w ≡ true → FitsAlways c w
fits_told comp.Int w e = an_int
fits_told comp.Val w e = an_odd_val (eqb-true (w % 2) 1 e)
fits_told comp.Addr w e = absurd (true≢false (sym e))
fits_told comp.Float w e = absurd (true≢false (sym e))

fits_says : {c : Comp} {w : ℕ} → FitsAlways c w → fits_always c w ≡ true
fits_says an_int = refl
fits_says {w = w} (an_odd_val h) = eq-eqb (w % 2) 1 h

pub record MakesWide (i : Instr) : Type 0 where
  pub register : Reg
  pub word : ℕ
  pub is : i ≡ makes register word
  pub fits : FitsAlways register.comp word
  pub open_place : register.loc ≡ loc.Unset
  pub wide : IsWide word

constant_told : (w : ℕ) (args results : List Reg) → holds_wide (Some w) args results ≡ true →
    MakesWide (instr (mach.Op (op.Pure (pure.Constant w))) args results)
constant_told w args results e = by args results (and_parts (is_wide w) (are_none args && can_hold w results) e)
  where
    by : (args results : List Reg) → (is_wide w ≡ true) × ((are_none args && can_hold w results) ≡ true) →
        MakesWide (instr (mach.Op (op.Pure (pure.Constant w))) args results)
    by [] [] t = absurd (true≢false (sym t.1))
    by [] (r ∷ []) t =
        let h = and_parts (is_unset_location r.loc) (fits_always r.comp w) t.1 in
        record {
          register = r;
          word = w;
          is = refl;
          fits = fits_told r.comp w h.1;
          open_place = is_unset r.loc h.0;
          wide = wide_told w t.0;
        }
    by [] (r ∷ q ∷ rs) t = absurd (true≢false (sym t.1))
    by (a ∷ args) results t = absurd (true≢false (sym t.1))

parts_told : (f : MachOp) (args results : List Reg) → holds_wide (constant_of f) args results ≡ true → MakesWide (instr f args results)
parts_told (mach.Op (op.Pure (pure.Constant w))) args results e = constant_told w args results e
parts_told (mach.Op (op.Pure (pure.Copy kind))) args results e = absurd (true≢false (sym e))
parts_told (mach.Op (op.Pure (pure.Symbol name))) args results e = absurd (true≢false (sym e))
parts_told (mach.Op (op.Pure (pure.Operator f right))) args results e = absurd (true≢false (sym e))
parts_told (mach.Op (op.Access f)) args results e = absurd (true≢false (sym e))
parts_told (mach.Op (op.Calling f)) args results e = absurd (true≢false (sym e))
parts_told (mach.Op (op.Leaving f)) args results e = absurd (true≢false (sym e))
parts_told (mach.Mark f) args results e = absurd (true≢false (sym e))

makes_told : (i : Instr) → makes_wide i ≡ true → MakesWide i
makes_told i e = parts_told i.op i.args i.results e

all_true : (a b c : Bool) → a ≡ true → b ≡ true → c ≡ true → (a && (true && (b && c))) ≡ true
all_true a b c e h k = cc

makes_says : (i : Instr) (r : Reg) (w : ℕ) → i ≡ makes r w → FitsAlways r.comp w → r.loc ≡ loc.Unset → IsWide w → makes_wide i ≡ true
makes_says i r w e fits open_place wide =
    ap makes_wide e
    ∙ all_true (is_wide w) (is_unset_location r.loc) (fits_always r.comp w) (wide_says w wide) (ap is_unset_location open_place) (fits_says fits)

-- ---- loops

module _ (m : Mach) where
  pub record RoundAt (p : ℕ) (end : List Instr) : Type 0 where
    pub at : ℕ
    pub place : at + length end ≡ length m.code
    pub round : EndsFrom m.code (suc p) at
    pub after : p ≤ at

  pub round_told : {i : Instr} {next end : List Instr} (p : ℕ) → IsPlace m.code next p → IsLoopRound m (i ∷ next) end → RoundAt p end
  round_told {next = next} {end = end} p place r =
      record {
        at = back;
        place = let e = long in let k = back_place in omega (arith, e, k);
        round = record {
          label = r.label;
          head = head;
          before = let b = r.before in let k = head_place in omega (arith, b, k, place);
          instr = r.head;
          at = at_of r.head_stands head head_place;
          labelled = label_told r.label (r.head).op r.labelled;
          back = record {
            instr = r.back;
            at = at_of r.back_stands back back_place;
            exit = exit_told r.label (r.back).op r.is_back r.leads;
          };
        };
        after = let e = long in let k = back_place in let a = r.after in omega (arith, e, k, a, place);
      }
    where
      head : ℕ
      head = length m.code - suc (length r.body)

      back : ℕ
      back = length m.code - suc (length r.rest)

      head_place : IsPlace m.code r.body (length m.code - suc (length r.body))
      head_place = place_of r.head_stands

      back_place : IsPlace m.code r.rest (length m.code - suc (length r.rest))
      back_place = place_of r.back_stands

      long : length end ≡ suc (length r.rest)
      long = ap length r.is_end

  pub record RoundBy (i : Instr) (next : List Instr) (e : ℕ) : Type 0 where
    pub end : List Instr
    pub place : e + length end ≡ length m.code
    pub round : IsLoopRound m (i ∷ next) end

  pub round_says : {i : Instr} {next : List Instr} (p e : ℕ) → IsPlace m.code next p → EndsFrom m.code (suc p) e → p ≤ e → RoundBy i next e
  round_says p e place w le =
      let head = stands_at m.code w.head w.instr w.at in
      let back = stands_at m.code e (w.back).instr (w.back).at in
      let exit = exit_says w.label ((w.back).instr).op (w.back).exit in
      let head_place = head.place in
      let back_place = back.place in
      let lt = w.before in
      record {
        end = (w.back).instr ∷ back.next;
        place = back_place;
        round = record {
          label = w.label;
          head = w.instr;
          body = head.next;
          head_stands = head.stands;
          labelled = label_says w.label (w.instr).op w.labelled;
          before = omega (arith, head_place, lt, place);
          back = (w.back).instr;
          rest = back.next;
          back_stands = back.stands;
          is_end = refl;
          is_back = exit.0;
          leads = exit.1;
          after = omega (arith, back_place, le, place);
        };
      }

  module _ (calls : ℕ) (known : IsFirstCall m.code calls) where
    -- what ends before the calls
    ends_calm : {i : Instr} {next : List Instr} (v : IsMoved m i next) (e : ℕ) (b : RoundBy i next e) → e < calls
    ends_calm v e b = ⊎_elim (λ none. at_end none) (λ c. at_call c.0 c.1 c.2) known.call
      where
        at_end : calls ≡ length m.code → e < calls
        at_end none =
            let k = b.place in
            let some = ap length (b.round).is_end in
            omega (arith, none, k, some)

        at_call : (c : Instr) → slice_get m.code calls ≡ Some c → destroyed_by c.op ≡ Everything → e < calls
        at_call c there all =
            let s = stands_at m.code calls c there in
            let lt = v.calm b.end b.round c s.next s.stands all in
            let k = b.place in
            let q = s.place in
            omega (arith, lt, k, q)

    pub calm_of : {i : Instr} {next : List Instr} (p : ℕ) → StandsAsInstr i next m.code → IsPlace m.code next p → IsMoved m i next →
        IsCalmWide m.code calls p
    calm_of {i} {next} p s place v =
        record {
          instr = i;
          at = at_of s p place;
          wide = makes_says i (v.may).register (v.may).word (v.may).is (v.may).fits (v.may).open_place v.wide;
          end = r.at;
          round = r.round;
          inside = r.after;
          calm = λ e w. ⊎_elim (λ lt. earlier e lt) (λ le. ends_calm v e (round_says p e place w le)) (cases_lt e p);
        }
      where
        r : RoundAt p v.end
        r = round_told p place v.round

        earlier : (e : ℕ) → e < p → e < calls
        earlier e lt =
            let le = (round_told p place v.round).after in
            let last =
            ends_calm v (round_told p place v.round).at
            (record { end = v.end; place = (round_told p place v.round).place; round = v.round }) in
            omega (arith, lt, le, last)

    pub once_of : {i : Instr} {next : List Instr} → StandsAsInstr i next m.code → MayMove m i next → is_once (times m) i ≡ true
    once_of {i} {next} s v =
        ap (is_once (times m)) v.is ∙ ap (λ n. nat_eq n 1 && true) one
      where
        n : ℕ
        n = (v.register).number

        here_once : writes_counted (v.register).number i.results 0 ≡ 1
        here_once =
            ap (λ (i : Instr). writes_counted (v.register).number i.results 0) v.is
            ∙ ap (λ b. cond b 1 0) (eq-eqb (v.register).number (v.register).number refl)

        one : times m (v.register).number ≡ 1
        one =
            times_once m (v.register).number s here_once v.no_param
            (λ j others t a. v.once j others t (left_among j.results (killed m j) a))

    module _ (formed : WellFormed m) (origins : (r : Reg) → IsRegister m r → r.origin ≡ r.number) where
      may_of : {i : Instr} {next : List Instr} → StandsAsInstr i next m.code → MakesWide i → is_once (times m) i ≡ true →
          (v : MayMove m i next) × IsWide v.word
      may_of {i} {next} s w once = (
        record {
          register = w.register;
          word = w.word;
          is = w.is;
          fits = w.fits;
          open_place = w.open_place;
          once = λ j others t a. ⊎_elim (λ x. only_here m (w.register).number s wrote one j others t x)
              (λ x. absurd (open_stays m formed w.register is_register w.open_place j x))
              (split_among (w.register).number j.results (killed m j) a);
          no_param = no_param m (w.register).number s wrote one;
          own = λ r is e. formed.numbers r w.register is is_register (sym (origins r is) ∙ e ∙ origins w.register is_register);
        },
        w.wide,
      )
        where
          wrote : AmongRegisters (w.register).number i.results
          wrote = subst (λ (i : Instr). AmongRegisters (w.register).number i.results) (sym w.is) (first refl)

          is_register : IsRegister m w.register
          is_register =
              is_in_code
              (results_in s (subst (λ (i : Instr). Contains i.results w.register) (sym w.is) (first_in w.register [])))

          one : times m (w.register).number ≡ 1
          one =
              eqb-true (times m (w.register).number) 1
              (and_parts (nat_eq (times m (w.register).number) 1) true (sym (ap (is_once (times m)) w.is) ∙ once)).0

      pub moved_of : {i : Instr} {next : List Instr} (p : ℕ) → StandsAsInstr i next m.code → IsPlace m.code next p → IsCalmWide m.code calls p →
          is_once (times m) i ≡ true → IsMoved m i next
      moved_of {i} {next} p s place w once =
          record {
            may = (may_of s wide once).0;
            wide = (may_of s wide once).1;
            end = (round_says {i = i} p w.end place w.round w.inside).end;
            round = (round_says p w.end place w.round w.inside).round;
            calm = λ loop r c others t all. calm loop r c others t all;
          }
        where
          wide : MakesWide i
          wide = makes_told i (ap makes_wide (same_item (slice_get m.code p) i w.instr (at_of s p place) w.at) ∙ w.wide)

          calm : (loop : List Instr) → IsLoopRound m (i ∷ next) loop → (c : Instr) (others : List Instr) → StandsAsInstr c others m.code →
              destroyed_by c.op ≡ Everything → length (c ∷ others) < length loop
          calm loop r c others t all =
              let known_round = round_told p place r in
              let lt = w.calm known_round.at known_round.round in
              let there = known_round.place in
              let q = place_of t in
              let late =
              ⊎_elim
              (λ lt. absurd (known.none (length m.code - suc (length others)) c lt (at_of t _ q) all))
              (λ le. le) (cases_lt (length m.code - suc (length others)) calls) in
              let room = shorter t in
              omega (arith, lt, there, late, room)
