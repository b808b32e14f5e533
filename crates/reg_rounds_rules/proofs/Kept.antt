-- An allocated function is what it was, each of its registers has a place, and of the copies that rounds leave few have words.
use Rattle.std.proofs.Common.{◌≡◌, ◌⊎◌, inl, inr, ℕ, suc, ◌+◌, ◌*◌, ◌<◌, ◌≤◌, Bool, true, false, List, [], ◌∷◌, length, All, refl, sym, ap, ◌∙◌, subst, arith}
use Rattle.std.specs.Prelude.{Contains}
use Rattle.std.proofs.Math.Nat.{mul-le-mul_right, suc-mul}
use Rattle.std.proofs.lemmas.List.Elements.{All-nil, All-cons, All-head, All-tail}
use Rattle.bs_words.specs.declared.types.Loc.{Loc}
use Rattle.bs_words.specs.declared.types.Loc.TheVariants as loc
use Rattle.choices.specs.declared.choices.Alloc.{Alloc}
use Rattle.mach_ir.specs.Formed.{WellFormed, IsFormedInstruction}
use Rattle.mach_ir.specs.Graph.{coloured_location}
use Rattle.mach_ir.specs.Meaning.{tries_at}
use Rattle.mach_ir.specs.Placed.{Colouring, FullyPlaced, IsProperColouring, HasColourOrSlot, WellPlaced}
use Rattle.mach_ir.specs.Placed as placings
use Rattle.mach_ir.specs.Sizes.{Size, HasSize, HasRoom}
use Rattle.mach_ir.specs.Walks.{InCode, in_args, in_results, further, IsRegister, is_in_code, Joined, StandsAsInstr, here, below}
use Rattle.bs_words.proofs.Lists.{first_in, later_in}
use Rattle.mach_ir.specs.declared.reg.Reg.{Reg}
use Rattle.mach_ir.specs.declared.mach.Instr.{Instr}
use Rattle.mach_ir.specs.declared.mach.Mach.{Mach}
use Rattle.mach_laws.proofs.Colouring.{colouring_of}
use Rattle.mach_laws.proofs.Instructions.{return_results}
use Rattle.reload_rules.specs.Known.{IsCarried, OffsetFits, code_words, copy_words, other_operands}
use Rattle.reload_rules.proofs.Known.{others_few}
use Rattle.colouring_rules.specs.Places.{LocationAssignment, all_placed, placed_code, with_colouring, rest_in_slots, last_resort, or_slot, ColoursLow}
use Rattle.colouring_rules.proofs.Open.{machine_open, slot_open, machine_slot, not_open}
use Rattle.colouring_rules.proofs.Rest.{rest_pass, rest_placed}
use Rattle.reload_rules.specs.Kept.{with_copies}
use Rattle.reload_rules.specs.Reloaded.{slot_or, to_slots, in_slots, reloaded_code, IsReloadedBy, is_coloured, asks_again}
use Rattle.reload_rules.proofs.Copies.{code_instrs, placed_others}
use Rattle.reload_rules.proofs.Numbering.{numbering, numbered_same}
use Rattle.reload_rules.proofs.Room.{with_more, with_both, small_both}
use Rattle.reload_rules.proofs.Together.{reloaded_kept}
use Rattle.reg_rounds_rules.specs.Rounds.{IsRound, RoundsAsked, none_yet, one_more, most_rounds, allocated_size, EndsRounds, asks_no_more, gives_up, IsRegisterAllocated, IsAllocationKept}
use Rattle.reg_rounds_rules.proofs.Feeding.{MayStand, stays, in_colour, at_home, left_open, IsSound, IsHomed, stays_homed, AreHomed, none_homed, one_homed}
use Rattle.reg_rounds_rules.proofs.Grown.{HomedCode, no_code, homed_then, Grown, grown_first, grown_placed, grown_reloaded, grown_words, grown_points, grown_exits, grown_operands, Shallow, grown_shallow, Fit, grown_fit, ReturnsNothing, grown_ends}
use Rattle.bs_words.proofs.Places.{same_slot}
use Rattle.mach_laws.specs.Passes.{IsPassKept}
use Rattle.mach_laws.proofs.Passes.{pass_itself, pass_then}

-- ---- placings of all registers that do as a colouring does

abbrev own_or : Loc → Loc → Loc
own_or loc.Unset l = l
own_or (loc.Machine n) l = loc.Machine n
own_or (loc.Slot k) l = loc.Slot k

-- each slot is that of the origin
abbrev homed : ℕ → Loc → Loc
homed origin (loc.Slot k) = loc.Slot origin
homed origin (loc.Machine n) = loc.Machine n
homed origin loc.Unset = loc.Unset

-- slots alone
abbrev homed_slot : ℕ → Loc → Loc
homed_slot origin (loc.Slot k) = loc.Slot origin
homed_slot origin (loc.Machine n) = loc.Unset
homed_slot origin loc.Unset = loc.Unset

abbrev by_colours : Colouring → LocationAssignment
by_colours place r = own_or r.loc (homed r.origin (place r.number))

abbrev by_slots : Colouring → LocationAssignment
by_slots place r = own_or r.loc (homed_slot r.origin (place r.number))

open_homed : (r : Reg) (l : Loc) → r.loc ≡ loc.Unset → MayStand r (homed r.origin l)
open_homed r (loc.Slot k) u = at_home u refl
open_homed r (loc.Machine n) u = in_colour u refl
open_homed r loc.Unset u = left_open u refl

open_homed_slot : (r : Reg) (l : Loc) → r.loc ≡ loc.Unset → MayStand r (homed_slot r.origin l)
open_homed_slot r (loc.Slot k) u = at_home u refl
open_homed_slot r (loc.Machine n) u = left_open u refl
open_homed_slot r loc.Unset u = left_open u refl

own_stands : (r : Reg) (l : Loc) (own : Loc) → r.loc ≡ own → (r.loc ≡ loc.Unset → MayStand r l) → MayStand r (own_or own l)
own_stands r l loc.Unset e h = h e
own_stands r l (loc.Machine n) e h = stays (λ u. machine_open e u) (sym e)
own_stands r l (loc.Slot k) e h = stays (λ u. slot_open e u) (sym e)

colours_sound : (place : Colouring) → IsSound (by_colours place)
colours_sound place r = own_stands r (homed r.origin (place r.number)) r.loc refl (open_homed r (place r.number))

slots_sound : (place : Colouring) → IsSound (by_slots place)
slots_sound place r = own_stands r (homed_slot r.origin (place r.number)) r.loc refl (open_homed_slot r (place r.number))

rest_sound : IsSound last_resort
rest_sound r = by r.loc refl
  where
    by : (own : Loc) → r.loc ≡ own → MayStand r (or_slot r.origin own)
    by loc.Unset e = at_home e refl
    by (loc.Machine n) e = stays (λ u. machine_open e u) (sym e)
    by (loc.Slot k) e = stays (λ u. slot_open e u) (sym e)

-- ---- on registers of the function they agree

module _ (IsOne : Reg → Type 0) (AreJoined : ℕ → ℕ → Type 0) (place : Colouring) (c : IsProperColouring IsOne AreJoined place) (r : Reg) (one : IsOne r) where
  at_number : Loc
  at_number = place r.number

  is_homed_place : homed r.origin (place r.number) ≡ place r.number
  is_homed_place = by (c.places r one)
    where
      by : HasColourOrSlot (record r { loc = place r.number }) → homed r.origin (place r.number) ≡ place r.number
      by (placings.in_colour n d e) = ap (homed r.origin) e ∙ sym e
      by (placings.in_slot e) = ap (homed r.origin) e ∙ sym e

  same_own : (own l : Loc) → (own ≡ loc.Unset) ⊎ (l ≡ own) → own_or own l ≡ l
  same_own loc.Unset l d = refl
  same_own (loc.Machine n) l (inl u) = cc
  same_own (loc.Machine n) l (inr e) = sym e
  same_own (loc.Slot k) l (inl u) = cc
  same_own (loc.Slot k) l (inr e) = sym e

  agrees : by_colours place r ≡ place r.number
  agrees = ap (own_or r.loc) is_homed_place ∙ same_own r.loc (place r.number) (c.fixed r one)

  same_slot_own : (own l : Loc) → (own ≡ loc.Unset) ⊎ (l ≡ own) → HasColourOrSlot (record r { loc = l }) → own_or own (homed_slot r.origin l) ≡ slot_or own l
  same_slot_own loc.Unset l d (placings.in_colour n m e) = ap (homed_slot r.origin) e ∙ sym (ap (slot_or loc.Unset) e)
  same_slot_own loc.Unset l d (placings.in_slot e) = ap (homed_slot r.origin) e ∙ sym (ap (slot_or loc.Unset) e)
  same_slot_own (loc.Machine n) l (inl u) p = cc
  same_slot_own (loc.Machine n) l (inr e) p = sym (ap (slot_or (loc.Machine n)) e)
  same_slot_own (loc.Slot k) l (inl u) p = cc
  same_slot_own (loc.Slot k) l (inr e) p = sym (ap (slot_or (loc.Slot k)) e)

  agrees_in_slots : by_slots place r ≡ to_slots place r
  agrees_in_slots = same_slot_own r.loc (place r.number) (c.fixed r one) (c.places r one)

  is_homed : IsHomed r
  is_homed k e = by (c.fixed r one) (c.places r one)
    where
      by : (r.loc ≡ loc.Unset) ⊎ (place r.number ≡ r.loc) → HasColourOrSlot (record r { loc = place r.number }) → k ≡ r.origin
      by (inl u) p = absurd (slot_open e u)
      by (inr f) (placings.in_colour n d g) = absurd (machine_slot g (f ∙ e))
      by (inr f) (placings.in_slot g) = same_slot (f ∙ e) g

lists_agree : (one other : LocationAssignment) (rs : List Reg) → ((r : Reg) → Contains rs r → one r ≡ other r) → all_placed one rs ≡ all_placed other rs
lists_agree one other [] h = refl
lists_agree one other (r ∷ rs) h =
    both (ap (λ l. record r { loc = l }) (h r (first_in r rs))) (lists_agree one other rs (λ q c. h q (later_in r q rs c)))
  where
    both : {x y : Reg} {xs ys : List Reg} → x ≡ y → xs ≡ ys → x ∷ xs ≡ y ∷ ys
    both e g = cc

codes_agree : (one other : LocationAssignment) (code : List Instr) → ((r : Reg) → InCode r code → one r ≡ other r) → placed_code one code ≡ placed_code other code
codes_agree one other [] h = refl
codes_agree one other (i ∷ is) h =
    both (ap (λ rs. record i { args = rs; results = all_placed one i.results }) (lists_agree one other i.args (λ r c. h r (in_args c)))
    ∙ ap (λ rs. record i { args = all_placed other i.args; results = rs }) (lists_agree one other i.results (λ r c. h r (in_results c))))
    (codes_agree one other is (λ r c. h r (further c)))
  where
    both : {x y : Instr} {xs ys : List Instr} → x ≡ y → xs ≡ ys → x ∷ xs ≡ y ∷ ys
    both e g = cc

-- ---- a placed code is at home

module _ (place : LocationAssignment) (sound : IsSound place) where
  list_homed : (rs : List Reg) → ((r : Reg) → Contains rs r → IsHomed r) → AreHomed (all_placed place rs)
  list_homed [] h = none_homed
  list_homed (r ∷ rs) h =
      one_homed (λ k e. stays_homed (sound r) (h r (first_in r rs)) k e) (list_homed rs (λ q c. h q (later_in r q rs c)))

  code_homed : (code : List Instr) → ((r : Reg) → InCode r code → IsHomed r) → HomedCode (placed_code place code)
  code_homed [] h = no_code
  code_homed (i ∷ is) h =
      homed_then (list_homed i.args (λ r c. h r (in_args c))) (list_homed i.results (λ r c. h r (in_results c))) (code_homed is (λ r c. h r (further c)))

-- ---- from lists of facts and back

shallow_of : (k : ℕ) (code : List Instr) → ((i : Instr) (next : List Instr) → StandsAsInstr i next code → length (tries_at (i ∷ next)) ≤ k) → Shallow k code
shallow_of k [] h = tt
shallow_of k (i ∷ is) h = (h i is here, shallow_of k is (λ j next s. h j next (below s)))

tries_of : (k : ℕ) (code : List Instr) → Shallow k code → (i : Instr) (next : List Instr) → StandsAsInstr i next code → length (tries_at (i ∷ next)) ≤ k
tries_of k [] h i next s = elim s [ ]
tries_of k (j ∷ is) h i next here = h.0
tries_of k (j ∷ is) h i next (below s) = tries_of k is h.1 i next s

fit_of : (code : List Instr) → All (λ (i : Instr). OffsetFits i.op) code → Fit code
fit_of [] all = tt
fit_of (i ∷ is) all = (All-head (λ (i : Instr). OffsetFits i.op) i is all, fit_of is (All-tail (λ (i : Instr). OffsetFits i.op) i is all))

all_fit : (code : List Instr) → Fit code → All (λ (i : Instr). OffsetFits i.op) code
all_fit [] f = All-nil (λ (i : Instr). OffsetFits i.op)
all_fit (i ∷ is) f = All-cons (λ (i : Instr). OffsetFits i.op) i is f.0 (all_fit is f.1)

none_of : (rs : List Reg) → length rs ≡ 0 → rs ≡ []
none_of [] e = refl
none_of (r ∷ rs) e = absurd (omega (arith, e))

nothing_returned : (code : List Instr) → All IsFormedInstruction code → ReturnsNothing code
nothing_returned [] all = tt
nothing_returned (i ∷ is) all = (return_results (All-head IsFormedInstruction i is all), nothing_returned is (All-tail IsFormedInstruction i is all))

-- ---- rounds

-- what is after so many rounds that each asked for another
record Standing (first : Mach) (rounds : ℕ) (m : Mach) : Type 0 where
  pass : IsPassKept first m
  low : ColoursLow m
  grown : Grown first.code m.code
  labels : m.labels ≡ first.labels
  instrs : length m.code ≤ length first.code + rounds * other_operands first.code
  size : (s : Size) → HasSize first s → HasSize m (with_copies (rounds * other_operands first.code) s)

module _ (m : Mach) (place : Colouring) (colouring : IsProperColouring (IsRegister m) (Joined m) place) where
  slots_agree : placed_code (by_slots place) m.code ≡ (in_slots place m).code
  slots_agree = codes_agree (by_slots place) (to_slots place) m.code (λ r c. agrees_in_slots (IsRegister m) (Joined m) place colouring r (is_in_code c))

  colours_agree : placed_code (by_colours place) m.code ≡ (with_colouring place m).code
  colours_agree = codes_agree (by_colours place) (λ r. place r.number) m.code (λ r c. agrees (IsRegister m) (Joined m) place colouring r (is_in_code c))

  slots_homed : HomedCode (in_slots place m).code
  slots_homed =
      subst HomedCode slots_agree
      (code_homed (by_slots place) (slots_sound place) m.code (λ r c. is_homed (IsRegister m) (Joined m) place colouring r (is_in_code c)))

  module _ {first : List Instr} (g : Grown first m.code) where
    slots_grown : Grown first (in_slots place m).code
    slots_grown = subst (Grown first) slots_agree (grown_placed (by_slots place) (slots_sound place) g)

    round_grown : (n : ℕ) → Grown first (reloaded_code n (in_slots place m).code)
    round_grown n = grown_reloaded slots_grown slots_homed n

    last_grown : Grown first (with_colouring place m).code
    last_grown = subst (Grown first) colours_agree (grown_placed (by_colours place) (colours_sound place) g)

    last_words : code_words (with_colouring place m).code ≤ code_words first + copy_words * other_operands first
    last_words =
        subst (λ (code : List Instr). code_words code ≤ code_words first + copy_words * other_operands first) colours_agree
        (grown_words (by_colours place) (colours_sound place) g)

reload_grown : {first : List Instr} {m q : Mach} (place : Colouring) → IsProperColouring (IsRegister m) (Joined m) place → Grown first m.code →
    {asks : Bool} → IsReloadedBy m place q asks → Grown first q.code
reload_grown {m = m} place c g (is_coloured e) = last_grown m place c g
reload_grown {m = m} place c g (asks_again {free = free} e h) = round_grown m place c g free

reload_words : {first : List Instr} {m q : Mach} (place : Colouring) → IsProperColouring (IsRegister m) (Joined m) place → Grown first m.code →
    IsReloadedBy m place q false → code_words q.code ≤ code_words first + copy_words * other_operands first
reload_words {m = m} place c g (is_coloured e) = last_words m place c g

reload_labels : {m q : Mach} (place : Colouring) {asks : Bool} → IsReloadedBy m place q asks → q.labels ≡ m.labels
reload_labels place (is_coloured e) = refl
reload_labels place (asks_again e h) = refl

placed_long : (place : LocationAssignment) (code : List Instr) → length (placed_code place code) ≡ length code
placed_long place [] = refl
placed_long place (i ∷ is) = ap suc (placed_long place is)

reload_instrs : {m q : Mach} (place : Colouring) {asks : Bool} → IsReloadedBy m place q asks → length q.code ≤ length m.code + other_operands m.code
reload_instrs {m} place (is_coloured e) = let same = placed_long (λ r. place r.number) m.code in omega (arith, same)
reload_instrs {m} place (asks_again {free = free} e h) =
    let text = ap (λ (q : Mach). length q.code) (numbered_same (in_slots place m) free) in
    let long = code_instrs (numbering free (in_slots place m)) (in_slots place m).code in
    let same = placed_long (to_slots place) m.code in
    let count = placed_others (to_slots place) m.code in
    omega (arith, text, long, same, count)

module _ {alloc : Alloc} {fresh : ℕ} where
  chosen : {m q : Mach} {asks : Bool} (r : IsRound alloc fresh m q asks) → IsProperColouring (IsRegister m) (Joined m) (coloured_location r.colours)
  chosen {m} r = colouring_of m r.graph r.of_function (coloured_location r.colours) r.fine

  module _ {first : Mach} (formed : WellFormed first) (well : WellPlaced first) (low : ColoursLow first) where
    next_round : {rounds : ℕ} {m q : Mach} → Standing first rounds m → IsRound alloc fresh m q true → Standing first (suc rounds) q
    next_round {rounds} {m} {q} s r =
        let place : Colouring = coloured_location r.colours in
        let kept = reloaded_kept m q place true (s.pass).formed ((s.pass).placed well) s.low (chosen r) r.reloaded in
        let long = reload_instrs place r.reloaded in
        let so_far = s.instrs in
        let same = grown_operands s.grown in
        record {
          pass = pass_then s.pass kept.pass;
          low = kept.colours_low;
          grown = reload_grown place (chosen r) s.grown r.reloaded;
          labels = reload_labels place r.reloaded ∙ s.labels;
          instrs = by (rounds * other_operands first.code) (length first.code) (other_operands first.code) (suc rounds * other_operands first.code) long so_far same
              (suc-mul rounds (other_operands first.code));
          size = λ size h.
              with_both size (rounds * other_operands first.code) (other_operands m.code) (suc rounds * other_operands first.code)
              (fits (rounds * other_operands first.code) same (suc-mul rounds (other_operands first.code)))
              (kept.size (with_copies (rounds * other_operands first.code) size) (s.size size h));
        }
      where
        fits : (k : ℕ) {n o t : ℕ} → o ≡ n → t ≡ k + n → k + o ≤ t
        fits k same all = omega (arith, same, all)

        by : (k c n t : ℕ) {a b o : ℕ} → a ≤ b + o → b ≤ c + k → o ≡ n → t ≡ k + n → a ≤ c + t
        by k c n t one two same all = omega (arith, one, two, same, all)

    standing : {rounds : ℕ} {m : Mach} → RoundsAsked alloc fresh first rounds m → Standing first rounds m
    standing none_yet = record {
      pass = pass_itself first formed;
      low = low;
      grown = grown_first first.code;
      labels = refl;
      instrs = omega arith;
      size = λ size h. with_more (0 * other_operands first.code) h;
    }
    standing (one_more a r) = next_round (standing a) r

    -- what a round needs of a function, after rounds that asked for another
    pub still_formed : {rounds : ℕ} {m : Mach} → RoundsAsked alloc fresh first rounds m → WellFormed m
    still_formed a = let s = standing a in (s.pass).formed

    pub still_placed : {rounds : ℕ} {m : Mach} → RoundsAsked alloc fresh first rounds m → WellPlaced m
    still_placed a = let s = standing a in (s.pass).placed well

    -- how large it is
    pub still_within : {rounds : ℕ} {m : Mach} → RoundsAsked alloc fresh first rounds m → (s : Size) → HasSize first s →
        HasSize m (with_copies (rounds * other_operands first.code) s)
    still_within a = let s = standing a in s.size

    -- and that there is room for one round more, if there is for all
    pub still_room : {rounds : ℕ} {m : Mach} → RoundsAsked alloc fresh first rounds m → rounds < most_rounds → HasRoom allocated_size first →
        HasRoom (with_copies (other_operands m.code)) m
    still_room {rounds} {m} a few room =
        let s = standing a in
        let same = grown_operands s.grown in
        let all = others_few first.code in
        let operands = (room.within).operands in
        let turns : suc rounds * other_operands first.code ≤ most_rounds * other_operands first.code = mul-le-mul_right (other_operands first.code) few in
        record {
          size = with_copies (rounds * other_operands first.code) room.size;
          within = s.size room.size room.within;
          small = small_both room.size (rounds * other_operands first.code) (other_operands m.code) (most_rounds * (room.size).operands)
              (fits (rounds * other_operands first.code) turns same (suc-mul rounds (other_operands first.code)) all operands)
              room.small;
        }
      where
        fits : (k : ℕ) {n o c s t : ℕ} → t ≤ most_rounds * n → o ≡ n → t ≡ k + n → n ≤ c → c ≤ s → k + o ≤ most_rounds * s
        fits k turns same all few operands = omega (arith, turns, same, all, few, operands)

module _ {first : Mach} (formed : WellFormed first) where
  -- what is carried to a function each of whose registers has a place
  carried : {q : Mach} → FullyPlaced q → Grown first.code q.code → code_words q.code ≤ code_words first.code + copy_words * other_operands first.code →
      IsCarried (copy_words * other_operands first.code) first q
  carried {q} full g words = record {
    words = words;
    points = let e = grown_points g in omega (arith, e);
    operands = let e = grown_operands g in omega (arith, e);
    exits = let e = grown_exits g in omega (arith, e);
    tries = λ most t. tries_of most q.code (grown_shallow most g (shallow_of most first.code t));
    offsets = λ o. all_fit q.code (grown_fit g (fit_of first.code o));
    ends = λ e. grown_ends g (nothing_returned first.code formed.instrs) e;
    colours_low = λ l r k c i u. absurd (not_open k (full.places k i) u);
  }

  module _ (well : WellPlaced first) (low : ColoursLow first) where
    few_rounds : (n k : ℕ) → n ≤ most_rounds → n * k ≤ most_rounds * k
    few_rounds n k le = mul-le-mul_right k le

    ended : {alloc : Alloc} {fresh : ℕ} {q : Mach} {rounds : ℕ} {rest : Bool} → EndsRounds alloc fresh first q rounds rest → IsAllocationKept first q
    ended {q = q} (asks_no_more {rounds = rounds} {m = m} few a r) =
        let s = standing formed well low a in
        let place : Colouring = coloured_location r.colours in
        let kept = reloaded_kept m q place false (s.pass).formed ((s.pass).placed well) s.low (chosen r) r.reloaded in
        let full : FullyPlaced q = kept.all_placed refl in
        let long = reload_instrs place r.reloaded in
        let so_far = s.instrs in
        let same = grown_operands s.grown in
        let most = few_rounds (suc rounds) (other_operands first.code) few in
        let whole = pass_then s.pass kept.pass in
        record {
          keeps = whole.keeps;
          formed = whole.formed;
          placed = full;
          seated = whole.seated;
          carried = carried full (reload_grown place (chosen r) s.grown r.reloaded) (reload_words place (chosen r) s.grown r.reloaded);
          labels = reload_labels place r.reloaded ∙ s.labels;
          instrs = by (rounds * other_operands first.code) (length first.code) (other_operands first.code) (suc rounds * other_operands first.code) (most_rounds * other_operands first.code) long so_far
              same (suc-mul rounds (other_operands first.code)) most;
        }
      where
        by : (k c n t most : ℕ) {a b o : ℕ} → a ≤ b + o → b ≤ c + k → o ≡ n → t ≡ k + n → t ≤ most → a ≤ c + most
        by k c n t most one two same all few = omega (arith, one, two, same, all, few)
    ended (gives_up a) =
        let full : FullyPlaced (rest_in_slots first) = rest_placed first formed well in
        let same = placed_long last_resort first.code in
        let whole = rest_pass first formed well in
        record {
          keeps = whole.keeps;
          formed = whole.formed;
          placed = full;
          seated = whole.seated;
          carried = carried full (grown_placed last_resort rest_sound (grown_first first.code)) (grown_words last_resort rest_sound (grown_first first.code));
          labels = refl;
          instrs = omega (arith, same);
        }

-- What allocation makes of a function is kept.
pub allocated_kept : {alloc : Alloc} (m q : Mach) → WellFormed m → WellPlaced m → ColoursLow m → IsRegisterAllocated alloc m q → IsAllocationKept m q
allocated_kept m q formed well low a = ended formed well low ((a.allocated).ends)
