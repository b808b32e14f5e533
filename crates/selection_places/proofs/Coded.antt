-- The shape of selected code, as far as registers with fixed places and those of new blocks go.
use Rattle.std.proofs.Common.{◌≡◌, ℕ, zero, suc, ◌<◌, ◌⊎◌, inl, inr, Bool, true, false, List, [], ◌∷◌, ◌++◌, map, refl, sym, ◌∙◌, subst, arith}
use Rattle.std.specs.Prelude.{slice_index_or}
use Rattle.bs_words.specs.declared.types.Comp.{Comp}
use Rattle.bs_words.specs.declared.types.Comp.TheVariants as comp
use Rattle.bs_words.specs.declared.types.Loc.{Loc}
use Rattle.bs_words.specs.declared.types.Loc.TheVariants as loc
use Rattle.mach_ir.specs.declared.blocks.NewBlock.{NewBlock}
use Rattle.mach_ir.specs.declared.mach.Instr.{Instr}
use Rattle.mach_ir.specs.declared.mach.MachOp.{MachOp}
use Rattle.mach_ir.specs.declared.mach.MachOp.TheVariants as mach
use Rattle.mach_ir.specs.declared.op.Op.TheVariants as op
use Rattle.mach_ir.specs.declared.reg.Reg.{Reg}
use Rattle.selection_rules.specs.Instructions as emit
use Rattle.selection_rules.specs.Select.{seat, seats}
use Rattle.selection_places.proofs.Sets.{Role, Plain, New, Seated}
use Rattle.selection_rules.proofs.Once.{is_alloc}

pub data Member (r : Reg) : List Reg → Type 0 where
  first : {q : Reg} {qs : List Reg} → r ≡ q → Member r (q ∷ qs)
  later : {q : Reg} {qs : List Reg} → Member r qs → Member r (q ∷ qs)

pub data Each (P : Reg → Type 0) : List Reg → Type 0 where
  none : Each P []
  one : {q : Reg} {qs : List Reg} → P q → Each P qs → Each P (q ∷ qs)

pub each_of : {P : Reg → Type 0} {rs : List Reg} → Each P rs → (r : Reg) → Member r rs → P r
each_of none r m = elim m [ ]
each_of {P} (one x xs) r (first e) = subst P (sym e) x
each_of (one x xs) r (later m) = each_of xs r m

pub each_map : {P S : Reg → Type 0} {rs : List Reg} → ((r : Reg) → P r → S r) → Each P rs → Each S rs
each_map f none = none
each_map f (one {q = q} x xs) = one (f q x) (each_map f xs)

pub each_append : {P : Reg → Type 0} {xs ys : List Reg} → Each P xs → Each P ys → Each P (xs ++ ys)
each_append none y = y
each_append (one x xs) y = one x (each_append xs y)

-- what reads or writes registers at fixed places, and is no move: calls, and what leaves the function
abbrev pub is_heavy : MachOp → Bool
is_heavy (mach.Op (op.Calling f)) = true
is_heavy (mach.Op (op.Leaving f)) = true
is_heavy _ = false

-- two registers have no fixed place in common
abbrev pub Apart : Reg → Reg → Type 0
Apart d q = q.loc ≡ d.loc → d.loc ≡ loc.Unset

module _ (Q : Role → Reg → Type 0) where
  -- what may be read anywhere, after these registers of new blocks were written
  pub data Reads (P : List Reg) (r : Reg) : Type 0 where
    reads_plain : Q Plain r → Reads P r
    reads_new : Q New r → Member r P → Reads P r

  -- and these seats
  pub data ReadsSeats (P S : List Reg) (r : Reg) : Type 0 where
    reads : Reads P r → ReadsSeats P S r
    reads_seat : Q Seated r → Member r S → ReadsSeats P S r

  pub data Gives (i : Instr) : List Reg → Type 0 where
    gives_none : i.results ≡ [] → Gives i []
    gives_one : {y : Reg} → i.results ≡ y ∷ [] → Q Seated y → Gives i (y ∷ [])

  -- Code before which no seats but these are filled, and no registers of new blocks written but those.
  pub data Coded : List Reg → List Reg → List Instr → Type 0 where
    ends : {P : List Reg} → Coded [] P []
    plain : {P : List Reg} {i : Instr} {next : List Instr} → Each (Reads P) i.args → Each (Q Plain) i.results → is_alloc i.op ≡ false → Coded [] P next →
        Coded [] P (i ∷ next)
    fills : {S P : List Reg} {a d : Reg} {next : List Instr} → Reads P a → Q Seated d → Each (Apart d) S → Coded (d ∷ S) P next → Coded S P
        (emit.move a d ∷ next)
    empties : {S P : List Reg} {s d : Reg} {next : List Instr} → Q Seated s → Q Plain d → Coded S P next → Coded (s ∷ S) P (emit.move s d ∷ next)
    asks : {S G P : List Reg} {i : Instr} {next : List Instr} → Each (ReadsSeats P S) i.args → Gives i G → is_heavy i.op ≡ true → Coded G P next → Coded S P
        (i ∷ next)
    handles : {P : List Reg} {l : ℕ} {y : Reg} {next : List Instr} → Q Seated y → Coded (y ∷ []) P next → Coded [] P (emit.handler l y ∷ next)
    allocs : {P : List Reg} {p : Reg} {block : NewBlock} {next : List Instr} → Q New p → p.comp ≡ comp.Val → Coded [] (p ∷ P) next →
        Coded [] P (emit.alloc block p ∷ next)

  reads_more : {P O : List Reg} → ((r : Reg) → Member r P → Member r O) → (r : Reg) → Reads P r → Reads O r
  reads_more f r (reads_plain q) = reads_plain q
  reads_more f r (reads_new q m) = reads_new q (f r m)

  seats_more : {P O S : List Reg} → ((r : Reg) → Member r P → Member r O) → (r : Reg) → ReadsSeats P S r → ReadsSeats O S r
  seats_more f r (reads x) = reads (reads_more f r x)
  seats_more f r (reads_seat q m) = reads_seat q m

  under : {P O : List Reg} (p : Reg) → ((r : Reg) → Member r P → Member r O) → (r : Reg) → Member r (p ∷ P) → Member r (p ∷ O)
  under p f r (first e) = first e
  under p f r (later m) = later (f r m)

  -- more blocks may have been written before
  pub coded_more : {S P O : List Reg} {code : List Instr} → ((r : Reg) → Member r P → Member r O) → Coded S P code → Coded S O code
  coded_more f ends = ends
  coded_more f (plain a q n x) = plain (each_map (reads_more f) a) q n (coded_more f x)
  coded_more f (fills {a = a} x q u y) = fills (reads_more f a x) q u (coded_more f y)
  coded_more f (empties q u x) = empties q u (coded_more f x)
  coded_more f (asks a g h x) = asks (each_map (seats_more f) a) g h (coded_more f x)
  coded_more f (handles q x) = handles q (coded_more f x)
  coded_more f (allocs {p = p} q v x) = allocs q v (coded_more (under p f) x)

-- ---- seats of different positions

abbrev Ascends : ℕ → List ℕ → Type 0
Ascends n [] = Unit {0}
Ascends n (m ∷ ms) = (n < m) × Ascends m ms

record Above (n : ℕ) (l : Loc) : Type 0 where
  colour : ℕ
  more : n < colour
  is : l ≡ loc.Machine colour

machine : {n m : ℕ} → loc.Machine n ≡ loc.Machine m → n ≡ m
machine e = cc

above : (n : ℕ) (ns : List ℕ) → Ascends n ns → (i : ℕ) → (slice_index_or (map loc.Machine ns) i loc.Unset ≡ loc.Unset) ⊎ Above n
    (slice_index_or (map loc.Machine ns) i loc.Unset)
above n [] up i = inl refl
above n (m ∷ ms) up zero = inr (record { colour = m; more = up.0; is = refl })
above n (m ∷ ms) up (suc i) = by (above m ms up.1 i)
  where
    by : {l : Loc} → (l ≡ loc.Unset) ⊎ Above m l → (l ≡ loc.Unset) ⊎ Above n l
    by (inl e) = inl e
    by (inr a) = let less = a.more in let low = up.0 in inr (record { colour = a.colour; more = omega (arith, less, low); is = a.is })

places_apart : (n : ℕ) (ns : List ℕ) → Ascends n ns → (i j : ℕ) → i < j → slice_index_or (map loc.Machine ns) j loc.Unset ≡ slice_index_or
    (map loc.Machine ns) i loc.Unset →
    slice_index_or (map loc.Machine ns) i loc.Unset ≡ loc.Unset
places_apart n [] up i j less e = refl
places_apart n (m ∷ ms) up zero zero less e = absurd (omega (arith, less))
places_apart n (m ∷ ms) up zero (suc j) less e = by (above m ms up.1 j)
  where
    by : (slice_index_or (map loc.Machine ms) j loc.Unset ≡ loc.Unset) ⊎ Above m (slice_index_or (map loc.Machine ms) j loc.Unset) → loc.Machine m ≡ loc.Unset
    by (inl u) = sym e ∙ u
    by (inr a) = let same = machine (sym e ∙ a.is) in let more = a.more in absurd (omega (arith, same, more))
places_apart n (m ∷ ms) up (suc i) zero less e = absurd (omega (arith, less))
places_apart n (m ∷ ms) up (suc i) (suc j) less e = places_apart m ms up.1 i j (omega (arith, less)) e

arguments_ascend : Ascends 9 (10 ∷ 11 ∷ 12 ∷ 13 ∷ 14 ∷ 15 ∷ 16 ∷ 17 ∷ 18 ∷ 19 ∷ 20 ∷ 21 ∷ 22 ∷ 23 ∷ 24 ∷ 25 ∷ [])
arguments_ascend = (
  omega arith,
  (
    omega arith,
    (
      omega arith,
      (
        omega arith,
        (
          omega arith,
          (
            omega arith,
            (
              omega arith,
              (
                omega arith,
                (omega arith, (omega arith, (omega arith, (omega arith, (omega arith, (omega arith, (omega arith, (omega arith, tt)))))))),
              ),
            ),
          ),
        ),
      ),
    ),
  ),
)

seat_apart : (i n j m : ℕ) (c k : Comp) → i < j → Apart (seat i n c) (seat j m k)
seat_apart i n j m c k less e = places_apart 9 (10 ∷ 11 ∷ 12 ∷ 13 ∷ 14 ∷ 15 ∷ 16 ∷ 17 ∷ 18 ∷ 19 ∷ 20 ∷ 21 ∷ 22 ∷ 23 ∷ 24 ∷ 25 ∷ []) arguments_ascend i j less e

pub seats_apart : (i n : ℕ) (c : Comp) (j m : ℕ) (rs : List Reg) → i < j → Each (Apart (seat i n c)) (seats j m rs)
seats_apart i n c j m [] less = none
seats_apart i n c j m (r ∷ rs) less = one (seat_apart i n j m c r.comp less) (seats_apart i n c (suc j) (suc m) rs (omega (arith, less)))
