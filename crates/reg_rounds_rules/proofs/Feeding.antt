-- The copies that reloading has left before and after an instruction, over all rounds. In the copies for one operand each register but
-- the last is in its slot, so only the last copy has words.
use Rattle.std.proofs.Common.{◌≡◌, ◌≢◌, ℕ, suc, ◌+◌, ◌*◌, ◌≤◌, Bool, true, false, cond, ◌&&◌, List, [], ◌∷◌, ◌++◌, length, map, refl, sym, ap, ◌∙◌, subst, arith}
use Rattle.std.proofs.lemmas.Bool.{eq-eqb}
use Rattle.bs_words.specs.declared.types.Loc.{Loc}
use Rattle.bs_words.specs.declared.types.Loc.TheVariants as loc
use Rattle.lin_ir.specs.Meaning.{same_loc}
use Rattle.linearise_rules.specs.Lowered.{same_spot}
use Rattle.mach_laws.proofs.Places.{same_comp_is}
use Rattle.mach_ir.specs.declared.op.CopyKind.{CopyKind}
use Rattle.mach_ir.specs.declared.op.CopyKind.TheVariants as copy
use Rattle.mach_ir.specs.declared.reg.Reg.{Reg}
use Rattle.mach_ir.specs.declared.mach.Instr.{Instr}
use Rattle.reload_rules.specs.Known.{code_words, instr_words, copy_words, copy_instruction}
use Rattle.reload_rules.proofs.Known.{at_most_copy, words_append}
use Rattle.colouring_rules.specs.Places.{LocationAssignment, located_register, all_placed, placed_instr, placed_code}
use Rattle.colouring_rules.proofs.Open.{machine_open, slot_open, machine_slot}
use Rattle.reload_rules.specs.Reloaded.{is_in_slot, is_renewed, fresh_stand_in, renewed, reloads, spills}
use Rattle.mach_ir.specs.Places.{same_comp}
use Rattle.bs_words.proofs.Places.{same_slot}

-- ---- placings

-- Fixed places stay, and an open register goes to a colour or to the slot of its origin, or stays open.
pub data MayStand (r : Reg) (l : Loc) : Type 0 where
  stays : r.loc ≢ loc.Unset → l ≡ r.loc → MayStand r l
  in_colour : {n : ℕ} → r.loc ≡ loc.Unset → l ≡ loc.Machine n → MayStand r l
  at_home : r.loc ≡ loc.Unset → l ≡ loc.Slot r.origin → MayStand r l
  left_open : r.loc ≡ loc.Unset → l ≡ loc.Unset → MayStand r l

abbrev pub IsSound : LocationAssignment → Type 0
IsSound place = (r : Reg) → MayStand r (place r)

-- a register in a slot is in that of its origin
abbrev pub IsHomed : Reg → Type 0
IsHomed r = (k : ℕ) → r.loc ≡ loc.Slot k → k ≡ r.origin

pub slot_stays : {r : Reg} {l : Loc} {k : ℕ} → MayStand r l → r.loc ≡ loc.Slot k → l ≡ loc.Slot k
slot_stays (stays n e) s = e ∙ s
slot_stays (in_colour u e) s = absurd (slot_open s u)
slot_stays (at_home u e) s = absurd (slot_open s u)
slot_stays (left_open u e) s = absurd (slot_open s u)

pub machine_stays : {r : Reg} {l : Loc} {k : ℕ} → MayStand r l → r.loc ≡ loc.Machine k → l ≡ loc.Machine k
machine_stays (stays n e) s = e ∙ s
machine_stays (in_colour u e) s = absurd (machine_open s u)
machine_stays (at_home u e) s = absurd (machine_open s u)
machine_stays (left_open u e) s = absurd (machine_open s u)

pub stays_homed : {r : Reg} {l : Loc} → MayStand r l → IsHomed r → (k : ℕ) → l ≡ loc.Slot k → k ≡ r.origin
stays_homed (stays n e) h k s = h k (sym e ∙ s)
stays_homed (in_colour u e) h k s = absurd (machine_slot e s)
stays_homed (at_home u e) h k s = same_slot s e
stays_homed (left_open u e) h k s = absurd (slot_open s e)

-- one placing after another
abbrev pub after : LocationAssignment → LocationAssignment → LocationAssignment
after second first r = second (located_register first r)

pub sound_after : (second first : LocationAssignment) → IsSound second → IsSound first → IsSound (after second first)
sound_after second first two one r = by (one r) (two (located_register first r))
  where
    by : MayStand r (first r) → MayStand (located_register first r) (second (located_register first r)) → MayStand r (second (located_register first r))
    by (stays n e) (stays m g) = stays n (g ∙ e)
    by (stays n e) (in_colour u g) = absurd (n (sym e ∙ u))
    by (stays n e) (at_home u g) = absurd (n (sym e ∙ u))
    by (stays n e) (left_open u g) = absurd (n (sym e ∙ u))
    by (in_colour u e) (stays m g) = in_colour u (g ∙ e)
    by (in_colour u e) (in_colour v g) = absurd (machine_open e v)
    by (in_colour u e) (at_home v g) = absurd (machine_open e v)
    by (in_colour u e) (left_open v g) = absurd (machine_open e v)
    by (at_home u e) (stays m g) = at_home u (g ∙ e)
    by (at_home u e) (in_colour v g) = absurd (slot_open e v)
    by (at_home u e) (at_home v g) = absurd (slot_open e v)
    by (at_home u e) (left_open v g) = absurd (slot_open e v)
    by (left_open u e) (stays m g) = absurd (m e)
    by (left_open u e) (in_colour v g) = in_colour u g
    by (left_open u e) (at_home v g) = at_home u g
    by (left_open u e) (left_open v g) = left_open u g

module _ (second first : LocationAssignment) where
  twice_list : (rs : List Reg) → all_placed second (all_placed first rs) ≡ all_placed (after second first) rs
  twice_list [] = refl
  twice_list (r ∷ rs) = ap (λ qs. located_register (after second first) r ∷ qs) (twice_list rs)

  pub twice_instr : (i : Instr) → placed_instr second (placed_instr first i) ≡ placed_instr (after second first) i
  twice_instr i = same (twice_list i.args) (twice_list i.results)
    where
      same : {ws xs ys zs : List Reg} → ws ≡ xs → ys ≡ zs → record i { args = ws; results = ys } ≡ record i { args = xs; results = zs }
      same e g = cc

  pub twice : (code : List Instr) → placed_code second (placed_code first code) ≡ placed_code (after second first) code
  twice [] = refl
  twice (i ∷ is) = both (twice_instr i) (twice is)
    where
      both : {i j : Instr} {is js : List Instr} → i ≡ j → is ≡ js → i ∷ is ≡ j ∷ js
      both e g = cc

pub placed_append : (place : LocationAssignment) (xs ys : List Instr) → placed_code place (xs ++ ys) ≡ placed_code place xs ++ placed_code place ys
placed_append place [] ys = refl
placed_append place (x ∷ xs) ys = ap (λ (is : List Instr). placed_instr place x ∷ is) (placed_append place xs ys)

-- ---- copies

-- a copy from a slot to itself
pub data IsIdle : Instr → Type 0 where
  idle : {kind : CopyKind} {a b : Reg} {k : ℕ} → a.loc ≡ loc.Slot k → b.loc ≡ loc.Slot k → a.comp ≡ b.comp → IsIdle (copy_instruction kind a b)

pub data AreIdle : List Instr → Type 0 where
  no_copies : AreIdle []
  idle_then : {c : Instr} {cs : List Instr} → IsIdle c → AreIdle cs → AreIdle (c ∷ cs)

-- a copy between the register and the slot of its origin
pub data IsBetween (r : Reg) : Instr → Type 0 where
  brings : {kind : CopyKind} {s : Reg} → s.loc ≡ loc.Slot r.origin → s.comp ≡ r.comp → IsBetween r (copy_instruction kind s r)
  takes : {kind : CopyKind} {s : Reg} → s.loc ≡ loc.Slot r.origin → s.comp ≡ r.comp → IsBetween r (copy_instruction kind r s)

-- What feeds a register, or takes its value away: nothing, or a copy between its slot and the register, and copies from that slot to
-- itself.
pub data Feeds : List Instr → Reg → Type 0 where
  itself : {r : Reg} → Feeds [] r
  by_copies : {c : Instr} {idles : List Instr} {r : Reg} → IsBetween r c → AreIdle idles → Feeds (c ∷ idles) r

spot_itself : (a b : Reg) (k : ℕ) → a.loc ≡ loc.Slot k → b.loc ≡ loc.Slot k → a.comp ≡ b.comp → same_spot (a ∷ []) (b ∷ []) ≡ true
spot_itself a b k e g same =
    ap (λ l. same_loc l b.loc && same_comp a.comp b.comp) e
    ∙ ap (λ l. same_loc (loc.Slot k) l && same_comp a.comp b.comp) g
    ∙ ap (λ t. t && same_comp a.comp b.comp) (eq-eqb k k refl)
    ∙ ap (same_comp a.comp) (sym same)
    ∙ same_comp_is a.comp

idle_words : {c : Instr} → IsIdle c → instr_words c ≡ 0
idle_words (idle {a = a} {b = b} {k = k} e g same) = ap (λ t. cond t 0 copy_words) (spot_itself a b k e g same)

all_idle_words : {cs : List Instr} → AreIdle cs → code_words cs ≡ 0
all_idle_words no_copies = refl
all_idle_words (idle_then i is) = let a = idle_words i in let b = all_idle_words is in omega (arith, a, b)

between_words : {r : Reg} {c : Instr} → IsBetween r c → instr_words c ≤ copy_words
between_words {r} (brings {s = s} e g) = at_most_copy (same_spot (s ∷ []) (r ∷ []))
between_words {r} (takes {s = s} e g) = at_most_copy (same_spot (r ∷ []) (s ∷ []))

-- In the slot of its origin the register is at the other end of the copy.
between_idle : {r : Reg} {c : Instr} → r.loc ≡ loc.Slot r.origin → IsBetween r c → IsIdle c
between_idle home (brings e g) = idle e home g
between_idle home (takes e g) = idle home e (sym g)

pub feeds_words : {cs : List Instr} {r : Reg} → Feeds cs r → code_words cs ≤ copy_words
feeds_words itself = omega arith
feeds_words (by_copies b is) = let a = between_words b in let n = all_idle_words is in omega (arith, a, n)

-- ---- copies that are placed

module _ (place : LocationAssignment) (sound : IsSound place) where
  idle_placed : {c : Instr} → IsIdle c → IsIdle (placed_instr place c)
  idle_placed (idle {a = a} {b = b} e g same) = idle (slot_stays (sound a) e) (slot_stays (sound b) g) same

  all_idle_placed : {cs : List Instr} → AreIdle cs → AreIdle (placed_code place cs)
  all_idle_placed no_copies = no_copies
  all_idle_placed (idle_then i is) = idle_then (idle_placed i) (all_idle_placed is)

  between_placed : {r : Reg} {c : Instr} → IsBetween r c → IsBetween (located_register place r) (placed_instr place c)
  between_placed (brings {s = s} e g) = brings (slot_stays (sound s) e) g
  between_placed (takes {s = s} e g) = takes (slot_stays (sound s) e) g

  pub feeds_placed : {cs : List Instr} {r : Reg} → Feeds cs r → Feeds (placed_code place cs) (located_register place r)
  feeds_placed itself = itself
  feeds_placed (by_copies b is) = by_copies (between_placed b) (all_idle_placed is)

-- ---- one more copy

-- a register that is in the slot of its origin, in place of which there is another
home_of : (l : Loc) (origin : ℕ) → is_in_slot l ≡ true → ((k : ℕ) → l ≡ loc.Slot k → k ≡ origin) → l ≡ loc.Slot origin
home_of (loc.Slot k) origin e h = ap loc.Slot (h k refl)
home_of (loc.Machine n) origin e h = cc
home_of loc.Unset origin e h = cc

idle_of : {cs : List Instr} {r : Reg} → r.loc ≡ loc.Slot r.origin → Feeds cs r → AreIdle cs
idle_of home itself = no_copies
idle_of home (by_copies b is) = idle_then (between_idle home b) is

pub feeds_reload : (n : ℕ) {cs : List Instr} {r : Reg} → r.loc ≡ loc.Slot r.origin → Feeds cs r → Feeds (copy_instruction copy.Reload r (fresh_stand_in n r) ∷ cs) (fresh_stand_in n r)
feeds_reload n home f = by_copies (brings home refl) (idle_of home f)

pub feeds_spill : (n : ℕ) {cs : List Instr} {r : Reg} → r.loc ≡ loc.Slot r.origin → Feeds cs r → Feeds (copy_instruction copy.Spill (fresh_stand_in n r) r ∷ cs) (fresh_stand_in n r)
feeds_spill n home f = by_copies (takes home refl) (idle_of home f)

-- ---- those of all operands

pub data AllFed : List (List Instr) → List Reg → Type 0 where
  none_fed : AllFed [] []
  one_fed : {cs : List Instr} {chains : List (List Instr)} {r : Reg} {rs : List Reg} → Feeds cs r → AllFed chains rs → AllFed (cs ∷ chains) (r ∷ rs)

abbrev pub words_of : LocationAssignment → List (List Instr) → ℕ
words_of place [] = 0
words_of place (cs ∷ chains) = code_words (placed_code place cs) + words_of place chains

-- These copies are those of so many operands, in some order.
pub record FedBy (copies : List Instr) (rs : List Reg) : Type 0 where
  pub chains : List (List Instr)
  pub fed : AllFed chains rs
  pub sum : (place : LocationAssignment) → code_words (placed_code place copies) ≡ words_of place chains

none_for : (rs : List Reg) → (chains : List (List Instr)) × AllFed chains rs × ((place : LocationAssignment) → 0 ≡ words_of place chains)
none_for [] = ([], none_fed, λ place. refl)
none_for (r ∷ rs) =
    let others = none_for rs in
    ([] ∷ others.0, one_fed itself others.1, λ place. let e = others.2 place in omega (arith, e))

pub fed_at_first : (rs : List Reg) → FedBy [] rs
fed_at_first rs = let none = none_for rs in record { chains = none.0; fed = none.1; sum = none.2 }

module _ (place : LocationAssignment) (sound : IsSound place) where
  all_words : {chains : List (List Instr)} {rs : List Reg} → AllFed chains rs → words_of place chains ≤ copy_words * length rs
  all_words none_fed = omega arith
  all_words (one_fed f fs) = let a = feeds_words (feeds_placed place sound f) in let b = all_words fs in omega (arith, a, b)

  -- They have the words of one copy for each operand at the most.
  pub fed_words : {copies : List Instr} {rs : List Reg} → FedBy copies rs → code_words (placed_code place copies) ≤ copy_words * length rs
  fed_words f = let e = f.sum place in let all = all_words f.fed in omega (arith, e, all)

  all_placed_fed : {chains : List (List Instr)} {rs : List Reg} → AllFed chains rs → AllFed (map (placed_code place) chains) (all_placed place rs)
  all_placed_fed none_fed = none_fed
  all_placed_fed (one_fed f fs) = one_fed (feeds_placed place sound f) (all_placed_fed fs)

  words_twice : (second : LocationAssignment) (chains : List (List Instr)) → words_of second (map (placed_code place) chains) ≡ words_of (after second place) chains
  words_twice second [] = refl
  words_twice second (cs ∷ chains) = let a = ap code_words (twice second place cs) in let b = words_twice second chains in omega (arith, a, b)

  pub fed_placed : {copies : List Instr} {rs : List Reg} → FedBy copies rs → FedBy (placed_code place copies) (all_placed place rs)
  fed_placed {copies} f = record {
    chains = map (placed_code place) f.chains;
    fed = all_placed_fed f.fed;
    sum = λ second. ap code_words (twice second place copies) ∙ f.sum (after second place) ∙ sym (words_twice second f.chains);
  }

pub data AreHomed : List Reg → Type 0 where
  none_homed : AreHomed []
  one_homed : {r : Reg} {rs : List Reg} → IsHomed r → AreHomed rs → AreHomed (r ∷ rs)

-- ---- another round

module _ (b : Bool) (more : ℕ → Reg → Instr) (copies_of : ℕ → List Reg → List Instr) (none : (n : ℕ) → copies_of n [] ≡ [])
    (next : (n : ℕ) (r : Reg) (rs : List Reg) → copies_of n (r ∷ rs) ≡ cond (is_renewed b r) (more n r ∷ copies_of (suc n) rs) (copies_of n rs))
    (feeds : (n : ℕ) (cs : List Instr) (r : Reg) → r.loc ≡ loc.Slot r.origin → Feeds cs r → Feeds (more n r ∷ cs) (fresh_stand_in n r)) where
  record More (n : ℕ) (chains : List (List Instr)) (rs : List Reg) : Type 0 where
    made : List (List Instr)
    fed : AllFed made (renewed b n rs)
    sum : (place : LocationAssignment) → words_of place made ≡ words_of place chains + code_words (placed_code place (copies_of n rs))

  in_slot_of : (b : Bool) (r : Reg) → is_renewed b r ≡ true → is_in_slot r.loc ≡ true
  in_slot_of true r e = e
  in_slot_of false r e = cc

  all_more : (n : ℕ) {chains : List (List Instr)} {rs : List Reg} → AreHomed rs → AllFed chains rs → More n chains rs
  all_more n none_homed none_fed = record { made = []; fed = none_fed; sum = λ place. let e = ap (λ (is : List Instr). code_words (placed_code place is)) (none n) in omega (arith, e) }
  all_more n (one_homed {r = r} {rs = rs} h hs) (one_fed {cs = cs} {chains = chains} f fs) = by (is_renewed b r) refl (λ k. all_more k hs fs)
    where
      by : (t : Bool) → is_renewed b r ≡ t → ((k : ℕ) → More k chains rs) → More n (cs ∷ chains) (r ∷ rs)
      by true e all =
          let others = all (suc n) in
          let home : r.loc ≡ loc.Slot r.origin = home_of r.loc r.origin (in_slot_of b r e) h in
          let list : renewed b n (r ∷ rs) ≡ fresh_stand_in n r ∷ renewed b (suc n) rs = ap (λ t. cond t (fresh_stand_in n r) r ∷ renewed b (cond t (suc n) n) rs) e in
          let text : copies_of n (r ∷ rs) ≡ more n r ∷ copies_of (suc n) rs = next n r rs ∙ ap (λ t. cond t (more n r ∷ copies_of (suc n) rs) (copies_of n rs)) e in
          record {
            made = (more n r ∷ cs) ∷ others.made;
            fed = subst (AllFed ((more n r ∷ cs) ∷ others.made)) (sym list) (one_fed (feeds n cs r home f) others.fed);
            sum = λ place.
                let k = ap (λ (is : List Instr). code_words (placed_code place is)) text in
                let o = others.sum place in
                omega (arith, k, o);
          }
      by false e all =
          let others = all n in
          let list : renewed b n (r ∷ rs) ≡ r ∷ renewed b n rs = ap (λ t. cond t (fresh_stand_in n r) r ∷ renewed b (cond t (suc n) n) rs) e in
          let text : copies_of n (r ∷ rs) ≡ copies_of n rs = next n r rs ∙ ap (λ t. cond t (more n r ∷ copies_of (suc n) rs) (copies_of n rs)) e in
          record {
            made = cs ∷ others.made;
            fed = subst (AllFed (cs ∷ others.made)) (sym list) (one_fed f others.fed);
            sum = λ place.
                let k = ap (λ (is : List Instr). code_words (placed_code place is)) text in
                let o = others.sum place in
                omega (arith, k, o);
          }

-- before an instruction
pub fed_reloaded : (b : Bool) (n : ℕ) {copies : List Instr} {rs : List Reg} → AreHomed rs → FedBy copies rs → FedBy (copies ++ reloads b n rs) (renewed b n rs)
fed_reloaded b n {copies} {rs} h f =
    let m = all_more b (λ n r. copy_instruction copy.Reload r (fresh_stand_in n r)) (reloads b) (λ n. refl) (λ n r rs. refl) (λ n cs r home f. feeds_reload n home f) n h f.fed in
    record {
      chains = m.made;
      fed = m.fed;
      sum = λ place.
          let e = ap code_words (placed_append place copies (reloads b n rs)) in
          let both = words_append (placed_code place copies) (placed_code place (reloads b n rs)) in
          let so_far = f.sum place in
          let now = m.sum place in
          omega (arith, e, both, so_far, now);
    }

-- and after it
pub fed_spilled : (b : Bool) (n : ℕ) {copies : List Instr} {rs : List Reg} → AreHomed rs → FedBy copies rs → FedBy (spills b n rs ++ copies) (renewed b n rs)
fed_spilled b n {copies} {rs} h f =
    let m = all_more b (λ n r. copy_instruction copy.Spill (fresh_stand_in n r) r) (spills b) (λ n. refl) (λ n r rs. refl) (λ n cs r home f. feeds_spill n home f) n h f.fed in
    record {
      chains = m.made;
      fed = m.fed;
      sum = λ place.
          let e = ap code_words (placed_append place (spills b n rs) copies) in
          let both = words_append (placed_code place (spills b n rs)) (placed_code place copies) in
          let so_far = f.sum place in
          let now = m.sum place in
          omega (arith, e, both, so_far, now);
    }
