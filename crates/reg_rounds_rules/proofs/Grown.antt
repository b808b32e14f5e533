-- A function over the rounds: each copy of the first is alone, and each other instruction among the copies for its operands and
-- results.
use Rattle.std.proofs.Common.{◌≡◌, ℕ, suc, ◌+◌, ◌*◌, ◌≤◌, Bool, true, false, cond, not, ◌&&◌, nat_eq, List, [], ◌∷◌, ◌++◌, length, refl, sym, ap, ◌∙◌, subst, arith}
use Rattle.std.proofs.lemmas.List.{length-map}
use Rattle.bs_words.specs.declared.types.Loc.{Loc}
use Rattle.bs_words.specs.declared.types.Loc.TheVariants as loc
use Rattle.mach_ir.specs.declared.op.Op.TheVariants as op
use Rattle.mach_ir.specs.declared.op.Pure.TheVariants as pure
use Rattle.mach_ir.specs.declared.reg.Reg.{Reg}
use Rattle.mach_ir.specs.declared.mach.MachOp.{MachOp}
use Rattle.mach_ir.specs.declared.mach.MachOp.TheVariants as mach
use Rattle.mach_ir.specs.declared.mach.Instr.{Instr}
use Rattle.lin_ir.specs.Meaning.{same_loc}
use Rattle.linearise_rules.specs.Lowered.{same_spot}
use Rattle.mach_ir.specs.Formed.{is_exit}
use Rattle.mach_ir.specs.Meaning.{passes_frame, tries_at, tries_past}
use Rattle.mach_ir.specs.declared.op.Leaving.TheVariants as leaving
use Rattle.reload_rules.specs.Known.{OffsetFits, EndsInReturn, at_return, further, one_if_true, words_for_instr, code_words, code_points, exit_count, instr_words, copy_words, operands_with, other_operands}
use Rattle.reload_rules.proofs.Known.{words_append, ends_second, returns_alone}
use Rattle.colouring_rules.specs.Places.{LocationAssignment, located_register, all_placed, placed_instr, placed_code}
use Rattle.reload_rules.specs.Reloaded.{is_copy, reads_registers, writes_registers, renewed, reloads, spills, number_past, results_from, past_instr, renewed_instr, reloaded_instr, reloaded_code}
use Rattle.reload_rules.proofs.Text.{no_reloads, no_spills, none_renewed}
use Rattle.reload_rules.proofs.Copies.{same_length}
use Rattle.reg_rounds_rules.proofs.Feeding.{IsSound, slot_stays, machine_stays, AreHomed, after, sound_after, twice_instr, placed_append, FedBy, fed_at_first, fed_words, fed_placed, fed_reloaded, fed_spilled}
use Rattle.mach_ir.specs.Places.{same_comp}

-- ---- copies

abbrev pub copies : MachOp → Bool
copies (mach.Op f) = is_copy f
copies (mach.Mark f) = false

-- nothing but copies
pub data OnlyCopies : List Instr → Type 0 where
  no_copy : OnlyCopies []
  copy_then : {c : Instr} {cs : List Instr} → copies c.op ≡ true → OnlyCopies cs → OnlyCopies (c ∷ cs)

pub only_append : {xs ys : List Instr} → OnlyCopies xs → OnlyCopies ys → OnlyCopies (xs ++ ys)
only_append no_copy ys = ys
only_append (copy_then c cs) ys = copy_then c (only_append cs ys)

pub only_placed : (place : LocationAssignment) {xs : List Instr} → OnlyCopies xs → OnlyCopies (placed_code place xs)
only_placed place no_copy = no_copy
only_placed place (copy_then c cs) = copy_then c (only_placed place cs)

either_only : (b : Bool) {xs ys : List Instr} → OnlyCopies xs → OnlyCopies ys → OnlyCopies (cond b xs ys)
either_only true x y = x
either_only false x y = y

pub reloads_only : (b : Bool) (n : ℕ) (rs : List Reg) → OnlyCopies (reloads b n rs)
reloads_only b n [] = no_copy
reloads_only b n (r ∷ rs) = either_only _ (copy_then refl (reloads_only b (suc n) rs)) (reloads_only b n rs)

pub spills_only : (b : Bool) (n : ℕ) (rs : List Reg) → OnlyCopies (spills b n rs)
spills_only b n [] = no_copy
spills_only b n (r ∷ rs) = either_only _ (copy_then refl (spills_only b (suc n) rs)) (spills_only b n rs)

-- ---- grown

pub data Grown : List Instr → List Instr → Type 0 where
  grown_none : Grown [] []
  -- wherever it is placed, a copy has no more words than at first
  grown_copy : {i j : Instr} {p q : List Instr} → copies i.op ≡ true → j.op ≡ i.op →
      ((place : LocationAssignment) → IsSound place → instr_words (placed_instr place j) ≤ instr_words i) → Grown p q → Grown (i ∷ p) (j ∷ q)
  grown_other : {i j : Instr} {before behind p q : List Instr} → copies i.op ≡ false → j.op ≡ i.op → length j.args ≡ length i.args →
      length j.results ≡ length i.results → FedBy before j.args → FedBy behind j.results → OnlyCopies before → OnlyCopies behind →
      (i.results ≡ [] → behind ≡ []) → Grown p q → Grown (i ∷ p) (before ++ (j ∷ (behind ++ q)))

-- ---- placed

module _ (place : LocationAssignment) (sound : IsSound place) where
  pub grown_placed : {p q : List Instr} → Grown p q → Grown p (placed_code place q)
  grown_placed grown_none = grown_none
  grown_placed (grown_copy {i = i} {j = j} c e words g) =
      grown_copy {j = placed_instr place j} c e
      (λ second s. subst (λ (k : Instr). instr_words k ≤ instr_words i) (sym (twice_instr second place j)) (words (after second place) (sound_after second place s sound)))
      (grown_placed g)
  grown_placed (grown_other {i = i} {j = j} {before = before} {behind = behind} {q = q} c e args results one two only also none g) =
      subst (Grown _) (sym text)
      (grown_other {j = placed_instr place j} c e (length-map j.args (located_register place) ∙ args) (length-map j.results (located_register place) ∙ results)
      (fed_placed place sound one) (fed_placed place sound two) (only_placed place only) (only_placed place also) (λ n. ap (placed_code place) (none n)) (grown_placed g))
    where
      text : placed_code place (before ++ (j ∷ (behind ++ q))) ≡ placed_code place before ++ (placed_instr place j ∷ (placed_code place behind ++ placed_code place q))
      text =
          placed_append place before (j ∷ (behind ++ q))
          ∙ ap (λ (is : List Instr). placed_code place before ++ (placed_instr place j ∷ is)) (placed_append place behind q)

-- ---- reloaded

-- each register of a code that is in a slot is in that of its origin
pub data HomedCode : List Instr → Type 0 where
  no_code : HomedCode []
  homed_then : {i : Instr} {is : List Instr} → AreHomed i.args → AreHomed i.results → HomedCode is → HomedCode (i ∷ is)

homed_rest : (xs : List Instr) {ys : List Instr} → HomedCode (xs ++ ys) → HomedCode ys
homed_rest [] h = h
homed_rest (x ∷ xs) (homed_then a b h) = homed_rest xs h

copy_reads : (f : MachOp) → copies f ≡ true → reads_registers f ≡ false
copy_reads (mach.Op f) e = ap not e
copy_reads (mach.Mark f) e = cc

copy_writes : (f : MachOp) → copies f ≡ true → writes_registers f ≡ false
copy_writes (mach.Op f) e = ap not e
copy_writes (mach.Mark f) e = cc

none_past : (n : ℕ) (rs : List Reg) → number_past false n rs ≡ n
none_past n [] = refl
none_past n (r ∷ rs) = none_past n rs

module _ (c : Instr) (is : copies c.op ≡ true) where
  same_past : (n : ℕ) → past_instr n c ≡ n
  same_past n =
      ap (λ b. number_past b (results_from n c) c.results) (copy_writes c.op is)
      ∙ none_past (results_from n c) c.results
      ∙ ap (λ b. number_past b n c.args) (copy_reads c.op is)
      ∙ none_past n c.args

  same_instr : (n : ℕ) → reloaded_instr n c ≡ c ∷ []
  same_instr n =
      all (ap (λ b. reloads b n c.args) (copy_reads c.op is) ∙ no_reloads n c.args)
      (ap (λ b. renewed b n c.args) (copy_reads c.op is) ∙ none_renewed n c.args)
      (ap (λ b. renewed b (results_from n c) c.results) (copy_writes c.op is) ∙ none_renewed (results_from n c) c.results)
      (ap (λ b. spills b (results_from n c) c.results) (copy_writes c.op is) ∙ no_spills (results_from n c) c.results)
    where
      all : {xs zs : List Instr} {us rs : List Reg} → xs ≡ [] → us ≡ c.args → rs ≡ c.results → zs ≡ [] →
          xs ++ (record c { args = us; results = rs } ∷ zs) ≡ c ∷ []
      all {zs = zs} {us = us} {rs = rs} a b d e =
          ap (λ (is : List Instr). is ++ (record c { args = us; results = rs } ∷ zs)) a
          ∙ ap (λ (qs : List Reg). record c { args = qs; results = rs } ∷ zs) b
          ∙ ap (λ (qs : List Reg). record c { args = c.args; results = qs } ∷ zs) d
          ∙ ap (λ (is : List Instr). c ∷ is) e

  pub same_code : (n : ℕ) (ys : List Instr) → reloaded_code n (c ∷ ys) ≡ c ∷ reloaded_code n ys
  same_code n ys = both (same_instr n) (same_past n)
    where
      both : {xs : List Instr} {k : ℕ} → xs ≡ c ∷ [] → k ≡ n → xs ++ reloaded_code k ys ≡ c ∷ reloaded_code n ys
      both {xs} {k} e g = ap (λ (is : List Instr). is ++ reloaded_code k ys) e ∙ ap (λ k. c ∷ reloaded_code k ys) g

reloaded_copies : {cs : List Instr} → OnlyCopies cs → (n : ℕ) (ys : List Instr) → reloaded_code n (cs ++ ys) ≡ cs ++ reloaded_code n ys
reloaded_copies no_copy n ys = refl
reloaded_copies (copy_then {c = c} {cs = cs} is only) n ys =
    same_code c is n (cs ++ ys) ∙ ap (λ (is : List Instr). c ∷ is) (reloaded_copies only n ys)

joined : (xs ys zs : List Instr) → (xs ++ ys) ++ zs ≡ xs ++ (ys ++ zs)
joined [] ys zs = refl
joined (x ∷ xs) ys zs = ap (λ (is : List Instr). x ∷ is) (joined xs ys zs)

empty_of : (rs : List Reg) (n : ℕ) → n ≡ 0 → length rs ≡ n → rs ≡ []
empty_of [] n e g = refl
empty_of (r ∷ rs) n e g = absurd (omega (arith, e, g))

pub grown_reloaded : {p q : List Instr} → Grown p q → HomedCode q → (n : ℕ) → Grown p (reloaded_code n q)
grown_reloaded grown_none h n = grown_none
grown_reloaded (grown_copy {i = i} {j = j} {q = q} c e words g) (homed_then a b h) n =
    subst (Grown _) (sym (same_code j (ap copies e ∙ c) n q)) (grown_copy c e words (grown_reloaded g h n))
grown_reloaded (grown_other {i = i} {j = j} {before = before} {behind = behind} {p = p} {q = q} c e args results one two only also none g) h n =
    by (homed_rest before h) (λ rest. grown_reloaded g rest k)
  where
    k : ℕ
    k = past_instr n j

    front : List Instr
    front = reloads (reads_registers j.op) n j.args

    back : List Instr
    back = spills (writes_registers j.op) (results_from n j) j.results

    text : reloaded_code n (before ++ (j ∷ (behind ++ q))) ≡ (before ++ front) ++ (renewed_instr n j ∷ ((back ++ behind) ++ reloaded_code k q))
    text =
        reloaded_copies only n (j ∷ (behind ++ q))
        ∙ ap (λ (is : List Instr). before ++ ((front ++ (renewed_instr n j ∷ back)) ++ is)) (reloaded_copies also k q)
        ∙ ap (λ (is : List Instr). before ++ is)
        (joined front (renewed_instr n j ∷ back) (behind ++ reloaded_code k q)
        ∙ ap (λ (is : List Instr). front ++ (renewed_instr n j ∷ is)) (sym (joined back behind (reloaded_code k q))))
        ∙ sym (joined before front (renewed_instr n j ∷ ((back ++ behind) ++ reloaded_code k q)))

    nothing_behind : i.results ≡ [] → back ++ behind ≡ []
    nothing_behind empty =
        let mine : j.results ≡ [] = empty_of j.results (length i.results) (ap length empty) results in
        ap (λ (rs : List Reg). spills (writes_registers j.op) (results_from n j) rs ++ behind) mine ∙ none empty

    by : HomedCode (j ∷ (behind ++ q)) → (HomedCode q → Grown p (reloaded_code k q)) → Grown (i ∷ p) (reloaded_code n (before ++ (j ∷ (behind ++ q))))
    by (homed_then a b rest) others =
        subst (Grown (i ∷ p)) (sym text)
        (grown_other {j = renewed_instr n j} c e (same_length (reads_registers j.op) n j.args ∙ args)
        (same_length (writes_registers j.op) (results_from n j) j.results ∙ results) (fed_reloaded (reads_registers j.op) n a one)
        (fed_spilled (writes_registers j.op) (results_from n j) b two) (only_append only (reloads_only (reads_registers j.op) n j.args))
        (only_append (spills_only (writes_registers j.op) (results_from n j) j.results) also) nothing_behind
        (others (homed_rest behind rest)))

-- ---- at first

-- a copy that leads from a place to itself does so wherever it is placed
module _ (place : LocationAssignment) (sound : IsSound place) where
  same_machine : (a b n m : ℕ) → n ≡ a → m ≡ b → nat_eq a b ≡ true → nat_eq n m ≡ true
  same_machine a b n m e g s = ap (λ k. nat_eq k m) e ∙ ap (nat_eq a) g ∙ s

  locs_stay : (a b : Reg) (x y : Loc) → a.loc ≡ x → b.loc ≡ y → same_loc x y ≡ true → same_loc (place a) (place b) ≡ true
  locs_stay a b (loc.Machine n) (loc.Machine m) e g s = ap (λ l. same_loc l (place b)) (machine_stays (sound a) e) ∙ ap (same_loc (loc.Machine n)) (machine_stays (sound b) g) ∙ s
  locs_stay a b (loc.Slot n) (loc.Slot m) e g s = ap (λ l. same_loc l (place b)) (slot_stays (sound a) e) ∙ ap (same_loc (loc.Slot n)) (slot_stays (sound b) g) ∙ s
  locs_stay a b (loc.Machine n) (loc.Slot m) e g s = cc
  locs_stay a b (loc.Machine n) loc.Unset e g s = cc
  locs_stay a b (loc.Slot n) (loc.Machine m) e g s = cc
  locs_stay a b (loc.Slot n) loc.Unset e g s = cc
  locs_stay a b loc.Unset (loc.Machine m) e g s = cc
  locs_stay a b loc.Unset (loc.Slot m) e g s = cc
  locs_stay a b loc.Unset loc.Unset e g s = cc

  and_stays : (x y z : Bool) → (x ≡ true → z ≡ true) → x && y ≡ true → z && y ≡ true
  and_stays true y z h e = ap (λ t. t && y) (h refl) ∙ e
  and_stays false y z h e = cc

  spots_stay : (args results : List Reg) → same_spot args results ≡ true → same_spot (all_placed place args) (all_placed place results) ≡ true
  spots_stay (a ∷ []) (b ∷ []) e = and_stays (same_loc a.loc b.loc) (same_comp a.comp b.comp) (same_loc (place a) (place b)) (λ s. locs_stay a b a.loc b.loc refl refl s) e
  spots_stay [] results e = cc
  spots_stay (a ∷ c ∷ cs) results e = cc
  spots_stay (a ∷ []) [] e = cc
  spots_stay (a ∷ []) (b ∷ c ∷ cs) e = cc

  fewer : (s t : Bool) → (s ≡ true → t ≡ true) → cond t 0 copy_words ≤ cond s 0 copy_words
  fewer true t h = subst (λ t. cond t 0 copy_words ≤ 0) (sym (h refl)) (omega arith)
  fewer false true h = omega arith
  fewer false false h = omega arith

  copy_placed : (f : MachOp) (args results : List Reg) → copies f ≡ true → words_for_instr f (all_placed place args) (all_placed place results) ≤ words_for_instr f args results
  copy_placed (mach.Op (op.Pure (pure.Copy kind))) args results e = fewer (same_spot args results) (same_spot (all_placed place args) (all_placed place results)) (spots_stay args results)
  copy_placed (mach.Op (op.Pure (pure.Constant w))) args results e = cc
  copy_placed (mach.Op (op.Pure (pure.Symbol name))) args results e = cc
  copy_placed (mach.Op (op.Pure (pure.Operator f right))) args results e = cc
  copy_placed (mach.Op (op.Access f)) args results e = cc
  copy_placed (mach.Op (op.Calling f)) args results e = cc
  copy_placed (mach.Op (op.Leaving f)) args results e = cc
  copy_placed (mach.Mark f) args results e = cc

pub grown_first : (code : List Instr) → Grown code code
grown_first [] = grown_none
grown_first (i ∷ is) = by (copies i.op) refl (grown_first is)
  where
    by : (b : Bool) → copies i.op ≡ b → Grown is is → Grown (i ∷ is) (i ∷ is)
    by true c others = grown_copy c refl (λ place sound. copy_placed place sound i.op i.args i.results c) others
    by false c others = grown_other {before = []} {behind = []} c refl refl refl (fed_at_first i.args) (fed_at_first i.results) no_copy no_copy (λ e. refl) others

-- ---- words

-- of another instruction, whatever its operands are
other_words : (f : MachOp) (args results us rs : List Reg) → copies f ≡ false → length rs ≡ length results → words_for_instr f us rs ≡ words_for_instr f args results
other_words (mach.Op (op.Pure (pure.Copy kind))) args results us rs c e = cc
other_words (mach.Op (op.Pure (pure.Constant w))) args results us rs c e = omega (arith, e)
other_words (mach.Op (op.Pure (pure.Symbol name))) args results us rs c e = omega (arith, e)
other_words (mach.Op (op.Pure (pure.Operator f right))) args results us rs c e = omega (arith, e)
other_words (mach.Op (op.Access f)) args results us rs c e = omega (arith, e)
other_words (mach.Op (op.Calling f)) args results us rs c e = omega (arith, e)
other_words (mach.Op (op.Leaving f)) args results us rs c e = omega (arith, e)
other_words (mach.Mark f) args results us rs c e = omega (arith, e)

pub other_count : (f : MachOp) (args results : List Reg) → copies f ≡ false → operands_with f args results ≡ length args + length results
other_count (mach.Op (op.Pure (pure.Copy kind))) args results c = cc
other_count (mach.Op (op.Pure (pure.Constant w))) args results c = refl
other_count (mach.Op (op.Pure (pure.Symbol name))) args results c = refl
other_count (mach.Op (op.Pure (pure.Operator f right))) args results c = refl
other_count (mach.Op (op.Access f)) args results c = refl
other_count (mach.Op (op.Calling f)) args results c = refl
other_count (mach.Op (op.Leaving f)) args results c = refl
other_count (mach.Mark f) args results c = refl

-- Placed, it has a copy's words more for each operand and result of another instruction than a copy, at the most.
module _ (place : LocationAssignment) (sound : IsSound place) where
  pub grown_words : {p q : List Instr} → Grown p q → code_words (placed_code place q) ≤ code_words p + copy_words * other_operands p
  grown_words grown_none = omega arith
  grown_words (grown_copy {i = i} {j = j} {p = p} {q = q} c e words g) =
      let here = words place sound in
      let others = grown_words g in
      omega (arith, here, others)
  grown_words (grown_other {i = i} {j = j} {before = before} {behind = behind} {p = p} {q = q} c e args results one two only also none g) =
      let text : code_words (placed_code place (before ++ (j ∷ (behind ++ q)))) ≡ code_words (placed_code place before ++ placed_code place (j ∷ (behind ++ q))) =
      ap code_words (placed_append place before (j ∷ (behind ++ q))) in
      let split : code_words (placed_code place before ++ placed_code place (j ∷ (behind ++ q))) ≡
      code_words (placed_code place before) + (instr_words (placed_instr place j) + code_words (placed_code place (behind ++ q))) =
      words_append (placed_code place before) (placed_code place (j ∷ (behind ++ q))) in
      let more : code_words (placed_code place (behind ++ q)) ≡ code_words (placed_code place behind ++ placed_code place q) = ap code_words (placed_append place behind q) in
      let rest = words_append (placed_code place behind) (placed_code place q) in
      let front = fed_words place sound one in
      let back = fed_words place sound two in
      let here : instr_words (placed_instr place j) ≡ instr_words i =
      ap (λ f. words_for_instr f (all_placed place j.args) (all_placed place j.results)) e
      ∙ other_words i.op i.args i.results (all_placed place j.args) (all_placed place j.results) c (length-map j.results (located_register place) ∙ results) in
      let count = other_count i.op i.args i.results c in
      let others = grown_words g in
      omega (arith, text, split, more, rest, front, back, here, count, others, args, results)

-- ---- what else is as it was

copy_points : (f : MachOp) → copies f ≡ true → passes_frame f ≡ false
copy_points (mach.Op (op.Pure f)) e = refl
copy_points (mach.Op (op.Access f)) e = cc
copy_points (mach.Op (op.Calling f)) e = cc
copy_points (mach.Op (op.Leaving f)) e = cc
copy_points (mach.Mark f) e = cc

copy_exit : (f : MachOp) → copies f ≡ true → is_exit f ≡ false
copy_exit (mach.Op f) e = refl
copy_exit (mach.Mark f) e = cc

copy_tries : (f : MachOp) (ts : List ℕ) → copies f ≡ true → tries_past f ts ≡ ts
copy_tries (mach.Op f) ts e = refl
copy_tries (mach.Mark f) ts e = cc

pub copy_operands : (f : MachOp) (args results : List Reg) → copies f ≡ true → operands_with f args results ≡ 0
copy_operands (mach.Op (op.Pure (pure.Copy kind))) args results e = refl
copy_operands (mach.Op (op.Pure (pure.Constant w))) args results e = cc
copy_operands (mach.Op (op.Pure (pure.Symbol name))) args results e = cc
copy_operands (mach.Op (op.Pure (pure.Operator f right))) args results e = cc
copy_operands (mach.Op (op.Access f)) args results e = cc
copy_operands (mach.Op (op.Calling f)) args results e = cc
copy_operands (mach.Op (op.Leaving f)) args results e = cc
copy_operands (mach.Mark f) args results e = cc

copy_fits : (f : MachOp) → copies f ≡ true → OffsetFits f
copy_fits (mach.Op (op.Pure f)) e = tt
copy_fits (mach.Op (op.Access f)) e = cc
copy_fits (mach.Op (op.Calling f)) e = cc
copy_fits (mach.Op (op.Leaving f)) e = cc
copy_fits (mach.Mark f) e = cc

-- what is at each place of a code after some copies
module _ (k : ℕ) where
  abbrev pub Shallow : List Instr → Type 0
  Shallow [] = Unit {0}
  Shallow (i ∷ is) = (length (tries_at (i ∷ is)) ≤ k) × Shallow is

abbrev pub Fit : List Instr → Type 0
Fit [] = Unit {0}
Fit (i ∷ is) = OffsetFits i.op × Fit is

module _ (rest : List Instr) where
  points_behind : {cs : List Instr} → OnlyCopies cs → code_points (cs ++ rest) ≡ code_points rest
  points_behind no_copy = refl
  points_behind (copy_then {c = c} is only) = let here = ap one_if_true (copy_points c.op is) in let others = points_behind only in omega (arith, here, others)

  exits_behind : {cs : List Instr} → OnlyCopies cs → exit_count (cs ++ rest) ≡ exit_count rest
  exits_behind no_copy = refl
  exits_behind (copy_then {c = c} {cs = cs} is only) = ap (λ b. cond b (suc (exit_count (cs ++ rest))) (exit_count (cs ++ rest))) (copy_exit c.op is) ∙ exits_behind only

  operands_behind : {cs : List Instr} → OnlyCopies cs → other_operands (cs ++ rest) ≡ other_operands rest
  operands_behind no_copy = refl
  operands_behind (copy_then {c = c} is only) = let here = copy_operands c.op c.args c.results is in let others = operands_behind only in omega (arith, here, others)

  tries_behind : {cs : List Instr} → OnlyCopies cs → tries_at (cs ++ rest) ≡ tries_at rest
  tries_behind no_copy = refl
  tries_behind (copy_then {c = c} {cs = cs} is only) = copy_tries c.op (tries_at (cs ++ rest)) is ∙ tries_behind only

  shallow_behind : (k : ℕ) {cs : List Instr} → OnlyCopies cs → length (tries_at rest) ≤ k → Shallow k rest → Shallow k (cs ++ rest)
  shallow_behind k no_copy le s = s
  shallow_behind k (copy_then {c = c} {cs = cs} is only) le s =
      let e = ap length (copy_tries c.op (tries_at (cs ++ rest)) is ∙ tries_behind only) in
      (omega (arith, e, le), shallow_behind k only le s)

  fit_behind : {cs : List Instr} → OnlyCopies cs → Fit rest → Fit (cs ++ rest)
  fit_behind no_copy f = f
  fit_behind (copy_then {c = c} is only) f = (copy_fits c.op is, fit_behind only f)

pub grown_points : {p q : List Instr} → Grown p q → code_points q ≡ code_points p
grown_points grown_none = refl
grown_points (grown_copy c e words g) = let here = ap (λ f. one_if_true (passes_frame f)) e in let others = grown_points g in omega (arith, here, others)
grown_points (grown_other {j = j} {behind = behind} {q = q} c e args results one two only also none g) =
    let front = points_behind (j ∷ (behind ++ q)) only in
    let back = points_behind q also in
    let here = ap (λ f. one_if_true (passes_frame f)) e in
    let others = grown_points g in
    omega (arith, front, back, here, others)

pub grown_exits : {p q : List Instr} → Grown p q → exit_count q ≡ exit_count p
grown_exits grown_none = refl
grown_exits (grown_copy {i = i} {j = j} {q = q} c e words g) =
    ap (λ f. cond (is_exit f) (suc (exit_count q)) (exit_count q)) e ∙ ap (λ n. cond (is_exit i.op) (suc n) n) (grown_exits g)
grown_exits (grown_other {i = i} {j = j} {behind = behind} {q = q} c e args results one two only also none g) =
    exits_behind (j ∷ (behind ++ q)) only
    ∙ ap (λ f. cond (is_exit f) (suc (exit_count (behind ++ q))) (exit_count (behind ++ q))) e
    ∙ ap (λ n. cond (is_exit i.op) (suc n) n) (exits_behind q also ∙ grown_exits g)

pub grown_operands : {p q : List Instr} → Grown p q → other_operands q ≡ other_operands p
grown_operands grown_none = refl
grown_operands (grown_copy {i = i} {j = j} c e words g) =
    let first = copy_operands i.op i.args i.results c in
    let now = copy_operands j.op j.args j.results (ap copies e ∙ c) in
    let others = grown_operands g in
    omega (arith, first, now, others)
grown_operands (grown_other {i = i} {j = j} {behind = behind} {q = q} c e args results one two only also none g) =
    let front = operands_behind (j ∷ (behind ++ q)) only in
    let back = operands_behind q also in
    let first = other_count i.op i.args i.results c in
    let now = other_count j.op j.args j.results (ap copies e ∙ c) in
    let others = grown_operands g in
    omega (arith, front, back, first, now, others, args, results)

pub grown_tries : {p q : List Instr} → Grown p q → tries_at q ≡ tries_at p
grown_tries grown_none = refl
grown_tries (grown_copy {i = i} {q = q} c e words g) = ap (λ f. tries_past f (tries_at q)) e ∙ ap (tries_past i.op) (grown_tries g)
grown_tries (grown_other {i = i} {j = j} {behind = behind} {q = q} c e args results one two only also none g) =
    tries_behind (j ∷ (behind ++ q)) only
    ∙ ap (λ f. tries_past f (tries_at (behind ++ q))) e
    ∙ ap (tries_past i.op) (tries_behind q also ∙ grown_tries g)

first_shallow : (k : ℕ) (code : List Instr) → Shallow k code → length (tries_at code) ≤ k
first_shallow k [] s = omega arith
first_shallow k (i ∷ is) s = s.0

pub grown_shallow : (k : ℕ) {p q : List Instr} → Grown p q → Shallow k p → Shallow k q
grown_shallow k grown_none s = tt
grown_shallow k (grown_copy {i = i} {j = j} {p = p} {q = q} c e words g) s =
    let same = ap length (grown_tries (grown_copy c e words g)) in
    let le = s.0 in
    (omega (arith, same, le), grown_shallow k g s.1)
grown_shallow k (grown_other {i = i} {j = j} {behind = behind} {p = p} {q = q} c e args results one two only also none g) s =
    let same = ap length (ap (λ f. tries_past f (tries_at (behind ++ q))) e ∙ ap (tries_past i.op) (tries_behind q also ∙ grown_tries g)) in
    let le = s.0 in
    let here : length (tries_at (j ∷ (behind ++ q))) ≤ k = omega (arith, same, le) in
    let others = grown_shallow k g s.1 in
    shallow_behind (j ∷ (behind ++ q)) k only here (here, shallow_behind q k also (first_shallow k q others) others)

pub grown_fit : {p q : List Instr} → Grown p q → Fit p → Fit q
grown_fit grown_none f = tt
grown_fit (grown_copy c e words g) f = (subst OffsetFits (sym e) f.0, grown_fit g f.1)
grown_fit (grown_other {j = j} {behind = behind} {q = q} c e args results one two only also none g) f =
    fit_behind (j ∷ (behind ++ q)) only (subst OffsetFits (sym e) f.0, fit_behind q also (grown_fit g f.1))

-- ---- the end

-- a return has no results
abbrev pub ReturnsNothing : List Instr → Type 0
ReturnsNothing [] = Unit {0}
ReturnsNothing (i ∷ is) = (i.op ≡ mach.Op (op.Leaving leaving.Return) → i.results ≡ []) × ReturnsNothing is

none_grown : {q : List Instr} → Grown [] q → q ≡ []
none_grown grown_none = refl

pub grown_ends : {p q : List Instr} → Grown p q → ReturnsNothing p → EndsInReturn p → EndsInReturn q
grown_ends grown_none r x = elim x [ ]
grown_ends (grown_copy c e words g) r at_return = cc
grown_ends (grown_copy c e words g) r (further x) = further (grown_ends g r.1 x)
grown_ends (grown_other {j = j} {before = before} {behind = behind} {q = q} c e args results one two only also none g) r at_return =
    let nothing : behind ++ q ≡ [] = ap (λ (is : List Instr). is ++ q) (none (r.0 refl)) ∙ none_grown g in
    subst (λ (is : List Instr). EndsInReturn (before ++ (j ∷ is))) (sym nothing) (ends_second before _ (returns_alone j e))
grown_ends (grown_other {j = j} {before = before} {behind = behind} c e args results one two only also none g) r (further x) =
    ends_second before _ (further (ends_second behind _ (grown_ends g r.1 x)))
