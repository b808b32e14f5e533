-- The slots of a function as they are gathered, and the flags of those that occur.
use Rattle.std.proofs.Common.{◌≡◌, ℕ, zero, suc, ◌+◌, ◌<◌, Bool, true, false, ◌||◌, List, [], ◌∷◌, ◌++◌, drop, length, nat_eq, get_or, set, refl, sym, ap, ◌∙◌, subst, append_assoc, arith, get_or-set_same, get_or-set_other}
use Rattle.std.proofs.lemmas.Bool.{true≢false, eq-eqb, eqb-true}
use Rattle.std.proofs.Math.Seq.{drop-cons}
use Rattle.bs_words.specs.declared.types.Loc.{Loc}
use Rattle.bs_words.specs.declared.types.Loc.TheVariants as loc
use Rattle.mach_ir.specs.declared.reg.Reg.{Reg}
use Rattle.mach_ir.specs.declared.mach.Instr.{Instr}
use Rattle.linearise_rules.specs.Lowered.{with_slot_of, slots_of_regs, slots_of_code, is_among_numbers, limit_above}
use Rattle.linearise_rules.proofs.Slots.{above_first, above_later}
use Rattle.bs_words.proofs.Lists.{drop_none, drop_step}

pub regs_append : (rs : List Reg) (ks : List ℕ) → slots_of_regs rs ks ≡ slots_of_regs rs [] ++ ks
regs_append [] ks = refl
regs_append (r ∷ rs) ks = by r.loc (regs_append rs ks)
  where
    by : (l : Loc) → slots_of_regs rs ks ≡ slots_of_regs rs [] ++ ks → with_slot_of l (slots_of_regs rs ks) ≡ with_slot_of l (slots_of_regs rs []) ++ ks
    by (loc.Slot k) e = ap (λ ns. k ∷ ns) e
    by (loc.Machine n) e = e
    by loc.Unset e = e

next_is : (k : ℕ) → suc k ≡ k + 1
next_is k = omega arith

pub gathered_first : (params regs : List Reg) (code : List Instr) (new items : List ℕ) → new ≡ [] → regs ≡ params → items ≡ new ++ slots_of_regs regs [] →
    items ++ slots_of_code (drop 0 code) ≡ slots_of_regs params (slots_of_code code)
gathered_first params regs code new items e u s =
    ap (λ xs. xs ++ slots_of_code (drop 0 code)) (s ∙ ap (λ xs. xs ++ slots_of_regs regs []) e ∙ ap (λ rs. slots_of_regs rs []) u)
    ∙ ap (λ is. slots_of_regs params [] ++ slots_of_code is) (drop_none code) ∙ sym (regs_append params (slots_of_code code))

pub gathered_step : (code items : List Instr) (k : ℕ) (i : Instr) (args results : List Reg) (xs ys zs every : List ℕ) → items ≡ code → k < length items → i ≡ get_or items k i →
    args ≡ i.args → results ≡ i.results → ys ≡ xs ++ slots_of_regs args [] → zs ≡ ys ++ slots_of_regs results [] → xs ++ slots_of_code (drop k code) ≡ every →
    zs ++ slots_of_code (drop (k + 1) code) ≡ every
gathered_step code items k i args results xs ys zs every same lt is a r e u inv =
    let rest : List ℕ = slots_of_code (drop (k + 1) code) in
    let step : drop k code ≡ i ∷ drop (k + 1) code = subst (λ is. drop k is ≡ i ∷ drop (k + 1) is) same (drop_step items k i lt is) in
    let unfolded : slots_of_code (drop k code) ≡ slots_of_regs i.args [] ++ (slots_of_regs i.results [] ++ rest) =
    ap slots_of_code step ∙ regs_append i.args (slots_of_regs i.results rest) ∙ ap (λ ns. slots_of_regs i.args [] ++ ns) (regs_append i.results rest) in
    ap (λ ns. ns ++ rest) (u ∙ ap (λ ns. ns ++ slots_of_regs results []) e ∙ ap (λ rs. (xs ++ slots_of_regs rs []) ++ slots_of_regs results []) a
    ∙ ap (λ rs. (xs ++ slots_of_regs i.args []) ++ slots_of_regs rs []) r)
    ∙ append_assoc (xs ++ slots_of_regs i.args []) (slots_of_regs i.results []) rest ∙ append_assoc xs (slots_of_regs i.args []) (slots_of_regs i.results [] ++ rest)
    ∙ ap (λ ns. xs ++ ns) (sym unfolded) ∙ inv

-- ---- flags

pub item_below : (ns : List ℕ) (k : ℕ) → k < length ns → get_or ns k 0 < limit_above ns
item_below [] k lt = absurd (omega (arith, lt))
item_below (n ∷ ns) zero lt = above_first n (limit_above ns)
item_below (n ∷ ns) (suc k) lt = above_later (get_or ns k 0) n (limit_above ns) (item_below ns k (omega (arith, lt)))

or_true : (t : Bool) → t || true ≡ true
or_true true = refl
or_true false = refl

pub flag_step : (fs : List Bool) (ns : List ℕ) (j : ℕ) → j < length ns → get_or ns j 0 < length fs → ((k : ℕ) → get_or fs k false || is_among_numbers k (drop j ns) ≡ is_among_numbers k ns) →
    (k : ℕ) → get_or (set fs (get_or ns j 0) true) k false || is_among_numbers k (drop (j + 1) ns) ≡ is_among_numbers k ns
flag_step fs ns j lt le h k = by (nat_eq s k) refl
  where
    s : ℕ
    s = get_or ns j 0

    step : drop j ns ≡ s ∷ drop (j + 1) ns
    step = drop-cons ns j 0 lt ∙ ap (λ n. s ∷ drop n ns) (next_is j)

    before : get_or fs k false || (nat_eq s k || is_among_numbers k (drop (j + 1) ns)) ≡ is_among_numbers k ns
    before = ap (λ xs. get_or fs k false || is_among_numbers k xs) (sym step) ∙ h k

    by : (t : Bool) → nat_eq s k ≡ t → get_or (set fs (get_or ns j 0) true) k false || is_among_numbers k (drop (j + 1) ns) ≡ is_among_numbers k ns
    by true e =
        let same : s ≡ k = eqb-true s k e in
        let here : get_or (set fs s true) k false ≡ true = subst (λ m. get_or (set fs s true) m false ≡ true) same (get_or-set_same fs s true false le) in
        ap (λ t. t || is_among_numbers k (drop (j + 1) ns)) here
        ∙ sym (sym before ∙ ap (λ t. get_or fs k false || (t || is_among_numbers k (drop (j + 1) ns))) e ∙ or_true (get_or fs k false))
    by false e =
        ap (λ t. t || is_among_numbers k (drop (j + 1) ns)) (get_or-set_other fs s k true false (λ u. true≢false (sym (eq-eqb s k (sym u)) ∙ e)))
        ∙ ap (λ t. get_or fs k false || (t || is_among_numbers k (drop (j + 1) ns))) (sym e) ∙ before
