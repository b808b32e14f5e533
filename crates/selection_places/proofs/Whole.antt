-- The registers of a selected function: a number identifies each, and it is its origin.
use Rattle.std.proofs.Common.{◌≡◌, ℕ, suc, ◌+◌, ◌<◌, ◌≤◌, ◌⊎◌, inl, inr, not, true, List, [], ◌∷◌, length, Option, Some, refl, sym, ap, ◌∙◌, subst, arith}
use Rattle.std.specs.Prelude.{Contains}
use Rattle.bs_words.specs.declared.types.Comp.TheVariants as comp
use Rattle.bs_words.specs.declared.types.Loc.TheVariants as loc
use Rattle.bs_words.specs.declared.types.Ty.{Ty}
use Rattle.cmm_tree.specs.Tree.{FunctionTree}
use Rattle.cmm_types.proofs.Containing.{contains_none, contains_cases, contains_head, contains_tail}
use Rattle.cmm_types.specs.Types.{body_type, result_of}
use Rattle.mach_ir.specs.Keeps.{OriginsAgree}
use Rattle.mach_ir.specs.Meaning.{Held, State}
use Rattle.mach_ir.specs.Placed.{colour_numbers}
use Rattle.mach_ir.specs.Walks.{AmongRegisters, InCode, in_args, in_results, further, IsRegister, is_param, is_colour, is_in_code}
use Rattle.mach_ir.specs.Walks as walks
use Rattle.mach_ir.specs.declared.mach.Instr.{Instr}
use Rattle.mach_ir.specs.declared.reg.Reg.{Reg}
use Rattle.selection_rules.specs.Select.{NamedRegister, selected, first_after_colours, params_from, with_params, is_no_value, fresh_register, seats, result_seat, colour_regs}
use Rattle.selection_laws.proofs.WellFormed.{NumbersTell}
use Rattle.selection_places.proofs.Sets.{Role, Plain, New, Seated, Both, left, right as in_right, One, it, Listed, Block, block_in, block_few, block_then, no_block}
use Rattle.selection_places.proofs.Owned.{Own, opens, own_block, params_block, seats_block, result_block, block_seated, fresh_block}
use Rattle.selection_places.proofs.Coded as coded
use Rattle.selection_places.proofs.Coded.{Member, later, Each, none, one, each_of, each_map, Reads, reads_plain, reads_new, ReadsSeats, reads, reads_seat, Gives, gives_none, gives_one, Coded, ends, plain, fills, empties, asks, handles, allocs}
use Rattle.selection_places.proofs.Codes.{onto, no_names, no_labels, codes_select, codes_entry, codes_returns, params_env, listed, wants_any}
use Rattle.selection_rules.proofs.Exits.{params_length}
use Rattle.selection_rules.proofs.Rows.{seats_length}

-- ---- the parts of a function

abbrev pub moved_at : FunctionTree → ℕ
moved_at f = first_after_colours + length f.params

-- the number of the register of its value
abbrev pub value_at : FunctionTree → ℕ
value_at f = moved_at f + length f.params

abbrev pub params_of : FunctionTree → List Reg
params_of f = params_from (moved_at f) f.params

abbrev pub env_of : FunctionTree → List NamedRegister
env_of f = with_params f.params (params_of f) []

-- all but those of the colours
abbrev pub Others : FunctionTree → Role → Reg → Type 0
Others f t r =
    Both (Listed Seated (seats 0 first_after_colours (params_of f)))
    (Both (Listed Plain (params_of f))
    (Both (One Plain (fresh_register (value_at f) (body_type f)))
    (Both (Listed Seated (result_seat (suc (value_at f)) (result_of (body_type f))))
    (Own (env_of f) (suc (suc (value_at f))) f.body)))) t r

abbrev pub Whole : FunctionTree → Role → Reg → Type 0
Whole f t r = Both (Listed Seated (colour_regs 0 colour_numbers)) (Others f) t r

colours_block : (n : ℕ) (cs : List ℕ) → ((c : ℕ) → Contains cs c → Contains colour_numbers c) → Block (Listed Seated (colour_regs n cs)) n (n + length cs) 0
colours_block n [] inside = block_in (no_block n) (omega arith)
colours_block n (c ∷ cs) inside =
    block_in
    (block_then (block_seated (record { number = n; comp = comp.Int; loc = loc.Machine c; origin = n }) refl
    (inr (record { colour = c; among = inside c (contains_head c cs); is = refl })))
    (colours_block (suc n) cs (λ k m. inside k (contains_tail c cs k m))) (omega arith) (omega arith))
    (omega arith)

-- how many registers of a function are open
abbrev pub opens_of : FunctionTree → ℕ
opens_of f = 0 + (length f.params + (1 + (0 + opens (env_of f) (suc (suc (value_at f))) f.body)))

pub others_block : (f : FunctionTree) → Block (Others f) first_after_colours (selected f).labels (opens_of f)
others_block f =
    let same = params_length (moved_at f) f.params in
    block_then (block_in (seats_block 0 first_after_colours (params_of f)) (omega (arith, same)))
    (block_then (params_block (moved_at f) f.params)
    (block_then (fresh_block (value_at f) (body_type f))
    (block_then (result_block (suc (value_at f)) (result_of (body_type f)))
    (own_block (env_of f) (suc (suc (value_at f))) f.body)
    (omega arith) (omega arith))
    (omega arith) (omega arith))
    (omega arith) (omega arith))
    (omega arith) (omega arith)

pub whole_block : (f : FunctionTree) → Block (Whole f) 0 (selected f).labels (opens_of f)
whole_block f = block_few (block_then (block_in (colours_block 0 colour_numbers (λ c m. m)) (omega arith)) (others_block f) (omega arith) (omega arith)) (omega arith)

-- the code has these roles among any that have those of all but the colours
coded_in : (f : FunctionTree) (Q : Role → Reg → Type 0) → ((t : Role) (r : Reg) → Others f t r → Q t r) →
    Coded Q (onto (seats 0 first_after_colours (params_of f)) []) [] (selected f).code
coded_in f Q own =
    let type : Ty = body_type f in
    let from = seats 0 first_after_colours (params_of f) in
    let from_fine = listed Q Seated from (λ t r i. own t r (left i)) in
    let to_fine = listed Q Plain (params_of f) (λ t r i. own t r (in_right (left i))) in
    let d = own Plain (fresh_register (value_at f) type) (in_right (in_right (left (it refl refl)))) in
    let gives = listed Q Seated (result_seat (suc (value_at f)) (result_of type)) (λ t r i. own t r (in_right (in_right (in_right (left i))))) in
    let env = env_of f in
    codes_entry Q from (params_of f) [] [] from_fine to_fine (seats_length 0 first_after_colours (params_of f)) _
    (codes_select Q env [] (not (is_no_value type)) true _ (suc (suc (value_at f))) f.body
    (λ t r i. own t r (in_right (in_right (in_right (in_right i)))))
    (params_env Q [] f.params (params_of f) to_fine no_names) no_labels (wants_any Q env f.body d) [] _
    (codes_returns Q (suc (value_at f)) (result_of type) d gives))

pub selected_coded : (f : FunctionTree) → Coded (Whole f) (onto (seats 0 first_after_colours (params_of f)) []) [] (selected f).code
selected_coded f = coded_in f (Whole f) (λ t r i. in_right i)

-- ---- each register has a role

pub data HasRole (Q : Role → Reg → Type 0) (r : Reg) : Type 0 where
  has : (t : Role) → Q t r → HasRole Q r

pub member_of : (rs : List Reg) (r : Reg) → Contains rs r → Member r rs
member_of [] r c = absurd (contains_none r c)
member_of (q ∷ rs) r c = by (contains_cases q rs r c) (member_of rs r)
  where
    by : (q ≡ r) ⊎ Contains rs r → (Contains rs r → Member r rs) → Member r (q ∷ rs)
    by (inl e) others = coded.first (sym e)
    by (inr m) others = later (others m)

module _ {Q : Role → Reg → Type 0} where
  reads_role : {P : List Reg} (r : Reg) → Reads Q P r → HasRole Q r
  reads_role r (reads_plain q) = has Plain q
  reads_role r (reads_new q m) = has New q

  seats_role : {P S : List Reg} (r : Reg) → ReadsSeats Q P S r → HasRole Q r
  seats_role r (reads x) = reads_role r x
  seats_role r (reads_seat q m) = has Seated q

  gives_role : {i : Instr} {G : List Reg} → Gives Q i G → Each (HasRole Q) i.results
  gives_role (gives_none e) = subst (Each (HasRole Q)) (sym e) none
  gives_role (gives_one e q) = subst (Each (HasRole Q)) (sym e) (one (has Seated q) none)

  among_each : {rs : List Reg} {r : Reg} → Each (HasRole Q) rs → Contains rs r → HasRole Q r
  among_each {rs} {r} each c = each_of each r (member_of rs r c)

  pub in_coded : {S P : List Reg} {code : List Instr} {r : Reg} → Coded Q S P code → InCode r code → HasRole Q r
  in_coded ends i = elim i [ ]
  in_coded (plain a q n x) (in_args c) = among_each (each_map reads_role a) c
  in_coded (plain a q n x) (in_results c) = among_each (each_map (λ r z. has Plain z) q) c
  in_coded (plain a q n x) (further i) = in_coded x i
  in_coded (fills {a = a} {d = d} x q u y) (in_args c) = among_each (one (reads_role a x) none) c
  in_coded (fills {a = a} {d = d} x q u y) (in_results c) = among_each (one (has Seated q) none) c
  in_coded (fills x q u y) (further i) = in_coded y i
  in_coded (empties q u x) (in_args c) = among_each (one (has Seated q) none) c
  in_coded (empties q u x) (in_results c) = among_each (one (has Plain u) none) c
  in_coded (empties q u x) (further i) = in_coded x i
  in_coded (asks a g h x) (in_args c) = among_each (each_map seats_role a) c
  in_coded (asks a g h x) (in_results c) = among_each (gives_role g) c
  in_coded (asks a g h x) (further i) = in_coded x i
  in_coded (handles q x) (in_args c) = among_each none c
  in_coded (handles q x) (in_results c) = among_each (one (has Seated q) none) c
  in_coded (handles q x) (further i) = in_coded x i
  in_coded (allocs q v x) (in_args c) = among_each none c
  in_coded (allocs q v x) (in_results c) = among_each (one (has New q) none) c
  in_coded (allocs q v x) (further i) = in_coded x i

pub listed_in : {Q : Role → Reg → Type 0} (u : Role) (rs : List Reg) → ((t : Role) (r : Reg) → Listed u rs t r → Q t r) → Each (HasRole Q) rs
listed_in u [] own = none
listed_in u (r ∷ rs) own = one (has u (own u r (left (it refl refl)))) (listed_in u rs (λ t q i. own t q (in_right i)))

pub has_role : (f : FunctionTree) (r : Reg) → IsRegister (selected f) r → HasRole (Whole f) r
has_role f r (is_param c) = each_of (listed_in Seated (seats 0 first_after_colours (params_of f)) (λ t r i. in_right (left i))) r (member_of _ r c)
has_role f r (is_colour c) = each_of (listed_in Seated (colour_regs 0 colour_numbers) (λ t r i. left i)) r (member_of _ r c)
has_role f r (is_in_code i) = in_coded (selected_coded f) i

-- ---- no instruction reads or writes a register of a colour

above_colours : (f : FunctionTree) (r : Reg) → HasRole (Others f) r → first_after_colours ≤ r.number
above_colours f r (has t x) = (others_block f).from t r x

below_colours : (n : ℕ) (cs : List ℕ) (k : ℕ) → AmongRegisters k (colour_regs n cs) → k < n + length cs
below_colours n [] k i = elim i [ ]
below_colours n (c ∷ cs) k (walks.first e) = omega (arith, e)
below_colours n (c ∷ cs) k (walks.later i) = let less = below_colours (suc n) cs k i in omega (arith, less)

pub colours_apart : (f : FunctionTree) (r : Reg) → InCode r (selected f).code → AmongRegisters r.number (selected f).colours → ⊥
colours_apart f r i a =
    let most = below_colours 0 colour_numbers r.number a in
    let least = above_colours f r (in_coded (coded_in f (Others f) (λ t q x. x)) i) in
    omega (arith, most, least)

tells : {Q : Role → Reg → Type 0} {lo hi k : ℕ} {r q : Reg} → Block Q lo hi k → HasRole Q r → HasRole Q q → r.number ≡ q.number → r ≡ q
tells {r = r} {q = q} b (has t x) (has u y) e = let both = b.tells t u r q x y e in both.1

-- Two registers of selected code with one number are one.
pub selected_numbers : (f : FunctionTree) → NumbersTell (selected f)
selected_numbers f r q x y e = tells (whole_block f) (has_role f r x) (has_role f q y) e

own_origin : {Q : Role → Reg → Type 0} {lo hi k : ℕ} {r : Reg} → Block Q lo hi k → HasRole Q r → r.origin ≡ r.number
own_origin {r = r} b (has t x) = b.origin t r x

-- Each register of selected code is made from no other.
pub selected_origin : (f : FunctionTree) (r : Reg) → IsRegister (selected f) r → r.origin ≡ r.number
selected_origin f r x = own_origin (whole_block f) (has_role f r x)

same_held : {o p : Option Held} {x y : Held} → o ≡ Some x → p ≡ Some y → o ≡ p → x.value ≡ y.value
same_held {x = x} {y = y} a b e = ap (λ (h : Held). h.value) (same x y (sym a ∙ e ∙ b))
  where
    same : (x y : Held) → Some x ≡ Some y → x ≡ y
    same x y e = cc

-- So registers of one origin never differ.
pub selected_origins : (f : FunctionTree) (just_written : List Reg) (s : State) → OriginsAgree (selected f) just_written s
selected_origins f just_written s =
    record {
      agree = λ r q x y e live_r live_q h k has_r has_q. same_held has_r has_q (ap s.file (sym (selected_origin f r x) ∙ e ∙ selected_origin f q y));
    }
