-- An allocation of selected code writes a register of its own, of component val.
use Rattle.std.proofs.Common.{◌≡◌, ℕ, ◌⊎◌, inl, inr, ⊎_elim, Bool, true, false, List, [], ◌∷◌, ◌++◌, refl, sym, ap, ◌∙◌, subst}
use Rattle.std.proofs.lemmas.Bool.{true≢false, eq-eqb}
use Rattle.std.specs.Prelude.{Contains}
use Rattle.bs_words.specs.declared.types.Comp.TheVariants as comp
use Rattle.cmm_tree.specs.Tree.{FunctionTree}
use Rattle.cmm_types.proofs.Containing.{contains_none, contains_cases}
use Rattle.mach_ir.specs.Meaning.{killed}
use Rattle.mach_ir.specs.Placed.{colour_numbers, IsFresh, AllocatesFresh}
use Rattle.mach_ir.specs.Walks.{AmongRegisters, first, later, Writes, IsRegister, StandsAsInstr, here, below}
use Rattle.mach_ir.specs.declared.blocks.NewBlock.{NewBlock}
use Rattle.mach_ir.specs.declared.mach.Instr.{Instr}
use Rattle.mach_ir.specs.declared.mach.MachOp.{MachOp}
use Rattle.mach_ir.specs.declared.mach.MachOp.TheVariants as mach
use Rattle.mach_ir.specs.declared.op.Access.TheVariants as access
use Rattle.mach_ir.specs.declared.op.Op.TheVariants as op
use Rattle.mach_ir.specs.declared.reg.Reg.{Reg}
use Rattle.selection_rules.specs.Instructions as emit
use Rattle.selection_rules.specs.Select.{selected, colour_regs, seats}
use Rattle.selection_rules.specs.Select as rules
use Rattle.selection_places.proofs.Sets.{Role, Plain, New, Seated, Block, left, right as in_right, it, Listed}
use Rattle.selection_places.proofs.Coded as coded
use Rattle.selection_places.proofs.Coded.{Member, Each, none, one, each_of, each_map, is_heavy, Reads, reads_plain, reads_new, ReadsSeats, reads, reads_seat, Gives, gives_none, gives_one, Coded, ends, plain, fills, empties, asks, handles, allocs}
use Rattle.selection_rules.proofs.Once.{is_alloc, makes, NoMark, Distinct, nil, cons, selected_makes_once}
use Rattle.selection_rules.proofs.Once as numbers
use Rattle.selection_places.proofs.Placed.{new_open}
use Rattle.selection_places.proofs.Soon.{found, among_cases, killed_member}
use Rattle.selection_places.proofs.Whole.{Whole, whole_block, params_of, HasRole, has, has_role, member_of, selected_coded, selected_origin}

-- ---- one allocation for each register

no_mark_at : {l : ℕ} {i : Instr} {next code : List Instr} → NoMark makes l code → StandsAsInstr i next code → makes l i ≡ true → ⊥
no_mark_at numbers.none s e = elim s [ ]
no_mark_at (numbers.one free n) here e = true≢false (sym e ∙ free)
no_mark_at (numbers.one free n) (below s) e = no_mark_at n s e

distinct_at : {l : ℕ} {i : Instr} {next code : List Instr} → Distinct makes code → StandsAsInstr i next code → makes l i ≡ true → NoMark makes l next
distinct_at nil s e = elim s [ ]
distinct_at {l} (cons apart d) here e = apart l e
distinct_at (cons apart d) (below s) e = distinct_at d s e

one_place : (l : ℕ) {i j : Instr} {next others code : List Instr} → Distinct makes code → StandsAsInstr i next code → StandsAsInstr j others code → makes l i ≡ true →
    makes l j ≡ true → others ≡ next
one_place l nil s t e g = elim s [ ]
one_place l (cons apart d) here here e g = refl
one_place l (cons apart d) here (below t) e g = absurd (no_mark_at (apart l e) t g)
one_place l (cons apart d) (below s) here e g = absurd (no_mark_at (apart l g) s e)
one_place l (cons apart d) (below s) (below t) e g = one_place l d s t e g

-- ---- roles by numbers

abbrev is_new : Role → Bool
is_new Plain = false
is_new New = true
is_new Seated = false

heavy_alloc : (f : MachOp) → is_heavy f ≡ true → is_alloc f ≡ false
heavy_alloc (mach.Op (op.Pure f)) e = refl
heavy_alloc (mach.Op (op.Access f)) e = absurd (true≢false (sym e))
heavy_alloc (mach.Op (op.Calling f)) e = refl
heavy_alloc (mach.Op (op.Leaving f)) e = refl
heavy_alloc (mach.Mark f) e = refl

data AllocOf (Q : Role → Reg → Type 0) : Instr → Type 0 where
  alloc_of : {block : NewBlock} {p : Reg} → Q New p → p.comp ≡ comp.Val → AllocOf Q (emit.alloc block p)

alloc_at : {Q : Role → Reg → Type 0} {S P : List Reg} {code : List Instr} {i : Instr} {next : List Instr} → Coded Q S P code → StandsAsInstr i next code →
    is_alloc i.op ≡ true → AllocOf Q i
alloc_at ends s e = elim s [ ]
alloc_at (plain a u n x) here e = absurd (true≢false (sym e ∙ n))
alloc_at (plain a u n x) (below s) e = alloc_at x s e
alloc_at (fills a u v x) here e = absurd (true≢false (sym e))
alloc_at (fills a u v x) (below s) e = alloc_at x s e
alloc_at (empties u v x) here e = absurd (true≢false (sym e))
alloc_at (empties u v x) (below s) e = alloc_at x s e
alloc_at (asks {i = i} a g h x) here e = absurd (true≢false (sym e ∙ heavy_alloc i.op h))
alloc_at (asks a g h x) (below s) e = alloc_at x s e
alloc_at (handles u x) here e = absurd (true≢false (sym e))
alloc_at (handles u x) (below s) e = alloc_at x s e
alloc_at (allocs u v x) here e = alloc_of u v
alloc_at (allocs u v x) (below s) e = alloc_at x s e

module _ (Q : Role → Reg → Type 0) (lo hi k : ℕ) (tells : Block Q lo hi k) (r : Reg) (new : Q New r) where
  not_role : (t : Role) (q : Reg) → Q t q → q.number ≡ r.number → is_new t ≡ true
  not_role t q x e = let both = tells.tells t New q r x new e in ap is_new both.0

  same : (t : Role) (q : Reg) → Q t q → q.number ≡ r.number → q ≡ r
  same t q x e = let both = tells.tells t New q r x new e in both.1

  no_plain : (q : Reg) → Q Plain q → q.number ≡ r.number → ⊥
  no_plain q x e = true≢false (sym (not_role Plain q x e))

  no_seat : (q : Reg) → Q Seated q → q.number ≡ r.number → ⊥
  no_seat q x e = true≢false (sym (not_role Seated q x e))

  -- none of these has its number
  none_among : {rs : List Reg} → Each (λ q. q.number ≡ r.number → ⊥) rs → AmongRegisters r.number rs → ⊥
  none_among each a = let f = found a in each_of each f.reg f.member f.same

  gives_none_of : {i : Instr} {G : List Reg} → Gives Q i G → AmongRegisters r.number i.results → ⊥
  gives_none_of (gives_none e) a = elim (subst (λ rs. AmongRegisters r.number rs) e a) [ ]
  gives_none_of (gives_one {y = y} e u) a = none_among (one (no_seat y u) none) (subst (λ rs. AmongRegisters r.number rs) e a)

  -- what writes it allocates it
  pub allocates : {S P : List Reg} {code : List Instr} {j : Instr} {others : List Instr} → Coded Q S P code → StandsAsInstr j others code →
      AmongRegisters r.number j.results → makes r.number j ≡ true
  allocates ends s a = elim s [ ]
  allocates (plain b u n x) here a = absurd (none_among (each_map no_plain u) a)
  allocates (plain b u n x) (below s) a = allocates x s a
  allocates (fills {d = d} b u v x) here a = absurd (none_among (one (no_seat d u) none) a)
  allocates (fills b u v x) (below s) a = allocates x s a
  allocates (empties {d = d} u v x) here a = absurd (none_among (one (no_plain d v) none) a)
  allocates (empties u v x) (below s) a = allocates x s a
  allocates (asks b g h x) here a = absurd (gives_none_of g a)
  allocates (asks b g h x) (below s) a = allocates x s a
  allocates (handles {y = y} u x) here a = absurd (none_among (one (no_seat y u) none) a)
  allocates (handles u x) (below s) a = allocates x s a
  allocates (allocs {p = p} u v x) here (first e) = eq-eqb p.number r.number e
  allocates (allocs u v x) here (later a) = elim a [ ]
  allocates (allocs u v x) (below s) a = allocates x s a

  -- an allocation of it, before this instruction
  pub record Before (j : Instr) (rest code : List Instr) : Type 0 where
    pub instr : Instr
    pub next : List Instr
    pub stands : StandsAsInstr instr next code
    pub allocated : makes r.number instr ≡ true
    pub further : StandsAsInstr j rest next

  one_more : {i j : Instr} {rest code : List Instr} {P : List Reg} → Member r P ⊎ Before j rest code → Member r P ⊎ Before j rest (i ∷ code)
  one_more (inl m) = inl m
  one_more (inr b) = inr (record { instr = b.instr; next = b.next; stands = below b.stands; allocated = b.allocated; further = b.further })

  read_of : {P : List Reg} (q : Reg) → Reads Q P q → q.number ≡ r.number → Member r P
  read_of q (reads_plain x) e = absurd (no_plain q x e)
  read_of {P} q (reads_new x m) e = subst (λ z. Member z P) (same New q x e) m

  seat_of : {P S : List Reg} (q : Reg) → ReadsSeats Q P S q → q.number ≡ r.number → Member r P
  seat_of q (reads x) e = read_of q x e
  seat_of q (reads_seat x m) e = absurd (no_seat q x e)

  read_among : {P rs : List Reg} → Each (λ q. q.number ≡ r.number → Member r P) rs → AmongRegisters r.number rs → Member r P
  read_among each a = let f = found a in each_of each f.reg f.member f.same

  -- where it is read it was allocated before
  pub allocated : {S P : List Reg} {code : List Instr} {j : Instr} {rest : List Instr} → Coded Q S P code → StandsAsInstr j rest code → AmongRegisters r.number j.args →
      Member r P ⊎ Before j rest code
  allocated ends s a = elim s [ ]
  allocated (plain b u n x) here a = inl (read_among (each_map read_of b) a)
  allocated (plain b u n x) (below s) a = one_more (allocated x s a)
  allocated (fills {a = c} b u v x) here a = inl (read_among (one (read_of c b) none) a)
  allocated (fills b u v x) (below s) a = one_more (allocated x s a)
  allocated (empties {s = c} u v x) here a = absurd (none_among (one (no_seat c u) none) a)
  allocated (empties u v x) (below s) a = one_more (allocated x s a)
  allocated (asks b g h x) here a = inl (read_among (each_map seat_of b) a)
  allocated (asks b g h x) (below s) a = one_more (allocated x s a)
  allocated (handles u x) here a = elim a [ ]
  allocated (handles u x) (below s) a = one_more (allocated x s a)
  allocated (allocs u v x) here a = elim a [ ]
  allocated {P = P} {j = j} {rest = rest} (allocs {p = p} {block = block} {next = next} u v x) (below s) a = by (allocated x s a)
    where
      by : Member r (p ∷ P) ⊎ Before j rest next → Member r P ⊎ Before j rest (emit.alloc block p ∷ next)
      by (inl (coded.first e)) = inr (record {
        instr = emit.alloc block p;
        next = next;
        stands = here;
        allocated = eq-eqb p.number r.number
            (ap (λ (z : Reg). z.number) (sym e));
        further = s;
      })
      by (inl (coded.later m)) = inl m
      by (inr b) = one_more (inr b)

stands_within : {i : Instr} {next : List Instr} (run : List Instr) → StandsAsInstr i next (run ++ i ∷ next)
stands_within [] = here
stands_within (x ∷ run) = below (stands_within run)

stands_in : (run : List Instr) {i j : Instr} {next code : List Instr} → StandsAsInstr j (run ++ i ∷ next) code → StandsAsInstr i next code
stands_in run here = below (stands_within run)
stands_in run (below s) = below (stands_in run s)

data HasSeat (Q : Role → Reg → Type 0) (r : Reg) : Type 0 where
  a_seat : Q Seated r → HasSeat Q r

listed_seats : {Q : Role → Reg → Type 0} (rs : List Reg) → ((r : Reg) → Listed Seated rs Seated r → Q Seated r) → Each (HasSeat Q) rs
listed_seats [] own = none
listed_seats (r ∷ rs) own = one (a_seat (own r (left (it refl refl)))) (listed_seats rs (λ q i. own q (in_right i)))

module _ (f : FunctionTree) (i : Instr) (next : List Instr) (s : StandsAsInstr i next (selected f).code) (p : Reg) (new : Whole f New p)
    (made : makes p.number i ≡ true) where
  no_seated : (q : Reg) → HasSeat (Whole f) q → q.number ≡ p.number → ⊥
  no_seated q (a_seat u) e = no_seat (Whole f) _ _ _ (whole_block f) p new q u e

  written_once : (j : Instr) (others : List Instr) → StandsAsInstr j others (selected f).code → Writes (selected f) j p.number → others ≡ next
  written_once j others t w =
      ⊎_elim (λ a. one_place p.number (selected_makes_once f) s t made (allocates (Whole f) _ _ _ (whole_block f) p new (selected_coded f) t a))
      (λ a. absurd (not_killed a))
      (among_cases j.results (killed (selected f) j) w)
    where
      not_killed : AmongRegisters p.number (killed (selected f) j) → ⊥
      not_killed a =
          let g = found a in
          let c = killed_member (selected f).colours j g.member in
          no_seated g.reg (each_of (listed_seats (colour_regs 0 colour_numbers) (λ r i. left i)) g.reg c) g.same

  not_param : AmongRegisters p.number (selected f).params → ⊥
  not_param a = let g = found a in no_seated g.reg (each_of (listed_seats (seats 0 rules.first_after_colours (params_of f)) (λ r i. in_right (left i))) g.reg g.member) g.same

  own_one : (q : Reg) → IsRegister (selected f) q → q.origin ≡ p.origin → q ≡ p
  own_one q x e = by_role (has_role f q x)
    where
      number : q.number ≡ p.number
      number = sym (selected_origin f q x) ∙ e ∙ (whole_block f).origin New p new

      by_role : HasRole (Whole f) q → q ≡ p
      by_role (has t u) = same (Whole f) _ _ _ (whole_block f) p new t q u number

  not_read : (j : Instr) (run : List Instr) → StandsAsInstr j (run ++ i ∷ next) (selected f).code → AmongRegisters p.number j.args → ⊥
  not_read j run t a = by (allocated (Whole f) _ _ _ (whole_block f) p new (selected_coded f) t a)
    where
      by : Member p [] ⊎ Before (Whole f) _ _ _ (whole_block f) p new j (run ++ i ∷ next) (selected f).code → ⊥
      by (inl m) = elim m [ ]
      by (inr b) = no_mark_at (distinct_at (selected_makes_once f) b.stands b.allocated) (stands_in run b.further) made

  fresh_new : IsFresh (selected f) i next p
  fresh_new = record {
    open_place = new_open f p new;
    once = written_once;
    no_param = not_param;
    own = own_one;
    unread =
        λ j run t straight a. not_read j run t a;
  }

-- An allocation writes a register that is open, written nowhere else, of its own origin, and not read before.
pub selected_allocates : (f : FunctionTree) → AllocatesFresh (selected f)
selected_allocates f = record {
  fresh = λ i next s blocks e r c. by i next s (alloc_at (selected_coded f) s (subst (λ o. is_alloc o ≡ true) (sym e) refl)) r
      (member_of i.results r c);
}
  where
    by : (i : Instr) (next : List Instr) → StandsAsInstr i next (selected f).code → AllocOf (Whole f) i → (r : Reg) → Member r i.results → IsFresh
        (selected f) i next r
    by i next s (alloc_of {block = block} {p = p} new val) r (coded.first e) =
        subst (λ z. IsFresh (selected f) i next z) (sym e) (fresh_new f i next s p new (eq-eqb p.number p.number refl))
    by i next s (alloc_of new val) r (coded.later m) = elim m [ ]

-- ---- its component

data Somewhere (i : Instr) (code : List Instr) : Type 0 where
  somewhere : {next : List Instr} → StandsAsInstr i next code → Somewhere i code

somewhere_in : (code : List Instr) (i : Instr) → Contains code i → Somewhere i code
somewhere_in [] i c = absurd (contains_none i c)
somewhere_in (j ∷ next) i c = by (contains_cases j next i c) (somewhere_in next i)
  where
    further : Somewhere i next → Somewhere i (j ∷ next)
    further (somewhere s) = somewhere (below s)

    by : (j ≡ i) ⊎ Contains next i → (Contains next i → Somewhere i next) → Somewhere i (j ∷ next)
    by (inl e) others = subst (λ (k : Instr). Somewhere k (j ∷ next)) e (somewhere here)
    by (inr m) others = further (others m)

-- What an allocation writes is of component val.
pub selected_starts : (f : FunctionTree) (i : Instr) (blocks : List NewBlock) → Contains (selected f).code i →
    i.op ≡ mach.Op (op.Access (access.Alloc blocks)) → (r : Reg) → Contains i.results r → r.comp ≡ comp.Val
selected_starts f i blocks c e r x = at (somewhere_in (selected f).code i c)
  where
    by : {k : Instr} → AllocOf (Whole f) k → Member r k.results → r.comp ≡ comp.Val
    by (alloc_of {p = p} new val) (coded.first g) = ap (λ (z : Reg). z.comp) g ∙ val
    by (alloc_of new val) (coded.later m) = elim m [ ]

    at : Somewhere i (selected f).code → r.comp ≡ comp.Val
    at (somewhere s) = by (alloc_at (selected_coded f) s (subst (λ o. is_alloc o ≡ true) (sym e) refl)) (member_of i.results r x)
