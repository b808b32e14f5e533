-- Where a register with a fixed place is live in selected code: from the moves that fill such places on to what reads them.
use Rattle.std.proofs.Common.{◌≡◌, ℕ, ◌⊎◌, inl, inr, ⊎_elim, Bool, true, false, cond, not, ◌&&◌, ◌||◌, List, [], ◌∷◌, ◌++◌, refl, sym, ap, ◌∙◌, subst}
use Rattle.std.specs.Prelude.{◌≢◌, Contains}
use Rattle.std.proofs.lemmas.Bool.{true≢false, eq-eqb, and_parts, not-true}
use Rattle.bs_words.specs.declared.types.Loc.{Loc}
use Rattle.bs_words.specs.declared.types.Loc.TheVariants as loc
use Rattle.cmm_types.proofs.Containing.{contains_head, contains_tail}
use Rattle.mach_ir.specs.Acts.{On, At}
use Rattle.mach_ir.specs.Meaning.{Destroyed, Nothing, Temporaries, Everything, is_destroyed, same_colour, is_at_one_of, killed_among, killed_by, killed, destroyed_by, has_label, is_handler_of, after_label, from_handler}
use Rattle.mach_ir.specs.Walks.{AmongRegisters, first, later, WalkStep, goes, raises, Live, read, on, aside, LiveAfter, after_step, Writes, IsRegister, is_colour, is_in_code, StandsAsInstr}
use Rattle.mach_ir.specs.declared.mach.Instr.{Instr}
use Rattle.mach_ir.specs.declared.mach.Mach.{Mach}
use Rattle.mach_ir.specs.declared.mach.MachOp.{MachOp}
use Rattle.mach_ir.specs.declared.mach.MachOp.TheVariants as mach
use Rattle.mach_ir.specs.declared.op.Op.TheVariants as op
use Rattle.mach_ir.specs.declared.reg.Reg.{Reg}
use Rattle.selection_rules.specs.Instructions as emit
use Rattle.selection_laws.proofs.WellFormed.{NumbersTell}
use Rattle.selection_places.proofs.Sets.{Role, Plain, New, IsColour}
use Rattle.selection_places.proofs.Coded as coded
use Rattle.selection_places.proofs.Coded.{Member, Each, each_of, is_heavy, Apart, Reads, reads_plain, reads_new, ReadsSeats, reads, reads_seat, Gives, gives_none, gives_one, Coded, ends, plain, fills, empties, asks, handles, allocs}
use Rattle.mach_laws.specs.Expand.{Ending, all, more}
use Rattle.mach_laws.proofs.Places.{ending_next, ending_of, ending_handler, stands_of, args_in, results_in}
use Rattle.mach_laws.proofs.Walking.{ending_leads}

-- ---- where labels and handlers are

-- the code after a label is none, or that after a mark with it
data Labelled (l : ℕ) (code : List Instr) : List Instr → Type 0 where
  no_place : Labelled l code []
  place : {i : Instr} {next : List Instr} → has_label l i.op ≡ true → Ending (i ∷ next) code → Labelled l code next

labelled : (l : ℕ) (code : List Instr) → Labelled l code (after_label l code)
labelled l [] = no_place
labelled l (i ∷ is) = by (has_label l i.op) refl (labelled l is)
  where
    further' : {rest : List Instr} → Labelled l is rest → Labelled l (i ∷ is) rest
    further' no_place = no_place
    further' (place e s) = place e (more s)

    by : (b : Bool) → has_label l i.op ≡ b → Labelled l is (after_label l is) → Labelled l (i ∷ is) (cond b is (after_label l is))
    by true e others = place e all
    by false e others = further' others

data Handled (l : ℕ) (code : List Instr) : List Instr → Type 0 where
  no_handler : Handled l code []
  handler : {i : Instr} {next : List Instr} → is_handler_of l i.op ≡ true → Ending (i ∷ next) code → Handled l code (i ∷ next)

handled : (l : ℕ) (code : List Instr) → Handled l code (from_handler l code)
handled l [] = no_handler
handled l (i ∷ is) = by (is_handler_of l i.op) refl (handled l is)
  where
    further' : {rest : List Instr} → Handled l is rest → Handled l (i ∷ is) rest
    further' no_handler = no_handler
    further' (handler e s) = handler e (more s)

    by : (b : Bool) → is_handler_of l i.op ≡ b → Handled l is (from_handler l is) → Handled l (i ∷ is) (cond b (i ∷ is) (from_handler l is))
    by true e others = handler e all
    by false e others = further' others

label_ending : {l : ℕ} {code rest : List Instr} → Labelled l code rest → Ending rest code
label_ending {code = code} no_place = ending_handler [] code
label_ending (place e s) = ending_next s

handler_ending : {l : ℕ} {code rest : List Instr} → Handled l code rest → Ending rest code
handler_ending {code = code} no_handler = ending_handler [] code
handler_ending (handler e s) = s

-- ---- soon

abbrev pub is_pure : MachOp → Bool
is_pure (mach.Op (op.Pure f)) = true
is_pure _ = false

-- what reads registers alone reads this one before it writes it, up to the first other instruction, which may read it, too
pub data Soon (q : Reg) : List Instr → Type 0 where
  reads_now : {i : Instr} {next : List Instr} → Member q i.args → Soon q (i ∷ next)
  past : {i : Instr} {next : List Instr} → is_pure i.op ≡ true → (AmongRegisters q.number i.results → ⊥) → Soon q next → Soon q (i ∷ next)

-- of an instruction after which a register is read soon
pub data Fine (q : Reg) (i : Instr) : Type 0 where
  straight : is_pure i.op ≡ true → ((r : Reg) → Member r i.results → r.loc ≡ q.loc → r ≡ q) → Fine q i
  given : is_pure i.op ≡ false → ((l : ℕ) → has_label l i.op ≡ false) → i.results ≡ q ∷ [] → Fine q i

pure_label : (f : MachOp) → is_pure f ≡ true → (l : ℕ) → has_label l f ≡ false
pure_label (mach.Op f) e l = refl
pure_label (mach.Mark f) e l = absurd (true≢false (sym e))

heavy_label : (f : MachOp) → is_heavy f ≡ true → (l : ℕ) → has_label l f ≡ false
heavy_label (mach.Op f) e l = refl
heavy_label (mach.Mark f) e l = absurd (true≢false (sym e))

heavy_pure : (f : MachOp) → is_heavy f ≡ true → is_pure f ≡ false
heavy_pure (mach.Op (op.Pure f)) e = absurd (true≢false (sym e))
heavy_pure (mach.Op (op.Access f)) e = refl
heavy_pure (mach.Op (op.Calling f)) e = refl
heavy_pure (mach.Op (op.Leaving f)) e = refl
heavy_pure (mach.Mark f) e = refl

same_number : {q d : Reg} → q ≡ d → AmongRegisters q.number (d ∷ [])
same_number e = first (ap (λ (z : Reg). z.number) (sym e))

module _ (Q : Role → Reg → Type 0) (open_plain : (r : Reg) → Q Plain r → r.loc ≡ loc.Unset) (open_new : (r : Reg) → Q New r → r.loc ≡ loc.Unset) (q : Reg)
    (fixed : q.loc ≢ loc.Unset) where
  open_read : {P : List Reg} → Reads Q P q → ⊥
  open_read (reads_plain p) = fixed (open_plain q p)
  open_read (reads_new p m) = fixed (open_new q p)

  -- a register with a fixed place that is read soon is one of the seats that may be
  pub soon_in : {S P : List Reg} {code : List Instr} → Coded Q S P code → Soon q code → Member q S
  soon_in ends s = elim s [ ]
  soon_in (plain a u n x) (reads_now m) = absurd (open_read (each_of a q m))
  soon_in (plain a u n x) (past p w s) = soon_in x s
  soon_in (fills a u v x) (reads_now (coded.first e)) = absurd (open_read (subst (Reads Q _) (sym e) a))
  soon_in (fills a u v x) (reads_now (coded.later m)) = elim m [ ]
  soon_in {S} (fills {d = d} a u v x) (past p w s) = by (soon_in x s)
    where
      by : Member q (d ∷ S) → Member q S
      by (coded.first e) = absurd (w (same_number e))
      by (coded.later m) = m
  soon_in (empties u v x) (reads_now (coded.first e)) = coded.first e
  soon_in (empties u v x) (reads_now (coded.later m)) = elim m [ ]
  soon_in (empties u v x) (past p w s) = coded.later (soon_in x s)
  soon_in {S} {P} (asks a g h x) (reads_now m) = by (each_of a q m)
    where
      by : ReadsSeats Q P S q → Member q S
      by (reads r) = absurd (open_read r)
      by (reads_seat u m) = m
  soon_in (asks {i = i} a g h x) (past p w s) = absurd (true≢false (sym p ∙ heavy_pure i.op h))
  soon_in (handles u x) (reads_now m) = elim m [ ]
  soon_in (handles u x) (past p w s) = absurd (true≢false (sym p))
  soon_in (allocs u v x) (reads_now m) = elim m [ ]
  soon_in (allocs u v x) (past p w s) = absurd (true≢false (sym p))

  fine_fill : {S : List Reg} {a d : Reg} → Each (Apart d) S → Member q (d ∷ S) → Fine q (emit.move a d)
  fine_fill {d = d} v (coded.first e) = straight refl (λ r m z. by r m)
    where
      by : (r : Reg) → Member r (d ∷ []) → r ≡ q
      by r (coded.first g) = g ∙ sym e
      by r (coded.later m) = elim m [ ]
  fine_fill {d = d} v (coded.later m) = straight refl by
    where
      by : (r : Reg) → Member r (d ∷ []) → r.loc ≡ q.loc → r ≡ q
      by r (coded.first g) z =
          let same = sym z ∙ ap (λ (y : Reg). y.loc) g in
          absurd (fixed (same ∙ each_of v q m same))
      by r (coded.later m) z = elim m [ ]

  fine_empty : {a d : Reg} → Q Plain d → Fine q (emit.move a d)
  fine_empty {d = d} u = straight refl by
    where
      by : (r : Reg) → Member r (d ∷ []) → r.loc ≡ q.loc → r ≡ q
      by r (coded.first g) z = absurd (fixed (sym z ∙ ap (λ (y : Reg). y.loc) g ∙ open_plain d u))
      by r (coded.later m) z = elim m [ ]

  fine_given : {i : Instr} {G : List Reg} → is_heavy i.op ≡ true → Gives Q i G → Member q G → Fine q i
  fine_given {i} h (gives_none e) m = elim m [ ]
  fine_given {i} h (gives_one e u) (coded.first g) = given (heavy_pure i.op h) (heavy_label i.op h) (subst (λ (z : Reg). i.results ≡ z ∷ []) (sym g) e)
  fine_given {i} h (gives_one e u) (coded.later m) = elim m [ ]

  fine_handler : {l : ℕ} {y : Reg} → Member q (y ∷ []) → Fine q (emit.handler l y)
  fine_handler {l} {y} (coded.first g) = given refl (λ k. refl) (ap (λ (z : Reg). z ∷ []) (sym g))
  fine_handler (coded.later m) = elim m [ ]

  pub fine_in : {S P : List Reg} {code : List Instr} {i : Instr} {next : List Instr} → Coded Q S P code → Ending (i ∷ next) code → Soon q next → Fine q i
  fine_in ends w s = elim w [ ]
  fine_in (plain a u n x) all s = absurd (elim (soon_in x s) [ ])
  fine_in (plain a u n x) (more w) s = fine_in x w s
  fine_in (fills a u v x) all s = fine_fill v (soon_in x s)
  fine_in (fills a u v x) (more w) s = fine_in x w s
  fine_in (empties u v x) all s = fine_empty v
  fine_in (empties u v x) (more w) s = fine_in x w s
  fine_in (asks a g h x) all s = fine_given h g (soon_in x s)
  fine_in (asks a g h x) (more w) s = fine_in x w s
  fine_in (handles u x) all s = fine_handler (soon_in x s)
  fine_in (handles u x) (more w) s = fine_in x w s
  fine_in (allocs u v x) all s = absurd (elim (soon_in x s) [ ])
  fine_in (allocs u v x) (more w) s = fine_in x w s

  heavy_handler : (f : MachOp) → is_heavy f ≡ true → (l : ℕ) → is_handler_of l f ≡ false
  heavy_handler (mach.Op f) e l = refl
  heavy_handler (mach.Mark f) e l = absurd (true≢false (sym e))

  pub not_at_handler : {S P : List Reg} {code : List Instr} {i : Instr} {next : List Instr} (l : ℕ) → Coded Q S P code → Ending (i ∷ next) code →
      is_handler_of l i.op ≡ true → Soon q (i ∷ next) → ⊥
  not_at_handler l ends w e s = elim w [ ]
  not_at_handler l (plain a u n x) all e s = elim (soon_in (plain a u n x) s) [ ]
  not_at_handler l (plain a u n x) (more w) e s = not_at_handler l x w e s
  not_at_handler l (fills a u v x) all e s = true≢false (sym e)
  not_at_handler l (fills a u v x) (more w) e s = not_at_handler l x w e s
  not_at_handler l (empties u v x) all e s = true≢false (sym e)
  not_at_handler l (empties u v x) (more w) e s = not_at_handler l x w e s
  not_at_handler l (asks {i = i} a g h x) all e s = true≢false (sym e ∙ heavy_handler i.op h l)
  not_at_handler l (asks a g h x) (more w) e s = not_at_handler l x w e s
  not_at_handler l (handles u x) all e s = elim (soon_in (handles u x) s) [ ]
  not_at_handler l (handles u x) (more w) e s = not_at_handler l x w e s
  not_at_handler l (allocs u v x) all e s = elim (soon_in (allocs u v x) s) [ ]
  not_at_handler l (allocs u v x) (more w) e s = not_at_handler l x w e s

-- ---- registers by their numbers

pub record Found (n : ℕ) (rs : List Reg) : Type 0 where
  pub reg : Reg
  pub member : Member reg rs
  pub same : reg.number ≡ n

pub found : {n : ℕ} {rs : List Reg} → AmongRegisters n rs → Found n rs
found (first {r = r} e) = record { reg = r; member = coded.first refl; same = e }
found (later a) = let f = found a in record { reg = f.reg; member = coded.later f.member; same = f.same }

pub contains_of : {r : Reg} {rs : List Reg} → Member r rs → Contains rs r
contains_of {r} (coded.first {q = q} {qs = qs} e) = subst (λ z. Contains (q ∷ qs) z) (sym e) (contains_head q qs)
contains_of {r} (coded.later {q = q} {qs = qs} m) = contains_tail q qs r (contains_of m)

among_left : {n : ℕ} {xs : List Reg} (ys : List Reg) → AmongRegisters n xs → AmongRegisters n (xs ++ ys)
among_left ys (first e) = first e
among_left ys (later a) = later (among_left ys a)

pub among_cases : {n : ℕ} (xs ys : List Reg) → AmongRegisters n (xs ++ ys) → AmongRegisters n xs ⊎ AmongRegisters n ys
among_cases [] ys a = inr a
among_cases (x ∷ xs) ys (first e) = inl (first e)
among_cases (x ∷ xs) ys (later a) = ⊎_elim (λ z. inl (later z)) (λ z. inr z) (among_cases xs ys a)

-- ---- what is killed

pure_kills : (f : MachOp) (rs results : List Reg) → is_pure f ≡ true → killed_by rs (destroyed_by f) results ≡ []
pure_kills (mach.Op (op.Pure f)) rs results e = refl
pure_kills (mach.Op (op.Access f)) rs results e = absurd (true≢false (sym e))
pure_kills (mach.Op (op.Calling f)) rs results e = absurd (true≢false (sym e))
pure_kills (mach.Op (op.Leaving f)) rs results e = absurd (true≢false (sym e))
pure_kills (mach.Mark f) rs results e = absurd (true≢false (sym e))

-- a register that is killed is one of those, and is where no result is
record Killed (r : Reg) (rs results : List Reg) : Type 0 where
  among : Member r rs
  elsewhere : is_at_one_of r.loc results ≡ false

killed_here : {r : Reg} (rs : List Reg) (d : Destroyed) (results : List Reg) → Member r (killed_among rs d results) → Killed r rs results
killed_here [] d results m = elim m [ ]
killed_here {r} (s ∷ rs) d results m = by (is_destroyed d s.loc && not (is_at_one_of s.loc results)) refl (killed_here rs d results) m
  where
    more : Killed r rs results → Killed r (s ∷ rs) results
    more k = record { among = coded.later k.among; elsewhere = k.elsewhere }

    by : (b : Bool) → (is_destroyed d s.loc && not (is_at_one_of s.loc results)) ≡ b → (Member r (killed_among rs d results) → Killed r rs results) →
        Member r (cond b (s ∷ killed_among rs d results) (killed_among rs d results)) → Killed r (s ∷ rs) results
    by true e others (coded.first same) =
        record {
          among = coded.first same;
          elsewhere = subst (λ (z : Reg). is_at_one_of z.loc results ≡ false) (sym same)
              (not-true (is_at_one_of s.loc results) (and_parts (is_destroyed d s.loc) (not (is_at_one_of s.loc results)) e).1);
        }
    by true e others (coded.later m) = more (others m)
    by false e others m = more (others m)

killed_from : {r : Reg} (rs : List Reg) (d : Destroyed) (results : List Reg) → Member r (killed_by rs d results) → Killed r rs results
killed_from rs Nothing results m = elim m [ ]
killed_from rs Temporaries results m = killed_here rs Temporaries results m
killed_from rs Everything results m = killed_here rs Everything results m

-- a register that an instruction kills is that of a colour
pub killed_member : {r : Reg} (rs : List Reg) (i : Instr) → Member r (killed_by rs (destroyed_by i.op) i.results) → Member r rs
killed_member rs i m = let k = killed_from rs (destroyed_by i.op) i.results m in k.among

-- ---- liveness

module _ (Q : Role → Reg → Type 0) (open_plain : (r : Reg) → Q Plain r → r.loc ≡ loc.Unset) (open_new : (r : Reg) → Q New r → r.loc ≡ loc.Unset) (m : Mach)
    (numbers : NumbersTell m) (S : List Reg) (is : Coded Q S [] m.code)
    (q : Reg) (among : IsRegister m q) (fixed : q.loc ≢ loc.Unset) where
  fine : {i : Instr} {next : List Instr} → Ending (i ∷ next) m.code → Soon q next → Fine q i
  fine w s = fine_in Q open_plain open_new q fixed is w s

  not_labelled : (l : ℕ) {rest : List Instr} → Labelled l m.code rest → Soon q rest → ⊥
  not_labelled l no_place s = elim s [ ]
  not_labelled l (place {i = i} e w) s = by (fine w s)
    where
      by : Fine q i → ⊥
      by (straight p apart) = true≢false (sym e ∙ pure_label i.op p l)
      by (given p no_label g) = true≢false (sym e ∙ no_label l)

  not_handled : (l : ℕ) {rest : List Instr} → Handled l m.code rest → Soon q rest → ⊥
  not_handled l no_handler s = elim s [ ]
  not_handled l (handler e w) s = not_at_handler Q open_plain open_new q fixed l is w e s

  -- a register with a fixed place is live only where it is read soon
  pub live_soon : {n : ℕ} {rest : List Instr} → q.number ≡ n → Live m n rest → Ending rest m.code → Soon q rest
  live_soon e (read {i = i} a) w =
      let f = found a in
      reads_now (subst (λ z. Member z i.args) (numbers f.reg q (is_in_code (args_in (stands_of w) (contains_of f.member))) among (f.same ∙ sym e)) f.member)
  live_soon {n} e (on {i = i} {next = next} unwritten (goes On o) live) w = by (live_soon e live (ending_next w))
    where
      by : Soon q next → Soon q (i ∷ next)
      by s = by' (fine w s)
        where
          by' : Fine q i → Soon q (i ∷ next)
          by' (straight p apart) = past p (λ a. unwritten (among_left (killed m i) (subst (λ z. AmongRegisters z i.results) e a))) s
          by' (given p no_label g) = absurd (unwritten (among_left (killed m i) (subst (λ rs. AmongRegisters n rs) (sym g) (first e))))
  live_soon e (on unwritten (goes (At l) o) live) w = absurd (not_labelled l (labelled l m.code) (live_soon e live (label_ending (labelled l m.code))))
  live_soon e (aside (raises {l = l} b t) live) w = absurd (not_handled l (handled l m.code) (live_soon e live (handler_ending (handled l m.code))))

  -- where a write goes on to a place before which it is read soon, it goes on after the instruction
  goes_on : {i : Instr} {next to : List Instr} → WalkStep m i next to → Soon q to → Soon q next
  goes_on (goes On o) s = s
  goes_on (goes (At l) o) s = absurd (not_labelled l (labelled l m.code) s)

  colour_same : {l k : Loc} → IsColour l → k ≡ l → same_colour k l ≡ true
  colour_same {l} {k} c e = subst (λ z. same_colour k z ≡ true) e (subst (λ z. same_colour z z ≡ true) (sym (e ∙ c.is)) (eq-eqb c.colour c.colour refl))

  -- what is written where it is live is elsewhere
  module _ (colour : IsColour q.loc) (r : Reg) (other : IsRegister m r) (apart : r.number ≢ q.number) (same : r.loc ≡ q.loc) where
    is_other : (s : Reg) → IsRegister m s → s.number ≡ r.number → s ≡ r
    is_other s x e = numbers s r x other e

    result_fine : {i : Instr} {next : List Instr} → Ending (i ∷ next) m.code → Fine q i → AmongRegisters r.number i.results → ⊥
    result_fine {i} w (straight p stands) a =
        let f = found a in
        let is_r = is_other f.reg (is_in_code (results_in (stands_of w) (contains_of f.member))) f.same in
        apart (sym f.same ∙ ap (λ (z : Reg). z.number) (stands f.reg f.member (ap (λ (z : Reg). z.loc) is_r ∙ same)))
    result_fine {i} w (given p no_label g) a = by (subst (λ rs. AmongRegisters r.number rs) g a)
      where
        by : AmongRegisters r.number (q ∷ []) → ⊥
        by (first e) = apart (sym e)
        by (later b) = elim b [ ]

    killed_fine : {i : Instr} → Fine q i → AmongRegisters r.number (killed m i) → ⊥
    killed_fine {i} (straight p stands) a = elim (subst (λ rs. AmongRegisters r.number rs) (pure_kills i.op m.colours i.results p) a) [ ]
    killed_fine {i} (given p no_label g) a =
        let f = found a in
        let k = killed_from m.colours (destroyed_by i.op) i.results f.member in
        let is_r = is_other f.reg (is_colour (contains_of k.among)) f.same in
        let there = subst (λ rs. is_at_one_of f.reg.loc rs ≡ false) g k.elsewhere in
        true≢false (sym (ap (λ b. b || false) (colour_same colour (ap (λ (z : Reg). z.loc) is_r ∙ same))) ∙ there)

    pub written_fine : (i : Instr) (next : List Instr) → StandsAsInstr i next m.code → Writes m i r.number → LiveAfter m q.number i next → ⊥
    written_fine i next stands w (after_step leads live) =
        let there = ending_of stands in
        let f = fine there (goes_on leads (live_soon refl live (ending_leads leads there))) in
        ⊎_elim (λ a. result_fine there f a) (λ a. killed_fine f a) (among_cases i.results (killed m i) w)
