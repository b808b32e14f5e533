-- Rows of operands: some wait until the others have been evaluated.
use Rattle.std.proofs.Common.{◌≡◌, ℕ, suc, ◌+◌, ◌<◌, ◌≤◌, Bool, true, false, not, ◌⊎◌, inl, ⊎_elim, List, [], ◌∷◌, Option, Some, None, map, length, refl, sym, ap, ◌∙◌, subst, arith, le_refl, ◌^◌}
use Rattle.bs_words.specs.Fits.{fits, type_of_comp}
use Rattle.bs_words.specs.Memory.{Memory}
use Rattle.bs_words.specs.declared.values.Value.{Value}
use Rattle.cmm_tree.specs.Tree.{Expression, Expressions, NoMore, More}
use Rattle.cmm_types.specs.Light.{is_light_address}
use Rattle.cmm_types.specs.Types.{type_of}
use Rattle.cmm_meaning.specs.State.{Here, scope}
use Rattle.meaning_laws.specs.Does.{Leaves, Giving, Does}
use Rattle.meaning_laws.specs.Interaction.{onward, unless_light, does, waiting, filled}
use Rattle.mach_ir.specs.declared.reg.Reg.{Reg}
use Rattle.mach_ir.specs.declared.mach.Instr.{Instr}
use Rattle.mach_ir.specs.declared.mach.Mach.{Mach}
use Rattle.mach_ir.specs.Runs.{ActivationSetting, Continues}
use Rattle.mach_ir.specs.Meaning.{File, assign_register, values, with_held}
use Rattle.selection_rules.specs.Select.{NamedRegister, Label, scopes, fresh_register, width, regs_of, seat, seats, only_when, select, select_waiting, select_filled, width_row, result_seat}
use Rattle.cmm_tree.specs.Measures.{count_of}
use Rattle.selection_rules.specs.Follow.{FollowsText}
use Rattle.selection_rules.proofs.Files.{Holds, put_same, holds_put, holds_survives, Survives, Under, under_more, named_under, Stands, scope_is}
use Rattle.selection_rules.proofs.Parts.{Placed, placed_in, AllUnder, no_reg, a_reg, Lower, lower_more, Stable, stable_inner, stable_same, May, new, dest, name, at, Level, Outs}
use Rattle.selection_rules.proofs.Operands.{Selected, operand, ready_at, own_fits}
use Rattle.selection_rules.proofs.Endings.{ending_waiting, ending_filled}
use Rattle.meaning_laws.specs.Interaction as part
use Rattle.selection_rules.specs.Follow.{text_setting}
use Rattle.cmm_types.specs.Faults.{row_length}
use Rattle.bs_words.specs.declared.types.Ret.{Ret}
use Rattle.bs_words.specs.declared.types.Ret.TheVariants as ret

-- values in registers, which they fit, where they do not wait
pub data Row (end : ℕ) (f : File) : List Reg → List (Option Value) → Type 0 where
  none : Row end f [] []
  late : {r : Reg} {rs : List Reg} {vs : List (Option Value)} → Row end f rs vs → Row end f (r ∷ rs) (None ∷ vs)
  early : {r : Reg} {v : Value} {rs : List Reg} {vs : List (Option Value)} → fits end (type_of_comp r.comp) v ≡ true → Holds r v f → Row end f rs vs → Row end f (r ∷ rs) (Some v ∷ vs)

-- the values of registers that are read
pub row_values : {end : ℕ} {f : File} {rs : List Reg} (vs : List Value) → Row end f rs (map Some vs) → values f rs ≡ Some vs
row_values [] none = refl
row_values {f = f} (v ∷ vs) (early {r = r} {rs = rs} fv h row) = ap (λ o. with_held o (values f rs)) h.is ∙ ap (with_held (Some (record { comp = r.comp; value = v }))) (row_values vs row)

-- registers from `b` up to below `i`
pub data Between (b i : ℕ) : List Reg → Type 0 where
  none : Between b i []
  one : {r : Reg} {rs : List Reg} → b ≤ r.number → r.number < i → Between b i rs → Between b i (r ∷ rs)

pub between_less : {b i : ℕ} {rs : List Reg} (n : ℕ) → n ≤ b → Between b i rs → Between n i rs
between_less n le none = none
between_less n le (one a z q) = one (omega (arith, le, a)) z (between_less n le q)

pub count_width : (es : Expressions) → count_of es ≤ width_row es
count_width NoMore = omega arith
count_width (More e rest) = let le = count_width rest in omega (arith, le)

-- ---- registers in the order of their numbers

pub data Rising : ℕ → List Reg → Type 0 where
  none : {n : ℕ} → Rising n []
  one : {n : ℕ} {r : Reg} {rs : List Reg} → r.number ≡ n → Rising (suc n) rs → Rising n (r ∷ rs)

pub between_rising : {n : ℕ} {rs : List Reg} (i : ℕ) → Rising n rs → n + length rs ≤ i → Between n i rs
between_rising i none le = none
between_rising {n} i (one e rising) le = one (omega (arith, e)) (omega (arith, e, le)) (between_less n (omega arith) (between_rising i rising (omega (arith, le))))

pub rising_regs : (env : List NamedRegister) (b : ℕ) (es : Expressions) → Rising b (regs_of env b es)
rising_regs env b NoMore = none
rising_regs env b (More e rest) = one refl (rising_regs env (suc b) rest)

pub regs_length : (env : List NamedRegister) (b : ℕ) (es : Expressions) → length (regs_of env b es) ≡ count_of es
regs_length env b NoMore = refl
regs_length env b (More e rest) = ap suc (regs_length env (suc b) rest)

pub row_count : (es : Expressions) → row_length es ≡ count_of es
row_count NoMore = refl
row_count (More e rest) = let others = row_count rest in omega (arith, others)

pub few_regs : (env : List NamedRegister) (b : ℕ) (es : Expressions) → row_length es ≤ 16 → length (regs_of env b es) ≤ 16
few_regs env b es few = let count = row_count es in let long = regs_length env b es in omega (arith, few, count, long)

pub between_regs : (env : List NamedRegister) (b i : ℕ) (es : Expressions) → b + count_of es ≤ i → Between b i (regs_of env b es)
between_regs env b i es le = let long = regs_length env b es in between_rising i (rising_regs env b es) (omega (arith, long, le))

pub rising_seats : (i n : ℕ) (rs : List Reg) → Rising n (seats i n rs)
rising_seats i n [] = none
rising_seats i n (r ∷ rs) = one refl (rising_seats (suc i) (suc n) rs)

pub seats_length : (i n : ℕ) (rs : List Reg) → length (seats i n rs) ≡ length rs
seats_length i n [] = refl
seats_length i n (r ∷ rs) = ap suc (seats_length (suc i) (suc n) rs)

pub result_few : (n : ℕ) (result : Ret) → length (result_seat n result) ≤ 1
result_few n ret.Unit = omega arith
result_few n (ret.Comp c) = omega arith

-- ---- writes

pub row_put : {end b i : ℕ} {f : File} {rs : List Reg} {vs : List (Option Value)} (q : Reg) (v : Value) → ((n : ℕ) → b ≤ n → n < i → q.number ≡ n → ⊥) → Between b i rs → Row end f rs vs → Row end (assign_register q v f) rs vs
row_put q v apart none none = none
row_put q v apart (one a z l) (late row) = late (row_put q v apart l row)
row_put q v apart (one {r = r} a z l) (early fv h row) = early fv (holds_put q v (apart r.number a z) h) (row_put q v apart l row)

pub row_survives : {end b i : ℕ} {f g : File} {rs : List Reg} {vs : List (Option Value)} → 21 ≤ b → Between b i rs → Survives f g → Row end f rs vs → Row end g rs vs
row_survives first none s none = none
row_survives first (one a z l) s (late row) = late (row_survives first l s row)
row_survives first (one a z l) s (early fv h row) = early fv (holds_survives (omega (arith, first, a)) s h) (row_survives first l s row)

pub record WithRow (end : ℕ) (P : File → Type 0) (rs : List Reg) (vs : List (Option Value)) (f : File) : Type 0 where
  pub rest : P f
  pub row : Row end f rs vs

pub stable_row : {end : ℕ} {env : List NamedRegister} {b d i : ℕ} {P : File → Type 0} {rs : List Reg} (vs : List (Option Value)) → 21 ≤ b → Between b i rs → ((n : ℕ) → b ≤ n → n < i → d ≡ n → ⊥) → Under b env →
    Stable env i d P → Stable env i d (WithRow end P rs vs)
stable_row {end} {env} {b} {d} {i} vs first l apart under s =
    record {
      puts = λ r v f may p. record { rest = s.puts r v f may p.rest; row = row_put r v (by r.number may) l p.row };
      calls = λ f g w p. record { rest = s.calls f g w p.rest; row = row_survives first l w p.row };
    }
  where
    by : (q : ℕ) → May env i d q → (n : ℕ) → b ≤ n → n < i → q ≡ n → ⊥
    by q (new le) n low high same = omega (arith, le, high, same)
    by q (dest e) n low high same = apart n low high (sym e ∙ same)
    by q (name x) n low high same = let small = named_under under x in omega (arith, small, low, same)

-- ---- values moved from registers to others

-- all values fit, and are written
pub data PutAll (end : ℕ) : List Reg → List Value → File → File → Type 0 where
  nil : {f : File} → PutAll end [] [] f f
  cons : {r : Reg} {v : Value} {rs : List Reg} {vs : List Value} {f g : File} → fits end (type_of_comp r.comp) v ≡ true → PutAll end rs vs f g → PutAll end (r ∷ rs) (v ∷ vs) f (assign_register r v g)

pub row_put_all : {end : ℕ} {n : ℕ} {rs : List Reg} {vs : List Value} {f g : File} → Rising n rs → PutAll end rs vs f g → Row end g rs (map Some vs)
row_put_all none nil = none
row_put_all {n = n} (one {rs = rs} same rising) (cons {r = r} {v = v} {g = g} e q) =
    early e (put_same r v g) (row_put r v (λ x low high z. omega (arith, low, z, same)) (between_rising (suc n + length rs) rising (le_refl (suc n + length rs))) (row_put_all rising q))

-- the values of a row fit its seats
pub put_seats : {end : ℕ} {f : File} {rs : List Reg} (vs : List Value) → Row end f rs (map Some vs) → (i n : ℕ) (f' : File) → (g : File) × PutAll end (seats i n rs) vs f' g
put_seats [] none i n f' = (f', nil)
put_seats (v ∷ vs) (early {r = r} fv h row) i n f' =
    let more = put_seats vs row (suc i) (suc n) f' in (assign_register (seat i n r.comp) v more.0, cons fv more.1)

-- a register that is none of these
pub data Off (n : ℕ) : List Reg → Type 0 where
  none : Off n []
  one : {r : Reg} {rs : List Reg} → (r.number ≡ n → ⊥) → Off n rs → Off n (r ∷ rs)

pub data AllOff (to : List Reg) : List Reg → Type 0 where
  none : AllOff to []
  one : {r : Reg} {rs : List Reg} → Off r.number to → AllOff to rs → AllOff to (r ∷ rs)

off_between : {b i n : ℕ} {rs : List Reg} → Between b i rs → (n < b) ⊎ (i ≤ n) → Off n rs
off_between none apart = none
off_between (one a z l) apart = one (λ same. ⊎_elim (λ low. omega (arith, a, same, low)) (λ high. omega (arith, z, same, high)) apart) (off_between l apart)

-- all of these come before, or after, all of those
pub off_before : {b i j k : ℕ} {from to : List Reg} → Between b i from → Between j k to → i ≤ j → AllOff to from
off_before none l le = none
off_before (one a z q) l le = one (off_between l (inl (omega (arith, z, le)))) (off_before q l le)

pub off_after : {b i k : ℕ} {from to : List Reg} → Between b i from → AllUnder k to → k ≤ b → AllOff to from
off_after none u le = none
off_after {b} {k = k} (one {r = r} a z q) u le = one (off_under u) (off_after q u le)
  where
    off_under : {to : List Reg} → AllUnder k to → Off r.number to
    off_under no_reg = none
    off_under (a_reg less u) = one (λ same. omega (arith, less, same, a, le)) (off_under u)

pub off_rest : {d : Reg} {to rs : List Reg} → AllOff (d ∷ to) rs → AllOff to rs
off_rest none = none
off_rest (one (one apart o) all) = one o (off_rest all)

pub off_first : {d : Reg} {to rs : List Reg} {a : Reg} → AllOff (d ∷ to) (a ∷ rs) → Off a.number to
off_first (one (one apart o) all) = o

pub holds_put_all : {end : ℕ} {q : Reg} {u : Value} {rs : List Reg} {vs : List Value} {f g : File} → Off q.number rs → PutAll end rs vs f g → Holds q u f → Holds q u g
holds_put_all none nil h = h
holds_put_all (one apart o) (cons {r = r} {v = v} e p) h = holds_put r v apart (holds_put_all o p h)

-- the light addresses are those that wait
pub data Matches (env : List NamedRegister) : Expressions → List (Option Value) → Type 0 where
  none : Matches env NoMore []
  late : {e : Expression} {rest : Expressions} {vs : List (Option Value)} → is_light_address (scopes env) e ≡ true → Matches env rest vs → Matches env (More e rest) (None ∷ vs)
  early : {e : Expression} {rest : Expressions} {v : Value} {vs : List (Option Value)} → is_light_address (scopes env) e ≡ false → Matches env rest vs → Matches env (More e rest) (Some v ∷ vs)

module _ (c : ActivationSetting) (m : Mach) (turns : ℕ) (ts : List ℕ) where
  pub outs_row : {A : Type 0} {env : List NamedRegister} {labels : List Label} {P : File → Type 0} {k : Leaves A → Does} (rs : List Reg) (vs : List (Option Value)) →
      Outs c m turns ts env labels P k → Outs c m turns ts env labels (WithRow c.setting.end P rs vs) k
  outs_row rs vs o = record { exit = λ l values h f memory level r p. o.exit l values h f memory level r p.rest; raising = λ v fv h f memory level r p. o.raising v fv h f memory level r p.rest }

  abbrev pub SelectedWaiting : Expressions → Type 1
  SelectedWaiting es =
      (env : List NamedRegister) (labels : List Label) (b i : ℕ) (next : List Instr) (P : File → Type 0) (k : Leaves (List (Option Value)) → Does) →
      width_row es < 2 ^ 60 → Lower b labels → Under b env → 21 ≤ b → Stable env b b P → b + count_of es ≤ i → Placed m ts (select_waiting env labels b i es next) →
      Outs c m turns ts env labels P k → (h : Here) (f : File) (memory : Memory) → Level c m turns ts h → Stands env h.names f → P f →
      ((vs : List (Option Value)) (h : Here) (f : File) (memory : Memory) → Level c m turns ts h → Stands env h.names f → P f → Row c.setting.end f (regs_of env b es) vs → Matches env es vs →
      FollowsText c m (k (Giving vs h memory)) (Continues (at c m turns ts next f memory))) →
      FollowsText c m (waiting (text_setting c) turns es h memory k) (Continues (at c m turns ts (select_waiting env labels b i es next) f memory))

  pub waiting_none : SelectedWaiting NoMore
  waiting_none env labels b i next P k fine lower under first stable le ending outs h f memory level s p on = on [] h f memory level s p none none

  module _ (e : Expression) (rest : Expressions) (env : List NamedRegister) (labels : List Label) (b i : ℕ) (next : List Instr) (P : File → Type 0) (k : Leaves (List (Option Value)) → Does) where
    abbrev code_when : Bool → List Instr
    code_when light = only_when (not light) (select env labels false false (fresh_register b (type_of (scopes env) e)) i e) next

    waiting_by : (light : Bool) → is_light_address (scopes env) e ≡ light → Selected c m turns ts e → width e < 2 ^ 60 → Lower b labels → Under b env → 21 ≤ b → Stable env b b P → suc (b + count_of rest) ≤ i →
        Placed m ts (code_when light) → Outs c m turns ts env labels P k → (vs : List (Option Value)) (h : Here) (f : File) (memory : Memory) → Level c m turns ts h → Stands env h.names f → P f → Row c.setting.end f (regs_of env (suc b) rest) vs → Matches env rest vs →
        ((vs : List (Option Value)) (h : Here) (f : File) (memory : Memory) → Level c m turns ts h → Stands env h.names f → P f → Row c.setting.end f (regs_of env b (More e rest)) vs → Matches env (More e rest) vs →
        FollowsText c m (k (Giving vs h memory)) (Continues (at c m turns ts next f memory))) →
        FollowsText c m (unless_light light (does (text_setting c) turns e false) h memory (λ v h memory. part.gives (v ∷ vs) h memory) k) (Continues (at c m turns ts (code_when light) f memory))
    waiting_by true is se few lower under first stable le ending outs vs h f memory level s p row matches on = on (None ∷ vs) h f memory level s p (late row) (late is matches)
    waiting_by false is se few lower under first stable le ending outs vs h f memory level s p row matches on =
        operand c m turns ts {P = WithRow c.setting.end P (regs_of env (suc b) rest) vs} e se few b i next (λ v h memory. part.gives (Some v ∷ vs) h memory) k
        (ready_at c m turns ts (type_of (scopes env) e) b i lower under first (le_refl b) (omega (arith, le)))
        (stable_row vs (omega (arith, first)) (between_regs env (suc b) i rest (omega (arith, le))) (λ n low high same. omega (arith, low, same)) (under_more (suc b) (omega arith) under) (stable_same i (omega (arith, le)) stable))
        ending (outs_row (regs_of env (suc b) rest) vs outs) h f memory level s (record { rest = p; row = row })
        (λ v h f memory level s p fv hv. on (Some v ∷ vs) h f memory level s p.rest (early (own_fits c m turns ts (type_of (scopes env) e) v fv) hv p.row) (early is matches))

    pub waiting_more : Selected c m turns ts e → SelectedWaiting rest →
        width_row (More e rest) < 2 ^ 60 → Lower b labels → Under b env → 21 ≤ b → Stable env b b P → b + count_of (More e rest) ≤ i → Placed m ts (select_waiting env labels b i (More e rest) next) →
        Outs c m turns ts env labels P k → (h : Here) (f : File) (memory : Memory) → Level c m turns ts h → Stands env h.names f → P f →
        ((vs : List (Option Value)) (h : Here) (f : File) (memory : Memory) → Level c m turns ts h → Stands env h.names f → P f → Row c.setting.end f (regs_of env b (More e rest)) vs → Matches env (More e rest) vs →
        FollowsText c m (k (Giving vs h memory)) (Continues (at c m turns ts next f memory))) →
        FollowsText c m (waiting (text_setting c) turns (More e rest) h memory k) (Continues (at c m turns ts (select_waiting env labels b i (More e rest) next) f memory))
    waiting_more se sr fine lower under first stable le ending outs h f memory level s p on =
        sr env labels (suc b) (i + width e) (code_when (is_light_address (scopes env) e)) P
        (λ l. onward (λ vs h memory. unless_light (is_light_address (scope h) e) (does (text_setting c) turns e false) h memory (λ v h memory. part.gives (v ∷ vs) h memory)) l k)
        (omega (arith, fine)) (lower_more (suc b) (omega arith) lower) (under_more (suc b) (omega arith) under) (omega (arith, first)) (stable_inner (suc b) (suc b) (omega arith) (omega arith) stable) (omega (arith, le)) ending
        (record { exit = λ l values h f memory level r p. outs.exit l values h f memory level r p; raising = λ v fv h f memory level r p. outs.raising v fv h f memory level r p }) h f memory level s p
        (λ vs h f memory level s p row matches.
        subst (λ sc. FollowsText c m (unless_light (is_light_address sc e) (does (text_setting c) turns e false) h memory (λ v h memory. part.gives (v ∷ vs) h memory) k)
        (Continues (at c m turns ts (code_when (is_light_address (scopes env) e)) f memory))) (sym (scope_is s))
        (waiting_by (is_light_address (scopes env) e) refl se (omega (arith, fine)) lower under first stable (omega (arith, le))
        (placed_in (ending_waiting env labels (suc b) (i + width e) rest (code_when (is_light_address (scopes env) e))) ending) outs vs h f memory level s p row matches on))

  -- ---- and those that have waited

  abbrev pub SelectedFilled : Expressions → Type 1
  SelectedFilled es =
      (env : List NamedRegister) (labels : List Label) (b i : ℕ) (next : List Instr) (P : File → Type 0) (k : Leaves (List Value) → Does) (before : List (Option Value)) →
      width_row es < 2 ^ 60 → Lower b labels → Under b env → 21 ≤ b → Stable env b b P → b + count_of es ≤ i → Placed m ts (select_filled env labels b i es next) →
      Outs c m turns ts env labels P k → (h : Here) (f : File) (memory : Memory) → Level c m turns ts h → Stands env h.names f → P f → Row c.setting.end f (regs_of env b es) before → Matches env es before →
      ((vs : List Value) (h : Here) (f : File) (memory : Memory) → Level c m turns ts h → Stands env h.names f → P f → Row c.setting.end f (regs_of env b es) (map Some vs) →
      FollowsText c m (k (Giving vs h memory)) (Continues (at c m turns ts next f memory))) →
      FollowsText c m (filled (text_setting c) turns es before h memory k) (Continues (at c m turns ts (select_filled env labels b i es next) f memory))

  pub filled_none : SelectedFilled NoMore
  filled_none env labels b i next P k before fine lower under first stable le ending outs h f memory level s p row matches on = on [] h f memory level s p none

  module _ (e : Expression) (rest : Expressions) (env : List NamedRegister) (labels : List Label) (b i : ℕ) (next : List Instr) (P : File → Type 0) (k : Leaves (List Value) → Does) where
    abbrev filled_code : Bool → List Instr
    filled_code light = only_when light (select env labels false false (fresh_register b (type_of (scopes env) e)) i e) next

    abbrev r : Reg
    r = fresh_register b (type_of (scopes env) e)

    pub filled_more : Selected c m turns ts e → SelectedFilled rest → (before : List (Option Value)) →
        width_row (More e rest) < 2 ^ 60 → Lower b labels → Under b env → 21 ≤ b → Stable env b b P → b + count_of (More e rest) ≤ i → Placed m ts (select_filled env labels b i (More e rest) next) →
        Outs c m turns ts env labels P k → (h : Here) (f : File) (memory : Memory) → Level c m turns ts h → Stands env h.names f → P f → Row c.setting.end f (regs_of env b (More e rest)) before → Matches env (More e rest) before →
        ((vs : List Value) (h : Here) (f : File) (memory : Memory) → Level c m turns ts h → Stands env h.names f → P f → Row c.setting.end f (regs_of env b (More e rest)) (map Some vs) →
        FollowsText c m (k (Giving vs h memory)) (Continues (at c m turns ts next f memory))) →
        FollowsText c m (filled (text_setting c) turns (More e rest) before h memory k) (Continues (at c m turns ts (select_filled env labels b i (More e rest) next) f memory))
    filled_more se sr before fine lower under first stable le ending outs h f memory level s p row matches on = by before row matches
      where
        inner_ending : Placed m ts (filled_code (is_light_address (scopes env) e))
        inner_ending = placed_in (ending_filled env labels (suc b) (i + width e) rest (filled_code (is_light_address (scopes env) e))) ending

        outer : {Q : File → Type 0} (g : List Value → Here → Memory → part.Part (List Value)) → Outs c m turns ts env labels Q k → Outs c m turns ts env labels Q (λ l. onward g l k)
        outer g o = record { exit = λ l values h f memory level r p. o.exit l values h f memory level r p; raising = λ v fv h f memory level r p. o.raising v fv h f memory level r p }

        by : (before : List (Option Value)) → Row c.setting.end f (regs_of env b (More e rest)) before → Matches env (More e rest) before →
            FollowsText c m (filled (text_setting c) turns (More e rest) before h memory k) (Continues (at c m turns ts (select_filled env labels b i (More e rest) next) f memory))
        by bs (late row) (late is matches) =
            sr env labels (suc b) (i + width e) (filled_code (is_light_address (scopes env) e)) P
            (λ l. onward (λ vs h memory. part.with_value (does (text_setting c) turns e false h memory) (λ v h memory. part.gives (v ∷ vs) h memory)) l k) _
            (omega (arith, fine)) (lower_more (suc b) (omega arith) lower) (under_more (suc b) (omega arith) under) (omega (arith, first)) (stable_inner (suc b) (suc b) (omega arith) (omega arith) stable) (omega (arith, le)) ending
            (outer _ outs) h f memory level s p row matches
            (λ vs h f memory level s p row.
            subst (λ light. FollowsText c m (part.with_value (does (text_setting c) turns e false h memory) (λ v h memory. part.gives (v ∷ vs) h memory) k) (Continues (at c m turns ts (filled_code light) f memory))) (sym is)
            (operand c m turns ts {P = WithRow c.setting.end P (regs_of env (suc b) rest) (map Some vs)} e se (omega (arith, fine)) b i next (λ v h memory. part.gives (v ∷ vs) h memory) k
            (ready_at c m turns ts (type_of (scopes env) e) b i lower under first (le_refl b) (omega (arith, le)))
            (stable_row (map Some vs) (omega (arith, first)) (between_regs env (suc b) i rest (omega (arith, le))) (λ n low high same. omega (arith, low, same)) (under_more (suc b) (omega arith) under) (stable_same i (omega (arith, le)) stable))
            (subst (λ light. Placed m ts (filled_code light)) is inner_ending) (outs_row (regs_of env (suc b) rest) (map Some vs) outs) h f memory level s (record { rest = p; row = row })
            (λ v h f memory level s p fv hv. on (v ∷ vs) h f memory level s p.rest (early (own_fits c m turns ts (type_of (scopes env) e) v fv) hv p.row))))
        by bs (early {v = v} fv hv row) (early is matches) =
            sr env labels (suc b) (i + width e) (filled_code (is_light_address (scopes env) e)) (WithRow c.setting.end P (r ∷ []) (Some v ∷ []))
            (λ l. onward (λ vs h memory. part.gives (v ∷ vs) h memory) l k) _
            (omega (arith, fine)) (lower_more (suc b) (omega arith) lower) (under_more (suc b) (omega arith) under) (omega (arith, first))
            (stable_row (Some v ∷ []) first (one (le_refl b) (omega arith) none) (λ n low high same. omega (arith, high, same)) under (stable_inner (suc b) (suc b) (omega arith) (omega arith) stable)) (omega (arith, le)) ending
            (outer _ (outs_row (r ∷ []) (Some v ∷ []) outs)) h f memory level s (record { rest = p; row = early fv hv none }) row matches
            (λ vs h f memory level s p row.
            subst (λ light. FollowsText c m (part.gives (v ∷ vs) h memory k) (Continues (at c m turns ts (filled_code light) f memory))) (sym is)
            (on (v ∷ vs) h f memory level s p.rest (early fv (first_holds p.row) row)))
          where
            first_holds : {f : File} → Row c.setting.end f (r ∷ []) (Some v ∷ []) → Holds r v f
            first_holds (early e h none) = h
