-- Rows of operands, and what takes them: calls, blocks and exits.
use Rattle.std.proofs.Common.{◌≡◌, ℕ, zero, suc, ◌+◌, ◌≤◌, Bool, true, false, cond, not, List, [], ◌∷◌, ◌++◌, Option, Some, None, refl, sym, ap, ◌∙◌, subst, arith}
use Rattle.std.proofs.lemmas.Bool.{true≢false}
use Rattle.bs_words.specs.declared.types.Comp.{Comp}
use Rattle.bs_words.specs.declared.types.Ret.{Ret}
use Rattle.bs_words.specs.declared.types.Ret.TheVariants as ret
use Rattle.bs_words.specs.declared.types.Ty.TheVariants as ty
use Rattle.bs_fault.specs.Reported.{Faultless}
use Rattle.cmm_tree.specs.Symbols.{DefinedSymbol}
use Rattle.cmm_tree.specs.Measures.{count_of}
use Rattle.cmm_tree.specs.Tree.{Expression, Symbol, Expressions, More}
use Rattle.cmm_types.specs.Light.{is_light_address}
use Rattle.cmm_types.specs.Types.{Scoped, type_of}
use Rattle.cmm_types.specs.Standing.{Visible}
use Rattle.cmm_types.specs.Gathered.{faults_in, row_faults}
use Rattle.cmm_types.specs.declared.role.Role.{Role}
use Rattle.walk_tables.specs.Walks.{Passes, Task, Does, MayRaise, Slotted, operand_uses, operand, tasks_of, all_operands, call_tasks, behind_raise}
use Rattle.walk_tables.specs.Walks as walk
use Rattle.mach_ir.specs.Meaning.{passes_frame}
use Rattle.mach_ir.specs.Walks.{AmongRegisters, first, later, may_raise}
use Rattle.mach_ir.specs.declared.mach.Instr.{Instr}
use Rattle.mach_ir.specs.declared.mach.Mach.{Mach}
use Rattle.mach_ir.specs.declared.reg.Reg.{Reg}
use Rattle.selection_rules.specs.Instructions as emit
use Rattle.selection_rules.specs.Select.{NamedRegister, Label, scopes, fresh_register, only_when, unless_symbol, called_symbol, callee_regs, regs_of, width, seat, seats, result_seat, from_seat, moves_all, call_of, select, select_waiting, select_filled, Code}
use Rattle.selection_laws.proofs.Accepting.{left, right}
use Rattle.selection_laws.specs.Fits.{Fits, RowFits}
use Rattle.selection_walks.proofs.Phases.{Phase, Flies, the_same, beyond, Told, skipped, past, quietly, Kept, kept_same, kept_then, apart_passes}
use Rattle.selection_walks.proofs.Situations.{hold, Low, hold_same, low_none, paired_names, OutsOf, Sit, out, ApartFrom}
use Rattle.selection_walks.proofs.Operands.{Takes, has_value, waited, all_held, waited_row, held_row, row_stands, Stood, hold_next, next_low, Step, joined, nothing, Scene, at_more, at_hold, Claim, row_operand, row_uncoded}
use Rattle.selection_walks.proofs.Finals.{used_by, moves_sit, move_on, Meets, calling, leaving}
use Rattle.selection_rules.proofs.Rows.{seats_length}

-- seats are numbered from a number on
seats_high : {n : ℕ} (i b : ℕ) (rs : List Reg) → AmongRegisters n (seats i b rs) → b ≤ n
seats_high i b [] a = elim a [ ]
seats_high i b (r ∷ rs) (first e) = omega (arith, e)
seats_high i b (r ∷ rs) (later a) = let l = seats_high (suc i) (suc b) rs a in omega (arith, l)

module _ (m : Mach) (n : ℕ) (defined : List ℕ → Option DefinedSymbol) where
  -- ---- rows

  abbrev pub Waits : Expressions → Type 0
  Waits es =
      (k : ℕ) (ts : List ℕ) (w : Option ℕ) (b slot : ℕ) (env : List NamedRegister) (scope : List Slotted) (labels : List Label) (vis : List Visible) (r : Role)
      (i free : ℕ) → Takes r → b + count_of es ≤ i → slot + count_of es ≤ free → Scene m n w b slot env scope labels vis →
      Faultless (row_faults r defined (scopes env) vis es) → RowFits (scopes env) es →
      Step m n k ts labels w (waited n (scopes env) b slot es w) (select_waiting env labels b i es) (walk.waiting scope free slot es)

  abbrev pub Fills : Expressions → Type 0
  Fills es =
      (k : ℕ) (ts : List ℕ) (w : Option ℕ) (b slot : ℕ) (env : List NamedRegister) (scope : List Slotted) (labels : List Label) (vis : List Visible) (r : Role)
      (i free : ℕ) → Takes r → b + count_of es ≤ i → slot + count_of es ≤ free → Scene m n w b slot env scope labels vis →
      Faultless (row_faults r defined (scopes env) vis es) → RowFits (scopes env) es →
      Step m n k ts labels (waited n (scopes env) b slot es w) (all_held n b slot es w) (select_filled env labels b i es) (walk.filled_slots scope free slot es)

  waits_one : {k : ℕ} {ts : List ℕ} {labels : List Label} {w v : Option ℕ} {code : Code} {us : List Task} (f : Option ℕ → Option ℕ) (l : Bool) →
      Step m n k ts labels (f w) (f v) code us → Step m n k ts labels (f w) (f (cond l w v)) (only_when (not l) code) (cond l [] us)
  waits_one f true x = nothing m n
  waits_one f false x = x

  fills_one : {k : ℕ} {ts : List ℕ} {labels : List Label} {w v : Option ℕ} {code : Code} {us : List Task} (f : Option ℕ → Option ℕ) (l : Bool) →
      Step m n k ts labels (f w) (f v) code us → Step m n k ts labels (f (cond l w v)) (f v) (only_when l code) (cond l us [])
  fills_one f true x = x
  fills_one f false x = nothing m n

  scene_if : {w v : Option ℕ} {b slot : ℕ} {env : List NamedRegister} {scope : List Slotted} {labels : List Label} {vis : List Visible} (l : Bool) →
      Scene m n w b slot env scope labels vis → Scene m n v b slot env scope labels vis → Scene m n (cond l w v) b slot env scope labels vis
  scene_if true x y = x
  scene_if false x y = y

  pub waits_more : (e : Expression) (rest : Expressions) → Claim m n defined true e → Waits rest → Waits (More e rest)
  waits_more e rest claim others k ts w b slot env scope labels vis r i free taking li lf at ff fits =
      joined m n (others k ts w (suc b) (suc slot) env scope labels vis r (i + width e) free taking (omega (arith, li)) (omega (arith, lf))
      (at_more m n (omega arith) (omega arith) at) (right ff) fits.1)
      (subst (λ sc. Step m n k ts labels (waited n (scopes env) (suc b) (suc slot) rest w)
      (waited n (scopes env) (suc b) (suc slot) rest (cond (is_light_address (scopes env) e) w (hold n b slot w)))
      (only_when (not (is_light_address (scopes env) e)) (select env labels false false (fresh_register b (type_of (scopes env) e)) i e))
      (cond (is_light_address sc e) [] (operand scope free slot e))) (sym (paired_names at.paired))
      (waits_one (waited n (scopes env) (suc b) (suc slot) rest) (is_light_address (scopes env) e)
      (row_operand m n defined e claim (waited_row n (scopes env) (suc b) (suc slot) rest) (omega (arith, li)) (omega (arith, lf)) at (left (left ff)) fits.0
      (has_value r taking _ _ (right (left ff))))))

  pub fills_more : (e : Expression) (rest : Expressions) → Claim m n defined true e → Fills rest → Fills (More e rest)
  fills_more e rest claim others k ts w b slot env scope labels vis r i free taking li lf at ff fits =
      joined m n
      (others k ts (cond (is_light_address (scopes env) e) w (hold n b slot w)) (suc b) (suc slot) env scope labels vis r (i + width e) free taking
      (omega (arith, li)) (omega (arith, lf))
      (scene_if (is_light_address (scopes env) e) (at_more m n (omega arith) (omega arith) at) (at_hold m n at)) (right ff) fits.1)
      (subst (λ sc. Step m n k ts labels (all_held n (suc b) (suc slot) rest (cond (is_light_address (scopes env) e) w (hold n b slot w)))
      (all_held n (suc b) (suc slot) rest (hold n b slot w))
      (only_when (is_light_address (scopes env) e) (select env labels false false (fresh_register b (type_of (scopes env) e)) i e))
      (cond (is_light_address sc e) (operand scope free slot e) [])) (sym (paired_names at.paired))
      (fills_one (all_held n (suc b) (suc slot) rest) (is_light_address (scopes env) e)
      (row_operand m n defined e claim (held_row n (suc b) (suc slot) rest) (omega (arith, li)) (omega (arith, lf)) at (left (left ff)) fits.0
      (has_value r taking _ _ (right (left ff))))))

  -- all operands of a row
  pub row_steps : {k : ℕ} {ts : List ℕ} {w : Option ℕ} {b slot : ℕ} {env : List NamedRegister} {scope : List Slotted} {labels : List Label} {vis : List Visible}
      (es : Expressions) → Waits es → Fills es → (r : Role) (i : ℕ) → Takes r → b + count_of es ≤ i → Scene m n w b slot env scope labels vis →
      Faultless (row_faults r defined (scopes env) vis es) → RowFits (scopes env) es →
      Step m n k ts labels w (all_held n b slot es w) (λ next. select_waiting env labels b i es (select_filled env labels b i es next))
      (all_operands scope slot es)
  row_steps {k} {ts} {w} {b} {slot} {env} {scope} {labels} {vis} es waits fills r i taking li at ff fits =
      joined m n (waits k ts w b slot env scope labels vis r i (slot + count_of es) taking li (omega arith) at ff fits)
      (fills k ts w b slot env scope labels vis r i (slot + count_of es) taking li (omega arith) at ff fits)

  -- what a callee holds
  abbrev callee_holds : Option (List ℕ) → ℕ → ℕ → Option ℕ → Option ℕ
  callee_holds None b slot w = hold n b slot w
  callee_holds (Some name) b slot w = w

  symbol_light : (sc : List Scoped) (callee : Expression) (name : List ℕ) → called_symbol callee ≡ Some name → is_light_address sc callee ≡ true → ⊥
  symbol_light sc (Symbol at x) name e l = true≢false (sym l)
  symbol_light sc callee name e l = cc

  symbol_bare : (callee : Expression) (name : List ℕ) → called_symbol callee ≡ Some name → (scope : List Slotted) (free : ℕ) → tasks_of scope free callee ≡ []
  symbol_bare (Symbol at x) name e scope free = refl
  symbol_bare callee name e scope free = cc

  pub call_steps : {k : ℕ} {ts : List ℕ} {w : Option ℕ} {b slot : ℕ} {env : List NamedRegister} {scope : List Slotted} {labels : List Label} {vis : List Visible}
      (callee : Expression) (es : Expressions) → Claim m n defined true callee → Waits es → Fills es → (r : Role) (base : ℕ) → Takes r →
      suc b + count_of es ≤ base → Scene m n w b slot env scope labels vis →
      Faultless (faults_in defined (scopes env) vis callee) → Fits (scopes env) callee → (type_of (scopes env) callee ≡ ty.NoValue → ⊥) →
      Faultless (row_faults r defined (scopes env) vis es) → RowFits (scopes env) es → (o : Option (List ℕ)) → called_symbol callee ≡ o →
      Step m n k ts labels w (all_held n (suc b) (suc slot) es (callee_holds o b slot w))
      (λ next. select_waiting env labels (suc b) (base + width callee) es
      (only_when (not (is_light_address (scopes env) callee))
      (unless_symbol o (select env labels false false (fresh_register b (type_of (scopes env) callee)) base callee))
      (select_filled env labels (suc b) (base + width callee) es
      (only_when (is_light_address (scopes env) callee) (select env labels false false (fresh_register b (type_of (scopes env) callee)) base callee) next))))
      (all_operands scope slot (More callee es))
  call_steps {k} {ts} {w} {b} {slot} {env} {scope} {labels} {vis} callee es claim waits fills r base taking lb at cf cfit value ff fits o e =
      subst (λ sc. Step m n k ts labels w (all_held n (suc b) (suc slot) es (callee_holds o b slot w))
      (λ next. select_waiting env labels (suc b) (base + width callee) es
      (only_when (not (is_light_address (scopes env) callee))
      (unless_symbol o (select env labels false false (fresh_register b (type_of (scopes env) callee)) base callee))
      (select_filled env labels (suc b) (base + width callee) es
      (only_when (is_light_address (scopes env) callee) (select env labels false false (fresh_register b (type_of (scopes env) callee)) base callee) next))))
      ((walk.waiting scope free (suc slot) es ++ cond (is_light_address sc callee) [] (operand scope free slot callee)) ++
      (walk.filled_slots scope free (suc slot) es ++ cond (is_light_address sc callee) (operand scope free slot callee) [])))
      (sym (paired_names at.paired)) (by o e)
    where
      free : ℕ
      free = slot + suc (count_of es)

      W : (u : Option ℕ) → Scene m n u (suc b) (suc slot) env scope labels vis →
          Step m n k ts labels u (waited n (scopes env) (suc b) (suc slot) es u) (select_waiting env labels (suc b) (base + width callee) es)
          (walk.waiting scope free (suc slot) es)
      W u s = waits k ts u (suc b) (suc slot) env scope labels vis r (base + width callee) free taking (omega (arith, lb)) (omega arith) s ff fits

      F : (u : Option ℕ) → Scene m n u (suc b) (suc slot) env scope labels vis →
          Step m n k ts labels (waited n (scopes env) (suc b) (suc slot) es u) (all_held n (suc b) (suc slot) es u)
          (select_filled env labels (suc b) (base + width callee) es) (walk.filled_slots scope free (suc slot) es)
      F u s = fills k ts u (suc b) (suc slot) env scope labels vis r (base + width callee) free taking (omega (arith, lb)) (omega arith) s ff fits

      by : (o : Option (List ℕ)) → called_symbol callee ≡ o → Step m n k ts labels w (all_held n (suc b) (suc slot) es (callee_holds o b slot w))
          (λ next. select_waiting env labels (suc b) (base + width callee) es
          (only_when (not (is_light_address (scopes env) callee))
          (unless_symbol o (select env labels false false (fresh_register b (type_of (scopes env) callee)) base callee))
          (select_filled env labels (suc b) (base + width callee) es
          (only_when (is_light_address (scopes env) callee) (select env labels false false (fresh_register b (type_of (scopes env) callee)) base callee) next))))
          ((walk.waiting scope free (suc slot) es ++ cond (is_light_address (scopes env) callee) [] (operand scope free slot callee)) ++
          (walk.filled_slots scope free (suc slot) es ++ cond (is_light_address (scopes env) callee) (operand scope free slot callee) []))
      by None e = light (is_light_address (scopes env) callee)
        where
          light : (l : Bool) → Step m n k ts labels w (all_held n (suc b) (suc slot) es (hold n b slot w))
              (λ next. select_waiting env labels (suc b) (base + width callee) es
              (only_when (not l) (select env labels false false (fresh_register b (type_of (scopes env) callee)) base callee)
              (select_filled env labels (suc b) (base + width callee) es
              (only_when l (select env labels false false (fresh_register b (type_of (scopes env) callee)) base callee) next))))
              ((walk.waiting scope free (suc slot) es ++ cond l [] (operand scope free slot callee)) ++
              (walk.filled_slots scope free (suc slot) es ++ cond l (operand scope free slot callee) []))
          light true =
              joined m n (joined m n (W w (at_more m n (omega arith) (omega arith) at)) (nothing m n))
              (joined m n (F w (at_more m n (omega arith) (omega arith) at))
              (row_operand m n defined callee claim (held_row n (suc b) (suc slot) es) (omega (arith, lb)) (omega arith) at cf cfit value))
          light false =
              joined m n (joined m n (W w (at_more m n (omega arith) (omega arith) at))
              (row_operand m n defined callee claim (waited_row n (scopes env) (suc b) (suc slot) es) (omega (arith, lb)) (omega arith) at cf cfit value))
              (joined m n (F (hold n b slot w) (at_hold m n at)) (nothing m n))
      by (Some name) e = light (is_light_address (scopes env) callee) (symbol_light (scopes env) callee name e)
        where
          light : (l : Bool) → (l ≡ true → ⊥) → Step m n k ts labels w (all_held n (suc b) (suc slot) es w)
              (λ next. select_waiting env labels (suc b) (base + width callee) es (only_when (not l) (λ next. next)
              (select_filled env labels (suc b) (base + width callee) es
              (only_when l (select env labels false false (fresh_register b (type_of (scopes env) callee)) base callee) next))))
              ((walk.waiting scope free (suc slot) es ++ cond l [] (operand scope free slot callee)) ++
              (walk.filled_slots scope free (suc slot) es ++ cond l (operand scope free slot callee) []))
          light true f = absurd (f refl)
          light false f =
              joined m n (joined m n (W w (at_more m n (omega arith) (omega arith) at))
              (row_uncoded m n defined scope free callee (waited_row n (scopes env) (suc b) (suc slot) es) at (symbol_bare callee name e scope free)))
              (joined m n (F w (at_more m n (omega arith) (omega arith) at)) (nothing m n))

  -- ---- calls

  -- the tasks of a frame point that may raise
  raises_there : {i : Instr} {w : Option ℕ} {tasks : List Task} (at : ℕ) → Meets m n i w tasks (Does (Passes at) ∷ MayRaise ∷ tasks)
  raises_there {i} {w} {tasks} at =
      record {
        stays = λ p t. skipped (apart_passes p w at) (quietly (walk.goes_on tasks) t);
        crossing = λ e t. past (quietly (walk.goes_on tasks) t);
        flying = λ e h q f t. flew_by f h q t;
      }
    where
      flew_by : {p q : Phase} → Flies i p q → (h : List Task) → behind_raise tasks ≡ Some h → Told q w h → Told p w (Does (Passes at) ∷ MayRaise ∷ tasks)
      flew_by (the_same {p = p}) h e t = skipped (apart_passes p w at) (quietly (walk.may_raise tasks) (quietly (walk.raises tasks h e) t))
      flew_by (beyond z) h e t = past (quietly (walk.may_raise tasks) (quietly (walk.raises tasks h e) t))

  -- what an external call leaves as it is, and a frame call
  pub meets_external : (frame : Bool) {i : Instr} {w : Option ℕ} {tasks : List Task} (at : ℕ) → passes_frame i.op ≡ frame → may_raise i.op ≡ frame →
      Meets m n i w tasks (call_tasks frame at ++ tasks)
  meets_external true at e f = raises_there at
  meets_external false at e f = record {
    stays = λ p t. t;
    crossing = λ z t. absurd (true≢false (sym z ∙ e));
    flying = λ z h q g t. absurd
        (true≢false (sym z ∙ f));
  }

  -- what is given comes into the destination
  pub given_on : {k : ℕ} {ts : List ℕ} {labels : List Label} {w : Option ℕ} {next : List Instr} {tasks : List Task} (want : Bool) (result : Ret) (g : ℕ)
      (d : Reg) → (want ≡ true → result ≡ ret.Unit → ⊥) → Sit m n (out m n want d) k w ts labels next tasks → ApartFrom m n d w → (n ≡ g → w ≡ None) →
      Sit m n (result_seat g result) k w ts labels (from_seat g result d next) tasks
  given_on false ret.Unit g d f x apart high = x
  given_on true ret.Unit g d f x apart high = absurd (f refl refl)
  given_on want (ret.Comp c) g d f x apart high = move_on m n want (seat 0 g c) d x apart high

  args_stand : {w : Option ℕ} {slot : ℕ} (env : List NamedRegister) (es : Expressions) (b : ℕ) → Low n w b slot → AmongRegisters n (regs_of env b es) →
      Stood (all_held n b slot es w) slot (count_of es)
  args_stand {w} {slot} env es b low a = row_stands env es b slot w low a

  stood_later : {v : Option ℕ} {slot count : ℕ} → Stood v (suc slot) count → Stood v slot (suc count)
  stood_later {v} {slot} x = let l = x.within in let z : suc slot + x.index ≡ slot + suc x.index =
      omega arith in record { index = suc x.index; within = omega (arith, l); is = x.is ∙ ap Some z }

  pub external_sit : {k : ℕ} {ts : List ℕ} {w : Option ℕ} {b slot : ℕ} {labels : List Label} {next : List Instr} {tasks : List Task} (want : Bool) (at : ℕ)
      (frame : Bool) (name : List ℕ) (comps : List Comp) (result : Ret) (env : List NamedRegister) (es : Expressions) (seated given : ℕ) (d : Reg) → Low n w b slot →
      b ≤ seated → b ≤ given → (want ≡ true → result ≡ ret.Unit → ⊥) →
      Sit m n (out m n want d) k w ts labels next tasks → ApartFrom m n d w → OutsOf m n k w ts labels (call_tasks frame at ++ tasks) →
      Sit m n [] k (all_held n b slot es w) ts labels (moves_all (regs_of env b es) (seats 0 seated (regs_of env b es))
      (emit.external_instruction name comps result frame (seats 0 seated (regs_of env b es)) (result_seat given result) ∷ from_seat given result d next))
      (operand_uses at slot (count_of es) ++ (call_tasks frame at ++ tasks))
  external_sit {w = w} {b = b} {slot = slot} {tasks = tasks} want at frame name comps result env es seated given d low ls lg unit x apart o =
      moves_sit m n (regs_of env b es) (seats 0 seated (regs_of env b es)) _ (sym (seats_length 0 seated (regs_of env b es)))
      (calling m n (emit.external_instruction name comps result frame (seats 0 seated (regs_of env b es)) (result_seat given result)) refl (λ next. refl) refl
      (given_on want result given d unit x apart (λ e. low_none low (omega (arith, e, lg)))) (meets_external frame at refl refl)
      ((held_row n b slot es).kept w low) at slot (count_of es)
      (λ a f. absurd (f a)) (λ a. let l = seats_high 0 seated (regs_of env b es) a in low_none low (omega (arith, l, ls))) o)
      (λ a. used_by m n (call_tasks frame at ++ tasks) at slot (count_of es) (args_stand env es b low a))

  -- the call of a function, in tail position or not
  pub call_sit : {k : ℕ} {ts : List ℕ} {w : Option ℕ} {b slot : ℕ} {labels : List Label} {next : List Instr} {tasks : List Task} (want : Bool) (at : ℕ)
      (tail wants : Bool) (result : Ret) (o : Option (List ℕ)) (f : Reg) (env : List NamedRegister) (es : Expressions) (seated given : ℕ) (d : Reg) → f.number ≡ b →
      Low n w b slot → suc b ≤ seated → b ≤ given →
      (want ≡ true → result ≡ ret.Unit → ⊥) → Sit m n (out m n want d) k w ts labels next tasks → ApartFrom m n d w →
      OutsOf m n k w ts labels (call_tasks true at ++ tasks) →
      Sit m n [] k (all_held n (suc b) (suc slot) es (callee_holds o b slot w)) ts labels
      (moves_all (regs_of env (suc b) es) (seats 0 seated (regs_of env (suc b) es))
      (call_of tail wants result o f (seats 0 seated (regs_of env (suc b) es)) given d next))
      (operand_uses at slot (suc (count_of es)) ++ (call_tasks true at ++ tasks))
  call_sit {k} {ts} {w} {b} {slot} {labels} {next} {tasks} want at tail wants result o f env es seated given d fb low ls lg unit x apart outs =
      moves_sit m n regs args _ (sym (seats_length 0 seated regs)) (by tail)
      (λ a. used_by m n (call_tasks true at ++ tasks) at slot (suc (count_of es)) (stood_later (args_stand env es (suc b) (inner_low o) a)))
    where
      regs : List Reg
      regs = regs_of env (suc b) es

      args : List Reg
      args = seats 0 seated regs

      inner_low : (o : Option (List ℕ)) → Low n (callee_holds o b slot w) (suc b) (suc slot)
      inner_low None = hold_next low
      inner_low (Some name) = next_low low

      keeps : (o : Option (List ℕ)) → Kept w (callee_holds o b slot w)
      keeps None = Rattle.selection_walks.proofs.Situations.hold_kept slot (λ e. low_none low (omega (arith, e)))
      keeps (Some name) = kept_same

      all_keeps : Kept w (all_held n (suc b) (suc slot) es (callee_holds o b slot w))
      all_keeps = kept_then (keeps o) ((held_row n (suc b) (suc slot) es).kept (callee_holds o b slot w) (inner_low o))

      reads : (o : Option (List ℕ)) → AmongRegisters n (callee_regs o f ++ args) → (AmongRegisters n args → ⊥) →
          Stood (all_held n (suc b) (suc slot) es (callee_holds o b slot w)) slot (suc (count_of es))
      reads (Some name) a g = absurd (g a)
      reads None (later a) g = absurd (g a)
      reads None (first e) g =
          let z : slot ≡ slot + zero = omega arith in
          record {
            index = 0;
            within = omega arith;
            is = (held_row n (suc b) (suc slot) es).kept (hold n b slot w) (hold_next low) slot
                (hold_same n b slot w (sym e ∙ fb)) ∙ ap Some z;
          }

      high : AmongRegisters n args → w ≡ None
      high a = let l = seats_high 0 seated regs a in low_none low (omega (arith, l, ls))

      by : (tail : Bool) → Sit m n args k (all_held n (suc b) (suc slot) es (callee_holds o b slot w)) ts labels
          (call_of tail wants result o f args given d next) (operand_uses at slot (suc (count_of es)) ++ (call_tasks true at ++ tasks))
      by true = leaving m n _ refl refl refl all_keeps at slot (suc (count_of es)) (reads o) high (λ e. absurd (true≢false (sym e))) outs
      by false =
          calling m n _ refl (λ next. refl) refl (given_on want result given d unit x apart (λ e. low_none low (omega (arith, e, lg))))
          (raises_there at) all_keeps at slot (suc (count_of es)) (reads o) high outs
