-- What is noted of a form with a vector, gathered call by call, is what is wrong with the form.
use Rattle.std.proofs.Common.{◌≡◌, ℕ, Bool, not, ◌||◌, List, ◌++◌, Option, vec_len, ap, ◌∙◌, arith, Vec, Global}
use Rattle.bs_fault.specs.declared.fault.Fault.{Fault}
use Rattle.bs_fault.specs.declared.fault.Fault.TheVariants as fault
use Rattle.bs_words.specs.declared.types.Ret.{Ret}
use Rattle.cmm_tree.specs.Tree.{Expression, Expressions, Bindings, Cases, Handlers, LabelTree}
use Rattle.cmm_tree.specs.Tree as tree
use Rattle.cmm_tree.specs.declared.expr.Expr.{Expr}
use Rattle.cmm_types.specs.declared.role.Role.TheVariants as roles
use Rattle.bs_words.specs.declared.types.Ty.{Ty}
use Rattle.cmm_types.specs.Types.{Scoped, with_bindings, holds_float, row_holds_float, is_float_result, join, type_without_float, type_of_cases, type_of_handlers}
use Rattle.cmm_types.specs.Standing.{Visible, handler_of, labels_of, lasting_labels_of}
use Rattle.cmm_tree.specs.Symbols.{DefinedSymbol}
use Rattle.cmm_types.specs.Faults.{row_length, is_header}
use Rattle.cmm_types.specs.Gathered.{call_faults, exit_faults, result_faults, repeated_faults, used_as, faults_in, row_faults, bindings_faults, cases_faults, handlers_faults}
use Rattle.bs_fault.specs.Reported.{noted, noted_all, one_if}
use Rattle.cmm_tree.specs.Rows.{expressions_of}
use Rattle.cmm_types.proofs.Arms.{row_length_of}

pub count_is : (v : Vec Expr Global) → vec_len v ≡ row_length (expressions_of v.items)
count_is v = omega (arith, v.ok.0, row_length_of v.items)

module _ (d : List ℕ → Option DefinedSymbol) (n : List Scoped) (l : List Visible) (f0 : Option Fault) (at : ℕ) where
  pub float_found : (w : ℕ) (r : Expressions) {w0 : ℕ} {r0 : Expressions} {n1 : List Scoped} {l1 : List Visible} {f1 f2 : Option Fault} → n1 ≡ n → l1 ≡ l → w0 ≡ w → r0 ≡ r
      → f1 ≡ noted (fault.Float w0) f0 → f2 ≡ noted_all (row_faults roles.Visited d n1 l1 r0) f1
      → f2 ≡ noted_all (faults_in d n l (tree.Float at w r)) f0
  float_found w r {w0} {r0} {n1} {l1} {f1} {f2} hn hl hw hr h1 h2 =
      h2 ∙ ap (noted_all (row_faults roles.Visited d n1 l1 r0)) (h1 ∙ ap (λ p. noted (fault.Float p) f0) hw)
      ∙ ap (λ p. noted_all (row_faults roles.Visited d p l1 r0) (noted (fault.Float w) f0)) hn
      ∙ ap (λ p. noted_all (row_faults roles.Visited d n p r0) (noted (fault.Float w) f0)) hl
      ∙ ap (λ p. noted_all (row_faults roles.Visited d n l p) (noted (fault.Float w) f0)) hr

  pub alloc_found : (a h : ℕ) (r : Expressions) {a0 h0 count : ℕ} {fits : Bool} {r0 : Expressions} {n1 : List Scoped} {l1 : List Visible} {f1 f2 : Option Fault} → n1 ≡ n → l1 ≡ l → a0 ≡ a → h0 ≡ h → r0 ≡ r → count ≡ row_length r
      → fits ≡ is_header h0 count → f1 ≡ noted_all (one_if (not fits) (fault.AllocHeader a0)) f0 → f2 ≡ noted_all (row_faults roles.Taken d n1 l1 r0) f1
      → f2 ≡ noted_all (faults_in d n l (tree.Alloc at a h r)) f0
  alloc_found a h r {a0} {h0} {count} {fits} {r0} {n1} {l1} {f1} {f2} hn hl ha hh hr hc hf h1 h2 =
      let known : fits ≡ is_header h (row_length r) = hf ∙ ap (λ p. is_header p count) hh ∙ ap (is_header h) hc in
      let first = noted_all (one_if (not (is_header h (row_length r))) (fault.AllocHeader a)) f0 in
      let e1 : f1 ≡ first = h1 ∙ ap (λ p. noted_all (one_if (not p) (fault.AllocHeader a0)) f0) known ∙ ap (λ p. noted_all (one_if (not (is_header h (row_length r))) (fault.AllocHeader p)) f0) ha in
      h2 ∙ ap (noted_all (row_faults roles.Taken d n1 l1 r0)) e1
      ∙ ap (λ p. noted_all (row_faults roles.Taken d p l1 r0) first) hn
      ∙ ap (λ p. noted_all (row_faults roles.Taken d n p r0) first) hl
      ∙ ap (λ p. noted_all (row_faults roles.Taken d n l p) first) hr

  pub exit_found : (a : ℕ) (label : LabelTree) (r : Expressions) {a0 count : ℕ} {label0 : LabelTree} {r0 : Expressions} {n1 : List Scoped} {l1 : List Visible} {f1 f2 : Option Fault} → n1 ≡ n → l1 ≡ l → a0 ≡ a → label0 ≡ label → r0 ≡ r → count ≡ row_length r
      → f1 ≡ noted_all (exit_faults (handler_of l label0) at a0 count) f0 → f2 ≡ noted_all (row_faults roles.Taken d n1 l1 r0) f1
      → f2 ≡ noted_all (faults_in d n l (tree.Exit at a label r)) f0
  exit_found a label r {a0} {count} {label0} {r0} {n1} {l1} {f1} {f2} hn hl ha hb hr hc h1 h2 =
      let first = noted_all (exit_faults (handler_of l label) at a (row_length r)) f0 in
      let e1 : f1 ≡ first = h1 ∙ ap (λ p. noted_all (exit_faults (handler_of l p) at a0 count) f0) hb ∙ ap (λ p. noted_all (exit_faults (handler_of l label) at p count) f0) ha ∙ ap (λ p. noted_all (exit_faults (handler_of l label) at a p) f0) hc in
      h2 ∙ ap (noted_all (row_faults roles.Taken d n1 l1 r0)) e1
      ∙ ap (λ p. noted_all (row_faults roles.Taken d p l1 r0) first) hn
      ∙ ap (λ p. noted_all (row_faults roles.Taken d n p r0) first) hl
      ∙ ap (λ p. noted_all (row_faults roles.Taken d n l p) first) hr

  pub app_found : (w : Expression) (r : Expressions) (g : Ret) (ga : ℕ) {count ga0 : ℕ} {g0 : Ret} {w0 w1 : Expression} {r0 : Expressions} {n1 n2 n3 : List Scoped} {l1 l2 l3 : List Visible} {f1 f2 f3 f4 : Option Fault}
      → n1 ≡ n → l1 ≡ l → n2 ≡ n1 → l2 ≡ l1 → n3 ≡ n2 → l3 ≡ l2 → w0 ≡ w → w1 ≡ w → r0 ≡ r → count ≡ row_length r → g0 ≡ g → ga0 ≡ ga
      → f1 ≡ noted_all (call_faults d w0 at count) f0 → f2 ≡ noted_all (result_faults g0 ga0) f1
      → f3 ≡ noted_all (used_as roles.Taken n2 w1 (faults_in d n2 l2 w1)) f2 → f4 ≡ noted_all (row_faults roles.Taken d n3 l3 r0) f3
      → f4 ≡ noted_all (faults_in d n l (tree.App at w r g ga)) f0
  app_found w r g ga {count} {ga0} {g0} {w0} {w1} {r0} {n1} {n2} {n3} {l1} {l2} {l3} {f1} {f2} {f3} {f4} hn1 hl1 hn2 hl2 hn3 hl3 hw0 hw1 hr hc hg hga h1 h2 h3 h4 =
      let a1 = noted_all (call_faults d w at (row_length r)) f0 in
      let e1 : f1 ≡ a1 = h1 ∙ ap (λ p. noted_all (call_faults d p at count) f0) hw0 ∙ ap (λ p. noted_all (call_faults d w at p) f0) hc in
      let a2 = noted_all (result_faults g ga) a1 in
      let e2 : f2 ≡ a2 = h2 ∙ ap (noted_all (result_faults g0 ga0)) e1 ∙ ap (λ p. noted_all (result_faults p ga0) a1) hg ∙ ap (λ p. noted_all (result_faults g p) a1) hga in
      let a3 = noted_all (used_as roles.Taken n w (faults_in d n l w)) a2 in
      let e3 : f3 ≡ a3 = h3 ∙ ap (noted_all (used_as roles.Taken n2 w1 (faults_in d n2 l2 w1))) e2
      ∙ ap (λ p. noted_all (used_as roles.Taken p w1 (faults_in d p l2 w1)) a2) (hn2 ∙ hn1)
      ∙ ap (λ p. noted_all (used_as roles.Taken n w1 (faults_in d n p w1)) a2) (hl2 ∙ hl1)
      ∙ ap (λ p. noted_all (used_as roles.Taken n p (faults_in d n l p)) a2) hw1 in
      h4 ∙ ap (noted_all (row_faults roles.Taken d n3 l3 r0)) e3
      ∙ ap (λ p. noted_all (row_faults roles.Taken d p l3 r0) a3) (hn3 ∙ hn2 ∙ hn1)
      ∙ ap (λ p. noted_all (row_faults roles.Taken d n p r0) a3) (hl3 ∙ hl2 ∙ hl1)
      ∙ ap (λ p. noted_all (row_faults roles.Taken d n l p) a3) hr

  pub extcall_found : (frame : Bool) (name : List ℕ) (r : Expressions) (g : Ret) (ga : ℕ) {ga0 : ℕ} {g0 : Ret} {r0 : Expressions} {n1 : List Scoped} {l1 : List Visible} {f1 f2 : Option Fault} → n1 ≡ n → l1 ≡ l → r0 ≡ r → g0 ≡ g → ga0 ≡ ga
      → f1 ≡ noted_all (result_faults g0 ga0) f0 → f2 ≡ noted_all (row_faults roles.Outer d n1 l1 r0) f1
      → f2 ≡ noted_all (faults_in d n l (tree.Extcall at frame name r g ga)) f0
  extcall_found frame name r g ga {ga0} {g0} {r0} {n1} {l1} {f1} {f2} hn hl hr hg hga h1 h2 =
      let a1 = noted_all (result_faults g ga) f0 in
      let e1 : f1 ≡ a1 = h1 ∙ ap (λ p. noted_all (result_faults p ga0) f0) hg ∙ ap (λ p. noted_all (result_faults g p) f0) hga in
      h2 ∙ ap (noted_all (row_faults roles.Outer d n1 l1 r0)) e1
      ∙ ap (λ p. noted_all (row_faults roles.Outer d p l1 r0) a1) hn
      ∙ ap (λ p. noted_all (row_faults roles.Outer d n p r0) a1) hl
      ∙ ap (λ p. noted_all (row_faults roles.Outer d n l p) a1) hr

  pub switch_found : (a s : ℕ) (w : Expression) (k : Cases) {w0 : Expression} {k0 : Cases} {n1 : List Scoped} {l1 : List Visible} {f1 f2 : Option Fault} → n1 ≡ n → l1 ≡ l → w0 ≡ w → k0 ≡ k
      → f1 ≡ noted_all (used_as roles.Taken n w0 (faults_in d n l w0)) f0 → f2 ≡ noted_all (cases_faults d n1 l1 k0) f1
      → f2 ≡ noted_all (faults_in d n l (tree.Switch at a s w k)) f0
  switch_found a s w k {w0} {k0} {n1} {l1} {f1} {f2} hn hl hw hk h1 h2 =
      let a1 = noted_all (used_as roles.Taken n w (faults_in d n l w)) f0 in
      let e1 : f1 ≡ a1 = h1 ∙ ap (λ p. noted_all (used_as roles.Taken n p (faults_in d n l p)) f0) hw in
      h2 ∙ ap (noted_all (cases_faults d n1 l1 k0)) e1
      ∙ ap (λ p. noted_all (cases_faults d p l1 k0) a1) hn
      ∙ ap (λ p. noted_all (cases_faults d n p k0) a1) hl
      ∙ ap (λ p. noted_all (cases_faults d n l p) a1) hk

  pub let_found : (b : Bindings) (w : Expression) {w0 : Expression} {b0 : Bindings} {n1 : List Scoped} {l1 : List Visible} {f1 f2 : Option Fault} → l1 ≡ l → w0 ≡ w → b0 ≡ b → n1 ≡ with_bindings n b
      → f1 ≡ noted_all (bindings_faults d n l b0) f0 → f2 ≡ noted_all (faults_in d n1 l1 w0) f1
      → f2 ≡ noted_all (faults_in d n l (tree.Let at b w)) f0
  let_found b w {w0} {b0} {n1} {l1} {f1} {f2} hl hw hb hn h1 h2 =
      let a1 = noted_all (bindings_faults d n l b) f0 in
      let e1 : f1 ≡ a1 = h1 ∙ ap (λ p. noted_all (bindings_faults d n l p) f0) hb in
      h2 ∙ ap (noted_all (faults_in d n1 l1 w0)) e1
      ∙ ap (λ p. noted_all (faults_in d p l1 w0) a1) hn
      ∙ ap (λ p. noted_all (faults_in d (with_bindings n b) p w0) a1) hl
      ∙ ap (λ p. noted_all (faults_in d (with_bindings n b) l p) a1) hw

  pub catch_found : (w : Expression) (h : Handlers) {w0 : Expression} {h0 h1 h2 h3 : Handlers} {n1 n2 : List Scoped} {l1 l2 l3 l4 : List Visible} {f1 f2 f3 : Option Fault}
      → n1 ≡ n → n2 ≡ n1 → l1 ≡ l → w0 ≡ w → h0 ≡ h → h1 ≡ h → h2 ≡ h → h3 ≡ h
      → l2 ≡ labels_of h1 ++ l1 → l3 ≡ l1 → l4 ≡ lasting_labels_of h2 ++ l3
      → f1 ≡ noted_all (repeated_faults h0) f0 → f2 ≡ noted_all (faults_in d n1 l2 w0) f1 → f3 ≡ noted_all (handlers_faults d n2 l4 h3) f2
      → f3 ≡ noted_all (faults_in d n l (tree.Catch at w h)) f0
  catch_found w h {w0} {h0} {h1} {h2} {h3} {n1} {n2} {l1} {l2} {l3} {l4} {f1} {f2} {f3} hn1 hn2 hl1 hw hh0 hh1 hh2 hh3 hl2 hl3 hl4 e1 e2 e3 =
      let a1 = noted_all (repeated_faults h) f0 in
      let p1 : f1 ≡ a1 = e1 ∙ ap (λ p. noted_all (repeated_faults p) f0) hh0 in
      let wide = labels_of h ++ l in
      let q2 : l2 ≡ wide = hl2 ∙ ap (λ p. labels_of p ++ l1) hh1 ∙ ap (λ p. labels_of h ++ p) hl1 in
      let a2 = noted_all (faults_in d n wide w) a1 in
      let p2 : f2 ≡ a2 = e2 ∙ ap (noted_all (faults_in d n1 l2 w0)) p1
      ∙ ap (λ p. noted_all (faults_in d p l2 w0) a1) hn1
      ∙ ap (λ p. noted_all (faults_in d n p w0) a1) q2
      ∙ ap (λ p. noted_all (faults_in d n wide p) a1) hw in
      let lasting = lasting_labels_of h ++ l in
      let q4 : l4 ≡ lasting = hl4 ∙ ap (λ p. lasting_labels_of p ++ l3) hh2 ∙ ap (λ p. lasting_labels_of h ++ p) (hl3 ∙ hl1) in
      e3 ∙ ap (noted_all (handlers_faults d n2 l4 h3)) p2
      ∙ ap (λ p. noted_all (handlers_faults d p l4 h3) a2) (hn2 ∙ hn1)
      ∙ ap (λ p. noted_all (handlers_faults d n p h3) a2) q4
      ∙ ap (λ p. noted_all (handlers_faults d n lasting p) a2) hh3

pub app_float : (w : Expression) (r : Expressions) (g : Ret) {w1 : Expression} {r0 : Expressions} {g0 : Ret} {called passed both given all : Bool} → w1 ≡ w → r0 ≡ r → g0 ≡ g
    → all ≡ (both || given) → both ≡ (called || passed) → called ≡ holds_float w1 → passed ≡ row_holds_float r0 → given ≡ is_float_result g0
    → all ≡ (holds_float w || row_holds_float r || is_float_result g)
app_float w r g {w1} {r0} {g0} {called} {passed} {both} {given} {all} hw hr hg ha hb hc hp hi =
    ha
    ∙ ap (λ p. p || given) (hb ∙ ap (λ p. p || passed) (hc ∙ ap holds_float hw) ∙ ap (λ p. holds_float w || p) (hp ∙ ap row_holds_float hr))
    ∙ ap (λ p. (holds_float w || row_holds_float r) || p) (hi ∙ ap is_float_result hg)

-- ---- types and floats, by those of the parts

pub or_of : (c d : Bool) {a b both : Bool} → both ≡ (a || b) → a ≡ c → b ≡ d → both ≡ (c || d)
or_of c d {a} {b} {both} h ha hb = h ∙ ap (λ p. p || b) ha ∙ ap (λ p. c || p) hb

pub join_of : (c d : Ty) {a b both : Ty} → both ≡ join a b → a ≡ c → b ≡ d → both ≡ join c d
join_of c d {a} {b} {both} h ha hb = h ∙ ap (λ p. join p b) ha ∙ ap (λ p. join c p) hb

pub plain_of : (n : List Scoped) (w : Expression) {n0 : List Scoped} {w0 : Expression} {plain : Ty} → n0 ≡ n → w0 ≡ w → plain ≡ type_without_float n0 w0 → plain ≡ type_without_float n w
plain_of n w {n0} {w0} {plain} hn hw h = h ∙ ap (λ p. type_without_float p w0) hn ∙ ap (type_without_float n) hw

pub cases_plain_of : (n : List Scoped) (k : Cases) {n0 : List Scoped} {k0 : Cases} {plain : Ty} → n0 ≡ n → k0 ≡ k → plain ≡ type_of_cases n0 k0 → plain ≡ type_of_cases n k
cases_plain_of n k {n0} {k0} {plain} hn hk h = h ∙ ap (λ p. type_of_cases p k0) hn ∙ ap (type_of_cases n) hk

pub handlers_plain_of : (n : List Scoped) (k : Handlers) {n0 : List Scoped} {k0 : Handlers} {plain : Ty} → n0 ≡ n → k0 ≡ k → plain ≡ type_of_handlers n0 k0 → plain ≡ type_of_handlers n k
handlers_plain_of n k {n0} {k0} {plain} hn hk h = h ∙ ap (λ p. type_of_handlers p k0) hn ∙ ap (type_of_handlers n) hk
