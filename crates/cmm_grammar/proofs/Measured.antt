-- Measures of expressions that are put together, by the tokens of their parts.
use Rattle.std.proofs.Common.{ℕ, ◌+◌, ◌*◌, ◌^◌, ◌<◌, ◌≤◌, List, [], ◌∷◌, length, arith}
use Rattle.cmm_tree.specs.Tree.{Expression, Expressions, Bindings, Cases, Handlers}
use Rattle.cmm_tree.specs.Measures.{row_total, bindings_total, cases_total, handlers_total, counts_one, is_try, names_in, params_in, own_values, nodes_in, all_tries, values_in, IndexesFit, IntegersFit, RowFits, BindingsFit, CasesFit, HandlersFit, DatumFits, DataFits}
use Rattle.cmm_grammar.specs.Parts.{BindingPart, CasePart, HandlerPart, ItemPart, FunctionItem, DataItem, expressions, bindings, cases, handlers, sequence_at}
use Rattle.cmm_grammar.specs.Rule.{Sort, Value, AnExpression, AParameter, ABinding, AnIndex, ACase, AHandler, ALabel, ADataItem, AnItem}

-- what is known of an expression of so many tokens
pub record Measured (e : Expression) (n : ℕ) : Type 0 where
  pub fits : IntegersFit e
  pub nodes : nodes_in e + 1 ≤ 3 * n
  pub values : values_in e + 2 * all_tries e + 1 ≤ 2 * n

-- a part has an expression, and so many tokens more
pub record Holds (e : Expression) (more n : ℕ) : Type 0 where
  pub own : ℕ
  pub measured : Measured e own
  pub count : own + more ≤ n

pub record CaseHolds (c : CasePart) (n : ℕ) : Type 0 where
  pub indexes : IndexesFit c.indexes
  pub body : Holds c.body 0 n

abbrev pub ItemHolds : ItemPart → ℕ → Type 0
ItemHolds (FunctionItem f) n = Holds f.body (6 + 3 * length f.params) n
ItemHolds (DataItem d) n = DataFits d

-- what is known of a value of each sort, of so many tokens
abbrev pub PartOf : (s : Sort) → Value s → ℕ → Type 0
PartOf AnExpression e n = Measured e n
PartOf AParameter p n = 3 ≤ n
PartOf ABinding b n = Holds b.value 1 n
PartOf AnIndex i n = i.index < 2 ^ 64
PartOf ACase c n = CaseHolds c n
PartOf AHandler h n = Holds h.body (3 * length h.params) n
PartOf ALabel l n = 3 * length l.params ≤ n
PartOf ADataItem d n = DatumFits d.datum
PartOf AnItem i n = ItemHolds i n
PartOf _ a n = Unit {0}

pub data PartsOf (s : Sort) : List (Value s) → ℕ → Type 0 where
  no_parts : PartsOf s [] 0
  more_parts : (a : Value s) (others : List (Value s)) (m n : ℕ) → PartOf s a m → PartsOf s others n → PartsOf s (a ∷ others) (m + n)

-- ---- rows

pub record RowMeasured (es : Expressions) (count n : ℕ) : Type 0 where
  pub fits : RowFits es
  pub nodes : row_total counts_one es + count ≤ 3 * n
  pub values : row_total own_values es + 2 * row_total is_try es + count ≤ 2 * n

pub row_measured : (es : List Expression) (n : ℕ) → PartsOf AnExpression es n → RowMeasured (expressions es) (length es) n
row_measured _ _ no_parts = record { fits = tt; nodes = omega arith; values = omega arith }
row_measured _ _ (more_parts e es m n p ps) =
    let r = row_measured es n ps in
    let a = p.nodes in
    let b = p.values in
    let c = r.nodes in
    let d = r.values in
    record { fits = (p.fits, r.fits); nodes = omega arith; values = omega arith }

pub record BindingsMeasured (bs : Bindings) (n : ℕ) : Type 0 where
  pub fits : BindingsFit bs
  pub nodes : bindings_total counts_one bs ≤ 3 * n
  pub values : names_in bs + bindings_total own_values bs + 2 * bindings_total is_try bs ≤ 2 * n

pub bindings_measured : (bs : List BindingPart) (n : ℕ) → PartsOf ABinding bs n → BindingsMeasured (bindings bs) n
bindings_measured _ _ no_parts = record { fits = tt; nodes = omega arith; values = omega arith }
bindings_measured _ _ (more_parts e es m n p ps) =
    let r = bindings_measured es n ps in
    let a = p.measured.nodes in
    let b = p.measured.values in
    let c = r.nodes in
    let d = r.values in
    let k = p.count in
    record { fits = (p.measured.fits, r.fits); nodes = omega arith; values = omega arith }

pub record CasesMeasured (cs : Cases) (n : ℕ) : Type 0 where
  pub fits : CasesFit cs
  pub nodes : cases_total counts_one cs ≤ 3 * n
  pub values : cases_total own_values cs + 2 * cases_total is_try cs ≤ 2 * n

pub cases_measured : (cs : List CasePart) (n : ℕ) → PartsOf ACase cs n → CasesMeasured (cases cs) n
cases_measured _ _ no_parts = record { fits = tt; nodes = omega arith; values = omega arith }
cases_measured _ _ (more_parts e es m n p ps) =
    let r = cases_measured es n ps in
    let a = p.body.measured.nodes in
    let b = p.body.measured.values in
    let c = r.nodes in
    let d = r.values in
    let k = p.body.count in
    record { fits = (p.indexes, (p.body.measured.fits, r.fits)); nodes = omega arith; values = omega arith }

pub record HandlersMeasured (hs : Handlers) (n : ℕ) : Type 0 where
  pub fits : HandlersFit hs
  pub nodes : handlers_total counts_one hs ≤ 3 * n
  pub values : params_in hs + handlers_total own_values hs + 2 * handlers_total is_try hs ≤ 2 * n

pub handlers_measured : (hs : List HandlerPart) (n : ℕ) → PartsOf AHandler hs n → HandlersMeasured (handlers hs) n
handlers_measured _ _ no_parts = record { fits = tt; nodes = omega arith; values = omega arith }
handlers_measured _ _ (more_parts e es m n p ps) =
    let r = handlers_measured es n ps in
    let a = p.measured.nodes in
    let b = p.measured.values in
    let c = r.nodes in
    let d = r.values in
    let k = p.count in
    record { fits = (p.measured.fits, r.fits); nodes = omega arith; values = omega arith }

-- ---- expressions one after the other

pub measured_more : (e : Expression) (m n : ℕ) → m ≤ n → Measured e m → Measured e n
measured_more e m n h p =
    let a = p.nodes in
    let b = p.values in
    record { fits = p.fits; nodes = omega arith; values = omega arith }

pub sequence_measured : (at : ℕ) (e : Expression) (es : List Expression) (m n : ℕ) → Measured e m → PartsOf AnExpression es n
    → Measured (sequence_at at e es) (m + n)
sequence_measured at e [] m n p ps = measured_more e m (m + n) (omega arith) p
sequence_measured at e (f ∷ es) m n p ps =
    let r = row_measured (f ∷ es) n ps in
    let a = p.nodes in
    let b = p.values in
    let c = r.nodes in
    let d = r.values in
    record { fits = (p.fits, r.fits); nodes = omega arith; values = omega arith }
