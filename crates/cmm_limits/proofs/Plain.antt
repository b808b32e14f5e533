-- One fault is reported: of faults whose place and number say all, the leftmost is determined.
use Rattle.std.proofs.Common.{◌≡◌, ℕ, ◌==◌, Bool, true, false, cond, List, [], ◌∷◌, Option, Some, None, inl, inr, refl, sym, ap, ◌∙◌}
use Rattle.std.proofs.lemmas.Bool.{cases_order}
use Rattle.bs_fault.specs.Order.{fault_place}
use Rattle.bs_fault.specs.declared.fault.Fault.{Fault}
use Rattle.bs_fault.specs.declared.fault.Fault.TheVariants.{TooLong, BadToken, Unclosed, Unexpected, TooDeep, IntRange, TooManyParams, FunctionTooLong, DataTooLarge, DataItem, Unbound, UnknownSymbol, DuplicateSymbol, Arity, NoValue, NotMutable, AllocHeader, UnknownLabel, AddrLive, AddrArgument, SwitchSize}
use Rattle.bs_fault.specs.declared.fault.Fault.TheVariants as fault
use Rattle.cmm_tree.specs.Tree.{Expression, Integer, Pointer, Symbol, Name, Nothing, Float, Let, Assign, Operator, Load, Store, Alloc, App, Extcall, Checkbound, Raise, Seq, If, Switch, Catch, Exit, Try, Expressions, NoMore, More, Bindings, NoBinding, Bind, Cases, NoCase, Choose, Handlers, NoHandler, Handle, Index, ItemTree, AFunction, AData, FileTree}
use Rattle.bs_fault.specs.Order.{fault_number, Precedes}
use Rattle.bs_fault.specs.Reported.{Faults, NoFault, One, Both, Among, here, first, second, one_if, faults_of_option, IsFirst}
use Rattle.cmm_limits.specs.Limits.{too_many_at, index_faults, faults_in, row_faults, binding_faults, case_faults, handler_faults, items_limit_faults, limit_faults}

-- a fault of one place
abbrev pub Plain : Fault → Type 0
Plain (AddrLive bound point used) = ⊥
Plain _ = Unit {0}

pub record AllPlain (faults : Faults) : Type 0 where
  pub each : (f : Fault) → Among f faults → Plain f

pub plain-none : AllPlain NoFault
plain-none = record { each = λ f h. elim h [ ] }

plain-here : (f g : Fault) → Plain f → Among g (One f) → Plain g
plain-here f _ p here = p

pub plain-one : (f : Fault) → Plain f → AllPlain (One f)
plain-one f p = record { each = λ g h. plain-here f g p h }

plain-in : (a b : Faults) → AllPlain a → AllPlain b → (f : Fault) → Among f (Both a b) → Plain f
plain-in _ _ p q f (first a b h) = p.each f h
plain-in _ _ p q f (second a b h) = q.each f h

pub plain-both : (a b : Faults) → AllPlain a → AllPlain b → AllPlain (Both a b)
plain-both a b p q = record { each = plain-in a b p q }

pub plain-if : (b : Bool) (f : Fault) → Plain f → AllPlain (one_if b f)
plain-if true f p = plain-one f p
plain-if false f p = plain-none

too-many-plain : (o : Option ℕ) → AllPlain (too_many_at o)
too-many-plain None = plain-none
too-many-plain (Some at) = plain-one (TooManyParams at) tt

index-plain : (size : ℕ) (indexes : List Index) → AllPlain (index_faults size indexes)
index-plain size [] = plain-none
index-plain size (i ∷ indexes) = plain-both _ _ (plain-if _ (SwitchSize i.at) tt) (index-plain size indexes)

mutual
  faults-plain : (e : Expression) → AllPlain (faults_in e)
  faults-plain (Integer at word) = plain-none
  faults-plain (Pointer at word) = plain-none
  faults-plain (Symbol at name) = plain-none
  faults-plain (Name at name) = plain-none
  faults-plain (Nothing at) = plain-none
  faults-plain (Float at word_at operands) = row-plain operands
  faults-plain (Let at bindings body) = plain-both _ _ (bindings-plain bindings) (faults-plain body)
  faults-plain (Assign at name_at name value) = faults-plain value
  faults-plain (Operator at op left right) = plain-both _ _ (faults-plain left) (faults-plain right)
  faults-plain (Load at chunk address) = faults-plain address
  faults-plain (Store at chunk address value) = plain-both _ _ (faults-plain address) (faults-plain value)
  faults-plain (Alloc at header_at header operands) = row-plain operands
  faults-plain (App at callee arguments result result_at) =
      plain-both _ _ (too-many-plain _) (plain-both _ _ (faults-plain callee) (row-plain arguments))
  faults-plain (Extcall at frame name arguments result result_at) = plain-both _ _ (too-many-plain _) (row-plain arguments)
  faults-plain (Checkbound at bound index) = plain-both _ _ (faults-plain bound) (faults-plain index)
  faults-plain (Raise at value) = faults-plain value
  faults-plain (Seq at elements) = row-plain elements
  faults-plain (If at condition on_true on_false) =
      plain-both _ _ (faults-plain condition) (plain-both _ _ (faults-plain on_true) (faults-plain on_false))
  faults-plain (Switch at size_at size selector cases) =
      plain-both _ _ (plain-if _ (SwitchSize size_at) tt) (plain-both _ _ (faults-plain selector) (cases-plain size cases))
  faults-plain (Catch at body handlers) = plain-both _ _ (faults-plain body) (handlers-plain handlers)
  faults-plain (Exit at label_at label arguments) = row-plain arguments
  faults-plain (Try at body name_at name handler) = plain-both _ _ (faults-plain body) (faults-plain handler)

  row-plain : (row : Expressions) → AllPlain (row_faults row)
  row-plain NoMore = plain-none
  row-plain (More e rest) = plain-both _ _ (faults-plain e) (row-plain rest)

  bindings-plain : (bindings : Bindings) → AllPlain (binding_faults bindings)
  bindings-plain NoBinding = plain-none
  bindings-plain (Bind at name declared value rest) = plain-both _ _ (faults-plain value) (bindings-plain rest)

  cases-plain : (size : ℕ) (cases : Cases) → AllPlain (case_faults size cases)
  cases-plain size NoCase = plain-none
  cases-plain size (Choose indexes body rest) =
      plain-both _ _ (index-plain size indexes) (plain-both _ _ (faults-plain body) (cases-plain size rest))

  handlers-plain : (handlers : Handlers) → AllPlain (handler_faults handlers)
  handlers-plain NoHandler = plain-none
  handlers-plain (Handle at label params body rest) = plain-both _ _ (faults-plain body) (handlers-plain rest)

items-plain : (items : List ItemTree) → AllPlain (items_limit_faults items)
items-plain [] = plain-none
items-plain (AFunction f ∷ items) =
    plain-both _ _
    (plain-both _ _ (too-many-plain _) (plain-both _ _ (plain-if _ (FunctionTooLong f.at) tt) (faults-plain f.body)))
    (items-plain items)
items-plain (AData d ∷ items) = plain-both _ _ plain-none (items-plain items)

-- limits are of one place each
pub limits-plain : (file : FileTree) → AllPlain (limit_faults file)
limits-plain file = items-plain file.items

pub plain-of : (o : Option Fault) → ((f : Fault) → o ≡ Some f → Plain f) → AllPlain (faults_of_option o)
plain-of None h = plain-none
plain-of (Some f) h = plain-one f (h f refl)

-- the fault of this number at this place
abbrev fault_at : ℕ → ℕ → Fault
fault_at n at =
    cond (n == 1) (TooLong at)
    (cond (n == 2) (BadToken at)
    (cond (n == 3) (Unclosed at)
    (cond (n == 4) (Unexpected at)
    (cond (n == 5) (TooDeep at)
    (cond (n == 6) (IntRange at)
    (cond (n == 7) (TooManyParams at)
    (cond (n == 8) (FunctionTooLong at)
    (cond (n == 9) (DataTooLarge at)
    (cond (n == 10) (DataItem at)
    (cond (n == 11) (Unbound at)
    (cond (n == 12) (UnknownSymbol at)
    (cond (n == 13) (DuplicateSymbol at)
    (cond (n == 14) (Arity at)
    (cond (n == 15) (NoValue at)
    (cond (n == 16) (NotMutable at)
    (cond (n == 17) (AllocHeader at)
    (cond (n == 18) (UnknownLabel at)
    (cond (n == 19) (fault.Float at)
    (cond (n == 21) (AddrArgument at) (SwitchSize at))))))))))))))))))))

is-fault-at : (f : Fault) → Plain f → f ≡ fault_at (fault_number f) (fault_place f)
is-fault-at (TooLong at) p = refl
is-fault-at (BadToken at) p = refl
is-fault-at (Unclosed at) p = refl
is-fault-at (Unexpected at) p = refl
is-fault-at (TooDeep at) p = refl
is-fault-at (IntRange at) p = refl
is-fault-at (TooManyParams at) p = refl
is-fault-at (FunctionTooLong at) p = refl
is-fault-at (DataTooLarge at) p = refl
is-fault-at (DataItem at) p = refl
is-fault-at (Unbound at) p = refl
is-fault-at (UnknownSymbol at) p = refl
is-fault-at (DuplicateSymbol at) p = refl
is-fault-at (Arity at) p = refl
is-fault-at (NoValue at) p = refl
is-fault-at (NotMutable at) p = refl
is-fault-at (AllocHeader at) p = refl
is-fault-at (UnknownLabel at) p = refl
is-fault-at (fault.Float at) p = refl
is-fault-at (AddrLive bound point used) p = absurd p
is-fault-at (AddrArgument at) p = refl
is-fault-at (SwitchSize at) p = refl

same-place : (f g : Fault) → (Precedes f g → ⊥) → (Precedes g f → ⊥) → fault_place f ≡ fault_place g
same-place f g h k =
    elim (cases_order (fault_place f) (fault_place g)) [
      | inl e ↦ e
      | inr (inl l) ↦ absurd (h (inl l))
      | inr (inr l) ↦ absurd (k (inl l))
    ]

same-number : (f g : Fault) → (Precedes f g → ⊥) → (Precedes g f → ⊥) → fault_number f ≡ fault_number g
same-number f g h k =
    elim (cases_order (fault_number f) (fault_number g)) [
      | inl e ↦ e
      | inr (inl l) ↦ absurd (h (inr (same-place f g h k, l)))
      | inr (inr l) ↦ absurd (k (inr (sym (same-place f g h k), l)))
    ]

-- one fault is reported
pub one-leftmost : (faults : Faults) (f g : Fault) → AllPlain faults → IsFirst faults f → IsFirst faults g → f ≡ g
one-leftmost faults f g p h k =
    let before = k.none_before f h.is_fault in
    let behind = h.none_before g k.is_fault in
    is-fault-at f (p.each f h.is_fault)
    ∙ ap (λ n. fault_at n (fault_place f)) (same-number f g before behind)
    ∙ ap (fault_at (fault_number g)) (same-place f g before behind)
    ∙ sym (is-fault-at g (p.each g k.is_fault))
