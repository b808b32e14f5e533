-- What is noted one by one is the leftmost.
use Rattle.std.proofs.Common.{◌≡◌, Bool, true, false, cond, ◌&&◌, ◌==◌, nat_lt, Option, Some, None, ◌⊎◌, inl, inr, refl, sym, arith, subst}
use Rattle.std.proofs.lemmas.Bool.{ltb-true, ltb-false, eqb-true, or_cases, or_parts, and_parts, and_cases, eqb-false}
use Rattle.bs_fault.specs.declared.fault.Fault.{Fault}
use Rattle.bs_fault.specs.Order.{fault_number, fault_place, Precedes}
use Rattle.bs_fault.specs.Reported.{Faults, NoFault, One, Both, Among, here, first, second, Faultless, faults_of_option, IsReported, precedes, noted, noted_all}

precedes-trans : (a b c : Fault) → Precedes a b → Precedes b c → Precedes a c
precedes-trans a b c (inl x) (inl y) = inl (omega arith)
precedes-trans a b c (inl x) (inr y) = let e = y.0 in inl (omega arith)
precedes-trans a b c (inr x) (inl y) = let e = x.0 in inl (omega arith)
precedes-trans a b c (inr x) (inr y) =
    let e = x.0 in
    let f = y.0 in
    let l = x.1 in
    let m = y.1 in
    inr (omega arith, omega arith)

precedes-none : (a : Fault) → Precedes a a → ⊥
precedes-none a (inl x) = omega arith
precedes-none a (inr x) = let l = x.1 in omega arith

pub precedes-true : (a b : Fault) → precedes a b ≡ true → Precedes a b
precedes-true a b e =
    elim (or_cases (nat_lt (fault_place a) (fault_place b)) (fault_place a == fault_place b && nat_lt (fault_number a) (fault_number b)) e) [
      | inl x ↦ inl (ltb-true (fault_place a) (fault_place b) x)
      | inr x ↦
          let p = and_parts (fault_place a == fault_place b) (nat_lt (fault_number a) (fault_number b)) x in
          inr (eqb-true (fault_place a) (fault_place b) p.0, ltb-true (fault_number a) (fault_number b) p.1)
    ]

pub precedes-false : (a b : Fault) → precedes a b ≡ false → Precedes a b → ⊥
precedes-false a b e (inl x) =
    let p = or_parts (nat_lt (fault_place a) (fault_place b)) (fault_place a == fault_place b && nat_lt (fault_number a) (fault_number b)) e in
    let l = ltb-false (fault_place a) (fault_place b) p.0 in
    omega arith
precedes-false a b e (inr x) =
    let p = or_parts (nat_lt (fault_place a) (fault_place b)) (fault_place a == fault_place b && nat_lt (fault_number a) (fault_number b)) e in
    elim (and_cases (fault_place a == fault_place b) (nat_lt (fault_number a) (fault_number b)) p.1) [
      | inl y ↦ absurd (eqb-false (fault_place a) (fault_place b) y x.0)
      | inr y ↦ let l = ltb-false (fault_number a) (fault_number b) y in let m = x.1 in omega arith
    ]

-- of those that a property holds of, none comes before
pub record Best (P : Fault → Type 0) (reported : Fault) : Type 0 where
  pub is : P reported
  pub before : (other : Fault) → P other → Precedes other reported → ⊥

abbrev pub IsBest : (Fault → Type 0) → Option Fault → Type 0
IsBest P None = (f : Fault) → P f → ⊥
IsBest P (Some reported) = Best P reported

pub best-same : (P Q : Fault → Type 0) → ((f : Fault) → P f → Q f) → ((f : Fault) → Q f → P f) → (o : Option Fault) → IsBest P o → IsBest Q o
best-same P Q to from None h = λ f q. h f (from f q)
best-same P Q to from (Some reported) h = record { is = to reported h.is; before = λ other q. h.before other (from other q) }

abbrev pub With : (Fault → Type 0) → Fault → Fault → Type 0
With P f = λ g. P g ⊎ (g ≡ f)

noted-chosen : (P : Fault → Type 0) (f reported : Fault) → Best P reported → (b : Bool) → precedes f reported ≡ b → Best (With P f) (cond b f reported)
noted-chosen P f reported h true e =
    record {
      is = inr refl;
      before = λ other o p.
          elim o [
            | inl x ↦ h.before other x (precedes-trans other f reported p (precedes-true f reported e))
            | inr x ↦ let S : Fault → Type 0 = λ v. Precedes v f in precedes-none f (subst S x p)
          ];
    }
noted-chosen P f reported h false e =
    record {
      is = inl h.is;
      before = λ other o p.
          elim o [
            | inl x ↦ h.before other x p
            | inr x ↦ let S : Fault → Type 0 = λ v. Precedes v reported in precedes-false f reported e (subst S x p)
          ];
    }

pub noted-best : (P : Fault → Type 0) (f : Fault) (found : Option Fault) → IsBest P found → IsBest (With P f) (noted f found)
noted-best P f None h =
    record {
      is = inr refl;
      before = λ other o p.
          elim o [
            | inl x ↦ h other x
            | inr x ↦ let S : Fault → Type 0 = λ v. Precedes v f in precedes-none f (subst S x p)
          ];
    }
noted-best P f (Some reported) h = noted-chosen P f reported h (precedes f reported) refl

abbrev pub Or : (Fault → Type 0) → Faults → Fault → Type 0
Or P faults = λ g. P g ⊎ Among g faults

none-among : (f : Fault) → Among f NoFault → ⊥
none-among f h = elim h [ ]

one-to : (P : Fault → Type 0) (f g : Fault) → With P f g → Or P (One f) g
one-to P f g (inl x) = inl x
one-to P f g (inr x) = let S : Fault → Type 0 = λ v. Among v (One f) in inr (subst S (sym x) here)

among-one : (g f : Fault) → Among g (One f) → g ≡ f
among-one g _ here = refl

one-from : (P : Fault → Type 0) (f g : Fault) → Or P (One f) g → With P f g
one-from P f g (inl x) = inl x
one-from P f g (inr x) = inr (among-one g f x)

both-to : (P : Fault → Type 0) (a b : Faults) (g : Fault) → Or (Or P a) b g → Or P (Both a b) g
both-to P a b g (inl (inl x)) = inl x
both-to P a b g (inl (inr x)) = inr (first a b x)
both-to P a b g (inr x) = inr (second a b x)

among-both : (g : Fault) (a b : Faults) → Among g (Both a b) → Among g a ⊎ Among g b
among-both g _ _ (first a b x) = inl x
among-both g _ _ (second a b x) = inr x

both-from : (P : Fault → Type 0) (a b : Faults) (g : Fault) → Or P (Both a b) g → Or (Or P a) b g
both-from P a b g (inl x) = inl (inl x)
both-from P a b g (inr x) = elim (among-both g a b x) [ inl y ↦ inl (inr y) | inr y ↦ inr y ]

pub all-best : (P : Fault → Type 0) (faults : Faults) (found : Option Fault) → IsBest P found → IsBest (Or P faults) (noted_all faults found)
all-best P NoFault found h = best-same P (Or P NoFault) (λ f x. inl x) (λ f x. elim x [ inl y ↦ y | inr y ↦ absurd (none-among f y) ]) found h
all-best P (One f) found h = best-same (With P f) (Or P (One f)) (one-to P f) (one-from P f) (noted f found) (noted-best P f found h)
all-best P (Both a b) found h =
    best-same (Or (Or P a) b) (Or P (Both a b)) (both-to P a b) (both-from P a b) (noted_all b (noted_all a found))
    (all-best (Or P a) b (noted_all a found) (all-best P a found h))

reported-by : (faults : Faults) (o : Option Fault) → IsBest (Or (λ _. ⊥) faults) o → IsReported faults o
reported-by faults None h = λ f x. h f (inr x)
reported-by faults (Some reported) h =
    record {
      is_fault = elim (h.is) [ inl x ↦ absurd x | inr x ↦ x ];
      none_before = λ other x. h.before other (inr x);
    }

-- what is noted of faults is reported of them
pub noted-is-reported : (faults : Faults) → IsReported faults (noted_all faults None)
noted-is-reported faults = reported-by faults (noted_all faults None) (all-best (λ _. ⊥) faults None (λ f x. x))

-- where no fault is among what is found, none is found
pub no_fault : (o : Option Fault) → Faultless (faults_of_option o) → o ≡ None
no_fault None none = refl
no_fault (Some f) none = absurd (none f here)
