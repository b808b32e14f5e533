-- The faults that are gathered, and the one that is reported of them.
use Rattle.std.proofs.Common.{◌≡◌, ◌<◌, ◌≤◌, Bool, true, false, cond, Option, Some, None, ◌⊎◌, inl, inr, refl, arith}
use Rattle.std.proofs.lemmas.Bool.Decides.{nat_tests}
use Rattle.bs_fault.specs.Order.{fault_place}
use Rattle.bs_fault.specs.declared.fault.Fault.{Fault}
use Rattle.bs_fault.specs.Order.{fault_number, Precedes}
use Rattle.bs_fault.specs.Reported.{Faults, NoFault, One, Both, one_if, precedes, noted, noted_all}

pub data Among (told : Fault) : Faults → Type 0 where
  here : Among told (One told)
  first : {a b : Faults} → Among told a → Among told (Both a b)
  second : {a b : Faults} → Among told b → Among told (Both a b)

-- one comes no later than the other
pub data AtMost (a b : Fault) : Type 0 where
  further_left : fault_place a < fault_place b → AtMost a b
  same_place : fault_place a ≡ fault_place b → fault_number a ≤ fault_number b → AtMost a b

pub AtMost-same : (a : Fault) → AtMost a a
AtMost-same a = same_place refl (omega arith)

pub AtMost-trans : (a b c : Fault) → AtMost a b → AtMost b c → AtMost a c
AtMost-trans a b c (further_left p) (further_left q) = further_left (omega arith)
AtMost-trans a b c (further_left p) (same_place q r) = further_left (omega arith)
AtMost-trans a b c (same_place p q) (further_left r) = further_left (omega arith)
AtMost-trans a b c (same_place p q) (same_place r s) = same_place (omega arith) (omega arith)

pub AtMost-not : (a b : Fault) → AtMost a b → ¬ Precedes b a
AtMost-not a b (further_left p) (inl q) = omega arith
AtMost-not a b (further_left p) (inr q) = omega (arith, q.0)
AtMost-not a b (same_place p q) (inl r) = omega arith
AtMost-not a b (same_place p q) (inr r) = omega (arith, r.0, r.1)

precedes-true : (a b : Fault) → precedes a b ≡ true → AtMost a b
precedes-true a b e =
    go (grind (arith, nat_tests))
  where
    go : ((fault_place a < fault_place b) ⊎ ((fault_place a ≡ fault_place b) × (fault_number a < fault_number b))) → AtMost a b
    go (inl p) = further_left p
    go (inr p) = let less = p.1 in same_place p.0 (omega arith)

precedes-false : (a b : Fault) → precedes a b ≡ false → AtMost b a
precedes-false a b e =
    go (grind (arith, nat_tests))
  where
    go : ((fault_place b < fault_place a) ⊎ ((fault_place b ≡ fault_place a) × (fault_number b ≤ fault_number a))) → AtMost b a
    go (inl p) = further_left p
    go (inr p) = same_place p.0 p.1

-- what is reported comes no later than this fault
pub record ToldBy (result : Option Fault) (f : Fault) : Type 0 where
  pub told : Fault
  pub is : result ≡ Some told
  pub no_later : AtMost told f

noted-new : (f : Fault) (found : Option Fault) → ToldBy (noted f found) f
noted-new f None = record { told = f; is = refl; no_later = AtMost-same f }
noted-new f (Some g) = go (precedes f g) refl
  where
    go : (b : Bool) → precedes f g ≡ b → ToldBy (Some (cond b f g)) f
    go true e = record { told = f; is = refl; no_later = AtMost-same f }
    go false e = record { told = g; is = refl; no_later = precedes-false f g e }

noted-old : (f g : Fault) → ToldBy (noted f (Some g)) g
noted-old f g = go (precedes f g) refl
  where
    go : (b : Bool) → precedes f g ≡ b → ToldBy (Some (cond b f g)) g
    go true e = record { told = f; is = refl; no_later = precedes-true f g e }
    go false e = record { told = g; is = refl; no_later = AtMost-same g }

pub ToldBy-trans : (r : Option Fault) (a b : Fault) → ToldBy r a → AtMost a b → ToldBy r b
ToldBy-trans r a b t le = record { told = t.told; is = t.is; no_later = AtMost-trans _ _ _ t.no_later le }

-- what was found before is still met
pub noted_all-keeps : (fs : Faults) (found : Option Fault) (f : Fault) → ToldBy found f → ToldBy (noted_all fs found) f
noted_all-keeps NoFault found f t = t
noted_all-keeps (One g) None f t = absurd (elim_none t.is)
  where
    elim_none : {g : Fault} → None ≡ Some g → ⊥
    elim_none e = cc
noted_all-keeps (One g) (Some h) f t =
    let same : h ≡ t.told = some t.is in
    ToldBy-trans _ t.told f (move same (noted-old g h)) t.no_later
  where
    some : {x y : Fault} → Some x ≡ Some y → x ≡ y
    some e = cc

    move : {x y : Fault} → x ≡ y → ToldBy (noted g (Some h)) x → ToldBy (noted g (Some h)) y
    move {x} {y} e m = subst_told e m
      where
        subst_told : x ≡ y → ToldBy (noted g (Some h)) x → ToldBy (noted g (Some h)) y
        subst_told e m = rw (← e) m
noted_all-keeps (Both a b) found f t = noted_all-keeps b (noted_all a found) f (noted_all-keeps a found f t)

-- each of these is met
pub noted_all-meets : (fs : Faults) (found : Option Fault) (f : Fault) → Among f fs → ToldBy (noted_all fs found) f
noted_all-meets NoFault found f m = elim m [ ]
noted_all-meets (One g) found f here = noted-new f found
noted_all-meets (Both a b) found f (first m) = noted_all-keeps b (noted_all a found) f (noted_all-meets a found f m)
noted_all-meets (Both a b) found f (second m) = noted_all-meets b (noted_all a found) f m

-- where the one that is reported comes from
pub noted_all-from : (fs : Faults) (found : Option Fault) (f : Fault) → noted_all fs found ≡ Some f → (found ≡ Some f) ⊎ Among f fs
noted_all-from NoFault found f e = inl e
noted_all-from (One g) None f e = inr (go e)
  where
    go : Some g ≡ Some f → Among f (One g)
    go e = let same : f ≡ g = cc in rw same here
noted_all-from (One g) (Some h) f e = go (precedes g h) e
  where
    go : (b : Bool) → Some (cond b g h) ≡ Some f → (Some h ≡ Some f) ⊎ Among f (One g)
    go true e = let same : f ≡ g = cc in inr (rw same here)
    go false e = inl e
noted_all-from (Both a b) found f e = later (noted_all-from a found f) (noted_all-from b (noted_all a found) f e)
  where
    earlier : (found ≡ Some f) ⊎ Among f a → (found ≡ Some f) ⊎ Among f (Both a b)
    earlier (inl e) = inl e
    earlier (inr m) = inr (first m)

    later : (noted_all a found ≡ Some f → (found ≡ Some f) ⊎ Among f a) → (noted_all a found ≡ Some f) ⊎ Among f b → (found ≡ Some f) ⊎ Among f (Both a b)
    later before (inl e) = earlier (before e)
    later before (inr m) = inr (second m)

pub one_if-from : (b : Bool) (f g : Fault) → Among g (one_if b f) → (b ≡ true) × (g ≡ f)
one_if-from true f g here = (refl, refl)
one_if-from false f g m = elim m [ ]

pub one_if-among : (b : Bool) (f : Fault) → b ≡ true → Among f (one_if b f)
one_if-among true f e = here
one_if-among false f e = absurd (never e)
  where
    never : false ≡ true → ⊥
    never e = cc

pub one-from : (f g : Fault) → Among f (One g) → f ≡ g
one-from f g here = refl
