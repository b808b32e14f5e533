use Rattle.std.proofs.Common.{Option, subst}
use Rattle.cmm_walks.specs.Refusal.{ToldAmong}
use Rattle.cmm_walks.specs.declared.limits.Limits.{Limits}
use Rattle.cmm_walks.proofs.Least.{told-second, told-first, told-left, told-right}
use Rattle.cmm_walks.proofs.check.first.Goals as goal

pub returns-in-None : goal.returns-in-None
returns-in-None c = λ fs gs one other.
    let P : Option Limits → Type 0 = λ o. ToldAmong fs o in
    told-second fs gs c.args.other (subst P c.in-None.is one) other

pub returns-in-None-other : goal.returns-in-None-other
returns-in-None-other c = λ fs gs one other.
    let P : Option Limits → Type 0 = λ o. ToldAmong fs o in
    let Q : Option Limits → Type 0 = λ o. ToldAmong gs o in
    told-first fs gs c.in-Some.one (subst P c.in-Some.is one) (subst Q c.in-None-other.is other)

pub returns-then-in_order : goal.returns-then-in_order
returns-then-in_order c = λ fs gs one other.
    let P : Option Limits → Type 0 = λ o. ToldAmong fs o in
    let Q : Option Limits → Type 0 = λ o. ToldAmong gs o in
    told-left fs gs c.in-Some.one c.in-Some-other.other (subst P c.in-Some.is one) (subst Q c.in-Some-other.is other) (c.in_order.ensures.first c.if-in_order.true)

pub returns-else-in_order : goal.returns-else-in_order
returns-else-in_order c = λ fs gs one other.
    let P : Option Limits → Type 0 = λ o. ToldAmong fs o in
    let Q : Option Limits → Type 0 = λ o. ToldAmong gs o in
    told-right fs gs c.in-Some.one c.in-Some-other.other (subst P c.in-Some.is one) (subst Q c.in-Some-other.is other) (c.in_order.ensures.second c.if-in_order.false)
