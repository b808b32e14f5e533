-- Arrivals compose.
use Rattle.std.proofs.Common.{ℕ, ◌+◌, ◌≤◌, ◌⊎◌, inl, inr, refl, ap, arith, ◌∙◌, ⊎_elim}
use Rattle.rv_machine.specs.Services.{End, Machine, Over}
use Rattle.guarded_machine.specs.Guarded.{guarded_after}
use Rattle.lin_machine.specs.View.{Fixed, View, ReachesView, EndsRunAfter}
use Rattle.lin_machine.specs.Arrival.{Needs, IsOutOfRoom, ArrivalIn, Gone, ArrivesIn, Arrives}

pub leads_in : {q : Needs} (least most : ℕ) (s : Fixed) (n : ℕ) → least ≤ n → n ≤ most → (v w : View) (P : View → Type 0) → ReachesView s n v w → P w →
    ArrivesIn least most s q v P
leads_in least most s n some few v w P l p = record {
  from = λ a st. let g = l.by a st in inl (record {
    count = n;
    some = some;
    few = few;
    view = w;
    machine = g.0;
    stands = g.1;
    answers = l.answers;
    calls = l.calls;
    by = g.2;
    holds = p;
  });
}

pub leads_arrives : {q : Needs} (s : Fixed) (n : ℕ) (v w : View) (P : View → Type 0) → ReachesView s n v w → P w → Arrives n s q v P
leads_arrives s n v w P l p = leads_in 0 n s n (omega arith) (omega arith) v w P l p

pub ends_arrives : {most : ℕ} (s : Fixed) (q : Needs) (n : ℕ) (v : View) (P : View → Type 0) (end : End) → IsOutOfRoom s q end → EndsRunAfter s n v end →
    Arrives most s q v P
ends_arrives s q n v P end want e = record { from = λ a st. inr (record { count = n; end = end; want = want; by = e.by a st }) }

joined : (x y m n : ℕ) (s : Fixed) (q : Needs) (v : View) (a : Machine) (P Q : View → Type 0) (first : ArrivalIn x m s v a P) →
    ArrivalIn y n s first.view first.machine Q ⊎ Gone s q first.view first.machine → ArrivalIn (x + y) (m + n) s v a Q ⊎ Gone s q v a
joined x y m n s q v a P Q first (inl second) = inl (record {
  count = first.count + second.count;
  some = let p = first.some in let r = second.some in omega (arith, p, r);
  few = let p = first.few in let r = second.few in omega (arith, p, r);
  view = second.view;
  machine = second.machine;
  stands = second.stands;
  answers = second.answers ∙ first.answers;
  calls = second.calls ∙ first.calls;
  by = λ j k e. first.by j (second.count + k) (omega arith) ∙ second.by (second.count + k) k refl;
  holds = second.holds;
})
joined x y m n s q v a P Q first (inr gone) = inr (record {
  count = first.count + gone.count;
  end = gone.end;
  want = gone.want;
  by = λ j k e. first.by j (gone.count + k) (omega arith) ∙ gone.by (gone.count + k) k refl ∙ ap (λ c. guarded_after s.schedule k (Over c gone.end)) first.calls;
})

pub then_in : {q : Needs} (x y m n : ℕ) (s : Fixed) (v : View) (P Q : View → Type 0) → ArrivesIn x m s q v P → ((w : View) → P w → ArrivesIn y n s q w Q) →
    ArrivesIn (x + y) (m + n) s q v Q
then_in {q} x y m n s v P Q a h = record {
  from = λ c st. ⊎_elim
      (λ (first : ArrivalIn x m s v c P). joined x y m n s q v c P Q first ((h first.view first.holds).from first.machine first.stands))
      (λ (gone : Gone s q v c). inr gone)
      (a.from c st);
}

looser : (x y m n : ℕ) (s : Fixed) (v : View) (a : Machine) (P : View → Type 0) → y ≤ x → m ≤ n → ArrivalIn x m s v a P → ArrivalIn y n s v a P
looser x y m n s v a P l k r = record {
  count = r.count;
  some = let h = r.some in omega (arith, h, l);
  few = let h = r.few in omega (arith, h, k);
  view = r.view;
  machine = r.machine;
  stands = r.stands;
  answers = r.answers;
  calls = r.calls;
  by = r.by;
  holds = r.holds;
}

pub at_least : {q : Needs} (x y m n : ℕ) (s : Fixed) (v : View) (P : View → Type 0) → y ≤ x → m ≤ n → ArrivesIn x m s q v P → ArrivesIn y n s q v P
at_least x y m n s v P l k a = record { from = λ c st. ⊎_elim (λ r. inl (looser x y m n s v c P l k r)) (λ g. inr g) (a.from c st) }

pub then_arrives : {q : Needs} (m n : ℕ) (s : Fixed) (v : View) (P Q : View → Type 0) → Arrives m s q v P → ((w : View) → P w → Arrives n s q w Q) →
    Arrives (m + n) s q v Q
then_arrives m n s v P Q a h = then_in 0 0 m n s v P Q a h
