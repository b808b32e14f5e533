-- A function keeps itself, and what keeps what keeps another keeps that.
use Rattle.std.proofs.Common.{◌≡◌, ◌⊎◌, inl, inr, ⊎_elim, ℕ, List, [], ◌∷◌, ◌++◌, map, refl, sym, ap, ◌∙◌, subst, append_assoc}
use Rattle.cmm_meaning.specs.Extends.{shape_of}
use Rattle.mach_ir.specs.Acts.{Around, with_block}
use Rattle.mach_ir.specs.Runs.{ActivationSetting, Tally, RunProgress, Running, Asking, Ended, Wrong, first_tally}
use Rattle.mach_ir.specs.Meaning.{State, run_of_mach}
use Rattle.mach_ir.specs.Keeps.{Proper, ahead, Ahead, Trails, RunsAlike, SuitRound, both_running, both_asking, both_ended, Comes, Follows, MachSimulation, HasSlot, Keeps}
use Rattle.mach_ir.specs.declared.blocks.NewBlock.{NewBlock}
use Rattle.mach_ir.specs.declared.mach.Mach.{Mach}

pub appended_none : {A : Type 0} (xs : List A) → xs ++ [] ≡ xs
appended_none [] = refl
appended_none (x ∷ xs) = ap (λ ys. x ∷ ys) (appended_none xs)

pub ahead_more : (bs ds : List NewBlock) (a : Around) → ahead (bs ++ ds) a ≡ ahead ds (ahead bs a)
ahead_more [] ds a = refl
ahead_more (b ∷ bs) ds a = ahead_more bs ds (with_block b a)

pub level : (a : Around) → Ahead a a
level a = record { blocks = []; same = refl }

pub ahead_then : (x y z : Around) → Ahead x y → Ahead y z → Ahead x z
ahead_then x y z e q =
    record { blocks = e.blocks ++ q.blocks; same = q.same ∙ ap (ahead q.blocks) e.same ∙ sym (ahead_more e.blocks q.blocks x) }

pub level_trail : (a : Around) → Trails a a
level_trail a = record { tries = refl; more = []; blocks = sym (appended_none (map shape_of a.memory.blocks)) }

pub trails_then : (x y z : Around) → Trails x y → Trails y z → Trails x z
trails_then x y z e q =
    record {
      tries = e.tries ∙ q.tries;
      more = q.more ++ e.more;
      blocks = e.blocks ∙ ap (λ shapes. shapes ++ e.more) q.blocks ∙ append_assoc (map shape_of z.memory.blocks) q.more e.more;
    }

pub alike_then : {S U V : Type 0} {One : S → U → Type 0} {Two : U → V → Type 0} {Both : S → V → Type 0} {x : RunProgress S} {y : RunProgress U} {z : RunProgress V} →
    ((a : S) (b : U) (d : V) → One a b → Two b d → Both a d) → RunsAlike One x y → RunsAlike Two y z → RunsAlike Both x z
alike_then h (both_running {s = s} {u = u} e) (both_running {u = v} q) = both_running (h s u v e q)
alike_then h both_asking both_asking = both_asking
alike_then h both_ended both_ended = both_ended

module _ (Suit : Around → Around → Type 0) where
  alike_self : ((a : Around) → Suit a a) → (x r : RunProgress State) → (x ≡ Wrong → ⊥) → x ≡ r → RunsAlike (SuitRound Suit) r x
  alike_self h x (Running u y) goes e = subst (RunsAlike (SuitRound Suit) (Running u y)) (sym e) (both_running (h u.around))
  alike_self h x (Asking call y) goes e = subst (RunsAlike (SuitRound Suit) (Asking call y)) (sym e) both_asking
  alike_self h x (Ended d y) goes e = subst (RunsAlike (SuitRound Suit) (Ended d y)) (sym e) both_ended
  alike_self h x Wrong goes e = absurd (goes e)

  comes_self : ((a : Around) → Suit a a) → (c : ActivationSetting) (m : Mach) (n : ℕ) (s : State) (t : Tally) → Proper c m n s t → Comes Suit (run_of_mach c m n s t) c m s t
  comes_self h c m n s t proper =
      record { steps = n; alike = alike_self h (run_of_mach c m n s t) (run_of_mach c m n s t) proper.goes refl; proper = proper }

module _ (c : ActivationSetting) (m : Mach) (n : ℕ) (s : State) (t : Tally) (proper : Proper c m n s t) where
  pub follows_self : Follows c m m s s t n
  follows_self =
      record { no_less = comes_self Ahead level c m n s t proper; no_more = comes_self Trails level_trail c m n s t proper }

does_self : (m : Mach) → MachSimulation m m
does_self m c arguments memory doings s e =
    record { state = s; begins = e; follows = λ n proper. follows_self c m n s (first_tally c doings) proper }

module _ (c : ActivationSetting) (p q r : Mach) (s u v : State) (t : Tally) where
  pub follows_then : (n : ℕ) → Follows c p q s u t n → ((k : ℕ) → Proper c q k u t → Follows c q r u v t k) → Follows c p r s v t n
  follows_then n one two =
      let less = one.no_less in
      let more = one.no_more in
      let x = (two less.steps less.proper).no_less in
      let y = (two more.steps more.proper).no_more in
      record {
        no_less = record { steps = x.steps; alike = alike_then (λ a b d. ahead_then a.around b.around d.around) less.alike x.alike; proper = x.proper };
        no_more = record { steps = y.steps; alike = alike_then (λ a b d. trails_then a.around b.around d.around) more.alike y.alike; proper = y.proper };
      }

does_then : {p q r : Mach} → MachSimulation p q → MachSimulation q r → MachSimulation p r
does_then {p} {q} {r} one two c arguments memory doings s e =
    let u = one c arguments memory doings s e in
    let v = two c arguments memory doings u.state u.begins in
    record {
      state = v.state;
      begins = v.begins;
      follows = λ n proper. follows_then c p q r s u.state v.state (first_tally c doings) n (u.follows n proper) v.follows;
    }

pub keeps_itself : (m : Mach) → Keeps m m
keeps_itself m =
    record {
      name = refl;
      result = refl;
      does = does_self m;
      origins = λ r i l. record { register = r; among = i; loose = l; same = refl };
      slots = λ r k i e. inl (record { register = r; among = i; stands = e; same = refl });
      symbols = λ name n. n;
      externals = λ row n. n;
      addrs = λ h. h;
    }

pub keeps_then : {p q r : Mach} → Keeps p q → Keeps q r → Keeps p r
keeps_then {p} {q} {r} one two =
    record {
      name = two.name ∙ one.name;
      result = two.result ∙ one.result;
      does = does_then one.does two.does;
      origins = λ x i l.
          let y = two.origins x i l in let z = one.origins y.register y.among y.loose in
          record { register = z.register; among = z.among; loose = z.loose; same = z.same ∙ y.same };
      slots = λ x k i e. ⊎_elim by inr (two.slots x k i e);
      symbols = λ name n. one.symbols name (two.symbols name n);
      externals = λ row n. one.externals row (two.externals row n);
      addrs = λ h. two.addrs (one.addrs h);
    }
  where
    moved : {k n : ℕ} (y : HasSlot q k n) → HasSlot p k (y.register).origin → HasSlot p k n
    moved y z = record { register = z.register; among = z.among; stands = z.stands; same = z.same ∙ y.same }

    by : {k n : ℕ} → HasSlot q k n → HasSlot p k n ⊎ (k ≡ n)
    by {k} y = ⊎_elim (λ z. inl (moved y z)) (λ e. inr (e ∙ y.same)) (one.slots y.register k y.among y.stands)
