-- What a function without its dead instructions keeps, and that it is one.
use Rattle.std.proofs.Common.{◌≡◌, ℕ, ◌≤◌, Bool, true, false, cond, ◌&&◌, inl, inr, List, [], ◌∷◌, ◌++◌, length, refl, sym, ap, ◌∙◌, subst, arith}
use Rattle.std.proofs.Math.Nat.{le_trans}
use Rattle.mach_ir.specs.Acts.{On}
use Rattle.mach_ir.specs.Formed.{IsFormedInstruction, AreDistinct, LabelOccursIn, HasHandler, WellFormed}
use Rattle.mach_ir.specs.Keeps.{Keeps, NamesSymbol, NamesExternal}
use Rattle.mach_ir.specs.Meaning.{after_label, from_handler}
use Rattle.mach_ir.specs.Placed.{WellPlaced, AllocatesFresh}
use Rattle.mach_ir.specs.Seats.{Seated}
use Rattle.mach_ir.specs.Sizes.{operand_count, Size, HasSize}
use Rattle.mach_ir.specs.Walks.{goes, after_step, Live, IsRegister, StandsAsInstr, here, below}
use Rattle.mach_ir.specs.declared.reg.Reg.{Reg}
use Rattle.mach_ir.specs.declared.mach.Instr.{Instr}
use Rattle.mach_ir.specs.declared.mach.Mach.{Mach}
use Rattle.mach_laws.specs.Expand.{expand}
use Rattle.mach_laws.proofs.Places.{ending_next, ending_of, stands_behind, stands_within, head_of, tail_of, straight_cons}
use Rattle.pass_rules.proofs.Formed.{KeepsPlaces, stood}
use Rattle.pass_rules.proofs.Formed as places
use Rattle.deadcode_rules.specs.Dropped.{may_go, unless_dropped, dropped, AreDead, IsDropped, HasLiveResult, IsDropKept}
use Rattle.deadcode_rules.proofs.Kept.{does_dropped}
use Rattle.deadcode_rules.proofs.Left.{IsMain, was_main, contains_left, place_left, handler_left, tries_before, run_back, label_is, handler_is, contains_back}
use Rattle.deadcode_rules.proofs.Live.{used_there, was_register, joined_back, no_addr_back}
use Rattle.deadcode_rules.proofs.Text.{pure_of, pure_on, mark_stays, Fate, falls, remains, fate, same_labels}

module _ (m : Mach) (drops : ℕ → Bool) (dead : AreDead m drops) where
  abbrev q : Mach
  q = dropped drops m

  abbrev f : ℕ → Instr → List Instr
  f = unless_dropped drops

  main : (j : Instr) (zs : List Instr) → StandsAsInstr j zs q.code → IsMain drops j zs m.code
  main j zs s = was_main drops m.code j zs s

  was : (r : Reg) → IsRegister q r → IsRegister m r
  was r i = was_register m drops dead r i

  -- ---- what is in the code

  -- ---- allocations

  still_fresh : AllocatesFresh m → AllocatesFresh q
  still_fresh known =
      record {
        fresh = λ i zs s blocks e r c.
            let w = main i zs s in
            let h = known.fresh i w.next w.stands blocks e r c in
            record {
              open_place = h.open_place;
              once = λ j ys t x.
                  let v = main j ys t in v.same ∙ ap (expand f) (h.once j v.next v.stands x) ∙ sym w.same;
              no_param = h.no_param;
              own = λ k t o. h.own k (was k t) o;
              unread = λ j run t st a.
                  let v = main j (run ++ i ∷ zs) t in
                  let u = run_back drops v.next run i zs v.same (tail_of j run st) in
                  let there : StandsAsInstr j (u.run ++ i ∷ u.next) m.code = subst (λ xs. StandsAsInstr j xs m.code) u.same v.stands in
                  (known.fresh i u.next (stands_within there (stands_behind u.run i u.next)) blocks e r c).unread j u.run there
                  (straight_cons j u.run (head_of j run st) u.straight) a;
            };
      }

  -- ---- sizes

  fewer : (code : List Instr) → (length (expand f code) ≤ length code) × (operand_count (expand f code) ≤ operand_count code)
  fewer [] = (omega arith, omega arith)
  fewer (i ∷ is) = by (fate drops i is) (fewer is)
    where
      by : Fate drops i is → (length (expand f is) ≤ length is) × (operand_count (expand f is) ≤ operand_count is) →
          (length (expand f (i ∷ is)) ≤ length (i ∷ is)) × (operand_count (expand f (i ∷ is)) ≤ operand_count (i ∷ is))
      by (falls g d s h) t =
          let a = t.0 in
          let b = t.1 in
          let x = ap length h in let y = ap operand_count h in (omega (arith, a, x), omega (arith, b, y))
      by (remains k s h) t =
          let a = t.0 in
          let b = t.1 in
          let x = ap length h in let y = ap operand_count h in (omega (arith, a, x), omega (arith, b, y))

  smaller : (s : Size) → HasSize m s → HasSize q s
  smaller s h =
      let t = fewer m.code in
      record {
        instrs = le_trans t.0 h.instrs;
        operands = le_trans t.1 h.operands;
        numbers = λ r i. h.numbers r (was r i);
        origins = λ r i. h.origins r (was r i);
        labels = h.labels;
      }

  -- ---- none is left

  left_live : (i : Instr) (zs : List Instr) → StandsAsInstr i zs q.code → may_go i.op ≡ true → HasLiveResult q i zs
  left_live i zs s g =
      let w = main i zs s in
      let u = dead.wanted i w.next w.stands g (w.kept g) in
      record {
        number = u.number;
        among = u.among;
        live = after_step (goes On (pure_on (pure_of i.op g)))
            (subst (Live q u.number) (sym w.same) (used_there m drops dead u.used (ending_next (ending_of w.stands))));
      }

  still_seated : Seated m → Seated q
  still_seated = places.still_seated m q.code (contains_back drops m.code)

  keeps_places : KeepsPlaces m q.code
  keeps_places =
      record {
        whence = λ i zs s.
            let w = main i zs s in
            stood w.stands (tries_before drops w.next w.same) (λ l p. subst (LabelOccursIn l) (sym w.same) (place_left drops p))
            (λ l p. subst (HasHandler l) (sym w.same) (handler_left drops p));
        among = λ i c. inr (contains_back drops m.code i c);
        marks = λ i g e c. contains_left drops m.code i (mark_stays g i.op e) c;
        places = λ l p. place_left drops p;
        labels = same_labels drops m.code;
        tries = tries_before drops m.code refl;
        label_tries = λ l. tries_before drops (after_label l m.code) (label_is m drops l);
        handler_tries = λ l. tries_before drops (from_handler l m.code) (handler_is m drops l);
        registers = was;
      }

  module _ (formed : WellFormed m) (placed : WellPlaced m) where
    still_formed : WellFormed q
    still_formed =
        places.still_formed m q.code formed keeps_places
        (places.all_still m q.code (contains_back drops m.code) IsFormedInstruction formed.instrs)
        (places.all_still m q.code (contains_back drops m.code) (λ (i : Instr). AreDistinct i.results) formed.distinct)

    still_placed : WellPlaced q
    still_placed = places.still_placed m q.code was (λ r k i j joined fixed e. joined_back m drops dead joined) placed

    still_keeps : Keeps m q
    still_keeps =
        record {
          name = refl;
          result = refl;
          does = does_dropped m drops dead formed;
          origins = λ r i loose. record { register = r; among = was r i; loose = loose; same = refl };
          slots = λ r k i s. inl (record { register = r; among = was r i; stands = s; same = refl });
          symbols = λ name. places.named_before m q.code (contains_back drops m.code) (NamesSymbol name);
          externals = λ row. places.named_before m q.code (contains_back drops m.code) (NamesExternal row);
          addrs = no_addr_back m drops dead;
        }

    pub kept_by : IsDropKept m (dropped drops m)
    kept_by =
        record {
          pass = record { keeps = still_keeps; formed = still_formed; placed = λ _. still_placed; seated = still_seated };
          no_larger = record { params = refl; registers = was; size = smaller };
          fresh = still_fresh;
          none_left = left_live;
        }

pub dropped_kept : (m q : Mach) → WellFormed m → WellPlaced m → IsDropped m q → IsDropKept m q
dropped_kept m q formed placed d = subst (IsDropKept m) (sym d.is) (kept_by m d.drops d.dead formed placed)

-- ---- one result

module _ (m : Mach) (x y : ℕ → Bool) (dx : AreDead m x) (dy : AreDead m y) where
  one_block : (i : Instr) (next : List Instr) → StandsAsInstr i next m.code → unless_dropped x (length next) i ≡ unless_dropped y (length next) i
  one_block i next s = by (may_go i.op) (x (length next)) (y (length next)) refl refl refl
    where
      by : (g a b : Bool) → may_go i.op ≡ g → x (length next) ≡ a → y (length next) ≡ b → cond (g && a) [] (i ∷ []) ≡ cond (g && b) [] (i ∷ [])
      by false a b e h k = refl
      by true true true e h k = refl
      by true false false e h k = refl
      by true true false e h k = absurd (dx.dead i next s e h (dy.wanted i next s e k))
      by true false true e h k = absurd (dy.dead i next s e k (dx.wanted i next s e h))

  pub one_code : (code : List Instr) → ((i : Instr) (next : List Instr) → StandsAsInstr i next code → StandsAsInstr i next m.code) →
      expand (unless_dropped x) code ≡ expand (unless_dropped y) code
  one_code [] known = refl
  one_code (i ∷ is) known =
      ap (λ xs. xs ++ expand (unless_dropped x) is) (one_block i is (known i is here))
      ∙ ap (λ xs. unless_dropped y (length is) i ++ xs) (one_code is (λ j next s. known j next (below s)))

-- Dropping makes one function of each.
pub one_dropped : (m q k : Mach) → IsDropped m q → IsDropped m k → q ≡ k
one_dropped m q k a b =
    a.is
    ∙ ap (λ code. record m { code = code }) (one_code m a.drops b.drops a.dead b.dead m.code (λ i next s. s))
    ∙ sym b.is
