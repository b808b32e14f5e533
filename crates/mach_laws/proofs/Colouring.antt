-- The graph of a function is one that colouring takes, and what colouring gives for it is a colouring of the function.
use Rattle.std.proofs.Common.{◌≡◌, ℕ, Bool, true, false, cond, not, ◌&&◌, ◌⊎◌, inl, inr, ⊎_elim, List, [], ◌∷◌, map, refl, sym, subst}
use Rattle.std.specs.List.{Contains}
use Rattle.mach_ir.specs.Graph.{InGraph, JoinedIn, IsGraph, IsColourable}
use Rattle.mach_ir.specs.Meaning.{Destroyed, Nothing, Temporaries, Everything, destroyed_by, is_destroyed, is_at_one_of, killed_among, killed_by, killed, registers_written}
use Rattle.mach_ir.specs.Placed.{Colouring, IsProperColouring, WellPlaced}
use Rattle.mach_ir.specs.Walks.{AmongRegisters, first, later, goes, raises, Live, read, on, aside, LiveAfter, after_step, InCode, in_args, in_results, further, IsRegister, is_param, is_colour, is_in_code, Meets, at_write, at_params, Joined, one_way, other_way}
use Rattle.mach_ir.specs.declared.graph.Node.{Node}
use Rattle.mach_ir.specs.declared.graph.Graph.{Graph}
use Rattle.mach_ir.specs.declared.reg.Reg.{Reg}
use Rattle.mach_ir.specs.declared.mach.Instr.{Instr}
use Rattle.mach_ir.specs.declared.mach.Mach.{Mach}
use Rattle.bs_words.proofs.Lists.{none_in, first_in, later_in, in_cons}
use Rattle.mach_laws.specs.Expand.{Ending, all, more}
use Rattle.mach_laws.proofs.Places.{ending_from_handler, ending_of}
use Rattle.mach_laws.proofs.Walking.{ending_at}
use Rattle.mach_laws.proofs.Among.{split_among}

-- a register of these has the number
record HasNumber (n : ℕ) (rs : List Reg) : Type 0 where
  reg : Reg
  among : Contains rs reg
  same : reg.number ≡ n

-- a register of the function has it
record IsNumber (m : Mach) (n : ℕ) : Type 0 where
  reg : Reg
  is : IsRegister m reg
  same : reg.number ≡ n

number_among : {n : ℕ} {rs : List Reg} → AmongRegisters n rs → HasNumber n rs
number_among (first {r = r} {rs = rs} e) = record { reg = r; among = first_in r rs; same = e }
number_among (later {r = r} {rs = rs} a) =
    let h = number_among a in record { reg = h.reg; among = later_in r h.reg rs h.among; same = h.same }

if_killed : (n : ℕ) (r : Reg) (rs others : List Reg) → (AmongRegisters n others → AmongRegisters n rs) → (b : Bool) →
    AmongRegisters n (cond b (r ∷ others) others) → AmongRegisters n (r ∷ rs)
if_killed n r rs others h true (first e) = first e
if_killed n r rs others h true (later a) = later (h a)
if_killed n r rs others h false a = later (h a)

pub of_killed : (n : ℕ) (rs : List Reg) (d : Destroyed) (results : List Reg) → AmongRegisters n (killed_among rs d results) → AmongRegisters n rs
of_killed n [] d results a = a
of_killed n (r ∷ rs) d results a =
    if_killed n r rs (killed_among rs d results) (of_killed n rs d results)
    (is_destroyed d r.loc && not (is_at_one_of r.loc results)) a

pub of_killed_by : (n : ℕ) (rs : List Reg) (d : Destroyed) (results : List Reg) → AmongRegisters n (killed_by rs d results) → AmongRegisters n rs
of_killed_by n rs Nothing results a = elim a [ ]
of_killed_by n rs Temporaries results a = of_killed n rs Temporaries results a
of_killed_by n rs Everything results a = of_killed n rs Everything results a

module _ (m : Mach) where
  in_code : {i : Instr} {next code : List Instr} {r : Reg} → Ending (i ∷ next) code →
      Contains i.args r ⊎ Contains i.results r → InCode r code
  in_code all c = ⊎_elim in_args in_results c
  in_code (more e) c = further (in_code e c)

  of_args : {n : ℕ} {i : Instr} {next : List Instr} → Ending (i ∷ next) m.code → AmongRegisters n i.args → IsNumber m n
  of_args e a =
      let h = number_among a in
      record { reg = h.reg; is = is_in_code (in_code e (inl h.among)); same = h.same }

  of_written : (n : ℕ) (i : Instr) (next : List Instr) → Ending (i ∷ next) m.code → AmongRegisters n (registers_written m i) → IsNumber m n
  of_written n i next e a = ⊎_elim of_results of_colours (split_among n i.results (killed m i) a)
    where
      of_results : AmongRegisters n i.results → IsNumber m n
      of_results b =
          let h = number_among b in
          record { reg = h.reg; is = is_in_code (in_code e (inr h.among)); same = h.same }

      of_colours : AmongRegisters n (killed m i) → IsNumber m n
      of_colours b =
          let h = number_among (of_killed_by n m.colours (destroyed_by i.op) i.results b) in
          record { reg = h.reg; is = is_colour h.among; same = h.same }

  of_live : {n : ℕ} {rest : List Instr} → Live m n rest → Ending rest m.code → IsNumber m n
  of_live (read a) e = of_args e a
  of_live (on w (goes t o) l) e = of_live l (ending_at t e)
  of_live (aside (raises {l = l} b t) live) e = of_live live (ending_from_handler l m.code)

  of_live_after : {n : ℕ} {i : Instr} {next : List Instr} → LiveAfter m n i next → Ending (i ∷ next) m.code → IsNumber m n
  of_live_after (after_step (goes t o) l) e = of_live l (ending_at t e)

  record Both (n k : ℕ) : Type 0 where
    one : IsNumber m n
    two : IsNumber m k

  of_meets : {n k : ℕ} → Meets m n k → Both n k
  of_meets {n} (at_write i next s w l not_move) =
      record { one = of_written n i next (ending_of s) w; two = of_live_after l (ending_of s) }
  of_meets (at_params a l) =
      let h = number_among a in
      record { one = record { reg = h.reg; is = is_param h.among; same = h.same }; two = of_live l all }

  of_joined : {n k : ℕ} → Joined m n k → Both n k
  of_joined (one_way ne h) = of_meets h
  of_joined (other_way ne h) = let b = of_meets h in record { one = b.two; two = b.one }

  pub joined_back : {n k : ℕ} → Joined m n k → Joined m k n
  joined_back (one_way ne h) = other_way (λ e. ne (sym e)) h
  joined_back (other_way ne h) = one_way (λ e. ne (sym e)) h

  not_itself : {n : ℕ} → Joined m n n → ⊥
  not_itself (one_way ne h) = ne refl
  not_itself (other_way ne h) = ne refl

  module _ (g : Graph) (is : IsGraph m g) where
    node_in : (x : Node) (xs : List Node) → Contains xs x → Contains (map (λ (x : Node). x.reg) xs) x.reg
    node_in x [] c = absurd (none_in x c)
    node_in x (y ∷ ys) c =
        ⊎_elim
        (λ e.
        subst (λ (z : Node). Contains (y.reg ∷ map (λ (x : Node). x.reg) ys) z.reg) e
        (first_in y.reg (map (λ (x : Node). x.reg) ys)))
        (λ d. later_in y.reg x.reg (map (λ (x : Node). x.reg) ys) (node_in x ys d)) (in_cons y x ys c)

    of_edge : (n k : ℕ) → JoinedIn g n k → Joined m n k
    of_edge n k j =
        let r = (j.node).reg in
        let is_one : IsRegister m r = (is.registers r).0 (node_in j.node g.nodes j.among) in
        subst (λ n. Joined m n k) j.number
        ((is.edges r is_one k).0 (record { node = j.node; among = j.among; number = refl; joins = j.joins }))

    to_edge : (n k : ℕ) → Joined m n k → JoinedIn g n k
    to_edge n k j =
        let b = (of_joined j).one in
        subst (λ n. JoinedIn g n k) b.same ((is.edges b.reg b.is k).1 (subst (λ n. Joined m n k) (sym b.same) j))

    -- the graph of a well-placed function is one that colouring takes
    pub colourable : WellPlaced m → IsColourable g
    colourable well =
        record {
          order = is.order;
          symmetric = λ n k j. to_edge k n (joined_back (of_edge n k j));
          apart_from_itself = λ n j. not_itself (of_edge n n j);
          agree = record {
            places = λ r i. (well.agree).places r ((is.registers r).0 i);
            apart = λ r q i j e. (well.agree).apart r q ((is.registers r).0 i) ((is.registers q).0 j) (of_edge r.number q.number e);
          };
        }

    -- a colouring of it is one of the function
    pub colouring_of : (place : Colouring) → IsProperColouring (InGraph g) (JoinedIn g) place →
        IsProperColouring (IsRegister m) (Joined m) place
    colouring_of place h =
        record {
          fixed = λ r i. h.fixed r ((is.registers r).1 i);
          places = λ r i. h.places r ((is.registers r).1 i);
          apart = λ r q i j e. h.apart r q ((is.registers r).1 i) ((is.registers q).1 j) (to_edge r.number q.number e);
        }
