-- The result does what the function does: it may have allocated blocks already that the function has not yet.
use Rattle.std.proofs.Common.{◌≡◌, ℕ, ◌+◌, Bool, true, false, ◌⊎◌, inl, inr, ⊎_elim, List, [], ◌∷◌, ◌++◌, length, Option, Some, None, refl, sym, ap, ◌∙◌, subst, arith}
use Rattle.std.proofs.lemmas.Bool.{true≢false}
use Rattle.std.proofs.lemmas.List.{length-append, nil_from_length}
use Rattle.bs_words.specs.declared.values.Value.{Value}
use Rattle.comballoc_rules.specs.Combined.{Scanned, allocation, allocation_scanned, combined}
use Rattle.comballoc_rules.specs.Kept.{IsCombinable}
use Rattle.comballoc_rules.specs.Neighbours.{Allocates}
use Rattle.comballoc_rules.proofs.Awaited.{IsAllocation, allocation_at, apart_from, not_read, homes, distinct, counted}
use Rattle.comballoc_rules.proofs.Files.{put_is, Has, Puts, puts_has, puts_append, clear_has, frame_has, frame_loses, Holds, holds_none, starts, starts_append, holds_after, holds_before, holds_same, write_starts, held_has, values_has, length_ahead, allocated as made_blocks}
use Rattle.comballoc_rules.proofs.Live.{Runs, View, runs, ends, joined, opened, view, calm_label, calm_handler, label_is, handler_is, tries_here, calm, alloc_writes, alloc_goes, live_before}
use Rattle.comballoc_rules.proofs.Places.{open_at, scanned, merged, keeps_marks, is_code, at_start}
use Rattle.comballoc_rules.proofs.Scan.{nothing_goes}
use Rattle.comballoc_rules.proofs.Sizes.{register_before}
use Rattle.comballoc_rules.proofs.Steadily.{AllSteady, is_lost, goes_ahead, all_steady}
use Rattle.mach_ir.specs.Acts.{Around, Target, On, At, Landing, AtLabel, AtHandler, Act, Goes, Pushes, Jumps, Unwinds, Asks, Replaces, Ends, EndsRaising, Stuck, stuck_unless, is_complete}
use Rattle.mach_ir.specs.Keeps.{ValsWritten, Proper, Comes, ahead, Ahead}
use Rattle.mach_ir.specs.Meaning.{Held, File, put_all, clear_registers, killed, registers_written, values, past_frame, passes_frame, mach_act, after_label, at_handler, landing_code, tries_at, run_of_mach}
use Rattle.mach_ir.specs.Runs.{ActivationSetting, Tally}
use Rattle.mach_ir.specs.Walks.{AmongRegisters, other, Live, LiveAcross, across_step, across_raise, goes, raises}
use Rattle.mach_ir.proofs.Keeping.{ahead_more}
use Rattle.mach_ir.specs.declared.blocks.NewBlock.{NewBlock}
use Rattle.mach_ir.specs.declared.op.Access.TheVariants as access
use Rattle.mach_ir.specs.declared.op.Op.TheVariants as op
use Rattle.mach_ir.specs.declared.reg.Reg.{Reg}
use Rattle.mach_ir.specs.declared.mach.MachOp.TheVariants as mach
use Rattle.mach_ir.specs.declared.mach.Instr.{Instr}
use Rattle.mach_ir.specs.declared.mach.Mach.{Mach}
use Rattle.mach_laws.specs.Expand.{expand, Ending, all}
use Rattle.mach_laws.proofs.General as general
use Rattle.mach_laws.proofs.General.{at}
use Rattle.mach_laws.proofs.Leads.{Within, goes_in, pushes_in, jumps_in, unwinds_in, asks_in, within}
use Rattle.mach_laws.proofs.Places.{ending_next, ending_label, ending_from_handler, ending_land as ending_landing}
use Rattle.mach_laws.proofs.Simulate.{Agrees}
use Rattle.mach_laws.proofs.Among.{none_among, left_among, right_among, split_among}
use Rattle.mach_laws.proofs.Files.{put_view, of_view}

lacks : (x y : Option Held) → Has x y → y ≡ None → x ≡ None
lacks None y h e = refl
lacks (Some v) y h e = absurd (none_not v (sym e ∙ h v refl))
  where
    none_not : (v : Held) → None ≡ Some v → ⊥
    none_not v e = cc

no_values : (vs : List Value) → Some [] ≡ Some vs → vs ≡ []
no_values vs e = cc

module _ (m : Mach) (is : IsCombinable m) where
  abbrev pub q : Mach
  q = combined m

  abbrev pub f : ℕ → Instr → List Instr
  f = merged m.code

  abbrev pub at_place : List Instr → Scanned
  at_place rest = scanned m.code rest

  -- The second has allocated the blocks that go to the open allocation, and their starts are in its registers. Else it has
  -- all that the first has.
  pub record Pending (s : Scanned) (x y : Around) (a b : File) : Type 0 where
    pub same : y ≡ ahead s.blocks x
    pub holds : Holds b (length x.memory.blocks) s.results
    pub has : (n : ℕ) → (AmongRegisters n s.results → ⊥) → Has (a n) (b n)

  abbrev pub Rel : List Instr → Around → Around → File → File → Type 0
  Rel rest x y a b = Pending (at_place rest) x y a b

  -- ---- where nothing is pending

  pub no_blocks : {rest : List Instr} → Ending rest m.code → (at_place rest).results ≡ [] → (at_place rest).blocks ≡ []
  no_blocks {rest} e r =
      nil_from_length (at_place rest).blocks
      (sym (counted m is (open_at (length rest) None m.code) rest e) ∙ ap length r)

  pub quiet : {a b : File} (rest : List Instr) (x : Around) → Ending rest m.code → (at_place rest).results ≡ [] →
      ((n : ℕ) → Has (a n) (b n)) → Rel rest x x a b
  quiet {a} {b} rest x e r has =
      record {
        same = ap (λ bs. ahead bs x) (sym (no_blocks e r));
        holds = subst (Holds b (length x.memory.blocks)) (sym r) holds_none;
        has = λ n free. has n;
      }

  pub calm_land : (here : List Instr) (to : Landing) → (at_place (landing_code m.code here to)).results ≡ []
  calm_land here (AtLabel l) = calm_label m.code l m.code all
  calm_land here AtHandler = by (tries_at here)
    where
      by : (ts : List ℕ) → (at_place (at_handler m.code ts)).results ≡ []
      by [] = refl
      by (l ∷ ts) = calm_handler m.code l m.code all

  -- ---- registers of one origin are one

  pub agrees : (ws : List Reg) (s : _) → Agrees q ws s
  agrees ws s =
      record {
        agree = λ r k i j e v w x y g h.
            let same : r.number ≡ k.number = sym (is.origins r (register_before m r i)) ∙ e ∙ is.origins k (register_before m k j) in
            one x y (sym g ∙ ap s.file same ∙ h);
      }
    where
      one : (x y : Held) → Some x ≡ Some y → x.value ≡ y.value
      one x y e = cc

  -- ---- frame points

  head_is : (i j : Instr) (xs ys : List Instr) → i ∷ xs ≡ j ∷ ys → i ≡ j
  head_is i j xs ys e = cc

  tail_is : (i j : Instr) (xs ys : List Instr) → i ∷ xs ≡ j ∷ ys → xs ≡ ys
  tail_is i j xs ys e = cc

  no_frame : (i : Instr) (code : List Instr) (b : File) (y : Around) → passes_frame i.op ≡ false → ValsWritten q (at (i ∷ code) b y)
  no_frame i code b y e =
      record {
        written = λ j zs g frame r of val v none.
            true≢false (sym frame ∙ ap (λ (k : Instr). passes_frame k.op) (sym (head_is i j code zs g)) ∙ e);
      }

  frames : (i main : Instr) (next : List Instr) (a b : File) (x y : Around) →
      (passes_frame main.op ≡ true → passes_frame i.op ≡ true) → ((n : ℕ) → Has (a n) (b n)) →
      ((n : ℕ) → LiveAcross q n main (expand f next) → LiveAcross m n i next) →
      ValsWritten m (at (i ∷ next) a x) → ValsWritten q (at (main ∷ expand f next) b y)
  frames i main next a b x y points has tell known =
      record {
        written = λ j zs g frame r of val v none.
            let same = head_is main j (expand f next) zs g in
            known.written i next refl (points (subst (λ (k : Instr). passes_frame k.op ≡ true) (sym same) frame)) r
            (register_before m r of) val
            (tell r.number
            (subst (λ k. LiveAcross q r.number k (expand f next)) (sym same)
            (subst (λ ws. LiveAcross q r.number j ws) (sym (tail_is main j (expand f next) zs g)) v)))
            (lacks (a r.number) (b r.number) (has r.number) none);
      }

  pub across_ends : (i : Instr) (next : List Instr) → Ending (i ∷ next) m.code → (at_place next).results ≡ [] → (n : ℕ) →
      LiveAcross q n i (expand f next) → LiveAcross m n i next
  across_ends i next e r n (across_step free (goes On o) v) =
      across_step free (goes On o) (calm m r (live_before m (ending_next e) v))
  across_ends i next e r n (across_step free (goes (At l) o) v) =
      across_step free (goes (At l) o)
      (calm m (calm_label m.code l m.code all)
      (live_before m (ending_label l m.code) (subst (Live q n) (label_is m l) v)))
  across_ends i next e r n (across_raise (raises {l = l} h t) v) =
      across_raise (raises h (sym (tries_here m i next) ∙ t))
      (calm m (calm_handler m.code l m.code all)
      (live_before m (ending_from_handler l m.code) (subst (Live q n) (handler_is m l) v)))

  pub across_opened : (i : Instr) (next : List Instr) (blocks : List NewBlock) → Ending (i ∷ next) m.code → Allocates i blocks → (n : ℕ) →
      LiveAcross q n (allocation (blocks ++ (at_place next).blocks) (i.results ++ (at_place next).results)) (expand f next) →
      LiveAcross m n i next
  across_opened i next blocks e a n (across_step free (goes On o) v) =
      ⊎_elim
      (λ z. absurd (free (left_among (i.results ++ (at_place next).results) [] (right_among i.results (at_place next).results z))))
      (λ w.
      across_step (λ z. free (left_among (i.results ++ (at_place next).results) [] (left_among i.results (at_place next).results (alloc_writes m i blocks a z))))
      (goes On (alloc_goes m i blocks a)) w)
      (live_before m (ending_next e) v)
  across_opened i next blocks e a n (across_step free (goes (At l) (other o)) v) = elim o [ ]
  across_opened i next blocks e a n (across_raise (raises h t) v) = absurd (true≢false (sym h))

  -- ---- one instruction

  module _ (c : ActivationSetting) where
    abbrev end : ℕ
    end = c.setting.end

    abbrev Acting : Instr → Instr → List Instr → Around → Around → File → File → Act → Act → Type 0
    Acting i main next x y a b one two =
        general.Acts c m q f (keeps_marks m.code) (is_code m) Ahead Rel i main next [] x y a b one two

    abbrev Answer : Instr → List Instr → Around → Around → File → File → List Value → Type 0
    Answer i next x y a b vs =
        general.Replaces c m q f (keeps_marks m.code) (is_code m) Ahead Rel i next x y a b vs
        ⊎ general.StandsFor c m q f (keeps_marks m.code) (is_code m) Ahead Rel i next x y a b vs

    abbrev Coming : Instr → Instr → List Instr → Around → Around → File → File → Target → Type 0
    Coming i main next x y d e to = general.Past c m q f (keeps_marks m.code) (is_code m) Ahead Rel i main next [] x y d e to

    put_both : (i : Instr) (vs : List Value) (a b d : File) → put_all end i.results vs (clear_registers (killed m i) a) ≡ Some d →
        Puts end i.results vs (clear_registers (killed m i) a) d (clear_registers (killed q i) b)
    put_both i vs a b d e =
        puts_has (clear_registers (killed q i) b)
        (of_view (put_all end i.results vs (clear_registers (killed m i) a)) (put_view end i.results vs (clear_registers (killed m i) a)) e)

    acts_quiet : (i : Instr) (next : List Instr) (a b : File) (u w : Around) → general.Seen u w → Ending (i ∷ next) m.code →
        (at_place next).results ≡ [] → ((n : ℕ) → Has (a n) (b n)) → (act : Act) → Within i.op act →
        Acting i i next u w a b act act
    acts_quiet i next a b u w seen ending r has (Goes vs to after) (goes_in o) =
        general.both_go
        (λ d e.
        let y = put_both i vs a b d e in
        (y.file, put_is y.puts, past to d y.file (λ n. y.has n (λ free. clear_has (killed m i) a b n (λ free. has n)))))
      where
        past : (to : Target) (d e : File) → ((n : ℕ) → Has (d n) (e n)) → Coming i i next after after d e to
        past On d e h =
            general.on (λ z. agrees (registers_written q i) _) general.passed (λ z. quiet next after (ending_next ending) r h)
        past (At l) d e h =
            general.elsewhere refl
            (λ z. (quiet (after_label l m.code) after (ending_label l m.code) (calm_label m.code l m.code all) h, agrees (registers_written q i) _))
    acts_quiet i next a b u w seen ending r has (Jumps to after) (jumps_in l) =
        general.both_jump (tries_here m i next)
        (λ z. (quiet (landing_code m.code (i ∷ next) to) after (ending_landing to (i ∷ next) m.code) (calm_land (i ∷ next) to) has, agrees (registers_written q i) _))
    acts_quiet i next a b u w seen ending r has (Unwinds after) (unwinds_in l) =
        general.both_unwind (tries_here m i next)
        (λ z. (quiet (landing_code m.code (i ∷ next) AtHandler) after (ending_landing AtHandler (i ∷ next) m.code) (calm_land (i ∷ next) AtHandler) has, agrees (registers_written q i) _))
    acts_quiet i next a b u w seen ending r has (Pushes after) (pushes_in t) =
        general.both_push refl refl (λ z. (quiet next after (ending_next ending) r has, agrees (registers_written q i) _))
    acts_quiet i next a b u w seen ending r has (Asks whom vs go) (asks_in g) =
        general.both_ask seen (λ d. acts_quiet i next a b u w seen ending r has (go d) (g d))
    acts_quiet i next a b u w seen ending r has (Replaces whom vs kept) l = general.both_replace seen
    acts_quiet i next a b u w seen ending r has (Ends d) l = general.both_end
    acts_quiet i next a b u w seen ending r has (EndsRaising d) l = general.both_raise
    acts_quiet i next a b u w seen ending r has Stuck l = general.stuck_first

    acts_steady : (i : Instr) (next : List Instr) (a b : File) (x : Around) → Ending (i ∷ next) m.code → Runs i →
        Pending (at_place next) x (ahead (at_place next).blocks x) a b → (one two : Act) →
        AllSteady (at_place next).blocks x one two → Acting i i next x (ahead (at_place next).blocks x) a b one two
    acts_steady i next a b x ending plain rel one two is_lost = general.stuck_first
    acts_steady i next a b x ending plain rel one two (goes_ahead {vs = vs} {after = after} same shapes tries) =
        general.both_go
        (λ d e.
        let y = put_both i vs a b d e in (
          y.file,
          put_is y.puts,
          general.on (λ z. agrees (registers_written q i) _) general.passed
              (λ z.
              record {
                same = refl;
                holds = holds_same
                    (λ n j. y.free n (λ w. apart_from m is (open_at (length next) None m.code) ending j (left_among i.results (killed m i) w))
                    ∙ ap (λ ks. clear_registers ks b n) (plain.kills q))
                    (subst (λ k. Holds b k (at_place next).results) (sym same) rel.holds);
                has = λ n free. y.has n (λ w. clear_has (killed m i) a b n (λ v. rel.has n free));
              }),
        ))

    -- it ends the run, or is in none
    ends_here : (i : Instr) (next : List Instr) (x : Around) (a b : File) → Ending (i ∷ next) m.code → f (length next) i ≡ i ∷ [] →
        (at_place next).results ≡ [] → ((n : ℕ) → Has (a n) (b n)) → (vs : List Value) → values a i.args ≡ Some vs →
        Answer i next x x a b vs
    ends_here i next x a b ending shape r has vs e =
        inl
        (record {
          pre = [];
          main = i;
          post = [];
          shape = shape;
          between = b;
          passing = general.passed;
          vals = frames i i next a b x x (λ g. g) has (λ n v. across_ends i next ending r n v);
          read = vs;
          reads = values_has a b i.args (λ n j. has n) vs e;
          alike = acts_quiet i next (past_frame (passes_frame i.op) a) (past_frame (passes_frame i.op) b) x x
              (record { memory = refl; tries = refl }) ending r (λ n. frame_has (passes_frame i.op) a b n (has n))
              (mach_act c.setting i.op vs x) (within c.setting i.op vs x);
        })

    runs_here : (i : Instr) (next : List Instr) (x : Around) (a b : File) → Ending (i ∷ next) m.code → f (length next) i ≡ i ∷ [] →
        Runs i → Pending (at_place next) x (ahead (at_place next).blocks x) a b → (vs : List Value) → values a i.args ≡ Some vs →
        Answer i next x (ahead (at_place next).blocks x) a b vs
    runs_here i next x a b ending shape plain rel vs e =
        inl
        (record {
          pre = [];
          main = i;
          post = [];
          shape = shape;
          between = b;
          passing = general.passed;
          vals = λ known. no_frame i (expand f next) b (ahead (at_place next).blocks x) plain.frame;
          read = vs;
          reads = values_has a b i.args
              (λ n j. rel.has n (λ w. not_read m is (open_at (length next) None m.code) ending plain.straight w j)) vs e;
          alike = subst
              (λ t. Acting i i next x (ahead (at_place next).blocks x) (past_frame t a) (past_frame t b)
              (mach_act c.setting i.op vs x) (mach_act c.setting i.op vs (ahead (at_place next).blocks x)))
              (sym plain.frame)
              (acts_steady i next a b x ending plain rel (mach_act c.setting i.op vs x)
              (mach_act c.setting i.op vs (ahead (at_place next).blocks x))
              (all_steady c.setting vs i.op plain.straight plain.apart (at_place next).blocks x));
        })

    -- what an allocation does
    pub allocates : (blocks : List NewBlock) (rs : List Reg) (x : Around) → length rs ≡ length blocks →
        mach_act c.setting (mach.Op (op.Access (access.Alloc blocks))) [] x
        ≡ stuck_unless (is_complete x) (Goes (starts (length x.memory.blocks) rs) On (ahead blocks x))
    allocates blocks rs x e = ap (stuck_unless (is_complete x)) (made_blocks blocks rs [] x e)

    opened_here : (i : Instr) (next : List Instr) (blocks : List NewBlock) (x : Around) (a b : File) → Ending (i ∷ next) m.code →
        Allocates i blocks → IsAllocation i blocks →
        f (length next) i ≡ allocation (blocks ++ (at_place next).blocks) (i.results ++ (at_place next).results) ∷ [] →
        ((n : ℕ) → Has (a n) (b n)) → (vs : List Value) → vs ≡ [] → Answer i next x x a b vs
    opened_here i next blocks x a b ending al known shape has vs none =
        inl
        (record {
          pre = [];
          main = allocation all_blocks all_results;
          post = [];
          shape = shape;
          between = b;
          passing = general.passed;
          vals = frames i (allocation all_blocks all_results) next a b x x
              (λ g. ap passes_frame al) has (λ n v. across_opened i next blocks ending al n v);
          read = [];
          reads = refl;
          alike = subst
              (λ t. Acting i (allocation all_blocks all_results) next x x (past_frame t a) (past_frame true b) (mach_act c.setting i.op vs x)
              (mach_act c.setting (mach.Op (op.Access (access.Alloc all_blocks))) [] x))
              (sym (ap passes_frame al))
              (subst
              (λ one. Acting i (allocation all_blocks all_results) next x x (past_frame true a) (past_frame true b) one
              (mach_act c.setting (mach.Op (op.Access (access.Alloc all_blocks))) [] x))
              (sym (ap (λ g. mach_act c.setting g vs x) al ∙ ap (λ us. mach_act c.setting (mach.Op (op.Access (access.Alloc blocks))) us x) none
              ∙ allocates blocks i.results x known.sized))
              (subst
              (λ two. Acting i (allocation all_blocks all_results) next x x (past_frame true a) (past_frame true b)
              (stuck_unless (is_complete x) (Goes (starts count i.results) On (ahead blocks x))) two)
              (sym (allocates all_blocks all_results x all_sized)) (by (is_complete x))));
        })
      where
        s : Scanned
        s = at_place next

        all_blocks : List NewBlock
        all_blocks = blocks ++ (at_place next).blocks

        all_results : List Reg
        all_results = i.results ++ (at_place next).results

        count : ℕ
        count = length x.memory.blocks

        all_sized : length (i.results ++ (at_place next).results) ≡ length (blocks ++ (at_place next).blocks)
        all_sized =
            let g = length-append i.results (at_place next).results in
            let h = length-append blocks (at_place next).blocks in
            let k = known.sized in
            let l = counted m is (open_at (length next) None m.code) next (ending_next ending) in
            omega (arith, g, h, k, l)

        nothing_killed : killed m i ≡ []
        nothing_killed = ap (λ (k : Instr). killed m k) known.is

        go : (d : File) → put_all end i.results (starts (length x.memory.blocks) i.results) (clear_registers (killed m i) (past_frame true a)) ≡ Some d →
            (e : File)
            × (put_all end (i.results ++ (at_place next).results) (starts (length x.memory.blocks) (i.results ++ (at_place next).results)) (past_frame true b) ≡ Some e)
            × Coming i (allocation (blocks ++ (at_place next).blocks) (i.results ++ (at_place next).results)) next
            (ahead blocks x) (ahead (blocks ++ (at_place next).blocks) x) d e On
        go d e =
            let rest = write_starts end (length x.memory.blocks + length i.results) (past_frame true b)
            (homes m is (open_at (length next) None m.code) next (ending_next ending))
            (distinct m is (open_at (length next) None m.code) next (ending_next ending)) in
            let y = puts_has rest.file
            (of_view (put_all end i.results (starts (length x.memory.blocks) i.results) (past_frame true a))
            (put_view end i.results (starts (length x.memory.blocks) i.results) (past_frame true a))
            (ap (λ ks. put_all end i.results (starts (length x.memory.blocks) i.results) (clear_registers ks (past_frame true a))) (sym nothing_killed) ∙ e)) in (
              y.file,
              ap (λ vs. put_all end (i.results ++ (at_place next).results) vs (past_frame true b))
                  (starts_append (length x.memory.blocks) i.results (at_place next).results)
                  ∙ put_is (puts_append rest.puts y.puts),
              general.on (λ z. agrees _ _) general.passed
                  (λ z.
                  record {
                    same = ahead_more blocks (at_place next).blocks x;
                    holds = holds_same
                        (λ n j. y.free n (λ k. apart_from m is (open_at (length next) None m.code) ending j (left_among i.results (killed m i) k)))
                        (subst (λ k. Holds rest.file k (at_place next).results)
                        (ap (λ k. length x.memory.blocks + k) known.sized ∙ sym (length_ahead blocks x)) rest.holds);
                    has = λ n free. y.has n (λ w v g. rest.free n free ∙ frame_has true a b n (has n) v g);
                  }),
            )

        by : (t : Bool) → Acting i (allocation (blocks ++ (at_place next).blocks) (i.results ++ (at_place next).results)) next x x
            (past_frame true a) (past_frame true b)
            (stuck_unless t (Goes (starts (length x.memory.blocks) i.results) On (ahead blocks x)))
            (stuck_unless t (Goes (starts (length x.memory.blocks) (i.results ++ (at_place next).results)) On (ahead (blocks ++ (at_place next).blocks) x)))
        by false = general.stuck_first
        by true = general.both_go go

    joined_here : (i : Instr) (next : List Instr) (blocks : List NewBlock) (x : Around) (a b : File) → Ending (i ∷ next) m.code →
        Allocates i blocks → IsAllocation i blocks → f (length next) i ≡ [] →
        Pending (allocation_scanned true blocks i.results (at_place next)) x (ahead (blocks ++ (at_place next).blocks) x) a b →
        (vs : List Value) → vs ≡ [] → Answer i next x (ahead (blocks ++ (at_place next).blocks) x) a b vs
    joined_here i next blocks x a b ending al known shape rel vs none =
        inr
        (record {
          code = [];
          shape = shape;
          skips = subst Skipping
              (sym (ap (λ g. mach_act c.setting g vs x) al ∙ ap (λ us. mach_act c.setting (mach.Op (op.Access (access.Alloc blocks))) us x) none
              ∙ allocates blocks i.results x known.sized)) (by (is_complete x));
        })
      where
        Skipping : Act → Type 0
        Skipping z =
            (z ≡ Stuck)
            ⊎ ((results : List Value) × (after : Around) × (z ≡ Goes results On after)
            × ((d : File) → put_all end i.results results (clear_registers (killed m i) (past_frame (passes_frame i.op) a)) ≡ Some d →
            general.Skips c m q f (keeps_marks m.code) (is_code m) Ahead Rel i next [] after (ahead (blocks ++ (at_place next).blocks) x) b d))

        nothing_killed : killed m i ≡ []
        nothing_killed = ap (λ (k : Instr). killed m k) known.is

        go : (d : File) →
            put_all end i.results (starts (length x.memory.blocks) i.results) (clear_registers (killed m i) (past_frame (passes_frame i.op) a)) ≡ Some d →
            general.Skips c m q f (keeps_marks m.code) (is_code m) Ahead Rel i next [] (ahead blocks x) (ahead (blocks ++ (at_place next).blocks) x) b d
        go d e =
            let puts = of_view (put_all end i.results (starts (length x.memory.blocks) i.results) (past_frame (passes_frame i.op) a))
            (put_view end i.results (starts (length x.memory.blocks) i.results) (past_frame (passes_frame i.op) a))
            (ap (λ ks. put_all end i.results (starts (length x.memory.blocks) i.results) (clear_registers ks (past_frame (passes_frame i.op) a))) (sym nothing_killed) ∙ e) in
            record {
              after = b;
              passing = general.passed;
              rel = λ z.
                  record {
                    same = ahead_more blocks (at_place next).blocks x;
                    holds = subst (λ k. Holds b k (at_place next).results)
                        (ap (λ k. length x.memory.blocks + k) known.sized ∙ sym (length_ahead blocks x))
                        (holds_after (length x.memory.blocks) i.results rel.holds);
                    has = λ n free.
                        held_has (holds_before (length x.memory.blocks) i.results (at_place next).results rel.holds) puts n
                        (λ out v g. rel.has n (λ j. ⊎_elim out free (split_among n i.results (at_place next).results j)) v
                        (frame_loses (passes_frame i.op) a n v g));
                  };
            }

        by : (t : Bool) → (stuck_unless t (Goes (starts (length x.memory.blocks) i.results) On (ahead blocks x)) ≡ Stuck)
            ⊎ ((results : List Value) × (after : Around) × (stuck_unless t (Goes (starts (length x.memory.blocks) i.results) On (ahead blocks x)) ≡ Goes results On after)
            × ((d : File) → put_all end i.results results (clear_registers (killed m i) (past_frame (passes_frame i.op) a)) ≡ Some d →
            general.Skips c m q f (keeps_marks m.code) (is_code m) Ahead Rel i next [] after (ahead (blocks ++ (at_place next).blocks) x) b d))
        by false = inl refl
        by true = inr (starts (length x.memory.blocks) i.results, ahead blocks x, refl, go)

    -- an allocation reads nothing
    pub reads_nothing : (i : Instr) (blocks : List NewBlock) → IsAllocation i blocks → (a : File) (vs : List Value) → values a i.args ≡ Some vs → vs ≡ []
    reads_nothing i blocks known a vs e = no_values vs (ap (λ (k : Instr). values a k.args) (sym known.is) ∙ e)

    by_view : (i : Instr) (next : List Instr) (x : Around) (a b : File) → Ending (i ∷ next) m.code → (vs : List Value) → values a i.args ≡ Some vs →
        (s : Scanned) (xs : List Instr) → f (length next) i ≡ xs → View i (at_place next) s xs → Pending s x (ahead s.blocks x) a b →
        Answer i next x (ahead s.blocks x) a b vs
    by_view i next x a b ending vs e s xs shape (runs plain) rel =
        runs_here i next x a b ending shape plain (record { same = refl; holds = rel.holds; has = rel.has }) vs e
    by_view i next x a b ending vs e s xs shape (ends n bs rs) rel =
        subst (λ y. Answer i next x y a b vs) (ap (λ bs. ahead bs x) (sym bs))
        (ends_here i next x a b ending shape rs (λ n. rel.has n (λ j. none_among (subst (AmongRegisters n) rs j))) vs e)
    by_view i next x a b ending vs e s xs shape (joined blocks al) rel =
        let known = allocation_at m is ending blocks al in
        joined_here i next blocks x a b ending al known shape rel vs (reads_nothing i blocks known a vs e)
    by_view i next x a b ending vs e s xs shape (opened blocks al) rel =
        let known = allocation_at m is ending blocks al in
        opened_here i next blocks x a b ending al known shape (λ n. rel.has n (λ j. none_among j)) vs (reads_nothing i blocks known a vs e)

    pub serves : general.Serves c m q f (keeps_marks m.code) (is_code m) Ahead Rel
    serves =
        record {
          suits = λ rest x y a b rel. record { blocks = (at_place rest).blocks; same = rel.same };
          each = λ i next x y a b ending rel vs e.
              subst (λ z. Answer i next x z a b vs) (sym rel.same)
              (by_view i next x a b ending vs e (at_place (i ∷ next)) (f (length next) i) refl (view m.code i next ending)
              (record { same = refl; holds = rel.holds; has = rel.has }));
        }

    -- Wherever the function is not stuck, the result comes to what it does, and has allocated no less.
    pub no_less : (a : File) (x : Around) (n : ℕ) (t : Tally) → Proper c m n (at m.code a x) t →
        Comes Ahead (run_of_mach c m n (at m.code a x) t) c q (at q.code a x) t
    no_less a x n t proper =
        general.comes_from c m q f (keeps_marks m.code) (is_code m) Ahead Rel serves a a x x
        (quiet m.code x all (ap (λ (s : Scanned). s.results) (at_start m.code) ∙ (nothing_goes m.code).1) (λ n v e. e)) n t proper
