-- Passes of which the relation says that what is round both functions is the same: the second does what the first does.
use Rattle.std.proofs.Common.{◌≡◌, ℕ, List, [], ◌∷◌, ◌++◌, length, ◌⊎◌, Option, Some, None, refl, sym, ap, ◌∙◌, subst}
use Rattle.bs_words.specs.Memory.{Memory}
use Rattle.bs_words.specs.declared.values.Value.{Value}
use Rattle.mach_ir.specs.Known.{Doing}
use Rattle.mach_ir.specs.Acts.{Around, Target, Landing, AtHandler, Act, Goes, Pushes, Jumps, Unwinds, Asks, Replaces, Ends, EndsRaising, Stuck}
use Rattle.mach_ir.specs.Runs.{ActivationSetting, Tally, first_tally, entry_around}
use Rattle.mach_ir.specs.Meaning.{State, File, put_all, clear_registers, killed, registers_written, values, past_frame, passes_frame, tries_at, mach_act, mach_start, begin_mach}
use Rattle.mach_ir.specs.Walks.{OneOf, targets}
use Rattle.mach_ir.specs.Keeps.{ValsWritten, Ahead, Trails, Proper, Follows, Begins}
use Rattle.mach_ir.proofs.Keeping.{level, level_trail}
use Rattle.mach_ir.specs.declared.mach.Instr.{Instr}
use Rattle.mach_ir.specs.declared.mach.Mach.{Mach}
use Rattle.mach_laws.specs.Expand.{KeepsMarks, expand}
use Rattle.mach_laws.proofs.General as general
use Rattle.mach_laws.proofs.General.{at}
use Rattle.mach_laws.proofs.Leads.{Within, goes_in, pushes_in, jumps_in, unwinds_in, asks_in, MayLand, lands_at_handler, IsTry, within}
use Rattle.mach_laws.proofs.Raised.{IsRaised, Told, told_jump, told_unwind, told_ask}
use Rattle.mach_laws.proofs.Simulate.{Agrees}

-- What both theorems give together at the entry, where the parameters take the same.
module _ (c : ActivationSetting) (p q : Mach) where
  pub begins_by : ((vs : List Value) → put_all c.setting.end q.params vs (λ n. None) ≡ put_all c.setting.end p.params vs (λ n. None)) →
      ((arguments : List Value) (memory : Memory) (a : File) (t : Tally) (n : ℕ) →
      put_all c.setting.end p.params arguments (λ n. None) ≡ Some a →
      Proper c p n (at p.code a (entry_around memory)) t →
      Follows c p q (at p.code a (entry_around memory)) (at q.code a (entry_around memory)) t n) →
      (arguments : List Value) (memory : Memory) (doings : List Doing) (s : State) →
      mach_start c p arguments memory ≡ Some s → Begins c p q arguments memory doings s
  begins_by same follows arguments memory doings s is =
      by (put_all c.setting.end p.params arguments (λ n. None)) refl is
    where
      none_some : (s : State) → None ≡ Some s → ⊥
      none_some s e = cc

      some_same : (x y : State) → Some x ≡ Some y → x ≡ y
      some_same x y e = cc

      by : (o : Option File) → put_all c.setting.end p.params arguments (λ n. None) ≡ o → begin_mach p memory o ≡ Some s →
          Begins c p q arguments memory doings s
      by None e b = absurd (none_some s b)
      by (Some a) e b =
          subst (Begins c p q arguments memory doings) (some_same (at p.code a (entry_around memory)) s b)
          (record {
            state = at q.code a (entry_around memory);
            begins = ap (begin_mach q memory) (same arguments ∙ e);
            follows = λ n proper. follows arguments memory a (first_tally c doings) n e proper;
          })

  pub begins_at : q.params ≡ p.params →
      ((arguments : List Value) (memory : Memory) (a : File) (t : Tally) (n : ℕ) →
      put_all c.setting.end p.params arguments (λ n. None) ≡ Some a →
      Proper c p n (at p.code a (entry_around memory)) t →
      Follows c p q (at p.code a (entry_around memory)) (at q.code a (entry_around memory)) t n) →
      (arguments : List Value) (memory : Memory) (doings : List Doing) (s : State) →
      mach_start c p arguments memory ≡ Some s → Begins c p q arguments memory doings s
  begins_at same = begins_by (λ vs. ap (λ ps. put_all c.setting.end ps vs (λ n. None)) same)

-- what is round both stays level, where it is the same
pub ahead_of : (x y : Around) → x ≡ y → Ahead x y
ahead_of x y e = subst (Ahead x) e (level x)

pub trails_of : (x y : Around) → x ≡ y → Trails x y
trails_of x y e = subst (Trails x) e (level_trail x)

module _ (c : ActivationSetting) (p q : Mach) (f : ℕ → Instr → List Instr) (keeps : KeepsMarks f) (is_code : q.code ≡ expand f p.code)
    (Rel : List Instr → File → File → Type 0) where
  -- what is round both is the same
  abbrev pub Level : List Instr → Around → Around → File → File → Type 0
  Level rest x y a b = (x ≡ y) × Rel rest a b

  -- what such a pass owes for each instruction, whatever is said of what is round
  abbrev pub Serves : (Around → Around → Type 0) → Type 0
  Serves Suit = general.Serves c p q f keeps is_code Suit Level

  pub follows_from : ((Suit : Around → Around → Type 0) → ((x y : Around) → x ≡ y → Suit x y) → Serves Suit) →
      (a b : File) (x : Around) → Rel p.code a b → (n : ℕ) (t : Tally) → Proper c p n (at p.code a x) t →
      Follows c p q (at p.code a x) (at q.code b x) t n
  follows_from serves a b x rel n t proper =
      record {
        no_less = general.comes_from c p q f keeps is_code Ahead Level (serves Ahead ahead_of) a b x x (refl, rel) n t proper;
        no_more = general.comes_from c p q f keeps is_code Trails Level (serves Trails trails_of) a b x x (refl, rel) n t proper;
      }

-- ---- instructions whose operation stays

module _ (c : ActivationSetting) (p q : Mach) (f : ℕ → Instr → List Instr) (keeps : KeepsMarks f) (is_code : q.code ≡ expand f p.code)
    (Suit : Around → Around → Type 0) (Rel : List Instr → File → File → Type 0) where
  abbrev SameLevel : List Instr → Around → Around → File → File → Type 0
  SameLevel = Level c p q f keeps is_code Rel

  abbrev pub Past : Instr → Instr → List Instr → List Instr → Around → File → File → Target → Type 0
  Past i main next post x d e to = general.Past c p q f keeps is_code Suit SameLevel i main next post x x d e to

  -- What is asked where both do the same operation, whichever it is: of what they write, of where they land, and of
  -- tries. Where it lands, it is silent, or a value is raised.
  pub record SameOperation (Silent : Type 0) (i main : Instr) (next post : List Instr) (a b : File) : Type 0 where
    pub goes : (vs : List Value) (d : File) → put_all c.setting.end i.results vs (clear_registers (killed p i) a) ≡ Some d →
        (e : File) × (put_all c.setting.end main.results vs (clear_registers (killed q main) b) ≡ Some e)
        × ((x : Around) (to : Target) → OneOf to (targets i.op) → Past i main next post x d e to)
    pub lands : (x : Around) (to : Landing) → MayLand i.op to → Silent ⊎ IsRaised x.raised →
        general.Lands c p q f keeps is_code Suit SameLevel i main next post to x x a b
    pub tries : tries_at (main ∷ (post ++ expand f next)) ≡ tries_at (i ∷ next)
    pub pushes : IsTry i.op → (post ≡ [])
        × ((x : Around) → Agrees p (registers_written p i) (at next a x) →
        SameLevel next x x a b × Agrees q (registers_written q main) (at (expand f next) b x))

  acts_same : {Silent : Type 0} {i main : Instr} {next post : List Instr} {a b : File} (x : Around) → SameOperation Silent i main next post a b →
      (act : Act) → Within i.op act → Told Silent act →
      general.Acts c p q f keeps is_code Suit SameLevel i main next post x x a b act act
  acts_same x same (Goes vs to after) (goes_in o) t =
      general.both_go (λ d e. let g = same.goes vs d e in (g.0, g.1, g.2 after to o))
  acts_same x same (Jumps to after) (jumps_in l) (told_jump s) = general.both_jump same.tries (same.lands after to l s)
  acts_same x same (Unwinds after) (unwinds_in r) (told_unwind s) =
      general.both_unwind same.tries (same.lands after AtHandler (lands_at_handler r) s)
  acts_same x same (Pushes after) (pushes_in t) u = let g = same.pushes t in general.both_push g.0 refl (g.1 after)
  acts_same x same (Asks whom vs go) (asks_in w) (told_ask t) =
      general.both_ask (record { memory = refl; tries = refl }) (λ d. acts_same x same (go d) (w d) (t d))
  acts_same x same (Replaces whom vs kept) w t = general.both_replace (record { memory = refl; tries = refl })
  acts_same x same (Ends d) w t = general.both_end
  acts_same x same (EndsRaising d) w t = general.both_raise
  acts_same x same Stuck w t = general.stuck_first

  -- Straight code, the same operation, straight code.
  pub record StaysRound (Silent : Type 0) (i : Instr) (next : List Instr) (x : Around) (a b : File) (vs : List Value) : Type 0 where
    pub pre : List Instr
    pub main : Instr
    pub post : List Instr
    pub shape : f (length next) i ≡ pre ++ main ∷ post
    pub same_op : main.op ≡ i.op
    pub between : File
    pub passing : general.Passes c p q f keeps is_code Suit SameLevel (Unit {0}) x pre (main ∷ (post ++ expand f next)) b between
    pub vals : ValsWritten p (at (i ∷ next) a x) → ValsWritten q (at (main ∷ (post ++ expand f next)) between x)
    pub reads : values between main.args ≡ Some vs
    pub told : Told Silent (mach_act c.setting i.op vs x)
    pub same : SameOperation Silent i main next post (past_frame (passes_frame i.op) a) (past_frame (passes_frame main.op) between)

  pub replaces : {Silent : Type 0} {i : Instr} {next : List Instr} {a b : File} {vs : List Value} (x : Around) →
      StaysRound Silent i next x a b vs → general.Replaces c p q f keeps is_code Suit SameLevel i next x x a b vs
  replaces {i = i} {next = next} {a = a} {b = b} {vs = vs} x r =
      record {
        pre = r.pre;
        main = r.main;
        post = r.post;
        shape = r.shape;
        between = r.between;
        passing = r.passing;
        vals = r.vals;
        read = vs;
        reads = r.reads;
        alike = subst
            (λ op. general.Acts c p q f keeps is_code Suit SameLevel i r.main next r.post x x
            (past_frame (passes_frame i.op) a) (past_frame (passes_frame (r.main).op) r.between)
            (mach_act c.setting i.op vs x) (mach_act c.setting op vs x))
            (sym r.same_op)
            (acts_same x r.same (mach_act c.setting i.op vs x) (within c.setting i.op vs x) r.told);
      }
