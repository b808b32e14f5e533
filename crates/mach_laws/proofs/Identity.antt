-- The pass that changes nothing, by the theorem on passes: an example of what a pass owes.
use Rattle.std.proofs.Common.{◌≡◌, ℕ, inl, List, [], ◌∷◌, Some, refl, sym, ap, subst}
use Rattle.bs_words.specs.declared.values.Value.{Value}
use Rattle.mach_ir.specs.Acts.{Around, Target, On, At}
use Rattle.mach_ir.specs.Runs.{ActivationSetting, Tally}
use Rattle.mach_ir.specs.Meaning.{File, registers_written, values, past_frame, passes_frame, tries_at, landing_code, mach_act}
use Rattle.mach_ir.specs.Keeps.{ValsWritten, Proper, Follows}
use Rattle.mach_ir.specs.declared.mach.Instr.{Instr}
use Rattle.mach_ir.specs.declared.mach.Mach.{Mach}
use Rattle.mach_laws.specs.Expand.{KeepsMarks, no_label, not_labelled, no_handler, not_handled, no_bound, not_bound, expand}
use Rattle.mach_laws.proofs.General as general
use Rattle.mach_laws.proofs.General.{at}
use Rattle.mach_laws.proofs.Level as level
use Rattle.mach_laws.proofs.Raised.{silent_told}
use Rattle.mach_laws.proofs.Simulate.{Agrees}

abbrev itself : ℕ → Instr → List Instr
itself n i = i ∷ []

same_code : (code : List Instr) → expand itself code ≡ code
same_code [] = refl
same_code (i ∷ is) = ap (λ xs. i ∷ xs) (same_code is)

keeps_marks : KeepsMarks itself
keeps_marks =
    record {
      mark = λ l n i e. (i, refl, refl);
      none = λ l n i e. not_labelled e no_label;
      handler = λ l n i e. (i, [], refl, refl);
      no_other = λ l n i e. not_handled e no_handler;
      bound = λ n i e. (i, refl, refl);
      unbound = λ n i e. not_bound e no_bound;
    }

module _ (c : ActivationSetting) (p : Mach) where
  -- registers hold the same
  abbrev SameFiles : List Instr → File → File → Type 0
  SameFiles rest a b = a ≡ b

  is_code : p.code ≡ expand itself p.code
  is_code = sym (same_code p.code)

  module _ (Suit : Around → Around → Type 0) where
    abbrev Round : List Instr → Around → Around → File → File → Type 0
    Round = level.Level c p p itself keeps_marks is_code SameFiles

    -- what is said of code before it is replaced, said of it after
    moved : (P : List Instr → Type 0) (next : List Instr) → P next → P (expand itself next)
    moved P next = subst P (sym (same_code next))

    past : (i : Instr) (next : List Instr) (x : Around) (d : File) (to : Target) →
        level.Past c p p itself keeps_marks is_code Suit SameFiles i i next [] x d d to
    past i next x d On =
        general.on (moved (λ code. Agrees p (registers_written p i) (at code d x)) next) general.passed (λ w. (refl, refl))
    past i next x d (At l) = general.elsewhere refl (λ w. ((refl, refl), w))

    same : (i : Instr) (next : List Instr) (a : File) →
        level.SameOperation c p p itself keeps_marks is_code Suit SameFiles (Unit {0}) i i next [] a a
    same i next a =
        record {
          goes = λ vs d e. (d, e, λ x to o. past i next x d to);
          lands = λ x to l s w. (
            (refl, refl),
            moved (λ code. Agrees p (registers_written p i) (at (landing_code p.code (i ∷ code) to) a x)) next w,
          );
          tries = ap (λ code. tries_at (i ∷ code)) (same_code next);
          pushes = λ t. (refl, λ x w. ((refl, refl), moved (λ code. Agrees p (registers_written p i) (at code a x)) next w));
        }

    one : (i : Instr) (next : List Instr) (x : Around) (a : File) (vs : List Value) → values a i.args ≡ Some vs →
        general.Replaces c p p itself keeps_marks is_code Suit Round i next x x a a vs
    one i next x a vs e =
        level.replaces c p p itself keeps_marks is_code Suit SameFiles x
        (record {
          pre = [];
          main = i;
          post = [];
          shape = refl;
          same_op = refl;
          between = a;
          passing = general.passed;
          vals = moved (λ code. ValsWritten p (at (i ∷ code) a x)) next;
          reads = e;
          told = silent_told tt (mach_act c.setting i.op vs x);
          same = same i next (past_frame (passes_frame i.op) a);
        })

    serves : ((x y : Around) → x ≡ y → Suit x y) → level.Serves c p p itself keeps_marks is_code SameFiles Suit
    serves suits =
        record {
          suits = λ rest x y a b l. suits x y l.0;
          each = λ i next x y a b ending l vs e. inl
              (subst (λ y. general.Replaces c p p itself keeps_marks is_code Suit Round i next x y a b vs) l.0
              (subst (λ b. general.Replaces c p p itself keeps_marks is_code Suit Round i next x x a b vs) l.1
              (one i next x a vs e)));
        }

  -- It follows itself, from any registers.
  pub follows_itself : (a : File) (x : Around) (n : ℕ) (t : Tally) → Proper c p n (at p.code a x) t →
      Follows c p p (at p.code a x) (at p.code a x) t n
  follows_itself a x n t proper =
      level.follows_from c p p itself keeps_marks is_code SameFiles serves a a x refl n t proper
