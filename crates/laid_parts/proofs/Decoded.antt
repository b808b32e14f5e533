-- The words of a piece, decoded, name the registers that the piece names.
use Rattle.std.proofs.Common.{◌≡◌, ℕ, ◌+◌, ◌%◌, ◌^◌, ◌<◌, Bool, true, false, not, ◌||◌, ◌&&◌, List, [], ◌∷◌, map, Option, Some, refl, ◌∙◌, ap}
use Rattle.std.specs.List.{AllByRecursion}
use Rattle.std.proofs.Math.Bool.{and-false, or-false}
use Rattle.rv_layout_rules.specs.Conditions.{HasAlignedTarget}
use Rattle.rv_layout_rules.specs.Words.{code_to}
use Rattle.rv_layout_rules.specs.declared.form.Form.{Form}
use Rattle.rv_layout_rules.specs.declared.form.Form.TheVariants.{Near, Middle, Far}
use Rattle.rv_layout_rules.proofs.Standing.{code_fits}
use Rattle.rv_isa.specs.Decoding.{decoded}
use Rattle.rv_isa.specs.Encoding.{InstrFits, encoded}
use Rattle.rv_isa.specs.declared.instr.Instr.{Instr}
use Rattle.rv_isa.specs.declared.instr.Condition.{Condition}
use Rattle.rv_isa.specs.declared.register.Register.{Register}
use Rattle.rv_isa.specs.declared.register.Register.TheVariants.{Zero, Ra, T1}
use Rattle.rv_isa.proofs.RoundTrip.{decoded-encoded}
use Rattle.rv_pieces.specs.Named.{PieceFits}
use Rattle.rv_pieces.specs.declared.piece.Piece.{Piece}
use Rattle.rv_pieces.specs.declared.piece.Piece.TheVariants as piece
use Rattle.linearise_rules.specs.Lowered.{is_among_numbers}
use Rattle.laid_parts.specs.Decoded.{NamesAs, Decodes}
use Rattle.laid_parts.specs.Laid.{is_reserved}
use Rattle.laid_parts.specs.Named.{sources, destination_registers, piece_sources}
use Rattle.laid_parts.proofs.Registers.{is-apart, hits}

-- ---- truth values: whether a register that is written or read is the one that is asked for

-- a register is made, and made further
made_reads : (a : Bool) → (not (a || false) && ((a || false) || (not (a || false) && false))) ≡ false
made_reads true = refl
made_reads false = refl

made_writes : (a : Bool) → ((a || false) || ((a || false) || false)) ≡ (a || false)
made_writes true = refl
made_writes false = refl

-- a jump goes through one register, and its link is another
jump_reads : (a z : Bool) → (not (a || false) && ((a || false) || (not (z || false) && false))) ≡ false
jump_reads true z = refl
jump_reads false true = refl
jump_reads false false = refl

jump_writes : (a z : Bool) → z ≡ false → ((a || false) || ((z || false) || false)) ≡ (a || false)
jump_writes true z e = refl
jump_writes false true e = absurd (cc)
jump_writes false false e = refl

-- a register is made by two instructions, and a jump goes through it: its link is that register, or another
address_reads : (a z : Bool) → (not (a || false) && ((a || false) || (not (a || false) && ((a || false) || (not (z || false) && false))))) ≡ false
address_reads true z = refl
address_reads false true = refl
address_reads false false = refl

address_links : (a : Bool) → ((a || false) || ((a || false) || ((a || false) || false))) ≡ (a || false)
address_links true = refl
address_links false = refl

address_writes : (a z : Bool) → z ≡ false → ((a || false) || ((a || false) || ((z || false) || false))) ≡ (a || false)
address_writes true z e = refl
address_writes false true e = absurd (cc)
address_writes false false e = refl

-- a jump with its offset
near_reads : (z : Bool) → (not (z || false) && false) ≡ false
near_reads true = refl
near_reads false = refl

near_writes : (z : Bool) → z ≡ false → ((z || false) || false) ≡ false
near_writes true e = absurd (cc)
near_writes false e = refl

-- nothing is read after a branch
then_nothing : (x y : Bool) → y ≡ false → (x || y) ≡ x
then_nothing true y e = refl
then_nothing false y e = e

-- ---- jumps, by whether their registers are the one that is asked for

module _ (n : ℕ) (e : is_reserved n ≡ false) where
  by_t1_reads : (not (hits n T1 || false) && ((hits n T1 || false) || (not (hits n Zero || false) && false))) ≡ false
  by_t1_reads = jump_reads (hits n T1) (hits n Zero)

  by_t1_writes : ((hits n T1 || false) || ((hits n Zero || false) || false)) ≡ (hits n T1 || false)
  by_t1_writes = jump_writes (hits n T1) (hits n Zero) (is-apart n e).zero

  -- t1 is reserved
  no_t1 : ((hits n T1 || false) || ((hits n Zero || false) || false)) ≡ false
  no_t1 = by_t1_writes ∙ ap (λ (z : Bool). z || false) (is-apart n e).t1

-- ---- each piece

jump_names : (at to l : ℕ) (f : Form) → NamesAs (piece.Jump l) (code_to at to (piece.Jump l) f)
jump_names at to l Near = record {
  reads = λ n e. near_reads (hits n Zero);
  writes = λ n e. near_writes (hits n Zero) (is-apart n e).zero;
  known = λ j h. absurd (cc);
  memory = λ e. refl;
}
jump_names at to l Middle = record { reads = λ n e. by_t1_reads n e; writes = λ n e. no_t1 n e; known = λ j h. absurd (cc); memory = λ e. refl }
jump_names at to l Far = record { reads = λ n e. by_t1_reads n e; writes = λ n e. no_t1 n e; known = λ j h. absurd (cc); memory = λ e. refl }

branch_names : (at to : ℕ) (c : Condition) (a b : Register) (l : ℕ) (f : Form) →
    NamesAs (piece.Branch c a b l) (code_to at to (piece.Branch c a b l) f)
branch_names at to c a b l Near = record {
  reads = λ n e. or-false (is_among_numbers n (piece_sources (piece.Branch c a b l)));
  writes = λ n e. refl;
  known = λ j h. absurd (cc);
  memory = λ e. refl;
}
branch_names at to c a b l Middle = record {
  reads = λ n e. then_nothing (is_among_numbers n (piece_sources (piece.Branch c a b l))) _ (near_reads (hits n Zero));
  writes = λ n e. near_writes (hits n Zero) (is-apart n e).zero;
  known = λ j h. absurd (cc);
  memory = λ e. refl;
}
branch_names at to c a b l Far = record {
  reads = λ n e. then_nothing (is_among_numbers n (piece_sources (piece.Branch c a b l))) _ (by_t1_reads n e);
  writes = λ n e. no_t1 n e;
  known = λ j h. absurd (cc);
  memory = λ e. refl;
}

call_names : (at to : ℕ) (name : List ℕ) (f : Form) → NamesAs (piece.Call name) (code_to at to (piece.Call name) f)
call_names at to name Near = record {
  reads = λ n e. made_reads (hits n Ra);
  writes = λ n e. made_writes (hits n Ra);
  known = λ j h. absurd (cc);
  memory = λ e. refl;
}
call_names at to name Middle = record {
  reads = λ n e. address_reads (hits n Ra) (hits n Ra);
  writes = λ n e. address_links (hits n Ra);
  known = λ j h. absurd (cc);
  memory = λ e. refl;
}
call_names at to name Far = record {
  reads = λ n e. address_reads (hits n Ra) (hits n Ra);
  writes = λ n e. address_links (hits n Ra);
  known = λ j h. absurd (cc);
  memory = λ e. refl;
}

tail_call_names : (at to : ℕ) (name : List ℕ) (f : Form) → NamesAs (piece.TailCall name) (code_to at to (piece.TailCall name) f)
tail_call_names at to name Near = record {
  reads = λ n e. by_t1_reads n e;
  writes = λ n e. by_t1_writes n e;
  known = λ j h. absurd (cc);
  memory = λ e. refl;
}
tail_call_names at to name Middle = record {
  reads = λ n e. address_reads (hits n T1) (hits n Zero);
  writes = λ n e. address_writes (hits n T1) (hits n Zero) (is-apart n e).zero;
  known = λ j h. absurd (cc);
  memory = λ e. refl;
}
tail_call_names at to name Far = record {
  reads = λ n e. address_reads (hits n T1) (hits n Zero);
  writes = λ n e. address_writes (hits n T1) (hits n Zero) (is-apart n e).zero;
  known = λ j h. absurd (cc);
  memory = λ e. refl;
}

pub names_as : (at to : ℕ) (p : Piece) (f : Form) → NamesAs p (code_to at to p f)
names_as at to (piece.Known j) f = record {
  reads = λ n e. then_nothing (is_among_numbers n (sources j)) _ (and-false (not (is_among_numbers n (destination_registers j))));
  writes = λ n e. or-false (is_among_numbers n (destination_registers j));
  known = λ i h. cc;
  memory = λ e. absurd (cc);
}
names_as at to (piece.Label l) f = record { reads = λ n e. refl; writes = λ n e. refl; known = λ j h. absurd (cc); memory = λ e. refl }
names_as at to (piece.Branch c a b l) f = branch_names at to c a b l f
names_as at to (piece.Jump l) f = jump_names at to l f
names_as at to (piece.Row l) f = record { reads = λ n e. by_t1_reads n e; writes = λ n e. no_t1 n e; known = λ j h. absurd (cc); memory = λ e. refl }
names_as at to (piece.LabelAddress r l) f = record {
  reads = λ n e. made_reads (hits n r);
  writes = λ n e. made_writes (hits n r);
  known = λ j h. absurd (cc);
  memory = λ e. refl;
}
names_as at to (piece.Call name) f = call_names at to name f
names_as at to (piece.TailCall name) f = tail_call_names at to name f
names_as at to (piece.SymbolAddress r name) f = record {
  reads = λ n e. made_reads (hits n r);
  writes = λ n e. made_writes (hits n r);
  known = λ j h. absurd (cc);
  memory = λ e. refl;
}
names_as at to (piece.ExternalNumber r row) f = record {
  reads = λ n e. made_reads (hits n r);
  writes = λ n e. made_writes (hits n r);
  known = λ j h. absurd (cc);
  memory = λ e. refl;
}
names_as at to (piece.Descriptor d) f = record { reads = λ n e. refl; writes = λ n e. refl; known = λ j h. absurd (cc); memory = λ e. refl }

-- ---- decoding

each_decodes : (js : List Instr) → AllByRecursion InstrFits js → Decodes (map encoded js) js
each_decodes [] fits = refl
each_decodes (j ∷ js) fits =
    ap (λ (o : Option Instr). o ∷ map decoded (map encoded js)) (decoded-encoded j fits.0)
    ∙ ap (λ (os : List (Option Instr)). Some j ∷ os) (each_decodes js fits.1)

pub words_decode : (at to : ℕ) (p : Piece) (f : Form) → PieceFits p → at % 4 ≡ 0 → at + 4 < 2 ^ 32 → HasAlignedTarget to p →
    Decodes (map encoded (code_to at to p f)) (code_to at to p f)
words_decode at to p f fits aligned below leads = each_decodes (code_to at to p f) (code_fits at to p f fits aligned below leads)
