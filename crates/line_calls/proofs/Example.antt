-- A function of two lines, which calls itself and returns: what is asked of its lines holds where its words are.
use Rattle.std.proofs.Common.{◌≡◌, ℕ, ◌+◌, ◌-◌, ◌*◌, ◌^◌, ◌<◌, Bool, true, cond, nat_eq, List, [], ◌∷◌, length, Some, None, refl, ap, subst, arith}
use Rattle.std.proofs.lemmas.List.Elements.{All-cons, All-contains, All-nil, Contains-get_or}
use Rattle.bs_words.specs.Fits.{data_start}
use Rattle.bs_words.specs.declared.types.Ret.TheVariants as ret
use Rattle.bs_words.specs.declared.values.Value.{Value}
use Rattle.cmm_types.proofs.Containing.{contains_none}
use Rattle.rv_emit_rules.specs.Entry.{FrameLayout}
use Rattle.rv_emit_rules.specs.Named.{IsExternalOf}
use Rattle.rv_layout_rules.specs.declared.form.Form.TheVariants.{Near}
use Rattle.rv_layout_rules.specs.Laid.{address_of_place, descriptor_laid_at}
use Rattle.rv_layout_rules.specs.Stands.{HasPieces}
use Rattle.rv_layout_rules.specs.Words.{NameAddresses}
use Rattle.lin_ir.specs.Formed.{formed_op, goes_to, pushes}
use Rattle.lin_ir.specs.Meaning.{Locations, step}
use Rattle.lin_ir.specs.declared.descr.Descr.{Descr}
use Rattle.lin_ir.specs.declared.lin.Lin.{Lin}
use Rattle.lin_ir.specs.declared.lin.Line.{Line}
use Rattle.lin_ir.specs.declared.lin.LinOp.TheVariants as lin
use Rattle.mach_ir.specs.Acts.{Around}
use Rattle.mach_ir.specs.Forms.{by_symbol, calls}
use Rattle.mach_ir.specs.Runs.{ActivationSetting}
use Rattle.mach_ir.specs.Seats.{argument_locations, in_order, result_locations}
use Rattle.mach_ir.specs.Walks.{other}
use Rattle.mach_ir.specs.declared.op.Callee.TheVariants as callee
use Rattle.mach_ir.specs.declared.op.Calling.TheVariants as calling
use Rattle.mach_ir.specs.declared.op.External as declared
use Rattle.mach_ir.specs.declared.op.Leaving.TheVariants as leaving
use Rattle.mach_ir.specs.declared.op.Op.TheVariants as op
use Rattle.rv_machine.specs.Frames.{descriptor_at, names_register}
use Rattle.rv_pieces.specs.declared.piece.Piece.TheVariants.{Call, Descriptor}
use Rattle.lin_machine.specs.Follows.{IsAt}
use Rattle.lin_machine.specs.Relation.{Below, IsDescribed, Laid, StandsFor}
use Rattle.lin_machine.specs.View.{Fixed, View}
use Rattle.line_stands.specs.Lines.{LineStands}
use Rattle.line_stands.specs.Names.{NamesStand}
use Rattle.line_calls.specs.Calls.{FollowsSo}
use Rattle.line_calls.specs.Points.{EntriesStand, PointStands, it_calls}
use Rattle.line_calls.proofs.Whole.{lines_follow}

abbrev itself : Line
itself = record { op = lin.Op (op.Calling (calling.Call (callee.Symbol []) ret.Unit)); args = []; results = [] }

abbrev back : Line
back = record { op = lin.Op (op.Leaving leaving.Return); args = []; results = [] }

abbrev function : Lin
function = record { name = []; params = []; result = ret.Unit; slots = 0; code = itself ∷ back ∷ [] }

abbrev descr : Descr
descr = record { after = 0; size = 16; entries = [] }

abbrev frame : FrameLayout
frame = record { bytes = 16; saves = true }

abbrev MakesNone : declared.External → Bool → Line → Type 0
MakesNone row moves i = i.op ≡ lin.Op (op.Calling (calling.External row moves)) → ⊥

no_external : (row : declared.External) → IsExternalOf function row → ⊥
no_external row e =
    All-contains (MakesNone row e.frame) function.code e.line
    (All-cons (MakesNone row e.frame) itself (back ∷ []) (λ q. absurd (cc)) (All-cons (MakesNone row e.frame) back [] (λ q. absurd (cc))
    (All-nil (MakesNone row e.frame)))) e.among e.is

module _ (s : Fixed) (n : NameAddresses) (entry : ℕ → ℕ) (entries : EntriesStand s entry) (place : ActivationSetting)
    (end : place.setting.end ≡ data_start + length s.image.bytes)
    (symbol : (name : List ℕ) (x : Value) → place.setting.symbol name ≡ Some x → StandsFor s [] (n.symbol name) x × (n.symbol name < 2 ^ 30)) (at : ℕ)
    (has : HasPieces s.image.code n at (Call [] ∷ Descriptor descr ∷ []) (Near ∷ Near ∷ []))
    (there : descriptor_at s.image.descs (address_of_place (at + 2)) ≡ Some (descriptor_laid_at (at + 2) descr)) (inside : at + 2 < length s.image.code) where
  -- the call has two words, and the return three
  abbrev laid : Laid
  laid = record {
    part = λ j. cond (nat_eq j 2) at (at + 2 + 3 * (1 - j));
    frame = 16;
    saves = true;
    slots = 0;
    handler = n.label;
    even = refl;
    room = omega arith;
  }

  -- t0 is not read
  abbrev live : List Line → Type 0
  live rest = ⊥

  names : NamesStand s laid n function place.setting
  names = record {
    label = λ l i. absurd (contains_none l i);
    within = λ l i. absurd (contains_none l i);
    handler = λ l. refl;
    symbol = symbol;
    external = λ row e. absurd (no_external row e);
  }

  lines : LineStands s laid n function place.setting live [] frame (Some descr) itself (back ∷ [])
  lines = record {
    part = record { forms = Near ∷ Near ∷ []; has = has; reach = (omega arith, (omega arith, tt)); past = omega arith };
    names = names;
    frame = refl;
    saves = refl;
    slots = refl;
    among = Contains-get_or (itself ∷ back ∷ []) 0 itself (omega arith);
    formed = formed_op {args = []} {results = []} (calls [] by_symbol);
    offset = tt;
    args = All-nil _;
    results = All-nil _;
    operand_seats = in_order argument_locations refl;
    result_seats = in_order result_locations refl;
    named = λ l q. absurd (elim q [ goes_to t ↦ elim t [ other u ↦ elim u [ ] ] | pushes e ↦ cc ]);
    handlers = λ l i. absurd (contains_none l i);
    spare = record {
      reads = λ t i. absurd (contains_none _ i);
      on = λ t i l. absurd l;
      aside = λ e l i q. q;
    };
  }

  described : (p : ℕ) → IsDescribed laid 0 [] (descriptor_laid_at p descr)
  described p = record {
    size = omega arith;
    slot = λ k e. absurd (cc);
    from_slot = λ e i. absurd i;
    register = λ r e. absurd (cc);
    from_register = λ r i. absurd i;
  }

  points : PointStands s laid function place.setting (λ p. []) entry 0 frame (Some descr) itself (back ∷ []) (Near ∷ Near ∷ [])
  points = record {
    entries = entries;
    end = end;
    marks = (tt, ((there, inside), tt));
    mark = λ e. (descr, refl);
    saves = λ e. refl;
    described = λ e q p. subst (λ d. IsDescribed laid 0 [] (descriptor_laid_at p d)) (let z : descr ≡ e = cc in z) (described p);
    unnamed = λ e q whom result f. ap (λ d. names_register d.entries) (let z : e ≡ descr = cc in z);
    spared = λ e. refl;
    unwritten = λ t i. contains_none _ i;
    pushes = λ l e. absurd (cc);
  }

  -- its call is followed
  pub call_followed :
      (c : Below) (v : View) (file : Locations) (a : Around) → a.tries ≡ [] → a.raised ≡ None →
      IsAt s laid live c (record { rest = itself ∷ back ∷ []; file = file; around = record a { tries = [] } }) v →
      FollowsSo 2 s laid live entry c v (16 + 16 * 0) (step place (λ p. []) function (record {
        rest = itself ∷ back ∷ [];
        file = file;
        around = record a {
          tries = [];
        };
      }))
  unfolding lines
  call_followed c v file a left none is =
      lines_follow s n laid live entry c place (λ p. []) function frame (Some descr) itself (back ∷ []) v file
      (record a { tries = [] }) 2 it_calls lines points
      (record { raised = λ q. none; left = λ e. absurd (cc); popped = λ e. absurd (cc) }) (omega arith) is
