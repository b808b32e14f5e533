-- Every line that calls, leaves a function, raises, allocates, or pushes, pops or enters a try is followed.
use Rattle.std.proofs.Common.{◌≡◌, ℕ, suc, ◌+◌, ◌*◌, ◌%◌, ◌<◌, ◌≤◌, ◌⊎◌, inl, inr, Bool, true, false, List, [], ◌∷◌, ◌++◌, length, Option, Some, None, refl, ap, ap₂, arith, ◌∙◌, sym, subst, ⊎_elim}
use Rattle.std.specs.List.{All, Contains}
use Rattle.std.proofs.lemmas.List.Elements.{All-head, Contains-get_or}
use Rattle.bs_words.specs.declared.types.Comp.{Comp}
use Rattle.bs_words.specs.declared.types.Ret.{Ret}
use Rattle.bs_words.specs.declared.types.Ret.TheVariants as ret
use Rattle.rv_emit_rules.specs.Calls.{call_words, external_words, mark_of}
use Rattle.rv_emit_rules.specs.Emitted.{part_of_line}
use Rattle.rv_emit_rules.specs.Entry.{FrameLayout}
use Rattle.rv_layout_rules.specs.Laid.{address_of_place, descriptor_laid_at}
use Rattle.rv_layout_rules.specs.Words.{NameAddresses}
use Rattle.lin_ir.specs.Formed.{IsFormedLine, IsLocation, IsQuiet, comps, formed_flow, formed_op, FlowHasForm, pushes}
use Rattle.lin_ir.specs.Meaning.{Locations, NamedAt, after_label, step, values}
use Rattle.lin_ir.specs.Walks.{may_raise, targets}
use Rattle.lin_ir.specs.declared.descr.Descr.{Descr}
use Rattle.lin_ir.specs.declared.lin.Flow.{Flow}
use Rattle.lin_ir.specs.declared.lin.Flow.TheVariants as flow
use Rattle.lin_ir.specs.declared.lin.Lin.{Lin}
use Rattle.lin_ir.specs.declared.lin.LinOp.TheVariants as lin
use Rattle.lin_ir.specs.declared.lin.Line.{Line}
use Rattle.lin_ir.specs.declared.lin.Spot.{Spot}
use Rattle.mach_ir.specs.Acts.{Around, On, if_known}
use Rattle.mach_ir.specs.Blocks.{total_block_bytes}
use Rattle.mach_ir.specs.Forms.{HasForm, IsBlock, IsCallee, allocates, by_register, calls, calls_out, raises, results_of_type, returns, tail_calls}
use Rattle.mach_ir.specs.Runs.{ActivationSetting}
use Rattle.mach_ir.specs.Walks.{OneOf, this}
use Rattle.mach_ir.specs.declared.blocks.NewBlock.{NewBlock}
use Rattle.mach_ir.specs.declared.op.Access.TheVariants as access
use Rattle.mach_ir.specs.declared.op.Callee.{Callee}
use Rattle.mach_ir.specs.declared.op.Callee.TheVariants as callee
use Rattle.mach_ir.specs.declared.op.Calling.TheVariants as calling
use Rattle.mach_ir.specs.declared.op.External as declared
use Rattle.mach_ir.specs.declared.op.Leaving.TheVariants as leaving
use Rattle.mach_ir.specs.declared.op.Op.{Op}
use Rattle.mach_ir.specs.declared.op.Op.TheVariants as op
use Rattle.rv_machine.specs.Frames.{descriptor_at}
use Rattle.rv_machine.specs.Hart.{Placed}
use Rattle.rv_pieces.specs.declared.piece.Piece.{Piece}
use Rattle.rv_pieces.specs.declared.piece.Piece.TheVariants.{Descriptor}
use Rattle.moving_laws.specs.Waiting.{IsBack}
use Rattle.lin_machine.specs.Follows.{Agrees, IsAt}
use Rattle.lin_machine.specs.Relation.{Below, Laid, Within}
use Rattle.lin_machine.specs.View.{Fixed, View}
use Rattle.line_stands.specs.Lines.{LineStands}
use Rattle.line_stands.specs.Parts.{PartStands}
use Rattle.line_stands.proofs.Parts.{mark_none, nothing_more, splits}
use Rattle.lin_laws.proofs.Forms.{push_inv, pop_inv, enter_inv, length_comps}
use Rattle.line_calls.specs.Calls.{FollowsSo}
use Rattle.line_calls.specs.Points.{AreMarked, IsReadyFor, IsTurn, PointStands, before_service}
use Rattle.line_calls.proofs.AllocLines.{alloc_line}
use Rattle.line_calls.proofs.CallLines.{call_named, call_registered}
use Rattle.line_calls.proofs.ExternalCalls.{external_alone, external_framed}
use Rattle.line_calls.proofs.Handlers.{enter_line, pop_line, push_line, raise_line, return_with, return_without}
use Rattle.line_calls.specs.Laws.{frame_in}
use Rattle.line_calls.proofs.Marks.{marked}
use Rattle.line_calls.proofs.NoWaits.{act_no, alloc_no, enter_no, raise_no, return_no, so_without, tail_no, values_no}
use Rattle.line_calls.proofs.Seats.{first_seated}
use Rattle.line_calls.proofs.TailLines.{tail_named, tail_registered}

-- ---- forms

call_results : (whom : Callee) (result : Ret) (cs ds : List Comp) → HasForm (op.Calling (calling.Call whom result)) cs ds → ds ≡ results_of_type result
call_results whom result cs ds (calls arguments is) = refl

pub record IsMore (cs : List Comp) : Type 0 where
  pub first : Comp
  pub rest : List Comp
  pub is : cs ≡ first ∷ rest

callee_first : (first arguments : List Comp) → IsCallee callee.Register first → IsMore (first ++ arguments)
callee_first first arguments (by_register {t}) = record { first = t; rest = arguments; is = refl }

call_operands : (result : Ret) (cs ds : List Comp) → HasForm (op.Calling (calling.Call callee.Register result)) cs ds → IsMore cs
call_operands result cs ds (calls {first} arguments is) = callee_first first arguments is

tail_operands : (result : Ret) (cs ds : List Comp) → HasForm (op.Calling (calling.TailCall callee.Register result)) cs ds → IsMore cs
tail_operands result cs ds (tail_calls {first} arguments is) = callee_first first arguments is

tail_results : (whom : Callee) (result : Ret) (cs ds : List Comp) → HasForm (op.Calling (calling.TailCall whom result)) cs ds → ds ≡ []
tail_results whom result cs ds (tail_calls arguments is) = refl

external_form : (row : declared.External) (frame : Bool) (cs ds : List Comp) → HasForm (op.Calling (calling.External row frame)) cs ds →
    (cs ≡ row.params) × (ds ≡ results_of_type row.result)
external_form row frame cs ds calls_out = (refl, refl)

return_form : (cs ds : List Comp) → HasForm (op.Leaving leaving.Return) cs ds → ((cs ≡ []) ⊎ ((t : Comp) × (cs ≡ t ∷ []))) × (ds ≡ [])
return_form cs ds (returns ret.Unit) = (inl refl, refl)
return_form cs ds (returns (ret.Comp t)) = (inr (t, refl), refl)

raise_form : (cs ds : List Comp) → HasForm (op.Leaving leaving.Raise) cs ds → ((t : Comp) × (cs ≡ t ∷ [])) × (ds ≡ [])
raise_form cs ds (raises {raised}) = ((raised, refl), refl)

pub record IsAllocation (blocks : List NewBlock) (cs ds : List Comp) : Type 0 where
  pub some : blocks ≡ [] → ⊥
  pub all : All IsBlock blocks
  pub most : total_block_bytes blocks ≤ 2056
  pub as_many : length ds ≡ length blocks
  pub none : cs ≡ []

alloc_form : (blocks : List NewBlock) (cs ds : List Comp) → HasForm (op.Access (access.Alloc blocks)) cs ds → IsAllocation blocks cs ds
alloc_form blocks cs ds (allocates some all most as_many) = record { some = some; all = all; most = most; as_many = as_many; none = refl }

-- ---- lines

-- a part and its descriptors
pub record PartAt (s : Fixed) (n : NameAddresses) (at to : ℕ) (ps : List Piece) : Type 0 where
  pub part : PartStands s n at to ps
  pub marks : AreMarked s at ps part.forms

frame_is : (laid : Laid) (f : FrameLayout) → f.bytes ≡ laid.frame → f.saves ≡ laid.saves → f ≡ frame_in laid
frame_is laid f e g = ap₂ (λ b t. record { bytes = b; saves = t }) e g

module _ (s : Fixed) (n : NameAddresses) (laid : Laid) (live : List Line → Type 0) (entry : ℕ → ℕ) (c : Below) (place : ActivationSetting) (named : NamedAt) (m : Lin) (f : FrameLayout)
    (d : Option Descr) (next : List Line) (v : View) (young : List Placed) (held file : Locations) (a : Around) (within : Within s laid v young 0 held a c)
    (k : ℕ) where
  pub record Given (i : Line) : Type 0 where
    pub lines : LineStands s laid n m place.setting live a.tries f d i next
    pub points : PointStands s laid m place.setting named entry (length a.tries) f d i next lines.part.forms
    pub fit : IsReadyFor i a
    pub agrees : Agrees (live (i ∷ next)) held file
    pub here : v.place ≡ laid.part (suc (length next))
    pub behind : laid.part (length next) ≡ v.place + k

  abbrev pub Followed : Line → Type 0
  Followed i = FollowsSo (before_service i.op k) s laid live entry c v (laid.frame + 16 * length a.tries) (step place named m (record { rest = i ∷ next; file = file; around = a }))

  part_at : (i : Line) → Given i → PartAt s n v.place (v.place + k) (part_of_line (length a.tries) (frame_in laid) d i)
  part_at i g =
      subst (λ z. PartAt s n v.place z (part_of_line (length a.tries) (frame_in laid) d i)) g.behind
      (subst (λ z. PartAt s n z (laid.part (length next)) (part_of_line (length a.tries) (frame_in laid) d i)) (sym g.here)
      (subst (λ h. PartAt s n (laid.part (suc (length next))) (laid.part (length next)) (part_of_line (length a.tries) h d i))
      (frame_is laid f g.lines.frame g.lines.saves) (record { part = g.lines.part; marks = g.points.marks })))

  handlers_of : (i : Line) → Given i → (l : ℕ) (rest : List ℕ) → a.tries ≡ l ∷ rest →
      laid.handler l ≡ address_of_place (laid.part (length (after_label l m.code)))
  handlers_of i g l rest e =
      g.lines.names.handler l
      ∙ g.lines.names.label l (g.lines.handlers l (subst (λ ts. Contains ts l) (sym e) (Contains-get_or (l ∷ rest) 0 l (omega arith))))

  no_live_of : (i : Line) → Given i → may_raise i.op ≡ true → (l : ℕ) (rest : List ℕ) → a.tries ≡ l ∷ rest → live (after_label l m.code) → ⊥
  no_live_of i g may l rest e = g.lines.spare.aside may l (subst (λ ts. Contains ts l) (sym e) (Contains-get_or (l ∷ rest) 0 l (omega arith)))

  dead_of : (i : Line) → Given i → OneOf On (targets i.op) → (IsQuiet i.op → ⊥) → live next → ⊥
  dead_of i g one loud l = ⊎_elim (λ sets. g.points.unwritten sets.0 sets.1) (λ q. loud q.0) (g.lines.spare.on On one l)

  -- its descriptor
  some_part : (i : Line) → Given i → (e : Descr) → d ≡ Some e → PartAt s n v.place (v.place + k) (part_of_line (length a.tries) (frame_in laid) (Some e) i)
  some_part i g e is = subst (λ o. PartAt s n v.place (v.place + k) (part_of_line (length a.tries) (frame_in laid) o i)) is (part_at i g)

  -- a descriptor at the end of a part
  pub record Ended (xs : List Piece) (e : Descr) : Type 0 where
    pub part : PartStands s n v.place (v.place + k) xs
    pub there : descriptor_at s.image.descs (address_of_place (v.place + k)) ≡ Some (descriptor_laid_at (v.place + k) e)
    pub inside : v.place + k < length s.image.code

  ended : (xs : List Piece) (e : Descr) → PartAt s n v.place (v.place + k) (xs ++ Descriptor e ∷ []) → Ended xs e
  ended xs e p =
      let q = marked s n v.place (v.place + k) xs [] e p.part p.marks in
      let same : q.middle ≡ v.place + k = sym (nothing_more s n q.middle (v.place + k) q.second) in
      record {
        part = subst (λ z. PartStands s n v.place z xs) same q.first;
        there = subst (λ z. descriptor_at s.image.descs (address_of_place z) ≡ Some (descriptor_laid_at z e)) same q.there;
        inside = subst (λ z. z < length s.image.code) same q.inside;
      }

  -- a mark has no words
  unmarked : (xs : List Piece) (o : Option Descr) → PartStands s n v.place (v.place + k) (xs ++ mark_of o) → PartStands s n v.place (v.place + k) xs
  unmarked xs o p =
      let q = splits s n v.place (v.place + k) xs (mark_of o) p in
      subst (λ z. PartStands s n v.place z xs) (sym (by_mark o q.middle q.second)) q.first
    where
      by_mark : (o : Option Descr) (middle : ℕ) → PartStands s n middle (v.place + k) (mark_of o) → v.place + k ≡ middle
      by_mark None middle st = nothing_more s n middle (v.place + k) st
      by_mark (Some e) middle st = nothing_more s n middle (v.place + k) (mark_none s n middle (v.place + k) e [] st)

  -- ---- calls

  call_follows : (whom : Callee) (result : Ret) (args results : List Spot) →
      HasForm (op.Calling (calling.Call whom result)) (comps args) (comps results) →
      Given (record { op = lin.Op (op.Calling (calling.Call whom result)); args = args; results = results }) →
      Followed (record { op = lin.Op (op.Calling (calling.Call whom result)); args = args; results = results })
  call_follows (callee.Symbol name) result args results form g =
      let i : Line = record { op = lin.Op (op.Calling (calling.Call (callee.Symbol name) result)); args = args; results = results } in
      let mark = g.points.mark refl in
      let e = mark.0 in
      let cut = ended (call_words (length a.tries) (callee.Symbol name) args) e (some_part i g e mark.1) in
      call_named s n laid live entry c place named m g.lines.slots next v young held file a within (live (i ∷ next)) g.agrees k (g.fit.raised (λ q. absurd
      (cc)))
      g.behind (g.points.saves refl) e (g.points.described e mark.1 (v.place + k)) cut.there cut.inside (handlers_of i g) (no_live_of i g refl) g.points.end
      (g.points.spared refl) (g.points.unnamed e mark.1 (callee.Symbol name) result refl) g.points.entries result results
      (call_results (callee.Symbol name) result (comps args) (comps results) form) g.lines.result_seats name args g.lines.operand_seats
      (λ x q. (g.lines.names.symbol name x q).0) cut.part
  call_follows callee.Register result [] results form g = absurd (let q = (call_operands result [] (comps results) form).is in cc)
  call_follows callee.Register result (p ∷ args) results form g =
      let i : Line = record { op = lin.Op (op.Calling (calling.Call callee.Register result)); args = p ∷ args; results = results } in
      let mark = g.points.mark refl in
      let e = mark.0 in
      let cut = ended (call_words (length a.tries) callee.Register (p ∷ args)) e (some_part i g e mark.1) in
      call_registered s n laid live entry c place named m g.lines.slots next v young held file a within (live (i ∷ next)) g.agrees k
      (g.fit.raised (λ q. absurd (cc))) g.behind (g.points.saves refl) e (g.points.described e mark.1 (v.place + k)) cut.there cut.inside (handlers_of i g)
      (no_live_of i g refl) g.points.end (g.points.spared refl) (g.points.unnamed e mark.1 callee.Register result refl) g.points.entries result results
      (call_results callee.Register result (comps (p ∷ args)) (comps results) form) g.lines.result_seats p args
      (All-head (λ (q : Spot). IsLocation m q.loc) p args g.lines.args)
      (λ q. g.lines.spare.reads p.comp (subst (λ l. Contains (p ∷ args) (record { loc = l; comp = p.comp })) q (Contains-get_or (p ∷ args) 0 p
      (omega arith))))
      g.lines.operand_seats cut.part

  tail_follows : (whom : Callee) (result : Ret) (args results : List Spot) →
      HasForm (op.Calling (calling.TailCall whom result)) (comps args) (comps results) →
      Given (record { op = lin.Op (op.Calling (calling.TailCall whom result)); args = args; results = results }) →
      Followed (record { op = lin.Op (op.Calling (calling.TailCall whom result)); args = args; results = results })
  tail_follows whom result args (r ∷ results) form g = absurd (let q = tail_results whom result (comps args) (comps (r ∷ results)) form in cc)
  tail_follows (callee.Symbol name) result args [] form g =
      let i : Line = record { op = lin.Op (op.Calling (calling.TailCall (callee.Symbol name) result)); args = args; results = [] } in
      so_without k s laid live entry c v _ _
      (values_no place (named (length next)) m i next file a (values place.setting.end file args)
      (λ vs. tail_no place.setting (callee.Symbol name) result vs a))
      (tail_named s n laid live entry c place named m g.lines.slots next v young held file a within (live (i ∷ next)) g.agrees k (g.fit.raised (λ q. absurd
      (cc)))
      (g.fit.left refl) g.points.entries result name args g.lines.operand_seats (λ x q. (g.lines.names.symbol name x q).0) (part_at i g).part)
  tail_follows callee.Register result [] [] form g = absurd (let q = (tail_operands result [] [] form).is in cc)
  tail_follows callee.Register result (p ∷ args) [] form g =
      let i : Line = record { op = lin.Op (op.Calling (calling.TailCall callee.Register result)); args = p ∷ args; results = [] } in
      so_without k s laid live entry c v _ _
      (values_no place (named (length next)) m i next file a (values place.setting.end file (p ∷ args))
      (λ vs. tail_no place.setting callee.Register result vs a))
      (tail_registered s n laid live entry c place named m g.lines.slots next v young held file a within (live (i ∷ next)) g.agrees k
      (g.fit.raised (λ q. absurd (cc))) (g.fit.left refl) g.points.entries result p args
      (All-head (λ (q : Spot). IsLocation m q.loc) p args g.lines.args)
      (λ q. g.lines.spare.reads p.comp (subst (λ l. Contains (p ∷ args) (record { loc = l; comp = p.comp })) q (Contains-get_or (p ∷ args) 0 p
      (omega arith))))
      g.lines.operand_seats (part_at i g).part)

  external_follows : (row : declared.External) (frame : Bool) (args results : List Spot) →
      HasForm (op.Calling (calling.External row frame)) (comps args) (comps results) →
      Given (record { op = lin.Op (op.Calling (calling.External row frame)); args = args; results = results }) →
      Followed (record { op = lin.Op (op.Calling (calling.External row frame)); args = args; results = results })
  external_follows row false args results form g =
      let i : Line = record { op = lin.Op (op.Calling (calling.External row false)); args = args; results = results } in
      let shape = external_form row false (comps args) (comps results) form in
      external_alone s n laid live entry c place named m next v young held file a within (live (i ∷ next)) g.agrees k (g.fit.raised (λ q. absurd
      (cc))) g.behind
      g.points.end (dead_of i g this (λ q. elim q [ ])) row
      (g.lines.names.external row (record { line = i; among = g.lines.among; frame = false; is = refl })) args g.lines.operand_seats shape.0 results shape.1
      g.lines.result_seats (unmarked (external_words row false) d (part_at i g).part)
  external_follows row true args results form g =
      let i : Line = record { op = lin.Op (op.Calling (calling.External row true)); args = args; results = results } in
      let shape = external_form row true (comps args) (comps results) form in
      let mark = g.points.mark refl in
      let e = mark.0 in
      let cut = ended (external_words row true) e (some_part i g e mark.1) in
      external_framed s n laid live entry c place named m next v young held file a within (live (i ∷ next)) g.agrees k (g.fit.raised (λ q. absurd
      (cc))) g.behind
      g.points.end (dead_of i g this (λ q. elim q [ ])) row
      (g.lines.names.external row (record { line = i; among = g.lines.among; frame = true; is = refl })) args g.lines.operand_seats shape.0 results shape.1
      g.lines.result_seats (g.points.saves refl) e (g.points.described e mark.1 (v.place + k)) cut.there (g.points.spared refl)
      (handlers_of i g) (no_live_of i g refl) cut.part

  -- ---- allocations

  alloc_follows : (blocks : List NewBlock) (args results : List Spot) → HasForm (op.Access (access.Alloc blocks)) (comps args) (comps results) →
      Given (record { op = lin.Op (op.Access (access.Alloc blocks)); args = args; results = results }) →
      Followed (record { op = lin.Op (op.Access (access.Alloc blocks)); args = args; results = results })
  alloc_follows blocks (p ∷ args) results form g = absurd (let q = (alloc_form blocks (comps (p ∷ args)) (comps results) form).none in cc)
  alloc_follows blocks [] results form g =
      let i : Line = record { op = lin.Op (op.Access (access.Alloc blocks)); args = []; results = results } in
      let shape = alloc_form blocks [] (comps results) form in
      let mark = g.points.mark refl in
      let e = mark.0 in
      let p = some_part i g e mark.1 in
      so_without k s laid live entry c v _ _
      (values_no place (named (length next)) m i next file a (Some []) (λ vs. alloc_no place.setting blocks vs a))
      (alloc_line s n laid live entry c place named m g.lines.slots next v young held file a within (live (i ∷ next)) g.agrees k (g.fit.raised (λ q. absurd
      (cc)))
      g.behind (g.points.saves refl) e (g.points.described e mark.1) g.points.end (g.points.spared refl) (dead_of i g this
      (λ q. elim q [ ])) blocks shape.some
      shape.all shape.most results (sym (length_comps results) ∙ shape.as_many) g.lines.results p.part p.marks)

  -- ---- returns and raises

  return_follows : (args results : List Spot) → HasForm (op.Leaving leaving.Return) (comps args) (comps results) →
      Given (record { op = lin.Op (op.Leaving leaving.Return); args = args; results = results }) →
      Followed (record { op = lin.Op (op.Leaving leaving.Return); args = args; results = results })
  return_follows args (r ∷ results) form g = absurd (let q = (return_form (comps args) (comps (r ∷ results)) form).1 in cc)
  return_follows [] [] form g =
      let i : Line = record { op = lin.Op (op.Leaving leaving.Return); args = []; results = [] } in
      so_without k s laid live entry c v _ _ (values_no place (named (length next)) m i next file a (Some []) (λ vs. return_no place.setting vs a))
      (return_without s n laid live entry c place named m next v young held file a within (live (i ∷ next)) g.agrees k (g.fit.raised (λ q. absurd (cc)))
      (g.fit.left refl) (part_at i g).part)
  return_follows (p ∷ []) [] form g =
      let i : Line = record { op = lin.Op (op.Leaving leaving.Return); args = p ∷ []; results = [] } in
      so_without k s laid live entry c v _ _
      (values_no place (named (length next)) m i next file a (values place.setting.end file (p ∷ [])) (λ vs. return_no place.setting vs a))
      (return_with s n laid live entry c place named m next v young held file a within (live (i ∷ next)) g.agrees k (g.fit.raised (λ q. absurd (cc)))
      (g.fit.left refl) (part_at i g).part p (first_seated p [] g.lines.operand_seats).0)
  return_follows (p ∷ q ∷ args) [] form g = absurd (let z = (first_seated p (q ∷ args) g.lines.operand_seats).1 in cc)

  raise_follows : (args results : List Spot) → HasForm (op.Leaving leaving.Raise) (comps args) (comps results) →
      Given (record { op = lin.Op (op.Leaving leaving.Raise); args = args; results = results }) →
      Followed (record { op = lin.Op (op.Leaving leaving.Raise); args = args; results = results })
  raise_follows args (r ∷ results) form g = absurd (let q = (raise_form (comps args) (comps (r ∷ results)) form).1 in cc)
  raise_follows [] [] form g = absurd (let q = (raise_form [] [] form).0.1 in cc)
  raise_follows (p ∷ []) [] form g =
      let i : Line = record { op = lin.Op (op.Leaving leaving.Raise); args = p ∷ []; results = [] } in
      so_without k s laid live entry c v _ _
      (values_no place (named (length next)) m i next file a (values place.setting.end file (p ∷ [])) (λ vs. raise_no place.setting vs a))
      (raise_line s n laid live entry c place named m next v young held file a within (live (i ∷ next)) g.agrees k (g.fit.raised (λ q. absurd (cc)))
      (part_at i g).part (handlers_of i g) (no_live_of i g refl) p (first_seated p [] g.lines.operand_seats).0)
  raise_follows (p ∷ q ∷ args) [] form g = absurd (let z = (first_seated p (q ∷ args) g.lines.operand_seats).1 in cc)

  -- ---- tries

  push_follows : (l : ℕ) (args results : List Spot) → FlowHasForm (flow.PushTrap l) (comps args) (comps results) →
      Given (record { op = lin.Flow (flow.PushTrap l); args = args; results = results }) →
      Followed (record { op = lin.Flow (flow.PushTrap l); args = args; results = results })
  push_follows l (p ∷ args) results form g = absurd (let q = (push_inv l (comps (p ∷ args)) (comps results) form).0 in cc)
  push_follows l [] (r ∷ results) form g = absurd (let q = (push_inv l [] (comps (r ∷ results)) form).1 in cc)
  push_follows l [] [] form g =
      let i : Line = record { op = lin.Flow (flow.PushTrap l); args = []; results = [] } in
      let among = g.lines.named l (pushes refl) in
      let address : laid.handler l ≡ address_of_place (laid.part (length (after_label l m.code))) = g.lines.names.handler l ∙ g.lines.names.label l among in
      let inside = g.points.pushes l refl in
      let short = s.functions.tables.code.short in
      let back : IsBack (laid.handler l) = record {
        low = omega (arith, address);
        high = omega (arith, address, inside, short);
        even = ap (λ z. z % 4) address ∙ (let e : address_of_place (laid.part (length (after_label l m.code))) % 4 ≡ 0 = omega arith in e);
      } in
      so_without k s laid live entry c v _ _ tt
      (push_line s n laid live entry c place named m next v young held file a within (live (i ∷ next)) g.agrees k (g.fit.raised (λ q. absurd (cc))) g.behind
      (dead_of i g this (λ q. elim q [ ])) l (sym (g.lines.names.handler l)) back (part_at i g).part)

  pop_by : (tries : List ℕ) → a.tries ≡ tries → Given (record { op = lin.Flow flow.PopTrap; args = []; results = [] }) →
      Followed (record { op = lin.Flow flow.PopTrap; args = []; results = [] })
  pop_by [] e g = absurd (g.fit.popped refl e)
  pop_by (l ∷ rest) e g =
      let i : Line = record { op = lin.Flow flow.PopTrap; args = []; results = [] } in
      so_without k s laid live entry c v _ _ tt
      (pop_line s n laid live entry c place named m next v young held file a within (live (i ∷ next)) g.agrees k (g.fit.raised (λ q. absurd (cc))) g.behind
      (dead_of i g this (λ q. elim q [ ])) l rest e (part_at i g).part)

  pop_follows : (args results : List Spot) → FlowHasForm flow.PopTrap (comps args) (comps results) →
      Given (record { op = lin.Flow flow.PopTrap; args = args; results = results }) →
      Followed (record { op = lin.Flow flow.PopTrap; args = args; results = results })
  pop_follows (p ∷ args) results form g = absurd (let q = (pop_inv (comps (p ∷ args)) (comps results) form).0 in cc)
  pop_follows [] (r ∷ results) form g = absurd (let q = (pop_inv [] (comps (r ∷ results)) form).1 in cc)
  pop_follows [] [] form g = pop_by a.tries refl g

  enter_follows : (args results : List Spot) → FlowHasForm flow.EnterTrap (comps args) (comps results) →
      Given (record { op = lin.Flow flow.EnterTrap; args = args; results = results }) →
      Followed (record { op = lin.Flow flow.EnterTrap; args = args; results = results })
  enter_follows (p ∷ args) results form g = absurd (let q = (enter_inv (comps (p ∷ args)) (comps results) form).0 in cc)
  enter_follows [] [] form g = absurd (let q = (enter_inv [] [] form).1.1 in cc)
  enter_follows [] (p ∷ []) form g =
      let i : Line = record { op = lin.Flow flow.EnterTrap; args = []; results = p ∷ [] } in
      so_without k s laid live entry c v _ _ (act_no place m i next file a (if_known (record a { raised = None }) a.raised)
      (enter_no place.setting a a.raised))
      (enter_line s n laid live entry c place named m next v young held file a within (live (i ∷ next)) g.agrees k p
      (first_seated p [] g.lines.result_seats).0
      g.behind (part_at i g).part)
  enter_follows [] (p ∷ q ∷ results) form g = absurd (let z = (first_seated p (q ∷ results) g.lines.result_seats).1 in cc)

  -- ---- all of them

  op_follows : (o : Op) (args results : List Spot) → HasForm o (comps args) (comps results) → IsTurn (lin.Op o) →
      Given (record { op = lin.Op o; args = args; results = results }) → Followed (record { op = lin.Op o; args = args; results = results })
  op_follows (op.Calling (calling.Call whom result)) args results form turn g = call_follows whom result args results form g
  op_follows (op.Calling (calling.TailCall whom result)) args results form turn g = tail_follows whom result args results form g
  op_follows (op.Calling (calling.External row frame)) args results form turn g = external_follows row frame args results form g
  op_follows (op.Leaving leaving.Return) args results form turn g = return_follows args results form g
  op_follows (op.Leaving leaving.Raise) args results form turn g = raise_follows args results form g
  op_follows (op.Leaving (leaving.Checkbound r)) args results form turn g = elim turn [ ]
  op_follows (op.Access (access.Alloc blocks)) args results form turn g = alloc_follows blocks args results form g
  op_follows (op.Access (access.Load q o)) args results form turn g = elim turn [ ]
  op_follows (op.Access (access.Store q o)) args results form turn g = elim turn [ ]
  op_follows (op.Pure f) args results form turn g = elim turn [ ]

  flow_follows : (o : Flow) (args results : List Spot) → FlowHasForm o (comps args) (comps results) → IsTurn (lin.Flow o) →
      Given (record { op = lin.Flow o; args = args; results = results }) → Followed (record { op = lin.Flow o; args = args; results = results })
  flow_follows (flow.PushTrap l) args results form turn g = push_follows l args results form g
  flow_follows flow.PopTrap args results form turn g = pop_follows args results form g
  flow_follows flow.EnterTrap args results form turn g = enter_follows args results form g
  flow_follows (flow.Label l) args results form turn g = elim turn [ ]
  flow_follows (flow.Jump l) args results form turn g = elim turn [ ]
  flow_follows (flow.Exit l) args results form turn g = elim turn [ ]
  flow_follows (flow.Branch t l) args results form turn g = elim turn [ ]
  flow_follows (flow.Switch ls) args results form turn g = elim turn [ ]

  line_follows : (i : Line) → IsFormedLine i → IsTurn i.op → Given i → Followed i
  line_follows _ (formed_op {f} {args} {results} form) turn g = op_follows f args results form turn g
  line_follows _ (formed_flow {f} {args} {results} form) turn g = flow_follows f args results form turn g

-- The machine follows each of these lines.
pub lines_follow :
    (s : Fixed) (n : NameAddresses) (laid : Laid) (live : List Line → Type 0) (entry : ℕ → ℕ) (c : Below) (place : ActivationSetting) (named : NamedAt) (m : Lin) (f : FrameLayout)
    (d : Option Descr) (i : Line) (next : List Line) (v : View) (file : Locations) (a : Around) (k : ℕ) → IsTurn i.op →
    (lines : LineStands s laid n m place.setting live a.tries f d i next) →
    PointStands s laid m place.setting named entry (length a.tries) f d i next lines.part.forms → IsReadyFor i a →
    laid.part (length next) ≡ laid.part (suc (length next)) + k →
    IsAt s laid live c (record { rest = i ∷ next; file = file; around = a }) v →
    FollowsSo (before_service i.op k) s laid live entry c v (laid.frame + 16 * length a.tries) (step place named m (record { rest = i ∷ next; file = file; around = a }))
lines_follow s n laid live entry c place named m f d i next v file a k turn lines points fit behind at =
    let here = at.3.place in
    line_follows s n laid live entry c place named m f d next v at.0 at.1 file a at.3.within k i lines.formed turn
    (record { lines = lines; points = points; fit = fit; agrees = at.2; here = at.3.place; behind = omega (arith, behind, here) })
