-- Combined allocation keeps.
use Rattle.std.proofs.Common.{◌≡◌, ℕ, true, inl, List, [], ◌∷◌, ◌++◌, length, refl, sym, ap, ◌∙◌, subst}
use Rattle.std.proofs.lemmas.Bool.{true≢false}
use Rattle.bs_words.specs.External.{External}
use Rattle.bs_words.specs.declared.types.Comp.TheVariants as comp
use Rattle.bs_words.proofs.Lists.{head_same, tail_same}
use Rattle.comballoc_rules.specs.Combined.{Scanned, allocation, combined}
use Rattle.comballoc_rules.specs.Kept.{IsCombinable, IsCombineKept}
use Rattle.comballoc_rules.proofs.Doing.{across_ends, across_opened, no_less}
use Rattle.comballoc_rules.proofs.Live.{View, runs, ends, joined, opened, not_long, view, label_is, handler_is, tries_here, alloc_goes}
use Rattle.comballoc_rules.proofs.Places.{scanned, merged, is_code}
use Rattle.comballoc_rules.proofs.Registers.{Came, stays, opens, came}
use Rattle.comballoc_rules.proofs.Formed.{combined_formed, combined_seated}
use Rattle.comballoc_rules.proofs.Placed.{combined_placed}
use Rattle.comballoc_rules.proofs.Sizes.{register_before, size}
use Rattle.comballoc_rules.proofs.Trailing.{no_more}
use Rattle.mach_ir.specs.Acts.{On, At}
use Rattle.mach_ir.specs.Keeps.{IsNamedIn, NamesSymbol, NamesExternal, Keeps, MachSimulation}
use Rattle.mach_ir.specs.Meaning.{after_label, from_handler, tries_at, passes_frame}
use Rattle.mach_ir.specs.Walks.{OneOf, other, targets, may_raise, LiveAcross, IsRegister, Reached, at_entry, by_step, by_raise, goes, raises, NoAddrLive}
use Rattle.mach_ir.specs.declared.blocks.NewBlock.{NewBlock}
use Rattle.mach_ir.specs.declared.op.Access.TheVariants as access
use Rattle.mach_ir.specs.declared.op.Op.TheVariants as op
use Rattle.mach_ir.specs.declared.reg.Reg.{Reg}
use Rattle.mach_ir.specs.declared.mach.MachOp.{MachOp}
use Rattle.mach_ir.specs.declared.mach.MachOp.TheVariants as mach
use Rattle.mach_ir.specs.declared.mach.Instr.{Instr}
use Rattle.mach_ir.specs.declared.mach.Mach.{Mach}
use Rattle.mach_laws.specs.Expand.{expand, Ending, all}
use Rattle.mach_laws.specs.Passes.{IsNoLarger}
use Rattle.mach_laws.proofs.Level as level
use Rattle.mach_laws.proofs.Places.{ending_next, ending_label, ending_from_handler, contains_of, stands_in}

nothing_there : (i : Instr) (xs : List Instr) → i ∷ xs ≡ [] → ⊥
nothing_there i xs e = cc

module _ (m : Mach) where
  abbrev q : Mach
  q = combined m

  abbrev f : ℕ → Instr → List Instr
  f = merged m.code

  -- ---- what is reached

  -- an instruction of the result that is reached, by the one that it stands for
  record Head (j : Instr) (zs : List Instr) : Type 0 where
    instr : Instr
    next : List Instr
    ending : Ending (instr ∷ next) m.code
    reached : Reached m (instr ∷ next)
    rest : zs ≡ expand f next
    after : Scanned
    view : View instr (scanned m.code next) after (j ∷ [])

  head_of : (j : Instr) (zs rest : List Instr) → Ending rest m.code → Reached m rest → j ∷ zs ≡ expand f rest → Head j zs
  head_of j zs [] e r same = absurd (nothing_there j zs same)
  head_of j zs (i ∷ next) e r same =
      at (f (length next) i) refl (view m.code i next e) (λ y k. head_of j zs next (ending_next e) y k)
    where
      one : (k : Instr) (xs : List Instr) → xs ≡ k ∷ [] → f (length next) i ≡ xs →
          View i (scanned m.code next) (scanned m.code (i ∷ next)) xs → Head j zs
      one k xs x e' v =
          let whole : j ∷ zs ≡ k ∷ expand f next = same ∙ ap (λ ys. ys ++ expand f next) (e' ∙ x) in
          record {
            instr = i;
            next = next;
            ending = e;
            reached = r;
            rest = tail_same whole;
            after = scanned m.code (i ∷ next);
            view = subst (λ ys. View i (scanned m.code next) (scanned m.code (i ∷ next)) ys)
                (x ∙ ap (λ k. k ∷ []) (sym (head_same whole))) v;
          }

      skipped : {s : Scanned} (ys : List Instr) → ys ≡ [] → View i (scanned m.code next) s ys → Reached m next
      skipped ys y (runs k) = absurd (nothing_there i [] y)
      skipped ys y (ends x b z) = absurd (nothing_there i [] y)
      skipped ys y (joined blocks h) = by_step r (goes On (alloc_goes m i blocks h))
      skipped ys y (opened blocks h) = absurd (nothing_there (allocation _ _) [] y)

      at : (xs : List Instr) → f (length next) i ≡ xs → View i (scanned m.code next) (scanned m.code (i ∷ next)) xs →
          (Reached m next → j ∷ zs ≡ expand f next → Head j zs) → Head j zs
      at [] e' v ih = ih (skipped [] refl v) (same ∙ ap (λ ys. ys ++ expand f next) e')
      at (k ∷ []) e' v ih = one k (k ∷ []) refl e' v
      at (k ∷ l ∷ xs) e' v ih = absurd (not_long v k l xs refl)

  record Was (ys : List Instr) : Type 0 where
    rest : List Instr
    ending : Ending rest m.code
    reached : Reached m rest
    same : ys ≡ expand f rest

  next_on : {i j : Instr} {next : List Instr} {s : Scanned} → View i (scanned m.code next) s (j ∷ []) → OneOf On (targets j.op) →
      Reached m (i ∷ next) → Reached m next
  next_on (runs k) o r = by_step r (goes On o)
  next_on (ends x b z) o r = by_step r (goes On o)
  next_on {i} (opened blocks e) o r = by_step r (goes On (alloc_goes m i blocks e))

  label_on : {i j : Instr} {next : List Instr} {s : Scanned} {l : ℕ} → View i (scanned m.code next) s (j ∷ []) → OneOf (At l) (targets j.op) →
      Reached m (i ∷ next) → Reached m (after_label l m.code)
  label_on {l = l} (runs k) o r = by_step r (goes (At l) o)
  label_on {l = l} (ends x b z) o r = by_step r (goes (At l) o)
  label_on (opened blocks e) (other o) r = elim o [ ]

  raise_on : {i j : Instr} {next : List Instr} {s : Scanned} {l : ℕ} {tries : List ℕ} → View i (scanned m.code next) s (j ∷ []) →
      may_raise j.op ≡ true → tries_at (j ∷ next) ≡ l ∷ tries → Reached m (i ∷ next) → Reached m (from_handler l m.code)
  raise_on (runs k) h t r = by_raise r (raises h t)
  raise_on (ends x b z) h t r = by_raise r (raises h t)
  raise_on (opened blocks e) h t r = absurd (true≢false (sym h))

  was_reached : {ys : List Instr} → Reached q ys → Was ys
  was_reached at_entry = record { rest = m.code; ending = all; reached = at_entry; same = is_code m }
  was_reached (by_step {i = j} {next = zs} r (goes On o)) =
      let w = was_reached r in
      let h = head_of j zs w.rest w.ending w.reached w.same in
      record { rest = h.next; ending = ending_next h.ending; reached = next_on h.view o h.reached; same = h.rest }
  was_reached (by_step {i = j} {next = zs} r (goes (At l) o)) =
      let w = was_reached r in
      let h = head_of j zs w.rest w.ending w.reached w.same in
      record { rest = after_label l m.code; ending = ending_label l m.code; reached = label_on h.view o h.reached; same = label_is m l }
  was_reached (by_raise {i = j} {next = zs} r (raises {l = l} h t)) =
      let w = was_reached r in
      let k = head_of j zs w.rest w.ending w.reached w.same in
      record {
        rest = from_handler l m.code;
        ending = ending_from_handler l m.code;
        reached = raise_on k.view h (sym (tries_here m j k.next) ∙ ap (λ xs. tries_at (j ∷ xs)) (sym k.rest) ∙ t) k.reached;
        same = handler_is m l;
      }

  -- ---- symbols

  named_before : (P : MachOp → Type 0) → ((blocks : List NewBlock) → P (mach.Op (op.Access (access.Alloc blocks))) → ⊥) →
      IsNamedIn P q → IsNamedIn P m
  named_before P none n =
      let s = stands_in q.code n.instr n.among in by n.instr s.0 (came _ m.code n.instr s.0 s.1) n.named
    where
      by : (j : Instr) (ys : List Instr) → Came m.code j ys → P j.op → IsNamedIn P m
      by j ys (stays h s k e) p = record { instr = j; among = contains_of s; named = p }
      by j ys (opens i blocks s e same t) p = absurd (none _ (subst (λ (k : Instr). P k.op) same p))

  no_symbol : (name : List ℕ) (blocks : List NewBlock) → NamesSymbol name (mach.Op (op.Access (access.Alloc blocks))) → ⊥
  no_symbol name blocks n = elim n [ ]

  no_external : (row : External) (blocks : List NewBlock) → NamesExternal row (mach.Op (op.Access (access.Alloc blocks))) → ⊥
  no_external row blocks n = elim n [ ]

  module _ (is : IsCombinable m) where
    no_addr : NoAddrLive m → NoAddrLive q
    no_addr none =
        record {
          none = λ j zs reached frame r one addr v.
              let w = was_reached reached in
              let h = head_of j zs w.rest w.ending w.reached w.same in
              by j zs h frame r one addr v h.view;
        }
      where
        by : (j : Instr) (zs : List Instr) (h : Head j zs) → passes_frame j.op ≡ true → (r : Reg) → IsRegister q r → r.comp ≡ comp.Addr →
            LiveAcross q r.number j zs → View h.instr (scanned m.code h.next) h.after (j ∷ []) → ⊥
        by j zs h frame r one addr v w = at h.instr h.next h.ending h.reached w (subst (LiveAcross q r.number j) h.rest v)
          where
            at : (i : Instr) (next : List Instr) → Ending (i ∷ next) m.code → Reached m (i ∷ next) → {s : Scanned} →
                View i (scanned m.code next) s (j ∷ []) → LiveAcross q r.number j (expand f next) → ⊥
            at i next e y w v = split j i next e y w frame v
              where
                split : (j i : Instr) (next : List Instr) → Ending (i ∷ next) m.code → Reached m (i ∷ next) → {s : Scanned} →
                    View i (scanned m.code next) s (j ∷ []) → passes_frame j.op ≡ true → LiveAcross q r.number j (expand f next) → ⊥
                split j i next e y (runs k) frame v = true≢false (sym frame ∙ k.frame)
                split j i next e y (ends x b z) frame v =
                    none.none i next y frame r (register_before m r one) addr (across_ends m is i next e z r.number v)
                split j i next e y (opened blocks al) frame v =
                    none.none i next y (ap passes_frame al) r (register_before m r one) addr
                    (across_opened m is i next blocks e al r.number v)

    does : MachSimulation m q
    does c arguments memory doings s e =
        level.begins_at c m q refl
        (λ arguments memory a t n begun proper.
        record { no_less = no_less m is c a _ n t proper; no_more = no_more m is c a _ n t proper })
        arguments memory doings s e

    pub keeps : Keeps m (combined m)
    keeps =
        record {
          name = refl;
          result = refl;
          does = does;
          origins = λ r i l. record { register = r; among = register_before m r i; loose = l; same = refl };
          slots = λ r k i e. inl (record { register = r; among = register_before m r i; stands = e; same = refl });
          symbols = λ name n. named_before (NamesSymbol name) (no_symbol name) n;
          externals = λ row n. named_before (NamesExternal row) (no_external row) n;
          addrs = no_addr;
        }

pub combined_smaller : (m : Mach) → IsNoLarger m (combined m)
combined_smaller m = record { params = refl; registers = register_before m; size = size m }

-- What a function keeps whose allocations are combined.
pub combined_kept : (m : Mach) → IsCombinable m → IsCombineKept m (combined m)
combined_kept m is =
    record {
      pass = record { keeps = keeps m is; formed = combined_formed m is; placed = combined_placed m is; seated = combined_seated m };
      no_larger = combined_smaller m;
    }
