-- What a split function still is.
use Rattle.std.proofs.Common.{◌≡◌, ◌≢◌, ℕ, suc, ◌+◌, ◌≤◌, ◌<◌, inl, inr, ⊎_elim, List, [], ◌∷◌, length, refl, sym, ap, ◌∙◌, subst, arith}
use Rattle.std.specs.List.{Contains}
use Rattle.std.proofs.lemmas.List.{length-map}
use Rattle.bs_words.specs.declared.types.Loc.TheVariants as loc
use Rattle.bs_words.proofs.Lists.{mapped}
use Rattle.mach_ir.specs.Formed.{WellFormed}
use Rattle.mach_ir.specs.Keeps.{Keeps, IsLoose, is_open, is_slot, NamesSymbol, NamesExternal, IsNamedIn}
use Rattle.mach_ir.specs.Placed.{colour_numbers, HasColourOrSlot, in_colour, in_slot, MayShare, WellPlaced}
use Rattle.mach_ir.specs.Seats.{AreSeated, places_of, mach_operand_seats, mach_result_seats, Seated}
use Rattle.mach_ir.specs.Sizes.{operand_count, Size, HasSize}
use Rattle.mach_ir.specs.Walks.{IsRegister, is_param, is_colour, is_in_code, InCode, in_args, in_results, further, Joined}
use Rattle.mach_ir.specs.declared.mach.MachOp.{MachOp}
use Rattle.mach_ir.specs.declared.reg.Reg.{Reg}
use Rattle.mach_ir.specs.declared.mach.Instr.{Instr}
use Rattle.mach_ir.specs.declared.mach.Mach.{Mach}
use Rattle.mach_laws.proofs.Places.{contains_of}
use Rattle.colouring_rules.proofs.Open.{machine_open}
use Rattle.colouring_rules.proofs.Lists.{was}
use Rattle.split_rules.specs.Renamed.{Naming, register_renumbered, all_numbered, renamed_code, renamed}
use Rattle.split_rules.specs.Split.{IsNaming, IsDense, IsSplit, IsSplitKept}
use Rattle.split_rules.proofs.Formed.{was_instr, renamed_formed}
use Rattle.split_rules.proofs.Kept.{does_renamed}
use Rattle.split_rules.proofs.Text.{was_register, WasRegister}
use Rattle.split_rules.proofs.Walked.{Stays, joined_before, no_addr_before}

same_places : (f : ℕ → ℕ) (rs : List Reg) → places_of (all_numbered f rs) ≡ places_of rs
same_places f [] = refl
same_places f (r ∷ rs) = ap (λ ls. r.loc ∷ ls) (same_places f rs)

-- The registers that stand for the colours have places.
pub fixed_colours : (m : Mach) → WellPlaced m → (r : Reg) → Contains m.colours r → r.loc ≢ loc.Unset
fixed_colours m well r c = λ e.
    let l = mapped (λ (r : Reg). r.loc) m.colours r c in
    let w = was loc.Machine colour_numbers r.loc (subst (λ ls. Contains ls r.loc) ((well.colours).each) l) in
    machine_open (sym w.same) e

module _ (m : Mach) (names : Naming) (is : IsNaming m names) (formed : WellFormed m) (well : WellPlaced m) where
  abbrev q : Mach
  q = renamed names m

  pub colour_fixed : (r : Reg) → Contains m.colours r → r.loc ≢ loc.Unset
  colour_fixed = fixed_colours m well

  old : (r : Reg) → IsRegister q r → WasRegister m names is r
  old r i = was_register m names is colour_fixed r i

  -- ---- it keeps

  named_before : (Named : MachOp → Type 0) → IsNamedIn Named q → IsNamedIn Named m
  named_before Named n =
      let w = was_instr names m.code n.instr n.among in
      record {
        instr = w.instr;
        among = contains_of w.stands;
        named = subst (λ (i : Instr). Named i.op) (sym w.same) n.named;
      }

  loc_same : (r : Reg) (i : IsRegister q r) → ((old r i).register).loc ≡ r.loc
  loc_same r i = ap (λ (r : Reg). r.loc) (old r i).same

  origin_same : (r : Reg) (i : IsRegister q r) → ((old r i).register).origin ≡ r.origin
  origin_same r i = ap (λ (r : Reg). r.origin) (old r i).same

  loose_before : (w r : Reg) → w.loc ≡ r.loc → IsLoose r → IsLoose w
  loose_before w r e (is_open u) = is_open (e ∙ u)
  loose_before w r e (is_slot u) = is_slot (e ∙ u)

  pub renamed_keeps : Keeps m (renamed names m)
  renamed_keeps =
      record {
        name = refl;
        result = refl;
        does = does_renamed m names is formed colour_fixed;
        origins = λ r i loose.
            record {
              register = (old r i).register;
              among = (old r i).among;
              loose = loose_before (old r i).register r (loc_same r i) loose;
              same = origin_same r i;
            };
        slots = λ r k i s. inl
            (record {
              register = (old r i).register;
              among = (old r i).among;
              stands = loc_same r i ∙ s;
              same = origin_same r i;
            });
        symbols = λ name n. named_before (NamesSymbol name) n;
        externals = λ row n. named_before (NamesExternal row) n;
        addrs = no_addr_before m names is colour_fixed;
      }

  -- ---- places

  placed_now : (w r : Reg) → w.loc ≡ r.loc → w.origin ≡ r.origin → HasColourOrSlot w → HasColourOrSlot r
  placed_now w r e o (in_colour n c h) = in_colour n c (sym e ∙ h)
  placed_now w r e o (in_slot h) = in_slot (sym e ∙ h ∙ ap loc.Slot o)

  -- a register whose place is fixed
  is_same : (r : Reg) (i : IsRegister q r) → r.loc ≢ loc.Unset → (old r i).register ≡ r
  is_same r i h =
      ap (λ n. record (old r i).register { number = n }) (sym ((old r i).fixed (λ e. h (sym (loc_same r i) ∙ e))))
      ∙ (old r i).same

  fixed_stays : (r : Reg) → IsRegister m r → r.loc ≢ loc.Unset → Stays m names is colour_fixed r.number
  fixed_stays r i h =
      record {
        back = ap is.back (sym (is.read_fixed r i h 0)) ∙ is.read_back r i 0;
        read = is.read_fixed r i h;
        write = is.write_fixed r i h;
      }

  apart : (r k : Reg) → IsRegister q r → IsRegister q k → Joined q r.number k.number → r.loc ≢ loc.Unset → r.loc ≡ k.loc →
      MayShare r k
  apart r k i j joined h e =
      let g : k.loc ≢ loc.Unset = λ u. h (e ∙ u) in
      let one : IsRegister m r = subst (IsRegister m) (is_same r i h) (old r i).among in
      let other : IsRegister m k = subst (IsRegister m) (is_same k j g) (old k j).among in
      (well.agree).apart r k one other
      (joined_before m names is colour_fixed (fixed_stays r one h) (fixed_stays k other g) joined) h e

  pub renamed_placed : WellPlaced (renamed names m)
  renamed_placed =
      record {
        colours = record {
          each = (well.colours).each;
          least = λ r k c i e.
              let open_no : k.loc ≢ loc.Unset = λ u. colour_fixed r c (sym e ∙ u) in
              let one : IsRegister m k = subst (IsRegister m) (is_same k i open_no) (old k i).among in
              (well.colours).least r k c one e;
        };
        agree = record {
          places = λ r i.
              ⊎_elim (λ u. inl (sym (loc_same r i) ∙ u))
              (λ p. inr (placed_now (old r i).register r (loc_same r i) (origin_same r i) p))
              ((well.agree).places (old r i).register (old r i).among);
          apart = apart;
        };
      }

  -- ---- seats

  pub renamed_seated : Seated m → Seated (renamed names m)
  renamed_seated seated =
      record {
        params = seated.params;
        operands = λ i c.
            let w = was_instr names m.code i c in
            subst (λ (i : Instr). AreSeated (mach_operand_seats i.op) (places_of i.args)) w.same
            (subst (AreSeated (mach_operand_seats (w.instr).op)) (sym (same_places (names.read (length w.after)) (w.instr).args))
            (seated.operands w.instr (contains_of w.stands)));
        results = λ i c.
            let w = was_instr names m.code i c in
            subst (λ (i : Instr). AreSeated (mach_result_seats i.op) (places_of i.results)) w.same
            (subst (AreSeated (mach_result_seats (w.instr).op)) (sym (same_places (names.write (length w.after)) (w.instr).results))
            (seated.results w.instr (contains_of w.stands)));
      }

  -- ---- sizes

  same_length : (code : List Instr) → length (renamed_code names code) ≡ length code
  same_length [] = refl
  same_length (i ∷ is) = ap suc (same_length is)

  same_count : (code : List Instr) → operand_count (renamed_code names code) ≡ operand_count code
  same_count [] = refl
  same_count (i ∷ is) =
      ap (λ n. n + length (all_numbered (names.write (length is)) i.results) + operand_count (renamed_code names is))
      (length-map i.args (register_renumbered (names.read (length is))))
      ∙ ap (λ n. length i.args + n + operand_count (renamed_code names is))
      (length-map i.results (register_renumbered (names.write (length is))))
      ∙ ap (λ n. length i.args + length i.results + n) (same_count is)

  module _ (dense : IsDense m names) (s : Size) (h : HasSize m s) where
    abbrev limit : ℕ
    limit = s.registers + (s.operands + length m.params)

    raised : (n : ℕ) → n < s.registers → n < limit
    raised n lt = omega (arith, lt)

    below_in : (code : List Instr) → ((w : Reg) → InCode w code → IsRegister m w) → (r : Reg) →
        InCode r (renamed_code names code) → r.number < limit
    below_in [] known r c = elim c [ ]
    below_in (i ∷ is) known r (in_args c) =
        let w = was (register_renumbered (names.read (length is))) i.args r c in
        subst (λ n. n < limit) (ap (λ (r : Reg). r.number) w.same)
        (dense.read s h w.what (known w.what (in_args w.among)) (length is))
    below_in (i ∷ is) known r (in_results c) =
        let w = was (register_renumbered (names.write (length is))) i.results r c in
        subst (λ n. n < limit) (ap (λ (r : Reg). r.number) w.same)
        (dense.write s h w.what (known w.what (in_results w.among)) (length is))
    below_in (i ∷ is) known r (further c) = below_in is (λ w d. known w (further d)) r c

    below : (r : Reg) → IsRegister q r → r.number < limit
    below r (is_param c) = raised r.number (h.numbers r (is_param c))
    below r (is_colour c) = raised r.number (h.numbers r (is_colour c))
    below r (is_in_code c) = below_in m.code (λ w d. is_in_code d) r c

    pub renamed_size : HasSize (renamed names m) (record s { registers = s.registers + (s.operands + length m.params) })
    renamed_size =
        record {
          instrs = subst (λ n. n ≤ s.instrs) (sym (same_length m.code)) h.instrs;
          operands = subst (λ n. n ≤ s.operands) (sym (same_count m.code)) h.operands;
          numbers = below;
          origins = λ r i.
              raised r.origin (subst (λ n. n < s.registers) (origin_same r i) (h.origins (old r i).register (old r i).among));
          labels = h.labels;
        }

pub split_kept : (m q : Mach) → WellFormed m → WellPlaced m → IsSplit m q → IsSplitKept m q
split_kept m q formed well split =
    subst (IsSplitKept m) (sym split.is)
    (record {
      pass = record {
        keeps = renamed_keeps m split.names split.naming formed well;
        formed = renamed_formed m split.names split.naming formed (colour_fixed m split.names split.naming formed well);
        placed = λ _. renamed_placed m split.names split.naming formed well;
        seated = renamed_seated m split.names split.naming formed well;
      };
      size = λ s h. renamed_size m split.names split.naming formed well split.dense s h;
    })
