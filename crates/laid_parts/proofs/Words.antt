-- The words of the stack that chunks of a part name.
use Rattle.std.proofs.Common.{◌≡◌, ℕ, ◌+◌, ◌*◌, ◌%◌, ◌^◌, ◌<◌, ◌≤◌, ◌⊎◌, inl, inr, Bool, true, false, cond, nat_eq, nat_lt, not, ◌||◌, ◌&&◌, List, [], ◌∷◌, ◌++◌, refl, sym, subst, ◌∙◌, ap, arith}
use Rattle.std.proofs.lemmas.Bool.{ltb-true}
use Rattle.std.proofs.lemmas.Bool.Decides.{nat_tests}
use Rattle.std.proofs.Math.Bool.{and-false, or-false}
use Rattle.bs_words.specs.Word.{add_word, sext_word}
use Rattle.rv_isa.specs.Registers.{register_number}
use Rattle.rv_isa.specs.declared.instr.LoadWidth.TheVariants as loads
use Rattle.rv_isa.specs.declared.instr.StoreWidth.TheVariants as stores
use Rattle.rv_isa.specs.declared.register.Register.{Register}
use Rattle.rv_isa.specs.declared.register.Register.TheVariants.{Sp, T1, T2}
use Rattle.rv_pieces.specs.declared.piece.Piece.{Piece}
use Rattle.rv_emit_rules.specs.Instructions.{low_12, load_piece, store_piece}
use Rattle.rv_emit_rules.specs.Constants.{above_12}
use Rattle.rv_emit_rules.specs.Slots.{far_stack, stack_load, stack_store}
use Rattle.rv_emit_rules.proofs.Values.{by_12, by_32, first_is}
use Rattle.linearise_rules.specs.Lowered.{is_among_numbers}
use Rattle.laid_parts.specs.Named.{piece_targets}
use Rattle.laid_parts.specs.Stack.{KnownWord, Unknown, Is, FromSp, RegisterForms, held_after, load_address, store_address, is_loaded, is_stored, piece_made, plus, word_at}
use Rattle.laid_parts.proofs.Registers.{regroup, or_grouped}

-- ---- pieces one after the other

unfoldable pub later : RegisterForms → List Piece → RegisterForms
later h [] = h
later h (p ∷ ps) = later (held_after h p) ps

-- what is known before and after pieces: sp is as it was before the part
abbrev pub AtSp : RegisterForms → Type 0
AtSp h = h 2 ≡ FromSp 0

-- this is no address of the stack
pub data IsFree : KnownWord → Type 0 where
  is_unknown : IsFree Unknown
  is_constant : {w : ℕ} → IsFree (Is w)

-- and sp alone holds an address of the stack
pub record IsClean (h : RegisterForms) : Type 0 where
  pub sp : h 2 ≡ FromSp 0
  pub others : (r : ℕ) → nat_eq r 2 ≡ false → IsFree (h r)

-- nothing
abbrev pub Whatever : RegisterForms → Type 0
Whatever h = Unit {0}

pub record Words (Q : RegisterForms → Type 0) (c : ℕ) (h : RegisterForms) (ps : List Piece) (R S : Bool) : Type 0 where
  pub loads : is_loaded h c ps ≡ R
  pub stores : is_stored h c ps ≡ S
  pub left : Q (later h ps)

-- wherever the first holds before them
pub record Through (P Q : RegisterForms → Type 0) (c : ℕ) (ps : List Piece) (R S : Bool) : Type 0 where
  pub each : (h : RegisterForms) → P h → Words Q c h ps R S

abbrev pub Chunk : (c : ℕ) → List Piece → Bool → Bool → Type 0
Chunk c ps R S = Through AtSp AtSp c ps R S

abbrev pub Clear : (c : ℕ) → List Piece → Bool → Bool → Type 0
Clear c ps R S = Through IsClean IsClean c ps R S

-- a whole part
abbrev pub Part : (c : ℕ) → List Piece → Bool → Bool → Type 0
Part c ps R S = Through IsClean Whatever c ps R S

later-append : (h : RegisterForms) (xs ys : List Piece) → later h (xs ++ ys) ≡ later (later h xs) ys
unfolding later
later-append h [] ys = refl
later-append h (p ∷ xs) ys = later-append (held_after h p) xs ys

loaded-append : (c : ℕ) (h : RegisterForms) (xs ys : List Piece) →
    is_loaded h c (xs ++ ys) ≡ (is_loaded h c xs || (not (is_stored h c xs) && is_loaded (later h xs) c ys))
unfolding later
loaded-append c h [] ys = refl
loaded-append c h (p ∷ xs) ys =
    ap (λ (z : Bool). is_among_numbers c (load_address h p) || (not (is_among_numbers c (store_address h p)) && z)) (loaded-append c (held_after h p) xs ys)
    ∙ regroup (is_among_numbers c (load_address h p)) (is_among_numbers c (store_address h p)) (is_loaded (held_after h p) c xs) (is_stored (held_after h p) c xs)
    (is_loaded (later (held_after h p) xs) c ys)

stored-append : (c : ℕ) (h : RegisterForms) (xs ys : List Piece) → is_stored h c (xs ++ ys) ≡ (is_stored h c xs || is_stored (later h xs) c ys)
unfolding later
stored-append c h [] ys = refl
stored-append c h (p ∷ xs) ys =
    ap (λ (z : Bool). is_among_numbers c (store_address h p) || z) (stored-append c (held_after h p) xs ys)
    ∙ or_grouped (is_among_numbers c (store_address h p)) (is_stored (held_after h p) c xs) (is_stored (later (held_after h p) xs) c ys)

module _ (c : ℕ) where
  pub joined : {P Q T : RegisterForms → Type 0} {xs ys : List Piece} {R S U V : Bool} → Through P Q c xs R S → Through Q T c ys U V →
      Through P T c (xs ++ ys) (R || (not S && U)) (S || V)
  joined {P} {Q} {T} {xs} {ys} {R} {S} {U} {V} x y = record {
    each = λ h e.
        let a = x.each h e in
        let b = y.each (later h xs) a.left in
        record {
          loads = loaded-append c h xs ys
              ∙ (ap (λ (z : Bool). z || (not (is_stored h c xs) && is_loaded (later h xs) c ys)) a.loads
              ∙ (ap (λ (z : Bool). R || (not z && is_loaded (later h xs) c ys)) a.stores ∙ ap (λ (z : Bool). R || (not S && z)) b.loads));
          stores = stored-append c h xs ys ∙ (ap (λ (z : Bool). z || is_stored (later h xs) c ys) a.stores ∙ ap (λ (z : Bool). S || z) b.stores);
          left = subst T (sym (later-append h xs ys)) b.left;
        };
  }

  pub same : {P Q : RegisterForms → Type 0} {ps : List Piece} {R S U V : Bool} → Through P Q c ps R S → R ≡ U → S ≡ V → Through P Q c ps U V
  same x e f = record { each = λ h k. let a = x.each h k in record { loads = a.loads ∙ e; stores = a.stores ∙ f; left = a.left } }

  pub then_none : {P Q T : RegisterForms → Type 0} {xs ys : List Piece} {R S : Bool} → Through P Q c xs R S → Through Q T c ys false false →
      Through P T c (xs ++ ys) R S
  then_none {xs} {ys} {R} {S} x y = same (joined x y) (ap (λ (z : Bool). R || z) (and-false (not S)) ∙ or-false R) (or-false S)

  pub either : {P Q : RegisterForms → Type 0} (b : Bool) {xs ys : List Piece} {R S : Bool} → Through P Q c xs R S → Through P Q c ys R S →
      Through P Q c (cond b xs ys) R S
  either true x y = x
  either false x y = y

  pub nothing : {P : RegisterForms → Type 0} → Through P P c [] false false
  unfolding later
  nothing = record { each = λ h e. record { loads = refl; stores = refl; left = e } }

  -- less is known
  pub in_part : {Q : RegisterForms → Type 0} {ps : List Piece} {R S : Bool} → Through AtSp Q c ps R S → Part c ps R S
  in_part x = record { each = λ h k. let a = x.each h k.sp in record { loads = a.loads; stores = a.stores; left = tt } }

  pub at_sp : {ps : List Piece} {R S : Bool} → Clear c ps R S → Through IsClean AtSp c ps R S
  at_sp x = record { each = λ h k. let a = x.each h k in record { loads = a.loads; stores = a.stores; left = a.left.sp } }

  pub at_end : {P Q : RegisterForms → Type 0} {ps : List Piece} {R S : Bool} → Through P Q c ps R S → Through P Whatever c ps R S
  at_end x = record { each = λ h k. let a = x.each h k in record { loads = a.loads; stores = a.stores; left = tt } }

  -- one that loads and stores nothing
  pub one_still : {P Q : RegisterForms → Type 0} (p : Piece) → ((h : RegisterForms) → P h → load_address h p ≡ []) → ((h : RegisterForms) → P h → store_address h p ≡ []) →
      ((h : RegisterForms) → P h → Q (held_after h p)) → Through P Q c (p ∷ []) false false
  unfolding later
  one_still p a b t = record {
    each = λ h e. record {
      loads = ap (λ (z : List ℕ). is_among_numbers c z || (not (is_among_numbers c (store_address h p)) && false)) (a h e) ∙ and-false (not (is_among_numbers c (store_address h p)));
      stores = ap (λ (z : List ℕ). is_among_numbers c z || false) (b h e);
      left = t h e;
    };
  }

  -- and leaves sp
  pub still : (p : Piece) → ((h : RegisterForms) → load_address h p ≡ []) → ((h : RegisterForms) → store_address h p ≡ []) → is_among_numbers 2 (piece_targets p) ≡ false →
      Chunk c (p ∷ []) false false
  still p a b t = one_still p (λ h e. a h) (λ h e. b h) (λ h e. ap (λ (z : Bool). cond z (piece_made h p) (h 2)) t ∙ e)

  -- wherever it is
  pub silent : {P : RegisterForms → Type 0} (p : Piece) → ((h : RegisterForms) → load_address h p ≡ []) → ((h : RegisterForms) → store_address h p ≡ []) →
      Through P Whatever c (p ∷ []) false false
  silent p a b = one_still p (λ h e. a h) (λ h e. b h) (λ h e. tt)

-- ---- addresses

near_is : (w : ℕ) → w < 2048 → add_word 0 (sext_word (low_12 w) 12) ≡ w
near_is w l = first_is w (omega arith) (grind (arith, nat_tests))

far_is : (w : ℕ) → w < 1073741824 →
    add_word (add_word (sext_word (4096 * (above_12 w % 1048576)) 32) 0) (sext_word (low_12 w) 12) ≡ w
unfolding add_word
far_is w l = by (by_32 (4096 * (above_12 w % 1048576))) (by_12 w)
  where
    by : ((4096 * (above_12 w % 1048576) % 4294967296 < 2147483648) × (sext_word (4096 * (above_12 w % 1048576)) 32 ≡ 4096 *
        (above_12 w % 1048576) % 4294967296))
        ⊎ ((2147483648 ≤ 4096 * (above_12 w % 1048576) % 4294967296) × (sext_word (4096 * (above_12 w % 1048576)) 32 ≡ 4096 *
        (above_12 w % 1048576) % 4294967296 + 0xFFFFFFFF00000000)) →
        ((w % 4096 < 2048) × (sext_word (low_12 w) 12 ≡ w % 4096)) ⊎ ((2048 ≤ w % 4096) × (sext_word (low_12 w) 12 ≡ w % 4096 + 0xFFFFFFFFFFFFF000)) →
        ((sext_word (4096 * (above_12 w % 1048576)) 32 + 0) % 2 ^ 64 + sext_word (low_12 w) 12) % 2 ^ 64 ≡ w
    by (inl x) (inl y) = let e = x.1 in let f = y.1 in let g = y.0 in omega (arith, e, f, g, l)
    by (inl x) (inr y) = let e = x.1 in let f = y.1 in let g = y.0 in omega (arith, e, f, g, l)
    by (inr x) y = absurd (let g = x.0 in omega (arith, g, l))

-- ---- slots

-- through t1 or t2
pub data IsScratch : Register → Type 0 where
  is_t1 : IsScratch T1
  is_t2 : IsScratch T2

abbrev pub is_sp : Register → Bool
is_sp r = nat_eq (register_number r) 2

module _ (c : ℕ) where
  pub near_load : (to : Register) (w : ℕ) → w < 2048 → is_sp to ≡ false → Chunk c (load_piece loads.Ld to Sp w ∷ []) (nat_eq w c) false
  unfolding later
  near_load to w l t = record {
    each = λ h e. record {
      loads = ap (λ (f : KnownWord). (is_among_numbers c (word_at f (low_12 w)) || false)) e
          ∙ (or-false _ ∙ (or-false _ ∙ ap (λ (z : ℕ). nat_eq z c) (near_is w l)));
      stores = refl;
      left = ap (λ (z : Bool). cond (z || false) Unknown (h 2)) t ∙ e;
    };
  }

  near_store : (from : Register) (w : ℕ) → w < 2048 → Chunk c (store_piece stores.Sd from Sp w ∷ []) false (nat_eq w c)
  unfolding later
  near_store from w l = record {
    each = λ h e. record {
      loads = and-false (not (is_among_numbers c (word_at (h 2) (low_12 w))));
      stores = ap (λ (f : KnownWord). (is_among_numbers c (word_at f (low_12 w)) || false)) e
          ∙ (or-false _ ∙ (or-false _ ∙ ap (λ (z : ℕ). nat_eq z c) (near_is w l)));
      left = e;
    };
  }

  abbrev upper : ℕ → KnownWord
  upper w = Is (sext_word (4096 * (above_12 w % 1048576)) 32)

  pub far_load : (scratch to : Register) (w : ℕ) → IsScratch scratch → w < 1073741824 → is_sp to ≡ false →
      Chunk c (far_stack scratch w ++ load_piece loads.Ld to scratch w ∷ []) (nat_eq w c) false
  unfolding later
  far_load scratch to w is_t1 l t = record {
    each = λ h e. record {
      loads = ap (λ (f : KnownWord). (is_among_numbers c (word_at (plus (upper w) f) (low_12 w)) || false)) e
          ∙ (or-false _ ∙ (or-false _ ∙ ap (λ (z : ℕ). nat_eq z c) (far_is w l)));
      stores = refl;
      left = ap (λ (z : Bool). cond (z || false) Unknown (h 2)) t ∙ e;
    };
  }
  far_load scratch to w is_t2 l t = record {
    each = λ h e. record {
      loads = ap (λ (f : KnownWord). (is_among_numbers c (word_at (plus (upper w) f) (low_12 w)) || false)) e
          ∙ (or-false _ ∙ (or-false _ ∙ ap (λ (z : ℕ). nat_eq z c) (far_is w l)));
      stores = refl;
      left = ap (λ (z : Bool). cond (z || false) Unknown (h 2)) t ∙ e;
    };
  }

  far_store : (from : Register) (w : ℕ) → w < 1073741824 → Chunk c (far_stack T2 w ++ store_piece stores.Sd from T2 w ∷ []) false (nat_eq w c)
  unfolding later
  far_store from w l = record {
    each = λ h e. record {
      loads = and-false (not (is_among_numbers c (word_at (plus (upper w) (h 2)) (low_12 w))));
      stores = ap (λ (f : KnownWord). (is_among_numbers c (word_at (plus (upper w) f) (low_12 w)) || false)) e
          ∙ (or-false _ ∙ (or-false _ ∙ ap (λ (z : ℕ). nat_eq z c) (far_is w l)));
      left = e;
    };
  }

  pub stack_load-words : (scratch to : Register) (w : ℕ) → IsScratch scratch → w < 1073741824 → is_sp to ≡ false →
      Chunk c (stack_load scratch to w) (nat_eq w c) false
  stack_load-words scratch to w s l t = by (nat_lt w 2048) refl
    where
      by : (b : Bool) → nat_lt w 2048 ≡ b →
          Chunk c (cond b (load_piece loads.Ld to Sp w ∷ []) (far_stack scratch w ++ load_piece loads.Ld to scratch w ∷ [])) (nat_eq w c) false
      by true e = near_load to w (ltb-true w 2048 e) t
      by false e = far_load scratch to w s l t

  pub stack_store-words : (from : Register) (w : ℕ) → w < 1073741824 → Chunk c (stack_store T2 from w) false (nat_eq w c)
  stack_store-words from w l = by (nat_lt w 2048) refl
    where
      by : (b : Bool) → nat_lt w 2048 ≡ b →
          Chunk c (cond b (store_piece stores.Sd from Sp w ∷ []) (far_stack T2 w ++ store_piece stores.Sd from T2 w ∷ [])) false (nat_eq w c)
      by true e = near_store from w (ltb-true w 2048 e)
      by false e = far_store from w l
