-- What is live in the function with its runs reordered was live.
use Rattle.std.proofs.Common.{◌≡◌, ◌≢◌, ℕ, true, ◌⊎◌, inl, inr, ⊎_elim, List, [], ◌∷◌, ◌++◌, refl, sym, ◌∙◌, subst}
use Rattle.std.proofs.lemmas.Bool.{true≢false}
use Rattle.bs_words.specs.declared.types.Comp.{Comp}
use Rattle.bs_words.specs.declared.types.Loc.{Loc}
use Rattle.bs_words.specs.declared.types.Loc.TheVariants as loc
use Rattle.mach_ir.specs.Acts.{Target, On, At}
use Rattle.lin_ir.specs.Meaning.{after_label, code_at}
use Rattle.lin_ir.specs.Walks.{tries_after, LineWalkStep, Raises, ReadsLocationAs, Writes, Live, read, on, aside, LiveAcross, across_step, across_raise}
use Rattle.lin_ir.specs.Walks as walks
use Rattle.lin_ir.specs.declared.lin.Line.{Line}
use Rattle.lin_ir.specs.declared.lin.Lin.{Lin}
use Rattle.schedule_rules.specs.Straight.{is_plain}
use Rattle.schedule_rules.specs.Orders.{are_plain, Reorders, Rest, rest_ends, rest_line, Ordered, ordered}
use Rattle.schedule_rules.proofs.Reorder.{and_left, and_right, reorders_plain}
use Rattle.schedule_rules.proofs.Living.{cons_head, cons_tail, cons_nil, plain_only, plain_tries, plain_quiet, First, reads_it, past, Unwritten, none, one, first_back, unwritten_back, first_live, unwritten_live, ordered_label}

-- r is m with its runs reordered
module _ (m r : Lin) (whole : Ordered m.code r.code) (l : Loc) (t : Comp) (out : l ≢ loc.Unset) where
  -- what is known of what is live at a place of the new function, after some lines of a run
  abbrev Out : List Line → List Line → List ℕ → Type 0
  Out ys is tries = First l out t ys ⊎ (Unwritten l out ys × Live m l t is tries)

  out_live : (xs ys is : List Line) (tries : List ℕ) → are_plain xs ≡ true → Reorders xs ys → Out ys is tries → Live m l t (xs ++ is) tries
  out_live xs ys is tries p o x =
      ⊎_elim (λ f. first_live l out m t xs is tries p (first_back l out t xs ys o p f))
      (λ y. unwritten_live l out m t xs is tries p (unwritten_back l out xs ys o y.0) y.1) x

  abbrev Known : List Line → List ℕ → Type 0
  Known to left = (ys is js : List Line) → are_plain ys ≡ true → Rest is js → to ≡ ys ++ js → Out ys is left

  -- where both come to codes of which one is the other reordered
  from_known : (to left_code : List Line) (left : List ℕ) → Known to left → Ordered left_code to → Live m l t left_code left
  from_known _ _ left known (ordered xs ys is js p o rest) = out_live xs ys is left p o (known ys is js (reorders_plain xs ys o p) rest refl)

  -- a line of a run goes on
  in_run : (i : Line) (next to ys is js : List Line) (tries left : List ℕ) (y : Line) → is_plain y.op ≡ true → are_plain ys ≡ true → Rest is js →
      i ≡ y → next ≡ ys ++ js → (Writes i l → ⊥) → LineWalkStep r i next tries to left → Known to left → Out (y ∷ ys) is tries
  in_run i next _ ys is js tries _ y py p rest same e w (walks.goes to o) known =
      by (plain_only i.op to (subst (λ (k : Line). is_plain k.op ≡ true) (sym same) py) o) known
    where
      pi : is_plain i.op ≡ true
      pi = subst (λ (k : Line). is_plain k.op ≡ true) (sym same) py

      w' : Writes y l → ⊥
      w' = subst (λ (k : Line). Writes k l → ⊥) same w

      by : to ≡ On → Known (code_at r.code next to) (tries_after i.op tries) → Out (y ∷ ys) is tries
      by q known =
          let k : Known next tries = subst (λ (z : List ℕ). Known next z) (plain_tries i.op tries pi)
          (subst (λ (z : Target). Known (code_at r.code next z) (tries_after i.op tries)) q known) in
          ⊎_elim (λ f. inl (past w' f)) (λ u. inr (one w' u.0, u.1)) (k ys is js p rest e)

  -- a line that stays
  at_line : (i j : Line) (next to : List Line) (xs ys : List Line) (is js : List Line) (tries left : List ℕ) → are_plain xs ≡ true → Reorders xs ys → Rest is js →
      i ≡ j → next ≡ ys ++ js → (Writes i l → ⊥) → LineWalkStep r i next tries to left → Known to left → Live m l t (j ∷ xs ++ is) tries
  at_line i j next _ xs ys is js tries _ p o rest same e w (walks.goes On z) known =
      subst (λ (k : Line). Live m l t (k ∷ xs ++ is) tries) same
      (on w (walks.goes On z) (out_live xs ys is (tries_after i.op tries) p o (known ys is js (reorders_plain xs ys o p) rest e)))
  at_line i j next _ xs ys is js tries _ p o rest same e w (walks.goes (At k) z) known =
      subst (λ (n : Line). Live m l t (n ∷ xs ++ is) tries) same
      (on w (walks.goes (At k) z) (from_known (after_label k r.code) (after_label k m.code) (tries_after i.op tries) known (ordered_label k m.code r.code whole)))

  at_raise : (i j : Line) (to : List Line) (xs is : List Line) (tries left : List ℕ) → i ≡ j → Raises r i tries to left → Known to left → Live m l t (j ∷ xs ++ is) tries
  at_raise i j _ xs is _ left same (walks.raises {h = h} x) known =
      subst (λ (n : Line). Live m l t (n ∷ xs ++ is) (h ∷ left)) same
      (aside (walks.raises x) (from_known (after_label h r.code) (after_label h m.code) left known (ordered_label h m.code r.code whole)))

  no_raise : (i y : Line) (tries left : List ℕ) (to : List Line) → i ≡ y → is_plain y.op ≡ true → Raises r i tries to left → ⊥
  no_raise i y _ left _ same p (walks.raises x) = true≢false (sym x ∙ plain_quiet i.op (subst (λ (k : Line). is_plain k.op ≡ true) (sym same) p))

  back : {code : List Line} {tries : List ℕ} → Live r l t code tries → Known code tries
  back {tries = tries} (read {i = i} {next = next} x) (y ∷ ys) is js p rest e = inl (reads_it (subst (ReadsLocationAs l t) (cons_head e) x))
  back {tries = tries} (read {i = i} {next = next} x) [] _ _ p rest_ends e = absurd (cons_nil e)
  back {tries = tries} (read {i = i} {next = next} x) [] _ _ p (rest_line j xs ys n q o rest) e = inr (none, read (subst (ReadsLocationAs l t) (cons_head e) x))
  back {tries = tries} (on {i = i} {next = next} {to = to} {left = left} w z v) (y ∷ ys) is js p rest e =
      in_run i next to ys is js tries left y (and_left _ _ p) (and_right _ _ p) rest (cons_head e) (cons_tail e) w z (back v)
  back {tries = tries} (on {i = i} {next = next} {to = to} {left = left} w z v) [] _ _ p rest_ends e = absurd (cons_nil e)
  back {tries = tries} (on {i = i} {next = next} {to = to} {left = left} w z v) [] _ _ p (rest_line j xs ys {is = is} {js = js} n q o rest) e =
      inr (none, at_line i j next to xs ys is js tries left q o rest (cons_head e) (cons_tail e) w z (back v))
  back {tries = tries} (aside {i = i} {next = next} {to = to} {left = left} z v) (y ∷ ys) is js p rest e =
      absurd (no_raise i y tries left to (cons_head e) (and_left _ _ p) z)
  back {tries = tries} (aside {i = i} {next = next} {to = to} {left = left} z v) [] _ _ p rest_ends e = absurd (cons_nil e)
  back {tries = tries} (aside {i = i} {next = next} {to = to} {left = left} z v) [] _ _ p (rest_line j xs ys {is = is} {js = js} n q o rest) e =
      inr (none, at_raise i j to xs is tries left (cons_head e) z (back v))

  -- What is live at a place between runs of the new function is live at that place of the old.
  pub live_back : (left_code right_code : List Line) (tries : List ℕ) → Ordered left_code right_code → Live r l t right_code tries → Live m l t left_code tries
  live_back left_code right_code tries o v = from_known right_code left_code tries (back v) o

  -- and so is what is live across a line that stays, as a frame point is
  pub across_back : (i : Line) (next after : List Line) (tries : List ℕ) → Ordered next after → LiveAcross r l t i after tries → LiveAcross m l t i next tries
  across_back i next after tries o (across_step w (walks.goes On z) v) = across_step w (walks.goes On z) (live_back next after _ o v)
  across_back i next after tries o (across_step w (walks.goes (At k) z) v) =
      across_step w (walks.goes (At k) z) (live_back (after_label k m.code) (after_label k r.code) _ (ordered_label k m.code r.code whole) v)
  across_back i next after _ o (across_raise (walks.raises {h = h} x) v) =
      across_raise (walks.raises x) (live_back (after_label h m.code) (after_label h r.code) _ (ordered_label h m.code r.code whole) v)
