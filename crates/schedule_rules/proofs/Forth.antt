-- What was live is live in the function with its runs reordered.
use Rattle.std.proofs.Common.{◌≡◌, ◌≢◌, ℕ, true, ◌⊎◌, inl, inr, ⊎_elim, List, [], ◌∷◌, ◌++◌, refl, sym, ◌∙◌, subst}
use Rattle.std.proofs.lemmas.Bool.{true≢false}
use Rattle.bs_words.specs.declared.types.Comp.{Comp}
use Rattle.bs_words.specs.declared.types.Loc.{Loc}
use Rattle.bs_words.specs.declared.types.Loc.TheVariants as loc
use Rattle.mach_ir.specs.Acts.{Target, On, At}
use Rattle.lin_ir.specs.Meaning.{after_label, code_at}
use Rattle.lin_ir.specs.Walks.{tries_after, LineWalkStep, Raises, ReadsLocationAs, Writes, Live, read, on, aside, LiveAcross, across_step, across_raise}
use Rattle.lin_ir.specs.Walks as walks
use Rattle.lin_ir.specs.declared.lin.Line.{Line}
use Rattle.lin_ir.specs.declared.lin.Lin.{Lin}
use Rattle.schedule_rules.specs.Straight.{is_plain}
use Rattle.schedule_rules.specs.Orders.{are_plain, Reorders, Rest, rest_ends, rest_line, Ordered, ordered}
use Rattle.schedule_rules.proofs.Reorder.{and_left, and_right, reorders_plain}
use Rattle.schedule_rules.proofs.Living.{cons_head, cons_tail, cons_nil, plain_only, plain_tries, plain_quiet, First, reads_it, past, Unwritten, none, one, first_forth, unwritten_forth, first_live, unwritten_live, ordered_label}

-- r is m with its runs reordered
module _ (m r : Lin) (whole : Ordered m.code r.code) (l : Loc) (t : Comp) (out : l ≢ loc.Unset) where
  abbrev pub Out : List Line → List Line → List ℕ → Type 0
  Out xs js tries = First l out t xs ⊎ (Unwritten l out xs × Live r l t js tries)

  out_live : (xs ys js : List Line) (tries : List ℕ) → are_plain xs ≡ true → Reorders xs ys → Out xs js tries → Live r l t (ys ++ js) tries
  out_live xs ys js tries p o x =
      ⊎_elim (λ f. first_live l out r t ys js tries (reorders_plain xs ys o p) (first_forth l out t xs ys o p f))
      (λ y. unwritten_live l out r t ys js tries (reorders_plain xs ys o p) (unwritten_forth l out xs ys o y.0) y.1) x

  abbrev pub Known : List Line → List ℕ → Type 0
  Known to left = (xs is js : List Line) → are_plain xs ≡ true → Rest is js → to ≡ xs ++ is → Out xs js left

  from_known : (from to : List Line) (left : List ℕ) → Known from left → Ordered from to → Live r l t to left
  from_known _ _ left known (ordered xs ys is js p o rest) = out_live xs ys js left p o (known xs is js p rest refl)

  in_run : (i : Line) (next to xs is js : List Line) (tries left : List ℕ) (x : Line) → is_plain x.op ≡ true → are_plain xs ≡ true → Rest is js →
      i ≡ x → next ≡ xs ++ is → (Writes i l → ⊥) → LineWalkStep m i next tries to left → Known to left → Out (x ∷ xs) js tries
  in_run i next _ xs is js tries _ x px p rest same e w (walks.goes to o) known =
      by (plain_only i.op to pi o) known
    where
      pi : is_plain i.op ≡ true
      pi = subst (λ (k : Line). is_plain k.op ≡ true) (sym same) px

      w' : Writes x l → ⊥
      w' = subst (λ (k : Line). Writes k l → ⊥) same w

      by : to ≡ On → Known (code_at m.code next to) (tries_after i.op tries) → Out (x ∷ xs) js tries
      by q known =
          let k : Known next tries = subst (λ (z : List ℕ). Known next z) (plain_tries i.op tries pi)
          (subst (λ (z : Target). Known (code_at m.code next z) (tries_after i.op tries)) q known) in
          ⊎_elim (λ f. inl (past w' f)) (λ u. inr (one w' u.0, u.1)) (k xs is js p rest e)

  at_line : (i j : Line) (next to : List Line) (xs ys : List Line) (is js : List Line) (tries left : List ℕ) → are_plain xs ≡ true → Reorders xs ys → Rest is js →
      i ≡ j → next ≡ xs ++ is → (Writes i l → ⊥) → LineWalkStep m i next tries to left → Known to left → Live r l t (j ∷ ys ++ js) tries
  at_line i j next _ xs ys is js tries _ p o rest same e w (walks.goes On z) known =
      subst (λ (k : Line). Live r l t (k ∷ ys ++ js) tries) same
      (on w (walks.goes On z) (out_live xs ys js (tries_after i.op tries) p o (known xs is js p rest e)))
  at_line i j next _ xs ys is js tries _ p o rest same e w (walks.goes (At k) z) known =
      subst (λ (n : Line). Live r l t (n ∷ ys ++ js) tries) same
      (on w (walks.goes (At k) z) (from_known (after_label k m.code) (after_label k r.code) (tries_after i.op tries) known (ordered_label k m.code r.code whole)))

  at_raise : (i j : Line) (to : List Line) (ys js : List Line) (tries left : List ℕ) → i ≡ j → Raises m i tries to left → Known to left → Live r l t (j ∷ ys ++ js) tries
  at_raise i j _ ys js _ left same (walks.raises {h = h} x) known =
      subst (λ (n : Line). Live r l t (n ∷ ys ++ js) (h ∷ left)) same
      (aside (walks.raises x) (from_known (after_label h m.code) (after_label h r.code) left known (ordered_label h m.code r.code whole)))

  no_raise : (i y : Line) (tries left : List ℕ) (to : List Line) → i ≡ y → is_plain y.op ≡ true → Raises m i tries to left → ⊥
  no_raise i y _ left _ same p (walks.raises x) = true≢false (sym x ∙ plain_quiet i.op (subst (λ (k : Line). is_plain k.op ≡ true) (sym same) p))

  pub forth : {code : List Line} {tries : List ℕ} → Live m l t code tries → Known code tries
  forth {tries = tries} (read {i = i} {next = next} x) (y ∷ ys) is js p rest e = inl (reads_it (subst (ReadsLocationAs l t) (cons_head e) x))
  forth {tries = tries} (read {i = i} {next = next} x) [] _ _ p rest_ends e = absurd (cons_nil e)
  forth {tries = tries} (read {i = i} {next = next} x) [] _ _ p (rest_line j xs ys n q o rest) e = inr (none, read (subst (ReadsLocationAs l t) (cons_head e) x))
  forth {tries = tries} (on {i = i} {next = next} {to = to} {left = left} w z v) (y ∷ ys) is js p rest e =
      in_run i next to ys is js tries left y (and_left _ _ p) (and_right _ _ p) rest (cons_head e) (cons_tail e) w z (forth v)
  forth {tries = tries} (on {i = i} {next = next} {to = to} {left = left} w z v) [] _ _ p rest_ends e = absurd (cons_nil e)
  forth {tries = tries} (on {i = i} {next = next} {to = to} {left = left} w z v) [] _ _ p (rest_line j xs ys {is = is} {js = js} n q o rest) e =
      inr (none, at_line i j next to xs ys is js tries left q o rest (cons_head e) (cons_tail e) w z (forth v))
  forth {tries = tries} (aside {i = i} {next = next} {to = to} {left = left} z v) (y ∷ ys) is js p rest e =
      absurd (no_raise i y tries left to (cons_head e) (and_left _ _ p) z)
  forth {tries = tries} (aside {i = i} {next = next} {to = to} {left = left} z v) [] _ _ p rest_ends e = absurd (cons_nil e)
  forth {tries = tries} (aside {i = i} {next = next} {to = to} {left = left} z v) [] _ _ p (rest_line j xs ys {is = is} {js = js} n q o rest) e =
      inr (none, at_raise i j to ys js tries left (cons_head e) z (forth v))

  -- What is live at a place between runs of the old function is live at that place of the new.
  pub live_forth : (from to : List Line) (tries : List ℕ) → Ordered from to → Live m l t from tries → Live r l t to tries
  live_forth from to tries o v = from_known from to tries (forth v) o

  pub across_forth : (i : Line) (next after : List Line) (tries : List ℕ) → Ordered next after → LiveAcross m l t i next tries → LiveAcross r l t i after tries
  across_forth i next after tries o (across_step w (walks.goes On z) v) = across_step w (walks.goes On z) (live_forth next after _ o v)
  across_forth i next after tries o (across_step w (walks.goes (At k) z) v) =
      across_step w (walks.goes (At k) z) (live_forth (after_label k m.code) (after_label k r.code) _ (ordered_label k m.code r.code whole) v)
  across_forth i next after _ o (across_raise (walks.raises {h = h} x) v) =
      across_raise (walks.raises x) (live_forth (after_label h m.code) (after_label h r.code) _ (ordered_label h m.code r.code whole) v)
