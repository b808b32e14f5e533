-- What a walk does to the values that places hold.
use Rattle.std.proofs.Common.{◌≡◌, ◌≢◌, ℕ, zero, suc, ◌+◌, ◌<◌, ◌⊎◌, Bool, true, false, cond, [], ◌∷◌, ◌++◌, length, Option, Some, None, refl, sym, ap, ◌∙◌, subst, arith, inl, inr}
use Rattle.std.proofs.lemmas.Bool.{cond-true, cond-false}
use Rattle.bs_words.specs.declared.types.Loc.{Loc}
use Rattle.par_moves.specs.declared.moves.Move.{Move}
use Rattle.par_moves.specs.Moves.{Moves, same_place, spare, saved, from_spare, moved, after_moves}
use Rattle.par_moves.specs.Resolved.{MovesMade, then_made, first_reader, others, top_target, unwound, turned, walked}
use Rattle.par_moves.proofs.Places.{same_place-refl, same_place-true, same_place-false, same_place-apart}
use Rattle.par_moves.proofs.Members.{In, NotTo, Apart, Split, split_first, none_reads}
use Rattle.par_moves.proofs.Turns.{length-others}

-- ---- one move

pub moved-here : {A : Type 0} (m : Move) (held : Loc → A) → moved m held m.to ≡ held m.from
moved-here m held = cond-true _ _ _ (same_place-refl m.to)

pub moved-there : {A : Type 0} (m : Move) (held : Loc → A) (place : Loc) → (place ≡ m.to → ⊥) → moved m held place ≡ held place
moved-there m held place apart = cond-false _ _ _ (same_place-apart place m.to apart)

-- ---- what a walk leaves

-- The moves of the first list are all made, those of the second or left, and what is left can still
-- be made from where things are.
pub record Effect {A : Type 0} (held : Loc → A) (walk pending : Moves) (w : MovesMade) : Type 0 where
  pub walk_done : (m : Move) → In m walk → after_moves w.made held m.to ≡ held m.from
  pub done : (m : Move) → In m pending → In m w.left ⊎ (NotTo m.to w.left × (after_moves w.made held m.to ≡ held m.from))
  pub left_in : (m : Move) → In m w.left → In m pending
  pub left_reads : (m : Move) → In m w.left → after_moves w.made held m.from ≡ held m.from
  pub rest : (place : Loc) → place ≢ spare → NotTo place walk → NotTo place pending → after_moves w.made held place ≡ held place
  pub left_apart : Apart w.left

-- the root and each move of the path read the target of the one before, the last one first
abbrev pub Follows : Move → Moves → Type 0
Follows root [] = Unit
Follows root (m ∷ path) = (m.from ≡ top_target root path) × Follows root path

-- a walk that can go on
pub record Fit (root : Move) (path pending : Moves) : Type 0 where
  pub below : NotTo root.to path
  pub root_across : NotTo root.to pending
  pub path_apart : Apart path
  pub across : (m : Move) → In m path → NotTo m.to pending
  pub pending_apart : Apart pending
  pub follows : Follows root path
  pub root_target : root.to ≢ spare
  pub path_target : (m : Move) → In m path → m.to ≢ spare
  pub pending_target : (m : Move) → In m pending → m.to ≢ spare
  pub spare_free : (root.from ≡ spare) ⊎ ((m : Move) → In m pending → m.from ≢ spare)

pub fit_pushed : (root : Move) (path pending rest : Moves) (c : Move) → Split (top_target root path) pending rest c → Fit root path pending → Fit root (c ∷ path) rest
fit_pushed root path pending rest c s f = record {
  below = λ x h e. elim h [ inl is ↦ f.root_across c s.inside (sym (ap (λ (y : Move). y.to) is) ∙ e) | inr k ↦ f.below x k e ];
  root_across = λ x h e. f.root_across x (s.back x h) e;
  path_apart = (λ x h e. f.across x h c s.inside (sym e), f.path_apart);
  across = λ m h x k e. elim h [ inl is ↦ s.alone f.pending_apart x k (e ∙ ap (λ (y : Move). y.to) is) | inr l ↦ f.across m l x (s.back x k) e ];
  pending_apart = s.apart f.pending_apart;
  follows = (s.reads, f.follows);
  root_target = f.root_target;
  path_target = λ m h. elim h [ inl is ↦ (λ e. f.pending_target c s.inside (sym (ap (λ (y : Move). y.to) is) ∙ e)) | inr k ↦ f.path_target m k ];
  pending_target = λ m h. f.pending_target m (s.back m h);
  spare_free = elim f.spare_free [ inl e ↦ inl e | inr g ↦ inr (λ m h. g m (s.back m h)) ];
}

pub fit_popped : (root : Move) (top : Move) (path pending : Moves) → Fit root (top ∷ path) pending → Fit root path pending
fit_popped root top path pending f = record {
  below = λ x h e. f.below x (inr h) e;
  root_across = f.root_across;
  path_apart = f.path_apart.1;
  across = λ m h. f.across m (inr h);
  pending_apart = f.pending_apart;
  follows = f.follows.1;
  root_target = f.root_target;
  path_target = λ m h. f.path_target m (inr h);
  pending_target = f.pending_target;
  spare_free = f.spare_free;
}

top-saved : (root : Move) (path : Moves) → top_target root path ≡ top_target (from_spare root) path
top-saved root [] = refl
top-saved root (m ∷ path) = refl

follows_saved : (root : Move) (path : Moves) → Follows root path → Follows (from_spare root) path
follows_saved root [] f = tt
follows_saved root (m ∷ path) f = (f.0 ∙ top-saved root path, follows_saved root path f.1)

pub fit_saved : (root : Move) (path pending : Moves) → Fit root path pending → Fit (from_spare root) path pending
fit_saved root path pending f = record {
  below = f.below;
  root_across = f.root_across;
  path_apart = f.path_apart;
  across = f.across;
  pending_apart = f.pending_apart;
  follows = follows_saved root path f.follows;
  root_target = f.root_target;
  path_target = f.path_target;
  pending_target = f.pending_target;
  spare_free = inl refl;
}

-- ---- one turn

effect_pushed : {A : Type 0} (held : Loc → A) (root : Move) (path pending rest : Moves) (c : Move) (w : MovesMade) → Split (top_target root path) pending rest c → Fit root path pending → Effect held (root ∷ c ∷ path) rest w → Effect held (root ∷ path) pending w
effect_pushed held root path pending rest c w s f e = record {
  walk_done = λ m h. elim h [ inl is ↦ e.walk_done m (inl is) | inr k ↦ e.walk_done m (inr (inr k)) ];
  done = λ m h. elim (s.cases m h) [
    | inl is ↦ inr (λ x k t. s.alone f.pending_apart x (e.left_in x k) (t ∙ ap (λ (y : Move). y.to) is), e.walk_done m (inr (inl is)))
    | inr k ↦ e.done m k
  ];
  left_in = λ m h. s.back m (e.left_in m h);
  left_reads = e.left_reads;
  rest = λ place free nw np.
      e.rest place free
      (λ x h t. elim h [ inl is ↦ nw x (inl is) t | inr k ↦ elim k [ inl is ↦ np c s.inside (sym (ap (λ (y : Move). y.to) is) ∙ t) | inr l ↦ nw x (inr l) t ] ])
      (λ x h t. np x (s.back x h) t);
  left_apart = e.left_apart;
}

effect_last : {A : Type 0} (held : Loc → A) (root : Move) (pending : Moves) → first_reader root.to pending ≡ None → Fit root [] pending → Effect held (root ∷ []) pending (record { made = root ∷ []; left = pending })
effect_last held root pending none f = record {
  walk_done = λ m h. elim h [ inl is ↦ (let P : Move → Type 0 = λ x. moved root held x.to ≡ held x.from in subst P (sym is) (moved-here root held)) | inr k ↦ absurd k ];
  done = λ m h. inl h;
  left_in = λ m h. h;
  left_reads = λ m h. moved-there root held m.from (none_reads root.to pending none m h);
  rest = λ place free nw np. moved-there root held place (λ e. nw root (inl refl) (sym e));
  left_apart = f.pending_apart;
}

-- a move of the path is made, perhaps after its root's value was saved
effect_unwound : {A : Type 0} (held held2 : Loc → A) (root root2 top : Move) (path pending made2 : Moves) (w : MovesMade) → root2.to ≡ root.to → held2 root2.from ≡ held root.from → held2 top.to ≡ held top.from → ((m : Move) → In m path → held2 m.from ≡ held m.from) → ((m : Move) → In m pending → held2 m.from ≡ held m.from) → ((place : Loc) → place ≢ spare → (place ≡ top.to → ⊥) → held2 place ≡ held place) → ((place : Loc) → after_moves made2 held place ≡ after_moves w.made held2 place) → Fit root (top ∷ path) pending → Effect held2 (root2 ∷ path) pending w → Effect held (root ∷ top ∷ path) pending (record { made = made2; left = w.left })
effect_unwound held held2 root root2 top path pending made2 w target by_root by_top by_path by_pending by_rest same f e = record {
  walk_done = λ m h. elim h [
    | inl is ↦
        (let P : Move → Type 0 = λ x. after_moves made2 held x.to ≡ held x.from in
        subst P (sym is) (same root.to ∙ (ap (after_moves w.made held2) (sym target) ∙ (e.walk_done root2 (inl refl) ∙ by_root))))
    | inr k ↦ elim k [
      | inl is ↦
          (let P : Move → Type 0 = λ x. after_moves made2 held x.to ≡ held x.from in
          let apart : NotTo top.to (root2 ∷ path) = λ x h t. elim h [
            | inl is2 ↦ f.below top (inl refl) (sym t ∙ (ap (λ (y : Move). y.to) is2 ∙ target))
            | inr l ↦ f.path_apart.0 x l t
          ] in
          subst P (sym is) (same top.to ∙ (e.rest top.to (f.path_target top (inl refl)) apart (f.across top (inl refl)) ∙ by_top)))
      | inr l ↦ same m.to ∙ (e.walk_done m (inr l) ∙ by_path m l)
    ]
  ];
  done = λ m h. elim (e.done m h) [ inl k ↦ inl k | inr d ↦ inr (d.0, same m.to ∙ (d.1 ∙ by_pending m h)) ];
  left_in = e.left_in;
  left_reads = λ m h. same m.from ∙ (e.left_reads m h ∙ by_pending m (e.left_in m h));
  rest = λ place free nw np.
      same place ∙ (e.rest place free (λ x h t. elim h [ inl is ↦ nw root (inl refl) (sym target ∙ (sym (ap (λ (y : Move). y.to) is) ∙ t)) | inr k ↦ nw x (inr (inr k)) t ]) np
      ∙ by_rest place free (λ t. nw top (inr (inl refl)) (sym t)));
  left_apart = e.left_apart;
}

-- what a move of the path reads is a target of the walk
follows_target : (root : Move) (path : Moves) → Follows root path → (m : Move) → In m path → (k : Move) × In k (root ∷ path) × (m.from ≡ k.to)
follows_target root [] f m h = absurd h
follows_target root (x ∷ path) f m h = by (follows_target root path f.1 m) h where
  first : (p : Moves) → x.from ≡ top_target root p → (k : Move) × In k (root ∷ x ∷ p) × (x.from ≡ k.to)
  first [] e = (root, inl refl, e)
  first (y ∷ p) e = (y, inr (inr (inl refl)), e)

  by : (In m path → (k : Move) × In k (root ∷ path) × (m.from ≡ k.to)) → (m ≡ x) ⊎ In m path → (k : Move) × In k (root ∷ x ∷ path) × (m.from ≡ k.to)
  by later (inl is) =
      let r : (k : Move) × In k (root ∷ x ∷ path) × (x.from ≡ k.to) = first path f.0 in
      (r.0, r.1, ap (λ (y : Move). y.from) is ∙ r.2)
  by later (inr k) =
      let r : (k : Move) × In k (root ∷ path) × (m.from ≡ k.to) = later k in
      (r.0, elim r.1 [ inl e ↦ inl e | inr l ↦ inr (inr l) ], r.2)

path_reads_no_spare : (root : Move) (path pending : Moves) → Fit root path pending → (m : Move) → In m path → m.from ≢ spare
path_reads_no_spare root path pending f m h e =
    let r = follows_target root path f.follows m h in
    elim r.1 [ inl is ↦ f.root_target (sym (ap (λ (y : Move). y.to) is) ∙ (sym r.2 ∙ e)) | inr k ↦ f.path_target r.0 k (sym r.2 ∙ e) ]

path_reads_no_top : (root top : Move) (path pending : Moves) → Fit root (top ∷ path) pending → (m : Move) → In m path → m.from ≡ top.to → ⊥
path_reads_no_top root top path pending f m h e =
    let r = follows_target root path f.follows.1 m h in
    elim r.1 [ inl is ↦ f.below top (inl refl) (sym e ∙ (r.2 ∙ ap (λ (y : Move). y.to) is)) | inr k ↦ f.path_apart.0 r.0 k (sym r.2 ∙ e) ]

-- ---- all turns

-- the walks of at most so many turns have their effects
abbrev pub HaveEffects : Type 0 → ℕ → (Move → Moves → Moves → MovesMade) → Type 0
HaveEffects A n go = (root : Move) (path pending : Moves) → length pending + length pending + length path < n → Fit root path pending → (held : Loc → A) → Effect held (root ∷ path) pending (go root path pending)

effect_cycle : {A : Type 0} (go : Move → Moves → Moves → MovesMade) (held : Loc → A) (root top : Move) (path pending : Moves) → ((h : Loc → A) → Effect h (from_spare root ∷ path) pending (go (from_spare root) path pending)) → Fit root (top ∷ path) pending → first_reader top.to pending ≡ None → top.to ≡ root.from → Effect held (root ∷ top ∷ path) pending (then_made (saved root ∷ top ∷ []) (go (from_spare root) path pending))
effect_cycle {A} go held root top path pending later f none back =
    let held1 : Loc → A = moved (saved root) held in
    let held2 : Loc → A = moved top held1 in
    let top_free : top.to ≢ spare = f.path_target top (inl refl) in
    let pending_free : (m : Move) → In m pending → m.from ≢ spare = elim f.spare_free [ inl e ↦ absurd (top_free (back ∙ e)) | inr g ↦ g ] in
    let by_rest : (place : Loc) → place ≢ spare → (place ≡ top.to → ⊥) → held2 place ≡ held place = λ place free apart. moved-there top held1 place apart ∙ moved-there (saved root) held place free in
    effect_unwound held held2 root (from_spare root) top path pending (saved root ∷ top ∷ (go (from_spare root) path pending).made) (go (from_spare root) path pending)
    refl
    (moved-there top held1 spare (λ e. top_free (sym e)) ∙ moved-here (saved root) held)
    (moved-here top held1 ∙ moved-there (saved root) held top.from (path_reads_no_spare root (top ∷ path) pending f top (inl refl)))
    (λ m h. by_rest m.from (path_reads_no_spare root (top ∷ path) pending f m (inr h)) (path_reads_no_top root top path pending f m h))
    (λ m h. by_rest m.from (pending_free m h) (none_reads top.to pending none m h))
    by_rest
    (λ place. refl)
    f
    (later held2)

effect_step : {A : Type 0} (go : Move → Moves → Moves → MovesMade) (held : Loc → A) (root top : Move) (path pending : Moves) → ((h : Loc → A) → Effect h (root ∷ path) pending (go root path pending)) → Fit root (top ∷ path) pending → first_reader top.to pending ≡ None → (root.from ≡ top.to → ⊥) → Effect held (root ∷ top ∷ path) pending (then_made (top ∷ []) (go root path pending))
effect_step {A} go held root top path pending later f none on =
    let held2 : Loc → A = moved top held in
    effect_unwound held held2 root root top path pending (top ∷ (go root path pending).made) (go root path pending)
    refl
    (moved-there top held root.from on)
    (moved-here top held)
    (λ m h. moved-there top held m.from (path_reads_no_top root top path pending f m h))
    (λ m h. moved-there top held m.from (none_reads top.to pending none m h))
    (λ place free apart. moved-there top held place apart)
    (λ place. refl)
    f
    (later held2)

effect_no_reader : {A : Type 0} (go : Move → Moves → Moves → MovesMade) (n : ℕ) → HaveEffects A n go → (held : Loc → A) (root : Move) (path pending : Moves) → length pending + length pending + length path < suc n → Fit root path pending → first_reader (top_target root path) pending ≡ None → Effect held (root ∷ path) pending (unwound go root path pending)
effect_no_reader go n goes held root [] pending enough f none = effect_last held root pending none f
effect_no_reader {A} go n goes held root (top ∷ path) pending enough f none = by (same_place top.to root.from) refl where
  by : (t : Bool) → same_place top.to root.from ≡ t → Effect held (root ∷ top ∷ path) pending (then_made (cond t (saved root ∷ top ∷ []) (top ∷ [])) (go (cond t (from_spare root) root) path pending))
  by true e =
      effect_cycle go held root top path pending
      (λ h. goes (from_spare root) path pending (omega arith) (fit_saved root path pending (fit_popped root top path pending f)) h)
      f none (same_place-true top.to root.from e)
  by false e =
      effect_step go held root top path pending
      (λ h. goes root path pending (omega arith) (fit_popped root top path pending f) h)
      f none (λ back. same_place-false top.to root.from e (sym back))

effect_turned : {A : Type 0} (go : Move → Moves → Moves → MovesMade) (n : ℕ) → HaveEffects A n go → (held : Loc → A) (root : Move) (path pending : Moves) → length pending + length pending + length path < suc n → Fit root path pending → Effect held (root ∷ path) pending (turned go root path pending (first_reader (top_target root path) pending))
effect_turned go n goes held root path pending enough f = by (first_reader (top_target root path) pending) refl where
  by : (found : Option Move) → first_reader (top_target root path) pending ≡ found → Effect held (root ∷ path) pending (turned go root path pending found)
  by None e = effect_no_reader go n goes held root path pending enough f e
  by (Some c) e =
      let s = split_first (top_target root path) pending c e in
      let fewer : suc (length (others (top_target root path) pending)) ≡ length pending = length-others (top_target root path) pending c e in
      effect_pushed held root path pending (others (top_target root path) pending) c (go root (c ∷ path) (others (top_target root path) pending)) s f
      (goes root (c ∷ path) (others (top_target root path) pending) (omega arith) (fit_pushed root path pending (others (top_target root path) pending) c s f) held)

pub effect_walked : {A : Type 0} (n : ℕ) → HaveEffects A n (walked n)
unfolding walked
effect_walked zero root path pending enough f held = absurd (omega arith)
effect_walked (suc n) root path pending enough f held = effect_turned (walked n) n (effect_walked n) held root path pending enough f

-- ---- the walks from the readers of places

-- moves that can be made in walks from here
pub record Ready (place : Loc) (pending : Moves) : Type 0 where
  pub apart : Apart pending
  pub targets : (m : Move) → In m pending → m.to ≢ spare
  pub spare_free : (place ≡ spare) ⊎ ((m : Move) → In m pending → m.from ≢ spare)

pub fit_root : (place : Loc) (pending rest : Moves) (root : Move) → Split place pending rest root → Ready place pending → Fit root [] rest
fit_root place pending rest root s r = record {
  below = λ x h e. h;
  root_across = λ x h e. s.alone r.apart x h e;
  path_apart = tt;
  across = λ m h. absurd h;
  pending_apart = s.apart r.apart;
  follows = tt;
  root_target = r.targets root s.inside;
  path_target = λ m h. absurd h;
  pending_target = λ m h. r.targets m (s.back m h);
  spare_free = elim r.spare_free [ inl e ↦ inl (s.reads ∙ e) | inr g ↦ inr (λ m h. g m (s.back m h)) ];
}

pub effect_nothing : {A : Type 0} (held : Loc → A) (pending : Moves) → Apart pending → Effect held [] pending (record { made = []; left = pending })
effect_nothing held pending a = record {
  walk_done = λ m h. absurd h;
  done = λ m h. inl h;
  left_in = λ m h. h;
  left_reads = λ m h. refl;
  rest = λ place free nw np. refl;
  left_apart = a;
}

-- a walk from one of the pending moves
pub effect_root : {A : Type 0} (held : Loc → A) (place : Loc) (pending rest : Moves) (root : Move) (w : MovesMade) → Split place pending rest root → Ready place pending → Effect held (root ∷ []) rest w → Effect held [] pending w
effect_root held place pending rest root w s r e = record {
  walk_done = λ m h. absurd h;
  done = λ m h. elim (s.cases m h) [
    | inl is ↦ inr (λ x k t. s.alone r.apart x (e.left_in x k) (t ∙ ap (λ (y : Move). y.to) is), e.walk_done m (inl is))
    | inr k ↦ e.done m k
  ];
  left_in = λ m h. s.back m (e.left_in m h);
  left_reads = e.left_reads;
  rest = λ at free nw np.
      e.rest at free
      (λ x h t. elim h [ inl is ↦ np root s.inside (sym (ap (λ (y : Move). y.to) is) ∙ t) | inr k ↦ absurd k ])
      (λ x h t. np x (s.back x h) t);
  left_apart = e.left_apart;
}

after-append : {A : Type 0} (xs ys : Moves) (held : Loc → A) → after_moves (xs ++ ys) held ≡ after_moves ys (after_moves xs held)
after-append [] ys held = refl
after-append (x ∷ xs) ys held = after-append xs ys (moved x held)

-- first the one, then the other from what it left
pub effect_then : {A : Type 0} (held : Loc → A) (pending : Moves) (v w : MovesMade) → ((m : Move) → In m pending → m.to ≢ spare) → Effect held [] pending v → Effect (after_moves v.made held) [] v.left w → Effect held [] pending (then_made v.made w)
effect_then {A} held pending v w targets e f =
    let same : (place : Loc) → after_moves (v.made ++ w.made) held place ≡ after_moves w.made (after_moves v.made held) place = λ place. ap (λ (g : Loc → A). g place) (after-append v.made w.made held) in
    record {
      walk_done = λ m h. absurd h;
      done = λ m h. elim (e.done m h) [
        | inl k ↦ elim (f.done m k) [ inl l ↦ inl l | inr d ↦ inr (d.0, same m.to ∙ (d.1 ∙ e.left_reads m k)) ]
        | inr d ↦ inr (λ x k t. d.0 x (f.left_in x k) t, same m.to ∙ (f.rest m.to (targets m h) (λ x k t. k) d.0 ∙ d.1))
      ];
      left_in = λ m h. e.left_in m (f.left_in m h);
      left_reads = λ m h. same m.from ∙ (f.left_reads m h ∙ e.left_reads m (f.left_in m h));
      rest = λ place free nw np. same place ∙ (f.rest place free nw (λ x h t. np x (e.left_in x h) t) ∙ e.rest place free nw np);
      left_apart = f.left_apart;
    }
