-- Two lines of a run of which neither depends on the other do the same in either order.
use Rattle.std.proofs.Common.{◌≡◌, Bool, true, false, cond, ◌&&◌, ◌||◌, List, [], Option, Some, None, refl, sym, ap, ◌∙◌, subst}
use Rattle.std.proofs.lemmas.Bool.{true≢false}
use Rattle.std.proofs.lemmas.Option.{none-some, same_Some}
use Rattle.bs_words.specs.declared.values.Value.{Value}
use Rattle.cmm_meaning.specs.Setting.{Setting}
use Rattle.mach_ir.specs.Acts.{Around, On, At, Act, Goes, Pushes, Jumps, Unwinds, Asks, Replaces, Ends, EndsRaising, Stuck}
use Rattle.mach_ir.specs.declared.op.Access.TheVariants as access
use Rattle.mach_ir.specs.declared.op.Op.TheVariants as op
use Rattle.lin_ir.specs.Meaning.{Locations, put_all, values, lin_act}
use Rattle.lin_ir.specs.declared.lin.LinOp.{LinOp}
use Rattle.lin_ir.specs.declared.lin.LinOp.TheVariants as lin
use Rattle.lin_ir.specs.declared.lin.Line.{Line}
use Rattle.schedule_rules.specs.Straight.{is_plain, is_store, is_access, meet, depends}
use Rattle.schedule_rules.specs.Orders.{Both, both_if, line_goes_on, acts_on, does_line}
use Rattle.schedule_rules.proofs.Acts.{IsLevel, level_same, same_sizes, Stores, stores, store_stuck, store_acts, Gives, gives, gives_none, load_acts, pure_acts, pure_moved, moved_to}
use Rattle.schedule_rules.proofs.Writes.{or_parts, puts, all_fit, put_all_is, puts_swap, values_other, meet_turned}

-- ---- what a line has done

abbrev pub both : Locations → Around → Both
both f a = record { file = f; around = a }

pub record Did (c : Setting) (i : Line) (f : Locations) (a : Around) (t : Both) : Type 0 where
  pub read : List Value
  pub results : List Value
  pub reads : values c.end f i.args ≡ Some read
  pub acts : lin_act c i.op read a ≡ Goes results On t.around
  pub fit : all_fit c.end i.results results ≡ true
  pub file : t.file ≡ puts i.results results f

pub did : (c : Setting) (i : Line) (f : Locations) (a : Around) (t : Both) → does_line c i (both f a) ≡ Some t → Did c i f a t
did c i f a t e = by (values c.end f i.args) refl e
  where
    wrote : (vs rs : List Value) (b : Around) → values c.end f i.args ≡ Some vs → lin_act c i.op vs a ≡ Goes rs On b →
        both_if b (put_all c.end i.results rs f) ≡ Some t → Did c i f a t
    wrote vs rs b r x e = at (all_fit c.end i.results rs) refl (ap (both_if b) (sym (put_all_is c.end i.results rs f)) ∙ e)
      where
        at : (d : Bool) → all_fit c.end i.results rs ≡ d → both_if b (cond d (Some (puts i.results rs f)) None) ≡ Some t → Did c i f a t
        at true q e =
            let s : both (puts i.results rs f) b ≡ t = same_Some (both (puts i.results rs f) b) t e in
            record {
              read = vs;
              results = rs;
              reads = r;
              acts = x ∙ ap (λ (y : Both). Goes rs On y.around) s;
              fit = q;
              file = sym (ap (λ (y : Both). y.file) s);
            }
        at false q e = absurd (none-some t e)

    act : (vs : List Value) (x : Act) → values c.end f i.args ≡ Some vs → lin_act c i.op vs a ≡ x → line_goes_on c.end i f x ≡ Some t → Did c i f a t
    act vs (Goes rs On b) r x e = wrote vs rs b r x e
    act vs (Goes rs (At l) b) r x e = absurd (none-some t e)
    act vs (Pushes b) r x e = absurd (none-some t e)
    act vs (Jumps to b) r x e = absurd (none-some t e)
    act vs (Unwinds b) r x e = absurd (none-some t e)
    act vs (Asks callee ws go) r x e = absurd (none-some t e)
    act vs (Replaces callee ws kept) r x e = absurd (none-some t e)
    act vs (Ends d) r x e = absurd (none-some t e)
    act vs (EndsRaising d) r x e = absurd (none-some t e)
    act vs Stuck r x e = absurd (none-some t e)

    by : (o : Option (List Value)) → values c.end f i.args ≡ o → acts_on c i f a o ≡ Some t → Did c i f a t
    by None r e = absurd (none-some t e)
    by (Some vs) r e = act vs (lin_act c i.op vs a) r refl e

pub will : (c : Setting) (i : Line) (f : Locations) (a : Around) (vs rs : List Value) (b : Around) → values c.end f i.args ≡ Some vs →
    lin_act c i.op vs a ≡ Goes rs On b → all_fit c.end i.results rs ≡ true → does_line c i (both f a) ≡ Some (both (puts i.results rs f) b)
will c i f a vs rs b r x q =
    ap (acts_on c i f a) r ∙ ap (line_goes_on c.end i f) x ∙ ap (both_if b) (put_all_is c.end i.results rs f)
    ∙ ap (λ d. both_if b (cond d (Some (puts i.results rs f)) None)) q

-- ---- acts

goes_same : (vs ws : List Value) (a b : Around) → Goes vs On a ≡ Goes ws On b → (vs ≡ ws) × (a ≡ b)
goes_same vs ws a b e = (cc, cc)

stuck_goes : (ws : List Value) (b : Around) → Stuck ≡ Goes ws On b → ⊥
stuck_goes ws b e = cc

gave : (a b : Around) (x : Act) (rs : List Value) → Gives a x → x ≡ Goes rs On b → a ≡ b
gave a b _ rs (gives {vs = vs}) e = (goes_same vs rs a b e).1
gave a b _ rs gives_none e = absurd (stuck_goes rs b e)

stored : (a b : Around) (x : Act) (rs : List Value) → Stores a x → x ≡ Goes rs On b → IsLevel a b
stored a b _ rs (stores {b = d} l) e = subst (IsLevel a) (goes_same [] rs d b e).1 l
stored a b _ rs store_stuck e = absurd (stuck_goes rs b e)

-- a line of a run keeps the shapes of blocks, and the traps
pub plain_level : (c : Setting) (f : LinOp) (vs rs : List Value) (a b : Around) → is_plain f ≡ true → lin_act c f vs a ≡ Goes rs On b → IsLevel a b
plain_level c (lin.Op (op.Pure f)) vs rs a b p e = subst (IsLevel a) (gave a b _ rs (pure_acts c f vs a) e) (level_same a)
plain_level c (lin.Op (op.Access (access.Load k o))) vs rs a b p e = subst (IsLevel a) (gave a b _ rs (load_acts k o vs a) e) (level_same a)
plain_level c (lin.Op (op.Access (access.Store k o))) vs rs a b p e = stored a b _ rs (store_acts k o vs a) e
plain_level c (lin.Op (op.Access (access.Alloc bs))) vs rs a b p e = absurd (true≢false (sym p))
plain_level c (lin.Op (op.Calling f)) vs rs a b p e = absurd (true≢false (sym p))
plain_level c (lin.Op (op.Leaving f)) vs rs a b p e = absurd (true≢false (sym p))
plain_level c (lin.Flow f) vs rs a b p e = absurd (true≢false (sym p))

-- one that is no store leaves what is round
light : (c : Setting) (f : LinOp) (vs rs : List Value) (a b : Around) → is_plain f ≡ true → is_store f ≡ false → lin_act c f vs a ≡ Goes rs On b → a ≡ b
light c (lin.Op (op.Pure f)) vs rs a b p n e = gave a b _ rs (pure_acts c f vs a) e
light c (lin.Op (op.Access (access.Load k o))) vs rs a b p n e = gave a b _ rs (load_acts k o vs a) e
light c (lin.Op (op.Access (access.Store k o))) vs rs a b p n e = absurd (true≢false n)
light c (lin.Op (op.Access (access.Alloc bs))) vs rs a b p n e = absurd (true≢false (sym p))
light c (lin.Op (op.Calling f)) vs rs a b p n e = absurd (true≢false (sym p))
light c (lin.Op (op.Leaving f)) vs rs a b p n e = absurd (true≢false (sym p))
light c (lin.Flow f) vs rs a b p n e = absurd (true≢false (sym p))

-- one that is no access does the same where memory has the same shapes
moves : (c : Setting) (f : LinOp) (vs rs : List Value) (a b d : Around) → is_plain f ≡ true → is_access f ≡ false → IsLevel a b →
    lin_act c f vs a ≡ Goes rs On d → lin_act c f vs b ≡ Goes rs On b
moves c (lin.Op (op.Pure f)) vs rs a b d p n l e = pure_moved c f vs a b (same_sizes a.memory b.memory l.shapes) ∙ ap (moved_to b) e
moves c (lin.Op (op.Access (access.Load k o))) vs rs a b d p n l e = absurd (true≢false n)
moves c (lin.Op (op.Access (access.Store k o))) vs rs a b d p n l e = absurd (true≢false n)
moves c (lin.Op (op.Access (access.Alloc bs))) vs rs a b d p n l e = absurd (true≢false (sym p))
moves c (lin.Op (op.Calling f)) vs rs a b d p n l e = absurd (true≢false (sym p))
moves c (lin.Op (op.Leaving f)) vs rs a b d p n l e = absurd (true≢false (sym p))
moves c (lin.Flow f) vs rs a b d p n l e = absurd (true≢false (sym p))

level_sym : (a b : Around) → IsLevel a b → IsLevel b a
level_sym a b l = record { shapes = sym l.shapes; tries = sym l.tries; raised = sym l.raised }

pub record Swapped (c : Setting) (f g : LinOp) (vs rs ws qs : List Value) (a d : Around) : Type 0 where
  pub between : Around
  pub first : lin_act c g ws a ≡ Goes qs On between
  pub second : lin_act c f vs between ≡ Goes rs On d

store_access : (f : LinOp) → is_store f ≡ true → is_access f ≡ true
store_access (lin.Op (op.Access (access.Store k o))) e = refl
store_access (lin.Op (op.Access (access.Load k o))) e = refl
store_access (lin.Op (op.Access (access.Alloc bs))) e = absurd (true≢false (sym e))
store_access (lin.Op (op.Pure f)) e = absurd (true≢false (sym e))
store_access (lin.Op (op.Calling f)) e = absurd (true≢false (sym e))
store_access (lin.Op (op.Leaving f)) e = absurd (true≢false (sym e))
store_access (lin.Flow f) e = absurd (true≢false (sym e))

-- f, the earlier, and g, the later, do not both touch memory with a store among them
swap_acts : (c : Setting) (f g : LinOp) (vs rs ws qs : List Value) (a b d : Around) → is_plain f ≡ true → is_plain g ≡ true →
    (is_store f && is_access g) ≡ false → (is_access f && is_store g) ≡ false →
    lin_act c f vs a ≡ Goes rs On b → lin_act c g ws b ≡ Goes qs On d → Swapped c f g vs rs ws qs a d
swap_acts c f g vs rs ws qs a b d p q m n x y = by (is_store f) (is_store g) refl refl
  where
    and_true : (b d : Bool) → b ≡ true → (b && d) ≡ false → d ≡ false
    and_true true d t e = e
    and_true false d t e = absurd (true≢false (sym t))

    and_true_right : (b d : Bool) → d ≡ true → (b && d) ≡ false → b ≡ false
    and_true_right true true t e = e
    and_true_right false d t e = refl
    and_true_right true false t e = absurd (true≢false (sym t))

    by : (s t : Bool) → is_store f ≡ s → is_store g ≡ t → Swapped c f g vs rs ws qs a d
    by false false u w =
        let ab = light c f vs rs a b p u x in
        let bd = light c g ws qs b d q w y in
        record {
          between = a;
          first = subst (λ z. lin_act c g ws z ≡ Goes qs On z) (sym ab) (subst (λ z. lin_act c g ws b ≡ Goes qs On z) (sym bd) y);
          second = subst (λ z. lin_act c f vs a ≡ Goes rs On z) bd x;
        }
    by false true u w =
        let ab = light c f vs rs a b p u x in
        let y' : lin_act c g ws a ≡ Goes qs On d = subst (λ z. lin_act c g ws z ≡ Goes qs On d) (sym ab) y in
        record {
          between = d;
          first = y';
          second = moves c f vs rs a d b p (and_true_right (is_access f) (is_store g) w n) (plain_level c g ws qs a d q y') x;
        }
    by true t u w =
        let no = and_true (is_store f) (is_access g) u m in
        let bd = light c g ws qs b d q (unstored (is_store g) refl no) y in
        record {
          between = a;
          first = moves c g ws qs b a d q no (level_sym a b (plain_level c f vs rs a b p x)) y;
          second = subst (λ z. lin_act c f vs a ≡ Goes rs On z) bd x;
        }
      where
        unstored : (s : Bool) → is_store g ≡ s → is_access g ≡ false → is_store g ≡ false
        unstored true z n = absurd (true≢false (sym (store_access g z) ∙ n))
        unstored false z n = z

-- ---- lines

pub record Crosses (c : Setting) (i j : Line) (s u : Both) : Type 0 where
  pub between : Both
  pub first : does_line c j s ≡ Some between
  pub second : does_line c i between ≡ Some u

pub diamond : (c : Setting) (i j : Line) (s t u : Both) → is_plain i.op ≡ true → is_plain j.op ≡ true → depends j i ≡ false →
    does_line c i s ≡ Some t → does_line c j t ≡ Some u → Crosses c i j s u
diamond c i j s t u p q free x y =
    let one = did c i s.file s.around t x in
    let two = did c j t.file t.around u y in
    let touch : Bool = (is_store i.op && is_access j.op) || (is_access i.op && is_store j.op) in
    let o = or_parts (meet i.results j.args) (meet i.args j.results || (meet i.results j.results || touch)) free in
    let r = or_parts (meet i.args j.results) (meet i.results j.results || touch) o.1 in
    let w = or_parts (meet i.results j.results) touch r.1 in
    let m = or_parts (is_store i.op && is_access j.op) (is_access i.op && is_store j.op) w.1 in
    let z = swap_acts c i.op j.op one.read one.results two.read two.results s.around t.around u.around p q m.0 m.1 one.acts two.acts in
    let g : Locations = puts j.results two.results s.file in
    let reads : values c.end s.file j.args ≡ Some two.read =
    sym (values_other c.end i.results one.results j.args s.file o.0)
    ∙ ap (λ h. values c.end h j.args) (sym one.file) ∙ two.reads in
    let again : values c.end g i.args ≡ Some one.read = values_other c.end j.results two.results i.args s.file (meet_turned i.args j.results r.0) ∙ one.reads in
    let same : puts i.results one.results g ≡ u.file =
    sym (puts_swap i.results j.results one.results two.results s.file w.0)
    ∙ ap (puts j.results two.results) (sym one.file) ∙ sym two.file in
    record {
      between = both g z.between;
      first = will c j s.file s.around two.read two.results z.between reads z.first two.fit;
      second = will c i g z.between one.read one.results u.around again z.second one.fit ∙ ap (λ h. Some (both h u.around)) same;
    }
