-- The rules of a table, from those of each row in view of the rows before it, and back.
use Rattle.std.proofs.Common.{◌≡◌, ◌≢◌, ℕ, suc, ◌-◌, ◌^◌, ◌<◌, ◌≤◌, Bool, true, false, List, [], ◌∷◌, ◌++◌, length, map, Some, refl, sym, ap, subst, ◌∙◌, append_assoc, arith}
use Rattle.std.specs.List.{AllByRecursion, slice_get}
use Rattle.std.specs.Str.{bytes_eq}
use Rattle.std.proofs.lemmas.Bool.{or_parts, or_from, false_from_ne_true}
use Rattle.std.proofs.lemmas.List.{append-nil, map_push}
use Rattle.std.proofs.lemmas.Slice.Eq.{bytes_eq-Decides}
use Rattle.bs_words.specs.External.{External}
use Rattle.image_form.specs.Tables.{Func, Sym, Desc, func_names, sym_names}
use Rattle.image_form.specs.Image.{First, EachNext, IsFunc, IsBehind, IsSym, IsRoot, IsExt, IsDesc, IsEntry, IsNextEntry, entry_limit, function_end, ext_bytes}
use Rattle.image_form.specs.Seen.{has_text}
use Rattle.image_form.specs.Fields.{ext_at}
use Rattle.image_form.proofs.Differ.{AllDiffer}
use Rattle.image_form.proofs.Lengths.{entry_fits}
use Rattle.image_form.proofs.Texts.{has_more}
use Rattle.image_codec.proofs.Takes.{AllAfter, ok_is}
use Rattle.image_codec.proofs.FieldLaws.{some_is, each_from, each_to}
use Rattle.image_codec.proofs.RowLaws.{Last, FuncRule, SymRule, RootRule, ExtRule, EntryRule, DescRule, ext_field}

pub weaker : {A : Type 0} (R S : List A → A → Type 0) → ((before : List A) (x : A) → R before x → S before x) → (before xs : List A) → AllAfter R before xs → AllAfter S before xs
weaker R S h before [] all = tt
weaker R S h before (x ∷ xs) all = (h before x all.0, weaker R S h (before ++ x ∷ []) xs all.1)

pub both : {A : Type 0} (R S : List A → A → Type 0) (before xs : List A) → AllAfter R before xs → AllAfter S before xs → AllAfter (λ b x. R b x × S b x) before xs
both R S before [] p q = tt
both R S before (x ∷ xs) p q = ((p.0, q.0), both R S (before ++ x ∷ []) xs p.1 q.1)

-- ---- each and the next

last_push : {A : Type 0} (before : List A) (x : A) → slice_get (before ++ x ∷ []) (length (before ++ x ∷ []) - 1) ≡ Some x
last_push [] x = refl
last_push (y ∷ []) x = refl
last_push (y ∷ z ∷ before) x =
    let k : length ((y ∷ z ∷ before) ++ x ∷ []) - 1 ≡ suc (length ((z ∷ before) ++ x ∷ []) - 1) = omega arith in
    rw k (last_push (z ∷ before) x)

last_is : {A : Type 0} (before : List A) (x p : A) → slice_get (before ++ x ∷ []) (length (before ++ x ∷ []) - 1) ≡ Some p → x ≡ p
last_is before x p e = some_is x p (sym (last_push before x) ∙ e)

pub order_from : {A : Type 0} (R : A → A → Type 0) (before xs : List A) → AllAfter (λ b x. Last (λ p. R p x) b) before xs → Last (λ p. First (R p) xs) before × EachNext R xs
order_from R before [] all = (λ p e. tt, tt)
order_from R before (x ∷ xs) all =
    let h = order_from R (before ++ x ∷ []) xs all.1 in
    (all.0, (h.0 x (last_push before x), h.1))

pub order_to : {A : Type 0} (R : A → A → Type 0) (before xs : List A) → Last (λ p. First (R p) xs) before → EachNext R xs → AllAfter (λ b x. Last (λ p. R p x) b) before xs
order_to R before [] first next = tt
order_to R before (x ∷ xs) first next =
    (first, order_to R (before ++ x ∷ []) xs (λ p e. subst (λ y. First (R y) xs) (last_is before x p e) next.0) next.1)

pub no_last : {A : Type 0} (P : A → Type 0) → Last P []
no_last P x e = absurd cc

-- ---- names that differ

-- each text is new when it comes
abbrev pub AllNew : List (List ℕ) → List (List ℕ) → Type 0
AllNew names [] = Unit {0}
AllNew names (k ∷ ks) = (has_text names k ≡ false) × AllNew (names ++ k ∷ []) ks

pub new_from : {A : Type 0} (key : A → List ℕ) (names : List (List ℕ)) (before xs : List A) → AllAfter (λ b x. has_text (names ++ map key b) (key x) ≡ false) before xs → AllNew (names ++ map key before) (map key xs)
new_from key names before [] all = tt
new_from key names before (x ∷ xs) all =
    let h = new_from key names (before ++ x ∷ []) xs all.1 in
    let e : names ++ map key (before ++ x ∷ []) ≡ (names ++ map key before) ++ key x ∷ [] = rw map_push (sym (append_assoc names (map key before) (key x ∷ []))) in
    (all.0, subst (λ ns. AllNew ns (map key xs)) e h)

pub new_to : {A : Type 0} (key : A → List ℕ) (names : List (List ℕ)) (before xs : List A) → AllNew (names ++ map key before) (map key xs) → AllAfter (λ b x. has_text (names ++ map key b) (key x) ≡ false) before xs
new_to key names before [] all = tt
new_to key names before (x ∷ xs) all =
    let e : (names ++ map key before) ++ key x ∷ [] ≡ names ++ map key (before ++ x ∷ []) = rw map_push (append_assoc names (map key before) (key x ∷ [])) in
    (all.0, new_to key names (before ++ x ∷ []) xs (subst (λ ns. AllNew ns (map key xs)) e all.1))

pub new_append : (names ks ls : List (List ℕ)) → AllNew names ks → AllNew (names ++ ks) ls → AllNew names (ks ++ ls)
new_append names [] ls p q = subst (λ ns. AllNew ns ls) (append-nil names) q
new_append names (k ∷ ks) ls p q =
    (p.0, new_append (names ++ k ∷ []) ks ls p.1 (subst (λ ns. AllNew ns ls) (sym (append_assoc names (k ∷ []) ks)) q))

pub new_parts : (names ks ls : List (List ℕ)) → AllNew names (ks ++ ls) → AllNew names ks × AllNew (names ++ ks) ls
new_parts names [] ls all = (tt, subst (λ ns. AllNew ns ls) (sym (append-nil names)) all)
new_parts names (k ∷ ks) ls all =
    let h = new_parts (names ++ k ∷ []) ks ls all.1 in
    ((all.0, h.0), subst (λ ns. AllNew ns ls) (append_assoc names (k ∷ []) ks) h.1)

-- new beside one more name: another than that name, and new among the others
more_from : (names : List (List ℕ)) (k : List ℕ) (ks : List (List ℕ)) → AllByRecursion (λ l. has_text (names ++ k ∷ []) l ≡ false) ks → AllByRecursion (λ l. k ≢ l) ks × AllByRecursion (λ l. has_text names l ≡ false) ks
more_from names k [] all = (tt, tt)
more_from names k (l ∷ ks) all =
    let p = or_parts (bytes_eq l k) (has_text names l) (sym (has_more names k l) ∙ all.0) in
    let h = more_from names k ks all.1 in
    let ne : k ≢ l = λ e. clash (bytes_eq l k) p.0 ((bytes_eq-Decides l k).1 (sym e)) in
    ((ne, h.0), (p.1, h.1))
  where
    clash : (b : Bool) → b ≡ false → b ≡ true → ⊥
    clash b p q = absurd cc

more_to : (names : List (List ℕ)) (k : List ℕ) (ks : List (List ℕ)) → AllByRecursion (λ l. k ≢ l) ks → AllByRecursion (λ l. has_text names l ≡ false) ks → AllByRecursion (λ l. has_text (names ++ k ∷ []) l ≡ false) ks
more_to names k [] ne new = tt
more_to names k (l ∷ ks) ne new =
    let other : bytes_eq l k ≡ false = false_from_ne_true (bytes_eq l k) (λ e. ne.0 (sym ((bytes_eq-Decides l k).0 e))) in
    (has_more names k l ∙ or_from (bytes_eq l k) (has_text names l) other new.0, more_to names k ks ne.1 new.1)

differ_from' : (names ks : List (List ℕ)) → AllNew names ks → AllDiffer ks × AllByRecursion (λ l. has_text names l ≡ false) ks
differ_from' names [] all = (tt, tt)
differ_from' names (k ∷ ks) all =
    let h = differ_from' (names ++ k ∷ []) ks all.1 in
    let m = more_from names k ks h.1 in
    ((m.0, h.0), (all.0, m.1))

differ_to' : (names ks : List (List ℕ)) → AllDiffer ks → AllByRecursion (λ l. has_text names l ≡ false) ks → AllNew names ks
differ_to' names [] differ new = tt
differ_to' names (k ∷ ks) differ new = (new.0, differ_to' (names ++ k ∷ []) ks differ.1 (more_to names k ks differ.0 new.1))

pub differ_from : (ks : List (List ℕ)) → AllNew [] ks → AllDiffer ks
differ_from ks all = (differ_from' [] ks all).0

none_has : (ks : List (List ℕ)) → AllByRecursion (λ l. has_text [] l ≡ false) ks
unfolding has_text
none_has [] = tt
none_has (k ∷ ks) = (refl, none_has ks)

pub differ_to : (ks : List (List ℕ)) → AllDiffer ks → AllNew [] ks
differ_to ks differ = differ_to' [] ks differ (none_has ks)

-- ---- functions

pub record FuncsRead (funcs : List Func) : Type 0 where
  pub each : AllByRecursion IsFunc funcs
  pub in_order : EachNext IsBehind funcs
  pub names : AllNew [] (func_names funcs)

pub funcs_from : (funcs : List Func) → AllAfter FuncRule [] funcs → FuncsRead funcs
funcs_from funcs all = record {
  each = each_from IsFunc [] funcs (weaker FuncRule (λ _ f. IsFunc f) (λ b f r. record { name = r.name.name; aligned = r.offset.aligned; frame = r.frame.1; frame_fits = r.frame.0; few = r.params.few; params = r.params.each; result = r.result }) [] funcs all);
  in_order = (order_from IsBehind [] funcs (weaker FuncRule (λ b f. Last (λ p. IsBehind p f) b) (λ b f r p e. let h = r.offset.behind p e in record { rises = h.0; apart = h.1 }) [] funcs all)).1;
  names = new_from (λ (f : Func). f.name) [] [] funcs (weaker FuncRule (λ b f. has_text ([] ++ map (λ (g : Func). g.name) b) f.name ≡ false) (λ b f r. r.name.new) [] funcs all);
}

func_rule : (limit : ℕ) → limit < 2 ^ 32 → (before : List Func) (f : Func) → ((IsFunc f × (function_end f ≤ limit)) × (Last (λ p. IsBehind p f) before × (has_text ([] ++ map (λ (g : Func). g.name) before) f.name ≡ false))) → FuncRule before f
func_rule limit small before f h = record {
  name = record { name = h.0.0.name; new = h.1.1 };
  offset = record { fits = omega arith; aligned = h.0.0.aligned; behind = λ p e. let k = h.1.0 p e in (k.rises, k.apart) };
  words = omega arith;
  frame = (h.0.0.frame_fits, h.0.0.frame);
  params = record { few = h.0.0.few; each = h.0.0.params };
  result = h.0.0.result;
}

pub funcs_to : (limit : ℕ) (funcs : List Func) → limit < 2 ^ 32 → FuncsRead funcs → AllByRecursion (λ f. function_end f ≤ limit) funcs → AllAfter FuncRule [] funcs
funcs_to limit funcs small read inside =
    let own = both (λ _ f. IsFunc f) (λ _ f. function_end f ≤ limit) [] funcs (each_to IsFunc [] funcs read.each) (each_to (λ f. function_end f ≤ limit) [] funcs inside) in
    let order = order_to IsBehind [] funcs (no_last _) read.in_order in
    let names = new_to (λ (f : Func). f.name) [] [] funcs read.names in
    let others = both (λ b f. Last (λ p. IsBehind p f) b) (λ b f. has_text ([] ++ map (λ (g : Func). g.name) b) f.name ≡ false) [] funcs order names in
    weaker _ FuncRule (func_rule limit small) [] funcs (both (λ _ f. IsFunc f × (function_end f ≤ limit)) (λ b f. Last (λ p. IsBehind p f) b × (has_text ([] ++ map (λ (g : Func). g.name) b) f.name ≡ false)) [] funcs own others)

-- ---- symbols

pub record SymsRead (names : List (List ℕ)) (data_len : ℕ) (syms : List Sym) : Type 0 where
  pub each : AllByRecursion (IsSym data_len) syms
  pub in_order : EachNext (λ a b. a.offset ≤ b.offset) syms
  pub new : AllNew names (sym_names syms)

pub syms_from : (names : List (List ℕ)) (data_len : ℕ) (syms : List Sym) → AllAfter (SymRule names data_len) [] syms → SymsRead names data_len syms
syms_from names data_len syms all = record {
  each = each_from (IsSym data_len) [] syms (weaker (SymRule names data_len) (λ _ s. IsSym data_len s) (λ b s r. record { name = r.name.name; in_data = r.offset.in_data }) [] syms all);
  in_order = (order_from (λ (a b : Sym). a.offset ≤ b.offset) [] syms (weaker (SymRule names data_len) (λ b s. Last (λ (p : Sym). p.offset ≤ s.offset) b) (λ b s r. r.offset.in_order) [] syms all)).1;
  new = subst (λ ns. AllNew ns (sym_names syms)) (append-nil names) (new_from (λ (s : Sym). s.name) names [] syms (weaker (SymRule names data_len) (λ b s. has_text (names ++ map (λ (g : Sym). g.name) b) s.name ≡ false) (λ b s r. r.name.new) [] syms all));
}

sym_rule : (names : List (List ℕ)) (data_len : ℕ) → data_len < 2 ^ 32 → (before : List Sym) (s : Sym) → (IsSym data_len s × (Last (λ (p : Sym). p.offset ≤ s.offset) before × (has_text (names ++ map (λ (g : Sym). g.name) before) s.name ≡ false))) → SymRule names data_len before s
sym_rule names data_len small before s h = record {
  name = record { name = h.0.name; new = h.1.1 };
  offset = record { fits = omega arith; in_data = h.0.in_data; in_order = h.1.0 };
}

pub syms_to : (names : List (List ℕ)) (data_len : ℕ) (syms : List Sym) → data_len < 2 ^ 32 → SymsRead names data_len syms → AllAfter (SymRule names data_len) [] syms
syms_to names data_len syms small read =
    let own = each_to (IsSym data_len) [] syms read.each in
    let order = order_to (λ (a b : Sym). a.offset ≤ b.offset) [] syms (no_last _) read.in_order in
    let new = new_to (λ (s : Sym). s.name) names [] syms (subst (λ ns. AllNew ns (sym_names syms)) (sym (append-nil names)) read.new) in
    let others = both (λ b s. Last (λ (p : Sym). p.offset ≤ s.offset) b) (λ b s. has_text (names ++ map (λ (g : Sym). g.name) b) s.name ≡ false) [] syms order new in
    weaker _ (SymRule names data_len) (sym_rule names data_len small) [] syms (both (λ _ s. IsSym data_len s) (λ b s. Last (λ (p : Sym). p.offset ≤ s.offset) b × (has_text (names ++ map (λ (g : Sym). g.name) b) s.name ≡ false)) [] syms own others)

-- ---- root cells

pub record RootsRead (data_len : ℕ) (roots : List ℕ) : Type 0 where
  pub each : AllByRecursion (IsRoot data_len) roots
  pub rising : EachNext (λ a b. a < b) roots

pub roots_from : (data_len : ℕ) (roots : List ℕ) → AllAfter (RootRule data_len) [] roots → RootsRead data_len roots
roots_from data_len roots all = record {
  each = each_from (IsRoot data_len) [] roots (weaker (RootRule data_len) (λ _ n. IsRoot data_len n) (λ b n r. r.cell) [] roots all);
  rising = (order_from (λ (a b : ℕ). a < b) [] roots (weaker (RootRule data_len) (λ b n. Last (λ (p : ℕ). p < n) b) (λ b n r. r.rises) [] roots all)).1;
}

pub roots_to : (data_len : ℕ) (roots : List ℕ) → data_len < 2 ^ 32 → RootsRead data_len roots → AllAfter (RootRule data_len) [] roots
roots_to data_len roots small read =
    let own = each_to (IsRoot data_len) [] roots read.each in
    let order = order_to (λ (a b : ℕ). a < b) [] roots (no_last _) read.rising in
    weaker _ (RootRule data_len) (root_rule data_len small) [] roots (both (λ _ n. IsRoot data_len n) (λ b n. Last (λ (p : ℕ). p < n) b) [] roots own order)
  where
    root_rule : (data_len : ℕ) → data_len < 2 ^ 32 → (before : List ℕ) (n : ℕ) → IsRoot data_len n × Last (λ (p : ℕ). p < n) before → RootRule data_len before n
    root_rule data_len small before n h = record { fits = omega (arith, h.0.in_data); cell = h.0; rises = h.1 }

-- ---- external calls

pub record ExtcsRead (extcs : List External) : Type 0 where
  pub each : AllByRecursion IsExt extcs
  pub differ : AllDiffer extcs

differ_map : {A : Type 0} (key : A → List ℕ) (x : A) (xs : List A) → AllByRecursion (λ k. key x ≢ k) (map key xs) → AllByRecursion (λ y. x ≢ y) xs
differ_map key x [] all = tt
differ_map key x (y ∷ xs) all = (λ e. all.0 (ap key e), differ_map key x xs all.1)

all_differ_map : {A : Type 0} (key : A → List ℕ) (xs : List A) → AllDiffer (map key xs) → AllDiffer xs
all_differ_map key [] all = tt
all_differ_map key (x ∷ xs) all = (differ_map key x xs all.0, all_differ_map key xs all.1)

-- rows of the same bytes are the same row
same_ext : (x y : External) → IsExt x → IsExt y → ext_bytes x ≡ ext_bytes y → x ≡ y
same_ext x y is-x is-y e =
    let rule : (z : External) → IsExt z → ExtRule [] z = λ z is. record { name = is.name; params = record { few = is.few; each = is.params }; result = is.result; new = unfold has_text in refl } in
    let read-x = (ext_field []).again x [] (rule x is-x) in
    let read-y = (ext_field []).again y [] (rule y is-y) in
    ap (λ (p : External × List ℕ). p.0) (ok_is (x, []) (y, []) (sym read-x ∙ ap (λ (t : List ℕ). ext_at [] (t ++ [])) e ∙ read-y))

ext_differ : (x : External) (xs : List External) → IsExt x → AllByRecursion IsExt xs → AllByRecursion (λ y. x ≢ y) xs → AllByRecursion (λ k. ext_bytes x ≢ k) (map ext_bytes xs)
ext_differ x [] is all ne = tt
ext_differ x (y ∷ xs) is all ne = (λ e. ne.0 (same_ext x y is all.0 e), ext_differ x xs is all.1 ne.1)

exts_differ : (xs : List External) → AllByRecursion IsExt xs → AllDiffer xs → AllDiffer (map ext_bytes xs)
exts_differ [] all differ = tt
exts_differ (x ∷ xs) all differ = (ext_differ x xs all.0 all.1 differ.0, exts_differ xs all.1 differ.1)

pub extcs_from : (extcs : List External) → AllAfter ExtRule [] extcs → ExtcsRead extcs
extcs_from extcs all = record {
  each = each_from IsExt [] extcs (weaker ExtRule (λ _ x. IsExt x) (λ b x r. record { name = r.name; few = r.params.few; params = r.params.each; result = r.result }) [] extcs all);
  differ = all_differ_map ext_bytes extcs (differ_from (map ext_bytes extcs) (new_from ext_bytes [] [] extcs (weaker ExtRule (λ b x. has_text ([] ++ map ext_bytes b) (ext_bytes x) ≡ false) (λ b x r. r.new) [] extcs all)));
}

pub extcs_to : (extcs : List External) → ExtcsRead extcs → AllAfter ExtRule [] extcs
extcs_to extcs read =
    let own = each_to IsExt [] extcs read.each in
    let new = new_to ext_bytes [] [] extcs (differ_to (map ext_bytes extcs) (exts_differ extcs read.each read.differ)) in
    weaker _ ExtRule (λ b x h. record { name = h.0.name; params = record { few = h.0.few; each = h.0.params }; result = h.0.result; new = h.1 }) [] extcs
    (both (λ _ x. IsExt x) (λ b x. has_text ([] ++ map ext_bytes b) (ext_bytes x) ≡ false) [] extcs own new)

-- ---- descriptors

entries_from : (version size : ℕ) (es : List ℕ) → AllAfter (EntryRule version size) [] es → AllByRecursion (IsEntry size) es × EachNext IsNextEntry es
entries_from version size es all = (
  each_from (IsEntry size) [] es (weaker (EntryRule version size) (λ _ e. IsEntry size e) (λ b e r. r.is) [] es all),
  (order_from IsNextEntry [] es (weaker (EntryRule version size) (λ b e. Last (λ p. IsNextEntry p e) b) (λ b e r. r.in_order) [] es all)).1,
)

entries_to : (version size : ℕ) (es : List ℕ) → size < entry_limit version → AllByRecursion (IsEntry size) es → EachNext IsNextEntry es → AllAfter (EntryRule version size) [] es
entries_to version size es small all next =
    weaker _ (EntryRule version size) (λ b e h. record { fits = entry_fits version size e small h.0; is = h.0; in_order = h.1 }) [] es
    (both (λ _ e. IsEntry size e) (λ b e. Last (λ p. IsNextEntry p e) b) [] es (each_to (IsEntry size) [] es all) (order_to IsNextEntry [] es (no_last _) next))

pub record DescsRead (version code_len : ℕ) (descs : List Desc) : Type 0 where
  pub each : AllByRecursion (IsDesc version code_len) descs
  pub rising : EachNext (λ a b. a.after < b.after) descs

desc_from : (version code_len : ℕ) (before : List Desc) (d : Desc) → DescRule version code_len before d → IsDesc version code_len d
desc_from version code_len before d r =
    let es = entries_from version d.size d.entries r.entries in
    record { aligned = r.after.aligned; behind_stub = r.after.behind_stub; in_code = r.after.in_code; size_aligned = r.size.aligned; nonempty = r.size.nonempty; size_fits = r.size.fits; few = r.few; entries = es.0; in_order = es.1 }

pub descs_from : (version code_len : ℕ) (descs : List Desc) → AllAfter (DescRule version code_len) [] descs → DescsRead version code_len descs
descs_from version code_len descs all = record {
  each = each_from (IsDesc version code_len) [] descs (weaker (DescRule version code_len) (λ _ d. IsDesc version code_len d) (desc_from version code_len) [] descs all);
  rising = (order_from (λ (a b : Desc). a.after < b.after) [] descs (weaker (DescRule version code_len) (λ b d. Last (λ (p : Desc). p.after < d.after) b) (λ b d r. r.after.rises) [] descs all)).1;
}

desc_rule : (version code_len : ℕ) → code_len < 2 ^ 32 → (before : List Desc) (d : Desc) → IsDesc version code_len d × Last (λ (p : Desc). p.after < d.after) before → DescRule version code_len before d
desc_rule version code_len small before d h = record {
  after = record { fits = omega (arith, h.0.in_code); aligned = h.0.aligned; behind_stub = h.0.behind_stub; in_code = h.0.in_code; rises = h.1 };
  size = record { fits = h.0.size_fits; aligned = h.0.size_aligned; nonempty = h.0.nonempty };
  few = h.0.few;
  entries = entries_to version d.size d.entries h.0.size_fits h.0.entries h.0.in_order;
}

pub descs_to : (version code_len : ℕ) (descs : List Desc) → code_len < 2 ^ 32 → DescsRead version code_len descs → AllAfter (DescRule version code_len) [] descs
descs_to version code_len descs small read =
    weaker _ (DescRule version code_len) (desc_rule version code_len small) [] descs
    (both (λ _ d. IsDesc version code_len d) (λ b d. Last (λ (p : Desc). p.after < d.after) b) [] descs (each_to (IsDesc version code_len) [] descs read.each) (order_to (λ (a b : Desc). a.after < b.after) [] descs (no_last _) read.rising))
