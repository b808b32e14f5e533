-- What is reported of a function, and of more functions.
use Rattle.std.proofs.Common.{◌≡◌, ℕ, ◌<◌, ◌↔◌, List, [], ◌∷◌, ◌++◌, map, take, drop, length, get_or, ◌+◌, Option, Some, None, inl, inr, refl, sym, ap, ◌∙◌, subst, arith, add-one, drop-cons}
use Rattle.std.proofs.lemmas.List.{take_more}
use Rattle.std.proofs.lemmas.List.Elements.{Contains-append_left, Contains-append_right, Contains-append_cases}
use Rattle.cmm_tree.specs.Tree.{FunctionTree, ItemTree, AFunction, AData, FileTree, functions_among}
use Rattle.cmm_tree.specs.View.{item_view}
use Rattle.cmm_tree.specs.declared.file.Item.{Item}
use Rattle.walk_tables.specs.AddrLive.{IsLiveIn, IsLive, IsToldLive, Before}
use Rattle.cmm_walks.specs.First.{IsFirstTold}
use Rattle.cmm_walks.specs.Refusal.{ToldIn, IsFirstAmong, ToldAmong}
use Rattle.cmm_types.specs.Typing.{IsItemAnnotated, AreItemsAnnotated}
use Rattle.cmm_walks.specs.declared.limits.Limits.{Limits}
use Rattle.walk_tables.specs.Table.{LeadsToBinding}
use Rattle.walk_tables.specs.declared.node.Node as node
use Rattle.walk_tables.proofs.Elements.{no_element, only, itself}

-- ---- what is reported of a function

pub told-in : (nodes : List node.Node) (entry : ℕ) (f : FunctionTree) (told : Option Limits)
    → ((bound point used : ℕ) → IsLiveIn f bound point used ↔ LeadsToBinding nodes bound point used entry)
    → IsFirstTold nodes entry told
    → ToldIn f told
told-in nodes entry f None live none = λ b p u h. none b p u ((live b p u).0 h)
told-in nodes entry f (Some l) live first = record {
  live = (live l.bound l.point l.used).1 first.leads;
  least = λ b p u h. first.least b p u ((live b p u).0 h);
}

-- ---- the order

pub before-trans : (b p u b' p' u' b'' p'' u'' : ℕ) → Before b p u b' p' u' → Before b' p' u' b'' p'' u'' → Before b p u b'' p'' u''
before-trans b p u b' p' u' b'' p'' u'' x y =
    elim x [
      | inl a ↦
          elim y [
            | inl c ↦ inl (omega arith)
            | inr d ↦ elim d [ inl e ↦ inl (omega (arith, e.0)) | inr e ↦ inl (omega (arith, e.0)) ]
          ]
      | inr a ↦
          elim a [
            | inl i ↦
                elim y [
                  | inl c ↦ inl (omega (arith, i.0))
                  | inr d ↦
                      elim d [
                        | inl e ↦ inr (inl (i.0 ∙ e.0, omega (arith, i.1, e.1)))
                        | inr e ↦ inr (inl (i.0 ∙ e.0, omega (arith, i.1, e.1)))
                      ]
                ]
            | inr i ↦
                elim y [
                  | inl c ↦ inl (omega (arith, i.0))
                  | inr d ↦
                      elim d [
                        | inl e ↦ inr (inl (i.0 ∙ e.0, omega (arith, i.1, e.1)))
                        | inr e ↦ inr (inr (i.0 ∙ e.0, i.1 ∙ e.1, omega (arith, i.2, e.2)))
                      ]
                ]
          ]
    ]

-- ---- functions

pub told-one : (f : FunctionTree) (told : Option Limits) → ToldIn f told → ToldAmong (f ∷ []) told
told-one f None none = λ g h b p u live.
    let P : FunctionTree → Type 0 = λ x. IsLiveIn x b p u in
    none b p u (subst P (sym (only f g h)) live)
told-one f (Some l) first = record {
  f = f;
  among = itself f;
  live = first.live;
  least = λ g h b p u live.
      let P : FunctionTree → Type 0 = λ x. IsLiveIn x b p u in
      first.least b p u (subst P (sym (only f g h)) live);
}

pub told-nothing : ToldAmong [] None
told-nothing = λ g h b p u live. no_element g h

pub told-second : (fs gs : List FunctionTree) (told : Option Limits) → ToldAmong fs None → ToldAmong gs told → ToldAmong (fs ++ gs) told
told-second fs gs None none other = λ g h b p u live.
    elim (Contains-append_cases fs gs g h) [ inl a ↦ none g a b p u live | inr a ↦ other g a b p u live ]
told-second fs gs (Some l) none other = record {
  f = other.f;
  among = Contains-append_right fs gs other.f other.among;
  live = other.live;
  least = λ g h b p u live.
      elim (Contains-append_cases fs gs g h) [ inl a ↦ absurd (none g a b p u live) | inr a ↦ other.least g a b p u live ];
}

pub told-first : (fs gs : List FunctionTree) (l : Limits) → IsFirstAmong fs l → ToldAmong gs None → IsFirstAmong (fs ++ gs) l
told-first fs gs l one none = record {
  f = one.f;
  among = Contains-append_left fs gs one.f one.among;
  live = one.live;
  least = λ g h b p u live.
      elim (Contains-append_cases fs gs g h) [ inl a ↦ one.least g a b p u live | inr a ↦ absurd (none g a b p u live) ];
}

pub told-left : (fs gs : List FunctionTree) (l m : Limits) → IsFirstAmong fs l → IsFirstAmong gs m → Before l.bound l.point l.used m.bound m.point m.used → IsFirstAmong (fs ++ gs) l
told-left fs gs l m one other before = record {
  f = one.f;
  among = Contains-append_left fs gs one.f one.among;
  live = one.live;
  least = λ g h b p u live.
      elim (Contains-append_cases fs gs g h) [
        | inl a ↦ one.least g a b p u live
        | inr a ↦ before-trans l.bound l.point l.used m.bound m.point m.used b p u before (other.least g a b p u live)
      ];
}

pub told-right : (fs gs : List FunctionTree) (l m : Limits) → IsFirstAmong fs l → IsFirstAmong gs m → Before m.bound m.point m.used l.bound l.point l.used → IsFirstAmong (fs ++ gs) m
told-right fs gs l m one other before = record {
  f = other.f;
  among = Contains-append_right fs gs other.f other.among;
  live = other.live;
  least = λ g h b p u live.
      elim (Contains-append_cases fs gs g h) [
        | inl a ↦ before-trans m.bound m.point m.used l.bound l.point l.used b p u before (one.least g a b p u live)
        | inr a ↦ other.least g a b p u live
      ];
}

-- ---- items

functions-append : (xs ys : List ItemTree) → functions_among (xs ++ ys) ≡ functions_among xs ++ functions_among ys
functions-append [] ys = refl
functions-append (AFunction f ∷ xs) ys = ap (λ (l : List FunctionTree). f ∷ l) (functions-append xs ys)
functions-append (AData d ∷ xs) ys = functions-append xs ys

views-append : (xs ys : List Item) → map item_view (xs ++ ys) ≡ map item_view xs ++ map item_view ys
views-append [] ys = refl
views-append (x ∷ xs) ys = ap (λ (l : List ItemTree). item_view x ∷ l) (views-append xs ys)

pub functions-more : (items : List Item) (i : ℕ) (x : Item) → i < length items → x ≡ get_or items i x
    → functions_among (map item_view (take i items)) ++ functions_among (item_view x ∷ []) ≡ functions_among (map item_view (take (i + 1) items))
functions-more items i x h e =
    sym
    (ap (λ (l : List Item). functions_among (map item_view l)) (take_more items i x h ∙ ap (λ (y : Item). take i items ++ (y ∷ [])) (sym e))
    ∙ ap functions_among (views-append (take i items) (x ∷ []))
    ∙ functions-append (map item_view (take i items)) (item_view x ∷ []))

pub typed-here : (items : List Item) (i : ℕ) (x : Item) → i < length items → x ≡ get_or items i x → AreItemsAnnotated (drop i items) → IsItemAnnotated x × AreItemsAnnotated (drop (i + 1) items)
typed-here items i x h e t =
    let P : List Item → Type 0 = λ l. AreItemsAnnotated l in
    let Q : Item → Type 0 = λ y. IsItemAnnotated y × AreItemsAnnotated (drop (i + 1) items) in
    let R : ℕ → Type 0 = λ n. IsItemAnnotated (get_or items i x) × AreItemsAnnotated (drop n items) in
    subst Q (sym e) (subst R (sym (add-one i)) (subst P (drop-cons items i x h) t))

pub told-as : (fs gs : List FunctionTree) (told : Option Limits) → fs ≡ gs → ToldAmong fs told → ToldAmong gs told
told-as fs gs told e h =
    let P : List FunctionTree → Type 0 = λ l. ToldAmong l told in
    subst P e h

-- ---- the file

pub none-live : (file : FileTree) → ToldAmong (functions_among file.items) None → (b p u : ℕ) → IsLive file b p u → ⊥
none-live file none b p u live = none live.f live.of_file b p u live.live

pub told-live : (file : FileTree) (l : Limits) → IsFirstAmong (functions_among file.items) l → IsToldLive file l.bound l.point l.used
told-live file l first = record {
  live = record { f = first.f; of_file = first.among; live = first.live };
  least = λ b p u live. first.least live.f live.of_file b p u live.live;
}
