-- What keeps a Mach function, linearised, keeps what that function was made from.
use Rattle.std.proofs.Common.{ℕ, List, [], ◌∷◌, ◌++◌, map, refl, sym, ap, ◌∙◌, subst, append-nil, append_assoc}
use Rattle.std.proofs.lemmas.List.{map-append}
use Rattle.cmm_meaning.specs.Extends.{shape_of}
use Rattle.mach_ir.specs.Acts.{Around, with_block, fresh_block}
use Rattle.mach_ir.specs.declared.blocks.NewBlock.{NewBlock}
use Rattle.mach_ir.specs.Keeps.{Ahead, ahead}
use Rattle.mach_ir.specs.Runs.{ActivationSetting, Tally, first_tally}
use Rattle.mach_ir.specs.Meaning as mach
use Rattle.mach_ir.specs.Keeps as kept
use Rattle.mach_ir.specs.Keeps.{Proper}
use Rattle.mach_ir.proofs.Keeping.{alike_then, trails_then}
use Rattle.mach_ir.specs.declared.mach.Mach.{Mach}
use Rattle.lin_ir.specs.Meaning.{NamedAt, State}
use Rattle.lin_ir.specs.Keeps.{NoLess, Follows, LinearSimulation, LinearKeeps}
use Rattle.lin_ir.specs.declared.lin.Lin.{Lin}

ahead_shapes : (blocks : List NewBlock) (x : Around) → NoLess x (ahead blocks x)
ahead_shapes [] x = record { tries = refl; more = []; blocks = sym (append-nil (map shape_of x.memory.blocks)) }
ahead_shapes (b ∷ blocks) x =
    let ih = ahead_shapes blocks (with_block b x) in
    record {
      tries = ih.tries;
      more = shape_of (fresh_block b) ∷ ih.more;
      blocks = ih.blocks ∙ ap (λ l. l ++ ih.more) (map-append shape_of x.memory.blocks (fresh_block b ∷ []))
          ∙ append_assoc (map shape_of x.memory.blocks) (shape_of (fresh_block b) ∷ []) ih.more;
    }

-- what is ahead has allocated no less
pub ahead_no_less : (x y : Around) → Ahead x y → NoLess x y
ahead_no_less x y h = subst (NoLess x) (sym h.same) (ahead_shapes h.blocks x)

no_less_then : (x y z : Around) → NoLess x y → NoLess y z → NoLess x z
no_less_then x y z h k =
    record {
      tries = h.tries ∙ k.tries;
      more = h.more ++ k.more;
      blocks = k.blocks ∙ ap (λ l. l ++ k.more) h.blocks ∙ append_assoc (map shape_of x.memory.blocks) h.more k.more;
    }

module _ (c : ActivationSetting) (p q : Mach) (r : Lin) (named : NamedAt) (s u : mach.State) (v : State) (t : Tally) where
  follows_then : (n : ℕ) → kept.Follows c p q s u t n → ((k : ℕ) → Proper c q k u t → Follows c q r named u v t k) →
      Follows c p r named s v t n
  follows_then n one two =
      let less = one.no_less in
      let more = one.no_more in
      let x = (two less.steps less.proper).no_less in
      let y = (two more.steps more.proper).no_more in
      record {
        no_less = record {
          steps = x.steps;
          alike = alike_then (λ a b d h k. no_less_then a.around b.around d.around (ahead_no_less a.around b.around h) k) less.alike x.alike;
        };
        no_more = record {
          steps = y.steps;
          alike = alike_then (λ a b d. trails_then a.around b.around d.around) more.alike y.alike;
        };
      }

does_then : (p q : Mach) (r : Lin) (named : NamedAt) → kept.MachSimulation p q → LinearSimulation q r named → LinearSimulation p r named
does_then p q r named one two c arguments memory doings s e =
    let u = one c arguments memory doings s e in
    let v = two c arguments memory doings u.state u.begins in
    record {
      state = v.state;
      begins = v.begins;
      follows = λ n proper.
          follows_then c p q r named s u.state v.state (first_tally c doings) n (u.follows n proper) v.follows;
    }

pub keeps_then : (p q : Mach) (r : Lin) (named : NamedAt) → kept.Keeps p q → LinearKeeps q r named → LinearKeeps p r named
keeps_then p q r named one two =
    record {
      name = two.name ∙ one.name;
      result = two.result ∙ one.result;
      does = does_then p q r named one.does two.does;
      symbols = λ name n. one.symbols name (two.symbols name n);
      externals = λ row n. one.externals row (two.externals row n);
      addrs = λ h. two.addrs (one.addrs h);
    }
