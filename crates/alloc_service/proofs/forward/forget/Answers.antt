use Rattle.std.proofs.Common.{◌≡◌, ℕ, ◌==◌, false, List, [], ◌∷◌, refl, ◌∙◌, sym}
use Rattle.std.proofs.lemmas.Bool.{eqb-false, ne_eqb, or_parts, cond-false}
use Rattle.rv_machine.specs.Relocation.{is_start}
use Rattle.rv_machine.specs.Hart.{Placed}
use Rattle.alloc_service.specs.Forward.{forwarded}
use Rattle.alloc_service.proofs.forward.forget.Goals as goal

none_forward : (bs : List Placed) (ss : List ℕ) (w : ℕ) → is_start bs w ≡ false → forwarded bs ss w ≡ 0
none_forward [] ss w h = refl
none_forward (b ∷ bs) [] w h = refl
none_forward (b ∷ bs) (s ∷ ss) w h =
    let p = or_parts (b.start == w) (is_start bs w) h in
    cond-false (w == b.start) s (forwarded bs ss w) (ne_eqb w b.start (λ e. eqb-false b.start w p.0 (sym e))) ∙ none_forward bs ss w p.1

pub loop-block-init : goal.loop-block-init
loop-block-init c = record {
  left = λ w h. c.requires.forward.each w ∙ none_forward c.args.blocks.now c.args.starts.now w h;
  same_heap = refl;
}
