use Rattle.std.proofs.Common.{◌≡◌, ◌*◌, ◌-◌, List, length}
use Rattle.rv_layout_rules.specs.declared.form.Form.{Form}
use Rattle.rv_layout_rules.specs.Forms.{ranks, none_far, Suffice, NoLonger}
use Rattle.rv_layout.proofs.forms.forms_of.Given as goal

abbrev pub invariant-loop-forms : goal.invariant-loop-forms
invariant-loop-forms l = record {
  same : length l.forms.items ≡ length l.code;
  ranks : l.ranks ≡ ranks l.forms.items;
  least : (others : List Form) → Suffice none_far l.code others → NoLonger l.forms.items others;
}

abbrev pub decreases-loop-forms : goal.decreases-loop-forms
decreases-loop-forms l = 2 * length l.code - l.ranks
