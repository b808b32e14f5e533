-- Where an expression begins.
use Rattle.std.specs.Prelude.{ℕ}
use Rattle.cmm_tree.specs.Tree.{Expression, Integer, Pointer, Symbol, Name, Nothing, Float, Let, Assign, Operator, Load, Store, Alloc, App, Extcall, Checkbound, Raise, Seq, If, Switch, Catch, Exit, Try}

-- the place of its first byte, in bytes from the start of the text
abbrev pub place_of : Expression → ℕ
place_of (Integer at word) = at
place_of (Pointer at word) = at
place_of (Symbol at name) = at
place_of (Name at name) = at
place_of (Nothing at) = at
place_of (Float at word_at operands) = at
place_of (Let at bindings body) = at
place_of (Assign at name_at name value) = at
place_of (Operator at op left right) = at
place_of (Load at chunk address) = at
place_of (Store at chunk address value) = at
place_of (Alloc at header_at header operands) = at
place_of (App at callee arguments result result_at) = at
place_of (Extcall at frame name arguments result result_at) = at
place_of (Checkbound at bound index) = at
place_of (Raise at value) = at
place_of (Seq at elements) = at
place_of (If at condition on_true on_false) = at
place_of (Switch at size_at size selector cases) = at
place_of (Catch at body handlers) = at
place_of (Exit at label_at label arguments) = at
place_of (Try at body name_at name handler) = at
