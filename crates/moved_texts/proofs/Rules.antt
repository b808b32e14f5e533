-- What a rule of the grammar gives, further on; and that one rule gives of tokens further on what another
-- gives of them.
use Rattle.std.specs.Prelude.{◌≡◌, ℕ, ◌+◌, Bool, List, Option, Some, None, map}
use Rattle.cmm_lex.specs.Token.{TokenTree}
use Rattle.cmm_tree.specs.Tree.{Expression}
use Rattle.cmm_grammar.specs.Parts.{ItemPart, FunctionItem, DataItem}
use Rattle.cmm_grammar.specs.Rule.{Sort, AToken, AnExpression, AParameter, ADeclaration, AResult, ABinding, AnIndex, ACase, AHandler, ALabel, AHead, AChunkWord, AWidth, ADataWord, ADatum, ADataItem, AnItem, Listed, Both, Value, Rule, Give, One, Then, Expr, Inside, InsideOr, LabelledOr, Until, Maybe, Repeat}
use Rattle.moved_texts.specs.Moved.{moved_token, moved_parameter, moved_declaration, moved_declared, moved_index, moved_parameters, moved_indexes, moved_expression, moved_datum, moved_data_item, moved_data_list}

abbrev pub moved_item_part : ℕ → ItemPart → ItemPart
moved_item_part d (FunctionItem f) =
    FunctionItem (record { at = f.at + d; name_at = f.name_at + d; name = f.name; params = moved_parameters d f.params; body = moved_expression d f.body })
moved_item_part d (DataItem l) = DataItem (moved_data_list d l)

abbrev pub moved_value : ℕ → (s : Sort) → Value s → Value s
moved_value d AToken t = moved_token d t
moved_value d AnExpression e = moved_expression d e
moved_value d AParameter p = moved_parameter d p
moved_value d ADeclaration c = moved_declaration d c
moved_value d AResult r = record { at = r.at + d; ret = r.ret }
moved_value d ABinding b = record { at = b.at + d; name = b.name; declared = moved_declared d b.declared; value = moved_expression d b.value }
moved_value d AnIndex i = moved_index d i
moved_value d ACase c = record { indexes = moved_indexes d c.indexes; body = moved_expression d c.body; goes_on = c.goes_on }
moved_value d AHandler h = record { at = h.at + d; label = h.label; params = moved_parameters d h.params; body = moved_expression d h.body; goes_on = h.goes_on }
moved_value d ALabel l = record { at = l.at + d; name = l.name; params = moved_parameters d l.params }
moved_value d AHead h = h
moved_value d AChunkWord w = w
moved_value d AWidth w = w
moved_value d ADataWord w = w
moved_value d ADatum i = moved_datum d i
moved_value d ADataItem i = moved_data_item d i
moved_value d AnItem i = moved_item_part d i
moved_value d (Listed s) xs = map (λ (a : Value s). moved_value d s a) xs
moved_value d (Both s t) p = (moved_value d s p.0, moved_value d t p.1)

abbrev pub moved_values : ℕ → (s : Sort) → List (Value s) → List (Value s)
moved_values d s xs = map (λ (a : Value s). moved_value d s a) xs

abbrev pub moved_option : ℕ → (s : Sort) → Option (Value s) → Option (Value s)
moved_option d s None = None
moved_option d s (Some a) = Some (moved_value d s a)

-- One rule gives of tokens further on what another gives of them, further on.
abbrev pub RuleMoves : (d : ℕ) → {s : Sort} → Rule s → Rule s → Type 0
RuleMoves d (Give s a) q = q ≡ Give s (moved_value d s a)
RuleMoves d (One s f) q = (g : TokenTree → Option (Value s)) × (q ≡ One s g) × ((t : TokenTree) → g (moved_token d t) ≡ moved_option d s (f t))
RuleMoves d (Then s t r k) q =
    (r' : Rule s) × (k' : Value s → Rule t) × (q ≡ Then s t r' k') × RuleMoves d r r' × ((a : Value s) → RuleMoves d (k a) (k' (moved_value d s a)))
RuleMoves d Expr q = q ≡ Expr
RuleMoves d (Inside s r) q = (r' : ℕ → Rule s) × (q ≡ Inside s r') × ((at : ℕ) → RuleMoves d (r at) (r' (at + d)))
RuleMoves d (InsideOr s t r k other) q =
    (r' : ℕ → Rule s) × (k' : Value s → Rule t) × (other' : Rule t) × (q ≡ InsideOr s t r' k' other')
    × ((at : ℕ) → RuleMoves d (r at) (r' (at + d))) × ((a : Value s) → RuleMoves d (k a) (k' (moved_value d s a))) × RuleMoves d other other'
RuleMoves d (LabelledOr s t r k other) q =
    (r' : TokenTree → Rule s) × (k' : Value s → Rule t) × (other' : Expression → Rule t) × (q ≡ LabelledOr s t r' k' other')
    × ((n : TokenTree) → RuleMoves d (r n) (r' (moved_token d n))) × ((a : Value s) → RuleMoves d (k a) (k' (moved_value d s a)))
    × ((e : Expression) → RuleMoves d (other e) (other' (moved_expression d e)))
RuleMoves d (Until s t stop r k) q =
    (stop' : TokenTree → Bool) × (r' : Rule s) × (k' : List (Value s) → Rule t) × (q ≡ Until s t stop' r' k')
    × ((u : TokenTree) → stop' (moved_token d u) ≡ stop u) × RuleMoves d r r' × ((vs : List (Value s)) → RuleMoves d (k vs) (k' (moved_values d s vs)))
RuleMoves d (Maybe s t f k) q =
    (f' : TokenTree → Option (Value s)) × (k' : Option (Value s) → Rule t) × (q ≡ Maybe s t f' k')
    × ((u : TokenTree) → f' (moved_token d u) ≡ moved_option d s (f u)) × ((o : Option (Value s)) → RuleMoves d (k o) (k' (moved_option d s o)))
RuleMoves d (Repeat s more r) q =
    (more' : Value s → Bool) × (r' : Rule s) × (q ≡ Repeat s more' r') × ((a : Value s) → more' (moved_value d s a) ≡ more a) × RuleMoves d r r'
