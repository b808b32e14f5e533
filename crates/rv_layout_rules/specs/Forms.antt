-- In which forms the pieces of a function are laid: how many words each takes, where its labels lie, and
-- the least forms in which each branch and jump reaches its label.
--
-- Places are numbers of words from the entry of the function.
--
-- The least ones are unique, so that no order of rounds shows in the image.
use Rattle.std.specs.Prelude.{◌≡◌, ℕ, ◌+◌, ◌≤◌, Bool, false, cond, ◌&&◌, ◌==◌, nat_lt, nat_le, List, [], ◌∷◌, Option, Some, None, ⊤}
use Rattle.rv_layout_rules.specs.declared.form.Form.{Form}
use Rattle.rv_layout_rules.specs.declared.form.Form.TheVariants.{Near, Middle, Far}
use Rattle.rv_pieces.specs.declared.piece.Piece.{Piece}
use Rattle.rv_pieces.specs.declared.piece.Piece.TheVariants.{Known, Label, Branch, Jump, Row, LabelAddress, Call, TailCall, SymbolAddress, ExternalNumber, Descriptor}
use Rattle.rv_pieces.specs.declared.piece.Pieces.{Pieces}

-- ---- words

-- one instruction; one over a jal; one over auipc and jalr
abbrev pub branch_words : Form → ℕ
branch_words Near = 1
branch_words Middle = 2
branch_words Far = 3

-- a jal, or auipc and jalr
abbrev pub jump_words : Form → ℕ
jump_words Near = 1
jump_words Middle = 2
jump_words Far = 2

-- auipc and jalr, however far the callee is from here; or its address by lui and addi, and jalr,
-- where no distance is known before the code is linked
abbrev pub words_of_call : Form → ℕ
words_of_call Near = 2
words_of_call Middle = 3
words_of_call Far = 3

abbrev pub piece_words : Piece → Form → ℕ
piece_words (Known i) form = 1
piece_words (Label l) form = 0
piece_words (Branch c a b l) form = branch_words form
piece_words (Jump l) form = jump_words form
piece_words (Row l) form = 2
piece_words (LabelAddress r l) form = 2
piece_words (Call name) form = words_of_call form
piece_words (TailCall name) form = words_of_call form
piece_words (SymbolAddress r name) form = 2
piece_words (ExternalNumber r row) form = 2
piece_words (Descriptor d) form = 0

-- of pieces, each in its form
abbrev pub total_words : List Piece → List Form → ℕ
total_words [] forms = 0
total_words (p ∷ ps) [] = 0
total_words (p ∷ ps) (f ∷ forms) = piece_words p f + total_words ps forms

-- the words of all functions
abbrev pub all_words : List Pieces → List (List Form) → ℕ
all_words [] forms = 0
all_words (p ∷ ps) [] = 0
all_words (p ∷ ps) (f ∷ forms) = total_words p.code f + all_words ps forms

-- ---- places

abbrev pub is_label_piece : ℕ → Piece → Bool
is_label_piece l (Label k) = k == l
is_label_piece l _ = false

-- the place of a label, where the first of the pieces is at `at`
abbrev pub label_from : ℕ → ℕ → List Piece → List Form → Option ℕ
label_from l at [] forms = None
label_from l at (p ∷ ps) [] = None
label_from l at (p ∷ ps) (f ∷ forms) =
    cond (is_label_piece l p) (Some at) (label_from l (at + piece_words p f) ps forms)

abbrev pub place_or_entry : Option ℕ → ℕ
place_or_entry None = 0
place_or_entry (Some place) = place

-- the place of a label of the function
abbrev pub label_word_offset : List Piece → List Form → ℕ → ℕ
label_word_offset ps forms l = place_or_entry (label_from l 0 ps forms)

-- ---- what reaches

-- the 13 bits of a branch's offset reach from one word to another, and the 21 bits of a jal's
abbrev pub branch_reaches : (from to : ℕ) → Bool
branch_reaches from to = nat_lt to (from + 1024) && nat_le from (to + 1024)

abbrev pub jal_reaches : (from to : ℕ) → Bool
jal_reaches from to = nat_lt to (from + 262144) && nat_le from (to + 262144)

-- the shortest form in which a branch, and a jump, at one word reaches another one. A branch over a
-- jal has it at the next word.
abbrev pub branch_form : (from to : ℕ) → Form
branch_form from to =
    cond (branch_reaches from to) Near (cond (jal_reaches (from + 1) to) Middle Far)

abbrev pub jump_form : (from to : ℕ) → Form
jump_form from to = cond (jal_reaches from to) Near Far

-- A call goes by address where its callee is far, that is where no distance to it is known.
-- By address it is lui, addi and jalr, so that a unit's relocations can patch it. In an image nothing is
-- far (`none_far`); no code links units yet.
abbrev pub call_form : (is_far : Bool) → Form
call_form is_far = cond is_far Far Near

-- nothing is far: so it is in an image
abbrev pub none_far : List ℕ → Bool
none_far name = false

-- the shortest form in which a piece at this word reaches its label or its callee, where labels
-- have these places
abbrev pub needed_form : (far : List ℕ → Bool) → (places : ℕ → ℕ) → (at : ℕ) → Piece → Form
needed_form far places at (Branch c a b l) = branch_form at (places l)
needed_form far places at (Jump l) = jump_form at (places l)
needed_form far places at (Call name) = call_form (far name)
needed_form far places at (TailCall name) = call_form (far name)
needed_form far places at _ = Near

abbrev pub form_rank : Form → ℕ
form_rank Near = 0
form_rank Middle = 1
form_rank Far = 2

-- each piece is in a form that reaches, where the first is at `at`: in the shortest one that
-- does or in a longer one
abbrev pub SufficeFrom :
    (far : List ℕ → Bool) → (places : ℕ → ℕ) → (at : ℕ) → List Piece → List Form → Type 0
SufficeFrom far places at [] [] = ⊤
SufficeFrom far places at [] (f ∷ forms) = ⊥
SufficeFrom far places at (p ∷ ps) [] = ⊥
SufficeFrom far places at (p ∷ ps) (f ∷ forms) =
    (form_rank (needed_form far places at p) ≤ form_rank f)
    × SufficeFrom far places (at + piece_words p f) ps forms

-- In these forms each branch and jump of the function reaches its label, and each call its callee.
abbrev pub Suffice : (far : List ℕ → Bool) → List Piece → List Form → Type 0
Suffice far ps forms = SufficeFrom far (label_word_offset ps forms) 0 ps forms

-- In these forms each branch and jump of the function reaches its label: all that a run needs of
-- them, since a call in any form comes to its callee.
abbrev pub ReachFrom : (places : ℕ → ℕ) → (at : ℕ) → List Piece → List Form → Type 0
ReachFrom places at ps forms = SufficeFrom none_far places at ps forms

abbrev pub Reach : List Piece → List Form → Type 0
Reach ps forms = Suffice none_far ps forms

-- no form of the first list is longer than that of the second
abbrev pub NoLonger : List Form → List Form → Type 0
NoLonger [] [] = ⊤
NoLonger [] (g ∷ others) = ⊥
NoLonger (f ∷ forms) [] = ⊥
NoLonger (f ∷ forms) (g ∷ others) = (form_rank f ≤ form_rank g) × NoLonger forms others

-- The forms of a function: each branch and jump reaches its label and each call its callee, and
-- wherever each does, no form is shorter than here.
pub record AreForms (far : List ℕ → Bool) (ps : List Piece) (forms : List Form) : Type 0 where
  pub suffice : Suffice far ps forms
  pub least : (others : List Form) → Suffice far ps others → NoLonger forms others

-- ---- making forms longer

-- the longer of two forms
abbrev pub longer : Form → Form → Form
longer f g = cond (nat_lt (form_rank f) (form_rank g)) g f

-- each form, or the longer one that its piece needs, where labels have these places
abbrev pub grown_from :
    (far : List ℕ → Bool) → (places : ℕ → ℕ) → (at : ℕ) → List Piece → List Form → List Form
grown_from far places at [] forms = []
grown_from far places at (p ∷ ps) [] = []
grown_from far places at (p ∷ ps) (f ∷ forms) =
    longer f (needed_form far places at p) ∷ grown_from far places (at + piece_words p f) ps forms

-- every form is the shortest
abbrev pub AllNear : List Form → Type 0
AllNear [] = ⊤
AllNear (f ∷ forms) = (f ≡ Near) × AllNear forms

abbrev pub ranks : List Form → ℕ
ranks [] = 0
ranks (f ∷ forms) = form_rank f + ranks forms
