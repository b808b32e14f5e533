-- Lists of bytes.
use Rattle.std.proofs.Common.{ℕ, ◌<◌, All, List, [], ◌∷◌, get_or}
use Rattle.std.proofs.lemmas.List.Elements.{All-nil, All-cons, All-head, All-tail}
use Rattle.cmm_lex.proofs.Languages.{AreBytes}
use Rattle.cmm_lex.proofs.Scans.{AreBytes-from}

all_of : (text : List ℕ) → AreBytes text → All (λ b. b < 256) text
all_of [] h = All-nil (λ b. b < 256)
all_of (b ∷ bs) h = All-cons (λ b. b < 256) b bs h.0 (all_of bs h.1)

-- what a slice holds are bytes
pub all_bytes : (text : List ℕ) → ((i : ℕ) → get_or text i 0 < 256) → All (λ b. b < 256) text
all_bytes text h = all_of text (AreBytes-from text h)

pub bytes_of : (text : List ℕ) → All (λ b. b < 256) text → AreBytes text
bytes_of [] h = tt
bytes_of (b ∷ bs) h = (All-head (λ b. b < 256) b bs h, bytes_of bs (All-tail (λ b. b < 256) b bs h))
