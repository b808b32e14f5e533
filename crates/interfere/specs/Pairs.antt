-- Pairs of registers, by number, and tables that get them.
use Rattle.std.specs.Prelude.{◌≡◌, ◌≢◌, ◌⊎◌, ℕ, ◌<◌, Bool, true, false, List, Option, length, Contains}
use Rattle.bs_bits.specs.Set.{has}
use Rattle.dataflow.specs.Rows.{set_in_row}
use Rattle.interfere.specs.Moves.{is_move_from_to}
use Rattle.interfere.specs.declared.moves.Move.{Move}

-- for each number the numbers that it is joined with
abbrev pub Table : Type 0
Table = List (List Bool)

abbrev pub Has : Table → ℕ → ℕ → Type 0
Has t n k = has (set_in_row t n) k ≡ true

-- of two different registers, one with the other
pub data EitherWay (R : ℕ → ℕ → Type 0) (n k : ℕ) : Type 0 where
  one_way : n ≢ k → R n k → EitherWay R n k
  other_way : n ≢ k → R k n → EitherWay R n k

-- the table has got exactly these pairs, both ways
pub record AddsPairs (old new : Table) (R : ℕ → ℕ → Type 0) : Type 0 where
  pub len : length new ≡ length old
  pub kept : (n k : ℕ) → Has old n k → Has new n k
  pub sound : (n k : ℕ) → Has new n k → Has old n k ⊎ EitherWay R n k
  pub whole : (n k : ℕ) → EitherWay R n k → Has new n k

-- these two
pub record IsPair (number other n k : ℕ) : Type 0 where
  pub one : number ≡ n
  pub two : other ≡ k

-- the table has got one entry
pub record PutsPair (old new : Table) (number other : ℕ) : Type 0 where
  pub len : length new ≡ length old
  pub kept : (n k : ℕ) → Has old n k → Has new n k
  pub sound : (n k : ℕ) → Has new n k → Has old n k ⊎ IsPair number other n k
  pub there : Has new number other

-- so it is for one of these
pub record ForOne {A : Type 0} (R : A → ℕ → ℕ → Type 0) (xs : List A) (n k : ℕ) : Type 0 where
  pub item : A
  pub among : Contains xs item
  pub there : R item n k

-- One register is written and the other is live then, but where the write is a move from that one.
pub record Meeting (moved : Option Move) (number other n k : ℕ) : Type 0 where
  pub written : number ≡ n
  pub live : other ≡ k
  pub no_move : is_move_from_to moved k n ≡ false

-- the same for each of a set that is live then
pub record MeetsSet (moved : Option Move) (set : List Bool) (number n k : ℕ) : Type 0 where
  pub written : number ≡ n
  pub live : has set k ≡ true
  pub no_move : is_move_from_to moved k n ≡ false

-- these are written, and control goes on at one of these places
abbrev pub MeetsPlaces : Option Move → Table → List ℕ → List ℕ → ℕ → ℕ → Type 0
MeetsPlaces moved live numbers places = ForOne (λ q. ForOne (MeetsSet moved (set_in_row live q)) numbers) places

-- all that is live anywhere is below this number
abbrev pub AreBelow : ℕ → Table → Type 0
AreBelow bound live = (p k : ℕ) → has (set_in_row live p) k ≡ true → k < bound
