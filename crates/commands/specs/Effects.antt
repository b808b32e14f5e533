-- What a call of the program did to its source, to out and to err.
--
-- The bytes of each are there where they are known. Each keeps a count of faults that never falls.
use Rattle.std.specs.Prelude.{◌≡◌, ℕ, ◌+◌, ◌<◌, ◌≤◌, ◌⊎◌, List, ◌++◌, length, Option}
use Rattle.std.specs.Io.KnownBytes.{Consumes, Appends, Keeps, IsAtEnd}
use Rattle.bs_io.specs.Faults.{Risen}

-- One source or sink, before the call and after it.
pub record Side : Type 0 where
  pub before : Option (List ℕ)
  pub after : Option (List ℕ)
  pub faults_before : ℕ
  pub faults_after : ℕ

-- by what is known of its bytes and by its count, of its states before the call and after it
abbrev pub side : {X : Type 0} → (X → Option (List ℕ)) → (X → ℕ) → X → X → Side
side bytes faults old new =
    record {
      before = bytes old;
      after = bytes new;
      faults_before = faults old;
      faults_after = faults new;
    }

-- What the three did.
pub record Effects : Type 0 where
  pub source : Side
  pub out : Side
  pub err : Side

abbrev pub effects : Side → Side → Side → Effects
effects source out err = record { source = source; out = out; err = err }

-- its count rose in this call
abbrev pub Rose : Side → Type 0
Rose side = Risen side.faults_before side.faults_after

-- nothing was read from it, or written to it
abbrev pub IsUntouched : Side → Type 0
IsUntouched side = Keeps side.before side.after

-- it got these bytes, and nothing else
abbrev pub Got : Side → List ℕ → Type 0
Got side bytes = Appends side.before side.after bytes

-- it got the front of these bytes and not all of them, since its count rose
pub record GotPart (side : Side) (bytes : List ℕ) : Type 0 where
  pub front : List ℕ
  pub rest : List ℕ
  pub is_front : bytes ≡ front ++ rest
  pub not_all : 0 < length rest
  pub appended : Got side front
  pub rose : Rose side

-- a line was written to it whole, and the status is its own; or not whole, and the status is 6
abbrev pub ReportsLine : Side → List ℕ → ℕ → ℕ → Type 0
ReportsLine side line status result =
    ((result ≡ status) × Got side line) ⊎ ((result ≡ 6) × GotPart side line)

-- These are the bytes that were read: all that there were, up to one past the limit.
pub record IsRead (limit : ℕ) (source : Side) (bytes : List ℕ) : Type 0 where
  pub taken : Consumes source.before source.after bytes
  pub whole : ((length bytes ≤ limit) × IsAtEnd source.after) ⊎ (length bytes ≡ limit + 1)

-- nothing is on out, and err got this line
pub record Refused (e : Effects) (line : List ℕ) : Type 0 where
  pub out_kept : IsUntouched e.out
  pub told : Got e.err line
