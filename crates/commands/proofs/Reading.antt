-- What is known of the bytes that were read.
use Rattle.std.proofs.Common.{◌≡◌, ◌⊎◌, ℕ, ◌+◌, ◌≤◌, List, ◌++◌, length, Option, Some, None, ap, ◌∙◌, subst, inl, inr, arith, append-nil, length-append}
use Rattle.std.specs.Io.KnownBytes.{Consumes, IsAtEnd}
use Rattle.commands.specs.Effects.{Side, IsRead}

-- What was read of known bytes: all of them, or the front of a longer text.
pub data ReadOf (limit : ℕ) (text read : List ℕ) : Type 0 where
  all : text ≡ read → ReadOf limit text read
  too_long : limit + 1 ≤ length text → length read ≡ limit + 1 → ReadOf limit text read

read_of : (limit : ℕ) (text read : List ℕ) (after : Option (List ℕ)) → Consumes (Some text) after read → ((length read ≤ limit) × IsAtEnd after) ⊎ (length read ≡ limit + 1) → ReadOf limit text read
read_of limit text read None c w = absurd c
read_of limit text read (Some rest) c (inl (short, end)) = all (c ∙ ap (λ r. read ++ r) end ∙ append-nil read)
read_of limit text read (Some rest) c (inr long) = too_long (omega (arith, ap length c, length-append read rest)) long

pub IsRead-known : (limit : ℕ) (source : Side) (text read : List ℕ) → source.before ≡ Some text → IsRead limit source read → ReadOf limit text read
IsRead-known limit source text read e r =
    read_of limit text read source.after (subst (λ b. Consumes b source.after read) e r.taken) r.whole
