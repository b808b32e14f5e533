-- How `run` ends, of bytes that the source is known to hold.
use Rattle.std.proofs.Common.{◌≡◌, ℕ, List, Some, None, sym, ap, ◌∙◌, inl, inr, arith}
use Rattle.command_line.specs.Command.{RunTree}
use Rattle.image_form.specs.Tables.{Tables, Func}
use Rattle.rv_machine.specs.Loading.{func_named, words_of_args}
use Rattle.cmmc_core.specs.Complete.{Is, HasOutput, RunComplete}
use Rattle.commands.specs.Effects.{Side, IsRead}
use Rattle.commands.specs.Run.{IsSpelling, ReadsImage, words_of_answers, longest_image}
use Rattle.cmmc_core.proofs.CommandEnd.{RunEnd, ran, imageless, unnamed, unsuited, OrNoMemory, has_output, no_output}
use Rattle.commands.proofs.Spelled.{one_image, spelling_short}
use Rattle.cmmc_core.proofs.TextKnown.{some_none, of_read, before_read}

-- ---- two spellings of the same bytes

module _ (run : RunTree) (bytes : List ℕ) where
  -- they name the same entry, or none
  named_twice : (a b : Tables) (e : Func) → IsSpelling bytes a → IsSpelling bytes b → func_named run.entry a.funcs ≡ Some e → func_named run.entry b.funcs ≡ None → ⊥
  named_twice a b e s t named none = some_none _ e (ap (λ (i : Tables). func_named run.entry i.funcs) (one_image bytes b a t s) ∙ named) none

  one_entry : (a b : Tables) (e f : Func) → IsSpelling bytes a → IsSpelling bytes b → func_named run.entry a.funcs ≡ Some e → func_named run.entry b.funcs ≡ Some f → e ≡ f
  one_entry a b e f s t named other =
      let k : Some e ≡ Some f = sym named ∙ ap (λ (i : Tables). func_named run.entry i.funcs) (one_image bytes a b s t) ∙ other in cc

  suit_twice : (a b : Tables) (e f : Func) (args : List ℕ) → IsSpelling bytes a → IsSpelling bytes b → func_named run.entry a.funcs ≡ Some e → func_named run.entry b.funcs ≡ Some f
      → words_of_args a e.params run.args ≡ Some args → words_of_args b f.params run.args ≡ None → ⊥
  suit_twice a b e f args s t named other suit none =
      some_none _ args
      (ap (λ (i : Tables). words_of_args i f.params run.args) (one_image bytes b a t s)
      ∙ ap (λ (x : Func). words_of_args a x.params run.args) (sym (one_entry a b e f s t named other)) ∙ suit) none

  answered_twice : (a b : Tables) (answers : List ℕ) → IsSpelling bytes a → IsSpelling bytes b → words_of_answers a run.answers ≡ Some answers → words_of_answers b run.answers ≡ None → ⊥
  answered_twice a b answers s t answered none =
      some_none _ answers (ap (λ (i : Tables). words_of_answers i run.answers) (one_image bytes b a t s) ∙ answered) none

-- ---- the ends

module _ (source out : Side) (bytes : List ℕ) (known : source.before ≡ Some bytes) (run : RunTree) where
  -- what was read of the bytes is all of them, or they are longer than any image
  read_image : (image : Tables) → ReadsImage source image → IsSpelling bytes image
  read_image image r =
      before_read source longest_image bytes known (λ b. IsSpelling b image) r.bytes r.read
      (λ long. absurd (let short = spelling_short r.bytes image r.is_image in omega arith)) r.is_image

  spelling_read : (read : List ℕ) (image : Tables) → IsRead longest_image source read → IsSpelling bytes image → IsSpelling read image
  spelling_read read image r s =
      of_read source longest_image bytes known (λ b. IsSpelling b image) read r
      (λ long. absurd (let short = spelling_short bytes image s in omega arith)) s

  outcome_end : (status : ℕ) → OrNoMemory status (RunEnd run source out status) → (image : Tables) (entry : Func) (args answers : List ℕ) → IsSpelling bytes image
      → func_named run.entry image.funcs ≡ Some entry → words_of_args image entry.params run.args ≡ Some args → words_of_answers image run.answers ≡ Some answers → HasOutput out status
  outcome_end status (inl z) image entry args answers s named suit answered = no_output out status z
  outcome_end status (inr (ran text z o)) image entry args answers s named suit answered = has_output out status z
  outcome_end status (inr (imageless refusal z r)) image entry args answers s named suit answered =
      absurd (r.no_image.none image (spelling_read r.bytes image r.read s))
  outcome_end status (inr (unnamed z r)) image entry args answers s named suit answered =
      absurd (named_twice run bytes image r.image entry s (read_image r.image r.reads) named r.unknown)
  outcome_end status (inr (unsuited z r)) image entry args answers s named suit answered =
      let t = read_image r.image r.reads in
      absurd (elim r.is_unfit.unfit [ inl none ↦ suit_twice run bytes image r.image entry r.is_unfit.entry args s t named r.is_unfit.named suit none | inr none ↦ answered_twice run bytes image r.image answers s t answered none ])

  entry_end : (status : ℕ) → OrNoMemory status (RunEnd run source out status) → (image : Tables) → IsSpelling bytes image → func_named run.entry image.funcs ≡ None → Is 2 status
  entry_end status (inl z) image s none = inr z
  entry_end status (inr (ran text z o)) image s none = absurd (named_twice run bytes o.image image o.is_text.entry (read_image o.image o.reads) s o.is_text.named none)
  entry_end status (inr (imageless refusal z r)) image s none = absurd (r.no_image.none image (spelling_read r.bytes image r.read s))
  entry_end status (inr (unnamed z r)) image s none = inl z
  entry_end status (inr (unsuited z r)) image s none = inl z

  args_end : (status : ℕ) → OrNoMemory status (RunEnd run source out status) → (image : Tables) (entry : Func) → IsSpelling bytes image
      → func_named run.entry image.funcs ≡ Some entry → words_of_args image entry.params run.args ≡ None → Is 2 status
  args_end status (inl z) image entry s named none = inr z
  args_end status (inr (ran text z o)) image entry s named none =
      absurd (suit_twice run bytes o.image image o.is_text.entry entry o.is_text.args (read_image o.image o.reads) s o.is_text.named named o.is_text.suit none)
  args_end status (inr (imageless refusal z r)) image entry s named none = absurd (r.no_image.none image (spelling_read r.bytes image r.read s))
  args_end status (inr (unnamed z r)) image entry s named none = inl z
  args_end status (inr (unsuited z r)) image entry s named none = inl z

  answers_end : (status : ℕ) → OrNoMemory status (RunEnd run source out status) → (image : Tables) (entry : Func) → IsSpelling bytes image
      → func_named run.entry image.funcs ≡ Some entry → words_of_answers image run.answers ≡ None → Is 2 status
  answers_end status (inl z) image entry s named none = inr z
  answers_end status (inr (ran text z o)) image entry s named none =
      absurd (answered_twice run bytes o.image image o.is_text.answers (read_image o.image o.reads) s o.is_text.answered none)
  answers_end status (inr (imageless refusal z r)) image entry s named none = absurd (r.no_image.none image (spelling_read r.bytes image r.read s))
  answers_end status (inr (unnamed z r)) image entry s named none = inl z
  answers_end status (inr (unsuited z r)) image entry s named none = inl z

  image_end : (status : ℕ) → OrNoMemory status (RunEnd run source out status) → ((image : Tables) → IsSpelling bytes image → ⊥) → Is 4 status
  image_end status (inl z) none = inr z
  image_end status (inr (ran text z o)) none = absurd (none o.image (read_image o.image o.reads))
  image_end status (inr (imageless refusal z r)) none = inl z
  image_end status (inr (unnamed z r)) none = absurd (none r.image (read_image r.image r.reads))
  image_end status (inr (unsuited z r)) none = absurd (none r.image (read_image r.image r.reads))

  pub run-complete : (status : ℕ) → OrNoMemory status (RunEnd run source out status) → RunComplete run bytes out status
  run-complete status e = record {
    outcome = outcome_end status e;
    no_entry = entry_end status e;
    unfit_args = args_end status e;
    unfit_answers = answers_end status e;
    no_image = image_end status e;
  }
