-- Why the image that was read has no outcome is why its source has none.
use Rattle.std.proofs.Common.{◌≡◌, sym, subst, ◌∙◌, List, Result, Ok, Err}
use Rattle.std.specs.Prelude.{ℕ, IfErr}
use Rattle.command_line.specs.Command.{RunTree}
use Rattle.image_form.specs.Image.{AreTables, tables_bytes}
use Rattle.image_codec.specs.Reading.{image_reading, NoImage, IsRefusalOf}
use Rattle.image_form.specs.Tables.{Tables}
use Rattle.image_form.specs.declared.fault.ImageError.{ImageError}
use Rattle.image_form.specs.declared.fault.ImageError.TheVariants as image_error
use Rattle.commands.proofs.Spelled.{no_spelling}
use Rattle.commands.specs.Effects.{Side, IsRead, IsUntouched}
use Rattle.commands.specs.Refusal.{IsLoadRefusal, IsRunRefusal, IsRunRefusalFrom, IsUnread, refusal_of_image}
use Rattle.commands.specs.Run.{ReadsImage, longest_image}
use Rattle.commands.specs.declared.run.RunRefusal.{RunRefusal}
use Rattle.commands.specs.declared.run.RunRefusal.TheVariants as refusal

-- where nothing was read, nothing is written
pub not_read : (run : RunTree) (source out : Side) → IsUntouched out → (r : RunRefusal) → IsUnread source r → IsRunRefusalFrom run source out r
not_read run source out kept refusal.ReadFault p = (kept, p)
not_read run source out kept (refusal.Image why) p = elim p [ ]
not_read run source out kept refusal.UnknownEntry p = elim p [ ]
not_read run source out kept refusal.ArgumentUnfit p = elim p [ ]
not_read run source out kept refusal.WriteFault p = elim p [ ]
not_read run source out kept refusal.OutOfMemory p = kept

-- nor where what was read is no image
pub not_image : (run : RunTree) (source out : Side) (bytes slice : List ℕ) → IsUntouched out → IsRead longest_image source bytes → slice ≡ bytes
    → (why : ImageError) → IsRefusalOf slice why → IsRunRefusalFrom run source out (refusal_of_image why)
not_image run source out bytes slice kept read same (image_error.Refused why) p =
    (kept, record { bytes = bytes; read = read; no_image = no_spelling bytes why (subst (λ (b : List ℕ). NoImage b × (image_reading b ≡ Err why)) same p) })
not_image run source out bytes slice kept read same image_error.OutOfMemory p = kept

-- nor where the image is not loaded
pub not_loaded : (run : RunTree) (image : Tables) (out : Side) → IsUntouched out → (r : RunRefusal) → IsLoadRefusal run image r → IsRunRefusal run image out r
not_loaded run image out kept refusal.ReadFault p = p
not_loaded run image out kept (refusal.Image why) p = p
not_loaded run image out kept refusal.UnknownEntry p = (kept, p)
not_loaded run image out kept refusal.ArgumentUnfit p = (kept, p)
not_loaded run image out kept refusal.WriteFault p = elim p [ ]
not_loaded run image out kept refusal.OutOfMemory p = kept

pub refused_from : (run : RunTree) (source out : Side) (image : Tables) → ReadsImage source image → (r : RunRefusal) →
    IsRunRefusal run image out r → IsRunRefusalFrom run source out r
refused_from run source out image reads refusal.ReadFault p = elim p [ ]
refused_from run source out image reads (refusal.Image why) p = elim p [ ]
refused_from run source out image reads refusal.UnknownEntry p = (p.0, record { image = image; reads = reads; unknown = p.1 })
refused_from run source out image reads refusal.ArgumentUnfit p =
    (p.0, record { image = image; reads = reads; is_unfit = p.1 })
refused_from run source out image reads refusal.WriteFault p =
    record { text = p.text; is_outcome = record { image = image; reads = reads; is_text = p.is_text }; got = p.got }
refused_from run source out image reads refusal.OutOfMemory p = p

pub refused_so : {T : Type 0} (run : RunTree) (source out : Side) (image : Tables) (bytes slice : List ℕ) → IsRead longest_image source bytes → slice ≡ bytes →
    AreTables image → tables_bytes image ≡ slice → (result : Result T RunRefusal) →
    IfErr result (λ r. IsRunRefusal run image out r) → IfErr result (λ r. IsRunRefusalFrom run source out r)
refused_so run source out image bytes slice read same rules spelled (Ok u) p = p
refused_so run source out image bytes slice read same rules spelled (Err r) p =
    refused_from run source out image (record { bytes = bytes; read = read; is_image = record { is_image = rules; spelled = sym (spelled ∙ same) } }) r p
