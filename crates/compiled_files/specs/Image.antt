-- The size of the code of an image.
use Rattle.std.specs.Prelude.{ℕ, ◌-◌, length}
use Rattle.image_form.specs.Image.{stub_words}
use Rattle.image_form.specs.Tables.{Tables}

-- the words of all functions
abbrev pub function_word_count : Tables → ℕ
function_word_count image = length image.code - stub_words
