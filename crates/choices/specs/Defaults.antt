-- What is chosen where nothing is said.
use Rattle.choices.specs.declared.choices.Alloc.TheVariants.{Colour}
use Rattle.choices.specs.declared.choices.Order.TheVariants.{Plain}
use Rattle.choices.specs.declared.choices.Choices.{Choices}

abbrev pub defaults : Choices
defaults = record { alloc = Colour; order = Plain }
