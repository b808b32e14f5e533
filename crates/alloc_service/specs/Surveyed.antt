-- What a survey of the stack reports.
use Rattle.std.specs.Prelude.{Bool, true, false, Option, Some, None}
use Rattle.alloc_service.specs.declared.roots.Stack.{Stack}
use Rattle.alloc_service.specs.declared.roots.Stack.TheVariants.{NoFrames, BadRoot, Fine}

-- by whether each location that the frames name holds what it may, where there are frames
abbrev pub stack_of : Option Bool → Stack
stack_of None = NoFrames
stack_of (Some true) = Fine
stack_of (Some false) = BadRoot
