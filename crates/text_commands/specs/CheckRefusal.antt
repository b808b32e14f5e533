-- Why nothing is reported of a run.
use Rattle.std.specs.Prelude.{⊤, ℕ, List}
use Rattle.bs_fault.specs.declared.build.BuildError.{BuildError}
use Rattle.bs_fault.specs.declared.build.BuildError.TheVariants as build
use Rattle.bs_fault.specs.declared.fault.FrontError.{FrontError}
use Rattle.bs_fault.specs.declared.fault.FrontError.TheVariants as front
use Rattle.cmm_front.specs.FileOf.{HasFault}
use Rattle.cmm_tree.specs.Tree.{FileTree}
use Rattle.command_line.specs.Command.{CheckTree}
use Rattle.text_commands.specs.Arguments.{NamesNone, HasUnfit}
use Rattle.text_commands.specs.Check.{HasNoEntry, IsUnfitFor, IsTooLargeToCheck}
use Rattle.text_commands.specs.declared.call.CallRefusal.{CallRefusal}
use Rattle.text_commands.specs.declared.call.CallRefusal.TheVariants as call
use Rattle.text_commands.specs.declared.check.CheckRefusal.{CheckRefusal}
use Rattle.text_commands.specs.declared.check.CheckRefusal.TheVariants.{Fault, UnknownEntry, ArgumentUnfit, TooLarge, OutOfMemory}

-- why no function of a file is called
abbrev pub IsCallRefusal : CheckTree → FileTree → CallRefusal → Type 0
IsCallRefusal check file call.UnknownEntry = NamesNone file check.entry
IsCallRefusal check file call.ArgumentUnfit = HasUnfit check file
IsCallRefusal check file call.OutOfMemory = ⊤

-- why nothing is reported of a run of a text
abbrev pub IsCheckRefusal : CheckTree → List ℕ → CheckRefusal → Type 0
IsCheckRefusal check text (Fault told) = HasFault text told
IsCheckRefusal check text UnknownEntry = HasNoEntry check text
IsCheckRefusal check text ArgumentUnfit = IsUnfitFor check text
IsCheckRefusal check text (TooLarge large) = IsTooLargeToCheck check text large
IsCheckRefusal check text OutOfMemory = ⊤

-- what is answered where the text has no file
abbrev pub check_refusal_of_front : FrontError → CheckRefusal
check_refusal_of_front (front.Fault told) = Fault told
check_refusal_of_front front.OutOfMemory = OutOfMemory

-- what is answered where no function of the file is called
abbrev pub check_refusal_of_call : CallRefusal → CheckRefusal
check_refusal_of_call call.UnknownEntry = UnknownEntry
check_refusal_of_call call.ArgumentUnfit = ArgumentUnfit
check_refusal_of_call call.OutOfMemory = OutOfMemory

-- what is answered where no image of the file is built
abbrev pub check_refusal_of_build : BuildError → CheckRefusal
check_refusal_of_build (build.TooLarge large) = TooLarge large
check_refusal_of_build build.OutOfMemory = OutOfMemory
