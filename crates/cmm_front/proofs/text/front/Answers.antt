-- Each step reports the fault that it finds; after all of them the file is the text's.
use Rattle.std.proofs.Common.{rules}
use Rattle.cmm_tree.specs.View.{file_view}
use Rattle.cmm_front.proofs.Answering.{unread_told, untyped_told, checked_told, checked_file, checked_placed, read_same, typed_same}
use Rattle.cmm_front.proofs.Readings.{is_placed}
use Rattle.cmm_front.proofs.text.front.Goals as goal

pub returns-in_err-file-clause-fault : goal.returns-in_err-file-clause-fault
returns-in_err-file-clause-fault c = search (rules, unread_told c.args.text.now c.in_err-file.field-0.0 c.in_err-file.ensures.read)

pub returns-in_err-typed-clause-fault : goal.returns-in_err-typed-clause-fault
returns-in_err-typed-clause-fault c =
    search (rules, untyped_told c.args.text.now (file_view c.in_ok-file.file) c.in_err-typed.field-0.0 c.in_ok-file.ensures.read c.in_err-typed.ensures.fault)

pub returns-clause-file : goal.returns-clause-file
returns-clause-file c =
    let same = c.in_ok-typed.ensures.same in
    checked_file c.args.text.now c.in_ok-typed.typed c.check_addresses.result
    (read_same c.args.text.now (file_view c.in_ok-file.file) (file_view c.in_ok-typed.typed) same c.in_ok-file.ensures.read)
    (typed_same (file_view c.in_ok-file.file) (file_view c.in_ok-typed.typed) same c.in_ok-typed.ensures.faultless)
    c.check_addresses.ensures.same c.check_addresses.ensures.settled

pub returns-clause-placed : goal.returns-clause-placed
returns-clause-placed c =
    let same = c.in_ok-typed.ensures.same in
    checked_placed c.in_ok-typed.typed c.check_addresses.result
    (is_placed c.args.text.now (file_view c.in_ok-typed.typed) (read_same c.args.text.now (file_view c.in_ok-file.file) (file_view c.in_ok-typed.typed) same c.in_ok-file.ensures.read))
    c.check_addresses.ensures.same

pub returns-clause-fault : goal.returns-clause-fault
returns-clause-fault c =
    let same = c.in_ok-typed.ensures.same in
    checked_told c.args.text.now (file_view c.in_ok-typed.typed) c.check_addresses.result
    (read_same c.args.text.now (file_view c.in_ok-file.file) (file_view c.in_ok-typed.typed) same c.in_ok-file.ensures.read)
    (typed_same (file_view c.in_ok-file.file) (file_view c.in_ok-typed.typed) same c.in_ok-typed.ensures.faultless)
    c.check_addresses.ensures.fault
