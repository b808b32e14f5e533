-- What each step of the front reports of a text.
use Rattle.std.proofs.Common.{◌≡◌, ℕ, List, None, Result, Ok, Err, IfOk, IfErr, sym, subst}
use Rattle.bs_fault.specs.declared.fault.Fault.{Fault}
use Rattle.bs_fault.specs.declared.fault.Fault.TheVariants.{AddrLive}
use Rattle.bs_fault.specs.declared.fault.FrontError.{FrontError}
use Rattle.bs_fault.specs.declared.fault.FrontError.TheVariants as error
use Rattle.cmm_data.specs.Faults.{data_fault_of}
use Rattle.cmm_tree.specs.Tree.{FileTree}
use Rattle.cmm_tree.specs.View.{file_view}
use Rattle.cmm_tree.specs.declared.file.File.{File}
use Rattle.cmm_types.specs.Faults.{TypeFault}
use Rattle.walk_tables.specs.AddrLive.{IsLive}
use Rattle.cmm_types.specs.Typing.{IsFaultTold}
use Rattle.cmm_walks.specs.Refusal.{IsRefusal}
use Rattle.cmm_front.specs.FileOf.{IsFileOf, unread, untyped, unsettled, IsErrorOf, HasPlace}
use Rattle.cmm_reader.specs.Text.{ReadsAs, IsRefused}

pub unread_told : (text : List ℕ) (e : FrontError) → IsRefused text e → IsErrorOf text e
unread_told text (error.Fault told) h = unread told h
unread_told text error.OutOfMemory h = tt

pub untyped_told : (text : List ℕ) (file : FileTree) (e : FrontError) → ReadsAs text (Ok file) → IsFaultTold file e → IsErrorOf text e
untyped_told text file (error.Fault told) read h = untyped file told read h
untyped_told text file error.OutOfMemory read h = tt

unsettled_told : (text : List ℕ) (file : FileTree) (e : FrontError) → ReadsAs text (Ok file) → ((told : Fault) → ¬ TypeFault file told) → IsRefusal file e → IsErrorOf text e
unsettled_told text file (error.Fault (AddrLive bound point used)) read typed h = unsettled file bound point used read typed h
unsettled_told text file (error.Fault _) read typed h = absurd h
unsettled_told text file error.OutOfMemory read typed h = tt

-- what is known of a file that was read, of a file with the same view
pub read_same : (text : List ℕ) (file other : FileTree) → other ≡ file → ReadsAs text (Ok file) → ReadsAs text (Ok other)
read_same text file other same h = subst (λ (v : FileTree). ReadsAs text (Ok v)) (sym same) h

pub typed_same : (file other : FileTree) → other ≡ file → ((told : Fault) → ¬ TypeFault file told) → (told : Fault) → ¬ TypeFault other told
typed_same file other same h told = λ is. h told (subst (λ (v : FileTree). TypeFault v told) same is)

pub checked_told : (text : List ℕ) (file : FileTree) (r : Result File FrontError)
    → ReadsAs text (Ok file)
    → ((told : Fault) → ¬ TypeFault file told)
    → IfErr r (IsRefusal file)
    → IfErr r (IsErrorOf text)
checked_told text file (Ok checked) read typed h = tt
checked_told text file (Err e) read typed h = unsettled_told text file e read typed h

pub checked_file : (text : List ℕ) (typed : File) (r : Result File FrontError)
    → ReadsAs text (Ok (file_view typed))
    → ((told : Fault) → ¬ TypeFault (file_view typed) told)
    → IfOk r (λ (checked : File). checked ≡ typed)
    → IfOk r (λ (checked : File). (bound point used : ℕ) → ¬ IsLive (file_view typed) bound point used)
    → IfOk r (λ (checked : File). IsFileOf text (file_view checked))
checked_file text typed (Ok checked) read faultless same settled =
    let whole : IsFileOf text (file_view typed) = record { read = read; typed = faultless; settled = settled } in
    subst (λ (f : File). IsFileOf text (file_view f)) (sym same) whole
checked_file text typed (Err e) read faultless same settled = tt

pub checked_placed : (typed : File) (r : Result File FrontError)
    → data_fault_of (file_view typed) ≡ None
    → IfOk r (λ (checked : File). checked ≡ typed)
    → IfOk r (λ (checked : File). HasPlace (file_view checked))
checked_placed typed (Ok checked) is same = subst (λ (f : File). HasPlace (file_view f)) (sym same) is
checked_placed typed (Err e) is same = tt
