-- What reading reports is what is said of the text, and the other way round.
use Rattle.std.proofs.Common.{◌≡◌, ◌∙◌, ℕ, ◌+◌, ◌-◌, ◌≤◌, zero, suc, List, [], ◌∷◌, ◌++◌, length, Option, Some, None, Result, Ok, Err, MatchResult, refl, sym, ap, subst, arith, length-append, append_assoc}
use Rattle.std.specs.List.{slice_get}
use Rattle.std.specs.Option.{option_map}
use Rattle.bs_fault.specs.declared.fault.Fault.{Fault}
use Rattle.bs_fault.specs.declared.fault.Fault.TheVariants as fault
use Rattle.bs_fault.specs.declared.fault.FrontError.{FrontError}
use Rattle.bs_fault.specs.declared.fault.FrontError.TheVariants as error
use Rattle.cmm_lex.specs.Token.{TokenTree}
use Rattle.cmm_lex.specs.Lexing.{Splits, first_range}
use Rattle.cmm_tree.specs.Tree.{ItemTree, FileTree}
use Rattle.cmm_tree.specs.View.{file_view}
use Rattle.cmm_tree.specs.declared.file.File.{File}
use Rattle.cmm_grammar.specs.Faults.{Unexpected, TooDeep, HasBadToken}
use Rattle.cmm_grammar.specs.Reading.{ReadOutcome, Read, Stops, Why, Stuck, Deep, items_at}
use Rattle.cmm_grammar.specs.Spelling.{AreItems, BeginsText, nesting}
use Rattle.cmm_grammar.proofs.Apart.{unexpected_stops, deep_stops, inside_stops}
use Rattle.cmm_grammar.proofs.Places.{begins_less, items_begin, read_items, items_read, stuck_end, stuck_token, deep_token}
use Rattle.cmm_reader.specs.Text as said
use Rattle.cmm_reader.specs.Text.{ReadsAs, IsRefused}
use Rattle.bs_fault.specs.Limits.{longest_text}
use Rattle.cmm_reader.specs.Telling as telling
use Rattle.cmm_reader.specs.Telling.{stop_fault, place_with, TellsFile, TellsItems, Tells, IsReading, IsStopOf}

-- ---- the token from which so many are left

slice_at : (before : List TokenTree) (bad : TokenTree) (behind : List TokenTree) (k : ℕ) → k ≡ length before → slice_get (before ++ (bad ∷ behind)) k ≡ Some bad
slice_at [] bad behind zero e = refl
slice_at [] bad behind (suc k) e = absurd (omega arith)
slice_at (x ∷ xs) bad behind zero e = absurd (omega arith)
slice_at (x ∷ xs) bad behind (suc k) e = slice_at xs bad behind k (omega arith)

slice_past : (ts : List TokenTree) (k : ℕ) → length ts ≤ k → slice_get ts k ≡ None
slice_past [] k h = refl
slice_past (t ∷ ts) zero h = absurd (omega arith)
slice_past (t ∷ ts) (suc k) h = slice_past ts k (omega arith)

place_at : (tokens before behind : List TokenTree) (bad : TokenTree) (left : ℕ) → tokens ≡ before ++ (bad ∷ behind) → left ≡ suc (length behind) → place_with left tokens ≡ Some bad.at
place_at tokens before behind bad left whole is =
    let count : length tokens ≡ length before + suc (length behind) = ap length whole ∙ length-append before (bad ∷ behind) in
    let k : length tokens - left ≡ length before = omega (arith, count, is) in
    ap (λ (o : Option TokenTree). option_map (λ (t : TokenTree). t.at) o)
    (ap (λ (v : List TokenTree). slice_get v (length tokens - left)) whole ∙ slice_at before bad behind (length tokens - left) k)

none_left : (tokens : List TokenTree) → place_with 0 tokens ≡ None
none_left tokens =
    ap (λ (o : Option TokenTree). option_map (λ (t : TokenTree). t.at) o) (slice_past tokens (length tokens - 0) (omega arith))

-- ---- from reading to what is said

module _ (text : List ℕ) (tokens : List TokenTree) (short : length text ≤ longest_text) where
  at_end : (lexing : Option Fault) → Splits 0 text tokens lexing → items_at nesting tokens ≡ Stops Stuck 0 → ReadsAs text (Err (stop_fault None Stuck lexing (length text)))
  at_end None cut p = said.ends_inside tokens short cut (stuck_end tokens p)
  at_end (Some f) cut p = said.no_token tokens f short cut (stuck_end tokens p).so_far

  at_token : (lexing : Option Fault) (left : ℕ) → Splits 0 text tokens lexing → HasBadToken Unexpected tokens left → ReadsAs text (Err (stop_fault (place_with left tokens) Stuck lexing (length text)))
  at_token lexing left cut y =
      subst (λ (o : Option ℕ). ReadsAs text (Err (stop_fault o Stuck lexing (length text))))
      (sym (place_at tokens y.before y.behind y.bad left y.whole y.is_left))
      (said.unexpected tokens y.before y.behind y.bad lexing short cut y.whole y.holds)

  at_deep : (lexing : Option Fault) (left : ℕ) → Splits 0 text tokens lexing → HasBadToken TooDeep tokens left → ReadsAs text (Err (stop_fault (place_with left tokens) Deep lexing (length text)))
  at_deep lexing left cut y =
      subst (λ (o : Option ℕ). ReadsAs text (Err (stop_fault o Deep lexing (length text))))
      (sym (place_at tokens y.before y.behind y.bad left y.whole y.is_left))
      (said.too_deep tokens y.before y.behind y.bad lexing short cut y.whole y.holds)

  stopped : (lexing : Option Fault) (why : Why) (left : ℕ) → Splits 0 text tokens lexing → items_at nesting tokens ≡ Stops why left
      → ReadsAs text (Err (stop_fault (place_with left tokens) why lexing (length text)))
  stopped lexing Stuck zero cut p =
      subst (λ (o : Option ℕ). ReadsAs text (Err (stop_fault o Stuck lexing (length text)))) (sym (none_left tokens)) (at_end lexing cut p)
  stopped lexing Stuck (suc n) cut p = at_token lexing (suc n) cut (stuck_token tokens (suc n) p (omega arith))
  stopped lexing Deep left cut p = at_deep lexing left cut (deep_token tokens left p)

  a_file : (items : List ItemTree) (result : Result FileTree Fault) → Splits 0 text tokens None → AreItems nesting items tokens
      → TellsFile (first_range tokens) (record { items = items }) result → ReadsAs text result
  a_file items (Ok file) cut are tells =
      let made : FileTree = record { items = items } in
      let whole : ReadsAs text (Ok made) = said.file tokens items short cut are tells.1 in
      subst (λ (v : FileTree). ReadsAs text (Ok v)) (sym tells.0) whole
  a_file items (Err told) cut are tells = said.unruly tokens items told short cut are tells

  some_items : (lexing : Option Fault) (items : List ItemTree) (result : Result FileTree Fault) → Splits 0 text tokens lexing → AreItems nesting items tokens
      → TellsItems tokens lexing items result → ReadsAs text result
  some_items None items result cut are tells = a_file items result cut are tells
  some_items (Some f) items result cut are tells =
      subst (λ (v : Result FileTree Fault). ReadsAs text v) (sym tells) (said.no_token tokens f short cut (items_begin nesting items tokens are))

  by_outcome : (lexing : Option Fault) (o : ReadOutcome (List ItemTree)) (result : Result FileTree Fault) → Splits 0 text tokens lexing → items_at nesting tokens ≡ o
      → Tells (length text) tokens lexing o result → ReadsAs text result
  by_outcome lexing (Stops why left) result cut p tells =
      subst (λ (v : Result FileTree Fault). ReadsAs text v) (sym tells) (stopped lexing why left cut p)
  by_outcome lexing (Read items rest) result cut p tells = some_items lexing items result cut (read_items tokens items rest p).are tells

pub reading_said : (text : List ℕ) (result : Result FileTree Fault) → IsReading text result → ReadsAs text result
reading_said text _ (telling.too_long h) = said.too_long h
reading_said text _ (telling.by_tokens tokens lexing result short cut tells) =
    by_outcome text tokens short lexing (items_at nesting tokens) result cut refl tells

pub result_said : (text : List ℕ) (result : Result File FrontError)
    → MatchResult result (λ file. IsReading text (Ok (file_view file))) (IsStopOf text)
    → MatchResult result (λ file. ReadsAs text (Ok (file_view file))) (IsRefused text)
result_said text (Ok file) h = reading_said text (Ok (file_view file)) h
result_said text (Err (error.Fault told)) h = reading_said text (Err told) h
result_said text (Err error.OutOfMemory) h = tt

-- ---- from what is said to reading

-- where a text begins with the tokens, reading stops at none of them
not_barred : (tokens before behind : List TokenTree) (bad : TokenTree) → tokens ≡ before ++ (bad ∷ behind) → (BeginsText nesting (before ++ (bad ∷ [])) → ⊥) → BeginsText nesting tokens → ⊥
not_barred tokens before behind bad whole barred begins =
    barred
    (begins_less nesting (before ++ (bad ∷ [])) behind
    (subst (λ (v : List TokenTree). BeginsText nesting v) (whole ∙ sym (append_assoc before (bad ∷ []) behind)) begins))

broken_tells : (size : ℕ) (tokens : List TokenTree) (f : Fault) → BeginsText nesting tokens → (o : ReadOutcome (List ItemTree)) → items_at nesting tokens ≡ o → Tells size tokens (Some f) o (Err f)
broken_tells size tokens f begins (Read items rest) p = refl
broken_tells size tokens f begins (Stops Stuck zero) p =
    let made : Option ℕ → Result FileTree Fault = λ o. Err (stop_fault o Stuck (Some f) size) in
    sym (ap made (none_left tokens))
broken_tells size tokens f begins (Stops Stuck (suc n)) p =
    let y = stuck_token tokens (suc n) p (omega arith) in
    absurd (not_barred tokens y.before y.behind y.bad y.whole (y.holds.no_further nesting) begins)
broken_tells size tokens f begins (Stops Deep n) p =
    let y = deep_token tokens n p in
    absurd (not_barred tokens y.before y.behind y.bad y.whole y.holds.no_further begins)

-- reading reports this where its outcome is known
by_known : (text : List ℕ) (tokens : List TokenTree) (lexing : Option Fault) (o : ReadOutcome (List ItemTree)) (result : Result FileTree Fault)
    → length text ≤ longest_text
    → Splits 0 text tokens lexing
    → items_at nesting tokens ≡ o
    → Tells (length text) tokens lexing o result
    → IsReading text result
by_known text tokens lexing o result short cut p tells =
    telling.by_tokens tokens lexing result short cut
    (subst (λ (v : ReadOutcome (List ItemTree)). Tells (length text) tokens lexing v result) (sym p) tells)

pub said_reading : (text : List ℕ) (result : Result FileTree Fault) → ReadsAs text result → IsReading text result
said_reading text _ (said.too_long h) = telling.too_long h
said_reading text _ (said.no_token tokens told short cut begins) =
    telling.by_tokens tokens (Some told) (Err told) short cut (broken_tells (length text) tokens told begins (items_at nesting tokens) refl)
said_reading text _ (said.unexpected tokens before behind bad broken short cut whole holds) =
    let left = suc (length behind) in
    let made : Option ℕ → Result FileTree Fault = λ o. Err (stop_fault o Stuck broken (length text)) in
    by_known text tokens broken (Stops Stuck left) (Err (fault.Unexpected bad.at)) short cut
    (unexpected_stops tokens left (record { before = before; bad = bad; behind = behind; whole = whole; is_left = refl; holds = holds }))
    (sym (ap made (place_at tokens before behind bad left whole refl)))
said_reading text _ (said.too_deep tokens before behind bad broken short cut whole holds) =
    let left = suc (length behind) in
    let made : Option ℕ → Result FileTree Fault = λ o. Err (stop_fault o Deep broken (length text)) in
    by_known text tokens broken (Stops Deep left) (Err (fault.TooDeep bad.at)) short cut
    (deep_stops tokens left (record { before = before; bad = bad; behind = behind; whole = whole; is_left = refl; holds = holds }))
    (sym (ap made (place_at tokens before behind bad left whole refl)))
said_reading text _ (said.ends_inside tokens short cut inside) =
    let made : Option ℕ → Result FileTree Fault = λ o. Err (stop_fault o Stuck None (length text)) in
    by_known text tokens None (Stops Stuck 0) (Err (fault.Unexpected (length text))) short cut (inside_stops tokens inside) (sym (ap made (none_left tokens)))
said_reading text _ (said.unruly tokens items told short cut are leftmost) =
    by_known text tokens None (Read items []) (Err told) short cut (items_read tokens items are) leftmost
said_reading text _ (said.file tokens items short cut are faultless) =
    by_known text tokens None (Read items []) (Ok (record { items = items })) short cut (items_read tokens items are) (refl, faultless)
