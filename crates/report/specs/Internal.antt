-- What private functions say: no public contract cites these.
use Rattle.std.specs.Prelude.{ℕ, ◌+◌, ◌≡◌, Bool, true, false, List, [], ◌++◌, length, take, drop}
use Rattle.std.proofs.lemmas.List.Edits.{sets}
use Rattle.base_sequences.specs.Stored.{Wrote}
use Rattle.base_readers.specs.Texts.{follows}
use Rattle.base_readers.specs.Parsers.{nothing, got, Parser, optional}
use Rattle.base_readers.specs.Places.{from, list_at, end_at}
use Rattle.lexis_rules.specs.declared.Class.TheVariants.{Delimiter}
use Rattle.lexis_rules.specs.Bytes.{in_class}
use Rattle.identifier_rules.specs.Version.{stated, header_version}
use Rattle.result_rules.specs.Results.{Result}
use Rattle.base_sequences.specs.Spans.{span}
use Rattle.result_separators.specs.Separators.{spaced}
use Rattle.result_rules.specs.Table.{understood}
use Rattle.report_rules.specs.Body.{Reading, unreadable, malformed, newer, no_result, results, resinfo, headed}
use Rattle.report_rules.specs.Report.{id_line, version_line, none_line, result_lines, lines, ignored_of}
use Rattle.report_rules.specs.declared.Reported.{Reported}
use Rattle.report_results.specs.declared.Turn.{Turn}
use Rattle.std.specs.Prelude.{Option, Some, None}
use Rattle.report.specs.declared.results.Results.{Results}

-- ==== one result, with the space and the ";" before it

-- the lines of the result behind a place, understood or not
unfoldable pub turn_lines : List ℕ → ℕ → List ℕ
turn_lines s at = elim (from resinfo s at) [ nothing ↦ [] | got r n ↦ result_lines r ]

-- a result that was read, with its lines
pub record TurnRead (s : List ℕ) (at : ℕ) (old : List ℕ) (to : ℕ) (new : List ℕ) (e g n : ℕ) (u : Bool) : Type 0 where
  pub result : Result
  pub reads : got result e ≡ from resinfo s at
  pub gap : g ≡ spaced s e
  pub known : u ≡ understood result
  pub wrote : Wrote old to (result_lines result) new n

abbrev pub TurnPut : List ℕ → ℕ → List ℕ → ℕ → List ℕ → Option Turn → Type 0
TurnPut s at old to new (Some t) = TurnRead s at old to new t.end t.gap t.next t.understood
TurnPut s at old to new None = (nothing ≡ from resinfo s at) × (new ≡ old)

-- ==== all results

-- `text` is stored in `old` from `to` on, as far as there is room. Past its end only the length is as before: an ignored result may have
-- left something there
pub record Fronted (old : List ℕ) (to : ℕ) (text new : List ℕ) : Type 0 where
  pub front : take (to + length text) new ≡ take (to + length text) (sets old to text)
  pub long : length new ≡ length old

pub record ResultsPut (s : List ℕ) (at : ℕ) (old : List ℕ) (to : ℕ) (new : List ℕ) (r : Results) : Type 0 where
  pub end : r.end ≡ end_at resinfo s at
  pub gap : r.gap ≡ spaced s r.end
  pub ignored : r.ignored ≡ ignored_of (list_at resinfo s at)
  pub next : r.next ≡ to + length (lines (list_at resinfo s at))
  pub bytes : Fronted old to (lines (list_at resinfo s at)) new

-- ==== the whole body

-- p takes something or nothing of the front of a list, with success
unfoldable pub succeeds : {A : Type 0} → Parser A → List ℕ → Bool
succeeds p xs = elim (p xs) [ nothing ↦ false | got a n ↦ true ]

-- what is written behind the line of the identifier
abbrev pub behind_id : Reading → List ℕ
behind_id unreadable = []
behind_id malformed = []
behind_id (newer h) = version_line h.version
behind_id (no_result i) = none_line
behind_id (results i rs) = lines rs

-- all that is written
abbrev pub whole_text : Reading → List ℕ
whole_text unreadable = []
whole_text malformed = []
whole_text (newer h) = id_line h.identifier ++ version_line h.version
whole_text (no_result i) = id_line i ++ none_line
whole_text (results i rs) = id_line i ++ lines rs

abbrev pub refused : ℕ → ℕ → Reported
refused n p = record { number = n; place = p; written = 0; ignored = 0 }

-- the answer where so many bytes come before what is written behind the line of the identifier
abbrev pub answer_behind : ℕ → Reading → Reported
answer_behind to unreadable = refused 7 0
answer_behind to malformed = refused 9 0
answer_behind to (newer h) = record { number = 8; place = 0; written = to + length (version_line h.version); ignored = 0 }
answer_behind to (no_result i) = record { number = 0; place = 0; written = to + length none_line; ignored = 0 }
answer_behind to (results i rs) = record { number = 0; place = 0; written = to + length (lines rs); ignored = ignored_of rs }

pub record Behind (x : Reading) (old : List ℕ) (to : ℕ) (new : List ℕ) (r : Reported) : Type 0 where
  pub answer : r ≡ answer_behind to x
  pub bytes : Fronted old to (behind_id x) new

-- the digits from a up to e are a header version other than 1
unfoldable pub newer_at : List ℕ → ℕ → ℕ → Reading
newer_at s a e = elim (follows (in_class Delimiter) (drop e s)) [ false ↦ malformed | true ↦ newer (record { identifier = []; version = span s a e }) ]

-- what a body says whose identifier ends at a place; the identifier itself is left out
unfoldable pub headed_at : List ℕ → ℕ → Reading
headed_at s e = elim (from (optional stated) s e) [ nothing ↦ malformed | got v n ↦ headed (record { identifier = []; version = header_version v }) (drop n s) ]

-- the answer to a whole body
abbrev pub whole_answer : Reading → Reported
whole_answer unreadable = refused 7 0
whole_answer malformed = refused 9 0
whole_answer (newer h) = record { number = 8; place = 0; written = length (whole_text (newer h)); ignored = 0 }
whole_answer (no_result i) = record { number = 0; place = 0; written = length (whole_text (no_result i)); ignored = 0 }
whole_answer (results i rs) = record { number = 0; place = 0; written = length (whole_text (results i rs)); ignored = ignored_of rs }

pub record Said (x : Reading) (old new : List ℕ) (r : Reported) : Type 0 where
  pub answer : r ≡ whole_answer x
  pub bytes : Fronted old 0 (whole_text x) new
