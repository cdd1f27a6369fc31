-- Demand 1, for the command: its last line has the call's number and place, exactly. For each subcommand: where its call answers 0, the output is the whole of what the
-- call gives, at the front of the buffer that is written, and the line says 0 once that has gone, and only then; where it answers another number, the line tells that
-- number and its place, nothing is written, and the buffer is as it was (`Tells` in command_laws/specs/LastLine.antt). That holds for all inputs, with any buffer that is
-- as long as the command's own (command_buffers); those have room for every output, so the calls' 6 is never told. The calls' numbers are those of Demand1.antt.
use Prim.Native.Nat.{ℕ, ◌≤◌, ◌<◌}
use mathlib.Core.Path.{◌≡◌, refl}
use mathlib.Core.Bool.{true, false}
use mathlib.Core.List.{List, [], map}
use mathlib.Core.Logic.{◌⊎◌}
use lib.ListN.{length, get_or, replicate}
use Rattle.base_readers.specs.Texts.{bytes}
use Rattle.block_rules.specs.Fields.{fields, bytes_of}
use Rattle.ownlist_rules.specs.OwnList.{own_list}
use Rattle.strip_rules.specs.Strip.{strip}
use Rattle.strip_rules.specs.Terms.{kept_fields}
use Rattle.strip_steps_rules.specs.Terms.{marks_for}
use Rattle.blockreport_rules.specs.declared.Detail.TheVariants.{Reported, Identified}
use Rattle.blockreport_rules.specs.BlockReport.{block_report}
use Rattle.blockreport_rules.specs.Terms.{block_text}
use Rattle.write_rules.specs.Compose.{compose}
use Rattle.write_rules.specs.Promise.{body_for, Bytes}
use Rattle.arc_rules.specs.Chain.{judge}
use Rattle.arc_rules.specs.Answers.{answer_of}
use Rattle.explain_rules.specs.Explained.{explained}
use Rattle.judgement_rules.specs.Judgement.{verdict_of, judgement}
use Rattle.command_rules.specs.declared.Ending.{Ending}
use Rattle.command_rules.specs.Messages.{feeds, feedless, fault, meaning, lines_meaning, ending_line}
use Rattle.command_list_rules.specs.Notices.{check_text}
use Rattle.command_log_rules.specs.Log.{lines_by, log_of}
use Rattle.command_log_rules.proofs.PlainAndShort as texts
use Rattle.command_log_rules.proofs.Examples as examples
use Rattle.command_sets.specs.Sets.{sets_of}
use Rattle.command_output_rules.specs.Outputs.{stripped_block, reported_block, explained_block, checked_list, judged_block, written_body}
use Rattle.command_output_rules.proofs.Unfolding.{opened}
use Rattle.command_laws.specs.LastLine.{number_of, line_number, last_line, Tells}
use Rattle.command_laws.proofs.AsAnswered as rooms
use Rattle.command_laws.proofs.LastLines as last-lines
use Rattle.command_laws.proofs.LastLineTells as tells
use Rattle.command_laws.proofs.LogTells as logs

-- ==== every last line

-- it tells the number of its ending, whatever our own list is: read back from its bytes, it is the number of a refusal, or the command's own
pub line-number : (e : Ending) (list : List ℕ) → line_number (ending_line e list) ≡ number_of e
line-number = last-lines.line-number

-- ==== strip LIST

module _ (block list old : List ℕ) where
  pub strip-line : Tells (strip block list (length old)).number (strip block list (length old)).place (bytes_of (kept_fields block list)) old list (stripped_block block list old)
  strip-line = tells.strip-tells block list old

  pub strip-not-6 : 65536 ≤ length old → (strip block list (length old)).number ≡ 6 → ⊥
  strip-not-6 = rooms.strip-room block list (length old)

  -- ==== log LIST, which `strip --log LIST` asks for

  -- Once what it logs has gone it makes what `strip` makes, so what is said above holds of it; else it ends as `Unwritten` (74), and there is no output. It logs a line for each field
  -- that goes where stripping answers 0, and nothing where it refuses; all of that fits the buffer for it, and no byte of it but LF is outside of 32 to 126
  pub log-done : (strip block list (length old)).number ≡ 0 → log_of block list ≡ lines_by (marks_for block list) 0 (fields block).items
  log-done = logs.log-done block list (length old)

  pub log-refused : 65536 ≤ length old → ((strip block list (length old)).number ≡ 0 → ⊥) → log_of block list ≡ []
  log-refused = logs.log-refused block list (length old)

  pub log-fits : length (log_of block list) ≤ 229377
  log-fits = texts.log-fits block list

  pub log-plain : Bytes block → (k : ℕ) → k < length (log_of block list)
      → (get_or (log_of block list) k 0 ≡ 10) ⊎ ((32 ≤ get_or (log_of block list) k 0) × (get_or (log_of block list) k 0 ≤ 126))
  log-plain = texts.log-plain block list

  -- ==== report LIST

  pub report-line : Tells (block_report Reported block list (length old)).number (block_report Reported block list (length old)).place (block_text Reported block list) old list (reported_block block list old)
  report-line = tells.report-tells block list old

  pub report-not-6 : 229376 ≤ length old → (block_report Reported block list (length old)).number ≡ 6 → ⊥
  report-not-6 = rooms.report-room block list (length old)

  -- ==== explain LIST

  -- the call is handed a buffer of 229,377 bytes for its lines
  pub explain-line : 786432 ≤ length old
      → Tells (block_report Identified block list 229377).number (block_report Identified block list 229377).place (explained (block_text Identified block list)) old list (explained_block block list old)
  explain-line = tells.explain-tells block list old

  pub explain-not-6 : (block_report Identified block list 229377).number ≡ 6 → ⊥
  explain-not-6 = rooms.lines-room block list

-- ==== check LIST

pub check-line : (list old : List ℕ) → 201024 ≤ length old → Tells (own_list list).number (own_list list).place (check_text list) old list (checked_list list old)
check-line = tells.check-tells

-- ==== judge VERDICTS

-- behind 10 the line tells, for a place, how many sets the chain has
pub judge-line : (block digits old : List ℕ) → 512 ≤ length old
    → Tells (judge block (map verdict_of digits)).number (tells.place_told (judge block (map verdict_of digits)).number (judge block (map verdict_of digits)).place (sets_of block))
    (judgement (answer_of (judge block (map verdict_of digits)))) old [] (judged_block block digits old)
judge-line block digits old h = tells.judge-tells block digits old [] h

-- ==== write

pub write-line : (lines old : List ℕ) → Tells (compose lines (length old)).number (compose lines (length old)).place (body_for lines) old [] (written_body lines old)
write-line lines old = tells.write-tells lines old []

pub write-not-6 : (lines old : List ℕ) → 65536 ≤ length old → (compose lines (length old)).number ≡ 6 → ⊥
write-not-6 lines old = rooms.write-room lines (length old)

-- ==== instances: the last line of each subcommand, where its call answers 0 and where it refuses

says : ℕ
unfolding opened feeds feedless fault meaning lines_meaning ending_line
says = 0

abbrev own : List ℕ
own = bytes "a\n"

strip-instance : last_line (stripped_block (bytes "Authentication-Results: a; none\r\nTo: b\r\n") own (bytes "........")) true own ≡ bytes "orbendash: 0: done\n"
unfolding says
strip-instance = refl

strip-refusal : last_line (stripped_block (bytes "To: b\r\nCc\r\n") own (bytes ".")) false own
    ≡ bytes "orbendash: 3: an empty line, a first line that starts with space or tab, or a field without name or colon, at 7\n"
unfolding says
strip-refusal = refl

log-instance : log_of (bytes "To: b\r\nAuthentication-Results: a; 100%\r\n") own ≡ bytes "orbendash: goes: 2: Authentication-Results:%20a;%20100%25%0D%0A\n"
unfolding examples.opened
log-instance = refl

report-refusal : last_line (reported_block (bytes "To: b\r\nCc") own (bytes ".")) true own
    ≡ bytes "orbendash: 2: a CR without LF, an LF without CR, or a last line without CRLF, at 9\n"
unfolding says
report-refusal = refl

explain-refusal : last_line (explained_block (bytes "To: b\r\n") (bytes "a\n\n") []) true (bytes "a\n\n") ≡ bytes "orbendash: 5: a bad entry of the list: it is empty, at 2\n"
unfolding says
explain-refusal = refl

check-refusal : last_line (checked_list (bytes "a\nb") []) true (bytes "a\nb") ≡ bytes "orbendash: 5: a bad entry of the list: it does not end with LF, at 2\n"
unfolding says
check-refusal = refl

judge-instance : last_line (judged_block (bytes "To: b\r\n") (bytes "3") (replicate 60 46)) false [] ≡ bytes "orbendash: 74: standard output can't be written\n"
unfolding says
judge-instance = refl

write-refusal : last_line (written_body (bytes "id\ta\n") (bytes ".")) true [] ≡ bytes "orbendash: 11: no body has that report, at line 2\n"
unfolding says
write-refusal = refl
