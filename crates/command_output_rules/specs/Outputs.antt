-- What each subcommand makes of what was read, and what it leaves in the buffer that it is lent; and how the command ends once the output has gone or not.
use Rattle.std.specs.Prelude.{ℕ, Bool, true, false, cond, List, ◌++◌, map, eqb, ltb, length, take, drop}
use Rattle.ownlist_rules.specs.OwnList.{own_list}
use Rattle.strip_rules.specs.Strip as stripping
use Rattle.blockreport_rules.specs.declared.Detail.TheVariants.{Reported, Identified}
use Rattle.blockreport_rules.specs.BlockReport as reporting
use Rattle.write_rules.specs.Compose as composing
use Rattle.arc_rules.specs.Chain as chains
use Rattle.arc_rules.specs.Answers as judged
use Rattle.explain_rules.specs.Explained.{explained}
use Rattle.judgement_rules.specs.Judgement.{verdict_of, judgement}
use Rattle.command_rules.specs.declared.Ending.{Ending}
use Rattle.command_rules.specs.declared.Ending.TheVariants.{Done, Usage, ListClosed, ListUnread, InputUnread, InputTooLong, OutputTooLong, Unwritten, VerdictsRefused, Refused, LinesRefused}
use Rattle.command_list_rules.specs.Notices.{check_text}
use Rattle.command_sets.specs.Sets.{sets_of}
use Rattle.command_output_rules.specs.declared.Made.{Made}

-- what is answered, and what the lent buffer then holds
pub record Output : Type 0 where
  pub made : Made
  pub left : List ℕ

-- a text at the front of the buffer, the rest as it was
abbrev pub front : List ℕ → List ℕ → List ℕ
front text old = text ++ drop (length text) old

-- ==== by what a call answered and wrote, which fits the buffer

-- done where the number is 0, with so many bytes; else refused, with none
unfoldable pub made_of : ℕ → Ending → ℕ → Made
made_of number refusal size =
    elim (eqb number 0) [
      | true ↦ record { ending = Done; written = size }
      | false ↦ record { ending = refusal; written = 0 }
    ]

-- what the call wrote is at the front: nothing where it refused
abbrev pub answered : ℕ → Ending → List ℕ → List ℕ → Output
answered number refusal text old = record { made = made_of number refusal (length text); left = front text old }

-- ==== words, for which the buffer may be too short

-- words of so many bytes in a buffer with this room: where they don't fit, none of them is the output
unfoldable pub said_of : ℕ → ℕ → Made
said_of size room =
    elim (ltb room size) [
      | false ↦ record { ending = Done; written = size }
      | true ↦ record { ending = OutputTooLong; written = 0 }
    ]

-- they stand at the front, the rest as it was; where they don't fit, as much of them as does
abbrev pub said : List ℕ → List ℕ → Output
said text old = record { made = said_of (length text) (length old); left = take (length old) (front text old) }

-- a refusal has no words, and leaves the buffer as it was
unfoldable pub worded : ℕ → Ending → List ℕ → List ℕ → Output
worded number refusal text old =
    elim (eqb number 0) [
      | true ↦ said text old
      | false ↦ record { made = record { ending = refusal; written = 0 }; left = old }
    ]

-- ==== the subcommands

-- what is kept of a block is at the front, the rest as it was: done, or refused with the call's number and place
unfoldable pub stripped_block : List ℕ → List ℕ → List ℕ → Output
stripped_block block list old =
    let a = stripping.strip block list (length old) in answered a.number (Refused a.number a.place) a.written old

-- what each Authentication-Results field says is at the front: done, or refused with the call's number and place
unfoldable pub reported_block : List ℕ → List ℕ → List ℕ → Output
reported_block block list old =
    let a = reporting.block_report Reported block list (length old) in answered a.number (Refused a.number a.place) a.written old

-- the room that the lines have before they are said in words (`command_buffers::REPORTS`)
abbrev pub lines_room : ℕ
lines_room = 229377

-- the same in words, and of a field that is not well-formed its identifier
unfoldable pub explained_block : List ℕ → List ℕ → List ℕ → Output
explained_block block list old =
    let a = reporting.block_report Identified block list lines_room in worded a.number (Refused a.number a.place) (explained a.written) old

-- how the entries of a good list are compared, and what is noticed of them; a bad one is refused with the number and the place of its first bad entry
unfoldable pub checked_list : List ℕ → List ℕ → Output
checked_list list old = worded (own_list list).number (Refused (own_list list).number (own_list list).place) (check_text list) old

-- bad verdicts have a line of their own, which tells how many sets the chain has
abbrev pub verdicts_refusal : ℕ → ℕ → ℕ → Ending
verdicts_refusal number place sets = cond (eqb number 10) (VerdictsRefused sets) (Refused number place)

-- what the ARC chain says by the verdicts that these digits say, in columns and in words; or refused with the call's number and place
unfoldable pub judged_block : List ℕ → List ℕ → List ℕ → Output
judged_block block digits old =
    let a = chains.judge block (map verdict_of digits) in worded a.number (verdicts_refusal a.number a.place (sets_of block)) (judgement (judged.answer_of a)) old

-- the body that has these lines as its report is at the front: done, or refused with the call's number and place
unfoldable pub written_body : List ℕ → List ℕ → Output
written_body lines old =
    let a = composing.compose lines (length old) in answered a.number (LinesRefused a.number a.place) a.written old

-- ==== once the output has gone, or not

-- done only where it has; a refusal is told as it is
unfoldable pub ending_after : Made → Bool → Ending
ending_after made went =
    elim made.ending [
      | Done ↦ cond went Done Unwritten
      | Usage ↦ Usage
      | ListClosed ↦ ListClosed
      | ListUnread ↦ ListUnread
      | InputUnread ↦ InputUnread
      | InputTooLong ↦ InputTooLong
      | OutputTooLong ↦ OutputTooLong
      | Unwritten ↦ Unwritten
      | VerdictsRefused sets ↦ VerdictsRefused sets
      | Refused number place ↦ Refused number place
      | LinesRefused number place ↦ LinesRefused number place
    ]
