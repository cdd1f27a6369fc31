-- `command_message::put_ending` meets its contract: a refusal has its line, and any other ending its phrase.
use Rattle.base_readers.specs.Readers.{run}
use Rattle.text_write.specs.Phrases.{start, phrase}
use Rattle.command_rules.specs.Messages.{ending_line}
use Rattle.command_message.proofs.put_ending.Goals as goal

pub returns-in-Refused : goal.returns-in-Refused
unfolding ending_line
returns-in-Refused c = rw c.in-Refused.is c.put_refusal.ensures

pub returns-in-LinesRefused : goal.returns-in-LinesRefused
unfolding ending_line
returns-in-LinesRefused c = rw c.in-LinesRefused.is c.put_lines_refusal.ensures

pub returns-in-VerdictsRefused : goal.returns-in-VerdictsRefused
unfolding ending_line
returns-in-VerdictsRefused c = rw c.in-VerdictsRefused.is c.put_verdicts.ensures

pub returns-in-Done : goal.returns-in-Done
unfolding ending_line phrase start run
returns-in-Done c = rw c.in-Done.is c.put_told.ensures

pub returns-in-Usage : goal.returns-in-Usage
unfolding ending_line phrase start run
returns-in-Usage c = rw c.in-Usage.is c.put_told-in-Usage.ensures

pub returns-in-ListClosed : goal.returns-in-ListClosed
unfolding ending_line phrase start run
returns-in-ListClosed c = rw c.in-ListClosed.is c.put_told-in-ListClosed.ensures

pub returns-in-ListUnread : goal.returns-in-ListUnread
unfolding ending_line phrase start run
returns-in-ListUnread c = rw c.in-ListUnread.is c.put_told-in-ListUnread.ensures

pub returns-in-InputUnread : goal.returns-in-InputUnread
unfolding ending_line phrase start run
returns-in-InputUnread c = rw c.in-InputUnread.is c.put_told-in-InputUnread.ensures

pub returns-in-InputTooLong : goal.returns-in-InputTooLong
unfolding ending_line phrase start run
returns-in-InputTooLong c = rw c.in-InputTooLong.is c.put_told-in-InputTooLong.ensures

pub returns-in-OutputTooLong : goal.returns-in-OutputTooLong
unfolding ending_line phrase start run
returns-in-OutputTooLong c = rw c.in-OutputTooLong.is c.put_told-in-OutputTooLong.ensures

pub returns-in-Unwritten : goal.returns-in-Unwritten
unfolding ending_line phrase start run
returns-in-Unwritten c = rw c.in-Unwritten.is c.put_told-in-Unwritten.ensures
