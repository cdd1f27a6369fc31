-- `lexis_classes::classes::rows_of` meets its contract: the binary digits of each class are computed.
use Rattle.lexis_rules.specs.declared.Class.TheVariants.{Blank, Opening, Zero, Digit, Keyword, Token, Quoted, Comment, Escaped, Name, Visible, Delimiter, Tag}
use Rattle.lexis_classes.proofs.Digits.{told}
use Rattle.lexis_classes.proofs.classes.rows_of.Goals as goal

pub returns-in-Blank : goal.returns-in-Blank
returns-in-Blank c = told Blank _ c.in-Blank.is

pub returns-in-Opening : goal.returns-in-Opening
returns-in-Opening c = told Opening _ c.in-Opening.is

pub returns-in-Zero : goal.returns-in-Zero
returns-in-Zero c = told Zero _ c.in-Zero.is

pub returns-in-Digit : goal.returns-in-Digit
returns-in-Digit c = told Digit _ c.in-Digit.is

pub returns-in-Keyword : goal.returns-in-Keyword
returns-in-Keyword c = told Keyword _ c.in-Keyword.is

pub returns-in-Token : goal.returns-in-Token
returns-in-Token c = told Token _ c.in-Token.is

pub returns-in-Quoted : goal.returns-in-Quoted
returns-in-Quoted c = told Quoted _ c.in-Quoted.is

pub returns-in-Comment : goal.returns-in-Comment
returns-in-Comment c = told Comment _ c.in-Comment.is

pub returns-in-Escaped : goal.returns-in-Escaped
returns-in-Escaped c = told Escaped _ c.in-Escaped.is

pub returns-in-Name : goal.returns-in-Name
returns-in-Name c = told Name _ c.in-Name.is

pub returns-in-Visible : goal.returns-in-Visible
returns-in-Visible c = told Visible _ c.in-Visible.is

pub returns-in-Delimiter : goal.returns-in-Delimiter
returns-in-Delimiter c = told Delimiter _ c.in-Delimiter.is

pub returns-in-Tag : goal.returns-in-Tag
returns-in-Tag c = told Tag _ c.in-Tag.is
