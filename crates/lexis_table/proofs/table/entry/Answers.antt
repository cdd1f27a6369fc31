-- `lexis_table::table::entry` meets its contract: each arm gives the entry of its bytes.
use Prim.Native.Nat.{◌<◌}
use borrow.Author.Rules.{rules}
use Rattle.lexis_table.proofs.Arms.{given, given-last}
use Rattle.lexis_table.proofs.table.entry.Goals as goal

pub returns-in-0 : goal.returns-in-0
returns-in-0 c = given 1 _ c.in-0.is

pub returns-in-1 : goal.returns-in-1
returns-in-1 c = given 2 _ c.in-1.is

pub returns-in-9 : goal.returns-in-9
returns-in-9 c = given 3 _ c.in-9.is

pub returns-in-13 : goal.returns-in-13
returns-in-13 c = given 4 _ c.in-13.is

pub returns-in-36 : goal.returns-in-36
returns-in-36 c = given 5 _ c.in-36.is

pub returns-in-33 : goal.returns-in-33
returns-in-33 c = given 6 _ c.in-33.is

pub returns-in-34 : goal.returns-in-34
returns-in-34 c = given 7 _ c.in-34.is

pub returns-in-40 : goal.returns-in-40
returns-in-40 c = given 8 _ c.in-40.is

pub returns-in-41 : goal.returns-in-41
returns-in-41 c = given 9 _ c.in-41.is

pub returns-in-44 : goal.returns-in-44
returns-in-44 c = given 10 _ c.in-44.is

pub returns-in-47 : goal.returns-in-47
returns-in-47 c = given 11 _ c.in-47.is

pub returns-in-66 : goal.returns-in-66
returns-in-66 c = given 12 _ c.in-66.is

pub returns-in-45 : goal.returns-in-45
returns-in-45 c = given 13 _ c.in-45.is

pub returns-in-48 : goal.returns-in-48
returns-in-48 c = given 14 _ c.in-48.is

pub returns-in-50 : goal.returns-in-50
returns-in-50 c = given 15 _ c.in-50.is

pub returns-in-49 : goal.returns-in-49
returns-in-49 c = given 16 _ c.in-49.is

pub returns-in-58 : goal.returns-in-58
returns-in-58 c = given 17 _ c.in-58.is

pub returns-in-59 : goal.returns-in-59
returns-in-59 c = given 18 _ c.in-59.is

pub returns-in-92 : goal.returns-in-92
returns-in-92 c = given 19 _ c.in-92.is

pub returns-in-128 : goal.returns-in-128
returns-in-128 c = given 20 _ c.in-128.is

pub returns-in-129 : goal.returns-in-129
returns-in-129 c = given 21 _ c.in-129.is

pub returns-in_default : goal.returns-in_default
returns-in_default c = let h : c.args.b < 256 = search rules in given-last _ h c.in_default.in_default-own.rest
