-- `write_columns::shown::is_kind` meets its contract: each way out has its law in `Showing`.
use Rattle.write_columns.proofs.Showing.{kind-t, kind-q, kind-m, kind-a}
use Rattle.write_columns.proofs.shown.is_kind.Goals as goal

pub returns-then-b-eq116 : goal.returns-then-b-eq116
returns-then-b-eq116 c = search kind-t

pub returns-then-b-eq113 : goal.returns-then-b-eq113
returns-then-b-eq113 c = search kind-q

pub returns-then-b-eq109 : goal.returns-then-b-eq109
returns-then-b-eq109 c = search kind-m

pub returns : goal.returns
returns c = search kind-a
