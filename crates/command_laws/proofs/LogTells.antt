-- What is logged, by what stripping answers with the room that the command has: nothing where it refuses, and else a line for each field that goes.
use Prim.Native.Nat.{ℕ, ◌≤◌}
use mathlib.Core.Path.{◌≡◌, refl, ap}
use mathlib.Core.Bool.{Bool, true, false}
use mathlib.Core.List.{List, []}
use borrow.Author.Tests.{ltb-true, ltb-false}
use lib.Dec.{ltb}
use lib.ListN.{length}
use Rattle.block_rules.specs.Fields.{fields, bytes_of}
use Rattle.ownlist_rules.specs.Calls.{Known}
use Rattle.strip_rules.specs.Strip.{Answer, strip}
use Rattle.strip_rules.specs.Terms.{kept_fields}
use Rattle.strip_laws.proofs.Numbers as strip-laws
use Rattle.strip_steps_rules.specs.Terms.{marks_for}
use Rattle.command_log_rules.specs.Log.{lines_by, log_of}
use Rattle.command_log_rules.proofs.PlainAndShort.{log-known, log-unknown}
use Rattle.command_laws.proofs.AsAnswered.{strip-room}

module _ (block list : List ℕ) (room : ℕ) where
  pub log-done : (strip block list room).number ≡ 0 → log_of block list ≡ lines_by (marks_for block list) 0 (fields block).items
  log-done e = log-known block list (strip-laws.zero-when block list room e).0

  pub log-refused : 65536 ≤ room → ((strip block list room).number ≡ 0 → ⊥) → log_of block list ≡ []
  log-refused h ne = log-unknown block list (λ k. ne (go k (ltb room (length (bytes_of (kept_fields block list)))) refl))
    where
      go : Known block list → (t : Bool) → ltb room (length (bytes_of (kept_fields block list))) ≡ t → (strip block list room).number ≡ 0
      go k true l = absurd (strip-room block list room h (ap (λ (a : Answer). a.number) (strip-laws.when-six block list room k (ltb-true room _ l))))
      go k false l = ap (λ (a : Answer). a.number) (strip-laws.when-zero block list room k (ltb-false room _ l))
