-- Which numbers stripping answers, and that each is given exactly when its rule says so: the order of refusals that all calls with a block and our own list
-- have, at stripping's answers.
use Prim.Native.Nat.{ℕ, zero, suc, ◌≤◌, ◌<◌}
use native.Mathlib.Omega.{arith}
use mathlib.Core.Path.{◌≡◌, refl}
use mathlib.Core.List.{List, []}
use lib.ListN.{length, drop}
use lib.Seq.{drop-append_seam}
use Rattle.lexis_rules.specs.Limits.{byte_limit}
use Rattle.block_rules.specs.Fields.{fields, bytes_of}
use Rattle.ownlist_rules.specs.OwnList.{own_list}
use Rattle.strip_rules.specs.Strip.{Answer, done, strip}
use Rattle.strip_rules.specs.Answers.{leaves}
use Rattle.strip_rules.specs.Terms.{kept_fields, removed_fields, Known}
use Rattle.strip_laws.proofs.Laws.{strip-order}

-- a refusal: zero counts, and nothing is written
abbrev pub refusing : ℕ → ℕ → Answer
refusing n p = record { number = n; place = p; kept = 0; removed = 0; fields = 0; written = [] }

module _ (block list : List ℕ) (room : ℕ) where
  pub one-when : (strip block list room).number ≡ 1 → byte_limit < length block
  one-when = (strip-order block list room).first.one-when

  pub when-one : byte_limit < length block → strip block list room ≡ refusing 1 0
  when-one = (strip-order block list room).first.when-one

  pub five-when : (strip block list room).number ≡ 5 → (length block ≤ byte_limit) × ((own_list list).number ≡ 5)
  five-when = (strip-order block list room).first.five-when

  pub when-five : length block ≤ byte_limit → (own_list list).number ≡ 5 → strip block list room ≡ refusing 5 (own_list list).place
  when-five = (strip-order block list room).first.when-five

  pub walk-when : (n : ℕ) → 2 ≤ n → n ≤ 4 → (strip block list room).number ≡ n
      → (length block ≤ byte_limit) × (((own_list list).number ≡ 0) × ((fields block).number ≡ n))
  walk-when = (strip-order block list room).first.walk-when

  pub when-walk : (n : ℕ) → 2 ≤ n → n ≤ 4 → length block ≤ byte_limit → (own_list list).number ≡ 0 → (fields block).number ≡ n
      → strip block list room ≡ refusing n (fields block).place
  when-walk = (strip-order block list room).first.when-walk

  pub six-when : (strip block list room).number ≡ 6 → Known block list × (room < length (bytes_of (kept_fields block list)))
  six-when = (strip-order block list room).six-when

  pub when-six : Known block list → room < length (bytes_of (kept_fields block list)) → strip block list room ≡ refusing 6 (length (bytes_of (kept_fields block list)))
  when-six = (strip-order block list room).when-six

  pub zero-when : (strip block list room).number ≡ 0 → Known block list × (length (bytes_of (kept_fields block list)) ≤ room)
  zero-when = (strip-order block list room).zero-when

  pub when-zero : Known block list → length (bytes_of (kept_fields block list)) ≤ room
      → strip block list room ≡ done (kept_fields block list) (removed_fields block list)
  when-zero = (strip-order block list room).when-zero

  -- 01, Answer numbers: a refusal, whatever its number, has zero counts and writes nothing
  pub refused-silent : ((strip block list room).number ≡ 0 → ⊥) → strip block list room ≡ refusing (strip block list room).number (strip block list room).place
  refused-silent = (strip-order block list room).refused

  -- there is no other number than 0 to 6
  pub numbers : (strip block list room).number ≤ 6
  numbers = (strip-order block list room).numbers

-- 01, Answer numbers: on every answer, bytes past those written stay unchanged
pub past : (block list old : List ℕ)
    → drop (strip block list (length old)).kept (leaves (strip block list (length old)) old) ≡ drop (strip block list (length old)).kept old
past block list old = go (strip block list (length old)).number refl
  where
    go : (n : ℕ) → (strip block list (length old)).number ≡ n
        → drop (strip block list (length old)).kept (leaves (strip block list (length old)) old) ≡ drop (strip block list (length old)).kept old
    go zero z =
        let w = zero-when block list (length old) z in
        rw (when-zero block list (length old) w.0 w.1)
        (drop-append_seam (bytes_of (kept_fields block list)) (drop (length (bytes_of (kept_fields block list))) old))
    go (suc n) z = rw (refused-silent block list (length old) (λ e. omega arith))
