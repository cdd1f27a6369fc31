-- Document 01, "Stripping", and its answers in order.
use Rattle.std.specs.Prelude.{ℕ, Bool, true, not, ◌&&◌, List, [], length}
use Rattle.base_readers.specs.Texts.{bytes}
use Rattle.base_readers.specs.Parsers.{nothing, got}
use Rattle.block_rules.specs.Fields.{Field, body_of, named, bytes_of, select}
use Rattle.identifier_rules.specs.Identifier.{identifier}
use Rattle.ownlist_rules.specs.Listed.{among}
use Rattle.ownlist_rules.specs.Calls.{by_list, by_fields, or_short}

-- whose identifier is unreadable or listed. The rest of the body doesn't matter
unfoldable pub ours_or_unreadable : (List ℕ → Bool) → List ℕ → Bool
ours_or_unreadable listed body = elim (identifier body) [ nothing ↦ true | got i _ ↦ listed i ]

-- Removed: each field named Authentication-Results whose identifier is unreadable or listed
unfoldable pub is_removed : (List ℕ → Bool) → Field → Bool
is_removed listed f = named (bytes "Authentication-Results") f && ours_or_unreadable listed (body_of f)

abbrev pub removed_of : (List ℕ → Bool) → List Field → List Field
removed_of listed = select (is_removed listed)

abbrev pub kept_of : (List ℕ → Bool) → List Field → List Field
kept_of listed = select (λ f. not (is_removed listed f))

-- an answer, and what is written
pub record Answer : Type 0 where
  pub number : ℕ
  pub place : ℕ
  pub kept : ℕ
  pub removed : ℕ
  pub fields : ℕ
  pub written : List ℕ

-- 01, Answer numbers: refusals write nothing and return zero counts
abbrev pub refuse : ℕ → ℕ → Answer
refuse n p = record { number = n; place = p; kept = 0; removed = 0; fields = 0; written = [] }

-- Returned: kept bytes, removed bytes and removed fields, each a sum over the fields
abbrev pub done : List Field → List Field → Answer
done keeps goers =
    record {
      number = 0;
      place = 0;
      kept = length (bytes_of keeps);
      removed = length (bytes_of goers);
      fields = length goers;
      written = bytes_of keeps;
    }

-- 6: lent output shorter than the whole output; its place is the bytes needed
unfoldable pub fitted : List Field → List Field → ℕ → Answer
fitted keeps goers room = or_short refuse room (length (bytes_of keeps)) (done keeps goers)

-- 01, Answer numbers: 2 to 4, then 6
unfoldable pub strip_fields : List ℕ → (List ℕ → Bool) → ℕ → Answer
strip_fields block listed room = by_fields refuse block (λ fs. fitted (kept_of listed fs) (removed_of listed fs) room)

-- 01, Answer numbers: stripping 1, 5, then 2 to 4, then 6. An identifier is listed when it equals a list entry
unfoldable pub strip : List ℕ → List ℕ → ℕ → Answer
strip block list room = by_list refuse block list (λ own. strip_fields block (among own) room)
