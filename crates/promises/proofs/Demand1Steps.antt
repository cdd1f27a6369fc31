-- Demand 1 of the two calls that stripping is made of (02, ticket [7]): when each gives which number, with which place; zero counts; the lent buffer.
use Prim.Native.Nat.{ℕ, ◌≤◌, ◌<◌}
use mathlib.Core.Path.{◌≡◌}
use mathlib.Core.List.{List}
use lib.ListN.{length, drop}
use Rattle.lexis_rules.specs.Limits.{byte_limit}
use Rattle.block_rules.specs.Fields.{fields, bytes_of}
use Rattle.ownlist_rules.specs.OwnList.{own_list}
use Rattle.ownlist_rules.specs.Calls.{Known}
use Rattle.strip_rules.specs.Terms.{kept_fields}
use Rattle.strip_steps_rules.specs.Terms.{marks_for}
use Rattle.strip_steps_laws.proofs.Marks.{marks-for-long}
use Rattle.strip_steps_laws.proofs.Numbers as steps
use Rattle.promises.specs.Exactly.{Exactly}
use Rattle.promises.specs.Calls.{marks, copies}

-- ==== the first call: 1, 5, then 2 to 4, then 6

module _ (block list old : List ℕ) where
  -- 1: block over 65,536 bytes; place 0
  pub mark-1 : Exactly ((marks block list old).answer.number ≡ 1) (byte_limit < length block)
  mark-1 = ((steps.mark-order block list (length old)).first.one-when, λ h. search ((steps.mark-order block list (length old)).first.when-one h))

  pub mark-place-1 : byte_limit < length block → (marks block list old).answer.place ≡ 0
  mark-place-1 h = search ((steps.mark-order block list (length old)).first.when-one h)

  -- 5: bad own list; start of the first bad entry
  pub mark-5 : Exactly ((marks block list old).answer.number ≡ 5) ((length block ≤ byte_limit) × ((own_list list).number ≡ 5))
  mark-5 = ((steps.mark-order block list (length old)).first.five-when, λ h. search ((steps.mark-order block list (length old)).first.when-five h.0 h.1))

  pub mark-place-5 : length block ≤ byte_limit → (own_list list).number ≡ 5 → (marks block list old).answer.place ≡ (own_list list).place
  mark-place-5 a b = search ((steps.mark-order block list (length old)).first.when-five a b)

  -- 2 to 4: from one walk from the front, line by line; the place of that walk
  pub mark-2-to-4 : (n : ℕ) → 2 ≤ n → n ≤ 4
      → Exactly ((marks block list old).answer.number ≡ n) ((length block ≤ byte_limit) × (((own_list list).number ≡ 0) × ((fields block).number ≡ n)))
  mark-2-to-4 n a b = ((steps.mark-order block list (length old)).first.walk-when n a b, λ h. search ((steps.mark-order block list (length old)).first.when-walk n a b h.0 h.1.0 h.1.1))

  pub mark-place-2-to-4 : (n : ℕ) → 2 ≤ n → n ≤ 4 → length block ≤ byte_limit → (own_list list).number ≡ 0 → (fields block).number ≡ n
      → (marks block list old).answer.place ≡ (fields block).place
  mark-place-2-to-4 n a b h k w = search ((steps.mark-order block list (length old)).first.when-walk n a b h k w)

  -- 6: lent output shorter than the whole output; bytes needed, as many as there are fields
  pub mark-6 : Exactly ((marks block list old).answer.number ≡ 6) (Known block list × (length old < length (fields block).items))
  mark-6 = (
    λ e. (let w = (steps.mark-order block list (length old)).six-when e in (w.0, rw (marks-for-long block list) at w.1)),
    λ h. search ((steps.mark-order block list (length old)).when-six h.0 (rw (marks-for-long block list) h.1)),
  )

  pub mark-place-6 : Known block list → length old < length (fields block).items → (marks block list old).answer.place ≡ length (fields block).items
  mark-place-6 k h = rw ((steps.mark-order block list (length old)).when-six k (rw (marks-for-long block list) h)) (marks-for-long block list)

  -- 0: done; place 0
  pub mark-0 : Exactly ((marks block list old).answer.number ≡ 0) (Known block list × (length (fields block).items ≤ length old))
  mark-0 = (
    λ e. (let w = (steps.mark-order block list (length old)).zero-when e in (w.0, rw (marks-for-long block list) at w.1)),
    λ h. search ((steps.mark-order block list (length old)).when-zero h.0 (rw (marks-for-long block list) h.1)),
  )

  pub mark-place-0 : Known block list → length (fields block).items ≤ length old → (marks block list old).answer.place ≡ 0
  mark-place-0 k h = search ((steps.mark-order block list (length old)).when-zero k (rw (marks-for-long block list) h))

  -- there is no other number
  pub mark-numbers : (marks block list old).answer.number ≤ 6
  mark-numbers = (steps.mark-order block list (length old)).numbers

  -- refusals write nothing and return a zero count
  pub mark-refusal : ((marks block list old).answer.number ≡ 0 → ⊥)
      → marks block list old
      ≡ record { answer = record { number = (marks block list old).answer.number; place = (marks block list old).answer.place; written = 0 }; left = old }
  mark-refusal ne = rw ((steps.mark-order block list (length old)).refused ne)

  -- bytes past those written stay unchanged
  pub mark-past : drop (marks block list old).answer.written (marks block list old).left ≡ drop (marks block list old).answer.written old
  mark-past = steps.mark-past block list old

-- ==== the second call: 1, 5, then 2 to 4, then 13, then 6

module _ (block list handed old : List ℕ) where
  -- 1: block over 65,536 bytes; place 0
  pub copy-1 : Exactly ((copies block list handed old).answer.number ≡ 1) (byte_limit < length block)
  copy-1 = ((steps.copy-order block list handed (length old)).one-when, λ h. search ((steps.copy-order block list handed (length old)).when-one h))

  pub copy-place-1 : byte_limit < length block → (copies block list handed old).answer.place ≡ 0
  copy-place-1 h = search ((steps.copy-order block list handed (length old)).when-one h)

  -- 5: bad own list; start of the first bad entry
  pub copy-5 : Exactly ((copies block list handed old).answer.number ≡ 5) ((length block ≤ byte_limit) × ((own_list list).number ≡ 5))
  copy-5 =
      ((steps.copy-order block list handed (length old)).five-when, λ h. search ((steps.copy-order block list handed (length old)).when-five h.0 h.1))

  pub copy-place-5 : length block ≤ byte_limit → (own_list list).number ≡ 5 → (copies block list handed old).answer.place ≡ (own_list list).place
  copy-place-5 a b = search ((steps.copy-order block list handed (length old)).when-five a b)

  -- 2 to 4: from one walk from the front, line by line; the place of that walk
  pub copy-2-to-4 : (n : ℕ) → 2 ≤ n → n ≤ 4
      → Exactly ((copies block list handed old).answer.number ≡ n) ((length block ≤ byte_limit) × (((own_list list).number ≡ 0) × ((fields block).number ≡ n)))
  copy-2-to-4 n a b = (
    (steps.copy-order block list handed (length old)).walk-when n a b,
    λ h. search ((steps.copy-order block list handed (length old)).when-walk n a b h.0 h.1.0 h.1.1),
  )

  pub copy-place-2-to-4 : (n : ℕ) → 2 ≤ n → n ≤ 4 → length block ≤ byte_limit → (own_list list).number ≡ 0 → (fields block).number ≡ n
      → (copies block list handed old).answer.place ≡ (fields block).place
  copy-place-2-to-4 n a b h k w = search ((steps.copy-order block list handed (length old)).when-walk n a b h k w)

  -- 13: what it is handed isn't exactly what the first call writes for this block and list (`marks_for`: `marks-wrote` of Ticket7); place 0
  pub copy-13 : Exactly ((copies block list handed old).answer.number ≡ 13) (Known block list × (handed ≡ marks_for block list → ⊥))
  copy-13 = (steps.thirteen-when block list handed (length old), λ h. search (steps.when-thirteen block list handed (length old) h.0 h.1))

  pub copy-place-13 : Known block list → (handed ≡ marks_for block list → ⊥) → (copies block list handed old).answer.place ≡ 0
  copy-place-13 k ne = search (steps.when-thirteen block list handed (length old) k ne)

  -- 6: lent output shorter than the whole output; bytes needed
  pub copy-6 : Exactly ((copies block list handed old).answer.number ≡ 6)
      (Known block list × ((handed ≡ marks_for block list) × (length old < length (bytes_of (kept_fields block list)))))
  copy-6 = (steps.six-when block list handed (length old), λ h. search (steps.when-six block list handed (length old) h.0 h.1.0 h.1.1))

  pub copy-place-6 : Known block list → handed ≡ marks_for block list → length old < length (bytes_of (kept_fields block list))
      → (copies block list handed old).answer.place ≡ length (bytes_of (kept_fields block list))
  copy-place-6 k e h = search (steps.when-six block list handed (length old) k e h)

  -- 0: done; place 0
  pub copy-0 : Exactly ((copies block list handed old).answer.number ≡ 0)
      (Known block list × ((handed ≡ marks_for block list) × (length (bytes_of (kept_fields block list)) ≤ length old)))
  copy-0 = (steps.zero-when block list handed (length old), λ h. search (steps.when-zero block list handed (length old) h.0 h.1.0 h.1.1))

  pub copy-place-0 : Known block list → handed ≡ marks_for block list → length (bytes_of (kept_fields block list)) ≤ length old
      → (copies block list handed old).answer.place ≡ 0
  copy-place-0 k e h = search (steps.when-zero block list handed (length old) k e h)

  -- there is no other number than 0 to 6 and 13
  pub copy-numbers : ((copies block list handed old).answer.number ≤ 6 → ⊥) → (copies block list handed old).answer.number ≡ 13
  copy-numbers = steps.numbers block list handed (length old)

  -- refusals write nothing and return zero counts
  pub copy-refusal : ((copies block list handed old).answer.number ≡ 0 → ⊥)
      → copies block list handed old
      ≡ record {
        answer = record { number = (copies block list handed old).answer.number; place = (copies block list handed old).answer.place; kept = 0; removed = 0; fields = 0 };
        left = old;
      }
  copy-refusal ne = rw (steps.refused block list handed (length old) ne)

  -- bytes past those written stay unchanged
  pub copy-past : drop (copies block list handed old).answer.kept (copies block list handed old).left ≡ drop (copies block list handed old).answer.kept old
  copy-past = steps.copy-past block list handed old
