-- What private functions say: no public contract cites these.
use Rattle.std.specs.Prelude.{ℕ, suc, ◌≤◌, ◌<◌, ◌≡◌, Bool, true, false, List, length, get_or}
use Rattle.tag_list.specs.declared.linked.Sought.{Sought}
use Rattle.tag_list.specs.declared.linked.Sought.TheVariants as sought
use Rattle.tag_names.specs.Names.{name_at, bucket_of}

-- ==== names linked by buckets

-- the bucket of the name that an entry stands for
abbrev pub bucket_at : List ℕ → List ℕ → ℕ → ℕ
bucket_at s t k = bucket_of (name_at s (get_or t k 0))

-- a link, counted from 1, is to a name of this bucket, or it is none
abbrev pub Ends : List ℕ → List ℕ → ℕ → ℕ → Type 0
Ends s t b c = (k : ℕ) → c ≡ suc k → bucket_at s t k ≡ b

-- a link is to the last name of a bucket among the first n entries
pub record Last (s t : List ℕ) (b c n : ℕ) : Type 0 where
  pub within : c ≤ n
  pub skips : (k : ℕ) → c ≤ k → k < n → bucket_at s t k ≡ b → ⊥
  pub ends : Ends s t b c

-- each of the first n entries of a table is linked to the one before it of its bucket
pub record Links (s t next : List ℕ) (n : ℕ) : Type 0 where
  pub fits : n ≤ length t
  pub room : n ≤ length next
  pub before : (k : ℕ) → k < n → Last s t (bucket_at s t k) (get_or next k 0) k

-- and each bucket to its last
pub record Linked (s t next heads : List ℕ) (n : ℕ) : Type 0 where
  pub links : Links s t next n
  pub buckets : length heads ≡ 32768
  pub last : (b : ℕ) → b < 32768 → Last s t b (get_or heads b 0) n

-- what an answer says of a test
abbrev pub SoughtAs : Bool → Sought → Type 0
SoughtAs b sought.Taken = b ≡ true
SoughtAs b sought.Free = b ≡ false
SoughtAs b sought.Unsure = Unit
