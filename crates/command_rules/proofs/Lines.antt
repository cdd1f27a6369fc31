-- The definitions by their cases: what is wrong with an entry, what a number means.
use Prim.Native.Nat.{ℕ, ◌≤◌, ◌<◌}
use mathlib.Core.Path.{◌≡◌}
use mathlib.Core.List.{List, ◌++◌}
use lib.ListN.{length}
use borrow.Author.Tests.{le-leb, lt-leb, eq-eqb, ne_eqb}
use Rattle.base_readers.specs.Texts.{bytes}
use Rattle.ownlist_rules.specs.OwnList.{entry_limit, longest}
use Rattle.command_rules.specs.Messages.{until_feed, fault, fault_at, meaning, lines_meaning}

-- ==== what is wrong with an entry

module _ (count : ℕ) (xs : List ℕ) where
  pub fault-count : entry_limit ≤ count → fault count xs ≡ bytes "it is the 65th"
  unfolding fault
  fault-count h = rw (fault, le-leb entry_limit count h)

  module _ (h : count < entry_limit) where
    pub fault-long : longest < until_feed xs → fault count xs ≡ bytes "it has more than 255 bytes"
    unfolding fault
    fault-long i = rw (fault, lt-leb entry_limit count h, lt-leb (until_feed xs) longest i)

    module _ (i : until_feed xs ≤ longest) where
      pub fault-open : length xs ≤ until_feed xs → fault count xs ≡ bytes "it does not end with LF"
      unfolding fault
      fault-open j = rw (fault, lt-leb entry_limit count h, le-leb (until_feed xs) longest i, le-leb (length xs) (until_feed xs) j)

      module _ (j : until_feed xs < length xs) where
        pub fault-empty : until_feed xs ≡ 0 → fault count xs ≡ bytes "it is empty"
        unfolding fault
        fault-empty k = rw (fault, lt-leb entry_limit count h, le-leb (until_feed xs) longest i, lt-leb (length xs) (until_feed xs) j, eq-eqb (until_feed xs) 0 k)

        pub fault-byte : (until_feed xs ≡ 0 → ⊥) → fault count xs ≡ bytes "it has a byte that may not stand there"
        unfolding fault
        fault-byte k = rw (fault, lt-leb entry_limit count h, le-leb (until_feed xs) longest i, lt-leb (length xs) (until_feed xs) j, ne_eqb (until_feed xs) 0 k)

-- ==== what a number means

module _ (n place : ℕ) (list : List ℕ) where
  pub meaning-one : n ≡ 1 → meaning n place list ≡ bytes "the block has more than 65,536 bytes"
  unfolding meaning
  meaning-one a = rw (meaning, eq-eqb n 1 a)

  module _ (a : n ≡ 1 → ⊥) where
    pub meaning-two : n ≡ 2 → meaning n place list ≡ bytes "a CR without LF, an LF without CR, or a last line without CRLF"
    unfolding meaning
    meaning-two b = rw (meaning, ne_eqb n 1 a, eq-eqb n 2 b)

    module _ (b : n ≡ 2 → ⊥) where
      pub meaning-three : n ≡ 3 → meaning n place list ≡ bytes "an empty line, a first line that starts with space or tab, or a field without name or colon"
      unfolding meaning
      meaning-three c = rw (meaning, ne_eqb n 1 a, ne_eqb n 2 b, eq-eqb n 3 c)

      module _ (c : n ≡ 3 → ⊥) where
        pub meaning-four : n ≡ 4 → meaning n place list ≡ bytes "a 513th field"
        unfolding meaning
        meaning-four d = rw (meaning, ne_eqb n 1 a, ne_eqb n 2 b, ne_eqb n 3 c, eq-eqb n 4 d)

        module _ (d : n ≡ 4 → ⊥) where
          pub meaning-five : n ≡ 5 → meaning n place list ≡ bytes "a bad entry of the list: " ++ fault_at list place
          unfolding meaning
          meaning-five e = rw (meaning, ne_eqb n 1 a, ne_eqb n 2 b, ne_eqb n 3 c, ne_eqb n 4 d, eq-eqb n 5 e)

          pub meaning-six : (n ≡ 5 → ⊥) → meaning n place list ≡ bytes "the output is too long"
          unfolding meaning
          meaning-six e = rw (meaning, ne_eqb n 1 a, ne_eqb n 2 b, ne_eqb n 3 c, ne_eqb n 4 d, ne_eqb n 5 e)

module _ (n : ℕ) where
  pub lines-eleven : n ≡ 11 → lines_meaning n ≡ bytes "no body has that report, at line "
  unfolding lines_meaning
  lines-eleven a = rw (lines_meaning, eq-eqb n 11 a)

  module _ (a : n ≡ 11 → ⊥) where
    pub lines-one : n ≡ 1 → lines_meaning n ≡ bytes "the body would have more than 65,536 bytes, at "
    unfolding lines_meaning
    lines-one b = rw (lines_meaning, ne_eqb n 11 a, eq-eqb n 1 b)

    pub lines-six : (n ≡ 1 → ⊥) → lines_meaning n ≡ bytes "the output is too long, at "
    unfolding lines_meaning
    lines-six b = rw (lines_meaning, ne_eqb n 11 a, ne_eqb n 1 b)
