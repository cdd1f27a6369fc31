-- How long the texts are: what is said of any list on standard error has at most 4,480 bytes, and what `check` says of a good one at most 201,024. A list
-- has at most 64 entries, and an entry as it is compared at most 1,020 bytes, each written with three at most.
use Rattle.std.specs.Prelude.{Option, None, Some}
use Prim.Native.Nat.{ℕ, zero, suc, ◌+◌, ◌*◌, ◌≤◌, ◌<◌}
use native.Mathlib.Omega.{arith}
use mathlib.Core.Path.{◌≡◌, refl}
use mathlib.Core.Bool.{Bool, true, false}
use mathlib.Core.List.{List, [], ◌∷◌, ◌++◌, map}
use lib.Dec.{lit≤}
use lib.ListN.{length, length-append, take, drop, length-map}
use Rattle.base_readers.specs.Texts.{bytes}
use Rattle.base_readers.specs.Readers.{run}
use Rattle.base_readers.specs.Lines.{lined, lines_of}
use Rattle.text_decimals_rules.specs.Decimals.{decimal}
use Rattle.text_decimals_rules.proofs.DigitsTell.{decimal-length}
use Rattle.punycode_rules.specs.Labels.{spelling}
use Rattle.identifier_rules.specs.Identifier.{identifier_byte}
use Rattle.ownlist_rules.specs.OwnList.{own_list}
use Rattle.ownlist_laws.proofs.OwnListLaws.{list-few, good-few, list_length}
use Rattle.report_rules.specs.Report.{plain, escape}
use Rattle.command_list_rules.specs.declared.Notice.{Notice}
use Rattle.command_list_rules.specs.declared.Notice.TheVariants.{Mark, Hash, Unbare, Star}
use Rattle.command_list_rules.specs.declared.Said.TheVariants.{Compared, Noticed, Noted}
use Rattle.command_list_rules.specs.Notices.{notice_of, unbare, words, entry_front, noticed_line, notice_line, compared_line, note_label, line_of, lines_from, notices, notes, notes_of, check_text}

-- ==== parts of a line

pub escape-long : (t : List ℕ) → length (escape t) ≤ 3 * length t
unfolding escape
escape-long [] = omega arith
escape-long (x ∷ xs) = go (plain x) refl (escape-long xs)
  where
    go : (b : Bool) → plain x ≡ b → length (escape xs) ≤ 3 * length xs → length (escape (x ∷ xs)) ≤ 3 * length (x ∷ xs)
    go true e ih = rw (escape, e) (omega arith)
    go false e ih = rw (escape, e) (omega arith)

take-one : (l : List ℕ) → length (take 1 l) ≤ 1
take-one [] = omega arith
take-one (x ∷ xs) = omega arith

words-short : (k : Notice) (e : List ℕ) → length (words k e) ≤ 44
unfolding words
words-short Mark e = lit≤ tt
words-short Hash e = lit≤ tt
words-short Unbare e =
    omega (arith, length-append (bytes ": no bare identifier can have ") (escape (unbare e)), escape-long (unbare e), take-one (drop (run identifier_byte e) e))
words-short Star e = lit≤ tt

front-short : (n : ℕ) → n < 100 → length (entry_front n) ≤ 8
front-short n h =
    let d : length (decimal n) ≤ 2 = decimal-length 1 n (omega arith) in
    omega (arith, length-append (bytes "entry ") (decimal n))

notice-short : (label : List ℕ) (n : ℕ) (e : List ℕ) → n < 100 → length (notice_line label n e) ≤ length label + 53
unfolding noticed_line
notice-short label n e h = go (notice_of e)
  where
    go : (k : Option Notice) → length (noticed_line label n e k) ≤ length label + 53
    go None = omega arith
    go (Some k) =
        omega (
          arith,
          length-append label (entry_front n ++ (words k e ++ bytes "\n")),
          length-append (entry_front n) (words k e ++ bytes "\n"),
          length-append (words k e) (bytes "\n"),
          front-short n h,
          words-short k e,
        )

compared-short : (n : ℕ) (t : List ℕ) → n < 100 → length (compared_line n t) ≤ 25 + 3 * length t
unfolding compared_line
compared-short n t h =
    omega (
      arith,
      length-append (entry_front n) (bytes " is compared as " ++ (escape t ++ bytes "\n")),
      length-append (bytes " is compared as ") (escape t ++ bytes "\n"),
      length-append (escape t) (bytes "\n"),
      front-short n h,
      escape-long t,
    )

-- ==== lines

noted-short : (count : ℕ) (ts : List (List ℕ)) → count + length ts < 100 → length (lines_from Noted count ts) ≤ 70 * length ts
unfolding lines_from line_of
noted-short count [] h = omega arith
noted-short count (t ∷ ts) h =
    omega (arith, length-append (notice_line note_label (suc count) t) (lines_from Noted (suc count) ts), notice-short note_label (suc count) t (omega arith), noted-short (suc count) ts (omega arith))

noticed-short : (count : ℕ) (ts : List (List ℕ)) → count + length ts < 100 → length (lines_from Noticed count ts) ≤ 53 * length ts
unfolding lines_from line_of
noticed-short count [] h = omega arith
noticed-short count (t ∷ ts) h =
    omega (arith, length-append (notice_line [] (suc count) t) (lines_from Noticed (suc count) ts), notice-short [] (suc count) t (omega arith), noticed-short (suc count) ts (omega arith))

compared-all : (count : ℕ) (ts : List (List ℕ)) → count + length ts < 100 → length (lines_from Compared count ts) ≤ 25 * length ts + 3 * length (lined ts)
unfolding lines_from line_of lined
compared-all count [] h = omega arith
compared-all count (t ∷ ts) h =
    omega (
      arith,
      length-append (compared_line (suc count) t) (lines_from Compared (suc count) ts),
      length-append t (10 ∷ lined ts),
      compared-short (suc count) t (omega arith),
      compared-all (suc count) ts (omega arith),
    )

-- ==== a list

module _ (list : List ℕ) (z : (own_list list).number ≡ 0) where
  notes-short : length (notes list) ≤ 4480
  unfolding notes
  notes-short = go list (good-few list z)
    where
      go : (l : List ℕ) → length (lines_of l) ≤ 64 → length (notes l) ≤ 4480
      go [] h = lit≤ tt
      go (x ∷ xs) h = omega (arith, noted-short 0 (lines_of (x ∷ xs)) (omega arith))

  notices-short : length (notices list) ≤ 3392
  unfolding notices
  notices-short = go list (good-few list z)
    where
      go : (l : List ℕ) → length (lines_of l) ≤ 64 → length (notices l) ≤ 3392
      go [] h = lit≤ tt
      go (x ∷ xs) h = omega (arith, noticed-short 0 (lines_of (x ∷ xs)) (omega arith))

  -- what `check` says of a good list
  pub check-fits : length (check_text list) ≤ 201024
  unfolding check_text
  check-fits =
      let es = map spelling (own_list list).items in
      let few : length es ≤ 64 = omega (arith, length-map (own_list list).items spelling, list-few list) in
      omega (arith, length-append (lines_from Compared 0 es) (notices list), compared-all 0 es (omega arith), list_length list, notices-short)

-- what is said of any list on standard error
pub notes-fit : (list : List ℕ) → length (notes_of list) ≤ 4480
unfolding notes_of
notes-fit list = go (own_list list).number refl
  where
    go : (n : ℕ) → (own_list list).number ≡ n → length (notes_of list) ≤ 4480
    go zero e = rw (notes_of, e) (notes-short list e)
    go (suc n) e = rw (notes_of, e) (lit≤ tt)
