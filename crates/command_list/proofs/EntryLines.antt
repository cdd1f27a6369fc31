-- What is noticed of an entry as the code finds it, and the parts of its line stored one after another. The premises are literally what a need is handed.
use Rattle.std.specs.Prelude.{Option, None, Some}
use Prim.Native.Nat.{ℕ, ◌+◌, ◌-◌, ◌≤◌, ◌<◌, ◌^◌}
use native.Mathlib.Omega.{arith}
use mathlib.Core.Path.{◌≡◌, refl}
use mathlib.Core.Bool.{Bool, true, false, ◌&&◌}
use mathlib.Core.List.{List, [], ◌++◌}
use lib.Dec.{eqb}
use lib.ListN.{length, get_or, take, drop, drop_of_length-le}
use borrow.Author.Tests.{lt-ltb, le-ltb}
use Rattle.base_sequences.specs.Stored.{Clipped}
use Rattle.base_sequences.proofs.Clips.{clipped-long, clipped-then}
use Rattle.base_readers.specs.Texts.{bytes}
use Rattle.base_readers.specs.Readers.{run}
use Rattle.text_decimals_rules.specs.Decimals.{decimal}
use Rattle.identifier_rules.specs.Identifier.{identifier_byte}
use Rattle.report_rules.specs.Report.{escape}
use Rattle.explain_columns.specs.Until.{except}
use Rattle.command_list_rules.specs.declared.Notice.{Notice}
use Rattle.command_list_rules.specs.declared.Notice.TheVariants.{Mark, Hash, Unbare, Star}
use Rattle.command_list_rules.specs.declared.Said.{Said}
use Rattle.command_list_rules.specs.declared.Said.TheVariants.{Compared, Noticed, Noted}
use Rattle.command_list_rules.specs.Notices.{marked, starless, leaves, notice_of, unbare, words, entry_front, noticed_line, notice_line, compared_line, note_label, line_of}

-- nothing is stored
pub nothing_put : (old : List ℕ) (to : ℕ) → to < 2 ^ 64 → Clipped old to [] old to
nothing_put old to h = record { place = omega arith; bytes = refl }

-- ==== what is noticed

pub marked-is : (e : List ℕ) (a b c : Bool) → a ≡ eqb (get_or (drop 0 e) 0 0) 239 → b ≡ eqb (get_or (drop 0 e) 1 0) 187 → c ≡ eqb (get_or (drop 0 e) 2 0) 191
    → (a && (b && c)) ≡ marked e
unfolding marked
marked-is e a b c p q r = rw (p, q, r)

-- a byte of the entry is not of a class, where the run of the class ends inside
module _ (c : ℕ → Bool) (e : List ℕ) (i : ℕ) (q : i ≡ 0 + run c (drop 0 e)) where
  leaves-not : length e ≤ i → leaves c e ≡ false
  leaves-not h = le-ltb (run c e) (length e) (omega arith)

  leaves-so : i < length e → leaves c e ≡ true
  leaves-so h = lt-ltb (run c e) (length e) (omega arith)

module _ (e : List ℕ) (a : Bool) (p : a ≡ marked e) where
  pub notice-mark : a ≡ true → Some Mark ≡ notice_of e
  unfolding notice_of
  notice-mark t = rw (← p, t)

  module _ (t : a ≡ false) (b : Bool) (q : b ≡ eqb (get_or (drop 0 e) 0 0) 35) where
    pub notice-hash : b ≡ true → Some Hash ≡ notice_of e
    unfolding notice_of
    notice-hash u = rw (← p, t, ← q, u)

    module _ (u : b ≡ false) (i : ℕ) (r : i ≡ 0 + run identifier_byte (drop 0 e)) where
      pub notice-unbare : i < length e → Some Unbare ≡ notice_of e
      unfolding notice_of
      notice-unbare h = rw (← p, t, ← q, u, leaves-so identifier_byte e i r h)

      module _ (h : length e ≤ i) (j : ℕ) (s : j ≡ 0 + run (except 42) (drop 0 e)) where
        starless-at : j ≡ 0 + run starless (drop 0 e)
        unfolding starless
        starless-at = s

        pub notice-star : j < length e → Some Star ≡ notice_of e
        unfolding notice_of
        notice-star k = rw (← p, t, ← q, u, leaves-not identifier_byte e i r h, leaves-so starless e j starless-at k)

        pub notice-none : length e ≤ j → None ≡ notice_of e
        unfolding notice_of
        notice-none k = rw (← p, t, ← q, u, leaves-not identifier_byte e i r h, leaves-not starless e j starless-at k)

-- ==== the byte that is named

module _ (e old : List ℕ) (to : ℕ) (l : length old < 2 ^ 64) (i : ℕ) (q : i ≡ 0 + run identifier_byte (drop 0 e)) (o : List ℕ) (a : ℕ)
    (v : Clipped old to (bytes ": no bare identifier can have ") o a) where
  is-run : i ≡ run identifier_byte e
  is-run = omega arith

  pub unbare-put : (new : List ℕ) (r : ℕ) → Clipped o a (escape (take ((i + 1) - i) (drop i e))) new r → Clipped old to (bytes ": no bare identifier can have " ++ escape (unbare e)) new r
  unbare-put new r w =
      let z : (i + 1) - i ≡ 1 = omega arith in
      let w' : Clipped o a (escape (take 1 (drop i e))) new r = rw z at w in
      clipped-then (omega arith) v (rw is-run at w')

  pub unbare-none : length e ≤ i → Clipped old to (bytes ": no bare identifier can have " ++ escape (unbare e)) o a
  unfolding escape
  unbare-none h =
      let h' : length e ≤ run identifier_byte e = omega (arith, is-run) in
      let z : drop (run identifier_byte e) e ≡ [] = drop_of_length-le e h' in
      clipped-then (omega arith) v (rw z (record { place = omega (arith, v.place); bytes = refl }))

-- ==== the words of a notice

module _ (k : Notice) (e old : List ℕ) (to : ℕ) (new : List ℕ) (r : ℕ) where
  pub mark-words : k ≡ Mark → Clipped old to (bytes " begins with a byte order mark") new r → Clipped old to (words k e) new r
  unfolding words
  mark-words q v = rw q v

  pub hash-words : k ≡ Hash → Clipped old to (bytes " begins with #, which begins no comment here") new r → Clipped old to (words k e) new r
  unfolding words
  hash-words q v = rw q v

  pub unbare-words : k ≡ Unbare → Clipped old to (bytes ": no bare identifier can have " ++ escape (unbare e)) new r → Clipped old to (words k e) new r
  unfolding words
  unbare-words q v = rw q v

  pub star-words : k ≡ Star → Clipped old to (bytes ": * stands for itself, not for other names") new r → Clipped old to (words k e) new r
  unfolding words
  star-words q v = rw q v

-- ==== lines

pub front-put : (n : ℕ) (old : List ℕ) (to : ℕ) → length old < 2 ^ 64 → (o : List ℕ) (a : ℕ) → Clipped old to (bytes "entry ") o a → (new : List ℕ) (r : ℕ)
    → Clipped o a (decimal n) new r → Clipped old to (entry_front n) new r
front-put n old to l o a v new r w = clipped-then (omega arith) v w

pub compared-put : (n : ℕ) (t old : List ℕ) (to : ℕ) → length old < 2 ^ 64 → (o₁ : List ℕ) (a : ℕ) → Clipped old to (entry_front n) o₁ a → (o₂ : List ℕ) (b : ℕ)
    → Clipped o₁ a (bytes " is compared as ") o₂ b → (o₃ : List ℕ) (c : ℕ) → Clipped o₂ b (escape t) o₃ c → (new : List ℕ) (r : ℕ) → Clipped o₃ c (bytes "\n") new r
    → Clipped old to (compared_line n t) new r
unfolding compared_line
compared-put n t old to l o₁ a u o₂ b v o₃ c w new r x =
    clipped-then (omega arith) u (clipped-then (omega (arith, clipped-long u)) v (clipped-then (omega (arith, clipped-long u, clipped-long v)) w x))

module _ (label : List ℕ) (n : ℕ) (e : List ℕ) (o : Option Notice) (p : o ≡ notice_of e) (old : List ℕ) (to : ℕ) where
  pub notice-none-put : o ≡ None → to < 2 ^ 64 → Clipped old to (notice_line label n e) old to
  unfolding noticed_line
  notice-none-put t h = rw (← p, t) (nothing_put old to h)

  pub notice-put : (k : Notice) → o ≡ Some k → length old < 2 ^ 64 → (o₁ : List ℕ) (a : ℕ) → Clipped old to label o₁ a → (o₂ : List ℕ) (b : ℕ) → Clipped o₁ a (entry_front n) o₂ b
      → (o₃ : List ℕ) (c : ℕ) → Clipped o₂ b (words k e) o₃ c → (new : List ℕ) (r : ℕ) → Clipped o₃ c (bytes "\n") new r → Clipped old to (notice_line label n e) new r
  unfolding noticed_line
  notice-put k t l o₁ a u o₂ b v o₃ c w new r x =
      rw (← p, t)
      (clipped-then (omega arith) u (clipped-then (omega (arith, clipped-long u)) v (clipped-then (omega (arith, clipped-long u, clipped-long v)) w x)))

module _ (k : Said) (n : ℕ) (t old : List ℕ) (to : ℕ) (new : List ℕ) (r : ℕ) where
  pub line-compared : k ≡ Compared → Clipped old to (compared_line n t) new r → Clipped old to (line_of k n t) new r
  unfolding line_of
  line-compared q v = rw q v

  pub line-noticed : k ≡ Noticed → Clipped old to (notice_line [] n t) new r → Clipped old to (line_of k n t) new r
  unfolding line_of
  line-noticed q v = rw q v

  pub line-noted : k ≡ Noted → Clipped old to (notice_line note_label n t) new r → Clipped old to (line_of k n t) new r
  unfolding line_of
  line-noted q v = rw q v
