-- The lines of a list, stored one after another, and what is said of a whole list. The premises are literally what a need is handed.
use Prim.Native.Nat.{ℕ, ◌+◌, ◌≤◌, ◌<◌, ◌^◌}
use native.Mathlib.Numerals.{add-one}
use native.Mathlib.Omega.{arith}
use mathlib.Core.Path.{◌≡◌, refl, sym, ap, ◌∙◌}
use mathlib.Core.List.{List, [], ◌∷◌, ◌++◌}
use lib.ListN.{length}
use Rattle.base_sequences.specs.Stored.{Clipped}
use Rattle.base_sequences.proofs.Clips.{clipped-then, Going, going_start, going_step, going_done}
use Rattle.base_readers.specs.Lines.{lines_of}
use Rattle.ownlist_rules.specs.OwnList.{own_list}
use Rattle.ownlist_check.specs.declared.Checked.{Checked}
use Rattle.ownlist_check.specs.declared.Checked.TheVariants.{Good, Bad}
use Rattle.ownlist_check.specs.Steps.{checked_of, number_of}
use Rattle.ownlist_check.proofs.ListAnswers.{check-number}
use Rattle.command_list_rules.specs.declared.Said.{Said}
use Rattle.command_list_rules.specs.declared.Said.TheVariants.{Compared, Noticed, Noted}
use Rattle.command_list_rules.specs.Notices.{line_of, lines_from, note_label, empty_line, notices, notes, notes_of}

-- ==== lines

-- at each turn: what is left to be written, and a line has a byte at least
pub record Lines (k : Said) (s old : List ℕ) (to : ℕ) (out : List ℕ) (n : ℕ) (rest : List ℕ) (count : ℕ) : Type 0 where
  pub left : Going old to (lines_from k 0 (lines_of s)) out n (lines_from k count (lines_of rest))
  pub few : count + length rest ≤ length s

pub lines_start : (k : Said) (s old : List ℕ) (to : ℕ) → to < 2 ^ 64 → Lines k s old to old to s 0
lines_start k s old to h = record { left = going_start old to (lines_from k 0 (lines_of s)) (omega arith); few = omega arith }

module _ (k : Said) (s old out : List ℕ) (to n : ℕ) (rest : List ℕ) (count : ℕ) (g : Lines k s old to out n rest count) where
  pub lines_more : length old < 2 ^ 64 → (line behind : List ℕ) → lines_of rest ≡ line ∷ lines_of behind → length behind < length rest
      → (o : List ℕ) (a : ℕ) → Clipped out n (line_of k (count + 1) line) o a → Lines k s old to o a behind (count + 1)
  unfolding lines_from
  lines_more l line behind e h o a v =
      let t : lines_from k count (lines_of rest) ≡ line_of k (count + 1) line ++ lines_from k (count + 1) (lines_of behind) = rw (e, add-one count) in
      record { left = going_step (omega arith) g.left t v; few = omega (arith, g.few) }

  pub lines-done : lines_of rest ≡ [] → Clipped old to (lines_from k 0 (lines_of s)) out n
  unfolding lines_from
  lines-done h = going_done g.left (rw h)

-- ==== what is noticed of a list

module _ (list old : List ℕ) (to : ℕ) (new : List ℕ) (r : ℕ) where
  pub notices-none : length list ≡ 0 → Clipped old to empty_line new r → Clipped old to (notices list) new r
  unfolding notices
  notices-none h w = go list h
    where
      go : (l : List ℕ) → length l ≡ 0 → Clipped old to (notices l) new r
      go [] h = w
      go (x ∷ xs) h = absurd (omega arith)

  pub notices-put : (length list ≡ 0 → ⊥) → Clipped old to (lines_from Noticed 0 (lines_of list)) new r → Clipped old to (notices list) new r
  unfolding notices
  notices-put h w = go list h w
    where
      go : (l : List ℕ) → (length l ≡ 0 → ⊥) → Clipped old to (lines_from Noticed 0 (lines_of l)) new r → Clipped old to (notices l) new r
      go [] h w = absurd (h refl)
      go (x ∷ xs) h w = w

  pub notes-none : length list ≡ 0 → Clipped old to (note_label ++ empty_line) new r → Clipped old to (notes list) new r
  unfolding notes
  notes-none h w = go list h
    where
      go : (l : List ℕ) → length l ≡ 0 → Clipped old to (notes l) new r
      go [] h = w
      go (x ∷ xs) h = absurd (omega arith)

  pub notes-put : (length list ≡ 0 → ⊥) → Clipped old to (lines_from Noted 0 (lines_of list)) new r → Clipped old to (notes list) new r
  unfolding notes
  notes-put h w = go list h w
    where
      go : (l : List ℕ) → (length l ≡ 0 → ⊥) → Clipped old to (lines_from Noted 0 (lines_of l)) new r → Clipped old to (notes l) new r
      go [] h w = absurd (h refl)
      go (x ∷ xs) h w = w

-- a list is good or bad, as it was checked
module _ (list old : List ℕ) (to : ℕ) (d : Checked) (q : d ≡ checked_of (own_list list)) where
  pub notes-good : (new : List ℕ) (r : ℕ) → d ≡ Good → Clipped old to (notes list) new r → Clipped old to (notes_of list) new r
  unfolding notes_of
  notes-good new r e w = let z : (own_list list).number ≡ 0 = sym (check-number list) ∙ ap number_of (sym q ∙ e) in rw (notes_of, z) w

  pub notes-bad : (p : ℕ) → d ≡ Bad p → to < 2 ^ 64 → Clipped old to (notes_of list) old to
  unfolding notes_of
  notes-bad p e h = let z : (own_list list).number ≡ 5 = sym (check-number list) ∙ ap number_of (sym q ∙ e) in rw (notes_of, z) (record { place = omega arith; bytes = refl })

-- ==== what `check` says

pub check-put : (lines list old : List ℕ) (to : ℕ) → length old < 2 ^ 64 → (o : List ℕ) (a : ℕ) → Clipped old to (lines_from Compared 0 (lines_of lines)) o a → (new : List ℕ) (r : ℕ)
    → Clipped o a (notices list) new r → Clipped old to (lines_from Compared 0 (lines_of lines) ++ notices list) new r
check-put lines list old to l o a v new r w = clipped-then (omega arith) v w
