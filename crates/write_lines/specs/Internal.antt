-- What is said of a line as its piece of the body, for this crate and the one that writes all lines: no other contract cites these.
use Prim.Native.Char.{code}
use Rattle.std.specs.Prelude.{ℕ, ◌+◌, ◌≤◌, ◌<◌, min, ◌≡◌, List, ◌∷◌, ◌++◌, length, Option, Some, None}
use Rattle.std.proofs.lemmas.List.Edits.{sets}
use Rattle.base_sequences.specs.Stored.{cap, Clipped}
use Rattle.base_readers.specs.Parsers.{Got, nothing, got, Parser}
use Rattle.base_readers.specs.Places.{from}
use Rattle.write_rules.specs.Entries.{Entry}
use Rattle.write_rules.specs.Bodies.{piece}
use Rattle.write_texts.specs.Values.{written_value}
use Rattle.write_lines.specs.declared.Piece.{Piece}

-- ==== a line

-- the place after the line, and the place after what it adds to the body
abbrev pub piece_at : ℕ → Got Entry → Option Piece
piece_at to nothing = None
piece_at to (got e n) = Some (record { end = n; next = min (to + length (piece e)) cap })

-- what is left in the buffer
abbrev pub bytes_at : List ℕ → ℕ → Got Entry → List ℕ
bytes_at old to nothing = old
bytes_at old to (got e n) = sets old to (piece e)

-- ==== private functions

-- what a property adds to the body, from its columns: ptype, property, kind letter and text
unfoldable pub written_shown : List ℕ → List ℕ → ℕ → List ℕ → List ℕ
written_shown t p k v = code " " ∷ (t ++ (code "." ∷ (p ++ (code "=" ∷ written_value k v))))

-- what a parser reads at a place is stored, or it reads nothing and nothing is stored
pub data PiecePut (p : Parser Entry) (s : List ℕ) (at : ℕ) (old : List ℕ) (to : ℕ) (new : List ℕ) (r : Option Piece) : Type 0 where
  stood : (e : Entry) (x : Piece) → r ≡ Some x → got e x.end ≡ from p s at → at < x.end → x.end ≤ length s → Clipped old to (piece e) new x.next → PiecePut p s at old to new r
  missing : nothing ≡ from p s at → r ≡ None → new ≡ old → PiecePut p s at old to new r
