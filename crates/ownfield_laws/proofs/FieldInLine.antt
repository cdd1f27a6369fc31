-- A body with neither CR nor LF, with the name Authentication-Results in front and CRLF behind, is one field of that name, which stands by
-- itself and has that body.
use Prim.Native.Nat.{ℕ, suc, ◌+◌, ◌-◌, ◌<◌}
use native.Mathlib.Omega.{arith}
use native.Mathlib.Nat.{add-zero, le_refl}
use mathlib.Core.Path.{◌≡◌, refl, sym, ◌∙◌}
use mathlib.Core.Bool.{true}
use mathlib.Core.List.{List, [], ◌∷◌, ◌++◌, append-nil}
use lib.ListN.{length, get_or, length-append, get_or-eq_default}
use lib.Seq.{take-append_seam, take-length, drop-length, get_or-append_seam, get_or-append-add}
use lib.Dec.{lit<, lit≤}
use borrow.Author.Tests.{lt-leb}
use Rattle.base_readers.specs.Texts.{bytes, one_of}
use Rattle.base_readers.specs.Readers.{many}
use Rattle.base_readers.specs.Walks.{item}
use Rattle.lexis_rules.specs.declared.Class.TheVariants as class
use Rattle.lexis_rules.specs.Bytes.{alike}
use Rattle.lexis_laws.proofs.Bytes.{class-zero}
use Rattle.block_rules.specs.Fields.{Field, bytes_of, in_line, line_text, line, name, name_colon, extent, field_limit, field_at, fields, name_of, body_of}
use Rattle.block_rules.specs.Sound.{Sound, none, more}
use Rattle.block_rules.proofs.Examples as block
use Rattle.block_laws.proofs.Lines.{field_is, closed_is}
use Rattle.block_laws.proofs.Field.{field-sound}
use Rattle.block_laws.proofs.Fields.{walk-back}
use Rattle.write_rules.specs.Entries.{each}
use Rattle.write_laws.proofs.Quotes.{each_append}
use Rattle.write_laws.proofs.Values.{run-takes}
use Rattle.ownfield_rules.specs.OwnField.{field_with, as_field}

-- a line: a text with neither CR nor LF, and CRLF
module _ (w : List ℕ) (clean : each in_line w ≡ true) where
  text-is : line_text (w ++ bytes "\r\n") ≡ length w
  unfolding block.opened
  text-is = run-takes in_line w clean (bytes "\r\n") refl

  long-is : length (w ++ bytes "\r\n") ≡ length w + 2
  long-is = length-append w (bytes "\r\n")

  line-is : line (w ++ bytes "\r\n") ≡ length (w ++ bytes "\r\n")
  unfolding line
  line-is = rw (line, text-is, get_or-append_seam w 13 (10 ∷ []) 0, get_or-append-add w (bytes "\r\n") 1 0) (sym long-is)

  extent-is : extent (w ++ bytes "\r\n") ≡ length (w ++ bytes "\r\n")
  unfolding extent many
  extent-is = rw (extent, line-is, drop-length (w ++ bytes "\r\n")) (add-zero (length (w ++ bytes "\r\n")))

  module _ (b : ℕ) (label : name_colon (w ++ bytes "\r\n") ≡ suc b) where
    field-at : (at count : ℕ) → count < field_limit
        → field_at at count (w ++ bytes "\r\n")
        ≡ item (record { bytes = w ++ bytes "\r\n"; name = name (w ++ bytes "\r\n"); body = name_colon (w ++ bytes "\r\n") }) (length (w ++ bytes "\r\n"))
    field-at at count h =
        let l : line (w ++ bytes "\r\n") ≡ suc (length w + 1) = line-is ∙ omega (arith, long-is) in
        let g : get_or (w ++ bytes "\r\n") (length (w ++ bytes "\r\n")) 0 ≡ 0 = get_or-eq_default (w ++ bytes "\r\n") 0 (le_refl _) in
        field_is at count (w ++ bytes "\r\n") (length w + 1) l b label (lt-leb field_limit count h)
        ∙ rw extent-is
        (closed_is at (w ++ bytes "\r\n") (length (w ++ bytes "\r\n")) (rw g (class-zero class.Blank)) ∙ rw (take-length (w ++ bytes "\r\n")))

pub field-length : (body : List ℕ) → length (field_with body) ≡ length body + 25
field-length body = omega (arith, length-append body (bytes "\r\n"))

named-clean : (body : List ℕ) → each in_line body ≡ true → each in_line (bytes "Authentication-Results:" ++ body) ≡ true
named-clean body clean = each_append in_line (bytes "Authentication-Results:") body (unfold each in_line one_of in refl) clean

name-is : (body : List ℕ) → name (field_with body) ≡ 22
unfolding block.opened
name-is body = refl

label_is : (body : List ℕ) → name_colon (field_with body) ≡ 23
unfolding block.opened
label_is body = refl

field-alone : (body : List ℕ) → each in_line body ≡ true → field_at 0 0 (field_with body) ≡ item (as_field body) (length (field_with body))
field-alone body clean =
    field-at (bytes "Authentication-Results:" ++ body) (named-clean body clean) 22 (label_is body) 0 0 (lit< tt)
    ∙ rw (name-is body, label_is body)

-- it stands by itself
pub field-stands : (body : List ℕ) → each in_line body ≡ true → Sound (as_field body)
field-stands body clean = field-sound 0 0 (field_with body) (as_field body) (length (field_with body)) (field-alone body clean)

pub one_field : (body : List ℕ) → each in_line body ≡ true → fields (field_with body) ≡ record { items = as_field body ∷ []; number = 0; place = 0 }
unfolding bytes_of
one_field body clean = rw (append-nil (field_with body)) at (walk-back 0 0 (more (field-stands body clean) none) (lit≤ tt))

pub body_is : (body : List ℕ) → body_of (as_field body) ≡ body
body_is body =
    let l : length (field_with body) - 2 - 23 ≡ length body = omega (arith, field-length body) in
    rw l (take-append_seam body (bytes "\r\n"))

pub name-alike : (body : List ℕ) → alike (name_of (as_field body)) (bytes "Authentication-Results") ≡ true
unfolding block.opened
name-alike body = refl
