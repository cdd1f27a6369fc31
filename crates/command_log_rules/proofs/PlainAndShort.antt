-- What holds of what is logged, of any block and any list: when it is empty, which bytes it has, and how long it is.
use Prim.Native.Nat.{ℕ, zero, suc, ◌+◌, ◌*◌, ◌≤◌, ◌<◌}
use native.Mathlib.Omega.{arith}
use native.Mathlib.Nat.{le_of_suc-le-suc}
use mathlib.Core.Path.{◌≡◌, refl}
use mathlib.Core.Bool.{Bool, true, false, cond}
use mathlib.Core.List.{List, [], ◌∷◌, ◌++◌}
use mathlib.Core.Logic.{◌⊎◌}
use lib.Dec.{T, eqb, ltb, lit≤}
use lib.ListN.{length, length-append, length-take, get_or, take}
use borrow.Author.Tests.{ltb-true}
use Rattle.base_sequences.proofs.Booleans.{and_left, and_right}
use Rattle.base_sequences.proofs.Tables.{tested, tested_at}
use Rattle.base_readers.specs.Texts.{bytes, within}
use Rattle.text_decimals_rules.specs.Decimals.{digits, decimal}
use Rattle.text_decimals_rules.proofs.DigitsTell.{decimal-length}
use Rattle.lexis_rules.specs.Bytes.{in_class}
use Rattle.block_rules.specs.Fields.{Field, fields, bytes_of, field_limit}
use Rattle.block_laws.proofs.Fields.{fields-fine}
use Rattle.ownlist_rules.specs.Calls.{Known}
use Rattle.ownlist_laws.proofs.AnswersInOrder.{Course, long, bad, cut, through, course}
use Rattle.strip_steps_rules.specs.Terms.{marks_for}
use Rattle.report_rules.specs.Report.{escape}
use Rattle.report_rules.specs.Report as report
use Rattle.write_rules.specs.Entries.{each}
use Rattle.write_rules.specs.Promise.{Bytes}
use Rattle.write_laws.proofs.Quotes.{each_append, each_left, each_right, each_take}
use Rattle.explain_rules.specs.Promise.{plain}
use Rattle.explain_rules.proofs.Texts.{T_true}
use Rattle.explain_rules.proofs.Terminal.{plain-when}
use Rattle.command_list_rules.proofs.Fits.{escape-long}
use Rattle.command_log_rules.specs.Log.{shown, goes_line, line_by, lines_by, nothing, log_of}

-- ==== when it is empty

log-course : (block list : List ℕ) → Course nothing block list (lines_by (marks_for block list) 0 (fields block).items) (log_of block list)
unfolding log_of
log-course block list = course nothing block list (λ own fs. lines_by (marks_for block list) 0 fs)

-- what holds of nothing and of those lines holds of the log
cases : (P : List ℕ → Type 0) (block list : List ℕ) → P [] → (Known block list → P (lines_by (marks_for block list) 0 (fields block).items)) → P (log_of block list)
cases P block list n f =
    elim (log-course block list) [
      | long l q ↦ rw q n
      | bad l o q ↦ rw q n
      | cut l o m e i j q ↦ rw q n
      | through k q ↦ rw q (f k)
    ]

-- the lines of the fields that go where nothing is refused
pub log-known : (block list : List ℕ) → Known block list → log_of block list ≡ lines_by (marks_for block list) 0 (fields block).items
log-known block list k =
    elim (log-course block list) [
      | long l q ↦ absurd (omega (arith, k.0))
      | bad l o q ↦ absurd (omega (arith, k.1.0))
      | cut l o m e i j q ↦ absurd (omega (arith, k.1.1))
      | through n q ↦ q
    ]

-- and else nothing: of a block of more than 65,536 bytes, by a bad list, and where the walk over the block is cut short
pub log-unknown : (block list : List ℕ) → (Known block list → ⊥) → log_of block list ≡ []
log-unknown block list n = cases (λ (l : List ℕ). l ≡ []) block list refl (λ k. absurd (n k))

-- ==== every byte is LF or one of 32 to 126

-- a byte, coded: all 256 computed
abbrev coded_plain : ℕ → Bool
coded_plain x = each plain (escape (x ∷ []))

coded-bytes : T (tested coded_plain 0 256)
unfolding plain within each escape report.plain in_class
coded-bytes = tt

escape-more : (x : ℕ) (xs : List ℕ) → escape (x ∷ xs) ≡ escape (x ∷ []) ++ escape xs
unfolding escape
escape-more x xs = go (report.plain x) refl
  where
    go : (b : Bool) → report.plain x ≡ b → escape (x ∷ xs) ≡ escape (x ∷ []) ++ escape xs
    go true e = rw (escape, e)
    go false e = rw (escape, e)

escape-plain : (t : List ℕ) → Bytes t → each plain (escape t) ≡ true
unfolding each escape
escape-plain [] b = refl
escape-plain (x ∷ xs) b =
    let h : x < 256 = ltb-true x 256 (and_left (ltb x 256) _ b) in
    rw (escape-more x xs)
    (each_append plain (escape (x ∷ [])) (escape xs) (T_true (coded_plain x) (tested_at coded_plain 256 x coded-bytes h)) (escape-plain xs (and_right (ltb x 256) _ b)))

-- a number up to that of the last field: all computed
abbrev digits_plain : ℕ → Bool
digits_plain n = each plain (decimal n)

number-bytes : T (tested digits_plain 0 513)
unfolding plain within each digits decimal
number-bytes = tt

goes-plain : (n : ℕ) (t : List ℕ) → n ≤ field_limit → Bytes t → each plain (goes_line n t) ≡ true
unfolding goes_line plain within each
goes-plain n t h b =
    let front = bytes "orbendash: goes: " in
    let text = escape (take shown t) in
    each_append plain front (decimal n ++ (bytes ": " ++ (text ++ bytes "\n"))) refl
    (each_append plain (decimal n) (bytes ": " ++ (text ++ bytes "\n")) (T_true (digits_plain n) (tested_at digits_plain 513 n number-bytes (omega arith)))
    (each_append plain (bytes ": ") (text ++ bytes "\n") refl (each_append plain text (bytes "\n") (escape-plain (take shown t) (each_take _ shown t b)) refl)))

line_plain : (mark n : ℕ) (t : List ℕ) → n ≤ field_limit → Bytes t → each plain (line_by mark n t) ≡ true
unfolding line_by each
line_plain mark n t h b = go (eqb mark 1)
  where
    go : (m : Bool) → each plain (cond m (goes_line n t) []) ≡ true
    go true = goes-plain n t h b
    go false = refl

lines-plain : (marks : List ℕ) (count : ℕ) (fs : List Field) → count + length fs ≤ field_limit → Bytes (bytes_of fs) → each plain (lines_by marks count fs) ≡ true
unfolding lines_by bytes_of each
lines-plain marks count [] h b = refl
lines-plain marks count (f ∷ fs) h b =
    each_append plain (line_by (get_or marks count 0) (suc count) f.bytes) (lines_by marks (suc count) fs)
    (line_plain (get_or marks count 0) (suc count) f.bytes (omega arith) (each_left _ f.bytes (bytes_of fs) b))
    (lines-plain marks (suc count) fs (omega arith) (each_right _ f.bytes (bytes_of fs) b))

each_below : (c : ℕ → Bool) (l : List ℕ) → each c l ≡ true → (k : ℕ) → k < length l → c (get_or l k 0) ≡ true
unfolding each
each_below c [] e k h = absurd (omega arith)
each_below c (x ∷ xs) e zero h = and_left (c x) _ e
each_below c (x ∷ xs) e (suc k) h = each_below c xs (and_right (c x) _ e) k (le_of_suc-le-suc h)

pub log-plain : (block list : List ℕ) → Bytes block → (k : ℕ) → k < length (log_of block list)
    → (get_or (log_of block list) k 0 ≡ 10) ⊎ ((32 ≤ get_or (log_of block list) k 0) × (get_or (log_of block list) k 0 ≤ 126))
unfolding each
log-plain block list b k h =
    let p : each plain (log_of block list) ≡ true = cases (λ (l : List ℕ). each plain l ≡ true) block list refl lines in
    plain-when (get_or (log_of block list) k 0) (each_below plain (log_of block list) p k h)
  where
    lines : Known block list → each plain (lines_by (marks_for block list) 0 (fields block).items) ≡ true
    lines n =
        let w = fields-fine block n.1.1 in
        lines-plain (marks_for block list) 0 (fields block).items w.few (rw w.bytes b)

-- ==== how long it is

goes-short : (n : ℕ) (t : List ℕ) → n ≤ field_limit → length (goes_line n t) ≤ 215
unfolding goes_line
goes-short n t h =
    let text = escape (take shown t) in
    let d : length (decimal n) ≤ 3 = decimal-length 2 n (omega arith) in
    omega (
      arith,
      length-append (bytes "orbendash: goes: ") (decimal n ++ (bytes ": " ++ (text ++ bytes "\n"))),
      length-append (decimal n) (bytes ": " ++ (text ++ bytes "\n")),
      length-append (bytes ": ") (text ++ bytes "\n"),
      length-append text (bytes "\n"),
      escape-long (take shown t),
      length-take shown t,
      d,
    )

line-short : (mark n : ℕ) (t : List ℕ) → n ≤ field_limit → length (line_by mark n t) ≤ 215
unfolding line_by
line-short mark n t h = go (eqb mark 1)
  where
    go : (m : Bool) → length (cond m (goes_line n t) []) ≤ 215
    go true = goes-short n t h
    go false = omega arith

lines-short : (marks : List ℕ) (count : ℕ) (fs : List Field) → count + length fs ≤ field_limit → length (lines_by marks count fs) ≤ 215 * length fs
unfolding lines_by
lines-short marks count [] h = omega arith
lines-short marks count (f ∷ fs) h =
    omega (
      arith,
      length-append (line_by (get_or marks count 0) (suc count) f.bytes) (lines_by marks (suc count) fs),
      line-short (get_or marks count 0) (suc count) f.bytes (omega arith),
      lines-short marks (suc count) fs (omega arith),
    )

-- 512 lines of 215 bytes at most
log-short : (block list : List ℕ) → length (log_of block list) ≤ 110080
log-short block list = cases (λ (l : List ℕ). length l ≤ 110080) block list (lit≤ tt) lines
  where
    lines : Known block list → length (lines_by (marks_for block list) 0 (fields block).items) ≤ 110080
    lines n =
        let w = fields-fine block n.1.1 in
        omega (arith, lines-short (marks_for block list) 0 (fields block).items w.few, w.few)

-- the buffer that the command has for it, `command_buffers::reports()`, has room for all of it
pub log-fits : (block list : List ℕ) → length (log_of block list) ≤ 229377
log-fits block list = omega (arith, log-short block list)
