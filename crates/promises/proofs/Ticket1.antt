-- 02, ticket [1], "Write our own field": what is promised of the written field. When it is refused is in Demand1.
use Prim.Native.Char.{code}
use Prim.Native.Nat.{ℕ, suc, ◌+◌, ◌≤◌}
use native.Mathlib.Omega.{arith}
use mathlib.Core.Path.{◌≡◌, refl}
use mathlib.Core.Bool.{true}
use mathlib.Core.List.{List, ◌∷◌, ◌++◌}
use lib.Dec.{lit≤}
use lib.ListN.{length, take, drop}
use lib.Seq.{take-append_seam}
use Rattle.base_readers.specs.Texts.{bytes, follows}
use Rattle.base_readers.specs.Parsers.{got}
use Rattle.base_readers.proofs.Sequencing.{no-got}
use Rattle.lexis_rules.specs.declared.Class.TheVariants.{Delimiter}
use Rattle.lexis_rules.specs.Bytes.{in_class}
use Rattle.identifier_rules.specs.Identifier.{identifier}
use Rattle.result_rules.specs.Results.{Mailbox, domain, property_value, reason}
use Rattle.report_rules.specs.Report.{report}
use Rattle.write_rules.specs.Entries.{identified, reasoned, whole}
use Rattle.write_rules.specs.Bodies.{quote, pvalue, piece}
use Rattle.write_rules.specs.Compose.{compose}
use Rattle.write_rules.specs.Promise.{Reports, HasBody, Placed, body_for}
use Rattle.write_rules.proofs.Unfolding as compose
use Rattle.write_laws.proofs.BareTexts as bare
use Rattle.write_laws.proofs.BareMailboxes as mailboxes
use Rattle.write_laws.proofs.WriteTheorems as written
use Rattle.promises.specs.Exactly.{Exactly}
use Rattle.promises.specs.Calls.{reports, writes}

-- ==== Identifier, reason and a mailbox's local part .. bare where the grammar lets that text stand bare and as a quoted string otherwise

-- a text stands bare exactly where, written bare, it reads back as itself in its place, from just its own bytes: whatever follows that may
-- follow a value, the end or one of space, tab, CR, "(" or ";"
module _ (t x : List ℕ) (d : follows (in_class Delimiter) x ≡ true) where
  pub identifier-bare : Exactly (piece (identified t) ≡ code " " ∷ t) (identifier (code " " ∷ (t ++ x)) ≡ got t (suc (length t)))
  identifier-bare = (bare.identifier-bare-when t x d, bare.identifier-when-bare t x)

  pub identifier-quoted : (identifier (code " " ∷ (t ++ x)) ≡ got t (suc (length t)) → ⊥) → piece (identified t) ≡ code " " ∷ quote t
  identifier-quoted = bare.identifier-quoted t x d

  pub reason-bare : Exactly (piece (reasoned t) ≡ bytes " reason=" ++ t) (reason (bytes " reason=" ++ (t ++ x)) ≡ got t (8 + length t))
  reason-bare = (bare.reason-bare-when t x d, bare.reason-when-bare t x)

  pub reason-quoted : (reason (bytes " reason=" ++ (t ++ x)) ≡ got t (8 + length t) → ⊥) → piece (reasoned t) ≡ bytes " reason=" ++ quote t
  reason-quoted = bare.reason-quoted t x d

module _ (l d x : List ℕ) (h : whole domain d ≡ true) (f : follows (in_class Delimiter) x ≡ true) where
  pub mailbox-bare : Exactly (pvalue (record { kind = Mailbox; text = l ++ (code "@" ∷ d) }) ≡ l ++ (code "@" ∷ d))
      (property_value ((l ++ (code "@" ∷ d)) ++ x) ≡ got (record { kind = Mailbox; text = l ++ (code "@" ∷ d) }) (length (l ++ (code "@" ∷ d))))
  mailbox-bare = (mailboxes.mailbox-bare-when l d x h f, mailboxes.mailbox-when-bare l d x h)

  pub mailbox-quoted :
      (property_value ((l ++ (code "@" ∷ d)) ++ x) ≡ got (record { kind = Mailbox; text = l ++ (code "@" ∷ d) }) (length (l ++ (code "@" ∷ d))) → ⊥)
      → pvalue (record { kind = Mailbox; text = l ++ (code "@" ∷ d) }) ≡ quote l ++ (code "@" ∷ d)
  mailbox-quoted = mailboxes.mailbox-quoted l d x h f

-- what is read from fewer bytes isn't read from more
other-size : {A : Type 0} {a b : A} {m n : ℕ} → (m ≡ n → ⊥) → got a m ≡ got b n → ⊥
other-size h e = h cc

-- mx.example stands bare, and a b does not: of it only a would be read
bare-example : piece (identified (bytes "mx.example")) ≡ bytes " mx.example"
unfolding compose.opened
bare-example = (identifier-bare (bytes "mx.example") (bytes "; none") refl).1 refl

quoted-example : piece (identified (bytes "a b")) ≡ bytes " \"a b\""
unfolding compose.opened
quoted-example = identifier-quoted (bytes "a b") (bytes "; none") refl (λ e. other-size {a = bytes "a"} {b = bytes "a b"} {m = 2} {n = 4} (λ z. omega (arith, z)) e)

-- so with a reason
reason-example : piece (reasoned (bytes "good")) ≡ bytes " reason=good"
unfolding compose.opened
reason-example = (reason-bare (bytes "good") (bytes "; spf=pass") refl).1 refl

quoted-reason-example : piece (reasoned (bytes "a b")) ≡ bytes " reason=\"a b\""
unfolding compose.opened
quoted-reason-example = reason-quoted (bytes "a b") (bytes " ") refl (λ e. other-size {a = bytes "a"} {b = bytes "a b"} {m = 9} {n = 11} (λ z. omega (arith, z)) e)

-- and with a local part: one with two dots in a row would not be read at all
mailbox-example : pvalue (record { kind = Mailbox; text = bytes "joe@example.net" }) ≡ bytes "joe@example.net"
unfolding compose.opened
mailbox-example = (mailbox-bare (bytes "joe") (bytes "example.net") (bytes ";") refl refl).1 refl

quoted-mailbox-example : pvalue (record { kind = Mailbox; text = bytes "a..b@example.net" }) ≡ bytes "\"a..b\"@example.net"
unfolding compose.opened
quoted-mailbox-example = mailbox-quoted (bytes "a..b") (bytes "example.net") (bytes ";") refl refl (λ e. no-got e)

-- ==== For every list of lines it accepts, reading the written body gives the same lines back with an ignored count of zero

pub round_trip : (lines : List ℕ) (room : ℕ) → (compose lines room).number ≡ 0 → (r : ℕ) → length lines ≤ r
    → report (compose lines room).written r ≡ record { number = 0; place = 0; ignored = 0; written = lines }
round_trip = written.round_trip

-- the same of the two calls: the bytes that a writer left, handed to a reader with room for the lines
pub calls-round-trip : (lines old old' : List ℕ) → (writes lines old).answer.number ≡ 0 → length lines ≤ length old'
    → reports (take (writes lines old).answer.written (writes lines old).left) old'
    ≡ record { answer = record { number = 0; place = 0; written = length lines; ignored = 0 }; left = lines ++ drop (length lines) old' }
calls-round-trip lines old old' z r =
    let b = (compose lines (length old)).written in
    let t : take (length b) (b ++ drop (length b) old) ≡ b = take-append_seam b (drop (length b) old) in
    rw (t, round_trip lines (length old) z (length old') r)

round-trip-example :
    report (bytes " mx.example; spf=pass reason=\"a \\\"good\\\" host\" smtp.mailfrom=joe@example.net") 100
    ≡ record {
      number = 0;
      place = 0;
      ignored = 0;
      written = bytes "id\tmx.example\nm\tspf\tpass\nr\ta%20\"good\"%20host\np\tsmtp\tmailfrom\tm\tjoe@example.net\n";
    }
unfolding compose.opened
round-trip-example =
    round_trip (bytes "id\tmx.example\nm\tspf\tpass\nr\ta%20\"good\"%20host\np\tsmtp\tmailfrom\tm\tjoe@example.net\n") 100 refl 100 (lit≤ tt)

-- the same of every body that would be written, however long it is and however little room there is
pub body-reports : (lines : List ℕ) → HasBody lines → Reports (body_for lines) lines
body-reports = written.body-reports

-- ==== Its place is the first line, from 1, up to which the lines can begin no such report .., or .. one more than their count

-- there is only one place that this rule allows; that it is the one answered is `write-place-11` in Demand1
pub placed-once : (lines : List ℕ) (p q : ℕ) → Placed lines p → Placed lines q → p ≡ q
placed-once = written.placed-once
