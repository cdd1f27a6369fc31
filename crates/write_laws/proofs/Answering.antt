-- The answer by its cases: written, too long, too little room, refused with a place. From the walk along the lines, and from the size of the
-- body.
use Prim.Native.Nat.{ℕ, suc, ◌+◌, ◌≤◌, ◌<◌, zero-le, suc-le-suc}
use native.Mathlib.Nat.{le_of_suc-le-suc}
use native.Mathlib.Omega.{arith}
use mathlib.Core.Path.{◌≡◌, refl, sym, ap, ◌∙◌, subst}
use mathlib.Core.Bool.{Bool, true, false}
use mathlib.Core.List.{List, ◌++◌, map}
use lib.Dec.{eqb, leb}
use lib.ListN.{length, take, length-append}
use borrow.Author.Tests.{leb-true, leb-false, eq-eqb}
use Rattle.base_sequences.proofs.Booleans.{both}
use Rattle.base_readers.specs.Walks.{Walked}
use Rattle.lexis_rules.specs.Limits.{byte_limit}
use Rattle.write_rules.specs.Entries.{Entry, line_of}
use Rattle.write_rules.specs.Bodies.{body_of}
use Rattle.write_rules.specs.Compose.{State, front, final, entries, Answer, refusal, sized, answer, compose}
use Rattle.write_rules.specs.Promise.{Bytes, Reports, HasBody, lines_with_feeds, Begins, Placed, body_for, TooLong, TooShort, Fits}
use Rattle.write_laws.proofs.Readback.{Each, joined}
use Rattle.write_laws.proofs.Lines.{Good}
use Rattle.write_laws.proofs.Runs.{Runs, Stuck, Walk, accepted, refused, walk, walked_as}
use Rattle.write_laws.proofs.Flat.{body-joined}
use Rattle.write_laws.proofs.Splits.{lines-joined}
use Rattle.write_laws.proofs.WrittenBodies.{body_bytes}
use Rattle.write_laws.proofs.Reporting.{written-reports, reported-told}
use Rattle.write_laws.proofs.Beginning.{map-length, told-lines, not-begun, begun, begins-less}

-- ==== the size of a body that is to be written

pub data Sized (room : ℕ) (body : List ℕ) : Type 0 where
  fits : length body ≤ byte_limit → length body ≤ room → sized room body ≡ record { number = 0; place = 0; written = body } → Sized room body
  long : byte_limit < length body → sized room body ≡ refusal 1 0 → Sized room body
  short : length body ≤ byte_limit → room < length body → sized room body ≡ refusal 6 (length body) → Sized room body

pub sized-cases : (room : ℕ) (body : List ℕ) → Sized room body
unfolding sized
sized-cases room body = go (leb (length body) byte_limit) refl
  where
    inside : leb (length body) byte_limit ≡ true → (b : Bool) → leb (length body) room ≡ b → Sized room body
    inside p true q = fits (leb-true (length body) byte_limit p) (leb-true (length body) room q) (rw (sized, p, q))
    inside p false q = short (leb-true (length body) byte_limit p) (leb-false (length body) room q) (rw (sized, p, q))

    go : (b : Bool) → leb (length body) byte_limit ≡ b → Sized room body
    go true p = inside p (leb (length body) room) refl
    go false p = long (leb-false (length body) byte_limit p) (rw (sized, p))

-- two answers with different numbers
pub not-both : (a b : Answer) (n : ℕ) → a ≡ b → a.number ≡ n → eqb b.number n ≡ false → ⊥
not-both a b n q e f = both (eqb b.number n) f (eq-eqb b.number n (sym (ap (λ (x : Answer). x.number) q) ∙ e))

-- ==== lines that are accepted or refused

compose-accepted : (src : List ℕ) (room : ℕ) (es : List Entry) → entries src ≡ walked_as es 0 0 → compose src room ≡ sized room (body_of es)
unfolding compose answer
compose-accepted src room es e = rw e

compose-refused : (src : List ℕ) (room p : ℕ) (es : List Entry) → entries src ≡ walked_as es 11 p → compose src room ≡ refusal 11 p
unfolding compose answer
compose-refused src room p es e = rw e

-- a walk that is stuck behind some lines has its place one line further
refused-placed : (src : List ℕ) (es : List Entry) (t : State) (rest : List ℕ) → Runs front es t → Each Good es → Stuck t rest → src ≡ joined line_of es ++ rest
    → Placed src (suc (length es))
refused-placed src es t rest q h st c =
    record {
      from_one = suc-le-suc zero-le;
      within = omega (arith, ap length split, length-append (map line_of es) (lines_with_feeds rest), map-length es);
      cannot = λ b. beyond b;
      can = λ k l. rw c (begins-less k (length es) (joined line_of es ++ rest) (le_of_suc-le-suc l) (begun es t q h rest));
    }
  where
    split : lines_with_feeds src ≡ map line_of es ++ lines_with_feeds rest
    split = ap lines_with_feeds c ∙ lines-joined es h rest

    beyond : Begins (suc (length es)) src → ⊥
    beyond b =
        let v = reported-told b.lines b.reported in
        let d : lines_with_feeds b.lines ≡ map line_of v.told = ap lines_with_feeds v.is ∙ told-lines v.told v.good in
        let g : take (suc (length es)) (map line_of v.told) ≡ take (suc (length es)) (map line_of es ++ lines_with_feeds rest) = rw (d, split) at b.same in
        not-begun q h rest st v.told v.ran v.good g

-- lines that are accepted: they are the lines of what is read of them, which is what is written
pub record Accepted (src : List ℕ) : Type 0 where
  pub lines_are : joined line_of (entries src).items ≡ src
  pub body_bytes : Bytes (body_for src)
  pub body-reports : Reports (body_for src) src

accepted-is : (src : List ℕ) (es : List Entry) (t : State) → Runs front es t → Each Good es → final t ≡ true → src ≡ joined line_of es → entries src ≡ walked_as es 0 0 → Accepted src
accepted-is src es t q h f c w =
    let i : es ≡ (entries src).items = sym (ap (λ (v : Walked Entry). v.items) w) in
    let m : Reports (body_of es) src = rw (c, body-joined es) (written-reports es t q h f) in
    record {
      lines_are = ap (joined line_of) (sym i) ∙ sym c;
      body_bytes = subst (λ (l : List Entry). Bytes (body_of l)) i (rw (body-joined es) (body_bytes es h));
      body-reports = subst (λ (l : List Entry). Reports (body_of l) src) i m;
    }

pub accepted-reported : (src : List ℕ) → Accepted src → HasBody src
accepted-reported src a = record { body = body_for src; bytes = a.body_bytes; reports = a.body-reports }

-- what the lines answer
pub data Outcome (src : List ℕ) (room : ℕ) : Type 0 where
  accepts : Accepted src → compose src room ≡ sized room (body_for src) → Outcome src room
  refuses : (p : ℕ) → Placed src p → compose src room ≡ refusal 11 p → Outcome src room

pub outcome : (src : List ℕ) (room : ℕ) → Outcome src room
outcome src room = go (walk front 1 src)
  where
    go : Walk front 1 src → Outcome src room
    go (accepted es t q h f c w) = accepts (accepted-is src es t q h f c w) (rw w (compose-accepted src room es w))
    go (refused es t rest q h st c w) =
        refuses (suc (length es)) (refused-placed src es t rest q h st c) (compose-refused src room (1 + length es) es w ∙ ap (refusal 11) (omega arith))

-- no report has lines that are refused
pub placed-none : (src : List ℕ) (p : ℕ) → Placed src p → HasBody src → ⊥
placed-none src p h v = h.cannot (record { lines = src; reported = v; same = refl })

pub reported-accepted : (src : List ℕ) → HasBody src → Accepted src
reported-accepted src v = go (outcome src 0)
  where
    go : Outcome src 0 → Accepted src
    go (accepts a q) = a
    go (refuses p h q) = absurd (placed-none src p h v)

-- ==== all cases

pub data Answered (src : List ℕ) (room : ℕ) : Type 0 where
  answers0 : Fits src room → compose src room ≡ record { number = 0; place = 0; written = body_for src } → Answered src room
  answers1 : TooLong src → compose src room ≡ refusal 1 0 → Answered src room
  answers6 : TooShort src room → compose src room ≡ refusal 6 (length (body_for src)) → Answered src room
  answers11 : (p : ℕ) → Placed src p → compose src room ≡ refusal 11 p → Answered src room

pub answered : (src : List ℕ) (room : ℕ) → Answered src room
answered src room = go (outcome src room)
  where
    sizes : Accepted src → compose src room ≡ sized room (body_for src) → Sized room (body_for src) → Answered src room
    sizes a e (fits i j q) = answers0 (accepted-reported src a, i, j) (e ∙ q)
    sizes a e (long i q) = answers1 (accepted-reported src a, i) (e ∙ q)
    sizes a e (short i j q) = answers6 (accepted-reported src a, i, j) (e ∙ q)

    go : Outcome src room → Answered src room
    go (accepts a e) = sizes a e (sized-cases room (body_for src))
    go (refuses p h e) = answers11 p h e
