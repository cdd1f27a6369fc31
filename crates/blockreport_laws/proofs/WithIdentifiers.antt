-- What a report with identifiers says more: of a field that answers 9 the line of its identifier, which can always be read, and of any other field nothing.
use Prim.Native.Nat.{ℕ}
use native.Mathlib.Omega.{arith}
use mathlib.Core.Path.{◌≡◌, refl, sym, ap, ◌∙◌}
use mathlib.Core.Bool.{Bool, true, false}
use mathlib.Core.List.{List, [], ◌++◌, append-nil}
use borrow.Author.Tests.{ne_eqb}
use Rattle.base_readers.specs.Texts.{bytes}
use Rattle.base_readers.specs.Parsers.{Got, nothing, got}
use Rattle.base_readers.proofs.Sequencing.{bind-none}
use Rattle.lexis_rules.specs.Bytes.{alike}
use Rattle.ownlist_rules.specs.declared.Own.{Own}
use Rattle.identifier_rules.specs.Identifier.{identifier}
use Rattle.report_rules.specs.Body.{Reading, unreadable, malformed, newer, no_result, results, head, reading}
use Rattle.report_rules.specs.Report.{id_line}
use Rattle.report_rules.specs.ByCase.{number_of}
use Rattle.blockreport_rules.specs.declared.Detail.{Detail}
use Rattle.blockreport_rules.specs.declared.Detail.TheVariants.{Reported, Identified}
use Rattle.blockreport_rules.specs.FieldLines.{field_line, identifier_line}
use Rattle.blockreport_rules.specs.BlockReport.{detail_line, body_lines, addition}

-- 9 is the number of a body that is not well-formed, and of no other
pub nine-malformed : (x : Reading) → number_of x ≡ 9 → x ≡ malformed
nine-malformed unreadable e = absurd (omega (arith, e))
nine-malformed malformed e = refl
nine-malformed (newer h) e = absurd (omega (arith, e))
nine-malformed (no_result i) e = absurd (omega (arith, e))
nine-malformed (results i rs) e = absurd (omega (arith, e))

-- ==== the identifier

-- an identifier that was read, and the bytes that it takes
pub record IdentifierRead (body : List ℕ) : Type 0 where
  pub text : List ℕ
  pub size : ℕ
  pub reads : identifier body ≡ got text size

-- a body that is not well-formed has one
pub malformed-identifier : (body : List ℕ) → reading body ≡ malformed → IdentifierRead body
unfolding reading head
malformed-identifier body e = go (identifier body) refl
  where
    go : (g : Got (List ℕ)) → identifier body ≡ g → IdentifierRead body
    go nothing q =
        let h : head body ≡ nothing = bind-none identifier _ body q in
        let z : reading body ≡ unreadable = rw (reading, h) in
        absurd (let k : number_of unreadable ≡ number_of malformed = ap number_of (sym z ∙ e) in omega (arith, k))
    go (got i n) q = record { text = i; size = n; reads = q }

-- ==== what the detail adds

pub detail-reported : (number : ℕ) (read : Got (List ℕ)) → detail_line Reported number read ≡ []
unfolding detail_line
detail-reported number read = refl

pub detail-nine : (read : Got (List ℕ)) → detail_line Identified 9 read ≡ identifier_line read
unfolding detail_line
detail-nine read = refl

-- at any other number than 9 nothing
pub detail-not-nine : (detail : Detail) (number : ℕ) (read : Got (List ℕ)) → (number ≡ 9 → ⊥) → detail_line detail number read ≡ []
unfolding detail_line
detail-not-nine Reported number read ne = refl
detail-not-nine Identified number read ne = let t = ne_eqb number 9 ne in rw (detail_line, t)

-- ==== what a field adds

module _ (whose : Got (List ℕ) → Own) (n : ℕ) (name body : List ℕ) where
  -- a field that does not answer 9 adds the same bytes with identifiers and without
  pub addition-not-nine : (number_of (reading body) ≡ 9 → ⊥) → addition Identified whose n name body ≡ addition Reported whose n name body
  unfolding addition body_lines
  addition-not-nine ne =
      let i = detail-not-nine Identified (number_of (reading body)) (identifier body) ne in
      let r = detail-not-nine Reported (number_of (reading body)) (identifier body) ne in
      go i r (alike name (bytes "Authentication-Results")) refl
    where
      go : detail_line Identified (number_of (reading body)) (identifier body) ≡ [] → detail_line Reported (number_of (reading body)) (identifier body) ≡ []
          → (t : Bool) → alike name (bytes "Authentication-Results") ≡ t → addition Identified whose n name body ≡ addition Reported whose n name body
      go i r true e = rw (addition, e, i, r)
      go i r false e = rw (addition, e)

  module _ (named : alike name (bytes "Authentication-Results") ≡ true) (nine : number_of (reading body) ≡ 9) where
    -- one that answers 9 adds its line alone
    pub addition-nine-reported : addition Reported whose n name body ≡ field_line n (whose (identifier body)) 9 0
    unfolding addition body_lines
    addition-nine-reported =
        let m = nine-malformed (reading body) nine in
        let d = detail-reported 9 (identifier body) in
        rw (addition, named, m, d) (append-nil (field_line n (whose (identifier body)) 9 0))

    -- and with identifiers its line and that of the identifier whose owner the line names
    pub addition-nine-identified : (i : List ℕ) (k : ℕ) → identifier body ≡ got i k
        → addition Identified whose n name body ≡ field_line n (whose (got i k)) 9 0 ++ id_line i
    unfolding addition body_lines identifier_line
    addition-nine-identified i k q =
        let m = nine-malformed (reading body) nine in
        let d = detail-nine (got i k) in
        rw (addition, named, m, q, d)
