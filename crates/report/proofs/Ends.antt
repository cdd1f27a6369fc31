-- The answers of the report, one law for each way out of the code: a body that is refused leaves the buffer as it is, and one that is
-- told fills its front with exactly its text, copied from the first pass's buffer where it fits that, and else written by a second pass,
-- which is lent as much room as the first one measured.
use Prim.Native.Nat.{ℕ, ◌≤◌, ◌<◌}
use native.Mathlib.Omega.{arith}
use mathlib.Core.Path.{◌≡◌, refl, sym, ap, ◌∙◌}
use mathlib.Core.Bool.{Bool, true, false}
use mathlib.Core.List.{List, ◌++◌}
use borrow.Author.Tests.{ltb-true, ltb-false, le-leb, lt-leb}
use lib.Dec.{ltb, leb}
use lib.ListN.{length, take, drop}
use lib.Seq.{sets, length-take-le, take_all}
use Rattle.base_sequences.proofs.Splices.{sets-front}
use Rattle.base_readers.specs.Parsers.{nothing}
use Rattle.base_readers.proofs.Sequencing.{bind-none}
use Rattle.lexis_rules.specs.Limits.{byte_limit}
use Rattle.identifier.specs.declared.Identifier.TheVariants.{Readable, Unreadable}
use Rattle.identifier_rules.specs.Identifier.{identifier}
use Rattle.identifier.specs.Answers.{identifier_at}
use Rattle.identifier.proofs.Identifiers.{identifier-not}
use Rattle.report_rules.specs.Body.{Reading, unreadable, malformed, newer, no_result, results, head, reading}
use Rattle.report_rules.specs.Report.{refusal, fitted, answer, report}
use Rattle.report_laws.proofs.Readings.{report-is}
use Rattle.report_rules.specs.declared.Reported.{Reported}
use Rattle.report_rules.specs.Answers.{answer_of, leaves}
use Rattle.text_first_pass.specs.declared.Copy.{Copy}
use Rattle.text_first_pass.specs.declared.Copy.TheVariants.{Short, Again, Done}
use Rattle.text_first_pass.specs.Copies.{copy_of, copy_leaves}
use Rattle.text_first_pass.proofs.Copying.{when-short, when-again, when-done}
use Rattle.report.specs.Internal.{whole_text, refused, whole_answer, Said}
use Rattle.report.proofs.Fronts.{fronted-text}

-- ==== what is said, and the answer

whole-written : (x : Reading) → (whole_answer x).written ≡ length (whole_text x)
whole-written unreadable = refl
whole-written malformed = refl
whole-written (newer h) = refl
whole-written (no_result i) = refl
whole-written (results i rs) = refl

module _ (room : ℕ) where
  -- where there is room for all of it
  whole-fits : (x : Reading) → length (whole_text x) ≤ room → (whole_answer x ≡ answer_of (answer room x)) × (whole_text x ≡ (answer room x).written)
  unfolding answer fitted refusal
  whole-fits unreadable l = (refl, refl)
  whole-fits malformed l = (refl, refl)
  whole-fits (newer h) l = let t = le-leb (length (whole_text (newer h))) room l in (rw (fitted, t), rw (fitted, t))
  whole-fits (no_result i) l = let t = le-leb (length (whole_text (no_result i))) room l in (rw (fitted, t), rw (fitted, t))
  whole-fits (results i rs) l = let t = le-leb (length (whole_text (results i rs))) room l in (rw (fitted, t), rw (fitted, t))

  -- where there is not
  whole-short : (x : Reading) → room < length (whole_text x) → answer room x ≡ refusal 6 (length (whole_text x))
  unfolding answer fitted
  whole-short unreadable l = absurd (omega arith)
  whole-short malformed l = absurd (omega arith)
  whole-short (newer h) l = let t = lt-leb (length (whole_text (newer h))) room l in rw (fitted, t)
  whole-short (no_result i) l = let t = lt-leb (length (whole_text (no_result i))) room l in rw (fitted, t)
  whole-short (results i rs) l = let t = lt-leb (length (whole_text (results i rs))) room l in rw (fitted, t)

  -- only a body that is not well-formed is answered 9
  whole-nine : (x : Reading) → (whole_answer x).number ≡ 9 → (whole_answer x ≡ refused 9 0) × (answer room x ≡ refusal 9 0)
  unfolding answer
  whole-nine unreadable e = absurd (omega arith)
  whole-nine malformed e = (refl, refl)
  whole-nine (newer h) e = absurd (omega arith)
  whole-nine (no_result i) e = absurd (omega arith)
  whole-nine (results i rs) e = absurd (omega arith)

pub reading-not : (s : List ℕ) → identifier s ≡ nothing → reading s ≡ unreadable
unfolding reading head
reading-not s e = let h : head s ≡ nothing = bind-none identifier _ s e in rw (reading, h)

-- ==== one law for each way out

-- an answer, and what it leaves
abbrev pub Answered : List ℕ → List ℕ → List ℕ → Reported → Type 0
Answered s old new r = (r ≡ answer_of (report s (length old))) × (new ≡ leaves (report s (length old)) old)

refuses : (s old : List ℕ) (r : Reported) (n p : ℕ) → r ≡ refused n p → report s (length old) ≡ refusal n p → Answered s old old r
unfolding refusal
refuses s old r n p e q = (rw q e, rw q)

module _ (s old : List ℕ) (big : Bool) (b : big ≡ ltb byte_limit (length s)) where
  pub answer-1 : big ≡ true → (r : Reported) → r ≡ refused 1 0 → Answered s old old r
  unfolding report
  answer-1 t r e =
      let l : leb (length s) byte_limit ≡ false = lt-leb (length s) byte_limit (ltb-true byte_limit (length s) (sym b ∙ t)) in
      refuses s old r 1 0 e (rw (report, l))

  module _ (f : big ≡ false) where
    small : length s ≤ byte_limit
    small = ltb-false byte_limit (length s) (sym b ∙ f)

    pub answer-7 : Unreadable ≡ identifier_at s → (r : Reported) → r ≡ refused 7 0 → Answered s old old r
    unfolding answer
    answer-7 u r e = refuses s old r 7 0 e (report-is s (length old) small ∙ ap (answer (length old)) (reading-not s (identifier-not s u)))

    -- where the identifier is read the rest is
    pub told-room : (a e : ℕ) (q : Bool) → Readable a e q ≡ identifier_at s → (length s ≤ byte_limit) × (Readable a e q ≡ identifier_at s)
    told-room a e q i = (small, i)

-- ==== behind an identifier that is read: m is what the first pass answers, which runs on a buffer of its own

module _ (s old : List ℕ) (small : length s ≤ byte_limit) (own scratch : List ℕ) (m : Reported) (k : Said (reading s) own scratch m) where
  needed : m.written ≡ length (whole_text (reading s))
  needed = ap (λ (x : Reported). x.written) k.answer ∙ whole-written (reading s)

  pub answer-9 : m.number ≡ 9 → Answered s old old m
  answer-9 z =
      let w = whole-nine (length old) (reading s) (sym (ap (λ (x : Reported). x.number) k.answer) ∙ z) in
      refuses s old m 9 0 (k.answer ∙ w.0) (report-is s (length old) small ∙ w.1)

  -- all of it is written over the front
  fills : m.written ≤ length old → (r : Reported) → r ≡ whole_answer (reading s) → (new : List ℕ)
      → new ≡ whole_text (reading s) ++ drop (length (whole_text (reading s))) old → Answered s old new r
  fills l r a new b =
      let w = whole-fits (length old) (reading s) (rw needed at l) in
      let p = report-is s (length old) small in
      (rw p (a ∙ w.0), rw (p, ← w.1) b)

  -- c is what became of what the first pass wrote, and `new` what the lent buffer holds then
  module _ (new : List ℕ) (c : Copy) (e : c ≡ copy_of (length scratch) m.written (length old)) (v : new ≡ copy_leaves c scratch m.written old) where
    pub answer-6 : c ≡ Short → (r : Reported) → r ≡ refused 6 m.written → Answered s old new r
    answer-6 q r i =
        let w = when-short scratch m.written old new c e v q in
        rw w.same
        (refuses s old r 6 m.written i (report-is s (length old) small ∙ (whole-short (length old) (reading s) (rw needed at w.more) ∙ rw needed)))

    -- it was copied from the first pass's buffer
    pub answer-copied : c ≡ Done → Answered s old new m
    answer-copied q =
        let w = when-done scratch m.written old new c e v q in
        let f : length (whole_text (reading s)) ≤ length own = omega (arith, w.whole, k.bytes.long, needed) in
        let t : take m.written scratch ≡ whole_text (reading s) = rw needed (fronted-text k.bytes f) in
        let b : new ≡ sets old 0 (whole_text (reading s)) = w.text ∙ rw t in
        fills w.fits m k.answer new (b ∙ sets-front old (whole_text (reading s)) (omega (arith, w.fits, needed)))

    -- it is written by a second pass, which is lent as much as it takes
    pub again-fits : c ≡ Again → m.written ≤ length new
    again-fits q = let w = when-again scratch m.written old new c e v q in omega (arith, w.fits, ap length w.same)

    pub answer-written : c ≡ Again → (out : List ℕ) (r : Reported) → Said (reading s) (take m.written new) out r
        → Answered s old (out ++ drop m.written new) r
    answer-written q out r d =
        let w = when-again scratch m.written old new c e v q in
        let f : length (take m.written new) ≡ length (whole_text (reading s)) = length-take-le m.written new (again-fits q) ∙ needed in
        let t : out ≡ whole_text (reading s) =
        sym (take_all (length (whole_text (reading s))) out (omega (arith, d.bytes.long, f))) ∙ fronted-text d.bytes (omega (arith, f)) in
        fills w.fits r d.answer (out ++ drop m.written new) (rw (t, needed, w.same))
