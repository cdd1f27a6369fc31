-- What `decode` and `spell` answer, from what the private functions tell.
use Prim.Native.Nat.{ℕ, ◌+◌, ◌≤◌, ◌<◌}
use native.Mathlib.Omega.{arith}
use mathlib.Core.Path.{◌≡◌, ap, ◌∙◌}
use mathlib.Core.List.{List}
use mathlib.Core.Option.{none}
use lib.ListN.{length, take}
use borrow.Author.Tests.{le-leb, lt-leb}
use Rattle.base_sequences.specs.Stored.{Put}
use Rattle.base_sequences.proofs.Splices.{put_front}
use Rattle.punycode_rules.specs.Unicode.{utf8s}
use Rattle.punycode_rules.specs.Labels.{decoded, spelling, spelling_limit}
use Rattle.std.specs.Prelude.{Result, Ok, Err}
use Rattle.punycode.specs.declared.Decoded.TheVariants as answer
use Rattle.punycode.specs.declared.decoding.NoPoints.{NoPoints}
use Rattle.punycode.specs.declared.decoding.NoPoints.TheVariants.{Failed, Long}
use Rattle.punycode.specs.Answers.{decode_answer, decode_stored, spell_answer, spell_stored}
use Rattle.punycode.specs.Internal.{Tells, Spelt}

-- ==== one label behind its prefix

pub decode-long : (label out : List ℕ) → spelling_limit < length label → (answer.Long ≡ decode_answer label) × (out ≡ decode_stored label out)
unfolding decode_answer decode_stored
decode-long label out h = (rw (decode_answer, lt-leb (length label) spelling_limit h), rw (decode_stored, lt-leb (length label) spelling_limit h))

module _ (label out : List ℕ) (h : length label ≤ spelling_limit) where
  failed : decoded label ≡ none → (answer.Failed ≡ decode_answer label) × (out ≡ decode_stored label out)
  unfolding decode_answer decode_stored
  failed e = (rw (decode_answer, le-leb (length label) spelling_limit h, e), rw (decode_stored, le-leb (length label) spelling_limit h, e))

  module _ (points : List ℕ) (d : Result ℕ NoPoints) (t : Tells label points d) where
    -- there is room for the code points of such a label
    pub decode-failed : (f : NoPoints) → d ≡ Err f → (answer.Failed ≡ decode_answer label) × (out ≡ decode_stored label out)
    decode-failed Failed e = failed (rw e at t)
    decode-failed Long e = let l : Tells label points (Err Long) = (rw e at t) in absurd (omega (arith, l.0))

    pub decode-text : (k : ℕ) → d ≡ Ok k → (u : List ℕ) → u ≡ take k points → (new : List ℕ) (n : ℕ) → Put out 0 (utf8s u) new n
        → (answer.Text n ≡ decode_answer label) × (new ≡ decode_stored label out)
    unfolding decode_answer decode_stored
    decode-text k e u q new n p =
        let l : Tells label points (Ok k) = (rw e at t) in
        (rw (decode_answer, le-leb (length label) spelling_limit h, l.1, ← q, p.count), rw (decode_stored, le-leb (length label) spelling_limit h, l.1, ← q) p.bytes)

-- ==== a text

module _ (t old text : List ℕ) (n : ℕ) (w : Spelt old 0 (spelling t) text n) where
  pub spell-over : (out : List ℕ) → spelling_limit < n → (spelling_limit + 1 ≡ spell_answer t) × (out ≡ spell_stored t out)
  unfolding spell_answer spell_stored
  spell-over out h = (rw (lt-leb (length (spelling t)) spelling_limit (w.over h)), rw (spell_stored, lt-leb (length (spelling t)) spelling_limit (w.over h)))

  pub spell-fits : (out : List ℕ) → n ≤ spelling_limit → length old ≡ spelling_limit → (new : List ℕ) (k : ℕ) → Put out 0 (take n text) new k
      → (k ≡ spell_answer t) × (new ≡ spell_stored t out)
  unfolding spell_answer spell_stored
  spell-fits out h l new k p =
      let f : Put old 0 (spelling t) text n = w.fits h in
      let e : take n text ≡ spelling t = put_front f (omega (arith, l)) in
      let b : length (spelling t) ≤ spelling_limit = omega (arith, f.count) in
      (rw (le-leb (length (spelling t)) spelling_limit b) (p.count ∙ ap length e), rw (spell_stored, le-leb (length (spelling t)) spelling_limit b, ← e) p.bytes)
