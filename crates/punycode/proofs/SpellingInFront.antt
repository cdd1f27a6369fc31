-- What a caller knows from the answers: the spelling stands at the front of a buffer with room for it, and the buffer keeps its length.
use Prim.Native.Nat.{ℕ, ◌+◌, ◌≤◌, ◌<◌}
use native.Mathlib.Omega.{arith}
use mathlib.Core.Path.{◌≡◌, refl, ap, ◌∙◌}
use mathlib.Core.Bool.{Bool, true, false}
use mathlib.Core.List.{List, ◌∷◌}
use lib.Dec.{lit≤}
use lib.ListN.{length, take}
use lib.Seq.{sets, length-sets}
use borrow.Author.Tests.{leb-false}
use Rattle.base_sequences.specs.Stored.{Put}
use Rattle.base_sequences.proofs.Splices.{put_front}
use Rattle.base_readers.specs.Texts.{bytes}
use Rattle.base_readers.proofs.Cases.{copies}
use Rattle.punycode_rules.specs.Labels.{spelling, spelling_limit}
use Rattle.punycode_rules.proofs.Unfolding.{opened}
use Rattle.punycode.specs.Answers.{fits, spell_answer, spell_stored}

module _ (t : List ℕ) where
  answer-within : fits (spelling t) ≡ true → spell_answer t ≡ length (spelling t)
  unfolding spell_answer
  answer-within h = rw h

  answer-past : fits (spelling t) ≡ false → spell_answer t ≡ spelling_limit + 1
  unfolding spell_answer
  answer-past h = rw h

  -- an answer over the limit: the spelling is over it too
  pub spell-long : spelling_limit < spell_answer t → spelling_limit < length (spelling t)
  spell-long h = go (fits (spelling t)) refl
    where
      go : (b : Bool) → fits (spelling t) ≡ b → spelling_limit < length (spelling t)
      go true e = omega (arith, answer-within e)
      go false e = leb-false (length (spelling t)) spelling_limit e

  -- any other answer is the spelling's length
  pub spell-length : spell_answer t ≤ spelling_limit → spell_answer t ≡ length (spelling t)
  spell-length h = go (fits (spelling t)) refl
    where
      go : (b : Bool) → fits (spelling t) ≡ b → spell_answer t ≡ length (spelling t)
      go true e = answer-within e
      go false e = absurd (omega (arith, answer-past e))

module _ (t out : List ℕ) where
  stored-within : fits (spelling t) ≡ true → spell_stored t out ≡ sets out 0 (spelling t)
  unfolding spell_stored
  stored-within h = rw (spell_stored, h)

  stored_past : fits (spelling t) ≡ false → spell_stored t out ≡ out
  unfolding spell_stored
  stored_past h = rw (spell_stored, h)

  -- and the spelling then stands at the front, where there is room for it
  pub spell-front : spell_answer t ≤ spelling_limit → spell_answer t ≤ length out → take (spell_answer t) (spell_stored t out) ≡ spelling t
  spell-front h l = go (fits (spelling t)) refl
    where
      go : (b : Bool) → fits (spelling t) ≡ b → take (spell_answer t) (spell_stored t out) ≡ spelling t
      go true e =
          let p : Put out 0 (spelling t) (spell_stored t out) (spell_answer t) = record { count = answer-within t e; bytes = stored-within e } in
          put_front p l
      go false e = absurd (omega (arith, answer-past t e))

  -- the buffer keeps its length
  pub spell-room : length (spell_stored t out) ≡ length out
  spell-room = go (fits (spelling t)) refl
    where
      go : (b : Bool) → fits (spelling t) ≡ b → length (spell_stored t out) ≡ length out
      go true e = ap length (stored-within e) ∙ length-sets out 0 (spelling t)
      go false e = ap length (stored_past e)

front-instance : take 7 (spell_stored (bytes "xn--bcher-kva") (copies 16 0)) ≡ 98 ∷ 195 ∷ 188 ∷ bytes "cher"
unfolding opened spell_answer spell_stored
front-instance = spell-front (bytes "xn--bcher-kva") (copies 16 0) (lit≤ tt) (lit≤ tt)
