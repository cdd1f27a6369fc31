-- Lines whose body is over the limit, which is too high to compute with: those with an identifier of n letters have a body of more than n
-- bytes, because what is written for a text is no shorter than the text.
use Prim.Native.Nat.{ℕ, zero, suc, ◌≤◌, ◌<◌, zero-le, suc-le-suc}
use native.Mathlib.Omega.{arith}
use mathlib.Core.Path.{◌≡◌, refl, ap}
use mathlib.Core.Bool.{Bool, true, false}
use mathlib.Core.List.{List, [], ◌∷◌}
use lib.ListN.{length, length-append}
use Rattle.base_readers.specs.Texts.{bytes, one_of}
use Rattle.base_readers.specs.Walks.{Walked}
use Rattle.base_readers.proofs.Cases.{copies}
use Rattle.result_rules.proofs.Unfolding as resinfo
use Rattle.identifier_rules.specs.Identifier.{identifier_token}
use Rattle.write_rules.specs.Entries.{Entry, identified, unstated, line_of, each, whole, quotable, is_text}
use Rattle.write_rules.specs.Bodies.{guarded, quote, bare_or, piece, body_of}
use Rattle.write_rules.specs.Compose.{front, closed, goes, final, entries}
use Rattle.write_rules.specs.Promise.{HasBody, body_for}
use Rattle.write_laws.proofs.Readback.{Each, joined}
use Rattle.write_laws.proofs.Lines.{Good}
use Rattle.write_laws.proofs.Runs.{Runs, over, more, walked_all}
use Rattle.write_laws.proofs.Reporting.{written-reported}

each-copies : (c : ℕ → Bool) (x : ℕ) → c x ≡ true → (n : ℕ) → each c (copies n x) ≡ true
unfolding each
each-copies c x e zero = refl
each-copies c x e (suc n) = rw (e, each-copies c x e n)

length-copies : (n x : ℕ) → length (copies n x) ≡ n
length-copies zero x = refl
length-copies (suc n) x = ap suc (length-copies n x)

guarded-long : (t : List ℕ) → length t ≤ length (guarded t)
unfolding guarded
guarded-long [] = zero-le
guarded-long (x ∷ t) = go (one_of (bytes "\"\\") x) refl (guarded-long t)
  where
    go : (b : Bool) → one_of (bytes "\"\\") x ≡ b → length t ≤ length (guarded t) → length (x ∷ t) ≤ length (guarded (x ∷ t))
    go true q ih = rw (guarded, q) (omega (arith, ih))
    go false q ih = rw (guarded, q) (suc-le-suc ih)

bare-long : (b : Bool) (t : List ℕ) → length t ≤ length (bare_or b t)
unfolding bare_or quote
bare-long true t = omega arith
bare-long false t = omega (arith, guarded-long t, length-append (guarded t) (34 ∷ []))

-- an id line with n letters, and none
abbrev lengthy_entries : ℕ → List Entry
lengthy_entries n = identified (copies n 97) ∷ unstated ∷ []

unfoldable pub lengthy : ℕ → List ℕ
lengthy n = joined line_of (lengthy_entries n)

entries-good : (n : ℕ) → Each Good (lengthy_entries n)
unfolding is_text
entries-good n = ((each-copies quotable 97 (unfold resinfo.opened quotable in refl) n, each-copies _ 97 refl n), (tt, tt))

entries-run : (n : ℕ) → Runs front (lengthy_entries n) closed
unfolding goes
entries-run n = more refl (more refl over)

pub lengthy-reported : (n : ℕ) → HasBody (lengthy n)
unfolding lengthy final
lengthy-reported n = written-reported (lengthy_entries n) closed (entries-run n) (entries-good n) refl

pub lengthy-body : (n : ℕ) → n < length (body_for (lengthy n))
unfolding lengthy final
lengthy-body n = rw i body-long
  where
    i : (entries (lengthy n)).items ≡ lengthy_entries n
    i = ap (λ (v : Walked Entry). v.items) (walked_all (lengthy_entries n) front closed 1 (entries-run n) (entries-good n) refl)

    body-long : n < length (body_of (lengthy_entries n))
    body-long =
        let b = whole identifier_token (copies n 97) in
        unfold body_of piece in
        omega (arith, bare-long b (copies n 97), length-copies n 97, length-append (bare_or b (copies n 97)) (bytes "; none"))
