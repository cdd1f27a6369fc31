-- The line of an identifier: written into the rest of the buffer it stands in the whole of it, and with no room left it is measured.
use Prim.Native.Nat.{ℕ, suc, ◌+◌, ◌-◌, ◌≤◌, ◌<◌, min}
use native.Mathlib.Nat.{zero-add, add-suc, suc-add}
use native.Mathlib.Omega.{arith}
use mathlib.Core.Path.{◌≡◌, refl, sym, ap, ◌∙◌}
use mathlib.Core.Bool.{Bool}
use mathlib.Core.List.{List, [], ◌∷◌, ◌++◌, append-nil}
use lib.ListN.{length, take, drop, set, length-drop, drop_of_length-le, take-append-drop}
use lib.Seq.{sets, take_all, length-take-le}
use Rattle.base_sequences.specs.Stored.{cap, Clipped}
use Rattle.base_sequences.proofs.Splices.{sets-out}
use Rattle.identifier_rules.specs.Identifier.{identifier}
use Rattle.identifier.specs.declared.Identifier.TheVariants.{Readable, Unreadable}
use Rattle.identifier.specs.Answers.{identifier_at, text_of}
use Rattle.identifier.proofs.Identifiers.{identifier-found, identifier-not}
use Rattle.report_rules.specs.Report.{id_line}
use Rattle.blockreport_rules.specs.FieldLines.{identifier_line}

-- ==== a text stored behind a part of a list

set-behind : (p r : List ℕ) (j v : ℕ) → set (p ++ r) (length p + j) v ≡ p ++ set r j v
set-behind [] r j v = rw zero-add
set-behind (x ∷ p) r j v = rw suc-add (ap (λ (l : List ℕ). x ∷ l) (set-behind p r j v))

sets_behind : (p r : List ℕ) (j : ℕ) (vs : List ℕ) → sets (p ++ r) (length p + j) vs ≡ p ++ sets r j vs
sets_behind p r j [] = refl
sets_behind p r j (v ∷ vs) = rw (set-behind p r j v, ← add-suc) (sets_behind p (set r j v) (suc j) vs)

module _ (text old : List ℕ) (to : ℕ) where
  -- no room is left
  pub text_out : length old < to → (k n : ℕ) (none new : List ℕ) → Clipped none 0 text new n → k ≡ min (to + n) cap → Clipped old to text old k
  text_out h k n none new w q = record { place = omega (arith, q, w.place); bytes = sym (sets-out old to text (omega arith)) }

  -- the rest of the buffer is lent
  pub text-behind : to ≤ length old → (k n : ℕ) (new : List ℕ) → Clipped (take (length old - to) (drop to old)) 0 text new n → k ≡ min (to + n) cap
      → Clipped old to text (take to old ++ (new ++ drop (length old - to) (drop to old))) k
  text-behind h k n new w q = record { place = omega (arith, q, w.place); bytes = rw (all, append-nil new, w.bytes, part) spliced }
    where
      part : take (length old - to) (drop to old) ≡ drop to old
      part = take_all (length old - to) (drop to old) (omega (arith, length-drop to old))

      all : drop (length old - to) (drop to old) ≡ []
      all = drop_of_length-le (drop to old) {i = length old - to} (omega (arith, length-drop to old))

      spliced : take to old ++ sets (drop to old) 0 text ≡ sets old to text
      spliced =
          let i : length (take to old) + 0 ≡ to = omega (arith, length-take-le to old h) in
          sym (sets_behind (take to old) (drop to old) 0 text) ∙ rw (i, take-append-drop to old)

-- ==== what is read

module _ (body old : List ℕ) (to : ℕ) where
  pub line-none : Unreadable ≡ identifier_at body → to ≤ cap → Clipped old to (identifier_line (identifier body)) old to
  unfolding identifier_line
  line-none e h = rw (identifier-not body e) (record { place = omega (arith, h); bytes = refl })

  pub line-found : (a e : ℕ) (q : Bool) → Readable a e q ≡ identifier_at body → (new : List ℕ) (next : ℕ)
      → Clipped old to (id_line (text_of body a e q)) new next → Clipped old to (identifier_line (identifier body)) new next
  unfolding identifier_line
  line-found a e q h new next w = rw (identifier-found body a e q h) w
