-- The code that writes labels, and a text label by label.
use Prim.Native.Nat.{ℕ, ◌+◌, ◌-◌, ◌*◌, ◌≤◌, ◌<◌}
use native.Mathlib.Omega.{arith}
use mathlib.Core.Path.{◌≡◌, refl, sym, ap, ◌∙◌}
use mathlib.Core.Bool.{Bool, true, false}
use mathlib.Core.List.{List, [], ◌∷◌, append-nil}
use mathlib.Core.Option.{Option, none, some}
use lib.Dec.{eqb, leb}
use lib.ListN.{length, set, take, drop, length-append, length-take, length-drop}
use lib.Seq.{take_all}
use borrow.Author.Tests.{leb-true, leb-false, eqb-true}
use Rattle.base_sequences.specs.Stored.{Put}
use Rattle.base_sequences.proofs.Splices.{Left, left-start, left_step, left-done, left-byte, put-wrote}
use Rattle.base_readers.specs.Readers.{run}
use Rattle.std.specs.Prelude.{Result, Ok, Err}
use Rattle.punycode.specs.declared.decoding.NoPoints.{NoPoints}
use Rattle.punycode.specs.declared.decoding.NoPoints.TheVariants.{Failed, Long}
use Rattle.punycode_rules.specs.Unicode.{scalars, utf8s}
use Rattle.punycode_rules.specs.Labels.{decoded, prefixed, spelled, spelling, spelling_limit, in_label}
use Rattle.punycode.specs.Internal.{Tells, Spells, Spelt}
use Rattle.punycode_laws.proofs.Encoding.{utf8s-bounds}
use Rattle.punycode_laws.proofs.Spelling.{spelled-plain, spelled-failed, spelled-some, scalars-of, end_low, here-last, here-more}

-- ==== a label

-- what is told of the rest of a label, behind its prefix
pub told : (l points : List ℕ) (d d' : Result ℕ NoPoints) → Tells (take (length l - 4) (drop 4 l)) points d → d ≡ d' → Tells (drop 4 l) points d'
told l points d d' t e = let w : take (length l - 4) (drop 4 l) ≡ drop 4 l = take_all (length l - 4) (drop 4 l) (omega (arith, length-drop 4 l)) in rw (e, w) at t

pub told-points : (xs points : List ℕ) (k : ℕ) → Tells xs points (Ok k) → (u : List ℕ) → u ≡ take k points → (length u ≤ spelling_limit) × (scalars u ≡ true)
told-points xs points k t u q = rw q ((omega (arith, t.0, length-take k points)), scalars-of xs (take k points) t.1)

module _ (old : List ℕ) (at : ℕ) (l : List ℕ) where
  pub plain-put : (new : List ℕ) (n : ℕ) → length l ≤ spelling_limit → Put old at l new n → Spells old at l new n
  plain-put new n h p = record { bound = omega (arith, p.count); fits = λ g. p; over = λ g. omega (arith, p.count) }

  pub plain_over : spelling_limit < length l → Spells old at l old (spelling_limit + 1)
  plain_over h = record { bound = omega arith; fits = λ g. absurd (omega arith); over = λ g. h }

  pub label-plain : (new : List ℕ) (n : ℕ) → prefixed l ≡ false → Spells old at l new n → Spells old at (spelled l) new n
  label-plain new n h s = rw (spelled-plain l h) s

  module _ (h : prefixed l ≡ true) (points : List ℕ) where
    pub label-failed : (new : List ℕ) (n : ℕ) → Tells (drop 4 l) points (Err Failed) → Spells old at l new n → Spells old at (spelled l) new n
    label-failed new n t s = rw (spelled-failed l h t) s

    pub label-text : (new : List ℕ) (n k : ℕ) → Tells (drop 4 l) points (Ok k) → (u : List ℕ) → u ≡ take k points → Put old at (utf8s u) new n
        → Spells old at (spelled l) new n
    label-text new n k t u q p' =
        let p : Put old at (utf8s (take k points)) new n = (rw q at p') in
        let b : length (utf8s (take k points)) ≤ 4 * length (take k points) = (utf8s-bounds (take k points)).1 in
        let c : length (take k points) ≤ k = omega (arith, length-take k points) in
        rw (spelled-some l h (take k points) t.1)
        (record { bound = omega (arith, p.count, t.0); fits = λ g. p; over = λ g. omega (arith, p.count) })

    pub label-long : Tells (drop 4 l) points (Err Long) → Spells old at (spelled l) old (spelling_limit + 1)
    label-long t = record { bound = omega arith; fits = λ g. absurd (omega arith); over = λ g. go (decoded (drop 4 l)) refl }
      where
        go : (o : Option (List ℕ)) → decoded (drop 4 l) ≡ o → spelling_limit < length (spelled l)
        go none e = rw (spelled-failed l h e) (omega (arith, t.0, length-drop 4 l))
        go (some u) e = rw (spelled-some l h u e) (omega (arith, t.1 u e, (utf8s-bounds u).0))

-- ==== the loop that writes

pub record Written (t old : List ℕ) (out : List ℕ) (at n : ℕ) : Type 0 where
  pub left : Left old 0 (spelling t) out n (spelling (drop at t))
  pub low : at ≤ length t
  pub small : n ≤ spelling_limit + 1

pub written_start : (t old : List ℕ) → Written t old old 0 0
written_start t old = record { left = left-start old 0 (spelling t); low = omega arith; small = omega arith }

module _ (t old out : List ℕ) (at n e : ℕ) (w : Written t old out at n) (q : e ≡ at + run in_label (drop at t)) (out' : List ℕ) (k : ℕ) (s : Spells out n (spelled (take (e - at) (drop at t))) out' k) where
  abbrev label : List ℕ
  label = spelled (take (e - at) (drop at t))

  label-le : length (spelled (take (e - at) (drop at t))) ≤ length (spelling (drop at t))
  label-le = go (eqb e (length t)) refl
    where
      go : (b : Bool) → eqb e (length t) ≡ b → length (spelled (take (e - at) (drop at t))) ≤ length (spelling (drop at t))
      go true h = omega (arith, ap length (here-last t at e q w.low (eqb-true _ _ h)))
      go false h = omega (arith, ap length (here-more t at e q w.low (borrow.Author.Tests.eqb-false _ _ h)), length-append (spelled (take (e - at) (drop at t))) (46 ∷ spelling (drop (e + 1) t)))

  pub written_over : spelling_limit < n + k → Spelt old 0 (spelling t) out' (n + k)
  written_over h = record { fits = λ g. absurd (omega arith); over = λ g. go (leb k spelling_limit) refl }
    where
      go : (b : Bool) → leb k spelling_limit ≡ b → spelling_limit < length (spelling t)
      go true b = omega (arith, (s.fits (leb-true k spelling_limit b)).count, label-le, w.left.place)
      go false b = omega (arith, s.over (leb-false k spelling_limit b), label-le, w.left.place)

  module _ (h : n + k ≤ spelling_limit) where
    put : Put out n (spelled (take (e - at) (drop at t))) out' k
    put = s.fits (omega arith)

    pub written-end : e ≡ length t → Spelt old 0 (spelling t) out' (n + k)
    written-end z =
        record {
          fits = λ g. (let d = left-done (left_step {x = label} {rest = []} w.left (here-last t at e q w.low z ∙ sym (append-nil label)) (put-wrote put)) refl in
              record { count = omega (arith, d.place); bytes = d.bytes });
          over = λ g. absurd (omega arith);
        }

    pub written_on : (e ≡ length t → ⊥) → (out'' : List ℕ) → out'' ≡ set out' (n + k) 46 → Written t old out'' (e + 1) (n + k + 1)
    written_on z out'' f =
        record {
          left = left-byte (left_step {x = label} {rest = 46 ∷ spelling (drop (e + 1) t)} w.left (here-more t at e q w.low z) (put-wrote put)) refl f;
          low = omega (arith, end_low t at e q w.low);
          small = omega arith;
        }
