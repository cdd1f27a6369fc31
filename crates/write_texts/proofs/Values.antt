-- Property values: one law for each way out of the code, and that what is written of a column is what `write_rules` says of its text.
use Prim.Native.Nat.{ℕ, ◌-◌, ◌^◌, ◌≤◌, ◌<◌, zero-le, suc-le-suc}
use native.Mathlib.Omega.{arith}
use mathlib.Core.Path.{◌≡◌, refl, sym, ap, ◌∙◌}
use mathlib.Core.Bool.{Bool, true, false, not, cond, ◌&&◌}
use mathlib.Core.List.{List, [], ◌∷◌}
use lib.Dec.{eqb, leb}
use lib.ListN.{length, drop, take}
use lib.Seq.{length-take-le, drop-append_seam}
use borrow.Author.Tests.{eqb-true, eq-eqb, ne_eqb, leb-true, leb-false}
use Rattle.base_sequences.specs.Stored.{Clipped}
use Rattle.base_sequences.proofs.Booleans.{no_true, both, and_left, and_right}
use Rattle.base_sequences.proofs.Clips.{clipped-then}
use Rattle.base_readers.specs.Readers.{run}
use Rattle.base_readers.specs.Texts.{one_of, starts}
use Rattle.result_rules.specs.Results.{Kind, Quoted, Mailbox, AtDomain, Value, domain, in_local_part, single_dots}
use Rattle.report_rules.specs.Report.{plain, escape}
use Rattle.write_rules.specs.Entries.{whole, is_text, local_of, domain_of, stands, kind_of}
use Rattle.write_rules.specs.Bodies.{bare_or, is_bare_local, pvalue}
use Rattle.write_laws.proofs.Values.{domain-each}
use Rattle.write_laws.proofs.Signs.{plain-sign, escape-same, dots-raw}
use Rattle.write_columns.specs.declared.coded.Test.TheVariants as test
use Rattle.write_columns.specs.Internal.{text_of, in_test, IsCoded}
use Rattle.write_columns.proofs.Shapes.{mailbox-unsigned, local-text, front-is, raw-local, raw-domain, cut-long, rest_all}
use Rattle.write_texts.specs.Values.{written_local, written_mailbox, written_value}

-- ==== a local part

module _ (l : List ℕ) (r : Bool) (q : r ≡ whole (run (in_test test.Local)) (text_of (drop 0 l))) (old : List ℕ) (to : ℕ) where
  local-test : r ≡ whole (run in_local_part) (text_of l)
  local-test = q ∙ ap (λ (f : ℕ → Bool). whole (run f) (text_of l)) (unfold in_test in refl)

  pub local-bare : r ≡ true → (d : Bool) → d ≡ single_dots true l → (new : List ℕ) (n : ℕ) → Clipped old to (bare_or d (text_of (drop 0 l))) new n
      → Clipped old to (written_local l) new n
  unfolding written_local
  local-bare y d e new n w = rw (← local-test, y, ← e) w

  pub local-quoted : r ≡ false → (new : List ℕ) (n : ℕ) → Clipped old to (bare_or false (text_of (drop 0 l))) new n → Clipped old to (written_local l) new n
  unfolding written_local
  local-quoted f new n w = rw (← local-test, f) w

-- ==== a mailbox

local-short : (v : List ℕ) → length (local_of v) ≤ length v
unfolding local_of
local-short [] = zero-le
local-short (x ∷ v) = go (eqb x 64 && not (one_of v 64)) refl (local-short v)
  where
    go : (b : Bool) → (eqb x 64 && not (one_of v 64)) ≡ b → length (local_of v) ≤ length v → length (local_of (x ∷ v)) ≤ length (x ∷ v)
    go true q ih = rw (local_of, q) zero-le
    go false q ih = rw (local_of, q) (suc-le-suc ih)

module _ (v : List ℕ) (j : ℕ) (J : j ≡ length (local_of v)) where
  pub sign-inside : j ≤ length v
  sign-inside = omega (arith, J, local-short v)

  pub sign-front : j ≡ length (take j v)
  sign-front = sym (length-take-le j v sign-inside)

  pub mailbox-put : (o₀ : List ℕ) (to : ℕ) → length o₀ < 2 ^ 64 → (o₁ : List ℕ) (n : ℕ) → Clipped o₀ to (written_local (take j v)) o₁ n
      → (o₂ : List ℕ) (m : ℕ) → Clipped o₁ n (take (length v - j) (drop j v)) o₂ m → Clipped o₀ to (written_mailbox v) o₂ m
  unfolding written_mailbox
  mailbox-put o₀ to h o₁ n u o₂ m w = rw (← J) (clipped-then (omega (arith, h)) u (rw (rest_all v j) at w))

-- ==== by the letter

module _ (k : ℕ) (v : List ℕ) (old : List ℕ) (to : ℕ) where
  pub value-token : k ≡ 116 → (new : List ℕ) (n : ℕ) → Clipped old to (bare_or true (text_of (drop 0 v))) new n → Clipped old to (written_value k v) new n
  unfolding written_value
  value-token e new n w = rw (eq-eqb k 116 e) w

  module _ (a : k ≡ 116 → ⊥) where
    pub value-text : k ≡ 113 → (new : List ℕ) (n : ℕ) → Clipped old to (bare_or false (text_of (drop 0 v))) new n → Clipped old to (written_value k v) new n
    unfolding written_value
    value-text e new n w = rw (ne_eqb k 116 a, eq-eqb k 113 e) w

    module _ (b : k ≡ 113 → ⊥) where
      pub value-mailbox : k ≡ 109 → (new : List ℕ) (n : ℕ) → Clipped old to (written_mailbox v) new n → Clipped old to (written_value k v) new n
      unfolding written_value
      value-mailbox e new n w = rw (ne_eqb k 116 a, ne_eqb k 113 b, eq-eqb k 109 e) w

      pub value-at : (k ≡ 109 → ⊥) → (new : List ℕ) (n : ℕ) → Clipped old to v new n → Clipped old to (written_value k v) new n
      unfolding written_value
      value-at m new n w = rw (ne_eqb k 116 a, ne_eqb k 113 b, ne_eqb k 109 m) w

-- ==== what is written of a column is what is said of its text

abbrev value_is : Kind → List ℕ → Value
value_is k t = record { kind = k; text = t }

-- an at-domain is coded as itself
at_same : (t : List ℕ) → stands AtDomain t ≡ true → escape t ≡ t
unfolding stands starts escape
at_same [] g = absurd (no_true g)
at_same (x ∷ t) g =
    let p : eqb x 64 ≡ true = and_left (eqb x 64) _ g in
    let q : whole domain t ≡ true = and_right (eqb x 64) _ g in
    let i : plain x ≡ true = rw (eqb-true x 64 p) plain-sign in
    rw (escape, i) (ap (λ (l : List ℕ). x ∷ l) (escape-same t (domain-each t q)))

module _ (v : List ℕ) (c : IsCoded v) where
  written_at : stands AtDomain (text_of v) ≡ true → v ≡ text_of v
  written_at y = sym c.0 ∙ at_same (text_of v) y

  module _ (y : stands Mailbox (text_of v) ≡ true) where
    abbrev j : ℕ
    j = length (local_of v)

    signed : j < length v
    signed = go (leb (length v) j) refl
      where
        go : (b : Bool) → leb (length v) j ≡ b → j < length v
        go true e = absurd (both (stands Mailbox (text_of v)) (sym (mailbox-unsigned v c j refl (leb-true (length v) j e))) y)
        go false e = leb-false (length v) j e

    front : take j v ≡ escape (local_of (text_of v))
    front = front-is v c j refl signed ∙ raw-local v c j refl

    local-written : written_local (take j v) ≡ bare_or (is_bare_local (local_of (text_of v))) (local_of (text_of v))
    unfolding written_local is_bare_local
    local-written =
        let d : single_dots true (take j v) ≡ single_dots true (local_of (text_of v)) = ap (single_dots true) front ∙ dots-raw true (local_of (text_of v)) in
        rw (local-text v c j refl signed, d)

    sign-back : drop j v ≡ 64 ∷ domain_of (text_of v)
    sign-back =
        let d : whole domain (domain_of (text_of v)) ≡ true = unfold stands in and_right (is_text (local_of (text_of v))) _ y in
        let s : domain_of v ≡ domain_of (text_of v) = raw-domain v c j refl ∙ escape-same (domain_of (text_of v)) (domain-each (domain_of (text_of v)) d) in
        ap (drop j) (cut-long v signed) ∙ (drop-append_seam (local_of v) (64 ∷ domain_of v) ∙ ap (λ (l : List ℕ). 64 ∷ l) s)

    written-mailbox : written_mailbox v ≡ pvalue (value_is Mailbox (text_of v))
    unfolding written_mailbox pvalue
    written-mailbox = rw (local-written, sign-back)

pub written_is : (k : ℕ) (v : List ℕ) → IsCoded v → stands (kind_of k) (text_of v) ≡ true → written_value k v ≡ pvalue (record { kind = kind_of k; text = text_of v })
unfolding written_value kind_of
written_is k v c y = go (eqb k 116) refl
  where
    last : (b : Bool) → eqb k 109 ≡ b → stands (cond b Mailbox AtDomain) (text_of v) ≡ true → cond b (written_mailbox v) v ≡ pvalue (value_is (cond b Mailbox AtDomain) (text_of v))
    last true e z = written-mailbox v c z
    last false e z = unfold pvalue in written_at v c z

    next : (b : Bool) → eqb k 113 ≡ b → stands (cond b Quoted (cond (eqb k 109) Mailbox AtDomain)) (text_of v) ≡ true
        → cond b (bare_or false (text_of v)) (cond (eqb k 109) (written_mailbox v) v) ≡ pvalue (value_is (cond b Quoted (cond (eqb k 109) Mailbox AtDomain)) (text_of v))
    next true e z = unfold pvalue bare_or in refl
    next false e z = last (eqb k 109) refl z

    go : (b : Bool) → eqb k 116 ≡ b → written_value k v ≡ pvalue (value_is (kind_of k) (text_of v))
    go true e = unfold pvalue bare_or in rw (written_value, kind_of, e)
    go false e = rw (written_value, kind_of, e) (next (eqb k 113) refl (rw (kind_of, e) at y))
