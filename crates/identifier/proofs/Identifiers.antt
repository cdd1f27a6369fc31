-- The identifier, by the tests that the code makes in turn; and what the code finds is what the parser of identifiers yields.
use Prim.Native.Nat.{ℕ, zero, suc, ◌+◌, ◌-◌, ◌≤◌}
use native.Mathlib.Nat.{zero-add}
use native.Mathlib.Omega.{arith}
use mathlib.Core.Path.{◌≡◌, refl, sym, ap, ◌∙◌}
use mathlib.Core.Bool.{Bool, true, false}
use mathlib.Core.List.{List}
use lib.Dec.{eqb}
use lib.ListN.{length, get_or, take, drop, length-drop}
use borrow.Author.Tests.{eq-eqb, ne_eqb, eqb-true, eqb-false}
use Rattle.base_readers.specs.Texts.{follows}
use Rattle.base_readers.specs.Parsers.{Got, nothing, got, ◌>>=◌, ◌>>◌, give, ahead, text}
use Rattle.base_readers.specs.Places.{from}
use Rattle.base_readers.proofs.Readers.{choose_yes, choose_no, run_fits}
use Rattle.base_readers.proofs.Places.{took, none-at, goes_on, stops, gives, skipping-at, text_at, text-none, ahead-at, ahead_none}
use Rattle.lexis_rules.specs.declared.Class.TheVariants.{Delimiter}
use Rattle.lexis_rules.specs.Bytes.{in_class}
use Rattle.lexis_rules.specs.Pieces.{space, quoted}
use Rattle.lexis_rules.specs.Words.{value_text, skip}
use Rattle.lexis_laws.proofs.Pieces.{space-fits, quoted-fits}
use Rattle.lexis_laws.proofs.Values.{quoted-text, quote-text, token-text}
use Rattle.identifier.specs.declared.Identifier.{Identifier}
use Rattle.identifier.specs.declared.Identifier.TheVariants.{Readable, Unreadable}
use Rattle.identifier_rules.specs.Identifier.{identifier_token, identifier_value, identifier}
use Rattle.identifier.specs.Answers.{readable, identifier_from, identifier_at, text_of, identifier_got}

-- ==== by the tests of the code

module _ (s : List ℕ) (a e : ℕ) (q : Bool) where
  pub readable-none : e ≡ a → Unreadable ≡ readable s a e q
  unfolding readable
  readable-none z = rw (readable, eq-eqb e a z)

  module _ (ne : e ≡ a → ⊥) (d : Bool) (h : d ≡ follows (in_class Delimiter) (drop e s)) where
    pub readable-yes : d ≡ true → Readable a e q ≡ readable s a e q
    unfolding readable
    readable-yes t = rw (readable, ne_eqb e a ne, ← h, t)

    pub readable-no : d ≡ false → Unreadable ≡ readable s a e q
    unfolding readable
    readable-no t = rw (readable, ne_eqb e a ne, ← h, t)

module _ (s : List ℕ) (a : ℕ) (w : a ≡ 0 + space s) (r : Bool) (h : r ≡ eqb (get_or (drop a s) 0 0) 34) where
  starts-at : identifier_at s ≡ identifier_from s a
  starts-at = ap (identifier_from s) (omega arith)

  pub identify-quoted : r ≡ true → (e : ℕ) → e ≡ a + quoted (drop a s) → (x : Identifier) → x ≡ readable s a e true → x ≡ identifier_at s
  unfolding identifier_from
  identify-quoted t e p x q = q ∙ (rw p (sym (starts-at ∙ rw (identifier_from, ← h, t))))

  pub identify-token : r ≡ false → (e : ℕ) → e ≡ a + identifier_token (drop a s) → (x : Identifier) → x ≡ readable s a e false → x ≡ identifier_at s
  unfolding identifier_from
  identify-token t e p x q = q ∙ (rw p (sym (starts-at ∙ rw (identifier_from, ← h, t))))

-- ==== what the parser yields

module _ (s : List ℕ) where
  a : ℕ
  a = space s

  module _ (e : ℕ) (q : e ≡ a + identifier_value (drop a s)) where
    -- space was skipped; then the value
    behind : (x : Got (List ℕ)) → x ≡ from (◌>>=◌ (text identifier_value) (λ v. ◌>>◌ (ahead (in_class Delimiter)) (give (value_text v)))) s a → x ≡ from identifier s 0
    unfolding identifier a
    behind x h = goes_on skip _ s 0 tt (space s) x (skipping-at space s 0 (space s) (sym (zero-add (space s)))) h

    no_value : e ≡ a → nothing ≡ from identifier s 0
    no_value z = behind nothing (stops (text identifier_value) _ s a (text-none identifier_value s a e q z))

    module _ (ne : e ≡ a → ⊥) where
      some-value : (x : Got (List ℕ)) → x ≡ from (◌>>◌ (ahead (in_class Delimiter)) (give (value_text (take (e - a) (drop a s))))) s e → x ≡ from identifier s 0
      some-value x h = behind x (goes_on (text identifier_value) _ s a (take (e - a) (drop a s)) e x (text_at identifier_value s a e q ne) h)

      undelimited : follows (in_class Delimiter) (drop e s) ≡ false → nothing ≡ from identifier s 0
      undelimited f = some-value nothing (stops (ahead (in_class Delimiter)) _ s e (ahead_none (in_class Delimiter) s e false (sym f) refl))

      delimited : follows (in_class Delimiter) (drop e s) ≡ true → got (value_text (take (e - a) (drop a s))) e ≡ from identifier s 0
      delimited t =
          some-value _
          (goes_on (ahead (in_class Delimiter)) _ s e tt e _ (ahead-at (in_class Delimiter) s e true (sym t) refl) (gives (value_text (take (e - a) (drop a s))) s e))

  -- a value from a on, quoted or not, with its text
  value-got : (b : Bool) (n : ℕ) → identifier_value (drop a s) ≡ n → ((m : ℕ) → n ≡ suc m → value_text (take (suc m) (drop a s)) ≡ text_of s a (a + suc m) b)
      → identifier_got s (readable s a (a + n) b) ≡ from identifier s 0
  value-got b zero v t = ap (identifier_got s) (sym (readable-none s a (a + 0) b (omega arith))) ∙ no_value (a + 0) (ap (◌+◌ a) (sym v)) (omega arith)
  value-got b (suc m) v t = go (follows (in_class Delimiter) (drop (a + suc m) s)) refl
    where
      q : a + suc m ≡ a + identifier_value (drop a s)
      q = ap (◌+◌ a) (sym v)

      ne : a + suc m ≡ a → ⊥
      ne z = omega arith

      j : a + suc m - a ≡ suc m
      j = omega arith

      go : (f : Bool) → follows (in_class Delimiter) (drop (a + suc m) s) ≡ f → identifier_got s (readable s a (a + suc m) b) ≡ from identifier s 0
      go true f =
          ap (identifier_got s) (sym (readable-yes s a (a + suc m) b ne true (sym f) refl))
          ∙ (ap (λ (x : List ℕ). got x (a + suc m)) (sym (rw j (t m refl))) ∙ delimited (a + suc m) q ne f)
      go false f = ap (identifier_got s) (sym (readable-no s a (a + suc m) b ne false (sym f) refl)) ∙ undelimited (a + suc m) q ne f

  -- what the code finds is what the parser of identifiers yields
  pub identifier-got : identifier_got s (identifier_at s) ≡ from identifier s 0
  unfolding identifier_from a
  identifier-got = go (eqb (get_or (drop (space s) s) 0 0) 34) refl
    where
      go : (t : Bool) → eqb (get_or (drop (space s) s) 0 0) 34 ≡ t → identifier_got s (identifier_from s (space s)) ≡ from identifier s 0
      go true h =
          let c : identifier_value (drop (space s) s) ≡ quoted (drop (space s) s) = choose_yes 34 quoted identifier_token (drop (space s) s) h in
          rw (identifier_from, h)
          (value-got true (quoted (drop (space s) s)) c (λ m z. quote-text (drop (space s) s) m h ∙ quoted-text (drop (space s) s) m z))
      go false h =
          let c : identifier_value (drop (space s) s) ≡ identifier_token (drop (space s) s) = choose_no 34 quoted identifier_token (drop (space s) s) h in
          rw (identifier_from, h)
          (value-got false (identifier_token (drop (space s) s)) c (λ m z. let j : space s + suc m - space s ≡ suc m = omega arith in token-text (drop (space s) s) m h ∙ rw j))

  -- so an identifier that the code finds is the one that is read
  pub identifier-found : (a e : ℕ) (q : Bool) → Readable a e q ≡ identifier_at s → identifier s ≡ got (text_of s a e q) e
  identifier-found a e q h =
      let t = took identifier s 0 (text_of s a e q) e (ap (identifier_got s) h ∙ identifier-got) in
      let z : t.size ≡ e = omega (arith, t.sum) in
      t.is ∙ rw z

  pub identifier-not : Unreadable ≡ identifier_at s → identifier s ≡ nothing
  identifier-not h = none-at identifier s 0 (ap (identifier_got s) h ∙ identifier-got)

-- ==== where it stands

readable-inv : (s : List ℕ) (a e : ℕ) (q : Bool) (b f : ℕ) (p : Bool) → Readable b f p ≡ readable s a e q → (b ≡ a) × (f ≡ e)
readable-inv s a e q b f p h = first (eqb e a) refl
  where
    apart : Readable b f p ≡ Unreadable → (b ≡ a) × (f ≡ e)
    apart z = absurd (let o : ◌≡◌ {A = ℕ} 0 1 = cc in omega arith)

    second : eqb e a ≡ false → (t : Bool) → follows (in_class Delimiter) (drop e s) ≡ t → (b ≡ a) × (f ≡ e)
    second n true d =
        let w : Readable b f p ≡ Readable a e q = h ∙ sym (readable-yes s a e q (eqb-false e a n) true (sym d) refl) in
        let u : b ≡ a = cc in
        let v : f ≡ e = cc in
        (u, v)
    second n false d = apart (h ∙ sym (readable-no s a e q (eqb-false e a n) false (sym d) refl))

    first : (t : Bool) → eqb e a ≡ t → (b ≡ a) × (f ≡ e)
    first true n = apart (h ∙ sym (readable-none s a e q (eqb-true e a n)))
    first false n = second n (follows (in_class Delimiter) (drop e s)) refl

-- it lies inside the body
pub identifier-inside : (s : List ℕ) (a e : ℕ) (q : Bool) → Readable a e q ≡ identifier_at s → (a ≤ e) × (e ≤ length s)
unfolding identifier_from
identifier-inside s a e q h = go (eqb (get_or (drop (space s) s) 0 0) 34) refl
  where
    within : (n : ℕ) → n ≤ length (drop (space s) s) → (a ≡ space s) × (e ≡ space s + n) → (a ≤ e) × (e ≤ length s)
    within n l v = (omega arith, omega (arith, length-drop (space s) s, space-fits s))

    go : (t : Bool) → eqb (get_or (drop (space s) s) 0 0) 34 ≡ t → (a ≤ e) × (e ≤ length s)
    go true t =
        let w : Readable a e q ≡ readable s (space s) (space s + quoted (drop (space s) s)) true = h ∙ rw (identifier_from, t) in
        within (quoted (drop (space s) s)) (quoted-fits (drop (space s) s)) (readable-inv s (space s) _ true a e q w)
    go false t =
        let w : Readable a e q ≡ readable s (space s) (space s + identifier_token (drop (space s) s)) false = h ∙ rw (identifier_from, t) in
        within (identifier_token (drop (space s) s)) (run_fits _ (drop (space s) s)) (readable-inv s (space s) _ false a e q w)
