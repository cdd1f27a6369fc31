-- What the code finds as a property value is what the parser of property values yields, with its kind and its text: case by case, each
-- the next thing to read.
use Prim.Native.Nat.{ℕ, zero, suc, ◌+◌, ◌-◌, ◌≤◌}
use native.Mathlib.Omega.{arith}
use mathlib.Core.Path.{◌≡◌, refl, sym, ap, ◌∙◌}
use mathlib.Core.Bool.{Bool, true, false}
use mathlib.Core.List.{List, [], ◌∷◌, ◌++◌}
use lib.Dec.{eqb}
use lib.ListN.{length, get_or, drop}
use lib.Seq.{length-take-le, drop-drop}
use borrow.Author.Tests.{eqb-true, eqb-false}
use Rattle.base_readers.specs.Texts.{same}
use Rattle.base_readers.specs.Readers.{run}
use Rattle.base_readers.specs.Parsers.{Got, nothing, got, Parser, ◌>>=◌, ◌>>◌, give, when, byte, taken, text, branch}
use Rattle.base_readers.specs.Places.{from}
use Rattle.base_readers.proofs.Texts.{starts_first}
use Rattle.base_readers.proofs.Readers.{run_fits}
use Rattle.base_readers.proofs.Places.{Took, took, none-at, goes_on, stops, gives, passes, fails, byte_at, text_at, text-none, taken_at, this-way, that-way}
use Rattle.lexis_rules.specs.Pieces.{token, quoted}
use Rattle.lexis_rules.specs.Words.{quoted_text}
use Rattle.lexis_laws.proofs.Values.{quoted-text}
use Rattle.result_values.specs.declared.Value as place
use Rattle.result_values.specs.declared.Value.TheVariants as at
use Rattle.std.specs.Prelude.{None}
use Rattle.result_rules.specs.Results.{Kind, Token, Quoted, Mailbox, Value, next, read_quoted, in_local_part, single_dots, is_local_part, domain, addressed, address, quoted_mailbox, quoted_value, token_value, at_behind, property_value}
use Rattle.result_values.specs.Values.{read, up_to, mailbox_at, at_domain_at, address_at, quoted_to, quoted_at, token_at, value_from, value_at, value_of, value_got}
use Rattle.base_sequences.specs.Spans.{span}

abbrev told : Kind → List ℕ → Value
told k t = record { kind = k; text = t }

module _ (s : List ℕ) where
  -- this byte is at a place
  abbrev Byte : ℕ → ℕ → Bool → Type 0
  Byte c i t = eqb (get_or (drop i s) 0 0) c ≡ t

  next-is : (c i : ℕ) (t : Bool) → eqb 0 c ≡ false → Byte c i t → next c (drop i s) ≡ t
  next-is c i t z h = sym (starts_first (λ b. eqb b c) z (drop i s)) ∙ h

  -- ==== "@" and a domain

  abbrev Behind : (List ℕ → Value) → Parser Value
  Behind f = ◌>>◌ (byte 64) (◌>>=◌ (text domain) (λ d. give (f d)))

  behind-got : (sign : ℕ) (v : ℕ → place.Value) (f : List ℕ → Value) → Byte 64 sign true → ((e : ℕ) → value_of s (v e) ≡ f (span s (sign + 1) e))
      → value_got s (up_to (sign + 1) (domain (drop (sign + 1) s)) v) ≡ from (Behind f) s sign
  unfolding up_to
  behind-got sign v f h w = go (domain (drop (sign + 1) s)) refl
    where
      on : (x : Got Value) → x ≡ from (◌>>=◌ (text domain) (λ d. give (f d))) s (sign + 1) → x ≡ from (Behind f) s sign
      on x = goes_on (byte 64) (λ u. ◌>>=◌ (text domain) (λ d. give (f d))) s sign tt (sign + 1) x (byte_at 64 s sign true (sym h) refl refl)

      go : (n : ℕ) → domain (drop (sign + 1) s) ≡ n → value_got s (up_to (sign + 1) n v) ≡ from (Behind f) s sign
      go zero z = on nothing (stops (text domain) (λ d. give (f d)) s (sign + 1) (text-none domain s (sign + 1) (sign + 1) (omega arith) refl))
      go (suc n) z =
          let e = sign + 1 + suc n in
          let d = span s (sign + 1) e in
          ap (λ (y : Value). got y e) (w e)
          ∙ on (got (f d) e)
          (goes_on (text domain) (λ d. give (f d)) s (sign + 1) d e (got (f d) e) (text_at domain s (sign + 1) e (omega arith) (λ i. omega arith)) (gives (f d) s e))

  module _ (start : ℕ) where
    -- ==== addresses

    module _ (sign : ℕ) (q : sign ≡ start + run in_local_part (drop start s)) (h : Byte 64 sign true) where
      l : List ℕ
      l = span s start sign

      -- the run was taken
      run_on : (x : Got Value) → x ≡ from (◌>>◌ (when (is_local_part l)) (Behind (addressed l))) s sign → x ≡ from address s start
      unfolding address l
      run_on x = goes_on (taken (run in_local_part)) _ s start (span s start sign) sign x (taken_at (run in_local_part) s start sign q)

      sound : is_local_part l ≡ true → (x : Got Value) → x ≡ from (Behind (addressed l)) s sign → x ≡ from address s start
      sound t x k = run_on x (goes_on (when (is_local_part l)) (λ u. Behind (addressed l)) s sign tt sign x (passes (is_local_part l) s sign t) k)

      at-domain-got : sign ≡ start → value_got s (at_domain_at s sign) ≡ from address s start
      unfolding l is_local_part same addressed
      at-domain-got z =
          let o : sign - start ≡ 0 = omega arith in
          let n : span s start sign ≡ [] = rw o in
          sound (rw n) (value_got s (at_domain_at s sign))
          (behind-got sign (λ e. at.AtDomain sign e) (addressed (span s start sign)) h (λ e. rw n))

      module _ (ne : sign ≡ start → ⊥) where
        -- the run isn't empty
        long : length l ≡ 0 → ⊥
        unfolding l
        long z =
            let b : run in_local_part (drop start s) ≤ length (drop start s) = run_fits in_local_part (drop start s) in
            let k : length (span s start sign) ≡ sign - start = length-take-le (sign - start) (drop start s) (omega arith) in
            omega arith

        local-is : (l : List ℕ) → (length l ≡ 0 → ⊥) → is_local_part l ≡ single_dots true l
        unfolding is_local_part same
        local-is [] n = absurd (n refl)
        local-is (x ∷ l) n = refl

        addressed-is : (l : List ℕ) → (length l ≡ 0 → ⊥) → (d : List ℕ) → told Mailbox (l ++ (64 ∷ d)) ≡ addressed l d
        unfolding addressed
        addressed-is [] n d = absurd (n refl)
        addressed-is (x ∷ l) n d = refl

        mailbox-got : single_dots true l ≡ true → value_got s (mailbox_at s start sign false) ≡ from address s start
        unfolding l
        mailbox-got t =
            sound (local-is l long ∙ t) (value_got s (mailbox_at s start sign false))
            (behind-got sign (λ e. at.Mailbox start sign e false) (addressed l) h (λ e. addressed-is l long (span s (sign + 1) e)))

        dots-got : single_dots true l ≡ false → nothing ≡ from address s start
        dots-got t = run_on nothing (stops (when (is_local_part l)) (λ u. Behind (addressed l)) s sign (fails (is_local_part l) s sign (local-is l long ∙ t)))

      address-got : value_got s (address_at s start sign) ≡ from address s start
      unfolding address_at l
      address-got = go (eqb sign start) refl
        where
          dots : eqb sign start ≡ false → (t : Bool) → single_dots true (span s start sign) ≡ t → value_got s (address_at s start sign) ≡ from address s start
          dots n true t = rw (address_at, n, t) (mailbox-got (eqb-false sign start n) t)
          dots n false t = rw (address_at, n, t) (dots-got (eqb-false sign start n) t)

          go : (t : Bool) → eqb sign start ≡ t → value_got s (address_at s start sign) ≡ from address s start
          go true n = rw (address_at, n) (at-domain-got (eqb-true sign start n))
          go false n = dots n (single_dots true (span s start sign)) refl

    -- ==== quoted strings

    module _ (n : ℕ) (z : quoted (drop start s) ≡ suc n) where
      e : ℕ
      e = start + suc n

      t : List ℕ
      t = quoted_text (drop start s)

      -- a quoted string was read
      quote-on : (x : Got Value) → x ≡ from (branch (next 64) (quoted_mailbox t) (give (told Quoted t))) s e → x ≡ from quoted_value s start
      unfolding quoted_value read_quoted e t
      quote-on x =
          let a = span s start e in
          let j : start + suc n - start ≡ suc n = omega arith in
          let w : quoted_text a ≡ quoted_text (drop start s) = rw j (quoted-text (drop start s) n z) in
          let k : got (quoted_text a) e ≡ from read_quoted s start
          = goes_on (text quoted) (λ q. give (quoted_text q)) s start a e (got (quoted_text a) e) (text_at quoted s start e (omega arith) (λ i. omega arith)) (gives (quoted_text a) s e) in
          goes_on read_quoted _ s start (quoted_text (drop start s)) e x (rw (← w) k)

      quoted-to-got : value_got s (quoted_to s start (start + suc n)) ≡ from quoted_value s start
      unfolding quoted_to quoted_mailbox e t
      quoted-to-got = go (eqb (get_or (drop (start + suc n) s) 0 0) 64) refl
        where
          go : (b : Bool) → Byte 64 (start + suc n) b → value_got s (quoted_to s start (start + suc n)) ≡ from quoted_value s start
          go true h =
              rw (quoted_to, h)
              (quote-on _
              (this-way (next 64) (quoted_mailbox t) (give (told Quoted t)) s e _ (next-is 64 e true refl h)
              (behind-got e (λ e'. at.Mailbox start e e' true) (λ d. told Mailbox (t ++ (64 ∷ d))) h (λ e'. refl))))
          go false h =
              rw (quoted_to, h)
              (quote-on _ (that-way (next 64) (quoted_mailbox t) (give (told Quoted t)) s e _ (next-is 64 e false refl h) (gives (told Quoted t) s e)))

    quoted-got : value_got s (quoted_at s start) ≡ from quoted_value s start
    unfolding quoted_at quoted_value read_quoted
    quoted-got = go (quoted (drop start s)) refl
      where
        go : (n : ℕ) → quoted (drop start s) ≡ n → value_got s (quoted_at s start) ≡ from quoted_value s start
        go zero z =
            rw (quoted_at, z)
            (stops read_quoted _ s start (stops (text quoted) (λ q. give (quoted_text q)) s start (text-none quoted s start start (omega arith) refl)))
        go (suc n) z = rw (quoted_at, z) (quoted-to-got n z)

    -- ==== tokens

    token-got : value_got s (token_at s start) ≡ from token_value s start
    unfolding up_to token_value
    token-got = go (token (drop start s)) refl
      where
        go : (n : ℕ) → token (drop start s) ≡ n → value_got s (up_to start n (λ e. at.Token start e)) ≡ from token_value s start
        go zero z = stops (text token) _ s start (text-none token s start start (omega arith) refl)
        go (suc n) z =
            let e = start + suc n in
            let a = span s start e in
            goes_on (text token) (λ t. give (told Token t)) s start a e (got (told Token a) e) (text_at token s start e (omega arith) (λ i. omega arith))
            (gives (told Token a) s e)

-- what the code finds is what the parser of property values yields
pub value-got : (s : List ℕ) (at : ℕ) → value_got s (value_at s at) ≡ from property_value s at
unfolding property_value at_behind value_from
value-got s at = go (eqb (get_or (drop sign s) 0 0) 64) refl
  where
    sign : ℕ
    sign = at + run in_local_part (drop at s)

    behind : (t : Bool) → Byte s 64 sign t → at_behind (drop at s) ≡ t
    behind t h = rw drop-drop (next-is s 64 sign t refl h)

    bare : Byte s 64 sign false → (t : Bool) → Byte s 34 at t → value_got s (value_from s at sign) ≡ from property_value s at
    bare h true q =
        rw (value_from, h, q)
        (that-way at_behind address (branch (next 34) quoted_value token_value) s at _ (behind false h)
        (this-way (next 34) quoted_value token_value s at _ (next-is s 34 at true refl q) (quoted-got s at)))
    bare h false q =
        rw (value_from, h, q)
        (that-way at_behind address (branch (next 34) quoted_value token_value) s at _ (behind false h)
        (that-way (next 34) quoted_value token_value s at _ (next-is s 34 at false refl q) (token-got s at)))

    go : (t : Bool) → Byte s 64 sign t → value_got s (value_from s at sign) ≡ from property_value s at
    go true h =
        rw (value_from, h) (this-way at_behind address (branch (next 34) quoted_value token_value) s at _ (behind true h) (address-got s at sign refl h))
    go false h = bare h (eqb (get_or (drop at s) 0 0) 34) refl

module _ (s : List ℕ) (at : ℕ) where
  -- so a property value that the code finds is the one that is read
  pub value_found : (v : place.Value) (e : ℕ) → read v e ≡ value_at s at → Took property_value s at (value_of s v) e
  value_found v e h = took property_value s at (value_of s v) e (ap (value_got s) h ∙ value-got s at)

  pub value_not : None ≡ value_at s at → property_value (drop at s) ≡ nothing
  value_not h = none-at property_value s at (ap (value_got s) h ∙ value-got s at)
