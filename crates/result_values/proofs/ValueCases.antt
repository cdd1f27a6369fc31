-- Property values, by the tests that the code makes in turn. The premises of each law are what a call ensures and what a test says of its
-- answer.
use Prim.Native.Nat.{ℕ, zero, suc, ◌+◌, ◌-◌, ◌≤◌, ◌<◌}
use native.Mathlib.Omega.{arith}
use mathlib.Core.Path.{◌≡◌, refl, sym, ap, ◌∙◌}
use mathlib.Core.Bool.{Bool, true, false}
use mathlib.Core.List.{List}
use Rattle.std.specs.Prelude.{Option, None}
use lib.Dec.{eqb}
use lib.ListN.{length, get_or, take, drop}
use lib.Seq.{drop-drop}
use borrow.Author.Tests.{eq-eqb, ne_eqb}
use Rattle.base_readers.specs.Readers.{run}
use Rattle.base_readers.proofs.Readers.{there-at}
use Rattle.lexis_rules.specs.Pieces.{token, quoted}
use Rattle.result_values.specs.declared.Value as place
use Rattle.result_values.specs.declared.Value.TheVariants.{Token, Quoted, Mailbox, AtDomain}
use Rattle.result_values.specs.declared.Found.{Found}
use Rattle.result_rules.specs.Results.{in_local_part, single_dots, domain}
use Rattle.result_laws.proofs.Values.{local-past-token}
use Rattle.result_values.specs.Values.{read, up_to, mailbox_at, at_domain_at, address_at, quoted_to, quoted_at, token_at, value_from, value_at}

-- ==== from a place up to another

module _ (a n e : ℕ) (v : ℕ → place.Value) (q : e ≡ a + n) where
  up-to-none : e ≡ a → None ≡ up_to a n v
  unfolding up_to
  up-to-none z = let o : n ≡ 0 = omega arith in rw o

  up-to-read : (e ≡ a → ⊥) → read (v e) e ≡ up_to a n v
  unfolding up_to
  up-to-read ne = go n refl
    where
      go : (m : ℕ) → n ≡ m → read (v e) e ≡ up_to a m v
      go zero z = absurd (ne (omega arith))
      go (suc m) z = let j : e ≡ a + suc m = omega arith in rw j

module _ (s : List ℕ) (sign e : ℕ) (q : e ≡ sign + 1 + domain (drop (sign + 1) s)) where
  pub at-domain-none : e ≡ sign + 1 → None ≡ at_domain_at s sign
  at-domain-none = up-to-none (sign + 1) (domain (drop (sign + 1) s)) e (λ e. AtDomain sign e) q

  pub at-domain-read : (e ≡ sign + 1 → ⊥) → read (AtDomain sign e) e ≡ at_domain_at s sign
  at-domain-read = up-to-read (sign + 1) (domain (drop (sign + 1) s)) e (λ e. AtDomain sign e) q

  module _ (start : ℕ) (b : Bool) where
    pub mailbox-none : e ≡ sign + 1 → None ≡ mailbox_at s start sign b
    mailbox-none = up-to-none (sign + 1) (domain (drop (sign + 1) s)) e (λ e. Mailbox start sign e b) q

    pub mailbox-read : (e ≡ sign + 1 → ⊥) → read (Mailbox start sign e b) e ≡ mailbox_at s start sign b
    mailbox-read = up-to-read (sign + 1) (domain (drop (sign + 1) s)) e (λ e. Mailbox start sign e b) q

-- ==== addresses

-- "@" that a test found is there
pub sign-there : (s : List ℕ) (i : ℕ) (r : Bool) → r ≡ eqb (get_or (drop i s) 0 0) 64 → r ≡ true → i < length s
sign-there s i r h t = omega (arith, there-at (λ b. eqb b 64) refl s i 0 (sym h ∙ t))

module _ (s : List ℕ) (start sign : ℕ) where
  pub address-empty : sign ≡ start → (x : Option Found) → x ≡ at_domain_at s sign → x ≡ address_at s start sign
  unfolding address_at
  address-empty z x h = h ∙ sym (rw (address_at, eq-eqb sign start z))

  module _ (ne : sign ≡ start → ⊥) (r : Bool) (h : r ≡ single_dots true (take (sign - start) (drop start s))) where
    pub address-sound : r ≡ true → (x : Option Found) → x ≡ mailbox_at s start sign false → x ≡ address_at s start sign
    unfolding address_at
    address-sound t x k = k ∙ sym (rw (address_at, ne_eqb sign start ne, ← h, t))

    pub address-dots : r ≡ false → None ≡ address_at s start sign
    unfolding address_at
    address-dots t = sym (rw (address_at, ne_eqb sign start ne, ← h, t))

-- ==== quoted strings

module _ (s : List ℕ) (start e : ℕ) (q : e ≡ start + quoted (drop start s)) where
  pub quoted-none : e ≡ start → None ≡ quoted_at s start
  unfolding quoted_at
  quoted-none z = let n : quoted (drop start s) ≡ 0 = omega arith in rw (quoted_at, n)

  module _ (ne : e ≡ start → ⊥) (r : Bool) (h : r ≡ eqb (get_or (drop e s) 0 0) 64) where
    to : quoted_to s start e ≡ quoted_at s start
    unfolding quoted_at
    to = go (quoted (drop start s)) refl
      where
        go : (n : ℕ) → quoted (drop start s) ≡ n → quoted_to s start e ≡ quoted_at s start
        go zero z = absurd (ne (omega arith))
        go (suc n) z = let j : e ≡ start + suc n = omega arith in rw (quoted_at, z, j)

    pub quoted-mailbox : r ≡ true → (x : Option Found) → x ≡ mailbox_at s start e true → x ≡ quoted_at s start
    unfolding quoted_to
    quoted-mailbox t x k = k ∙ (sym (rw (quoted_to, ← h, t)) ∙ to)

    pub quoted-read : r ≡ false → read (Quoted start e) e ≡ quoted_at s start
    unfolding quoted_to
    quoted-read t = sym (rw (quoted_to, ← h, t)) ∙ to

-- ==== the four kinds: the token at the place, the run of bytes of a local part, and what stands behind it

module _ (s : List ℕ) (start e sign : ℕ) (p : e ≡ start + token (drop start s)) (q : sign ≡ e + run in_local_part (drop e s))
    (r : Bool) (h : r ≡ eqb (get_or (drop sign s) 0 0) 64) where
  -- the run from the place on goes on where the token ends
  local-run : sign ≡ start + run in_local_part (drop start s)
  local-run =
      let d : drop (token (drop start s)) (drop start s) ≡ drop e s = rw (drop-drop, ← p) in
      let l : run in_local_part (drop start s) ≡ token (drop start s) + run in_local_part (drop e s) = rw d at (local-past-token (drop start s)) in
      omega arith

  from-sign : value_at s start ≡ value_from s start sign
  from-sign = ap (value_from s start) (sym local-run)

  -- "@" stands behind the run
  pub sign-behind : r ≡ true → (start ≤ sign) × (sign < length s)
  sign-behind t = (omega arith, sign-there s sign r h t)

  pub value-address : r ≡ true → (x : Option Found) → x ≡ address_at s start sign → x ≡ value_at s start
  unfolding value_from
  value-address t x k = k ∙ sym (from-sign ∙ rw (value_from, ← h, t))

  module _ (f : r ≡ false) (r' : Bool) (h' : r' ≡ eqb (get_or (drop start s) 0 0) 34) where
    pub value-quoted : r' ≡ true → (x : Option Found) → x ≡ quoted_at s start → x ≡ value_at s start
    unfolding value_from
    value-quoted t x k = k ∙ sym (from-sign ∙ rw (value_from, ← h, f, ← h', t))

    module _ (t : r' ≡ false) where
      unaddressed : token_at s start ≡ value_at s start
      unfolding value_from
      unaddressed = sym (from-sign ∙ rw (value_from, ← h, f, ← h', t))

      pub value_none : e ≡ start → None ≡ value_at s start
      value_none z = up-to-none start (token (drop start s)) e (λ e. Token start e) p z ∙ unaddressed

      pub value-token : (e ≡ start → ⊥) → read (Token start e) e ≡ value_at s start
      value-token ne = up-to-read start (token (drop start s)) e (λ e. Token start e) p ne ∙ unaddressed
