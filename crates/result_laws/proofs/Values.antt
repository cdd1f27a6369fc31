-- A property value is the same whatever comes behind the end or the delimiter that follows it: each kind from the laws of its parts, and
-- the two choices because each kind tells itself apart by its bytes and the one that follows.
use Prim.Native.Char.{code}
use Prim.Native.Nat.{ℕ, suc, ◌+◌, ◌≤◌, ◌<◌}
use native.Mathlib.Omega.{arith}
use mathlib.Core.Path.{◌≡◌, refl, sym, ◌∙◌}
use mathlib.Core.Bool.{Bool, true, false, not, ◌&&◌, ◌||◌}
use mathlib.Core.List.{List, [], ◌∷◌, ◌++◌}
use lib.Dec.{T, eqb, leb}
use lib.ListN.{drop}
use borrow.Author.Tests.{leb-true}
use Rattle.base_sequences.proofs.Booleans.{no_true, and_left, and_right, or-none, true-not}
use Rattle.base_sequences.proofs.Tables.{tested_at}
use Rattle.base_readers.specs.Texts.{bytes, within, one_of, outside}
use Rattle.base_readers.specs.Readers.{run}
use Rattle.base_readers.specs.Parsers.{got, Parser, ◌>>=◌, ◌>>◌, give, when, byte, taken, text, branch}
use Rattle.base_readers.specs.Locality.{Within, Any, Ends, Starts, Steady, Opens}
use Rattle.base_readers.proofs.Texts.{one_in, one_out, starts_first, starts-weaker, starts-follows, follows-weaker, follows-not}
use Rattle.base_readers.proofs.Readers.{run_fits, run-first, run-from, run-narrow, between_first, passing-fits}
use Rattle.base_readers.proofs.Local.{run-local, passing-local}
use Rattle.base_readers.proofs.Sequencing.{bind_inv, give-inv, when-inv, taken-inv, text-inv, branch_no}
use Rattle.base_readers.proofs.Bounds.{within-weaker, bind-within, give-within, when-within, byte-within, taken-within, text-within, branch-within}
use Rattle.base_readers.proofs.Openings.{bind-opens, byte-opens, text-opens, branch-opens, taken-opens, test-first, opens-weaker}
use Rattle.base_readers.proofs.Steadiness.{steady-weaker, then-steady, map-steady, give-steady, when-steady, byte-steady, taken-steady, text-steady, branch-steady}
use Rattle.lexis_rules.specs.declared.Class.TheVariants as class
use Rattle.lexis_rules.specs.Bytes.{in_class}
use Rattle.lexis_rules.specs.Pieces.{space, token, quoted}
use Rattle.lexis_rules.specs.Words.{quoted_text}
use Rattle.lexis_laws.proofs.Pieces.{quoted-fits}
use Rattle.lexis_laws.proofs.Locality.{quoted-local, token-local}
use Rattle.result_rules.specs.Results.{Value, Token, Quoted, Mailbox, next, read_quoted, in_local_part, in_domain, is_local_part, is_domain, domain, addressed, address, quoted_mailbox, quoted_value, token_value, at_behind, property_value}
use Rattle.result_rules.proofs.Unfolding.{opened}
use Rattle.result_laws.proofs.Following.{Delimited, solid, listed-ends, delimited-ends, next-not}

-- ==== quoted strings and domains

pub quoted-first : (xs : List ℕ) (n : ℕ) → quoted xs ≡ suc n → Starts (λ b. eqb b (code "\"")) xs
quoted-first xs n e = sym (starts_first (λ b. eqb b 34) refl xs) ∙ between_first 34 34 _ xs n e

pub quoted-within : Within 1 read_quoted
unfolding read_quoted
quoted-within = bind-within 1 (text quoted) (λ q. give (quoted_text q)) (text-within quoted quoted-fits) (λ q. give-within (quoted_text q))

pub quoted-opens : Opens read_quoted (Starts (λ b. eqb b (code "\"")))
unfolding read_quoted
quoted-opens = bind-opens (text quoted) (λ q. give (quoted_text q)) (Starts (λ b. eqb b 34)) (text-opens quoted (Starts (λ b. eqb b 34)) quoted-first)

pub quoted-steady : Steady read_quoted Any
unfolding read_quoted
quoted-steady = map-steady (text quoted) quoted_text Any (text-steady quoted Any quoted-local)

pub domain-within : Within 1 (text domain)
domain-within = text-within domain (passing-fits is_domain (run in_domain) (run_fits in_domain))

pub domain-steady : Steady (text domain) Delimited
unfolding opened
domain-steady =
    steady-weaker (text domain) (Ends (run in_domain)) Delimited (delimited-ends in_domain refl)
    (text-steady domain (Ends (run in_domain)) (passing-local is_domain (run in_domain) (Ends (run in_domain)) (run-local in_domain)))

-- "@", a domain and what is made of it
abbrev at_domain_reader : (List ℕ → Value) → Parser Value
at_domain_reader f = ◌>>◌ (byte 64) (◌>>=◌ (text domain) (λ d. give (f d)))

module _ (f : List ℕ → Value) where
  at-within : Within 1 (at_domain_reader f)
  at-within =
      bind-within 1 (byte 64) (λ u. ◌>>=◌ (text domain) (λ d. give (f d))) (byte-within 64)
      (λ u. bind-within 0 (text domain) (λ d. give (f d)) (within-weaker 0 1 (text domain) domain-within (omega arith)) (λ d. give-within (f d)))

  at-opens : Opens (at_domain_reader f) (Starts (λ b. eqb b 64))
  at-opens = bind-opens (byte 64) (λ u. ◌>>=◌ (text domain) (λ d. give (f d))) (Starts (λ b. eqb b 64)) (byte-opens 64 (Starts (λ b. eqb b 64)) (λ xs s. s))

  at-steady : Steady (at_domain_reader f) Delimited
  at-steady =
      then-steady (byte 64) (λ u. ◌>>=◌ (text domain) (λ d. give (f d))) Any Delimited (byte-steady 64)
      (λ u. map-steady (text domain) f Delimited domain-steady) (λ u xs a n h. tt)

pub no-at : (t : List ℕ) → Delimited t → next 64 t ≡ false
unfolding in_class one_of
no-at t g =
    follows-not (λ b. eqb b 64) t
    (follows-weaker (in_class class.Delimiter) (outside (λ b. eqb b 64)) (one_in (bytes " \t\r(;") (outside (λ b. eqb b 64)) refl) t g)

-- ==== address

abbrev tested_reader : List ℕ → Parser Value
tested_reader l = ◌>>◌ (when (is_local_part l)) (at_domain_reader (addressed l))

address-within : Within 0 address
unfolding address
address-within =
    bind-within 0 (taken (run in_local_part)) tested_reader (taken-within (run in_local_part) (run_fits in_local_part))
    (λ l. bind-within 0 (when (is_local_part l)) (λ u. at_domain_reader (addressed l)) (when-within (is_local_part l))
    (λ u. within-weaker 0 1 (at_domain_reader (addressed l)) (at-within (addressed l)) (omega arith)))

address-opens : Opens address (Ends space)
unfolding address opened
address-opens =
    taken-opens (run in_local_part) tested_reader (Ends space) (λ xs n e. solid in_local_part refl xs (run-first in_local_part xs n e))
    (λ l. test-first (is_local_part l) (at_domain_reader (addressed l)) (Ends space)
    (opens-weaker (at_domain_reader (addressed l)) (Starts (λ b. eqb b 64)) (Ends space) (solid (λ b. eqb b 64) refl) (at-opens (addressed l))))

address-steady : Steady address Delimited
unfolding address opened
address-steady =
    then-steady (taken (run in_local_part)) tested_reader (Ends (run in_local_part)) Delimited
    (taken-steady (run in_local_part) (Ends (run in_local_part)) (run-local in_local_part) (λ t g. g))
    (λ l. then-steady (when (is_local_part l)) (λ u. at_domain_reader (addressed l)) Any Delimited (when-steady (is_local_part l) Any)
    (λ u. at-steady (addressed l)) (λ u xs a n h. tt))
    (λ l. test-first (is_local_part l) (at_domain_reader (addressed l)) (Ends (run in_local_part))
    (opens-weaker (at_domain_reader (addressed l)) (Starts (λ b. eqb b 64)) (Ends (run in_local_part)) (λ xs s. at-ends xs s) (at-opens (addressed l))))
  where
    at-ends : (xs : List ℕ) → Starts (λ b. eqb b 64) xs → Ends (run in_local_part) xs
    at-ends xs s = listed-ends (64 ∷ []) in_local_part refl xs (starts-weaker (λ b. eqb b 64) (one_of (64 ∷ [])) (λ b e. rw e) xs s)

-- where an address is read, "@" follows the run
address-at : (xs : List ℕ) (a : Value) (n : ℕ) → address xs ≡ got a n → at_behind xs ≡ true
unfolding address at_behind
address-at xs a n h =
    let v = bind_inv (taken (run in_local_part)) tested_reader xs a n h in
    let l = v.val in
    let ys = drop v.fst xs in
    let w = bind_inv (when (is_local_part l)) (λ u. at_domain_reader (addressed l)) ys a v.snd v.goes in
    let z : w.fst ≡ 0 = (when-inv (is_local_part l) ys w.val w.fst w.reads).1 in
    let e : run in_local_part xs ≡ v.fst = (taken-inv (run in_local_part) xs l v.fst v.reads).0 in
    let s : Starts (λ b. eqb b 64) (drop w.fst ys) = at-opens (addressed l) (drop w.fst ys) a w.snd w.goes in
    rw e (rw z at s)

-- ==== quoted values

module _ (q : List ℕ) where
  abbrev mailbox : List ℕ → Value
  mailbox d = record { kind = Mailbox; text = q ++ (code "@" ∷ d) }

  abbrev plain : Value
  plain = record { kind = Quoted; text = q }

  quoted-end-steady : Steady (branch (next 64) (quoted_mailbox q) (give plain)) Delimited
  unfolding quoted_mailbox
  quoted-end-steady =
      branch-steady (next 64) (at_domain_reader mailbox) (give plain) Delimited (at-steady mailbox) (give-steady plain Delimited)
      (λ a xs n h g. at-opens mailbox xs a n h) (λ a xs n h g. no-at xs (rw (give-inv plain xs a n h).1 at g))

  quoted-end-within : Within 0 (branch (next 64) (quoted_mailbox q) (give plain))
  unfolding quoted_mailbox
  quoted-end-within =
      branch-within 0 (next 64) (at_domain_reader mailbox) (give plain) (within-weaker 0 1 (at_domain_reader mailbox) (at-within mailbox) (omega arith)) (give-within plain)

quoted-value-within : Within 1 quoted_value
unfolding quoted_value
quoted-value-within = bind-within 1 read_quoted _ quoted-within quoted-end-within

quoted-value-opens : Opens quoted_value (Starts (λ b. eqb b (code "\"")))
unfolding quoted_value
quoted-value-opens = bind-opens read_quoted _ (Starts (λ b. eqb b 34)) quoted-opens

quoted-value-steady : Steady quoted_value Delimited
unfolding quoted_value
quoted-value-steady = then-steady read_quoted _ Any Delimited quoted-steady quoted-end-steady (λ q xs a n h. tt)

-- ==== tokens

abbrev token_is : List ℕ → Value
token_is t = record { kind = Token; text = t }

token-value-within : Within 1 token_value
unfolding token_value
token-value-within = bind-within 1 (text token) (λ t. give (token_is t)) (text-within token (run_fits (in_class class.Token))) (λ t. give-within (token_is t))

pub token-value-opens : Opens token_value (Starts (in_class class.Token))
unfolding token_value
token-value-opens =
    bind-opens (text token) (λ t. give (token_is t)) (Starts (in_class class.Token)) (text-opens token (Starts (in_class class.Token)) (run-first (in_class class.Token)))

token-value-steady : Steady token_value Delimited
unfolding token_value opened
token-value-steady =
    map-steady (text token) token_is Delimited
    (steady-weaker (text token) (Ends token) Delimited (delimited-ends (in_class class.Token) refl) (text-steady token (Ends token) token-local))

-- every byte of a token may stand in a local part
pub token-bound : (b : ℕ) → in_class class.Token b ≡ true → b < 127
unfolding in_class within
token-bound b e = omega (arith, leb-true b 126 (and_right (leb 33 b) (leb b 126) (and_left (leb 33 b && leb b 126) _ e)))

pub implied : (a b : Bool) → T (not a || b) → a ≡ true → b ≡ true
implied true true t e = refl
implied true false t e = absurd t
implied false b t e = absurd (no_true e)

pub token-in-local : (b : ℕ) → in_class class.Token b ≡ true → in_local_part b ≡ true
unfolding opened
token-in-local b e =
    implied (in_class class.Token b) (in_local_part b) (tested_at (λ b. not (in_class class.Token b) || in_local_part b) 127 b tt (token-bound b e)) e

-- so the run of bytes of a local part goes on where the token at its front ends
pub local-past-token : (xs : List ℕ) → run in_local_part xs ≡ token xs + run in_local_part (drop (token xs) xs)
local-past-token xs = run-from in_local_part (token xs) xs (run-narrow (in_class class.Token) in_local_part token-in-local xs)

-- behind a token with what may follow it, no "@" follows the longer run
pub token-no-at : (xs : List ℕ) (a : Value) (n : ℕ) → token_value xs ≡ got a n → Delimited (drop n xs) → at_behind xs ≡ false
unfolding token_value at_behind opened
token-no-at xs a n h g =
    let v = bind_inv (text token) (λ t. give (token_is t)) xs a n h in
    let u = text-inv token xs v.val v.fst v.reads in
    let z : v.snd ≡ 0 = (give-inv (token_is v.val) (drop v.fst xs) a v.snd v.goes).1 in
    let l : token xs ≡ n = omega (arith, v.sum, u.takes) in
    let e : run in_local_part (drop n xs) ≡ 0 = delimited-ends in_local_part refl (drop n xs) g in
    let k : token xs ≤ run in_local_part xs = run-narrow (in_class class.Token) in_local_part token-in-local xs in
    let m : run in_local_part xs ≡ n = omega (arith, run-from in_local_part n xs (rw (← l) k)) in
    rw m (no-at (drop n xs) g)

-- ==== the four kinds

abbrev unaddressed : Parser Value
unaddressed = branch (next 34) quoted_value token_value

pub quote-no-at : (xs : List ℕ) → Starts (λ b. eqb b 34) xs → at_behind xs ≡ false
unfolding at_behind opened
quote-no-at xs s =
    let m : run in_local_part xs ≡ 0 = listed-ends (34 ∷ []) in_local_part refl xs (starts-weaker (λ b. eqb b 34) (one_of (34 ∷ [])) (λ b e. rw e) xs s) in
    rw m (next-not 34 (λ b. eqb b 64) refl xs s)

pub token-no-quote : (xs : List ℕ) → Starts (in_class class.Token) xs → next 34 xs ≡ false
unfolding opened
token-no-quote xs s =
    follows-not (λ b. eqb b 34) xs
    (starts-follows (outside (λ b. eqb b 34)) xs
    (starts-weaker (in_class class.Token) (outside (λ b. eqb b 34)) (λ b e. true-not (eqb b 34) (not-quote b e)) xs s))
  where
    not-quote : (b : ℕ) → in_class class.Token b ≡ true → eqb b 34 ≡ false
    not-quote b e = sym (or-none (eqb b 34)) ∙ one_out (34 ∷ []) (in_class class.Token) refl b e

unaddressed-steady : Steady unaddressed Delimited
unaddressed-steady =
    branch-steady (next 34) quoted_value token_value Delimited quoted-value-steady token-value-steady (λ a xs n h g. quoted-value-opens xs a n h)
    (λ a xs n h g. token-no-quote xs (token-value-opens xs a n h))

unaddressed-no-at : (a : Value) (xs : List ℕ) (n : ℕ) → unaddressed xs ≡ got a n → Delimited (drop n xs) → at_behind xs ≡ false
unaddressed-no-at a xs n h g = go (next 34 xs) refl
  where
    go : (b : Bool) → next 34 xs ≡ b → at_behind xs ≡ false
    go true e = quote-no-at xs e
    go false e = token-no-at xs a n (sym (branch_no (next 34) quoted_value token_value xs e) ∙ h) g

pub property-value-within : Within 0 property_value
unfolding property_value
property-value-within =
    branch-within 0 at_behind address unaddressed address-within
    (within-weaker 0 1 unaddressed (branch-within 1 (next 34) quoted_value token_value quoted-value-within token-value-within) (omega arith))

pub property-value-opens : Opens property_value (Ends space)
unfolding property_value opened
property-value-opens =
    branch-opens at_behind address unaddressed (Ends space) address-opens
    (branch-opens (next 34) quoted_value token_value (Ends space)
    (opens-weaker quoted_value (Starts (λ b. eqb b 34)) (Ends space) (solid (λ b. eqb b 34) refl) quoted-value-opens)
    (opens-weaker token_value (Starts (in_class class.Token)) (Ends space) (solid (in_class class.Token) refl) token-value-opens))

pub property-value-steady : Steady property_value Delimited
unfolding property_value
property-value-steady =
    branch-steady at_behind address unaddressed Delimited address-steady unaddressed-steady (λ a xs n h g. address-at xs a n h) unaddressed-no-at
