-- 02, ticket [2]: what document 01's identifier rule read is read, with the same text and as many bytes: a token ended there by a delimiter or
-- at the end, and so it ends there still. And no token but the identifier's holds bytes from 128 up.
use Prim.Native.Nat.{ℕ, zero, suc, ◌≤◌, ◌<◌}
use native.Mathlib.Omega.{arith}
use mathlib.Core.Path.{◌≡◌, refl, sym, ap, ◌∙◌}
use mathlib.Core.Bool.{Bool, true, false, not}
use mathlib.Core.List.{List, [], ◌∷◌}
use lib.Dec.{eqb, leb, ltb}
use lib.ListN.{get_or, take, drop}
use borrow.Author.Tests.{ltb-true, le-leb, lt-leb, lt-ltb, not-true}
use Rattle.base_sequences.proofs.Booleans.{and_left, and_right, or_right, or-none}
use Rattle.base_readers.specs.Texts.{bytes, within, one_of, outside, follows}
use Rattle.base_readers.specs.Readers.{Reader, run, choose}
use Rattle.base_readers.specs.Parsers.{Got, nothing, got, Parser, ◌>>=◌, ◌>>◌, give, ahead, text}
use Rattle.base_readers.specs.Locality.{Follows}
use Rattle.base_readers.proofs.Readers.{run_more}
use Rattle.base_readers.proofs.Sequencing.{no-got, bind-got, bind_inv, ahead-inv, skipping-is, text-inv}
use Rattle.base_readers.proofs.Texts.{one_in}
use Rattle.lexis_rules.specs.declared.Class.TheVariants.{Token, Delimiter}
use Rattle.lexis_rules.specs.Bytes.{in_class}
use Rattle.lexis_rules.specs.Pieces.{space, token, value}
use Rattle.lexis_rules.specs.Words.{value_text, skip}
use Rattle.punycode_rules.specs.Punycode.{basic}
use Rattle.punycode_laws.proofs.Digits.{within-inv}
use Rattle.identifier_rules.specs.Identifier.{identifier_byte, identifier_value, identifier}
use Rattle.identifier_rules.specs.Terms.{plain_identifier}
use Rattle.identifier_rules.proofs.Unfolding.{opened}

-- ==== bytes

pub token-low : (x : ℕ) → in_class Token x ≡ true → x < 128
unfolding in_class
token-low x h = let b = (within-inv 33 126 x (and_left (within 33 126 x) (not (one_of (bytes "()<>@,;:\\\"/[]?=") x)) h)).1 in omega (arith, b)

-- what ends an identifier is in no identifier's token
delimiter-out : (x : ℕ) → in_class Delimiter x ≡ true → identifier_byte x ≡ false
unfolding opened
delimiter-out x h = not-true (identifier_byte x) (one_in (bytes " \t\r(;") (outside identifier_byte) refl x h)

-- 02, ticket [2]: the identifier's token may hold the bytes of a token and those from 128 up
pub identifier-byte-high : (x : ℕ) → 128 ≤ x → identifier_byte x ≡ true
unfolding identifier_byte
identifier-byte-high x h = or_right (in_class Token x) (leb 128 x) (le-leb 128 x h)

pub identifier-byte-low : (x : ℕ) → x < 128 → identifier_byte x ≡ in_class Token x
unfolding identifier_byte
identifier-byte-low x h = rw (lt-leb 128 x h) (or-none (in_class Token x))

-- and no other token holds one of these: every other is read by `token`
pub token-basic : (xs : List ℕ) → basic (take (token xs) xs) ≡ true
unfolding run basic
token-basic [] = refl
token-basic (x ∷ xs) = go (in_class Token x) refl (token-basic xs)
  where
    go : (t : Bool) → in_class Token x ≡ t → basic (take (token xs) xs) ≡ true → basic (take (token (x ∷ xs)) (x ∷ xs)) ≡ true
    go true e ih = rw (run, e, lt-ltb x 128 (token-low x e)) ih
    go false e ih = rw (run, e)

-- ==== what was read is read

-- a delimiter that follows is the first byte
delimiter-front : (x : ℕ) (xs : List ℕ) → Follows (in_class Delimiter) (x ∷ xs) → in_class Delimiter x ≡ true
unfolding follows
delimiter-front x xs d = d

-- where a run of the one class ends at a delimiter or at the end, so does one of the other
run_wider : (xs : List ℕ) → Follows (in_class Delimiter) (drop (run (in_class Token) xs) xs) → run identifier_byte xs ≡ run (in_class Token) xs
unfolding run
run_wider [] f = refl
run_wider (x ∷ xs) f = go (in_class Token x) refl (run_wider xs)
  where
    go : (t : Bool) → in_class Token x ≡ t → (Follows (in_class Delimiter) (drop (run (in_class Token) xs) xs) → run identifier_byte xs ≡ run (in_class Token) xs)
        → run identifier_byte (x ∷ xs) ≡ run (in_class Token) (x ∷ xs)
    go true e ih =
        let a : run (in_class Token) (x ∷ xs) ≡ suc (run (in_class Token) xs) = run_more (in_class Token) x xs e in
        let b : run identifier_byte (x ∷ xs) ≡ suc (run identifier_byte xs) = run_more identifier_byte x xs (identifier-byte-low x (token-low x e) ∙ e) in
        b ∙ (ap suc (ih (rw a at f)) ∙ sym a)
    go false e ih =
        let a : run (in_class Token) (x ∷ xs) ≡ 0 = rw (run, e) in
        let d : Follows (in_class Delimiter) (x ∷ xs) = rw a at f in
        let g : identifier_byte x ≡ false = delimiter-out x (delimiter-front x xs d) in
        let b : run identifier_byte (x ∷ xs) ≡ 0 = rw (run, g) in
        b ∙ sym a

value-wider : (xs : List ℕ) → Follows (in_class Delimiter) (drop (value xs) xs) → identifier_value xs ≡ value xs
unfolding choose
value-wider xs f = go (eqb (get_or xs 0 0) 34) refl
  where
    go : (t : Bool) → eqb (get_or xs 0 0) 34 ≡ t → identifier_value xs ≡ value xs
    go true e = rw (choose, e)
    go false e = let v : value xs ≡ token xs = rw (choose, e) in rw (choose, e) (run_wider xs (rw v at f))

-- what a reader's text hangs on
same_text : (f g : Reader) (xs : List ℕ) → f xs ≡ g xs → text f xs ≡ text g xs
unfolding text
same_text f g xs e = rw (text, e)

-- what stands behind a value
abbrev behind : List ℕ → Parser (List ℕ)
behind v = ◌>>◌ (ahead (in_class Delimiter)) (give (value_text v))

-- 02, ticket [2]: what was readable stays so, with the same text
pub identifier-stays : (xs t : List ℕ) (n : ℕ) → plain_identifier xs ≡ got t n → identifier xs ≡ got t n
unfolding plain_identifier identifier
identifier-stays xs t n h =
    let a = bind_inv skip (λ (u : Unit). ◌>>=◌ (text value) behind) xs t n h in
    let ys = drop a.fst xs in
    let b = bind_inv (text value) behind ys t a.snd a.goes in
    let c = bind_inv (ahead (in_class Delimiter)) (λ (u : Unit). give (value_text b.val)) (drop b.fst ys) t b.snd b.goes in
    let f : Follows (in_class Delimiter) (drop b.fst ys) = (ahead-inv (in_class Delimiter) (drop b.fst ys) c.val c.fst c.reads).0 in
    let v = text-inv value ys b.val b.fst b.reads in
    let w : identifier_value ys ≡ value ys = value-wider ys (rw v.takes f) in
    let r : text identifier_value ys ≡ got b.val b.fst = same_text identifier_value value ys w ∙ b.reads in
    bind-got skip (λ (u : Unit). ◌>>=◌ (text identifier_value) behind) xs a.val a.fst t a.snd a.reads
    (bind-got (text identifier_value) behind ys b.val b.fst t b.snd r b.goes ∙ ap (λ (k : ℕ). got t k) b.sum) ∙ ap (λ (k : ℕ). got t k) a.sum

-- so what can't be read now couldn't be before
pub plain-nothing : (xs : List ℕ) → identifier xs ≡ nothing → plain_identifier xs ≡ nothing
plain-nothing xs e = go (plain_identifier xs) refl
  where
    go : (g : Got (List ℕ)) → plain_identifier xs ≡ g → plain_identifier xs ≡ nothing
    go nothing q = q
    go (got t n) q = absurd (no-got (sym e ∙ identifier-stays xs t n q))

-- ==== and without bytes from 128 up nothing else is read

ascii_drop : (n : ℕ) (xs : List ℕ) → basic xs ≡ true → basic (drop n xs) ≡ true
unfolding basic
ascii_drop zero xs h = h
ascii_drop (suc n) [] h = refl
ascii_drop (suc n) (x ∷ xs) h = ascii_drop n xs (and_right (ltb x 128) (basic xs) h)

ascii_run : (xs : List ℕ) → basic xs ≡ true → run identifier_byte xs ≡ run (in_class Token) xs
unfolding run basic
ascii_run [] h = refl
ascii_run (x ∷ xs) h =
    let l = ltb-true x 128 (and_left (ltb x 128) (basic xs) h) in
    go (in_class Token x) refl (identifier-byte-low x l) (ascii_run xs (and_right (ltb x 128) (basic xs) h))
  where
    go : (t : Bool) → in_class Token x ≡ t → identifier_byte x ≡ in_class Token x → run identifier_byte xs ≡ run (in_class Token) xs
        → run identifier_byte (x ∷ xs) ≡ run (in_class Token) (x ∷ xs)
    go true e s ih = run_more identifier_byte x xs (s ∙ e) ∙ (ap suc ih ∙ sym (run_more (in_class Token) x xs e))
    go false e s ih = let g : identifier_byte x ≡ false = s ∙ e in rw (run, g, e)

ascii-value : (xs : List ℕ) → basic xs ≡ true → identifier_value xs ≡ value xs
unfolding choose
ascii-value xs h = go (eqb (get_or xs 0 0) 34) refl
  where
    go : (t : Bool) → eqb (get_or xs 0 0) 34 ≡ t → identifier_value xs ≡ value xs
    go true e = rw (choose, e)
    go false e = rw (choose, e) (ascii_run xs h)

pub identifier-ascii : (xs : List ℕ) → basic xs ≡ true → identifier xs ≡ plain_identifier xs
unfolding plain_identifier identifier ◌>>=◌
identifier-ascii xs h =
    let s : skip xs ≡ got tt (space xs) = skipping-is space xs (space xs) refl in
    let t : text identifier_value (drop (space xs) xs) ≡ text value (drop (space xs) xs) = same_text identifier_value value (drop (space xs) xs) (ascii-value (drop (space xs) xs) (ascii_drop (space xs) xs h)) in
    rw (◌>>=◌, s, t)

stays-instance : identifier (bytes " mx.example; none") ≡ got (bytes "mx.example") 11
unfolding opened
stays-instance = identifier-stays (bytes " mx.example; none") (bytes "mx.example") 11 refl

-- and more is read: bücher was no identifier
more-read : (plain_identifier (98 ∷ 195 ∷ 188 ∷ bytes "cher;") ≡ nothing) × (identifier (98 ∷ 195 ∷ 188 ∷ bytes "cher;") ≡ got (98 ∷ 195 ∷ 188 ∷ bytes "cher") 7)
unfolding opened
more-read = (refl, refl)

ascii-instance : plain_identifier (bytes " (c) \"a b\" rubbish") ≡ got (bytes "a b") 10
unfolding opened
ascii-instance = sym (identifier-ascii (bytes " (c) \"a b\" rubbish") refl)
