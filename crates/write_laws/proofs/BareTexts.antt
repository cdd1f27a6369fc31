-- 02, ticket [1]: "Identifier, reason and a mailbox's local part are written bare where the grammar lets that text stand bare and as a quoted
-- string otherwise": identifier and reason. A text is written bare exactly where, written so, it reads back as itself in its place, from just its own bytes: a quoted
-- string has two bytes more than its text at least, so what reads back from its own bytes was read bare.
use Prim.Native.Char.{code}
use Prim.Native.Nat.{ℕ, zero, suc, ◌+◌, ◌≤◌}
use native.Mathlib.Omega.{arith}
use mathlib.Core.Path.{◌≡◌, refl, sym, ap, subst, ◌∙◌}
use mathlib.Core.Bool.{Bool, true, false, cond}
use mathlib.Core.List.{List, [], ◌∷◌, ◌++◌, tail-eq_of_cons-eq}
use lib.Dec.{eqb}
use lib.ListN.{length, get_or, take, drop, length-append}
use Rattle.base_readers.specs.Texts.{bytes, within, one_of}
use Rattle.base_readers.specs.Readers.{Reader, run, many, choose, lasts}
use Rattle.base_readers.specs.Parsers.{Got, nothing, got, Parser, after, ◌>>◌, ahead, text}
use Rattle.base_readers.specs.Locality.{Ends, Fits, Local}
use Rattle.base_readers.proofs.Readers.{run_fits, many_more, choose_yes, choose_no, between_is, between_first}
use Rattle.base_readers.proofs.Sequencing.{no-got, Taken, bind_is, bind_inv, give-inv, skipping-inv, text-inv}
use Rattle.lexis_rules.specs.declared.Class.TheVariants as class
use Rattle.lexis_rules.specs.Bytes.{in_class, letter}
use Rattle.lexis_rules.specs.Pieces.{item, comment, space, token, quoted}
use Rattle.lexis_rules.specs.Words.{quoted_text, value_text, skip, gap, read_value, read_word}
use Rattle.lexis_laws.proofs.Locality.{token-local}
use Rattle.lexis_laws.proofs.Values.{quoted-text}
use Rattle.identifier_rules.specs.Identifier.{identifier_token, identifier_value, identifier}
use Rattle.result_rules.specs.Results.{separator, reason}
use Rattle.result_laws.proofs.Following.{Delimited, separator-within}
use Rattle.write_rules.specs.Entries.{identified, reasoned, whole}
use Rattle.write_rules.specs.Bodies.{guarded, quote, bare_or, piece}
use Rattle.write_laws.proofs.Finds.{took-whole}
use Rattle.write_laws.proofs.Values.{token-text}
use Rattle.write_laws.proofs.Keywords.{keyword-solid, word-reads}
use Rattle.write_laws.proofs.Results.{unworded, gap-reads, reason-keyword, reason-reads}
use Rattle.write_laws.proofs.Heads.{identifier-local, identifier-fits, identifier-end, identifier-text, identifier-reads}

-- ==== a value, by how many bytes it was read from

-- the text of a quoted string has no more bytes than its items
lasts-fits : (f : Reader) (k : ℕ) (xs : List ℕ) → length (lasts f k xs) + k ≤ many f k xs
unfolding lasts many
lasts-fits f k [] = omega arith
lasts-fits f (suc k) (x ∷ xs) = let h = lasts-fits f k xs in omega (arith, h)
lasts-fits f zero (x ∷ xs) = go (f (x ∷ xs)) refl (λ n. lasts-fits f n xs)
  where
    go : (m : ℕ) → f (x ∷ xs) ≡ m → ((n : ℕ) → length (lasts f n xs) + n ≤ many f n xs) → length (lasts f 0 (x ∷ xs)) + 0 ≤ many f 0 (x ∷ xs)
    go zero e ih = rw (lasts, many, e) (omega arith)
    go (suc n) e ih = rw (lasts, many, e) (let h = ih n in omega (arith, h))

-- its items, and the two quotes
quoted-items : (xs : List ℕ) (n : ℕ) → quoted xs ≡ suc n → many (item class.Quoted) 0 (drop 1 xs) + 2 ≡ suc n
quoted-items xs n e = go (eqb (get_or xs (m + 1) 0) 34) refl
  where
    m : ℕ
    m = many (item class.Quoted) 0 (drop 1 xs)

    is : quoted xs ≡ cond (eqb (get_or xs (m + 1) 0) 34) (m + 2) 0
    is = between_is 34 34 (many (item class.Quoted) 0) xs (between_first 34 34 (many (item class.Quoted) 0) xs n e)

    go : (t : Bool) → eqb (get_or xs (m + 1) 0) 34 ≡ t → m + 2 ≡ suc n
    go true q = rw q at (sym is ∙ e)
    go false q = let w : 0 ≡ suc n = rw q at (sym is ∙ e) in absurd (omega (arith, w))

pub quoted-longer : (xs : List ℕ) (n : ℕ) → quoted xs ≡ suc n → 2 + length (quoted_text (take (suc n) xs)) ≤ suc n
unfolding quoted_text
quoted-longer xs n e =
    let c = quoted-items xs n e in
    let h = lasts-fits (item class.Quoted) 0 (drop 1 xs) in
    let q : length (quoted_text (take (suc n) xs)) ≡ length (lasts (item class.Quoted) 0 (drop 1 xs)) = ap length (quoted-text xs n e) in
    omega (arith, c, h, q)

-- a text that was read from n bytes: bare, or from a quoted string
data From (f : Reader) (t : List ℕ) (n : ℕ) : Type 0 where
  bare : whole f t ≡ true → From f t n
  apart : 2 + length t ≤ n → From f t n

module _ (f : Reader) (F : List ℕ → Type 0) (L : Local f F) (K : Fits f) (O : F []) where
  value-from : (xs a : List ℕ) (n : ℕ) → text (choose 34 quoted f) xs ≡ got a n → From f (value_text a) n
  unfolding value_text
  value-from xs a n h = go (eqb (get_or xs 0 0) 34) refl
    where
      v : Taken (choose 34 quoted f) xs a n
      v = text-inv (choose 34 quoted f) xs a n h

      head : (ys : List ℕ) → get_or (take (suc v.less) ys) 0 0 ≡ get_or ys 0 0
      head [] = refl
      head (y ∷ ys) = refl

      here : get_or a 0 0 ≡ get_or xs 0 0
      here = rw (v.is, v.some) (head xs)

      go : (b : Bool) → eqb (get_or xs 0 0) 34 ≡ b → From f (value_text a) n
      go true q =
          let e : value_text a ≡ quoted_text a = rw (value_text, here, q) in
          let z : quoted xs ≡ suc v.less = sym (choose_yes 34 quoted f xs q) ∙ (v.takes ∙ v.some) in
          apart (rw (e, v.is, v.some) (quoted-longer xs v.less z))
      go false q =
          let e : value_text a ≡ a = rw (value_text, here, q) in
          let z : f xs ≡ suc v.less = sym (choose_no 34 quoted f xs q) ∙ (v.takes ∙ v.some) in
          bare (rw e (rw (v.is, v.some) (took-whole f F L K O xs v.less z)))

from-same : (f : Reader) (s t : List ℕ) (n : ℕ) → s ≡ t → From f s n → From f t n
from-same f s t n e w = subst (λ (z : List ℕ). From f z n) e w

-- read from no more bytes than it has, it was read bare
from-bare : (f : Reader) (t : List ℕ) (n : ℕ) → n ≤ suc (length t) → From f t n → whole f t ≡ true
from-bare f t n h (bare e) = e
from-bare f t n h (apart l) = absurd (omega (arith, h, l))

-- ==== what is written

-- a quoted string is longer than its text
guarded-long : (t : List ℕ) → length t ≤ length (guarded t)
unfolding guarded
guarded-long [] = omega arith
guarded-long (x ∷ t) = go (one_of (bytes "\"\\") x) refl (guarded-long t)
  where
    go : (b : Bool) → one_of (bytes "\"\\") x ≡ b → length t ≤ length (guarded t) → length (x ∷ t) ≤ length (guarded (x ∷ t))
    go true q h = rw (guarded, q) (omega (arith, h))
    go false q h = rw (guarded, q) (omega (arith, h))

quote-longer : (t : List ℕ) → length t + 2 ≤ length (quote t)
unfolding quote
quote-longer t =
    let m : length (guarded t ++ (34 ∷ [])) ≡ length (guarded t) + 1 = length-append (guarded t) (34 ∷ []) in
    let h = guarded-long t in
    omega (arith, m, h)

-- what is as long as its text is written bare
pub bare-or : (b : Bool) (t : List ℕ) → length (bare_or b t) ≡ length t → b ≡ true
unfolding bare_or
bare-or true t e = refl
bare-or false t e = let h = quote-longer t in absurd (omega (arith, e, h))

-- ==== the identifier

-- behind its space
module _ (t x : List ℕ) where
  abbrev spaced : List ℕ
  spaced = code " " ∷ (t ++ x)

  space-some : 1 ≤ space spaced
  unfolding item in_class one_of
  space-some =
      let c : choose 40 (comment 16) (item class.Blank) spaced ≡ 1 = choose_no 40 (comment 16) (item class.Blank) spaced refl in
      let l : 1 ≤ length spaced = omega arith in
      let m = many_more (choose 40 (comment 16) (item class.Blank)) spaced 0 c l in
      omega (arith, m)

  -- what reads back as itself can stand bare
  identifier-whole : identifier spaced ≡ got t (suc (length t)) → whole identifier_token t ≡ true
  unfolding identifier
  identifier-whole h =
      let a = bind_inv skip _ spaced t (suc (length t)) h in
      let b = bind_inv (text identifier_value) _ (drop a.fst spaced) t a.snd a.goes in
      let c = bind_inv (ahead (in_class class.Delimiter)) _ (drop b.fst (drop a.fst spaced)) t b.snd b.goes in
      let g = give-inv (value_text b.val) (drop c.fst (drop b.fst (drop a.fst spaced))) t c.snd c.goes in
      let w = value-from identifier_token (Ends identifier_token) identifier-local identifier-fits identifier-end (drop a.fst spaced) b.val b.fst b.reads in
      let k : space spaced ≡ a.fst = skipping-inv space spaced a.val a.fst a.reads in
      let l = space-some in
      let m = a.sum in
      let n = b.sum in
      from-bare identifier_token t b.fst (omega (arith, k, l, m, n)) (from-same identifier_token (value_text b.val) t b.fst g.0 w)

  whole-identifier : Delimited x → whole identifier_token t ≡ true → identifier spaced ≡ got t (suc (length t))
  unfolding piece bare_or
  whole-identifier d e = let r = identifier-reads t (identifier-text t e) x d in rw e at r

  -- written bare exactly where it reads back as itself
  pub identifier-bare-when : Delimited x → piece (identified t) ≡ code " " ∷ t → identifier (code " " ∷ (t ++ x)) ≡ got t (suc (length t))
  unfolding piece
  identifier-bare-when d e = whole-identifier d (bare-or (whole identifier_token t) t (ap length (tail-eq_of_cons-eq e)))

  pub identifier-when-bare : identifier (code " " ∷ (t ++ x)) ≡ got t (suc (length t)) → piece (identified t) ≡ code " " ∷ t
  unfolding piece bare_or
  identifier-when-bare h = rw (identifier-whole h)

  -- and else as a quoted string
  pub identifier-quoted : Delimited x → (identifier (code " " ∷ (t ++ x)) ≡ got t (suc (length t)) → ⊥) → piece (identified t) ≡ code " " ∷ quote t
  unfolding piece bare_or
  identifier-quoted d n = go (whole identifier_token t) refl
    where
      go : (b : Bool) → whole identifier_token t ≡ b → (code " " ∷ bare_or (whole identifier_token t) t) ≡ code " " ∷ quote t
      go true e = absurd (n (whole-identifier d e))
      go false e = rw e

-- ==== the reason

after-inv : {A : Type 0} (n : ℕ) (g : Got A) (a : A) (m : ℕ) → after n g ≡ got a m → (k : ℕ) × ((g ≡ got a k) × (n + k ≡ m))
unfolding after
after-inv n nothing a m e = absurd (no-got e)
after-inv {A} n (got b k) a m e = let i : b ≡ a = cc in let j : n + k ≡ m = cc in (k, (ap (λ (c : A). got c k) i, j))

-- behind "reason="
equals-unworded : in_class class.Keyword 61 ≡ false
unfolding in_class letter within
equals-unworded = refl

module _ (t x : List ℕ) where
  abbrev stated : List ℕ
  stated = bytes " reason=" ++ (t ++ x)

  -- "=" and what follows it
  abbrev Stating : Parser (List ℕ)
  Stating = ◌>>◌ (separator 61) read_value

  reason-is : reason stated ≡ after 1 (after 6 (Stating (61 ∷ (t ++ x))))
  unfolding reason
  reason-is =
      let g : gap stated ≡ got tt 1 = gap-reads (bytes "reason=" ++ (t ++ x)) (keyword-solid (bytes "reason") reason-keyword (61 ∷ (t ++ x))) in
      let w : read_word (bytes "reason") (bytes "reason=" ++ (t ++ x)) ≡ got tt 6 = word-reads (bytes "reason") reason-keyword (61 ∷ (t ++ x)) (unworded 61 (t ++ x) equals-unworded) in
      bind_is gap _ stated tt 1 g ∙ ap (after 1) (bind_is (read_word (bytes "reason")) _ (bytes "reason=" ++ (t ++ x)) tt 6 w)

  reason-whole : reason stated ≡ got t (8 + length t) → whole token t ≡ true
  unfolding read_value run
  reason-whole h =
      let p = after-inv 1 (after 6 (Stating (61 ∷ (t ++ x)))) t (8 + length t) (sym reason-is ∙ h) in
      let q = after-inv 6 (Stating (61 ∷ (t ++ x))) t p.0 p.1.0 in
      let b = bind_inv (separator 61) _ (61 ∷ (t ++ x)) t q.0 q.1.0 in
      let s = (separator-within 61 (61 ∷ (t ++ x)) b.val b.fst b.reads).1 in
      let c = bind_inv (text (choose 34 quoted token)) _ (drop b.fst (61 ∷ (t ++ x))) t b.snd b.goes in
      let g = give-inv (value_text c.val) (drop c.fst (drop b.fst (61 ∷ (t ++ x)))) t c.snd c.goes in
      let w = value-from token (Ends token) token-local (run_fits (in_class class.Token)) refl (drop b.fst (61 ∷ (t ++ x))) c.val c.fst c.reads in
      let i = p.1.1 in
      let j = q.1.1 in
      let k = b.sum in
      let l = c.sum in
      from-bare token t c.fst (omega (arith, i, j, k, l, s)) (from-same token (value_text c.val) t c.fst g.0 w)

  whole-reason : Delimited x → whole token t ≡ true → reason stated ≡ got t (8 + length t)
  unfolding piece bare_or
  whole-reason d e =
      let n : 8 + length t ≡ length (bytes " reason=" ++ t) = sym (length-append (bytes " reason=") t) in
      let r = reason-reads t (token-text t e) x d in
      rw n (rw e at r)

  pub reason-bare-when : Delimited x → piece (reasoned t) ≡ bytes " reason=" ++ t → reason (bytes " reason=" ++ (t ++ x)) ≡ got t (8 + length t)
  unfolding piece
  reason-bare-when d e = whole-reason d (bare-or (whole token t) t (ap (λ (r : List ℕ). length (drop 8 r)) e))

  pub reason-when-bare : reason (bytes " reason=" ++ (t ++ x)) ≡ got t (8 + length t) → piece (reasoned t) ≡ bytes " reason=" ++ t
  unfolding piece bare_or
  reason-when-bare h = rw (reason-whole h)

  pub reason-quoted : Delimited x → (reason (bytes " reason=" ++ (t ++ x)) ≡ got t (8 + length t) → ⊥) → piece (reasoned t) ≡ bytes " reason=" ++ quote t
  unfolding piece bare_or
  reason-quoted d n = go (whole token t) refl
    where
      go : (b : Bool) → whole token t ≡ b → bytes " reason=" ++ bare_or (whole token t) t ≡ bytes " reason=" ++ quote t
      go true e = absurd (n (whole-reason d e))
      go false e = rw e
