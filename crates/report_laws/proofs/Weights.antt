-- What a parser yields weighs no more than three times the bytes it takes, from the same of its parts, by what is known of the parts
-- where it succeeds; and so do the small pieces of a body and property values, whose texts are no longer than what is taken.
use Prim.Native.Char.{code}
use Prim.Native.Nat.{ℕ, zero, suc, ◌+◌, ◌-◌, ◌*◌, ◌≤◌}
use native.Mathlib.Omega.{arith}
use mathlib.Core.Path.{◌≡◌, refl, sym, ap, ◌∙◌}
use mathlib.Core.Bool.{Bool, true, false}
use mathlib.Core.List.{List, [], ◌∷◌}
use mathlib.Core.Option.{Option, none, some}
use lib.Dec.{eqb}
use lib.ListN.{length, get_or, drop, length-append, length-drop, length-take, length-map}
use Rattle.base_readers.specs.Readers.{Reader, run, lasts}
use Rattle.base_readers.specs.Parsers.{got, Parser, ◌>>=◌, give, taken, text, branch, optional, several}
use Rattle.base_readers.specs.Locality.{Within}
use Rattle.base_readers.proofs.Sequencing.{bind_inv, give-inv, taken-inv, text-inv, branch_yes, branch_no, Perhaps, absent, present, optional-inv}
use Rattle.base_readers.proofs.Bounds.{when-within, byte-within}
use Rattle.base_readers.proofs.Repeats.{Turn, stop, turn, several-inv}
use Rattle.lexis_rules.specs.declared.Class.TheVariants.{Quoted}
use Rattle.lexis_rules.specs.Bytes.{lower}
use Rattle.lexis_rules.specs.Pieces.{item, token, quoted, value, keyword, digits, leading}
use Rattle.lexis_rules.specs.Words.{quoted_text, value_text, keyword_text, counted, skip, gap, read_value, read_keyword, read_digits}
use Rattle.lexis_laws.proofs.Steadiness.{skip-within, gap_within}
use Rattle.result_rules.specs.Results.{Value, separator, next, read_quoted, in_local_part, is_local_part, domain, addressed, address, quoted_mailbox, quoted_value, token_value, at_behind, property_value}
use Rattle.result_laws.proofs.Following.{separator-within}

-- ==== what a parser yields weighs no more than three times what it takes, and k more

pub record Sized {A : Type 0} (f : A → ℕ) (k : ℕ) (p : Parser A) : Type 0 where
  pub bound : (xs : List ℕ) (a : A) (n : ℕ) → p xs ≡ got a n → f a ≤ 3 * n + k

-- a text, three times
abbrev pub thrice : List ℕ → ℕ
thrice t = 3 * length t

module _ {A : Type 0} {f : A → ℕ} where
  -- what the first part takes pays for what it yields
  pub bind-sized : {B : Type 0} {g : B → ℕ} {k : ℕ} {p : Parser A} {q : A → Parser B} → Sized f 0 p → ((a : A) → Sized g (f a + k) (q a))
      → Sized g k (◌>>=◌ p q)
  bind-sized {B} {g} {k} {p} {q} P Q =
      record {
        bound = λ xs b n h.
            let v = bind_inv p q xs b n h in
            omega (arith, P.bound xs v.val v.fst v.reads, (Q v.val).bound (drop v.fst xs) b v.snd v.goes, v.sum);
      }

  -- what is left over may pay for more
  pub sized-more : {k : ℕ} {p : Parser A} (g : A → ℕ) → ((a : A) → g a ≤ f a + k) → Sized f 0 p → Sized g k p
  sized-more g s P = record { bound = λ xs a n h. omega (arith, s a, P.bound xs a n h) }

  pub give-sized : {k : ℕ} (a : A) → f a ≤ k → Sized f k (give a)
  give-sized {k} a h = record { bound = λ xs b n e. let v = give-inv a xs b n e in rw (← v.0) (omega (arith, h)) }

  pub branch-sized : {k : ℕ} (test : List ℕ → Bool) {p q : Parser A} → Sized f k p → Sized f k q → Sized f k (branch test p q)
  branch-sized {k} test {p} {q} P Q = record { bound = λ xs a n h. go xs a n h (test xs) refl }
    where
      go : (xs : List ℕ) (a : A) (n : ℕ) → branch test p q xs ≡ got a n → (t : Bool) → test xs ≡ t → f a ≤ 3 * n + k
      go xs a n h true e = P.bound xs a n (sym (branch_yes test p q xs e) ∙ h)
      go xs a n h false e = Q.bound xs a n (sym (branch_no test p q xs e) ∙ h)

  -- an absent part weighs nothing
  pub optional-sized : {p : Parser A} (g : Option A → ℕ) → g none ≡ 0 → ((a : A) → g (some a) ≤ f a) → Sized f 0 p → Sized g 0 (optional p)
  optional-sized {p} g z s P = record { bound = λ xs o n h. go xs o n (optional-inv p xs o n h) }
    where
      go : (xs : List ℕ) (o : Option A) (n : ℕ) → Perhaps p xs o n → g o ≤ 3 * n + 0
      go xs o n (absent e i l) = rw i (omega (arith, z))
      go xs o n (present a e i) = rw i (omega (arith, s a, P.bound xs a n e))

  -- what is yielded over and over weighs no more than all of it together
  pub several-sized : {p : Parser A} (g : List A → ℕ) → g [] ≡ 0 → ((a : A) (l : List A) → g (a ∷ l) ≤ f a + g l) → Sized f 0 p → Sized g 0 (several p 0)
  several-sized {p} g z s P = record { bound = λ xs l n h. all l xs n h }
    where
      all : (l : List A) (xs : List ℕ) (n : ℕ) → several p 0 xs ≡ got l n → g l ≤ 3 * n + 0
      all [] xs n h = omega (arith, z)
      all (a ∷ l) xs n h = go (λ ys k. all l ys k) (several-inv p xs (a ∷ l) n h)
        where
          go : ((ys : List ℕ) (k : ℕ) → several p 0 ys ≡ got l k → g l ≤ 3 * k + 0) → Turn p xs (a ∷ l) n → g (a ∷ l) ≤ 3 * n + 0
          go ih (stop e v) = absurd (let o : ◌≡◌ {A = ℕ} 0 1 = cc in omega arith)
          go ih (turn b m t k e h u v) =
              let i : b ≡ a = cc in
              let j : t ≡ l = cc in
              omega (arith, s a l, P.bound xs a m (e ∙ ap (λ (c : A). got c m) i), ih (drop m xs) k (h ∙ ap (λ (c : List A). got c k) j), v)

-- what takes k bytes at least pays for 3 k
pub within-sized : {A : Type 0} (k : ℕ) {p : Parser A} → Within k p → Sized (λ (a : A). 3 * k) 0 p
within-sized k P = record { bound = λ xs a n h. omega (arith, (P xs a n h).1) }

module _ (f : Reader) where
  pub taken-sized : Sized thrice 0 (taken f)
  taken-sized = record { bound = λ xs a n h. rw (taken-inv f xs a n h).1 (omega (arith, length-take n xs)) }

  pub text-sized : Sized thrice 0 (text f)
  text-sized = record { bound = λ xs a n h. rw (text-inv f xs a n h).is (omega (arith, length-take n xs)) }

-- ==== texts

lasts-short : (f : Reader) (k : ℕ) (xs : List ℕ) → length (lasts f k xs) ≤ length xs
unfolding lasts
lasts-short f k [] = omega arith
lasts-short f (suc k) (x ∷ xs) = omega (arith, lasts-short f k xs)
lasts-short f zero (x ∷ xs) = go (λ k. lasts-short f k xs) (f (x ∷ xs)) refl
  where
    go : ((k : ℕ) → length (lasts f k xs) ≤ length xs) → (m : ℕ) → f (x ∷ xs) ≡ m → length (lasts f zero (x ∷ xs)) ≤ suc (length xs)
    go ih zero e = rw (lasts, e) (omega arith)
    go ih (suc m) e = rw (lasts, e) (omega (arith, ih m))

quoted-short : (q : List ℕ) → length (quoted_text q) ≤ length q
unfolding quoted_text
quoted-short q = omega (arith, lasts-short (item Quoted) 0 (drop 1 q), length-drop 1 q)

pub value-short : (v : List ℕ) → length (value_text v) ≤ length v
unfolding value_text
value-short v = go (eqb (get_or v 0 0) (code "\"")) refl
  where
    go : (t : Bool) → eqb (get_or v 0 0) (code "\"") ≡ t → length (value_text v) ≤ length v
    go true e = rw (value_text, e) (quoted-short v)
    go false e = rw (value_text, e) (omega arith)

counted-short : (d : List ℕ) → length (counted d) ≤ length d
unfolding counted
counted-short d = omega (arith, length-take (digits d - leading d) (drop (leading d) d), length-drop (leading d) d)

pub keyword-sized : Sized thrice 0 read_keyword
unfolding read_keyword
keyword-sized = bind-sized (text-sized keyword) (λ k. give-sized (keyword_text k) (omega (arith, length-map k lower)))

pub value-sized : Sized thrice 0 read_value
unfolding read_value
value-sized = bind-sized (text-sized value) (λ v. give-sized (value_text v) (omega (arith, value-short v)))

quoted-sized : Sized thrice 0 read_quoted
unfolding read_quoted
quoted-sized = bind-sized (text-sized quoted) (λ q. give-sized (quoted_text q) (omega (arith, quoted-short q)))

pub digits-sized : Sized thrice 0 read_digits
unfolding read_digits
digits-sized = bind-sized (text-sized digits) (λ d. give-sized (counted d) (omega (arith, counted-short d)))

pub gap-sized : Sized (λ (u : Unit). 3) 0 gap
gap-sized = within-sized 1 gap_within

pub separator-sized : (c : ℕ) → Sized (λ (u : Unit). 3) 0 (separator c)
separator-sized c = within-sized 1 (separator-within c)

pub skip-sized : Sized (λ (u : Unit). 0) 0 skip
skip-sized = within-sized 0 skip-within

-- ==== property values

abbrev pub of_value : Value → ℕ
of_value v = thrice v.text

addressed-size : (l d : List ℕ) → length (addressed l d).text ≡ length l + (1 + length d)
unfolding addressed
addressed-size [] d = omega arith
addressed-size (x ∷ l) d = simp length-append (omega arith)

address-sized : Sized of_value 0 address
unfolding address
address-sized =
    bind-sized (taken-sized (run in_local_part))
    (λ l. bind-sized (within-sized 0 (when-within (is_local_part l)))
    (λ u. bind-sized (within-sized 1 (byte-within (code "@")))
    (λ u. bind-sized (text-sized domain) (λ d. give-sized (addressed l d) (omega (arith, addressed-size l d))))))

quoted-mailbox-sized : (q : List ℕ) → Sized of_value (thrice q + 0) (quoted_mailbox q)
unfolding quoted_mailbox
quoted-mailbox-sized q =
    bind-sized (within-sized 1 (byte-within (code "@")))
    (λ u. bind-sized (text-sized domain) (λ d. give-sized _ (omega (arith, length-append q (code "@" ∷ d)))))

quoted-value-sized : Sized of_value 0 quoted_value
unfolding quoted_value
quoted-value-sized =
    bind-sized quoted-sized (λ q. branch-sized (next (code "@")) (quoted-mailbox-sized q) (give-sized _ (omega arith)))

token-value-sized : Sized of_value 0 token_value
unfolding token_value
token-value-sized = bind-sized (text-sized token) (λ t. give-sized _ (omega arith))

pub property-value-sized : Sized of_value 0 property_value
unfolding property_value
property-value-sized = branch-sized at_behind address-sized (branch-sized (next (code "\"")) quoted-value-sized token-value-sized)
