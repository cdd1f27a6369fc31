-- The pieces as parsers: what each takes is there, what comes first where it succeeds, and what may follow it without changing it. These
-- are what the steadiness of larger parts is put together from. Each law is one of `base_readers` at the piece's reader.
use Prim.Native.Char.{code}
use Prim.Native.Nat.{ℕ, suc}
use native.Mathlib.Omega.{arith}
use mathlib.Core.Path.{◌≡◌, refl, sym, ◌∙◌}
use mathlib.Core.Bool.{Bool, true, false, ◌||◌}
use mathlib.Core.List.{List}
use lib.Dec.{eqb}
use lib.ListN.{get_or}
use Rattle.base_sequences.proofs.Booleans.{or_left, or_right}
use Rattle.base_readers.specs.Texts.{same, starts}
use Rattle.base_readers.specs.Readers.{run}
use Rattle.base_readers.specs.Parsers.{◌>>=◌, give, when, text}
use Rattle.base_readers.specs.Locality.{Within, Ends, Starts, Steady, Opens}
use Rattle.base_readers.proofs.Texts.{starts_first, starts-not, starts-weaker}
use Rattle.base_readers.proofs.Readers.{run_fits, run-first, choose_no, passing-inv}
use Rattle.base_readers.proofs.Sequencing.{when-inv}
use Rattle.base_readers.proofs.Bounds.{bind-within, skipping-within, pass-within, text-within, give-within, when-within}
use Rattle.base_readers.proofs.Openings.{bind-opens, text-opens, pass-opens}
use Rattle.base_readers.proofs.Steadiness.{skipping-steady, pass-steady, text-steady, map-steady, zero-steady, when-steady}
use Rattle.lexis_rules.specs.declared.Class.TheVariants.{Opening, Digit, Keyword, Token}
use Rattle.lexis_rules.specs.Bytes.{in_class}
use Rattle.lexis_rules.specs.Pieces.{space, token, quoted, value, unhyphened, keyword, digits}
use Rattle.lexis_rules.specs.Words.{value_text, keyword_text, counted, skip, gap, read_value, read_keyword, read_word, read_digits, read_number}
use Rattle.lexis_rules.specs.Numbers.{number_of}
use Rattle.lexis_laws.proofs.Bytes.{class-zero}
use Rattle.lexis_laws.proofs.Pieces.{space-fits, value-fits, keyword-fits}
use Rattle.lexis_laws.proofs.Locality.{space-local, space-none, value-local, keyword-local, digits-local}

-- ==== space

pub space-first : (xs : List ℕ) (n : ℕ) → space xs ≡ suc n → Starts (in_class Opening) xs
space-first xs n e = go (starts (in_class Opening) xs) refl
  where
    go : (t : Bool) → starts (in_class Opening) xs ≡ t → Starts (in_class Opening) xs
    go true q = q
    go false q = absurd (omega (arith, space-none xs (starts-not (in_class Opening) xs q)))

pub skip-within : Within 0 skip
skip-within = skipping-within space space-fits

pub skip-steady : Steady skip (Ends space)
skip-steady = skipping-steady space (Ends space) space-local (λ t g. g)

pub gap_within : Within 1 gap
gap_within = pass-within space space-fits

pub gap-opens : Opens gap (Starts (in_class Opening))
gap-opens = pass-opens space (Starts (in_class Opening)) space-first

pub gap-steady : Steady gap (Ends space)
gap-steady = pass-steady space (Ends space) space-local

-- ==== value

-- a byte of a token, or a quote
abbrev pub opens_value : ℕ → Bool
opens_value b = in_class Token b || eqb b (code "\"")

pub value-first : (xs : List ℕ) (n : ℕ) → value xs ≡ suc n → Starts opens_value xs
value-first xs n e = go (eqb (get_or xs 0 0) 34) refl
  where
    none : opens_value 0 ≡ false
    none = rw (class-zero Token)

    go : (t : Bool) → eqb (get_or xs 0 0) 34 ≡ t → Starts opens_value xs
    go true q = sym (starts_first opens_value none xs) ∙ or_right (in_class Token (get_or xs 0 0)) _ q
    go false q =
        starts-weaker (in_class Token) opens_value (λ b i. or_left (in_class Token b) _ i) xs
        (run-first (in_class Token) xs n (sym (choose_no 34 quoted token xs q) ∙ e))

pub value-within : Within 1 read_value
unfolding read_value
value-within = bind-within 1 (text value) (λ v. give (value_text v)) (text-within value value-fits) (λ v. give-within (value_text v))

pub value-opens : Opens read_value (Starts opens_value)
unfolding read_value
value-opens = bind-opens (text value) (λ v. give (value_text v)) (Starts opens_value) (text-opens value (Starts opens_value) value-first)

pub value-steady : Steady read_value (Ends token)
unfolding read_value
value-steady = map-steady (text value) value_text (Ends token) (text-steady value (Ends token) value-local)

-- ==== keyword

pub keyword-first : (xs : List ℕ) (n : ℕ) → keyword xs ≡ suc n → Starts (in_class Keyword) xs
keyword-first xs n e = run-first (in_class Keyword) xs n (passing-inv unhyphened (run (in_class Keyword)) xs n e).0

pub keyword-within : Within 1 read_keyword
unfolding read_keyword
keyword-within = bind-within 1 (text keyword) (λ k. give (keyword_text k)) (text-within keyword keyword-fits) (λ k. give-within (keyword_text k))

pub keyword-opens : Opens read_keyword (Starts (in_class Keyword))
unfolding read_keyword
keyword-opens =
    bind-opens (text keyword) (λ k. give (keyword_text k)) (Starts (in_class Keyword)) (text-opens keyword (Starts (in_class Keyword)) keyword-first)

pub keyword-steady : Steady read_keyword (Ends (run (in_class Keyword)))
unfolding read_keyword
keyword-steady = map-steady (text keyword) keyword_text (Ends (run (in_class Keyword))) (text-steady keyword (Ends (run (in_class Keyword))) keyword-local)

module _ (w : List ℕ) where
  pub word-within : Within 1 (read_word w)
  unfolding read_word
  word-within = bind-within 1 read_keyword (λ k. when (same k w)) keyword-within (λ k. when-within (same k w))

  pub word-opens : Opens (read_word w) (Starts (in_class Keyword))
  unfolding read_word
  word-opens = bind-opens read_keyword (λ k. when (same k w)) (Starts (in_class Keyword)) keyword-opens

  pub word-steady : Steady (read_word w) (Ends (run (in_class Keyword)))
  unfolding read_word
  word-steady =
      zero-steady read_keyword (λ k. when (same k w)) (Ends (run (in_class Keyword))) keyword-steady
      (λ k. when-steady (same k w) (Ends (run (in_class Keyword)))) (λ k xs u n h. (when-inv (same k w) xs u n h).1)

-- ==== digit run, whatever is told of it

module _ {A : Type 0} (f : List ℕ → A) where
  run-within : Within 1 (◌>>=◌ (text digits) (λ d. give (f d)))
  run-within = bind-within 1 (text digits) (λ d. give (f d)) (text-within digits (run_fits (in_class Digit))) (λ d. give-within (f d))

  run-opens : Opens (◌>>=◌ (text digits) (λ d. give (f d))) (Starts (in_class Digit))
  run-opens = bind-opens (text digits) (λ d. give (f d)) (Starts (in_class Digit)) (text-opens digits (Starts (in_class Digit)) (run-first (in_class Digit)))

  run-steady : Steady (◌>>=◌ (text digits) (λ d. give (f d))) (Ends digits)
  run-steady = map-steady (text digits) f (Ends digits) (text-steady digits (Ends digits) digits-local)

pub digits-within : Within 1 read_digits
unfolding read_digits
digits-within = run-within counted

pub digits-opens : Opens read_digits (Starts (in_class Digit))
unfolding read_digits
digits-opens = run-opens counted

pub digits-steady : Steady read_digits (Ends digits)
unfolding read_digits
digits-steady = run-steady counted

pub number-within : Within 1 read_number
unfolding read_number
number-within = run-within number_of

pub number-opens : Opens read_number (Starts (in_class Digit))
unfolding read_number
number-opens = run-opens number_of

pub number-steady : Steady read_number (Ends digits)
unfolding read_number
number-steady = run-steady number_of
