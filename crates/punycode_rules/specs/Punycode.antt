-- RFC 3492: Punycode, decoded, with exact numbers, as in sections 5, 6.1 and 6.2. The RFC's parameters stand here and nowhere else.
use Prim.Native.Char.{code}
use Rattle.std.specs.Prelude.{ℕ, zero, suc, ◌+◌, ◌-◌, ◌*◌, ◌/◌, ◌%◌, Bool, true, false, cond, ◌&&◌, List, [], ◌∷◌, ◌++◌, leb, ltb, eqb, length, take, drop}
use Rattle.std.proofs.Math.Option.{Option, none, some}
use Rattle.base_readers.specs.Texts.{within}

-- section 5: the parameters
abbrev pub base : ℕ
base = 36

abbrev pub tmin : ℕ
tmin = 1

abbrev pub tmax : ℕ
tmax = 26

abbrev pub skew : ℕ
skew = 38

abbrev pub damp : ℕ
damp = 700

abbrev pub initial_bias : ℕ
initial_bias = 72

abbrev pub initial_n : ℕ
initial_n = 128

-- section 5: the digit of a code point: A to Z and a to z are 0 to 25, 0 to 9 are 26 to 35; `base` where it is no digit
unfoldable pub digit_of : ℕ → ℕ
digit_of x =
    cond (within (code "a") (code "z") x) (x - code "a")
    (cond (within (code "A") (code "Z") x) (x - code "A") (cond (within (code "0") (code "9") x) (x - code "0" + 26) base))

-- section 6.1: while delta > ((base - tmin) * tmax) div 2, let delta = delta div (base - tmin) and k = k + base; then the bias is
-- k + (((base - tmin + 1) * delta) div (delta + skew)). `turns` bounds how often: delta turns are enough, since each makes it smaller
-- (`adapt-turn` in punycode_laws/proofs/Adapting.antt)
unfoldable pub scaled : ℕ → ℕ → ℕ → ℕ
scaled zero k delta = k + (base - tmin + 1) * delta / (delta + skew)
scaled (suc turns) k delta =
    elim (ltb ((base - tmin) * tmax / 2) delta) [
      | true ↦ scaled turns (k + base) (delta / (base - tmin))
      | false ↦ k + (base - tmin + 1) * delta / (delta + skew)
    ]

-- section 6.1: the bias after a delta, where there are now so many code points: let delta = delta div damp if this is the first time, else
-- delta div 2; let delta = delta + (delta div numpoints)
unfoldable pub adapt : ℕ → ℕ → Bool → ℕ
adapt delta numpoints first =
    let d = cond first (delta / damp) (delta / 2) in
    let e = d + d / numpoints in
    scaled e 0 e

-- section 6.2: t = tmin if k <= bias, tmax if k >= bias + tmax, or k - bias otherwise
unfoldable pub threshold : ℕ → ℕ → ℕ
threshold k bias = cond (leb k bias) tmin (cond (leb (bias + tmax) k) tmax (k - bias))

-- section 6.2: the output, the variables of the whole (n, i, bias), and those of the number that is being read (oldi, w, k)
pub record State : Type 0 where
  pub output : List ℕ
  pub n : ℕ
  pub i : ℕ
  pub bias : ℕ
  pub oldi : ℕ
  pub w : ℕ
  pub k : ℕ

-- section 6.2: let n = initial_n, i = 0, bias = initial_bias, output = the basic code points; and before each number let oldi = i, w = 1,
-- k = base
abbrev pub start : List ℕ → State
start basics = record { output = basics; n = initial_n; i = 0; bias = initial_bias; oldi = 0; w = 1; k = base }

-- x inserted into a list at a position
abbrev pub insert : ℕ → ℕ → List ℕ → List ℕ
insert at x xs = take at xs ++ (x ∷ drop at xs)

-- section 6.2, a digit below t: let i = i + digit * w; let bias = adapt(i - oldi, length(output) + 1, test oldi is 0?); let
-- n = n + i div (length(output) + 1); let i = i mod (length(output) + 1); insert n into output at position i; increment i
abbrev pub last : State → ℕ → State
last s d =
    let i = s.i + d * s.w in
    let points = length s.output + 1 in
    let n = s.n + i / points in
    record {
      output = insert (i % points) n s.output;
      n = n;
      i = i % points + 1;
      bias = adapt (i - s.oldi) points (eqb s.oldi 0);
      oldi = i % points + 1;
      w = 1;
      k = base;
    }

-- section 6.2, any other digit: let i = i + digit * w; let w = w * (base - t); and the next k, in steps of base
abbrev pub more : State → ℕ → State
more s d =
    record {
      output = s.output;
      n = s.n;
      i = s.i + d * s.w;
      bias = s.bias;
      oldi = s.oldi;
      w = s.w * (base - threshold s.k s.bias);
      k = s.k + base;
    }

-- section 6.2: while the input is not exhausted, consume a code point, or fail if there was none to consume; let digit be its digit, fail
-- if it has none. Where k is base no number is being read, so that the input may end there
unfoldable pub numbers : State → List ℕ → Option (List ℕ)
numbers s [] = elim (eqb s.k base) [ true ↦ some s.output | false ↦ none ]
numbers s (x ∷ xs) =
    elim (ltb (digit_of x) base) [
      | true ↦ (elim (ltb (digit_of x) (threshold s.k s.bias)) [ true ↦ numbers (last s (digit_of x)) xs | false ↦ numbers (more s (digit_of x)) xs ])
      | false ↦ none
    ]

-- section 6.2: how many code points stand before the last delimiter, 0 where there is none. `found` is the answer for those in front of xs,
-- of which there are `at`
unfoldable pub before_last : ℕ → ℕ → List ℕ → ℕ
before_last found at [] = found
before_last found at (x ∷ xs) = elim (eqb x (code "-")) [ true ↦ before_last at (suc at) xs | false ↦ before_last found (suc at) xs ]

-- section 5: basic code points only: those of ASCII
unfoldable pub basic : List ℕ → Bool
basic [] = true
basic (x ∷ xs) = ltb x 0x80 && basic xs

-- section 6.2: if more than zero code points were consumed then consume one more (which will be the last delimiter)
abbrev pub consumed : ℕ → ℕ
consumed zero = 0
consumed (suc n) = suc (suc n)

-- section 6.2: consume all code points before the last delimiter (if there is one) and copy them to output, fail on any non-basic code
-- point; then the numbers
unfoldable pub punycode : List ℕ → Option (List ℕ)
punycode xs =
    let b = before_last 0 0 xs in
    elim (basic (take b xs)) [ true ↦ numbers (start (take b xs)) (drop (consumed b) xs) | false ↦ none ]
