-- What the private functions promise each other.
use Rattle.std.specs.Prelude.{ℕ, ◌+◌, ◌*◌, ◌≤◌, ◌<◌, ◌/◌, ◌%◌, ◌-◌, ◌≡◌, Bool, true, List, eqb, length, take, drop}
use Rattle.std.proofs.Math.Option.{none, some}
use Rattle.base_sequences.specs.Stored.{Put}
use Rattle.std.specs.Prelude.{Result, Ok, Err}
use Rattle.punycode.specs.declared.numbers.Numbers.{Numbers}
use Rattle.punycode.specs.declared.decoding.NoPoints.{NoPoints}
use Rattle.punycode.specs.declared.decoding.NoPoints.TheVariants.{Failed, Long}
use Rattle.punycode_rules.specs.Punycode.{State, start, numbers, adapt, threshold, insert, basic, base, tmin, initial_n, initial_bias}
use Rattle.punycode_rules.specs.Unicode.{scalars}
use Rattle.punycode_rules.specs.Labels.{decoded, kept, spelling_limit}

-- ==== the code points of a label behind its prefix

-- where i reaches this the next code point is above 10FFFF, with `spelling_limit` code points or fewer before it
abbrev pub limit : ℕ
limit = 0x110000 * (spelling_limit + 1)

-- the variables of RFC 3492, section 6.2, with an output
abbrev pub state_of : Numbers → List ℕ → State
state_of q out = record { output = out; n = q.n; i = q.i; bias = q.bias; oldi = q.old; w = q.w; k = q.k }

-- before the first digit
abbrev pub fresh_numbers : Numbers
fresh_numbers = record { n = initial_n; i = 0; bias = initial_bias; old = 0; w = 1; k = base }

-- the variables after a digit that ends its number, where there are so many code points before
abbrev pub last_of : Numbers → ℕ → ℕ → Numbers
last_of q d count =
    let i = q.i + d * q.w in
    let points = count + 1 in
    record {
      n = q.n + i / points;
      i = i % points + 1;
      bias = adapt (i - q.old) points (eqb q.old 0);
      old = i % points + 1;
      w = 1;
      k = base;
    }

-- the variables after another digit
abbrev pub more_of : Numbers → ℕ → Numbers
more_of q d =
    record {
      n = q.n;
      i = q.i + d * q.w;
      bias = q.bias;
      old = q.old;
      w = q.w * (base - threshold q.k q.bias);
      k = q.k + base;
    }

-- how large the variables are, so that no sum or product of theirs overflows
pub record Small (q : Numbers) : Type 0 where
  pub n : q.n < 0x110000
  pub i : q.i < limit
  pub old : q.old ≤ q.i
  pub some : 1 ≤ q.w
  pub w : q.w ≤ (base - tmin) * q.i + 1
  pub first : base ≤ q.k
  pub k : q.k ≤ base * q.w
  pub bias : q.bias ≤ 72 * limit + 36

-- a code point is inserted among the first ones of an array
pub record Inserted (old : List ℕ) (count at x : ℕ) (new : List ℕ) : Type 0 where
  pub points : take (count + 1) new ≡ insert at x (take count old)
  pub long : length new ≡ length old

-- what the numbers are read with: an array with room, whose first code points are the basic ones, all before the place
pub record Opened (s : List ℕ) (at : ℕ) (out : List ℕ) (basics : ℕ) : Type 0 where
  pub long : length out ≡ spelling_limit
  pub fits : basics ≤ at
  pub enough : basics ≤ spelling_limit
  pub place : at ≤ length s
  pub good : scalars (take basics out) ≡ true

-- the code points that the numbers from a place on give after the basic ones: the first `n` of the array; that there are none; or that
-- there are none, or more than there is room for
abbrev pub Ends : List ℕ → ℕ → List ℕ → List ℕ → Result ℕ NoPoints → Type 0
Ends s at basics out (Ok n) = (n ≤ spelling_limit) × (kept (numbers (start basics) (drop at s)) ≡ some (take n out))
Ends s at basics out (Err Failed) = kept (numbers (start basics) (drop at s)) ≡ none
Ends s at basics out (Err Long) = (spelling_limit < length s) × ((u : List ℕ) → kept (numbers (start basics) (drop at s)) ≡ some u → spelling_limit < length u)

-- the first b bytes are basic and are copied, or are not all basic
pub record Copied (s : List ℕ) (b : ℕ) (out : List ℕ) (all : Bool) : Type 0 where
  pub tells : all ≡ basic (take b s)
  pub points : all ≡ true → take b out ≡ take b s

-- the label's code points are the first `n` of the array; it has none; or it is long, and has none, or more than there is room for
abbrev pub Tells : List ℕ → List ℕ → Result ℕ NoPoints → Type 0
Tells xs out (Ok n) = (n ≤ spelling_limit) × (decoded xs ≡ some (take n out))
Tells xs out (Err Failed) = decoded xs ≡ none
Tells xs out (Err Long) = (spelling_limit < length xs) × ((u : List ℕ) → decoded xs ≡ some u → spelling_limit < length u)

-- ==== texts as they are compared

-- a text is written, as far as there is room, and its length is returned; or it is longer than any that is asked for
pub record Spells (old : List ℕ) (at : ℕ) (text new : List ℕ) (size : ℕ) : Type 0 where
  pub bound : size ≤ 4 * spelling_limit + 1
  pub fits : size ≤ spelling_limit → Put old at text new size
  pub over : spelling_limit < size → spelling_limit < length text

-- the same for a whole text
pub record Spelt (old : List ℕ) (at : ℕ) (text new : List ℕ) (size : ℕ) : Type 0 where
  pub fits : size ≤ spelling_limit → Put old at text new size
  pub over : spelling_limit < size → spelling_limit < length text
