-- Texts that close a line: one law for each way out of the code, and the two cases that its answer tells.
use Prim.Native.Nat.{ℕ, zero, suc, ◌+◌, ◌^◌, ◌<◌}
use native.Mathlib.Omega.{arith}
use mathlib.Core.Path.{◌≡◌, refl, sym, ap, ◌∙◌}
use mathlib.Core.Bool.{Bool, true, false}
use mathlib.Core.List.{List, [], ◌∷◌}
use lib.Dec.{eqb}
use lib.ListN.{length, drop, get_or}
use mir.Syntax.{w64}
use mir.Val as machine
use Rattle.base_readers.specs.Readers.{run, many}
use Rattle.base_readers.specs.Parsers.{Got, nothing, got, after, when, byte, cons, several}
use Rattle.base_readers.specs.Places.{from, ending}
use Rattle.base_readers.proofs.Repeats.{several-total}
use Rattle.base_readers.proofs.Readers.{there-at}
use Rattle.base_readers.proofs.Loops.{there-fits}
use Rattle.base_readers.proofs.Places.{at-got, goes_on, stops, gives, passes, fails, byte_at, byte-none}
use Rattle.lexis_rules.specs.Pieces.{token}
use Rattle.write_rules.specs.Entries.{each, whole, quotable, is_text, coded}
use Rattle.write_columns.specs.declared.coded.Test.{Test}
use Rattle.write_columns.specs.declared.coded.Test.TheVariants.{Text, Token}
use Rattle.write_columns.specs.declared.coded.Tail as tail
use Rattle.write_columns.specs.declared.coded.Text as read
use Rattle.write_columns.specs.Internal.{coded_byte, code_size, text_of, in_test, text_at, tail_reader, tail_end, tail_at, TailEnds, TailMissing}
use Rattle.write_rules.specs.Entries.{Entry}
use Rattle.std.specs.Prelude.{Option, Some, None}
use Rattle.std.proofs.lemmas.Option.{none-some, same_Some}
use Rattle.write_columns.proofs.Codes.{size-some, size_none}

-- ==== the end of a line

module _ (xs : List ℕ) (k : ℕ) where
  after-ending : ending (after 1 (several coded_byte k xs)) ≡ suc (ending (several coded_byte k xs))
  unfolding after
  after-ending = let t = several-total coded_byte k xs in rw t.is (omega arith)

  cons-ending : (a : ℕ) → ending (after 1 (cons a (several coded_byte k xs))) ≡ suc (ending (several coded_byte k xs))
  unfolding after cons
  cons-ending a = let t = several-total coded_byte k xs in rw t.is (omega arith)

several-ending : (k : ℕ) (xs : List ℕ) → ending (several coded_byte k xs) ≡ many code_size k xs
unfolding several many
several-ending k [] = refl
several-ending (suc k) (x ∷ xs) = after-ending xs k ∙ ap suc (several-ending k xs)
several-ending zero (x ∷ xs) = go (λ n. several-ending n xs) (coded_byte (x ∷ xs)) refl
  where
    go : ((n : ℕ) → ending (several coded_byte n xs) ≡ many code_size n xs) → (g : Got ℕ) → coded_byte (x ∷ xs) ≡ g → ending (several coded_byte 0 (x ∷ xs)) ≡ many code_size 0 (x ∷ xs)
    go ih nothing q = let z : code_size (x ∷ xs) ≡ 0 = sym (size_none (x ∷ xs) q) in rw (several, many, q, z)
    go ih (got a zero) q = let z : code_size (x ∷ xs) ≡ 0 = sym (size-some (x ∷ xs) a 0 q) in rw (several, many, q, z)
    go ih (got a (suc n)) q =
        let z : code_size (x ∷ xs) ≡ suc n = sym (size-some (x ∷ xs) a (suc n) q) in
        rw (several, many, q, z) (cons-ending xs n a ∙ ap suc (ih n))

pub coded-is : (xs : List ℕ) → coded xs ≡ got (text_of xs) (many code_size 0 xs)
unfolding coded text_of
coded-is xs = let t = several-total coded_byte 0 xs in rw (← several-ending 0 xs, t.is)

each_same : (c d : ℕ → Bool) → ((b : ℕ) → c b ≡ d b) → (l : List ℕ) → each c l ≡ each d l
unfolding each
each_same c d h [] = refl
each_same c d h (x ∷ l) = rw (h x, each_same c d h l)

pub text-test : (t : List ℕ) → each (in_test Text) t ≡ is_text t
unfolding is_text
text-test t = each_same (in_test Text) quotable (λ b. unfold in_test in refl) t

pub token-test : (t : List ℕ) → whole (run (in_test Token)) t ≡ whole token t
token-test t = ap (λ (c : ℕ → Bool). whole (run c) t) (unfold in_test in refl)

module _ {A : Type 0} (g : List ℕ → A) (s : List ℕ) (at e : ℕ) (q : e ≡ at + many code_size 0 (drop at s)) (r : Bool) (p : r ≡ eqb (get_or (drop e s) 0 0) 10) where
  text-from : got (text_of (drop at s)) e ≡ from coded s at
  text-from = at-got coded s at (text_of (drop at s)) (many code_size 0 (drop at s)) e (coded-is (drop at s)) q

  tail-unfed : r ≡ false → nothing ≡ from (tail_reader g) s at
  unfolding tail_reader
  tail-unfed f = goes_on coded _ s at (text_of (drop at s)) e nothing text-from (stops (byte 10) _ s e (byte-none 10 s e r p f))

  module _ (t : r ≡ true) (b : Bool) (h : b ≡ is_text (text_of (drop at s))) where
    tail-untexted : b ≡ false → nothing ≡ from (tail_reader g) s at
    unfolding tail_reader
    tail-untexted f =
        goes_on coded _ s at (text_of (drop at s)) e nothing text-from
        (goes_on (byte 10) _ s e tt (e + 1) nothing (byte_at 10 s e r p t refl) (stops (when (is_text (text_of (drop at s)))) _ s (e + 1) (fails (is_text (text_of (drop at s))) s (e + 1) (sym h ∙ f))))

    tail-found : b ≡ true → got (g (text_of (drop at s))) (e + 1) ≡ from (tail_reader g) s at
    unfolding tail_reader
    tail-found y =
        goes_on coded _ s at (text_of (drop at s)) e _ text-from
        (goes_on (byte 10) _ s e tt (e + 1) _ (byte_at 10 s e r p t refl)
        (goes_on (when (is_text (text_of (drop at s)))) _ s (e + 1) tt (e + 1) _ (passes (is_text (text_of (drop at s))) s (e + 1) (sym h ∙ y)) (gives (g (text_of (drop at s))) s (e + 1))))

-- ==== the code

abbrev itself : List ℕ → List ℕ
itself x = x

abbrev tail_is : Option ℕ → Bool → tail.Tail
tail_is e b = record { end = e; bare = b }

module _ (t : Test) (s : List ℕ) (at : ℕ) (x : read.Text) (X : x ≡ text_at t s at) where
  end_is : x.end ≡ at + many code_size 0 (drop at s)
  end_is = ap (λ (k : read.Text). k.end) X

  holds-is : x.holds ≡ is_text (text_of (drop at s))
  holds-is = ap (λ (k : read.Text). k.holds) X

  ends_so : (e : ℕ) → got (text_of (drop at s)) e ≡ from (tail_reader itself) s at → tail_is (Some e) x.bare ≡ tail_at t s at
  unfolding tail_end
  ends_so e q = rw (tail_end, ← q, ap (λ (k : read.Text). k.bare) X)

  ends_not : nothing ≡ from (tail_reader itself) s at → tail_is None x.bare ≡ tail_at t s at
  unfolding tail_end
  ends_not q = rw (tail_end, ← q, ap (λ (k : read.Text). k.bare) X)

  module _ (r : Bool) (p : r ≡ eqb (get_or (drop x.end s) 0 0) 10) where
    pub line-unfed : r ≡ false → record { end = None; bare = x.bare } ≡ tail_at t s at
    line-unfed f = ends_not (tail-unfed itself s at x.end end_is r p f)

    module _ (y : r ≡ true) where
      pub line-fits : length s < 2 ^ 64 → machine.Fits w64 (x.end + 1)
      line-fits l = there-fits s x.end 10 r p y refl l

      pub line-untexted : x.holds ≡ false → record { end = None; bare = x.bare } ≡ tail_at t s at
      line-untexted f = ends_not (tail-untexted itself s at x.end end_is r p y x.holds holds-is f)

      pub line-found : x.holds ≡ true → record { end = Some (x.end + 1); bare = x.bare } ≡ tail_at t s at
      line-found z = ends_so (x.end + 1) (tail-found itself s at x.end end_is r p y x.holds holds-is z)

-- ==== its answer

-- the text stands and ends there, or it doesn't stand
module _ (s : List ℕ) (at : ℕ) where
  abbrev e : ℕ
  e = at + many code_size 0 (drop at s)

  data Way : Type 0 where
    stands : (b : eqb (get_or (drop e s) 0 0) 10 ≡ true) → is_text (text_of (drop at s)) ≡ true → Way
    stops_so : ((f : List ℕ → Entry) → nothing ≡ from (tail_reader f) s at) → nothing ≡ from (tail_reader itself) s at → Way

  way : Way
  way = fed (eqb (get_or (drop e s) 0 0) 10) refl
    where
      texted : eqb (get_or (drop e s) 0 0) 10 ≡ true → (b : Bool) → is_text (text_of (drop at s)) ≡ b → Way
      texted p true q = stands p q
      texted p false q = stops_so (λ g. tail-untexted g s at e refl true (sym p) refl false (sym q) refl) (tail-untexted itself s at e refl true (sym p) refl false (sym q) refl)

      fed : (b : Bool) → eqb (get_or (drop e s) 0 0) 10 ≡ b → Way
      fed true p = texted p (is_text (text_of (drop at s))) refl
      fed false p = stops_so (λ g. tail-unfed g s at e refl false (sym p) refl) (tail-unfed itself s at e refl false (sym p) refl)

  pub tail-ends : (r : ℕ) → Some r ≡ tail_end s at → TailEnds s at r
  unfolding tail_end
  tail-ends r h = go way
    where
      go : Way → TailEnds s at r
      go (stands p q) =
          let w : r ≡ e + 1 = same_Some _ _ (rw (tail_end, ← tail-found itself s at e refl true (sym p) refl true (sym q) refl) at h) in
          rw w (
          record {
            reads = λ g. tail-found g s at e refl true (sym p) refl true (sym q) refl;
            after = omega arith;
            inside = omega (arith, there-at (λ b. eqb b 10) refl s e 0 p);
          }
          )
      go (stops_so f g) = absurd (none-some r (sym (rw (tail_end, ← g) at h)))

  pub tail-missing : None ≡ tail_end s at → TailMissing s at
  unfolding tail_end
  tail-missing h = go way
    where
      go : Way → TailMissing s at
      go (stands p q) = absurd (none-some _ (rw (tail_end, ← tail-found itself s at e refl true (sym p) refl true (sym q) refl) at h))
      go (stops_so f g) = f
