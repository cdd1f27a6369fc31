-- The loop of the code over the numbers: what is known before a digit is known after it, and what it tells where it ends.
use Prim.Native.Nat.{ℕ, suc, ◌+◌, ◌-◌, ◌*◌, ◌%◌, ◌≤◌, ◌<◌}
use native.Mathlib.Numerals.{add-one}
use native.Mathlib.Omega.{arith}
use mathlib.Core.Path.{◌≡◌, sym, ap, ◌∙◌}
use mathlib.Core.Bool.{true, false}
use mathlib.Core.List.{List, [], ◌∷◌}
use mathlib.Core.Option.{Option}
use lib.ListN.{length, get_or, take, drop, drop_of_length-le}
use lib.Seq.{drop-cons, length-take-le}
use Rattle.std.specs.Prelude.{Ok, Err}
use Rattle.punycode.specs.declared.numbers.Numbers.{Numbers}
use Rattle.punycode.specs.declared.decoding.NoPoints.TheVariants.{Failed, Long}
use Rattle.punycode_rules.specs.Punycode.{start, insert, last, digit_of, threshold, numbers}
use Rattle.punycode_rules.specs.Unicode.{scalar, scalars}
use Rattle.punycode_rules.specs.Labels.{kept, spelling_limit}
use Rattle.punycode.specs.Internal.{limit, fresh_numbers, state_of, last_of, more_of, Small, Inserted, Opened, Ends}
use Rattle.punycode_laws.proofs.Digits.{scalar_below}
use Rattle.punycode.proofs.Bounds.{small-start, small-more, small-last, place_in}
use Rattle.punycode_laws.proofs.Decoding.{numbers-end, numbers-cut, numbers-none, numbers-last, numbers_more, scalars-good, kept-good, kept-none, last-bad, digit-fails, counted, kept-some}

-- before a digit: the numbers from here on give what they give from the start; the code points so far are scalars, there is room for them,
-- and each took a byte at least; and the variables are small
pub record Reading (s : List ℕ) (at : ℕ) (b out : List ℕ) (q : Numbers) (p count : ℕ) : Type 0 where
  pub same : kept (numbers (state_of q (take count out)) (drop p s)) ≡ kept (numbers (start b) (drop at s))
  pub good : scalars (take count out) ≡ true
  pub long : length out ≡ spelling_limit
  pub fits : count ≤ p
  pub enough : count ≤ spelling_limit
  pub place : p ≤ length s
  pub small : Small q

pub reading-start : (s : List ℕ) (at : ℕ) (out : List ℕ) (basics : ℕ) → Opened s at out basics → (q : Numbers) → q ≡ fresh_numbers
    → Reading s at (take basics out) out q at basics
reading-start s at out basics o q e =
    record { same = rw e; good = o.good; long = o.long; fits = o.fits; enough = o.enough; place = o.place; small = rw e small-start }

-- the state after a digit that ends its number
last-same : (q : Numbers) (o : List ℕ) (d count : ℕ) (xs : List ℕ) → length o ≡ count → (q' : Numbers) → q' ≡ last_of q d count
    → (o' : List ℕ) → o' ≡ insert (q'.i - 1) q'.n o → numbers (last (state_of q o) d) xs ≡ numbers (state_of q' o') xs
last-same q o d count xs n q' e o' f =
    let j : (q.i + d * q.w) % (count + 1) + 1 - 1 ≡ (q.i + d * q.w) % (count + 1) = omega arith in
    rw (f, e, j, n)

module _ (s : List ℕ) (at : ℕ) (b out : List ℕ) (q : Numbers) (p count : ℕ) (r : Reading s at b out q p count) where
  n : length (take count out) ≡ count
  n = length-take-le count out (omega (arith, r.long, r.enough))

  -- ==== at the end

  ended : length s ≤ p → (o : Option (List ℕ)) → kept (numbers (state_of q (take count out)) []) ≡ o → kept (numbers (start b) (drop at s)) ≡ o
  ended h o e = sym r.same ∙ (ap (λ (l : List ℕ). kept (numbers (state_of q (take count out)) l)) (drop_of_length-le s h) ∙ e)

  pub reads-text : length s ≤ p → q.k ≡ 36 → Ends s at b out (Ok count)
  reads-text h k = (r.enough, ended h _ (ap kept (numbers-end (state_of q (take count out)) k) ∙ kept-good (take count out) r.good))

  pub reads-cut : length s ≤ p → (q.k ≡ 36 → ⊥) → Ends s at b out (Err Failed)
  reads-cut h k = ended h _ (ap kept (numbers-cut (state_of q (take count out)) k) ∙ kept-none)

  -- ==== at a digit

  module _ (h : p < length s) (d : ℕ) (e : d ≡ digit_of (get_or s p 0)) where
    x : ℕ
    x = get_or s p 0

    here : kept (numbers (state_of q (take count out)) (get_or s p 0 ∷ drop (suc p) s)) ≡ kept (numbers (start b) (drop at s))
    here = ap (λ (l : List ℕ). kept (numbers (state_of q (take count out)) l)) (sym (drop-cons {A = ℕ} s p 0 h)) ∙ r.same

    pub reads_none : 36 ≤ d → Ends s at b out (Err Failed)
    reads_none l = sym here ∙ (ap kept (numbers-none (state_of q (take count out)) (get_or s p 0) (drop (suc p) s) (rw (← e) l)) ∙ kept-none)

    module _ (l : d < 36) where
      pub reads-large : limit ≤ q.i + d * q.w → Ends s at b out (Err Failed)
      reads-large g =
          sym here
          ∙ digit-fails (get_or s p 0) (drop (suc p) s) (state_of q (take count out)) r.small.first
          (rw (n, ← e) (omega (arith, r.enough)))

      module _ (g : q.i + d * q.w < limit) where
        pub reads_more : threshold q.k q.bias ≤ d → (q' : Numbers) → q' ≡ more_of q d → Reading s at b out q' (p + 1) count
        reads_more t q' f =
            record {
              same = rw (f, add-one p) (ap kept (rw e (sym (numbers_more (state_of q (take count out)) (get_or s p 0) (drop (suc p) s) (rw (← e) l) (rw (← e) t)))) ∙ here);
              good = r.good;
              long = r.long;
              fits = omega (arith, r.fits);
              enough = r.enough;
              place = omega arith;
              small = rw f (small-more q r.small d l g t);
            }

        module _ (t : d < threshold q.k q.bias) where
          then : kept (numbers (last (state_of q (take count out)) d) (drop (suc p) s)) ≡ kept (numbers (start b) (drop at s))
          then = ap kept (rw e (sym (numbers-last (state_of q (take count out)) (get_or s p 0) (drop (suc p) s) (rw (← e) l) (rw (← e) t)))) ∙ here

          pub reads-long : length out ≤ count → Ends s at b out (Err Long)
          reads-long w = (
            omega (arith, r.long, r.fits),
            λ u f. (let c = (counted (drop (suc p) s) (last (state_of q (take count out)) d)).least u (kept-some _ u (then ∙ f)) in
                omega (arith, c, n, r.long, Rattle.punycode_laws.proofs.Decoding.length-insert ((q.i + d * q.w) % (length (take count out) + 1)) (last (state_of q (take count out)) d).n (take count out))),
          )

          module _ (q' : Numbers) (f : q' ≡ last_of q d count) where
            pub reads-bad : scalar q'.n ≡ false → Ends s at b out (Err Failed)
            reads-bad z = sym then ∙ last-bad (drop (suc p) s) (state_of q (take count out)) d (rw n (rw f at z))

            pub reads-place : q'.i - 1 ≤ count
            reads-place = rw f (omega (arith, place_in q r.small d l g count))

            pub reads-positive : 1 ≤ q'.i
            reads-positive = rw f (omega arith)

            pub reads-last : scalar q'.n ≡ true → count < length out → (out' : List ℕ) → Inserted out count (q'.i - 1) q'.n out' → Reading s at b out' q' (p + 1) (count + 1)
            reads-last z w out' k =
                record {
                  same = rw (add-one p) (ap kept (sym (last-same q (take count out) d count (drop (suc p) s) n q' f (take (count + 1) out') k.points)) ∙ then);
                  good = rw k.points (scalars-good (q'.i - 1) q'.n (take count out) z r.good);
                  long = k.long ∙ r.long;
                  fits = omega (arith, r.fits);
                  enough = omega (arith, r.long);
                  place = omega arith;
                  small = rw f (small-last q r.small d l g count r.enough (scalar_below _ (rw f at z)));
                }
