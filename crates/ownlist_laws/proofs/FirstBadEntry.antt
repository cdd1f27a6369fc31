-- 01, Answer numbers: 5, a bad own list: the start of its first bad entry. Every list that isn't good (EntriesInUtf8) answers 5, and its place is
-- where the good entries in front of it end: the walk takes each of them, and there it could take no other. There is only one such place.
use Prim.Native.Nat.{ℕ, zero, suc, ◌+◌, ◌-◌, ◌≤◌, ◌<◌}
use native.Mathlib.Omega.{arith}
use mathlib.Core.Path.{◌≡◌, refl, sym, ap, ◌∙◌}
use mathlib.Core.Bool.{Bool, true, false}
use mathlib.Core.List.{List, [], ◌∷◌, ◌++◌, map, append_assoc, append-nil}
use lib.Dec.{leb}
use lib.ListN.{length, take, drop, length-append, length-drop, take-append-drop}
use lib.Seq.{length-take-le, take-append_seam, drop-append_seam}
use borrow.Author.Tests.{leb-true, le-leb}
use Rattle.base_readers.specs.Texts.{bytes}
use Rattle.base_readers.specs.Walks.{refused, Walked, walk}
use Rattle.base_readers.specs.Lines.{lined}
use Rattle.base_readers.proofs.Walks.{walk-stop}
use Rattle.punycode_rules.specs.Unicode.{utf8s}
use Rattle.ownlist_rules.specs.OwnList.{entry_limit, entry, entry_at, own_list}
use Rattle.ownlist_rules.specs.Terms.{Utf8Entries, BadAt}
use Rattle.ownlist_rules.proofs.Unfolding.{opened}
use Rattle.ownlist_laws.proofs.Entries.{entry-fits, list-five}
use Rattle.ownlist_laws.proofs.OwnListLaws.{entry-cut, list-few}
use Rattle.ownlist_laws.proofs.EntriesInUtf8.{entry-coded, list-texts, texts-many, list-good-when, entry-points, onto, walk-points, latin-instance}

-- a walk that stops: behind the entries that it took something is left, and that begins with no entry, or with one too many
record Stops (at count : ℕ) (xs : List ℕ) (w : Walked (List ℕ)) : Type 0 where
  rest : List ℕ
  some : 0 < length rest
  is : xs ≡ lined w.items ++ rest
  place : w.place ≡ at + length (lined w.items)
  bad : (n : ℕ) → entry rest ≡ suc n → entry_limit ≤ count + length w.items

line_joins : (xs t ys ls rest : List ℕ) → xs ≡ t ++ (10 ∷ ys) → ys ≡ ls ++ rest → xs ≡ (t ++ (10 ∷ ls)) ++ rest
line_joins xs t ys ls rest d e = d ∙ (ap (λ (z : List ℕ). t ++ (10 ∷ z)) e ∙ sym (append_assoc t (10 ∷ ls) rest))

walk-stops : (at count k : ℕ) (xs : List ℕ) → ((walk entry_at at count k xs).number ≡ 0 → ⊥) → Stops (at + k) count (drop k xs) (walk entry_at at count k xs)
unfolding walk entry_at lined
walk-stops at count zero [] ne = absurd (ne refl)
walk-stops at count (suc k) [] ne = absurd (ne refl)
walk-stops at count (suc k) (x ∷ xs) ne =
    let s = walk-stops (suc at) count k xs ne in
    record { rest = s.rest; some = s.some; is = s.is; place = let p = s.place in omega (arith, p); bad = s.bad }
walk-stops at count zero (x ∷ xs) ne = go (λ k. walk-stops (suc at) (suc count) k xs) (entry (x ∷ xs)) (leb entry_limit count) refl refl
  where
    go : ((k : ℕ) → ((walk entry_at (suc at) (suc count) k xs).number ≡ 0 → ⊥) → Stops (suc at + k) (suc count) (drop k xs) (walk entry_at (suc at) (suc count) k xs))
        → (n : ℕ) (t : Bool) → entry (x ∷ xs) ≡ n → leb entry_limit count ≡ t → Stops (at + zero) count (x ∷ xs) (walk entry_at at count zero (x ∷ xs))
    go ih zero t e l =
        rw (walk, entry_at, e) (record { rest = x ∷ xs; some = omega arith; is = refl; place = omega arith; bad = λ n q. absurd (let z : zero ≡ suc n = sym e ∙ q in omega (arith, z)) })
    go ih (suc n) true e l =
        rw (walk, entry_at, e, l) (record { rest = x ∷ xs; some = omega arith; is = refl; place = omega arith; bad = λ m q. let h = leb-true entry_limit count l in omega (arith, h) })
    go ih (suc n) false e l =
        let d : suc n - 1 ≡ n = omega arith in
        let s = ih n (λ z. ne (rw (walk, entry_at, e, l, d) z)) in
        let es = (walk entry_at (suc at) (suc count) n xs).items in
        let f = entry-fits (x ∷ xs) in
        let a : length (take n (x ∷ xs) ++ (10 ∷ lined es)) ≡ length (take n (x ∷ xs)) + length (10 ∷ lined es) = length-append (take n (x ∷ xs)) (10 ∷ lined es) in
        let b : length (take n (x ∷ xs)) ≡ n = length-take-le n (x ∷ xs) (omega (arith, f, e)) in
        rw (walk, entry_at, e, l, d) (record {
          rest = s.rest;
          some = s.some;
          is = line_joins (x ∷ xs) (take n (x ∷ xs)) (drop n xs) (lined es) s.rest (entry-cut x xs n e) s.is;
          place = let p = s.place in omega (arith, p, a, b);
          bad = λ m q. let h = s.bad m q in omega (arith, h);
        })

-- a list that is refused
pub list-bad-when : (list : List ℕ) → ((own_list list).number ≡ 0 → ⊥) → BadAt list (own_list list).place
list-bad-when list ne =
    let s : Stops 0 0 list (own_list list) = walk-stops 0 0 0 list ne in
    let front = lined (own_list list).items in
    let p : (own_list list).place ≡ length front = let q = s.place in omega (arith, q) in
    let t : take (own_list list).place list ≡ front = rw p (ap (take (length front)) s.is ∙ take-append_seam front s.rest) in
    let r : drop (own_list list).place list ≡ s.rest = rw p (ap (drop (length front)) s.is ∙ drop-append_seam front s.rest) in
    let w = list-texts list in
    let n = texts-many list in
    let f : length w.texts ≤ entry_limit = let k = list-few list in omega (arith, k, n) in
    record {
      before = record { texts = w.texts; each = w.each; few = f; is = t ∙ ap lined w.bytes };
      there = let l : length list ≡ length front + length s.rest = ap length s.is ∙ length-append front s.rest in let k = s.some in omega (arith, l, p, k);
      bad = λ u x g e. let h = s.bad (length (utf8s u)) (ap entry (sym r ∙ e) ∙ entry-points u g x) in omega (arith, h, n, f);
    }

-- ==== what is bad at a place is refused there

at-refused : (at count : ℕ) (xs : List ℕ) → ((n : ℕ) → entry xs ≡ suc n → entry_limit ≤ count) → entry_at at count xs ≡ refused 5 at
unfolding entry_at
at-refused at count xs h = go (entry xs) refl
  where
    go : (m : ℕ) → entry xs ≡ m → entry_at at count xs ≡ refused 5 at
    go zero e = rw (entry_at, e)
    go (suc n) e = rw (entry_at, e, le-leb entry_limit count (h n e))

entry-begins : (xs : List ℕ) (n : ℕ) → entry xs ≡ suc n → xs ≡ take n xs ++ (10 ∷ drop (suc n) xs)
entry-begins [] n e = let f : entry [] ≤ 0 = entry-fits [] in absurd (omega (arith, f, e))
entry-begins (x ∷ xs) n e = entry-cut x xs n e

pub list-when-bad : (list : List ℕ) (p : ℕ) (w : BadAt list p) → own_list list ≡ record { items = map utf8s w.before.texts; number = 5; place = p }
list-when-bad list p w =
    let us = w.before.texts in
    let es = map utf8s us in
    let front = lined es in
    let rest = drop p list in
    let h = w.there in
    let c : list ≡ front ++ rest = sym (take-append-drop p list) ∙ ap (λ (t : List ℕ). t ++ rest) w.before.is in
    let n : 0 + length front ≡ p = let l : length (take p list) ≡ p = length-take-le p list (omega (arith, h)) in let m = ap length w.before.is in omega (arith, l, m) in
    let r : 0 < length rest = let d : length (drop p list) ≡ length list - p = length-drop p list in omega (arith, d, h) in
    let s = walk-stop entry_at (0 + length front) (0 + length us) rest 5 (0 + length front) r (at-refused (0 + length front) (0 + length us) rest full) in
    ap own_list c
    ∙ (walk-points us w.before.each rest 0 0 (let k = w.before.few in omega (arith, k))
    ∙ (ap (onto es) s ∙ (ap (λ (l : List (List ℕ)). record { items = l; number = 5; place = 0 + length front }) (append-nil es) ∙ ap (λ (q : ℕ). record { items = es; number = 5; place = q }) n)))
  where
    full : (n : ℕ) → entry (drop p list) ≡ suc n → entry_limit ≤ 0 + length w.before.texts
    full n e =
        let k = entry-coded (drop p list) n e in
        let b = entry-begins (drop p list) n e ∙ ap (λ (t : List ℕ). t ++ (10 ∷ drop (suc n) (drop p list))) k.bytes in
        let l = w.bad k.numbers (drop (suc n) (drop p list)) k.good b in
        omega (arith, l)

-- ==== 5 is given for every list that isn't good

pub other-list-five : (list : List ℕ) → (Utf8Entries list → ⊥) → (own_list list).number ≡ 5
other-list-five list other = go (own_list list).number refl
  where
    go : (n : ℕ) → (own_list list).number ≡ n → (own_list list).number ≡ 5
    go zero e = absurd (other (list-good-when list e))
    go (suc n) e = e ∙ list-five list n e

-- ==== instances

-- bücher in ISO 8859-1 is no UTF-8: 5, at its start behind mx and its LF
bad-instance : BadAt (bytes "mx\nb" ++ (252 ∷ bytes "cher\n")) 3
unfolding opened
bad-instance = list-bad-when (bytes "mx\nb" ++ (252 ∷ bytes "cher\n")) (λ z. let q : ◌≡◌ {A = ℕ} 5 0 = z in omega (arith, q))

five-instance : (own_list (98 ∷ 252 ∷ bytes "cher\n")).number ≡ 5
five-instance = other-list-five (98 ∷ 252 ∷ bytes "cher\n") latin-instance
