-- Our own list as it is compared: which lines it has, that an identifier is among them where it is among the entries, and how long it is.
use Prim.Native.Nat.{ℕ, zero, suc, ◌+◌, ◌-◌, ◌*◌, ◌≤◌, ◌<◌}
use native.Mathlib.Omega.{arith}
use mathlib.Core.Path.{◌≡◌, refl, sym, ap, ◌∙◌}
use mathlib.Core.Bool.{Bool, true, false, ◌&&◌, ◌||◌}
use mathlib.Core.List.{List, [], ◌∷◌, ◌++◌, map}
use lib.Dec.{eqb, leb}
use lib.ListN.{length, drop, take, length-take, length-append, length-map, take-append-drop}
use lib.Seq.{drop-cons}
use borrow.Author.Tests.{eqb-true, ne_eqb, leb-false}
use Rattle.base_sequences.proofs.Booleans.{no_true, true-not}
use Rattle.base_readers.specs.Texts.{within, one_of, outside}
use Rattle.base_readers.specs.Parsers.{Got, nothing, got}
use Rattle.base_readers.specs.Walks.{walk}
use Rattle.base_readers.proofs.Texts.{one_out}
use Rattle.lexis_rules.specs.declared.Class.TheVariants.{Visible}
use Rattle.lexis_rules.specs.Bytes.{in_class, alike}
use Rattle.lexis_laws.proofs.Bytes.{alike-long}
use Rattle.punycode_rules.specs.Labels.{spelling, spelling_limit, double_hyphen}
use Rattle.punycode_laws.proofs.Hyphens.{double_hyphen-drop, double_hyphen-take}
use Rattle.punycode_laws.proofs.SpellingTheorems.{spelling-single-hyphens, spelling-limit, spelling-lacks}
use Rattle.ownlist_rules.specs.OwnList.{entry_limit, longest, entry_text, entry, entry_at, own_list}
use Rattle.ownlist_laws.proofs.Entries.{entry-fits, entry-is, entry-ends}
use Rattle.ownlist_laws.proofs.EntryBytes.{text-all}
use Rattle.identifier_rules.specs.Identifier.{same_identifier}
use Rattle.ownlist_rules.specs.Listed.{among, own_if, own_of}
use Rattle.ownlist_rules.specs.Terms.{Each, nil, cons}
use Rattle.base_readers.specs.Lines.{lined, lines_of}
use Rattle.ownlist_rules.specs.Spelled.{spelled_list, among_lines, among_spelled, own_of_spelled}
use Rattle.base_readers.proofs.Lines.{Feedless, none, more, lines-lined}

-- ==== what holds of each entry

-- what follows from the tests of an entry, and from what holds of the whole list and of whatever is left of it
module _ (P Q : List ℕ → Type 0) (rest : (x : ℕ) (xs : List ℕ) → Q (x ∷ xs) → Q xs) (this : (xs : List ℕ) (n : ℕ) → Q xs → entry xs ≡ suc n → P (take n xs)) where
  pub walk-each : (at count k : ℕ) (xs : List ℕ) → Q xs → Each P (walk entry_at at count k xs).items
  unfolding walk entry_at
  walk-each at count zero [] q = nil
  walk-each at count (suc k) [] q = nil
  walk-each at count (suc k) (x ∷ xs) q = walk-each (suc at) count k xs (rest x xs q)
  walk-each at count zero (x ∷ xs) q = go (λ k. walk-each (suc at) (suc count) k xs (rest x xs q)) (entry (x ∷ xs)) (leb entry_limit count) refl refl
    where
      go : ((k : ℕ) → Each P (walk entry_at (suc at) (suc count) k xs).items) → (n : ℕ) (t : Bool) → entry (x ∷ xs) ≡ n → leb entry_limit count ≡ t
          → Each P (walk entry_at at count zero (x ∷ xs)).items
      go ih zero t e l = rw (walk, entry_at, e) nil
      go ih (suc n) true e l = rw (walk, entry_at, e, l) nil
      go ih (suc n) false e l = rw (walk, entry_at, e, l) (cons (this (x ∷ xs) n q e) (ih (suc n - 1)))

-- it has 255 bytes at most, and no LF
pub record Good (e : List ℕ) : Type 0 where
  pub short : length e ≤ longest
  pub feedless : one_of e 10 ≡ false

entry-feedless : (xs : List ℕ) (n : ℕ) → entry xs ≡ suc n → one_of (take n xs) 10 ≡ false
unfolding in_class within
entry-feedless xs n e = rw (entry-ends xs n e).0 (one_out (take (entry_text xs) xs) (eqb 10) (text-all (outside (eqb 10)) visible high xs) 10 refl)
  where
    visible : (b : ℕ) → in_class Visible b ≡ true → outside (eqb 10) b ≡ true
    visible b h = go (eqb 10 b) refl
      where
        go : (t : Bool) → eqb 10 b ≡ t → outside (eqb 10) b ≡ true
        go true t = absurd (no_true (rw (← eqb-true 10 b t) at h))
        go false t = rw t

    high : (b : ℕ) → 128 ≤ b → outside (eqb 10) b ≡ true
    high b h = true-not (eqb 10 b) (ne_eqb 10 b (λ z. omega arith))

pub good-entries : (list : List ℕ) → Each Good (own_list list).items
good-entries list =
    walk-each Good (λ xs. Unit {0}) (λ x xs q. tt)
    (λ xs n q e. record { short = rw length-take (omega (arith, entry-is xs n e)); feedless = entry-feedless xs n e })
    0 0 0 list tt

-- in a list without two hyphens in a row each is its own spelling
abbrev Plain : List ℕ → Type 0
Plain e = spelling e ≡ e

plain-entries : (list : List ℕ) → double_hyphen list ≡ false → Each Plain (own_list list).items
plain-entries list h =
    walk-each Plain (λ xs. double_hyphen xs ≡ false) (λ x xs q. double_hyphen-drop 1 (x ∷ xs) q)
    (λ xs n q e. spelling-single-hyphens (take n xs) (double_hyphen-take n xs q))
    0 0 0 list h

map-plain : {es : List (List ℕ)} → Each Plain es → map spelling es ≡ es
map-plain nil = refl
map-plain (cons {e} {es} h w) = rw (h, map-plain w)

-- ==== which lines it has

feedless-spellings : {es : List (List ℕ)} → Each Good es → Feedless (map spelling es)
feedless-spellings nil = none
feedless-spellings (cons {e} {es} g w) = more (spelling-lacks 10 (omega arith) e g.feedless) (feedless-spellings w)

feedless-entries : {es : List (List ℕ)} → Each Good es → Feedless es
feedless-entries nil = none
feedless-entries (cons g w) = more g.feedless (feedless-entries w)

pub list-lines : (list : List ℕ) → lines_of (spelled_list (own_list list).items) ≡ map spelling (own_list list).items
list-lines list = lines-lined (feedless-spellings (good-entries list))

-- an entry's text, its LF and what stands behind it
pub entry-cut : (x : ℕ) (xs : List ℕ) (n : ℕ) → entry (x ∷ xs) ≡ suc n → x ∷ xs ≡ take n (x ∷ xs) ++ (10 ∷ drop n xs)
entry-cut x xs n e =
    let h : n < length (x ∷ xs) = omega (arith, entry-fits (x ∷ xs)) in
    let d : drop n (x ∷ xs) ≡ 10 ∷ drop n xs = drop-cons (x ∷ xs) n 0 h ∙ ap (λ (b : ℕ). b ∷ drop n xs) (entry-ends (x ∷ xs) n e).1 in
    sym (take-append-drop n (x ∷ xs)) ∙ ap (λ (t : List ℕ). take n (x ∷ xs) ++ t) d

-- a good list is its entries, each ended by LF
pub walk-lined : (at count k : ℕ) (xs : List ℕ) → (walk entry_at at count k xs).number ≡ 0 → drop k xs ≡ lined (walk entry_at at count k xs).items
unfolding walk entry_at lined
walk-lined at count zero [] z = refl
walk-lined at count (suc k) [] z = refl
walk-lined at count (suc k) (x ∷ xs) z = walk-lined (suc at) count k xs z
walk-lined at count zero (x ∷ xs) z = go (λ k. walk-lined (suc at) (suc count) k xs) (entry (x ∷ xs)) (leb entry_limit count) refl refl
  where
    go : ((k : ℕ) → (walk entry_at (suc at) (suc count) k xs).number ≡ 0 → drop k xs ≡ lined (walk entry_at (suc at) (suc count) k xs).items) → (n : ℕ) (t : Bool)
        → entry (x ∷ xs) ≡ n → leb entry_limit count ≡ t → x ∷ xs ≡ lined (walk entry_at at count zero (x ∷ xs)).items
    go ih zero t e l = absurd (let f : 5 ≡ 0 = rw (walk, entry_at, e) at z in omega arith)
    go ih (suc n) true e l = absurd (let f : 5 ≡ 0 = rw (walk, entry_at, e, l) at z in omega arith)
    go ih (suc n) false e l =
        let d : suc n - 1 ≡ n = omega arith in
        let r : drop n xs ≡ lined (walk entry_at (suc at) (suc count) n xs).items = ih n (rw (walk, entry_at, e, l, d) at z) in
        rw (walk, entry_at, e, l, d) (entry-cut x xs n e ∙ ap (λ (t : List ℕ). take n (x ∷ xs) ++ (10 ∷ t)) r)

-- so where it has no two hyphens in a row it is what is compared
pub list-plain : (list : List ℕ) → (own_list list).number ≡ 0 → double_hyphen list ≡ false → spelled_list (own_list list).items ≡ list
list-plain list z h = ap lined (map-plain (plain-entries list h)) ∙ sym (walk-lined 0 0 0 list z)

-- ==== who is among them

lines-among : (es : List (List ℕ)) (i : List ℕ) → among_lines (map spelling es) (spelling i) ≡ among es i
unfolding among_lines among same_identifier
lines-among [] i = refl
lines-among (e ∷ es) i = ap (λ (b : Bool). alike (spelling e) (spelling i) || b) (lines-among es i)

long-among : {es : List (List ℕ)} → Each Good es → (i : List ℕ) → spelling_limit < length (spelling i) → among es i ≡ false
unfolding among same_identifier
long-among nil i h = refl
long-among (cons {e} {es} g w) i h = rw (← alike-long (spelling e) (spelling i) (λ z. omega (arith, spelling-limit e g.short))) (long-among w i h)

spelled-among : {es : List (List ℕ)} → Each Good es → (i : List ℕ) → among_spelled (map spelling es) i ≡ among es i
unfolding among_spelled
spelled-among {es} w i = go (leb (length (spelling i)) spelling_limit) refl
  where
    go : (t : Bool) → leb (length (spelling i)) spelling_limit ≡ t → (leb (length (spelling i)) spelling_limit && among_lines (map spelling es) (spelling i)) ≡ among es i
    go true t = rw t (lines-among es i)
    go false t = rw t (sym (long-among w i (leb-false _ _ t)))

pub list-among : (list i : List ℕ) → among_spelled (lines_of (spelled_list (own_list list).items)) i ≡ among (own_list list).items i
list-among list i = ap (λ (l : List (List ℕ)). among_spelled l i) (list-lines list) ∙ spelled-among (good-entries list) i

pub list-own : (list : List ℕ) (g : Got (List ℕ)) → own_of_spelled (lines_of (spelled_list (own_list list).items)) g ≡ own_of (own_list list).items g
list-own list nothing = refl
list-own list (got i n) = ap own_if (list-among list i)

-- ==== how long it is

walk-few : (at count k : ℕ) (xs : List ℕ) → count ≤ entry_limit → length (walk entry_at at count k xs).items + count ≤ entry_limit
unfolding walk entry_at
walk-few at count zero [] h = omega arith
walk-few at count (suc k) [] h = omega arith
walk-few at count (suc k) (x ∷ xs) h = walk-few (suc at) count k xs h
walk-few at count zero (x ∷ xs) h = go (λ k. walk-few (suc at) (suc count) k xs) (entry (x ∷ xs)) (leb entry_limit count) refl refl
  where
    go : ((k : ℕ) → suc count ≤ entry_limit → length (walk entry_at (suc at) (suc count) k xs).items + suc count ≤ entry_limit) → (n : ℕ) (t : Bool)
        → entry (x ∷ xs) ≡ n → leb entry_limit count ≡ t → length (walk entry_at at count zero (x ∷ xs)).items + count ≤ entry_limit
    go ih zero t e l = rw (walk, entry_at, e) (omega arith)
    go ih (suc n) true e l = rw (walk, entry_at, e, l) (omega arith)
    go ih (suc n) false e l = rw (walk, entry_at, e, l) (omega (arith, ih (suc n - 1) (leb-false entry_limit count l)))

pub list-few : (list : List ℕ) → length (own_list list).items ≤ entry_limit
list-few list = omega (arith, walk-few 0 0 0 list (omega arith))

-- it has as many lines as entries, also where it is taken as it stands
pub spelled-length : (list : List ℕ) → length (lines_of (spelled_list (own_list list).items)) ≡ length (own_list list).items
spelled-length list = ap length (list-lines list) ∙ length-map (own_list list).items spelling

pub spelled-few : (list : List ℕ) → length (lines_of (spelled_list (own_list list).items)) ≤ entry_limit
spelled-few list = omega (arith, spelled-length list, list-few list)

pub good-few : (list : List ℕ) → (own_list list).number ≡ 0 → length (lines_of list) ≤ entry_limit
good-few list z =
    let l : lines_of list ≡ (own_list list).items = ap lines_of (walk-lined 0 0 0 list z) ∙ lines-lined (feedless-entries (good-entries list)) in
    rw l (list-few list)

lined-length : {es : List (List ℕ)} → Each Good es → length (spelled_list es) ≤ 1021 * length es
unfolding lined
lined-length nil = omega arith
lined-length (cons {e} {es} g w) = rw length-append (omega (arith, spelling-limit e g.short, lined-length w))

-- 64 entries of 1,020 bytes, each with its LF
pub list_length : (list : List ℕ) → length (spelled_list (own_list list).items) ≤ 65344
list_length list = omega (arith, lined-length (good-entries list), list-few list)
