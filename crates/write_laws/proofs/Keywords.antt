-- Keywords in lower case: what is written is read back, what is read is one, and those of the tables are such, by computing all of them.
use Prim.Native.Nat.{ℕ, suc, ◌-◌}
use native.Mathlib.Omega.{arith}
use mathlib.Core.Path.{◌≡◌, refl, sym, ap, ◌∙◌}
use mathlib.Core.Bool.{Bool, true, false, not, ◌&&◌}
use mathlib.Core.List.{List, [], ◌∷◌, ◌++◌, map}
use lib.Dec.{eqb, leb}
use lib.ListN.{length, take, get_or, length-map, get_or-map}
use lib.Seq.{take-length}
use borrow.Author.Tests.{eqb-true, eq-eqb, leb-true}
use Rattle.base_sequences.proofs.Booleans.{no_true, and_left, and_right}
use Rattle.base_sequences.proofs.Tables.{agree-from}
use Rattle.base_readers.specs.Texts.{within, starts, same}
use Rattle.base_readers.specs.Readers.{run}
use Rattle.base_readers.specs.Parsers.{text}
use Rattle.base_readers.specs.Locality.{Ends}
use Rattle.base_readers.proofs.Texts.{same_refl, same-eq}
use Rattle.base_readers.proofs.Readers.{passing-inv, passing-yes}
use Rattle.lexis_rules.specs.declared.Class.TheVariants as class
use Rattle.lexis_rules.specs.Bytes.{in_class, lower}
use Rattle.lexis_rules.specs.Pieces.{space, keyword, unhyphened}
use Rattle.lexis_rules.specs.Words.{keyword_text, read_keyword, read_word}
use Rattle.lexis_laws.proofs.Pieces.{keyword-fits}
use Rattle.lexis_laws.proofs.Locality.{keyword-local}
use Rattle.result_rules.specs.Table.{Row, listed, table, ptypes, tabled}
use Rattle.result_rules.proofs.Unfolding as resinfo
use Rattle.result_laws.proofs.Following.{solid}
use Rattle.write_rules.specs.Entries.{each, whole, is_keyword}
use Rattle.write_laws.proofs.Readback.{Reads, last-reads, give-reads, when-reads, whole-reads}
use Rattle.write_laws.proofs.Finds.{Finds, bind-finds, give-finds, text-finds}
use Rattle.write_laws.proofs.Quotes.{run-each, each-run}

-- no letter, digit or hyphen comes next
abbrev pub Unworded : List ℕ → Type 0
Unworded = Ends (run (in_class class.Keyword))

pub keyword-each : (k : List ℕ) → whole keyword k ≡ true → each (in_class class.Keyword) k ≡ true
unfolding whole
keyword-each [] e = absurd (no_true e)
keyword-each (x ∷ k) e = run-each (in_class class.Keyword) (x ∷ k) (passing-inv unhyphened (run (in_class class.Keyword)) (x ∷ k) (length k) (eqb-true _ _ e)).0

keyword-last : (k : List ℕ) → whole keyword k ≡ true → unhyphened k ≡ true
unfolding whole
keyword-last [] e = absurd (no_true e)
keyword-last (x ∷ k) e =
    rw (take-length k) at (passing-inv unhyphened (run (in_class class.Keyword)) (x ∷ k) (length k) (eqb-true _ _ e)).1

-- a keyword is such a text, not ending in a hyphen
keyword-whole : (x : ℕ) (k : List ℕ) → each (in_class class.Keyword) (x ∷ k) ≡ true → unhyphened (x ∷ k) ≡ true → whole keyword (x ∷ k) ≡ true
unfolding whole
keyword-whole x k e u =
    let r : run (in_class class.Keyword) (x ∷ k) ≡ suc (length k) = each-run (in_class class.Keyword) (x ∷ k) e in
    let t : take (run (in_class class.Keyword) (x ∷ k)) (x ∷ k) ≡ x ∷ k = rw (r, take-length k) in
    eq-eqb _ _ (passing-yes unhyphened (run (in_class class.Keyword)) (x ∷ k) (rw t u) ∙ r)

-- ==== lower case

-- what holds of the small letter of a capital
abbrev small : ℕ → Bool
small b = eqb (lower (lower b)) (lower b) && (in_class class.Keyword (lower b) && not (eqb (lower b) 45))

capital : (b : ℕ) → within 65 90 b ≡ true → small b ≡ true
unfolding resinfo.opened
capital b e =
    sym (agree-from true small 65 26 b (leb-true 65 b (and_left (leb 65 b) _ e)) (omega (arith, leb-true b 90 (and_right (leb 65 b) (leb b 90) e))) tt)

stays : (b : ℕ) → within 65 90 b ≡ false → lower b ≡ b
unfolding lower
stays b e = rw e

lower-keyword : (b : ℕ) → in_class class.Keyword b ≡ true → in_class class.Keyword (lower b) ≡ true
lower-keyword b i = go (within 65 90 b) refl
  where
    go : (t : Bool) → within 65 90 b ≡ t → in_class class.Keyword (lower b) ≡ true
    go true e = and_left (in_class class.Keyword (lower b)) _ (and_right (eqb (lower (lower b)) (lower b)) _ (capital b e))
    go false e = rw (stays b e) i

lower-hyphen : (b : ℕ) → not (eqb b 45) ≡ true → not (eqb (lower b) 45) ≡ true
lower-hyphen b i = go (within 65 90 b) refl
  where
    go : (t : Bool) → within 65 90 b ≡ t → not (eqb (lower b) 45) ≡ true
    go true e = and_right (in_class class.Keyword (lower b)) _ (and_right (eqb (lower (lower b)) (lower b)) _ (capital b e))
    go false e = rw (stays b e) i

lower-twice : (b : ℕ) → lower (lower b) ≡ lower b
lower-twice b = go (within 65 90 b) refl
  where
    go : (t : Bool) → within 65 90 b ≡ t → lower (lower b) ≡ lower b
    go true e = eqb-true _ _ (and_left (eqb (lower (lower b)) (lower b)) _ (capital b e))
    go false e = ap lower (stays b e)

map-twice : (k : List ℕ) → map lower (map lower k) ≡ map lower k
map-twice [] = refl
map-twice (x ∷ k) = rw (lower-twice x) (ap (λ (l : List ℕ). lower x ∷ l) (map-twice k))

map_each : (k : List ℕ) → each (in_class class.Keyword) k ≡ true → each (in_class class.Keyword) (map lower k) ≡ true
unfolding each
map_each [] e = refl
map_each (x ∷ k) e = rw (lower-keyword x (and_left (in_class class.Keyword x) _ e)) (map_each k (and_right (in_class class.Keyword x) _ e))

map_last : (k : List ℕ) → unhyphened k ≡ true → unhyphened (map lower k) ≡ true
unfolding unhyphened lower within
map_last k e =
    let g : get_or (map lower k) (length k - 1) 0 ≡ lower (get_or k (length k - 1) 0) = get_or-map lower k (length k - 1) 0 in
    rw (length-map k lower, g) (lower-hyphen (get_or k (length k - 1) 0) e)

pub lower-whole : (k : List ℕ) → whole keyword k ≡ true → is_keyword (map lower k) ≡ true
unfolding is_keyword
lower-whole [] e = absurd (unfold whole in no_true e)
lower-whole (x ∷ k) e =
    rw (keyword-whole (lower x) (map lower k) (map_each (x ∷ k) (keyword-each (x ∷ k) e)) (map_last (x ∷ k) (keyword-last (x ∷ k) e)), map-twice (x ∷ k)) (same_refl (lower x ∷ map lower k))

-- ==== keywords read

pub keyword-is : (k : List ℕ) → is_keyword k ≡ true → (whole keyword k ≡ true) × (map lower k ≡ k)
unfolding is_keyword
keyword-is k e = (and_left (whole keyword k) _ e, same-eq (map lower k) k (and_right (whole keyword k) _ e))

pub keyword-reads : (k : List ℕ) → is_keyword k ≡ true → Reads read_keyword k k Unworded
unfolding read_keyword
keyword-reads k e =
    let v = keyword-is k e in
    last-reads (text keyword) _ k k k Unworded (whole-reads keyword Unworded keyword-local k v.0) (rw v.1 (give-reads k Unworded))

pub keyword-finds : Finds read_keyword (λ k u. is_keyword k ≡ true)
unfolding read_keyword
keyword-finds =
    bind-finds (text keyword) _ (λ a u. (a ≡ u) × (whole keyword a ≡ true)) (λ k u. is_keyword k ≡ true) (text-finds keyword Unworded keyword-local keyword-fits (unfold run in refl))
    (λ k u i xs v n e. rw (← (give-finds (keyword_text k) xs v n e).0) (lower-whole k i.1))

-- a keyword begins no space
pub keyword-solid : (k : List ℕ) → is_keyword k ≡ true → (t : List ℕ) → Ends space (k ++ t)
keyword-solid k e t = go k (keyword-each k (keyword-is k e).0) (keyword-is k e).0
  where
    go : (k : List ℕ) → each (in_class class.Keyword) k ≡ true → whole keyword k ≡ true → Ends space (k ++ t)
    go [] f w = absurd (unfold whole in no_true w)
    go (x ∷ k) f w =
        solid (in_class class.Keyword) (unfold resinfo.opened in refl) (x ∷ (k ++ t)) (unfold starts each in and_left (in_class class.Keyword x) _ f)

-- this word
pub word-reads : (w : List ℕ) → is_keyword w ≡ true → Reads (read_word w) w tt Unworded
unfolding read_word
word-reads w e = last-reads read_keyword _ w w tt Unworded (keyword-reads w e) (when-reads (same w w) Unworded (same_refl w))

-- ==== the tables

-- every one of a list of texts is a keyword
abbrev keywords : List (List ℕ) → Bool
keywords [] = true
keywords (k ∷ ks) = is_keyword k && keywords ks

listed-keyword : (ks : List (List ℕ)) → keywords ks ≡ true → (k : List ℕ) → listed ks k ≡ true → is_keyword k ≡ true
unfolding listed
listed-keyword [] h k e = absurd (no_true e)
listed-keyword (w ∷ ks) h k e = go (same w k) refl (listed-keyword ks (and_right (is_keyword w) _ h) k)
  where
    go : (t : Bool) → same w k ≡ t → (listed ks k ≡ true → is_keyword k ≡ true) → is_keyword k ≡ true
    go true q ih = rw (← same-eq w k q) (and_left (is_keyword w) _ h)
    go false q ih = ih (rw (listed, q) at e)

pub ptype-keyword : (k : List ℕ) → listed ptypes k ≡ true → is_keyword k ≡ true
ptype-keyword k e = listed-keyword ptypes (unfold resinfo.opened is_keyword whole in refl) k e

abbrev rowed : List Row → Bool
rowed [] = true
rowed (r ∷ rs) = is_keyword r.method && keywords r.results && rowed rs

tabled-in : (rs : List Row) → rowed rs ≡ true → (m r : List ℕ) → tabled rs m r ≡ true → (is_keyword m ≡ true) × (is_keyword r ≡ true)
unfolding tabled
tabled-in [] h m r e = absurd (no_true e)
tabled-in (w ∷ ws) h m r e = go (same w.method m && listed w.results r) refl (tabled-in ws (and_right (is_keyword w.method && keywords w.results) _ h) m r)
  where
    k : (is_keyword w.method && keywords w.results) ≡ true
    k = and_left (is_keyword w.method && keywords w.results) _ h

    go : (t : Bool) → (same w.method m && listed w.results r) ≡ t → (tabled ws m r ≡ true → (is_keyword m ≡ true) × (is_keyword r ≡ true)) → (is_keyword m ≡ true) × (is_keyword r ≡ true)
    go true q ih = (
      rw (← same-eq w.method m (and_left (same w.method m) _ q)) (and_left (is_keyword w.method) _ k),
      listed-keyword w.results (and_right (is_keyword w.method) _ k) r (and_right (same w.method m) _ q),
    )
    go false q ih = ih (rw (tabled, q) at e)

pub tabled-keywords : (m r : List ℕ) → tabled table m r ≡ true → (is_keyword m ≡ true) × (is_keyword r ≡ true)
tabled-keywords m r e = tabled-in table (unfold resinfo.opened is_keyword whole in refl) m r e
