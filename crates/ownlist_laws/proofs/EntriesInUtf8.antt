-- 02, ticket [2]: "List entries may now hold valid UTF-8 from 128 up; other bytes there are still 5". Which lists are good, exactly: at most 64
-- texts in UTF-8 of 1 to 255 bytes, each ended by LF, whose code points are 33 to 126 and any scalar value from 128 up. An entry's text is cut
-- into what the recogniser takes, and that is what the encoder writes (TakenIsEncoded, EncodedIsTaken).
use Prim.Native.Nat.{ℕ, zero, suc, ◌+◌, ◌≤◌, ◌<◌}
use native.Mathlib.Nat.{add-zero}
use native.Mathlib.Omega.{arith}
use mathlib.Core.Path.{◌≡◌, refl, sym, ap, ◌∙◌}
use mathlib.Core.Bool.{Bool, true, false, cond, ◌&&◌}
use mathlib.Core.List.{List, [], ◌∷◌, ◌++◌, map, append_assoc, append-nil}
use lib.Dec.{lit≤}
use lib.ListN.{length, get_or, take, drop, take-append-drop, length-append, length-map}
use lib.Seq.{length-take-le, take-take, take-append_seam, drop-append_seam, get_or-append_seam, drop-drop}
use borrow.Author.Tests.{le-leb, lt-leb}
use Rattle.base_sequences.proofs.Booleans.{no_true, and_left, and_right}
use Rattle.base_readers.specs.Texts.{bytes}
use Rattle.base_readers.specs.Readers.{many}
use Rattle.base_readers.specs.Walks.{item, Walked, before, walk}
use Rattle.base_readers.specs.Lines.{lined}
use Rattle.base_readers.proofs.Readers.{many-past, many-none, many_more}
use Rattle.base_readers.proofs.Walks.{walk-item, walk_end}
use Rattle.lexis_rules.specs.declared.Class.TheVariants.{Visible}
use Rattle.lexis_rules.specs.Bytes.{in_class}
use Rattle.punycode_rules.specs.Unicode.{scalar, utf8, utf8s}
use Rattle.punycode_laws.proofs.Digits.{within-inv}
use Rattle.punycode_laws.proofs.Encoding.{utf8-bounds}
use Rattle.punycode_laws.proofs.BytesTellCodePoints.{utf8-low, Form, one, two, three, four, form}
use Rattle.ownlist_rules.specs.Utf8.{second, further, sequence}
use Rattle.ownlist_rules.specs.OwnList.{entry_limit, longest, entry_item, entry_text, entry, entry_at, own_list}
use Rattle.ownlist_rules.specs.Terms.{Each, nil, cons, entry_point, all_entry_points, EntryPoints, Utf8Entries}
use Rattle.ownlist_rules.proofs.Unfolding.{opened}
use Rattle.ownlist_laws.proofs.Entries.{entry-fits, entry-is, entry-ends}
use Rattle.ownlist_laws.proofs.OwnListLaws.{walk-each, walk-lined, list-few}
use Rattle.ownlist_laws.proofs.TakenIsEncoded.{taken-encoded}
use Rattle.ownlist_laws.proofs.EncodedIsTaken.{encoded-taken}

-- ==== bytes and code points

visible-below : (b : ℕ) → in_class Visible b ≡ true → b < 128
unfolding in_class
visible-below b h = let k = (within-inv 33 126 b h).1 in omega (arith, k)

high-invisible : (b : ℕ) → 128 ≤ b → in_class Visible b ≡ false
high-invisible b h = go (in_class Visible b) refl
  where
    go : (t : Bool) → in_class Visible b ≡ t → in_class Visible b ≡ false
    go true e = let k = visible-below b e in absurd (omega (arith, k))
    go false e = e

point-high : (x : ℕ) → 128 ≤ x → entry_point x ≡ scalar x
unfolding entry_point
point-high x h = rw (high-invisible x h, le-leb 128 x h)

point-low : (x : ℕ) → x < 128 → entry_point x ≡ true → in_class Visible x ≡ true
unfolding entry_point
point-low x h e = go (in_class Visible x) refl
  where
    go : (t : Bool) → in_class Visible x ≡ t → in_class Visible x ≡ true
    go true q = q
    go false q = let z : false ≡ true = rw (q, lt-leb 128 x h) at e in absurd (no_true z)

-- ==== what is taken of an entry is in UTF-8

-- a piece of an entry is one code point
record Point (bs : List ℕ) : Type 0 where
  number : ℕ
  good : entry_point number ≡ true
  bytes : bs ≡ utf8 number

item-point : (xs : List ℕ) (n : ℕ) → entry_item xs ≡ suc n → Point (take (suc n) xs)
unfolding entry_item
item-point xs n e = go (in_class Visible (get_or xs 0 0)) refl
  where
    high : in_class Visible (get_or xs 0 0) ≡ false → Point (take (suc n) xs)
    high q =
        let s : sequence xs ≡ suc n = rw (entry_item, q) at e in
        let w = taken-encoded xs n s in
        record { number = w.number; good = point-high w.number w.from ∙ w.good; bytes = w.bytes }

    low : (ys : List ℕ) → in_class Visible (get_or ys 0 0) ≡ true → n ≡ 0 → Point (take (suc n) ys)
    low [] q z = let k = (within-inv 33 126 0 (unfold in_class in q)).0 in absurd (omega (arith, k))
    low (y ∷ ys) q z =
        let b : entry_point y ≡ true = unfold entry_point in rw q in
        rw z (record { number = y; good = b; bytes = sym (utf8-low y (visible-below y q)) })

    go : (t : Bool) → in_class Visible (get_or xs 0 0) ≡ t → Point (take (suc n) xs)
    go true q = let z : 1 ≡ suc n = rw (entry_item, q) at e in low xs q (omega (arith, z))
    go false q = high q

-- a text of code points
record Points (bs : List ℕ) : Type 0 where
  numbers : List ℕ
  good : all_entry_points numbers ≡ true
  bytes : bs ≡ utf8s numbers

no-points : Points []
unfolding utf8s
no-points = record { numbers = []; good = refl; bytes = refl }

points-more : (x n m : ℕ) (xs : List ℕ) → n ≤ m → Point (take (suc n) (x ∷ xs)) → Points (drop n (take m xs)) → Points (x ∷ take m xs)
unfolding utf8s
points-more x n m xs h p w =
    let c : take m xs ≡ take n xs ++ drop n (take m xs) = sym (take-append-drop n (take m xs)) ∙ ap (λ (l : List ℕ). l ++ drop n (take m xs)) (take-take n m xs h) in
    record {
      numbers = p.number ∷ w.numbers;
      good = rw (p.good, w.good);
      bytes = ap (λ (l : List ℕ). x ∷ l) c ∙ (ap (λ (l : List ℕ). l ++ drop n (take m xs)) p.bytes ∙ ap (λ (l : List ℕ). utf8 p.number ++ l) w.bytes);
    }

many-points : (k : ℕ) (xs : List ℕ) → Points (drop k (take (many entry_item k xs) xs))
unfolding many
many-points zero [] = no-points
many-points (suc k) [] = no-points
many-points (suc k) (x ∷ xs) = many-points k xs
many-points zero (x ∷ xs) = go (λ k. many-points k xs) (entry_item (x ∷ xs)) refl
  where
    go : ((k : ℕ) → Points (drop k (take (many entry_item k xs) xs))) → (n : ℕ) → entry_item (x ∷ xs) ≡ n → Points (take (many entry_item zero (x ∷ xs)) (x ∷ xs))
    go ih zero e = rw (many, e) no-points
    go ih (suc n) e = rw (many, e) (points-more x n (many entry_item n xs) xs (many-past entry_item n xs) (item-point (x ∷ xs) n e) (ih n))

-- an entry's text
pub record Coded (e : List ℕ) : Type 0 where
  pub numbers : List ℕ
  pub good : EntryPoints numbers
  pub bytes : e ≡ utf8s numbers

pub entry-coded : (xs : List ℕ) (n : ℕ) → entry xs ≡ suc n → Coded (take n xs)
entry-coded xs n e =
    let w = many-points 0 xs in
    let b : take n xs ≡ utf8s w.numbers = ap (λ (k : ℕ). take k xs) (entry-ends xs n e).0 ∙ w.bytes in
    let k = entry-is xs n e in
    let f = entry-fits xs in
    let l : length (utf8s w.numbers) ≡ n = sym (ap length b) ∙ length-take-le n xs (omega (arith, f)) in
    record { numbers = w.numbers; good = record { points = w.good; some = rw l k.0; short = rw l k.1 }; bytes = b }

-- the code points of all entries
pub record Texts (es : List (List ℕ)) : Type 0 where
  pub texts : List (List ℕ)
  pub each : Each EntryPoints texts
  pub bytes : es ≡ map utf8s texts

texts-of : {es : List (List ℕ)} → Each Coded es → Texts es
texts-of nil = record { texts = []; each = nil; bytes = refl }
texts-of (cons {e} {es} c w) =
    let r = texts-of w in
    record {
      texts = c.numbers ∷ r.texts;
      each = cons c.good r.each;
      bytes = ap (λ (l : List ℕ). l ∷ es) c.bytes ∙ ap (λ (l : List (List ℕ)). utf8s c.numbers ∷ l) r.bytes;
    }

-- those of a list, also of one that is refused: its entries before the first bad one
pub list-texts : (list : List ℕ) → Texts (own_list list).items
list-texts list = texts-of (walk-each Coded (λ xs. Unit {0}) (λ x xs q. tt) (λ xs n q e. entry-coded xs n e) 0 0 0 list tt)

pub texts-many : (list : List ℕ) → length (list-texts list).texts ≡ length (own_list list).items
texts-many list = sym (ap length (list-texts list).bytes ∙ length-map (list-texts list).texts utf8s)

-- a list that is not refused
pub list-good-when : (list : List ℕ) → (own_list list).number ≡ 0 → Utf8Entries list
list-good-when list z =
    let t = list-texts list in
    record {
      texts = t.texts;
      each = t.each;
      few = let k = list-few list in let l = texts-many list in omega (arith, k, l);
      is = walk-lined 0 0 0 list z ∙ ap lined t.bytes;
    }

-- ==== what is in UTF-8 is taken

-- LF ends a text
feed-item : (t : List ℕ) → entry_item (10 ∷ t) ≡ 0
unfolding opened
feed-item t = go (second 10 (get_or t 0 0) && further 0 (10 ∷ t))
  where
    go : (b : Bool) → ◌≡◌ {A = ℕ} (cond b 0 0) 0
    go true = refl
    go false = refl

utf8-item : (x : ℕ) (r : List ℕ) → entry_point x ≡ true → entry_item (utf8 x ++ r) ≡ length (utf8 x)
utf8-item x r g = go (form x)
  where
    visible : (ys : List ℕ) → in_class Visible (get_or ys 0 0) ≡ true → entry_item ys ≡ 1
    visible ys e = unfold entry_item in rw (entry_item, e)

    other : (ys : List ℕ) → in_class Visible (get_or ys 0 0) ≡ false → entry_item ys ≡ sequence ys
    other ys e = unfold entry_item in rw (entry_item, e)

    high : 128 ≤ x → (b : ℕ) (bs : List ℕ) → utf8 x ≡ b ∷ bs → 128 ≤ b → entry_item (utf8 x ++ r) ≡ length (utf8 x)
    high h b bs e l = other (utf8 x ++ r) (rw e (high-invisible b l)) ∙ encoded-taken x r h (sym (point-high x h) ∙ g)

    go : Form x → entry_item (utf8 x ++ r) ≡ length (utf8 x)
    go (one h e) = rw e (visible (x ∷ r) (point-low x h g))
    go (two h i e) = high h _ _ e (omega arith)
    go (three h i e) = high (omega (arith, h)) _ _ e (omega arith)
    go (four h e) = high (omega (arith, h)) _ _ e (omega arith)

text-points : (u : List ℕ) → all_entry_points u ≡ true → (t : List ℕ) → entry_text (utf8s u ++ (10 ∷ t)) ≡ length (utf8s u)
unfolding utf8s
text-points [] g t = many-none entry_item (10 ∷ t) (feed-item t)
text-points (x ∷ u) g t = go (length (utf8 x)) refl (text-points u (and_right (entry_point x) (all_entry_points u) g) t)
  where
    r : List ℕ
    r = utf8s u ++ (10 ∷ t)

    a : (utf8 x ++ utf8s u) ++ (10 ∷ t) ≡ utf8 x ++ r
    a = append_assoc (utf8 x) (utf8s u) (10 ∷ t)

    i : entry_item (utf8 x ++ r) ≡ length (utf8 x)
    i = utf8-item x r (and_left (entry_point x) (all_entry_points u) g)

    go : (n : ℕ) → length (utf8 x) ≡ n → entry_text r ≡ length (utf8s u) → entry_text ((utf8 x ++ utf8s u) ++ (10 ∷ t)) ≡ length (utf8 x ++ utf8s u)
    go zero e h = let k = (utf8-bounds x).0 in absurd (omega (arith, k, e))
    go (suc n) e h =
        let m : many entry_item 0 (utf8 x ++ r) ≡ suc n + many entry_item 0 (drop (suc n) (utf8 x ++ r)) =
        many_more entry_item (utf8 x ++ r) n (i ∙ e) (let l : length (utf8 x ++ r) ≡ length (utf8 x) + length r = length-append (utf8 x) r in omega (arith, l, e)) in
        let d : drop (suc n) (utf8 x ++ r) ≡ r = rw (← e) (drop-append_seam (utf8 x) r) in
        ap entry_text a ∙ (m ∙ (ap (λ (l : List ℕ). suc n + many entry_item 0 l) d ∙ (rw (h, ← e) (sym (length-append (utf8 x) (utf8s u))))))

-- an entry with its LF
pub entry-points : (u : List ℕ) → EntryPoints u → (t : List ℕ) → entry (utf8s u ++ (10 ∷ t)) ≡ suc (length (utf8s u))
unfolding entry
entry-points u w t =
    let l : entry_text (utf8s u ++ (10 ∷ t)) ≡ length (utf8s u) = text-points u w.points t in
    let s : length (utf8s u) + 1 ≡ suc (length (utf8s u)) = omega arith in
    rw (entry, l, le-leb 1 (length (utf8s u)) w.some, le-leb (length (utf8s u)) longest w.short, get_or-append_seam (utf8s u) 10 t 0) s

entry-at : (u : List ℕ) → EntryPoints u → (t : List ℕ) (at count : ℕ) → count < entry_limit → entry_at at count (utf8s u ++ (10 ∷ t)) ≡ item (utf8s u) (suc (length (utf8s u)))
unfolding entry_at
entry-at u w t at count h =
    rw (entry_at, entry-points u w t, lt-leb entry_limit count h, take-append_seam (utf8s u) (10 ∷ t))

drop-line : (l t : List ℕ) → drop (suc (length l)) (l ++ (10 ∷ t)) ≡ t
drop-line l t =
    let n : length l + 1 ≡ suc (length l) = omega arith in
    ap (λ (k : ℕ). drop k (l ++ (10 ∷ t))) (sym n) ∙ (sym (drop-drop 1 (length l) (l ++ (10 ∷ t))) ∙ ap (drop 1) (drop-append_seam l (10 ∷ t)))

-- items in front of what a walk gives
abbrev pub onto : List (List ℕ) → Walked (List ℕ) → Walked (List ℕ)
onto es w = record { items = es ++ w.items; number = w.number; place = w.place }

-- a walk takes good entries, and goes on behind them
pub walk-points : (us : List (List ℕ)) → Each EntryPoints us → (rest : List ℕ) (at count : ℕ) → length us + count ≤ entry_limit
    → walk entry_at at count 0 (lined (map utf8s us) ++ rest) ≡ onto (map utf8s us) (walk entry_at (at + length (lined (map utf8s us))) (count + length us) 0 rest)
unfolding walk lined
walk-points [] nil rest at count h = rw (add-zero at, add-zero count)
walk-points (u ∷ us) (cons g w) rest at count h =
    let front = lined (map utf8s us) in
    let t = front ++ rest in
    let n = suc (length (utf8s u)) in
    let l : length (utf8s u ++ (10 ∷ t)) ≡ length (utf8s u) + suc (length t) = length-append (utf8s u) (10 ∷ t) in
    let m : length (utf8s u ++ (10 ∷ front)) ≡ length (utf8s u) + suc (length front) = length-append (utf8s u) (10 ∷ front) in
    let i = walk-item entry_at at count (utf8s u ++ (10 ∷ t)) (utf8s u) n (omega (arith, l)) (omega arith) (entry-at u g t at count (omega (arith, h))) in
    let d : drop n (utf8s u ++ (10 ∷ t)) ≡ t = drop-line (utf8s u) t in
    let p : at + n + length front ≡ at + length (utf8s u ++ (10 ∷ front)) = omega (arith, m) in
    let c : suc count + length us ≡ count + suc (length us) = omega arith in
    ap (walk entry_at at count 0) (append_assoc (utf8s u) (10 ∷ front) rest)
    ∙ (i
    ∙ (ap (λ (k : List ℕ). before (utf8s u) (walk entry_at (at + n) (suc count) 0 k)) d
    ∙ (ap (before (utf8s u)) (walk-points us w rest (at + n) (suc count) (omega (arith, h)))
    ∙ (ap (λ (q : ℕ). before (utf8s u) (onto (map utf8s us) (walk entry_at q (suc count + length us) 0 rest))) p
    ∙ ap (λ (q : ℕ). before (utf8s u) (onto (map utf8s us) (walk entry_at (at + length (utf8s u ++ (10 ∷ front))) q 0 rest))) c))))

-- such a list is read as these texts
pub list-when-good : (list : List ℕ) (w : Utf8Entries list) → own_list list ≡ record { items = map utf8s w.texts; number = 0; place = 0 }
list-when-good list w =
    let es = map utf8s w.texts in
    let n = length (lined es) in
    ap own_list (w.is ∙ sym (append-nil (lined es)))
    ∙ (walk-points w.texts w.each [] 0 0 (let k = w.few in omega (arith, k))
    ∙ (ap (onto es) (walk_end entry_at (0 + n) (0 + length w.texts)) ∙ ap (λ (l : List (List ℕ)). record { items = l; number = 0; place = 0 }) (append-nil es)))

-- ==== instances

-- bücher and its LF
utf8-instance : Utf8Entries (98 ∷ 195 ∷ 188 ∷ bytes "cher\n")
unfolding opened
utf8-instance = list-good-when (98 ∷ 195 ∷ 188 ∷ bytes "cher\n") refl

list-instance : own_list (98 ∷ 195 ∷ 188 ∷ bytes "cher\n") ≡ record { items = (98 ∷ 195 ∷ 188 ∷ bytes "cher") ∷ []; number = 0; place = 0 }
unfolding opened
list-instance =
    list-when-good (98 ∷ 195 ∷ 188 ∷ bytes "cher\n")
    (record { texts = (98 ∷ 252 ∷ bytes "cher") ∷ []; each = cons (record { points = refl; some = lit≤ tt; short = lit≤ tt }) nil; few = lit≤ tt; is = refl })

-- the same text in ISO 8859-1 is no UTF-8: 5
pub latin-instance : Utf8Entries (98 ∷ 252 ∷ bytes "cher\n") → ⊥
unfolding opened
latin-instance w = let z : ◌≡◌ {A = ℕ} 5 0 = ap (λ (a : Walked (List ℕ)). a.number) (list-when-good (98 ∷ 252 ∷ bytes "cher\n") w) in omega (arith, z)
