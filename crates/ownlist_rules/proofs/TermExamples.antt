-- What the theorems on our own list speak of, at worked examples: which code points an entry may hold, computed, and of each notion something that it
-- holds of, and next to that something that it does not hold of.
use Prim.Native.Nat.{ℕ, ◌+◌, ◌≤◌, ◌<◌}
use native.Mathlib.Omega.{arith}
use mathlib.Core.Path.{◌≡◌, refl, ap}
use mathlib.Core.Bool.{true, false}
use mathlib.Core.List.{List, [], ◌∷◌, ◌++◌, map}
use lib.Dec.{lit≤, lit<}
use lib.ListN.{length, length-append}
use lib.Seq.{take-append_seam}
use Rattle.base_sequences.proofs.Booleans.{no_true}
use Rattle.base_readers.specs.Texts.{bytes}
use Rattle.base_readers.specs.Lines.{lined}
use Rattle.lexis_rules.proofs.ClassExamples.{range, members}
use Rattle.punycode_rules.specs.Unicode.{utf8s}
use Rattle.ownlist_rules.specs.Terms.{Each, nil, cons, entry_point, all_entry_points, EntryPoints, Utf8Entries, BadAt}
use Rattle.ownlist_rules.proofs.Unfolding.{opened}

-- ==== code points

-- of the numbers of a byte
low-points : members entry_point ≡ range 33 126 ++ range 128 255
unfolding opened
low-points = refl

-- and above: all but the surrogates, up to 10FFFF hex
high-points :
    (map entry_point (0x100 ∷ 0xD7FF ∷ 0xE000 ∷ 0x10FFFF ∷ []) ≡ true ∷ true ∷ true ∷ true ∷ [])
    × (map entry_point (0xD800 ∷ 0xDFFF ∷ 0x110000 ∷ []) ≡ false ∷ false ∷ false ∷ [])
unfolding opened
high-points = (refl, refl)

-- ==== the code points of an entry

abbrev umlaut : List ℕ
umlaut = 98 ∷ 252 ∷ bytes "cher"

entry-points : EntryPoints umlaut
unfolding opened
entry-points = record { points = refl; some = lit≤ tt; short = lit≤ tt }

-- not with a space, wherever it stands
not-space : EntryPoints (bytes " a") → ⊥
unfolding opened
not-space w = no_true w.points

not-later-space : EntryPoints (bytes "a ") → ⊥
unfolding opened
not-later-space w = no_true w.points

not-empty : EntryPoints [] → ⊥
unfolding opened
not-empty w = let h : 1 ≤ 0 = w.some in omega (arith, h)

-- 255 bytes, and not 256, whatever the number of code points
is-255 : (u : List ℕ) → all_entry_points u ≡ true → length (utf8s u) ≡ 255 → EntryPoints u
is-255 u p l = record { points = p; some = omega (arith, l); short = omega (arith, l) }

not-256 : (u : List ℕ) → length (utf8s u) ≡ 256 → EntryPoints u → ⊥
not-256 u l w = let h : length (utf8s u) ≤ 255 = w.short in omega (arith, l, h)

-- ==== each of some texts

each-entry : Each EntryPoints (umlaut ∷ umlaut ∷ [])
each-entry = cons entry-points (cons entry-points nil)

not_first : Each EntryPoints ([] ∷ umlaut ∷ []) → ⊥
not_first (cons w r) = not-empty w

not-second : Each EntryPoints (umlaut ∷ [] ∷ []) → ⊥
not-second (cons w (cons v r)) = not-empty v

-- ==== a good list

-- bücher twice
utf8-entries : Utf8Entries (98 ∷ 195 ∷ 188 ∷ bytes "cher\nb" ++ (195 ∷ 188 ∷ bytes "cher\n"))
unfolding opened
utf8-entries = record { texts = umlaut ∷ umlaut ∷ []; each = each-entry; few = lit≤ tt; is = refl }

-- one without entries
no-entries : Utf8Entries []
unfolding opened
no-entries = record { texts = []; each = nil; few = lit≤ tt; is = refl }

-- 64 entries, and not 65
are-64 : (us : List (List ℕ)) → Each EntryPoints us → length us ≡ 64 → Utf8Entries (lined (map utf8s us))
are-64 us w l = record { texts = us; each = w; few = omega (arith, l); is = refl }

not-65 : (list : List ℕ) (w : Utf8Entries list) → length w.texts ≡ 65 → ⊥
not-65 list w l = let h : length w.texts ≤ 64 = w.few in omega (arith, l, h)

-- an entry with its LF has two bytes at least
two_bytes : (u t : List ℕ) → EntryPoints u → 2 ≤ length (utf8s u ++ (10 ∷ t))
two_bytes u t w =
    let l : length (utf8s u ++ (10 ∷ t)) ≡ length (utf8s u) + length (10 ∷ t) = length-append (utf8s u) (10 ∷ t) in
    let s : 1 ≤ length (utf8s u) = w.some in
    omega (arith, l, s)

-- no list has one byte alone: LF would end an empty entry, and another byte would lack its LF
not-one : (b : ℕ) → Utf8Entries (b ∷ []) → ⊥
unfolding opened
not-one b w = go w.texts w.each w.is
  where
    go : (us : List (List ℕ)) → Each EntryPoints us → b ∷ [] ≡ lined (map utf8s us) → ⊥
    go [] nil e = let h : ◌≡◌ {A = ℕ} 1 0 = ap length e in omega (arith, h)
    go (u ∷ us) (cons g r) e =
        let h : ◌≡◌ {A = ℕ} 1 (length (utf8s u ++ (10 ∷ lined (map utf8s us)))) = ap length e in
        omega (arith, h, two_bytes u (lined (map utf8s us)) g)

-- ==== where another list is bad

abbrev a : List ℕ
a = bytes "a"

a-points : EntryPoints a
unfolding opened
a-points = record { points = refl; some = lit≤ tt; short = lit≤ tt }

a-entries : Utf8Entries (bytes "a\n")
unfolding opened
a-entries = record { texts = a ∷ []; each = cons a-points nil; few = lit≤ tt; is = refl }

-- an empty entry, behind another one
bad-second : BadAt (bytes "a\n\n") 2
unfolding opened
bad-second =
    record {
      before = a-entries;
      there = lit< tt;
      bad = λ u t w e. absurd (let h : ◌≡◌ {A = ℕ} 1 (length (utf8s u ++ (10 ∷ t))) = ap length e in omega (arith, h, two_bytes u t w));
    }

-- a good entry behind 64 others
bad-65th : (us : List (List ℕ)) → Each EntryPoints us → length us ≡ 64 → BadAt (lined (map utf8s us) ++ bytes "a\n") (length (lined (map utf8s us)))
bad-65th us w l =
    let front = lined (map utf8s us) in
    let n : length (front ++ bytes "a\n") ≡ length front + 2 = length-append front (bytes "a\n") in
    record {
      before = record { texts = us; each = w; few = omega (arith, l); is = take-append_seam front (bytes "a\n") };
      there = omega (arith, n);
      bad = λ u t g e. l;
    }

-- not where a good one starts, before it
not_good : BadAt (bytes "a\n\n") 0 → ⊥
unfolding opened
not_good w = go w.before.texts w.before.each w.before.is (w.bad a (bytes "\n") a-points refl)
  where
    go : (us : List (List ℕ)) → Each EntryPoints us → [] ≡ lined (map utf8s us) → length us ≡ 64 → ⊥
    go [] nil e l = let h : ◌≡◌ {A = ℕ} 0 64 = l in omega (arith, h)
    go (u ∷ us) (cons g r) e l =
        let h : ◌≡◌ {A = ℕ} 0 (length (utf8s u ++ (10 ∷ lined (map utf8s us)))) = ap length e in
        omega (arith, h, two_bytes u (lined (map utf8s us)) g)

-- not behind another bad one
not_behind : BadAt (bytes "\n\n") 1 → ⊥
unfolding opened
not_behind w = not-one 10 w.before

-- and not at the end of a good list
not_end : BadAt (bytes "a\n") 2 → ⊥
unfolding opened
not_end w = let h : 2 < 2 = w.there in omega (arith, h)
