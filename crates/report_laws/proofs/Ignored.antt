-- An ignored result put beside a result of a body changes nothing that is written and is counted once: the head and the other results
-- are read as before, and the lines and the count are by induction on the results.
use Prim.Native.Nat.{ℕ, suc, ◌+◌, ◌*◌}
use native.Mathlib.Omega.{arith}
use mathlib.Core.Path.{◌≡◌, refl, ap, ◌∙◌}
use mathlib.Core.Bool.{Bool, true, false}
use mathlib.Core.List.Memᴰ
use mathlib.Core.List.{List, [], ◌∷◌, ◌++◌, append_assoc, Memᴰ}
use lib.Dec.{leb}
use lib.ListN.{length, drop, take, length-append, take-append-drop}
use lib.Seq.{drop-append_seam, drop-drop, take-add, length-take-le}
use Rattle.base_sequences.proofs.Booleans.{no_true}
use Rattle.base_readers.specs.Parsers.{got}
use Rattle.base_readers.proofs.Steadiness.{steady-exact}
use Rattle.lexis_rules.specs.Numbers.{one}
use Rattle.lexis_laws.proofs.VersionNumbers.{not-one}
use Rattle.result_rules.specs.Results.{Result}
use Rattle.result_rules.specs.Table.{known_version, known_method, understood}
use Rattle.result_laws.proofs.Following.{Closed, closed-delimited}
use Rattle.report_rules.specs.Body.{results, head, resinfos, payload, reading}
use Rattle.report_rules.specs.Report.{id_line, lines, ignored_of, refusal, fitted, answer, report}
use Rattle.report_rules.specs.Newer.{WellFormed, results_of, IsResult, WithinLimit, OneMore}
use Rattle.report_rules.specs.Beside.{insertion_places, insert_at}
use Rattle.report_laws.proofs.Heads.{head-within, head-steady}
use Rattle.report_laws.proofs.Readings.{report-is, reading-is, headed-is, payload-is, Sound, well-formed-inv, Payload, neither, word, some, payload-cases}
use Rattle.report_laws.proofs.Sequence.{Reads, reads-closed, reads-inv, reads-is}
use Rattle.report_laws.proofs.Cuts.{Put, put}
use Rattle.report_laws.proofs.Places.{Split, Found, places-found, word-places, places_count}

-- ==== lines and count

module _ (a : Result) (U : understood a ≡ false) where
  pub lines-put : (x y : List Result) → lines (x ++ (a ∷ y)) ≡ lines (x ++ y)
  unfolding lines
  lines-put [] y = rw U
  lines-put (r ∷ x) y = rw (lines-put x y)

  pub ignored-put : (x y : List Result) → ignored_of (x ++ (a ∷ y)) ≡ suc (ignored_of (x ++ y))
  unfolding ignored_of
  ignored-put [] y = rw U (omega arith)
  ignored-put (r ∷ x) y = rw (ignored-put x y) (omega arith)

-- a result whose method version isn't 1 is ignored
pub newer-ignored : (a : Result) → (a.methodspec.version ≡ one → ⊥) → understood a ≡ false
unfolding understood known_method known_version
newer-ignored a ne = rw (not-one a.methodspec.version ne)

-- the same lines, with one more ignored
pub fitted-more : (room : ℕ) (out : List ℕ) (k : ℕ) → OneMore (fitted room 0 out (suc k)) (fitted room 0 out k)
unfolding fitted refusal
fitted-more room out k = go (leb (length out) room) refl
  where
    go : (t : Bool) → leb (length out) room ≡ t → OneMore (fitted room 0 out (suc k)) (fitted room 0 out k)
    go true e = rw (fitted, e) (record { same = record { number = refl; place = refl; written = refl }; counted = λ z. refl })
    go false e = rw (fitted, e) (record { same = record { number = refl; place = refl; written = refl }; counted = λ z. absurd (omega arith) })

-- ==== a result put in

pub insert_at-length : (k : ℕ) (w b : List ℕ) → length (insert_at k w b) ≡ length b + length w
unfolding insert_at
insert_at-length k w b = simp length-append (omega (arith, simp length-append at (ap length (take-append-drop k b))))

payload-put : (i xs : List ℕ) (a : Result) (x y : List Result) → Reads xs (x ++ (a ∷ y)) → payload i xs ≡ results i (x ++ (a ∷ y))
payload-put i xs a [] y R = let g = reads-is R in payload-is i xs a y g.size g.reads
payload-put i xs a (b ∷ x) y R = let g = reads-is R in payload-is i xs b (x ++ (a ∷ y)) g.size g.reads

-- xs is what follows the head, and it is read as results
module _ (b w : List ℕ) (a : Result) (W : IsResult w a) (B : Sound b) (rs : List Result) (m : ℕ) (R : resinfos (drop B.size b) ≡ got rs m) where
  abbrev n : ℕ
  n = B.size

  abbrev xs : List ℕ
  xs = drop n b

  module _ (j : ℕ) (C : Split j xs) where
    abbrev changed : List ℕ
    changed = take j xs ++ (w ++ drop j xs)

    placed : Put rs a changed
    placed = put w a W C rs (rw (take-append-drop j xs) (reads-inv rs xs m R))

    abbrev all : List Result
    all = placed.before ++ (a ∷ placed.behind)

    closed : Closed changed
    closed = reads-closed placed.reads

    is-changed : insert_at (n + j) w b ≡ take n b ++ changed
    unfolding insert_at
    is-changed = rw (take-add n j b, ← drop-drop j n b) (append_assoc (take n b) (take j xs) (w ++ drop j xs))

    head-same : head (take n b ++ changed) ≡ got B.heads (length (take n b))
    head-same =
        let l : length (take n b) ≡ n = length-take-le n b (head-within b B.heads n B.reads).0 in
        let e : head (take n b ++ xs) ≡ got B.heads (length (take n b)) = rw (take-append-drop n b, l) B.reads in
        steady-exact head Closed head-steady (take n b) xs changed B.heads e closed

    reading-put : reading (insert_at (n + j) w b) ≡ results B.heads.identifier all
    reading-put =
        let e = reading-is (take n b ++ changed) B.heads (length (take n b)) head-same in
        ap reading is-changed
        ∙ (e ∙ (rw (drop-append_seam (take n b) changed) (headed-is B.heads changed (closed-delimited changed closed) B.first)
        ∙ payload-put B.heads.identifier changed a placed.before placed.behind placed.reads))

    report-put : reading b ≡ results B.heads.identifier rs → understood a ≡ false → WithinLimit (insert_at (n + j) w b) → WithinLimit b → (room : ℕ)
        → OneMore (report (insert_at (n + j) w b) room) (report b room)
    unfolding answer
    report-put S U L M room =
        let x = placed.before in
        let y = placed.behind in
        let out = id_line B.heads.identifier ++ lines rs in
        let old : report b room ≡ fitted room 0 out (ignored_of rs) = report-is b room M ∙ rw S in
        let new : report (insert_at (n + j) w b) room ≡ fitted room 0 out (suc (ignored_of rs)) =
        report-is (insert_at (n + j) w b) room L ∙ rw (reading-put, lines-put a U x y, ignored-put a U x y, ← placed.whole) in
        rw (new, old) (fitted-more room out (ignored_of rs))

-- at any place beside a result
pub ignored-inserted : (b w : List ℕ) (a : Result) → WellFormed b → IsResult w a → understood a ≡ false
    → (k : ℕ) → Memᴰ k (insertion_places b) → WithinLimit (insert_at k w b) → (room : ℕ) → OneMore (report (insert_at k w b) room) (report b room)
ignored-inserted b w a good W U k K L room = go (payload-cases B.heads.identifier (drop B.size b))
  where
    B : Sound b
    B = well-formed-inv b good

    go : Payload B.heads.identifier (drop B.size b) → OneMore (report (insert_at k w b) room) (report b room)
    go (neither p) = absurd (no_true (rw (B.says, p) at good))
    go (word n e p) = absurd (Memᴰ.not-nil (rw (word-places b B.heads B.size B.reads n e) at K))
    go (some rs m e p) =
        let F : Found b B.size k = places-found b B.heads B.size B.reads k K in
        let M : WithinLimit b = omega (arith, insert_at-length k w b) in
        rw F.is (report-put b w a W B rs m e F.away F.cuts (B.says ∙ p) U (rw F.is at L) M room)

-- four places for each result; the word none has none
pub places-four : (b : List ℕ) → WellFormed b → length (insertion_places b) ≡ 4 * length (results_of (reading b))
places-four b good = go (payload-cases B.heads.identifier (drop B.size b))
  where
    B : Sound b
    B = well-formed-inv b good

    go : Payload B.heads.identifier (drop B.size b) → length (insertion_places b) ≡ 4 * length (results_of (reading b))
    go (neither p) = absurd (no_true (rw (B.says, p) at good))
    go (word n e p) = rw (B.says, p, word-places b B.heads B.size B.reads n e)
    go (some rs m e p) = rw (B.says, p) (places_count b B.heads B.size B.reads (reads-inv rs (drop B.size b) m e))
