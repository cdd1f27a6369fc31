-- What stands behind the identifier of a body, by the tests that the code makes in turn: the header version, and what has to follow the
-- head. And the text of the identifier changes nothing of what is written behind its line, so that it may be left out.
use Prim.Native.Nat.{ℕ, zero, suc, ◌+◌, ◌-◌, ◌*◌, ◌≤◌}
use native.Mathlib.Omega.{arith}
use mathlib.Core.Path.{◌≡◌, refl, sym, ap, ◌∙◌, subst}
use mathlib.Core.Bool.{Bool, true, false}
use mathlib.Core.List.{List, [], ◌∷◌, ◌++◌}
use mathlib.Core.Option.{Option, none, some}
use lib.ListN.{length, drop, length-append, length-drop}
use lib.Seq.{length-take-le, drop-drop}
use Rattle.base_sequences.specs.Stored.{cap, Wrote, Clipped}
use Rattle.base_sequences.proofs.Clips.{clipped-wrote}
use Rattle.base_sequences.proofs.Splices.{wrote_none, wrote-long, wrote_count}
use Rattle.base_readers.specs.Texts.{bytes, follows}
use Rattle.base_readers.specs.Parsers.{Got, nothing, got, optional}
use Rattle.base_readers.specs.Places.{from}
use Rattle.base_readers.proofs.Readers.{run_fits}
use Rattle.base_readers.proofs.Places.{at-got}
use Rattle.base_readers.proofs.Sequencing.{bind-got, give-is, optional-some, optional-none}
use Rattle.lexis_rules.specs.Limits.{byte_limit}
use Rattle.lexis_rules.specs.declared.Class.TheVariants.{Delimiter, Digit}
use Rattle.lexis_rules.specs.declared.VersionNumber.{VersionNumber}
use Rattle.lexis_rules.specs.Bytes.{in_class}
use Rattle.lexis_rules.specs.Pieces.{space, digits, leading}
use Rattle.lexis_rules.specs.Numbers.{number_of, is_one}
use Rattle.lexis_rules.specs.Words.{counted}
use Rattle.lexis_laws.proofs.VersionNumbers.{leading_le, number-counted}
use Rattle.identifier.specs.declared.Identifier.TheVariants.{Readable}
use Rattle.identifier.specs.declared.version.Version.TheVariants.{Absent, Stated}
use Rattle.identifier_rules.specs.Identifier.{identifier}
use Rattle.identifier_rules.specs.Version.{stated, header_version}
use Rattle.identifier.specs.Answers.{identifier_at, text_of}
use Rattle.identifier.specs.VersionAnswers.{version_from, version_at, version_got}
use Rattle.identifier.proofs.Identifiers.{identifier-found, identifier-inside}
use Rattle.identifier.proofs.Versions.{version-got}
use Rattle.result_rules.specs.Results.{Result}
use Rattle.base_sequences.specs.Spans.{span}
use Rattle.report_rules.specs.Body.{Head, Reading, malformed, newer, no_result, results, head, resinfos, word_none, payload, headed, reading}
use Rattle.report_rules.specs.Report.{line, id_line, version_line, none_line, lines}
use Rattle.report_laws.proofs.Readings.{reading-is, first_one, headed-is}
use Rattle.report_rules.specs.declared.Reported.{Reported}
use Rattle.report.specs.Internal.{refused, Behind, newer_at, headed_at, Said}
use Rattle.report_laws.proofs.Sizes.{id-size}
use Rattle.report.proofs.Fronts.{wrote-fronted, fronted-then}
use Rattle.report.proofs.Payloads.{Room, behind-malformed}

-- ==== header version 1, or none

abbrev named : List ℕ → List ℕ → Head
named i v = record { identifier = i; version = v }

-- the head of a body that states no other header version, without its identifier
abbrev first_head : Head
first_head = named [] (bytes "1")

headed-shut : (h : Head) (xs : List ℕ) → follows (in_class Delimiter) xs ≡ false → headed h xs ≡ malformed
unfolding headed
headed-shut h xs f = rw (headed, f)

-- what a body says whose header version has the number 1, whatever its digits
headed-first : (v xs : List ℕ) → is_one (number_of v) ≡ true → headed (named [] v) xs ≡ headed first_head xs
headed-first v xs o = go (follows (in_class Delimiter) xs) refl
  where
    go : (t : Bool) → follows (in_class Delimiter) xs ≡ t → headed (named [] v) xs ≡ headed first_head xs
    go true d = headed-is (named [] v) xs d o ∙ sym (headed-is first_head xs d first_one)
    go false d = headed-shut (named [] v) xs d ∙ sym (headed-shut first_head xs d)

-- the same is said
behind-as : {x y : Reading} {old new : List ℕ} {to : ℕ} {r : Reported} → x ≡ y → Behind y old to new r → Behind x old to new r
behind-as {x} {y} {old} {new} {to} {r} e b = subst (λ (z : Reading). Behind z old to new r) (sym e) b

module _ (s : List ℕ) (at : ℕ) (old : List ℕ) (to : ℕ) (d : Bool) (h : d ≡ follows (in_class Delimiter) (drop at s)) where
  module _ (t : d ≡ true) where
    first-is : headed first_head (drop at s) ≡ payload [] (drop at s)
    first-is = headed-is first_head (drop at s) (sym h ∙ t) first_one

    pub first-payload : (new : List ℕ) (x : Reported) → Behind (payload [] (drop at s)) old to new x → Behind (headed first_head (drop at s)) old to new x
    first-payload new x b = behind-as first-is b

  pub first-shut : d ≡ false → (x : Reported) → x ≡ refused 9 0 → Behind (headed first_head (drop at s)) old to old x
  first-shut t x e = behind-malformed (headed-shut first_head (drop at s) (sym h ∙ t)) e (wrote-fronted (wrote_none old to))

-- ==== another header version

span-size : (s : List ℕ) (a e : ℕ) → a ≤ e → e ≤ length s → length (span s a e) ≡ e - a
span-size s a e l m = length-take-le (e - a) (drop a s) (omega (arith, length-drop a s))

version-line : (v : List ℕ) → length (version_line v) ≡ length v + 3
unfolding version_line line
version-line v = omega (arith, length-append v (10 ∷ []))

module _ (s : List ℕ) (a e : ℕ) (old : List ℕ) (to : ℕ) where
  newer-fits : Room s to × ((a ≤ e) × (e ≤ length s)) → to + length (version_line (span s a e)) ≤ cap
  newer-fits r = omega (arith, version-line (span s a e), span-size s a e r.1.0 r.1.1, r.0, r.1)

  module _ (d : Bool) (h : d ≡ follows (in_class Delimiter) (drop e s)) where
    pub newer-stated : d ≡ true → Room s to × ((a ≤ e) × (e ≤ length s)) → (new : List ℕ) (n : ℕ) → Clipped old to (version_line (span s a e)) new n
        → Behind (newer_at s a e) old to new (record { number = 8; place = 0; written = n; ignored = 0 })
    unfolding newer_at
    newer-stated t r new n c =
        let w = clipped-wrote (newer-fits r) c in
        let f : follows (in_class Delimiter) (drop e s) ≡ true = sym h ∙ t in
        rw (newer_at, f) (record { answer = rw w.place; bytes = wrote-fronted w })

    pub newer-shut : d ≡ false → (x : Reported) → x ≡ refused 9 0 → Behind (newer_at s a e) old to old x
    unfolding newer_at
    newer-shut t x q =
        let f : follows (in_class Delimiter) (drop e s) ≡ false = sym h ∙ t in
        behind-malformed (rw (newer_at, f)) q (wrote-fronted (wrote_none old to))

-- ==== the header version that is stated

-- the digits from a up to e are those that count of a run, and v is its number
record Counts (s : List ℕ) (a e : ℕ) (v : VersionNumber) : Type 0 where
  at : ℕ
  less : ℕ
  some : digits (drop at s) ≡ suc less
  first : a ≡ at + leading (drop at s)
  last : e ≡ at + digits (drop at s)
  is : v ≡ number_of (drop at s)

version-inv : (s : List ℕ) (at a e : ℕ) (v : VersionNumber) → Stated a e v ≡ version_at s at → Counts s a e v
unfolding version_at version_from
version-inv s at a e v h = spaces (space (drop at s)) refl
  where
    absent : Stated a e v ≡ Absent → Counts s a e v
    absent z = absurd (let b : ◌≡◌ {A = ℕ} 0 1 = cc in omega arith)

    run : (m n : ℕ) → space (drop at s) ≡ suc m → digits (drop (at + suc m) s) ≡ n → Counts s a e v
    run m zero i d = absent (rw (version_at, i, version_from, d) at h)
    run m (suc n) i d =
        let b = at + suc m in
        let w : Stated a e v ≡ Stated (b + leading (drop b s)) (b + suc n) (number_of (drop b s)) = rw (version_at, i, version_from, d) at h in
        let j : a ≡ b + leading (drop b s) = cc in
        let k : e ≡ b + suc n = cc in
        let l : v ≡ number_of (drop b s) = cc in
        record { at = b; less = n; some = d; first = j; last = k ∙ ap (λ (x : ℕ). b + x) (sym d); is = l }

    spaces : (m : ℕ) → space (drop at s) ≡ m → Counts s a e v
    spaces zero i = absent (rw (version_at, i) at h)
    spaces (suc m) i = run m (digits (drop (at + suc m) s)) i refl

module _ (s : List ℕ) (a e : ℕ) (v : VersionNumber) (c : Counts s a e v) where
  counts-inside : (a ≤ e) × (e ≤ length s)
  counts-inside = (
    omega (arith, c.first, c.last, leading_le (drop c.at s)),
    omega (arith, c.last, c.some, run_fits (in_class Digit) (drop c.at s), length-drop c.at s),
  )

  -- their number is that of the run
  counts-number : number_of (span s a e) ≡ v
  unfolding counted
  counts-number =
      let b = c.at in
      let k : e - a ≡ digits (drop b s) - leading (drop b s) = omega (arith, c.first, c.last) in
      let d : drop a s ≡ drop (leading (drop b s)) (drop b s) = rw (c.first, drop-drop) in
      let t : span s a e ≡ counted (drop b s) = rw (k, d) in
      ap number_of t ∙ (number-counted (drop b s) ∙ sym c.is)

module _ (s : List ℕ) (at : ℕ) where
  headed-at : (v : Option (List ℕ)) (n : ℕ) → got v n ≡ from (optional stated) s at → headed_at s at ≡ headed (named [] (header_version v)) (drop n s)
  unfolding headed_at
  headed-at v n e = rw (headed_at, ← e)

  module _ (old : List ℕ) (to : ℕ) where
    module _ (a e : ℕ) (v : VersionNumber) (h : Stated a e v ≡ version_at s at) where
      stated-is : headed_at s at ≡ headed (named [] (span s a e)) (drop e s)
      unfolding header_version
      stated-is = headed-at (some (span s a e)) e (ap (version_got s at) h ∙ version-got s at)

      pub other-room : Room s to → Room s to × ((a ≤ e) × (e ≤ length s))
      other-room r = (r, counts-inside s a e v (version-inv s at a e v h))

      module _ (o : Bool) (q : o ≡ is_one v) where
        one-said : is_one (number_of (span s a e)) ≡ o
        one-said = ap is_one (counts-number s a e v (version-inv s at a e v h)) ∙ sym q

        pub one-stated : o ≡ true → (new : List ℕ) (x : Reported) → Behind (headed first_head (drop e s)) old to new x → Behind (headed_at s at) old to new x
        one-stated t new x b = behind-as (stated-is ∙ headed-first (span s a e) (drop e s) (one-said ∙ t)) b

        pub other-stated : o ≡ false → (new : List ℕ) (x : Reported) → Behind (newer_at s a e) old to new x → Behind (headed_at s at) old to new x
        unfolding newer_at headed
        other-stated f new x b = behind-as (stated-is ∙ go (follows (in_class Delimiter) (drop e s)) refl) b
          where
            go : (t : Bool) → follows (in_class Delimiter) (drop e s) ≡ t → headed (named [] (span s a e)) (drop e s) ≡ newer_at s a e
            go true d = rw (headed, newer_at, d, one-said, f)
            go false d = rw (headed, newer_at, d)

    module _ (h : Absent ≡ version_at s at) where
      absent-is : headed_at s at ≡ headed first_head (drop at s)
      unfolding header_version
      absent-is = headed-at none at (ap (version_got s at) h ∙ version-got s at)

      pub absent-stated : (new : List ℕ) (x : Reported) → Behind (headed first_head (drop at s)) old to new x → Behind (headed_at s at) old to new x
      absent-stated new x b = behind-as absent-is b

-- ==== the identifier's text

-- two readings that differ only in the text of the identifier, i or none
data Alike (i : List ℕ) : Reading → Reading → Type 0 where
  ill : Alike i malformed malformed
  other : (v : List ℕ) → Alike i (newer (named i v)) (newer (named [] v))
  word : Alike i (no_result i) (no_result [])
  list : (rs : List Result) → Alike i (results i rs) (results [] rs)

module _ (i xs : List ℕ) where
  payload-alike : Alike i (payload i xs) (payload [] xs)
  unfolding payload
  payload-alike = go (resinfos xs) refl
    where
      unlike : resinfos xs ≡ nothing → (g : Got (Unit {0})) → word_none xs ≡ g → Alike i (payload i xs) (payload [] xs)
      unlike e nothing f = rw (payload, e, f) ill
      unlike e (got u n) f = rw (payload, e, f) word

      go : (g : Got (List Result)) → resinfos xs ≡ g → Alike i (payload i xs) (payload [] xs)
      go nothing e = unlike e (word_none xs) refl
      go (got [] n) e = rw (payload, e) ill
      go (got (r ∷ rs) n) e = rw (payload, e) (list (r ∷ rs))

  headed-alike : (v : List ℕ) → Alike i (headed (named i v) xs) (headed (named [] v) xs)
  unfolding headed
  headed-alike v = go (follows (in_class Delimiter) xs) (is_one (number_of v)) refl refl
    where
      go : (f o : Bool) → follows (in_class Delimiter) xs ≡ f → is_one (number_of v) ≡ o
          → Alike i (headed (named i v) xs) (headed (named [] v) xs)
      go false o p q = rw (headed, p) ill
      go true true p q = rw (headed, p, q) payload-alike
      go true false p q = rw (headed, p, q) (other v)

module _ (s i : List ℕ) (e : ℕ) (h : identifier s ≡ got i e) where
  head-is : (v : Option (List ℕ)) (n : ℕ) → optional stated (drop e s) ≡ got v n → head s ≡ got (named i (header_version v)) (e + n)
  unfolding head
  head-is v n o =
      let z : e + (n + 0) ≡ e + n = omega arith in
      bind-got identifier _ s i e (named i (header_version v)) (n + 0) h
      (bind-got (optional stated) _ (drop e s) v n (named i (header_version v)) 0 o (give-is (named i (header_version v)) (drop n (drop e s))))
      ∙ rw z

  -- a body whose identifier is read says what stands behind it
  reading-alike : Alike i (reading s) (headed_at s e)
  reading-alike = go (stated (drop e s)) refl
    where
      behind : (v : Option (List ℕ)) (n : ℕ) → optional stated (drop e s) ≡ got v n → Alike i (reading s) (headed_at s e)
      behind v n o =
          rw (reading-is s (named i (header_version v)) (e + n) (head-is v n o), headed-at s e v (e + n) (at-got (optional stated) s e v n (e + n) o refl))
          (headed-alike i (drop (e + n) s) (header_version v))

      go : (g : Got (List ℕ)) → stated (drop e s) ≡ g → Alike i (reading s) (headed_at s e)
      go nothing q = behind none 0 (optional-none stated (drop e s) q)
      go (got v n) q = behind (some v) n (optional-some stated (drop e s) v n q)

-- ==== the whole body, behind the line of the identifier

module _ (i : List ℕ) where
  module _ (old mid : List ℕ) (n : ℕ) (new : List ℕ) (w : Wrote old 0 (id_line i) mid n) where
    -- the place after a text behind that line
    after-id : (t : List ℕ) → n + length t ≡ length (id_line i ++ t)
    after-id t = omega (arith, length-append (id_line i) t, wrote_count w)

    alike-said : (x y : Reading) (r : Reported) → Alike i x y → Behind y mid n new r → Said x old new r
    alike-said x y r ill b = record { answer = b.answer; bytes = record { front = refl; long = b.bytes.long ∙ wrote-long w } }
    alike-said x y r (other v) b =
        record { answer = b.answer ∙ rw (after-id (version_line v)); bytes = fronted-then (id_line i) (version_line v) w b.bytes }
    alike-said x y r word b =
        record { answer = b.answer ∙ rw (after-id none_line); bytes = fronted-then (id_line i) none_line w b.bytes }
    alike-said x y r (list rs) b =
        record { answer = b.answer ∙ rw (after-id (lines rs)); bytes = fronted-then (id_line i) (lines rs) w b.bytes }

module _ (s : List ℕ) (a e : ℕ) (q : Bool) (old : List ℕ)
    (room : (length s ≤ byte_limit) × (Readable a e q ≡ identifier_at s)) where
  id-reads : identifier s ≡ got (text_of s a e q) e
  id-reads = identifier-found s a e q room.1

  id-short : length (id_line (text_of s a e q)) ≤ 3 * byte_limit + 4
  id-short = omega (arith, id-size s (text_of s a e q) e id-reads, (identifier-inside s a e q room.1).1, room.0)

  module _ (mid : List ℕ) (n : ℕ) (c : Clipped old 0 (id_line (text_of s a e q)) mid n) where
    id-wrote : Wrote old 0 (id_line (text_of s a e q)) mid n
    id-wrote = clipped-wrote (omega (arith, id-short)) c

    pub body-room : Room s n
    body-room = (room.0, omega (arith, id-short, wrote_count id-wrote))

    pub body-said : (new : List ℕ) (r : Reported) → Behind (headed_at s e) mid n new r → Said (reading s) old new r
    body-said new r b =
        alike-said (text_of s a e q) old mid n new id-wrote (reading s) (headed_at s e) r (reading-alike s (text_of s a e q) e id-reads) b
