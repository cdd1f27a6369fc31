-- The report of a body, written in place or copied, behind the line of its field: one law for each way out of the code.
use Prim.Native.Nat.{ℕ, ◌+◌, ◌-◌, ◌≤◌, ◌<◌, ◌^◌, min}
use native.Mathlib.Omega.{arith}
use mathlib.Core.Path.{◌≡◌, refl, sym, ap, ◌∙◌, subst}
use mathlib.Core.Bool.{Bool, true, false}
use mathlib.Core.List.{List, [], ◌++◌, append_assoc, append-nil}
use borrow.Author.Tests.{ltb-true, ltb-false, leb-true, leb-false, eqb-true, eqb-false}
use lib.Dec.{ltb, leb, eqb}
use lib.ListN.{length, take, drop, length-append, length-drop, drop_of_length-le, take-append-drop}
use lib.Seq.{sets, sets-eq, take_all, drop-drop, take-append_seam}
use Rattle.base_sequences.specs.Stored.{cap, Clipped}
use Rattle.base_sequences.proofs.Booleans.{no_true}
use Rattle.base_sequences.proofs.Clips.{clipped-long}
use Rattle.base_sequences.proofs.Splices.{sets-out}
use Rattle.base_readers.specs.Texts.{bytes}
use Rattle.base_readers.specs.Parsers.{Got}
use Rattle.lexis_rules.specs.Bytes.{alike}
use Rattle.lexis_rules.specs.Limits.{byte_limit}
use Rattle.ownlist_rules.specs.declared.Own.{Own}
use Rattle.identifier_rules.specs.Identifier.{identifier}
use Rattle.report_rules.specs.Body.{reading}
use Rattle.report_rules.specs.Report.{Answer, report}
use Rattle.report_rules.specs.Answers as body
use Rattle.report_rules.specs.declared.Reported as code
use Rattle.report_laws.proofs.Rooms.{text-size}
use Rattle.report_laws.proofs.Numbers.{long, bad, short, whole, way, one-when, when-one, six-when, when-six, told-when, when-told}
use Rattle.blockreport_rules.specs.declared.Detail.{Detail}
use Rattle.blockreport_rules.specs.declared.Detail.TheVariants.{Reported, Identified}
use Rattle.blockreport_rules.specs.FieldLines.{field_line, identifier_line}
use Rattle.blockreport_rules.specs.BlockReport.{detail_line}
use Rattle.blockreport_laws.proofs.WithIdentifiers.{nine-malformed, detail-not-nine}
use Rattle.blockreport_fields.specs.Addends.{Addend, body_addend, field_addend, place_after, if_room, buffer_after}
use Rattle.blockreport_fields.proofs.Room.{room-enough, room-short, room_out, room-long, room-none, room-past, sets-past}

-- ==== the report alone

-- no report is longer than its room
within : (s : List ℕ) (room : ℕ) → length (report s room).written ≤ room
within s room =
    elim (way s room) [
      | long l q ↦ rw q (omega arith)
      | bad l h q ↦ rw q (omega arith)
      | short l h t q ↦ rw q (omega arith)
      | whole l h t q ↦ rw q t
    ]

-- one that isn't refused for its room says the same in the largest
same-said : (s : List ℕ) (room : ℕ) → ((report s room).number ≡ 6 → ⊥) → report s room ≡ report s cap
same-said s room ne = go (ltb byte_limit (length s)) refl
  where
    go : (b : Bool) → ltb byte_limit (length s) ≡ b → report s room ≡ report s cap
    go true e = let l = ltb-true byte_limit (length s) e in when-one s room l ∙ sym (when-one s cap l)
    go false e =
        let l = ltb-false byte_limit (length s) e in
        let f = (told-when s room (report s room).number (λ z. omega (arith, one-when s room z, l)) ne refl).1.1 in
        when-told s room l f ∙ sym (when-told s cap l (omega (arith, text-size s l, l)))

-- one that is refused for its room writes nothing, and is longer
short-said : (s : List ℕ) (room : ℕ) → (report s room).number ≡ 6 → ((report s room).written ≡ []) × (room < length (report s cap).written)
short-said s room e =
    let k = six-when s room e in
    let l = k.0 in
    let t = ap (λ (a : Answer). length a.written) (when-told s cap l (omega (arith, text-size s l, l))) in
    (ap (λ (a : Answer). a.written) (when-six s room l k.1.0 k.1.1), omega (arith, t, k.1.1))

module _ (s old : List ℕ) (to : ℕ) where
  -- no room is left
  pub report-out : length old < to → (size : ℕ) → size ≡ length (report s cap).written → (r : ℕ) → r ≡ min (to + size) cap
      → (r ≡ min (to + length (report s cap).written) cap) × (old ≡ if_room old to (report s cap).written)
  report-out h size e r q = (q ∙ rw e, sym (room_out old to (report s cap).written (omega arith)))

  -- the rest of the buffer is lent
  pub report-put : to ≤ length old → (size : ℕ) → size ≡ length (report s cap).written → (r : ℕ) → r ≡ min (to + size) cap
      → (ys : List ℕ) → ys ≡ body.leaves (report s (length (take (length old - to) (drop to old)))) (take (length old - to) (drop to old))
      → (r ≡ min (to + length (report s cap).written) cap) × (take to old ++ (ys ++ drop (length old - to) (drop to old)) ≡ if_room old to (report s cap).written)
  report-put h size e r q ys z = (q ∙ rw e, rw (all, z') (go (eqb (report s (length (drop to old))).number 6) refl))
    where
      part : take (length old - to) (drop to old) ≡ drop to old
      part = take_all (length old - to) (drop to old) (omega (arith, length-drop to old))

      all : drop (length old - to) (drop to old) ≡ []
      all = drop_of_length-le (drop to old) {i = length old - to} (omega (arith, length-drop to old))

      z' : ys ≡ body.leaves (report s (length (drop to old))) (drop to old)
      z' = rw part at z

      go : (b : Bool) → eqb (report s (length (drop to old))).number 6 ≡ b
          → take to old ++ (body.leaves (report s (length (drop to old))) (drop to old) ++ []) ≡ if_room old to (report s cap).written
      go true b =
          let k = short-said s (length (drop to old)) (eqb-true _ 6 b) in
          rw (k.0, append-nil (drop to old), room-short old to (report s cap).written (omega (arith, k.1, length-drop to old, h))) (take-append-drop to old)
      go false b =
          let k = same-said s (length (drop to old)) (eqb-false _ 6 b) in
          let f : to + length (report s cap).written ≤ length old = omega (arith, ap (λ (a : Answer). length a.written) k, within s (length (drop to old)), length-drop to old, h) in
          let w = (report s cap).written in
          rw (k, append-nil (w ++ drop (length w) (drop to old)), drop-drop, room-enough old to w f)
          (sym (sets-eq w old to f ∙ append_assoc (take to old) w (drop (to + length w) old)))

-- a text is copied
module _ (old : List ℕ) (to : ℕ) (text : List ℕ) where
  pub copy-out : (k : ℕ) → k ≡ length old - to → k < length text → (r : ℕ) → r ≡ min (to + length text) cap
      → (r ≡ min (to + length text) cap) × (old ≡ if_room old to text)
  copy-out k e h r q = (q, sym (room-short old to text (omega (arith, e))))

  pub copy-put : (k : ℕ) → k ≡ length old - to → length text ≤ k → (new : List ℕ) (r : ℕ) → Clipped old to text new r
      → (r ≡ min (to + length text) cap) × (new ≡ if_room old to text)
  copy-put k e h new r w = (w.place, w.bytes ∙ go (leb to (length old)) refl)
    where
      go : (b : Bool) → leb to (length old) ≡ b → sets old to text ≡ if_room old to text
      go true a = sym (room-enough old to text (omega (arith, e, h, leb-true to (length old) a)))
      go false a = sets-out old to text (omega (arith, leb-false to (length old) a)) ∙ sym (room_out old to text (omega (arith, leb-false to (length old) a)))

-- ==== behind the line of its field

-- an addend is written: the place after it, and what it leaves
abbrev pub AddendPut : Addend → List ℕ → ℕ → List ℕ → ℕ → Type 0
AddendPut a old to new next = (next ≡ place_after a to) × (new ≡ buffer_after a old to)

-- what is told of a body is what is told of it in the largest room
module _ (s : List ℕ) (m : code.Reported) (detail : Detail) (n : ℕ) (o : Own) (old : List ℕ) (to : ℕ) (mid : List ℕ) (at : ℕ) (said : List ℕ) (end : ℕ) (new : List ℕ) (next : ℕ) where
  lines-put : m ≡ body.answer_of (report s cap) → length old < 2 ^ 64 → Clipped old to (field_line n o m.number m.ignored) mid at
      → (end ≡ min (at + length (report s cap).written) cap) × (said ≡ if_room mid at (report s cap).written)
      → Clipped said end (detail_line detail m.number (identifier s)) new next → AddendPut (body_addend detail n o s) old to new next
  unfolding body_addend buffer_after
  lines-put e h v w u =
      let line = field_line n o (report s cap).number (report s cap).ignored in
      let text = (report s cap).written in
      let v' : Clipped old to line mid at = rw e at v in
      let p : if_room mid at text ≡ if_room mid (to + length line) text = room-past mid (to + length line) at text (omega (arith, clipped-long v')) v'.place in
      let id = detail_line detail (report s cap).number (identifier s) in
      let u' : Clipped said end id new next = rw e at u in
      let k : end ≡ min (to + (length line + length text)) cap = omega (arith, v'.place, w.0) in
      let long : length said ≤ cap = omega (arith, ap length w.1, room-long mid at text, clipped-long v', h) in
      let q : said ≡ if_room (sets old to line) (to + length line) text = w.1 ∙ (p ∙ ap (λ (l : List ℕ). if_room l (to + length line) text) v'.bytes) in (
        omega (arith, k, u'.place),
        u'.bytes ∙ (sets-past said (to + (length line + length text)) end id long k ∙ ap (λ (l : List ℕ). sets l (to + (length line + length text)) id) q),
      )

-- measured, and written in place: without what a detail adds
module _ (s : List ℕ) (m : code.Reported) (e : m ≡ body.answer_of (report s cap)) where
  pub long-size : m.written ≡ length (report s cap).written
  long-size = ap (λ (x : code.Reported). x.written) e

  pub long-put : (n : ℕ) (o : Own) (old : List ℕ) (to : ℕ) (mid : List ℕ) (at : ℕ) (new : List ℕ) (next : ℕ) → length old < 2 ^ 64
      → Clipped old to (field_line n o m.number m.ignored) mid at
      → (next ≡ min (at + length (report s cap).written) cap) × (new ≡ if_room mid at (report s cap).written) → AddendPut (body_addend Reported n o s) old to new next
  unfolding detail_line
  long-put n o old to mid at new next h v w =
      lines-put s m Reported n o old to mid at new next new next e h v w (record { place = omega (arith, w.0); bytes = refl })

-- made in a buffer of its own, and copied
module _ (s first text : List ℕ) (m : code.Reported)
    (e : (m ≡ body.answer_of (report s (length first))) × (text ≡ body.leaves (report s (length first)) first)) (ne : m.number ≡ 6 → ⊥) where
  told_is : report s (length first) ≡ report s cap
  told_is = same-said s (length first) (λ z. ne (ap (λ (x : code.Reported). x.number) e.0 ∙ z))

  short-is : m ≡ body.answer_of (report s cap)
  short-is = e.0 ∙ ap body.answer_of told_is

  size_is : m.written ≡ length (report s cap).written
  size_is = ap (λ (x : code.Reported). x.written) short-is

  text-long : length text ≡ length first
  text-long =
      ap length e.1
      ∙ (length-append (report s (length first)).written (drop (length (report s (length first)).written) first)
      ∙ omega (arith, length-drop (length (report s (length first)).written) first, within s (length first)))

  pub short-fits : m.written ≤ length text
  short-fits = omega (arith, ap (λ (x : code.Reported). x.written) e.0, within s (length first), text-long)

  text-is : take m.written text ≡ (report s cap).written
  text-is = rw (e.1, told_is, size_is) (take-append_seam (report s cap).written (drop (length (report s cap).written) first))

  pub short-put : (detail : Detail) (n : ℕ) (o : Own) (old : List ℕ) (to : ℕ) (mid : List ℕ) (at : ℕ) (said : List ℕ) (end : ℕ) (new : List ℕ) (next : ℕ)
      → length old < 2 ^ 64 → Clipped old to (field_line n o m.number m.ignored) mid at
      → (end ≡ min (at + length (take m.written text)) cap) × (said ≡ if_room mid at (take m.written text))
      → Clipped said end (detail_line detail m.number (identifier s)) new next → AddendPut (body_addend detail n o s) old to new next
  short-put detail n o old to mid at said end new next h v w u = lines-put s m detail n o old to mid at said end new next short-is h v (rw text-is at w) u

-- a report that doesn't fit that buffer is of a body that can be read: no detail adds anything
module _ (s : List ℕ) (room : ℕ) (m : code.Reported) (e : m ≡ body.answer_of (report s room)) (six : m.number ≡ 6) where
  readable : (report s cap).number ≡ 9 → ⊥
  readable z =
      let k = six-when s room (sym (ap (λ (x : code.Reported). x.number) e) ∙ six) in
      let t = when-told s cap k.0 (omega (arith, text-size s k.0, k.0)) in
      let b = nine-malformed (reading s) (sym (ap (λ (a : Answer). a.number) t) ∙ z) in
      no_true (rw b at k.1.0)

  pub over-put : (detail : Detail) (n : ℕ) (o : Own) (old : List ℕ) (to : ℕ) (new : List ℕ) (next : ℕ)
      → AddendPut (body_addend Reported n o s) old to new next → AddendPut (body_addend detail n o s) old to new next
  unfolding body_addend
  over-put detail n o old to new next w =
      let a = detail-not-nine Reported (report s cap).number (identifier s) readable in
      let b = detail-not-nine detail (report s cap).number (identifier s) readable in
      let q : body_addend Reported n o s ≡ body_addend detail n o s = rw (body_addend, a, b) in
      subst (λ (x : Addend). AddendPut x old to new next) q w

-- ==== what the detail adds

module _ (detail : Detail) (number : ℕ) (read : Got (List ℕ)) (old : List ℕ) (to : ℕ) where
  pub detail-other : (number ≡ 9 → ⊥) → to ≤ cap → Clipped old to (detail_line detail number read) old to
  detail-other ne h = rw (detail-not-nine detail number read ne) (record { place = omega (arith, h); bytes = refl })

  pub detail-silent : detail ≡ Reported → to ≤ cap → Clipped old to (detail_line detail number read) old to
  unfolding detail_line
  detail-silent e h = rw e (record { place = omega (arith, h); bytes = refl })

  pub detail-put : number ≡ 9 → detail ≡ Identified → (new : List ℕ) (next : ℕ) → Clipped old to (identifier_line read) new next
      → Clipped old to (detail_line detail number read) new next
  unfolding detail_line
  detail-put k e new next w = rw (e, k) w

-- ==== the fields that are told

module _ (detail : Detail) (whose : Got (List ℕ) → Own) (n : ℕ) (name s : List ℕ) (t : Bool) (h : t ≡ alike name (bytes "Authentication-Results")) (old : List ℕ) (to : ℕ) where
  pub this-name : t ≡ true → (o : Own) → o ≡ whose (identifier s) → (new : List ℕ) (next : ℕ) → AddendPut (body_addend detail n o s) old to new next
      → AddendPut (field_addend detail whose n name s) old to new next
  unfolding field_addend
  this-name e o q new next w = rw (field_addend, ← h, e, ← q) w

  pub other_name : t ≡ false → to < 2 ^ 64 → AddendPut (field_addend detail whose n name s) old to old to
  unfolding field_addend buffer_after
  other_name e l = rw (field_addend, ← h, e) (omega arith, sym (room-none old (to + 0)))
