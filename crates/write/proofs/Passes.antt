-- The loop over lines: what it keeps, and one law for each way out.
use Prim.Native.Nat.{ℕ, ◌+◌, ◌-◌, ◌^◌, ◌≤◌, ◌<◌, min, zero-le, suc-le-suc}
use native.Mathlib.Nat.{add-zero}
use native.Mathlib.Numerals.{add-one}
use native.Mathlib.Omega.{arith}
use mathlib.Core.Path.{◌≡◌, refl, sym, ap, ◌∙◌}
use mathlib.Core.Bool.{Bool, true, false}
use mathlib.Core.List.{List, [], ◌++◌}
use mathlib.Core.Option.{Option, none, some}
use lib.ListN.{length, drop, get_or, length-drop, length-take, take-append-drop, drop_of_length-le}
use lib.Seq.{drop-drop}
use mir.Syntax.{w64}
use mir.Val as machine
use Rattle.base_sequences.specs.Stored.{Clipped}
use Rattle.base_sequences.proofs.Clips.{clipped-long, Going, going_start, going_step, going_done}
use Rattle.base_readers.specs.Parsers.{Got, nothing, got}
use Rattle.base_readers.specs.Places.{from}
use Rattle.base_readers.specs.Walks.{Walked, ended, before}
use Rattle.base_readers.proofs.Sequencing.{bind-none, bind-got, bind-stuck}
use Rattle.base_readers.proofs.Places.{took, none-at}
use Rattle.report_rules.specs.Report.{line, id_line, none_line, method_line, reason_line, property_line}
use Rattle.write_rules.specs.Entries.{Entry, identified, unstated, judged, reasoned, shown, line_of, entry}
use Rattle.write_rules.specs.Bodies.{piece, body_of}
use Rattle.write_rules.specs.Compose.{State, front, goes, final, Step, steps, step, walked, entries}
use Rattle.write_laws.proofs.Lines.{entry-finds}
use Rattle.write_laws.proofs.Runs.{walked-stops, walked-goes, walked-last, walked-early}
use Rattle.write_lines.specs.declared.Piece.{Piece}
use Rattle.std.specs.Prelude as std
use Rattle.std.specs.Prelude.{Some, None, Ok, Err}
use Rattle.std.proofs.lemmas.Option.{none-some, same_Some}
use Rattle.write.specs.declared.State as code
use Rattle.write_lines.specs.Internal.{piece_at, bytes_at}
use Rattle.write.specs.Internal.{next_of, is_final, LinesWritten, LinesRefused}
use Rattle.write.proofs.States.{state_of, state_in, letter, next-is, final-is}

-- ==== a line that was read

line-letter : (e : Entry) (ys : List ℕ) → get_or (line_of e ++ ys) 0 0 ≡ letter e
unfolding line_of id_line none_line method_line reason_line property_line line letter
line-letter (identified i) ys = refl
line-letter unstated ys = refl
line-letter (judged m r) ys = refl
line-letter (reasoned t) ys = refl
line-letter (shown p) ys = refl

line_second : (e : Entry) → 2 ≤ length (line_of e)
unfolding line_of id_line none_line method_line reason_line property_line line
line_second (identified i) = suc-le-suc (suc-le-suc zero-le)
line_second unstated = suc-le-suc (suc-le-suc zero-le)
line_second (judged m r) = suc-le-suc (suc-le-suc zero-le)
line_second (reasoned t) = suc-le-suc (suc-le-suc zero-le)
line_second (shown p) = suc-le-suc (suc-le-suc zero-le)

record Found (s : List ℕ) (at : ℕ) (e : Entry) (end : ℕ) : Type 0 where
  size : ℕ
  is : entry (drop at s) ≡ got e size
  sum : end ≡ at + size
  two : 2 ≤ size
  first : get_or (drop at s) 0 0 ≡ letter e

found : (s : List ℕ) (at : ℕ) (e : Entry) (end : ℕ) → got e end ≡ from entry s at → Found s at e end
found s at e end q =
    let t = took entry s at e end q in
    let f = entry-finds (drop at s) e t.size t.is in
    let l : length (line_of e) ≡ min t.size (length (drop at s)) = ap length (sym f.0) ∙ length-take t.size (drop at s) in
    let c : drop at s ≡ line_of e ++ drop t.size (drop at s) = sym (take-append-drop t.size (drop at s)) ∙ ap (λ (u : List ℕ). u ++ drop t.size (drop at s)) f.0 in
    record {
      size = t.size;
      is = t.is;
      sum = t.sum;
      two = omega (arith, l, line_second e);
      first = ap (λ (u : List ℕ). get_or u 0 0) c ∙ line-letter e (drop t.size (drop at s));
    }

abbrev step_is : Entry → State → Step
step_is e t = record { entry = e; state = t }

step-not : (s : State) (e : Entry) (xs : List ℕ) (m : ℕ) → entry xs ≡ got e m → goes s e ≡ none → step s xs ≡ nothing
unfolding step steps
step-not s e xs m h g = bind-stuck entry _ xs e m h (rw (steps, g))

step-is : (s t : State) (e : Entry) (xs : List ℕ) (m : ℕ) → entry xs ≡ got e m → goes s e ≡ some t → step s xs ≡ got (step_is e t) m
unfolding step steps
step-is s t e xs m h g = bind-got entry _ xs e m (step_is e t) 0 h (rw (steps, g)) ∙ rw add-zero

step-none : (s : State) (xs : List ℕ) → entry xs ≡ nothing → step s xs ≡ nothing
unfolding step
step-none s xs h = bind-none entry _ xs h

-- ==== the loop

-- the lines from a place on end as all of them do
pub record Lining (s old out : List ℕ) (at n : ℕ) (k : code.State) (to : ℕ) : Type 0 where
  pub state : State
  pub code : k ≡ state_of state
  pub number : (walked state n 0 (drop at s)).number ≡ (entries s).number
  pub place : (walked state n 0 (drop at s)).place ≡ (entries s).place
  pub going : Going old 0 (body_of (entries s).items) out to (body_of (walked state n 0 (drop at s)).items)
  pub count : n + n ≤ at + 2

pub lining-start : (s old : List ℕ) → Lining s old old 0 1 (state_of front) 0
lining-start s old =
    record {
      state = front;
      code = refl;
      number = refl;
      place = refl;
      going = going_start old 0 (body_of (entries s).items) zero-le;
      count = omega arith;
    }

module _ (s old out : List ℕ) (at n : ℕ) (k : code.State) (to : ℕ) (w : Lining s old out at n k to) where
  abbrev left : Walked Entry
  left = walked w.state n 0 (drop at s)

  pub lining-long : length out ≡ length old
  lining-long = w.going.long

  refuses : (new : List ℕ) → length new ≡ length old → left ≡ ended 11 n → LinesRefused (entries s) old new n
  refuses new l q =
      record {
        number = sym w.number ∙ ap (λ (x : Walked Entry). x.number) q;
        place = sym w.place ∙ ap (λ (x : Walked Entry). x.place) q;
        long = l;
      }

  -- no line is left
  module _ (h : length s ≤ at) (f : Bool) (F : f ≡ is_final k) where
    over : drop at s ≡ []
    over = drop_of_length-le s h

    finals : f ≡ final w.state
    finals = F ∙ (ap is_final w.code ∙ final-is w.state)

    pub lining-early : f ≡ false → LinesRefused (entries s) old out n
    lining-early e = refuses out lining-long (ap (walked w.state n 0) over ∙ walked-early w.state n (sym finals ∙ e))

    pub lining-done : f ≡ true → LinesWritten (entries s) old out to
    unfolding body_of
    lining-done e =
        let q : left ≡ ended 0 0 = ap (walked w.state n 0) over ∙ walked-last w.state n (sym finals ∙ e) in
        record {
          number = sym w.number ∙ ap (λ (x : Walked Entry). x.number) q;
          place = sym w.place ∙ ap (λ (x : Walked Entry). x.place) q;
          long = lining-long;
          put = going_done w.going (ap (λ (x : Walked Entry). body_of x.items) q);
        }

  -- a line
  module _ (l : at < length s) where
    there : 0 < length (drop at s)
    there = omega (arith, length-drop at s)

    -- none stands there
    module _ (new : List ℕ) (r : std.Option Piece) (R : r ≡ piece_at to (from entry s at)) (N : new ≡ bytes_at out to (from entry s at)) (z : r ≡ None) where
      unread : from entry s at ≡ nothing
      unread = go (from entry s at) refl
        where
          go : (g : Got Entry) → from entry s at ≡ g → from entry s at ≡ nothing
          go nothing q = q
          go (got e m) q = absurd (none-some _ (sym z ∙ (R ∙ ap (piece_at to) q)))

      untouched : new ≡ out
      untouched = N ∙ ap (bytes_at out to) unread

      pub lining-untouched : length new ≡ length old
      lining-untouched = ap length untouched ∙ w.going.long

      pub lining-missing : LinesRefused (entries s) old new n
      lining-missing = refuses new lining-untouched (walked-stops w.state n (drop at s) there (step-none w.state (drop at s) (none-at entry s at (sym unread))))

    -- one does
    module _ (new : List ℕ) (r : Piece) (R : Some r ≡ piece_at to (from entry s at)) (N : new ≡ bytes_at out to (from entry s at)) where
      record Read : Type 0 where
        what : Entry
        found : Found s at what r.end
        clip : Clipped out to (piece what) new r.next

      read : Read
      read = go (from entry s at) refl
        where
          go : (g : Got Entry) → from entry s at ≡ g → Read
          go nothing q = absurd (none-some r (sym (R ∙ ap (piece_at to) q)))
          go (got e m) q =
              let p : Some r ≡ piece_at to (got e m) = R ∙ ap (piece_at to) q in
              let y = same_Some _ _ p in
              let z : r.end ≡ m = ap (λ (x : Piece). x.end) y in
              record {
                what = e;
                found = found s at e r.end (ap (λ (i : ℕ). got e i) z ∙ sym q);
                clip = record { place = ap (λ (x : Piece). x.next) y; bytes = N ∙ ap (bytes_at out to) q };
              }

      pub lining-grown : length new ≡ length old
      lining-grown = clipped-long read.clip ∙ w.going.long

      pub lining-less : length s - r.end < length s - at
      lining-less = omega (arith, l, read.found.sum, read.found.two)

      pub lining-fits : length s < 2 ^ 64 → machine.Fits w64 (n + 1)
      lining-fits f = omega (arith, w.count, l)

      module _ (b : ℕ) (B : b ≡ get_or (drop at s) 0 0) where
        states : next_of k b ≡ state_in (goes w.state read.what)
        states =
            ap (λ (x : code.State). next_of x b) w.code ∙ (ap (next_of (state_of w.state)) (B ∙ read.found.first) ∙ next-is w.state read.what)

        pub lining-stuck : None ≡ next_of k b → LinesRefused (entries s) old new n
        lining-stuck z = go (goes w.state read.what) refl
          where
            go : (o : Option State) → goes w.state read.what ≡ o → LinesRefused (entries s) old new n
            go none q = refuses new lining-grown (walked-stops w.state n (drop at s) there (step-not w.state read.what (drop at s) read.found.size read.found.is q))
            go (some u) q = absurd (none-some _ (z ∙ (states ∙ ap state_in q)))

        pub lining-more : (t : code.State) → Some t ≡ next_of k b → length old < 2 ^ 64 → Lining s old new r.end (n + 1) t r.next
        unfolding body_of
        lining-more t T h = go (goes w.state read.what) refl
          where
            go : (o : Option State) → goes w.state read.what ≡ o → Lining s old new r.end (n + 1) t r.next
            go none q = absurd (none-some t (sym (T ∙ (states ∙ ap state_in q))))
            go (some u) q =
                let m = read.found.size in
                let d : drop m (drop at s) ≡ drop r.end s = drop-drop m at s ∙ ap (λ (x : ℕ). drop x s) (sym read.found.sum) in
                let e : left ≡ before read.what (walked u (n + 1) 0 (drop r.end s)) =
                rw (← d, add-one) (walked-goes w.state n (drop at s) (step_is read.what u) m there (omega (arith, read.found.two)) (step-is w.state u read.what (drop at s) m read.found.is q)) in
                record {
                  state = u;
                  code = same_Some _ _ (T ∙ (states ∙ ap state_in q));
                  number = sym (ap (λ (x : Walked Entry). x.number) e) ∙ w.number;
                  place = sym (ap (λ (x : Walked Entry). x.place) e) ∙ w.place;
                  going = going_step (omega (arith, h)) w.going (ap (λ (x : Walked Entry). body_of x.items) e) read.clip;
                  count = omega (arith, w.count, read.found.sum, read.found.two);
                }
