-- What follows the head of a body, by the tests that the code makes in turn: the word none, or results. The code tries the word before
-- results and the grammar after them, which is the same because the word begins no result.
use Prim.Native.Nat.{ℕ, ◌+◌, ◌*◌, ◌≤◌, ◌<◌, ◌^◌}
use native.Mathlib.Omega.{arith}
use mathlib.Core.Path.{◌≡◌, refl, sym, ap, ◌∙◌}
use mathlib.Core.Bool.{Bool, true, false}
use mathlib.Core.List.{List, [], ◌∷◌}
use borrow.Author.Tests.{leb-true, leb-false}
use lib.Dec.{leb}
use lib.ListN.{length, drop, length-drop}
use Rattle.base_sequences.specs.Stored.{cap, Clipped}
use Rattle.base_sequences.proofs.Clips.{clipped-wrote}
use Rattle.base_sequences.proofs.Booleans.{no_true}
use Rattle.base_readers.specs.Texts.{bytes, within, same, starts}
use Rattle.base_readers.specs.Parsers.{Got, nothing, got, Parser, ◌>>◌, give, when, end, several}
use Rattle.base_readers.specs.Places.{from, list_at, end_at}
use Rattle.base_readers.specs.Locality.{Within}
use Rattle.base_readers.proofs.Sequencing.{no-got, bind-none, pass-not}
use Rattle.base_readers.proofs.Bounds.{several-within}
use Rattle.base_readers.proofs.Places.{took, none-at, goes_on, stops, gives, passes, fails, end-at, end-not, skipping-at}
use Rattle.base_readers.proofs.Repeats.{Turn, stop, turn, several-inv, list-is}
use Rattle.lexis_rules.specs.Limits.{byte_limit}
use Rattle.lexis_rules.specs.Bytes.{lower, alike}
use Rattle.lexis_rules.specs.Pieces.{space, keyword}
use Rattle.lexis_rules.specs.Words.{keyword_text, skip, read_keyword, read_word}
use Rattle.result_rules.specs.Results.{Result, separator}
use Rattle.result_separators.specs.Separators.{spaced, separated, separated_from}
use Rattle.base_sequences.specs.Spans.{span}
use Rattle.result_separators.proofs.Separators.{separator-is, separator-reads, separator-found, keyword-reads, separated-no}
use Rattle.report_rules.specs.Body.{Reading, malformed, no_result, results, resinfo, resinfos, word_none, payload}
use Rattle.report_rules.specs.Report.{line, none_line, lines}
use Rattle.report_laws.proofs.Readings.{payload-is}
use Rattle.report_laws.proofs.Sequence.{resinfo-within, Reads, over, more, reads-inv}
use Rattle.report_laws.proofs.NoResult.{word-no-result}
use Rattle.report_rules.specs.declared.Reported.{Reported}
use Rattle.report.specs.declared.results.Results.{Results}
use Rattle.report.specs.Internal.{succeeds, refused, Fronted, Behind, ResultsPut}
use Rattle.report_laws.proofs.Sizes.{lines-size}
use Rattle.report.proofs.Fronts.{wrote-fronted, fronted-none}

-- ==== whether a parser succeeds at a place

module _ {A : Type 0} (p : Parser A) (s : List ℕ) (at : ℕ) where
  succeeds-got : (a : A) (e : ℕ) → got a e ≡ from p s at → true ≡ succeeds p (drop at s)
  unfolding succeeds
  succeeds-got a e h = let t = took p s at a e h in rw (succeeds, t.is)

  succeeds-none : nothing ≡ from p s at → false ≡ succeeds p (drop at s)
  unfolding succeeds
  succeeds-none h = rw (succeeds, none-at p s at h)

-- ==== the word none

-- the word in lower case
none-lower : (k : List ℕ) → same (keyword_text k) (bytes "none") ≡ alike k (bytes "none")
unfolding alike lower within
none-lower k = refl

module _ (s : List ℕ) (at g : ℕ) (y : g ≡ spaced s at) (a : ℕ) (x : a ≡ separated_from 59 s at g) where
  q : a ≡ at + separated 59 (drop at s)
  q = separator-found s at g 59 y a x

  pub none-no-separator : a ≡ at → false ≡ succeeds word_none (drop at s)
  unfolding word_none
  none-no-separator z = succeeds-none word_none s at (stops (separator 59) _ s at ((separator-reads s at 59).missing a q z))

  module _ (na : a ≡ at → ⊥) (e : ℕ) (p : e ≡ a + keyword (drop a s)) where
    behind-separator : (x : Got (Unit {0})) → x ≡ from (◌>>◌ (read_word (bytes "none")) (◌>>◌ skip end)) s a → x ≡ from word_none s at
    unfolding word_none
    behind-separator x h = goes_on (separator 59) _ s at tt a x ((separator-reads s at 59).there a q na) h

    pub none_no_word : e ≡ a → false ≡ succeeds word_none (drop at s)
    unfolding read_word
    none_no_word z =
        succeeds-none word_none s at
        (behind-separator nothing (stops (read_word (bytes "none")) _ s a (stops read_keyword _ s a ((keyword-reads s a).missing e p z))))

    module _ (ne : e ≡ a → ⊥) (r : Bool) (h : r ≡ alike (span s a e) (bytes "none")) where
      is_word : (x : Got (Unit {0})) → x ≡ from (when (alike (span s a e) (bytes "none"))) s e → x ≡ from (read_word (bytes "none")) s a
      unfolding read_word
      is_word x k = goes_on read_keyword _ s a (keyword_text (span s a e)) e x ((keyword-reads s a).there e p ne) (rw (none-lower (span s a e)) k)

      pub none-other-word : r ≡ false → false ≡ succeeds word_none (drop at s)
      none-other-word t =
          succeeds-none word_none s at
          (behind-separator nothing (stops (read_word (bytes "none")) _ s a (is_word nothing (fails (alike (span s a e) (bytes "none")) s e (sym h ∙ t)))))

      -- the word, and after space the end or something else
      pub none-word : r ≡ true → (f : ℕ) → f ≡ spaced s e → leb (length s) f ≡ succeeds word_none (drop at s)
      none-word t f j = go (leb (length s) f) refl
        where
          behind-word : (x : Got (Unit {0})) → x ≡ from end s f → x ≡ from word_none s at
          behind-word x k =
              behind-separator x
              (goes_on (read_word (bytes "none")) _ s a tt e x (is_word (got tt e) (passes (alike (span s a e) (bytes "none")) s e (sym h ∙ t)))
              (goes_on skip _ s e tt f x (skipping-at space s e f j) k))

          go : (b : Bool) → leb (length s) f ≡ b → leb (length s) f ≡ succeeds word_none (drop at s)
          go true i = i ∙ succeeds-got word_none s at tt f (behind-word (got tt f) (end-at s f (leb-true (length s) f i)))
          go false i = i ∙ succeeds-none word_none s at (behind-word nothing (end-not s f (leb-false (length s) f i)))

-- ==== a list of results, and where it ends

module _ {A : Type 0} (p : Parser A) (P : Within 1 p) (s : List ℕ) (at : ℕ) where
  turns : (n : ℕ) → several p 0 (drop at s) ≡ got (list_at p s at) n → Turn p (drop at s) (list_at p s at) n
  turns n e = several-inv p (drop at s) (list_at p s at) n e

  -- it is empty exactly where it ends at once
  list-empty : end_at p s at ≡ at → list_at p s at ≡ []
  list-empty z = let t = took (several p 0) s at (list_at p s at) (end_at p s at) (list-is p s at) in go t.size t.sum (turns t.size t.is)
    where
      go : (n : ℕ) → end_at p s at ≡ at + n → Turn p (drop at s) (list_at p s at) n → list_at p s at ≡ []
      go n k (stop l i) = l
      go n k (turn a m l j e f q i) = absurd (omega (arith, (P (drop at s) a m e).1))

  list-some : (end_at p s at ≡ at → ⊥) → list_at p s at ≡ [] → ⊥
  list-some ne z = let t = took (several p 0) s at (list_at p s at) (end_at p s at) (list-is p s at) in go t.size t.sum (turns t.size t.is)
    where
      go : (n : ℕ) → end_at p s at ≡ at + n → Turn p (drop at s) (list_at p s at) n → ⊥
      go n k (stop l i) = ne (omega arith)
      go n k (turn a m l j e f q i) = let o : a ∷ l ≡ [] = sym q ∙ z in let b : ◌≡◌ {A = ℕ} 0 1 = cc in omega arith

module _ (s : List ℕ) (at : ℕ) where
  -- what stands behind them: space, and the end or something else
  module _ (f : ℕ) (q : f ≡ end_at resinfo s at + space (drop (end_at resinfo s at) s)) where
    behind-list : (x : Got (List Result)) → x ≡ from (◌>>◌ end (give (list_at resinfo s at))) s f → x ≡ from resinfos s at
    unfolding resinfos
    behind-list x h =
        goes_on (several resinfo 0) _ s at (list_at resinfo s at) (end_at resinfo s at) x (list-is resinfo s at)
        (goes_on skip _ s (end_at resinfo s at) tt f x (skipping-at space s (end_at resinfo s at) f q) h)

    list_open : f < length s → resinfos (drop at s) ≡ nothing
    list_open h = none-at resinfos s at (behind-list nothing (stops end _ s f (end-not s f h)))

    list-closed : length s ≤ f → got (list_at resinfo s at) f ≡ from resinfos s at
    list-closed h = behind-list _ (goes_on end _ s f tt f _ (end-at s f h) (gives (list_at resinfo s at) s f))

  -- the results of a body are that list
  list_same : (rs : List Result) (n : ℕ) → resinfos (drop at s) ≡ got rs n → list_at resinfo s at ≡ rs
  list_same rs n e = go (leb (length s) f) refl
    where
      f : ℕ
      f = end_at resinfo s at + space (drop (end_at resinfo s at) s)

      go : (b : Bool) → leb (length s) f ≡ b → list_at resinfo s at ≡ rs
      go true i =
          let t = took resinfos s at (list_at resinfo s at) f (list-closed f refl (leb-true (length s) f i)) in
          let w : got (list_at resinfo s at) t.size ≡ got rs n = sym t.is ∙ e in
          cc
      go false i = absurd (no-got (sym (list_open f refl (leb-false (length s) f i)) ∙ e))

  -- their lines are no longer than three times the bytes that are read
  list-size : length s ≤ byte_limit → length (lines (list_at resinfo s at)) ≤ 3 * byte_limit
  list-size h =
      let t = took (several resinfo 0) s at (list_at resinfo s at) (end_at resinfo s at) (list-is resinfo s at) in
      omega (
        arith,
        lines-size (drop at s) (list_at resinfo s at) t.size t.is,
        (several-within 1 resinfo resinfo-within (drop at s) (list_at resinfo s at) t.size t.is).0,
        length-drop at s,
      )

-- ==== results or the word none

module _ (xs : List ℕ) where
  over-no-word : drop (space xs) xs ≡ [] → word_none xs ≡ nothing
  unfolding word_none starts
  over-no-word z = bind-none (separator 59) _ xs (separator-is 59 xs ∙ pass-not (separated 59) xs (separated-no 59 xs (rw z)))

  -- where the word stands no list of results does, not even an empty one
  word-no-list : (u : Unit {0}) (n : ℕ) → word_none xs ≡ got u n → (rs : List Result) → Reads xs rs → ⊥
  word-no-list u n e rs (over z) = no-got (sym (over-no-word z) ∙ e)
  word-no-list u n e rs (more h R) = no-got (sym (word-no-result xs u n e) ∙ h)

  payload-none : succeeds word_none xs ≡ true → payload [] xs ≡ no_result []
  unfolding succeeds payload
  payload-none h = go (word_none xs) refl
    where
      alone : (u : Unit {0}) (n : ℕ) → word_none xs ≡ got u n → (g : Got (List Result)) → resinfos xs ≡ g → payload [] xs ≡ no_result []
      alone u n e nothing f = rw (payload, f, e)
      alone u n e (got rs m) f = absurd (word-no-list u n e rs (reads-inv rs xs m f))

      go : (g : Got (Unit {0})) → word_none xs ≡ g → payload [] xs ≡ no_result []
      go nothing e = absurd (no_true (rw (succeeds, e) at h))
      go (got u n) e = alone u n e (resinfos xs) refl

  payload-some : (rs : List Result) (n : ℕ) → resinfos xs ≡ got rs n → (rs ≡ [] → ⊥) → payload [] xs ≡ results [] rs
  payload-some [] n e ne = absurd (ne refl)
  payload-some (r ∷ rs) n e ne = payload-is [] xs r rs n e

  module _ (no : succeeds word_none xs ≡ false) where
    payload_open : resinfos xs ≡ nothing → payload [] xs ≡ malformed
    unfolding succeeds payload
    payload_open f = go (word_none xs) refl
      where
        go : (g : Got (Unit {0})) → word_none xs ≡ g → payload [] xs ≡ malformed
        go nothing e = rw (payload, f, e)
        go (got u n) e = absurd (no_true (sym (rw (succeeds, e) at no)))

    payload-empty : ((rs : List Result) (n : ℕ) → resinfos xs ≡ got rs n → rs ≡ []) → payload [] xs ≡ malformed
    unfolding payload
    payload-empty h = go (resinfos xs) refl
      where
        go : (g : Got (List Result)) → resinfos xs ≡ g → payload [] xs ≡ malformed
        go nothing e = payload_open e
        go (got rs n) e = rw (payload, e, h rs n e)

-- a body within the limit, written behind so few bytes that no place overflows
abbrev pub Room : List ℕ → ℕ → Type 0
Room s to = (length s ≤ byte_limit) × (to ≤ 2 ^ 32)

none-fits : (to : ℕ) → to ≤ 2 ^ 32 → to + length none_line ≤ cap
unfolding none_line line
none-fits to h = let l : length none_line ≡ 5 = refl in omega arith

pub payload-room : (s : List ℕ) (at to g : ℕ) → Room s to → g ≡ spaced s at
    → (g ≡ spaced s at) × ((length s ≤ byte_limit) × (to + length (lines (list_at resinfo s at)) < 2 ^ 63))
payload-room s at to g room y = (y, (room.0, omega (arith, list-size s at room.0, room.1)))

-- of a body that is not well-formed only what comes before is told
pub behind-malformed : {x : Reading} {old new text : List ℕ} {to : ℕ} {r : Reported} → x ≡ malformed → r ≡ refused 9 0 → Fronted old to text new
    → Behind x old to new r
behind-malformed m e f = rw m (record { answer = e; bytes = fronted-none f })

module _ (s : List ℕ) (at : ℕ) (old : List ℕ) (to : ℕ) (r : Bool) (h : r ≡ succeeds word_none (drop at s)) where
  pub payload-word : r ≡ true → to ≤ 2 ^ 32 → (new : List ℕ) (n : ℕ) → Clipped old to none_line new n
      → Behind (payload [] (drop at s)) old to new (record { number = 0; place = 0; written = n; ignored = 0 })
  payload-word t l new n c =
      let w = clipped-wrote (none-fits to l) c in
      rw (payload-none (drop at s) (sym h ∙ t)) (record { answer = rw w.place; bytes = wrote-fronted w })

  module _ (f : r ≡ false) where
    no : succeeds word_none (drop at s) ≡ false
    no = sym h ∙ f

    module _ (new : List ℕ) (d : Results) (k : ResultsPut s at old to new d) where
      pub payload-no-results : d.end ≡ at → (x : Reported) → x ≡ refused 9 0 → Behind (payload [] (drop at s)) old to new x
      payload-no-results z x e =
          let l : list_at resinfo s at ≡ [] = list-empty resinfo resinfo-within s at (sym k.end ∙ z) in
          behind-malformed (payload-empty (drop at s) no (λ rs n p. sym (list_same s at rs n p) ∙ l)) e k.bytes

      ends : d.gap ≡ spaced s (end_at resinfo s at)
      ends = k.gap ∙ ap (spaced s) k.end

      pub payload-not-ended : d.gap < length s → (x : Reported) → x ≡ refused 9 0 → Behind (payload [] (drop at s)) old to new x
      payload-not-ended l x e =
          behind-malformed (payload_open (drop at s) no (list_open s at d.gap ends l)) e k.bytes

      pub payload-results : (d.end ≡ at → ⊥) → length s ≤ d.gap
          → Behind (payload [] (drop at s)) old to new (record { number = 0; place = 0; written = d.next; ignored = d.ignored })
      payload-results ne l =
          let t = took resinfos s at (list_at resinfo s at) d.gap (list-closed s at d.gap ends l) in
          let p = payload-some (drop at s) (list_at resinfo s at) t.size t.is (list-some resinfo resinfo-within s at (λ z. ne (k.end ∙ z))) in
          rw p (record { answer = rw (k.next, k.ignored); bytes = k.bytes })
