-- The lines of a text, each with its LF: those of lines one after the other are these lines, because no column has an LF.
use Prim.Native.Char.{code}
use Prim.Native.Nat.{ℕ, ◌+◌, ◌-◌, ◌/◌, ◌%◌}
use native.Mathlib.Omega.{arith}
use mathlib.Core.Path.{◌≡◌, refl, sym, ap, ◌∙◌}
use mathlib.Core.Bool.{Bool, true, false, not, cond, ◌&&◌, ◌||◌}
use mathlib.Core.List.{List, [], ◌∷◌, ◌++◌, append_assoc, map}
use lib.Dec.{eqb, leb}
use borrow.Author.Tests.{ne_eqb, not-true, leb-true}
use Rattle.base_sequences.proofs.Booleans.{and_left, and_right, true-not, or-none}
use Rattle.base_readers.specs.Texts.{bytes, within}
use Rattle.base_readers.proofs.Texts.{one_out}
use Rattle.lexis_rules.specs.declared.Class.TheVariants as class
use Rattle.lexis_rules.specs.Bytes.{in_class}
use Rattle.result_rules.specs.Results.{Kind, Token, Quoted, Mailbox, AtDomain, Property}
use Rattle.result_rules.specs.Table.{listed, ptypes}
use Rattle.result_rules.proofs.Unfolding as resinfo
use Rattle.report_rules.specs.Report.{hex_digit, plain, escape, letter_of}
use Rattle.write_rules.specs.Entries.{Entry, identified, unstated, judged, reasoned, shown, line_of, each, is_keyword, stands, allowed}
use Rattle.write_rules.specs.Promise.{glue, lines_with_feeds}
use Rattle.write_laws.proofs.Readback.{Each, joined}
use Rattle.write_laws.proofs.Quotes.{each-weaker, each_append}
use Rattle.write_laws.proofs.Keywords.{keyword-is, keyword-each, ptype-keyword, tabled-keywords}
use Rattle.write_laws.proofs.Lines.{Good, id-shape, none-shape, method-shape, reason-shape, property-shape}

-- ==== lines

-- no LF
abbrev pub unfed : ℕ → Bool
unfed b = not (eqb b (code "\n"))

pub lines-first : (w rest : List ℕ) → each unfed w ≡ true → lines_with_feeds (w ++ (10 ∷ rest)) ≡ (w ++ (10 ∷ [])) ∷ lines_with_feeds rest
unfolding lines_with_feeds each
lines-first [] rest e = refl
lines-first (x ∷ w) rest e =
    let q : eqb x 10 ≡ false = not-true (eqb x 10) (and_left (unfed x) _ e) in
    rw (lines_with_feeds, q, lines-first w rest (and_right (unfed x) _ e))

pub lines_join : (xs : List ℕ) → joined (λ (l : List ℕ). l) (lines_with_feeds xs) ≡ xs
unfolding lines_with_feeds
lines_join [] = refl
lines_join (x ∷ xs) = go (eqb x 10) refl (lines_join xs)
  where
    glued : (ls : List (List ℕ)) → joined (λ (l : List ℕ). l) (glue x ls) ≡ x ∷ joined (λ (l : List ℕ). l) ls
    glued [] = refl
    glued (l ∷ ls) = refl

    go : (b : Bool) → eqb x 10 ≡ b → joined (λ (l : List ℕ). l) (lines_with_feeds xs) ≡ xs → joined (λ (l : List ℕ). l) (lines_with_feeds (x ∷ xs)) ≡ x ∷ xs
    go true q ih = rw (lines_with_feeds, q, ih)
    go false q ih = rw (lines_with_feeds, q, glued (lines_with_feeds xs), ih)

-- ==== columns have no LF

unfed-keyword : (b : ℕ) → in_class class.Keyword b ≡ true → unfed b ≡ true
unfed-keyword b e = true-not (eqb b 10) (sym (or-none (eqb b 10)) ∙ listed-out)
  where
    listed-out : (eqb b 10 || false) ≡ false
    listed-out = unfold resinfo.opened in one_out (10 ∷ []) (in_class class.Keyword) refl b e

keyword-unfed : (k : List ℕ) → is_keyword k ≡ true → each unfed k ≡ true
keyword-unfed k e = each-weaker (in_class class.Keyword) unfed unfed-keyword k (keyword-each k (keyword-is k e).0)

hex-unfed : (n : ℕ) → unfed (hex_digit n) ≡ true
hex-unfed n = go (leb n 9)
  where
    go : (t : Bool) → unfed (cond t (48 + n) (65 + (n - 10))) ≡ true
    go true = true-not (eqb (48 + n) 10) (ne_eqb (48 + n) 10 (λ e. omega arith))
    go false = true-not (eqb (65 + (n - 10)) 10) (ne_eqb (65 + (n - 10)) 10 (λ e. omega arith))

plain-unfed : (b : ℕ) → plain b ≡ true → unfed b ≡ true
unfolding plain in_class within
plain-unfed b e = true-not (eqb b 10) (ne_eqb b 10 (λ q. omega (arith, leb-true 33 b (and_left (leb 33 b) _ (and_left (leb 33 b && leb b 126) _ e)))))

escape-unfed : (t : List ℕ) → each unfed (escape t) ≡ true
unfolding escape each
escape-unfed [] = refl
escape-unfed (x ∷ t) = go (plain x) refl (escape-unfed t)
  where
    go : (b : Bool) → plain x ≡ b → each unfed (escape t) ≡ true → each unfed (escape (x ∷ t)) ≡ true
    go true q ih = let p = plain-unfed x q in rw (escape, q, p, ih)
    go false q ih = let h = hex-unfed (x / 16) in let l = hex-unfed (x % 16) in rw (escape, q, h, l, ih)

letter-unfed : (k : Kind) → each unfed (letter_of k) ≡ true
unfolding each letter_of
letter-unfed Token = refl
letter-unfed Quoted = refl
letter-unfed Mailbox = refl
letter-unfed AtDomain = refl

-- what is asked of a property
pub allowed-is : (p : Property) → allowed p ≡ true → (listed ptypes p.ptype ≡ true) × (is_keyword p.property ≡ true) × (stands p.value.kind p.value.text ≡ true)
unfolding allowed
allowed-is p h =
    let e = and_left (listed ptypes p.ptype && is_keyword p.property) _ h in
    (and_left (listed ptypes p.ptype) _ e, and_right (listed ptypes p.ptype) _ e, and_right (listed ptypes p.ptype && is_keyword p.property) _ h)

-- ==== the lines of a report

-- a line without its LF
pub record Ended (l : List ℕ) : Type 0 where
  pub front : List ℕ
  pub clean : each unfed front ≡ true
  pub is : l ≡ front ++ (10 ∷ [])

pub line-ended : (e : Entry) → Good e → Ended (line_of e)
line-ended (identified i) h =
    record { front = bytes "id\t" ++ escape i; clean = unfold each in escape-unfed i; is = id-shape i }
line-ended unstated h = record { front = bytes "none"; clean = unfold each in refl; is = none-shape }
line-ended (judged m r) h =
    let k = tabled-keywords m r h in
    record {
      front = bytes "m\t" ++ (m ++ (9 ∷ r));
      clean = unfold each in each_append unfed m (9 ∷ r) (keyword-unfed m k.0) (keyword-unfed r k.1);
      is = method-shape m r ∙ ap (λ (l : List ℕ). bytes "m\t" ++ l) (sym (append_assoc m (9 ∷ r) (10 ∷ [])));
    }
line-ended (reasoned t) h =
    record { front = bytes "r\t" ++ escape t; clean = unfold each in escape-unfed t; is = reason-shape t }
line-ended (shown p) h = property p h
  where
    property : (p : Property) → Good (shown p) → Ended (line_of (shown p))
    property p h =
        let t = p.ptype in
        let n = p.property in
        let k = letter_of p.value.kind in
        let x = escape p.value.text in
        let e = allowed-is p h.0 in
        let tk = keyword-unfed p.ptype (ptype-keyword p.ptype e.0) in
        let nk = keyword-unfed p.property e.1 in
        record {
          front = bytes "p\t" ++ (t ++ (9 ∷ (n ++ (9 ∷ (k ++ (9 ∷ x))))));
          clean =
              unfold each in
              each_append unfed p.ptype _ tk (each_append unfed p.property _ nk (each_append unfed (letter_of p.value.kind) _ (letter-unfed p.value.kind) (escape-unfed p.value.text)));
          is =
              property-shape p
              ∙ rw (append_assoc t (9 ∷ (n ++ (9 ∷ (k ++ (9 ∷ x))))) (10 ∷ []), append_assoc n (9 ∷ (k ++ (9 ∷ x))) (10 ∷ []), append_assoc k (9 ∷ x) (10 ∷ []));
        }

pub lines_more : (e : Entry) → Good e → (rest : List ℕ) → lines_with_feeds (line_of e ++ rest) ≡ line_of e ∷ lines_with_feeds rest
lines_more e h rest =
    let v = line-ended e h in
    rw (v.is, append_assoc v.front (10 ∷ []) rest) (lines-first v.front rest v.clean)

pub lines-joined : (es : List Entry) → Each Good es → (rest : List ℕ) → lines_with_feeds (joined line_of es ++ rest) ≡ map line_of es ++ lines_with_feeds rest
lines-joined [] h rest = refl
lines-joined (e ∷ es) h rest =
    rw (append_assoc (line_of e) (joined line_of es) rest, lines_more e h.0 (joined line_of es ++ rest), lines-joined es h.1 rest)
