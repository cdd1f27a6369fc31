-- 02, ticket [14]: what `write` wrote from lines with an identifier of the list is one well-formed Authentication-Results field of ours, so
-- that the gateway's own way (strip, write, put in front) meets what the theorem asks. What is written has neither CR nor LF, so it stands
-- on one line; it reads back as what the lines say.
use Prim.Native.Char.{code}
use Prim.Native.Nat.{ℕ, ◌+◌, ◌≤◌}
use native.Mathlib.Omega.{arith}
use mathlib.Core.Path.{◌≡◌, refl, sym, ap, ◌∙◌, subst}
use mathlib.Core.Bool.{Bool, true, false, not}
use mathlib.Core.List.{List, [], ◌∷◌, ◌++◌, append-nil, Memᴰ}
use lib.ListN.{length, drop, length-append}
use lib.Dec.{lit≤}
use borrow.Author.Tests.{eqb-true}
use Rattle.base_sequences.proofs.Booleans.{and_left, and_right, true-not, no_true}
use Rattle.base_readers.specs.Texts.{bytes, within, one_of, starts, follows}
use Rattle.base_readers.specs.Parsers.{Got, nothing, got}
use Rattle.base_readers.specs.Walks.{Walked}
use Rattle.base_readers.proofs.Texts.{one_out}
use Rattle.lexis_rules.specs.declared.Class.TheVariants as class
use Rattle.lexis_rules.specs.Bytes.{in_class, letter}
use Rattle.lexis_rules.specs.Pieces.{token}
use Rattle.lexis_rules.specs.Limits.{byte_limit}
use Rattle.block_rules.specs.Fields.{Field, bytes_of, in_line, fields, body_of}
use Rattle.block_rules.specs.Sound.{AllSound, more}
use Rattle.block_laws.proofs.Fields.{fields-fine, walk-back, select-sound}
use Rattle.identifier_rules.specs.Identifier.{identifier_token, identifier, same_identifier}
use Rattle.ownlist_rules.specs.Listed.{among}
use Rattle.ownlist_rules.specs.OwnList.{own_list}
use Rattle.strip_rules.specs.Strip.{is_removed, strip}
use Rattle.strip_rules.proofs.Examples as strip-opened
use Rattle.strip_rules.specs.Terms.{kept_fields}
use Rattle.strip_laws.proofs.Laws.{strip-sound}
use Rattle.result_rules.specs.Results.{Kind, Token, Quoted, Mailbox, AtDomain, in_domain, domain, next}
use Rattle.report_rules.specs.Report.{report}
use Rattle.report_rules.specs.Newer.{WellFormed}
use Rattle.write_rules.specs.Entries.{Entry, identified, unstated, judged, reasoned, shown, line_of, each, whole, quotable, is_text, is_keyword, local_of, domain_of, stands, entry}
use Rattle.write_rules.specs.Bodies as written
use Rattle.write_rules.specs.Bodies.{guarded, quote, bare_or, is_bare_local, pvalue, piece}
use Rattle.write_rules.specs.Compose.{front, entries, Answer, compose}
use Rattle.write_rules.specs.Promise.{body_for, says_lines}
use Rattle.write_rules.proofs.Unfolding as compose-opened
use Rattle.write_laws.proofs.Readback.{Each, joined}
use Rattle.write_laws.proofs.Quotes.{each-weaker, each_append}
use Rattle.write_laws.proofs.Values.{token-text, domain-each}
use Rattle.write_laws.proofs.Keywords.{keyword-is, keyword-each, ptype-keyword, tabled-keywords}
use Rattle.write_laws.proofs.Lines.{Good, entry-reads}
use Rattle.write_laws.proofs.Runs.{walked_as, walked_all}
use Rattle.write_laws.proofs.Flat.{flat, flat-body, body-joined, Spoken, spoken_none, spoken_results, spoken, good-stated}
use Rattle.write_laws.proofs.Results.{result_pieces}
use Rattle.write_laws.proofs.Heads.{identifier-reads, none_written, results-written}
use Rattle.write_laws.proofs.Splits.{allowed-is}
use Rattle.write_laws.proofs.Reporting.{Told, reported-told}
use Rattle.write_laws.proofs.WriteTheorems.{fits-written, written-fits, round_trip}
use Rattle.ownfield_rules.specs.OwnField.{OwnField, Within, field_with, as_field}
use Rattle.ownfield_laws.proofs.FieldInLine.{field-length, field-stands, one_field, body_is, name-alike}

-- ==== what is written has neither CR nor LF

-- a text with neither
abbrev InLine : List ℕ → Type 0
InLine xs = each in_line xs ≡ true

quotable-line : (b : ℕ) → quotable b ≡ true → in_line b ≡ true
unfolding in_line quotable in_class within one_of
quotable-line b e = true-not (one_of (bytes "\r\n") b) (one_out (bytes "\r\n") quotable refl b e)

keyword-line : (b : ℕ) → in_class class.Keyword b ≡ true → in_line b ≡ true
unfolding in_line in_class letter within one_of
keyword-line b e = true-not (one_of (bytes "\r\n") b) (one_out (bytes "\r\n") (in_class class.Keyword) refl b e)

domain-line : (b : ℕ) → in_domain b ≡ true → in_line b ≡ true
unfolding in_line in_domain in_class letter within one_of
domain-line b e = true-not (one_of (bytes "\r\n") b) (one_out (bytes "\r\n") in_domain refl b e)

text-line : (t : List ℕ) → is_text t ≡ true → InLine t
unfolding is_text
text-line t e = each-weaker quotable in_line quotable-line t e

word_line : (k : List ℕ) → is_keyword k ≡ true → InLine k
word_line k e = each-weaker (in_class class.Keyword) in_line keyword-line k (keyword-each k (keyword-is k e).0)

host-line : (d : List ℕ) → whole domain d ≡ true → InLine d
host-line d e = each-weaker in_domain in_line domain-line d (domain-each d e)

guarded-line : (t : List ℕ) → InLine t → InLine (guarded t)
unfolding guarded each in_line one_of
guarded-line [] e = refl
guarded-line (x ∷ t) e = go (one_of (bytes "\"\\") x) refl (and_left (in_line x) _ e) (guarded-line t (and_right (in_line x) _ e))
  where
    go : (b : Bool) → one_of (bytes "\"\\") x ≡ b → in_line x ≡ true → InLine (guarded t) → InLine (guarded (x ∷ t))
    go true q s ih = rw (guarded, q, s, ih)
    go false q s ih = rw (guarded, q, s, ih)

quote-line : (t : List ℕ) → InLine t → InLine (quote t)
unfolding quote each in_line one_of
quote-line t e = each_append in_line (guarded t) (34 ∷ []) (guarded-line t e) refl

bare-line : (b : Bool) (t : List ℕ) → InLine t → InLine (bare_or b t)
unfolding bare_or
bare-line true t e = e
bare-line false t e = quote-line t e

at-line : (d : List ℕ) → whole domain d ≡ true → InLine (64 ∷ d)
unfolding each in_line one_of
at-line d e = host-line d e

at-domain-line : (t : List ℕ) → next (code "@") t ≡ true → whole domain (drop 1 t) ≡ true → InLine t
unfolding starts
at-domain-line [] a e = absurd (no_true a)
at-domain-line (x ∷ t) a e = rw (eqb-true x 64 a) (at-line t e)

value_line : (k : Kind) (t : List ℕ) → stands k t ≡ true → InLine (pvalue (record { kind = k; text = t }))
unfolding pvalue stands
value_line Token t s = text-line t (token-text t s)
value_line Quoted t s = quote-line t (text-line t s)
value_line AtDomain t s = at-domain-line t (and_left (next (code "@") t) _ s) (and_right (next (code "@") t) _ s)
value_line Mailbox t s =
    each_append in_line (bare_or (is_bare_local (local_of t)) (local_of t)) (64 ∷ domain_of t)
    (bare-line (is_bare_local (local_of t)) (local_of t) (text-line (local_of t) (and_left (is_text (local_of t)) _ s)))
    (at-line (domain_of t) (and_right (is_text (local_of t)) _ s))

piece-line : (e : Entry) → Good e → InLine (piece e)
unfolding piece each in_line one_of
piece-line (identified i) h = bare-line (whole identifier_token i) i (text-line i h.0)
piece-line unstated h = refl
piece-line (judged m r) h = let k = tabled-keywords m r h in each_append in_line m (61 ∷ r) (word_line m k.0) (word_line r k.1)
piece-line (reasoned t) h = bare-line (whole token t) t (text-line t h.0)
piece-line (shown p) h =
    let a = allowed-is p h.0 in
    each_append in_line p.ptype (46 ∷ (p.property ++ (61 ∷ pvalue p.value))) (word_line p.ptype (ptype-keyword p.ptype a.0))
    (each_append in_line p.property (61 ∷ pvalue p.value) (word_line p.property a.1) (value_line p.value.kind p.value.text a.2))

pieces-line : (es : List Entry) → Each Good es → InLine (joined piece es)
pieces-line [] h = unfold each in refl
pieces-line (e ∷ es) h = each_append in_line (piece e) (joined piece es) (piece-line e h.0) (pieces-line es h.1)

-- ==== the lines that were accepted, and their body

record Composed (src body : List ℕ) : Type 0 where
  told : Told src
  is : body ≡ joined piece told.told

composed : (src : List ℕ) (room : ℕ) → (compose src room).number ≡ 0 → Composed src (compose src room).written
composed src room z =
    let f = written-fits src room z in
    let t = reported-told src f.0 in
    let w : entries src ≡ walked_as t.told 0 0 = ap (λ (l : List ℕ). entries l) t.is ∙ walked_all t.told front t.ran.last 1 t.ran.runs t.good t.ran.ends in
    let b : body_for src ≡ joined piece t.told = ap (λ (v : Walked Entry). written.body_of v.items) w ∙ body-joined t.told in
    record { told = t; is = ap (λ (a : Answer). a.written) (fits-written src room f) ∙ b }

-- what is written stands on one line
pub written-line : (src : List ℕ) (room : ℕ) → (compose src room).number ≡ 0 → each in_line (compose src room).written ≡ true
written-line src room z = let c = composed src room z in rw c.is (pieces-line c.told.told c.told.good)

-- ==== what is written has the identifier of the lines, and is well-formed

-- the first line is an id line, whose text the body has as its identifier; the body is well-formed, of version 1
pub record ReadsBack (src body : List ℕ) : Type 0 where
  pub id : List ℕ
  pub first : entry src ≡ got (identified id) (length (line_of (identified id)))
  pub reads : identifier body ≡ got id (length (piece (identified id)))
  pub formed : WellFormed body

entries-read : (es : List Entry) → Each Good es → Spoken es → ReadsBack (joined line_of es) (joined piece es)
entries-read es h (spoken_none i e) =
    let k : Each Good (identified i ∷ unstated ∷ []) = subst (λ (l : List Entry). Each Good l) e h in
    let b : joined piece (identified i ∷ unstated ∷ []) ≡ piece (identified i) ++ piece unstated = ap (λ (l : List ℕ). piece (identified i) ++ l) (append-nil (piece unstated)) in
    subst (λ (l : List Entry). ReadsBack (joined line_of l) (joined piece l)) (sym e)
    (record {
      id = i;
      first = entry-reads (identified i) k.0 (joined line_of (unstated ∷ [])) tt;
      reads = identifier-reads i k.0.0 (joined piece (unstated ∷ [])) (unfold piece follows in_class one_of in refl);
      formed = rw (b, none_written i k.0.0);
    })
entries-read es h (spoken_results i r rs e o) =
    let k : Each Good (identified i ∷ flat (r ∷ rs)) = subst (λ (l : List Entry). Each Good l) e h in
    let b : joined piece (identified i ∷ flat (r ∷ rs)) ≡ piece (identified i) ++ joined result_pieces (r ∷ rs) = ap (λ (l : List ℕ). piece (identified i) ++ l) (flat-body (r ∷ rs)) in
    subst (λ (l : List Entry). ReadsBack (joined line_of l) (joined piece l)) (sym e)
    (record {
      id = i;
      first = entry-reads (identified i) k.0 (joined line_of (flat (r ∷ rs))) tt;
      reads = identifier-reads i k.0.0 (joined piece (flat (r ∷ rs))) (unfold piece follows in_class one_of in refl);
      formed = rw (b, results-written i r rs k.0.0 (good-stated (r ∷ rs) o k.1));
    })

-- so of all lines that are accepted
pub read_back : (src : List ℕ) (room : ℕ) → (compose src room).number ≡ 0 → ReadsBack src (compose src room).written
read_back src room z =
    let c = composed src room z in
    let s = entries-read c.told.told c.told.good (spoken c.told.ran.runs refl c.told.ran.ends) in
    subst (λ (l : List ℕ). ReadsBack l (compose src room).written) (sym c.told.is)
    (subst (λ (b : List ℕ). ReadsBack (joined line_of c.told.told) b) (sym c.is) s)

-- what an id line says
abbrev id_of : Got Entry → List ℕ
id_of nothing = []
id_of (got (identified i) n) = i
id_of (got unstated n) = []
id_of (got (judged m r) n) = []
id_of (got (reasoned t) n) = []
id_of (got (shown p) n) = []

-- where the first line is the id line of i, that is its identifier
pub written-identifier : (src : List ℕ) (room : ℕ) → (compose src room).number ≡ 0 → (i : List ℕ) (n : ℕ) → entry src ≡ got (identified i) n
    → identifier (compose src room).written ≡ got i (length (piece (identified i)))
written-identifier src room z i n e =
    let s = read_back src room z in
    let q : s.id ≡ i = ap id_of (sym s.first ∙ e) in
    subst (λ (j : List ℕ). identifier (compose src room).written ≡ got j (length (piece (identified j)))) q s.reads

-- ==== what is written is a field of ours

pub written-own : (src list : List ℕ) (room : ℕ) → (compose src room).number ≡ 0 → (i : List ℕ) (n : ℕ) → entry src ≡ got (identified i) n
    → (e : List ℕ) → Memᴰ e (own_list list).items → same_identifier e i ≡ true
    → OwnField list (field_with (compose src room).written) (as_field (compose src room).written)
written-own src list room z i n f e m q =
    let b = body_is (compose src room).written in
    record {
      one = one_field (compose src room).written (written-line src room z);
      name = name-alike (compose src room).written;
      body = rw b (read_back src room z).formed;
      text = i;
      size = length (piece (identified i));
      reads = rw b (written-identifier src room z i n f);
      entry = e;
      listed = m;
      equal = q;
    }

-- what answers 0 doesn't answer 4
refused : {n : ℕ} → n ≡ 0 → n ≡ 4 → ⊥
refused z e = omega (arith, z, e)

-- ==== the gateway's own way: strip, write, put in front

module _ (src block list : List ℕ) (room rest : ℕ) (written : (compose src room).number ≡ 0) (stripped : (strip block list rest).number ≡ 0) where
  -- the field that is written, and the fields that stripping kept
  pub front-sound : AllSound (as_field (compose src room).written ∷ kept_fields block list)
  front-sound =
      let b = fields-fine block (strip-sound block list rest stripped).fielded in
      more (field-stands (compose src room).written (written-line src room written))
      (select-sound (λ g. not (is_removed (among (own_list list).items) g)) b.sound)

  pub front_bytes : bytes_of (as_field (compose src room).written ∷ kept_fields block list) ≡ field_with (compose src room).written ++ (strip block list rest).written
  unfolding bytes_of
  front_bytes = rw (strip-sound block list rest stripped).is

  module _ (few : length (kept_fields block list) ≤ 511) where
    -- the block that results: our field, then those that stripping kept, and it is not refused
    pub front-fields : fields (field_with (compose src room).written ++ (strip block list rest).written)
        ≡ record { items = as_field (compose src room).written ∷ kept_fields block list; number = 0; place = 0 }
    front-fields = rw front_bytes at (walk-back 0 0 front-sound (omega (arith, few)))

    -- within the limits: 25 bytes more than body and stripped block have, and one field more than stripping kept
    pub front-within : length (compose src room).written + 25 + length (strip block list rest).written ≤ byte_limit
        → Within (field_with (compose src room).written ++ (strip block list rest).written)
    front-within h =
        record {
          bytes = omega (arith, h, length-append (field_with (compose src room).written) (strip block list rest).written, field-length (compose src room).written);
          fields = λ e. refused (ap (λ (v : Walked Field). v.number) front-fields) e;
        }

  -- where the first line is an id line, and its identifier equals an entry of the list
  module _ (i : List ℕ) (n : ℕ) (first : entry src ≡ got (identified i) n) (e : List ℕ) (listed : Memᴰ e (own_list list).items) (equal : same_identifier e i ≡ true) where
    -- what is put in front is one well-formed field of ours, which has the lines as its report; what results is within the limits
    pub gateway-way : length (kept_fields block list) ≤ 511 → length (compose src room).written + 25 + length (strip block list rest).written ≤ byte_limit
        → (OwnField list (field_with (compose src room).written) (as_field (compose src room).written))
        × (Within (field_with (compose src room).written ++ (strip block list rest).written))
        × ((r : ℕ) → length src ≤ r → report (body_of (as_field (compose src room).written)) r ≡ says_lines src)
    gateway-way few long = (
      written-own src list room written i n first e listed equal,
      front-within few long,
      λ r h. rw (body_is (compose src room).written) (round_trip src room written r h),
    )

-- the lines of one result, by the list of their identifier, before a block of which the first field goes
gateway-instance : (OwnField (bytes "mx.example\n") (bytes "Authentication-Results: mx.example; spf=pass\r\n") (record { bytes = bytes "Authentication-Results: mx.example; spf=pass\r\n"; name = 22; body = 23 }))
    × (Within (bytes "Authentication-Results: mx.example; spf=pass\r\nFrom: a\r\n"))
    × ((r : ℕ) → 25 ≤ r → report (bytes " mx.example; spf=pass") r ≡ says_lines (bytes "id\tmx.example\nm\tspf\tpass\n"))
unfolding compose-opened.opened strip-opened.opened
gateway-instance =
    gateway-way (bytes "id\tmx.example\nm\tspf\tpass\n") (bytes "Authentication-Results: MX.example; none\r\nFrom: a\r\n") (bytes "mx.example\n") 100 100 refl refl
    (bytes "mx.example") 14 refl (bytes "mx.example") (Memᴰ.head refl) refl (lit≤ tt) (lit≤ tt)
