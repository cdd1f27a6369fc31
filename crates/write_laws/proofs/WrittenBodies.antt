-- What is written is of bytes, because the texts are and all else is letters and separators.
use Prim.Native.Nat.{ℕ}
use native.Mathlib.Omega.{arith}
use mathlib.Core.Path.{◌≡◌, refl, subst}
use mathlib.Core.Bool.{Bool, true, false}
use mathlib.Core.List.{List, [], ◌∷◌, ◌++◌}
use lib.Dec.{ltb}
use borrow.Author.Tests.{lt-ltb}
use Rattle.base_sequences.proofs.Booleans.{and_left, and_right}
use Rattle.base_readers.specs.Texts.{bytes, one_of}
use Rattle.lexis_rules.specs.declared.Class.TheVariants as class
use Rattle.lexis_rules.specs.Bytes.{in_class}
use Rattle.lexis_rules.specs.Pieces.{token}
use Rattle.identifier_rules.specs.Identifier.{identifier_token}
use Rattle.result_rules.specs.Results.{Kind, Token, Quoted, Mailbox, AtDomain}
use Rattle.write_rules.specs.Entries.{Entry, identified, unstated, judged, reasoned, shown, each, whole, is_text, is_keyword, local_of, domain_of, stands}
use Rattle.write_rules.specs.Bodies.{guarded, quote, bare_or, is_bare_local, pvalue, piece}
use Rattle.write_rules.specs.Promise.{Bytes}
use Rattle.write_laws.proofs.Bounds.{keyword-bound}
use Rattle.write_laws.proofs.Readback.{Each, joined}
use Rattle.write_laws.proofs.Quotes.{each-weaker, each_append, each_left, each_right}
use Rattle.write_laws.proofs.Values.{cut-is}
use Rattle.write_laws.proofs.Keywords.{keyword-is, keyword-each, ptype-keyword, tabled-keywords}
use Rattle.write_laws.proofs.Lines.{Good}
use Rattle.write_laws.proofs.Splits.{allowed-is}

abbrev small : ℕ → Bool
small b = ltb b 256

pub bytes-append : (xs ys : List ℕ) → Bytes xs → Bytes ys → Bytes (xs ++ ys)
bytes-append = each_append small

keyword-small : (b : ℕ) → in_class class.Keyword b ≡ true → small b ≡ true
keyword-small b e = lt-ltb b 256 (omega (arith, keyword-bound b e))

keyword-bytes : (k : List ℕ) → is_keyword k ≡ true → Bytes k
keyword-bytes k e = each-weaker (in_class class.Keyword) small keyword-small k (keyword-each k (keyword-is k e).0)

guarded-bytes : (t : List ℕ) → Bytes t → Bytes (guarded t)
unfolding guarded each
guarded-bytes [] e = refl
guarded-bytes (x ∷ t) e = go (one_of (bytes "\"\\") x) refl (and_left (small x) _ e) (guarded-bytes t (and_right (small x) _ e))
  where
    go : (b : Bool) → one_of (bytes "\"\\") x ≡ b → small x ≡ true → Bytes (guarded t) → Bytes (guarded (x ∷ t))
    go true q s ih = rw (guarded, q, s, ih)
    go false q s ih = rw (guarded, q, s, ih)

quote-bytes : (t : List ℕ) → Bytes t → Bytes (quote t)
unfolding quote each
quote-bytes t e = bytes-append (guarded t) (34 ∷ []) (guarded-bytes t e) refl

bare-bytes : (b : Bool) (t : List ℕ) → Bytes t → Bytes (bare_or b t)
unfolding bare_or
bare-bytes true t e = e
bare-bytes false t e = quote-bytes t e

value-bytes : (k : Kind) (t : List ℕ) → stands k t ≡ true → Bytes t → Bytes (pvalue (record { kind = k; text = t }))
unfolding pvalue stands
value-bytes Token t s e = e
value-bytes Quoted t s e = quote-bytes t e
value-bytes AtDomain t s e = e
value-bytes Mailbox t s e =
    let c : Bytes (local_of t ++ (64 ∷ domain_of t)) = subst (λ (l : List ℕ). Bytes l) (cut-is t (and_right (is_text (local_of t)) _ s)) e in
    bytes-append (bare_or (is_bare_local (local_of t)) (local_of t)) (64 ∷ domain_of t) (bare-bytes (is_bare_local (local_of t)) (local_of t) (each_left small (local_of t) (64 ∷ domain_of t) c))
    (each_right small (local_of t) (64 ∷ domain_of t) c)

pub piece_bytes : (e : Entry) → Good e → Bytes (piece e)
unfolding piece each
piece_bytes (identified i) h = bare-bytes (whole identifier_token i) i h.1
piece_bytes unstated h = refl
piece_bytes (judged m r) h = let k = tabled-keywords m r h in bytes-append m (61 ∷ r) (keyword-bytes m k.0) (keyword-bytes r k.1)
piece_bytes (reasoned t) h = bare-bytes (whole token t) t h.1
piece_bytes (shown p) h =
    let a = allowed-is p h.0 in
    bytes-append p.ptype (46 ∷ (p.property ++ (61 ∷ pvalue p.value))) (keyword-bytes p.ptype (ptype-keyword p.ptype a.0))
    (bytes-append p.property (61 ∷ pvalue p.value) (keyword-bytes p.property a.1) (value-bytes p.value.kind p.value.text a.2 h.1))

pub body_bytes : (es : List Entry) → Each Good es → Bytes (joined piece es)
body_bytes [] h = unfold each in refl
body_bytes (e ∷ es) h = bytes-append (piece e) (joined piece es) (piece_bytes e h.0) (body_bytes es h.1)
