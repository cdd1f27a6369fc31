-- Property values: what is written is read back, and what is read can stand. Kind by kind, along the parser: which kind is tried is known by
-- whether "@" follows.
use Prim.Native.Nat.{ℕ, suc}
use mathlib.Core.Path.{◌≡◌, refl, sym, ap, ◌∙◌, subst}
use mathlib.Core.Bool.{Bool, true, false, not, ◌&&◌, ◌||◌}
use mathlib.Core.List.{List, [], ◌∷◌, ◌++◌, append_assoc, append-nil}
use lib.Dec.{eqb, ltb}
use lib.ListN.{length, take}
use lib.Seq.{drop-append_seam}
use borrow.Author.Tests.{eqb-true}
use Rattle.base_sequences.proofs.Booleans.{no_true, both, and_left, and_right, or_right}
use Rattle.base_sequences.proofs.Tables.{tested_at}
use Rattle.base_readers.specs.Texts.{one_of, starts, same}
use Rattle.base_readers.specs.Readers.{run}
use Rattle.base_readers.specs.Parsers.{Parser, ◌>>=◌, ◌>>◌, give, when, byte, taken, text, branch}
use Rattle.base_readers.specs.Locality.{Any, Ends, Fits, Local}
use Rattle.base_readers.proofs.Readers.{run_fits, run_more, passing-fits, passing-inv}
use Rattle.base_readers.proofs.Local.{run-local, passing-local}
use Rattle.base_readers.proofs.Sequencing.{taken-inv}
use Rattle.lexis_rules.specs.declared.Class.TheVariants as class
use Rattle.lexis_rules.specs.Bytes.{in_class}
use Rattle.lexis_rules.specs.Pieces.{token}
use Rattle.lexis_laws.proofs.Locality.{token-local}
use Rattle.result_rules.specs.Results.{Kind, Token, Quoted, Mailbox, AtDomain, Value, next, read_quoted, in_local_part, in_domain, is_local_part, is_domain, domain, addressed, address, quoted_mailbox, quoted_value, token_value, at_behind, property_value}
use Rattle.result_rules.proofs.Unfolding as resinfo
use Rattle.result_laws.proofs.Following.{Delimited, delimited-ends}
use Rattle.result_laws.proofs.Values.{implied, no-at, token-bound, token-no-at, token-no-quote, token-value-opens, quote-no-at}
use Rattle.write_rules.specs.Entries.{each, whole, quotable, is_text, local_of, domain_of, stands}
use Rattle.write_rules.specs.Bodies.{quote, bare_or, is_bare_local, pvalue}
use Rattle.write_rules.specs.Promise.{Bytes}
use Rattle.write_laws.proofs.Bounds.{local-bound}
use Rattle.write_laws.proofs.Readback.{Reads, Takes, bind-reads, none_reads, last-reads, weaker-reads, give-reads, when-reads, byte_reads, taken-reads, yes-reads, no_reads, whole_is, whole-reads}
use Rattle.write_laws.proofs.Finds.{Finds, bind-finds, give-finds, when-finds, byte-finds, text-finds, branch-finds}
use Rattle.write_laws.proofs.Quotes.{each-weaker, each_append, each_left, each_right, run-each, quoted-reads, Texted, quoted-finds}

-- ==== runs

pub run-takes : (c : ℕ → Bool) (w : List ℕ) → each c w ≡ true → Takes (run c) w (Ends (run c))
unfolding each
run-takes c [] e t g = g
run-takes c (x ∷ w) e t g = run_more c x (w ++ t) (and_left (c x) _ e) ∙ ap suc (run-takes c w (and_right (c x) _ e) t g)

-- what a run takes
pub run-took : (c : ℕ → Bool) (xs : List ℕ) → each c (take (run c xs) xs) ≡ true
unfolding run each
run-took c [] = refl
run-took c (x ∷ xs) = go (c x) refl (run-took c xs)
  where
    go : (t : Bool) → c x ≡ t → each c (take (run c xs) xs) ≡ true → each c (take (run c (x ∷ xs)) (x ∷ xs)) ≡ true
    go true q ih = rw (run, q) (rw q ih)
    go false q ih = rw (run, q)

pub run-whole : (c : ℕ → Bool) (w : List ℕ) → whole (run c) w ≡ true → each c w ≡ true
run-whole c w e = run-each c w (whole_is (run c) w e)

-- ==== bytes of the classes can be quoted

pub token-quotable : (b : ℕ) → in_class class.Token b ≡ true → quotable b ≡ true
unfolding resinfo.opened quotable
token-quotable b e = implied (in_class class.Token b) (quotable b) (tested_at (λ b. not (in_class class.Token b) || quotable b) 127 b tt (token-bound b e)) e

pub local-quotable : (b : ℕ) → in_local_part b ≡ true → quotable b ≡ true
unfolding resinfo.opened quotable
local-quotable b e = implied (in_local_part b) (quotable b) (tested_at (λ b. not (in_local_part b) || quotable b) 127 b tt (local-bound b e)) e

pub token-text : (t : List ℕ) → whole token t ≡ true → is_text t ≡ true
unfolding is_text
token-text t e = each-weaker (in_class class.Token) quotable token-quotable t (run-whole (in_class class.Token) t e)

-- ==== the last "@"

-- no byte of the class is listed
each_none : (c : ℕ → Bool) (x : ℕ) → c x ≡ false → (l : List ℕ) → each c l ≡ true → one_of l x ≡ false
unfolding one_of each
each_none c x z [] e = refl
each_none c x z (a ∷ l) e = go (eqb x a) refl (each_none c x z l (and_right (c a) _ e))
  where
    go : (t : Bool) → eqb x a ≡ t → one_of l x ≡ false → (eqb x a || one_of l x) ≡ false
    go true q ih = absurd (both (c x) z (rw (eqb-true x a q) (and_left (c a) _ e)))
    go false q ih = rw (q, ih)

pub domain-local : Local domain (Ends (run in_domain))
domain-local = passing-local is_domain (run in_domain) (Ends (run in_domain)) (run-local in_domain)

pub domain-fits : Fits domain
domain-fits = passing-fits is_domain (run in_domain) (run_fits in_domain)

pub domain-each : (d : List ℕ) → whole domain d ≡ true → each in_domain d ≡ true
unfolding whole
domain-each [] e = absurd (no_true e)
domain-each (x ∷ d) e = run-each in_domain (x ∷ d) (passing-inv is_domain (run in_domain) (x ∷ d) (length d) (eqb-true _ _ e)).0

pub domain-no-at : (d : List ℕ) → whole domain d ≡ true → one_of d 64 ≡ false
domain-no-at d e = each_none in_domain 64 (unfold resinfo.opened in refl) d (domain-each d e)

one-of-last : (l d : List ℕ) → one_of (l ++ (64 ∷ d)) 64 ≡ true
unfolding one_of
one-of-last [] d = refl
one-of-last (x ∷ l) d = or_right (eqb 64 x) _ (one-of-last l d)

and-not : (a b : Bool) → b ≡ true → (a && not b) ≡ false
and-not true b e = rw e
and-not false b e = refl

-- an address is cut where it was put together
module _ (d : List ℕ) (h : one_of d 64 ≡ false) where
  pub local-of : (l : List ℕ) → local_of (l ++ (64 ∷ d)) ≡ l
  unfolding local_of
  local-of [] = rw (local_of, h)
  local-of (x ∷ l) = let q : (eqb x 64 && not (one_of (l ++ (64 ∷ d)) 64)) ≡ false = and-not (eqb x 64) _ (one-of-last l d) in rw (local_of, q) (ap (λ (r : List ℕ). x ∷ r) (local-of l))

  pub domain-of : (l : List ℕ) → domain_of (l ++ (64 ∷ d)) ≡ d
  unfolding domain_of
  domain-of [] = rw (domain_of, h)
  domain-of (x ∷ l) = let q : (eqb x 64 && not (one_of (l ++ (64 ∷ d)) 64)) ≡ false = and-not (eqb x 64) _ (one-of-last l d) in rw (domain_of, q) (domain-of l)

-- and put together again
pub cut-is : (t : List ℕ) → whole domain (domain_of t) ≡ true → t ≡ local_of t ++ (64 ∷ domain_of t)
unfolding local_of domain_of whole
cut-is [] e = absurd (no_true e)
cut-is (x ∷ t) e = go (eqb x 64 && not (one_of t 64)) refl (cut-is t)
  where
    go : (b : Bool) → (eqb x 64 && not (one_of t 64)) ≡ b → (whole domain (domain_of t) ≡ true → t ≡ local_of t ++ (64 ∷ domain_of t))
        → x ∷ t ≡ local_of (x ∷ t) ++ (64 ∷ domain_of (x ∷ t))
    go true q ih = let i : x ≡ 64 = eqb-true x 64 (and_left (eqb x 64) _ q) in rw (local_of, domain_of, q, i)
    go false q ih = let d : domain_of (x ∷ t) ≡ domain_of t = rw (domain_of, q) in rw (local_of, domain_of, q) (ap (λ (r : List ℕ). x ∷ r) (ih (rw d at e)))

-- ==== written and read back

delimited-domain : (t : List ℕ) → Delimited t → Ends (run in_domain) t
unfolding resinfo.opened
delimited-domain = delimited-ends in_domain refl

delimited-token : (t : List ℕ) → Delimited t → Ends token t
unfolding resinfo.opened
delimited-token = delimited-ends (in_class class.Token) refl

delimited-local : (t : List ℕ) → Delimited t → Ends (run in_local_part) t
unfolding resinfo.opened
delimited-local = delimited-ends in_local_part refl

-- "@", a domain and what is made of it
abbrev at_reader : (List ℕ → Value) → Parser Value
at_reader f = ◌>>◌ (byte 64) (◌>>=◌ (text domain) (λ d. give (f d)))

at_reads : (f : List ℕ → Value) (d : List ℕ) → whole domain d ≡ true → Reads (at_reader f) (64 ∷ d) (f d) Delimited
at_reads f d e =
    bind-reads (byte 64) _ (64 ∷ []) d tt (f d) Any Delimited (byte_reads 64)
    (last-reads (text domain) _ d d (f d) Delimited
    (weaker-reads (text domain) d d (Ends (run in_domain)) Delimited delimited-domain (whole-reads domain (Ends (run in_domain)) domain-local d e))
    (give-reads (f d) Delimited))
    (λ t g. tt)

abbrev unaddressed : Parser Value
unaddressed = branch (next 34) quoted_value token_value

abbrev value_is : Kind → List ℕ → Value
value_is k t = record { kind = k; text = t }

-- a run before "@"
at-ends : (t : List ℕ) → Ends (run in_local_part) (64 ∷ t)
unfolding resinfo.opened
at-ends t = refl

address-reads : (l d : List ℕ) → each in_local_part l ≡ true → is_local_part l ≡ true → whole domain d ≡ true → Reads address (l ++ (64 ∷ d)) (addressed l d) Delimited
unfolding address
address-reads l d e s h =
    bind-reads (taken (run in_local_part)) _ l (64 ∷ d) l (addressed l d) (Ends (run in_local_part)) Delimited
    (taken-reads (run in_local_part) l (Ends (run in_local_part)) (run-takes in_local_part l e))
    (none_reads (when (is_local_part l)) _ (64 ∷ d) tt (addressed l d) Any Delimited (when-reads (is_local_part l) Any s) (at_reads (addressed l) d h) (λ t g. tt))
    (λ t g. at-ends (d ++ t))

address-behind : (l d : List ℕ) → each in_local_part l ≡ true → (t : List ℕ) → at_behind ((l ++ (64 ∷ d)) ++ t) ≡ true
unfolding at_behind starts
address-behind l d e t =
    let a : (l ++ (64 ∷ d)) ++ t ≡ l ++ (64 ∷ (d ++ t)) = append_assoc l (64 ∷ d) t in
    let r : run in_local_part (l ++ (64 ∷ (d ++ t))) ≡ length l = run-takes in_local_part l e (64 ∷ (d ++ t)) (at-ends (d ++ t)) in
    rw (a, r, drop-append_seam l (64 ∷ (d ++ t)))

pub addressed-reads : (l d : List ℕ) → each in_local_part l ≡ true → is_local_part l ≡ true → whole domain d ≡ true → Reads property_value (l ++ (64 ∷ d)) (addressed l d) Delimited
unfolding property_value
addressed-reads l d e s h =
    yes-reads address unaddressed (l ++ (64 ∷ d)) (addressed l d) Delimited at_behind (λ t g. address-behind l d e t) (address-reads l d e s h)

-- a quoted string, and what follows it
quote-next : (t rest : List ℕ) → next 34 (quote t ++ rest) ≡ true
unfolding quote starts
quote-next t rest = refl

unquoted : (w : List ℕ) (t : List ℕ) (v : Value) → Reads quoted_value (quote t ++ w) v Delimited → Reads property_value (quote t ++ w) v Delimited
unfolding property_value
unquoted w t v R =
    no_reads address unaddressed (quote t ++ w) v Delimited at_behind (λ x g. rw (append_assoc (quote t) w x) (quote-no-at (quote t ++ (w ++ x)) (quote-next t (w ++ x))))
    (yes-reads quoted_value token_value (quote t ++ w) v Delimited (next 34) (λ x g. rw (append_assoc (quote t) w x) (quote-next t (w ++ x))) R)

abbrev behind_quoted : List ℕ → Parser Value
behind_quoted q = branch (next 64) (quoted_mailbox q) (give (value_is Quoted q))

pub quoted-value-reads : (t : List ℕ) → is_text t ≡ true → Reads property_value (quote t) (value_is Quoted t) Delimited
unfolding quoted_value
quoted-value-reads t e =
    subst (λ (w : List ℕ). Reads property_value w (value_is Quoted t) Delimited) (append-nil (quote t))
    (unquoted [] t (value_is Quoted t)
    (bind-reads read_quoted behind_quoted (quote t) [] t (value_is Quoted t) Any Delimited (quoted-reads t e)
    (no_reads (quoted_mailbox t) (give (value_is Quoted t)) [] (value_is Quoted t) Delimited (next 64) no-at (give-reads (value_is Quoted t) Delimited))
    (λ x g. tt)))

pub quoted-mailbox-reads : (l d : List ℕ) → is_text l ≡ true → whole domain d ≡ true → Reads property_value (quote l ++ (64 ∷ d)) (value_is Mailbox (l ++ (64 ∷ d))) Delimited
unfolding quoted_value quoted_mailbox starts
quoted-mailbox-reads l d e h =
    let v = value_is Mailbox (l ++ (64 ∷ d)) in
    unquoted (64 ∷ d) l v
    (bind-reads read_quoted behind_quoted (quote l) (64 ∷ d) l v Any Delimited (quoted-reads l e)
    (yes-reads (quoted_mailbox l) (give (value_is Quoted l)) (64 ∷ d) v Delimited (next 64) (λ t g. refl) (at_reads (λ d. value_is Mailbox (l ++ (64 ∷ d))) d h))
    (λ x g. tt))

-- a token
pub token-value-reads : (t : List ℕ) → whole token t ≡ true → Reads property_value t (value_is Token t) Delimited
unfolding property_value
token-value-reads t e =
    no_reads address unaddressed t v Delimited at_behind (λ x g. token-no-at (t ++ x) v (length t) (reads x g) (rw (drop-append_seam t x) g))
    (no_reads quoted_value token_value t v Delimited (next 34) (λ x g. token-no-quote (t ++ x) (token-value-opens (t ++ x) v (length t) (reads x g))) reads)
  where
    v : Value
    v = value_is Token t

    reads : Reads token_value t (value_is Token t) Delimited
    reads =
        unfold token_value in
        last-reads (text token) _ t t (value_is Token t) Delimited
        (weaker-reads (text token) t t (Ends token) Delimited delimited-token (whole-reads token (Ends token) token-local t e))
        (give-reads (value_is Token t) Delimited)

-- a local part that stands bare
pub bare-mailbox-reads : (l d : List ℕ) → is_bare_local l ≡ true → whole domain d ≡ true → Reads property_value (l ++ (64 ∷ d)) (value_is Mailbox (l ++ (64 ∷ d))) Delimited
unfolding is_bare_local addressed
bare-mailbox-reads [] d e h = absurd (unfold whole in no_true e)
bare-mailbox-reads (x ∷ l) d e h =
    addressed-reads (x ∷ l) d (run-whole in_local_part (x ∷ l) (and_left (whole (run in_local_part) (x ∷ l)) _ e))
    (unfold is_local_part in or_right (same (x ∷ l) []) _ (and_right (whole (run in_local_part) (x ∷ l)) _ e)) h

mailbox-reads : (t : List ℕ) (b : Bool) → is_bare_local (local_of t) ≡ b → is_text (local_of t) ≡ true → whole domain (domain_of t) ≡ true
    → Reads property_value (bare_or b (local_of t) ++ (64 ∷ domain_of t)) (value_is Mailbox t) Delimited
unfolding bare_or
mailbox-reads t true q e h =
    subst (λ (z : List ℕ). Reads property_value (local_of t ++ (64 ∷ domain_of t)) (value_is Mailbox z) Delimited) (sym (cut-is t h))
    (bare-mailbox-reads (local_of t) (domain_of t) q h)
mailbox-reads t false q e h =
    subst (λ (z : List ℕ). Reads property_value (quote (local_of t) ++ (64 ∷ domain_of t)) (value_is Mailbox z) Delimited) (sym (cut-is t h))
    (quoted-mailbox-reads (local_of t) (domain_of t) e h)

-- all four
pub pvalue-reads : (k : Kind) (t : List ℕ) → stands k t ≡ true → Reads property_value (pvalue (value_is k t)) (value_is k t) Delimited
unfolding pvalue stands starts
pvalue-reads Token t e = token-value-reads t e
pvalue-reads Quoted t e = quoted-value-reads t e
pvalue-reads AtDomain [] e = absurd (no_true e)
pvalue-reads AtDomain (x ∷ t) e =
    let i : x ≡ 64 = eqb-true x 64 (and_left (eqb x 64) _ e) in
    rw i (unfold addressed in addressed-reads [] t (unfold each in refl) (unfold is_local_part same in refl) (and_right (eqb x 64) _ e))
pvalue-reads Mailbox t e = mailbox-reads t (is_bare_local (local_of t)) refl (and_left (is_text (local_of t)) _ e) (and_right (is_text (local_of t)) _ e)

-- ==== what is read can stand

abbrev pub Standing : Value → List ℕ → Type 0
Standing v u = (stands v.kind v.text ≡ true) × (Bytes u → Bytes v.text)

pub domain-finds : Finds (text domain) (λ a u. (a ≡ u) × (whole domain a ≡ true))
domain-finds = text-finds domain (Ends (run in_domain)) domain-local domain-fits (unfold run in refl)

-- "@", a domain, and what is made of it, behind u
at-finds : (f : List ℕ → Value) (u : List ℕ) → ((d : List ℕ) → whole domain d ≡ true → Standing (f d) (u ++ (64 ∷ d))) → Finds (at_reader f) (λ v w. Standing v (u ++ w))
at-finds f u H =
    bind-finds (byte 64) _ (λ b w. w ≡ 64 ∷ []) (λ v w. Standing v (u ++ w)) (byte-finds 64)
    (λ a w i. bind-finds (text domain) _ (λ a u. (a ≡ u) × (whole domain a ≡ true)) (λ v y. Standing v (u ++ (w ++ y))) domain-finds
    (λ d y j xs v n e. let g = give-finds (f d) xs v n e in rw (← g.0, g.1, i, append-nil y, ← j.0) (H d j.1)))

mailbox-stands : (l d : List ℕ) → is_text l ≡ true → whole domain d ≡ true → stands Mailbox (l ++ (64 ∷ d)) ≡ true
unfolding stands
mailbox-stands l d e h = let n = domain-no-at d h in rw (local-of d n l, domain-of d n l, e, h)

-- behind a run
addressed-standing : (l d : List ℕ) → each in_local_part l ≡ true → whole domain d ≡ true → Standing (addressed l d) (l ++ (64 ∷ d))
unfolding addressed
addressed-standing [] d e h = (unfold stands starts in h, λ b. b)
addressed-standing (x ∷ l) d e h =
    (mailbox-stands (x ∷ l) d (unfold is_text in each-weaker in_local_part quotable local-quotable (x ∷ l) e) h, λ b. b)

address-finds : Finds address Standing
unfolding address
address-finds xs v n h =
    bind-finds (taken (run in_local_part)) Tested (λ l u. (l ≡ u) × (each in_local_part l ≡ true)) Standing run-finds
    (λ l u i. bind-finds (when (is_local_part l)) _ (λ b w. (is_local_part l ≡ true) × (w ≡ [])) (λ v w. Standing v (u ++ w)) (when-finds (is_local_part l))
    (λ b w j xs v n e. rw j.1 (at-finds (addressed l) u (λ d q. rw (← i.0) (addressed-standing l d i.1 q)) xs v n e)))
    xs v n h
  where
    Tested : List ℕ → Parser Value
    Tested l = ◌>>◌ (when (is_local_part l)) (at_reader (addressed l))

    run-finds : Finds (taken (run in_local_part)) (λ l u. (l ≡ u) × (each in_local_part l ≡ true))
    run-finds ys l m e =
        let v = taken-inv (run in_local_part) ys l m e in
        (v.1, rw (v.1, ← v.0) (run-took in_local_part ys))

quoted-value-finds : Finds quoted_value Standing
unfolding quoted_value
quoted-value-finds =
    bind-finds read_quoted behind_quoted Texted Standing quoted-finds
    (λ q u i. branch-finds (next 64) (quoted_mailbox q) (give (value_is Quoted q)) (λ v w. Standing v (u ++ w))
    (unfold quoted_mailbox in at-finds (λ d. value_is Mailbox (q ++ (64 ∷ d))) u (λ d h. (mailbox-stands q d i.0 h, λ b. each_append (λ b. ltb b 256) q (64 ∷ d) (i.1 (each_left (λ b. ltb b 256) u (64 ∷ d) b)) (each_right (λ b. ltb b 256) u (64 ∷ d) b))))
    (λ xs v n e. let g = give-finds (value_is Quoted q) xs v n e in rw (← g.0, g.1, append-nil u) (unfold stands in i)))

token-value-finds : Finds token_value Standing
unfolding token_value stands
token-value-finds =
    bind-finds (text token) _ (λ a u. (a ≡ u) × (whole token a ≡ true)) Standing (text-finds token (Ends token) token-local (run_fits (in_class class.Token)) (unfold run in refl))
    (λ t u i xs v n e. let g = give-finds (value_is Token t) xs v n e in rw (← g.0, g.1, append-nil u, ← i.0) (i.1, λ b. b))

pub property-value-finds : Finds property_value Standing
unfolding property_value
property-value-finds = branch-finds at_behind address unaddressed Standing address-finds (branch-finds (next 34) quoted_value token_value Standing quoted-value-finds token-value-finds)
