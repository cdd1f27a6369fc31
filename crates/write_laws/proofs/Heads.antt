-- Whole bodies: what is written is read back, and what is read can stand. From the same of the identifier and of the results.
use Prim.Native.Nat.{ℕ, suc}
use mathlib.Core.Path.{◌≡◌, refl, ◌∙◌}
use mathlib.Core.Bool.{Bool, true, false, not, ◌&&◌, ◌||◌}
use mathlib.Core.List.{List, [], ◌∷◌, ◌++◌, append-nil}
use mathlib.Core.Option.{Option, none, some}
use lib.Dec.{eqb, ltb, leb}
use lib.ListN.{length, drop, take}
use lib.Seq.{drop-append_seam}
use Rattle.base_sequences.proofs.Booleans.{no_true, or_left, or_right}
use Rattle.base_readers.specs.Texts.{bytes, within, one_of, starts, follows}
use Rattle.base_readers.specs.Readers.{run}
use Rattle.base_readers.specs.Parsers.{nothing, got, ahead, end, text, optional, several}
use Rattle.base_readers.specs.Locality.{Ends, Fits, Local, Shut}
use Rattle.base_readers.proofs.Local.{run-local}
use Rattle.base_readers.proofs.Readers.{run_fits, run-first}
use Rattle.base_readers.proofs.Sequencing.{end_is}
use Rattle.lexis_rules.specs.declared.Class.TheVariants as class
use Rattle.lexis_rules.specs.Bytes.{in_class}
use Rattle.lexis_rules.specs.Pieces.{space}
use Rattle.lexis_rules.specs.Words.{value_text, skip}
use Rattle.identifier_rules.specs.Identifier.{identifier_byte, identifier_token, identifier_value, identifier}
use Rattle.identifier_rules.specs.Version.{stated, header_version}
use Rattle.result_rules.specs.Results.{Result}
use Rattle.result_rules.proofs.Unfolding as resinfo
use Rattle.result_laws.proofs.Following.{Delimited, solid, delimited-ends}
use Rattle.report_rules.specs.Body.{Head, malformed, no_result, results, head, resinfo, resinfos, payload, reading}
use Rattle.report_rules.specs.Newer.{WellFormed}
use Rattle.report_rules.proofs.Unfolding as body
use Rattle.report_laws.proofs.Sequence.{over_none, resinfo-within}
use Rattle.report_laws.proofs.Readings.{reading-is, first_one, headed-is, payload-is, Sound, well-formed-inv, Payload, neither, word, some, payload-cases}
use Rattle.report_laws.proofs.Heads.{closed-stated}
use Rattle.write_rules.specs.Entries.{identified, unstated, whole, quotable, is_text}
use Rattle.write_rules.specs.Bodies.{quote, bare_or, piece}
use Rattle.write_rules.specs.Promise.{Bytes}
use Rattle.write_laws.proofs.Readback.{Reads, Each, bind-reads, none_reads, last-reads, weaker-reads, give-reads, ahead-reads, skip-reads, absent-reads, whole_takes, joined, several-reads}
use Rattle.write_laws.proofs.Finds.{Finds, bind-finds, give-finds, ahead-finds, any-finds, several-finds}
use Rattle.write_laws.proofs.Quotes.{each-weaker, each_left, each_right, each_take, each-drop, value-reads, value-text, Texted, value-finds}
use Rattle.write_laws.proofs.Values.{token-quotable, run-whole}
use Rattle.write_laws.proofs.Results.{blank-reads, Stop, stop-solid, stop-closed, stop-delimited, Stated, result_pieces, result-reads, result-front, result-long}
use Rattle.write_laws.proofs.ReadResults.{behind-finds, texted-behind, Byted, Named, Resulted, result-finds}

-- ==== what is used of the identifier's token: no more than this

pub identifier-local : Local identifier_token (Ends identifier_token)
identifier-local = run-local identifier_byte

identifier-shut : Shut identifier_token 34
unfolding resinfo.opened identifier_byte
identifier-shut [] h = refl
identifier-shut (x ∷ xs) h = rw h

pub identifier-fits : Fits identifier_token
identifier-fits = run_fits identifier_byte

pub identifier-end : Ends identifier_token []
unfolding run
identifier-end = refl

high-quoted : (b : ℕ) → leb 128 b ≡ true → in_class class.Quoted b ≡ true
unfolding in_class
high-quoted b h = or_right (within 32 126 b && not (one_of (bytes "\"\\") b) || eqb b 9) (leb 128 b) h

high-quotable : (b : ℕ) → identifier_byte b ≡ true → quotable b ≡ true
unfolding identifier_byte quotable
high-quotable b e = go (in_class class.Token b) refl
  where
    go : (t : Bool) → in_class class.Token b ≡ t → (in_class class.Quoted b || in_class class.Escaped b) ≡ true
    go true q = unfold quotable in token-quotable b q
    go false q = or_left (in_class class.Quoted b) (in_class class.Escaped b) (high-quoted b (rw q at e))

pub identifier-text : (t : List ℕ) → whole identifier_token t ≡ true → is_text t ≡ true
unfolding is_text
identifier-text t e = each-weaker identifier_byte quotable high-quotable t (run-whole identifier_byte t e)

identifier-delimited : (t : List ℕ) → Delimited t → Ends identifier_token t
identifier-delimited = delimited-ends identifier_byte (unfold resinfo.opened identifier_byte in refl)

identifier-solid : (xs : List ℕ) (n : ℕ) → identifier_token xs ≡ suc n → Ends space xs
identifier-solid xs n e = solid identifier_byte (unfold resinfo.opened identifier_byte in refl) xs (run-first identifier_byte xs n e)

-- ==== the identifier

abbrev written : List ℕ → List ℕ
written i = bare_or (whole identifier_token i) i

written-solid : (i : List ℕ) (b : Bool) → whole identifier_token i ≡ b → (t : List ℕ) → Delimited t → Ends space (bare_or b i ++ t)
unfolding bare_or
written-solid [] true e t g = absurd (unfold whole in no_true e)
written-solid (x ∷ i) true e t g = identifier-solid ((x ∷ i) ++ t) (length i) (whole_takes identifier_token (Ends identifier_token) identifier-local (x ∷ i) e t (identifier-delimited t g))
written-solid i false e t g = solid (λ b. eqb b 34) refl (quote i ++ t) (unfold starts quote in refl)

pub identifier-reads : (i : List ℕ) → is_text i ≡ true → Reads identifier (piece (identified i)) i Delimited
unfolding identifier piece
identifier-reads i e =
    bind-reads skip _ (32 ∷ []) (written i) tt i (Ends space) Delimited blank-reads
    (last-reads (text identifier_value) _ (written i) (written i) i Delimited
    (weaker-reads (text identifier_value) (written i) (written i) (Ends identifier_token) Delimited identifier-delimited
    (value-reads identifier_token (Ends identifier_token) identifier-local identifier-shut i e))
    (none_reads (ahead (in_class class.Delimiter)) _ [] tt i Delimited Delimited (ahead-reads (in_class class.Delimiter))
    (rw (value-text identifier_token (Ends identifier_token) identifier-local identifier-shut i e) (give-reads i Delimited)) (λ t g. g)))
    (written-solid i (whole identifier_token i) refl)

abbrev head_is : List ℕ → Head
head_is i = record { identifier = i; version = bytes "1" }

pub head-reads : (i : List ℕ) → is_text i ≡ true → Reads head (piece (identified i)) (head_is i) Stop
unfolding head header_version
head-reads i e =
    last-reads identifier _ (piece (identified i)) i (head_is i) Stop (weaker-reads identifier (piece (identified i)) i Delimited Stop stop-delimited (identifier-reads i e))
    (none_reads (optional stated) _ [] none (head_is i) Stop Stop (absent-reads stated Stop (λ t g. closed-stated t (stop-closed t g))) (give-reads (head_is i) Stop) (λ t g. g))

-- a body is its head and what follows
pub reading-written : (i t : List ℕ) → is_text i ≡ true → Stop t → reading (piece (identified i) ++ t) ≡ payload i t
reading-written i t e g =
    let b = piece (identified i) ++ t in
    let d : drop (length (piece (identified i))) b ≡ t = drop-append_seam (piece (identified i)) t in
    reading-is b (head_is i) (length (piece (identified i))) (head-reads i e t g) ∙ rw d (headed-is (head_is i) t (stop-delimited t g) first_one)

-- ==== the word none

pub none_written : (i : List ℕ) → is_text i ≡ true → reading (piece (identified i) ++ piece unstated) ≡ no_result i
unfolding piece
none_written i e = reading-written i (bytes "; none") e (unfold follows in refl) ∙ (unfold body.opened in refl)

-- ==== results

resinfo-reads : (r : Result) → Stated r → Reads resinfo (result_pieces r) r Stop
unfolding resinfo
resinfo-reads r s =
    none_reads skip _ (result_pieces r) tt r (Ends space) Stop (skip-reads space) (result-reads r s) (λ t g. stop-solid (result_pieces r ++ t) (result-front r t))

-- the end
abbrev Over : List ℕ → Type 0
Over t = t ≡ []

over-stop : (t : List ℕ) → Over t → Stop t
unfolding follows
over-stop t e = rw e

over-resinfo : (t : List ℕ) → Over t → resinfo t ≡ nothing
over-resinfo t e = rw e (over_none [] (unfold resinfo.opened in refl))

pub resinfos-reads : (rs : List Result) → Each Stated rs → Reads resinfos (joined result_pieces rs) rs Over
unfolding resinfos
resinfos-reads rs h =
    last-reads (several resinfo 0) _ (joined result_pieces rs) rs rs Over
    (several-reads resinfo result_pieces Stated Stop Over resinfo-reads (λ r s t. result-front r t) (λ r s. result-long r) (λ t e. (over-stop t e, over-resinfo t e)) rs h)
    (none_reads skip _ [] tt rs Over Over (weaker-reads skip [] tt (Ends space) Over (λ t e. stop-solid t (over-stop t e)) (skip-reads space))
    (none_reads end _ [] tt rs Over Over (λ t e. rw e end_is) (give-reads rs Over) (λ t e. e)) (λ t e. e))

pub results-written : (i : List ℕ) (r : Result) (rs : List Result) → is_text i ≡ true → Each Stated (r ∷ rs) → reading (piece (identified i) ++ joined result_pieces (r ∷ rs)) ≡ results i (r ∷ rs)
results-written i r rs e h =
    let xs = joined result_pieces (r ∷ rs) in
    let q : resinfos xs ≡ got (r ∷ rs) (length xs) = rw (append-nil xs) at (resinfos-reads (r ∷ rs) h [] refl) in
    let g : Stop xs = result-front r (joined result_pieces rs) in
    reading-written i xs e g ∙ payload-is i xs r rs (length xs) q

-- ==== what is read can stand

pub identifier-finds : Finds identifier Texted
unfolding identifier
identifier-finds =
    behind-finds skip _ Texted texted-behind
    (λ a. bind-finds (text identifier_value) _ (λ v u. (v ≡ u) × Texted (value_text v) u) Texted
    (value-finds identifier_token identifier-text (Ends identifier_token) identifier-local identifier-fits identifier-end)
    (λ v u i. bind-finds (ahead (in_class class.Delimiter)) _ (λ b w. w ≡ []) (λ t w. Texted t (u ++ w)) (ahead-finds (in_class class.Delimiter))
    (λ b w j xs t n e. let g = give-finds (value_text v) xs t n e in rw (← g.0, g.1, j, append-nil u) i.1)))

abbrev versioned : List ℕ → Option (List ℕ) → Head
versioned i v = record { identifier = i; version = header_version v }

abbrev Identified : Head → List ℕ → Type 0
Identified h u = Texted h.identifier u

head-finds : Finds head Identified
unfolding head
head-finds =
    bind-finds identifier _ Texted Identified identifier-finds
    (λ i u j. bind-finds (optional stated) _ (λ a w. Unit) (λ (h : Head) w. Identified h (u ++ w)) (any-finds (optional stated))
    (λ v w k xs h n e. rw (← (give-finds (versioned i v) xs h n e).0) (longer u (w ++ take n xs) i j)))
  where
    longer : (u w t : List ℕ) → Texted t u → Texted t (u ++ w)
    longer u w t h = (h.0, λ b. h.1 (each_left (λ b. ltb b 256) u w b))

resinfos-finds : Finds resinfos (λ rs u. Bytes u → Each (λ r. Byted r.reason × Each Named r.properties) rs)
unfolding resinfos resinfo
resinfos-finds =
    bind-finds (several resinfo 0) _ Results Results
    (several-finds resinfo resinfo-within Resulted Results (behind-finds skip _ Resulted (λ u w r h b. h (each_right (λ b. ltb b 256) u w b)) (λ a. result-finds)) (λ b. tt)
    (λ r u rs v h k b. (h (each_left (λ b. ltb b 256) u v b), k (each_right (λ b. ltb b 256) u v b))))
    (λ rs u i. bind-finds skip _ (λ a w. Unit) (λ a w. Results a (u ++ w)) (any-finds skip)
    (λ a w j. bind-finds end _ (λ a w. Unit) (λ a x. Results a (u ++ (w ++ x))) (any-finds end)
    (λ a x k xs ss n e. rw (← (give-finds rs xs ss n e).0) (λ b. i (each_left (λ b. ltb b 256) u (w ++ (x ++ take n xs)) b)))))
  where
    Results : List Result → List ℕ → Type 0
    Results rs u = Bytes u → Each (λ r. Byted r.reason × Each Named r.properties) rs

-- what is known of a body of bytes that is well-formed
pub data Said (b : List ℕ) : Type 0 where
  said_none : (i : List ℕ) → reading b ≡ no_result i → is_text i ≡ true → Bytes i → Said b
  said_results : (i : List ℕ) (r : Result) (rs : List Result) → reading b ≡ results i (r ∷ rs) → is_text i ≡ true → Bytes i
      → Each (λ r. Byted r.reason × Each Named r.properties) (r ∷ rs) → Said b

bytes_take : (n : ℕ) (xs : List ℕ) → Bytes xs → Bytes (take n xs)
bytes_take n xs b = each_take (λ b. ltb b 256) n xs b

no-results : (i xs : List ℕ) (n : ℕ) → resinfos xs ≡ got [] n → payload i xs ≡ malformed
unfolding payload
no-results i xs n e = rw (payload, e)

pub said : (b : List ℕ) → WellFormed b → Bytes b → Said b
said b w h =
    let v = well-formed-inv b w in
    let t = head-finds b v.heads v.size v.reads in
    go v t.0 (t.1 (bytes_take v.size b h)) (payload-cases v.heads.identifier (drop v.size b))
  where
    go : (v : Sound b) → is_text v.heads.identifier ≡ true → Bytes v.heads.identifier → Payload v.heads.identifier (drop v.size b) → Said b
    go v t y (neither e) = absurd (no_true (rw (v.says, e) at w))
    go v t y (word n e f) = said_none v.heads.identifier (v.says ∙ f) t y
    go v t y (some rs n e f) = rest rs e (v.says ∙ f) (resinfos-finds xs rs n e (bytes_take n xs (each-drop (λ b. ltb b 256) v.size b h)))
      where
        xs : List ℕ
        xs = drop v.size b

        rest : (rs : List Result) → resinfos xs ≡ got rs n → reading b ≡ results v.heads.identifier rs → Each (λ r. Byted r.reason × Each Named r.properties) rs → Said b
        rest [] e q g = absurd (no_true (rw (v.says, no-results v.heads.identifier xs n e) at w))
        rest (r ∷ rs) e q g = said_results v.heads.identifier r rs q t y g
