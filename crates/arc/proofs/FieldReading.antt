-- What the code reads of a field is what the field says.
use Prim.Native.Nat.{ℕ, ◌≤◌}
use mathlib.Core.Path.{◌≡◌, refl, sym, ap, ◌∙◌}
use mathlib.Core.Bool.{Bool, true, false}
use mathlib.Core.List.{List}
use mathlib.Core.Option.{Option, none, some}
use Rattle.std.specs.Prelude as std
use Rattle.std.specs.Prelude.{Some, None}
use lib.ListN.{length}
use Rattle.base_readers.specs.Texts.{bytes}
use Rattle.base_readers.specs.Parsers.{Got, nothing, got, Parser, after, ◌>>=◌, ◌>>◌, give, when}
use Rattle.base_readers.specs.Places.{from}
use Rattle.base_readers.proofs.Sequencing.{after-zero}
use Rattle.base_readers.proofs.Places.{goes_on, stops, gives, passes, fails}
use Rattle.lexis_rules.specs.Limits.{byte_limit}
use Rattle.arc_rules.specs.declared.Kind.{Kind}
use Rattle.arc_rules.specs.declared.Kind.TheVariants.{Results, Signature, Seal, Other}
use Rattle.arc_fields.specs.declared.Start.{Start}
use Rattle.tag_rules.specs.Tags.{Tag, tags, value_named}
use Rattle.tag_rules.specs.Needed.{chain_value, is_signature, is_seal}
use Rattle.arc_rules.specs.Sets.{instance, Said, says}
use Rattle.arc_fields.specs.Answers.{start_got}
use Rattle.tag_content.specs.Lists.{list_test, list_said, listed_at}
use Rattle.tag_content.proofs.TagLists.{list-within}
use Rattle.tag_list.specs.Lists.{listed_said}
use Rattle.arc.specs.Internal.{said_of}

-- ==== what a field says

-- what was got, without its end
abbrev said : {A : Type 0} → Got A → Option A
said nothing = none
said (got a n) = some a

said-after : {A : Type 0} (k : ℕ) (g : Got A) → said (after k g) ≡ said g
unfolding after
said-after k nothing = refl
said-after k (got a n) = refl

-- a list's chain value with the instance before it
abbrev pub entry : ℕ → Option ℕ → Option Said
entry i none = none
entry i (some c) = some (record { instance = i; cv = c })

-- what a list has to pass, and what it gives
abbrev test : Bool → List Tag → Bool
test true ts = is_seal ts
test false ts = is_signature ts

abbrev value : Bool → List Tag → ℕ
value true ts = chain_value (value_named (bytes "cv") ts)
value false ts = 0

test-yes : (seal : Bool) (ts : List Tag) → test seal ts ≡ true → list_test seal ts ≡ some (value seal ts)
test-yes true ts e = rw (list_test, e)
test-yes false ts e = rw (list_test, e)

test-no : (seal : Bool) (ts : List Tag) → test seal ts ≡ false → list_test seal ts ≡ none
test-no true ts e = rw (list_test, e)
test-no false ts e = rw (list_test, e)

-- the list behind an instance
abbrev listing : Bool → ℕ → Parser Said
listing seal i = ◌>>=◌ tags (λ ts. ◌>>◌ (when (test seal ts)) (give (record { instance = i; cv = value seal ts })))

listing-said : (seal : Bool) (i : ℕ) (s : List ℕ) (e : ℕ) → entry i (list_said seal s e) ≡ said (from (listing seal i) s e)
unfolding list_said
listing-said seal i s e = go (from tags s e) refl
  where
    passed : (ts : List Tag) (n : ℕ) → got ts n ≡ from tags s e → (b : Bool) → test seal ts ≡ b → entry i (list_test seal ts) ≡ said (from (listing seal i) s e)
    passed ts n h true k =
        let x : Said = record { instance = i; cv = value seal ts } in
        ap (entry i) (test-yes seal ts k) ∙ ap said (goes_on tags _ s e ts n (got x n) h (goes_on (when (test seal ts)) _ s n tt n (got x n) (passes (test seal ts) s n k) (gives x s n)))
    passed ts n h false k =
        ap (entry i) (test-no seal ts k) ∙ ap said (goes_on tags _ s e ts n nothing h (stops (when (test seal ts)) _ s n (fails (test seal ts) s n k)))

    go : (g : Got (List Tag)) → from tags s e ≡ g → entry i (elim g [ nothing ↦ none | got ts n ↦ list_test seal ts ]) ≡ said (from (listing seal i) s e)
    go nothing h = ap said (stops tags _ s e (sym h))
    go (got ts n) h = passed ts n (sym h) (test seal ts) refl

said-of : (k : Kind) (body : List ℕ) → said (from (says k) body 0) ≡ said_of k body
unfolding said_of from
said-of k body = ap said (after-zero (says k body)) ∙ go (says k body)
  where
    go : (g : Got Said) → said g ≡ (elim g [ nothing ↦ none | got x n ↦ some x ])
    go nothing = refl
    go (got x n) = refl

-- a field of another name says nothing
pub field-other : (k : Kind) → k ≡ Other → (body : List ℕ) → none ≡ said_of k body
unfolding said_of says
field-other k q body = rw q refl

-- by the answers of the code
module _ (body : List ℕ) (x : std.Option Start) (w : start_got x ≡ instance body) where
  front : start_got x ≡ from instance body 0
  unfolding from
  front = w ∙ sym (after-zero (instance body))

  module _ (y : Start) (h : x ≡ Some y) (k : Kind) where
    found : got y.instance y.end ≡ from instance body 0
    found = ap start_got (sym h) ∙ front

    pub field-results : k ≡ Results → some (record { instance = y.instance; cv = 0 }) ≡ said_of k body
    unfolding says
    field-results q = rw q (ap said (goes_on instance _ body 0 y.instance y.end _ found (gives (record { instance = y.instance; cv = 0 }) body y.end)) ∙ said-of Results body)

    module _ (short : length body ≤ byte_limit) (l : std.Option ℕ) where
      heard : (seal : Bool) → listed_said l ≡ listed_at seal body y.end → entry y.instance (listed_said l) ≡ said (from (listing seal y.instance) body y.end)
      heard seal p = ap (entry y.instance) (p ∙ list-within seal body y.end short) ∙ listing-said seal y.instance body y.end

      pub field-signature : listed_said l ≡ listed_at false body y.end → k ≡ Signature → entry y.instance (listed_said l) ≡ said_of k body
      unfolding says
      field-signature p q = rw q (heard false p ∙ (ap said (goes_on instance (λ i. listing false i) body 0 y.instance y.end _ found refl) ∙ said-of Signature body))

      pub field-seal : listed_said l ≡ listed_at true body y.end → k ≡ Seal → entry y.instance (listed_said l) ≡ said_of k body
      unfolding says
      field-seal p q = rw q (heard true p ∙ (ap said (goes_on instance (λ i. listing true i) body 0 y.instance y.end _ found refl) ∙ said-of Seal body))

  -- without an instance nothing is said
  pub field-missing : x ≡ None → (k : Kind) → none ≡ said_of k body
  unfolding says
  field-missing h k = go k
    where
      stopped : {A : Type 0} (f : ℕ → Parser A) → none ≡ said (from (◌>>=◌ instance f) body 0)
      stopped f = ap said (stops instance f body 0 (ap start_got (sym h) ∙ front))

      go : (k : Kind) → none ≡ said_of k body
      go Results = stopped _ ∙ said-of Results body
      go Signature = stopped _ ∙ said-of Signature body
      go Seal = stopped _ ∙ said-of Seal body
      go Other = field-other Other refl body
