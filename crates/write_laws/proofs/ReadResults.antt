-- Results that are read: their texts are of bytes and can stand, part by part along the grammar of a result.
use Prim.Native.Nat.{ℕ}
use mathlib.Core.Path.{◌≡◌, refl}
use mathlib.Core.Bool.{true}
use mathlib.Core.List.{List, ◌++◌, append-nil}
use mathlib.Core.Option.{Option, none, some}
use lib.Dec.{ltb}
use lib.ListN.{take}
use Rattle.base_readers.specs.Texts.{bytes}
use Rattle.base_readers.specs.Readers.{run, choose}
use Rattle.base_readers.specs.Parsers.{Parser, ◌>>=◌, ◌>>◌, give, byte, text, optional, several}
use Rattle.base_readers.specs.Locality.{Ends}
use Rattle.base_readers.proofs.Readers.{run_fits}
use Rattle.lexis_rules.specs.declared.Class.TheVariants as class
use Rattle.lexis_rules.specs.Bytes.{in_class}
use Rattle.lexis_rules.specs.Pieces.{token, quoted}
use Rattle.lexis_rules.specs.Words.{value_text, skip, gap, read_value, read_keyword, read_word}
use Rattle.lexis_laws.proofs.Locality.{token-local}
use Rattle.result_rules.specs.Results.{Value, Property, Methodspec, Result, separator, property_value, methodspec, reason, property, result}
use Rattle.result_laws.proofs.Results.{property-within}
use Rattle.write_rules.specs.Entries.{is_text, is_keyword, stands}
use Rattle.write_rules.specs.Promise.{Bytes}
use Rattle.write_laws.proofs.Readback.{Each}
use Rattle.write_laws.proofs.Finds.{Finds, weaker-finds, bind-finds, give-finds, any-finds, Maybe, optional-finds, several-finds}
use Rattle.write_laws.proofs.Quotes.{each_left, each_right, Texted, value-finds}
use Rattle.write_laws.proofs.Values.{Standing, token-text, property-value-finds}
use Rattle.write_laws.proofs.Keywords.{keyword-finds}
use Rattle.write_laws.proofs.Results.{result_is}

-- what holds of a value that a later part gives
pub behind-finds : {A B : Type 0} (p : Parser A) (q : A → Parser B) (R : B → List ℕ → Type 0) → ((u w : List ℕ) (b : B) → R b w → R b (u ++ w))
    → ((a : A) → Finds (q a) R) → Finds (◌>>=◌ p q) R
behind-finds p q R I Q = bind-finds p q (λ a u. Unit) R (any-finds p) (λ a u i xs b n e. I u (take n xs) b (Q a xs b n e))

bytes-behind : (u w : List ℕ) → Bytes (u ++ w) → Bytes w
bytes-behind u w b = each_right (λ b. ltb b 256) u w b

pub texted-behind : (u w t : List ℕ) → Texted t w → Texted t (u ++ w)
texted-behind u w t h = (h.0, λ b. h.1 (bytes-behind u w b))

pub read-value-finds : Finds read_value Texted
unfolding read_value
read-value-finds =
    bind-finds (text (choose 34 quoted token)) _ (λ v u. (v ≡ u) × Texted (value_text v) u) Texted
    (value-finds token token-text (Ends token) token-local (run_fits (in_class class.Token)) (unfold run in refl))
    (λ v u i xs b n e. let g = give-finds (value_text v) xs b n e in rw (← g.0, g.1, append-nil u) i.1)

pub reason-finds : Finds reason Texted
unfolding reason
reason-finds =
    behind-finds gap _ Texted texted-behind (λ a. behind-finds (read_word (bytes "reason")) _ Texted texted-behind
    (λ a. behind-finds (separator 61) _ Texted texted-behind (λ a. read-value-finds)))

-- a property that was read
abbrev pub Propertied : Property → List ℕ → Type 0
Propertied p u = (is_keyword p.property ≡ true) × Standing p.value u

propertied-behind : (u w : List ℕ) (p : Property) → Propertied p w → Propertied p (u ++ w)
propertied-behind u w p h = (h.0, (h.1.0, λ b. h.1.1 (bytes-behind u w b)))

abbrev property_is : List ℕ → List ℕ → Value → Property
property_is t n v = record { ptype = t; property = n; value = v }

-- from "=" on
abbrev valued_reader : List ℕ → List ℕ → Parser Property
valued_reader t n = ◌>>◌ (separator 61) (◌>>=◌ property_value (λ v. give (property_is t n v)))

valued-finds : (t n : List ℕ) → is_keyword n ≡ true → Finds (valued_reader t n) Propertied
valued-finds t n i =
    behind-finds (separator 61) _ Propertied propertied-behind
    (λ a. bind-finds property_value _ Standing Propertied property-value-finds
    (λ v w j xs p m e. let g = give-finds (property_is t n v) xs p m e in rw (← g.0, g.1, append-nil w) (i, j)))

pub property-finds : Finds property Propertied
unfolding property
property-finds =
    behind-finds gap _ Propertied propertied-behind
    (λ a. behind-finds read_keyword _ Propertied propertied-behind
    (λ t. behind-finds (separator 46) _ Propertied propertied-behind
    (λ a. bind-finds read_keyword (valued_reader t) (λ k u. is_keyword k ≡ true) Propertied keyword-finds
    (λ n u i xs p m e. propertied-behind u (take m xs) p (valued-finds t n i xs p m e)))))

-- the texts of a result are of bytes and can stand
abbrev pub Byted : Option (List ℕ) → Type 0
Byted none = Unit
Byted (some t) = (is_text t ≡ true) × Bytes t

abbrev pub Named : Property → Type 0
Named p = (is_keyword p.property ≡ true) × (stands p.value.kind p.value.text ≡ true) × Bytes p.value.text

-- a result that was read of bytes
abbrev pub Resulted : Result → List ℕ → Type 0
Resulted r u = Bytes u → Byted r.reason × Each Named r.properties

resulted-behind : (u w : List ℕ) (r : Result) → Resulted r w → Resulted r (u ++ w)
resulted-behind u w r h b = h (bytes-behind u w b)

properties-finds : Finds (several property 0) (λ ps u. Bytes u → Each Named ps)
properties-finds =
    several-finds property property-within Propertied (λ ps u. Bytes u → Each Named ps) property-finds (λ b. tt)
    (λ p u ps v h k b. ((h.0, h.1.0, h.1.1 (each_left (λ b. ltb b 256) u v b)), k (bytes-behind u v b)))

reasons-finds : Finds (optional reason) (λ r u. Bytes u → Byted r)
reasons-finds =
    weaker-finds (optional reason) (Maybe Texted) (λ r u. Bytes u → Byted r) byted (optional-finds reason Texted reason-finds)
  where
    byted : (r : Option (List ℕ)) (u : List ℕ) → Maybe Texted r u → Bytes u → Byted r
    byted none u h b = tt
    byted (some t) u h b = (h.0, h.1 b)

behind-method : (m : Methodspec) → Finds (◌>>=◌ (optional reason) (λ r. ◌>>=◌ (several property 0) (λ ps. give (result_is m r ps)))) Resulted
behind-method m =
    bind-finds (optional reason) _ (λ r u. Bytes u → Byted r) Resulted reasons-finds
    (λ r u i. bind-finds (several property 0) _ (λ ps u. Bytes u → Each Named ps) (λ a w. Resulted a (u ++ w)) properties-finds
    (λ ps w j xs a n e. let g = give-finds (result_is m r ps) xs a n e in rw (← g.0, g.1, append-nil w) (λ b. (i (each_left (λ b. ltb b 256) u w b), j (bytes-behind u w b)))))

pub result-finds : Finds result Resulted
unfolding result
result-finds =
    behind-finds (byte 59) _ Resulted resulted-behind
    (λ a. behind-finds skip _ Resulted resulted-behind (λ a. behind-finds methodspec _ Resulted resulted-behind behind-method))
