-- Numbers, the lines of fields and those of their identifiers at worked examples, computed.
use Prim.Native.Nat.{ℕ}
use mathlib.Core.Path.{◌≡◌, refl}
use mathlib.Core.List.{List, [], ◌∷◌, map}
use Rattle.base_readers.specs.Texts.{bytes}
use Rattle.base_readers.specs.Parsers.{nothing, got}
use Rattle.ownlist_rules.specs.declared.Own.TheVariants.{Ours, Others, Unreadable}
use Rattle.text_decimals_rules.specs.Decimals.{decimal}
use Rattle.blockreport_rules.specs.declared.Detail.{Detail}
use Rattle.blockreport_rules.specs.declared.Detail.TheVariants.{Reported, Identified}
use Rattle.blockreport_rules.specs.FieldLines.{field_line, identifier_line}
use Rattle.blockreport_rules.specs.BlockReport.{detail_line}
use Rattle.blockreport_rules.proofs.Unfolding.{opened}

-- "0" for 0, and else no zero in front
one-digit : map decimal (0 ∷ 1 ∷ 7 ∷ 9 ∷ []) ≡ bytes "0" ∷ bytes "1" ∷ bytes "7" ∷ bytes "9" ∷ []
unfolding opened
one-digit = refl

more-digits :
    map decimal (10 ∷ 11 ∷ 20 ∷ 99 ∷ 100 ∷ 109 ∷ 512 ∷ 1000 ∷ 65536 ∷ [])
    ≡ bytes "10" ∷ bytes "11" ∷ bytes "20" ∷ bytes "99" ∷ bytes "100" ∷ bytes "109" ∷ bytes "512" ∷ bytes "1000" ∷ bytes "65536" ∷ []
unfolding opened
more-digits = refl

-- five columns parted by tabs, ended by LF
ours : field_line 1 Ours 0 0 ≡ bytes "field\t1\town\t0\t0\n"
unfolding opened
ours = refl

others : field_line 512 Others 8 0 ≡ bytes "field\t512\tother\t8\t0\n"
unfolding opened
others = refl

unreadable : field_line 30 Unreadable 7 0 ≡ bytes "field\t30\tunreadable\t7\t0\n"
unfolding opened
unreadable = refl

ignored : field_line 2 Others 0 21845 ≡ bytes "field\t2\tother\t0\t21845\n"
unfolding opened
ignored = refl

-- the text of an identifier that was read, escaped; no line where none was
identifiers :
    map identifier_line (got (bytes "a") 1 ∷ got (bytes "b %\t") 6 ∷ got [] 2 ∷ nothing ∷ [])
    ≡ bytes "id\ta\n" ∷ bytes "id\tb%20%25%09\n" ∷ bytes "id\t\n" ∷ [] ∷ []
unfolding opened
identifiers = refl

-- where it is asked for, at 9 and at no other number
abbrev at-numbers : Detail → List (List ℕ)
at-numbers detail = map (λ (number : ℕ). detail_line detail number (got (bytes "a") 1)) (0 ∷ 1 ∷ 6 ∷ 7 ∷ 8 ∷ 9 ∷ 10 ∷ [])

with-reported : at-numbers Reported ≡ [] ∷ [] ∷ [] ∷ [] ∷ [] ∷ [] ∷ [] ∷ []
unfolding opened
with-reported = refl

with-identified : at-numbers Identified ≡ [] ∷ [] ∷ [] ∷ [] ∷ [] ∷ bytes "id\ta\n" ∷ [] ∷ []
unfolding opened
with-identified = refl

unread : detail_line Identified 9 nothing ≡ []
unfolding opened
unread = refl
