-- Whose an identifier is, by a list's entries and by its lines as they are compared, at worked examples, computed.
use Prim.Native.Nat.{ℕ}
use mathlib.Core.Path.{◌≡◌, refl}
use mathlib.Core.Bool.{true, false}
use mathlib.Core.List.{List, [], ◌∷◌, ◌++◌, map}
use Rattle.base_readers.specs.Texts.{bytes}
use Rattle.base_readers.specs.Parsers.{nothing, got}
use Rattle.base_readers.proofs.Cases.{case, Says, copies}
use Rattle.ownlist_rules.specs.declared.Own.TheVariants.{Ours, Others, Unreadable}
use Rattle.identifier_rules.specs.Identifier.{identifier}
use Rattle.ownlist_rules.specs.OwnList.{own_list}
use Rattle.ownlist_rules.specs.Listed.{among, own_of}
use Rattle.base_readers.specs.Lines.{lines_of}
use Rattle.ownlist_rules.specs.Spelled.{spelled_list, among_lines, among_spelled, own_of_spelled}
use Rattle.ownlist_rules.specs.Ends.{ends_from, ends_of, cut_at}
use Rattle.ownlist_rules.proofs.Unfolding.{opened}

abbrev umlaut : List ℕ
umlaut = bytes "b" ++ (0xC3 ∷ 0xBC ∷ bytes "cher")

-- 01, Stripping: an identifier equals a list entry, wherever that stands
amongs :
    Says (among (bytes "A.example" ∷ bytes "xn--bcher-kva" ∷ bytes "c" ∷ []))
    (case (bytes "a.EXAMPLE") true
    ∷ case umlaut true
    ∷ case (bytes "C") true
    ∷ case (bytes "a") false
    ∷ case (bytes "a.example.c") false
    ∷ case [] false
    ∷ [])
unfolding opened
amongs = refl

among_none : Says (among []) (case (bytes "a") false ∷ case [] false ∷ [])
unfolding opened
among_none = refl

-- whose an identifier is; an unreadable one is nobody's
owners : map (own_of (bytes "a" ∷ bytes "b" ∷ [])) (got (bytes "A") 1 ∷ got (bytes "b") 7 ∷ got (bytes "c") 1 ∷ nothing ∷ []) ≡ Ours ∷ Ours ∷ Others ∷ Unreadable ∷ []
unfolding opened
owners = refl

-- ==== by lines

-- the entries as they are compared: U-labels, and case as it is
spelled_lists : spelled_list (bytes "XN--bcher-kva.Example" ∷ bytes "b" ∷ []) ≡ umlaut ++ bytes ".Example\nb\n"
unfolding opened
spelled_lists = refl

-- where lines end: at their LF, or at the end of the bytes
ends :
    Says ends_of
    (case [] []
    ∷ case (bytes "a\nbc\n") (1 ∷ 4 ∷ [])
    ∷ case (bytes "a\nbc") (1 ∷ 4 ∷ [])
    ∷ case (bytes "\n\na") (0 ∷ 1 ∷ 3 ∷ [])
    ∷ [])
unfolding opened ends_from
ends = refl

-- bytes cut at such places, and at any places
cuts :
    Says (cut_at (bytes "ab\ncd") 0)
    (case (2 ∷ 5 ∷ []) (bytes "ab" ∷ bytes "cd" ∷ []) ∷ case (1 ∷ 1 ∷ 9 ∷ 12 ∷ []) (bytes "a" ∷ [] ∷ bytes "\ncd" ∷ [] ∷ []) ∷ case [] [] ∷ [])
unfolding opened cut_at
cuts = refl

-- a text equals a line but for ASCII case; a line is not decoded
among_lineses :
    Says (among_lines (bytes "A" ∷ bytes "xn--bcher-kva" ∷ bytes "c" ∷ []))
    (case (bytes "a") true ∷ case (bytes "C") true ∷ case (bytes "XN--BCHER-KVA") true ∷ case umlaut false ∷ case (bytes "ac") false ∷ case [] false ∷ [])
unfolding opened
among_lineses = refl

-- the spelling of an identifier is what is compared
among_spelleds :
    Says (among_spelled (umlaut ∷ bytes "xn--bcher-kva" ∷ [])) (case umlaut true ∷ case (bytes "Xn--bcher-kva") true ∷ case (bytes "bcher-kva") false ∷ [])
unfolding opened
among_spelleds = refl

-- no entry has a spelling of more than 1,020 bytes: a longer one equals no line, whatever the lines are
long_spellings : map (λ (n : ℕ). among_spelled (copies n 97 ∷ []) (copies n 97)) (1020 ∷ 1021 ∷ []) ≡ true ∷ false ∷ []
unfolding opened
long_spellings = refl

line_owners : map (own_of_spelled (bytes "a" ∷ bytes "b" ∷ [])) (got (bytes "A") 1 ∷ got (bytes "b") 7 ∷ got (bytes "c") 1 ∷ nothing ∷ []) ≡ Ours ∷ Ours ∷ Others ∷ Unreadable ∷ []
unfolding opened
line_owners = refl

-- whose an identifier is, in both spellings on both sides
both_spellings :
    map (λ (list : List ℕ). own_of (own_list list).items (identifier (bytes "\"xn--bcher-kva\"; none")))
    ((umlaut ++ bytes "\n") ∷ bytes "a\nXN--BCHER-KVA\n" ∷ bytes "bcher-kva\n" ∷ (bytes "a\n" ++ (195 ∷ bytes "\nxn--bcher-kva\n")) ∷ [])
    ≡ Ours ∷ Ours ∷ Others ∷ Others ∷ []
unfolding opened
both_spellings = refl

-- by the lines as they are compared: the last one may lack its LF
both_lines :
    map (λ (own : List ℕ). own_of_spelled (lines_of own) (identifier (bytes "xn--bcher-kva; none")))
    ((umlaut ++ bytes "\n") ∷ (bytes "a\n\n" ++ umlaut) ∷ bytes "xn--bcher-kva\n" ∷ [] ∷ [])
    ≡ Ours ∷ Ours ∷ Others ∷ Others ∷ []
unfolding opened
both_lines = refl
