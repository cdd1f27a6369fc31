-- What each subcommand makes, at worked examples, by computing it: an output with room to spare, a refusal, and a buffer that is too short.
use Prim.Native.Nat.{ℕ}
use mathlib.Core.Path.{◌≡◌, refl}
use mathlib.Core.Bool.{true, false}
use mathlib.Core.List.{List, [], ◌∷◌, ◌++◌, map}
use Rattle.base_readers.specs.Texts.{bytes}
use Rattle.base_readers.proofs.Cases.{copies}
use Rattle.command_rules.specs.declared.Ending.{Ending}
use Rattle.command_rules.specs.declared.Ending.TheVariants.{Done, OutputTooLong, Unwritten, VerdictsRefused, Refused, LinesRefused}
use Rattle.command_output_rules.specs.Outputs.{Output, stripped_block, reported_block, explained_block, checked_list, judged_block, written_body, ending_after}
use Rattle.command_output_rules.proofs.Unfolding.{opened}

-- a buffer of so many dots
abbrev dots : ℕ → List ℕ
dots n = copies n 46

-- this text, and then so many dots
abbrev gives : List ℕ → ℕ → ℕ → Output
gives text size rest = record { made = record { ending = Done; written = size }; left = text ++ dots rest }

-- a buffer of so many dots as it was
abbrev refuses : Ending → ℕ → Output
refuses ending room = record { made = record { ending = ending; written = 0 }; left = dots room }

-- as much as fits
abbrev cuts : List ℕ → Output
cuts text = record { made = record { ending = OutputTooLong; written = 0 }; left = text }

abbrev block : List ℕ
block = bytes "Authentication-Results: a; none\r\nTo: b\r\n"

-- ==== stripping

-- what is kept stands in front; a room of just as many bytes; of one less
stripped : map (stripped_block block (bytes "a\n")) (dots 10 ∷ dots 7 ∷ dots 6 ∷ []) ≡ gives (bytes "To: b\r\n") 7 3 ∷ gives (bytes "To: b\r\n") 7 0 ∷ refuses (Refused 6 7) 6 ∷ []
unfolding opened
stripped = refl

-- by another list all is kept; a bad list; a block that is none
strip-others : map (λ (list : List ℕ). stripped_block (bytes "To: b\r\nCc\r\n") list (dots 4)) (bytes "a\n" ∷ bytes "a\n\n" ∷ []) ≡ refuses (Refused 3 7) 4 ∷ refuses (Refused 5 2) 4 ∷ []
unfolding opened
strip-others = refl

strip-kept : stripped_block block (bytes "b\n") (dots 41) ≡ gives block 40 1
unfolding opened
strip-kept = refl

-- ==== reporting

abbrev lines : List ℕ
lines = bytes "field\t1\town\t0\t0\nid\ta\nnone\n"

reported : map (reported_block block (bytes "a\n")) (dots 28 ∷ dots 26 ∷ dots 25 ∷ []) ≡ gives lines 26 2 ∷ gives lines 26 0 ∷ refuses (Refused 6 26) 25 ∷ []
unfolding opened
reported = refl

-- a field that is not well-formed is told without its identifier
report-malformed : reported_block (bytes "Authentication-Results: b; spf\r\n") (bytes "a\n") (dots 20) ≡ gives (bytes "field\t1\tother\t9\t0\n") 18 2
unfolding opened
report-malformed = refl

report-refused : reported_block block (bytes "\n") (dots 2) ≡ refuses (Refused 5 0) 2
unfolding opened
report-refused = refl

-- ==== in words

explained-block : explained_block block (bytes "a\n") (dots 134) ≡ gives (bytes "Field 1: in our own name: strip removes it; what it says is only claimed\n  says it was checked by a\n  says that nothing was checked\n") 132 2
unfolding opened
explained-block = refl

-- a field that is not well-formed is told with its identifier; a room of just as many bytes
explain-malformed : explained_block (bytes "Authentication-Results: b; spf\r\n") (bytes "a\n") (dots 114) ≡ gives (bytes "Field 1: another's word: strip keeps it; not well-formed: none of its results is shown\n  says it was checked by b\n") 114 0
unfolding opened
explain-malformed = refl

explain-refused : explained_block (bytes "To") (bytes "a\n") (dots 5) ≡ refuses (Refused 2 2) 5
unfolding opened
explain-refused = refl

explain-short : explained_block (bytes "To: b\r\n") (bytes "a\n") (dots 12) ≡ cuts (bytes "There is no ")
unfolding opened
explain-short = refl

-- ==== our own list

checked : map (checked_list (bytes "a\n")) (dots 26 ∷ dots 25 ∷ dots 24 ∷ []) ≡ gives (bytes "entry 1 is compared as a\n") 25 1 ∷ gives (bytes "entry 1 is compared as a\n") 25 0 ∷ cuts (bytes "entry 1 is compared as a") ∷ []
unfolding opened
checked = refl

check-refused : checked_list (bytes "a\nb") (dots 5) ≡ refuses (Refused 5 2) 5
unfolding opened
check-refused = refl

-- ==== a chain

judged-block : judged_block (bytes "To: b\r\n") (bytes "3") (dots 50) ≡ gives (bytes "chain\tnone\t-\t0\t0\tnone\t-\nThere is no ARC field.\n") 47 3
unfolding opened
judged-block = refl

judge-short : judged_block (bytes "To: b\r\n") (bytes "3") (dots 5) ≡ cuts (bytes "chain")
unfolding opened
judge-short = refl

judge-refused : judged_block (bytes "To: b\r\nCc\r\n") (bytes "3") (dots 5) ≡ refuses (Refused 3 7) 5
unfolding opened
judge-refused = refl

-- bad verdicts are told by the sets that the chain has
one_set : List ℕ
one_set =
    bytes "ARC-Seal: i=1; cv=none; a=; b=; d=; s=\r\n"
    ++ (bytes "ARC-Authentication-Results: i=1; a; none\r\n" ++ bytes "ARC-Message-Signature: i=1; a=;b=;bh=;d=;h=;s=\r\n")

judge-verdicts : map (λ (digits : List ℕ). judged_block one_set digits (dots 5)) (bytes "33" ∷ bytes "4" ∷ bytes "3" ∷ [])
    ≡ refuses (VerdictsRefused 1) 5 ∷ refuses (VerdictsRefused 1) 5 ∷ cuts (bytes "chain") ∷ []
unfolding opened one_set
judge-verdicts = refl

-- ==== a body

written : map (written_body (bytes "id\ta\nnone\n")) (dots 9 ∷ dots 8 ∷ dots 7 ∷ []) ≡ gives (bytes " a; none") 8 1 ∷ gives (bytes " a; none") 8 0 ∷ refuses (LinesRefused 6 8) 7 ∷ []
unfolding opened
written = refl

write-refused : written_body (bytes "id\ta\n") (dots 7) ≡ refuses (LinesRefused 11 2) 7
unfolding opened
write-refused = refl

-- ==== once it has gone, or not

ends : map (λ (e : Ending). ending_after (record { ending = e; written = 3 }) false) (Done ∷ Refused 3 7 ∷ LinesRefused 11 2 ∷ VerdictsRefused 4 ∷ OutputTooLong ∷ [])
    ≡ Unwritten ∷ Refused 3 7 ∷ LinesRefused 11 2 ∷ VerdictsRefused 4 ∷ OutputTooLong ∷ []
unfolding opened
ends = refl

ends-gone : map (λ (e : Ending). ending_after (record { ending = e; written = 3 }) true) (Done ∷ Refused 3 7 ∷ []) ≡ Done ∷ Refused 3 7 ∷ []
unfolding opened
ends-gone = refl
