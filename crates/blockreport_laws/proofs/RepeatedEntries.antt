-- 01, Block and list: "a repeated entry changes nothing", of the report of a block.
use Prim.Native.Nat.{ℕ}
use mathlib.Core.Path.{◌≡◌, refl}
use mathlib.Core.List.{List, [], ◌∷◌, ◌++◌}
use Rattle.base_readers.specs.Texts.{bytes}
use Rattle.ownlist_rules.specs.OwnList.{own_list}
use Rattle.ownlist_rules.specs.Listed.{own_of}
use Rattle.ownlist_rules.proofs.Unfolding.{opened}
use Rattle.ownlist_laws.proofs.CallCases.{by-list-same}
use Rattle.ownlist_laws.proofs.RepeatedEntries.{own-again}
use Rattle.blockreport_rules.specs.declared.Detail.{Detail}
use Rattle.blockreport_rules.specs.BlockReport.{refuse, report_fields, block_report}
use Rattle.blockreport_laws.proofs.Whose.{same-reported}

-- two good lists, of which the second has an entry of the first once more, give the same answer and the same bytes for every block, room and
-- detail
pub report-repeated : (detail : Detail) (block list list' : List ℕ) (room : ℕ) (e : List ℕ) (xs ys zs : List (List ℕ))
    → own_list list ≡ record { items = xs ++ (e ∷ (ys ++ zs)); number = 0; place = 0 }
    → own_list list' ≡ record { items = xs ++ (e ∷ (ys ++ (e ∷ zs))); number = 0; place = 0 }
    → block_report detail block list' room ≡ block_report detail block list room
unfolding block_report
report-repeated detail block list list' room e xs ys zs a b =
    by-list-same refuse block list' list (λ own. report_fields detail block (own_of own) room) (rw b) (rw a)
    (rw (a, b) (same-reported detail (own_of (xs ++ (e ∷ (ys ++ (e ∷ zs))))) (own_of (xs ++ (e ∷ (ys ++ zs)))) (own-again e xs ys zs) block room))

instance : (detail : Detail) (block : List ℕ) (room : ℕ) → block_report detail block (bytes "a\nb\na\n") room ≡ block_report detail block (bytes "a\nb\n") room
unfolding opened
instance detail block room = report-repeated detail block (bytes "a\nb\n") (bytes "a\nb\na\n") room (bytes "a") [] (bytes "b" ∷ []) [] refl refl
