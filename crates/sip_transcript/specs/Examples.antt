-- A transcript by hand: a query for the items 1 to 2 at depth 2, with the challenges 2 and 10, and
-- the replies to it.
use Rattle.std.specs.Prelude.{ℕ, List, [], ◌∷◌, ◌++◌, codes}

-- its head
abbrev pub head_by_hand : List ℕ
head_by_hand =
    83 ∷ 73 ∷ 80 ∷ 84 ∷ 1 ∷ 2 ∷ 1 ∷ 4 ∷ 0 ∷ 9 ∷ 1 ∷ 0 ∷ 0 ∷ 0 ∷ 1 ∷ 0 ∷ 0 ∷ 0 ∷ 2 ∷ 0 ∷ 0 ∷ 0
    ∷ 0 ∷ 0 ∷ 0 ∷ 0 ∷ 2 ∷ 0 ∷ 0 ∷ 0 ∷ 0 ∷ 0 ∷ 0 ∷ 0 ∷ 10 ∷ []

-- its replies: an entry, two siblings, and no sibling
abbrev pub replies_by_hand : List ℕ
replies_by_hand =
    0x13 ∷ 0 ∷ 0x0e ∷ 0 ∷ 1 ∷ 0 ∷ 0 ∷ 0 ∷ 2 ∷ 0 ∷ 0 ∷ 0 ∷ 0 ∷ 0 ∷ 0 ∷ 0 ∷ 5
    ∷ 0x14 ∷ 0 ∷ 0x11 ∷ 3 ∷ 0 ∷ 0 ∷ 0 ∷ 0 ∷ 0 ∷ 0 ∷ 0 ∷ 3 ∷ 0 ∷ 0 ∷ 0 ∷ 0 ∷ 0 ∷ 0 ∷ 0 ∷ 1
    ∷ 0x14 ∷ 0 ∷ 1 ∷ 0 ∷ []

-- the listing of its head and of its first two replies
abbrev pub lines_by_hand : List ℕ
lines_by_hand =
    codes "depth 2" ++ 10
    ∷ codes "query 1 sub:1:2 challenges 0000000000000002 000000000000000a" ++ 10
    ∷ codes "frame Entries 0001000000020000000000000005" ++ 10
    ∷ codes "frame Siblings 0300000000000000030000000000000001" ++ 10 ∷ []
