-- A list of nodes that is folded in place.
use Rattle.std.proofs.Common.{◌≡◌, ℕ, ◌+◌, ◌<◌, ◌≤◌, List, [], ◌∷◌, ◌++◌, length, take, drop, set, sym, ◌∙◌, arith, append_assoc}
use Rattle.std.proofs.lemmas.List.{take_more_set, drop-set-lt, drop-drop, drop_all, append-nil}
use Rattle.sip_wire.specs.declared.message.Node.{Node}
use Rattle.sip_heavy.specs.Spots.{spots_above}

pub left_behind : (spots : List Node) (written read count : ℕ) (x : Node) → written ≤ read → 1 ≤ count → drop (read + count) (set spots written x) ≡ drop count (drop read spots)
left_behind spots written read count x le some =
    let later : written < read + count = omega arith in
    drop-set-lt (read + count) spots written x later ∙ sym (drop-drop count read spots)

pub fold_more : (p r : ℕ) (spots : List Node) (written read count : ℕ) (x : Node) (all : List Node) → written ≤ read → read < length spots → 1 ≤ count
    → spots_above p r (drop read spots) ≡ x ∷ spots_above p r (drop count (drop read spots))
    → take written spots ++ spots_above p r (drop read spots) ≡ all
    → take (written + 1) (set spots written x) ++ spots_above p r (drop (read + count) (set spots written x)) ≡ all
fold_more p r spots written read count x all le left some above invariant =
    let there : written < length spots = omega arith in
    rw (take_more_set spots written x there, left_behind spots written read count x le some, append_assoc (take written spots) (x ∷ []) (spots_above p r (drop count (drop read spots))))
    (rw above at invariant)

pub fold_all : (p r : ℕ) (spots : List Node) (written read : ℕ) (all : List Node) → length spots ≤ read → take written spots ++ spots_above p r (drop read spots) ≡ all → take written spots ≡ all
fold_all p r spots written read all past invariant =
    sym (append-nil (take written spots)) ∙ (rw (drop_all read spots past) at invariant)
