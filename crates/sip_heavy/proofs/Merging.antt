-- How the known nodes and the received ones become one list, while the received ones come.
use Rattle.std.proofs.Common.{◌≡◌, ℕ, zero, suc, ◌+◌, ◌<◌, ◌≤◌, true, false, eqb, ltb, List, [], ◌∷◌, ◌++◌, length, take, drop, refl, sym, ap, ◌∙◌, inl, inr, arith, append_assoc, length-append}
use Rattle.std.specs.Prelude.{nat_lt, ◌==◌}
use Rattle.std.specs.List.{list_all, list_any}
use Rattle.std.proofs.lemmas.Bool.{and_parts, ne_eqb}
use Rattle.std.proofs.lemmas.Bool.Decides.{leb_tells, eqb_tells, nat_tests}
use Rattle.std.proofs.lemmas.List.{append-nil, drop-drop}
use Rattle.std.proofs.lemmas.List.Folds.{list_all-append}
use Rattle.sip_wire.specs.declared.message.Node.{Node}
use Rattle.sip_heavy.specs.AcceptsHeavy.{nodes_below, nodes_from, merged}
use Rattle.sip_heavy.specs.Checking.{begins_with}
use Rattle.sip_heavy.specs.Rising.{Rises}

-- ---- the nodes below an index and the others

pub below_and_from : (i : ℕ) (ks : List Node) → nodes_below i ks ++ nodes_from i ks ≡ ks
below_and_from i [] = refl
below_and_from i (k ∷ ks) = elim (leb_tells (suc k.index) i) [
  | inl t ↦ rw t.0 (ap (λ xs. k ∷ xs) (below_and_from i ks))
  | inr t ↦ rw t.0 refl
]

pub drop_below : (i : ℕ) (ks : List Node) → drop (length (nodes_below i ks)) ks ≡ nodes_from i ks
drop_below i [] = refl
drop_below i (k ∷ ks) = elim (leb_tells (suc k.index) i) [
  | inl t ↦ rw t.0 (drop_below i ks)
  | inr t ↦ rw t.0 refl
]

pub take_below : (i : ℕ) (ks : List Node) → take (length (nodes_below i ks)) ks ≡ nodes_below i ks
take_below i [] = refl
take_below i (k ∷ ks) = elim (leb_tells (suc k.index) i) [
  | inl t ↦ rw t.0 (ap (λ xs. k ∷ xs) (take_below i ks))
  | inr t ↦ rw t.0 refl
]

pub length_below : (i : ℕ) (ks : List Node) → length (nodes_below i ks) ≤ length ks
length_below i ks = omega (arith, ap length (below_and_from i ks), length-append (nodes_below i ks) (nodes_from i ks))

pub all_below : (i : ℕ) (ks : List Node) → list_all (λ k. nat_lt k.index i) (nodes_below i ks) ≡ true
all_below i [] = refl
all_below i (k ∷ ks) = elim (leb_tells (suc k.index) i) [
  | inl t ↦ rw t.0 (rw t.0 (all_below i ks))
  | inr t ↦ rw t.0 refl
]

-- what is below an index is below a greater one
pub all_lower : (i j : ℕ) (ks : List Node) → i ≤ j → list_all (λ k. nat_lt k.index i) ks ≡ true → list_all (λ k. nat_lt k.index j) ks ≡ true
all_lower i j [] le all = refl
all_lower i j (k ∷ ks) le all =
    let parts = and_parts (ltb k.index i) (list_all (λ x. nat_lt x.index i) ks) all in
    let here : ltb k.index j ≡ true = grind (arith, nat_tests, parts.0) in
    rw here (all_lower i j ks le parts.1)

-- ---- one list, while nodes are received

pub length_merged : (known xs : List Node) → length (merged known xs) ≡ length known + length xs
length_merged known [] = omega arith
length_merged known (x ∷ xs) =
    omega (
      arith,
      length-append (nodes_below x.index known) (x ∷ merged (nodes_from x.index known) xs),
      length_merged (nodes_from x.index known) xs,
      ap length (below_and_from x.index known),
      length-append (nodes_below x.index known) (nodes_from x.index known),
    )

-- `nodes` has what was received and the first known nodes, so many that whatever comes is merged with the others
abbrev pub Merges : List Node → List Node → ℕ → List Node → Type 0
Merges known received passed nodes = (future : List Node) → merged known (received ++ future) ≡ nodes ++ merged (drop passed known) future

pub merges_none : (known : List Node) → Merges known [] 0 []
merges_none known future = refl

pub merges_next : (known received : List Node) (passed : ℕ) (nodes : List Node) (x : Node) → Merges known received passed nodes
    → Merges known (received ++ x ∷ []) (passed + length (nodes_below x.index (drop passed known))) (nodes ++ nodes_below x.index (drop passed known) ++ x ∷ [])
merges_next known received passed nodes x merges future =
    let rest = drop passed known in
    let below = nodes_below x.index rest in
    let left : drop (passed + length below) known ≡ nodes_from x.index rest = sym (drop-drop (length below) passed known) ∙ drop_below x.index rest in
    ap (merged known) (append_assoc received (x ∷ []) future) ∙ merges (x ∷ future)
    ∙ sym (append_assoc nodes below (x ∷ merged (nodes_from x.index rest) future))
    ∙ rw left (sym (append_assoc (nodes ++ below) (x ∷ []) (merged (nodes_from x.index rest) future)))

pub merges_all : (known received : List Node) (passed : ℕ) (nodes : List Node) → Merges known received passed nodes → merged known received ≡ nodes ++ drop passed known
merges_all known received passed nodes merges = ap (merged known) (sym (append-nil received)) ∙ merges []

-- ---- which nodes are known

none_above : (i least n : ℕ) (ks : List Node) → i < least → Rises least n ks → list_any (λ k. k.index == i) ks ≡ false
none_above i least n [] above rises = refl
none_above i least n (k ∷ ks) above rises =
    let here : eqb k.index i ≡ false = ne_eqb k.index i (λ e. absurd (omega (arith, e, rises.0))) in
    rw here (none_above i (suc k.index) n ks (omega (arith, rises.0)) rises.2)

-- an index is known where the first node that is not below it has it
pub known_is : (i least n : ℕ) (ks : List Node) → Rises least n ks → list_any (λ k. k.index == i) ks ≡ begins_with i (nodes_from i ks)
known_is i least n [] rises = refl
known_is i least n (k ∷ ks) rises = elim (leb_tells (suc k.index) i) [
  | inl t ↦
      let here : eqb k.index i ≡ false = ne_eqb k.index i (λ e. absurd (omega (arith, e, t.1))) in
      rw (t.0, here) (known_is i (suc k.index) n ks rises.2)
  | inr t ↦
      elim (eqb_tells k.index i) [
        | inl s ↦ rw (t.0, s.0) refl
        | inr s ↦ rw (t.0, s.0) (none_above i (suc k.index) n ks (omega (arith, t.1)) rises.2)
      ]
]

-- the nodes that were passed make no difference, where they are below the index
pub from_passed : (i n : ℕ) (ks : List Node) → list_all (λ k. nat_lt k.index i) (take n ks) ≡ true → nodes_from i (drop n ks) ≡ nodes_from i ks
from_passed i zero ks all = refl
from_passed i (suc n) [] all = refl
from_passed i (suc n) (k ∷ ks) all =
    let parts = and_parts (ltb k.index i) (list_all (λ x. nat_lt x.index i) (take n ks)) all in
    rw parts.0 (from_passed i n ks parts.1)

pub take_more_below : (i n : ℕ) (ks : List Node) → take (n + length (nodes_below i (drop n ks))) ks ≡ take n ks ++ nodes_below i (drop n ks)
take_more_below i zero ks = ap (λ m. take m ks) (let e : 0 + length (nodes_below i ks) ≡ length (nodes_below i ks) = omega arith in e) ∙ take_below i ks
take_more_below i (suc n) [] = let e : suc n + 0 ≡ suc n = omega arith in rw e refl
take_more_below i (suc n) (k ∷ ks) =
    let e : suc n + length (nodes_below i (drop n ks)) ≡ suc (n + length (nodes_below i (drop n ks))) = omega arith in
    rw e (ap (λ xs. k ∷ xs) (take_more_below i n ks))

-- after an index all nodes that were passed are below it
pub passed_below : (i n : ℕ) (ks : List Node) → list_all (λ k. nat_lt k.index i) (take n ks) ≡ true
    → list_all (λ k. nat_lt k.index i) (take (n + length (nodes_below i (drop n ks))) ks) ≡ true
passed_below i n ks all =
    ap (list_all (λ k. nat_lt k.index i)) (take_more_below i n ks)
    ∙ list_all-append (λ k. nat_lt k.index i) (take n ks) (nodes_below i (drop n ks))
    ∙ rw all (all_below i (drop n ks))
