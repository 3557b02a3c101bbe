-- The check of a sub-vector over whole lists: what is stated, widened by siblings and folded level
-- by level, must give the root (Cormode, Thaler, Yi, PVLDB 5(1), section 4).
use Rattle.std.specs.Prelude.{ℕ, ◌+◌, ◌-◌, ◌==◌, Bool, nat_eq, ℤ, pos, List, [], ◌∷◌, ◌++◌, map}
use Rattle.std.specs.Prelude.{fold, zip, option_to_list, Option, if◌then◌else◌}
use Rattle.std.specs.List.{range_with_len}
use Rattle.std.specs.Cmp.Lexicographic.{pointwise}
use Rattle.sip_field.specs.Residue.{residue}
use Rattle.sip_vector.specs.declared.update.Entry.{Entry}
use Rattle.sip_vector.specs.Trees.{up}

-- the nodes beside an interval of one level, where they are present
pub record Siblings : Type 0 where
  pub left : Option ℕ
  pub right : Option ℕ

-- what replies state: the entries of reply 0, and the siblings of each reply
pub record Stated : Type 0 where
  pub entries : List Entry
  pub siblings : List Siblings

-- the value that entries state at an index, 0 where they state none
abbrev pub stated_value : List Entry → ℕ → ℤ
stated_value [] i = pos 0
stated_value (e ∷ es) i = if e.index == i then e.value else stated_value es i

-- K_0: the stated values from lo to hi
abbrev pub stated_level : ℕ → ℕ → ℕ → List Entry → List ℕ
stated_level p lo hi es = map (λ i. residue p (stated_value es i)) (range_with_len lo (hi + 1 - lo))

-- E_j: K_j with the left sibling before it and the right one after it
abbrev pub widened : List ℕ → Siblings → List ℕ
widened level s = option_to_list s.left ++ level ++ option_to_list s.right

-- K_(j+1) of K_j, the siblings of level j and r_(j+1)
abbrev pub next_level : ℕ → List ℕ → Siblings × ℕ → List ℕ
next_level p level x = up p (widened level x.0) x.1

-- K_d
abbrev pub folded : ℕ → ℕ → ℕ → List ℕ → Stated → List ℕ
folded p lo hi challenges s =
    fold (next_level p) (stated_level p lo hi s.entries) (zip s.siblings challenges)

-- K_d is the root alone
abbrev pub gives_root : ℕ → ℕ → ℕ → ℕ → List ℕ → Stated → Bool
gives_root p root lo hi challenges s = pointwise nat_eq (folded p lo hi challenges s) (root ∷ [])
