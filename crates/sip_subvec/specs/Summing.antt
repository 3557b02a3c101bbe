-- What an honest prover keeps, and what it stands for: the entries that are not 0, and the
-- challenges so far. A node of a level is the sum of the entries below it, each times the product
-- of the challenges at the bits of its index that are 1 (Cormode, Thaler, Yi, PVLDB 5(1),
-- section 4).
use Rattle.std.specs.Prelude.{ℕ, ◌+◌, ◌*◌, ◌-◌, ◌^◌, ◌<◌, ◌≤◌, List, [], ◌∷◌, map, fold, filter}
use Rattle.std.specs.List.{range_with_len}
use Rattle.sip_field.specs.Residue.{residue}
use Rattle.sip_vector.specs.declared.update.Entry.{Entry}
use Rattle.sip_vector.specs.Answers.{is_within}
use Rattle.sip_vector.specs.Limits.{most_depth}
use Rattle.sip_vector.specs.Trees.{up}
use Rattle.sip_subvec.specs.AcceptsSub.{stated_value}

-- the indices rise, from `least` on
abbrev pub Rises : ℕ → List Entry → Type 0
Rises least [] = Unit {0}
Rises least (e ∷ es) = (least ≤ e.index) × Rises (e.index + 1) es

-- the level that these challenges lead to, over 2 ^ depth numbers of which these are the entries
-- that are not 0
unfoldable pub level_over : ℕ → ℕ → List Entry → List ℕ → List ℕ
level_over p depth es challenges =
    fold (up p)
    (map (λ i. residue p (stated_value es i)) (range_with_len 0 (2 ^ depth))) challenges

-- the entries below the node k of a level, which is `height` levels above them
abbrev pub entries_below : ℕ → ℕ → List Entry → List Entry
entries_below height k es =
    filter (λ e. is_within (2 ^ height * k) (2 ^ height * k + (2 ^ height - 1)) e.index) es

-- The interval is in order and within the level, the entries rise, and the challenges that are
-- still to be learnt find room behind those that were taken.
pub record IsSumming (es : List Entry) (taken capacity left lo hi : ℕ) : Type 0 where
  pub deep : left + taken ≤ most_depth
  pub rise : Rises 0 es
  pub order : lo ≤ hi
  pub within : hi < 2 ^ left
  pub room : left + taken ≤ capacity
