-- The check of a sub-vector by one running sum: what is summed, what a check keeps, and what it has
-- taken.
use Rattle.std.specs.Prelude.{◌≡◌, ℕ, ◌+◌, ◌-◌, ◌*◌, ◌/◌, ◌%◌, ◌^◌, ◌<◌, ◌≤◌, ◌&&◌, Bool, true}
use Rattle.std.specs.Prelude.{false, nat_lt, List, [], ◌∷◌, length, sum_by, Option, Some, None}
use Rattle.std.specs.Prelude.{Result, Ok, Err}
use Rattle.std.specs.List.{list_all}
use Rattle.sip_field.specs.Residue.{residue}
use Rattle.sip_vector.specs.Answers.{is_within}
use Rattle.sip_vector.specs.Steps.{◌>>=◌, needs}
use Rattle.sip_vector.specs.Weights.{weight_above}
use Rattle.sip_vector.specs.declared.update.Entry.{Entry}
use Rattle.sip_wire.specs.declared.message.Reason.{Reason}
use Rattle.sip_wire.specs.declared.message.Reason.TheVariants as reasons
use Rattle.sip_replies.specs.Rising.{is_above}
use Rattle.sip_subvec.specs.AcceptsSub.{Siblings, Stated}
use Rattle.sip_subvec.specs.Replies.{most_entries, with_entries, are_asked}

-- ---- the sum

-- the entries, each times its weight in the root
abbrev pub entries_sum : ℕ → List ℕ → List Entry → ℕ
entries_sum p challenges es =
    sum_by (λ e. residue p e.value * weight_above p challenges 0 e.index) es

-- a sibling times the weight of the node at this index of its level, or 0 where it is not present
abbrev pub sibling_term : ℕ → List ℕ → ℕ → Option ℕ → ℕ → ℕ
sibling_term p challenges level None index = 0
sibling_term p challenges level (Some x) index = x * weight_above p challenges level index

-- both siblings of a level, of which the interval goes from lo to hi
abbrev pub level_sum : ℕ → List ℕ → ℕ → ℕ → ℕ → Siblings → ℕ
level_sum p challenges level lo hi s =
    sibling_term p challenges level s.left (lo - 1)
    + sibling_term p challenges level s.right (hi + 1)

-- the siblings of this level and those above it
abbrev pub siblings_sum : ℕ → List ℕ → ℕ → ℕ → ℕ → List Siblings → ℕ
siblings_sum p challenges level lo hi [] = 0
siblings_sum p challenges level lo hi (s ∷ more) =
    level_sum p challenges level lo hi s
    + siblings_sum p challenges (level + 1) (lo / 2) (hi / 2) more

-- all that is stated, each number times its weight, modulo p
abbrev pub stated_sum : ℕ → ℕ → ℕ → List ℕ → Stated → ℕ
stated_sum p lo hi challenges s =
    (entries_sum p challenges s.entries + siblings_sum p challenges 0 lo hi s.siblings) % p

-- ---- the tests

-- each level's siblings are those that its interval asks for
abbrev pub AreAsked : ℕ → ℕ → List Siblings → Type 0
AreAsked lo hi [] = Unit {0}
AreAsked lo hi (s ∷ more) = (are_asked lo hi s ≡ true) × AreAsked (lo / 2) (hi / 2) more

-- no entry and no sibling has a fault
pub record HasPassed (lo hi : ℕ) (s : Stated) : Type 0 where
  pub entries : with_entries lo hi [] s.entries ≡ Ok s.entries
  pub siblings : AreAsked lo hi s.siblings

-- ---- a check

-- What a check keeps. `level` is the one whose siblings come next, which is how many replies'
-- siblings were given, and `lo` and `hi` are its interval; `revealed` counts the challenges that
-- were revealed.
pub record Kept : Type 0 where
  pub challenges : List ℕ
  pub root : ℕ
  pub lo : ℕ
  pub hi : ℕ
  pub level : ℕ
  pub revealed : ℕ
  pub sum : ℕ
  pub last : Option ℕ
  pub count : ℕ
  pub spent : Bool

-- The check was started with this root, this interval and these challenges, and it was given what
-- is stated, which passed.
pub record HasTaken (p root lo hi : ℕ) (challenges : List ℕ) (s : Stated)
    (check : Kept) : Type 0 where
  pub whole : hi < 2 ^ length challenges
  pub order : lo ≤ hi
  pub passed : HasPassed lo hi s
  pub at_challenges : check.challenges ≡ challenges
  pub for_root : check.root ≡ root
  pub from_lo : check.lo ≡ lo / 2 ^ length s.siblings
  pub to_hi : check.hi ≡ hi / 2 ^ length s.siblings
  pub replies : check.level ≡ length s.siblings
  pub sum : check.sum ≡ stated_sum p lo hi challenges s
  pub last : (i : ℕ) → list_all (λ e. nat_lt e.index i) s.entries ≡ is_above check.last i
  pub count : check.count ≡ length s.entries
  pub unspent : check.spent ≡ false

-- nothing was given yet
abbrev pub nothing : Stated
nothing = record { entries = []; siblings = [] }

-- The challenges stay as they are, and this many levels and challenges more were given and
-- revealed.
pub record Advances (old new : Kept) (levels reveals : ℕ) : Type 0 where
  pub challenges : new.challenges ≡ old.challenges
  pub level : new.level ≡ old.level + levels
  pub revealed : new.revealed ≡ old.revealed + reveals

-- the tests of an entry at this index, by what a check keeps
abbrev pub entry_test : Kept → ℕ → Result (Unit {0}) Reason
entry_test check index = do
  _ ← needs (is_within check.lo check.hi index && is_above check.last index) reasons.BadOrder
  needs (nat_lt check.count most_entries) reasons.TooMany

-- A call answers as the definition of its test does. Where the test passes, `HasMore` holds of what
-- the definition gives; where it does not, the reason is the definition's, and the check is spent.
abbrev pub AnswersAs : {X : Type 0} → Result X Reason → (X → Type 0) → Kept
    → Result (Unit {0}) Reason → Type 0
AnswersAs (Ok x) HasMore check result = (result ≡ Ok tt) × HasMore x
AnswersAs (Err reason) HasMore check result = (result ≡ Err reason) × (check.spent ≡ true)
