-- The tests of a frame of a reply to a sub-vector query.
use Rattle.std.specs.Prelude.{ℕ, ◌%◌, ◌==◌, Bool, ◌&&◌, nat_lt, is_some, is_none, List, [], ◌∷◌}
use Rattle.std.specs.Prelude.{◌++◌, length, Result, Ok, if◌then◌else◌}
use Rattle.std.specs.List.{list_all}
use Rattle.sip_vector.specs.declared.update.Entry.{Entry}
use Rattle.sip_vector.specs.Answers.{is_within}
use Rattle.sip_vector.specs.Steps.{◌>>=◌, needs}
use Rattle.sip_wire.specs.declared.message.Reason.{Reason}
use Rattle.sip_wire.specs.declared.message.Reason.TheVariants as reasons
use Rattle.sip_subvec.specs.AcceptsSub.{Siblings}

-- the greatest number of entries in an answer
abbrev pub most_entries : ℕ
most_entries = 65536

-- the entries so far and these, or the first fault among these
abbrev pub with_entries : ℕ → ℕ → List Entry → List Entry → Result (List Entry) Reason
with_entries lo hi before [] = Ok before
with_entries lo hi before (e ∷ es) = do
  _ ← needs
      (is_within lo hi e.index && list_all (λ b. nat_lt b.index e.index) before) reasons.BadOrder
  _ ← needs (nat_lt (length before) most_entries) reasons.TooMany
  with_entries lo hi (before ++ e ∷ []) es

-- the siblings are those that an interval asks for: a left one where lo is odd, and a right one
-- where hi is even
abbrev pub are_asked : ℕ → ℕ → Siblings → Bool
are_asked lo hi s =
    (if lo % 2 == 1 then is_some s.left else is_none s.left)
    && (if hi % 2 == 0 then is_some s.right else is_none s.right)

abbrev pub asked_siblings : ℕ → ℕ → Siblings → Result Siblings Reason
asked_siblings lo hi s = needs (are_asked lo hi s) reasons.BadFlags >>= λ _. Ok s
