-- The challenges of a run: one block for each query.
use Rattle.std.specs.Prelude.{ℕ, ◌*◌, List, length, take, nat_lt, Option, None, if◌then◌else◌}
use Rattle.sip_field.specs.Draw.{draw_list, seed_words}
use Rattle.sip_vector.specs.Pieces.{cut}
use Rattle.sip_verifier.specs.declared.task.Task.{Task}

-- how many challenges a task takes
abbrev pub challenge_count : Task → ℕ
challenge_count task = task.depth * length task.queries.items

-- so many challenges of the first 32 bytes of a seed; none where there are fewer bytes, or where
-- they are spent
unfoldable pub challenges_of : ℕ → List ℕ → Option (List ℕ)
challenges_of count seed =
    if nat_lt (length seed) 32 then None else draw_list count (seed_words (take 32 seed))

-- the challenges of a task
abbrev pub drawn : Task → List ℕ → Option (List ℕ)
drawn task seed = challenges_of (challenge_count task) seed

-- block k is the challenges (k - 1) * d + 1 to k * d
abbrev pub blocks : Task → List ℕ → List (List ℕ)
blocks task challenges = cut task.depth challenges
