-- How much room the question of a seat needs.
use Rattle.std.specs.Prelude.{ℕ, ◌*◌, ◌/◌}
use Rattle.sip_vector.specs.declared.query.Query.{Query}
use Rattle.sip_vector.specs.declared.query.Query.TheVariants.{Sub, Heavy, Share}
use Rattle.sip_vector.specs.Thresholds.{share_of}
use Rattle.sip_heavy.specs.Protocol.{count_of}
use Rattle.sip_subvec.specs.Asking.{most_answer}
use Rattle.sip_verifier.specs.QuerySeats.{RunningNumbers, aug_root_is}

-- how many nodes a level of the replies to a query for heavy hitters may have
abbrev pub most_nodes : Query → RunningNumbers → ℕ
most_nodes (Heavy side at_least) (aug_root_is hash total) = 2 * (count_of total / at_least)
most_nodes (Share side num den) (aug_root_is hash total) =
    2 * (count_of total / share_of num den total)
most_nodes _ running = 0

-- how many places the pairs of an answer need
abbrev pub most_places : Query → RunningNumbers → ℕ
most_places (Sub lo hi) running = most_answer lo hi
most_places query running = most_nodes query running
