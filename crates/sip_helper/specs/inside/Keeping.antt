-- What holds of a helper at every moment.
use Rattle.std.specs.Prelude.{◌≡◌, ◌≤◌, ℕ, IsTrue, IfSome, Option}
use Rattle.sip_helper.specs.declared.asked.QueryUnderWay.{QueryUnderWay}
use Rattle.sip_helper.specs.declared.heard.Heard.{Heard}
use Rattle.sip_helper.specs.declared.heard.Heard.TheVariants.{Nothing, Whole}
use Rattle.sip_helper.specs.Vectors.{Vectors}
use Rattle.sip_helper.specs.declared.vectors.Weights.{Weights}
use Rattle.sip_helper.specs.inside.Answering.{CanReply}
use Rattle.sip_helper.specs.inside.Legal.{HaveWeights}
use Rattle.sip_helper.specs.Turns.{depth_of, is_light, no_weight}
use Rattle.sip_wire.specs.declared.version.Version.{Version}
use Rattle.sip_wire.specs.Table.{most_queries}
use Rattle.sip_wire.specs.Versions.{deepest}

-- The depth is one of the version, no side is too heavy, the vectors are those of the depth and the
-- weights, and a query is open only behind the stream.
pub record IsCoherent (version : Version) (heard : Heard) (weights : Weights)
    (vectors : Option Vectors) (queries : ℕ) (asked : Option QueryUnderWay) : Type 0 where
  pub deep : depth_of heard ≤ deepest version
  pub light : IsTrue (is_light weights)
  pub none : heard ≡ Nothing → weights ≡ no_weight
  pub are : IfSome vectors (HaveWeights (depth_of heard) weights)
  pub few : queries ≤ most_queries
  pub behind : IfSome asked (λ _. heard ≡ Whole (depth_of heard))
  pub stands : IfSome asked (CanReply (depth_of heard) vectors)
