-- How what a helper keeps for a query stands for the query.
use Rattle.std.specs.Prelude.{◌≡◌, ℕ, ◌<◌, Bool, true, false, List, length, Option, Some, None}
use Rattle.sip_vector.specs.declared.query.Query.{Query}
use Rattle.sip_helper.specs.declared.asked.QueryUnderWay.{QueryUnderWay}
use Rattle.sip_helper.specs.declared.asked.Answerer.{Answerer}
use Rattle.sip_helper.specs.declared.asked.Answerer.TheVariants.{NoMemory, Refused, Honest}
use Rattle.sip_helper.specs.Vectors.{Vectors}
use Rattle.sip_helper.specs.Kinds.{HasLearnt, query_proved, help_row}
use Rattle.sip_helper.specs.Turns.{OpenQuery}

abbrev pub query_of : Answerer → Query
query_of (NoMemory query) = query
query_of (Refused query code) = query
query_of (Honest prover) = query_proved prover

abbrev pub is_memory : Answerer → Bool
is_memory (NoMemory query) = true
is_memory _ = false

-- the replies can be made from it; a refusal is the first reply and the last
abbrev pub IsReady : ℕ → Option Vectors → List ℕ → Bool → Answerer → Type 0
IsReady depth vectors revealed given (NoMemory query) = given ≡ false
IsReady depth (Some v) revealed given (Refused query code) =
    (given ≡ false) × ((help_row query).refused_by v ≡ Some code)
IsReady depth (Some v) revealed given (Honest prover) =
    ((help_row (query_proved prover)).refused_by v ≡ None) × HasLearnt depth v revealed prover
IsReady depth None revealed given (Refused query code) = ⊥
IsReady depth None revealed given (Honest prover) = ⊥

-- the open query that is kept so
abbrev pub open_of : QueryUnderWay → OpenQuery
open_of a =
    record {
      query = query_of a.answerer;
      revealed = a.revealed.items;
      given = a.given;
      refused = is_memory a.answerer;
    }

-- a level is left to reply to, and the reply can be made
pub record CanReply (depth : ℕ) (vectors : Option Vectors) (a : QueryUnderWay) : Type 0 where
  pub left : length a.revealed.items < depth
  pub ready : IsReady depth vectors a.revealed.items a.given a.answerer
