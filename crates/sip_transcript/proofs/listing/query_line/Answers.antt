-- All challenges stand behind the front.
use Rattle.std.proofs.Common.{◌≡◌, ◌++◌, ◌∷◌, [], List, ℕ, take, ap, ◌∙◌, take_all, arith}
use Rattle.std.specs.List.{flat_map}
use Rattle.sip_transcript.specs.Listings.{challenge_text}
use Rattle.sip_transcript.proofs.listing.query_line.Goals as goal

pub returns : goal.returns
returns c =
    let all : take c.loop-challenge.challenge-index c.args.block.now ≡ c.args.block.now = take_all c.loop-challenge.challenge-index c.args.block.now (omega arith) in
    c.put.ensures.items
    ∙ ap (λ (l : List ℕ). l ++ 10 ∷ []) (c.loop-challenge.invariant.put
    ∙ ap (λ (xs : List ℕ). c.begin_query-line.result.items ++ flat_map challenge_text xs) all
    ∙ ap (λ (l : List ℕ). l ++ flat_map challenge_text c.args.block.now) c.begin_query-line.ensures.items)
