-- An honest talk that begins with the stream, questions that were accepted, and the rounds of the next one.
use Rattle.std.proofs.Common.{◌≡◌, ℕ, ◌≤◌, List, ◌∷◌, ◌++◌, length, map, sym, ap, ◌∙◌, arith}
use Rattle.std.specs.Prelude.{All}
use Rattle.std.specs.List.{flat_map}
use Rattle.sip_ports.specs.declared.port.TalkEvent.{TalkEvent}
use Rattle.sip_ports.specs.declared.port.TalkEvent.TheVariants.{Ended}
use Rattle.sip_vector.specs.declared.update.Update.{Update}
use Rattle.sip_vector.specs.Pieces.{cut}
use Rattle.sip_vector.specs.Streams.{IsLegal}
use Rattle.sip_wire.specs.declared.version.Version.{Version}
use Rattle.sip_wire.specs.Table.{most_queries, most_rows}
use Rattle.sip_wire.specs.Versions.{deepest}
use Rattle.sip_helper.specs.Streams.{vectors_of}
use Rattle.sip_helper.specs.Turns.{HelperState, fresh}
use Rattle.sip_verifier.specs.Questions.{Accepted, said_for}
use Rattle.sip_verifier.specs.Talks.{stream_sent}
use Rattle.sip_duel.specs.Story.{IsHonestTalk}
use Rattle.sip_duel.proofs.WalkLemmas.{Holds, HoldsOfWhole, Round, Walk, exchange}
use Rattle.sip_duel.proofs.QueryLemmas.{IsAtRest}
use Rattle.sip_duel.proofs.StreamLemmas.{stream_rounds}
use Rattle.sip_duel.proofs.DoneLemmas.{done_rounds}
use Rattle.sip_duel.proofs.AcceptLemmas.{said_stream, walk_all}
use Rattle.sip_session.proofs.HonestFronts.{front_holds, front_whole}
use Rattle.sip_session.proofs.HonestQuestions.{Put, said_own, walk_own}

module _ (v : Version) (depth : ℕ) (stream : List Update) (some : 1 ≤ depth) (legal : IsLegal depth stream) (shallow : depth ≤ deepest v) (Last : List ℕ → List ℕ → Type 0) where
  abbrev frames : List (List Update)
  frames = cut most_rows stream

  -- ---- questions that were accepted, and then these rounds

  module _ (done : List (Accepted v depth stream)) (tail : List Round) (put : All (Put v depth stream some legal) (map (λ (a : Accepted v depth stream). a.question) done)) (room : length done ≤ most_queries)
      (on : (t : HelperState) (m : ℕ) → m ≤ length done → IsAtRest v depth (vectors_of depth stream) t m → Walk Last v t tail)
      (said : List TalkEvent) (are : said ≡ flat_map (said_for v depth stream) (map (λ (a : Accepted v depth stream). a.question) done) ++ exchange v tail) where
    abbrev rounds : List Round
    rounds = stream_rounds Last v depth shallow frames (done_rounds v depth stream some legal done tail)

    walk : Walk Last v fresh rounds
    walk = walk_all v depth stream Last shallow some legal (done_rounds v depth stream some legal done tail) (λ t at. walk_own v depth stream some legal Last done tail put t 0 at (omega (arith, room)) (λ u m less again. on u m (omega (arith, less)) again))

    said_is : stream_sent v depth stream ++ said ≡ exchange v rounds
    said_is = ap (λ l. stream_sent v depth stream ++ l) (are ∙ said_own v depth stream some legal done tail put) ∙ sym (said_stream v depth stream Last shallow (done_rounds v depth stream some legal done tail))

    -- whatever follows, of their last reply it holds
    pub honest_holds : (talk more : List TalkEvent) → talk ≡ (stream_sent v depth stream ++ said) ++ more → IsHonestTalk talk → Holds Last
    honest_holds talk more is honest = front_holds Last v rounds walk talk more (is ∙ ap (λ l. l ++ more) said_is) honest

    -- where the end was told behind them, that reply was the one that was owed
    pub honest_whole : (talk more : List TalkEvent) → talk ≡ (stream_sent v depth stream ++ said) ++ Ended ∷ more → IsHonestTalk talk → HoldsOfWhole Last v
    honest_whole talk more is honest = front_whole Last v rounds walk talk more (is ∙ ap (λ l. l ++ Ended ∷ more) said_is) honest
