-- What a call did that asks all queries of a session, whose stream was read before.
use Rattle.std.specs.Prelude.{◌≡◌, ℕ, List, [], ◌++◌, map, All, Option, Some, None}
use Rattle.sip_ports.specs.declared.port.TalkEvent.{TalkEvent}
use Rattle.sip_ports.specs.Ports.{GoesOn, outs}
use Rattle.sip_vector.specs.Pieces.{cut}
use Rattle.sip_verifier.specs.declared.status.Status.{Status}
use Rattle.sip_verifier.specs.Exchanges.{Exchange}
use Rattle.sip_verifier.specs.Inquiries.{Inquiry}
use Rattle.sip_verifier.specs.Snapshots.{Counts}
use Rattle.sip_verifier.specs.Questions.{asking, IsLegalToEnd, updates}
use Rattle.sip_verifier.specs.QuerySeats.{StandsFor}
use Rattle.sip_verifier.specs.runs.Concluding as runs
pub use Rattle.sip_verifier.specs.runs.Concluding.{Reports, status_of}
use Rattle.sip_verifier.specs.Sittings.{Sitting}
use Rattle.sip_verifier.specs.Talks.{stream_sent}
use Rattle.sip_verifier.specs.Widths.{first_wide}

-- The session has the seats of an inquiry, which stand for its stream. That was legal and was read
-- to its end, and no query's answer may be too wide. What is said from `old` to `new` and what is
-- written from `blank` to `full` is the rest of the exchange.
pub record GoesBehind (i : Inquiry) (x : Exchange) (s : Sitting)
    (old new blank full : Option (List TalkEvent)) : Type 0 where
  pub version : s.version ≡ i.version
  pub depth : s.depth ≡ i.depth
  pub challenges : List ℕ
  pub drawn : i.challenges ≡ Some challenges
  pub asked : map (λ seat. seat.query) s.left ≡ i.queries
  pub at_blocks : map (λ seat. seat.block) s.left ≡ cut i.depth challenges
  pub stand : All (StandsFor i.depth (updates i x)) s.left
  pub legal : IsLegalToEnd i x
  pub read : x.unread ≡ []
  pub narrow : first_wide (updates i x) i.queries ≡ None
  pub talk : (said : List TalkEvent) → GoesOn old new said
      → x.talk ≡ stream_sent i.version i.depth (updates i x) ++ said
  pub report : (bytes : List ℕ) → GoesOn blank full (outs bytes) → x.report ≡ bytes

-- the first three promises of a run of `verify` that ends with this status
abbrev pub Ended : Inquiry → Exchange → Counts → Counts → Status → Type 0
Ended i x before now status = runs.Ended asking i x before now status
