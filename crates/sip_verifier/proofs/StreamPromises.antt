-- The promises where a run of `verify` ends before its first query.
use Rattle.std.proofs.Common.{◌≡◌, ℕ, Ok, Err, Option, Some, List, [], sym, ◌∙◌}
use Rattle.sip_wire.specs.declared.version.Version.{Version}
use Rattle.sip_ports.specs.declared.port.TalkEvent.{TalkEvent}
use Rattle.sip_ports.specs.Ports.{outs}
use Rattle.sip_ports.proofs.TalkLemmas.{GoesOn-trans}
use Rattle.sip_verifier.specs.Tasks.{version_of}
use Rattle.sip_verifier.specs.Seats.{AreSeats, Seating}
use Rattle.sip_stream.proofs.LegalRecords.{records_legal}
use Rattle.sip_verifier.specs.declared.session.SessionStart.{SessionStart}
use Rattle.sip_verifier.specs.declared.session.SessionStart.TheVariants as starts
use Rattle.sip_verifier.specs.declared.status.Status.TheVariants as statuses
use Rattle.sip_verifier.specs.declared.task.Task.{Task}
use Rattle.sip_verifier.specs.inside.Ending.{status_of_start}
use Rattle.sip_verifier.specs.Exchanges.{Exchange}
use Rattle.sip_verifier.specs.Inquiries.{inquiry_of}
use Rattle.sip_verifier.specs.Concluding.{Ended, GoesBehind}
use Rattle.sip_verifier.specs.Gathering.{HasSeed, IsGathered}
use Rattle.sip_verifier.specs.Snapshots.{Counts}
use Rattle.sip_verifier.specs.Sittings.{Sitting, Starts}
use Rattle.sip_verifier.specs.Talks.{stream_sent}
use Rattle.sip_verifier.specs.Questions.{asking, updates, IsLegalToEnd}
use Rattle.sip_verifier.specs.Widths.{first_wide}
use Rattle.sip_verifier.proofs.GatheredRuns.{after_stream, is_drawn}
use Rattle.sip_verifier.proofs.SeatedBehind.{seated_behind}
use Rattle.sip_verifier.proofs.WideSeats.{first_is}
use Rattle.sip_verifier.proofs.RunTalks.{Adds, said_is, written_is}

module _ (task : Task) (x : Exchange) where
  abbrev streamed : List TalkEvent
  streamed = stream_sent (version_of task) task.depth (updates (inquiry_of task x) x)

  -- the first query whose answer may be too wide
  too_wide : (before now : Counts) (query : ℕ) → HasSeed task x.stream x.seed → IsLegalToEnd (inquiry_of task x) x → x.talk ≡ streamed → x.report ≡ []
      → first_wide (updates (inquiry_of task x) x) task.queries.items ≡ Some query → Ended (inquiry_of task x) x before now (statuses.TooWide query)
  too_wide before now query seed legal talk blank is = record { verdict = blank; talk = talk; cause = ((is_drawn asking task.queries.items task x seed, legal), is) }

  -- there is no session
  pub after_start : (before now : Counts) (at_blocks : List (List ℕ)) (version : Version) (seats : Seating) (start : SessionStart)
      → AreSeats task.depth task.queries.items at_blocks (updates (inquiry_of task x) x) seats → Starts version seats (Err start)
      → HasSeed task x.stream x.seed → IsLegalToEnd (inquiry_of task x) x → x.talk ≡ streamed → x.report ≡ [] → Ended (inquiry_of task x) x before now (status_of_start start)
  after_start before now at_blocks version seats (starts.TooWide query) are is seed legal talk blank =
      let below = (records_legal task.depth task.form x.stream).items in
      too_wide before now query seed legal talk blank (sym (first_is task.depth task.queries.items at_blocks (updates (inquiry_of task x) x) seats are below) ∙ is)
  after_start before now at_blocks version seats starts.OutOfMemory are is seed legal talk blank = after_stream asking task.queries.items task x before now seed legal talk blank

-- ---- a session of seats that were gathered

-- what it says and writes is the rest of the exchange
pub goes_behind : (task : Task) (x : Exchange) {left : Option (List ℕ)} {t0 t1 t2 r0 r1 : Option (List TalkEvent)} {seats : Seating} {version : Version} {s : Sitting}
    → IsGathered task x.stream x.seed left t0 t1 seats → Starts version seats (Ok s) → version ≡ version_of task → Adds t0 t2 x.talk → Adds r0 r1 (outs x.report) → x.unread ≡ []
    → GoesBehind (inquiry_of task x) x s t1 t2 r0 r1
goes_behind task x {t0 = t0} {t1 = t1} {t2 = t2} {r0 = r0} {r1 = r1} {seats = seats} {s = s} gathered starts said told wrote read =
    seated_behind (inquiry_of task x) x gathered.challenges seats s t1 t2 r0 r1 gathered.draws gathered.passed.stand starts said gathered.passed.to_end read
    (λ more went. said_is t0 t2 _ x.talk (GoesOn-trans t0 t1 t2 _ more gathered.passed.talk went) told)
    (λ bytes went. written_is r0 r1 bytes x.report went wrote)
