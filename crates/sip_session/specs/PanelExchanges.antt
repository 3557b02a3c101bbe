-- What the ports of a panel tell, and what one call moved through them.
use Rattle.std.specs.Prelude.{◌≡◌, ℕ, List, [], Option, Some, None, IsSome}
use Rattle.sip_ports.specs.declared.port.TalkEvent.{TalkEvent}
use Rattle.sip_verifier.specs.Exchanges.{Appends, Exchange}
use Rattle.sip_verifier.specs.Snapshots.{Counts, counts}

-- The bytes that the stream and the seed have to give, the events on each link in the order of the
-- helpers, those on the report, and how often the stream, the seed and the report have failed. The
-- links count no fault, and no record is kept.
pub record PanelSnapshot : Type 0 where
  pub first : Option (List ℕ)
  pub second : Option (List ℕ)
  pub talks : List (List TalkEvent)
  pub report : Option (List TalkEvent)
  pub faults : Counts

-- a moment, port by port: what each tells, and how often it has failed
abbrev pub panel_snapshot : Option (List ℕ) → ℕ → Option (List ℕ) → ℕ → List (List TalkEvent)
    → Option (List TalkEvent) → ℕ → PanelSnapshot
panel_snapshot first firsts second seconds talks report reports = record {
  first = first;
  second = second;
  talks = talks;
  report = report;
  faults = counts firsts seconds 0 reports 0;
}

-- What there was to read, all that was said on each link, in the order of the helpers, and what was
-- written. Nothing had happened on the links before.
pub record PanelExchange : Type 0 where
  pub stream : List ℕ
  pub unread : List ℕ
  pub seed : List ℕ
  pub talks : List (List TalkEvent)
  pub report : List ℕ

-- the ports tell this exchange by what they told before and what they tell after
pub record PanelTells (old new : PanelSnapshot) (x : PanelExchange) : Type 0 where
  pub stream : old.first ≡ Some x.stream
  pub unread : new.first ≡ Some x.unread
  pub seed : old.second ≡ Some x.seed
  pub talks : new.talks ≡ x.talks
  pub report : Appends old.report new.report (Some x.report)

-- each port tells; the links always do
pub record PanelIsTold (m : PanelSnapshot) : Type 0 where
  pub first : IsSome m.first
  pub second : IsSome m.second
  pub report : IsSome m.report

-- the exchange without the links
abbrev pub without_links : PanelExchange → Exchange
without_links x = record {
  stream = x.stream;
  unread = x.unread;
  seed = x.seed;
  talk = [];
  report = x.report;
  kept = None;
}
