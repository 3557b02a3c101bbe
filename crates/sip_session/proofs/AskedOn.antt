-- What calls keep that ask one behind another.
use Rattle.std.proofs.Common.{◌≡◌, ◌≤◌, ℕ, List, Result, Ok, Err, false, refl, ◌∙◌}
use Rattle.std.specs.Prelude.{All, OnOk}
use Rattle.sip_vector.specs.declared.update.Update.{Update}
use Rattle.sip_wire.specs.declared.message.Reason.{Reason}
use Rattle.sip_verifier.specs.declared.status.Status.{Status}
use Rattle.sip_verifier.specs.declared.status.Status.TheVariants as statuses
use Rattle.sip_verifier.specs.QuerySeats.{StandsFor}
use Rattle.sip_verifier.specs.Sittings.{Sitting}
use Rattle.sip_verifier.specs.Snapshots.{counts}
use Rattle.sip_verifier.specs.Statuses.{Stops, stops_asking}
use Rattle.sip_verifier.proofs.KeptChecks.{report_since}
use Rattle.sip_session.specs.inside.Trying.{AsksOn}

module _ {T U : Type 0} (old mid new : Sitting)
    (stands : (stream : List Update) → All (StandsFor old.depth stream) old.left → All (StandsFor mid.depth stream) mid.left)
    (version : mid.version ≡ old.version) (depth : mid.depth ≡ old.depth) (before between after : ℕ) (later : before ≤ between) where
  further : (r : Result T Status) (s : Result U Status) → AsksOn mid new between after r → OnOk s (new.spent ≡ false)
      → Stops stops_asking (counts 0 0 0 before 0) (counts 0 0 0 after 0) s → AsksOn old new before after s
  further r s k live fault = record {
    stands = λ stream all. k.stands stream (stands stream all);
    version = k.version ∙ version;
    depth = k.depth ∙ depth;
    live = live;
    fault = fault;
  }

  -- the later call stopped
  pub stopped_on : (status : Status) → AsksOn {T = T} mid new between after (Err status) → AsksOn {T = U} old new before after (Err status)
  stopped_on status k =
      further (Err status) (Err status) k tt (k.fault.0, report_since 0 0 0 0 before between (counts 0 0 0 after 0) status later k.fault.1)

  -- it went well
  pub answered_on : (x : T) (y : U) → AsksOn mid new between after (Ok x) → AsksOn old new before after (Ok y)
  answered_on x y k = further (Ok x) (Ok y) k k.live tt

  -- it went well, and all helpers were dropped
  pub ended_on : (x : T) (query round : ℕ) (reason : Reason) → AsksOn mid new between after (Ok x) → AsksOn {T = U} old new before after (Err (statuses.Rejected query round reason))
  ended_on x query round reason k = further (Ok x) (Err (statuses.Rejected query round reason)) k tt (refl, tt)
