-- What ports in memory tell is what they have.
use Rattle.std.proofs.Common.{◌≡◌, ℕ, List, ◌++◌, Option, None, Some, refl, sym, subst, ◌∙◌}
use Rattle.std.proofs.lemmas.List.{map-append}
use Rattle.sip_ports.specs.declared.port.TalkEvent.TheVariants.{Out}
use Rattle.sip_ports.specs.Ports.{outs}
use Rattle.sip_ports.proofs.FaultLemmas.{Rose-positive}
use Rattle.sip_ports.proofs.TalkLemmas.{outs-injective}
use Rattle.sip_verifier.specs.declared.status.Port.TheVariants as ports
use Rattle.sip_verifier.specs.declared.status.Status.{Status}
use Rattle.sip_verifier.specs.declared.status.Status.TheVariants as statuses
use Rattle.sip_verifier.specs.Exchanges.{Appends, Exchange, Tells}
use Rattle.sip_verifier.specs.Snapshots.{Counts, Snapshot, IsTold}
use Rattle.sip_verifier.specs.Statuses.{FaultClause}
use Rattle.sip_command_tests.specs.Moves.{Held, Moves}

-- the moment of ports that hold this, and have failed so often
abbrev pub moment_of : Held → Counts → Snapshot
moment_of h faults = record {
  first = Some h.first;
  second = Some h.second;
  talk = Some h.talk;
  report = Some (outs h.report);
  keep = Some (outs h.keep);
  faults = faults;
}

-- every port tells
pub all_told : (h : Held) (faults : Counts) → IsTold (moment_of h faults)
all_told h faults = record { first = cc; second = cc; talk = cc; report = cc }

-- bytes that went out behind others are the new ones
new_bytes : (old new more : List ℕ) → outs new ≡ outs old ++ outs more → new ≡ old ++ more
new_bytes old new more e = outs-injective new (old ++ more) (e ∙ sym (map-append Out old more))

-- what is new on a sink that tells its bytes
told_new : (old new : List ℕ) (kept : Option (List ℕ)) → Appends (Some (outs old)) (Some (outs new)) kept → (bytes : List ℕ) × (kept ≡ Some bytes) × (new ≡ old ++ bytes)
told_new old new None untold = absurd cc
told_new old new (Some bytes) (had, was, is) =
    let wrote : had ≡ outs old = cc in
    (bytes, refl, new_bytes old new bytes cc)

-- an exchange that is told between two moments is what moved
pub Moves-told : (old new : Held) (before now : Counts) (x : Exchange) → Tells (moment_of old before) (moment_of new now) x → Moves old new x
Moves-told old new before now x t =
    let had : t.talk.0 ≡ old.talk = let e = t.talk.1 in cc in
    let wrote : t.report.0 ≡ outs old.report = let e = t.report.1 in cc in
    record {
      stream = let e = t.stream in cc;
      unread = let e = t.unread in cc;
      seed = let e = t.seed in cc;
      talk = let e = t.talk.2 in cc;
      report = new_bytes old.report new.report x.report (let e = t.report.2 in cc);
      kept = told_new old.keep new.keep x.kept t.kept;
    }

-- ---- a port whose count is 0 had no fault

module _ (before now : Counts) (status : Status) (fault : FaultClause before now status) where
  pub first_sure : now.first ≡ 0 → status ≡ statuses.ReadFault ports.First → ⊥
  first_sure none is = Rose-positive _ _ (subst (FaultClause before now) is fault) none

  pub second_sure : now.second ≡ 0 → status ≡ statuses.ReadFault ports.Second → ⊥
  second_sure none is = Rose-positive _ _ (subst (FaultClause before now) is fault) none

  pub peer_sure : now.peer ≡ 0 → status ≡ statuses.PeerFault → ⊥
  peer_sure none is = Rose-positive _ _ (subst (FaultClause before now) is fault) none

  pub report_sure : now.report ≡ 0 → status ≡ statuses.WriteFault ports.Report → ⊥
  report_sure none is = Rose-positive _ _ (subst (FaultClause before now) is fault) none

  pub keep_sure : now.keep ≡ 0 → status ≡ statuses.WriteFault ports.Keep → ⊥
  keep_sure none is = Rose-positive _ _ (subst (FaultClause before now) is fault) none
