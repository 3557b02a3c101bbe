-- What a call keeps that asks a query over places, by what the general talk did.
use Rattle.std.proofs.Common.{◌≡◌, ℕ, Result, Err, List, length, take, subst}
use Rattle.sip_ports.specs.Ports.{Rose}
use Rattle.sip_vector.specs.declared.query.Query.{Query}
use Rattle.sip_vector.specs.declared.update.Entry.{Entry}
use Rattle.sip_vector.specs.declared.update.Update.{Update}
use Rattle.sip_wire.specs.declared.message.Message.TheVariants as messages
use Rattle.sip_wire.specs.declared.version.Version.{Version}
use Rattle.sip_replies.specs.declared.asking.AskStop.{AskStop}
use Rattle.sip_replies.specs.declared.asking.AskStop.TheVariants as stops
use Rattle.sip_replies.specs.declared.check.Said.{Said}
use Rattle.sip_replies.specs.Asking.{Answers}
use Rattle.sip_replies.specs.Protocols.{Protocol}
use Rattle.sip_verifier.specs.Asking.{Asks}
use Rattle.sip_verifier.specs.inside.AskedOver.{AsksOver}
use Rattle.sip_verifier.specs.inside.Judging.{found_in, verdict_of}
use Rattle.sip_verifier.specs.inside.Protocols.{IsProtocol}
use Rattle.sip_verifier.specs.Snapshots.{SinkState, Span, between}
use Rattle.sip_verifier.proofs.KeptAsks.{asked_keeps}
use Rattle.sip_verifier.proofs.QueryAsked.{asks}

-- by a protocol, for each stream of whose query's kind this is the protocol
pub asked_over : {S : Type 0} (P : Protocol S) (query : Query) (block at : List ℕ) (places placed : List Entry) (result : Result Said AskStop) (old new before now : SinkState)
    → at ≡ block → Answers P (messages.Query query) at old.told new.told before.told now.told placed result → length placed ≡ length places
    → (result ≡ Err stops.PeerFault → Rose old.faults new.faults) → (result ≡ Err stops.KeepFault → Rose before.faults now.faults)
    → (result ≡ Err stops.OutOfMemory → Rose old.wants new.wants) → (result ≡ Err stops.KeepOutOfMemory → Rose before.wants now.wants)
    → AsksOver P.rules.version query block (λ depth stream. IsProtocol P.rules.version depth stream query block P) places placed result (between old new) (between before now)
asked_over P query block at places placed result old new before now own answers size peer keeper memory keeper_memory =
    let given = subst (λ (b : List ℕ). Answers P (messages.Query query) b old.told new.told before.told now.told placed result) own answers in
    record {
      asks = λ depth stream is. asks P.rules.version depth stream query block old.told new.told before.told now.told P is placed result given;
      places = size;
      keeps = asked_keeps P (messages.Query query) block old new before now placed result given peer keeper memory keeper_memory;
    }

-- so it is for other streams too, of which it is known, and at the same challenges
pub over_others : {version : Version} {query : Query} {block own : List ℕ} {Some Others : ℕ → List Update → Type 0} {places placed : List Entry} {result : Result Said AskStop} {link keep : Span}
    → own ≡ block → ((depth : ℕ) (stream : List Update) → Others depth stream → Some depth stream)
    → AsksOver version query own Some places placed result link keep → AsksOver version query block Others places placed result link keep
over_others {version = version} {query = query} {placed = placed} {result = result} {link = link} same known over = record {
  asks = λ depth stream stands. subst (λ (b : List ℕ). Asks version depth stream query b link.before.told link.after.told (take (found_in (length placed) result) placed) (verdict_of result)) same (over.asks depth stream (known depth stream stands));
  places = over.places;
  keeps = over.keeps;
}
