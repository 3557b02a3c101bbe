-- An honest helper is heard to hold the sketch's stream.
use Rattle.std.proofs.Common.{◌≡◌, ◌≢◌, ℕ, ◌^◌, List, ◌++◌, Result, Ok, Err, refl, sym, ap, subst, ◌∙◌, arith, append_assoc}
use Rattle.std.specs.Prelude.{IsTrue, ◌+◌, ◌-◌}
use Rattle.std.proofs.lemmas.List.{append_cancel_left}
use Rattle.sip_ports.specs.Ports.{heard, ins}
use Rattle.sip_ports.specs.declared.port.TalkEvent.{TalkEvent}
use Rattle.sip_ports.proofs.TalkLemmas.{heard-append, heard-ins, heard-outs}
use Rattle.sip_vector.specs.Streams.{most_weight}
use Rattle.sip_wire.specs.Faults.{IsOfBytes}
use Rattle.sip_wire.specs.Reading.{read_frame}
use Rattle.sip_wire.specs.Spelling.{fits, spelling}
use Rattle.sip_wire.specs.declared.kind.Place.TheVariants as places
use Rattle.sip_wire.specs.declared.message.Held.{Held}
use Rattle.sip_wire.specs.declared.message.Message.{Message}
use Rattle.sip_wire.specs.declared.message.Message.TheVariants as messages
use Rattle.sip_wire.specs.declared.message.WireFault.{WireFault}
use Rattle.sip_wire.specs.declared.message.WireFault.TheVariants as faults
use Rattle.sip_wire.specs.declared.version.Version.{Version}
use Rattle.sip_wire.proofs.ReadingLaws.{read_frame-append_fault, read_frame-spelling}
use Rattle.sip_replies.specs.Talks.{IsPrefix}
use Rattle.sip_sketch.specs.Sketches.{IsSketch, SketchValues, long}
use Rattle.sip_sketch.proofs.Whole.{head_from, ranged_from}
use Rattle.sip_ask.specs.Turns.{held_by, held_heard, recall_bytes, recall_sent}
use Rattle.sip_ask.proofs.HeldHeard.{held_fits}

-- what a sketch has of its stream has a spelling
own-fits : (version : Version) (s : SketchValues) → IsSketch s → IsTrue (fits version (messages.Held (held_by s.tally)))
own-fits version s is =
    let h = head_from s is in
    let first = ranged_from (long 0 most_weight).size 0 most_weight s.tally.first h.first in
    let second = ranged_from (long 0 most_weight).size 0 most_weight s.tally.second h.second in
    let records = ranged_from (long 0 (s.tally.first + s.tally.second)).size 0 (s.tally.first + s.tally.second) s.tally.count h.records in
    let print = ranged_from (long 0 (2 ^ 64 - 1)).size 0 (2 ^ 64 - 1) s.tally.fingerprint h.fingerprint in
    held_fits version (held_by s.tally) (omega (arith, first.1, second.1, records.1)) (omega (arith, first.1)) (omega (arith, second.1)) (omega (arith, print.1))

-- what reading answers
abbrev Reads : Type 0
Reads = Result (Message × List ℕ) WireFault

abbrev fails : WireFault → Reads
fails fault = Err fault

abbrev says : Message × List ℕ → Reads
says x = Ok x

-- what the other end is read to hold, or this
abbrev held_or : Held → Reads → Held
held_or held (Ok (messages.Held h, rest)) = h
held_or held (Ok _) = held
held_or held (Err _) = held

-- a fault of bytes is not that of their end
not-closed : (fault : WireFault) → IsOfBytes fault → fault ≢ faults.Closed
not-closed fault of_bytes closed = subst IsOfBytes closed of_bytes

module _ (version : Version) (s : SketchValues) (is : IsSketch s) (rest : List ℕ) where
  abbrev own : Message
  own = messages.Held (held_by s.tally)

  -- what is heard behind the opening
  heard-behind : (more : List TalkEvent) → heard (recall_sent version s.depth s.tally.count ++ more) ≡ heard more
  heard-behind more =
      heard-append (recall_sent version s.depth s.tally.count) more
      ∙ ap (λ (l : List ℕ). l ++ heard more) (heard-outs (recall_bytes version s.depth s.tally.count))

  read-own : read_frame version places.Held (spelling version own ++ rest) ≡ Ok (own, rest)
  read-own = read_frame-spelling version places.Held own rest (own-fits version s is) refl tt

  -- no front of it is a bad frame
  pub never-bad-frame : (bytes : List ℕ) (fault : WireFault) → IsOfBytes fault → read_frame version places.Held bytes ≡ Err fault
      → IsPrefix (heard (recall_sent version s.depth s.tally.count ++ ins bytes)) (spelling version own ++ rest) → ⊥
  never-bad-frame bytes fault of_bytes bad (more, same) =
      let came : heard (recall_sent version s.depth s.tally.count ++ ins bytes) ≡ bytes = heard-behind (ins bytes) ∙ heard-ins bytes in
      let all : spelling version own ++ rest ≡ bytes ++ more = same ∙ ap (λ (l : List ℕ). l ++ more) came in
      let stays = read_frame-append_fault version places.Held bytes more fault bad (not-closed fault of_bytes) in
      let both : fails fault ≡ says (own, rest) = sym stays ∙ ap (read_frame version places.Held) (sym all) ∙ read-own in
      absurd cc

  -- and it says no other thing
  pub never-other : (held : Held) → IsTrue (fits version (messages.Held held))
      → IsPrefix (heard (recall_sent version s.depth s.tally.count ++ held_heard version held)) (spelling version own ++ rest) → held ≡ held_by s.tally
  never-other held fit (more, same) =
      let bytes = spelling version (messages.Held held) in
      let came : heard (recall_sent version s.depth s.tally.count ++ ins bytes) ≡ bytes = heard-behind (ins bytes) ∙ heard-ins bytes in
      let all : spelling version own ++ rest ≡ bytes ++ more = same ∙ ap (λ (l : List ℕ). l ++ more) came in
      let other = read_frame-spelling version places.Held (messages.Held held) more fit refl tt in
      let both : says (messages.Held held, more) ≡ says (own, rest) = sym other ∙ ap (read_frame version places.Held) (sym all) ∙ read-own in
      ap (held_or held) both

  -- where that is what was heard first, the rest is heard behind it
  pub heard-rest : (behind : List TalkEvent)
      → IsPrefix (heard ((recall_sent version s.depth s.tally.count ++ held_heard version (held_by s.tally)) ++ behind)) (spelling version own ++ rest)
      → IsPrefix (heard behind) rest
  heard-rest behind (more, same) =
      let opening = recall_sent version s.depth s.tally.count ++ held_heard version (held_by s.tally) in
      let first : heard opening ≡ spelling version own = heard-behind (held_heard version (held_by s.tally)) ∙ heard-ins (spelling version own) in
      let came : heard (opening ++ behind) ≡ spelling version own ++ heard behind = heard-append opening behind ∙ ap (λ (l : List ℕ). l ++ heard behind) first in
      let all : spelling version own ++ rest ≡ spelling version own ++ (heard behind ++ more) =
      same ∙ ap (λ (l : List ℕ). l ++ more) came ∙ append_assoc (spelling version own) (heard behind) more in
      (more, append_cancel_left (spelling version own) rest (heard behind ++ more) all)
