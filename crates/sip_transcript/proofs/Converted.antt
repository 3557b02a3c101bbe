-- A run's transcript in version 2 tells the same run.
use Rattle.std.proofs.Common.{◌≡◌, ℕ, ◌≤◌, Option, Some, None, List, [], ◌++◌, length, refl, sym, ap, ◌∙◌, arith}
use Rattle.std.specs.Prelude.{All}
use Rattle.std.specs.List.{flat_map}
use Rattle.std.proofs.lemmas.List.{append_cancel_left}
use Rattle.std.proofs.lemmas.List.Elements.{All-weaker}
use Rattle.sip_ports.specs.declared.port.TalkEvent.{TalkEvent}
use Rattle.sip_ports.specs.Ports.{outs}
use Rattle.sip_ports.proofs.TalkLemmas.{outs-injective}
use Rattle.sip_wire.specs.declared.message.Message.{Message}
use Rattle.sip_wire.specs.declared.version.Version.{Version}
use Rattle.sip_wire.specs.declared.version.Version.TheVariants.{One, Two}
use Rattle.sip_wire.specs.Spelling.{spelling}
use Rattle.sip_wire.specs.Transcript.{transcript}
use Rattle.sip_wire.specs.Versions.{deepest}
use Rattle.sip_wire.proofs.Wider.{fits_two}
use Rattle.sip_verifier.specs.declared.status.Status.TheVariants as statuses
use Rattle.sip_transcript.specs.Conversions.{in_version_2, run_in_version_2}
use Rattle.sip_transcript.specs.Fields.{head_fault}
use Rattle.sip_transcript.specs.Heads.{Ask, IsAsk, IsRun}
use Rattle.sip_transcript.specs.Tales.{IsOfRun, IsReply, Tale, tale_of, text_of}
use Rattle.sip_transcript.specs.Writing.{Writes}
use Rattle.sip_transcript.proofs.Growing.{run-has_no_fault}
use Rattle.sip_transcript.proofs.Telling.{told-back}
use Rattle.sip_transcript.proofs.Tests.{count-test, depth-test}

-- version 2 goes as deep as any
two_deep : (version : Version) → deepest version ≤ deepest Two
two_deep One = omega arith
two_deep Two = omega arith

ask_two : (version : Version) (depth : ℕ) (ask : Ask) → IsAsk version depth ask → IsAsk Two depth ask
ask_two version depth ask is =
    let speaks = is.speaks in
    let shallow = speaks.shallow in
    let most = two_deep version in record {
      fits = is.fits;
      speaks = record { shallow = omega (arith, shallow, most); has_code = refl };
      levels = is.levels;
      elements = is.elements;
    }

asks_two : (version : Version) (depth : ℕ) (asks : List Ask) → All (IsAsk version depth) asks → All (IsAsk Two depth) asks
asks_two version depth asks are = All-weaker (IsAsk version depth) (IsAsk Two depth) (λ ask is. ask_two version depth ask is) asks are

pub replies_two : (version : Version) (ms : List Message) → All (IsReply version) ms → All (IsReply Two) ms
replies_two version ms are = All-weaker (IsReply version) (IsReply Two) (λ m is. record {
  has_spelling = fits_two version m is.has_spelling;
  allowed = is.allowed;
  in_range = is.in_range;
}) ms are

-- it is a run of version 2
pub run_two : (version : Version) (depth : ℕ) (asks : List Ask) → IsRun version depth asks → IsRun Two depth asks
run_two version depth asks run =
    let shallow = run.shallow in
    let most = two_deep version in record {
      deep = run.deep;
      shallow = omega (arith, shallow, most);
      some = run.some;
      most = run.most;
      each = asks_two version depth asks run.each;
    }

pub converted_told : (version : Version) (depth : ℕ) (asks : List Ask) (ms : List Message) → IsRun version depth asks → All (IsReply version) ms
    → tale_of (in_version_2 (tale_of (transcript version depth asks (flat_map (spelling version) ms)))) ≡ record { version = Two; depth = depth; asks = asks; replies = ms; rest = [] }
converted_told version depth asks ms run are =
    ap (λ (tale : Tale). tale_of (in_version_2 tale)) (told-back version depth asks ms run.each are)
    ∙ told-back Two depth asks ms (asks_two version depth asks run.each) (replies_two version ms are)

-- ---- what `convert` writes

-- bytes that are sent behind the same talk are told by what is new
new_same : (had : List TalkEvent) (xs ys : List ℕ) → had ++ outs xs ≡ had ++ outs ys → xs ≡ ys
new_same had xs ys e = outs-injective xs ys (append_cancel_left had (outs xs) (outs ys) e)

-- what there is of a run's transcript in version 2
run_text : (bytes : List ℕ) (run : IsOfRun bytes) → text_of in_version_2 bytes ≡ run_in_version_2 run
unfolding text_of
run_text bytes run =
    let is = run.is_run in
    let none : head_fault bytes ≡ None =
    ap head_fault run.all
    ∙ run-has_no_fault run.version run.depth run.asks (flat_map (spelling run.version) run.replies) (depth-test run.version run.depth is.deep is.shallow) (count-test (length run.asks) is.some is.most) is.each in
    ap (λ (found : Option ℕ). elim found [ Some at ↦ [] | None ↦ in_version_2 (tale_of bytes) ]) none
    ∙ ap in_version_2 (ap tale_of run.all ∙ told-back run.version run.depth run.asks run.replies is.each run.are_replies)

-- where all was written, it is that of the run whose transcript there was
pub what_is_written : (bytes text : List ℕ) (left : Option (List ℕ)) (had : List TalkEvent) → Writes in_version_2 bytes left (Some had) (Some (had ++ outs text)) statuses.Wrote
    → (run : IsOfRun bytes) × (text ≡ run_in_version_2 run)
what_is_written bytes text left had (none, run, ended, wrote) = (run, new_same had text (text_of in_version_2 bytes) wrote ∙ run_text bytes run)

-- one of version 2 is the same
pub copied_two : (bytes : List ℕ) (run : IsOfRun bytes) → run.version ≡ Two → run_in_version_2 run ≡ bytes
copied_two bytes run two = ap (λ (v : Version). transcript v run.depth run.asks (flat_map (spelling v) run.replies)) (sym two) ∙ sym run.all
