-- What goes out at the end of a stream.
use Rattle.std.proofs.Common.{◌≡◌, ◌+◌, ◌/◌, ◌<◌, ◌≤◌, List, [], ◌∷◌, ◌++◌, length, map, take, ap, ◌∙◌, arith, append-nil, take_all}
use Rattle.std.specs.List.{flat_map}
use Rattle.sip_wire.specs.declared.version.Version.{Version}
use Rattle.sip_vector.specs.declared.update.Update.{Update}
use Rattle.sip_vector.specs.Pieces.{pieces}
use Rattle.sip_wire.specs.declared.message.Message.TheVariants as messages
use Rattle.sip_wire.specs.Spelling.{spelling}
use Rattle.sip_verifier.specs.Feeding.{due_at_end}
use Rattle.sip_verifier.proofs.StreamSent.{frame}

-- where none waits, the end
pub due-none : (version : Version) → due_at_end version [] ≡ spelling version messages.EndStream
due-none version = append-nil (spelling version messages.EndStream)

-- where some wait, their frame and the end
pub due-some : (version : Version) (waiting : List Update) → 0 < length waiting → length waiting ≤ 512 → due_at_end version waiting ≡ spelling version (frame waiting) ++ spelling version messages.EndStream
due-some version waiting some few =
    let one : (length waiting + 511) / 512 ≡ 1 = omega arith in
    let all : take 512 waiting ≡ waiting = take_all 512 waiting (omega arith) in
    ap (λ n. flat_map (spelling version) (map frame (pieces 512 n waiting) ++ messages.EndStream ∷ [])) one
    ∙ ap (λ l. spelling version (frame l) ++ (spelling version messages.EndStream ++ [])) all
    ∙ ap (λ l. spelling version (frame waiting) ++ l) (append-nil (spelling version messages.EndStream))
