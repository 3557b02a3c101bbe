-- What a feed has still to send.
use Rattle.std.specs.Prelude.{ℕ, ◌+◌, ◌^◌, ◌==◌, ◌&&◌, Bool, not, nat_abs, nat_le, nat_lt, List, []}
use Rattle.std.specs.Prelude.{◌∷◌, ◌++◌, length, flat_map, if◌then◌else◌}
use Rattle.sip_wire.specs.Table.{most_rows}
use Rattle.sip_vector.specs.declared.update.Update.{Update}
use Rattle.sip_vector.specs.Answers.{is_zero}
use Rattle.sip_wire.specs.declared.message.Message.TheVariants as messages
use Rattle.sip_wire.specs.declared.version.Version.{Version}
use Rattle.sip_wire.specs.Versions.{index_width}
use Rattle.sip_wire.specs.Spelling.{spelling}
use Rattle.sip_verifier.specs.Talks.{update_frames}

-- the version of the frames, the updates that wait for one, and whether a call refused
pub record Waiting : Type 0 where
  pub version : Version
  pub waiting : List Update
  pub is_spent : Bool

-- an update that a frame can have: its item has room in its bytes, and its delta is not 0 and has
-- room in eight
abbrev pub has_spelling : Version → Update → Bool
has_spelling version u =
    nat_lt u.item (256 ^ index_width version) && not (is_zero u.delta)
    && nat_le (nat_abs u.delta) (2 ^ 63)

-- with one more update the frame is full
abbrev pub fills : List Update → Bool
fills waiting = length waiting + 1 == most_rows

-- what goes out once this update comes behind those that wait: a frame, where it is full then
abbrev pub due_with : Version → List Update → Update → List ℕ
due_with version waiting u =
    if fills waiting then spelling version (messages.Updates (record { items = waiting ++ u ∷ [] }))
    else []

-- those that wait then
abbrev pub waiting_with : List Update → Update → List Update
waiting_with waiting u = if fills waiting then [] else waiting ++ u ∷ []

-- what goes out at the end of the stream: a frame of those that wait, where there are any, and the
-- end
abbrev pub due_at_end : Version → List Update → List ℕ
due_at_end version waiting =
    flat_map (spelling version) (update_frames waiting ++ messages.EndStream ∷ [])
