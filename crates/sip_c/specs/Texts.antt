-- What statuses say.
use Rattle.std.specs.Prelude.{◌≡◌, ℕ, ◌<◌, ◌==◌, List, ◌++◌, drop, length, codes}
use Rattle.std.specs.Prelude.{Ok, Err, if◌then◌else◌}
use Rattle.sip_c.specs.Statuses.{Answer}
use Rattle.sip_c.specs.declared.refusal.Refusal.TheVariants as refusals

-- the text of each status
abbrev pub text_of : ℕ → List ℕ
text_of status =
    if status == 0 then codes "all went well"
    else if status == 1 then codes "memory was refused"
    else if status == 2 then codes "the handle is empty"
    else if status == 3 then codes "the handle is not empty"
    else if status == 5 then codes "the buffer is too short"
    else if status == 7 then codes "a count or a length is out of its range"
    else if status == 8 then codes "a number stands for no kind, side or form"
    else if status == 16 then codes "the depth is not 1 to 48"
    else if status == 17 then codes "the part is not 1 to the number of parts"
    else if status == 18 then codes "the seed gives no challenge"
    else if status == 19 then codes "the bytes are no sketch"
    else if status == 24 then codes "the side of an update is not 0 or 1"
    else if status == 25 then codes "the item of an update is not below 2^depth"
    else if status == 26 then codes "the delta of an update is 0"
    else if status == 27 then codes "the weight of a side would be above 2^30 - 1"
    else if status == 32 then codes "the part has other seats"
    else if status == 33 then codes "all parts are in the part"
    else if status == 34 then codes "a seat of the part is used"
    else if status == 35 then codes "the part is not the next one"
    else if status == 4 then codes "the handle has something of another type"
    else if status == 6 then codes "the call is not for this step"
    else if status == 40 then codes "not all parts of the stream are in"
    else if status == 41 then codes "a question does not fit the depth"
    else if status == 42 then codes "a question is for heavy hitters of a side with negatives"
    else if status == 43 then codes "no unused seat serves a question"
    else if status == 44 then codes "an answer may have too many entries"
    else if status == 45 then codes "a moment may be too high"
    else if status == 48 then codes "the replies to a question were rejected"
    else if status == 49 then codes "the other end holds another stream"
    else if status == 50 then codes "a frame came that may not come"
    else if status == 51 then codes "the other end closed before the end"
    else codes "no status"

-- the text is in front; or its length is told where there is no room for it
abbrev pub IsTold : List ℕ → List ℕ → List ℕ → ℕ → Answer → Type 0
IsTold text to to' size (Ok done) = (size ≡ length text) × (to' ≡ text ++ drop (length text) to)
IsTold text to to' size (Err refusals.NoRoom) =
    (size ≡ length text) × (to' ≡ to) × (length to < length text)
IsTold text to to' size _ = ⊥
