-- What came of the bytes that are there of a helper's next frame.
use Rattle.std.specs.Prelude.{◌≡◌, ℕ, ◌+◌, ◌<◌, ◌≤◌, Bool, IsTrue, List, [], ◌++◌, length, Option}
use Rattle.std.specs.Prelude.{Some, None}
use Rattle.sip_ports.specs.Ports.{ins, outs}
use Rattle.sip_wire.specs.Frames.{frame_bytes}
use Rattle.sip_wire.specs.Spelling.{asked}
use Rattle.sip_wire.specs.Taking.{room_for}
use Rattle.sip_helper.specs.declared.status.HelpStatus.{HelpStatus}
use Rattle.sip_helper.specs.OneTurn.{StopsTurn, Taken}
use Rattle.sip_helper.specs.Rules.{TurnRules}
use Rattle.sip_steps.specs.declared.coming.Came.{Came}
use Rattle.sip_steps.specs.declared.coming.Came.TheVariants.{Part, Turn, End}
use Rattle.sip_steps.specs.declared.coming.Coming.{Coming}

-- how the talk ended with them, where it did
abbrev pub end_of : Came → Option HelpStatus
end_of Part = None
end_of Turn = None
end_of (End status) = Some status

-- By the helper before and then, what was sent, and what there is of the frame before and then.
module _ {H : Type 0} (r : TurnRules H) (left : H → ℕ) (is_live : H → Bool) (s next : H)
    (sent : List ℕ) (old new : Coming) where
  -- they are a part of a frame, which is still there
  pub record ComesPart : Type 0 where
    pub silent : sent ≡ []
    pub same : next ≡ s
    pub there : frame_bytes new.frame ≡ frame_bytes old.frame
    pub short : length (frame_bytes old.frame)
        < asked (r.version s) (r.place s) (frame_bytes old.frame)
    pub lacks : new.lacking ≤ room_for (r.version s) (r.place s) (frame_bytes old.frame)
    pub at : new.offset ≡ old.offset

  -- they were a message, which was answered: no byte of the next frame is there
  pub record ComesTurn : Type 0 where
    pub taken : Taken r (Some []) (Some (ins (frame_bytes old.frame) ++ outs sent)) s next
        (frame_bytes old.frame)
    pub live : IsTrue (is_live next)
    pub fewer : left next < left s
    pub empty : frame_bytes new.frame ≡ []
    pub unknown : new.lacking ≡ 0
    pub at : new.offset ≡ old.offset + length (frame_bytes old.frame)

  -- or the talk ended with them
  abbrev pub Comes : Came → Type 0
  Comes Part = ComesPart
  Comes Turn = ComesTurn
  Comes (End status) =
      StopsTurn r (Some []) (Some (ins (frame_bytes old.frame) ++ outs sent)) s old.offset status
