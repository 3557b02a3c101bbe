-- What a helper shows of the stream that it heard.
use Rattle.std.specs.Prelude.{ℕ, ◌+◌, Option, Some, None}
use Rattle.std.specs.Option.{option_map}
use Rattle.sip_vector.specs.declared.update.Side.{Side}
use Rattle.sip_vector.specs.declared.update.Side.TheVariants as sides
use Rattle.sip_vector.specs.Vectors.{SideVector}
use Rattle.sip_wire.specs.declared.version.Version.{Version}
use Rattle.sip_helper.specs.declared.heard.Heard.{Heard}
use Rattle.sip_helper.specs.declared.heard.Heard.TheVariants.{Nothing, Part, Whole}
use Rattle.sip_helper.specs.declared.vectors.Weights.{Weights}
use Rattle.sip_helper.specs.Turns.{HelperState}
use Rattle.sip_helper.specs.Vectors.{vector_of}

-- the depth of the opening, where one was heard
abbrev pub opened : Heard → Option ℕ
opened Nothing = None
opened (Part depth) = Some depth
opened (Whole depth) = Some depth

-- the version of the opening, where one was heard
abbrev pub opened_version : HelperState → Option Version
opened_version s = option_map (λ depth. s.version) (opened s.heard)

-- the weight of a side
abbrev pub weight_of : Weights → Side → ℕ
weight_of w sides.First = w.first
weight_of w sides.Second = w.second

-- the vector of a side, where the stream has ended and no memory was refused while it was heard
abbrev pub shown_vector : HelperState → Side → Option SideVector
shown_vector s side =
    elim s.heard [ Whole depth ↦ option_map (λ v. vector_of v side) s.vectors | _ ↦ None ]

-- one query more was asked
abbrev pub counted : HelperState → HelperState
counted s = record s { queries = s.queries + 1 }
