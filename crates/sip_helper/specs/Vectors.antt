-- The vectors of the two sides, as what they add up to.
use Rattle.sip_vector.specs.declared.update.Side.{Side}
use Rattle.sip_vector.specs.declared.update.Side.TheVariants as sides
use Rattle.sip_vector.specs.Vectors.{SideVector}

pub record Vectors : Type 0 where
  pub first : SideVector
  pub second : SideVector

-- the vector of a side
abbrev pub vector_of : Vectors → Side → SideVector
vector_of v sides.First = v.first
vector_of v sides.Second = v.second
