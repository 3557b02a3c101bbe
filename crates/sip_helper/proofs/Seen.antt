-- What is seen of two vectors, settled or not.
use Rattle.sip_vector.specs.Vectors.{StoredVector, contents}
use Rattle.sip_helper.specs.Vectors.{Vectors}

abbrev pub seen : StoredVector → StoredVector → Vectors
seen first second = record { first = contents first; second = contents second }
