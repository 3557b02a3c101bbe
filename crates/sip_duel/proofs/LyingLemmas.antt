-- What a liar appends.
use Rattle.std.proofs.Common.{◌≡◌, ◌≢◌, ℕ, false, List, [], ◌∷◌, length}
use Rattle.std.specs.Bool.{◌==◌}

-- a reply whose length is not 0
pub has_some : (bytes : List ℕ) → false ≡ (length bytes == 0) → bytes ≢ []
has_some [] e none = absurd cc
has_some (b ∷ bytes) e none = absurd cc
