-- What each value is, each element is.
use Rattle.std.proofs.Common.{List, All}
use Rattle.std.specs.List.{Contains}
use Rattle.std.proofs.lemmas.List.Elements.{All-weaker, All-contains_itself}

pub everywhere : {X : Type 0} (P : X → Type 0) (xs : List X) → ((x : X) → P x) → All P xs
everywhere P xs h = All-weaker (Contains xs) P (λ x here. h x) xs (All-contains_itself xs)
