-- Queries that can be asked in the version that all of them need.
use Rattle.std.proofs.Common.{◌≡◌, ℕ, ◌<◌, ◌≤◌, List, length, map, get_or, sym, ap, ◌∙◌, subst, arith}
use Rattle.std.specs.Prelude.{All}
use Rattle.std.proofs.lemmas.List.{get_or-map, length-map}
use Rattle.sip_vector.specs.declared.query.Query.{Query}
use Rattle.sip_vector.specs.Limits.{most_depth}
use Rattle.sip_vector.specs.declared.update.Update.{Update}
use Rattle.sip_verifier.specs.QuerySeats.{Seated}
use Rattle.sip_verifier.specs.Seats.{AreSeats, Seating}
use Rattle.sip_wire.specs.declared.version.Version.{Version}
use Rattle.sip_wire.specs.Versions.{Speaks, needed}
use Rattle.sip_wire.proofs.Asking.{needed-speaks}

-- each of them, by what it stands in
each_speaks : {X : Type 0} (query : X → Query) (xs : List X) (d depth : ℕ) (queries : List Query) (version : Version) → depth ≤ most_depth → version ≡ needed depth queries → d ≡ depth → map query xs ≡ queries
    → All (λ x. Speaks version d (query x)) xs
each_speaks query xs d depth queries version most is deep same = λ i other less.
    let inside : i < length (map query xs) = omega (arith, length-map xs query, less) in
    let here : needed d (map query xs) ≡ version = ap (λ e. needed e (map query xs)) deep ∙ ap (needed depth) same ∙ sym is in
    let one : Speaks (needed d (map query xs)) d (query (get_or xs i other)) =
    subst (Speaks (needed d (map query xs)) d) (get_or-map query xs i other (query other) less)
    (needed-speaks d (map query xs) (omega (arith, deep, most)) i (query other) inside) in
    subst (λ (v : Version). Speaks v d (query (get_or xs i other))) here one

-- those of seats
pub seats_speak : (depth : ℕ) (queries : List Query) (blocks : List (List ℕ)) (stream : List Update) (s : Seating) (version : Version) → depth ≤ most_depth → version ≡ needed depth queries → AreSeats depth queries blocks stream s
    → All (λ (x : Seated). Speaks version s.depth x.query) s.seats
seats_speak depth queries blocks stream s version most is are = each_speaks (λ (x : Seated). x.query) s.seats s.depth depth queries version most is are.levels are.asked
