-- Seats of which none is for heavy hitters have room for everything.
use Rattle.std.proofs.Common.{◌≡◌, ℕ, Bool, true, false, true≢false, ◌<◌, List, [], ◌∷◌, length, map, get_or, All, refl, sym, ◌∙◌, subst}
use Rattle.std.specs.Prelude.{IsTrue}
use Rattle.std.specs.List.{list_all}
use Rattle.std.proofs.lemmas.Bool.{and_parts}
use Rattle.std.proofs.lemmas.List.Elements.{All-nil, All-cons}
use Rattle.sip_vector.specs.declared.query.Query.{Query}
use Rattle.sip_vector.specs.declared.query.Query.TheVariants.{Sub, Range, F2, Inner, Heavy, Share, Above}
use Rattle.sip_vector.specs.declared.update.Side.{Side}
use Rattle.sip_vector.specs.declared.update.Update.{Update}
use Rattle.sip_verifier.specs.QuerySeats.{Seated, is_heavy_of}
use Rattle.sip_verifier.specs.Seats.{AreSeats, Seating}

abbrev pub not_heavy : Query → Bool
not_heavy (Heavy side least) = false
not_heavy (Share side num den) = false
not_heavy _ = true

never_heavy : (query : Query) (side : Side) → not_heavy query ≡ true → is_heavy_of query side ≡ false
never_heavy (Sub lo hi) side is = refl
never_heavy (Range own lo hi) side is = refl
never_heavy (F2 own) side is = refl
never_heavy Inner side is = refl
never_heavy (Heavy own least) side is = absurd cc
never_heavy (Share own num den) side is = absurd cc
never_heavy (Above own least) side is = refl

none_heavy : (seats : List Seated) (side : Side) → IsTrue (list_all not_heavy (map (λ (s : Seated). s.query) seats)) → All (λ s. is_heavy_of s.query side ≡ false) seats
none_heavy [] side none = All-nil (λ (s : Seated). is_heavy_of s.query side ≡ false)
none_heavy (s ∷ seats) side none =
    let both = and_parts (not_heavy s.query) (list_all not_heavy (map (λ (x : Seated). x.query) seats)) none in
    All-cons (λ (x : Seated). is_heavy_of x.query side ≡ false) s seats (never_heavy s.query side both.0) (none_heavy seats side both.1)

pub no_heavy_seat : (depth : ℕ) (queries : List Query) (blocks : List (List ℕ)) (stream : List Update) (s : Seating)
    → AreSeats depth queries blocks stream s → IsTrue (list_all not_heavy queries)
    → (side : Side) (k : ℕ) (d : Seated) → k < length s.seats → IsTrue (is_heavy_of (get_or s.seats k d).query side) → ⊥
no_heavy_seat depth queries blocks stream s are none side k d lt heavy =
    let never = none_heavy s.seats side (subst (λ l. IsTrue (list_all not_heavy l)) (sym are.asked) none) k d lt in
    true≢false (sym heavy ∙ never)
