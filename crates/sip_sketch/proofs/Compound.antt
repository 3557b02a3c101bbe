-- A sketch to which some updates came, and then others.
use Rattle.std.proofs.Common.{◌≡◌, ℕ, ◌+◌, ◌-◌, ◌%◌, ◌^◌, ◌<◌, ◌≤◌, ◌*◌, ◌≢◌, Bool, true, false, ◌||◌, List, [], ◌∷◌, ◌++◌, length, All, refl, sym, ap, subst, ◌∙◌, arith, append_assoc, append-nil, length-append, pos}
use Rattle.std.specs.List.{AllZip}
use Rattle.std.proofs.Math.Bool.{or_assoc}
use Rattle.std.proofs.Math.Seq.{take-length}
use Rattle.std.proofs.lemmas.List.{take-append-le}
use Rattle.sip_vector.specs.Tallies.{joined, tally}
use Rattle.sip_vector.specs.Streams.{IsLegal, most_weight, weight}
use Rattle.sip_vector.specs.declared.tally.Tally.{Tally}
use Rattle.sip_vector.specs.declared.update.Update.{Update}
use Rattle.sip_vector.specs.declared.update.Side.TheVariants.{First, Second}
use Rattle.sip_vector.proofs.Joined.{tally-append}
use Rattle.sip_vector.proofs.Sides.{weight-append}
use Rattle.std.proofs.lemmas.List.Elements.{All-nil, All-tail}
use Rattle.sip_sketch.specs.Sketches.{IsSketch, SeatValues, SketchValues, spelled_file}
use Rattle.sip_sketch.specs.Standing.{MayCome, Stands}
use Rattle.sip_sketch.specs.inside.Raising.{IsGrown}
use Rattle.sip_sketch.specs.Watching.{IsFileAt}
use Rattle.sip_sketch.proofs.Sound.{come_sound, sound_from}
use Rattle.sip_sketch.proofs.Whole.{head_from, ranged_from}
use Rattle.sip_sketch.specs.declared.cursor.Size.TheVariants.{Long}

-- ---- lists, place by place

pub zip_append : {A B : Type 0} (R : A → B → Type 0) (xs us : List A) (ys vs : List B) → AllZip R xs ys → AllZip R us vs → AllZip R (xs ++ us) (ys ++ vs)
zip_append R [] us [] vs h k = k
zip_append R [] us (y ∷ ys) vs h k = absurd h
zip_append R (x ∷ xs) us [] vs h k = absurd h
zip_append R (x ∷ xs) us (y ∷ ys) vs h k = (h.0, zip_append R xs us ys vs h.1 k)

pub zip_lift : {A B : Type 0} (R Q : A → B → Type 0) (xs : List A) (ys : List B) → ((x : A) (y : B) → R x y → Q x y) → AllZip R xs ys → AllZip Q xs ys
zip_lift R Q [] [] f h = tt
zip_lift R Q [] (y ∷ ys) f h = absurd h
zip_lift R Q (x ∷ xs) [] f h = absurd h
zip_lift R Q (x ∷ xs) (y ∷ ys) f h = (f x y h.0, zip_lift R Q xs ys f h.1)

zip_same : {A : Type 0} (R : A → A → Type 0) (xs : List A) → ((x : A) → R x x) → AllZip R xs xs
zip_same R [] f = tt
zip_same R (x ∷ xs) f = (f x, zip_same R xs f)

zip_then : {A : Type 0} (R Q S : A → A → Type 0) (xs ys zs : List A) → ((x y z : A) → R x y → Q y z → S x z) → AllZip R xs ys → AllZip Q ys zs → AllZip S xs zs
zip_then R Q S [] [] [] f h k = tt
zip_then R Q S [] [] (z ∷ zs) f h k = absurd k
zip_then R Q S [] (y ∷ ys) zs f h k = absurd h
zip_then R Q S (x ∷ xs) [] zs f h k = absurd h
zip_then R Q S (x ∷ xs) (y ∷ ys) [] f h k = absurd k
zip_then R Q S (x ∷ xs) (y ∷ ys) (z ∷ zs) f h k = (f x y z h.0 k.0, zip_then R Q S xs ys zs f h.1 k.1)

-- ---- what is told of them

or_none : (a : Bool) → (a || false) ≡ a
or_none true = refl
or_none false = refl

joined_none : (t : Tally) → t.fingerprint < 2 ^ 64 → joined t (tally []) ≡ t
joined_none t small =
    let count : t.count + 0 ≡ t.count = omega arith in
    let first : t.first + 0 ≡ t.first = omega arith in
    let second : t.second + 0 ≡ t.second = omega arith in
    let print : (t.fingerprint + 0) % 2 ^ 64 ≡ t.fingerprint = omega (arith, small) in
    let one = or_none t.negatives.first in
    let other = or_none t.negatives.second in
    λ i. record { count = count i; first = first i; second = second i; negatives = record { first = one i; second = other i }; fingerprint = print i }

joined_assoc : (t u v : Tally) → joined (joined t u) v ≡ joined t (joined u v)
joined_assoc t u v =
    let count : t.count + u.count + v.count ≡ t.count + (u.count + v.count) = omega arith in
    let first : t.first + u.first + v.first ≡ t.first + (u.first + v.first) = omega arith in
    let second : t.second + u.second + v.second ≡ t.second + (u.second + v.second) = omega arith in
    let print : ((t.fingerprint + u.fingerprint) % 2 ^ 64 + v.fingerprint) % 2 ^ 64 ≡ (t.fingerprint + (u.fingerprint + v.fingerprint) % 2 ^ 64) % 2 ^ 64 = omega arith in
    let one = or_assoc t.negatives.first u.negatives.first v.negatives.first in
    let other = or_assoc t.negatives.second u.negatives.second v.negatives.second in
    λ i. record { count = count i; first = first i; second = second i; negatives = record { first = one i; second = other i }; fingerprint = print i }

-- ---- sketches

abbrev SameSeat : SeatValues → SeatValues → Type 0
SameSeat was now = (now.kind ≡ was.kind) × (now.is_used ≡ was.is_used) × (now.block ≡ was.block)

abbrev SameUsed : SeatValues → SeatValues → Type 0
SameUsed was now = was.is_used ≡ true → now ≡ was

-- where no update came
pub grown_none : (s : SketchValues) → IsSketch s → IsGrown [] s s
grown_none s is = record {
  kept = record { depth = refl; parts = refl; seats = zip_same SameSeat s.seats (λ x. (refl, refl, refl)) };
  told = sym (joined_none s.tally (omega (arith, (ranged_from Long 0 (2 ^ 64 - 1) s.tally.fingerprint (head_from s is).fingerprint).1)));
  used = zip_same SameUsed s.seats (λ x used. refl);
  stands = λ stream stands. subst (λ (l : List Update). Stands l s) (sym (append-nil stream)) stands;
}

pub grown_more : (s mid now : SketchValues) (us more : List Update) → IsGrown us s mid → IsGrown more mid now → IsGrown (us ++ more) s now
grown_more s mid now us more one other = record {
  kept = record {
    depth = other.kept.depth ∙ one.kept.depth;
    parts = other.kept.parts ∙ one.kept.parts;
    seats = zip_then SameSeat SameSeat SameSeat s.seats mid.seats now.seats (λ x y z h k. (k.0 ∙ h.0, k.1 ∙ h.1, k.2 ∙ h.2)) one.kept.seats other.kept.seats;
  };
  told = other.told ∙ ap (λ (t : Tally). joined t (tally more)) one.told ∙ joined_assoc s.tally (tally us) (tally more) ∙ ap (joined s.tally) (sym (tally-append us more));
  used = zip_then SameUsed SameUsed SameUsed s.seats mid.seats now.seats (λ x y z h k used. k (ap (λ (v : SeatValues). v.is_used) (h used) ∙ used) ∙ h used) one.used other.used;
  stands = λ stream stands.
      subst (λ (l : List Update). Stands l now) (append_assoc stream us more) (other.stands (stream ++ us) (one.stands stream stands));
}

-- a file stays the one of that number of records, where more came
pub file_later : (s : SketchValues) (added more : List Update) (count : ℕ) (file : List ℕ) → IsFileAt s added count file → IsFileAt s (added ++ more) count file
file_later s added more count file was = record {
  within = omega (arith, was.within, length-append added more);
  now = was.now;
  is = was.is;
  grown = subst (λ (l : List Update). IsGrown l s was.now) (sym (take-append-le count added more was.within)) was.grown;
  spelled = was.spelled;
}

-- and now it is that of all
pub file_now : (s now : SketchValues) (added : List Update) → IsGrown added s now → IsSketch now → IsFileAt s added (length added) (spelled_file now)
file_now s now added grown is = record {
  within = omega arith;
  now = now;
  is = is;
  grown = subst (λ (l : List Update). IsGrown l s now) (sym (take-length added)) grown;
  spelled = refl;
}

-- each update makes the sketch heavier, which has a limit
pub heavier : (s now : SketchValues) (us : List Update) → MayCome s us → IsGrown us s now → 1 ≤ length us
    → (s.tally.first + s.tally.second < now.tally.first + now.tally.second) × (now.tally.first + now.tally.second ≤ 2 * most_weight)
heavier s now us come grown some =
    let sound = come_sound s us come in
    let one : now.tally.first ≡ s.tally.first + weight us First = ap (λ (t : Tally). t.first) grown.told in
    let other : now.tally.second ≡ s.tally.second + weight us Second = ap (λ (t : Tally). t.second) grown.told in
    (omega (arith, sound.count, one, other), omega (arith, one, other, come.first, come.second))

all_behind : {X : Type 0} (P : X → Type 0) (xs ys : List X) → All P (xs ++ ys) → All P ys
all_behind P [] ys all = all
all_behind P (x ∷ xs) ys all = all_behind P xs ys (All-tail P x (xs ++ ys) all)

-- what is legal behind the stream that a sketch stands for may come to it
pub legal_comes : (s : SketchValues) (stream us : List Update) → Stands stream s → IsLegal s.depth (stream ++ us) → MayCome s us
legal_comes s stream us stands legal =
    let one : s.tally.first ≡ weight stream First = ap (λ (t : Tally). t.first) stands.told in
    let other : s.tally.second ≡ weight stream Second = ap (λ (t : Tally). t.second) stands.told in
    record {
      items = all_behind (λ (u : Update). u.item < 2 ^ s.depth) stream us legal.items;
      deltas = all_behind (λ (u : Update). u.delta ≢ pos 0) stream us legal.deltas;
      first = omega (arith, one, weight-append stream us First, legal.first);
      second = omega (arith, other, weight-append stream us Second, legal.second);
    }

-- and so may nothing
pub none_comes : (s : SketchValues) → IsSketch s → MayCome s []
none_comes s is =
    let sound = sound_from s (head_from s is) in
    record {
      items = All-nil (λ (u : Update). u.item < 2 ^ s.depth);
      deltas = All-nil (λ (u : Update). u.delta ≢ pos 0);
      first = omega (arith, sound.first);
      second = omega (arith, sound.second);
    }
