-- What is told of a stream by a few numbers.
use Rattle.std.specs.Prelude.{◌≡◌, ◌+◌, ◌%◌, ◌^◌, ◌≤◌, Bool, true, ◌||◌, int_lt, pos, List, length}
use Rattle.std.specs.List.{list_any}
use Rattle.sip_vector.specs.declared.update.Side.{Side}
use Rattle.sip_vector.specs.declared.update.Side.TheVariants.{First, Second}
use Rattle.sip_vector.specs.declared.update.Update.{Update}
use Rattle.sip_vector.specs.declared.tally.Negatives.{Negatives}
use Rattle.sip_vector.specs.declared.tally.Tally.{Tally}
use Rattle.sip_vector.specs.Fingerprints.{fingerprint}
use Rattle.sip_vector.specs.Streams.{of_side, weight, most_weight}

-- whether a side had a delta below 0
abbrev pub has_negative : List Update → Side → Bool
has_negative stream side = list_any (λ u. int_lt u.delta (pos 0)) (of_side stream side)

-- which sides had one
abbrev pub negatives : List Update → Negatives
negatives stream =
    record { first = has_negative stream First; second = has_negative stream Second }

-- how many updates a stream has, the weights of its sides, which of these had a delta below 0, and
-- its fingerprint
abbrev pub tally : List Update → Tally
tally stream = record {
  count = length stream;
  first = weight stream First;
  second = weight stream Second;
  negatives = negatives stream;
  fingerprint = fingerprint stream;
}

-- those that either tells of
abbrev pub either : Negatives → Negatives → Negatives
either a b = record { first = a.first || b.first; second = a.second || b.second }

-- what is told of two streams, one behind the other
abbrev pub joined : Tally → Tally → Tally
joined a b = record {
  count = a.count + b.count;
  first = a.first + b.first;
  second = a.second + b.second;
  negatives = either a.negatives b.negatives;
  fingerprint = (a.fingerprint + b.fingerprint) % 2 ^ 64;
}

-- what is so of each legal stream: a delta is not 0, and a side without weight has none
pub record IsSound (t : Tally) : Type 0 where
  pub count : t.count ≤ t.first + t.second
  pub first : t.first ≤ most_weight
  pub second : t.second ≤ most_weight
  pub first_negative : t.negatives.first ≡ true → 1 ≤ t.first
  pub second_negative : t.negatives.second ≡ true → 1 ≤ t.second
