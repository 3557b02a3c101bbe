-- Records that are tested together, and what shows of them then.
use Rattle.std.specs.Prelude.{ℕ, ◌+◌, ◌-◌, ◌*◌, ◌^◌, ◌<◌, ◌≤◌, List, [], ◌∷◌, ◌++◌, take}
use Rattle.sip_vector.specs.declared.update.Update.{Update}
use Rattle.sip_vector.specs.Streams.{most_weight}
use Rattle.sip_stream.specs.declared.batch.Batch.{Batch}
use Rattle.sip_stream.specs.Layouts.{record_size}
use Rattle.sip_stream.specs.Reading.{Reading, HasRead, HasRoom, IsAfter}

-- no bit is one that no legal record has, and both sides together are light as one
pub record IsClean (depth : ℕ) (t : Batch) : Type 0 where
  pub items : t.items < 2 ^ depth
  pub sizes : t.sizes ≤ most_weight
  pub total : t.total ≤ most_weight

-- the most records of a batch
abbrev pub most_counted : ℕ
most_counted = 4294967296

-- no more than so many records were counted, so that the weight of both sides is a sum that did not
-- wrap where no size is too much
abbrev pub IsFew : ℕ → Batch → Type 0
IsFew n t = t.sizes ≤ most_weight → t.total ≤ (n + 1) * (most_weight + 1)

-- the weights and the count are those of legal records
pub record IsLight (t : Batch) : Type 0 where
  pub total : t.total ≤ 2 * most_weight
  pub second : t.second ≤ t.total
  pub first_few : t.total - t.second ≤ most_weight
  pub second_few : t.second ≤ most_weight
  pub count : t.count ≤ t.total

-- the reader that has read what was counted
abbrev pub reader_of : Reading → Batch → Reading
reader_of r t = record r { count = t.count; first = t.total - t.second; second = t.second }

-- the update that was counted last is legal after those before it
pub record TakesOne (r : Reading) (old new : Batch) (u : Update) : Type 0 where
  pub light : IsLight new
  pub room : HasRoom (reader_of r old) u
  pub heavier : old.total < new.total
  pub after : (before : List Update) → IsAfter (reader_of r old) before
      → IsAfter (reader_of r new) (before ++ u ∷ [])

-- So many records lie in front of some bytes, whose items have so many bytes, and their updates
-- stand in front in a block: they are legal where their batch is clean.
pub record HaveCome (r : Reading) (width : ℕ) (bytes : List ℕ) (t : Batch) (count : ℕ)
    (block : List Update) : Type 0 where
  pub few : IsFew count t
  pub took : IsClean r.depth t → IsLight t
      × HasRead r (reader_of r t) (take (count * record_size width) bytes) (take count block)
