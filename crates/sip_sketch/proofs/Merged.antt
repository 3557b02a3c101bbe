-- What the parts add up to, and what a call did that added them up, by how its steps ended.
use Rattle.std.proofs.Common.{◌≡◌, ℕ, zero, suc, ◌+◌, ◌≤◌, List, [], ◌∷◌, ◌++◌, length, take, flat_map, Some, None, inl, inr, refl, sym, ap, subst, arith, append-nil, append_assoc}
use Rattle.std.specs.List.{AllZip}
use Rattle.std.specs.Option.{unwrap_or}
use Rattle.std.specs.declared.option.Option.{Option}
use Rattle.sip_ports.specs.Desk.{steps}
use Rattle.sip_ports.specs.Ports.{GoesOn}
use Rattle.sip_ports.specs.declared.port.TalkEvent.{TalkEvent}
use Rattle.sip_ports.proofs.TalkLemmas.{GoesOn-trans}
use Rattle.sip_vector.specs.declared.update.Update.{Update}
use Rattle.sip_sketch.specs.Files.{Finds}
use Rattle.sip_sketch.specs.Joining.{added, unlike}
use Rattle.sip_sketch.specs.Loaded.{IsBadFile}
use Rattle.sip_sketch.specs.Merging.{AreParts, HasUsed, IsBadPart, IsNew, IsNext, IsPart, IsSum, IsThere, Joins, Merges, Sums, in_place, lacks_of, unlike_first}
use Rattle.sip_sketch.specs.Sketches.{IsSketch, SketchValues, spelled_file}
use Rattle.sip_sketch.specs.Standing.{Stands}
use Rattle.sip_sketch.specs.declared.status.SketchStatus.{SketchStatus}
use Rattle.sip_sketch.specs.declared.status.SketchStatus.TheVariants as statuses
use Rattle.sip_sketch.specs.declared.unlike.Unlike.{Unlike}
use Rattle.sip_sketch.specs.inside.Keeping.{Closes}
use Rattle.sip_sketch.specs.inside.Merging.{AreJoined, AreSummed, ComesNext, HaltsWith, IsNoPart, IsUnopened, StopsWith, cleared}
use Rattle.sip_sketch.proofs.Cleared.{IsOwn, first_stands, first_used, joined_sketch, joined_stands, next_used, placed_sketch, whole_sketch}
use Rattle.sip_sketch.proofs.Unread.{bad_file, unloaded_is, unread_is}

-- ---- one part more

pub parts_more : (files : Option (ℕ → Option (List ℕ))) (number : ℕ) (parts : List SketchValues) (part : SketchValues)
    → AreParts files number parts → IsPart files (number + length parts) part → AreParts files number (parts ++ part ∷ [])
parts_more files number [] part all one = (subst (λ n. IsPart files n part) (let e : number + 0 ≡ number = omega arith in e) one, tt)
parts_more files number (p ∷ parts) part (here, all) one =
    (here, parts_more files (number + 1) parts part all (subst (λ n. IsPart files n part) (let e : number + suc (length parts) ≡ number + 1 + length parts = omega arith in e) one))

pub joins_more : (before : SketchValues) (parts : List SketchValues) (sum part : SketchValues) → Joins before parts sum → unlike sum part ≡ None
    → Joins before (parts ++ part ∷ []) (added sum part)
joins_more before [] sum part is none = (subst (λ s. unlike s part ≡ None) is none, ap (λ s. added s part) is)
joins_more before (p ∷ parts) sum part (here, rest) none = (here, joins_more (added before p) parts sum part rest none)

-- ---- what a sum is

-- behind parts that were added there is a sum so far
pub joins_sketch : (files : Option (ℕ → Option (List ℕ))) (number : ℕ) (before : SketchValues) (parts : List SketchValues) (sum : SketchValues)
    → IsSketch (cleared before) → AreParts files number parts → Joins before parts sum → IsSketch (cleared sum)
joins_sketch files number before [] sum is all same = subst (λ s. IsSketch (cleared s)) (sym same) is
joins_sketch files number before (p ∷ parts) sum is (here, all) (none, rest) =
    joins_sketch files (number + 1) (added before p) parts sum (joined_sketch before p is here.is none) all rest

joins_used : (sketch : Option SketchValues) (before : SketchValues) (parts : List SketchValues) (sum : SketchValues)
    → HasUsed sketch before → Joins before parts sum → HasUsed sketch sum
joins_used sketch before [] sum used same = subst (HasUsed sketch) (sym same) used
joins_used sketch before (p ∷ parts) sum used (none, rest) =
    joins_used sketch (added before p) parts sum (next_used sketch before p none used) rest

abbrev all_of : List (List Update) → List Update
all_of streams = flat_map (λ stream. stream) streams

joins_stand : (files : Option (ℕ → Option (List ℕ))) (number : ℕ) (before : SketchValues) (parts : List SketchValues) (sum : SketchValues)
    (stream : List Update) (streams : List (List Update)) → IsSketch (cleared before) → AreParts files number parts → Joins before parts sum
    → Stands stream before → AllZip Stands streams parts → Stands (stream ++ all_of streams) sum
joins_stand files number before [] sum stream [] is all same own each =
    subst (λ (l : List Update). Stands l sum) (sym (append-nil stream)) (subst (Stands stream) (sym same) own)
joins_stand files number before [] sum stream (more ∷ streams) is all same own each = absurd each
joins_stand files number before (p ∷ parts) sum stream [] is all rest own each = absurd each
joins_stand files number before (p ∷ parts) sum stream (more ∷ streams) is (here, all) (none, rest) own (one, each) =
    subst (λ (l : List Update). Stands l sum) (append_assoc stream more (all_of streams))
    (joins_stand files (number + 1) (added before p) parts sum (stream ++ more) streams (joined_sketch before p is here.is none) all rest
    (joined_stands before p stream more is here.is none own one) each)

sums_sketch : (files : Option (ℕ → Option (List ℕ))) (sketch : Option SketchValues) (parts : List SketchValues) (sum : SketchValues)
    → AreParts files 1 parts → Sums sketch parts sum → IsSketch (cleared sum)
sums_sketch files sketch [] sum all sums = absurd sums
sums_sketch files sketch (p ∷ parts) sum (here, all) (none, rest) =
    joins_sketch files 2 (in_place sketch p) parts sum (placed_sketch sketch p here.is none) all rest

sums_used : (sketch : Option SketchValues) (parts : List SketchValues) (sum : SketchValues) → Sums sketch parts sum → HasUsed sketch sum
sums_used sketch [] sum sums = absurd sums
sums_used sketch (p ∷ parts) sum (none, rest) = joins_used sketch (in_place sketch p) parts sum (first_used sketch p none) rest

sums_stand : (files : Option (ℕ → Option (List ℕ))) (sketch : Option SketchValues) (parts : List SketchValues) (sum : SketchValues)
    → AreParts files 1 parts → Sums sketch parts sum → (streams : List (List Update)) → AllZip Stands streams parts → Stands (all_of streams) sum
sums_stand files sketch [] sum all sums streams each = absurd sums
sums_stand files sketch (p ∷ parts) sum all sums [] each = absurd each
sums_stand files sketch (p ∷ parts) sum (here, all) (none, rest) (stream ∷ streams) (one, each) =
    joins_stand files 2 (in_place sketch p) parts sum stream streams (placed_sketch sketch p here.is none) all rest (first_stands sketch p stream one) each

-- ---- how adding up halted, from the parts behind the first

module _ (files : Option (ℕ → Option (List ℕ))) (count : ℕ) (sketch : Option SketchValues) (first : SketchValues) (part : IsPart files 1 first)
    (free : unlike_first sketch first ≡ None) where
  comes_next : (number : ℕ) (parts : List SketchValues) (sum : SketchValues) → AreJoined files 2 (in_place sketch first) parts sum → number ≡ length parts + 2
      → number ≤ count → ComesNext files count number sketch (first ∷ parts)
  comes_next number parts sum joined is within = record {
    place = omega (arith, is);
    within = within;
    loaded = (part, joined.loaded);
    add_up = (sum, (free, joined.joins));
  }

  pub halted : (status : SketchStatus) → StopsWith files count (in_place sketch first) status → HaltsWith files count sketch status
  halted status (number, parts, sum, joined, is, within, inl none) = (number, first ∷ parts, comes_next number parts sum joined is within, inl none)
  halted status (number, parts, sum, joined, is, within, inr (next, why, one, refused, same)) =
      (number, first ∷ parts, comes_next number parts sum joined is within, inr (next, why, one, (sum, (free, joined.joins), refused), same))

  -- or all were added up
  pub summed : (parts : List SketchValues) (sum : SketchValues) → length parts + 1 ≡ count → AreJoined files 2 (in_place sketch first) parts sum → AreSummed files count sketch sum
  summed parts sum many joined = record {
    all = first ∷ parts;
    many = omega (arith, many);
    loaded = (part, joined.loaded);
    sums = (free, joined.joins);
  }

-- before the first part
pub first_next : (files : Option (ℕ → Option (List ℕ))) (count : ℕ) (sketch : Option SketchValues) → 1 ≤ count → ComesNext files count 1 sketch []
first_next files count sketch some = record { place = refl; within = some; loaded = tt; add_up = tt }

-- ---- the whole call

module _ (files : Option (ℕ → Option (List ℕ))) (count : ℕ) (start : Option (List ℕ)) (old new : Option (List TalkEvent)) where
  -- the sketch was not loaded
  pub unopened : (status : SketchStatus) → IsUnopened start old status → GoesOn old new [] → Merges files count start old new status
  unopened status (inl is) talk = elim (unloaded_is status is) [
    | inl busy ↦ subst (Merges files count start old new) (sym busy) talk
    | inr other ↦ elim other [
      | inl failed ↦ subst (Merges files count start old new) (sym failed) talk
      | inr refused ↦ subst (Merges files count start old new) (sym refused) (inl talk)
    ]
  ]
  unopened status (inr (bytes, loads, is)) talk = elim (unread_is 0 bytes status is) [
    | inl (offset, bad, here) ↦ subst (Merges files count start old new) (sym here) ((bytes, loads, bad), talk)
    | inr refused ↦ subst (Merges files count start old new) (sym refused) (inl talk)
  ]

  module _ (sketch : Option SketchValues) (there : IsThere start old sketch) where
    -- it may be missing
    own : (s : Option SketchValues) → IsThere start old s → IsOwn s
    own None here = tt
    own (Some was) here = here.0

    next : (number : ℕ) (parts : List SketchValues) → ComesNext files count number sketch parts → IsNext files count start old number sketch parts
    next number parts comes = record { there = there; place = comes.place; within = comes.within; loaded = comes.loaded; add_up = comes.add_up }

    -- a part was found to be no sketch
    bad_part : (number : ℕ) (parts : List SketchValues) → ComesNext files count number sketch parts → (file : Option (List ℕ)) (offset : ℕ) → Finds files number file
        → IsBadFile file offset → IsBadPart files count start old number offset
    bad_part zero parts comes file offset finds bad = absurd (omega (arith, comes.place))
    bad_part (suc k) parts comes file offset finds bad = (sketch, parts, next (suc k) parts comes, (file, finds, bad))

    no_part : (number : ℕ) (parts : List SketchValues) → ComesNext files count number sketch parts → (status : SketchStatus) → IsNoPart files number status → GoesOn old new []
        → Merges files count start old new status
    no_part number parts comes status (inl failed) talk =
        subst (Merges files count start old new) (sym failed) ((sketch, parts, next number parts comes, tt), talk)
    no_part number parts comes status (inr (inl refused)) talk = subst (Merges files count start old new) (sym refused) (inl talk)
    no_part number parts comes status (inr (inr (file, finds, is))) talk = elim (unread_is number (unwrap_or file []) status is) [
      | inl (offset, bad, here) ↦ subst (Merges files count start old new) (sym here) (bad_part number parts comes file offset finds (bad_file file offset bad), talk)
      | inr refused ↦ subst (Merges files count start old new) (sym refused) (inl talk)
    ]

    -- adding up halted
    pub unsummed : (status : SketchStatus) → HaltsWith files count sketch status → GoesOn old new [] → Merges files count start old new status
    unsummed status (number, parts, comes, inl none) talk = no_part number parts comes status none talk
    unsummed status (number, parts, comes, inr (part, why, is, refused, same)) talk =
        subst (Merges files count start old new) (sym same) (inl (sketch, parts, next number parts comes, (part, is, refused)), talk)

    sum_is : (sum : SketchValues) (s : AreSummed files count sketch sum) → IsSum files count start old sketch s.all sum
    sum_is sum s = record { there = there; many = s.many; loaded = s.loaded; sums = s.sums }

    -- the sum lacks something
    pub lacking : (sum : SketchValues) (why : Unlike) → AreSummed files count sketch sum → lacks_of sketch sum ≡ Some why → GoesOn old new []
        → Merges files count start old new (statuses.Unlike count why)
    lacking sum why s lacks talk = (inr (refl, sketch, s.all, sum, sum_is sum s, lacks), talk)

    -- it is a sketch
    pub sum_sketch_of : (sum : SketchValues) → AreSummed files count sketch sum → lacks_of sketch sum ≡ None → IsSketch sum
    sum_sketch_of sum s full =
        whole_sketch sketch sum (own sketch there) (sums_sketch files sketch s.all sum s.loaded s.sums) (sums_used sketch s.all sum s.sums) full

    sum_new : (sum : SketchValues) (s : AreSummed files count sketch sum) → lacks_of sketch sum ≡ None → IsNew files count start old sketch s.all sum
    sum_new sum s full = record {
      summed = sum_is sum s;
      full = full;
      is = sum_sketch_of sum s full;
      used = sums_used sketch s.all sum s.sums;
      stands = sums_stand files sketch s.all sum s.loaded s.sums;
    }

    -- and was stored, or that stopped
    pub stored_new : (mid : Option (List TalkEvent)) (sum : SketchValues) (status : SketchStatus) → AreSummed files count sketch sum → lacks_of sketch sum ≡ None
        → GoesOn old mid [] → Closes mid new (spelled_file sum) statuses.Wrote status → Merges files count start old new status
    stored_new mid sum status s full same (inl (went, is)) =
        subst (Merges files count start old new) (sym is) (sketch, s.all, sum, sum_new sum s full, GoesOn-trans old mid new [] (steps (spelled_file sum)) same went)
    stored_new mid sum status s full same (inr ((n, short, went), inl is)) =
        subst (Merges files count start old new) (sym is)
        (sketch, s.all, sum, sum_new sum s full, (n, short, GoesOn-trans old mid new [] (take n (steps (spelled_file sum))) same went))
    stored_new mid sum status s full same (inr ((n, short, went), inr is)) =
        subst (Merges files count start old new) (sym is)
        (inr (sketch, s.all, sum, sum_new sum s full, (n, short, GoesOn-trans old mid new [] (take n (steps (spelled_file sum))) same went)))
