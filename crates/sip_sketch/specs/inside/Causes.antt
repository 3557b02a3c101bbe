-- Counts of faults of which one is known.
use Rattle.std.specs.Prelude.{ℕ}
use Rattle.sip_sketch.specs.Risen.{Counts, counts}

-- these counts, with this one of the file of the sketch
abbrev pub with_sketch : Counts → ℕ → Counts
with_sketch c sketch = counts c.first c.second sketch c.parts c.report

-- these counts, with this one of the seed
abbrev pub with_second : Counts → ℕ → Counts
with_second c second = counts c.first second c.sketch c.parts c.report

-- these counts, with this one of the stream
abbrev pub with_first : Counts → ℕ → Counts
with_first c first = counts first c.second c.sketch c.parts c.report

-- these counts, with this one of the files of parts
abbrev pub with_parts : Counts → ℕ → Counts
with_parts c parts = counts c.first c.second c.sketch parts c.report
