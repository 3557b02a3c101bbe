-- Entries in one word: the index above 16 bits, and the value more 2^15 in them.
use Rattle.std.specs.Prelude.{ℕ, ◌+◌, ◌-◌, ◌*◌, ◌/◌, ◌%◌, ◌^◌, pos, ◌+ℤ◌, ◌-ℤ◌, nat_abs}
use Rattle.sip_vector.specs.declared.update.Entry.{Entry}

-- how many values a word can have
abbrev pub values : ℕ
values = 2 ^ 16

-- the greatest absolute value that one word is given
abbrev pub most_part : ℕ
most_part = 2 ^ 15 - 1

-- the entry that a word stands for
abbrev pub entry_of : ℕ → Entry
entry_of word = record { index = word / values; value = pos (word % values) -ℤ pos (2 ^ 15) }

-- the word that stands for an entry
abbrev pub word_of : Entry → ℕ
word_of e = e.index * values + nat_abs (e.value +ℤ pos (2 ^ 15))
