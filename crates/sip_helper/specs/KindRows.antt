-- What a kind of query means to a helper.
use Rattle.std.specs.Prelude.{ℕ, List, [], ◌∷◌, Option, Some, None}
use Rattle.sip_wire.specs.declared.message.Message.{Message}
use Rattle.sip_wire.specs.declared.message.Message.TheVariants as messages
use Rattle.sip_helper.specs.Vectors.{Vectors}

-- the codes of refusals: for want of memory, of an answer with too many entries, of a side with a
-- negative entry, and of a message out of turn
abbrev pub want_of_memory : ℕ
want_of_memory = 1

abbrev pub too_many : ℕ
too_many = 2

abbrev pub not_strict : ℕ
not_strict = 3

abbrev pub out_of_turn : ℕ
out_of_turn = 4

-- the reply that refuses
abbrev pub refusal : ℕ → List Message
refusal code = messages.Refuse code ∷ []

-- A row: the code by which the query is refused over the two vectors, if it is, and the messages of
-- the honest reply over them, once these challenges are revealed.
pub record HelpRow : Type 0 where
  pub refused_by : Vectors → Option ℕ
  pub honest : Vectors → List ℕ → List Message

-- the row of a kind that is not built: it refuses, whatever the vectors are
abbrev pub missing_row : HelpRow
missing_row = record {
  refused_by = λ _. Some out_of_turn;
  honest = λ _ _. refusal out_of_turn;
}

-- the messages of a reply by a row
abbrev pub reply_by : HelpRow → Vectors → List ℕ → List Message
reply_by row v revealed =
    elim (row.refused_by v) [ Some code ↦ refusal code | None ↦ row.honest v revealed ]
