-- A message is given by its kind, its mark and its numbers.
use Rattle.std.specs.Prelude.{ℕ, zero, suc, ⊤, All, FitsSigned, List, [], ◌∷◌, Some, None}
use Rattle.std.specs.Int.{w64, cast_signed}
use Rattle.sip_vector.specs.declared.update.Side.{Side}
use Rattle.sip_vector.specs.declared.update.Side.TheVariants as sides
use Rattle.sip_vector.specs.declared.update.Update.{Update}
use Rattle.sip_vector.specs.declared.update.Entry.{Entry}
use Rattle.sip_vector.specs.declared.query.Query.{Query}
use Rattle.sip_vector.specs.declared.query.Query.TheVariants as queries
use Rattle.sip_wire.specs.declared.message.Leaf.{Leaf}
use Rattle.sip_wire.specs.declared.message.Node.{Node}
use Rattle.sip_wire.specs.declared.message.Mark.{Mark}
use Rattle.sip_wire.specs.declared.message.Message.{Message}
use Rattle.sip_wire.specs.declared.message.Message.TheVariants as messages
use Rattle.sip_wire.specs.declared.kind.Kind.{Kind}
use Rattle.sip_wire.specs.declared.kind.Kind.TheVariants as kinds

-- the signed numbers are values of their type
abbrev pub InRange : Message → Type 0
InRange (messages.Updates v) = All (λ (u : Update). FitsSigned w64 u.delta) v.items
InRange (messages.Entries v) = All (λ (e : Entry). FitsSigned w64 e.value) v.items
InRange (messages.Claim value) = FitsSigned w64 value
InRange (messages.Marks v) = All (λ (m : Mark). FitsSigned w64 m.value) v.items
InRange _ = ⊤

-- the side that a number stands for
abbrev pub side_at : ℕ → Side
side_at zero = sides.First
side_at (suc _) = sides.Second

-- so many rows, of the numbers that spell them
abbrev pub updates_from : ℕ → List ℕ → List Update
updates_from zero ns = []
updates_from (suc k) (s ∷ i ∷ d ∷ ns) =
    record { side = side_at s; item = i; delta = cast_signed w64 d } ∷ updates_from k ns
updates_from (suc k) _ = []

abbrev pub entries_from : ℕ → List ℕ → List Entry
entries_from zero ns = []
entries_from (suc k) (i ∷ v ∷ ns) =
    record { index = i; value = cast_signed w64 v } ∷ entries_from k ns
entries_from (suc k) _ = []

abbrev pub leaves_from : ℕ → List ℕ → List Leaf
leaves_from zero ns = []
leaves_from (suc k) (i ∷ n ∷ ns) = record { item = i; count = n } ∷ leaves_from k ns
leaves_from (suc k) _ = []

abbrev pub nodes_from : ℕ → List ℕ → List Node
nodes_from zero ns = []
nodes_from (suc k) (i ∷ h ∷ n ∷ ns) = record { index = i; hash = h; count = n } ∷ nodes_from k ns
nodes_from (suc k) _ = []

abbrev pub marks_from : ℕ → List ℕ → List Mark
marks_from zero ns = []
marks_from (suc k) (i ∷ v ∷ w ∷ ns) =
    record { item = i; value = cast_signed w64 v; weight = w } ∷ marks_from k ns
marks_from (suc k) _ = []

-- the query of a code and its numbers
abbrev pub query_from : ℕ → List ℕ → Query
query_from (suc zero) (lo ∷ hi ∷ []) = queries.Sub lo hi
query_from (suc (suc zero)) (side ∷ lo ∷ hi ∷ []) = queries.Range (side_at side) lo hi
query_from (suc (suc (suc zero))) (side ∷ []) = queries.F2 (side_at side)
query_from (suc (suc (suc (suc (suc zero))))) (side ∷ at_least ∷ []) =
    queries.Heavy (side_at side) at_least
query_from (suc (suc (suc (suc (suc (suc zero)))))) (side ∷ num ∷ den ∷ []) =
    queries.Share (side_at side) num den
query_from (suc (suc (suc (suc (suc (suc (suc zero))))))) (side ∷ at_least ∷ []) =
    queries.Above (side_at side) at_least
query_from _ _ = queries.Inner

-- the siblings of these flags
abbrev pub siblings_from : ℕ → List ℕ → Message
siblings_from (suc zero) (left ∷ []) = messages.Siblings (Some left) None
siblings_from (suc (suc zero)) (right ∷ []) = messages.Siblings None (Some right)
siblings_from (suc (suc (suc zero))) (left ∷ right ∷ []) =
    messages.Siblings (Some left) (Some right)
siblings_from _ _ = messages.Siblings None None

-- the message of a kind, a mark and numbers
abbrev pub message_from : Kind → ℕ → List ℕ → Message
message_from kinds.Open _ (version ∷ depth ∷ []) = messages.Open version depth
message_from kinds.Updates n ns = messages.Updates (record { items = updates_from n ns })
message_from kinds.EndStream _ _ = messages.EndStream
message_from kinds.Query code ns = messages.Query (query_from code ns)
message_from kinds.Reveal _ (challenge ∷ []) = messages.Reveal challenge
message_from kinds.Bye _ _ = messages.Bye
message_from kinds.Claim _ (value ∷ []) = messages.Claim (cast_signed w64 value)
message_from kinds.Poly _ (c0 ∷ c1 ∷ c2 ∷ []) = messages.Poly c0 c1 c2
message_from kinds.Entries n ns = messages.Entries (record { items = entries_from n ns })
message_from kinds.Siblings flags ns = siblings_from flags ns
message_from kinds.Leaves n ns = messages.Leaves (record { items = leaves_from n ns })
message_from kinds.Nodes n ns = messages.Nodes (record { items = nodes_from n ns })
message_from kinds.LevelEnd _ _ = messages.LevelEnd
message_from kinds.Refuse _ (code ∷ []) = messages.Refuse code
message_from kinds.AskLook _ (code ∷ item ∷ []) = messages.AskLook code item
message_from kinds.Found _ (flag ∷ index ∷ []) = messages.Found flag index
message_from kinds.End _ _ = messages.End
message_from kinds.AskMoment _ (side ∷ degree ∷ []) = messages.AskMoment side degree
message_from (kinds.Power _) _ ns = messages.Power (record { items = ns })
message_from kinds.Held _ (records ∷ first ∷ second ∷ fingerprint ∷ []) =
    messages.Held (record {
      records = records;
      first = first;
      second = second;
      fingerprint = fingerprint;
    })
message_from kinds.Recall _ (count ∷ []) = messages.Recall count
message_from kinds.Marks n ns = messages.Marks (record { items = marks_from n ns })
message_from _ _ _ = messages.Bye
