-- The example that the laws work out: the heavy entries of (3, 0, 5, 1) at the challenges (2, 10).
use Rattle.std.specs.Prelude.{ℕ, ℤ, pos, negsuc, List, [], ◌∷◌, Result, Err}
use Rattle.sip_field.specs.Moduli.{m61_modulus}
use Rattle.sip_vector.specs.declared.update.Entry.{Entry}
use Rattle.sip_vector.specs.Splits.{splitroot}
use Rattle.sip_wire.specs.declared.message.Node.{Node}
use Rattle.sip_wire.specs.declared.message.Reason.{Reason}
use Rattle.sip_replies.specs.Replies.{Fault}
use Rattle.sip_heavy.specs.declared.form.LeafForm.TheVariants as forms
use Rattle.sip_heavy.specs.AcceptsHeavy.{HeavyQuestion, verdict}
use Rattle.sip_heavy.specs.Counting.{asking_for}
use Rattle.sip_heavy.specs.Protocol.{mark_node}

abbrev pub node : ℕ → ℕ → ℕ → Node
node i h c = record { index = i; hash = h; count = c }

-- a leaf of a small count
abbrev pub leaf : ℕ → ℕ → Node
leaf i c = node i c c

-- the query for entries of at least t, in two levels
abbrev pub at_least : ℕ → HeavyQuestion
at_least t = record { form = forms.Count; depth = 2; at_least = t; total = 9 }

-- the two leaves that an honest helper shows for 4
abbrev pub pair : List Node
pair = leaf 2 5 ∷ leaf 3 1 ∷ []

-- a fault in a round
abbrev pub fault : ℕ → Reason → Result (List Entry) Fault
fault round reason = Err (record { round = round; reason = reason })

-- what replies come to, of nodes by level
abbrev pub verdict_of : ℕ → List (List Node) → Result (List Entry) Fault
verdict_of t replies = verdict m61_modulus (at_least t) 8739 (2 ∷ 10 ∷ []) replies

-- the example of marks: the entries of at least t of (0, 5, -9, 3) with the weights (0, 5, 9, 5)
abbrev pub values : List ℤ
values = pos 0 ∷ pos 5 ∷ negsuc 8 ∷ pos 3 ∷ []

abbrev pub weights : List ℤ
weights = pos 0 ∷ pos 5 ∷ pos 9 ∷ pos 5 ∷ []

-- a mark as a node
abbrev pub mark : ℕ → ℤ → ℕ → Node
mark i v w = mark_node m61_modulus (record { item = i; value = v; weight = w })

-- what replies come to, by the top of the split tree at (2, 10)
abbrev pub marks_verdict_of : ℕ → List (List Node) → Result (List Entry) Fault
marks_verdict_of t replies =
    verdict m61_modulus (asking_for forms.Mark 2 t weights)
    (splitroot m61_modulus values weights (2 ∷ 10 ∷ [])) (2 ∷ 10 ∷ []) replies
