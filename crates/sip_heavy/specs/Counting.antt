-- How many challenges a wrong list of heavy entries can be accepted at: what is counted, and what a
-- call promises of it.
use Rattle.std.specs.Prelude.{◌≡◌, ℕ, ◌-◌, ◌*◌, ◌/◌, ◌≤◌, Bool, true, ℤ, pos, ◌≤ℤ◌, nat_abs, List}
use Rattle.std.specs.Prelude.{[], ◌∷◌, take, fold, All, slice_index_or, Option, Result, Ok, Err}
use Rattle.std.specs.List.{zip}
use Rattle.std.specs.Cmp.Lexicographic.{pointwise}
use Rattle.sip_field.specs.Moduli.{m61_modulus}
use Rattle.sip_counts.specs.Clauses.{FewAndCounted}
use Rattle.sip_replies.specs.Protocols.{Protocol}
use Rattle.sip_replies.specs.Replies.{Fault, run}
use Rattle.sip_replies.specs.Replies as replies_of
use Rattle.sip_replies.specs.SameEntries.{is_same_entry}
use Rattle.sip_vector.specs.declared.update.Entry.{Entry}
use Rattle.sip_vector.specs.Streams.{int_sum}
use Rattle.sip_vector.specs.Splits.{splitroot}
use Rattle.sip_vector.specs.Trees.{Counted, leaf, up3, augroot}
use Rattle.sip_wire.specs.declared.message.Node.{Node}
use Rattle.sip_wire.specs.declared.version.Version.{Version}
use Rattle.sip_heavy.specs.declared.form.LeafForm.{LeafForm}
use Rattle.sip_heavy.specs.declared.form.LeafForm.TheVariants as forms
use Rattle.sip_heavy.specs.AcceptsHeavy.{HeavyQuestion, accepts, asking, heavy_entries}
use Rattle.sip_heavy.specs.AcceptsHeavy.{leaves_of, value_of}
use Rattle.sip_heavy.specs.TrueNodes.{is_spot}
use Rattle.sip_heavy.specs.Honest.{heavy_of}
use Rattle.sip_heavy.specs.Protocol.{HeavyState, above_asked, count_of, heavy_asked}
use Rattle.sip_heavy.specs.Protocol.{heavy_protocol, heavy_rules}

-- ---- over lists of nodes

-- the query for the entries of at least t, where leaves have this, with these counts
abbrev pub asking_for : LeafForm → ℕ → ℕ → List ℤ → HeavyQuestion
asking_for form depth t counts = asking form depth t (count_of (int_sum counts))

-- the query for the entries of at least t of these numbers, of which there are 2 ^ depth
abbrev pub asked_over : ℕ → ℕ → List ℤ → HeavyQuestion
asked_over depth t numbers = asking_for forms.Count depth t numbers

-- ---- over whatever leaves have

-- the top of the tree over leaves
abbrev pub top_of : ℕ → List Counted → List ℕ → Counted
top_of p leaves challenges = slice_index_or (fold (up3 p) leaves challenges) 0 (leaf p (pos 0))

-- the nodes received at these challenges are accepted, by the root over these leaves
abbrev pub accepts_over : ℕ → HeavyQuestion → List Counted → List ℕ → List (List Node) → Bool
accepts_over p q leaves challenges replies =
    accepts p q (top_of p leaves challenges).hash challenges replies

-- the entries of at least t that were said are those of these numbers
abbrev pub are_right_over : ℕ → HeavyQuestion → List ℤ → List (List Node) → Bool
are_right_over p q numbers replies =
    pointwise is_same_entry (heavy_entries p q.form q.at_least (leaves_of replies))
    (heavy_of q.at_least numbers)

-- A leaf counts, the number is not above its count, and each node with its hash and its count
-- stands for the number.
pub record LeafStands (p : ℕ) (form : LeafForm) (c : Counted) (a : ℤ) : Type 0 where
  pub counts : (n : ℕ) × (c.count ≡ pos n)
  pub within : a ≤ℤ c.count
  pub reads : (x : Node) → is_spot p x (c.hash, nat_abs c.count) ≡ true → value_of p form x ≡ a

-- the leaves stand for the numbers, one for one
abbrev pub LeavesStand : ℕ → LeafForm → List Counted → List ℤ → Type 0
LeavesStand p form [] [] = Unit {0}
LeavesStand p form [] (a ∷ numbers) = ⊥
LeavesStand p form (c ∷ leaves) [] = ⊥
LeavesStand p form (c ∷ leaves) (a ∷ numbers) =
    LeafStands p form c a × LeavesStand p form leaves numbers

-- how the replies at these challenges are read as bytes, and what they come to
abbrev pub protocol_over : Version → ℕ → HeavyQuestion → List Counted → List ℕ
    → Protocol HeavyState
protocol_over version p q leaves challenges = heavy_protocol (record {
  version = version;
  modulus = p;
  root = (top_of p leaves challenges).hash;
  query = q;
})

abbrev pub accepts_bytes_over : Version → ℕ → HeavyQuestion → List Counted → List ℕ
    → List (List ℕ) → Bool
accepts_bytes_over version p q leaves challenges replies =
    replies_of.accepts (protocol_over version p q leaves challenges) challenges replies

-- the leaves of a state, none where there is a fault
abbrev pub leaves_in : Result HeavyState Fault → List Node
leaves_in (Ok s) = s.leaves
leaves_in (Err _) = []

-- the entries of at least t that reply 0 states; no challenge is needed to read them
abbrev pub said_over : Version → ℕ → HeavyQuestion → List (List ℕ) → List Entry
said_over version p q replies =
    heavy_entries p q.form q.at_least
    (leaves_in (run (heavy_rules version p q) [] (take 1 replies)))

abbrev pub is_right_over : Version → ℕ → HeavyQuestion → List ℤ → List (List ℕ) → Bool
is_right_over version p q numbers replies =
    pointwise is_same_entry (said_over version p q replies) (heavy_of q.at_least numbers)

-- ---- over counts

-- the nodes received at these challenges are accepted, by the augmented root of the numbers
abbrev pub accepts_nodes : ℕ → ℕ → ℕ → List ℤ → List ℕ → List (List Node) → Bool
accepts_nodes p depth t numbers challenges replies =
    accepts p (asked_over depth t numbers) (augroot p numbers challenges).hash challenges replies

-- the heavy leaves among what was received are those of the numbers
abbrev pub are_right : ℕ → ℕ → List ℤ → List (List Node) → Bool
are_right p t numbers replies =
    pointwise is_same_entry (heavy_entries p forms.Count t (leaves_of replies)) (heavy_of t numbers)

-- ---- over marks

-- the same, by the root of the split tree over these values and weights
abbrev pub accepts_marks : ℕ → ℕ → ℕ → List ℤ → List ℤ → List ℕ → List (List Node) → Bool
accepts_marks p depth t values weights challenges replies =
    accepts p (asking_for forms.Mark depth t weights) (splitroot p values weights challenges)
    challenges replies

abbrev pub are_right_marks : ℕ → ℕ → List ℤ → List (List Node) → Bool
are_right_marks p t values replies =
    pointwise is_same_entry (heavy_entries p forms.Mark t (leaves_of replies)) (heavy_of t values)

-- no value is above its weight in size, nor too large to be told from its residue
pub record IsWeighed (p : ℕ) (value weight : ℤ) : Type 0 where
  pub within : pos (nat_abs value) ≤ℤ weight
  pub small : nat_abs value ≤ (p - 1) / 2

abbrev pub AreWeighed : ℕ → List ℤ → List ℤ → Type 0
AreWeighed p values weights = All (λ x. IsWeighed p x.0 x.1) (zip values weights)

-- ---- counts, over bytes

-- how the replies at these challenges are read, and what they come to
abbrev pub heavy_over : Version → ℕ → ℕ → ℕ → List ℤ → List ℕ → Protocol HeavyState
heavy_over version p depth t numbers challenges =
    heavy_protocol
    (heavy_asked version p (augroot p numbers challenges).hash (int_sum numbers) depth t)

-- the replies at these challenges are accepted
abbrev pub accepts_heavy : Version → ℕ → ℕ → ℕ → List ℤ → List ℕ → List (List ℕ) → Bool
accepts_heavy version p depth t numbers challenges replies =
    replies_of.accepts (heavy_over version p depth t numbers challenges) challenges replies

-- the heavy leaves that reply 0 states
abbrev pub said : Version → ℕ → ℕ → ℕ → List ℤ → List (List ℕ) → List Entry
said version p depth t numbers replies = said_over version p (asked_over depth t numbers) replies

-- the replies say the numbers of at least t
abbrev pub is_right : Version → ℕ → ℕ → ℕ → List ℤ → List (List ℕ) → Bool
is_right version p depth t numbers replies =
    pointwise is_same_entry (said version p depth t numbers replies)
    (heavy_of t numbers)

-- ---- marks, over bytes

abbrev pub above_over : Version → ℕ → ℕ → ℕ → List ℤ → List ℤ → List ℕ → Protocol HeavyState
above_over version p depth t values weights challenges =
    heavy_protocol
    (above_asked version p (splitroot p values weights challenges) (count_of (int_sum weights))
    depth t)

abbrev pub accepts_above : Version → ℕ → ℕ → ℕ → List ℤ → List ℤ → List ℕ → List (List ℕ)
    → Bool
accepts_above version p depth t values weights challenges replies =
    replies_of.accepts (above_over version p depth t values weights challenges) challenges replies

-- the replies say the values of at least t
abbrev pub is_right_above : Version → ℕ → ℕ → ℕ → List ℤ → List ℤ → List (List ℕ) → Bool
is_right_above version p depth t values weights replies =
    is_right_over version p (asking_for forms.Mark depth t weights) values replies

-- ---- on a call

-- What a call that writes the answer to a query for these numbers' entries of at least t promises
-- of a helper that lies: `block` are the query's challenges, `taken` the replies of this run, and
-- `written` the answer, if one was written.
abbrev pub HeavyCountClause : Version → ℕ → ℕ → List ℤ → List ℕ → List (List ℕ)
    → Option (List Entry) → Type 0
HeavyCountClause version d t numbers block taken written =
    FewAndCounted m61_modulus d (3 * d) (accepts_heavy version m61_modulus d t numbers)
    (is_right version m61_modulus d t numbers) block taken written (heavy_of t numbers)
