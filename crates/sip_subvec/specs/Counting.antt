-- How many challenges a wrong sub-vector can be accepted at: what is counted, and what a call
-- promises of it.
use Rattle.std.specs.Prelude.{ℕ, suc, ◌-◌, ◌/◌, ◌==◌, Bool, true, ◌&&◌, nat_le, nat_abs, ℤ, List}
use Rattle.std.specs.Prelude.{[], ◌∷◌, length, Option, Result, Ok, Err}
use Rattle.std.specs.List.{list_all}
use Rattle.std.specs.Cmp.Lexicographic.{pointwise}
use Rattle.sip_field.specs.Moduli.{m61_modulus}
use Rattle.sip_vector.specs.declared.update.Entry.{Entry}
use Rattle.sip_vector.specs.Answers.{is_within}
use Rattle.sip_vector.specs.Trees.{root}
use Rattle.sip_vector.specs.Vectors.{nonzero_within}
use Rattle.sip_counts.specs.Clauses.{FewAndCounted}
use Rattle.sip_wire.specs.declared.version.Version.{Version}
use Rattle.sip_replies.specs.Replies.{Fault, run, accepts}
use Rattle.sip_replies.specs.SameEntries.{is_same_entry}
use Rattle.sip_subvec.specs.AcceptsSub.{Siblings, Stated, gives_root}
use Rattle.sip_subvec.specs.Protocol.{sub_asked, sub_protocol, sub_rules}
use Rattle.sip_subvec.specs.Replies.{are_asked}

-- ---- over what replies state

-- an entry's absolute value is 1 to (p - 1) / 2: such signed numbers have different residues modulo
-- p
abbrev pub has_small_value : ℕ → Entry → Bool
has_small_value p e = nat_le 1 (nat_abs e.value) && nat_le (nat_abs e.value) ((p - 1) / 2)

-- the indices rise, from lo on and up to hi
unfoldable pub rise_within : ℕ → ℕ → List Entry → Bool
rise_within lo hi [] = true
rise_within lo hi (e ∷ es) = is_within lo hi e.index && rise_within (suc e.index) hi es

-- the siblings of each level are those that its interval asks for
unfoldable pub are_all_asked : ℕ → ℕ → List Siblings → Bool
are_all_asked lo hi [] = true
are_all_asked lo hi (s ∷ siblings) = are_asked lo hi s && are_all_asked (lo / 2) (hi / 2) siblings

-- what is stated passes all tests modulo p
abbrev pub accepts_stated : ℕ → ℕ → ℕ → ℕ → List ℕ → Stated → Bool
accepts_stated p root lo hi challenges s =
    (length s.siblings == length challenges)
    && (rise_within lo hi s.entries && (list_all (has_small_value p) s.entries
    && (are_all_asked lo hi s.siblings && gives_root p root lo hi challenges s)))

-- ---- over bytes

-- the entries that replies state, none where they have a fault
abbrev pub entries_of : Result Stated Fault → List Entry
entries_of (Ok s) = s.entries
entries_of (Err _) = []

-- no challenge is needed to read them
abbrev pub said : Version → ℕ → ℕ → List (List ℕ) → List Entry
said version lo hi replies = entries_of (run (sub_rules version lo hi) [] replies)

-- the replies say the entries of these numbers that are not 0
abbrev pub is_right : Version → ℕ → ℕ → List ℤ → List (List ℕ) → Bool
is_right version lo hi numbers replies =
    pointwise is_same_entry (said version lo hi replies) (nonzero_within lo hi numbers)

-- the replies at these challenges are accepted
abbrev pub accepts_sub : Version → ℕ → ℕ → ℕ → ℕ → List ℕ → List (List ℕ) → Bool
accepts_sub version p root lo hi challenges replies =
    accepts (sub_protocol (sub_asked version p root lo hi challenges)) challenges replies

-- The replies are accepted modulo p. The bytes of a value leave room for those that are small
-- modulo 2^61 - 1; over a lesser modulus each value has to be small for it.
abbrev pub accepts_small : Version → ℕ → ℕ → ℕ → ℕ → List ℕ → List (List ℕ) → Bool
accepts_small version p root lo hi challenges replies =
    accepts_sub version p root lo hi challenges replies
    && list_all (has_small_value p) (said version lo hi replies)

-- ---- on a call

-- What a call that writes the answer to a query for the entries of these numbers from lo to hi
-- promises of a helper that lies: `block` are the query's challenges, `taken` the replies of this
-- run, and `written` the answer, if one was written.
abbrev pub SubCountClause : Version → ℕ → List ℤ → ℕ → ℕ → List ℕ → List (List ℕ)
    → Option (List Entry) → Type 0
SubCountClause version d numbers lo hi block taken written =
    FewAndCounted m61_modulus d d
    (λ r. accepts_sub version m61_modulus (root m61_modulus numbers r) lo hi r)
    (is_right version lo hi numbers) block taken written (nonzero_within lo hi numbers)
