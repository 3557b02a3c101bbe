-- The order of bytes in the talk of one query, reply by reply.
use Rattle.std.proofs.Common.{◌≡◌, ℕ, zero, suc, ◌<◌, true, List, [], ◌∷◌, ◌++◌, length, refl, sym, ap, ◌∙◌, arith, append_assoc, append-nil}
use Rattle.std.specs.Prelude.{◌^◌, IsTrue, slice_index, nat_lt}
use Rattle.std.proofs.lemmas.Bool.Decides.{nat_tests}
use Rattle.sip_ports.specs.declared.port.TalkEvent.{TalkEvent}
use Rattle.sip_ports.specs.Ports.{ins, outs}
use Rattle.sip_field.specs.Moduli.{m61_modulus}
use Rattle.sip_wire.specs.declared.message.Message.{Message}
use Rattle.sip_wire.specs.declared.message.Message.TheVariants as messages
use Rattle.sip_wire.specs.declared.version.Version.{Version}
use Rattle.sip_wire.specs.Spelling.{fits, has_room, all_hold}
use Rattle.sip_wire.specs.Spelling.{spelling}
use Rattle.sip_replies.specs.Replies.{joined}
use Rattle.sip_replies.specs.Talks.{sent, exchanged, asked}

-- the bytes of replies, with one more behind them
pub joined-snoc : (replies : List (List ℕ)) (bytes : List ℕ) → joined (replies ++ bytes ∷ []) ≡ joined replies ++ bytes
joined-snoc [] bytes = append-nil bytes
joined-snoc (x ∷ xs) bytes = ap (λ (l : List ℕ). x ++ l) (joined-snoc xs bytes) ∙ sym (append_assoc x (joined xs) bytes)

regroup : (a b c d : List TalkEvent) → a ++ ((b ++ c) ++ d) ≡ ((a ++ b) ++ c) ++ d
regroup a b c d = sym (append_assoc a (b ++ c) d) ∙ ap (λ (l : List TalkEvent). l ++ d) (sym (append_assoc a b c))

-- one message, sent
pub sent-one : (version : Version) (m : Message) → sent version (m ∷ []) ≡ outs (spelling version m)
sent-one version m = ap outs (append-nil (spelling version m))

-- one more exchange: the challenge behind the replies so far, and a reply
exchanged-snoc : (version : Version) (replies : List (List ℕ)) (block : List ℕ) (k : ℕ) (bytes : List ℕ) → length replies ≡ suc k → k < length block
    → exchanged version (replies ++ bytes ∷ []) block ≡ (exchanged version replies block ++ sent version (messages.Reveal (slice_index block k) ∷ [])) ++ ins bytes
exchanged-snoc version [] block k bytes len lt = absurd (omega arith)
exchanged-snoc version (x ∷ []) [] k bytes len lt = absurd (omega arith)
exchanged-snoc version (x ∷ []) (r ∷ rs) zero bytes len lt = refl
exchanged-snoc version (x ∷ []) (r ∷ rs) (suc k) bytes len lt = absurd (omega arith)
exchanged-snoc version (x ∷ y ∷ ys) [] k bytes len lt = absurd (omega arith)
exchanged-snoc version (x ∷ y ∷ ys) (r ∷ rs) zero bytes len lt = absurd (omega arith)
exchanged-snoc version (x ∷ y ∷ ys) (r ∷ rs) (suc k) bytes len lt =
    ap (λ (l : List TalkEvent). (ins x ++ sent version (messages.Reveal r ∷ [])) ++ l) (exchanged-snoc version (y ∷ ys) rs k bytes (omega arith) (omega arith))
    ∙ regroup (ins x ++ sent version (messages.Reveal r ∷ [])) (exchanged version (y ∷ ys) rs) (sent version (messages.Reveal (slice_index rs k) ∷ [])) (ins bytes)

-- the same, behind what is asked
pub asked-snoc : (version : Version) (request : Message) (replies : List (List ℕ)) (block : List ℕ) (k : ℕ) (bytes : List ℕ) → length replies ≡ suc k → k < length block
    → asked version request block (replies ++ bytes ∷ []) ≡ (asked version request block replies ++ sent version (messages.Reveal (slice_index block k) ∷ [])) ++ ins bytes
asked-snoc version request replies block k bytes len lt =
    ap (λ (l : List TalkEvent). sent version (request ∷ []) ++ l) (exchanged-snoc version replies block k bytes len lt)
    ∙ regroup (sent version (request ∷ [])) (exchanged version replies block) (sent version (messages.Reveal (slice_index block k) ∷ [])) (ins bytes)

-- a challenge has a spelling
pub reveal_fits : (version : Version) (r : ℕ) → r < m61_modulus → IsTrue (fits version (messages.Reveal r))
unfolding fits has_room all_hold
reveal_fits version r below =
    let a : nat_lt r (256 ^ 8) ≡ true = grind (arith, nat_tests) in
    let b : nat_lt r 2305843009213693951 ≡ true = grind (arith, nat_tests) in
    rw (a, b) refl
