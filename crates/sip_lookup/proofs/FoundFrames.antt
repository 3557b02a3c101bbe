-- A Found that came whole: what its bytes are, and what they say with more behind them.
use Rattle.std.proofs.Common.{◌≡◌, ℕ, zero, suc, true, ◌++◌, List, [], ◌∷◌, Option, Result, Ok, Err, refl, sym, ap, ◌∙◌, arith}
use Rattle.std.specs.Prelude.{IsTrue, nat_le}
use Rattle.std.proofs.lemmas.Bool.{and_parts, eqb-true, leb-true}
use Rattle.sip_vector.specs.Steps.{◌>>=◌}
use Rattle.sip_wire.specs.declared.kind.Place.TheVariants as places
use Rattle.sip_wire.specs.declared.message.Message.{Message}
use Rattle.sip_wire.specs.declared.message.Message.TheVariants as messages
use Rattle.sip_wire.specs.declared.message.Reason.{Reason}
use Rattle.sip_wire.specs.declared.message.WireFault.{WireFault}
use Rattle.sip_wire.specs.declared.version.Version.{Version}
use Rattle.sip_wire.specs.Reading.{read_frame}
use Rattle.sip_wire.specs.Spelling.{all_hold, fits, has_room}
use Rattle.sip_wire.specs.Table.{found_fields}
use Rattle.sip_wire.proofs.ReadingLaws.{read_frame-append}
use Rattle.sip_replies.specs.Replies.{reasoned}
use Rattle.sip_lookup.specs.Frames.{found_in, found_message, place_of, read_found}

-- ---- what is spelled

-- a message that names a place, or none, is the one for what it names
pub found_same : (version : Version) (flag index : ℕ) → IsTrue (fits version (messages.Found flag index))
    → found_message (place_of flag index) ≡ messages.Found flag index
unfolding fits has_room all_hold
found_same version zero index fit =
    let ordered = (and_parts _ _ (and_parts _ _ fit).0).1 in
    ap (messages.Found 0) (sym (eqb-true index 0 ordered))
found_same version (suc zero) index fit = refl
found_same version (suc (suc n)) index fit =
    let held : all_hold found_fields (suc (suc n) ∷ index ∷ []) ≡ true = (and_parts _ _ fit).1 in
    let most : nat_le (suc (suc n)) 1 ≡ true = (and_parts _ _ (and_parts _ _ held).0).1 in
    absurd (omega (arith, leb-true (suc (suc n)) 1 most))

-- what is read where a place is awaited is the message for it
pub found_is : (version : Version) (m : Message) (found : Option ℕ) → IsTrue (fits version m)
    → found_in m ≡ Ok found → m ≡ found_message found
found_is version (messages.Found flag index) found fit is =
    let place : place_of flag index ≡ found = cc in
    sym (ap found_message (sym place) ∙ found_same version flag index fit)
found_is version (messages.Refuse code) found fit is = absurd cc
found_is version _ found fit is = absurd cc

-- ---- more bytes behind it

-- a message came whole, and is for a place or none; this stands behind it
pub record IsRead (version : Version) (bytes : List ℕ) (x : Option ℕ × List ℕ) : Type 0 where
  pub message : Message
  pub frame : read_frame version places.Found bytes ≡ Ok (message, x.1)
  pub place : found_in message ≡ Ok x.0

-- so each Found is read
pub found_read : (version : Version) (bytes : List ℕ) (x : Option ℕ × List ℕ) → read_found version bytes ≡ Ok x → IsRead version bytes x
unfolding read_found
found_read version bytes x e = by_frame (read_frame version places.Found bytes) refl e
  where
    by_place : (m : Message) (after : List ℕ) → read_frame version places.Found bytes ≡ Ok (m, after)
        → (place : Result (Option ℕ) Reason) → found_in m ≡ place → (place >>= λ found. Ok (found, after)) ≡ Ok x → IsRead version bytes x
    by_place m after is (Err reason) at e = absurd cc
    by_place m after is (Ok found) at e =
        let same : (found, after) ≡ x = cc in
        record {
          message = m;
          frame = is ∙ ap (λ (y : Option ℕ × List ℕ). Ok (m, y.1)) same;
          place = at ∙ ap (λ (y : Option ℕ × List ℕ). Ok y.0) same;
        }

    by_frame : (r : Result (Message × List ℕ) WireFault) → read_frame version places.Found bytes ≡ r
        → (reasoned r >>= λ frame. (found_in frame.0 >>= λ place. Ok (place, frame.1))) ≡ Ok x → IsRead version bytes x
    by_frame (Err fault) is e = absurd cc
    by_frame (Ok (m, after)) is e = by_place m after is (found_in m) refl e

pub found_more : (version : Version) (bytes more : List ℕ) (x : Option ℕ × List ℕ)
    → read_found version bytes ≡ Ok x → read_found version (bytes ++ more) ≡ Ok (x.0, x.1 ++ more)
unfolding read_found
found_more version bytes more x e =
    let r = found_read version bytes x e in
    ap (λ (r : Result (Message × List ℕ) WireFault). reasoned r >>= λ frame. (found_in frame.0 >>= λ place. Ok (place, frame.1)))
    (read_frame-append version places.Found bytes more r.message x.1 r.frame)
    ∙ ap (λ (place : Result (Option ℕ) Reason). ◌>>=◌ {B = Option ℕ × List ℕ} place (λ found. Ok (found, x.1 ++ more))) r.place
