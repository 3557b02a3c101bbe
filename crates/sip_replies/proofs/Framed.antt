-- Whole frames, one behind another.
use Rattle.std.proofs.Common.{◌≡◌, ℕ, List, [], ◌∷◌, ◌++◌, refl, sym, ap, ◌∙◌, append-nil}
use Rattle.std.proofs.lemmas.Grind.{flat_map-append}
use Rattle.std.proofs.lemmas.List.Elements.{All-append, All-cons, All-nil}
use Rattle.std.specs.Prelude.{flat_map, IsTrue}
use Rattle.sip_wire.specs.declared.message.Message.{Message}
use Rattle.sip_wire.specs.declared.version.Version.{Version}
use Rattle.sip_wire.specs.Spelling.{fits, spelling}
use Rattle.sip_replies.specs.Asking.{AreFrames}

-- no bytes are no frame
pub AreFrames-none : (version : Version) → AreFrames version []
AreFrames-none version = record { messages = []; have_spellings = All-nil (λ m. IsTrue (fits version m)); spelled = refl }

-- the spelling of a message is one frame
pub AreFrames-one : (version : Version) (m : Message) (bytes : List ℕ) → IsTrue (fits version m) → bytes ≡ spelling version m → AreFrames version bytes
AreFrames-one version m bytes has is = record {
  messages = m ∷ [];
  have_spellings = All-cons (λ n. IsTrue (fits version n)) m [] has (All-nil (λ n. IsTrue (fits version n)));
  spelled = is ∙ sym (append-nil (spelling version m));
}

-- frames behind frames are frames
pub AreFrames-append : (version : Version) (one other : List ℕ) → AreFrames version one → AreFrames version other → AreFrames version (one ++ other)
AreFrames-append version one other f g = record {
  messages = f.messages ++ g.messages;
  have_spellings = All-append (λ m. IsTrue (fits version m)) f.messages g.messages f.have_spellings g.have_spellings;
  spelled = ap (λ (l : List ℕ). l ++ other) f.spelled ∙ ap (λ (l : List ℕ). flat_map (spelling version) f.messages ++ l) g.spelled ∙ sym (flat_map-append (spelling version) f.messages g.messages);
}
