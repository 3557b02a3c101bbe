-- What a call that decodes answers, at each of its ends.
use Rattle.std.proofs.Common.{◌≡◌, ℕ, ◌+◌, ◌-◌, ◌<◌, ◌≤◌, Option, Some, Result, Ok, Err, List, [], ◌++◌, length, drop, refl, sym, ap, subst, ◌∙◌, arith, append_assoc, append-nil}
use Rattle.std.specs.Prelude.{IsTrue, IsErrOf, slice_index}
use Rattle.std.proofs.lemmas.List.{map-append}
use Rattle.sip_ports.specs.declared.port.TalkEvent.{TalkEvent}
use Rattle.sip_ports.specs.declared.port.TalkEvent.TheVariants.{In}
use Rattle.sip_ports.specs.Ports.{GoesOn, Rose, ins}
use Rattle.sip_ports.proofs.TalkLemmas.{GoesOn-trans}
use Rattle.sip_wire.specs.declared.kind.Kind.{Kind}
use Rattle.sip_wire.specs.declared.kind.Place.{Place}
use Rattle.sip_wire.specs.declared.message.Message.{Message}
use Rattle.sip_wire.specs.declared.message.WireFault.{WireFault}
use Rattle.sip_wire.specs.declared.message.WireFault.TheVariants as faults
use Rattle.sip_wire.specs.Faults.{IsOfLink, IsOfBytes, ended_by}
use Rattle.sip_wire.specs.Frames.{Receives}
use Rattle.sip_wire.specs.declared.version.Version.{Version}
use Rattle.sip_wire.specs.Table.{shape, allows, kind_at}
use Rattle.sip_wire.specs.Spelling.{kind_of, mark_of, numbers, fits, spelling, length_in, body_fault, frame_fault, asked, Stands, ReadsBody}
use Rattle.sip_wire.specs.Values.{InRange}
use Rattle.sip_wire.specs.Reading.{read_frame}
use Rattle.sip_wire.specs.Decoding.{IsBytes, Head, Fails, Decodes}
use Rattle.sip_wire.specs.Filling.{filled}
use Rattle.sip_wire.proofs.Whole.{whole_fault, of_body, spelled_back, same_head, asked_whole}
use Rattle.sip_wire.proofs.ReadingLaws.{asked-least, asked-append, read_frame-closed, read_frame-fault, read_frame-short, read_frame-spelling, same_answer}

-- reading a spelling gives its message, with nothing behind it
pub whole_spelling : (version : Version) (place : Place) (got : List ℕ) (m : Message) → IsTrue (fits version m) → IsTrue (allows place (kind_of m)) → InRange m → got ≡ spelling version m → read_frame version place got ≡ Ok (m, [])
whole_spelling version place got m fit allowed range e = ap (read_frame version place) (e ∙ sym (append-nil (spelling version m))) ∙ read_frame-spelling version place m [] fit allowed range

-- what reading answers at the faults of a call
answers_fault : (version : Version) (place : Place) (got : List ℕ) (before now : ℕ) (f : WireFault) → Fails version place got before now f → (x : WireFault) × (read_frame version place got ≡ Err x)
answers_fault version place got before now faults.Closed h = (faults.Closed, h)
answers_fault version place got before now faults.BadKind h = (faults.BadKind, h)
answers_fault version place got before now faults.BadLength h = (faults.BadLength, h)
answers_fault version place got before now faults.BadCount h = (faults.BadCount, h)
answers_fault version place got before now faults.BadNumber h = (faults.BadNumber, h)
answers_fault version place got before now faults.PeerFault h = (faults.Closed, h.0)
answers_fault version place got before now faults.OutOfMemory h = (faults.Closed, h)

-- a fault and a message are not both read
not_read : (version : Version) (place : Place) (got : List ℕ) (m : Message) (f : WireFault) → read_frame version place got ≡ Err f → read_frame version place got ≡ Ok (m, []) → ⊥
not_read version place got m f a b = let both : Err f ≡ Ok (m, []) = sym a ∙ b in cc

-- a call that answers a fault
failed : (version : Version) (place : Place) (old new : Option (List TalkEvent)) (before now : ℕ) (got : List ℕ) (f : WireFault) → GoesOn old new (ins got ++ ended_by {T = Message} (Err f)) → length got ≤ asked version place got → Fails version place got before now f → Decodes version place old new before now got (Err f)
failed version place old new before now got f heard le fails = record {
  heard = heard;
  answer = fails;
  only = λ m range fit allowed e. absurd (let x = answers_fault version place got before now f fails in not_read version place got m x.0 x.1 (whole_spelling version place got m fit allowed range e));
  short = λ front more e some. read_frame-short version place front more some (subst (λ (b : List ℕ). length b ≤ asked version place b) e le);
}

-- the link ended or stopped before the frame was whole
fails_of_link : (version : Version) (place : Place) (got : List ℕ) (before now : ℕ) (f : WireFault) → IsOfLink f → read_frame version place got ≡ Err faults.Closed → (IsErrOf {T = Unit} (Err f) faults.PeerFault → Rose before now) → Fails version place got before now f
fails_of_link version place got before now faults.Closed is e rose = e
fails_of_link version place got before now faults.PeerFault is e rose = (e, rose refl)
fails_of_link version place got before now faults.OutOfMemory is e rose = e
fails_of_link version place got before now faults.BadKind is e rose = absurd is
fails_of_link version place got before now faults.BadLength is e rose = absurd is
fails_of_link version place got before now faults.BadCount is e rose = absurd is
fails_of_link version place got before now faults.BadNumber is e rose = absurd is

-- a fault of the bytes is what reading them answers
fails_of_bytes : (version : Version) (place : Place) (got : List ℕ) (before now : ℕ) (f : WireFault) → IsOfBytes f → read_frame version place got ≡ Err f → Fails version place got before now f
fails_of_bytes version place got before now faults.BadKind is e = e
fails_of_bytes version place got before now faults.BadLength is e = e
fails_of_bytes version place got before now faults.BadCount is e = e
fails_of_bytes version place got before now faults.BadNumber is e = e
fails_of_bytes version place got before now faults.Closed is e = absurd is
fails_of_bytes version place got before now faults.PeerFault is e = absurd is
fails_of_bytes version place got before now faults.OutOfMemory is e = absurd is

-- at a fault of the bytes the link told no end
no_end : (f : WireFault) → IsOfBytes f → ended_by {T = Message} (Err f) ≡ []
no_end faults.BadKind is = refl
no_end faults.BadLength is = refl
no_end faults.BadCount is = refl
no_end faults.BadNumber is = refl
no_end faults.Closed is = absurd is
no_end faults.PeerFault is = absurd is
no_end faults.OutOfMemory is = absurd is

-- what the link told last is the fault's alone
same_end : (f : WireFault) → ended_by {T = Unit} (Err f) ≡ ended_by {T = Message} (Err f)
same_end faults.Closed = refl
same_end faults.BadKind = refl
same_end faults.BadLength = refl
same_end faults.BadCount = refl
same_end faults.BadNumber = refl
same_end faults.PeerFault = refl
same_end faults.OutOfMemory = refl

-- the link ended or stopped, and fewer bytes came than were asked for
stopped : (version : Version) (place : Place) (old new : Option (List TalkEvent)) (before now : ℕ) (got : List ℕ) (f : WireFault) → IsOfLink f → (IsErrOf {T = Unit} (Err f) faults.PeerFault → Rose before now) → GoesOn old new (ins got ++ ended_by {T = Unit} (Err f)) → length got < asked version place got → Decodes version place old new before now got (Err f)
stopped version place old new before now got f is rose heard lt =
    failed version place old new before now got f (subst (λ (es : List TalkEvent). GoesOn old new (ins got ++ es)) (same_end f) heard) (omega arith) (fails_of_link version place got before now f is (read_frame-closed version place got lt) rose)

-- a fault of bytes of which the frame takes all
bad : (version : Version) (place : Place) (old new : Option (List TalkEvent)) (before now : ℕ) (got : List ℕ) (f : WireFault) → GoesOn old new (ins got) → frame_fault version place got ≡ Some f → IsOfBytes f → length got ≡ asked version place got → Decodes version place old new before now got (Err f)
bad version place old new before now got f heard fault is all =
    let le : length got ≤ asked version place got = omega arith in
    failed version place old new before now got f (subst (GoesOn old new) (sym (append-nil (ins got)) ∙ ap (λ (es : List TalkEvent). ins got ++ es) (sym (no_end f is))) heard) le (fails_of_bytes version place got before now f is (read_frame-fault version place got f fault le))

-- ---- the ends, in the order of the code

-- a count that rose later rose since an earlier time
rose_since : (a b c : ℕ) → a ≤ b → Rose b c → Rose a c
rose_since a b c le h = omega arith

-- nothing was there, and fewer than three bytes came
pub stopped_in_head : (version : Version) (place : Place) (old new : Option (List TalkEvent)) (before now : ℕ) (none got : List ℕ) (f : WireFault) → none ≡ [] → Receives old new none got 3 (Err f) → (IsErrOf {T = Unit} (Err f) faults.PeerFault → Rose before now) → Decodes version place old new before now got (Err f)
stopped_in_head version place old new before now none got f empty came rose =
    let same : got ≡ came.more = came.longer ∙ ap (λ (b : List ℕ). b ++ came.more) empty in
    let heard = subst (λ (b : List ℕ). GoesOn old new (ins b ++ ended_by {T = Unit} (Err f))) (sym same) came.heard in
    stopped version place old new before now got f came.whole.1 rose heard (omega (arith, came.whole.0, asked-least version place got))

-- the talk of the three bytes
came_whole : (old new : Option (List TalkEvent)) (none got : List ℕ) (upto : ℕ) → none ≡ [] → Receives old new none got upto (Ok tt) → GoesOn old new (ins got)
came_whole old new none got upto empty came =
    let same : got ≡ came.more = came.longer ∙ ap (λ (b : List ℕ). b ++ came.more) empty in
    subst (GoesOn old new) (append-nil (ins came.more) ∙ ap ins (sym same)) came.heard

-- three bytes that begin no frame
pub bad_head : (version : Version) (place : Place) (old new : Option (List TalkEvent)) (before now : ℕ) (none got : List ℕ) (f : WireFault) → none ≡ [] → Receives old new none got 3 (Ok tt) → frame_fault version place got ≡ Some f → IsOfBytes f → asked version place got ≡ 3 → Decodes version place old new before now got (Err f)
bad_head version place old new before now none got f empty came fault is three =
    bad version place old new before now got f (came_whole old new none got 3 empty came) fault is (omega (arith, came.whole))

-- a head asks for its body, whatever came of it
asked_for : (version : Version) (place : Place) (head got : List ℕ) (kind : Kind) (len : ℕ) (more : List ℕ) → length head ≡ 3 → Head version place head kind len → got ≡ head ++ more → asked version place got ≡ 3 + len
asked_for version place head got kind len more three is longer =
    ap (asked version place) longer ∙ asked-append version place head more (omega arith) ∙ asked_whole version place head kind is.its_kind is.allowed (rw (← is.its_length) is.has_length) ∙ ap (λ (n : ℕ). 3 + n) (sym is.its_length)

-- the talk of the head and of what came of the body
joined : (old mid new : Option (List TalkEvent)) (head got more : List ℕ) (end : List TalkEvent) → GoesOn old mid (ins head) → GoesOn mid new (ins more ++ end) → got ≡ head ++ more → GoesOn old new (ins got ++ end)
joined old mid new head got more end p q longer =
    subst (GoesOn old new) (sym (append_assoc (ins head) (ins more) end) ∙ ap (λ (es : List TalkEvent). es ++ end) (sym (map-append In head more) ∙ ap ins (sym longer))) (GoesOn-trans old mid new (ins head) (ins more ++ end) p q)

-- a head, and less than its body
pub stopped_in_body : (version : Version) (place : Place) (old mid new : Option (List TalkEvent)) (before since now : ℕ) (none head got : List ℕ) (kind : Kind) (len : ℕ) (f : WireFault) → none ≡ [] → Receives old mid none head 3 (Ok tt) → Head version place head kind len → before ≤ since
    → Receives mid new head got (3 + len) (Err f) → (IsErrOf {T = Unit} (Err f) faults.PeerFault → Rose since now) → Decodes version place old new before now got (Err f)
stopped_in_body version place old mid new before since now none head got kind len f empty came is later then rose =
    let all = asked_for version place head got kind len then.more came.whole is then.longer in
    stopped version place old new before now got f then.whole.1 (λ e. rose_since before since now later (rose e)) (joined old mid new head got then.more _ (came_whole old mid none head 3 empty came) then.heard then.longer) (omega (arith, then.whole.0))

-- the body was read
read_it : (version : Version) (place : Place) (old new : Option (List TalkEvent)) (before now : ℕ) (got : List ℕ) (kind : Kind) (r : Result Message WireFault) → GoesOn old new (ins got) → length got ≡ asked version place got → frame_fault version place got ≡ body_fault (shape version kind) (drop 3 got)
    → ((m : Message) → kind_of m ≡ kind → Stands (shape version kind) (drop 3 got) (mark_of m) (numbers m) → IsTrue (fits version m) × IsTrue (allows place (kind_of m)) × (got ≡ spelling version m))
    → ReadsBody version kind (drop 3 got) r → Decodes version place old new before now got r
read_it version place old new before now got kind (Ok m) heard all fault spells read =
    let is = spells m read.0 read.1 in
    let said = whole_spelling version place got m is.0 is.1 read.2 is.2 in
    record {
      heard = subst (GoesOn old new) (sym (append-nil (ins got))) heard;
      answer = record { has_spelling = is.0; allowed = is.1; in_range = read.2; spelled = is.2; read = said };
      only = λ n range fit allowed e. let both = same_answer (m, []) (n, []) (sym said ∙ whole_spelling version place got n fit allowed range e) in ap (λ (x : Message × List ℕ). Ok x.0) both;
      short = λ front more e some. read_frame-short version place front more some (subst (λ (b : List ℕ). length b ≤ asked version place b) e (omega arith));
    }
read_it version place old new before now got kind (Err f) heard all fault spells read =
    bad version place old new before now got f heard (fault ∙ read) (of_body (shape version kind) (drop 3 got) f read) all

-- a head and its whole body
pub came_all : (version : Version) (place : Place) (old mid new : Option (List TalkEvent)) (before now : ℕ) (none head got : List ℕ) (kind : Kind) (len : ℕ) (r : Result Message WireFault) → none ≡ [] → Receives old mid none head 3 (Ok tt) → Head version place head kind len
    → Receives mid new head got (3 + len) (Ok tt) → IsBytes got → ReadsBody version kind (drop 3 got) r → Decodes version place old new before now got r
came_all version place old mid new before now none head got kind len r empty came is then bytes read =
    let total : length (head ++ then.more) ≡ 3 + len = ap length (sym then.longer) ∙ then.whole in
    let fault : frame_fault version place got ≡ body_fault (shape version kind) (drop 3 got) = ap (frame_fault version place) then.longer ∙ whole_fault version place head then.more kind len came.whole is total ∙ ap (λ (b : List ℕ). body_fault (shape version kind) (drop 3 b)) (sym then.longer) in
    let seen = same_head version place head then.more kind len came.whole is in
    let len_is : length got ≡ 3 + length_in got = then.whole ∙ ap (λ (n : ℕ). 3 + n) (sym seen.1 ∙ ap length_in (sym then.longer)) in
    let k : kind_at place (slice_index got 0) ≡ Some kind = ap (λ (b : List ℕ). kind_at place (slice_index b 0)) then.longer ∙ seen.0 in
    let heard = joined old mid new head got then.more [] (came_whole old mid none head 3 empty came) then.heard then.longer in
    read_it version place old new before now got kind r (subst (GoesOn old new) (append-nil (ins got)) heard) (then.whole ∙ sym (asked_for version place head got kind len then.more came.whole is then.longer)) fault
    (λ m same stands. spelled_back version place got kind m bytes len_is k is.allowed same stands) read

-- the body is as long as its kind has it
pub body_length : (version : Version) (place : Place) (mid new : Option (List TalkEvent)) (head got : List ℕ) (kind : Kind) (len : ℕ) → Head version place head kind len → Receives mid new head got (3 + len) (Ok tt) → IsTrue ((shape version kind).has_length (length got - 3))
body_length version place mid new head got kind len is then = let same : length got - 3 ≡ len = omega (arith, then.whole) in rw same is.has_length

-- a fault of bytes is no want of memory
pub no_want : (f : WireFault) → IsOfBytes f → f ≡ faults.OutOfMemory → ⊥
no_want f is e = subst IsOfBytes e is

-- and so is none that reading a body answers
pub no_want_of_body : (version : Version) (kind : Kind) (body : List ℕ) (m : Message) (r : Result Unit WireFault) → ReadsBody version kind body (filled m r) → r ≡ Err faults.OutOfMemory → ⊥
no_want_of_body version kind body m r read e =
    of_body (shape version kind) body faults.OutOfMemory (subst (λ (x : Result Unit WireFault). ReadsBody version kind body (filled m x)) e read)
