-- A made stream that is opened is short enough.
use Rattle.std.proofs.Common.{◌≡◌, ℕ, ◌≤◌, List, ap, refl, ◌∙◌, arith}
use Rattle.sip_words.specs.declared.command.Command.{Command}
use Rattle.sip_words.specs.declared.command.Command.TheVariants as command
use Rattle.sip_words.specs.declared.plan.Opening.{Opening}
use Rattle.sip_words.specs.declared.plan.Opening.TheVariants.{Nothing, Standard, Spared, Path, Made}
use Rattle.sip_words.specs.declared.plan.PortPlan.{PortPlan}
use Rattle.sip_words.specs.declared.stream.Stream.{Stream}
use Rattle.sip_words.specs.declared.stream.Stream.TheVariants as stream
use Rattle.sip_words.specs.Plan.{Opens, OpensUnkept, help_ports, opening_of, source_ports, stored_opening}
use Rattle.sip_words.specs.Shapes.{IsStreamWord}
use Rattle.sip_words.specs.Words.{word}
use Rattle.sip_stream.specs.declared.form.Form.{Form}
use Rattle.sip_stream.specs.declared.form.Form.TheVariants.{Binary, Text, Wide}
use Rattle.sip_stream.specs.Made.{most_made}

-- how many records an opening has
abbrev pub count_of : Opening → ℕ
count_of Nothing = 0
count_of Standard = 0
count_of Spared = 0
count_of (Path _ _) = 0
count_of (Made _ count _) = count

-- the stream of a word is short enough
pub stream_counted : (s : Stream) (w : List ℕ) (depth : ℕ) → IsStreamWord s w → count_of (opening_of s depth) ≤ most_made
stream_counted (stream.Made number count) w depth (low, few, is) = few
stream_counted stream.Text w depth is = omega arith
stream_counted stream.Wide w depth is = omega arith
stream_counted stream.File w depth is = omega arith

-- so is the source of a copy
source_counted : (words : List (List ℕ)) (s : Stream) (depth : ℕ) (plan : PortPlan) → IsStreamWord s (word words 1) → plan ≡ source_ports (opening_of s depth) → count_of plan.first ≤ most_made
source_counted words s depth plan names is =
    let same : count_of plan.first ≡ count_of (opening_of s depth) = ap (λ (p : PortPlan). count_of p.first) is in
    let few = stream_counted s (word words 1) depth names in
    omega arith

-- so is that of a run whose talk is not kept
unkept_counted : (words : List (List ℕ)) (depth : ℕ) (plan : PortPlan) → OpensUnkept words depth plan → count_of plan.first ≤ most_made
unkept_counted words depth plan (s, names, is) =
    let same : count_of plan.first ≡ count_of (opening_of s depth) = ap (λ (p : PortPlan). count_of p.first) is in
    let few = stream_counted s (word words 1) depth names in
    omega arith

-- nothing is opened first for a helper
help_counted : (plan : PortPlan) → plan ≡ help_ports → count_of plan.first ≤ most_made
help_counted plan is =
    let same : count_of plan.first ≡ 0 = ap (λ (p : PortPlan). count_of p.first) is in omega arith

-- a file has none
stored_counted : (form : Form) → count_of (stored_opening form) ≡ 0
stored_counted Binary = refl
stored_counted Text = refl
stored_counted Wide = refl

-- so is the first port of a command
pub first_counted : (words : List (List ℕ)) (c : Command) (plan : PortPlan) → Opens words c plan → count_of plan.first ≤ most_made
first_counted words (command.Verify task) plan (s, names, keep, record_is, is) =
    let same : count_of plan.first ≡ count_of (opening_of s task.depth) = ap (λ (p : PortPlan). count_of p.first) is in
    let few = stream_counted s (word words 1) task.depth names in
    omega arith
first_counted words command.Help plan is = help_counted plan is
first_counted words (command.Audit form) plan is =
    let same : count_of plan.first ≡ 0 = ap (λ (p : PortPlan). count_of p.first) is ∙ stored_counted form in omega arith
first_counted words command.Show plan is =
    let same : count_of plan.first ≡ 0 = ap (λ (p : PortPlan). count_of p.first) is in omega arith
first_counted words command.Convert plan is =
    let same : count_of plan.first ≡ 0 = ap (λ (p : PortPlan). count_of p.first) is in omega arith
first_counted words (command.Gen depth) plan (number, count, low, few, one, two, is) =
    let same : count_of plan.first ≡ count = ap (λ (p : PortPlan). count_of p.first) is in omega arith
first_counted words (command.Lines form depth) plan (s, names, is) = source_counted words s depth plan names is
first_counted words (command.Widen form depth) plan (s, names, is) = source_counted words s depth plan names is
first_counted words (command.Play task name) plan (s, names, keep, record_is, is) =
    let same : count_of plan.first ≡ count_of (opening_of s task.depth) = ap (λ (p : PortPlan). count_of p.first) is in
    let few = stream_counted s (word words 1) task.depth names in
    omega arith
first_counted words (command.Lookup task) plan opens = unkept_counted words task.depth plan opens
first_counted words command.HelpLook plan is = help_counted plan is
first_counted words (command.Moments task) plan opens = unkept_counted words task.depth plan opens
first_counted words command.HelpMoments plan is = help_counted plan is
first_counted words (command.Panel task names) plan (s, named, is) =
    let same : count_of plan.first ≡ count_of (opening_of s task.depth) = ap (λ (p : PortPlan). count_of p.first) is in
    let few = stream_counted s (word words 1) task.depth named in
    omega arith
first_counted words (command.Serve form) plan (from, from_is, to, to_is, is) =
    let same : count_of plan.first ≡ 0 = ap (λ (p : PortPlan). count_of p.first) is ∙ stored_counted form in omega arith

pub opens_counted : (words : List (List ℕ)) (c : Command) (plan : PortPlan) → Opens words c plan → (number count depth : ℕ) → plan.first ≡ Made number count depth → count ≤ most_made
opens_counted words c plan opens number count depth is =
    let same : count_of plan.first ≡ count = ap count_of is in
    let few = first_counted words c plan opens in
    omega arith
