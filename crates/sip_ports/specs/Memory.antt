-- What is seen of the ports over memory.
use Rattle.std.specs.Prelude.{◌≡◌, [], ℕ, Bool, false, List, drop, option_map}
use Rattle.std.specs.Option.{option_or}
use Rattle.std.specs.declared.option.Option.{Option}
use Rattle.sip_ports.specs.Calls.{failed_of, next_fails}
use Rattle.sip_ports.specs.declared.memory.MemorySource.{MemorySource}
use Rattle.sip_ports.specs.declared.memory.MemorySink.{MemorySink}
use Rattle.sip_ports.specs.declared.memory.MemoryLink.{MemoryLink}
use Rattle.sip_ports.specs.declared.memory_desk.MemoryDesk.{MemoryDesk}
use Rattle.sip_ports.specs.declared.port.TalkEvent.{TalkEvent}

-- the bytes to come
abbrev pub source_left : MemorySource → List ℕ
source_left source = drop source.at source.bytes.items

abbrev pub source_chunk : MemorySource → ℕ
source_chunk source = source.chunk

-- the numbers of the calls that fail
abbrev pub source_fails : MemorySource → List ℕ
source_fails source = source.calls.fails.items

-- how many calls were made
abbrev pub source_calls : MemorySource → ℕ
source_calls source = source.calls.made

abbrev pub sink_bytes : MemorySink → List ℕ
sink_bytes sink = sink.bytes.items

abbrev pub sink_chunk : MemorySink → ℕ
sink_chunk sink = sink.chunk

abbrev pub sink_fails : MemorySink → List ℕ
sink_fails sink = sink.calls.fails.items

abbrev pub sink_calls : MemorySink → ℕ
sink_calls sink = sink.calls.made

-- the bytes that are still to be received
abbrev pub link_incoming : MemoryLink → List ℕ
link_incoming link = drop link.at link.incoming.items

abbrev pub link_talk : MemoryLink → List TalkEvent
link_talk link = link.talk.items

abbrev pub link_chunk : MemoryLink → ℕ
link_chunk link = link.chunk

abbrev pub link_fails : MemoryLink → List ℕ
link_fails link = link.calls.fails.items

abbrev pub link_calls : MemoryLink → ℕ
link_calls link = link.calls.made

-- the next call is to fail
abbrev pub source_next_fails : MemorySource → Bool
source_next_fails source = next_fails source.calls.fails.items source.calls.made

-- how many of those calls failed
abbrev pub source_faults : MemorySource → ℕ
source_faults source = failed_of source.calls.fails.items source.calls.made

-- how often memory was refused to it
abbrev pub sink_wants : MemorySink → ℕ
sink_wants sink = sink.wants.count

-- the next call is to fail
abbrev pub sink_next_fails : MemorySink → Bool
sink_next_fails sink = next_fails sink.calls.fails.items sink.calls.made

-- how many of those calls failed
abbrev pub sink_faults : MemorySink → ℕ
sink_faults sink = failed_of sink.calls.fails.items sink.calls.made

-- how often memory was refused to it
abbrev pub link_wants : MemoryLink → ℕ
link_wants link = link.wants.count

-- the next call is to fail
abbrev pub link_next_fails : MemoryLink → Bool
link_next_fails link = next_fails link.calls.fails.items link.calls.made

-- how many of those calls failed
abbrev pub link_faults : MemoryLink → ℕ
link_faults link = failed_of link.calls.fails.items link.calls.made

-- no call is to fail
abbrev pub source_is_sure : MemorySource → Type 0
source_is_sure source = source.calls.fails.items ≡ []

-- no call is to fail
abbrev pub sink_is_sure : MemorySink → Type 0
sink_is_sure sink = sink.calls.fails.items ≡ []

-- no call is to fail
abbrev pub link_is_sure : MemoryLink → Type 0
link_is_sure link = link.calls.fails.items ≡ []

-- the desk's link, whose talk is that of the desk
abbrev pub desk_link : MemoryDesk → MemoryLink
desk_link desk = desk.link

abbrev pub desk_incoming : MemoryDesk → List ℕ
desk_incoming desk = link_incoming desk.link

abbrev pub desk_talk : MemoryDesk → List TalkEvent
desk_talk desk = link_talk desk.link

abbrev pub desk_chunk : MemoryDesk → ℕ
desk_chunk desk = link_chunk desk.link

abbrev pub desk_fails : MemoryDesk → List ℕ
desk_fails desk = link_fails desk.link

abbrev pub desk_calls : MemoryDesk → ℕ
desk_calls desk = link_calls desk.link

abbrev pub desk_next_fails : MemoryDesk → Bool
desk_next_fails desk = link_next_fails desk.link

abbrev pub desk_faults : MemoryDesk → ℕ
desk_faults desk = link_faults desk.link

abbrev pub desk_wants : MemoryDesk → ℕ
desk_wants desk = link_wants desk.link

-- what the file had at first
abbrev pub desk_start : MemoryDesk → Option (List ℕ)
desk_start desk = option_map (λ bytes. bytes.items) desk.start

-- what the file has
abbrev pub desk_file : MemoryDesk → Option (List ℕ)
desk_file desk = option_map (λ bytes. bytes.items) (option_or desk.newer desk.start)

-- how many of its steps a replacement takes that is to fail
abbrev pub desk_stops : MemoryDesk → ℕ
desk_stops desk = desk.stops

-- another has the file
abbrev pub desk_is_taken : MemoryDesk → Bool
desk_is_taken desk = desk.is_taken

-- no call is to fail, and no other has the file
abbrev pub desk_is_sure : MemoryDesk → Type 0
desk_is_sure desk = link_is_sure desk.link × (desk.is_taken ≡ false)

-- which file it is, and how replacements fail, is as it was
pub record SameDesk (before now : MemoryDesk) : Type 0 where
  pub same_start : desk_start now ≡ desk_start before
  pub same_stops : desk_stops now ≡ desk_stops before
  pub same_taken : desk_is_taken now ≡ desk_is_taken before
